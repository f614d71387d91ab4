-- The mark lies after the samples within which its message is known, so a channel that begins
-- there hasn't begun.
use Rattle.heard_events.proofs.Common.{length-best_codeword, reading_is_message, from_last_start, sync_capsule_at, capsule_ending, flat_map}
use Rattle.heard_events.proofs.Common.{frame_own_bits, SpelledMessage, length-append, if◌then◌else◌, front_capsule, best_codeword, leb-true}
use Rattle.heard_events.proofs.Common.{frames_before, known_between, with_message, sync_reading, fixed_fields, length-take, length-drop, []}
use Rattle.heard_events.proofs.Common.{stated_bits, frames_open, frame_softs, frame_start, span_frames, sync_stream, ends_bounds, and_parts}
use Rattle.heard_events.proofs.Common.{cases_Bool, SyncFields, is_in_file, span_first, stream_end, leb-false, CheckForm, is_stated, sending}
use Rattle.heard_events.proofs.Common.{FieldsFit, fixed_fit, cond_both, cond_some, none-some, own_bits, but_last, Codeword, first_of, false}
use Rattle.heard_events.proofs.Common.{marks_at, marks_of, known_at, heard_at, heard_in, All-tail, All-take, mark_at, AreNear, IsTimed, ◌≡◌}
use Rattle.heard_events.proofs.Common.{All-map, All-nil, length, nat_le, nat_lt, Option, places, Sample, within, bodies, Stream, Tuning, ap}
use Rattle.heard_events.proofs.Common.{get_or, subst, arith, score, Piece, piece, ◌==◌, ◌&&◌, Bool, true, cond, List, take, drop, refl, ◌+◌}
use Rattle.heard_events.proofs.Common.{Some, None, Sync, Free, Mark, ◌-◌, ◌*◌, ◌/◌, ◌<◌, ◌≤◌, ◌∷◌, map, sym, inl, inr, ◌^◌, All, ℕ, ℤ}
use Rattle.std.specs.List.{filter}
use Rattle.frame_decoder.specs.Spans.{Channel}
use Rattle.rake_finger.proofs.Spans.{own_below}

-- THE BITS OF A FRAME
length-own_bits : (c : Channel) (frames own : ℕ) (softs : List ℤ) → own < frames →
    length (own_bits c frames own softs) ≡ c.bits
length-own_bits c frames own softs below =
    let f : Codeword → ℤ = score softs (sending c frames) in
    let codeword = (best_codeword f Free (c.bits * frames)).bits in
    omega (
      arith,
      length-take c.bits (drop (c.bits * own) codeword),
      length-drop (c.bits * own) codeword,
      length-best_codeword f (c.bits * frames),
      within c.bits frames own below,
    )

pub length-frame_own_bits : (count : ℕ) (samples : List Sample) (s : Stream) (k : ℕ) →
    length (frame_own_bits count samples s k) ≡ s.channel.bits
unfolding frame_own_bits
length-frame_own_bits count samples s k =
    let first = span_first count s k in
    let frames = span_frames count s k in
    length-own_bits s.channel frames (k - first)
    (flat_map (λ j. frame_softs samples s (first + j)) (places frames)) (own_below count s k)

-- PIECES OF THE SYNC CHANNEL
-- each has 31 bits
abbrev IsWhole : Piece → Type 0
IsWhole p = length p.body ≡ 31

body_whole : (bits : List Bool) → length bits ≡ 32 → IsWhole (piece bits)
body_whole [] h = absurd (omega (arith, h))
body_whole (b ∷ bits) h = omega (arith, h)

latest_all : (P : Piece → Type 0) (pieces : List Piece) → All P pieces → All P (from_last_start pieces)
latest_all P [] h = h
latest_all P (p ∷ pieces) h =
    let later = from_last_start pieces in
    cond_both (nat_lt 0 (length later)) later (cond p.starts (p ∷ pieces) []) (All P)
    (λ _. latest_all P pieces (All-tail P p pieces h))
    (λ _. cond_both p.starts (p ∷ pieces) [] (All P) (λ _. h) (λ _. All-nil P))

bodies_long : (pieces : List Piece) → All IsWhole pieces → length (bodies pieces) ≡ 31 * length pieces
bodies_long [] h = refl
bodies_long (p ∷ pieces) h =
    let one : length p.body ≡ 31 = h 0 p (omega arith) in
    let rest = bodies_long pieces (All-tail IsWhole p pieces h) in
    omega (arith, one, rest, length-append p.body (bodies pieces))

-- THE CAPSULE ENDS IN ITS LAST FRAME
-- A capsule that a frame ends is longer than the bits before that frame: it is as long as it
-- states, and where that were no more it would have ended before.
ends_late : (bits : List Bool) (before : ℕ) (capsule : List Bool) →
    (if nat_le (stated_bits bits) before then None else front_capsule bits) ≡ Some capsule → before < length capsule
unfolding front_capsule
ends_late bits before capsule e =
    let size : ℕ = stated_bits bits in
    let all = nat_le size (length bits) in
    elim (cases_Bool (nat_le size before)) [
      | inl early ↦ absurd (none-some capsule (rw early at e))
      | inr late ↦
          let front = cond_some (is_stated bits && all) (take size bits) capsule (rw late at e) in
          let fits = leb-true size (length bits) (and_parts (is_stated bits) all front.0).1 in
          let long : length (take size bits) ≡ length capsule = ap length front.1 in
          omega (arith, length-take size bits, long, leb-false size before late, fits)
    ]

-- The frames of a message but its last carry fewer bits than the capsule that ends with it: each
-- carries 31, and the capsule's last bit comes after all of them.
frames_few : (t : Tuning) (samples : List Sample) (k : ℕ) (capsule : List Bool) →
    sync_capsule_at t samples k ≡ Some capsule → 31 * (frames_open t samples (k + 1) - 1) < length capsule
unfolding sync_capsule_at frames_open frames_before capsule_ending
frames_few t samples k capsule e =
    let s = sync_stream t in
    let own = frame_own_bits t.count samples s in
    let ks = filter (is_in_file t.count s) (places (k + 1)) in
    let message = from_last_start (map piece (map own ks)) in
    let each = λ (j : ℕ). body_whole (own j) (length-frame_own_bits t.count samples s j) in
    let whole = latest_all IsWhole (map piece (map own ks))
    (All-map IsWhole piece (map own ks)
    (All-map (λ (bits : List Bool). IsWhole (piece bits)) own ks (λ i d less. each (get_or ks i d)))) in
    let late = ends_late (bodies message) (length (bodies (but_last message))) capsule e in
    let most = length-take (length message - 1) message in
    let bits = bodies_long (but_last message) (All-take IsWhole (length message - 1) message whole) in
    omega (arith, late, bits, most)

-- THE MARK OF A MESSAGE
picked : (b : Bool) (x m : Mark) → first_of (if b then [] else x ∷ []) ≡ Some m → x ≡ m
picked true x m e = absurd (cc)
picked false x m e = cc

marks_told : (first : ℕ) (told : Option SpelledMessage) (m : Mark) → first_of (marks_of first told) ≡ Some m →
    (heard : SpelledMessage) × ((told ≡ Some heard) × (mark_at first heard ≡ m))
marks_told first None m e = absurd (cc)
marks_told first (Some heard) m e = (heard, (refl, picked (heard.message.lc == 0) (mark_at first heard) m e))

pn_fits : (m : SyncFields) → FieldsFit (fixed_fields m) → m.pn ≤ 511
pn_fits m fits = let low : m.pn < 2 ^ 9 = fits.1.1.1.1.1.0 in omega (arith, low)

-- a message has its capsule, and its pilot one of the numbers that a message can tell
read_is : (form : CheckForm) (capsule : List Bool) (read : Option SyncFields) →
    read ≡ sync_reading form capsule → (heard : SpelledMessage) → with_message capsule read ≡ Some heard →
    (Some capsule ≡ Some heard.capsule) × (heard.message.pn ≤ 511)
read_is form capsule None is heard e = absurd (cc)
read_is form capsule (Some message) is heard e =
    let said = (reading_is_message form capsule message (sym is)).0 in
    let told : SpelledMessage = record { capsule = capsule; message = message } in
    let same : told ≡ heard = cc in
    subst (λ (x : SpelledMessage). (Some capsule ≡ Some x.capsule) × (x.message.pn ≤ 511)) same
    (refl, pn_fits message (fixed_fit message said))

told_is : (form : CheckForm) (c : Option (List Bool)) (heard : SpelledMessage) →
    heard_in form c ≡ Some heard → (c ≡ Some heard.capsule) × (heard.message.pn ≤ 511)
told_is form None heard e = absurd (cc)
told_is form (Some capsule) heard e = read_is form capsule _ refl heard e

-- a capsule's frames are at most three for each of its superframes, and the time that it tells lies
-- four superframes after these
late_enough : (first frames bits pn known : ℕ) → 31 * (frames - 1) < bits →
    known ≤ first + 32768 * frames + 32896 → pn ≤ 511 → known < first + 98304 * ((bits + 92) / 93 + 4) - 64 * pn
late_enough first frames bits pn known few most low =
    let some : bits ≤ 93 * ((bits + 92) / 93) = omega arith in
    let three : frames ≤ 3 * ((bits + 92) / 93) = omega (arith, some, few) in
    omega (arith, three, most, low)

module _ (t : Tuning) (samples : List Sample) (k low : ℕ) (near : AreNear (sync_stream t).fingers)
    (timed : IsTimed t.count (sync_stream t) low)
    (inside : is_in_file t.count (sync_stream t) k ≡ true) where
  known_most : (frames : ℕ) → known_at t.count (sync_stream t) k
      ≤ frame_start (sync_stream t) (k + 1 - frames) + 32768 * frames + 32896
  unfolding stream_end
  known_most frames =
      let s = sync_stream t in
      let high = (known_between s timed k inside).high in
      let ends = (ends_bounds Sync (frame_start s (k + 1)) s.fingers near).1 in
      omega (arith, high, ends)

  -- A mark lies after the samples within which its message is known: it is set four superframes
  -- after the message's last one, less at most 511 times 64 chips for the pilot's offset, and the
  -- last frame is known little more than a frame after it ends.
  pub mark_later : (m : Mark) → first_of (marks_at t samples k) ≡ Some m → known_at t.count (sync_stream t) k < m.sample
  unfolding marks_at heard_at
  mark_later m e =
      let s = sync_stream t in
      let frames : ℕ = frames_open t samples (k + 1) in
      let first : ℕ = frame_start s (k + 1 - frames) in
      let (heard, is) = marks_told first (heard_at t samples k) m e in
      let told = told_is t.check30 (sync_capsule_at t samples k) heard is.0 in
      let few = frames_few t samples k heard.capsule told.0 in
      let late = late_enough first frames (length heard.capsule) heard.message.pn
      (known_at t.count s k) few (known_most frames) told.1 in
      subst (λ (x : Mark). known_at t.count s k < x.sample) is.1 late
