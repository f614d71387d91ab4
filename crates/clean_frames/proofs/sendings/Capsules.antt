-- The pieces of a cell's transmissions, and the capsules that they end.
use Rattle.clean_frames.proofs.Common.{◌≡◌, ℕ, zero, suc, ◌+◌, ◌-◌, ◌*◌, ◌/◌, ◌%◌, ◌<◌, ◌≤◌, ◌&&◌, ◌==◌, ⊎_elim, Bool, true, false, List}
use Rattle.clean_frames.proofs.Common.{[], ◌∷◌, ◌++◌, length, take, drop, replicate, refl, sym, ap, ◌∙◌, arith, nat_lt, nat_le, Option, M30}
use Rattle.clean_frames.proofs.Common.{Some, None, if◌then◌else◌, div-add-mod', take-add, lt-ltb, le-ltb, lt-leb, le-leb, cases_lt, ne_eqb}
use Rattle.clean_frames.proofs.Common.{and_from, flat_map-append, append-nil, length-take-le, take-take, take_at, take-append-le, mod_below}
use Rattle.clean_frames.proofs.Common.{div-mul-add, mod-mul-add, number, FillsCapsule, front_capsule, is_stated, octets, stated_bits, Piece}
use Rattle.clean_frames.proofs.Common.{piece, bodies, from_last_start, but_last, capsule_ending, whole-capsule, CheckForm, sync_body, run}
use Rattle.clean_frames.proofs.Common.{sync_capsule, SyncFields, length-body, message_of, padded_sending, superframes_a_sending, CellPlan}
use Rattle.clean_frames.proofs.Common.{sync_frame_bits, length-sending, length-sync, length-append, first_starts, length-run, none_starts}
use Rattle.clean_frames.proofs.Common.{run-append, run-push, started_after}

-- ---- the end of a message
-- what it gives where its size is known
abbrev decided : List Bool → ℕ → ℕ → Option (List Bool)
decided bits n size =
    if nat_le size n then None
    else (if (nat_le 8 (length bits) && nat_le 40 size && nat_le size 1184) &&
    nat_le size (length bits) then Some (take size bits) else None)

abbrev ending_of : List Piece → Option (List Bool)
ending_of message =
    if nat_le (stated_bits (bodies message)) (length (bodies (but_last message))) then None
    else front_capsule (bodies message)

ending_is : (pieces : List Piece) → capsule_ending pieces ≡ ending_of (from_last_start pieces)
unfolding capsule_ending
ending_is pieces = refl

front_is : (bits : List Bool) (size : ℕ) → stated_bits bits ≡ size → front_capsule bits ≡
    (if (nat_le 8 (length bits) && nat_le 40 size && nat_le size 1184) &&
    nat_le size (length bits) then Some (take size bits) else None)
unfolding front_capsule is_stated
front_is bits size e = rw e refl

sized : (bits : List Bool) (n size : ℕ) → stated_bits bits ≡ size →
    (if nat_le (stated_bits bits) n then None else front_capsule bits) ≡ decided bits n size
sized bits n size e = rw (front_is bits size e, e) refl

-- a whole or a part of a transmission
part : (p c : List Bool) (w size : ℕ) → 40 ≤ size → size ≤ 1184 → 31 * (w + 1) ≤ length p → take size p ≡ c →
    decided (take (31 * (w + 1)) p) (31 * w) size ≡
    (if nat_lt (31 * w) size && nat_le size (31 * (w + 1)) then Some c else None)
part p c w size least most room is = ⊎_elim
    (λ (more : 31 * w < size).
    let a = lt-leb size (31 * w) more in
    let b = lt-ltb (31 * w) size more in
    let long : length (take (31 * (w + 1)) p) ≡ 31 * (w + 1) = length-take-le (31 * (w + 1)) p room in
    let lawful : (nat_le 8 (31 * (w + 1)) && nat_le 40 size && nat_le size 1184) ≡ true =
    and_from (nat_le 8 (31 * (w + 1)) && nat_le 40 size) (nat_le size 1184)
    (and_from (nat_le 8 (31 * (w + 1))) (nat_le 40 size) (le-leb 8 (31 * (w + 1)) (omega arith))
    (le-leb 40 size least)) (le-leb size 1184 most) in
    ⊎_elim
    (λ (out : 31 * (w + 1) < size). let c' = lt-leb size (31 * (w + 1)) out in
    rw (a, b, long, lawful, c') refl)
    (λ (inside : size ≤ 31 * (w + 1)).
    let c' = le-leb size (31 * (w + 1)) inside in
    rw (a, b, long, lawful, c') (ap Some (take-take size (31 * (w + 1)) p inside ∙ is)))
    (cases_lt (31 * (w + 1)) size))
    (λ (less : size ≤ 31 * w).
    let a = le-leb size (31 * w) less in
    let b = le-ltb (31 * w) size less in
    rw (a, b) refl)
    (cases_lt (31 * w) size)

but_last_run : (f : ℕ → Piece) (at w : ℕ) → but_last (run f at (suc w)) ≡ run f at w
but_last_run f at w =
    let size : length (run f at (suc w)) - 1 ≡ w = omega (arith, length-run f at (suc w)) in
    ap (λ (k : ℕ). take k (run f at (suc w))) size ∙ ap (take w) (sym (run-push f at w)) ∙
    take_at (run f at w) (f (at + w) ∷ []) w (length-run f at w)

-- what is filled in leaves the length of the body, and so a capsule
fills_same : (one other : List Bool) → length one ≡ length other → FillsCapsule M30 one → FillsCapsule M30 other
fills_same one other e fills =
    let same : octets M30 one ≡ octets M30 other = ap (λ (n : ℕ). (8 + n + 30) / 8) e in
    record {
      whole = omega (arith, same, e, fills.whole);
      least = omega (arith, same, fills.least);
      most = omega (arith, same, fills.most);
    }

-- the length that a capsule states
capsule_states : (form : CheckForm) (m : SyncFields) → FillsCapsule M30 (sync_body m) →
    stated_bits (sync_capsule form m) ≡ length (sync_capsule form m)
unfolding sync_capsule
capsule_states form m fills = sym (whole-capsule M30 form (sync_body m) fills).all

-- ---- a transmission
module _ (plan : CellPlan) (m : SyncFields) where
  -- the frames of a transmission
  abbrev pub sending_frames : ℕ
  sending_frames = 3 * superframes_a_sending plan.cell m

  -- the piece of a file's frame j, where its first frame is the cell's frame `base`
  abbrev pub piece_of : ℕ → ℕ → Piece
  piece_of base j = piece (sync_frame_bits plan.cell m (base + j))

  frame_bits : (frame : ℕ) → sync_frame_bits plan.cell m frame ≡ (frame % sending_frames == 0)
      ∷ take 31 (drop (31 * (frame % sending_frames)) (padded_sending plan.cell m (frame / sending_frames)))
  unfolding sync_frame_bits
  frame_bits frame = refl

  -- frame w of transmission q
  frame_piece : (base j q w : ℕ) → base + j ≡ q * sending_frames + w → w < sending_frames →
      piece_of base j ≡ record { starts = w == 0; body = take 31 (drop (31 * w) (padded_sending plan.cell m q)) }
  frame_piece base j q w at low =
      let f = sending_frames in
      let quotient : (base + j) / f ≡ q = ap (λ (n : ℕ). n / f) at ∙ div-mul-add q f w low in
      let rest : (base + j) % f ≡ w = ap (λ (n : ℕ). n % f) at ∙ mod-mul-add q f w low in
      ap piece (frame_bits (base + j))
      ∙ ap (λ (x : ℕ). let p : Piece = record {
        starts = x == 0;
        body = take 31 (drop (31 * x) (padded_sending plan.cell m ((base + j) / f)));
      } in p) rest
      ∙ ap (λ (x : ℕ). let p : Piece = record {
        starts = w == 0;
        body = take 31 (drop (31 * w) (padded_sending plan.cell m x));
      } in p) quotient

  -- the bits of the first n frames of a transmission
  bodies_are : (base at q n : ℕ) → base + at ≡ q * sending_frames → n ≤ sending_frames →
      bodies (run (piece_of base) at n) ≡ take (31 * n) (padded_sending plan.cell m q)
  bodies_are base at q zero begins low = refl
  bodies_are base at q (suc n) begins low =
      let here = frame_piece base (at + n) q n (omega (arith, begins)) (omega (arith, low)) in
      let place : 31 * n + 31 ≡ 31 * suc n = omega arith in
      ap bodies (sym (run-push (piece_of base) at n))
      ∙ flat_map-append (λ (p : Piece). p.body) (run (piece_of base) at n) (piece_of base (at + n) ∷ [])
      ∙ ap (λ (r : List Bool). bodies (run (piece_of base) at n) ++ r)
      (append-nil (piece_of base (at + n)).body ∙ ap (λ (p : Piece). p.body) here)
      ∙ ap (λ (r : List Bool). r ++ take 31 (drop (31 * n) (padded_sending plan.cell m q)))
      (bodies_are base at q n begins (omega (arith, low)))
      ∙ sym (take-add (31 * n) 31 (padded_sending plan.cell m q)) ∙
      ap (λ (k : ℕ). take k (padded_sending plan.cell m q)) place

  length-sent : (q : ℕ) → length (sync_body m) ≡ length (sync_body (message_of plan.cell m q))
  unfolding message_of
  length-sent q = length-body m ∙ sym (length-body (message_of plan.cell m q))

  -- The first bits of a transmission, eight or more, state the length of its capsule: the length
  -- field is the first eight of them, and what is filled into the message for each transmission has
  -- the same number of bits every time.
  stated : (q n : ℕ) → FillsCapsule M30 (sync_body m) → 8 ≤ n →
      stated_bits (take n (padded_sending plan.cell m q)) ≡ length (sync_capsule plan.cell.check30 m)
  stated q n fills enough =
      let c = sync_capsule plan.cell.check30 (message_of plan.cell m q) in
      let long : 8 ≤ length c = omega (arith, length-sync plan.cell.check30 (message_of plan.cell m q)) in
      let first : take 8 (take n (padded_sending plan.cell m q)) ≡ take 8 c =
      take-take 8 n (padded_sending plan.cell m q) enough ∙
      take-append-le 8 c (replicate 93 false) long in
      ap (λ (bs : List Bool). 8 * number bs) first
      ∙ capsule_states plan.cell.check30 (message_of plan.cell m q)
      (fills_same (sync_body m) (sync_body (message_of plan.cell m q)) (length-sent q) fills)
      ∙ length-sending plan.cell m q

  whole_capsule : (q : ℕ) → take (length (sync_capsule plan.cell.check30 m)) (padded_sending plan.cell m q) ≡
      sync_capsule plan.cell.check30 (message_of plan.cell m q)
  whole_capsule q =
      take_at (sync_capsule plan.cell.check30 (message_of plan.cell m q)) (replicate 93 false)
      (length (sync_capsule plan.cell.check30 m)) (length-sending plan.cell m q)

  pub length-padded_sending : (q : ℕ) →
      length (padded_sending plan.cell m q) ≡ length (sync_capsule plan.cell.check30 m) + 93
  length-padded_sending q =
      omega (
        arith,
        length-append (sync_capsule plan.cell.check30 (message_of plan.cell m q))
            (replicate 93 false),
        length-sending plan.cell m q,
      )

  -- ---- the pieces of frames 0 to k, the last of which is frame w of transmission q
  pub record IsSentAt (base k q w : ℕ) : Type 0 where
    pub parts : base + k ≡ q * sending_frames + w
    pub low : w < sending_frames

  pub is_at : (base k : ℕ) → IsSentAt base k ((base + k) / sending_frames) ((base + k) % sending_frames)
  is_at base k =
      let f = sending_frames in
      let some : 0 < f = omega (arith, length-sync plan.cell.check30 m) in
      record { parts = sym (div-add-mod' (base + k) f); low = mod_below (base + k) f some }

  -- where the transmission began before the file, none of the pieces starts a message
  pub not_begun : (base k q w : ℕ) → IsSentAt base k q w → k < w → from_last_start (run (piece_of base) 0 (suc k)) ≡ []
  not_begun base k q w is before =
      none_starts (piece_of base) 0 (suc k) (λ i lt.
      let r = w - (k - i) in
      let here =
      frame_piece base (0 + i) q r (omega (arith, is.parts, lt, before)) (omega (arith, is.low, lt, before)) in
      ap (λ (p : Piece). p.starts) here ∙ ne_eqb r 0 (λ e. omega (arith, e, lt, before)))

  -- otherwise the open message has the transmission's pieces
  pub begun : (base k q w : ℕ) → IsSentAt base k q w → w ≤ k →
      from_last_start (run (piece_of base) 0 (suc k)) ≡ run (piece_of base) (k - w) (suc w)
  begun base k q w is after =
      let at = k - w in
      let f = piece_of base in
      let begins : base + at ≡ q * sending_frames = omega (arith, is.parts, after) in
      let message = run f at (suc w) in
      let start : (f at).starts ≡ true =
      ap (λ (p : Piece). p.starts) (frame_piece base at q 0 (omega (arith, begins)) (omega (arith, is.low))) in
      let kept : from_last_start message ≡ message =
      first_starts f at w start
      (λ i up lt. ap (λ (p : Piece). p.starts)
      (frame_piece base (at + i) q i (omega (arith, begins)) (omega (arith, lt, is.low))) ∙
      ne_eqb i 0 (λ e. omega (arith, e, up))) in
      let cut : run f 0 (suc k) ≡ run f 0 at ++ message =
      ap (run f 0) (let e : suc k ≡ at + suc w = omega (arith, after) in e)
      ∙ run-append f 0 at (suc w) ∙
      ap (λ (n : ℕ). run f 0 at ++ run f n (suc w)) (let e : 0 + at ≡ at = omega arith in e) in
      ap from_last_start cut ∙
      started_after (run f 0 at) message kept (omega (arith, length-run f at (suc w)))

  -- the capsule that ends there, where there is one
  abbrev pub sent_capsule : ℕ → ℕ → ℕ → Option (List Bool)
  sent_capsule k q w =
      let size = length (sync_capsule plan.cell.check30 m) in
      if nat_le w k && nat_lt (31 * w) size && nat_le size (31 * (w + 1))
      then Some (sync_capsule plan.cell.check30 (message_of plan.cell m q)) else None

  -- A frame ends its transmission's capsule where the capsule's last bit is in it. A transmission
  -- that began before frame 0 has nothing open. Of any other the bits since its start are the first
  -- of the message's, 31 for each frame, and the length that they state tells where the capsule ends.
  pub pieces_end : (base k q w : ℕ) → FillsCapsule M30 (sync_body m) → IsSentAt base k q w →
      capsule_ending (run (piece_of base) 0 (suc k)) ≡ sent_capsule k q w
  pieces_end base k q w fills is =
      let own = length-sync plan.cell.check30 m in
      let size = length (sync_capsule plan.cell.check30 m) in
      let f = piece_of base in
      let room : 31 * (w + 1) ≤ length (padded_sending plan.cell m q) =
      omega (arith, is.low, length-padded_sending q) in
      ⊎_elim
      (λ (before : k < w).
      let out = lt-leb w k before in
      ending_is (run f 0 (suc k)) ∙ ap ending_of (not_begun base k q w is before) ∙ rw out refl)
      (λ (after : w ≤ k).
      let at = k - w in
      let begins : base + at ≡ q * sending_frames = omega (arith, is.parts, after) in
      let message = run f at (suc w) in
      let bits : bodies message ≡ take (31 * (w + 1)) (padded_sending plan.cell m q) =
      bodies_are base at q (suc w) begins (omega (arith, is.low)) ∙
      ap (λ (n : ℕ). take n (padded_sending plan.cell m q)) (let e : 31 * suc w ≡ 31 * (w + 1) = omega arith in e) in
      let earlier : length (bodies (but_last message)) ≡ 31 * w =
      ap (λ (l : List Piece). length (bodies l)) (but_last_run f at w)
      ∙ ap length (bodies_are base at q w begins (omega (arith, is.low))) ∙
      length-take-le (31 * w) (padded_sending plan.cell m q) (omega (arith, room)) in
      let in_time = le-leb w k after in
      ending_is (run f 0 (suc k))
      ∙ ap ending_of (begun base k q w is after)
      ∙ ap (λ (n : ℕ). if nat_le (stated_bits (bodies message)) n then None
      else front_capsule (bodies message)) earlier
      ∙ ap (λ (bs : List Bool). if nat_le (stated_bits bs) (31 * w) then None else front_capsule bs)
      bits
      ∙ sized (take (31 * (w + 1)) (padded_sending plan.cell m q)) (31 * w) size
      (stated q (31 * (w + 1)) fills (omega arith))
      ∙ part (padded_sending plan.cell m q) (sync_capsule plan.cell.check30 (message_of plan.cell m q)) w size
      (omega (arith, fills.least, fills.whole, own)) (omega (arith, fills.most, fills.whole, own))
      room (whole_capsule q)
      ∙ rw in_time refl)
      (cases_lt k w)
