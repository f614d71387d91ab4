-- One more bit of a stream of half-frames.
use Rattle.paging_message.proofs.Common.{◌≡◌, ℕ, zero, suc, ◌+◌, ◌-◌, ◌*◌, ◌/◌, ◌%◌, ◌<◌, ◌≤◌, ◌==◌, Bool, true, false, cond, List, [], ◌∷◌}
use Rattle.paging_message.proofs.Common.{◌++◌, length, map, take, drop, refl, sym, ap, ◌∙◌, arith, append_assoc, length-append, length-drop}
use Rattle.paging_message.proofs.Common.{nat_lt, nat_le, if◌then◌else◌, inl, inr, Option, Some, None, IsTrue, IsSome, ◌↔◌, cases_lt, eq-eqb}
use Rattle.paging_message.proofs.Common.{ne_eqb, append-nil, length-take-le, take-append-drop, take-append-le, drop-append-le, drop_at}
use Rattle.paging_message.proofs.Common.{take_all, div-mul-add, mod-mul-add, div-add-mod, mod_self, mul-add-mod_self_left, mul-le-mul_left}
use Rattle.paging_message.proofs.Common.{places, map-places-more, places-none, completed, continued, Piece, piece, bodies, from_last_start}
use Rattle.paging_message.proofs.Common.{bodies-more, extended, from_last_start_more, from_last_start_new, map_ext_places, mod-eq_of_lt}
use Rattle.paging_message.proofs.Chains.{ends_more, after, step, open_more, open_none, open_fuel}
use Rattle.paging_message.specs.HalfFrames as halves

-- HALF-FRAMES
abbrev pub part : ℕ → List Bool → ℕ → Piece
part size bits h = piece (take (size + 1) (drop ((size + 1) * h) bits))

-- a half-frame among whole ones, whatever follows
part_front : (size n h : ℕ) (front more : List Bool) → length front ≡ (size + 1) * n → h < n →
    part size (front ++ more) h ≡ part size front h
part_front size n h front more long lt =
    let far : (size + 1) * h + (size + 1) ≤ (size + 1) * n = grind (arith) in
    let cut : drop ((size + 1) * h) (front ++ more) ≡ drop ((size + 1) * h) front ++ more =
    drop-append-le ((size + 1) * h) front more (omega (arith, far, long)) in
    ap piece (ap (take (size + 1)) cut
    ∙ take-append-le (size + 1) (drop ((size + 1) * h) front) more
    (omega (arith, far, long, length-drop ((size + 1) * h) front)))

pub halves_whole : (size n : ℕ) (front : List Bool) → length front ≡ (size + 1) * n →
    halves.half_frames size front ≡ map (part size front) (places n)
unfolding halves.half_frames
halves_whole size n front long =
    let turned : length front + size ≡ n * (size + 1) + size = omega (arith, long) in
    let count : (length front + size) / (size + 1) ≡ n = ap (λ (k : ℕ). k / (size + 1)) turned
    ∙ div-mul-add n (size + 1) size (omega arith) in
    ap (λ (k : ℕ). map (part size front) (places k)) count

-- Up to one half-frame of bits after n whole ones is one piece more: the count of the pieces is
-- rounded up to n + 1, the first n are cut from the same bits as before, and the last one is what
-- was added.
pub halves_more : (size n : ℕ) (front q : List Bool) → length front ≡ (size + 1) * n →
    0 < length q → length q ≤ size + 1 →
    halves.half_frames size (front ++ q) ≡ map (part size front) (places n) ++ piece q ∷ []
unfolding halves.half_frames
halves_more size n front q long some most =
    let turned : length (front ++ q) + size ≡ (n + 1) * (size + 1) + (length q - 1) =
    omega (arith, long, length-append front q, some) in
    let count : (length (front ++ q) + size) / (size + 1) ≡ n + 1 =
    ap (λ (k : ℕ). k / (size + 1)) turned
    ∙ div-mul-add (n + 1) (size + 1) (length q - 1) (omega (arith, most, some)) in
    let last : part size (front ++ q) n ≡ piece q =
    ap piece (ap (take (size + 1)) (drop_at front q ((size + 1) * n) long)
    ∙ take_all (size + 1) q most) in
    ap (λ (k : ℕ). map (part size (front ++ q)) (places k)) count
    ∙ map-places-more (part size (front ++ q)) n
    ∙ ap (λ (ps : List Piece). ps ++ part size (front ++ q) n ∷ [])
    (map_ext_places (part size (front ++ q)) (part size front) n (λ h lt. part_front size n h front q long lt))
    ∙ ap (λ (p : Piece). map (part size front) (places n) ++ p ∷ []) last

-- THE BITS OF THE MESSAGE
-- those before a half-frame's body: none yet where it starts a message
abbrev pub begun : Bool → List Piece → Option (List Bool)
begun true message = Some []
begun false [] = None
begun false (q ∷ message) = Some (bodies (q ∷ message))

abbrev pub grown : Option (List Bool) → List Bool → Option (List Bool)
grown None body = None
grown (Some bits) body = Some (bits ++ body)

abbrev pub open_of : ℕ → Option (List Bool) → Option (List Bool)
open_of size None = None
open_of size (Some bits) = halves.open_chain (suc (length bits)) size 0 bits

abbrev pub end_of : ℕ → Option (List Bool) → Option (List Bool)
end_of size None = None
end_of size (Some bits) = halves.ends_chain (length bits) size 0 bits

ends_none : (size : ℕ) → halves.ends_chain 0 size 0 [] ≡ None
unfolding halves.ends_chain
ends_none size = refl

bodies_if_any : List Piece → Option (List Bool)
bodies_if_any [] = None
bodies_if_any (p ∷ pieces) = Some (bodies (p ∷ pieces))

opened_told : (size : ℕ) (message : List Piece) → halves.opened size message ≡ open_of size (bodies_if_any message)
unfolding bodies_if_any
opened_told size [] = refl
opened_told size (p ∷ pieces) = refl

ended_told : (size : ℕ) (message : List Piece) →
    halves.ends_chain (length (bodies message)) size 0 (bodies message) ≡ end_of size (bodies_if_any message)
unfolding bodies_if_any
ended_told size [] = ends_none size
ended_told size (p ∷ pieces) = refl

told_extended : (message : List Piece) (body : List Bool) →
    bodies_if_any (extended message (record { starts = false; body = body })) ≡ grown (begun false message) body
unfolding bodies_if_any
told_extended [] body = refl
told_extended (q ∷ message) body = ap Some (bodies-more (q ∷ message) (record { starts = false; body = body }))

told_more : (pieces : List Piece) (starts : Bool) (body : List Bool) →
    bodies_if_any (from_last_start (pieces ++ record { starts = starts; body = body } ∷ []))
    ≡ grown (begun starts (from_last_start pieces)) body
unfolding bodies_if_any
told_more pieces true body = ap bodies_if_any (from_last_start_new pieces (record { starts = true; body = body }) refl)
    ∙ ap Some (append-nil body)
told_more pieces false body =
    ap bodies_if_any (from_last_start_more pieces (record { starts = false; body = body }) refl)
    ∙ told_extended (from_last_start pieces) body

-- how many bits those are
abbrev pub AreLong : ℕ → List Piece → Type 0
AreLong size [] = Unit {0}
AreLong size (p ∷ pieces) = (length p.body ≡ size) × AreLong size pieces

long-push : (size : ℕ) (pieces : List Piece) (p : Piece) → AreLong size pieces →
    length p.body ≡ size → AreLong size (pieces ++ p ∷ [])
long-push size [] p are long = (long, tt)
long-push size (q ∷ pieces) p are long = (are.0, long-push size pieces p are.1 long)

long_choice : (size : ℕ) (a b : Bool) (later own : List Piece) → AreLong size later →
    AreLong size own → AreLong size (cond a later (cond b own []))
long_choice size true b later own p q = p
long_choice size false true later own p q = q
long_choice size false false later own p q = tt

long_from : (size : ℕ) (pieces : List Piece) → AreLong size pieces → AreLong size (from_last_start pieces)
long_from size [] are = tt
long_from size (p ∷ pieces) are =
    long_choice size (nat_lt 0 (length (from_last_start pieces))) p.starts (from_last_start pieces)
    (p ∷ pieces) (long_from size pieces are.1) are

length-bodies : (size : ℕ) (pieces : List Piece) → AreLong size pieces → length (bodies pieces) ≡ size * length pieces
length-bodies size [] are = omega arith
length-bodies size (p ∷ pieces) are =
    omega (arith, length-append p.body (bodies pieces), are.0, length-bodies size pieces are.1)

body_long : (size : ℕ) (xs : List Bool) → length xs ≡ size + 1 → length (piece xs).body ≡ size
body_long size [] long = absurd (omega (arith, long))
body_long size (x ∷ xs) long = omega (arith, long)

-- The first m of n whole half-frames are all full, by induction over m: half-frame m ends within
-- the bits, so an SCI bit and `size` bits after it can be taken there.
parts_long : (size n m : ℕ) (front : List Bool) → length front ≡ (size + 1) * n → m ≤ n →
    AreLong size (map (part size front) (places m))
parts_long size n zero front long le = rw places-none tt
parts_long size n (suc m) front long le =
    let e : suc m ≡ m + 1 = omega arith in
    let split : map (part size front) (places (suc m))
    ≡ map (part size front) (places m) ++ part size front m ∷ [] =
    ap (λ (k : ℕ). map (part size front) (places k)) e ∙ map-places-more (part size front) m in
    let far : (size + 1) * suc m ≤ (size + 1) * n = mul-le-mul_left (size + 1) le in
    let own : length (take (size + 1) (drop ((size + 1) * m) front)) ≡ size + 1 =
    length-take-le (size + 1) (drop ((size + 1) * m) front)
    (omega (arith, far, long, length-drop ((size + 1) * m) front)) in
    rw split (long-push size (map (part size front) (places m)) (part size front m)
    (parts_long size n m front long (omega (arith, le)))
    (body_long size (take (size + 1) (drop ((size + 1) * m) front)) own))

-- what is left of a half-frame
left_of : (size k r : ℕ) → 0 < r → r ≤ size → halves.bits_left size (size * k + r) ≡ size - r
unfolding halves.bits_left
left_of size k r some most =
    ap (λ (n : ℕ). (size - n) % size) (mul-add-mod_self_left size k r)
    ∙ elim (cases_lt r size) [
      | inl less ↦ ap (λ (n : ℕ). (size - n) % size) (mod-eq_of_lt less)
          ∙ mod-eq_of_lt (omega (arith, some, less))
      | inr whole ↦
          let same : r ≡ size = omega (arith, most, whole) in
          let none : r % size ≡ 0 = ap (λ (n : ℕ). n % size) same ∙ mod_self size in
          let all : size - 0 ≡ size = omega arith in
          let over : 0 ≡ size - r = omega (arith, same) in
          ap (λ (n : ℕ). (size - n) % size) none ∙ ap (λ (n : ℕ). n % size) all ∙ mod_self size
          ∙ over
    ]

-- ONE MORE BIT
-- an SCI bit
pub mark_opens : (size n : ℕ) (front : List Bool) (b : Bool) → length front ≡ (size + 1) * n →
    halves.half_under_way size (front ++ b ∷ []) ≡ cond b (Some []) (halves.half_under_way size front)
unfolding halves.half_under_way
mark_opens size n front b long =
    let ps = map (part size front) (places n) in
    ap (λ (l : List Piece). halves.opened size (from_last_start l))
    (halves_more size n front (b ∷ []) long (omega arith) (omega arith))
    ∙ opened_told size (from_last_start (ps ++ record { starts = b; body = [] } ∷ []))
    ∙ ap (open_of size) (told_more ps b [])
    ∙ begun_open b (from_last_start ps)
    ∙ ap (λ (l : List Piece). cond b (Some []) (halves.opened size (from_last_start l)))
    (sym (halves_whole size n front long))
  where
    begun_open : (b : Bool) (message : List Piece) →
        open_of size (grown (begun b message) []) ≡ cond b (Some []) (halves.opened size message)
    begun_open true message = open_none 0 size 0
    begun_open false [] = refl
    begun_open false (q ∷ message) =
        ap (λ (bits : List Bool). halves.open_chain (suc (length bits)) size 0 bits) (append-nil (bodies (q ∷ message)))

pub mark_ends : (size n : ℕ) (front : List Bool) (b : Bool) → 0 < size →
    length front ≡ (size + 1) * n → halves.half_frame_capsule_ending size (front ++ b ∷ []) ≡ None
unfolding halves.half_frame_capsule_ending
mark_ends size n front b large long =
    let turned : length (front ++ b ∷ []) ≡ n * (size + 1) + 1 = omega (arith, long, length-append front (b ∷ [])) in
    let first : length (front ++ b ∷ []) % (size + 1) == 1 ≡ true =
    eq-eqb (length (front ++ b ∷ []) % (size + 1)) 1 (ap (λ (k : ℕ). k % (size + 1)) turned
    ∙ mod-mul-add n (size + 1) 1 (omega (arith, large))) in
    rw first refl

-- what a half-frame under way says
way_of : (size n : ℕ) (front body : List Bool) (s : Bool) → length front ≡ (size + 1) * n → length body ≤ size →
    halves.half_under_way size (front ++ s ∷ body)
    ≡ open_of size (grown (begun s (from_last_start (map (part size front) (places n)))) body)
unfolding halves.half_under_way
way_of size n front body s long most =
    let ps = map (part size front) (places n) in
    ap (λ (l : List Piece). halves.opened size (from_last_start l))
    (halves_more size n front (s ∷ body) long (omega arith) (omega (arith, most)))
    ∙ opened_told size (from_last_start (ps ++ record { starts = s; body = body } ∷ []))
    ∙ ap (open_of size) (told_more ps s body)

-- What the last bit of a half-frame ends is told by the half-frames since the last one that starts
-- a capsule, grown by the bits of this one. The bits are n whole half-frames and this piece, and
-- since it has a bit after its SCI bit, the last bit is no SCI bit, which would end nothing.
end_at : (size n : ℕ) (front body : List Bool) (s : Bool) → 0 < length body →
    length front ≡ (size + 1) * n → length body ≤ size → halves.half_frame_capsule_ending size (front ++ s ∷ body)
    ≡ end_of size (grown (begun s (from_last_start (map (part size front) (places n)))) body)
unfolding halves.half_frame_capsule_ending
end_at size n front body s some long most =
    let ps = map (part size front) (places n) in
    let all = length-append front (s ∷ body) in
    let test : length (front ++ s ∷ body) % (size + 1) == 1 ≡ false =
    ne_eqb (length (front ++ s ∷ body) % (size + 1)) 1
    (not_first (length (front ++ s ∷ body)) (length body) (omega (arith, all, long)) some most) in
    rw test
    (ap (λ (l : List Piece). halves.ends_chain (length (bodies (from_last_start l))) size 0
    (bodies (from_last_start l)))
    (halves_more size n front (s ∷ body) long (omega arith) (omega (arith, most)))
    ∙ ended_told size (from_last_start (ps ++ record { starts = s; body = body } ∷ []))
    ∙ ap (end_of size) (told_more ps s body))
  where
    not_first : (count r : ℕ) → count ≡ n * (size + 1) + suc r → 0 < r → r ≤ size → count % (size + 1) ≡ 1 → ⊥
    not_first count r is some most one =
        elim (cases_lt r size) [
          | inl less ↦
              let own : count % (size + 1) ≡ suc r = ap (λ (k : ℕ). k % (size + 1)) is
              ∙ mod-mul-add n (size + 1) (suc r) (omega (arith, less)) in
              omega (arith, own, one, some)
          | inr whole ↦
              let turned : count ≡ suc n * (size + 1) + 0 = omega (arith, is, whole, most) in
              let none : count % (size + 1) ≡ 0 = ap (λ (k : ℕ). k % (size + 1)) turned
              ∙ mod-mul-add (suc n) (size + 1) 0 (omega arith) in
              omega (arith, none, one)
        ]

inside : (xs ys : List Bool) → Some xs ≡ Some ys → ys ≡ xs
inside xs ys e = cc

-- the bits before a half-frame's body are those of whole half-frames
begun_long : (size : ℕ) (s : Bool) (message : List Piece) (before : List Bool) →
    AreLong size message → begun s message ≡ Some before → (k : ℕ) × (length before ≡ size * k)
begun_long size true message before are is = (0, ap length (inside [] before is) ∙ omega arith)
begun_long size false [] before are is = absurd (cc)
begun_long size false (q ∷ message) before are is = (
  suc (length message),
  ap length (inside (bodies (q ∷ message)) before is)
      ∙ length-bodies size (q ∷ message) are,
)

-- One bit more of a half-frame's body ends the capsule that one step of the open capsule ends, and
-- leaves open what that step leaves open: the bits since the capsules' start and the body are one
-- chain, of which the bit is the next.
chain_more : (size left : ℕ) (x : Option (List Bool)) (body : List Bool) (b : Bool) →
    ((before : List Bool) → x ≡ Some before →
    halves.bits_left size (length before + suc (length body)) ≡ left) →
    (end_of size (grown x (body ++ b ∷ [])) ≡ completed (open_of size (grown x body)) (b ∷ []))
    × (open_of size (grown x (body ++ b ∷ []))
    ≡ after left (completed (open_of size (grown x body)) (b ∷ []))
    (continued (open_of size (grown x body)) (b ∷ [])))
chain_more size left None body b is = (refl, refl)
chain_more size left (Some before) body b is =
    let bits = before ++ body in
    let more = bits ++ b ∷ [] in
    let grouped : before ++ (body ++ b ∷ []) ≡ more = sym (append_assoc before body (b ∷ [])) in
    let long : length more ≡ suc (length bits) = omega (arith, length-append bits (b ∷ [])) in
    let own = halves.open_chain (suc (length bits)) size 0 bits in
    let place : halves.bits_left size (0 + length more) ≡ left =
    ap (halves.bits_left size) (omega (arith, long, length-append before body))
    ∙ is before refl in (
      ap (λ (xs : List Bool). halves.ends_chain (length xs) size 0 xs) grouped
          ∙ ap (λ (k : ℕ). halves.ends_chain k size 0 more) long
          ∙ ends_more (suc (length bits)) size 0 bits b,
      ap (λ (xs : List Bool). halves.open_chain (suc (length xs)) size 0 xs) grouped
          ∙ open_more (suc (length more)) size 0 bits b (omega arith)
          ∙ ap (λ (k : ℕ). step size (0 + length more) (halves.open_chain (suc k) size 0 bits) b) long
          ∙ ap (λ (o : Option (List Bool)). step size (0 + length more) o b)
          (open_fuel (suc (length bits)) size 0 bits (omega arith))
          ∙ ap (λ (k : ℕ). after k (completed own (b ∷ [])) (continued own (b ∷ []))) place,
    )

-- a body bit, with `left` bits of the half-frame after it
pub body_bit : (size n left : ℕ) (front body : List Bool) (s b : Bool) →
    length front ≡ (size + 1) * n → left + suc (length body) ≡ size →
    (halves.half_frame_capsule_ending size (front ++ s ∷ (body ++ b ∷ []))
    ≡ completed (halves.half_under_way size (front ++ s ∷ body)) (b ∷ []))
    × (halves.half_under_way size (front ++ s ∷ (body ++ b ∷ []))
    ≡ after left (completed (halves.half_under_way size (front ++ s ∷ body)) (b ∷ []))
    (continued (halves.half_under_way size (front ++ s ∷ body)) (b ∷ [])))
body_bit size n left front body s b long room =
    let ps = map (part size front) (places n) in
    let x = begun s (from_last_start ps) in
    let are = long_from size ps (parts_long size n n front long (omega arith)) in
    let now = length-append body (b ∷ []) in
    let before = way_of size n front body s long (omega (arith, room)) in
    let known = chain_more size left x body b
    (λ bits is.
    let k = begun_long size s (from_last_start ps) bits are is in
    ap (λ (m : ℕ). halves.bits_left size (m + suc (length body))) k.1
    ∙ left_of size k.0 (suc (length body)) (omega arith) (omega (arith, room))
    ∙ omega (arith, room)) in (
      end_at size n front (body ++ b ∷ []) s (omega (arith, now)) long (omega (arith, now, room))
          ∙ known.0 ∙ ap (λ (o : Option (List Bool)). completed o (b ∷ [])) (sym before),
      way_of size n front (body ++ b ∷ []) s long (omega (arith, now, room)) ∙ known.1
          ∙ ap (λ (o : Option (List Bool)). after left (completed o (b ∷ []))
          (continued o (b ∷ []))) (sym before),
    )

-- A FRAMER'S BIT
whole_of : (size : ℕ) (bits : List Bool) →
    (size + 1) * (length bits / (size + 1)) + length bits % (size + 1) ≡ length bits
whole_of size bits = div-add-mod (length bits) (size + 1)

pub sci_opens : (size : ℕ) (bits : List Bool) (b : Bool) (o : Option (List Bool)) →
    0 ≡ length bits % (size + 1) → o ≡ halves.half_under_way size bits →
    cond b (Some []) o ≡ halves.half_under_way size (bits ++ b ∷ [])
sci_opens size bits b o placed is =
    let long : length bits ≡ (size + 1) * (length bits / (size + 1)) = omega (arith, whole_of size bits, placed) in
    ap (cond b (Some [])) is ∙ sym (mark_opens size (length bits / (size + 1)) bits b long)

pub sci_ends : (size : ℕ) (bits : List Bool) (b : Bool) → 0 < size → 0 ≡ length bits % (size + 1) →
    None ≡ halves.half_frame_capsule_ending size (bits ++ b ∷ [])
sci_ends size bits b large placed =
    let long : length bits ≡ (size + 1) * (length bits / (size + 1)) = omega (arith, whole_of size bits, placed) in
    sym (mark_ends size (length bits / (size + 1)) bits b large long)

-- A bit in the body of half-frame n ends what the definition says, and leaves what it says open:
-- the half-frame has its SCI bit and some of its body already, and what is kept is what those bits
-- leave open.
body_at : (size place left n : ℕ) (bits front q : List Bool) (b : Bool) (o : Option (List Bool)) →
    bits ≡ front ++ q → length front ≡ (size + 1) * n → length q ≡ place → 0 < place →
    left + place ≡ size → o ≡ halves.half_under_way size bits →
    (completed o (b ∷ []) ≡ halves.half_frame_capsule_ending size (bits ++ b ∷ [])) ×
    (after left (completed o (b ∷ [])) (continued o (b ∷ []))
    ≡ halves.half_under_way size (bits ++ b ∷ []))
body_at size place left n bits front [] b o is long own some room stands = absurd (omega (arith, own, some))
body_at size place left n bits front (s ∷ body) b o is long own some room stands =
    let known = body_bit size n left front body s b long (omega (arith, own, room)) in
    let state : o ≡ halves.half_under_way size (front ++ s ∷ body) = stands
    ∙ ap (halves.half_under_way size) is in
    let grouped : front ++ s ∷ (body ++ b ∷ []) ≡ bits ++ b ∷ [] =
    sym (ap (λ (xs : List Bool). xs ++ b ∷ []) is ∙ append_assoc front (s ∷ body) (b ∷ [])) in (
      ap (λ (p : Option (List Bool)). completed p (b ∷ [])) state ∙ sym known.0
          ∙ ap (halves.half_frame_capsule_ending size) grouped,
      ap (λ (p : Option (List Bool)). after left (completed p (b ∷ []))
          (continued p (b ∷ []))) state ∙ sym known.1 ∙ ap (halves.half_under_way size) grouped,
    )

-- A bit that doesn't begin a half-frame ends what the definition says, and leaves what it says
-- open: the bits so far are cut into whole half-frames and the one under way, which has as many
-- bits as the place tells.
pub body_step : (size place left : ℕ) (bits : List Bool) (b : Bool) (o : Option (List Bool)) →
    place ≡ length bits % (size + 1) → 0 < place → left + place ≡ size → o ≡ halves.half_under_way size bits →
    (completed o (b ∷ []) ≡ halves.half_frame_capsule_ending size (bits ++ b ∷ [])) ×
    (after left (completed o (b ∷ [])) (continued o (b ∷ []))
    ≡ halves.half_under_way size (bits ++ b ∷ []))
body_step size place left bits b o placed some room stands =
    let n = length bits / (size + 1) in
    let cut = (size + 1) * n in
    let all = whole_of size bits in
    let front = take cut bits in
    let long : length front ≡ cut = length-take-le cut bits (omega (arith, all)) in
    let own : length (drop cut bits) ≡ place = omega (arith, length-drop cut bits, all, placed) in
    body_at size place left n bits front (drop cut bits) b o (sym (take-append-drop cut bits)) long own some room stands

-- where in its half-frame the next bit stands
pub place_more : (size place : ℕ) (bits : List Bool) (b : Bool) → place ≡ length bits % (size + 1) → place < size →
    place + 1 ≡ length (bits ++ b ∷ []) % (size + 1)
place_more size place bits b placed less =
    let n = length bits / (size + 1) in
    let turned : length (bits ++ b ∷ []) ≡ n * (size + 1) + (place + 1) =
    omega (arith, length-append bits (b ∷ []), whole_of size bits, placed) in
    sym (ap (λ (k : ℕ). k % (size + 1)) turned
    ∙ mod-mul-add n (size + 1) (place + 1) (omega (arith, less)))

pub place_over : (size place : ℕ) (bits : List Bool) (b : Bool) →
    place ≡ length bits % (size + 1) → place ≡ size → 0 ≡ length (bits ++ b ∷ []) % (size + 1)
place_over size place bits b placed last =
    let n = length bits / (size + 1) in
    let turned : length (bits ++ b ∷ []) ≡ suc n * (size + 1) + 0 =
    omega (arith, length-append bits (b ∷ []), whole_of size bits, placed, last) in
    sym (ap (λ (k : ℕ). k % (size + 1)) turned ∙ mod-mul-add (suc n) (size + 1) 0 (omega arith))

pub after_is : (ended : Bool) (left : ℕ) (whole open_bits : Option (List Bool)) → (IsTrue ended ↔ IsSome whole) →
    (if ended then (if nat_le 8 left then Some [] else open_bits) else open_bits) ≡ after left whole open_bits
after_is true left None open_bits h = absurd (cc (h.0 refl))
after_is true left (Some whole) open_bits h = refl
after_is false left None open_bits h = refl
after_is false left (Some whole) open_bits h = absurd (cc (h.1 refl))

-- before any bit
pub nothing_open : (size : ℕ) → None ≡ halves.half_under_way size []
unfolding halves.half_under_way
nothing_open size =
    let long : 0 ≡ (size + 1) * 0 = omega arith in
    sym (ap (λ (l : List Piece). halves.opened size (from_last_start l))
    (halves_whole size 0 [] long ∙ ap (map (part size [])) places-none))

pub nothing_placed : (size : ℕ) → 0 ≡ 0 % (size + 1)
nothing_placed size = omega arith
