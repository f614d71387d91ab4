-- What the half-frames of a stream end, one half-frame after another.
use Rattle.paging_message.proofs.Common.{◌≡◌, ℕ, zero, suc, ◌+◌, ◌*◌, ◌/◌, ◌%◌, ◌<◌, ◌≤◌, ◌==◌, Bool, false, List, [], ◌∷◌, ◌++◌, length}
use Rattle.paging_message.proofs.Common.{map, take, refl, sym, ap, ◌∙◌, arith, append_assoc, length-append, Option, None, inl, inr, ne_eqb}
use Rattle.paging_message.proofs.Common.{flat_map, option_to_list, cases_lt, append-nil, length-take-le, take-append-le, mod-mul-add, Piece}
use Rattle.paging_message.proofs.Common.{take-append-add, places, bodies, from_last_start, ends_chain, half_frames, flat_map_ext_places}
use Rattle.paging_message.proofs.Common.{half_frame_capsule_ending, flat_map-add, flat_map-next, flat_map-nothing, flat_map-zero, map-next}
use Rattle.paging_message.proofs.Common.{map-zero, true, cond, drop, replicate, piece, get_or, drop-drop, drop_at, take_at, map-places-all}
use Rattle.paging_message.proofs.Cutting.{halves_more, mark_ends, part}
use Rattle.paging_message.proofs.Pieces.{started_after}

-- ---- the bits

-- the bits of a half-frame
abbrev pub bits_of : Piece → List Bool
bits_of p = p.starts ∷ p.body

-- those of many
abbrev pub stream : List Piece → List Bool
stream pieces = flat_map bits_of pieces

-- whole half-frames
abbrev pub AreWhole : ℕ → List Piece → Type 0
AreWhole size [] = Unit {0}
AreWhole size (p ∷ pieces) = (length p.body ≡ size) × AreWhole size pieces

pub whole-append : (size : ℕ) (xs ys : List Piece) → AreWhole size xs → AreWhole size ys → AreWhole size (xs ++ ys)
whole-append size [] ys a b = b
whole-append size (x ∷ xs) ys a b = (a.0, whole-append size xs ys a.1 b)

pub whole-map : (size : ℕ) (f : ℕ → Piece) (n : ℕ) →
    ((j : ℕ) → j < n → length (f j).body ≡ size) → AreWhole size (map f (places n))
whole-map size f zero long = rw (map-zero f) tt
whole-map size f (suc n) long =
    rw (map-next f n) (whole-append size (map f (places n)) (f n ∷ [])
    (whole-map size f n (λ j lt. long j (omega (arith, lt)))) (long n (omega arith), tt))

pub length-stream : (size : ℕ) (pieces : List Piece) → AreWhole size pieces →
    length (stream pieces) ≡ (size + 1) * length pieces
length-stream size [] are = omega arith
length-stream size (p ∷ pieces) are =
    omega (arith, length-append (bits_of p) (stream pieces), length-stream size pieces are.1, are.0)

-- the default where there is no half-frame
pub no_piece : Piece
no_piece = record { starts = false; body = [] }

-- half-frame h of a stream
part_is : (size : ℕ) (pieces : List Piece) (h : ℕ) → AreWhole size pieces → h < length pieces →
    get_or pieces h no_piece ≡ part size (stream pieces) h
part_is size [] h are lt = absurd (omega (arith, lt))
part_is size (p ∷ pieces) zero are lt =
    let e : (size + 1) * zero ≡ 0 = omega arith in
    sym (ap (λ (k : ℕ). piece (take (size + 1) (drop k (stream (p ∷ pieces))))) e
    ∙ ap piece (take_at (bits_of p) (stream pieces) (size + 1) (omega (arith, are.0))))
part_is size (p ∷ pieces) (suc h) are lt =
    let own = bits_of p in
    let rest = stream pieces in
    let e : (size + 1) * suc h ≡ (size + 1) + (size + 1) * h = omega arith in
    part_is size pieces h are.1 (omega (arith, lt))
    ∙ sym (ap (λ (k : ℕ). piece (take (size + 1) (drop k (own ++ rest)))) e
    ∙ ap (λ (l : List Bool). piece (take (size + 1) l))
    (sym (drop-drop ((size + 1) * h) (size + 1) (own ++ rest))
    ∙ ap (drop ((size + 1) * h)) (drop_at own rest (size + 1) (omega (arith, are.0)))))

-- the half-frames of a stream, of which the last may be cut short
pub half_frames_of_stream : (size : ℕ) (pieces : List Piece) (more : List Bool) →
    AreWhole size pieces → 0 < length more → length more ≤ size + 1 →
    half_frames size (stream pieces ++ more) ≡ pieces ++ piece more ∷ []
half_frames_of_stream size pieces more are some most =
    let n = length pieces in
    halves_more size n (stream pieces) more (length-stream size pieces are) some most
    ∙ ap (λ (l : List Piece). l ++ piece more ∷ [])
    (sym (map-places-all (part size (stream pieces)) pieces n no_piece refl (λ h lt. part_is size pieces h are lt)))

-- ---- the message

-- no run begins in these half-frames
abbrev pub NoneStarts : List Piece → Type 0
NoneStarts [] = Unit {0}
NoneStarts (p ∷ pieces) = (p.starts ≡ false) × NoneStarts pieces

pub none_starts-append : (xs ys : List Piece) → NoneStarts xs → NoneStarts ys → NoneStarts (xs ++ ys)
none_starts-append [] ys a b = b
none_starts-append (x ∷ xs) ys a b = (a.0, none_starts-append xs ys a.1 b)

pub none_starts-map : (f : ℕ → Piece) (n : ℕ) → ((k : ℕ) → (f k).starts ≡ false) → NoneStarts (map f (places n))
none_starts-map f zero none = rw (map-zero f) tt
none_starts-map f (suc n) none =
    rw (map-next f n) (none_starts-append (map f (places n)) (f n ∷ []) (none_starts-map f n none) (none n, tt))

pub from_no_start : (pieces : List Piece) → NoneStarts pieces → from_last_start pieces ≡ []
from_no_start [] none = refl
from_no_start (p ∷ pieces) none =
    let rest = from_no_start pieces none.1 in
    let here = none.0 in
    rw (rest, here) refl

-- the half-frames of a run that has begun, whatever was heard before
pub from_start_of_run : (before : List Piece) (p : Piece) (pieces : List Piece) →
    p.starts ≡ true → NoneStarts pieces → from_last_start (before ++ p ∷ pieces) ≡ p ∷ pieces
from_start_of_run before p pieces begins none =
    let rest = from_no_start pieces none in
    let own : from_last_start (p ∷ pieces) ≡ p ∷ pieces = rw (rest, begins) refl in
    started_after before (p ∷ pieces) own (omega arith)

-- ---- the capsules that half-frames end

-- the capsule that ends with the last of these bits of a run
abbrev pub chain_of : ℕ → List Bool → Option (List Bool)
chain_of size bits = ends_chain (length bits) size 0 bits

-- the capsule that ends with the last bit of these half-frames
abbrev pub ended : ℕ → List Piece → Option (List Bool)
ended size pieces = chain_of size (bodies (from_last_start pieces))

-- a half-frame that is cut short after n body bits
abbrev pub cut_short : Piece → ℕ → Piece
cut_short p m = record { starts = p.starts; body = take m p.body }

-- the capsules that a half-frame's bits end, after others
abbrev pub told_in : ℕ → List Piece → Piece → List (List Bool)
told_in size before p = flat_map (λ i. option_to_list (ended size (before ++ cut_short p (suc i) ∷ []))) (places size)

-- capsules, each with a number
abbrev pub with_number : ℕ → List (List Bool) → List (ℕ × List Bool)
with_number o cs = map (λ (c : List Bool). (o, c)) cs

-- those of many, each with its half-frame's number; the first of them has number `o`
abbrev pub scan : ℕ → List Piece → ℕ → List Piece → List (ℕ × List Bool)
scan size before o [] = []
scan size before o (p ∷ pieces) = with_number o (told_in size before p) ++ scan size (before ++ p ∷ []) (suc o) pieces

-- Half-frames in two lists end what the first list ends, and then what the second does after it
-- with numbers that go on, by induction over the first list.
pub scan-append : (size : ℕ) (before : List Piece) (o : ℕ) (xs ys : List Piece) → scan size before o (xs ++ ys)
    ≡ scan size before o xs ++ scan size (before ++ xs) (o + length xs) ys
scan-append size before o [] ys =
    let e : o ≡ o + 0 = omega arith in
    ap (λ (l : List Piece). scan size l o ys) (sym (append-nil before))
    ∙ ap (λ (n : ℕ). scan size (before ++ []) n ys) e
scan-append size before o (x ∷ xs) ys =
    let own = with_number o (told_in size before x) in
    let e : suc o + length xs ≡ o + suc (length xs) = omega arith in
    let next = before ++ x ∷ [] in
    ap (λ (l : List (ℕ × List Bool)). own ++ l) (scan-append size next (suc o) xs ys)
    ∙ sym (append_assoc own (scan size next (suc o) xs) (scan size (next ++ xs) (suc o + length xs) ys))
    ∙ ap (λ (l : List Piece). (own ++ scan size next (suc o) xs) ++
    scan size l (suc o + length xs) ys) (append_assoc before (x ∷ []) xs)
    ∙ ap (λ (n : ℕ). (own ++ scan size next (suc o) xs) ++ scan size (before ++ x ∷ xs) n ys) e

-- one half-frame more
pub scan-next : (size : ℕ) (before : List Piece) (o : ℕ) (f : ℕ → Piece) (n : ℕ) → length (map f (places n)) ≡ n →
    scan size before o (map f (places (suc n)))
    ≡ scan size before o (map f (places n)) ++ with_number (o + n) (told_in size (before ++ map f (places n)) (f n))
scan-next size before o f n long =
    let front = map f (places n) in
    let own = λ (k : ℕ). with_number k (told_in size (before ++ front) (f n)) in
    ap (scan size before o) (map-next f n)
    ∙ scan-append size before o front (f n ∷ [])
    ∙ ap (λ (k : ℕ). scan size before o front ++ (own k ++ [])) (ap (λ (k : ℕ). o + k) long)
    ∙ ap (λ (l : List (ℕ × List Bool)). scan size before o front ++ l) (append-nil (own (o + n)))

-- ---- where no run begins

pub ended_none : (size : ℕ) (pieces : List Piece) → NoneStarts pieces → ended size pieces ≡ None
unfolding ends_chain
ended_none size pieces none = ap (λ (l : List Piece). chain_of size (bodies l)) (from_no_start pieces none)

-- half-frames in which no run begins, after others of the kind, end nothing
pub scan_silent : (size : ℕ) (before : List Piece) (o : ℕ) (pieces : List Piece) →
    NoneStarts before → NoneStarts pieces → scan size before o pieces ≡ []
scan_silent size before o [] none more = refl
scan_silent size before o (p ∷ pieces) none more =
    let nothing : told_in size before p ≡ [] =
    flat_map-nothing (λ i. option_to_list (ended size (before ++ cut_short p (suc i) ∷ []))) size
    (λ i lt. ap option_to_list (ended_none size (before ++ cut_short p (suc i) ∷ [])
    (none_starts-append before (cut_short p (suc i) ∷ []) none (more.0, tt)))) in
    ap (λ (l : List (List Bool)). with_number o l ++ scan size (before ++ p ∷ []) (suc o) pieces)
    nothing
    ∙ scan_silent size (before ++ p ∷ []) (suc o) pieces (none_starts-append before (p ∷ []) none (more.0, tt)) more.1

-- ---- bit by bit

-- a body bit isn't the first of its half-frame
not_first : (size n r : ℕ) → 0 < r → r ≤ size → ((size + 1) * n + suc r) % (size + 1) ≡ 1 → ⊥
not_first size n r some most one =
    elim (cases_lt r size) [
      | inl less ↦
          let e : (size + 1) * n + suc r ≡ n * (size + 1) + suc r = omega arith in
          let own : ((size + 1) * n + suc r) % (size + 1) ≡ suc r =
          ap (λ (k : ℕ). k % (size + 1)) e
          ∙ mod-mul-add n (size + 1) (suc r) (omega (arith, less)) in
          omega (arith, own, one, some)
      | inr whole ↦
          let e : (size + 1) * n + suc r ≡ suc n * (size + 1) + 0 = omega (arith, whole, most) in
          let own : ((size + 1) * n + suc r) % (size + 1) ≡ 0 =
          ap (λ (k : ℕ). k % (size + 1)) e
          ∙ mod-mul-add (suc n) (size + 1) 0 (omega arith) in
          omega (arith, own, one)
    ]

-- a stream that ends with a body bit
ending_of_half_frames : (size : ℕ) (bits : List Bool) (pieces : List Piece) →
    (length bits % (size + 1) == 1) ≡ false → half_frames size bits ≡ pieces →
    half_frame_capsule_ending size bits ≡ ended size pieces
unfolding half_frame_capsule_ending
ending_of_half_frames size bits pieces inside are = rw inside (ap (ended size) are)

-- a body bit of a half-frame after others
body_bit_ends : (size : ℕ) (before : List Piece) (p : Piece) (i : ℕ) → AreWhole size before →
    length p.body ≡ size → i < size → half_frame_capsule_ending size (stream before ++ take (suc (suc i)) (bits_of p))
    ≡ ended size (before ++ cut_short p (suc i) ∷ [])
body_bit_ends size before p i are long lt =
    let n = length before in
    let more = take (suc (suc i)) (bits_of p) in
    let own : length more ≡ suc (suc i) = ap suc (length-take-le (suc i) p.body (omega (arith, long, lt))) in
    let all : length (stream before ++ more) ≡ (size + 1) * n + suc (suc i) =
    omega (arith, length-append (stream before) more, length-stream size before are, own) in
    let inside : (length (stream before ++ more) % (size + 1) == 1) ≡ false =
    ne_eqb (length (stream before ++ more) % (size + 1)) 1
    (λ one. not_first size n (suc i) (omega arith) lt (ap (λ (k : ℕ). k % (size + 1)) (sym all) ∙ one)) in
    ending_of_half_frames size (stream before ++ more) (before ++ cut_short p (suc i) ∷ []) inside
    (half_frames_of_stream size before more are (omega (arith, own)) (omega (arith, own, lt)))

-- the capsules that more bits end, after others
abbrev pub ended_by_bits : ℕ → List Bool → List Bool → List (List Bool)
ended_by_bits size bits more =
    flat_map (λ i. option_to_list (half_frame_capsule_ending size (bits ++ take (i + 1) more))) (places (length more))

-- the bits of a half-frame, the SCI bit among them
pub half_frame_ends : (size : ℕ) (before : List Piece) (p : Piece) → 0 < size →
    AreWhole size before → length p.body ≡ size → ended_by_bits size (stream before) (bits_of p) ≡ told_in size before p
half_frame_ends size before p large are long =
    let each = λ (i : ℕ). option_to_list (half_frame_capsule_ending size (stream before ++ take (i + 1) (bits_of p))) in
    let count : length (bits_of p) ≡ 1 + size = omega (arith, long) in
    let one : 0 + 1 ≡ suc 0 = omega arith in
    let first : each 0 ≡ [] =
    ap (λ (k : ℕ). option_to_list (half_frame_capsule_ending size (stream before ++ take k (bits_of p)))) one
    ∙ ap option_to_list (mark_ends size (length before) (stream before) p.starts large
    (length-stream size before are)) in
    ap (λ (k : ℕ). flat_map each (places k)) count
    ∙ flat_map-add each 1 size
    ∙ ap (λ (l : List (List Bool)). l ++ flat_map (λ i. each (1 + i)) (places size))
    (flat_map-next each 0
    ∙ ap (λ (l : List (List Bool)). l ++ each 0) (flat_map-zero each) ∙ first)
    ∙ flat_map_ext_places (λ i. each (1 + i))
    (λ i. option_to_list (ended size (before ++ cut_short p (suc i) ∷ []))) size
    (λ i lt.
    let e : 1 + i + 1 ≡ suc (suc i) = omega arith in
    ap (λ (k : ℕ). option_to_list (half_frame_capsule_ending size (stream before ++ take k (bits_of p)))) e
    ∙ ap option_to_list (body_bit_ends size before p i are long lt))

-- What a list of bits ends is what its first part ends and then what its second part does: the
-- fronts that reach into the second part are the first part and a front of the second, and the
-- others are fronts of the first.
pub ended_by-append : (size : ℕ) (bits xs ys : List Bool) → ended_by_bits size bits (xs ++ ys)
    ≡ ended_by_bits size bits xs ++ ended_by_bits size (bits ++ xs) ys
ended_by-append size bits xs ys =
    let each = λ (more : List Bool) (k : ℕ). option_to_list (half_frame_capsule_ending size (bits ++ take k more)) in
    let a = length xs in
    ap (λ (k : ℕ). flat_map (λ i. each (xs ++ ys) (i + 1)) (places k)) (length-append xs ys)
    ∙ flat_map-add (λ i. each (xs ++ ys) (i + 1)) a (length ys)
    ∙ ap (λ (l : List (List Bool)). l ++
    flat_map (λ i. each (xs ++ ys) (a + i + 1)) (places (length ys)))
    (flat_map_ext_places (λ i. each (xs ++ ys) (i + 1)) (λ i. each xs (i + 1)) a
    (λ i lt. ap (λ (l : List Bool). option_to_list (half_frame_capsule_ending size (bits ++ l)))
    (take-append-le (i + 1) xs ys (omega (arith, lt)))))
    ∙ ap (λ (l : List (List Bool)). ended_by_bits size bits xs ++ l)
    (flat_map_ext_places (λ i. each (xs ++ ys) (a + i + 1))
    (λ i. option_to_list (half_frame_capsule_ending size ((bits ++ xs) ++ take (i + 1) ys))) (length ys)
    (λ i lt.
    let e : a + i + 1 ≡ a + (i + 1) = omega arith in
    ap (λ (l : List Bool). option_to_list (half_frame_capsule_ending size (bits ++ l)))
    (ap (λ (k : ℕ). take k (xs ++ ys)) e ∙ take-append-add xs ys (i + 1))
    ∙ ap (λ (l : List Bool). option_to_list (half_frame_capsule_ending size l))
    (sym (append_assoc bits xs (take (i + 1) ys)))))

-- ---- half-frames of zeros

zero_piece : (a b n : ℕ) → (piece (take a (drop b (replicate n false)))).starts ≡ false
zero_piece zero zero n = refl
zero_piece (suc a) zero zero = refl
zero_piece (suc a) zero (suc n) = refl
zero_piece zero (suc b) zero = refl
zero_piece (suc a) (suc b) zero = refl
zero_piece a (suc b) (suc n) = zero_piece a b n

silent_pieces : (size n : ℕ) → NoneStarts (half_frames size (replicate n false))
unfolding half_frames
silent_pieces size n =
    none_starts-map (λ h. piece (take (size + 1) (drop ((size + 1) * h) (replicate n false))))
    ((length (replicate n false) + size) / (size + 1)) (λ h. zero_piece (size + 1) ((size + 1) * h) n)

ending_is : (size : ℕ) (bits : List Bool) → half_frame_capsule_ending size bits
    ≡ cond (length bits % (size + 1) == 1) None (ended size (half_frames size bits))
unfolding half_frame_capsule_ending
ending_is size bits = refl

pub zeros_end_none : (size n : ℕ) → half_frame_capsule_ending size (replicate n false) ≡ None
zeros_end_none size n =
    let bits = replicate n false in
    let inside = length bits % (size + 1) == 1 in
    ending_is size bits
    ∙ either_none inside (ended size (half_frames size bits))
    (ended_none size (half_frames size bits) (silent_pieces size n))
  where
    either_none : (b : Bool) (o : Option (List Bool)) → o ≡ None → cond b None o ≡ None
    either_none true o e = refl
    either_none false o e = e
