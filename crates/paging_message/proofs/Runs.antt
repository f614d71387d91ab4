-- The half-frames of a run of capsules, and what their bits end.
use Rattle.paging_message.proofs.Common.{◌≡◌, ℕ, zero, suc, ◌+◌, ◌-◌, ◌*◌, ◌/◌, ◌%◌, ◌<◌, ◌≤◌, ◌==◌, Bool, false, List, [], ◌∷◌, ◌++◌, map}
use Rattle.paging_message.proofs.Common.{length, take, refl, sym, ap, ◌∙◌, arith, append_assoc, length-append, Option, None, inl, inr, true}
use Rattle.paging_message.proofs.Common.{flat_map, option_to_list, cases_lt, ne_eqb, flat_map-append, append-nil, length-take-le, places}
use Rattle.paging_message.proofs.Common.{map-append, take-append-le, mod-mul-add, length-map-places, Piece, bodies, from_last_start, cond}
use Rattle.paging_message.proofs.Common.{ends_chain, flat_map_ext_places, flat_map-add, flat_map-zero, map-next, map-zero, drop, replicate}
use Rattle.paging_message.proofs.Common.{length-replicate, drop_at, take_at, Some, nat_le, nat_lt, eq-eqb, le-leb, le-ltb, lt-leb, lt-ltb}
use Rattle.paging_message.proofs.Common.{take-take, div-mul-add, mod_below, mul-le-mul_left, take-add, fill, padded_to, div-add-mod'}
use Rattle.paging_message.proofs.Common.{if◌then◌else◌, and_from, and_left, and_right, cases_order, false_from_ne_true, drop-take, number}
use Rattle.paging_message.proofs.Common.{is_stated, stated_bits, IsWhole, stated_bounds, stated_from, bits_left, flat_map-next}
use Rattle.paging_message.proofs.Common.{flat_map-nothing, mod-eq_of_lt}
use Rattle.paging_message.proofs.Chains.{is_there}
use Rattle.paging_message.proofs.Pieces.{run, run-places}
use Rattle.paging_message.proofs.Scans.{NoneStarts, chain_of, cut_short, ended, from_start_of_run, none_starts-append, scan, scan-next}
use Rattle.paging_message.proofs.Scans.{told_in, with_number}

-- there are 8 bits for a capsule more, where there is one
abbrev pub HasRoom : ℕ → ℕ → List (List Bool) → Type 0
HasRoom size at [] = Unit {0}
HasRoom size at (c ∷ cs) = 8 ≤ bits_left size at

-- whole capsules that follow one another from a place of a run on
abbrev pub AreChained : ℕ → ℕ → List (List Bool) → Type 0
AreChained size at [] = Unit {0}
AreChained size at (c ∷ cs) = IsWhole c × HasRoom size (at + length c) cs × AreChained size (at + length c) cs

-- the capsule whose last bit is bit m of them, counted from 1
abbrev pub ended_of : List (List Bool) → ℕ → Option (List Bool)
ended_of [] m = None
ended_of (c ∷ cs) m =
    if nat_lt m (length c) then None
    else (if nat_le m (length c) then Some c else ended_of cs (m - length c))

-- the capsules, and n zeros after them
abbrev pub joined : List (List Bool) → ℕ → List Bool
joined [] pads = replicate pads false
joined (c ∷ cs) pads = c ++ joined cs pads

-- ---- what a chain of these bits ends

ends-not_there : (fuel size at : ℕ) (bits : List Bool) → is_there bits ≡ false → ends_chain fuel size at bits ≡ None
unfolding ends_chain
ends-not_there zero size at bits e = refl
ends-not_there (suc fuel) size at bits e = rw e refl

pub ends-unstated : (fuel size at : ℕ) (bits : List Bool) → is_stated bits ≡ false → ends_chain fuel size at bits ≡ None
ends-unstated fuel size at bits e =
    ends-not_there fuel size at bits (and_left (is_stated bits) (nat_le (stated_bits bits) (length bits)) e)

ends-unfinished : (fuel size at : ℕ) (bits : List Bool) → length bits < stated_bits bits →
    ends_chain fuel size at bits ≡ None
ends-unfinished fuel size at bits less =
    ends-not_there fuel size at bits
    (and_right (is_stated bits) (nat_le (stated_bits bits) (length bits))
    (lt-leb (stated_bits bits) (length bits) less))

-- lawfully stated, and all there
all_there : (bits : List Bool) (n : ℕ) → stated_bits bits ≡ n → 40 ≤ n → n ≤ 1184 →
    n ≤ length bits → is_there bits ≡ true
all_there bits n is least most room =
    and_from (is_stated bits) (nat_le (stated_bits bits) (length bits))
    (stated_from bits (omega (arith, least, room)) (omega (arith, is, least)) (omega (arith, is, most)))
    (le-leb (stated_bits bits) (length bits) (omega (arith, is, room)))

ends-finished : (fuel size at : ℕ) (bits : List Bool) (n : ℕ) → stated_bits bits ≡ n → 40 ≤ n →
    n ≤ 1184 → length bits ≡ n → ends_chain (suc fuel) size at bits ≡ Some bits
unfolding ends_chain
ends-finished fuel size at bits n is least most long =
    let e = all_there bits n is least most (omega (arith, long)) in
    let l : nat_le (length bits) (stated_bits bits) ≡ true =
    le-leb (length bits) (stated_bits bits) (omega (arith, is, long)) in
    rw (e, l) refl

ends-later : (fuel size at : ℕ) (bits : List Bool) (n : ℕ) → stated_bits bits ≡ n → 40 ≤ n →
    n ≤ 1184 → n < length bits → ends_chain (suc fuel) size at bits
    ≡ cond (nat_le 8 (bits_left size (at + n))) (ends_chain fuel size (at + n) (drop n bits)) None
unfolding ends_chain
ends-later fuel size at bits n is least most more =
    let e = all_there bits n is least most (omega (arith, more)) in
    let l : nat_le (length bits) (stated_bits bits) ≡ false =
    lt-leb (length bits) (stated_bits bits) (omega (arith, is, more)) in
    rw (e, l, is) refl

-- ---- zeros

number-zeros : (k m pads : ℕ) → number (take k (take m (replicate pads false))) ≡ 0
number-zeros zero m pads = refl
number-zeros (suc k) zero pads = refl
number-zeros (suc k) (suc m) zero = refl
number-zeros (suc k) (suc m) (suc pads) = number-zeros k m pads

-- A chain of zeros ends no capsule, since the length that they state is 0, and no lawful length is
-- that short.
ends-zeros : (fuel size at m pads : ℕ) → ends_chain fuel size at (take m (replicate pads false)) ≡ None
ends-zeros fuel size at m pads =
    let bits = take m (replicate pads false) in
    ends-unstated fuel size at bits
    (false_from_ne_true (is_stated bits) (λ t.
    let bounds = stated_bounds bits t in
    let none : stated_bits bits ≡ 0 = ap (λ (n : ℕ). 8 * n) (number-zeros 8 m pads) in
    omega (arith, bounds.1, none)))

-- ---- the chain

-- the front of bits that begin with a capsule states its length
stated-front : (c more : List Bool) (m : ℕ) → IsWhole c → 8 ≤ m → stated_bits (take m (c ++ more)) ≡ length c
stated-front c more m whole enough =
    ap (λ (bits : List Bool). 8 * number bits) (take-take 8 m (c ++ more) enough ∙ take-append-le 8 c more whole.told)
    ∙ sym whole.all

-- the bits after the first capsule
after_first : (c more : List Bool) (m : ℕ) → length c ≤ m →
    drop (length c) (take m (c ++ more)) ≡ take (m - length c) more
after_first c more m le =
    let e : m ≡ length c + (m - length c) = omega (arith, le) in
    ap (λ (k : ℕ). drop (length c) (take k (c ++ more))) e
    ∙ drop-take (length c) (m - length c) (c ++ more)
    ∙ ap (take (m - length c)) (drop_at c more (length c) refl)

either_none : (b : Bool) (r : Option (List Bool)) → r ≡ None → cond b r None ≡ None
either_none true r e = e
either_none false r e = refl

with_room : (cs : List (List Bool)) (size at m : ℕ) (r : Option (List Bool)) → HasRoom size at cs →
    r ≡ ended_of cs m → cond (nat_le 8 (bits_left size at)) r None ≡ ended_of cs m
with_room [] size at m r has e = either_none (nat_le 8 (bits_left size at)) r e
with_room (c ∷ cs) size at m r has e =
    let l : nat_le 8 (bits_left size at) ≡ true = le-leb 8 (bits_left size at) has in rw l e

-- the first m bits of a chain end what its bit m ends
pub chain_ends : (cs : List (List Bool)) (fuel size at pads m : ℕ) → AreChained size at cs →
    m ≤ fuel → m ≤ length (joined cs pads) → ends_chain fuel size at (take m (joined cs pads)) ≡ ended_of cs m
chain_ends [] fuel size at pads m chained enough room = ends-zeros fuel size at m pads
chain_ends (c ∷ cs) zero size at pads m chained enough room =
    let whole = chained.0 in
    let a : nat_lt m (length c) ≡ true = lt-ltb m (length c) (omega (arith, whole.told, enough)) in
    let bits = take m (c ++ joined cs pads) in
    let short : length bits ≡ m = length-take-le m (c ++ joined cs pads) room in
    ends-unstated zero size at bits
    (false_from_ne_true (is_stated bits) (λ t.
    let bounds = stated_bounds bits t in omega (arith, bounds.0, short, enough)))
    ∙ sym (rw a refl)
chain_ends (c ∷ cs) (suc fuel) size at pads m chained enough room =
    let whole = chained.0 in
    let told : 8 ≤ length c = whole.told in
    let least : 40 ≤ length c = omega (arith, whole.least, whole.all) in
    let most : length c ≤ 1184 = omega (arith, whole.most, whole.all) in
    let more = joined cs pads in
    let bits = take m (c ++ more) in
    let long : length bits ≡ m = length-take-le m (c ++ more) room in
    elim (cases_order m (length c)) [
      | inl same ↦
          let a : nat_lt m (length c) ≡ false = le-ltb m (length c) (omega (arith, same)) in
          let b : nat_le m (length c) ≡ true = le-leb m (length c) (omega (arith, same)) in
          let s = stated-front c more m whole (omega (arith, told, same)) in
          let here : bits ≡ c = take_at c more m (sym same) in
          ends-finished fuel size at bits (length c) s least most (omega (arith, long, same))
          ∙ ap Some here ∙ sym (rw (a, b) refl)
      | inr (inl less) ↦
          let a : nat_lt m (length c) ≡ true = lt-ltb m (length c) less in
          elim (cases_lt m 8) [
            | inl few ↦
                ends-unstated (suc fuel) size at bits
                (false_from_ne_true (is_stated bits) (λ t.
                let bounds = stated_bounds bits t in omega (arith, bounds.0, long, few)))
                ∙ sym (rw a refl)
            | inr some ↦
                let s = stated-front c more m whole some in
                ends-unfinished (suc fuel) size at bits (omega (arith, s, long, less))
                ∙ sym (rw a refl)
          ]
      | inr (inr over) ↦
          let n = length c in
          let a : nat_lt m n ≡ false = le-ltb m n (omega (arith, over)) in
          let b : nat_le m n ≡ false = lt-leb m n over in
          let s = stated-front c more m whole (omega (arith, told, over)) in
          let rest = take (m - n) more in
          ends-later fuel size at bits n s least most (omega (arith, long, over))
          ∙ ap (λ (l : List Bool). cond (nat_le 8 (bits_left size (at + n)))
          (ends_chain fuel size (at + n) l) None) (after_first c more m (omega (arith, over)))
          ∙ with_room cs size (at + n) (m - n) (ends_chain fuel size (at + n) rest) chained.1
          (chain_ends cs fuel size (at + n) pads (m - n) chained.2
          (omega (arith, enough, told, over)) (omega (arith, room, over, length-append c more)))
          ∙ sym (rw (a, b) refl)
    ]

-- ---- room

-- the number of half-frames that n body bits take
abbrev pub width : ℕ → ℕ → ℕ
width size count = (count + size - 1) / size

-- The zeros after a run fill its last half-frame: where r bits of one are taken they are the other
-- size - r and one half-frame more is counted, and where none is taken there are no zeros.
fills_from : (size count q r : ℕ) → count ≡ q * size + r → r < size → count + fill size count ≡ size * width size count
unfolding fill
fills_from size count q r parts low =
    let rest : count % size ≡ r = ap (λ (k : ℕ). k % size) parts ∙ mod-mul-add q size r low in
    elim (cases_lt 0 r) [
      | inl some ↦
          let f : (size - count % size) % size ≡ size - r =
          ap (λ (k : ℕ). (size - k) % size) rest
          ∙ mod-eq_of_lt (omega (arith, some, low)) in
          let turned : count + size - 1 ≡ suc q * size + (r - 1) = omega (arith, parts, some) in
          let w : width size count ≡ suc q =
          ap (λ (k : ℕ). k / size) turned
          ∙ div-mul-add (suc q) size (r - 1) (omega (arith, some, low)) in
          rw w (omega (arith, f, parts, low))
      | inr none ↦
          let all : size - r ≡ 1 * size + 0 = omega (arith, none) in
          let f : (size - count % size) % size ≡ 0 =
          ap (λ (k : ℕ). (size - k) % size) rest
          ∙ ap (λ (k : ℕ). k % size) all ∙ mod-mul-add 1 size 0 (omega (arith, low)) in
          let turned : count + size - 1 ≡ q * size + (size - 1) = omega (arith, parts, none, low) in
          let w : width size count ≡ q =
          ap (λ (k : ℕ). k / size) turned
          ∙ div-mul-add q size (size - 1) (omega (arith, low)) in
          rw w (omega (arith, f, parts, none))
    ]

-- zeros fill the last of them
pub fills : (size count : ℕ) → 0 < size → count + fill size count ≡ size * width size count
fills size count large =
    fills_from size count (count / size) (count % size) (sym (div-add-mod' count size)) (mod_below count size large)

pub length-padded : (size : ℕ) (bits : List Bool) → 0 < size →
    length (padded_to size bits) ≡ size * width size (length bits)
length-padded size bits large =
    length-append bits (replicate (fill size (length bits)) false)
    ∙ ap (λ (k : ℕ). length bits + k) (length-replicate (fill size (length bits)) false)
    ∙ fills size (length bits) large

pub no_width : (size : ℕ) → 0 < size → width size 0 ≡ 0
no_width size large =
    let e : 0 + size - 1 ≡ 0 * size + (size - 1) = omega (arith, large) in
    ap (λ (k : ℕ). k / size) e ∙ div-mul-add 0 size (size - 1) (omega (arith, large))

-- ---- a run

-- the body bits of a run
abbrev pub run_bits : ℕ → List (List Bool) → List Bool
run_bits size cs = padded_to size (joined cs 0)

-- how many half-frames it has
abbrev pub run_width : ℕ → List (List Bool) → ℕ
run_width size cs = width size (length (joined cs 0))

-- its half-frame j
abbrev pub run_piece : ℕ → List (List Bool) → ℕ → Piece
run_piece size cs j = record { starts = j == 0; body = take size (drop (size * j) (run_bits size cs)) }

-- all of them
abbrev pub run_pieces : ℕ → List (List Bool) → List Piece
run_pieces size cs = map (run_piece size cs) (places (run_width size cs))

-- only the first one begins the run
pub first_begins : (size : ℕ) (cs : List (List Bool)) → (run_piece size cs 0).starts ≡ true
first_begins size cs = eq-eqb 0 0 refl

pub later_begins_none : (size : ℕ) (cs : List (List Bool)) (j : ℕ) → 0 < j → (run_piece size cs j).starts ≡ false
later_begins_none size cs j some = ne_eqb j 0 (λ e. omega (arith, e, some))

pub run_width_some : (size : ℕ) (cs : List (List Bool)) → 0 < size → 0 < length (joined cs 0) → 0 < run_width size cs
run_width_some size cs large some =
    let all = fills size (length (joined cs 0)) large in
    elim (cases_lt 0 (run_width size cs)) [
      | inl more ↦ more
      | inr none ↦
          let z : run_width size cs ≡ 0 = omega (arith, none) in
          let p : size * run_width size cs ≡ 0 = rw z (omega arith) in
          absurd (omega (arith, all, p, some))
    ]

-- ---- the message under way

-- j half-frames of a run, and one more
runs_on : (before : List Piece) (f : ℕ → Piece) (j : ℕ) (q : Piece) → (f 0).starts ≡ true →
    ((i : ℕ) → 0 < i → (f i).starts ≡ false) → q.starts ≡ (f j).starts →
    from_last_start ((before ++ map f (places j)) ++ q ∷ []) ≡ map f (places j) ++ q ∷ []
runs_on before f zero q begins none same =
    ap (λ (l : List Piece). from_last_start ((before ++ l) ++ q ∷ [])) (map-zero f)
    ∙ ap (λ (l : List Piece). from_last_start (l ++ q ∷ [])) (append-nil before)
    ∙ from_start_of_run before q [] (same ∙ begins) tt
    ∙ ap (λ (l : List Piece). l ++ q ∷ []) (sym (map-zero f))
runs_on before f (suc j) q begins none same =
    let rest = run f 1 j in
    ap (λ (l : List Piece). from_last_start ((before ++ l) ++ q ∷ [])) (run-places f (suc j))
    ∙ ap from_last_start (append_assoc before (f 0 ∷ rest) (q ∷ []))
    ∙ from_start_of_run before (f 0) (rest ++ q ∷ []) begins
    (none_starts-append rest (q ∷ []) (silent_rest f 1 j (omega arith) none) (same ∙ none (suc j) (omega arith), tt))
    ∙ ap (λ (l : List Piece). l ++ q ∷ []) (sym (run-places f (suc j)))
  where
    silent_rest : (f : ℕ → Piece) (at n : ℕ) → 0 < at →
        ((i : ℕ) → 0 < i → (f i).starts ≡ false) → NoneStarts (run f at n)
    silent_rest f at zero some none = tt
    silent_rest f at (suc n) some none = (none at some, silent_rest f (at + 1) n (omega arith) none)

-- their body bits
front_bodies : (size : ℕ) (cs : List (List Bool)) (j : ℕ) →
    bodies (map (run_piece size cs) (places j)) ≡ take (size * j) (run_bits size cs)
front_bodies size cs zero =
    let e : size * zero ≡ 0 = omega arith in
    ap bodies (map-zero (run_piece size cs))
    ∙ sym (ap (λ (k : ℕ). take k (run_bits size cs)) e)
front_bodies size cs (suc j) =
    let f = run_piece size cs in
    let bits = run_bits size cs in
    let e : size * j + size ≡ size * suc j = omega arith in
    let own = take size (drop (size * j) bits) in
    ap bodies (map-next f j)
    ∙ flat_map-append (λ (p : Piece). p.body) (map f (places j)) (f j ∷ [])
    ∙ ap (λ (l : List Bool). bodies (map f (places j)) ++ l) (append-nil own)
    ∙ ap (λ (l : List Bool). l ++ own) (front_bodies size cs j)
    ∙ sym (take-add (size * j) size bits)
    ∙ ap (λ (k : ℕ). take k bits) e

-- the body bits of a run up to bit i of its half-frame j
message_bits : (size : ℕ) (before : List Piece) (cs : List (List Bool)) (j i : ℕ) → i < size →
    bodies (from_last_start ((before ++ map (run_piece size cs) (places j)) ++
    cut_short (run_piece size cs j) (suc i) ∷ []))
    ≡ take (suc (size * j + i)) (run_bits size cs)
message_bits size before cs j i lt =
    let f = run_piece size cs in
    let bits = run_bits size cs in
    let q = cut_short (f j) (suc i) in
    let rest = drop (size * j) bits in
    let e : size * j + suc i ≡ suc (size * j + i) = omega arith in
    ap bodies (runs_on before f j q (first_begins size cs) (λ k some. later_begins_none size cs k some) refl)
    ∙ flat_map-append (λ (p : Piece). p.body) (map f (places j)) (q ∷ [])
    ∙ ap (λ (l : List Bool). bodies (map f (places j)) ++ l) (append-nil q.body)
    ∙ ap (λ (l : List Bool). l ++ take (suc i) (take size rest)) (front_bodies size cs j)
    ∙ ap (λ (l : List Bool). take (size * j) bits ++ l) (take-take (suc i) size rest lt)
    ∙ sym (take-add (size * j) (suc i) bits)
    ∙ ap (λ (k : ℕ). take k bits) e

-- ---- what the bits of a run end

joined_zeros : (cs : List (List Bool)) (n : ℕ) → joined cs n ≡ joined cs 0 ++ replicate n false
joined_zeros [] n = refl
joined_zeros (c ∷ cs) n =
    ap (λ (l : List Bool). c ++ l) (joined_zeros cs n)
    ∙ sym (append_assoc c (joined cs 0) (replicate n false))

-- The first m bits of a run end the capsule whose last bit is bit m, if there is one: the run is
-- its capsules and then zeros, and a chain that begins a half-frame is followed from capsule to
-- capsule, through zeros as well.
front_ends : (size : ℕ) (cs : List (List Bool)) (m : ℕ) → AreChained size 0 cs →
    m ≤ length (run_bits size cs) → chain_of size (take m (run_bits size cs)) ≡ ended_of cs m
front_ends size cs m chained room =
    let n = fill size (length (joined cs 0)) in
    let same = joined_zeros cs n in
    let bits = take m (run_bits size cs) in
    let long : length bits ≡ m = length-take-le m (run_bits size cs) room in
    ap (λ (l : List Bool). ends_chain (length bits) size 0 (take m l)) (sym same)
    ∙ chain_ends cs (length bits) size 0 n m chained (omega (arith, long)) (rw same room)

-- the capsules of a run's half-frame j
half_frame_tells : (size : ℕ) (before : List Piece) (cs : List (List Bool)) (j : ℕ) → 0 < size →
    AreChained size 0 cs → j < run_width size cs →
    told_in size (before ++ map (run_piece size cs) (places j)) (run_piece size cs j)
    ≡ flat_map (λ i. option_to_list (ended_of cs (suc (size * j + i)))) (places size)
half_frame_tells size before cs j large chained lt =
    let bits = run_bits size cs in
    let front = before ++ map (run_piece size cs) (places j) in
    let long : length bits ≡ size * run_width size cs = length-padded size (joined cs 0) large in
    let room : size * suc j ≤ size * run_width size cs = mul-le-mul_left size lt in
    let e : size * suc j ≡ size * j + size = omega arith in
    flat_map_ext_places (λ i. option_to_list (ended size (front ++ cut_short (run_piece size cs j) (suc i) ∷ [])))
    (λ i. option_to_list (ended_of cs (suc (size * j + i)))) size
    (λ i less.
    ap (λ (l : List Bool). option_to_list (chain_of size l)) (message_bits size before cs j i less)
    ∙ ap option_to_list (front_ends size cs (suc (size * j + i)) chained (omega (arith, less, room, long, e))))

-- what bit m of a run ends, counted from 0, with the number of its half-frame
abbrev pub ending_at : ℕ → ℕ → List (List Bool) → ℕ → List (ℕ × List Bool)
ending_at size at cs m = with_number ((at + m) / size) (option_to_list (ended_of cs (suc m)))

numbered : (o : ℕ) (g : ℕ → List (List Bool)) (ks : List ℕ) →
    with_number o (flat_map g ks) ≡ flat_map (λ i. with_number o (g i)) ks
numbered o g [] = refl
numbered o g (k ∷ ks) =
    map-append (λ (c : List Bool). (o, c)) (g k) (flat_map g ks)
    ∙ ap (λ (l : List (ℕ × List Bool)). with_number o (g k) ++ l) (numbered o g ks)

-- The first j half-frames of a run, whatever was heard before, end what their bits end.
pub run_scanned : (size : ℕ) (before : List Piece) (o : ℕ) (cs : List (List Bool)) (j : ℕ) →
    0 < size → AreChained size 0 cs → j ≤ run_width size cs → scan size before o (map (run_piece size cs) (places j))
    ≡ flat_map (ending_at size (size * o) cs) (places (size * j))
run_scanned size before o cs zero large chained le =
    let e : size * zero ≡ 0 = omega arith in
    ap (scan size before o) (map-zero (run_piece size cs))
    ∙ sym (ap (λ (k : ℕ). flat_map (ending_at size (size * o) cs) (places k)) e
    ∙ flat_map-zero (ending_at size (size * o) cs))
run_scanned size before o cs (suc j) large chained le =
    let f = run_piece size cs in
    let g = ending_at size (size * o) cs in
    let e : size * j + size ≡ size * suc j = omega arith in
    let here = told_in size (before ++ map f (places j)) (f j) in
    scan-next size before o f j (length-map-places f j)
    ∙ ap (λ (l : List (ℕ × List Bool)). l ++ with_number (o + j) here)
    (run_scanned size before o cs j large chained (omega (arith, le)))
    ∙ ap (λ (l : List (ℕ × List Bool)). flat_map g (places (size * j)) ++ l)
    (ap (with_number (o + j)) (half_frame_tells size before cs j large chained le)
    ∙ numbered (o + j) (λ i. option_to_list (ended_of cs (suc (size * j + i)))) (places size)
    ∙ flat_map_ext_places (λ i. with_number (o + j) (option_to_list (ended_of cs (suc (size * j + i)))))
    (λ i. g (size * j + i)) size
    (λ i lt.
    let far : size * o + (size * j + i) ≡ (o + j) * size + i = omega arith in
    let own : (size * o + (size * j + i)) / size ≡ o + j =
    ap (λ (k : ℕ). k / size) far ∙ div-mul-add (o + j) size i lt in
    ap (λ (k : ℕ). with_number k (option_to_list (ended_of cs (suc (size * j + i))))) (sym own)))
    ∙ sym (flat_map-add g (size * j) size)
    ∙ ap (λ (k : ℕ). flat_map g (places k)) e

-- ---- bits that end a capsule

pub ended-first : (c : List Bool) (cs : List (List Bool)) (m : ℕ) → m ≡ length c → ended_of (c ∷ cs) m ≡ Some c
ended-first c cs m e =
    let a : nat_lt m (length c) ≡ false = le-ltb m (length c) (omega (arith, e)) in
    let b : nat_le m (length c) ≡ true = le-leb m (length c) (omega (arith, e)) in
    rw (a, b) refl

pub ended-before : (c : List Bool) (cs : List (List Bool)) (m : ℕ) → m < length c → ended_of (c ∷ cs) m ≡ None
ended-before c cs m less =
    let a : nat_lt m (length c) ≡ true = lt-ltb m (length c) less in rw a refl

pub ended-after : (c : List Bool) (cs : List (List Bool)) (m k : ℕ) → m ≡ length c + suc k →
    ended_of (c ∷ cs) m ≡ ended_of cs (suc k)
ended-after c cs m k e =
    let a : nat_lt m (length c) ≡ false = le-ltb m (length c) (omega (arith, e)) in
    let b : nat_le m (length c) ≡ false = lt-leb m (length c) (omega (arith, e)) in
    let d : m - length c ≡ suc k = omega (arith, e) in
    rw (a, b, d) refl

-- the bits up to the end of a capsule determine it
pub first_bits_told : (size at d : ℕ) (c : List Bool) (cs : List (List Bool)) → length c ≡ suc d →
    flat_map (ending_at size at (c ∷ cs)) (places (suc d)) ≡ ((at + length c - 1) / size, c) ∷ []
first_bits_told size at d c cs long =
    let g = ending_at size at (c ∷ cs) in
    let e : at + d ≡ at + length c - 1 = omega (arith, long) in
    flat_map-next g d
    ∙ ap (λ (l : List (ℕ × List Bool)). l ++ g d)
    (flat_map-nothing g d (λ k lt. ap (λ o. with_number ((at + k) / size) (option_to_list o))
    (ended-before c cs (suc k) (omega (arith, lt, long)))))
    ∙ ap (λ o. with_number ((at + d) / size) (option_to_list o)) (ended-first c cs (suc d) (sym long))
    ∙ ap (λ (k : ℕ). (k / size, c) ∷ []) e

-- none after all of them
pub ended-past : (cs : List (List Bool)) (m : ℕ) → length (joined cs 0) ≤ m → ended_of cs (suc m) ≡ None
ended-past [] m past = refl
ended-past (c ∷ cs) m past =
    let long = length-append c (joined cs 0) in
    let k = m - length c in
    ended-after c cs (suc m) k (omega (arith, long, past))
    ∙ ended-past cs k (omega (arith, long, past))
