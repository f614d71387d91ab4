-- The half-frames of capsules that are laid one after another, run by run.
use Rattle.paging_message.proofs.Common.{◌≡◌, ℕ, zero, suc, ◌+◌, ◌-◌, ◌*◌, ◌/◌, ◌%◌, ◌<◌, ◌≤◌, ◌==◌, ◌||◌, if◌then◌else◌, Bool, true, false}
use Rattle.paging_message.proofs.Common.{List, [], ◌∷◌, ◌++◌, length, map, take, drop, replicate, refl, sym, ap, subst, ◌∙◌, arith, inl}
use Rattle.paging_message.proofs.Common.{inr, append_assoc, length-append, flat_map, list_any, cases_Bool, eq-eqb, ne_eqb, flat_map-append}
use Rattle.paging_message.proofs.Common.{append-nil, drop-drop, drop_at, list_any-append, div-mul-add, mul-add-mod_self_left, places, Piece}
use Rattle.paging_message.proofs.Common.{mul-le-mul_left, flat_map_ext_places, flat_map-add, bits_left, IsWhole, nil_from_length, mod_self}
use Rattle.paging_message.proofs.Common.{false_from_ne_true, flat_map-zero}
use Rattle.paging_message.proofs.Layings.{any_other, below_more, below_push, framed_whole, half_front, not_begun}
use Rattle.paging_message.proofs.Runs.{joined, AreChained, length-padded, no_width, run_bits, run_piece, run_pieces, run_width}
use Rattle.paging_message.proofs.Runs.{run_width_some}
use Rattle.paging_message.proofs.Scans.{bits_of, stream}
use Rattle.paging_message.specs.Laying as laying

-- ---- runs

-- the capsules of the runs of puts, where these of the run under way went before
abbrev pub runs_put : List (List Bool) → List laying.Put → List (List (List Bool))
runs_put run [] = run ∷ []
runs_put run (p ∷ puts) =
    if p.follows then runs_put (run ++ p.capsule ∷ []) puts else run ∷ runs_put (p.capsule ∷ []) puts

pub put-follows : (run : List (List Bool)) (p : laying.Put) (puts : List laying.Put) →
    p.follows ≡ true → runs_put run (p ∷ puts) ≡ runs_put (run ++ p.capsule ∷ []) puts
put-follows run p puts t = rw t refl

pub put-begins : (run : List (List Bool)) (p : laying.Put) (puts : List laying.Put) →
    p.follows ≡ false → runs_put run (p ∷ puts) ≡ run ∷ runs_put (p.capsule ∷ []) puts
put-begins run p puts f = rw f refl

-- the half-frames of runs
abbrev pub runs_pieces : ℕ → List (List (List Bool)) → List Piece
runs_pieces size runs = flat_map (run_pieces size) runs

-- the capsules of each run are chained, and there are some
abbrev pub AreChainedRuns : ℕ → List (List (List Bool)) → Type 0
AreChainedRuns size [] = Unit {0}
AreChainedRuns size (run ∷ runs) = AreChained size 0 run × (0 < length (joined run 0)) × AreChainedRuns size runs

pub joined-push : (cs : List (List Bool)) (c : List Bool) → joined (cs ++ c ∷ []) 0 ≡ joined cs 0 ++ c
joined-push [] c = append-nil c
joined-push (d ∷ cs) c = ap (λ (l : List Bool). d ++ l) (joined-push cs c) ∙ sym (append_assoc d (joined cs 0) c)

pub turned_back : (size x : ℕ) → 0 < size → x * size / size ≡ x
turned_back size x large =
    let e : x * size ≡ x * size + 0 = omega arith in
    ap (λ (k : ℕ). k / size) e ∙ div-mul-add x size 0 large

pub whole_rows : (size n count : ℕ) → 0 < size → count ≡ size * n → count / size ≡ n
whole_rows size n count large e =
    let turned : count ≡ n * size = omega (arith, e) in
    ap (λ (k : ℕ). k / size) turned ∙ turned_back size n large

-- ---- the half-frames of one more run

-- padding, after whole half-frames
padded_after : (size n : ℕ) (front bits : List Bool) → length front ≡ size * n →
    laying.padded_to size (front ++ bits) ≡ front ++ laying.padded_to size bits
unfolding laying.fill
padded_after size n front bits long =
    let count = length bits in
    let all : length (front ++ bits) ≡ size * n + count = omega (arith, length-append front bits, long) in
    let same : (size - length (front ++ bits) % size) % size ≡ (size - count % size) % size =
    ap (λ (k : ℕ). (size - k % size) % size) all
    ∙ ap (λ (k : ℕ). (size - k) % size) (mul-add-mod_self_left size n count) in
    ap (λ (k : ℕ). (front ++ bits) ++ replicate k false) same
    ∙ append_assoc front bits (replicate ((size - count % size) % size) false)

-- which half-frames begin a run, where the last begins in half-frame n
any_from : (size n i : ℕ) (starts : List ℕ) → laying.HaveBegun size (size * n) starts →
    list_any (λ s. s == n + i) (starts ++ n ∷ []) ≡ (i == 0)
any_from size n i starts begun =
    let far : size * n ≤ size * (n + i) = mul-le-mul_left size (omega arith) in
    let none : list_any (λ s. s == n + i) starts ≡ false =
    not_begun size (n + i) (size * (n + i)) starts
    (below_more size (size * n) (size * (n + i)) starts begun far) refl in
    list_any-append (λ s. s == n + i) starts (n ∷ [])
    ∙ ap (λ (b : Bool). b || ((n == n + i) || false)) none
    ∙ last_is i
  where
    last_is : (i : ℕ) → (false || ((n == n + i) || false)) ≡ (i == 0)
    last_is zero =
        let a : (n == n + 0) ≡ true = eq-eqb n (n + 0) (omega arith) in rw a refl
    last_is (suc i) =
        let a : (n == n + suc i) ≡ false = ne_eqb n (n + suc i) (λ e. omega (arith, e)) in
        let b : (suc i == 0) ≡ false = ne_eqb (suc i) 0 (λ e. omega (arith, e)) in
        rw (a, b) refl

-- Half-frame i of the last run, which has n half-frames before it, is laid as the run's own: no
-- earlier run starts as late, so its SCI bit is set only if i is 0, and its bits are those i
-- half-frames after the first n.
half_frame_of_run : (size n i : ℕ) (starts : List ℕ) (front : List Bool)
    (cs : List (List Bool)) → laying.HaveBegun size (size * n) starts → length front ≡ size * n →
    laying.half_frame size (starts ++ n ∷ []) (front ++ run_bits size cs) (n + i) ≡ bits_of (run_piece size cs i)
half_frame_of_run size n i starts front cs begun long =
    let bits = run_bits size cs in
    let all = front ++ bits in
    let far : size * (n + i) ≡ size * n + size * i = omega arith in
    ap (λ (b : Bool). b ∷ take size (drop (size * (n + i)) all)) (any_from size n i starts begun)
    ∙ ap (λ (k : ℕ). (i == 0) ∷ take size (drop k all)) far
    ∙ ap (λ (l : List Bool). (i == 0) ∷ take size l)
    (sym (drop-drop (size * i) (size * n) all)
    ∙ ap (drop (size * i)) (drop_at front bits (size * n) long))

stream_of : (f : ℕ → Piece) (ks : List ℕ) → flat_map (λ k. bits_of (f k)) ks ≡ stream (map f ks)
stream_of f [] = refl
stream_of f (k ∷ ks) = ap (λ (l : List Bool). bits_of (f k) ++ l) (stream_of f ks)

-- a run's half-frames stand after those before it
run_laid : (size n : ℕ) (starts : List ℕ) (front : List Bool) (cs : List (List Bool)) →
    laying.HaveBegun size (size * n) starts → length front ≡ size * n →
    flat_map (laying.half_frame size (starts ++ n ∷ []) (front ++ run_bits size cs)) (places (n + run_width size cs))
    ≡ flat_map (laying.half_frame size starts front) (places n) ++ stream (run_pieces size cs)
run_laid size n starts front cs begun long =
    let half = laying.half_frame size (starts ++ n ∷ []) (front ++ run_bits size cs) in
    let w = run_width size cs in
    flat_map-add half n w
    ∙ ap (λ (l : List Bool). l ++ flat_map (λ i. half (n + i)) (places w))
    (flat_map_ext_places half (laying.half_frame size starts front) n
    (λ h lt. half_front size n h starts (starts ++ n ∷ []) front (run_bits size cs) long lt (any_other h n starts lt)))
    ∙ ap (λ (l : List Bool). flat_map (laying.half_frame size starts front) (places n) ++ l)
    (flat_map_ext_places (λ i. half (n + i)) (λ i. bits_of (run_piece size cs i)) w
    (λ i lt. half_frame_of_run size n i starts front cs begun long)
    ∙ stream_of (run_piece size cs) (places w))

-- ---- what is laid while a run is under way

abbrev pub under_way : List ℕ → ℕ → List Bool → List Bool → laying.Laid
under_way starts n front bits = record { body = front ++ bits; starts = starts ++ n ∷ [] }

laid-follows : (size : ℕ) (starts : List ℕ) (n : ℕ) (front bits c : List Bool) (follow : Bool) → follow ≡ true →
    laying.laid_on size (under_way starts n front bits) follow c ≡ under_way starts n front (bits ++ c)
unfolding laying.laid_on
laid-follows size starts n front bits c follow t =
    rw t (ap (λ (l : List Bool). let x : laying.Laid =
    record { body = l; starts = starts ++ n ∷ [] } in x) (append_assoc front bits c))

-- A capsule that doesn't follow the one before it begins a run: the bits of the run before are
-- filled with zeros up to w half-frames, so what is laid is n + w whole ones, and the capsule
-- starts at the next.
laid-begins : (size : ℕ) (starts : List ℕ) (n w : ℕ) (front bits c : List Bool) (follow : Bool) →
    0 < size → follow ≡ false → length front ≡ size * n → length (laying.padded_to size bits) ≡ size * w →
    laying.laid_on size (under_way starts n front bits) follow c
    ≡ under_way (starts ++ n ∷ []) (n + w) (front ++ laying.padded_to size bits) c
unfolding laying.laid_on
laid-begins size starts n w front bits c follow large f long own =
    let padded' = front ++ laying.padded_to size bits in
    let same = padded_after size n front bits long in
    let rows : length padded' / size ≡ n + w =
    whole_rows size (n + w) (length padded') large
    (omega (arith, length-append front (laying.padded_to size bits), long, own)) in
    rw f (ap (λ (l : List Bool). let x : laying.Laid =
    record { body = l ++ c; starts = (starts ++ n ∷ []) ++ length l / size ∷ [] } in x) same
    ∙ ap (λ (k : ℕ). let x : laying.Laid =
    record { body = padded' ++ c; starts = (starts ++ n ∷ []) ++ k ∷ [] } in x) rows)

-- no zeros fill half-frames of which none has begun
pub none_padded : (size : ℕ) → 0 < size → laying.padded_to size [] ≡ []
none_padded size large =
    nil_from_length (laying.padded_to size [])
    (length-padded size [] large ∙ ap (λ (n : ℕ). size * n) (no_width size large) ∙ omega arith)

-- the first capsule
pub first_laid : (size : ℕ) (c : List Bool) (follow : Bool) → 0 < size → follow ≡ false →
    laying.laid_on size laying.nothing_laid follow c ≡ under_way [] 0 [] c
unfolding laying.laid_on
first_laid size c follow large f =
    let none = none_padded size large in
    let rows : length (laying.padded_to size []) / size ≡ 0 =
    whole_rows size 0 (length (laying.padded_to size [])) large (ap length none ∙ omega arith) in
    rw f (ap (λ (k : ℕ). let x : laying.Laid =
    record { body = laying.padded_to size [] ++ c; starts = k ∷ [] } in x) rows
    ∙ ap (λ (l : List Bool). let x : laying.Laid =
    record { body = l ++ c; starts = 0 ∷ [] } in x) none)

-- What is laid is sent as the half-frames of the runs before, and then those of the last run:
-- together they are n + w half-frames when the last run is filled with zeros, and no start of one
-- run lies in another.
last_run_laid : (size : ℕ) (starts : List ℕ) (n : ℕ) (front : List Bool)
    (cs : List (List Bool)) → 0 < size → laying.HaveBegun size (size * n) starts → length front ≡ size * n →
    laying.half_frames_of size (under_way starts n front (joined cs 0))
    ≡ flat_map (laying.half_frame size starts front) (places n) ++ stream (run_pieces size cs)
unfolding laying.half_frames_of
last_run_laid size starts n front cs large begun long =
    let w = run_width size cs in
    let all = front ++ run_bits size cs in
    let count : length all ≡ size * (n + w) =
    omega (arith, length-append front (run_bits size cs), long, length-padded size (joined cs 0) large) in
    ap (λ (l : List Bool). laying.framed size (record { body = l; starts = starts ++ n ∷ [] }))
    (padded_after size n front (joined cs 0) long)
    ∙ framed_whole size (n + w) (starts ++ n ∷ []) all large count
    ∙ run_laid size n starts front cs begun long

-- a put that begins a run after the one under way
begun_next : (size n w : ℕ) (starts : List ℕ) → 0 < size → 0 < w → laying.HaveBegun size (size * n) starts →
    laying.HaveBegun size (size * (n + w)) (starts ++ n ∷ [])
begun_next size n w starts large more begun =
    let next : size * suc n ≤ size * (n + w) = mul-le-mul_left size (omega (arith, more)) in
    let turned : size * suc n ≡ n * size + size = omega arith in
    below_push size (size * (n + w)) n starts
    (below_more size (size * n) (size * (n + w)) starts begun (mul-le-mul_left size (omega arith)))
    (omega (arith, next, turned, large))

-- each capsule has some bits
abbrev pub AreSome : List laying.Put → Type 0
AreSome [] = Unit {0}
AreSome (p ∷ puts) = (0 < length p.capsule) × AreSome puts

-- The half-frames of puts after the runs before, of which the last is under way, by induction over
-- the puts: one that follows makes the run longer, and any other ends the run with zeros and begins
-- the next one at a half-frame.
pub puts_laid : (size : ℕ) (puts : List laying.Put) (run : List (List Bool)) (starts : List ℕ)
    (n : ℕ) (front : List Bool) → 0 < size → AreSome puts → 0 < length (joined run 0) →
    laying.HaveBegun size (size * n) starts → length front ≡ size * n →
    laying.half_frames_of size (laying.laid_all size (under_way starts n front (joined run 0)) puts)
    ≡ flat_map (laying.half_frame size starts front) (places n) ++ stream (runs_pieces size (runs_put run puts))
puts_laid size [] run starts n front large each some begun long =
    last_run_laid size starts n front run large begun long
    ∙ ap (λ (l : List Piece). flat_map (laying.half_frame size starts front) (places n) ++ stream l)
    (sym (append-nil (run_pieces size run)))
puts_laid size (p ∷ puts) run starts n front large each some begun long =
    let c = p.capsule in
    let bits = joined run 0 in
    let before = flat_map (laying.half_frame size starts front) (places n) in
    let all = λ (l : laying.Laid). laying.half_frames_of size (laying.laid_all size l puts) in
    elim (cases_Bool p.follows) [
      | inl t ↦
          let push = joined-push run c in
          ap all (laid-follows size starts n front bits c p.follows t
          ∙ ap (under_way starts n front) (sym push))
          ∙ puts_laid size puts (run ++ c ∷ []) starts n front large each.1
          (omega (arith, some, ap length push, length-append bits c)) begun long
          ∙ ap (λ (runs : List (List (List Bool))). before ++ stream (runs_pieces size runs))
          (sym (put-follows run p puts t))
      | inr f ↦
          let w = run_width size run in
          let own = length-padded size bits large in
          let front' = front ++ run_bits size run in
          let rest = runs_put (c ∷ []) puts in
          let long' : length front' ≡ size * (n + w) =
          omega (arith, length-append front (run_bits size run), long, own) in
          let one : c ≡ joined (c ∷ []) 0 = sym (append-nil c) in
          ap all (laid-begins size starts n w front bits c p.follows large f long own
          ∙ ap (under_way (starts ++ n ∷ []) (n + w) front') one)
          ∙ puts_laid size puts (c ∷ []) (starts ++ n ∷ []) (n + w) front' large each.1
          (omega (arith, each.0, ap length one))
          (begun_next size n w starts large (run_width_some size run large some) begun) long'
          ∙ ap (λ (l : List Bool). l ++ stream (runs_pieces size rest)) (run_laid size n starts front run begun long)
          ∙ append_assoc before (stream (run_pieces size run)) (stream (runs_pieces size rest))
          ∙ ap (λ (l : List Bool). before ++ l)
          (sym (flat_map-append bits_of (run_pieces size run) (runs_pieces size rest)))
          ∙ ap (λ (runs : List (List (List Bool))). before ++ stream (runs_pieces size runs))
          (sym (put-begins run p puts f))
    ]

-- ---- chained capsules

-- A whole capsule can be put at the end of a chain that leaves it eight bits of a half-frame, by
-- induction over the chain: the capsules before the last have their room already, and the last
-- one's is what is asked for.
chained-push : (size at : ℕ) (cs : List (List Bool)) (c : List Bool) → AreChained size at cs →
    (0 < length (joined cs 0) → 8 ≤ bits_left size (at + length (joined cs 0))) → IsWhole c →
    AreChained size at (cs ++ c ∷ [])
chained-push size at [] c chained room whole = (whole, tt, tt)
chained-push size at (d ∷ []) c chained room whole =
    let own = chained.0 in
    let long = length-append d [] in
    let e : at + length (d ++ []) ≡ at + length d = omega (arith, long) in (
      own,
      subst (λ (n : ℕ). 8 ≤ bits_left size n) e (room (omega (arith, own.told, long))),
      (whole, tt, tt),
    )
chained-push size at (d ∷ d' ∷ cs) c chained room whole =
    let own = chained.0 in
    let rest = joined (d' ∷ cs) 0 in
    let long = length-append d rest in
    let e : at + length (d ++ rest) ≡ at + length d + length rest = omega (arith, long) in (
      own,
      chained.1,
      chained-push size (at + length d) (d' ∷ cs) c chained.2
          (λ some. subst (λ (n : ℕ). 8 ≤ bits_left size n) e
          (room (omega (arith, own.told, long)))) whole,
    )

left_within : (size n count : ℕ) → bits_left size (size * n + count) ≡ bits_left size count
unfolding bits_left
left_within size n count = ap (λ (k : ℕ). (size - k) % size) (mul-add-mod_self_left size n count)

-- Lawful puts after the runs before, of which the last is under way, make chained runs, by induction
-- over the puts: one that follows has the eight bits that it needs left in its half-frame and goes
-- on with the chain, and any other is a whole capsule that begins a chain of its own.
pub puts_chained : (size : ℕ) (puts : List laying.Put) (run : List (List Bool))
    (starts : List ℕ) (n : ℕ) (front : List Bool) → 0 < size → length front ≡ size * n →
    AreChained size 0 run → 0 < length (joined run 0) →
    laying.AreLawful size (under_way starts n front (joined run 0)) puts → AreChainedRuns size (runs_put run puts)
puts_chained size [] run starts n front large long chained some lawful = (chained, some, tt)
puts_chained size (p ∷ puts) run starts n front large long chained some lawful =
    let c = p.capsule in
    let bits = joined run 0 in
    let whole = lawful.0 in
    let lawful_on = λ (l : laying.Laid). laying.AreLawful size l puts in
    elim (cases_Bool p.follows) [
      | inl t ↦
          let push = joined-push run c in
          let all : length (front ++ bits) ≡ size * n + length bits = omega (arith, length-append front bits, long) in
          let room : 8 ≤ bits_left size (length bits) =
          subst (λ (k : ℕ). 8 ≤ k) (ap (bits_left size) all ∙ left_within size n (length bits)) (lawful.1 t) in
          subst (AreChainedRuns size) (sym (put-follows run p puts t))
          (puts_chained size puts (run ++ c ∷ []) starts n front large long
          (chained-push size 0 run c chained (λ s. subst (λ (k : ℕ). 8 ≤ bits_left size k)
          (let z : length bits ≡ 0 + length bits = omega arith in z) room) whole)
          (omega (arith, some, ap length push, length-append bits c))
          (subst lawful_on (laid-follows size starts n front bits c p.follows t
          ∙ ap (under_way starts n front) (sym push)) lawful.2))
      | inr f ↦
          let w = run_width size run in
          let own = length-padded size bits large in
          let front' = front ++ run_bits size run in
          let long' : length front' ≡ size * (n + w) =
          omega (arith, length-append front (run_bits size run), long, own) in
          let one : c ≡ joined (c ∷ []) 0 = sym (append-nil c) in
          let rest = puts_chained size puts (c ∷ []) (starts ++ n ∷ []) (n + w) front' large long'
          (whole, tt, tt) (omega (arith, whole.told, ap length one))
          (subst lawful_on (laid-begins size starts n w front bits c p.follows large f long own
          ∙ ap (under_way (starts ++ n ∷ []) (n + w) front') one) lawful.2) in
          subst (AreChainedRuns size) (sym (put-begins run p puts f)) (chained, some, rest)
    ]

-- ---- from the first put on

none_left : (size : ℕ) → 0 < size → bits_left size 0 ≡ 0
unfolding bits_left
none_left size large =
    let all : size - 0 % size ≡ size = omega (arith, zero_mod size) in
    ap (λ (k : ℕ). k % size) all ∙ mod_self size
  where
    zero_mod : (size : ℕ) → 0 % size ≡ 0
    zero_mod size = omega arith

-- the first put follows none
pub first_put_begins : (size : ℕ) (p : laying.Put) (puts : List laying.Put) → 0 < size →
    laying.AreLawful size laying.nothing_laid (p ∷ puts) → p.follows ≡ false
first_put_begins size p puts large lawful =
    false_from_ne_true p.follows (λ t. let room = lawful.1 t in omega (arith, room, none_left size large))

first_way : (size : ℕ) (p : laying.Put) → 0 < size → p.follows ≡ false →
    laying.laid_on size laying.nothing_laid p.follows p.capsule ≡ under_way [] 0 [] (joined (p.capsule ∷ []) 0)
first_way size p large f =
    first_laid size p.capsule p.follows large f
    ∙ ap (under_way [] 0 []) (sym (append-nil p.capsule))

-- puts lay the half-frames of their runs
pub first_puts_laid : (size : ℕ) (p : laying.Put) (puts : List laying.Put) → 0 < size →
    p.follows ≡ false → AreSome (p ∷ puts) →
    laying.half_frames_of size (laying.laid_all size laying.nothing_laid (p ∷ puts))
    ≡ stream (runs_pieces size (runs_put (p.capsule ∷ []) puts))
first_puts_laid size p puts large f each =
    let c = p.capsule in
    let none : 0 ≡ size * 0 = omega arith in
    ap (λ (l : laying.Laid). laying.half_frames_of size (laying.laid_all size l puts)) (first_way size p large f)
    ∙ puts_laid size puts (c ∷ []) [] 0 [] large each.1 (omega (arith, each.0, length-append c [])) tt none
    ∙ ap (λ (l : List Bool). l ++ stream (runs_pieces size (runs_put (c ∷ []) puts)))
    (flat_map-zero (laying.half_frame size [] []))

-- and lawful ones make chained runs
pub first_puts_chained : (size : ℕ) (p : laying.Put) (puts : List laying.Put) → 0 < size →
    laying.AreLawful size laying.nothing_laid (p ∷ puts) → AreChainedRuns size (runs_put (p.capsule ∷ []) puts)
first_puts_chained size p puts large lawful =
    let c = p.capsule in
    let whole = lawful.0 in
    puts_chained size puts (c ∷ []) [] 0 [] large (omega arith) (whole, tt, tt)
    (omega (arith, whole.told, length-append c []))
    (subst (λ (l : laying.Laid). laying.AreLawful size l puts)
    (first_way size p large (first_put_begins size p puts large lawful)) lawful.2)

pub lawful_some : (size : ℕ) (l : laying.Laid) (puts : List laying.Put) → laying.AreLawful size l puts → AreSome puts
lawful_some size l [] lawful = tt
lawful_some size l (p ∷ puts) lawful = (
  omega (arith, lawful.0.told),
  lawful_some size (laying.laid_on size l p.follows p.capsule) puts lawful.2,
)
