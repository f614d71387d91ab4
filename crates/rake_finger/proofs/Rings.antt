-- Places in a ring.
use Rattle.rake_finger.proofs.Common.{◌≡◌, ◌≢◌, ℕ, ◌+◌, ◌/◌, ◌%◌, ◌<◌, ◌≤◌, List, [], ◌∷◌, ◌++◌, length, get_or, take, drop, refl, sym, ap}
use Rattle.rake_finger.proofs.Common.{◌∙◌, arith, length-append, inl, inr, pos, Some, set, cases_lt, cases_order, div-add-mod', mul-le}
use Rattle.rake_finger.proofs.Common.{get_or-set_same, get_or-set_other, get_or_append_left, get_or_push, get_or-take, get_or-drop, Sample}
use Rattle.rake_finger.proofs.Common.{length-take-le, length-drop, take_more, take_more_set, take_all, ext_get_or, slice_get, mod-add-mod}
use Rattle.rake_finger.proofs.Common.{mod-eq_of_lt, get_or_from_slice_get, Held, HoldsLast}

-- two places that share a cell are a whole room apart
pub apart : (i j room : ℕ) → i < j → j < i + room → ¬ (i % room ≡ j % room)
apart i j room less near same =
    let a = div-add-mod' i room in
    let b = div-add-mod' j room in
    elim (cases_lt (i / room) (j / room)) [
      | inl below ↦ let m = mul-le (i / room + 1) room (j / room) room (omega arith) (omega arith) in omega arith
      | inr over ↦ let m = mul-le (j / room) room (i / room) room over (omega arith) in omega arith
    ]

pub held_more : {A : Type 0} (cells samples : List A) (x : A) (room : ℕ) → 1 ≤ room → length cells ≡ room →
    ((i : ℕ) (d : A) → i < length samples → length samples ≤ i + room →
    get_or cells (i % room) d ≡ get_or samples i d) →
    (i : ℕ) (d : A) → i < length samples + 1 → length samples + 1 ≤ i + room →
    get_or (set cells (length samples % room) x) (i % room) d ≡ get_or (samples ++ x ∷ []) i d
held_more cells samples x room some long held i d h near =
    let within : length samples % room < length cells = omega arith in
    elim (cases_order i (length samples)) [
      | inl e ↦ rw (e, get_or-set_same cells (length samples % room) x d within)
          (sym (get_or_push samples x d (length samples) refl))
      | inr (inl less) ↦
          let ne : i % room ≢ length samples % room = λ same. apart i (length samples) room less (omega arith) same in
          rw (
            get_or-set_other cells (length samples % room) (i % room) x d ne,
            get_or_append_left samples (x ∷ []) d i less,
          ) (held i d less (omega arith))
      | inr (inr more) ↦ absurd (omega arith)
    ]

-- what a ring holds after one more sample
pub HoldsLast-more : (cells samples : List Sample) (x : Sample) (room taken room' : ℕ) → 1 ≤ room →
    length cells ≡ room → room' ≡ room →
    HoldsLast (record { room = room; taken = taken; cells = cells }) samples →
    HoldsLast (record { room = room'; taken = taken + 1; cells = set cells (taken % room) x }) (samples ++ x ∷ [])
HoldsLast-more cells samples x room taken room' some long same h =
    let more = length-append samples (x ∷ []) in
    let t = h.taken in record {
      taken = omega (arith, more, t);
      last = λ i d lt near. rw (same, t)
          (held_more cells samples x room some long h.last i d (omega (arith, lt, more))
          (omega (arith, near, more, same)));
    }

-- what stands in the cell of a place that the ring still holds
pub held_sample : (ring : Held) (samples : List Sample) (place cell : ℕ) (x : Sample) →
    HoldsLast ring samples → place < ring.taken → ring.taken ≤ place + ring.room →
    cell ≡ place % ring.room → slice_get ring.cells cell ≡ Some x → get_or samples place x ≡ x
held_sample ring samples place cell x h taken kept at got =
    let t = h.taken in
    sym (h.last place x (omega (arith, taken, t)) (omega (arith, kept, t)))
    ∙ ap (λ (n : ℕ). get_or ring.cells n x) (sym at)
    ∙ get_or_from_slice_get ring.cells cell x x got

pub next_cell : (place k cell next room : ℕ) → cell ≡ (place + k) % room →
    next ≡ (cell + 1) % room → next ≡ (place + (k + 1)) % room
next_cell place k cell next room at is =
    let sum : place + k + 1 ≡ place + (k + 1) = omega arith in
    is ∙ ap (λ (n : ℕ). (n + 1) % room) at ∙ mod-add-mod (place + k) room 1 ∙
    ap (λ (n : ℕ). n % room) sum

-- one sample more is copied
pub copied_more : {A : Type 0} (copy samples : List A) (k : ℕ) (x : A) → k < length copy →
    k < length samples → get_or samples k x ≡ x → take k copy ≡ take k samples →
    take (k + 1) (set copy k x) ≡ take (k + 1) samples
copied_more copy samples k x room lt read same =
    take_more_set copy k x room
    ∙ ap (λ xs. xs ++ x ∷ []) same
    ∙ sym (take_more samples k x lt ∙ ap (λ y. take k samples ++ y ∷ []) read)

pub copied_all : {A : Type 0} (copy samples : List A) (k n : ℕ) → k ≡ n → length copy ≡ n →
    take k copy ≡ take k samples → copy ≡ take n samples
copied_all copy samples k n done long same =
    sym (take_all k copy (omega (arith, done, long))) ∙ same ∙ ap (λ m. take m samples) done

-- the cell that is next, after one that was
pub cell_further : (taken taken' room room' cell next : ℕ) → cell ≡ taken % room →
    next ≡ (cell + 1) % room' → taken' ≡ taken + 1 → room' ≡ room → next ≡ taken' % room'
cell_further taken taken' room room' cell next at is more same =
    is ∙ ap (λ (n : ℕ). (cell + 1) % n) same ∙ ap (λ (n : ℕ). (n + 1) % room) at
    ∙ mod-add-mod taken room 1 ∙ ap (λ (n : ℕ). n % room) (sym more)
    ∙ ap (λ (n : ℕ). taken' % n) (sym same)

-- the samples in cells side by side are those from a place on
pub run_is : (ring : Held) (samples run : List Sample) (place count cell : ℕ) →
    place + count ≤ ring.taken → ring.taken ≤ place + ring.room → HoldsLast ring samples →
    cell ≡ place % ring.room → cell + count ≤ ring.room → length run ≡ count →
    run ≡ take count (drop cell ring.cells) → run ≡ take count (drop place samples)
run_is ring samples run place count cell taken kept h at room long is =
    ext_get_or none run (take count (drop place samples))
    (long ∙ sym (length-take-le count (drop place samples) (omega (arith, length-drop place samples, h.taken, taken))))
    (λ i lt. each i (omega (arith, lt, long)))
  where
    none : Sample
    none = record { i = pos 0; q = pos 0 }

    cell_ahead : (i : ℕ) → i < count → cell + i ≡ (place + i) % ring.room
    cell_ahead i lt =
        let near : place % ring.room + i < ring.room = omega (arith, at, room, lt) in
        ap (λ (n : ℕ). n + i) at ∙ sym (mod-eq_of_lt near) ∙ mod-add-mod place ring.room i

    each : (i : ℕ) → i < count → get_or run i none ≡ get_or (take count (drop place samples)) i none
    each i lt =
        ap (λ (xs : List Sample). get_or xs i none) is
        ∙ get_or-take count (drop cell ring.cells) i none lt
        ∙ get_or-drop cell ring.cells i none
        ∙ ap (λ (k : ℕ). get_or ring.cells k none) (cell_ahead i lt)
        ∙ h.last (place + i) none (omega (arith, lt, taken, h.taken)) (omega (arith, kept, h.taken))
        ∙ sym (get_or-take count (drop place samples) i none lt
        ∙ get_or-drop place samples i none)
