-- Adding soft values up, symbol by symbol and finger by finger.
use Rattle.rake_finger.proofs.Common.{◌≡◌, ◌≢◌, ℕ, ◌+◌, ◌*◌, ◌/◌, ◌^◌, ◌<◌, ◌≤◌, List, [], ◌∷◌, ◌++◌, length, get_or, map, take, sym, ap, ℤ}
use Rattle.rake_finger.proofs.Common.{◌∙◌, arith, ⊎_elim, inl, inr, pos, ◌+ℤ◌, unsigned_abs, Some, sum_by, set, slice_get, ints, cases_lt}
use Rattle.rake_finger.proofs.Common.{cases_order, get_or-set_same, get_or-set_other, take_more, map-append, All-from_get_or, total, Sample}
use Rattle.rake_finger.proofs.Common.{get_or_from_slice_get, slice_get_within, AreWithin, IsAdded, Held, HoldsLast, symbol_chips, symbols}
use Rattle.rake_finger.proofs.Common.{window_chips, windows, window_symbols, soft, softs, soft_bound, Finger, Form, Sync, Data}
use Rattle.std.proofs.lemmas.List.Sums.{sum_by-le}
use Rattle.chip_core.proofs.Places.{map-places-all}

-- FORMS
pub window_of : (form : Form) (window symbol : ℕ) → window_symbols form * window ≤ symbol →
    symbol < window_symbols form * window + window_symbols form →
    symbol_chips form * symbol / window_chips form ≡ window
window_of Sync window symbol low high = omega (arith, low, high)
window_of Data window symbol low high = omega (arith, low, high)

pub symbol_within : (form : Form) (window symbol : ℕ) → window < windows form →
    symbol < window_symbols form * window + window_symbols form → symbol < symbols form
symbol_within Sync window symbol lt high = omega (arith, lt, high)
symbol_within Data window symbol lt high = omega (arith, lt, high)

pub soft_bound-most : (form : Form) → soft_bound form ≤ 2 ^ 51
soft_bound-most Sync = omega arith
soft_bound-most Data = omega arith

-- ONE FINGER
-- One soft value more is added to its entry: that entry held what was there before and now holds
-- the finger's value on top, the entries before it are done already, and those after it are as they
-- were.
pub IsAdded-more : (ring : Held) (finger : Finger) (form : Form) (start done : ℕ) (old new : List ℤ) (value entry : ℤ) →
    IsAdded ring finger form start done old new → done < length new →
    ((samples : List Sample) → HoldsLast ring samples →
    value ≡ soft samples finger form start done) →
    unsigned_abs value ≤ soft_bound form → entry ≡ get_or new done (pos 0) +ℤ value →
    IsAdded ring finger form start (done + 1) old (set new done entry)
IsAdded-more ring finger form start done old new value entry h room is small added =
    let same = get_or-set_same new done entry (pos 0) room in
    let before = h.others done (omega arith) in
    record {
      values = λ samples held j lt. elim (cases_order j done) [
        | inl e ↦ rw (e, same) (added ∙ ap (λ (z : ℤ). z +ℤ value) before ∙
            ap (λ (z : ℤ). get_or old done (pos 0) +ℤ z) (is samples held))
        | inr (inl less) ↦ let ne : j ≢ done = omega arith in
            get_or-set_other new done j entry (pos 0) ne ∙ h.values samples held j less
        | inr (inr more) ↦ absurd (omega (arith, lt, more))
      ];
      others = λ j le. let ne : j ≢ done = omega (arith, le) in
          get_or-set_other new done j entry (pos 0) ne ∙ h.others j (omega (arith, le));
      bound = λ j lt. elim (cases_order j done) [
        | inl e ↦ rw (e, same) (omega (arith, ints, added, before, small))
        | inr (inl less) ↦ let ne : j ≢ done = omega arith in
            let kept = get_or-set_other new done j entry (pos 0) ne in
            let b = h.bound j less in omega (arith, ap (λ (z : ℤ). unsigned_abs z) kept, b)
        | inr (inr more) ↦ absurd (omega (arith, lt, more))
      ];
    }

-- every entry has grown by one value at most
pub IsAdded-within : (ring : Held) (finger : Finger) (form : Form) (start done bound : ℕ) (old new : List ℤ) →
    IsAdded ring finger form start done old new → AreWithin bound old → AreWithin (bound + soft_bound form) new
IsAdded-within ring finger form start done bound old new h small = record {
  within = λ j. ⊎_elim (λ lt. let b = h.bound j lt in let s = small.within j in omega (arith, b, s))
      (λ le. let e = ap (λ (z : ℤ). unsigned_abs z) (h.others j le) in
      let s = small.within j in omega (arith, e, s))
      (cases_lt j done);
}

-- SEVERAL FINGERS
total-push : (xs : List ℤ) (x : ℤ) → total (xs ++ x ∷ []) ≡ total xs +ℤ x
total-push [] x = omega (arith, ints)
total-push (y ∷ xs) x = rw (total-push xs x) (omega (arith, ints))

pub total_more : (f : Finger → ℤ) (xs : List Finger) (i : ℕ) (x : Finger) → slice_get xs i ≡ Some x →
    total (map f (take (i + 1) xs)) ≡ total (map f (take i xs)) +ℤ f x
total_more f xs i x got =
    let within : i < length xs = slice_get_within xs i x got in
    let read : get_or xs i x ≡ x = get_or_from_slice_get xs i x x got in
    ap (λ (ys : List Finger). total (map f ys)) (take_more xs i x within ∙
    ap (λ (y : Finger). take i xs ++ y ∷ []) read)
    ∙ ap total (map-append f (take i xs) (x ∷ [])) ∙ total-push (map f (take i xs)) (f x)

-- the entries are the sums over the first `count` fingers
pub record IsSummed (ring : Held) (fingers : List Finger) (form : Form) (start count : ℕ)
    (out : List ℤ) : Type 0 where
  pub values : (samples : List Sample) → HoldsLast ring samples → (j : ℕ) → j < symbols form →
      get_or out j (pos 0) ≡ total (map (λ f. soft samples f form start j) (take count fingers))
  pub within : AreWithin (count * soft_bound form) out

pub IsSummed-more : (ring : Held) (fingers : List Finger) (form : Form) (start i : ℕ)
    (finger : Finger) (old new : List ℤ) → IsSummed ring fingers form start i old → slice_get fingers i ≡ Some finger →
    IsAdded ring finger form start (symbols form) old new → IsSummed ring fingers form start (i + 1) new
IsSummed-more ring fingers form start i finger old new h got added = record {
  values = λ samples held j lt.
      added.values samples held j lt
      ∙ ap (λ (z : ℤ). z +ℤ soft samples finger form start j) (h.values samples held j lt)
      ∙ sym (total_more (λ f. soft samples f form start j) fingers i finger got);
  within = let size : (i + 1) * soft_bound form ≡ i * soft_bound form + soft_bound form = omega arith in
      rw size (IsAdded-within ring finger form start (symbols form) (i * soft_bound form) old new
      added h.within);
}

pub softs_are : (ring : Held) (fingers : List Finger) (form : Form) (start count : ℕ) (out : List ℤ)
    (samples : List Sample) → IsSummed ring fingers form start count out → length out ≡ symbols form →
    HoldsLast ring samples → take count fingers ≡ fingers → out ≡ softs samples fingers form start
unfolding softs
softs_are ring fingers form start count out samples h long held all =
    map-places-all (λ j. total (map (λ f. soft samples f form start j) fingers)) out (symbols form) (pos 0) long
    (λ j lt. h.values samples held j lt ∙
    ap (λ (fs : List Finger). total (map (λ f. soft samples f form start j) fs)) all)

-- so the absolute values of a frame add up to little
pub sum_within : (form : Form) (count fingers : ℕ) (out : List ℤ) → length out ≡ symbols form →
    count ≡ fingers → AreWithin (count * soft_bound form) out →
    sum_by unsigned_abs out ≤ fingers * (symbols form * soft_bound form)
sum_within form count fingers out long all h =
    let size : fingers * (symbols form * soft_bound form) ≡
    symbols form * (fingers * soft_bound form) = omega arith in
    let most =
    sum_by-le unsigned_abs (count * soft_bound form) out
    (All-from_get_or (λ z. unsigned_abs z ≤ count * soft_bound form) out (pos 0) (λ j lt. h.within j)) in
    rw (size, ← all, ← long) most
