-- A stage of butterflies, entry after entry.
use Rattle.walsh.proofs.Common.{◌≡◌, ◌≢◌, ℕ, suc, ◌+◌, ◌-◌, ◌*◌, ◌%◌, ◌^◌, ◌<◌, ◌≤◌, Bool, true, false, List, length, set, refl, sym, ap}
use Rattle.walsh.proofs.Common.{subst, ◌∙◌, arith, bit_and, ⊎_elim, get_or-set_other, get_or-set_same, length-set, ints, cases_eq, pow_pos}
use Rattle.walsh.proofs.Common.{bit_of, Pair, IsWithin}
use Rattle.std.proofs.Math.Pow.{pow_mono}
use Rattle.chip_core.specs.Complex.{origin, plus}
use Rattle.walsh.specs.Butterfly.{minus, entry, butterfly, IsStage, EntriesAreWithin}
use Rattle.walsh.proofs.Pairing.{low, high, is_clear, shifted}

-- the two entries of each butterfly whose lower place is below `low` are done, and the others stand
-- as they were
pub record IsPartway (bit low : ℕ) (old new : List Pair) : Type 0 where
  pub long : length new ≡ 64
  pub done_low : (m : ℕ) → m < 64 → bit_of m bit ≡ false → m < low → entry new m ≡ butterfly bit old m
  pub done_high : (m : ℕ) → m < 64 → bit_of m bit ≡ true → m - 2 ^ bit < low → entry new m ≡ butterfly bit old m
  pub kept_low : (m : ℕ) → m < 64 → bit_of m bit ≡ false → low ≤ m → entry new m ≡ entry old m
  pub kept_high : (m : ℕ) → m < 64 → bit_of m bit ≡ true → low ≤ m - 2 ^ bit → entry new m ≡ entry old m

pub starts : (bit : ℕ) (old : List Pair) → length old ≡ 64 → IsPartway bit 0 old old
starts bit old h = record {
  long = h;
  done_low = λ m small clear less. absurd (omega (arith, less));
  done_high = λ m small set less. absurd (omega (arith, less));
  kept_low = λ m small clear more. refl;
  kept_high = λ m small set more. refl;
}

butterfly_low : (bit : ℕ) (old : List Pair) (m : ℕ) → bit_of m bit ≡ false →
    butterfly bit old m ≡ plus (entry old m) (entry old (m + 2 ^ bit))
unfolding butterfly
butterfly_low bit old m e = rw e

butterfly_high : (bit : ℕ) (old : List Pair) (m : ℕ) → bit_of m bit ≡ true →
    butterfly bit old m ≡ minus (entry old (m - 2 ^ bit)) (entry old m)
unfolding butterfly
butterfly_high bit old m e = rw e

-- the entries of the next butterfly
pub first_is : (bit l : ℕ) (old new : List Pair) → IsPartway bit l old new → l < 64 →
    bit_of l bit ≡ false → entry new l ≡ entry old l
first_is bit l old new h small clear = h.kept_low l small clear (omega arith)

pub second_is : (bit l : ℕ) (old new : List Pair) → bit < 6 → IsPartway bit l old new → l < 64 →
    bit_of l bit ≡ false → entry new (l + 2 ^ bit) ≡ entry old (l + 2 ^ bit)
second_is bit l old new p h small clear =
    let is = low bit l p small clear in
    h.kept_high (l + 2 ^ bit) is.room is.partner (omega arith)

apart : (m l bit : ℕ) → bit_of m bit ≡ true → bit_of l bit ≡ false → m ≢ l
apart m l bit p q e = let same : bit_of m bit ≡ bit_of l bit = ap (λ (k : ℕ). bit_of k bit) e in cc

-- it is done
pub moves : (bit l : ℕ) (old new : List Pair) (x y : Pair) → bit < 6 → l < 64 →
    bit_of l bit ≡ false → IsPartway bit l old new → x ≡ plus (entry new l) (entry new (l + 2 ^ bit)) →
    y ≡ minus (entry new l) (entry new (l + 2 ^ bit)) → IsPartway bit (l + 1) old (set (set new l x) (l + 2 ^ bit) y)
moves bit l old new x y p small clear h e f =
    let is = low bit l p small clear in
    let some : 0 < 2 ^ bit = pow_pos bit in
    let size : length (set new l x) ≡ 64 = length-set new l x ∙ h.long in
    let here : l < length new = omega (arith, h.long, small) in
    let there : l + 2 ^ bit < length (set new l x) = omega (arith, size, is.room) in
    let first = first_is bit l old new h small clear in
    let second = second_is bit l old new p h small clear in
    let sum : x ≡ butterfly bit old l = e ∙
    ap (λ (a : Pair). plus a (entry new (l + 2 ^ bit))) first ∙ ap (plus (entry old l)) second ∙
    sym (butterfly_low bit old l clear) in
    let back : l + 2 ^ bit - 2 ^ bit ≡ l = omega arith in
    let difference : y ≡ butterfly bit old (l + 2 ^ bit) =
    f ∙ ap (λ (a : Pair). minus a (entry new (l + 2 ^ bit))) first ∙ ap (minus (entry old l)) second
    ∙ ap (λ (k : ℕ). minus (entry old k) (entry old (l + 2 ^ bit))) (sym back) ∙
    sym (butterfly_high bit old (l + 2 ^ bit) is.partner) in
    let others : (m : ℕ) → m ≢ l → m ≢ l + 2 ^ bit →
    entry (set (set new l x) (l + 2 ^ bit) y) m ≡ entry new m =
    λ m a b. get_or-set_other (set new l x) (l + 2 ^ bit) m y origin b ∙
    get_or-set_other new l m x origin a in
    let at_first : entry (set (set new l x) (l + 2 ^ bit) y) l ≡ x =
    get_or-set_other (set new l x) (l + 2 ^ bit) l y origin (omega (arith, some)) ∙
    get_or-set_same new l x origin here in
    let at_second : entry (set (set new l x) (l + 2 ^ bit) y) (l + 2 ^ bit) ≡ y =
    get_or-set_same (set new l x) (l + 2 ^ bit) y origin there in
    record {
      long = length-set (set new l x) (l + 2 ^ bit) y ∙ size;
      done_low = λ m within bit_clear less.
          ⊎_elim
          (λ (same : m ≡ l). ap (entry (set (set new l x) (l + 2 ^ bit) y)) same ∙ at_first ∙ sum ∙
          ap (butterfly bit old) (sym same))
          (λ (other : m ≢ l). others m other (λ (k : m ≡ l + 2 ^ bit). absurd (omega (arith, less, k, some))) ∙
          h.done_low m within bit_clear (omega (arith, less, other)))
          (cases_eq m l);
      done_high = λ m within bit_set less.
          let room = (high bit m p within bit_set).room in
          ⊎_elim
          (λ (same : m ≡ l + 2 ^ bit). ap (entry (set (set new l x) (l + 2 ^ bit) y)) same ∙
          at_second ∙ difference ∙ ap (butterfly bit old) (sym same))
          (λ (other : m ≢ l + 2 ^ bit). others m (apart m l bit bit_set clear) other ∙
          h.done_high m within bit_set (omega (arith, less, other, room)))
          (cases_eq m (l + 2 ^ bit));
      kept_low = λ m within bit_clear more.
          others m (omega (arith, more))
          (λ (k : m ≡ l + 2 ^ bit). apart (l + 2 ^ bit) m bit is.partner bit_clear (sym k)) ∙
          h.kept_low m within bit_clear (omega (arith, more));
      kept_high = λ m within bit_set more.
          others m (apart m l bit bit_set clear) (omega (arith, more)) ∙
          h.kept_high m within bit_set (omega (arith, more));
    }

-- the same, as the code writes it
abbrev pub step : ℕ → ℕ
step bit = 1 * 2 ^ bit % 18446744073709551616

pub moves_at : (bit l : ℕ) (old new next : List Pair) (x y : Pair) → bit < 6 → l < 64 →
    bit_and l (step bit) ≡ 0 → IsPartway bit l old new → x ≡ plus (entry new l) (entry new (l + step bit)) →
    y ≡ minus (entry new l) (entry new (l + step bit)) → next ≡ set (set new l x) (l + step bit) y →
    IsPartway bit (l + 1) old next
moves_at bit l old new next x y p small clear h e f is =
    let place : l + step bit ≡ l + 2 ^ bit = ap (λ (k : ℕ). l + k) (shifted bit p) in
    let P : List Pair → Type 0 = λ v. IsPartway bit (l + 1) old v in
    subst P (sym (is ∙ ap (λ (k : ℕ). set (set new l x) k y) place))
    (moves bit l old new x y p small (is_clear bit l p small clear) h
    (e ∙ ap (λ (k : ℕ). plus (entry new l) (entry new k)) place) (f ∙
    ap (λ (k : ℕ). minus (entry new l) (entry new k)) place))

-- a place with its bit set is not a lower place
pub skips : (bit l : ℕ) (old new : List Pair) → bit < 6 → bit_of l bit ≡ true →
    IsPartway bit l old new → IsPartway bit (l + 1) old new
skips bit l old new p is_set h = record {
  long = h.long;
  done_low = λ m within bit_clear less.
      let other : m ≢ l = λ e. apart l m bit is_set bit_clear (sym e) in
      h.done_low m within bit_clear (omega (arith, less, other));
  done_high = λ m within bit_set less.
      let other : m - 2 ^ bit ≢ l =
      λ e. apart l (m - 2 ^ bit) bit is_set (high bit m p within bit_set).partner (sym e) in
      h.done_high m within bit_set (omega (arith, less, other));
  kept_low = λ m within bit_clear more. h.kept_low m within bit_clear (omega (arith, more));
  kept_high = λ m within bit_set more. h.kept_high m within bit_set (omega (arith, more));
}

pub ends : (bit : ℕ) (old new : List Pair) → bit < 6 → IsPartway bit 64 old new → IsStage bit old new
ends bit old new p h = λ n within. by_bit n within (bit_of n bit) refl
  where
    by_bit : (n : ℕ) → n < 64 → (b : Bool) → bit_of n bit ≡ b → entry new n ≡ butterfly bit old n
    by_bit n within true e = h.done_high n within e (omega (arith, within))
    by_bit n within false e = h.done_low n within e within

-- BOUNDS

plus_within : (bound : ℕ) (x y : Pair) → IsWithin bound x → IsWithin bound y → IsWithin (2 * bound) (plus x y)
plus_within bound x y (a, b) (c, d) = (omega (arith, ints, a, c), omega (arith, ints, b, d))

minus_within : (bound : ℕ) (x y : Pair) → IsWithin bound x → IsWithin bound y → IsWithin (2 * bound) (minus x y)
minus_within bound x y (a, b) (c, d) = (omega (arith, ints, a, c), omega (arith, ints, b, d))

stage_within : (bit bound : ℕ) (old new : List Pair) → bit < 6 → EntriesAreWithin bound old →
    IsStage bit old new → EntriesAreWithin (2 * bound) new
stage_within bit bound old new p h is = λ n within. by_bit n within (bit_of n bit) refl
  where
    by_bit : (n : ℕ) → n < 64 → (b : Bool) → bit_of n bit ≡ b → IsWithin (2 * bound) (entry new n)
    by_bit n within true e =
        let P : Pair → Type 0 = λ v. IsWithin (2 * bound) v in
        subst P (sym (is n within ∙ butterfly_high bit old n e))
        (minus_within bound (entry old (n - 2 ^ bit)) (entry old n)
        (h (n - 2 ^ bit) (omega (arith, within))) (h n within))
    by_bit n within false e =
        let P : Pair → Type 0 = λ v. IsWithin (2 * bound) v in
        subst P (sym (is n within ∙ butterfly_low bit old n e))
        (plus_within bound (entry old n) (entry old (n + 2 ^ bit)) (h n within)
        (h (n + 2 ^ bit) (low bit n p within e).room))

pub grows : (bit : ℕ) (old new : List Pair) → bit < 6 → EntriesAreWithin (2 ^ (40 + bit)) old →
    IsStage bit old new → EntriesAreWithin (2 ^ (41 + bit)) new
grows bit old new p h is =
    let place : 41 + bit ≡ suc (40 + bit) = omega arith in
    let twice : 2 ^ (suc (40 + bit)) ≡ 2 * 2 ^ (40 + bit) = omega arith in
    rw (place, twice) (stage_within bit (2 ^ (40 + bit)) old new p h is)

-- what is still as it was has room for a sum
has_room : (bit : ℕ) (x y : Pair) → bit < 6 → x ≡ y → IsWithin (2 ^ (40 + bit)) y → IsWithin (2 ^ 45) x
has_room bit x y p e (a, b) =
    let most : 2 ^ (40 + bit) ≤ 2 ^ 45 = pow_mono {j = 45} (omega (arith, p)) in
    let P : Pair → Type 0 = λ v. IsWithin (2 ^ 45) v in
    subst P (sym e) (omega (arith, a, most), omega (arith, b, most))

-- The two entries that a butterfly reads are at most 2^45: the stage hasn't changed them yet,
-- before it all were at most 2^(40 + bit), and the bit is at most 5.
pub have_room : (bit l : ℕ) (old new : List Pair) → bit < 6 → l < 64 → bit_and l (step bit) ≡ 0 →
    IsPartway bit l old new → EntriesAreWithin (2 ^ (40 + bit)) old →
    IsWithin (2 ^ 45) (entry new l) × IsWithin (2 ^ 45) (entry new (l + step bit))
have_room bit l old new p small apart h within =
    let clear = is_clear bit l p small apart in
    let place : l + step bit ≡ l + 2 ^ bit = ap (λ (k : ℕ). l + k) (shifted bit p) in (
      has_room bit (entry new l) (entry old l) p (first_is bit l old new h small clear)
          (within l small),
      has_room bit (entry new (l + step bit)) (entry old (l + 2 ^ bit)) p
          (ap (entry new) place ∙ second_is bit l old new p h small clear)
          (within (l + 2 ^ bit) (low bit l p small clear).room),
    )
