-- Soft values agree with what is sent as their sums agree with the code symbols.
use Rattle.symbol_path.proofs.Common.{◌≡◌, ℕ, zero, suc, ◌+◌, ◌*◌, ◌/◌, ◌<◌, Bool, true, false, List, [], ◌∷◌, length, get_or, refl, sym, ℤ}
use Rattle.symbol_path.proofs.Common.{ap, ◌∙◌, arith, add-one, pos, ◌+ℤ◌, ◌*ℤ◌, sign, sum_below, sum_same, sum_front, sum_none, sum_changed}
use Rattle.symbol_path.proofs.Common.{length-map-places, get_or-map-places, distrib_right, Kind, agreement, Shape, shape_of, size, address}
use Rattle.symbol_path.proofs.Common.{code_symbol, sent, gathered, sent_by, gathered_by}
use Rattle.symbol_path.proofs.Permutation.{address_lt}
use Rattle.symbol_path.proofs.Interleaving.{size_some, symbol_lt, count_is}
use Rattle.symbol_path.proofs.Gathering.{part, part-none, part_here, part_other}

agreement_is : (n : ℕ) (softs : List ℤ) (symbols : List Bool) → length softs ≡ n → length symbols ≡ n →
    agreement softs symbols ≡ sum_below n (λ k. get_or softs k (pos 0) *ℤ sign (get_or symbols k false))
unfolding sum_below
agreement_is zero [] symbols p q = refl
agreement_is zero (v ∷ softs) symbols p q = absurd (omega (arith, p))
agreement_is (suc n) [] symbols p q = absurd (omega (arith, p))
agreement_is (suc n) (v ∷ softs) [] p q = absurd (omega (arith, q))
agreement_is (suc n) (v ∷ softs) (b ∷ symbols) p q =
    ap (λ (z : ℤ). (v *ℤ sign b) +ℤ z) (agreement_is n softs symbols (omega (arith, p)) (omega (arith, q)))
    ∙ sym (sum_front n (λ k. get_or (v ∷ softs) k (pos 0) *ℤ sign (get_or (b ∷ symbols) k false)))

zero_times : (b : Bool) → pos 0 *ℤ sign b ≡ pos 0
zero_times true = refl
zero_times false = refl

-- by number and by key: each number's f, times what its key has
by_key : (f : ℕ → ℤ) (key : ℕ → ℕ) (symbol : ℕ → Bool) (count n : ℕ) → ((i : ℕ) → i < n → key i < count) →
    sum_below n (λ i. f i *ℤ sign (symbol (key i))) ≡ sum_below count (λ c. part f key n c *ℤ sign (symbol c))
unfolding sum_below
by_key f key symbol count zero low =
    sym (sum_none count (λ c. part f key 0 c *ℤ sign (symbol c))
    (λ c lt. ap (λ (z : ℤ). z *ℤ sign (symbol c)) (part-none f key c) ∙ zero_times (symbol c)))
by_key f key symbol count (suc n) low =
    let j = key n in
    let next : n + 1 ≡ suc n = add-one n in
    let changed =
    sum_changed count j (λ c. part f key n c *ℤ sign (symbol c))
    (λ c. part f key (n + 1) c *ℤ sign (symbol c)) (f n *ℤ sign (symbol j)) (low n (omega arith))
    (λ c lt ne. ap (λ (z : ℤ). z *ℤ sign (symbol c)) (part_other f key n c ne))
    (ap (λ (z : ℤ). z *ℤ sign (symbol j)) (part_here f key n j refl) ∙
    distrib_right (part f key n j) (f n) (sign (symbol j))) in
    ap (λ (z : ℤ). z +ℤ (f n *ℤ sign (symbol j))) (by_key f key symbol count n (λ i lt. low i (omega (arith, lt))))
    ∙ sym changed
    ∙ ap (λ (m : ℕ). sum_below count (λ c. part f key m c *ℤ sign (symbol c))) next

-- what is sent by a key, and the sums by it
pub length-sent_by : (key : ℕ → ℕ) (n : ℕ) (code : List Bool) → length (sent_by key n code) ≡ n
unfolding sent_by
length-sent_by key n code = length-map-places (λ i. get_or code (key i) false) n

pub get_or-sent_by : (key : ℕ → ℕ) (n : ℕ) (code : List Bool) (i : ℕ) → i < n →
    get_or (sent_by key n code) i false ≡ get_or code (key i) false
unfolding sent_by
get_or-sent_by key n code i h = get_or-map-places (λ i. get_or code (key i) false) n i false h

pub length-gathered_by : (key : ℕ → ℕ) (n count : ℕ) (softs : List ℤ) → length (gathered_by key n count softs) ≡ count
unfolding gathered_by
length-gathered_by key n count softs = length-map-places (part (λ i. get_or softs i (pos 0)) key n) count

get_or-gathered_by : (key : ℕ → ℕ) (n count : ℕ) (softs : List ℤ) (c : ℕ) → c < count →
    get_or (gathered_by key n count softs) c (pos 0) ≡ part (λ i. get_or softs i (pos 0)) key n c
unfolding gathered_by
get_or-gathered_by key n count softs c h =
    get_or-map-places (part (λ i. get_or softs i (pos 0)) key n) count c (pos 0) h

-- What is sent for code symbols agrees with soft values as the code symbols agree with the sums.
pub agreement-gathered_by : (key : ℕ → ℕ) (n count : ℕ) (softs : List ℤ) (code : List Bool) →
    length softs ≡ n → length code ≡ count → ((i : ℕ) → i < n → key i < count) →
    agreement softs (sent_by key n code) ≡ agreement (gathered_by key n count softs) code
agreement-gathered_by key n count softs code long all low =
    let soft = λ (i : ℕ). get_or softs i (pos 0) in
    let sent = sent_by key n code in
    let sums = gathered_by key n count softs in
    agreement_is n softs sent long (length-sent_by key n code)
    ∙ sum_same n (λ i. soft i *ℤ sign (get_or sent i false)) (λ i. soft i *ℤ sign (get_or code (key i) false))
    (λ i lt. ap (λ (b : Bool). soft i *ℤ sign b) (get_or-sent_by key n code i lt))
    ∙ by_key soft key (λ c. get_or code c false) count n low
    ∙ sum_same count (λ c. part soft key n c *ℤ sign (get_or code c false))
    (λ c. get_or sums c (pos 0) *ℤ sign (get_or code c false))
    (λ c lt. ap (λ (z : ℤ). z *ℤ sign (get_or code c false)) (sym (get_or-gathered_by key n count softs c lt)))
    ∙ sym (agreement_is count sums code (length-gathered_by key n count softs) all)

pub length-sent : (s : Shape) (repeats : ℕ) (code : List Bool) → length (sent s repeats code) ≡ size s
length-sent s repeats code = length-sent_by (code_symbol s repeats) (size s) code

pub get_or-sent : (s : Shape) (repeats : ℕ) (code : List Bool) (i : ℕ) → i < size s →
    get_or (sent s repeats code) i false ≡ get_or code (code_symbol s repeats i) false
get_or-sent s repeats code i h = get_or-sent_by (code_symbol s repeats) (size s) code i h

pub length-gathered : (s : Shape) (repeats : ℕ) (softs : List ℤ) → length (gathered s repeats softs) ≡ size s / repeats
length-gathered s repeats softs = length-gathered_by (code_symbol s repeats) (size s) (size s / repeats) softs

pub agreement-gathered : (kind : Kind) (repeats : ℕ) (softs : List ℤ) (code : List Bool) →
    length softs ≡ size (shape_of kind) → length code * repeats ≡ size (shape_of kind) →
    agreement softs (sent (shape_of kind) repeats code) ≡ agreement (gathered (shape_of kind) repeats softs) code
agreement-gathered kind repeats softs code p q =
    let s = shape_of kind in
    let count : size s / repeats ≡ length code = count_is (length code) repeats (size s) q (size_some kind) in
    agreement-gathered_by (code_symbol s repeats) (size s) (size s / repeats) softs code p (sym count)
    (λ i lt.
    let low = symbol_lt (address s i) (length code) repeats (size s) q (address_lt kind i lt) in
    omega (arith, low, count))
