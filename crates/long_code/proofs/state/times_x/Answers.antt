use Rattle.long_code.proofs.Common.{◌≡◌, ◌/◌, ◌%◌, ◌*◌, ◌^◌, ◌<◌, ℕ, true, false, sym, ◌∙◌, arith, eq-eqb, bit_and, and_mask, xor_lt}
use Rattle.long_code.proofs.Common.{ne_eqb, bit_of}
use Rattle.long_code.proofs.After.{after_one}
use Rattle.long_code.proofs.state.times_x.Goals as goal

-- the low 42 bits of the double
doubled : (v : ℕ) → v < 2 ^ 42 → bit_and (v * 2 % 18446744073709551616) 4398046511103 ≡ 2 * v % 2 ^ 42
doubled v h =
    let whole : v * 2 % 18446744073709551616 ≡ 2 * v = omega (arith, h) in
    rw whole (and_mask (2 * v) 42)

pub returns-then-value-eq1-clause-value : goal.returns-then-value-eq1-clause-value
returns-then-value-eq1-clause-value c =
    let v = c.args.value in
    let low : bit_and (v / 2 ^ 41) 1 ≡ v / 2 ^ 41 % 2 = and_mask (v / 2 ^ 41) 1 in
    let lead : bit_of v 41 ≡ true = eq-eqb (v / 2 ^ 41 % 2) 1 (sym low ∙ c.if-value-eq1.true) in
    rw (after_one v, lead, doubled v c.requires)

pub returns-else-value-eq1-clause-value : goal.returns-else-value-eq1-clause-value
returns-else-value-eq1-clause-value c =
    let v = c.args.value in
    let low : bit_and (v / 2 ^ 41) 1 ≡ v / 2 ^ 41 % 2 = and_mask (v / 2 ^ 41) 1 in
    let lead : bit_of v 41 ≡ false = ne_eqb (v / 2 ^ 41 % 2) 1 (λ e. c.if-value-eq1.false (low ∙ e)) in
    rw (after_one v, lead, doubled v c.requires)

pub returns-then-value-eq1-clause-below : goal.returns-then-value-eq1-clause-below
returns-then-value-eq1-clause-below c =
    xor_lt 42 (bit_and (c.args.value * 2 % 18446744073709551616) 4398046511103) 45339313391
    (omega (arith, doubled c.args.value c.requires)) (omega arith)
