use Rattle.std.proofs.Common.{◌∙◌, arith, rules, ◌+ℤ◌, ◌-ℤ◌, FitsSigned, w16, w32}
use Rattle.std.proofs.lemmas.Int.{ints, fits_signed_from_abs}
use Rattle.chip_core.proofs.Magnitudes.{abs_sum, abs_difference}
use Rattle.short_code.proofs.Despreading.{branch_is, branches_added, branches_taken, turned_is}
use Rattle.short_code.proofs.product.despread.Goals as goal

pub overflow_add-signed : goal.overflow_add-signed
overflow_add-signed c = fits_signed_from_abs w32 _ (omega (arith, ints))

pub overflow_sub-signed : goal.overflow_sub-signed
overflow_sub-signed c = fits_signed_from_abs w32 _ (omega (arith, ints))

-- A despread sample is the product by the definition: each of its four products is a part of the
-- sample times a sign, and the two sums of them fit into what holds them.
pub returns-clause-value : goal.returns-clause-value
returns-clause-value c =
    let s = c.args.sample in
    let g = c.args.signs in
    let i_fits : FitsSigned w16 s.i = search rules in
    let q_fits : FitsSigned w16 s.q = search rules in
    let i = c.signed.ensures in
    let q = c.signed-2.ensures in
    let q' = c.signed-3.ensures in
    let i' = c.signed-4.ensures in
    let ic = branch_is s.i g.0 c.signed.result i_fits c.requires.i i.value in
    let qd = branch_is s.q g.1 c.signed-2.result q_fits c.requires.q q.value in
    let qc = branch_is s.q g.0 c.signed-3.result q_fits c.requires.i q'.value in
    let id = branch_is s.i g.1 c.signed-4.result i_fits c.requires.q i'.value in
    turned_is s g _ _
    (branches_added c.signed.result c.signed-2.result c.from.result i.bound q.bound c.from.ensures
    ∙ (λ n. ic n +ℤ qd n))
    (branches_taken c.signed-3.result c.signed-4.result c.from-2.result q'.bound i'.bound
    c.from-2.ensures ∙ (λ n. qc n -ℤ id n))

pub returns-clause-i_bound : goal.returns-clause-i_bound
returns-clause-i_bound c =
    let x = c.signed.ensures.bound in
    let y = c.signed-2.ensures.bound in
    rw (branches_added c.signed.result c.signed-2.result c.from.result x y c.from.ensures)
    (omega (arith, x, y, abs_sum c.signed.result c.signed-2.result))

pub returns-clause-q_bound : goal.returns-clause-q_bound
returns-clause-q_bound c =
    let x = c.signed-3.ensures.bound in
    let y = c.signed-4.ensures.bound in
    rw (branches_taken c.signed-3.result c.signed-4.result c.from-2.result x y c.from-2.ensures)
    (omega (arith, x, y, abs_difference c.signed-3.result c.signed-4.result))
