use Rattle.cell_script.proofs.Common.{arith, length-set, refl, sym, ◌∙◌}
use Rattle.cell_script.proofs.UnsignedLines.{not_at_its_end, read_to_its_end, value_in_form, value_missing, value_read, values_read}
use Rattle.cell_script.proofs.fields.unsigned_line.Goals as goal

pub returns-in_err-values-clause-value : goal.returns-in_err-values-clause-value
returns-in_err-values-clause-value c =
    c.from_residual.ensures
    ∙ sym (value_missing c.args.rows.now c.args.text.now c.loop-k.k c.loop-k.values _ _
    c.loop-k-test.true (sym c.in_err-values.ensures.value) c.loop-k.invariant.read)

pub loop-k-preserved : goal.loop-k-preserved
loop-k-preserved c = record {
  read = value_read c.args.rows.now c.args.text.now c.loop-k.k c.loop-k.values _ _ _ _
      c.loop-k-test.true (sym c.in_ok-values.ensures.value) c.in_ok-values.ensures.rest
      c.loop-k.invariant.read;
  ranged = value_in_form c.args.rows.now c.loop-k.k c.loop-k.values _ _ c.loop-k-test.true
      (omega (arith, c.loop-k-test.true, c.requires, c.loop-k.invariant.long))
      c.in_ok-values.ensures.range c.loop-k.invariant.ranged;
  long = length-set c.loop-k.values c.loop-k.k c.in_ok-values.field-0 ∙ c.loop-k.invariant.long;
  passed = omega (arith, c.loop-k-test.true);
}

pub returns-then-not-at_end-clause-value : goal.returns-then-not-at_end-clause-value
returns-then-not-at_end-clause-value c =
    sym (values_read c.args.rows.now c.args.text.now c.loop-k.k c.loop-k.values _ (omega (arith, c.loop-k-test.false))
    c.loop-k.invariant.read
    ∙ not_at_its_end _ c.loop-k.values c.if-not-at_end.ensures.1)

pub returns-clause-value : goal.returns-clause-value
returns-clause-value c =
    sym (values_read c.args.rows.now c.args.text.now c.loop-k.k c.loop-k.values _ (omega (arith, c.loop-k-test.false))
    c.loop-k.invariant.read
    ∙ read_to_its_end _ c.loop-k.values (c.if-not-at_end.ensures.0 refl))
