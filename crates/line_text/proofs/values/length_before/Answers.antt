use Rattle.line_text.proofs.Common.{◌∙◌, arith}
use Rattle.line_text.proofs.StatedTexts.{mark_found, mark_later, mark_missing}
use Rattle.line_text.proofs.values.length_before.Goals as goal

pub returns-then-byte-mark-clause-value : goal.returns-then-byte-mark-clause-value
returns-then-byte-mark-clause-value c =
    c.loop-byte.invariant.passed
    ∙ mark_found c.args.mark c.args.text.now c.loop-byte.byte-index c.loop-byte-test.true
    c.if-byte-mark.true c.loop-byte.invariant.left

pub loop-byte-preserved : goal.loop-byte-preserved
loop-byte-preserved c = record {
  passed = omega (arith, c.loop-byte.invariant.passed);
  left = mark_later c.args.mark c.args.text.now c.loop-byte.byte-index c.loop-byte-test.true
      c.if-byte-mark.false c.loop-byte.invariant.left;
}

pub returns-clause-value : goal.returns-clause-value
returns-clause-value c =
    c.loop-byte.invariant.passed
    ∙ mark_missing c.args.mark c.args.text.now c.loop-byte.byte-index
    (omega (arith, c.loop-byte-test.false)) c.loop-byte.invariant.left
