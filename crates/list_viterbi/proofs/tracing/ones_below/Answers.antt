use Rattle.list_viterbi.proofs.Common.{◌≡◌, ◌∙◌, sym, arith, digit, digit_le, bool_byte-digit}
use Rattle.list_viterbi.proofs.Masks.{ones_none, ones_next}
use Rattle.list_viterbi.proofs.tracing.ones_below.Goals as goal

pub loop-lower-init : goal.loop-lower-init
loop-lower-init c = record { value = sym (ones_none c.args.choices); most = omega arith }

pub loop-lower-preserved : goal.loop-lower-preserved
loop-lower-preserved c =
    let one : c.from-ones.result ≡ digit c.is_odd.result = c.from-ones.ensures ∙ bool_byte-digit c.is_odd.result in
    let few = digit_le c.is_odd.result in
    let most = c.loop-lower.invariant.most in
    record {
      value = ones_next c.args.choices c.loop-lower.lower c.loop-lower.ones c.from-ones.result
          c.is_odd.result c.loop-lower.invariant.value c.is_odd.ensures one;
      most = omega (arith, one, few, most);
    }
