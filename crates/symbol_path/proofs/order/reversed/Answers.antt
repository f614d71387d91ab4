use Rattle.symbol_path.proofs.Common.{◌+◌, arith, digit_fits}
use Rattle.symbol_path.proofs.Reversal.{reversed_more, reversed_all}
use Rattle.symbol_path.proofs.order.reversed.Goals as goal

pub loop-bit-preserved : goal.loop-bit-preserved
loop-bit-preserved c = record {
  value = reversed_more c.args.width c.loop-bit._bit c.loop-bit.turned c.loop-bit.rest c.args.number
      c.loop-bit-test.true c.loop-bit.invariant.value;
  small = let most =
      digit_fits c.loop-bit.turned c.loop-bit._bit (c.loop-bit._bit + 1) c.loop-bit.invariant.small
      (omega arith) in omega (arith, most);
}

pub returns-clause-value : goal.returns-clause-value
returns-clause-value c =
    reversed_all c.args.width c.loop-bit._bit c.loop-bit.turned c.loop-bit.rest c.args.number
    (omega arith) c.loop-bit.invariant.value
