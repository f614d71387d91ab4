use Rattle.symbol_path.proofs.Common.{sym, ◌∙◌}
use Rattle.symbol_path.proofs.PowerControl.{kept_symbol, replaced_symbol}
use Rattle.symbol_path.proofs.power_bits.symbol_or_power_bit.Goals as goal

pub returns-then-contains : goal.returns-then-contains
returns-then-contains c =
    replaced_symbol c.args.replaced.now c.args.power_bits.now c.args.symbols.now c.args.i
    c.from.result (sym c.contains.ensures.value ∙ c.if-contains.true) c.from.ensures

pub returns-else-contains : goal.returns-else-contains
returns-else-contains c =
    kept_symbol c.args.replaced.now c.args.power_bits.now c.args.symbols.now c.args.i c.get.result
    (sym c.contains.ensures.value ∙ c.if-contains.false) c.get.ensures
