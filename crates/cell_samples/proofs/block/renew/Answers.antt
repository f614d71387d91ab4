use Rattle.cell_samples.proofs.Common.{map, carrier_of}
use Rattle.cell_samples.proofs.KeptBlocks.{chips_made, chips_stand, same_sums, sum_quiet}
use Rattle.cell_samples.proofs.block.renew.Goals as goal

pub narrow-requires : goal.narrow-requires
narrow-requires c k low =
    let held = c.keep_levels in
    let made = same_sums c.args.channels.now held.new.channels c.args.factor held.new.levels
    c.sums_of.result held.ensures.same c.sums_of.ensures in
    sum_quiet (map carrier_of c.args.channels.now) c.args.factor held.new.levels c.sums_of.result
    c.args.first k c.requires.whole held.ensures.value made c.requires.quiet low

pub returns-then-not-keep_levels-clause-sums : goal.returns-then-not-keep_levels-clause-sums
returns-then-not-keep_levels-clause-sums c =
    let held = c.keep_levels in
    let made = same_sums c.args.channels.now held.new.channels c.args.factor held.new.levels
    c.sums_of.result held.ensures.same c.sums_of.ensures in
    chips_made (map carrier_of c.args.channels.now) c.args.factor held.new.levels c.sums_of.result
    c.narrow.new.chips made c.narrow.ensures

pub returns-else-not-keep_levels-clause-sums : goal.returns-else-not-keep_levels-clause-sums
returns-else-not-keep_levels-clause-sums c =
    let held = c.keep_levels in
    chips_stand (map carrier_of c.args.channels.now) c.args.factor c.args.levels.now
    held.new.levels c.args.chips.now (held.ensures.kept c.if-not-keep_levels.false)
    c.requires.sums
