use Rattle.cell_samples.proofs.Common.{common_steps, ◌≡◌, ◌<◌, List, length, map, get_or, set, refl, sym, ap, ◌∙◌, arith, rules, get_or-map}
use Rattle.cell_samples.proofs.Common.{read64, ints, ChannelState, carrier_of}
use Rattle.std.proofs.lemmas.List as lists
use Rattle.cell_samples.proofs.KeptBlocks as kept
use Rattle.cell_samples.proofs.block.keep_levels.Goals as goal

pub loop-n-init : goal.loop-n-init
loop-n-init c = record {
  same = refl;
  long = search rules;
  value = kept.none_kept c.args.first (map carrier_of c.args.channels.now) c.args.levels.now;
  small = c.requires.small;
  kept = λ e. refl;
}

-- The level of one channel more is kept: asking for it changes no channel, the list has it at the
-- channel's number, and the answer says whether this and all levels before it are those that were
-- kept already.
pub loop-n-preserved : goal.loop-n-preserved
loop-n-preserved c =
    let inv = c.loop-n.invariant in
    let n = c.loop-n.n in
    let old = c.loop-n.channels in
    let channel = get_or old n c.index-channels-n.result in
    let cs = map carrier_of c.args.channels.now in
    let here : n < length cs = omega (arith, c.loop-n-test.true, lists.length-map c.args.channels.now carrier_of) in
    let room : n < length c.loop-n.levels = omega (arith, c.loop-n-test.true, c.requires.few, inv.long) in
    let is : get_or cs n (carrier_of c.index-channels-n.result) ≡ carrier_of channel =
    get_or-map carrier_of c.args.channels.now n c.index-channels-n.result
    ∙ ap (λ (xs : List ChannelState). carrier_of (get_or xs n c.index-channels-n.result)) (sym inv.same) in
    let one = c.keep_level-is_same in
    let kept_is : one.new.levels ≡ set c.loop-n.levels n c.level-level.result =
    one.ensures.set
    ∙ ap (set c.loop-n.levels n) (read64 c.level-level.result (omega (arith, c.level-level.ensures.bound))) in
    record {
      same = ap (set old n) c.level-level.ensures.same
          ∙ lists.set-get_or old n c.index-channels-n.result ∙ inv.same;
      long = ap length kept_is
          ∙ lists.length-set c.loop-n.levels n c.level-level.result ∙ inv.long;
      value = kept.one_kept c.args.first n cs (carrier_of channel)
          (carrier_of c.index-channels-n.result) c.loop-n.levels one.new.levels c.level-level.result
          here room is c.level-level.ensures.value kept_is inv.value;
      small = kept.one_small n c.loop-n.levels one.new.levels c.level-level.result
          c.level-level.ensures.bound kept_is inv.small;
      kept = kept.all_same c.loop-n.is_same one.result c.args.levels.now c.loop-n.levels
          one.new.levels inv.kept one.ensures.kept;
    }

pub returns-clause-value : goal.returns-clause-value
returns-clause-value c = grind (ints, arith, common_steps)
