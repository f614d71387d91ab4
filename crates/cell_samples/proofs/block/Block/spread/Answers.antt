use Rattle.cell_samples.proofs.Common.{ints, common_steps, ◌+◌, ◌-◌, ◌%◌, List, length, map, sym, ap, ◌∙◌, arith, refl, subst, AreChips}
use Rattle.cell_samples.proofs.Common.{AreLevels, BlockState, IsQuiet, chip_at, ChannelState, carrier_of}
use Rattle.cell_samples.proofs.KeptBlocks.{block_after, chip_kept, turned_at}
use Rattle.cell_samples.proofs.Running.{written_back}
use Rattle.cell_samples.proofs.block.Block.spread.Goals.{After-renew}
use Rattle.cell_samples.proofs.block.Block.spread.Goals as goal

pub renew-requires-clause-few : goal.renew-requires-clause-few
renew-requires-clause-few c = rw c.deref_mut.ensures.value c.self.invariant.few

pub renew-requires-clause-quiet : goal.renew-requires-clause-quiet
renew-requires-clause-quiet c = rw c.deref_mut.ensures.value c.self.invariant.quiet

pub renew-requires-clause-sums : goal.renew-requires-clause-sums
renew-requires-clause-sums c = rw c.deref_mut.ensures.value c.self.invariant.sums

-- the levels and the chips are those of the channels
renewed : (c : After-renew) → let channels = map carrier_of c.self.inside.channels.items in
    AreLevels (c.args.chip - c.args.chip % 64) channels c.renew.new.levels
    × AreChips channels c.self.inside.factor c.renew.new.levels c.renew.new.chips
renewed c = (
  subst (λ (cs : List ChannelState).
      AreLevels (c.args.chip - c.args.chip % 64) (map carrier_of cs) c.renew.new.levels)
      c.deref_mut.ensures.value c.renew.ensures.value,
  subst (λ (cs : List ChannelState).
      AreChips (map carrier_of cs) c.self.inside.factor c.renew.new.levels c.renew.new.chips)
      c.deref_mut.ensures.value c.renew.ensures.sums,
)

-- The chips that are to be turned are not too loud: each one that is kept is the block's chip at
-- its own place, and the block promises that all of its chips are quiet.
pub turn-requires-clause-quiet : goal.turn-requires-clause-quiet
turn-requires-clause-quiet c k low =
    let s = c.self.inside in
    let chip = c.args.chip in
    let place = chip % 64 in
    let (held, sums) = renewed (goal.at.turn-requires-clause-quiet c).After-renew in
    subst IsQuiet
    (sym (chip_kept s.channels.items s.factor c.renew.new.levels c.renew.new.chips chip place _ k
    refl held sums (omega arith) (omega (arith, low, c.requires.within))))
    (c.self.invariant.quiet (chip + k))

-- The block keeps its promises: renewing it changed no channel, and the levels and chips that it
-- keeps now are those of these channels in the block of 64 that was asked for.
pub invariant_of-self : goal.invariant_of-self
invariant_of-self c =
    let s = c.self.inside in
    let lent = c.deref_mut in
    let made = c.renew in
    block_after s.channels.items _ s.factor made.new.levels made.new.chips
    (written_back s.channels.items _ s.channels.len (made.ensures.same ∙ lent.ensures.value)
    (ap length made.ensures.same ∙ lent.ensures.len))
    c.self.invariant.few c.self.invariant.low c.self.invariant.quiet made.ensures.small
    (renewed (goal.at.invariant_of-self c).After-renew).1

-- The samples are the block's chips turned by the codes: the kept chips are what the channels send
-- in this block of 64, and they are turned from the place of the first chip in it on.
pub returns-clause-value : goal.returns-clause-value
returns-clause-value c k low =
    let s = c.self.inside in
    let chip = c.args.chip in
    let place = chip % 64 in
    let (held, sums) = renewed (goal.at.returns-clause-value c).After-renew in
    turned_at _ _ _ _
    (chip_kept s.channels.items s.factor c.renew.new.levels c.renew.new.chips chip place _ k
    refl held sums (omega arith) (omega (arith, low, c.requires.within))
    ∙ ap (λ (b : BlockState). chip_at b (chip + k)) c.self.view_is)
    (c.turn.ensures k low)

-- The channels and the link's factor stay as they were: the channels were lent to renew the block,
-- which changes none of them, and are written back where they stood.
pub returns-clause-same : goal.returns-clause-same
returns-clause-same c =
    let s = c.self.inside in
    let lent = c.deref_mut in
    let again : List ChannelState → BlockState = λ cs. record { channels = cs; factor = s.factor } in
    ap again
    (written_back s.channels.items _ s.channels.len (c.renew.ensures.same ∙ lent.ensures.value)
    (ap length c.renew.ensures.same ∙ lent.ensures.len))
    ∙ c.self.view_is

pub turn-requires-clause-points : goal.turn-requires-clause-points
turn-requires-clause-points c = grind (ints, arith, common_steps)
