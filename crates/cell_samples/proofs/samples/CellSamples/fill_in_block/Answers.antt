use Rattle.cell_samples.proofs.Common.{arith, ints, common_steps, ◌≡◌, ◌+◌, ◌%◌, ◌≤◌, length, take, drop, sym, ap, ◌∙◌, rules, subst, ℕ}
use Rattle.cell_samples.proofs.Common.{pilot_signs, HasBits, samples_of, CellState}
use Rattle.std.specs.List.{All}
use Rattle.cell_samples.proofs.samples.CellSamples.fill_in_block.Goals.{After-split_at}
use Rattle.cell_samples.proofs.Running as running
use Rattle.cell_samples.proofs.samples.CellSamples.fill_in_block.Goals as goal

-- the samples lie in one block
within : (c : After-split_at) → let s = c.self.inside in
    (s.plan.link.start + s.given) % 64 + length c.args.out.now ≤ 64
within c =
    subst (λ (v : CellState). (v.plan.link.start + v.given) % 64 + length c.args.out.now ≤ 64)
    (sym c.self.view_is) c.requires.within

-- There is a chip of the pilot codes for each sample: the codes are read from the first sample's
-- phase on, and as the samples lie in one block of 64 the codes don't come to their end within
-- them.
pub spread-requires-clause-signs : goal.spread-requires-clause-signs
spread-requires-clause-signs c =
    let s = c.self.inside in
    let chip = s.plan.link.start + s.given in
    let n = length c.args.out.now in
    running.signs_ahead c.phase_for-phase.result n c.split_at.result.1.now
    (c.split_at.ensures.back ∙ ap (drop c.from.result) c.table.ensures.value
    ∙ ap (λ (p : ℕ). drop p pilot_signs) c.from.ensures)
    (running.code_goes_on s.plan chip c.phase_for-phase.result n c.self.invariant.lawful.pn
    c.phase_for-phase.ensures.value (within (goal.at.spread-requires-clause-signs c).After-split_at))

pub spread-requires-clause-points : goal.spread-requires-clause-points
spread-requires-clause-points c =
    running.points_ahead c.from.result c.split_at.result.1.now
    (c.split_at.ensures.back ∙ ap (drop c.from.result) c.table.ensures.value)

-- The samples of one call are the plan's next ones: the block's chips are turned by the codes from
-- the first sample's own phase on, as the definition turns them, and a plan that is not too loud
-- keeps them within the width's bits.
pub returns : goal.returns
returns c =
    let s = c.self.inside in
    let i = c.self.invariant in
    let n = length c.args.out.now in
    let out = c.spread.new.samples in
    let signs = c.split_at.result.1.now in
    let long : length out ≡ n = search rules in
    let left : s.given + n ≤ s.plan.link.samples =
    subst (λ (v : CellState). v.given + n ≤ v.plan.link.samples) (sym c.self.view_is)
    c.requires.left in
    let given =
    running.are_given s.plan s.block s.given c.phase_for-phase.result n signs out i.lawful.pn
    i.sent i.link c.phase_for-phase.ensures.value
    (c.split_at.ensures.back ∙ ap (drop c.from.result) c.table.ensures.value
    ∙ ap (λ (p : ℕ). drop p pilot_signs) c.from.ensures)
    long (within (goal.at.returns c).After-split_at) c.spread.ensures.value in
    record {
      samples =
          running.samples_given s.plan s.block s.given c.phase_for-phase.result n signs out given (sym long) left
          ∙ ap (λ (v : CellState). take n (drop v.given (samples_of v.plan))) c.self.view_is;
      fit =
          subst (λ (v : CellState). All (HasBits v.width) out) c.self.view_is
          (running.bits_given s.width s.plan s.block s.given c.phase_for-phase.result signs out
          given i.lawful.loud);
      state = search rules;
    }

pub invariant_of-self : goal.invariant_of-self
invariant_of-self c = grind (ints, arith, common_steps)
