use Rattle.cell_samples.proofs.Common.{◌≡◌, ℕ, ◌+◌, ◌-◌, length, map, take, drop, ap, ◌∙◌, rules, subst, overwrites, of_sample, HasBits}
use Rattle.cell_samples.proofs.Common.{samples_of, CellState}
use Rattle.std.specs.List.{All}
use Rattle.cell_samples.proofs.Running.{bits_joined, samples_joined}
use Rattle.cell_samples.proofs.samples.CellSamples.fill.Goals as goal

-- One part more is filled with the plan's next samples: the state has gone on by just as many
-- samples as the parts before it have, and all of them have the width's bits.
pub loop-done-preserved : goal.loop-done-preserved
loop-done-preserved c =
    let inv = c.loop-done.invariant in
    let done = c.loop-done.done in
    let out = c.loop-done.out in
    let count = c.min-count.result in
    let plan = c.args.self.now.plan in
    let given = c.args.self.now.given in
    let s = c.loop-done.self in
    let part = c.fill_in_block.new.out in
    let long : length part ≡ count = search rules in
    let lent : length (take (done + count - done) (drop done out)) ≡ count = search rules in
    let next : map of_sample part ≡ take count (drop (given + done) (samples_of plan)) =
    c.fill_in_block.ensures.samples
    ∙ ap (λ (m : ℕ). take m (drop s.given (samples_of s.plan))) lent
    ∙ ap (λ (v : CellState). take count (drop v.given (samples_of v.plan))) inv.state in
    let fit : All (HasBits c.args.self.now.width) part =
    subst (λ (v : CellState). All (HasBits v.width) part) inv.state c.fill_in_block.ensures.fit in
    record {
      done = search (rules, overwrites, inv.done);
      state = search rules;
      samples = samples_joined (samples_of plan) given done _ count out part inv.done long
          inv.samples next;
      fit = bits_joined c.args.self.now.width done _ count out part inv.done long inv.fit fit;
    }
