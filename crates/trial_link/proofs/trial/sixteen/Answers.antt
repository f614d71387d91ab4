use Rattle.trial_link.proofs.Common.{◌≡◌, ◌≢◌, ◌<◌, false, ◌∙◌, arith, below_more, length, get_or, set, sym, get_or_from_slice_get}
use Rattle.trial_link.proofs.Common.{ext_get_or, get_or-set_other, get_or-set_same, length-set}
use Rattle.trial_link.proofs.trial.sixteen.Goals as goal

-- One power control group more has its bit: it is the one at the group's place among the sixteen
-- that are given, and writing it changes none of the groups before.
pub loop-group-preserved : goal.loop-group-preserved
loop-group-preserved c =
    let inv = c.loop-group.invariant in
    let n = c.loop-group.group in
    let groups = c.loop-group.groups in
    let bits = c.args.bits.now in
    let room : n < length groups = omega (arith, inv.long, c.loop-group-test.true) in
    record {
      long = length-set groups n _ ∙ inv.long;
      each = below_more (λ k. get_or (set groups n _) k false ≡ get_or bits k false) n
          (λ k lt.
          let other : k ≢ n = omega (arith, lt) in
          get_or-set_other groups n k _ false other ∙ inv.each k lt)
          (get_or-set_same groups n _ false room
          ∙ sym (get_or_from_slice_get bits n _ false c.get.ensures));
    }

pub returns : goal.returns
returns c =
    let inv = c.loop-group.invariant in
    ext_get_or false c.loop-group.groups c.args.bits.now (inv.long ∙ omega (arith, c.requires))
    (λ k lt. inv.each k (omega (arith, lt, inv.long, c.loop-group-test.false)))
