use Rattle.quality_bits.proofs.Common.{◌≡◌, ◌++◌, ◌∷◌, [], true, false, sym, ap, ◌∙◌, Some, List, Bool, Option, awaits_more, continued}
use Rattle.quality_bits.proofs.Opened.{awaits_short, still_open-awaits, still_open-over}
use Rattle.quality_bits.proofs.open_capsule.OpenCapsule.push.Goals.{then-may_go_on, else-may_go_on}
use Rattle.quality_bits.proofs.open_capsule.OpenCapsule.push.Goals as goal

pub append-requires : goal.append-requires
append-requires c =
    let waits : awaits_more c.in_ok-bits.bits ≡ true = rw c.in_ok-bits.was at c.self.invariant in
    awaits_short c.in_ok-bits.bits waits

-- A bit keeps a capsule open if its bits, with this one, still await more; otherwise it is closed:
-- that is what the code tests.
pub returns-clause-goes_on : goal.returns-clause-goes_on
returns-clause-goes_on c =
    let bit = c.args.bit ∷ [] in
    let was : c.args.self.now ≡ Some c.in_ok-bits.bits = sym c.self.view_is ∙ c.in_ok-bits.was in
    let before = ap (λ (s : Option (List Bool)). continued s bit) was in
    elim c.if-may_go_on.branch [
      | then-may_go_on w ↦
          let waits : awaits_more (c.in_ok-bits.bits ++ bit) ≡ true =
          rw c.append.ensures at (sym w.if-may_go_on.ensures) in
          w.self-is ∙ ap Some c.append.ensures ∙
          sym (before ∙ still_open-awaits (c.in_ok-bits.bits ++ bit) waits)
      | else-may_go_on w ↦
          let over : awaits_more (c.in_ok-bits.bits ++ bit) ≡ false =
          rw c.append.ensures at (sym w.if-may_go_on.ensures) in
          w.self-is ∙ sym (before ∙ still_open-over (c.in_ok-bits.bits ++ bit) over)
    ]
