use Rattle.rake_finger.proofs.Common.{◌≡◌, ◌%◌, arith, vec_len, refl}
use Rattle.rake_finger.proofs.Rings.{HoldsLast-more}
use Rattle.rake_finger.proofs.ring.SampleRing.put.Goals as goal

pub returns-clause-holds : goal.returns-clause-holds
returns-clause-holds c = λ samples held.
    let before = rw (← c.self.view_is) at held in
    let next : c.args.cell ≡ c.self.inside.taken % vec_len c.self.inside.cells =
    rw (← c.self.view_is) at c.requires.next in
    rw next (HoldsLast-more c.self.inside.cells.items samples c.args.s
    (vec_len c.self.inside.cells) c.self.inside.taken _ (omega (arith, c.self.invariant.0))
    (omega (arith, c.self.inside.cells.ok.0)) refl before)
