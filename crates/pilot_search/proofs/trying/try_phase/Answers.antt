use Rattle.pilot_search.proofs.Common.{ints, common_steps, arith}
use Rattle.pilot_search.proofs.Runs.{told_is_try}
use Rattle.pilot_search.proofs.trying.try_phase.Goals as goal

pub returns-clause-read : goal.returns-clause-read
returns-clause-read c =
    let e = c.in_ok-energy.ensures in
    let read = c.load-read.result in (
      read,
      c.load-read.ensures.least,
      told_is_try c.args.samples.now c.args.phase read c.in_ok-energy.energy e.0,
      (e.1, e.0, omega arith, omega arith),
    )

pub returns-in_err-energy-clause-read : goal.returns-in_err-energy-clause-read
returns-in_err-energy-clause-read c = grind (ints, arith, common_steps)
