use Rattle.rake_finger.proofs.Common.{◌≡◌, ◌+◌, ◌≤◌, ◌∙◌, ap, arith, drop, length, take, All-drop, IsUnit, pilot_signs, units}
use Rattle.rake_finger.proofs.Rings.{run_is}
use Rattle.rake_finger.proofs.SymbolSums.{covered_run, plain_run}
use Rattle.rake_finger.proofs.sums.unbroken_sums.Goals as goal

pub symbol_sums_on_lanes-requires-clause-units : goal.symbol_sums_on_lanes-requires-clause-units
symbol_sums_on_lanes-requires-clause-units c =
    rw (c.split_at.ensures.back, c.table.ensures.value) (All-drop IsUnit c.from.result pilot_signs units)

-- Both sums of an unbroken run are the definition's: the ring's run is the samples from the place
-- on, the table from its first chip on is the code's signs from there, and neither reaches past its
-- end.
pub returns-clause-sums : goal.returns-clause-sums
returns-clause-sums c = λ samples row phase place held row_signs in_ring cell first.
    let at : c.from.result ≡ c.args.first = omega arith in
    let count : c.from-2.result ≡ c.args.chips = omega arith in
    let back = c.split_at.ensures.back ∙ ap (drop c.from.result) c.table.ensures.value in
    let ahead : c.split_at.result.1.now ≡ drop c.args.first pilot_signs = rw at at back in
    let run : c.run.result.now ≡ take c.args.chips (drop place samples) =
    run_is c.args.ring.now samples c.run.result.now place c.args.chips c.args.cell in_ring.taken
    in_ring.kept held cell c.requires.cells (omega (arith, c.run.ensures.long, count))
    (rw count at c.run.ensures.value) in
    let room : c.args.first + length c.run.result.now ≤ 32768 =
    omega (arith, c.run.ensures.long, count, c.requires.code) in
    record {
      plain = plain_run samples c.run.result.now c.split_at.result.1.now phase place c.args.chips
          c.args.first _ c.symbol_sums_on_lanes.ensures.plain ahead run first room;
      covered = covered_run row c.args.signs.now samples c.run.result.now
          c.split_at.result.1.now phase place c.args.chips c.args.first _ row_signs
          c.symbol_sums_on_lanes.ensures.covered ahead run first room;
    }
