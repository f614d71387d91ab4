use Rattle.pilot_search.proofs.Common.{◌≡◌, arith, pos, ◌-ℤ◌, to_z, of_z, w8, ints}
use Rattle.pilot_search.proofs.NearPlaces.{one_delta, two_deltas, three_deltas}
use Rattle.pilot_search.proofs.nearby.near.Goals as goal

pub returns-then-count-eq1-clause-deltas : goal.returns-then-count-eq1-clause-deltas
returns-then-count-eq1-clause-deltas c =
    let one : c.args.count ≡ 1 = omega arith in
    rw (one, one_delta c.args.samples.now c.args.best.phase c.args.best.energy c.requires.best)

pub returns-then-count-eq2-clause-deltas : goal.returns-then-count-eq2-clause-deltas
returns-then-count-eq2-clause-deltas c =
    let two : c.args.count ≡ 2 = omega arith in
    let round = c.measured_round-round.ensures in
    let delta : to_z w8 (of_z w8 c.delta_of.result) ≡ pos c.next_place-second.result -ℤ pos 32 = omega (arith, ints) in
    rw (
      two,
      two_deltas c.args.samples.now c.args.best.phase c.args.best.energy
          c.measured_round-round.result c.next_place-second.result c.requires.best round
          c.next_place-second.ensures,
      delta,
    )

pub returns-clause-deltas : goal.returns-clause-deltas
returns-clause-deltas c =
    let three : c.args.count ≡ 3 = omega arith in
    let round = c.measured_round-round.ensures in
    let second : to_z w8 (of_z w8 c.delta_of-2.result) ≡ pos c.next_place-second.result -ℤ pos 32 =
    omega (arith, ints) in
    let third : to_z w8 (of_z w8 c.delta_of-3.result) ≡ pos c.next_place-third.result -ℤ pos 32 = omega (arith, ints) in
    rw (
      three,
      three_deltas c.args.samples.now c.args.best.phase c.args.best.energy
          c.measured_round-round.result c.next_place-second.result c.next_place-third.result
          c.requires.best round c.next_place-second.ensures c.next_place-third.ensures,
      second,
      third,
    )
