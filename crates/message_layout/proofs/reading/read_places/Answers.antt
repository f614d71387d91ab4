use Rattle.message_layout.proofs.Common.{◌+◌, length, refl, arith}
use Rattle.message_layout.proofs.Loops.{number_small, place_within, places_few, places_more}
use Rattle.message_layout.proofs.reading.read_places.Goals as goal

pub number_from-requires-clause-within : goal.number_from-requires-clause-within
number_from-requires-clause-within c =
    omega (
      arith,
      c.loop-i.invariant.there,
      place_within c.args.size c.args.first c.args.width c.loop-i._i c.args.count
          (length c.args.bits.now) c.loop-i-test.true c.requires.within,
    )

pub push_number-requires : goal.push_number-requires
push_number-requires c =
    omega (
      arith,
      places_few c.args.size c.args.first c.args.width c.loop-i._i c.args.bits.now c.loop-i.place
          c.loop-i.numbers c.loop-i.invariant,
      c.loop-i-test.true,
      c.requires.most,
    )

pub loop-i-preserved : goal.loop-i-preserved
loop-i-preserved c =
    places_more c.args.size c.args.first c.args.width c.loop-i._i c.args.bits.now c.loop-i.place
    c.number_from.result (c.loop-i.place + c.args.size) c.loop-i.numbers c.push_number.new.numbers
    c.loop-i.invariant c.number_from.ensures.value c.push_number.ensures refl

pub overflow_cast-number_from : goal.overflow_cast-number_from
overflow_cast-number_from c = omega (arith, number_small _ _ c.number_from.ensures.fits c.requires.width.1)

pub overflow_add-place : goal.overflow_add-place
overflow_add-place c =
    omega (
      arith,
      c.loop-i.invariant.there,
      place_within c.args.size c.args.first c.args.width c.loop-i._i c.args.count
          (length c.args.bits.now) c.loop-i-test.true c.requires.within,
      c.requires.size,
      c.len-most.ensures.value,
      c.len-most.ensures.most,
    )
