use Rattle.message_layout.proofs.Common.{common_steps, ints, length, ap, arith, length-append, binary, length-binary}
use Rattle.message_layout.proofs.Parts.{length-octets}
use Rattle.message_layout.proofs.writing.append_octets.Goals as goal

pub append_number-requires-clause-room : goal.append_number-requires-clause-room
append_number-requires-clause-room c =
    omega (arith, c.requires.room, length-octets c.args.layout.zeros c.args.layout.width c.args.octets.now)

pub append_number-requires-2-clause-room : goal.append_number-requires-2-clause-room
append_number-requires-2-clause-room c =
    omega (
      arith,
      c.requires.room,
      length-octets c.args.layout.zeros c.args.layout.width c.args.octets.now,
      ap length c.append_number.ensures,
      length-append c.args.body.now (binary c.args.layout.zeros 0),
      length-binary c.args.layout.zeros 0,
    )

pub append_all-requires : goal.append_all-requires
append_all-requires c = grind (ints, arith, common_steps)
