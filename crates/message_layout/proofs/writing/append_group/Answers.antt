use Rattle.message_layout.proofs.Common.{arith, common_steps, ints, length, map}
use Rattle.message_layout.proofs.Written.{flagged_room}
use Rattle.message_layout.proofs.writing.append_group.Goals as goal

pub append_number-requires-clause-room : goal.append_number-requires-clause-room
append_number-requires-clause-room c =
    flagged_room c.args.group.now.presence (map (λ row. row.1) c.args.group.now.fields.now)
    c.args.values.now (length c.args.body.now) c.in-Flagged-None.is-0 c.requires.room

pub append_number-requires-in-Flagged-Some-clause-room :
    goal.append_number-requires-in-Flagged-Some-clause-room
append_number-requires-in-Flagged-Some-clause-room c =
    flagged_room c.args.group.now.presence (map (λ row. row.1) c.args.group.now.fields.now)
    c.args.values.now (length c.args.body.now) c.in-Flagged-Some.is-0 c.requires.room

pub returns-in-Flagged-Some : goal.returns-in-Flagged-Some
returns-in-Flagged-Some c = grind (ints, arith, common_steps)

pub append_values-requires-clause-room : goal.append_values-requires-clause-room
append_values-requires-clause-room c = grind (ints, arith, common_steps)
