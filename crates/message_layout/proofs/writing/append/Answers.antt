use Rattle.message_layout.proofs.Common.{shape}
use Rattle.message_layout.proofs.Lawful.{fixed_few, group_few, lawful, records_few}
use Rattle.message_layout.proofs.Written.{room_after, room_first, room_of_part, written}
use Rattle.message_layout.proofs.writing.append.Goals as goal

pub append_values-requires-clause-widths : goal.append_values-requires-clause-widths
append_values-requires-clause-widths c = (lawful (shape c.args.layout.now) c.requires.lawful).fixed

pub append_values-requires-clause-few : goal.append_values-requires-clause-few
append_values-requires-clause-few c = fixed_few c.args.layout.now c.requires.lawful

pub append_values-requires-clause-room : goal.append_values-requires-clause-room
append_values-requires-clause-room c =
    room_of_part _ _ _ (room_first (shape c.args.layout.now) c.args.contents.now c.args.body.now c.requires.room)

pub append_group-requires-clause-widths : goal.append_group-requires-clause-widths
append_group-requires-clause-widths c = (lawful (shape c.args.layout.now) c.requires.lawful).group

pub append_group-requires-clause-few : goal.append_group-requires-clause-few
append_group-requires-clause-few c = group_few c.args.layout.now c.requires.lawful

pub append_group-requires-clause-room : goal.append_group-requires-clause-room
append_group-requires-clause-room c =
    room_of_part _ _ _ (room_after _ _ _ _ c.append_values.ensures
    (room_first (shape c.args.layout.now) c.args.contents.now c.args.body.now c.requires.room))

pub append_octets-requires-clause-zeros : goal.append_octets-requires-clause-zeros
append_octets-requires-clause-zeros c = (lawful (shape c.args.layout.now) c.requires.lawful).zeros

pub append_octets-requires-clause-width : goal.append_octets-requires-clause-width
append_octets-requires-clause-width c = (lawful (shape c.args.layout.now) c.requires.lawful).count

pub append_octets-requires-clause-room : goal.append_octets-requires-clause-room
append_octets-requires-clause-room c =
    room_of_part _ _ _ (room_after _ _ _ _ c.append_group.ensures (room_after _ _ _ _ c.append_values.ensures
    (room_first (shape c.args.layout.now) c.args.contents.now c.args.body.now c.requires.room)))

pub append_records-requires-clause-widths : goal.append_records-requires-clause-widths
append_records-requires-clause-widths c = (lawful (shape c.args.layout.now) c.requires.lawful).records

pub append_records-requires-clause-few : goal.append_records-requires-clause-few
append_records-requires-clause-few c = records_few c.args.layout.now c.requires.lawful

pub append_records-requires-clause-room : goal.append_records-requires-clause-room
append_records-requires-clause-room c =
    room_of_part _ _ _ (room_after _ _ _ _ c.append_octets.ensures
    (room_after _ _ _ _ c.append_group.ensures (room_after _ _ _ _ c.append_values.ensures
    (room_first (shape c.args.layout.now) c.args.contents.now c.args.body.now c.requires.room))))

pub append_all-requires : goal.append_all-requires
append_all-requires c =
    room_after _ _ _ _ c.append_records.ensures (room_after _ _ _ _ c.append_octets.ensures
    (room_after _ _ _ _ c.append_group.ensures (room_after _ _ _ _ c.append_values.ensures
    (room_first (shape c.args.layout.now) c.args.contents.now c.args.body.now c.requires.room))))

pub returns : goal.returns
returns c =
    written (shape c.args.layout.now) c.args.contents.now c.args.body.now
    c.append_values.new.body c.append_group.new.body c.append_octets.new.body
    c.append_records.new.body c.append_all.new.self c.append_values.ensures
    c.append_group.ensures c.append_octets.ensures c.append_records.ensures c.append_all.ensures
