use Rattle.message_layout.proofs.Common.{drop, length, arith, shape}
use Rattle.message_layout.proofs.Lawful.{count_below, fixed_few, group_few, lawful, records_few}
use Rattle.message_layout.proofs.Parts.{octets_left}
use Rattle.message_layout.proofs.reading.read_parts.Goals as goal

pub read_fields-requires-clause-widths : goal.read_fields-requires-clause-widths
read_fields-requires-clause-widths c = (lawful (shape c.args.layout.now) c.requires.lawful).fixed

pub read_fields-requires-clause-room : goal.read_fields-requires-clause-room
read_fields-requires-clause-room c = fixed_few c.args.layout.now c.requires.lawful

pub read_group-requires-clause-widths : goal.read_group-requires-clause-widths
read_group-requires-clause-widths c = (lawful (shape c.args.layout.now) c.requires.lawful).group

pub read_group-requires-clause-room : goal.read_group-requires-clause-room
read_group-requires-clause-room c = group_few c.args.layout.now c.requires.lawful

pub read_octets-requires-clause-zeros : goal.read_octets-requires-clause-zeros
read_octets-requires-clause-zeros c = (lawful (shape c.args.layout.now) c.requires.lawful).zeros

pub read_octets-requires-clause-width : goal.read_octets-requires-clause-width
read_octets-requires-clause-width c = (lawful (shape c.args.layout.now) c.requires.lawful).count

pub read_records-requires-clause-widths : goal.read_records-requires-clause-widths
read_records-requires-clause-widths c = (lawful (shape c.args.layout.now) c.requires.lawful).records

pub read_records-requires-clause-narrow : goal.read_records-requires-clause-narrow
read_records-requires-clause-narrow c = (lawful (shape c.args.layout.now) c.requires.lawful).narrow

pub read_records-requires-clause-few : goal.read_records-requires-clause-few
read_records-requires-clause-few c = records_few c.args.layout.now c.requires.lawful

-- There is room for the records: no more of them fit into the bits left after the octets than into
-- all bits of the message, and those are at most 128.
pub read_records-requires-clause-room : goal.read_records-requires-clause-room
read_records-requires-clause-room c =
    let s = shape c.args.layout.now in
    let bits = c.args.bits.now in
    let fixed = drop c.in_ok-fixed.from bits in
    let group = drop c.in_ok-group.from bits in
    let octets = drop c.in_ok-octets.from bits in
    let left = octets_left s.presence s.fixed s.group s.zeros s.count (drop c.args.from bits) fixed
    group octets c.in_ok-fixed.fixed c.in_ok-group.group c.in_ok-octets.octets
    c.in_ok-fixed.ensures.values c.in_ok-group.ensures.group c.in_ok-octets.ensures.octets in
    omega (
      arith,
      count_below s.records (length octets) (length (drop c.args.from bits))
          (lawful s c.requires.lawful).records left,
      c.requires.room,
    )
