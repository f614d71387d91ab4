use Rattle.trial_link.proofs.Common.{◌≡◌, ◌+◌, ◌++◌, ℕ, Bool, List, length, ap, arith, length-append, binary, length-binary}
use Rattle.trial_link.proofs.trial.channel_list.Goals.{After-append_number, After-append_number-2, After-append_number-3}
use Rattle.trial_link.proofs.trial.channel_list.Goals as goal

-- how many bits there are after a number
number_long : (old new : List Bool) (long n v : ℕ) → length old ≡ long → new ≡ old ++ binary n v → length new ≡ long + n
number_long old new long n v before is =
    omega (arith, before, ap length is, length-append old (binary n v), length-binary n v)

-- after the type, the pilot and the sequence number
type_long : (c : After-append_number) → length c.append_number.new.self ≡ 8
type_long c =
    number_long c.empty-body.result c.append_number.new.self 0 8 4 (ap length c.empty-body.ensures)
    c.append_number.ensures

pilot_long : (c : After-append_number-2) → length c.append_number.new.self ≡ 8 → length c.append_number-2.new.self ≡ 17
pilot_long c before =
    number_long c.append_number.new.self c.append_number-2.new.self 8 9 c.from.result before
    c.append_number-2.ensures

seq_long : (c : After-append_number-3) → length c.append_number-2.new.self ≡ 17 → length c.append_number-3.new.self ≡ 23
seq_long c before =
    number_long c.append_number-2.new.self c.append_number-3.new.self 17 6 0 before
    c.append_number-3.ensures

pub append_number-requires-2-clause-room : goal.append_number-requires-2-clause-room
append_number-requires-2-clause-room c =
    omega (arith, type_long (goal.at.append_number-requires-2-clause-room c).After-append_number)

pub append_number-requires-3-clause-room : goal.append_number-requires-3-clause-room
append_number-requires-3-clause-room c =
    let here = goal.at.append_number-requires-3-clause-room c in
    omega (arith, pilot_long here.After-append_number-2 (type_long here.After-append_number))

pub append_number-requires-4-clause-room : goal.append_number-requires-4-clause-room
append_number-requires-4-clause-room c =
    let here = goal.at.append_number-requires-4-clause-room c in
    omega (
      arith,
      seq_long here.After-append_number-3
          (pilot_long here.After-append_number-2 (type_long here.After-append_number)),
    )
