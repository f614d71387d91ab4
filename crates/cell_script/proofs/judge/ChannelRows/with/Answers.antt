use Rattle.cell_script.proofs.Common.{ℕ, ◌+◌, true, false, get_or, ap, set, channel}
use Rattle.cell_script.proofs.ScriptRows.{one_row}
use Rattle.cell_script.proofs.judge.ChannelRows.with.Goals as goal

pub returns-clause-seen : goal.returns-clause-seen
returns-clause-seen c ls before =
    let rows = c.args.self in
    one_row rows _ ls (channel c.args.row c.args.gain) _ c.requires.row
    (ap (λ (n : ℕ). get_or rows.used n false) c.from-place.ensures)
    (ap (λ (n : ℕ). set rows.used n true) c.from-place.ensures) c.first_row-self.ensures
    c.first_row-self-2.ensures (ap (λ (n : ℕ). rows.gains + n) c.from.ensures) before
