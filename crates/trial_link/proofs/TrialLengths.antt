-- How long the lines of a trial's script are.
use Rattle.trial_link.proofs.Common.{◌≡◌, ◌+◌, ◌≤◌, true, length, refl, arith, is_body, CellIdentity, Page, TrafficLine, TrafficFrame}
use Rattle.trial_link.proofs.Common.{IsStatedCell, IsTrafficFrame, written_cell, written_frame, written_page, written_traffic}
use Rattle.cell_script.proofs.LineForms.{fields_short}
use Rattle.cell_script.proofs.SpelledLines.{IsWritableTraffic, body_short, cell_writable, frame_law, frame_writable, information_few}
use Rattle.cell_script.proofs.SpelledLines.{page_law, page_writable}
use Rattle.cell_script.specs.ScriptLines.{cell_statement, frame_statement, page_statement, traffic_statement}

-- a line is short: that of a cell, of a traffic channel, of a page, of a frame
pub written_cell_short : (cell : CellIdentity) → IsStatedCell cell → length (written_cell cell) ≤ 200
unfolding written_cell
written_cell_short cell is =
    let short : length (written_cell cell) ≤ 151 =
    fields_short cell_statement.rows (cell_statement.said cell) refl (cell_writable cell is).ranged in
    omega (arith, short)

pub written_traffic_short : (line : TrafficLine) → IsWritableTraffic line → length (written_traffic line) ≤ 200
unfolding written_traffic
written_traffic_short line is =
    let short : length (written_traffic line) ≤ 148 =
    fields_short traffic_statement.rows (traffic_statement.said line) refl is.ranged in
    omega (arith, short)

pub written_page_short : (page : Page) → is_body page.body ≡ true → length (written_page page) ≤ 1200
unfolding written_page
written_page_short page is =
    let form = page_statement page.follows in
    let short : length (written_page page) ≤ 20 + (28 + length page.body + 0) =
    fields_short form.rows (form.said page) (page_law page.follows).sound (page_writable page is).ranged in
    omega (arith, short, body_short page.body is)

pub written_frame_short : (f : TrafficFrame) → IsTrafficFrame f → length f.power_bits ≡ 16 →
    length (written_frame f) ≤ 352
unfolding written_frame
written_frame_short f long sixteen =
    let form = frame_statement f.rate in
    let short : length (written_frame f) ≤ 20 + (28 + length f.information + (20 + (16 + 0))) =
    fields_short form.rows (form.said f) (frame_law f.rate).sound (frame_writable f long sixteen).ranged in
    omega (arith, short, long, information_few f.rate)
