-- The text of statements, and the script of a plan.
use Rattle.cell_script.specs.Common.{SyncFields, CellIdentity, CellPlan, LinkPlan, Page, PagingPlan}
use Rattle.cell_script.specs.Common.{PilotPlan, SyncPlan, TrafficPlan, TrafficFrame, Statement}
use Rattle.cell_script.specs.Common.{TrafficLine, FieldForm}
use Rattle.std.specs.Prelude.{ℕ, ◌^◌, ◌<◌, List, [], ◌∷◌, ◌++◌, codes, decimal, map, Option, None}
use Rattle.std.specs.Prelude.{Some}
use Rattle.std.specs.List.{flat_map}
use Rattle.line_text.specs.Texts.{bit_text, serial_digits, state_digits}
use Rattle.cell_script.specs.declared.statements.PagingLine.{PagingLine}
use Rattle.cell_script.specs.LineForms.{written_as}
use Rattle.cell_script.specs.Rows.{NumberRow, local_rows, network_rows}
use Rattle.cell_script.specs.ScriptLines.{cell_statement, frame_statement, freq_number, gain_row}
use Rattle.cell_script.specs.ScriptLines.{link_statement, page_statement, paging_statement}
use Rattle.cell_script.specs.ScriptLines.{pilot_statement, traffic_statement}
use Rattle.cell_script.specs.declared.statements.Statement.TheVariants as statements
use Rattle.cell_script.specs.declared.tables.FieldForm.TheVariants as forms

-- ---- fields

-- the text of an unsigned value in the form of its field
abbrev pub value_text : FieldForm → ℕ → List ℕ
value_text (forms.UpTo most) n = decimal n
value_text forms.Signed n = decimal n
value_text forms.State n = state_digits n
value_text forms.SerialNumber n = serial_digits n

-- a value that is not a serial number, or a serial number of 32 bits
abbrev pub HasDigits : FieldForm → ℕ → Type 0
HasDigits (forms.UpTo most) n = Unit {0}
HasDigits forms.Signed n = Unit {0}
HasDigits forms.State n = Unit {0}
HasDigits forms.SerialNumber n = n < 2 ^ 32

-- numeric fields of a message: each key, followed by its value
abbrev pub numbers_text : List NumberRow → List ℕ → List ℕ
numbers_text [] numbers = []
numbers_text (f ∷ fields) [] = []
numbers_text (f ∷ fields) (number ∷ numbers) =
    f.key ++ (decimal number ++ numbers_text fields numbers)

-- ---- statements

-- `cell pn=P time=T lc=H checks=C`
unfoldable pub written_cell : CellIdentity → List ℕ
written_cell = written_as cell_statement

-- `link re=A im=B start=S samples=N`
unfoldable pub written_link : LinkPlan → List ℕ
written_link = written_as link_statement

-- `pilot gain=G`
unfoldable pub written_pilot : PilotPlan → List ℕ
written_pilot = written_as pilot_statement

-- `sync gain=G prev=.. min=.. sid=.. nid=.. lp=.. ltm=.. daylt=.. prat=.. [freq=..] rest=BITS`
abbrev pub network_values : SyncFields → List ℕ
network_values m = m.prev ∷ m.min ∷ m.sid ∷ m.nid ∷ []

abbrev pub local_values : SyncFields → List ℕ
local_values m = m.lp ∷ m.ltm ∷ m.daylt ∷ m.prat ∷ []

abbrev pub written_freq : Option ℕ → List ℕ
written_freq None = []
written_freq (Some freq) = freq_number.key ++ decimal freq

unfoldable pub written_sync : SyncPlan → List ℕ
written_sync sync =
    gain_row.key ++ (decimal sync.gain
    ++ (numbers_text network_rows (network_values sync.message)
    ++ (numbers_text local_rows (local_values sync.message)
    ++ (written_freq sync.message.freq ++ (codes " rest=" ++ bit_text sync.message.rest)))))

-- `paging channel=C gain=G`
unfoldable pub written_paging : PagingLine → List ℕ
written_paging = written_as paging_statement

-- `page half BITS` or `page next BITS`
unfoldable pub written_page : Page → List ℕ
written_page page = written_as (page_statement page.follows) page

-- `traffic row=R esn=H offset=O gain=G`
unfoldable pub written_traffic : TrafficLine → List ℕ
written_traffic = written_as traffic_statement

-- `frame RATE BITS COMMANDS`, or `frame2 RATE BITS COMMANDS`
unfoldable pub written_frame : TrafficFrame → List ℕ
written_frame f = written_as (frame_statement f.rate) f

-- the text of a statement
abbrev pub statement_text : Statement → List ℕ
statement_text (statements.Cell cell) = written_cell cell
statement_text (statements.Link link) = written_link link
statement_text (statements.Pilot pilot) = written_pilot pilot
statement_text (statements.Sync sync) = written_sync sync
statement_text (statements.Paging line) = written_paging line
statement_text (statements.Page page) = written_page page
statement_text (statements.Traffic line) = written_traffic line
statement_text (statements.Frame frame) = written_frame frame

-- ---- scripts

-- a line with its LF
abbrev pub with_line_feed : List ℕ → List ℕ
with_line_feed line = line ++ 10 ∷ []

-- a statement's line
abbrev pub statement_line : Statement → List ℕ
statement_line statement = with_line_feed (statement_text statement)

-- the lines of statements, one after another
abbrev pub lines_of : List Statement → List ℕ
lines_of statements = flat_map statement_line statements

-- a paging channel: its line, and those of its pages
abbrev pub line_of_paging : PagingPlan → PagingLine
line_of_paging p = record { number = p.number; gain = p.gain }

abbrev pub paging_statements : PagingPlan → List Statement
paging_statements p = statements.Paging (line_of_paging p) ∷ map statements.Page p.pages

-- a traffic channel: its line, and those of its frames
abbrev pub line_of_traffic : TrafficPlan → TrafficLine
line_of_traffic t = record { row = t.row; esn = t.esn; offset = t.offset; gain = t.gain }

abbrev pub traffic_statements : TrafficPlan → List Statement
traffic_statements t = statements.Traffic (line_of_traffic t) ∷ map statements.Frame t.frames

abbrev pub sync_statements : Option SyncPlan → List Statement
sync_statements None = []
sync_statements (Some sync) = statements.Sync sync ∷ []

-- the statements of the channels other than the pilot
abbrev pub channel_statements : CellPlan → List Statement
channel_statements plan =
    sync_statements plan.sync
    ++ (flat_map paging_statements plan.paging ++ flat_map traffic_statements plan.traffic)

-- all statements of a plan, in the order of a script
abbrev pub statements_of : CellPlan → List Statement
statements_of plan =
    statements.Cell plan.cell
    ∷ (statements.Link plan.link ∷ (statements.Pilot plan.pilot ∷ channel_statements plan))

-- the script that states a plan
unfoldable pub script_of : CellPlan → List ℕ
script_of plan = lines_of (statements_of plan)
