-- The lines of a script: the content of each kind of statement, independent of the lines before it.
use Rattle.cell_script.specs.Common.{Plain, Complemented, is_body, SyncFields, information_bits_of}
use Rattle.cell_script.specs.Common.{PilotPlan, SyncPlan, CellIdentity, LinkPlan, Page, FrameRate}
use Rattle.cell_script.specs.Common.{SetOne, SetTwo, TrafficFrame, R14400, R7200, R3600, R1800}
use Rattle.cell_script.specs.Common.{R9600, R4800, R2400, R1200, TrafficLine, Statement}
use Rattle.std.specs.Prelude.{ℕ, ◌+◌, ◌*◌, ◌/◌, ◌%◌, ◌==◌, nat_le, nat_lt, Bool, true, false, not}
use Rattle.std.specs.Prelude.{ℤ, if◌then◌else◌, ◌&&◌, ◌||◌, List, [], ◌∷◌, length, get_or, codes}
use Rattle.std.specs.Prelude.{Option, None, Some, unsigned_abs, option_map}
use Rattle.chip_core.specs.declared.check_form.CheckForm.{CheckForm}
use Rattle.sync_message.specs.Rows.{freq_row}
use Rattle.cell_script.specs.declared.statements.PagingLine.{PagingLine}
use Rattle.cell_script.specs.LineForms.{LineForm, StatementRow, formed, read_as, reader_of, valued}
use Rattle.cell_script.specs.LineForms.TextForm.{BitList, SixteenDigits}
use Rattle.cell_script.specs.Rows.{NumberRow, local_rows, network_rows, numbers_in, past_numbers}
use Rattle.cell_script.specs.Rows.{ranged}
use Rattle.cell_script.specs.ScriptFields.{◌>>=◌, at_end, script_field, past}
use Rattle.line_text.specs.StatedValues.{begins_with, bits_in_text, number_up_to}
use Rattle.cell_script.specs.declared.statements.Statement.TheVariants as statements
use Rattle.cell_script.specs.declared.tables.FieldForm.TheVariants as forms

-- ---- statements

-- the form of checks: complemented if the bit is 1
abbrev pub check_form : ℕ → CheckForm
check_form bit = if bit == 1 then Complemented else Plain

-- the bit of a form of checks
abbrev pub form_bit : CheckForm → ℕ
form_bit Plain = 0
form_bit Complemented = 1

-- `cell pn=P time=T lc=H checks=C`
abbrev pub cell_line : ℕ → ℕ → ℕ → ℕ → CellIdentity
cell_line pn time lc checks =
    record {
      pn = pn;
      time = time;
      lc = lc;
      check30 = check_form (checks % 2);
      check16 = check_form (checks / 2);
    }

abbrev pub cell_statement : LineForm CellIdentity
cell_statement = record {
  rows =
      formed (codes "cell pn=") (forms.UpTo 511)
      ∷ formed (codes " time=") (forms.UpTo 34359738368)
      ∷ formed (codes " lc=") forms.State
      ∷ formed (codes " checks=") (forms.UpTo 3)
      ∷ [];
  lawful = λ v. true;
  line = λ v. cell_line v.0 v.1.0 v.1.1.0 v.1.1.1.0;
  said = λ cell. (
    cell.pn,
    (cell.time, (cell.lc, (form_bit cell.check30 + 2 * form_bit cell.check16, tt))),
  );
}

unfoldable pub cell_in : List ℕ → Option CellIdentity
cell_in = read_as cell_statement

-- `link re=A im=B start=S samples=N`: A and B are not both 0, and N is not 0
abbrev pub is_link : ℤ → ℤ → ℕ → Bool
is_link re im samples = nat_lt 0 (unsigned_abs re + unsigned_abs im) && nat_lt 0 samples

abbrev pub link_statement : LineForm LinkPlan
link_statement = record {
  rows =
      formed (codes "link re=") forms.Signed
      ∷ formed (codes " im=") forms.Signed
      ∷ formed (codes " start=") (forms.UpTo 4294967295)
      ∷ formed (codes " samples=") (forms.UpTo 18446744073709551615)
      ∷ [];
  lawful = λ v. is_link v.0 v.1.0 v.1.1.1.0;
  line = λ v. record {
    factor = record { i = v.0; q = v.1.0 };
    start = v.1.1.0;
    samples = v.1.1.1.0;
  };
  said = λ link. (link.factor.i, (link.factor.q, (link.start, (link.samples, tt))));
}

unfoldable pub link_in : List ℕ → Option LinkPlan
link_in = read_as link_statement

-- `pilot gain=G`
abbrev pub pilot_statement : LineForm PilotPlan
pilot_statement = record {
  rows = formed (codes "pilot gain=") (forms.UpTo 65535) ∷ [];
  lawful = λ v. true;
  line = λ v. record { gain = v.0 };
  said = λ pilot. (pilot.gain, tt);
}

unfoldable pub pilot_in : List ℕ → Option PilotPlan
pilot_in = read_as pilot_statement

-- `sync gain=G prev=.. min=.. sid=.. nid=.. lp=.. ltm=.. daylt=.. prat=.. [freq=..] rest=BITS`

-- the frequency is optional
abbrev pub freq_number : NumberRow
freq_number = ranged freq_row.name freq_row.width

unfoldable pub freq_in : List ℕ → Option (Option ℕ)
freq_in text =
    if begins_with text freq_number.key
    then option_map Some (script_field freq_number.key (number_up_to freq_number.most) text)
    else Some None

unfoldable pub past_freq : List ℕ → List ℕ
past_freq text = if begins_with text freq_number.key then past freq_number.key text else text

-- without a frequency, the message has 3 bits of rest; with one, 0 to 976 in steps of 8
abbrev pub has_lawful_rest : Option ℕ → List Bool → Bool
has_lawful_rest None rest = length rest == 3
has_lawful_rest (Some freq) rest = if length rest % 8 == 0 then nat_le (length rest) 976 else false

abbrev pub lawful_message : SyncFields → Option SyncFields
lawful_message message = if has_lawful_rest message.freq message.rest then Some message else None

abbrev pub gain_row : StatementRow
gain_row = formed (codes "sync gain=") (forms.UpTo 65535)

-- the message's fields, with zeros for PILOT_PN, SYS_TIME and LC_STATE
abbrev pub sync_fields : List ℕ → List ℕ → Option ℕ → List Bool → SyncFields
sync_fields network local freq rest = record {
  prev = get_or network 0 0;
  min = get_or network 1 0;
  sid = get_or network 2 0;
  nid = get_or network 3 0;
  pn = 0;
  lc = 0;
  time = 0;
  lp = get_or local 0 0;
  ltm = get_or local 1 0;
  daylt = get_or local 2 0;
  prat = get_or local 3 0;
  freq = freq;
  rest = rest;
}

-- the content of the line, from its gain, its numbers and the text after them
unfoldable pub sync_after : ℕ → List ℕ → List ℕ → List ℕ → Option SyncPlan
sync_after gain network local text0 =
    let text1 = past_freq text0 in
    let text2 = past (codes " rest=") text1 in
    do
      freq ← freq_in text0
      rest ← script_field (codes " rest=") bits_in_text text1
      message ← lawful_message (sync_fields network local freq rest)
      at_end text2 (record { gain = gain; message = message })

unfoldable pub sync_in : List ℕ → Option SyncPlan
sync_in text0 =
    let text1 = past gain_row.key text0 in
    let text2 = past_numbers network_rows text1 in
    do
      gain ← script_field gain_row.key (reader_of gain_row.form) text0
      network ← numbers_in network_rows text1
      local ← numbers_in local_rows text2
      sync_after gain network local (past_numbers local_rows text2)

-- `paging channel=C gain=G`: C isn't 0
abbrev pub paging_statement : LineForm PagingLine
paging_statement = record {
  rows =
      formed (codes "paging channel=") (forms.UpTo 7)
      ∷ formed (codes " gain=") (forms.UpTo 65535)
      ∷ [];
  lawful = λ v. not (v.0 == 0);
  line = λ v. record { number = v.0; gain = v.1.0 };
  said = λ line. (line.number, (line.gain, tt));
}

unfoldable pub paging_in : List ℕ → Option PagingLine
paging_in = read_as paging_statement

-- `page half BITS` or `page next BITS`: the bits are the body of a paging message

-- the text before the bits
abbrev pub page_key : Bool → List ℕ
page_key follows = if follows then codes "page next " else codes "page half "

abbrev pub page_statement : Bool → LineForm Page
page_statement follows = record {
  rows = valued (page_key follows) BitList ∷ [];
  lawful = λ v. is_body v.0;
  line = λ v. record { follows = follows; body = v.0 };
  said = λ page. (page.body, tt);
}

unfoldable pub stated_page_in : List ℕ → Option Page
stated_page_in text = read_as (page_statement (begins_with text (codes "page next "))) text

-- `traffic row=R esn=H offset=O gain=G`
abbrev pub traffic_statement : LineForm TrafficLine
traffic_statement = record {
  rows =
      formed (codes "traffic row=") (forms.UpTo 63)
      ∷ formed (codes " esn=") forms.SerialNumber
      ∷ formed (codes " offset=") (forms.UpTo 15)
      ∷ formed (codes " gain=") (forms.UpTo 65535)
      ∷ [];
  lawful = λ v. true;
  line = λ v. record { row = v.0; esn = v.1.0; offset = v.1.1.0; gain = v.1.1.1.0 };
  said = λ line. (line.row, (line.esn, (line.offset, (line.gain, tt))));
}

unfoldable pub traffic_in : List ℕ → Option TrafficLine
traffic_in = read_as traffic_statement

-- `frame RATE BITS COMMANDS`, or `frame2 RATE BITS COMMANDS` for a rate of rate set 2: BITS has the
-- rate's number of information bits

-- the text before the bits
abbrev pub frame_key : FrameRate → List ℕ
frame_key (SetOne R9600) = codes "frame 9600 "
frame_key (SetOne R4800) = codes "frame 4800 "
frame_key (SetOne R2400) = codes "frame 2400 "
frame_key (SetOne R1200) = codes "frame 1200 "
frame_key (SetTwo R14400) = codes "frame2 14400 "
frame_key (SetTwo R7200) = codes "frame2 7200 "
frame_key (SetTwo R3600) = codes "frame2 3600 "
frame_key (SetTwo R1800) = codes "frame2 1800 "

-- the first of these rates whose key a line begins with
abbrev pub rate_by : List FrameRate → List ℕ → Option FrameRate
rate_by [] text = None
rate_by (rate ∷ rates) text =
    if begins_with text (frame_key rate) then Some rate else rate_by rates text

abbrev pub frame_rates : List FrameRate
frame_rates =
    SetOne R9600 ∷ SetOne R4800 ∷ SetOne R2400 ∷ SetOne R1200 ∷ SetTwo R14400 ∷ SetTwo R7200
    ∷ SetTwo R3600 ∷ SetTwo R1800 ∷ []

abbrev pub frame_rate : List ℕ → Option FrameRate
frame_rate = rate_by frame_rates

-- a frame has the number of information bits of its rate
abbrev pub frame_statement : FrameRate → LineForm TrafficFrame
frame_statement rate = record {
  rows = valued (frame_key rate) BitList ∷ valued (codes " ") SixteenDigits ∷ [];
  lawful = λ v. length v.0 == information_bits_of rate;
  line = λ v. record { rate = rate; information = v.0; power_bits = v.1.0 };
  said = λ frame. (frame.information, (frame.power_bits, tt));
}

unfoldable pub traffic_frame_in : List ℕ → Option TrafficFrame
traffic_frame_in text = do
  rate ← frame_rate text
  read_as (frame_statement rate) text

-- ---- what a line states

-- the first word of a statement selects its kind: for statements of paging and traffic channels,
-- and for all statements
abbrev pub channel_statement_in : List ℕ → Option Statement
channel_statement_in text =
    if begins_with text (codes "paging ") then option_map statements.Paging (paging_in text)
    else (if begins_with text (codes "page ") then option_map statements.Page (stated_page_in text)
    else (if begins_with text (codes "traffic ")
    then option_map statements.Traffic (traffic_in text)
    else (if begins_with text (codes "frame ") || begins_with text (codes "frame2 ")
    then option_map statements.Frame (traffic_frame_in text)
    else None)))

unfoldable pub statement_in : List ℕ → Option Statement
statement_in text =
    if begins_with text (codes "cell ") then option_map statements.Cell (cell_in text)
    else (if begins_with text (codes "link ") then option_map statements.Link (link_in text)
    else (if begins_with text (codes "pilot ") then option_map statements.Pilot (pilot_in text)
    else (if begins_with text (codes "sync ") then option_map statements.Sync (sync_in text)
    else channel_statement_in text)))
