-- The plan that the script of a trial names.
use Rattle.trial_link.proofs.Common.{trial_serial_number, written_paging, state_of_draws, opened_paging, length_before, statements_of, ◌==◌}
use Rattle.trial_link.proofs.Common.{written_pilot, packed_octets, followed_line, leads_to_plan, decode_pairs, CellIdentity, script_field}
use Rattle.trial_link.proofs.Common.{past_numbers, statement_in, IsStatedCell, bits_in_text, number_up_to, written_link, written_sync, Bool}
use Rattle.trial_link.proofs.Common.{trial_frames, digits_from, stated_plan, empty_draft, count_after, encode_with, other_frame, option_map}
use Rattle.trial_link.proofs.Common.{second_line, first_leads, cond-false, PagingLine, plan_fault, plan_named, empty_plan, numbers_in, true}
use Rattle.trial_link.proofs.Common.{sync_after, page_stage, past_draws, third_line, trial_cell, trial_link, trial_page, trial_plan, length}
use Rattle.trial_link.proofs.Common.{trial_sync, trial_text, none_leads, cond-true, eqb-false, bits_left, FirstPage, Statement, with_next}
use Rattle.trial_link.proofs.Common.{past_freq, signed_in, script_of, CellPlan, draft_at, hex_bits, lines_of, bit_text, Sixteen, IsState, ℕ}
use Rattle.trial_link.proofs.Common.{is_body, freq_in, link_in, sync_in, le-ltb, binary, admits, Paging, Frames, unless, padded, digits, []}
use Rattle.trial_link.proofs.Common.{false, arith, codes, R9600, Stage, Pilot, Pages, Draft, named, drawn, Leads, List, ◌++◌, refl, Some}
use Rattle.trial_link.proofs.Common.{None, fill, Link, Sync, past, ◌≡◌, ◌+◌, ◌*◌, ◌%◌, ◌^◌, ◌<◌, ◌≤◌, ◌∷◌, map, ◌∙◌, One, ap, Ok}
use Rattle.trial_link.proofs.TrialFrames.{AreToldFrames, channel_leads, channel_short, frames_drawn-long, frames_drawn_are, lines_long}
use Rattle.trial_link.proofs.TrialFrames.{with_last}
use Rattle.trial_link.proofs.TrialLengths.{written_cell_short, written_page_short}
use Rattle.cell_script.proofs.ScriptRanges.{line_writable}
use Rattle.cell_script.proofs.SpelledLines.{IsWritable, IsWritableTraffic, cell_writable, page_writable}
use Rattle.cell_script.specs.declared.statements.Statement.TheVariants as statements

-- ---- what the lines that no number changes state

abbrev trial_paging_line : PagingLine
trial_paging_line = record { number = 1; gain = 60 }

abbrev link_line : List ℕ
link_line = codes "link re=1 im=0 start=0 samples=2457600"

link_stated : statement_in link_line ≡ Some (statements.Link trial_link)
unfolding statement_in link_in script_field past length_before number_up_to digits_from signed_in
link_stated = refl

abbrev sync_line : List ℕ
sync_line = codes "sync gain=30 prev=3 min=1 sid=1 nid=2 lp=13 ltm=0 daylt=0 prat=0 rest=3:00"

sync_stated : statement_in sync_line ≡ Some (statements.Sync trial_sync)
unfolding trial_sync statement_in sync_in sync_after freq_in past_freq numbers_in past_numbers
    script_field past length_before number_up_to digits_from bits_in_text hex_bits decode_pairs binary
sync_stated = refl

link_told : IsWritable (statements.Link trial_link)
link_told = line_writable link_line (statements.Link trial_link) link_stated

sync_told : IsWritable (statements.Sync trial_sync)
sync_told = line_writable sync_line (statements.Sync trial_sync) sync_stated

pilot_told : IsWritable (statements.Pilot (record { gain = 100 }))
pilot_told = record { ranged = (omega arith, tt); lawful = refl; same = refl }

paging_told : IsWritable (statements.Paging trial_paging_line)
paging_told = record { ranged = (omega arith, (omega arith, tt)); lawful = refl; same = refl }

-- ---- the page

page_is_body : (pn : ℕ) → is_body (trial_page pn).body ≡ true
unfolding is_body admits trial_page binary
page_is_body pn = refl

page_fits : (pn : ℕ) → page_stage R9600 0 (trial_page pn) ≡ Some (Pages R9600 (count_after R9600 0 (trial_page pn)))
unfolding page_stage bits_left fill trial_page binary
page_fits pn = refl

-- ---- the cell

drawn_small : (state : ℕ) → drawn state < 2 ^ 32
drawn_small state = omega arith

state_not_none : (high low : ℕ) (none : Bool) → (high * 1024 + low % 1024 == 0) ≡ none →
    high < 2 ^ 32 → IsState (state_of_draws high low)
state_not_none high low true is small =
    let one : state_of_draws high low ≡ 1 = cond-true _ _ _ is in
    (omega (arith, one), omega (arith, one))
state_not_none high low false is small =
    let same : state_of_draws high low ≡ high * 1024 + low % 1024 = cond-false _ _ _ is in
    let other = eqb-false (high * 1024 + low % 1024) 0 is in
    let some : 0 < high * 1024 + low % 1024 = omega (arith, other) in
    (omega (arith, same, some), omega (arith, same, small))

-- the cell is one that a line states
pub trial_cell_stated : (number : ℕ) → IsStatedCell (trial_cell number)
unfolding trial_cell
trial_cell_stated number =
    let high = drawn (past_draws number 2) in
    let low = drawn (past_draws number 3) in
    record {
      pn = omega arith;
      time = omega (arith, drawn_small (past_draws number 1));
      lc = state_not_none high low (high * 1024 + low % 1024 == 0) refl
          (drawn_small (past_draws number 2));
    }

-- and so is the channel that the handset follows
pub followed_stated : (number : ℕ) → IsWritableTraffic (followed_line (trial_serial_number number))
unfolding trial_serial_number
followed_stated number = record {
  ranged = (omega arith, (drawn_small (past_draws number 4), (omega arith, (omega arith, tt))));
  lawful = refl;
  same = refl;
}

-- ---- the drafts after the lines before the traffic channels

abbrev with_cell : CellIdentity → CellPlan
with_cell cell = record empty_plan { cell = cell }

abbrev with_link : CellIdentity → CellPlan
with_link cell = record (with_cell cell) { link = trial_link }

abbrev with_pilot : CellIdentity → CellPlan
with_pilot cell = record (with_link cell) { pilot = record { gain = 100 } }

abbrev with_sync : CellIdentity → CellPlan
with_sync cell = record (with_pilot cell) { sync = Some trial_sync }

abbrev with_paging : CellIdentity → CellPlan
with_paging cell = record (with_sync cell) { paging = opened_paging trial_paging_line ∷ [] }

abbrev with_page : CellIdentity → CellPlan
with_page cell = record (with_sync cell) {
  paging = record {
    number = 1;
    gain = 60;
    pages = trial_page cell.pn ∷ [];
  } ∷ [];
}

cell_next : (cell : CellIdentity) → with_next empty_draft (statements.Cell cell) ≡ Some (draft_at (with_cell cell) Link)
unfolding with_next
cell_next cell = refl

link_next : (plan : CellPlan) → with_next (draft_at plan Link) (statements.Link trial_link)
    ≡ Some (draft_at (record plan { link = trial_link }) Pilot)
unfolding with_next
link_next plan = refl

pilot_next : (plan : CellPlan) →
    with_next (draft_at plan Pilot) (statements.Pilot (record { gain = 100 }))
    ≡ Some (draft_at (record plan { pilot = record { gain = 100 } }) Sync)
unfolding with_next
pilot_next plan = refl

sync_next : (plan : CellPlan) → with_next (draft_at plan Sync) (statements.Sync trial_sync)
    ≡ Some (draft_at (record plan { sync = Some trial_sync }) (Paging R9600))
unfolding with_next trial_sync
sync_next plan = refl

paging_next : (cell : CellIdentity) →
    with_next (draft_at (with_sync cell) (Paging R9600)) (statements.Paging trial_paging_line)
    ≡ Some (draft_at (with_paging cell) (FirstPage R9600))
unfolding with_next
paging_next cell = refl

abbrev stage_after_pages : ℕ → Stage
stage_after_pages pn = Pages R9600 (count_after R9600 0 (trial_page pn))

page_next : (cell : CellIdentity) →
    with_next (draft_at (with_paging cell) (FirstPage R9600)) (statements.Page (trial_page cell.pn))
    ≡ Some (draft_at (with_page cell) (stage_after_pages cell.pn))
unfolding with_next
page_next cell = ap (option_map (draft_at (with_page cell))) (page_fits cell.pn)

-- the lines of the cell, the link, and the channels but those of traffic, before others
abbrev head_statements : CellIdentity → List Statement → List Statement
head_statements cell more =
    statements.Cell cell
    ∷ (statements.Link trial_link ∷ (statements.Pilot (record { gain = 100 })
    ∷ (statements.Sync trial_sync ∷ (statements.Paging trial_paging_line
    ∷ (statements.Page (trial_page cell.pn) ∷ more)))))

-- The first six lines of a trial's script lead to a plan with one page, whatever lines come after
-- them: each of cell, link, pilot, sync, paging and page is told as a script may tell it and comes
-- where it may come.
head_leads : (cell : CellIdentity) (more : List Statement) (last : Draft) → IsStatedCell cell →
    Leads (draft_at (with_page cell) (stage_after_pages cell.pn)) (lines_of more) last →
    Leads empty_draft (lines_of (head_statements cell more)) last
head_leads cell more last is rest =
    let page = statements.Page (trial_page cell.pn) ∷ more in
    let paging = statements.Paging trial_paging_line ∷ page in
    let sync = statements.Sync trial_sync ∷ paging in
    let pilot = statements.Pilot (record { gain = 100 }) ∷ sync in
    first_leads empty_draft (draft_at (with_cell cell) Link) last (statements.Cell cell)
    (statements.Link trial_link ∷ pilot) (cell_writable cell is) (cell_next cell)
    (first_leads (draft_at (with_cell cell) Link) (draft_at (with_link cell) Pilot) last
    (statements.Link trial_link) pilot link_told (link_next (with_cell cell))
    (first_leads (draft_at (with_link cell) Pilot) (draft_at (with_pilot cell) Sync) last
    (statements.Pilot (record { gain = 100 })) sync pilot_told (pilot_next (with_link cell))
    (first_leads (draft_at (with_pilot cell) Sync) (draft_at (with_sync cell) (Paging R9600)) last
    (statements.Sync trial_sync) paging sync_told (sync_next (with_pilot cell))
    (first_leads (draft_at (with_sync cell) (Paging R9600))
    (draft_at (with_paging cell) (FirstPage R9600)) last (statements.Paging trial_paging_line) page
    paging_told (paging_next cell)
    (first_leads (draft_at (with_paging cell) (FirstPage R9600))
    (draft_at (with_page cell) (stage_after_pages cell.pn)) last (statements.Page (trial_page cell.pn))
    more (page_writable (trial_page cell.pn) (page_is_body cell.pn)) (page_next cell) rest)))))

-- ---- and after each of these

other_are : AreToldFrames (other_frame ∷ [])
unfolding other_frame binary
other_are = (refl, refl, refl, tt)

trial_frames_are : (number : ℕ) → AreToldFrames (trial_frames number)
unfolding trial_frames
trial_frames_are number = frames_drawn_are (past_draws number 5) 100

trial_frames-long : (number : ℕ) → length (trial_frames number) ≡ 100
unfolding trial_frames
trial_frames-long number = frames_drawn-long (past_draws number 5) 100

second_stated : IsWritableTraffic second_line
second_stated = record {
  ranged = (omega arith, (omega arith, (omega arith, (omega arith, tt))));
  lawful = refl;
  same = refl;
}

third_stated : IsWritableTraffic third_line
third_stated = record {
  ranged = (omega arith, (omega arith, (omega arith, (omega arith, tt))));
  lawful = refl;
  same = refl;
}

abbrev with_first : ℕ → CellPlan
with_first number =
    with_last (with_page (trial_cell number)) [] (followed_line (trial_serial_number number)) (trial_frames number)

abbrev with_second : ℕ → CellPlan
with_second number = with_last (with_first number) (with_first number).traffic second_line (other_frame ∷ [])

abbrev with_third : ℕ → CellPlan
with_third number = with_last (with_second number) (with_second number).traffic third_line (other_frame ∷ [])

same_plan : (number : ℕ) → with_third number ≡ trial_plan number
unfolding trial_plan
same_plan number = refl

-- the statements of the traffic channels
abbrev third_statements : List Statement
third_statements = statements.Traffic third_line ∷ (map statements.Frame (other_frame ∷ []) ++ [])

abbrev second_statements : List Statement
second_statements = statements.Traffic second_line ∷ (map statements.Frame (other_frame ∷ []) ++ third_statements)

abbrev first_statements : ℕ → List Statement
first_statements number =
    statements.Traffic (followed_line (trial_serial_number number))
    ∷ (map statements.Frame (trial_frames number) ++ second_statements)

-- The lines of the three traffic channels lead from the paging channel's page to the trial's whole
-- plan: each channel's line is followed by its frames, first the followed channel with the drawn
-- ones and then the two others with one frame each.
traffic_leads : (number : ℕ) →
    Leads (draft_at (with_page (trial_cell number)) (stage_after_pages (trial_cell number).pn))
    (lines_of (first_statements number)) (draft_at (with_third number) (Frames One))
traffic_leads number =
    let cell = trial_cell number in
    let last = draft_at (with_third number) (Frames One) in
    channel_leads (with_page cell) (stage_after_pages cell.pn)
    (followed_line (trial_serial_number number)) (trial_frames number) second_statements last refl
    (followed_stated number) (trial_frames_are number) (omega (arith, trial_frames-long number))
    (channel_leads (with_first number) (Frames One) second_line (other_frame ∷ []) third_statements last
    refl second_stated other_are (omega arith)
    (channel_leads (with_second number) (Frames One) third_line (other_frame ∷ []) [] last refl
    third_stated other_are (omega arith) (none_leads last)))

-- all statements of the plan
trial_statements : (number : ℕ) →
    statements_of (trial_plan number) ≡ head_statements (trial_cell number) (first_statements number)
unfolding trial_plan
trial_statements number = refl

trial_text-is : (number : ℕ) →
    trial_text number ≡ lines_of (head_statements (trial_cell number) (first_statements number))
unfolding trial_text script_of
trial_text-is number = ap (λ (ss : List Statement). lines_of ss) (trial_statements number)

-- the lines state the plan
pub trial_stated : (number : ℕ) → stated_plan (trial_text number) ≡ Ok (trial_plan number)
trial_stated number =
    let cell = trial_cell number in
    let last = draft_at (with_third number) (Frames One) in
    ap stated_plan (trial_text-is number)
    ∙ leads_to_plan (lines_of (head_statements cell (first_statements number))) last (with_third number)
    (head_leads cell (first_statements number) last (trial_cell_stated number) (traffic_leads number))
    refl
    ∙ ap (λ (p : CellPlan). Ok p) (same_plan number)

-- ---- its faults and its length

no_fault : (number : ℕ) → plan_fault Sixteen (trial_plan number) ≡ None
unfolding trial_plan trial_sync
no_fault number = refl

link_text_is : written_link trial_link ≡ link_line
unfolding written_link digits
link_text_is = refl

pilot_text_is : written_pilot (record { gain = 100 }) ≡ codes "pilot gain=100"
unfolding written_pilot digits
pilot_text_is = refl

sync_text_is : written_sync trial_sync ≡ sync_line
unfolding written_sync trial_sync bit_text padded packed_octets encode_with digits
sync_text_is = refl

paging_text_is : written_paging trial_paging_line ≡ codes "paging channel=1 gain=60"
unfolding written_paging digits
paging_text_is = refl

-- The lines before those of the traffic channels have at most 2,000 octets: four of the six are
-- fixed and have 150 together, and the cell's has at most 200 and the page's at most 1,200.
head_short : (cell : CellIdentity) (more : List Statement) → IsStatedCell cell →
    length (lines_of (head_statements cell more)) ≤ 2000 + length (lines_of more)
head_short cell more is =
    let page = statements.Page (trial_page cell.pn) ∷ more in
    let paging = statements.Paging trial_paging_line ∷ page in
    let sync = statements.Sync trial_sync ∷ paging in
    let pilot = statements.Pilot (record { gain = 100 }) ∷ sync in
    let link_long : length (written_link trial_link) ≡ 38 = ap length link_text_is in
    let pilot_long : length (written_pilot (record { gain = 100 })) ≡ 14 = ap length pilot_text_is in
    let sync_long : length (written_sync trial_sync) ≡ 74 = ap length sync_text_is in
    let paging_long : length (written_paging trial_paging_line) ≡ 24 = ap length paging_text_is in
    omega (
      arith,
      lines_long (statements.Cell cell) (statements.Link trial_link ∷ pilot),
      lines_long (statements.Link trial_link) pilot,
      lines_long (statements.Pilot (record { gain = 100 })) sync,
      lines_long (statements.Sync trial_sync) paging,
      lines_long (statements.Paging trial_paging_line) page,
      lines_long (statements.Page (trial_page cell.pn)) more,
      written_cell_short cell is,
      written_page_short (trial_page cell.pn) (page_is_body cell.pn),
      link_long,
      pilot_long,
      sync_long,
      paging_long,
    )

trial_short : (number : ℕ) → length (trial_text number) ≤ 1048576
trial_short number =
    let cell = trial_cell number in
    omega (
      arith,
      ap length (trial_text-is number),
      head_short cell (first_statements number) (trial_cell_stated number),
      channel_short (followed_line (trial_serial_number number)) (trial_frames number)
          second_statements (followed_stated number) (trial_frames_are number),
      channel_short second_line (other_frame ∷ []) third_statements second_stated other_are,
      channel_short third_line (other_frame ∷ []) [] third_stated other_are,
      trial_frames-long number,
    )

-- the script of every number names a plan, and this is the plan
pub trial_named : (number : ℕ) → plan_named Sixteen (trial_text number) ≡ Ok (trial_plan number)
unfolding plan_named
trial_named number =
    cond-false _ _ _ (le-ltb 1048576 (length (trial_text number)) (trial_short number))
    ∙ ap (named Sixteen) (trial_stated number)
    ∙ ap (unless (trial_plan number)) (no_fault number)
