-- What the lines of a script state is in the ranges of its fields, so that it can be written, and within its bounds.
use Rattle.cell_script.proofs.Common.{AreUpTo, Bool, CellIdentity, FieldsFit, FrameRate, IfSome, IsLawfulStatement, IsSaid, IsStatedCell, ℕ}
use Rattle.cell_script.proofs.Common.{IsStatedLink, LinkPlan, List, None, Option, Page, Some, Statement, SyncFields, SyncPlan, TrafficFrame}
use Rattle.cell_script.proofs.Common.{abs_fits, admitted, and_parts, ap, arith, begins_with, bits_in_text, cell_in, cell_statement, codes}
use Rattle.cell_script.proofs.Common.{cond, cond_some, eqb-false, eqb-true, false, fixed_fields, frame_rate, frame_statement, freq_in, norm}
use Rattle.cell_script.proofs.Common.{gain_row, get_or, has_lawful_rest, information_bits_of, lawful_message, length, link_in, local_rows}
use Rattle.cell_script.proofs.Common.{link_statement, ltb-true, nat_lt, network_rows, not-true, numbers_in, option_map, page_statement, suc}
use Rattle.cell_script.proofs.Common.{paging_in, paging_statement, pilot_in, pilot_statement, read_as, reader_of, refl, same_Some, subst}
use Rattle.cell_script.proofs.Common.{script_field, stated_page_in, statement_in, sync_after, sync_fields, sync_in, traffic_frame_in, true}
use Rattle.cell_script.proofs.Common.{traffic_in, traffic_statement, unsigned_abs, zero, ◌*◌, ◌+◌, ◌<◌, ◌==◌, ◌^◌, ◌≡◌, ◌≤◌}
use Rattle.cell_script.proofs.LineForms.{line_said}
use Rattle.cell_script.proofs.ScriptBounds.{both_steps, ended, number_field, numbers_up_to}
use Rattle.cell_script.proofs.ScriptMessages.{is_tail}
use Rattle.cell_script.proofs.ScriptPages.{body_fills, body_message}
use Rattle.cell_script.proofs.SpelledLines.{IsWritable, IsWritableSync, cell_law, frame_law, link_law, page_law, paging_law, pilot_law}
use Rattle.cell_script.proofs.SpelledLines.{traffic_law}
use Rattle.cell_script.specs.declared.statements.Statement.TheVariants as statements

-- ---- the message of a sync line

abbrev IsFreq : Option ℕ → Type 0
IsFreq freq = IfSome freq (λ n. n < 2 ^ 11)

-- the frequency may be left out
freq_some : (given : Bool) (number : Option ℕ) (freq : Option ℕ) → ((n : ℕ) → number ≡ Some n → n ≤ 2047) →
    cond given (option_map Some number) (Some None) ≡ Some freq → IsFreq freq
freq_some true None freq most e = absurd (cc e)
freq_some true (Some n) freq most e = subst IsFreq (same_Some (Some n) freq e) (omega (arith, most n refl))
freq_some false number freq most e = subst IsFreq (same_Some None freq e) tt

freq_bounds : (text : List ℕ) (freq : Option ℕ) → freq_in text ≡ Some freq → IsFreq freq
unfolding freq_in
freq_bounds text freq e = freq_some _ _ freq (λ n is. number_field _ 2047 _ n is) e

-- Each field of a sync line fits into its bits, since the line was read with the field's greatest
-- value as its bound; PILOT_PN, SYS_TIME and LC_STATE are 0 until they are filled in.
fields_fit : (network local : List ℕ) (freq : Option ℕ) (rest : List Bool) →
    AreUpTo network_rows network → AreUpTo local_rows local →
    FieldsFit (fixed_fields (sync_fields network local freq rest))
fields_fit network local freq rest up small =
    let prev : get_or network 0 0 ≤ 255 = up 0 (omega arith) in
    let min : get_or network 1 0 ≤ 255 = up 1 (omega arith) in
    let sid : get_or network 2 0 ≤ 32767 = up 2 (omega arith) in
    let nid : get_or network 3 0 ≤ 65535 = up 3 (omega arith) in
    let lp : get_or local 0 0 ≤ 255 = small 0 (omega arith) in
    let ltm : get_or local 1 0 ≤ 63 = small 1 (omega arith) in
    let daylt : get_or local 2 0 ≤ 1 = small 2 (omega arith) in
    let prat : get_or local 3 0 ≤ 3 = small 3 (omega arith) in (
      omega arith,
      (
        omega (arith, prev),
        (
          omega (arith, min),
          (
            omega (arith, sid),
            (
              omega (arith, nid),
              (
                omega arith,
                (
                  omega arith,
                  (
                    omega arith,
                    (omega (arith, lp), (omega (arith, ltm), (omega (arith, daylt), (omega (arith, prat), tt)))),
                  ),
                ),
              ),
            ),
          ),
        ),
      ),
    )

-- the rest has a length that the message admits, and zeros stand for what each transmission fills in
message_writable : (gain : ℕ) (network local : List ℕ) (freq : Option ℕ) (rest : List Bool)
    (message : SyncFields) → gain ≤ 65535 → AreUpTo network_rows network → AreUpTo local_rows local → IsFreq freq →
    lawful_message (sync_fields network local freq rest) ≡ Some message →
    IsWritableSync (record { gain = gain; message = message })
message_writable gain network local freq rest message small up few is e =
    let stated = sync_fields network local freq rest in
    let told = cond_some (has_lawful_rest freq rest) stated message e in
    subst (λ (m : SyncFields). IsWritableSync (record { gain = gain; message = m })) told.1
    (record {
      gain = small;
      message = admitted stated (fields_fit network local freq rest up few)
          (is_tail freq rest is told.0);
      pn = refl;
      lc = refl;
      time = refl;
    })

after_writable : (gain : ℕ) (network local text : List ℕ) (sync : SyncPlan) → gain ≤ 65535 →
    AreUpTo network_rows network → AreUpTo local_rows local →
    sync_after gain network local text ≡ Some sync → IsWritableSync sync
unfolding sync_after
after_writable gain network local text sync small up few =
    both_steps (freq_in _) _
    (λ freq freq_is.
    both_steps (script_field (codes " rest=") bits_in_text _) _ λ rest rest_is.
    both_steps (lawful_message (sync_fields network local freq rest)) _ λ message message_is sync e.
    subst IsWritableSync (ended _ (record { gain = gain; message = message }) sync e)
    (message_writable gain network local freq rest message small up few (freq_bounds _ freq freq_is) message_is))
    sync

sync_writable : (text : List ℕ) (sync : SyncPlan) → sync_in text ≡ Some sync → IsWritableSync sync
unfolding sync_in
sync_writable text =
    both_steps (script_field gain_row.key (reader_of gain_row.form) _) _ λ gain gain_is.
    both_steps (numbers_in network_rows _) _ λ network network_is.
    both_steps (numbers_in local_rows _) _ λ local local_is sync e.
    after_writable gain network local _ sync (number_field _ 65535 _ gain gain_is)
    (numbers_up_to network_rows _ network network_is) (numbers_up_to local_rows _ local local_is) e

-- ---- pages and frames

-- what is read by one of several keys is told by it
page_read : (follows : Bool) (text : List ℕ) (page : Page) →
    read_as (page_statement follows) text ≡ Some page → IsSaid (page_statement page.follows) page
page_read follows text page e =
    let said = line_said (page_statement follows) (page_law follows) text page e in
    subst (λ (b : Bool). IsSaid (page_statement b) page) (ap (λ (p : Page). p.follows) said.same) said

frame_read : (text : List ℕ) (frame : TrafficFrame) → traffic_frame_in text ≡ Some frame →
    IsSaid (frame_statement frame.rate) frame
unfolding traffic_frame_in
frame_read text =
    both_steps (frame_rate text) _ λ rate rate_is frame e.
    let said = line_said (frame_statement rate) (frame_law rate) text frame e in
    subst (λ (r : FrameRate). IsSaid (frame_statement r) frame) (ap (λ (f : TrafficFrame). f.rate) said.same) said

-- ---- any line

step_writable : {A : Type 0} (f : A → Statement) (read : Option A) (test : Bool)
    (other : Option Statement) (statement : Statement) → ((x : A) → read ≡ Some x → IsWritable (f x)) →
    (other ≡ Some statement → IsWritable statement) →
    cond test (option_map f read) other ≡ Some statement → IsWritable statement
step_writable f (Some x) true other statement here rest e = subst IsWritable (same_Some (f x) statement e) (here x refl)
step_writable f None true other statement here rest e = absurd (cc e)
step_writable f read false other statement here rest e = rest e

no_line_writable : (statement : Statement) → None ≡ Some statement → IsWritable statement
no_line_writable statement e = absurd (cc e)

-- What a line states can be written: of the eight kinds of line that are tried in turn, the first
-- whose name the line begins with reads it, and what each kind reads can be written.
pub line_writable : (text : List ℕ) (statement : Statement) → statement_in text ≡ Some statement → IsWritable statement
unfolding statement_in cell_in link_in pilot_in paging_in stated_page_in traffic_in
line_writable text statement =
    step_writable statements.Cell (cell_in text) _ _ statement (line_said cell_statement cell_law text)
    (step_writable statements.Link (link_in text) _ _ statement (line_said link_statement link_law text)
    (step_writable statements.Pilot (pilot_in text) _ _ statement (line_said pilot_statement pilot_law text)
    (step_writable statements.Sync (sync_in text) _ _ statement (sync_writable text)
    (step_writable statements.Paging (paging_in text) _ _ statement (line_said paging_statement paging_law text)
    (step_writable statements.Page (stated_page_in text) _ _ statement
    (page_read (begins_with text (codes "page next ")) text)
    (step_writable statements.Traffic (traffic_in text) _ _ statement (line_said traffic_statement traffic_law text)
    (step_writable statements.Frame (traffic_frame_in text) _ None statement (frame_read text)
    (no_line_writable statement))))))))

-- ---- bounds

-- a link of which a part isn't 0 has a norm above 0
square_some : (n : ℕ) → 0 < n → 0 < n * n
square_some zero some = absurd (omega (arith, some))
square_some (suc n) some = omega arith

norm_some : (a b : ℕ) → 0 < a + b → 0 < a * a + b * b
norm_some zero b some = omega (arith, square_some b (omega (arith, some)))
norm_some (suc a) b some = omega (arith, square_some (suc a) (omega arith))

-- A link that a line can state is within its bounds, since each of its fields is in the range of
-- its form, and its norm is above 0, since the form's law asks that a part of its factor isn't 0.
link_lawful : (link : LinkPlan) → IsSaid link_statement link → IsStatedLink link × (0 < norm link.factor)
link_lawful link said =
    let re = link.factor.i in
    let im = link.factor.q in
    let start : link.start ≤ 4294967295 = said.ranged.1.1.0 in
    let some = and_parts (nat_lt 0 (unsigned_abs re + unsigned_abs im)) (nat_lt 0 link.samples)
    said.lawful in (
      record {
        in_phase = abs_fits re said.ranged.0;
        quadrature = abs_fits im said.ranged.1.0;
        start = omega (arith, start);
      },
      norm_some (unsigned_abs re) (unsigned_abs im)
          (ltb-true 0 (unsigned_abs re + unsigned_abs im) some.0),
    )

cell_lawful : (cell : CellIdentity) → IsSaid cell_statement cell → IsStatedCell cell
cell_lawful cell said =
    let pn : cell.pn ≤ 511 = said.ranged.0 in
    record { pn = omega (arith, pn); time = said.ranged.1.0; lc = said.ranged.1.1.0 }

-- what can be written is within its bounds
writable_lawful : (statement : Statement) → IsWritable statement → IsLawfulStatement statement
writable_lawful (statements.Cell cell) is = cell_lawful cell is
writable_lawful (statements.Link link) is = link_lawful link is
writable_lawful (statements.Pilot pilot) is = tt
writable_lawful (statements.Sync sync) is = is.message
writable_lawful (statements.Paging line) is =
    let other = eqb-false line.number 0 (not-true (line.number == 0) is.lawful) in
    (omega (arith, other), is.ranged.0)
writable_lawful (statements.Page page) is = (body_fills page.body is.lawful, body_message page.body is.lawful)
writable_lawful (statements.Traffic line) is = (is.ranged.0, is.ranged.1.1.0)
writable_lawful (statements.Frame frame) is =
    eqb-true (length frame.information) (information_bits_of frame.rate) is.lawful

-- so is what a line states
pub line_bounds : (text : List ℕ) (statement : Statement) → statement_in text ≡ Some statement →
    IsLawfulStatement statement
line_bounds text statement e = writable_lawful statement (line_writable text statement e)
