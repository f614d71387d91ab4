-- Lines read back: what each kind of statement is, from the text that it is written with.
use Rattle.cell_script.proofs.Common.{Bool, CellIdentity, CheckForm, Complemented, FieldsFit, FrameRate, IsSaid, IsStatedCell, IsTail, List}
use Rattle.cell_script.proofs.Common.{IsSyncMessage, IsTrafficFrame, LineForm, None, NumberRow, Option, Page, Plain, R9600, SetOne, SetTwo}
use Rattle.cell_script.proofs.Common.{Some, Statement, SyncFields, SyncPlan, TrafficFrame, TrafficLine, Values, [], admits, and_parts, ap}
use Rattle.cell_script.proofs.Common.{append_assoc, arith, bit_text, bits_in_text, cell_in, cell_line, cell_statement, check_form, codes, ℕ}
use Rattle.cell_script.proofs.Common.{decimal, eq-eqb, false, fields_text, fixed_fields, fixed_fit, form_bit, frame_statement, freq_in, suc}
use Rattle.cell_script.proofs.Common.{gain_row, information_bits_of, is_body, key_of, lawful_message, leb-true, length, length_before, past}
use Rattle.cell_script.proofs.Common.{link_in, link_statement, local_rows, local_values, nat_le, network_rows, network_values, number, refl}
use Rattle.cell_script.proofs.Common.{number_up_to, numbers_in, numbers_text, option_map, page_statement, paging_in, paging_statement, sym}
use Rattle.cell_script.proofs.Common.{past_freq, past_numbers, pilot_in, pilot_statement, ranged, read_as, script_field, stated_page_in}
use Rattle.cell_script.proofs.Common.{statement_in, statement_text, subst, sync_after, sync_fields, sync_in, tail_of, take, traffic_in, ◌%◌}
use Rattle.cell_script.proofs.Common.{traffic_frame_in, traffic_statement, true, written_as, written_cell, written_frame, written_freq, ◌*◌}
use Rattle.cell_script.proofs.Common.{written_link, written_page, written_paging, written_pilot, written_sync, written_traffic, zero, ◌&&◌}
use Rattle.cell_script.proofs.Common.{◌++◌, ◌+◌, ◌-◌, ◌/◌, ◌<◌, ◌==◌, ◌^◌, ◌∙◌, ◌∷◌, ◌≡◌, ◌≤◌}
use Rattle.cell_script.proofs.LineForms.{IsLineForm, are_sound, bits_word, keyed_within, number_word, said_back, said_within}
use Rattle.cell_script.proofs.ScriptMessages.{is_message}
use Rattle.cell_script.proofs.SpelledBytes.{are_within, within-append, within-wider}
use Rattle.cell_script.proofs.SpelledFields.{IsField, field_back, key_spaced, last_back}
use Rattle.cell_script.proofs.SpelledValues.{bits_back, number_back}
use Rattle.symbol_path.specs.declared.rate_two.Rate2.TheVariants.{R14400}
use Rattle.cell_script.specs.declared.statements.Statement.TheVariants as statements

-- a text that a line states a statement with: it has no LF, and is read as the statement
abbrev pub ReadsBack : List ℕ → Statement → Type 0
ReadsBack text statement = (statement_in text ≡ Some statement) × (are_within 32 126 text ≡ true)

-- a line of a form whose first word tells the kind of statement
spelled_as : {X : Type 0} (told : X → Statement) (form : LineForm X) (line : X) → IsLineForm form → IsSaid form line →
    statement_in (written_as form line) ≡ option_map told (read_as form (written_as form line)) →
    ReadsBack (written_as form line) (told line)
spelled_as told form line law said kind =
    (kind ∙ ap (option_map told) (said_back form line law said), said_within form line law said)

-- ---- the cell

abbrev bits_of_forms : CheckForm → CheckForm → ℕ
bits_of_forms first second = form_bit first + 2 * form_bit second

first_form : (first second : CheckForm) → check_form (bits_of_forms first second % 2) ≡ first
first_form Plain Plain = refl
first_form Plain Complemented = refl
first_form Complemented Plain = refl
first_form Complemented Complemented = refl

second_form : (first second : CheckForm) → check_form (bits_of_forms first second / 2) ≡ second
second_form Plain Plain = refl
second_form Plain Complemented = refl
second_form Complemented Plain = refl
second_form Complemented Complemented = refl

forms_small : (first second : CheckForm) → bits_of_forms first second ≤ 3
forms_small Plain Plain = omega arith
forms_small Plain Complemented = omega arith
forms_small Complemented Plain = omega arith
forms_small Complemented Complemented = omega arith

abbrev cell_with : CellIdentity → CheckForm → CheckForm → CellIdentity
cell_with cell first second = record { pn = cell.pn; time = cell.time; lc = cell.lc; check30 = first; check16 = second }

same_cell : (cell : CellIdentity) → cell_line cell.pn cell.time cell.lc (bits_of_forms cell.check30 cell.check16) ≡ cell
same_cell cell =
    let checks = bits_of_forms cell.check30 cell.check16 in
    ap (λ (f : CheckForm). cell_with cell f (check_form (checks / 2))) (first_form cell.check30 cell.check16)
    ∙ ap (λ (f : CheckForm). cell_with cell cell.check30 f) (second_form cell.check30 cell.check16)

checks_kept : (checks : ℕ) → checks ≤ 3 → bits_of_forms (check_form (checks % 2)) (check_form (checks / 2)) ≡ checks
checks_kept zero small = refl
checks_kept (suc zero) small = refl
checks_kept (suc (suc zero)) small = refl
checks_kept (suc (suc (suc zero))) small = refl
checks_kept (suc (suc (suc (suc checks)))) small = absurd (omega (arith, small))

abbrev cell_values : ℕ → ℕ → ℕ → ℕ → Values cell_statement.rows
cell_values pn time lc checks = (pn, (time, (lc, (checks, tt))))

pub cell_law : IsLineForm cell_statement
cell_law = record {
  sound = refl;
  kept = λ v are. ap (cell_values v.0 v.1.0 v.1.1.0) (checks_kept v.1.1.1.0 are.1.1.1.0);
}

pub cell_writable : (cell : CellIdentity) → IsStatedCell cell → IsSaid cell_statement cell
cell_writable cell is = record {
  ranged = (omega (arith, is.pn), (is.time, (is.lc, (forms_small cell.check30 cell.check16, tt))));
  lawful = refl;
  same = same_cell cell;
}

-- ---- the link, the pilot, and the lines of channels

pub link_law : IsLineForm link_statement
link_law = record { sound = refl; kept = λ v are. refl }

pub pilot_law : IsLineForm pilot_statement
pilot_law = record { sound = refl; kept = λ v are. refl }

pub paging_law : IsLineForm paging_statement
paging_law = record { sound = refl; kept = λ v are. refl }

pub traffic_law : IsLineForm traffic_statement
traffic_law = record { sound = refl; kept = λ v are. refl }

abbrev pub IsWritableTraffic : TrafficLine → Type 0
IsWritableTraffic = IsSaid traffic_statement

-- ---- the sync channel

-- a number in the range of a field of a message, whose key begins with a space
record IsNumberOf (f : NumberRow) (n : ℕ) : Type 0 where
  up_to : n ≤ f.most
  small : f.most < 2 ^ 64
  spaced : (rest : List ℕ) → length_before 32 (f.key ++ rest) ≡ 0
  key : are_within 32 126 f.key ≡ true

abbrev AreNumbersOf : List NumberRow → List ℕ → Type 0
AreNumbersOf [] numbers = numbers ≡ []
AreNumbersOf (f ∷ fields) [] = 1 ≤ 0
AreNumbersOf (f ∷ fields) (n ∷ numbers) = IsNumberOf f n × AreNumbersOf fields numbers

number_of_row : (name : List ℕ) (width n : ℕ) → n ≤ 2 ^ width - 1 → 2 ^ width - 1 < 2 ^ 64 →
    are_within 32 126 name ≡ true → IsNumberOf (ranged name width) n
number_of_row name width n few small names = record {
  up_to = few;
  small = small;
  spaced = λ rest. key_spaced (key_of name) (name ++ codes "=") rest refl;
  key = within-append 32 126 (codes " " ++ name) (codes "=")
      (within-append 32 126 (codes " ") name refl names) refl;
}

-- numbers that are read back, and a text after them that begins with a space
record AreBack (fields : List NumberRow) (numbers text rest : List ℕ) : Type 0 where
  numbers_read : numbers_in fields text ≡ Some numbers
  passed : past_numbers fields text ≡ rest
  spaced : length_before 32 text ≡ 0

first_number : (f : NumberRow) (fields : List NumberRow) (n : ℕ) (numbers text more : List ℕ) →
    IsField f.key (number_up_to f.most) n text more → numbers_in fields more ≡ Some numbers →
    numbers_in (f ∷ fields) text ≡ Some (n ∷ numbers)
unfolding numbers_in
first_number f fields n numbers text more here rest = rw (here.1, here.0, rest) refl

past_first : (f : NumberRow) (fields : List NumberRow) (text more : List ℕ) →
    past f.key text ≡ more → past_numbers (f ∷ fields) text ≡ past_numbers fields more
unfolding past_numbers
past_first f fields text more is = ap (past_numbers fields) is

no_numbers : (numbers rest : List ℕ) → numbers ≡ [] → length_before 32 rest ≡ 0 → AreBack [] numbers rest rest
unfolding numbers_in past_numbers
no_numbers numbers rest none ends = record { numbers_read = ap Some (sym none); passed = refl; spaced = ends }

-- Numbers that are written with their keys are read back, by induction over the fields: a field's
-- value ends where the next key's space begins, or what comes after all of them, so each is read
-- and passed by itself.
numbers_back : (fields : List NumberRow) (numbers rest : List ℕ) → AreNumbersOf fields numbers →
    length_before 32 rest ≡ 0 → AreBack fields numbers (numbers_text fields numbers ++ rest) rest
numbers_back [] numbers rest are ends = no_numbers numbers rest are ends
numbers_back (f ∷ fields) [] rest are ends = absurd (omega (arith, are))
numbers_back (f ∷ fields) (n ∷ numbers) rest are ends =
    let is = are.0 in
    let more = numbers_text fields numbers ++ rest in
    let told = numbers_back fields numbers rest are.1 ends in
    let text : f.key ++ (decimal n ++ more) ≡ numbers_text (f ∷ fields) (n ∷ numbers) ++ rest =
    sym (append_assoc f.key (decimal n ++ numbers_text fields numbers) rest
    ∙ ap (λ (t : List ℕ). f.key ++ t) (append_assoc (decimal n) (numbers_text fields numbers) rest)) in
    let here = field_back f.key (decimal n) more (number_up_to f.most) n
    (number_word n (omega (arith, is.up_to, is.small))) told.spaced (number_back f.most n is.small is.up_to) in
    subst (λ (t : List ℕ). AreBack (f ∷ fields) (n ∷ numbers) t rest) text
    (record {
      numbers_read = first_number f fields n numbers (f.key ++ (decimal n ++ more)) more here
          told.numbers_read;
      passed = past_first f fields (f.key ++ (decimal n ++ more)) more here.1 ∙ told.passed;
      spaced = is.spaced (decimal n ++ more);
    })

-- A line with numbers in it has no LF where the rest of it has none, by induction over the fields:
-- keys and digits are printable bytes.
numbers_within : (fields : List NumberRow) (numbers rest : List ℕ) →
    AreNumbersOf fields numbers → are_within 32 126 rest ≡ true →
    are_within 32 126 (numbers_text fields numbers ++ rest) ≡ true
numbers_within [] numbers rest are rests = rests
numbers_within (f ∷ fields) [] rest are rests = absurd (omega (arith, are))
numbers_within (f ∷ fields) (n ∷ numbers) rest are rests =
    let is = are.0 in
    subst (λ (t : List ℕ). are_within 32 126 t ≡ true)
    (sym (append_assoc f.key (decimal n ++ numbers_text fields numbers) rest
    ∙ ap (λ (t : List ℕ). f.key ++ t) (append_assoc (decimal n) (numbers_text fields numbers) rest)))
    (keyed_within f.key (decimal n) (numbers_text fields numbers ++ rest) is.key
    (number_word n (omega (arith, is.up_to, is.small))) (numbers_within fields numbers rest are.1 rests))

-- the frequency, which may be left out
record IsFreqBack (freq : Option ℕ) (text rest : List ℕ) : Type 0 where
  freq_read : freq_in text ≡ Some freq
  passed : past_freq text ≡ rest
  spaced : length_before 32 text ≡ 0

abbrev rest_part : List Bool → List ℕ
rest_part rest = codes " rest=" ++ bit_text rest

no_freq : (rest : List Bool) → IsFreqBack None (rest_part rest) (rest_part rest)
unfolding freq_in past_freq
no_freq rest = record {
  freq_read = refl;
  passed = refl;
  spaced = key_spaced (codes " rest=") (codes "rest=") (bit_text rest) refl;
}

some_freq : (freq : ℕ) (text rest : List ℕ) → (tail : List ℕ) × (text ≡ codes " freq=" ++ tail) →
    IsField (codes " freq=") (number_up_to 2047) freq text rest →
    (freq_in text ≡ Some (Some freq)) × (past_freq text ≡ rest)
unfolding freq_in past_freq
some_freq freq text rest begins told = (
  subst (λ (t : List ℕ). script_field (codes " freq=") (number_up_to 2047) t ≡ Some freq →
      freq_in t ≡ Some (Some freq)) (sym begins.1)
      (λ is. ap (option_map Some) is) told.0,
  subst (λ (t : List ℕ). past (codes " freq=") t ≡ rest → past_freq t ≡ rest) (sym begins.1)
      (λ is. is) told.1,
)

-- CDMA_FREQ is read back where it is written, and where it isn't nothing is read: a line without it
-- goes on with the key of the rest at once, and its value is at most 2,047 and ends at that key's
-- space.
freq_back : (freq : Option ℕ) (rest : List Bool) → IsTail freq rest →
    IsFreqBack freq (written_freq freq ++ rest_part rest) (rest_part rest)
freq_back None rest is = no_freq rest
freq_back (Some freq) rest is =
    let following = rest_part rest in
    let small : freq ≤ 2047 = omega (arith, is.0) in
    let text : codes " freq=" ++ (decimal freq ++ following) ≡ (codes " freq=" ++ decimal freq) ++ following =
    sym (append_assoc (codes " freq=") (decimal freq) following) in
    let told = some_freq freq (codes " freq=" ++ (decimal freq ++ following)) following
    (decimal freq ++ following, refl)
    (field_back (codes " freq=") (decimal freq) following (number_up_to 2047) freq
    (number_word freq (omega (arith, small))) (key_spaced (codes " rest=") (codes "rest=") (bit_text rest) refl)
    (number_back 2047 freq (omega arith) small)) in
    subst (λ (t : List ℕ). IsFreqBack (Some freq) t following) text
    (record {
      freq_read = told.0;
      passed = told.1;
      spaced = key_spaced (codes " freq=") (codes "freq=") (decimal freq ++ following) refl;
    })

freq_within : (freq : Option ℕ) (rest : List Bool) → IsTail freq rest → are_within 32 126 (rest_part rest) ≡ true →
    are_within 32 126 (written_freq freq ++ rest_part rest) ≡ true
freq_within None rest is rests = rests
freq_within (Some freq) rest is rests =
    subst (λ (t : List ℕ). are_within 32 126 t ≡ true)
    (sym (append_assoc (codes " freq=") (decimal freq) (rest_part rest)))
    (keyed_within (codes " freq=") (decimal freq) (rest_part rest) refl (number_word freq (omega (arith, is.0))) rests)

-- the gain is in its range, and the message has zeros for what each transmission fills in
pub record IsWritableSync (sync : SyncPlan) : Type 0 where
  pub gain : sync.gain ≤ 65535
  pub message : IsSyncMessage sync.message
  pub pn : sync.message.pn ≡ 0
  pub lc : sync.message.lc ≡ 0
  pub time : sync.message.time ≡ 0

rest_short : (freq : Option ℕ) (rest : List Bool) → IsTail freq rest → length rest ≤ 976
rest_short None rest is = omega (arith, is)
rest_short (Some freq) rest is = is.2

-- P_REV, MIN_P_REV, SID and NID are numbers that their fields of a sync line hold: each fits into
-- the bits that a sync message has for it, and the field's bound is the greatest number of these
-- bits.
network_numbers : (m : SyncFields) → FieldsFit (fixed_fields m) → AreNumbersOf network_rows (network_values m)
network_numbers m fit =
    let prev : m.prev < 256 = fit.1.0 in
    let min : m.min < 256 = fit.1.1.0 in
    let sid : m.sid < 32768 = fit.1.1.1.0 in
    let nid : m.nid < 65536 = fit.1.1.1.1.0 in (
      number_of_row (codes "prev") 8 m.prev (omega (arith, prev)) (omega arith) refl,
      (
        number_of_row (codes "min") 8 m.min (omega (arith, min)) (omega arith) refl,
        (
          number_of_row (codes "sid") 15 m.sid (omega (arith, sid)) (omega arith) refl,
          (number_of_row (codes "nid") 16 m.nid (omega (arith, nid)) (omega arith) refl, refl),
        ),
      ),
    )

-- LP_SEC, LTM_OFF, DAYLT and PRAT are numbers that their fields of a sync line hold: each fits into
-- the bits that a sync message has for it, and the field's bound is the greatest number of these
-- bits.
local_numbers : (m : SyncFields) → FieldsFit (fixed_fields m) → AreNumbersOf local_rows (local_values m)
local_numbers m fit =
    let following = fit.1.1.1.1.1.1.1.1 in
    let lp : m.lp < 256 = following.0 in
    let ltm : m.ltm < 64 = following.1.0 in
    let daylt : m.daylt < 2 = following.1.1.0 in
    let prat : m.prat < 4 = following.1.1.1.0 in (
      number_of_row (codes "lp") 8 m.lp (omega (arith, lp)) (omega arith) refl,
      (
        number_of_row (codes "ltm") 6 m.ltm (omega (arith, ltm)) (omega arith) refl,
        (
          number_of_row (codes "daylt") 1 m.daylt (omega (arith, daylt)) (omega arith) refl,
          (number_of_row (codes "prat") 2 m.prat (omega (arith, prat)) (omega arith) refl, refl),
        ),
      ),
    )

abbrev message_with : SyncFields → ℕ → ℕ → ℕ → SyncFields
message_with m pn lc time = record {
  prev = m.prev;
  min = m.min;
  sid = m.sid;
  nid = m.nid;
  pn = pn;
  lc = lc;
  time = time;
  lp = m.lp;
  ltm = m.ltm;
  daylt = m.daylt;
  prat = m.prat;
  freq = m.freq;
  rest = m.rest;
}

same_message : (m : SyncFields) → m.pn ≡ 0 → m.lc ≡ 0 → m.time ≡ 0 →
    sync_fields (network_values m) (local_values m) m.freq m.rest ≡ m
same_message m pn lc time =
    ap (λ (n : ℕ). message_with m n 0 0) (sym pn)
    ∙ ap (λ (n : ℕ). message_with m m.pn n 0) (sym lc)
    ∙ ap (λ (n : ℕ). message_with m m.pn m.lc n) (sym time)

message_back : (m : SyncFields) → IsSyncMessage m → m.pn ≡ 0 → m.lc ≡ 0 → m.time ≡ 0 →
    lawful_message (sync_fields (network_values m) (local_values m) m.freq m.rest) ≡ Some m
message_back m is pn lc time = ap lawful_message (same_message m pn lc time) ∙ is_message m is

after_back : (gain : ℕ) (network local text following : List ℕ) (freq : Option ℕ) (rest : List Bool)
    (message : SyncFields) → (freq_in text ≡ Some freq) × (past_freq text ≡ following) →
    IsField (codes " rest=") bits_in_text rest following [] →
    lawful_message (sync_fields network local freq rest) ≡ Some message →
    sync_after gain network local text ≡ Some (record { gain = gain; message = message })
unfolding sync_after
after_back gain network local text following freq rest message first second third =
    rw (first.1, second.1, first.0, second.0, third) refl

sync_read : (gain : ℕ) (network local text0 text1 text2 text3 : List ℕ) (sync : SyncPlan) →
    IsField gain_row.key (number_up_to 65535) gain text0 text1 →
    (numbers_in network_rows text1 ≡ Some network) × (past_numbers network_rows text1 ≡ text2) →
    (numbers_in local_rows text2 ≡ Some local) × (past_numbers local_rows text2 ≡ text3) →
    sync_after gain network local text3 ≡ Some sync → sync_in text0 ≡ Some sync
unfolding sync_in
sync_read gain network local text0 text1 text2 text3 sync first second third is =
    rw (first.1, second.1, third.1, first.0, second.0, third.0, is) refl

abbrev tail_part : SyncFields → List ℕ
tail_part m = written_freq m.freq ++ rest_part m.rest

abbrev local_part : SyncFields → List ℕ
local_part m = numbers_text local_rows (local_values m) ++ tail_part m

abbrev network_part : SyncFields → List ℕ
network_part m = numbers_text network_rows (network_values m) ++ local_part m

abbrev sync_part : SyncPlan → List ℕ
sync_part sync = gain_row.key ++ (decimal sync.gain ++ network_part sync.message)

-- The line of a sync channel is read back field by field: a number of the message's table ends at
-- the space before the next key, the frequency is told from the rest by its key, and PILOT_PN,
-- SYS_TIME and LC_STATE, which no line states, are 0.
sync_back : (sync : SyncPlan) → IsWritableSync sync → sync_in (sync_part sync) ≡ Some sync
sync_back sync is =
    let m = sync.message in
    let fit = fixed_fit m is.message in
    let tail = tail_of m is.message in
    let few = rest_short m.freq m.rest tail in
    let freq = freq_back m.freq m.rest tail in
    let local = numbers_back local_rows (local_values m) (tail_part m) (local_numbers m fit)
    freq.spaced in
    let network = numbers_back network_rows (network_values m) (local_part m) (network_numbers m fit) local.spaced in
    sync_read sync.gain (network_values m) (local_values m) (sync_part sync) (network_part m)
    (local_part m) (tail_part m) sync
    (field_back gain_row.key (decimal sync.gain) (network_part m) (number_up_to 65535) sync.gain
    (number_word sync.gain (omega (arith, is.gain))) network.spaced (number_back 65535 sync.gain (omega arith) is.gain))
    (network.numbers_read, network.passed) (local.numbers_read, local.passed)
    (after_back sync.gain (network_values m) (local_values m) (tail_part m) (rest_part m.rest)
    m.freq m.rest m (freq.freq_read, freq.passed)
    (last_back (codes " rest=") (bit_text m.rest) bits_in_text m.rest
    (bits_word m.rest (omega (arith, few))) (bits_back m.rest (omega (arith, few))))
    (message_back m is.message is.pn is.lc is.time))

-- A sync channel's line is read back as that channel, and has no LF: the message's numbers fit
-- their fields, so they are written with printable bytes, and so are CDMA_FREQ and the bits of the
-- rest.
sync_spelled : (sync : SyncPlan) → IsWritableSync sync → ReadsBack (written_sync sync) (statements.Sync sync)
unfolding statement_in written_sync
sync_spelled sync is =
    let m = sync.message in
    let fit = fixed_fit m is.message in
    let tail = tail_of m is.message in
    let few = rest_short m.freq m.rest tail in
    let rests : are_within 32 126 (rest_part m.rest) ≡ true =
    within-append 32 126 (codes " rest=") (bit_text m.rest) refl
    (within-wider 33 126 32 126 (bit_text m.rest) (omega arith) (omega arith)
    (bits_word m.rest (omega (arith, few)))) in (
      ap (option_map statements.Sync) (sync_back sync is),
      keyed_within gain_row.key (decimal sync.gain) (network_part m) refl
          (number_word sync.gain (omega (arith, is.gain)))
          (numbers_within network_rows (network_values m) (local_part m) (network_numbers m fit)
          (numbers_within local_rows (local_values m) (tail_part m) (local_numbers m fit)
          (freq_within m.freq m.rest tail rests))),
    )

-- ---- pages

pub page_law : (follows : Bool) → IsLineForm (page_statement follows)
page_law true = record { sound = refl; kept = λ v are. refl }
page_law false = record { sound = refl; kept = λ v are. refl }

pub body_short : (body : List Bool) → is_body body ≡ true → length body ≤ 1146
unfolding is_body
body_short body is =
    let all = and_parts (length body % 8 == 2)
    (nat_le (length body) 1146 && admits (number (take 8 body)) (length body)) is in
    leb-true (length body) 1146
    (and_parts (nat_le (length body) 1146) (admits (number (take 8 body)) (length body)) all.1).0

pub page_writable : (page : Page) → is_body page.body ≡ true → IsSaid (page_statement page.follows) page
page_writable page is = record { ranged = (omega (arith, body_short page.body is), tt); lawful = is; same = refl }

-- the key tells whether the page's capsule follows the one before at once
page_told : (follows : Bool) (v : Values (page_statement follows).rows) →
    let text = fields_text (page_statement follows).rows v in
    statement_in text ≡ option_map statements.Page (read_as (page_statement follows) text)
unfolding statement_in stated_page_in
page_told true v = refl
page_told false v = refl

-- ---- frames

frame_sound : (rate : FrameRate) → are_sound (frame_statement rate).rows ≡ true
frame_sound (SetOne R9600) = refl
frame_sound (SetOne rate) = refl
frame_sound (SetTwo R14400) = refl
frame_sound (SetTwo rate) = refl

pub frame_law : (rate : FrameRate) → IsLineForm (frame_statement rate)
frame_law rate = record { sound = frame_sound rate; kept = λ v are. refl }

pub information_few : (rate : FrameRate) → information_bits_of rate ≤ 268
information_few (SetOne R9600) = omega arith
information_few (SetOne rate) = omega arith
information_few (SetTwo R14400) = omega arith
information_few (SetTwo rate) = omega arith

pub frame_writable : (f : TrafficFrame) → IsTrafficFrame f → length f.power_bits ≡ 16 →
    IsSaid (frame_statement f.rate) f
frame_writable f long sixteen = record {
  ranged = (omega (arith, long, information_few f.rate), (sixteen, tt));
  lawful = eq-eqb (length f.information) (information_bits_of f.rate) long;
  same = refl;
}

-- the key tells the rate
frame_told : (rate : FrameRate) (v : Values (frame_statement rate).rows) →
    let text = fields_text (frame_statement rate).rows v in
    statement_in text ≡ option_map statements.Frame (read_as (frame_statement rate) text)
unfolding statement_in traffic_frame_in
frame_told (SetOne R9600) v = refl
frame_told (SetOne rate) v = refl
frame_told (SetTwo R14400) v = refl
frame_told (SetTwo rate) v = refl

-- ---- any statement

-- a statement whose values are in the ranges of their fields
abbrev pub IsWritable : Statement → Type 0
IsWritable (statements.Cell cell) = IsSaid cell_statement cell
IsWritable (statements.Link link) = IsSaid link_statement link
IsWritable (statements.Pilot pilot) = IsSaid pilot_statement pilot
IsWritable (statements.Sync sync) = IsWritableSync sync
IsWritable (statements.Paging line) = IsSaid paging_statement line
IsWritable (statements.Page page) = IsSaid (page_statement page.follows) page
IsWritable (statements.Traffic line) = IsSaid traffic_statement line
IsWritable (statements.Frame frame) = IsSaid (frame_statement frame.rate) frame

-- is read back from its text
pub statement_spelled : (statement : Statement) → IsWritable statement → ReadsBack (statement_text statement) statement
unfolding statement_in cell_in link_in pilot_in paging_in traffic_in written_cell written_link
    written_pilot written_paging written_page written_traffic written_frame
statement_spelled (statements.Cell cell) is = spelled_as statements.Cell cell_statement cell cell_law is refl
statement_spelled (statements.Link link) is = spelled_as statements.Link link_statement link link_law is refl
statement_spelled (statements.Pilot pilot) is = spelled_as statements.Pilot pilot_statement pilot pilot_law is refl
statement_spelled (statements.Sync sync) is = sync_spelled sync is
statement_spelled (statements.Paging line) is = spelled_as statements.Paging paging_statement line paging_law is refl
statement_spelled (statements.Page page) is =
    let form = page_statement page.follows in
    spelled_as statements.Page form page (page_law page.follows) is (page_told page.follows (form.said page))
statement_spelled (statements.Traffic line) is =
    spelled_as statements.Traffic traffic_statement line traffic_law is refl
statement_spelled (statements.Frame frame) is =
    let form = frame_statement frame.rate in
    spelled_as statements.Frame form frame (frame_law frame.rate) is (frame_told frame.rate (form.said frame))
