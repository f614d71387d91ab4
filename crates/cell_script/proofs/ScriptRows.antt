-- What a judge knows of the paging and traffic channels, one statement after another.
use Rattle.cell_script.proofs.Common.{◌≡◌, ℕ, ◌+◌, ◌*◌, ◌<◌, ◌==◌, Bool, true, false, cond, List, [], ◌∷◌, ◌++◌, length, get_or, refl, sym}
use Rattle.cell_script.proofs.Common.{ap, ◌∙◌, arith, append_assoc, replicate, subst, inl, inr, Option, None, Some, set, ◌||◌, unsigned_abs}
use Rattle.cell_script.proofs.Common.{option_or, cases_eq, eq-eqb, ne_eqb, or_right, append-nil, get_or-set_other, get_or-set_same, Width}
use Rattle.cell_script.proofs.Common.{length-set, get_or-replicate, paging_gains, sync_gain, traffic_gains, CellPlan, LinkPlan, Page, Judge}
use Rattle.cell_script.proofs.Common.{PagingPlan, PilotPlan, SyncPlan, TrafficPlan, ChannelRows, ScriptFault, TrafficFrame, ChannelLine}
use Rattle.cell_script.proofs.Common.{channel, channel_lines, first_channels, gain_fault, is_used, long_fault, loud_fault, paging_lines}
use Rattle.cell_script.proofs.Common.{plan_fault, repeated, repeated_after, silent, traffic_lines, walsh_fault, on_last, with_page, map}
use Rattle.cell_script.proofs.Common.{one_frame_more, one_page_more, with_frame, gains_of, judged_fault, HasJudged, HasSeen, PagingLine}
use Rattle.cell_script.proofs.Common.{TrafficLine, map-append, opened_paging, opened_traffic}
use Rattle.std.proofs.Math.Bool.{or-false}

-- ---- one line more

-- the row where something is so
abbrev row_if : Bool → ℕ → Option ℕ
row_if is row = cond is (Some row) None

pub used-append : (k : ℕ) (ls : List ChannelLine) (l : ChannelLine) →
    is_used k (ls ++ l ∷ []) ≡ (is_used k ls || (l.row == k))
used-append k [] l = one (l.row == k)
  where
    one : (b : Bool) → cond b true false ≡ b
    one true = refl
    one false = refl
used-append k (x ∷ ls) l = step (x.row == k) (used-append k ls l)
  where
    step : (b : Bool) → is_used k (ls ++ l ∷ []) ≡ (is_used k ls || (l.row == k)) →
        cond b true (is_used k (ls ++ l ∷ [])) ≡ (cond b true (is_used k ls) || (l.row == k))
    step true e = refl
    step false e = e

repeated-append : (before ls : List ChannelLine) (l : ChannelLine) → repeated_after before (ls ++ l ∷ [])
    ≡ option_or (repeated_after before ls) (row_if (is_used l.row (before ++ ls)) l.row)
repeated-append before [] l = ap (λ (b : List ChannelLine). row_if (is_used l.row b) l.row) (sym (append-nil before))
repeated-append before (x ∷ ls) l =
    step (is_used x.row before)
    (repeated-append (before ++ x ∷ []) ls l
    ∙ ap (λ (b : List ChannelLine).
    option_or (repeated_after (before ++ x ∷ []) ls) (row_if (is_used l.row b) l.row))
    (append_assoc before (x ∷ []) ls))
  where
    step : (b : Bool) → repeated_after (before ++ x ∷ []) (ls ++ l ∷ [])
        ≡ option_or (repeated_after (before ++ x ∷ []) ls) (row_if (is_used l.row (before ++ x ∷ ls)) l.row) →
        cond b (Some x.row) (repeated_after (before ++ x ∷ []) (ls ++ l ∷ []))
        ≡ option_or (cond b (Some x.row) (repeated_after (before ++ x ∷ []) ls))
        (row_if (is_used l.row (before ++ x ∷ ls)) l.row)
    step true e = refl
    step false e = e

silent-append : (ls : List ChannelLine) (l : ChannelLine) →
    silent (ls ++ l ∷ []) ≡ option_or (silent ls) (row_if (l.gain == 0) l.row)
silent-append [] l = refl
silent-append (x ∷ ls) l = step (x.gain == 0) (silent-append ls l)
  where
    step : (b : Bool) → silent (ls ++ l ∷ []) ≡ option_or (silent ls) (row_if (l.gain == 0) l.row) →
        cond b (Some x.row) (silent (ls ++ l ∷ []))
        ≡ option_or (cond b (Some x.row) (silent ls)) (row_if (l.gain == 0) l.row)
    step true e = refl
    step false e = e

gains-append : (ls : List ChannelLine) (l : ChannelLine) → gains_of (ls ++ l ∷ []) ≡ gains_of ls + l.gain
gains-append [] l = omega arith
gains-append (x ∷ ls) l = omega (arith, gains-append ls l)

-- ---- the rows of one more channel

pub used_row : (used : List Bool) (ls : List ChannelLine) (l : ChannelLine) (k : ℕ) →
    length used ≡ 64 → l.row < 64 → get_or used k false ≡ is_used k ls →
    get_or (set used l.row true) k false ≡ is_used k (ls ++ l ∷ [])
used_row used ls l k long inside before = elim (cases_eq l.row k) [
  | inl same ↦
      ap (λ (n : ℕ). get_or (set used l.row true) n false) (sym same)
      ∙ get_or-set_same used l.row true false (omega (arith, long, inside))
      ∙ sym (used-append k ls l
      ∙ or_right (is_used k ls) (l.row == k) (eq-eqb l.row k same))
  | inr other ↦
      get_or-set_other used l.row k true false (λ e. other (sym e))
      ∙ before
      ∙ sym (used-append k ls l
      ∙ ap (λ (b : Bool). is_used k ls || b) (ne_eqb l.row k other)
      ∙ or-false (is_used k ls))
]

pub one_row : (rows more : ChannelRows) (ls : List ChannelLine) (l : ChannelLine) (is : Bool) →
    l.row < 64 → is ≡ get_or rows.used l.row false → more.used ≡ set rows.used l.row true →
    more.repeated ≡ option_or rows.repeated (row_if is l.row) →
    more.silent ≡ option_or rows.silent (row_if (l.gain == 0) l.row) →
    more.gains ≡ rows.gains + l.gain → HasSeen rows ls → HasSeen more (ls ++ l ∷ [])
one_row rows more ls l is inside is_used_is used repeated_is silent_is gains before = record {
  long = ap length used ∙ length-set rows.used l.row true ∙ before.long;
  used = λ k small.
      ap (λ (u : List Bool). get_or u k false) used
      ∙ used_row rows.used (first_channels ++ ls) l k before.long inside (before.used k small);
  repeated =
      repeated_is
      ∙ ap (λ (b : Bool). option_or rows.repeated (row_if b l.row)) (is_used_is ∙ before.used l.row inside)
      ∙ ap (λ (o : Option ℕ).
      option_or o (row_if (is_used l.row (first_channels ++ ls)) l.row)) before.repeated
      ∙ sym (repeated-append first_channels ls l);
  silent =
      silent_is
      ∙ ap (λ (o : Option ℕ). option_or o (row_if (l.gain == 0) l.row)) before.silent
      ∙ sym (silent-append ls l);
  gains = gains ∙ ap (λ (n : ℕ). n + l.gain) before.gains ∙ sym (gains-append ls l);
}

-- Before the first channel of the script just rows 0 and 32 are used, the pilot's and the sync
-- channel's: of 64 places that were all false these two were set, one for each (`used_row`).
pub first_rows : (rows : ChannelRows) (pilot sync : ℕ) → pilot ≡ 0 → sync ≡ 32 →
    rows.used ≡ set (set (replicate 64 false) pilot true) sync true → rows.repeated ≡ None →
    rows.silent ≡ None → rows.gains ≡ 0 → HasSeen rows []
first_rows rows pilot sync first second used repeated_is silent_is gains =
    let blank = replicate 64 false in
    let with_pilot = set blank 0 true in
    let is : rows.used ≡ set with_pilot 32 true =
    used
    ∙ ap (λ (n : ℕ). set (set blank n true) sync true) first
    ∙ ap (λ (n : ℕ). set with_pilot n true) second in
    record {
      long = ap length is ∙ length-set with_pilot 32 true ∙ length-set blank 0 true;
      used = λ k small.
          ap (λ (u : List Bool). get_or u k false) is
          ∙ used_row with_pilot (channel 0 1 ∷ []) (channel 32 1) k (length-set blank 0 true) (omega arith)
          (used_row blank [] (channel 0 1) k refl (omega arith)
          (get_or-replicate 64 k false false small));
      repeated = repeated_is;
      silent = silent_is;
      gains = gains;
    }

-- ---- statements

abbrev line_of : PagingPlan → ChannelLine
line_of p = channel p.number p.gain

abbrev traffic_line_of : TrafficPlan → ChannelLine
traffic_line_of t = channel t.row t.gain

-- a change that leaves the last channel's line leaves the rows and the gains
lines-on_last : {A : Type 0} (line : A → ChannelLine) (change : A → A) →
    ((x : A) → line (change x) ≡ line x) → (xs : List A) → map line (on_last change xs) ≡ map line xs
lines-on_last line change same [] = refl
lines-on_last line change same (x ∷ []) = ap (λ (l : ChannelLine). l ∷ []) (same x)
lines-on_last line change same (x ∷ (y ∷ xs)) =
    ap (λ (ls : List ChannelLine). line x ∷ ls) (lines-on_last line change same (y ∷ xs))

-- as a page more does
pub judged_page : (judge : Judge) (plan : CellPlan) (page : Page) → HasJudged judge plan →
    HasJudged judge (record plan { paging = with_page plan.paging page })
judged_page judge plan page before = record {
  link = before.link;
  pilot = before.pilot;
  sync = before.sync;
  channels = subst (HasSeen judge.channels)
      (sym (ap (λ (ls : List ChannelLine). ls ++ traffic_lines plan.traffic)
      (lines-on_last line_of (one_page_more page) (λ p. refl) plan.paging))) before.channels;
}

-- and a frame more
pub judged_frame : (judge : Judge) (plan : CellPlan) (frame : TrafficFrame) → HasJudged judge plan →
    HasJudged judge (record plan { traffic = with_frame plan.traffic frame })
judged_frame judge plan frame before = record {
  link = before.link;
  pilot = before.pilot;
  sync = before.sync;
  channels = subst (HasSeen judge.channels)
      (sym (ap (λ (ls : List ChannelLine). paging_lines plan.paging ++ ls)
      (lines-on_last traffic_line_of (one_frame_more frame) (λ t. refl) plan.traffic)))
      before.channels;
}

-- a paging channel more stands last where there is no traffic channel yet
paging_added_last : (ls : List ChannelLine) (traffic : List TrafficPlan) (l : ChannelLine) → traffic ≡ [] →
    (ls ++ traffic_lines traffic) ++ l ∷ [] ≡ (ls ++ l ∷ []) ++ traffic_lines traffic
paging_added_last ls traffic l none =
    subst (λ (ts : List TrafficPlan).
    (ls ++ traffic_lines ts) ++ l ∷ [] ≡ (ls ++ l ∷ []) ++ traffic_lines ts) (sym none)
    (ap (λ (all : List ChannelLine). all ++ l ∷ []) (append-nil ls) ∙ sym (append-nil (ls ++ l ∷ [])))

pub judged_paging : (judge : Judge) (plan : CellPlan) (line : PagingLine) (rows : ChannelRows) → plan.traffic ≡ [] →
    HasSeen rows (channel_lines plan ++ channel line.number line.gain ∷ []) → HasJudged judge plan →
    HasJudged (record judge { channels = rows })
    (record plan { paging = plan.paging ++ opened_paging line ∷ [] })
judged_paging judge plan line rows none seen before = record {
  link = before.link;
  pilot = before.pilot;
  sync = before.sync;
  channels = subst (HasSeen rows)
      (paging_added_last (paging_lines plan.paging) plan.traffic (channel line.number line.gain) none
      ∙ ap (λ (ls : List ChannelLine). ls ++ traffic_lines plan.traffic)
      (sym (map-append line_of plan.paging (opened_paging line ∷ [])))) seen;
}

-- and so does a traffic channel more
pub judged_traffic : (judge : Judge) (plan : CellPlan) (line : TrafficLine) (rows : ChannelRows) →
    HasSeen rows (channel_lines plan ++ channel line.row line.gain ∷ []) → HasJudged judge plan →
    HasJudged (record judge { channels = rows })
    (record plan { traffic = plan.traffic ++ opened_traffic line ∷ [] })
judged_traffic judge plan line rows seen before = record {
  link = before.link;
  pilot = before.pilot;
  sync = before.sync;
  channels = subst (HasSeen rows)
      (append_assoc (paging_lines plan.paging) (traffic_lines plan.traffic) (channel line.row line.gain ∷ [])
      ∙ ap (λ (ls : List ChannelLine). paging_lines plan.paging ++ ls)
      (sym (map-append traffic_line_of plan.traffic (opened_traffic line ∷ [])))) seen;
}

-- ---- faults

gains-both : (ls more : List ChannelLine) → gains_of (ls ++ more) ≡ gains_of ls + gains_of more
gains-both [] more = omega arith
gains-both (l ∷ ls) more = omega (arith, gains-both ls more)

paging_gains-is : (paging : List PagingPlan) → gains_of (paging_lines paging) ≡ paging_gains paging
paging_gains-is [] = refl
paging_gains-is (p ∷ paging) = ap (λ (n : ℕ). p.gain + n) (paging_gains-is paging)

traffic_gains-is : (traffic : List TrafficPlan) → gains_of (traffic_lines traffic) ≡ traffic_gains traffic
traffic_gains-is [] = refl
traffic_gains-is (t ∷ traffic) = ap (λ (n : ℕ). t.gain + n) (traffic_gains-is traffic)

gains_are : (plan : CellPlan) → gains_of (channel_lines plan) ≡ paging_gains plan.paging + traffic_gains plan.traffic
gains_are plan =
    omega (
      arith,
      gains-both (paging_lines plan.paging) (traffic_lines plan.traffic),
      paging_gains-is plan.paging,
      traffic_gains-is plan.traffic,
    )

abbrev fault_from : Width → LinkPlan → PilotPlan → Option SyncPlan → Option ℕ → Option ℕ → ℕ → Option ScriptFault
fault_from width link pilot sync number quiet gains =
    option_or (walsh_fault number)
    (option_or (gain_fault pilot sync quiet)
    (option_or
    (loud_fault width
    ((unsigned_abs link.factor.i + unsigned_abs link.factor.q)
    * (pilot.gain + (sync_gain sync + gains))))
    (long_fault width link.samples)))

-- a judge tells the plan's first fault
pub judged_fault_is : (width : Width) (judge : Judge) (plan : CellPlan) → HasJudged judge plan →
    judged_fault width judge ≡ plan_fault width plan
judged_fault_is width judge plan is =
    let rows = judge.channels in
    let seen = is.channels in
    let ls = channel_lines plan in
    ap (λ (x : LinkPlan).
    fault_from width x judge.pilot judge.sync rows.repeated rows.silent rows.gains) is.link
    ∙ ap (λ (x : PilotPlan).
    fault_from width plan.link x judge.sync rows.repeated rows.silent rows.gains) is.pilot
    ∙ ap (λ (x : Option SyncPlan).
    fault_from width plan.link plan.pilot x rows.repeated rows.silent rows.gains) is.sync
    ∙ ap (λ (x : Option ℕ).
    fault_from width plan.link plan.pilot plan.sync x rows.silent rows.gains) seen.repeated
    ∙ ap (λ (x : Option ℕ).
    fault_from width plan.link plan.pilot plan.sync (repeated ls) x rows.gains) seen.silent
    ∙ ap (λ (x : ℕ).
    fault_from width plan.link plan.pilot plan.sync (repeated ls) (silent ls) x)
    (seen.gains ∙ gains_are plan)
