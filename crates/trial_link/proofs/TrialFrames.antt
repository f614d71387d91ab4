-- The lines of a traffic channel with its frames, and the draft that they lead to.
use Rattle.trial_link.proofs.Common.{◌≡◌, ℕ, ◌+◌, ◌*◌, ◌<◌, ◌≤◌, List, [], ◌∷◌, ◌++◌, length, map, refl, sym, ap, ◌∙◌, arith, subst, Some}
use Rattle.trial_link.proofs.Common.{append_assoc, append-nil, length-append, option_map, length-map-range_with_len, places, CellPlan, One}
use Rattle.trial_link.proofs.Common.{TrafficPlan, Stage, FirstFrame, Frames, TrafficLine, TrafficFrame, Draft, draft_at, Statement, SetOne}
use Rattle.trial_link.proofs.Common.{with_frame, with_next, one_frame_more, rate_set, SetTwo, FrameRate, RateSet, frames_stage, after_frame}
use Rattle.trial_link.proofs.Common.{IsTrafficFrame, after_traffic, lines_of, statement_line, statement_text, past_draw, past_draws, Leads}
use Rattle.trial_link.proofs.Common.{past_frames, bits_of_frame, traffic_plan_of, frame_drawn, frames_drawn, on_last-last, first_leads}
use Rattle.trial_link.proofs.TrialLengths.{written_frame_short, written_traffic_short}
use Rattle.cell_script.proofs.SpelledLines.{IsWritableTraffic, frame_writable}
use Rattle.trial_link.proofs.TrialDraws.{length-bits_drawn}
use Rattle.cell_script.specs.declared.statements.Statement.TheVariants as statements

-- frames of rate set 1 that lines can tell
abbrev pub AreToldFrames : List TrafficFrame → Type 0
AreToldFrames [] = Unit {0}
AreToldFrames (f ∷ frames) =
    IsTrafficFrame f × (length f.power_bits ≡ 16) × (rate_set f.rate ≡ One)
    × AreToldFrames frames

-- one may stand after another
one_after : (rate : FrameRate) → rate_set rate ≡ One → frames_stage One rate ≡ Some (Frames One)
one_after (SetOne rate) is = refl
one_after (SetTwo rate) is = absurd (cc is)

-- a plan whose last traffic channel has these frames
abbrev pub with_last : CellPlan → List TrafficPlan → TrafficLine → List TrafficFrame → CellPlan
with_last plan before line frames =
    record plan { traffic = before ++ traffic_plan_of line frames ∷ [] }

abbrev pub on_frames : CellPlan → List TrafficPlan → TrafficLine → List TrafficFrame → Draft
on_frames plan before line frames = draft_at (with_last plan before line frames) (Frames One)

frame_next : (plan : CellPlan) (stage : Stage) (f : TrafficFrame) → after_frame stage f.rate ≡ Some (Frames One) →
    with_next (draft_at plan stage) (statements.Frame f)
    ≡ Some (draft_at (record plan { traffic = with_frame plan.traffic f }) (Frames One))
unfolding with_next
frame_next plan stage f is = ap (option_map (draft_at (record plan { traffic = with_frame plan.traffic f }))) is

frame_added : (plan : CellPlan) (before : List TrafficPlan) (line : TrafficLine)
    (got : List TrafficFrame) (f : TrafficFrame) (stage : Stage) → after_frame stage f.rate ≡ Some (Frames One) →
    with_next (draft_at (with_last plan before line got) stage) (statements.Frame f)
    ≡ Some (on_frames plan before line (got ++ f ∷ []))
frame_added plan before line got f stage is =
    frame_next (with_last plan before line got) stage f is
    ∙ ap (λ (ts : List TrafficPlan). Some (draft_at (record plan { traffic = ts }) (Frames One)))
    (on_last-last (one_frame_more f) before (traffic_plan_of line got))

-- If lines lead to a draft from the plan with a list of frames, the frames' lines and then those
-- lead there from the plan without it, by induction: each line adds its frame (`frame_added`).
frames_lead : (plan : CellPlan) (before : List TrafficPlan) (line : TrafficLine)
    (got frames : List TrafficFrame) (more : List Statement) (last : Draft) →
    AreToldFrames frames → Leads (on_frames plan before line (got ++ frames)) (lines_of more) last →
    Leads (on_frames plan before line got) (lines_of (map statements.Frame frames ++ more)) last
frames_lead plan before line got [] more last are rest =
    subst (λ (fs : List TrafficFrame). Leads (on_frames plan before line fs) (lines_of more) last) (append-nil got) rest
frames_lead plan before line got (f ∷ frames) more last are rest =
    first_leads (on_frames plan before line got) (on_frames plan before line (got ++ f ∷ [])) last
    (statements.Frame f) (map statements.Frame frames ++ more) (frame_writable f are.0 are.1)
    (frame_added plan before line got f (Frames One) (one_after f.rate are.2))
    (frames_lead plan before line (got ++ f ∷ []) frames more last are.3
    (subst (λ (fs : List TrafficFrame). Leads (on_frames plan before line fs) (lines_of more) last)
    (sym (append_assoc got (f ∷ []) frames)) rest))

-- ---- a channel

traffic_next : (plan : CellPlan) (stage : Stage) (line : TrafficLine) → after_traffic stage ≡ Some FirstFrame →
    with_next (draft_at plan stage) (statements.Traffic line)
    ≡ Some (draft_at (with_last plan plan.traffic line []) FirstFrame)
unfolding with_next
traffic_next plan stage line is = ap (option_map (draft_at (with_last plan plan.traffic line []))) is

-- a traffic channel with its frames: one channel more
pub channel_leads : (plan : CellPlan) (stage : Stage) (line : TrafficLine)
    (frames : List TrafficFrame) (more : List Statement) (last : Draft) →
    after_traffic stage ≡ Some FirstFrame → IsWritableTraffic line → AreToldFrames frames →
    0 < length frames → Leads (on_frames plan plan.traffic line frames) (lines_of more) last →
    Leads (draft_at plan stage) (lines_of (statements.Traffic line ∷ (map statements.Frame frames ++ more))) last
channel_leads plan stage line [] more last is told are some rest = absurd (omega (arith, some))
channel_leads plan stage line (f ∷ frames) more last is told are some rest =
    let opened = draft_at (with_last plan plan.traffic line []) FirstFrame in
    first_leads (draft_at plan stage) opened last (statements.Traffic line)
    (map statements.Frame (f ∷ frames) ++ more) told (traffic_next plan stage line is)
    (first_leads opened (on_frames plan plan.traffic line (f ∷ [])) last (statements.Frame f)
    (map statements.Frame frames ++ more) (frame_writable f are.0 are.1)
    (frame_added plan plan.traffic line [] f FirstFrame (ap (λ (set : RateSet). Some (Frames set)) are.2))
    (frames_lead plan plan.traffic line (f ∷ []) frames more last are.3 rest))

-- ---- how long its lines are

-- a line, and those after it
pub lines_long : (statement : Statement) (more : List Statement) → length (lines_of (statement ∷ more))
    ≡ length (statement_text statement) + 1 + length (lines_of more)
lines_long statement more =
    omega (
      arith,
      length-append (statement_line statement) (lines_of more),
      length-append (statement_text statement) (10 ∷ []),
    )

frames_short : (frames : List TrafficFrame) (more : List Statement) → AreToldFrames frames →
    length (lines_of (map statements.Frame frames ++ more)) ≤ 353 * length frames + length (lines_of more)
frames_short [] more are = omega arith
frames_short (f ∷ frames) more are =
    omega (
      arith,
      lines_long (statements.Frame f) (map statements.Frame frames ++ more),
      written_frame_short f are.0 are.1,
      frames_short frames more are.3,
    )

pub channel_short : (line : TrafficLine) (frames : List TrafficFrame) (more : List Statement) →
    IsWritableTraffic line → AreToldFrames frames →
    length (lines_of (statements.Traffic line ∷ (map statements.Frame frames ++ more)))
    ≤ 201 + 353 * length frames + length (lines_of more)
channel_short line frames more is are =
    omega (
      arith,
      lines_long (statements.Traffic line) (map statements.Frame frames ++ more),
      written_traffic_short line is,
      frames_short frames more are,
    )

-- ---- frames that are drawn

drawn_are : (state : ℕ) (ks : List ℕ) → AreToldFrames (map (λ k. frame_drawn (past_frames state k)) ks)
drawn_are state [] = tt
drawn_are state (k ∷ ks) =
    let from = past_frames state k in (
      length-bits_drawn (past_draw from) (bits_of_frame from),
      length-bits_drawn (past_draws (past_draw from) (bits_of_frame from)) 16,
      refl,
      drawn_are state ks,
    )

-- frames that are drawn can be told, and how many they are
pub frames_drawn_are : (state n : ℕ) → AreToldFrames (frames_drawn state n)
unfolding frames_drawn
frames_drawn_are state n = drawn_are state (places n)

pub frames_drawn-long : (state n : ℕ) → length (frames_drawn state n) ≡ n
unfolding frames_drawn places
frames_drawn-long state n = length-map-range_with_len (λ k. frame_drawn (past_frames state k)) 0 n
