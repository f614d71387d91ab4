-- Scripts: the plan that a script states, or its first fault.
use Rattle.cell_script.specs.Common.{Width, CellPlan, PagingPlan, PilotPlan, SyncPlan, TrafficPlan}
use Rattle.cell_script.specs.Common.{ScriptFault, loudness, most_part}
use Rattle.std.specs.Prelude.{ℕ, ◌+◌, ◌-◌, ◌==◌, nat_lt, Bool, true, false, if◌then◌else◌, List, []}
use Rattle.std.specs.Prelude.{◌∷◌, ◌++◌, length, map, take, Option, None, Some, Result, Ok, Err}
use Rattle.std.specs.Prelude.{ok_or, option_map}
use Rattle.std.specs.Option.{option_map_or, option_or}
use Rattle.cdma_io.specs.SampleFile.{most_samples}
use Rattle.cell_script.specs.declared.script_fault.ScriptFault.TheVariants.{TooLoud, TooLong, Walsh}
use Rattle.cell_script.specs.declared.script_fault.ScriptFault.TheVariants.{TooBig, Line, Gain}
use Rattle.cell_script.specs.ScriptDrafts.{Draft, empty_draft, plan_at, with_line}

-- ---- lines

abbrev pub onto_first : ℕ → List (List ℕ) → List (List ℕ)
onto_first byte [] = (byte ∷ []) ∷ []
onto_first byte (line ∷ lines) = (byte ∷ line) ∷ lines

-- the lines of a script, each with its LF; text after the last LF is a last line without LF
unfoldable pub lines : List ℕ → List (List ℕ)
lines [] = []
lines (byte ∷ bytes) =
    if byte == 10 then (byte ∷ []) ∷ lines bytes else onto_first byte (lines bytes)

-- whether a line ends with LF and contains no other LF
unfoldable pub is_line : List ℕ → Bool
is_line [] = false
is_line (byte ∷ bytes) = if byte == 10 then length bytes == 0 else is_line bytes

-- the draft after a line; None if the line has no LF or cannot come next
unfoldable pub draft_after : Draft → List ℕ → Option Draft
draft_after draft line =
    if is_line line then with_line draft (take (length line - 1) line) else None

-- The plan that lines state, added to a draft. Otherwise, if the first line is line n, the number
-- of the first line that is misplaced, or of the line after the last if one is missing there.
unfoldable pub stated : Draft → ℕ → List (List ℕ) → Result CellPlan ℕ
stated draft n [] = ok_or (plan_at draft) n
stated draft n (line ∷ lines) =
    option_map_or (λ next. stated next (n + 1) lines) (draft_after draft line) (Err n)

unfoldable pub stated_plan : List ℕ → Result CellPlan ℕ
stated_plan script = stated empty_draft 1 (lines script)

-- ---- faults of a plan

-- what the lines of all kinds of channels state: the Walsh row and the gain
pub record ChannelLine : Type 0 where
  pub row : ℕ
  pub gain : ℕ

abbrev pub channel : ℕ → ℕ → ChannelLine
channel row gain = record { row = row; gain = gain }

abbrev pub paging_lines : List PagingPlan → List ChannelLine
paging_lines paging = map (λ (p : PagingPlan). channel p.number p.gain) paging

abbrev pub traffic_lines : List TrafficPlan → List ChannelLine
traffic_lines traffic = map (λ (t : TrafficPlan). channel t.row t.gain) traffic

-- the lines of the paging and traffic channels, in the script's order
abbrev pub channel_lines : CellPlan → List ChannelLine
channel_lines plan = paging_lines plan.paging ++ traffic_lines plan.traffic

abbrev pub is_used : ℕ → List ChannelLine → Bool
is_used row [] = false
is_used row (l ∷ ls) = if l.row == row then true else is_used row ls

-- the row of the first channel that has the row of an earlier one, or of one of `before`
abbrev pub repeated_after : List ChannelLine → List ChannelLine → Option ℕ
repeated_after before [] = None
repeated_after before (l ∷ ls) =
    if is_used l.row before then Some l.row else repeated_after (before ++ l ∷ []) ls

-- the pilot and the sync channel, whose rows are 0 and 32
abbrev pub first_channels : List ChannelLine
first_channels = channel 0 1 ∷ channel 32 1 ∷ []

-- the row of the first channel that has the row of the pilot, the sync channel or an earlier one
abbrev pub repeated : List ChannelLine → Option ℕ
repeated ls = repeated_after first_channels ls

-- the row of the first channel whose gain is 0
abbrev pub silent : List ChannelLine → Option ℕ
silent [] = None
silent (l ∷ ls) = if l.gain == 0 then Some l.row else silent ls

abbrev pub walsh_fault : Option ℕ → Option ScriptFault
walsh_fault row = option_map Walsh row

abbrev pub sync_gain_fault : Option SyncPlan → Option ScriptFault
sync_gain_fault None = None
sync_gain_fault (Some sync) = if sync.gain == 0 then Some (Gain 32) else None

-- the first gain of 0: the pilot's, the sync channel's, or that of another channel on this row
abbrev pub gain_fault : PilotPlan → Option SyncPlan → Option ℕ → Option ScriptFault
gain_fault pilot sync row =
    if pilot.gain == 0 then Some (Gain 0)
    else option_or (sync_gain_fault sync) (option_map Gain row)

abbrev pub loud_fault : Width → ℕ → Option ScriptFault
loud_fault width sum = if nat_lt (most_part width) sum then Some (TooLoud sum) else None

abbrev pub long_fault : Width → ℕ → Option ScriptFault
long_fault width samples =
    if nat_lt (most_samples width) samples then Some (TooLong samples) else None

-- the first fault, in the order Walsh rows, gains, loudness, length
abbrev pub plan_fault : Width → CellPlan → Option ScriptFault
plan_fault width plan =
    option_or (walsh_fault (repeated (channel_lines plan)))
    (option_or (gain_fault plan.pilot plan.sync (silent (channel_lines plan)))
    (option_or (loud_fault width (loudness plan)) (long_fault width plan.link.samples)))

-- ---- what a script names

abbrev pub unless : CellPlan → Option ScriptFault → Result CellPlan ScriptFault
unless plan None = Ok plan
unless plan (Some fault) = Err fault

abbrev pub named : Width → Result CellPlan ℕ → Result CellPlan ScriptFault
named width (Err n) = Err (Line n)
named width (Ok plan) = unless plan (plan_fault width plan)

-- the plan that a script names for samples of a width, or its fault
unfoldable pub plan_named : Width → List ℕ → Result CellPlan ScriptFault
plan_named width script =
    if nat_lt 1048576 (length script) then Err TooBig else named width (stated_plan script)
