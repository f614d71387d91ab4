-- The input and output of the command `make`, and the contract of its run.
use Rattle.std.specs.Prelude.{◌≡◌, ◌≢◌, ℕ, ◌≤◌, ◌++◌, ◌⊎◌, List, [], take, drop, Option, IfSome, IsOk}
use Rattle.std.specs.Prelude.{Ok, Err}
use Rattle.std.specs.List.{flat_map}
use Rattle.std.specs.Io.{StartsWith}
use Rattle.std.specs.Io.KnownBytes.{Appends, IsAtEnd}
use Rattle.chip_core.specs.declared.width.Width.{Width}
use Rattle.cdma_io.specs.Outside.{ConsumesAtMost, Rose}
use Rattle.cdma_io.specs.SampleFile.{header_spelling, sample_spelling}
use Rattle.cdma_io.specs.declared.file_fault.FileFault.{FileFault}
use Rattle.cell_plan.specs.Sampled.{made_samples}
use Rattle.cell_plan.specs.Transmitter.{header_of}
use Rattle.cell_plan.specs.declared.plan.CellPlan.{CellPlan}
use Rattle.cell_script.specs.Script.{plan_named}
use Rattle.cell_script.specs.declared.script_fault.ScriptFault.{ScriptFault}
use Rattle.run_ends.specs.Flows.{Flow}
use Rattle.run_ends.specs.declared.status.Status.{Status}
use Rattle.cell_script.specs.declared.script_fault.ScriptFault.TheVariants as script
use Rattle.run_ends.specs.declared.status.Status.TheVariants as ends

-- the bytes of `count` samples of a cell after the first `given`
abbrev pub piece_bytes : Width → CellPlan → ℕ → ℕ → List ℕ
piece_bytes width plan given count =
    flat_map (sample_spelling width) (take count (drop given (made_samples plan)))

-- the bytes of all samples of a cell
abbrev pub sample_bytes : Width → CellPlan → List ℕ
sample_bytes width plan = flat_map (sample_spelling width) (made_samples plan)

-- the file of a cell: its header, then its samples
unfoldable pub made_file : Width → CellPlan → List ℕ
made_file width plan = header_spelling (header_of width plan) ++ sample_bytes width plan

-- the script of these bytes names a cell, and its file was written
pub record WritesMadeFile (width : Width) (bytes : List ℕ) (old new : Option (List ℕ)) :
    Type 0 where
  pub plan : CellPlan
  pub named : plan_named width bytes ≡ Ok plan
  pub written : Appends old new (made_file width plan)

-- a text is a prefix of the file of the cell that the script names
pub record BeginsMadeFile (width : Width) (rest : Option (List ℕ)) (text : List ℕ) : Type 0 where
  pub plan : CellPlan
  pub named : IfSome rest (λ bytes. plan_named width bytes ≡ Ok plan)
  pub begins : StartsWith (made_file width plan) text

-- known bytes grew by nothing, or by a prefix of that file
pub record WritesNoMoreMade (width : Width) (rest old new : Option (List ℕ)) : Type 0 where
  pub text : List ℕ
  pub written : Appends old new text
  pub part : (text ≡ []) ⊎ BeginsMadeFile width rest text

-- what holds after a run of `make` with this source and this sink that ended with `status`
pub record MakesFile (width : Width) (status : Status) (source sink : Flow) : Type 0 where
  pub done : status ≡ ends.Done →
      IfSome source.before (λ bytes. WritesMadeFile width bytes sink.before sink.after)
  pub at_end : status ≡ ends.Done → IsAtEnd source.after
  pub others : (status ≢ ends.NoSync) × (status ≢ ends.BadWords) ×
      ((fault : FileFault) → status ≢ ends.BadFile fault)
  pub memory : status ≡ ends.NoMemory → sink.Same
  pub early : status ≡ ends.NoMemory →
      source.Same ⊎ IfSome source.before (λ bytes. IsOk (plan_named width bytes))
  pub bad_script : (fault : ScriptFault) → status ≡ ends.BadScript fault →
      (fault ≢ script.OutOfMemory) × sink.Same ×
      IfSome source.before (λ bytes. plan_named width bytes ≡ Err fault)
  pub read_fault : status ≡ ends.ReadFault → Rose source.faults source.faults_after
  pub unwritten : status ≡ ends.ReadFault → sink.Same
  pub write_fault : status ≡ ends.WriteFault → Rose sink.faults sink.faults_after
  pub lawful : status ≡ ends.WriteFault →
      IfSome source.before (λ bytes. IsOk (plan_named width bytes))
  pub written : WritesNoMoreMade width source.before sink.before sink.after
  pub bound : ConsumesAtMost 1048577 source.before source.after
  pub later_source : source.faults ≤ source.faults_after
  pub later_sink : sink.faults ≤ sink.faults_after
