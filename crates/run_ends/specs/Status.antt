-- The exit status and the text of each end of a run, and the end for each fault of a file or a
-- script.
use Rattle.std.specs.Prelude.{ℕ, List, [], ◌∷◌, ◌++◌, codes, decimal, Option, None, Some}
use Rattle.std.specs.Prelude.{Result, Ok, Err}
use Rattle.cdma_io.specs.declared.file_fault.FileFault.{FileFault}
use Rattle.cdma_io.specs.SampleFile.{fault_place}
use Rattle.cell_script.specs.declared.script_fault.ScriptFault.{ScriptFault}
use Rattle.run_ends.specs.declared.status.Status.{Status}
use Rattle.run_ends.specs.declared.status.Status.TheVariants.{Done, NoSync, BadWords, BadFile}
use Rattle.run_ends.specs.declared.status.Status.TheVariants.{ReadFault, WriteFault, NoMemory}
use Rattle.run_ends.specs.declared.status.Status.TheVariants.{BadScript}
use Rattle.cdma_io.specs.declared.file_fault.FileFault.TheVariants as file
use Rattle.cell_script.specs.declared.script_fault.ScriptFault.TheVariants as script

-- the end of a run by its result
abbrev pub ended : {T : Type 0} → Result T Status → Status
ended (Ok done) = Done
ended (Err status) = status

-- the exit status
abbrev pub code_of : Status → ℕ
code_of Done = 0
code_of NoSync = 1
code_of BadWords = 2
code_of (BadFile fault) = 3
code_of ReadFault = 4
code_of WriteFault = 5
code_of NoMemory = 6
code_of (BadScript fault) = 8

-- a failed read is a fault of the source; any other fault is one of the file's bytes
abbrev pub file_status : FileFault → Status
file_status file.ReadFault = ReadFault
file_status fault = BadFile fault

-- out of memory is not a fault of the script; any other fault is one of its bytes
abbrev pub script_status : ScriptFault → Status
script_status script.OutOfMemory = NoMemory
script_status fault = BadScript fault

-- the kind of a fault of the file
abbrev pub fault_kind_text : FileFault → List ℕ
fault_kind_text file.Magic = codes "magic"
fault_kind_text file.Version = codes "version"
fault_kind_text file.Flags = codes "flags"
fault_kind_text file.Count = codes "count"
fault_kind_text (file.Short place) = codes "short"
fault_kind_text (file.Extra place) = codes "extra"
fault_kind_text file.ReadFault = codes "read fault"
fault_kind_text (file.TooFew count) = codes "too few"

-- a kind, and the place in decimal if there is one
abbrev pub located : List ℕ → Option ℕ → List ℕ
located kind None = codes "bad file: " ++ kind
located kind (Some place) = codes "bad file: " ++ kind ++ codes " at " ++ decimal place

-- the fault of a script, and the number in decimal if there is one
abbrev pub script_line : ScriptFault → List ℕ
script_line (script.Line n) = codes "bad script: line " ++ decimal n
script_line (script.Walsh row) = codes "bad script: walsh " ++ decimal row
script_line (script.Gain row) = codes "bad script: gain " ++ decimal row
script_line (script.TooLoud sum) = codes "bad script: too loud " ++ decimal sum
script_line (script.TooLong n) = codes "bad script: too long " ++ decimal n
script_line script.OutOfMemory = codes "bad script: out of memory"
script_line script.TooBig = codes "bad script: too big"

-- the text of each end of a run
abbrev pub text_of : Status → List ℕ
text_of Done = codes ""
text_of NoSync = codes "no sync message"
text_of BadWords = codes "bad words"
text_of (BadFile fault) = located (fault_kind_text fault) (fault_place fault)
text_of ReadFault = codes "read fault"
text_of WriteFault = codes "write fault"
text_of NoMemory = codes "out of memory"
text_of (BadScript fault) = script_line fault

-- the line on standard error, empty if the run is done
abbrev pub end_line : Status → List ℕ
end_line Done = []
end_line status = text_of status ++ 10 ∷ []
