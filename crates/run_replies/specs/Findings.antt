-- The text of the findings in a file's first samples, for commands without a listener.
use Rattle.std.specs.Prelude.{ℕ, ◌≤◌, List, take}
use Rattle.event_tap.specs.EventLines.{event_line}
use Rattle.run_replies.specs.Common.{Pilot}
use Rattle.run_replies.specs.Ranks.{ranks_text}
use Rattle.run_replies.specs.declared.findings.Findings.{Findings}
use Rattle.run_replies.specs.declared.findings.Findings.TheVariants as found

-- the pilot's line, or the lines of the first ranks
abbrev pub findings_text : Findings → List ℕ
findings_text (found.Pilot best) = event_line (Pilot best.phase best.energy)
findings_text (found.Ranks ranks top) = ranks_text (take top ranks)

-- no more ranks are written than there are
abbrev pub AreWritable : Findings → Type 0
AreWritable (found.Pilot best) = Unit {0}
AreWritable (found.Ranks ranks top) = top ≤ 512
