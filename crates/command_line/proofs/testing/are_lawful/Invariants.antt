use Rattle.command_line.proofs.Common.{length, ◌-◌, map, string_bytes, entry_of}
use Rattle.command_line.proofs.ArgTests.{Stands}
use Rattle.command_line.proofs.testing.are_lawful.Given as goal

abbrev pub invariant-loop-place : goal.invariant-loop-place
invariant-loop-place l = Stands (map entry_of l.rules) (map string_bytes l.args) l.place

abbrev pub decreases-loop-place : goal.decreases-loop-place
decreases-loop-place l = length l.args - l.place
