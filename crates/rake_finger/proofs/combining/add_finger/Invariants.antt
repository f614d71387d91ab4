use Rattle.rake_finger.proofs.Common.{◌*◌, IsAdded, window_symbols}
use Rattle.rake_finger.proofs.combining.add_finger.Given as goal

abbrev pub invariant-loop-window : goal.invariant-loop-window
invariant-loop-window l = IsAdded l.ring l.finger l.form l.start (window_symbols l.form * l.window) l.fn.out l.out
