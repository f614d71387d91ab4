use Rattle.listed_frame.proofs.Common.{◌≡◌, drop, find, is_right}
use Rattle.listed_frame.proofs.frame.candidate.Given as goal

abbrev pub invariant-loop-i : goal.invariant-loop-i
invariant-loop-i l =
    find (λ e. is_right l.format e.word.bits) l.codewords
    ≡ find (λ e. is_right l.format e.word.bits) (drop l.i l.codewords)
