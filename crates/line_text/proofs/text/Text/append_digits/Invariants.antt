use Rattle.line_text.proofs.Common.{◌≡◌, ◌+◌, ◌++◌, length, take, digits_of}
use Rattle.line_text.proofs.text.Text.append_digits.Given as goal

abbrev pub invariant-loop-i : goal.invariant-loop-i
invariant-loop-i l = record {
  value : l.self ≡ l.fn.self ++ digits_of (take l.i l.power_bits);
  long : length l.self ≡ length l.fn.self + l.i;
}
