use Rattle.conv_code.proofs.Common.{◌≡◌, ◌*◌, length, take, binary, code_symbols, state_after}
use Rattle.conv_code.proofs.encoding.encode_into.Given as goal

abbrev pub invariant-loop-i : goal.invariant-loop-i
invariant-loop-i l = record {
  given : l.out ≡ code_symbols (binary 8 l.start) (take l.i l.bits);
  long : length l.out ≡ 2 * l.i;
  state : binary 8 l.register ≡ state_after (binary 8 l.start) (take l.i l.bits);
}
