use Rattle.conv_code.proofs.Common.{◌≡◌, ◌*◌, Bool, List, length, take, binary, code_symbols, state_after}
use Rattle.conv_code.proofs.inversion.bits_from.Given as goal

abbrev pub invariant-loop-i : goal.invariant-loop-i
invariant-loop-i l = record {
  given : code_symbols (binary 8 l.start) l.bits ≡ take (2 * l.i) l.symbols;
  long : length l.bits ≡ l.i;
  state : binary 8 l.register ≡ state_after (binary 8 l.start) l.bits;
  only : (codeword : List Bool) → code_symbols (binary 8 l.start) codeword ≡ l.symbols → l.bits ≡ take l.i codeword;
}
