use Rattle.line_text.proofs.Common.{◌≡◌, ◌*◌, ◌++◌, length, drop, flat_map, binary}
use Rattle.line_text.proofs.values.bits_of.Given as goal

abbrev pub invariant-loop-octet : goal.invariant-loop-octet
invariant-loop-octet l = record {
  left : flat_map (binary 8) l.octets ≡ l.bits ++ flat_map (binary 8) (drop l.octet-index l.octets);
  long : length l.bits ≡ 8 * l.octet-index;
}
