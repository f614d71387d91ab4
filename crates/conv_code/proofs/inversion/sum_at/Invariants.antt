use Rattle.conv_code.proofs.Common.{◌≡◌, false, get_or, drop, map, xor, parity}
use Rattle.conv_code.proofs.inversion.sum_at.Given as goal

abbrev pub invariant-loop-place : goal.invariant-loop-place
invariant-loop-place l =
    xor l.sum (parity (map (λ place. get_or l.symbols place false) (drop l.place-index l.places)))
    ≡ parity (map (λ place. get_or l.symbols place false) l.places)
