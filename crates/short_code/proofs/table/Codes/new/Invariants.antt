use Rattle.std.proofs.Common.{◌≡◌, ◌<◌, ◌+◌, ℕ, pos, length, get_or}
use Rattle.short_code.specs.ShortCode.{pilot_chip, chip_signs, chips_to, i_lags, q_lags}
use Rattle.short_code.proofs.RegisterChips.{Holds}
use Rattle.short_code.proofs.table.Codes.new.Given as goal

abbrev pub invariant-loop-n : goal.invariant-loop-n
invariant-loop-n l = record {
  long : length l.signs.items ≡ l._n + 1;
  entries : (k : ℕ) → k < l._n + 1 → get_or l.signs.items k (pos 1, pos 1) ≡ chip_signs (pilot_chip k);
  i : Holds l.i_register (chips_to i_lags l._n);
  q : Holds l.q_register (chips_to q_lags l._n);
}
