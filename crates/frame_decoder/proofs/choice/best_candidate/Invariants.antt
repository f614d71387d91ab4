use Rattle.frame_decoder.proofs.Common.{◌≡◌, drop, map, None, candidate_in, rising_choice}
use Rattle.frame_decoder.proofs.choice.best_candidate.Given as goal

abbrev pub invariant-loop-format : goal.invariant-loop-format
invariant-loop-format g l = record {
  rest : rising_choice None (map (candidate_in l.softs) l.formats)
      ≡ rising_choice l.best (map (candidate_in l.softs) (drop l.format-index l.formats));
  kept : l.decoder ≡ l.fn.decoder;
}
