use Rattle.clean_signal.proofs.noise.Near.{near-near}
use Rattle.clean_signal.proofs.noise.Rounding.{louder_links, none_same, other_paths, rounding}
use Rattle.clean_signal.proofs.laws.rounding_is_noise.Goals as goal

pub returns : goal.returns
returns c = record { none = none_same; sum = near-near; path = other_paths; louder = louder_links; rounded = rounding }
