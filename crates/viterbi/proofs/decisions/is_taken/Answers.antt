use Rattle.viterbi.proofs.Common.{◌/◌, ◌%◌, ◌^◌, ℕ, get_or, ap, nat_eq, and_mask, took}
use Rattle.viterbi.proofs.decisions.is_taken.Goals as goal

pub returns : goal.returns
unfolding took
returns c =
    ap (λ (b : ℕ). nat_eq b 1) (and_mask (get_or c.args.decisions.now (c.args.state / 8) 0 / 2 ^ (c.args.state % 8)) 1)
