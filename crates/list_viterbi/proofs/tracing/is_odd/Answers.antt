use Rattle.list_viterbi.proofs.Common.{◌/◌, ◌^◌, ℕ, ap, nat_eq, and_mask}
use Rattle.list_viterbi.proofs.tracing.is_odd.Goals as goal

pub returns : goal.returns
returns c = ap (λ (b : ℕ). nat_eq b 1) (and_mask (c.args.choices / 2 ^ c.args.place) 1)
