use Rattle.list_viterbi.proofs.Common.{◌≡◌, ◌<◌, ◌+◌, ◌*◌, ◌/◌, ◌%◌, ℕ, get_or, ap, arith, subst, sym, lane_code_of, patterns, lane_codes}
use Rattle.list_viterbi.proofs.StateCodes.{code_small}
use Rattle.list_viterbi.proofs.gains.code_of.Goals as goal

by_kind : (pattern state : ℕ) → pattern ≡ get_or patterns (state / 8) 0 →
    get_or lane_codes (8 * pattern + state % 8) 0 ≡ lane_code_of state
by_kind pattern state is = ap (λ (k : ℕ). get_or lane_codes (8 * k + state % 8) 0) is

pub returns-clause-value : goal.returns-clause-value
unfolding lane_codes
returns-clause-value c = by_kind c.pattern_of-pattern.result c.args.state c.pattern_of-pattern.ensures.value

pub returns-clause-small : goal.returns-clause-small
unfolding lane_codes
returns-clause-small c =
    subst (λ (code : ℕ). code < 4)
    (sym (by_kind c.pattern_of-pattern.result c.args.state c.pattern_of-pattern.ensures.value))
    (code_small c.args.state (omega arith))
