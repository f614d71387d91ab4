use Rattle.viterbi.proofs.Common.{◌≡◌, ◌+◌, ◌-◌, ℕ, suc, length, arith, sym, ap, ◌∙◌, rules, state_before, path_origin}
use Rattle.viterbi.proofs.Tracing.{origin-back, path-back, origin_left, all_left, less_none, none_left}
use Rattle.viterbi.proofs.decisions.trace_back.Goals as goal

pub loop-back-init : goal.loop-back-init
loop-back-init c = record {
  long = c.requires;
  small = search rules;
  start = ap (λ (k : ℕ). path_origin c.args.columns.now k c.args.end) (less_none (length c.args.columns.now));
  whole = all_left c.args.columns.now (length c.args.columns.now) (length c.args.columns.now - 0) c.args.end
      c.args.bits.now (less_none (length c.args.columns.now)) (omega (arith, c.requires));
}

-- One step further back is one step of the definition's path: the column's choice tells the state
-- before, and the bit that is found there is put before those that were found.
pub loop-back-preserved : goal.loop-back-preserved
loop-back-preserved c =
    let columns = c.args.columns.now in
    let left = length columns - c.loop-back.back in
    let j = length columns - (c.loop-back.back + 1) in
    let same : length columns - 1 - c.loop-back.back ≡ j = omega arith in
    let size : left ≡ suc j = omega (arith, c.loop-back-test.true) in
    let before : c.state_before-state.result ≡ state_before columns j c.loop-back.state =
    rw same at c.state_before-state.ensures in
    record {
      long = search rules;
      small = c.state_before-state.type_inv;
      start = origin-back columns left j c.loop-back.state c.state_before-state.result size
          before ∙ c.loop-back.invariant.start;
      whole = rw same
          (path-back columns left j c.loop-back.state c.state_before-state.result
          c.loop-back.bits size (omega (arith, c.loop-back.invariant.long, c.loop-back-test.true))
          before
          ∙ c.loop-back.invariant.whole);
    }

pub returns-clause-start : goal.returns-clause-start
returns-clause-start c =
    origin_left c.args.columns.now (length c.args.columns.now - c.loop-back.back) c.loop-back.state (omega (arith, c.loop-back-test.false))
    ∙ c.loop-back.invariant.start

pub returns-clause-bits : goal.returns-clause-bits
returns-clause-bits c =
    sym (none_left c.args.columns.now (length c.args.columns.now - c.loop-back.back) c.loop-back.state
    c.loop-back.bits (omega (arith, c.loop-back-test.false)))
    ∙ c.loop-back.invariant.whole
