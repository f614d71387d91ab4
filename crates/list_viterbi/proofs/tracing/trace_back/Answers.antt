use Rattle.list_viterbi.proofs.Common.{◌≡◌, ◌+◌, ◌-◌, ◌*◌, ◌/◌, ◌%◌, ℕ, suc, length, arith, sym, ap, ◌∙◌, rules, back_of, list_state_before}
use Rattle.list_viterbi.proofs.Common.{place_before, list_origin, less_none}
use Rattle.list_viterbi.proofs.Tracings.{origin-back, path-back, origin_left, all_left, none_left}
use Rattle.list_viterbi.proofs.tracing.trace_back.Goals as goal

pub loop-back-init : goal.loop-back-init
loop-back-init c = record {
  long = c.requires;
  small = search rules;
  rank_small = search rules;
  start = ap (λ (k : ℕ). list_origin c.args.columns.now k c.args.end c.args.place)
      (less_none (length c.args.columns.now));
  whole = all_left c.args.columns.now (length c.args.columns.now) (length c.args.columns.now - 0) c.args.end
      c.args.place c.args.bits.now (less_none (length c.args.columns.now)) (omega (arith, c.requires));
}

-- One step further back is one step of the definition's path: the pointer of the column tells the
-- state before and the place in its list, and the bit that is found there is put before those that
-- were found.
pub loop-back-preserved : goal.loop-back-preserved
loop-back-preserved c =
    let columns = c.args.columns.now in
    let n = length columns in
    let back = c.loop-back.back in
    let state = c.loop-back.state in
    let rank = c.loop-back.rank in
    let j = n - (back + 1) in
    let same : n - 1 - back ≡ j = omega arith in
    let size : n - back ≡ suc j = omega (arith, c.loop-back-test.true) in
    let pointer : c.pointer_at-pointer.result ≡ back_of columns j state rank =
    rw same at c.pointer_at-pointer.ensures in
    let before : 2 * (state % 128) + c.pointer_at-pointer.result % 2
    ≡ list_state_before columns j state rank = ap (λ (b : ℕ). 2 * (state % 128) + b % 2) pointer in
    let place : c.pointer_at-pointer.result / 2 ≡ place_before columns j state rank = ap (λ (b : ℕ). b / 2) pointer in
    record {
      long = search rules;
      small = omega arith;
      rank_small = omega (arith, c.pointer_at-pointer.type_inv);
      start = origin-back columns (n - back) j state rank
          (2 * (state % 128) + c.pointer_at-pointer.result % 2) (c.pointer_at-pointer.result / 2)
          size before place
          ∙ c.loop-back.invariant.start;
      whole = rw same
          (path-back columns (n - back) j state rank
          (2 * (state % 128) + c.pointer_at-pointer.result % 2) (c.pointer_at-pointer.result / 2)
          c.loop-back.bits size (omega (arith, c.loop-back.invariant.long, c.loop-back-test.true))
          before place
          ∙ c.loop-back.invariant.whole);
    }

pub returns-clause-start : goal.returns-clause-start
returns-clause-start c =
    origin_left c.args.columns.now (length c.args.columns.now - c.loop-back.back) c.loop-back.state c.loop-back.rank
    (omega (arith, c.loop-back-test.false)) ∙ c.loop-back.invariant.start

pub returns-clause-bits : goal.returns-clause-bits
returns-clause-bits c =
    sym (none_left c.args.columns.now (length c.args.columns.now - c.loop-back.back) c.loop-back.state
    c.loop-back.rank c.loop-back.bits (omega (arith, c.loop-back-test.false)))
    ∙ c.loop-back.invariant.whole
