use Rattle.symbol_path.proofs.Common.{◌≡◌, ◌<◌, ◌/◌, ℕ, arith, ints, pos, get_or, length, sym, ap, ◌∙◌, repeated_as, sent_count}
use Rattle.std.proofs.lemmas.Grind.{common_steps}
use Rattle.symbol_path.proofs.Interleaving.{read_symbol_lt, read_repeats_some}
use Rattle.symbol_path.proofs.Gathering.{part-none, part, turn, turn_sizes, sizes_none, sum_has_room, added_fits, gathered_all}
use Rattle.symbol_path.proofs.placing.gather_sent.Goals as goal

pub loop-i-init : goal.loop-i-init
loop-i-init c = record {
  sums = λ k. c.requires.zeros k ∙
      sym (part-none (λ i. get_or c.args.softs.now i (pos 0))
      (λ i. repeated_as c.args.symbols i / c.args.repeats) k);
  sizes = omega (arith, sizes_none c.args.out.now c.requires.zeros);
}

pub nonzero_div-symbol : goal.nonzero_div-symbol
nonzero_div-symbol c =
    let some = read_repeats_some (length c.args.out.now) c.args.repeats c.from.result _ _ c.from.ensures
    c.requires.code c.repeated.ensures.below in
    omega (arith, some)

pub overflow_add-out : goal.overflow_add-out
overflow_add-out c =
    let at = c.repeated.result / c.from.result in
    let within = read_symbol_lt c.repeated.result _ (length c.loop-i.out) c.from.result _ _ c.from.ensures c.loop-i.auto.out
    c.requires.code c.repeated.ensures.below in
    let inside : c.loop-i.i < length c.args.softs.now =
    omega (arith, c.requires.sent, c.count-i-end.ensures, c.loop-i-test.true) in
    added_fits (get_or c.loop-i.out at (pos 0)) (get_or c.args.softs.now c.loop-i.i (pos 0))
    (sum_has_room c.loop-i.out c.args.softs.now at c.loop-i.i within inside c.loop-i.invariant.sizes
    c.requires.bounded)

pub loop-i-preserved : goal.loop-i-preserved
loop-i-preserved c =
    let at = c.repeated.result / c.from.result in
    let within = read_symbol_lt c.repeated.result _ (length c.loop-i.out) c.from.result _ _ c.from.ensures c.loop-i.auto.out
    c.requires.code c.repeated.ensures.below in
    let inside : c.loop-i.i < length c.args.softs.now =
    omega (arith, c.requires.sent, c.count-i-end.ensures, c.loop-i-test.true) in
    let here : at ≡ repeated_as c.args.symbols c.loop-i.i / c.args.repeats =
    rw (c.repeated.ensures.value, c.from.ensures) in
    record {
      sums = turn (λ i. repeated_as c.args.symbols i / c.args.repeats) c.loop-i.i at
          c.loop-i.out c.args.softs.now here within inside c.requires.bounded
          c.loop-i.invariant.sizes c.loop-i.invariant.sums;
      sizes = turn_sizes c.loop-i.i at c.loop-i.out c.args.softs.now within inside
          c.requires.bounded c.loop-i.invariant.sizes;
    }

pub returns-clause-value : goal.returns-clause-value
returns-clause-value c =
    let ended : c.loop-i.i ≡ sent_count c.args.symbols = omega (arith, c.count-i-end.ensures) in
    gathered_all (λ i. repeated_as c.args.symbols i / c.args.repeats) (sent_count c.args.symbols)
    (length c.args.out.now) c.loop-i.out c.args.softs.now c.loop-i.auto.out
    (λ k. c.loop-i.invariant.sums k ∙
    ap (λ (n : ℕ). part (λ i. get_or c.args.softs.now i (pos 0))
    (λ i. repeated_as c.args.symbols i / c.args.repeats) n k) ended)

pub slice_copy_out-out : goal.slice_copy_out-out
slice_copy_out-out c = grind (ints, arith, common_steps)

pub bounds-out-symbol : goal.bounds-out-symbol
bounds-out-symbol c = grind (ints, arith, common_steps)

pub returns-clause-bounded : goal.returns-clause-bounded
returns-clause-bounded c = grind (ints, arith, common_steps)
