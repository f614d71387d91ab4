use Rattle.list_viterbi.proofs.Common.{common_steps, ◌++◌, ◌∷◌, [], ap, ◌∙◌, arith, Entry, entry_at, ints}
use Rattle.list_viterbi.proofs.Walks.{map_more}
use Rattle.list_viterbi.proofs.tracing.all_traced.Goals as goal

pub loop-i-preserved : goal.loop-i-preserved
loop-i-preserved c =
    c.push.ensures
    ∙ ap (λ (e : Entry). c.loop-i.codewords ++ e ∷ []) c.traced.ensures
    ∙ map_more (entry_at c.args.columns.now) c.args.finds.now c.loop-i.codewords c.loop-i.i
    c.get.result.now (omega (arith, c.loop-i-test.true)) c.get.ensures.value c.loop-i.invariant

pub push-requires : goal.push-requires
push-requires c = grind (ints, arith, common_steps)
