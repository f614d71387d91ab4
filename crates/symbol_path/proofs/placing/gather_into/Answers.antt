use Rattle.symbol_path.proofs.Common.{◌≡◌, ◌*◌, ℕ, length, sym, ap, ◌∙◌, shape_of, size, code_symbol, gathered_by}
use Rattle.symbol_path.proofs.Interleaving.{size_some, count_is}
use Rattle.symbol_path.proofs.placing.gather_into.Goals as goal

-- Each code symbol gets the sum of the soft values that were sent for it: there are as many sums as
-- code symbols, since their number times the repeats is that of the frame's symbols.
pub returns-clause-value : goal.returns-clause-value
returns-clause-value c =
    let s = shape_of c.args.kind in
    let cleared = length c.clear.new.values in
    let code : cleared * c.args.repeats ≡ size s =
    ap (λ (n : ℕ). n * c.args.repeats) c.clear.auto.values ∙ c.requires.code in
    c.gather_sent.ensures.value
    ∙ ap (λ (n : ℕ). gathered_by (code_symbol s c.args.repeats) (size s) n c.args.softs.now)
    (sym (count_is cleared c.args.repeats (size s) code (size_some c.args.kind)))
