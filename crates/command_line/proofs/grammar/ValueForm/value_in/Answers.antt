use Rattle.command_line.proofs.Common.{◌∙◌, ℕ, Bool, if◌then◌else◌, Option, None, Some, ap, sym, option_and_then, form_admits, value_in}
use Rattle.command_line.proofs.grammar.ValueForm.value_in.Goals as goal

pub returns-in_err-number-clause-value : goal.returns-in_err-number-clause-value
unfolding value_in
returns-in_err-number-clause-value c =
    let form = c.args.self in
    c.from_residual.ensures
    ∙ ap (λ (o : Option ℕ). option_and_then (λ n. if form_admits form n then Some n else None) o)
    c.in_err-number.ensures

pub returns-then-admits-clause-value : goal.returns-then-admits-clause-value
unfolding value_in
returns-then-admits-clause-value c =
    let form = c.args.self in
    let number = c.in_ok-number.number in
    ap (λ (b : Bool). if b then Some number else None) (sym c.if-admits.true ∙ c.admits.ensures)
    ∙ ap (λ (o : Option ℕ). option_and_then (λ n. if form_admits form n then Some n else None) o)
    c.in_ok-number.ensures

pub returns-else-admits-clause-value : goal.returns-else-admits-clause-value
unfolding value_in
returns-else-admits-clause-value c =
    let form = c.args.self in
    let number = c.in_ok-number.number in
    ap (λ (b : Bool). if b then Some number else None) (sym c.if-admits.false ∙ c.admits.ensures)
    ∙ ap (λ (o : Option ℕ). option_and_then (λ n. if form_admits form n then Some n else None) o)
    c.in_ok-number.ensures
