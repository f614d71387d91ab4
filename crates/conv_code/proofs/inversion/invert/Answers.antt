use Rattle.conv_code.proofs.Common.{◌≡◌, ◌∙◌, ap, sym, List, Bool, binary, code_symbols, length-binary}
use Rattle.conv_code.proofs.inversion.invert.Goals as goal

pub returns-in_err-bits-clause-none : goal.returns-in_err-bits-clause-none
returns-in_err-bits-clause-none c =
    rw c.from_residual.ensures
    (λ start bits gives.
    let same : binary 8 start ≡ binary 8 c.start_of-start.result =
    c.start_of-start.ensures (binary 8 start) bits (length-binary 8 start) gives in
    c.in_err-bits.ensures.none bits (ap (λ (s : List Bool). code_symbols s bits) (sym same) ∙
    gives))
