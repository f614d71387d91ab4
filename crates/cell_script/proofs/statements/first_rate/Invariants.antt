use Rattle.cell_script.proofs.Common.{◌≡◌, drop, rate_by}
use Rattle.cell_script.proofs.statements.first_rate.Given as goal

abbrev pub invariant-loop-rate : goal.invariant-loop-rate
invariant-loop-rate l = rate_by l.rates l.text ≡ rate_by (drop l.rate-index l.rates) l.text
