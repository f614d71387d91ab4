use Rattle.line_text.proofs.Numerals.{one_numeral, one_signed_numeral}
use Rattle.script_laws.proofs.laws.numbers_have_one_spelling.Goals as goal

pub returns-clause-signed : goal.returns-clause-signed
returns-clause-signed c = one_signed_numeral

pub returns-clause-unsigned : goal.returns-clause-unsigned
returns-clause-unsigned c = one_numeral
