use Rattle.cell_script.proofs.Common.{◌≡◌, ◌≤◌, length}
use Rattle.cell_script.proofs.UnsignedLines.{AreValuesRead}
use Rattle.cell_script.specs.ScriptFields.{AreOfForms}
use Rattle.cell_script.proofs.fields.unsigned_line.Given as goal

abbrev pub invariant-loop-k : goal.invariant-loop-k
invariant-loop-k l = record {
  read : AreValuesRead l.rows l.text l.k l.values l.fields;
  ranged : AreOfForms l.rows l.k l.values;
  long : length l.values ≡ 4;
  passed : l.k ≤ length l.rows;
}
