use Rattle.viterbi.proofs.Common.{◌+◌, ◌*◌, ℕ, get_or, ap, ◌∙◌, arith, rules, to_z, w64, pos, SFits}
use Rattle.viterbi.proofs.Parted.{two_chunks, lane_read, evens, odds}
use Rattle.viterbi.proofs.lanes.parted.Goals as goal

pub returns-clause-even : goal.returns-clause-even
returns-clause-even c = record {
  long = search rules;
  each = λ l b.
      let column = c.args.column.now in
      let at = c.args.at in
      let fits : SFits w64 (get_or column (at + 2 * l) (pos 0)) =
      c.requires.fit _ (omega (arith, b, c.requires.room)) in
      evens (λ (j : ℕ). to_z w64 (get_or (two_chunks 8 column at) j 0)) l b
      ∙ lane_read 8 column at (2 * l) (omega (arith, c.requires.room)) (omega (arith, b)) fits;
}

pub returns-clause-odd : goal.returns-clause-odd
returns-clause-odd c = record {
  long = search rules;
  each = λ l b.
      let column = c.args.column.now in
      let at = c.args.at in
      let fits : SFits w64 (get_or column (at + (2 * l + 1)) (pos 0)) =
      c.requires.fit _ (omega (arith, b, c.requires.room)) in
      odds (λ (j : ℕ). to_z w64 (get_or (two_chunks 8 column at) j 0)) l b
      ∙ lane_read 8 column at (2 * l + 1) (omega (arith, c.requires.room)) (omega (arith, b)) fits
      ∙ ap (λ (i : ℕ). get_or column i (pos 0)) (omega arith);
}
