use Rattle.std.proofs.Common.{◌≡◌, ◌+◌, Bool, List, [], ◌∷◌, ◌++◌, length, refl, ap, ◌∙◌, arith, ℤ, pos, rules}
use Rattle.std.proofs.lemmas.List.{length_push}
use Rattle.short_code.specs.ShortCode.{pilot_chip, chip_signs, chips_to, i_lags, q_lags, code_chip}
use Rattle.short_code.proofs.RegisterChips.{Holds-start, turn}
use Rattle.short_code.proofs.Signs.{table_more, table_whole}
use Rattle.short_code.proofs.table.Codes.new.Goals as goal

pub loop-n-init : goal.loop-n-init
unfolding chips_to
loop-n-init c =
    let items : c.push.new.self.items ≡ c.signs_of.result ∷ [] =
    c.in_ok-push.ensures.items ∙
    ap (λ (xs : List (ℤ × ℤ)). xs ++ c.signs_of.result ∷ []) c.in_ok-signs.ensures.items in
    record {
      long = ap length items;
      entries =
          rw items (table_more (λ n. chip_signs (pilot_chip n)) [] 0 c.signs_of.result
          (pos 1, pos 1) refl (λ k lt. absurd (omega (arith, lt))) c.signs_of.ensures);
      i = Holds-start;
      q = Holds-start;
    }

-- One chip more is in the table: the parity of each register's taps is the next chip of its code by
-- the code's recurrence, and once that is shifted in, the register stands for the chip after it.
pub loop-n-preserved : goal.loop-n-preserved
loop-n-preserved c =
    let n = c.loop-n._n in
    let inv = c.loop-n.invariant in
    let items = c.in_ok-push-2.ensures.items in
    let signs = c.signs_of-in-loop-n.result in
    let i = turn i_lags (14 ∷ 9 ∷ 7 ∷ 6 ∷ 5 ∷ 1 ∷ []) n c.loop-n.i_register
    c.shifted-i_register.result c.parity_at-i.result inv.i c.loop-n-test.true (search rules)
    refl c.parity_at-i.ensures c.shifted-i_register.ensures in
    let q = turn q_lags (14 ∷ 11 ∷ 10 ∷ 9 ∷ 8 ∷ 4 ∷ 3 ∷ 2 ∷ []) n c.loop-n.q_register
    c.shifted-q_register.result c.parity_at-q.result inv.q c.loop-n-test.true (search rules)
    refl c.parity_at-q.ensures c.shifted-q_register.ensures in
    let here : signs ≡ chip_signs (pilot_chip (n + 1)) =
    c.signs_of-in-loop-n.ensures ∙ ap (λ (x : Bool). chip_signs (x, c.parity_at-q.result)) i.0 ∙
    ap (λ (y : Bool). chip_signs (code_chip i_lags (n + 1), y)) q.0 in
    record {
      long = rw items (length_push c.loop-n.signs.items signs ∙ ap (λ m. m + 1) inv.long);
      entries =
          rw items (table_more (λ n. chip_signs (pilot_chip n)) c.loop-n.signs.items (n + 1) signs
          (pos 1, pos 1) inv.long inv.entries here);
      i = i.1;
      q = q.1;
    }

pub invariant_of-result : goal.invariant_of-result
invariant_of-result c =
    c.in_ok-push-3.ensures.items
    ∙ table_whole c.loop-n.signs.items c.loop-n._n c.signs_of-2.result (omega arith)
    c.loop-n.invariant.long c.loop-n.invariant.entries c.signs_of-2.ensures

pub returns : goal.returns
returns c =
    c.in_ok-push-3.ensures.items
    ∙ table_whole c.loop-n.signs.items c.loop-n._n c.signs_of-2.result (omega arith)
    c.loop-n.invariant.long c.loop-n.invariant.entries c.signs_of-2.ensures
