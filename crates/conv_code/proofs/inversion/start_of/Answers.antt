use Rattle.conv_code.proofs.Common.{◌≡◌, ◌∙◌, ◌<◌, ℕ, [], map, sym, ap, arith, false, get_or, binary, parity, length-binary}
use Rattle.conv_code.proofs.Solved.{solutions}
use Rattle.conv_code.proofs.Starts.{start_entry, eight_entries, eight_pushed}
use Rattle.conv_code.proofs.inversion.start_of.Goals as goal

pub returns : goal.returns
returns c start bits eight gives =
    let symbols = c.args.symbols.now in
    let pushed = eight_pushed (binary 8 c.new-register.result)
    (binary 8 c.push.new.self) (binary 8 c.push-2.new.self) (binary 8 c.push-3.new.self) (binary 8 c.push-4.new.self)
    (binary 8 c.push-5.new.self) (binary 8 c.push-6.new.self) (binary 8 c.push-7.new.self) (binary 8 c.push-8.new.self)
    c.sum_at.result c.sum_at-2.result c.sum_at-3.result c.sum_at-4.result c.sum_at-5.result
    c.sum_at-6.result c.sum_at-7.result c.sum_at-8.result (length-binary 8 c.new-register.result)
    c.push.ensures.last c.push-2.ensures.last c.push-3.ensures.last c.push-4.ensures.last
    c.push-5.ensures.last c.push-6.ensures.last c.push-7.ensures.last c.push-8.ensures.last in
    let entry : (i : ℕ) → i < 8 → get_or start i false
    ≡ parity (map (λ place. get_or symbols place false) (get_or solutions i [])) =
    λ i lt. start_entry start bits symbols i lt eight c.requires gives in
    eight_entries start eight ∙ rw (
      entry 0 (omega arith) ∙ sym c.sum_at.ensures,
      entry 1 (omega arith) ∙ sym c.sum_at-2.ensures,
      entry 2 (omega arith) ∙ sym c.sum_at-3.ensures,
      entry 3 (omega arith) ∙ sym c.sum_at-4.ensures,
      entry 4 (omega arith) ∙ sym c.sum_at-5.ensures,
      entry 5 (omega arith) ∙ sym c.sum_at-6.ensures,
      entry 6 (omega arith) ∙ sym c.sum_at-7.ensures,
      entry 7 (omega arith) ∙ sym c.sum_at-8.ensures,
    ) (sym pushed) ∙ ap (binary 8) (sym c.state.ensures)
