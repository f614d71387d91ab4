use Rattle.conv_code.proofs.Common.{ints, ◌≡◌, ◌+◌, ◌++◌, [], ◌∷◌, take, length, length-append, sym, ap, ◌∙◌, arith, binary, code_symbols}
use Rattle.conv_code.proofs.Common.{state_after, taken_more}
use Rattle.std.proofs.lemmas.Grind.{common_steps}
use Rattle.conv_code.proofs.Continued.{code_symbols-none, state_after-none}
use Rattle.conv_code.proofs.Loops.{symbols_more, state_more, two_appended}
use Rattle.conv_code.proofs.encoding.encode_into.Goals as goal

pub loop-i-init : goal.loop-i-init
loop-i-init c = record {
  given = c.empty.ensures ∙ sym (code_symbols-none (binary 8 c.args.start));
  long = rw c.empty.ensures;
  state = ap (binary 8) c.new-register.ensures ∙ sym (state_after-none (binary 8 c.args.start));
}

-- One bit more is encoded: the register holds the eight bits before it, so the two symbols that it
-- gives are the definition's next two, and it then holds the eight bits up to this one.
pub loop-i-preserved : goal.loop-i-preserved
loop-i-preserved c =
    let inv = c.loop-i.invariant in
    let start = c.args.start in
    let register = c.loop-i.register in
    let xs = take c.loop-i.i c.args.bits.now in
    let bit = c.get.result in
    let first = c.push-first.result.0 in
    let second = c.push-first.result.1 in
    let read : take (c.loop-i.i + 1) c.args.bits.now ≡ xs ++ bit ∷ [] =
    taken_more c.args.bits.now c.loop-i.i bit c.get.ensures in
    let both : c.append-in-loop-i.new.self ≡ c.loop-i.out ++ first ∷ second ∷ [] =
    two_appended c.loop-i.out c.append.new.self c.append-in-loop-i.new.self first second
    c.append.ensures c.append-in-loop-i.ensures in
    record {
      given = both
          ∙ symbols_more start register xs c.loop-i.out bit first second inv.given inv.state
          c.push-first.ensures.first c.push-first.ensures.second
          ∙ ap (code_symbols (binary 8 start)) (sym read);
      long = ap length both ∙ length-append c.loop-i.out (first ∷ second ∷ []) ∙
          omega (arith, inv.long);
      state = state_more start register c.push-first.new.self xs bit inv.state
          c.push-first.ensures.last
          ∙ ap (state_after (binary 8 start)) (sym read);
    }

pub append-requires-in-loop-i : goal.append-requires-in-loop-i
append-requires-in-loop-i c = grind (ints, arith, common_steps)

pub returns-clause-symbols : goal.returns-clause-symbols
returns-clause-symbols c = grind (ints, arith, common_steps)

pub returns-clause-last : goal.returns-clause-last
returns-clause-last c = grind (ints, arith, common_steps)
