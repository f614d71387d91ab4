use Rattle.conv_code.proofs.Common.{ints, ◌≡◌, ◌*◌, ◌+◌, ◌<◌, ◌++◌, Bool, List, false, [], ◌∷◌, take, length, get_or, sym, ap, ◌∙◌, arith}
use Rattle.conv_code.proofs.Common.{length_push, take_more, get_or_from_slice_get, binary, g0, g1, symbol, code_symbols, state_after}
use Rattle.std.proofs.lemmas.Grind.{common_steps}
use Rattle.conv_code.proofs.Continued.{code_symbols-none, state_after-none}
use Rattle.conv_code.proofs.Pairs.{AreAt, take_pair}
use Rattle.conv_code.proofs.Loops.{symbols_more, state_more, codeword_at, both_same, not_both, within_codeword}
use Rattle.conv_code.proofs.inversion.bits_from.Goals as goal

pub loop-i-init : goal.loop-i-init
loop-i-init c = record {
  given = ap (code_symbols (binary 8 c.args.start)) c.empty-bits.ensures ∙
      code_symbols-none (binary 8 c.args.start);
  long = rw c.empty-bits.ensures;
  state = ap (binary 8) c.new-register.ensures ∙ sym (state_after-none (binary 8 c.args.start)) ∙
      ap (state_after (binary 8 c.args.start)) (sym c.empty-bits.ensures);
  only = λ codeword gives. c.empty-bits.ensures;
}

-- One bit more is recovered: it gives the two symbols at its place, and any codeword that gives all
-- symbols has this bit there, since of the two bits only one gives the first symbol in this state.
pub loop-i-preserved : goal.loop-i-preserved
loop-i-preserved c =
    let inv = c.loop-i.invariant in
    let start = c.args.start in
    let i = c.loop-i.i in
    let bits = c.loop-i.bits in
    let symbols = c.args.symbols.now in
    let register = c.loop-i.register in
    let bit = c.bit_for-bit.result in
    let one = c.push.result.0 in
    let two = c.push.result.1 in
    let first : get_or symbols (2 * i) false ≡ c.get-first.result =
    get_or_from_slice_get symbols (2 * i) c.get-first.result false c.get-first.ensures in
    let second : get_or symbols (2 * i + 1) false ≡ c.get-second.result =
    get_or_from_slice_get symbols (2 * i + 1) c.get-second.result false c.get-second.ensures in
    let same =
    both_same one two c.get-first.result c.get-second.result (sym c.if-ne.false ∙ c.ne.ensures)
    in
    let read : AreAt symbols i one two = record { even = first ∙ sym same.0; odd = second ∙ sym same.1 } in
    record {
      given = ap (code_symbols (binary 8 start)) c.append.ensures
          ∙ sym (symbols_more start register bits (take (2 * i) symbols) bit one two (sym inv.given)
          inv.state c.push.ensures.first c.push.ensures.second)
          ∙ sym (take_pair symbols i one two (omega (arith)) read);
      long = ap length c.append.ensures ∙ length_push bits bit ∙ ap (λ n. n + 1) inv.long;
      state = state_more start register c.push.new.self bits bit inv.state c.push.ensures.last
          ∙ ap (state_after (binary 8 start)) (sym c.append.ensures);
      only = λ codeword gives.
          let within : i < length codeword = within_codeword start i symbols codeword gives (omega arith) in
          let here =
          codeword_at start register i bits symbols codeword gives within inv.state (inv.only codeword gives) in
          let next : get_or codeword i false ≡ bit =
          c.bit_for-bit.ensures (get_or codeword i false) (sym here.even ∙ first) in
          c.append.ensures
          ∙ ap (λ (r : List Bool). r ++ bit ∷ []) (inv.only codeword gives)
          ∙ ap (λ (b : Bool). take i codeword ++ b ∷ []) (sym next)
          ∙ sym (take_more codeword i false within);
    }

-- Where the bit's symbols aren't those at its place no codeword gives them all: in this state its
-- next bit would have to be the one that gives the first symbol, and that one gives another second
-- symbol.
pub returns-then-ne-clause-none : goal.returns-then-ne-clause-none
returns-then-ne-clause-none c codeword gives =
    let inv = c.loop-i.invariant in
    let start = c.args.start in
    let i = c.loop-i.i in
    let symbols = c.args.symbols.now in
    let register = c.loop-i.register in
    let bit = c.bit_for-bit.result in
    let first : get_or symbols (2 * i) false ≡ c.get-first.result =
    get_or_from_slice_get symbols (2 * i) c.get-first.result false c.get-first.ensures in
    let second : get_or symbols (2 * i + 1) false ≡ c.get-second.result =
    get_or_from_slice_get symbols (2 * i + 1) c.get-second.result false c.get-second.ensures in
    let within : i < length codeword = within_codeword start i symbols codeword gives (omega arith) in
    let here =
    codeword_at start register i c.loop-i.bits symbols codeword gives within inv.state (inv.only codeword gives) in
    let next : get_or codeword i false ≡ bit =
    c.bit_for-bit.ensures (get_or codeword i false) (sym here.even ∙ first) in
    not_both c.push.result.0 c.push.result.1 c.get-first.result c.get-second.result (sym c.if-ne.true ∙ c.ne.ensures)
    (c.push.ensures.first ∙
    ap (λ (b : Bool). symbol g0 (binary 8 register ++ b ∷ []) 0) (sym next) ∙ sym here.even ∙
    first)
    (c.push.ensures.second ∙
    ap (λ (b : Bool). symbol g1 (binary 8 register ++ b ∷ []) 0) (sym next) ∙ sym here.odd ∙
    second)

pub returns-clause-found : goal.returns-clause-found
returns-clause-found c = grind (ints, arith, common_steps)
