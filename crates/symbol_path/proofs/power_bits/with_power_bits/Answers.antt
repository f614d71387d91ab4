use Rattle.symbol_path.proofs.Common.{◌≡◌, ℕ, ◌+◌, ◌++◌, ◌∷◌, [], Bool, List, map, length, sym, ap, ◌∙◌, arith, places, places-none}
use Rattle.symbol_path.proofs.Common.{map-places-more, length-map-places, symbol_or_power_bit, with_power_bits}
use Rattle.symbol_path.proofs.power_bits.with_power_bits.Goals as goal

pub loop-i-init : goal.loop-i-init
loop-i-init c = record { value = rw places-none c.empty-out.ensures; count = ap length c.empty-out.ensures }

pub loop-i-preserved : goal.loop-i-preserved
loop-i-preserved c =
    let i = c.loop-i.i in
    let symbol = symbol_or_power_bit c.power_places-replaced.result c.args.power_bits.now
    c.args.symbols.now in
    let all : c.append.new.self ≡ map symbol (places (i + 1)) =
    c.append.ensures
    ∙ ap (λ (b : Bool). c.loop-i.out ++ b ∷ []) c.symbol_or_power_bit.ensures
    ∙ ap (λ (bits : List Bool). bits ++ symbol i ∷ []) c.loop-i.invariant.value
    ∙ sym (map-places-more symbol i) in
    record { value = all; count = ap length all ∙ length-map-places symbol (i + 1) }

pub returns-clause-value : goal.returns-clause-value
unfolding with_power_bits
returns-clause-value c =
    let symbol : List ℕ → ℕ → Bool =
    λ replaced. symbol_or_power_bit replaced c.args.power_bits.now c.args.symbols.now in
    let replaced = c.power_places-replaced in
    let ended : c.loop-i.i ≡ 384 = omega (arith, c.loop-i-test.false) in
    c.loop-i.invariant.value
    ∙ ap (λ (n : ℕ). map (symbol replaced.result) (places n)) ended
    ∙ ap (λ (xs : List ℕ). map (symbol xs) (places 384)) replaced.ensures.value
