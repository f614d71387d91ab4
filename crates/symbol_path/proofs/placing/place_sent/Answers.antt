use Rattle.symbol_path.proofs.Common.{◌≡◌, ◌+◌, ◌/◌, ℕ, Bool, arith, get_or, false, map, length, refl, sym, ap, ◌∙◌, get_or_from_slice_get}
use Rattle.symbol_path.proofs.Common.{places, places-none, map-places-more, length-map-places, repeated_as, sent_count, sent_by}
use Rattle.symbol_path.proofs.Interleaving.{read_symbol_lt, read_repeats_some, sent_most}
use Rattle.symbol_path.proofs.placing.place_sent.Goals as goal

pub loop-i-init : goal.loop-i-init
loop-i-init c = record { value = rw places-none c.empty.ensures; count = ap length c.empty.ensures }

pub nonzero_div-repeated : goal.nonzero_div-repeated
nonzero_div-repeated c =
    let some = read_repeats_some (length c.args.code.now) c.args.repeats c.from.result _ _ c.from.ensures
    c.requires c.repeated.ensures.below in
    omega (arith, some)

pub get-requires : goal.get-requires
get-requires c =
    read_symbol_lt c.repeated.result _ _ c.from.result _ _ c.from.ensures refl c.requires
    c.repeated.ensures.below

pub append-requires : goal.append-requires
append-requires c =
    omega (arith, c.loop-i.invariant.count, sent_most c.args.symbols, c.count-i-end.ensures, c.loop-i-test.true)

-- One symbol more is written: the one sent at place i is a repetition, and the number of that
-- repetition over the repeats is the code symbol that was read.
pub loop-i-preserved : goal.loop-i-preserved
loop-i-preserved c =
    let symbol : ℕ → Bool = λ i. get_or c.args.code.now (repeated_as c.args.symbols i / c.args.repeats) false in
    let here : c.repeated.result / c.from.result ≡ repeated_as c.args.symbols c.loop-i.i / c.args.repeats =
    rw (c.repeated.ensures.value, c.from.ensures) in
    let read : symbol c.loop-i.i ≡ c.get.result =
    rw (sym here)
    (get_or_from_slice_get c.args.code.now (c.repeated.result / c.from.result) c.get.result false
    c.get.ensures) in
    let all : c.append.new.self ≡ map symbol (places (c.loop-i.i + 1)) =
    c.append.ensures
    ∙ rw (c.loop-i.invariant.value, ← read) (sym (map-places-more symbol c.loop-i.i)) in
    record { value = all; count = ap length all ∙ length-map-places symbol (c.loop-i.i + 1) }

pub returns-clause-value : goal.returns-clause-value
unfolding sent_by
returns-clause-value c =
    let symbol : ℕ → Bool = λ i. get_or c.args.code.now (repeated_as c.args.symbols i / c.args.repeats) false in
    let ended : c.loop-i.i ≡ sent_count c.args.symbols = omega (arith, c.count-i-end.ensures) in
    c.loop-i.invariant.value ∙ ap (λ (n : ℕ). map symbol (places n)) ended
