use Rattle.frame_decoder.proofs.Common.{◌<◌, ℕ, List, ℤ, take, ap, ◌∙◌, arith, pos, sym, set, get_or, length, rules, take_more, unreplaced}
use Rattle.frame_decoder.proofs.Unreplaced.{none_replaced, one_replaced, one_small}
use Rattle.frame_decoder.proofs.replaced.without_power_bits.Goals as goal

pub loop-place-init : goal.loop-place-init
loop-place-init c = record { value = none_replaced c.args.softs.now; bound = omega arith }

-- One place more is set to 0: clearing it in the values that are 0 at all earlier places gives
-- those that are 0 at this one too, and makes no sum of sizes greater.
pub loop-place-preserved : goal.loop-place-preserved
loop-place-preserved c =
    let softs = c.args.softs.now in
    let places = c.args.places.now in
    let i = c.loop-place.place-index in
    let place = get_or places i 0 in
    let kept = c.loop-place.kept in
    let had = c.loop-place.invariant in
    let here = c.clear_at.ensures in
    let small = one_small kept place in
    let bound = had.bound in
    let within : i < length places = search rules in
    record {
      value = here
          ∙ ap (λ (xs : List ℤ). set xs place (pos 0)) had.value
          ∙ one_replaced (take i places) softs place
          ∙ ap (λ (ps : List ℕ). unreplaced ps softs) (sym (take_more places i 0 within));
      bound = rw here (omega (arith, small, bound));
    }
