use Rattle.symbol_path.proofs.Common.{◌≡◌, ◌<◌, ◌+◌, ◌*◌, ℕ, arith, sym, ap, ◌∙◌, refl, subst, List, All-from_get_or, after, before}
use Rattle.symbol_path.proofs.Common.{group_scrambling, power_start, power_place}
use Rattle.symbol_path.proofs.SymbolChips.{before_later, group_first, group_next, power_place_is}
use Rattle.symbol_path.proofs.PowerPlaces.{ArePairs, pairs_more, pairs_all, pairs_rise, pairs_below, pairs_in_groups, pairs_neighbours}
use Rattle.symbol_path.proofs.PowerPlaces.{power_place_in_groups}
use Rattle.symbol_path.proofs.scramble.power_places.Goals as goal

pub loop-group-init : goal.loop-group-init
loop-group-init c = record {
  group = c.jump.ensures.later ∙ sym (before_later c.args.state.now 1536 (omega arith)) ∙
      group_first c.args.state.now;
  pairs = record {
    long = refl;
    first = λ g lt. absurd (omega (arith, lt));
    second = λ g lt. absurd (omega (arith, lt));
  };
}

-- One power control group more has its two places: its start is told by the scrambling of the group
-- before it, as the definition has it, and the state is then the one that is 1,536 chips later.
pub loop-group-preserved : goal.loop-group-preserved
loop-group-preserved c =
    let g = c.loop-group.group in
    let state = c.args.state.now in
    let mask = c.args.mask in
    let start : c.from-start.result ≡
    power_start (group_scrambling (after (before state 1536) (1536 * g)) mask) =
    c.from-start.ensures ∙ c.power_start.ensures.value ∙ ap power_start c.group_bits.ensures.bits
    ∙ ap (λ (s : ℕ). power_start (group_scrambling s mask)) c.loop-group.invariant.group in
    record {
      group = c.group_bits.ensures.later ∙
          ap (λ (s : ℕ). after s 1536) c.loop-group.invariant.group ∙ group_next state g;
      pairs = pairs_more (power_place state mask) c.loop-group.places g c.from.result
          c.from-in-loop-group.result (24 * g + c.from-start.result)
          c.from.ensures c.from-in-loop-group.ensures c.loop-group-test.true
          (ap (λ (k : ℕ). 24 * g + k) start ∙ sym (power_place_is state mask g))
          c.loop-group.invariant.pairs;
    }

-- the pairs of all groups
all_pairs : (f : ℕ → ℕ) (xs : List ℕ) (n : ℕ) → n ≡ 16 → ArePairs f xs n → ArePairs f xs 16
all_pairs f xs n e pairs = let P : ℕ → Type 0 = λ n. ArePairs f xs n in subst P e pairs

-- After all 16 groups the places are the definition's: each group has a pair of neighbours that
-- begins in the first 16 of its 24 symbols, so all 32 places rise and stay below 384.
pub returns : goal.returns
returns c =
    let place = power_place c.args.state.now c.args.mask in
    let xs = c.loop-group.places in
    let groups = power_place_in_groups c.args.state.now c.args.mask in
    let pairs = all_pairs place xs c.loop-group.group (omega arith) c.loop-group.invariant.pairs in
    record {
      value = pairs_all c.args.state.now c.args.mask xs pairs;
      groups = pairs_in_groups place xs groups pairs;
      pairs = pairs_neighbours place xs pairs;
      rising = pairs_rise place xs groups pairs;
      below = All-from_get_or (λ k. k < 384) xs 0 (pairs_below place xs groups pairs);
    }
