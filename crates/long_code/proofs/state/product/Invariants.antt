use Rattle.long_code.proofs.Common.{◌≡◌, ◌<◌, ◌/◌, ◌^◌, ℕ, after}
use Rattle.long_code.proofs.state.product.Given as goal

-- the product of the digits that were read
abbrev pub invariant-loop-place : goal.invariant-loop-place
invariant-loop-place l = record {
  below : l.sum < 2 ^ 42;
  product : (chips : ℕ) → l.power ≡ after 1 chips → l.sum ≡ after (l.value / 2 ^ l.place) chips;
}
