-- The order in which the symbols are sent is a permutation.
use Rattle.symbol_path.proofs.Common.{◌≡◌, ℕ, ◌<◌, ◌&&◌, Bool, true, refl, sym, ap, ◌∙◌, nat_eq, nat_lt, agree_below, agree_below_at, Kind}
use Rattle.symbol_path.proofs.Common.{and_parts, eqb-true, ltb-true, binary, Sync, Data, Shape, sync_shape, data_shape, shape_of, size}
use Rattle.symbol_path.proofs.Common.{address, place}

-- there and back, from a place and to it
abbrev is_back : Shape → ℕ → Bool
is_back s a =
    (nat_lt (place s a) (size s) && nat_eq (address s (place s a)) a) &&
    (nat_lt (address s a) (size s) && nat_eq (place s (address s a)) a)

sync_all : agree_below (is_back sync_shape) (λ a. true) 128 ≡ true
unfolding binary
sync_all = refl

data_all : agree_below (is_back data_shape) (λ a. true) 384 ≡ true
unfolding binary
data_all = refl

each : (kind : Kind) (a : ℕ) → a < size (shape_of kind) → is_back (shape_of kind) a ≡ true
each Sync a h = agree_below_at (is_back sync_shape) (λ a. true) 128 a sync_all h
each Data a h = agree_below_at (is_back data_shape) (λ a. true) 384 a data_all h

pub place_lt : (kind : Kind) (a : ℕ) → a < size (shape_of kind) → place (shape_of kind) a < size (shape_of kind)
place_lt kind a h = ltb-true _ _ (and_parts _ _ (and_parts _ _ (each kind a h)).0).0

pub address-place : (kind : Kind) (a : ℕ) → a < size (shape_of kind) →
    address (shape_of kind) (place (shape_of kind) a) ≡ a
address-place kind a h = eqb-true _ _ (and_parts _ _ (and_parts _ _ (each kind a h)).0).1

pub address_lt : (kind : Kind) (i : ℕ) → i < size (shape_of kind) → address (shape_of kind) i < size (shape_of kind)
address_lt kind i h = ltb-true _ _ (and_parts _ _ (and_parts _ _ (each kind i h)).1).0

pub place-address : (kind : Kind) (i : ℕ) → i < size (shape_of kind) →
    place (shape_of kind) (address (shape_of kind) i) ≡ i
place-address kind i h = eqb-true _ _ (and_parts _ _ (and_parts _ _ (each kind i h)).1).1

pub address-injective : (kind : Kind) (i j : ℕ) → i < size (shape_of kind) →
    j < size (shape_of kind) → address (shape_of kind) i ≡ address (shape_of kind) j → i ≡ j
address-injective kind i j p q e = sym (place-address kind i p) ∙ ap (place (shape_of kind)) e ∙ place-address kind j q
