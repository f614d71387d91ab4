-- The frames of traffic channels.
use Rattle.cell_plan.proofs.Common.{◌≡◌, ℕ, zero, suc, ◌%◌, ◌<◌, ◌≤◌, Bool, List, [], ◌∷◌, length, take, drop, get_or, refl, sym, ap, ◌∙◌}
use Rattle.cell_plan.proofs.Common.{arith, flat_map, append-nil, Rate, frames_in_turn, map, Option, Some, None, option_and_then, option_map}
use Rattle.cell_plan.proofs.Common.{option_map_or, length-map, Rate2, FrameRate, SetOne, SetTwo, TrafficFrame, FrameAt, planned, in_set_one}
use Rattle.cell_plan.proofs.Common.{in_set_two, frame_of_set, all_of_set, frames_of_set, SetOneFrame, SetTwoFrame, set_one, set_two}
use Rattle.cell_plan.proofs.Common.{same_Some}

-- what is made of the one entry at a place
pub flat_map-one : {X Y : Type 0} (f : X → List Y) (xs : List X) (i : ℕ) (d : X) → i < length xs →
    flat_map f (take 1 (drop i xs)) ≡ f (get_or xs i d)
flat_map-one f [] i d within = absurd (omega (arith, within))
flat_map-one f (x ∷ xs) zero d within = append-nil (f x)
flat_map-one f (x ∷ xs) (suc i) d within = flat_map-one f xs i d (omega (arith, within))

-- what is made of each entry, where one is taken
map_taken : {X Y : Type 0} (f : X → Y) (xs : List X) (i : ℕ) → take 1 (drop i (map f xs)) ≡ map f (take 1 (drop i xs))
map_taken f [] zero = refl
map_taken f [] (suc i) = refl
map_taken f (x ∷ xs) zero = refl
map_taken f (x ∷ xs) (suc i) = map_taken f xs i

map_in_turn : {X Y : Type 0} (f : X → Y) (xs : List X) (k : ℕ) →
    frames_in_turn (map f xs) k ≡ map f (frames_in_turn xs k)
map_in_turn {X} {Y} f xs k =
    ap (λ (n : ℕ). take 1 (drop (k % n) (map f xs))) (length-map xs f)
    ∙ map_taken f xs (k % length xs)

-- what is made of the entry that stands at its place in a cycle
pub made_of : {F : Type 0} (made : F → List Bool) (frames : List F) (k : ℕ) (f d : F)
    (symbols : List Bool) → 1 ≤ length frames → f ≡ get_or frames (k % length frames) d →
    symbols ≡ made f → symbols ≡ flat_map made (frames_in_turn frames k)
made_of made frames k f d symbols some found is =
    let within : k % length frames < length frames = omega (arith, some) in
    is ∙ ap made found ∙ sym (flat_map-one made frames (k % length frames) d within)

-- ---- frames of one rate set

-- nothing is taken from nothing
none_taken : {X : Type 0} (n : ℕ) → ◌≡◌ {A = List X} (take 1 (drop n [])) []
none_taken zero = refl
none_taken (suc n) = refl

-- and so is no frame
none_in_turn : {F : Type 0} (k : ℕ) (f : F) →
    ◌≡◌ {A = List F} (frames_in_turn [] k) (f ∷ []) → ⊥
none_in_turn {F} k f is =
    let none : ◌≡◌ {A = List F} [] (f ∷ []) = sym (none_taken (k % 0)) ∙ is in absurd (cc none)

-- a rate of a set is that rate
one_is : (rate : FrameRate) (r : Rate) → in_set_one rate ≡ Some r → rate ≡ SetOne r
one_is (SetOne rate) r is = cc is
one_is (SetTwo rate) r is = absurd (cc is)

two_is : (rate : FrameRate) (r : Rate2) → in_set_two rate ≡ Some r → rate ≡ SetTwo r
two_is (SetOne rate) r is = absurd (cc is)
two_is (SetTwo rate) r is = cc is

module _ {R : Type 0} (in_set : FrameRate → Option R) (at : R → FrameRate)
    (is_at : (rate : FrameRate) (r : R) → in_set rate ≡ Some r → rate ≡ at r) where
  -- a frame of a set is that frame
  frame_is : (x : TrafficFrame) (f : FrameAt R) → frame_of_set in_set x ≡ Some f → x ≡ planned at f
  frame_is x f is = by_rate (in_set x.rate) refl is
    where
      by_rate : (found : Option R) → in_set x.rate ≡ found →
          option_map (λ (rate : R).
          record { rate = rate; information = x.information; power_bits = x.power_bits }) found
          ≡ Some f → x ≡ planned at f
      by_rate None told is = absurd (cc is)
      by_rate (Some r) told is =
          ap (λ (rate : FrameRate). record x { rate = rate }) (is_at x.rate r told)
          ∙ ap (planned at) (same_Some _ f is)

  more_are : (x : TrafficFrame) (frames : List TrafficFrame) (all : List (FrameAt R))
      (first : FrameAt R) (found : Option (List (FrameAt R))) → x ≡ planned at first →
      ((rest : List (FrameAt R)) → found ≡ Some rest → frames ≡ map (planned at) rest) →
      option_map (λ (rest : List (FrameAt R)). first ∷ rest) found ≡ Some all → x ∷ frames ≡ map (planned at) all
  more_are x frames all first None first_is rest_are is = absurd (cc is)
  more_are x frames all first (Some rest) first_is rest_are is =
      ap (λ (y : TrafficFrame). y ∷ frames) first_is
      ∙ ap (λ (ys : List TrafficFrame). planned at first ∷ ys) (rest_are rest refl)
      ∙ ap (map (planned at)) (same_Some (first ∷ rest) all is)

  all_are : (x : TrafficFrame) (frames : List TrafficFrame) (all : List (FrameAt R))
      (found : Option (FrameAt R)) → frame_of_set in_set x ≡ found →
      ((rest : List (FrameAt R)) → all_of_set in_set frames ≡ Some rest →
      frames ≡ map (planned at) rest) →
      option_and_then (λ (first : FrameAt R).
      option_map (λ (rest : List (FrameAt R)). first ∷ rest) (all_of_set in_set frames)) found
      ≡ Some all → x ∷ frames ≡ map (planned at) all
  all_are x frames all None told rest_are is = absurd (cc is)
  all_are x frames all (Some first) told rest_are is =
      more_are x frames all first (all_of_set in_set frames) (frame_is x first told) rest_are is

  -- frames of a set are those frames
  frames_are : (frames : List TrafficFrame) (all : List (FrameAt R)) →
      all_of_set in_set frames ≡ Some all → frames ≡ map (planned at) all
  frames_are [] all is = ap (map (planned at)) (same_Some [] all is)
  frames_are (x ∷ frames) all is =
      all_are x frames all (frame_of_set in_set x) refl (λ rest told. frames_are frames rest told) is

  -- the one that is in turn is that of the channel
  in_turn : (frames : List TrafficFrame) (k : ℕ) (f : FrameAt R) →
      frames_in_turn (frames_of_set in_set frames) k ≡ f ∷ [] → frames_in_turn frames k ≡ planned at f ∷ []
  in_turn frames k f is = by_all (all_of_set in_set frames) refl is
    where
      by_all : (found : Option (List (FrameAt R))) → all_of_set in_set frames ≡ found →
          frames_in_turn (option_map_or (λ (all : List (FrameAt R)). all) found []) k ≡ f ∷ [] →
          frames_in_turn frames k ≡ planned at f ∷ []
      by_all None told is = absurd (none_in_turn k f is)
      by_all (Some all) told is =
          ap (λ (fs : List TrafficFrame). frames_in_turn fs k) (frames_are frames all told)
          ∙ map_in_turn (planned at) all k
          ∙ ap (map (planned at)) is

pub one_in_turn : (frames : List TrafficFrame) (k : ℕ) (f : SetOneFrame) →
    frames_in_turn (set_one frames) k ≡ f ∷ [] → frames_in_turn frames k ≡ planned SetOne f ∷ []
one_in_turn = in_turn in_set_one SetOne one_is

pub two_in_turn : (frames : List TrafficFrame) (k : ℕ) (f : SetTwoFrame) →
    frames_in_turn (set_two frames) k ≡ f ∷ [] → frames_in_turn frames k ≡ planned SetTwo f ∷ []
two_in_turn = in_turn in_set_two SetTwo two_is
