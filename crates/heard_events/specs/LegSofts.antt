-- The soft values of a frame from several active pilots.
use Rattle.heard_events.specs.Common.{Sample, group_sums, Held, IsInRing, softs, Data, Leg}
use Rattle.std.specs.Prelude.{◌≡◌, ℕ, ◌≤◌, true, List, length, take, ℤ}
use Rattle.std.specs.List.{All}
use Rattle.pilot_search.specs.declared.paths.Near.{Near}
use Rattle.heard_events.specs.Close.{legs_close, legs_rows, places_in}
use Rattle.heard_events.specs.Legs.{all_fingers, on_subchannel}

-- the power control sums on subchannel c of the frame that begins at reference sample `start`
abbrev pub sums_on : List Sample → ℕ → List ℤ → List Leg → ℕ → List ℕ → ℕ → List ℤ
sums_on heard phase deltas legs start replaced c =
    group_sums replaced
    (softs heard (all_fingers phase deltas (on_subchannel c legs)) Data start)

-- there are one to six pilots, and the ring holds their fingers' samples of the frame
pub record IsHeldFrom (ring : Held) (legs : List Leg) (phase : ℕ) (near : Near) (start : ℕ)
    : Type 0 where
  pub some : 1 ≤ length legs
  pub few : places_in legs ≤ 8
  pub least : 1 ≤ near.count
  pub most : near.count ≤ 3
  pub close : legs_close legs ≡ true
  pub rows : legs_rows legs ≡ true
  pub held : All (IsInRing ring Data start) (all_fingers phase (take near.count near.deltas) legs)
