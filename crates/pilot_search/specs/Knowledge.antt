-- A seat of the shared word as contracts see it: its word, and its worker's knowledge of the word.
use Rattle.std.specs.Prelude.{◌≡◌, ℕ, Bool, false}
use base.Stored.{Coded, coded_via, coded×, coded_ℕ, coded_bool}
use Rattle.atomic_table.specs.Seated.{TableId, table_id_coded}

pub record Knowledge : Type 0 where
  pub word : TableId
  pub spent : Bool
  pub fresh : Bool
  pub floor : ℕ
  pub ceiling : ℕ

abbrev pub knowledge_coded : Coded Knowledge
knowledge_coded =
    coded_via
    (coded× table_id_coded (coded× coded_bool (coded× coded_bool (coded× coded_ℕ coded_ℕ))))
    (λ (z : Knowledge). (z.word, (z.spent, (z.fresh, (z.floor, z.ceiling)))))
    (λ x y e i. record {
      word = (e i).0;
      spent = (e i).1.0;
      fresh = (e i).1.1.0;
      floor = (e i).1.1.1.0;
      ceiling = (e i).1.1.1.1;
    })

-- a seat of this word that isn't spent
abbrev pub IsHeld : Knowledge → TableId → Type 0
IsHeld seat word = (seat.word ≡ word) × (seat.spent ≡ false)
