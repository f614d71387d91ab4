-- The basis of the model of a short list: the array can be rebuilt from its items.
use Rattle.std.proofs.Common.{◌≡◌, ◌<◌, ℕ, ◌+◌, ◌-◌, List, ◌++◌, take, drop, length, replicate, sym}
use Rattle.std.proofs.Common.{slice_set, ap, ◌∙◌, arith}
use Rattle.std.proofs.lemmas.List.{length-take, length-set, take-append-drop, drop-set-lt}
use Rattle.std.proofs.lemmas.List.{drop-drop, drop-replicate}
use Rattle.pilot_sets.specs.Filled.{filled, IsFilled}
use Rattle.pilot_sets.specs.declared.few.Few.TheInside.{Inside}

pub length-filled : {X : Type 0} (filler : X) (room : ℕ) (places : List X) (count : ℕ) →
    IsFilled filler room places count → length (take count places) ≡ count
length-filled filler room places count h = omega (arith, length-take count places, h.long, h.within)

pub places-held : {X : Type 0} (filler : X) (room : ℕ) (places : List X) (count : ℕ) →
    IsFilled filler room places count → filled filler room (take count places) ≡ places
places-held filler room places count h =
    ap (λ n. take count places ++ replicate (room - n) filler)
    (length-filled filler room places count h)
    ∙ ap (λ l. take count places ++ l) (sym h.clear)
    ∙ take-append-drop count places

pub filled-held : {X : Type 0} (filler : X) {room : ℕ} (f : Inside X room) →
    IsFilled filler room f.places f.count →
    record {
      places = filled filler room (take f.count f.places);
      count = length (take f.count f.places);
    } ≡ f
filled-held filler {room} f h =
    let places : filled filler room (take f.count f.places) ≡ f.places =
    places-held filler room f.places f.count h in
    rw (places, length-filled filler room f.places f.count h)

-- another thing in the first free place keeps the array filled
pub filled_more : {X : Type 0} (filler : X) (room : ℕ) (places : List X) (count : ℕ) (thing : X) →
    IsFilled filler room places count → count < room →
    IsFilled filler room (slice_set places count thing) (count + 1)
filled_more filler room places count thing h more = record {
  within = omega (arith, more);
  long = length-set places count thing ∙ h.long;
  clear =
      drop-set-lt (count + 1) places count thing (omega arith)
      ∙ sym (drop-drop 1 count places)
      ∙ ap (drop 1) h.clear
      ∙ drop-replicate 1 (room - count) filler
      ∙ ap (λ n. replicate n filler) (omega arith);
}
