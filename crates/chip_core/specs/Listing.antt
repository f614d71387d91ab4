-- The basis of the model of a list of numbers: the array can be rebuilt from its numbers.
use Rattle.std.proofs.Common.{◌≡◌, ℕ, List, length, take, sym, arith}
use Rattle.std.proofs.lemmas.List.{length-take}
use Rattle.chip_core.specs.Listed.{filled_list, IsListed}
use Rattle.chip_core.specs.declared.numbers.Numbers.TheInside.{Inside}

pub length-held : (places : List ℕ) (count : ℕ) → IsListed places count →
    length (take count places) ≡ count
length-held places count h = omega (arith, length-take count places, h.long, h.room)

pub listed-held : (a : Inside) → IsListed a.places a.count →
    record { places = filled_list (take a.count a.places); count = length (take a.count a.places) }
    ≡ a
listed-held a h =
    let places : filled_list (take a.count a.places) ≡ a.places = sym h.clear in
    rw (places, length-held a.places a.count h)
