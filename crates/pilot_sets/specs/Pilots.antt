-- Lists of pilots.
use Rattle.std.specs.Prelude.{ℕ, Bool, not, if◌then◌else◌, List, [], ◌∷◌, filter, nat_eq}
use Rattle.std.specs.List.{list_any}

-- whether a pilot is among others
abbrev pub has : List ℕ → ℕ → Bool
has others p = list_any (nat_eq p) others

abbrev pub lacks : List ℕ → ℕ → Bool
lacks others p = not (has others p)

-- the pilots that aren't among others
abbrev pub without : List ℕ → List ℕ → List ℕ
without others pilots = filter (lacks others) pilots

-- the pilots that aren't in `seen`, without their repeats
abbrev pub firsts : List ℕ → List ℕ → List ℕ
firsts seen [] = []
firsts seen (p ∷ pilots) = if has seen p then firsts seen pilots else p ∷ firsts (p ∷ seen) pilots
