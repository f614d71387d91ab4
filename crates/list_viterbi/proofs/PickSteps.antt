-- What the program's steps make, in the codewords of the picks.
use Rattle.list_viterbi.proofs.Common.{◌≡◌, ℕ, ◌+◌, ◌*◌, ◌%◌, ◌^◌, ◌<◌, ◌≤◌, List, [], length, get_or, ap, set, subst, sym, ◌∙◌, arith, ℤ}
use Rattle.list_viterbi.proofs.Common.{pos, ◌-ℤ◌, unsigned_abs, ⊎_elim, All, ints, cases_eq, get_or_read, get_or-set_same, get_or-set_other}
use Rattle.list_viterbi.proofs.Common.{merge, pick_score, picks_from, picks_by, picks_into, HasPicks, LeavesScoreRoom}

-- a list of the column
pub item_at : (column : List (List ℤ)) (t oldest place : ℕ) (item : List ℤ) →
    place ≡ 2 * (t % 128) + oldest → place < length column → item ≡ get_or column place item →
    item ≡ get_or column (2 * (t % 128) + oldest) []
item_at column t oldest place item is within read =
    get_or_read column place item within read [] ∙ ap (λ (i : ℕ). get_or column i []) is

-- there is room in a list of the column
pub item_room : (column : List (List ℤ)) (gain : ℤ) (place : ℕ) (item : List ℤ) → length column ≡ 256 → place < 256 →
    ((t : ℕ) → t < 256 → All (LeavesScoreRoom gain) (get_or column t [])) →
    item ≡ get_or column place item → All (LeavesScoreRoom gain) item
item_room column gain place item whole below room read =
    subst (All (LeavesScoreRoom gain))
    (sym (get_or_read column place item (omega (arith, whole, below)) read [])) (room place below)

pub turned_room : (gain turned : ℤ) (ss : List ℤ) → turned ≡ pos 0 -ℤ gain →
    All (LeavesScoreRoom gain) ss → All (LeavesScoreRoom turned) ss
turned_room gain turned ss is room = λ i d b.
    let here = room i d b in
    let same : unsigned_abs turned ≡ unsigned_abs gain = omega (arith, ints, is) in
    omega (arith, here, same)

pub by_made : (column : List (List ℤ)) (gain turned : ℤ) (k t place : ℕ) (even odd : List ℤ)
    (scores : List ℤ) (choices : ℕ) → place ≡ 2 * (t % 128) → place + 1 < length column →
    even ≡ get_or column place even → odd ≡ get_or column (place + 1) odd → turned ≡ pos 0 -ℤ gain →
    HasPicks scores choices (merge pick_score k (picks_from 0 gain 0 even) (picks_from 1 turned 0 odd)) →
    HasPicks scores choices (picks_by column gain k t)
unfolding picks_by
by_made column gain turned k t place even odd scores choices is within read read' turned_is h =
    let even_is = item_at column t 0 place even (omega (arith, is)) (omega (arith, within)) read in
    let odd_is = item_at column t 1 (place + 1) odd (omega (arith, is)) within read' in
    subst (HasPicks scores choices)
    (ap (λ (ss : List ℤ). merge pick_score k (picks_from 0 gain 0 ss) (picks_from 1 turned 0 odd))
    even_is
    ∙ ap (λ (ss : List ℤ). merge pick_score k
    (picks_from 0 gain 0 (get_or column (2 * (t % 128) + 0) [])) (picks_from 1 turned 0 ss)) odd_is
    ∙ ap (λ (g : ℤ). merge pick_score k (picks_from 0 gain 0 (get_or column (2 * (t % 128) + 0) []))
    (picks_from 1 g 0 (get_or column (2 * (t % 128) + 1) []))) turned_is)
    h

-- a gain within the two soft values leaves the room that they leave
pub gain_room : (f s gain : ℤ) (ss : List ℤ) → unsigned_abs gain ≤ unsigned_abs f + unsigned_abs s →
    All (λ x. unsigned_abs x + (unsigned_abs f + unsigned_abs s) ≤ 2 ^ 62) ss → All (LeavesScoreRoom gain) ss
gain_room f s gain ss size room = λ i d b. let here = room i d b in omega (arith, here, size)

-- one state more
pub each_more : (column next : List (List ℤ)) (choices : List ℕ) (f s : ℤ) (k state : ℕ)
    (scores : List ℤ) (chosen : ℕ) → state < length next → state < length choices →
    ((t : ℕ) → t < state →
    HasPicks (get_or next t []) (get_or choices t 0) (picks_into column f s k t)) →
    HasPicks scores chosen (picks_into column f s k state) → (t : ℕ) → t < state + 1 →
    HasPicks (get_or (set next state scores) t []) (get_or (set choices state chosen) t 0) (picks_into column f s k t)
each_more column next choices f s k state scores chosen within within' before here t b =
    ⊎_elim
    (λ same. subst
    (λ (u : ℕ). HasPicks (get_or (set next state scores) u []) (get_or (set choices state chosen) u 0)
    (picks_into column f s k u))
    (sym same)
    (rw (
      get_or-set_same next state scores [] within,
      get_or-set_same choices state chosen 0 within',
    ) here))
    (λ other. rw (
      get_or-set_other next state t scores [] other,
      get_or-set_other choices state t chosen 0 other,
    ) (before t (omega (arith, b, other))))
    (cases_eq t state)
