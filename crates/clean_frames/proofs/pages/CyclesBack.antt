-- What is heard of a cycle of pages that goes round, from any frame on.
use Rattle.clean_frames.proofs.Common.{◌≡◌, ℕ, suc, ◌+◌, ◌-◌, ◌*◌, ◌/◌, ◌<◌, ◌≤◌, Bool, false, List, [], ◌∷◌, ◌++◌, length, map, take, drop}
use Rattle.clean_frames.proofs.Common.{refl, sym, ap, ◌∙◌, subst, arith, inl, inr, length-append, flat_map, cases_Bool, map-map, places}
use Rattle.clean_frames.proofs.Common.{mul-le-mul_left, length-map-places, CheckForm, Piece, Rate, half_frame_body, cycled, laid_pages, ◌%◌}
use Rattle.clean_frames.proofs.Common.{page_cycle, AreSendable, AreHeard, Page, size_large, PageSendingsComeBack, capsules_with_frames}
use Rattle.clean_frames.proofs.Common.{cycle_half_frames, is_between, placed, sending_of, AreWholePages, Placed, flat_map-zero, repeated}
use Rattle.clean_frames.proofs.Common.{flat_map-repeated, repeated-part, filter, true, nat_le, nat_lt, ◌&&◌, and_left, and_right, cases_lt}
use Rattle.clean_frames.proofs.Common.{le-leb, le-ltb, lt-leb, lt-ltb, le-div, paging_frame_size, IsStatedPaging, PagingPlan, is_whole_page}
use Rattle.clean_frames.proofs.Common.{flat_map_ext_places, WholePagesComeBack, frame_capsules, flat_map-nothing, zero, append_assoc, scan}
use Rattle.clean_frames.proofs.Common.{map-append, filter-append, mul-add-div, flat_map-next, length-repeated, get_or, mod_below, take_at}
use Rattle.clean_frames.proofs.Common.{get_or-repeated, mul-le-mul_right, drop_at, drop-drop, no_width, run_piece, run_pieces, run_width}
use Rattle.clean_frames.proofs.Common.{run_width_some, AreChained, length-stream, no_piece, stream, whole-append, AreWhole, bits_of}
use Rattle.clean_frames.proofs.Common.{turned_back, whole_rows, run_pieces_whole}
use Rattle.clean_frames.proofs.pages.Scans.{frames_scanned, in_frame, AreFrames}
use Rattle.clean_frames.proofs.pages.Laid.{length-page, page_capsule, pages_placed, placed-begins, runs-begin, runs-follow, runs_laid}
use Rattle.clean_frames.proofs.pages.Laid.{runs_of, first_begins, first_runs, placed-follows}
use Rattle.clean_frames.proofs.pages.RunsHeard.{AreRuns, from_within, is_inside, pieces_of, placed_run, placed_runs, selected}
use Rattle.clean_frames.proofs.pages.RunsHeard.{spelled_at_end}
use Rattle.paging_message.specs.Laying as laying

-- ---- a later round

-- a page, n half-frames later
abbrev pub later : ℕ → Placed → Placed
later x p = record { run = x + p.run; last = x + p.last; page = p.page }

-- A run that begins x half-frames later has all its pages x half-frames later, by induction over
-- the pages: the last bit of each comes x times a half-frame's bits later, so the half-frame in
-- which it ends has a number greater by x.
run_later : (size : ℕ) (spell : Page → List Bool) (x run at at' y : ℕ) (pages : List Page) →
    0 < size → AreChained size y (map spell pages) → at' ≡ size * x + at →
    placed_run size spell (x + run) at' pages ≡ map (later x) (placed_run size spell run at pages)
run_later size spell x run at at' y [] large chained e = refl
run_later size spell x run at at' y (page ∷ pages) large chained e =
    let n = length (spell page) in
    let whole = chained.0 in
    let far : at' + n - 1 ≡ size * x + (at + n - 1) = omega (arith, e, whole.told) in
    let last : (at' + n - 1) / size ≡ x + (at + n - 1) / size =
    ap (λ (k : ℕ). k / size) far ∙ mul-add-div large x (at + n - 1) in
    let here : Placed = record { run = x + run; last = x + (at + n - 1) / size; page = page } in
    ap (λ (k : ℕ). let p : Placed = record { run = x + run; last = k; page = page } in
    p ∷ placed_run size spell (x + run) (at' + n) pages) last
    ∙ ap (λ (l : List Placed). here ∷ l)
    (run_later size spell x run (at + n) (at' + n) (y + n) pages large chained.2 (omega (arith, e)))

-- Runs of which the first begins x half-frames later have all their pages that much later, by
-- induction over the runs: the next run begins as many half-frames after the first one as it did
-- before.
runs_later : (size : ℕ) (spell : Page → List Bool) (x o o' : ℕ) (runs : List (List Page)) →
    0 < size → AreRuns size spell runs → o' ≡ x + o →
    placed_runs size spell o' runs ≡ map (later x) (placed_runs size spell o runs)
runs_later size spell x o o' [] large are e = refl
runs_later size spell x o o' (run ∷ runs) large are e =
    let w = run_width size (map spell run) in
    let first = placed_run size spell o (size * o) run in
    let rest = placed_runs size spell (o + w) runs in
    let far : size * o' ≡ size * x + size * o = ap (λ (n : ℕ). size * n) e ∙ omega arith in
    ap (λ (l : List Placed). l ++ placed_runs size spell (o' + w) runs)
    (ap (λ (n : ℕ). placed_run size spell n (size * o') run) e
    ∙ run_later size spell x o (size * o) (size * o') 0 run large are.0 far)
    ∙ ap (λ (l : List Placed). map (later x) first ++ l)
    (runs_later size spell x (o + w) (o' + w) runs large are.2 (omega (arith, e)))
    ∙ sym (map-append (later x) first rest)

-- ---- all rounds

pub runs-append : (size : ℕ) (spell : Page → List Bool) (xs ys : List (List Page)) →
    AreRuns size spell xs → AreRuns size spell ys → AreRuns size spell (xs ++ ys)
runs-append size spell [] ys a b = b
runs-append size spell (x ∷ xs) ys a b = (a.0, a.1, runs-append size spell xs ys a.2 b)

pub repeated_are_runs : (size : ℕ) (spell : Page → List Bool) (n : ℕ) (runs : List (List Page)) →
    AreRuns size spell runs → AreRuns size spell (repeated n runs)
repeated_are_runs size spell zero runs are = tt
repeated_are_runs size spell (suc n) runs are =
    runs-append size spell (repeated n runs) runs (repeated_are_runs size spell n runs are) are

-- where the pages of more runs lie
placed-append : (size : ℕ) (spell : Page → List Bool) (o : ℕ) (xs ys : List (List Page)) →
    placed_runs size spell o (xs ++ ys)
    ≡ placed_runs size spell o xs ++ placed_runs size spell (o + length (pieces_of size spell xs)) ys
placed-append size spell o [] ys =
    let e : o ≡ o + 0 = omega arith in ap (λ (n : ℕ). placed_runs size spell n ys) e
placed-append size spell o (x ∷ xs) ys =
    let cs = map spell x in
    let w = run_width size cs in
    let first = placed_run size spell o (size * o) x in
    let own : length (run_pieces size cs) ≡ w = length-map-places (run_piece size cs) w in
    let e : o + w + length (pieces_of size spell xs) ≡ o + length (pieces_of size spell (x ∷ xs)) =
    omega (arith, length-append (run_pieces size cs) (pieces_of size spell xs), own) in
    let rest = placed_runs size spell (o + w) xs in
    ap (λ (l : List Placed). first ++ l) (placed-append size spell (o + w) xs ys)
    ∙ sym (append_assoc first rest (placed_runs size spell (o + w + length (pieces_of size spell xs)) ys))
    ∙ ap (λ (n : ℕ). (first ++ rest) ++ placed_runs size spell n ys) e

-- what is said of the pages that are inside
module _ {X : Type 0} (h : Placed → X) (low high : ℕ) where
  -- the same for the pages of a round, n half-frames later
  abbrev round : ℕ → List Placed → List X
  round x ps = map (λ p. h (later x p)) (filter (is_between low high x) ps)

  round_said : (x : ℕ) (ps : List Placed) → map h (filter (is_inside low high) (map (later x) ps)) ≡ round x ps
  round_said x [] = refl
  round_said x (p ∷ ps) =
      let rest = round_said x ps in
      elim (cases_Bool (is_between low high x p)) [
        | inl t ↦ rw t (ap (λ (l : List X). h (later x p) ∷ l) rest)
        | inr f ↦ rw f rest
      ]

  -- Of all rounds it is said round by round: a round's pages lie as many half-frames later as the rounds
  -- before it have.
  rounds_said : (size : ℕ) (spell : Page → List Bool) (n : ℕ) (runs : List (List Page)) → 0 < size →
      AreRuns size spell runs → map h (filter (is_inside low high) (placed_runs size spell 0 (repeated n runs)))
      ≡ flat_map (λ r. round (length (pieces_of size spell runs) * r) (placed_runs size spell 0 runs)) (places n)
  rounds_said size spell zero runs large are =
      sym (flat_map-zero (λ r. round (length (pieces_of size spell runs) * r) (placed_runs size spell 0 runs)))
  rounds_said size spell (suc n) runs large are =
      let w = length (pieces_of size spell runs) in
      let s = λ (r : ℕ). round (w * r) (placed_runs size spell 0 runs) in
      let inside = filter (is_inside low high) in
      let front = placed_runs size spell 0 (repeated n runs) in
      let before = length (pieces_of size spell (repeated n runs)) in
      let last = placed_runs size spell (0 + before) runs in
      let long : before ≡ w * n =
      ap (λ (l : List Piece). length l) (flat_map-repeated (λ run. run_pieces size (map spell run)) n runs)
      ∙ length-repeated n (pieces_of size spell runs) in
      ap (λ (l : List Placed). map h (inside l)) (placed-append size spell 0 (repeated n runs) runs)
      ∙ ap (map h) (filter-append (is_inside low high) front last)
      ∙ map-append h (inside front) (inside last)
      ∙ ap (λ (l : List X). l ++ map h (inside last)) (rounds_said size spell n runs large are)
      ∙ ap (λ (l : List X). flat_map s (places n) ++ l)
      (ap (λ (l : List Placed). map h (inside l))
      (runs_later size spell (w * n) 0 (0 + before) runs large are (omega (arith, long)))
      ∙ round_said (w * n) (placed_runs size spell 0 runs))
      ∙ sym (flat_map-next s n)

long_at : (size : ℕ) (pieces : List Piece) (t : ℕ) → AreWhole size pieces → t < length pieces →
    length (get_or pieces t no_piece).body ≡ size
long_at size [] t are lt = absurd (omega (arith, lt))
long_at size (p ∷ pieces) zero are lt = are.0
long_at size (p ∷ pieces) (suc t) are lt = long_at size pieces t are.1 (omega (arith, lt))

repeated_whole : (size n : ℕ) (pieces : List Piece) → AreWhole size pieces → AreWhole size (repeated n pieces)
repeated_whole size zero pieces are = tt
repeated_whole size (suc n) pieces are =
    whole-append size (repeated n pieces) pieces (repeated_whole size n pieces are) are

-- two neighbouring half-frames of a stream
two_of_stream : (size : ℕ) (pieces : List Piece) (t : ℕ) → AreWhole size pieces → suc t < length pieces →
    take (2 * (size + 1)) (drop ((size + 1) * t) (stream pieces))
    ≡ bits_of (get_or pieces t no_piece) ++ bits_of (get_or pieces (suc t) no_piece)
two_of_stream size [] t are lt = absurd (omega (arith, lt))
two_of_stream size (p ∷ []) t are lt = absurd (omega (arith, lt))
two_of_stream size (p ∷ q ∷ pieces) zero are lt =
    let both = 2 * (size + 1) in
    let e : (size + 1) * zero ≡ 0 = omega arith in
    ap (λ (k : ℕ). take both (drop k (stream (p ∷ q ∷ pieces)))) e
    ∙ ap (take both) (sym (append_assoc (bits_of p) (bits_of q) (stream pieces)))
    ∙ take_at (bits_of p ++ bits_of q) (stream pieces) both
    (omega (arith, length-append (bits_of p) (bits_of q), are.0, are.1.0))
two_of_stream size (p ∷ q ∷ pieces) (suc t) are lt =
    let both = 2 * (size + 1) in
    let rest = stream (q ∷ pieces) in
    let e : (size + 1) * suc t ≡ (size + 1) + (size + 1) * t = omega arith in
    ap (λ (k : ℕ). take both (drop k (bits_of p ++ rest))) e
    ∙ ap (take both) (sym (drop-drop ((size + 1) * t) (size + 1) (bits_of p ++ rest))
    ∙ ap (drop ((size + 1) * t)) (drop_at (bits_of p) rest (size + 1) (omega (arith, are.0))))
    ∙ two_of_stream size (q ∷ pieces) t are.1 (omega (arith, lt))

-- A frame is two half-frames: with rounds enough the cycle's bits from the frame on are those of the
-- half-frames repeated so often.
frame_at : (size : ℕ) (pieces : List Piece) (k : ℕ) → AreWhole size pieces → 0 < length pieces →
    cycled (stream pieces) (2 * (size + 1)) k
    ≡ bits_of (get_or pieces ((2 * k) % length pieces) no_piece) ++
    bits_of (get_or pieces (suc (2 * k) % length pieces) no_piece)
unfolding cycled
frame_at size pieces k are some =
    let n = suc (suc (2 * k)) in
    let w = length pieces in
    let both = 2 * (size + 1) in
    let all = repeated n pieces in
    let more : 1 * n ≤ w * n = mul-le-mul_right n some in
    let bits : (size + 1) * (1 * n) ≤ (size + 1) * (w * n) = mul-le-mul_left (size + 1) more in
    let room : both * k + both ≤ length (stream pieces) * n =
    subst (λ (l : ℕ). both * k + both ≤ l * n) (sym (length-stream size pieces are)) (omega (arith, bits)) in
    let place : both * k ≡ (size + 1) * (2 * k) = omega arith in
    repeated-part n (stream pieces) (both * k) both false room
    ∙ ap (λ (l : List Bool). take both (drop (both * k) l)) (sym (flat_map-repeated bits_of n pieces))
    ∙ ap (λ (d : ℕ). take both (drop d (stream all))) place
    ∙ two_of_stream size all (2 * k) (repeated_whole size n pieces are) (omega (arith, length-repeated n pieces, more))
    ∙ ap (λ (p : Piece). bits_of p ++ bits_of (get_or all (suc (2 * k)) no_piece))
    (get_or-repeated n pieces (2 * k) no_piece (omega (arith, more)))
    ∙ ap (λ (p : Piece). bits_of (get_or pieces ((2 * k) % w) no_piece) ++ bits_of p)
    (get_or-repeated n pieces (suc (2 * k)) no_piece (omega (arith, more)))

-- half-frame j after frame `first`
abbrev pub heard_piece : List Piece → ℕ → ℕ → Piece
heard_piece pieces first j = get_or pieces ((2 * first + j) % length pieces) no_piece

-- From frame `first` on, the frames of a cycle are those of its half-frames, round and round.
pub cycle_has_frames : (size : ℕ) (pieces : List Piece) (first : ℕ) → AreWhole size pieces → 0 < length pieces →
    AreFrames size (λ k. cycled (stream pieces) (2 * (size + 1)) (first + k)) (heard_piece pieces first)
cycle_has_frames size pieces first are some = record {
  long = λ j. long_at size pieces ((2 * first + j) % length pieces) are
      (mod_below (2 * first + j) (length pieces) some);
  each = λ k.
      let w = length pieces in
      let a : 2 * (first + k) ≡ 2 * first + 2 * k = omega arith in
      let b : suc (2 * (first + k)) ≡ 2 * first + suc (2 * k) = omega arith in
      let second = bits_of (get_or pieces (suc (2 * (first + k)) % w) no_piece) in
      frame_at size pieces (first + k) are some
      ∙ ap (λ (n : ℕ). bits_of (get_or pieces (n % w) no_piece) ++ second) a
      ∙ ap (λ (n : ℕ). bits_of (get_or pieces ((2 * first + 2 * k) % w) no_piece) ++
      bits_of (get_or pieces (n % w) no_piece)) b;
}

-- ---- the half-frames of runs

pieces_whole : (size : ℕ) (spell : Page → List Bool) (runs : List (List Page)) → 0 < size →
    AreWhole size (pieces_of size spell runs)
pieces_whole size spell [] large = tt
pieces_whole size spell (run ∷ runs) large =
    whole-append size (run_pieces size (map spell run)) (pieces_of size spell runs)
    (run_pieces_whole size (map spell run) large) (pieces_whole size spell runs large)

pieces_some : (size : ℕ) (spell : Page → List Bool) (runs : List (List Page)) → 0 < size →
    0 < length runs → AreRuns size spell runs → 0 < length (pieces_of size spell runs)
pieces_some size spell [] large some are = absurd (omega (arith, some))
pieces_some size spell (run ∷ runs) large some are =
    let cs = map spell run in
    omega (
      arith,
      length-append (run_pieces size cs) (pieces_of size spell runs),
      length-map-places (run_piece size cs) (run_width size cs),
      run_width_some size cs large are.1,
    )

runs_some : (pages run : List Page) → 0 < length (runs_of run pages)
runs_some [] run = omega arith
runs_some (page ∷ pages) run =
    elim (cases_Bool page.follows) [
      | inl t ↦
          subst (λ (runs : List (List Page)). 0 < length runs)
          (sym (runs-follow run page pages t)) (runs_some pages (run ++ page ∷ []))
      | inr f ↦
          subst (λ (runs : List (List Page)). 0 < length runs) (sym (runs-begin run page pages f)) (omega arith)
    ]

-- ---- a cycle

-- how many half-frames it has
cycle_count : (size : ℕ) (form : CheckForm) (page : Page) (pages : List Page)
    (cycle : List Bool) → 0 < size → page.follows ≡ false →
    cycle ≡ laying.half_frames_of size (laid_pages size form (page ∷ pages)) → length cycle / (size + 1)
    ≡ length (pieces_of size (page_capsule form) (runs_of (page ∷ []) pages))
cycle_count size form page pages cycle large f is =
    let pieces = pieces_of size (page_capsule form) (runs_of (page ∷ []) pages) in
    ap (λ (l : List Bool). length l / (size + 1)) (is ∙ runs_laid size form page pages large f)
    ∙ whole_rows (size + 1) (length pieces) (length (stream pieces)) (omega arith)
    (length-stream size pieces (pieces_whole size (page_capsule form) (runs_of (page ∷ []) pages) large))

-- where its pages lie
cycle_placed : (size : ℕ) (form : CheckForm) (page : Page) (pages : List Page) → 0 < size → page.follows ≡ false →
    placed size form 0 0 (page ∷ pages) ≡ placed_runs size (page_capsule form) 0 (runs_of (page ∷ []) pages)
cycle_placed size form page pages large f =
    let c = page_capsule form page in
    let none = no_width size large in
    let start : (0 + size - 1) / size * size ≡ size * 0 = ap (λ (k : ℕ). k * size) none ∙ omega arith in
    let own : (0 + size - 1) / size * size / size ≡ 0 = turned_back size ((0 + size - 1) / size) large ∙ none in
    placed-begins size form 0 0 0 page pages f start own
    ∙ pages_placed size form pages (page ∷ []) 0 (size * 0 + length c) large (omega (arith, length-append c []))

-- ---- heard from a frame on

module _ (size : ℕ) (form : CheckForm) (first n rounds : ℕ) (large : 0 < size) where
  -- the transmissions of pages that lie in n frames from frame `first` on, round by round
  abbrev by_rounds : ℕ → ℕ → List Placed → List (ℕ × List Bool)
  by_rounds w high ps =
      flat_map (λ r. map (sending_of form first (w * r)) (filter (is_between (2 * first) high (w * r)) ps))
      (places rounds)

  -- what the frames of a cycle with these bits end
  abbrev heard_of : List Bool → List (ℕ × List Bool)
  heard_of cycle = capsules_with_frames size (λ k. cycled cycle (2 * (size + 1)) (first + k)) n

  -- what is heard of runs that go round
  runs_heard : (runs : List (List Page)) → AreRuns size (page_capsule form) runs →
      0 < length (pieces_of size (page_capsule form) runs) →
      2 * first + 2 * n ≤ length (pieces_of size (page_capsule form) runs) * rounds →
      heard_of (stream (pieces_of size (page_capsule form) runs))
      ≡ by_rounds (length (pieces_of size (page_capsule form) runs)) (2 * first + 2 * n)
      (placed_runs size (page_capsule form) 0 runs)
  runs_heard runs are some room =
      let spell = page_capsule form in
      let pieces = pieces_of size spell runs in
      let own = λ (k : ℕ). cycled (stream pieces) (2 * (size + 1)) (first + k) in
      let low = 2 * first in
      let cut = λ (l : List Piece). take (2 * n) (drop low l) in
      let all = repeated rounds runs in
      let e : 0 + low ≡ low = omega arith in
      frames_scanned size own (heard_piece pieces first) first n large
      (cycle_has_frames size pieces first (pieces_whole size spell runs large) some)
      ∙ ap (λ (l : List Piece). map (in_frame first) (scan size [] low l))
      (repeated-part rounds pieces low (2 * n) no_piece room
      ∙ ap cut (sym (flat_map-repeated (λ run. run_pieces size (map spell run)) rounds runs)))
      ∙ ap (map (in_frame first))
      (ap (λ (k : ℕ). scan size [] k (cut (pieces_of size spell all))) (sym e)
      ∙ from_within size spell large all 0 low (2 * n) (repeated_are_runs size spell rounds runs are)
      ∙ ap (λ (k : ℕ). selected spell k (k + 2 * n) (placed_runs size spell 0 all)) e)
      ∙ map-map (in_frame first) (spelled_at_end spell) (filter (is_inside low (low + 2 * n)) (placed_runs size spell 0 all))
      ∙ rounds_said (λ p. in_frame first (spelled_at_end spell p)) low (low + 2 * n) size spell rounds runs large are

  -- a cycle whose half-frames are known
  cycle_heard : (page : Page) (pages : List Page) (cycle : List Bool) →
      AreSendable size 0 (page ∷ pages) → AreHeard size 0 (page ∷ pages) →
      cycle ≡ laying.half_frames_of size (laid_pages size form (page ∷ pages)) →
      2 * (first + n) ≤ length cycle / (size + 1) * rounds → heard_of cycle
      ≡ by_rounds (length cycle / (size + 1)) (2 * (first + n)) (placed size form 0 0 (page ∷ pages))
  cycle_heard page pages cycle sent heard is room =
      let spell = page_capsule form in
      let runs = runs_of (page ∷ []) pages in
      let pieces = pieces_of size spell runs in
      let f = first_begins size form page pages large sent heard in
      let are = first_runs size form page pages large sent heard in
      let some = pieces_some size spell runs large (runs_some pages (page ∷ [])) are in
      let same : cycle ≡ stream pieces = is ∙ runs_laid size form page pages large f in
      let count = cycle_count size form page pages cycle large f is in
      let e : 2 * (first + n) ≡ 2 * first + 2 * n = omega arith in
      let enough : 2 * first + 2 * n ≤ length pieces * rounds =
      subst (λ (k : ℕ). k ≤ length pieces * rounds) e (subst (λ (k : ℕ). 2 * (first + n) ≤ k * rounds) count room) in
      ap heard_of same
      ∙ runs_heard runs are some enough
      ∙ ap (λ (w : ℕ). by_rounds w (2 * first + 2 * n) (placed_runs size spell 0 runs)) (sym count)
      ∙ ap (λ (high : ℕ). by_rounds (length cycle / (size + 1)) high (placed_runs size spell 0 runs)) (sym e)
      ∙ ap (by_rounds (length cycle / (size + 1)) (2 * (first + n))) (sym (cycle_placed size form page pages large f))

cycle_is : (rate : Rate) (form : CheckForm) (pages : List Page) → page_cycle rate form pages
    ≡ laying.half_frames_of (half_frame_body rate) (laid_pages (half_frame_body rate) form pages)
unfolding page_cycle
cycle_is rate form pages = refl

pub page_sendings_back : PageSendingsComeBack
page_sendings_back rate form [] first n rounds are room =
    let some = are.some in absurd (omega (arith, some))
page_sendings_back rate form (page ∷ pages) first n rounds are room =
    cycle_heard (half_frame_body rate) form first n rounds (size_large rate) page pages
    (page_cycle rate form (page ∷ pages)) are.sendable are.heard (cycle_is rate form (page ∷ pages)) room

-- a cycle has half-frames
pub cycle_some : (rate : Rate) (form : CheckForm) (pages : List Page) → AreWholePages rate pages →
    1 ≤ cycle_half_frames rate form pages
cycle_some rate form [] are = let some = are.some in absurd (omega (arith, some))
cycle_some rate form (page ∷ pages) are =
    let size = half_frame_body rate in
    let large = size_large rate in
    let f = first_begins size form page pages large are.sendable are.heard in
    let some = pieces_some size (page_capsule form) (runs_of (page ∷ []) pages) large (runs_some pages (page ∷ []))
    (first_runs size form page pages large are.sendable are.heard) in
    let count = cycle_count size form page pages (page_cycle rate form (page ∷ pages)) large f
    (cycle_is rate form (page ∷ pages)) in
    omega (arith, count, some)

-- ---- the two tests

-- a run after a mark at the beginning of a frame
begun_same : (first half : ℕ) → nat_le (2 * first) half ≡ nat_le (24576 * first) (12288 * half)
begun_same first half =
    elim (cases_lt half (2 * first)) [
      | inl less ↦
          lt-leb (2 * first) half less
          ∙ sym (lt-leb (24576 * first) (12288 * half) (omega (arith, less)))
      | inr more ↦
          le-leb (2 * first) half more
          ∙ sym (le-leb (24576 * first) (12288 * half) (omega (arith, more)))
    ]

-- a half-frame of a frame that is there whole
ended_same : (half frames end_chip : ℕ) → frames ≡ end_chip / 24576 →
    nat_lt half (2 * frames) ≡ nat_le (24576 * (half / 2 + 1)) end_chip
ended_same half frames end_chip e =
    elim (cases_lt half (2 * frames)) [
      | inl less ↦
          lt-ltb half (2 * frames) less
          ∙ sym (le-leb (24576 * (half / 2 + 1)) end_chip (omega (arith, less, e)))
      | inr more ↦
          le-ltb half (2 * frames) more
          ∙ sym (lt-leb (24576 * (half / 2 + 1)) end_chip (omega (arith, more, e)))
    ]

whole_same : (first frames end_chip x : ℕ) (p : Placed) → frames ≡ end_chip / 24576 →
    is_between (2 * first) (2 * frames) x p ≡ is_whole_page (24576 * first) end_chip x p
whole_same first frames end_chip x p e =
    ap (λ (b : Bool). b && nat_lt (x + p.last) (2 * frames)) (begun_same first (x + p.run))
    ∙ ap (λ (b : Bool). nat_le (24576 * first) (12288 * (x + p.run)) && b) (ended_same (x + p.last) frames end_chip e)

filter_same : (f g : Placed → Bool) (ps : List Placed) → ((p : Placed) → f p ≡ g p) → filter f ps ≡ filter g ps
filter_same f g [] same = refl
filter_same f g (p ∷ ps) same =
    let here = same p in
    let rest = filter_same f g ps same in
    elim (cases_Bool (g p)) [
      | inl t ↦ let own : f p ≡ true = here ∙ t in
          rw (own, t) (ap (λ (l : List Placed). p ∷ l) rest)
      | inr n ↦ let own : f p ≡ false = here ∙ n in rw (own, n) rest
    ]

-- ---- a mark after the last whole frame

-- a page ends in the half-frame in which its run begins, or later
abbrev pub EndLater : List Placed → Type 0
EndLater [] = Unit {0}
EndLater (p ∷ ps) = (p.run ≤ p.last) × EndLater ps

-- No page ends before the half-frame in which its run begins, by induction over the pages: a
-- capsule isn't empty, so its last bit comes no earlier than the run's first, whether it follows
-- the page before it or begins a run of its own.
end_later : (size : ℕ) (form : CheckForm) (at run : ℕ) (pages : List Page) → 0 < size →
    size * run ≤ at → EndLater (placed size form at run pages)
end_later size form at run [] large begun = tt
end_later size form at run (page ∷ pages) large begun =
    let n = length (page_capsule form page) in
    let some : 0 < n = omega (arith, length-page form page) in
    elim (cases_Bool page.follows) [
      | inl t ↦
          subst EndLater (sym (placed-follows size form at run page pages t)) (
            le-div run (at + n - 1) size large (omega (arith, begun, some)),
            end_later size form (at + n) run pages large (omega (arith, begun)),
          )
      | inr f ↦
          let o = (at + size - 1) / size in
          let start : o * size ≡ size * o = omega arith in
          subst EndLater
          (sym (placed-begins size form at run o page pages f start (turned_back size o large))) (
            le-div o (size * o + n - 1) size large (omega (arith, some)),
            end_later size form (size * o + n) o pages large (omega arith),
          )
    ]

-- No page is whole from frame `first` on where the file ends before that frame does: a page whose
-- run begins earlier isn't counted, and any other ends in that frame or later, which the file
-- doesn't have whole.
none_whole : (first end_chip x : ℕ) (ps : List Placed) → end_chip / 24576 ≤ first → EndLater ps →
    filter (is_whole_page (24576 * first) end_chip x) ps ≡ []
none_whole first end_chip x [] past are = refl
none_whole first end_chip x (p ∷ ps) past are =
    let begun = nat_le (24576 * first) (12288 * (x + p.run)) in
    let ended = nat_le (24576 * ((x + p.last) / 2 + 1)) end_chip in
    let order = are.0 in
    let out : is_whole_page (24576 * first) end_chip x p ≡ false =
    elim (cases_lt (x + p.run) (2 * first)) [
      | inl early ↦
          and_left begun ended (lt-leb (24576 * first) (12288 * (x + p.run)) (omega (arith, early)))
      | inr late ↦
          and_right begun ended (lt-leb (24576 * ((x + p.last) / 2 + 1)) end_chip (omega (arith, late, order, past)))
    ] in
    rw out (none_whole first end_chip x ps past are.1)

-- ---- the law

-- From frame `first` on a handset hears just the transmissions of pages that are whole. Where the
-- file ends before that frame there are none. Otherwise the half-frames that it holds end the
-- capsules that lie between the first and the last of them, and these are the whole ones.
pub whole_pages_back : WholePagesComeBack
whole_pages_back rate form pages first end_chip are =
    let size = half_frame_body rate in
    let frames = end_chip / 24576 in
    let n = frames - first in
    let own = λ (k : ℕ).
    cycled (page_cycle rate form pages) (paging_frame_size rate) (first + k) in
    let cycle = cycle_half_frames rate form pages in
    let ps = placed size form 0 0 pages in
    let rounds = end_chip / 12288 + 1 in
    let whole = λ (r : ℕ). map (sending_of form first (cycle * r))
    (filter (is_whole_page (24576 * first) end_chip (cycle * r)) ps) in
    elim (cases_lt frames first) [
      | inl past ↦
          let none : n ≡ 0 = omega (arith, past) in
          ap (capsules_with_frames size own) none
          ∙ flat_map-zero (λ k. map (λ (c : List Bool). (k, c)) (frame_capsules size own k))
          ∙ sym (flat_map-nothing whole rounds
          (λ r lt. ap (map (sending_of form first (cycle * r)))
          (none_whole first end_chip (cycle * r) ps (omega (arith, past))
          (end_later size form 0 0 pages (size_large rate) (omega arith)))))
      | inr inside ↦
          let all : first + n ≡ frames = omega (arith, inside) in
          let some : rounds * 1 ≤ rounds * cycle = mul-le-mul_left rounds (cycle_some rate form pages are) in
          let turned : rounds * cycle ≡ cycle * rounds = omega arith in
          let room : 2 * (first + n) ≤ cycle * rounds = omega (arith, all, some, turned) in
          page_sendings_back rate form pages first n rounds are room
          ∙ flat_map_ext_places
          (λ r. map (sending_of form first (cycle * r))
          (filter (is_between (2 * first) (2 * (first + n)) (cycle * r)) ps))
          whole rounds
          (λ r lt. ap (map (sending_of form first (cycle * r)))
          (filter_same (is_between (2 * first) (2 * (first + n)) (cycle * r))
          (is_whole_page (24576 * first) end_chip (cycle * r)) ps
          (λ p. whole_same first (first + n) end_chip (cycle * r) p all)))
    ]

-- the pages of a stated channel are such pages
pub stated_pages : (rate : Rate) (p : PagingPlan) → IsStatedPaging rate p → AreWholePages rate p.pages
stated_pages rate p is = record { some = is.some; sendable = is.pages; heard = is.heard }
