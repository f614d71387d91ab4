-- The capsules that are heard of runs of pages, laid one after another, from any half-frame on.
use Rattle.clean_frames.proofs.Common.{◌≡◌, ℕ, zero, suc, ◌+◌, ◌-◌, ◌*◌, ◌/◌, ◌<◌, ◌≤◌, Bool, true, false, List, [], ◌∷◌, ◌++◌, length, map}
use Rattle.clean_frames.proofs.Common.{take, drop, refl, sym, ap, ◌∙◌, arith, nat_le, nat_lt, inl, inr, append_assoc, ◌&&◌, flat_map, Piece}
use Rattle.clean_frames.proofs.Common.{option_to_list, and_left, and_right, cases_lt, le-leb, le-ltb, lt-leb, lt-ltb, append-nil, drop-drop}
use Rattle.clean_frames.proofs.Common.{drop_at, map-append, take-append-le, filter-append, div_below, le-div, mul-le-mul_left, take-nil}
use Rattle.clean_frames.proofs.Common.{take-append-add, places, length-map-places, Page, flat_map_ext_places, Placed, flat_map-add, map-add}
use Rattle.clean_frames.proofs.Common.{flat_map-nothing, take-map-places, filter, ended_of, joined, AreChained, ended-before, ended-after}
use Rattle.clean_frames.proofs.Common.{ended-past, ending_at, fills, later_begins_none, run_piece, run_pieces, run_scanned, run_width, scan}
use Rattle.clean_frames.proofs.Common.{first_bits_told, none_starts-map, NoneStarts, scan-append, scan_silent, with_number, AreChainedRuns}

-- ---- where the pages of runs lie

-- the bits of a run's capsules, which a function of the page gives
abbrev pub spelled : (Page → List Bool) → List Page → List Bool
spelled spell run = joined (map spell run) 0

-- the pages of a run after n body bits, if the run began in this half-frame
abbrev pub placed_run : ℕ → (Page → List Bool) → ℕ → ℕ → List Page → List Placed
placed_run size spell run at [] = []
placed_run size spell run at (page ∷ pages) =
    record { run = run; last = (at + length (spell page) - 1) / size; page = page } ∷
    placed_run size spell run (at + length (spell page)) pages

-- the pages of runs, of which the first begins in half-frame `o`
abbrev pub placed_runs : ℕ → (Page → List Bool) → ℕ → List (List Page) → List Placed
placed_runs size spell o [] = []
placed_runs size spell o (run ∷ runs) =
    placed_run size spell o (size * o) run ++
    placed_runs size spell (o + run_width size (map spell run)) runs

-- the half-frames of runs
abbrev pub pieces_of : ℕ → (Page → List Bool) → List (List Page) → List Piece
pieces_of size spell runs = flat_map (λ run. run_pieces size (map spell run)) runs

-- the capsules of each run are chained, and there are some
abbrev pub AreRuns : ℕ → (Page → List Bool) → List (List Page) → Type 0
AreRuns size spell runs = AreChainedRuns size (map (map spell) runs)

-- ---- the pages to be heard

-- whether a page's run begins in half-frame `low` or later, and it ends before half-frame `high`
abbrev pub is_inside : ℕ → ℕ → Placed → Bool
is_inside low high p = nat_le low p.run && nat_lt p.last high

-- the capsule of a page, with the half-frame in which it ends
abbrev pub spelled_at_end : (Page → List Bool) → Placed → ℕ × List Bool
spelled_at_end spell p = (p.last, spell p.page)

-- those of all pages that are inside
abbrev pub selected : (Page → List Bool) → ℕ → ℕ → List Placed → List (ℕ × List Bool)
selected spell low high ps = map (spelled_at_end spell) (filter (is_inside low high) ps)

pub selected-append : (spell : Page → List Bool) (low high : ℕ) (ps qs : List Placed) →
    selected spell low high (ps ++ qs) ≡ selected spell low high ps ++ selected spell low high qs
selected-append spell low high ps qs =
    ap (map (spelled_at_end spell)) (filter-append (is_inside low high) ps qs)
    ∙ map-append (spelled_at_end spell) (filter (is_inside low high) ps) (filter (is_inside low high) qs)

selected-here : (spell : Page → List Bool) (low high : ℕ) (p : Placed) (ps : List Placed) →
    is_inside low high p ≡ true → selected spell low high (p ∷ ps) ≡ spelled_at_end spell p ∷ selected spell low high ps
selected-here spell low high p ps e = rw e refl

selected-not : (spell : Page → List Bool) (low high : ℕ) (p : Placed) (ps : List Placed) →
    is_inside low high p ≡ false → selected spell low high (p ∷ ps) ≡ selected spell low high ps
selected-not spell low high p ps e = rw e refl

-- half-frames of a size, and pages that a function spells
module _ (size : ℕ) (spell : Page → List Bool) (large : 0 < size) where
  -- the half-frame in which the last of `count` body bits lies
  last_before : (high count : ℕ) → 0 < count → count ≤ size * high → (count - 1) / size < high
  last_before high count some le = div_below (count - 1) size high large (omega (arith, some, le))

  last_after : (high count : ℕ) → size * high < count → high ≤ (count - 1) / size
  last_after high count less = le-div high (count - 1) size large (omega (arith, less))

  -- a run that begins too early
  too_early : (low high run at : ℕ) (pages : List Page) →
      run < low → selected spell low high (placed_run size spell run at pages) ≡ []
  too_early low high run at [] less = refl
  too_early low high run at (page ∷ pages) less =
      let next = at + length (spell page) in
      let p : Placed = record { run = run; last = (next - 1) / size; page = page } in
      selected-not spell low high p (placed_run size spell run next pages)
      (and_left (nat_le low run) (nat_lt p.last high) (lt-leb low run less))
      ∙ too_early low high run next pages less

  -- pages that end too late
  too_late : (low high run at x : ℕ) (pages : List Page) → AreChained size x (map spell pages) → size * high ≤ at →
      selected spell low high (placed_run size spell run at pages) ≡ []
  too_late low high run at x [] chained le = refl
  too_late low high run at x (page ∷ pages) chained le =
      let n = length (spell page) in
      let next = at + n in
      let p : Placed = record { run = run; last = (next - 1) / size; page = page } in
      let whole = chained.0 in
      let late : high ≤ p.last = last_after high next (omega (arith, whole.told, le)) in
      selected-not spell low high p (placed_run size spell run next pages)
      (and_right (nat_le low run) (nat_lt p.last high) (le-ltb p.last high late))
      ∙ too_late low high run next (x + n) pages chained.2 (omega (arith, le))

  -- Of runs that begin in half-frame `high` or later no page is selected, by induction over the runs:
  -- the pages of the first end too late, and the next run begins no earlier.
  runs_too_late : (low high o : ℕ) (runs : List (List Page)) → AreRuns size spell runs → high ≤ o →
      selected spell low high (placed_runs size spell o runs) ≡ []
  runs_too_late low high o [] are le = refl
  runs_too_late low high o (run ∷ runs) are le =
      let first = placed_run size spell o (size * o) run in
      let next = o + run_width size (map spell run) in
      let rest = placed_runs size spell next runs in
      selected-append spell low high first rest
      ∙ ap (λ (l : List (ℕ × List Bool)). l ++ selected spell low high rest)
      (too_late low high o (size * o) 0 run are.0 (mul-le-mul_left size le))
      ∙ runs_too_late low high next runs are.2 (omega (arith, le))

  -- ---- one run

  -- the first bits of a run determine the pages that end within them
  bits_told : (low high run at x : ℕ) (pages : List Page)
      (bits : ℕ) → AreChained size x (map spell pages) → low ≤ run → at + bits ≡ size * high →
      flat_map (ending_at size at (map spell pages)) (places bits)
      ≡ selected spell low high (placed_run size spell run at pages)
  bits_told low high run at x [] bits chained early ends = flat_map-nothing (ending_at size at []) bits (λ k lt. refl)
  bits_told low high run at x (page ∷ pages) bits chained early ends =
      let c = spell page in
      let cs = map spell pages in
      let n = length c in
      let g = ending_at size at (c ∷ cs) in
      let told' : 8 ≤ n = chained.0.told in
      let next = at + n in
      let p : Placed = record { run = run; last = (next - 1) / size; page = page } in
      let rest = placed_run size spell run next pages in
      let begun : nat_le low run ≡ true = le-leb low run early in
      elim (cases_lt bits n) [
        | inl less ↦
            let late : high ≤ p.last = last_after high next (omega (arith, ends, less)) in
            flat_map-nothing g bits
            (λ k lt. ap (λ o. with_number ((at + k) / size) (option_to_list o))
            (ended-before c cs (suc k) (omega (arith, lt, less))))
            ∙ sym (selected-not spell low high p rest
            (and_right (nat_le low run) (nat_lt p.last high) (le-ltb p.last high late))
            ∙ too_late low high run next (x + n) pages chained.2 (omega (arith, ends, less)))
        | inr all ↦
            let d = n - 1 in
            let long : n ≡ suc d = omega (arith, told') in
            let b = bits - n in
            let parts : bits ≡ suc d + b = omega (arith, long, all) in
            let soon : nat_lt p.last high ≡ true =
            lt-ltb p.last high (last_before high next (omega (arith, told')) (omega (arith, ends, all))) in
            let inside : is_inside low high p ≡ true = rw (begun, soon) refl in
            ap (λ (k : ℕ). flat_map g (places k)) parts
            ∙ flat_map-add g (suc d) b
            ∙ ap (λ (l : List (ℕ × List Bool)). l ++ flat_map (λ i. g (suc d + i)) (places b))
            (first_bits_told size at d c cs long)
            ∙ ap (λ (l : List (ℕ × List Bool)). ((next - 1) / size, c) ∷ l)
            (flat_map_ext_places (λ i. g (suc d + i)) (ending_at size next cs) b
            (λ k lt.
            let far : at + (suc d + k) ≡ next + k = omega (arith, long) in
            ap (λ (m : ℕ). with_number (m / size) (option_to_list (ended_of (c ∷ cs) (suc (suc d + k))))) far
            ∙ ap (λ o. with_number ((next + k) / size) (option_to_list o))
            (ended-after c cs (suc (suc d + k)) k (omega (arith, long))))
            ∙ bits_told low high run next (x + n) pages b chained.2 early (omega (arith, ends, parts, long)))
            ∙ sym (selected-here spell low high p rest inside)
      ]

  -- more bits than a run has tell no more
  bits_past : (at : ℕ) (cs : List (List Bool)) (bits more : ℕ) → length (joined cs 0) ≤ bits →
      flat_map (ending_at size at cs) (places (bits + more)) ≡ flat_map (ending_at size at cs) (places bits)
  bits_past at cs bits more past =
      let g = ending_at size at cs in
      flat_map-add g bits more
      ∙ ap (λ (l : List (ℕ × List Bool)). flat_map g (places bits) ++ l)
      (flat_map-nothing (λ i. g (bits + i)) more
      (λ k lt. ap (λ o. with_number ((at + (bits + k)) / size) (option_to_list o))
      (ended-past cs (bits + k) (omega (arith, past)))))
      ∙ append-nil (flat_map g (places bits))

  -- the first n half-frames of a run
  run_front : (before : List Piece) (o n low : ℕ) (run : List Page) → AreChained size 0 (map spell run) → low ≤ o →
      n ≤ run_width size (map spell run) → scan size before o (map (run_piece size (map spell run)) (places n))
      ≡ selected spell low (o + n) (placed_run size spell o (size * o) run)
  run_front before o n low run chained early le =
      run_scanned size before o (map spell run) n large chained le
      ∙ bits_told low (o + n) o (size * o) 0 run (size * n) chained early (omega arith)

  product : (w d : ℕ) → size * w + size * d ≡ size * (w + d)
  product w d = omega arith

  -- all of them
  run_whole : (before : List Piece) (o n low : ℕ) (run : List Page) → AreChained size 0 (map spell run) → low ≤ o →
      run_width size (map spell run) ≤ n → scan size before o (run_pieces size (map spell run))
      ≡ selected spell low (o + n) (placed_run size spell o (size * o) run)
  run_whole before o n low run chained early le =
      let cs = map spell run in
      let w = run_width size cs in
      let g = ending_at size (size * o) cs in
      let all = fills size (length (joined cs 0)) large in
      let parts : w + (n - w) ≡ n = omega (arith, le) in
      let e : size * w + size * (n - w) ≡ size * n = product w (n - w) ∙ ap (λ (k : ℕ). size * k) parts in
      run_scanned size before o cs w large chained (omega arith)
      ∙ sym (bits_past (size * o) cs (size * w) (size * (n - w)) (omega (arith, all)))
      ∙ ap (λ (k : ℕ). flat_map g (places k)) e
      ∙ bits_told low (o + n) o (size * o) 0 run (size * n) chained early (omega arith)

  -- ---- from the beginning of a run on

  take-short : (f : ℕ → Piece) (n w : ℕ) (more : List Piece) → n ≤ w →
      take n (map f (places w) ++ more) ≡ map f (places n)
  take-short f n w more le =
      take-append-le n (map f (places w)) more (omega (arith, length-map-places f w, le))
      ∙ take-map-places f n w le

  take-long : (f : ℕ → Piece) (n w : ℕ) (more : List Piece) → w ≤ n →
      take n (map f (places w) ++ more) ≡ map f (places w) ++ take (n - w) more
  take-long f n w more le =
      let e : n ≡ length (map f (places w)) + (n - w) = omega (arith, length-map-places f w, le) in
      ap (λ (k : ℕ). take k (map f (places w) ++ more)) e
      ∙ take-append-add (map f (places w)) more (n - w)

  -- A scan of n half-frames from the beginning of a run on tells the capsules of the pages that end
  -- in them, by induction over the runs: a run that is scanned whole tells all of its pages, and one
  -- that is cut tells those at its front, after which no later run has ended.
  pub from_start : (runs : List (List Page)) (before : List Piece) (o n low : ℕ) → AreRuns size spell runs → low ≤ o →
      scan size before o (take n (pieces_of size spell runs))
      ≡ selected spell low (o + n) (placed_runs size spell o runs)
  from_start [] before o n low are early = ap (scan size before o) (take-nil n)
  from_start (run ∷ runs) before o n low are early =
      let cs = map spell run in
      let w = run_width size cs in
      let f = run_piece size cs in
      let own = map f (places w) in
      let more = pieces_of size spell runs in
      let first = placed_run size spell o (size * o) run in
      let rest = placed_runs size spell (o + w) runs in
      let both = selected-append spell low (o + n) first rest in
      elim (cases_lt w n) [
        | inl long ↦
            let le : w ≤ n = omega (arith, long) in
            let far : o + w + (n - w) ≡ o + n = omega (arith, long) in
            ap (scan size before o) (take-long f n w more le)
            ∙ scan-append size before o own (take (n - w) more)
            ∙ ap (λ (k : ℕ). scan size before o own ++
            scan size (before ++ own) (o + k) (take (n - w) more)) (length-map-places f w)
            ∙ ap (λ (l : List (ℕ × List Bool)). l ++
            scan size (before ++ own) (o + w) (take (n - w) more))
            (run_whole before o n low run are.0 early le)
            ∙ ap (λ (l : List (ℕ × List Bool)). selected spell low (o + n) first ++ l)
            (from_start runs (before ++ own) (o + w) (n - w) low are.2 (omega (arith, early))
            ∙ ap (λ (k : ℕ). selected spell low k rest) far)
            ∙ sym both
        | inr short ↦
            ap (scan size before o) (take-short f n w more short)
            ∙ run_front before o n low run are.0 early short
            ∙ sym (append-nil (selected spell low (o + n) first))
            ∙ ap (λ (l : List (ℕ × List Bool)). selected spell low (o + n) first ++ l)
            (sym (runs_too_late low (o + n) (o + w) runs are.2 (omega (arith, short))))
            ∙ sym both
      ]

  -- ---- from any half-frame on

  drop-long : (f : ℕ → Piece) (k w : ℕ) (more : List Piece) → w ≤ k →
      drop k (map f (places w) ++ more) ≡ drop (k - w) more
  drop-long f k w more le =
      let all = map f (places w) ++ more in
      let e : k ≡ w + (k - w) = omega (arith, le) in
      ap (λ (i : ℕ). drop i all) e
      ∙ sym (drop-drop (k - w) w all)
      ∙ ap (drop (k - w)) (drop_at (map f (places w)) more w (length-map-places f w))

  drop-short : (f : ℕ → Piece) (k w : ℕ) (more : List Piece) → k ≤ w →
      drop k (map f (places w) ++ more) ≡ map (λ i. f (k + i)) (places (w - k)) ++ more
  drop-short f k w more le =
      let e : w ≡ k + (w - k) = omega (arith, le) in
      let rest = map (λ i. f (k + i)) (places (w - k)) in
      ap (λ (n : ℕ). drop k (map f (places n) ++ more)) e
      ∙ ap (λ (l : List Piece). drop k (l ++ more)) (map-add f k (w - k))
      ∙ ap (drop k) (append_assoc (map f (places k)) rest more)
      ∙ drop_at (map f (places k)) (rest ++ more) k (length-map-places f k)

  -- the rest of a run whose beginning was missed
  missed : (cs : List (List Bool)) (k n : ℕ) → 0 < k → NoneStarts (map (λ i. run_piece size cs (k + i)) (places n))
  missed cs k n some =
      none_starts-map (λ i. run_piece size cs (k + i)) n (λ i. later_begins_none size cs (k + i) (omega (arith, some)))

  -- the rest of a run that was missed, and the runs after it
  after_missed : (runs : List (List Page))
      (cs : List (List Bool)) (o k r n low : ℕ) → AreRuns size spell runs → 0 < k → low ≤ o + r →
      scan size [] o (take n (map (λ i. run_piece size cs (k + i)) (places r) ++
      pieces_of size spell runs))
      ≡ selected spell low (o + n) (placed_runs size spell (o + r) runs)
  after_missed runs cs o k r n low are some early =
      let g = λ (i : ℕ). run_piece size cs (k + i) in
      let more = pieces_of size spell runs in
      let own = map g (places r) in
      elim (cases_lt r n) [
        | inl long ↦
            let far : o + r + (n - r) ≡ o + n = omega (arith, long) in
            ap (scan size [] o) (take-long g n r more (omega (arith, long)))
            ∙ scan-append size [] o own (take (n - r) more)
            ∙ ap (λ (l : List (ℕ × List Bool)). l ++
            scan size own (o + length own) (take (n - r) more))
            (scan_silent size [] o own tt (missed cs k r some))
            ∙ ap (λ (i : ℕ). scan size own (o + i) (take (n - r) more)) (length-map-places g r)
            ∙ from_start runs own (o + r) (n - r) low are early
            ∙ ap (λ (i : ℕ). selected spell low i (placed_runs size spell (o + r) runs)) far
        | inr short ↦
            ap (scan size [] o) (take-short g n r more short)
            ∙ scan_silent size [] o (map g (places n)) tt (missed cs k n some)
            ∙ sym (runs_too_late low (o + n) (o + r) runs are (omega (arith, short)))
      ]

  -- n half-frames from half-frame k on, where the first run begins in half-frame `o`
  pub from_within : (runs : List (List Page)) (o k n : ℕ) → AreRuns size spell runs →
      scan size [] (o + k) (take n (drop k (pieces_of size spell runs)))
      ≡ selected spell (o + k) (o + k + n) (placed_runs size spell o runs)
  from_within [] o zero n are = ap (scan size [] (o + zero)) (take-nil n)
  from_within [] o (suc k) n are = ap (scan size [] (o + suc k)) (take-nil n)
  from_within (run ∷ runs) o zero n are =
      let e : o + 0 ≡ o = omega arith in
      rw e (from_start (run ∷ runs) [] o n o are (omega arith))
  from_within (run ∷ runs) o (suc k) n are =
      let cs = map spell run in
      let w = run_width size cs in
      let f = run_piece size cs in
      let more = pieces_of size spell runs in
      let low = o + suc k in
      let high = o + suc k + n in
      let first = placed_run size spell o (size * o) run in
      let rest = placed_runs size spell (o + w) runs in
      let later : selected spell low high (first ++ rest) ≡ selected spell low high rest =
      selected-append spell low high first rest
      ∙ ap (λ (l : List (ℕ × List Bool)). l ++ selected spell low high rest)
      (too_early low high o (size * o) run (omega arith)) in
      elim (cases_lt (suc k) w) [
        | inl within ↦
            let r = w - suc k in
            let e : low + r ≡ o + w = omega (arith, within) in
            ap (λ (l : List Piece). scan size [] low (take n l)) (drop-short f (suc k) w more (omega (arith, within)))
            ∙ after_missed runs cs low (suc k) r n low are.2 (omega arith) (omega arith)
            ∙ ap (λ (i : ℕ). selected spell low high (placed_runs size spell i runs)) e
            ∙ sym later
        | inr beyond ↦
            let d = suc k - w in
            let e : o + w + d ≡ low = omega (arith, beyond) in
            ap (λ (l : List Piece). scan size [] low (take n l)) (drop-long f (suc k) w more beyond)
            ∙ ap (λ (i : ℕ). scan size [] i (take n (drop d more))) (sym e)
            ∙ from_within runs (o + w) d n are.2
            ∙ ap (λ (i : ℕ). selected spell i (i + n) rest) e
            ∙ sym later
      ]
