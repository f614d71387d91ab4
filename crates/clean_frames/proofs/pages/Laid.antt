-- A cycle of pages as runs: where its pages lie, and its half-frames.
use Rattle.clean_frames.proofs.Common.{◌≡◌, ℕ, ◌+◌, ◌-◌, ◌*◌, ◌/◌, ◌<◌, Bool, true, false, List, [], ◌∷◌, ◌++◌, length, map, refl, sym, ap}
use Rattle.clean_frames.proofs.Common.{◌∙◌, arith, inl, inr, append_assoc, length-append, if◌then◌else◌, cases_Bool, map-append, CheckForm}
use Rattle.clean_frames.proofs.Common.{mul-add-div, capsule, Piece, M30, length-capsule, put_of, Page, placed, Placed, subst, AreSendable}
use Rattle.clean_frames.proofs.Common.{AreHeard, laid_pages, puts_lawful, joined, run_pieces, width, stream, AreChainedRuns, AreSome}
use Rattle.clean_frames.proofs.Common.{first_put_begins, first_puts_chained, first_puts_laid, joined-push, put-begins, put-follows}
use Rattle.clean_frames.proofs.Common.{runs_pieces, runs_put, turned_back}
use Rattle.clean_frames.proofs.pages.RunsHeard.{pieces_of, placed_run, placed_runs, spelled, AreRuns}
use Rattle.paging_message.specs.Laying as laying

-- ---- runs

-- what a page is sent as
abbrev pub page_capsule : CheckForm → Page → List Bool
page_capsule form page = capsule M30 form page.body

-- the runs of pages, where these pages of the run under way went before
abbrev pub runs_of : List Page → List Page → List (List Page)
runs_of run [] = run ∷ []
runs_of run (page ∷ pages) = if page.follows then runs_of (run ++ page ∷ []) pages else run ∷ runs_of (page ∷ []) pages

pub runs-follow : (run : List Page) (page : Page) (pages : List Page) → page.follows ≡ true →
    runs_of run (page ∷ pages) ≡ runs_of (run ++ page ∷ []) pages
runs-follow run page pages t = rw t refl

pub runs-begin : (run : List Page) (page : Page) (pages : List Page) → page.follows ≡ false →
    runs_of run (page ∷ pages) ≡ run ∷ runs_of (page ∷ []) pages
runs-begin run page pages f = rw f refl

pub spelled-push : (spell : Page → List Bool) (run : List Page) (page : Page) →
    spelled spell (run ++ page ∷ []) ≡ spelled spell run ++ spell page
spelled-push spell run page =
    ap (λ (cs : List (List Bool)). joined cs 0) (map-append spell run (page ∷ []))
    ∙ joined-push (map spell run) (spell page)

pub length-page : (form : CheckForm) (page : Page) → length (page_capsule form page) ≡ 38 + length page.body
length-page form page = omega (arith, length-capsule M30 form page.body)

-- the half-frame after a run
next_half_frame : (size o count : ℕ) → 0 < size → (size * o + count + size - 1) / size ≡ o + width size count
next_half_frame size o count large =
    let e : size * o + count + size - 1 ≡ size * o + (count + size - 1) = omega (arith, large) in
    ap (λ (k : ℕ). k / size) e ∙ mul-add-div large o (count + size - 1)

-- ---- where the pages lie

-- One page more at a run's end leaves the others where they lie and lies right after their bits, by
-- induction over them: each page moves the place of those after it on by its own bits.
placed_run-push : (size : ℕ) (spell : Page → List Bool) (run at : ℕ) (pages : List Page) (page : Page) →
    placed_run size spell run at (pages ++ page ∷ [])
    ≡ placed_run size spell run at pages ++
    record {
      run = run;
      last = (at + length (spelled spell pages) + length (spell page) - 1) / size;
      page = page;
    } ∷ []
placed_run-push size spell run at [] page =
    let e : at ≡ at + 0 = omega arith in
    ap (λ (n : ℕ). let p : Placed =
    record { run = run; last = (n + length (spell page) - 1) / size; page = page } in p ∷ []) e
placed_run-push size spell run at (q ∷ pages) page =
    let next = at + length (spell q) in
    let e : next + length (spelled spell pages) ≡ at + length (spelled spell (q ∷ pages)) =
    omega (arith, length-append (spell q) (spelled spell pages)) in
    let first : Placed = record { run = run; last = (next - 1) / size; page = q } in
    ap (λ (l : List Placed). first ∷ l)
    (placed_run-push size spell run next pages page
    ∙ ap (λ (n : ℕ). placed_run size spell run next pages ++
    record { run = run; last = (n + length (spell page) - 1) / size; page = page } ∷ []) e)

pub placed-follows : (size : ℕ) (form : CheckForm) (at run : ℕ) (page : Page) (pages : List Page) →
    page.follows ≡ true → placed size form at run (page ∷ pages)
    ≡ record {
      run = run;
      last = (at + length (page_capsule form page) - 1) / size;
      page = page;
    } ∷ placed size form (at + length (page_capsule form page)) run pages
placed-follows size form at run page pages t = rw t refl

pub placed-begins : (size : ℕ) (form : CheckForm) (at run o : ℕ) (page : Page) (pages : List Page) →
    page.follows ≡ false → (at + size - 1) / size * size ≡ size * o → (at + size - 1) / size * size / size ≡ o →
    placed size form at run (page ∷ pages)
    ≡ record {
      run = o;
      last = (size * o + length (page_capsule form page) - 1) / size;
      page = page;
    } ∷ placed size form (size * o + length (page_capsule form page)) o pages
placed-begins size form at run o page pages f e g = rw (f, g, e) refl

-- a page that begins a run after one that began in half-frame `o`
placed_next : (size : ℕ) (form : CheckForm) (at run o count : ℕ) (page : Page)
    (pages : List Page) → 0 < size → page.follows ≡ false → at ≡ size * o + count →
    placed size form at run (page ∷ pages)
    ≡ record {
      run = o + width size count;
      last = (size * (o + width size count) + length (page_capsule form page) - 1) / size;
      page = page;
    } ∷ placed size form (size * (o + width size count) + length (page_capsule form page))
    (o + width size count) pages
placed_next size form at run o count page pages large f e =
    let next = o + width size count in
    let quotient : (at + size - 1) / size ≡ next =
    ap (λ (n : ℕ). (n + size - 1) / size) e ∙ next_half_frame size o count large in
    let start : (at + size - 1) / size * size ≡ size * next = ap (λ (k : ℕ). k * size) quotient ∙ omega arith in
    placed-begins size form at run next page pages f start (turned_back size ((at + size - 1) / size) large ∙ quotient)

-- The pages lie where their runs lie, by induction over the pages: one that follows the page before
-- it makes the run longer, and any other ends the run and begins the next one at a half-frame.
pub pages_placed : (size : ℕ) (form : CheckForm) (pages run : List Page) (o at : ℕ) → 0 < size →
    at ≡ size * o + length (spelled (page_capsule form) run) →
    placed_run size (page_capsule form) o (size * o) run ++ placed size form at o pages
    ≡ placed_runs size (page_capsule form) o (runs_of run pages)
pages_placed size form [] run o at large e = refl
pages_placed size form (page ∷ pages) run o at large e =
    let spell = page_capsule form in
    let count = length (spelled spell run) in
    let c = spell page in
    let before = placed_run size spell o (size * o) run in
    elim (cases_Bool page.follows) [
      | inl t ↦
          let p : Placed = record { run = o; last = (size * o + count + length c - 1) / size; page = page } in
          let rest = placed size form (at + length c) o pages in
          ap (λ (l : List Placed). before ++ l)
          (placed-follows size form at o page pages t
          ∙ ap (λ (n : ℕ). let x : Placed =
          record { run = o; last = (n + length c - 1) / size; page = page } in x ∷ rest) e)
          ∙ sym (append_assoc before (p ∷ []) rest)
          ∙ ap (λ (l : List Placed). l ++ rest) (sym (placed_run-push size spell o (size * o) run page))
          ∙ pages_placed size form pages (run ++ page ∷ []) o (at + length c) large
          (omega (arith, e, ap length (spelled-push spell run page), length-append (spelled spell run) c))
          ∙ ap (placed_runs size spell o) (sym (runs-follow run page pages t))
      | inr f ↦
          let next = o + width size count in
          let one : length (spelled spell (page ∷ [])) ≡ length c = omega (arith, length-append c []) in
          ap (λ (l : List Placed). before ++ l)
          (placed_next size form at o o count page pages large f e
          ∙ pages_placed size form pages (page ∷ []) next (size * next + length c) large (omega (arith, one)))
          ∙ ap (placed_runs size spell o) (sym (runs-begin run page pages f))
    ]

-- ---- pages as puts

-- the capsules of the runs of pages are those of the runs of their puts
runs-put : (form : CheckForm) (pages run : List Page) → map (map (page_capsule form)) (runs_of run pages)
    ≡ runs_put (map (page_capsule form) run) (map (put_of form) pages)
runs-put form [] run = refl
runs-put form (page ∷ pages) run =
    let spell = page_capsule form in
    let puts = map (put_of form) pages in
    elim (cases_Bool page.follows) [
      | inl t ↦
          ap (map (map spell)) (runs-follow run page pages t)
          ∙ runs-put form pages (run ++ page ∷ [])
          ∙ ap (λ (cs : List (List Bool)). runs_put cs puts) (map-append spell run (page ∷ []))
          ∙ sym (put-follows (map spell run) (put_of form page) puts t)
      | inr f ↦
          ap (map (map spell)) (runs-begin run page pages f)
          ∙ ap (λ (runs : List (List (List Bool))). map spell run ∷ runs) (runs-put form pages (page ∷ []))
          ∙ sym (put-begins (map spell run) (put_of form page) puts f)
    ]

pieces-put : (size : ℕ) (spell : Page → List Bool) (runs : List (List Page)) →
    pieces_of size spell runs ≡ runs_pieces size (map (map spell) runs)
pieces-put size spell [] = refl
pieces-put size spell (run ∷ runs) =
    ap (λ (l : List Piece). run_pieces size (map spell run) ++ l) (pieces-put size spell runs)

pages_some : (form : CheckForm) (pages : List Page) → AreSome (map (put_of form) pages)
pages_some form [] = tt
pages_some form (page ∷ pages) = (omega (arith, length-page form page), pages_some form pages)

-- The half-frames of pages are those of their runs.
pub runs_laid : (size : ℕ) (form : CheckForm) (page : Page) (pages : List Page) → 0 < size → page.follows ≡ false →
    laying.half_frames_of size (laid_pages size form (page ∷ pages))
    ≡ stream (pieces_of size (page_capsule form) (runs_of (page ∷ []) pages))
runs_laid size form page pages large f =
    first_puts_laid size (put_of form page) (map (put_of form) pages) large f (pages_some form (page ∷ pages))
    ∙ sym (ap stream (pieces-put size (page_capsule form) (runs_of (page ∷ []) pages)
    ∙ ap (runs_pieces size) (runs-put form pages (page ∷ []))))

-- ---- the first page

-- the first page follows none
pub first_begins : (size : ℕ) (form : CheckForm) (page : Page) (pages : List Page) → 0 < size →
    AreSendable size 0 (page ∷ pages) → AreHeard size 0 (page ∷ pages) → page.follows ≡ false
first_begins size form page pages large sent heard =
    first_put_begins size (put_of form page) (map (put_of form) pages) large
    (puts_lawful size form laying.nothing_laid (page ∷ pages) 0 refl sent heard)

-- pages from the first one on
pub first_runs : (size : ℕ) (form : CheckForm) (page : Page) (pages : List Page) → 0 < size →
    AreSendable size 0 (page ∷ pages) → AreHeard size 0 (page ∷ pages) →
    AreRuns size (page_capsule form) (runs_of (page ∷ []) pages)
first_runs size form page pages large sent heard =
    subst (AreChainedRuns size) (sym (runs-put form pages (page ∷ [])))
    (first_puts_chained size (put_of form page) (map (put_of form) pages) large
    (puts_lawful size form laying.nothing_laid (page ∷ pages) 0 refl sent heard))
