-- The lines of a script, one after another, and the plan that they state.
use Rattle.cell_script.proofs.Common.{◌≡◌, ℕ, zero, suc, ◌+◌, ◌-◌, ◌<◌, ◌≤◌, ◌==◌, Bool, true, false, List, [], ◌∷◌, ◌++◌, length, take, ap}
use Rattle.cell_script.proofs.Common.{drop, refl, sym, ◌∙◌, arith, Option, None, Some, Err, option_map_or, ok_or, cond-true, cond-false}
use Rattle.cell_script.proofs.Common.{eqb-true, false≢true, take-append-drop, take_all, length-drop, length-take-le, CellPlan, Draft, lines}
use Rattle.cell_script.proofs.Common.{length_before, plan_at, with_line, is_line, onto_first, draft_after, stated, stated_plan, empty_draft}
use Rattle.cell_script.proofs.Common.{eqb-false, before-mark, before-other}

-- ---- clauses

pub lines-none : lines [] ≡ []
unfolding lines
lines-none = refl

lines-end : (byte : ℕ) (bytes : List ℕ) → (byte == 10) ≡ true → lines (byte ∷ bytes) ≡ (byte ∷ []) ∷ lines bytes
unfolding lines
lines-end byte bytes lf = cond-true _ _ _ lf

lines-more : (byte : ℕ) (bytes : List ℕ) → (byte == 10) ≡ false → lines (byte ∷ bytes) ≡ onto_first byte (lines bytes)
unfolding lines
lines-more byte bytes other = cond-false _ _ _ other

is_line-none : is_line [] ≡ false
unfolding is_line
is_line-none = refl

pub is_line-end : (byte : ℕ) (bytes : List ℕ) → (byte == 10) ≡ true → is_line (byte ∷ bytes) ≡ (length bytes == 0)
unfolding is_line
is_line-end byte bytes lf = cond-true _ _ _ lf

pub is_line-more : (byte : ℕ) (bytes : List ℕ) → (byte == 10) ≡ false → is_line (byte ∷ bytes) ≡ is_line bytes
unfolding is_line
is_line-more byte bytes other = cond-false _ _ _ other

pub stated-none : (draft : Draft) (n : ℕ) → stated draft n [] ≡ ok_or (plan_at draft) n
unfolding stated
stated-none draft n = refl

stated-line : (draft : Draft) (n : ℕ) (line : List ℕ) (more : List (List ℕ)) → stated draft n (line ∷ more)
    ≡ option_map_or (λ next. stated next (n + 1) more) (draft_after draft line) (Err n)
unfolding stated
stated-line draft n line more = refl

pub stated-next : (draft next : Draft) (n : ℕ) (line : List ℕ) (more : List (List ℕ)) →
    draft_after draft line ≡ Some next → stated draft n (line ∷ more) ≡ stated next (n + 1) more
stated-next draft next n line more is = stated-line draft n line more
    ∙ ap (λ (o : Option Draft). option_map_or (λ s. stated s (n + 1) more) o (Err n)) is

pub stated-fault : (draft : Draft) (n : ℕ) (line : List ℕ) (more : List (List ℕ)) → draft_after draft line ≡ None →
    stated draft n (line ∷ more) ≡ Err n
stated-fault draft n line more is = stated-line draft n line more
    ∙ ap (λ (o : Option Draft). option_map_or (λ s. stated s (n + 1) more) o (Err n)) is

pub draft_after-line : (draft : Draft) (line : List ℕ) → is_line line ≡ true →
    draft_after draft line ≡ with_line draft (take (length line - 1) line)
unfolding draft_after
draft_after-line draft line is = cond-true _ _ _ is

pub draft_after-other : (draft : Draft) (line : List ℕ) → is_line line ≡ false → draft_after draft line ≡ None
unfolding draft_after
draft_after-other draft line is = cond-false _ _ _ is

pub stated_plan-lines : (script : List ℕ) → stated_plan script ≡ stated empty_draft 1 (lines script)
unfolding stated_plan
stated_plan-lines script = refl

-- ---- a line and what is after it

no_bytes : (bytes : List ℕ) → (length bytes == 0) ≡ true → bytes ≡ []
no_bytes [] none = refl
no_bytes (byte ∷ bytes) none = absurd (omega (arith, eqb-true (length (byte ∷ bytes)) 0 none))

lines_step : (byte : ℕ) (bytes following : List ℕ) (lf : Bool) → (byte == 10) ≡ lf → is_line (byte ∷ bytes) ≡ true →
    (is_line bytes ≡ true → lines (bytes ++ following) ≡ bytes ∷ lines following) →
    lines (byte ∷ bytes ++ following) ≡ (byte ∷ bytes) ∷ lines following
lines_step byte bytes following true lf is rest =
    let none = no_bytes bytes (sym (is_line-end byte bytes lf) ∙ is) in
    lines-end byte (bytes ++ following) lf
    ∙ ap (λ (b : List ℕ). (byte ∷ []) ∷ lines (b ++ following)) none
    ∙ ap (λ (b : List ℕ). (byte ∷ b) ∷ lines following) (sym none)
lines_step byte bytes following false other is rest =
    lines-more byte (bytes ++ following) other
    ∙ ap (onto_first byte) (rest (sym (is_line-more byte bytes other) ∙ is))

-- a whole line is the first of the lines that begin with it
pub lines-append : (line following : List ℕ) → is_line line ≡ true → lines (line ++ following) ≡ line ∷ lines following
lines-append [] following is = absurd (cc (is_line-none, is))
lines-append (byte ∷ bytes) following is =
    lines_step byte bytes following (byte == 10) refl is (lines-append bytes following)

-- ---- the first line of a script

abbrev first : List ℕ → List ℕ
first script = take (suc (length_before 10 script)) script

whole_step : (byte : ℕ) (bytes : List ℕ) (lf : Bool) → (byte == 10) ≡ lf →
    length_before 10 (byte ∷ bytes) < length (byte ∷ bytes) →
    (length_before 10 bytes < length bytes → is_line (first bytes) ≡ true) → is_line (first (byte ∷ bytes)) ≡ true
whole_step byte bytes true lf inside rest =
    ap (λ (k : ℕ). is_line (take (suc k) (byte ∷ bytes))) (before-mark 10 byte bytes (eqb-true byte 10 lf))
    ∙ is_line-end byte [] lf
whole_step byte bytes false other inside rest =
    let k = before-other 10 byte bytes (eqb-false byte 10 other) in
    ap (λ (k : ℕ). is_line (take (suc k) (byte ∷ bytes))) k ∙ is_line-more byte (first bytes) other
    ∙ rest (omega (arith, k, inside))

whole_line : (script : List ℕ) → length_before 10 script < length script → is_line (first script) ≡ true
whole_line [] inside = absurd (omega (arith, inside))
whole_line (byte ∷ bytes) inside = whole_step byte bytes (byte == 10) refl inside (whole_line bytes)

lines-first : (script : List ℕ) → length_before 10 script < length script →
    lines script ≡ first script ∷ lines (drop (suc (length_before 10 script)) script)
lines-first script inside =
    let k = suc (length_before 10 script) in
    ap lines (sym (take-append-drop k script))
    ∙ lines-append (first script) (drop k script) (whole_line script inside)

take_fewer : (k : ℕ) (bytes : List ℕ) → take k (take (suc k) bytes) ≡ take k bytes
take_fewer zero bytes = refl
take_fewer (suc k) [] = refl
take_fewer (suc k) (byte ∷ bytes) = ap (λ (b : List ℕ). byte ∷ b) (take_fewer k bytes)

first_text : (script : List ℕ) → length_before 10 script < length script →
    take (length (first script) - 1) (first script) ≡ take (length_before 10 script) script
first_text script inside =
    let k = length_before 10 script in
    let long : length (first script) - 1 ≡ k = omega (arith, length-take-le (suc k) script inside) in
    ap (λ (n : ℕ). take n (first script)) long ∙ take_fewer k script

draft_after-first : (draft : Draft) (script : List ℕ) → length_before 10 script < length script →
    draft_after draft (first script) ≡ with_line draft (take (length_before 10 script) script)
draft_after-first draft script inside =
    draft_after-line draft (first script) (whole_line script inside)
    ∙ ap (with_line draft) (first_text script inside)

-- ---- a last line without LF

unended_step : (byte : ℕ) (bytes : List ℕ) (lf : Bool) → (byte == 10) ≡ lf →
    length_before 10 (byte ∷ bytes) ≡ length (byte ∷ bytes) →
    (length_before 10 bytes ≡ length bytes → 0 < length bytes →
    (lines bytes ≡ bytes ∷ []) × (is_line bytes ≡ false)) →
    (lines (byte ∷ bytes) ≡ (byte ∷ bytes) ∷ []) × (is_line (byte ∷ bytes) ≡ false)
unended_step byte bytes true lf none rest = absurd (omega (arith, before-mark 10 byte bytes (eqb-true byte 10 lf), none))
unended_step byte [] false other none rest = (
  lines-more byte [] other ∙ ap (onto_first byte) lines-none,
  is_line-more byte [] other
      ∙ is_line-none,
)
unended_step byte (next ∷ bytes) false other none rest =
    let told = rest (omega (arith, before-other 10 byte (next ∷ bytes) (eqb-false byte 10 other), none)) (omega arith) in (
      lines-more byte (next ∷ bytes) other
          ∙ ap (onto_first byte) told.0,
      is_line-more byte (next ∷ bytes) other ∙ told.1,
    )

unended : (script : List ℕ) → length_before 10 script ≡ length script → 0 < length script →
    (lines script ≡ script ∷ []) × (is_line script ≡ false)
unended [] none some = absurd (omega (arith, some))
unended (byte ∷ bytes) none some = unended_step byte bytes (byte == 10) refl none (unended bytes)

-- ---- reading a script line by line

-- After a first line that can stand, the script's plan is what the lines after it state from the
-- next draft on: the line ends before the first LF, and the rest is all that stands after that LF.
pub line_read : (script : List ℕ) (draft next : Draft) (n end : ℕ) (rest : List ℕ) →
    end ≡ length_before 10 rest → end < length rest → with_line draft (take end rest) ≡ Some next →
    stated_plan script ≡ stated draft n (lines rest) → stated_plan script
    ≡ stated next (n + 1) (lines (take (length rest - (end + 1)) (drop (end + 1) rest)))
line_read script draft next n end rest end_is inside is before =
    let at_mark : length_before 10 rest < length rest = omega (arith, end_is, inside) in
    let told : draft_after draft (first rest) ≡ Some next = draft_after-first draft rest at_mark
    ∙ ap (λ (k : ℕ). with_line draft (take k rest)) (sym end_is) ∙ is in
    let one_more : suc (length_before 10 rest) ≡ end + 1 = omega (arith, end_is) in
    let left : take (length rest - (end + 1)) (drop (end + 1) rest) ≡ drop (end + 1) rest =
    take_all (length rest - (end + 1)) (drop (end + 1) rest) (omega (arith, length-drop (end + 1) rest)) in
    before
    ∙ ap (stated draft n) (lines-first rest at_mark)
    ∙ stated-next draft next n (first rest) (lines (drop (suc (length_before 10 rest)) rest)) told
    ∙ ap (λ (k : ℕ). stated next (n + 1) (lines (drop k rest))) one_more
    ∙ ap (λ (r : List ℕ). stated next (n + 1) (lines r)) (sym left)

-- the first line can't
pub line_refused : (script : List ℕ) (draft : Draft) (n end : ℕ) (rest : List ℕ) →
    end ≡ length_before 10 rest → end < length rest → with_line draft (take end rest) ≡ None →
    stated_plan script ≡ stated draft n (lines rest) → Err n ≡ stated_plan script
line_refused script draft n end rest end_is inside is before =
    let at_mark : length_before 10 rest < length rest = omega (arith, end_is, inside) in
    let told : draft_after draft (first rest) ≡ None = draft_after-first draft rest at_mark
    ∙ ap (λ (k : ℕ). with_line draft (take k rest)) (sym end_is) ∙ is in
    sym (before ∙ ap (stated draft n) (lines-first rest at_mark)
    ∙ stated-fault draft n (first rest) (lines (drop (suc (length_before 10 rest)) rest)) told)

-- there is no LF
pub line_unended : (script : List ℕ) (draft : Draft) (n : ℕ) (rest : List ℕ) →
    length_before 10 rest ≡ length rest → 0 < length rest →
    stated_plan script ≡ stated draft n (lines rest) → Err n ≡ stated_plan script
line_unended script draft n rest none some before =
    let told = unended rest none some in
    sym (before ∙ ap (stated draft n) told.0
    ∙ stated-fault draft n rest [] (draft_after-other draft rest told.1))

-- there are no more lines
pub lines_read : (script : List ℕ) (draft : Draft) (n : ℕ) (rest : List ℕ)
    (plan : Option CellPlan) → length rest ≡ 0 → plan ≡ plan_at draft →
    stated_plan script ≡ stated draft n (lines rest) → ok_or plan n ≡ stated_plan script
lines_read script draft n [] plan none is before =
    sym (before ∙ ap (stated draft n) lines-none ∙ stated-none draft n
    ∙ ap (λ (p : Option CellPlan). ok_or p n) (sym is))
lines_read script draft n (byte ∷ rest) plan none is before = absurd (omega (arith, none))

-- how many bytes are left
pub line_counted : (rest : List ℕ) (n end most : ℕ) → end < length rest → n + length rest ≤ most →
    n + 1 + length (take (length rest - (end + 1)) (drop (end + 1) rest)) ≤ most
line_counted rest n end most inside few =
    let left = length-drop (end + 1) rest in
    omega (arith, length-take-le (length rest - (end + 1)) (drop (end + 1) rest) (omega (arith, left)), inside, few)

pub is_left : (empty : Bool) (n : ℕ) → empty ≡ (n == 0) → empty ≡ false → 0 < n
is_left empty zero test none = absurd (false≢true (sym none ∙ test))
is_left empty (suc n) test none = omega arith

pub none_left : (empty : Bool) (n : ℕ) → empty ≡ (n == 0) → empty ≡ true → n ≡ 0
none_left empty n test all = eqb-true n 0 (sym test ∙ all)
