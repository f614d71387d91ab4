-- The lines of a script that is written, one item after another.
use Rattle.cell_script.proofs.Common.{◌≡◌, ℕ, ◌+◌, ◌<◌, ◌≤◌, List, [], ◌∷◌, ◌++◌, length, map, take, get_or, sym, ap, ◌∙◌, append_assoc}
use Rattle.cell_script.proofs.Common.{append-nil, flat_map, flat_map-append, take_all, Statement, lines_of, statement_line}
use Rattle.std.proofs.lemmas.List.{map_more, take_more}

-- lines after lines
lines_after : (first more : List Statement) (start old new : List ℕ) →
    old ≡ start ++ lines_of first → new ≡ old ++ lines_of more → new ≡ start ++ lines_of (first ++ more)
lines_after first more start old new old_is new_is =
    new_is
    ∙ ap (λ (t : List ℕ). t ++ lines_of more) old_is
    ∙ append_assoc start (lines_of first) (lines_of more)
    ∙ ap (λ (t : List ℕ). start ++ t) (sym (flat_map-append statement_line first more))

-- no line yet
pub none_written : (start : List ℕ) → start ≡ start ++ lines_of []
none_written start = sym (append-nil start)

-- one more item with a line
pub item_written : {A : Type 0} (told : A → Statement) (items : List A) (k : ℕ) (item : A)
    (start old new : List ℕ) → k < length items → item ≡ get_or items k item →
    old ≡ start ++ lines_of (map told (take k items)) → new ≡ old ++ statement_line (told item) →
    new ≡ start ++ lines_of (map told (take (k + 1) items))
item_written told items k item start old new inside item_is old_is new_is =
    lines_after (map told (take k items)) (told item ∷ []) start old new old_is
    (new_is ∙ ap (λ (t : List ℕ). old ++ t) (sym (append-nil (statement_line (told item)))))
    ∙ ap (λ (ss : List Statement). start ++ lines_of ss)
    (ap (λ x. map told (take k items) ++ told x ∷ []) item_is ∙ sym (map_more told items k item inside))

-- After item k's first line and its further ones the text has the lines of k + 1 items: their
-- statements are those of k items and those of item k after them (`flat_map-append`).
pub channel_written : {A : Type 0} (told : A → List Statement) (items : List A) (k : ℕ) (item : A)
    (first : Statement) (more : List Statement) (start old middle new : List ℕ) →
    k < length items → item ≡ get_or items k item → told item ≡ first ∷ more →
    old ≡ start ++ lines_of (flat_map told (take k items)) → middle ≡ old ++ statement_line first →
    new ≡ middle ++ lines_of more → new ≡ start ++ lines_of (flat_map told (take (k + 1) items))
channel_written told items k item first more start old middle new inside item_is told_is old_is
    middle_is new_is =
    let following = flat_map told (take k items) in
    let both : new ≡ old ++ lines_of (told item) =
    new_is
    ∙ ap (λ (t : List ℕ). t ++ lines_of more) middle_is
    ∙ append_assoc old (statement_line first) (lines_of more)
    ∙ ap (λ (ss : List Statement). old ++ lines_of ss) (sym told_is) in
    let all : flat_map told (take (k + 1) items) ≡ following ++ told item =
    ap (flat_map told) (take_more items k item inside)
    ∙ flat_map-append told (take k items) (get_or items k item ∷ [])
    ∙ ap (λ (ss : List Statement). following ++ ss) (append-nil (told (get_or items k item)) ∙ ap told (sym item_is)) in
    lines_after following (told item) start old new old_is both
    ∙ ap (λ (ss : List Statement). start ++ lines_of ss) (sym all)

-- all items
pub items_written : {A : Type 0} (told : List A → List Statement) (items : List A) (k : ℕ)
    (start new : List ℕ) → length items ≤ k → new ≡ start ++ lines_of (told (take k items)) →
    new ≡ start ++ lines_of (told items)
items_written told items k start new past is = is ∙ ap (λ xs. start ++ lines_of (told xs)) (take_all k items past)
