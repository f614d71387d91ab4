-- Lines of fields that have no sign: what was read of them by their table, and what the line says.
use Rattle.cell_script.proofs.Common.{List, None, Option, Some, [], ap, arith, at_end, cases_eq, drop, get_or, get_or-set_other, inl, inr}
use Rattle.cell_script.proofs.Common.{get_or-set_same, length, option_map, past, script_field, set, subst, sym, ℕ, ◌+◌, ◌<◌, ◌∙◌, ◌∷◌, ◌≡◌}
use Rattle.cell_script.proofs.Common.{◌≤◌, refl, Bool, CellIdentity, CheckForm, PagingLine, PilotPlan, TrafficLine, cell_in, cell_line, not}
use Rattle.cell_script.proofs.Common.{codes, check_form, cond, false, number_up_to, paging_in, pilot_in, serial_number_in, state_in, true}
use Rattle.cell_script.proofs.Common.{traffic_in, ◌%◌, ◌/◌, ◌==◌}
use Rattle.std.proofs.lemmas.List.{at_drop_all, at_drop_more, get_or-map}
use Rattle.cell_script.specs.ScriptFields.{AreOfForms, IsOfForm, row_form, unsigned_from, unsigned_line, unsigned_of}
use Rattle.cell_script.specs.declared.tables.FieldForm.{FieldForm}
use Rattle.cell_script.specs.declared.tables.StatementField.{StatementField}
use Rattle.cell_script.proofs.ScriptBounds.{step}
use Rattle.cell_script.specs.declared.tables.FieldForm.TheVariants as forms

-- ---- one field after another

-- the values before field k were read, and this text is left
abbrev pub AreValuesRead : List StatementField → List ℕ → ℕ → List ℕ → List ℕ → Type 0
AreValuesRead rows text k values rest = unsigned_line rows text ≡ unsigned_from k values (drop k rows) rest

next_field : (rows : List StatementField) (text : List ℕ) (k : ℕ) (values rest : List ℕ) (d : StatementField) →
    k < length rows → AreValuesRead rows text k values rest →
    unsigned_line rows text ≡ unsigned_from k values (get_or rows k d ∷ drop (k + 1) rows) rest
next_field rows text k values rest d inside before =
    before
    ∙ at_drop_more (λ (rs : List StatementField). unsigned_from k values rs rest) rows k d inside

pub value_missing : (rows : List StatementField) (text : List ℕ) (k : ℕ) (values rest : List ℕ) (d : StatementField) →
    k < length rows → script_field (get_or rows k d).key.now (unsigned_of (get_or rows k d).form) rest ≡ None →
    AreValuesRead rows text k values rest → unsigned_line rows text ≡ None
value_missing rows text k values rest d inside is before =
    next_field rows text k values rest d inside before
    ∙ ap (λ (o : Option ℕ).
    step o (λ v. unsigned_from (k + 1) (set values k v) (drop (k + 1) rows) (past (get_or rows k d).key.now rest))) is

pub value_read : (rows : List StatementField) (text : List ℕ) (k : ℕ) (values rest next : List ℕ) (value : ℕ)
    (d : StatementField) → k < length rows →
    script_field (get_or rows k d).key.now (unsigned_of (get_or rows k d).form) rest ≡ Some value →
    next ≡ past (get_or rows k d).key.now rest → AreValuesRead rows text k values rest →
    AreValuesRead rows text (k + 1) (set values k value) next
value_read rows text k values rest next value d inside is next_is before =
    next_field rows text k values rest d inside before
    ∙ ap (λ (o : Option ℕ).
    step o (λ v. unsigned_from (k + 1) (set values k v) (drop (k + 1) rows) (past (get_or rows k d).key.now rest))) is
    ∙ ap (unsigned_from (k + 1) (set values k value) (drop (k + 1) rows)) (sym next_is)

pub values_read : (rows : List StatementField) (text : List ℕ) (k : ℕ) (values rest : List ℕ) → length rows ≤ k →
    AreValuesRead rows text k values rest → unsigned_line rows text ≡ at_end rest values
values_read rows text k values rest all before =
    before ∙ at_drop_all (λ (rs : List StatementField). unsigned_from k values rs rest) rows k all

-- A value in the range of its field's form, put in its place, keeps those before it in theirs.
pub value_in_form : (rows : List StatementField) (k : ℕ) (values : List ℕ) (value : ℕ) (d : StatementField) →
    k < length rows → k < length values → IsOfForm (get_or rows k d).form value →
    AreOfForms rows k values → AreOfForms rows (k + 1) (set values k value)
value_in_form rows k values value d inside room is before j small = elim (cases_eq j k) [
  | inl same ↦
      let form_is : row_form rows k ≡ (get_or rows k d).form =
      get_or-map (λ (r : StatementField). r.form) rows k d forms.Signed inside in
      subst (λ (n : ℕ). IsOfForm (row_form rows n) (get_or (set values k value) n 0)) (sym same)
      (subst (λ (form : FieldForm). IsOfForm form (get_or (set values k value) k 0)) (sym form_is)
      (subst (IsOfForm (get_or rows k d).form) (sym (get_or-set_same values k value 0 room)) is))
  | inr other ↦
      subst (IsOfForm (row_form rows j)) (sym (get_or-set_other values k j value 0 other))
      (before j (omega (arith, small, other)))
]

-- ---- lines of one, two and four fields

-- the text goes on, or is read
pub not_at_its_end : (text values : List ℕ) → (text ≡ [] → false ≡ true) → at_end text values ≡ None
not_at_its_end [] values more = absurd (cc (more refl))
not_at_its_end (byte ∷ bytes) values more = refl

pub read_to_its_end : (text values : List ℕ) → text ≡ [] → at_end text values ≡ Some values
read_to_its_end text values none = ap (λ (t : List ℕ). at_end t values) none

-- the values of one, two, three and four fields
abbrev values_of_one : Option ℕ → Option (ℕ × Unit {0})
values_of_one d = step d (λ z. Some (z, tt))

abbrev values_of_two : Option ℕ → Option ℕ → Option (ℕ × (ℕ × Unit {0}))
values_of_two c d = step c (λ y. step (values_of_one d) (λ zs. Some (y, zs)))

abbrev values_of_three : Option ℕ → Option ℕ → Option ℕ → Option (ℕ × (ℕ × (ℕ × Unit {0})))
values_of_three b c d = step b (λ x. step (values_of_two c d) (λ ys. Some (x, ys)))

abbrev values_of_four : Option ℕ → Option ℕ → Option ℕ → Option ℕ → Option (ℕ × (ℕ × (ℕ × (ℕ × Unit {0}))))
values_of_four a b c d = step a (λ w. step (values_of_three b c d) (λ xs. Some (w, xs)))

-- what is made of the values of four fields is made of them as they stand in a list
pub four_values_read : {X : Type 0} (line : ℕ → ℕ → ℕ → ℕ → X) (a b c d : Option ℕ) (rest : List ℕ) →
    step (values_of_four a b c d) (λ v. at_end rest (line v.0 v.1.0 v.1.1.0 v.1.1.1.0))
    ≡ option_map (λ (vs : List ℕ). line (get_or vs 0 0) (get_or vs 1 0) (get_or vs 2 0) (get_or vs 3 0))
    (step a (λ w. step b (λ x. step c (λ y. step d (λ z. at_end rest (w ∷ x ∷ y ∷ z ∷ []))))))
four_values_read line None b c d rest = refl
four_values_read line (Some w) None c d rest = refl
four_values_read line (Some w) (Some x) None d rest = refl
four_values_read line (Some w) (Some x) (Some y) None rest = refl
four_values_read line (Some w) (Some x) (Some y) (Some z) [] = refl
four_values_read line (Some w) (Some x) (Some y) (Some z) (byte ∷ bytes) = refl

-- so it is of two, which not all lines may have
pub two_values_read : {X : Type 0} (lawful : ℕ → Bool) (line : ℕ → ℕ → X) (a b : Option ℕ) (rest : List ℕ) →
    step (values_of_two a b) (λ v. step (cond (lawful v.0) (Some (line v.0 v.1.0)) None) (at_end rest))
    ≡ step (step a (λ w. step b (λ x. at_end rest (w ∷ x ∷ 0 ∷ 0 ∷ []))))
    (λ vs. cond (lawful (get_or vs 0 0)) (Some (line (get_or vs 0 0) (get_or vs 1 0))) None)
two_values_read lawful line None b rest = refl
two_values_read lawful line (Some w) None rest = refl
two_values_read lawful line (Some w) (Some x) [] = whole (lawful w)
  where
    whole : (test : Bool) → step (cond test (Some (line w x)) None) (at_end []) ≡ cond test (Some (line w x)) None
    whole true = refl
    whole false = refl
two_values_read lawful line (Some w) (Some x) (byte ∷ bytes) = more (lawful w)
  where
    more : (test : Bool) → step (cond test (Some (line w x)) None) (at_end (byte ∷ bytes)) ≡ None
    more true = refl
    more false = refl

pub one_value_read : {X : Type 0} (line : ℕ → X) (a : Option ℕ) (rest : List ℕ) →
    step (values_of_one a) (λ v. at_end rest (line v.0))
    ≡ option_map (λ (vs : List ℕ). line (get_or vs 0 0)) (step a (λ w. at_end rest (w ∷ 0 ∷ 0 ∷ 0 ∷ [])))
one_value_read line None rest = refl
one_value_read line (Some w) [] = refl
one_value_read line (Some w) (byte ∷ bytes) = refl

-- ---- statements

-- the values of four fields, as they stand in a list
abbrev four_in : List ℕ → (List ℕ → Option ℕ) → List ℕ → (List ℕ → Option ℕ) → List ℕ → (List ℕ → Option ℕ) →
    List ℕ → (List ℕ → Option ℕ) → List ℕ → Option (List ℕ)
four_in k0 r0 k1 r1 k2 r2 k3 r3 t0 =
    let t1 = past k0 t0 in
    let t2 = past k1 t1 in
    let t3 = past k2 t2 in
    step (script_field k0 r0 t0) (λ w.
    step (script_field k1 r1 t1) (λ x.
    step (script_field k2 r2 t2) (λ y.
    step (script_field k3 r3 t3) (λ z. at_end (past k3 t3) (w ∷ x ∷ y ∷ z ∷ [])))))

-- what they state
abbrev pub cell_of : List ℕ → CellIdentity
cell_of vs = cell_line (get_or vs 0 0) (get_or vs 1 0) (get_or vs 2 0) (get_or vs 3 0)

abbrev cell_with : List ℕ → CheckForm → CheckForm → CellIdentity
cell_with vs check30 check16 = record {
  pn = get_or vs 0 0;
  time = get_or vs 1 0;
  lc = get_or vs 2 0;
  check30 = check30;
  check16 = check16;
}

pub cell_made : (vs : List ℕ) (check30 check16 : CheckForm) → check30 ≡ check_form (get_or vs 3 0 % 2) →
    check16 ≡ check_form (get_or vs 3 0 / 2) → Some (cell_with vs check30 check16) ≡ Some (cell_of vs)
cell_made vs check30 check16 low high =
    ap (λ (form : CheckForm). Some (cell_with vs form check16)) low
    ∙ ap (λ (form : CheckForm). Some (cell_with vs (check_form (get_or vs 3 0 % 2)) form)) high

abbrev traffic_with : ℕ → ℕ → ℕ → ℕ → TrafficLine
traffic_with row esn offset gain = record { row = row; esn = esn; offset = offset; gain = gain }

abbrev pub traffic_of : List ℕ → TrafficLine
traffic_of vs = traffic_with (get_or vs 0 0) (get_or vs 1 0) (get_or vs 2 0) (get_or vs 3 0)

abbrev paging_with : ℕ → ℕ → PagingLine
paging_with number gain = record { number = number; gain = gain }

abbrev pub paging_of : List ℕ → Option PagingLine
paging_of vs = cond (not (get_or vs 0 0 == 0)) (Some (paging_with (get_or vs 0 0) (get_or vs 1 0))) None

abbrev pilot_with : ℕ → PilotPlan
pilot_with gain = record { gain = gain }

abbrev pub pilot_of : List ℕ → PilotPlan
pilot_of vs = pilot_with (get_or vs 0 0)

pub cell_by_table : (text : List ℕ) →
    cell_in text ≡ option_map cell_of (four_in (codes "cell pn=") (number_up_to 511) (codes " time=")
    (number_up_to 34359738368) (codes " lc=") state_in (codes " checks=") (number_up_to 3) text)
unfolding cell_in
cell_by_table text = four_values_read cell_line _ _ _ _ _

pub traffic_by_table : (text : List ℕ) →
    traffic_in text ≡ option_map traffic_of (four_in (codes "traffic row=") (number_up_to 63) (codes " esn=")
    serial_number_in (codes " offset=") (number_up_to 15) (codes " gain=") (number_up_to 65535) text)
unfolding traffic_in
traffic_by_table text = four_values_read traffic_with _ _ _ _ _

pub paging_by_table : (text : List ℕ) →
    let rest = past (codes "paging channel=") text in
    paging_in text
    ≡ step (step (script_field (codes "paging channel=") (number_up_to 7) text) (λ w.
    step (script_field (codes " gain=") (number_up_to 65535) rest) (λ x.
    at_end (past (codes " gain=") rest) (w ∷ x ∷ 0 ∷ 0 ∷ [])))) paging_of
unfolding paging_in
paging_by_table text =
    let rest = past (codes "paging channel=") text in
    two_values_read (λ n. not (n == 0)) paging_with (script_field (codes "paging channel=") (number_up_to 7) text)
    (script_field (codes " gain=") (number_up_to 65535) rest) (past (codes " gain=") rest)

pub pilot_by_table : (text : List ℕ) → pilot_in text
    ≡ option_map pilot_of (step (script_field (codes "pilot gain=") (number_up_to 65535) text) (λ w.
    at_end (past (codes "pilot gain=") text) (w ∷ 0 ∷ 0 ∷ 0 ∷ [])))
unfolding pilot_in
pilot_by_table text = one_value_read pilot_with _ _
