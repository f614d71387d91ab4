-- Lines of several fields, which were read one after another.
use Rattle.cell_script.proofs.Common.{Bool, LineForm, LinkPlan, List, None, Option, Some, Values, [], ap, arith, at_end, codes, cond-false}
use Rattle.cell_script.proofs.Common.{cond-true, false, is_link, lawful_line, link_in, link_statement, number_up_to, past, read64, refl, ℕ}
use Rattle.cell_script.proofs.Common.{script_field, signed_in, sym, true, unsigned_abs, w64, ℤ, ◌∙◌, ◌∷◌, ◌≡◌, ◌≤◌, of_z, to_z}
use Rattle.cell_script.proofs.ScriptBounds.{step}

-- what is made of the values of a line, by what is left after them
abbrev pub made_of_line : {X : Type 0} (form : LineForm X) → Values form.rows → List ℕ → Option X
made_of_line form v text = step (lawful_line form v) (at_end text)

-- the values of a link
pub link_read : (text0 text1 text2 text3 text4 : List ℕ) (re im : ℤ) (start samples : ℕ) →
    script_field (codes "link re=") signed_in text0 ≡ Some re → text1 ≡ past (codes "link re=") text0 →
    script_field (codes " im=") signed_in text1 ≡ Some im → text2 ≡ past (codes " im=") text1 →
    script_field (codes " start=") (number_up_to 4294967295) text2 ≡ Some start → text3 ≡ past (codes " start=") text2 →
    script_field (codes " samples=") (number_up_to 18446744073709551615) text3 ≡ Some samples →
    text4 ≡ past (codes " samples=") text3 →
    link_in text0 ≡ made_of_line link_statement (re, (im, (start, (samples, tt)))) text4
unfolding link_in
link_read text0 text1 text2 text3 text4 re im start samples first past_first second past_second
    third past_third fourth past_fourth =
    rw (
      sym past_first,
      sym past_second,
      sym past_third,
      sym past_fourth,
      first,
      second,
      third,
      fourth,
    ) refl

-- values that may not stand together, a text that goes on, and a whole line
pub unlawful : {X : Type 0} (form : LineForm X) (v : Values form.rows) (text : List ℕ) →
    form.lawful v ≡ false → made_of_line form v text ≡ None
unlawful form v text is = ap (λ o. step o (at_end text)) (cond-false (form.lawful v) (Some (form.line v)) None is)

pub left_over : {X : Type 0} (form : LineForm X) (v : Values form.rows) (text : List ℕ) →
    (text ≡ [] → false ≡ true) → made_of_line form v text ≡ None
left_over form v text more = by_test (form.lawful v) refl
  where
    goes_on : (rest : List ℕ) → text ≡ rest → at_end text (form.line v) ≡ None
    goes_on [] is = absurd (cc (more is))
    goes_on (byte ∷ bytes) is = ap (λ t. at_end t (form.line v)) is

    by_test : (test : Bool) → form.lawful v ≡ test → made_of_line form v text ≡ None
    by_test false is = unlawful form v text is
    by_test true is =
        ap (λ o. step o (at_end text)) (cond-true (form.lawful v) (Some (form.line v)) None is)
        ∙ goes_on text refl

pub whole_line : {X : Type 0} (form : LineForm X) (v : Values form.rows) (text : List ℕ) →
    form.lawful v ≡ true → text ≡ [] → made_of_line form v text ≡ Some (form.line v)
whole_line form v text is none =
    ap (λ o. step o (at_end text)) (cond-true (form.lawful v) (Some (form.line v)) None is)
    ∙ ap (λ t. at_end t (form.line v)) none

-- the test of a link, whose parts the code holds in 64 bits
pub link_told : (re im : ℤ) (samples : ℕ) (test : Bool) → unsigned_abs re ≤ 32768 → unsigned_abs im ≤ 32768 →
    test ≡ is_link (to_z w64 (of_z w64 re)) (to_z w64 (of_z w64 im)) samples → is_link re im samples ≡ test
link_told re im samples test in_phase quadrature is =
    sym (is
    ∙ ap (λ (z : ℤ). is_link z (to_z w64 (of_z w64 im)) samples) (read64 re (omega (arith, in_phase)))
    ∙ ap (λ (z : ℤ). is_link re z samples) (read64 im (omega (arith, quadrature))))

-- and the link itself
abbrev link_of : ℤ → ℤ → ℕ → ℕ → LinkPlan
link_of re im start samples = link_statement.line (re, (im, (start, (samples, tt))))

pub link_held : (re im : ℤ) (start samples : ℕ) → unsigned_abs re ≤ 32768 → unsigned_abs im ≤ 32768 →
    Some (link_of (to_z w64 (of_z w64 re)) (to_z w64 (of_z w64 im)) start samples) ≡ Some (link_of re im start samples)
link_held re im start samples in_phase quadrature =
    ap (λ (z : ℤ). Some (link_of z (to_z w64 (of_z w64 im)) start samples)) (read64 re (omega (arith, in_phase)))
    ∙ ap (λ (z : ℤ). Some (link_of re z start samples)) (read64 im (omega (arith, quadrature)))
