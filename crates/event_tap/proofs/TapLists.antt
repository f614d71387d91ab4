-- Lemmas on lists of taps.
use Rattle.event_tap.proofs.Common.{◌≡◌, ℕ, zero, suc, ◌+◌, ◌≤◌, ◌<◌, All, List, [], ◌∷◌, ◌++◌, length, map, take, drop, refl, sym, ap, ◌∙◌}
use Rattle.event_tap.proofs.Common.{subst, arith, rules, append_assoc, append-nil, length-append, Option, None, Some, slice_index_or, Event}
use Rattle.event_tap.proofs.Common.{slice_set, get_or-map, length-map, length-set, take_more_set, take-set, drop-set-lt}
use Rattle.event_tap.proofs.Common.{at_drop_more, map-append, take_at, drop_at, length-take-le, remove, Appends}
use Rattle.std.proofs.lemmas.List.Elements.{All-append, All-set, All-take, All-drop, All-map, All-get_or}
use Rattle.std.proofs.KnownBytes.{Appends-trans}
use Rattle.cdma_io.proofs.Prefixes.{prefix_after, prefix_before}
use Rattle.cdma_io.specs.Outside.{AppendsPrefix}
use Rattle.event_tap.specs.Taps.{KeptTap, IsKept, kept_or_done, heard_text, kept_by, tap_after, kept_with, left_after, line_text, form_line}
use Rattle.event_tap.specs.Taps.{taps_after}
use Rattle.event_tap.specs.declared.tap.Heard.{Heard}
use Rattle.event_tap.specs.declared.tap.Heard.TheVariants.{Keep, Done}

-- what contracts see of a tap
abbrev pub seen : {T : Type 0} → (T → ℕ) → (T → ℕ) → T → KeptTap
seen shape left t = record { form = shape t; left = left t }

-- taps on their way to their limits: those before a place have theirs, and those from there on are
-- as they were
pub record IsLimiting {T : Type 0} (shape left : T → ℕ) (limits : List ℕ) (all now : List T)
    (place : ℕ) : Type 0 where
  pub within : place ≤ length now
  pub value : map (seen shape left) (take place now) ++
      kept_by limits (map shape (drop place now)) ≡ kept_by limits (map shape all)
  pub kept : All IsKept (map (seen shape left) (take place now))

-- taps on their way through an event: those before a place heard it, and those from there on are as
-- they were
pub record IsHearing {T : Type 0} (shape left : T →
    ℕ) (event : Event) (before after : Option (List ℕ)) (all now : List T) (place : ℕ) :
    Type 0 where
  pub within : place ≤ length now
  pub text : List ℕ
  pub appended : Appends before after text
  pub whole : text ++ heard_text (map (seen shape left) (drop place now)) event ≡
      heard_text (map (seen shape left) all) event
  pub following : map (seen shape left) (take place now) ++ taps_after (map (seen shape left) (drop place now)) event ≡
      taps_after (map (seen shape left) all) event
  pub kept : All (λ t. IsKept (seen shape left t)) now

-- what is known of a tap that heard an event
pub record HasHeard {T : Type 0} (shape left : T → ℕ) (event : Event) (t y : T) (text : List ℕ)
    (answer : Heard) : Type 0 where
  pub line_is : text ≡ line_text (form_line (shape t) event)
  pub form_is : shape y ≡ shape t
  pub left_is : left y ≡ left_after (form_line (shape t) event) (left t)
  pub answer_is : answer ≡ kept_or_done (left y)

-- the same of what a call says of it
pub has_heard : {T : Type 0} (shape left : T → ℕ) (event : Event) (t y : T) (out text : List ℕ)
    (answer : Heard) → text ≡ out → out ≡ line_text (form_line (shape t) event) →
    shape y ≡ shape t → left y ≡ left_after (form_line (shape t) event) (left t) →
    answer ≡ kept_or_done (left y) → HasHeard shape left event t y text answer
has_heard shape left event t y out text answer shown line_is form_is left_is answer_is = record {
  line_is = shown ∙ line_is;
  form_is = form_is;
  left_is = left_is;
  answer_is = answer_is;
}

-- a tap with no event left isn't kept, and one with events left is
kept_when : (form left : ℕ) → kept_or_done left ≡ Keep → kept_with form left ≡ record {
  form = form;
  left = left;
} ∷ []
kept_when form zero e = search rules
kept_when form (suc left) e = search rules

left_when : (left : ℕ) → kept_or_done left ≡ Keep → 1 ≤ left
left_when zero e = search rules
left_when (suc left) e = omega arith

none_when : (form left : ℕ) → kept_or_done left ≡ Done → kept_with form left ≡ []
none_when form zero e = search rules
none_when form (suc left) e = search rules

keeps : (written : Option (List ℕ)) → Appends written written []
keeps None = tt
keeps (Some bytes) = sym (append-nil bytes)

module _ {T : Type 0} where
  -- what a list of what is seen says of each tap
  pub All-seen : (shape left : T → ℕ) (xs : List T) → All IsKept (map (seen shape left) xs) →
      All (λ t. IsKept (seen shape left t)) xs
  All-seen shape left xs h k d within =
      let long : k < length (map (seen shape left) xs) = rw (length-map xs (seen shape left)) within in
      subst IsKept (get_or-map (seen shape left) xs k d (seen shape left d) within) (h k (seen shape left d) long)

  -- a list without a place, whatever stood there
  pub remove_set : (xs : List T) (place : ℕ) (y : T) →
      remove (slice_set xs place y) place ≡ take place xs ++ drop (place + 1) xs
  remove_set xs place y =
      let front : take place (slice_set xs place y) ≡ take place xs = take-set xs place y in
      let one : suc place ≡ place + 1 = omega arith in
      let back : drop (suc place) (slice_set xs place y) ≡ drop (suc place) xs =
      drop-set-lt (suc place) xs place y (omega arith) in
      ap (λ (ys : List T). ys ++ drop (suc place) (slice_set xs place y)) front ∙
      ap (λ (ys : List T). take place xs ++ ys) back ∙
      ap (λ (n : ℕ). take place xs ++ drop n xs) one

  -- what is left to hear at a place, taken apart
  at_place : {Y : Type 0} (F : List T → Y) (xs : List T) (place : ℕ) (t : T) → place < length xs →
      t ≡ slice_index_or xs place t → F (drop place xs) ≡ F (t ∷ drop (place + 1) xs)
  at_place F xs place t within is =
      at_drop_more F xs place t within ∙ ap (λ (x : T). F (x ∷ drop (place + 1) xs)) (sym is)

  -- the text after the next tap
  whole_more : (shape left : T → ℕ) (event : Event) (all now : List T) (place : ℕ) (t y : T)
      (text line : List ℕ) (answer : Heard) → text ++ heard_text (map (seen shape left) (drop place now)) event ≡
      heard_text (map (seen shape left) all) event → HasHeard shape left event t y line answer → place < length now →
      t ≡ slice_index_or now place t →
      (text ++ line) ++ heard_text (map (seen shape left) (drop (place + 1) now)) event ≡
      heard_text (map (seen shape left) all) event
  whole_more shape left event all now place t y text line answer whole h within is =
      append_assoc text line (heard_text (map (seen shape left) (drop (place + 1) now)) event)
      ∙ ap (λ (l : List ℕ). text ++ (l ++ heard_text (map (seen shape left) (drop (place + 1) now)) event)) h.line_is
      ∙ sym (at_place (λ (xs : List T). text ++ heard_text (map (seen shape left) xs) event) now
      place t within is)
      ∙ whole

  -- what the next tap leaves of itself
  self_after : (shape left : T → ℕ) (event : Event) (t y : T) (line : List ℕ) (answer : Heard) →
      HasHeard shape left event t y line answer → tap_after event (seen shape left t) ≡ kept_with (shape y) (left y)
  self_after shape left event t y line answer h =
      sym (ap (λ (n : ℕ). kept_with n (left y)) h.form_is ∙
      ap (λ (n : ℕ). kept_with (shape t) n) h.left_is)

  -- the taps after the next one
  after_more : (shape left : T → ℕ) (event : Event) (all now : List T) (place : ℕ) (t y : T)
      (line : List ℕ) (answer : Heard) →
      map (seen shape left) (take place now) ++ taps_after (map (seen shape left) (drop place now))
      event ≡ taps_after (map (seen shape left) all) event →
      HasHeard shape left event t y line answer → place < length now → t ≡ slice_index_or now place t →
      map (seen shape left) (take place now) ++
      (kept_with (shape y) (left y) ++
      taps_after (map (seen shape left) (drop (place + 1) now)) event) ≡
      taps_after (map (seen shape left) all) event
  after_more shape left event all now place t y line answer following h within is =
      ap (λ (ks : List KeptTap). map (seen shape left) (take place now) ++
      (ks ++ taps_after (map (seen shape left) (drop (place + 1) now)) event))
      (sym (self_after shape left event t y line answer h))
      ∙ sym (at_place
      (λ (xs : List T). map (seen shape left) (take place now) ++
      taps_after (map (seen shape left) xs) event) now place t within is)
      ∙ following

  -- the next tap is kept
  pub hearing_kept : (shape left : T → ℕ) (event : Event) (before mid after : Option (List ℕ))
      (all now : List T) (place : ℕ) (t y : T) (line : List ℕ) (answer : Heard) →
      IsHearing shape left event before mid all now place →
      HasHeard shape left event t y line answer → place < length now → t ≡ slice_index_or now place t →
      answer ≡ Keep → Appends mid after line →
      IsHearing shape left event before after all (slice_set now place y) (place + 1)
  hearing_kept shape left event before mid after all now place t y line answer i h within is kept
      more =
      let stays : kept_or_done (left y) ≡ Keep = sym h.answer_is ∙ kept in
      let rest : drop (place + 1) (slice_set now place y) ≡ drop (place + 1) now =
      drop-set-lt (place + 1) now place y (omega arith) in
      let front : map (seen shape left) (take (place + 1) (slice_set now place y)) ≡
      map (seen shape left) (take place now) ++ seen shape left y ∷ [] =
      ap (map (seen shape left)) (take_more_set now place y within) ∙
      map-append (seen shape left) (take place now) (y ∷ []) in
      let form : shape (slice_index_or now place t) ≤ 3 =
      (All-get_or (λ (x : T). IsKept (seen shape left x)) now place t within i.kept).1 in
      let same : shape y ≡ shape (slice_index_or now place t) = h.form_is ∙ ap shape is in
      record {
        within = omega (arith, within, length-set now place y);
        text = i.text ++ line;
        appended = Appends-trans before mid after i.text line i.appended more;
        whole = ap (λ (xs : List T). (i.text ++ line) ++ heard_text (map (seen shape left) xs)
            event) rest ∙
            whole_more shape left event all now place t y i.text line answer i.whole h within is;
        following = ap (λ (ks : List KeptTap). ks ++
            taps_after (map (seen shape left) (drop (place + 1) (slice_set now place y))) event)
            front
            ∙ ap (λ (xs : List T). (map (seen shape left) (take place now) ++ seen shape left y ∷ []) ++
            taps_after (map (seen shape left) xs) event) rest
            ∙ append_assoc (map (seen shape left) (take place now)) (seen shape left y ∷ [])
            (taps_after (map (seen shape left) (drop (place + 1) now)) event)
            ∙ ap (λ (ks : List KeptTap). map (seen shape left) (take place now) ++
            (ks ++ taps_after (map (seen shape left) (drop (place + 1) now)) event))
            (sym (kept_when (shape y) (left y) stays))
            ∙ after_more shape left event all now place t y line answer i.following h within is;
        kept = All-set (λ (x : T). IsKept (seen shape left x)) now place y
            (left_when (left y) stays, omega (arith, form, same)) i.kept;
      }

  -- the next tap is done
  pub hearing_done : (shape left : T → ℕ) (event : Event) (before mid after : Option (List ℕ))
      (all now : List T) (place : ℕ) (t y : T) (line : List ℕ) (answer : Heard) →
      IsHearing shape left event before mid all now place →
      HasHeard shape left event t y line answer → place < length now → t ≡ slice_index_or now place t →
      answer ≡ Done → Appends mid after line →
      IsHearing shape left event before after all (remove (slice_set now place y) place) place
  hearing_done shape left event before mid after all now place t y line answer i h within is done
      more =
      let gone : kept_or_done (left y) ≡ Done = sym h.answer_is ∙ done in
      let rest = remove_set now place y in
      let parts : IsHearing shape left event before after all
      (take place now ++ drop (place + 1) now) place =
      record {
        within = omega (
          arith,
          within,
          length-append (take place now) (drop (place + 1) now),
          length-take-le place now (omega (arith, within)),
        );
        text = i.text ++ line;
        appended = Appends-trans before mid after i.text line i.appended more;
        whole = ap (λ (xs : List T). (i.text ++ line) ++ heard_text (map (seen shape left) xs)
            event) (drop_at (take place now) (drop (place + 1) now) place
            (length-take-le place now (omega (arith, within))))
            ∙ whole_more shape left event all now place t y i.text line answer i.whole h within is;
        following = ap (λ (xs : List T). map (seen shape left) xs ++
            taps_after (map (seen shape left) (drop place (take place now ++ drop (place + 1) now))) event)
            (take_at (take place now) (drop (place + 1) now) place (length-take-le place now (omega (arith, within))))
            ∙ ap (λ (xs : List T). map (seen shape left) (take place now) ++
            taps_after (map (seen shape left) xs) event)
            (drop_at (take place now) (drop (place + 1) now) place (length-take-le place now (omega (arith, within))))
            ∙ ap (λ (ks : List KeptTap). map (seen shape left) (take place now) ++
            (ks ++ taps_after (map (seen shape left) (drop (place + 1) now)) event))
            (sym (none_when (shape y) (left y) gone))
            ∙ after_more shape left event all now place t y line answer i.following h within is;
        kept = All-append (λ (x : T). IsKept (seen shape left x)) (take place now) (drop (place + 1) now)
            (All-take (λ (x : T). IsKept (seen shape left x)) place now i.kept)
            (All-drop (λ (x : T). IsKept (seen shape left x)) (place + 1) now i.kept);
      } in
      subst (λ (xs : List T). IsHearing shape left event before after all xs place) (sym rest) parts

  -- a write failed: what was written is a beginning
  pub hearing_failed : (shape left : T → ℕ) (event : Event) (before mid after : Option (List ℕ))
      (all now : List T) (place : ℕ) (t y : T) (line : List ℕ) (answer : Heard) →
      IsHearing shape left event before mid all now place →
      HasHeard shape left event t y line answer → place < length now → t ≡ slice_index_or now place t →
      AppendsPrefix mid after line → AppendsPrefix before after (heard_text (map (seen shape left) all) event)
  hearing_failed shape left event before mid after all now place t y line answer i h within is
      part =
      subst (AppendsPrefix before after)
      (whole_more shape left event all now place t y i.text line answer i.whole h within is)
      (prefix_before before after (i.text ++ line) (heard_text (map (seen shape left) (drop (place + 1) now)) event)
      (prefix_after before mid after i.text line i.appended part))

  pub All-seen-back : (shape left : T → ℕ) (xs : List T) →
      All (λ t. IsKept (seen shape left t)) xs → All IsKept (map (seen shape left) xs)
  All-seen-back shape left xs h = All-map IsKept (seen shape left) xs h

  -- none has heard it yet
  pub hearing_none : (shape left : T → ℕ) (event : Event) (written : Option (List ℕ))
      (all : List T) → All IsKept (map (seen shape left) all) → IsHearing shape left event written written all all 0
  hearing_none shape left event written all h = record {
    within = omega arith;
    text = [];
    appended = keeps written;
    whole = refl;
    following = refl;
    kept = All-seen shape left all h;
  }

  -- the taps without their text
  pub unwritten : (shape left : T → ℕ) (event : Event) (before after : Option (List ℕ))
      (all now : List T) (place : ℕ) → IsHearing shape left event before after all now place →
      IsHearing shape left event None None all now place
  unwritten shape left event before after all now place i = record {
    within = i.within;
    text = i.text;
    appended = tt;
    whole = i.whole;
    following = i.following;
    kept = i.kept;
  }
