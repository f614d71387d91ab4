-- What stands after the head, by its layouts.
use Rattle.traffic_message.proofs.Common.{◌≡◌, Bool, Option, ap, arith, length, refl, subst, sym, true, ◌<◌, ◌^◌, ◌∙◌, ◌∷◌, append-nil, []}
use Rattle.traffic_message.proofs.Common.{map-places-all, places, FieldsFit, in_widths, spelled, all_columns, first_column, no_columns, ℕ}
use Rattle.traffic_message.proofs.Common.{one_value, record_fit, plain_back, plain_of, plain_spelled, rest_back, mapped, reading, is_lawful}
use Rattle.traffic_message.proofs.Common.{IsGroup, IsOf, after_group, spelling, Contents, Flagged, bits_of, head_fields, head_values, Head}
use Rattle.traffic_message.proofs.Common.{kind_of, part_reading, in_traffic_widths, search_widths, TrafficBody, DirectionFields, Search}
use Rattle.traffic_message.proofs.Common.{UpdateFields, List, None, Some, get_or, MessageShape, BodyForm}
use Rattle.traffic_message.specs.Handoff as handoff
use Rattle.traffic_message.specs.InTraffic as parameters
use Rattle.traffic_message.specs.Layouts as layouts
use Rattle.traffic_message.specs.Neighbors as updates
use Rattle.traffic_message.specs.declared.body.TrafficBody.TheVariants as bodies
use Rattle.traffic_message.specs.declared.layouts.BodyForm.TheVariants as forms

-- CONTENTS OF A LAYOUT ARE THOSE OF THE MESSAGE THAT IS MADE OF THEM
parameters_back : (c : Contents) → IsOf parameters.in_traffic_shape c →
    parameters.in_traffic_contents (parameters.in_traffic_from c) ≡ c
unfolding parameters.in_traffic_of places
parameters_back c is =
    let values : parameters.in_traffic_values (parameters.in_traffic_from c) ≡ c.fixed =
    sym (map-places-all (λ k. get_or c.fixed k 0) c.fixed 10 0 is.fixed.all (λ k lt. refl)) in
    rw (values, no_columns c.columns is.columns) (plain_back in_traffic_widths [] 0 None c is)

update_back : (c : Contents) → IsOf updates.update_shape c → updates.update_contents (updates.update_from c) ≡ c
update_back c is =
    let values : get_or c.fixed 0 0 ∷ [] ≡ c.fixed = one_value c.fixed is.fixed.all in
    rw (values, first_column 9 c.columns is.columns) (plain_back (4 ∷ []) (9 ∷ []) 1 (Some 7) c is)

group_back : (group : Option (List ℕ)) (following : ℕ) → IsGroup Flagged search_widths group following →
    handoff.search_group (handoff.search_from group) ≡ group
unfolding handoff.search_of places
group_back None following is = refl
group_back (Some vs) following is = ap Some (sym (map-places-all (λ k. get_or vs k 0) vs 5 0 is.all (λ k lt. refl)))

direction_back : (c : Contents) → IsOf handoff.direction_shape c →
    handoff.direction_contents (handoff.direction_from c) ≡ c
unfolding handoff.direction_of places
direction_back c is =
    let values : get_or c.fixed 0 0 ∷ get_or c.fixed 1 0 ∷ get_or c.fixed 2 0 ∷ [] ≡ c.fixed =
    sym (map-places-all (λ k. get_or c.fixed k 0) c.fixed 3 0 is.fixed.all (λ k lt. refl)) in
    let group = group_back c.group (length (after_group handoff.direction_shape c)) is.group in
    rw (values, group, all_columns 9 1 8 c.columns is.columns) refl

search_made : (search : Option Search) → handoff.search_from (handoff.search_group search) ≡ search
unfolding handoff.search_of
search_made None = refl
search_made (Some search) = refl

direction_made : (m : DirectionFields) → handoff.direction_from (handoff.direction_contents m) ≡ m
unfolding handoff.direction_of
direction_made m = rw (search_made m.search) refl

-- THE RECORDS
pub neighbor_fits : (m : UpdateFields) (i : ℕ) → updates.IsNeighborUpdate m → i < length m.pns →
    get_or m.pns i 0 < 2 ^ 9
neighbor_fits m i is h = (record_fit (9 ∷ []) (length m.pns) i (m.pns ∷ [] ∷ [] ∷ []) h is.records).0

pub combs_paired : (m : DirectionFields) → handoff.IsHandoffDirection m → length m.combs ≡ length m.pns
combs_paired m is = ap (λ (ls : List ℕ). get_or ls 1 0) is.columns

pub rows_paired : (m : DirectionFields) → handoff.IsHandoffDirection m → length m.rows ≡ length m.pns
rows_paired m is = ap (λ (ls : List ℕ). get_or ls 2 0) is.columns

pub record_fits : (m : DirectionFields) (i : ℕ) → handoff.IsHandoffDirection m → i < length m.pns →
    (get_or m.pns i 0 < 2 ^ 9) × (get_or m.combs i 0 < 2 ^ 1) × (get_or m.rows i 0 < 2 ^ 8)
record_fits m i is h =
    let fit = record_fit (9 ∷ 1 ∷ 8 ∷ []) (length m.pns) i (m.pns ∷ m.combs ∷ m.rows ∷ []) h is.records in
    (fit.0, fit.1.0, fit.1.1.0)

pub search_fits : (search : Option Search) (following : ℕ) →
    IsGroup Flagged search_widths (handoff.search_group search) following → handoff.SearchFits search
search_fits None following is = tt
search_fits (Some search) following is = is.fit

-- WHAT STANDS AFTER A HEAD
pub lawful : (f : BodyForm) → is_lawful (layouts.traffic_shape_of f) ≡ true
unfolding is_lawful
lawful forms.Parameters = refl
lawful forms.Update = refl
lawful forms.Direction = refl
lawful forms.Plain = refl

-- what a body says are contents of its layout, and those of no other
pub laid : (b : TrafficBody) → layouts.HasFields b →
    IsOf (layouts.traffic_shape_of (layouts.form_in b)) (layouts.traffic_contents_of b)
laid (bodies.System m) is = is
laid (bodies.Neighbors m) is = is
laid (bodies.Handoff m) is = is
laid (bodies.Other kind bits) is =
    plain_of [] [] 0 None [] ([] ∷ [] ∷ [] ∷ []) bits (record { all = refl; fit = tt }) refl
    tt (omega arith) tt

pub made_again : (b : TrafficBody) →
    layouts.body_from (layouts.form_in b) (kind_of b) (layouts.traffic_contents_of b) ≡ b
unfolding parameters.in_traffic_of
made_again (bodies.System m) = refl
made_again (bodies.Neighbors m) = refl
made_again (bodies.Handoff m) = ap bodies.Handoff (direction_made m)
made_again (bodies.Other kind bits) = refl

-- contents of a layout are those of the body that is made of them
pub record IsMade (f : BodyForm) (c : Contents) (b : TrafficBody) : Type 0 where
  pub fields : layouts.HasFields b
  pub form : layouts.form_in b ≡ f
  pub contents : layouts.traffic_contents_of b ≡ c

pub made_of : (f : BodyForm) (kind : ℕ) (c : Contents) → IsOf (layouts.traffic_shape_of f) c →
    IsMade f c (layouts.body_from f kind c)
made_of forms.Parameters kind c is =
    let back = parameters_back c is in
    let own = subst (IsOf parameters.in_traffic_shape) (sym back) is in
    record { fields = own; form = refl; contents = back }
made_of forms.Update kind c is =
    let back = update_back c is in
    let own = subst (IsOf updates.update_shape) (sym back) is in
    record { fields = own; form = refl; contents = back }
made_of forms.Direction kind c is =
    let back = direction_back c is in
    let own = subst (IsOf handoff.direction_shape) (sym back) is in
    record { fields = own; form = refl; contents = back }
made_of forms.Plain kind c is = record { fields = tt; form = refl; contents = rest_back c is }

-- and so they are spelled as it is
pub spelled_as : (f : BodyForm) (c : Contents) (b : TrafficBody) (bits : List Bool) → IsMade f c b →
    bits ≡ spelling (layouts.traffic_shape_of f) c → bits ≡ bits_of b
spelled_as f c b bits made same =
    same ∙ ap (λ (g : BodyForm). spelling (layouts.traffic_shape_of g) c) (sym made.form)
    ∙ ap (spelling (layouts.traffic_shape_of (layouts.form_in b))) (sym made.contents)

-- WHAT THE CODE READS AND WRITES
pub reads_by_form : (kind encryption : ℕ) (bits : List Bool) (f : BodyForm) (s : MessageShape)
    (read : Option Contents) → f ≡ layouts.form_at kind encryption bits → s ≡ layouts.traffic_shape_of f →
    read ≡ reading s bits → mapped (layouts.body_from f kind) read ≡ part_reading kind encryption bits
unfolding part_reading
reads_by_form kind encryption bits f s read form layout e =
    ap (mapped (layouts.body_from f kind)) (e ∙ ap (λ (r : MessageShape). reading r bits) layout)
    ∙ ap (λ (g : BodyForm). mapped (layouts.body_from g kind) (reading (layouts.traffic_shape_of g) bits)) form

pub read_has_fields : (kind : ℕ) (f : BodyForm) (s : MessageShape) (c : Contents) → s ≡ layouts.traffic_shape_of f →
    IsOf s c → layouts.HasFields (layouts.body_from f kind c)
read_has_fields kind f s c layout is = (made_of f kind c (subst (λ (r : MessageShape). IsOf r c) layout is)).fields

pub written : (b : TrafficBody) (f : BodyForm) (s : MessageShape) (c : Contents) → layouts.HasFields b →
    f ≡ layouts.form_in b → s ≡ layouts.traffic_shape_of f → c ≡ layouts.traffic_contents_of b →
    IsOf s c × (spelling s c ≡ bits_of b)
written b f s c is form layout contents = rw (layout, form, contents) (laid b is, refl)

pub head_lawful : is_lawful layouts.head_shape ≡ true
unfolding is_lawful
head_lawful = refl

pub head_written : (k : ℕ) (h : Head) (c : Contents) → k < 2 ^ 8 → FieldsFit (head_fields h) →
    c ≡ layouts.head_contents k h → IsOf layouts.head_shape c
    × (spelling layouts.head_shape c ≡ spelled (in_widths layouts.typed_widths (k ∷ head_values h)))
head_written k h c small fit contents =
    let vs = k ∷ head_values h in
    let none : List (List ℕ) = [] ∷ [] ∷ [] ∷ [] in
    let is = plain_of layouts.typed_widths [] 0 None vs none []
    (record { all = refl; fit = (small, fit) }) refl tt (omega arith) tt in
    rw contents (
      is,
      plain_spelled layouts.typed_widths [] 0 None vs none []
          ∙ append-nil (spelled (in_widths layouts.typed_widths vs)),
    )
