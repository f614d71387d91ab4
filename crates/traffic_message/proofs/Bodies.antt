-- Bodies of messages, spelled and read again.
use Rattle.traffic_message.proofs.Common.{◌≡◌, ◌≢◌, ◌⊎◌, ℕ, ◌+◌, ◌%◌, ◌^◌, ◌<◌, ◌≤◌, ◌==◌, ◌&&◌, Bool, true, false, List, ◌∷◌, ◌++◌, length}
use Rattle.traffic_message.proofs.Common.{drop, refl, sym, ap, subst, ◌∙◌, arith, append_assoc, length-append, nat_le, inl, inr, Option, []}
use Rattle.traffic_message.proofs.Common.{Some, None, and_from, and_parts, cases_Bool, eq-eqb, false_from_ne_true, IsTrue, ◌↔◌, eqb-false, eqb-true, le-leb, leb-true, digit}
use Rattle.traffic_message.proofs.Common.{drop_at, binary, spelled, in_widths, FieldsFit, number_at, values_at, digit_again, values_again}
use Rattle.traffic_message.proofs.Common.{length-in_widths, values_there, FillsCapsule, M16, is_hard, head_widths, TrafficBody, Head, BodyForm}
use Rattle.traffic_message.proofs.Common.{HasFields, body_from, traffic_contents_of, form_at, form_in, traffic_shape_of, Contents, mapped}
use Rattle.traffic_message.proofs.Common.{fields_at, mapped_some, some_is, reading_again, reading_there, not_both, get_or, head_contents}
use Rattle.traffic_message.proofs.Common.{head_in, head_shape, typed_widths, spelling, plain_spelled, plain_contents, plain_shape}
use Rattle.traffic_message.proofs.ByLayout.{head_written, laid, lawful, made_again, made_of, spelled_as}
use Rattle.traffic_message.proofs.Directions.{soft_bits}
use Rattle.message_layout.specs.Reading as layouts
use Rattle.traffic_message.specs.Messages as messages
use Rattle.traffic_message.specs.Reading as reading
use Rattle.traffic_message.specs.declared.body.TrafficBody.TheVariants as bodies
use Rattle.traffic_message.specs.declared.layouts.BodyForm.TheVariants as forms

-- WHAT STANDS AFTER THE HEAD
-- what its form says of the type
abbrev IsForm : BodyForm → ℕ → ℕ → List Bool → Type 0
IsForm forms.Parameters kind encryption bits = (encryption ≡ 0) × (kind ≡ 7)
IsForm forms.Update kind encryption bits = (encryption ≡ 0) × (kind ≡ 8)
IsForm forms.Direction kind encryption bits = (encryption ≡ 0) × (kind ≡ 17) × (is_hard bits ≡ false)
IsForm forms.Plain kind encryption bits =
    (encryption ≢ 0) ⊎ ((kind ≢ 7) × (kind ≢ 8) × ((kind ≢ 17) ⊎ (is_hard bits ≡ true)))

form_is : (kind encryption : ℕ) (bits : List Bool) → IsForm (form_at kind encryption bits) kind encryption bits
form_is kind encryption bits =
    elim (cases_Bool (encryption == 0)) [
      | inr f ↦ rw f (inl (eqb-false encryption 0 f))
      | inl t ↦
          let zero = eqb-true encryption 0 t in
          elim (cases_Bool (kind == 7)) [
            | inl a ↦ rw (t, a) (zero, eqb-true kind 7 a)
            | inr a ↦ elim (cases_Bool (kind == 8)) [
              | inl b ↦ rw (t, a, b) (zero, eqb-true kind 8 b)
              | inr b ↦
                  let not_7 = eqb-false kind 7 a in
                  let not_8 = eqb-false kind 8 b in
                  elim (cases_Bool (kind == 17)) [
                    | inr d ↦ rw (t, a, b, d) (inr (not_7, not_8, inl (eqb-false kind 17 d)))
                    | inl d ↦ elim (cases_Bool (is_hard bits)) [
                      | inl hard ↦ rw (t, a, b, d, hard) (inr (not_7, not_8, inr hard))
                      | inr soft ↦ rw (t, a, b, d, soft) (zero, eqb-true kind 17 d, soft)
                    ]
                  ]
            ]
          ]
    ]

-- no other form says so of a type that has none of its own
only_plain : (h : Head) (f : BodyForm) (kind : ℕ) (bits : List Bool) →
    IsForm f kind h.encryption bits → messages.IsOfKind h (bodies.Other kind bits) → f ≡ forms.Plain
only_plain h forms.Parameters kind bits is (inl secret) = absurd (secret is.0)
only_plain h forms.Parameters kind bits is (inr other) = absurd (other.0 is.1)
only_plain h forms.Update kind bits is (inl secret) = absurd (secret is.0)
only_plain h forms.Update kind bits is (inr other) = absurd (other.1 is.1)
only_plain h forms.Direction kind bits is (inl secret) = absurd (secret is.0)
only_plain h forms.Direction kind bits is (inr (a, b, inl other)) = absurd (other is.1)
only_plain h forms.Direction kind bits is (inr (a, b, inr hard)) = absurd (not_both is.2 hard)
only_plain h forms.Plain kind bits is of_kind = refl

plain_bits : (bits : List Bool) →
    spelling (plain_shape [] [] 0 None) (plain_contents [] ([] ∷ [] ∷ [] ∷ []) bits) ≡ bits
plain_bits bits = plain_spelled [] [] 0 None [] ([] ∷ [] ∷ [] ∷ []) bits

form_again : (h : Head) (b : TrafficBody) → messages.IsOfKind h b →
    form_at (messages.kind_of b) h.encryption (messages.bits_of b) ≡ form_in b
form_again h (bodies.System m) is = let t = eq-eqb h.encryption 0 is.0 in rw t refl
form_again h (bodies.Neighbors m) is = let t = eq-eqb h.encryption 0 is.0 in rw t refl
form_again h (bodies.Handoff m) is =
    let t = eq-eqb h.encryption 0 is.0 in
    let soft = soft_bits m in
    rw (t, soft) refl
form_again h (bodies.Other kind bits) is =
    rw (plain_bits bits) (only_plain h (form_at kind h.encryption bits) kind bits (form_is kind h.encryption bits) is)

fields_of : (h : Head) (b : TrafficBody) → messages.IsOfKind h b → HasFields b
fields_of h (bodies.System m) is = is.1
fields_of h (bodies.Neighbors m) is = is.1
fields_of h (bodies.Handoff m) is = is.1
fields_of h (bodies.Other kind bits) is = tt

-- what was spelled is read again
pub part_again : (h : Head) (b : TrafficBody) → messages.IsOfKind h b →
    reading.part_reading (messages.kind_of b) h.encryption (messages.bits_of b) ≡ Some b
unfolding reading.part_reading
part_again h b is =
    let f = form_in b in
    let k = messages.kind_of b in
    let bits = messages.bits_of b in
    let own = laid b (fields_of h b is) in
    ap (λ (g : BodyForm). mapped (body_from g k) (layouts.reading (traffic_shape_of g) bits)) (form_again h b is)
    ∙ ap (mapped (body_from f k)) (reading_again (traffic_shape_of f) (traffic_contents_of b) (lawful f) own)
    ∙ ap Some (made_again b)

-- what it says has this type and these bits
abbrev pub Says : ℕ → ℕ → List Bool → TrafficBody → Type 0
Says kind encryption bits b =
    (messages.kind_of b ≡ kind) × (messages.bits_of b ≡ bits)
    × ((h : Head) → h.encryption ≡ encryption → messages.IsOfKind h b)

kind_is : (f : BodyForm) (kind encryption : ℕ) (bits : List Bool) (c : Contents) →
    IsForm f kind encryption bits → messages.kind_of (body_from f kind c) ≡ kind
kind_is forms.Parameters kind encryption bits c is = sym is.1
kind_is forms.Update kind encryption bits c is = sym is.1
kind_is forms.Direction kind encryption bits c is = sym is.1
kind_is forms.Plain kind encryption bits c is = refl

of_kind : (f : BodyForm) (kind encryption : ℕ) (bits : List Bool) (c : Contents) (h : Head) →
    IsForm f kind encryption bits → HasFields (body_from f kind c) →
    bits ≡ messages.bits_of (body_from f kind c) → h.encryption ≡ encryption → messages.IsOfKind h (body_from f kind c)
of_kind forms.Parameters kind encryption bits c h is fields same e = (e ∙ is.0, fields)
of_kind forms.Update kind encryption bits c h is fields same e = (e ∙ is.0, fields)
of_kind forms.Direction kind encryption bits c h is fields same e = (e ∙ is.0, fields)
of_kind forms.Plain kind encryption bits c h (inl secret) fields same e = inl (λ z. secret (sym e ∙ z))
of_kind forms.Plain kind encryption bits c h (inr plain) fields same e =
    inr (
      plain.0,
      plain.1,
      subst (λ (r : List Bool). (kind ≢ 17) ⊎ (is_hard r ≡ true))
          (same ∙ plain_bits c.rest) plain.2,
    )

-- what is read is spelled so
pub part_there : (h : Head) (kind : ℕ) (bits : List Bool) (b : TrafficBody) →
    reading.part_reading kind h.encryption bits ≡ Some b → Says kind h.encryption bits b
unfolding reading.part_reading
part_there h kind bits b e =
    let f = form_at kind h.encryption bits in
    let is = form_is kind h.encryption bits in
    let some = mapped_some (body_from f kind) (layouts.reading (traffic_shape_of f) bits) b e in
    let there = reading_there (traffic_shape_of f) bits some.0 (lawful f) some.1 in
    let made = made_of f kind some.0 there.0 in
    let same = spelled_as f some.0 (body_from f kind some.0) bits made there.1 in
    subst (Says kind h.encryption bits) some.2 (
      kind_is f kind h.encryption bits some.0 is,
      sym same,
      λ g e. of_kind f kind h.encryption bits some.0 g is made.fields same e,
    )

-- THE HEAD
bit_back : (b : Bool) → (digit b == 1) ≡ b
bit_back true = refl
bit_back false = refl

head_again : (h : Head) → reading.head_of (messages.head_values h) ≡ h
unfolding reading.head_of
head_again h = rw (bit_back h.ack_req) refl

head_back : (w : List Bool) → FieldsFit (in_widths head_widths (values_at head_widths w)) →
    messages.head_values (reading.head_of (values_at head_widths w)) ≡ values_at head_widths w
unfolding reading.head_of
head_back w fit =
    let c = number_at 0 1 (drop 3 (drop 3 w)) in
    let bit : digit (c == 1) ≡ c = digit_again c (omega (arith, fit.1.1.0)) in
    rw bit refl

-- a body is its type and its head as fields of one table, and what stands after them
typed : (m : messages.Message) → messages.traffic_message_body m
    ≡ spelled (in_widths typed_widths (messages.kind_of m.body ∷ messages.head_values m.head))
    ++ messages.bits_of m.body
unfolding messages.traffic_message_body
typed m =
    sym (append_assoc (binary 8 (messages.kind_of m.body)) (spelled (messages.head_fields m.head))
    (messages.bits_of m.body))

pub length-message : (m : messages.Message) →
    length (messages.traffic_message_body m) ≡ 17 + length (messages.bits_of m.body)
length-message m =
    let vs = messages.kind_of m.body ∷ messages.head_values m.head in
    omega (
      arith,
      ap length (typed m),
      length-append (spelled (in_widths typed_widths vs)) (messages.bits_of m.body),
      length-in_widths typed_widths vs refl,
    )

-- BODIES
pub is_body_from : (body : List Bool) → FillsCapsule M16 body → 17 ≤ length body → reading.is_traffic_body body ≡ true
unfolding reading.is_traffic_body
is_body_from body fills least =
    and_from (length body % 8 == 0) (nat_le 17 (length body) && nat_le (length body) 1160)
    (eq-eqb (length body % 8) 0 (omega (arith, fills.whole)))
    (and_from (nat_le 17 (length body)) (nat_le (length body) 1160) (le-leb 17 (length body) least)
    (le-leb (length body) 1160 (omega (arith, fills.whole, fills.most))))

-- A body that passes the test fits a capsule and has a type and a head: the test joins three
-- conditions on its length, whole octets, 17 bits at least and 1,160 at most.
pub is_body_parts : (body : List Bool) → reading.is_traffic_body body ≡ true →
    FillsCapsule M16 body × (17 ≤ length body) × (length body ≤ 1160)
unfolding reading.is_traffic_body
is_body_parts body h =
    let all = and_parts (length body % 8 == 0) (nat_le 17 (length body) && nat_le (length body) 1160) h in
    let more = and_parts (nat_le 17 (length body)) (nat_le (length body) 1160) all.1 in
    let rest = eqb-true (length body % 8) 0 all.0 in
    let least = leb-true 17 (length body) more.0 in
    let most = leb-true (length body) 1160 more.1 in (
      record { whole = omega (arith, rest); least = omega (arith, least); most = omega (arith, most) },
      least,
      most,
    )

-- a body with room for a type and a head passes the test exactly if it fills a capsule
pub is_body_by : (body : List Bool) (fills : Bool) → 17 ≤ length body →
    (IsTrue fills ↔ FillsCapsule M16 body) → fills ≡ reading.is_traffic_body body
is_body_by body true least both = sym (is_body_from body (both.0 refl) least)
is_body_by body false least both =
    sym (false_from_ne_true (reading.is_traffic_body body)
    (λ h. let fills = both.1 (is_body_parts body h).0 in absurd (cc)))

-- and a shorter body doesn't pass it
pub short_is_no_body : (body : List Bool) → length body < 17 → false ≡ reading.is_traffic_body body
short_is_no_body body short =
    sym (false_from_ne_true (reading.is_traffic_body body)
    (λ h. absurd (omega (arith, short, (is_body_parts body h).1))))

-- A message's body gives its type, its head and its own bits: type and head are the first 17 bits
-- and fit their widths, so they are read as they were spelled, and its own bits come after them.
body_parts : (m : messages.Message) (body : List Bool) → messages.IsTrafficMessage m →
    body ≡ messages.traffic_message_body m →
    (number_at 0 8 body ≡ messages.kind_of m.body) × (reading.head_at body ≡ m.head)
    × (drop 17 body ≡ messages.bits_of m.body)
unfolding reading.head_at
body_parts m body is same =
    let vs = messages.kind_of m.body ∷ messages.head_values m.head in
    let bits = messages.bits_of m.body in
    let parts = same ∙ typed m in
    let values : values_at typed_widths body ≡ vs =
    ap (values_at typed_widths) parts
    ∙ values_again typed_widths vs bits refl (is.kind.0, is.head) in (
      ap (λ (ns : List ℕ). get_or ns 0 0) values,
      ap (λ (ns : List ℕ). reading.head_of (drop 1 ns)) values ∙ head_again m.head,
      ap (drop 17) parts
          ∙ drop_at (spelled (in_widths typed_widths vs)) bits 17 (length-in_widths typed_widths vs refl),
    )

-- what was spelled is read again
pub message_again : (m : messages.Message) → messages.IsTrafficMessage m →
    reading.traffic_body_reading (messages.traffic_message_body m) ≡ Some m
unfolding reading.traffic_body_reading
message_again m is =
    let body = messages.traffic_message_body m in
    let p = body_parts m body is refl in
    let t = is_body_from body is.fills (omega (arith, length-message m)) in
    let part = part_again m.head m.body is.says in
    rw (t, p.0, p.1, p.2, part) refl

-- what is read is spelled so
abbrev Spells : List Bool → messages.Message → Type 0
Spells body m = messages.IsTrafficMessage m × (body ≡ messages.traffic_message_body m)

-- A body is spelled by the message that its parts make: type and head spell the 17 bits that they
-- were read from, and what the message says spells the bits after them.
spelled_from : (body : List Bool) (b : TrafficBody) → reading.is_traffic_body body ≡ true →
    Says (number_at 0 8 body) (reading.head_at body).encryption (drop 17 body) b →
    Spells body (record { head = reading.head_at body; body = b })
unfolding reading.head_at
spelled_from body b t says =
    let fits = is_body_parts body t in
    let m : messages.Message = record { head = reading.head_at body; body = b } in
    let v = values_there typed_widths body fits.1 in
    let head = head_back (drop 8 body) v.1.1 in
    let same : body ≡ messages.traffic_message_body m =
    v.2 ∙ ap (λ (ns : List ℕ). spelled (in_widths typed_widths (number_at 0 8 body ∷ ns)) ++ drop 17 body) (sym head)
    ∙ ap (λ (n : ℕ). spelled (in_widths typed_widths (n ∷ messages.head_values m.head)) ++ drop 17 body) (sym says.0)
    ∙ ap (λ (r : List Bool).
    spelled (in_widths typed_widths (messages.kind_of b ∷ messages.head_values m.head)) ++ r)
    (sym says.1) ∙ sym (typed m) in (
      record {
        kind = (subst (λ (n : ℕ). n < 2 ^ 8) (sym says.0) v.1.0, tt);
        head = subst (λ (us : List ℕ). FieldsFit (in_widths head_widths us)) (sym head) v.1.1;
        says = says.2 m.head refl;
        fills = subst (FillsCapsule M16) same fits.0;
      },
      same,
    )

-- the tests of the reading, and what it gives
pub body_read : (body : List Bool) (b : TrafficBody) → reading.is_traffic_body body ≡ true →
    reading.part_reading (number_at 0 8 body) (reading.head_at body).encryption (drop 17 body)
    ≡ Some b →
    reading.traffic_body_reading body ≡ Some (record { head = reading.head_at body; body = b })
unfolding reading.traffic_body_reading
body_read body b t part = rw (t, part) refl

abbrev BodyParts : List Bool → messages.Message → Type 0
BodyParts body m =
    (reading.is_traffic_body body ≡ true) × (b : TrafficBody)
    × (reading.part_reading (number_at 0 8 body) (reading.head_at body).encryption (drop 17 body)
    ≡ Some b) × (record { head = reading.head_at body; body = b } ≡ m)

pub body_parts_read : (body : List Bool) (m : messages.Message) →
    reading.traffic_body_reading body ≡ Some m → BodyParts body m
unfolding reading.traffic_body_reading
body_parts_read body m e =
    elim (cases_Bool (reading.is_traffic_body body)) [
      | inl t ↦
          let head = reading.head_at body in
          let some = mapped_some (λ (b : TrafficBody). record { head = head; body = b })
          (reading.part_reading (number_at 0 8 body) head.encryption (drop 17 body)) m (rw t at e) in
          (t, some.0, some.1, some.2)
      | inr f ↦
          let none : None ≡ Some m = rw f at e in
          absurd (cc)
    ]

pub message_there : (body : List Bool) (m : messages.Message) → reading.traffic_body_reading body ≡ Some m →
    messages.IsTrafficMessage m × (body ≡ messages.traffic_message_body m)
message_there body m e =
    let p = body_parts_read body m e in
    subst (Spells body) p.3 (spelled_from body p.1 p.0
    (part_there (reading.head_at body) (number_at 0 8 body) (drop 17 body) p.1 p.2))

-- WHAT THE CODE READS AND WRITES
pub no_body : (body : List Bool) → reading.is_traffic_body body ≡ false → None ≡ reading.traffic_body_reading body
unfolding reading.traffic_body_reading
no_body body f = rw f refl

abbrev pub message : Head → TrafficBody → messages.Message
message h b = record { head = h; body = b }

-- the type, the head, and the bits after them
pub record AreParts (body : List Bool) (vs : List ℕ) (rest : List Bool) : Type 0 where
  pub kind : get_or vs 0 0 ≡ number_at 0 8 body
  pub small : get_or vs 0 0 < 2 ^ 8
  pub head : head_in vs ≡ reading.head_at body
  pub fit : FieldsFit (messages.head_fields (head_in vs))
  pub following : rest ≡ drop 17 body

abbrev head_said : List Bool → List ℕ × List Bool
head_said body = (values_at typed_widths body, drop 17 body)

head_there : (body : List Bool) → reading.is_traffic_body body ≡ true →
    fields_at typed_widths body ≡ Some (head_said body)
unfolding fields_at
head_there body t =
    let some = le-leb 17 (length body) (is_body_parts body t).1 in
    rw some refl

pub no_head : (body : List Bool) → reading.is_traffic_body body ≡ true → ¬ (None ≡ fields_at typed_widths body)
no_head body t none =
    let some : None ≡ Some (head_said body) = none ∙ head_there body t in
    absurd (cc)

-- The values that the code reads are the body's type and head, each within its width, and what it
-- leaves is what comes after the first 17 bits: a body that passes the test has those bits, so the
-- reading gives just what the definition takes.
pub are_parts : (body : List Bool) (vs : List ℕ) (rest : List Bool) →
    reading.is_traffic_body body ≡ true → Some (vs, rest) ≡ fields_at typed_widths body → AreParts body vs rest
unfolding reading.head_at reading.head_of
are_parts body vs rest t read =
    let same : (vs, rest) ≡ head_said body = some_is (vs, rest) (head_said body) (read ∙ head_there body t) in
    let values : vs ≡ values_at typed_widths body = ap (λ (x : List ℕ × List Bool). x.0) same in
    let v = values_there typed_widths body (is_body_parts body t).1 in
    let fit = subst (λ (us : List ℕ). FieldsFit (in_widths head_widths us))
    (sym (head_back (drop 8 body) v.1.1)) v.1.1 in
    record {
      kind = ap (λ (ns : List ℕ). get_or ns 0 0) values;
      small = subst (λ (ns : List ℕ). get_or ns 0 0 < 2 ^ 8) (sym values) v.1.0;
      head = ap head_in values;
      fit = subst (λ (ns : List ℕ). FieldsFit (messages.head_fields (head_in ns))) (sym values) fit;
      following = ap (λ (x : List ℕ × List Bool). x.1) same;
    }

-- what was read after a head
pub part_read : (body : List Bool) (vs : List ℕ) (rest : List Bool) (k : ℕ) (h : Head)
    (read : Option TrafficBody) → reading.is_traffic_body body ≡ true → AreParts body vs rest →
    k ≡ get_or vs 0 0 → h ≡ head_in vs → read ≡ reading.part_reading k h.encryption rest →
    mapped (message h) read ≡ reading.traffic_body_reading body
unfolding reading.traffic_body_reading
part_read body vs rest k h read t parts typed head e =
    let g = reading.head_at body in
    let n = number_at 0 8 body in
    let kind = typed ∙ parts.kind in
    let heads = head ∙ parts.head in
    rw (t, ← kind, ← heads, ← parts.following, e) refl

pub message_written : (m : messages.Message) (c : Contents) (one after : List Bool) →
    messages.IsTrafficMessage m → c ≡ head_contents (messages.kind_of m.body) m.head →
    one ≡ spelling head_shape c → after ≡ one ++ messages.bits_of m.body → after ≡ messages.traffic_message_body m
message_written m c one after is contents a b =
    b ∙ ap (λ (r : List Bool). r ++ messages.bits_of m.body)
    (a ∙ (head_written (messages.kind_of m.body) m.head c is.kind.0 is.head contents).1)
    ∙ sym (typed m)
