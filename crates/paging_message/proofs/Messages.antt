-- Bodies of messages, spelled and read again.
use Rattle.paging_message.proofs.Common.{◌≡◌, ℕ, ◌+◌, ◌%◌, ◌^◌, ◌<◌, ◌≤◌, ◌==◌, ◌&&◌, Bool, true, List, ◌++◌, length, drop, take, refl, sym}
use Rattle.paging_message.proofs.Common.{ap, subst, ◌∙◌, arith, nat_le, inl, inr, Option, Some, None, IfSome, and_parts, and_from, cases_lt}
use Rattle.paging_message.proofs.Common.{cases_Bool, eq-eqb, eqb-true, le-leb, leb-true, length-append, binary, number, length-binary, M30}
use Rattle.paging_message.proofs.Common.{after_front, front, number_front, number_at, FillsCapsule, guard_some, not_both, number_again}
use Rattle.paging_message.proofs.Common.{number_part, number_there, mapped, mapped_some, reading, reading_again, reading_there, spelling}
use Rattle.paging_message.proofs.Common.{IsOf, Contents, MessageShape, admits, HasMessage, message_body, IsPagingMessage, PagingMessage}
use Rattle.paging_message.proofs.Common.{contents_of, paging_kind_of, message_from, paging_shape_of, body_reading, is_body, message_at}
use Rattle.paging_message.proofs.ByLayout.{admits_short, lawful, made_again, made_of, placed, spelled_by}

pub message_fills : (m : PagingMessage) → IsPagingMessage m → FillsCapsule M30 (message_body m)
unfolding message_body
message_fills m is = (spelled_by m is).fills

-- a message type and the bits after it are read by its layout
pub typed_reading : (k : ℕ) (w : List Bool) → k < 2 ^ 8 → FillsCapsule M30 (binary 8 k ++ w) →
    body_reading (binary 8 k ++ w) ≡ mapped (message_from k) (reading (paging_shape_of k) w)
unfolding body_reading is_body
typed_reading k w small fills =
    let body = binary 8 k ++ w in
    let long : length body ≡ 8 + length w = omega (arith, length-append (binary 8 k) w, length-binary 8 k) in
    let whole = eq-eqb (length body % 8) 2 (omega (arith, fills.whole)) in
    let most = le-leb (length body) 1146 (omega (arith, fills.whole, fills.most)) in
    rw (whole, most, number_front 8 k w small, after_front 8 k w, long) (sym (placed w k))

-- what was spelled is read again
pub reads_body : (m : PagingMessage) → IsPagingMessage m → body_reading (message_body m) ≡ Some m
unfolding message_body
reads_body m is =
    let k = paging_kind_of m in
    let s = spelled_by m is in
    typed_reading k (spelling (paging_shape_of k) (contents_of m)) s.typed s.fills
    ∙ ap (mapped (message_from k)) (reading_again (paging_shape_of k) (contents_of m) (lawful k) s.said)
    ∙ ap Some (made_again m is)

-- the test of a body, and its type
pub record IsTyped (body : List Bool) : Type 0 where
  pub fills : FillsCapsule M30 body
  pub admitted : admits (number (take 8 body)) (length body) ≡ true
  pub kind : number (take 8 body) < 2 ^ 8
  pub same : body ≡ binary 8 (number (take 8 body)) ++ drop 8 body

-- A body that passes the test has a type and is as long as a capsule may be: each part of the test
-- gives one bound, and the eight bits of the type are there, since no type admits a body that is
-- shorter.
pub typed_from : (body : List Bool) → is_body body ≡ true → IsTyped body
unfolding is_body
typed_from body h =
    let count = length body in
    let k = number (take 8 body) in
    let all = and_parts (count % 8 == 2) (nat_le count 1146 && admits k count) h in
    let more = and_parts (nat_le count 1146) (admits k count) all.1 in
    let rest = eqb-true (count % 8) 2 all.0 in
    let most = leb-true count 1146 more.0 in
    let eight : 8 ≤ count =
    elim (cases_lt count 8) [
      | inl short ↦ absurd (not_both (admits_short k count short) more.1)
      | inr some ↦ some
    ] in
    let one = front 8 body eight in
    record {
      fills = record { whole = omega (arith, rest); least = omega (arith, rest); most = omega (arith, most) };
      admitted = more.1;
      kind = one.0;
      same = one.1;
    }

pub is_body_from : (body : List Bool) → FillsCapsule M30 body →
    admits (number (take 8 body)) (length body) ≡ true → is_body body ≡ true
unfolding is_body
is_body_from body fills h =
    and_from (length body % 8 == 2) (nat_le (length body) 1146 && admits (number (take 8 body)) (length body))
    (eq-eqb (length body % 8) 2 (omega (arith, fills.whole)))
    (and_from (nat_le (length body) 1146) (admits (number (take 8 body)) (length body))
    (le-leb (length body) 1146 (omega (arith, fills.whole, fills.most))) h)

pub body_told : (body : List Bool) (m : PagingMessage) → body_reading body ≡ Some m → is_body body ≡ true
unfolding body_reading
body_told body m e = (guard_some (is_body body) (Some (message_at (number_at 0 8 body) (drop 8 body))) m e).0

-- what is read is spelled so
pub body_is_read : (body : List Bool) (m : PagingMessage) → body_reading body ≡ Some m →
    IsPagingMessage m × (body ≡ message_body m)
body_is_read body m e =
    let t = typed_from body (body_told body m e) in
    let k = number (take 8 body) in
    let w = drop 8 body in
    let read : mapped (message_from k) (reading (paging_shape_of k) w) ≡ Some m =
    sym (typed_reading k w t.kind (subst (FillsCapsule M30) t.same t.fills))
    ∙ ap body_reading (sym t.same) ∙ e in
    let some = mapped_some (message_from k) (reading (paging_shape_of k) w) m read in
    let there = reading_there (paging_shape_of k) w some.0 (lawful k) some.1 in
    let spelled : body ≡ binary 8 k ++ spelling (paging_shape_of k) some.0 =
    t.same ∙ ap (λ (r : List Bool). binary 8 k ++ r) there.1 in
    let made = made_of k some.0
    (record { typed = t.kind; said = there.0; fills = subst (FillsCapsule M30) spelled t.fills }) in
    subst (λ (n : PagingMessage). IsPagingMessage n × (body ≡ message_body n)) some.2 (made.0, spelled ∙ made.1)

-- WHICH BODIES
pub admits_message : (body : List Bool) → FillsCapsule M30 body →
    admits (number (take 8 body)) (length body) ≡ true → HasMessage body
unfolding body_reading
admits_message body fills h =
    let t = is_body_from body fills h in
    let m = message_at (number_at 0 8 body) (drop 8 body) in
    let is = body_is_read body m (rw t refl) in
    record { message = m; spelled = is.0; same = is.1 }

pub message_is_admitted : (body : List Bool) → HasMessage body → admits (number (take 8 body)) (length body) ≡ true
message_is_admitted body has =
    let read : body_reading body ≡ Some has.message = ap body_reading has.same ∙ reads_body has.message has.spelled in
    (typed_from body (body_told body has.message read)).admitted

-- WHAT THE CODE READS AND WRITES
pub body_found : (body : List Bool) (result : Option PagingMessage) → result ≡ body_reading body →
    IfSome result (λ m. IsPagingMessage m × (body ≡ message_body m))
body_found body None e = tt
body_found body (Some m) e = body_is_read body m (sym e)

-- no type, or none that fills a capsule
pub no_body : (body : List Bool) → ¬ (FillsCapsule M30 body) → None ≡ body_reading body
unfolding body_reading
no_body body never =
    elim (cases_Bool (is_body body)) [
      | inl t ↦ absurd (never (typed_from body t).fills)
      | inr f ↦ rw f refl
    ]

pub no_type : (body : List Bool) → None ≡ number_part 8 body → None ≡ body_reading body
unfolding body_reading
no_type body none =
    elim (cases_Bool (is_body body)) [
      | inl t ↦
          let typed = typed_from body t in
          let k = number (take 8 body) in
          let first : ℕ × List Bool = (k, drop 8 body) in
          let some : None ≡ Some first =
          none ∙ ap (number_part 8) typed.same ∙ number_again 8 k (drop 8 body) typed.kind in
          absurd (cc)
      | inr f ↦ rw f refl
    ]

pub typed_length : (body w : List Bool) (k : ℕ) → FillsCapsule M30 body →
    Some (k, w) ≡ number_part 8 body → length w ≤ 1146
typed_length body w k fills typed =
    let t = number_there 8 k body w (sym typed) in
    omega (arith, fills.whole, fills.most, ap length t.1, length-append (binary 8 k) w)

-- what was read after a type, by the type's layout
pub reads_by_layout : (body w : List Bool) (k : ℕ) (s : MessageShape) (read : Option Contents) →
    FillsCapsule M30 body → Some (k, w) ≡ number_part 8 body → s ≡ paging_shape_of k →
    read ≡ reading s w → mapped (message_from k) read ≡ body_reading body
reads_by_layout body w k s read fills typed layout e =
    let t = number_there 8 k body w (sym typed) in
    ap (mapped (message_from k)) (e ∙ ap (λ (r : MessageShape). reading r w) layout)
    ∙ sym (typed_reading k w t.0 (subst (FillsCapsule M30) t.1 fills))
    ∙ ap body_reading (sym t.1)

pub read_is_message : (body w : List Bool) (k : ℕ) (s : MessageShape) (c : Contents) → FillsCapsule M30 body →
    Some (k, w) ≡ number_part 8 body → s ≡ paging_shape_of k → IsOf s c × (w ≡ spelling s c) →
    IsPagingMessage (message_from k c)
read_is_message body w k s c fills typed layout found =
    let t = number_there 8 k body w (sym typed) in
    let there = subst (λ (r : MessageShape). IsOf r c × (w ≡ spelling r c)) layout found in
    let same : body ≡ binary 8 k ++ spelling (paging_shape_of k) c =
    t.1 ∙ ap (λ (r : List Bool). binary 8 k ++ r) there.1 in
    (made_of k c (record { typed = t.0; said = there.0; fills = subst (FillsCapsule M30) same fills })).0

-- what is written
pub record IsWritten (k : ℕ) (s : MessageShape) (c : Contents) (m : PagingMessage) : Type 0 where
  pub is : IsOf s c
  pub same : binary 8 k ++ spelling s c ≡ message_body m
  pub room : 8 + length (spelling s c) ≤ 1184
  pub fills : FillsCapsule M30 (message_body m)

pub written : (m : PagingMessage) (k : ℕ) (s : MessageShape) (c : Contents) → IsPagingMessage m →
    k ≡ paging_kind_of m → s ≡ paging_shape_of k → c ≡ contents_of m → IsWritten k s c m
unfolding message_body
written m k s c is kind layout contents =
    rw (layout, kind, contents) (
    let own = spelled_by m is in
    record {
      is = own.said;
      same = refl;
      room = omega (
        arith,
        own.fills.whole,
        own.fills.most,
        length-append (binary 8 (paging_kind_of m)) (spelling (paging_shape_of (paging_kind_of m)) (contents_of m)),
        length-binary 8 (paging_kind_of m),
      );
      fills = own.fills;
    })
