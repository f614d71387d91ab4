-- Pages: the test of their bodies.
use Rattle.cell_script.proofs.Common.{◌≡◌, Bool, true, false, List, refl, sym, ap, subst, ◌∙◌, Option, None, Some, IfSome, drop, is_some}
use Rattle.cell_script.proofs.Common.{cond-false, cond-true, FillsCapsule, M30, HasMessage, message_body, IsPagingMessage, body_reading}
use Rattle.cell_script.proofs.Common.{is_body, message_at, number_at, PagingMessage, message_fills, body_is_read, reads_body}

abbrev message_in : List Bool → PagingMessage
message_in body = message_at (number_at 0 8 body) (drop 8 body)

read-body : (body : List Bool) → is_body body ≡ true → body_reading body ≡ Some (message_in body)
unfolding body_reading
read-body body is = cond-true _ (Some (message_in body)) None is

read-other : (body : List Bool) → is_body body ≡ false → body_reading body ≡ None
unfolding body_reading
read-other body is = cond-false _ (Some (message_in body)) None is

-- such a body fills a capsule
pub body_fills : (body : List Bool) → is_body body ≡ true → FillsCapsule M30 body
body_fills body is =
    let told = body_is_read body (message_in body) (read-body body is) in
    subst (FillsCapsule M30) (sym told.1) (message_fills (message_in body) told.0)

-- and is that of a message
pub body_message : (body : List Bool) → is_body body ≡ true → HasMessage body
body_message body is =
    let told = body_is_read body (message_in body) (read-body body is) in
    record { message = message_in body; spelled = told.0; same = told.1 }

abbrev Spells : List Bool → PagingMessage → Type 0
Spells body m = IsPagingMessage m × (body ≡ message_body m)

-- a message was found exactly where there is one
pub body_found : (body : List Bool) (found : Option PagingMessage) →
    IfSome found (λ m. IsPagingMessage m × (body ≡ message_body m)) →
    ((m : PagingMessage) → IsPagingMessage m → body ≡ message_body m → found ≡ Some m) → is_some found ≡ is_body body
body_found body found told only = by_test found told only (is_body body) refl
  where
    by_test : (found : Option PagingMessage) → IfSome found (Spells body) →
        ((m : PagingMessage) → IsPagingMessage m → body ≡ message_body m → found ≡ Some m) →
        (test : Bool) → is_body body ≡ test → is_some found ≡ is_body body
    by_test found told only true is =
        let read = body_is_read body (message_in body) (read-body body is) in
        ap is_some (only (message_in body) read.0 read.1) ∙ sym is
    by_test None told only false is = sym is
    by_test (Some m) told only false is =
        let read : body_reading body ≡ Some m = ap body_reading told.1 ∙ reads_body m told.0 in
        absurd (cc (read-other body is, read))
