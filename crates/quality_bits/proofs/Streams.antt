-- One more piece of a stream: what is under way after it, and the capsule that ends in it.
use Rattle.quality_bits.proofs.Common.{◌≡◌, ◌-◌, Bool, true, false, cond, List, [], ◌∷◌, ◌++◌, length, refl, sym, ap, ◌∙◌, arith, nat_lt}
use Rattle.quality_bits.proofs.Common.{length-append, nat_le, inl, inr, Option, Some, None, cases_lt, cases_Bool, lt-ltb, le-leb, lt-leb}
use Rattle.quality_bits.proofs.Common.{false_from_ne_true, take_at, append-nil, stated_bits, is_stated, front_capsule, awaits_more}
use Rattle.quality_bits.proofs.Common.{still_open, continued, completed}
use Rattle.std.proofs.lemmas.Grind.{flat_map-append}
use Rattle.quality_bits.specs.Pieces.{Piece, bodies, from_last_start, but_last, capsule_ending, under_way}
use Rattle.quality_bits.proofs.Opened.{stated_bounds, front-none, awaits_says, awaits_not, stated-more, is_stated-more, still_open-awaits}
use Rattle.quality_bits.proofs.Opened.{still_open-over, over-awaits}

-- what is under way where the next piece comes: no bits yet where it starts a message
abbrev pub before : List Piece → Bool → Option (List Bool)
before pieces starts = cond starts (Some []) (under_way pieces)

pub from_last_start_new : (pieces : List Piece) (p : Piece) → p.starts ≡ true →
    from_last_start (pieces ++ p ∷ []) ≡ p ∷ []
from_last_start_new [] p h = rw h refl
from_last_start_new (q ∷ pieces) p h = rw (from_last_start_new pieces p h) refl

-- the pieces of a message, where it has begun, and one more
abbrev pub extended : List Piece → Piece → List Piece
extended [] p = []
extended (q ∷ message) p = (q ∷ message) ++ p ∷ []

extended_from : (b : Bool) (q p : Piece) (pieces later : List Piece) →
    cond (nat_lt 0 (length (extended later p))) (extended later p) (cond b (q ∷ (pieces ++ p ∷ [])) [])
    ≡ extended (cond (nat_lt 0 (length later)) later (cond b (q ∷ pieces) [])) p
extended_from true q p pieces [] = refl
extended_from false q p pieces [] = refl
extended_from b q p pieces (l ∷ later) =
    let e = lt-ltb 0 (length (extended (l ∷ later) p)) (omega arith) in
    let f = lt-ltb 0 (length (l ∷ later)) (omega arith) in
    rw (e, f) refl

pub from_last_start_more : (pieces : List Piece) (p : Piece) → p.starts ≡ false →
    from_last_start (pieces ++ p ∷ []) ≡ extended (from_last_start pieces) p
from_last_start_more [] p h = rw h refl
from_last_start_more (q ∷ pieces) p h =
    rw (from_last_start_more pieces p h) (extended_from q.starts q p pieces (from_last_start pieces))

pub bodies-more : (message : List Piece) (p : Piece) → bodies (message ++ p ∷ []) ≡ bodies message ++ p.body
bodies-more message p = rw (flat_map-append, append-nil) refl

but_last-more : (message : List Piece) (p : Piece) → but_last (message ++ p ∷ []) ≡ message
but_last-more message p =
    let e : length (message ++ p ∷ []) - 1 ≡ length message = omega (arith, length-append message (p ∷ [])) in
    rw e (take_at message (p ∷ []) (length message) refl)

-- the choice that the definition makes
abbrev pub chosen : List Bool → List Bool → Option (List Bool)
chosen before bits = cond (nat_le (stated_bits bits) (length before)) None (front_capsule bits)

-- Where the bits before awaited more, a capsule at the front of all bits ends in the new ones: a
-- stated length within the bits before is not lawful, so there is no capsule at the front then.
chosen_awaiting : (before more : List Bool) → awaits_more before ≡ true →
    chosen before (before ++ more) ≡ front_capsule (before ++ more)
chosen_awaiting before more h =
    elim (cases_lt (length before) (stated_bits (before ++ more))) [
      | inl less ↦ let e = lt-leb (stated_bits (before ++ more)) (length before) less in rw e refl
      | inr over ↦
          let e = le-leb (stated_bits (before ++ more)) (length before) over in
          let f : is_stated (before ++ more) ≡ false =
          false_from_ne_true (is_stated (before ++ more))
          (λ t. let b = stated_bounds (before ++ more) t in
          elim (awaits_says before h) [
            | inl few ↦ omega arith
            | inr lawful ↦ let c = stated_bounds before lawful.0 in
                omega (arith, stated-more before more c.0)
          ]) in
          rw e (sym (front-none (before ++ more) f))
    ]

chosen_over : (before more : List Bool) → awaits_more before ≡ false → chosen before (before ++ more) ≡ None
chosen_over before more h =
    let w = awaits_not before h in
    let same = stated-more before more w.0 in
    elim w.1 [
      | inl unlawful ↦
          let g = front-none (before ++ more) (is_stated-more before more w.0 ∙ unlawful) in
          elim (cases_Bool (nat_le (stated_bits (before ++ more)) (length before)))
          [ inl t ↦ rw t refl | inr n ↦ rw n g ]
      | inr over ↦ let e = le-leb (stated_bits (before ++ more)) (length before) (omega arith) in
          rw e refl
    ]

chosen_started : (body : List Bool) → chosen [] body ≡ front_capsule body
chosen_started body =
    elim (cases_lt 0 (stated_bits body)) [
      | inl some ↦ let f = lt-leb (stated_bits body) 0 some in rw f refl
      | inr none ↦
          let f = le-leb (stated_bits body) 0 none in
          let g : is_stated body ≡ false =
          false_from_ne_true (is_stated body) (λ t. let b = stated_bounds body t in
          omega arith) in
          rw f (sym (front-none body g))
    ]

-- A PIECE THAT STARTS A MESSAGE
under_way-start : (pieces : List Piece) (p : Piece) → p.starts ≡ true →
    under_way (pieces ++ p ∷ []) ≡ continued (before pieces true) p.body
unfolding under_way
under_way-start pieces p h =
    let e = from_last_start_new pieces p h in
    let bits = append-nil p.body in
    rw (e, bits) refl

ending-start : (pieces : List Piece) (p : Piece) → p.starts ≡ true →
    capsule_ending (pieces ++ p ∷ []) ≡ completed (before pieces true) p.body
unfolding capsule_ending
ending-start pieces p h =
    let e = from_last_start_new pieces p h in
    let bits = append-nil p.body in
    rw (e, bits) (chosen_started p.body)

-- A PIECE THAT GOES ON
-- A piece that starts no message goes on with what is under way: if no message is open, none is
-- open after it; otherwise the piece belongs to that message, which stays open while its bits await
-- more, and no further bits open it again.
under_way-on : (pieces : List Piece) (p : Piece) (message : List Piece) → p.starts ≡ false →
    from_last_start pieces ≡ message → under_way (pieces ++ p ∷ []) ≡ continued (under_way pieces) p.body
unfolding under_way
under_way-on pieces p [] h e =
    let all : from_last_start (pieces ++ p ∷ []) ≡ [] = from_last_start_more pieces p h ∙
    ap (λ (m : List Piece). extended m p) e in
    rw (all, e) refl
under_way-on pieces p (q ∷ message) h e =
    let all : from_last_start (pieces ++ p ∷ []) ≡ (q ∷ message) ++ p ∷ [] =
    from_last_start_more pieces p h ∙ ap (λ (m : List Piece). extended m p) e in
    let b = bodies-more (q ∷ message) p in
    let some = lt-ltb 0 (length ((q ∷ message) ++ p ∷ [])) (omega arith) in
    let was = lt-ltb 0 (length (q ∷ message)) (omega arith) in
    let now : still_open (bodies (q ∷ message) ++ p.body) ≡
    continued (still_open (bodies (q ∷ message))) p.body =
    elim (cases_Bool (awaits_more (bodies (q ∷ message)))) [
      | inl t ↦ let o = still_open-awaits (bodies (q ∷ message)) t in rw o refl
      | inr f ↦ let o = still_open-over (bodies (q ∷ message)) f in
          rw o (still_open-over (bodies (q ∷ message) ++ p.body) (over-awaits (bodies (q ∷ message)) p.body f))
    ] in
    rw (all, e, some, was, b) now

-- A piece that starts no message ends the capsule that it completes: if no message is open there is
-- none; otherwise the piece belongs to that message, and a capsule ends in it if the bits before
-- awaited more and those with it have a whole one.
ending-on : (pieces : List Piece) (p : Piece) (message : List Piece) → p.starts ≡ false →
    from_last_start pieces ≡ message → capsule_ending (pieces ++ p ∷ []) ≡ completed (under_way pieces) p.body
unfolding under_way capsule_ending
ending-on pieces p [] h e =
    let all : from_last_start (pieces ++ p ∷ []) ≡ [] = from_last_start_more pieces p h ∙
    ap (λ (m : List Piece). extended m p) e in
    rw (all, e) refl
ending-on pieces p (q ∷ message) h e =
    let all : from_last_start (pieces ++ p ∷ []) ≡ (q ∷ message) ++ p ∷ [] =
    from_last_start_more pieces p h ∙ ap (λ (m : List Piece). extended m p) e in
    let b = bodies-more (q ∷ message) p in
    let l = but_last-more (q ∷ message) p in
    let was = lt-ltb 0 (length (q ∷ message)) (omega arith) in
    let now : chosen (bodies (q ∷ message)) (bodies (q ∷ message) ++ p.body) ≡
    completed (still_open (bodies (q ∷ message))) p.body =
    elim (cases_Bool (awaits_more (bodies (q ∷ message)))) [
      | inl t ↦ let o = still_open-awaits (bodies (q ∷ message)) t in
          rw o (chosen_awaiting (bodies (q ∷ message)) p.body t)
      | inr f ↦ let o = still_open-over (bodies (q ∷ message)) f in
          rw o (chosen_over (bodies (q ∷ message)) p.body f)
    ] in
    rw (all, e, was, b, l) now

-- EITHER
pub under_way-more : (pieces : List Piece) (p : Piece) →
    under_way (pieces ++ p ∷ []) ≡ continued (before pieces p.starts) p.body
under_way-more pieces p =
    elim (cases_Bool p.starts) [
      | inl t ↦ under_way-start pieces p t ∙
          ap (λ (b : Bool). continued (before pieces b) p.body) (sym t)
      | inr f ↦ under_way-on pieces p (from_last_start pieces) f refl ∙
          ap (λ (b : Bool). continued (before pieces b) p.body) (sym f)
    ]

pub ending-more : (pieces : List Piece) (p : Piece) →
    capsule_ending (pieces ++ p ∷ []) ≡ completed (before pieces p.starts) p.body
ending-more pieces p =
    elim (cases_Bool p.starts) [
      | inl t ↦ ending-start pieces p t ∙
          ap (λ (b : Bool). completed (before pieces b) p.body) (sym t)
      | inr f ↦ ending-on pieces p (from_last_start pieces) f refl ∙
          ap (λ (b : Bool). completed (before pieces b) p.body) (sym f)
    ]

-- before any piece nothing is under way
pub under_way-none : under_way [] ≡ None
unfolding under_way
under_way-none = refl
