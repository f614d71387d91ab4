-- The frames of a slot that a writer keeps, and one more.
use Rattle.tuned_listener.proofs.Common.{◌≡◌, ◌⊎◌, ◌<◌, ◌≤◌, ℕ, ◌+◌, ◌-◌, ◌*◌, ◌%◌, ◌==◌, false, ℤ, List, [], ◌∷◌, ◌++◌, length, take, drop}
use Rattle.tuned_listener.proofs.Common.{refl, sym, ap, ◌∙◌, arith, inl, inr, append-nil, flat_map, length-append, sum_by, unsigned_abs}
use Rattle.tuned_listener.proofs.Common.{cases_Bool, cases_lt, eq-eqb, eqb-false, eqb-true, drop-take, flat_map-append, between-put_mid}
use Rattle.tuned_listener.proofs.Common.{take-put_mid, take-put_mid_below, put_mid, frame_most, SoftFrame, HoldsSlot, IsReadyForSlots}
use Rattle.tuned_listener.proofs.Common.{slot_more, SlotWriter}

-- ---- the frames of a slot

-- its first frame begins it
slot_begun : (slot : List SoftFrame) (frame : SoftFrame) → frame.number % 4 ≡ 0 → slot_more slot frame ≡ frame ∷ []
slot_begun slot frame is = rw (eq-eqb (frame.number % 4) 0 is) refl

-- another one goes after those before it
slot_goes_on : (slot : List SoftFrame) (frame : SoftFrame) → (frame.number % 4 == 0) ≡ false →
    frame.number % 4 ≡ length slot → slot_more slot frame ≡ slot ++ frame ∷ []
slot_goes_on slot frame other is = rw (other, eq-eqb (frame.number % 4) (length slot) is) refl

-- ---- what is kept of them

-- values of a frame are put at a place
module _ (place size : ℕ) (softs fresh : List ℤ) (room : 384 * place ≤ length softs)
    (long : length fresh ≡ 384) where
  abbrev put : List ℤ
  put = put_mid (384 * place) size softs fresh

  put_before : (frame : ℕ) → frame < place → take 384 (drop (384 * frame) put) ≡ take 384 (drop (384 * frame) softs)
  put_before frame below =
      let within : 384 * frame + 384 ≤ 384 * place = omega (arith, below) in
      sym (drop-take (384 * frame) 384 put)
      ∙ ap (drop (384 * frame)) (take-put_mid_below (384 * place) size softs fresh (384 * frame + 384) within room)
      ∙ drop-take (384 * frame) 384 softs

  put_here : take 384 (drop (384 * place) put) ≡ fresh
  put_here =
      let count : 384 ≡ 384 * place + 384 - 384 * place = omega arith in
      ap (λ (n : ℕ). take n (drop (384 * place) put)) count
      ∙ between-put_mid (384 * place) size softs fresh (384 * place + 384) room (long ∙ count)

  put_front : take (384 * (place + 1)) put ≡ take (384 * place) softs ++ fresh
  put_front = take-put_mid (384 * place) size softs fresh (384 * (place + 1)) (omega (arith, long)) room

  -- they stay small
  pub put_small : ((frame : ℕ) → frame < place →
      sum_by unsigned_abs (take 384 (drop (384 * frame) softs)) ≤ frame_most) →
      sum_by unsigned_abs fresh ≤ frame_most → (frame : ℕ) → frame < place + 1 →
      sum_by unsigned_abs (take 384 (drop (384 * frame) put)) ≤ frame_most
  put_small before here frame inside =
      elim (cases_lt frame place) [
        | inl below ↦ rw (put_before frame below) (before frame below)
        | inr least ↦
            let same : frame ≡ place = omega (arith, inside, least) in
            rw (same, put_here) here
      ]

pub ready_put : (w w' : SlotWriter) (place size : ℕ) (fresh given : List ℤ) →
    (place ≡ 0) ⊎ (place ≡ w.kept) → fresh ≡ given → length fresh ≡ 384 →
    384 * place ≤ length w.softs → sum_by unsigned_abs given ≤ frame_most →
    w'.decoder ≡ w.decoder → w'.cycle ≡ w.cycle → w'.kept ≡ place + 1 →
    w'.softs ≡ put_mid (384 * place) size w.softs fresh → place ≤ 3 → IsReadyForSlots w → IsReadyForSlots w'
ready_put w w' place size fresh given which is long room small decoder cycle kept softs most ready =
    let before : (frame : ℕ) → frame < place →
    sum_by unsigned_abs (take 384 (drop (384 * frame) w.softs)) ≤ frame_most = λ frame below.
    elim which [
      | inl none ↦ absurd (omega (arith, below, none))
      | inr next ↦ ready.small frame (omega (arith, below, next))
    ] in
    let here : sum_by unsigned_abs fresh ≤ frame_most = rw is small in
    record {
      decodes = decoder ∙ ready.decodes;
      few = omega (arith, kept, most);
      lawful = omega (arith, cycle, ready.lawful);
      small = λ (frame : ℕ) (inside : frame < w'.kept).
          rw softs (put_small place size w.softs fresh room long before here frame
          (omega (arith, inside, kept)));
    }

-- a writer keeps a frame that goes on with its slot
pub holds_put : (w w' : SlotWriter) (slot : List SoftFrame) (frame : SoftFrame) (place size : ℕ)
    (fresh : List ℤ) → place ≡ frame.number % 4 → (place ≡ 0) ⊎ (place ≡ w.kept) →
    fresh ≡ frame.descrambled → length fresh ≡ 384 → 384 * place ≤ length w.softs →
    w'.kept ≡ place + 1 → w'.softs ≡ put_mid (384 * place) size w.softs fresh →
    HoldsSlot w slot → HoldsSlot w' (slot_more slot frame)
holds_put w w' slot frame place size fresh is which given long room kept softs holds =
    let descrambled = λ (f : SoftFrame). f.descrambled in
    let front : take (384 * w'.kept) w'.softs ≡ take (384 * place) w.softs ++ frame.descrambled =
    ap (λ (n : ℕ). take (384 * n) w'.softs) kept
    ∙ ap (take (384 * (place + 1))) softs
    ∙ put_front place size w.softs fresh room long
    ∙ ap (λ (xs : List ℤ). take (384 * place) w.softs ++ xs) given in
    elim (cases_Bool (frame.number % 4 == 0)) [
      | inl first ↦
          let none : place ≡ 0 = is ∙ eqb-true (frame.number % 4) 0 first in
          rw (slot_begun slot frame (eqb-true (frame.number % 4) 0 first)) (record {
            count_is = omega (arith, kept, none);
            softs_are = front
                ∙ ap (λ (n : ℕ). take (384 * n) w.softs ++ frame.descrambled) none
                ∙ sym (append-nil frame.descrambled);
          })
      | inr other ↦
          let some = eqb-false (frame.number % 4) 0 other in
          let next : place ≡ w.kept =
          elim which [
            | inl none ↦ absurd (some (sym is ∙ none))
            | inr next ↦ next
          ] in
          let goes_on = slot_goes_on slot frame other (sym is ∙ next ∙ holds.count_is) in
          rw goes_on (record {
            count_is = omega (arith, kept, next, holds.count_is, length-append slot (frame ∷ []));
            softs_are = front
                ∙ ap (λ (n : ℕ). take (384 * n) w.softs ++ frame.descrambled) next
                ∙ ap (λ (xs : List ℤ). xs ++ frame.descrambled) holds.softs_are
                ∙ ap (λ (xs : List ℤ). flat_map descrambled slot ++ xs) (sym (append-nil frame.descrambled))
                ∙ sym (flat_map-append descrambled slot (frame ∷ []));
          })
    ]
