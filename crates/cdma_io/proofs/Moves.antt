-- Lemmas on bytes that move from a source to a buffer, and from a list to a sink.
use Rattle.cdma_io.proofs.Common.{◌≡◌, ℕ, ◌+◌, ◌-◌, ◌≤◌, List, [], ◌++◌, length, take, drop, sym, ap, ◌∙◌, subst, arith, length-drop}
use Rattle.cdma_io.proofs.Common.{append-nil, le_refl, drop_at, Option, Appends, Consumes, Appends-trans, Consumes-trans, take_all, take_at}
use Rattle.cdma_io.proofs.Common.{take-put_mid_below, take-append-drop, drop-drop, length-take-le, ConsumesAtMost}
use borrow.Rule.Slice.PartMut.{put_mid, post_of}
use lib.Seq.{take-add, take-append-le}

-- n bytes were copied from the place to the buffer's front
pub moved : (bytes buf copied : List ℕ) (at n : ℕ) → at + n ≤ length bytes →
    copied ≡ take (at + n - at) (drop at bytes) → drop at bytes ≡ take n (copied ++ drop n buf) ++ drop (at + n) bytes
moved bytes buf copied at n within is =
    let same : at + n - at ≡ n = omega arith in
    let copy : copied ≡ take n (drop at bytes) = rw same at is in
    let room : n ≤ length (drop at bytes) = omega (arith, length-drop at bytes) in
    let long : length copied ≡ n = ap length copy ∙ length-take-le n (drop at bytes) room in
    let front : take n (copied ++ drop n buf) ≡ copied = take_at copied (drop n buf) n long in
    let back : drop n (drop at bytes) ≡ drop (at + n) bytes = drop-drop n at bytes in
    rw (front, copy, ← back) (sym (take-append-drop n (drop at bytes)))

-- a buffer that is filled up to a place, and n bytes further
pub filled_more : {X : Type 0} (buf part : List X) (at k n : ℕ) → at ≤ length buf → n ≤ length part →
    take at buf ++ take n part ≡ take (at + n) (put_mid at k buf part)
filled_more buf part at k n within fits =
    let whole = put_mid at k buf part in
    let split : take (at + n) whole ≡ take at whole ++ take n (drop at whole) = take-add at n whole in
    let front : take at whole ≡ take at buf = take-put_mid_below at k buf part at (le_refl at) within in
    let back : drop at whole ≡ part ++ post_of at k buf =
    drop_at (take at buf) (part ++ post_of at k buf) at (length-take-le at buf within) in
    let inner : take n (part ++ post_of at k buf) ≡ take n part = take-append-le n part (post_of at k buf) fits in
    sym (rw (split, front, back, inner))

-- the first bytes of a list, and n further
pub appended_more : (old mid new : Option (List ℕ)) (all : List ℕ) (at n : ℕ) → Appends old mid (take at all) →
    Appends mid new (take n (take (length all - at) (drop at all))) → Appends old new (take (at + n) all)
appended_more old mid new all at n before more =
    let whole : take (length all - at) (drop at all) ≡ drop at all =
    ap (λ (k : ℕ). take k (drop at all)) (sym (length-drop at all)) ∙
    take_all (length (drop at all)) (drop at all) (le_refl (length (drop at all))) in
    let next : Appends mid new (take n (drop at all)) =
    subst (λ (xs : List ℕ). Appends mid new (take n xs)) whole more in
    subst (Appends old new) (sym (take-add at n all))
    (Appends-trans old mid new (take at all) (take n (drop at all)) before next)

-- what was taken before a take told the end
pub taken_to_end : (old mid new : Option (List ℕ)) (buf part : List ℕ) (at n most : ℕ) →
    at ≤ length buf → length buf ≡ most → n ≡ 0 →
    Consumes old mid (take at buf) → Consumes mid new (take n part) → ConsumesAtMost most old new
taken_to_end old mid new buf part at n most within room none before more =
    let last : take n part ≡ [] = ap (λ (k : ℕ). take k part) none in
    let all : take at buf ++ take n part ≡ take at buf =
    ap (λ (xs : List ℕ). take at buf ++ xs) last ∙ append-nil (take at buf) in
    record {
      bytes = take at buf;
      fits = omega (arith, length-take-le at buf within);
      consumed =
          subst (Consumes old new) all
          (Consumes-trans old mid new (take at buf) (take n part) before more);
    }
