-- One more piece, its first bit the mark.
use Rattle.quality_bits.proofs.Common.{◌≡◌, Bool, cond, List, [], ◌∷◌, ◌++◌, map, drop, refl, sym, ap, ◌∙◌, Option, Some, continued}
use Rattle.quality_bits.proofs.Common.{completed}
use Rattle.std.proofs.Common.{slice_get}
use Rattle.quality_bits.specs.Pieces.{Piece, piece, under_way, capsule_ending, CapsuleStandsFor}
use Rattle.quality_bits.proofs.Streams.{under_way-more, ending-more}

marked_starts : (bits : List Bool) (mark : Bool) → slice_get bits 0 ≡ Some mark → (piece bits).starts ≡ mark
marked_starts [] mark read = absurd (cc)
marked_starts (b ∷ bits) mark read = cc

marked_body : (bits : List Bool) (mark : Bool) → slice_get bits 0 ≡ Some mark → (piece bits).body ≡ drop 1 bits
marked_body [] mark read = absurd (cc)
marked_body (b ∷ bits) mark read = refl

pieces_more : (pieces : List (List Bool)) (bits : List Bool) →
    map piece (pieces ++ bits ∷ []) ≡ map piece pieces ++ piece bits ∷ []
pieces_more [] bits = refl
pieces_more (p ∷ pieces) bits = ap (λ (ps : List Piece). piece p ∷ ps) (pieces_more pieces bits)

pub marked_goes_on : (pieces : List (List Bool)) (bits : List Bool) (mark : Bool) (old capsule : Option (List Bool)) →
    slice_get bits 0 ≡ Some mark → CapsuleStandsFor old pieces → capsule ≡ cond mark (Some []) old →
    continued capsule (drop 1 bits) ≡ under_way (map piece (pieces ++ bits ∷ []))
marked_goes_on pieces bits mark old capsule read stood is =
    let before = map piece pieces in
    ap (λ (s : Option (List Bool)). continued s (drop 1 bits)) (is ∙ ap (cond mark (Some [])) stood)
    ∙ sym (ap under_way (pieces_more pieces bits)
    ∙ under_way-more before (piece bits)
    ∙ ap (λ (b : Bool). continued (cond b (Some []) (under_way before)) (piece bits).body)
    (marked_starts bits mark read)
    ∙ ap (continued (cond mark (Some []) (under_way before))) (marked_body bits mark read))

pub marked_gives : (pieces : List (List Bool)) (bits : List Bool) (mark : Bool) (old capsule : Option (List Bool)) →
    slice_get bits 0 ≡ Some mark → CapsuleStandsFor old pieces → capsule ≡ cond mark (Some []) old →
    completed capsule (drop 1 bits) ≡ capsule_ending (map piece (pieces ++ bits ∷ []))
marked_gives pieces bits mark old capsule read stood is =
    let before = map piece pieces in
    ap (λ (s : Option (List Bool)). completed s (drop 1 bits)) (is ∙ ap (cond mark (Some [])) stood)
    ∙ sym (ap capsule_ending (pieces_more pieces bits)
    ∙ ending-more before (piece bits)
    ∙ ap (λ (b : Bool). completed (cond b (Some []) (under_way before)) (piece bits).body)
    (marked_starts bits mark read)
    ∙ ap (completed (cond mark (Some []) (under_way before))) (marked_body bits mark read))
