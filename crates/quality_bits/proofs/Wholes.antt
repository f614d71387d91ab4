-- Whole capsules, written and taken apart.
use Rattle.quality_bits.proofs.Common.{◌≡◌, ℕ, ◌+◌, ◌-◌, ◌*◌, ◌/◌, ◌^◌, ◌<◌, ◌≤◌, Bool, List, ◌++◌, length, take, drop, refl, sym, ap, ◌∙◌}
use Rattle.quality_bits.proofs.Common.{arith, append_assoc, length-append, take_at, drop_at, take-append-drop, length-take-le, length-drop}
use Rattle.quality_bits.proofs.Common.{number, binary, CheckForm, number-binary, number_lt, length-binary, Kind, generator_of, sent_check}
use Rattle.quality_bits.proofs.Common.{body_length, IsChecked, octets, FillsCapsule, capsule_front, capsule, stated_bits, IsWhole}
use Rattle.std.proofs.Math.Seq.{take-add}
use Rattle.quality_bits.specs.declared.kind.Kind.TheVariants.{Q6, Q8, Q10, Q12, M16, M30}
use Rattle.quality_bits.proofs.Digits.{binary-number}
use Rattle.quality_bits.proofs.Ends.{length-sent_check, checked-sent}

pub degree_most : (kind : Kind) → (generator_of kind).degree ≤ 30
degree_most Q6 = omega arith
degree_most Q8 = omega arith
degree_most Q10 = omega arith
degree_most Q12 = omega arith
degree_most M16 = omega arith
degree_most M30 = omega arith

pub length-front : (kind : Kind) (body : List Bool) → length (capsule_front kind body) ≡ 8 + length body
length-front kind body =
    omega (arith, length-append (binary 8 (octets kind body)) body, length-binary 8 (octets kind body))

pub length-capsule : (kind : Kind) (form : CheckForm) (body : List Bool) →
    length (capsule kind form body) ≡ 8 + length body + (generator_of kind).degree
unfolding capsule
length-capsule kind form body =
    let front = capsule_front kind body in
    omega (
      arith,
      length-append front (sent_check kind form front),
      length-front kind body,
      length-sent_check kind form front,
    )

-- the first 8 bits say the number of octets
pub stated-capsule : (kind : Kind) (form : CheckForm) (body : List Bool) → octets kind body ≤ 148 →
    stated_bits (capsule kind form body) ≡ 8 * octets kind body
unfolding capsule
stated-capsule kind form body most =
    let front = capsule_front kind body in
    let count = binary 8 (octets kind body) in
    let check = sent_check kind form front in
    let small : octets kind body < 2 ^ 8 = omega (arith, most) in
    let eight : take 8 ((count ++ body) ++ check) ≡ count =
    ap (take 8) (append_assoc count body check) ∙
    take_at count (body ++ check) 8 (length-binary 8 (octets kind body)) in
    ap (λ (bits : List Bool). 8 * number bits) eight ∙
    ap (λ (n : ℕ). 8 * n) (number-binary 8 (octets kind body) small)

pub whole-capsule : (kind : Kind) (form : CheckForm) (body : List Bool) → FillsCapsule kind body →
    IsWhole (capsule kind form body)
whole-capsule kind form body fills =
    let long = length-capsule kind form body in
    let stated = stated-capsule kind form body fills.most in
    record {
      told = omega (arith, long);
      least = omega (arith, stated, fills.least);
      most = omega (arith, stated, fills.most);
      all = omega (arith, long, stated, fills.whole);
    }

pub checked-capsule : (kind : Kind) (form : CheckForm) (body : List Bool) → IsChecked kind form (capsule kind form body)
unfolding capsule
checked-capsule kind form body = checked-sent kind form (capsule_front kind body)

-- the body of a list that may be a capsule
abbrev pub inner : Kind → List Bool → List Bool
inner kind bits = take (length bits - 8 - (generator_of kind).degree) (drop 8 bits)

-- A capsule's inner bits are its body: the front is the number of octets in 8 bits and the body,
-- the check comes after it, and what the length leaves without both is as long as the body.
pub inner-capsule : (kind : Kind) (form : CheckForm) (body : List Bool) → inner kind (capsule kind form body) ≡ body
unfolding capsule
inner-capsule kind form body =
    let front = capsule_front kind body in
    let count = binary 8 (octets kind body) in
    let check = sent_check kind form front in
    let long : length (front ++ check) - 8 - (generator_of kind).degree ≡ length body =
    omega (arith, length-append front check, length-front kind body, length-sent_check kind form front) in
    let following : drop 8 (front ++ check) ≡ body ++ check =
    ap (drop 8) (append_assoc count body check) ∙
    drop_at count (body ++ check) 8 (length-binary 8 (octets kind body)) in
    ap (λ (n : ℕ). take n (drop 8 (front ++ check))) long ∙ ap (take (length body)) following ∙
    take_at body check (length body) refl

eighth : (m n : ℕ) → m ≡ 8 * n → m / 8 ≡ n
eighth m n h = omega (arith, h)

-- a list that is as long as it says and ends with its check is the capsule of its body
pub found_capsule : (kind : Kind) (form : CheckForm) (bits : List Bool) → IsWhole bits → IsChecked kind form bits →
    FillsCapsule kind (inner kind bits) × (bits ≡ capsule kind form (inner kind bits))
unfolding capsule
found_capsule kind form bits whole checked =
    let d = (generator_of kind).degree in
    let most = degree_most kind in
    let body = inner kind bits in
    let n = number (take 8 bits) in
    let room : length bits - 8 - d ≤ length (drop 8 bits) = omega (arith, length-drop 8 bits) in
    let long : length body ≡ length bits - 8 - d = length-take-le (length bits - 8 - d) (drop 8 bits) room in
    let all : 8 + length body + d ≡ length bits = omega (arith, long, most, whole.least, whole.all) in
    let count : octets kind body ≡ n = eighth (8 + length body + d) n (all ∙ whole.all) in
    let eight : binary 8 (octets kind body) ≡ take 8 bits =
    ap (binary 8) count ∙ ap (λ (w : ℕ). binary w n) (sym (length-take-le 8 bits whole.told)) ∙
    binary-number (take 8 bits) in
    let parts : 8 + (length bits - 8 - d) ≡ body_length kind bits = omega (arith, most, whole.least, whole.all) in
    let front : capsule_front kind body ≡ take (body_length kind bits) bits =
    ap (λ (r : List Bool). r ++ body) eight ∙ sym (take-add 8 (length bits - 8 - d) bits) ∙
    ap (λ (m : ℕ). take m bits) parts in
    let whole_is : bits ≡
    capsule_front kind body ++ sent_check kind form (capsule_front kind body) =
    sym (take-append-drop (body_length kind bits) bits) ∙
    ap (λ (r : List Bool). take (body_length kind bits) bits ++ r) checked
    ∙ ap (λ (r : List Bool). r ++ sent_check kind form r) (sym front) in (
      record {
        whole = omega (arith, count, all, whole.all);
        least = omega (arith, count, whole.least);
        most = omega (arith, count, whole.most);
      },
      whole_is,
    )

-- the check's number, written in as many bits as the check has
pub written_check : (kind : Kind) (form : CheckForm) (bits : List Bool) (d n : ℕ) →
    d ≡ (generator_of kind).degree → n ≡ number (sent_check kind form bits) →
    (n < 2 ^ d) × (binary d n ≡ sent_check kind form bits)
written_check kind form bits d n degree is =
    let check = sent_check kind form bits in
    let long : length check ≡ d = length-sent_check kind form bits ∙ sym degree in (
      rw is (rw long at (number_lt check)),
      ap (binary d) is ∙
          ap (λ (w : ℕ). binary w (number check)) (sym long) ∙ binary-number check,
    )
