use Rattle.quality_bits.proofs.Common.{◌≡◌, ◌++◌, ap, ◌∙◌, List, Bool, arith, length-append, rules, binary, length-binary, sent_check}
use Rattle.quality_bits.proofs.Common.{octets, capsule_front, capsule}
use Rattle.quality_bits.proofs.capsule.capsule_of.Goals as goal

pub append_all-requires : goal.append_all-requires
append_all-requires c =
    rw (c.append_number.ensures, c.empty-bits.ensures, length-binary) (omega (arith, c.requires.whole, c.requires.most))

pub append_check-requires : goal.append_check-requires
append_check-requires c =
    rw (c.append_all.ensures, c.append_number.ensures, c.empty-bits.ensures, length-append, length-binary)
    (omega (arith, c.requires.whole, c.requires.most))

-- What is appended is the capsule: the number of octets in 8 bits and then the body are its front,
-- and the check that follows is that of this front.
pub returns : goal.returns
unfolding capsule
returns c =
    let kind = c.args.kind in
    let form = c.args.form in
    let body = c.args.body.now in
    let count : c.from.result ≡ octets kind body = search rules in
    let so_far : c.append_all.new.self ≡ capsule_front kind body =
    c.append_all.ensures ∙
    ap (λ (r : List Bool). r ++ body) (c.append_number.ensures ∙
    ap (λ (r : List Bool). r ++ binary 8 c.from.result) c.empty-bits.ensures ∙
    ap (binary 8) count) in
    c.append_check.ensures ∙ ap (λ (r : List Bool). r ++ sent_check kind form r) so_far
