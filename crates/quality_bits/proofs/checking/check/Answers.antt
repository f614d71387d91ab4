use Rattle.quality_bits.proofs.Common.{◌≡◌, ◌-◌, take, drop, length, ap, ◌∙◌, arith, ℕ, length-drop, number, sent_check, body_length}
use Rattle.quality_bits.proofs.Ends.{length-sent_check, same_numbers}
use Rattle.quality_bits.proofs.checking.check.Goals as goal

-- The answer tells whether the last bits are the check of those before: both are compared as
-- numbers, and since they are as long as the generator's degree, equal numbers are equal bits.
pub returns : goal.returns
returns c =
    let kind = c.args.kind in
    let form = c.args.form in
    let bits = c.args.bits.now in
    let here = c.len.result - c.divisor.result.degree in
    let body : here ≡ body_length kind bits = omega (arith, c.len.ensures.value, c.divisor.ensures.degree) in
    let sent = sent_check kind form (take (body_length kind bits) bits) in
    let end = drop (body_length kind bits) bits in
    let long : length end ≡ length sent =
    omega (
      arith,
      length-drop (body_length kind bits) bits,
      length-sent_check kind form (take (body_length kind bits) bits),
      c.requires,
    ) in
    same_numbers end sent c.number_from.result c.sent_after.result long
    (c.number_from.ensures ∙ ap (λ (n : ℕ). number (drop n bits)) body)
    (c.sent_after.ensures ∙ ap (λ (n : ℕ). number (sent_check kind form (take n bits))) body)
