-- The codewords of a format, their scores, and their quality indicators.
use Rattle.frame_decoder.proofs.Common.{agreement-gathered_by, length-code_symbols, length-gathered_by, pointwise_decides, booleans_Decides}
use Rattle.frame_decoder.proofs.Common.{quality_indicator, repeated_symbol, quality_length, length-sent_by, IsBestCodeword, length-take-le}
use Rattle.frame_decoder.proofs.Common.{if◌then◌else◌, by_definition, code_symbols, generator_of, body_length, FrameFormat, repeated_in, ap}
use Rattle.frame_decoder.proofs.Common.{gathered_in, codeword_in, one_answer, check_bits, data_shape, address_lt, symbols_in, pointwise, ℕ}
use Rattle.frame_decoder.proofs.Common.{drop-take, take-take, IsChecked, symbol_lt, Codeword, score_of, IsFormat, place_in, score_in, false}
use Rattle.frame_decoder.proofs.Common.{is_right, Decides, address, kept_lt, bits_in, length, IsTrue, Option, arith, subst, Plain, Bool, ℤ}
use Rattle.frame_decoder.proofs.Common.{true, List, take, drop, None, Some, Data, Zero, ◌≡◌, ◌+◌, ◌-◌, ◌*◌, ◌<◌, ◌≤◌, sym, ◌∙◌, ◌↔◌, beq}
use Rattle.frame_decoder.proofs.ZeroCodewords.{length-best_zero_codeword, best_zero_codeword-same}
use Rattle.quality_bits.specs.declared.kind.Kind.{Kind as Check}
pub use Rattle.quality_bits.proofs.Formats.{bits_least}

-- ---- places
repeated_lt : (drops : Bool) (i : ℕ) → i < 384 →
    (if drops then repeated_symbol i else address data_shape i) < (if drops then 576 else 384)
repeated_lt true i lt = kept_lt (address data_shape i) (address_lt Data i lt)
repeated_lt false i lt = address_lt Data i lt

pub place_lt : {R : Type 0} (format : FrameFormat R) (i : ℕ) → IsFormat format → i < 384 →
    place_in format i < 2 * bits_in format
place_lt format i h lt =
    symbol_lt (if format.drops then repeated_symbol i else address data_shape i) (2 * bits_in format)
    format.repeats (repeated_in format) h.fills (repeated_lt format.drops i lt)

-- ---- codewords
pub length-gathered_in : {R : Type 0} (format : FrameFormat R) (softs : List ℤ) →
    length (gathered_in format softs) ≡ 2 * bits_in format
length-gathered_in format softs = length-gathered_by (place_in format) 384 (2 * bits_in format) softs

pub length-symbols_in : {R : Type 0} (format : FrameFormat R) (w : Codeword) → length (symbols_in format w) ≡ 384
length-symbols_in format w = length-sent_by (place_in format) 384 (code_symbols w.start w.bits)

pub length-codeword_in : {R : Type 0} (softs : List ℤ) (format : FrameFormat R) →
    length (codeword_in softs format).bits ≡ bits_in format
unfolding codeword_in
length-codeword_in softs format = length-best_zero_codeword (score_in softs format) (bits_in format) (bits_least format)

-- a codeword's score under the gathered soft values is its score as it is sent
pub gathered_score : {R : Type 0} (softs : List ℤ) (format : FrameFormat R) (w : Codeword) → IsFormat format →
    length softs ≡ 384 → length w.bits ≡ bits_in format →
    score_of (gathered_in format softs) w ≡ score_in softs format w
gathered_score softs format w h long long' =
    let code = code_symbols w.start w.bits in
    let size : length code ≡ 2 * bits_in format = length-code_symbols w.start w.bits ∙ ap (λ (n : ℕ). 2 * n) long' in
    sym
    (agreement-gathered_by (place_in format) 384 (2 * bits_in format) softs code long size
    (λ i lt. place_lt format i h lt))

-- the best codeword of the gathered soft values is the format's
pub best_is : {R : Type 0} (softs : List ℤ) (format : FrameFormat R) (best : Codeword) → IsFormat format →
    length softs ≡ 384 → IsBestCodeword (gathered_in format softs) Zero best → best ≡ codeword_in softs format
unfolding codeword_in
best_is softs format best h long is =
    let n = bits_in format in
    let values = gathered_in format softs in
    by_definition values Zero n best (bits_least format) (length-gathered_in format softs) is
    ∙ best_zero_codeword-same (score_of values) (score_in softs format) n (bits_least format)
    (λ w long'. gathered_score softs format w h long long')

-- ---- the quality indicator
pub always_right : {R : Type 0} (format : FrameFormat R) (bits : List Bool) → format.quality ≡ None →
    true ≡ is_right format bits
always_right format bits e =
    ap (λ (o : Option Check). pointwise beq (take (quality_length o) (drop format.information bits))
    (quality_indicator o (take format.information bits))) (sym e)

-- there are information bits before it
pub check_fits : {R : Type 0} (format : FrameFormat R) (check : Check) (bits checked : List Bool) (count : ℕ) →
    1 ≤ format.information → format.quality ≡ Some check → length bits ≡ bits_in format →
    count ≡ length bits - 8 → checked ≡ take count (drop 0 bits) → (generator_of check).degree < length checked
check_fits format check bits checked count told e long few is =
    let fills : format.information + (generator_of check).degree + 8 ≡ length bits =
    ap (λ (o : Option Check). format.information + quality_length o + 8) (sym e) ∙ sym long in
    let size : length checked ≡ count =
    ap (λ (xs : List Bool). length xs) is
    ∙ length-take-le count bits (omega (arith, few)) in
    omega (arith, size, few, fills, told)

-- The code's test of the bits before the tail is the format's: these are the information and the
-- quality indicator, and both tests ask whether the indicator is the one made of the information.
pub right_is : {R : Type 0} (format : FrameFormat R) (check : Check) (bits : List Bool) (count : ℕ)
    (right : Bool) → format.quality ≡ Some check → length bits ≡ bits_in format → count ≡ length bits - 8 →
    IsTrue right ↔ IsChecked check Plain (take count (drop 0 bits)) → right ≡ is_right format bits
right_is format check bits count right e long few h =
    let info = format.information in
    let degree = (generator_of check).degree in
    let fills : info + degree + 8 ≡ length bits =
    ap (λ (o : Option Check). info + quality_length o + 8) (sym e) ∙ sym long in
    let counted : count ≡ info + degree = omega (arith, few, fills) in
    let body = take (info + degree) bits in
    let size : length body ≡ info + degree = length-take-le (info + degree) bits (omega (arith, fills)) in
    let front : body_length check body ≡ info = omega (arith, size) in
    let is : IsTrue right ↔ IsChecked check Plain body =
    subst (λ (n : ℕ). IsTrue right ↔ IsChecked check Plain (take n bits)) counted h in
    let sent = check_bits (generator_of check) (take info bits) in
    let end = take degree (drop info bits) in
    let left : drop (body_length check body) body ≡ end =
    ap (λ (n : ℕ). drop n body) front ∙ drop-take info degree bits in
    let again : check_bits (generator_of check) (take (body_length check body) body) ≡ sent =
    ap (λ (n : ℕ). check_bits (generator_of check) (take n body)) front
    ∙ ap (check_bits (generator_of check)) (take-take info (info + degree) bits (omega arith)) in
    let told : Decides right (end ≡ sent) =
    ((λ t. sym left ∙ is.0 t ∙ again), (λ same. is.1 (left ∙ same ∙ sym again))) in
    one_answer right (pointwise beq end sent) told (pointwise_decides booleans_Decides end sent)
    ∙ ap (λ (o : Option Check).
    pointwise beq (take (quality_length o) (drop info bits)) (quality_indicator o (take info bits)))
    (sym e)
