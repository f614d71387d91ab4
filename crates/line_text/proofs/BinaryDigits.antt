-- Power control bits as digits, one after another.
use Rattle.line_text.proofs.Common.{◌≡◌, ℕ, ◌+◌, ◌<◌, Bool, false, List, [], ◌++◌, length, get_or, take, sym, ap, ◌∙◌, append-nil, digit_of}
use Rattle.line_text.proofs.Common.{take_more, flat_map_more, digits_of}
use Rattle.std.specs.List.{flat_map}

-- no digits yet
pub no_digits : (before : List ℕ) (bits : List Bool) → before ≡ before ++ digits_of (take 0 bits)
unfolding digits_of
no_digits before bits = sym (append-nil before)

-- one digit more after others
pub digit_more : (before text now : List ℕ) (bits : List Bool) (i : ℕ) → i < length bits →
    text ≡ before ++ digits_of (take i bits) → now ≡ text ++ digit_of (get_or bits i false) →
    now ≡ before ++ digits_of (take (i + 1) bits)
unfolding digits_of
digit_more before text now bits i within text_is now_is =
    let bit = get_or bits i false in
    now_is
    ∙ ap (λ (t : List ℕ). t ++ digit_of bit) text_is
    ∙ flat_map_more digit_of before (take i bits) bit
    ∙ ap (λ (bs : List Bool). before ++ flat_map digit_of bs) (sym (take_more bits i false within))
