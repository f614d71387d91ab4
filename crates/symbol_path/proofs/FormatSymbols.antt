-- The symbols that a frame sends by the format of its rate, and the sums for its code symbols.
use Rattle.symbol_path.proofs.Common.{◌≡◌, ℕ, ◌/◌, Bool, true, false, if◌then◌else◌, refl, ap, ◌∙◌, FrameFormat, SentSymbols, sent_count}
use Rattle.symbol_path.proofs.Common.{repeated_count, repeated_as, which_sent, place_in, repeated_symbol, address, data_shape}

pub repeated_is : (drops : Bool) → repeated_count (which_sent drops) ≡ (if drops then 576 else 384)
repeated_is true = refl
repeated_is false = refl

pub sent_is : (drops : Bool) → sent_count (which_sent drops) ≡ 384
sent_is true = refl
sent_is false = refl

by_drops : {A : Type 0} (f : (ℕ → ℕ) → ℕ → A) (repeats : ℕ) (drops : Bool) →
    f (λ i. repeated_as (which_sent drops) i / repeats) (sent_count (which_sent drops))
    ≡ f (λ i. (if drops then repeated_symbol i else address data_shape i) / repeats) 384
by_drops f repeats true = refl
by_drops f repeats false = refl

-- what is made of the repeated symbols that are sent is made of the format's places
pub by_format : {R A : Type 0} (f : (ℕ → ℕ) → ℕ → A) (format : FrameFormat R) (symbols : SentSymbols) →
    symbols ≡ which_sent format.drops →
    f (λ i. repeated_as symbols i / format.repeats) (sent_count symbols) ≡ f (place_in format) 384
by_format f format symbols is =
    ap (λ (s : SentSymbols). f (λ i. repeated_as s i / format.repeats) (sent_count s)) is
    ∙ by_drops f format.repeats format.drops
