-- Lemmas on the draws of a trial, one after another.
use Rattle.trial_link.proofs.Common.{◌≡◌, ℕ, suc, ◌+◌, ◌%◌, ◌==◌, [], ◌∷◌, ◌++◌, length, map, refl, ap, arith, length-map-places, past_draw}
use Rattle.trial_link.proofs.Common.{map-places-more, places-none, past_draws, past_frame, past_frames, bits_drawn, drawn, frame_drawn}
use Rattle.trial_link.proofs.Common.{frames_drawn, trial_serial_number}

-- ---- none yet

pub no_draws : (state : ℕ) → past_draws state 0 ≡ state
unfolding past_draws
no_draws state = refl

pub no_bits_drawn : (state : ℕ) → bits_drawn state 0 ≡ []
unfolding bits_drawn
no_bits_drawn state = ap (map (λ k. drawn (past_draws state k) % 2 == 1)) places-none

pub no_frames : (state : ℕ) → past_frames state 0 ≡ state
unfolding past_frames
no_frames state = refl

pub no_frames_drawn : (state : ℕ) → frames_drawn state 0 ≡ []
unfolding frames_drawn
no_frames_drawn state = ap (map (λ k. frame_drawn (past_frames state k))) places-none

-- ---- one more

pub draws_more : (state n : ℕ) → past_draws state (n + 1) ≡ past_draw (past_draws state n)
unfolding past_draws
draws_more state n = let e : n + 1 ≡ suc n = omega arith in ap (past_draws state) e

pub bits_more : (state n : ℕ) →
    bits_drawn state (n + 1) ≡ bits_drawn state n ++ (drawn (past_draws state n) % 2 == 1) ∷ []
unfolding bits_drawn
bits_more state n = map-places-more (λ k. drawn (past_draws state k) % 2 == 1) n

pub length-bits_drawn : (state n : ℕ) → length (bits_drawn state n) ≡ n
unfolding bits_drawn
length-bits_drawn state n = length-map-places (λ k. drawn (past_draws state k) % 2 == 1) n

pub frames_more : (state n : ℕ) → past_frames state (n + 1) ≡ past_frame (past_frames state n)
unfolding past_frames
frames_more state n = let e : n + 1 ≡ suc n = omega arith in ap (past_frames state) e

pub frames_drawn_more : (state n : ℕ) →
    frames_drawn state (n + 1) ≡ frames_drawn state n ++ frame_drawn (past_frames state n) ∷ []
unfolding frames_drawn
frames_drawn_more state n = map-places-more (λ k. frame_drawn (past_frames state k)) n

-- ---- the draws before the frames

-- the five steps that the state takes before the frames
pub fifth_draw : (state : ℕ) → past_draw (past_draws state 4) ≡ past_draws state 5
unfolding past_draws
fifth_draw state = refl

pub serial_number_drawn : (number : ℕ) → drawn (past_draws number 4) ≡ trial_serial_number number
unfolding trial_serial_number
serial_number_drawn number = refl
