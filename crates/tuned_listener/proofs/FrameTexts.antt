-- What is written of frames in order, and what they leave of a slot, as frames go on.
use Rattle.tuned_listener.proofs.Common.{◌≡◌, ℕ, List, [], ◌∷◌, ◌++◌, refl, sym, ap, ◌∙◌, append-nil, append_assoc, flat_map, CheckForm}
use Rattle.tuned_listener.proofs.Common.{Mark, SoftFrame, slot_after, slot_more, tuned_frame_text, frames_text, listed_text, rate2_text}
use Rattle.tuned_listener.proofs.Common.{TunedText, Listed, RateSetTwo, Option, Some, option_to_list}

-- what frames leave of a slot
pub kept_after : (kept xs ys : List SoftFrame) → slot_after kept (xs ++ ys) ≡ slot_after (slot_after kept xs) ys
unfolding slot_after
kept_after kept [] ys = refl
kept_after kept (frame ∷ xs) ys = kept_after (slot_more kept frame) xs ys

pub kept_after_none : (kept : List SoftFrame) → slot_after kept [] ≡ kept
unfolding slot_after
kept_after_none kept = refl

pub kept_after_shown : (kept : List SoftFrame) (shown : Option SoftFrame) (frame : SoftFrame) → shown ≡ Some frame →
    slot_more kept frame ≡ slot_after kept (option_to_list shown)
unfolding slot_after
kept_after_shown kept shown frame is = rw is refl

module _ (form : TunedText) (check : CheckForm) (m : Mark) where
  -- the text of frames, and of those after them
  pub texts_joined : (kept xs ys : List SoftFrame) → frames_text form check m kept (xs ++ ys)
      ≡ frames_text form check m kept xs ++ frames_text form check m (slot_after kept xs) ys
  unfolding frames_text slot_after
  texts_joined kept [] ys = refl
  texts_joined kept (frame ∷ xs) ys =
      let slot = slot_more kept frame in
      let first = tuned_frame_text form check m slot frame in
      ap (λ (text : List ℕ). first ++ text) (texts_joined slot xs ys)
      ∙ sym (append_assoc first (frames_text form check m slot xs) (frames_text form check m (slot_after slot xs) ys))

  pub text_of_none : (kept : List SoftFrame) → frames_text form check m kept [] ≡ []
  unfolding frames_text
  text_of_none kept = refl

  -- one frame's text, and what it leaves of a slot
  pub text_of_shown : (kept : List SoftFrame) (shown : Option SoftFrame) (frame : SoftFrame) → shown ≡ Some frame →
      tuned_frame_text form check m (slot_more kept frame) frame
      ≡ frames_text form check m kept (option_to_list shown)
  unfolding frames_text
  text_of_shown kept shown frame is =
      rw is (sym (append-nil (tuned_frame_text form check m (slot_more kept frame) frame)))

  -- where the text of a frame is the same whatever is kept of its slot, that of frames is their
  -- texts one after the other
  pub texts_by_frame : ((slot : List SoftFrame) (frame : SoftFrame) →
      tuned_frame_text form check m slot frame ≡ tuned_frame_text form check m [] frame) →
      (kept frames : List SoftFrame) →
      frames_text form check m kept frames ≡ flat_map (tuned_frame_text form check m []) frames
  unfolding frames_text
  texts_by_frame same kept [] = refl
  texts_by_frame same kept (frame ∷ frames) =
      let slot = slot_more kept frame in
      rw (same slot frame, texts_by_frame same slot frames) refl

module _ (check : CheckForm) (m : Mark) (kept frames : List SoftFrame) where
  -- so it is with the frames of rate set 2
  pub rate2_texts : frames_text RateSetTwo check m kept frames
      ≡ flat_map (λ (f : SoftFrame). rate2_text f.end f.descrambled f.power) frames
  rate2_texts = texts_by_frame RateSetTwo check m (λ slot frame. refl) kept frames

  -- and with those of rate set 1 with the first codewords of a rate
  pub listed_texts : (k : ℕ) → frames_text (Listed k) check m kept frames
      ≡ flat_map (λ (f : SoftFrame). listed_text k f.end f.descrambled f.power) frames
  listed_texts k = texts_by_frame (Listed k) check m (λ slot frame. refl) kept frames
