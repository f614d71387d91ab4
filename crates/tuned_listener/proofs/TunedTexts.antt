-- The text of a channel's frames, as samples go on.
use Rattle.tuned_listener.proofs.Common.{◌≡◌, List, [], length, ap, ◌∙◌, Some, None, Sample, mark, AreNear, soft_frames, Tuning}
use Rattle.tuned_listener.proofs.Common.{CodeChannel}
use Rattle.tuned_listener.proofs.Common.{sync_stream, Mark, frames_text, text_if_marked, text_from, tuned_text, TunedText, none_marked}
use Rattle.tuned_listener.proofs.FrameTexts.{text_of_none}
pub use Rattle.tuned_listener.proofs.FrameTexts.{listed_texts, rate2_texts, texts_by_frame}

module _ (form : TunedText) (t : Tuning) (channel : CodeChannel) (heard : List Sample) where
  -- there is none before the mark
  pub text_unmarked : mark t heard (length heard) ≡ None → tuned_text form t channel heard ≡ []
  unfolding tuned_text
  text_unmarked none = ap (text_if_marked form t channel heard) none

  -- and after it that of the frames from there on
  pub text_marked : (m : Mark) → mark t heard (length heard) ≡ Some m →
      tuned_text form t channel heard ≡ text_from form t channel m heard
  unfolding tuned_text
  text_marked m is = ap (text_if_marked form t channel heard) is

  -- where the mark is set no frame has ended
  pub text_at_mark : (m : Mark) → mark t heard (length heard) ≡ Some m →
      soft_frames t channel m heard ≡ [] → tuned_text form t channel heard ≡ []
  text_at_mark m is none =
      text_marked m is
      ∙ ap (frames_text form t.check30 m []) none
      ∙ text_of_none form t.check30 m []

module _ (t : Tuning) (near : AreNear (sync_stream t).fingers) where
  module _ (form : TunedText) (channel : CodeChannel) where
    -- no sample has a text
    pub text_of_nothing : tuned_text form t channel [] ≡ []
    text_of_nothing = text_unmarked form t channel [] (none_marked t near)
