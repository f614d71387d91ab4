-- What the code decodes by its formats.
use Rattle.frame_decoder.proofs.Common.{◌≡◌, ℕ, List, [], ◌∷◌, ◌∙◌, ℤ, FrameFormat, DecodedFrame, frame_of}

pub by_formats : {R : Type 0} (replaced : List ℕ) (softs : List ℤ)
    (eighth quarter half full e q h f : FrameFormat R) (frame : DecodedFrame R) →
    eighth ≡ e → quarter ≡ q → half ≡ h → full ≡ f →
    frame ≡ frame_of full (eighth ∷ quarter ∷ half ∷ []) replaced softs →
    frame ≡ frame_of f (e ∷ q ∷ h ∷ []) replaced softs
by_formats replaced softs eighth quarter half full e q h f frame a b c d is =
    is ∙ (λ i. frame_of (d i) (a i ∷ b i ∷ c i ∷ []) replaced softs)
