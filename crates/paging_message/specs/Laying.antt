-- Capsules laid one after another in the body bits of half-frames (TIA/EIA-95-B, 7.7.2.1).
use Rattle.paging_message.specs.Common.{places, IsWhole}
use Rattle.std.specs.Prelude.{◌≡◌, ℕ, ◌+◌, ◌-◌, ◌*◌, ◌/◌, ◌%◌, ◌<◌, ◌≤◌, ◌==◌, if◌then◌else◌, Bool}
use Rattle.std.specs.Prelude.{true, false, List, [], ◌∷◌, ◌++◌, length, take, drop, replicate}
use Rattle.std.specs.List.{flat_map, list_any}
use Rattle.paging_message.specs.HalfFrames.{bits_left}

-- the body bits of half-frames, and the half-frames in which a capsule begins after an SCI bit of 1
pub record Laid : Type 0 where
  pub body : List Bool
  pub starts : List ℕ

abbrev pub nothing_laid : Laid
nothing_laid = record { body = []; starts = [] }

-- the number of zeros that complete the last half-frame of `count` body bits
unfoldable pub fill : ℕ → ℕ → ℕ
fill size count = (size - count % size) % size

abbrev pub padded_to : ℕ → List Bool → List Bool
padded_to size bits = bits ++ replicate (fill size (length bits)) false

-- Another capsule: right after the bits so far if `follow`, otherwise in the next half-frame.
unfoldable pub laid_on : ℕ → Laid → Bool → List Bool → Laid
laid_on size l follow capsule =
    if follow then record { body = l.body ++ capsule; starts = l.starts }
    else (let front = padded_to size l.body in
    record { body = front ++ capsule; starts = l.starts ++ length front / size ∷ [] })

-- the bits of half-frame h
abbrev pub half_frame : ℕ → List ℕ → List Bool → ℕ → List Bool
half_frame size starts body h = list_any (λ s. s == h) starts ∷ take size (drop (size * h) body)

-- the half-frames of these body bits, with their SCI bits; the last ends with the last body bit
unfoldable pub framed : ℕ → Laid → List Bool
framed size l =
    flat_map (half_frame size l.starts l.body) (places ((length l.body + size - 1) / size))

-- those half-frames, the last padded with zeros
unfoldable pub half_frames_of : ℕ → Laid → List Bool
half_frames_of size l = framed size (record { body = padded_to size l.body; starts = l.starts })

-- a layout: a half-frame's number of body bits, and how many bits of the current half-frame are
-- laid, 0 if it is full
pub record Place : Type 0 where
  pub size : ℕ
  pub place : ℕ

-- how many bits of their last half-frame `count` body bits fill, including its SCI bit
unfoldable pub place_of : ℕ → ℕ → ℕ
place_of size count = if count % size == 0 then 0 else 1 + count % size

-- the ranges of a layout's numbers
pub record IsPlace (layout : Place) : Type 0 where
  pub within : layout.place ≤ layout.size
  pub least : 47 ≤ layout.size
  pub most : layout.size ≤ 95

-- how many body bits of the current half-frame are left
abbrev pub left_in : Place → ℕ
left_in layout = if layout.place == 0 then 0 else layout.size + 1 - layout.place

-- another body bit; if `sci`, the SCI bit of its half-frame is 1
abbrev pub bit_on : ℕ → Laid → Bool → Bool → Laid
bit_on size l sci bit = record {
  body = l.body ++ bit ∷ [];
  starts = if sci then l.starts ++ length l.body / size ∷ [] else l.starts;
}

-- what is laid, and zeros up to the beginning of the next capsule
abbrev pub way_for : ℕ → Laid → Bool → Laid
way_for size l follow =
    record { body = if follow then l.body else padded_to size l.body; starts = l.starts }

-- half-frames whose first body bits are among the first `count`
abbrev pub HaveBegun : ℕ → ℕ → List ℕ → Type 0
HaveBegun size count [] = Unit {0}
HaveBegun size count (s ∷ starts) = (s * size < count) × HaveBegun size count starts

-- a layout that has laid this as these bits
pub record HasLaid (layout : Place) (l : Laid) (bits : List Bool) : Type 0 where
  pub placed : layout.place ≡ place_of layout.size (length l.body)
  pub spelled : bits ≡ framed layout.size l
  pub begun : HaveBegun layout.size (length l.body) l.starts

-- a capsule to lay, and whether it follows the one before at once
pub record Put : Type 0 where
  pub follows : Bool
  pub capsule : List Bool

-- capsules laid in order
abbrev pub laid_all : ℕ → Laid → List Put → Laid
laid_all size l [] = l
laid_all size l (p ∷ puts) = laid_all size (laid_on size l p.follows p.capsule) puts

-- each is a whole capsule, and one follows at once only if at least 8 body bits are left
abbrev pub AreLawful : ℕ → Laid → List Put → Type 0
AreLawful size l [] = Unit {0}
AreLawful size l (p ∷ puts) =
    IsWhole p.capsule × (p.follows ≡ true → 8 ≤ bits_left size (length l.body))
    × AreLawful size (laid_on size l p.follows p.capsule) puts
