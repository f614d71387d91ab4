-- Worked values.
use Rattle.std.specs.Prelude.{◌≡◌, refl, Bool, true, false, List, [], ◌∷◌, ◌++◌, replicate, take}
use Rattle.std.specs.Prelude.{map, Some, None}
use Rattle.std.specs.List.{flat_map}
use Rattle.chip_core.specs.Bits.{number, binary, places}
use Rattle.chip_core.specs.declared.check_form.CheckForm.TheVariants.{Plain}
use Rattle.quality_bits.specs.declared.kind.Kind.TheVariants.{M30}
use Rattle.quality_bits.specs.Capsules.{capsule, front_capsule, is_stated}
use Rattle.quality_bits.specs.Pieces.{Piece, piece, capsule_ending}
use Rattle.quality_bits.specs.Quality.{check_bits, inverted, q6, q8, q10, q12, m16, m30}

-- the text 123456789 in ASCII, the highest bit of each byte first
text : List Bool
unfolding binary
text = flat_map (binary 8) (0x31 ∷ 0x32 ∷ 0x33 ∷ 0x34 ∷ 0x35 ∷ 0x36 ∷ 0x37 ∷ 0x38 ∷ 0x39 ∷ [])

text_8 : number (check_bits q8 text) ≡ 0xda
unfolding text binary places check_bits
text_8 = refl

text_12 : number (check_bits q12 text) ≡ 0xd4d
unfolding text binary places check_bits
text_12 = refl

text_16 : number (check_bits m16 text) ≡ 0x29b1
unfolding text binary places check_bits
text_16 = refl

text_30 : number (check_bits m30 text) ≡ 0x3b3cb540
unfolding text binary places check_bits
text_30 = refl

inverted_16 : number (inverted (check_bits m16 text)) ≡ 0xd64e
unfolding text binary places check_bits
inverted_16 = refl

inverted_30 : number (inverted (check_bits m30 text)) ≡ 0x04c34abf
unfolding text binary places check_bits
inverted_30 = refl

-- the checks of the single bit 0
zero_6 : number (check_bits q6 (false ∷ [])) ≡ 0x39
unfolding places check_bits
zero_6 = refl

zero_8 : number (check_bits q8 (false ∷ [])) ≡ 0x65
unfolding places check_bits
zero_8 = refl

zero_10 : number (check_bits q10 (false ∷ [])) ≡ 0x027
unfolding places check_bits
zero_10 = refl

zero_12 : number (check_bits q12 (false ∷ [])) ≡ 0x0ed
unfolding places check_bits
zero_12 = refl

-- the shortest capsule in two frames, and a frame that states 149 octets
frame : List Bool → Piece
frame bits = piece (true ∷ bits)

short_pieces : List Piece
unfolding frame binary
short_pieces =
    frame (binary 8 5 ++ replicate 23 false) ∷ map (λ k. piece (replicate 32 false)) (places 3)

short_ends : map (λ n. capsule_ending (take n short_pieces)) (1 ∷ 2 ∷ 3 ∷ []) ≡
    None ∷ Some (binary 8 5 ++ replicate 32 false) ∷ None ∷ []
unfolding short_pieces binary places capsule_ending front_capsule is_stated
short_ends = refl

long_pieces : List Piece
unfolding frame binary
long_pieces =
    frame (binary 8 149 ++ replicate 23 false) ∷ map (λ k. piece (replicate 32 false)) (places 40)

none_ends : map (λ n. capsule_ending (take n long_pieces)) (1 ∷ 2 ∷ 39 ∷ 41 ∷ []) ≡
    None ∷ None ∷ None ∷ None ∷ []
unfolding long_pieces binary places capsule_ending front_capsule is_stated
none_ends = refl

-- a capsule of 9 octets: its length, 34 bits, and the check of both
nine : number (take 8 (capsule M30 Plain (replicate 34 false))) ≡ 9
unfolding capsule binary places check_bits
nine = refl
