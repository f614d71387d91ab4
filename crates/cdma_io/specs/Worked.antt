-- Worked values, which the checker computes.
use Rattle.std.specs.Prelude.{◌≡◌, [], ◌∷◌, pos, negsuc, Ok, Err, refl}
use Rattle.chip_core.specs.declared.check_form.CheckForm.TheVariants.{Plain, Complemented}
use Rattle.cdma_io.specs.declared.file_fault.FileFault.TheVariants.{Short}
use Rattle.chip_core.specs.declared.width.Width.TheVariants.{Sixteen, Eight}
use Rattle.cdma_io.specs.SampleFile.{header_spelling, magic, opening, sample_spelling}

header_of_2048 : header_spelling (record {
  version = 1;
  check30 = Plain;
  check16 = Complemented;
  count = 2048;
})
    ≡ 73 ∷ 83 ∷ 57 ∷ 53 ∷ 0 ∷ 1 ∷ 0 ∷ 2 ∷ 0 ∷ 0 ∷ 0 ∷ 0 ∷ 0 ∷ 0 ∷ 8 ∷ 0 ∷ []
unfolding header_spelling
header_of_2048 = refl

header_read : opening (73 ∷ 83 ∷ 57 ∷ 53 ∷ 0 ∷ 1 ∷ 0 ∷ 1 ∷ 0 ∷ 0 ∷ 0 ∷ 0 ∷ 2 ∷ 0 ∷ 0 ∷ 0 ∷ [])
    ≡ Ok (record { version = 1; check30 = Complemented; check16 = Plain; count = 33554432 })
unfolding opening
header_read = refl

no_header : opening magic ≡ Err (Short 4)
unfolding opening
no_header = refl

sample_of_bounds : sample_spelling Sixteen (record { i = negsuc 32767; q = pos 32767 }) ≡
    128 ∷ 0 ∷ 127 ∷ 255 ∷ []
unfolding sample_spelling
sample_of_bounds = refl

sample_of_ones : sample_spelling Sixteen (record { i = negsuc 0; q = pos 1 }) ≡
    255 ∷ 255 ∷ 0 ∷ 1 ∷ []
unfolding sample_spelling
sample_of_ones = refl

narrow_sample_of_bounds : sample_spelling Eight (record { i = negsuc 127; q = pos 127 }) ≡
    128 ∷ 127 ∷ []
unfolding sample_spelling
narrow_sample_of_bounds = refl
