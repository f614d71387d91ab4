-- The levels of channels that are kept for a block, and the chips that were made of them.
use Rattle.cell_samples.proofs.Common.{◌≡◌, ℕ, suc, ◌+◌, ◌-◌, ◌%◌, ◌<◌, ◌≤◌, List, [], ◌∷◌, length, get_or, set, replicate, take, drop, sym}
use Rattle.cell_samples.proofs.Common.{refl, ap, ◌∙◌, arith, ℤ, pos, ◌+ℤ◌, ◌*ℤ◌, unsigned_abs, Bool, true, ◌&&◌, map, below_more, subst}
use Rattle.cell_samples.proofs.Common.{get_or-set_same, get_or-set_other, get_or-take, get_or-drop, SFits, eqb, eqb-true, of_z, to_z, w64}
use Rattle.cell_samples.proofs.Common.{and_parts, ints, to_z-of_z, get_or-replicate, length-map, set-get_or, All-replicate, All-set, sign}
use Rattle.cell_samples.proofs.Common.{of_sample, origin, Pair, Sample, IsWithin, walsh, scaled_none, Carrier, amplitudes, level, scaled}
use Rattle.cell_samples.proofs.Common.{AreChips, AreFirstLevels, AreLevels, AreQuiet, AreBlockSums, AreTurned, IsKeptBlock, IsLevel}
use Rattle.cell_samples.proofs.Common.{IsQuiet, IsTurned, chip_at, no_sample, ChannelState, carrier_of, any_default}
use Rattle.std.specs.List.{All}

-- ---- levels that are kept one by one

pub none_kept : (first : ℕ) (cs : List Carrier) (levels : List ℤ) → AreFirstLevels first cs 0 levels
none_kept first cs levels n none below k low = absurd (omega (arith, below))

pub one_kept : (first done : ℕ) (cs : List Carrier) (c d : Carrier) (levels new : List ℤ) (l : ℤ) →
    done < length cs → done < length levels → get_or cs done d ≡ c →
    ((k : ℕ) → k < 64 → level (first + k) c ≡ l) → new ≡ set levels done l →
    AreFirstLevels first cs done levels → AreFirstLevels first cs (done + 1) new
one_kept first done cs c d levels new l inside room is level_is new_is before n none below k low =
    below_more (λ m. level (first + k) (get_or cs m none) ≡ get_or new m (pos 0)) done
    (λ m lt.
    before m none lt k low
    ∙ sym (get_or-set_other levels done m l (pos 0) (λ e. omega (arith, e, lt)))
    ∙ ap (λ (xs : List ℤ). get_or xs m (pos 0)) (sym new_is))
    (ap (level (first + k)) (any_default cs done none d inside ∙ is)
    ∙ level_is k low
    ∙ sym (get_or-set_same levels done l (pos 0) room)
    ∙ ap (λ (xs : List ℤ). get_or xs done (pos 0)) (sym new_is))
    n below

pub one_small : (done : ℕ) (levels new : List ℤ) (l : ℤ) → unsigned_abs l ≤ 65535 →
    new ≡ set levels done l → All IsLevel levels → All IsLevel new
one_small done levels new l low new_is before =
    subst (All IsLevel) (sym new_is) (All-set IsLevel levels done l low before)

pub same_level : (levels : List ℤ) (n : ℕ) (l : ℤ) → SFits w64 (get_or levels n (pos 0)) →
    eqb (of_z w64 (get_or levels n (pos 0))) (of_z w64 l) ≡ true → set levels n (to_z w64 (of_z w64 l)) ≡ levels
same_level levels n l fits e =
    let old = get_or levels n (pos 0) in
    ap (set levels n) (ap (to_z w64) (sym (eqb-true (of_z w64 old) (of_z w64 l) e)) ∙ to_z-of_z w64 old fits)
    ∙ set-get_or levels n (pos 0)

-- where all levels so far are those of before, and one more is
pub all_same : (before one : Bool) (old levels new : List ℤ) →
    (before ≡ true → levels ≡ old) → (one ≡ true → new ≡ levels) → (before && one) ≡ true → new ≡ old
all_same before one old levels new are is both =
    let parts = and_parts before one both in is (parts.1) ∙ are (parts.0)

-- ---- the chips of no level

no_sum : (s : ℤ) → (pos 0 *ℤ s) +ℤ pos 0 ≡ pos 0
no_sum s = omega (arith, ints)

silent : (chip : ℕ) (cs : List Carrier) →
    ((n : ℕ) (none : Carrier) → n < length cs → level chip (get_or cs n none) ≡ pos 0) → amplitudes chip cs ≡ pos 0
silent chip [] all = refl
silent chip (c ∷ cs) all =
    let s = sign (walsh c.row (chip % 64)) in
    ap (λ (x : ℤ). (x *ℤ s) +ℤ amplitudes chip cs) (all 0 c (omega arith))
    ∙ ap (λ (y : ℤ). (pos 0 *ℤ s) +ℤ y) (silent chip cs (λ n none lt. all (suc n) none (omega (arith, lt))))
    ∙ no_sum s

silent_chips : (cs : List Carrier) (factor : Pair) → length cs ≤ 128 →
    AreChips cs factor (replicate 128 (pos 0)) (replicate 64 no_sample)
silent_chips cs factor few first whole are k low =
    let sum : amplitudes (first + k) cs ≡ pos 0 =
    silent (first + k) cs (λ n none lt.
    are n none lt k low ∙ get_or-replicate 128 n (pos 0) (pos 0) (omega (arith, lt, few))) in
    ap of_sample (get_or-replicate 64 k no_sample no_sample low)
    ∙ sym (ap (λ (x : ℤ). scaled x factor) sum ∙ scaled_none factor)

-- channels that were asked for no block
pub fresh_block : (channels : List ChannelState) (factor : Pair) → length channels ≤ 128 →
    IsWithin 32768 factor → AreQuiet (map carrier_of channels) factor →
    IsKeptBlock channels factor (replicate 128 (pos 0)) (replicate 64 no_sample)
fresh_block channels factor few low quiet = record {
  few = few;
  low = low;
  quiet = quiet;
  small = All-replicate IsLevel 128 (pos 0) (omega arith);
  sums = silent_chips (map carrier_of channels) factor
      (omega (arith, few, length-map channels carrier_of));
}

-- ---- the next block

pub chips_stand : (cs : List Carrier) (factor : Pair) (old new : List ℤ) (chips : List Sample) →
    new ≡ old → AreChips cs factor old chips → AreChips cs factor new chips
chips_stand cs factor old new chips is before = subst (λ (ls : List ℤ). AreChips cs factor ls chips) (sym is) before

-- the sums of the channels as they came back
pub same_sums : (items back : List ChannelState) (factor : Pair) (levels : List ℤ)
    (sums : List Pair) → back ≡ items → AreBlockSums (map carrier_of back) factor levels sums →
    AreBlockSums (map carrier_of items) factor levels sums
same_sums items back factor levels sums are before =
    subst (λ (xs : List ChannelState). AreBlockSums (map carrier_of xs) factor levels sums) are before

pub sum_quiet : (cs : List Carrier) (factor : Pair) (levels : List ℤ) (sums : List Pair)
    (first k : ℕ) → first % 64 ≡ 0 → AreLevels first cs levels → AreBlockSums cs factor levels sums →
    AreQuiet cs factor → k < 64 → IsQuiet (get_or sums k origin)
sum_quiet cs factor levels sums first k whole are made quiet low =
    subst IsQuiet (sym (made first whole are k low)) (quiet (first + k))

pub chips_made : (cs : List Carrier) (factor : Pair) (levels : List ℤ) (sums : List Pair)
    (chips : List Sample) → AreBlockSums cs factor levels sums →
    ((k : ℕ) → k < 64 → of_sample (get_or chips k no_sample) ≡ get_or sums k origin) → AreChips cs factor levels chips
chips_made cs factor levels sums chips made narrowed first whole are k low = narrowed k low ∙ made first whole are k low

pub block_after : (items back : List ChannelState) (factor : Pair) (levels : List ℤ)
    (chips : List Sample) → back ≡ items → length items ≤ 128 → IsWithin 32768 factor →
    AreQuiet (map carrier_of items) factor → All IsLevel levels →
    AreChips (map carrier_of items) factor levels chips → IsKeptBlock back factor levels chips
block_after items back factor levels chips are few low quiet small sums =
    subst (λ (cs : List ChannelState). IsKeptBlock cs factor levels chips) (sym are)
    (record { few = few; low = low; quiet = quiet; small = small; sums = sums })

-- ---- a chip of the block that was asked for

pub chip_kept : (channels : List ChannelState) (factor : Pair) (levels : List ℤ)
    (chips : List Sample) (chip place n k : ℕ) → place ≡ chip % 64 →
    AreLevels (chip - place) (map carrier_of channels) levels →
    AreChips (map carrier_of channels) factor levels chips → n ≡ 64 - place → place + k < 64 →
    of_sample (get_or (take n (drop place chips)) k no_sample)
    ≡ chip_at (record { channels = channels; factor = factor }) (chip + k)
chip_kept channels factor levels chips chip place n k place_is are sums n_is low =
    let sent : ℕ → Pair = λ at. scaled (amplitudes at (map carrier_of channels)) factor in
    let at : chip - place + (place + k) ≡ chip + k = omega (arith, place_is) in
    ap of_sample
    (get_or-take n (drop place chips) k no_sample (omega (arith, n_is, low))
    ∙ get_or-drop place chips k no_sample)
    ∙ sums (chip - place) (omega (arith, place_is)) are (place + k) low
    ∙ ap sent at

pub turned_at : (chip wanted : Pair) (signs : ℤ × ℤ) (sample : Sample) → chip ≡ wanted →
    IsTurned chip signs sample → IsTurned wanted signs sample
turned_at chip wanted signs sample is made = subst (λ (z : Pair). IsTurned z signs sample) is made

-- one chip more
pub one_turned : (chips : ℕ → Pair) (signs : List (ℤ × ℤ)) (done : ℕ) (samples : List Sample)
    (sample : Sample) → done < length samples → IsTurned (chips done) (get_or signs done (pos 0, pos 0)) sample →
    AreTurned chips signs done samples → AreTurned chips signs (done + 1) (set samples done sample)
one_turned chips signs done samples sample room here before =
    let new = set samples done sample in
    below_more (λ k. IsTurned (chips k) (get_or signs k (pos 0, pos 0)) (get_or new k no_sample))
    done
    (λ k lt.
    subst (IsTurned (chips k) (get_or signs k (pos 0, pos 0)))
    (sym (get_or-set_other samples done k sample no_sample (λ e. omega (arith, e, lt)))) (before k lt))
    (subst (IsTurned (chips done) (get_or signs done (pos 0, pos 0)))
    (sym (get_or-set_same samples done sample no_sample room)) here)
