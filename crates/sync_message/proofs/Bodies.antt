-- The fields of a message, and how many bits its body has.
use Rattle.sync_message.proofs.Common.{◌≡◌, ℕ, ◌+◌, ◌*◌, ◌/◌, ◌≤◌, Bool, List, [], ◌∷◌, ◌++◌, length, refl, arith, length-append, Option}
use Rattle.sync_message.proofs.Common.{Some, None, IsNone, IsSome, ◌⊎◌, inl, inr, binary, spelled, in_widths, FieldsFit, length-binary, M30}
use Rattle.sync_message.proofs.Common.{group_fields, spelling, IsGroup, UnlessLeft, octets, FillsCapsule, freq_group, sync_values}
use Rattle.sync_message.proofs.Common.{sync_widths, fixed_fields, sync_body, IsSyncMessage, SyncFields}
use Rattle.chip_core.proofs.ValueLists.{length-in_widths}
use Rattle.sync_message.specs.Tails.{IsTail}

-- what stands after the fields that each message has
abbrev pub tail : Option ℕ → List Bool → List Bool
tail freq rest = spelled (group_fields (UnlessLeft 3) (11 ∷ []) (freq_group freq)) ++ rest

pub length-body : (m : SyncFields) → length (sync_body m) ≡ 159 + length (tail m.freq m.rest)
unfolding sync_body spelling binary
length-body m =
    let fixed = spelled (in_widths sync_widths (sync_values m)) in
    omega (
      arith,
      length-append (binary 8 1) (fixed ++ tail m.freq m.rest),
      length-append fixed (tail m.freq m.rest),
      length-binary 8 1,
      length-in_widths sync_widths (sync_values m) refl,
    )

-- TAILS
pub tail-some : (freq : ℕ) (rest : List Bool) → length (tail (Some freq) rest) ≡ 11 + length rest
tail-some freq rest =
    omega (arith, length-append (binary 11 freq ++ []) rest, length-append (binary 11 freq) [], length-binary 11 freq)

pub fills_from : (n : ℕ) (body : List Bool) → 25 ≤ n → n ≤ 148 → 8 * n ≡ 38 + length body → FillsCapsule M30 body
fills_from n body least most whole =
    let count : octets M30 body ≡ n = omega (arith, whole) in
    record {
      whole = omega (arith, count, whole);
      least = omega (arith, count, least);
      most = omega (arith, count, most);
    }

-- the group of a frequency in front of a rest
group_told : (freq : Option ℕ) (rest : List Bool) → IsTail freq rest →
    IsGroup (UnlessLeft 3) (11 ∷ []) (freq_group freq) (length rest)
group_told None rest told = told
group_told (Some freq) rest told = record { all = refl; fit = (told.0, tt) }

-- how many octets the capsule has
record Whole (freq : Option ℕ) (rest : List Bool) : Type 0 where
  count : ℕ
  least : 25 ≤ count
  most : count ≤ 148
  filled : 8 * count ≡ 197 + length (tail freq rest)

tail_whole : (freq : Option ℕ) (rest : List Bool) → IsTail freq rest → Whole freq rest
tail_whole None rest told = record { count = 25; least = omega arith; most = omega arith; filled = omega (arith, told) }
tail_whole (Some freq) rest told =
    record {
      count = 26 + length rest / 8;
      least = omega arith;
      most = omega (arith, told.2);
      filled = omega (arith, told.1, tail-some freq rest);
    }

pub admitted : (m : SyncFields) → FieldsFit (fixed_fields m) → IsTail m.freq m.rest → IsSyncMessage m
unfolding binary
admitted m fits told =
    let whole = tail_whole m.freq m.rest told in
    record {
      said = record {
        fixed = record { all = refl; fit = fits.1 };
        group = group_told m.freq m.rest told;
        whole = refl;
        counted = omega arith;
        columns = refl;
        records = tt;
        least = omega arith;
        left = tt;
      };
      fills = fills_from whole.count (sync_body m) whole.least whole.most
          (omega (arith, whole.filled, length-body m));
    }

-- what a message's fields say of its parts
pub fixed_fit : (m : SyncFields) → IsSyncMessage m → FieldsFit (fixed_fields m)
fixed_fit m is = (omega arith, is.said.fixed.fit)

tail_told : (freq : Option ℕ) (rest : List Bool) (n : ℕ) → n ≤ 148 → 8 * n ≡ 197 + length (tail freq rest) →
    IsGroup (UnlessLeft 3) (11 ∷ []) (freq_group freq) (length rest) → IsTail freq rest
tail_told None rest n most whole is = is
tail_told (Some freq) rest n most whole is =
    let long = tail-some freq rest in
    (is.fit.0, omega (arith, whole, long), omega (arith, most, whole, long))

pub tail_of : (m : SyncFields) → IsSyncMessage m → IsTail m.freq m.rest
unfolding binary
tail_of m is =
    tail_told m.freq m.rest (octets M30 (sync_body m)) (omega (arith, is.fills.most))
    (omega (arith, is.fills.whole, length-body m)) is.said.group

-- what stands after the first fields has 3 bits, or 11 and more
abbrev HasLength : Option ℕ → List Bool → Type 0
HasLength freq rest =
    ((IsNone freq) × (length rest ≡ 3) × (length (tail freq rest) ≡ 3)) ⊎
    ((IsSome freq) × (length (tail freq rest) ≡ 11 + length rest))

tail_length : (freq : Option ℕ) (rest : List Bool) → IsTail freq rest → HasLength freq rest
tail_length None rest told = inl (refl, told, told)
tail_length (Some freq) rest told = inr (refl, tail-some freq rest)

pub length-tail : (m : SyncFields) → IsSyncMessage m → HasLength m.freq m.rest
length-tail m is = tail_length m.freq m.rest (tail_of m is)
