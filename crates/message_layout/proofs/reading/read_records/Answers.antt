use Rattle.message_layout.proofs.Common.{common_steps, ints, ◌≡◌, ℕ, ◌+◌, ◌*◌, ◌<◌, ◌≤◌, Bool, List, [], ◌∷◌, Some, None, drop, length, map}
use Rattle.message_layout.proofs.Common.{refl, arith, column_in, count_in, drop-drop, le-leb, length-drop, lt-leb, records_at, total_width}
use Rattle.message_layout.proofs.Loops.{records_end}
use Rattle.message_layout.proofs.reading.read_records.Goals.{After-records_within-count}
use Rattle.message_layout.proofs.reading.read_records.Goals as goal

-- what is read where too few records fit
records_short : (ws : List ℕ) (least count all : ℕ) (bits : List Bool) → count ≡ count_in ws all →
    all ≡ length bits → count < least → None ≡ records_at ws least bits
unfolding records_at
records_short ws least count all bits fit long few = rw (← long, ← fit, lt-leb least count few) refl

-- and where enough do
records_read : (ws : List ℕ) (least count all size from : ℕ) (bits : List Bool) (a b c : List ℕ) →
    count ≡ count_in ws all → all ≡ length (drop from bits) → least ≤ count →
    size ≡ total_width ws → a ≡ column_in ws count 0 (drop from bits) →
    b ≡ column_in ws count 1 (drop from bits) → c ≡ column_in ws count 2 (drop from bits) →
    Some (a ∷ b ∷ c ∷ [], drop (from + count * size) bits) ≡ records_at ws least (drop from bits)
unfolding records_at
records_read ws least count all size from bits a b c fit long few width first second third =
    rw (
      ← long,
      ← fit,
      le-leb least count few,
      first,
      second,
      third,
      width,
      drop-drop (count * total_width ws) from bits,
    ) refl

-- the records end within the bits
within : (c : goal.After-size_of) →
    c.args.from + c.records_within-count.result * c.size_of.result ≤ length c.args.bits.now
within c =
    let most = records_end (map (λ row. row.1) c.args.records.now.fields.now)
    c.records_within-count.result c.size_of.result _ _ c.records_within-count.ensures
    c.size_of.ensures.value refl in
    omega (arith, most, c.len.ensures.value, c.requires.within)

-- and so do the numbers of each column
columns_within : (c : After-records_within-count) →
    c.args.from + c.records_within-count.result * total_width (map (λ row. row.1) c.args.records.now.fields.now)
    ≤ length c.args.bits.now
columns_within c =
    let ws = map (λ row. row.1) c.args.records.now.fields.now in
    omega (
      arith,
      records_end ws c.records_within-count.result (total_width ws) _ _ c.records_within-count.ensures refl refl,
      c.len.ensures.value,
      c.requires.within,
    )

pub returns-then-count-from-clause-records : goal.returns-then-count-from-clause-records
returns-then-count-from-clause-records c =
    records_short _ _ _ _ _ c.records_within-count.ensures
    (omega (arith, length-drop c.args.from c.args.bits.now, c.len.ensures.value)) (omega arith)

pub overflow_mul-result : goal.overflow_mul-result
overflow_mul-result c = let most = within c in omega arith

pub overflow_add-result : goal.overflow_add-result
overflow_add-result c = let most = within c in omega arith

pub returns-clause-records : goal.returns-clause-records
returns-clause-records c =
    records_read _ _ _ _ _ c.args.from _ _ _ _ c.records_within-count.ensures
    (omega (arith, length-drop c.args.from c.args.bits.now, c.len.ensures.value)) (omega arith)
    c.size_of.ensures.value c.read_column.ensures c.read_column-2.ensures c.read_column-3.ensures

pub returns-clause-within : goal.returns-clause-within
returns-clause-within c = within c

pub overflow_cast-fitting : goal.overflow_cast-fitting
overflow_cast-fitting c = grind (ints, arith, common_steps)

pub read_column-requires-clause-within : goal.read_column-requires-clause-within
read_column-requires-clause-within c = columns_within (goal.at.read_column-requires-clause-within c).After-records_within-count

pub read_column-requires-2-clause-within : goal.read_column-requires-2-clause-within
read_column-requires-2-clause-within c = columns_within (goal.at.read_column-requires-2-clause-within c).After-records_within-count

pub read_column-requires-3-clause-within : goal.read_column-requires-3-clause-within
read_column-requires-3-clause-within c = columns_within (goal.at.read_column-requires-3-clause-within c).After-records_within-count
