use Rattle.quality_bits.proofs.Common.{◌≡◌, ◌-◌, Ok, length, ap, subst, sym, arith, generator_of, IsChecked, IsWhole}
use Rattle.quality_bits.proofs.Wholes.{degree_most, length-capsule, whole-capsule, checked-capsule, found_capsule}
use Rattle.quality_bits.proofs.capsule.body_count.Goals as goal

pub returns-then-not-is_whole-clause-only : goal.returns-then-not-is_whole-clause-only
returns-then-not-is_whole-clause-only c body fills is =
    let whole : IsWhole c.args.bits.now = rw is (whole-capsule c.args.kind c.args.form body fills) in
    absurd (cc (c.if-not-is_whole.ensures.1 whole))

pub returns-then-not-check-clause-only : goal.returns-then-not-check-clause-only
returns-then-not-check-clause-only c body fills is =
    let checked : IsChecked c.args.kind c.args.form c.args.bits.now =
    subst (IsChecked c.args.kind c.args.form) (sym is) (checked-capsule c.args.kind c.args.form body) in
    absurd (cc (c.if-not-check.ensures.1 checked))

-- Where both tests pass, the bits are the capsule of the body that they hold: their number is the
-- one that they state, and their last bits are the check of the bits before.
pub returns-clause-found : goal.returns-clause-found
returns-clause-found c =
    let bits = c.args.bits.now in
    let here : c.len.result - 8 - c.divisor-degree.result.degree ≡
    length bits - 8 - (generator_of c.args.kind).degree =
    omega (arith, c.len.ensures.value, c.divisor-degree.ensures.degree) in
    let whole : IsWhole bits = c.is_whole.ensures.0 c.if-not-is_whole.false in
    let checked = c.check.ensures.0 c.if-not-check.false in
    rw here (found_capsule c.args.kind c.args.form bits whole checked)

pub returns-clause-within : goal.returns-clause-within
returns-clause-within c =
    let whole : IsWhole c.args.bits.now = c.is_whole.ensures.0 c.if-not-is_whole.false in
    omega (arith, c.len.ensures.value, c.divisor-degree.ensures.degree, degree_most c.args.kind, whole.least, whole.all)

pub returns-clause-only : goal.returns-clause-only
returns-clause-only c body fills is =
    ap Ok (omega (
      arith,
      c.len.ensures.value,
      c.divisor-degree.ensures.degree,
      ap length is,
      length-capsule c.args.kind c.args.form body,
    ))
