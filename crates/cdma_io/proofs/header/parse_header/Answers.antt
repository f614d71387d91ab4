use Rattle.cdma_io.proofs.Common.{common_steps, ints, sym, ap, ◌∙◌, arith, rules, most_samples}
use Rattle.cdma_io.proofs.ByteNumbers.{AreBytes}
use Rattle.cdma_io.proofs.Opening.{AreParsed, parsed_count, parsed_flags, parsed_header, parsed_magic, parsed_spelling, parsed_version}
use Rattle.cdma_io.proofs.header.parse_header.Goals.{After-read_u64-count}
use Rattle.cdma_io.proofs.header.parse_header.Goals as goal

pub returns-then-not-starts_with-clause-value : goal.returns-then-not-starts_with-clause-value
returns-then-not-starts_with-clause-value c =
    parsed_magic c.args.bytes.now c.requires (sym c.starts_with.ensures.value ∙
    c.if-not-starts_with.true)

pub returns-then-not-is_known-clause-value : goal.returns-then-not-is_known-clause-value
returns-then-not-is_known-clause-value c =
    parsed_version c.args.bytes.now c.read_u16-version.result c.requires
    (sym c.starts_with.ensures.value ∙ c.if-not-starts_with.false)
    c.read_u16-version.ensures (sym c.is_known.ensures ∙ c.if-not-is_known.true)

pub returns-then-flags-ge4-clause-value : goal.returns-then-flags-ge4-clause-value
returns-then-flags-ge4-clause-value c =
    parsed_flags c.args.bytes.now c.read_u16-version.result c.read_u16-flags.result c.requires
    (sym c.starts_with.ensures.value ∙ c.if-not-starts_with.false)
    c.read_u16-version.ensures (sym c.is_known.ensures ∙ c.if-not-is_known.false)
    c.read_u16-flags.ensures c.if-flags-ge4.true

-- the fields that are read before the number of samples is judged
are_parsed : (c : After-read_u64-count) →
    AreParsed c.args.bytes.now c.read_u16-version.result c.read_u16-flags.result c.read_u64-count.result
are_parsed c = record {
  long = c.requires;
  begins = sym c.starts_with.ensures.value ∙ c.if-not-starts_with.false;
  version_is = c.read_u16-version.ensures;
  known = sym c.is_known.ensures ∙ c.if-not-is_known.false;
  flags_are = c.read_u16-flags.ensures;
  few = c.if-flags-ge4.false;
  count_is = c.read_u64-count.ensures;
}

pub returns-then-count-most_for-clause-value : goal.returns-then-count-most_for-clause-value
returns-then-count-most_for-clause-value c =
    parsed_count c.args.bytes.now c.read_u16-version.result c.read_u16-flags.result
    c.read_u64-count.result
    (are_parsed (goal.at.returns-then-count-most_for-clause-value c).After-read_u64-count)
    _ (c.most_for.ensures.value ∙ ap most_samples c.width_for.ensures) c.if-count-most_for.true

pub returns-clause-value : goal.returns-clause-value
returns-clause-value c =
    parsed_header c.args.bytes.now c.read_u16-version.result c.read_u16-flags.result
    c.read_u64-count.result c.check_form.result c.check_form-2.result
    (are_parsed (goal.at.returns-clause-value c).After-read_u64-count)
    _ (c.most_for.ensures.value ∙ ap most_samples c.width_for.ensures) c.if-count-most_for.false
    (search rules) (search rules)

pub returns-clause-spelled : goal.returns-clause-spelled
returns-clause-spelled c =
    let bytes = c.args.bytes.now in
    let small : AreBytes bytes = λ k. let fits = c.type_inv.bytes k in omega arith in
    parsed_spelling bytes _ c.requires small (returns-clause-value c)

pub returns-clause-bytes_alone : goal.returns-clause-bytes_alone
returns-clause-bytes_alone c = grind (ints, arith, common_steps)
