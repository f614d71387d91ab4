use Rattle.event_tap.proofs.Common.{common_steps, ints, length, ap, arith}
use Rattle.event_tap.proofs.PartTexts.{length-named}
use Rattle.event_tap.proofs.parts.append_value.Goals as goal

pub returns-clause-len : goal.returns-clause-len
returns-clause-len c =
    omega (
      arith,
      c.append_short.ensures.len 7 (omega arith) c.requires.few,
      c.append_name.ensures.len,
      length-named c.as_bytes.result.now,
      ap length c.as_bytes.ensures.value,
      c.requires.short,
    )

pub returns-clause-value : goal.returns-clause-value
returns-clause-value c = grind (ints, arith, common_steps)
