use Rattle.quality_bits.proofs.Common.{sym, ◌∙◌, eqb-true, eq-eqb, false≢true}
use Rattle.quality_bits.proofs.Opened.{stated_bounds, stated_from}
use Rattle.quality_bits.proofs.capsule.is_whole.Goals as goal

pub returns-in-Some : goal.returns-in-Some
returns-in-Some c =
    let told = c.in-Some.ensures in
    let bounds = stated_bounds c.args.bits.now told.0 in (
      λ same. record {
        told = bounds.0;
        least = bounds.1;
        most = bounds.2;
        all = sym c.len.ensures.value ∙ eqb-true c.len.result c.in-Some.stated same ∙ told.1;
      },
      λ whole. eq-eqb c.len.result c.in-Some.stated (c.len.ensures.value ∙ whole.all ∙ sym told.1),
    )

pub returns-in-None : goal.returns-in-None
returns-in-None c = (
  λ none. absurd (false≢true none),
  λ whole. absurd
      (c.in-None.ensures (stated_from c.args.bits.now whole.told whole.least whole.most)),
)
