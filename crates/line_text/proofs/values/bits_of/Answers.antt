use Rattle.line_text.proofs.Common.{ℕ, ◌++◌, ap, ◌∙◌, binary}
use Rattle.line_text.proofs.StatedTexts.{octet_added, octet_longer}
use Rattle.line_text.proofs.values.bits_of.Goals as goal

pub loop-octet-preserved : goal.loop-octet-preserved
loop-octet-preserved c =
    let k = c.loop-octet.octet-index in
    let bits = c.loop-octet.bits in
    let added = c.append_number.ensures
    ∙ ap (λ (octet : ℕ). bits ++ binary 8 octet) c.from.ensures in
    record {
      left = octet_added c.args.octets.now bits _ k c.loop-octet-test.true added
          c.loop-octet.invariant.left;
      long = octet_longer bits _ _ k added c.loop-octet.invariant.long;
    }
