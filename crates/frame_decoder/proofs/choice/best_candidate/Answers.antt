use Rattle.frame_decoder.proofs.Common.{◌≤◌, ◌∙◌, arith, refl, sym, subst, length, get_or, IsFormat, bits_in, candidate_in}
use Rattle.frame_decoder.proofs.FormatChoice.{candidate_is, rising_more, rising_end}
use Rattle.frame_decoder.proofs.choice.best_candidate.Goals as goal

pub loop-format-init : goal.loop-format-init
loop-format-init g c = record { rest = refl; kept = refl }

pub best_codeword-codeword-requires-clause-format : goal.best_codeword-codeword-requires-clause-format
best_codeword-codeword-requires-clause-format g c =
    subst (λ format. IsFormat format) (sym c.format-item.is)
    (c.requires.formats c.loop-format.format-index c.format-item.result c.loop-format-test.true)

pub candidate-requires-clause-format : goal.candidate-requires-clause-format
candidate-requires-clause-format g c =
    subst (λ format. IsFormat format) (sym c.format-item.is)
    (c.requires.formats c.loop-format.format-index c.format-item.result c.loop-format-test.true)

pub best_codeword-codeword-requires-clause-room : goal.best_codeword-codeword-requires-clause-room
best_codeword-codeword-requires-clause-room g c =
    subst (λ format. bits_in format ≤ c.loop-format.decoder) (sym c.format-item.is)
    (subst (λ room. bits_in (get_or c.args.formats.now c.loop-format.format-index c.format-item.result) ≤ room)
    (sym c.loop-format.invariant.kept)
    (c.requires.room c.loop-format.format-index c.format-item.result c.loop-format-test.true))

pub loop-format-preserved : goal.loop-format-preserved
loop-format-preserved g c =
    let softs = c.args.softs.now in
    let format = c.format-item.result in
    let codeword = c.best_codeword-codeword in
    let found = candidate_is softs format codeword.result.bits codeword.result.score c.candidate.result
    codeword.ensures.bits codeword.ensures.score c.candidate.ensures in
    record {
      rest = rising_more (candidate_in softs) c.args.formats.now c.loop-format.format-index format _
          c.loop-format.best c.preferred-best.result c.candidate.result c.loop-format-test.true
          c.format-item.is found c.preferred-best.ensures c.loop-format.invariant.rest;
      kept = codeword.ensures.kept ∙ c.loop-format.invariant.kept;
    }

pub returns-clause-value : goal.returns-clause-value
returns-clause-value g c =
    let past : length c.args.formats.now ≤ c.loop-format.format-index = omega (arith, c.loop-format-test.false) in
    rising_end (candidate_in c.args.softs.now) c.args.formats.now c.loop-format.format-index _
    c.loop-format.best past c.loop-format.invariant.rest
