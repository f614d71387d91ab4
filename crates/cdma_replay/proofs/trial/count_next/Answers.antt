use Rattle.cdma_replay.proofs.Common.{◌≡◌, List, length, subst, take, Sample, made_samples, events, StandsFor, counts_of}
use Rattle.base_modulator.proofs.GivenSamples.{next_made}
use Rattle.cdma_replay.proofs.Counting.{made_more}
use Rattle.cdma_replay.proofs.trial.count_next.Goals as goal

-- The samples that are filled in are the link's next ones, so with those before them they are a
-- longer first part of the link, and what a handset hears of that part is counted.
pub returns-clause-told : goal.returns-clause-told
returns-clause-told c t given stands is =
    let plan = c.args.cell.now.plan in
    let had = c.args.cell.now.given in
    let n = length c.args.samples.now in
    let out = c.fill.new.out in
    let more = made_more plan had n out (next_made plan had n out c.fill.ensures.samples) in
    subst (λ (xs : List Sample). StandsFor t c.count_events.new.mobile xs (events t xs)
    × (c.count_events.new.counts ≡ counts_of (events t xs))) more
    (c.count_events.ensures.told t (take had (made_samples plan)) given stands is)
