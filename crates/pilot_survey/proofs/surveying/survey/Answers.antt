use Rattle.pilot_survey.proofs.Common.{◌≡◌, ℕ, List, length, drop, ◌∙◌, ap, subst, arith, rules, IsPermutation, surveyed, Rank}
use Rattle.std.proofs.lemmas.List.FromFn.{length-map-range_with_len}
use Rattle.pilot_survey.proofs.Parts.{start_end, start_none, all_written}
use Rattle.pilot_survey.proofs.Orders.{sorted_ranking}
use Rattle.pilot_survey.proofs.Ranked.{ranking_only}
use Rattle.pilot_survey.proofs.surveying.survey.Goals as goal

pub run-requires-clause-room : goal.run-requires-clause-room
run-requires-clause-room g c κs within =
    let none = start_none c.args.workers in
    let end = start_end c.args.workers (omega arith) in
    let long : length c.as_mut_slice.result.now ≡ 512 = search rules in
    omega (arith, none, end, long)

-- There are 512 ranks to sort: the workers together write one for each pilot, and the list has just
-- that many places.
pub of-requires : goal.of-requires
of-requires g c =
    let f : ℕ → Rank = surveyed c.args.samples.now c.args.base c.args.width in
    let long : length c.as_mut_slice.result.now ≡ 512 = search rules in
    let room : c.in_ok-ranks.ranks.len ≡ 512 = search rules in
    ap length (all_written f c.args.workers (length c.as_mut_slice.result.now)
    c.in_ok-ranks.ranks.len c.run.new.ranks
    (drop (length c.run.new.ranks) c.in_ok-ranks.ranks.items) (omega arith) long room c.run.ensures)
    ∙ length-map-range_with_len f 0 512

-- The survey is the ranking: the workers have written the ranks of all 512 pilots, whatever their
-- number, and there is one order of these in which none comes after a later one.
pub returns : goal.returns
returns g c =
    let f : ℕ → Rank = surveyed c.args.samples.now c.args.base c.args.width in
    let long : length c.as_mut_slice.result.now ≡ 512 = search rules in
    let room : c.in_ok-ranks.ranks.len ≡ 512 = search rules in
    let written =
    all_written f c.args.workers (length c.as_mut_slice.result.now) c.in_ok-ranks.ranks.len
    c.run.new.ranks (drop (length c.run.new.ranks) c.in_ok-ranks.ranks.items) (omega arith) long
    room c.run.ensures in
    let moved = subst (λ (rs : List Rank). IsPermutation rs c.of.result) written c.of.ensures.permutation in
    ranking_only c.args.samples.now c.args.base c.args.width c.of.result
    (sorted_ranking c.args.samples.now c.args.base c.args.width c.of.result moved
    c.of.ensures.order)
