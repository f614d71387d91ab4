use Rattle.pilot_search.proofs.Common.{◌≡◌, ◌+◌, ◌-◌, ◌/◌, ◌≤◌, ◌<◌, ℕ, arith, subst, sym, Option, IsFound, worker_start, Best}
use Rattle.pilot_search.proofs.FoundLemmas.{both_found, start_up, start_most}
use Rattle.pilot_search.proofs.searching.+fn-run-join+arg2+fn-run-join+arg3+run.Goals as goal

-- What both halves of the workers found is found in the whole range: the ranges of the two halves
-- meet where the second begins, and the better of the two is the best of both.
pub returns-clause-found : goal.returns-clause-found
returns-clause-found g t c =
    let few : ℕ = c.args.count / 2 in
    let middle : ℕ = c.args.first + few in
    let end : ℕ = c.args.first + c.args.count in
    let some : 0 < c.args.workers = omega arith in
    let low : c.args.first ≤ middle = omega arith in
    let high : middle ≤ end = omega arith in
    let most : end ≤ c.args.workers = omega arith in
    let all : middle + (c.args.count - few) ≡ end = omega arith in
    let right =
    subst (λ (n : ℕ). IsFound c.args.samples.now (worker_start middle c.args.workers)
    (worker_start n c.args.workers) c.join-left.result.1.0) all c.join-left.ensures.second.0 in
    let both =
    both_found c.args.samples.now (worker_start c.args.first c.args.workers)
    (worker_start middle c.args.workers) (worker_start end c.args.workers) c.join-left.result.0.0
    c.join-left.result.1.0 (start_up c.args.first middle c.args.workers some low)
    (start_up middle end c.args.workers some high) (start_most end c.args.workers some most)
    c.join-left.ensures.first.0 right in
    subst (λ (o : Option Best). IsFound c.args.samples.now (worker_start c.args.first c.args.workers)
    (worker_start end c.args.workers) o) (sym c.better.ensures) both

pub work-best-requires-clause-order : goal.work-best-requires-clause-order
work-best-requires-clause-order g t c =
    let some : 0 < c.args.workers = omega arith in
    let up = start_up c.args.first (c.args.first + 1) c.args.workers some (omega arith) in
    omega (arith, up, c.start-from.ensures.value, c.start-to.ensures.value)
