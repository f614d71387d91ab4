use Rattle.run_replies.proofs.Common.{common_steps, ints, arith, length, rules, ◌≡◌, ◌≤◌, IsNone, None, ap, refl, err_from_is_err_and}
use Rattle.run_replies.proofs.Common.{Reading}
use Rattle.run_replies.proofs.CutFiles.{no_long_cut, opening_few, span_few, unopened}
use Rattle.run_replies.proofs.Faults.{fault_of_opening, fault_of_count, fault_of_span}
use Rattle.run_replies.proofs.Files.{no_file, unsearchable}
use Rattle.run_replies.proofs.Bounds.{opening_most, span_most}
use Rattle.run_replies.proofs.receiving.open_span.Goals as goal

pub returns-in_err-reader-clause-place : goal.returns-in_err-reader-clause-place
returns-in_err-reader-clause-place g c =
    let p = err_from_is_err_and c.from_residual.result c.from_residual.ensures.1 in
    rw (p.1, p.2)
    (fault_of_opening (g.S.Source.rest c.args.source.now) (length c.args.span.now) _
    c.in_err-reader.ensures.told)

pub returns-then-count-span-clause-place : goal.returns-then-count-span-clause-place
returns-then-count-span-clause-place g c other =
    fault_of_count (g.S.Source.rest c.args.source.now) (length c.args.span.now) _
    c.in_ok-reader.reader c.in_ok-reader.ensures.told (search rules) (search rules)

-- Where the first samples can't be read, the fault names the place at which the file breaks off:
-- its header was read whole and counts as many samples as are searched, so the bytes end among
-- these samples.
pub returns-in_err-read-clause-place : goal.returns-in_err-read-clause-place
returns-in_err-read-clause-place g c =
    let reading = c.in_ok-reader.reader in
    let good : reading.fault ≡ None = ap (λ (r : Reading). r.fault) c.in_ok-reader.ensures.fresh in
    let none : IsNone reading.fault = rw good refl in
    let enough : length c.args.span.now ≤ reading.header.count = search rules in
    let p = err_from_is_err_and c.from_residual-in_err-read.result
    c.from_residual-in_err-read.ensures.1 in
    rw (p.1, p.2)
    (fault_of_span _ (g.S.Source.rest c.args.source.now) _ _ (length c.args.span.now) reading
    c.in_ok-reader.ensures.told c.in_ok-reader.ensures.header
    (ap (λ (r : Reading). r.left) c.in_ok-reader.ensures.fresh) enough (c.in_err-read.ensures.fault none))

-- bytes with a fault are no file
pub returns-in_err-reader-clause-fault : goal.returns-in_err-reader-clause-fault
returns-in_err-reader-clause-fault g c =
    no_file c.from_residual.result (g.S.Source.rest c.args.source.now) (length c.args.span.now)
    (returns-in_err-reader-clause-place g c)

pub returns-then-count-span-clause-fault : goal.returns-then-count-span-clause-fault
returns-then-count-span-clause-fault g c other =
    unsearchable (g.S.Source.rest c.args.source.now) (length c.args.span.now) _
    (returns-then-count-span-clause-place g c other)

pub returns-in_err-read-clause-fault : goal.returns-in_err-read-clause-fault
returns-in_err-read-clause-fault g c =
    no_file c.from_residual-in_err-read.result (g.S.Source.rest c.args.source.now)
    (length c.args.span.now) (returns-in_err-read-clause-place g c)

-- fewer samples than those of the span were taken
pub returns-in_err-reader-clause-few : goal.returns-in_err-reader-clause-few
returns-in_err-reader-clause-few g c =
    let p = err_from_is_err_and c.from_residual.result c.from_residual.ensures.1 in
    rw p.1 (opening_few (length c.args.span.now) _ _ c.open.ensures.taken)

pub returns-then-count-span-clause-few : goal.returns-then-count-span-clause-few
returns-then-count-span-clause-few g c = opening_few (length c.args.span.now) _ _ c.open.ensures.taken

-- Where the first samples can't be read, fewer bytes were taken than those of the header and the
-- samples that are searched: after the header's 16 the read took fewer than it was to take.
pub returns-in_err-read-clause-few : goal.returns-in_err-read-clause-few
returns-in_err-read-clause-few g c =
    let reading = c.in_ok-reader.reader in
    let good : reading.fault ≡ None = ap (λ (r : Reading). r.fault) c.in_ok-reader.ensures.fresh in
    let none : IsNone reading.fault = rw good refl in
    let p = err_from_is_err_and c.from_residual-in_err-read.result
    c.from_residual-in_err-read.ensures.1 in
    rw p.1
    (span_few (length c.args.span.now) _ _ _ reading c.in_ok-reader.ensures.told
    c.in_ok-reader.ensures.header (c.in_err-read.ensures.fewer none))

-- and a header that is read doesn't end a file too late
pub returns-in_err-reader-clause-no_longer : goal.returns-in_err-reader-clause-no_longer
returns-in_err-reader-clause-no_longer g c =
    let p = err_from_is_err_and c.from_residual.result c.from_residual.ensures.1 in
    rw (p.1, p.2) (unopened _ (g.S.Source.rest c.args.source.now) c.in_err-reader.ensures.told)

-- Where the first samples can't be read, the file isn't reported as too long: the header was read
-- without a fault, and a read that fails after it reports a file that is cut short, or that reading
-- failed.
pub returns-in_err-read-clause-no_longer : goal.returns-in_err-read-clause-no_longer
returns-in_err-read-clause-no_longer g c =
    let reading = c.in_ok-reader.reader in
    let good : reading.fault ≡ None = ap (λ (r : Reading). r.fault) c.in_ok-reader.ensures.fresh in
    let none : IsNone reading.fault = rw good refl in
    let p = err_from_is_err_and c.from_residual-in_err-read.result
    c.from_residual-in_err-read.ensures.1 in
    rw (p.1, p.2) (λ long. absurd (no_long_cut _ _ _ _ _ (c.in_err-read.ensures.fault none) long))

-- no more bytes were taken than the header has, or than it counts
pub returns-in_err-reader-clause-bound : goal.returns-in_err-reader-clause-bound
returns-in_err-reader-clause-bound g c =
    let p = err_from_is_err_and c.from_residual.result c.from_residual.ensures.1 in
    rw p.1 (opening_most (g.S.Source.rest c.args.source.now) _ c.open.ensures.taken)

pub returns-then-count-span-clause-bound : goal.returns-then-count-span-clause-bound
returns-then-count-span-clause-bound g c = opening_most (g.S.Source.rest c.args.source.now) _ c.open.ensures.taken

pub returns-in_err-read-clause-bound : goal.returns-in_err-read-clause-bound
returns-in_err-read-clause-bound g c =
    let reading = c.in_ok-reader.reader in
    let p = err_from_is_err_and c.from_residual-in_err-read.result
    c.from_residual-in_err-read.ensures.1 in
    rw p.1
    (span_most (length c.args.span.now) (g.S.Source.rest c.args.source.now) _ _ reading
    c.in_ok-reader.ensures.told c.in_ok-reader.ensures.header
    (ap (λ (r : Reading). r.left) c.in_ok-reader.ensures.fresh) c.read.ensures.taken)

pub returns-clause-taken : goal.returns-clause-taken
returns-clause-taken g c = grind (ints, arith, common_steps)
