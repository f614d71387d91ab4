use Rattle.cdma_replay.proofs.Common.{ℕ, length, inr, refl, subst, rules, arith, Header, HasRoom, IsFreshListener, Status, TakesSpan}
use Rattle.cdma_replay.proofs.Common.{ended_by, file_status, listening, none_most, rest_most, unread_file}
use Rattle.run_replies.proofs.Ends.{begins_file, received_from, starved_file}
use Rattle.cdma_replay.proofs.receiving.receive_file.Goals as goal

-- the file doesn't open, or its first samples aren't there
pub returns-in_err-reader : goal.returns-in_err-reader
returns-in_err-reader g c =
    let e = c.in_err-reader.field-0.0 in
    let told = c.in_err-reader.ensures in
    rw (ended_by c.from_residual.result (file_status e) c.from_residual.ensures.1)
    (unread_file e (length c.args.span.now) c.requires.span.0 refl told.place
    (λ is. c.open_span.ensures.cause (search rules)) told.header_alone told.bound told.few
    told.no_longer c.open_span.ensures.later)

-- there is no memory for the search, or for the listener
pub returns-in_err-listener : goal.returns-in_err-listener
returns-in_err-listener g c =
    rw (ended_by c.from_residual-in_err-listener.result Status.NoMemory c.from_residual-in_err-listener.ensures.1)
    (starved_file refl (inr (begins_file _ _ c.requires.span.0 c.in_ok-reader.ensures.taken))
    (rest_most c.in_ok-reader.ensures.taken (none_most _ _)) c.open_span.ensures.later)

-- a listener takes all samples, those of the span first
pub returns : goal.returns
returns g c =
    let kept = g.T.KeepsTaps.kept c.args.taps in
    let reader = c.in_ok-reader.reader in
    let span = c.open_span.new.span in
    received_from
    (c.hear_file.ensures c.args.job (g.S.Source.rest c.args.source.now) (g.S.Source.faults c.args.source.now)
    (subst (λ (n : ℕ). TakesSpan n reader.header span reader.left (g.S.Source.rest c.args.source.now)
    (g.S.Source.rest c.open_span.new.source)) c.requires.span.0 c.in_ok-reader.ensures.taken)
    (subst (λ (h : Header). IsFreshListener (listening kept c.args.job h span) c.in_ok-listener.listener kept)
    c.header.ensures.value (c.in_ok-listener.ensures.fresh kept))
    c.open_span.ensures.later)

-- what is called is given what it requires

pub hear_file-requires-clause-piece : goal.hear_file-requires-clause-piece
hear_file-requires-clause-piece g c = c.requires.piece

pub hear_file-requires-clause-good : goal.hear_file-requires-clause-good
hear_file-requires-clause-good g c = c.in_ok-reader.ensures.good

pub hear_file-requires-clause-counted : goal.hear_file-requires-clause-counted
hear_file-requires-clause-counted g c =
    omega (arith, c.in_ok-reader.ensures.taken.left, c.in_ok-reader.ensures.taken.counted)

pub hear_file-requires-clause-room : goal.hear_file-requires-clause-room
hear_file-requires-clause-room g c =
    subst (λ (h : Header). HasRoom c.in_ok-listener.listener h.count) c.header.ensures.value
    c.in_ok-listener.ensures.room

pub hear_file-requires-clause-tellable : goal.hear_file-requires-clause-tellable
hear_file-requires-clause-tellable g c = c.in_ok-listener.ensures.tellable

pub hear_file-requires-clause-kept : goal.hear_file-requires-clause-kept
hear_file-requires-clause-kept g c = c.requires.kept
