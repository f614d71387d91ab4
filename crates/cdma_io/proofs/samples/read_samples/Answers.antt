use Rattle.cdma_io.proofs.Common.{◌≡◌, ◌+◌, ◌-◌, ◌*◌, ◌≤◌, ℕ, length, take, drop, sym, ap, ◌∙◌, rules, sample_len, length-take-le, take_all}
use Rattle.cdma_io.proofs.Common.{overwrites, err_from_is_err_and}
use Rattle.cdma_io.proofs.Reading.{cuts_short_whole, pieces_in_range, pieces_more, samples_taken, samples_taken_fewer, fewer_at_most}
use Rattle.cdma_io.proofs.samples.read_samples.Goals as goal

-- A fault in one piece is one of the whole reading: the piece begins right after the samples that
-- were taken, and these and the piece's own are no more than were asked for, so its place and the
-- bytes that were consumed are those of the whole. Fewer bytes were consumed than all samples have,
-- since of the piece, which fits into what is left of the output, not all came.
pub returns-in_err-read_piece : goal.returns-in_err-read_piece
returns-in_err-read_piece g c =
    let inv = c.loop-done.invariant in
    let done = c.loop-done.done in
    let out = c.loop-done.out in
    let count = c.min-count.result in
    let long : length (take done out) ≡ done = length-take-le done out inv.done in
    let piece : length (take (done + count - done) (drop done out)) ≡ count = search rules in
    let few : length (take done out) + length (take (done + count - done) (drop done out)) ≤
    length c.args.out.now = search rules in
    let here : c.args.place + c.bytes_for.result ≡
    c.args.place + sample_len c.args.width * length (take done out) =
    ap (λ (n : ℕ). c.args.place + n) (c.bytes_for.ensures.value ∙
    ap (λ (n : ℕ). sample_len c.args.width * n) (sym long)) in
    let p = err_from_is_err_and c.from_residual.result c.from_residual.ensures.1 in
    let fewer = samples_taken_fewer c.args.width _ _ _ (take done out)
    (length (take (done + count - done) (drop done out))) _ few inv.taken
    c.in_err-read_piece.ensures.fewer in
    record {
      spelled = rw p.1 tt;
      in_range = rw p.1 tt;
      fault = rw (p.1, p.2)
          (cuts_short_whole c.args.width _ _ _ _ (take done out)
          (length (take (done + count - done) (drop done out))) _ _ _ few here inv.taken
          c.in_err-read_piece.ensures.fault);
      taken = fewer_at_most _ _ _ fewer;
      fewer = rw p.1 fewer;
      later = search rules;
      cause = search rules;
    }

pub loop-done-preserved : goal.loop-done-preserved
loop-done-preserved g c =
    let inv = c.loop-done.invariant in
    let done = c.loop-done.done in
    let count = c.min-count.result in
    let long : length c.read_piece.new.out ≡ count = search rules in
    record {
      done = search (rules, overwrites, inv.done);
      taken = pieces_more c.args.width _ _ _ c.loop-done.out c.read_piece.new.out done _ count
          inv.done long inv.taken c.in_ok-read_piece.ensures.spelled;
      in_range =
          pieces_in_range c.args.width c.loop-done.out c.read_piece.new.out done _ count inv.done
          long inv.in_range c.in_ok-read_piece.ensures.in_range;
      later = search rules;
    }

-- After the loop as many samples were read as the output holds, so what its invariant says of those
-- read so far, that they are in range and spelled by what was consumed, is so of the whole output.
pub returns : goal.returns
returns g c =
    let inv = c.loop-done.invariant in
    let done = c.loop-done.done in
    let out = c.loop-done.out in
    let long : length (take done out) ≡ done = length-take-le done out inv.done in
    let over : length out ≤ done = search rules in
    let whole : take done out ≡ out = take_all done out over in
    record {
      spelled = rw whole at inv.taken;
      in_range = rw whole at inv.in_range;
      fault = search rules;
      taken = samples_taken c.args.width _ _ (take done out) _ (search rules) inv.taken;
      fewer = search rules;
      later = search rules;
      cause = search rules;
    }
