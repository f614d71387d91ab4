use Rattle.cdma_io.proofs.Common.{◌≡◌, ◌+◌, ◌*◌, ◌<◌, length, refl, arith, rules, common_steps, elements, ints, sample_len}
use Rattle.cdma_io.proofs.Reading.{fewer_at_most, fewer_taken, piece_cut_short, short_is_no_failure}
use Rattle.cdma_io.proofs.samples.read_piece.Goals as goal

pub returns : goal.returns
returns g c = grind (ints, arith, common_steps)

pub returns-in_err-count : goal.returns-in_err-count
returns-in_err-count g c = grind (ints, arith, elements)

-- Where the source ends before the piece fewer bytes than its samples have were consumed, and the
-- fault's place is after them.
pub returns-then-count-wanted : goal.returns-then-count-wanted
returns-then-count-wanted g c =
    let few : c.in_ok-count.count < sample_len c.args.width * length c.args.out.now =
    omega (arith, c.if-count-wanted.true, c.bytes_for-wanted.ensures.value) in
    let room : length c.fill.new.buf ≡ c.bytes_for-wanted.result = search rules in
    let ended = c.in_ok-count.ensures.ends (omega (arith, c.if-count-wanted.true, room)) in
    let fewer = fewer_taken _ _ c.fill.new.buf c.in_ok-count.count _ c.in_ok-count.ensures.bound few
    c.in_ok-count.ensures.bytes in
    record {
      spelled = tt;
      in_range = tt;
      fault = piece_cut_short _ _ c.fill.new.buf c.in_ok-count.count _ c.args.place
          c.in_ok-count.ensures.bound few c.in_ok-count.ensures.bytes ended;
      taken = fewer_at_most _ _ _ fewer;
      fewer = fewer;
      later = c.in_ok-count.ensures.cause.later;
      cause = λ same. absurd (short_is_no_failure (c.args.place + c.in_ok-count.count) _ refl same);
    }

pub parse_samples-requires-clause-bytes : goal.parse_samples-requires-clause-bytes
parse_samples-requires-clause-bytes g c = grind (ints, arith, common_steps)
