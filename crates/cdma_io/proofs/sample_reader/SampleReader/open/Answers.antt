use Rattle.cdma_io.proofs.Common.{arith, common_steps, ints, ◌≡◌, ◌≤◌, length, sym, Err, Ok, rules, err_from_is_err_and, fresh_reading}
use Rattle.cdma_io.proofs.Opening.{filled_whole, told_header, told_short}
use Rattle.cdma_io.proofs.sample_reader.SampleReader.open.Goals as goal

pub returns-then-count-lt-HEADER_LEN-clause-told : goal.returns-then-count-lt-HEADER_LEN-clause-told
returns-then-count-lt-HEADER_LEN-clause-told g c =
    let long : length c.fill.new.buf ≡ 16 = search rules in
    told_short _ _ c.fill.new.buf c.in_ok-count.count c.in_ok-count.ensures.bound
    c.if-count-lt-HEADER_LEN.true c.in_ok-count.ensures.bytes (c.in_ok-count.ensures.ends (search rules))

-- Where the header has a fault, that fault is the answer: all 16 bytes came, so the buffer is the
-- front of what the source had, and what `opening` says of it is what was read.
pub returns-in_err-header-clause-told : goal.returns-in_err-header-clause-told
returns-in_err-header-clause-told g c =
    let long : length c.fill.new.buf ≡ 16 = search rules in
    let full : length c.fill.new.buf ≤ c.in_ok-count.count = search rules in
    let p = err_from_is_err_and c.from_residual-in_err-header.result
    c.from_residual-in_err-header.ensures.1 in
    rw (p.1, p.2)
    (told_header _ _ c.fill.new.buf (Err c.in_err-header.field-0.0) long
    (filled_whole _ _ c.fill.new.buf c.in_ok-count.count full c.in_ok-count.ensures.bytes)
    (λ other. sym c.in_err-header.ensures.value))

pub returns-clause-told : goal.returns-clause-told
returns-clause-told g c =
    let long : length c.fill.new.buf ≡ 16 = search rules in
    let full : length c.fill.new.buf ≤ c.in_ok-count.count = search rules in
    told_header _ _ c.fill.new.buf (Ok (fresh_reading c.in_ok-header.header)) long
    (filled_whole _ _ c.fill.new.buf c.in_ok-count.count full c.in_ok-count.ensures.bytes)
    (sym c.in_ok-header.ensures.value)

pub returns-clause-header : goal.returns-clause-header
returns-clause-header g c = grind (ints, arith, common_steps)
