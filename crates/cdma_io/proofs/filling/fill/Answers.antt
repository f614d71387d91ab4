use Rattle.cdma_io.proofs.Common.{elements, ints, ◌≡◌, ℕ, ◌-◌, ◌<◌, List, Option, subst, rules, arith, length, take, Consumes, Keeps}
use Rattle.cdma_io.proofs.Common.{Consumes-kept, Consumes-trans, length-take-le, overwrites, err_from_is_err_and, ConsumesFewer}
use Rattle.cdma_io.proofs.Moves.{filled_more, taken_to_end}
use Rattle.cdma_io.proofs.Reading.{fewer_at_most}
use Rattle.cdma_io.proofs.filling.fill.Goals as goal

pub loop-filled-preserved : goal.loop-filled-preserved
loop-filled-preserved g c =
    let inv = c.loop-filled.invariant in
    let at = c.loop-filled.filled in
    let buf = c.loop-filled.buf in
    record {
      filled = search (rules, overwrites, inv.filled);
      taken = subst (Consumes _ _)
          (filled_more buf c.take.new.buf at (length buf - at) c.in_ok-count.count inv.filled
          c.in_ok-count.ensures.bound.0)
          (Consumes-trans _ _ _ _ _ inv.taken c.in_ok-count.ensures.bytes.0);
      later = search (rules, c.in_ok-count.ensures.cause.later);
    }

pub returns-then-count-eq0-clause-taken : goal.returns-then-count-eq0-clause-taken
returns-then-count-eq0-clause-taken g c =
    let long : length c.loop-filled.buf ≡ length c.args.buf.now = search rules in
    taken_to_end _ (g.S.Source.rest c.loop-filled.source) _ c.loop-filled.buf c.take.new.buf
    c.loop-filled.filled c.in_ok-count.count (length c.args.buf.now)
    c.loop-filled.invariant.filled long c.if-count-eq0.true c.loop-filled.invariant.taken
    c.in_ok-count.ensures.bytes.0

-- what was taken before a take failed, where the buffer had room left
taken_to_failure : (old mid new : Option (List ℕ)) (buf : List ℕ) (at most : ℕ) →
    at < length buf → length buf ≡ most → Consumes old mid (take at buf) → Keeps mid new → ConsumesFewer most old new
taken_to_failure old mid new buf at most within room before kept = record {
  bytes = take at buf;
  fits = omega (arith, length-take-le at buf (omega (arith, within)), within, room);
  consumed = Consumes-kept old mid new (take at buf) before kept;
}

pub returns-in_err-count-clause-taken : goal.returns-in_err-count-clause-taken
returns-in_err-count-clause-taken g c =
    let long : length c.loop-filled.buf ≡ length c.args.buf.now = search rules in
    fewer_at_most _ _ _
    (taken_to_failure _ (g.S.Source.rest c.loop-filled.source) _ c.loop-filled.buf
    c.loop-filled.filled (length c.args.buf.now) (omega arith) long c.loop-filled.invariant.taken
    c.in_err-count.ensures.bytes)

pub returns-in_err-count-clause-fewer : goal.returns-in_err-count-clause-fewer
returns-in_err-count-clause-fewer g c =
    let long : length c.loop-filled.buf ≡ length c.args.buf.now = search rules in
    let p = err_from_is_err_and c.from_residual.result c.from_residual.ensures.1 in
    rw p.1
    (taken_to_failure _ (g.S.Source.rest c.loop-filled.source) _ c.loop-filled.buf
    c.loop-filled.filled (length c.args.buf.now) (omega arith) long c.loop-filled.invariant.taken
    c.in_err-count.ensures.bytes)

pub returns-then-count-eq0-clause-bytes : goal.returns-then-count-eq0-clause-bytes
returns-then-count-eq0-clause-bytes g c = grind (ints, arith, elements)
