use Rattle.paging_message.proofs.Common.{◌≡◌, ◌++◌, false, cond, length, replicate, ap, ◌∙◌, arith, subst, List, Bool, HasLaid, Laid, fill}
use Rattle.paging_message.proofs.Layings.{left_is, zero_more, way_is, left_most}
use Rattle.paging_message.proofs.layout.Layout.make_way.Goals as goal

pub append-requires : goal.append-requires
append-requires c =
    record {
      room = omega (
        arith,
        c.loop-zero.invariant.longer,
        c.requires,
        c.loop-zero-test.true,
        left_most c.args.self.now c.args.follow c.padding-zero-end.result
            c.padding-zero-end.ensures.lawful.most c.padding-zero-end.ensures.value,
      );
    }

-- One zero more is laid after the bits and the zeros before it: it isn't a capsule's first bit, so
-- the places at which capsules start stay as they were.
pub loop-zero-preserved : goal.loop-zero-preserved
loop-zero-preserved c =
    let inv = c.loop-zero.invariant in
    let k = c.loop-zero._zero in
    record {
      size = c.append.ensures.size ∙ inv.size;
      longer = omega (arith, c.append.ensures.longer, inv.longer);
      laid = λ was laid.
          let before : Laid = record {
            body = was.body ++ replicate k false;
            starts =
                was.starts;
          } in
          let after = c.append.ensures.laid before (inv.laid was laid) (λ told. absurd (cc)) in
          subst (λ (body : List Bool). HasLaid c.append.new.self
          (record { body = body; starts = was.starts }) c.append.new.out)
          (zero_more was.body k) after;
    }

pub returns-clause-longer : goal.returns-clause-longer
returns-clause-longer c =
    omega (
      arith,
      c.loop-zero.invariant.longer,
      c.loop-zero-test.false,
      left_most c.args.self.now c.args.follow c.padding-zero-end.result
          c.padding-zero-end.ensures.lawful.most c.padding-zero-end.ensures.value,
    )

-- What is laid is the way that the definition makes: no zeros for a capsule that follows, otherwise
-- as many as complete the current half-frame, by its place.
pub returns-clause-laid : goal.returns-clause-laid
returns-clause-laid c l laid =
    let size = c.args.self.now.size in
    let lawful = c.padding-zero-end.ensures.lawful in
    let count : c.loop-zero._zero ≡ cond c.args.follow 0 (fill size (length l.body)) =
    omega (arith, c.loop-zero-test.false) ∙ c.padding-zero-end.ensures.value
    ∙ ap (cond c.args.follow 0)
    (left_is c.args.self.now l c.args.out.now (omega (arith, lawful.least)) lawful.within laid) in
    subst (λ (m : Laid). HasLaid c.loop-zero.self m c.loop-zero.out)
    (way_is size l c.args.follow c.loop-zero._zero count) (c.loop-zero.invariant.laid l laid)
