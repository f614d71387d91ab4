use Rattle.paging_message.proofs.Common.{◌≡◌, ◌+◌, ◌%◌, ◌≤◌, ◌++◌, ◌∷◌, [], false, not, length, take, ap, ◌∙◌, arith, subst, taken_more}
use Rattle.paging_message.proofs.Common.{HasLaid, Laid, bit_on, way_for, laid_on}
use Rattle.paging_message.proofs.Layings.{capsule_first, capsule_next, way_whole}
use Rattle.paging_message.proofs.layout.Layout.put.Goals as goal

-- The first bit of a capsule is laid where way was made for it: in the current half-frame if the
-- capsule follows another one, otherwise at the beginning of a half-frame, whose SCI bit is then 1.
pub loop-i-init : goal.loop-i-init
loop-i-init c =
    let size = c.args.self.now.size in
    let follow = c.args.follow in
    let capsule = c.args.capsule.now in
    let large : 47 ≤ size = c.make_way.ensures.lawful.least in
    let bit = c.get.result in
    let first : take 1 capsule ≡ bit ∷ [] = taken_more capsule 0 bit c.get.ensures in
    record {
      size = c.append.ensures.size ∙ c.make_way.ensures.size;
      longer = omega (arith, c.append.ensures.longer, c.make_way.ensures.longer);
      laid = λ was laid.
          let way = way_for size was follow in
          let same : c.make_way.new.self.size ≡ size = c.make_way.ensures.size in
          let done = c.append.ensures.laid way (c.make_way.ensures.laid was laid)
          (λ told. ap (λ k. length way.body % k) same
          ∙ way_whole size was follow (omega (arith, large)) told) in
          subst (λ (m : Laid). HasLaid c.append.new.self m c.append.new.out)
          (ap (λ k. bit_on k way (not follow) bit) same
          ∙ capsule_first size was follow bit capsule first) done;
    }

-- One bit more of a capsule is laid right after those before it. It begins no capsule, so it asks
-- for no SCI bit of 1, and what is laid is what the definition lays of one bit more.
pub loop-i-preserved : goal.loop-i-preserved
loop-i-preserved c =
    let size = c.args.self.now.size in
    let follow = c.args.follow in
    let capsule = c.args.capsule.now in
    let i = c.loop-i.i in
    let inv = c.loop-i.invariant in
    let bit = c.get-in-loop-i.result in
    let next : take (i + 1) capsule ≡ take i capsule ++ bit ∷ [] = taken_more capsule i bit c.get-in-loop-i.ensures in
    record {
      size = c.append-in-loop-i.ensures.size ∙ inv.size;
      longer = omega (arith, c.append-in-loop-i.ensures.longer, inv.longer);
      laid = λ was laid.
          let before = laid_on size was follow (take i capsule) in
          let done = c.append-in-loop-i.ensures.laid before (inv.laid was laid) (λ told. absurd (cc)) in
          subst (λ (m : Laid). HasLaid c.append-in-loop-i.new.self m c.append-in-loop-i.new.out)
          (ap (λ k. bit_on k before false bit) inv.size
          ∙ capsule_next size was follow bit capsule i next) done;
    }
