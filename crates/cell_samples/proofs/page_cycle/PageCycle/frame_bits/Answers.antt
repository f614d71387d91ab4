use Rattle.cell_samples.proofs.Common.{◌≡◌, ℕ, ◌%◌, Bool, false, ◌∷◌, [], ◌++◌, length, get_or, refl, sym, ap, ◌∙◌, arith, length-append}
use Rattle.cell_samples.proofs.Common.{Cycle, bit_more, bit_of_frame, frame_bits-is, frame_is, no_bits}
use Rattle.cell_samples.proofs.page_cycle.PageCycle.frame_bits.Goals as goal

pub loop-k-init : goal.loop-k-init
loop-k-init c = record {
  value = c.empty-bits.ensures
      ∙ no_bits c.args.self.now.bits c.frame_bits-size.result c.args.frame;
  count = ap length c.empty-bits.ensures;
}

-- One bit more of the frame is appended: it is the one at the frame's place in the cycle, counted
-- on from the frame's first bit, and the cycle begins again after its last one.
pub loop-k-preserved : goal.loop-k-preserved
loop-k-preserved c =
    let i = c.loop-k.invariant in
    let size = c.frame_bits-size.result in
    let cycle = c.args.self.now.bits in
    let bit = c.bit.result in
    let e : c.append.new.self ≡ c.loop-k.bits ++ bit_of_frame cycle size c.args.frame c.loop-k.k
    ∷ [] =
    c.append.ensures
    ∙ ap (λ (b : Bool). c.loop-k.bits ++ b ∷ [])
    (c.bit.ensures
    ∙ ap (λ (n : ℕ). get_or cycle (n % length cycle) false) (rw (c.from.ensures, c.from-in-loop-k.ensures) refl)) in
    record {
      value = e ∙ bit_more cycle c.loop-k.bits size c.args.frame c.loop-k.k i.value;
      count = omega (
        arith,
        ap length e,
        length-append c.loop-k.bits (bit_of_frame cycle size c.args.frame c.loop-k.k ∷ []),
        i.count,
      );
    }

-- After as many bits as the channel's rate has in a frame, the bits taken from the cycle are the
-- frame's of the definition.
pub returns-clause-value : goal.returns-clause-value
returns-clause-value c =
    let size = c.frame_bits-size in
    frame_is c.args.self.now c.loop-k.bits size.result c.args.frame c.loop-k.k
    (frame_bits-is c.args.self.now.rate size.result (rw (sym (ap (λ (v : Cycle). v.rate) c.self.view_is)) size.ensures))
    (omega (arith, c.loop-k-test.false)) c.loop-k.invariant.value
