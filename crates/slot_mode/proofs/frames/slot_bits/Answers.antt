use Rattle.std.proofs.Common.{◌≡◌, ℕ, ◌+◌, ◌*◌, Bool, List, ◌++◌, rules, refl, sym, ap, ◌∙◌, arith, length, length-append}
use Rattle.std.specs.List.{flat_map}
use Rattle.chip_core.specs.Bits.{places}
use Rattle.chip_core.proofs.Ranges.{flat_map-places-more}
use Rattle.frame_decoder.specs.Spans.{paging_channel}
use Rattle.chip_core.proofs.Counted.{flat_map-zero}
use Rattle.slot_mode.specs.Frames.{slot_frame_bits, slot_bits}
use Rattle.slot_mode.proofs.frames.slot_bits.Goals as goal

pub loop-frame-init : goal.loop-frame-init
loop-frame-init c =
    let size = (paging_channel c.args.rate).bits in
    let none : 0 ≡ size * 0 = omega arith in
    record {
      value = c.empty-bits.ensures ∙ sym (flat_map-zero (slot_frame_bits c.args.rate c.args.softs.now));
      long = ap length c.empty-bits.ensures ∙ none;
      kept = refl;
    }

-- One frame more of a slot has its bits: they are those that the definition decodes for the frame,
-- and they come after those of the frames before it.
pub loop-frame-preserved : goal.loop-frame-preserved
loop-frame-preserved c =
    let f = slot_frame_bits c.args.rate c.args.softs.now in
    let size = (paging_channel c.args.rate).bits in
    let frame = c.loop-frame.frame in
    let one = c.frame_bits.result in
    let had = c.loop-frame.invariant in
    let had_long = had.long in
    let more : size * (frame + 1) ≡ size * frame + size = omega arith in
    let count = c.frame_bits.ensures.count in
    record {
      value = c.append_all.ensures
          ∙ ap (λ (xs : List Bool). xs ++ one) had.value
          ∙ ap (λ (xs : List Bool). flat_map f (places frame) ++ xs) c.frame_bits.ensures.value
          ∙ sym (flat_map-places-more f frame);
      long = ap length c.append_all.ensures
          ∙ length-append c.loop-frame.bits one
          ∙ omega (arith, had_long, more, count);
      kept = c.frame_bits.ensures.kept ∙ had.kept;
    }

pub returns-clause-value : goal.returns-clause-value
unfolding slot_bits
returns-clause-value c =
    let four : c.loop-frame.frame ≡ 4 = search rules in
    c.loop-frame.invariant.value
    ∙ ap (λ (n : ℕ). flat_map (slot_frame_bits c.args.rate c.args.softs.now) (places n)) four
