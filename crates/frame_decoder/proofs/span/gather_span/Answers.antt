use Rattle.frame_decoder.proofs.Common.{rules, ◌≡◌, ◌<◌, ◌≤◌, ◌+◌, ◌*◌, ℕ, length, sym, ap, ◌∙◌, arith, ints, shape_of, size, channel_of}
use Rattle.std.proofs.lemmas.Grind.{common_steps}
use Rattle.frame_decoder.proofs.Parts.{within}
use Rattle.frame_decoder.proofs.Gathered.{none_gathered, none_small, frame_is, frame_small, one_gathered, one_small}
use Rattle.frame_decoder.proofs.span.gather_span.Goals as goal

pub loop-frame-init : goal.loop-frame-init
loop-frame-init c =
    let l = c.args.span_format in
    let softs = c.args.softs.now in
    let out = c.args.out.now in
    record {
      value = none_gathered (channel_of l) softs out;
      sizes = none_small (2 * l.bits) (size (shape_of l.kind)) softs out;
    }

-- The frame's part of the code symbols lies within the list: there is room for all frames of the
-- span, and this is one of them.
pub slice_bounds-gather_into-end-in-loop-frame : goal.slice_bounds-gather_into-end-in-loop-frame
slice_bounds-gather_into-end-in-loop-frame c =
    let code = c.code_symbols-code.result in
    let frame = c.loop-frame.frame in
    let more : frame < c.args.frames = omega (arith, c.loop-frame-test.true, c.from-frame-end.ensures) in
    let in_span = within code c.args.frames frame more in
    let long : length c.loop-frame.out ≡ code * c.args.frames =
    c.loop-frame.auto.out ∙ c.requires.out
    ∙ ap (λ (n : ℕ). n * c.args.frames) (sym c.code_symbols-code.ensures) in
    let room : code * frame + code ≤ length c.loop-frame.out = omega (arith, in_span, long) in
    search rules

-- The sizes of one frame's soft values add up to no more than those of the whole span, which are
-- bounded.
pub gather_into-requires-clause-bounded : goal.gather_into-requires-clause-bounded
gather_into-requires-clause-bounded c =
    let softs = c.args.softs.now in
    let frame = c.loop-frame.frame in
    let symbols = c.symbols-symbols in
    let count = size (shape_of c.args.span_format.kind) in
    let bound = c.requires.bounded in
    let small = frame_small count frame softs in
    rw (frame_is symbols.result count frame softs symbols.ensures.value) (omega (arith, bound, small))

-- The code symbols of one frame more are gathered after those of the frames before it, so the first
-- part of the output is what the definition gathers of that many frames, and its values are bounded
-- as theirs are.
pub loop-frame-preserved : goal.loop-frame-preserved
loop-frame-preserved c =
    let l = c.args.span_format in
    let softs = c.args.softs.now in
    let frame = c.loop-frame.frame in
    let out = c.loop-frame.out in
    let part = c.gather_into.new.out in
    let code = c.code_symbols-code.result in
    let symbols = c.symbols-symbols in
    let had = c.loop-frame.invariant in
    let more : frame < c.args.frames = omega (arith, c.loop-frame-test.true, c.from-frame-end.ensures) in
    let in_span = within code c.args.frames frame more in
    let whole : length out ≡ code * c.args.frames =
    c.loop-frame.auto.out ∙ c.requires.out
    ∙ ap (λ (n : ℕ). n * c.args.frames) (sym c.code_symbols-code.ensures) in
    let room : code * frame ≤ length out = omega (arith, in_span, whole) in
    let long : length part ≡ code = search rules in
    record {
      value = one_gathered (channel_of l) code symbols.result frame softs out part
          c.code_symbols-code.ensures symbols.ensures.value long room had.value
          c.gather_into.ensures.value;
      sizes = one_small l.bits (size (shape_of l.kind)) code symbols.result frame softs out part
          c.code_symbols-code.ensures symbols.ensures.value long room had.sizes
          c.gather_into.ensures.bounded;
    }

pub slice_bounds-gather_into-end : goal.slice_bounds-gather_into-end
slice_bounds-gather_into-end c = grind (ints, arith, common_steps)

pub returns-clause-value : goal.returns-clause-value
returns-clause-value c = grind (ints, arith, common_steps)

pub returns-clause-bounded : goal.returns-clause-bounded
returns-clause-bounded c = grind (ints, arith, common_steps)
