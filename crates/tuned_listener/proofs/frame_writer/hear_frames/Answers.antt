use Rattle.tuned_listener.proofs.Common.{ints, common_steps, ◌++◌, [], List, arith, rules, subst, take, take_rest}
use Rattle.tuned_listener.proofs.Common.{err_from_is_err_and, Sample, soft_frames, IsTunedTo, Tuning, CodeChannel, HoldsFrames}
use Rattle.tuned_listener.proofs.Common.{tuned_text_of, slot_after, TunedText, WritesFrames, Mark, Tuner, ℕ}
use Rattle.tuned_listener.proofs.Common.{FrameWriter, Option, Appends-nil, append-nil, refl, sym, text_from}
use Rattle.tuned_listener.proofs.TunedFrames.{writes_all, writes_more, writes_part}
use Rattle.tuned_listener.proofs.frame_writer.hear_frames.Goals as goal

-- before the first sample no text is written
writes_none : (t : Tuning) (channel : CodeChannel) (m : Mark) (form : TunedText) (tuner : Tuner)
    (writer : FrameWriter) (heard samples : List Sample) (sink : Option (List ℕ)) → IsTunedTo t channel m tuner heard →
    HoldsFrames writer t.check30 (slot_after [] (soft_frames t channel m heard)) →
    WritesFrames t channel m form tuner writer heard (heard ++ take 0 samples) sink sink
writes_none t channel m form tuner writer heard samples sink tuned holds =
    subst (λ (xs : List Sample). WritesFrames t channel m form tuner writer heard xs sink sink)
    (sym (append-nil heard)) (record {
      text = [];
      written = Appends-nil sink;
      all = append-nil (text_from form t channel m heard);
      tuned = tuned;
      holds = holds;
    })

pub loop-taken-init : goal.loop-taken-init
loop-taken-init g c = record {
  most = omega arith;
  room = omega arith;
  ready = c.requires.ready;
  text = refl;
  writes = λ (t : Tuning) (channel : CodeChannel) (heard : List Sample).
      writes_none t channel _ _ _ _ heard c.args.samples.now _;
  later = omega arith;
}

-- A step keeps what the loop promises: the text of its frame, if it gave one, is written after the
-- text so far, and the writer keeps the frame as one of its slot.
pub loop-taken-preserved : goal.loop-taken-preserved
loop-taken-preserved g c =
    let inv = c.loop-taken.invariant in
    let samples = c.args.samples.now in
    record {
      most = search rules;
      room = search rules;
      ready = search rules;
      text = search rules;
      writes = λ t channel heard tuned holds.
          let so_far = inv.writes t channel heard tuned holds in
          writes_more t channel c.args.mark.now _ c.loop-taken.tuner c.step-step.new.self c.loop-taken.writer
          heard samples _ c.loop-taken.taken c.step-step.result _ _ _ (take_rest samples c.loop-taken.taken)
          c.step-step.ensures so_far inv.text c.write_shown.new.self
          (c.in_ok-write_shown.ensures.ok t.check30 _ so_far.holds) (c.write_shown.ensures.holds t.check30 _ so_far.holds);
      later = search rules;
    }

-- Where writing fails, what is written is a beginning of the text of all samples: the text of the
-- earlier frames is written whole, and of this frame's text a beginning.
pub returns-in_err-write_shown-clause-err : goal.returns-in_err-write_shown-clause-err
returns-in_err-write_shown-clause-err g c =
    let samples = c.args.samples.now in
    let p = err_from_is_err_and c.from_residual.result c.from_residual.ensures.1 in
    rw p.1 (λ t channel heard tuned holds.
    let so_far = c.loop-taken.invariant.writes t channel heard tuned holds in
    writes_part t channel c.args.mark.now _ c.loop-taken.tuner c.step-step.new.self c.loop-taken.writer
    heard samples _ c.loop-taken.taken c.step-step.result _ _ _ (take_rest samples c.loop-taken.taken)
    c.step-step.ensures so_far c.loop-taken.invariant.text
    (c.in_err-write_shown.ensures.err t.check30 _ so_far.holds))

pub returns-clause-ok : goal.returns-clause-ok
returns-clause-ok g c t channel heard tuned holds =
    writes_all t channel c.args.mark.now (tuned_text_of c.args.writer.now) c.loop-taken.tuner
    c.loop-taken.writer heard c.args.samples.now c.loop-taken.taken _ _
    (omega (arith, c.loop-taken-test.false)) (c.loop-taken.invariant.writes t channel heard tuned holds)

pub loop-taken-smaller : goal.loop-taken-smaller
loop-taken-smaller g c = grind (ints, arith, common_steps)

pub write_shown-requires-clause-small : goal.write_shown-requires-clause-small
write_shown-requires-clause-small g c = grind (ints, arith, common_steps)
