use Rattle.trial_link.proofs.Common.{◌≡◌, ◌∷◌, ◌++◌, [], List, TrafficFrame, sym, ap, ◌∙◌, arith, past_frame, frame_drawn, frames_drawn}
use Rattle.trial_link.proofs.TrialDraws.{frames_drawn_more, frames_more, no_frames, no_frames_drawn}
use Rattle.trial_link.proofs.trial.drawn_frames.Goals as goal

pub loop-frame-init : goal.loop-frame-init
loop-frame-init c = record {
  value = c.new-frames.ensures ∙ sym (no_frames_drawn c.args.draws.now.state);
  state = sym (no_frames c.args.draws.now.state);
}

pub loop-frame-preserved : goal.loop-frame-preserved
loop-frame-preserved c =
    let inv = c.loop-frame.invariant in
    let s = c.args.draws.now.state in
    let k = c.loop-frame._frame in
    record {
      value = c.in_ok-push.ensures.ok
          ∙ ap (λ (fs : List TrafficFrame). fs ++ c.frame.result ∷ []) inv.value
          ∙ ap (λ (f : TrafficFrame). frames_drawn s k ++ f ∷ []) (c.frame.ensures.value ∙ ap frame_drawn inv.state)
          ∙ sym (frames_drawn_more s k);
      state = c.frame.ensures.state ∙ ap past_frame inv.state ∙ sym (frames_more s k);
    }

pub returns : goal.returns
returns c =
    let s = c.args.draws.now.state in
    let all : c.loop-frame._frame ≡ 100 = omega (arith, c.loop-frame-test.false, c.loop-frame.auto._frame-end) in
    c.loop-frame.invariant.value ∙ ap (frames_drawn s) all
