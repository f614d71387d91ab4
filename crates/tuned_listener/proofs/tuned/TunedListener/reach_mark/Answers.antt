use Rattle.tuned_listener.proofs.Common.{false≢true, ◌≡◌, ◌++◌, ◌∙◌, List, None, refl, rules, sym, take, Sample}
use Rattle.tuned_listener.proofs.TunedListeners.{ahead_sound, listens_after, listens_ahead, silent_ahead, silent_at_mark, waits}
use Rattle.tuned_listener.proofs.tuned.TunedListener.reach_mark.Goals as goal

pub step_to_mark-taken-requires-clause-untold : goal.step_to_mark-taken-requires-clause-untold
step_to_mark-taken-requires-clause-untold c = (c.args.self.now.sound.hears.ahead _ _ _ _ c.in-Ahead.is).0

pub replace_with-requires : goal.replace_with-requires
replace_with-requires c =
    let reached = c.step_to_mark-taken in (
      reached.ensures.sound c.in-Some.mark c.in-Some.is,
      (reached.ensures.early c.in-Some.mark c.in-Some.is, (c.args.self.now.sound.hears.ahead _ _ _ _ c.in-Ahead.is).1),
    )

-- A handset that tells no mark stays untold.
pub invariant_of-self-in_default-mark : goal.invariant_of-self-in_default-mark
invariant_of-self-in_default-mark c =
    let reached = c.step_to_mark-taken in
    let none : reached.result.mark ≡ None = search rules in
    record {
      sound = record {
        hears = ahead_sound reached.new.mobile _ _ _ (reached.ensures.untold none)
            (c.args.self.now.sound.hears.ahead _ _ _ _ c.in-Ahead.is).1;
        ready = c.args.self.now.sound.ready;
      };
    }

-- Where the handset takes all samples and tells no mark, nothing is to be written: no mark is set
-- in the samples before nor with these, and without a mark the channel's text is empty.
pub returns-in_default-mark-clause-silent : goal.returns-in_default-mark-clause-silent
returns-in_default-mark-clause-silent c = λ t channel form heard is.
    let reached = c.step_to_mark-taken in
    let none : reached.result.mark ≡ None = search rules in
    let ahead = (waits t channel heard _ is.listens _ _ _ _ c.in-Ahead.is).ahead in
    silent_ahead t channel form heard c.args.samples.now reached.result.taken
    (reached.ensures.all none) ahead.unmarked (reached.ensures.none none t heard ahead).unmarked

-- Where the handset takes all samples and tells no mark, the listener goes on as before: the
-- handset stands for these samples too and is still ahead of its mark.
pub returns-in_default-mark-clause-listens : goal.returns-in_default-mark-clause-listens
returns-in_default-mark-clause-listens c = λ t channel form heard is.
    let reached = c.step_to_mark-taken in
    let none : reached.result.mark ≡ None = search rules in
    let before = waits t channel heard _ is.listens _ _ _ _ c.in-Ahead.is in
    listens_ahead t channel form c.args.self.now heard is _ reached.new.mobile _ _ _
    c.args.samples.now reached.result.taken (reached.ensures.all none) refl refl
    before.ahead.unmarked (record { opens = before.opens; ahead = reached.ensures.none none t heard before.ahead })

-- Once the handset tells a mark, a receiver that is opened from its ring takes its place: the ring
-- holds the samples that were heard, and the receiver has given no frame of them, so there is still
-- no text, and what follows is that of the channel after this mark.
pub returns-in-Some : goal.returns-in-Some
returns-in-Some c =
    let l = c.args.self.now in
    let m = c.in-Some.mark in
    let reached = c.step_to_mark-taken in
    let now : List Sample → List Sample = λ heard. heard ++ take reached.result.taken c.args.samples.now in
    record {
      most = search rules;
      room = search rules;
      all = λ ahead. absurd (false≢true (sym c.replace_with.ensures.1.0 ∙ ahead));
      listens = λ t channel form heard is.
          let before = waits t channel heard _ is.listens _ _ _ _ c.in-Ahead.is in
          let set = reached.ensures.set m c.in-Some.is t heard before.ahead in
          let after = c.replace_with.ensures.1.1.1 t channel (now heard) (before.opens, set) in
          listens_after t channel form l heard is _ m (now heard) refl before.ahead.unmarked
          set.marked after.1 after.0;
      silent = λ t channel form heard is.
          let before = waits t channel heard _ is.listens _ _ _ _ c.in-Ahead.is in
          let set = reached.ensures.set m c.in-Some.is t heard before.ahead in
          let after = c.replace_with.ensures.1.1.1 t channel (now heard) (before.opens, set) in
          silent_at_mark t channel form m heard (now heard) before.ahead.unmarked set.marked
          after.1;
    }
