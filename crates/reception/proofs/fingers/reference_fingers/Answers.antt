use Rattle.reception.proofs.Common.{common_steps, ints, ◌≡◌, ◌<◌, ◌++◌, ◌∷◌, [], ◌∙◌, sym, ap, arith, rules, length, length-append, pos, ℤ}
use Rattle.reception.proofs.Common.{take, get_or, to_z-of_z, SFits, w8, all_near, has_reference, have_rows, finger_of, fingers_of}
use Rattle.reception.proofs.FingerLists.{near_more, reference_more, rows_more, fingers_more}
use Rattle.reception.proofs.fingers.reference_fingers.Goals as goal

-- One path more has its finger: the finger is the one that the definition gives for the path's
-- delay, so the list so far is the definition's, is near the reference, and has the reference's own
-- finger first.
pub loop-i-preserved : goal.loop-i-preserved
loop-i-preserved c =
    let had = c.loop-i.invariant in
    let f = c.finger_at-finger.result in
    let more : c.push.new.self ≡ c.loop-i.fingers ++ f ∷ [] = search rules in
    let deltas = c.args.near.now.deltas in
    let row = c.args.row in
    let phase = c.args.phase in
    let d : ℤ = get_or deltas c.from.result (pos 0) in
    let fits : SFits w8 d = search rules in
    let read = ap (λ k. get_or deltas k (pos 0)) c.from.ensures in
    let value : f ≡ finger_of row phase (get_or deltas c.loop-i.i (pos 0)) =
    c.finger_at-finger.ensures.value ∙ ap (finger_of row phase) (to_z-of_z w8 d fits ∙ read) in
    let numbered : f.row < 64 = omega (arith, c.finger_at-finger.ensures.row, c.requires.row) in
    record {
      least = omega arith;
      most = omega arith;
      list = more ∙ ap (λ fs. fs ++ f ∷ []) had.list
          ∙ ap (λ g. fingers_of row phase (take c.loop-i.i deltas) ++ g ∷ []) value
          ∙ sym (fingers_more row phase deltas c.loop-i.i (pos 0) (omega arith));
      rows = ap have_rows more ∙ rows_more c.loop-i.fingers f had.rows numbered;
      long = ap length more ∙ omega (arith, length-append c.loop-i.fingers (f ∷ []), had.long);
      near = ap all_near more
          ∙ near_more c.loop-i.fingers f had.near c.finger_at-finger.ensures.near;
      reference = ap has_reference more ∙ reference_more c.loop-i.fingers f had.reference;
    }

pub loop-i-init : goal.loop-i-init
loop-i-init c = grind (ints, arith, common_steps)

pub unreachable-requires : goal.unreachable-requires
unreachable-requires c = grind (ints, arith, common_steps)
