use Rattle.reception.proofs.Common.{arith, common_steps, ints, ◌∙◌, Data, begun_in_ring}
use Rattle.reception.proofs.frame_receiver.FrameReceiver.raw.Goals as goal

pub combine_into-requires-clause-ring : goal.combine_into-requires-clause-ring
combine_into-requires-clause-ring c =
    let r = c.args.self.now in
    let sound = c.requires.sound in
    begun_in_ring c.args.ring.now Data r.clock.start r.fingers sound.close.close sound.begun
    c.requires.room (c.requires.ended ∙ sound.ends)

pub combine_into-requires-clause-rows : goal.combine_into-requires-clause-rows
combine_into-requires-clause-rows c = grind (ints, arith, common_steps)
