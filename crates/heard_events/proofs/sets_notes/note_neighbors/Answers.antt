use Rattle.paging_message.proofs.ByLayout.{pns_below}
use Rattle.heard_events.proofs.sets_notes.note_neighbors.Goals as goal

pub neighbors-requires : goal.neighbors-requires
neighbors-requires c = pns_below c.args.fields.now c.requires
