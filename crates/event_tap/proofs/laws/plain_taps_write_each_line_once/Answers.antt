use Rattle.event_tap.proofs.Runs.{plain_text-forms}
use Rattle.event_tap.proofs.laws.plain_taps_write_each_line_once.Goals as goal

pub returns : goal.returns
returns c pilots messages frames events few_pilots few_messages few_frames =
    plain_text-forms pilots messages frames events few_pilots few_messages few_frames
