use Rattle.clean_frames.proofs.pages.CyclesBack.{page_sendings_back, whole_pages_back}
use Rattle.clean_frames.proofs.laws.half_frames_end_whole_pages.Goals as goal

pub returns : goal.returns
returns c = record { frames = page_sendings_back; file = whole_pages_back }
