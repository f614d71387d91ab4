use Rattle.clean_link.proofs.pages.Back.{pages_back, signed_pages}
use Rattle.clean_link.proofs.laws.whole_pages_come_back.Goals as goal

pub returns : goal.returns
returns c = record { heard = pages_back; signs = signed_pages }
