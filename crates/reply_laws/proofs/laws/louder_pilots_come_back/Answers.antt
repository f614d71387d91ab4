use Rattle.reply_laws.proofs.MadeLinks.{cell_files, clean_links, louder_find, louder_follow, louder_idle, louder_list, louder_rate2}
use Rattle.reply_laws.proofs.laws.louder_pilots_come_back.Goals as goal

pub returns : goal.returns
returns c = record {
  file = cell_files;
  clean = clean_links;
  find = louder_find;
  follow = louder_follow;
  rate2 = louder_rate2;
  list = louder_list;
  idle = louder_idle;
}
