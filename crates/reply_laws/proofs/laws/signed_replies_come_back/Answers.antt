use Rattle.reply_laws.proofs.SignedReplies.{signed_follow, signed_idle, signed_list, signed_rate2, signed_undirected, signed_whole}
use Rattle.reply_laws.proofs.laws.signed_replies_come_back.Goals as goal

pub returns : goal.returns
returns c = record {
  follow = signed_follow;
  undirected = signed_undirected;
  whole = signed_whole;
  rate2 = signed_rate2;
  list = signed_list;
  idle = signed_idle;
}
