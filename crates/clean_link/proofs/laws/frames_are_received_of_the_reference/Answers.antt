use Rattle.clean_link.proofs.traffic.Received.{each_frame_received, frames_after_mark, frames_show_power_bits, frames_show_symbols}
use Rattle.clean_link.proofs.traffic.Received.{set_two_back, set_two_after_mark, signed_received, signed_set_two_back}
use Rattle.clean_link.proofs.traffic.Signs.{set_one_sends, set_two_sends}
use Rattle.clean_link.proofs.laws.frames_are_received_of_the_reference.Goals as goal

pub returns : goal.returns
returns c = record {
  one = set_one_sends;
  two = set_two_sends;
  each = each_frame_received;
  shown = frames_show_symbols;
  raw = frames_show_power_bits;
  decoded = set_two_back;
  signed = signed_received;
  set_two = signed_set_two_back;
  following = frames_after_mark;
  file = set_two_after_mark;
}
