use Rattle.clean_link.proofs.traffic.Signs.{power_bits_back, sixteen_sent, traffic_shows, traffic_signs}
use Rattle.clean_link.proofs.traffic.Frames.{each_frame_heard, frame_back, frames_decoded, sent_frames_back, none_directed}
use Rattle.clean_link.proofs.traffic.Frames.{sent_messages_back}
use Rattle.clean_link.proofs.traffic.Steady.{one_pilot_heard}
use Rattle.clean_link.proofs.laws.traffic_frames_come_back.Goals as goal

pub returns : goal.returns
returns c = record {
  pilot = one_pilot_heard;
  signs = traffic_signs;
  shown = traffic_shows;
  power_bits = power_bits_back;
  sixteen = sixteen_sent;
  frames = frame_back;
  decoded = frames_decoded;
  each = each_frame_heard;
  sent = sent_frames_back;
  messages = sent_messages_back;
  undirected = none_directed;
}
