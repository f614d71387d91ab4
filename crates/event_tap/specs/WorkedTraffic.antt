-- Worked values of the lines of traffic messages.
use Rattle.event_tap.specs.Common.{binary, places, Head, bit_text, packed_octets, padded}
use Rattle.std.specs.Prelude.{◌≡◌, refl, true, false, [], ◌∷◌, ◌++◌, codes, Some, None}
use Rattle.std.specs.Fmt.{digits}
use Rattle.hex.specs.Hex.{encode_with}
use Rattle.traffic_message.specs.Handoff.{search_of}
use Rattle.traffic_message.specs.InTraffic.{in_traffic_of}
use Rattle.traffic_message.specs.declared.body.TrafficBody.TheVariants.{Handoff, Neighbors, Other}
use Rattle.traffic_message.specs.declared.body.TrafficBody.TheVariants.{System}
use Rattle.event_tap.specs.Parts.{commas, named_values}
use Rattle.event_tap.specs.SaidTexts.{kind_text, message_text, said_text}
use Rattle.event_tap.specs.TrafficLines.{handoff_text, start_text, traffic_line}
use Rattle.event_tap.specs.Taps.{raw_traffic_line}

head : Head
head = record { ack_seq = 2; msg_seq = 3; ack_req = true; encryption = 0 }

one : traffic_line 983040 (record { head = head; body = Other 1 (binary 7 0) }) ≡
    codes "traffic at=983040 ack=2 seq=3 req=1 enc=0 other type=1 bits=7:00\n"
unfolding traffic_line start_text message_text kind_text named_values head bit_text padded
    packed_octets encode_with binary digits
one = refl

one_record : traffic_line 0 (record {
  head = record head { ack_req = false; encryption = 3 };
  body = Handoff (record {
    use_time = 1;
    action = 49;
    hdm = 0;
    search = None;
    extra = [];
    pns = 511 ∷ [];
    combs = 0 ∷ [];
    rows = 20 ∷ [];
    rest = binary 7 0;
  });
}) ≡
    codes "traffic at=0 ack=2 seq=3 req=0 enc=3 handoff use=1 action=49 hdm=0"
    ++ codes " extra=0: records=511/20/0 rest=7:00\n"
unfolding traffic_line start_text handoff_text places commas named_values head bit_text
    padded packed_octets encode_with binary digits
one_record = refl

two_records : traffic_line 1 (record {
  head = head;
  body = Handoff (record {
    use_time = 0;
    action = 63;
    hdm = 3;
    search = Some (search_of (1 ∷ 2 ∷ 3 ∷ 4 ∷ 5 ∷ []));
    extra = binary 8 0x5a;
    pns = 511 ∷ 0 ∷ [];
    combs = 0 ∷ 1 ∷ [];
    rows = 20 ∷ 255 ∷ [];
    rest = [];
  });
}) ≡
    codes "traffic at=1 ack=2 seq=3 req=1 enc=0 handoff use=0 action=63 hdm=3"
    ++ codes " wina=1 tadd=2 tdrop=3 tcomp=4 ttdrop=5 extra=8:5a records=511/20/0,0/255/1 rest=0:\n"
unfolding traffic_line start_text handoff_text places commas named_values search_of head
    bit_text padded packed_octets encode_with binary digits
two_records = refl

two_neighbors : traffic_line 9 (record {
  head = head;
  body = Neighbors (record { inc = 4; pns = 12 ∷ 508 ∷ []; rest = binary 2 1 });
}) ≡
    codes "traffic at=9 ack=2 seq=3 req=1 enc=0 neighbors inc=4 pilots=12,508 rest=2:40\n"
unfolding traffic_line start_text message_text said_text places commas named_values head bit_text
    padded packed_octets encode_with binary digits
two_neighbors = refl

-- each field has the value of its place in the table, 0 to 9
places_of_fields : traffic_line 1 (record {
  head = head;
  body = System (in_traffic_of (0 ∷ 1 ∷ 2 ∷ 3 ∷ 4 ∷ 5 ∷ 6 ∷ 7 ∷ 8 ∷ 9 ∷ []) (binary 4 5));
}) ≡
    codes "traffic at=1 ack=2 seq=3 req=1 enc=0 system sid=0 nid=1 wina=2 winn=3 winr=4"
    ++ codes " tadd=5 tdrop=6 tcomp=7 ttdrop=8 age=9 rest=4:50\n"
unfolding traffic_line start_text message_text said_text in_traffic_of named_values head bit_text
    padded packed_octets encode_with binary digits
places_of_fields = refl

raw_message : raw_traffic_line 983040 (binary 12 0x05a) ≡ codes "raw at=983040 traffic 12:05a0\n"
unfolding bit_text padded packed_octets encode_with binary digits
raw_message = refl
