-- Worked values of the lines of paging messages.
use Rattle.event_tap.specs.Common.{binary, places, bit_text, packed_octets, padded}
use Rattle.std.specs.Prelude.{◌≡◌, refl, false, [], ◌∷◌, ◌++◌, codes}
use Rattle.std.specs.Fmt.{digits}
use Rattle.hex.specs.Hex.{encode_with}
use Rattle.paging_message.specs.System.{system_of}
use Rattle.paging_message.specs.declared.message.PagingMessage.TheVariants.{Channels, Neighbors}
use Rattle.paging_message.specs.declared.message.PagingMessage.TheVariants.{Other, System}
use Rattle.event_tap.specs.PagingLines.{paging_line, slot_line}
use Rattle.event_tap.specs.Parts.{commas, named_values}
use Rattle.event_tap.specs.SaidTexts.{kind_text, message_text, said_text}
use Rattle.event_tap.specs.Taps.{raw_paging_line}

one_channel :
    paging_line 737280 (Channels (record { pn = 511; seq = 0; freqs = 283 ∷ []; rest = [] })) ≡
    codes "paging at=737280 channels pn=511 seq=0 freqs=283 rest=0:\n"
unfolding paging_line message_text said_text places named_values commas bit_text padded
    packed_octets encode_with digits
one_channel = refl

no_channels :
    paging_line 0 (Channels (record { pn = 0; seq = 63; freqs = []; rest = false ∷ [] })) ≡
    codes "paging at=0 channels pn=0 seq=63 freqs= rest=1:00\n"
unfolding paging_line message_text said_text places named_values commas bit_text padded
    packed_octets encode_with digits
no_channels = refl

three_channels : paging_line 9 (Channels (record {
  pn = 4;
  seq = 1;
  freqs = 0 ∷ 2047 ∷ 283 ∷ [];
  rest = binary 7 0x55;
})) ≡
    codes "paging at=9 channels pn=4 seq=1 freqs=0,2047,283 rest=7:aa\n"
unfolding paging_line message_text said_text places named_values commas bit_text padded
    packed_octets encode_with binary digits
three_channels = refl

two_neighbors : paging_line 786432 (Neighbors (record {
  pn = 511;
  seq = 0;
  inc = 4;
  configs = 0 ∷ 7 ∷ [];
  pns = 4 ∷ 508 ∷ [];
  rest = binary 3 5;
})) ≡
    codes "paging at=786432 neighbors pn=511 seq=0 inc=4 pilots=0/4,7/508 rest=3:a0\n"
unfolding paging_line message_text said_text places named_values commas bit_text padded
    packed_octets encode_with binary digits
two_neighbors = refl

nine : paging_line 737280 (Other (record { kind = 9; bits = false ∷ false ∷ [] })) ≡
    codes "paging at=737280 other type=9 bits=2:00\n"
unfolding paging_line message_text kind_text bit_text padded packed_octets encode_with digits
nine = refl

-- each field has the value of its place in the table, 0 to 36
places_of_fields : paging_line 1 (System (system_of
    (0 ∷ 1 ∷ 2 ∷ 3 ∷ 4 ∷ 5 ∷ 6 ∷ 7 ∷ 8 ∷ 9 ∷ 10 ∷ 11 ∷ 12 ∷ 13 ∷ 14 ∷ 15 ∷ 16 ∷ 17 ∷ 18 ∷ 19 ∷ 20
    ∷ 21 ∷ 22 ∷ 23 ∷ 24 ∷ 25 ∷ 26 ∷ 27 ∷ 28 ∷ 29 ∷ 30 ∷ 31 ∷ 32 ∷ 33 ∷ 34 ∷ 35 ∷ 36 ∷ [])
    (binary 4 5))) ≡
    codes "paging at=1 system pn=0 seq=1 sid=2 nid=3 zone=4 zones=5 ztimer=6 msids=7 mnids=8"
    ++ codes " base=9 bclass=10 pages=11 cycle=12 home=13 fsid=14 fnid=15 up=16 down=17 param=18"
    ++ codes " prd=19 lat=20 long=21 dist=22 wina=23 winn=24 winr=25 age=26 pthresh=27"
    ++ codes " pframes=28 pthen=29 pperen=30 pdelay=31 rescan=32 tadd=33 tdrop=34 tcomp=35"
    ++ codes " ttdrop=36 rest=4:50\n"
unfolding paging_line message_text said_text system_of named_values bit_text padded packed_octets
    encode_with binary digits
places_of_fields = refl

raw_message : raw_paging_line 737280 (binary 12 0x05a) ≡ codes "raw at=737280 paging 12:05a0\n"
unfolding bit_text padded packed_octets encode_with binary digits
raw_message = refl

slot_of_eight : slot_line 884736 1008 8 ≡ codes "slot at=884736 time=1008 messages=8\n"
unfolding slot_line digits
slot_of_eight = refl
