-- Worked values of scripts, which the checker computes.
use Rattle.cell_script.specs.Common.{bits_left, fill, is_body, Plain, R1800, SetTwo, CellPlan, Page}
use Rattle.cell_script.specs.Common.{PagingPlan, TrafficPlan}
use Rattle.std.specs.Prelude.{ℕ, ◌≡◌, refl, ◌/◌, ◌^◌, ◌++◌, List, [], ◌∷◌, codes, map, false, pos}
use Rattle.std.specs.Prelude.{negsuc, take, Some, Ok, Err}
use Rattle.hex.specs.Hex.{decode_pairs}
use Rattle.paging_message.specs.Admitted.{admits}
use Rattle.chip_core.specs.Bits.{binary}
use Rattle.chip_core.specs.declared.width.Width.TheVariants.{Sixteen}
use Rattle.cell_plan.specs.SomeMessage.{some_sync}
use Rattle.cell_script.specs.declared.script_fault.ScriptFault.TheVariants.{Line, TooLoud, TooLong}
use Rattle.chip_core.specs.Decimals.{digits_from}
use Rattle.line_text.specs.StatedValues.{bits_in_text, power_bits_in, digits_after, hex_bits}
use Rattle.line_text.specs.StatedValues.{hex_from, length_before, number_up_to, serial_number_in}
use Rattle.line_text.specs.StatedValues.{signed_in, state_in}
use Rattle.cell_script.specs.Rows.{numbers_in, past_numbers}
use Rattle.cell_script.specs.ScriptFields.{script_field, past}
use Rattle.cell_script.specs.ScriptDrafts.{with_line, with_next}
use Rattle.cell_script.specs.ScriptLines.{cell_in, freq_in, link_in, stated_page_in, paging_in}
use Rattle.cell_script.specs.ScriptLines.{past_freq, pilot_in, statement_in, sync_after, sync_in}
use Rattle.cell_script.specs.ScriptLines.{traffic_frame_in, traffic_in}
use Rattle.cell_script.specs.ScriptStages.{page_stage}
use Rattle.cell_script.specs.Script.{is_line, lines, plan_named, draft_after, stated, stated_plan}

-- a script with this link
script : List ℕ → List ℕ
script link =
    codes "cell pn=511 time=1000 lc=20000000000 checks=0" ++ 10 ∷ codes
    "link " ++ link ++ 10 ∷ codes "pilot gain=100" ++ 10
    ∷ codes "sync gain=30 prev=3 min=1 sid=1 nid=2 lp=13 ltm=0 daylt=0 prat=0 rest=3:00" ++ 10 ∷ []

-- such a script with a paging channel
paging_script : List ℕ → List ℕ
paging_script link =
    script link ++ codes "paging channel=1 gain=60" ++ 10 ∷ codes "page half 34:04ff8046c0" ++ 10
    ∷ []

-- a script with a traffic channel of rate set 2, and these lines after its frame
traffic_script : List ℕ → List ℕ
traffic_script following =
    script (codes "re=0 im=-3 start=0 samples=1228800")
    ++ codes "traffic row=10 esn=0000abcd offset=0 gain=40" ++ 10
    ∷ codes "frame2 1800 22:5a5a58 0101010101010101" ++ 10 ∷ following

plan : List PagingPlan → CellPlan
plan paging = record {
  cell = record { pn = 511; time = 1000; lc = 2 ^ 41; check30 = Plain; check16 = Plain };
  link = record { factor = record { i = pos 0; q = negsuc 2 }; start = 0; samples = 1228800 };
  pilot = record { gain = 100 };
  sync = Some (some_sync 0);
  paging = paging;
  traffic = [];
}

-- message type 4, then 26 bits
page : Page
page = record { follows = false; body = binary 34 (0x04ff8046c0 / 64) }

paging_plan : PagingPlan
paging_plan = record { number = 1; gain = 60; pages = page ∷ [] }

traffic_plan : TrafficPlan
traffic_plan = record {
  row = 10;
  esn = 43981;
  offset = 0;
  gain = 40;
  frames = record {
    rate = SetTwo R1800;
    information = take 22 (binary 24 0x5a5a58);
    power_bits = binary 16 0x5555;
  } ∷ [];
}

empty : plan_named Sixteen [] ≡ Err (Line 1)
unfolding plan_named stated_plan stated lines
empty = refl

-- scripts with these links: the last three have an invalid `link` line
by_link : map (λ link. plan_named Sixteen (script link))
    (codes "re=0 im=-3 start=0 samples=1228800"
    ∷ codes "re=32767 im=-3 start=0 samples=1228800"
    ∷ codes "re=0 im=-3 start=0 samples=33554433"
    ∷ codes "re=0  im=-3 start=0 samples=1228800"
    ∷ codes "re=-0 im=-3 start=0 samples=1228800"
    ∷ codes "re=0 im=-3 start=0 samples=18446744073709551616"
    ∷ [])
    ≡ Ok (plan []) ∷ Err (TooLoud 4260100) ∷ Err (TooLong 33554433) ∷ Err (Line 2) ∷ Err (Line 2)
    ∷ Err (Line 2) ∷ []
unfolding script plan plan_named stated_plan stated draft_after lines is_line with_line with_next
    statement_in cell_in link_in pilot_in sync_in sync_after freq_in past_freq numbers_in
    past_numbers script_field past length_before number_up_to digits_from signed_in state_in
    hex_from bits_in_text hex_bits decode_pairs binary
by_link = refl

paged : map (λ link. plan_named Sixteen (paging_script link))
    (codes "re=0 im=-3 start=0 samples=1228800"
    ∷ codes "re=32767 im=-3 start=0 samples=1228800"
    ∷ [])
    ≡ Ok (plan (paging_plan ∷ [])) ∷ Err (TooLoud 6226300) ∷ []
unfolding paging_script script plan paging_plan page plan_named stated_plan stated draft_after lines
    is_line with_line with_next statement_in cell_in link_in pilot_in sync_in sync_after freq_in
    past_freq paging_in stated_page_in numbers_in past_numbers script_field past length_before
    number_up_to digits_from signed_in state_in hex_from bits_in_text hex_bits decode_pairs binary
    is_body admits page_stage bits_left fill
paged = refl

-- only a frame of rate set 2, and that frame with one of rate set 1 after it
of_rate_set_two : map (λ following. plan_named Sixteen (traffic_script following))
    ([] ∷ (codes "frame 1200 16:ffff 0101010101010101" ++ 10 ∷ []) ∷ [])
    ≡ Ok (record (plan []) { traffic = traffic_plan ∷ [] }) ∷ Err (Line 7) ∷ []
unfolding traffic_script script plan traffic_plan plan_named stated_plan stated draft_after lines
    is_line with_line with_next statement_in cell_in link_in pilot_in sync_in sync_after freq_in
    past_freq traffic_in traffic_frame_in numbers_in past_numbers script_field past
    length_before number_up_to digits_from signed_in state_in serial_number_in hex_from bits_in_text
    hex_bits decode_pairs power_bits_in digits_after binary
of_rate_set_two = refl
