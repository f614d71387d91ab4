-- Worked values of the script of a trial, which the checker computes.
use Rattle.std.specs.Prelude.{◌≡◌, refl, codes}
use Rattle.std.specs.Fmt.{digits}
use Rattle.hex.specs.Hex.{encode_with}
use Rattle.line_text.specs.Texts.{bit_text, digits_of, packed_octets, padded, serial_digits}
use Rattle.line_text.specs.Texts.{state_digits}
use Rattle.chip_core.specs.Bits.{binary, places}
use Rattle.cell_script.specs.Spelling.{written_cell, written_frame, written_link, written_page}
use Rattle.cell_script.specs.Spelling.{written_paging, written_pilot, written_sync, written_traffic}
use Rattle.trial_link.specs.Trial.{past_draws, bits_drawn, drawn, frame_drawn, past_frames}
use Rattle.trial_link.specs.Trial.{other_frame, trial_cell, trial_link, trial_page, trial_sync}
use Rattle.trial_link.specs.Trial.{followed_line, trial_serial_number}

first_draw : drawn 0 ≡ 0x14057b7e
first_draw = refl

-- a draw from the greatest state
last_number : drawn 18446744073709551615 ≡ 0xbbb38751
last_number = refl

cell_of_0 : written_cell (trial_cell 0) ≡ codes "cell pn=382 time=436792849 lc=26bd9e08ae9 checks=3"
unfolding written_cell trial_cell past_draws state_digits encode_with digits
cell_of_0 = refl

link_of_trial : written_link trial_link ≡ codes "link re=1 im=0 start=0 samples=2457600"
unfolding written_link digits
link_of_trial = refl

pilot_of_trial : written_pilot (record { gain = 100 }) ≡ codes "pilot gain=100"
unfolding written_pilot digits
pilot_of_trial = refl

sync_of_trial : written_sync trial_sync
    ≡ codes "sync gain=30 prev=3 min=1 sid=1 nid=2 lp=13 ltm=0 daylt=0 prat=0 rest=3:00"
unfolding written_sync trial_sync bit_text padded packed_octets encode_with digits
sync_of_trial = refl

paging_of_trial : written_paging (record { number = 1; gain = 60 })
    ≡ codes "paging channel=1 gain=60"
unfolding written_paging digits
paging_of_trial = refl

page_of_0 : written_page (trial_page 382) ≡ codes "page half 34:04bf0046c0"
unfolding written_page trial_page bit_text padded packed_octets binary encode_with digits
page_of_0 = refl

channel_of_0 : written_traffic (followed_line (trial_serial_number 0))
    ≡ codes "traffic row=8 esn=62354cda offset=0 gain=40"
unfolding written_traffic trial_serial_number past_draws serial_digits encode_with digits
channel_of_0 = refl

first_frame : written_frame (frame_drawn (past_draws 0 5))
    ≡ codes "frame 2400 40:322ec20495 0011110011001001"
unfolding written_frame past_draws bits_drawn bit_text padded packed_octets digits_of places
    encode_with digits
first_frame = refl

second_frame : written_frame (frame_drawn (past_frames (past_draws 0 5) 1))
    ≡ codes "frame 1200 16:18d3 0100100000001110"
unfolding written_frame past_draws past_frames bits_drawn bit_text padded packed_octets digits_of
    places encode_with digits
second_frame = refl

beside : written_frame other_frame ≡ codes "frame 1200 16:ffff 0101010101010101"
unfolding written_frame other_frame bit_text padded packed_octets digits_of places binary encode_with
    digits
beside = refl
