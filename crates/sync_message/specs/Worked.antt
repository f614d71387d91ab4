-- Worked values.
use Rattle.sync_message.specs.Common.{spelling, capsule, SyncFields}
use Rattle.std.specs.Prelude.{◌≡◌, refl, ◌^◌, false, [], ◌∷◌, length, take, Some, None}
use Rattle.chip_core.specs.Bits.{number, binary, places}
use Rattle.chip_core.specs.declared.check_form.CheckForm.TheVariants.{Plain, Complemented}
use Rattle.message_layout.specs.Reading.{fields_at, group_at, number_part, octets_at, part_at}
use Rattle.message_layout.specs.Reading.{presence_at, reading, records_at}
use Rattle.quality_bits.specs.Quality.{check_bits}
use Rattle.sync_message.specs.Layouts.{sync_body_reading, sync_of}
use Rattle.sync_message.specs.Reading.{sync_reading}
use Rattle.sync_message.specs.SyncMessage.{sync_body, sync_capsule}

shortest : SyncFields
shortest =
    record {
      prev = 3;
      min = 1;
      sid = 1;
      nid = 2;
      pn = 3;
      lc = 2 ^ 41;
      time = 5;
      lp = 13;
      ltm = 0;
      daylt = 0;
      prat = 0;
      freq = None;
      rest = false ∷ false ∷ false ∷ [];
    }

first_octets : number (take 168 (sync_capsule Plain shortest)) ≡
    0x190103010002000403800000000000000000143400
unfolding shortest sync_capsule sync_body spelling capsule binary check_bits places
first_octets = refl

shortest_length : length (sync_capsule Plain shortest) ≡ 200
unfolding shortest sync_capsule sync_body spelling capsule binary check_bits places
shortest_length = refl

with_freq : SyncFields
unfolding shortest
with_freq = record shortest { freq = Some 283; rest = [] }

with_freq_length : length (sync_capsule Plain with_freq) ≡ 208
unfolding with_freq shortest sync_capsule sync_body spelling capsule binary check_bits places
with_freq_length = refl

with_freq_octets : number (take 8 (sync_capsule Plain with_freq)) ≡ 0x1a
unfolding with_freq shortest sync_capsule sync_body spelling capsule binary check_bits places
with_freq_octets = refl

-- reading returns the message that was spelled
shortest_read : sync_reading Plain (sync_capsule Plain shortest) ≡ Some shortest
unfolding shortest sync_reading sync_body_reading sync_of reading fields_at group_at presence_at
    octets_at records_at number_part part_at sync_capsule sync_body spelling capsule binary
    check_bits places
shortest_read = refl

with_freq_read : sync_reading Plain (sync_capsule Plain with_freq) ≡ Some with_freq
unfolding with_freq shortest sync_reading sync_body_reading sync_of reading fields_at group_at
    presence_at octets_at records_at number_part part_at sync_capsule sync_body spelling capsule
    binary check_bits places
with_freq_read = refl

-- a capsule whose check is of the other form spells no message
other_form_read : sync_reading Complemented (sync_capsule Plain shortest) ≡ None
unfolding shortest sync_reading sync_body_reading sync_of reading fields_at group_at presence_at
    octets_at records_at number_part part_at sync_capsule sync_body spelling capsule binary
    check_bits places
other_form_read = refl
