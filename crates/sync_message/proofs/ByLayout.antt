-- What stands after the message type, by its layout.
use Rattle.sync_message.proofs.Common.{◌≡◌, ℕ, ◌+◌, ◌<◌, ◌≤◌, ◌^◌, ◌==◌, Bool, true, cond, List, [], ◌∷◌, ◌++◌, length, get_or, refl, sym}
use Rattle.sync_message.proofs.Common.{ap, subst, ◌∙◌, arith, length-append, Option, Some, None, eqb-true, binary, places, in_widths, IsOf}
use Rattle.sync_message.proofs.Common.{FieldsFit, length-binary, after_group, spelling, IsGroup, UnlessLeft, FillsCapsule, M30, freq_from}
use Rattle.sync_message.proofs.Common.{sync_body_reading, freq_group, sync_contents, sync_from, sync_of, sync_message_shape, sync_values}
use Rattle.sync_message.proofs.Common.{sync_widths, sync_body, IsSyncMessage, SyncFields}
use Rattle.std.specs.Prelude.{IfSome}
use Rattle.chip_core.proofs.Places.{map-places-all}
use Rattle.message_layout.specs.Reading.{mapped, number_part, reading}
use Rattle.message_layout.specs.Shapes.{is_lawful}
use Rattle.message_layout.specs.declared.contents.Contents.{Contents}
use Rattle.message_layout.proofs.Messages.{ByLayout, contents_in, no_columns, no_octets, one_value, read_again, read_there}
use Rattle.message_layout.proofs.Parts.{bind_some, guard_some, number_again, number_there}

pub sync_lawful : is_lawful sync_message_shape ≡ true
unfolding is_lawful
sync_lawful = refl

-- THE FREQUENCY
-- one that the layout has fits
group_fits : (freq : Option ℕ) (following : ℕ) →
    IsGroup (UnlessLeft 3) (11 ∷ []) (freq_group freq) following → IfSome freq (λ n. n < 2 ^ 11)
group_fits None following is = tt
group_fits (Some freq) following is = is.fit.0

group_back : (group : Option (List ℕ)) (following : ℕ) →
    IsGroup (UnlessLeft 3) (11 ∷ []) group following → freq_group (freq_from group) ≡ group
group_back None following is = refl
group_back (Some vs) following is = ap Some (one_value vs is.all)

freq_made : (freq : Option ℕ) → freq_from (freq_group freq) ≡ freq
freq_made None = refl
freq_made (Some freq) = refl

-- THE MESSAGE
-- contents of the layout are those of the message that is made of them
sync_back : (c : Contents) → IsOf sync_message_shape c → sync_contents (sync_from c) ≡ c
unfolding sync_of places
sync_back c is =
    let values : sync_values (sync_from c) ≡ c.fixed =
    sym (map-places-all (λ k. get_or c.fixed k 0) c.fixed 11 0 is.fixed.all (λ k lt. refl)) in
    let group = group_back c.group (length (after_group sync_message_shape c)) is.group in
    let none : c.octets ≡ [] = no_octets c.octets is.whole is.counted in
    rw (values, group, ← none, no_columns c.columns is.columns) refl

sync_made : (m : SyncFields) → sync_from (sync_contents m) ≡ m
unfolding sync_of
sync_made m = rw (freq_made m.freq) refl

pub by_layout : ByLayout sync_message_shape sync_contents sync_from
by_layout = record { lawful = sync_lawful; back = sync_back; made = sync_made }

-- READING
-- contents that were read fit
pub fields_fit : (c : Contents) → IsOf sync_message_shape c →
    FieldsFit (in_widths sync_widths (sync_values (sync_from c))) × IfSome (freq_from c.group) (λ n. n < 2 ^ 11)
unfolding sync_of
fields_fit c is =
    let m = sync_from c in
    let there = contents_in sync_message_shape sync_contents sync_from by_layout c is in (
      there.fixed.fit,
      group_fits m.freq (length (after_group sync_message_shape (sync_contents m))) there.group,
    )

-- what was spelled is read again
pub body_again : (m : SyncFields) → IsSyncMessage m → sync_body_reading (sync_body m) ≡ Some m
unfolding sync_body_reading sync_body
body_again m is =
    let bits = spelling sync_message_shape (sync_contents m) in
    let front = number_again 8 1 bits (omega arith) in
    rw front (read_again sync_message_shape sync_contents sync_from by_layout m is.said)

-- A message that is read from a body has contents of the layout and spells that body: the type in
-- the first 8 bits is 1, and the rest is what the layout spells for what it reads there.
pub body_is : (body : List Bool) (m : SyncFields) → sync_body_reading body ≡ Some m →
    IsOf sync_message_shape (sync_contents m) × (body ≡ sync_body m)
unfolding sync_body_reading sync_body
body_is body m e =
    let first = bind_some (number_part 8 body) (λ kind.
    cond (kind.0 == 1) (mapped sync_from (reading sync_message_shape kind.1)) None) m e in
    let test = guard_some (first.0.0 == 1) (mapped sync_from (reading sync_message_shape first.0.1)) m
    first.2 in
    let front = number_there 8 first.0.0 body first.0.1 first.1 in
    let there = read_there sync_message_shape sync_contents sync_from by_layout first.0.1 m test.1 in (
      there.0,
      front.1 ∙ ap (λ (k : ℕ). binary 8 k ++ first.0.1) (eqb-true first.0.0 1 test.0)
          ∙ ap (λ (r : List Bool). binary 8 1 ++ r) there.1,
    )

pub body_there : (body : List Bool) (m : SyncFields) → FillsCapsule M30 body →
    sync_body_reading body ≡ Some m → IsSyncMessage m × (body ≡ sync_body m)
body_there body m fills e =
    let is = body_is body m e in
    (record { said = is.0; fills = subst (FillsCapsule M30) is.1 fills }, is.1)

-- WRITTEN
pub body_written : (m : SyncFields) (one after : List Bool) → one ≡ binary 8 1 →
    after ≡ one ++ spelling sync_message_shape (sync_contents m) → after ≡ sync_body m
unfolding sync_body
body_written m one after first following =
    following ∙ ap (λ (r : List Bool). r ++ spelling sync_message_shape (sync_contents m)) first

-- there is room after the message type
pub body_room : (m : SyncFields) → IsSyncMessage m → 8 + length (spelling sync_message_shape (sync_contents m)) ≤ 1184
unfolding sync_body
body_room m is =
    omega (
      arith,
      length-append (binary 8 1) (spelling sync_message_shape (sync_contents m)),
      length-binary 8 1,
      is.fills.whole,
      is.fills.most,
    )
