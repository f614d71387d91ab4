-- Worked values of the lines of pilot sets.
use Rattle.event_tap.specs.Common.{Sets, Active}
use Rattle.std.specs.Prelude.{◌≡◌, refl, true, false, [], ◌∷◌, codes}
use Rattle.std.specs.Fmt.{digits}
use Rattle.event_tap.specs.EventLines.{event_line}
use Rattle.event_tap.specs.Parts.{commas}
use Rattle.event_tap.specs.SetsLines.{sets_line}

one : Active
one = record { pilot = 511; row = 20; subchannel = 0 }

other : Active
other = record { pilot = 5; row = 63; subchannel = 1 }

alone : event_line (Sets 884736 1009 (one ∷ []) [] false)
    ≡ codes "sets at=884736 time=1009 active=511/20/0 candidate= report=0\n"
unfolding one event_line sets_line commas digits
alone = refl

several : event_line (Sets 1 2 (one ∷ other ∷ []) (7 ∷ 0 ∷ []) true)
    ≡ codes "sets at=1 time=2 active=511/20/0,5/63/1 candidate=7,0 report=1\n"
unfolding one other event_line sets_line commas digits
several = refl
