-- The lines of the messages of the traffic channel, in the style of the lines of events.
use Rattle.event_tap.specs.Common.{Message, head_values, kind_of, Head, bit_text}
use Rattle.std.specs.Prelude.{ℕ, ◌≤◌, List, [], ◌∷◌, ◌++◌, length, codes, decimal, Option, Some}
use Rattle.std.specs.Prelude.{None}
use Rattle.traffic_message.specs.Handoff.{search_values, time_values}
use Rattle.traffic_message.specs.Layouts.{form_in, traffic_contents_of, traffic_names_of}
use Rattle.traffic_message.specs.Layouts.{traffic_shape_of}
use Rattle.traffic_message.specs.Widths.{head_names, search_names, time_names}
use Rattle.traffic_message.specs.declared.body.TrafficBody.{TrafficBody}
use Rattle.traffic_message.specs.declared.fields.DirectionFields.{DirectionFields}
use Rattle.traffic_message.specs.declared.fields.Search.{Search}
use Rattle.event_tap.specs.Parts.{commas, named_values, rest_text}
use Rattle.event_tap.specs.SaidTexts.{columns_texts, message_text}
use Rattle.traffic_message.specs.declared.body.TrafficBody.TheVariants as bodies

-- `traffic at=A ack=.. seq=.. req=.. enc=..`, the beginning of each line
unfoldable pub start_text : ℕ → Head → List ℕ
start_text place h = codes "traffic at=" ++ decimal place ++ named_values head_names (head_values h)

-- the search parameters, if the direction has them
abbrev pub search_text : Option Search → List ℕ
search_text None = []
search_text (Some s) = named_values search_names (search_values s)

-- ` handoff use=.. action=.. hdm=..`, then ` wina=.. tadd=.. tdrop=.. tcomp=.. ttdrop=..` if the
-- direction has them, ` extra=BITS records=P/R/C,P/R/C,.. rest=BITS` and LF: for each record the
-- pilot, the row and PWR_COMB_IND
unfoldable pub handoff_text : DirectionFields → List ℕ
handoff_text m =
    codes " handoff" ++ named_values time_names (time_values m) ++ search_text m.search
    ++ codes " extra=" ++ bit_text m.extra ++ codes " records="
    ++ commas (columns_texts (m.pns ∷ m.rows ∷ m.combs ∷ [])) ++ rest_text m.rest

-- the line after its head: a handoff direction as above, any other body by its layout
abbrev pub body_text : TrafficBody → List ℕ
body_text (bodies.Handoff m) = handoff_text m
body_text b =
    message_text (kind_of b) (traffic_names_of (form_in b)) (traffic_shape_of (form_in b)).records
    (traffic_contents_of b)

-- a handoff direction has at most 62 records
abbrev pub HasFewRecords : TrafficBody → Type 0
HasFewRecords (bodies.Handoff m) = length m.pns ≤ 62
HasFewRecords b = Unit {0}

-- the line of a message that was decoded after `place` samples
unfoldable pub traffic_line : ℕ → Message → List ℕ
traffic_line place m = start_text place m.head ++ body_text m.body
