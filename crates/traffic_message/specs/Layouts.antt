-- The layouts of the head and of the content after it, and the messages as their contents.
use Rattle.traffic_message.specs.Common.{digit, in_widths, plain_contents, plain_shape, LineNames}
use Rattle.traffic_message.specs.Common.{MessageShape, spelling, Contents, Head}
use Rattle.std.specs.Prelude.{ℕ, ◌==◌, ◌&&◌, if◌then◌else◌, not, Bool, List, [], ◌∷◌, get_or, codes}
use Rattle.std.specs.Prelude.{None}
use Rattle.chip_core.specs.declared.field.Field.{Field}
use Rattle.traffic_message.specs.Handoff.{direction_contents, direction_from, direction_shape}
use Rattle.traffic_message.specs.Handoff.{is_hard, IsHandoffDirection}
use Rattle.traffic_message.specs.InTraffic.{in_traffic_contents, in_traffic_from, in_traffic_shape}
use Rattle.traffic_message.specs.InTraffic.{IsInTraffic}
use Rattle.traffic_message.specs.Neighbors.{update_contents, update_from, update_shape}
use Rattle.traffic_message.specs.Neighbors.{IsNeighborUpdate}
use Rattle.traffic_message.specs.Widths.{head_widths, in_traffic_names, time_names, update_names}
use Rattle.traffic_message.specs.declared.body.TrafficBody.{TrafficBody}
use Rattle.traffic_message.specs.declared.layouts.BodyForm.{BodyForm}
use Rattle.traffic_message.specs.declared.body.TrafficBody.TheVariants as bodies
use Rattle.traffic_message.specs.declared.layouts.BodyForm.TheVariants as forms

-- THE TYPE AND THE HEAD
-- the values of the fields of the head, in the order of the table
abbrev pub head_values : Head → List ℕ
head_values h = h.ack_seq ∷ h.msg_seq ∷ digit h.ack_req ∷ h.encryption ∷ []

abbrev pub head_fields : Head → List Field
head_fields h = in_widths head_widths (head_values h)

abbrev pub typed_widths : List ℕ
typed_widths = 8 ∷ head_widths

abbrev pub head_shape : MessageShape
head_shape = plain_shape typed_widths [] 0 None

abbrev pub head_contents : ℕ → Head → Contents
head_contents kind h = plain_contents (kind ∷ head_values h) ([] ∷ [] ∷ [] ∷ []) []

-- the head whose values follow that of the type
abbrev pub head_in : List ℕ → Head
head_in values = record {
  ack_seq = get_or values 1 0;
  msg_seq = get_or values 2 0;
  ack_req = get_or values 3 0 == 1;
  encryption = get_or values 4 0;
}

-- WHAT STANDS AFTER A HEAD
-- the form of the content, by the type if nothing is encrypted
abbrev pub form_at : ℕ → ℕ → List Bool → BodyForm
form_at kind encryption bits =
    if (encryption == 0) && (kind == 7) then forms.Parameters
    else (if (encryption == 0) && (kind == 8) then forms.Update
    else (if (encryption == 0) && ((kind == 17) && not (is_hard bits)) then forms.Direction
    else forms.Plain))

abbrev pub form_in : TrafficBody → BodyForm
form_in (bodies.System m) = forms.Parameters
form_in (bodies.Neighbors m) = forms.Update
form_in (bodies.Handoff m) = forms.Direction
form_in (bodies.Other kind bits) = forms.Plain

abbrev pub traffic_shape_of : BodyForm → MessageShape
traffic_shape_of forms.Parameters = in_traffic_shape
traffic_shape_of forms.Update = update_shape
traffic_shape_of forms.Direction = direction_shape
traffic_shape_of forms.Plain = plain_shape [] [] 0 None

-- the names in the line
abbrev pub traffic_names_of : BodyForm → LineNames
traffic_names_of forms.Parameters = record {
  word = codes "system";
  fixed = in_traffic_names;
  list = [];
}
traffic_names_of forms.Update = record {
  word = codes "neighbors";
  fixed = update_names;
  list = codes "pilots";
}
traffic_names_of forms.Direction = record {
  word = codes "handoff";
  fixed = time_names;
  list = codes "records";
}
traffic_names_of forms.Plain = record { word = []; fixed = []; list = [] }

abbrev pub traffic_contents_of : TrafficBody → Contents
traffic_contents_of (bodies.System m) = in_traffic_contents m
traffic_contents_of (bodies.Neighbors m) = update_contents m
traffic_contents_of (bodies.Handoff m) = direction_contents m
traffic_contents_of (bodies.Other kind bits) = plain_contents [] ([] ∷ [] ∷ [] ∷ []) bits

abbrev pub body_from : BodyForm → ℕ → Contents → TrafficBody
body_from forms.Parameters kind c = bodies.System (in_traffic_from c)
body_from forms.Update kind c = bodies.Neighbors (update_from c)
body_from forms.Direction kind c = bodies.Handoff (direction_from c)
body_from forms.Plain kind c = bodies.Other kind c.rest

-- the bits that spell the content
abbrev pub bits_of : TrafficBody → List Bool
bits_of b = spelling (traffic_shape_of (form_in b)) (traffic_contents_of b)

-- the fields are those of a message
abbrev pub HasFields : TrafficBody → Type 0
HasFields (bodies.System m) = IsInTraffic m
HasFields (bodies.Neighbors m) = IsNeighborUpdate m
HasFields (bodies.Handoff m) = IsHandoffDirection m
HasFields (bodies.Other kind bits) = Unit {0}
