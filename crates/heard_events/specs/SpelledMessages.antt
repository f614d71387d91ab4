-- Decoded messages, each with its capsule.
use Rattle.heard_events.specs.Common.{PagingMessage, SyncFields}
use Rattle.std.specs.Prelude.{Bool, List, Option, Some, None}
use Rattle.traffic_message.specs.Messages.{Message}
use Rattle.heard_events.specs.declared.spelled.Spelled.{Spelled}

-- messages of the sync channel, of a paging channel, and of a traffic channel
abbrev pub SpelledMessage : Type 0
SpelledMessage = Spelled SyncFields

abbrev pub SpelledPage : Type 0
SpelledPage = Spelled PagingMessage

abbrev pub SpelledSignal : Type 0
SpelledSignal = Spelled Message

-- a capsule, and the message that it spells
abbrev pub as_spelled : {M : Type 0} → List Bool → Option M → Option (Spelled M)
as_spelled capsule None = None
as_spelled capsule (Some message) = Some (record { capsule = capsule; message = message })

-- a capsule with its message; none if the capsule has a fault
abbrev pub spelled_in : {M : Type 0} → (List Bool → Option M) → Option (List Bool) →
    Option (Spelled M)
spelled_in reading None = None
spelled_in reading (Some capsule) = as_spelled capsule (reading capsule)
