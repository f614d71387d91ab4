-- The listeners of the program: whether one is fresh, what it has taken, and its room.
use Rattle.cdma_replay.specs.Common.{Sample, KeptTap}
use Rattle.std.specs.Prelude.{◌≡◌, ℕ, ◌≤◌, List, []}
use Rattle.std.proofs.Math.Nat.{le_trans}
use Rattle.mobile_core.specs.Standing.{StandsFor, has_room}
use Rattle.tuned_listener.specs.TunedListening.{ListensTuned, tuned_room}
use Rattle.cdma_replay.specs.declared.listener.Listener.{Listener}
use Rattle.run_replies.specs.Findings.{AreWritable, findings_text}
use Rattle.run_replies.specs.Handsets.{HandsetGave}
use Rattle.run_replies.specs.Hearing.{ByFrames, ByTaps, Listening, Unheard}
use Rattle.cdma_replay.specs.declared.listener.Listener.TheVariants as by

-- the findings in the first samples can be written
abbrev pub IsTellable : Listener → Type 0
IsTellable (by.Unheard findings) = AreWritable findings
IsTellable listener = Unit {0}

-- it has taken no sample and reported nothing, and these taps will receive its events
abbrev pub IsFreshListener : Listening → Listener → List KeptTap → Type 0
IsFreshListener (Unheard text) (by.Unheard findings) kept = text ≡ findings_text findings
IsFreshListener (ByTaps t taps) (by.Handset mobile) kept =
    StandsFor t mobile.value [] [] × (kept ≡ taps)
IsFreshListener (ByFrames t channel form) (by.Tuned tuned) kept =
    ListensTuned t channel form tuned.value []
IsFreshListener l listener kept = ⊥

-- it has taken these samples and reported all that is in them, and these taps are kept after them
abbrev pub Listens : Listening → Listener → List KeptTap → List Sample → Type 0
Listens (Unheard text) (by.Unheard findings) kept heard = Unit {0}
Listens (ByTaps t taps) (by.Handset mobile) kept heard = HandsetGave t taps mobile.value kept heard
Listens (ByFrames t channel text) (by.Tuned tuned) kept heard =
    ListensTuned t channel text tuned.value heard
Listens l listener kept heard = ⊥

-- it can take `count` more samples
abbrev pub HasRoom : Listener → ℕ → Type 0
HasRoom (by.Unheard findings) count = Unit {0}
HasRoom (by.Handset mobile) count = count ≤ has_room mobile.value
HasRoom (by.Tuned tuned) count = count ≤ tuned_room tuned.value

-- if it can take a number of samples, it can take fewer
pub room_for_fewer : (listener : Listener) (left n : ℕ) → HasRoom listener left → n ≤ left →
    HasRoom listener n
room_for_fewer (by.Unheard findings) left n room fewer = tt
room_for_fewer (by.Handset mobile) left n room fewer = le_trans fewer room
room_for_fewer (by.Tuned tuned) left n room fewer = le_trans fewer room

-- a listener before any sample of a file of `count` samples; `who` maps its taps to how it listens
pub record IsListenerFor (who : List KeptTap → Listening) (count : ℕ) (listener : Listener) :
    Type 0 where
  pub fresh : (taps : List KeptTap) → IsFreshListener (who taps) listener taps
  pub tellable : IsTellable listener
  pub room : HasRoom listener count
