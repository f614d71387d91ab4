-- Lemmas on a listener whose text a sink receives.
use Rattle.cdma_replay.proofs.Common.{◌≡◌, ℕ, ◌-◌, ◌≤◌, [], List, sym, subst, append-nil, Option, Appends, Appends-nil, Sample}
use Rattle.cdma_replay.proofs.Common.{AppendsPrefix, events, StandsFor, has_room, Tuning, CodeChannel, Mobile, KeptTap, run_taps}
use Rattle.cdma_replay.proofs.Common.{TellsTuned}
use Rattle.cdma_replay.proofs.Common.{ListensTuned, TellsTunedPart, tuned_room, text_of_nothing, TunedListener, TunedText, BeginsAfter, Box}
use Rattle.cdma_replay.proofs.Common.{ByFrames, ByTaps, HasRoom, IsFreshListener, Listening, Listens, ListenerTells, GainsPrefix, told}
use Rattle.cdma_replay.proofs.Common.{Listener, Global, Findings, Unheard, findings_text}
use Rattle.cdma_replay.specs.declared.listener.Listener.TheVariants as by

-- ---- nobody, and a handset

-- what holds where nobody hears
pub on_unheard : (P : Listening → Type 0) (l : Listening) (findings : Findings)
    (kept : List KeptTap) (heard : List Sample) → Listens l (by.Unheard findings) kept heard →
    ((text : List ℕ) → P (Unheard text)) → P l
on_unheard P (Unheard text) findings kept heard listens holds = holds text
on_unheard P l findings kept heard listens holds = absurd listens

pub tells_nobody : (text : List ℕ) (findings : Findings) (kept : List KeptTap)
    (before heard : List Sample) (old : Option (List ℕ)) →
    ListenerTells Listens (Unheard text) (by.Unheard findings) kept before heard old old
unfolding told
tells_nobody text findings kept before heard old = record {
  more = record { text = []; written = Appends-nil old; all = append-nil text };
  listens = tt;
}

-- what holds where taps hear a handset
pub on_handset : (P : Listening → Type 0) (l : Listening) (mobile : Box Mobile Global)
    (kept : List KeptTap) (heard : List Sample) → Listens l (by.Handset mobile) kept heard →
    ((t : Tuning) (taps : List KeptTap) → StandsFor t mobile.value heard (events t heard) →
    kept ≡ run_taps taps (events t heard) → P (ByTaps t taps)) → P l
on_handset P (ByTaps t taps) mobile kept heard listens holds = holds t taps listens.0 listens.1
on_handset P l mobile kept heard listens holds = absurd listens

-- and where the frames of one channel are heard
pub on_tuned : (P : Listening → Type 0) (l : Listening) (tuned : Box TunedListener Global)
    (kept : List KeptTap) (heard : List Sample) → Listens l (by.Tuned tuned) kept heard →
    ((t : Tuning) (channel : CodeChannel) (text : TunedText) →
    ListensTuned t channel text tuned.value heard → P (ByFrames t channel text)) → P l
on_tuned P (ByFrames t channel text) tuned kept heard listens holds = holds t channel text listens
on_tuned P l tuned kept heard listens holds = absurd listens

pub tuned_tells : {t : Tuning} {channel : CodeChannel} {text : TunedText}
    {tuned : Box TunedListener Global} {kept : List KeptTap} {before heard : List Sample}
    {old new : Option (List ℕ)} → TellsTuned t channel text tuned.value before heard old new →
    ListenerTells Listens (ByFrames t channel text) (by.Tuned tuned) kept before heard old new
unfolding told
tuned_tells tells = record {
  more = record { text = tells.text; written = tells.written; all = tells.all };
  listens = tells.listens;
}

pub tuned_part : {t : Tuning} {channel : CodeChannel} {text : TunedText} {before heard : List Sample}
    {old new : Option (List ℕ)} → TellsTunedPart t channel text before heard old new →
    GainsPrefix (ByFrames t channel text) before heard old new
unfolding told
tuned_part part = record { text = part.text; written = part.written; begins = part.begins }

-- ---- before any sample

-- what holds where nobody hears, and the text of what was found is all
pub on_fresh_unheard : (P : Listening → Type 0) (l : Listening) (findings : Findings)
    (kept : List KeptTap) → IsFreshListener l (by.Unheard findings) kept → P (Unheard (findings_text findings)) → P l
on_fresh_unheard P (Unheard text) findings kept fresh holds = subst (λ (xs : List ℕ). P (Unheard xs)) (sym fresh) holds
on_fresh_unheard P l findings kept fresh holds = absurd fresh

pub findings_begin : (findings : Findings) (kept : List KeptTap) (old new : Option (List ℕ)) →
    Appends old new (findings_text findings) →
    BeginsAfter Listens (Unheard (findings_text findings)) (by.Unheard findings) kept old new
unfolding told
findings_begin findings kept old new written = record { written = written; listens = tt }

pub findings_part : (findings : Findings) (samples : List Sample) (old new : Option (List ℕ)) →
    AppendsPrefix old new (findings_text findings) →
    AppendsPrefix old new (told (Unheard (findings_text findings)) samples)
unfolding told
findings_part findings samples old new part = part

-- and where a handset has taken nothing
pub on_fresh : (P : Listening → Type 0) (l : Listening) (mobile : Box Mobile Global)
    (kept : List KeptTap) → IsFreshListener l (by.Handset mobile) kept →
    ((t : Tuning) → StandsFor t mobile.value [] [] → P (ByTaps t kept)) → P l
on_fresh P (ByTaps t taps) mobile kept fresh holds =
    subst (λ (ks : List KeptTap). P (ByTaps t ks)) fresh.1 (holds t fresh.0)
on_fresh P l mobile kept fresh holds = absurd fresh

-- who hears the frames of one channel tells nothing
pub tuned_begins : (l : Listening) (tuned : Box TunedListener Global) (kept : List KeptTap)
    (old : Option (List ℕ)) → IsFreshListener l (by.Tuned tuned) kept → BeginsAfter Listens l (by.Tuned tuned) kept old old
unfolding told
tuned_begins (ByFrames t channel form) tuned kept old fresh = record {
  written =
      subst (Appends old old) (sym (text_of_nothing t fresh.close form channel)) (Appends-nil old);
  listens = fresh;
}
tuned_begins l tuned kept old fresh = absurd fresh

-- ---- how much room a listener has

pub room_some : (listener : Listener) (mobile : Box Mobile Global) (n : ℕ) →
    listener ≡ by.Handset mobile → HasRoom listener n → n ≤ has_room mobile.value
room_some listener mobile n is room = subst (λ (h : Listener). HasRoom h n) is room

pub room_tuned : (listener : Listener) (tuned : Box TunedListener Global) (n : ℕ) →
    listener ≡ by.Tuned tuned → HasRoom listener n → n ≤ tuned_room tuned.value
room_tuned listener tuned n is room = subst (λ (h : Listener). HasRoom h n) is room
