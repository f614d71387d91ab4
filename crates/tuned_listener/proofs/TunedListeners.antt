-- A listener, and what it writes, where samples are taken.
use Rattle.tuned_listener.proofs.Common.{◌≡◌, ℕ, ◌+◌, List, [], ◌++◌, length, take, drop, refl, sym, ap, ◌∙◌, Option, None, Some, arith}
use Rattle.tuned_listener.proofs.Common.{append-nil, append_assoc, subst, ◌*◌, ◌<◌, ◌≤◌, sum_by, unsigned_abs, StartsWith, Appends-nil}
use Rattle.tuned_listener.proofs.Common.{take-append-drop, take_all, CheckForm, Sample, Near, IsLawful, mark, AreNear, soft_frames, Tuning}
use Rattle.tuned_listener.proofs.Common.{frame_most, IsTunedTo, sync_stream, CodeChannel, Paging, Traffic, Mark, Mobile, SoftFrame, Tuner}
use Rattle.tuned_listener.proofs.Common.{HoldsFrames, IsReady, WritesFrames, WritesFramesPart, tuned_text_of, nil_from_length, ListensAfter}
use Rattle.tuned_listener.proofs.Common.{ListensFrom, ListensTuned, TellsTuned, WaitsFor, TellsTunedPart, IsReadyForSlots, slot_after}
use Rattle.tuned_listener.proofs.Common.{after_mark, frames_from, text_from, tuned_text, CanOpen, CanOpenFor, IsMarkedAt, IsSoundHearer}
use Rattle.tuned_listener.proofs.Common.{IsSoundMark, IsUntold, OpensFor, WasTold, samples_taken, FrameWriter, SlotWriter, Hearer, After}
use Rattle.tuned_listener.proofs.Common.{Ahead, TunedListener, TunedText, none_marked}
use Rattle.tuned_listener.proofs.FrameTexts.{kept_after_none}
use Rattle.tuned_listener.proofs.TunedMarks.{mark_kept, there_eq, there_le}
use Rattle.tuned_listener.proofs.TunedTexts.{text_at_mark, text_marked, text_unmarked}
use Rattle.tuned_listener.specs.declared.frame_writer.FrameWriter.TheVariants as writers

-- ---- who listens

module _ (t : Tuning) (channel : CodeChannel) (heard : List Sample) (hearer : Hearer)
    (from : ListensFrom t channel hearer heard) where
  -- a handset ahead of the mark
  pub waits : (mobile : Mobile) (for_channel : CodeChannel) (phase : ℕ) (near : Near) →
      hearer ≡ Ahead mobile for_channel phase near → WaitsFor t channel mobile for_channel phase near heard
  waits mobile for_channel phase near is = subst (λ (h : Hearer). ListensFrom t channel h heard) is from

  -- or a receiver after it
  pub receives : (m : Mark) (tuner : Tuner) → hearer ≡ After m tuner → ListensAfter t channel m tuner heard
  receives m tuner is = subst (λ (h : Hearer). ListensFrom t channel h heard) is from

-- which is sound
pub ahead_sound : (mobile : Mobile) (channel : CodeChannel) (phase : ℕ) (near : Near) →
    IsUntold mobile → CanOpenFor channel near → IsSoundHearer (Ahead mobile channel phase near)
ahead_sound mobile channel phase near untold can = record {
  ahead = λ (mobile' : Mobile) (channel' : CodeChannel) (phase' : ℕ) (near' : Near)
      (is : Ahead mobile channel phase near ≡ Ahead mobile' channel' phase' near').
      let same : mobile ≡ mobile' = cc in
      let same_channel : channel ≡ channel' = cc in
      let same_near : near ≡ near' = cc in (
        subst IsUntold same untold,
        subst (λ (c : CodeChannel). CanOpenFor c near') same_channel
            (subst (CanOpenFor channel) same_near can),
      );
  after = λ (m : Mark) (tuner : Tuner) (is : Ahead mobile channel phase near ≡ After m tuner).
      absurd (cc);
}

pub after_sound : (m : Mark) (tuner : Tuner) → IsSoundMark m → IsSoundHearer (After m tuner)
after_sound m tuner sound = record {
  ahead = λ (mobile : Mobile) (channel : CodeChannel) (phase : ℕ) (near : Near)
      (is : After m tuner ≡ Ahead mobile channel phase near). absurd (cc);
  after = λ (m' : Mark) (tuner' : Tuner) (is : After m tuner ≡ After m' tuner').
      let same : m ≡ m' = cc in subst IsSoundMark same sound;
}

-- in whose place a receiver can be opened
pub can_open : (hearer : Hearer) (m : Mark) (mobile : Mobile) (channel : CodeChannel) (phase : ℕ)
    (near : Near) → hearer ≡ Ahead mobile channel phase near → CanOpen hearer m →
    (samples_taken mobile ≤ m.sample) × CanOpenFor channel near
can_open hearer m mobile channel phase near is opens = subst (λ (h : Hearer). CanOpen h m) is opens

-- who was told a mark
pub was_told : (t : Tuning) (channel : CodeChannel) (hearer : Hearer) (m : Mark) (heard : List Sample)
    (mobile : Mobile) (for_channel : CodeChannel) (phase : ℕ) (near : Near) →
    hearer ≡ Ahead mobile for_channel phase near → WasTold t channel hearer m heard →
    OpensFor t channel for_channel phase near × IsMarkedAt t mobile m heard
was_told t channel hearer m heard mobile for_channel phase near is told =
    subst (λ (h : Hearer). WasTold t channel h m heard) is told

-- ---- the frames after the mark

module _ (t : Tuning) (channel : CodeChannel) (heard : List Sample) where
  -- there are none before the mark
  pub frames_unmarked : mark t heard (length heard) ≡ None → after_mark t channel heard ≡ []
  frames_unmarked none = ap (frames_from t channel heard) none

  -- and after it those from there on
  pub frames_marked : (m : Mark) → mark t heard (length heard) ≡ Some m →
      after_mark t channel heard ≡ soft_frames t channel m heard
  frames_marked m is = ap (frames_from t channel heard) is

-- a writer keeps nothing before any sample is taken
pub holds_nothing : (t : Tuning) (channel : CodeChannel) (writer : FrameWriter) (check : CheckForm) →
    AreNear (sync_stream t).fingers → check ≡ t.check30 → HoldsFrames writer check [] →
    HoldsFrames writer t.check30 (slot_after [] (after_mark t channel []))
holds_nothing t channel writer check near same holds =
    subst (HoldsFrames writer t.check30)
    (sym (ap (slot_after []) (frames_unmarked t channel [] (none_marked t near))
    ∙ kept_after_none []))
    (subst (λ (c : CheckForm). HoldsFrames writer c []) same holds)

module _ (t : Tuning) (channel : CodeChannel) (form : TunedText) (l : TunedListener)
    (heard : List Sample) (is : ListensTuned t channel form l heard) where
  -- another takes its place, for the same text
  pub listens_on : (l' : TunedListener) (heard' : List Sample) → tuned_text_of l'.writer ≡ tuned_text_of l.writer →
      HoldsFrames l'.writer t.check30 (slot_after [] (after_mark t channel heard')) →
      ListensFrom t channel l'.hearer heard' → ListensTuned t channel form l' heard'
  listens_on l' heard' text holds from = record {
    form_is = text ∙ is.form_is;
    close = is.close;
    holds = holds;
    listens = from;
  }

  -- its writer keeps the same where no frame has ended since
  listens_silent : (l' : TunedListener) (heard' : List Sample) → l'.writer ≡ l.writer →
      after_mark t channel heard' ≡ after_mark t channel heard →
      ListensFrom t channel l'.hearer heard' → ListensTuned t channel form l' heard'
  listens_silent l' heard' writer silent =
      listens_on l' heard' (ap tuned_text_of writer)
      (subst (λ (w : FrameWriter). HoldsFrames w t.check30 (slot_after [] (after_mark t channel heard'))) (sym writer)
      (subst (λ (fs : List SoftFrame). HoldsFrames l.writer t.check30 (slot_after [] fs)) (sym silent)
      is.holds))

  -- a handset hears on ahead of the mark
  pub listens_ahead : (l' : TunedListener) (mobile : Mobile) (for_channel : CodeChannel) (phase : ℕ)
      (near : Near) (samples : List Sample) (taken : ℕ) → taken ≡ length samples →
      l'.writer ≡ l.writer → l'.hearer ≡ Ahead mobile for_channel phase near → mark t heard (length heard) ≡ None →
      WaitsFor t channel mobile for_channel phase near (heard ++ samples) →
      ListensTuned t channel form l' (heard ++ take taken samples)
  listens_ahead l' mobile for_channel phase near samples taken all writer ahead unmarked hears =
      let now = heard ++ samples in
      let joined : heard ++ take taken samples ≡ now =
      ap (λ (xs : List Sample). heard ++ xs) (take_all taken samples (omega (arith, all))) in
      let silent = frames_unmarked t channel now hears.ahead.unmarked
      ∙ sym (frames_unmarked t channel heard unmarked) in
      subst (ListensTuned t channel form l') (sym joined)
      (listens_silent l' now writer silent (subst (λ (h : Hearer). ListensFrom t channel h now) (sym ahead) hears))

  -- a receiver of frames takes the place of a handset where the mark is set
  pub listens_after : (l' : TunedListener) (m : Mark) (heard' : List Sample) →
      l'.writer ≡ l.writer → mark t heard (length heard) ≡ None →
      mark t heard' (length heard') ≡ Some m → soft_frames t channel m heard' ≡ [] →
      ListensFrom t channel l'.hearer heard' → ListensTuned t channel form l' heard'
  listens_after l' m heard' writer unmarked marked none =
      listens_silent l' heard' writer
      (frames_marked t channel heard' m marked ∙ none
      ∙ sym (frames_unmarked t channel heard unmarked))

-- no frame has ended at the mark
pub silent_at_mark : (t : Tuning) (channel : CodeChannel) (form : TunedText) (m : Mark)
    (heard heard' : List Sample) → mark t heard (length heard) ≡ None →
    mark t heard' (length heard') ≡ Some m → soft_frames t channel m heard' ≡ [] →
    tuned_text form t channel heard' ≡ tuned_text form t channel heard
silent_at_mark t channel form m heard heard' unmarked marked none =
    text_at_mark form t channel heard' m marked none
    ∙ sym (text_unmarked form t channel heard unmarked)

-- nor does one end ahead of it
pub silent_ahead : (t : Tuning) (channel : CodeChannel) (form : TunedText)
    (heard samples : List Sample) (taken : ℕ) → taken ≡ length samples → mark t heard (length heard) ≡ None →
    mark t (heard ++ samples) (length (heard ++ samples)) ≡ None →
    tuned_text form t channel (heard ++ take taken samples) ≡ tuned_text form t channel heard
silent_ahead t channel form heard samples taken all before following =
    ap (λ (xs : List Sample). tuned_text form t channel (heard ++ xs)) (take_all taken samples (omega (arith, all)))
    ∙ text_unmarked form t channel (heard ++ samples) following
    ∙ sym (text_unmarked form t channel heard before)

-- ---- what is there

pub lawful_channel : (channel : CodeChannel) → ∥ IsLawful channel ∥₁ → IsLawful channel
lawful_channel (Paging number) is = (there_le 1 number is (λ x. x.0), there_le number 7 is (λ x. x.1))
lawful_channel (Traffic traffic) is =
    let row = there_le (traffic.row + 1) 64 is (λ x. let low = x.0 in omega (arith, low)) in (
      omega (arith, row),
      there_le traffic.offset 15 is (λ x. x.1),
    )

there_small : (slots : SlotWriter) → ∥ IsReadyForSlots slots ∥₁ → (frame : ℕ) → frame < slots.kept →
    sum_by unsigned_abs (take 384 (drop (384 * frame) slots.softs)) ≤ frame_most
there_small slots is frame inside =
    there_le (sum_by unsigned_abs (take 384 (drop (384 * frame) slots.softs))) frame_most is (λ x. x.small frame inside)

ready_slots : (slots : SlotWriter) → ∥ IsReadyForSlots slots ∥₁ → IsReadyForSlots slots
ready_slots slots is = record {
  decodes = there_eq slots.decoder 576 is (λ x. x.decodes);
  few = there_le slots.kept 4 is (λ x. x.few);
  lawful = there_le slots.cycle 7 is (λ x. x.lawful);
  small = there_small slots is;
}

pub ready_writer : (writer : FrameWriter) → ∥ IsReady writer ∥₁ → IsReady writer
ready_writer (writers.RateSetTwo decoder) is = there_le 288 decoder is (λ x. x)
ready_writer (writers.Listed decoder k) is = (
  there_le 192 decoder is (λ x. x.0),
  (there_le 1 k is (λ x. x.1.0), there_le k 16 is (λ x. x.1.1)),
)
ready_writer (writers.Slots slots) is = ready_slots slots is

-- ---- after the mark

module _ (t : Tuning) (channel : CodeChannel) (form : TunedText) (l : TunedListener)
    (heard samples : List Sample) (old new : Option (List ℕ))
    (is : ListensTuned t channel form l heard) where
  module _ (m : Mark) (tuner : Tuner) (here : l.hearer ≡ After m tuner) where
    from : ListensAfter t channel m tuner heard
    from = receives t channel heard l.hearer is.listens m tuner here

    abbrev now : List Sample
    now = heard ++ samples

    marked_now : mark t now (length now) ≡ Some m
    marked_now = mark_kept t is.close heard samples m from.marked

    -- what the writer keeps, by the frames from the mark on
    pub keeps_after : HoldsFrames l.writer t.check30 (slot_after [] (soft_frames t channel m heard))
    keeps_after =
        subst (λ (fs : List SoftFrame). HoldsFrames l.writer t.check30 (slot_after [] fs))
        (frames_marked t channel heard m from.marked) is.holds

    -- the frames were written
    pub tells_frames_after : (l' : TunedListener) (tuner' : Tuner) →
        tuned_text_of l'.writer ≡ tuned_text_of l.writer → l'.hearer ≡ After m tuner' →
        ((t : Tuning) (channel : CodeChannel) (heard : List Sample) →
        IsTunedTo t channel m tuner heard →
        HoldsFrames l.writer t.check30 (slot_after [] (soft_frames t channel m heard)) →
        WritesFrames t channel m (tuned_text_of l.writer) tuner' l'.writer heard (heard ++ samples)
        old new) →
        TellsTuned t channel form l' heard (heard ++ samples) old new
    tells_frames_after l' tuner' text after writes =
        let wrote = subst (λ (f : TunedText). WritesFrames t channel m f tuner' l'.writer heard now
        old new) is.form_is (writes t channel heard from.tuned keeps_after) in
        let there : ListensFrom t channel (After m tuner') now = record { marked = marked_now; tuned = wrote.tuned } in
        record {
          text = wrote.text;
          written = wrote.written;
          all = ap (λ (bytes : List ℕ). bytes ++ wrote.text) (text_marked form t channel heard m from.marked)
              ∙ wrote.all
              ∙ sym (text_marked form t channel now m marked_now);
          listens =
              listens_on t channel form l heard is l' now text
              (subst (λ (fs : List SoftFrame). HoldsFrames l'.writer t.check30 (slot_after [] fs))
              (sym (frames_marked t channel now m marked_now)) wrote.holds)
              (subst (λ (h : Hearer). ListensFrom t channel h now) (sym after) there);
        }

    -- a write failed
    pub tells_cut : ((t : Tuning) (channel : CodeChannel) (heard : List Sample) →
        IsTunedTo t channel m tuner heard →
        HoldsFrames l.writer t.check30 (slot_after [] (soft_frames t channel m heard)) →
        WritesFramesPart t channel m (tuned_text_of l.writer) heard (heard ++ samples) old new) →
        TellsTunedPart t channel form heard (heard ++ samples) old new
    tells_cut writes =
        let wrote = subst (λ (f : TunedText). WritesFramesPart t channel m f heard now old new)
        is.form_is (writes t channel heard from.tuned keeps_after) in
        record {
          text = wrote.text;
          written = wrote.written;
          begins =
              subst (λ (all : List ℕ). StartsWith all (tuned_text form t channel heard ++ wrote.text))
              (sym (text_marked form t channel now m marked_now))
              (subst (λ (front : List ℕ). StartsWith (text_from form t channel m now) (front ++ wrote.text))
              (sym (text_marked form t channel heard m from.marked)) wrote.begins);
        }

-- a handset ahead of the mark has no sample left to hear
pub tells_nothing : (t : Tuning) (channel : CodeChannel) (form : TunedText) (l l' : TunedListener)
    (heard samples : List Sample) (old : Option (List ℕ)) → ListensTuned t channel form l heard →
    length samples ≡ 0 → l'.writer ≡ l.writer → l'.hearer ≡ l.hearer →
    TellsTuned t channel form l' heard (heard ++ samples) old old
tells_nothing t channel form l l' heard samples old is empty writer hearer =
    let now : heard ++ samples ≡ heard =
    ap (λ (xs : List Sample). heard ++ xs) (nil_from_length samples empty) ∙ append-nil heard in
    record {
      text = [];
      written = Appends-nil old;
      all = append-nil (tuned_text form t channel heard) ∙ ap (tuned_text form t channel) (sym now);
      listens = subst (ListensTuned t channel form l') (sym now)
          (listens_silent t channel form l heard is l' heard writer refl
          (subst (λ (h : Hearer). ListensFrom t channel h heard) (sym hearer) is.listens));
    }

-- ---- samples ahead of the mark, and those after it

module _ (t : Tuning) (channel : CodeChannel) (form : TunedText) (heard samples next : List Sample)
    (taken : ℕ) (old new : Option (List ℕ)) (left : next ≡ drop taken samples)
    (silent : tuned_text form t channel (heard ++ take taken samples)
    ≡ tuned_text form t channel heard) where
  joined : (heard ++ take taken samples) ++ next ≡ heard ++ samples
  joined =
      append_assoc heard (take taken samples) next
      ∙ ap (λ (xs : List Sample). heard ++ (take taken samples ++ xs)) left
      ∙ ap (λ (xs : List Sample). heard ++ xs) (take-append-drop taken samples)

  pub tells_after : (l : TunedListener) → TellsTuned t channel form l (heard ++ take taken samples)
      ((heard ++ take taken samples) ++ next) old new → TellsTuned t channel form l heard (heard ++ samples) old new
  tells_after l tells = record {
    text = tells.text;
    written = tells.written;
    all = ap (λ (bytes : List ℕ). bytes ++ tells.text) (sym silent)
        ∙ tells.all
        ∙ ap (tuned_text form t channel) joined;
    listens = subst (ListensTuned t channel form l) joined tells.listens;
  }

  pub cut_after : TellsTunedPart t channel form (heard ++ take taken samples)
      ((heard ++ take taken samples) ++ next) old new → TellsTunedPart t channel form heard (heard ++ samples) old new
  cut_after tells = record {
    text = tells.text;
    written = tells.written;
    begins =
        subst (λ (xs : List Sample). StartsWith (tuned_text form t channel xs)
        (tuned_text form t channel heard ++ tells.text)) joined
        (subst (λ (front : List ℕ). StartsWith (tuned_text form t channel ((heard ++ take taken samples) ++ next))
        (front ++ tells.text)) silent tells.begins);
  }
