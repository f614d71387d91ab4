-- What the receiver of a paging channel stands for, step by step.
use Rattle.mobile_core.proofs.Common.{◌≡◌, ℕ, ◌+◌, ◌<◌, ◌≤◌, Bool, true, false, List, [], ◌∷◌, ◌++◌, length, take, refl, sym, ap, ◌∙◌, inl}
use Rattle.mobile_core.proofs.Common.{subst, arith, inr, Option, Some, slice_get, nat_lt, option_to_list, cases_lt, lt-ltb, le-ltb, Sample}
use Rattle.mobile_core.proofs.Common.{append_assoc, take_all, taken_more, Framing, half_frame_body, half_frame_capsule_ending, IsDueAt}
use Rattle.mobile_core.proofs.Common.{clock_after_frame, paging_bits_before, bits_up_to, page_at, page_in, pages_from, HearsBit, bit_passed}
use Rattle.mobile_core.proofs.Common.{HearsPaging, pages_left, paging_rate, paging_stream, Receives, frame_own_bits, Tuning, Continued}
use Rattle.mobile_core.proofs.Common.{Mark, PagingReceiver, SpelledPage, append-nil, HalfFramesStandFor, due_inside, due_known, before_next}
use Rattle.mobile_core.proofs.Common.{receives_heard, receives_more, IsOfChannel}
use Rattle.heard_events.proofs.PageGrowth.{bits_before_more, bits_before_none, bits_before_sooner, left_next, pages_after_last, pages_next}

pub take_none : {A : Type 0} (xs : List A) → take 0 xs ≡ []
take_none [] = refl
take_none (x ∷ xs) = refl

none_taken : (place : ℕ) (bits : List Bool) → place ≡ 0 → take place bits ≡ []
none_taken place bits none = ap (λ (n : ℕ). take n bits) none ∙ take_none bits

-- Before any frame is heard the receiver has heard its channel: no frame comes before its first
-- one, and its place in that one is 0, so no bits are taken, and its framer stands for none.
pub hears_none : (t : Tuning) (channel : ℕ) (m : Mark) (r : PagingReceiver)
    (heard : List Sample) → Receives t.count (paging_stream t channel m) r.received heard →
    r.received.clock.next ≡ r.received.clock.low →
    IsOfChannel channel m r.scrambling r.rate r.framer.size → r.place ≡ 0 →
    HalfFramesStandFor r.framer [] → HearsPaging t channel m r heard
hears_none t channel m r heard receives next tuned none framed =
    let s = paging_stream t channel m in
    let clock = r.received.clock in
    let own = frame_own_bits t.count heard s clock.next in
    let empty : paging_bits_before t.count heard s clock.next ≡ [] =
    bits_before_none t.count heard s clock.low clock.next receives.clocked.timed (omega (arith, next)) in
    record {
      receives = receives;
      tuned = tuned;
      under_way = λ some. absurd (omega (arith, some, none));
      framed = rw (empty, none_taken r.place own none) framed;
    }

module _ {t : Tuning} {channel : ℕ} {m : Mark} {r : PagingReceiver} {heard : List Sample}
    (st : HearsPaging t channel m r heard) where
  -- where no frame is due, none is under way
  pub idle : ¬ IsDueAt t.count r.received.clock → r.place ≡ 0
  idle none =
      elim (cases_lt 0 r.place) [
        | inl some ↦ absurd (none (st.under_way some).due)
        | inr least ↦ omega arith
      ]

  -- The receiver has heard more samples, up to the end of its next frame: no frame is due, so none
  -- is under way, and the bits of the frames before, which are known, stay the same.
  pub hears_more : (more : List Sample) → ¬ IsDueAt t.count r.received.clock → length heard + length more ≤ t.count →
      length heard + length more ≤ r.received.clock.end → HearsPaging t channel m r (heard ++ more)
  hears_more more none within most =
      let s = paging_stream t channel m in
      let next : ℕ = r.received.clock.next in
      let is = st.receives.clocked in
      let z = idle none in
      let own = frame_own_bits t.count heard s next in
      let later = frame_own_bits t.count (heard ++ more) s next in
      let same = bits_before_sooner s refl is.timed heard more next (before_next is) in
      record {
        receives = receives_more st.receives more none within most;
        tuned = st.tuned;
        under_way = λ some. absurd (none (st.under_way some).due);
        framed = rw (same, none_taken r.place later z)
            (rw (none_taken r.place own z) at st.framed);
      }

  -- one frame more has come
  pub hears_come : (received : Continued) → ¬ IsDueAt t.count r.received.clock →
      received.clock.next ≡ r.received.clock.next → Receives t.count (paging_stream t channel m) received heard →
      HearsPaging t channel m (record r { received = received }) heard
  hears_come received none next receives = record {
    receives = receives;
    tuned = st.tuned;
    under_way = λ some. absurd (none (st.under_way some).due);
    framed = rw next st.framed;
  }

  module _ (d : IsDueAt t.count r.received.clock) (framer : Framing) (frame : List Bool)
      (bit : Bool) (page : Option SpelledPage)
      (own_is : frame ≡ frame_own_bits t.count heard (paging_stream t channel m)
      r.received.clock.next)
      (read : slice_get frame r.place ≡ Some bit) (below : r.place < length frame)
      (size_is : framer.size ≡ r.framer.size)
      (framed : (bits : List Bool) → HalfFramesStandFor r.framer bits → HalfFramesStandFor framer (bits ++ bit ∷ []))
      (page_is : (bits : List Bool) → HalfFramesStandFor r.framer bits →
      page ≡ page_in t.check30 (half_frame_capsule_ending r.framer.size (bits ++ bit ∷ []))) where
    -- With the bit that is heard the paging channel's bits are those of the frames before and of
    -- this frame up to there, since it is the frame's own bit at this place.
    taken_bits : paging_bits_before t.count heard (paging_stream t channel m) r.received.clock.next
        ++ take r.place (frame_own_bits t.count heard (paging_stream t channel m) r.received.clock.next)
        ++ bit ∷ [] ≡ bits_up_to t.count heard (paging_stream t channel m) r.received.clock.next r.place
    unfolding bits_up_to
    taken_bits =
        let s = paging_stream t channel m in
        let own = frame_own_bits t.count heard s r.received.clock.next in
        let before = paging_bits_before t.count heard s r.received.clock.next in
        append_assoc before (take r.place own) (bit ∷ [])
        ∙ ap (λ (bits : List Bool). before ++ bits) (sym (taken_more own r.place bit (rw own_is at read)))

    stands_on : HalfFramesStandFor framer
        (bits_up_to t.count heard (paging_stream t channel m) r.received.clock.next r.place)
    stands_on = subst (HalfFramesStandFor framer) taken_bits (framed _ st.framed)

    page_here : page ≡ page_at t channel m heard r.received.clock.next r.place
    unfolding page_at
    page_here =
        let s = paging_stream t channel m in
        let next : ℕ = r.received.clock.next in
        let taken : List Bool = paging_bits_before t.count heard s next
        ++ take r.place (frame_own_bits t.count heard s next) in
        let size : ℕ = half_frame_body (paging_rate m.prat) in
        page_is taken st.framed
        ∙ ap (λ (n : ℕ). page_in t.check30 (half_frame_capsule_ending n (taken ++ bit ∷ [])))
        st.tuned.size_is
        ∙ ap (λ (bits : List Bool). page_in t.check30 (half_frame_capsule_ending size bits))
        taken_bits

    -- The message that the bit completes is the first of those left: its frame is the next one known,
    -- so its messages come first, and among them that of this bit before those of the bits after.
    left_here : (rest : List SpelledPage) → rest ≡ pages_from t channel m heard r.received.clock.next (r.place + 1)
        ++ pages_left t channel m heard (r.received.clock.next + 1) 0 → option_to_list page ++ rest
        ≡ pages_left t channel m heard r.received.clock.next r.place
    left_here rest rest_is =
        let is = st.receives.clocked in
        let next : ℕ = r.received.clock.next in
        let others = pages_left t channel m heard (next + 1) 0 in
        let first = pages_next t channel m heard next r.place (rw own_is at below) in
        let all = left_next t channel m r.received.clock.low is.timed heard next r.place
        (due_inside is d) (due_known is d) in
        rw (rest_is, page_here, all, first)
        (sym (append_assoc (option_to_list (page_at t channel m heard next r.place))
        (pages_from t channel m heard next (r.place + 1)) others))

    -- a bit that isn't its frame's last
    hears_inside : r.place + 1 < length frame → HearsBit t channel m heard r
        (record r { framer = framer; frame = frame; place = r.place + 1 }) page
    unfolding bits_up_to
    hears_inside more =
        let is = st.receives.clocked in
        let next : ℕ = r.received.clock.next in
        record {
          hears = record {
            receives = st.receives;
            tuned = rw size_is st.tuned;
            under_way = λ some. record { due = d; own = own_is };
            framed = stands_on;
          };
          left = left_here _
              (left_next t channel m r.received.clock.low is.timed heard next (r.place + 1)
              (due_inside is d) (due_known is d));
        }

    -- With its last bit the frame has been heard: all of its bits are taken, so they join those of
    -- the frames before, and it has no message left after the one that this bit may complete.
    hears_last : length frame ≤ r.place + 1 → HearsBit t channel m heard r
        (record r {
          received = record r.received { clock = clock_after_frame r.received.clock };
          framer = framer;
          frame = frame;
          place = 0;
        }) page
    unfolding bits_up_to
    hears_last last =
        let is = st.receives.clocked in
        let s = paging_stream t channel m in
        let next : ℕ = r.received.clock.next in
        let own = frame_own_bits t.count heard s next in
        let before = paging_bits_before t.count heard s next in
        let later = frame_own_bits t.count heard s (next + 1) in
        let whole : take (r.place + 1) own ≡ own = take_all (r.place + 1) own (rw own_is at last) in
        let more = bits_before_more t.count heard s next (due_inside is d) in
        let none = pages_after_last t channel m heard next (r.place + 1) (rw own_is at last) in
        let others = pages_left t channel m heard (next + 1) 0 in
        record {
          hears = record {
            receives = receives_heard st.receives d;
            tuned = rw size_is st.tuned;
            under_way = λ some. absurd (omega (arith, some));
            framed = rw (more, take_none later, append-nil (before ++ own)) (rw whole at stands_on);
          };
          left = left_here others
              (sym (ap (λ (ps : List SpelledPage). ps ++ others) none));
        }

    pub hears_bit : (after : PagingReceiver) →
        after ≡ bit_passed (record r { framer = framer; frame = frame }) → HearsBit t channel m heard r after page
    hears_bit after after_is =
        elim (cases_lt (r.place + 1) (length frame)) [
          | inl more ↦
              let e : nat_lt (r.place + 1) (length frame) ≡ true = lt-ltb (r.place + 1) (length frame) more in
              rw (after_is, e) (hears_inside more)
          | inr last ↦
              let e : nat_lt (r.place + 1) (length frame) ≡ false = le-ltb (r.place + 1) (length frame) last in
              rw (after_is, e) (hears_last last)
        ]
