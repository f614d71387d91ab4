-- Steps of a handset: those that take no sample, and those that follow one another.
use Rattle.mobile_core.proofs.Common.{◌≡◌, ℕ, ◌+◌, List, ◌++◌, length, length-append, length-take, length-drop, take, drop, sym, ap, ◌∙◌}
use Rattle.mobile_core.proofs.Common.{subst, ◌≤◌, arith, Option, Some, None, IfSome, append_assoc, take-add, Sample, event_list, at_of, ◌^◌}
use Rattle.mobile_core.proofs.Common.{Steps, Tells, Event, Mobile, Tuning, heard_of, append-nil, StandsFor}
use Rattle.mobile_core.proofs.ChannelsFollowed.{followed_few}
use Rattle.mobile_core.proofs.PagesHeard.{take_none}

-- what a handset has heard is a small number
heard_few : (m : Mobile) → heard_of m ≤ 2 ^ 42
heard_few m =
    let clock = m.sound.hears.channel.clocked in
    let few = followed_few m.followed m.sound.follows in
    omega (arith, few, clock.next_have, clock.have_end, clock.end_most)

pub one_or_none : (event : Option Event) → length (event_list event) ≤ 1
one_or_none None = omega arith
one_or_none (Some event) = omega arith

pub ends_here : {place n : ℕ} (event : Option Event) → IfSome event (λ e. at_of e ≡ place) →
    place ≡ n → IfSome event (λ e. at_of e ≡ n)
ends_here None ends same = tt
ends_here (Some event) ends same = ends ∙ same

-- a step that takes no sample
steps_told : {one two : Mobile} (event : Option Event) → Tells one two event →
    (samples : List Sample) → Steps one two samples (record { taken = 0; event = event })
steps_told {two = two} event next samples = record {
  most = omega arith;
  room = omega (arith, next.room);
  fewer = omega (arith, next.more, heard_few two);
  ends = λ t heard given st. ends_here event (next.told t heard given st).0 (omega arith);
  stands = λ t heard given st.
      rw (take_none samples, append-nil heard) (next.told t heard given st).1;
}

-- A step that took samples and then one that took more, or gave an event, are one step: the numbers
-- of samples add up, and the second step goes on from what the first one leaves.
pub steps_joined : {one two three : Mobile} {samples : List Sample} {n : ℕ} (m k : ℕ)
    (event : Option Event) → n + m ≡ k →
    Steps one two samples (record { taken = n; event = None }) →
    Steps two three (drop n samples) (record { taken = m; event = event }) →
    Steps one three samples (record { taken = k; event = event })
steps_joined {one} {two} {three} {samples} {n} m k event sum before next =
    let was = before.fewer in
    let on : (t : Tuning) (heard : List Sample) (given : List Event) → StandsFor t one heard given →
    StandsFor t two (heard ++ take n samples) given =
    λ t heard given st.
    subst (StandsFor t two (heard ++ take n samples)) (append-nil given) (before.stands t heard given st) in
    rw (← sum) (record {
      most = omega (arith, before.most, next.most, length-drop n samples);
      room = omega (arith, before.room, next.room);
      fewer = omega (arith, was, next.fewer);
      ends = λ t heard given st.
          ends_here event (next.ends t (heard ++ take n samples) given (on t heard given st))
          (omega
          (arith, length-append heard (take n samples), length-take n samples, before.most));
      stands = λ t heard given st.
          let joined : (heard ++ take n samples) ++ take m (drop n samples)
          ≡ heard ++ take (n + m) samples =
          append_assoc heard (take n samples) (take m (drop n samples))
          ∙ ap (λ (xs : List Sample). heard ++ xs) (sym (take-add n m samples)) in
          subst (λ (xs : List Sample). StandsFor t three xs (given ++ event_list event)) joined
          (next.stands t (heard ++ take n samples) given (on t heard given st));
    })

-- samples were taken, or none, then an event may have been given
pub told_on : {one two three : Mobile} {samples : List Sample} {n : ℕ} (event : Option Event) →
    Steps one two samples (record { taken = n; event = None }) → Tells two three event →
    Steps one three samples (record { taken = n; event = event })
told_on {samples = samples} {n} event before next =
    steps_joined 0 n event (omega arith) before (steps_told event next (drop n samples))
