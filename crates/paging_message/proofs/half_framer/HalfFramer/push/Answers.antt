use Rattle.paging_message.proofs.Common.{◌≡◌, ◌+◌, ◌-◌, ◌%◌, ◌++◌, ◌∷◌, [], length, sym, ap, ◌∙◌, arith, rules, Option, List, Bool, IsTrue}
use Rattle.paging_message.proofs.Common.{IsSome, ◌↔◌, completed, Framing, half_frame_capsule_ending, half_under_way, HalfFramesStandFor}
use Rattle.paging_message.proofs.Chains.{after}
use Rattle.paging_message.proofs.Cutting.{sci_opens, sci_ends, body_step, place_more, place_over, after_is}
use Rattle.paging_message.proofs.half_framer.HalfFramer.push.Goals.{then-left-eq0, else-left-eq0}
use Rattle.paging_message.proofs.half_framer.HalfFramer.push.Goals as goal

-- what the framer's own numbers say of the bits that it stands for
own_numbers : {f g : Framing} {bits : List Bool} → f ≡ g → HalfFramesStandFor g bits →
    (f.place ≡ length bits % (f.size + 1)) × (f.open_bits ≡ half_under_way f.size bits)
own_numbers same stood = rw same (stood.placed, stood.under_way)

pub returns-then-self-eq0-clause-stands : goal.returns-then-self-eq0-clause-stands
returns-then-self-eq0-clause-stands c bits stood =
    let size = c.self.inside.size in
    let own = own_numbers c.self.view_is stood in
    let placed = sym c.if-self-eq0.true ∙ own.0 in
    record {
      placed = place_more size 0 bits c.args.bit placed (omega (arith, c.self.invariant.1));
      under_way = c.from_mark-self-inside.ensures
          ∙ sci_opens size bits c.args.bit c.self.inside.capsule placed own.1;
    }

pub returns-then-self-eq0-clause-capsule : goal.returns-then-self-eq0-clause-capsule
returns-then-self-eq0-clause-capsule c bits stood =
    let own = own_numbers c.self.view_is stood in
    sci_ends c.self.inside.size bits c.args.bit (omega (arith, c.self.invariant.1)) (sym c.if-self-eq0.true ∙ own.0)
    ∙ ap (λ (f : Framing). half_frame_capsule_ending f.size (bits ++ c.args.bit ∷ [])) c.self.view_is

-- The framer stands for its bits and this one: the bit makes one step of the half-frame under way,
-- and the place is moved on by one, or set to 0 at the half-frame's end, as the number of bits
-- modulo size + 1 is.
pub returns-clause-stands : goal.returns-clause-stands
returns-clause-stands c bits stood =
    let size = c.self.inside.size in
    let place = c.self.inside.place in
    let left = size - place in
    let own = own_numbers c.self.view_is stood in
    let known = body_step size place left bits c.args.bit c.self.inside.capsule own.0
    (omega (arith, c.if-self-eq0.false)) (omega (arith, c.self.invariant.0)) own.1 in
    let ended : IsTrue c.is_some.result ↔ IsSome c.push-whole.result = search rules in
    let state : c.later-self-inside.result ≡ half_under_way size (bits ++ c.args.bit ∷ []) =
    c.later-self-inside.ensures
    ∙ after_is c.is_some.result left c.push-whole.result c.push-whole.new.self ended
    ∙ ap (λ (w : Option (List Bool)). after left w c.push-whole.new.self) c.push-whole.ensures.gives
    ∙ ap (after left (completed c.self.inside.capsule (c.args.bit ∷ [])))
    c.push-whole.ensures.goes_on ∙ known.1 in
    record {
      placed = elim c.if-left-eq0.branch [
        | then-left-eq0 w ↦ w.self-is
            ∙ place_over size place bits c.args.bit own.0 (omega (arith, w.if-left-eq0.true, c.self.invariant.0))
        | else-left-eq0 w ↦ w.self-is
            ∙ place_more size place bits c.args.bit own.0 (omega (arith, w.if-left-eq0.false, c.self.invariant.0))
      ];
      under_way = state;
    }

-- A bit that doesn't begin a half-frame gives the capsule that the definition says: the place and
-- the open capsule are those of the bits so far, and the capsule is complete where the definition
-- has it end.
pub returns-clause-capsule : goal.returns-clause-capsule
returns-clause-capsule c bits stood =
    let size = c.self.inside.size in
    let place = c.self.inside.place in
    let own = own_numbers c.self.view_is stood in
    let known = body_step size place (size - place) bits c.args.bit c.self.inside.capsule own.0
    (omega (arith, c.if-self-eq0.false)) (omega (arith, c.self.invariant.0)) own.1 in
    c.push-whole.ensures.gives ∙ known.0
    ∙ ap (λ (f : Framing). half_frame_capsule_ending f.size (bits ++ c.args.bit ∷ [])) c.self.view_is
