use Rattle.paging_message.proofs.Common.{◌≡◌, ◌≤◌, ◌%◌, ◌++◌, ◌∷◌, [], length, ap, sym, ◌∙◌, arith, subst, List, Bool, Place, HasLaid}
use Rattle.paging_message.proofs.Common.{bit_on}
use Rattle.paging_message.proofs.Layings.{bit_first, bit_next}
use Rattle.paging_message.proofs.layout.Layout.append.Goals as goal

-- A bit at place 0 begins a half-frame and is sent after the half-frame's SCI bit: the half-frames
-- before are whole, so the two bits are all of this one, and the place after them is 2.
pub returns-then-self-eq0-clause-laid : goal.returns-then-self-eq0-clause-laid
returns-then-self-eq0-clause-laid c l laid whole =
    let size = c.self.inside.size in
    let large : 2 ≤ size = omega (arith, c.self.invariant.least) in
    let first : record { size = size; place = c.self.inside.place }
    ≡ record { size = size; place = 0 } =
    ap (λ k. let p : Place = record { size = size; place = k } in p) c.if-self-eq0.true in
    let own : HasLaid (record { size = size; place = 0 }) l c.args.out.now =
    subst (λ (p : Place). HasLaid p l c.args.out.now) (sym c.self.view_is ∙ first) laid in
    let done = bit_first size l c.args.out.now c.args.sci c.args.bit large own in
    let bits : (c.args.out.now ++ c.args.sci ∷ []) ++ c.args.bit ∷ []
    ≡ c.append-then-self-eq0.new.self =
    sym (c.append-then-self-eq0.ensures
    ∙ ap (λ (r : List Bool). r ++ c.args.bit ∷ []) c.append.ensures) in
    let width : size ≡ c.args.self.now.size = ap (λ (p : Place). p.size) c.self.view_is in
    subst (λ k. HasLaid (record { size = size; place = 2 })
    (bit_on k l c.args.sci c.args.bit) c.append-then-self-eq0.new.self) width
    (subst (HasLaid (record { size = size; place = 2 }) (bit_on size l c.args.sci c.args.bit)) bits done)

-- A bit at any other place goes on with the half-frame under way, whose SCI bit is sent already:
-- the half-frame's bits are those before and this one, and the place is the next, which is 0 after
-- the last.
pub returns-clause-laid : goal.returns-clause-laid
returns-clause-laid c l laid whole =
    let size = c.self.inside.size in
    let place = c.self.inside.place in
    let width : size ≡ c.args.self.now.size = ap (λ (p : Place). p.size) c.self.view_is in
    let own : HasLaid (record { size = size; place = place }) l c.args.out.now =
    subst (λ (p : Place). HasLaid p l c.args.out.now) (sym c.self.view_is) laid in
    let done = bit_next size place l c.args.out.now c.args.sci c.args.bit
    (omega (arith, c.self.invariant.least)) (omega (arith, c.if-self-eq0.false)) own
    (λ told. ap (λ k. length l.body % k) width ∙ whole told) in
    let moved = subst (λ k. HasLaid (record { size = size; place = k })
    (bit_on size l c.args.sci c.args.bit) (c.args.out.now ++ c.args.bit ∷ []))
    (sym c.next_place-self-inside.ensures) done in
    subst (λ k. HasLaid (record { size = size; place = c.next_place-self-inside.result })
    (bit_on k l c.args.sci c.args.bit) c.append-2.new.self) width
    (subst (HasLaid (record { size = size; place = c.next_place-self-inside.result })
    (bit_on size l c.args.sci c.args.bit)) (sym c.append-2.ensures) moved)
