use Rattle.viterbi.proofs.Common.{◌≡◌, ◌+ℤ◌, ◌-ℤ◌, ◌∙◌, ℤ, List, true, false, length, get_or, pos, sym, ap, arith, number, nat_tests}
use Rattle.viterbi.proofs.Common.{int_lt, taken_of}
use Rattle.viterbi.proofs.Blocks.{kept, left_fits, right_fits, made_fit, made_at, made_is, zip_long, block_at, block_long, even_of, odd_of}
use Rattle.viterbi.proofs.Blocks.{passed}
use Rattle.viterbi.specs.contracts.lanes.selected_block.{FORCED-type}
use Rattle.viterbi.proofs.lanes.selected_block.Given.{Over}
use Rattle.viterbi.proofs.lanes.selected_block.Goals.{After-moved_lanes}
use Rattle.viterbi.proofs.lanes.selected_block.Goals as goal

pub moved_lanes-requires-clause-even : goal.moved_lanes-requires-clause-even
moved_lanes-requires-clause-even g c =
    let e : length c.args.a ≡ length c.args.gain = c.requires.a_long ∙ sym c.requires.gain_long in
    rw (
      kept c.args.a (left_fits (λ x y. x +ℤ y) _ _ e c.requires.even),
      kept c.args.gain (right_fits (λ x y. x +ℤ y) _ _ e c.requires.even),
    ) c.requires.even

pub moved_lanes-requires-clause-odd : goal.moved_lanes-requires-clause-odd
moved_lanes-requires-clause-odd g c =
    let e : length c.args.b ≡ length c.args.gain = c.requires.b_long ∙ sym c.requires.gain_long in
    rw (
      kept c.args.b (left_fits (λ x y. x -ℤ y) _ _ e c.requires.odd),
      kept c.args.gain (right_fits (λ x y. x -ℤ y) _ _ e c.requires.odd),
    ) c.requires.odd

-- the lanes that are compared
even_is : (g : Over) (c : After-moved_lanes g) → passed c.moved_lanes.result.0 ≡ even_of c.args.a c.args.gain
even_is g c =
    made_is (λ x y. x +ℤ y) _ _ _ c.requires.a_long c.requires.gain_long c.requires.even
    c.moved_lanes.ensures.even

odd_is : (g : Over) (c : After-moved_lanes g) → passed c.moved_lanes.result.1 ≡ odd_of c.args.b c.args.gain
odd_is g c =
    made_is (λ x y. x -ℤ y) _ _ _ c.requires.b_long c.requires.gain_long c.requires.odd
    c.moved_lanes.ensures.odd

pub selected_lanes-requires-clause-even_fit : goal.selected_lanes-requires-clause-even_fit
selected_lanes-requires-clause-even_fit g c =
    rw (even_is g (goal.at.selected_lanes-requires-clause-even_fit g c).After-moved_lanes)
    (made_fit (λ x y. x +ℤ y) c.args.a c.args.gain c.requires.even)

pub selected_lanes-requires-clause-odd_fit : goal.selected_lanes-requires-clause-odd_fit
selected_lanes-requires-clause-odd_fit g c =
    rw (odd_is g (goal.at.selected_lanes-requires-clause-odd_fit g c).After-moved_lanes)
    (made_fit (λ x y. x -ℤ y) c.args.b c.args.gain c.requires.odd)

pub selected_lanes-requires-clause-even_long : goal.selected_lanes-requires-clause-even_long
selected_lanes-requires-clause-even_long g c =
    ap length (even_is g (goal.at.selected_lanes-requires-clause-even_long g c).After-moved_lanes)
    ∙ zip_long (λ x y. x +ℤ y) c.args.a c.args.gain c.requires.a_long c.requires.gain_long

pub selected_lanes-requires-clause-odd_long : goal.selected_lanes-requires-clause-odd_long
selected_lanes-requires-clause-odd_long g c =
    ap length (odd_is g (goal.at.selected_lanes-requires-clause-odd_long g c).After-moved_lanes)
    ∙ zip_long (λ x y. x -ℤ y) c.args.b c.args.gain c.requires.b_long c.requires.gain_long

pub returns-then-this-ne0-clause-metrics : goal.returns-then-this-ne0-clause-metrics
returns-then-this-ne0-clause-metrics g c l b =
    let even = even_is g (goal.at.returns-then-this-ne0-clause-metrics g c).After-moved_lanes in
    let is : FORCED-type (number g.row.FORCED) ≡ true = grind (arith, nat_tests, c.if-this-ne0.true) in
    rw is
    (ap (λ (xs : List ℤ). get_or xs l (pos 0)) even
    ∙ made_at (λ x y. x +ℤ y) c.args.a c.args.gain l c.requires.a_long c.requires.gain_long b)

pub returns-else-this-ne0-clause-metrics : goal.returns-else-this-ne0-clause-metrics
returns-else-this-ne0-clause-metrics g c l b =
    let moved = (goal.at.returns-else-this-ne0-clause-metrics g c).After-moved_lanes in
    rw c.if-this-ne0.false
    (ap (λ (xs : List ℤ). get_or xs l (pos 0))
    (rw (even_is g moved, odd_is g moved) at c.selected_lanes.ensures.metrics)
    ∙ block_at (λ x y. taken_of (int_lt x y) x y) (pos 0) c.args.a c.args.b c.args.gain l
    c.requires.a_long c.requires.b_long c.requires.gain_long b)

pub returns-else-this-ne0-clause-choices : goal.returns-else-this-ne0-clause-choices
returns-else-this-ne0-clause-choices g c l b =
    let moved = (goal.at.returns-else-this-ne0-clause-choices g c).After-moved_lanes in
    rw c.if-this-ne0.false
    (rw (even_is g moved, odd_is g moved) at (c.selected_lanes.ensures.choices l b)
    ∙ block_at int_lt false c.args.a c.args.b c.args.gain l c.requires.a_long c.requires.b_long
    c.requires.gain_long b)

pub returns-then-this-ne0-clause-long : goal.returns-then-this-ne0-clause-long
returns-then-this-ne0-clause-long g c =
    ap length (even_is g (goal.at.returns-then-this-ne0-clause-long g c).After-moved_lanes)
    ∙ zip_long (λ x y. x +ℤ y) c.args.a c.args.gain c.requires.a_long c.requires.gain_long

pub returns-else-this-ne0-clause-long : goal.returns-else-this-ne0-clause-long
returns-else-this-ne0-clause-long g c =
    let moved = (goal.at.returns-else-this-ne0-clause-long g c).After-moved_lanes in
    ap length (rw (even_is g moved, odd_is g moved) at c.selected_lanes.ensures.metrics)
    ∙ block_long (λ x y. taken_of (int_lt x y) x y) c.args.a c.args.b c.args.gain
    c.requires.a_long c.requires.b_long c.requires.gain_long
