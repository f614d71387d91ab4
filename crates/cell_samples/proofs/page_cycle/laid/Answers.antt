use Rattle.cell_samples.proofs.Common.{◌≡◌, length, ap, arith, get_or, ◌∙◌, M30, length-capsule, half_frame_body, any_default}
use Rattle.cell_plan.proofs.LaidPages as pages
use Rattle.cell_samples.proofs.page_cycle.laid.Goals as goal

pub loop-page-init : goal.loop-page-init
loop-page-init c =
    pages.laid_none (half_frame_body c.args.rate) c.args.form c.args.pages.now c.new-layout.result
    c.empty-bits.result c.new-layout.ensures.size c.new-layout.ensures.laid c.empty-bits.ensures
    c.requires.pages

pub capsule_of-capsule-requires : goal.capsule_of-capsule-requires
capsule_of-capsule-requires c =
    let k = c.loop-page.page-index in
    let item : c.page-item.result ≡ get_or c.args.pages.now k pages.no_page =
    c.page-item.is
    ∙ any_default c.args.pages.now k c.page-item.result pages.no_page c.loop-page-test.true in
    rw item
    (pages.here (half_frame_body c.args.rate) _ k c.args.pages.now c.loop-page-test.true
    c.loop-page.invariant.left).0

pub put-requires-clause-some : goal.put-requires-clause-some
put-requires-clause-some c =
    omega (arith, ap length c.capsule_of-capsule.ensures, length-capsule M30 c.args.form c.page-item.result.body)

pub put-requires-clause-room : goal.put-requires-clause-room
put-requires-clause-room c = omega (arith, c.loop-page.invariant.most)

pub loop-page-preserved : goal.loop-page-preserved
loop-page-preserved c =
    let k = c.loop-page.page-index in
    let item : c.page-item.result ≡ get_or c.args.pages.now k pages.no_page =
    c.page-item.is
    ∙ any_default c.args.pages.now k c.page-item.result pages.no_page c.loop-page-test.true in
    pages.laid_next (half_frame_body c.args.rate) c.args.form c.args.pages.now
    c.loop-page.page-index c.loop-page.layout c.put.new.self c.loop-page.bits c.put.new.out
    (pages.size_large c.args.rate) c.loop-page-test.true c.loop-page.invariant
    c.put.ensures.size (rw (c.capsule_of-capsule.ensures, item) at c.put.ensures.laid)

pub returns-clause-value : goal.returns-clause-value
returns-clause-value c =
    pages.laid_all_pages (half_frame_body c.args.rate) c.args.form c.args.pages.now
    c.loop-page.page-index c.loop-page.layout c.loop-page.bits
    (omega (arith, c.loop-page-test.false)) c.loop-page.invariant

pub returns-clause-some : goal.returns-clause-some
returns-clause-some c =
    omega (
      arith,
      c.loop-page-test.false,
      pages.some_laid (half_frame_body c.args.rate) c.args.form c.args.pages.now
          c.loop-page.page-index c.loop-page.layout c.loop-page.bits
          (pages.size_large c.args.rate) c.loop-page.invariant,
    )

pub returns-clause-most : goal.returns-clause-most
returns-clause-most c = c.loop-page.invariant.most
