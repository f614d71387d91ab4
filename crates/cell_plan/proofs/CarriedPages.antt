-- The pages of a paging channel whose pages are messages: what they lay carries just their capsules.
use Rattle.cell_plan.proofs.Common.{◌≡◌, ℕ, ◌+◌, ◌≤◌, List, [], ◌∷◌, length, map, refl, sym, ap, subst, ◌∙◌, arith, Bool, All, All-cons}
use Rattle.cell_plan.proofs.Common.{All-nil, CheckForm, capsule, M30, length-capsule, whole-capsule, Rate, HasMessage, bits_left, Page}
use Rattle.cell_plan.proofs.Common.{half_frame_body, laid_is_carried, rate_large, PagingPlan, laid_after, page_cycle, put_of, AreSendable}
use Rattle.cell_plan.proofs.Common.{AreHeard, IsCarried, IsStatedPaging}
use Rattle.cell_plan.proofs.LaidPages.{length-on}
use Rattle.paging_message.specs.Laying as laying

-- By induction over the pages, they are lawful puts after what was laid: each fills a capsule and
-- follows only where eight bits are left, and the count after it is that of all bits laid.
pub puts_lawful : (size : ℕ) (form : CheckForm) (l : laying.Laid) (pages : List Page) (count : ℕ) →
    length l.body ≡ count → AreSendable size count pages → AreHeard size count pages →
    laying.AreLawful size l (map (put_of form) pages)
puts_lawful size form l [] count laid are heard = tt
puts_lawful size form l (page ∷ pages) count laid are heard =
    let c = capsule M30 form page.body in
    let long : length c ≡ 38 + length page.body = omega (arith, length-capsule M30 form page.body) in
    let next : length (laying.laid_on size l page.follows c).body
    ≡ laid_after size count page.follows (38 + length page.body) =
    length-on size l page.follows c
    ∙ ap (λ (n : ℕ). laid_after size n page.follows (length c)) laid
    ∙ ap (laid_after size count page.follows) long in (
      whole-capsule M30 form page.body are.0,
      λ follows. subst (λ (n : ℕ). 8 ≤ bits_left size n) (sym laid) (heard.1 follows),
      puts_lawful size form (laying.laid_on size l page.follows c) pages
          (laid_after size count page.follows (38 + length page.body)) next are.2 heard.2,
    )

capsules_of : (form : CheckForm) (pages : List Page) → map (λ (p : laying.Put). p.capsule) (map (put_of form) pages)
    ≡ map (λ (page : Page). capsule M30 form page.body) pages
capsules_of form [] = refl
capsules_of form (page ∷ pages) =
    ap (λ (cs : List (List Bool)). capsule M30 form page.body ∷ cs) (capsules_of form pages)

pub channel_carried : (rate : Rate) (form : CheckForm) (p : PagingPlan) → IsStatedPaging rate p → IsCarried rate form p
unfolding page_cycle
channel_carried rate form p is =
    laid_is_carried (half_frame_body rate) (map (put_of form) p.pages) (rate_large rate)
    (puts_lawful (half_frame_body rate) form laying.nothing_laid p.pages 0 refl is.pages is.heard)
    ∙ capsules_of form p.pages

pub heard_messages : (size count : ℕ) (pages : List Page) → AreHeard size count pages →
    All (λ (page : Page). HasMessage page.body) pages
heard_messages size count [] heard = All-nil (λ (page : Page). HasMessage page.body)
heard_messages size count (page ∷ pages) heard =
    All-cons (λ (page : Page). HasMessage page.body) page pages heard.0
    (heard_messages size (laid_after size count page.follows (38 + length page.body)) pages
    heard.2)
