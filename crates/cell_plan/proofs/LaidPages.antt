-- The half-frames that pages lay.
use Rattle.cell_plan.proofs.Common.{◌≡◌, ℕ, zero, suc, ◌+◌, ◌-◌, ◌*◌, ◌%◌, ◌<◌, ◌≤◌, Bool, true, false, List, [], ◌∷◌, ◌++◌, length, take}
use Rattle.cell_plan.proofs.Common.{drop, map, get_or, replicate, refl, sym, ap, ◌∙◌, arith, length-append, length-drop, subst, flat_map}
use Rattle.cell_plan.proofs.Common.{at_drop_more, length-replicate, length-take-le, map-append, take_all, mod-lt, take_more, mod-mul-add}
use Rattle.cell_plan.proofs.Common.{mod_self, places, CheckForm, capsule, M30, Rate, Page, length-capsule, half_frame_body}
use Rattle.cell_plan.proofs.Common.{flat_map-places-more, flat_map-zero, padded_framed, mod-eq_of_lt, rate_large}
use Rattle.paging_message.proofs.Layings.{framed_whole}
use Rattle.paging_message.proofs.Runs.{fills, length-padded, width}
use Rattle.paging_message.specs.Laying as laying
use Rattle.cell_plan.specs.Pages as specs

-- ---- one page more

laid_all-more : (size : ℕ) (l : laying.Laid) (puts : List laying.Put) (p : laying.Put) →
    laying.laid_all size l (puts ++ p ∷ []) ≡ laying.laid_on size (laying.laid_all size l puts) p.follows p.capsule
laid_all-more size l [] p = refl
laid_all-more size l (q ∷ puts) p = laid_all-more size (laying.laid_on size l q.follows q.capsule) puts p

pub no_page : Page
no_page = record { follows = false; body = [] }

pub laid_more : (size : ℕ) (form : CheckForm) (pages : List Page) (k : ℕ) → k < length pages →
    specs.laid_pages size form (take (k + 1) pages)
    ≡ laying.laid_on size (specs.laid_pages size form (take k pages))
    (get_or pages k no_page).follows (capsule M30 form (get_or pages k no_page).body)
laid_more size form pages k lt =
    let page = get_or pages k no_page in
    ap (specs.laid_pages size form) (take_more pages k no_page lt)
    ∙ ap (laying.laid_all size laying.nothing_laid) (map-append (specs.put_of form) (take k pages) (page ∷ []))
    ∙ laid_all-more size laying.nothing_laid (map (specs.put_of form) (take k pages)) (specs.put_of form page)

-- ---- how many bits

pub length-on : (size : ℕ) (l : laying.Laid) (follow : Bool) (c : List Bool) →
    length (laying.laid_on size l follow c).body ≡ specs.laid_after size (length l.body) follow (length c)
unfolding laying.laid_on
length-on size l true c = length-append l.body c
length-on size l false c =
    let zeros = replicate (laying.fill size (length l.body)) false in
    omega (
      arith,
      length-append (l.body ++ zeros) c,
      length-append l.body zeros,
      length-replicate (laying.fill size (length l.body)) false,
    )

-- By induction over h, the first h half-frames have one bit more than `size` each: the next one has
-- its SCI bit and `size` body bits, since the body is long enough for it.
whole_halves : (size : ℕ) (starts : List ℕ) (body : List Bool) (h : ℕ) → size * h ≤ length body →
    length (flat_map (laying.half_frame size starts body) (places h)) ≡ h + size * h
whole_halves size starts body zero within = ap length (flat_map-zero (laying.half_frame size starts body)) ∙ omega arith
whole_halves size starts body (suc h) within =
    let next : suc h ≡ h + 1 = omega arith in
    let more : size * suc h ≡ size * h + size = omega arith in
    let f = laying.half_frame size starts body in
    let here : length (take size (drop (size * h) body)) ≡ size =
    length-take-le size (drop (size * h) body) (omega (arith, within, more, length-drop (size * h) body)) in
    omega (
      arith,
      ap (λ (n : ℕ). length (flat_map f (places n))) next,
      ap length (flat_map-places-more f h),
      length-append (flat_map f (places h)) (f h),
      whole_halves size starts body h (omega (arith, within, more)),
      here,
      more,
    )

-- fewer zeros than a half-frame has
fill_few : (size count : ℕ) → 0 < size → laying.fill size count < size
unfolding laying.fill
fill_few size count large = mod-lt (size - count % size) large

half_frames_whole : (size : ℕ) (l : laying.Laid) → 0 < size → length (laying.half_frames_of size l)
    ≡ width size (length l.body) + size * width size (length l.body)
unfolding laying.half_frames_of
half_frames_whole size l large =
    let bits = laying.padded_to size l.body in
    let long = length-padded size l.body large in
    ap length (framed_whole size (width size (length l.body)) l.starts bits large long)
    ∙ whole_halves size l.starts bits (width size (length l.body)) (omega (arith, long))

-- The half-frames of a laid body have its n bits and an SCI bit each: they are whole ones but for
-- the zeros that would complete the last.
length-framed : (size : ℕ) (l : laying.Laid) → 0 < size →
    length (laying.framed size l) ≡ specs.half_frame_bits size (length l.body)
length-framed size l large =
    let zeros = replicate (laying.fill size (length l.body)) false in
    omega (
      arith,
      ap length (padded_framed size l large),
      length-append (laying.framed size l) zeros,
      length-replicate (laying.fill size (length l.body)) false,
      half_frames_whole size l large,
      fills size (length l.body) large,
    )

-- ---- while pages are laid

pub record IsLaying (size : ℕ) (form : CheckForm) (pages : List Page) (k : ℕ)
    (layout : laying.Place) (bits : List Bool) : Type 0 where
  pub same : layout.size ≡ size
  pub laid : laying.HasLaid layout (specs.laid_pages size form (take k pages)) bits
  pub left : specs.AreSendable size (length (specs.laid_pages size form (take k pages)).body) (drop k pages)
  pub some : k ≤ length (specs.laid_pages size form (take k pages)).body
  pub most : length bits ≤ 8192

pub laid_none : (size : ℕ) (form : CheckForm) (pages : List Page) (layout : laying.Place)
    (bits : List Bool) → layout.size ≡ size → laying.HasLaid layout laying.nothing_laid [] →
    bits ≡ [] → specs.AreSendable size 0 pages → IsLaying size form pages 0 layout bits
laid_none size form pages layout bits same laid none are = record {
  same = same;
  laid = subst (λ (b : List Bool). laying.HasLaid layout laying.nothing_laid b) (sym none) laid;
  left = are;
  some = omega arith;
  most = omega (arith, ap length none);
}

-- the next page, and those after it
pub here : (size count k : ℕ) (pages : List Page) → k < length pages → specs.AreSendable size count (drop k pages) →
    specs.AreSendable size count (get_or pages k no_page ∷ drop (k + 1) pages)
here size count k pages lt are =
    subst (specs.AreSendable size count) (at_drop_more (λ (ps : List Page). ps) pages k no_page lt) are

after_most : (size count : ℕ) (follows : Bool) (bits : ℕ) → count + bits ≤ specs.laid_after size count follows bits
after_most size count true bits = omega arith
after_most size count false bits = omega arith

-- One page more is laid as the definition lays it: its capsule comes after what was laid, the body
-- is then as long as the count of the plan's check says, and so that check covers the pages that
-- are left and the length of the cycle.
pub laid_next : (size : ℕ) (form : CheckForm) (pages : List Page) (k : ℕ)
    (layout next : laying.Place) (bits more : List Bool) → 0 < size → k < length pages →
    IsLaying size form pages k layout bits → next.size ≡ layout.size →
    ((l : laying.Laid) → laying.HasLaid layout l bits →
    laying.HasLaid next
    (laying.laid_on layout.size l (get_or pages k no_page).follows
    (capsule M30 form (get_or pages k no_page).body)) more) →
    IsLaying size form pages (k + 1) next more
laid_next size form pages k layout next bits more large lt is same put =
    let page = get_or pages k no_page in
    let before = specs.laid_pages size form (take k pages) in
    let after = specs.laid_pages size form (take (k + 1) pages) in
    let c = capsule M30 form page.body in
    let long : length c ≡ 38 + length page.body = omega (arith, length-capsule M30 form page.body) in
    let step : after ≡ laying.laid_on size before page.follows c = laid_more size form pages k lt in
    let laid : laying.HasLaid next after more =
    subst (λ (m : laying.Laid). laying.HasLaid next m more)
    (ap (λ (s : ℕ). laying.laid_on s before page.follows c) is.same ∙ sym step) (put before is.laid) in
    let sendable = here size (length before.body) k pages lt is.left in
    let count : length after.body
    ≡ specs.laid_after size (length before.body) page.follows (38 + length page.body) =
    ap (λ (m : laying.Laid). length m.body) step
    ∙ length-on size before page.follows c
    ∙ ap (specs.laid_after size (length before.body) page.follows) long in
    let size_is : next.size ≡ size = same ∙ is.same in
    let bits_are : length more ≡ specs.half_frame_bits size (length after.body) =
    ap length laid.spelled
    ∙ ap (λ (s : ℕ). length (laying.framed s after)) size_is ∙ length-framed size after large in
    record {
      same = size_is;
      laid = laid;
      left = subst (λ (n : ℕ). specs.AreSendable size n (drop (k + 1) pages)) (sym count)
          sendable.2;
      some = omega (
        arith,
        is.some,
        count,
        after_most size (length before.body) page.follows
            (38 + length page.body),
      );
      most = omega (arith, bits_are, ap (specs.half_frame_bits size) count, sendable.1);
    }

-- all pages
pub laid_all_pages : (size : ℕ) (form : CheckForm) (pages : List Page) (k : ℕ)
    (layout : laying.Place) (bits : List Bool) → length pages ≤ k → IsLaying size form pages k layout bits →
    bits ≡ laying.framed size (specs.laid_pages size form pages)
laid_all_pages size form pages k layout bits all is =
    is.laid.spelled
    ∙ ap (λ (s : ℕ). laying.framed s (specs.laid_pages size form (take k pages))) is.same
    ∙ ap (λ (ps : List Page). laying.framed size (specs.laid_pages size form ps)) (take_all k pages all)

pub some_laid : (size : ℕ) (form : CheckForm) (pages : List Page) (k : ℕ)
    (layout : laying.Place) (bits : List Bool) → 0 < size → IsLaying size form pages k layout bits → k ≤ length bits
some_laid size form pages k layout bits large is =
    let l = specs.laid_pages size form (take k pages) in
    omega (
      arith,
      is.some,
      ap length is.laid.spelled,
      ap (λ (s : ℕ). length (laying.framed s l)) is.same,
      length-framed size l large,
    )

-- ---- whole half-frames

-- the zeros up to whole half-frames are those that fill them, where they are fewer than one has
fill_by : (size count zeros h : ℕ) → zeros < size → count + zeros ≡ size * h → laying.fill size count ≡ zeros
unfolding laying.fill
fill_by size count zero h few all =
    let turned : count ≡ h * size + 0 = omega (arith, all) in
    let none : count % size ≡ 0 = ap (λ (n : ℕ). n % size) turned ∙ mod-mul-add h size 0 few in
    let full : size - count % size ≡ size = omega (arith, none) in
    ap (λ (n : ℕ). n % size) full ∙ mod_self size
fill_by size count (suc zeros) zero few all = absurd (omega (arith, all))
fill_by size count (suc zeros) (suc h) few all =
    let begun = size - suc zeros in
    let turned : count ≡ h * size + begun = omega (arith, all, few) in
    let rest : count % size ≡ begun = ap (λ (n : ℕ). n % size) turned ∙ mod-mul-add h size begun (omega (arith, few)) in
    let left : size - count % size ≡ suc zeros = omega (arith, rest, few) in
    ap (λ (n : ℕ). n % size) left ∙ mod-eq_of_lt few

pub size_large : (rate : Rate) → 0 < half_frame_body rate
size_large rate = omega (arith, rate_large rate)

-- Half-frames that are laid for all pages and completed with zeros are the channel's page cycle:
-- their length is that of the pages' bits with one SCI bit for each half-frame, so the zeros that
-- were added are those of the definition.
pub cycle_is : (rate : Rate) (form : CheckForm) (pages : List Page) (half : ℕ)
    (bits cycle : List Bool) → half ≡ half_frame_body rate + 1 → bits
    ≡ laying.framed (half_frame_body rate) (specs.laid_pages (half_frame_body rate) form pages) →
    cycle ≡ bits ++ replicate (laying.fill half (length bits)) false → cycle ≡ specs.page_cycle rate form pages
unfolding specs.page_cycle
cycle_is rate form pages half bits cycle half_is framed completed =
    let size = half_frame_body rate in
    let l = specs.laid_pages size form pages in
    let large = size_large rate in
    let filling = laying.fill size (length l.body) in
    let all : length bits + filling ≡ (size + 1) * width size (length l.body) =
    omega (arith, ap length framed, length-framed size l large, fills size (length l.body) large) in
    let zeros : laying.fill half (length bits) ≡ filling =
    ap (λ (w : ℕ). laying.fill w (length bits)) half_is
    ∙ fill_by (size + 1) (length bits) filling (width size (length l.body))
    (omega (arith, fill_few size (length l.body) large)) all in
    completed
    ∙ ap (λ (n : ℕ). bits ++ replicate n false) zeros
    ∙ ap (λ (b : List Bool). b ++ replicate filling false) framed
    ∙ sym (padded_framed size l large)
