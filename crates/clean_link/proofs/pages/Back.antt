-- On a clean link a handset hears the whole pages of a paging channel, in order, and nothing else.
use Rattle.clean_link.proofs.Common.{SignedPagesComeBack, HaveOwnNumbers, eq-eqb, get_or, length, ne_eqb, suc, zero, ◌≡◌, ◌≢◌, ℕ, ◌+◌, ◌-◌}
use Rattle.clean_link.proofs.Common.{◌*◌, ◌/◌, ◌<◌, ◌≤◌, ◌==◌, ⊎_elim, Bool, true, false, List, ◌∷◌, map, filter, replicate, refl, sym, ap}
use Rattle.clean_link.proofs.Common.{◌∙◌, arith, subst, Option, Some, All, Contains, flat_map, option_to_list, cases_Bool, eqb-true, places}
use Rattle.clean_link.proofs.Common.{eqb-false, false_from_ne_true, All-cons, All-contains, All-contains_itself, All-head, All-nil, capsule}
use Rattle.clean_link.proofs.Common.{All-tail, All-weaker, CheckForm, M30, Rate, half_frame_body, rate_large, cycle_frame_bits, cycle_of}
use Rattle.clean_link.proofs.Common.{sent_paging_rate, made_samples, IsStatedPaging, CellPlan, PagingPlan, page_in, frame_own_bits, IsTimed}
use Rattle.clean_link.proofs.Common.{is_in_file, known_at, Tuning, Mark, flat_map_ext_places, heard_after, IsOnPath, end_chip, known_page}
use Rattle.clean_link.proofs.Common.{KnownPage, message_in, page_told, pages_numbered, pages_of_channel, pages_sent, pages_within, ReadPage}
use Rattle.clean_link.proofs.Common.{PagesComeBack, placed_pages, round_sent, AreWholePages, capsules_with_frames, cycle_half_frames, ◌++◌}
use Rattle.clean_link.proofs.Common.{is_whole_page, Placed, sending_of, Sample, nat_le, if◌then◌else◌, mul-div-le, and_parts, leb-true, []}
use Rattle.clean_link.proofs.Common.{le-div, length-capsule, HasMessage, laid_after, AreHeard, Page, placed, None, paging_capsule, is_body}
use Rattle.clean_link.proofs.Common.{body_reading, paging_reading, PagingMessage, reads_body, reads_capsule, as_spelled_page, take, lt-ltb}
use Rattle.clean_link.proofs.Common.{range_with_len, append-nil, map-append, flat_map-map, flat_map-append, half_frame_capsule_ending}
use Rattle.clean_link.proofs.Common.{bits_up_to, page_at, pages_at, pages_if_marked, pages_from, paging_bound, paging_stream, known_now}
use Rattle.clean_link.proofs.Common.{flat_map_ext_filter_places, frame_capsules, IsCellMark, near-self, filter_all_places}
use Rattle.clean_frames.proofs.pages.Scans.{zero_frames_end_none}
use Rattle.clean_frames.proofs.pages.CyclesBack.{stated_pages, whole_pages_back}
use Rattle.clean_link.proofs.frames.ChannelFrames.{near_paging, paging_borne, paging_shown, shown_back, silent_paging_back}
use Rattle.clean_link.proofs.frames.Times.{paging_file_from, paging_file_to, paging_known_is, paging_timed}
use Rattle.clean_link.proofs.sendings.Order.{HasFrames, IsBound, frames_first, given_in_order}
use Rattle.heard_events.specs.PagingEvents.{paging_bits_before}
use Rattle.heard_events.specs.PagingStreams as streams

-- ---- lists of lists

pub map-flat_map : {A B C : Type 0} (h : B → C) (f : A → List B) (xs : List A) →
    map h (flat_map f xs) ≡ flat_map (λ x. map h (f x)) xs
map-flat_map h f [] = refl
map-flat_map {A} {B} {C} h f (x ∷ xs) =
    map-append h (f x) (flat_map f xs)
    ∙ ap (λ (l : List C). map h (f x) ++ l) (map-flat_map h f xs)

pub flat_map-flat_map : {A B C : Type 0} (g : B → List C) (f : A → List B) (xs : List A) →
    flat_map g (flat_map f xs) ≡ flat_map (λ x. flat_map g (f x)) xs
flat_map-flat_map g f [] = refl
flat_map-flat_map {A} {B} {C} g f (x ∷ xs) =
    flat_map-append g (f x) (flat_map f xs)
    ∙ ap (λ (l : List C). flat_map g (f x) ++ l) (flat_map-flat_map g f xs)

-- ---- the capsules of a frame, as they are read

-- what is told of a capsule whose frame is known at n: nothing where it has a fault
abbrev pub known_pages_of : CheckForm → ℕ → List Bool → List KnownPage
known_pages_of form n c = map (known_page n) (option_to_list (page_in form (Some c)))

-- a capsule that a bit may end
option_told : (form : CheckForm) (n : ℕ) (o : Option (List Bool)) →
    map (known_page n) (option_to_list (page_in form o)) ≡
    flat_map (known_pages_of form n) (option_to_list o)
option_told form n None = refl
option_told form n (Some c) = sym (append-nil (known_pages_of form n c))

-- the bits of a frame, one after another
frame_told : (form : CheckForm) (n : ℕ) (e : ℕ → Option (List Bool)) (size : ℕ) →
    map (known_page n) (flat_map (λ i. option_to_list (page_in form (e i))) (places size)) ≡
    flat_map (known_pages_of form n) (flat_map (λ i. option_to_list (e i)) (places size))
frame_told form n e size =
    map-flat_map (known_page n) (λ i. option_to_list (page_in form (e i))) (places size)
    ∙ flat_map_ext_places (λ i. map (known_page n) (option_to_list (page_in form (e i))))
    (λ i. flat_map (known_pages_of form n) (option_to_list (e i))) size (λ i below. option_told form n (e i))
    ∙ sym (flat_map-flat_map (known_pages_of form n) (λ i. option_to_list (e i)) (places size))

-- ---- the frames of a paging channel, whose bits are known

-- what is told of a capsule that a frame of this number ends
abbrev pub told_of : Tuning → ℕ → Mark → ℕ × List Bool → List KnownPage
told_of t channel m sent =
    known_pages_of t.check30 (known_at t.count (paging_stream t channel m) sent.0) sent.1

module _ (t : Tuning) (channel : ℕ) (m : Mark) (samples : List Sample) (own : ℕ → List Bool)
    (frames : ℕ) (has : HasFrames t.count (paging_stream t channel m) frames)
    (bits : (k : ℕ) → is_in_file t.count (paging_stream t channel m) k ≡ true →
    frame_own_bits t.count samples (paging_stream t channel m) k ≡ own k) where
  -- the bits of the frames before one of them
  before_is : (k : ℕ) → k < frames →
      paging_bits_before t.count samples (paging_stream t channel m) k ≡ flat_map own (places k)
  unfolding paging_bits_before
  before_is k below =
      let inside = is_in_file t.count (paging_stream t channel m) in
      flat_map_ext_filter_places inside
      (frame_own_bits t.count samples (paging_stream t channel m)) own k
      (λ j less there. bits j there)
      ∙ ap (flat_map own) (filter_all_places inside k (λ j less. has.inside j (omega arith)))

  -- the capsule that bit i of frame k ends
  abbrev ending : ℕ → ℕ → Option (List Bool)
  ending k i =
      half_frame_capsule_ending (half_frame_body (streams.paging_rate m.prat))
      (flat_map own (places k) ++ take (i + 1) (own k))

  -- what it completes, and what the bits of the frame do
  page_is : (k i : ℕ) → k < frames →
      page_at t channel m samples k i ≡ page_in t.check30 (ending k i)
  unfolding page_at bits_up_to
  page_is k i below =
      let s = paging_stream t channel m in
      let size = half_frame_body (streams.paging_rate m.prat) in
      ap (λ (before : List Bool). page_in t.check30
      (half_frame_capsule_ending size
      (before ++ take (i + 1) (frame_own_bits t.count samples s k)))) (before_is k below)
      ∙ ap (λ (b : List Bool). page_in t.check30
      (half_frame_capsule_ending size (flat_map own (places k) ++ take (i + 1) b)))
      (bits k (has.inside k below))

  frame_pages : (k : ℕ) → k < frames →
      pages_from t channel m samples k 0 ≡
      flat_map (λ i. option_to_list (page_in t.check30 (ending k i))) (places (length (own k)))
  unfolding pages_from places
  frame_pages k below =
      let given : ℕ → List ReadPage = λ i. option_to_list (page_at t channel m samples k i) in
      let all : length (own k) - 0 ≡ length (own k) = omega arith in
      ap (λ (b : List Bool). flat_map given (range_with_len 0 (length b - 0)))
      (bits k (has.inside k below))
      ∙ ap (λ (n : ℕ). flat_map given (range_with_len 0 n)) all
      ∙ flat_map_ext_places given (λ i. option_to_list (page_in t.check30 (ending k i)))
      (length (own k)) (λ i less. ap option_to_list (page_is k i below))

  -- what is told of one frame
  frame_gives : (n k : ℕ) → k < frames →
      map (known_page n) (pages_from t channel m samples k 0) ≡
      flat_map (known_pages_of t.check30 n) (frame_capsules (half_frame_body (streams.paging_rate m.prat)) own k)
  frame_gives n k below =
      ap (map (known_page n)) (frame_pages k below)
      ∙ frame_told t.check30 n (ending k) (length (own k))

  -- and of all of them
  frames_give :
      flat_map
      (λ k. map (known_page (known_at t.count (paging_stream t channel m) k))
      (pages_from t channel m samples k 0)) (places frames)
      ≡ flat_map (told_of t channel m)
      (capsules_with_frames (half_frame_body (streams.paging_rate m.prat)) own frames)
  frames_give =
      let known = known_at t.count (paging_stream t channel m) in
      let capsules : ℕ → List (List Bool) =
      frame_capsules (half_frame_body (streams.paging_rate m.prat)) own in
      let each : ℕ → List (ℕ × List Bool) = λ k. map (λ (c : List Bool). (k, c)) (capsules k) in
      flat_map_ext_places
      (λ k. map (known_page (known k)) (pages_from t channel m samples k 0))
      (λ k. flat_map (told_of t channel m) (each k)) frames
      (λ k below. frame_gives (known k) k below
      ∙ sym (flat_map-map (told_of t channel m) (λ (c : List Bool). (k, c)) (capsules k)))
      ∙ sym (flat_map-flat_map (told_of t channel m) each (places frames))

  -- the bound holds for the frames that end within n samples
  bound_enough : IsBound (paging_stream t channel m) paging_bound
  bound_enough n k ends = omega (arith, ends)

  -- the pages that the samples give one after another
  pages_are : (n : ℕ) →
      map (known_page n) (pages_at t channel m samples n) ≡
      flat_map (λ k. map (known_page n) (pages_from t channel m samples k 0))
      (known_now t.count (paging_stream t channel m) n (paging_bound n))
  unfolding pages_at
  pages_are n =
      map-flat_map (known_page n) (λ k. pages_from t channel m samples k 0)
      (known_now t.count (paging_stream t channel m) n (paging_bound n))

  -- All pages of a file are those of the capsules in its frames, each known with its frame.
  pub pages_by_capsules : {low : ℕ} → IsTimed t.count (paging_stream t channel m) low →
      m.prat < 2 →
      pages_within t channel (Some m) samples t.count ≡
      flat_map (told_of t channel m)
      (capsules_with_frames (half_frame_body (streams.paging_rate m.prat)) own frames)
  pages_by_capsules timed few =
      let s = paging_stream t channel m in
      let f : ℕ → ℕ → List KnownPage =
      λ n k. map (known_page n) (pages_from t channel m samples k 0) in
      flat_map_ext_places (λ n. map (known_page n) (pages_if_marked t channel (Some m) samples n))
      (λ n. flat_map (f n) (known_now t.count s n (paging_bound n))) (t.count + 1)
      (λ n below. (let heard = lt-ltb m.prat 2 few in rw heard refl) ∙ pages_are n)
      ∙ given_in_order s timed paging_bound bound_enough f
      ∙ ap (flat_map (λ k. f (known_at t.count s k) k))
      (frames_first s timed paging_bound bound_enough frames has)
      ∙ frames_give

-- what is given where a test holds
given_one : (b : Bool) (x y : PagingMessage) → (if b then Some x else None) ≡ Some y → x ≡ y
given_one true x y e = cc
given_one false x y e = absurd (cc)

-- a body's message is the one that stands at the places of its fields
message_read : (body : List Bool) (m : PagingMessage) → body_reading body ≡ Some m →
    message_in body ≡ m
unfolding body_reading
message_read body m e = given_one (is_body body) (message_in body) m e

-- and so its capsule is read
pub page_read : (form : CheckForm) (body : List Bool) → HasMessage body →
    page_in form (Some (capsule M30 form body)) ≡
    as_spelled_page (capsule M30 form body) (Some (message_in body))
unfolding paging_capsule
page_read form body has =
    let m = has.message in
    let c = capsule M30 form body in
    let same : message_in body ≡ m =
    message_read body m (ap body_reading has.same ∙ reads_body m has.spelled) in
    let spelled : c ≡ paging_capsule form m = ap (capsule M30 form) has.same in
    let read : paging_reading form c ≡ Some m =
    ap (paging_reading form) spelled ∙ reads_capsule form m has.spelled in
    ap (as_spelled_page c) (read ∙ ap Some (sym same))

-- ---- where a page lies

-- A page with a message, whose last bit isn't sent before its run begins.
pub record IsPlaced (p : Placed) : Type 0 where
  pub ordered : p.run ≤ p.last
  pub message : HasMessage p.page.body

-- a run begins with the first bit of its half-frame, or earlier
run_begun : (size from run : ℕ) (follows : Bool) → 0 < size → run * size ≤ from →
    (if follows then run
    else (if follows then from else (from + size - 1) / size * size) / size) * size
    ≤ (if follows then from else (from + size - 1) / size * size)
run_begun size from run true large begun = begun
run_begun size from run false large begun =
    let begins = (from + size - 1) / size * size in
    omega (arith, mul-div-le begins size)

-- the pages after `count` body bits of a cycle
pub pages_placed : (size : ℕ) (form : CheckForm) (from run count : ℕ) (pages : List Page) →
    0 < size → run * size ≤ from → AreHeard size count pages →
    All IsPlaced (placed size form from run pages)
pages_placed size form from run count [] large begun heard = All-nil IsPlaced
pages_placed size form from run count (page ∷ pages) large begun heard =
    let begins = if page.follows then from else (from + size - 1) / size * size in
    let began = if page.follows then run else begins / size in
    let ends = begins + length (capsule M30 form page.body) in
    let before : began * size ≤ begins = run_begun size from run page.follows large begun in
    let some : 1 ≤ length (capsule M30 form page.body) =
    omega (arith, length-capsule M30 form page.body) in
    All-cons IsPlaced (record { run = began; last = (ends - 1) / size; page = page })
    (placed size form ends began pages)
    (record {
      ordered = le-div began (ends - 1) size large (omega (arith, before, some));
      message = heard.0;
    })
    (pages_placed size form ends began
    (laid_after size count page.follows (38 + length page.body)) pages large
    (omega (arith, before)) heard.2)

-- ---- what is told of the whole ones

-- The last bit of one lies in the frame that ends where what is sent says, where frame `first`
-- begins at the mark.
pub ends_so : (plan : CellPlan) (sample first h : ℕ) (p : Placed) →
    plan.link.start + sample ≡ 24576 * first → p.run ≤ p.last →
    is_whole_page (24576 * first) (end_chip plan) h p ≡ true →
    sample + 24576 * ((h + p.last) / 2 - first + 1) ≡
    24576 * ((h + p.last) / 2 + 1) - plan.link.start
ends_so plan sample first h p marked ordered whole =
    let both =
    and_parts (nat_le (24576 * first) (12288 * (h + p.run)))
    (nat_le (24576 * ((h + p.last) / 2 + 1)) (end_chip plan)) whole in
    let begun = leb-true (24576 * first) (12288 * (h + p.run)) both.0 in
    omega (arith, begun, marked, ordered)

-- things that are sent where a test keeps them, of which each tells one thing
pub told_each : {A B C : Type 0} (P : A → Type 0) (tells : B → List C) (send : A → B)
    (tell : A → C) (kept : A → Bool) (xs : List A) → All P xs →
    ((x : A) → P x → kept x ≡ true → tells (send x) ≡ tell x ∷ []) →
    flat_map tells (map send (filter kept xs)) ≡ map tell (filter kept xs)
told_each P tells send tell kept [] all one = refl
told_each {A} {B} {C} P tells send tell kept (x ∷ xs) all one =
    let rest = told_each P tells send tell kept xs (All-tail P x xs all) one in
    let more = flat_map tells (map send (filter kept xs)) in
    ⊎_elim
    (λ (yes' : kept x ≡ true). rw yes'
    (ap (λ (l : List C). l ++ more) (one x (All-head P x xs all) yes')
    ∙ ap (λ (l : List C). tell x ∷ l) rest))
    (λ (no' : kept x ≡ false). rw no' rest)
    (cases_Bool (kept x))

-- ---- a handset with a mark

-- how many frames after the mark lie in the file
abbrev pub frames_after : CellPlan → ℕ → ℕ
frames_after plan superframes = end_chip plan / 24576 - 4 * superframes

module _ {plan : CellPlan} {t : Tuning} (channel : ℕ) {m : Mark} {superframes : ℕ} (tuned : IsOnPath plan t)
    (cell : IsCellMark plan m superframes) (low : m.prat < 2) where
  -- the mark is where a frame begins
  at_frame : plan.link.start + m.sample ≡ 24576 * (4 * superframes)
  at_frame = omega (arith, cell.marked.place)

  -- the handset takes the channels to have the cell's rate
  same_rate : streams.paging_rate m.prat ≡ sent_paging_rate plan.sync
  same_rate = ap streams.paging_rate cell.rate ∙ sym (ap sent_paging_rate cell.sends)

  -- which frames of the channel are in the file
  has_frames : HasFrames t.count (streams.paging_stream t channel m)
      (frames_after plan superframes)
  has_frames = record {
    inside = λ k below. paging_file_from t channel m tuned.alone k (omega (arith, below, at_frame, tuned.count));
    outside = λ k past.
        false_from_ne_true (is_in_file t.count (streams.paging_stream t channel m) k)
        (λ there.
        let room = paging_file_to t channel m tuned.alone k there in
        omega (arith, room, past, at_frame, tuned.count));
  }

  -- the pages are those of the capsules of the frames, whose bits are known
  by_capsules : (samples : List Sample) (own : ℕ → List Bool) →
      ((k : ℕ) → is_in_file t.count (streams.paging_stream t channel m) k ≡ true →
      frame_own_bits t.count samples (streams.paging_stream t channel m) k ≡ own k) →
      pages_within t channel (Some m) samples plan.link.samples ≡
      flat_map (told_of t channel m)
      (capsules_with_frames (half_frame_body (sent_paging_rate plan.sync)) own
      (frames_after plan superframes))
  by_capsules samples own bits =
      ap (pages_within t channel (Some m) samples) (sym tuned.count)
      ∙ pages_by_capsules t channel m samples own (frames_after plan superframes)
      has_frames bits (paging_timed t channel m tuned.alone) low
      ∙ ap (λ (rate : Rate). flat_map (told_of t channel m)
      (capsules_with_frames (half_frame_body rate) own (frames_after plan superframes))) same_rate

  -- the events for a whole page
  page_tells : (h : ℕ) (p : Placed) → IsPlaced p →
      is_whole_page (24576 * (4 * superframes)) (end_chip plan) h p ≡ true →
      told_of t channel m (sending_of plan.cell.check30 (4 * superframes) h p) ≡
      page_told plan h p ∷ []
  page_tells h p there whole =
      let k = (h + p.last) / 2 - 4 * superframes in
      let c = capsule M30 plan.cell.check30 p.page.body in
      let known : ℕ = known_at t.count (streams.paging_stream t channel m) k in
      let when : known ≡
      heard_after 24576 plan.link.samples (24576 * ((h + p.last) / 2 + 1) - plan.link.start) =
      paging_known_is t channel m tuned.alone k
      ∙ ap (λ (n : ℕ). heard_after 24576 n (m.sample + 24576 * (k + 1))) tuned.count
      ∙ ap (heard_after 24576 plan.link.samples)
      (ends_so plan m.sample (4 * superframes) h p at_frame there.ordered whole) in
      ap (λ (form : CheckForm). map (known_page known) (option_to_list (page_in form (Some c))))
      tuned.checks_of_30
      ∙ ap (λ (o : Option ReadPage). map (known_page known) (option_to_list o))
      (page_read plan.cell.check30 p.page.body there.message)
      ∙ ap (λ (n : ℕ).
      let tells : KnownPage = record {
        at = n;
        capsule = c;
        message = message_in p.page.body;
      } in
      tells ∷ []) when

  -- of a round of a channel
  round_tells : (p : PagingPlan) (r : ℕ) → AreWholePages (sent_paging_rate plan.sync) p.pages →
      flat_map (told_of t channel m)
      (map
      (sending_of plan.cell.check30 (4 * superframes)
      (cycle_half_frames (sent_paging_rate plan.sync) plan.cell.check30 p.pages * r))
      (filter
      (is_whole_page (24576 * (4 * superframes)) (end_chip plan)
      (cycle_half_frames (sent_paging_rate plan.sync) plan.cell.check30 p.pages * r))
      (placed_pages plan p)))
      ≡ round_sent plan p (24576 * (4 * superframes)) r
  round_tells p r whole =
      let form = plan.cell.check30 in
      let size = half_frame_body (sent_paging_rate plan.sync) in
      let large : 0 < size = omega (arith, rate_large (sent_paging_rate plan.sync)) in
      let h = cycle_half_frames (sent_paging_rate plan.sync) form p.pages * r in
      told_each IsPlaced (told_of t channel m) (sending_of form (4 * superframes) h)
      (page_told plan h) (is_whole_page (24576 * (4 * superframes)) (end_chip plan) h)
      (placed_pages plan p)
      (pages_placed size form 0 0 0 p.pages large (omega arith) whole.heard)
      (λ q there kept. page_tells h q there kept)

  -- and of all rounds
  channel_tells : (p : PagingPlan) → AreWholePages (sent_paging_rate plan.sync) p.pages →
      flat_map (told_of t channel m)
      (capsules_with_frames (half_frame_body (sent_paging_rate plan.sync))
      (λ k. cycle_frame_bits (cycle_of plan p) (4 * superframes + k))
      (frames_after plan superframes))
      ≡ pages_of_channel plan p (plan.link.start + m.sample)
  channel_tells p whole =
      let first = 4 * superframes in
      let rate = sent_paging_rate plan.sync in
      let form = plan.cell.check30 in
      let cycle = cycle_half_frames rate form p.pages in
      let rounds = end_chip plan / 12288 + 1 in
      let sendings : ℕ → List (ℕ × List Bool) = λ r. map (sending_of form first (cycle * r))
      (filter (is_whole_page (24576 * first) (end_chip plan) (cycle * r)) (placed_pages plan p)) in
      ap (flat_map (told_of t channel m)) (whole_pages_back rate form p.pages first (end_chip plan) whole)
      ∙ flat_map-flat_map (told_of t channel m) sendings (places rounds)
      ∙ flat_map_ext_places (λ r. flat_map (told_of t channel m) (sendings r))
      (round_sent plan p (24576 * first)) rounds (λ r below. round_tells p r whole)
      ∙ ap (pages_of_channel plan p) (sym at_frame)

-- ---- the channel with a number

-- a list that is what the channel with a number sends, or empty where there is none
found : (plan : CellPlan) (channel mark_chip : ℕ) (pages : List KnownPage)
    (paging : List PagingPlan) →
    All (λ (p : PagingPlan). p.number ≡ channel → pages ≡ pages_of_channel plan p mark_chip)
    paging →
    (All (λ (p : PagingPlan). p.number ≢ channel) paging → pages ≡ []) →
    pages ≡ pages_numbered plan paging channel mark_chip
found plan channel mark_chip pages [] each none =
    none (All-nil (λ (p : PagingPlan). p.number ≢ channel))
found plan channel mark_chip pages (p ∷ paging) each none =
    let Sent : PagingPlan → Type 0 =
    λ (q : PagingPlan). q.number ≡ channel → pages ≡ pages_of_channel plan q mark_chip in
    let Other : PagingPlan → Type 0 = λ (q : PagingPlan). q.number ≢ channel in
    ⊎_elim
    (λ (here : (p.number == channel) ≡ true).
    rw here (All-head Sent p paging each (eqb-true p.number channel here)))
    (λ (other : (p.number == channel) ≡ false).
    rw other
    (found plan channel mark_chip pages paging (All-tail Sent p paging each)
    (λ rest. none (All-cons Other p paging (eqb-false p.number channel other) rest))))
    (cases_Bool (p.number == channel))

-- ---- the law

-- where each frame from the mark on has the sent signs
pub signed_pages : SignedPagesComeBack
signed_pages width plan p t m superframes samples receivable has tuned cell low signs =
    let rate = sent_paging_rate plan.sync in
    by_capsules p.number tuned cell low samples
    (λ k. cycle_frame_bits (cycle_of plan p) (4 * superframes + k))
    (λ k there. shown_back (paging_shown plan p t m superframes samples tuned cell signs) k there)
    ∙ channel_tells p.number tuned cell low p
    (stated_pages rate p (All-contains (IsStatedPaging rate) plan.paging p receivable.pages has))

-- of a clean link, on whatever row
pub pages_back : PagesComeBack
unfolding pages_sent
pages_back width plan sync t channel m superframes receivable stated tuned first last free sends rate low
    marked =
    let cell : IsCellMark plan m superframes =
    record { marked = marked; sync = sync; sends = sends; rate = rate } in
    let samples = made_samples plan in
    let mark_chip = plan.link.start + m.sample in
    let pages = pages_within t channel (Some m) samples plan.link.samples in
    let size = half_frame_body (sent_paging_rate plan.sync) in
    let bits = (streams.paging_stream t channel m).channel.bits in
    found plan channel mark_chip pages plan.paging
    (All-weaker (Contains plan.paging)
    (λ (p : PagingPlan). p.number ≡ channel → pages ≡ pages_of_channel plan p mark_chip)
    (λ p has numbered.
    subst
    (λ (c : ℕ). pages_within t c (Some m) samples plan.link.samples ≡ pages_of_channel plan p mark_chip)
    numbered
    (signed_pages width plan p t m superframes samples receivable has tuned cell low
    (λ k. near_paging samples receivable has (near-self 0 samples) (paging_borne width plan p receivable has)
    (4 * superframes + k))))
    plan.paging (All-contains_itself plan.paging))
    (λ others.
    by_capsules channel tuned cell low samples (λ k. replicate bits false)
    (λ k there. silent_paging_back width plan t m superframes channel k receivable first last others free
    tuned marked there)
    ∙ ap (flat_map (told_of t channel m))
    (zero_frames_end_none size (λ k. replicate bits false) bits (frames_after plan superframes)
    (λ k below. refl)))

-- ---- the channel's pages by its number

-- The pages that a channel's number stands for are those of that channel, by induction over the
-- cell's paging channels: no two of them have the same number, so the first one with this number is
-- the channel itself.
numbered_alone : (plan : CellPlan) (q : PagingPlan) (chip i : ℕ) (paging : List PagingPlan) →
    HaveOwnNumbers paging → i < length paging → get_or paging i q ≡ q →
    pages_numbered plan paging q.number chip ≡ pages_of_channel plan q chip
numbered_alone plan q chip i [] apart below is = absurd (omega (arith, below))
numbered_alone plan q chip zero (p ∷ paging) apart below is =
    let here = eq-eqb p.number q.number (ap (λ (x : PagingPlan). x.number) is) in
    rw here (ap (λ (x : PagingPlan). pages_of_channel plan x chip) is)
numbered_alone plan q chip (suc i) (p ∷ paging) apart below is =
    let there : Contains paging q = (i, omega (arith, below), is) in
    let other : q.number ≢ p.number =
    All-contains (λ (x : PagingPlan). x.number ≢ p.number) paging q apart.0 there in
    let differ = ne_eqb p.number q.number (λ e. other (sym e)) in
    rw differ (numbered_alone plan q chip i paging apart.1 (omega (arith, below)) is)

pub sent_of_number : (plan : CellPlan) (q : PagingPlan) (chip : ℕ) → HaveOwnNumbers plan.paging →
    Contains plan.paging q → pages_sent plan q.number chip ≡ pages_of_channel plan q chip
unfolding pages_sent
sent_of_number plan q chip apart has =
    numbered_alone plan q chip has.0 plan.paging apart has.1 has.2
