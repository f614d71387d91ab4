-- A handset can tell the channels of a cell apart.
use Rattle.clean_signal.proofs.Common.{◌≡◌, ◌≢◌, ℕ, ◌%◌, ◌≤◌, All, List, [], ◌∷◌, ◌++◌, map, refl, sym, ap, subst, ◌∙◌, arith, ℤ, pos, Bool}
use Rattle.clean_signal.proofs.Common.{Option, Some, None, ◌+ℤ◌, ◌*ℤ◌, Contains, +ℤ_idr, ints, length-map, All-append, All-cons, All-head}
use Rattle.clean_signal.proofs.Common.{All-map, All-nil, All-tail, All-weaker, Contains-append_left, Contains-append_right, sign, Width}
use Rattle.clean_signal.proofs.Common.{Rate, sent_paging_rate, HaveOwnNumbers, HaveOwnTrafficRows, IsFreeOf, IsLawfulPlan, IsPagingPlan}
use Rattle.clean_signal.proofs.Common.{IsTrafficPlan, Carrier, carriers, level, paging_carrier, pilot_carrier, sync_carrier, sync_carriers}
use Rattle.clean_signal.proofs.Common.{traffic_carrier, CellPlan, PagingPlan, SyncPlan, TrafficPlan, pilot_amplitude, walsh-pilot}
use Rattle.clean_signal.proofs.Common.{CarriersAreApart, HaveOwnRows, IsAligned, get_or-map}
use Rattle.clean_signal.proofs.signal.Rows.{level_at-none}

-- ---- each of the channels

pilot_aligned : (plan : CellPlan) → IsAligned (pilot_carrier plan)
pilot_aligned plan =
    record { row = omega arith; first = refl; frame = refl; symbol = refl }

sync_aligned : (plan : CellPlan) (sync : SyncPlan) → IsAligned (sync_carrier plan sync)
sync_aligned plan sync =
    record { row = omega arith; first = omega arith; frame = refl; symbol = refl }

times_one : (z : ℤ) → z ≡ z *ℤ pos 1
times_one z = omega (arith, ints)

-- the pilot has one level from local chip 0 on
pilot_level : (plan : CellPlan) (chip : ℕ) → level chip (pilot_carrier plan) ≡ pos plan.pilot.gain
pilot_level plan chip =
    times_one (level chip (pilot_carrier plan))
    ∙ ap (λ (b : Bool). level chip (pilot_carrier plan) *ℤ sign b) (sym (walsh-pilot (chip % 64)))
    ∙ pilot_amplitude plan chip

-- the frames of a paging channel begin with the cell's chips, and its row is its number
paging_aligned : (plan : CellPlan) (p : PagingPlan) → p.number ≤ 7 →
    IsAligned (paging_carrier plan p)
paging_aligned plan p last =
    record { row = omega (arith, last); first = refl; frame = refl; symbol = refl }

-- the frames of a traffic channel begin where periods of the rows do
traffic_aligned : (plan : CellPlan) (t : TrafficPlan) → t.row ≤ 63 →
    IsAligned (traffic_carrier plan t)
traffic_aligned plan t last =
    record { row = omega (arith, last); first = omega arith; frame = refl; symbol = refl }

-- ---- lists of channels

-- channels after others, none of which has the row of one of those
own_rows-append : (cs ds : List Carrier) → HaveOwnRows cs → HaveOwnRows ds →
    All (λ (c : Carrier). All (λ (d : Carrier). d.row ≢ c.row) ds) cs → HaveOwnRows (cs ++ ds)
own_rows-append [] ds own others apart = others
own_rows-append (c ∷ cs) ds own others apart =
    let Rests : Carrier → Type 0 = λ (e : Carrier). All (λ (d : Carrier). d.row ≢ e.row) ds in
    let here : All (λ (d : Carrier). d.row ≢ c.row) (cs ++ ds) =
    All-append (λ (d : Carrier). d.row ≢ c.row) cs ds own.0 (All-head Rests c cs apart) in
    (here, own_rows-append cs ds own.1 others (All-tail Rests c cs apart))

-- a list's element is in the list of what is made of its elements
has_mapped : {A B : Type 0} (f : A → B) (xs : List A) (x : A) → Contains xs x →
    Contains (map f xs) (f x)
has_mapped f xs x has = (
  has.0,
  omega (arith, has.1, length-map xs f),
  get_or-map f xs has.0 x (f x) has.1 ∙ ap f has.2,
)

-- what is true of the sync channel of a cell is true of those that it has
sync_all : (P : Carrier → Type 0) (plan : CellPlan) (sync : Option SyncPlan) →
    ((s : SyncPlan) → P (sync_carrier plan s)) → All P (sync_carriers plan sync)
sync_all P plan None each = All-nil P
sync_all P plan (Some sync) each = All-cons P (sync_carrier plan sync) [] (each sync) (All-nil P)

sync_rows : (plan : CellPlan) (sync : Option SyncPlan) → HaveOwnRows (sync_carriers plan sync)
sync_rows plan None = tt
sync_rows plan (Some sync) = (All-nil (λ (d : Carrier). d.row ≢ 32), tt)

-- and what is true of each paging channel with a number from 1 to 7 is true of all of a plan's
paging_all : (P : Carrier → Type 0) (plan : CellPlan) (rate : Rate) (paging : List PagingPlan) →
    ((p : PagingPlan) → 1 ≤ p.number → p.number ≤ 7 → P (paging_carrier plan p)) →
    All (IsPagingPlan rate) paging → All P (map (paging_carrier plan) paging)
paging_all P plan rate paging each are =
    All-map P (paging_carrier plan) paging
    (All-weaker (IsPagingPlan rate) (λ (p : PagingPlan). P (paging_carrier plan p))
    (λ p is. each p is.first is.last) paging are)

-- and so for its traffic channels
traffic_all : (P : Carrier → Type 0) (plan : CellPlan) (traffic : List TrafficPlan) →
    ((t : TrafficPlan) → IsTrafficPlan t → P (traffic_carrier plan t)) →
    All IsTrafficPlan traffic → All P (map (traffic_carrier plan) traffic)
traffic_all P plan traffic each are =
    All-map P (traffic_carrier plan) traffic
    (All-weaker IsTrafficPlan (λ (t : TrafficPlan). P (traffic_carrier plan t)) each traffic are)

traffic_rows : (plan : CellPlan) (traffic : List TrafficPlan) → HaveOwnTrafficRows traffic →
    HaveOwnRows (map (traffic_carrier plan) traffic)
traffic_rows plan [] own = tt
traffic_rows plan (t ∷ traffic) own = (
  All-map (λ (d : Carrier). d.row ≢ t.row) (traffic_carrier plan) traffic own.0,
  traffic_rows plan traffic own.1,
)

-- no traffic channel has the row of one of these paging channels
traffic_free : (plan : CellPlan) (paging : List PagingPlan) (traffic : List TrafficPlan) →
    All (λ (p : PagingPlan). IsFreeOf traffic p.number) paging →
    All (λ (c : Carrier). All (λ (d : Carrier). d.row ≢ c.row) (map (traffic_carrier plan) traffic))
    (map (paging_carrier plan) paging)
traffic_free plan paging traffic free =
    let Rest : Carrier → Type 0 =
    λ (c : Carrier). All (λ (d : Carrier). d.row ≢ c.row) (map (traffic_carrier plan) traffic) in
    All-map Rest (paging_carrier plan) paging
    (All-weaker (λ (p : PagingPlan). IsFreeOf traffic p.number)
    (λ (p : PagingPlan). Rest (paging_carrier plan p))
    (λ p is. All-map (λ (d : Carrier). d.row ≢ p.number) (traffic_carrier plan) traffic is)
    paging free)

paging_rows : (plan : CellPlan) (paging : List PagingPlan) → HaveOwnNumbers paging →
    HaveOwnRows (map (paging_carrier plan) paging)
paging_rows plan [] own = tt
paging_rows plan (p ∷ paging) own = (
  All-map (λ (d : Carrier). d.row ≢ p.number) (paging_carrier plan) paging own.0,
  paging_rows plan paging own.1,
)

-- ---- the channels of a cell

-- the pilot and channels on other rows
with_pilot : (plan : CellPlan) (cs : List Carrier) → All IsAligned cs → HaveOwnRows cs →
    All (λ (c : Carrier). c.row ≢ 0) cs → CarriersAreApart plan.pilot.gain (pilot_carrier plan ∷ cs)
with_pilot plan cs aligned own others = record {
  aligned = All-cons IsAligned (pilot_carrier plan) cs (pilot_aligned plan) aligned;
  own_rows = (others, own);
  pilot = λ chip. ap (λ (l : ℤ). level chip (pilot_carrier plan) +ℤ l)
      (level_at-none 0 chip cs others)
      ∙ +ℤ_idr (level chip (pilot_carrier plan)) ∙ pilot_level plan chip;
}

-- the sync channel and the paging channels
abbrev continued : CellPlan → Option SyncPlan → List Carrier
continued plan sync = sync_carriers plan sync ++ map (paging_carrier plan) plan.paging

-- the others
abbrev others : CellPlan → Option SyncPlan → List Carrier
others plan sync = continued plan sync ++ map (traffic_carrier plan) plan.traffic

-- what is true of the sync channel and of each paging and traffic channel is true of all of them
others_all : (P : Carrier → Type 0) (width : Width) (plan : CellPlan) (sync : Option SyncPlan) →
    IsLawfulPlan width plan → ((s : SyncPlan) → P (sync_carrier plan s)) →
    ((p : PagingPlan) → 1 ≤ p.number → p.number ≤ 7 → P (paging_carrier plan p)) →
    ((t : TrafficPlan) → IsTrafficPlan t → P (traffic_carrier plan t)) →
    All P (others plan sync)
others_all P width plan sync lawful each paging traffic =
    All-append P (continued plan sync) (map (traffic_carrier plan) plan.traffic)
    (All-append P (sync_carriers plan sync) (map (paging_carrier plan) plan.paging)
    (sync_all P plan sync each)
    (paging_all P plan (sent_paging_rate plan.sync) plan.paging paging lawful.paging))
    (traffic_all P plan plan.traffic traffic lawful.traffic.are)

continued_rows : (width : Width) (plan : CellPlan) → IsLawfulPlan width plan →
    HaveOwnRows (continued plan plan.sync)
continued_rows width plan lawful =
    let paging = map (paging_carrier plan) plan.paging in
    own_rows-append (sync_carriers plan plan.sync) paging (sync_rows plan plan.sync)
    (paging_rows plan plan.paging lawful.apart)
    (sync_all (λ (c : Carrier). All (λ (d : Carrier). d.row ≢ c.row) paging) plan plan.sync
    (λ s. paging_all (λ (d : Carrier). d.row ≢ 32) plan (sent_paging_rate plan.sync) plan.paging
    (λ p first last e. omega (arith, last, e)) lawful.paging))

-- All channels besides the pilot have rows of their own: the sync channel and the paging channels
-- have, the traffic channels of a lawful plan have among themselves, and no traffic channel has row
-- 32 or the row of a paging channel.
others_rows : (width : Width) (plan : CellPlan) → IsLawfulPlan width plan →
    HaveOwnRows (others plan plan.sync)
others_rows width plan lawful =
    let traffic = map (traffic_carrier plan) plan.traffic in
    let Rest : Carrier → Type 0 = λ (c : Carrier). All (λ (d : Carrier). d.row ≢ c.row) traffic in
    own_rows-append (continued plan plan.sync) traffic (continued_rows width plan lawful)
    (traffic_rows plan plan.traffic lawful.traffic.apart)
    (All-append Rest (sync_carriers plan plan.sync) (map (paging_carrier plan) plan.paging)
    (sync_all Rest plan plan.sync
    (λ s. traffic_all (λ (d : Carrier). d.row ≢ 32) plan plan.traffic (λ t is. is.other)
    lawful.traffic.are))
    (traffic_free plan plan.paging plan.traffic lawful.traffic.free))

pub plan_apart : (width : Width) (plan : CellPlan) → IsLawfulPlan width plan →
    CarriersAreApart plan.pilot.gain (carriers plan)
unfolding carriers
plan_apart width plan lawful =
    with_pilot plan (others plan plan.sync)
    (others_all IsAligned width plan plan.sync lawful (sync_aligned plan)
    (λ p first last. paging_aligned plan p last) (λ t is. traffic_aligned plan t is.last))
    (others_rows width plan lawful)
    (others_all (λ (c : Carrier). c.row ≢ 0) width plan plan.sync lawful
    (λ s e. omega (arith, e)) (λ p first last e. omega (arith, first, e))
    (λ t is e. omega (arith, is.first, e)))

-- ---- which of them are sent

pub sync_sent : (plan : CellPlan) (sync : SyncPlan) → plan.sync ≡ Some sync →
    Contains (carriers plan) (sync_carrier plan sync)
unfolding carriers
sync_sent plan sync is =
    subst
    (λ (s : Option SyncPlan). Contains (pilot_carrier plan ∷ others plan s)
    (sync_carrier plan sync)) (sym is) (1, omega arith, refl)

-- a paging channel of a plan is sent
pub paging_sent : (plan : CellPlan) (p : PagingPlan) → Contains plan.paging p →
    Contains (carriers plan) (paging_carrier plan p)
unfolding carriers
paging_sent plan p has =
    let first = pilot_carrier plan ∷ sync_carriers plan plan.sync in
    let paging = map (paging_carrier plan) plan.paging in
    Contains-append_left (first ++ paging) (map (traffic_carrier plan) plan.traffic)
    (paging_carrier plan p)
    (Contains-append_right first paging (paging_carrier plan p)
    (has_mapped (paging_carrier plan) plan.paging p has))

-- and so is a traffic channel
pub traffic_sent : (plan : CellPlan) (p : TrafficPlan) → Contains plan.traffic p →
    Contains (carriers plan) (traffic_carrier plan p)
unfolding carriers
traffic_sent plan p has =
    Contains-append_right
    (pilot_carrier plan ∷ continued plan plan.sync) (map (traffic_carrier plan) plan.traffic)
    (traffic_carrier plan p) (has_mapped (traffic_carrier plan) plan.traffic p has)

-- A cell without a sync channel sends nothing on row 32: the pilot has row 0, a paging channel its
-- number as its row, which is 7 at most, and no traffic channel of a lawful plan has row 32.
without_sync : (width : Width) (plan : CellPlan) → IsLawfulPlan width plan →
    All (λ (c : Carrier). c.row ≢ 32) (pilot_carrier plan ∷ others plan None)
without_sync width plan lawful =
    let Other : Carrier → Type 0 = λ (c : Carrier). c.row ≢ 32 in
    let paging = map (paging_carrier plan) plan.paging in
    let traffic = map (traffic_carrier plan) plan.traffic in
    All-cons Other (pilot_carrier plan) (paging ++ traffic) (λ e. omega (arith, e))
    (All-append Other paging traffic
    (paging_all Other plan (sent_paging_rate plan.sync) plan.paging
    (λ p first last e. omega (arith, last, e)) lawful.paging)
    (traffic_all Other plan plan.traffic (λ t is. is.other) lawful.traffic.are))

pub sync_silent : (width : Width) (plan : CellPlan) → IsLawfulPlan width plan →
    plan.sync ≡ None → All (λ (c : Carrier). c.row ≢ 32) (carriers plan)
unfolding carriers
sync_silent width plan lawful none =
    subst
    (λ (s : Option SyncPlan). All (λ (c : Carrier). c.row ≢ 32)
    (pilot_carrier plan ∷ others plan s)) (sym none) (without_sync width plan lawful)

-- the number of a paging channel that a plan doesn't have is no channel's row, where it isn't a
-- traffic channel's
pub paging_silent : (plan : CellPlan) (channel : ℕ) → 1 ≤ channel → channel ≤ 7 →
    All (λ (p : PagingPlan). p.number ≢ channel) plan.paging → IsFreeOf plan.traffic channel →
    All (λ (c : Carrier). c.row ≢ channel) (carriers plan)
unfolding carriers
paging_silent plan channel first last none free =
    let Other : Carrier → Type 0 = λ (c : Carrier). c.row ≢ channel in
    All-cons Other (pilot_carrier plan) (others plan plan.sync) (λ e. omega (arith, first, e))
    (All-append Other (continued plan plan.sync) (map (traffic_carrier plan) plan.traffic)
    (All-append Other (sync_carriers plan plan.sync) (map (paging_carrier plan) plan.paging)
    (sync_all Other plan plan.sync (λ s e. omega (arith, last, e)))
    (All-map Other (paging_carrier plan) plan.paging none))
    (All-map Other (traffic_carrier plan) plan.traffic free))
