-- Rows and gains of the channels of a script: there are at most seven paging channels of different
-- numbers, and 62 traffic channels of different rows.
use Rattle.cell_script.proofs.Common.{HaveOwnTrafficRows, AreLawfulBeside, IsStatedTraffic, HaveOwnNumbers, first_channels, repeated_after}
use Rattle.cell_script.proofs.Common.{IsStatedPaging, IsTrafficPlan, traffic_lines, IsPagingPlan, paging_lines, TrafficPlan, ChannelLine, ℕ}
use Rattle.cell_script.proofs.Common.{length-map, All-weaker, PagingPlan, eqb-false, All-cons, All-head, All-tail, IsFreeOf, repeated, Bool}
use Rattle.cell_script.proofs.Common.{or_parts, All-map, All-nil, channel, is_used, length, silent, nat_eq, ne_eqb, false, arith, true, ◌≡◌}
use Rattle.cell_script.proofs.Common.{cond, List, ◌++◌, refl, None, Some, ◌==◌, Rate, ◌≢◌, suc, ◌<◌, ◌≤◌, ◌∷◌, sym, All, map, ◌∙◌, []}
use Rattle.std.specs.List.{IsDistinct}
use Rattle.std.proofs.lemmas.Bool.Decides.{Decides-eqb}
use Rattle.std.proofs.lemmas.List.Elements.{All-contains, recursion_from_All}
use Rattle.std.proofs.lemmas.Map.Made.{is_member-Decides}
use Rattle.std.proofs.lemmas.Map.Steps.{length-le_from_distinct_below}
use Rattle.cell_script.proofs.ScriptRows.{used-append}

-- ---- gains

abbrev HaveGains : List ChannelLine → Type 0
HaveGains ls = All (λ (l : ChannelLine). 0 < l.gain) ls

gains_step : (l : ChannelLine) (ls : List ChannelLine) (none : Bool) → (l.gain == 0) ≡ none →
    cond none (Some l.row) (silent ls) ≡ None → (silent ls ≡ None → HaveGains ls) → HaveGains (l ∷ ls)
gains_step l ls true e quiet rest = absurd (cc quiet)
gains_step l ls false e quiet rest =
    let other : ¬ (l.gain ≡ 0) = eqb-false l.gain 0 e in
    All-cons (λ (x : ChannelLine). 0 < x.gain) l ls (omega (arith, other)) (rest quiet)

-- no gain is 0
some_gain : (ls : List ChannelLine) → silent ls ≡ None → HaveGains ls
some_gain [] quiet = All-nil (λ (x : ChannelLine). 0 < x.gain)
some_gain (l ∷ ls) quiet = gains_step l ls (l.gain == 0) refl quiet (some_gain ls)

-- ---- no row is used twice

-- a row that isn't used is that of none of the lines
unused-cons : (k : ℕ) (l : ChannelLine) (ls : List ChannelLine) → is_used k (l ∷ ls) ≡ false →
    (l.row ≢ k) × (is_used k ls ≡ false)
unused-cons k l ls e = step (l.row == k) refl e
  where
    step : (same : Bool) → (l.row == k) ≡ same → cond same true (is_used k ls) ≡ false →
        (l.row ≢ k) × (is_used k ls ≡ false)
    step true is none = absurd (cc none)
    step false is none = (eqb-false l.row k is, none)

used-front : (k : ℕ) (before : List ChannelLine) (l : ChannelLine) →
    is_used k (before ++ l ∷ []) ≡ false → (is_used k before ≡ false) × (l.row ≢ k)
used-front k before l e =
    let parts = or_parts (is_used k before) (l.row == k) (sym (used-append k before l) ∙ e) in
    (parts.0, eqb-false l.row k parts.1)

-- no two lines have one row
abbrev HaveOwnRows : List ChannelLine → Type 0
HaveOwnRows [] = Unit {0}
HaveOwnRows (l ∷ ls) = All (λ (q : ChannelLine). q.row ≢ l.row) ls × HaveOwnRows ls

-- none of the lines has the row of one before it
abbrev AreUnused : List ChannelLine → List ChannelLine → Type 0
AreUnused before ls = All (λ (q : ChannelLine). is_used q.row before ≡ false) ls

abbrev Apart : List ChannelLine → List ChannelLine → Type 0
Apart before ls = AreUnused before ls × HaveOwnRows ls

apart_step : (before : List ChannelLine) (l : ChannelLine) (ls : List ChannelLine) (used : Bool) →
    is_used l.row before ≡ used → cond used (Some l.row) (repeated_after (before ++ l ∷ []) ls) ≡ None →
    (repeated_after (before ++ l ∷ []) ls ≡ None → Apart (before ++ l ∷ []) ls) → Apart before (l ∷ ls)
apart_step before l ls true e none rest = absurd (cc none)
apart_step before l ls false e none rest =
    let told = rest none in
    let following : All (λ (q : ChannelLine). is_used q.row before ≡ false) ls =
    All-weaker (λ (q : ChannelLine). is_used q.row (before ++ l ∷ []) ≡ false)
    (λ (q : ChannelLine). is_used q.row before ≡ false) (λ q is. (used-front q.row before l is).0) ls told.0 in
    let others : All (λ (q : ChannelLine). q.row ≢ l.row) ls =
    All-weaker (λ (q : ChannelLine). is_used q.row (before ++ l ∷ []) ≡ false) (λ (q : ChannelLine). q.row ≢ l.row)
    (λ q is same. (used-front q.row before l is).1 (sym same)) ls told.0 in (
      All-cons (λ (q : ChannelLine). is_used q.row before ≡ false) l ls e following,
      (others, told.1),
    )

apart_after : (before ls : List ChannelLine) → repeated_after before ls ≡ None → Apart before ls
apart_after before [] none = (All-nil (λ (q : ChannelLine). is_used q.row before ≡ false), tt)
apart_after before (l ∷ ls) none =
    apart_step before l ls (is_used l.row before) refl none (apart_after (before ++ l ∷ []) ls)

-- ---- a bounded number of rows

abbrev IsWithin : ℕ → ChannelLine → Type 0
IsWithin most q = (1 ≤ q.row) × (q.row ≤ most)

abbrev line_row : ChannelLine → ℕ
line_row l = l.row

distinct_rows : (ls : List ChannelLine) → HaveOwnRows ls → IsDistinct nat_eq (map line_row ls)
unfolding IsDistinct
distinct_rows [] own = tt
distinct_rows (l ∷ ls) own =
    let other = λ (n : ℕ). nat_eq l.row n ≡ false in (
      recursion_from_All other (map line_row ls)
          (All-map other line_row ls
          (All-weaker (λ (q : ChannelLine). q.row ≢ l.row) (λ (q : ChannelLine). nat_eq l.row q.row ≡ false)
          (λ q apart. ne_eqb l.row q.row (λ same. apart (sym same))) ls own.0)),
      distinct_rows ls own.1,
    )

-- lines with rows of their own are at most as many as there are rows, of which 0 is the pilot's
at_most : (most : ℕ) (ls : List ChannelLine) → HaveOwnRows ls → All (IsWithin most) ls → length ls ≤ most
at_most most ls own are =
    let rows = map line_row (channel 0 1 ∷ ls) in
    let others : All (λ (q : ChannelLine). q.row ≢ 0) ls =
    All-weaker (IsWithin most) (λ (q : ChannelLine). q.row ≢ 0) (λ q is none. omega (arith, is.0, none)) ls are in
    let below : All (λ (n : ℕ). n < suc most) rows =
    All-cons (λ (n : ℕ). n < suc most) 0 (map line_row ls) (omega arith)
    (All-map (λ (n : ℕ). n < suc most) line_row ls
    (All-weaker (IsWithin most) (λ (q : ChannelLine). q.row < suc most) (λ q is. omega (arith, is.1)) ls are)) in
    omega (
      arith,
      length-le_from_distinct_below rows (suc most) (distinct_rows (channel 0 1 ∷ ls) (others, own))
          (λ n is. All-contains (λ (k : ℕ). k < suc most) rows n below
          ((is_member-Decides Decides-eqb rows n).0 is)),
      length-map ls line_row,
    )

-- ---- the paging channels

abbrev line_of : PagingPlan → ChannelLine
line_of p = channel p.number p.gain

abbrev traffic_line_of : TrafficPlan → ChannelLine
traffic_line_of t = channel t.row t.gain

-- what holds of the lines of paging channels and of lines after them holds of each
parted : (P : ChannelLine → Type 0) (paging : List PagingPlan) (ls : List ChannelLine) →
    All P (paging_lines paging ++ ls) → All (λ (p : PagingPlan). P (line_of p)) paging × All P ls
parted P [] ls are = (All-nil (λ (p : PagingPlan). P (line_of p)), are)
parted P (p ∷ paging) ls are =
    let told = parted P paging ls (All-tail P (line_of p) (paging_lines paging ++ ls) are) in (
      All-cons (λ (q : PagingPlan). P (line_of q)) p paging
          (All-head P (line_of p) (paging_lines paging ++ ls) are) told.0,
      told.1,
    )

own_numbers : (paging : List PagingPlan) (ls : List ChannelLine) →
    HaveOwnRows (paging_lines paging ++ ls) → HaveOwnNumbers paging
own_numbers [] ls own = tt
own_numbers (p ∷ paging) ls own = (
  (parted (λ (q : ChannelLine). q.row ≢ p.number) paging ls own.0).0,
  own_numbers paging ls own.1,
)

-- no two paging channels have one number
pub have_own_numbers : (paging : List PagingPlan) (ls : List ChannelLine) →
    repeated (paging_lines paging ++ ls) ≡ None → HaveOwnNumbers paging
have_own_numbers paging ls none = own_numbers paging ls (apart_after first_channels (paging_lines paging ++ ls) none).1

own_lines : (paging : List PagingPlan) → HaveOwnNumbers paging → HaveOwnRows (paging_lines paging)
own_lines [] own = tt
own_lines (p ∷ paging) own =
    (All-map (λ (q : ChannelLine). q.row ≢ p.number) line_of paging own.0, own_lines paging own.1)

pub few_channels : (rate : Rate) (paging : List PagingPlan) → All (IsStatedPaging rate) paging →
    HaveOwnNumbers paging → length paging ≤ 7
few_channels rate paging are own =
    let within : All (IsWithin 7) (paging_lines paging) =
    All-map (IsWithin 7) line_of paging
    (All-weaker (IsStatedPaging rate) (λ (q : PagingPlan). IsWithin 7 (line_of q))
    (λ q is. (is.first, is.last)) paging are) in
    omega (arith, at_most 7 (paging_lines paging) (own_lines paging own) within, length-map paging line_of)

-- no gain of a paging channel is 0
pub some_gains : (rate : Rate) (paging : List PagingPlan) (ls : List ChannelLine) →
    All (IsStatedPaging rate) paging → silent (paging_lines paging ++ ls) ≡ None → All (IsPagingPlan rate) paging
some_gains rate paging ls are quiet k d inside =
    let here = are k d inside in
    let gains = parted (λ (l : ChannelLine). 0 < l.gain) paging ls (some_gain (paging_lines paging ++ ls) quiet) in
    record { first = here.first; last = here.last; gain = gains.0 k d inside; some = here.some; pages = here.pages }

-- ---- the traffic channels

-- what holds of the lines of traffic channels
traffic_all : (P : ChannelLine → Type 0) (traffic : List TrafficPlan) →
    All P (traffic_lines traffic) → All (λ (t : TrafficPlan). P (traffic_line_of t)) traffic
traffic_all P [] are = All-nil (λ (t : TrafficPlan). P (traffic_line_of t))
traffic_all P (t ∷ traffic) are =
    All-cons (λ (u : TrafficPlan). P (traffic_line_of u)) t traffic
    (All-head P (traffic_line_of t) (traffic_lines traffic) are)
    (traffic_all P traffic (All-tail P (traffic_line_of t) (traffic_lines traffic) are))

-- the lines after those of paging channels have rows of their own
own_after : (paging : List PagingPlan) (ls : List ChannelLine) →
    HaveOwnRows (paging_lines paging ++ ls) → HaveOwnRows ls
own_after [] ls own = own
own_after (p ∷ paging) ls own = own_after paging ls own.1

own_traffic_rows : (traffic : List TrafficPlan) → HaveOwnRows (traffic_lines traffic) → HaveOwnTrafficRows traffic
own_traffic_rows [] own = tt
own_traffic_rows (t ∷ traffic) own = (
  traffic_all (λ (q : ChannelLine). q.row ≢ t.row) traffic own.0,
  own_traffic_rows traffic own.1,
)

-- and none is that of a paging channel
free_rows : (paging : List PagingPlan) (traffic : List TrafficPlan) →
    HaveOwnRows (paging_lines paging ++ traffic_lines traffic) →
    All (λ (p : PagingPlan). IsFreeOf traffic p.number) paging
free_rows [] traffic own = All-nil (λ (p : PagingPlan). IsFreeOf traffic p.number)
free_rows (p ∷ paging) traffic own =
    All-cons (λ (q : PagingPlan). IsFreeOf traffic q.number) p paging
    (traffic_all (λ (q : ChannelLine). q.row ≢ p.number) traffic
    (parted (λ (q : ChannelLine). q.row ≢ p.number) paging (traffic_lines traffic) own.0).1)
    (free_rows paging traffic own.1)

-- a row that neither the pilot nor the sync channel has
not_first : (row : ℕ) → is_used row first_channels ≡ false → (row ≢ 0) × (row ≢ 32)
not_first row unused =
    let pilot = unused-cons row (channel 0 1) (channel 32 1 ∷ []) unused in
    let sync = unused-cons row (channel 32 1) [] pilot.1 in
    (λ is. pilot.0 (sym is), λ is. sync.0 (sym is))

traffic_sent : (t : TrafficPlan) → IsStatedTraffic t → 0 < t.gain →
    is_used t.row first_channels ≡ false → IsTrafficPlan t
traffic_sent t is gain unused =
    let other = not_first t.row unused in
    let pilot : ¬ (t.row ≡ 0) = other.0 in
    record {
      first = omega (arith, pilot);
      last = is.last;
      other = other.1;
      latest = is.latest;
      gain = gain;
      some = is.some;
      sized = is.sized;
    }

-- At most 62 traffic channels have rows of their own: these are from 1 to 63 and other than 32, so
-- with the sync channel's row 32 they are different ones of 63 rows (`at_most`).
few_rows : (traffic : List TrafficPlan) → All IsTrafficPlan traffic →
    HaveOwnRows (traffic_lines traffic) → length traffic ≤ 62
few_rows traffic are own =
    let ls = traffic_lines traffic in
    let within : All (IsWithin 63) ls =
    All-map (IsWithin 63) traffic_line_of traffic
    (All-weaker IsTrafficPlan (λ (t : TrafficPlan). IsWithin 63 (traffic_line_of t))
    (λ t is. (is.first, is.last)) traffic are) in
    let others : All (λ (q : ChannelLine). q.row ≢ 32) ls =
    All-map (λ (q : ChannelLine). q.row ≢ 32) traffic_line_of traffic
    (All-weaker IsTrafficPlan (λ (t : TrafficPlan). t.row ≢ 32) (λ t is. is.other) traffic are) in
    let sync : IsWithin 63 (channel 32 1) = (omega arith, omega arith) in
    omega (
      arith,
      at_most 63 (channel 32 1 ∷ ls) (others, own)
          (All-cons (IsWithin 63) (channel 32 1) ls sync within),
      length-map traffic traffic_line_of,
    )

-- Stated traffic channels can be sent beside the paging channels: as no row is repeated, theirs
-- differ from each other and from all others, and as no row is silent, each has a gain.
pub lawful_beside : (paging : List PagingPlan) (traffic : List TrafficPlan) →
    All IsStatedTraffic traffic → repeated (paging_lines paging ++ traffic_lines traffic) ≡ None →
    silent (paging_lines paging ++ traffic_lines traffic) ≡ None → AreLawfulBeside paging traffic
lawful_beside paging traffic are none quiet =
    let ls = traffic_lines traffic in
    let told = apart_after first_channels (paging_lines paging ++ ls) none in
    let unused : All (λ (t : TrafficPlan). is_used t.row first_channels ≡ false) traffic =
    traffic_all (λ (q : ChannelLine). is_used q.row first_channels ≡ false) traffic
    (parted (λ (q : ChannelLine). is_used q.row first_channels ≡ false) paging ls told.0).1 in
    let gains : All (λ (t : TrafficPlan). 0 < t.gain) traffic =
    traffic_all (λ (l : ChannelLine). 0 < l.gain) traffic
    (parted (λ (l : ChannelLine). 0 < l.gain) paging ls (some_gain (paging_lines paging ++ ls) quiet)).1 in
    let sent : All IsTrafficPlan traffic =
    λ k d inside. traffic_sent _ (are k d inside) (gains k d inside) (unused k d inside) in
    let own = own_after paging ls told.1 in
    record {
      few = few_rows traffic sent own;
      are = sent;
      apart = own_traffic_rows traffic own;
      free = free_rows paging traffic told.1;
    }
