-- The soft values of the frames of a traffic channel have the signs that were sent.
use Rattle.clean_link.proofs.Common.{IsReceivable, TrafficShowsSigns, ◌≡◌, ℕ, zero, suc, ◌+◌, ◌*◌, Bool, true, false, List, [], ◌∷◌, length}
use Rattle.clean_link.proofs.Common.{refl, sym, ap, ◌∙◌, arith, subst, ℤ, replicate, ◌*ℤ◌, Contains, flat_map, append-nil, All-contains}
use Rattle.clean_link.proofs.Common.{sign, xor, zip_with, Width, after, traffic_mask, code_symbols, scrambling, with_power_bits, data_shape}
use Rattle.clean_link.proofs.Common.{repeats_of, traffic_codeword, length-sent, softs, Finger, Data, length-sent2, IsLawfulPlan, frames_of}
use Rattle.clean_link.proofs.Common.{IsTrafficPlan, made_samples, traffic_carrier, CellPlan, TrafficPlan, TrafficFrame, SetOne, SetTwo, Leg}
use Rattle.clean_link.proofs.Common.{SetOneFrame, planned, one_in_turn, two_in_turn, descrambled, frame_softs, frame_start, is_in_file, ◌<◌}
use Rattle.clean_link.proofs.Common.{Stream, raw_softs, frame_state, replaced_in, stream_of, traffic_start, traffic_stream, Tuning, Mark}
use Rattle.clean_link.proofs.Common.{fingers_of, Traffic, IsTrueMark, soft_strength, codeword_symbols, IsAssigned, SendsSymbols, ShowFrame}
use Rattle.clean_link.proofs.Common.{ShowPowerBits, IsFrameOf, path_finger, SetOneSends, SetTwoSends, HearsSentTraffic, IsHeardAs, AllZip}
use Rattle.clean_link.proofs.Common.{TrafficHaveSentSigns, AreKept, HasSign, Sample, AllZip-long, ArePowered, HavePowerSigns, NoisyFrame}
use Rattle.clean_link.proofs.Common.{◌/◌, get_or, nat_eq, pos, list_any, eq-eqb, get_or-map-places, length-map-places, power_places, not}
use Rattle.clean_link.proofs.Common.{symbol_or_power_bit, is_replaced, unscrambled, zipped_at, map, ◌+ℤ◌, ◌&&◌, int_lt, range_with_len}
use Rattle.clean_link.proofs.Common.{ints, list_any_at, places, map-places-all, power_place, power_place_in_groups, pairs_below, ArePairs}
use Rattle.clean_link.proofs.Common.{pairs_in_groups, pairs_neighbours, power_bit, group_sum, group_sums, map_ext_places, power_bits_at}
use Rattle.clean_link.proofs.Common.{sent_bits, TrafficFrameHasSigns, sent_power_bits, PowerBitsComeBack, SixteenPowerBitsAreSent, le_false}
use Rattle.clean_link.proofs.Common.{lt_true, clean_relates, none_borne, near-self, FrameRelates, IsSigned, Turns, signed_turn, signs_turn}
use Rattle.chip_core.proofs.Finds.{nat_eq-flipped}
use Rattle.clean_signal.proofs.signal.CarriersApart.{traffic_sent}
use Rattle.clean_signal.proofs.frames.ChannelSigns.{strength_some}
use Rattle.clean_link.proofs.frames.ChannelFrames.{length-scrambling, fingers_are, near_frame}
use Rattle.clean_link.proofs.traffic.Steady.{one_fingers, one_stream, one_stream_is, traffic_file_to, one_sums}
use Rattle.symbol_path.specs.FramesTwo as second
use Rattle.cell_plan.specs.PageCycles as cycles
use Rattle.cell_plan.specs.TrafficFrames as sends

-- ---- at one place

pub at_zipped : {A B C : Type 0} (f : A → B → C) (xs : List A) (ys : List B) (i : ℕ) (a : A) (b : B)
    (c : C) → i < length xs → i < length ys →
    get_or (zip_with f xs ys) i c ≡ f (get_or xs i a) (get_or ys i b)
at_zipped f [] ys i a b c few many = absurd (omega (arith, few))
at_zipped f (x ∷ xs) [] i a b c few many = absurd (omega (arith, many))
at_zipped f (x ∷ xs) (y ∷ ys) zero a b c few many = refl
at_zipped f (x ∷ xs) (y ∷ ys) (suc i) a b c few many =
    at_zipped f xs ys i a b c (omega (arith, few)) (omega (arith, many))

pub length-zipped : {A B C : Type 0} (f : A → B → C) (xs : List A) (ys : List B) →
    length xs ≡ length ys → length (zip_with f xs ys) ≡ length ys
length-zipped f [] [] long = refl
length-zipped f [] (y ∷ ys) long = absurd (omega (arith, long))
length-zipped f (x ∷ xs) [] long = absurd (omega (arith, long))
length-zipped f (x ∷ xs) (y ∷ ys) long = ap suc (length-zipped f xs ys (omega (arith, long)))

-- where there are scrambling bits, each soft value is turned by its own
pub descrambled_some : (bits : List Bool) (values : List ℤ) → 0 < length bits →
    unscrambled bits values ≡ descrambled bits values
descrambled_some [] values some = absurd (omega (arith, some))
descrambled_some (b ∷ bits) values some = refl

-- ---- replaced places

-- both tests of a place are one
same_test : (i : ℕ) (replaced : List ℕ) →
    list_any (λ place. nat_eq place i) replaced ≡ is_replaced replaced i
same_test i [] = refl
same_test i (place ∷ replaced) =
    let here = nat_eq-flipped place i in
    let rest = same_test i replaced in
    rw (here, rest) refl

own_symbol : (replaced : List ℕ) (power_bits symbols : List Bool) (i : ℕ) →
    is_replaced replaced i ≡ false →
    symbol_or_power_bit replaced power_bits symbols i ≡ get_or symbols i false
own_symbol replaced power_bits symbols i none =
    let none' = same_test i replaced ∙ none in rw none' refl

power_bit_there : (replaced : List ℕ) (power_bits symbols : List Bool) (i : ℕ) →
    is_replaced replaced i ≡ true →
    symbol_or_power_bit replaced power_bits symbols i ≡ get_or power_bits (i / 24) false
power_bit_there replaced power_bits symbols i found =
    let found' = same_test i replaced ∙ found in rw found' refl

-- ---- a frame as it is sent

pub length-with_power_bits : (state mask : ℕ) (power_bits symbols : List Bool) →
    length (with_power_bits state mask power_bits symbols) ≡ 384
unfolding with_power_bits
length-with_power_bits state mask power_bits symbols =
    length-map-places (symbol_or_power_bit (power_places state mask) power_bits symbols) 384

sent_at : (state mask : ℕ) (power_bits symbols : List Bool) (i : ℕ) → i < 384 →
    get_or (with_power_bits state mask power_bits symbols) i false
    ≡ symbol_or_power_bit (power_places state mask) power_bits symbols i
unfolding with_power_bits
sent_at state mask power_bits symbols i below =
    get_or-map-places (symbol_or_power_bit (power_places state mask) power_bits symbols) 384 i false
    below

-- ---- what its soft values are, where they stand to what is sent in a relation

module _ (R : Bool → ℤ → Type 0) (state mask : ℕ) (power_bits : List Bool) (softs : List ℤ) where
  sent_related : (symbols : List Bool) (i : ℕ) →
      AllZip R (with_power_bits state mask power_bits symbols) softs → i < 384 →
      R (symbol_or_power_bit (power_places state mask) power_bits symbols i) (get_or softs i (pos 0))
  sent_related symbols i all below =
      let given = with_power_bits state mask power_bits symbols in
      let long = length-with_power_bits state mask power_bits symbols in
      subst (λ (b : Bool). R b (get_or softs i (pos 0))) (sent_at state mask power_bits symbols i below)
      (zipped_at R given softs i false (pos 0) all (omega (arith, below, long)))

  -- at the places that power control bits replace, they stand so to these
  pub powered_there : (symbols : List Bool) →
      AllZip R (with_power_bits state mask power_bits symbols) softs →
      ArePowered R (power_places state mask) power_bits softs
  powered_there symbols all i below found =
      subst (λ (b : Bool). R b (get_or softs i (pos 0)))
      (power_bit_there (power_places state mask) power_bits symbols i found)
      (sent_related symbols i all below)

  -- and at the others to its symbols, which were scrambled by the bits that turn them
  pub kept_there : Turns R → (symbols bits : List Bool) → length symbols ≡ 384 → length bits ≡ 384 →
      AllZip R (with_power_bits state mask power_bits (zip_with xor symbols bits)) softs →
      AreKept R (power_places state mask) symbols (descrambled bits softs)
  kept_there turns symbols bits long many all i below none =
      let mixed = zip_with xor symbols bits in
      let given = with_power_bits state mask power_bits mixed in
      let count : length softs ≡ 384 =
      AllZip-long R given softs all ∙ length-with_power_bits state mask power_bits mixed in
      let own : symbol_or_power_bit (power_places state mask) power_bits mixed i
      ≡ xor (get_or symbols i false) (get_or bits i false) =
      own_symbol (power_places state mask) power_bits mixed i none
      ∙ at_zipped xor symbols bits i false false false (omega (arith, below, long))
      (omega (arith, below, many)) in
      subst (R (get_or symbols i false))
      (sym (at_zipped (λ (b : Bool) (v : ℤ). sign b *ℤ v) bits softs i false (pos 0) (pos 0)
      (omega (arith, below, many)) (omega (arith, below, count))))
      (turns (get_or bits i false) (get_or symbols i false) (get_or softs i (pos 0))
      (subst (λ (b : Bool). R b (get_or softs i (pos 0))) own (sent_related mixed i all below)))

-- ---- what a frame sends

-- the one frame that is in turn is sent
one_sent : (state mask k : ℕ) (frames : List TrafficFrame) (f : TrafficFrame) →
    sends.frames_in_turn frames k ≡ f ∷ [] →
    flat_map (sends.traffic_symbols state mask) (sends.frames_in_turn frames k)
    ≡ sends.traffic_symbols state mask f
one_sent state mask k frames f is =
    let made = sends.traffic_symbols state mask in ap (flat_map made) is ∙ append-nil (made f)

pub set_one_sends : SetOneSends
unfolding sends.traffic_frame_symbols sends.traffic_symbols sends.placed_symbols
set_one_sends plan p frame f is = record {
  all =
      length-sent data_shape (repeats_of f.rate)
      (code_symbols (replicate 8 false) (traffic_codeword f.rate f.information));
  given =
      one_sent (sends.sent_frame_state (frames_of plan p) frame) (traffic_mask p.esn) frame p.frames
      (planned SetOne f) (one_in_turn p.frames frame f is);
}

pub set_two_sends : SetTwoSends
unfolding sends.traffic_frame_symbols sends.traffic_symbols sends.placed_symbols
set_two_sends plan p frame f is = record {
  all =
      length-sent2 f.rate
      (code_symbols (replicate 8 false) (second.codeword_bits f.rate f.information));
  given =
      one_sent (sends.sent_frame_state (frames_of plan p) frame) (traffic_mask p.esn) frame p.frames
      (planned SetTwo f) (two_in_turn p.frames frame f is);
}

-- symbols are scrambled, and power control bits replace some
scrambled_are : (state mask : ℕ) (power_bits symbols : List Bool) →
    sends.sent_with state mask power_bits symbols
    ≡ with_power_bits state mask power_bits (zip_with xor symbols (scrambling state mask))
unfolding cycles.scrambled
scrambled_are state mask power_bits symbols = refl

-- ---- how it is heard

-- the mark tells the long code's state at a frame
pub same_state : (plan : CellPlan) (p : TrafficPlan) (traffic : Traffic) (m : Mark)
    (superframes k : ℕ) → IsTrueMark plan m superframes → IsAssigned p traffic →
    frame_state traffic m k ≡ sends.sent_frame_state (frames_of plan p) (4 * superframes + k)
same_state plan p traffic m superframes k at is =
    let same = is.offset in
    let chips : 98304 * superframes + (1536 * traffic.offset + 24576 * k)
    ≡ 24576 * (4 * superframes + k) + 1536 * p.offset = omega (arith, same) in
    at.state (1536 * traffic.offset + 24576 * k) ∙ ap (after plan.cell.lc) chips

-- a channel of a lawful plan
pub lawful_traffic : (width : Width) (plan : CellPlan) (p : TrafficPlan) →
    IsLawfulPlan width plan → Contains plan.traffic p → IsTrafficPlan p
lawful_traffic width plan p lawful has =
    All-contains IsTrafficPlan plan.traffic p lawful.traffic.are has

-- each frame of it has the sent signs on a clean link
pub clean_sent : {width : Width} {plan : CellPlan} → IsReceivable width plan → (p : TrafficPlan) →
    Contains plan.traffic p → (frame : ℕ) → TrafficFrameHasSigns plan p (made_samples plan) frame
clean_sent {width} {plan} is p has =
    near_frame (traffic_carrier plan p) Data 0 (made_samples plan) is (traffic_sent plan p has)
    (near-self 0 (made_samples plan))
    (none_borne width plan p.gain is (lawful_traffic width plan p is.lawful has).gain)

module _ {width : Width} {plan : CellPlan} {p : TrafficPlan} {t : Tuning} {traffic : Traffic}
    {m : Mark} {superframes : ℕ} (is : HearsSentTraffic width plan p t traffic m superframes) where
  gain_some : 0 < p.gain
  gain_some = (lawful_traffic width plan p is.receivable.lawful is.sent).gain

  pub traffic_strong : 0 < soft_strength plan Data p.gain
  traffic_strong = strength_some width plan Data p.gain is.receivable gain_some

  -- what they are to its symbols on a clean link, and through noise that it bears
  pub traffic_clean : (frame : ℕ) → FrameRelates (IsSigned (soft_strength plan Data p.gain)) plan
      (traffic_carrier plan p) Data (made_samples plan) frame
  traffic_clean =
      clean_relates is.receivable (traffic_carrier plan p) Data (traffic_sent plan p is.sent)

module _ {width : Width} {plan : CellPlan} {p : TrafficPlan} {t : Tuning} {traffic : Traffic}
    {m : Mark} {superframes : ℕ} (is : HearsSentTraffic width plan p t traffic m superframes) (k : ℕ)
    {symbols power_bits : List Bool}
    (sent : SendsSymbols plan p (4 * superframes + k) symbols power_bits)
    (here : is_in_file t.count (one_stream t traffic m) k ≡ true) where
  abbrev state : ℕ
  state = frame_state traffic m k

  abbrev mask : ℕ
  mask = traffic_mask traffic.esn

  abbrev u : ℕ
  u = frame_start (one_stream t traffic m) k

  -- what is sent
  abbrev given : List Bool
  given = with_power_bits state mask power_bits (zip_with xor symbols (scrambling state mask))

  given_is : sends.traffic_frame_symbols (frames_of plan p) (4 * superframes + k) ≡ given
  given_is =
      let same = same_state plan p traffic m superframes k is.marked is.assigned in
      sent.given
      ∙ ap (λ (s : ℕ). sends.sent_with s (traffic_mask p.esn) power_bits symbols) (sym same)
      ∙ ap (λ (e : ℕ). sends.sent_with state (traffic_mask e) power_bits symbols) is.assigned.esn
      ∙ scrambled_are state mask power_bits symbols

  given_long : length given ≡ 384
  given_long =
      length-with_power_bits state mask power_bits (zip_with xor symbols (scrambling state mask))

  -- where
  is_frame : IsFrameOf plan (traffic_carrier plan p) Data u (4 * superframes + k)
  is_frame = record {
    room = omega (
      arith,
      traffic_file_to t traffic m is.tuned.alone k here,
      is.tuned.count,
    );
    frame_long = refl;
    symbol_long = refl;
    begins = omega (arith, is.marked.place, is.assigned.offset);
  }

  finger : fingers_of traffic.row t.phase t.deltas ≡ path_finger plan p.row ∷ []
  finger =
      fingers_are plan t traffic.row is.tuned
      ∙ ap (λ (row : ℕ). path_finger plan row ∷ []) (sym is.assigned.row)

  -- ---- of samples whose soft values stand to the symbols in a relation

  module _ (R : Bool → ℤ → Type 0) (turns : Turns R) (samples : List Sample)
      (relates : FrameRelates R plan (traffic_carrier plan p) Data samples (4 * superframes + k)) where
    -- the soft values as the finger hears them
    abbrev raw : List ℤ
    raw = softs samples (fingers_of traffic.row t.phase t.deltas) Data u

    raw_related : AllZip R given raw
    raw_related =
        subst (λ (fs : List Finger). AllZip R given (softs samples fs Data u)) (sym finger)
        (subst (λ (xs : List Bool). AllZip R xs (softs samples (path_finger plan p.row ∷ []) Data u))
        given_is
        (relates u is_frame (ap length given_is ∙ given_long)))

    -- and descrambled by the scrambling
    descrambled_are : frame_softs samples (one_stream t traffic m) k
        ≡ descrambled (scrambling state mask) raw
    descrambled_are =
        let some = length-scrambling state mask in
        descrambled_some (scrambling state mask) raw (omega (arith, some))

    pub frame_long : length (frame_softs samples (one_stream t traffic m) k) ≡ 384
    frame_long =
        let all : length raw ≡ 384 = AllZip-long R given raw raw_related ∙ given_long in
        ap length descrambled_are
        ∙ length-zipped (λ (b : Bool) (v : ℤ). sign b *ℤ v) (scrambling state mask) raw
        (length-scrambling state mask ∙ sym all)
        ∙ all

    -- so they stand so to the frame's symbols, and raw to its power control bits
    pub frame_kept : AreKept R (replaced_in traffic m k) symbols
        (frame_softs samples (one_stream t traffic m) k)
    frame_kept =
        subst (AreKept R (replaced_in traffic m k) symbols) (sym descrambled_are)
        (kept_there R state mask power_bits raw turns symbols (scrambling state mask) sent.all
        (length-scrambling state mask) raw_related)

    pub frame_power : ArePowered R (replaced_in traffic m k) power_bits raw
    frame_power =
        powered_there R state mask power_bits raw (zip_with xor symbols (scrambling state mask))
        raw_related

  -- ---- of a clean link, and of samples in which the frame has the sent signs

  pub frame_shown : ShowFrame (replaced_in traffic m k) (soft_strength plan Data p.gain) symbols
      (frame_softs (made_samples plan) (one_stream t traffic m) k)
  frame_shown = record {
    strong = traffic_strong is;
    long = frame_long _ (signed_turn _) (made_samples plan) (traffic_clean is (4 * superframes + k));
    shows = frame_kept _ (signed_turn _) (made_samples plan) (traffic_clean is (4 * superframes + k));
  }

  pub frame_powered : ShowPowerBits (replaced_in traffic m k) (soft_strength plan Data p.gain)
      power_bits (softs (made_samples plan) (fingers_of traffic.row t.phase t.deltas) Data u)
  frame_powered = frame_power _ (signed_turn _) (made_samples plan) (traffic_clean is (4 * superframes + k))

  module _ (samples : List Sample)
      (signs : TrafficFrameHasSigns plan p samples (4 * superframes + k)) where
    pub signed_shown : NoisyFrame (replaced_in traffic m k) symbols
        (frame_softs samples (one_stream t traffic m) k)
    signed_shown = record {
      long = frame_long HasSign signs_turn samples signs;
      keeps = frame_kept HasSign signs_turn samples signs;
    }

    pub signed_powered : HavePowerSigns (replaced_in traffic m k) power_bits
        (softs samples (fingers_of traffic.row t.phase t.deltas) Data u)
    signed_powered = frame_power HasSign signs_turn samples signs

-- ---- of the reference's pilot among the active ones

module _ {width : Width} {plan : CellPlan} {p : TrafficPlan} {t : Tuning} {traffic : Traffic}
    {m : Mark} {legs : ℕ → List Leg} {superframes k : ℕ} {f : SetOneFrame}
    (is : HearsSentTraffic width plan p t traffic m superframes)
    (heard : IsHeardAs plan p t traffic m legs superframes k f) where
  here : is_in_file t.count (one_stream t traffic m) k ≡ true
  here =
      ap (λ (s : Stream). is_in_file t.count s k)
      (sym (one_stream_is t traffic m legs k heard.pilot))
      ∙ heard.here

  sends_codeword : SendsSymbols plan p (4 * superframes + k) (codeword_symbols f) f.power_bits
  sends_codeword = set_one_sends plan p (4 * superframes + k) f heard.frame

  -- its soft values stand to what is sent as those of the channel's frames do
  pub heard_related : (R : Bool → ℤ → Type 0) → Turns R → (samples : List Sample) →
      FrameRelates R plan (traffic_carrier plan p) Data samples (4 * superframes + k) →
      (length (frame_softs samples (stream_of t traffic m legs k) k) ≡ 384)
      × AreKept R (replaced_in traffic m k) (codeword_symbols f)
      (frame_softs samples (stream_of t traffic m legs k) k)
      × ArePowered R (replaced_in traffic m k) f.power_bits (raw_softs t traffic m legs samples k)
  heard_related R turns samples relates =
      subst
      (λ (fs : List Finger). (length (frame_softs samples (traffic_stream traffic m fs) k) ≡ 384)
      × AreKept R (replaced_in traffic m k) (codeword_symbols f)
      (frame_softs samples (traffic_stream traffic m fs) k)
      × ArePowered R (replaced_in traffic m k) f.power_bits
      (softs samples fs Data (traffic_start traffic m k)))
      (sym (one_fingers traffic t.phase t.deltas (legs k) heard.pilot)) (
        frame_long is k sends_codeword here R turns samples relates,
        frame_kept is k sends_codeword here R turns samples relates,
        frame_power is k sends_codeword here R turns samples relates,
      )

-- ---- the laws

-- of a clean link they are one positive number times the sent signs
pub traffic_signs : TrafficHaveSentSigns
traffic_signs width plan p t traffic m legs superframes k f is heard =
    let strength = soft_strength plan Data p.gain in
    let related = heard_related is heard (IsSigned strength) (signed_turn strength) (made_samples plan)
    (traffic_clean is (4 * superframes + k)) in
    (traffic_strong is, related.1, related.2)

pub traffic_shows : TrafficShowsSigns
traffic_shows width plan p t traffic m legs superframes k f samples is heard signs =
    heard_related is heard HasSign signs_turn samples signs

-- ---- the places of power control bits

-- pairs of neighbours, from number a on
length-pairs : (f : ℕ → ℕ) (a n : ℕ) →
    length (flat_map (λ g. f g ∷ (f g + 1) ∷ []) (range_with_len a n)) ≡ 2 * n
length-pairs f a zero = refl
length-pairs f a (suc n) =
    let rest = length-pairs f (a + 1) n in omega (arith, rest)

pair_of : (f : ℕ → ℕ) (a n g : ℕ) → g < n →
    let pairs = flat_map (λ g. f g ∷ (f g + 1) ∷ []) (range_with_len a n) in
    (get_or pairs (2 * g) 0 ≡ f (a + g)) × (get_or pairs (2 * g + 1) 0 ≡ f (a + g) + 1)
pair_of f a zero g below = absurd (omega (arith, below))
pair_of f a (suc n) zero below =
    let first : a ≡ a + 0 = omega arith in (ap f first, ap (λ (k : ℕ). f k + 1) first)
pair_of f a (suc n) (suc g) below =
    let pairs = flat_map (λ g. f g ∷ (f g + 1) ∷ []) (range_with_len a (suc n)) in
    let rest = pair_of f (a + 1) n g (omega (arith, below)) in
    let first : 2 * suc g ≡ suc (suc (2 * g)) = omega arith in
    let second : 2 * suc g + 1 ≡ suc (suc (2 * g + 1)) = omega arith in
    let turned : a + 1 + g ≡ a + suc g = omega arith in (
      ap (λ (k : ℕ). get_or pairs k 0) first ∙ rest.0 ∙ ap f turned,
      ap (λ (k : ℕ). get_or pairs k 0) second ∙ rest.1 ∙ ap (λ (k : ℕ). f k + 1) turned,
    )

-- the places of a frame are such pairs
pub power_pairs : (state mask : ℕ) →
    ArePairs (power_place state mask) (power_places state mask) 16
unfolding power_places places
power_pairs state mask =
    let f = power_place state mask in
    record {
      long = length-pairs f 0 16;
      first = λ g below. (pair_of f 0 16 g below).0 ∙ ap f (omega arith);
      second = λ g below. (pair_of f 0 16 g below).1 ∙ ap (λ (k : ℕ). f k + 1) (omega arith);
    }

-- two replaced places of a group of 24
pub record IsPairAt (replaced : List ℕ) (g first second : ℕ) : Type 0 where
  pub replaced_one : is_replaced replaced first ≡ true
  pub replaced_other : is_replaced replaced second ≡ true
  pub group_one : first / 24 ≡ g
  pub group_other : second / 24 ≡ g
  pub below_one : first < 384
  pub below_other : second < 384

listed_place : (replaced : List ℕ) (j : ℕ) → j < length replaced →
    is_replaced replaced (get_or replaced j 0) ≡ true
listed_place replaced j below =
    let place = get_or replaced j 0 in
    list_any_at (nat_eq place) replaced j 0 below (eq-eqb place place refl)

-- The two places that a power control bit replaces lie in its own group of 24 symbols: they are
-- neighbours in the list of all 32, and the first of them lies in that group, with room for the
-- second.
pair_at : (state mask g : ℕ) → g < 16 →
    IsPairAt (power_places state mask) g (get_or (power_places state mask) (2 * g) 0)
    (get_or (power_places state mask) (2 * g + 1) 0)
pair_at state mask g below =
    let f = power_place state mask in
    let xs = power_places state mask in
    let groups = power_place_in_groups state mask in
    let pairs = power_pairs state mask in
    let (low, high) = pairs_in_groups f xs groups pairs g below in
    let next = pairs_neighbours f xs pairs g below in
    let long = pairs.long in
    let first : 2 * g < length xs = omega (arith, below, long) in
    let second : 2 * g + 1 < length xs = omega (arith, below, long) in
    record {
      replaced_one = listed_place xs (2 * g) first;
      replaced_other = listed_place xs (2 * g + 1) second;
      group_one = omega (arith, low, high);
      group_other = omega (arith, low, high, next);
      below_one = pairs_below f xs groups pairs (2 * g) first;
      below_other = pairs_below f xs groups pairs (2 * g + 1) second;
    }

-- ---- a bit is heard as it was sent

one_subchannel : (sums : List ℤ) (g : ℕ) →
    power_bit (sums ∷ []) g ≡ not (int_lt (pos 0) (get_or sums g (pos 0)))
one_subchannel sums g = ap not (with_true (int_lt (pos 0) (get_or sums g (pos 0))))
  where
    with_true : (b : Bool) → (b && true) ≡ b
    with_true true = refl
    with_true false = refl

-- two soft values with the sign of a bit are heard as it
heard_sign : (b : Bool) (y z : ℤ) → HasSign b y → HasSign b z → not (int_lt (pos 0) (y +ℤ z)) ≡ b
heard_sign true y z p q = ap not (le_false (pos 0) (y +ℤ z) (omega (arith, ints, p, q)))
heard_sign false y z p q = ap not (lt_true (pos 0) (y +ℤ z) (omega (arith, ints, p, q)))

-- A power control bit is heard as it was sent: the two places that it replaces lie in its own
-- group, so both soft values have its sign, and their sum, of which the sign is heard, has it too.
heard_power_bit : (state mask : ℕ) (power_bits : List Bool) (softs : List ℤ) (g : ℕ) → g < 16 →
    HavePowerSigns (power_places state mask) power_bits softs →
    power_bit (group_sums (power_places state mask) softs ∷ []) g ≡ get_or power_bits g false
heard_power_bit state mask power_bits softs g below have =
    let replaced = power_places state mask in
    let one = get_or replaced (2 * g) 0 in
    let other = get_or replaced (2 * g + 1) 0 in
    let pair = pair_at state mask g below in
    let bit = λ (k : ℕ). get_or power_bits k false in
    let first = subst (λ (k : ℕ). HasSign (bit k) (get_or softs one (pos 0))) pair.group_one
    (have one pair.below_one pair.replaced_one) in
    let second = subst (λ (k : ℕ). HasSign (bit k) (get_or softs other (pos 0))) pair.group_other
    (have other pair.below_other pair.replaced_other) in
    one_subchannel (group_sums replaced softs) g
    ∙ ap (λ (z : ℤ). not (int_lt (pos 0) z))
    (get_or-map-places (group_sum replaced softs) 16 g (pos 0) below)
    ∙ heard_sign (bit g) (get_or softs one (pos 0)) (get_or softs other (pos 0)) first second

pub heard_power_bits : (state mask : ℕ) (power_bits : List Bool) (softs : List ℤ) →
    HavePowerSigns (power_places state mask) power_bits softs →
    map (power_bit (group_sums (power_places state mask) softs ∷ [])) (places 16)
    ≡ sent_bits power_bits
unfolding sent_bits
heard_power_bits state mask power_bits softs have =
    map_ext_places (power_bit (group_sums (power_places state mask) softs ∷ []))
    (λ g. get_or power_bits g false) 16
    (λ g below. heard_power_bit state mask power_bits softs g below have)

-- ---- the laws

pub signed_power_bits : {width : Width} {plan : CellPlan} {p : TrafficPlan} {t : Tuning}
    {traffic : Traffic} {m : Mark} {legs : ℕ → List Leg} {superframes k : ℕ} {f : SetOneFrame}
    (samples : List Sample) → HearsSentTraffic width plan p t traffic m superframes →
    IsHeardAs plan p t traffic m legs superframes k f →
    TrafficFrameHasSigns plan p samples (4 * superframes + k) →
    power_bits_at t traffic m legs samples k ≡ sent_power_bits f
unfolding power_bits_at
signed_power_bits {t = t} {traffic} {m} {legs} {k = k} {f} samples is heard signs =
    ap (λ (all : List (List ℤ)). map (power_bit all) (places 16))
    (one_sums t traffic m legs k heard.pilot samples)
    ∙ heard_power_bits (frame_state traffic m k) (traffic_mask traffic.esn) f.power_bits
    (raw_softs t traffic m legs samples k)
    (heard_related is heard HasSign signs_turn samples signs).2

pub power_bits_back : PowerBitsComeBack
power_bits_back width plan p t traffic m legs superframes k f samples is heard signs =
    signed_power_bits samples is heard signs

pub sixteen_sent : SixteenPowerBitsAreSent
unfolding sent_bits
sixteen_sent f long =
    sym (map-places-all (λ g. get_or f.power_bits g false) f.power_bits 16 false long (λ g below. refl))
