-- Bits laid in half-frames, one after another.
use Rattle.paging_message.proofs.Common.{◌≡◌, ℕ, suc, ◌+◌, ◌-◌, ◌*◌, ◌/◌, ◌%◌, ◌<◌, ◌≤◌, ◌==◌, ◌||◌, if◌then◌else◌, Bool, true, false, cond}
use Rattle.paging_message.proofs.Common.{List, [], ◌∷◌, ◌++◌, length, take, drop, replicate, refl, sym, ap, ◌∙◌, arith, append_assoc, not}
use Rattle.paging_message.proofs.Common.{length-append, length-drop, inl, inr, IsTrue, flat_map, list_any, cases_lt, cases_Bool, eq-eqb}
use Rattle.paging_message.proofs.Common.{eqb-true, eqb-false, ne_eqb, append-nil, length-take-le, take-append-drop, mod-eq_of_lt, drop_at}
use Rattle.paging_message.proofs.Common.{take-append-le, drop-append-le, take_all, length-replicate, replicate-append-replicate, mod-lt}
use Rattle.paging_message.proofs.Common.{list_any-append, div-mul-add, mod-mul-add, div-add-mod, mod_self, mul-le-mul_left, places}
use Rattle.paging_message.proofs.Common.{flat_map-zero, or-false, bits_left, flat_map_ext_places, flat_map-places-more}
use Rattle.paging_message.specs.Laying as laying

-- HALF-FRAMES
-- A half-frame that lies in the first bits is the same whatever follows them: it ends among the
-- first n, so its bits are cut only out of these, and its SCI bit must be the same.
pub half_front : (size n h : ℕ) (starts starts' : List ℕ) (front more : List Bool) → length front ≡ size * n → h < n →
    list_any (λ s. s == h) starts' ≡ list_any (λ s. s == h) starts →
    laying.half_frame size starts' (front ++ more) h ≡ laying.half_frame size starts front h
half_front size n h starts starts' front more long lt same =
    let far : size * suc h ≤ size * n = mul-le-mul_left size lt in
    let cut : drop (size * h) (front ++ more) ≡ drop (size * h) front ++ more =
    drop-append-le (size * h) front more (omega (arith, far, long)) in
    ap (λ (b : Bool). b ∷ take size (drop (size * h) (front ++ more))) same
    ∙ ap (λ (l : List Bool). list_any (λ s. s == h) starts ∷ l)
    (ap (take size) cut ∙ take-append-le size (drop (size * h) front) more
    (omega (arith, far, long, length-drop (size * h) front)))

pub framed_whole : (size n : ℕ) (starts : List ℕ) (front : List Bool) → 0 < size → length front ≡ size * n →
    laying.framed size (record { body = front; starts = starts })
    ≡ flat_map (laying.half_frame size starts front) (places n)
unfolding laying.framed
framed_whole size n starts front large long =
    let turned : length front + size - 1 ≡ n * size + (size - 1) = omega (arith, long, large) in
    let count : (length front + size - 1) / size ≡ n = ap (λ (k : ℕ). k / size) turned
    ∙ div-mul-add n size (size - 1) (omega (arith, large)) in
    ap (λ (k : ℕ). flat_map (laying.half_frame size starts front) (places k)) count

-- Up to one half-frame of bits after n whole ones is sent as one half-frame more: their number is
-- rounded up to n + 1, the first n keep their bits and their SCI bits, and the last has what was
-- added.
pub framed_more : (size n : ℕ) (starts starts' : List ℕ) (front q : List Bool) → 0 < size →
    length front ≡ size * n → 0 < length q → length q ≤ size →
    ((h : ℕ) → h < n → list_any (λ s. s == h) starts' ≡ list_any (λ s. s == h) starts) →
    laying.framed size (record { body = front ++ q; starts = starts' })
    ≡ flat_map (laying.half_frame size starts front) (places n) ++ (list_any (λ s. s == n) starts' ∷ q)
unfolding laying.framed
framed_more size n starts starts' front q large long some most same =
    let half = laying.half_frame size starts' (front ++ q) in
    let turned : length (front ++ q) + size - 1 ≡ (n + 1) * size + (length q - 1) =
    omega (arith, long, length-append front q, some) in
    let count : (length (front ++ q) + size - 1) / size ≡ n + 1 = ap (λ (k : ℕ). k / size) turned
    ∙ div-mul-add (n + 1) size (length q - 1) (omega (arith, most, some)) in
    let last : take size (drop (size * n) (front ++ q)) ≡ q =
    ap (take size) (drop_at front q (size * n) long) ∙ take_all size q most in
    ap (λ (k : ℕ). flat_map half (places k)) count
    ∙ flat_map-places-more half n
    ∙ ap (λ (l : List Bool). l ++ half n)
    (flat_map_ext_places half (laying.half_frame size starts front) n
    (λ h lt. half_front size n h starts starts' front q long lt (same h lt)))
    ∙ ap (λ (l : List Bool). flat_map (laying.half_frame size starts front) (places n) ++
    (list_any (λ s. s == n) starts' ∷ l)) last

-- where a half-frame is under way, bits after what was laid go on with it, up to its end
framed_on : (size : ℕ) (starts : List ℕ) (body more : List Bool) → 0 < length body % size →
    length body % size + length more ≤ size →
    laying.framed size (record { body = body ++ more; starts = starts })
    ≡ laying.framed size (record { body = body; starts = starts }) ++ more
framed_on size starts body more some most =
    let n = length body / size in
    let all = div-add-mod (length body) size in
    let front = take (size * n) body in
    let q = drop (size * n) body in
    let large : 0 < size = omega (arith, some, most) in
    let long : length front ≡ size * n = length-take-le (size * n) body (omega (arith, all)) in
    let own : length q ≡ length body % size = omega (arith, length-drop (size * n) body, all) in
    let split : body ≡ front ++ q = sym (take-append-drop (size * n) body) in
    let of_body = λ (bits : List Bool). laying.framed size (record { body = bits; starts = starts }) in
    let fronts = flat_map (laying.half_frame size starts front) (places n) in
    let mark = list_any (λ s. s == n) starts in
    let before : of_body body ≡ fronts ++ (mark ∷ q) =
    ap of_body split ∙ framed_more size n starts starts front q large long
    (omega (arith, own, some)) (omega (arith, own, most)) (λ h lt. refl) in
    let both = length-append q more in
    ap of_body (ap (λ (r : List Bool). r ++ more) split ∙ append_assoc front q more)
    ∙ framed_more size n starts starts front (q ++ more) large long
    (omega (arith, both, own, some)) (omega (arith, both, own, most)) (λ h lt. refl)
    ∙ sym (ap (λ (r : List Bool). r ++ more) before ∙ append_assoc fronts (mark ∷ q) more)

-- STARTS
-- all starts lie before
pub not_begun : (size n count : ℕ) (starts : List ℕ) → laying.HaveBegun size count starts →
    count ≡ size * n → list_any (λ s. s == n) starts ≡ false
not_begun size n count [] below is = refl
not_begun size n count (s ∷ starts) below is =
    let other : (s == n) ≡ false =
    ne_eqb s n (λ same. let far : s * size ≡ n * size =
    ap (λ (k : ℕ). k * size) same in omega (arith, far, below.0, is)) in
    rw other (not_begun size n count starts below.1 is)

pub below_more : (size count more : ℕ) (starts : List ℕ) → laying.HaveBegun size count starts →
    count ≤ more → laying.HaveBegun size more starts
below_more size count more [] below le = tt
below_more size count more (s ∷ starts) below le =
    (omega (arith, below.0, le), below_more size count more starts below.1 le)

pub below_push : (size count s : ℕ) (starts : List ℕ) → laying.HaveBegun size count starts →
    s * size < count → laying.HaveBegun size count (starts ++ s ∷ [])
below_push size count s [] below lt = (lt, tt)
below_push size count s (t ∷ starts) below lt = (below.0, below_push size count s starts below.1 lt)

pub any_other : (h n : ℕ) (starts : List ℕ) → h < n →
    list_any (λ s. s == h) (starts ++ n ∷ []) ≡ list_any (λ s. s == h) starts
any_other h n starts lt =
    let other : (n == h) ≡ false = ne_eqb n h (λ same. omega (arith, lt, same)) in
    list_any-append (λ s. s == h) starts (n ∷ [])
    ∙ ap (λ (b : Bool). list_any (λ s. s == h) starts || (b || false)) other
    ∙ or-false (list_any (λ s. s == h) starts)

any_own : (n : ℕ) (starts : List ℕ) → list_any (λ s. s == n) (starts ++ n ∷ []) ≡ true
any_own n starts =
    let own : (n == n) ≡ true = eq-eqb n n refl in
    list_any-append (λ s. s == n) starts (n ∷ [])
    ∙ ap (λ (b : Bool). list_any (λ s. s == n) starts || (b || false)) own
    ∙ or_true (list_any (λ s. s == n) starts)
  where
    or_true : (b : Bool) → (b || (true || false)) ≡ true
    or_true true = refl
    or_true false = refl

-- PLACES
place-none : (size count : ℕ) → count % size ≡ 0 → laying.place_of size count ≡ 0
unfolding laying.place_of
place-none size count e = let t = eq-eqb (count % size) 0 e in rw t refl

place-some : (size count : ℕ) → 0 < count % size → laying.place_of size count ≡ 1 + count % size
unfolding laying.place_of
place-some size count some = let f : (count % size == 0) ≡ false =
    ne_eqb (count % size) 0 (λ e. omega (arith, some, e)) in rw f refl

pub place_zero : (size count : ℕ) → 0 ≡ laying.place_of size count → count % size ≡ 0
place_zero size count is =
    elim (cases_lt 0 (count % size)) [
      | inl some ↦ absurd (omega (arith, is, place-some size count some))
      | inr none ↦ omega (arith, none)
    ]

pub place_within : (size count place : ℕ) → place ≡ laying.place_of size count → 0 < place →
    (place ≡ 1 + count % size) × (0 < count % size)
place_within size count place is some =
    elim (cases_lt 0 (count % size)) [
      | inl more ↦ (is ∙ place-some size count more, more)
      | inr none ↦ absurd (omega (arith, is, some, place-none size count (omega (arith, none))))
    ]

next_mod : (size count : ℕ) → count % size + 1 < size → (count + 1) % size ≡ count % size + 1
next_mod size count less =
    let turned : count + 1 ≡ count / size * size + (count % size + 1) = omega (arith, div-add-mod count size) in
    ap (λ (k : ℕ). k % size) turned ∙ mod-mul-add (count / size) size (count % size + 1) less

last_mod : (size count : ℕ) → 0 < size → count % size + 1 ≡ size → (count + 1) % size ≡ 0
last_mod size count large last =
    let turned : count + 1 ≡ suc (count / size) * size + 0 = omega (arith, div-add-mod count size, last) in
    ap (λ (k : ℕ). k % size) turned ∙ mod-mul-add (suc (count / size)) size 0 large

-- A BIT MORE
-- where a half-frame begins with it
pub bit_first : (size : ℕ) (l : laying.Laid) (bits : List Bool) (sci b : Bool) → 2 ≤ size →
    laying.HasLaid (record { size = size; place = 0 }) l bits →
    laying.HasLaid (record { size = size; place = 2 }) (laying.bit_on size l sci b) ((bits ++ sci ∷ []) ++ b ∷ [])
bit_first size l bits sci b large laid =
    let n = length l.body / size in
    let none = place_zero size (length l.body) laid.placed in
    let long : length l.body ≡ size * n = omega (arith, div-add-mod (length l.body) size, none) in
    let grown = length-append l.body (b ∷ []) in
    let next : length (l.body ++ b ∷ []) % size ≡ 1 = ap (λ (k : ℕ). k % size) grown
    ∙ next_mod size (length l.body) (omega (arith, none, large)) ∙ ap (λ (k : ℕ). k + 1) none in
    let before = laid.spelled ∙ framed_whole size n l.starts l.body (omega (arith, large)) long in
    record {
      placed = sym (place-some size (length (l.body ++ b ∷ [])) (omega (arith, next))
          ∙ ap (λ (k : ℕ). 1 + k) next);
      spelled = append_assoc bits (sci ∷ []) (b ∷ [])
          ∙ ap (λ (r : List Bool). r ++ (sci ∷ b ∷ [])) before ∙ spelled_so sci n long;
      begun = begun_so sci n long;
    }
  where
    spelled_so : (sci : Bool) (n : ℕ) → length l.body ≡ size * n →
        flat_map (laying.half_frame size l.starts l.body) (places n) ++ (sci ∷ b ∷ [])
        ≡ laying.framed size
        (record { body = l.body ++ b ∷ []; starts = if sci then l.starts ++ length l.body / size ∷ [] else l.starts })
    spelled_so true n long =
        let own : length l.body / size ≡ n = ap (λ (k : ℕ). k / size) (omega (arith, long))
        ∙ div-mul-add n size 0 (omega (arith, large)) in
        ap (λ (t : Bool). flat_map (laying.half_frame size l.starts l.body) (places n) ++
        (t ∷ b ∷ [])) (sym (any_own n l.starts))
        ∙ sym (framed_more size n l.starts (l.starts ++ n ∷ []) l.body (b ∷ [])
        (omega (arith, large)) long (omega arith) (omega (arith, large)) (λ h lt. any_other h n l.starts lt))
        ∙ ap (λ (k : ℕ). laying.framed size (record { body = l.body ++ b ∷ []; starts = l.starts ++ k ∷ [] })) (sym own)
    spelled_so false n long =
        ap (λ (t : Bool). flat_map (laying.half_frame size l.starts l.body) (places n) ++
        (t ∷ b ∷ [])) (sym (not_begun size n (length l.body) l.starts laid.begun long))
        ∙ sym (framed_more size n l.starts l.starts l.body (b ∷ []) (omega (arith, large)) long
        (omega arith) (omega (arith, large)) (λ h lt. refl))

    -- All noted half-frames still begin among the bits that were laid: the earlier ones did before,
    -- and a new one begins with the bit that is added.
    begun_so : (sci : Bool) (n : ℕ) → length l.body ≡ size * n → laying.HaveBegun size (length (l.body ++ b ∷ []))
        (if sci then l.starts ++ length l.body / size ∷ [] else l.starts)
    begun_so true n long =
        let own : length l.body / size ≡ n = ap (λ (k : ℕ). k / size) (omega (arith, long))
        ∙ div-mul-add n size 0 (omega (arith, large)) in
        let here : length l.body / size * size < length (l.body ++ b ∷ []) =
        rw own (omega (arith, long, length-append l.body (b ∷ []))) in
        below_push size (length (l.body ++ b ∷ [])) (length l.body / size) l.starts
        (below_more size (length l.body) (length (l.body ++ b ∷ [])) l.starts laid.begun
        (omega (arith, length-append l.body (b ∷ [])))) here
    begun_so false n long =
        below_more size (length l.body) (length (l.body ++ b ∷ [])) l.starts laid.begun
        (omega (arith, length-append l.body (b ∷ [])))

-- inside a half-frame
pub bit_next : (size place : ℕ) (l : laying.Laid) (bits : List Bool) (sci b : Bool) → 2 ≤ size →
    0 < place → laying.HasLaid (record { size = size; place = place }) l bits →
    (IsTrue sci → length l.body % size ≡ 0) →
    laying.HasLaid (record { size = size; place = if place == size then 0 else place + 1 })
    (laying.bit_on size l sci b) (bits ++ b ∷ [])
bit_next size place l bits true b large some laid whole =
    let within = place_within size (length l.body) place laid.placed some in
    absurd (omega (arith, whole refl, within.1))
bit_next size place l bits false b large some laid whole =
    let within = place_within size (length l.body) place laid.placed some in
    let room : length l.body % size < size = mod-lt (length l.body) (omega (arith, large)) in
    let grown = length-append l.body (b ∷ []) in
    record {
      placed = elim (cases_Bool (place == size)) [
        | inl last ↦
            let full : place ≡ size = eqb-true place size last in
            ap (λ (t : Bool). if t then 0 else place + 1) last
            ∙ sym (place-none size (length (l.body ++ b ∷ [])) (ap (λ (k : ℕ). k % size) grown
            ∙ last_mod size (length l.body) (omega (arith, large)) (omega (arith, full, within.0))))
        | inr less ↦
            let inner : length l.body % size + 1 < size = omega (arith, within.0, room, eqb-false place size less) in
            let next : length (l.body ++ b ∷ []) % size ≡ length l.body % size + 1 =
            ap (λ (k : ℕ). k % size) grown ∙ next_mod size (length l.body) inner in
            ap (λ (t : Bool). if t then 0 else place + 1) less
            ∙ sym (place-some size (length (l.body ++ b ∷ [])) (omega (arith, next))
            ∙ ap (λ (k : ℕ). 1 + k) next ∙ omega (arith, within.0))
      ];
      spelled = ap (λ (r : List Bool). r ++ b ∷ []) laid.spelled
          ∙ sym (framed_on size l.starts l.body (b ∷ []) within.1 (omega (arith, room)));
      begun = below_more size (length l.body) (length (l.body ++ b ∷ [])) l.starts laid.begun
          (omega (arith, grown));
    }

-- PADDING
fill-some : (size count : ℕ) → 0 < count % size → 0 < size → laying.fill size count ≡ size - count % size
unfolding laying.fill
fill-some size count some large = mod-eq_of_lt (omega (arith, some, large))

fill-none : (size count : ℕ) → count % size ≡ 0 → laying.fill size count ≡ 0
unfolding laying.fill
fill-none size count none = let full : size - count % size ≡ size =
    omega (arith, none) in ap (λ (k : ℕ). k % size) full ∙ mod_self size

-- what is left of the half-frame under way
pub left_is : (layout : laying.Place) (l : laying.Laid) (bits : List Bool) → 0 < layout.size →
    layout.place ≤ layout.size → laying.HasLaid layout l bits →
    laying.left_in layout ≡ laying.fill layout.size (length l.body)
left_is layout l bits large most laid =
    let size = layout.size in
    elim (cases_lt 0 layout.place) [
      | inl some ↦
          let within = place_within size (length l.body) layout.place laid.placed some in
          let f : (layout.place == 0) ≡ false = ne_eqb layout.place 0 (λ e. omega (arith, some, e)) in
          ap (λ (t : Bool). if t then 0 else size + 1 - layout.place) f ∙ omega (arith, within.0)
          ∙ sym (fill-some size (length l.body) within.1 large)
      | inr none ↦
          let zero_place : layout.place ≡ 0 = omega (arith, none) in
          let t : (layout.place == 0) ≡ true = eq-eqb layout.place 0 zero_place in
          let whole = place_zero size (length l.body) (sym zero_place ∙ laid.placed) in
          ap (λ (t : Bool). if t then 0 else size + 1 - layout.place) t
          ∙ sym (fill-none size (length l.body) whole)
    ]

pub same_left : (size count : ℕ) → laying.fill size count ≡ bits_left size count
unfolding laying.fill bits_left
same_left size count = refl

-- padded bits fill whole half-frames
pub padded_whole : (size : ℕ) (bits : List Bool) → 0 < size → length (laying.padded_to size bits) % size ≡ 0
padded_whole size bits large =
    let count = length bits in
    let n = count / size in
    let all = div-add-mod count size in
    let below : count % size < size = mod-lt count large in
    let zeros = laying.fill size count in
    let long : length (laying.padded_to size bits) ≡ count + zeros =
    length-append bits (replicate zeros false)
    ∙ ap (λ (k : ℕ). count + k) (length-replicate zeros false) in
    elim (cases_lt 0 (count % size)) [
      | inl some ↦
          let turned : length (laying.padded_to size bits) ≡ suc n * size + 0 =
          omega (arith, long, fill-some size count some large, all, below) in
          ap (λ (k : ℕ). k % size) turned ∙ mod-mul-add (suc n) size 0 large
      | inr none ↦
          let turned : length (laying.padded_to size bits) ≡ n * size + 0 =
          omega (arith, long, fill-none size count (omega (arith, none)), all, none) in
          ap (λ (k : ℕ). k % size) turned ∙ mod-mul-add n size 0 large
    ]

pub zero_more : (bits : List Bool) (k : ℕ) → (bits ++ replicate k false) ++ false ∷ [] ≡ bits ++ replicate (k + 1) false
zero_more bits k =
    append_assoc bits (replicate k false) (false ∷ [])
    ∙ ap (λ (r : List Bool). bits ++ r) (replicate-append-replicate k 1 false)

pub way_is : (size : ℕ) (l : laying.Laid) (follow : Bool) (k : ℕ) →
    k ≡ cond follow 0 (laying.fill size (length l.body)) →
    record { body = l.body ++ replicate k false; starts = l.starts } ≡ laying.way_for size l follow
way_is size l true k is =
    ap (λ (n : ℕ). let m : laying.Laid =
    record { body = l.body ++ replicate n false; starts = l.starts } in m) is
    ∙ ap (λ (body : List Bool). let m : laying.Laid =
    record { body = body; starts = l.starts } in m) (append-nil l.body)
way_is size l false k is =
    ap (λ (n : ℕ). let m : laying.Laid =
    record { body = l.body ++ replicate n false; starts = l.starts } in m) is

-- A CAPSULE
-- its first bit
pub capsule_first : (size : ℕ) (l : laying.Laid) (follow b : Bool) (capsule : List Bool) → take 1 capsule ≡ b ∷ [] →
    laying.bit_on size (laying.way_for size l follow) (not follow) b ≡ laying.laid_on size l follow (take 1 capsule)
unfolding laying.laid_on
capsule_first size l true b capsule is =
    ap (λ (bits : List Bool). let m : laying.Laid =
    record { body = l.body ++ bits; starts = l.starts } in m) (sym is)
capsule_first size l false b capsule is =
    let front = laying.padded_to size l.body in
    ap (λ (bits : List Bool). let m : laying.Laid =
    record { body = front ++ bits; starts = l.starts ++ length front / size ∷ [] } in m) (sym is)

-- its next bit
pub capsule_next : (size : ℕ) (l : laying.Laid) (follow b : Bool) (capsule : List Bool) (i : ℕ) →
    take (i + 1) capsule ≡ take i capsule ++ b ∷ [] →
    laying.bit_on size (laying.laid_on size l follow (take i capsule)) false b
    ≡ laying.laid_on size l follow (take (i + 1) capsule)
unfolding laying.laid_on
capsule_next size l true b capsule i is =
    ap (λ (bits : List Bool). let m : laying.Laid = record { body = bits; starts = l.starts } in m)
    (append_assoc l.body (take i capsule) (b ∷ []) ∙ ap (λ (r : List Bool). l.body ++ r) (sym is))
capsule_next size l false b capsule i is =
    let front = laying.padded_to size l.body in
    ap (λ (bits : List Bool). let m : laying.Laid =
    record { body = bits; starts = l.starts ++ length front / size ∷ [] } in m)
    (append_assoc front (take i capsule) (b ∷ []) ∙ ap (λ (r : List Bool). front ++ r) (sym is))

pub way_whole : (size : ℕ) (l : laying.Laid) (follow : Bool) → 0 < size → IsTrue (not follow) →
    length (laying.way_for size l follow).body % size ≡ 0
way_whole size l true large no_follow = absurd (cc)
way_whole size l false large no_follow = padded_whole size l.body large

-- nothing laid
pub none_laid : (size : ℕ) → 0 < size →
    laying.HasLaid (record { size = size; place = 0 }) laying.nothing_laid []
none_laid size large =
    let none : 0 ≡ size * 0 = omega arith in
    record {
      placed = sym (place-none size 0 (mod-eq_of_lt large));
      spelled = sym (framed_whole size 0 [] [] large none
          ∙ flat_map-zero (laying.half_frame size [] []));
      begun = tt;
    }

pub left_most : (layout : laying.Place) (follow : Bool) (k : ℕ) → layout.size ≤ 95 →
    k ≡ cond follow 0 (laying.left_in layout) → k ≤ 95
left_most layout true k most is = omega (arith, is)
left_most layout false k most is =
    elim (cases_lt 0 layout.place) [
      | inl some ↦
          let f : (layout.place == 0) ≡ false = ne_eqb layout.place 0 (λ e. omega (arith, some, e)) in
          let left : laying.left_in layout ≡ layout.size + 1 - layout.place =
          ap (λ (t : Bool). if t then 0 else layout.size + 1 - layout.place) f in
          omega (arith, is, left, most, some)
      | inr none ↦
          let t : (layout.place == 0) ≡ true = eq-eqb layout.place 0 (omega (arith, none)) in
          let left : laying.left_in layout ≡ 0 = ap (λ (t : Bool). if t then 0 else layout.size + 1 - layout.place) t in
          omega (arith, is, left)
    ]

-- WHOLE HALF-FRAMES
-- what is laid, and zeros after it
pub padded_framed : (size : ℕ) (l : laying.Laid) → 0 < size → laying.half_frames_of size l
    ≡ laying.framed size l ++ replicate (laying.fill size (length l.body)) false
unfolding laying.half_frames_of
padded_framed size l large =
    let count = length l.body in
    let zeros = replicate (laying.fill size count) false in
    elim (cases_lt 0 (count % size)) [
      | inr none ↦
          let nothing : zeros ≡ [] = ap (λ (k : ℕ). replicate k false) (fill-none size count (omega (arith, none))) in
          ap (λ (body : List Bool). laying.framed size (record { body = body; starts = l.starts }))
          (ap (λ (r : List Bool). l.body ++ r) nothing ∙ append-nil l.body)
          ∙ sym (ap (λ (r : List Bool). laying.framed size l ++ r) nothing
          ∙ append-nil (laying.framed size l))
      | inl some ↦
          let below : count % size < size = mod-lt count large in
          let many : length zeros ≡ size - count % size =
          length-replicate (laying.fill size count) false ∙ fill-some size count some large in
          framed_on size l.starts l.body zeros some (omega (arith, many, below))
    ]
