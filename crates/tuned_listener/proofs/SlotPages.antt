-- The messages of a slot, as its bits are taken one by one, and their lines.
use Rattle.tuned_listener.proofs.Common.{half_frame_capsule_ending, flat_map-places-more, flat_map_ext_places, slice_get_within, append-nil}
use Rattle.tuned_listener.proofs.Common.{flat_map-append, half_frame_body, option_to_list, paging_reading, length-take-le, length-append, ℕ}
use Rattle.tuned_listener.proofs.Common.{Appends-trans, AppendsPrefix, PagingMessage, prefix_before, append_assoc, pages_ending, taken_more}
use Rattle.tuned_listener.proofs.Common.{prefix_after, paging_line, capsules_in, slot_pages, slice_get, take-take, bool_byte, CheckForm, []}
use Rattle.tuned_listener.proofs.Common.{page_list, flat_map, take_all, is_some, Appends, length, Option, places, subst, arith, zero, Bool}
use Rattle.tuned_listener.proofs.Common.{List, ◌++◌, take, refl, None, Some, Rate, Page, ◌≡◌, ◌<◌, ◌≤◌, suc, ◌+◌, ◌-◌, ◌∷◌, sym, ◌∙◌, ap}

-- what stands at the front of the pieces of more numbers
pieces_begin : {X : Type 0} (f : ℕ → List X) (n d : ℕ) →
    (rest : List X) × (flat_map f (places (n + d)) ≡ flat_map f (places n) ++ rest)
pieces_begin {X = X} f n zero =
    let all : n + 0 ≡ n = omega arith in
    ([], ap (λ (k : ℕ). flat_map f (places k)) all ∙ sym (append-nil (flat_map f (places n))))
pieces_begin {X = X} f n (suc d) =
    let (rest, more) = pieces_begin f n d in
    let next : n + suc d ≡ (n + d) + 1 = omega arith in (
      rest ++ f (n + d),
      ap (λ (k : ℕ). flat_map f (places k)) next
          ∙ flat_map-places-more f (n + d)
          ∙ ap (λ (xs : List X). xs ++ f (n + d)) more
          ∙ append_assoc (flat_map f (places n)) rest (f (n + d)),
    )

-- how many messages one bit has
length-page : (page : Option Page) → length (page_list page) ≡ bool_byte (is_some page)
length-page None = refl
length-page (Some page) = refl

module _ (check : CheckForm) (rate : Rate) (bits : List Bool) where
  abbrev reading : List Bool → List PagingMessage
  reading capsule = option_to_list (paging_reading check capsule)

  -- the capsule that ends with bit i
  abbrev ending : ℕ → List (List Bool)
  ending i = option_to_list (half_frame_capsule_ending (half_frame_body rate) (take (i + 1) bits))

  -- the capsules of the first bits
  capsules_first : (n : ℕ) → n ≤ length bits →
      capsules_in (half_frame_body rate) (take n bits) ≡ flat_map ending (places n)
  unfolding capsules_in
  capsules_first n fits =
      let size = half_frame_body rate in
      let each = λ (i : ℕ). option_to_list (half_frame_capsule_ending size (take (i + 1) (take n bits))) in
      ap (λ (k : ℕ). flat_map each (places k)) (length-take-le n bits fits)
      ∙ flat_map_ext_places each ending n
      (λ k below. ap (λ (xs : List Bool). option_to_list (half_frame_capsule_ending size xs))
      (take-take (k + 1) n bits (omega (arith, below))))

  pages_first : (n : ℕ) → n ≤ length bits →
      slot_pages check rate (take n bits) ≡ flat_map reading (flat_map ending (places n))
  unfolding slot_pages
  pages_first n fits = ap (flat_map reading) (capsules_first n fits)

  -- no bit has a message
  pub pages_none : slot_pages check rate [] ≡ []
  unfolding places
  pages_none = pages_first 0 (omega arith)

  -- all bits have those of the slot
  pub pages_all : (n : ℕ) → length bits ≤ n → slot_pages check rate (take n bits) ≡ slot_pages check rate bits
  pages_all n most = ap (slot_pages check rate) (take_all n bits most)

  module _ (i : ℕ) (bit : Bool) (read : slice_get bits i ≡ Some bit) (page : Option Page)
      (size : ℕ) (size_is : size ≡ half_frame_body rate)
      (is : page_list page ≡ pages_ending check size (take i bits ++ bit ∷ [])) where
    abbrev first : List PagingMessage
    first = slot_pages check rate (take i bits)

    -- the messages of one bit more
    pub pages_more : slot_pages check rate (take (i + 1) bits) ≡ first ++ page_list page
    pages_more =
        let within : i < length bits = slice_get_within bits i bit read in
        pages_first (i + 1) (omega (arith, within))
        ∙ ap (flat_map reading) (flat_map-places-more ending i)
        ∙ flat_map-append reading (flat_map ending (places i)) (ending i)
        ∙ ap (λ (ms : List PagingMessage). ms ++ flat_map reading (ending i))
        (sym (pages_first i (omega (arith, within))))
        ∙ ap (λ (xs : List Bool). first ++ pages_ending check (half_frame_body rate) xs) (taken_more bits i bit read)
        ∙ ap (λ (n : ℕ). first ++ pages_ending check n (take i bits ++ bit ∷ [])) (sym size_is)
        ∙ ap (λ (ms : List PagingMessage). first ++ ms) (sym is)

    -- they stand at the front of those of all bits
    pages_begin : (rest : List PagingMessage) × (slot_pages check rate bits ≡ (first ++ page_list page) ++ rest)
    pages_begin =
        let within : i < length bits = slice_get_within bits i bit read in
        let n : ℕ = length bits in
        let (rest, parted) = pieces_begin ending (i + 1) (n - (i + 1)) in
        let whole : (i + 1) + (n - (i + 1)) ≡ n = omega (arith, within) in (
          flat_map reading rest,
          ap (slot_pages check rate) (sym (take_all n bits (omega arith)))
              ∙ pages_first n (omega arith)
              ∙ ap (λ (k : ℕ). flat_map reading (flat_map ending (places k))) (sym whole)
              ∙ ap (flat_map reading) parted
              ∙ flat_map-append reading (flat_map ending (places (i + 1))) rest
              ∙ ap (λ (ms : List PagingMessage). ms ++ flat_map reading rest)
              (sym (pages_first (i + 1) (omega (arith, within))) ∙ pages_more),
        )

    -- how many they are
    pub count_more : (count : ℕ) → count ≡ length first →
        count + bool_byte (is_some page) ≡ length (slot_pages check rate (take (i + 1) bits))
    count_more count so_far =
        let all = ap length pages_more in
        omega (arith, so_far, all, length-append first (page_list page), length-page page)

    -- ---- their lines

    module _ (at : ℕ) where
      -- what the bit has was written
      pub lines_more : (old mid new : Option (List ℕ)) → Appends old mid (flat_map (paging_line at) first) →
          Appends mid new (flat_map (paging_line at) (page_list page)) →
          Appends old new (flat_map (paging_line at) (slot_pages check rate (take (i + 1) bits)))
      lines_more old mid new lines line =
          subst (Appends old new)
          (sym (ap (flat_map (paging_line at)) pages_more
          ∙ flat_map-append (paging_line at) first (page_list page)))
          (Appends-trans old mid new (flat_map (paging_line at) first)
          (flat_map (paging_line at) (page_list page)) lines line)

      -- a write failed in the middle of it
      pub lines_cut : (old mid new : Option (List ℕ)) → Appends old mid (flat_map (paging_line at) first) →
          AppendsPrefix mid new (flat_map (paging_line at) (page_list page)) →
          AppendsPrefix old new (flat_map (paging_line at) (slot_pages check rate bits))
      lines_cut old mid new lines part =
          let (rest, parted) = pages_begin in
          let line = flat_map (paging_line at) (page_list page) in
          let last = flat_map (paging_line at) rest in
          subst (AppendsPrefix old new)
          (sym (ap (flat_map (paging_line at)) parted
          ∙ flat_map-append (paging_line at) (first ++ page_list page) rest
          ∙ ap (λ (text : List ℕ). text ++ last) (flat_map-append (paging_line at) first (page_list page))))
          (prefix_before old new (flat_map (paging_line at) first ++ line) last
          (prefix_after old mid new (flat_map (paging_line at) first) line lines part))
