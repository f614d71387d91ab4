-- Messages as contents of a layout: spelled and read again.
use Rattle.message_layout.proofs.Common.{◌≡◌, ℕ, ◌/◌, ◌%◌, ◌^◌, ◌<◌, Bool, true, false, cond, List, [], ◌∷◌, length, get_or, map, refl, sym}
use Rattle.message_layout.proofs.Common.{ap, subst, ◌∙◌, arith, Option, Some, None, nil_from_length, height, shares, mapped, reading, IsOf}
use Rattle.message_layout.proofs.Common.{is_lawful, MessageShape, spelling, Contents}
use Rattle.message_layout.proofs.Columns.{get-lengths, three_columns, three_long}
use Rattle.message_layout.proofs.Round.{reading_again, reading_there}

-- a type of messages that are contents of a layout, and made of such
pub record ByLayout {M : Type 0} (s : MessageShape) (into : M → Contents) (out : Contents → M) : Type 0 where
  pub lawful : is_lawful s ≡ true
  pub back : (c : Contents) → IsOf s c → into (out c) ≡ c
  pub made : (m : M) → out (into m) ≡ m

-- what a reading gave
pub mapped_some : {A B : Type 0} (f : A → B) (read : Option A) (y : B) →
    mapped f read ≡ Some y → (x : A) × (read ≡ Some x) × (f x ≡ y)
mapped_some f None y e = absurd (cc)
mapped_some f (Some x) y e = let same : f x ≡ y = cc in (x, refl, same)

pub mapped_cond : {A B : Type 0} (f : A → B) (b : Bool) (x : A) →
    mapped f (cond b (Some x) None) ≡ cond b (Some (f x)) None
mapped_cond f true x = refl
mapped_cond f false x = refl

-- contents of the layout are those of the message that is made of them
pub contents_in : {M : Type 0} (s : MessageShape) (into : M → Contents) (out : Contents → M) →
    ByLayout s into out → (c : Contents) → IsOf s c → IsOf s (into (out c))
contents_in s into out l c is = subst (IsOf s) (sym (l.back c is)) is

-- what was spelled is read again, and what is read is spelled so
pub read_again : {M : Type 0} (s : MessageShape) (into : M → Contents) (out : Contents → M) →
    ByLayout s into out → (m : M) → IsOf s (into m) → mapped out (reading s (spelling s (into m))) ≡ Some m
read_again s into out l m is = ap (mapped out) (reading_again s (into m) l.lawful is) ∙ ap Some (l.made m)

pub read_there : {M : Type 0} (s : MessageShape) (into : M → Contents) (out : Contents → M) →
    ByLayout s into out → (bits : List Bool) (m : M) → mapped out (reading s bits) ≡ Some m →
    IsOf s (into m) × (bits ≡ spelling s (into m))
read_there {M} s into out l bits m e =
    let some = mapped_some out (reading s bits) m e in
    let there = reading_there s bits some.0 l.lawful some.1 in
    let back = sym (l.back some.0 there.0) in
    subst (λ (n : M). IsOf s (into n) × (bits ≡ spelling s (into n))) some.2
    (subst (IsOf s) back there.0, there.1 ∙ ap (spelling s) back)

-- WHERE THERE IS LITTLE
-- no octets stand where none are counted
pub no_octets : (octets : List Bool) → length octets % 8 ≡ 0 → length octets / 8 < 2 ^ 0 → octets ≡ []
no_octets octets whole counted = nil_from_length octets (let e : length octets ≡ 0 = omega (arith, whole, counted) in e)

pub one_value : (vs : List ℕ) → length vs ≡ 1 → get_or vs 0 0 ∷ [] ≡ vs
one_value [] long = absurd (omega (arith, long))
one_value (v ∷ []) long = refl
one_value (v ∷ w ∷ vs) long = absurd (omega (arith, long))

pub column_parts : (ls : List (List ℕ)) (a b c : List ℕ) → length ls ≡ 3 → get_or ls 0 [] ≡ a →
    get_or ls 1 [] ≡ b → get_or ls 2 [] ≡ c → a ∷ b ∷ c ∷ [] ≡ ls
column_parts ls a b c long p q r = rw (← p, ← q, ← r) (three_columns ls long)

pub empty_column : (ls : List (List ℕ)) (lengths : List ℕ) (j : ℕ) → map length ls ≡ lengths →
    get_or lengths j 0 ≡ 0 → get_or ls j [] ≡ []
empty_column ls lengths j long none =
    nil_from_length (get_or ls j []) (sym (get-lengths ls j) ∙ ap (λ (ns : List ℕ). get_or ns j 0) long ∙ none)

-- the columns of records of no field, of one, of two and of three
pub no_columns : (ls : List (List ℕ)) → map length ls ≡ shares [] (height ls) → [] ∷ [] ∷ [] ∷ [] ≡ ls
no_columns ls long =
    let empty = empty_column ls (0 ∷ 0 ∷ 0 ∷ []) in
    column_parts ls [] [] [] (three_long [] (height ls) ls long) (empty 0 long refl)
    (empty 1 long refl) (empty 2 long refl)

pub first_column : (w : ℕ) (ls : List (List ℕ)) → map length ls ≡ shares (w ∷ []) (height ls) →
    get_or ls 0 [] ∷ [] ∷ [] ∷ [] ≡ ls
first_column w ls long =
    let empty = empty_column ls (height ls ∷ 0 ∷ 0 ∷ []) in
    column_parts ls (get_or ls 0 []) [] [] (three_long (w ∷ []) (height ls) ls long) refl
    (empty 1 long refl) (empty 2 long refl)

pub both_columns : (v w : ℕ) (ls : List (List ℕ)) → map length ls ≡ shares (v ∷ w ∷ []) (height ls) →
    get_or ls 0 [] ∷ get_or ls 1 [] ∷ [] ∷ [] ≡ ls
both_columns v w ls long =
    let empty = empty_column ls (height ls ∷ height ls ∷ 0 ∷ []) in
    column_parts ls (get_or ls 0 []) (get_or ls 1 []) []
    (three_long (v ∷ w ∷ []) (height ls) ls long) refl refl (empty 2 long refl)

pub all_columns : (u v w : ℕ) (ls : List (List ℕ)) → map length ls ≡ shares (u ∷ v ∷ w ∷ []) (height ls) →
    get_or ls 0 [] ∷ get_or ls 1 [] ∷ get_or ls 2 [] ∷ [] ≡ ls
all_columns u v w ls long = three_columns ls (three_long (u ∷ v ∷ w ∷ []) (height ls) ls long)
