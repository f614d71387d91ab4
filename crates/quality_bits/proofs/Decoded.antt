-- Capsules decoded as messages, for any type of message: what each exit of a decoder returns.
use Rattle.quality_bits.proofs.Common.{◌≡◌, ℕ, ◌+◌, ◌-◌, Bool, true, false, List, length, take, drop, refl, sym, ap, subst, ◌∙◌, arith, Ok}
use Rattle.quality_bits.proofs.Common.{Option, Some, None, Result, Err, inl, inr, IfOk, ok_or, ◌↔◌, cases_Bool, same_from, same_refl, Kind}
use Rattle.quality_bits.proofs.Common.{are_same, CheckForm, IsChecked, generator_of, FillsCapsule, IsWhole, capsule, if_spelled}
use Rattle.quality_bits.specs.declared.capsule.CapsuleFault.{CapsuleFault}
use Rattle.quality_bits.specs.declared.capsule.CapsuleFault.TheVariants as capsules
use Rattle.quality_bits.specs.declared.message_fault.MessageFault.{MessageFault}
use Rattle.quality_bits.specs.declared.message_fault.MessageFault.TheVariants.{BadBody, BadCheck, BadLength}
use Rattle.quality_bits.specs.Faults.{Decodes, fault_of, reading_of}
use Rattle.quality_bits.proofs.Wholes.{checked-capsule, inner, inner-capsule, whole-capsule}

-- messages that are spelled as bodies of capsules, and read of bodies and of capsules
pub record AreRead {M : Type 0} (kind : Kind) (form : CheckForm) (Is : M → Type 0)
    (body spelled : M → List Bool) (of_body of_capsule : List Bool → Option M) : Type 0 where
  pub spells : (m : M) → spelled m ≡ capsule kind form (body m)
  pub fills : (m : M) → Is m → FillsCapsule kind (body m)
  pub again : (m : M) → Is m → of_body (body m) ≡ Some m
  pub there : (bits : List Bool) (m : M) → FillsCapsule kind bits → of_body bits ≡ Some m → Is m × (bits ≡ body m)
  pub capsule_again : (m : M) → Is m → of_capsule (spelled m) ≡ Some m
  pub capsule_there : (bits : List Bool) (m : M) → of_capsule bits ≡ Some m → Is m × (bits ≡ spelled m)

-- reading turns spelling back
pub turned_back : {M : Type 0} {kind : Kind} {form : CheckForm} {Is : M → Type 0} {body spelled : M → List Bool}
    {of_body of_capsule : List Bool → Option M} → AreRead kind form Is body spelled of_body of_capsule →
    (bits : List Bool) (m : M) → (of_capsule bits ≡ Some m) ↔ (Is m × (bits ≡ spelled m))
turned_back {of_capsule = of_capsule} are bits m =
    (λ read. are.capsule_there bits m read, λ is. ap of_capsule is.1 ∙ are.capsule_again m is.0)

-- and so messages with one spelling are the same
pub one_message : {M : Type 0} {kind : Kind} {form : CheckForm} {Is : M → Type 0} {body spelled : M → List Bool}
    {of_body of_capsule : List Bool → Option M} → AreRead kind form Is body spelled of_body of_capsule →
    (m n : M) → Is m → Is n → spelled m ≡ spelled n → m ≡ n
one_message {of_capsule = of_capsule} are m n p q same =
    let both : Some m ≡ Some n = sym (are.capsule_again m p) ∙ ap of_capsule same ∙ are.capsule_again n q in
    cc

-- the body of a message's capsule
pub body_of_capsule : (kind : Kind) (form : CheckForm) (bits body other : List Bool) →
    bits ≡ capsule kind form body → bits ≡ capsule kind form other → body ≡ other
body_of_capsule kind form bits body other is same =
    sym (inner-capsule kind form body) ∙ ap (inner kind) (sym is ∙ same)
    ∙ inner-capsule kind form other

-- READINGS OF CAPSULES
-- what was spelled is read again, and what is read is spelled so
pub if_spelled-again : {M : Type 0} (kind : Kind) (form : CheckForm) (body : M → List Bool)
    (of_body : List Bool → Option M) (cut : ℕ) (m : M) →
    cut ≡ 8 + (generator_of kind).degree → of_body (body m) ≡ Some m →
    if_spelled (λ n. capsule kind form (body n)) (capsule kind form (body m))
    (of_body (take (length (capsule kind form (body m)) - cut)
    (drop 8 (capsule kind form (body m))))) ≡ Some m
if_spelled-again {M} kind form body of_body cut m is read =
    let spelled : M → List Bool = λ n. capsule kind form (body n) in
    let c = capsule kind form (body m) in
    let count : length c - cut ≡ length c - 8 - (generator_of kind).degree = omega (arith, is) in
    let inside : take (length c - cut) (drop 8 c) ≡ body m =
    ap (λ (k : ℕ). take k (drop 8 c)) count ∙ inner-capsule kind form (body m) in
    let same = same_refl c in
    ap (λ (bits : List Bool). if_spelled spelled c (of_body bits)) inside
    ∙ ap (if_spelled spelled c) read ∙ rw same refl

pub if_spelled-there : {M : Type 0} (spelled : M → List Bool) (bits : List Bool) (m : M)
    (read : Option M) → if_spelled spelled bits read ≡ Some m → (read ≡ Some m) × (bits ≡ spelled m)
if_spelled-there spelled bits m None e = absurd (cc)
if_spelled-there spelled bits m (Some n) e =
    elim (cases_Bool (are_same (spelled n) bits)) [
      | inl t ↦
          let found : Some n ≡ Some m = rw t at e in
          let same : n ≡ m = cc in
          (found, sym (same_from (spelled n) bits t) ∙ ap spelled same)
      | inr f ↦
          let none : None ≡ Some m = rw f at e in
          absurd (cc)
    ]

-- bodies that are read, and capsules that are read where their message is spelled so
pub read_by_spelling : {M : Type 0} (kind : Kind) (form : CheckForm) (Is : M → Type 0) (body spelled : M → List Bool)
    (of_body of_capsule : List Bool → Option M) (cut : ℕ) → cut ≡ 8 + (generator_of kind).degree →
    ((m : M) → spelled m ≡ capsule kind form (body m)) →
    ((bits : List Bool) → of_capsule bits
    ≡ if_spelled (λ n. capsule kind form (body n)) bits (of_body (take (length bits - cut) (drop 8 bits)))) →
    ((m : M) → Is m → FillsCapsule kind (body m)) → ((m : M) → Is m → of_body (body m) ≡ Some m) →
    ((bits : List Bool) (m : M) → of_body bits ≡ Some m → Is m × (bits ≡ body m)) →
    AreRead kind form Is body spelled of_body of_capsule
read_by_spelling kind form Is body spelled of_body of_capsule cut is spells reads fills again there =
    record {
      spells = spells;
      fills = fills;
      again = again;
      there = λ bits m full e. there bits m e;
      capsule_again = λ m p. ap of_capsule (spells m) ∙ reads (capsule kind form (body m))
          ∙ if_spelled-again kind form body of_body cut m is (again m p);
      capsule_there = λ bits m e.
          let inside = take (length bits - cut) (drop 8 bits) in
          let both = if_spelled-there (λ n. capsule kind form (body n)) bits m (of_body inside) (sym (reads bits) ∙ e) in
          ((there inside m both.0).0, both.1 ∙ sym (spells m));
    }

-- WHAT A DECODER RETURNS
no_reading : {M : Type 0} (of_capsule : List Bool → Option M) (bits : List Bool) (read : Option M) →
    of_capsule bits ≡ read → ((m : M) → ¬ (of_capsule bits ≡ Some m)) → None ≡ of_capsule bits
no_reading of_capsule bits None e never = sym e
no_reading of_capsule bits (Some m) e never = absurd (never m e)

-- that a capsule's body cannot be counted
abbrev pub uncounted : CapsuleFault → Result ℕ CapsuleFault
uncounted fault = Err fault

module _ {M : Type 0} {kind : Kind} {form : CheckForm} {Is : M → Type 0} {body spelled : M → List Bool}
    {of_body of_capsule : List Bool → Option M} (bits : List Bool)
    (are : AreRead kind form Is body spelled of_body of_capsule) where
  abbrev failed : MessageFault → Result M MessageFault
  failed fault = Err fault

  -- a fault, if no message is spelled so
  decodes_fault : (fault : MessageFault) → ((m : M) → Is m → ¬ (bits ≡ spelled m)) →
      ((failed fault ≡ failed BadLength) ↔ ¬ (IsWhole bits)) →
      ((failed fault ≡ failed BadCheck) ↔ (IsWhole bits × ¬ (IsChecked kind form bits))) →
      ((failed fault ≡ failed BadBody)
      ↔ (IsWhole bits × IsChecked kind form bits × ((m : M) → Is m → ¬ (bits ≡ spelled m)))) →
      Decodes kind form Is spelled of_capsule bits (Err fault)
  decodes_fault fault never long checked bad =
      record {
        found = tt;
        only = λ m is same. absurd (never m is same);
        reading = no_reading of_capsule bits (of_capsule bits) refl (λ m e.
            let is = are.capsule_there bits m e in
            never m is.0 is.1);
        bad_length = long;
        bad_check = checked;
        bad_body = bad;
      }

  -- a list of bits that is no capsule spells no message
  spells_none : (fault : CapsuleFault) → ((inside : List Bool) → FillsCapsule kind inside →
      bits ≡ capsule kind form inside → uncounted fault ≡ Ok (length inside)) →
      (m : M) → Is m → ¬ (bits ≡ spelled m)
  spells_none fault only m is same =
      let wrong = only (body m) (are.fills m is) (same ∙ are.spells m) in
      absurd (cc)

  -- the fault of a list of bits that is no capsule
  pub decodes_no_capsule : (fault : CapsuleFault) (result : Result M MessageFault) →
      ((inside : List Bool) → FillsCapsule kind inside →
      bits ≡ capsule kind form inside → uncounted fault ≡ Ok (length inside)) →
      ((uncounted fault ≡ uncounted capsules.BadLength) ↔ ¬ (IsWhole bits)) →
      ((uncounted fault ≡ uncounted capsules.BadCheck) ↔ (IsWhole bits × ¬ (IsChecked kind form bits))) →
      result ≡ Err (fault_of fault) → Decodes kind form Is spelled of_capsule bits result
  decodes_no_capsule capsules.BadLength result only long checked is =
      let none = long.0 refl in
      rw is (decodes_fault BadLength (spells_none capsules.BadLength only)
      (λ e. none, λ e. refl)
      (λ e. absurd (cc), λ whole. absurd (none whole.0))
      (λ e. absurd (cc), λ whole. absurd (none whole.0)))
  decodes_no_capsule capsules.BadCheck result only long checked is =
      let bad = checked.0 refl in
      rw is (decodes_fault BadCheck (spells_none capsules.BadCheck only)
      (λ e. absurd (cc), λ none. absurd (none bad.0))
      (λ e. bad, λ e. refl)
      (λ e. absurd (cc), λ whole. absurd (bad.1 whole.1)))

  -- what the body of a message's capsule is read as
  body_read : (inside : List Bool) (m : M) → bits ≡ capsule kind form inside → Is m →
      bits ≡ spelled m → of_body inside ≡ Some m
  body_read inside m found is same =
      ap of_body (body_of_capsule kind form bits inside (body m) found (same ∙ are.spells m)) ∙ are.again m is

  -- what is returned for a capsule with this body: the message that is read of it, or its fault
  decodes_body : (inside : List Bool) (read : Option M) →
      FillsCapsule kind inside × (bits ≡ capsule kind form inside) → read ≡ of_body inside →
      IsWhole bits → IsChecked kind form bits →
      Decodes kind form Is spelled of_capsule bits (ok_or read BadBody)
  decodes_body inside None found e whole checked =
      let never : (m : M) → Is m → ¬ (bits ≡ spelled m) = λ m is same.
      let both : None ≡ Some m = e ∙ body_read inside m found.1 is same in
      absurd (cc) in
      decodes_fault BadBody never
      (λ e. absurd (cc), λ none. absurd (none whole))
      (λ e. absurd (cc), λ none. absurd (none.1 checked))
      (λ e. (whole, checked, never), λ none. refl)
  decodes_body inside (Some m) found e whole checked =
      let is = are.there inside m found.0 (sym e) in
      let same : bits ≡ spelled m = found.1 ∙ ap (capsule kind form) is.1 ∙ sym (are.spells m) in
      record {
        found = (is.0, same);
        only = λ n other there.
            let both : Some m ≡ Some n = e ∙ body_read inside n found.1 other there in
            cc;
        reading = sym (ap of_capsule same ∙ are.capsule_again m is.0);
        bad_length = (λ e. absurd (cc), λ none. absurd (none whole));
        bad_check = (λ e. absurd (cc), λ none. absurd (none.1 checked));
        bad_body = (λ e. absurd (cc), λ none. absurd (none.2 m is.0 same));
      }

  pub decodes_capsule : (inside : List Bool) (read : Option M) (result : Result M MessageFault) →
      FillsCapsule kind inside × (bits ≡ capsule kind form inside) → read ≡ of_body inside →
      result ≡ ok_or read BadBody → Decodes kind form Is spelled of_capsule bits result
  decodes_capsule inside read result found e is =
      rw is (decodes_body inside read found e
      (subst IsWhole (sym found.1) (whole-capsule kind form inside found.0))
      (subst (IsChecked kind form) (sym found.1) (checked-capsule kind form inside)))
