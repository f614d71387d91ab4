-- Lemmas on beginnings of lists, on sinks that took one, and on calls that succeeded or failed.
use Rattle.cdma_io.proofs.Common.{◌≡◌, ℕ, ◌+◌, ◌≤◌, ◌++◌, List, length, take, drop, refl, sym, ap, ◌∙◌, subst, arith, append_assoc, Ok, Err}
use Rattle.cdma_io.proofs.Common.{length-append, length-take, length-take-le, Option, Result, take_at, Appends, Appends-trans}
use Rattle.std.proofs.KnownBytes.{starts_with_rest}
use Rattle.std.proofs.Math.Seq.{take-append-add}
use Rattle.std.proofs.lemmas.List.{take-append-le}
use Rattle.std.specs.Io.{StartsWith}
use Rattle.std.specs.Prelude.{OnErr, OnOk}
use Rattle.cdma_io.specs.Outside.{AppendsPrefix}

-- a list begins with its front
pub front_begins : (all front back : List ℕ) → all ≡ front ++ back → StartsWith all front
front_begins all front back is = ap (take (length front)) is ∙ take_at front back (length front) refl

pub taken_begins : (all : List ℕ) (n : ℕ) → n ≤ length all → StartsWith all (take n all)
taken_begins all n fits = ap (λ (k : ℕ). take k all) (length-take-le n all fits)

-- the same list precedes both
pub begins_more : (front all part : List ℕ) → StartsWith all part → StartsWith (front ++ all) (front ++ part)
begins_more front all part begins =
    let back = drop (length part) all in
    front_begins (front ++ all) (front ++ part) back
    (ap (λ (xs : List ℕ). front ++ xs) (starts_with_rest all part begins) ∙
    sym (append_assoc front part back))

-- ---- what a sink took

-- a beginning of a list
pub prefix_of : (old new : Option (List ℕ)) (all part : List ℕ) → Appends old new part →
    StartsWith all part → AppendsPrefix old new all
prefix_of old new all part written begins = record {
  count = length part;
  fits = omega (arith, sym (length-take (length part) all) ∙ ap length begins);
  appended = subst (Appends old new) (sym begins) written;
}

-- a beginning of a list is one of a longer list
pub prefix_before : (old new : Option (List ℕ)) (a b : List ℕ) → AppendsPrefix old new a →
    AppendsPrefix old new (a ++ b)
prefix_before old new a b part = record {
  count = part.count;
  fits = omega (arith, part.fits, length-append a b);
  appended = subst (Appends old new) (sym (take-append-le part.count a b part.fits)) part.appended;
}

-- a list, and a beginning of the next
pub prefix_after : (old mid new : Option (List ℕ)) (a b : List ℕ) → Appends old mid a →
    AppendsPrefix mid new b → AppendsPrefix old new (a ++ b)
prefix_after old mid new a b before part = record {
  count = length a + part.count;
  fits = omega (arith, part.fits, length-append a b);
  appended =
      subst (Appends old new) (sym (take-append-add a b part.count))
      (Appends-trans old mid new a (take part.count b) before part.appended);
}

-- ---- what follows if a call succeeded, or failed

pub on_ok : {T E : Type 0} (r : Result T E) (P Q : Type 0) → (P → Q) → OnOk r P → OnOk r Q
on_ok (Ok x) P Q f is = f is
on_ok (Err e) P Q f is = is

pub on_err : {T E : Type 0} (r : Result T E) (P Q : Type 0) → (P → Q) → OnErr r P → OnErr r Q
on_err (Ok x) P Q f is = is
on_err (Err e) P Q f is = f is
