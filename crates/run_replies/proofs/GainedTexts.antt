-- What a sink got of the text of samples, one after the other.
use Rattle.run_replies.proofs.Common.{ℕ, ◌+◌, ◌-◌, ◌++◌, [], List, sym, ap, ◌∙◌, subst, append_assoc, append-nil, Option, StartsWith}
use Rattle.run_replies.proofs.Common.{Appends-nil, Appends-trans, Sample, front_begins, Listening, GainsText, GainsPrefix, told}

pub more_none : (l : Listening) (heard : List Sample) (old : Option (List ℕ)) → GainsText l heard heard old old
more_none l heard old = record { text = []; written = Appends-nil old; all = append-nil (told l heard) }

pub more_after : {l : Listening} {before between heard : List Sample}
    {old mid new : Option (List ℕ)} → GainsText l before between old mid →
    GainsText l between heard mid new → GainsText l before heard old new
more_after {l} {before} {between} {heard} {old} {mid} {new} first next = record {
  text = first.text ++ next.text;
  written = Appends-trans old mid new first.text next.text first.written next.written;
  all = sym (append_assoc (told l before) first.text next.text)
      ∙ ap (λ (xs : List ℕ). xs ++ next.text) first.all ∙ next.all;
}

pub part_after : {l : Listening} {before between heard : List Sample}
    {old mid new : Option (List ℕ)} → GainsText l before between old mid →
    GainsPrefix l between heard mid new → GainsPrefix l before heard old new
part_after {l} {before} {between} {heard} {old} {mid} {new} first next = record {
  text = first.text ++ next.text;
  written = Appends-trans old mid new first.text next.text first.written next.written;
  begins =
      subst (StartsWith (told l heard))
      (ap (λ (xs : List ℕ). xs ++ next.text) (sym first.all)
      ∙ append_assoc (told l before) first.text next.text) next.begins;
}

pub all_part : {l : Listening} {before heard : List Sample} {old new : Option (List ℕ)} →
    GainsText l before heard old new → GainsPrefix l before heard old new
all_part {l} {before} {heard} more = record {
  text = more.text;
  written = more.written;
  begins = front_begins (told l heard) (told l before ++ more.text) []
      (sym more.all ∙ sym (append-nil (told l before ++ more.text)));
}
