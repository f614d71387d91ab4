-- Lemmas on the lines of ranks that are written one after the other.
use Rattle.run_replies.proofs.Common.{◌≡◌, ℕ, ◌+◌, ◌-◌, ◌<◌, ◌++◌, ◌∷◌, [], List, take, drop, sym, ap, ◌∙◌, subst, arith, append-nil, Some}
use Rattle.run_replies.proofs.Common.{Option, flat_map-append, Appends-nil, Appends, AppendsPrefix}
use Rattle.std.proofs.Common.{slice_get}
use Rattle.std.proofs.KnownBytes.{Appends-trans}
use Rattle.std.proofs.Math.Seq.{take-add}
use Rattle.std.proofs.lemmas.List.{take_more}
use Rattle.std.proofs.lemmas.Option.{get_or_from_slice_get, slice_get_within}
use Rattle.cdma_io.proofs.Prefixes.{prefix_after, prefix_before}
use Rattle.pilot_survey.specs.declared.rank.Rank.{Rank}
use Rattle.run_replies.specs.Ranks.{rank_line}
unfoldable use Rattle.run_replies.specs.Ranks.{ranks_text}

ranks_joined : (one other : List Rank) → ranks_text (one ++ other) ≡ ranks_text one ++ ranks_text other
unfolding ranks_text
ranks_joined one other = flat_map-append rank_line one other

one_line : (rank : Rank) → ranks_text (rank ∷ []) ≡ rank_line rank
unfolding ranks_text
one_line rank = append-nil (rank_line rank)

pub no_lines : (ranks : List Rank) (old : Option (List ℕ)) → Appends old old (ranks_text (take 0 ranks))
unfolding ranks_text
no_lines ranks old = Appends-nil old

-- the next rank
ranks_more : (ranks : List Rank) (place : ℕ) (rank : Rank) → slice_get ranks place ≡ Some rank →
    ranks_text (take (place + 1) ranks) ≡ ranks_text (take place ranks) ++ rank_line rank
ranks_more ranks place rank is =
    ap ranks_text
    (take_more ranks place rank (slice_get_within ranks place rank is)
    ∙ ap (λ (r : Rank). take place ranks ++ r ∷ []) (get_or_from_slice_get ranks place rank rank is))
    ∙ ranks_joined (take place ranks) (rank ∷ [])
    ∙ ap (λ (text : List ℕ). ranks_text (take place ranks) ++ text) (one_line rank)

-- its line was written
pub lines_more : (ranks : List Rank) (place : ℕ) (rank : Rank) (old mid new : Option (List ℕ)) →
    slice_get ranks place ≡ Some rank → Appends old mid (ranks_text (take place ranks)) →
    Appends mid new (rank_line rank) → Appends old new (ranks_text (take (place + 1) ranks))
lines_more ranks place rank old mid new is lines line =
    subst (Appends old new) (sym (ranks_more ranks place rank is))
    (Appends-trans old mid new (ranks_text (take place ranks)) (rank_line rank) lines line)

-- the lines of ranks are those of the first of them, the next one, and those after it
ranks_parted : (ranks : List Rank) (place top : ℕ) (rank : Rank) → slice_get ranks place ≡ Some rank → place < top →
    ranks_text (take top ranks) ≡ (ranks_text (take place ranks) ++ rank_line rank)
    ++ ranks_text (take (top - (place + 1)) (drop (place + 1) ranks))
ranks_parted ranks place top rank is below =
    let more = top - (place + 1) in
    let all : top ≡ (place + 1) + more = omega (arith, below) in
    ap (λ (n : ℕ). ranks_text (take n ranks)) all
    ∙ ap ranks_text (take-add (place + 1) more ranks)
    ∙ ranks_joined (take (place + 1) ranks) (take more (drop (place + 1) ranks))
    ∙ ap (λ (text : List ℕ). text ++ ranks_text (take more (drop (place + 1) ranks))) (ranks_more ranks place rank is)

-- a write failed in the middle of its line
pub lines_cut : (ranks : List Rank) (place top : ℕ) (rank : Rank) (old mid new : Option (List ℕ)) →
    slice_get ranks place ≡ Some rank → place < top →
    Appends old mid (ranks_text (take place ranks)) → AppendsPrefix mid new (rank_line rank) →
    AppendsPrefix old new (ranks_text (take top ranks))
lines_cut ranks place top rank old mid new is below lines part =
    let rest = ranks_text (take (top - (place + 1)) (drop (place + 1) ranks)) in
    subst (AppendsPrefix old new) (sym (ranks_parted ranks place top rank is below))
    (prefix_before old new (ranks_text (take place ranks) ++ rank_line rank) rest
    (prefix_after old mid new (ranks_text (take place ranks)) (rank_line rank) lines part))
