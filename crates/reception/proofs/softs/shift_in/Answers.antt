use Rattle.reception.proofs.Common.{common_steps, ints, ◌≡◌, ◌≤◌, ℕ, [], ◌++◌, ◌-◌, length, take, drop, refl, ap, subst, sym, ◌∙◌, arith}
use Rattle.reception.proofs.Common.{length-drop, length-append, length-take, take_at, drop_all, post_of, AreSmall, append-nil}
use Rattle.reception.proofs.SoftSums.{shifted_small}
use Rattle.reception.proofs.softs.shift_in.Goals as goal

-- The fresh soft values come in at the end: the list is turned by their number, so that the oldest
-- ones stand last, and these are then overwritten.
pub returns-clause-value : goal.returns-clause-value
returns-clause-value c =
    let xs = c.args.softs.now in
    let ys = c.args.fresh.now in
    let n : ℕ = length ys in
    let turned = c.rotate_left.new.self in
    let after : turned ≡ drop n xs ++ take n xs = c.rotate_left.ensures.after in
    let copied : c.copy_from_slice.new.self ≡ ys = c.copy_from_slice.ensures.after in
    let few : n ≤ 384 = c.requires.few in
    let count : length xs ≡ 1152 = c.told-softs in
    let long : length (drop n xs) ≡ 1152 - n = omega (arith, length-drop n xs, count) in
    let whole : length turned ≡ 1152 =
    ap length after
    ∙ omega (arith, length-append (drop n xs) (take n xs), length-take n xs, long, count, few) in
    let front : take (1152 - n) turned ≡ drop n xs =
    ap (take (1152 - n)) after ∙ take_at (drop n xs) (take n xs) (1152 - n) long in
    let size : ℕ = 1152 - (1152 - n) in
    let back : post_of (1152 - n) size turned ≡ [] =
    drop_all size (drop (1152 - n) turned) (omega (arith, length-drop (1152 - n) turned, whole)) in
    rw (front, copied, back, append-nil) refl

pub returns-clause-small : goal.returns-clause-small
returns-clause-small c =
    let xs = c.args.softs.now in
    let ys = c.args.fresh.now in
    subst (AreSmall (length ys)) (sym (returns-clause-value c))
    (shifted_small (length ys) xs ys c.requires.few c.told-softs c.requires.small
    c.requires.fresh)

pub returns-clause-whole : goal.returns-clause-whole
returns-clause-whole c = grind (ints, arith, common_steps)
