use Rattle.pilot_search.proofs.Common.{◌≡◌, ◌≤◌, ◌+◌, ◌*◌, ℕ, arith, rules, sym, ap, subst, get_or, ◌∙◌, common_steps, ints, drop_all}
use Rattle.pilot_search.proofs.Common.{get_or-replicate, magnitudes}
use Rattle.pilot_search.proofs.tails.Tails.of.Goals as goal

pub loop-k-init : goal.loop-k-init
loop-k-init c = record {
  within = omega arith;
  sum = (first_of (search rules, grind (arith, common_steps)));
  small = omega arith;
  long = (first_of (search rules, grind (arith, common_steps)));
  value = λ j low lt. get_or-replicate 512 j 0 0 lt ∙
      sym (ap magnitudes (drop_all (64 * j) c.args.samples.now low));
  below = λ j lt. let z : get_or (Rattle.std.proofs.Common.replicate 512 0) j 0 ≡ 0 = get_or-replicate 512 j 0 0 lt in
      subst (λ (n : ℕ). n + 65536 * (64 * j) ≤ 2147483648) (sym z) (omega arith);
}

pub loop-k-preserved-then-k-eq0 : goal.loop-k-preserved-then-k-eq0
loop-k-preserved-then-k-eq0 c = grind (ints, arith, common_steps)

pub loop-k-preserved : goal.loop-k-preserved
loop-k-preserved c = grind (ints, arith, common_steps)
