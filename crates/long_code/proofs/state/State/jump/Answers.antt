use Rattle.long_code.proofs.Common.{◌≡◌, ◌+◌, ◌*◌, ◌%◌, ◌^◌, ◌<◌, ℕ, sym, ap, subst, ◌∙◌, arith, bit_and, and_mask, IsState, after}
use Rattle.long_code.proofs.After.{after_one, after-after, after_none, odd_left, even_left}
use Rattle.long_code.proofs.Period.{IsState-after}
use Rattle.long_code.proofs.state.State.jump.Goals.{then-left-eq1, else-left-eq1}
use Rattle.long_code.proofs.state.State.jump.Goals as goal

pub loop-left-init : goal.loop-left-init
loop-left-init c =
    let once : c.args.chips * 1 ≡ c.args.chips = omega arith in
    record {
      value = c.self.invariant.1;
      power = omega arith;
      chips = (1, sym (after_one 1), rw once (ap (λ (s : ℕ). after s c.args.chips) c.self.view_is));
    }

-- One halving of what is left of a jump keeps its length: the power then stands for twice as many
-- chips, and where what was left was odd the power's own chips are taken into the value first.
pub loop-left-preserved : goal.loop-left-preserved
loop-left-preserved c =
    let inv = c.loop-left.invariant in
    let e = inv.chips.0 in
    let left = c.loop-left.left in
    let low : bit_and left 1 ≡ left % 2 = and_mask left 1 in
    let squared : c.product-power.result ≡ after 1 (e + e) =
    c.product-power.ensures.product e inv.chips.1 ∙ ap (λ (p : ℕ). after p e) inv.chips.1 ∙
    after-after 1 e e in
    elim c.if-left-eq1.branch [
      | then-left-eq1 w ↦ record {
        value = rw w.value-is w.product-value.ensures.below;
        power = c.product-power.ensures.below;
        chips = (
          e + e,
          squared,
          odd_left c.loop-left.value _ e left _ (sym low ∙ w.if-left-eq1.true) (w.value-is ∙
              w.product-value.ensures.product e inv.chips.1) inv.chips.2,
        );
      }
      | else-left-eq1 w ↦ record {
        value = rw w.value-is inv.value;
        power = c.product-power.ensures.below;
        chips = (
          e + e,
          squared,
          rw w.value-is
              (even_left c.loop-left.value e left _ (omega (arith, low, w.if-left-eq1.false))
              inv.chips.2),
        );
      }
    ]

-- no chips are left
done : (value old chips left e : ℕ) → left ≡ 0 → value < 2 ^ 42 →
    after value (left * e) ≡ after old chips → value ≡ after old chips
done value old chips left e none small is =
    let over : left * e ≡ 0 = rw none (omega arith) in
    sym (after_none value small) ∙ ap (after value) (sym over) ∙ is

stays : (value inside old chips : ℕ) → value ≡ after old chips → inside ≡ old → IsState inside → IsState value
stays value inside old chips later same is =
    let P : ℕ → Type 0 = λ n. IsState n in
    subst P (sym (later ∙ ap (λ (s : ℕ). after s chips) (sym same))) (IsState-after inside chips is)

pub invariant_of-self : goal.invariant_of-self
invariant_of-self c =
    let inv = c.loop-left.invariant in
    stays c.loop-left.value c.self.inside.value c.args.self.now c.args.chips
    (done c.loop-left.value c.args.self.now c.args.chips c.loop-left.left inv.chips.0 (omega arith)
    inv.value inv.chips.2) c.self.view_is c.self.invariant

pub returns : goal.returns
returns c =
    let inv = c.loop-left.invariant in
    let later =
    done c.loop-left.value c.args.self.now c.args.chips c.loop-left.left inv.chips.0
    (omega arith) inv.value inv.chips.2 in
    record {
      later = later;
      state = stays c.loop-left.value c.self.inside.value c.args.self.now c.args.chips later
          c.self.view_is c.self.invariant;
    }
