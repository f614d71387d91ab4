use Rattle.rake_finger.proofs.Common.{◌≡◌, ◌+◌, ◌-◌, ◌<◌, length, get_or, drop, refl, ◌∙◌, arith, length-drop, pos, ints, get_or-drop}
use Rattle.rake_finger.proofs.Common.{length-replicate, length-set, All-set, All-replicate, Sample, IsNarrow}
use Rattle.rake_finger.proofs.Rings.{held_sample, next_cell, copied_more, copied_all}
use Rattle.rake_finger.proofs.moments.samples_before.Goals as goal

pub loop-k-init : goal.loop-k-init
loop-k-init c =
    let place = c.args.end - 512 in
    let nothing : Sample = record { i = pos 0; q = pos 0 } in
    let e : place + 0 ≡ place = omega arith in
    record {
      value = λ samples held. refl;
      long = length-replicate 512 nothing;
      narrow = All-replicate IsNarrow 512 nothing (omega (arith, ints));
      cell = rw e c.cell_of-cell.ensures.value;
      below = c.cell_of-cell.ensures.below;
    }

-- One sample more is copied out of the ring: the ring holds the 512 samples before the place, this
-- one's cell is the one after the last one's, and it is put at its own place in the copy.
pub loop-k-preserved : goal.loop-k-preserved
loop-k-preserved c =
    let ring = c.args.ring.now in
    let place = c.args.end - 512 in
    let k = c.loop-k.k in
    let cell = c.loop-k.cell in
    let sample = c.get.result in
    let inv = c.loop-k.invariant in
    let old = c.requires.held in
    let lt = c.loop-k-test.true in
    let long = inv.long in
    let small : IsNarrow sample = omega (arith, ints, c.get.type_inv) in
    record {
      value = λ samples held.
          let t = held.taken in
          let inside : k < length (drop place samples) = omega (arith, length-drop place samples, t, old.taken, lt) in
          let read : get_or (drop place samples) k sample ≡ sample =
          get_or-drop place samples k sample ∙
          held_sample ring samples (place + k) cell sample held (omega (arith, old.taken, lt))
          (omega (arith, old.kept)) inv.cell c.get.ensures in
          copied_more c.loop-k.samples (drop place samples) k sample (omega (arith, long, lt))
          inside read (inv.value samples held);
      narrow = All-set IsNarrow c.loop-k.samples k sample small inv.narrow;
      long = length-set c.loop-k.samples k sample ∙ long;
      cell = next_cell place k cell c.cell_after-cell.result ring.room inv.cell
          c.cell_after-cell.ensures.value;
      below = c.cell_after-cell.ensures.below;
    }

pub returns-clause-value : goal.returns-clause-value
returns-clause-value c = λ samples held.
    copied_all c.loop-k.samples (drop (c.args.end - 512) samples) c.loop-k.k 512 (omega arith)
    c.loop-k.invariant.long (c.loop-k.invariant.value samples held)
