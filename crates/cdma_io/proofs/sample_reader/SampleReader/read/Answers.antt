use Rattle.cdma_io.proofs.Common.{◌≡◌, ◌*◌, ◌≤◌, length, take, min, ap, ◌∙◌, refl, subst, arith, common_steps, ints, length-take-le}
use Rattle.cdma_io.proofs.Common.{ConsumesAtMost, ConsumesFewer, Reading, sample_len, width_of}
use Rattle.cdma_io.proofs.sample_reader.SampleReader.read.Given.{Over}
use Rattle.cdma_io.proofs.sample_reader.SampleReader.read.Goals.{In-Err}
use Rattle.cdma_io.proofs.sample_reader.SampleReader.read.Goals as goal

pub returns-in-Ok-clause-in_range : goal.returns-in-Ok-clause-in_range
returns-in-Ok-clause-in_range g c = grind (ints, arith, common_steps)

pub returns-in-Ok-clause-samples : goal.returns-in-Ok-clause-samples
returns-in-Ok-clause-samples g c = grind (ints, arith, common_steps)

pub returns-in-Ok-clause-beyond : goal.returns-in-Ok-clause-beyond
returns-in-Ok-clause-beyond g c = grind (ints, arith, common_steps)

-- the bytes that are asked for are those of the samples that there is room for and are left
asked : (g : Over) (c : In-Err g) → sample_len c.width-width.result * length (take c.min-wanted.result c.args.out.now)
    ≡ sample_len (width_of c.args.self.now.header) * min (length c.args.out.now) c.args.self.now.left
asked g c =
    let left = ap (λ (r : Reading). r.left) c.self.view_is in
    let few : c.min-wanted.result ≤ length c.args.out.now = omega (arith, c.min-wanted.ensures) in
    let count : length (take c.min-wanted.result c.args.out.now)
    ≡ min (length c.args.out.now) c.args.self.now.left =
    omega (arith, length-take-le c.min-wanted.result c.args.out.now few, c.min-wanted.ensures, left) in
    let width : c.width-width.result ≡ width_of c.args.self.now.header =
    c.width-width.ensures ∙ ap (λ (r : Reading). width_of r.header) c.self.view_is in
    rw (width, count) refl

pub returns-in-Err-clause-fewer : goal.returns-in-Err-clause-fewer
returns-in-Err-clause-fewer g c = λ fresh.
    subst (λ n. ConsumesFewer n (g.S.Source.rest c.args.source.now) (g.S.Source.rest c.read_samples.new.source))
    (asked g (goal.at.returns-in-Err-clause-fewer g c).In-Err)
    c.in-Err.ensures.fewer

pub returns-in-Err-clause-taken : goal.returns-in-Err-clause-taken
returns-in-Err-clause-taken g c =
    subst (λ n. ConsumesAtMost n (g.S.Source.rest c.args.source.now) (g.S.Source.rest c.read_samples.new.source))
    (asked g (goal.at.returns-in-Err-clause-taken g c).In-Err)
    c.in-Err.ensures.taken

pub returns-in-Err-clause-cause : goal.returns-in-Err-clause-cause
returns-in-Err-clause-cause g c = grind (ints, arith, common_steps)

pub returns-in-Ok-clause-count : goal.returns-in-Ok-clause-count
returns-in-Ok-clause-count g c = grind (ints, arith, common_steps)

pub returns-in-Ok-clause-cause : goal.returns-in-Ok-clause-cause
returns-in-Ok-clause-cause g c = grind (ints, arith, common_steps)

pub returns-in-Err-clause-fault : goal.returns-in-Err-clause-fault
returns-in-Err-clause-fault g c = grind (ints, arith, common_steps)
