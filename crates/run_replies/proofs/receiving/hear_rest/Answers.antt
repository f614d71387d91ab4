use Rattle.run_replies.proofs.Common.{◌≡◌, ◌≤◌, ◌+◌, ◌-◌, ◌*◌, ℕ, min, IfSome, IsNone, length, length-take-le, take, ap, ◌∙◌, refl, subst}
use Rattle.run_replies.proofs.Common.{arith, rules, Reading, width_of, sample_len, FileFault, ConsumesAtMost, Header, sample_len-mono}
use Rattle.run_replies.proofs.Common.{IsEnd, IsLong, IsRestFault, file_status}
use Rattle.run_replies.proofs.CutFiles.{has_bytes, no_long_cut}
use Rattle.run_replies.proofs.Faults.{rest_cut_fault, rest_extra_fault}
use Rattle.run_replies.proofs.Files.{blamed, wrong_length}
use Rattle.run_ends.proofs.Ends.{ended_by}
use Rattle.run_replies.proofs.Stopped.{lost_not_bad, lost_not_misread}
use Rattle.run_replies.proofs.Bounds.{passed_most, piece_most}
use Rattle.run_replies.proofs.HeardRest.{hears_all, hears_first, hears_more, hears_nothing, hears_part, hears_stopped}
use Rattle.run_replies.proofs.receiving.hear_rest.Given.{Over}
use Rattle.run_replies.proofs.receiving.hear_rest.Goals.{After-finish, After-read}
use Rattle.run_replies.proofs.receiving.hear_rest.Goals as goal

pub loop-reader-init : goal.loop-reader-init
loop-reader-init g c = record {
  hears = hears_nothing c.args.reader.now.left;
  kept = c.requires.kept;
  taken = search rules;
  same = search rules;
  low = search rules;
  good = search rules;
  room = search rules;
  later = search rules;
  later_sink = search rules;
}

pub returns-in_err-count-clause-written : goal.returns-in_err-count-clause-written
returns-in_err-count-clause-written g c =
    hears_part c.args.reader.now.left c.loop-reader.invariant.hears (omega arith) c.read.ensures.taken

-- Where a piece breaks off, the fault names the place at which the file ends: the reader has
-- counted all samples before the piece, and the bytes after them are fewer than those of the
-- samples that are left.
pub returns-in_err-count-clause-place : goal.returns-in_err-count-clause-place
returns-in_err-count-clause-place g c fault is =
    let inv = c.loop-reader.invariant in
    let none : IsNone c.loop-reader.reader.fault = rw inv.good refl in
    let e = blamed c.from_residual.result c.in_err-count.field-0.0 fault c.from_residual.ensures.1
    is in
    subst (λ (f : FileFault). IfSome (g.S.Source.rest c.args.source.now)
    (λ bytes. IsRestFault c.args.reader.now (length bytes) f)) e.0
    (rest_cut_fault c.in_err-count.field-0.0 c.args.reader.now c.loop-reader.reader _ _ _
    (length c.loop-reader.piece) inv.same inv.hears.passed inv.low c.requires.counted
    (c.in_err-count.ensures.fault none) e.2)

pub returns-in_err-count-clause-fault : goal.returns-in_err-count-clause-fault
returns-in_err-count-clause-fault g c fault is =
    let e = blamed c.from_residual.result c.in_err-count.field-0.0 fault c.from_residual.ensures.1
    is in (
      e.1,
      wrong_length (g.S.Source.rest c.args.source.now) c.args.reader.now fault
          (returns-in_err-count-clause-place g c fault is),
    )

pub hear-requires : goal.hear-requires
hear-requires g c =
    let n = c.in_ok-count.count in
    let long : length c.read.new.out ≡ length c.loop-reader.piece = search rules in
    let room : n ≤ length c.read.new.out = omega (arith, long, c.in_ok-count.ensures.count) in
    let fits : length (take n c.read.new.out) ≤ c.loop-reader.reader.left =
    omega (arith, length-take-le n c.read.new.out room, c.in_ok-count.ensures.count) in
    record {
      room = g.met.L.FileListener.fewer c.loop-reader.listener c.loop-reader.reader.left
          (length (take n c.read.new.out)) c.loop-reader.invariant.taken fits;
      kept = c.loop-reader.invariant.kept;
    }

-- Hearing one piece more keeps what the loop promises: the handset has heard the samples that were
-- read before, and then this piece's, and has as much less room as the piece has samples.
pub loop-reader-preserved : goal.loop-reader-preserved
loop-reader-preserved g c =
    let inv = c.loop-reader.invariant in
    let left = c.args.reader.now.left in
    let now = c.loop-reader.reader.left in
    let n = c.in_ok-count.count in
    let long : length c.read.new.out ≡ length c.loop-reader.piece = search rules in
    let fits : n ≤ now = omega (arith, c.in_ok-count.ensures.count) in
    let room : n ≤ length c.read.new.out = omega (arith, long, c.in_ok-count.ensures.count) in
    let fewer : c.read.new.self.left ≡ now - n = search rules in
    let taken : length (take n c.read.new.out) ≡ n = length-take-le n c.read.new.out room in
    record {
      hears = hears_more left now n _ c.read.new.out (ap width_of inv.same) fewer inv.hears inv.low
          fits room
          c.in_ok-count.ensures.in_range c.in_ok-count.ensures.samples c.in-Ok.ensures.ok;
      kept = c.hear.ensures.kept;
      taken = rw fewer
          (subst (λ (k : ℕ). g.L.FileListener.has_room c.hear.new.self (now - k)) taken
          (c.in-Ok.ensures.room now inv.taken));
      same = ap (λ (r : Reading). r.header) c.in_ok-count.ensures.ok ∙ inv.same;
      low = omega (arith, fewer, inv.low);
      good = search rules;
      room = omega (arith, long, inv.room);
      later = search rules;
      later_sink = search rules;
    }

-- Where the listener fails at a piece, the pieces before it were told of whole, and the sink has a
-- beginning of what is told of this one. The piece's samples are the file's next ones, and no more
-- than were left.
pub returns-in-Err-clause-written : goal.returns-in-Err-clause-written
returns-in-Err-clause-written g c =
    let inv = c.loop-reader.invariant in
    let n = c.in_ok-count.count in
    let long : length c.read.new.out ≡ length c.loop-reader.piece = search rules in
    let room : n ≤ length c.read.new.out = omega (arith, long, c.in_ok-count.ensures.count) in
    hears_stopped _ _ c.args.reader.now.left (ap width_of inv.same) inv.hears
    (omega (arith, length-take-le n c.read.new.out room, c.in_ok-count.ensures.count, inv.low))
    c.in_ok-count.ensures.in_range c.in_ok-count.ensures.samples c.in-Err.ensures.err

pub returns-in_err-finish-clause-written : goal.returns-in_err-finish-clause-written
returns-in_err-finish-clause-written g c =
    hears_part c.args.reader.now.left c.loop-reader.invariant.hears (omega arith) c.finish.ensures.taken

-- A byte too many is reported at the place where the file should end: no sample is left when the
-- loop is over, so the first byte that the check reads comes after the header and all samples that
-- it counts.
pub returns-in_err-finish-clause-place : goal.returns-in_err-finish-clause-place
returns-in_err-finish-clause-place g c fault is =
    let inv = c.loop-reader.invariant in
    let none : IsNone c.loop-reader.reader.fault = rw inv.good refl in
    let done : c.loop-reader.reader.left ≤ 0 = omega (arith, c.left.ensures.value, c.loop-reader-test.false) in
    let e = blamed c.from_residual-in_err-finish.result c.in_err-finish.field-0.0 fault
    c.from_residual-in_err-finish.ensures.1 is in
    subst (λ (f : FileFault). IfSome (g.S.Source.rest c.args.source.now)
    (λ bytes. IsRestFault c.args.reader.now (length bytes) f)) e.0
    (rest_extra_fault c.in_err-finish.field-0.0 c.args.reader.now c.loop-reader.reader _ _ inv.same
    inv.hears.passed done (c.in_err-finish.ensures.fault none) e.2)

pub returns-in_err-finish-clause-fault : goal.returns-in_err-finish-clause-fault
returns-in_err-finish-clause-fault g c fault is =
    let e = blamed c.from_residual-in_err-finish.result c.in_err-finish.field-0.0 fault
    c.from_residual-in_err-finish.ensures.1 is in (
      e.1,
      wrong_length (g.S.Source.rest c.args.source.now) c.args.reader.now fault
          (returns-in_err-finish-clause-place g c fault is),
    )

pub returns-clause-written : goal.returns-clause-written
returns-clause-written g c =
    hears_part c.args.reader.now.left c.loop-reader.invariant.hears (omega arith) c.finish.ensures.taken

pub returns-clause-ok : goal.returns-clause-ok
returns-clause-ok g c =
    let done : c.loop-reader.reader.left ≤ 0 = omega (arith, c.left.ensures.value, c.loop-reader-test.false) in
    hears_all c.args.reader.now.left c.loop-reader.reader.left c.loop-reader.invariant.hears done (search rules)

-- Where a piece can't be read, the listener has heard all samples before it, and the bytes that
-- were taken after them are no more than those of a piece, which has 4,096 samples.
pub returns-in_err-count-clause-cut : goal.returns-in_err-count-clause-cut
returns-in_err-count-clause-cut g c cut =
    let inv = c.loop-reader.invariant in
    let left = c.args.reader.now.left in
    let width = width_of c.args.reader.now.header in
    hears_first (λ (k : ℕ). k ≤ left) (sample_len width * 4096) inv.hears (omega arith)
    (subst (λ (h : Header). ConsumesAtMost
    (sample_len (width_of h) * min (length c.loop-reader.piece) c.loop-reader.reader.left)
    (g.S.Source.rest c.loop-reader.source) (g.S.Source.rest c.read.new.source)) inv.same
    c.read.ensures.taken)
    (sample_len-mono width (min (length c.loop-reader.piece) c.loop-reader.reader.left) 4096 (omega (arith, inv.room)))

-- A piece that can't be read never ends the run as a file that is too long does: its file was cut
-- short or reading it failed, and only a byte after the last sample makes a file too long.
pub returns-in_err-count-clause-long : goal.returns-in_err-count-clause-long
returns-in_err-count-clause-long g c long =
    let inv = c.loop-reader.invariant in
    let none : IsNone c.loop-reader.reader.fault = rw inv.good refl in
    absurd (no_long_cut c.in_err-count.field-0.0 _ _ _ _ (c.in_err-count.ensures.fault none)
    (subst IsLong
    (ended_by c.from_residual.result (file_status c.in_err-count.field-0.0)
    c.from_residual.ensures.1) long))

pub returns-in_err-finish-clause-cut : goal.returns-in_err-finish-clause-cut
returns-in_err-finish-clause-cut g c cut =
    let left = c.args.reader.now.left in
    let width = width_of c.args.reader.now.header in
    hears_first (λ (k : ℕ). k ≤ left) (sample_len width * 4096) c.loop-reader.invariant.hears
    (omega arith) c.finish.ensures.taken (has_bytes width)

pub returns-in_err-finish-clause-long : goal.returns-in_err-finish-clause-long
returns-in_err-finish-clause-long g c long =
    let left = c.args.reader.now.left in
    let done : c.loop-reader.reader.left ≤ 0 = omega (arith, c.left.ensures.value, c.loop-reader-test.false) in
    hears_first (λ (k : ℕ). k ≡ left) 1 c.loop-reader.invariant.hears (omega (arith, done))
    c.finish.ensures.taken (omega arith)

-- no more bytes were taken than those of the samples that were left, and one

read_most : (g : Over) (c : After-read g) →
    ConsumesAtMost (sample_len (width_of c.args.reader.now.header) * c.args.reader.now.left + 1)
    (g.S.Source.rest c.args.source.now) (g.S.Source.rest c.read.new.source)
read_most g c =
    let inv = c.loop-reader.invariant in
    let now = c.loop-reader.reader.left in
    piece_most c.args.reader.now.left now (min (length c.loop-reader.piece) now)
    (g.S.Source.rest c.args.source.now) _ _ inv.same inv.low (omega arith) inv.hears.passed
    c.read.ensures.taken

pub returns-in_err-count-clause-bound : goal.returns-in_err-count-clause-bound
returns-in_err-count-clause-bound g c = read_most g (goal.at.returns-in_err-count-clause-bound g c).After-read

pub returns-in-Err-clause-bound : goal.returns-in-Err-clause-bound
returns-in-Err-clause-bound g c = read_most g (goal.at.returns-in-Err-clause-bound g c).After-read

-- The check at the file's end takes one byte at most, and the samples that were heard before it are
-- no more than those that were left at first, so all the bytes taken are within the bound.
finished_most : (g : Over) (c : After-finish g) →
    ConsumesAtMost (sample_len (width_of c.args.reader.now.header) * c.args.reader.now.left + 1)
    (g.S.Source.rest c.args.source.now) (g.S.Source.rest c.finish.new.source)
finished_most g c =
    let left = c.args.reader.now.left in
    let now = c.loop-reader.reader.left in
    let width = width_of c.args.reader.now.header in
    passed_most (g.S.Source.rest c.args.source.now) _ _ c.loop-reader.invariant.hears.passed
    c.finish.ensures.taken (omega (arith, sample_len-mono width (left - now) left (omega arith)))

pub returns-in_err-finish-clause-bound : goal.returns-in_err-finish-clause-bound
returns-in_err-finish-clause-bound g c = finished_most g (goal.at.returns-in_err-finish-clause-bound g c).After-finish

pub returns-clause-bound : goal.returns-clause-bound
returns-clause-bound g c = finished_most g (goal.at.returns-clause-bound g c).After-finish

-- a run that ends otherwise wasn't cut short, and the file isn't too long

pub returns-clause-cut : goal.returns-clause-cut
returns-clause-cut g c cut = absurd cut

pub returns-clause-long : goal.returns-clause-long
returns-clause-long g c long = absurd long

pub returns-in-Err-clause-cut : goal.returns-in-Err-clause-cut
returns-in-Err-clause-cut g c cut = absurd cut

pub returns-in-Err-clause-long : goal.returns-in-Err-clause-long
returns-in-Err-clause-long g c long = absurd long

pub returns-clause-fault : goal.returns-clause-fault
returns-clause-fault g c fault is = absurd (subst IsEnd is tt)

pub returns-clause-place : goal.returns-clause-place
returns-clause-place g c fault is = absurd (subst IsEnd is tt)

pub returns-in-Err-clause-fault : goal.returns-in-Err-clause-fault
returns-in-Err-clause-fault g c fault is = absurd (lost_not_bad fault is)

pub returns-in-Err-clause-place : goal.returns-in-Err-clause-place
returns-in-Err-clause-place g c fault is = absurd (lost_not_bad fault is)

pub returns-in-Err-clause-sample_fault : goal.returns-in-Err-clause-sample_fault
returns-in-Err-clause-sample_fault g c fault is = absurd (lost_not_bad fault is)

pub returns-in-Err-clause-read_fault : goal.returns-in-Err-clause-read_fault
returns-in-Err-clause-read_fault g c is = absurd (lost_not_misread is)
