use Rattle.cdma_io.proofs.Common.{arith, common_steps, ints, ◌≡◌, ◌≤◌, ◌+◌, ◌-◌, ◌++◌, take, drop, length, ap, sym, ◌∙◌, length-append, ℕ}
use Rattle.cdma_io.proofs.Common.{length-drop, List, rules, drop_all}
use Rattle.cdma_io.specs.Memory.{SourceState}
use Rattle.cdma_io.proofs.Moves.{moved}
use Rattle.cdma_io.proofs.memory_source.MemorySourceSource.take.Goals as goal

-- A take gives the next bytes of the source and leaves those after them: what is copied to the
-- buffer's front begins at the source's place. Where it gives none to a buffer that has room, the
-- place is at the end and none are left.
pub returns-clause-bytes : goal.returns-clause-bytes
returns-clause-bytes c =
    let bytes = c.self.inside.bytes.items in
    let at = c.self.inside.at in
    let n = c.min-count.result in
    let copied : c.copy_from_slice.new.self ≡ take (at + n - at) (drop at bytes) =
    c.copy_from_slice.ensures.after ∙
    ap (λ (xs : List ℕ). take (at + n - at) (drop at xs)) c.deref-2.ensures.value in
    let within : at + n ≤ length bytes = search rules in (
      ap (λ (s : SourceState). s.bytes) (sym c.self.view_is) ∙
          moved bytes c.args.buf.now c.copy_from_slice.new.self at n within copied,
      λ none some. drop_all (at + n) bytes
          (let long : length (c.copy_from_slice.new.self ++ drop n c.args.buf.now) ≡
          length c.args.buf.now = search (rules, length-append, length-drop) in
          search rules),
    )

pub returns-clause-ok : goal.returns-clause-ok
returns-clause-ok c = grind (ints, arith, common_steps)

pub returns-clause-count : goal.returns-clause-count
returns-clause-count c = grind (ints, arith, common_steps)

pub returns-clause-cause : goal.returns-clause-cause
returns-clause-cause c = grind (ints, arith, common_steps)

pub returns-clause-bound : goal.returns-clause-bound
returns-clause-bound c = grind (ints, arith, common_steps)

pub returns-then-contains-clause-fails : goal.returns-then-contains-clause-fails
returns-then-contains-clause-fails c = grind (ints, arith, common_steps)

pub copy_from_slice-requires : goal.copy_from_slice-requires
copy_from_slice-requires c = grind (ints, arith, common_steps)
