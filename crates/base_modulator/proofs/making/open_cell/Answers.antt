use Rattle.std.proofs.Common.{IfSome, ◌≡◌, ◌≢◌, sym, ap, ◌∙◌, subst, rules, Ok, Err, take, length}
use Rattle.cell_script.specs.Script.{plan_named}
use Rattle.cell_script.specs.declared.script_fault.ScriptFault.{ScriptFault}
use Rattle.cell_script.specs.declared.script_fault.ScriptFault.TheVariants.{OutOfMemory}
use Rattle.run_ends.proofs.Ends.{ended_by}
use Rattle.run_ends.specs.Status.{script_status}
use Rattle.base_modulator.proofs.MadeFiles.{bad_script_is, memory_is, read_lawful, read_named, read_names, read_to_end}
use Rattle.base_modulator.proofs.making.open_cell.Given.{Over}
use Rattle.base_modulator.proofs.making.open_cell.Goals.{In-Ok}
use Rattle.base_modulator.proofs.making.open_cell.Goals as goal

-- the bytes that were read name what the script does
same_names : (g : Over) (c : In-Ok g) → IfSome (g.S.Source.rest c.args.source.now)
    (λ bytes. plan_named c.args.width (take c.in-Ok.count c.fill.new.buf)
    ≡ plan_named c.args.width bytes)
same_names g c =
    let room : length c.fill.new.buf ≡ 1048577 = search rules in
    read_names c.args.width (g.S.Source.rest c.args.source.now)
    (g.S.Source.rest c.fill.new.source) c.fill.new.buf c.in-Ok.count room c.in-Ok.ensures.bound
    c.in-Ok.ensures.bytes c.in-Ok.ensures.ends

-- Clause `bad_script` holds where `Cell::new` failed: a status that blames the script comes from a
-- fault in the bytes that were read, and these name what the whole script does.
pub returns-in_err-new-clause-bad_script : goal.returns-in_err-new-clause-bad_script
returns-in_err-new-clause-bad_script g c fault is =
    let blames =
    sym (ended_by c.from_residual.result (script_status c.in_err-new.field-0.0)
    c.from_residual.ensures.1) ∙ is in
    let e = bad_script_is c.in_err-new.field-0.0 fault blames in
    let other = subst (λ (f : ScriptFault). f ≢ OutOfMemory) (sym e.0) e.1 in (
      e.1,
      read_named c.args.width (g.S.Source.rest c.args.source.now) _ (Err fault)
          (same_names g (goal.at.returns-in_err-new-clause-bad_script g c).In-Ok)
          (c.in_err-new.ensures.fault other ∙ ap Err e.0),
    )

pub returns-in_err-new-clause-memory : goal.returns-in_err-new-clause-memory
returns-in_err-new-clause-memory g c none =
    let blames =
    sym (ended_by c.from_residual.result (script_status c.in_err-new.field-0.0)
    c.from_residual.ensures.1) ∙ none in
    read_lawful c.args.width (g.S.Source.rest c.args.source.now) _
    (same_names g (goal.at.returns-in_err-new-clause-memory g c).In-Ok)
    (c.in_err-new.ensures.memory (memory_is c.in_err-new.field-0.0 blames))

pub returns-clause-named : goal.returns-clause-named
returns-clause-named g c =
    read_named c.args.width (g.S.Source.rest c.args.source.now) _ (Ok c.in_ok-new.field-0.plan)
    (same_names g (goal.at.returns-clause-named g c).In-Ok) c.in_ok-new.ensures.planned

pub returns-clause-at_end : goal.returns-clause-at_end
returns-clause-at_end g c =
    let room : length c.fill.new.buf ≡ 1048577 = search rules in
    read_to_end c.args.width (g.S.Source.rest c.fill.new.source) c.fill.new.buf c.in-Ok.count
    c.in_ok-new.field-0.plan room c.in-Ok.ensures.bound c.in-Ok.ensures.ends
    c.in_ok-new.ensures.planned
