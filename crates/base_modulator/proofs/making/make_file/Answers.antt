use Rattle.std.proofs.Common.{[], inl, inr, refl, arith}
use Rattle.std.proofs.KnownBytes.{Appends-nil}
use Rattle.std.proofs.lemmas.Option.{IfSome_then}
use Rattle.run_ends.proofs.Ends.{ended_by}
use Rattle.base_modulator.proofs.MadeFiles.{made_part, made_whole, writes_part, writes_whole}
use Rattle.base_modulator.proofs.making.make_file.Goals as goal

-- the script names no cell, or isn't read
pub returns-in_err-cell : goal.returns-in_err-cell
returns-in_err-cell g c =
    let told = c.in_err-cell.ensures in
    rw (ended_by c.from_residual.result c.in_err-cell.field-0.0 c.from_residual.ensures.1)
    (record {
      done = λ done. absurd (told.failed done);
      at_end = λ done. absurd (told.failed done);
      others = (told.others.0, told.others.1, told.others.3);
      memory = λ none. refl;
      early = λ none. inr (told.memory none);
      bad_script = λ fault is. ((told.bad_script fault is).0, refl, (told.bad_script fault is).1);
      read_fault = told.read_fault;
      unwritten = λ failed. refl;
      write_fault = λ lost. absurd (told.others.2 lost);
      lawful = λ lost. absurd (told.others.2 lost);
      written = record { text = []; written = Appends-nil _; part = inl refl };
      bound = c.open_cell.ensures.bound;
      later_source = c.open_cell.ensures.later;
      later_sink = omega arith;
    })

-- its file is written
pub returns-in-Ok : goal.returns-in-Ok
returns-in-Ok g c =
    let rest = g.S.Source.rest c.args.source.now in
    let plan = c.in_ok-cell.cell.plan in
    let named = c.in_ok-cell.ensures.named in
    made_whole
    (IfSome_then rest named (λ bytes is. record { plan = plan; named = is; written = c.in-Ok.ensures.ok }))
    c.in_ok-cell.ensures.at_end (writes_whole c.args.width plan rest _ _ named c.in-Ok.ensures.ok)
    c.open_cell.ensures.bound c.open_cell.ensures.later c.write_cell.ensures.cause.later

-- or a write fails
pub returns : goal.returns
returns g c =
    let rest = g.S.Source.rest c.args.source.now in
    let plan = c.in_ok-cell.cell.plan in
    let named = c.in_ok-cell.ensures.named in
    made_part c.in-Err.ensures.cause.failed (IfSome_then rest named (λ bytes is. rw is refl))
    (writes_part c.args.width plan rest _ _ named c.in-Err.ensures.err) c.open_cell.ensures.bound
    c.open_cell.ensures.later c.write_cell.ensures.cause.later
