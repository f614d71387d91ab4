-- The plan that a script names is lawful, its link isn't 0, and its own script names it again.
use Rattle.cell_script.proofs.Common.{◌≡◌, ℕ, zero, suc, ◌<◌, ◌≤◌, Bool, true, false, cond, List, length, refl, ap, subst, ◌∙◌, arith, None}
use Rattle.cell_script.proofs.Common.{Option, Some, Result, Ok, Err, option_or, nat_lt, ◌==◌, option_map, cond-false, ltb-false, norm, Gain}
use Rattle.cell_script.proofs.Common.{most_samples, Width, sent_paging_rate, CellPlan, SyncPlan, ScriptFault, TooBig, Walsh, loudness}
use Rattle.cell_script.proofs.Common.{most_part, IsLawfulPlan, IsSyncPlan, gain_fault, long_fault, channel_lines, loud_fault, named, silent}
use Rattle.cell_script.proofs.Common.{plan_fault, plan_named, traffic_lines, repeated, stated_plan, sync_gain_fault, unless, walsh_fault}
use Rattle.cell_script.proofs.Common.{HasSaid, IsStatedPlan, IsStatedSync, script_of, le-ltb}
use Rattle.cell_script.proofs.ScriptNumbers.{few_channels, have_own_numbers, lawful_beside, some_gains}
use Rattle.cell_script.proofs.WrittenPlans.{stated_back}

-- ---- a plan without a fault

neither : (fault later : Option ScriptFault) → option_or fault later ≡ None → (fault ≡ None) × (later ≡ None)
neither None later e = (refl, e)
neither (Some fault) later e = absurd (cc e)

-- the test of a fault failed
failed : (test : Bool) (fault : ScriptFault) (later : Option ScriptFault) →
    cond test (Some fault) later ≡ None → (test ≡ false) × (later ≡ None)
failed true fault later e = absurd (cc e)
failed false fault later e = (refl, e)

no_row : (fault : ℕ → ScriptFault) (row : Option ℕ) → option_map fault row ≡ None → row ≡ None
no_row fault None e = refl
no_row fault (Some row) e = absurd (cc e)

-- no gain is 0
some_gain : (gain : ℕ) → (gain == 0) ≡ false → 0 < gain
some_gain zero e = absurd (cc e)
some_gain (suc gain) e = omega arith

sync_gains : (sync : Option SyncPlan) → IsStatedSync sync → sync_gain_fault sync ≡ None → IsSyncPlan sync
sync_gains None said e = tt
sync_gains (Some sync) said e = (some_gain sync.gain (failed (sync.gain == 0) (Gain 32) None e).0, said)

-- A plan that was stated and has no fault is lawful: what the law asks of fields was stated, and
-- each test that found no fault gives what it asks of rows, gains, loudness or length.
lawful : (width : Width) (plan : CellPlan) → IsStatedPlan plan → plan_fault width plan ≡ None → IsLawfulPlan width plan
lawful width plan said e =
    let ls = channel_lines plan in
    let more = traffic_lines plan.traffic in
    let rate = sent_paging_rate plan.sync in
    let rows = neither (walsh_fault (repeated ls))
    (option_or (gain_fault plan.pilot plan.sync (silent ls))
    (option_or (loud_fault width (loudness plan)) (long_fault width plan.link.samples))) e in
    let gain = neither (gain_fault plan.pilot plan.sync (silent ls))
    (option_or (loud_fault width (loudness plan)) (long_fault width plan.link.samples)) rows.1 in
    let size = neither (loud_fault width (loudness plan)) (long_fault width plan.link.samples)
    gain.1 in
    let pilot = failed (plan.pilot.gain == 0) (Gain 0)
    (option_or (sync_gain_fault plan.sync) (option_map Gain (silent ls))) gain.0 in
    let gains = neither (sync_gain_fault plan.sync) (option_map Gain (silent ls)) pilot.1 in
    let own = have_own_numbers plan.paging more (no_row Walsh (repeated ls) rows.0) in
    record {
      pn = said.cell.pn;
      time = said.cell.time;
      lc = said.cell.lc;
      start = said.link.start;
      samples = ltb-false (most_samples width) plan.link.samples
          (failed (nat_lt (most_samples width) plan.link.samples) _ None size.1).0;
      pilot = some_gain plan.pilot.gain pilot.0;
      sync = sync_gains plan.sync said.sync gains.0;
      few = few_channels rate plan.paging said.paging own;
      paging = some_gains rate plan.paging more said.paging (no_row Gain (silent ls) gains.1);
      apart = own;
      traffic = lawful_beside plan.paging plan.traffic said.traffic
          (no_row Walsh (repeated ls) rows.0) (no_row Gain (silent ls) gains.1);
      loud = ltb-false (most_part width) (loudness plan)
          (failed (nat_lt (most_part width) (loudness plan)) _ None size.0).0;
    }

-- ---- the plan that a script names

pub small_named : (width : Width) (script : List ℕ) → length script ≤ 1048576 →
    plan_named width script ≡ named width (stated_plan script)
unfolding plan_named
small_named width script small =
    cond-false _ (Err TooBig) (named width (stated_plan script)) (le-ltb 1048576 (length script) small)

without_fault : (said plan : CellPlan) (fault : Option ScriptFault) → unless said fault ≡ Ok plan →
    (said ≡ plan) × (fault ≡ None)
without_fault said plan None e = (cc e, refl)
without_fault said plan (Some fault) e = absurd (cc e)

abbrev IsFaultless : Width → CellPlan → Type 0
IsFaultless width plan = plan_fault width plan ≡ None

named_stated : (width : Width) (big : Bool) (read : Result CellPlan ℕ) (plan : CellPlan) →
    cond big (Err TooBig) (named width read) ≡ Ok plan → (read ≡ Ok plan) × IsFaultless width plan
named_stated width true read plan e = absurd (cc e)
named_stated width false (Err n) plan e = absurd (cc e)
named_stated width false (Ok said) plan e =
    let told = without_fault said plan (plan_fault width said) e in
    (ap Ok told.0, subst (IsFaultless width) told.0 told.1)

-- its lines state it, and it has no fault
names_stated : (width : Width) (script : List ℕ) (plan : CellPlan) →
    plan_named width script ≡ Ok plan → (stated_plan script ≡ Ok plan) × IsFaultless width plan
unfolding plan_named
names_stated width script plan e = named_stated width _ (stated_plan script) plan e

-- what it says is within its bounds
pub named_said : (width : Width) (script : List ℕ) (plan : CellPlan) → plan_named width script ≡ Ok plan → HasSaid plan
named_said width script plan e = (stated_back script plan (names_stated width script plan e).0).0

-- so it is lawful
pub named_plan : (width : Width) (script : List ℕ) (plan : CellPlan) →
    plan_named width script ≡ Ok plan → IsLawfulPlan width plan × (0 < norm plan.link.factor)
named_plan width script plan e =
    let said = named_said width script plan e in
    (lawful width plan said.lawful (names_stated width script plan e).1, said.linked)

-- and is named by its script, where that isn't too big
pub named_back : (width : Width) (script : List ℕ) (plan : CellPlan) →
    plan_named width script ≡ Ok plan → length (script_of plan) ≤ 1048576 → plan_named width (script_of plan) ≡ Ok plan
named_back width script plan e small =
    let told = names_stated width script plan e in
    small_named width (script_of plan) small
    ∙ ap (named width) (stated_back script plan told.0).1
    ∙ ap (unless plan) told.1
