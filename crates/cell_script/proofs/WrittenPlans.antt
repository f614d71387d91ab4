-- The script of a plan states that plan again, where some script states it.
use Rattle.cell_script.proofs.Common.{◌≡◌, ℕ, ◌+◌, ◌-◌, ◌==◌, cond, List, [], ◌∷◌, ◌++◌, length, take, refl, sym, ap, subst, ◌∙◌, Option}
use Rattle.cell_script.proofs.Common.{None, Some, Ok, ok_or, option_map, append_assoc, append-nil, map-append, flat_map, flat_map-append}
use Rattle.cell_script.proofs.Common.{cond_some, same_Some, Rate, R9600, R4800, CellPlan, SyncPlan, Page, PagingPlan, TrafficPlan, Stage}
use Rattle.cell_script.proofs.Common.{TrafficFrame, PagingLine, TrafficLine, Statement, Cell, Link, Pilot, Sync, Paging, FirstPage, Pages}
use Rattle.cell_script.proofs.Common.{Traffic, FirstFrame, Frames, Draft, draft_at, empty_draft, plan_at, with_line, with_next, with_page}
use Rattle.cell_script.proofs.Common.{with_statement, on_last, opened_paging, opened_traffic, draft_after, is_line, lines, stated, is_cycle}
use Rattle.cell_script.proofs.Common.{stated_plan, statement_in, stage_after_sync, count_after, is_complete, may_follow, next_stage, ◌&&◌}
use Rattle.cell_script.proofs.Common.{page_stage, line_of_paging, line_of_traffic, lines_of, paging_statements, statement_line, script_of}
use Rattle.cell_script.proofs.Common.{statement_text, statements_of, sync_statements, traffic_statements, one_frame_more, one_page_more}
use Rattle.cell_script.proofs.Common.{with_frame, sent_paging_rate, HasSaid, IsLawfulStatement, cond_both}
use Rattle.cell_script.proofs.ChannelStages.{HasChannels, IsAtStage, IsBare, IsChannelOpen, IsOpenTraffic, added, all_said, empty_said}
use Rattle.cell_script.proofs.ChannelStages.{frame_next}
use Rattle.cell_script.proofs.ChannelStages.{page_next, paging_next, said_at, said_whole, traffic_next, with_channel, with_more, with_sent}
use Rattle.cell_script.proofs.ChannelStages.{with_traffic}
use Rattle.cell_script.proofs.LastChanged.{on_last-last}
use Rattle.cell_script.proofs.ScriptBounds.{passed, tried}
use Rattle.cell_script.proofs.ScriptRanges.{line_bounds, line_writable}
use Rattle.cell_script.proofs.ScriptSplits.{stated-fault, stated-next, stated-none}
use Rattle.cell_script.proofs.SpelledLines.{IsWritable, statement_spelled}
use Rattle.cell_script.proofs.StatedLines.{Leads, both_lead, leads_to_plan, none_leads, one_leads}
use Rattle.cell_script.specs.declared.statements.Statement.TheVariants as statements

-- ---- lines of statements

-- the line of a statement that may stand next leads to the draft after it
statement_leads : (draft next : Draft) (statement : Statement) → IsWritable statement →
    with_next draft statement ≡ Some next → Leads draft (statement_line statement) next
statement_leads draft next statement is e =
    let spelled = statement_spelled statement is in
    one_leads draft next (statement_text statement) statement spelled.1 spelled.0 e

-- and so do lines after it
pub first_leads : (draft middle next : Draft) (statement : Statement) (more : List Statement) →
    IsWritable statement → with_next draft statement ≡ Some middle →
    Leads middle (lines_of more) next → Leads draft (lines_of (statement ∷ more)) next
first_leads draft middle next statement more is e rest =
    both_lead draft middle next (statement_line statement) (lines_of more)
    (statement_leads draft middle statement is e) rest

line_added : (before : List Statement) (statement : Statement) →
    lines_of (before ++ statement ∷ []) ≡ lines_of before ++ statement_line statement
line_added before statement =
    flat_map-append statement_line before (statement ∷ [])
    ∙ ap (λ (t : List ℕ). lines_of before ++ t) (append-nil (statement_line statement))

-- ---- the statements of channels

abbrev channels_of : Option SyncPlan → List PagingPlan → List TrafficPlan → List Statement
channels_of sync paging traffic =
    sync_statements sync ++ (flat_map paging_statements paging ++ flat_map traffic_statements traffic)

nothing_sent : (sync : Option SyncPlan) (paging : List PagingPlan) (traffic : List TrafficPlan) →
    sync ≡ None → paging ≡ [] → traffic ≡ [] → channels_of sync paging traffic ≡ []
nothing_sent sync paging traffic no_sync no_paging no_traffic =
    ap (λ (s : Option SyncPlan). channels_of s paging traffic) no_sync
    ∙ ap (λ (ps : List PagingPlan). channels_of None ps traffic) no_paging
    ∙ ap (λ (ts : List TrafficPlan). channels_of None [] ts) no_traffic

one_channel : (sync : SyncPlan) (paging : List PagingPlan) (traffic : List TrafficPlan) → paging ≡ [] → traffic ≡ [] →
    channels_of (Some sync) paging traffic ≡ statements.Sync sync ∷ []
one_channel sync paging traffic no_paging no_traffic =
    ap (λ (ps : List PagingPlan). channels_of (Some sync) ps traffic) no_paging
    ∙ ap (λ (ts : List TrafficPlan). channels_of (Some sync) [] ts) no_traffic

-- paging channels with more statements, before which no traffic channel stands
paging_more : (sync : Option SyncPlan) (paging next : List PagingPlan)
    (traffic : List TrafficPlan) (more : List Statement) → traffic ≡ [] →
    flat_map paging_statements next ≡ flat_map paging_statements paging ++ more →
    channels_of sync paging traffic ++ more ≡ channels_of sync next traffic
paging_more sync paging next traffic more none is =
    let first = sync_statements sync in
    let before = flat_map paging_statements paging in
    let after = flat_map paging_statements next in
    let last = flat_map traffic_statements traffic in
    let bare : last ≡ [] = ap (flat_map traffic_statements) none in
    let old : before ++ last ≡ before = ap (λ (ts : List Statement). before ++ ts) bare ∙ append-nil before in
    let new : after ++ last ≡ after = ap (λ (ts : List Statement). after ++ ts) bare ∙ append-nil after in
    append_assoc first (before ++ last) more
    ∙ ap (λ (ss : List Statement). first ++ (ss ++ more)) old
    ∙ ap (λ (ss : List Statement). first ++ ss) (sym is)
    ∙ ap (λ (ss : List Statement). first ++ ss) (sym new)

-- traffic channels with more statements
traffic_more : (sync : Option SyncPlan) (paging : List PagingPlan)
    (traffic next : List TrafficPlan) (more : List Statement) →
    flat_map traffic_statements next ≡ flat_map traffic_statements traffic ++ more →
    channels_of sync paging traffic ++ more ≡ channels_of sync paging next
traffic_more sync paging traffic next more is =
    let first = sync_statements sync in
    let before = flat_map paging_statements paging in
    let last = flat_map traffic_statements traffic in
    append_assoc first (before ++ last) more
    ∙ ap (λ (ss : List Statement). first ++ ss) (append_assoc before last more)
    ∙ ap (λ (ss : List Statement). first ++ (before ++ ss)) (sym is)

-- one channel more
channel_more : {A : Type 0} (told : A → List Statement) (before : List A) (last : A) →
    flat_map told (before ++ last ∷ []) ≡ flat_map told before ++ told last
channel_more told before last =
    flat_map-append told before (last ∷ [])
    ∙ ap (λ (ss : List Statement). flat_map told before ++ ss) (append-nil (told last))

-- the last channel with more statements
last_more : {A : Type 0} (told : A → List Statement) (change : A → A) (all before : List A) (last : A)
    (more : List Statement) → all ≡ before ++ last ∷ [] → told (change last) ≡ told last ++ more →
    flat_map told (on_last change all) ≡ flat_map told all ++ more
last_more told change all before last more all_is is =
    ap (λ xs. flat_map told (on_last change xs)) all_is
    ∙ ap (flat_map told) (on_last-last change before last)
    ∙ channel_more told before (change last)
    ∙ ap (λ (ss : List Statement). flat_map told before ++ ss) is
    ∙ sym (append_assoc (flat_map told before) (told last) more)
    ∙ ap (λ (ss : List Statement). ss ++ more) (sym (channel_more told before last) ∙ ap (flat_map told) (sym all_is))

-- ---- the statements that make a plan

abbrev head_of : CellPlan → List Statement → List Statement
head_of plan more = statements.Cell plan.cell ∷ (statements.Link plan.link ∷ (statements.Pilot plan.pilot ∷ more))

next_told : (stage next : Stage) (plan : CellPlan) (said : List Statement) →
    Some stage ≡ Some next → said ≡ said_at stage plan → said ≡ said_at next plan
next_told stage next plan said e told = subst (λ (s : Stage). said ≡ said_at s plan) (same_Some stage next e) told

after_told : (sync : SyncPlan) (plan : CellPlan) → statements_of plan ≡ said_at (stage_after_sync sync) plan
after_told sync plan =
    let told = λ (s : Stage). statements_of plan ≡ said_at s plan in
    cond_both (sync.message.prat == 0) (Paging R9600) (cond (sync.message.prat == 1) (Paging R4800) Traffic)
    told (λ full. refl)
    (λ other. cond_both (sync.message.prat == 1) (Paging R4800) Traffic told (λ half. refl) (λ more. refl))

-- Before a sync line no channel was stated, so it is the only one after it.
sync_told : (plan : CellPlan) (sync : SyncPlan) → IsBare plan × (plan.sync ≡ None) →
    statements_of plan ++ statements.Sync sync ∷ [] ≡ statements_of (record plan { sync = Some sync })
sync_told plan sync has =
    ap (λ (ss : List Statement). head_of plan (ss ++ statements.Sync sync ∷ []))
    (nothing_sent plan.sync plan.paging plan.traffic has.1 has.0.0 has.0.1)
    ∙ ap (head_of plan) (sym (one_channel sync plan.paging plan.traffic has.0.0 has.0.1))

paging_told : (plan : CellPlan) (line : PagingLine) → plan.traffic ≡ [] →
    statements_of plan ++ statements.Paging line ∷ [] ≡ statements_of (with_channel plan line)
paging_told plan line bare =
    ap (head_of plan)
    (paging_more plan.sync plan.paging (plan.paging ++ opened_paging line ∷ []) plan.traffic
    (statements.Paging line ∷ []) bare (channel_more paging_statements plan.paging (opened_paging line)))

-- A page is added to the last paging channel: that channel's statements end with its pages and no
-- traffic channel comes after it, so the new one comes at the end.
page_told : (plan : CellPlan) (page : Page) (rate : Rate) (count : ℕ) → IsChannelOpen rate count plan →
    statements_of plan ++ statements.Page page ∷ [] ≡ statements_of (with_more plan page)
page_told plan page rate count o =
    let more = statements.Page page ∷ [] in
    ap (head_of plan)
    (paging_more plan.sync plan.paging (with_page plan.paging page) plan.traffic more o.bare
    (last_more paging_statements (one_page_more page) plan.paging o.before o.last more o.channels
    (ap (λ (ss : List Statement). statements.Paging (line_of_paging o.last) ∷ ss)
    (map-append statements.Page o.last.pages (page ∷ [])))))

traffic_told : (plan : CellPlan) (line : TrafficLine) →
    statements_of plan ++ statements.Traffic line ∷ [] ≡ statements_of (with_traffic plan line)
traffic_told plan line =
    ap (head_of plan)
    (traffic_more plan.sync plan.paging plan.traffic (plan.traffic ++ opened_traffic line ∷ [])
    (statements.Traffic line ∷ []) (channel_more traffic_statements plan.traffic (opened_traffic line)))

-- A frame is added to the last traffic channel, whose statements end with its frames.
frame_told : (plan : CellPlan) (frame : TrafficFrame) → IsOpenTraffic plan →
    statements_of plan ++ statements.Frame frame ∷ [] ≡ statements_of (with_sent plan frame)
frame_told plan frame o =
    let more = statements.Frame frame ∷ [] in
    ap (head_of plan)
    (traffic_more plan.sync plan.paging plan.traffic (with_frame plan.traffic frame) more
    (last_more traffic_statements (one_frame_more frame) plan.traffic o.before o.last more o.channels
    (ap (λ (ss : List Statement). statements.Traffic (line_of_traffic o.last) ∷ ss)
    (map-append statements.Frame o.last.frames (frame ∷ [])))))

page_staged : (rate : Rate) (count : ℕ) (next : Stage) (plan : CellPlan) (page : Page) →
    page_stage rate count page ≡ Some next → statements_of plan ≡ said_at next plan
unfolding page_stage
page_staged rate count next plan page e =
    let following = count_after rate count page in
    let is = cond_some (may_follow rate count page.follows && is_cycle rate following) (Pages rate following) next e in
    subst (λ (s : Stage). statements_of plan ≡ said_at s plan) is.1 refl

-- the statements after one more
abbrev said_with : Stage → CellPlan → Statement → List Statement
said_with stage plan statement = said_at stage plan ++ statement ∷ []

-- A statement that may stand next is told at its end by what leads to the next stage.
said_more : (statement : Statement) (stage next : Stage) (plan : CellPlan) →
    HasChannels stage plan → next_stage stage statement ≡ Some next →
    said_with stage plan statement ≡ said_at next (with_statement plan statement)
said_more (statements.Cell cell) Cell next plan has e = next_told Link next (record plan { cell = cell }) _ e refl
said_more (statements.Link link) Link next plan has e = next_told Pilot next (record plan { link = link }) _ e refl
said_more (statements.Pilot pilot) Pilot next plan has e =
    let now : CellPlan = record plan { pilot = pilot } in
    next_told Sync next now _ e
    (ap (head_of now) (sym (nothing_sent plan.sync plan.paging plan.traffic has.1 has.0.0 has.0.1)))
said_more (statements.Sync sync) Sync next plan has e =
    let now : CellPlan = record plan { sync = Some sync } in
    next_told (stage_after_sync sync) next now _ e (sync_told plan sync has ∙ after_told sync now)
said_more (statements.Paging line) stage next plan has e =
    let told = paging_next stage next plan has e in
    next_told (FirstPage (sent_paging_rate plan.sync)) next (with_channel plan line) _ told.2
    (ap (λ (ss : List Statement). ss ++ statements.Paging line ∷ [])
    (said_whole stage plan told.1) ∙ paging_told plan line told.0)
said_more (statements.Page page) stage next plan has e =
    let told = page_next stage next plan page has e in
    ap (λ (ss : List Statement). ss ++ statements.Page page ∷ []) told.4
    ∙ page_told plan page told.0 told.1 told.2
    ∙ page_staged told.0 told.1 next (with_more plan page) page told.3
said_more (statements.Traffic line) stage next plan has e =
    let told = traffic_next stage next e in
    next_told FirstFrame next (with_traffic plan line) _ told.1
    (ap (λ (ss : List Statement). ss ++ statements.Traffic line ∷ [])
    (said_whole stage plan told.0) ∙ traffic_told plan line)
said_more (statements.Frame frame) stage next plan has e =
    let told = frame_next stage next plan frame.rate has e in
    next_told (Frames told.0) next (with_sent plan frame) _ told.2
    (ap (λ (ss : List Statement). ss ++ statements.Frame frame ∷ []) told.3
    ∙ frame_told plan frame told.1)
said_more statement stage next plan has e = absurd (cc e)

-- a draft that the lines of these statements lead to, which are those of its plan
record IsMade (draft : Draft) (said : List Statement) : Type 0 where
  reached : IsAtStage draft.stage draft.plan
  told : said ≡ said_at draft.stage draft.plan
  leads : Leads empty_draft (lines_of said) draft

-- One statement more keeps what a draft is made of: its line leads on to the next draft, whose plan
-- is lawful and is stated by just the statements so far and this one.
made_next : (draft next : Draft) (said : List Statement) (statement : Statement)
    (stage : Option Stage) → IsMade draft said → IsLawfulStatement statement →
    IsWritable statement → with_next draft statement ≡ Some next → next_stage draft.stage statement ≡ stage →
    option_map (draft_at (with_statement draft.plan statement)) stage ≡ Some next → IsMade next (said ++ statement ∷ [])
made_next draft next said statement None made lawful is e after same = absurd (cc same)
made_next draft next said statement (Some stage) made lawful is e after same =
    let following : Draft = draft_at (with_statement draft.plan statement) stage in
    let same_draft : following ≡ next = same_Some following next same in
    subst (λ (d : Draft). IsMade d (said ++ statement ∷ [])) same_draft
    (record {
      reached = added draft.stage stage draft.plan statement lawful made.reached after;
      told = ap (λ (ss : List Statement). ss ++ statement ∷ []) made.told
          ∙ said_more statement draft.stage stage draft.plan made.reached.channels after;
      leads = subst (λ (t : List ℕ). Leads empty_draft t following) (sym (line_added said statement))
          (both_lead empty_draft draft following (lines_of said) (statement_line statement) made.leads
          (statement_leads draft following statement is
          (e ∙ ap (λ (d : Draft). Some d) (sym same_draft))));
    })

next_made : (draft next : Draft) (said : List Statement) (statement : Statement) →
    IsMade draft said → IsLawfulStatement statement → IsWritable statement →
    with_next draft statement ≡ Some next → IsMade next (said ++ statement ∷ [])
unfolding with_next
next_made draft next said statement made lawful is e =
    made_next draft next said statement (next_stage draft.stage statement) made lawful is e refl e

-- what a line that may stand next states
line_stated : (draft next : Draft) (line : List ℕ) → draft_after draft line ≡ Some next → (statement : Statement)
    × ((statement_in (take (length line - 1) line) ≡ Some statement)
    × (with_next draft statement ≡ Some next))
unfolding draft_after with_line
line_stated draft next line e =
    let text = take (length line - 1) line in
    let told = tried (with_next draft) (statement_in text) next (passed (is_line line) (with_line draft text) next e) in
    (told.0, (told.1, told.2))

line_made : (draft next : Draft) (said : List Statement) (line : List ℕ) → IsMade draft said →
    draft_after draft line ≡ Some next → (more : List Statement) × IsMade next more
line_made draft next said line made e =
    let text = take (length line - 1) line in
    let told = line_stated draft next line e in (
      said ++ told.0 ∷ [],
      next_made draft next said told.0 made (line_bounds text told.0 told.1.0)
          (line_writable text told.0 told.1.0) told.1.1,
    )

-- ---- the plan

some_plan : (read : Option CellPlan) (n : ℕ) (plan : CellPlan) → ok_or read n ≡ Ok plan → read ≡ Some plan
some_plan None n plan e = absurd (cc e)
some_plan (Some said) n plan e = cc e

script-is : (plan : CellPlan) → script_of plan ≡ lines_of (statements_of plan)
unfolding script_of
script-is plan = refl

-- what a plan says is within its bounds, and its script states it
abbrev pub IsBack : CellPlan → Type 0
IsBack plan = HasSaid plan × (stated_plan (script_of plan) ≡ Ok plan)

-- The plan of a complete draft is within its bounds and stated by its own script, since the draft
-- was reached by lawful statements, and their lines are just those of this script.
end_back : (draft : Draft) (said : List Statement) (plan : CellPlan) → IsMade draft said →
    plan_at draft ≡ Some plan → IsBack plan
end_back draft said plan made e =
    let told = cond_some (is_complete draft.stage) draft.plan plan e in
    let all : said ≡ statements_of plan =
    made.told ∙ said_whole draft.stage draft.plan told.0
    ∙ ap (λ (p : CellPlan). statements_of p) told.1 in (
      subst HasSaid told.1 (all_said draft.stage draft.plan made.reached told.0),
      ap stated_plan (script-is plan ∙ ap (λ (ss : List Statement). lines_of ss) (sym all))
          ∙ leads_to_plan (lines_of said) draft plan made.leads e,
    )

step_back : (draft : Draft) (n : ℕ) (said : List Statement) (line : List ℕ)
    (more : List (List ℕ)) (plan : CellPlan) (next : Option Draft) → draft_after draft line ≡ next → IsMade draft said →
    ((d : Draft) (ss : List Statement) → IsMade d ss → stated d (n + 1) more ≡ Ok plan →
    IsBack plan) →
    stated draft n (line ∷ more) ≡ Ok plan → IsBack plan
step_back draft n said line more plan None after made rest e = absurd (cc (stated-fault draft n line more after, e))
step_back draft n said line more plan (Some next) after made rest e =
    let told = line_made draft next said line made after in
    rest next told.0 told.1 (sym (stated-next draft next n line more after) ∙ e)

lines_back : (draft : Draft) (n : ℕ) (said : List Statement) (ls : List (List ℕ))
    (plan : CellPlan) → IsMade draft said → stated draft n ls ≡ Ok plan → IsBack plan
lines_back draft n said [] plan made e =
    end_back draft said plan made (some_plan (plan_at draft) n plan (sym (stated-none draft n) ∙ e))
lines_back draft n said (line ∷ more) plan made e =
    step_back draft n said line more plan (draft_after draft line) refl made
    (λ d ss now told. lines_back d (n + 1) ss more plan now told) e

none_made : IsMade empty_draft []
none_made = record { reached = empty_said; told = refl; leads = none_leads empty_draft }

-- a plan that lines state is within its bounds, and is stated by its script
pub stated_back : (script : List ℕ) (plan : CellPlan) → stated_plan script ≡ Ok plan → IsBack plan
unfolding stated_plan
stated_back script plan e = lines_back empty_draft 1 [] (lines script) plan none_made e
