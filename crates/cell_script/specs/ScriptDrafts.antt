-- The plan that the statements of a script build up, one after another.
use Rattle.cell_script.specs.Common.{Plain, CellPlan, Page, PagingPlan, TrafficPlan, TrafficLine}
use Rattle.cell_script.specs.Common.{TrafficFrame, Statement}
use Rattle.std.specs.Prelude.{ℕ, if◌then◌else◌, List, [], ◌∷◌, ◌++◌, pos, option_map, Option, None}
use Rattle.std.specs.Prelude.{option_and_then, Some}
use Rattle.cell_script.specs.declared.stage.Stage.{Stage}
use Rattle.cell_script.specs.declared.stage.Stage.TheVariants.{Cell}
use Rattle.cell_script.specs.declared.statements.PagingLine.{PagingLine}
use Rattle.cell_script.specs.ScriptLines.{statement_in}
use Rattle.cell_script.specs.ScriptStages.{is_complete, next_stage}
use Rattle.cell_script.specs.declared.statements.Statement.TheVariants as statements

-- the defaults of the parts of a plan that are not stated yet
abbrev pub empty_plan : CellPlan
empty_plan = record {
  cell = record { pn = 0; time = 0; lc = 1; check30 = Plain; check16 = Plain };
  link = record { factor = record { i = pos 1; q = pos 0 }; start = 0; samples = 1 };
  pilot = record { gain = 1 };
  sync = None;
  paging = [];
  traffic = [];
}

-- a channel without pages
abbrev pub opened_paging : PagingLine → PagingPlan
opened_paging line = record { number = line.number; gain = line.gain; pages = [] }

-- a list with its last entry changed
abbrev pub on_last : {A : Type 0} → (A → A) → List A → List A
on_last change [] = []
on_last change (x ∷ []) = change x ∷ []
on_last change (x ∷ (y ∷ xs)) = x ∷ on_last change (y ∷ xs)

-- a channel with another page, and channels with another page in the last
abbrev pub one_page_more : Page → PagingPlan → PagingPlan
one_page_more page p = record p { pages = p.pages ++ page ∷ [] }

abbrev pub with_page : List PagingPlan → Page → List PagingPlan
with_page paging page = on_last (one_page_more page) paging

-- a traffic channel without frames
abbrev pub opened_traffic : TrafficLine → TrafficPlan
opened_traffic line = record {
  row = line.row;
  esn = line.esn;
  offset = line.offset;
  gain = line.gain;
  frames = [];
}

-- a traffic channel with another frame, and channels with another frame in the last
abbrev pub one_frame_more : TrafficFrame → TrafficPlan → TrafficPlan
one_frame_more frame t = record t { frames = t.frames ++ frame ∷ [] }

abbrev pub with_frame : List TrafficPlan → TrafficFrame → List TrafficPlan
with_frame traffic frame = on_last (one_frame_more frame) traffic

-- the plan after a statement
abbrev pub with_statement : CellPlan → Statement → CellPlan
with_statement plan (statements.Cell cell) = record plan { cell = cell }
with_statement plan (statements.Link link) = record plan { link = link }
with_statement plan (statements.Pilot pilot) = record plan { pilot = pilot }
with_statement plan (statements.Sync sync) = record plan { sync = Some sync }
with_statement plan (statements.Paging line) =
    record plan { paging = plan.paging ++ opened_paging line ∷ [] }
with_statement plan (statements.Page page) = record plan { paging = with_page plan.paging page }
with_statement plan (statements.Traffic line) =
    record plan { traffic = plan.traffic ++ opened_traffic line ∷ [] }
with_statement plan (statements.Frame frame) =
    record plan { traffic = with_frame plan.traffic frame }

-- what the lines of a script have stated so far, and what may come next
pub record Draft : Type 0 where
  pub stage : Stage
  pub plan : CellPlan

abbrev pub empty_draft : Draft
empty_draft = record { stage = Cell; plan = empty_plan }

abbrev pub draft_at : CellPlan → Stage → Draft
draft_at plan stage = record { stage = stage; plan = plan }

-- the draft after a statement; None if the statement cannot come next
unfoldable pub with_next : Draft → Statement → Option Draft
with_next draft statement =
    option_map (draft_at (with_statement draft.plan statement)) (next_stage draft.stage statement)

-- the draft after a line's text
unfoldable pub with_line : Draft → List ℕ → Option Draft
with_line draft text = option_and_then (with_next draft) (statement_in text)

-- the plan, if no line is missing
abbrev pub plan_at : Draft → Option CellPlan
plan_at draft = if is_complete draft.stage then Some draft.plan else None
