-- The output of the command `survey`: the first ranks of the pilots, one line each.
use Rattle.run_replies.specs.Common.{Sample}
use Rattle.std.specs.Prelude.{ℕ, List, ◌++◌, take, codes, decimal}
use Rattle.std.specs.Fmt.{signed_decimal}
use Rattle.std.specs.List.{flat_map}
use Rattle.pilot_survey.specs.Survey.{ranking}
use Rattle.pilot_survey.specs.declared.rank.Rank.{Rank}

-- `survey pn=P delta=D energy=E` and LF; a delta below 0 has `-` before its digits
unfoldable pub rank_line : Rank → List ℕ
rank_line rank =
    codes "survey pn=" ++ decimal rank.pilot ++ codes " delta=" ++ signed_decimal rank.delta
    ++ codes " energy=" ++ decimal rank.energy ++ codes "\n"

-- the lines of ranks, in their order
unfoldable pub ranks_text : List Rank → List ℕ
ranks_text ranks = flat_map rank_line ranks

-- the lines of the first `top` ranks of samples, if the pilot of offset 0 has the phase `base`, and
-- each pilot is measured at the phases up to `width` chips from its own
unfoldable pub survey_text : ℕ → ℕ → ℕ → List Sample → List ℕ
survey_text base width top samples = ranks_text (take top (ranking samples base width))
