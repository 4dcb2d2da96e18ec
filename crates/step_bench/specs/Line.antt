-- The line that is printed for a step (own rule).
use Rattle.std.specs.Prelude.{ℕ, List, ◌++◌, codes, decimal}
use Rattle.xq_base.specs.declared.axis.Axis.{Axis}
use Rattle.step_bench.specs.declared.step.Taken.{Taken}
use Rattle.step_bench.specs.Axes.{name_of}

-- the name of the axis, the four counts and the number of the hits
abbrev pub line_of : Axis → Taken → List ℕ
line_of axis taken =
    name_of axis
    ++ codes " context " ++ decimal taken.tally.context
    ++ codes " result " ++ decimal taken.tally.result
    ++ codes " skipped " ++ decimal taken.tally.skipped
    ++ codes " read " ++ decimal taken.tally.read
    ++ codes " hits " ++ decimal taken.hits
    ++ codes "\n"
