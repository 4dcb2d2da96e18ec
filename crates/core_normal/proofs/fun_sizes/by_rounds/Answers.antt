use Rattle.std.proofs.Common.{◌≡◌, ◌∙◌, subst, arith, false}
use Rattle.core_normal.specs.Ends.{Known}
use Rattle.core_normal.specs.Measuring.{IsNext, declarations}
use Rattle.core_normal.specs.Query.{functions}
use Rattle.core_normal.specs.SizedQuery.{sizes_within}
use Rattle.core_normal.proofs.Tables.{turn_known, how_many_law}
use Rattle.core_normal.proofs.fun_sizes.by_rounds.Goals as goal

pub loop-turn-preserved : goal.loop-turn-preserved
loop-turn-preserved c = λ t.
    turn_known t c.args.declarations.now c.loop-turn._turn c.loop-turn.table.items c.in_ok-table.table.items (c.loop-turn.invariant t)
    (subst (λ xs. IsNext xs c.args.declarations.now c.in_ok-table.table.items) c.as_slice.ensures.value c.in_ok-table.ensures)

pub returns : goal.returns
returns c = λ t.
    let last : c.loop-turn._turn ≡ c.how_many-turn-end.result = omega arith in
    subst (λ k. Known false c.loop-turn.table.items (sizes_within k (functions (declarations t c.args.declarations.now))))
    (last ∙ c.how_many-turn-end.ensures ∙ how_many_law t c.args.declarations.now) (c.loop-turn.invariant t)
