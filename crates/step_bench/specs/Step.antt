-- What a step gives (own rule).
use Rattle.std.specs.Prelude.{◌≡◌, List, length}
use Rattle.xq_base.specs.declared.item.TextId.{TextId}
use Rattle.xq_base.specs.declared.axis.Axis.{Axis}
use Rattle.xq_base.specs.declared.axis.NodeTest.TheVariants as n
use Rattle.doc_table.specs.Tree.{Tree}
use Rattle.doc_table.specs.Touched.{counts}
use Rattle.staircase.specs.declared.kinds.Ctx.{Ctx}
use Rattle.staircase.specs.Joins.{AreHits, places, tally_of}
use Rattle.step_bench.specs.declared.step.Taken.{Taken}

-- the counts of the step, and as many hits as it has
pub record IsTaken (axis : Axis) (t : Tree TextId) (context : List Ctx) (taken : Taken) : Type 0 where
  pub tally : taken.tally ≡ tally_of (counts axis t (places context))
  pub hits : List Ctx
  pub are_hits : AreHits axis n.Any t context hits
  pub many : taken.hits ≡ length hits
