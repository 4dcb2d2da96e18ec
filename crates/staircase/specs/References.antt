-- Hits in one iteration, as references to nodes.
use Rattle.std.specs.Prelude.{ℕ, cond, List, [], ◌∷◌, nat_eq}
use Rattle.xq_base.specs.declared.axis.Axis.{Axis}
use Rattle.xq_base.specs.declared.axis.NodeTest.{NodeTest}
use Rattle.xq_base.specs.declared.item.FragKey.{FragKey}
use Rattle.xq_base.specs.declared.item.NodeRef.{NodeRef}
use Rattle.xq_base.specs.declared.item.TextId.{TextId}
use Rattle.doc_table.specs.Tree.{Tree}
use Rattle.doc_table.specs.Axes.{id_eq, test_of}
use Rattle.doc_table.specs.StepLaws.{AreReached}
use Rattle.staircase.specs.declared.kinds.Ctx.{Ctx}
use Rattle.staircase.specs.Joins.{AreHits}

abbrev pub ref_of : FragKey → Ctx → NodeRef
ref_of key c = record { frag = key; pre = c.pre; attr = c.attr }

-- the nodes of one iteration, in the fragment under this key
abbrev pub refs_of : FragKey → ℕ → List Ctx → List NodeRef
refs_of key iter [] = []
refs_of key iter (c ∷ cs) = cond (nat_eq c.iter iter) (ref_of key c ∷ refs_of key iter cs) (refs_of key iter cs)

-- the hits of an iteration are exactly the nodes that the step goes to from the context of this iteration
abbrev pub HitsAreReached : Type 0
HitsAreReached = (axis : Axis) (test : NodeTest) (trees : FragKey → Tree TextId) (key : FragKey) (cs hs : List Ctx) (iter : ℕ)
    → AreHits axis test (trees key) cs hs
    → AreReached id_eq axis (test_of test) trees (refs_of key iter cs) (refs_of key iter hs)
