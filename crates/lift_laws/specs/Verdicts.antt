-- What the checks of a plan answer, and which demands stand behind an answer (own rule).
use Rattle.std.specs.Prelude.{◌≡◌, ℕ, ◌+◌, ◌≤◌, true, List, [], ◌∷◌, Option}
use Rattle.xq_base.specs.declared.code.Code.{Code}
use Rattle.xq_base.specs.Answers.{check_rank}
use Rattle.doc_table.specs.Ascending.{In}
use Rattle.plan_dag.specs.declared.op.OpId.{OpId}
use Rattle.plan_dag.specs.declared.check.Check.{Check}
use Rattle.plan_dag.specs.Cells.{Rules}
use Rattle.plan_dag.specs.ItemRules.{Cell}
use Rattle.plan_dag.specs.Meaning.{Table, PlanAnswer, Answers, Refuses, root_items, root_table}
use Rattle.core_meaning.specs.Expr.{Site}
use Rattle.core_meaning.specs.Lawful.{is_dynamic}
use Rattle.lift_laws.specs.Sums.{total, AllOf}
use Rattle.lift_laws.specs.Bulk.{Fault}
use Rattle.lift_laws.specs.States.{State, at, Small}
use Rattle.lift_laws.specs.Lifting.{numbers_at}

-- some failure has this node and code, and none is before it
pub record IsFirst (site : Site) (code : Code) (fs : List Fault) : Type 0 where
  pub here : total (λ (v : Cell). 1) (numbers_at site.number code fs) ≡ 0 → ⊥
  pub least : AllOf (λ f. (site.number ≤ f.failure.site.number) × (f.failure.site.number ≡ site.number → check_rank code ≤ check_rank f.failure.code)) fs

-- the node is one of these, and the check has its offset and the code of a dynamic error
abbrev pub OfNode : List Site → Site → Check → Type 0
OfNode ss site c = In site ss × (c.offset ≡ site.offset) × (is_dynamic c.code ≡ true)

-- the answer of the checks of these nodes, and what is known of the failures
pub data Verdict (R : Rules Cell) (ts : List (Table Cell)) (fs : List Fault) (root : Option OpId) (ss : List Site) : PlanAnswer Cell → Type 0 where
  quiet : fs ≡ [] → Verdict R ts fs root ss (Answers (root_items R (root_table R ts root)))
  failed : (site : Site) (c : Check) → OfNode ss site c → IsFirst site c.code fs → Verdict R ts fs root ss (Refuses c.code c.offset)

-- up to the first check that has a row, no operator at or before it has a greater demand; where none has one, no operator has
abbrev pub SmallFrom : ℕ → State → ℕ → List Check → Type 0
SmallFrom N s hi [] = Small s 0 hi N
SmallFrom N s hi (c ∷ cs) = Small s 0 (c.op.0 + 1) N × ((at s c.op).rows ≡ [] → SmallFrom N s hi cs)
