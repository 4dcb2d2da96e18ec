-- What is said of any values of a call's arguments, from what is said of so many; and what its values may demand.
use Rattle.std.proofs.Common.{ℕ, ◌+◌, ◌≤◌, List, [], ◌∷◌, length, arith, map, Some}
use Rattle.doc_table.specs.NodeRules.{Docs}
use Rattle.plan_dag.specs.declared.op.OpId.{OpId}
use Rattle.plan_dag.specs.ItemRules.{Cell}
use Rattle.core_meaning.specs.Expr.{Site, Rule}
use Rattle.core_meaning.specs.Meaning.{value_in}
use Rattle.core_meaning.specs.Work.{rule_work}
use Rattle.lift_laws.specs.Sums.{total}
use Rattle.lift_laws.specs.Iterations.{Iter, value_rows}
use Rattle.lift_laws.specs.Bulk.{list_of}
use Rattle.lift_laws.specs.States.{State, Holds, HoldAll, three}
use Rattle.lift_laws.specs.Lifting.{call_answer, call_cost}
use Rattle.lift_laws.proofs.Sizes.{total_most}

module _ (s : State) (its : List Iter) (P : List (Iter → List Cell) → Type 0) where
  pub of_two : (a b : OpId) → ((h k : Iter → List Cell) → Holds s a three (value_rows h its) → Holds s b three (value_rows k its) → P (h ∷ k ∷ [])) → (gs : List (Iter → List Cell)) → HoldAll s (a ∷ b ∷ []) gs its → P gs
  of_two a b f [] hp = absurd hp
  of_two a b f (h ∷ []) hp = absurd hp.1
  of_two a b f (h ∷ k ∷ []) hp = f h k hp.0 hp.1.0
  of_two a b f (h ∷ k ∷ j ∷ gs) hp = absurd hp.1.1

  pub of_three : (a b d : OpId) → ((h k j : Iter → List Cell) → Holds s a three (value_rows h its) → Holds s b three (value_rows k its) → Holds s d three (value_rows j its) → P (h ∷ k ∷ j ∷ [])) → (gs : List (Iter → List Cell)) → HoldAll s (a ∷ b ∷ d ∷ []) gs its → P gs
  of_three a b d f [] hp = absurd hp
  of_three a b d f (h ∷ []) hp = absurd hp.1
  of_three a b d f (h ∷ k ∷ []) hp = absurd hp.1.1
  of_three a b d f (h ∷ k ∷ j ∷ []) hp = f h k j hp.0 hp.1.0 hp.1.1.0
  of_three a b d f (h ∷ k ∷ j ∷ g ∷ gs) hp = absurd hp.1.1.1

-- the items of the values are no more than the cost
pub values_within : (docs : Docs) (site : Site) (r : Rule) (gs : List (Iter → List Cell)) (its : List Iter) (N : ℕ) → call_cost docs site r gs its ≤ N → total (λ i. length (list_of (value_in (call_answer docs site r gs i)))) its ≤ N
values_within docs site r gs its N enough =
    let w = total_most (λ i. length (list_of (value_in (call_answer docs site r gs i))))
    (λ i. 1 + total (λ (g : Iter → List Cell). length (g i)) gs + length (list_of (value_in (call_answer docs site r gs i))) + rule_work r (Some (map (λ g. g i) gs)) (value_in (call_answer docs site r gs i))) its (λ i. omega arith) in
    omega arith
