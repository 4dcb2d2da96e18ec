-- Calls of `or` and `and`, from the rows of their operators: what the function gives of both items.
use Rattle.std.proofs.Common.{◌≡◌, ℕ, ◌≤◌, Bool, ◌&&◌, ◌||◌, List, [], ◌∷◌, refl, sym, ap, ◌∙◌, arith, None}
use Rattle.std.proofs.Math.Nat.{max-le}
use Rattle.xq_base.specs.declared.fun.Fun.{Fun}
use Rattle.xq_base.specs.declared.fun.Fun.TheVariants as f'
use Rattle.xq_base.specs.Answers.{Value}
use Rattle.doc_table.specs.Items.{IntItem, TextItem, UntypedItem, BoolItem, NodeItem}
use Rattle.doc_table.specs.Values.{Items}
use Rattle.doc_table.specs.NodeRules.{Docs}
use Rattle.doc_table.specs.Functions.{fun_answer, on_booleans}
use Rattle.plan_dag.specs.declared.op.OpId.{OpId}
use Rattle.plan_dag.specs.Cells.{given}
use Rattle.plan_dag.specs.ItemRules.{Cell, outcome_of}
use Rattle.core_meaning.specs.Expr.{Site, Apply}
use Rattle.core_meaning.specs.Meaning.{value_in}
use Rattle.lift_laws.specs.Sums.{AllOf, Ascends, Same}
use Rattle.lift_laws.specs.Iterations.{Iter, item_rows, value_rows, loop_rows}
use Rattle.lift_laws.specs.Bulk.{list_of}
use Rattle.lift_laws.specs.States.{State, at, Makes, Holds, HoldAll, three, single}
use Rattle.lift_laws.specs.Shapes.{bare}
use Rattle.lift_laws.specs.Pairs.{pair_most, pair_value_rows}
use Rattle.lift_laws.specs.Lifting.{CallLifts, call_answer, call_cost}
use Rattle.lift_laws.proofs.Multi.{same-of, same-trans, same-length}
use Rattle.lift_laws.proofs.Picks.{all_each, flat-all}
use Rattle.lift_laws.proofs.Sizes.{size_loop}
use Rattle.lift_laws.proofs.Marks.{fault_in}
use Rattle.lift_laws.proofs.Staged.{args_few}
use Rattle.lift_laws.proofs.FunctionCases.{quiet_call}
use Rattle.lift_laws.proofs.PairRows.{given_at, few_left, few_both, pair_values_stand}

module _ (g : Bool → Bool → Bool) (f : Fun) (is : (docs : Docs) (us vs : Items) → fun_answer docs f (us ∷ vs ∷ []) ≡ on_booleans g (us ∷ vs ∷ [])) where
  outcome : (u v : Cell) → bare.value f (u ∷ v ∷ []) ≡ outcome_of (on_booleans g ((u ∷ []) ∷ (v ∷ []) ∷ []))
  outcome u v = ap outcome_of (is [] (u ∷ []) (v ∷ []))

  one_of : (u v : Cell) → on_booleans g ((u ∷ []) ∷ (v ∷ []) ∷ []) ≡ Value (given (outcome_of (on_booleans g ((u ∷ []) ∷ (v ∷ []) ∷ []))))
  one_of (IntItem z) v = refl
  one_of (TextItem t) v = refl
  one_of (UntypedItem t) v = refl
  one_of (NodeItem n) v = refl
  one_of (BoolItem a) (IntItem z) = refl
  one_of (BoolItem a) (TextItem t) = refl
  one_of (BoolItem a) (UntypedItem t) = refl
  one_of (BoolItem a) (NodeItem n) = refl
  one_of (BoolItem a) (BoolItem b) = refl

  both_given : (us vs : Items) → on_booleans g (us ∷ vs ∷ []) ≡ Value (given_at f us vs)
  both_given [] vs = refl
  both_given (IntItem z ∷ []) [] = refl
  both_given (TextItem t ∷ []) [] = refl
  both_given (UntypedItem t ∷ []) [] = refl
  both_given (NodeItem n ∷ []) [] = refl
  both_given (BoolItem a ∷ []) [] = refl
  both_given (u ∷ []) (v ∷ []) = one_of u v ∙ ap (λ x. Value (given x)) (sym (outcome u v))
  both_given (IntItem z ∷ []) (v ∷ w ∷ vs) = refl
  both_given (TextItem t ∷ []) (v ∷ w ∷ vs) = refl
  both_given (UntypedItem t ∷ []) (v ∷ w ∷ vs) = refl
  both_given (NodeItem n ∷ []) (v ∷ w ∷ vs) = refl
  both_given (BoolItem a ∷ []) (IntItem z ∷ w ∷ vs) = refl
  both_given (BoolItem a ∷ []) (TextItem t ∷ w ∷ vs) = refl
  both_given (BoolItem a ∷ []) (UntypedItem t ∷ w ∷ vs) = refl
  both_given (BoolItem a ∷ []) (NodeItem n ∷ w ∷ vs) = refl
  both_given (BoolItem a ∷ []) (BoolItem b ∷ w ∷ vs) = refl
  both_given (IntItem z ∷ w ∷ us) vs = refl
  both_given (TextItem t ∷ w ∷ us) vs = refl
  both_given (UntypedItem t ∷ w ∷ us) vs = refl
  both_given (NodeItem n ∷ w ∷ us) vs = refl
  both_given (BoolItem a ∷ w ∷ us) vs = refl

  module _ (docs : Docs) (s s' : State) (site : Site) (looped a b t : OpId) (m : Makes s s' t three (pair_value_rows f (at s looped).rows (at s a).rows (at s b).rows) (pair_most (at s looped).rows (at s a).rows (at s b).rows)) where
    few : (N : ℕ) (its : List Iter) (gs : List (Iter → List Cell)) → Ascends (λ i. i.number) 0 its → Holds s looped single (loop_rows its) → HoldAll s (a ∷ b ∷ []) gs its → call_cost docs site (Apply f) gs its ≤ N → pair_most (at s looped).rows (at s a).rows (at s b).rows ≤ N
    few N its [] asc hl hp enough = absurd hp
    few N its (h ∷ []) asc hl hp enough = absurd hp.1
    few N its (h ∷ k ∷ []) asc hl hp enough =
        let x = few_left h k its (at s looped).rows (at s a).rows (at s b).rows asc hl.rows_are hp.0.rows_are hp.1.0.rows_are in
        let y = few_both h k its (at s looped).rows (at s a).rows (at s b).rows asc hl.rows_are hp.0.rows_are hp.1.0.rows_are in
        let z = same-length hl.rows_are ∙ size_loop its in
        let n = args_few docs s site (Apply f) looped (a ∷ b ∷ []) N its (h ∷ k ∷ []) hl hp enough in
        max-le (max-le (omega arith) (omega arith)) (max-le (omega arith) (max-le (omega arith) (omega arith)))
    few N its (h ∷ k ∷ k' ∷ gs) asc hl hp enough = absurd hp.1.1

    calm : (gs : List (Iter → List Cell)) (its : List Iter) → HoldAll s (a ∷ b ∷ []) gs its → AllOf (λ i. fault_in (call_answer docs site (Apply f) gs i) ≡ None) its
    calm [] its hp = absurd hp
    calm (h ∷ []) its hp = absurd hp.1
    calm (h ∷ k ∷ []) its hp = all_each _ (λ i. ap fault_in (is docs (h i) (k i) ∙ both_given (h i) (k i))) its
    calm (h ∷ k ∷ k' ∷ gs) its hp = absurd hp.1.1

    stand : (its : List Iter) (gs : List (Iter → List Cell)) → Ascends (λ i. i.number) 0 its → Holds s looped single (loop_rows its) → HoldAll s (a ∷ b ∷ []) gs its
        → Same (pair_value_rows f (at s looped).rows (at s a).rows (at s b).rows) (value_rows (λ i. list_of (value_in (call_answer docs site (Apply f) gs i))) its)
    stand its [] asc hl hp = absurd hp
    stand its (h ∷ []) asc hl hp = absurd hp.1
    stand its (h ∷ k ∷ []) asc hl hp =
        same-trans (pair_values_stand h k its (at s looped).rows (at s a).rows (at s b).rows asc hl.rows_are hp.0.rows_are hp.1.0.rows_are f)
        (same-of (flat-all _ _ its (all_each _ (λ i. ap (λ x. item_rows i.number 1 (list_of (value_in x))) (sym (is docs (h i) (k i) ∙ both_given (h i) (k i)))) its)))
    stand its (h ∷ k ∷ k' ∷ gs) asc hl hp = absurd hp.1.1

    connected_call : CallLifts docs s s' site (Apply f) looped (a ∷ b ∷ []) t
    connected_call = quiet_call docs site (Apply f) looped (a ∷ b ∷ []) t _ _ m refl few calm stand

module _ (docs : Docs) (s s' : State) (site : Site) (looped a b t : OpId) where
  pub or_call : Makes s s' t three (pair_value_rows f'.Or (at s looped).rows (at s a).rows (at s b).rows) (pair_most (at s looped).rows (at s a).rows (at s b).rows) → CallLifts docs s s' site (Apply f'.Or) looped (a ∷ b ∷ []) t
  or_call m = connected_call (λ a b. a || b) f'.Or (λ ds us vs. refl) docs s s' site looped a b t m

  pub and_call : Makes s s' t three (pair_value_rows f'.And (at s looped).rows (at s a).rows (at s b).rows) (pair_most (at s looped).rows (at s a).rows (at s b).rows) → CallLifts docs s s' site (Apply f'.And) looped (a ∷ b ∷ []) t
  and_call m = connected_call (λ a b. a && b) f'.And (λ ds us vs. refl) docs s s' site looped a b t m
