-- Calls of `instance of` and `treat as` the type of no items, and of conversions to it, from the rows of their operators.
use Rattle.std.proofs.Common.{◌≡◌, ◌+◌, true, false, cond, [], ◌∷◌, length, refl, ap, ◌∙◌, Some, None, true≢false}
use Rattle.xq_base.specs.declared.code.Code.{Code}
use Rattle.xq_base.specs.declared.code.Code.TheVariants as c
use Rattle.xq_base.specs.Answers.{Value}
use Rattle.doc_table.specs.Items.{BoolItem}
use Rattle.doc_table.specs.Values.{Items}
use Rattle.doc_table.specs.NodeRules.{Docs}
use Rattle.plan_dag.specs.declared.op.OpId.{OpId}
use Rattle.core_meaning.specs.Types.{NoItems, has_type, if_type}
use Rattle.core_meaning.specs.Expr.{Site, IsOf, TreatAs, ConvertTo}
use Rattle.core_meaning.specs.Meaning.{value_in}
use Rattle.lift_laws.specs.Bulk.{list_of}
use Rattle.lift_laws.specs.States.{State, at, Makes, Checks, three, single}
use Rattle.lift_laws.specs.Shapes.{any_rows, named_rows, truth_rows}
use Rattle.lift_laws.specs.Lifting.{CallLifts}
use Rattle.lift_laws.proofs.Marks.{some, fault_in}
use Rattle.lift_laws.proofs.Operands.{marks_any}
use Rattle.lift_laws.proofs.FunctionCases.{some_items, truth_call, checked_call}

none_typed : (vs : Items) → has_type NoItems vs ≡ cond (some vs) false true
none_typed [] = refl
none_typed (v ∷ vs) = ap (λ b. cond b false true) (some_items (v ∷ vs))

typed_fault : (code : Code) (vs : Items) → fault_in (if_type NoItems code vs) ≡ cond (some vs) (Some code) None
typed_fault code [] = refl
typed_fault code (v ∷ vs) = ap (λ b. cond b (Some code) None) (some_items (v ∷ vs))

typed_value : (code : Code) (vs : Items) → some vs ≡ false → vs ≡ list_of (value_in (if_type NoItems code vs))
typed_value code [] e = refl
typed_value code (v ∷ vs) e = absurd (true≢false (some_items (v ∷ vs) ∙ e))

module _ (docs : Docs) (site : Site) (looped a : OpId) where
  pub none_instance_call : {s s' : State} (t : OpId) → Makes s s' t three (truth_rows false (at s looped).rows (any_rows (at s a).rows)) (length (at s looped).rows + length (at s looped).rows + length (at s a).rows) → CallLifts docs s s' site (IsOf NoItems) looped (a ∷ []) t
  none_instance_call t m =
      truth_call docs site (IsOf NoItems) false looped a t _ (λ g i. some (g i)) _ refl (λ its g asc hl ha. marks_any g its _ asc ha.rows_are) (λ N its g hl ha l. l) (λ g i. ap (λ b. Value (BoolItem b ∷ [])) (none_typed (g i))) m

  pub none_treat_call : {s s1 s2 : State} (k : OpId) → Makes s s1 k single (named_rows (at s looped).rows (any_rows (at s a).rows)) (length (at s looped).rows + length (at s a).rows)
      → Checks s1 s2 (record { op = k; code = c.XPDY0050; offset = site.offset }) → CallLifts docs s s2 site (TreatAs NoItems) looped (a ∷ []) a
  none_treat_call k m h =
      checked_call docs site (TreatAs NoItems) looped a k c.XPDY0050 _ (λ g i. some (g i)) m h refl refl (λ its g asc hl ha. marks_any g its _ asc ha.rows_are) (λ g i. typed_fault c.XPDY0050 (g i)) (λ g i e. typed_value c.XPDY0050 (g i) e)

  pub none_conversion_call : {s s1 s2 : State} (k : OpId) → Makes s s1 k single (named_rows (at s looped).rows (any_rows (at s a).rows)) (length (at s looped).rows + length (at s a).rows)
      → Checks s1 s2 (record { op = k; code = c.XPTY0004; offset = site.offset }) → CallLifts docs s s2 site (ConvertTo NoItems) looped (a ∷ []) a
  none_conversion_call k m h =
      checked_call docs site (ConvertTo NoItems) looped a k c.XPTY0004 _ (λ g i. some (g i)) m h refl refl (λ its g asc hl ha. marks_any g its _ asc ha.rows_are) (λ g i. typed_fault c.XPTY0004 (g i)) (λ g i e. typed_value c.XPTY0004 (g i) e)
