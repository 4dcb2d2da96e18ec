-- The rows of the forms of rules of at most one item.
use Rattle.std.proofs.Common.{◌≡◌, ℕ, ◌+◌, ◌≤◌, max, true, List, [], ◌∷◌, length, map, Result, IfOk, refl, subst, arith}
use Rattle.std.proofs.Math.Nat.{le-max_left, le-max_right}
use Rattle.xq_base.specs.declared.code.Code.{Code}
use Rattle.xq_base.specs.declared.code.Code.TheVariants as c
use Rattle.xq_base.specs.Texts.{Text}
use Rattle.doc_table.specs.NodeRules.{Docs}
use Rattle.plan_dag.specs.declared.op.OpId.{OpId}
use Rattle.plan_dag.specs.declared.op.Op.{Op}
use Rattle.plan_dag.specs.Meaning.{Graph}
use Rattle.xq_base.specs.declared.fun.Fun.{Fun}
use Rattle.plan_dag.specs.Schema.{takes}
use Rattle.lift_laws.specs.States.{single, three, state_of}
use Rattle.lift_laws.specs.Shapes.{item_value_in, item_fails_in}
use Rattle.lift_laws.specs.Iterations.{Row}
use Rattle.lift_laws.specs.Stages.{Stages, ItemRule, rule_of, fun_of, codes_of, unfit_in, item_marks_in, item_most_in}
use Rattle.lift_laws.proofs.Cases.{item_rules_lift}
use Rattle.lift_prims.specs.ItemForms.{item_value_form, item_fails_form, unfit_form}
use Rattle.lift_prims.proofs.Bounds.{by_both, by_own}
use Rattle.lift_prims.specs.Made.{IsLoop, HasItems, rows_in}
use Rattle.lift_prims.specs.Staging.{Marks, CallMade, LiftedCall}
use Rattle.lift_prims.proofs.Over.{Inputs, Form}
use Rattle.lift_prims.proofs.CallLaws.{RowsOf, MostOf, MarksAre, named, call_ok}

-- the bound of the laws, over the loop and the argument
abbrev pub item_bound : Fun → MostOf (single ∷ three ∷ [])
item_bound g docs texts rs = item_most_in docs g rs.0 rs.1.0

within_loop : (g : Fun) (docs : Docs) (texts : List Text) (rs : Inputs (single ∷ three ∷ [])) → length rs.0 ≤ item_bound g docs texts rs
within_loop g docs texts rs = let a = le-max_left (length rs.0 + length rs.1.0) (length (unfit_in docs g c.XPTY0004 rs.1.0)) in omega arith

within_arg : (g : Fun) (docs : Docs) (texts : List Text) (rs : Inputs (single ∷ three ∷ [])) → length rs.1.0 ≤ item_bound g docs texts rs
within_arg g docs texts rs = let a = le-max_left (length rs.0 + length rs.1.0) (length (unfit_in docs g c.XPTY0004 rs.1.0)) in omega arith

within_unfit : (g : Fun) (docs : Docs) (texts : List Text) (rs : Inputs (single ∷ three ∷ [])) → length (unfit_in docs g c.XPTY0004 rs.1.0) ≤ item_bound g docs texts rs
within_unfit g docs texts rs = le-max_right (length rs.0 + length rs.1.0) (length (unfit_in docs g c.XPTY0004 rs.1.0))

pub item_value_made : (g : Fun) → takes g 1 ≡ true → Form (single ∷ three ∷ []) (item_value_form g) three (λ docs texts rs. item_value_in docs g rs.1.0) (λ docs texts rs. length rs.1.0)
item_value_made g e = record { fits = grind (arith, e); some = omega arith; cols_are = refl; is = λ docs texts rs. refl; few = λ docs texts rs. (omega arith, (omega arith, tt)) }

pub item_fails_made : (g : Fun) (d : Code) → takes g 1 ≡ true → Form (single ∷ three ∷ []) (item_fails_form g d) single (λ docs texts rs. item_fails_in docs g d rs.1.0) (item_bound g)
item_fails_made g d e = record {
  fits = grind (arith, e);
  some = omega arith;
  cols_are = refl;
  is = λ docs texts rs. refl;
  few = λ docs texts rs. let a = within_arg g docs texts rs in (omega (arith, a), (omega (arith, a), tt));
}

pub unfit_made : (g : Fun) → takes g 1 ≡ true → Form (single ∷ three ∷ []) (unfit_form g c.XPTY0004) single (λ docs texts rs. unfit_in docs g c.XPTY0004 rs.1.0) (item_bound g)
unfit_made g e = record {
  fits = grind (arith, e);
  some = omega arith;
  cols_are = refl;
  is = λ docs texts rs. refl;
  few = λ docs texts rs.
      let a = within_arg g docs texts rs in
      (omega (arith, a), (omega (arith, a), (omega (arith, a), (omega (arith, a), (omega (arith, a), (omega (arith, a), (by_own _ _ (within_unfit g docs texts rs), tt)))))));
}

-- the rows of each code
abbrev pub unfit_mark : Fun → Code × RowsOf (single ∷ three ∷ [])
unfit_mark g = (c.XPTY0004, λ docs texts rs. unfit_in docs g c.XPTY0004 rs.1.0)

abbrev pub fails_mark : Fun → Code → Code × RowsOf (single ∷ three ∷ [])
fails_mark g d = (d, λ docs texts rs. item_fails_in docs g d rs.1.0)

-- a call by these forms
pub item_ok : {E : Type 0} (r : Result OpId E) (g g' : Graph) (looped arg : OpId) (q : ItemRule) (offset : ℕ) {values : List Op} (ms : Marks) (fs : List (Code × RowsOf (single ∷ three ∷ []))) → takes (fun_of q) 1 ≡ true → values ≡ item_value_form (fun_of q)
    → MarksAre (single ∷ three ∷ []) ms fs (item_bound (fun_of q))
    → ((docs : Docs) (texts : List Text) (l a : List Row) → named docs texts (single ∷ three ∷ []) (l, (a, tt)) fs ≡ item_marks_in docs (fun_of q) (codes_of q) a) → IsLoop g looped → HasItems g arg
    → IfOk r (CallMade g g' looped (looped ∷ arg ∷ []) values ms offset) → IfOk r (λ t. (pool : List Text) → LiftedCall pool g g' (rule_of q) offset looped (arg ∷ []) t)
item_ok r g g' looped arg q offset ms fs e v k marks hl ha made =
    call_ok r g g' looped (looped ∷ arg ∷ []) (arg ∷ []) (rule_of q) offset fs (item_bound (fun_of q)) (item_value_made (fun_of q) e) v k refl hl (hl, (ha, tt))
    (λ docs texts. within_loop (fun_of q) docs texts (rows_in docs texts g looped, (rows_in docs texts g arg, tt)))
    (λ docs texts s1 s2 site t cs m st. item_rules_lift docs (state_of docs texts g) s1 s2 site q looped arg t cs m
    (subst (λ x. Stages site (item_bound (fun_of q) docs texts (rows_in docs texts g looped, (rows_in docs texts g arg, tt))) s1 s2 (rows_in docs texts g looped) x cs) (marks docs texts (rows_in docs texts g looped) (rows_in docs texts g arg)) st))
    made
