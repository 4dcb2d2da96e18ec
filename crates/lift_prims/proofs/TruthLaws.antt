-- The rows of the forms of booleans by rows that name iterations.
use Rattle.std.proofs.Common.{◌≡◌, ℕ, ◌+◌, ◌≤◌, max, Bool, true, false, List, [], ◌∷◌, ◌++◌, length, map, refl, sym, ap, subst, arith, length-append}
use Rattle.std.proofs.Math.Nat.{le-max_left, le-max_right}
use Rattle.xq_base.specs.declared.code.Code.{Code}
use Rattle.xq_base.specs.declared.code.Code.TheVariants as c
use Rattle.xq_base.specs.declared.fun.AtomKind.{AtomKind}
use Rattle.xq_base.specs.declared.fun.Fun.TheVariants as f
use Rattle.doc_table.specs.Items.{BoolItem}
use Rattle.doc_table.specs.NodeRules.{Docs}
use Rattle.plan_dag.specs.declared.op.OpId.{OpId}
use Rattle.plan_dag.specs.declared.op.Agg.TheVariants as g
use Rattle.plan_dag.specs.Rows.{aggregate_rows}
use Rattle.plan_dag.specs.Meaning.{cell, cells}
use Rattle.core_meaning.specs.Expr.{Site, Apply}
use Rattle.lift_laws.specs.Iterations.{Row}
use Rattle.lift_laws.specs.States.{State, Makes, at, column, single, three}
use Rattle.lift_laws.specs.Shapes.{bare, literal_rows, truth_rows, any_rows, less, named_rows, second_rows, head_rows, item_fails_rows}
use Rattle.lift_laws.specs.Stages.{unfit_rows, uncastable_rows, castable_most, boolean_rows, boolean_most, boolean_marks, head_true_rows}
use Rattle.lift_laws.specs.Lifting.{CallLifts}
use Rattle.lift_laws.proofs.Cases.{constants_lift, exists_lifts, empty_lifts_call}
use Rattle.lift_prims.specs.TruthForms.{any_truth_form, head_truth_form, mixed_head_form, castable_form, constant_fun, exists_fun}
use Rattle.lift_prims.proofs.Bounds.{by_both, by_own}
use Rattle.lift_prims.specs.Made.{tab}
use Rattle.lift_prims.proofs.Renamed.{true_same}
use Rattle.lift_prims.proofs.Over.{Inputs, Form}
use Rattle.lift_prims.proofs.CallLaws.{RowsOf, MostOf}

pub constant_call : (v : Bool) (docs : Docs) (s s' : State) (site : Site) (looped t : OpId) → Makes s s' t three (literal_rows (BoolItem v) (at s looped).rows) (length (at s looped).rows) → CallLifts docs s s' site (Apply (constant_fun v)) looped [] t
constant_call true docs s s' site looped t m = (constants_lift docs s s' site looped t).0 m
constant_call false docs s s' site looped t m = (constants_lift docs s s' site looped t).1 m

abbrev any_most : State → OpId → OpId → ℕ
any_most s looped a = length (at s looped).rows + length (at s looped).rows + length (at s a).rows

pub exists_call : (there : Bool) (docs : Docs) (s s' : State) (site : Site) (looped a t : OpId) → Makes s s' t three (truth_rows there (at s looped).rows (any_rows (at s a).rows)) (any_most s looped a) → CallLifts docs s s' site (Apply (exists_fun there)) looped (a ∷ []) t
exists_call true docs s s' site looped a t m = exists_lifts docs s s' site looped a t m
exists_call false docs s s' site looped a t m = empty_lifts_call docs s s' site looped a t m

pub any_truth_made : (there : Bool) → Form (single ∷ three ∷ []) (any_truth_form there) three (λ docs texts rs. truth_rows there rs.0 (any_rows rs.1.0)) (λ docs texts rs. length rs.0 + length rs.0 + length rs.1.0)
any_truth_made there = record {
  fits = refl;
  some = omega arith;
  cols_are = refl;
  is = λ docs texts rs. refl;
  few = λ docs texts rs. (omega arith, (omega arith, (omega arith, (omega arith, (omega arith, (omega arith, (omega arith, (by_both _ _ (omega arith), tt))))))));
}

-- the bound of the law, over the loop and the argument
abbrev truth_bound : Bool → MostOf (single ∷ three ∷ [])
truth_bound there docs texts rs = boolean_most there rs.0 rs.1.0

truth_left : (there : Bool) (l a : List Row) → length l + length a ≤ boolean_most there l a
truth_left there l a = le-max_left (length l + length a) (length (boolean_rows there l a))

-- the effective boolean values of the first items
abbrev head_values : List Row → List Row
head_values a = aggregate_rows bare g.Ebv (cell bare three (column 0)) (cell bare three (column 2)) (head_rows a)

pub head_truth_made : (there : Bool) → Form (single ∷ three ∷ []) (head_truth_form there) three (λ docs texts rs. boolean_rows there rs.0 rs.1.0) (truth_bound there)
head_truth_made there = record {
  fits = refl;
  some = omega arith;
  cols_are = refl;
  is = λ docs texts rs. ap (λ x. tab three (truth_rows there rs.0 x)) (true_same (head_values rs.1.0));
  few = λ docs texts rs.
      let a = truth_left there rs.0 rs.1.0 in
      let last = subst (λ x. length (truth_rows there rs.0 x) ≤ boolean_most there rs.0 rs.1.0) (sym (true_same (head_values rs.1.0))) (le-max_right (length rs.0 + length rs.1.0) (length (boolean_rows there rs.0 rs.1.0))) in
      (omega (arith, a), (omega (arith, a), (omega (arith, a), (omega (arith, a), (omega (arith, a), (omega (arith, a), (omega (arith, a), (omega (arith, a), (omega (arith, a), (omega (arith, a), (omega (arith, a), (omega (arith, a), (omega (arith, a), (by_own _ _ last, tt))))))))))))));
}

-- the rows of the check
abbrev pub mixed_mark : Code × RowsOf (single ∷ three ∷ [])
mixed_mark = (c.FORG0006, λ docs texts rs. named_rows (second_rows rs.1.0) (item_fails_rows f.Name c.XPTY0004 (head_rows rs.1.0)))

abbrev pub mixed_bound : MostOf (single ∷ three ∷ [])
mixed_bound docs texts rs = length rs.0 + length rs.1.0

pub mixed_made : Form (single ∷ three ∷ []) mixed_head_form single mixed_mark.1 mixed_bound
mixed_made = record {
  fits = refl;
  some = omega arith;
  cols_are = refl;
  is = λ docs texts rs. refl;
  few = λ docs texts rs. (omega arith, (omega arith, (omega arith, (omega arith, (omega arith, (omega arith, (omega arith, (omega arith, (omega arith, (omega arith, (omega arith, (omega arith, tt))))))))))));
}

-- the bound of the law of casts, over the loop and the argument
abbrev cast_bound : AtomKind → Bool → MostOf (single ∷ three ∷ [])
cast_bound kind optional docs texts rs = castable_most kind optional rs.0 rs.1.0

cast_left : (kind : AtomKind) (optional : Bool) (l a : List Row) → length l + length l + length a ≤ castable_most kind optional l a
cast_left kind optional l a = le-max_left (length l + length l + length a) (length (uncastable_rows kind optional l a))

cast_right : (kind : AtomKind) (optional : Bool) (l a : List Row) → length (uncastable_rows kind optional l a) ≤ castable_most kind optional l a
cast_right kind optional l a = le-max_right (length l + length l + length a) (length (uncastable_rows kind optional l a))

cast_unfit : (kind : AtomKind) (l a : List Row) → length (unfit_rows (f.CastTo kind) c.FORG0001 a) ≤ castable_most kind false l a
cast_unfit kind l a =
    let r = cast_right kind false l a in
    let e = length-append (unfit_rows (f.CastTo kind) c.FORG0001 a) (map (cells bare single single) (less l (any_rows a))) in
    omega (arith, r, e)

pub castable_made : (kind : AtomKind) (optional : Bool) → Form (single ∷ three ∷ []) (castable_form kind optional) three (λ docs texts rs. truth_rows false rs.0 (uncastable_rows kind optional rs.0 rs.1.0)) (cast_bound kind optional)
castable_made kind true = record {
  fits = refl;
  some = omega arith;
  cols_are = refl;
  is = λ docs texts rs. refl;
  few = λ docs texts rs.
      let a = cast_left kind true rs.0 rs.1.0 in (
        omega (arith, a),
        (
          omega (arith, a),
          (
            omega (arith, a),
            (
              omega (arith, a),
              (
                omega (arith, a),
                (
                  omega (arith, a),
                  (
                    by_own _ _ (cast_right kind true rs.0 rs.1.0),
                    (omega (arith, a), (omega (arith, a), (omega (arith, a), (omega (arith, a), (omega (arith, a), (omega (arith, a), (by_both _ _ (omega (arith, a)), tt))))))),
                  ),
                ),
              ),
            ),
          ),
        ),
      );
}
castable_made kind false = record {
  fits = refl;
  some = omega arith;
  cols_are = refl;
  is = λ docs texts rs. refl;
  few = λ docs texts rs.
      let a = cast_left kind false rs.0 rs.1.0 in (
        omega (arith, a),
        (
          omega (arith, a),
          (
            omega (arith, a),
            (
              omega (arith, a),
              (
                omega (arith, a),
                (
                  omega (arith, a),
                  (
                    by_own _ _ (cast_unfit kind rs.0 rs.1.0),
                    (
                      omega (arith, a),
                      (
                        omega (arith, a),
                        (
                          by_own _ _ (cast_right kind false rs.0 rs.1.0),
                          (omega (arith, a), (omega (arith, a), (omega (arith, a), (omega (arith, a), (omega (arith, a), (omega (arith, a), (by_both _ _ (omega (arith, a)), tt))))))),
                        ),
                      ),
                    ),
                  ),
                ),
              ),
            ),
          ),
        ),
      );
}
