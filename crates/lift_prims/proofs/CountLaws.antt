-- The rows of the forms of rules by the number of an argument's items, and of failures.
use Rattle.std.proofs.Common.{◌≡◌, ℕ, ◌+◌, ◌≤◌, true, List, [], ◌∷◌, length, refl, sym, ap, subst, arith}
use Rattle.xq_base.specs.declared.code.Code.{Code}
use Rattle.xq_base.specs.declared.fun.Fun.TheVariants as f
use Rattle.xq_base.specs.Texts.{Text}
use Rattle.doc_table.specs.NodeRules.{Docs}
use Rattle.plan_dag.specs.declared.op.OpId.{OpId}
use Rattle.plan_dag.specs.declared.op.Op.{Op}
use Rattle.plan_dag.specs.declared.check.Check.{Check}
use Rattle.plan_dag.specs.ItemRules.{item_rules}
use Rattle.plan_dag.specs.Meaning.{Graph}
use Rattle.plan_dag.specs.Graphs.{with_check}
use Rattle.core_meaning.specs.Expr.{Site, FailWith}
use Rattle.core_meaning.specs.Lawful.{is_dynamic}
use Rattle.lift_laws.specs.States.{state_of, column, Checks, single, three}
use Rattle.plan_dag.specs.Meaning.{cell}
use Rattle.plan_dag.specs.Rows.{count_rows}
use Rattle.lift_laws.specs.Iterations.{Row, num}
use Rattle.lift_laws.specs.Shapes.{bare, pair, columns, project, join_by, with_cell, either_rows, literal_rows, less, beside, any_rows, second_rows, data_rows, counted_rows, count_value_rows}
use Rattle.lift_laws.specs.Sequences.{reversed_rows}
use Rattle.lift_laws.proofs.Cases.{failures_lift}
use Rattle.lift_laws.proofs.Growing.{check_adds}
use Rattle.lift_prims.specs.Forms.{FormMade}
use Rattle.lift_prims.specs.Made.{IsLoop, tab}
use Rattle.lift_prims.proofs.Renamed.{counted_same}
use Rattle.lift_prims.specs.Staging.{LiftedCall}
use Rattle.lift_prims.specs.ItemForms.{item_value_form}
use Rattle.lift_prims.specs.CountForms.{empty_form, second_form, none_form, not_one_form, count_form, reverse_form}
use Rattle.lift_prims.proofs.Bounds.{by_both}
use Rattle.lift_prims.proofs.Over.{Form, made_by, shaped_stays}
use Rattle.lift_prims.proofs.CallLaws.{MostOf}

pub empty_made : Form [] empty_form three (λ docs texts rs. []) (λ docs texts rs. 0)
empty_made = record { fits = refl; some = omega arith; cols_are = refl; is = λ docs texts rs. refl; few = λ docs texts rs. (omega arith, tt) }

-- a table without rows, and a check of the loop
pub failure_ok : {g g1 g2 : Graph} (looped t : OpId) (code : Code) (offset : ℕ) {ops : List Op} → is_dynamic code ≡ true → IsLoop g looped → ops ≡ empty_form
    → ((docs : Docs) (texts : List Text) → FormMade (item_rules docs texts) (state_of docs texts g) (state_of docs texts g1) [] ops t) → g2 ≡ with_check (record { op = looped; code = code; offset = offset }) g1
    → (pool : List Text) → LiftedCall pool g g2 (FailWith code) offset looped [] t
failure_ok {g = g} {g1 = g1} {g2 = g2} looped t code offset d l e made same pool =
    let m = made_by {g = g} {g' = g1} {is = []} empty_made tt e made in
    let check : Check = record { op = looped; code = code; offset = offset } in
    let checks : (docs : Docs) (texts : List Text) → Checks (state_of docs texts g1) (state_of docs texts g2) check = λ docs texts.
    subst (λ q. Checks (state_of docs texts g1) (state_of docs texts q) check) (sym same) (check_adds docs texts g1 check (shaped_stays g g1 (m.makes [] []).grows l).0) in
    record {
      shaped = shaped_stays g1 g2 (checks [] []).grows m.shaped;
      lifts = λ docs texts site p o.
          failures_lift docs (state_of docs texts g) (state_of docs texts g1) (state_of docs texts g2) site code looped t d (m.makes docs texts)
          (subst (λ (n : ℕ). Checks (state_of docs texts g1) (state_of docs texts g2) (record { op = looped; code = code; offset = n })) (sym o) (checks docs texts));
    }

abbrev pub both_long : MostOf (single ∷ three ∷ [])
both_long docs texts rs = length rs.0 + length rs.1.0

pub second_made : Form (single ∷ three ∷ []) second_form single (λ docs texts rs. second_rows rs.1.0) both_long
second_made = record { fits = refl; some = omega arith; cols_are = refl; is = λ docs texts rs. refl; few = λ docs texts rs. (omega arith, (omega arith, (omega arith, (omega arith, tt)))) }

pub none_made : Form (single ∷ three ∷ []) none_form single (λ docs texts rs. less rs.0 (any_rows rs.1.0)) both_long
none_made = record { fits = refl; some = omega arith; cols_are = refl; is = λ docs texts rs. refl; few = λ docs texts rs. (omega arith, (omega arith, tt)) }

pub not_one_made : Form (single ∷ three ∷ []) not_one_form single (λ docs texts rs. beside single (second_rows rs.1.0) (less rs.0 (any_rows rs.1.0))) both_long
not_one_made = record {
  fits = refl;
  some = omega arith;
  cols_are = refl;
  is = λ docs texts rs. refl;
  few = λ docs texts rs. (omega arith, (omega arith, (omega arith, (omega arith, (omega arith, (omega arith, (by_both _ _ (omega arith), tt)))))));
}

pub data_made : Form (single ∷ three ∷ []) (item_value_form f.Atomize) three (λ docs texts rs. data_rows rs.1.0) (λ docs texts rs. length rs.1.0)
data_made = record { fits = refl; some = omega arith; cols_are = refl; is = λ docs texts rs. refl; few = λ docs texts rs. (omega arith, (omega arith, tt)) }

the_third : (x y z : ℕ) → z ≤ x + y + z
the_third x y z = omega arith

third_and_first : (x y z : ℕ) → z + x ≤ x + y + z
third_and_first x y z = omega arith

-- the counted iterations beside the loop, with these rows for the numbers
abbrev beside_counts : List Row → List Row → List Row
beside_counts l x = join_by single (columns (4 ∷ 5 ∷ [])) (column 0) (column 4) l x

abbrev count_values : List Row → List Row → List Row → List Row
count_values l a x = either_rows (project (columns (0 ∷ 4 ∷ 5 ∷ 1 ∷ [])) (pair 0 0 ∷ pair 1 1 ∷ pair 2 5 ∷ []) (with_cell (num 1) (beside_counts l x))) (literal_rows (num 0) (less l (any_rows a)))

pub count_made : Form (single ∷ three ∷ []) count_form three (λ docs texts rs. count_value_rows rs.0 rs.1.0) (λ docs texts rs. length rs.0 + length rs.1.0 + length (counted_rows rs.0 rs.1.0))
count_made = record {
  fits = refl;
  some = omega arith;
  cols_are = refl;
  is = λ docs texts rs. ap (λ x. tab three (count_values rs.0 rs.1.0 x)) (counted_same (count_rows bare (cell bare three (column 0)) rs.1.0));
  few = λ docs texts rs.
      let n = length rs.0 + length rs.1.0 + length (counted_rows rs.0 rs.1.0) in
      let e = counted_same (count_rows bare (cell bare three (column 0)) rs.1.0) in
      let own : length (beside_counts rs.0 (project (columns (0 ∷ 3 ∷ [])) (pair 4 0 ∷ pair 5 3 ∷ []) (count_rows bare (cell bare three (column 0)) rs.1.0))) ≤ n =
      subst (λ x. length (beside_counts rs.0 x) ≤ n) (sym e) (the_third (length rs.0) (length rs.1.0) (length (counted_rows rs.0 rs.1.0))) in
      let last : length (beside_counts rs.0 (project (columns (0 ∷ 3 ∷ [])) (pair 4 0 ∷ pair 5 3 ∷ []) (count_rows bare (cell bare three (column 0)) rs.1.0))) + length rs.0 ≤ n =
      subst (λ x. length (beside_counts rs.0 x) + length rs.0 ≤ n) (sym e) (third_and_first (length rs.0) (length rs.1.0) (length (counted_rows rs.0 rs.1.0))) in
      (omega arith, (omega arith, (own, (own, (own, (omega arith, (omega arith, (omega arith, (omega arith, (by_both _ _ last, tt))))))))));
}

pub reverse_made : Form (single ∷ three ∷ []) reverse_form three (λ docs texts rs. reversed_rows rs.1.0) (λ docs texts rs. length rs.1.0)
reverse_made = record { fits = refl; some = omega arith; cols_are = refl; is = λ docs texts rs. refl; few = λ docs texts rs. (omega arith, (omega arith, tt)) }
