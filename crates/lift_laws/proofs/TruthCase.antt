-- Calls of `boolean` and `not`, from the rows of their operators: a boolean by whether the first item is true, and a check.
use Rattle.std.proofs.Common.{◌≡◌, ℕ, ◌+◌, ◌≤◌, Bool, true, false, cond, not, ◌&&◌, ◌||◌, List, [], ◌∷◌, length, map, refl, sym, ap, ◌∙◌, arith, add-zero, Some, None, nat_eq, nat_lt}
use Rattle.std.proofs.Math.Bool.{and-true}
use Rattle.std.specs.List.{filter, flat_map, list_any}
use Rattle.std.proofs.Math.Nat.{max-le}
use Rattle.xq_base.specs.declared.code.Code.TheVariants as c
use Rattle.xq_base.specs.declared.fun.Fun.TheVariants as f
use Rattle.xq_base.specs.Answers.{Answer, Value, Fault as Refused, with_value}
use Rattle.doc_table.specs.Items.{IntItem, TextItem, UntypedItem, BoolItem, NodeItem}
use Rattle.doc_table.specs.Values.{Items, truth_of, boolean_value}
use Rattle.doc_table.specs.Sequences.{bool_items}
use Rattle.doc_table.specs.NodeRules.{Docs}
use Rattle.doc_table.specs.Functions.{fun_answer}
use Rattle.plan_dag.specs.declared.op.Agg.TheVariants as g
use Rattle.plan_dag.specs.declared.op.OpId.{OpId}
use Rattle.plan_dag.specs.declared.check.Check.{Check}
use Rattle.plan_dag.specs.Cells.{given}
use Rattle.plan_dag.specs.ItemRules.{Cell, cell_eq, is_true}
use Rattle.plan_dag.specs.Rows.{group_rows, rows_with, group_value}
use Rattle.plan_dag.specs.Meaning.{cell}
use Rattle.core_meaning.specs.Expr.{Site, Apply}
use Rattle.core_meaning.specs.Meaning.{value_in}
use Rattle.lift_laws.specs.Sums.{total, bit, Ascends, Same}
use Rattle.lift_laws.specs.Iterations.{Row, Iter, num, item_rows, value_rows, loop_rows}
use Rattle.lift_laws.specs.Bulk.{list_of}
use Rattle.lift_laws.specs.States.{State, at, Makes, column, three, single}
use Rattle.lift_laws.specs.Shapes.{bare, pair, columns, pick, head_rows, any_rows}
use Rattle.lift_laws.specs.Stages.{Stages, head_true_rows, boolean_marks, boolean_fun, boolean_rows, boolean_most}
use Rattle.lift_laws.specs.Lifting.{CallLifts}
use Rattle.lift_laws.proofs.Numbers.{num_same}
use Rattle.lift_laws.proofs.Multi.{same-of, same-trans, same-length, length-total, total-ext, total-map, total-flat, total-keep}
use Rattle.lift_laws.proofs.Picks.{Picked, picks, all_mono, flat-all}
use Rattle.lift_laws.proofs.Values.{all_two}
use Rattle.lift_laws.proofs.Sizes.{size_cells, size_loop}
use Rattle.lift_laws.proofs.Simple.{is_there, any_count}
use Rattle.lift_laws.proofs.Marks.{Marks, marks_and, some, fault_in, code_self}
use Rattle.lift_laws.proofs.Operands.{heads, heads_stand, marks_any, marks_second, has_two}
use Rattle.lift_laws.proofs.Firsts.{item, key, named, named_there, one_first}
use Rattle.lift_laws.proofs.ItemCase.{fails_at, marks_fail}
use Rattle.lift_laws.proofs.FunctionCases.{truth_stands}
use Rattle.lift_laws.proofs.Stagings.{stages_one}

abbrev head_true : List Cell → Bool
head_true [] = false
head_true (v ∷ vs) = truth_of v

-- how often the value of a group is true
abbrev truths : List Row → Cell → ℕ
truths rs k = total (λ v. bit (is_true v)) (given (bare.whole g.Ebv (map item (rows_with bare key k rs))))

abbrev two_cols : Row → Row
two_cols r = pick (columns (0 ∷ 1 ∷ [])) (pair 0 0 ∷ []) r

abbrev passed : Row → Bool
passed r = is_true (cell bare (columns (0 ∷ 1 ∷ [])) (column 1) r)

pub zero_if : (b : Bool) → cond {A = ℕ} b 0 0 ≡ 0
zero_if true = refl
zero_if false = refl

pulled : (n : ℕ) (k : Cell) (vs : List Cell) → total (λ r. cond (passed r) (bit (cell_eq (num n) (cell bare single (column 0) (two_cols r)))) 0) (map (λ v. k ∷ v ∷ []) vs) ≡ cond (cell_eq (num n) k) (total (λ v. bit (is_true v)) vs) 0
pulled n k [] = sym (zero_if (cell_eq (num n) k))
pulled n k (v ∷ vs) =
    ap (λ t. cond (is_true v) (bit (cell_eq (num n) k)) 0 + t) (pulled n k vs)
    ∙ elim (cell_eq (num n) k) as (λ b. cond (is_true v) (bit b) 0 + cond b (total (λ v. bit (is_true v)) vs) 0 ≡ cond b (bit (is_true v) + total (λ v. bit (is_true v)) vs) 0) [ true ↦ refl | false ↦ add-zero _ ∙ zero_if (is_true v) ]

rows_named : (w : Row → ℕ) (n m k : ℕ) (vs : List Cell) → total (λ r. cond (cell_eq (num n) (key r)) (w r) 0) (item_rows m k vs) ≡ cond (nat_eq n m) (total w (item_rows m k vs)) 0
rows_named w n m k [] = sym (zero_if (nat_eq n m))
rows_named w n m k (v ∷ vs) =
    ap (λ b. cond b (w (num m ∷ num k ∷ v ∷ [])) 0 + total (λ r. cond (cell_eq (num n) (key r)) (w r) 0) (item_rows m (k + 1) vs)) (num_same n m)
    ∙ ap (λ t. cond (nat_eq n m) (w (num m ∷ num k ∷ v ∷ [])) 0 + t) (rows_named w n m (k + 1) vs)
    ∙ elim (nat_eq n m) as (λ b. cond b (w (num m ∷ num k ∷ v ∷ [])) 0 + cond b (total w (item_rows m (k + 1) vs)) 0 ≡ cond b (w (num m ∷ num k ∷ v ∷ []) + total w (item_rows m (k + 1) vs)) 0) [ true ↦ refl | false ↦ refl ]

-- a group of one row has its item's value
one_truth : (xs : List Row) (n : ℕ) (v : Cell) → ((w : Row → ℕ) → total w xs ≡ total w ((num n ∷ num 1 ∷ v ∷ []) ∷ [])) → total (λ u. bit (is_true u)) (given (bare.whole g.Ebv (map item xs))) ≡ bit (truth_of v)
one_truth [] n v e = let q = e (λ r. 1) in absurd (omega arith)
one_truth (x ∷ []) n v e = e (λ r. bit (truth_of (item r))) ∙ add-zero _
one_truth (x ∷ y ∷ xs) n v e = let q = e (λ r. 1) in absurd (omega arith)

pub bit_back : (b : Bool) → nat_lt 0 (bit b) ≡ b
bit_back true = refl
bit_back false = refl

head_at : (rs : List Row) (n : ℕ) (vs : List Cell) → ((w : Row → ℕ) → total w (rows_with bare key (num n) rs) ≡ total w (item_rows n 1 (heads vs))) → nat_lt 0 (cond (some (heads vs)) (truths rs (num n)) 0) ≡ head_true vs
head_at rs n [] e = refl
head_at rs n (v ∷ vs) e = ap (nat_lt 0) (one_truth (rows_with bare key (num n) rs) n v e) ∙ bit_back (truth_of v)

marks_true : (h : Iter → List Cell) (its : List Iter) (a : List Row) → Ascends (λ i. i.number) 0 its → Same a (value_rows h its) → Marks (head_true_rows a) (λ i. head_true (h i)) its
marks_true h its a asc sa =
    let rs = head_rows a in
    let sh = heads_stand h its a sa in
    let made = λ (r : Row). map (λ v. key r ∷ v ∷ []) (given (group_value bare g.Ebv key item rs r)) in record {
      each = all_two _ _ _ (λ i (p : Picked (λ (j : Iter). j.number) its i) (m : is_there (num i.number) (any_rows (head_rows a)) ≡ some (heads (h i))).
          let n = i.number in
          any_count (λ r. cell_eq (num i.number) (cell bare single (column 0) r)) (head_true_rows a)
          ∙ ap (nat_lt 0)
          (total-map (λ r. bit (cell_eq (num i.number) (cell bare single (column 0) r))) two_cols (filter passed (flat_map made (group_rows bare key rs)))
          ∙ total-keep (λ r. bit (cell_eq (num i.number) (cell bare single (column 0) (two_cols r)))) passed (flat_map made (group_rows bare key rs))
          ∙ total-flat (λ r. cond (passed r) (bit (cell_eq (num i.number) (cell bare single (column 0) (two_cols r)))) 0) made (group_rows bare key rs)
          ∙ total-ext _ _ (group_rows bare key rs) (λ r. pulled n (key r) (given (group_value bare g.Ebv key item rs r)))
          ∙ one_first n (truths rs) [] rs
          ∙ ap (λ b. cond b (truths rs (num n)) 0) (and-true (named n rs) ∙ named_there n rs ∙ m))
          ∙ head_at rs n (h i) (λ w.
          total-keep w (λ r. cell_eq (num n) (key r)) rs ∙ sh.at (λ r. cond (cell_eq (num n) (key r)) (w r) 0)
          ∙ total-flat (λ r. cond (cell_eq (num n) (key r)) (w r) 0) (λ j. item_rows j.number 1 (heads (h j))) its
          ∙ total-ext _ _ its (λ j. rows_named w n j.number 1 (heads (h j)))
          ∙ p (λ j. total w (item_rows j.number 1 (heads (h j)))))) its (picks (λ i. i.number) 0 its asc) (marks_any (λ i. heads (h i)) its (head_rows a) asc sh).each;
    }

-- which argument has no effective boolean value
abbrev stray : List Cell → Bool
stray vs = has_two vs && list_any (fails_at f.Name c.XPTY0004) (heads vs)

abbrev answer : Bool → Items → Answer Items
answer there vs = with_value (λ b. bool_items (cond b there (not there))) (boolean_value vs)

stray_fails : (there : Bool) (vs : Items) → fault_in (answer there vs) ≡ cond (stray vs) (Some c.FORG0006) None
stray_fails there [] = refl
stray_fails there (v ∷ []) = refl
stray_fails there (IntItem z ∷ u ∷ vs) = ap (λ b. cond (b || false) (Some c.FORG0006) None) (sym (code_self c.XPTY0004))
stray_fails there (TextItem t ∷ u ∷ vs) = ap (λ b. cond (b || false) (Some c.FORG0006) None) (sym (code_self c.XPTY0004))
stray_fails there (UntypedItem t ∷ u ∷ vs) = ap (λ b. cond (b || false) (Some c.FORG0006) None) (sym (code_self c.XPTY0004))
stray_fails there (BoolItem b ∷ u ∷ vs) = ap (λ b. cond (b || false) (Some c.FORG0006) None) (sym (code_self c.XPTY0004))
stray_fails there (NodeItem n ∷ u ∷ vs) = refl

head_value : (there : Bool) (vs : Items) → fault_in (answer there vs) ≡ None → BoolItem (cond (head_true vs) there (not there)) ∷ [] ≡ list_of (value_in (answer there vs))
head_value there [] e = refl
head_value there (v ∷ []) e = refl
head_value there (IntItem z ∷ u ∷ vs) e = cc
head_value there (TextItem t ∷ u ∷ vs) e = cc
head_value there (UntypedItem t ∷ u ∷ vs) e = cc
head_value there (BoolItem b ∷ u ∷ vs) e = cc
head_value there (NodeItem n ∷ u ∷ vs) e = refl

answer_is : (docs : Docs) (there : Bool) (vs : Items) → fun_answer docs (boolean_fun there) (vs ∷ []) ≡ answer there vs
answer_is docs true vs = as_it_is (boolean_value vs)
  where
    as_it_is : (x : Answer Bool) → with_value bool_items x ≡ with_value (λ b. bool_items (cond b true false)) x
    as_it_is (Value true) = refl
    as_it_is (Value false) = refl
    as_it_is (Refused d) = refl
answer_is docs false vs = turned (boolean_value vs)
  where
    turned : (x : Answer Bool) → with_value (λ b. bool_items (not b)) x ≡ with_value (λ b. bool_items (cond b false true)) x
    turned (Value true) = refl
    turned (Value false) = refl
    turned (Refused d) = refl

pub boolean_call : (docs : Docs) (s s1 s2 : State) (site : Site) (there : Bool) (looped a t : OpId) (cs : List Check)
    → Makes s s1 t three (boolean_rows there (at s looped).rows (at s a).rows) (boolean_most there (at s looped).rows (at s a).rows)
    → Stages site (length (at s looped).rows + length (at s a).rows) s1 s2 (at s looped).rows (boolean_marks (at s a).rows) cs
    → CallLifts docs s s2 site (Apply (boolean_fun there)) looped (a ∷ []) t
boolean_call docs s s1 s2 site there looped a t cs m st =
    stages_one docs s s1 s2 site (Apply (boolean_fun there)) looped a t cs (boolean_marks (at s a).rows) (boolean_rows there (at s looped).rows (at s a).rows ∷ []) (λ h. (λ i. stray (h i)) ∷ []) refl (tt, tt) (refl, tt) _ _ _ m st
    (λ N l w. (max-le l w.0, l)) (answer there) (λ h i. answer_is docs there (h i)) (λ h i. stray_fails there (h i))
    (λ its h asc sl sa. (marks_and (marks_second h its _ asc sa) (marks_fail f.Name c.XPTY0004 (λ i. heads (h i)) its _ asc (heads_stand h its _ sa)), tt))
    (λ its h asc sl sa. (few its h asc sl sa, tt))
    (λ its h asc sl sa tree rooted calm.
    same-trans (stand its h asc sl sa) (same-of (flat-all _ _ its (all_mono _ _ (λ i (e : fault_in (answer there (h i)) ≡ None). ap (item_rows i.number 1) (head_value there (h i) e)) its calm))))
  where
    stand : (its : List Iter) (h : Iter → List Cell) → Ascends (λ i. i.number) 0 its → Same (at s looped).rows (loop_rows its) → Same (at s a).rows (value_rows h its) → Same (boolean_rows there (at s looped).rows (at s a).rows) (value_rows (λ i. BoolItem (cond (head_true (h i)) there (not there)) ∷ []) its)
    stand its h asc sl sa = truth_stands there (λ i. head_true (h i)) its _ _ asc sl (marks_true h its (at s a).rows asc sa)

    few : (its : List Iter) (h : Iter → List Cell) → Ascends (λ i. i.number) 0 its → Same (at s looped).rows (loop_rows its) → Same (at s a).rows (value_rows h its) → length (boolean_rows there (at s looped).rows (at s a).rows) ≤ length (at s looped).rows + length (at s a).rows
    few its h asc sl sa =
        let x = same-length (stand its h asc sl sa) ∙ size_cells (λ i. BoolItem (cond (head_true (h i)) there (not there)) ∷ []) its in
        let y = same-length sl ∙ size_loop its ∙ length-total its in
        omega arith
