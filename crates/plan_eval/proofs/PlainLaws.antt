-- Operators that are no steps: what their demand and their table say.
use Rattle.std.proofs.Common.{◌≡◌, ℕ, ◌≤◌, Bool, true, false, cond, List, length, map, take, refl, sym, ap, ◌∙◌, arith, None}
use Rattle.std.specs.List.{sum}
use Rattle.xq_base.specs.declared.item.Item.{Item}
use Rattle.xq_base.specs.Texts.{Text}
use Rattle.doc_table.specs.Given.{trees_given}
use Rattle.doc_table.specs.StoredItems.{meanings}
use Rattle.doc_table.specs.Stores.{Holdings, AreGiven}
use Rattle.plan_dag.specs.declared.op.Op.{Op}
use Rattle.plan_dag.specs.declared.op.Op.TheVariants as o
use Rattle.plan_dag.specs.Meaning.{Table, extents}
use Rattle.plan_dag.specs.Schema.{site_of, is_constructor}
use Rattle.table_ops.specs.Demands.{op_rows, rules_in}
use Rattle.table_ops.specs.Results.{op_table}
use Rattle.table_ops.specs.Standing.{standing, RowsGiven}
use Rattle.plan_eval.specs.Evaluating.{row_limit}
use Rattle.plan_eval.specs.Making.{Made, demand_in}
use Rattle.plan_eval.specs.Plans.{op_given}
use Rattle.plan_eval.proofs.GrownRules.{op_table-later}
use Rattle.plan_eval.proofs.TurnLaws.{map-length}

no-trees : (op : Op) → site_of op ≡ None → is_constructor op ≡ false
no-trees (o.Element i j site it p v) e = absurd (cc)
no-trees (o.Attribute i j site it p v) e = absurd (cc)
no-trees (o.Pi i j site it p v) e = absurd (cc)
no-trees (o.Text i j site it p v) e = absurd (cc)
no-trees (o.Comment i j site it p v) e = absurd (cc)
no-trees (o.Document i j site it p v) e = absurd (cc)
no-trees (o.Unit c) e = refl
no-trees (o.Empty cs) e = refl
no-trees (o.Project i ps) e = refl
no-trees (o.Attach i c v) e = refl
no-trees (o.Select i c) e = refl
no-trees (o.Join i j a b) e = refl
no-trees (o.Union i j) e = refl
no-trees (o.Difference i j a b) e = refl
no-trees (o.Distinct i cs) e = refl
no-trees (o.Rownum i c ks part) e = refl
no-trees (o.Count i g c) e = refl
no-trees (o.Aggregate i agg g v c) e = refl
no-trees (o.AggregateFails i agg code g v) e = refl
no-trees (o.Map i fun as' c) e = refl
no-trees (o.MapFails i fun code as') e = refl
no-trees (o.Range i a b c) e = refl
no-trees (o.ExistsCompare i j op a v b w) e = refl
no-trees (o.CompareFails i j op code a v b w) e = refl
no-trees (o.Step i axis wanted site offset it n) e = refl
no-trees (o.ContentFails j place code it p v) e = refl

-- the demand of an operator that makes no tree is its number of rows
pub plain-demand : (texts : List Text) (h : Holdings) (op : Op) (l r : Table Item) → is_constructor op ≡ false → demand_in texts h op l r ≡ length (op_rows texts h op l r)
plain-demand texts h op l r e =
    let n : extents (rules_in texts h) op (op_rows texts h op l r) ≡ 0 = at (is_constructor op) e in
    omega (arith, n)
  where
    at : (b : Bool) → b ≡ false → cond b (sum (map (λ row. sum (map (rules_in texts h).extent row)) (op_rows texts h op l r))) 0 ≡ 0
    at true q = absurd (cc)
    at false q = refl

pub made-plain : (old mid new : List Text) (h : Holdings) (op : Op) (l r t : Table Item) (rows : ℕ) → site_of op ≡ None → take (length old) mid ≡ old → trees_given (length old) h ≡ true → AreGiven old h.docs → op_given (length old) op ≡ true → RowsGiven old h l.rows → RowsGiven old h r.rows
    → rows ≡ length (op_rows old h op l r) → rows ≤ row_limit → standing new h t ≡ op_table mid h op l r → RowsGiven new h t.rows → Made old new h op l r t
made-plain old mid new h op l r t rows kind later trees names given gl gr count few stands held =
    let table : standing new h t ≡ op_table old h op l r = stands ∙ op_table-later old mid h op l r later trees names given gl gr in
    let d = plain-demand old h op l r (no-trees op kind) in
    let many : length t.rows ≡ length (op_rows old h op l r) = sym (map-length (meanings new h) t.rows) ∙ ap (λ z. length z.rows) table in
    record {
      table = table;
      given = held;
      few = omega (arith, d, count, few);
      rows_few = omega (arith, many, count, few);
    }
