-- How many rows each operator has.
use Rattle.std.proofs.Common.{◌≡◌, ◌∙◌, ◌+◌, ◌++◌, ◌∷◌, [], ℕ, suc, Bool, List, length, map, refl, sym, ap, subst, Result, Ok, Err, IfOk, Option}
use Rattle.std.specs.List.{filter}
use Rattle.xq_base.specs.declared.code.Code.{Code}
use Rattle.xq_base.specs.declared.fun.CompOp.{CompOp}
use Rattle.xq_base.specs.declared.item.Want.{Want}
use Rattle.xq_base.specs.declared.item.Item.{Item}
use Rattle.xq_base.specs.declared.item.Atom.{Atom as Constant}
use Rattle.xq_base.specs.Pool.{NoRepeats}
use Rattle.xq_base.specs.Texts.{Text}
use Rattle.doc_table.specs.Documents.{documents_in}
use Rattle.doc_table.specs.Stores.{Holdings}
use Rattle.doc_table.specs.StoredItems.{meanings}
use Rattle.plan_dag.specs.declared.cols.Col.{Col}
use Rattle.plan_dag.specs.declared.keys.Key.{Key}
use Rattle.plan_dag.specs.declared.pairs.Pair.{Pair}
use Rattle.plan_dag.specs.declared.op.OpId.{OpId}
use Rattle.plan_dag.specs.declared.op.Op.TheVariants as o
use Rattle.plan_dag.specs.Cells.{Rules}
use Rattle.plan_dag.specs.ItemRules.{Cell}
use Rattle.plan_dag.specs.Meaning.{Table, cell_or, cells, same_part, sort_keys, is_true_outcome, fails_with}
use Rattle.plan_dag.specs.Rows.{joined, left_over, first_rows, keys_less, numbered, count_rows, range_rows, compared}
use Rattle.table_ops.specs.Columns.{no_cell, cells_of}
use Rattle.table_ops.specs.Demands.{rules_in, HasRows, counted}
use Rattle.table_ops.specs.Held.{held_rules, kept}
use Rattle.table_ops.specs.Picks.{is_true_item}
use Rattle.table_ops.specs.Standing.{standing, RowsGiven}
use Rattle.table_ops.specs.StandLaws.{RowsStand}
use Rattle.table_ops.proofs.Lawful.{rows_stand}
use Rattle.table_ops.proofs.Lists.{map_long, long_append}

-- a table that was made has so many rows
pub counted_rows : (r : Result (Table Item) Want) (n : Result ℕ Want) (x : Table Item) (Q : ℕ → Type 0) → n ≡ counted r → IfOk r (λ t. t ≡ x) → Q (length x.rows) → IfOk n Q
counted_rows (Ok t) n x Q e h q = subst (λ z. IfOk z Q) (sym e) (subst (λ (z : Table Item). Q (length z.rows)) (sym h) q)
counted_rows (Err f) n x Q e h q = subst (λ z. IfOk z Q) (sym e) tt

pub counted_standing : (texts : List Text) (h : Holdings) (r : Result (Table Item) Want) (n : Result ℕ Want) (x : Table Cell) (Q : ℕ → Type 0) → n ≡ counted r → IfOk r (λ t. standing texts h t ≡ x) → Q (length x.rows) → IfOk n Q
counted_standing texts h (Ok t) n x Q e k q = subst (λ z. IfOk z Q) (sym e) (subst Q (sym (ap (λ (z : Table Cell). length z.rows) k) ∙ map_long (meanings texts h) t.rows) q)
counted_standing texts h (Err f) n x Q e k q = subst (λ z. IfOk z Q) (sym e) tt

pub if_ok_many : (n : Result ℕ Want) (m : ℕ) (Q : ℕ → Type 0) → IfOk n (λ z. z ≡ m) → Q m → IfOk n Q
if_ok_many (Ok k) m Q e q = subst Q (sym e) q
if_ok_many (Err f) m Q e q = tt

pub if_ok_map : (n : Result ℕ Want) (P Q : ℕ → Type 0) → ((z : ℕ) → P z → Q z) → IfOk n P → IfOk n Q
if_ok_map (Ok k) P Q f h = f k h
if_ok_map (Err e) P Q f h = tt

numbered_long : {C : Type 0} (R : Rules C) (part lt : List C → List C → Bool) (all done rows : List (List C)) → length (numbered R part lt all done rows) ≡ length rows
numbered_long R part lt all done [] = refl
numbered_long R part lt all done (r ∷ rows) = ap suc (numbered_long R part lt all (done ++ r ∷ []) rows)

module _ (texts : List Text) (h : Holdings) (l r : Table Item) where
  abbrev R : List Item → List Cell
  R q = meanings texts h q

  stood : (held : List (List Item)) (rows : List (List Cell)) → rows ≡ map R held → length held ≡ length rows
  stood held rows e = sym (map_long R held) ∙ sym (ap (λ (z : List (List Cell)). length z) e)

  laws : NoRepeats texts → RowsStand texts h (documents_in texts h)
  laws once = rows_stand texts h (documents_in texts h) once

  pub unit_many : (c : Col) → HasRows texts h (o.Unit c) l r 1
  unit_many c once = refl

  pub empty_many : (cs : List Col) → HasRows texts h (o.Empty cs) l r 0
  empty_many cs once = refl

  pub project_many : (i : OpId) (ps : List Pair) → HasRows texts h (o.Project i ps) l r (length l.rows)
  project_many i ps once = sym (map_long _ (map R l.rows) ∙ map_long R l.rows)

  pub attach_many : (i : OpId) (c : Col) (v : Constant) → HasRows texts h (o.Attach i c v) l r (length l.rows)
  attach_many i c v once = sym (map_long _ (map R l.rows) ∙ map_long R l.rows)

  pub rownum_many : (i : OpId) (c : Col) (ks : List Key) (part : Option Col) → HasRows texts h (o.Rownum i c ks part) l r (length l.rows)
  rownum_many i c ks part once = sym (numbered_long (rules_in texts h) (same_part (rules_in texts h) l.cols part) (keys_less (rules_in texts h) (sort_keys (rules_in texts h) l.cols ks)) (map R l.rows) [] (map R l.rows) ∙ map_long R l.rows)

  pub union_many : (i j : OpId) → HasRows texts h (o.Union i j) l r (length l.rows + length r.rows)
  union_many i j once =
      sym (long_append (map R l.rows) (map (cells (rules_in texts h) r.cols l.cols) (map R r.rows))
      ∙ (λ k. map_long R l.rows k + (map_long (cells (rules_in texts h) r.cols l.cols) (map R r.rows) ∙ map_long R r.rows) k))

  module _ (g : RowsGiven texts h l.rows) where
    pub select_many : (i : OpId) (c : Col) → HasRows texts h (o.Select i c) l r (length (filter (λ q. is_true_item (cell_or no_cell l.cols c q)) l.rows))
    select_many i c once = stood _ _ ((laws once).select l.cols c l.rows g)

    pub distinct_many : (i : OpId) (cs : List Col) → HasRows texts h (o.Distinct i cs) l r (length (first_rows kept (cells_of l.cols cs) l.rows))
    distinct_many i cs once = stood _ _ ((laws once).distinct l.cols cs l.rows g)

    pub count_many : (i : OpId) (a c : Col) → HasRows texts h (o.Count i a c) l r (length (count_rows kept (cell_or no_cell l.cols a) l.rows))
    count_many i a c once = stood _ _ ((laws once).count l.cols a l.rows g)

    pub range_many : (i : OpId) (a b c : Col) → HasRows texts h (o.Range i a b c) l r (length (range_rows kept (cell_or no_cell l.cols a) (cell_or no_cell l.cols b) l.rows))
    range_many i a b c once = stood _ _ ((laws once).range l.cols a b l.rows g)

    module _ (k : RowsGiven texts h r.rows) where
      pub join_many : (i j : OpId) (a b : Col) → HasRows texts h (o.Join i j a b) l r (length (joined kept (cell_or no_cell l.cols a) (cell_or no_cell r.cols b) l.rows r.rows))
      join_many i j a b once = stood _ _ ((laws once).join l.cols r.cols a b l.rows r.rows g k)

      pub difference_many : (i j : OpId) (a b : Col) → HasRows texts h (o.Difference i j a b) l r (length (left_over kept (cell_or no_cell l.cols a) (cell_or no_cell r.cols b) l.rows r.rows))
      difference_many i j a b once = stood _ _ ((laws once).difference l.cols r.cols a b l.rows r.rows g k)

      pub exists_many : (i j : OpId) (op : CompOp) (a v b w : Col) → HasRows texts h (o.ExistsCompare i j op a v b w) l r (length (compared (held_rules texts) is_true_outcome op (cell_or no_cell l.cols a) (cell_or no_cell l.cols v) (cell_or no_cell r.cols b) (cell_or no_cell r.cols w) l.rows r.rows))
      exists_many i j op a v b w once = stood _ _ ((laws once).compare is_true_outcome op l.cols r.cols a v b w l.rows r.rows g k)

      pub fails_many : (i j : OpId) (op : CompOp) (code : Code) (a v b w : Col) → HasRows texts h (o.CompareFails i j op code a v b w) l r (length (compared (held_rules texts) (fails_with code) op (cell_or no_cell l.cols a) (cell_or no_cell l.cols v) (cell_or no_cell r.cols b) (cell_or no_cell r.cols w) l.rows r.rows))
      fails_many i j op code a v b w once = stood _ _ ((laws once).compare (fails_with code) op l.cols r.cols a v b w l.rows r.rows g k)
