-- The tables that operators make over kept cells stand for those over items, and their cells are given.
use Rattle.std.proofs.Common.{◌≡◌, ◌∙◌, ◌++◌, ◌∷◌, ◌&&◌, [], ℤ, Bool, true, not, List, map, length, take, refl, sym, Result, Ok, Err, IfOk, Option}
use Rattle.std.specs.List.{filter, list_any}
use Rattle.xq_base.specs.declared.code.Code.{Code}
use Rattle.xq_base.specs.declared.fun.CompOp.{CompOp}
use Rattle.xq_base.specs.declared.item.Atom.{Atom as Constant}
use Rattle.xq_base.specs.declared.item.Atom.TheVariants as a
use Rattle.xq_base.specs.declared.item.Item.{Item}
use Rattle.xq_base.specs.declared.item.Item.TheVariants as i
use Rattle.xq_base.specs.declared.item.Want.{Want}
use Rattle.xq_base.specs.Pool.{NoRepeats}
use Rattle.xq_base.specs.Texts.{Text}
use Rattle.doc_table.specs.Documents.{documents_in}
use Rattle.doc_table.specs.Given.{trees_given}
use Rattle.doc_table.specs.Stores.{Holdings}
use Rattle.doc_table.specs.StoredItems.{ItemGiven, ItemsGiven, meanings}
use Rattle.xq_funs.specs.Answering.{atom_given}
use Rattle.plan_dag.specs.declared.cols.Col.{Col}
use Rattle.plan_dag.specs.declared.keys.Key.{Key}
use Rattle.plan_dag.specs.declared.op.Op.{Op}
use Rattle.plan_dag.specs.declared.op.Op.TheVariants as o
use Rattle.plan_dag.specs.declared.op.OpId.{OpId}
use Rattle.plan_dag.specs.declared.pairs.Pair.{Pair}
use Rattle.plan_dag.specs.Cells.{Outcome}
use Rattle.plan_dag.specs.Meaning.{Table, cell_or, cells, sort_keys, is_true_outcome, fails_with}
use Rattle.plan_dag.specs.Rows.{joined, left_over, first_rows, group_rows, keys_less, numbered, rownum_rows, count_rows, range_rows, compared, ints_between, num, all_same}
use Rattle.table_ops.specs.Columns.{no_cell, cells_of}
use Rattle.table_ops.specs.Held.{held_constant, held_int, held_rules, kept}
use Rattle.table_ops.specs.Keys.{item_eq}
use Rattle.table_ops.specs.Picks.{is_true_item}
use Rattle.table_ops.specs.Results.{op_table, Makes}
use Rattle.table_ops.specs.Sorting.{tied_part}
use Rattle.table_ops.specs.Standing.{RowsGiven}
use Rattle.table_ops.specs.StandLaws.{RowsStand}
use Rattle.table_ops.proofs.CellMoves.{cell_held}
use Rattle.table_ops.proofs.Combining.{whole}
use Rattle.table_ops.proofs.Lawful.{rows_stand}
use Rattle.table_ops.proofs.MapLaws.{rows_later, rows_given_later}
use Rattle.table_ops.proofs.RowMoves.{given_append, items_append, given_filter, given_map, given_flat, given_firsts, cells_held}

-- a result that meets both
pub if_ok_both : {T : Type 0} (r : Result T Want) (P Q S : T → Type 0) → ((x : T) → P x → Q x → S x) → IfOk r P → IfOk r Q → IfOk r S
if_ok_both (Ok x) P Q S f p q = f x p q
if_ok_both (Err e) P Q S f p q = tt

constant_held : (texts : List Text) (h : Holdings) (v : Constant) → atom_given (length texts) v ≡ true → ItemGiven texts h (held_constant v)
constant_held texts h (a.Int z) g = tt
constant_held texts h (a.Str id) g = g
constant_held texts h (a.Untyped id) g = g
constant_held texts h (a.Bool b) g = tt

module _ (texts : List Text) (h : Holdings) where
  given_ints : (r : List Item) (zs : List ℤ) → ItemsGiven texts h r → RowsGiven texts h (map (λ z. r ++ i.Int z ∷ []) zs)
  given_ints r [] g = tt
  given_ints r (z ∷ zs) g = (items_append texts h r (i.Int z ∷ []) g (tt, tt), given_ints r zs g)

  given_numbers : (part lt : List Item → List Item → Bool) (all done rows : List (List Item)) → RowsGiven texts h rows → RowsGiven texts h (numbered kept part lt all done rows)
  given_numbers part lt all done [] g = tt
  given_numbers part lt all done (r ∷ rows) g = (items_append texts h r _ g.0 (tt, tt), given_numbers part lt all (done ++ r ∷ []) rows g.1)

module _ (texts : List Text) (h : Holdings) (l r : Table Item) where
  abbrev K : List Col → Col → List Item → Item
  K cols c q = cell_or no_cell cols c q

  laws : NoRepeats texts → RowsStand texts h (documents_in texts h)
  laws once = rows_stand texts h (documents_in texts h) once

  -- a table with rows that stand for those of the operator
  made : (op : Op) (cols : List Col) (rows : List (List Item)) → (NoRepeats texts → record { cols = cols; rows = map (meanings texts h) rows } ≡ op_table texts h op l r) → RowsGiven texts h rows → Makes texts h op l r texts (whole cols rows)
  made op cols rows e g = record { table = e; given = g }

  pub unit_made : (c : Col) → Makes texts h (o.Unit c) l r texts (whole (c ∷ []) ((num kept 1 ∷ []) ∷ []))
  unit_made c = made (o.Unit c) (c ∷ []) ((num kept 1 ∷ []) ∷ []) (λ once. refl) ((tt, tt), tt)

  pub empty_made : (cs : List Col) → Makes texts h (o.Empty cs) l r texts (whole cs [])
  empty_made cs = made (o.Empty cs) cs [] (λ once. refl) tt

  module _ (g : RowsGiven texts h l.rows) where
    pub project_made : (n : OpId) (ps : List Pair) → Makes texts h (o.Project n ps) l r texts (whole (map (λ p. p.new) ps) (map (cells kept l.cols (map (λ p. p.old) ps)) l.rows))
    project_made n ps = made (o.Project n ps) _ _ (λ once j. record { cols = map (λ p. p.new) ps; rows = sym ((laws once).project l.cols (map (λ p. p.old) ps) l.rows g) j }) (given_map texts h (cells_of l.cols (map (λ p. p.old) ps)) l.rows (λ q k. cells_held texts h l.cols (map (λ p. p.old) ps) q k) g)

    pub attach_made : (n : OpId) (c : Col) (v : Constant) → atom_given (length texts) v ≡ true → Makes texts h (o.Attach n c v) l r texts (whole (l.cols ++ c ∷ []) (map (λ q. q ++ held_constant v ∷ []) l.rows))
    attach_made n c v k = made (o.Attach n c v) _ _ (λ once j. record { cols = l.cols ++ c ∷ []; rows = sym ((laws once).attach v l.rows g) j }) (given_map texts h (λ q. q ++ held_constant v ∷ []) l.rows (λ q m. items_append texts h q (held_constant v ∷ []) m (constant_held texts h v k, tt)) g)

    pub select_made : (n : OpId) (c : Col) → Makes texts h (o.Select n c) l r texts (whole l.cols (filter (λ q. is_true_item (K l.cols c q)) l.rows))
    select_made n c = made (o.Select n c) _ _ (λ once j. record { cols = l.cols; rows = sym ((laws once).select l.cols c l.rows g) j }) (given_filter texts h (λ q. is_true_item (K l.cols c q)) l.rows g)

    pub distinct_made : (n : OpId) (cs : List Col) → Makes texts h (o.Distinct n cs) l r texts (whole l.cols (first_rows kept (cells_of l.cols cs) l.rows))
    distinct_made n cs = made (o.Distinct n cs) _ _ (λ once j. record { cols = l.cols; rows = sym ((laws once).distinct l.cols cs l.rows g) j }) (given_firsts texts h (λ q s. all_same kept (cells_of l.cols cs q) (cells_of l.cols cs s)) [] l.rows g)

    pub rownum_made : (n : OpId) (c : Col) (ks : List Key) (part : Option Col) → Makes texts h (o.Rownum n c ks part) l r texts (whole (l.cols ++ c ∷ []) (rownum_rows kept (tied_part texts l.cols part) (keys_less (held_rules texts) (sort_keys (held_rules texts) l.cols ks)) l.rows))
    rownum_made n c ks part = made (o.Rownum n c ks part) _ _ (λ once j. record { cols = l.cols ++ c ∷ []; rows = sym ((laws once).rownum l.cols ks part l.rows g) j }) (given_numbers texts h (tied_part texts l.cols part) (keys_less (held_rules texts) (sort_keys (held_rules texts) l.cols ks)) l.rows [] l.rows g)

    pub count_made : (n : OpId) (a c : Col) → Makes texts h (o.Count n a c) l r texts (whole (a ∷ c ∷ []) (count_rows kept (K l.cols a) l.rows))
    count_made n a c = made (o.Count n a c) _ _ (λ once j. record { cols = a ∷ c ∷ []; rows = sym ((laws once).count l.cols a l.rows g) j }) (given_map texts h _ (group_rows kept (K l.cols a) l.rows) (λ q k. (cell_held texts h l.cols a q k, (tt, tt))) (given_firsts texts h (λ q s. item_eq (K l.cols a q) (K l.cols a s)) [] l.rows g))

    pub range_made : (n : OpId) (a b c : Col) → Makes texts h (o.Range n a b c) l r texts (whole (l.cols ++ c ∷ []) (range_rows kept (K l.cols a) (K l.cols b) l.rows))
    range_made n a b c = made (o.Range n a b c) _ _ (λ once j. record { cols = l.cols ++ c ∷ []; rows = sym ((laws once).range l.cols a b l.rows g) j }) (given_flat texts h _ l.rows (λ q k. given_ints texts h q (ints_between (held_int (K l.cols a q)) (held_int (K l.cols b q))) k) g)

    module _ (k : RowsGiven texts h r.rows) where
      pub join_made : (m n : OpId) (a b : Col) → Makes texts h (o.Join m n a b) l r texts (whole (l.cols ++ r.cols) (joined kept (K l.cols a) (K r.cols b) l.rows r.rows))
      join_made m n a b = made (o.Join m n a b) _ _ (λ once j. record { cols = l.cols ++ r.cols; rows = sym ((laws once).join l.cols r.cols a b l.rows r.rows g k) j })
          (given_flat texts h _ l.rows (λ q e. given_map texts h (λ s. q ++ s) (filter (λ s. item_eq (K l.cols a q) (K r.cols b s)) r.rows) (λ s f. items_append texts h q s e f) (given_filter texts h (λ s. item_eq (K l.cols a q) (K r.cols b s)) r.rows k)) g)

      pub union_made : (m n : OpId) → Makes texts h (o.Union m n) l r texts (whole l.cols (l.rows ++ map (cells kept r.cols l.cols) r.rows))
      union_made m n = made (o.Union m n) _ _ (λ once j. record { cols = l.cols; rows = sym ((laws once).union l.cols r.cols l.rows r.rows g k) j })
          (given_append texts h l.rows (map (cells_of r.cols l.cols) r.rows) g (given_map texts h (cells_of r.cols l.cols) r.rows (λ q e. cells_held texts h r.cols l.cols q e) k))

      pub difference_made : (m n : OpId) (a b : Col) → Makes texts h (o.Difference m n a b) l r texts (whole l.cols (left_over kept (K l.cols a) (K r.cols b) l.rows r.rows))
      difference_made m n a b = made (o.Difference m n a b) _ _ (λ once j. record { cols = l.cols; rows = sym ((laws once).difference l.cols r.cols a b l.rows r.rows g k) j })
          (given_filter texts h (λ q. not (list_any (λ s. item_eq (K l.cols a q) (K r.cols b s)) r.rows)) l.rows g)

      compared_given : (passes : Outcome Bool → Bool) (op : CompOp) (a v b w : Col) → RowsGiven texts h (compared (held_rules texts) passes op (K l.cols a) (K l.cols v) (K r.cols b) (K r.cols w) l.rows r.rows)
      compared_given passes op a v b w =
          given_map texts h (λ q. K l.cols a q ∷ []) _ (λ q e. (cell_held texts h l.cols a q e, tt))
          (given_firsts texts h (λ q s. item_eq (K l.cols a q) (K l.cols a s)) [] _ (given_filter texts h (λ q. list_any (λ s. item_eq (K l.cols a q) (K r.cols b s) && passes ((held_rules texts).pair op (K l.cols v q) (K r.cols w s))) r.rows) l.rows g))

      pub exists_made : (m n : OpId) (op : CompOp) (a v b w : Col) → Makes texts h (o.ExistsCompare m n op a v b w) l r texts (whole (a ∷ []) (compared (held_rules texts) is_true_outcome op (K l.cols a) (K l.cols v) (K r.cols b) (K r.cols w) l.rows r.rows))
      exists_made m n op a v b w = made (o.ExistsCompare m n op a v b w) _ _ (λ once j. record { cols = a ∷ []; rows = sym ((laws once).compare is_true_outcome op l.cols r.cols a v b w l.rows r.rows g k) j }) (compared_given is_true_outcome op a v b w)

      pub fails_made : (m n : OpId) (op : CompOp) (code : Code) (a v b w : Col) → Makes texts h (o.CompareFails m n op code a v b w) l r texts (whole (a ∷ []) (compared (held_rules texts) (fails_with code) op (K l.cols a) (K l.cols v) (K r.cols b) (K r.cols w) l.rows r.rows))
      fails_made m n op code a v b w = made (o.CompareFails m n op code a v b w) _ _ (λ once j. record { cols = a ∷ []; rows = sym ((laws once).compare (fails_with code) op l.cols r.cols a v b w l.rows r.rows g k) j }) (compared_given (fails_with code) op a v b w)

-- the same over a longer pool
pub still_made : (old mid new : List Text) (h : Holdings) (op : Op) (l r t : Table Item) → take (length mid) new ≡ mid → trees_given (length mid) h ≡ true → Makes old h op l r mid t → Makes old h op l r new t
still_made old mid new h op l r t later trees m = record {
  table = λ once. (λ j. record { cols = t.cols; rows = rows_later mid new h later trees t.rows m.given j }) ∙ m.table once;
  given = rows_given_later mid new h later trees t.rows m.given;
}
