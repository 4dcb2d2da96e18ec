-- The rows on which a function fails.
use Rattle.std.proofs.Common.{◌≡◌, ◌∙◌, ◌<◌, ◌≤◌, ◌+◌, ◌++◌, ◌∷◌, [], ℕ, suc, pos, Bool, true, false, cond, List, length, map, take, drop, refl, sym, ap, subst, arith, Result, Ok, Err, IfOk}
use Rattle.std.specs.Prelude.{slice_index_or}
use Rattle.std.specs.List.{filter}
use Rattle.std.proofs.Math.Seq.{drop-cons}
use Rattle.xq_base.specs.declared.code.Code.{Code}
use Rattle.xq_base.specs.declared.fun.Fun.{Fun}
use Rattle.xq_base.specs.declared.item.Item.{Item}
use Rattle.xq_base.specs.Texts.{Text}
use Rattle.doc_table.specs.Documents.{documents_in}
use Rattle.doc_table.specs.Given.{trees_given}
use Rattle.doc_table.specs.Items.{IntItem}
use Rattle.doc_table.specs.NodeRules.{Docs}
use Rattle.doc_table.specs.Stores.{Holdings, AreGiven}
use Rattle.doc_table.specs.StoredItems.{ItemsGiven, meanings}
use Rattle.plan_dag.specs.declared.cols.Col.{Col}
use Rattle.plan_dag.specs.Cells.{Outcome, code_in}
use Rattle.plan_dag.specs.Meaning.{Table, cell_or}
use Rattle.plan_dag.specs.Rows.{map_fails_rows, is_code}
use Rattle.plan_dag.specs.ItemRules.{Cell, item_rules, fun_outcome}
use Rattle.table_ops.specs.declared.attempts.Attempt.{Attempt}
use Rattle.table_ops.specs.declared.attempts.Attempt.TheVariants as t
use Rattle.table_ops.specs.Attempts.{outcome_in}
use Rattle.table_ops.specs.Chains.{places_of}
use Rattle.table_ops.specs.Columns.{rows_at, cells_at, cells_of, row_at, AllWithin}
use Rattle.table_ops.specs.Standing.{standing, RowsGiven}
use Rattle.table_ops.proofs.Combining.{whole}
use Rattle.table_ops.proofs.MapLaws.{all_dropped, row_cells, row_held, items_later, rows_later, rows_given_later, documents_later, cells_move}
use Rattle.table_ops.proofs.RowMoves.{cells_held, given_filter}
use Rattle.table_ops.proofs.Selecting.{picked, within_from}
use Rattle.table_ops.proofs.Lists.{app, to_nothing, map_self}

-- one outcome
pub other_code : (texts : List Text) (h : Holdings) (code other : Code) (O : Outcome Cell) → outcome_in texts h (t.Fails other) ≡ O → is_code code (code_in (outcome_in texts h (t.Fails other))) ≡ is_code code (code_in O)
other_code texts h code other O e = ap (λ o. is_code code (code_in o)) e

pub no_code : (texts : List Text) (h : Holdings) (code : Code) (a : Attempt) (O : Outcome Cell) → ((other : Code) → a ≡ t.Fails other → ⊥) → outcome_in texts h a ≡ O → false ≡ is_code code (code_in O)
no_code texts h code (t.Value item) O n e = ap (λ o. is_code code (code_in o)) e
no_code texts h code (t.Fails other) O n e = absurd (n other refl)
no_code texts h code t.Silent O n e = ap (λ o. is_code code (code_in o)) e

-- one row more: the place is put where the row fails
pub places_turn : {R : Type 0} (T : R → Bool) (rows : List R) (d : R) (p : ℕ) (out more : List ℕ) (b : Bool) → p < length rows → b ≡ T (slice_index_or rows p d) → more ≡ cond b (out ++ p ∷ []) out
    → out ++ places_of T p (drop p rows) ≡ places_of T 0 rows → more ++ places_of T (p + 1) (drop (p + 1) rows) ≡ places_of T 0 rows
places_turn T rows d p out more b l e m was =
    let one : p + 1 ≡ suc p = omega arith in
    ap (λ n. more ++ places_of T n (drop n rows)) one ∙ ap (λ z. z ++ places_of T (suc p) (drop (suc p) rows)) m ∙ by b e
  where
    here : out ++ cond (T (slice_index_or rows p d)) (p ∷ places_of T (suc p) (drop (suc p) rows)) (places_of T (suc p) (drop (suc p) rows)) ≡ places_of T 0 rows
    here = ap (λ z. out ++ places_of T p z) (sym (drop-cons rows p d l)) ∙ was

    by : (b : Bool) → b ≡ T (slice_index_or rows p d) → cond b (out ++ p ∷ []) out ++ places_of T (suc p) (drop (suc p) rows) ≡ places_of T 0 rows
    by true e = app out p (places_of T (suc p) (drop (suc p) rows)) ∙ ap (λ c. out ++ cond c (p ∷ places_of T (suc p) (drop (suc p) rows)) (places_of T (suc p) (drop (suc p) rows))) e ∙ here
    by false e = ap (λ c. out ++ cond c (p ∷ places_of T (suc p) (drop (suc p) rows)) (places_of T (suc p) (drop (suc p) rows))) e ∙ here

pub failing_turn : (first old : List Text) (h : Holdings) (fun : Fun) (code : Code) (cols ds : List Col) (rows : List (List Item)) (p : ℕ) (args : List Item) (out more : List ℕ) (b : Bool)
    → take (length first) old ≡ first → trees_given (length first) h ≡ true → AreGiven first h.docs → RowsGiven first h rows → p < length rows
    → args ≡ row_at (map (λ d. cells_at cols d rows) ds) p
    → b ≡ is_code code (code_in (fun_outcome (documents_in old h) fun (meanings old h args))) → more ≡ cond b (out ++ p ∷ []) out
    → out ++ places_of (λ r. is_code code (code_in (fun_outcome (documents_in first h) fun (meanings first h (cells_of cols ds r))))) p (drop p rows) ≡ places_of (λ r. is_code code (code_in (fun_outcome (documents_in first h) fun (meanings first h (cells_of cols ds r))))) 0 rows
    → more ++ places_of (λ r. is_code code (code_in (fun_outcome (documents_in first h) fun (meanings first h (cells_of cols ds r))))) (p + 1) (drop (p + 1) rows) ≡ places_of (λ r. is_code code (code_in (fun_outcome (documents_in first h) fun (meanings first h (cells_of cols ds r))))) 0 rows
failing_turn first old h fun code cols ds rows p args out more b later trees names g l a e m was =
    let row : List Item = slice_index_or rows p [] in
    let held : ItemsGiven first h (cells_of cols ds row) = cells_held first h cols ds row (row_held first h rows p g) in
    let same : fun_outcome (documents_in old h) fun (meanings old h args) ≡ fun_outcome (documents_in first h) fun (meanings first h (cells_of cols ds row)) =
    (λ i. fun_outcome (documents_later first old h later trees names i) fun (meanings old h ((a ∙ row_cells first cols ds rows p) i)))
    ∙ ap (fun_outcome (documents_in first h) fun) (items_later first old h later trees (cells_of cols ds row) held) in
    places_turn (λ r. is_code code (code_in (fun_outcome (documents_in first h) fun (meanings first h (cells_of cols ds r))))) rows [] p out more b l (e ∙ ap (λ o. is_code code (code_in o)) same) m was

pub failing_end : {R : Type 0} (T : R → Bool) (rows : List R) (p : ℕ) (out : List ℕ) → length rows ≤ p → out ++ places_of T p (drop p rows) ≡ places_of T 0 rows → out ≡ places_of T 0 rows
failing_end T rows p out l e = sym (to_nothing out) ∙ ap (λ z. out ++ places_of T p z) (sym (all_dropped p rows l)) ∙ e

pub failing_within : (T : List Item → Bool) (rows : List (List Item)) (places : List ℕ) → places ≡ places_of T 0 rows → AllWithin (length rows) places
failing_within T rows places e = subst (AllWithin (length rows)) (sym e) (within_from T 0 (length rows) rows (omega arith))

filters_move : (texts : List Text) (h : Holdings) (p : List Item → Bool) (q : List Cell → Bool) (rows : List (List Item)) → ((r : List Item) → p r ≡ q (meanings texts h r)) → map (meanings texts h) (filter p rows) ≡ filter q (map (meanings texts h) rows)
filters_move texts h p q [] e = refl
filters_move texts h p q (r ∷ rows) e =
    ap (λ b. map (meanings texts h) (cond b (r ∷ filter p rows) (filter p rows))) (e r) ∙ by (q (meanings texts h r)) (filters_move texts h p q rows e)
  where
    by : (b : Bool) → map (meanings texts h) (filter p rows) ≡ filter q (map (meanings texts h) rows) → map (meanings texts h) (cond b (r ∷ filter p rows) (filter p rows)) ≡ cond b (meanings texts h r ∷ filter q (map (meanings texts h) rows)) (filter q (map (meanings texts h) rows))
    by true k = ap (λ z. meanings texts h r ∷ z) k
    by false k = k

module _ (old new : List Text) (h : Holdings) (later : take (length old) new ≡ old) (trees : trees_given (length old) h ≡ true) (t : Table Item) (rows : RowsGiven old h t.rows) (docs : Docs) (fun : Fun) (code : Code) (ds : List Col) (places : List ℕ)
    (e : places ≡ places_of (λ r. is_code code (code_in (fun_outcome docs fun (meanings old h (cells_of t.cols ds r))))) 0 t.rows) where
  abbrev T : List Item → Bool
  T r = is_code code (code_in (fun_outcome docs fun (meanings old h (cells_of t.cols ds r))))

  gathered : rows_at t.rows places ≡ filter T t.rows
  gathered = ap (rows_at t.rows) (e ∙ ap (places_of T 0) (sym (map_self t.rows))) ∙ picked T (λ r. r) [] t.rows

  if_ok_on : {E : Type 0} (r : Result (Table Item) E) (x : Table Item) (Q : Table Item → Type 0) → Q x → IfOk r (λ z. z ≡ x) → IfOk r Q
  if_ok_on (Ok a) x Q p e = subst Q (sym e) p
  if_ok_on (Err b) x Q p e = tt

  pub fails_whole : {E : Type 0} (r : Result (Table Item) E) → IfOk r (λ x. x ≡ whole t.cols (rows_at t.rows places))
      → IfOk r (λ x. standing new h x ≡ record { cols = t.cols; rows = map_fails_rows (item_rules docs old) fun code (λ q. map (λ d. cell_or (IntItem (pos 0)) t.cols d q) ds) (map (meanings old h) t.rows) })
  fails_whole r x =
      if_ok_on r _ _
      (λ i. record {
        cols = t.cols;
        rows = (ap (map (meanings new h)) gathered ∙ rows_later old new h later trees (filter T t.rows) (given_filter old h T t.rows rows)
            ∙ filters_move old h T (λ q. is_code code (code_in (fun_outcome docs fun (map (λ d. cell_or (IntItem (pos 0)) t.cols d q) ds)))) t.rows (λ r. ap (λ z. is_code code (code_in (fun_outcome docs fun z))) (cells_move old h t.cols ds r))) i;
      })
      x

  pub fails_given : {E : Type 0} (r : Result (Table Item) E) → IfOk r (λ x. x ≡ whole t.cols (rows_at t.rows places)) → IfOk r (λ x. RowsGiven new h x.rows)
  fails_given r x = if_ok_on r _ _ (subst (RowsGiven new h) (sym gathered) (rows_given_later old new h later trees (filter T t.rows) (given_filter old h T t.rows rows))) x
