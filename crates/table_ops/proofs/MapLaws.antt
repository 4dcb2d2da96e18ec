-- Found values are the rows of a map.
use Rattle.std.proofs.Common.{◌≡◌, ◌∙◌, ◌<◌, ◌≤◌, ◌+◌, ◌++◌, ◌∷◌, [], ℕ, zero, suc, pos, true, List, length, map, take, drop, refl, sym, ap, subst, arith, Result, Ok, Err, IfOk}
use Rattle.std.specs.Prelude.{slice_index_or}
use Rattle.std.specs.List.{flat_map}
use Rattle.std.proofs.Math.Seq.{drop-cons}
use Rattle.xq_base.specs.declared.fun.Fun.{Fun}
use Rattle.xq_base.specs.declared.item.Item.{Item}
use Rattle.xq_base.specs.Texts.{Text}
use Rattle.doc_table.specs.Documents.{documents_in}
use Rattle.doc_table.specs.Given.{trees_given}
use Rattle.doc_table.specs.Items.{IntItem, item_of}
use Rattle.doc_table.specs.NodeRules.{Docs}
use Rattle.doc_table.specs.Stores.{Holdings, AreGiven}
use Rattle.doc_table.specs.StoredItems.{ItemGiven, ItemsGiven, meanings, trees_of}
use Rattle.doc_table.proofs.GrownPools.{grown_pool_keeps}
use Rattle.doc_table.proofs.LaterTexts.{item-later}
use Rattle.xq_funs.proofs.Later.{item_given_later}
use Rattle.plan_dag.specs.declared.cols.Col.{Col}
use Rattle.plan_dag.specs.Cells.{Outcome, given}
use Rattle.plan_dag.specs.Meaning.{Table, cell_or}
use Rattle.plan_dag.specs.Schema.{takes}
use Rattle.plan_dag.specs.Rows.{map_rows}
use Rattle.plan_dag.specs.ItemRules.{Cell, item_rules, fun_outcome}
use Rattle.table_ops.specs.Attempts.{outcome_in, valued, pairs_in, PairsGiven}
use Rattle.table_ops.specs.declared.attempts.Attempt.{Attempt}
use Rattle.table_ops.specs.declared.attempts.Attempt.TheVariants as t
use Rattle.table_ops.specs.Columns.{rows_at, rows_beside, single_rows, cells_at, cells_of, row_at, AllWithin}
use Rattle.table_ops.specs.Standing.{standing, RowsGiven}
use Rattle.table_ops.proofs.Combining.{whole}
use Rattle.table_ops.proofs.CellMoves.{cell_moves}
use Rattle.table_ops.proofs.RowMoves.{items_append, cells_held}
use Rattle.table_ops.proofs.RownumLaws.{cell_there}
use Rattle.table_ops.proofs.Lists.{maps, app, longer as pushed_long, at_end, map_append, map_long, to_nothing, joined_to}

module _ (old new : List Text) (h : Holdings) (later : take (length old) new ≡ old) (trees : trees_given (length old) h ≡ true) where
  pub pairs_later : (ps : List (ℕ × Item)) → PairsGiven old h ps → pairs_in new h ps ≡ pairs_in old h ps
  pairs_later [] g = refl
  pairs_later (p ∷ ps) g = λ i. (p.0, item-later old new later h p.1 trees g.0 i) ∷ pairs_later ps g.1 i

  pub pairs_given_later : (ps : List (ℕ × Item)) → PairsGiven old h ps → PairsGiven new h ps
  pairs_given_later [] g = tt
  pairs_given_later (p ∷ ps) g = (item_given_later old new later h p.1 g.0, pairs_given_later ps g.1)

  pub items_later : (r : List Item) → ItemsGiven old h r → meanings new h r ≡ meanings old h r
  items_later [] g = refl
  items_later (v ∷ r) g = λ i. item-later old new later h v trees g.0 i ∷ items_later r g.1 i

  pub items_given_later : (r : List Item) → ItemsGiven old h r → ItemsGiven new h r
  items_given_later [] g = tt
  items_given_later (v ∷ r) g = (item_given_later old new later h v g.0, items_given_later r g.1)

  pub rows_later : (rows : List (List Item)) → RowsGiven old h rows → map (meanings new h) rows ≡ map (meanings old h) rows
  rows_later [] g = refl
  rows_later (r ∷ rows) g = λ i. items_later r g.0 i ∷ rows_later rows g.1 i

  pub rows_given_later : (rows : List (List Item)) → RowsGiven old h rows → RowsGiven new h rows
  rows_given_later [] g = tt
  rows_given_later (r ∷ rows) g = (items_given_later r g.0, rows_given_later rows g.1)

  longer : length old ≤ length new
  longer = (grown_pool_keeps old new later).longer

  pub names_later : AreGiven old h.docs → AreGiven new h.docs
  names_later g = each h.docs g
    where
      each : (docs : List _) → AreGiven old docs → AreGiven new docs
      each [] g = tt
      each (d ∷ docs) g = (let l = longer in omega (arith, g.0, l), each docs g.1)

  pub documents_later : AreGiven old h.docs → documents_in new h ≡ documents_in old h
  documents_later g = (grown_pool_keeps old new later).documents h g trees

  pairs_push : (ps : List (ℕ × Item)) (p : ℕ × Item) → PairsGiven new h ps → ItemGiven new h p.1 → PairsGiven new h (ps ++ p ∷ [])
  pairs_push [] p g k = (k, tt)
  pairs_push (q ∷ ps) p g k = (g.0, pairs_push ps p g.1 k)

  -- one value more
  pub put_found : (ps more : List (ℕ × Item)) (place : ℕ) (item : Item) (O : Outcome Cell) → PairsGiven old h ps → more ≡ ps ++ (place, item) ∷ [] → outcome_in new h (t.Value item) ≡ O → pairs_in new h more ≡ pairs_in old h ps ++ map (λ v. (place, v)) (given O)
  put_found ps more place item O g e o =
      ap (pairs_in new h) e ∙ map_append (λ (p : ℕ × Item). (p.0, item_of new (trees_of h) p.1)) ps ((place, item) ∷ [])
      ∙ (λ i. pairs_later ps g i ++ map (λ v. (place, v)) (given (o i)))

  pub put_given : (ps more : List (ℕ × Item)) (place : ℕ) (item : Item) → PairsGiven old h ps → more ≡ ps ++ (place, item) ∷ [] → ItemGiven new h item → PairsGiven new h more
  put_given ps more place item g e k = subst (PairsGiven new h) (sym e) (pairs_push ps (place, item) (pairs_given_later ps g) k)

  pub put_none : (ps : List (ℕ × Item)) (place : ℕ) (a : Attempt) (O : Outcome Cell) → PairsGiven old h ps → ((item : Item) → a ≡ t.Value item → ⊥) → outcome_in new h a ≡ O → pairs_in new h ps ≡ pairs_in old h ps ++ map (λ v. (place, v)) (given O)
  put_none ps place (t.Value item) O g n o = absurd (n item refl)
  put_none ps place (t.Fails code) O g n o = pairs_later ps g ∙ sym (to_nothing (pairs_in old h ps)) ∙ (λ i. pairs_in old h ps ++ map (λ v. (place, v)) (given (o i)))
  put_none ps place t.Silent O g n o = pairs_later ps g ∙ sym (to_nothing (pairs_in old h ps)) ∙ (λ i. pairs_in old h ps ++ map (λ v. (place, v)) (given (o i)))

-- the cells of a row
pub row_cells : (texts : List Text) (cols ds : List Col) (rows : List (List Item)) (p : ℕ) → row_at (map (λ d. cells_at cols d rows) ds) p ≡ cells_of cols ds (slice_index_or rows p [])
row_cells texts cols [] rows p = refl
row_cells texts cols (d ∷ ds) rows p = λ i. cell_there texts cols d rows p i ∷ row_cells texts cols ds rows p i

pub row_held : (texts : List Text) (h : Holdings) (rows : List (List Item)) (p : ℕ) → RowsGiven texts h rows → ItemsGiven texts h (slice_index_or rows p [])
row_held texts h [] p g = tt
row_held texts h (r ∷ rows) zero g = g.0
row_held texts h (r ∷ rows) (suc p) g = row_held texts h rows p g.1

cells_long : (cols ds : List Col) (r : List Item) → length (cells_of cols ds r) ≡ length ds
cells_long cols [] r = refl
cells_long cols (d ∷ ds) r = ap suc (cells_long cols ds r)

pub args_long : (texts : List Text) (cols ds : List Col) (rows : List (List Item)) (p : ℕ) (args : List Item) → args ≡ row_at (map (λ d. cells_at cols d rows) ds) p → length args ≡ length ds
args_long texts cols ds rows p args e = ap (λ (z : List Item). length z) (e ∙ row_cells texts cols ds rows p) ∙ cells_long cols ds (slice_index_or rows p [])

pub args_held : (texts : List Text) (h : Holdings) (cols ds : List Col) (rows : List (List Item)) (p : ℕ) (args : List Item) → args ≡ row_at (map (λ d. cells_at cols d rows) ds) p → RowsGiven texts h rows → ItemsGiven texts h args
args_held texts h cols ds rows p args e g = subst (ItemsGiven texts h) (sym (e ∙ row_cells texts cols ds rows p)) (cells_held texts h cols ds (slice_index_or rows p []) (row_held texts h rows p g))

-- one value more
pub value_turn : {R : Type 0} (old new : List Text) (h : Holdings) (O : R → Outcome Cell) (rows : List R) (d : R) (p : ℕ) (ps more : List (ℕ × Item)) → p < length rows
    → pairs_in new h more ≡ pairs_in old h ps ++ map (λ v. (p, v)) (given (O (slice_index_or rows p d))) → pairs_in old h ps ++ valued O p (drop p rows) ≡ valued O 0 rows
    → pairs_in new h more ++ valued O (p + 1) (drop (p + 1) rows) ≡ valued O 0 rows
value_turn old new h O rows d p ps more l e was =
    let one : p + 1 ≡ suc p = omega arith in
    ap (λ z. z ++ valued O (p + 1) (drop (p + 1) rows)) e
    ∙ ap (λ n. (pairs_in old h ps ++ map (λ v. (p, v)) (given (O (slice_index_or rows p d)))) ++ valued O n (drop n rows)) one
    ∙ joined_to (pairs_in old h ps) (map (λ v. (p, v)) (given (O (slice_index_or rows p d)))) (valued O (suc p) (drop (suc p) rows))
    ∙ ap (λ z. pairs_in old h ps ++ valued O p z) (sym (drop-cons rows p d l))
    ∙ was

-- one row more
pub values_turn : (first old new : List Text) (h : Holdings) (fun : Fun) (cols ds : List Col) (rows : List (List Item)) (p : ℕ) (args : List Item) (ps more : List (ℕ × Item))
    → take (length first) old ≡ first → trees_given (length first) h ≡ true → AreGiven first h.docs → RowsGiven first h rows → p < length rows
    → args ≡ row_at (map (λ d. cells_at cols d rows) ds) p
    → pairs_in new h more ≡ pairs_in old h ps ++ map (λ v. (p, v)) (given (fun_outcome (documents_in old h) fun (meanings old h args)))
    → pairs_in old h ps ++ valued (λ r. fun_outcome (documents_in first h) fun (meanings first h (cells_of cols ds r))) p (drop p rows) ≡ valued (λ r. fun_outcome (documents_in first h) fun (meanings first h (cells_of cols ds r))) 0 rows
    → pairs_in new h more ++ valued (λ r. fun_outcome (documents_in first h) fun (meanings first h (cells_of cols ds r))) (p + 1) (drop (p + 1) rows) ≡ valued (λ r. fun_outcome (documents_in first h) fun (meanings first h (cells_of cols ds r))) 0 rows
values_turn first old new h fun cols ds rows p args ps more later trees names g l a e was =
    let O : List Item → Outcome Cell = λ r. fun_outcome (documents_in first h) fun (meanings first h (cells_of cols ds r)) in
    let row : List Item = slice_index_or rows p [] in
    let held : ItemsGiven first h (cells_of cols ds row) = cells_held first h cols ds row (row_held first h rows p g) in
    let same : fun_outcome (documents_in old h) fun (meanings old h args) ≡ O row =
    (λ i. fun_outcome (documents_later first old h later trees names i) fun (meanings old h ((a ∙ row_cells first cols ds rows p) i)))
    ∙ ap (fun_outcome (documents_in first h) fun) (items_later first old h later trees (cells_of cols ds row) held) in
    value_turn old new h O rows [] p ps more l (e ∙ ap (λ z. pairs_in old h ps ++ map (λ v. (p, v)) (given z)) same) was

pub all_dropped : {X : Type 0} (n : ℕ) (xs : List X) → length xs ≤ n → drop n xs ≡ []
all_dropped zero [] h = refl
all_dropped zero (x ∷ xs) h = absurd (omega (arith, h))
all_dropped (suc n) [] h = refl
all_dropped (suc n) (x ∷ xs) h = all_dropped n xs (omega (arith, h))

pub values_end : {R : Type 0} (O : R → Outcome Cell) (rows : List R) (p : ℕ) (done : List (ℕ × Cell)) → length rows ≤ p → done ++ valued O p (drop p rows) ≡ valued O 0 rows → done ≡ valued O 0 rows
values_end O rows p done l e = sym (to_nothing done) ∙ ap (λ z. done ++ valued O p z) (sym (all_dropped p rows l)) ∙ e

-- the rows with their values
beside_pairs : (rows : List (List Item)) (ps : List (ℕ × Item)) → rows_beside (rows_at rows (map (λ p. p.0) ps)) (single_rows (map (λ p. p.1) ps)) ≡ map (λ p. slice_index_or rows p.0 [] ++ p.1 ∷ []) ps
beside_pairs rows [] = refl
beside_pairs rows (p ∷ ps) = ap (λ z. (slice_index_or rows p.0 [] ++ p.1 ∷ []) ∷ z) (beside_pairs rows ps)

-- the values, each with what stands at its place
pub with_values : {X Y : Type 0} (O : X → Outcome Cell) (f : X → Cell → Y) (d : X) (done rows : List X) → map (λ (q : ℕ × Cell). f (slice_index_or (done ++ rows) q.0 d) q.1) (valued O (length done) rows) ≡ flat_map (λ r. map (f r) (given (O r))) rows
with_values O f d done [] = refl
with_values O f d done (r ∷ rows) =
    map_append (λ (q : ℕ × Cell). f (slice_index_or (done ++ r ∷ rows) q.0 d) q.1) (map (λ v. (length done, v)) (given (O r))) (valued O (suc (length done)) rows)
    ∙ (λ i. (maps (λ (q : ℕ × Cell). f (slice_index_or (done ++ r ∷ rows) q.0 d) q.1) (λ v. (length done, v)) (given (O r)) ∙ ap (λ z. map (f z) (given (O r))) (at_end done r rows d)) i
    ++ (ap (λ n. map (λ (q : ℕ × Cell). f (slice_index_or (done ++ r ∷ rows) q.0 d) q.1) (valued O n rows)) (sym (pushed_long done r))
    ∙ ap (λ z. map (λ (q : ℕ × Cell). f (slice_index_or z q.0 d) q.1) (valued O (length (done ++ r ∷ [])) rows)) (sym (app done r rows))
    ∙ with_values O f d (done ++ r ∷ []) rows) i)

module _ (texts : List Text) (h : Holdings) where
  abbrev R : List Item → List Cell
  R r = meanings texts h r

  flat_maps : (p : List Item → List (List Cell)) (q : List Cell → List (List Cell)) (rows : List (List Item)) → ((r : List Item) → p r ≡ q (R r)) → flat_map p rows ≡ flat_map q (map R rows)
  flat_maps p q [] e = refl
  flat_maps p q (r ∷ rows) e = λ i. e r i ++ flat_maps p q rows e i

  pub cells_move : (cols ds : List Col) (r : List Item) → R (cells_of cols ds r) ≡ map (λ d. cell_or (IntItem (pos 0)) cols d (R r)) ds
  cells_move cols [] r = refl
  cells_move cols (d ∷ ds) r = λ j. sym (cell_moves texts h cols d r) j ∷ cells_move cols ds r j

  pub mapped_rows : (docs : Docs) (fun : Fun) (cols ds : List Col) (rows : List (List Item))
      → map (λ (q : ℕ × Cell). R (slice_index_or rows q.0 []) ++ q.1 ∷ []) (valued (λ r. fun_outcome docs fun (R (cells_of cols ds r))) 0 rows)
      ≡ map_rows (item_rules docs texts) fun (λ r. map (λ d. cell_or (IntItem (pos 0)) cols d r) ds) (map R rows)
  mapped_rows docs fun cols ds rows =
      with_values (λ r. fun_outcome docs fun (R (cells_of cols ds r))) (λ r v. R r ++ v ∷ []) [] [] rows
      ∙ flat_maps (λ r. map (λ v. R r ++ v ∷ []) (given (fun_outcome docs fun (R (cells_of cols ds r))))) (λ r. map (λ v. r ++ v ∷ []) (given (fun_outcome docs fun (map (λ d. cell_or (IntItem (pos 0)) cols d r) ds)))) rows
      (λ r. ap (λ z. map (λ v. R r ++ v ∷ []) (given (fun_outcome docs fun z))) (cells_move cols ds r))

-- found places are within
valued_within : {R : Type 0} (O : R → Outcome Cell) (k n : ℕ) (rows : List R) → k + length rows ≤ n → AllWithin n (map (λ p. p.0) (valued O k rows))
valued_within O k n [] h = tt
valued_within O k n (r ∷ rows) h = both (given (O r)) (valued_within O (suc k) n rows (omega (arith, h)))
  where
    both : (vs : List Cell) → AllWithin n (map (λ p. p.0) (valued O (suc k) rows)) → AllWithin n (map (λ p. p.0) (map (λ v. (k, v)) vs ++ valued O (suc k) rows))
    both [] r = r
    both (v ∷ vs) r = (omega (arith, h), both vs r)

pub found_within : {R : Type 0} (O : R → Outcome Cell) (texts : List Text) (h : Holdings) (rows : List R) (ps : List (ℕ × Item)) (qs : List ℕ) → pairs_in texts h ps ≡ valued O 0 rows → qs ≡ map (λ p. p.0) ps → AllWithin (length rows) qs
found_within O texts h rows ps qs e k =
    subst (AllWithin (length rows)) (sym (k ∙ sym (maps (λ (q : ℕ × Cell). q.0) (λ p. (p.0, item_of texts (trees_of h) p.1)) ps) ∙ ap (map (λ q. q.0)) e)) (valued_within O 0 (length rows) rows (omega arith))

module _ (old new : List Text) (h : Holdings) (later : take (length old) new ≡ old) (trees : trees_given (length old) h ≡ true) (t : Table Item) (rows : RowsGiven old h t.rows) (c : Col) (ps : List (ℕ × Item)) (qs : List ℕ) (cells : List Item) (L Q : Table Item)
    (k : qs ≡ map (λ p. p.0) ps) (m : cells ≡ map (λ p. p.1) ps) (eL : L ≡ whole t.cols (rows_at t.rows qs)) (eQ : Q ≡ whole (c ∷ []) (single_rows cells)) where
  pub map_few : length t.cols < 8 → length L.cols + length Q.cols < 9
  map_few h =
      let left : length L.cols ≡ length t.cols = ap (λ (z : Table Item). length z.cols) eL in
      let right : length Q.cols ≡ 1 = ap (λ (z : Table Item). length z.cols) eQ in
      omega (arith, left, right, h)

  pub map_high : length L.rows ≡ length Q.rows
  map_high =
      ap (λ (z : Table Item). length z.rows) eL ∙ map_long (λ p. slice_index_or t.rows p []) qs ∙ ap (λ (z : List ℕ). length z) k ∙ map_long (λ p. p.0) ps
      ∙ sym (ap (λ (z : Table Item). length z.rows) eQ ∙ map_long (λ v. v ∷ []) cells ∙ ap (λ (z : List Item). length z) m ∙ map_long (λ p. p.1) ps)

  beside_is : whole (L.cols ++ Q.cols) (rows_beside L.rows Q.rows) ≡ whole (t.cols ++ c ∷ []) (map (λ p. slice_index_or t.rows p.0 [] ++ p.1 ∷ []) ps)
  beside_is =
      (λ i. whole ((eL i).cols ++ (eQ i).cols) (rows_beside (eL i).rows (eQ i).rows))
      ∙ (λ i. whole (t.cols ++ c ∷ []) (rows_beside (rows_at t.rows (k i)) (single_rows (m i))))
      ∙ ap (whole (t.cols ++ c ∷ [])) (beside_pairs t.rows ps)

  each_row : (qs : List (ℕ × Item)) → map (meanings new h) (map (λ p. slice_index_or t.rows p.0 [] ++ p.1 ∷ []) qs) ≡ map (λ (q : ℕ × Cell). meanings old h (slice_index_or t.rows q.0 []) ++ q.1 ∷ []) (pairs_in new h qs)
  each_row [] = refl
  each_row (q ∷ qs) =
      λ i. (map_append (item_of new (trees_of h)) (slice_index_or t.rows q.0 []) (q.1 ∷ [])
      ∙ ap (λ z. z ++ item_of new (trees_of h) q.1 ∷ []) (items_later old new h later trees (slice_index_or t.rows q.0 []) (row_held old h t.rows q.0 rows))) i
      ∷ each_row qs i

  if_ok_on : {E : Type 0} (r : Result (Table Item) E) (x : Table Item) (P : Table Item → Type 0) → P x → IfOk r (λ z. z ≡ x) → IfOk r P
  if_ok_on (Ok a) x P p e = subst P (sym e) p
  if_ok_on (Err b) x P p e = tt

  pub map_whole : {E : Type 0} (docs : Docs) (fun : Fun) (ds : List Col) (r : Result (Table Item) E) → pairs_in new h ps ≡ valued (λ r. fun_outcome docs fun (meanings old h (cells_of t.cols ds r))) 0 t.rows
      → IfOk r (λ x. x ≡ whole (L.cols ++ Q.cols) (rows_beside L.rows Q.rows))
      → IfOk r (λ x. standing new h x ≡ record { cols = t.cols ++ c ∷ []; rows = map_rows (item_rules docs old) fun (λ q. map (λ d. cell_or (IntItem (pos 0)) t.cols d q) ds) (map (meanings old h) t.rows) })
  map_whole docs fun ds r e x =
      if_ok_on r _ _
      (ap (standing new h) beside_is
      ∙ (λ i. record { cols = t.cols ++ c ∷ []; rows = (each_row ps ∙ ap (map (λ (q : ℕ × Cell). meanings old h (slice_index_or t.rows q.0 []) ++ q.1 ∷ [])) e ∙ mapped_rows old h docs fun t.cols ds t.rows) i }))
      x

  rows_held : (qs : List (ℕ × Item)) → PairsGiven new h qs → RowsGiven new h (map (λ p. slice_index_or t.rows p.0 [] ++ p.1 ∷ []) qs)
  rows_held [] g = tt
  rows_held (q ∷ qs) g =
      (items_append new h (slice_index_or t.rows q.0 []) (q.1 ∷ []) (items_given_later old new h later trees (slice_index_or t.rows q.0 []) (row_held old h t.rows q.0 rows)) (g.0, tt), rows_held qs g.1)

  pub map_given : {E : Type 0} (r : Result (Table Item) E) → PairsGiven new h ps → IfOk r (λ x. x ≡ whole (L.cols ++ Q.cols) (rows_beside L.rows Q.rows)) → IfOk r (λ x. RowsGiven new h x.rows)
  map_given r g x = if_ok_on r _ _ (subst (λ (z : Table Item). RowsGiven new h z.rows) (sym beside_is) (rows_held ps g)) x

-- what a row's function asks
row_long : (columns : List (List Item)) (p : ℕ) → length (row_at columns p) ≡ length columns
row_long [] p = refl
row_long (c ∷ cs) p = ap suc (row_long cs p)

pub row_takes : (fun : Fun) (columns : List (List Item)) (p : ℕ) (args : List Item) → args ≡ row_at columns p → takes fun (length columns) ≡ true → takes fun (length args) ≡ true
row_takes fun columns p args e h = ap (λ z. takes fun (length z)) e ∙ ap (takes fun) (row_long columns p) ∙ h

pub columns_take : (fun : Fun) (cols ds : List Col) (rows : List (List Item)) (columns : List (List Item)) → columns ≡ map (λ d. cells_at cols d rows) ds → takes fun (length ds) ≡ true → takes fun (length columns) ≡ true
columns_take fun cols ds rows columns e h = ap (λ (z : List (List Item)). takes fun (length z)) e ∙ ap (takes fun) (map_long (λ d. cells_at cols d rows) ds) ∙ h

pub place_held : (first old : List Text) (h : Holdings) (cols ds : List Col) (rows : List (List Item)) (p : ℕ) (columns : List (List Item)) → take (length first) old ≡ first → trees_given (length first) h ≡ true → RowsGiven first h rows
    → columns ≡ map (λ d. cells_at cols d rows) ds → ItemsGiven old h (row_at columns p)
place_held first old h cols ds rows p columns later trees g e = items_given_later first old h later trees (row_at columns p) (args_held first h cols ds rows p (row_at columns p) (ap (λ z. row_at z p) e) g)
