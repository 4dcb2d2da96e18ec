-- Pairs by places are the pairs of rows.
use Rattle.std.proofs.Common.{◌≡◌, ◌∙◌, ◌<◌, ◌≤◌, ◌++◌, ◌∷◌, ◌&&◌, ◌||◌, not, [], ℕ, suc, Bool, true, false, cond, List, length, map, refl, sym, ap, true≢false, Option, Some, None, Result, IfOk, zero, arith}
use Rattle.std.specs.Prelude.{slice_index_or}
use Rattle.std.specs.List.{filter, list_any, list_all}
use Rattle.indexmap.specs.IndexSet.{insert_all}
use Rattle.xq_base.specs.declared.item.TextId.{TextId}
use Rattle.xq_base.specs.declared.item.FragKey.{FragKey}
use Rattle.xq_base.specs.declared.item.Item.{Item}
use Rattle.xq_base.specs.declared.item.Item.TheVariants as i
use Rattle.xq_base.specs.declared.code.Code.{Code}
use Rattle.xq_base.specs.declared.fun.CompOp.{CompOp}
use Rattle.xq_base.specs.Atoms.{Atom}
use Rattle.xq_base.specs.Comparisons.{general_pair}
use Rattle.xq_base.specs.Texts.{Text}
use Rattle.doc_table.specs.Tree.{Tree}
use Rattle.doc_table.specs.Items.{item_of}
use Rattle.doc_table.specs.Stores.{empty_holdings}
use Rattle.doc_table.specs.StoredItems.{trees_of}
use Rattle.doc_table.specs.Values.{atomized}
use Rattle.xq_funs.specs.Answering.{is_atom, answer_of, text_given}
use Rattle.plan_dag.specs.declared.cols.Col.{Col}
use Rattle.plan_dag.specs.Meaning.{Table, cell_or}
use Rattle.plan_dag.specs.Rows.{group_rows, compared}
use Rattle.plan_dag.specs.ItemRules.{atoms_outcome, bool_outcome}
use Rattle.table_ops.specs.declared.comparing.Wanted.{Wanted}
use Rattle.table_ops.specs.declared.comparing.Wanted.TheVariants as w
use Rattle.table_ops.specs.Chains.{places_of}
use Rattle.table_ops.specs.Columns.{cell_of, cells_at, no_cell, single_rows}
use Rattle.table_ops.specs.Held.{held_atom, held_rules, kept}
use Rattle.table_ops.specs.Keys.{item_eq}
use Rattle.table_ops.specs.Pairs.{passes, pair_at, pair_places}
use Rattle.table_ops.proofs.CountLaws.{first_cells}
use Rattle.table_ops.proofs.Combining.{whole, if_ok_is}
use Rattle.table_ops.proofs.Lists.{maps, app, longer, map_long}
use Rattle.table_ops.proofs.RownumLaws.{and_both}

-- one pair
none_left : (wanted : Wanted) (op : CompOp) (o : Option Atom) → false ≡ passes wanted (atoms_outcome op None o)
none_left w.True op o = refl
none_left (w.Fails code) op o = refl

none_right : (wanted : Wanted) (op : CompOp) (o : Option Atom) → false ≡ passes wanted (atoms_outcome op o None)
none_right w.True op None = refl
none_right w.True op (Some a) = refl
none_right (w.Fails code) op None = refl
none_right (w.Fails code) op (Some a) = refl

no_atom : (texts : List Text) (v : Item) → not (is_atom v) ≡ true → None ≡ held_atom texts v
no_atom texts (i.Node n) e = refl
no_atom texts (i.Int z) e = absurd (true≢false (sym e))
no_atom texts (i.Str z) e = absurd (true≢false (sym e))
no_atom texts (i.Untyped z) e = absurd (true≢false (sym e))
no_atom texts (i.Bool z) e = absurd (true≢false (sym e))

pub left_node : (texts : List Text) (wanted : Wanted) (op : CompOp) (a b : Item) → not (is_atom a) ≡ true → false ≡ pair_at texts wanted op a b
left_node texts wanted op a b e = none_left wanted op (held_atom texts b) ∙ ap (λ o. passes wanted (atoms_outcome op o (held_atom texts b))) (no_atom texts a e)

pub right_node : (texts : List Text) (wanted : Wanted) (op : CompOp) (a b : Item) → not (is_atom b) ≡ true → false ≡ pair_at texts wanted op a b
right_node texts wanted op a b e = none_right wanted op (held_atom texts a) ∙ ap (λ o. passes wanted (atoms_outcome op (held_atom texts a) o)) (no_atom texts b e)

some_atom : (texts : List Text) (trees : FragKey → Tree TextId) (v : Item) → not (is_atom v) ≡ false → Some (atomized (item_of texts trees v)) ≡ held_atom texts v
some_atom texts trees (i.Node n) e = absurd (true≢false e)
some_atom texts trees (i.Int z) e = refl
some_atom texts trees (i.Str z) e = refl
some_atom texts trees (i.Untyped z) e = refl
some_atom texts trees (i.Bool z) e = refl

pub judged_pair : (texts : List Text) (wanted : Wanted) (op : CompOp) (a b : Item) (found : Result Bool Code) → not (is_atom a) ≡ false → not (is_atom b) ≡ false
    → ((trees : FragKey → Tree TextId) → answer_of found ≡ general_pair op (atomized (item_of texts trees a)) (atomized (item_of texts trees b)))
    → passes wanted (bool_outcome (answer_of found)) ≡ pair_at texts wanted op a b
judged_pair texts wanted op a b found e f g =
    let trees : FragKey → Tree TextId = trees_of empty_holdings in
    ap (λ z. passes wanted (bool_outcome z)) (g trees)
    ∙ (λ j. passes wanted (atoms_outcome op (some_atom texts trees a e j) (some_atom texts trees b f j)))

-- lists
cell_end : {X : Type 0} (f : X → Item) (done : List X) (p : X) (ps : List X) → cell_of (map f (done ++ p ∷ ps)) (length done) ≡ f p
cell_end f [] p ps = refl
cell_end f (x ∷ done) p ps = cell_end f done p ps

module _ {X : Type 0} (test : Item → Bool) (c : Item) (key value : X → Item) where
  any_places : (done rs : List X) → list_any (λ p. test (cell_of (map value (done ++ rs)) p)) (places_of (item_eq c) (length done) (map key rs)) ≡ list_any (λ r. item_eq c (key r) && test (value r)) rs
  any_places done [] = refl
  any_places done (r ∷ rs) =
      by (item_eq c (key r))
      (ap (λ n. list_any (λ p. test (cell_of (map value (done ++ r ∷ rs)) p)) (places_of (item_eq c) n (map key rs))) (sym (longer done r))
      ∙ ap (λ z. list_any (λ p. test (cell_of (map value z) p)) (places_of (item_eq c) (length (done ++ r ∷ [])) (map key rs))) (sym (app done r rs))
      ∙ any_places (done ++ r ∷ []) rs)
    where
      by : (b : Bool) → list_any (λ p. test (cell_of (map value (done ++ r ∷ rs)) p)) (places_of (item_eq c) (suc (length done)) (map key rs)) ≡ list_any (λ r. item_eq c (key r) && test (value r)) rs
          → list_any (λ p. test (cell_of (map value (done ++ r ∷ rs)) p)) (cond b (length done ∷ places_of (item_eq c) (suc (length done)) (map key rs)) (places_of (item_eq c) (suc (length done)) (map key rs)))
          ≡ ((b && test (value r)) || list_any (λ r. item_eq c (key r) && test (value r)) rs)
      by true e = λ j. test (cell_end value done r rs j) || e j
      by false e = e

module _ {X Y : Type 0} (texts : List Text) (wanted : Wanted) (op : CompOp) (key value : X → Item) (key' value' : Y → Item) (rs : List Y) where
  abbrev pass : X → Bool
  pass l = list_any (λ r. item_eq (key l) (key' r) && pair_at texts wanted op (value l) (value' r)) rs

  -- the place of a left row that passes gives its cell
  found_step : (b : Bool) (l : X) (done ls : List X) (rest : List ℕ) → map (cell_of (map key (done ++ l ∷ ls))) rest ≡ map key (filter pass ls)
      → map (cell_of (map key (done ++ l ∷ ls))) (cond b (length done ∷ []) [] ++ rest) ≡ map key (cond b (l ∷ filter pass ls) (filter pass ls))
  found_step true l done ls rest e = λ j. cell_end key done l ls j ∷ e j
  found_step false l done ls rest e = e

  found_cells : (done ls : List X) → map (cell_of (map key (done ++ ls))) (pair_places texts wanted op (map key' rs) (map value' rs) (length done) (map key ls) (map value ls)) ≡ map key (filter pass ls)
  found_cells done [] = refl
  found_cells done (l ∷ ls) =
      let rest : List ℕ = pair_places texts wanted op (map key' rs) (map value' rs) (suc (length done)) (map key ls) (map value ls) in
      ap (λ b. map (cell_of (map key (done ++ l ∷ ls))) (cond b (length done ∷ []) [] ++ rest)) (any_places (λ v. pair_at texts wanted op (value l) v) (key l) key' value' [] rs)
      ∙ found_step (pass l) l done ls rest
      (ap (λ n. map (cell_of (map key (done ++ l ∷ ls))) (pair_places texts wanted op (map key' rs) (map value' rs) n (map key ls) (map value ls))) (sym (longer done l))
      ∙ ap (λ z. map (cell_of (map key z)) (pair_places texts wanted op (map key' rs) (map value' rs) (length (done ++ l ∷ [])) (map key ls) (map value ls))) (sym (app done l ls))
      ∙ found_cells (done ++ l ∷ []) ls)

-- no more places than cells
places_few : (texts : List Text) (wanted : Wanted) (op : CompOp) (rights others : List Item) (p : ℕ) (cs vs : List Item) → length (pair_places texts wanted op rights others p cs vs) ≤ length cs
places_few texts wanted op rights others p [] vs = omega arith
places_few texts wanted op rights others p (c ∷ cs) [] = omega arith
places_few texts wanted op rights others p (c ∷ cs) (v ∷ vs) = by (list_any (λ r. pair_at texts wanted op v (cell_of others r)) (places_of (item_eq c) 0 rights)) (places_few texts wanted op rights others (suc p) cs vs)
  where
    by : (b : Bool) → length (pair_places texts wanted op rights others (suc p) cs vs) ≤ length cs → length (cond b (p ∷ []) [] ++ pair_places texts wanted op rights others (suc p) cs vs) ≤ suc (length cs)
    by true h = omega (arith, h)
    by false h = omega (arith, h)

pub found_few : (n : ℕ) (texts : List Text) (wanted : Wanted) (op : CompOp) (cells values index others found : List Item) (places : List ℕ) → places ≡ pair_places texts wanted op index others 0 cells values → found ≡ map (cell_of cells) places → length cells < n → length found < n
found_few n texts wanted op cells values index others found places ep ef h =
    let long : length found ≡ length places = ap (λ (z : List Item). length z) ef ∙ map_long (cell_of cells) places in
    let as_long : length places ≡ length (pair_places texts wanted op index others 0 cells values) = ap (λ (z : List ℕ). length z) ep in
    omega (arith, long, as_long, places_few texts wanted op index others 0 cells values, h)

-- a cell of a column has a text that the pool gave
pub given_at : (n : ℕ) (cells : List Item) (k : ℕ) (d : Item) → k < length cells → list_all (text_given n) cells ≡ true → text_given n (slice_index_or cells k d) ≡ true
given_at n [] k d l h = absurd (omega (arith, l))
given_at n (c ∷ cells) zero d l h = (and_both (text_given n c) (list_all (text_given n) cells) h).0
given_at n (c ∷ cells) (suc k) d l h = given_at n cells k d (omega (arith, l)) (and_both (text_given n c) (list_all (text_given n) cells) h).1

pub compared_whole : {E : Type 0} (texts : List Text) (wanted : Wanted) (op : CompOp) (left right : Table Item) (a v b w : Col) (cells values index others found groups : List Item) (places : List ℕ) (r : Result (Table Item) E)
    → cells ≡ cells_at left.cols a left.rows → values ≡ cells_at left.cols v left.rows → index ≡ cells_at right.cols b right.rows → others ≡ cells_at right.cols w right.rows
    → places ≡ pair_places texts wanted op index others 0 cells values → found ≡ map (cell_of cells) places → groups ≡ insert_all item_eq [] found
    → IfOk r (λ t. t ≡ whole (a ∷ []) (single_rows groups))
    → IfOk r (λ t. t ≡ whole (a ∷ []) (compared (held_rules texts) (passes wanted) op (cell_or no_cell left.cols a) (cell_or no_cell left.cols v) (cell_or no_cell right.cols b) (cell_or no_cell right.cols w) left.rows right.rows))
compared_whole texts wanted op left right a v b w cells values index others found groups places r ec ev ei eo ep ef eg h =
    let key : List Item → Item = cell_or no_cell left.cols a in
    let F : found ≡ map key (filter (pass texts wanted op key (cell_or no_cell left.cols v) (cell_or no_cell right.cols b) (cell_or no_cell right.cols w) right.rows) left.rows) =
    ef ∙ (λ j. map (cell_of (ec j)) ((ep ∙ (λ k. pair_places texts wanted op (ei k) (eo k) 0 (ec k) (ev k))) j))
    ∙ found_cells texts wanted op key (cell_or no_cell left.cols v) (cell_or no_cell right.cols b) (cell_or no_cell right.cols w) right.rows [] left.rows in
    if_ok_is r _ _
    (ap (whole (a ∷ []))
    (ap single_rows (eg ∙ ap (insert_all item_eq []) F ∙ first_cells key [] [] (filter (pass texts wanted op key (cell_or no_cell left.cols v) (cell_or no_cell right.cols b) (cell_or no_cell right.cols w) right.rows) left.rows) (λ x. refl))
    ∙ maps (λ c. c ∷ []) key (group_rows kept key (filter (pass texts wanted op key (cell_or no_cell left.cols v) (cell_or no_cell right.cols b) (cell_or no_cell right.cols w) right.rows) left.rows))))
    h
