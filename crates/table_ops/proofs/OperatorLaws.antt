-- What the operators' steps make together.
use Rattle.std.proofs.Common.{◌≡◌, ◌<◌, ◌+◌, ◌++◌, ◌∙◌, ℕ, List, length, map, ap, sym, subst, Result, IfOk}
use Rattle.xq_base.specs.declared.item.Item.{Item}
use Rattle.plan_dag.specs.declared.cols.Col.{Col}
use Rattle.plan_dag.specs.Meaning.{Table, cell_or}
use Rattle.plan_dag.specs.Rows.{joined, left_over, first_rows}
use Rattle.table_ops.specs.Columns.{rows_at, rows_beside, cells_at, no_cell, AllWithin, cells_of}
use Rattle.table_ops.specs.Groups.{keys_by}
use Rattle.table_ops.specs.Held.{kept}
use Rattle.table_ops.specs.Keys.{item_eq, new_places}
use Rattle.table_ops.specs.Matches.{equal_pairs_from, lone_places}
use Rattle.table_ops.proofs.Combining.{whole, if_ok_is}
use Rattle.table_ops.proofs.GroupLaws.{distinct_rows, distinct_within}
use Rattle.table_ops.proofs.MatchLaws.{join_rows, join_left_within, join_right_within, difference_rows, difference_within}
use Rattle.table_ops.proofs.Selecting.{places_many}
use Rattle.table_ops.proofs.Lists.{map_long}

module _ (l q : Table Item) (a b : Col) (lp rp : List ℕ) (lc rc : List Item) (ps : List (ℕ × ℕ))
    (el : lp ≡ map (λ p. p.0) ps) (er : rp ≡ map (λ p. p.1) ps) (ep : ps ≡ equal_pairs_from item_eq 0 lc rc) (f : lc ≡ cells_at l.cols a l.rows) (g : rc ≡ cells_at q.cols b q.rows) where
  pairs_are : ps ≡ equal_pairs_from item_eq 0 (cells_at l.cols a l.rows) (cells_at q.cols b q.rows)
  pairs_are = ep ∙ (λ i. equal_pairs_from item_eq 0 (f i) (g i))

  pub join_left : AllWithin (length l.rows) lp
  join_left = subst (AllWithin (length l.rows)) (sym (el ∙ ap (map (λ p. p.0)) pairs_are)) (join_left_within l.cols q.cols a b l.rows q.rows)

  pub join_right : AllWithin (length q.rows) rp
  join_right = subst (AllWithin (length q.rows)) (sym (er ∙ ap (map (λ p. p.1)) pairs_are)) (join_right_within l.cols q.cols a b l.rows q.rows)

  module _ (L Q : Table Item) (eL : L ≡ whole l.cols (rows_at l.rows lp)) (eQ : Q ≡ whole q.cols (rows_at q.rows rp)) where
    pub join_few : length l.cols + length q.cols < 9 → length L.cols + length Q.cols < 9
    join_few h = subst (λ n. n < 9) (λ i. length (sym eL i).cols + length (sym eQ i).cols) h

    pub join_high : length L.rows ≡ length Q.rows
    join_high =
        ap (λ (t : Table Item). length t.rows) eL ∙ places_many l.rows lp ∙ ap (λ (z : List ℕ). length z) el ∙ map_long (λ p. p.0) ps
        ∙ sym (ap (λ (t : Table Item). length t.rows) eQ ∙ places_many q.rows rp ∙ ap (λ (z : List ℕ). length z) er ∙ map_long (λ p. p.1) ps)

    pub join_whole : {E : Type 0} (r : Result (Table Item) E) → IfOk r (λ t. t ≡ whole (L.cols ++ Q.cols) (rows_beside L.rows Q.rows))
        → IfOk r (λ t. t ≡ whole (l.cols ++ q.cols) (joined kept (cell_or no_cell l.cols a) (cell_or no_cell q.cols b) l.rows q.rows))
    join_whole r h =
        if_ok_is r _ _
        ((λ i. whole ((eL i).cols ++ (eQ i).cols) (rows_beside (eL i).rows (eQ i).rows))
        ∙ (λ i. whole (l.cols ++ q.cols) (rows_beside (rows_at l.rows ((el ∙ ap (map (λ p. p.0)) pairs_are) i)) (rows_at q.rows ((er ∙ ap (map (λ p. p.1)) pairs_are) i))))
        ∙ ap (whole (l.cols ++ q.cols)) (join_rows l.cols q.cols a b l.rows q.rows))
        h

module _ (l q : Table Item) (a b : Col) (lp : List ℕ) (lc rc : List Item) (el : lp ≡ lone_places item_eq lc rc) (f : lc ≡ cells_at l.cols a l.rows) (g : rc ≡ cells_at q.cols b q.rows) where
  lones_are : lp ≡ lone_places item_eq (cells_at l.cols a l.rows) (cells_at q.cols b q.rows)
  lones_are = el ∙ (λ i. lone_places item_eq (f i) (g i))

  pub difference_left : AllWithin (length l.rows) lp
  difference_left = subst (AllWithin (length l.rows)) (sym lones_are) (difference_within l.cols q.cols a b l.rows q.rows)

  pub difference_whole : {E : Type 0} (r : Result (Table Item) E) → IfOk r (λ t. t ≡ whole l.cols (rows_at l.rows lp)) → IfOk r (λ t. t ≡ whole l.cols (left_over kept (cell_or no_cell l.cols a) (cell_or no_cell q.cols b) l.rows q.rows))
  difference_whole r h = if_ok_is r _ _ (ap (λ z. whole l.cols (rows_at l.rows z)) lones_are ∙ ap (whole l.cols) (difference_rows l.cols q.cols a b l.rows q.rows)) h

module _ (t : Table Item) (ds : List Col) (ps ks : List ℕ) (e : ps ≡ new_places 0 0 ks) (k : ks ≡ keys_by t.cols ds t.rows) where
  firsts_are : ps ≡ new_places 0 0 (keys_by t.cols ds t.rows)
  firsts_are = e ∙ ap (new_places 0 0) k

  pub distinct_left : AllWithin (length t.rows) ps
  distinct_left = subst (AllWithin (length t.rows)) (sym firsts_are) (distinct_within t.cols ds t.rows)

  pub distinct_whole : {E : Type 0} (r : Result (Table Item) E) → IfOk r (λ x. x ≡ whole t.cols (rows_at t.rows ps)) → IfOk r (λ x. x ≡ whole t.cols (first_rows kept (cells_of t.cols ds) t.rows))
  distinct_whole r h = if_ok_is r _ _ (ap (λ z. whole t.cols (rows_at t.rows z)) firsts_are ∙ ap (whole t.cols) (distinct_rows t.cols ds t.rows)) h
