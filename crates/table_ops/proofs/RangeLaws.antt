-- The rows of a range.
use Rattle.std.proofs.Common.{◌≡◌, ◌<◌, ◌≤◌, ◌+◌, ◌++◌, ◌∷◌, [], ◌∙◌, ℕ, ℤ, suc, pos, negsuc, ◌+ℤ◌, ◌-ℤ◌, ◌≤ℤ◌, ◌<ℤ◌, List, length, map, refl, ap, sym, subst, arith, Result, IfOk, Option, Some}
use Rattle.std.specs.Prelude.{slice_index_or}
use Rattle.std.proofs.lemmas.Int.{ints}
use Rattle.xq_base.specs.declared.item.Item.{Item}
use Rattle.xq_base.specs.declared.item.Item.TheVariants as i
use Rattle.plan_dag.specs.declared.cols.Col.{Col}
use Rattle.plan_dag.specs.Meaning.{Table, cell_or}
use Rattle.plan_dag.specs.Rows.{range_rows, ints_between, ints_from, not_negative}
use Rattle.table_ops.specs.Columns.{rows_at, rows_beside, single_rows, cells_at, no_cell, AllWithin}
use Rattle.table_ops.specs.Held.{kept}
use Rattle.table_ops.specs.Ranges.{ints_of, counted, counted_from}
use Rattle.table_ops.proofs.Combining.{whole, if_ok_is}
use Rattle.table_ops.proofs.Lists.{maps, app, map_append, map_long, longer, at_end}

-- one integer more, and none
one_less : (z w : ℤ) → pos 0 ≤ℤ z → w ≡ z +ℤ pos 1 → not_negative w ≡ suc (not_negative z)
one_less (pos n) (pos m) l e = omega (arith, ints, e)
one_less (pos n) (negsuc m) l e = absurd (omega (arith, ints, e))
one_less (negsuc n) w l e = absurd (omega (arith, ints, l))

none_left : (w : ℤ) → w ≤ℤ pos 0 → not_negative w ≡ 0
none_left (pos n) l = omega (arith, ints, l)
none_left (negsuc n) l = refl

pub count_next : (a b : ℤ) → a ≤ℤ b → ints_between (Some a) (Some b) ≡ a ∷ ints_between (Some (a +ℤ pos 1)) (Some b)
count_next a b l = ap (ints_from a) (one_less (b -ℤ (a +ℤ pos 1) +ℤ pos 1) (b -ℤ a +ℤ pos 1) (omega (arith, ints, l)) (omega (arith, ints)))

pub count_end : (a b : ℤ) → b <ℤ a → ints_between (Some a) (Some b) ≡ []
count_end a b l = ap (ints_from a) (none_left (b -ℤ a +ℤ pos 1) (omega (arith, ints, l)))

-- the rows at the places, with the integers
beside_pairs : (rows : List (List Item)) (ps : List (ℕ × ℤ)) → rows_beside (rows_at rows (map (λ p. p.0) ps)) (single_rows (map (λ p. i.Int p.1) ps)) ≡ map (λ p. slice_index_or rows p.0 [] ++ i.Int p.1 ∷ []) ps
beside_pairs rows [] = refl
beside_pairs rows (p ∷ ps) = ap (λ z. (slice_index_or rows p.0 [] ++ i.Int p.1 ∷ []) ∷ z) (beside_pairs rows ps)

-- one integer more of a row
pub count_step : (place : ℕ) (at high : ℤ) (next : Option ℤ) (out new start : List (ℕ × ℤ)) → new ≡ out ++ (place, at) ∷ [] → ints_between (Some at) (Some high) ≡ at ∷ ints_between next (Some high)
    → out ++ counted place (ints_between (Some at) (Some high)) ≡ start → new ++ counted place (ints_between next (Some high)) ≡ start
count_step place at high next out new start e f was =
    ap (λ z. z ++ counted place (ints_between next (Some high))) e ∙ app out (place, at) (counted place (ints_between next (Some high))) ∙ ap (λ z. out ++ counted place z) (sym f) ∙ was

-- the last integer of a row
pub count_last : (at high : ℤ) → at ≤ℤ high → high ≤ℤ at → ints_between (Some at) (Some high) ≡ at ∷ []
count_last at high l m = count_next at high l ∙ ap (λ z. at ∷ z) (count_end (at +ℤ pos 1) high (omega (arith, ints, m)))

-- the next integer
pub count_follow : (at next high : ℤ) → at ≤ℤ high → next ≡ at +ℤ pos 1 → ints_between (Some at) (Some high) ≡ at ∷ ints_between (Some next) (Some high)
count_follow at next high l e = count_next at high l ∙ ap (λ z. at ∷ ints_between (Some z) (Some high)) (sym e)

module _ (f g : List Item → Item) where
  ranged : (done rows : List (List Item)) → map (λ p. slice_index_or (done ++ rows) p.0 [] ++ i.Int p.1 ∷ []) (counted_from (length done) (map f rows) (map g rows)) ≡ range_rows kept f g rows
  ranged done [] = refl
  ranged done (r ∷ rows) =
      map_append (λ (p : ℕ × ℤ). slice_index_or (done ++ r ∷ rows) p.0 [] ++ i.Int p.1 ∷ []) (counted (length done) (ints_of (f r) (g r))) (counted_from (suc (length done)) (map f rows) (map g rows))
      ∙ (λ j. (maps (λ (p : ℕ × ℤ). slice_index_or (done ++ r ∷ rows) p.0 [] ++ i.Int p.1 ∷ []) (λ z. (length done, z)) (ints_of (f r) (g r))
      ∙ ap (λ (q : List Item). map (λ z. q ++ i.Int z ∷ []) (ints_of (f r) (g r))) (at_end done r rows [])) j
      ++ (ap (λ n. map (λ p. slice_index_or (done ++ r ∷ rows) p.0 [] ++ i.Int p.1 ∷ []) (counted_from n (map f rows) (map g rows))) (sym (longer done r))
      ∙ ap (λ z. map (λ p. slice_index_or z p.0 [] ++ i.Int p.1 ∷ []) (counted_from (length (done ++ r ∷ [])) (map f rows) (map g rows))) (sym (app done r rows))
      ∙ ranged (done ++ r ∷ []) rows) j)

within_pairs : (k n : ℕ) (lows highs : List Item) → k + length lows ≤ n → AllWithin n (map (λ p. p.0) (counted_from k lows highs))
within_pairs k n [] highs h = tt
within_pairs k n (low ∷ lows) [] h = tt
within_pairs k n (low ∷ lows) (high ∷ highs) h = both (ints_of low high) (within_pairs (suc k) n lows highs (omega (arith, h)))
  where
    both : (zs : List ℤ) → AllWithin n (map (λ p. p.0) (counted_from (suc k) lows highs)) → AllWithin n (map (λ p. p.0) (counted k zs ++ counted_from (suc k) lows highs))
    both [] r = r
    both (z ∷ zs) r = (omega (arith, h), both zs r)

module _ (t : Table Item) (a b c : Col) (lows highs cells : List Item) (ps : List (ℕ × ℤ)) (qs : List ℕ) (f : lows ≡ cells_at t.cols a t.rows) (g : highs ≡ cells_at t.cols b t.rows) (e : ps ≡ counted_from 0 lows highs) (k : qs ≡ map (λ p. p.0) ps) (m : cells ≡ map (λ p. i.Int p.1) ps) where
  pairs_are : ps ≡ counted_from 0 (cells_at t.cols a t.rows) (cells_at t.cols b t.rows)
  pairs_are = e ∙ (λ i. counted_from 0 (f i) (g i))

  pub range_within : AllWithin (length t.rows) qs
  range_within =
      subst (AllWithin (length t.rows)) (sym (k ∙ ap (map (λ p. p.0)) pairs_are))
      (within_pairs 0 (length t.rows) (cells_at t.cols a t.rows) (cells_at t.cols b t.rows) (omega (arith, map_long (cell_or no_cell t.cols a) t.rows)))

  module _ (R Q : Table Item) (eR : R ≡ whole t.cols (rows_at t.rows qs)) (eQ : Q ≡ whole (c ∷ []) (single_rows cells)) where
    pub range_few : length t.cols < 8 → length R.cols + length Q.cols < 9
    range_few h =
        let left : length R.cols ≡ length t.cols = ap (λ (z : Table Item). length z.cols) eR in
        let right : length Q.cols ≡ 1 = ap (λ (z : Table Item). length z.cols) eQ in
        omega (arith, left, right, h)

    pub range_high : length R.rows ≡ length Q.rows
    range_high =
        ap (λ (z : Table Item). length z.rows) eR ∙ map_long (λ p. slice_index_or t.rows p []) qs ∙ ap (λ (z : List ℕ). length z) k ∙ map_long (λ p. p.0) ps
        ∙ sym (ap (λ (z : Table Item). length z.rows) eQ ∙ map_long (λ v. v ∷ []) cells ∙ ap (λ (z : List Item). length z) m ∙ map_long (λ p. i.Int p.1) ps)

    pub range_whole : {E : Type 0} (r : Result (Table Item) E) → IfOk r (λ x. x ≡ whole (R.cols ++ Q.cols) (rows_beside R.rows Q.rows)) → IfOk r (λ x. x ≡ whole (t.cols ++ c ∷ []) (range_rows kept (cell_or no_cell t.cols a) (cell_or no_cell t.cols b) t.rows))
    range_whole r h =
        if_ok_is r _ _
        ((λ j. whole ((eR j).cols ++ (eQ j).cols) (rows_beside (eR j).rows (eQ j).rows))
        ∙ (λ j. whole (t.cols ++ c ∷ []) (rows_beside (rows_at t.rows ((k ∙ ap (map (λ p. p.0)) pairs_are) j)) (single_rows ((m ∙ ap (map (λ p. i.Int p.1)) pairs_are) j))))
        ∙ ap (whole (t.cols ++ c ∷ [])) (beside_pairs t.rows (counted_from 0 (cells_at t.cols a t.rows) (cells_at t.cols b t.rows)) ∙ ranged (cell_or no_cell t.cols a) (cell_or no_cell t.cols b) [] t.rows))
        h
