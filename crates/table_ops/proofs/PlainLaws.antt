-- A constant beside each row.
use Rattle.std.proofs.Common.{◌≡◌, ◌<◌, ◌+◌, ◌++◌, ◌∙◌, ℕ, List, [], ◌∷◌, length, map, replicate, refl, ap, sym, arith, Result, IfOk}
use Rattle.xq_base.specs.declared.item.Item.{Item}
use Rattle.xq_base.specs.declared.item.Atom.{Atom}
use Rattle.plan_dag.specs.declared.cols.Col.{Col}
use Rattle.plan_dag.specs.Meaning.{Table}
use Rattle.std.proofs.lemmas.List.{length-replicate}
use Rattle.table_ops.specs.Columns.{rows_beside, single_rows}
use Rattle.table_ops.specs.Held.{held_constant}
use Rattle.table_ops.proofs.Combining.{whole, if_ok_is}
use Rattle.table_ops.proofs.Selecting.{attached_rows}
use Rattle.table_ops.proofs.Lists.{map_long}

long_append : {X : Type 0} (xs : List X) (y : X) → length (xs ++ y ∷ []) ≡ length xs + 1
long_append [] y = refl
long_append (x ∷ xs) y = omega (arith, long_append xs y)

pub attach_need : (t added : Table Item) (c : Col) (w : Item) (n : ℕ) (cells : List Item) → n ≡ length t.rows → cells ≡ replicate n w → added ≡ whole (c ∷ []) (single_rows cells) → length t.cols < 8
    → (length t.cols + length added.cols < 9) × (length t.rows ≡ length added.rows)
attach_need t added c w n cells h e a few =
    let cols : length added.cols ≡ 1 = ap (λ (z : Table Item). length z.cols) a in
    let rows : length added.rows ≡ n = ap (λ (z : Table Item). length z.rows) a ∙ map_long (λ v. v ∷ []) cells ∙ ap (λ (z : List Item). length z) e ∙ length-replicate n w in
    (omega (arith, cols, few), sym h ∙ sym rows)

pub attach_whole : {E : Type 0} (r : Result (Table Item) E) (t added : Table Item) (c : Col) (v : Atom) (w : Item) (n : ℕ) (cells : List Item) → n ≡ length t.rows → w ≡ held_constant v → cells ≡ replicate n w → added ≡ whole (c ∷ []) (single_rows cells)
    → IfOk r (λ x. x ≡ whole (t.cols ++ added.cols) (rows_beside t.rows added.rows)) → IfOk r (λ x. x ≡ whole (t.cols ++ c ∷ []) (map (λ q. q ++ held_constant v ∷ []) t.rows))
attach_whole r t added c v w n cells h k e a =
    if_ok_is r _ _
    ((λ i. whole (t.cols ++ (a i).cols) (rows_beside t.rows (a i).rows))
    ∙ ap (λ z. whole (t.cols ++ c ∷ []) (rows_beside t.rows (single_rows z))) (e ∙ (λ i. replicate (h i) (k i)))
    ∙ ap (whole (t.cols ++ c ∷ [])) (attached_rows (held_constant v) t.rows))
