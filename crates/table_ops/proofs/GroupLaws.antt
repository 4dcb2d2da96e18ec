-- The first rows and the counts of groups by keys.
use Rattle.std.proofs.Common.{◌≡◌, ◌<◌, ◌≤◌, ◌∙◌, ◌&&◌, ℕ, suc, Bool, true, false, cond, List, [], ◌∷◌, length, map, nat_eq, replicate, refl, ap, sym, subst, arith, true≢false}
use Rattle.std.proofs.lemmas.Bool.Decides.{Decides-eqb}
use Rattle.indexmap.specs.IndexSet.{insert_all}
use Rattle.xq_base.specs.declared.item.Item.{Item}
use Rattle.plan_dag.specs.declared.cols.Col.{Col}
use Rattle.plan_dag.specs.Meaning.{cell_or, cells}
use Rattle.plan_dag.specs.Rows.{all_same, first_rows}
use Rattle.table_ops.specs.Columns.{rows_at, cells_at, cells_of, no_cell, AllWithin}
use Rattle.table_ops.specs.Groups.{paired, both_eq, keys_by}
use Rattle.table_ops.specs.Held.{kept}
use Rattle.table_ops.specs.Keys.{item_eq, place_in, keys_from, TellsFrom, InTurn, new_places}
use Rattle.table_ops.proofs.FirstRows.{first_rows_are}
use Rattle.table_ops.proofs.ItemEqual.{item_same, item_self}
use Rattle.table_ops.proofs.Keying.{keys_are, all_there, tells, tells_rows, in_turn}
use Rattle.table_ops.proofs.Selecting.{new_within}
use Rattle.table_ops.proofs.Lists.{maps, map_long}

both_true : (a b : Bool) → a && b ≡ true → (a ≡ true) × (b ≡ true)
both_true true b h = (refl, h)
both_true false b h = absurd (true≢false (sym h))

true_both : (a b : Bool) → a ≡ true → b ≡ true → a && b ≡ true
true_both true b e f = f
true_both false b e f = e

pub both_same : (x y : ℕ × Item) → both_eq x y ≡ true → x ≡ y
both_same x y e =
    let h = both_true (nat_eq x.0 y.0) (item_eq x.1 y.1) e in
    λ i. ((Decides-eqb x.0 y.0).0 h.0 i, item_same x.1 y.1 h.1 i)

pub both_self : (x : ℕ × Item) → both_eq x x ≡ true
both_self x = true_both (nat_eq x.0 x.0) (item_eq x.1 x.1) ((Decides-eqb x.0 x.0).1 refl) (item_self x.1)

pairs_mapped : {X : Type 0} (k : X → ℕ) (f : X → Item) (xs : List X) → paired (map k xs) (map f xs) ≡ map (λ x. (k x, f x)) xs
pairs_mapped k f [] = refl
pairs_mapped k f (x ∷ xs) = ap (λ z. (k x, f x) ∷ z) (pairs_mapped k f xs)

tells_other : {X : Type 0} (same eq : X → X → Bool) (f : X → ℕ) (rs : List X) → ((x y : X) → eq x y ≡ same x y) → TellsFrom same f f rs → TellsFrom eq f f rs
tells_other same eq f [] e h = tt
tells_other same eq f (r ∷ rs) e h = ((λ x. e x r ∙ h.0 x), tells_other same eq f rs e h.1)

-- keys with a column more
tells_more : {X : Type 0} (same : X → X → Bool) (k g : X → ℕ) (f : X → Item) (rs : List X) → TellsFrom same k k rs
    → TellsFrom (λ q r. both_eq (k q, f q) (k r, f r)) g g rs → TellsFrom (λ q r. item_eq (f q) (f r) && same q r) g g rs
tells_more same k g f [] h t = tt
tells_more same k g f (r ∷ rs) h t = ((λ q. swap (item_eq (f q) (f r)) (same q r) (nat_eq (k q) (k r)) (h.0 q) ∙ t.0 q), tells_more same k g f rs h.1 t.1)
  where
    swap : (a b c : Bool) → b ≡ c → a && b ≡ c && a
    swap a b c e = ap (λ z. a && z) e ∙ turn a c
      where
        turn : (a c : Bool) → a && c ≡ c && a
        turn true true = refl
        turn true false = refl
        turn false true = refl
        turn false false = refl

-- what keys by columns are: some numbers of the rows that tell them apart, in the order of first places
record Told (cols ds : List Col) (rows : List (List Item)) : Type 0 where
  of : List Item → ℕ
  are : keys_by cols ds rows ≡ map of rows
  tell : TellsFrom (λ q r. all_same kept (cells_of cols ds q) (cells_of cols ds r)) of of rows
  turn : InTurn 0 (keys_by cols ds rows)

same_zeros : (rows : List (List Item)) → replicate {A = ℕ} (length rows) 0 ≡ map (λ r. 0) rows
same_zeros [] = refl
same_zeros (r ∷ rows) = ap (λ z. 0 ∷ z) (same_zeros rows)

told : (cols ds : List Col) (rows : List (List Item)) → Told cols ds rows
told cols [] rows = record { of = λ r. 0; are = same_zeros rows; tell = none rows; turn = subst (InTurn 0) (sym (same_zeros rows)) (zeros 0 rows) }
  where
    none : (rows : List (List Item)) → TellsFrom {X = List Item} {Y = List Item} (λ q r. true) (λ r. 0) (λ r. 0) rows
    none [] = tt
    none (r ∷ rows) = ((λ q. refl), none rows)

    zeros : (n : ℕ) (rows : List (List Item)) → InTurn n (map (λ r. 0) rows)
    zeros n [] = tt
    zeros n (r ∷ rows) = (omega arith, zeros (cond (nat_eq 0 n) (suc n) n) rows)
told cols (d ∷ ds) rows =
    let was : Told cols ds rows = told cols ds rows in
    let value : List Item → ℕ × Item = λ r. (was.of r, cell_or no_cell cols d r) in
    let values : paired (keys_by cols ds rows) (cells_at cols d rows) ≡ map value rows =
    ap (λ z. paired z (cells_at cols d rows)) was.are ∙ pairs_mapped was.of (cell_or no_cell cols d) rows in
    let T : List (ℕ × Item) = insert_all both_eq [] (map value rows) in
    let are : keys_from both_eq [] (map value rows) ≡ map (λ r. place_in both_eq T (value r)) rows = keys_are both_eq both_same both_self (map value rows) [] ∙ maps (place_in both_eq T) value rows in
    record {
      of = λ r. place_in both_eq T (value r);
      are = ap (keys_from both_eq []) values ∙ are;
      tell = tells_more (λ q r. all_same kept (cells_of cols ds q) (cells_of cols ds r)) was.of (λ r. place_in both_eq T (value r)) (cell_or no_cell cols d) rows was.tell
          (tells_rows both_eq (place_in both_eq T) (place_in both_eq T) value value rows (tells both_eq both_same both_self T (map value rows) (all_there both_eq both_same both_self (map value rows) [])));
      turn = in_turn both_eq both_same both_self (paired (keys_by cols ds rows) (cells_at cols d rows)) [];
    }

pub distinct_rows : (cols ds : List Col) (rows : List (List Item)) → rows_at rows (new_places 0 0 (keys_by cols ds rows)) ≡ first_rows kept (cells_of cols ds) rows
distinct_rows cols ds rows =
    let t : Told cols ds rows = told cols ds rows in
    ap (λ z. rows_at rows (new_places 0 0 z)) t.are
    ∙ first_rows_are (λ q r. all_same kept (cells_of cols ds q) (cells_of cols ds r)) t.of [] rows t.tell (subst (InTurn 0) t.are t.turn)

pub keys_many : (cols ds : List Col) (rows : List (List Item)) → length (keys_by cols ds rows) ≡ length rows
keys_many cols ds rows = let t : Told cols ds rows = told cols ds rows in ap (λ (z : List ℕ). length z) t.are ∙ map_long t.of rows

pub keys_few : (n : ℕ) (cols ds : List Col) (rows : List (List Item)) (ks : List ℕ) → ks ≡ keys_by cols ds rows → length rows < n → length ks < n
keys_few n cols ds rows ks e h = omega (arith, ap (λ (z : List ℕ). length z) e, keys_many cols ds rows, h)

paired_short : (ks : List ℕ) (cells : List Item) → length (paired ks cells) ≤ length ks
paired_short [] cells = omega arith
paired_short (k ∷ ks) [] = omega arith
paired_short (k ∷ ks) (v ∷ cells) = omega (arith, paired_short ks cells)

pub paired_few : (n : ℕ) (ks : List ℕ) (cells : List Item) (vs : List (ℕ × Item)) → vs ≡ paired ks cells → length ks < n → length vs < n
paired_few n ks cells vs e h = omega (arith, ap (λ (z : List (ℕ × Item)). length z) e, paired_short ks cells, h)

pub keys_match : (cols ds : List Col) (d : Col) (rows : List (List Item)) (ks : List ℕ) (cells : List Item) → ks ≡ keys_by cols ds rows → cells ≡ cells_at cols d rows → length ks ≡ length cells
keys_match cols ds d rows ks cells e f = ap (λ (z : List ℕ). length z) e ∙ keys_many cols ds rows ∙ sym (ap (λ (z : List Item). length z) f ∙ map_long (cell_or no_cell cols d) rows)

pub distinct_within : (cols ds : List Col) (rows : List (List Item)) → AllWithin (length rows) (new_places 0 0 (keys_by cols ds rows))
distinct_within cols ds rows = new_within 0 0 (length rows) (keys_by cols ds rows) (omega (arith, keys_many cols ds rows))
