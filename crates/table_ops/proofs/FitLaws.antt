-- What an operator that fits has.
use Rattle.std.proofs.Common.{◌≡◌, ◌<◌, ◌+◌, ◌++◌, ◌∷◌, ◌&&◌, [], true, List, length, map, arith, nat_lt, refl, Option, Some, None}
use Rattle.std.specs.List.{list_all}
use Rattle.std.proofs.lemmas.Bool.{ltb-true, and_from}
use Rattle.plan_dag.specs.declared.cols.Col.{Col}
use Rattle.plan_dag.specs.declared.op.Op.{Op}
use Rattle.plan_dag.specs.Schema.{has_col, has_cols, named_first, named_second, added, lacks, unions_agree, fun_fits, names_fit, columns_of, is_schema, cols_differ, fits_over, part_cols, same_cols}
use Rattle.plan_dag.proofs.Fitted.{both}
use Rattle.table_ops.specs.Sorting.{part_keys}
use Rattle.table_ops.proofs.Lists.{long_append}

pub record Fits (op : Op) (l r : List Col) : Type 0 where
  pub first : has_cols l (named_first op) ≡ true
  pub second : has_cols r (named_second op) ≡ true
  pub union : unions_agree op l r ≡ true
  pub fun : fun_fits op ≡ true
  pub few : length (columns_of op l r) < 9

pub fitting : (op : Op) (l r : List Col) → fits_over op l r ≡ true → Fits op l r
fitting op l r e =
    let s = both (names_fit op l r) (is_schema (columns_of op l r)) e in
    let f = both (((has_cols l (named_first op) && has_cols r (named_second op)) && list_all (lacks l) (added op)) && unions_agree op l r) (fun_fits op) s.0 in
    let u = both ((has_cols l (named_first op) && has_cols r (named_second op)) && list_all (lacks l) (added op)) (unions_agree op l r) f.0 in
    let a = both (has_cols l (named_first op) && has_cols r (named_second op)) (list_all (lacks l) (added op)) u.0 in
    let n = both (has_cols l (named_first op)) (has_cols r (named_second op)) a.0 in
    let d = both (nat_lt 0 (length (columns_of op l r)) && nat_lt (length (columns_of op l r)) 9) (cols_differ (columns_of op l r)) s.1 in
    let m = both (nat_lt 0 (length (columns_of op l r))) (nat_lt (length (columns_of op l r)) 9) d.0 in
    record { first = n.0; second = n.1; union = u.1; fun = f.1; few = ltb-true (length (columns_of op l r)) 9 m.1 }

-- the columns of a list that are there
pub there : (l : List Col) (a : Col) (ds : List Col) → has_cols l (a ∷ ds) ≡ true → has_col l a ≡ true
there l a ds e = (both (has_col l a) (has_cols l ds) e).0

pub rest_there : (l : List Col) (a : Col) (ds : List Col) → has_cols l (a ∷ ds) ≡ true → has_cols l ds ≡ true
rest_there l a ds e = (both (has_col l a) (has_cols l ds) e).1

pub short : (l : List Col) (c : Col) → length (l ++ c ∷ []) < 9 → length l < 8
short l c h = omega (arith, long_append l (c ∷ []), h)

-- the keys of a rownum, and its part
pub keys_there : (l ks ps : List Col) → has_cols l (ks ++ ps) ≡ true → has_cols l ks ≡ true
keys_there l [] ps e = refl
keys_there l (k ∷ ks) ps e = let p = both (has_col l k) (has_cols l (ks ++ ps)) e in and_from (has_col l k) (has_cols l ks) p.0 (keys_there l ks ps p.1)

after_keys : (l ks ps : List Col) → has_cols l (ks ++ ps) ≡ true → has_cols l ps ≡ true
after_keys l [] ps e = e
after_keys l (k ∷ ks) ps e = after_keys l ks ps (both (has_col l k) (has_cols l (ks ++ ps)) e).1

pub part_there : (l ks : List Col) (part : Option Col) → has_cols l (ks ++ part_cols part) ≡ true → has_cols l (map (λ k. k.col) (part_keys part)) ≡ true
part_there l ks None e = refl
part_there l ks (Some c) e = after_keys l ks (c ∷ []) e

pub both_short : (l r : List Col) → length (l ++ r) < 9 → length l + length r < 9
both_short l r h = omega (arith, long_append l r, h)

pub union_there : (l r : List Col) → same_cols l r ≡ true → has_cols r l ≡ true
union_there l r e = (both (has_cols l r) (has_cols r l) e).1
