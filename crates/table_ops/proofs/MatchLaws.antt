-- Pairs and lone places by keys are those by cells, and give the rows of a join and a difference.
use Rattle.std.proofs.Common.{◌≡◌, ◌<◌, ◌≤◌, ◌+◌, ◌++◌, ◌∙◌, ◌||◌, ℕ, suc, Bool, true, false, cond, not, List, [], ◌∷◌, length, map, nat_eq, refl, ap, sym, subst, arith, if◌then◌else◌}
use Rattle.std.specs.List.{filter, list_any}
use Rattle.indexmap.specs.IndexSet.{insert_key, insert_all}
use Rattle.xq_base.specs.declared.item.Item.{Item}
use Rattle.plan_dag.specs.declared.cols.Col.{Col}
use Rattle.plan_dag.specs.Meaning.{cell_or}
use Rattle.plan_dag.specs.Rows.{joined, left_over}
use Rattle.table_ops.specs.Chains.{places_of, pairs_from, AllBelow}
use Rattle.table_ops.specs.Columns.{rows_at, rows_beside, cells_at, no_cell, AllWithin}
use Rattle.table_ops.specs.Held.{kept}
use Rattle.table_ops.specs.Joins.{pair_rows}
use Rattle.table_ops.specs.Keys.{item_eq, place_in, keys_from, TellsFrom}
use Rattle.table_ops.specs.Picks.{is_at_least}
use Rattle.table_ops.specs.Matches.{equal_pairs_from, lone_places}
use Rattle.table_ops.proofs.Joining.{joined_by_places}
use Rattle.table_ops.proofs.ItemEqual.{item_same, item_self}
use Rattle.table_ops.proofs.Keying.{keys_are, all_there, tells, tells_rows, keys_of, keys_below, place_le, there_is}
use Rattle.table_ops.proofs.Selecting.{picked, within_from, lefts_within, rights_within, pairs_beside}
use Rattle.table_ops.proofs.Lists.{maps, map_long}

places_same : {X Y : Type 0} (p : X → Bool) (q : Y → Bool) (f : X → Y) (i : ℕ) (xs : List X) → ((x : X) → p x ≡ q (f x)) → places_of p i xs ≡ places_of q i (map f xs)
places_same p q f i [] h = refl
places_same p q f i (x ∷ xs) h = λ j. cond (h x j) (i ∷ places_same p q f (suc i) xs h j) (places_same p q f (suc i) xs h j)

module _ {X Y : Type 0} (eq : X → Y → Bool) (f : X → ℕ) (g : Y → ℕ) where
  pub places_told : (x : X) (i : ℕ) (ys : List Y) → TellsFrom eq f g ys → places_of (eq x) i ys ≡ places_of (nat_eq (f x)) i (map g ys)
  places_told x i [] h = refl
  places_told x i (y ∷ ys) h = λ j. cond (h.0 x j) (i ∷ places_told x (suc i) ys h.1 j) (places_told x (suc i) ys h.1 j)

-- pairs by cells are pairs by keys
pairs_told : {X : Type 0} (eq : X → X → Bool) (f g : X → ℕ) (l : ℕ) (xs rs : List X) → TellsFrom eq f g rs → equal_pairs_from eq l xs rs ≡ pairs_from l (map f xs) (map g rs)
pairs_told eq f g l [] rs h = refl
pairs_told eq f g l (x ∷ xs) rs h = λ j. map (λ r. (l, r)) (places_told eq f g x 0 rs h j) ++ pairs_told eq f g (suc l) xs rs h j

abbrev table_of : List Item → List Item
table_of rs = insert_all item_eq [] rs

told : (rs : List Item) → TellsFrom item_eq (place_in item_eq (table_of rs)) (place_in item_eq (table_of rs)) rs
told rs = tells item_eq item_same item_self (table_of rs) rs (all_there item_eq item_same item_self rs [])

pub pairs_by_keys : (ls rs : List Item) → pairs_from 0 (map (place_in item_eq (insert_all item_eq [] rs)) ls) (keys_from item_eq [] rs) ≡ equal_pairs_from item_eq 0 ls rs
pairs_by_keys ls rs =
    ap (pairs_from 0 (map (place_in item_eq (table_of rs)) ls)) (keys_are item_eq item_same item_self rs [])
    ∙ sym (pairs_told item_eq (place_in item_eq (table_of rs)) (place_in item_eq (table_of rs)) 0 ls rs (told rs))

-- the keys are below the number of chains
pub right_below : (rs : List Item) → AllBelow (length (insert_all item_eq [] rs) + 1) (keys_from item_eq [] rs)
right_below rs = subst (AllBelow (length (table_of rs) + 1)) (sym (keys_are item_eq item_same item_self rs [])) (more (map (place_in item_eq (table_of rs)) rs) (keys_below item_eq item_same item_self (table_of rs) rs (all_there item_eq item_same item_self rs [])))
  where
    more : (ks : List ℕ) → AllBelow (length (table_of rs)) ks → AllBelow (length (table_of rs) + 1) ks
    more [] h = tt
    more (k ∷ ks) h = (omega (arith, h.0), more ks h.1)

pub left_below : (t ls : List Item) → AllBelow (length t + 1) (map (place_in item_eq t) ls)
left_below t [] = tt
left_below t (x ∷ ls) = (omega (arith, place_le item_eq t x), left_below t ls)

-- what was put is there
pub any_append : {X : Type 0} (p : X → Bool) (xs : List X) (y : X) → list_any p (xs ++ y ∷ []) ≡ list_any p xs || p y
any_append p [] y = by (p y)
  where
    by : (b : Bool) → b || false ≡ false || b
    by true = refl
    by false = refl
any_append p (x ∷ xs) y = ap (λ z. p x || z) (any_append p xs y) ∙ or_or (p x) (list_any p xs) (p y)
  where
    or_or : (a b c : Bool) → a || (b || c) ≡ (a || b) || c
    or_or true b c = refl
    or_or false b c = refl

any_found : (t : List Item) (x y : Item) → list_any (item_eq y) t ≡ true → item_eq x y ≡ true → list_any (item_eq x) t ≡ true
any_found t x y h e = subst (λ z. list_any (item_eq z) t ≡ true) (sym (item_same x y e)) h

any_put : (t : List Item) (x y : Item) → list_any (item_eq x) (insert_key item_eq t y) ≡ list_any (item_eq x) t || item_eq x y
any_put t x y = by (list_any (item_eq y) t) refl
  where
    by : (b : Bool) → list_any (item_eq y) t ≡ b → list_any (item_eq x) (if b then t else t ++ y ∷ []) ≡ list_any (item_eq x) t || item_eq x y
    by true e = had (item_eq x y) refl
      where
        or_true : (a : Bool) → a ≡ true → a ≡ a || true
        or_true true e = refl
        or_true false e = e

        or_false : (a : Bool) → a ≡ a || false
        or_false true = refl
        or_false false = refl

        had : (c : Bool) → item_eq x y ≡ c → list_any (item_eq x) t ≡ list_any (item_eq x) t || c
        had true s = or_true (list_any (item_eq x) t) (any_found t x y e s)
        had false s = or_false (list_any (item_eq x) t)
    by false e = any_append (item_eq x) t y

any_all : (t xs : List Item) (x : Item) → list_any (item_eq x) (insert_all item_eq t xs) ≡ list_any (item_eq x) t || list_any (item_eq x) xs
any_all t [] x = by (list_any (item_eq x) t)
  where
    by : (b : Bool) → b ≡ b || false
    by true = refl
    by false = refl
any_all t (y ∷ xs) x = any_all (insert_key item_eq t y) xs x ∙ ap (λ z. z || list_any (item_eq x) xs) (any_put t x y) ∙ or_or (list_any (item_eq x) t) (item_eq x y) (list_any (item_eq x) xs)
  where
    or_or : (a b c : Bool) → (a || b) || c ≡ a || (b || c)
    or_or true b c = refl
    or_or false b c = refl

pub lone_by_keys : (ls rs : List Item)
    → places_of (is_at_least (length (insert_all item_eq [] rs))) 0 (map (place_in item_eq (insert_all item_eq [] rs)) ls) ≡ lone_places item_eq ls rs
unfolding is_at_least
lone_by_keys ls rs =
    sym (places_same (λ x. not (list_any (item_eq x) rs)) (is_at_least (length (table_of rs))) (place_in item_eq (table_of rs)) 0 ls
    (λ x. ap not (sym (any_all [] rs x) ∙ there_is item_eq (table_of rs) x)))

pub table_short : (xs t : List Item) → length (insert_all item_eq t xs) ≤ length t + length xs
table_short [] t = omega arith
table_short (x ∷ xs) t = omega (arith, table_short xs (insert_key item_eq t x), one (list_any (item_eq x) t))
  where
    one : (b : Bool) → length (if b then t else t ++ x ∷ []) ≤ 1 + length t
    one true = omega arith
    one false = omega (arith, longer t x)
      where
        longer : (ys : List Item) (y : Item) → length (ys ++ y ∷ []) ≡ suc (length ys)
        longer [] y = refl
        longer (z ∷ ys) y = ap suc (longer ys y)

pub table_few : (n : ℕ) (xs table : List Item) → table ≡ insert_all item_eq [] xs → length xs < n → length table < n
table_few n xs table e h = omega (arith, ap (λ (z : List Item). length z) e, table_short xs [], h)

keys_long : (xs t : List Item) → length (keys_from item_eq t xs) ≡ length xs
keys_long [] t = refl
keys_long (x ∷ xs) t = ap suc (keys_long xs (insert_key item_eq t x))

pub keys_few : (n : ℕ) (xs : List Item) (ks : List ℕ) → ks ≡ keys_from item_eq [] xs → length xs < n → length ks < n
keys_few n xs ks e h = omega (arith, ap (λ (z : List ℕ). length z) e, keys_long xs [], h)

pub chains_below : (xs table : List Item) (ks : List ℕ) (n : ℕ) → table ≡ insert_all item_eq [] xs → ks ≡ keys_from item_eq [] xs → n ≡ length table → AllBelow (n + 1) ks
chains_below xs table ks n t k e = subst (λ m. AllBelow (m + 1) ks) (sym (e ∙ ap (λ (z : List Item). length z) t)) (subst (AllBelow (length (insert_all item_eq [] xs) + 1)) (sym k) (right_below xs))

pub looked_below : (ls table : List Item) (ks : List ℕ) (n m : ℕ) → ks ≡ map (place_in item_eq table) ls → n ≡ length table → m ≡ n + 1 → AllBelow m ks
looked_below ls table ks n m k e f = subst (λ j. AllBelow j ks) (sym (f ∙ ap (λ j. j + 1) e)) (subst (AllBelow (length table + 1)) (sym k) (left_below table ls))

-- rows of the pairs are the joined rows
module _ (lcols rcols : List Col) (a b : Col) where
  F : List Item → Item
  F l = cell_or no_cell lcols a l

  G : List Item → Item
  G r = cell_or no_cell rcols b r

  pub join_rows : (ls rs : List (List Item))
      → rows_beside (rows_at ls (map (λ p. p.0) (equal_pairs_from item_eq 0 (cells_at lcols a ls) (cells_at rcols b rs)))) (rows_at rs (map (λ p. p.1) (equal_pairs_from item_eq 0 (cells_at lcols a ls) (cells_at rcols b rs))))
      ≡ joined kept (cell_or no_cell lcols a) (cell_or no_cell rcols b) ls rs
  join_rows ls rs =
      let T : List Item = table_of (cells_at rcols b rs) in
      pairs_beside ls rs (equal_pairs_from item_eq 0 (cells_at lcols a ls) (cells_at rcols b rs))
      ∙ ap (pair_rows ls rs)
      (pairs_told item_eq (place_in item_eq T) (place_in item_eq T) 0 (cells_at lcols a ls) (cells_at rcols b rs) (told (cells_at rcols b rs))
      ∙ (λ i. pairs_from 0 (maps (place_in item_eq T) (cell_or no_cell lcols a) ls i) (maps (place_in item_eq T) (cell_or no_cell rcols b) rs i)))
      ∙ joined_by_places (λ l r. item_eq (cell_or no_cell lcols a l) (cell_or no_cell rcols b r)) [] ls rs
      (map (λ l. place_in item_eq T (cell_or no_cell lcols a l)) ls) (map (λ r. place_in item_eq T (cell_or no_cell rcols b r)) rs)
      (keys_of (λ l r. item_eq (cell_or no_cell lcols a l) (cell_or no_cell rcols b r)) (λ l. place_in item_eq T (cell_or no_cell lcols a l)) (λ r. place_in item_eq T (cell_or no_cell rcols b r)) ls rs
      (tells_rows item_eq (place_in item_eq T) (place_in item_eq T) (cell_or no_cell lcols a) (cell_or no_cell rcols b) rs (told (cells_at rcols b rs))))

  pub join_left_within : (ls rs : List (List Item)) → AllWithin (length ls) (map (λ p. p.0) (equal_pairs_from item_eq 0 (cells_at lcols a ls) (cells_at rcols b rs)))
  join_left_within ls rs =
      subst (λ z. AllWithin (length ls) (map (λ p. p.0) z)) (pairs_by_keys (cells_at lcols a ls) (cells_at rcols b rs))
      (lefts_within 0 (length ls) _ (keys_from item_eq [] (cells_at rcols b rs)) (omega (arith, map_long (place_in item_eq (table_of (cells_at rcols b rs))) (cells_at lcols a ls), map_long (cell_or no_cell lcols a) ls)))

  pub join_right_within : (ls rs : List (List Item)) → AllWithin (length rs) (map (λ p. p.1) (equal_pairs_from item_eq 0 (cells_at lcols a ls) (cells_at rcols b rs)))
  join_right_within ls rs =
      subst (λ z. AllWithin (length rs) (map (λ p. p.1) z)) (pairs_by_keys (cells_at lcols a ls) (cells_at rcols b rs))
      (rights_within 0 (length rs) (map (place_in item_eq (table_of (cells_at rcols b rs))) (cells_at lcols a ls)) (keys_from item_eq [] (cells_at rcols b rs)) (many (cells_at rcols b rs) []))
    where
      keys_long : (xs t : List Item) → length (keys_from item_eq t xs) ≡ length xs
      keys_long [] t = refl
      keys_long (x ∷ xs) t = ap suc (keys_long xs (insert_key item_eq t x))

      many : (xs t : List Item) → length (keys_from item_eq [] (cells_at rcols b rs)) ≤ length rs
      many xs t = omega (arith, keys_long (cells_at rcols b rs) [], map_long (cell_or no_cell rcols b) rs)

  pub difference_rows : (ls rs : List (List Item)) → rows_at ls (lone_places item_eq (cells_at lcols a ls) (cells_at rcols b rs)) ≡ left_over kept (cell_or no_cell lcols a) (cell_or no_cell rcols b) ls rs
  difference_rows ls rs =
      picked (λ x. not (list_any (item_eq x) (cells_at rcols b rs))) (cell_or no_cell lcols a) [] ls
      ∙ filter_same ls
    where
      any_mapped : (x : Item) (rs : List (List Item)) → list_any (item_eq x) (map (cell_or no_cell rcols b) rs) ≡ list_any (λ r. item_eq x (cell_or no_cell rcols b r)) rs
      any_mapped x [] = refl
      any_mapped x (r ∷ rs) = ap (λ z. item_eq x (cell_or no_cell rcols b r) || z) (any_mapped x rs)

      filter_same : (ls : List (List Item)) → filter (λ l. not (list_any (item_eq (cell_or no_cell lcols a l)) (cells_at rcols b rs))) ls ≡ left_over kept (cell_or no_cell lcols a) (cell_or no_cell rcols b) ls rs
      filter_same [] = refl
      filter_same (l ∷ ls) = λ i. cond (not (any_mapped (cell_or no_cell lcols a l) rs i)) (l ∷ filter_same ls i) (filter_same ls i)

  pub difference_within : (ls rs : List (List Item)) → AllWithin (length ls) (lone_places item_eq (cells_at lcols a ls) (cells_at rcols b rs))
  difference_within ls rs = within_from _ 0 (length ls) (cells_at lcols a ls) (omega (arith, map_long (cell_or no_cell lcols a) ls))
