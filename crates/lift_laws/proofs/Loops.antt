-- The turns of a loop: their numbers, variables in them, and the way back.
use Rattle.std.proofs.Common.{◌≡◌, ℕ, ◌+◌, ◌<◌, ◌≤◌, Bool, true, false, List, [], ◌∷◌, ◌++◌, map, refl, sym, ap, ◌∙◌, arith, None, nat_lt}
use Rattle.std.specs.List.{filter, flat_map}
use Rattle.std.proofs.lemmas.Bool.{lt-ltb}
use Rattle.xq_base.specs.Texts.{Text}
use Rattle.doc_table.specs.Items.{Item}
use Rattle.doc_table.specs.Values.{Items}
use Rattle.plan_dag.specs.declared.cols.Col.{Col}
use Rattle.plan_dag.specs.declared.keys.Key.{Key}
use Rattle.plan_dag.specs.ItemRules.{Cell, cell_eq}
use Rattle.plan_dag.specs.Meaning.{cell, same_part}
use Rattle.lift_laws.specs.Sums.{total, AllOf, Ascends, Same}
use Rattle.lift_laws.specs.Iterations.{Row, Iter, num, item_rows, value_rows, cells, Turn, turn, turns_of, given, all_turns, turns, joined, bodies}
use Rattle.lift_laws.specs.States.{column, three}
use Rattle.lift_laws.specs.Shapes.{bare, less_by, up, pair, columns, pick, project, join_by, four, five, turn_map, inner_rows, item_var_rows, place_var_rows, into_rows, back_rows}
use Rattle.lift_laws.proofs.Numbers.{nat_lt_self, nat_lt_above}
use Rattle.lift_laws.proofs.Multi.{same-map, same-keep, same-of, same-trans, total-flat, total-ext}
use Rattle.lift_laws.proofs.Picks.{Picked, picks, map-map, map-flat, flat-flat, flat-all, all_each, all_mono, all-append, all-flat, join_picks}
use Rattle.lift_laws.proofs.Ranks.{part_self, less_self, goes_before, goes_beside, stamped, numbered_same, Goes, InRow, in_row_ranked, in_row_free}
use Rattle.lift_laws.proofs.Regroup.{tagged, grid, regroup}

abbrev keys : List Key
keys = up 0 ∷ up 1 ∷ []

abbrev part : Row → Row → Bool
part q r = same_part bare three None q r

abbrev under : Row → Row → Bool
under q r = less_by three keys q r

abbrev lt : Row → Row → Bool
lt q r = goes_before part under q r

abbrev tie : Row → Row → Bool
tie q r = goes_beside part under q r

lt_self : (r : Row) → lt r r ≡ false
lt_self r = less_self three keys r

abbrev pub map_row_of : (Item Text → Cell) → Turn → Row
map_row_of c t = num t.outer.number ∷ num t.place ∷ c t.item ∷ num t.number ∷ []

abbrev pub vrow : ℕ → ℕ → Cell → Row
vrow n k v = num n ∷ num k ∷ v ∷ []

goes_number : (n n' k k' : ℕ) (v v' : Cell) → n < n' → Goes lt tie (vrow n k v) (vrow n' k' v')
goes_number n n' k k' v v' h =
    let b : nat_lt n n' ≡ true = lt-ltb n n' h in
    let c = nat_lt_above n n' h in
    (rw b refl, rw (b, c) refl, rw b refl, rw (b, c) refl)

goes_place : (n k k' : ℕ) (v v' : Cell) → k < k' → Goes lt tie (vrow n k v) (vrow n k' v')
goes_place n k k' v v' h =
    let t = nat_lt_self n in
    let b : nat_lt k k' ≡ true = lt-ltb k k' h in
    let c = nat_lt_above k k' h in
    (rw (t, b) refl, rw (t, b, c) refl, rw (t, b) refl, rw (t, b, c) refl)

items_after_place : (n k : ℕ) (v : Cell) (k' : ℕ) (vs : List Cell) → k < k' → AllOf (Goes lt tie (vrow n k v)) (item_rows n k' vs)
items_after_place n k v k' [] h = tt
items_after_place n k v k' (u ∷ us) h = (goes_place n k k' v u h, items_after_place n k v (k' + 1) us (omega arith))

items_after_number : (n n' k : ℕ) (v : Cell) (k' : ℕ) (vs : List Cell) → n < n' → AllOf (Goes lt tie (vrow n k v)) (item_rows n' k' vs)
items_after_number n n' k v k' [] h = tt
items_after_number n n' k v k' (u ∷ us) h = (goes_number n n' k k' v u h, items_after_number n n' k v (k' + 1) us h)

module _ (f : Iter → List Cell) where
  values_after : (n k : ℕ) (v : Cell) (m : ℕ) (its : List Iter) → n ≤ m → Ascends (λ i. i.number) m its → AllOf (Goes lt tie (vrow n k v)) (value_rows f its)
  values_after n k v m [] le a = tt
  values_after n k v m (i ∷ its) le a =
      let h = a.0 in
      all-append _ (item_rows i.number 1 (f i)) (value_rows f its) (items_after_number n i.number k v 1 (f i) (omega arith)) (values_after n k v i.number its (omega arith) a.1)

  items_then : (n k : ℕ) (vs : List Cell) (rest : List Row) → ((k' : ℕ) (v : Cell) → AllOf (Goes lt tie (vrow n k' v)) rest) → InRow lt tie rest → InRow lt tie (item_rows n k vs ++ rest)
  items_then n k [] rest a s = s
  items_then n k (v ∷ vs) rest a s =
      (all-append _ (item_rows n (k + 1) vs) rest (items_after_place n k v (k + 1) vs (omega arith)) (a k v), items_then n (k + 1) vs rest a s)

  values_in_row : (n : ℕ) (its : List Iter) → Ascends (λ i. i.number) n its → InRow lt tie (value_rows f its)
  values_in_row n [] a = tt
  values_in_row n (i ∷ its) a =
      items_then i.number 1 (f i) (value_rows f its) (λ k v. values_after i.number k v i.number its (omega arith) a.1) (values_in_row i.number its a.1)

-- what doesn't ask for the number
pub given_flat : {A : Type 0} (h : Turn → List A) → ((t : Turn) (n : ℕ) → h (turn n t.outer t.place t.item) ≡ h t) → (n : ℕ) (ts : List Turn) → flat_map h (given n ts) ≡ flat_map h ts
given_flat h e n [] = refl
given_flat h e n (t ∷ ts) = let a = e t n in let b = given_flat h e (n + 1) ts in cc

module _ (f : Iter → Items) where
  pub turns_outer : (P : Iter → Type 0) (i : Iter) (k : ℕ) (vs : Items) → P i → AllOf (λ t. P t.outer) (turns_of i k vs)
  turns_outer P i k [] h = tt
  turns_outer P i k (v ∷ vs) h = (h, turns_outer P i (k + 1) vs h)

  given_all : (P : Iter → Type 0) (n : ℕ) (ts : List Turn) → AllOf (λ t. P t.outer) ts → AllOf (λ t. P t.outer) (given n ts)
  given_all P n [] a = tt
  given_all P n (t ∷ ts) a = (a.0, given_all P (n + 1) ts a.1)

  pub turns_picked : (its : List Iter) → Ascends (λ i. i.number) 0 its → AllOf (λ t. Picked (λ i. i.number) its t.outer) (turns f its)
  turns_picked its a =
      given_all (Picked (λ i. i.number) its) 1 (all_turns f its)
      (all-flat _ (λ i. turns_of i 1 (f i)) its (all_mono _ _ (λ i h. turns_outer (Picked (λ j. j.number) its) i 1 (f i) h) its (picks (λ i. i.number) 0 its a)))

  pub given_ascends : (n : ℕ) (ts : List Turn) → Ascends (λ t. t.number) n (given (n + 1) ts)
  given_ascends n [] = tt
  given_ascends n (t ∷ ts) = (omega arith, given_ascends (n + 1) ts)

-- the turns as rows, with cells for their items
cell_turns : (c : Item Text → Cell) (i : Iter) (k : ℕ) (vs : Items) → item_rows i.number k (map c vs) ≡ map (λ t. vrow t.outer.number t.place (c t.item)) (turns_of i k vs)
cell_turns c i k [] = refl
cell_turns c i k (v ∷ vs) = ap (λ l. vrow i.number k (c v) ∷ l) (cell_turns c i (k + 1) vs)

stamped_turns : (c : Item Text → Cell) (n : ℕ) (ts : List Turn) → stamped n (map (λ t. vrow t.outer.number t.place (c t.item)) ts) ≡ map (map_row_of c) (given n ts)
stamped_turns c n [] = refl
stamped_turns c n (t ∷ ts) = ap (λ l. (num t.outer.number ∷ num t.place ∷ c t.item ∷ num n ∷ []) ∷ l) (stamped_turns c (n + 1) ts)

pub turn_map_stands : (c : Item Text → Cell) (f : Iter → Items) (its : List Iter) (s : List Row) → Ascends (λ i. i.number) 0 its → Same s (value_rows (cells c f) its) → Same (turn_map s) (map (map_row_of c) (turns f its))
turn_map_stands c f its s a e =
    let row = values_in_row (cells c f) 0 its a in
    let free = in_row_free lt tie lt_self (value_rows (cells c f) its) row in
    let n = numbered_same part under (part_self three None) (less_self three keys) s (value_rows (cells c f) its) e free in
    let flat : value_rows (cells c f) its ≡ map (λ t. vrow t.outer.number t.place (c t.item)) (all_turns f its) =
    flat-all _ _ its (all_each _ (λ i. cell_turns c i 1 (f i)) its) ∙ sym (map-flat (λ t. vrow t.outer.number t.place (c t.item)) (λ i. turns_of i 1 (f i)) its) in
    same-trans n (same-of (in_row_ranked lt tie lt_self (value_rows (cells c f) its) row ∙ ap (stamped 1) flat ∙ stamped_turns c 1 (all_turns f its)))

-- the loop inside
abbrev pub inner_loop : List Turn → List Row
inner_loop ts = map (λ t. num t.number ∷ []) ts

pub inner_stands : (c : Item Text → Cell) (ts : List Turn) (m : List Row) → Same m (map (map_row_of c) ts) → Same (inner_rows m) (inner_loop ts)
inner_stands c ts m s = same-trans (same-map (pick four (pair 0 3 ∷ [])) s) (same-of (map-map (pick four (pair 0 3 ∷ [])) (map_row_of c) ts))

flat_single : {A B : Type 0} (f : A → B) (xs : List A) → map f xs ≡ flat_map (λ x. f x ∷ []) xs
flat_single f [] = refl
flat_single f (x ∷ xs) = ap (λ l. f x ∷ l) (flat_single f xs)

pub item_var_stands : (c : Item Text → Cell) (ts : List Turn) (m : List Row) → Same m (map (map_row_of c) ts) → Same (item_var_rows m) (flat_map (λ t. item_rows t.number 1 (c t.item ∷ [])) ts)
item_var_stands c ts m s =
    same-trans (same-map (pick five (pair 0 3 ∷ pair 1 4 ∷ pair 2 2 ∷ [])) (same-map (λ r. r ++ num 1 ∷ []) s))
    (same-of (ap (map (pick five (pair 0 3 ∷ pair 1 4 ∷ pair 2 2 ∷ []))) (map-map (λ r. r ++ num 1 ∷ []) (map_row_of c) ts)
    ∙ map-map (pick five (pair 0 3 ∷ pair 1 4 ∷ pair 2 2 ∷ [])) (λ t. map_row_of c t ++ num 1 ∷ []) ts
    ∙ flat_single (λ t. num t.number ∷ num 1 ∷ c t.item ∷ []) ts))

pub place_var_stands : (c : Item Text → Cell) (ts : List Turn) (m : List Row) → Same m (map (map_row_of c) ts) → Same (place_var_rows m) (flat_map (λ t. item_rows t.number 1 (num t.place ∷ [])) ts)
place_var_stands c ts m s =
    same-trans (same-map (pick five (pair 0 3 ∷ pair 1 4 ∷ pair 2 1 ∷ [])) (same-map (λ r. r ++ num 1 ∷ []) s))
    (same-of (ap (map (pick five (pair 0 3 ∷ pair 1 4 ∷ pair 2 1 ∷ []))) (map-map (λ r. r ++ num 1 ∷ []) (map_row_of c) ts)
    ∙ map-map (pick five (pair 0 3 ∷ pair 1 4 ∷ pair 2 1 ∷ [])) (λ t. map_row_of c t ++ num 1 ∷ []) ts
    ∙ flat_single (λ t. num t.number ∷ num 1 ∷ num t.place ∷ []) ts))

-- join of two tables whose rows stand
pub same-join : (cl cr : List Col) (a b : Col) {ls ls' rs rs' : List Row} → Same ls ls' → Same rs rs' → Same (join_by cl cr a b ls rs) (join_by cl cr a b ls' rs')
same-join cl cr a b {ls = ls} {ls' = ls'} {rs = rs} {rs' = rs'} s t = record {
  at = λ w.
      let each = λ (qs : List Row) (l : Row). map (λ r. l ++ r) (filter (λ r. cell_eq (cell bare cl a l) (cell bare cr b r)) qs) in
      total-flat w (each rs) ls
      ∙ total-ext (λ l. total w (each rs l)) (λ l. total w (each rs' l)) ls (λ l. (same-map (λ r. l ++ r) (same-keep (λ r. cell_eq (cell bare cl a l) (cell bare cr b r)) t)).at w)
      ∙ s.at (λ l. total w (each rs' l))
      ∙ sym (total-flat w (each rs') ls');
}

pub rows_key : (n k : ℕ) (vs : List Cell) → AllOf (λ r. cell bare three (column 0) r ≡ num n) (item_rows n k vs)
rows_key n k [] = tt
rows_key n k (v ∷ vs) = (refl, rows_key n (k + 1) vs)

-- an outer variable inside
into_items : (n o k : ℕ) (vs : List Cell) → map (λ r. pick (columns (4 ∷ 5 ∷ 0 ∷ 1 ∷ 2 ∷ [])) (pair 0 5 ∷ pair 1 1 ∷ pair 2 2 ∷ []) ((num o ∷ num n ∷ []) ++ r)) (item_rows o k vs) ≡ item_rows n k vs
into_items n o k [] = refl
into_items n o k (v ∷ vs) = ap (λ l. (num n ∷ num k ∷ v ∷ []) ∷ l) (into_items n o (k + 1) vs)

pub into_stands : (c : Item Text → Cell) (f : Iter → Items) (g : Iter → List Cell) (its : List Iter) (m v : List Row) → Ascends (λ i. i.number) 0 its → Same m (map (map_row_of c) (turns f its)) → Same v (value_rows g its) → Same (into_rows m v) (flat_map (λ t. item_rows t.number 1 (g t.outer)) (turns f its))
into_stands c f g its m v a s e =
    let out = pick (columns (4 ∷ 5 ∷ 0 ∷ 1 ∷ 2 ∷ [])) (pair 0 5 ∷ pair 1 1 ∷ pair 2 2 ∷ []) in
    let side = λ (t : Turn). num t.outer.number ∷ num t.number ∷ [] in
    let left : Same (project four (pair 4 0 ∷ pair 5 3 ∷ []) m) (map side (turns f its)) =
    same-trans (same-map (pick four (pair 4 0 ∷ pair 5 3 ∷ [])) s) (same-of (map-map (pick four (pair 4 0 ∷ pair 5 3 ∷ [])) (map_row_of c) (turns f its))) in
    let joins = join_picks (λ i. i.number) (λ (t : Turn). t.outer) side (λ i. item_rows i.number 1 (g i)) (cell bare (columns (4 ∷ 5 ∷ [])) (column 4)) (cell bare three (column 0)) (λ t. refl) (λ i. rows_key i.number 1 (g i)) (turns f its) its (turns_picked f its a) in
    same-trans (same-map out (same-trans (same-join (columns (4 ∷ 5 ∷ [])) three (column 4) (column 0) left e) joins))
    (same-of (map-flat out (λ t. map (λ r. side t ++ r) (item_rows t.outer.number 1 (g t.outer))) (turns f its)
    ∙ flat-all _ _ (turns f its) (all_each _ (λ t. map-map out (λ r. side t ++ r) (item_rows t.outer.number 1 (g t.outer)) ∙ into_items t.number t.outer.number 1 (g t.outer)) (turns f its))))

-- the values of the turns become those of the iterations
pub back_items : (n o p k : ℕ) (vs : List Cell) → map (λ r. pick (columns (4 ∷ 5 ∷ 6 ∷ 0 ∷ 1 ∷ 2 ∷ [])) (pair 0 5 ∷ pair 1 1 ∷ pair 2 2 ∷ pair 3 6 ∷ []) ((num n ∷ num o ∷ num p ∷ []) ++ r)) (item_rows n k vs) ≡ tagged o p k vs
back_items n o p k [] = refl
back_items n o p k (v ∷ vs) = ap (λ l. (num o ∷ num k ∷ v ∷ num p ∷ []) ∷ l) (back_items n o p (k + 1) vs)

turns_grid : (h : Iter → ℕ → Item Text → List Cell) (i : Iter) (k : ℕ) (vs : Items) → flat_map (λ t. tagged t.outer.number t.place 1 (h t.outer t.place t.item)) (turns_of i k vs) ≡ grid i.number k (bodies h i k vs)
turns_grid h i k [] = refl
turns_grid h i k (v ∷ vs) = ap (λ l. tagged i.number k 1 (h i k v) ++ l) (turns_grid h i (k + 1) vs)

pub back_stands : (c : Item Text → Cell) (f : Iter → Items) (h : Iter → ℕ → Item Text → List Cell) (its : List Iter) (m t : List Row) → Ascends (λ i. i.number) 0 its → Same m (map (map_row_of c) (turns f its)) → Same t (flat_map (λ u. item_rows u.number 1 (h u.outer u.place u.item)) (turns f its)) → Same (back_rows m t) (value_rows (λ i. joined (bodies h i 1 (f i))) its)
back_stands c f h its m t a s e =
    let ts = turns f its in
    let out = pick (columns (4 ∷ 5 ∷ 6 ∷ 0 ∷ 1 ∷ 2 ∷ [])) (pair 0 5 ∷ pair 1 1 ∷ pair 2 2 ∷ pair 3 6 ∷ []) in
    let side = λ (u : Turn). num u.number ∷ num u.outer.number ∷ num u.place ∷ [] in
    let val = λ (u : Turn). h u.outer u.place u.item in
    let tags = λ (u : Turn). tagged u.outer.number u.place 1 (val u) in
    let left : Same (project four (pair 4 3 ∷ pair 5 0 ∷ pair 6 1 ∷ []) m) (map side ts) =
    same-trans (same-map (pick four (pair 4 3 ∷ pair 5 0 ∷ pair 6 1 ∷ [])) s) (same-of (map-map (pick four (pair 4 3 ∷ pair 5 0 ∷ pair 6 1 ∷ [])) (map_row_of c) ts)) in
    let picked = picks (λ u. u.number) 0 ts (given_ascends f 0 (all_turns f its)) in
    let joins = join_picks (λ u. u.number) (λ (u : Turn). u) side (λ u. item_rows u.number 1 (val u)) (cell bare (columns (4 ∷ 5 ∷ 6 ∷ [])) (column 4)) (cell bare three (column 0)) (λ u. refl) (λ u. rows_key u.number 1 (val u)) ts ts picked in
    let moved = same-map out (same-trans (same-join (columns (4 ∷ 5 ∷ 6 ∷ [])) three (column 4) (column 0) left e) joins) in
    let flat = map-flat out (λ u. map (λ r. side u ++ r) (item_rows u.number 1 (val u))) ts
    ∙ flat-all _ tags ts (all_each _ (λ u. map-map out (λ r. side u ++ r) (item_rows u.number 1 (val u)) ∙ back_items u.number u.outer.number u.place 1 (val u)) ts)
    ∙ given_flat tags (λ u n. refl) 1 (all_turns f its)
    ∙ flat-flat tags (λ i. turns_of i 1 (f i)) its
    ∙ flat-all _ (λ i. grid i.number 1 (bodies h i 1 (f i))) its (all_each _ (λ i. turns_grid h i 1 (f i)) its) in
    regroup (λ i. i.number) (λ i. bodies h i 1 (f i)) its _ (picks (λ i. i.number) 0 its a) (same-trans moved (same-of flat))
