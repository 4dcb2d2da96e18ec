-- Places by key: how they are filed, and how they are found.
use Rattle.std.proofs.Common.{◌≡◌, ◌<◌, ◌≤◌, ◌+◌, ◌-◌, ◌++◌, ◌∙◌, ℕ, zero, suc, Bool, true, false, cond, List, [], ◌∷◌, length, map, take, drop, nat_eq, refl, ap, sym, subst, arith}
use Rattle.std.specs.Prelude.{slice_index_or}
use Rattle.std.proofs.lemmas.Bool.Decides.{Decides-eqb}
use Rattle.indexmap.specs.IndexSet.{insert_all}
use Rattle.xq_base.specs.declared.item.Item.{Item}
use Rattle.table_ops.specs.Chains.{places_of, AllBelow}
use Rattle.table_ops.specs.Columns.{no_cell}
use Rattle.table_ops.specs.Filed.{cells_by, IsPiece, span_at, AreFiled, FilesCells}
use Rattle.table_ops.specs.Keys.{item_eq, place_in, keys_from}
use Rattle.table_ops.proofs.ItemEqual.{item_same, item_self}
use Rattle.table_ops.proofs.Keying.{AllThere, keys_are, all_there, tells, keys_below, found}
use Rattle.table_ops.proofs.MatchLaws.{places_told}
use Rattle.table_ops.proofs.Lists.{long_append}

at_before : {X : Type 0} (xs : List X) (y : X) (k : ℕ) (d : X) → k < length xs → slice_index_or (xs ++ y ∷ []) k d ≡ slice_index_or xs k d
at_before [] y k d h = absurd (omega (arith, h))
at_before (x ∷ xs) y zero d h = refl
at_before (x ∷ xs) y (suc k) d h = at_before xs y k d (omega (arith, h))

at_last : {X : Type 0} (xs : List X) (y : X) (k : ℕ) (d : X) → k ≡ length xs → slice_index_or (xs ++ y ∷ []) k d ≡ y
at_last [] y zero d h = refl
at_last [] y (suc k) d h = absurd (omega (arith, h))
at_last (x ∷ xs) y zero d h = absurd (omega (arith, h))
at_last (x ∷ xs) y (suc k) d h = at_last xs y k d (omega (arith, h))

-- a piece stays as more comes behind
take_stays : (n : ℕ) (xs ys : List ℕ) → n ≤ length xs → take n (xs ++ ys) ≡ take n xs
take_stays zero [] [] h = refl
take_stays zero [] (y ∷ ys) h = refl
take_stays zero (x ∷ xs) ys h = refl
take_stays (suc n) [] ys h = absurd (omega (arith, h))
take_stays (suc n) (x ∷ xs) ys h = ap (λ z. x ∷ z) (take_stays n xs ys (omega (arith, h)))

piece_stays : (s e : ℕ) (xs ys : List ℕ) → s ≤ e → e ≤ length xs → take (e - s) (drop s (xs ++ ys)) ≡ take (e - s) (drop s xs)
piece_stays zero e xs ys a b = let n : e - 0 ≡ e = omega arith in rw n (take_stays e xs ys b)
piece_stays (suc s) e [] ys a b = absurd (omega (arith, a, b))
piece_stays (suc s) zero (x ∷ xs) ys a b = absurd (omega (arith, a))
piece_stays (suc s) (suc e) (x ∷ xs) ys a b =
    let n : suc e - suc s ≡ e - s = omega arith in
    ap (λ k. take k (drop s (xs ++ ys))) n ∙ piece_stays s e xs ys (omega (arith, a)) (omega (arith, b)) ∙ ap (λ k. take k (drop s xs)) (sym n)

take_exact : (n : ℕ) (ys : List ℕ) → n ≡ length ys → take n ys ≡ ys
take_exact zero [] h = refl
take_exact zero (y ∷ ys) h = absurd (omega (arith, h))
take_exact (suc n) [] h = absurd (omega (arith, h))
take_exact (suc n) (y ∷ ys) h = ap (λ z. y ∷ z) (take_exact n ys (omega (arith, h)))

last_piece : (s e : ℕ) (xs ys : List ℕ) → s ≡ length xs → e ≡ length xs + length ys → take (e - s) (drop s (xs ++ ys)) ≡ ys
last_piece zero e [] ys a b = take_exact (e - 0) ys (omega (arith, b))
last_piece (suc s) e [] ys a b = absurd (omega (arith, a))
last_piece zero e (x ∷ xs) ys a b = absurd (omega (arith, a))
last_piece (suc s) zero (x ∷ xs) ys a b = absurd (omega (arith, b))
last_piece (suc s) (suc e) (x ∷ xs) ys a b =
    let n : suc e - suc s ≡ e - s = omega arith in
    ap (λ k. take k (drop s (xs ++ ys))) n ∙ last_piece s e xs ys (omega (arith, a)) (omega (arith, b))

pub filed_none : (keys places : List ℕ) (spans : List (ℕ × ℕ)) → spans ≡ [] → AreFiled 0 keys spans places
filed_none keys places spans e = record { many = ap (λ (z : List (ℕ × ℕ)). length z) e; pieces = λ k h. absurd (omega (arith, h)) }

pub filed_next : (n s e : ℕ) (keys places news : List ℕ) (spans more : List (ℕ × ℕ)) → AreFiled n keys spans places → news ≡ places ++ places_of (nat_eq n) 0 keys → s ≡ length places → e ≡ length news → more ≡ spans ++ (s, e) ∷ [] → AreFiled (n + 1) keys more news
filed_next n s e keys places news spans more f g a b m = record { many = ap (λ (z : List (ℕ × ℕ)). length z) m ∙ long_append spans ((s, e) ∷ []) ∙ omega (arith, f.many); pieces = λ k h. by k (nat_eq k n) refl h }
  where
    qs : List ℕ
    qs = places_of (nat_eq n) 0 keys

    end : e ≡ length places + length qs
    end = b ∙ ap (λ (z : List ℕ). length z) g ∙ long_append places qs

    fresh : IsPiece news (s, e) qs
    fresh = record { ordered = omega (arith, a, end); within = omega (arith, b); is = ap (λ z. take (e - s) (drop s z)) g ∙ last_piece s e places qs a end }

    kept : (k : ℕ) → k < n → IsPiece news (span_at spans k) (places_of (nat_eq k) 0 keys)
    kept k h =
        let p = f.pieces k h in
        record {
          ordered = p.ordered;
          within = omega (arith, p.within, ap (λ (z : List ℕ). length z) g ∙ long_append places qs);
          is = ap (λ z. take ((span_at spans k).1 - (span_at spans k).0) (drop (span_at spans k).0 z)) g ∙ piece_stays (span_at spans k).0 (span_at spans k).1 places qs p.ordered p.within ∙ p.is;
        }

    by : (k : ℕ) (c : Bool) → nat_eq k n ≡ c → k < n + 1 → IsPiece news (span_at more k) (places_of (nat_eq k) 0 keys)
    by k true t h =
        let same : k ≡ n = (Decides-eqb k n).0 t in
        let at : span_at more k ≡ (s, e) = ap (λ z. span_at z k) m ∙ at_last spans (s, e) k (0, 0) (omega (arith, same, f.many)) in
        subst (λ z. IsPiece news z (places_of (nat_eq k) 0 keys)) (sym at) (subst (λ j. IsPiece news (s, e) (places_of (nat_eq j) 0 keys)) (sym same) fresh)
    by k false t h =
        let below : k < n = less k t h in
        let at : span_at more k ≡ span_at spans k = ap (λ z. span_at z k) m ∙ at_before spans (s, e) k (0, 0) (omega (arith, below, f.many)) in
        subst (λ z. IsPiece news z (places_of (nat_eq k) 0 keys)) (sym at) (kept k below)
      where
        less : (k : ℕ) → nat_eq k n ≡ false → k < n + 1 → k < n
        less k t h = grind (arith, Decides-eqb, t, h)

-- cells by their keys
cells_back : (table cells : List Item) → AllThere item_eq item_same item_self table cells → cells_by table (map (place_in item_eq table) cells) ≡ cells
unfolding AllThere
cells_back table [] h = refl
cells_back table (x ∷ cells) h = λ i. found item_eq item_same item_self table x no_cell h.0 i ∷ cells_back table cells h.1 i

pub cells_are : (cells table : List Item) (keys : List ℕ) → table ≡ insert_all item_eq [] cells → keys ≡ keys_from item_eq [] cells → cells_by table keys ≡ cells
cells_are cells table keys t k =
    (λ i. cells_by (t i) ((k ∙ keys_are item_eq item_same item_self cells []) i))
    ∙ cells_back (insert_all item_eq [] cells) cells (all_there item_eq item_same item_self cells [])

pub files_cells : (cells table : List Item) (keys places : List ℕ) (spans : List (ℕ × ℕ)) (n : ℕ) → table ≡ insert_all item_eq [] cells → keys ≡ keys_from item_eq [] cells → n ≡ length table → AreFiled n keys spans places → FilesCells table keys spans places
files_cells cells table keys places spans n t k m f =
    let T : List Item = insert_all item_eq [] cells in
    let as_places : keys ≡ map (place_in item_eq table) cells = k ∙ keys_are item_eq item_same item_self cells [] ∙ ap (λ z. map (place_in item_eq z) cells) (sym t) in
    record {
      own = as_places ∙ ap (map (place_in item_eq table)) (sym (cells_are cells table keys t k));
      there = subst (λ z. AllBelow (length table) z) (sym as_places) (subst (λ z. AllBelow (length z) (map (place_in item_eq z) cells)) (sym t) (keys_below item_eq item_same item_self T cells (all_there item_eq item_same item_self cells [])));
      filed = subst (λ z. AreFiled z keys spans places) m f;
    }

there_of : (table ys : List Item) → AllBelow (length table) (map (place_in item_eq table) ys) → AllThere item_eq item_same item_self table ys
unfolding AllThere
there_of table [] h = tt
there_of table (y ∷ ys) h = (h.0, there_of table ys h.1)

pub told_places : (table : List Item) (keys places : List ℕ) (spans : List (ℕ × ℕ)) (cell : Item) → FilesCells table keys spans places → places_of (item_eq cell) 0 (cells_by table keys) ≡ places_of (nat_eq (place_in item_eq table cell)) 0 keys
told_places table keys places spans cell f =
    places_told item_eq (place_in item_eq table) (place_in item_eq table) cell 0 (cells_by table keys)
    (tells item_eq item_same item_self table (cells_by table keys) (there_of table (cells_by table keys) (subst (AllBelow (length table)) f.own f.there)))
    ∙ ap (places_of (nat_eq (place_in item_eq table cell)) 0) (sym f.own)

none_of : (n k i : ℕ) (keys : List ℕ) → AllBelow n keys → n ≤ k → places_of (nat_eq k) i keys ≡ []
none_of n k i [] h l = refl
none_of n k i (m ∷ keys) h l = by (nat_eq k m) refl (none_of n k (suc i) keys h.1 l)
  where
    by : (b : Bool) → nat_eq k m ≡ b → places_of (nat_eq k) (suc i) keys ≡ [] → cond b (i ∷ places_of (nat_eq k) (suc i) keys) (places_of (nat_eq k) (suc i) keys) ≡ []
    by true e r = absurd (omega (arith, h.0, l, (Decides-eqb k m).0 e))
    by false e r = r

pub absent_places : (table : List Item) (keys places : List ℕ) (spans : List (ℕ × ℕ)) (cell : Item) → FilesCells table keys spans places → length table ≤ place_in item_eq table cell → places_of (item_eq cell) 0 (cells_by table keys) ≡ []
absent_places table keys places spans cell f l = told_places table keys places spans cell f ∙ none_of (length table) (place_in item_eq table cell) 0 keys f.there l

pub piece_of : (table : List Item) (keys places : List ℕ) (spans : List (ℕ × ℕ)) (cell : Item) (k : ℕ) → FilesCells table keys spans places → k ≡ place_in item_eq table cell → k < length table → IsPiece places (span_at spans k) (places_of (item_eq cell) 0 (cells_by table keys))
piece_of table keys places spans cell k f e l =
    subst (IsPiece places (span_at spans k)) (ap (λ z. places_of (nat_eq z) 0 keys) e ∙ sym (told_places table keys places spans cell f)) (f.filed.pieces k l)
