-- The keys of a sorted loop as rows: their values as they are compared, and the iterations whose tuples have keys that can't be compared.
use Rattle.std.proofs.Common.{◌≡◌, ℕ, ◌+◌, Bool, true, false, cond, not, ◌&&◌, ◌||◌, List, [], ◌∷◌, ◌++◌, map, refl, sym, ap, ◌∙◌, arith}
use Rattle.std.proofs.lemmas.Bool.{or_right}
use Rattle.std.proofs.Math.Bool.{not-not}
use Rattle.std.specs.List.{filter, flat_map, list_any}
use Rattle.xq_base.specs.declared.fun.AtomKind.TheVariants as k
use Rattle.xq_base.specs.declared.fun.Fun.TheVariants as f
use Rattle.xq_base.specs.declared.fun.ItemKind.{ItemKind}
use Rattle.xq_base.specs.declared.fun.ItemKind.TheVariants as i'
use Rattle.xq_base.specs.Atoms.{Atom, IntAtom, TextAtom, UntypedAtom, BoolAtom, as_string}
use Rattle.doc_table.specs.Values.{items_of, item_of_atom, atomized, data_of}
use Rattle.plan_dag.specs.declared.op.OpId.{OpId}
use Rattle.plan_dag.specs.Cells.{given}
use Rattle.plan_dag.specs.ItemRules.{Cell, cell_eq, is_true}
use Rattle.plan_dag.specs.Meaning.{cell, cells as cells_at}
use Rattle.lift_laws.specs.Sums.{total, AllOf, Ascends, Same}
use Rattle.lift_laws.specs.Iterations.{Row, Iter, num, item_rows, value_rows}
use Rattle.lift_laws.specs.States.{State, at, HoldAll, column, three, single}
use Rattle.lift_laws.specs.Shapes.{bare, pair, pick, project, four, five, second_rows, kind_rows, data_rows}
use Rattle.lift_laws.specs.Sequences.{rows_at}
use Rattle.lift_laws.specs.Tuples.{numbers}
use Rattle.lift_laws.specs.Sorted.{string_rows, typed_rows, key_rows, outside_rows, unlike_tables, all_unlike}
use Rattle.lift_laws.proofs.Numbers.{cell_eq_self}
use Rattle.lift_laws.proofs.Multi.{same-of, total-append, total-ext, total-sum, total-keep, total-map, total-flat}
use Rattle.lift_laws.proofs.Picks.{all_each, all_mono, flat-all, map-map}
use Rattle.lift_laws.proofs.Simple.{is_there}
use Rattle.lift_laws.proofs.ChoiceCase.{keep_same}
use Rattle.lift_laws.proofs.Marks.{Marks, marks_and, marks_is, marks_same}
use Rattle.lift_laws.proofs.Cleared.{AllMark}
use Rattle.lift_laws.proofs.Operands.{has_two, is_kind, marks_second, marks_kind, marks_items}
use Rattle.lift_laws.proofs.DataCase.{data_stands}
use Rattle.lift_laws.proofs.GeneralCase.{any_map, any_ext}
use Rattle.lift_laws.proofs.CellEqual.{cells_equal}
use Rattle.lift_laws.proofs.KeyCells.{compared_of}

abbrev told : Row → List Row
told r = map (λ v. r ++ v ∷ []) (given (bare.value (f.IsKind (i'.Atom k.Untyped)) (cells_at bare three (column 2 ∷ []) r)))

abbrev untyped : Row → Bool
untyped r = is_true (cell bare four (column 3) r)

abbrev as_text : Row → List Row
as_text r = map (λ v. r ++ v ∷ []) (given (bare.value (f.CastTo k.Text) (cells_at bare four (column 2 ∷ []) r)))

abbrev turned : Row → List Row
turned r = map (λ v. r ++ v ∷ []) (given (bare.value f.Not (cells_at bare four (column 3 ∷ []) r)))

abbrev typed : Row → Bool
typed r = is_true (cell bare five (column 4) r)

abbrev text_out : Row → Row
text_out r = pick five (pair 0 0 ∷ pair 1 1 ∷ pair 2 4 ∷ []) r

abbrev typed_out : Row → Row
typed_out r = cells_at bare three three (pick five (pair 0 0 ∷ pair 1 1 ∷ pair 2 2 ∷ []) r)

-- what one row weighs as a string, and as it is
abbrev strings : (Row → ℕ) → Row → ℕ
strings w r = total (λ q. cond (untyped q) (total (λ p. w (text_out p)) (as_text q)) 0) (told r)

abbrev plains : (Row → ℕ) → Row → ℕ
plains w r = total (λ q. total (λ p. cond (typed p) (w (typed_out p)) 0) (turned q)) (told r)

string_total : (w : Row → ℕ) (a : List Row) → total w (string_rows a) ≡ total (strings w) a
string_total w a =
    total-map w text_out (flat_map as_text (filter untyped (flat_map told a)))
    ∙ total-flat (λ r. w (text_out r)) as_text (filter untyped (flat_map told a))
    ∙ total-keep (λ r. total (λ p. w (text_out p)) (as_text r)) untyped (flat_map told a)
    ∙ total-flat (λ r. cond (untyped r) (total (λ p. w (text_out p)) (as_text r)) 0) told a

plain_total : (w : Row → ℕ) (a : List Row) → total w (map (λ r. cells_at bare three three r) (typed_rows a)) ≡ total (plains w) a
plain_total w a =
    total-map w (λ r. cells_at bare three three r) (typed_rows a)
    ∙ total-map (λ r. w (cells_at bare three three r)) (pick five (pair 0 0 ∷ pair 1 1 ∷ pair 2 2 ∷ [])) (filter typed (flat_map turned (flat_map told a)))
    ∙ total-keep (λ r. w (typed_out r)) typed (flat_map turned (flat_map told a))
    ∙ total-flat (λ r. cond (typed r) (w (typed_out r)) 0) turned (flat_map told a)
    ∙ total-flat (λ r. total (λ p. cond (typed p) (w (typed_out p)) 0) (turned r)) told a

plain_one : (x : ℕ) → (0 + 0) + ((x + 0) + 0) ≡ x
plain_one x = omega arith

string_one : (x : ℕ) → ((x + 0) + 0) + ((0 + 0) + 0) ≡ x
string_one x = omega arith

abbrev row_of : ℕ → ℕ → Atom → Row
row_of n j a = num n ∷ num j ∷ item_of_atom a ∷ []

one_row : (w : Row → ℕ) (n j : ℕ) (a : Atom) → strings w (row_of n j a) + plains w (row_of n j a) ≡ w (row_of n j (as_string a))
one_row w n j (IntAtom z) = plain_one (w (row_of n j (IntAtom z)))
one_row w n j (TextAtom t) = plain_one (w (row_of n j (TextAtom t)))
one_row w n j (UntypedAtom t) = string_one (w (row_of n j (TextAtom t)))
one_row w n j (BoolAtom b) = plain_one (w (row_of n j (BoolAtom b)))

all_rows : (w : Row → ℕ) (n j : ℕ) (as' : List Atom) → total (λ r. strings w r + plains w r) (item_rows n j (items_of as')) ≡ total w (item_rows n j (items_of (map as_string as')))
all_rows w n j [] = refl
all_rows w n j (a ∷ as') =
    ap (λ t. t + total (λ r. strings w r + plains w r) (item_rows n (j + 1) (items_of as'))) (one_row w n j a)
    ∙ ap (λ t. w (row_of n j (as_string a)) + t) (all_rows w n (j + 1) as')

-- an untyped value becomes a string, at its position
pub keys_stand : (g : Iter → List Cell) (its : List Iter) (a : List Row) → Same a (value_rows g its) → Same (key_rows a) (value_rows (λ l. items_of (compared_of (g l))) its)
keys_stand g its a s = record {
  at = λ w.
      let d = data_rows a in
      let atoms = λ (l : Iter). item_rows l.number 1 (items_of (data_of (g l))) in
      let sum = λ (r : Row). strings w r + plains w r in
      total-append w (string_rows d) (map (λ r. cells_at bare three three r) (typed_rows d))
      ∙ ap (λ t. t + total w (map (λ r. cells_at bare three three r) (typed_rows d))) (string_total w d)
      ∙ ap (λ t. total (strings w) d + t) (plain_total w d)
      ∙ sym (total-sum (strings w) (plains w) d)
      ∙ (data_stands g its a s).at sum
      ∙ ap (total sum) (flat-all _ atoms its (all_each _ (λ l. ap (item_rows l.number 1) (sym (map-map item_of_atom atomized (g l)))) its))
      ∙ total-flat sum atoms its
      ∙ total-ext _ _ its (λ l. all_rows w l.number 1 (data_of (g l)))
      ∙ sym (total-flat w (λ l. item_rows l.number 1 (items_of (compared_of (g l)))) its);
}

-- rows of tuples: those whose tuple other rows name
abbrev tuple_in : Row → Cell
tuple_in r = cell bare three (column 2) r

abbrev unnamed : List Row → Row → Bool
unnamed b r = not (is_there (tuple_in r) b)

there_same : (v u : Cell) (b : List Row) → cell_eq v u ≡ true → is_there v b ≡ is_there u b
there_same v u b e = any_ext _ _ b (λ r. cells_equal.congr v u (cell bare single (column 0) r) e)

-- a row that isn't named is left, and any row of its tuple with it
module _ (b : List Row) where
  abbrev Found : List Row → Row → Type 0
  Found ls x = list_any (λ y. cell_eq (tuple_in x) (tuple_in y)) ls ≡ unnamed b x

  named_gone : (x : Row) (ls : List Row) → unnamed b x ≡ false → list_any (λ y. cell_eq (tuple_in x) (tuple_in y)) (filter (unnamed b) ls) ≡ false
  named_gone x [] e = refl
  named_gone x (y ∷ ls) e = go (unnamed b y) refl (cell_eq (tuple_in x) (tuple_in y)) refl (named_gone x ls e)
    where
      go : (n : Bool) → unnamed b y ≡ n → (d : Bool) → cell_eq (tuple_in x) (tuple_in y) ≡ d → list_any (λ y. cell_eq (tuple_in x) (tuple_in y)) (filter (unnamed b) ls) ≡ false → list_any (λ y. cell_eq (tuple_in x) (tuple_in y)) (cond n (y ∷ filter (unnamed b) ls) (filter (unnamed b) ls)) ≡ false
      go false p d q r = r
      go true p false q r = ap (λ d. d || list_any (λ y. cell_eq (tuple_in x) (tuple_in y)) (filter (unnamed b) ls)) q ∙ r
      go true p true q r = let z = sym p ∙ ap not (sym (there_same (tuple_in x) (tuple_in y) b q)) ∙ e in cc

  more_found : (x y : Row) (ls : List Row) → list_any (λ y. cell_eq (tuple_in x) (tuple_in y)) (filter (unnamed b) ls) ≡ true → list_any (λ y. cell_eq (tuple_in x) (tuple_in y)) (filter (unnamed b) (y ∷ ls)) ≡ true
  more_found x y ls e = go (unnamed b y)
    where
      go : (n : Bool) → list_any (λ y. cell_eq (tuple_in x) (tuple_in y)) (cond n (y ∷ filter (unnamed b) ls) (filter (unnamed b) ls)) ≡ true
      go false = e
      go true = or_right (cell_eq (tuple_in x) (tuple_in y)) _ e

  own_found : (ls : List Row) → AllOf (λ x. unnamed b x ≡ true → list_any (λ y. cell_eq (tuple_in x) (tuple_in y)) (filter (unnamed b) ls) ≡ true) ls
  own_found [] = tt
  own_found (x ∷ ls) = (
    (λ e. ap (λ n. list_any (λ y. cell_eq (tuple_in x) (tuple_in y)) (cond n (x ∷ filter (unnamed b) ls) (filter (unnamed b) ls))) e
        ∙ ap (λ d. d || list_any (λ y. cell_eq (tuple_in x) (tuple_in y)) (filter (unnamed b) ls)) (cell_eq_self (tuple_in x))),
    all_mono (λ y. unnamed b y ≡ true → list_any (λ z. cell_eq (tuple_in y) (tuple_in z)) (filter (unnamed b) ls) ≡ true) (λ y. unnamed b y ≡ true → list_any (λ z. cell_eq (tuple_in y) (tuple_in z)) (filter (unnamed b) (x ∷ ls)) ≡ true) (λ y h e. more_found y x ls (h e)) ls (own_found ls),
  )

  all_found : (ls : List Row) → AllOf (Found (filter (unnamed b) ls)) ls
  all_found ls = all_mono _ _ (λ x (h : unnamed b x ≡ true → list_any (λ y. cell_eq (tuple_in x) (tuple_in y)) (filter (unnamed b) ls) ≡ true). go x (unnamed b x) refl h) ls (own_found ls)
    where
      go : (x : Row) (n : Bool) → unnamed b x ≡ n → (unnamed b x ≡ true → list_any (λ y. cell_eq (tuple_in x) (tuple_in y)) (filter (unnamed b) ls) ≡ true) → Found (filter (unnamed b) ls) x
      go x true e h = h e ∙ sym e
      go x false e h = named_gone x ls e ∙ sym e

outside_is : (r b : List Row) → outside_rows r b ≡ project three (pair 0 0 ∷ []) (filter (λ x. is_there (tuple_in x) b) r)
outside_is r b =
    ap (project three (pair 0 0 ∷ []))
    (keep_same _ (λ x. is_there (tuple_in x) b) r
    (all_mono _ _ (λ x (h : Found b (filter (unnamed b) r) x). let q : not (list_any (λ y. cell_eq (tuple_in x) (tuple_in y)) (filter (unnamed b) r)) ≡ is_there (tuple_in x) b = ap not h ∙ not-not (is_there (tuple_in x) b) in q) r (all_found b r)))

-- the iterations with a tuple that has a value of a kind; those whose tuples have two values of a key in one, or values of two kinds
abbrev some_kind : (Iter → List Iter) → (Iter → List Cell) → ItemKind → Iter → Bool
some_kind G h kind i = list_any (λ l. list_any (is_kind kind) (h l)) (G i)

abbrev unlike_tests : (Iter → List Iter) → (Iter → List Cell) → List (Iter → Bool)
unlike_tests G h =
    (λ i. list_any (λ l. has_two (h l)) (G i))
    ∷ (λ i. some_kind G h (i'.Atom k.Integer) i && some_kind G h (i'.Atom k.Text) i)
    ∷ (λ i. some_kind G h (i'.Atom k.Integer) i && some_kind G h (i'.Atom k.Boolean) i)
    ∷ (λ i. some_kind G h (i'.Atom k.Text) i && some_kind G h (i'.Atom k.Boolean) i) ∷ []

abbrev pub all_tests : (Iter → List Iter) → List (Iter → List Cell) → List (Iter → Bool)
all_tests G [] = []
all_tests G (g ∷ gs) = unlike_tests G (λ l. items_of (compared_of (g l))) ++ all_tests G gs

-- the iterations with a tuple that passes a test
module _ (G : Iter → List Iter) (its : List Iter) (r : List Row) (asc : Ascends (λ i. i.number) 0 its) (sr : Same r (value_rows (λ i. numbers (G i)) its)) where
  -- rows name the tuples that pass
  abbrev pub Names : List Row → (Iter → Bool) → Type 0
  Names b q = AllOf (λ i. AllOf (λ l. is_there (num l.number) b ≡ q l) (G i)) its

  pub marks_outside : (b : List Row) (q : Iter → Bool) → Names b q → Marks (outside_rows r b) (λ i. list_any q (G i)) its
  marks_outside b q h =
      marks_is (all_mono _ _ (λ i (a : AllOf (λ l. is_there (num l.number) b ≡ q l) (G i)). let e : list_any (λ v. is_there v b) (numbers (G i)) ≡ list_any q (G i) = any_map (λ v. is_there v b) (λ (l : Iter). num l.number) (G i) ∙ any_all (G i) a in e) its h)
      (marks_same (same-of (outside_is r b)) (marks_items (λ v. is_there v b) (λ x. is_there (tuple_in x) b) (λ n j v. refl) (λ i. numbers (G i)) its r asc sr))
    where
      any_all : (ls : List Iter) → AllOf (λ l. is_there (num l.number) b ≡ q l) ls → list_any (λ l. is_there (num l.number) b) ls ≡ list_any q ls
      any_all [] a = refl
      any_all (l ∷ ls) a = ap (λ d. d || list_any (λ m. is_there (num m.number) b) ls) a.0 ∙ ap (λ d. q l || d) (any_all ls a.1)

  module _ (tuples : List Iter) (tasc : Ascends (λ i. i.number) 0 tuples) (spread : (P : Iter → Type 0) → AllOf P tuples → AllOf (λ i. AllOf P (G i)) its) where
    marks_unlike : (h : Iter → List Cell) (x : List Row) → Same x (value_rows h tuples) → AllMark (unlike_tables r x) (unlike_tests G h) its
    marks_unlike h x sx =
        let seconds = marks_outside (second_rows x) (λ l. has_two (h l)) (spread _ (marks_second h tuples x tasc sx).each) in
        let kinds = λ (kind : ItemKind). marks_outside (kind_rows kind x) (λ l. list_any (is_kind kind) (h l)) (spread _ (marks_kind kind h tuples x tasc sx).each) in
        (seconds, (marks_and (kinds (i'.Atom k.Integer)) (kinds (i'.Atom k.Text)), (marks_and (kinds (i'.Atom k.Integer)) (kinds (i'.Atom k.Boolean)), (marks_and (kinds (i'.Atom k.Text)) (kinds (i'.Atom k.Boolean)), tt))))

    pub marks_all_unlike : (s : State) (ts : List OpId) (gs : List (Iter → List Cell)) → HoldAll s ts gs tuples → AllMark (all_unlike r (rows_at s ts)) (all_tests G gs) its
    marks_all_unlike s [] [] h = tt
    marks_all_unlike s [] (g ∷ gs) h = absurd h
    marks_all_unlike s (t ∷ ts) [] h = absurd h
    marks_all_unlike s (t ∷ ts) (g ∷ gs) h =
        let m = marks_unlike (λ l. items_of (compared_of (g l))) (key_rows (at s t).rows) (keys_stand g tuples (at s t).rows h.0.rows_are) in
        (m.0, (m.1.0, (m.1.1.0, (m.1.1.1.0, marks_all_unlike s ts gs h.1))))
