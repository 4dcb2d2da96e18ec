-- The keys of a sorted loop over the cells of its tables and over its items: the same ones can't be compared, and the order is the same.
use Rattle.std.proofs.Common.{◌≡◌, ℕ, ◌≤◌, Bool, true, false, not, ◌&&◌, ◌||◌, List, [], ◌∷◌, length, map, refl, ap, ◌∙◌, arith}
use Rattle.std.proofs.lemmas.Bool.{or_parts}
use Rattle.std.specs.List.{list_any}
use Rattle.std.proofs.Math.Nat.{max-le}
use Rattle.xq_base.specs.declared.fun.AtomKind.{AtomKind}
use Rattle.xq_base.specs.declared.fun.AtomKind.TheVariants as k
use Rattle.xq_base.specs.declared.fun.ItemKind.TheVariants as i'
use Rattle.xq_base.specs.Atoms.{Atom, IntAtom, TextAtom, UntypedAtom, BoolAtom, as_string}
use Rattle.doc_table.specs.Orders.{in_order}
use Rattle.doc_table.specs.Values.{Items, items_of, item_of_atom, atomized, data_of}
use Rattle.doc_table.specs.NodeRules.{Docs}
use Rattle.plan_dag.specs.declared.op.OpId.{OpId}
use Rattle.plan_dag.specs.ItemRules.{Cell}
use Rattle.core_meaning.specs.Expr.{Order, Exprs, no_more, one_more}
use Rattle.lift_laws.specs.Sums.{total, AllOf}
use Rattle.lift_laws.specs.Iterations.{Iter, cells}
use Rattle.lift_laws.specs.Bulk.{value, cost_all}
use Rattle.lift_laws.specs.Worlds.{World, cell_of}
use Rattle.lift_laws.specs.States.{State, at, HoldAll}
use Rattle.lift_laws.specs.Sequences.{rows_at}
use Rattle.lift_laws.specs.Lifting.{part_cells}
use Rattle.lift_laws.specs.Sorted.{key_rows, parts_most}
use Rattle.lift_laws.proofs.Multi.{same-length, total-ext}
use Rattle.lift_laws.proofs.Picks.{all_each, all_mono}
use Rattle.lift_laws.proofs.Sizes.{size_cells, map_length, values_weigh, own_most}
use Rattle.lift_laws.proofs.Cleared.{none_of}
use Rattle.lift_laws.proofs.Operands.{has_two, is_kind}
use Rattle.lift_laws.proofs.GeneralCase.{any_map, any_ext}
use Rattle.lift_laws.proofs.Fairness.{data_cells}
use Rattle.lift_laws.proofs.KeyRows.{keys_stand, all_tests}
use Rattle.lift_laws.proofs.KeyCells.{compared_of, two, of_kind, unfit, some_unfit}
use Rattle.lift_laws.proofs.KeyOrders.{as_compared, by_one, by_all, order_agree}

-- a key's values as they are compared: of cells and of items
compared_cells : (W : World) (vs : Items) → compared_of (map (cell_of W) vs) ≡ map as_string (data_of vs)
compared_cells W vs = ap (map as_string) (data_cells W vs)

two_compared : (as' : List Atom) → two (map as_string as') ≡ two as'
two_compared [] = refl
two_compared (a ∷ []) = refl
two_compared (a ∷ b ∷ as') = refl

two_items : (as' : List Atom) → has_two (items_of (map as_string as')) ≡ two as'
two_items [] = refl
two_items (a ∷ []) = refl
two_items (a ∷ b ∷ as') = refl

one_kind : (kind : AtomKind) (a : Atom) → is_kind (i'.Atom kind) (item_of_atom (as_string a)) ≡ of_kind kind a
one_kind kind (IntAtom z) = refl
one_kind kind (TextAtom t) = refl
one_kind kind (UntypedAtom t) = refl
one_kind kind (BoolAtom b) = refl

kind_items : (kind : AtomKind) (as' : List Atom) → list_any (is_kind (i'.Atom kind)) (items_of (map as_string as')) ≡ list_any (of_kind kind) as'
kind_items kind as' = any_map (is_kind (i'.Atom kind)) item_of_atom (map as_string as') ∙ any_map (λ a. is_kind (i'.Atom kind) (item_of_atom a)) as_string as' ∙ any_ext _ _ as' (one_kind kind)

five : (a b d e r : Bool) → not (not a && (not b && (not d && (not e && r)))) ≡ ((a || (b || (d || e))) || not r)
five true b d e r = refl
five false true d e r = refl
five false false true e r = refl
five false false false true r = refl
five false false false false r = refl

some_test : {A : Type 0} (p : A → Bool) (xs : List A) → list_any p xs ≡ false → AllOf (λ x. p x ≡ false) xs
some_test p [] e = tt
some_test p (x ∷ xs) e = let h = or_parts (p x) (list_any p xs) e in (h.0, some_test p xs h.1)

module _ (W : World) where
  abbrev keys_of : List (Iter → Items) → List (Iter → List Cell)
  keys_of gs = map (cells (cell_of W)) gs

  -- the order
  by_cells : (os : List Order) (gs : List (Iter → Items)) (l m : Iter) → by_all os (map as_compared (keys_of gs)) l m ≡ by_all os (map as_compared gs) l m
  by_cells [] gs l m = refl
  by_cells (o ∷ os) [] l m = refl
  by_cells (o ∷ os) (g ∷ gs) l m =
      ap (λ as'. by_one o as' (compared_of (map (cell_of W) (g m))) (by_all os (map as_compared (keys_of gs)) l m)) (compared_cells W (g l))
      ∙ ap (λ bs. by_one o (map as_string (data_of (g l))) bs (by_all os (map as_compared (keys_of gs)) l m)) (compared_cells W (g m))
      ∙ ap (by_one o (map as_string (data_of (g l))) (map as_string (data_of (g m)))) (by_cells os gs l m)

  pub same_order : (os : List Order) (gs : List (Iter → Items)) (ls : List Iter) → in_order (by_all os (map as_compared (keys_of gs))) ls ≡ in_order (by_all os (map as_compared gs)) ls
  same_order os gs ls = order_agree (by_all os (map as_compared (keys_of gs))) (by_all os (map as_compared gs)) ls (all_each _ (λ l. all_each _ (λ m. by_cells os gs l m) ls) ls)

  -- the iterations whose keys can't be compared
  module _ (B : Iter → Items) (G : Iter → List Iter) where
    twos : (g : Iter → Items) (ls : List Iter) → list_any (λ l. has_two (items_of (compared_of (map (cell_of W) (g l))))) ls ≡ list_any (λ l. two (data_of (g l))) ls
    twos g ls = any_ext _ _ ls (λ l. ap (λ as'. has_two (items_of as')) (compared_cells W (g l)) ∙ two_items (data_of (g l)))

    kinds : (kind : AtomKind) (g : Iter → Items) (ls : List Iter) → list_any (λ l. list_any (is_kind (i'.Atom kind)) (items_of (compared_of (map (cell_of W) (g l))))) ls ≡ list_any (λ l. list_any (of_kind kind) (data_of (g l))) ls
    kinds kind g ls = any_ext _ _ ls (λ l. ap (λ as'. list_any (is_kind (i'.Atom kind)) (items_of as')) (compared_cells W (g l)) ∙ kind_items kind (data_of (g l)))

    pub tests_are : (gs : List (Iter → Items)) (i : Iter) → not (none_of (all_tests G (keys_of gs)) i) ≡ some_unfit B gs (G i)
    tests_are [] i = refl
    tests_are (g ∷ gs) i =
        let ls = G i in
        let h = λ (l : Iter). items_of (compared_of (map (cell_of W) (g l))) in
        let at = λ (kind : AtomKind). list_any (λ l. list_any (is_kind (i'.Atom kind)) (h l)) ls in
        let of = λ (kind : AtomKind). list_any (λ l. list_any (of_kind kind) (data_of (g l))) ls in
        let rest = none_of (all_tests G (keys_of gs)) i in
        let all = λ (a i t b r : Bool). (a || ((i && t) || ((i && b) || (t && b)))) || r in
        five (list_any (λ l. has_two (h l)) ls) (at k.Integer && at k.Text) (at k.Integer && at k.Boolean) (at k.Text && at k.Boolean) rest
        ∙ ap (λ a. all a (at k.Integer) (at k.Text) (at k.Boolean) (not rest)) (twos g ls)
        ∙ ap (λ d. all (list_any (λ l. two (data_of (g l))) ls) d (at k.Text) (at k.Boolean) (not rest)) (kinds k.Integer g ls)
        ∙ ap (λ d. all (list_any (λ l. two (data_of (g l))) ls) (of k.Integer) d (at k.Boolean) (not rest)) (kinds k.Text g ls)
        ∙ ap (λ d. all (list_any (λ l. two (data_of (g l))) ls) (of k.Integer) (of k.Text) d (not rest)) (kinds k.Boolean g ls)
        ∙ ap (λ d. unfit B g ls || d) (tests_are gs i)

    -- where they can, no tuple has two values of a key
    pub ones_are : (gs : List (Iter → Items)) (its tuples : List Iter) → ((P : Iter → Type 0) → AllOf (λ i. AllOf P (G i)) its → AllOf P tuples) → AllOf (λ i. some_unfit B gs (G i) ≡ false) its
        → AllOf (λ (g : Iter → List Cell). AllOf (λ l. two (compared_of (g l)) ≡ false) tuples) (keys_of gs)
    ones_are [] its tuples gather a = tt
    ones_are (g ∷ gs) its tuples gather a = (
      all_mono _ _ (λ l (e : two (data_of (g l)) ≡ false). let q : two (compared_of (map (cell_of W) (g l))) ≡ false = ap two (compared_cells W (g l)) ∙ two_compared (data_of (g l)) ∙ e in q) tuples
          (gather (λ l. two (data_of (g l)) ≡ false) (all_mono _ _ (λ i (e : some_unfit B (g ∷ gs) (G i) ≡ false). some_test (λ l. two (data_of (g l))) (G i) (or_parts (list_any (λ l. two (data_of (g l))) (G i)) _ (or_parts (unfit B g (G i)) (some_unfit B gs (G i)) e).0).0) its a)),
      ones_are gs its tuples gather (all_mono _ _ (λ i (e : some_unfit B (g ∷ gs) (G i) ≡ false). let q : some_unfit B gs (G i) ≡ false = (or_parts (unfit B g (G i)) (some_unfit B gs (G i)) e).1 in q) its a),
    )

-- the keys' rows are in the cost
module _ (docs : Docs) (W : World) (tuples : List Iter) (N : ℕ) where
  pub keys_sized : (es : Exprs) → cost_all docs es tuples ≤ N → AllOf (λ (g : Iter → List Cell). total (λ l. length (g l)) tuples ≤ N) (part_cells docs W es)
  keys_sized no_more h = tt
  keys_sized (one_more e es) h =
      let a = total-ext _ _ tuples (λ l. map_length (cell_of W) (value docs e l)) in
      let b = values_weigh docs e tuples in
      let d = own_most docs e tuples in
      (omega arith, keys_sized es (omega arith))

  pub parts_few : (s : State) (ts : List OpId) (gs : List (Iter → List Cell)) → HoldAll s ts gs tuples → AllOf (λ (g : Iter → List Cell). total (λ l. length (g l)) tuples ≤ N) gs → parts_most (rows_at s ts) ≤ N
  parts_few s [] [] h n = omega arith
  parts_few s [] (g ∷ gs) h n = absurd h
  parts_few s (t ∷ ts) [] h n = absurd h
  parts_few s (t ∷ ts) (g ∷ gs) h n =
      let b = same-length h.0.rows_are ∙ size_cells g tuples in
      let d = same-length (keys_stand g tuples (at s t).rows h.0.rows_are) ∙ size_cells (λ l. items_of (compared_of (g l))) tuples ∙ total-ext _ _ tuples (λ l. map_length item_of_atom (compared_of (g l)) ∙ map_length as_string (data_of (g l)) ∙ map_length atomized (g l)) in
      let f = n.0 in
      max-le (max-le {a = length (at s t).rows} {b = length (key_rows (at s t).rows)} (omega arith) (omega arith)) (parts_few s ts gs h.1 n.1)
