-- Calls of `intersect` and `except`, from the rows of their operators: the first of equal rows, where those of the other operand stand first.
use Rattle.std.proofs.Common.{◌≡◌, ℕ, ◌+◌, Bool, true, false, cond, not, ◌&&◌, ◌||◌, List, [], ◌∷◌, ◌++◌, length, map, refl, sym, ap, ◌∙◌, subst, Option, nat_eq, nat_lt}
use Rattle.std.proofs.Math.Bool.{and-true}
use Rattle.std.specs.List.{filter, flat_map}
use Rattle.std.specs.Cmp.{IsEquivalence}
use Rattle.xq_base.specs.declared.fun.Fun.TheVariants as f
use Rattle.xq_base.specs.Texts.{Text}
use Rattle.doc_table.specs.Tree.{Tree}
use Rattle.doc_table.specs.Identity.{TreeId, Node, node_eq, node_less}
use Rattle.doc_table.specs.Items.{BoolItem, NodeItem}
use Rattle.doc_table.specs.Orders.{has}
use Rattle.doc_table.specs.Values.{all_nodes}
use Rattle.doc_table.specs.Steps.{nodes_in, items_at, in_document_order}
use Rattle.doc_table.specs.NodeRules.{Docs, those_in, those_not_in}
use Rattle.doc_table.proofs.StrictOrders.{nodes_order}
use Rattle.plan_dag.specs.Orders.{firsts}
use Rattle.plan_dag.specs.declared.op.OpId.{OpId}
use Rattle.plan_dag.specs.declared.check.Check.{Check}
use Rattle.plan_dag.specs.ItemRules.{Cell, cell_eq, is_true}
use Rattle.plan_dag.specs.Rows.{all_same}
use Rattle.plan_dag.specs.Meaning.{cell}
use Rattle.plan_dag.specs.Meaning.{cells as cells_at}
use Rattle.core_meaning.specs.Expr.{Site, Apply}
use Rattle.lift_laws.specs.Sums.{total, count, bit, AllOf, Ascends, Same}
use Rattle.lift_laws.specs.Iterations.{Row, Iter, num, value_rows}
use Rattle.lift_laws.specs.States.{State, at, Makes, column, three}
use Rattle.lift_laws.specs.Shapes.{bare, pair, pick, with_cell}
use Rattle.lift_laws.specs.Stages.{Stages}
use Rattle.lift_laws.specs.Walks.{node_cols, union_marks, ordered_rows}
use Rattle.lift_laws.specs.Sets.{asked_cols, node_rows, apart_rows, except_rows, intersect_rows}
use Rattle.lift_laws.specs.Lifting.{Rooted, CallLifts}
use Rattle.lift_laws.proofs.Numbers.{num_same}
use Rattle.lift_laws.proofs.Multi.{same-of, same-trans, same-keep, total-ext, total-flat, total-keep, total-map, total-zero}
use Rattle.lift_laws.proofs.Picks.{Picked, picks, all_each, all_mono, flat-all}
use Rattle.lift_laws.proofs.Keeping.{filter_append}
use Rattle.lift_laws.proofs.Operands.{keep_flat}
use Rattle.lift_laws.proofs.Once.{firsts_all, firsts_count, has_bit, once_sorted}
use Rattle.lift_laws.proofs.NodePairs.{found_stands}
use Rattle.lift_laws.proofs.NodeOrder.{node_row, order_stands}
use Rattle.lift_laws.proofs.WalkCase.{tail_count, head_one, nodes_rooted, nodes_equal}
use Rattle.lift_laws.proofs.NodeSets.{number_in, node_in, row_eq, rows_equal, canon, canon_same, known_rows, pairs_stand, set_call}

-- first occurrences in two lists, one after the other
module _ {A : Type 0} (eq : A → A → Bool) where
  abbrev pub seen_in : List A → List A → List A
  seen_in seen [] = seen
  seen_in seen (x ∷ xs) = cond (has eq x seen) (seen_in seen xs) (seen_in (x ∷ seen) xs)

  pub firsts_then : (seen xs ys : List A) → firsts eq seen (xs ++ ys) ≡ firsts eq seen xs ++ firsts eq (seen_in seen xs) ys
  firsts_then seen [] ys = refl
  firsts_then seen (x ∷ xs) ys =
      let p = firsts_then seen xs ys in
      let q = firsts_then (x ∷ seen) xs ys in
      elim (has eq x seen) as (λ b. cond b (firsts eq seen (xs ++ ys)) (x ∷ firsts eq (x ∷ seen) (xs ++ ys)) ≡ cond b (firsts eq seen xs) (x ∷ firsts eq (x ∷ seen) xs) ++ firsts eq (cond b (seen_in seen xs) (seen_in (x ∷ seen) xs)) ys) [
        | true ↦ p
        | false ↦ ap (λ l. x ∷ l) q
      ]

  module _ (equal : IsEquivalence eq) where
    same_has : (x y : A) (zs : List A) → eq x y ≡ true → has eq x zs ≡ has eq y zs
    same_has x y [] e = refl
    same_has x y (z ∷ zs) e = ap (λ b. b || has eq x zs) (equal.congr x y z e) ∙ ap (λ b. eq y z || b) (same_has x y zs e)

    seen_has : (z : A) (seen xs : List A) → has eq z (seen_in seen xs) ≡ (has eq z seen || has eq z xs)
    seen_has z seen [] = never (has eq z seen)
      where
        never : (b : Bool) → b ≡ (b || false)
        never true = refl
        never false = refl
    seen_has z seen (x ∷ xs) = go (has eq x seen) refl (eq z x) refl (seen_has z seen xs) (seen_has z (x ∷ seen) xs)
      where
        turned : (p q r : Bool) → ((p || q) || r) ≡ (q || (p || r))
        turned true true r = refl
        turned true false r = refl
        turned false q r = refl

        go : (b : Bool) → has eq x seen ≡ b → (d : Bool) → eq z x ≡ d → has eq z (seen_in seen xs) ≡ (has eq z seen || has eq z xs) → has eq z (seen_in (x ∷ seen) xs) ≡ ((eq z x || has eq z seen) || has eq z xs)
            → has eq z (cond b (seen_in seen xs) (seen_in (x ∷ seen) xs)) ≡ (has eq z seen || (d || has eq z xs))
        go true h true e p q = let k = same_has z x seen e ∙ h in p ∙ ap (λ b. b || has eq z xs) k ∙ sym (ap (λ b. b || true) k)
        go true h false e p q = p
        go false h d e p q = q ∙ ap (λ b. (b || has eq z seen) || has eq z xs) e ∙ turned d (has eq z seen) (has eq z xs)

    -- those that are seen may be left out before
    firsts_left : (seen : List A) (out : A → Bool) → (xs : List A) → ((z : A) → out z ≡ true → has eq z seen ≡ true) → firsts eq seen xs ≡ firsts eq seen (filter (λ z. not (out z)) xs)
    firsts_left seen out [] h = refl
    firsts_left seen out (x ∷ xs) h = go (out x) refl (has eq x seen) refl (firsts_left seen out xs h) (firsts_left (x ∷ seen) out xs (λ z e. ap (λ b. eq z x || b) (h z e) ∙ always (eq z x)))
      where
        always : (b : Bool) → (b || true) ≡ true
        always true = refl
        always false = refl

        kept : List A
        kept = filter (λ z. not (out z)) xs

        go : (b : Bool) → out x ≡ b → (d : Bool) → has eq x seen ≡ d → firsts eq seen xs ≡ firsts eq seen (filter (λ z. not (out z)) xs) → firsts eq (x ∷ seen) xs ≡ firsts eq (x ∷ seen) (filter (λ z. not (out z)) xs)
            → cond d (firsts eq seen xs) (x ∷ firsts eq (x ∷ seen) xs) ≡ firsts eq seen (cond (not b) (x ∷ filter (λ z. not (out z)) xs) (filter (λ z. not (out z)) xs))
        go true e true g p q = p
        go true e false g p q = let k = sym g ∙ h x e in cc
        go false e true g p q = p ∙ sym (ap (λ b. cond b (firsts eq seen (filter (λ z. not (out z)) xs)) (x ∷ firsts eq (x ∷ seen) (filter (λ z. not (out z)) xs))) g)
        go false e false g p q = ap (λ l. x ∷ l) q ∙ sym (ap (λ b. cond b (firsts eq seen (filter (λ z. not (out z)) xs)) (x ∷ firsts eq (x ∷ seen) (filter (λ z. not (out z)) xs))) g)

    -- how often an element stands among those that aren't seen
    left_count : (z : A) (seen xs : List A) → count (eq z) (filter (λ r. not (has eq r seen)) xs) ≡ cond (has eq z seen) 0 (count (eq z) xs)
    left_count z seen xs =
        total-keep (λ r. bit (eq z r)) (λ r. not (has eq r seen)) xs
        ∙ total-ext _ _ xs (λ r. one r (eq z r) refl)
        ∙ pull (has eq z seen)
      where
        none : (b : Bool) → cond {A = ℕ} b 0 0 ≡ 0
        none true = refl
        none false = refl

        turn : (b : Bool) (n : ℕ) → cond (not b) n 0 ≡ cond b 0 n
        turn true n = refl
        turn false n = refl

        one : (r : A) (d : Bool) → eq z r ≡ d → cond (not (has eq r seen)) (bit d) 0 ≡ cond (has eq z seen) 0 (bit d)
        one r true e = turn (has eq r seen) 1 ∙ ap (λ b. cond b 0 1) (sym (same_has z r seen e))
        one r false e = none (not (has eq r seen)) ∙ sym (none (has eq z seen))

        pull : (b : Bool) → total (λ r. cond b 0 (bit (eq z r))) xs ≡ cond b 0 (count (eq z) xs)
        pull true = total-zero xs
        pull false = refl

    left_once : (z : A) (seen xs : List A) → count (eq z) (firsts eq seen xs) ≡ bit (nat_lt 0 (count (eq z) (filter (λ r. not (has eq r seen)) xs)))
    left_once z seen xs = firsts_count eq equal z seen xs ∙ go (has eq z seen) ∙ ap (λ m. bit (nat_lt 0 m)) (sym (left_count z seen xs))
      where
        go : (b : Bool) → cond b 0 (bit (nat_lt 0 (count (eq z) xs))) ≡ bit (nat_lt 0 (cond b 0 (count (eq z) xs)))
        go true = refl
        go false = refl

    left_all : (P : A → Type 0) (seen xs : List A) → AllOf P (filter (λ r. not (has eq r seen)) xs) → AllOf P (firsts eq seen xs)
    left_all P seen xs h = subst (λ l. AllOf P l) (sym (firsts_left seen (λ r. has eq r seen) xs (λ z e. e))) (firsts_all eq eq P seen (filter (λ r. not (has eq r seen)) xs) h)

-- rows with a mark behind
abbrev marked : Row → Bool
marked r = is_true (cell bare asked_cols (column 3) r)

abbrev out_row : Row → Row
out_row r = pick asked_cols (pair 0 0 ∷ pair 2 2 ∷ []) r

abbrev mark_eq : Row → Row → Bool
mark_eq q r = all_same bare (cells_at bare asked_cols node_cols q) (cells_at bare asked_cols node_cols r)

-- a row of an iteration and a node
abbrev Two : Row → Type 0
Two r = ((t : Cell) → out_row (r ++ t ∷ []) ≡ r) × ((t : Cell) → cells_at bare asked_cols asked_cols (r ++ t ∷ []) ≡ r ++ t ∷ []) × ((b : Bool) → marked (r ++ BoolItem b ∷ []) ≡ b)

twos : (a : List Row) → AllOf Two (node_rows a)
twos [] = tt
twos (r ∷ a) = (((λ t. refl), (λ t. refl), (λ b. refl)), twos a)

shown : (t : Cell) (rs : List Row) → AllOf Two rs → map out_row (with_cell t rs) ≡ rs
shown t [] h = refl
shown t (r ∷ rs) h = ap (λ q. q ∷ map out_row (with_cell t rs)) (h.0.0 t) ∙ ap (λ l. r ∷ l) (shown t rs h.1)

moved : (t : Cell) (rs : List Row) → AllOf Two rs → map (λ r. cells_at bare asked_cols asked_cols r) (with_cell t rs) ≡ with_cell t rs
moved t [] h = refl
moved t (r ∷ rs) h = ap (λ q. q ∷ map (λ r. cells_at bare asked_cols asked_cols r) (with_cell t rs)) (h.0.1 t) ∙ ap (λ l. (r ++ t ∷ []) ∷ l) (moved t rs h.1)

abbrev Marked : Bool → Row → Type 0
Marked b r = marked r ≡ b

all_marked : (b : Bool) (rs : List Row) → AllOf Two rs → AllOf (Marked b) (with_cell (BoolItem b) rs)
all_marked b [] h = tt
all_marked b (r ∷ rs) h = (h.0.2 b, all_marked b rs h.1)

none_asked : (rs : List Row) → AllOf (Marked false) rs → filter marked rs ≡ []
none_asked [] h = refl
none_asked (r ∷ rs) h = ap (λ b. cond b (r ∷ filter marked rs) (filter marked rs)) h.0 ∙ none_asked rs h.1

all_asked : (rs : List Row) → AllOf (Marked true) rs → filter marked rs ≡ rs
all_asked [] h = refl
all_asked (r ∷ rs) h = ap (λ b. cond b (r ∷ filter marked rs) (filter marked rs)) h.0 ∙ ap (λ l. r ∷ l) (all_asked rs h.1)

has_out : (q : Row) (rs : List Row) → has mark_eq q rs ≡ has row_eq (out_row q) (map out_row rs)
has_out q [] = refl
has_out q (r ∷ rs) = ap (λ b. mark_eq q r || b) (has_out q rs)

firsts_out : (seen rs : List Row) → map out_row (firsts mark_eq seen rs) ≡ firsts row_eq (map out_row seen) (map out_row rs)
firsts_out seen [] = refl
firsts_out seen (r ∷ rs) =
    let p = firsts_out seen rs in
    let q = firsts_out (r ∷ seen) rs in
    elim (has mark_eq r seen) as (λ b. map out_row (cond b (firsts mark_eq seen rs) (r ∷ firsts mark_eq (r ∷ seen) rs)) ≡ cond b (firsts row_eq (map out_row seen) (map out_row rs)) (out_row r ∷ firsts row_eq (map out_row (r ∷ seen)) (map out_row rs))) [
      | true ↦ p
      | false ↦ ap (λ l. out_row r ∷ l) q
    ]
    ∙ ap (λ b. cond b (firsts row_eq (map out_row seen) (map out_row rs)) (out_row r ∷ firsts row_eq (map out_row (r ∷ seen)) (map out_row rs))) (has_out r seen)

seen_out : (seen rs : List Row) → map out_row (seen_in mark_eq seen rs) ≡ seen_in row_eq (map out_row seen) (map out_row rs)
seen_out seen [] = refl
seen_out seen (r ∷ rs) =
    let p = seen_out seen rs in
    let q = seen_out (r ∷ seen) rs in
    elim (has mark_eq r seen) as (λ b. map out_row (cond b (seen_in mark_eq seen rs) (seen_in mark_eq (r ∷ seen) rs)) ≡ cond b (seen_in row_eq (map out_row seen) (map out_row rs)) (seen_in row_eq (map out_row (r ∷ seen)) (map out_row rs))) [
      | true ↦ p
      | false ↦ q
    ]
    ∙ ap (λ b. cond b (seen_in row_eq (map out_row seen) (map out_row rs)) (seen_in row_eq (map out_row (r ∷ seen)) (map out_row rs))) (has_out r seen)

-- what the operators keep
apart_is : (as' bs : List Row) → AllOf Two as' → AllOf Two bs → apart_rows as' bs ≡ firsts row_eq (seen_in row_eq [] bs) as'
apart_is as' bs ha hb =
    let others = with_cell (BoolItem false) bs in
    let own = with_cell (BoolItem true) as' in
    ap (λ l. map out_row (filter marked (firsts mark_eq [] (others ++ l)))) (moved (BoolItem true) as' ha)
    ∙ ap (λ l. map out_row (filter marked l)) (firsts_then mark_eq [] others own)
    ∙ ap (map out_row) (filter_append marked (firsts mark_eq [] others) (firsts mark_eq (seen_in mark_eq [] others) own)
    ∙ ap (λ l. l ++ filter marked (firsts mark_eq (seen_in mark_eq [] others) own)) (none_asked (firsts mark_eq [] others) (firsts_all mark_eq mark_eq (Marked false) [] others (all_marked false bs hb)))
    ∙ all_asked (firsts mark_eq (seen_in mark_eq [] others) own) (firsts_all mark_eq mark_eq (Marked true) (seen_in mark_eq [] others) own (all_marked true as' ha)))
    ∙ firsts_out (seen_in mark_eq [] others) own
    ∙ ap (λ l. firsts row_eq l (map out_row own)) (seen_out [] others)
    ∙ ap (λ l. firsts row_eq (seen_in row_eq [] l) (map out_row own)) (shown (BoolItem false) bs hb)
    ∙ ap (λ l. firsts row_eq (seen_in row_eq [] bs) l) (shown (BoolItem true) as' ha)

apart_twos : (as' bs : List Row) → AllOf Two as' → AllOf Two bs → AllOf Two (apart_rows as' bs)
apart_twos as' bs ha hb = subst (λ l. AllOf Two l) (sym (apart_is as' bs ha hb)) (firsts_all row_eq row_eq Two (seen_in row_eq [] bs) as' ha)

-- whether an iteration's node is among rows
one_eq : (n k : ℕ) (m q : Node Text) → row_eq (node_row n m) (node_row k q) ≡ (nat_eq n k && node_eq m q)
one_eq n k m q = ap (λ b. b && (node_eq m q && true)) (num_same n k) ∙ ap (λ b. nat_eq n k && b) (and-true (node_eq m q))

has_at : (ns : Iter → List (Node Text)) (its : List Iter) (rs : List Row) → Same rs (flat_map (λ i. map (node_row i.number) (ns i)) its) → (i : Iter) → Picked (λ j. j.number) its i → (m : Node Text) → has row_eq (node_row i.number m) rs ≡ has node_eq m (ns i)
has_at ns its rs s i p m =
    let z = node_row i.number m in
    has_bit row_eq row_eq z rs
    ∙ ap (nat_lt 0)
    (s.at (λ r. bit (row_eq z r)) ∙ total-flat (λ r. bit (row_eq z r)) (λ j. map (node_row j.number) (ns j)) its
    ∙ total-ext _ _ its (λ j. total-map (λ r. bit (row_eq z r)) (node_row j.number) (ns j) ∙ total-ext _ _ (ns j) (λ q. ap bit (one_eq i.number j.number m q)) ∙ pull (nat_eq i.number j.number) (ns j))
    ∙ p (λ j. count (node_eq m) (ns j)))
    ∙ sym (has_bit node_eq node_eq m (ns i))
  where
    pull : (b : Bool) (ms : List (Node Text)) → total (λ q. bit (b && node_eq m q)) ms ≡ cond b (count (node_eq m) ms) 0
    pull true ms = refl
    pull false ms = total-zero ms

own_has : (ms : List (Node Text)) → AllOf (λ m. has node_eq m ms ≡ true) ms
own_has [] = tt
own_has (m ∷ ms) = (ap (λ b. b || has node_eq m ms) (nodes_equal.refl m), all_mono _ _ (λ q (e : has node_eq q ms ≡ true). ap (λ b. node_eq q m || b) e ∙ always (node_eq q m)) ms (own_has ms))
  where
    always : (b : Bool) → (b || true) ≡ true
    always true = refl
    always false = refl

keep_nodes : (n : ℕ) (p : Row → Bool) (q : Node Text → Bool) (ms : List (Node Text)) → AllOf (λ m. p (node_row n m) ≡ q m) ms → filter p (map (node_row n) ms) ≡ map (node_row n) (filter q ms)
keep_nodes n p q [] h = refl
keep_nodes n p q (m ∷ ms) h =
    let r = keep_nodes n p q ms h.1 in
    ap (λ b. cond b (node_row n m ∷ filter p (map (node_row n) ms)) (filter p (map (node_row n) ms))) h.0
    ∙ elim (q m) as (λ b. cond b (node_row n m ∷ filter p (map (node_row n) ms)) (filter p (map (node_row n) ms)) ≡ map (node_row n) (cond b (m ∷ filter q ms) (filter q ms))) [ true ↦ ap (λ l. node_row n m ∷ l) r | false ↦ r ]

-- nodes that aren't seen, each once, by document order
module _ (tree : TreeId → Option (Tree Text)) (ms : Iter → List (Node Text)) (wanted : Iter → Node Text → Bool) (its : List Iter) (as' seen : List Row) (asc : Ascends (λ i. i.number) 0 its)
    (sa : Same as' (flat_map (λ i. map (node_row i.number) (ms i)) its)) (left : AllOf (λ i. AllOf (λ m. not (has row_eq (node_row i.number m) seen) ≡ wanted i m) (ms i)) its)
    (rooted : AllOf (λ i. AllOf (λ (m : Node Text). Rooted tree (NodeItem m)) (ms i)) its) where
  abbrev chosen : Iter → List (Node Text)
  chosen i = filter (wanted i) (ms i)

  abbrev all : List Row
  all = filter (λ r. not (has row_eq r seen)) as'

  all_stand : Same all (flat_map (λ i. map (node_row i.number) (chosen i)) its)
  all_stand =
      same-trans (same-keep (λ r. not (has row_eq r seen)) sa)
      (same-of (keep_flat (λ r. not (has row_eq r seen)) (λ i. map (node_row i.number) (ms i)) its
      ∙ flat-all _ _ its (all_mono _ _ (λ i (h : AllOf (λ m. not (has row_eq (node_row i.number m) seen) ≡ wanted i m) (ms i)). keep_nodes i.number (λ r. not (has row_eq r seen)) (wanted i) (ms i) h) its left)))

  keep_rooted : (q : Node Text → Bool) (ns : List (Node Text)) → AllOf (λ (m : Node Text). Rooted tree (NodeItem m)) ns → AllOf (λ (m : Node Text). Rooted tree (NodeItem m)) (filter q ns)
  keep_rooted q [] h = tt
  keep_rooted q (n ∷ ns) h =
      let r = keep_rooted q ns h.1 in
      elim (q n) as (λ b. AllOf (λ (m : Node Text). Rooted tree (NodeItem m)) (cond b (n ∷ filter q ns) (filter q ns))) [ true ↦ (h.0, r) | false ↦ r ]

  left_stand : Same (ordered_rows (firsts row_eq seen as')) (value_rows (λ i. items_at (in_document_order (chosen i))) its)
  left_stand =
      order_stands (λ i. in_document_order (chosen i)) its _ asc (λ i. once_sorted node_less node_eq nodes_order (chosen i))
      (found_stands row_eq rows_equal node_row (canon tree) (canon_same tree) (λ r n. cell_eq (number_in r) (num n)) (λ r m n. head_one (number_in r) m n) (λ r m. cell_eq (node_in r) (NodeItem m)) (λ r ns. tail_count (node_in r) ns)
      (λ r n m. ap (λ b. cell_eq (number_in r) (num n) && b) (and-true (cell_eq (node_in r) (NodeItem m)))) chosen its asc all (firsts row_eq seen as') all_stand
      (λ r. left_once row_eq rows_equal r seen as') (λ P h. left_all row_eq rows_equal P seen as' h)
      (all_mono _ _ (λ i (k : AllOf (λ (m : Node Text). Rooted tree (NodeItem m)) (ms i)). known_rows tree (chosen i) (keep_rooted (wanted i) (ms i) k)) its rooted))

module _ (tree : TreeId → Option (Tree Text)) (its : List Iter) (h k : Iter → List Cell) (a b : List Row) (asc : Ascends (λ i. i.number) 0 its) (sa : Same a (value_rows h its)) (sb : Same b (value_rows k its))
    (ra : AllOf (λ i. AllOf (Rooted tree) (h i)) its) (ha : AllOf (λ i. all_nodes (h i) ≡ true) its) (hb : AllOf (λ i. all_nodes (k i) ≡ true) its) where
  abbrev ms : Iter → List (Node Text)
  ms i = nodes_in (h i)

  abbrev ns : Iter → List (Node Text)
  ns i = nodes_in (k i)

  left_rows : Same (node_rows a) (flat_map (λ i. map (node_row i.number) (ms i)) its)
  left_rows = pairs_stand h its a sa ha

  right_rows : Same (node_rows b) (flat_map (λ i. map (node_row i.number) (ns i)) its)
  right_rows = pairs_stand k its b sb hb

  rooted : AllOf (λ i. AllOf (λ (m : Node Text). Rooted tree (NodeItem m)) (ms i)) its
  rooted = all_mono _ _ (λ i (q : AllOf (Rooted tree) (h i)). nodes_rooted tree (h i) q) its ra

  others : List Row
  others = seen_in row_eq [] (node_rows b)

  in_others : (z : Row) → has row_eq z (seen_in row_eq [] (node_rows b)) ≡ has row_eq z (node_rows b)
  in_others z = seen_has row_eq rows_equal z [] (node_rows b)

  except_stand : Same (except_rows a b) (value_rows (λ i. items_at (in_document_order (those_not_in (ms i) (ns i)))) its)
  except_stand =
      same-trans (same-of (ap ordered_rows (apart_is (node_rows a) (node_rows b) (twos a) (twos b))))
      (left_stand tree ms (λ i m. not (has node_eq m (ns i))) its (node_rows a) (seen_in row_eq [] (node_rows b)) asc left_rows
      (all_mono _ _ (λ i (p : Picked (λ (j : Iter). j.number) its i). all_each _ (λ m. ap not (in_others (node_row i.number m) ∙ has_at ns its (node_rows b) right_rows i p m)) (ms i)) its (picks (λ i. i.number) 0 its asc))
      rooted)

  abbrev left_over : List Row
  left_over = apart_rows (node_rows a) (node_rows b)

  in_left : (z : Row) → has row_eq z left_over ≡ (not (has row_eq z (node_rows b)) && has row_eq z (node_rows a))
  in_left z =
      ap (has row_eq z) (apart_is (node_rows a) (node_rows b) (twos a) (twos b))
      ∙ has_bit row_eq row_eq z (firsts row_eq (seen_in row_eq [] (node_rows b)) (node_rows a))
      ∙ ap (nat_lt 0) (firsts_count row_eq rows_equal z (seen_in row_eq [] (node_rows b)) (node_rows a))
      ∙ ap (λ d. nat_lt 0 (cond d 0 (bit (nat_lt 0 (count (row_eq z) (node_rows a)))))) (in_others z)
      ∙ ap (λ d. nat_lt 0 (cond (has row_eq z (node_rows b)) 0 (bit d))) (sym (has_bit row_eq row_eq z (node_rows a)))
      ∙ go (has row_eq z (node_rows b)) (has row_eq z (node_rows a))
    where
      go : (p q : Bool) → nat_lt 0 (cond p 0 (bit q)) ≡ (not p && q)
      go true q = refl
      go false true = refl
      go false false = refl

  intersect_stand : Same (intersect_rows a b) (value_rows (λ i. items_at (in_document_order (those_in (ms i) (ns i)))) its)
  intersect_stand =
      same-trans (same-of (ap ordered_rows (apart_is (node_rows a) left_over (twos a) (apart_twos (node_rows a) (node_rows b) (twos a) (twos b)))))
      (left_stand tree ms (λ i m. has node_eq m (ns i)) its (node_rows a) (seen_in row_eq [] left_over) asc left_rows
      (all_mono _ _ (λ i (p : Picked (λ (j : Iter). j.number) its i).
      all_mono _ _ (λ m (own : has node_eq m (ms i) ≡ true).
      ap not (seen_has row_eq rows_equal (node_row i.number m) [] left_over ∙ in_left (node_row i.number m)
      ∙ ap (λ d. not d && has row_eq (node_row i.number m) (node_rows a)) (has_at ns its (node_rows b) right_rows i p m)
      ∙ ap (λ d. not (has node_eq m (ns i)) && d) (has_at ms its (node_rows a) left_rows i p m ∙ own))
      ∙ both (has node_eq m (ns i))) (ms i) (own_has (ms i))) its (picks (λ i. i.number) 0 its asc))
      rooted)
    where
      both : (d : Bool) → not (not d && true) ≡ d
      both true = refl
      both false = refl

pub except_call : (docs : Docs) (s s1 s2 : State) (site : Site) (looped a b t : OpId) (cs : List Check)
    → Makes s s1 t three (except_rows (at s a).rows (at s b).rows) (length (at s looped).rows + length (at s a).rows + length (at s b).rows)
    → Stages site (length (at s looped).rows + length (at s a).rows + length (at s b).rows) s1 s2 (at s looped).rows (union_marks (at s looped).rows (at s a).rows (at s b).rows) cs
    → CallLifts docs s s2 site (Apply f.Except) looped (a ∷ b ∷ []) t
except_call docs s s1 s2 site looped a b t cs m st =
    set_call docs s s1 s2 site f.Except those_not_in looped a b t cs _ m st refl (λ h k i. refl)
    (λ tree its h k asc sa sb ra rb ha hb. except_stand tree its h k _ _ asc sa sb ra ha hb)

pub intersect_call : (docs : Docs) (s s1 s2 : State) (site : Site) (looped a b t : OpId) (cs : List Check)
    → Makes s s1 t three (intersect_rows (at s a).rows (at s b).rows) (length (at s looped).rows + length (at s a).rows + length (at s b).rows)
    → Stages site (length (at s looped).rows + length (at s a).rows + length (at s b).rows) s1 s2 (at s looped).rows (union_marks (at s looped).rows (at s a).rows (at s b).rows) cs
    → CallLifts docs s s2 site (Apply f.Intersect) looped (a ∷ b ∷ []) t
intersect_call docs s s1 s2 site looped a b t cs m st =
    set_call docs s s1 s2 site f.Intersect those_in looped a b t cs _ m st refl (λ h k i. refl)
    (λ tree its h k asc sa sb ra rb ha hb. intersect_stand tree its h k _ _ asc sa sb ra ha hb)
