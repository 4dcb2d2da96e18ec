-- Nodes and their cells have the same equality and the same order, so that nodes in document order are the same over cells.
use Rattle.std.proofs.Common.{◌≡◌, ℕ, Bool, true, false, cond, not, ◌&&◌, ◌||◌, List, [], ◌∷◌, ◌++◌, map, refl, sym, ap, ◌∙◌, subst, ⊎_elim, nat_eq, nat_lt, Option, Some, None}
use Rattle.std.specs.List.{filter, flat_map}
use Rattle.std.proofs.lemmas.Bool.{and_parts, lt-ltb, eqb-true}
use Rattle.xq_base.specs.Texts.{Text, text_eq}
use Rattle.xq_base.specs.declared.axis.Axis.{Axis}
use Rattle.doc_table.specs.Paths.{Path, is_same, is_less, path_eq, path_less, label_at, is_some_label, has_node}
use Rattle.doc_table.specs.Tree.{Label, Tree}
use Rattle.doc_table.specs.Axes.{Test, on_axis, selects_label, steps_to}
use Rattle.doc_table.specs.Identity.{TreeId, DocTree, BuiltTree, Node, tree_id_eq, tree_id_less, node_eq, node_less}
use Rattle.doc_table.specs.Items.{Item, IntItem, TextItem, UntypedItem, BoolItem, NodeItem}
use Rattle.doc_table.specs.Orders.{has, put, put_once, once}
use Rattle.doc_table.specs.Nodes.{node_in_tree, node_paths}
use Rattle.doc_table.specs.Values.{Items, is_node, all_nodes, no_node}
use Rattle.doc_table.specs.Steps.{found, nodes_in, items_at, in_document_order}
use Rattle.doc_table.specs.NodeRules.{Docs, those_in, those_not_in}
use Rattle.doc_table.proofs.StrictOrders.{lists_order, is_same-self}
use Rattle.lift_laws.specs.Sums.{AllOf}
use Rattle.lift_laws.specs.Iterations.{Iter}
use Rattle.lift_laws.specs.Worlds.{World, number_in, id_in, cell_of, Among, Comes, Known, KnownTree, InStep, Faithful}
use Rattle.lift_laws.proofs.Picks.{all_mono, all-append, all-map, map-append}
use Rattle.lift_laws.proofs.ChoiceCase.{keep_hold}
use Rattle.lift_laws.proofs.Known.{Behind, behind, number_found}

-- the numbers of two iterations are ordered as their vectors
abbrev Kept : Iter → Iter → Type 0
Kept i j = (is_same (i.number ∷ []) (j.number ∷ []) ≡ is_same i.vector j.vector) × (is_less (i.number ∷ []) (j.number ∷ []) ≡ is_less i.vector j.vector)

not_less_self : (v : List ℕ) → is_less v v ≡ false
not_less_self v = go (is_less v v) refl
  where
    go : (b : Bool) → is_less v v ≡ b → b ≡ false
    go true e = sym e ∙ lists_order.less_turn v v e
    go false e = refl

kept_self : (i : Iter) → Kept i i
kept_self i = (is_same-self (i.number ∷ []) ∙ sym (is_same-self i.vector), not_less_self (i.number ∷ []) ∙ sym (not_less_self i.vector))

kept_behind : (i j : Iter) → Behind i j → Kept i j × Kept j i
kept_behind i j b =
    let v = lists_order.less_apart i.vector j.vector b.1 in
    let n : is_less (i.number ∷ []) (j.number ∷ []) ≡ true = ap (λ x. x || (nat_eq i.number j.number && false)) (lt-ltb i.number j.number b.0) in
    let m = lists_order.less_apart (i.number ∷ []) (j.number ∷ []) n in (
      (m ∙ sym v, n ∙ sym b.1),
      (lists_order.eq_turn (j.number ∷ []) (i.number ∷ []) ∙ m ∙ sym v ∙ lists_order.eq_turn i.vector j.vector, lists_order.less_turn (i.number ∷ []) (j.number ∷ []) n ∙ sym (lists_order.less_turn i.vector j.vector b.1)),
    )

kept : (its : List Iter) → InStep its → (i j : Iter) → Among i its → Among j its → Kept i j
kept [] s i j h k = absurd h
kept (x ∷ xs) s i j h k =
    ⊎_elim
    (λ e. ⊎_elim (λ d. subst (λ z. Kept z j) (sym e) (subst (λ z. Kept x z) (sym d) (kept_self x))) (λ b. subst (λ z. Kept z j) (sym e) (kept_behind x j (behind x xs s.0 j b)).0) k)
    (λ a. ⊎_elim (λ d. subst (λ z. Kept i z) (sym d) (kept_behind x i (behind x xs s.0 i a)).1) (λ b. kept xs s.1 i j a b) k) h

-- a map that keeps order and equality
module _ {A B : Type 0} (P : A → Type 0) (f : A → B) (less eq : A → A → Bool) (less' eq' : B → B → Bool) (same : (x y : A) → P x → P y → (eq' (f x) (f y) ≡ eq x y) × (less' (f x) (f y) ≡ less x y)) where
  pub has_map : (x : A) → P x → (ys : List A) → AllOf P ys → has eq' (f x) (map f ys) ≡ has eq x ys
  has_map x p [] a = refl
  has_map x p (y ∷ ys) a = ap (λ b. b || has eq' (f x) (map f ys)) (same x y p a.0).0 ∙ ap (λ b. eq x y || b) (has_map x p ys a.1)

  put_map : (x : A) → P x → (ys : List A) → AllOf P ys → put less' (f x) (map f ys) ≡ map f (put less x ys)
  put_map x p [] a = refl
  put_map x p (y ∷ ys) a =
      ap (λ b. cond b (f y ∷ put less' (f x) (map f ys)) (f x ∷ f y ∷ map f ys)) (same y x a.0 p).1
      ∙ ap (λ l. cond (less y x) (f y ∷ l) (f x ∷ f y ∷ map f ys)) (put_map x p ys a.1)
      ∙ elim (less y x) as (λ b. cond b (f y ∷ map f (put less x ys)) (f x ∷ f y ∷ map f ys) ≡ map f (cond b (y ∷ put less x ys) (x ∷ y ∷ ys))) [ true ↦ refl | false ↦ refl ]

  put_all : (x : A) → P x → (ys : List A) → AllOf P ys → AllOf P (put less x ys)
  put_all x p [] a = (p, tt)
  put_all x p (y ∷ ys) a =
      let r = put_all x p ys a.1 in
      elim (less y x) as (λ b. AllOf P (cond b (y ∷ put less x ys) (x ∷ y ∷ ys))) [ true ↦ (a.0, r) | false ↦ (p, a) ]

  pub once_all : (xs : List A) → AllOf P xs → AllOf P (once less eq xs)
  once_all [] a = tt
  once_all (x ∷ xs) a =
      let r = once_all xs a.1 in
      let q = put_all x a.0 (once less eq xs) r in
      elim (has eq x (once less eq xs)) as (λ b. AllOf P (cond b (once less eq xs) (put less x (once less eq xs)))) [ true ↦ r | false ↦ q ]

  pub once_map : (xs : List A) → AllOf P xs → once less' eq' (map f xs) ≡ map f (once less eq xs)
  once_map [] a = refl
  once_map (x ∷ xs) a =
      let o = once less eq xs in
      let q = once_all xs a.1 in
      ap (λ l. put_once less' eq' (f x) l) (once_map xs a.1)
      ∙ ap (λ b. cond b (map f o) (put less' (f x) (map f o))) (has_map x a.0 o q)
      ∙ ap (λ l. cond (has eq x o) (map f o) l) (put_map x a.0 o q)
      ∙ elim (has eq x o) as (λ b. cond b (map f o) (map f (put less x o)) ≡ map f (cond b o (put less x o))) [ true ↦ refl | false ↦ refl ]

filter_map : {A B : Type 0} (f : A → B) (p : A → Bool) (q : B → Bool) (xs : List A) → AllOf (λ x. q (f x) ≡ p x) xs → filter q (map f xs) ≡ map f (filter p xs)
filter_map f p q [] a = refl
filter_map f p q (x ∷ xs) a =
    ap (λ b. cond b (f x ∷ filter q (map f xs)) (filter q (map f xs))) a.0
    ∙ ap (λ l. cond (p x) (f x ∷ l) l) (filter_map f p q xs a.1)
    ∙ elim (p x) as (λ b. cond b (f x ∷ map f (filter p xs)) (map f (filter p xs)) ≡ map f (cond b (x ∷ filter p xs) (filter p xs))) [ true ↦ refl | false ↦ refl ]

-- a node as a cell
abbrev pub cell_node : World → Node Text → Node Text
cell_node W n = record { id = id_in W n.id; tree = n.tree; path = n.path }

pub nodes_in_cells : (W : World) (vs : Items) → nodes_in (map (cell_of W) vs) ≡ map (cell_node W) (nodes_in vs)
nodes_in_cells W [] = refl
nodes_in_cells W (IntItem z ∷ vs) = nodes_in_cells W vs
nodes_in_cells W (TextItem t ∷ vs) = nodes_in_cells W vs
nodes_in_cells W (UntypedItem t ∷ vs) = nodes_in_cells W vs
nodes_in_cells W (BoolItem b ∷ vs) = nodes_in_cells W vs
nodes_in_cells W (NodeItem n ∷ vs) = ap (λ l. cell_node W n ∷ l) (nodes_in_cells W vs)

is_node_cell : (W : World) (v : Item Text) → is_node (cell_of W v) ≡ is_node v
is_node_cell W (IntItem z) = refl
is_node_cell W (TextItem t) = refl
is_node_cell W (UntypedItem t) = refl
is_node_cell W (BoolItem b) = refl
is_node_cell W (NodeItem n) = refl

pub all_nodes_cells : (W : World) (vs : Items) → all_nodes (map (cell_of W) vs) ≡ all_nodes vs
all_nodes_cells W [] = refl
all_nodes_cells W (v ∷ vs) = ap (λ b. b && all_nodes (map (cell_of W) vs)) (is_node_cell W v) ∙ ap (λ b. is_node v && b) (all_nodes_cells W vs)

pub no_node_cells : (W : World) (vs : Items) → no_node (map (cell_of W) vs) ≡ no_node vs
no_node_cells W [] = refl
no_node_cells W (v ∷ vs) = ap (λ b. not b && no_node (map (cell_of W) vs)) (is_node_cell W v) ∙ ap (λ b. not (is_node v) && b) (no_node_cells W vs)

items_at_cells : (W : World) (ns : List (Node Text)) → items_at (map (cell_node W) ns) ≡ map (cell_of W) (items_at ns)
items_at_cells W [] = refl
items_at_cells W (n ∷ ns) = ap (λ l. NodeItem (cell_node W n) ∷ l) (items_at_cells W ns)

-- the nodes that a step finds from a node stand in its tree
found_cells : (W : World) (axis : Axis) (test : Test Text) (n : Node Text) → found axis test (cell_node W n) ≡ map (cell_node W) (found axis test n)
found_cells W axis test n = in_tree _
  where
    in_tree : (ps : List Path) → map (node_in_tree (cell_node W n)) ps ≡ map (cell_node W) (map (node_in_tree n) ps)
    in_tree [] = refl
    in_tree (p ∷ ps) = ap (λ l. cell_node W (node_in_tree n p) ∷ l) (in_tree ps)

pub all_found_cells : (W : World) (axis : Axis) (test : Test Text) (ns : List (Node Text)) → flat_map (found axis test) (map (cell_node W) ns) ≡ map (cell_node W) (flat_map (found axis test) ns)
all_found_cells W axis test [] = refl
all_found_cells W axis test (n ∷ ns) =
    ap (λ l. l ++ flat_map (found axis test) (map (cell_node W) ns)) (found_cells W axis test n)
    ∙ ap (λ l. map (cell_node W) (found axis test n) ++ l) (all_found_cells W axis test ns)
    ∙ sym (map-append (cell_node W) (found axis test n) (flat_map (found axis test) ns))

-- a step goes to nodes that stand in the tree
all_passed : {A : Type 0} (p : A → Bool) (xs : List A) → AllOf (λ x. p x ≡ true) (filter p xs)
all_passed p [] = tt
all_passed p (x ∷ xs) = go (p x) refl (all_passed p xs)
  where
    go : (b : Bool) → p x ≡ b → AllOf (λ y. p y ≡ true) (filter p xs) → AllOf (λ y. p y ≡ true) (cond b (x ∷ filter p xs) (filter p xs))
    go true e r = (e, r)
    go false e r = r

selected : (axis : Axis) (test : Test Text) (n : Node Text) (p : Path) → steps_to text_eq axis test n.tree n.path p ≡ true → has_node n.tree p ≡ true
selected axis test n p e = go (label_at n.tree p) (and_parts (on_axis axis n.path p) (selects_label text_eq axis test (label_at n.tree p)) e).1
  where
    go : (o : Option (Label Text)) → selects_label text_eq axis test o ≡ true → is_some_label o ≡ true
    go None q = q
    go (Some l) q = refl

module _ (docs : Docs) (W : World) where
  abbrev pub KnownNode : Node Text → Type 0
  KnownNode n = KnownTree docs W n.id n.tree × (has_node n.tree n.path ≡ true)

  pub known_in : (vs : Items) → AllOf (Known docs W) vs → AllOf KnownNode (nodes_in vs)
  known_in [] a = tt
  known_in (IntItem z ∷ vs) a = known_in vs a.1
  known_in (TextItem t ∷ vs) a = known_in vs a.1
  known_in (UntypedItem t ∷ vs) a = known_in vs a.1
  known_in (BoolItem b ∷ vs) a = known_in vs a.1
  known_in (NodeItem n ∷ vs) a = (a.0, known_in vs a.1)

  pub known_at : (ns : List (Node Text)) → AllOf KnownNode ns → AllOf (Known docs W) (items_at ns)
  known_at [] a = tt
  known_at (n ∷ ns) a = (a.0, known_at ns a.1)

  pub known_found : (axis : Axis) (test : Test Text) (ns : List (Node Text)) → AllOf KnownNode ns → AllOf KnownNode (flat_map (found axis test) ns)
  known_found axis test [] a = tt
  known_found axis test (n ∷ ns) a = all-append KnownNode (found axis test n) (flat_map (found axis test) ns) (all-map KnownNode (node_in_tree n) (filter (steps_to text_eq axis test n.tree n.path) (node_paths n.tree)) (all_mono _ _ (λ p (e : steps_to text_eq axis test n.tree n.path p ≡ true). let k : KnownNode (node_in_tree n p) = (a.0.0, selected axis test n p e) in k) (filter (steps_to text_eq axis test n.tree n.path) (node_paths n.tree)) (all_passed (steps_to text_eq axis test n.tree n.path) (node_paths n.tree)))) (known_found axis test ns a.1)

  pub union_cells : (ms ns : List (Node Text)) → AllOf KnownNode ms → AllOf KnownNode ns → ((map (cell_node W) ms ++ map (cell_node W) ns) ≡ map (cell_node W) (ms ++ ns)) × AllOf KnownNode (ms ++ ns)
  union_cells ms ns a b = (sym (map-append (cell_node W) ms ns), all-append KnownNode ms ns a b)

  module _ (fw : Faithful W) where
    built_kept : (s r : ℕ) → s ≡ r → (v u : List ℕ) (t t' : Tree Text) → Comes docs W s v t → Comes docs W r u t'
        → (is_same (number_in (W s).its v ∷ []) (number_in (W r).its u ∷ []) ≡ is_same v u) × (is_less (number_in (W s).its v ∷ []) (number_in (W r).its u ∷ []) ≡ is_less v u)
    built_kept s r q v u t t' k k' =
        subst (λ z. Comes docs W z u t' → (is_same (number_in (W s).its v ∷ []) (number_in (W z).its u ∷ []) ≡ is_same v u) × (is_less (number_in (W s).its v ∷ []) (number_in (W z).its u ∷ []) ≡ is_less v u)) q one_site k'
      where
        one_site : Comes docs W s u t' → (is_same (number_in (W s).its v ∷ []) (number_in (W s).its u ∷ []) ≡ is_same v u) × (is_less (number_in (W s).its v ∷ []) (number_in (W s).its u ∷ []) ≡ is_less v u)
        one_site l =
            let its = (W s).its in
            let n = ap (number_in its) (sym k.vector_is) ∙ number_found its (fw s).0 k.from k.among in
            let m = ap (number_in its) (sym l.vector_is) ∙ number_found its (fw s).0 l.from l.among in
            let h = kept its (fw s).0 k.from l.from k.among l.among in (
              ap (λ x. is_same (x ∷ []) (number_in its u ∷ [])) n ∙ ap (λ x. is_same (k.from.number ∷ []) (x ∷ [])) m ∙ h.0 ∙ ap (λ x. is_same x l.from.vector) k.vector_is ∙ ap (λ x. is_same v x) l.vector_is,
              ap (λ x. is_less (x ∷ []) (number_in its u ∷ [])) n ∙ ap (λ x. is_less (k.from.number ∷ []) (x ∷ [])) m ∙ h.1 ∙ ap (λ x. is_less x l.from.vector) k.vector_is ∙ ap (λ x. is_less v x) l.vector_is,
            )

    ids_kept : (i j : TreeId) (t t' : Tree Text) → KnownTree docs W i t → KnownTree docs W j t' → (tree_id_eq (id_in W i) (id_in W j) ≡ tree_id_eq i j) × (tree_id_less (id_in W i) (id_in W j) ≡ tree_id_less i j)
    ids_kept (DocTree m) (DocTree n) t t' k k' = (refl, refl)
    ids_kept (DocTree m) (BuiltTree r u) t t' k k' = (refl, refl)
    ids_kept (BuiltTree s v) (DocTree n) t t' k k' = (refl, refl)
    ids_kept (BuiltTree s v) (BuiltTree r u) t t' k k' = go (number_in (W s).its v ∷ []) (number_in (W r).its u ∷ []) (nat_eq s r) refl (λ e. built_kept s r (eqb-true s r e) v u t t' k k')
      where
        go : (a b : List ℕ) (d : Bool) → nat_eq s r ≡ d → (nat_eq s r ≡ true → (is_same a b ≡ is_same v u) × (is_less a b ≡ is_less v u))
            → ((nat_eq s r && is_same a b) ≡ (nat_eq s r && is_same v u)) × ((nat_lt s r || (nat_eq s r && is_less a b)) ≡ (nat_lt s r || (nat_eq s r && is_less v u)))
        go a b true e h = let q = h e in (ap (λ x. nat_eq s r && x) q.0, ap (λ x. nat_lt s r || (nat_eq s r && x)) q.1)
        go a b false e h = (ap (λ x. x && is_same a b) e ∙ sym (ap (λ x. x && is_same v u) e), ap (λ x. nat_lt s r || (x && is_less a b)) e ∙ sym (ap (λ x. nat_lt s r || (x && is_less v u)) e))

    pub nodes_kept : (m n : Node Text) → KnownNode m → KnownNode n → (node_eq (cell_node W m) (cell_node W n) ≡ node_eq m n) × (node_less (cell_node W m) (cell_node W n) ≡ node_less m n)
    nodes_kept m n k l =
        let h = ids_kept m.id n.id m.tree n.tree k.0 l.0 in (
          ap (λ b. b && path_eq m.path n.path) h.0,
          ap (λ b. b || (tree_id_eq (id_in W m.id) (id_in W n.id) && path_less m.path n.path)) h.1 ∙ ap (λ b. tree_id_less m.id n.id || (b && path_less m.path n.path)) h.0,
        )

    pub ordered_cells : (ns : List (Node Text)) → AllOf KnownNode ns → in_document_order (map (cell_node W) ns) ≡ map (cell_node W) (in_document_order ns)
    ordered_cells ns a = once_map KnownNode (cell_node W) node_less node_eq node_less node_eq nodes_kept ns a

    pub ordered_known : (ns : List (Node Text)) → AllOf KnownNode ns → AllOf KnownNode (in_document_order ns)
    ordered_known ns a = once_all KnownNode (cell_node W) node_less node_eq node_less node_eq nodes_kept ns a

    has_cells : (m : Node Text) → KnownNode m → (ns : List (Node Text)) → AllOf KnownNode ns → has node_eq (cell_node W m) (map (cell_node W) ns) ≡ has node_eq m ns
    has_cells m k ns a = has_map KnownNode (cell_node W) node_less node_eq node_less node_eq nodes_kept m k ns a

    pub in_cells : (ms ns : List (Node Text)) → AllOf KnownNode ms → AllOf KnownNode ns → (those_in (map (cell_node W) ms) (map (cell_node W) ns) ≡ map (cell_node W) (those_in ms ns)) × AllOf KnownNode (those_in ms ns)
    in_cells ms ns a b = (
      filter_map (cell_node W) (λ m. has node_eq m ns) (λ m. has node_eq m (map (cell_node W) ns)) ms (all_mono KnownNode (λ m. has node_eq (cell_node W m) (map (cell_node W) ns) ≡ has node_eq m ns) (λ m k. has_cells m k ns b) ms a),
      keep_hold KnownNode (λ m. has node_eq m ns) ms a,
    )

    pub not_in_cells : (ms ns : List (Node Text)) → AllOf KnownNode ms → AllOf KnownNode ns → (those_not_in (map (cell_node W) ms) (map (cell_node W) ns) ≡ map (cell_node W) (those_not_in ms ns)) × AllOf KnownNode (those_not_in ms ns)
    not_in_cells ms ns a b = (
      filter_map (cell_node W) (λ m. not (has node_eq m ns)) (λ m. not (has node_eq m (map (cell_node W) ns))) ms (all_mono KnownNode (λ m. not (has node_eq (cell_node W m) (map (cell_node W) ns)) ≡ not (has node_eq m ns)) (λ m k. ap not (has_cells m k ns b)) ms a),
      keep_hold KnownNode (λ m. not (has node_eq m ns)) ms a,
    )

    -- the nodes of items in document order, as items
    pub in_order_cells : (ns : List (Node Text)) → AllOf KnownNode ns → (items_at (in_document_order (map (cell_node W) ns)) ≡ map (cell_of W) (items_at (in_document_order ns))) × AllOf (Known docs W) (items_at (in_document_order ns))
    in_order_cells ns a = (ap items_at (ordered_cells ns a) ∙ items_at_cells W (in_document_order ns), known_at (in_document_order ns) (ordered_known ns a))
