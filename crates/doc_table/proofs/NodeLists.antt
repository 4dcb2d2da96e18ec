-- The list of a tree's nodes: it ascends in document order and has exactly the nodes of the tree.
use Rattle.std.proofs.Common.{inl, inr, ◌≡◌, ◌≤◌, ℕ, zero, suc, ◌+◌, true, ◌&&◌, ◌||◌, List, [], ◌∷◌, ◌++◌, map, Option, Some, None, refl, sym, ap, ◌∙◌, subst, arith}
use Rattle.std.specs.Prelude.{nat_lt}
use Rattle.std.proofs.lemmas.Bool.{false≢true, eq-eqb, lt-ltb, le-ltb}
use Rattle.doc_table.specs.Tree.{Tree, Forest, Branch, no_more, one_more, root_of, attributes_of}
use Rattle.doc_table.specs.Paths.{Path, is_less, is_same, path_less, nth_tree, nth_pair, tree_then, subtree, label_of_pair, label_in, is_some_label, has_node}
use Rattle.doc_table.specs.Nodes.{root_path, under, attribute_paths, node_paths, child_paths}
use Rattle.doc_table.specs.Ascending.{In, Ascends}
use Rattle.doc_table.specs.NodeLaws.{ListsNodes}
use Rattle.doc_table.proofs.Ascending.{in-left, in-right, in-parts, in-map, in-unmap, after-all, ascends-append, ascends-map}

-- ---- the order of paths behind one step more

under-less : (i : ℕ) (p q : Path) → path_less (under i p) (under i q) ≡ path_less p q
under-less i p q = rw (eq-eqb i i refl, le-ltb i i (omega arith)) refl

-- the first step of a path is this or a greater number
record Begins (i : ℕ) (p : Path) : Type 0 where
  pub first : ℕ
  pub others : List ℕ
  pub is : p.steps ≡ first ∷ others
  pub least : i ≤ first

-- a path below an earlier child
earlier : (i j : ℕ) (p : Path) (q : Path) → Begins j q → suc i ≤ j → path_less (under i p) q ≡ true
earlier i j p q b h =
    let less : nat_lt i b.first ≡ true = lt-ltb i b.first (omega (arith, b.least)) in
    subst (λ z. is_less (i ∷ p.steps) z || (is_same (i ∷ p.steps) z && nat_lt p.attr q.attr) ≡ true) (sym b.is) (rw less refl)

-- a path without steps
before-steps : (k i : ℕ) (q : Path) → Begins i q → path_less (record { steps = []; attr = k }) q ≡ true
before-steps k i q b = subst (λ z. is_less [] z || (is_same [] z && nat_lt k q.attr) ≡ true) (sym b.is) refl

module _ {T : Type 0} where
  -- ---- attributes

  in-attributes : (s : List ℕ) (k : ℕ) (as' : List (T × T)) (p : Path) → In p (attribute_paths s k as') → (p.steps ≡ s) × (k ≤ p.attr)
  in-attributes s k [] p h = absurd h
  in-attributes s k (a ∷ as') p h = elim h [
    | inl e ↦ (ap (λ q. q.steps) e, omega (arith, ap (λ q. q.attr) e))
    | inr r ↦ (let z = in-attributes s (k + 1) as' p r in (z.0, omega (arith, z.1)))
  ]

  attributes-ascend : (k : ℕ) (as' : List (T × T)) → Ascends path_less (attribute_paths [] k as')
  attributes-ascend k [] = tt
  attributes-ascend k (a ∷ as') = (
    after-all path_less (record { steps = []; attr = k }) (attribute_paths [] (k + 1) as') (λ q h. let z = in-attributes [] (k + 1) as' q h in later k q z.0 z.1),
    attributes-ascend (k + 1) as',
  )
    where
      later : (m : ℕ) (q : Path) → q.steps ≡ [] → m + 1 ≤ q.attr → path_less (record { steps = []; attr = m }) q ≡ true
      later m q e l = rw (e, lt-ltb m q.attr (omega (arith, l))) refl

  -- ---- ascending

  begins : (i : ℕ) (f : Forest T) (p : Path) → In p (child_paths i f) → Begins i p
  begins i no_more p h = absurd h
  begins i (one_more t ts) p h = elim (in-parts p (map (under i) (node_paths t)) (child_paths (i + 1) ts) h) [
    | inl a ↦ (let r = in-unmap (under i) p (node_paths t) a in record { first = i; others = r.0.steps; is = ap (λ q. q.steps) r.2; least = omega arith })
    | inr b ↦ (let r = begins (i + 1) ts p b in record { first = r.first; others = r.others; is = r.is; least = omega (arith, r.least) })
  ]

  mutual
    nodes-ascend : (t : Tree T) → Ascends path_less (node_paths t)
    nodes-ascend (Branch l f) = (
      after-all path_less root_path (attribute_paths [] 1 (attributes_of l) ++ child_paths 1 f) (λ q h. elim (in-parts q (attribute_paths [] 1 (attributes_of l)) (child_paths 1 f) h) [
        | inl a ↦ (let z = in-attributes [] 1 (attributes_of l) q a in own q z.0 z.1)
        | inr b ↦ before-steps 0 1 q (begins 1 f q b)
      ]),
      ascends-append path_less (attribute_paths [] 1 (attributes_of l)) (child_paths 1 f) (attributes-ascend 1 (attributes_of l)) (children-ascend 1 f)
          (λ p q h k. at p q (in-attributes [] 1 (attributes_of l) p h).0 (begins 1 f q k)),
    )
      where
        own : (q : Path) → q.steps ≡ [] → 1 ≤ q.attr → path_less root_path q ≡ true
        own q e m = rw (e, lt-ltb 0 q.attr (omega (arith, m))) refl

        at : (p q : Path) → p.steps ≡ [] → Begins 1 q → path_less p q ≡ true
        at p q e b = subst (λ z. is_less z q.steps || (is_same z q.steps && nat_lt p.attr q.attr) ≡ true) (sym e) (before-steps p.attr 1 q b)

    children-ascend : (i : ℕ) (f : Forest T) → Ascends path_less (child_paths i f)
    children-ascend i no_more = tt
    children-ascend i (one_more t ts) =
        ascends-append path_less (map (under i) (node_paths t)) (child_paths (i + 1) ts)
        (ascends-map path_less path_less (under i) (node_paths t) (λ p q h k e. under-less i p q ∙ e) (nodes-ascend t))
        (children-ascend (i + 1) ts)
        (λ p q h k. let r = in-unmap (under i) p (node_paths t) h in ap (λ z. path_less z q) r.2 ∙ earlier i (i + 1) r.0 q (begins (i + 1) ts q k) (omega arith))

  -- ---- the elements are nodes

  pair-there : (s : List ℕ) (as' : List (T × T)) (k n : ℕ) (p : Path) → In p (attribute_paths s (k + n) as') → (m : ℕ) × (p.attr ≡ k + n + m) × (is_some_label (label_of_pair (nth_pair as' (suc m))) ≡ true)
  pair-there s [] k n p h = absurd h
  pair-there s (a ∷ as') k n p h = elim h [
    | inl e ↦ (0, omega (arith, ap (λ q. q.attr) e), refl)
    | inr r ↦
        (let z = pair-there s as' k (n + 1) p (subst (λ y. In p (attribute_paths s y as')) (omega arith) r) in
        (suc z.0, omega (arith, z.1), z.2))
  ]

  -- the tree of a child with this number from i on, and a node of it
  record Child (i : ℕ) (f : Forest T) (p : Path) : Type 0 where
    pub number : ℕ
    pub tree : Tree T
    pub path : Path
    pub is : p ≡ under (i + number) path
    pub there : nth_tree f (suc number) ≡ Some tree
    pub node : has_node tree path ≡ true

  attr-there : (k m : ℕ) (t : Tree T) → k ≡ suc m → is_some_label (label_of_pair (nth_pair (attributes_of (root_of t)) (suc m))) ≡ true → has_node t (record { steps = []; attr = k }) ≡ true
  attr-there k m t e h = ap (λ z. has_node t (record { steps = []; attr = z })) e ∙ h

  mutual
    are-nodes : (t : Tree T) (p : Path) → In p (node_paths t) → has_node t p ≡ true
    are-nodes (Branch l f) p h = elim h [
      | inl e ↦ ap (has_node (Branch l f)) e
      | inr r ↦ (elim (in-parts p (attribute_paths [] 1 (attributes_of l)) (child_paths 1 f) r) [
        | inl a ↦
            (let steps = (in-attributes [] 1 (attributes_of l) p a).0 in
            let z = pair-there [] (attributes_of l) 1 0 p a in
            ap (λ s. has_node (Branch l f) (record { steps = s; attr = p.attr })) steps ∙ attr-there p.attr z.0 (Branch l f) (omega (arith, z.1)) z.2)
        | inr b ↦
            (let c = child-nodes 1 f p b in
            let number : 1 + c.number ≡ suc c.number = omega arith in
            ap (has_node (Branch l f)) c.is
            ∙ ap (λ n. is_some_label (label_in c.path.attr (tree_then (nth_tree f n) (subtree c.path.steps)))) number
            ∙ ap (λ o. is_some_label (label_in c.path.attr (tree_then o (subtree c.path.steps)))) c.there
            ∙ c.node)
      ])
    ]

    child-nodes : (i : ℕ) (f : Forest T) (p : Path) → In p (child_paths i f) → Child i f p
    child-nodes i no_more p h = absurd h
    child-nodes i (one_more t ts) p h = elim (in-parts p (map (under i) (node_paths t)) (child_paths (i + 1) ts) h) [
      | inl a ↦
          (let r = in-unmap (under i) p (node_paths t) a in
          let number : i ≡ i + 0 = omega arith in
          record { number = 0; tree = t; path = r.0; is = r.2 ∙ ap (λ n. under n r.0) number; there = refl; node = are-nodes t r.0 r.1 })
      | inr b ↦
          (let c = child-nodes (i + 1) ts p b in
          let number : i + 1 + c.number ≡ i + suc c.number = omega arith in
          record { number = suc c.number; tree = c.tree; path = c.path; is = c.is ∙ ap (λ n. under n c.path) number; there = c.there; node = c.node })
    ]

  -- ---- every node is an element

  in-pairs : (s : List ℕ) (as' : List (T × T)) (k m : ℕ) → is_some_label (label_of_pair (nth_pair as' (suc m))) ≡ true → In (record { steps = s; attr = k + m }) (attribute_paths s k as')
  in-pairs s [] k m h = absurd (false≢true h)
  in-pairs s (a ∷ as') k zero h = let e : k + 0 ≡ k = omega arith in inl (ap (λ z. record { steps = s; attr = z }) e)
  in-pairs s (a ∷ as') k (suc m) h =
      let e : k + 1 + m ≡ k + suc m = omega arith in
      inr (subst (λ z. In (record { steps = s; attr = z }) (attribute_paths s (k + 1) as')) e (in-pairs s as' (k + 1) m h))

  in-children : (i : ℕ) (f : Forest T) (n : ℕ) (u : Tree T) (p : Path) → nth_tree f (suc n) ≡ Some u → In p (node_paths u) → In (under (i + n) p) (child_paths i f)
  in-children i no_more n u p e h = cc
  in-children i (one_more t ts) zero u p e h =
      let same : t ≡ u = cc in
      let number : i ≡ i + 0 = omega arith in
      in-left (under (i + 0) p) (map (under i) (node_paths t)) (child_paths (i + 1) ts)
      (subst (λ z. In (under z p) (map (under i) (node_paths t))) number (in-map (under i) p (node_paths t) (subst (λ z. In p (node_paths z)) (sym same) h)))
  in-children i (one_more t ts) (suc n) u p e h =
      let number : i + 1 + n ≡ i + suc n = omega arith in
      in-right (under (i + suc n) p) (map (under i) (node_paths t)) (child_paths (i + 1) ts)
      (subst (λ z. In (under z p) (child_paths (i + 1) ts)) number (in-children (i + 1) ts n u p e h))

  nth-none : (f : Forest T) → nth_tree f 0 ≡ None
  nth-none no_more = refl
  nth-none (one_more t ts) = refl

  all-nodes : (s : List ℕ) (k : ℕ) (t : Tree T) → is_some_label (label_in k (subtree s t)) ≡ true → In (record { steps = s; attr = k }) (node_paths t)
  all-nodes [] zero (Branch l f) h = inl refl
  all-nodes [] (suc m) (Branch l f) h =
      let e : 1 + m ≡ suc m = omega arith in
      inr (in-left (record { steps = []; attr = suc m }) (attribute_paths [] 1 (attributes_of l)) (child_paths 1 f)
      (subst (λ z. In (record { steps = []; attr = z }) (attribute_paths [] 1 (attributes_of l))) e (in-pairs [] (attributes_of l) 1 m h)))
  all-nodes (i ∷ s) k (Branch l f) h = inr (in-right (record { steps = i ∷ s; attr = k }) (attribute_paths [] 1 (attributes_of l)) (child_paths 1 f) (at i (nth_tree f i) refl h (λ u. all-nodes s k u)))
    where
      at : (j : ℕ) (o : Option (Tree T)) → nth_tree f j ≡ o → is_some_label (label_in k (tree_then o (subtree s))) ≡ true
          → ((u : Tree T) → is_some_label (label_in k (subtree s u)) ≡ true → In (record { steps = s; attr = k }) (node_paths u)) → In (record { steps = j ∷ s; attr = k }) (child_paths 1 f)
      at j None e g go = absurd (false≢true g)
      at zero (Some u) e g go = let z = nth-none f in cc
      at (suc n) (Some u) e g go =
          let number : 1 + n ≡ suc n = omega arith in
          subst (λ z. In (record { steps = z ∷ s; attr = k }) (child_paths 1 f)) number (in-children 1 f n u (record { steps = s; attr = k }) e (go u g))

  pub lists_nodes : (t : Tree T) → ListsNodes t
  lists_nodes t = record { ascends = nodes-ascend t; nodes = are-nodes t; all = λ p h. all-nodes p.steps p.attr t h }
