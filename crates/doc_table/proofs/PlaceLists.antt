-- The places of a tree's nodes, and the nodes at them.
use Rattle.std.proofs.Common.{inl, inr, ◌≡◌, ◌≤◌, ◌<◌, ℕ, zero, suc, ◌+◌, Bool, true, false, cond, ◌&&◌, List, [], ◌∷◌, ◌++◌, length, map, refl, sym, ap, ◌∙◌, subst, arith}
use Rattle.std.specs.Prelude.{nat_eq, nat_lt, nat_le}
use Rattle.std.proofs.lemmas.Bool.{false≢true, true≢false, eq-eqb, eqb-true, lt-ltb, ltb-true, le-leb, leb-true, le-ltb, and_parts, and_from}
use Rattle.doc_table.specs.Tree.{Tree}
use Rattle.doc_table.specs.Paths.{Path, path_less, path_eq}
use Rattle.doc_table.specs.Enc.{Line, enc, line_in}
use Rattle.doc_table.specs.Places.{Place, place_less, place_eq, is_lone, names_node, node_at}
use Rattle.doc_table.specs.NodeRows.{attribute_places, places_from, places_of}
use Rattle.doc_table.specs.Nodes.{node_paths}
use Rattle.doc_table.specs.Ascending.{In, Ascends}
use Rattle.doc_table.specs.NodeLaws.{ListsPlaces, PlacesOneToOne}
use Rattle.doc_table.proofs.Ascending.{in-left, in-right, in-parts, in-map, in-unmap, after-all, ascends-append}
use Rattle.doc_table.proofs.StrictOrders.{paths_order, places_order}
use Rattle.doc_table.proofs.Orders.{places-in-order}
use Rattle.doc_table.proofs.NodeLaws.{same-place}
use Rattle.doc_table.proofs.NodePaths.{nodes_by_rows}
use Rattle.doc_table.proofs.NodeLists.{lists_nodes}

less-row : (a b : Place) → a.pre < b.pre → place_less a b ≡ true
less-row a b h = rw (lt-ltb a.pre b.pre h) refl

less-attr : (a b : Place) → a.pre ≡ b.pre → a.attr < b.attr → place_less a b ≡ true
less-attr a b e h = rw (le-ltb a.pre b.pre (omega (arith, e)), eq-eqb a.pre b.pre e, lt-ltb a.attr b.attr h) refl

module _ {T : Type 0} where
  -- ---- the attributes of a row

  in-attributes : (v k : ℕ) (as' : List (T × T)) (p : Place) → In p (attribute_places v k as') → (p.pre ≡ v) × (k ≤ p.attr) × (p.attr < k + length as')
  in-attributes v k [] p h = absurd h
  in-attributes v k (a ∷ as') p h = elim h [
    | inl e ↦ (ap (λ q. q.pre) e, omega (arith, ap (λ q. q.attr) e), omega (arith, ap (λ q. q.attr) e))
    | inr r ↦ (let z = in-attributes v (k + 1) as' p r in (z.0, omega (arith, z.1), omega (arith, z.2)))
  ]

  to-attributes : (v k : ℕ) (as' : List (T × T)) (m : ℕ) → m < length as' → In (record { pre = v; attr = k + m }) (attribute_places v k as')
  to-attributes v k [] m h = absurd (omega arith)
  to-attributes v k (a ∷ as') zero h = let e : k + 0 ≡ k = omega arith in inl (ap (λ z. record { pre = v; attr = z }) e)
  to-attributes v k (a ∷ as') (suc m) h =
      let e : k + 1 + m ≡ k + suc m = omega arith in
      inr (subst (λ z. In (record { pre = v; attr = z }) (attribute_places v (k + 1) as')) e (to-attributes v (k + 1) as' m (omega arith)))

  attributes-ascend : (v k : ℕ) (as' : List (T × T)) → Ascends place_less (attribute_places v k as')
  attributes-ascend v k [] = tt
  attributes-ascend v k (a ∷ as') = (
    after-all place_less (record { pre = v; attr = k }) (attribute_places v (k + 1) as') (λ q h. let z = in-attributes v (k + 1) as' q h in less-attr (record { pre = v; attr = k }) q (sym z.0) (omega (arith, z.1))),
    attributes-ascend v (k + 1) as',
  )

  -- ---- the rows from a number on

  record Standing (v : ℕ) (lines : List (Line T)) (p : Place) : Type 0 where
    pub row : ℕ
    pub is : p.pre ≡ v + row
    pub within : row < length lines
    pub attr : p.attr ≤ length (line_in lines row).attributes

  in-places : (v : ℕ) (lines : List (Line T)) (p : Place) → In p (places_from v lines) → Standing v lines p
  in-places v [] p h = absurd h
  in-places v (line ∷ lines) p h = elim h [
    | inl e ↦ record { row = 0; is = omega (arith, ap (λ q. q.pre) e); within = omega arith; attr = omega (arith, ap (λ q. q.attr) e) }
    | inr r ↦ (elim (in-parts p (attribute_places v 1 line.attributes) (places_from (v + 1) lines) r) [
      | inl a ↦ (let z = in-attributes v 1 line.attributes p a in record { row = 0; is = omega (arith, z.0); within = omega arith; attr = omega (arith, z.2) })
      | inr b ↦ (let s = in-places (v + 1) lines p b in record { row = suc s.row; is = omega (arith, s.is); within = omega (arith, s.within); attr = s.attr })
    ])
  ]

  to-places : (v : ℕ) (lines : List (Line T)) (n k : ℕ) → n < length lines → k ≤ length (line_in lines n).attributes → In (record { pre = v + n; attr = k }) (places_from v lines)
  to-places v [] n k h l = absurd (omega arith)
  to-places v (line ∷ lines) zero zero h l = let e : v + 0 ≡ v = omega arith in inl (ap (λ z. record { pre = z; attr = 0 }) e)
  to-places v (line ∷ lines) zero (suc m) h l =
      let e : v ≡ v + 0 = omega arith in
      let d : 1 + m ≡ suc m = omega arith in
      inr (in-left (record { pre = v + 0; attr = suc m }) (attribute_places v 1 line.attributes) (places_from (v + 1) lines)
      (subst (λ z. In (record { pre = z; attr = suc m }) (attribute_places v 1 line.attributes)) e
      (subst (λ z. In (record { pre = v; attr = z }) (attribute_places v 1 line.attributes)) d (to-attributes v 1 line.attributes m (omega (arith, l))))))
  to-places v (line ∷ lines) (suc n) k h l =
      let e : v + 1 + n ≡ v + suc n = omega arith in
      inr (in-right (record { pre = v + suc n; attr = k }) (attribute_places v 1 line.attributes) (places_from (v + 1) lines)
      (subst (λ z. In (record { pre = z; attr = k }) (places_from (v + 1) lines)) e (to-places (v + 1) lines n k (omega arith) l)))

  places-ascend : (v : ℕ) (lines : List (Line T)) → Ascends place_less (places_from v lines)
  places-ascend v [] = tt
  places-ascend v (line ∷ lines) = (
    after-all place_less (record { pre = v; attr = 0 }) (attribute_places v 1 line.attributes ++ places_from (v + 1) lines) (λ q h. elim (in-parts q (attribute_places v 1 line.attributes) (places_from (v + 1) lines) h) [
      | inl a ↦ (let z = in-attributes v 1 line.attributes q a in less-attr (record { pre = v; attr = 0 }) q (sym z.0) (omega (arith, z.1)))
      | inr b ↦ (let s = in-places (v + 1) lines q b in less-row (record { pre = v; attr = 0 }) q (omega (arith, s.is)))
    ]),
    ascends-append place_less (attribute_places v 1 line.attributes) (places_from (v + 1) lines) (attributes-ascend v 1 line.attributes) (places-ascend (v + 1) lines)
        (λ p q h k. let z = in-attributes v 1 line.attributes p h in let s = in-places (v + 1) lines q k in less-row p q (omega (arith, z.0, s.is))),
  )

  -- ---- the places of a tree

  abbrev places_if : Bool → Tree T → List Place
  places_if lone t = cond lone (record { pre = 0; attr = 1 } ∷ []) (places_from 0 (enc t))

  abbrev names_if : Bool → Tree T → Place → Bool
  names_if lone t p = cond lone (nat_eq p.pre 0 && nat_eq p.attr 1) (nat_lt p.pre (length (enc t)) && nat_le p.attr (length (line_in (enc t) p.pre).attributes))

  ascend-if : (lone : Bool) (t : Tree T) → Ascends place_less (places_if lone t)
  ascend-if true t = (tt, tt)
  ascend-if false t = places-ascend 0 (enc t)

  named-if : (lone : Bool) (t : Tree T) (p : Place) → In p (places_if lone t) → names_if lone t p ≡ true
  named-if true t p h = elim h [ inl e ↦ ap (names_if true t) e | inr r ↦ absurd r ]
  named-if false t p h =
      let s = in-places 0 (enc t) p h in
      let row : s.row ≡ p.pre = omega (arith, s.is) in
      and_from (nat_lt p.pre (length (enc t))) (nat_le p.attr (length (line_in (enc t) p.pre).attributes))
      (lt-ltb p.pre (length (enc t)) (omega (arith, s.within, row)))
      (le-leb p.attr (length (line_in (enc t) p.pre).attributes) (subst (λ z. p.attr ≤ length (line_in (enc t) z).attributes) row s.attr))

  all-if : (lone : Bool) (t : Tree T) (p : Place) → names_if lone t p ≡ true → In p (places_if lone t)
  all-if true t p h =
      let r = and_parts (nat_eq p.pre 0) (nat_eq p.attr 1) h in
      inl (ap (λ z. record { pre = z; attr = p.attr }) (eqb-true p.pre 0 r.0) ∙ ap (λ z. record { pre = 0; attr = z }) (eqb-true p.attr 1 r.1))
  all-if false t p h =
      let r = and_parts (nat_lt p.pre (length (enc t))) (nat_le p.attr (length (line_in (enc t) p.pre).attributes)) h in
      let e : 0 + p.pre ≡ p.pre = omega arith in
      subst (λ z. In (record { pre = z; attr = p.attr }) (places_from 0 (enc t))) e
      (to-places 0 (enc t) p.pre p.attr (ltb-true p.pre (length (enc t)) r.0) (leb-true p.attr (length (line_in (enc t) p.pre).attributes) r.1))

  pub lists_places : (t : Tree T) → ListsPlaces t
  lists_places t = record { ascends = ascend-if (is_lone t) t; named = named-if (is_lone t) t; all = all-if (is_lone t) t }

  -- ---- one to one

  same-places : (t : Tree T) (a b : Place) → names_node t a ≡ true → names_node t b ≡ true → node_at t a ≡ node_at t b → a ≡ b
  same-places t a b h k e = at (place_eq a b) refl
    where
      self : (p q : Path) → p ≡ q → path_less p q ≡ false
      self p q d = go (path_less p q) refl
        where
          go : (c : Bool) → path_less p q ≡ c → c ≡ false
          go true l = absurd (false≢true (sym (paths_order.less_apart p q l) ∙ ap (path_eq p) (sym d) ∙ paths_order.eq_self p))
          go false l = refl

      at : (c : Bool) → place_eq a b ≡ c → a ≡ b
      at true q = same-place a b q
      at false q =
          let there : place_less a b ≡ false = sym (places-in-order t a b h k) ∙ self (node_at t a) (node_at t b) e in
          let back : place_less b a ≡ false = sym (places-in-order t b a k h) ∙ self (node_at t b) (node_at t a) (sym e) in
          absurd (true≢false (sym (places_order.third a b there q) ∙ back))

  pub one_place : PlacesOneToOne T
  one_place t h =
      let rows : node_paths t ≡ map (node_at t) (places_of t) = nodes_by_rows t h in
      record {
        node = λ p k. (lists_nodes t).nodes (node_at t p) (subst (In (node_at t p)) (sym rows) (in-map (node_at t) p (places_of t) ((lists_places t).all p k)));
        apart = same-places t;
        placed = λ q k. let r = in-unmap (node_at t) q (places_of t) (subst (In q) rows ((lists_nodes t).all q k)) in (r.0, (lists_places t).named r.0 r.1, sym r.2);
      }
