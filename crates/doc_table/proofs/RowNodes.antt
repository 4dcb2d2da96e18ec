-- The node of a row, and the node at a place.
use Rattle.std.proofs.Common.{◌≡◌, ℕ, zero, suc, ◌-◌, ◌<◌, ◌≤◌, Bool, true, false, ◌&&◌, cond, List, [], ◌∷◌, length, refl, sym, ap, ◌∙◌, subst, arith, Some, None}
use Rattle.std.specs.Prelude.{nat_eq, nat_lt, nat_le, slice_index_or}
use Rattle.std.proofs.lemmas.Bool.{eqb-true, lt-ltb, ltb-true, le-leb, leb-true, and_parts, not-true, false≢true, true≢false}
use Rattle.doc_table.specs.declared.rows.Kind.TheVariants as k
use Rattle.doc_table.specs.Tree.{Label, OfDocument, OfElement, OfAttribute, OfText, OfComment, OfInstruction, Tree, Branch, no_more, one_more, root_of, attributes_of}
use Rattle.doc_table.specs.Paths.{subtree, nth_pair, label_at, label_in, label_of_pair}
use Rattle.doc_table.specs.Enc.{Line, line_of, enc, line_in, row_kind, row_attributes}
use Rattle.doc_table.specs.Places.{Place, path_at, names_node, node_at, is_lone, RowsTell}
use Rattle.doc_table.specs.Attributes.{attributes_apart}
use Rattle.doc_table.proofs.Subtrees.{Below, below-row}

-- ---- pairs by number

module _ {X : Type 0} where
  pair_at : (xs : List (X × X)) (n : ℕ) (d : X × X) → n < length xs → nth_pair xs (suc n) ≡ Some (slice_index_or xs n d)
  pair_at [] n d l = absurd (omega arith)
  pair_at (x ∷ xs) zero d l = refl
  pair_at (x ∷ xs) (suc n) d l = pair_at xs n d (omega arith)

  pair_none : (xs : List (X × X)) (n : ℕ) → length xs ≤ n → nth_pair xs (suc n) ≡ None
  pair_none [] n l = refl
  pair_none (x ∷ xs) zero l = absurd (omega arith)
  pair_none (x ∷ xs) (suc n) l = pair_none xs n (omega arith)

  pub pair_before : (xs : List (X × X)) (a : ℕ) (d : X × X) → 0 < a → a - 1 < length xs → nth_pair xs a ≡ Some (slice_index_or xs (a - 1) d)
  pair_before xs a d z l = (let e : a ≡ suc (a - 1) = omega arith in ap (nth_pair xs) e ∙ pair_at xs (a - 1) d l)

  pub pair_past : (xs : List (X × X)) (a : ℕ) → 0 < a → length xs ≤ a - 1 → nth_pair xs a ≡ None
  pair_past xs a z l = (let e : a ≡ suc (a - 1) = omega arith in ap (nth_pair xs) e ∙ pair_none xs (a - 1) l)

module _ {T : Type 0} where
  -- ---- labels

  abbrev pub IsNoAttribute : Label T → Type 0
  IsNoAttribute (OfAttribute n v) = ⊥
  IsNoAttribute OfDocument = Unit {0}
  IsNoAttribute (OfElement n as') = Unit {0}
  IsNoAttribute (OfText v) = Unit {0}
  IsNoAttribute (OfComment v) = Unit {0}
  IsNoAttribute (OfInstruction n v) = Unit {0}

  plain_root : (t : Tree T) → is_lone t ≡ false → IsNoAttribute (root_of t)
  plain_root (Branch OfDocument f) e = tt
  plain_root (Branch (OfElement n as') f) e = tt
  plain_root (Branch (OfAttribute n v) f) e = absurd (true≢false e)
  plain_root (Branch (OfText v) f) e = tt
  plain_root (Branch (OfComment v) f) e = tt
  plain_root (Branch (OfInstruction n v) f) e = tt

  plain_attributes : (l : Label T) → IsNoAttribute l → row_attributes l ≡ attributes_of l
  plain_attributes OfDocument p = refl
  plain_attributes (OfElement n as') p = refl
  plain_attributes (OfAttribute n v) p = absurd p
  plain_attributes (OfText v) p = refl
  plain_attributes (OfComment v) p = refl
  plain_attributes (OfInstruction n v) p = refl

  element_line : (l : Label T) → 0 < length (row_attributes l) → row_kind l ≡ k.Element
  element_line OfDocument h = absurd (omega arith)
  element_line (OfElement n as') h = refl
  element_line (OfAttribute n v) h = refl
  element_line (OfText v) h = absurd (omega arith)
  element_line (OfComment v) h = absurd (omega arith)
  element_line (OfInstruction n v) h = absurd (omega arith)

  -- ---- rows

  -- the node of a row that isn't the row of a lone attribute
  pub record RowNode (t : Tree T) (v : ℕ) : Type 0 where
    pub tree : Tree T
    pub path : subtree (path_at t v) t ≡ Some tree
    pub line : line_in (enc t) v ≡ line_of (root_of tree) (line_in (enc t) v).size (line_in (enc t) v).level
    pub plain : IsNoAttribute (root_of tree)

  root_same : (t u : Tree T) (v : ℕ) → v ≡ 0 → subtree (path_at t v) t ≡ Some u → t ≡ u
  root_same (Branch l f) u v z e = let r : subtree (path_at (Branch l f) 0) (Branch l f) ≡ Some u = subst (λ n. subtree (path_at (Branch l f) n) (Branch l f) ≡ Some u) z e in cc

  pub row_node : (t : Tree T) (v : ℕ) → attributes_apart t ≡ true → is_lone t ≡ false → v < length (enc t) → RowNode t v
  row_node t v s e l = at v refl
    where
      b : Below (λ x y. false) (λ x. false) t v
      b = below-row (λ x y. false) (λ x. false) t v l

      at : (n : ℕ) → v ≡ n → RowNode t v
      at zero z = record { tree = b.tree; path = b.path; line = b.root; plain = plain_root b.tree (ap is_lone (sym (root_same t b.tree v z b.path)) ∙ e) }
      at (suc n) z = record { tree = b.tree; path = b.path; line = b.root; plain = plain_root b.tree (not-true (is_lone b.tree) (b.apart s (omega arith))) }

  lone_line : (t : Tree T) → is_lone t ≡ true → (line_in (enc t) 0).kind ≡ k.Element
  lone_line (Branch OfDocument f) e = absurd (false≢true e)
  lone_line (Branch (OfElement n as') f) e = absurd (false≢true e)
  lone_line (Branch (OfAttribute n v) f) e = refl
  lone_line (Branch (OfText v) f) e = absurd (false≢true e)
  lone_line (Branch (OfComment v) f) e = absurd (false≢true e)
  lone_line (Branch (OfInstruction n v) f) e = absurd (false≢true e)

  pub lone_long : (t : Tree T) → attributes_apart t ≡ true → is_lone t ≡ true → length (enc t) ≡ 1
  lone_long (Branch OfDocument f) s e = absurd (false≢true e)
  lone_long (Branch (OfElement n as') f) s e = absurd (false≢true e)
  lone_long (Branch (OfAttribute n v) no_more) s e = refl
  lone_long (Branch (OfAttribute n v) (one_more t ts)) s e = absurd (false≢true s)
  lone_long (Branch (OfText v) f) s e = absurd (false≢true e)
  lone_long (Branch (OfComment v) f) s e = absurd (false≢true e)
  lone_long (Branch (OfInstruction n v) f) s e = absurd (false≢true e)

  -- ---- places

  pub row_named : (t : Tree T) (v : ℕ) → is_lone t ≡ false → v < length (enc t) → names_node t (record { pre = v; attr = 0 }) ≡ true
  row_named t v e l = rw (e, lt-ltb v (length (enc t)) l, le-leb 0 (length (line_in (enc t) v).attributes) (omega arith)) refl

  -- where the root is an attribute, its place is the only one
  pub lone_parts : (t : Tree T) (p : Place) → is_lone t ≡ true → names_node t p ≡ true → (p.pre ≡ 0) × (p.attr ≡ 1)
  lone_parts t p l e =
      let b = and_parts (nat_eq p.pre 0) (nat_eq p.attr 1) (sym (ap (λ z. cond z (nat_eq p.pre 0 && nat_eq p.attr 1) (nat_lt p.pre (length (enc t)) && nat_le p.attr (length (line_in (enc t) p.pre).attributes))) l) ∙ e) in
      (eqb-true p.pre 0 b.0, eqb-true p.attr 1 b.1)

  pub row_not_named : (t : Tree T) (v : ℕ) → is_lone t ≡ true → names_node t (record { pre = v; attr = 0 }) ≡ true → ⊥
  row_not_named t v l e = let p = lone_parts t (record { pre = v; attr = 0 }) l e in absurd (omega (arith, p.1))

  -- a place stands on a row
  pub named_row : (t : Tree T) (p : Place) → RowsTell t → names_node t p ≡ true → p.pre < length (enc t)
  named_row t p b e = go (is_lone t) e
    where
      go : (l : Bool) → cond l (nat_eq p.pre 0 && nat_eq p.attr 1) (nat_lt p.pre (length (enc t)) && nat_le p.attr (length (line_in (enc t) p.pre).attributes)) ≡ true → p.pre < length (enc t)
      go true e = omega (arith, b.some, eqb-true p.pre 0 (and_parts (nat_eq p.pre 0) (nat_eq p.attr 1) e).0)
      go false e = ltb-true p.pre (length (enc t)) (and_parts (nat_lt p.pre (length (enc t))) (nat_le p.attr (length (line_in (enc t) p.pre).attributes)) e).0

  -- the row of an attribute is an element's
  pub owner_element : (t : Tree T) (p : Place) → names_node t p ≡ true → 0 < p.attr → (line_in (enc t) p.pre).kind ≡ k.Element
  owner_element t p e z = go (is_lone t) refl e
    where
      go : (b : Bool) → is_lone t ≡ b → cond b (nat_eq p.pre 0 && nat_eq p.attr 1) (nat_lt p.pre (length (enc t)) && nat_le p.attr (length (line_in (enc t) p.pre).attributes)) ≡ true → (line_in (enc t) p.pre).kind ≡ k.Element
      go true l e = subst (λ n. (line_in (enc t) n).kind ≡ k.Element) (sym (eqb-true p.pre 0 (and_parts (nat_eq p.pre 0) (nat_eq p.attr 1) e).0)) (lone_line t l)
      go false l e =
          let b = and_parts (nat_lt p.pre (length (enc t))) (nat_le p.attr (length (line_in (enc t) p.pre).attributes)) e in
          let r = below-row (λ x y. false) (λ x. false) t p.pre (ltb-true p.pre (length (enc t)) b.0) in
          let some : length (line_in (enc t) p.pre).attributes ≡ length (row_attributes (root_of r.tree)) = ap (λ (z : Line T). length z.attributes) r.root in
          let le = leb-true p.attr (length (line_in (enc t) p.pre).attributes) b.1 in
          ap (λ (z : Line T). z.kind) r.root ∙ element_line (root_of r.tree) (omega arith)

  -- what stands at attribute number k of a row
  label_is : (t : Tree T) (v k : ℕ) → RowNode t v → label_at t (record { steps = path_at t v; attr = suc k }) ≡ label_of_pair (nth_pair (line_in (enc t) v).attributes (suc k))
  label_is t v k n =
      ap (label_in (suc k)) n.path
      ∙ ap (λ z. label_of_pair (nth_pair z (suc k))) (sym (ap (λ (z : Line T). z.attributes) n.line ∙ plain_attributes (root_of n.tree) n.plain))

  lone_pair : (t : Tree T) → is_lone t ≡ true → label_at t (record { steps = []; attr = 0 }) ≡ label_of_pair (nth_pair (line_in (enc t) 0).attributes 1)
  lone_pair (Branch OfDocument f) e = absurd (false≢true e)
  lone_pair (Branch (OfElement n as') f) e = absurd (false≢true e)
  lone_pair (Branch (OfAttribute n v) f) e = refl
  lone_pair (Branch (OfText v) f) e = absurd (false≢true e)
  lone_pair (Branch (OfComment v) f) e = absurd (false≢true e)
  lone_pair (Branch (OfInstruction n v) f) e = absurd (false≢true e)

  -- the label of a node that is an attribute
  pub attribute_label : (t : Tree T) (p : Place) → RowsTell t → attributes_apart t ≡ true → names_node t p ≡ true → 0 < p.attr → label_at t (node_at t p) ≡ label_of_pair (nth_pair (line_in (enc t) p.pre).attributes p.attr)
  attribute_label t p b s e z = go (is_lone t) refl
    where
      go : (d : Bool) → is_lone t ≡ d → label_at t (node_at t p) ≡ label_of_pair (nth_pair (line_in (enc t) p.pre).attributes p.attr)
      go true l =
          let q = lone_parts t p l e in
          rw (l, q.0, q.1) (lone_pair t l)
      go false l =
          let one : p.attr ≡ suc (p.attr - 1) = omega arith in
          ap (λ k. label_at t (cond k (record { steps = []; attr = 0 }) (record { steps = path_at t p.pre; attr = p.attr }))) l
          ∙ ap (λ k. label_at t (record { steps = path_at t p.pre; attr = k })) one
          ∙ label_is t p.pre (p.attr - 1) (row_node t p.pre s l (named_row t p b e))
          ∙ ap (λ k. label_of_pair (nth_pair (line_in (enc t) p.pre).attributes k)) (sym one)
