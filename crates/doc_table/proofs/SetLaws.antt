-- References in order, and sets of them.
use Rattle.std.proofs.Common.{inl, inr, ◌≡◌, ◌<◌, Bool, true, false, not, cond, ◌||◌, List, [], ◌∷◌, length, map, refl, sym, ap, ◌∙◌, subst, arith}
use Rattle.std.specs.Prelude.{nat_lt, nat_le}
use Rattle.std.specs.List.{filter}
use Rattle.std.proofs.lemmas.Bool.{lt-ltb, le-leb, and_from}
use Rattle.xq_base.specs.declared.item.FragKey.{FragKey}
use Rattle.xq_base.specs.declared.item.NodeRef.{NodeRef}
use Rattle.xq_base.specs.Texts.{Text}
use Rattle.doc_table.specs.Tree.{Tree, Branch}
use Rattle.doc_table.specs.Enc.{enc, line_in}
use Rattle.doc_table.specs.Places.{is_lone, path_at, names_node, node_at}
use Rattle.doc_table.specs.Identity.{tree_id_eq, Node, node_eq, node_less, node_of, id_of_key, place_of, ref_eq, ref_less}
use Rattle.doc_table.specs.Orders.{has}
use Rattle.doc_table.specs.Nodes.{root_node}
use Rattle.doc_table.specs.Ascending.{In}
use Rattle.doc_table.specs.Steps.{in_document_order}
use Rattle.doc_table.specs.StepLaws.{OneTreeEach, AllNamed, OrderedByReferences, SetsByReferences, RootReference}
use Rattle.doc_table.proofs.Orders.{same-key, references_in_order}
use Rattle.doc_table.proofs.StrictOrders.{nodes_order, refs_order, same-bools}
use Rattle.doc_table.proofs.NodeLaws.{same-ref, one_reference}
use Rattle.doc_table.proofs.Ascending.{in-map, in-unmap, one_ascending, ascends-map}
use Rattle.doc_table.proofs.StepLaws.{ordered_once, in-order}

module _ (trees : FragKey → Tree Text) where
  -- nodes of references with one identity stand in one tree
  one-tree : (rs : List NodeRef) → OneTreeEach (map (node_of trees) rs)
  one-tree rs m n h k e =
      let a = in-unmap (node_of trees) m rs h in
      let b = in-unmap (node_of trees) n rs k in
      let ids : tree_id_eq (id_of_key a.0.frag) (id_of_key b.0.frag) ≡ true = ap (λ z. tree_id_eq z.id (id_of_key b.0.frag)) (sym a.2) ∙ ap (λ z. tree_id_eq m.id z.id) (sym b.2) ∙ e in
      ap (λ z. z.tree) a.2 ∙ ap trees (same-key a.0.frag b.0.frag ids) ∙ ap (λ z. z.tree) (sym b.2)

  -- two references name one node exactly where they are equal
  same-nodes : (r s : NodeRef) → names_node (trees r.frag) (place_of r) ≡ true → names_node (trees s.frag) (place_of s) ≡ true → node_eq (node_of trees r) (node_of trees s) ≡ ref_eq r s
  same-nodes r s h k =
      let both = one_reference trees r s h k in
      same-bools (node_eq (node_of trees r) (node_of trees s)) (ref_eq r s)
      (λ e. ap (ref_eq r) (sym (both.0 e)) ∙ refs_order.eq_self r)
      (λ e. both.1 (same-ref r s e))

  has-same : (r : NodeRef) (ss : List NodeRef) → names_node (trees r.frag) (place_of r) ≡ true → AllNamed trees ss → has node_eq (node_of trees r) (map (node_of trees) ss) ≡ has ref_eq r ss
  has-same r [] h k = refl
  has-same r (s ∷ ss) h k =
      ap (λ b. b || has node_eq (node_of trees r) (map (node_of trees) ss)) (same-nodes r s h (k s (inl refl)))
      ∙ ap (λ b. ref_eq r s || b) (has-same r ss h (λ q l. k q (inr l)))

  -- a test of nodes, and the same of references
  filter-same : (p : Node Text → Bool) (q : NodeRef → Bool) (rs : List NodeRef) → ((r : NodeRef) → In r rs → p (node_of trees r) ≡ q r) → filter p (map (node_of trees) rs) ≡ map (node_of trees) (filter q rs)
  filter-same p q [] f = refl
  filter-same p q (r ∷ rs) f =
      ap (λ b. cond b (node_of trees r ∷ filter p (map (node_of trees) rs)) (filter p (map (node_of trees) rs))) (f r (inl refl))
      ∙ ap (λ z. cond (q r) (node_of trees r ∷ z) z) (filter-same p q rs (λ s h. f s (inr h)))
      ∙ at (q r)
    where
      at : (b : Bool) → cond b (node_of trees r ∷ map (node_of trees) (filter q rs)) (map (node_of trees) (filter q rs)) ≡ map (node_of trees) (cond b (r ∷ filter q rs) (filter q rs))
      at true = refl
      at false = refl

pub ordered_by_references : OrderedByReferences
ordered_by_references trees rs sorted named ascends f g =
    let b = ordered_once (map (node_of trees) rs) in
    one_ascending node_less nodes_order.less_turn (map (node_of trees) sorted) (in_document_order (map (node_of trees) rs))
    (ascends-map ref_less node_less (node_of trees) sorted (λ r s h k e. references_in_order trees r s (named r (f r h)) (named s (f s k)) ∙ e) ascends)
    b.ascends
    (λ n h. let r = in-unmap (node_of trees) n sorted h in
    in-order (map (node_of trees) rs) (one-tree trees rs) n (subst (λ z. In z (map (node_of trees) rs)) (sym r.2) (in-map (node_of trees) r.0 rs (f r.0 r.1))))
    (λ n h. let r = in-unmap (node_of trees) n rs (b.from n h) in
    subst (λ z. In z (map (node_of trees) sorted)) (sym r.2) (in-map (node_of trees) r.0 sorted (g r.0 r.1)))

pub sets_by_references : SetsByReferences
sets_by_references trees rs ss h k = record {
  both = filter-same trees (λ n. has node_eq n (map (node_of trees) ss)) (λ r. has ref_eq r ss) rs (λ r l. has-same trees r ss (h r l) k);
  first = filter-same trees (λ n. not (has node_eq n (map (node_of trees) ss))) (λ r. not (has ref_eq r ss)) rs (λ r l. ap not (has-same trees r ss (h r l) k));
}

pub root_reference : {T : Type 0} → RootReference T
root_reference {T} trees r = at (trees r.frag) (is_lone (trees r.frag)) refl
  where
    first : (t : Tree T) → path_at t 0 ≡ []
    first (Branch l f) = refl

    some : (t : Tree T) → 0 < length (enc t)
    some (Branch l f) = omega arith

    at : (t : Tree T) (lone : Bool) → is_lone t ≡ lone
        → (names_node t (record { pre = 0; attr = cond (is_lone t) 1 0 }) ≡ true)
        × (record { id = id_of_key r.frag; tree = trees r.frag; path = node_at t (record { pre = 0; attr = cond (is_lone t) 1 0 }) } ≡ root_node (node_of trees r))
    at t true e = (rw e refl, rw e refl)
    at t false e = (
      rw e (and_from (nat_lt 0 (length (enc t))) (nat_le 0 (length (line_in (enc t) 0).attributes)) (lt-ltb 0 (length (enc t)) (some t)) (le-leb 0 (length (line_in (enc t) 0).attributes) (omega arith))),
      rw (e, first t) refl,
    )
