-- Laws of nodes, of their places and of references to them.
use Rattle.std.proofs.Common.{◌≡◌, Bool, true, false, refl, sym, ap, ◌∙◌}
use Rattle.std.specs.Prelude.{nat_eq}
use Rattle.std.proofs.lemmas.Bool.{false≢true, true≢false, eqb-true, and_parts}
use Rattle.xq_base.specs.declared.item.NodeRef.{NodeRef}
use Rattle.doc_table.specs.Places.{Place, place_eq}
use Rattle.doc_table.specs.Identity.{tree_id_eq, Node, node_eq, node_less, node_of, id_of_key, place_of, ref_eq, ref_less}
use Rattle.doc_table.specs.NodeLaws.{DocumentOrder, ReferenceOrder, OneReference}
use Rattle.doc_table.proofs.Orders.{same-key, references_in_order}
use Rattle.doc_table.proofs.StrictOrders.{nodes_order, refs_order}

pub same-place : (a b : Place) → place_eq a b ≡ true → a ≡ b
same-place a b h =
    let p = and_parts (nat_eq a.pre b.pre) (nat_eq a.attr b.attr) h in
    ap (λ z. record { pre = z; attr = a.attr }) (eqb-true a.pre b.pre p.0) ∙ ap (λ z. record { pre = b.pre; attr = z }) (eqb-true a.attr b.attr p.1)

pub same-ref : (r s : NodeRef) → ref_eq r s ≡ true → r ≡ s
same-ref r s h =
    let p = and_parts (tree_id_eq (id_of_key r.frag) (id_of_key s.frag)) (place_eq (place_of r) (place_of s)) h in
    let place : place_of r ≡ place_of s = same-place (place_of r) (place_of s) p.1 in
    ap (λ k. record { frag = k; pre = r.pre; attr = r.attr }) (same-key r.frag s.frag p.0) ∙ ap (λ (q : Place). record { frag = s.frag; pre = q.pre; attr = q.attr }) place

pub document_order : {T : Type 0} → DocumentOrder T
document_order = nodes_order

pub reference_order : ReferenceOrder
reference_order = record { order = refs_order; exact = same-ref }

pub one_reference : {T : Type 0} → OneReference T
one_reference {T} trees r s h k = (one, λ e. ap (λ z. node_eq (node_of trees r) (node_of trees z)) (sym e) ∙ nodes_order.eq_self (node_of trees r))
  where
    -- one that isn't less, either way, is equal
    not-less : (m n : Node T) → node_eq m n ≡ true → node_less m n ≡ false
    not-less m n e = at (node_less m n) refl
      where
        at : (b : Bool) → node_less m n ≡ b → b ≡ false
        at true l = absurd (false≢true (sym (nodes_order.less_apart m n l) ∙ e))
        at false l = refl

    one : node_eq (node_of trees r) (node_of trees s) ≡ true → r ≡ s
    one e =
        let there : ref_less r s ≡ false = sym (references_in_order trees r s h k) ∙ not-less (node_of trees r) (node_of trees s) e in
        let back : ref_less s r ≡ false = sym (references_in_order trees s r k h) ∙ not-less (node_of trees s) (node_of trees r) (nodes_order.eq_turn (node_of trees s) (node_of trees r) ∙ e) in
        at (ref_eq r s) refl there back
      where
        at : (b : Bool) → ref_eq r s ≡ b → ref_less r s ≡ false → ref_less s r ≡ false → r ≡ s
        at true q there back = same-ref r s q
        at false q there back = absurd (true≢false (sym (refs_order.third r s there q) ∙ back))
