-- How references compare: by the derived order of keys and references, which is document order.
use Rattle.std.specs.Prelude.{◌≡◌}
use Rattle.std.specs.Ordering.{is_lt, is_eq}
use Rattle.std.specs.declared.cmp.Ordering.{Ordering}
use Rattle.xq_base.specs.declared.item.FragKey.{FragKey}
use Rattle.xq_base.specs.declared.item.NodeRef.{NodeRef}
use Rattle.xq_base.specs.contracts.item.FragKeyOrd.TheImpl as key_order
use Rattle.xq_base.specs.contracts.item.NodeRefOrd.TheImpl as ref_order
use Rattle.doc_table.specs.Identity.{tree_id_eq, tree_id_less, id_of_key, ref_eq, ref_less}

abbrev pub key_cmp : FragKey → FragKey → Ordering
key_cmp = (key_order.ghosts).cmp

abbrev pub ref_cmp : NodeRef → NodeRef → Ordering
ref_cmp = (ref_order.ghosts).cmp

-- what they answer
pub record DerivedOrder : Type 0 where
  pub key_less : (k l : FragKey) → is_lt (key_cmp k l) ≡ tree_id_less (id_of_key k) (id_of_key l)
  pub key_same : (k l : FragKey) → is_eq (key_cmp k l) ≡ tree_id_eq (id_of_key k) (id_of_key l)
  pub less : (r s : NodeRef) → is_lt (ref_cmp r s) ≡ ref_less r s
  pub same : (r s : NodeRef) → is_eq (ref_cmp r s) ≡ ref_eq r s
