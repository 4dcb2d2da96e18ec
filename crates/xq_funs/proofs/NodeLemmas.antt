-- References as the nodes that they name, and rows as what nodes are.
use Rattle.std.proofs.Common.{◌≡◌, ◌<◌, Bool, true, false, length, Option, None, refl, ◌∙◌, arith}
use Rattle.std.specs.Ordering.{is_lt, is_eq}
use Rattle.std.specs.declared.cmp.Ordering.{Ordering}
use Rattle.std.specs.declared.cmp.Ordering.TheVariants.{Less, Equal, Greater}
use Rattle.xq_base.specs.declared.item.TextId.{TextId}
use Rattle.xq_base.specs.declared.item.NodeRef.{NodeRef}
use Rattle.doc_table.specs.declared.rows.Kind.{Kind}
use Rattle.doc_table.specs.declared.rows.Kind.TheVariants as w
use Rattle.doc_table.specs.Tree.{Tree, Branch, OfDocument, OfElement, OfAttribute, OfText, OfComment, OfInstruction}
use Rattle.doc_table.specs.Enc.{enc, line_in}
use Rattle.doc_table.specs.Identity.{ref_eq, ref_less}
use Rattle.doc_table.specs.DerivedOrder.{ref_cmp}
use Rattle.doc_table.specs.Places.{is_lone}
use Rattle.doc_table.proofs.DerivedOrder.{derived_order}
use Rattle.xq_funs.specs.Orderings.{tells_equal, tells_less}

tells-lt : (o : Ordering) → tells_less o ≡ is_lt o
tells-lt Less = refl
tells-lt Equal = refl
tells-lt Greater = refl

tells-eq : (o : Ordering) → tells_equal o ≡ is_eq o
tells-eq Less = refl
tells-eq Equal = refl
tells-eq Greater = refl

pub order_less : (r s : NodeRef) → tells_less (ref_cmp r s) ≡ ref_less r s
order_less r s = tells-lt (ref_cmp r s) ∙ derived_order.less r s

pub order_same : (r s : NodeRef) → tells_equal (ref_cmp r s) ≡ ref_eq r s
order_same r s = tells-eq (ref_cmp r s) ∙ derived_order.same r s

pub some_row : (t : Tree TextId) → 0 < length (enc t)
some_row (Branch l f) = omega arith

abbrev nameless : Kind → Option TextId → Bool
nameless w.Element None = true
nameless _ _ = false

pub lone_row : (t : Tree TextId) → is_lone t ≡ nameless (line_in (enc t) 0).kind (line_in (enc t) 0).name
lone_row (Branch OfDocument f) = refl
lone_row (Branch (OfElement n as') f) = refl
lone_row (Branch (OfAttribute n v) f) = refl
lone_row (Branch (OfText v) f) = refl
lone_row (Branch (OfComment v) f) = refl
lone_row (Branch (OfInstruction n v) f) = refl
