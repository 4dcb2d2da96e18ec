-- Kept cells that are found equal are equal.
use Rattle.std.proofs.Common.{◌≡◌, true, ◌&&◌, nat_eq, ap, sym, true≢false}
use Rattle.std.specs.Cmp.{unsigned_Decides, booleans_Decides}
use Rattle.std.proofs.lemmas.Bool.Decides.{Decides-int_eq}
use Rattle.xq_base.specs.declared.item.TextId.{TextId}
use Rattle.xq_base.specs.declared.item.FragKey.{FragKey}
use Rattle.xq_base.specs.declared.item.FragKey.TheVariants as f
use Rattle.xq_base.specs.declared.item.NodeRef.{NodeRef}
use Rattle.xq_base.specs.declared.item.Item.{Item}
use Rattle.xq_base.specs.declared.item.Item.TheVariants as i
use Rattle.xq_base.specs.contracts.item.FragKeyPartialEq.TheImpl as key_equality
use Rattle.xq_base.specs.contracts.item.NodeRefPartialEq.TheImpl as node_equality
use Rattle.xq_base.specs.contracts.item.ItemEq.TheImpl.Laws.{laws-law}
use Rattle.plan_dag.proofs.Fitted.{both}
use Rattle.table_ops.specs.Keys.{item_eq}

text_same : (s t : TextId) → nat_eq s.0 t.0 ≡ true → s ≡ t
text_same s t e = λ j. record { 0 = (unsigned_Decides s.0 t.0).0 e j }

key_same : (k l : FragKey) → (key_equality.ghosts).eq k l ≡ true → k ≡ l
key_same (f.Doc m) (f.Doc n) e = ap f.Doc ((unsigned_Decides m n).0 e)
key_same (f.Doc m) (f.Built s j) e = absurd (true≢false (sym e))
key_same (f.Built r k) (f.Doc n) e = absurd (true≢false (sym e))
key_same (f.Built r k) (f.Built s j) e =
    let p = both (nat_eq r s) (nat_eq k j) e in
    λ z. f.Built ((unsigned_Decides r s).0 p.0 z) ((unsigned_Decides k j).0 p.1 z)

node_same : (m n : NodeRef) → (node_equality.ghosts).eq m n ≡ true → m ≡ n
node_same m n e =
    let p = both ((key_equality.ghosts).eq m.frag n.frag) (nat_eq m.pre n.pre && nat_eq m.attr n.attr) e in
    let q = both (nat_eq m.pre n.pre) (nat_eq m.attr n.attr) p.1 in
    λ z. record { frag = key_same m.frag n.frag p.0 z; pre = (unsigned_Decides m.pre n.pre).0 q.0 z; attr = (unsigned_Decides m.attr n.attr).0 q.1 z }

pub item_same : (x y : Item) → item_eq x y ≡ true → x ≡ y
item_same (i.Int y) (i.Int z) e = ap i.Int ((Decides-int_eq y z).0 e)
item_same (i.Str s) (i.Str t) e = ap i.Str (text_same s t e)
item_same (i.Untyped s) (i.Untyped t) e = ap i.Untyped (text_same s t e)
item_same (i.Bool b) (i.Bool d) e = ap i.Bool ((booleans_Decides b d).0 e)
item_same (i.Node m) (i.Node n) e = ap i.Node (node_same m n e)
item_same (i.Int y) (i.Str t) e = absurd (true≢false (sym e))
item_same (i.Int y) (i.Untyped t) e = absurd (true≢false (sym e))
item_same (i.Int y) (i.Bool d) e = absurd (true≢false (sym e))
item_same (i.Int y) (i.Node n) e = absurd (true≢false (sym e))
item_same (i.Str s) (i.Int z) e = absurd (true≢false (sym e))
item_same (i.Str s) (i.Untyped t) e = absurd (true≢false (sym e))
item_same (i.Str s) (i.Bool d) e = absurd (true≢false (sym e))
item_same (i.Str s) (i.Node n) e = absurd (true≢false (sym e))
item_same (i.Untyped s) (i.Int z) e = absurd (true≢false (sym e))
item_same (i.Untyped s) (i.Str t) e = absurd (true≢false (sym e))
item_same (i.Untyped s) (i.Bool d) e = absurd (true≢false (sym e))
item_same (i.Untyped s) (i.Node n) e = absurd (true≢false (sym e))
item_same (i.Bool b) (i.Int z) e = absurd (true≢false (sym e))
item_same (i.Bool b) (i.Str t) e = absurd (true≢false (sym e))
item_same (i.Bool b) (i.Untyped t) e = absurd (true≢false (sym e))
item_same (i.Bool b) (i.Node n) e = absurd (true≢false (sym e))
item_same (i.Node m) (i.Int z) e = absurd (true≢false (sym e))
item_same (i.Node m) (i.Str t) e = absurd (true≢false (sym e))
item_same (i.Node m) (i.Untyped t) e = absurd (true≢false (sym e))
item_same (i.Node m) (i.Bool d) e = absurd (true≢false (sym e))

pub item_self : (x : Item) → item_eq x x ≡ true
item_self x = laws-law.refl x
