-- The order and the equality of numbers and of cells.
use Rattle.std.proofs.Common.{◌≡◌, ℕ, ◌<◌, Bool, true, false, cond, ◌&&◌, ◌||◌, [], ◌∷◌, refl, sym, ap, ◌∙◌, arith}
use Rattle.std.specs.Prelude.{nat_eq, nat_lt, pos, negsuc}
use Rattle.std.proofs.Common.{Less, Equal, Greater, is_eq}
use Rattle.std.proofs.lemmas.Bool.{eqb-true, eq-eqb, ne_eqb, eqb-false, le-ltb, ltb-true, ltb-false}
use Rattle.xq_base.specs.Texts.{Text, text_eq, text_less}
use Rattle.doc_table.specs.Items.{IntItem, TextItem, UntypedItem, BoolItem, NodeItem}
use Rattle.doc_table.specs.Identity.{Node, node_eq, node_less}
use Rattle.doc_table.specs.Ascending.{IsOrder}
use Rattle.doc_table.proofs.StrictOrders.{nodes_order}
use Rattle.plan_dag.specs.ItemRules.{Cell, cell_eq, cell_less}
use Rattle.lift_laws.specs.Iterations.{num}

pub nat_eq_self : (n : ℕ) → nat_eq n n ≡ true
nat_eq_self n = eq-eqb n n refl

pub nat_lt_self : (n : ℕ) → nat_lt n n ≡ false
nat_lt_self n = le-ltb n n (omega arith)

pub nat_eq_below : (m n : ℕ) → m < n → nat_eq m n ≡ false
nat_eq_below m n h = ne_eqb m n (λ e. omega arith)

pub nat_eq_above : (m n : ℕ) → m < n → nat_eq n m ≡ false
nat_eq_above m n h = ne_eqb n m (λ e. omega arith)

pub nat_lt_above : (m n : ℕ) → m < n → nat_lt n m ≡ false
nat_lt_above m n h = le-ltb n m (omega arith)

pub nat_eq_turn : (m n : ℕ) → nat_eq m n ≡ false → nat_eq n m ≡ false
nat_eq_turn m n h = ne_eqb n m (λ e. eqb-false m n h (sym e))

-- numbers as cells
pub num_same : (m n : ℕ) → cell_eq (num m) (num n) ≡ nat_eq m n
num_same m n = at (nat_lt m n) refl (nat_lt n m) refl
  where
    at : (a : Bool) → nat_lt m n ≡ a → (b : Bool) → nat_lt n m ≡ b → cell_eq (num m) (num n) ≡ nat_eq m n
    at true e b f = let l = ltb-true m n e in ap (λ x. is_eq (cond x Less (cond (nat_lt n m) Greater Equal))) e ∙ sym (nat_eq_below m n l)
    at false e true f = let l = ltb-true n m f in ap (λ x. is_eq (cond x Less (cond (nat_lt n m) Greater Equal))) e ∙ ap (λ x. is_eq (cond x Greater Equal)) f ∙ sym (nat_eq_above n m l)
    at false e false f = let l = ltb-false m n e in let k = ltb-false n m f in ap (λ x. is_eq (cond x Less (cond (nat_lt n m) Greater Equal))) e ∙ ap (λ x. is_eq (cond x Greater Equal)) f ∙ sym (eq-eqb m n (omega arith))

-- a cell that equals a number is it
pub num_is : (n : ℕ) (v : Cell) → cell_eq (num n) v ≡ true → v ≡ num n
num_is n (IntItem (pos m)) e = ap num (sym (eqb-true n m (sym (num_same n m) ∙ e)))
num_is n (IntItem (negsuc m)) e = cc
num_is n (TextItem t) e = cc
num_is n (UntypedItem t) e = cc
num_is n (BoolItem b) e = cc
num_is n (NodeItem m) e = cc

text_eq_self : (t : Text) → text_eq t t ≡ true
text_eq_self [] = refl
text_eq_self (c ∷ cs) = ap (λ b. b && text_eq cs cs) (nat_eq_self c) ∙ text_eq_self cs

text_less_self : (t : Text) → text_less t t ≡ false
text_less_self [] = refl
text_less_self (c ∷ cs) = ap (λ b. b || (nat_eq c c && text_less cs cs)) (nat_lt_self c) ∙ ap (λ b. b && text_less cs cs) (nat_eq_self c) ∙ text_less_self cs

node_less_self : (n : Node Text) → node_less n n ≡ false
node_less_self n = at (node_less n n) refl
  where
    at : (b : Bool) → node_less n n ≡ b → b ≡ false
    at true e = let o : IsOrder (node_less {T = Text}) node_eq = nodes_order in sym e ∙ o.less_turn n n e
    at false e = refl

pub cell_eq_self : (v : Cell) → cell_eq v v ≡ true
cell_eq_self (IntItem (pos n)) = num_same n n ∙ nat_eq_self n
cell_eq_self (IntItem (negsuc n)) = ap (λ x. is_eq (cond x Less (cond x Greater Equal))) (nat_lt_self n)
cell_eq_self (TextItem t) = text_eq_self t
cell_eq_self (UntypedItem t) = text_eq_self t
cell_eq_self (BoolItem true) = refl
cell_eq_self (BoolItem false) = refl
cell_eq_self (NodeItem n) = let o : IsOrder (node_less {T = Text}) node_eq = nodes_order in o.eq_self n

pub cell_less_self : (v : Cell) → cell_less v v ≡ false
cell_less_self (IntItem (pos n)) = nat_lt_self n
cell_less_self (IntItem (negsuc n)) = nat_lt_self n
cell_less_self (TextItem t) = text_less_self t
cell_less_self (UntypedItem t) = text_less_self t
cell_less_self (BoolItem true) = refl
cell_less_self (BoolItem false) = refl
cell_less_self (NodeItem n) = node_less_self n
