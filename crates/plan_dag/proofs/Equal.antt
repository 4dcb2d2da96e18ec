-- Operators that a derived comparison finds equal are equal.
use Rattle.std.proofs.Common.{◌≡◌, ◌&&◌, ℕ, ℤ, Bool, true, false, List, Option, Some, None, refl, sym, ap, true≢false, nat_eq, int_eq}
use Rattle.std.specs.Cmp.{unsigned_Decides, booleans_Decides}
use Rattle.std.specs.Cmp.Lexicographic.{pointwise}
use Rattle.std.specs.Option.{option_eq}
use Rattle.std.proofs.lemmas.Bool.Decides.{Decides-int_eq}
use mathlib.Core.Bool.{beq}
use denote.Enum.Bare.{Bare, sameb, same_true}
use denote.Enum.Declared.{Declared, intoss}
use Rattle.xq_base.specs.declared.item.TextId.{TextId}
use Rattle.xq_base.specs.declared.item.Atom.{Atom}
use Rattle.xq_base.specs.declared.axis.Axis.{Axis}
use Rattle.xq_base.specs.declared.axis.NodeTest.{NodeTest}
use Rattle.xq_base.specs.declared.code.Code.{Code}
use Rattle.xq_base.specs.declared.fun.AtomKind.{AtomKind}
use Rattle.xq_base.specs.declared.fun.ItemKind.{ItemKind}
use Rattle.xq_base.specs.declared.fun.CompOp.{CompOp}
use Rattle.xq_base.specs.declared.fun.Fun.{Fun}
use Rattle.xq_base.specs.contracts.item.Atom.{the_type as the_atom, as_values as atom_values}
use Rattle.xq_base.specs.contracts.item.AtomPartialEq.TheImpl.{ghosts as atoms}
use Rattle.xq_base.specs.contracts.axis.Axis.{the_type as the_axis}
use Rattle.xq_base.specs.contracts.axis.NodeTest.{the_type as the_test, as_values as test_values}
use Rattle.xq_base.specs.contracts.axis.NodeTestPartialEq.TheImpl.{ghosts as tests}
use Rattle.xq_base.specs.contracts.code.Code.{the_type as the_code}
use Rattle.xq_base.specs.contracts.fun.AtomKind.{the_type as the_atom_kind}
use Rattle.xq_base.specs.contracts.fun.ItemKind.{the_type as the_item_kind, as_values as item_kind_values}
use Rattle.xq_base.specs.contracts.fun.ItemKindPartialEq.TheImpl.{ghosts as item_kinds}
use Rattle.xq_base.specs.contracts.fun.CompOp.{the_type as the_comp}
use Rattle.xq_base.specs.contracts.fun.Fun.{the_type as the_fun, as_values as fun_values}
use Rattle.xq_base.specs.contracts.fun.FunPartialEq.TheImpl.{ghosts as funs}
use Rattle.plan_dag.specs.declared.cols.Col.{Col}
use Rattle.plan_dag.specs.declared.keys.Key.{Key}
use Rattle.plan_dag.specs.declared.pairs.Pair.{Pair}
use Rattle.plan_dag.specs.declared.op.OpId.{OpId}
use Rattle.plan_dag.specs.declared.op.Agg.{Agg}
use Rattle.plan_dag.specs.declared.op.Place.{Place}
use Rattle.plan_dag.specs.declared.op.Op.{Op}
use Rattle.plan_dag.specs.contracts.op.Agg.{the_type as the_agg}
use Rattle.plan_dag.specs.contracts.op.Place.{the_type as the_place}
use Rattle.plan_dag.specs.contracts.op.Op.{the_type as the_op, as_values as op_values}
use Rattle.plan_dag.specs.contracts.op.OpPartialEq.TheImpl.{ghosts as ops}
use Rattle.plan_dag.specs.contracts.op.OpEq.TheImpl.Laws.{laws-law}
use Rattle.plan_dag.specs.Padded.{col_eq, key_eq, pair_eq}
use Rattle.plan_dag.proofs.Choices.{same_choice}
use Rattle.plan_dag.proofs.Fitted.{both, cols_same, keys_same, pairs_same}

-- a test that finds equal values alone
record Test (A : Type 0) : Type 0 where
  eq : A → A → Bool
  same : (x y : A) → eq x y ≡ true → x ≡ y

infixr 20 ◌►◌
-- the tests of the variants, one after the other
abbrev ◌►◌ : {A B : Type 0} → A → B → A × B
a ► b = (a, b)

-- a variant without fields, with one field, and with one more
bare : (x y : Unit {0}) → true ≡ true → x ≡ y
bare x y e = refl

abbrev last : {A : Type 0} → Test A → Test (A × Unit {0})
last t = record { eq = λ x y. t.eq x.0 y.0; same = λ x y e i. (t.same x.0 y.0 e i, tt) }

abbrev more : {A B : Type 0} → Test A → Test B → Test (A × B)
more t u = record {
  eq = λ x y. t.eq x.0 y.0 && u.eq x.1 y.1;
  same = λ x y e. let p = both (t.eq x.0 y.0) (u.eq x.1 y.1) e in λ i. (t.same x.0 y.0 p.0 i, u.same x.1 y.1 p.1 i);
}

option_same : {A : Type 0} (t : Test A) (x y : Option A) → option_eq t.eq x y ≡ true → x ≡ y
option_same t None None e = refl
option_same t None (Some y) e = absurd (true≢false (sym e))
option_same t (Some x) None e = absurd (true≢false (sym e))
option_same t (Some x) (Some y) e = ap Some (t.same x y e)

abbrev option : {A : Type 0} → Test A → Test (Option A)
option t = record { eq = option_eq t.eq; same = option_same t }

abbrev number : Test ℕ
number = record { eq = nat_eq; same = λ x y. (unsigned_Decides x y).0 }

abbrev integer : Test ℤ
integer = record { eq = int_eq; same = λ x y. (Decides-int_eq x y).0 }

abbrev boolean : Test Bool
boolean = record { eq = beq; same = λ x y. (booleans_Decides x y).0 }

abbrev text_id : Test TextId
text_id = record { eq = λ x y. nat_eq x.0 y.0; same = λ x y e i. record { 0 = (unsigned_Decides x.0 y.0).0 e i } }

abbrev id : Test OpId
id = record { eq = λ x y. nat_eq x.0 y.0; same = λ x y e i. record { 0 = (unsigned_Decides x.0 y.0).0 e i } }

abbrev col : Test Col
col = record { eq = λ x y. nat_eq x.0 y.0; same = λ x y e i. record { 0 = (unsigned_Decides x.0 y.0).0 e i } }

abbrev cols : Test (List Col)
cols = record { eq = pointwise col_eq; same = cols_same }

abbrev keys : Test (List Key)
keys = record { eq = pointwise key_eq; same = keys_same }

abbrev pairs : Test (List Pair)
pairs = record { eq = pointwise pair_eq; same = pairs_same }

-- enums without fields
abbrev tags : (D : Declared) → Bare D.parts → Test D.D
tags D b = record { eq = sameb D; same = same_true D b }

abbrev axis : Test Axis
axis = tags the_axis tt

abbrev code : Test Code
code = tags the_code tt

abbrev comp : Test CompOp
comp = tags the_comp tt

abbrev atom_kind : Test AtomKind
atom_kind = tags the_atom_kind tt

abbrev agg : Test Agg
agg = tags the_agg tt

abbrev place : Test Place
place = tags the_place tt

-- enums with fields: a test for each variant
item_kind_same : (a b : ItemKind) → item_kinds.eq a b ≡ true → a ≡ b
item_kind_same a b e = the_item_kind.to_one a b (ap (intoss the_item_kind.parts) (same_choice the_item_kind.parts _ ((last atom_kind).same ► bare ► bare ► bare ► bare ► bare ► bare ► tt) (item_kind_values a) (item_kind_values b) e))

abbrev item_kind : Test ItemKind
item_kind = record { eq = item_kinds.eq; same = item_kind_same }

atom_same : (a b : Atom) → atoms.eq a b ≡ true → a ≡ b
atom_same a b e = the_atom.to_one a b (ap (intoss the_atom.parts) (same_choice the_atom.parts _ ((last integer).same ► (last text_id).same ► (last text_id).same ► (last boolean).same ► tt) (atom_values a) (atom_values b) e))

abbrev atom : Test Atom
atom = record { eq = atoms.eq; same = atom_same }

test_same : (a b : NodeTest) → tests.eq a b ≡ true → a ≡ b
test_same a b e =
    the_test.to_one a b (ap (intoss the_test.parts) (same_choice the_test.parts _ (bare ► (last text_id).same ► bare ► bare ► bare ► (last (option text_id)).same ► bare ► (last (option text_id)).same ► (last (option text_id)).same ► tt) (test_values a) (test_values b) e))

abbrev test : Test NodeTest
test = record { eq = tests.eq; same = test_same }

fun_same : (a b : Fun) → funs.eq a b ≡ true → a ≡ b
fun_same a b e = the_fun.to_one a b (ap (intoss the_fun.parts) (same_choice the_fun.parts _ (
    bare ► bare ► bare ► bare ► bare ► bare ► bare ► bare ► bare ► bare ► bare ► bare
    ► bare ► bare ► bare ► bare ► bare ► bare ► bare ► bare ► bare ► bare ► bare ► bare
    ► bare ► bare ► bare ► bare ► bare ► bare ► bare ► bare ► bare ► bare ► bare ► bare
    ► bare ► bare ► bare ► bare ► bare ► bare ► bare ► bare ► bare ► bare ► bare ► bare
    ► bare ► bare ► bare ► bare ► bare ► bare ► bare ► bare ► bare ► bare ► bare ► bare
    ► bare ► bare ► bare ► bare ► bare ► bare ► bare ► bare ► bare ► bare ► bare ► bare
    ► bare ► bare ► bare ► bare ► bare ► (last item_kind).same ► (last atom_kind).same ► (more text_id (last number)).same
    ► tt
    ) (fun_values a) (fun_values b) e))

abbrev fun : Test Fun
fun = record { eq = funs.eq; same = fun_same }

abbrev pub op_eq : Op → Op → Bool
op_eq = ops.eq

pub op_same : (a b : Op) → op_eq a b ≡ true → a ≡ b
op_same a b e = the_op.to_one a b (ap (intoss the_op.parts) (same_choice the_op.parts _ (
    (last col).same
    ► (last cols).same
    ► (more id (last pairs)).same
    ► (more id (more col (last atom))).same
    ► (more id (last col)).same
    ► (more id (more id (more col (last col)))).same
    ► (more id (last id)).same
    ► (more id (more id (more col (last col)))).same
    ► (more id (last cols)).same
    ► (more id (more col (more keys (last (option col))))).same
    ► (more id (more col (last col))).same
    ► (more id (more agg (more col (more col (last col))))).same
    ► (more id (more agg (more code (more col (last col))))).same
    ► (more id (more fun (more cols (last col)))).same
    ► (more id (more fun (more code (last cols)))).same
    ► (more id (more col (more col (last col)))).same
    ► (more id (more id (more comp (more col (more col (more col (last col))))))).same
    ► (more id (more id (more comp (more code (more col (more col (more col (last col)))))))).same
    ► (more id (more axis (more test (more number (more number (more col (last col))))))).same
    ► (more id (more id (more number (more col (more col (last col)))))).same
    ► (more id (more id (more number (more col (more col (last col)))))).same
    ► (more id (more id (more number (more col (more col (last col)))))).same
    ► (more id (more id (more number (more col (more col (last col)))))).same
    ► (more id (more id (more number (more col (more col (last col)))))).same
    ► (more id (more id (more number (more col (more col (last col)))))).same
    ► (more id (more place (more code (more col (more col (last col)))))).same
    ► tt
    ) (op_values a) (op_values b) e))

pub op_self : (a : Op) → op_eq a a ≡ true
op_self a = laws-law.refl a
