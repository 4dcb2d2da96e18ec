-- The functions that give nothing where an operand is absent: arithmetic, and comparisons of values, of nodes and of texts.
use Rattle.std.proofs.Common.{◌≡◌, Bool, true, false, cond, List, [], ◌∷◌, map, refl, ap, ◌∙◌, inl, inr, arith, ℤ, ◌+ℤ◌, ◌-ℤ◌, ◌*ℤ◌, int_div, int_rem, Option, Some, None}
use Rattle.xq_base.specs.declared.code.Code.TheVariants as c
use Rattle.xq_base.specs.declared.fun.Fun.{Fun}
use Rattle.xq_base.specs.declared.fun.Fun.TheVariants as f
use Rattle.xq_base.specs.declared.fun.CompOp.{CompOp}
use Rattle.xq_base.specs.declared.fun.CompOp.TheVariants as o
use Rattle.xq_base.specs.Answers.{Answer, Value, Fault as Refused, then_rule, with_value, both_of}
use Rattle.xq_base.specs.Texts.{Text, integer_in, fits_int}
use Rattle.xq_base.specs.Atoms.{Atom, IntAtom, TextAtom, UntypedAtom, BoolAtom, is_zero, as_string}
use Rattle.xq_base.specs.Arithmetic.{or_no_cast, operand, checked, integer_list, on_numbers, unless_zero, sum_of, difference_of, product_of, quotient_of, remainder_of}
use Rattle.xq_base.specs.Comparisons.{compared, value_pair, at_most_one, truth, where_both}
use Rattle.xq_base.specs.TextRules.{maybe_text, text_argument, text_list, on_texts, order_of}
use Rattle.xq_base.specs.Words.{starts_with, ends_with, contains, text_before, text_after}
use Rattle.doc_table.specs.Identity.{Node, node_eq, node_less}
use Rattle.doc_table.specs.Items.{IntItem, TextItem, UntypedItem, BoolItem, NodeItem}
use Rattle.doc_table.specs.Values.{Items, items_of, data_of, atomized}
use Rattle.doc_table.specs.NodeRules.{Docs, maybe_node, on_both}
use Rattle.doc_table.specs.Functions.{fun_answer}
use Rattle.plan_dag.specs.declared.op.OpId.{OpId}
use Rattle.plan_dag.specs.declared.check.Check.{Check}
use Rattle.plan_dag.specs.ItemRules.{Cell, outcome_of}
use Rattle.core_meaning.specs.Expr.{Site, Apply}
use Rattle.core_meaning.specs.Lawful.{is_dynamic}
use Rattle.lift_laws.specs.Sums.{AllOf}
use Rattle.lift_laws.specs.States.{State, at, Makes, three}
use Rattle.lift_laws.specs.Stages.{Stages}
use Rattle.lift_laws.specs.Pairs.{PairRule, Sums, Differences, Products, Quotients, Remainders, Compares, SameNodes, NodesBefore, NodesAfter, OrdersTexts, comparison, pair_fun, TextPairRule, Containing, Starting, Ending, Preceding, Following, text_pair_fun, filled_rows, PairCode, OfEach, OfBoth, code_of, pair_codes, pair_marks, pair_most, pair_value_rows}
use Rattle.lift_laws.specs.Lifting.{CallLifts}
use Rattle.lift_laws.proofs.Marks.{fault_in}
use Rattle.lift_laws.proofs.Stagings.{Ranked}
use Rattle.lift_laws.proofs.PairRows.{fill, filled_stands, few_filled}
use Rattle.lift_laws.proofs.PairCodes.{AmongOwn, AmongBoth, OwnFirst, among_none, both_none}
use Rattle.lift_laws.proofs.PairCase.{OneAtMost, faults_are, values_are, filled_faults, filled_values, checked_pair_call}

-- the operands are read alike, an absent one gives nothing, and the rule is applied to what is read
pair_call : {X : Type 0} (R : Items → Answer X) (K : X × X → Answer Items) (f : Fun) (e : PairCode) (es : List PairCode) (x0 : X)
    → code_of e ≡ c.XPTY0004 → R [] ≡ Value x0 → ((v u : Cell) (vs : Items) → R (v ∷ u ∷ vs) ≡ Refused c.XPTY0004)
    → ((y : X) → K (x0, y) ≡ Value []) → ((x : X) → K (x, x0) ≡ Value [])
    → ((v : Cell) → AmongOwn (fault_in (R (v ∷ []))) (e ∷ es)) → ((p : X × X) → AmongBoth (fault_in (K p)) (e ∷ es)) → ((p : X × X) → OneAtMost (K p))
    → Ranked (map code_of (e ∷ es)) → OwnFirst (e ∷ es) → AllOf (λ d. is_dynamic d ≡ true) (map code_of (e ∷ es))
    → ((docs : Docs) (us vs : Items) → fun_answer docs f (us ∷ vs ∷ []) ≡ then_rule (both_of (R us) (R vs)) K)
    → (docs : Docs) (s s1 s2 : State) (site : Site) (looped a b t : OpId) (cs : List Check)
    → Makes s s1 t three (pair_value_rows f (at s looped).rows (at s a).rows (at s b).rows) (pair_most (at s looped).rows (at s a).rows (at s b).rows)
    → Stages site (pair_most (at s looped).rows (at s a).rows (at s b).rows) s1 s2 (at s looped).rows (pair_marks f (e ∷ es) (at s looped).rows (at s a).rows (at s b).rows) cs
    → CallLifts docs s s2 site (Apply f) looped (a ∷ b ∷ []) t
pair_call {X = X} R K f e es x0 head none two left right own both one ranked own_first dynamic is docs s s1 s2 site looped a b t cs m st =
    let outcome = λ (u v : Cell). ap outcome_of (is [] (u ∷ []) (v ∷ [])) in
    let calm_left = λ (y : X). ap fault_in (left y) in
    let calm_right = λ (x : X). ap fault_in (right x) in
    checked_pair_call docs s s1 s2 site looped a b t cs f e es ranked dynamic (at s a).rows (at s b).rows (λ us. us) (λ vs. vs)
    (λ its h asc sl sa. (sa, omega arith)) (λ its k asc sl sb. (sb, omega arith)) (λ us vs. then_rule (both_of (R us) (R vs)) K) (λ us vs. is docs us vs)
    (λ us vs. faults_are {X = X} R K f e es x0 head none two calm_left calm_right ranked own_first own both outcome us vs)
    (λ us vs. values_are {X = X} R K f e es x0 head none two calm_left calm_right ranked own_first own both outcome left right one us vs) m st

-- a function of what a rule gives
moved_in : {A B C : Type 0} (h : B → C) (k : A → Answer B) (x : Answer A) → with_value h (then_rule x k) ≡ then_rule x (λ p. with_value h (k p))
moved_in h k (Value a) = refl
moved_in h k (Refused d) = refl

as_rule : {A B : Type 0} (h : A → B) (x : Answer A) → with_value h x ≡ then_rule x (λ p. Value (h p))
as_rule h (Value a) = refl
as_rule h (Refused d) = refl

as_rule_twice : {A B C : Type 0} (h : B → C) (k : A → B) (x : Answer A) → with_value h (with_value k x) ≡ then_rule x (λ p. Value (h (k p)))
as_rule_twice h k (Value a) = refl
as_rule_twice h k (Refused d) = refl

-- arithmetic
spelled_own : (t : Option ℤ) (ds : List PairCode) → AmongOwn (fault_in (with_value Some (or_no_cast t))) (OfEach c.XPTY0004 ∷ OfEach c.FORG0001 ∷ ds)
spelled_own None ds = inr (inl refl)
spelled_own (Some z) ds = inr (inr (among_none ds))

number_own : (a : Atom) (ds : List PairCode) → AmongOwn (fault_in (operand (a ∷ []))) (OfEach c.XPTY0004 ∷ OfEach c.FORG0001 ∷ ds)
number_own (IntAtom z) ds = inr (inr (among_none ds))
number_own (UntypedAtom t) ds = spelled_own (integer_in t) ds
number_own (TextAtom t) ds = inl refl
number_own (BoolAtom b) ds = inl refl

abbrev on_operands : (ℤ → ℤ → Answer ℤ) → Option ℤ × Option ℤ → Answer Items
on_operands h p = with_value items_of (on_numbers h p)

one_number : (x : Answer ℤ) → OneAtMost (with_value items_of (with_value integer_list x))
one_number (Value z) = tt
one_number (Refused d) = tt

operands_one : (h : ℤ → ℤ → Answer ℤ) (p : Option ℤ × Option ℤ) → OneAtMost (on_operands h p)
operands_one h (Some y, Some z) = one_number (h y z)
operands_one h (Some y, None) = tt
operands_one h (None, z) = tt

number_both : (x : Answer ℤ) (ds : List PairCode) → AmongBoth (fault_in x) ds → AmongBoth (fault_in (with_value items_of (with_value integer_list x))) ds
number_both (Value z) ds h = h
number_both (Refused d) ds h = h

operands_both : (h : ℤ → ℤ → Answer ℤ) (ds : List PairCode) → ((y z : ℤ) → AmongBoth (fault_in (h y z)) ds) → (p : Option ℤ × Option ℤ) → AmongBoth (fault_in (on_operands h p)) ds
operands_both h ds k (Some y, Some z) = number_both (h y z) ds (k y z)
operands_both h ds k (Some y, None) = both_none ds
operands_both h ds k (None, z) = both_none ds

none_right : (h : ℤ → ℤ → Answer ℤ) (x : Option ℤ) → on_operands h (x, None) ≡ Value []
none_right h None = refl
none_right h (Some y) = refl

checked_both : (z : ℤ) → AmongBoth (fault_in (checked z)) (OfBoth c.FOAR0002 ∷ [])
checked_both z = elim (fits_int z) as (λ b. AmongBoth (fault_in (cond b (Value z) (Refused c.FOAR0002))) (OfBoth c.FOAR0002 ∷ [])) [ true ↦ inr refl | false ↦ inl refl ]

divided_both : (z q : ℤ) → AmongBoth (fault_in (unless_zero z (checked q))) (OfBoth c.FOAR0001 ∷ OfBoth c.FOAR0002 ∷ [])
divided_both z q =
    let r = checked_both q in
    elim (is_zero z) as (λ b. AmongBoth (fault_in (cond b (Refused c.FOAR0001) (checked q))) (OfBoth c.FOAR0001 ∷ OfBoth c.FOAR0002 ∷ [])) [ true ↦ inl refl | false ↦ inr r ]

-- comparisons of values
pub compared_both : (op : CompOp) (a b : Atom) → AmongBoth (fault_in (compared op a b)) (OfBoth c.XPTY0004 ∷ [])
compared_both op (IntAtom y) (IntAtom z) = inr refl
compared_both op (IntAtom y) (TextAtom u) = inl refl
compared_both op (IntAtom y) (UntypedAtom u) = inl refl
compared_both op (IntAtom y) (BoolAtom b) = inl refl
compared_both op (TextAtom t) (IntAtom z) = inl refl
compared_both op (TextAtom t) (TextAtom u) = inr refl
compared_both op (TextAtom t) (UntypedAtom u) = inl refl
compared_both op (TextAtom t) (BoolAtom b) = inl refl
compared_both op (UntypedAtom t) (IntAtom z) = inl refl
compared_both op (UntypedAtom t) (TextAtom u) = inl refl
compared_both op (UntypedAtom t) (UntypedAtom u) = inl refl
compared_both op (UntypedAtom t) (BoolAtom b) = inl refl
compared_both op (BoolAtom a) (IntAtom z) = inl refl
compared_both op (BoolAtom a) (TextAtom u) = inl refl
compared_both op (BoolAtom a) (UntypedAtom u) = inl refl
compared_both op (BoolAtom a) (BoolAtom b) = inr refl

abbrev on_atoms : CompOp → Option Atom × Option Atom → Answer Items
on_atoms op p = with_value items_of (where_both op p)

truth_both : (x : Answer Bool) (ds : List PairCode) → AmongBoth (fault_in x) ds → AmongBoth (fault_in (with_value items_of (with_value truth x))) ds
truth_both (Value b) ds h = h
truth_both (Refused d) ds h = h

one_truth : (x : Answer Bool) → OneAtMost (with_value items_of (with_value truth x))
one_truth (Value b) = tt
one_truth (Refused d) = tt

atoms_both : (op : CompOp) (p : Option Atom × Option Atom) → AmongBoth (fault_in (on_atoms op p)) (OfBoth c.XPTY0004 ∷ [])
atoms_both op (Some a, Some b) = truth_both (value_pair op a b) (OfBoth c.XPTY0004 ∷ []) (compared_both op (as_string a) (as_string b))
atoms_both op (Some a, None) = inr refl
atoms_both op (None, b) = inr refl

atoms_one : (op : CompOp) (p : Option Atom × Option Atom) → OneAtMost (on_atoms op p)
atoms_one op (Some a, Some b) = one_truth (value_pair op a b)
atoms_one op (Some a, None) = tt
atoms_one op (None, b) = tt

no_atom_right : (op : CompOp) (x : Option Atom) → on_atoms op (x, None) ≡ Value []
no_atom_right op None = refl
no_atom_right op (Some a) = refl

-- comparisons of nodes
node_own : (v : Cell) → AmongOwn (fault_in (maybe_node (v ∷ []))) (OfEach c.XPTY0004 ∷ [])
node_own (IntItem z) = inl refl
node_own (TextItem t) = inl refl
node_own (UntypedItem t) = inl refl
node_own (BoolItem b) = inl refl
node_own (NodeItem n) = inr refl

two_nodes : (v u : Cell) (vs : Items) → maybe_node (v ∷ u ∷ vs) ≡ Refused c.XPTY0004
two_nodes (IntItem z) u vs = refl
two_nodes (TextItem t) u vs = refl
two_nodes (UntypedItem t) u vs = refl
two_nodes (BoolItem b) u vs = refl
two_nodes (NodeItem n) u vs = refl

abbrev on_nodes : (Node Text → Node Text → Bool) → Option (Node Text) × Option (Node Text) → Answer Items
on_nodes h p = Value (on_both h p)

nodes_one : (h : Node Text → Node Text → Bool) (p : Option (Node Text) × Option (Node Text)) → OneAtMost (on_nodes h p)
nodes_one h (Some m, Some n) = tt
nodes_one h (Some m, None) = tt
nodes_one h (None, n) = tt

no_node_right : (h : Node Text → Node Text → Bool) (x : Option (Node Text)) → on_nodes h (x, None) ≡ Value []
no_node_right h None = refl
no_node_right h (Some n) = refl

-- comparisons of texts
text_own : (a : Atom) → AmongOwn (fault_in (maybe_text (a ∷ []))) (OfEach c.XPTY0004 ∷ [])
text_own (IntAtom z) = inl refl
text_own (TextAtom t) = inr refl
text_own (UntypedAtom t) = inr refl
text_own (BoolAtom b) = inl refl

abbrev on_both_texts : Option Text × Option Text → Answer Items
on_both_texts p = Value (items_of (order_of p))

texts_one : (p : Option Text × Option Text) → OneAtMost (on_both_texts p)
texts_one (Some t, Some u) = tt
texts_one (Some t, None) = tt
texts_one (None, u) = tt

no_text_right : (x : Option Text) → on_both_texts (x, None) ≡ Value []
no_text_right None = refl
no_text_right (Some t) = refl

-- two texts, of which an absent one is empty
abbrev on_two_texts : (Text → Text → List Atom) → Text × Text → Answer Items
on_two_texts h p = Value (items_of (h p.0 p.1))

read_own : (a : Atom) → AmongOwn (fault_in (text_argument (a ∷ []))) (OfEach c.XPTY0004 ∷ [])
read_own (IntAtom z) = inl refl
read_own (TextAtom t) = inr refl
read_own (UntypedAtom t) = inr refl
read_own (BoolAtom b) = inl refl

module _ (docs : Docs) (s s1 s2 : State) (site : Site) (looped a b t : OpId) (cs : List Check) where
  abbrev TextLifted : Fun → Type 0
  TextLifted g =
      let l = (at s looped).rows in
      let x = filled_rows (TextItem []) l (at s a).rows in
      let y = filled_rows (TextItem []) l (at s b).rows in
      Makes s s1 t three (pair_value_rows g l x y) (pair_most l x y) → Stages site (pair_most l x y) s1 s2 l (pair_marks g (OfEach c.XPTY0004 ∷ []) l x y) cs → CallLifts docs s s2 site (Apply g) looped (a ∷ b ∷ []) t

  abbrev Lifted : Fun → List PairCode → Type 0
  Lifted g es =
      Makes s s1 t three (pair_value_rows g (at s looped).rows (at s a).rows (at s b).rows) (pair_most (at s looped).rows (at s a).rows (at s b).rows)
      → Stages site (pair_most (at s looped).rows (at s a).rows (at s b).rows) s1 s2 (at s looped).rows (pair_marks g es (at s looped).rows (at s a).rows (at s b).rows) cs → CallLifts docs s s2 site (Apply g) looped (a ∷ b ∷ []) t

  overflow_call : (g : Fun) (h : ℤ → ℤ → Answer ℤ) → ((y z : ℤ) → AmongBoth (fault_in (h y z)) (OfBoth c.FOAR0002 ∷ []))
      → ((ds : Docs) (us vs : Items) → fun_answer ds g (us ∷ vs ∷ []) ≡ then_rule (both_of (operand (data_of us)) (operand (data_of vs))) (on_operands h)) → Lifted g (OfEach c.XPTY0004 ∷ OfEach c.FORG0001 ∷ OfBoth c.FOAR0002 ∷ [])
  overflow_call g h k is =
      pair_call (λ vs. operand (data_of vs)) (on_operands h) g (OfEach c.XPTY0004) (OfEach c.FORG0001 ∷ OfBoth c.FOAR0002 ∷ []) None refl refl (λ v u vs. refl) (λ y. refl) (none_right h)
      (λ v. number_own (atomized v) (OfBoth c.FOAR0002 ∷ [])) (operands_both h (OfBoth c.FOAR0002 ∷ []) k) (operands_one h) ((omega arith, (omega arith, tt)), ((omega arith, tt), (tt, tt))) tt (refl, (refl, (refl, tt))) is docs s s1 s2 site looped a b t cs

  division_call : (g : Fun) (h : ℤ → ℤ → Answer ℤ) → ((y z : ℤ) → AmongBoth (fault_in (h y z)) (OfBoth c.FOAR0001 ∷ OfBoth c.FOAR0002 ∷ []))
      → ((ds : Docs) (us vs : Items) → fun_answer ds g (us ∷ vs ∷ []) ≡ then_rule (both_of (operand (data_of us)) (operand (data_of vs))) (on_operands h)) → Lifted g (OfEach c.XPTY0004 ∷ OfEach c.FORG0001 ∷ OfBoth c.FOAR0001 ∷ OfBoth c.FOAR0002 ∷ [])
  division_call g h k is =
      pair_call (λ vs. operand (data_of vs)) (on_operands h) g (OfEach c.XPTY0004) (OfEach c.FORG0001 ∷ OfBoth c.FOAR0001 ∷ OfBoth c.FOAR0002 ∷ []) None refl refl (λ v u vs. refl) (λ y. refl) (none_right h)
      (λ v. number_own (atomized v) (OfBoth c.FOAR0001 ∷ OfBoth c.FOAR0002 ∷ [])) (operands_both h (OfBoth c.FOAR0001 ∷ OfBoth c.FOAR0002 ∷ []) k) (operands_one h) ((omega arith, (omega arith, (omega arith, tt))), ((omega arith, (omega arith, tt)), ((omega arith, tt), (tt, tt)))) tt (refl, (refl, (refl, (refl, tt)))) is docs s s1 s2 site looped a b t cs

  compare_call : (g : Fun) (op : CompOp) → ((ds : Docs) (us vs : Items) → fun_answer ds g (us ∷ vs ∷ []) ≡ then_rule (both_of (at_most_one (data_of us)) (at_most_one (data_of vs))) (on_atoms op)) → Lifted g (OfBoth c.XPTY0004 ∷ [])
  compare_call g op is =
      pair_call (λ vs. at_most_one (data_of vs)) (on_atoms op) g (OfBoth c.XPTY0004) [] None refl refl (λ v u vs. refl) (λ y. refl) (no_atom_right op)
      (λ v. refl) (atoms_both op) (atoms_one op) (tt, tt) tt (refl, tt) is docs s s1 s2 site looped a b t cs

  node_call : (g : Fun) (h : Node Text → Node Text → Bool) → ((ds : Docs) (us vs : Items) → fun_answer ds g (us ∷ vs ∷ []) ≡ then_rule (both_of (maybe_node us) (maybe_node vs)) (on_nodes h)) → Lifted g (OfEach c.XPTY0004 ∷ [])
  node_call g h is =
      pair_call maybe_node (on_nodes h) g (OfEach c.XPTY0004) [] None refl refl two_nodes (λ y. refl) (no_node_right h)
      node_own (λ p. refl) (nodes_one h) (tt, tt) tt (refl, tt) is docs s s1 s2 site looped a b t cs

  order_call : Lifted f.Compare (OfEach c.XPTY0004 ∷ [])
  order_call =
      pair_call (λ vs. maybe_text (data_of vs)) on_both_texts f.Compare (OfEach c.XPTY0004) [] None refl refl (λ v u vs. refl) (λ y. refl) no_text_right
      (λ v. text_own (atomized v)) (λ p. refl) texts_one (tt, tt) tt (refl, tt) (λ ds us vs. as_rule_twice items_of order_of (both_of (maybe_text (data_of us)) (maybe_text (data_of vs)))) docs s s1 s2 site looped a b t cs

  comparison_call : (op : CompOp) → Lifted (comparison op) (OfBoth c.XPTY0004 ∷ [])
  comparison_call o.Eq = compare_call f.Eq o.Eq (λ ds us vs. moved_in items_of (where_both o.Eq) (both_of (at_most_one (data_of us)) (at_most_one (data_of vs))))
  comparison_call o.Ne = compare_call f.Ne o.Ne (λ ds us vs. moved_in items_of (where_both o.Ne) (both_of (at_most_one (data_of us)) (at_most_one (data_of vs))))
  comparison_call o.Lt = compare_call f.Lt o.Lt (λ ds us vs. moved_in items_of (where_both o.Lt) (both_of (at_most_one (data_of us)) (at_most_one (data_of vs))))
  comparison_call o.Le = compare_call f.Le o.Le (λ ds us vs. moved_in items_of (where_both o.Le) (both_of (at_most_one (data_of us)) (at_most_one (data_of vs))))
  comparison_call o.Gt = compare_call f.Gt o.Gt (λ ds us vs. moved_in items_of (where_both o.Gt) (both_of (at_most_one (data_of us)) (at_most_one (data_of vs))))
  comparison_call o.Ge = compare_call f.Ge o.Ge (λ ds us vs. moved_in items_of (where_both o.Ge) (both_of (at_most_one (data_of us)) (at_most_one (data_of vs))))

  pub pair_rule_call : (q : PairRule) → Lifted (pair_fun q) (pair_codes q)
  pair_rule_call Sums = overflow_call f.Add sum_of (λ y z. checked_both (y +ℤ z)) (λ ds us vs. moved_in items_of (on_numbers sum_of) (both_of (operand (data_of us)) (operand (data_of vs))))
  pair_rule_call Differences = overflow_call f.Subtract difference_of (λ y z. checked_both (y -ℤ z)) (λ ds us vs. moved_in items_of (on_numbers difference_of) (both_of (operand (data_of us)) (operand (data_of vs))))
  pair_rule_call Products = overflow_call f.Multiply product_of (λ y z. checked_both (y *ℤ z)) (λ ds us vs. moved_in items_of (on_numbers product_of) (both_of (operand (data_of us)) (operand (data_of vs))))
  pair_rule_call Quotients = division_call f.IntegerDivide quotient_of (λ y z. divided_both z (int_div y z)) (λ ds us vs. moved_in items_of (on_numbers quotient_of) (both_of (operand (data_of us)) (operand (data_of vs))))
  pair_rule_call Remainders = division_call f.Modulo remainder_of (λ y z. divided_both z (int_rem y z)) (λ ds us vs. moved_in items_of (on_numbers remainder_of) (both_of (operand (data_of us)) (operand (data_of vs))))
  pair_rule_call (Compares op) = comparison_call op
  pair_rule_call SameNodes = node_call f.Is node_eq (λ ds us vs. as_rule (on_both node_eq) (both_of (maybe_node us) (maybe_node vs)))
  pair_rule_call NodesBefore = node_call f.Before node_less (λ ds us vs. as_rule (on_both node_less) (both_of (maybe_node us) (maybe_node vs)))
  pair_rule_call NodesAfter = node_call f.After (λ m n. node_less n m) (λ ds us vs. as_rule (on_both (λ m n. node_less n m)) (both_of (maybe_node us) (maybe_node vs)))
  pair_rule_call OrdersTexts = order_call

  -- two texts, of which an absent one is empty
  text_call : (g : Fun) (F : Text → Text → List Atom) → ((t u : Text) → OneAtMost (Value (items_of (F t u)))) → ((ds : Docs) (us vs : Items) → fun_answer ds g (us ∷ vs ∷ []) ≡ with_value items_of (on_texts F (data_of us) (data_of vs))) → TextLifted g
  text_call g F one is m st =
      let R = λ (vs : Items). text_argument (data_of vs) in
      let K = λ (p : Text × Text). on_two_texts F p in
      let rule = λ (ds : Docs) (us vs : Items). is ds us vs ∙ as_rule_twice items_of (λ (p : Text × Text). F p.0 p.1) (both_of (text_argument (data_of us)) (text_argument (data_of vs))) in
      let outcome = λ (u v : Cell). ap outcome_of (rule [] (u ∷ []) (v ∷ [])) in
      checked_pair_call docs s s1 s2 site looped a b t cs g (OfEach c.XPTY0004) [] (tt, tt) (refl, tt) _ _ (fill (TextItem [])) (fill (TextItem []))
      (λ its h asc sl sa. (filled_stands (TextItem []) h its _ _ asc sl sa, few_filled (TextItem []) h its _ _ asc sl sa))
      (λ its k asc sl sb. (filled_stands (TextItem []) k its _ _ asc sl sb, few_filled (TextItem []) k its _ _ asc sl sb))
      (λ us vs. then_rule (both_of (R us) (R vs)) K) (λ us vs. rule docs us vs)
      (λ us vs. filled_faults R K g (OfEach c.XPTY0004) [] [] refl refl (λ v u ws. refl) (λ y. refl) (λ x. refl) (tt, tt) tt (λ v. read_own (atomized v)) (λ p. refl) outcome (λ p. one p.0 p.1) (TextItem []) refl us vs)
      (λ us vs. filled_values R K g (OfEach c.XPTY0004) [] [] refl refl (λ v u ws. refl) (λ y. refl) (λ x. refl) (tt, tt) tt (λ v. read_own (atomized v)) (λ p. refl) outcome (λ p. one p.0 p.1) (TextItem []) refl us vs) m st

  pub text_pair_call : (q : TextPairRule) → TextLifted (text_pair_fun q)
  text_pair_call Containing = text_call f.Contains (λ t u. truth (contains t u)) (λ t u. tt) (λ ds us vs. refl)
  text_pair_call Starting = text_call f.StartsWith (λ t u. truth (starts_with t u)) (λ t u. tt) (λ ds us vs. refl)
  text_pair_call Ending = text_call f.EndsWith (λ t u. truth (ends_with t u)) (λ t u. tt) (λ ds us vs. refl)
  text_pair_call Preceding = text_call f.SubstringBefore (λ t u. text_list (text_before t u)) (λ t u. tt) (λ ds us vs. refl)
  text_pair_call Following = text_call f.SubstringAfter (λ t u. text_list (text_after t u)) (λ t u. tt) (λ ds us vs. refl)
