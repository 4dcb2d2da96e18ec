-- Calls of conversions to one kind of atomic values, from the rows of their operators.
use Rattle.std.proofs.Common.{◌≡◌, ℕ, ◌+◌, Bool, true, false, cond, not, ◌&&◌, ◌||◌, List, [], ◌∷◌, ◌++◌, length, map, refl, sym, ap, ◌∙◌, subst, arith, Option, Some, None, ℤ}
use Rattle.std.specs.List.{filter, flat_map, list_any}
use Rattle.xq_base.specs.declared.code.Code.TheVariants as c
use Rattle.xq_base.specs.declared.fun.Fun.TheVariants as f
use Rattle.xq_base.specs.declared.fun.AtomKind.{AtomKind}
use Rattle.xq_base.specs.declared.fun.AtomKind.TheVariants as a'
use Rattle.xq_base.specs.declared.fun.ItemKind.TheVariants as k'
use Rattle.xq_base.specs.Answers.{Answer, Value, Fault as Refused, with_value, both_of}
use Rattle.xq_base.specs.Texts.{integer_in, boolean_in}
use Rattle.xq_base.specs.Atoms.{Atom, IntAtom, TextAtom, UntypedAtom, BoolAtom, spelled}
use Rattle.xq_base.specs.Comparisons.{bool_eq}
use Rattle.xq_base.specs.Aggregates.{all_of}
use Rattle.doc_table.specs.Items.{BoolItem}
use Rattle.doc_table.specs.Nodes.{item_kind_eq}
use Rattle.doc_table.specs.Values.{Items, items_of, item_of_atom, data_of, atomized, kind_of_item}
use Rattle.doc_table.specs.NodeRules.{Docs}
use Rattle.plan_dag.specs.declared.op.OpId.{OpId}
use Rattle.plan_dag.specs.declared.check.Check.{Check}
use Rattle.plan_dag.specs.Cells.{Gives, given, code_in}
use Rattle.plan_dag.specs.ItemRules.{Cell, is_true, outcome_of}
use Rattle.plan_dag.specs.Rows.{is_code}
use Rattle.plan_dag.specs.Meaning.{cell}
use Rattle.plan_dag.specs.Meaning.{cells as cells_at}
use Rattle.core_meaning.specs.declared.node.Occurs.{Occurs}
use Rattle.core_meaning.specs.Types.{occurs_so, converted_atom, if_number, converted_atoms}
use Rattle.core_meaning.specs.Expr.{Site, ConvertTo}
use Rattle.core_meaning.specs.Meaning.{value_in}
use Rattle.lift_laws.specs.Sums.{AllOf, Ascends, Same}
use Rattle.lift_laws.specs.Iterations.{Row, Iter, num, item_rows, value_rows, loop_rows}
use Rattle.lift_laws.specs.Bulk.{list_of}
use Rattle.lift_laws.specs.States.{State, at, Makes, column, three}
use Rattle.lift_laws.specs.Shapes.{bare, pair, pick, four, five, item_value_rows, data_rows}
use Rattle.lift_laws.specs.Stages.{Stages}
use Rattle.lift_laws.specs.TypeTests.{OfKind, sequence_test, other_counts}
use Rattle.lift_laws.specs.Conversions.{seven, eight, misfit_rows, kind_marks}
use Rattle.lift_laws.specs.Lifting.{CallLifts}
use Rattle.lift_laws.proofs.Multi.{same-of, same-trans, same-map, same-flat}
use Rattle.lift_laws.proofs.Picks.{all_mono, flat-all, flat-flat, map-flat, map-map}
use Rattle.lift_laws.proofs.Sizes.{map_length}
use Rattle.lift_laws.proofs.Marks.{Marks, some, fault_in, code_self}
use Rattle.lift_laws.proofs.Cleared.{none_of, AllMark}
use Rattle.lift_laws.proofs.Stagings.{marked_rows, stages_one}
use Rattle.lift_laws.proofs.ItemCase.{fails_at, marks_fail}
use Rattle.lift_laws.proofs.DataCase.{as_atom, data_stands}
use Rattle.lift_laws.proofs.PairCodes.{sooner}
use Rattle.lift_laws.proofs.ConcatCase.{marks_of_some}
use Rattle.lift_laws.proofs.TypeCase.{all_marks, none_both, count_tests, counts_pass, count_marks}
use Rattle.lift_laws.proofs.ReadingCase.{fault_by, with_fault, both_fault, both_calm}
use Rattle.lift_laws.proofs.Tested.{marks_tested}

-- an atomic value that is neither untyped nor of the kind
abbrev misfit : AtomKind → Cell → Bool
misfit kind v = bool_eq (item_kind_eq (k'.Atom a'.Untyped) (kind_of_item v) || item_kind_eq (k'.Atom kind) (kind_of_item v)) false

abbrev as_untyped : Row → List Row
as_untyped r = map (λ v. r ++ v ∷ []) (given (bare.value (f.IsKind (k'.Atom a'.Untyped)) (cells_at bare three (column 2 ∷ []) r)))

abbrev as_kind : AtomKind → Row → List Row
as_kind kind r = map (λ v. r ++ v ∷ []) (given (bare.value (f.IsKind (k'.Atom kind)) (cells_at bare four (column 2 ∷ []) r)))

abbrev as_either : Row → List Row
as_either r = map (λ v. r ++ v ∷ []) (given (bare.value f.Or (cells_at bare five (column 3 ∷ column 4 ∷ []) r)))

abbrev with_false : Row → Row
with_false r = r ++ BoolItem false ∷ []

abbrev as_misfit : Row → List Row
as_misfit r = map (λ v. r ++ v ∷ []) (given (bare.value f.Eq (cells_at bare seven (column 5 ∷ column 6 ∷ []) r)))

abbrev judged : AtomKind → Row → List Row
judged kind r = flat_map as_misfit (map with_false (flat_map as_either (flat_map (as_kind kind) (as_untyped r))))

abbrev is_misfit : Row → Bool
is_misfit r = is_true (cell bare eight (column 7) r)

one_by_one : (kind : AtomKind) (d : List Row) → flat_map as_misfit (map with_false (flat_map as_either (flat_map (as_kind kind) (flat_map as_untyped d)))) ≡ flat_map (judged kind) d
one_by_one kind d =
    ap (λ rs. flat_map as_misfit (map with_false (flat_map as_either rs))) (flat-flat (as_kind kind) as_untyped d)
    ∙ ap (λ rs. flat_map as_misfit (map with_false rs)) (flat-flat as_either (λ r. flat_map (as_kind kind) (as_untyped r)) d)
    ∙ ap (flat_map as_misfit) (map-flat with_false (λ r. flat_map as_either (flat_map (as_kind kind) (as_untyped r))) d)
    ∙ flat-flat as_misfit (λ r. map with_false (flat_map as_either (flat_map (as_kind kind) (as_untyped r)))) d

some_if : (b : Bool) (r : Row) → some (cond b (r ∷ []) []) ≡ b
some_if true r = refl
some_if false r = refl

marks_misfit : (kind : AtomKind) (h : Iter → List Cell) (its : List Iter) (d : List Row) → Ascends (λ i. i.number) 0 its → Same d (value_rows h its) → Marks (misfit_rows kind d) (λ i. list_any (misfit kind) (h i)) its
marks_misfit kind h its d asc sd =
    subst (λ rs. Marks (map (λ r. pick eight (pair 0 0 ∷ []) r) (filter is_misfit rs)) (λ i. list_any (misfit kind) (h i)) its) (sym (one_by_one kind d))
    (marks_tested eight (judged kind) is_misfit (misfit kind) (λ n k v. some_if (misfit kind v) _) (λ n k v. (refl, tt)) h its d asc sd)

-- what one atomic value fails with
abbrev uncast : AtomKind → Cell → Bool
uncast kind v = fails_at (f.CastTo kind) c.FORG0001 v

atom_fault : (kind : AtomKind) (b : Atom) → fault_in (converted_atom kind b) ≡ fault_by (misfit kind (item_of_atom b)) (uncast kind (item_of_atom b))
atom_fault a'.Integer (UntypedAtom t) = go (integer_in t)
  where
    go : (o : Option ℤ) → fault_in (spelled IntAtom o) ≡ fault_by false (is_code c.FORG0001 (code_in (outcome_of (with_value (λ b. item_of_atom b ∷ []) (spelled IntAtom o)))))
    go None = sym (ap (fault_by false) (code_self c.FORG0001))
    go (Some z) = refl
atom_fault a'.Boolean (UntypedAtom t) = go (boolean_in t)
  where
    go : (o : Option Bool) → fault_in (spelled BoolAtom o) ≡ fault_by false (is_code c.FORG0001 (code_in (outcome_of (with_value (λ b. item_of_atom b ∷ []) (spelled BoolAtom o)))))
    go None = sym (ap (fault_by false) (code_self c.FORG0001))
    go (Some z) = refl
atom_fault a'.Text (UntypedAtom t) = refl
atom_fault a'.Untyped (UntypedAtom t) = refl
atom_fault a'.Integer (IntAtom z) = refl
atom_fault a'.Integer (TextAtom t) = refl
atom_fault a'.Integer (BoolAtom b) = refl
atom_fault a'.Text (IntAtom z) = refl
atom_fault a'.Text (TextAtom t) = refl
atom_fault a'.Text (BoolAtom b) = refl
atom_fault a'.Boolean (IntAtom z) = refl
atom_fault a'.Boolean (TextAtom t) = refl
atom_fault a'.Boolean (BoolAtom b) = refl
atom_fault a'.Untyped (IntAtom z) = refl
atom_fault a'.Untyped (TextAtom t) = refl
atom_fault a'.Untyped (BoolAtom b) = refl

merged : (a b d e : Bool) → sooner (fault_by a b) (fault_by d e) ≡ fault_by (a || d) (b || e)
merged false false false false = refl
merged false false false true = refl
merged false false true e = refl
merged false true false false = refl
merged false true false true = refl
merged false true true e = refl
merged true b false false = refl
merged true b false true = refl
merged true b true e = refl

abbrev atoms_at : Items → Items
atoms_at vs = map as_atom vs

atoms_fault : (kind : AtomKind) (vs : Items) → fault_in (all_of (converted_atom kind) (data_of vs)) ≡ fault_by (list_any (misfit kind) (atoms_at vs)) (list_any (uncast kind) (atoms_at vs))
atoms_fault kind [] = refl
atoms_fault kind (v ∷ vs) =
    with_fault _ (both_of (converted_atom kind (atomized v)) (all_of (converted_atom kind) (data_of vs))) ∙ both_fault (converted_atom kind (atomized v)) (all_of (converted_atom kind) (data_of vs))
    ∙ ap (λ x. sooner x (fault_in (all_of (converted_atom kind) (data_of vs)))) (atom_fault kind (atomized v))
    ∙ ap (sooner (fault_by (misfit kind (as_atom v)) (uncast kind (as_atom v)))) (atoms_fault kind vs)
    ∙ merged (misfit kind (as_atom v)) (uncast kind (as_atom v)) (list_any (misfit kind) (atoms_at vs)) (list_any (uncast kind) (atoms_at vs))

abbrev answer : AtomKind → Occurs → Items → Answer Items
answer kind occurs vs = converted_atoms kind occurs (data_of vs)

number_fault : (b : Bool) (bs : List Atom) → fault_in (cond b (Value bs) (Refused c.XPTY0004)) ≡ fault_by (not b) false
number_fault true bs = refl
number_fault false bs = refl

abbrev type_tests : AtomKind → Occurs → (Iter → List Cell) → List (Iter → Bool)
type_tests kind occurs h = count_tests occurs h ++ (λ i. list_any (misfit kind) (atoms_at (h i))) ∷ []

abbrev tests : AtomKind → Occurs → (Iter → List Cell) → List (Iter → Bool)
tests kind occurs h = (λ i. not (none_of (type_tests kind occurs h) i)) ∷ (λ i. list_any (uncast kind) (atoms_at (h i))) ∷ []

answer_fault : (kind : AtomKind) (occurs : Occurs) (h : Iter → List Cell) (i : Iter) → fault_in (answer kind occurs (h i)) ≡ fault_by (not (none_of (type_tests kind occurs h) i)) (list_any (uncast kind) (atoms_at (h i)))
answer_fault kind occurs h i =
    let bs = data_of (h i) in
    let W = list_any (misfit kind) (atoms_at (h i)) in
    let U = list_any (uncast kind) (atoms_at (h i)) in
    let n : occurs_so occurs (length (data_of (h i))) ≡ none_of (count_tests occurs h) i = ap (occurs_so occurs) (map_length atomized (h i)) ∙ sym (counts_pass occurs h i) in
    with_fault (λ (p : List Atom × List Atom). items_of p.1) (both_of (if_number occurs bs) (all_of (converted_atom kind) bs)) ∙ both_fault (if_number occurs bs) (all_of (converted_atom kind) bs)
    ∙ ap (λ x. sooner x (fault_in (all_of (converted_atom kind) bs))) (number_fault (occurs_so occurs (length bs)) bs)
    ∙ ap (sooner (fault_by (not (occurs_so occurs (length bs))) false)) (atoms_fault kind (h i))
    ∙ merged (not (occurs_so occurs (length bs))) false W U
    ∙ ap (λ b. fault_by (not b || W) U) n
    ∙ ap (λ b. fault_by b U) (either (none_of (count_tests occurs h) i) W)
    ∙ ap (λ b. fault_by (not b) U) (sym (none_both (count_tests occurs h) ((λ j. list_any (misfit kind) (atoms_at (h j))) ∷ []) i))
  where
    either : (a b : Bool) → (not a || b) ≡ not (a && (not b && true))
    either true true = refl
    either true false = refl
    either false b = refl

-- the casts where nothing fails
cast_same : (kind : AtomKind) (b d : Atom) → converted_atom kind b ≡ Value d → bare.value (f.CastTo kind) (item_of_atom b ∷ []) ≡ Gives (item_of_atom d)
cast_same kind (UntypedAtom t) d e = ap (λ x. outcome_of (with_value (λ b. item_of_atom b ∷ []) x)) e
cast_same a'.Integer (IntAtom z) d e = ap (λ x. outcome_of (with_value (λ b. item_of_atom b ∷ []) x)) e
cast_same a'.Integer (TextAtom t) d e = cc
cast_same a'.Integer (BoolAtom b) d e = cc
cast_same a'.Text (IntAtom z) d e = cc
cast_same a'.Text (TextAtom t) d e = ap (λ x. outcome_of (with_value (λ b. item_of_atom b ∷ []) x)) e
cast_same a'.Text (BoolAtom b) d e = cc
cast_same a'.Boolean (IntAtom z) d e = cc
cast_same a'.Boolean (TextAtom t) d e = cc
cast_same a'.Boolean (BoolAtom b) d e = ap (λ x. outcome_of (with_value (λ b. item_of_atom b ∷ []) x)) e
cast_same a'.Untyped (IntAtom z) d e = cc
cast_same a'.Untyped (TextAtom t) d e = cc
cast_same a'.Untyped (BoolAtom b) d e = cc

abbrev with_cast : AtomKind → Row → List Row
with_cast kind r = map (λ v. r ++ v ∷ []) (given (bare.value (f.CastTo kind) (cells_at bare three (column 2 ∷ []) r)))

abbrev out : Row → Row
out r = pick four (pair 0 0 ∷ pair 1 1 ∷ pair 2 3 ∷ []) r

casts_at : (kind : AtomKind) (n k : ℕ) (bs : List Atom) → fault_in (all_of (converted_atom kind) bs) ≡ None
    → map out (flat_map (with_cast kind) (item_rows n k (items_of bs))) ≡ item_rows n k (list_of (value_in (with_value items_of (all_of (converted_atom kind) bs))))
casts_at kind n k [] e = refl
casts_at kind n k (b ∷ bs) e =
    let q = both_calm (converted_atom kind b) (all_of (converted_atom kind) bs) (sym (with_fault _ (both_of (converted_atom kind b) (all_of (converted_atom kind) bs))) ∙ e) in
    go (converted_atom kind b) refl (all_of (converted_atom kind) bs) q.0 q.1 (casts_at kind n (k + 1) bs q.1)
  where
    go : (x : Answer Atom) → converted_atom kind b ≡ x → (y : Answer (List Atom)) → fault_in x ≡ None → fault_in y ≡ None
        → map out (flat_map (with_cast kind) (item_rows n (k + 1) (items_of bs))) ≡ item_rows n (k + 1) (list_of (value_in (with_value items_of y)))
        → map out (flat_map (with_cast kind) (item_rows n k (items_of (b ∷ bs)))) ≡ item_rows n k (list_of (value_in (with_value items_of (with_value (λ (p : Atom × List Atom). p.0 ∷ p.1) (both_of x y)))))
    go (Value d) p (Value ds) q r s =
        ap (λ x. map out (map (λ v. (num n ∷ num k ∷ item_of_atom b ∷ []) ++ v ∷ []) (given x) ++ flat_map (with_cast kind) (item_rows n (k + 1) (items_of bs)))) (cast_same kind b d p)
        ∙ ap (λ l. (num n ∷ num k ∷ item_of_atom d ∷ []) ∷ l) s
    go (Value d) p (Refused e') q r s = cc
    go (Refused e') p y q r s = cc

inner : (x : Answer (List Atom)) (y : Answer (List Atom)) → fault_in (both_of x y) ≡ None → list_of (value_in (with_value items_of y)) ≡ list_of (value_in (with_value (λ (p : List Atom × List Atom). items_of p.1) (both_of x y)))
inner (Value a) (Value b) e = refl
inner (Value a) (Refused d) e = cc
inner (Refused d) (Value b) e = cc
inner (Refused d) (Refused k) e = refl

item_casts : (kind : AtomKind) (occurs : Occurs) (n : ℕ) (vs : Items) → fault_in (answer kind occurs vs) ≡ None → map out (flat_map (with_cast kind) (item_rows n 1 (atoms_at vs))) ≡ item_rows n 1 (list_of (value_in (answer kind occurs vs)))
item_casts kind occurs n vs e =
    let bs = data_of vs in
    let both = sym (with_fault (λ (p : List Atom × List Atom). items_of p.1) (both_of (if_number occurs bs) (all_of (converted_atom kind) bs))) ∙ e in
    ap (λ us. map out (flat_map (with_cast kind) (item_rows n 1 us))) (sym (map-map item_of_atom atomized vs))
    ∙ casts_at kind n 1 bs (both_calm (if_number occurs bs) (all_of (converted_atom kind) bs) both).1
    ∙ ap (item_rows n 1) (inner (if_number occurs bs) (all_of (converted_atom kind) bs) both)

module _ (kind : AtomKind) (occurs : Occurs) (its : List Iter) (h : Iter → List Cell) (l a : List Row) (asc : Ascends (λ i. i.number) 0 its) (sl : Same l (loop_rows its)) (sa : Same a (value_rows h its)) where
  data_there : Same (data_rows a) (value_rows (λ i. atoms_at (h i)) its)
  data_there = data_stands h its a sa

  marked : AllMark (marked_rows (kind_marks kind occurs l a)) (tests kind occurs h) its
  marked = (
    marks_of_some (other_counts occurs l a ++ misfit_rows kind (data_rows a) ∷ []) (type_tests kind occurs h) its l asc sl
        (all_marks (other_counts occurs l a) (misfit_rows kind (data_rows a) ∷ []) (count_tests occurs h) ((λ i. list_any (misfit kind) (atoms_at (h i))) ∷ []) its (count_marks its h l a asc sl sa occurs) (marks_misfit kind (λ i. atoms_at (h i)) its (data_rows a) asc data_there, tt)),
    (marks_fail (f.CastTo kind) c.FORG0001 (λ i. atoms_at (h i)) its (data_rows a) asc data_there, tt),
  )

  stands : AllOf (λ i. fault_in (answer kind occurs (h i)) ≡ None) its → Same (item_value_rows (f.CastTo kind) (data_rows a)) (value_rows (λ i. list_of (value_in (answer kind occurs (h i)))) its)
  stands calm =
      same-trans (same-map out (same-flat (with_cast kind) data_there))
      (same-of (ap (map out) (flat-flat (with_cast kind) (λ i. item_rows i.number 1 (atoms_at (h i))) its)
      ∙ map-flat out (λ i. flat_map (with_cast kind) (item_rows i.number 1 (atoms_at (h i)))) its
      ∙ flat-all _ _ its (all_mono _ _ (λ i (e : fault_in (answer kind occurs (h i)) ≡ None). item_casts kind occurs i.number (h i) e) its calm)))

pub kind_conversion_call : (docs : Docs) (s s1 s2 : State) (site : Site) (kind : AtomKind) (occurs : Occurs) (looped a t : OpId) (cs : List Check)
    → Makes s s1 t three (item_value_rows (f.CastTo kind) (data_rows (at s a).rows)) (length (at s a).rows)
    → Stages site (length (at s looped).rows + length (at s a).rows) s1 s2 (at s looped).rows (kind_marks kind occurs (at s looped).rows (at s a).rows) cs
    → CallLifts docs s s2 site (ConvertTo (sequence_test (OfKind kind) occurs)) looped (a ∷ []) t
kind_conversion_call docs s s1 s2 site kind occurs looped a t cs m st =
    stages_one docs s s1 s2 site (ConvertTo (sequence_test (OfKind kind) occurs)) looped a t cs (kind_marks kind occurs (at s looped).rows (at s a).rows) [] (tests kind occurs) refl
    ((omega arith, tt), (tt, tt)) (refl, (refl, tt)) _ _ _ m st
    (λ N l w. (omega arith, l)) (answer kind occurs) (λ h i. refl) (answer_fault kind occurs)
    (λ its h asc sl sa. marked kind occurs its h (at s looped).rows (at s a).rows asc sl sa)
    (λ its h asc sl sa. tt)
    (λ its h asc sl sa tree rooted calm. stands kind occurs its h (at s looped).rows (at s a).rows asc sl sa calm)
