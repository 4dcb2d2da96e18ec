-- Calls of functions of one item, from the rows of their operators: a check for each code, and a map over the items.
use Rattle.std.proofs.Common.{◌≡◌, ℕ, ◌+◌, ◌≤◌, ◌<◌, Bool, true, false, cond, ◌||◌, ◌⊎◌, ℤ, neg_ℤ, List, [], ◌∷◌, ◌++◌, length, map, refl, sym, ap, ◌∙◌, subst, inl, inr, ⊎_elim, arith, Option, Some, None, true≢false, length-append, zero-add}
use Rattle.std.specs.List.{filter, flat_map, list_any}
use Rattle.std.proofs.lemmas.Bool.{ne_eqb}
use Rattle.std.proofs.Math.Nat.{max-le}
use denote.Enum.Bare.{same_true}
use Rattle.xq_base.specs.contracts.code.Code.{the_type}
use Rattle.xq_base.specs.declared.code.Code.{Code}
use Rattle.xq_base.specs.declared.code.Code.TheVariants as c
use Rattle.xq_base.specs.declared.fun.Fun.{Fun}
use Rattle.xq_base.specs.declared.fun.Fun.TheVariants as f
use Rattle.xq_base.specs.declared.fun.AtomKind.{AtomKind}
use Rattle.xq_base.specs.declared.fun.AtomKind.TheVariants as k
use Rattle.xq_base.specs.Answers.{Answer, Value, Fault as Refused, with_value, then_rule}
use Rattle.xq_base.specs.Texts.{Text, text_eq, integer_in, boolean_in, fits_int}
use Rattle.xq_base.specs.Atoms.{Atom, IntAtom, TextAtom, UntypedAtom, BoolAtom, spelled, cast_atom}
use Rattle.xq_base.specs.Arithmetic.{or_no_cast, operand, checked, integer_list, on_number}
use Rattle.xq_base.specs.TextRules.{absolute, maybe_text}
use Rattle.doc_table.specs.Tree.{Tree}
use Rattle.doc_table.specs.Identity.{TreeId}
use Rattle.doc_table.specs.Values.{Items, items_of, item_of_atom, atomized, data_of, cast_items}
use Rattle.doc_table.specs.Identity.{DocTree}
use Rattle.doc_table.specs.Items.{IntItem, TextItem, UntypedItem, BoolItem, NodeItem}
use Rattle.doc_table.specs.Nodes.{root_path}
use Rattle.doc_table.specs.NodeRules.{Docs, root_answer, doc_named, doc_or_none, doc_answer}
use Rattle.plan_dag.specs.declared.op.OpId.{OpId}
use Rattle.plan_dag.specs.declared.check.Check.{Check}
use Rattle.plan_dag.specs.Cells.{given, code_in}
use Rattle.plan_dag.specs.ItemRules.{Cell, cell_eq, outcome_of, fun_outcome}
use Rattle.plan_dag.specs.Rows.{code_eq, is_code}
use Rattle.plan_dag.specs.Meaning.{cell}
use Rattle.plan_dag.specs.Meaning.{cells as cells_at}
use Rattle.core_meaning.specs.Expr.{Site, Rule}
use Rattle.core_meaning.specs.Meaning.{value_in}
use Rattle.core_meaning.specs.Failures.{failure, faults_of}
use Rattle.core_meaning.specs.Work.{rule_work}
use Rattle.core_meaning.specs.Lawful.{is_dynamic}
use Rattle.lift_laws.specs.Sums.{total, bit, AllOf, Ascends, Same}
use Rattle.lift_laws.specs.Iterations.{Row, Iter, num, item_rows, value_rows, loop_rows}
use Rattle.lift_laws.specs.Bulk.{list_of, fault, own_walks}
use Rattle.lift_laws.specs.States.{State, at, Small, Grows, Makes, Holds, HoldAll, three, single, column}
use Rattle.lift_laws.specs.Shapes.{bare, pair, pick, four, second_rows, item_fails_rows, item_fails_in, item_value_in}
use Rattle.lift_laws.specs.Stages.{Stages, ItemRule, Negates, Absolutes, Casts, Constructs, Roots, Documents, rule_of, fun_of, codes_of, unfit_rows, unfit_in, marks_in, item_marks_in, item_most_in}
use Rattle.lift_laws.specs.Lifting.{PlacedCheck, Rooted, CallLifts, call_answer, call_faults, call_cost}
use Rattle.lift_laws.proofs.Numbers.{num_same}
use Rattle.lift_laws.proofs.Multi.{same-of, same-trans, same-map, same-flat, same-length, length-total, length-filter, total-flat, total-sum}
use Rattle.lift_laws.proofs.Picks.{all_each, all_mono, flat-all, flat-flat, map-flat}
use Rattle.lift_laws.proofs.Values.{flat_nil}
use Rattle.lift_laws.proofs.Simple.{second_stands}
use Rattle.lift_laws.proofs.Sizes.{map_length, size_cells, total_most}
use Rattle.lift_laws.proofs.Keeping.{append_none, grows_trans, holds_keep, makes_holds, small_join, small_keep, small_most}
use Rattle.lift_laws.proofs.Marks.{Marks, marks_or, fault_in, code_self}
use Rattle.lift_laws.proofs.Operands.{has_two, marks_second, marks_items}
use Rattle.lift_laws.proofs.Cleared.{AllMark}
use Rattle.lift_laws.proofs.Staged.{first_code, op_sizes, staged_call}
use Rattle.lift_laws.proofs.Stagings.{stages_grow, stages_quiet, stages_small, stages_staged, stages_placed, stages_codes, CodesAre, Ranked, ordered}
use Rattle.lift_laws.proofs.FunctionCases.{is_value_of, unmap}

-- whether a function of one item fails for an item with a code
abbrev pub fails_in : Docs → Fun → Code → Cell → Bool
fails_in dx g d v = is_code d (code_in (fun_outcome dx g (v ∷ [])))

abbrev pub fails_at : Fun → Code → Cell → Bool
fails_at g d v = fails_in [] g d v

marks_fail_in : (dx : Docs) (g : Fun) (d : Code) (h : Iter → List Cell) (its : List Iter) (a : List Row) → Ascends (λ i. i.number) 0 its → Same a (value_rows h its) → Marks (item_fails_in dx g d a) (λ i. list_any (fails_in dx g d) (h i)) its
marks_fail_in dx g d h its a asc s = marks_items (fails_in dx g d) (λ r. is_code d (code_in (fun_outcome dx g (cells_at bare three (column 2 ∷ []) r)))) (λ n k v. refl) h its a asc s

pub marks_fail : (g : Fun) (d : Code) (h : Iter → List Cell) (its : List Iter) (a : List Row) → Ascends (λ i. i.number) 0 its → Same a (value_rows h its) → Marks (item_fails_rows g d a) (λ i. list_any (fails_at g d) (h i)) its
marks_fail g d h its a asc s = marks_fail_in [] g d h its a asc s

-- how many rows they are
pub filter_few : {A : Type 0} (p : A → Bool) (xs : List A) → length (filter p xs) ≤ length xs
filter_few p [] = omega arith
filter_few p (x ∷ xs) =
    let r = filter_few p xs in
    elim (p x) as (λ b. length (cond b (x ∷ filter p xs) (filter p xs)) ≤ length (x ∷ xs)) [ true ↦ omega arith | false ↦ omega arith ]

no_more_second : (n k : ℕ) (vs : List Cell) → 2 < k → total (λ r. bit (cell_eq (cell bare three (column 1) r) (num 2))) (item_rows n k vs) ≡ 0
no_more_second n k [] l = refl
no_more_second n k (v ∷ vs) l =
    let e : cell_eq (num k) (num 2) ≡ false = num_same k 2 ∙ ne_eqb k 2 (λ q. omega arith) in
    ap (λ b. bit b + total (λ r. bit (cell_eq (cell bare three (column 1) r) (num 2))) (item_rows n (k + 1) vs)) e ∙ zero-add _ ∙ no_more_second n (k + 1) vs (omega arith)

second_once : (n : ℕ) (vs : List Cell) → total (λ r. bit (cell_eq (cell bare three (column 1) r) (num 2))) (item_rows n 1 vs) ≤ 1
second_once n [] = omega arith
second_once n (v ∷ []) = omega arith
second_once n (v ∷ u ∷ vs) = let z = no_more_second n 3 vs (omega arith) in omega arith

unfit_few_in : (dx : Docs) (g : Fun) (d : Code) (h : Iter → List Cell) (its : List Iter) (a : List Row) → Same a (value_rows h its) → length (unfit_in dx g d a) ≤ length its + length a
unfit_few_in dx g d h its a s =
    let second = λ (r : Row). cell_eq (cell bare three (column 1) r) (num 2) in
    let fails = item_fails_in dx g d a in
    let both = length-append (second_rows a) (map (cells_at bare single single) fails) in
    let moved = map_length (cells_at bare single single) fails in
    let seconds : length (second_rows a) ≡ total (λ i. total (λ r. bit (second r)) (item_rows i.number 1 (h i))) its =
    same-length (second_stands h its a s) ∙ map_length (pick three (pair 0 0 ∷ [])) (filter second a) ∙ length-filter second a ∙ s.at (λ r. bit (second r)) ∙ total-flat (λ r. bit (second r)) (λ i. item_rows i.number 1 (h i)) its in
    let once = total_most (λ i. total (λ r. bit (second r)) (item_rows i.number 1 (h i))) (λ i. 1) its (λ i. second_once i.number (h i)) in
    let u = length-total its in
    let shown = map_length (pick three (pair 0 0 ∷ [])) (filter (λ r. is_code d (code_in (fun_outcome dx g (cells_at bare three (column 2 ∷ []) r)))) a) in
    let few = filter_few (λ r. is_code d (code_in (fun_outcome dx g (cells_at bare three (column 2 ∷ []) r)))) a in
    omega arith

pub unfit_few : (g : Fun) (d : Code) (h : Iter → List Cell) (its : List Iter) (a : List Row) → Same a (value_rows h its) → length (unfit_rows g d a) ≤ length its + length a
unfit_few g d h its a s = unfit_few_in [] g d h its a s

-- the tests of the codes
abbrev tests_at : Docs → Fun → List Code → (Iter → List Cell) → List (Iter → Bool)
tests_at dx g [] h = []
tests_at dx g (d ∷ ds) h = (λ i. list_any (fails_in dx g d) (h i)) ∷ tests_at dx g ds h

abbrev tests_for : Docs → Fun → List Code → List (Iter → List Cell) → List (Iter → Bool)
tests_for dx g ds [] = []
tests_for dx g ds (h ∷ hs) = (λ i. has_two (h i) || list_any (fails_in dx g c.XPTY0004) (h i)) ∷ tests_at dx g ds h

marks_all : (dx : Docs) (g : Fun) (ds : List Code) (h : Iter → List Cell) (its : List Iter) (a : List Row) → Ascends (λ i. i.number) 0 its → Same a (value_rows h its) → AllMark (map (λ (m : Code × List Row). m.1) (marks_in dx g ds a)) (tests_at dx g ds h) its
marks_all dx g [] h its a asc s = tt
marks_all dx g (d ∷ ds) h its a asc s = (marks_fail_in dx g d h its a asc s, marks_all dx g ds h its a asc s)

pub code_same : (d e : Code) → code_eq d e ≡ true → d ≡ e
code_same d e h = same_true the_type tt d e h

abbrev pub AmongCodes : Code → List Code → Type 0
AmongCodes d [] = ⊥
AmongCodes d (e ∷ es) = (d ≡ e) ⊎ AmongCodes d es

-- what a function of one item gives of it: one item, or a code among these
abbrev pub OneOrCode : List Code → Answer Items → Type 0
OneOrCode ds (Value []) = ⊥
OneOrCode ds (Value (w ∷ [])) = Unit {0}
OneOrCode ds (Value (w ∷ u ∷ ws)) = ⊥
OneOrCode ds (Refused d) = AmongCodes d ds

module _ (dx : Docs) (g : Fun) (J : Cell → Answer Items) (is_outcome : (v : Cell) → fun_outcome dx g (v ∷ []) ≡ outcome_of (J v)) where
  abbrev pub first_of : List Check → List Code → Items → Option Code
  first_of [] es vs = None
  first_of (k ∷ ks) [] vs = None
  first_of (k ∷ ks) (e ∷ es) vs = cond (list_any (fails_in dx g e) vs) (Some k.code) (first_of ks es vs)

  tests_are : (ks : List Check) (es : List Code) (h : Iter → List Cell) (i : Iter) → first_code ks (tests_at dx g es h) i ≡ first_of ks es (h i)
  tests_are [] [] h i = refl
  tests_are [] (e ∷ es) h i = refl
  tests_are (k ∷ ks) [] h i = refl
  tests_are (k ∷ ks) (e ∷ es) h i = ap (cond (list_any (fails_in dx g e) (h i)) (Some k.code)) (tests_are ks es h i)

  first_none : (ks : List Check) (es : List Code) → first_of ks es [] ≡ None
  first_none [] es = refl
  first_none (k ∷ ks) [] = refl
  first_none (k ∷ ks) (e ∷ es) = first_none ks es

  first_value : (ks : List Check) (es : List Code) (v w : Cell) → J v ≡ Value (w ∷ []) → first_of ks es (v ∷ []) ≡ None
  first_value [] es v w q = refl
  first_value (k ∷ ks) [] v w q = refl
  first_value (k ∷ ks) (e ∷ es) v w q = ap (λ x. cond (is_code e (code_in x) || false) (Some k.code) (first_of ks es (v ∷ []))) (is_outcome v ∙ ap outcome_of q) ∙ first_value ks es v w q

  first_fault : (ks : List Check) (es : List Code) (v : Cell) (d : Code) → CodesAre ks es → J v ≡ Refused d → AmongCodes d es → first_of ks es (v ∷ []) ≡ Some d
  first_fault [] [] v d a q m = absurd m
  first_fault [] (e ∷ es) v d a q m = absurd a
  first_fault (k ∷ ks) [] v d a q m = absurd m
  first_fault (k ∷ ks) (e ∷ es) v d a q m =
      ap (λ x. cond (is_code e (code_in x) || false) (Some k.code) (first_of ks es (v ∷ []))) (is_outcome v ∙ ap outcome_of q)
      ∙ go (code_eq e d) refl (λ n. first_fault ks es v d a.1 q n)
    where
      go : (b : Bool) → code_eq e d ≡ b → (AmongCodes d es → first_of ks es (v ∷ []) ≡ Some d) → cond (code_eq e d || false) (Some k.code) (first_of ks es (v ∷ [])) ≡ Some d
      go true p r = ap (λ b. cond (b || false) (Some k.code) (first_of ks es (v ∷ []))) p ∙ ap Some (a.0 ∙ code_same e d p)
      go false p r =
          ap (λ b. cond (b || false) (Some k.code) (first_of ks es (v ∷ []))) p
          ∙ ⊎_elim (λ z. absurd (true≢false (sym (ap (code_eq e) z ∙ code_self e) ∙ p))) r m

  abbrev with_item : Row → List Row
  with_item r = map (λ v. r ++ v ∷ []) (given (fun_outcome dx g (cells_at bare three (column 2 ∷ []) r)))

  abbrev out : Row → Row
  out r = pick four (pair 0 0 ∷ pair 1 1 ∷ pair 2 3 ∷ []) r

  module _ (ds : List Code) (one : (v : Cell) → OneOrCode (c.XPTY0004 ∷ ds) (J v)) (A : Items → Answer Items) (at_none : A [] ≡ Value []) (at_one : (v : Cell) → A (v ∷ []) ≡ J v) (at_two : (v u : Cell) (vs : Items) → A (v ∷ u ∷ vs) ≡ Refused c.XPTY0004) where
    abbrev pub first_in : Check → List Check → Items → Option Code
    first_in k ks vs = cond (has_two vs || list_any (fails_in dx g c.XPTY0004) vs) (Some k.code) (first_of ks ds vs)

    pub faults_are : (k : Check) (ks : List Check) → CodesAre (k ∷ ks) (c.XPTY0004 ∷ ds) → (vs : Items) → fault_in (A vs) ≡ first_in k ks vs
    faults_are k ks a [] = ap fault_in at_none ∙ sym (first_none ks ds)
    faults_are k ks a (v ∷ u ∷ vs) = ap fault_in (at_two v u vs) ∙ ap Some (sym a.0)
    faults_are k ks a (v ∷ []) = ap fault_in (at_one v) ∙ go (J v) refl (one v)
      where
        go : (x : Answer Items) → J v ≡ x → OneOrCode (c.XPTY0004 ∷ ds) x → fault_in (J v) ≡ first_of (k ∷ ks) (c.XPTY0004 ∷ ds) (v ∷ [])
        go (Value []) q o = absurd o
        go (Value (w ∷ [])) q o = ap fault_in q ∙ sym (first_value (k ∷ ks) (c.XPTY0004 ∷ ds) v w q)
        go (Value (w ∷ u ∷ ws)) q o = absurd o
        go (Refused d) q o = ap fault_in q ∙ sym (first_fault (k ∷ ks) (c.XPTY0004 ∷ ds) v d a q o)

    values_are : (n : ℕ) (vs : Items) → fault_in (A vs) ≡ None → map out (flat_map with_item (item_rows n 1 vs)) ≡ item_rows n 1 (list_of (value_in (A vs)))
    values_are n [] e = ap (λ x. item_rows n 1 (list_of (value_in x))) (sym at_none)
    values_are n (v ∷ u ∷ vs) e = let z = sym (ap fault_in (at_two v u vs)) ∙ e in cc
    values_are n (v ∷ []) e = go (J v) refl (one v)
      where
        go : (x : Answer Items) → J v ≡ x → OneOrCode (c.XPTY0004 ∷ ds) x → map out (flat_map with_item (item_rows n 1 (v ∷ []))) ≡ item_rows n 1 (list_of (value_in (A (v ∷ []))))
        go (Value []) q o = absurd o
        go (Value (w ∷ u ∷ ws)) q o = absurd o
        go (Refused d) q o = let z = sym (ap fault_in (at_one v ∙ q)) ∙ e in cc
        go (Value (w ∷ [])) q o =
            ap (λ x. map out (map (λ y. (num n ∷ num 1 ∷ v ∷ []) ++ y ∷ []) (given x) ++ [])) (is_outcome v ∙ ap outcome_of q)
            ∙ ap (λ x. item_rows n 1 (list_of (value_in x))) (sym (at_one v ∙ q))

    pub values_stand : (h : Iter → List Cell) (its : List Iter) (a : List Row) → Same a (value_rows h its) → AllOf (λ i. fault_in (A (h i)) ≡ None) its → Same (item_value_in dx g a) (value_rows (λ i. list_of (value_in (A (h i)))) its)
    values_stand h its a s calm =
        same-trans (same-map out (same-flat with_item s))
        (same-of (ap (map out) (flat-flat with_item (λ i. item_rows i.number 1 (h i)) its)
        ∙ map-flat out (λ i. flat_map with_item (item_rows i.number 1 (h i))) its
        ∙ flat-all _ _ its (all_mono _ _ (λ i (e : fault_in (A (h i)) ≡ None). values_are i.number (h i) e) its calm)))

    -- a call whose checks are those of one item, and whose value is B
    module _ (docs : Docs) (s s1 s2 : State) (site : Site) (r : Rule) (looped a t : OpId) (cs : List Check) (no_step : own_walks site r ≡ []) (ranked : Ranked (c.XPTY0004 ∷ ds)) (dynamic : AllOf (λ d. is_dynamic d ≡ true) ds)
        (B : Items → Answer Items) (rule_is : (h : Iter → List Cell) (i : Iter) → call_answer docs site r (h ∷ []) i ≡ B (h i))
        (first : (k : Check) (ks : List Check) → CodesAre (k ∷ ks) (c.XPTY0004 ∷ ds) → (vs : Items) → fault_in (B vs) ≡ first_in k ks vs)
        (rows : List Row) (most : ℕ) (m : Makes s s1 t three rows most) (within : (N : ℕ) → length (at s looped).rows + length (at s a).rows ≤ N → most ≤ N)
        (value : (its : List Iter) (h : Iter → List Cell) → Ascends (λ i. i.number) 0 its → Holds s looped single (loop_rows its) → Holds s a three (value_rows h its) → AllOf (λ i. fault_in (B (h i)) ≡ None) its → Same rows (value_rows (λ i. list_of (value_in (B (h i)))) its))
        (st : Stages site (item_most_in dx g (at s looped).rows (at s a).rows) s1 s2 (at s looped).rows (item_marks_in dx g ds (at s a).rows) cs) where
      codes : CodesAre cs (c.XPTY0004 ∷ ds)
      codes = subst (λ es. CodesAre cs (c.XPTY0004 ∷ es)) (codes_back ds) (stages_codes site _ s1 s2 (at s looped).rows (item_marks_in dx g ds (at s a).rows) cs st)
        where
          codes_back : (es : List Code) → map (λ (q : Code × List Row). q.0) (marks_in dx g es (at s a).rows) ≡ es
          codes_back [] = refl
          codes_back (e ∷ es) = ap (λ l. e ∷ l) (codes_back es)

      grown : Grows s1 s2 cs
      grown = stages_grow site _ s1 s2 (at s looped).rows (item_marks_in dx g ds (at s a).rows) cs st

      placed : AllOf (PlacedCheck s2 site) cs
      placed = stages_placed site _ s1 s2 (at s looped).rows (item_marks_in dx g ds (at s a).rows) cs (refl, of_marks ds dynamic) st
        where
          of_marks : (es : List Code) → AllOf (λ d. is_dynamic d ≡ true) es → AllOf (λ (q : Code × List Row). is_dynamic q.0 ≡ true) (marks_in dx g es (at s a).rows)
          of_marks [] d = tt
          of_marks (e ∷ es) d = (d.0, of_marks es d.1)

      small_here : (N : ℕ) → length (at s looped).rows + op_sizes s (a ∷ []) ≤ N → AllOf (λ (j : List Row). length j ≤ N) (unfit_in dx g c.XPTY0004 (at s a).rows ∷ []) → Small s2 (length s.tables) (length s2.tables) N
      small_here N l e =
          let q : length (at s looped).rows + length (at s a).rows ≤ N = omega arith in
          small_join (small_keep grown (omega arith) (small_most m.small (within N q))) (small_most (stages_small site _ s1 s2 (at s looped).rows (item_marks_in dx g ds (at s a).rows) cs st) (max-le q e.0))

      first_codes : (ks : List Check) → CodesAre ks (c.XPTY0004 ∷ ds) → (h : Iter → List Cell) (i : Iter) → fault_in (B (h i)) ≡ first_code ks (tests_for dx g ds (h ∷ [])) i
      first_codes [] a h i = absurd a
      first_codes (k ∷ ks) a h i = first k ks a (h i) ∙ ap (cond (has_two (h i) || list_any (fails_in dx g c.XPTY0004) (h i)) (Some k.code)) (sym (tests_are ks ds h i))

      marked : (its : List Iter) (gs : List (Iter → List Cell)) (tree : TreeId → Option (Tree Text)) → Ascends (λ i. i.number) 0 its → Holds s looped single (loop_rows its) → HoldAll s (a ∷ []) gs its → AllOf (λ g. AllOf (λ i. AllOf (Rooted tree) (g i)) its) gs
          → AllMark (map (λ (q : Code × List Row). q.1) (item_marks_in dx g ds (at s a).rows)) (tests_for dx g ds gs) its × AllOf (λ i. fault_in (call_answer docs site r gs i) ≡ first_code cs (tests_for dx g ds gs) i) its
      marked its [] tree asc hl hp rooted = absurd hp
      marked its (h ∷ []) tree asc hl hp rooted = (
        (marks_or (marks_second h its _ asc hp.0.rows_are) (marks_fail_in dx g c.XPTY0004 h its _ asc hp.0.rows_are), marks_all dx g ds h its _ asc hp.0.rows_are),
        all_each _ (λ i. ap fault_in (rule_is h i) ∙ first_codes cs codes h i) its,
      )
      marked its (h ∷ h' ∷ gs) tree asc hl hp rooted = absurd hp.1

      sized : (N : ℕ) (its : List Iter) (gs : List (Iter → List Cell)) → Ascends (λ i. i.number) 0 its → Holds s looped single (loop_rows its) → HoldAll s (a ∷ []) gs its → call_cost docs site r gs its ≤ N → AllOf (λ (j : List Row). length j ≤ N) (unfit_in dx g c.XPTY0004 (at s a).rows ∷ [])
      sized N its [] asc hl hp enough = absurd hp
      sized N its (h ∷ []) asc hl hp enough =
          let x = unfit_few_in dx g c.XPTY0004 h its (at s a).rows hp.0.rows_are in
          let y = same-length hp.0.rows_are ∙ size_cells h its in
          let u = length-total its in
          let p = total-sum (λ (i : Iter). 1) (λ i. length (h i)) its in
          let w = total_most (λ i. 1 + length (h i)) (λ i. 1 + (length (h i) + 0) + length (list_of (value_in (call_answer docs site r (h ∷ []) i))) + rule_work r (Some (h i ∷ [])) (value_in (call_answer docs site r (h ∷ []) i))) its (λ i. omega arith) in
          let few : length (unfit_in dx g c.XPTY0004 (at s a).rows) ≤ N = omega arith in
          (few, tt)
      sized N its (h ∷ h' ∷ gs) asc hl hp enough = absurd hp.1

      values : (its : List Iter) (gs : List (Iter → List Cell)) (tree : TreeId → Option (Tree Text)) → Ascends (λ i. i.number) 0 its → Holds s looped single (loop_rows its) → HoldAll s (a ∷ []) gs its → AllOf (λ g. AllOf (λ i. AllOf (Rooted tree) (g i)) its) gs
          → call_faults docs site r gs its ≡ [] → Holds s2 t three (value_rows (λ i. list_of (value_in (call_answer docs site r gs i))) its)
      values its [] tree asc hl hp rooted z = absurd hp
      values its (h ∷ []) tree asc hl hp rooted z =
          let calm = all_mono _ _ (λ i (e : map (fault i.number) (faults_of (call_answer docs site r (h ∷ []) i) (failure site i.vector)) ≡ []).
          let q : fault_in (B (h i)) ≡ None = ap fault_in (sym (rule_is h i)) ∙ is_value_of (call_answer docs site r (h ∷ []) i) (failure site i.vector) (unmap (fault i.number) _ e) in q) its (flat_nil _ its z) in
          holds_keep grown (makes_holds m (same-trans (value its h asc hl hp.0 calm) (same-of (flat-all _ _ its (all_each _ (λ i. ap (λ x. item_rows i.number 1 (list_of (value_in x))) (sym (rule_is h i))) its)))))
      values its (h ∷ h' ∷ gs) tree asc hl hp rooted z = absurd hp.1

      pub checked_item_call : CallLifts docs s s2 site r looped (a ∷ []) t
      checked_item_call =
          staged_call docs site r looped (a ∷ []) t cs (map (λ (q : Code × List Row). q.1) (item_marks_in dx g ds (at s a).rows)) (unfit_in dx g c.XPTY0004 (at s a).rows ∷ []) (tests_for dx g ds) (grows_trans m.grows grown) placed
          (record { added = []; steps_are = stages_quiet site _ s1 s2 (at s looped).rows (item_marks_in dx g ds (at s a).rows) cs st ∙ m.quiet ∙ sym (append_none s.steps); walks_are = sym no_step; inputs = tt })
          (ordered cs (c.XPTY0004 ∷ ds) codes ranked) small_here (stages_staged site _ s1 s2 (at s looped).rows (item_marks_in dx g ds (at s a).rows) cs st) marked sized values

-- a call whose value is what a function gives of one item, and nothing of none
item_call : (dx : Docs) (g : Fun) (J : Cell → Answer Items) → ((v : Cell) → fun_outcome dx g (v ∷ []) ≡ outcome_of (J v)) → (ds : List Code) → ((v : Cell) → OneOrCode (c.XPTY0004 ∷ ds) (J v))
    → (A : Items → Answer Items) → A [] ≡ Value [] → ((v : Cell) → A (v ∷ []) ≡ J v) → ((v u : Cell) (vs : Items) → A (v ∷ u ∷ vs) ≡ Refused c.XPTY0004)
    → (docs : Docs) (s s1 s2 : State) (site : Site) (r : Rule) (looped a t : OpId) (cs : List Check) → own_walks site r ≡ [] → Ranked (c.XPTY0004 ∷ ds) → AllOf (λ d. is_dynamic d ≡ true) ds
    → ((h : Iter → List Cell) (i : Iter) → call_answer docs site r (h ∷ []) i ≡ A (h i)) → Makes s s1 t three (item_value_in dx g (at s a).rows) (length (at s a).rows)
    → Stages site (item_most_in dx g (at s looped).rows (at s a).rows) s1 s2 (at s looped).rows (item_marks_in dx g ds (at s a).rows) cs → CallLifts docs s s2 site r looped (a ∷ []) t
item_call dx g J outcome ds one A at_none at_one at_two docs s s1 s2 site r looped a t cs no_step ranked dynamic rule_is m st =
    checked_item_call dx g J outcome ds one A at_none at_one at_two docs s s1 s2 site r looped a t cs no_step ranked dynamic A rule_is
    (λ k ks e vs. faults_are dx g J outcome ds one A at_none at_one at_two k ks e vs) _ _ m (λ N l. omega arith)
    (λ its h asc hl ha calm. values_stand dx g J outcome ds one A at_none at_one at_two h its _ ha.rows_are calm) st

negated_one : (z : ℤ) → OneOrCode (c.XPTY0004 ∷ codes_of Negates) (with_value items_of (with_value integer_list (checked z)))
negated_one z = elim (fits_int z) as (λ b. OneOrCode (c.XPTY0004 ∷ codes_of Negates) (with_value items_of (with_value integer_list (cond b (Value z) (Refused c.FOAR0002))))) [ true ↦ tt | false ↦ inr (inr (inl refl)) ]

untyped_one : (h : ℤ → ℤ) (o : Option ℤ) → OneOrCode (c.XPTY0004 ∷ codes_of Negates) (with_value items_of (then_rule (with_value Some (or_no_cast o)) (on_number (λ z. checked (h z)))))
untyped_one h None = inr (inl refl)
untyped_one h (Some z) = negated_one (h z)

number_one : (h : ℤ → ℤ) (b : Atom) → OneOrCode (c.XPTY0004 ∷ codes_of Negates) (with_value items_of (then_rule (operand (b ∷ [])) (on_number (λ z. checked (h z)))))
number_one h (IntAtom z) = negated_one (h z)
number_one h (UntypedAtom t) = untyped_one h (integer_in t)
number_one h (TextAtom t) = inl refl
number_one h (BoolAtom b) = inl refl

spelled_one : {A : Type 0} (h : A → Atom) (o : Option A) → OneOrCode (c.FORG0001 ∷ []) (with_value (λ b. item_of_atom b ∷ []) (spelled h o))
spelled_one h None = inl refl
spelled_one h (Some x) = tt

pub cast_one : (kind : AtomKind) (b : Atom) → OneOrCode (c.FORG0001 ∷ []) (with_value (λ b. item_of_atom b ∷ []) (cast_atom kind b))
cast_one k.Text b = tt
cast_one k.Untyped b = tt
cast_one k.Integer (IntAtom z) = tt
cast_one k.Integer (TextAtom t) = spelled_one IntAtom (integer_in t)
cast_one k.Integer (UntypedAtom t) = spelled_one IntAtom (integer_in t)
cast_one k.Integer (BoolAtom b) = tt
cast_one k.Boolean (IntAtom z) = tt
cast_one k.Boolean (TextAtom t) = spelled_one BoolAtom (boolean_in t)
cast_one k.Boolean (UntypedAtom t) = spelled_one BoolAtom (boolean_in t)
cast_one k.Boolean (BoolAtom b) = tt

more_code : (d : Code) (ds : List Code) (x : Answer Items) → OneOrCode ds x → OneOrCode (d ∷ ds) x
more_code d ds (Value []) h = h
more_code d ds (Value (w ∷ [])) h = h
more_code d ds (Value (w ∷ u ∷ ws)) h = h
more_code d ds (Refused e) h = inr h

root_one : (v : Cell) → OneOrCode (c.XPTY0004 ∷ []) (root_answer (v ∷ []))
root_one (IntItem z) = inl refl
root_one (TextItem t) = inl refl
root_one (UntypedItem t) = inl refl
root_one (BoolItem b) = inl refl
root_one (NodeItem n) = tt

root_two : (v u : Cell) (vs : Items) → root_answer (v ∷ u ∷ vs) ≡ Refused c.XPTY0004
root_two (IntItem z) u vs = refl
root_two (TextItem t) u vs = refl
root_two (UntypedItem t) u vs = refl
root_two (BoolItem b) u vs = refl
root_two (NodeItem n) u vs = refl

named_one : (docs : Docs) (k : ℕ) (name : Text) → OneOrCode (c.XPTY0004 ∷ c.FODC0002 ∷ []) (doc_named docs k name)
named_one [] k name = inr (inl refl)
named_one (d ∷ docs) k name =
    let r = named_one docs (k + 1) name in
    elim (text_eq d.0 name) as (λ b. OneOrCode (c.XPTY0004 ∷ c.FODC0002 ∷ []) (cond b (Value (NodeItem (record { id = DocTree k; tree = d.1; path = root_path }) ∷ [])) (doc_named docs (k + 1) name))) [ true ↦ tt | false ↦ r ]

doc_one : (docs : Docs) (a : Atom) → OneOrCode (c.XPTY0004 ∷ c.FODC0002 ∷ []) (then_rule (maybe_text (a ∷ [])) (doc_or_none docs))
doc_one docs (IntAtom z) = inl refl
doc_one docs (TextAtom t) = named_one docs 0 t
doc_one docs (UntypedAtom t) = named_one docs 0 t
doc_one docs (BoolAtom b) = inl refl

module _ (docs : Docs) {s s1 s2 : State} (site : Site) (looped a t : OpId) (cs : List Check) where
  number_call : (r : Rule) (g : Fun) (h : ℤ → ℤ) → ((v : Cell) → fun_outcome docs g (v ∷ []) ≡ outcome_of (with_value items_of (then_rule (operand (data_of (v ∷ []))) (on_number (λ z. checked (h z)))))) → own_walks site r ≡ []
      → ((q : Iter → List Cell) (i : Iter) → call_answer docs site r (q ∷ []) i ≡ with_value items_of (then_rule (operand (data_of (q i))) (on_number (λ z. checked (h z)))))
      → Makes s s1 t three (item_value_in docs g (at s a).rows) (length (at s a).rows) → Stages site (item_most_in docs g (at s looped).rows (at s a).rows) s1 s2 (at s looped).rows (item_marks_in docs g (codes_of Negates) (at s a).rows) cs
      → CallLifts docs s s2 site r looped (a ∷ []) t
  number_call r g h outcome no_step is m st =
      item_call docs g (λ v. with_value items_of (then_rule (operand (data_of (v ∷ []))) (on_number (λ z. checked (h z))))) outcome (codes_of Negates) (λ v. number_one h (atomized v))
      (λ vs. with_value items_of (then_rule (operand (data_of vs)) (on_number (λ z. checked (h z))))) refl (λ v. refl) (λ v u vs. refl)
      docs s s1 s2 site r looped a t cs no_step ((omega arith, (omega arith, tt)), ((omega arith, tt), (tt, tt))) (refl, (refl, tt)) is m st

  cast_call : (kind : AtomKind) (r : Rule) → own_walks site r ≡ [] → ((q : Iter → List Cell) (i : Iter) → call_answer docs site r (q ∷ []) i ≡ cast_items kind true (q i))
      → Makes s s1 t three (item_value_in docs (f.CastTo kind) (at s a).rows) (length (at s a).rows) → Stages site (item_most_in docs (f.CastTo kind) (at s looped).rows (at s a).rows) s1 s2 (at s looped).rows (item_marks_in docs (f.CastTo kind) (c.FORG0001 ∷ []) (at s a).rows) cs
      → CallLifts docs s s2 site r looped (a ∷ []) t
  cast_call kind r no_step is m st =
      item_call docs (f.CastTo kind) (λ v. cast_items kind true (v ∷ [])) (λ v. refl) (c.FORG0001 ∷ []) (λ v. more_code c.XPTY0004 (c.FORG0001 ∷ []) _ (cast_one kind (atomized v)))
      (λ vs. cast_items kind true vs) refl (λ v. refl) (λ v u vs. refl)
      docs s s1 s2 site r looped a t cs no_step ((omega arith, tt), (tt, tt)) (refl, tt) is m st

  pub item_rule_call : (q : ItemRule) → Makes s s1 t three (item_value_in docs (fun_of q) (at s a).rows) (length (at s a).rows)
      → Stages site (item_most_in docs (fun_of q) (at s looped).rows (at s a).rows) s1 s2 (at s looped).rows (item_marks_in docs (fun_of q) (codes_of q) (at s a).rows) cs → CallLifts docs s s2 site (rule_of q) looped (a ∷ []) t
  item_rule_call Negates m st = number_call (rule_of Negates) f.Negate neg_ℤ (λ v. refl) refl (λ q i. refl) m st
  item_rule_call Absolutes m st = number_call (rule_of Absolutes) f.Abs absolute (λ v. refl) refl (λ q i. refl) m st
  item_rule_call (Casts kind) m st = cast_call kind (rule_of (Casts kind)) refl (λ q i. refl) m st
  item_rule_call (Constructs k.Integer) m st = cast_call k.Integer (rule_of (Constructs k.Integer)) refl (λ q i. refl) m st
  item_rule_call (Constructs k.Text) m st = cast_call k.Text (rule_of (Constructs k.Text)) refl (λ q i. refl) m st
  item_rule_call (Constructs k.Boolean) m st = cast_call k.Boolean (rule_of (Constructs k.Boolean)) refl (λ q i. refl) m st
  item_rule_call (Constructs k.Untyped) m st = cast_call k.Untyped (rule_of (Constructs k.Untyped)) refl (λ q i. refl) m st
  item_rule_call Roots m st =
      item_call docs f.Root (λ v. root_answer (v ∷ [])) (λ v. refl) [] root_one root_answer refl (λ v. refl) root_two docs s s1 s2 site (rule_of Roots) looped a t cs refl (tt, tt) tt (λ h i. refl) m st
  item_rule_call Documents m st =
      item_call docs f.Doc (λ v. doc_answer docs (v ∷ [])) (λ v. refl) (c.FODC0002 ∷ []) (λ v. doc_one docs (atomized v)) (doc_answer docs) refl (λ v. refl) (λ v u vs. refl)
      docs s s1 s2 site (rule_of Documents) looped a t cs refl ((omega arith, tt), (tt, tt)) (refl, tt) (λ h i. refl) m st
