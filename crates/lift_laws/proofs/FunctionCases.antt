-- Calls of single functions, from the rows of their operators: failures, constants, and tests of how many items an argument has.
use Rattle.std.proofs.Common.{◌≡◌, ℕ, ◌+◌, ◌≤◌, Bool, true, false, cond, not, ◌||◌, List, [], ◌∷◌, ◌++◌, length, map, refl, sym, ap, ◌∙◌, subst, inl, arith, Option, Some, None, nat_eq, nat_lt, true≢false}
use Rattle.std.proofs.Math.Bool.{not-not}
use Rattle.std.specs.List.{filter, flat_map}
use Rattle.std.proofs.lemmas.Bool.{lt-ltb, le-ltb, ne_eqb}
use Rattle.xq_base.specs.declared.code.Code.{Code}
use Rattle.xq_base.specs.declared.code.Code.TheVariants as c
use Rattle.xq_base.specs.declared.fun.Fun.TheVariants as f
use Rattle.xq_base.specs.Answers.{Answer, Value, Fault as Refused}
use Rattle.doc_table.specs.Tree.{Tree}
use Rattle.xq_base.specs.Texts.{Text}
use Rattle.doc_table.specs.Identity.{TreeId}
use Rattle.doc_table.specs.Items.{BoolItem}
use Rattle.doc_table.specs.Values.{Items}
use Rattle.doc_table.specs.Sequences.{is_empty}
use Rattle.doc_table.specs.NodeRules.{Docs}
use Rattle.plan_dag.specs.declared.op.OpId.{OpId}
use Rattle.plan_dag.specs.declared.check.Check.{Check}
use Rattle.plan_dag.specs.ItemRules.{Cell}
use Rattle.plan_dag.specs.Meaning.{cell}
use Rattle.core_meaning.specs.Expr.{Site, Rule, Apply, FailWith}
use Rattle.core_meaning.specs.Meaning.{value_in}
use Rattle.core_meaning.specs.Failures.{Failure, failure, faults_of}
use Rattle.core_meaning.specs.Work.{rule_work}
use Rattle.core_meaning.specs.Lawful.{is_dynamic}
use Rattle.lift_laws.specs.Sums.{total, AllOf, Ascends, Same}
use Rattle.lift_laws.specs.Iterations.{Row, Iter, num, item_rows, value_rows, loop_rows}
use Rattle.lift_laws.specs.Bulk.{list_of, fault, own_walks}
use Rattle.lift_laws.specs.States.{State, at, Small, Grows, Makes, Checks, Holds, HoldAll, three, single, column}
use Rattle.lift_laws.specs.Shapes.{bare, less, beside, literal_rows, any_rows, named_rows, truth_rows, second_rows}
use Rattle.lift_laws.specs.Lifting.{Tells, Rooted, CallLifts, call_answer, call_faults, call_cost}
use Rattle.lift_laws.proofs.Multi.{same-of, same-trans, same-length, length-total, total-ext, total-map, total-sum}
use Rattle.lift_laws.proofs.Picks.{all_each, all_mono, flat-all}
use Rattle.lift_laws.proofs.Values.{flat_nil}
use Rattle.lift_laws.proofs.Sizes.{size_loop, size_cells, total_most}
use Rattle.lift_laws.proofs.Keeping.{grows_trans, holds_keep, holds_rows, makes_holds, small_less, small_keep, small_most, append_none}
use Rattle.lift_laws.proofs.Simple.{literal_stands, empty_stands, either_stands}
use Rattle.lift_laws.proofs.Marks.{Marks, marks_or, marks_is, marks_rows, unmarked_stands, marked_stands, some, fault_in, code_self, rule_tells}
use Rattle.lift_laws.proofs.Operands.{marks_any, marks_second, has_two}
use Rattle.lift_laws.proofs.Cleared.{AllMark}
use Rattle.lift_laws.proofs.Staged.{first_code, Staged, op_sizes, staged_call}

-- the loop of some iterations names them
pub marks_loop : (q : Iter → Bool) (its : List Iter) (b : List Row) → Ascends (λ i. i.number) 0 its → Same b (loop_rows (filter q its)) → Marks b q its
marks_loop q its b asc s =
    marks_is (all_each _ (λ i. some_if (q i) (num i.number ∷ [])) its)
    (marks_rows (λ i. cond (q i) ((num i.number ∷ []) ∷ []) []) its b asc (λ i. keyed (q i) i) (same-trans s (same-of (apart its))))
  where
    some_if : (d : Bool) (r : Row) → some (cond d (r ∷ []) []) ≡ d
    some_if true r = refl
    some_if false r = refl

    keyed : (d : Bool) (i : Iter) → AllOf (λ (r : Row). cell bare single (column 0) r ≡ num i.number) (cond d ((num i.number ∷ []) ∷ []) [])
    keyed true i = (refl, tt)
    keyed false i = tt

    apart : (js : List Iter) → loop_rows (filter q js) ≡ flat_map (λ i. cond (q i) ((num i.number ∷ []) ∷ []) []) js
    apart [] = refl
    apart (j ∷ js) = elim (q j) as (λ d. loop_rows (cond d (j ∷ filter q js) (filter q js)) ≡ cond d ((num j.number ∷ []) ∷ []) [] ++ flat_map (λ i. cond (q i) ((num i.number ∷ []) ∷ []) []) js) [ true ↦ ap (λ l. (num j.number ∷ []) ∷ l) (apart js) | false ↦ apart js ]

-- a boolean for each iteration
pub truth_stands : (there : Bool) (p : Iter → Bool) (its : List Iter) (l b : List Row) → Ascends (λ i. i.number) 0 its → Same l (loop_rows its) → Marks b p its → Same (truth_rows there l b) (value_rows (λ i. BoolItem (cond (p i) there (not there)) ∷ []) its)
truth_stands there p its l b asc sl m =
    same-trans
    (either_stands p (λ i. BoolItem there ∷ []) (λ i. BoolItem (not there) ∷ []) its _ _ (literal_stands (BoolItem there) (filter p its) _ (marked_stands p its l b asc sl m)) (literal_stands (BoolItem (not there)) (filter (λ i. not (p i)) its) _ (unmarked_stands p its l b sl m)))
    (same-of (flat-all _ _ its (all_each _ (λ i. ap (item_rows i.number 1) (inside (p i))) its)))
  where
    inside : (d : Bool) → cond {A = List Cell} d (BoolItem there ∷ []) (BoolItem (not there) ∷ []) ≡ BoolItem (cond d there (not there)) ∷ []
    inside true = refl
    inside false = refl

no_fault : (x : Answer Items) (g : Code → Failure) → fault_in x ≡ None → faults_of x g ≡ []
no_fault (Value v) g e = refl
no_fault (Refused d) g e = cc

pub is_value_of : (x : Answer Items) (g : Code → Failure) → faults_of x g ≡ [] → fault_in x ≡ None
is_value_of (Value v) g e = refl
is_value_of (Refused d) g e = cc

pub unmap : {A B : Type 0} (h : A → B) (xs : List A) → map h xs ≡ [] → xs ≡ []
unmap h [] e = refl
unmap h (x ∷ xs) e = cc

flat_none : {A B : Type 0} (h : A → List B) (xs : List A) → AllOf (λ x. h x ≡ []) xs → flat_map h xs ≡ []
flat_none h [] a = refl
flat_none h (x ∷ xs) a = ap (λ l. l ++ flat_map h xs) a.0 ∙ flat_none h xs a.1

untested : (d : Bool) (code : Code) → cond d (Some code) None ≡ None → d ≡ false
untested true code e = cc
untested false code e = refl

-- whether there is an item
some_length : (vs : List Cell) → some vs ≡ nat_lt 0 (length vs)
some_length vs = ap (nat_lt 0) (sym (length-total vs))

pub some_items : (vs : List Cell) → not (is_empty vs) ≡ some vs
some_items [] = refl
some_items (v ∷ vs) = sym (some_length (v ∷ vs) ∙ lt-ltb 0 (length (v ∷ vs)) (omega arith))

-- the iterations whose argument has no item
module _ {s : State} (looped a : OpId) where
  pub none_named : (its : List Iter) (g : Iter → List Cell) → Ascends (λ i. i.number) 0 its → Holds s looped single (loop_rows its) → Holds s a three (value_rows g its) → Marks (less (at s looped).rows (any_rows (at s a).rows)) (λ i. not (some (g i))) its
  none_named its g asc hl ha = marks_loop (λ i. not (some (g i))) its _ asc (unmarked_stands (λ i. some (g i)) its _ _ hl.rows_are (marks_any g its _ asc ha.rows_are))

module _ (docs : Docs) where
  -- a call that never fails, whose table is made in one stretch
  module _ {s s' : State} (site : Site) (r : Rule) (looped : OpId) (args : List OpId) (t : OpId) (rows : List Row) (most : ℕ) (m : Makes s s' t three rows most) (no_step : own_walks site r ≡ [])
      (few : (N : ℕ) (its : List Iter) (gs : List (Iter → List Cell)) → Ascends (λ i. i.number) 0 its → Holds s looped single (loop_rows its) → HoldAll s args gs its → call_cost docs site r gs its ≤ N → most ≤ N)
      (calm : (gs : List (Iter → List Cell)) (its : List Iter) → HoldAll s args gs its → AllOf (λ i. fault_in (call_answer docs site r gs i) ≡ None) its) where
    module _ (stand : (its : List Iter) (gs : List (Iter → List Cell)) (tree : TreeId → Option (Tree Text)) → Ascends (λ i. i.number) 0 its → Holds s looped single (loop_rows its) → HoldAll s args gs its → AllOf (λ g. AllOf (λ i. AllOf (Rooted tree) (g i)) its) gs
        → Same rows (value_rows (λ i. list_of (value_in (call_answer docs site r gs i))) its)) where
      pub rooted_call : CallLifts docs s s' site r looped args t
      rooted_call = record {
        new = [];
        grows = m.grows;
        placed = tt;
        coded = tt;
        steps = record { added = []; steps_are = m.quiet ∙ sym (append_none s.steps); walks_are = sym no_step; inputs = tt };
        told = λ N its gs asc hl hp tree rooted enough.
            let z = flat_none (λ i. map (fault i.number) (faults_of (call_answer docs site r gs i) (failure site i.vector))) its
            (all_mono _ _ (λ i (e : fault_in (call_answer docs site r gs i) ≡ None). ap (map (fault i.number)) (no_fault (call_answer docs site r gs i) (failure site i.vector) e)) its (calm gs its hp)) in (
              subst (λ fs. Tells N s' (length s.tables) (length s'.tables) (record { site = site; checks = [] } ∷ []) fs) (sym z) (tt, tt, (λ q. (refl, small_most m.small (few N its gs asc hl hp enough)))),
              (λ y. makes_holds m (stand its gs tree asc hl hp rooted)),
            );
      }

    -- the same where no node is asked for
    module _ (stand : (its : List Iter) (gs : List (Iter → List Cell)) → Ascends (λ i. i.number) 0 its → Holds s looped single (loop_rows its) → HoldAll s args gs its → Same rows (value_rows (λ i. list_of (value_in (call_answer docs site r gs i))) its)) where
      pub quiet_call : CallLifts docs s s' site r looped args t
      quiet_call = rooted_call (λ its gs tree asc hl hp rooted. stand its gs asc hl hp)

  -- a call of one argument that is its value but where a test fails with a code
  abbrev tests_of : ((Iter → List Cell) → Iter → Bool) → List (Iter → List Cell) → List (Iter → Bool)
  tests_of test [] = []
  tests_of test (g ∷ gs) = test g ∷ []

  module _ {s s1 s2 : State} (site : Site) (r : Rule) (looped a k : OpId) (code : Code) (b : List Row) (test : (Iter → List Cell) → Iter → Bool)
      (m : Makes s s1 k single (named_rows (at s looped).rows b) (length (at s looped).rows + length (at s a).rows))
      (h : Checks s1 s2 (record { op = k; code = code; offset = site.offset }))
      (dynamic : is_dynamic code ≡ true) (no_step : own_walks site r ≡ []) where
    module _ (marks : (its : List Iter) (g : Iter → List Cell) (tree : TreeId → Option (Tree Text)) → Ascends (λ i. i.number) 0 its → Holds s looped single (loop_rows its) → Holds s a three (value_rows g its) → AllOf (λ i. AllOf (Rooted tree) (g i)) its → Marks b (test g) its)
        (fails : (g : Iter → List Cell) (i : Iter) → fault_in (call_answer docs site r (g ∷ []) i) ≡ cond (test g i) (Some code) None)
        (gives : (g : Iter → List Cell) (i : Iter) → test g i ≡ false → g i ≡ list_of (value_in (call_answer docs site r (g ∷ []) i))) where
      abbrev the_check : Check
      the_check = record { op = k; code = code; offset = site.offset }

      grown : Grows s s2 (the_check ∷ [])
      grown = grows_trans m.grows h.grows

      small_here : (N : ℕ) → length (at s looped).rows + op_sizes s (a ∷ []) ≤ N → AllOf (λ (j : List Row). length j ≤ N) [] → Small s2 (length s.tables) (length s2.tables) N
      small_here N l e =
          let q : length (at s looped).rows + length (at s a).rows ≤ N = omega arith in
          subst (λ n. Small s2 (length s.tables) n N) (sym h.as_many) (small_keep h.grows (omega arith) (small_most m.small q))

      staged_here : Staged s2 (at s looped).rows (the_check ∷ []) (b ∷ [])
      staged_here = (h.grows.same k m.is_in ∙ m.is, tt)

      marked : (its : List Iter) (gs : List (Iter → List Cell)) (tree : TreeId → Option (Tree Text)) → Ascends (λ i. i.number) 0 its → Holds s looped single (loop_rows its) → HoldAll s (a ∷ []) gs its → AllOf (λ g. AllOf (λ i. AllOf (Rooted tree) (g i)) its) gs
          → AllMark (b ∷ []) (tests_of test gs) its × AllOf (λ i. fault_in (call_answer docs site r gs i) ≡ first_code (the_check ∷ []) (tests_of test gs) i) its
      marked its [] tree asc hl hp rooted = absurd hp
      marked its (g ∷ []) tree asc hl hp rooted = ((marks its g tree asc hl hp.0 rooted.0, tt), all_each _ (λ i. fails g i) its)
      marked its (g ∷ g' ∷ gs) tree asc hl hp rooted = absurd hp.1

      sized : (N : ℕ) (its : List Iter) (gs : List (Iter → List Cell)) → Ascends (λ i. i.number) 0 its → Holds s looped single (loop_rows its) → HoldAll s (a ∷ []) gs its → call_cost docs site r gs its ≤ N → AllOf (λ (j : List Row). length j ≤ N) []
      sized N its gs asc hl hp enough = tt

      passed : (g : Iter → List Cell) (its : List Iter) → call_faults docs site r (g ∷ []) its ≡ [] → AllOf (λ i. g i ≡ list_of (value_in (call_answer docs site r (g ∷ []) i))) its
      passed g its z =
          all_mono _ _ (λ i (e : map (fault i.number) (faults_of (call_answer docs site r (g ∷ []) i) (failure site i.vector)) ≡ []).
          gives g i (untested (test g i) code (sym (fails g i) ∙ is_value_of (call_answer docs site r (g ∷ []) i) (failure site i.vector) (unmap (fault i.number) _ e)))) its (flat_nil _ its z)

      values : (its : List Iter) (gs : List (Iter → List Cell)) (tree : TreeId → Option (Tree Text)) → Ascends (λ i. i.number) 0 its → Holds s looped single (loop_rows its) → HoldAll s (a ∷ []) gs its → AllOf (λ g. AllOf (λ i. AllOf (Rooted tree) (g i)) its) gs
          → call_faults docs site r gs its ≡ [] → Holds s2 a three (value_rows (λ i. list_of (value_in (call_answer docs site r gs i))) its)
      values its [] tree asc hl hp rooted z = absurd hp
      values its (g ∷ []) tree asc hl hp rooted z =
          holds_keep grown (holds_rows (flat-all _ _ its (all_mono _ _ (λ i (e : g i ≡ list_of (value_in (call_answer docs site r (g ∷ []) i))). ap (item_rows i.number 1) e) its (passed g its z))) hp.0)
      values its (g ∷ g' ∷ gs) tree asc hl hp rooted z = absurd hp.1

      pub rooted_checked_call : CallLifts docs s s2 site r looped (a ∷ []) a
      rooted_checked_call =
          staged_call docs site r looped (a ∷ []) a (the_check ∷ []) (b ∷ []) [] (tests_of test) grown
          (((let i = m.is_in in let n = h.as_many in omega arith), refl, dynamic), tt)
          (record { added = []; steps_are = h.quiet ∙ m.quiet ∙ sym (append_none s.steps); walks_are = sym no_step; inputs = tt })
          (tt, tt) small_here staged_here marked sized values

    -- the same where no node is asked for
    module _ (marks : (its : List Iter) (g : Iter → List Cell) → Ascends (λ i. i.number) 0 its → Holds s looped single (loop_rows its) → Holds s a three (value_rows g its) → Marks b (test g) its)
        (fails : (g : Iter → List Cell) (i : Iter) → fault_in (call_answer docs site r (g ∷ []) i) ≡ cond (test g i) (Some code) None)
        (gives : (g : Iter → List Cell) (i : Iter) → test g i ≡ false → g i ≡ list_of (value_in (call_answer docs site r (g ∷ []) i))) where
      pub checked_call : CallLifts docs s s2 site r looped (a ∷ []) a
      checked_call = rooted_checked_call (λ its g tree asc hl ha rooted. marks its g asc hl ha) fails gives

  -- a call whose value says whether its argument passes a test, by rows that name the iterations in which it does
  module _ {s s' : State} (site : Site) (r : Rule) (there : Bool) (looped a t : OpId) (b : List Row) (test : (Iter → List Cell) → Iter → Bool) (most : ℕ) (no_step : own_walks site r ≡ []) where
    module _ (marks : (its : List Iter) (g : Iter → List Cell) (tree : TreeId → Option (Tree Text)) → Ascends (λ i. i.number) 0 its → Holds s looped single (loop_rows its) → Holds s a three (value_rows g its) → AllOf (λ i. AllOf (Rooted tree) (g i)) its → Marks b (test g) its)
        (within : (N : ℕ) (its : List Iter) (g : Iter → List Cell) → Holds s looped single (loop_rows its) → Holds s a three (value_rows g its) → length (at s looped).rows + length (at s looped).rows + length (at s a).rows ≤ N → most ≤ N)
        (value : (g : Iter → List Cell) (i : Iter) → call_answer docs site r (g ∷ []) i ≡ Value (BoolItem (cond (test g i) there (not there)) ∷ []))
        (m : Makes s s' t three (truth_rows there (at s looped).rows b) most) where
      truth_few : (N : ℕ) (its : List Iter) (gs : List (Iter → List Cell)) → Ascends (λ i. i.number) 0 its → Holds s looped single (loop_rows its) → HoldAll s (a ∷ []) gs its → call_cost docs site r gs its ≤ N → most ≤ N
      truth_few N its [] asc hl hp enough = absurd hp
      truth_few N its (g ∷ []) asc hl hp enough =
          let x = same-length hl.rows_are ∙ size_loop its ∙ length-total its in
          let y = same-length hp.0.rows_are ∙ size_cells g its in
          let p = total-sum (λ (i : Iter). 1) (λ i. 1 + length (g i)) its in
          let q = total-sum (λ (i : Iter). 1) (λ i. length (g i)) its in
          let w = total_most (λ i. 1 + (1 + length (g i))) (λ i. 1 + (length (g i) + 0) + length (list_of (value_in (call_answer docs site r (g ∷ []) i))) + rule_work r (Some (g i ∷ [])) (value_in (call_answer docs site r (g ∷ []) i))) its
          (λ i. let e : length (list_of (value_in (call_answer docs site r (g ∷ []) i))) ≡ 1 = ap (λ x. length (list_of (value_in x))) (value g i) in omega arith) in
          within N its g hl hp.0 (omega arith)
      truth_few N its (g ∷ g' ∷ gs) asc hl hp enough = absurd hp.1

      truth_calm : (gs : List (Iter → List Cell)) (its : List Iter) → HoldAll s (a ∷ []) gs its → AllOf (λ i. fault_in (call_answer docs site r gs i) ≡ None) its
      truth_calm [] its hp = absurd hp
      truth_calm (g ∷ []) its hp = all_each _ (λ i. ap fault_in (value g i)) its
      truth_calm (g ∷ g' ∷ gs) its hp = absurd hp.1

      truth_told : (its : List Iter) (gs : List (Iter → List Cell)) (tree : TreeId → Option (Tree Text)) → Ascends (λ i. i.number) 0 its → Holds s looped single (loop_rows its) → HoldAll s (a ∷ []) gs its → AllOf (λ g. AllOf (λ i. AllOf (Rooted tree) (g i)) its) gs → Same (truth_rows there (at s looped).rows b) (value_rows (λ i. list_of (value_in (call_answer docs site r gs i))) its)
      truth_told its [] tree asc hl hp rooted = absurd hp
      truth_told its (g ∷ []) tree asc hl hp rooted =
          same-trans (truth_stands there (test g) its _ _ asc hl.rows_are (marks its g tree asc hl hp.0 rooted.0))
          (same-of (flat-all _ _ its (all_each _ (λ i. ap (λ x. item_rows i.number 1 (list_of (value_in x))) (sym (value g i))) its)))
      truth_told its (g ∷ g' ∷ gs) tree asc hl hp rooted = absurd hp.1

      pub rooted_truth_call : CallLifts docs s s' site r looped (a ∷ []) t
      rooted_truth_call = rooted_call site r looped (a ∷ []) t _ _ m no_step truth_few truth_calm truth_told

    -- the same where no node is asked for
    module _ (marks : (its : List Iter) (g : Iter → List Cell) → Ascends (λ i. i.number) 0 its → Holds s looped single (loop_rows its) → Holds s a three (value_rows g its) → Marks b (test g) its)
        (within : (N : ℕ) (its : List Iter) (g : Iter → List Cell) → Holds s looped single (loop_rows its) → Holds s a three (value_rows g its) → length (at s looped).rows + length (at s looped).rows + length (at s a).rows ≤ N → most ≤ N)
        (value : (g : Iter → List Cell) (i : Iter) → call_answer docs site r (g ∷ []) i ≡ Value (BoolItem (cond (test g i) there (not there)) ∷ []))
        (m : Makes s s' t three (truth_rows there (at s looped).rows b) most) where
      pub truth_call : CallLifts docs s s' site r looped (a ∷ []) t
      truth_call = rooted_truth_call (λ its g tree asc hl ha rooted. marks its g asc hl ha) within value m

  if_same : (d : Bool) → cond d true false ≡ d
  if_same true = refl
  if_same false = refl

  if_not : (d : Bool) → cond d false true ≡ not d
  if_not true = refl
  if_not false = refl

  -- whether an argument has an item, or none
  pub exists_call : {s s' : State} (site : Site) (looped a t : OpId) → Makes s s' t three (truth_rows true (at s looped).rows (any_rows (at s a).rows)) (length (at s looped).rows + length (at s looped).rows + length (at s a).rows) → CallLifts docs s s' site (Apply f.Exists) looped (a ∷ []) t
  exists_call site looped a t m = truth_call site (Apply f.Exists) true looped a t _ (λ g i. some (g i)) _ refl (λ its g asc hl ha. marks_any g its _ asc ha.rows_are) (λ N its g hl ha l. l) (λ g i. ap (λ d. Value (BoolItem d ∷ [])) (some_items (g i) ∙ sym (if_same (some (g i))))) m

  pub empty_call : {s s' : State} (site : Site) (looped a t : OpId) → Makes s s' t three (truth_rows false (at s looped).rows (any_rows (at s a).rows)) (length (at s looped).rows + length (at s looped).rows + length (at s a).rows) → CallLifts docs s s' site (Apply f.Empty) looped (a ∷ []) t
  empty_call site looped a t m =
      truth_call site (Apply f.Empty) false looped a t _ (λ g i. some (g i)) _ refl (λ its g asc hl ha. marks_any g its _ asc ha.rows_are) (λ N its g hl ha l. l) (λ g i. ap (λ d. Value (BoolItem d ∷ [])) (sym (not-not (is_empty (g i))) ∙ ap not (some_items (g i)) ∙ sym (if_not (some (g i))))) m

  -- how many items an argument has
  two_fails : (code : Code) (vs : Items) → fault_in (cond (nat_lt (length vs) 2) (Value vs) (Refused code)) ≡ cond (has_two vs) (Some code) None
  two_fails code [] = refl
  two_fails code (v ∷ []) = refl
  two_fails code (v ∷ u ∷ vs) = ap (λ d. fault_in (cond d (Value (v ∷ u ∷ vs)) (Refused code))) (le-ltb (length (v ∷ u ∷ vs)) 2 (omega arith))

  two_gives : (code : Code) (vs : Items) → has_two vs ≡ false → vs ≡ list_of (value_in (cond (nat_lt (length vs) 2) (Value vs) (Refused code)))
  two_gives code [] e = refl
  two_gives code (v ∷ []) e = refl
  two_gives code (v ∷ u ∷ vs) e = absurd (true≢false e)

  none_fails : (code : Code) (vs : Items) → fault_in (cond (nat_lt 0 (length vs)) (Value vs) (Refused code)) ≡ cond (not (some vs)) (Some code) None
  none_fails code vs = at (nat_lt 0 (length vs)) ∙ ap (λ d. cond (not d) (Some code) None) (sym (some_length vs))
    where
      at : (d : Bool) → fault_in (cond d (Value vs) (Refused code)) ≡ cond (not d) (Some code) None
      at true = refl
      at false = refl

  none_gives : (code : Code) (vs : Items) → not (some vs) ≡ false → vs ≡ list_of (value_in (cond (nat_lt 0 (length vs)) (Value vs) (Refused code)))
  none_gives code vs e = at (nat_lt 0 (length vs)) (ap not (sym (some_length vs)) ∙ e)
    where
      at : (d : Bool) → not d ≡ false → vs ≡ list_of (value_in (cond d (Value vs) (Refused code)))
      at true e = refl
      at false e = absurd (true≢false e)

  one_fails : (code : Code) (vs : Items) → fault_in (cond (nat_eq (length vs) 1) (Value vs) (Refused code)) ≡ cond (has_two vs || not (some vs)) (Some code) None
  one_fails code [] = refl
  one_fails code (v ∷ []) = refl
  one_fails code (v ∷ u ∷ vs) = ap (λ d. fault_in (cond d (Value (v ∷ u ∷ vs)) (Refused code))) (ne_eqb (length (v ∷ u ∷ vs)) 1 (λ q. omega arith))

  one_gives : (code : Code) (vs : Items) → (has_two vs || not (some vs)) ≡ false → vs ≡ list_of (value_in (cond (nat_eq (length vs) 1) (Value vs) (Refused code)))
  one_gives code [] e = absurd (true≢false e)
  one_gives code (v ∷ []) e = refl
  one_gives code (v ∷ u ∷ vs) e = absurd (true≢false e)

  module _ {s s1 s2 : State} (site : Site) (looped a k : OpId) where
    pub zero_or_one_call : Makes s s1 k single (named_rows (at s looped).rows (second_rows (at s a).rows)) (length (at s looped).rows + length (at s a).rows) → Checks s1 s2 (record { op = k; code = c.FORG0003; offset = site.offset }) → CallLifts docs s s2 site (Apply f.ZeroOrOne) looped (a ∷ []) a
    zero_or_one_call m h =
        checked_call site (Apply f.ZeroOrOne) looped a k c.FORG0003 (second_rows (at s a).rows) (λ g i. has_two (g i)) m h refl refl
        (λ its g asc hl ha. marks_second g its _ asc ha.rows_are) (λ g i. two_fails c.FORG0003 (g i)) (λ g i e. two_gives c.FORG0003 (g i) e)

    pub one_or_more_call : Makes s s1 k single (named_rows (at s looped).rows (less (at s looped).rows (any_rows (at s a).rows))) (length (at s looped).rows + length (at s a).rows) → Checks s1 s2 (record { op = k; code = c.FORG0004; offset = site.offset }) → CallLifts docs s s2 site (Apply f.OneOrMore) looped (a ∷ []) a
    one_or_more_call m h =
        checked_call site (Apply f.OneOrMore) looped a k c.FORG0004 (less (at s looped).rows (any_rows (at s a).rows)) (λ g i. not (some (g i))) m h refl refl
        (λ its g asc hl ha. none_named looped a its g asc hl ha) (λ g i. none_fails c.FORG0004 (g i)) (λ g i e. none_gives c.FORG0004 (g i) e)

    pub exactly_one_call : Makes s s1 k single (named_rows (at s looped).rows (beside single (second_rows (at s a).rows) (less (at s looped).rows (any_rows (at s a).rows)))) (length (at s looped).rows + length (at s a).rows) → Checks s1 s2 (record { op = k; code = c.FORG0005; offset = site.offset }) → CallLifts docs s s2 site (Apply f.ExactlyOne) looped (a ∷ []) a
    exactly_one_call m h =
        checked_call site (Apply f.ExactlyOne) looped a k c.FORG0005 (beside single (second_rows (at s a).rows) (less (at s looped).rows (any_rows (at s a).rows))) (λ g i. has_two (g i) || not (some (g i))) m h refl refl
        (λ its g asc hl ha. marks_or (marks_second g its _ asc ha.rows_are) (none_named looped a its g asc hl ha)) (λ g i. one_fails c.FORG0005 (g i)) (λ g i e. one_gives c.FORG0005 (g i) e)

  -- a call without arguments that is one boolean
  module _ {s s' : State} (site : Site) (r : Rule) (b : Bool) (looped t : OpId) (no_step : own_walks site r ≡ []) (value : (i : Iter) → call_answer docs site r [] i ≡ Value (BoolItem b ∷ []))
      (m : Makes s s' t three (literal_rows (BoolItem b) (at s looped).rows) (length (at s looped).rows)) where
    constant_few : (N : ℕ) (its : List Iter) (gs : List (Iter → List Cell)) → Ascends (λ i. i.number) 0 its → Holds s looped single (loop_rows its) → HoldAll s [] gs its → call_cost docs site r gs its ≤ N → length (at s looped).rows ≤ N
    constant_few N its [] asc hl hp enough =
        let x = same-length hl.rows_are ∙ size_loop its ∙ length-total its in
        let w = total_most (λ (i : Iter). 1) (λ i. 1 + 0 + length (list_of (value_in (call_answer docs site r [] i))) + rule_work r (Some []) (value_in (call_answer docs site r [] i))) its (λ i. omega arith) in
        omega arith
    constant_few N its (g ∷ gs) asc hl hp enough = absurd hp

    constant_calm : (gs : List (Iter → List Cell)) (its : List Iter) → HoldAll s [] gs its → AllOf (λ i. fault_in (call_answer docs site r gs i) ≡ None) its
    constant_calm [] its hp = all_each _ (λ i. ap fault_in (value i)) its
    constant_calm (g ∷ gs) its hp = absurd hp

    constant_told : (its : List Iter) (gs : List (Iter → List Cell)) → Ascends (λ i. i.number) 0 its → Holds s looped single (loop_rows its) → HoldAll s [] gs its → Same (literal_rows (BoolItem b) (at s looped).rows) (value_rows (λ i. list_of (value_in (call_answer docs site r gs i))) its)
    constant_told its [] asc hl hp =
        same-trans (literal_stands (BoolItem b) its _ hl.rows_are) (same-of (flat-all _ _ its (all_each _ (λ i. ap (λ x. item_rows i.number 1 (list_of (value_in x))) (sym (value i))) its)))
    constant_told its (g ∷ gs) asc hl hp = absurd hp

    constant_call : CallLifts docs s s' site r looped [] t
    constant_call = quiet_call site r looped [] t _ _ m no_step constant_few constant_calm constant_told

  pub true_call : {s s' : State} (site : Site) (looped t : OpId) → Makes s s' t three (literal_rows (BoolItem true) (at s looped).rows) (length (at s looped).rows) → CallLifts docs s s' site (Apply f.True) looped [] t
  true_call site looped t m = constant_call site (Apply f.True) true looped t refl (λ i. refl) m

  pub false_call : {s s' : State} (site : Site) (looped t : OpId) → Makes s s' t three (literal_rows (BoolItem false) (at s looped).rows) (length (at s looped).rows) → CallLifts docs s s' site (Apply f.False) looped [] t
  false_call site looped t m = constant_call site (Apply f.False) false looped t refl (λ i. refl) m

  -- a failure: every iteration that reaches it
  module _ {s s1 s2 : State} (site : Site) (code : Code) (looped t : OpId) (dynamic : is_dynamic code ≡ true) (m : Makes s s1 t three [] 0) (h : Checks s1 s2 (record { op = looped; code = code; offset = site.offset })) where
    abbrev all_fail : Check
    all_fail = record { op = looped; code = code; offset = site.offset }

    small_none_here : (N : ℕ) → Small s2 (length s.tables) (length s2.tables) N
    small_none_here N = subst (λ n. Small s2 (length s.tables) n N) (sym h.as_many) (small_keep h.grows (omega arith) (small_most m.small (omega arith)))

    failing : (N : ℕ) (its : List Iter) (gs : List (Iter → List Cell)) → Ascends (λ i. i.number) 0 its → Holds s looped single (loop_rows its) → HoldAll s [] gs its
        → Tells N s2 (length s.tables) (length s2.tables) (record { site = site; checks = all_fail ∷ [] } ∷ []) (call_faults docs site (FailWith code) gs its)
        × (call_faults docs site (FailWith code) gs its ≡ [] → Holds s2 t three (value_rows (λ i. list_of (value_in (call_answer docs site (FailWith code) gs i))) its))
    failing N its gs asc hl hp =
        let there = holds_keep h.grows (holds_keep m.grows hl) in (
          rule_tells site (call_answer docs site (FailWith code) gs) its N s s2 (all_fail ∷ []) (
            (λ v. ap (λ cs. total v (map (cell bare cs (column 0)) (at s2 looped).rows)) there.cols_are
                ∙ total-map v (cell bare single (column 0)) (at s2 looped).rows
                ∙ there.rows_are.at (λ r. v (cell bare single (column 0) r))
                ∙ total-map (λ r. v (cell bare single (column 0) r)) (λ (i : Iter). num i.number ∷ []) its
                ∙ total-ext _ _ its (λ i. sym (ap (λ b. cond b (v (num i.number)) 0) (code_self code)))),
            tt,
          )
              (all_each _ (λ i. inl refl) its)
              ((let q = h.is_in in let n = h.as_many in small_less (omega arith) (small_none_here N)), tt)
              (λ z. small_none_here N),
          (λ z. holds_keep h.grows (makes_holds m (empty_stands its))),
        )

    pub failure_call : CallLifts docs s s2 site (FailWith code) looped [] t
    failure_call = record {
      new = all_fail ∷ [];
      grows = grows_trans m.grows h.grows;
      placed = (((let q = h.is_in in let n = h.as_many in omega arith), refl, dynamic), tt);
      coded = (tt, tt);
      steps = record { added = []; steps_are = h.quiet ∙ m.quiet ∙ sym (append_none s.steps); walks_are = refl; inputs = tt };
      told = λ N its gs asc hl hp tree rooted enough. failing N its gs asc hl hp;
    }
