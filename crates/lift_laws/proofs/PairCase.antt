-- Calls of functions of two operands of at most one item each, from the rows of their operators: a check for each code, and a map
-- over both items beside each other.
use Rattle.std.proofs.Common.{◌≡◌, ℕ, ◌+◌, ◌≤◌, Bool, true, false, cond, not, ◌&&◌, ◌||◌, List, [], ◌∷◌, length, map, refl, sym, ap, ◌∙◌, subst, arith, Option, Some, None}
use Rattle.std.proofs.Math.Bool.{or-false}
use Rattle.std.specs.List.{list_any}
use Rattle.std.proofs.Math.Nat.{max-le}
use Rattle.xq_base.specs.declared.code.Code.{Code}
use Rattle.xq_base.specs.declared.code.Code.TheVariants as c
use Rattle.xq_base.specs.declared.fun.Fun.{Fun}
use Rattle.xq_base.specs.Answers.{Answer, Value, Fault as Refused, check_rank, then_rule, both_of}
use Rattle.doc_table.specs.Values.{Items}
use Rattle.doc_table.specs.NodeRules.{Docs}
use Rattle.doc_table.specs.Functions.{fun_answer}
use Rattle.plan_dag.specs.declared.op.OpId.{OpId}
use Rattle.plan_dag.specs.declared.check.Check.{Check}
use Rattle.plan_dag.specs.Cells.{given, code_in}
use Rattle.plan_dag.specs.ItemRules.{Cell, outcome_of}
use Rattle.plan_dag.specs.Rows.{is_code}
use Rattle.core_meaning.specs.Expr.{Site, Apply}
use Rattle.core_meaning.specs.Meaning.{value_in}
use Rattle.core_meaning.specs.Lawful.{is_dynamic}
use Rattle.lift_laws.specs.Sums.{AllOf, Ascends, Same}
use Rattle.lift_laws.specs.Iterations.{Row, Iter, item_rows, value_rows, loop_rows}
use Rattle.lift_laws.specs.Bulk.{list_of}
use Rattle.lift_laws.specs.States.{State, at, Makes, three}
use Rattle.lift_laws.specs.Shapes.{bare, restrict_rows}
use Rattle.lift_laws.specs.Stages.{Stages}
use Rattle.lift_laws.specs.Pairs.{PairCode, OfEach, OfBoth, code_of, fit_loop, both_rows, later_marks, pair_marks, pair_most, pair_value_rows}
use Rattle.lift_laws.specs.Lifting.{CallLifts}
use Rattle.lift_laws.proofs.Multi.{same-of, same-trans, same-length}
use Rattle.lift_laws.proofs.Picks.{all_each, flat-all}
use Rattle.lift_laws.proofs.Sizes.{size_loop}
use Rattle.lift_laws.proofs.Marks.{fault_in}
use Rattle.lift_laws.proofs.Cleared.{AllMark}
use Rattle.lift_laws.proofs.Stagings.{Ranked, first_coded, first_mark, marked_rows, stages_two}
use Rattle.lift_laws.proofs.PairRows.{hit, both_hit, own_hit, unfit, given_at, marks_hit, marks_unfit, few_left, few_both, pair_values_stand, fill}
use Rattle.lift_laws.proofs.PairCodes.{sooner, or_else, AmongOwn, AmongBoth, OwnFirst, AllOwn, among_none, both_none, own_head, other_codes, first_by, first_is, fault_both, fault_left, fault_right}

-- the first code whose test holds
abbrev pub first_after : Fun → List PairCode → Items → Items → Option Code
first_after f [] us vs = None
first_after f (e ∷ es) us vs = cond (hit f e us vs) (Some (code_of e)) (first_after f es us vs)

abbrev pub first_of : Fun → PairCode → List PairCode → Items → Items → Option Code
first_of f e es us vs = cond (unfit f e us vs) (Some (code_of e)) (first_after f es us vs)

abbrev tests_at : Fun → List PairCode → (Iter → List Cell) → (Iter → List Cell) → List (Iter → Bool)
tests_at f [] h k = []
tests_at f (e ∷ es) h k = (λ i. hit f e (h i) (k i)) ∷ tests_at f es h k

abbrev tests_for : Fun → PairCode → List PairCode → (Iter → List Cell) → (Iter → List Cell) → List (Iter → Bool)
tests_for f e es h k = (λ i. unfit f e (h i) (k i)) ∷ tests_at f es h k

tests_are : (f : Fun) (es : List PairCode) (l a b : List Row) (h k : Iter → List Cell) (i : Iter) → first_coded (map first_mark (later_marks f es l a b)) (tests_at f es h k) i ≡ first_after f es (h i) (k i)
tests_are f [] l a b h k i = refl
tests_are f (e ∷ es) l a b h k i = ap (cond (hit f e (h i) (k i)) (Some (code_of e))) (tests_are f es l a b h k i)

marks_all : (f : Fun) (es : List PairCode) (g h : Iter → List Cell) (its : List Iter) (l a b : List Row) → Ascends (λ i. i.number) 0 its → Same l (loop_rows its) → Same a (value_rows g its) → Same b (value_rows h its)
    → AllMark (marked_rows (later_marks f es l a b)) (tests_at f es g h) its
marks_all f [] g h its l a b asc sl sa sb = tt
marks_all f (e ∷ es) g h its l a b asc sl sa sb = (marks_hit g h its l a b asc sl sa sb f e, marks_all f es g h its l a b asc sl sa sb)

codes_back : (f : Fun) (es : List PairCode) (l a b : List Row) → map first_mark (later_marks f es l a b) ≡ map code_of es
codes_back f [] l a b = refl
codes_back f (e ∷ es) l a b = ap (λ ds. code_of e ∷ ds) (codes_back f es l a b)

-- a call of two operands, as they are or made ready, whose checks are those of these codes, and whose value is B
module _ (docs : Docs) (s s1 s2 : State) (site : Site) (looped a b t : OpId) (cs : List Check) (f : Fun) (e : PairCode) (es : List PairCode)
    (ranked : Ranked (map code_of (e ∷ es))) (dynamic : AllOf (λ d. is_dynamic d ≡ true) (map code_of (e ∷ es)))
    (A' B' : List Row) (x y : Items → Items)
    (left : (its : List Iter) (h : Iter → List Cell) → Ascends (λ i. i.number) 0 its → Same (at s looped).rows (loop_rows its) → Same (at s a).rows (value_rows h its) → Same A' (value_rows (λ i. x (h i)) its) × (length A' ≤ length (at s looped).rows + length (at s a).rows))
    (right : (its : List Iter) (k : Iter → List Cell) → Ascends (λ i. i.number) 0 its → Same (at s looped).rows (loop_rows its) → Same (at s b).rows (value_rows k its) → Same B' (value_rows (λ i. y (k i)) its) × (length B' ≤ length (at s looped).rows + length (at s b).rows))
    (B : Items → Items → Answer Items) (is : (us vs : Items) → fun_answer docs f (us ∷ vs ∷ []) ≡ B us vs)
    (first : (us vs : Items) → fault_in (B us vs) ≡ first_of f e es (x us) (y vs)) (value : (us vs : Items) → given_at f (x us) (y vs) ≡ list_of (value_in (B us vs)))
    (m : Makes s s1 t three (pair_value_rows f (at s looped).rows A' B') (pair_most (at s looped).rows A' B'))
    (st : Stages site (pair_most (at s looped).rows A' B') s1 s2 (at s looped).rows (pair_marks f (e ∷ es) (at s looped).rows A' B') cs) where
  abbrev L : List Row
  L = (at s looped).rows

  abbrev mids : List (List Row)
  mids = A' ∷ B' ∷ restrict_rows (fit_loop (at s looped).rows A' B') A' ∷ both_rows (at s looped).rows A' B' ∷ []

  placed : AllOf (λ (q : Code × List Row). is_dynamic q.0 ≡ true) (pair_marks f (e ∷ es) (at s looped).rows A' B')
  placed = (dynamic.0, of_marks es dynamic.1)
    where
      of_marks : (ds : List PairCode) → AllOf (λ d. is_dynamic d ≡ true) (map code_of ds) → AllOf (λ (q : Code × List Row). is_dynamic q.0 ≡ true) (later_marks f ds (at s looped).rows A' B')
      of_marks [] d = tt
      of_marks (z ∷ ds) d = (d.0, of_marks ds d.1)

  bounded : (N : ℕ) → length (at s looped).rows + length (at s a).rows + length (at s b).rows ≤ N → AllOf (λ (j : List Row). length j ≤ N) mids → (pair_most (at s looped).rows A' B' ≤ N) × (pair_most (at s looped).rows A' B' ≤ N)
  bounded N q w =
      let l : length (at s looped).rows ≤ N = omega arith in
      let p : pair_most (at s looped).rows A' B' ≤ N = max-le (max-le l w.0) (max-le w.1.0 (max-le w.1.1.0 w.1.1.1.0)) in
      (p, p)

  module _ (its : List Iter) (h k : Iter → List Cell) (asc : Ascends (λ i. i.number) 0 its) (sl : Same (at s looped).rows (loop_rows its)) (sa : Same (at s a).rows (value_rows h its)) (sb : Same (at s b).rows (value_rows k its)) where
    marks : AllMark (marked_rows (pair_marks f (e ∷ es) (at s looped).rows A' B')) (tests_for f e es (λ i. x (h i)) (λ i. y (k i))) its
    marks =
        let sa' = (left its h asc sl sa).0 in
        let sb' = (right its k asc sl sb).0 in
        (marks_unfit (λ i. x (h i)) (λ i. y (k i)) its L A' B' asc sl sa' sb' f e, marks_all f es (λ i. x (h i)) (λ i. y (k i)) its L A' B' asc sl sa' sb')

    few_mids : AllOf (λ (j : List Row). length j ≤ length (at s looped).rows + length (at s a).rows + length (at s b).rows) mids
    few_mids =
        let p = left its h asc sl sa in
        let q = right its k asc sl sb in
        let n = p.1 in
        let o = q.1 in
        let u = few_left (λ i. x (h i)) (λ i. y (k i)) its L A' B' asc sl p.0 q.0 in
        let v = few_both (λ i. x (h i)) (λ i. y (k i)) its L A' B' asc sl p.0 q.0 in
        let z = same-length sl ∙ size_loop its in
        let one : length A' ≤ length (at s looped).rows + length (at s a).rows + length (at s b).rows = omega arith in
        let two : length B' ≤ length (at s looped).rows + length (at s a).rows + length (at s b).rows = omega arith in
        let three' : length (restrict_rows (fit_loop (at s looped).rows A' B') A') ≤ length (at s looped).rows + length (at s a).rows + length (at s b).rows = omega arith in
        let four : length (both_rows (at s looped).rows A' B') ≤ length (at s looped).rows + length (at s a).rows + length (at s b).rows = omega arith in
        (one, (two, (three', (four, tt))))

    stand : Same (pair_value_rows f (at s looped).rows A' B') (value_rows (λ i. list_of (value_in (B (h i) (k i)))) its)
    stand =
        same-trans (pair_values_stand (λ i. x (h i)) (λ i. y (k i)) its L A' B' asc sl (left its h asc sl sa).0 (right its k asc sl sb).0 f) (same-of (flat-all _ _ its (all_each _ (λ i. ap (item_rows i.number 1) (value (h i) (k i))) its)))

  pub checked_pair_call : CallLifts docs s s2 site (Apply f) looped (a ∷ b ∷ []) t
  checked_pair_call =
      stages_two docs s s1 s2 site (Apply f) looped a b t cs (pair_marks f (e ∷ es) (at s looped).rows A' B') mids (λ h k. tests_for f e es (λ i. x (h i)) (λ i. y (k i))) refl
      (subst (λ ds. Ranked (code_of e ∷ ds)) (sym (codes_back f es (at s looped).rows A' B')) ranked) placed _ _ _ m st bounded B (λ h k i. is (h i) (k i))
      (λ h k i. first (h i) (k i) ∙ ap (cond (unfit f e (x (h i)) (y (k i))) (Some (code_of e))) (sym (tests_are f es L A' B' (λ i. x (h i)) (λ i. y (k i)) i)))
      marks few_mids (λ its h k asc sl sa sb tree rooted rooted' calm. stand its h k asc sl sa sb)

pub code_fault : (z : Answer Items) → code_in (outcome_of z) ≡ fault_in z
code_fault (Value []) = refl
code_fault (Value (v ∷ [])) = refl
code_fault (Value (v ∷ u ∷ vs)) = refl
code_fault (Refused d) = refl

-- a value has at most one item
abbrev pub OneAtMost : Answer Items → Type 0
OneAtMost (Value []) = Unit {0}
OneAtMost (Value (v ∷ [])) = Unit {0}
OneAtMost (Value (v ∷ u ∷ vs)) = ⊥
OneAtMost (Refused d) = Unit {0}

pub shown : (z : Answer Items) → OneAtMost z → given (outcome_of z) ≡ list_of (value_in z)
shown (Value []) h = refl
shown (Value (v ∷ [])) h = refl
shown (Value (v ∷ u ∷ vs)) h = absurd h
shown (Refused d) h = refl

same_both : {A : Type 0} (b : Bool) (x : A) → cond b x x ≡ x
same_both true x = refl
same_both false x = refl

twice : (b : Bool) → not (not b && true) ≡ b
twice true = refl
twice false = refl

abbrev few : Option Cell → Items
few None = []
few (Some u) = u ∷ []

-- both operands are read alike, and a rule is applied to what is read
module _ {X : Type 0} (R : Items → Answer X) (K : X × X → Answer Items) (f : Fun) (e : PairCode) (es : List PairCode) (x0 : X)
    (head_is : code_of e ≡ c.XPTY0004) (none_is : R [] ≡ Value x0) (two_is : (v u : Cell) (vs : Items) → R (v ∷ u ∷ vs) ≡ Refused c.XPTY0004)
    (calm_left : (y : X) → fault_in (K (x0, y)) ≡ None) (calm_right : (x : X) → fault_in (K (x, x0)) ≡ None)
    (ranked : Ranked (map code_of (e ∷ es))) (own_first : OwnFirst (e ∷ es))
    (own : (v : Cell) → AmongOwn (fault_in (R (v ∷ []))) (e ∷ es)) (both : (p : X × X) → AmongBoth (fault_in (K p)) (e ∷ es))
    (outcome : (u v : Cell) → bare.value f (u ∷ v ∷ []) ≡ outcome_of (then_rule (both_of (R (u ∷ [])) (R (v ∷ []))) K)) where
  abbrev answer : Items → Items → Answer Items
  answer us vs = then_rule (both_of (R us) (R vs)) K

  abbrev code_at : Option Cell → Option Code
  code_at o = fault_in (R (few o))

  abbrev both_at : Option Cell → Option Cell → Option Code
  both_at None v = None
  both_at (Some u) None = None
  both_at (Some u) (Some v) = fault_in (answer (u ∷ []) (v ∷ []))

  own_is : (d : Code) → ((p : X × X) → is_code d (fault_in (K p)) ≡ false) → (o : Option Cell) → list_any (own_hit f d) (few o) ≡ is_code d (code_at o)
  own_is d q None = sym (ap (λ z. is_code d (fault_in z)) none_is)
  own_is d q (Some u) = or-false (own_hit f d u) ∙ ap (λ x. is_code d (code_in x)) (outcome u u) ∙ ap (is_code d) (code_fault (answer (u ∷ []) (u ∷ []))) ∙ same (R (u ∷ []))
    where
      same : (x : Answer X) → is_code d (fault_in (then_rule (both_of x x) K)) ≡ is_code d (fault_in x)
      same (Value x) = q (x, x)
      same (Refused k) = ap (λ z. is_code d (Some z)) (same_both _ k)

  both_is : (d : Code) (o p : Option Cell) → both_hit f d (few o) (few p) ≡ is_code d (both_at o p)
  both_is d None None = refl
  both_is d None (Some v) = refl
  both_is d (Some u) None = refl
  both_is d (Some u) (Some v) = ap (λ x. is_code d (code_in x)) (outcome u v) ∙ ap (is_code d) (code_fault (answer (u ∷ []) (v ∷ [])))

  hits_are : (o p : Option Cell) (ds : List PairCode) → AllOwn (λ d. (q : X × X) → is_code d (fault_in (K q)) ≡ false) ds → first_after f ds (few o) (few p) ≡ first_by (code_at o) (code_at p) (both_at o p) ds
  hits_are o p [] h = refl
  hits_are o p (OfEach d ∷ ds) h =
      ap (λ b. cond (b || list_any (own_hit f d) (few p)) (Some d) (first_after f ds (few o) (few p))) (own_is d h.0 o)
      ∙ ap (λ b. cond (is_code d (code_at o) || b) (Some d) (first_after f ds (few o) (few p))) (own_is d h.0 p)
      ∙ ap (cond (is_code d (code_at o) || is_code d (code_at p)) (Some d)) (hits_are o p ds h.1)
  hits_are o p (OfBoth d ∷ ds) h =
      ap (λ b. cond b (Some d) (first_after f ds (few o) (few p))) (both_is d o p) ∙ ap (cond (is_code d (both_at o p)) (Some d)) (hits_are o p ds h)

  none_left : (y : Answer X) → fault_in (then_rule (both_of (Value x0) y) K) ≡ or_else (sooner None (fault_in y)) None
  none_left (Value y) = calm_left y
  none_left (Refused d) = refl

  none_right : (x : Answer X) → fault_in (then_rule (both_of x (Value x0)) K) ≡ or_else (sooner (fault_in x) None) None
  none_right (Value x) = calm_right x
  none_right (Refused d) = refl

  split : (o p : Option Cell) → fault_in (answer (few o) (few p)) ≡ or_else (sooner (code_at o) (code_at p)) (both_at o p)
  split None p =
      ap (λ z. fault_in (then_rule (both_of z (R (few p))) K)) none_is ∙ none_left (R (few p)) ∙ sym (ap (λ z. or_else (sooner (fault_in z) (fault_in (R (few p)))) None) none_is)
  split (Some u) None =
      ap (λ z. fault_in (then_rule (both_of (R (u ∷ [])) z) K)) none_is ∙ none_right (R (u ∷ [])) ∙ sym (ap (λ z. or_else (sooner (fault_in (R (u ∷ []))) (fault_in z)) None) none_is)
  split (Some u) (Some v) = fault_both K (R (u ∷ [])) (R (v ∷ []))

  own_of : (o : Option Cell) → AmongOwn (code_at o) (e ∷ es)
  own_of None = subst (λ z. AmongOwn (fault_in z) (e ∷ es)) (sym none_is) (among_none (e ∷ es))
  own_of (Some u) = own u

  both_of_calm : (o p : Option Cell) → code_at o ≡ None → code_at p ≡ None → AmongBoth (both_at o p) (e ∷ es)
  both_of_calm None p h k = both_none (e ∷ es)
  both_of_calm (Some u) None h k = both_none (e ∷ es)
  both_of_calm (Some u) (Some v) h k = go (R (u ∷ [])) (R (v ∷ [])) h k
    where
      go : (x y : Answer X) → fault_in x ≡ None → fault_in y ≡ None → AmongBoth (fault_in (then_rule (both_of x y) K)) (e ∷ es)
      go (Value x) (Value y) h k = both (x, y)
      go (Value x) (Refused d) h k = cc
      go (Refused d) y h k = cc

  few_faults : (o p : Option Cell) → fault_in (answer (few o) (few p)) ≡ cond (not (not (hit f e (few o) (few p)) && true)) (Some (code_of e)) (first_after f es (few o) (few p))
  few_faults o p =
      split o p ∙ sym (first_is (code_at o) (code_at p) (both_at o p) (e ∷ es) ranked (own_of o) (own_of p) (both_of_calm o p))
      ∙ sym (hits_are o p (e ∷ es) (other_codes (λ q. fault_in (K q)) (e ∷ es) ranked own_first both))
      ∙ ap (λ b. cond b (Some (code_of e)) (first_after f es (few o) (few p))) (sym (twice (hit f e (few o) (few p))))

  two_right : (o : Option Cell) (v w : Cell) (vs : Items) → fault_in (answer (few o) (v ∷ w ∷ vs)) ≡ Some (code_of e)
  two_right o v w vs =
      ap (λ z. fault_in (then_rule (both_of (R (few o)) z) K)) (two_is v w vs ∙ ap Refused (sym head_is))
      ∙ fault_right K (code_of e) (R (few o)) es ranked (own_head (code_at o) e es (own_of o))

  pub faults_are : (us vs : Items) → fault_in (answer us vs) ≡ first_of f e es us vs
  faults_are [] [] = few_faults None None
  faults_are [] (v ∷ []) = few_faults None (Some v)
  faults_are [] (v ∷ w ∷ vs) = two_right None v w vs
  faults_are (u ∷ []) [] = few_faults (Some u) None
  faults_are (u ∷ []) (v ∷ []) = few_faults (Some u) (Some v)
  faults_are (u ∷ []) (v ∷ w ∷ vs) = two_right (Some u) v w vs
  faults_are (u ∷ w ∷ us) vs =
      ap (λ z. fault_in (then_rule (both_of z (R vs)) K)) (two_is u w us ∙ ap Refused (sym head_is)) ∙ fault_left K (code_of e) (R vs) (ap check_rank head_is)

  -- the values where both are there
  module _ (one : (p : X × X) → OneAtMost (K p)) where
    refused_left : (d : Code) (y : Answer X) → [] ≡ list_of (value_in (then_rule (both_of (Refused d) y) K))
    refused_left d (Value y) = refl
    refused_left d (Refused k) = refl

    refused_right : (d : Code) (x : Answer X) → [] ≡ list_of (value_in (then_rule (both_of x (Refused d)) K))
    refused_right d (Value x) = refl
    refused_right d (Refused k) = refl

    one_most : (x y : Answer X) → OneAtMost (then_rule (both_of x y) K)
    one_most (Value x) (Value y) = one (x, y)
    one_most (Value x) (Refused d) = tt
    one_most (Refused d) (Value y) = tt
    one_most (Refused d) (Refused k) = tt

    both_values : (u : Cell) (us : Items) (v : Cell) (vs : Items) → given_at f (u ∷ us) (v ∷ vs) ≡ list_of (value_in (answer (u ∷ us) (v ∷ vs)))
    both_values u [] v [] = ap given (outcome u v) ∙ shown (answer (u ∷ []) (v ∷ [])) (one_most (R (u ∷ [])) (R (v ∷ [])))
    both_values u [] v (w ∷ vs) = refused_right c.XPTY0004 (R (u ∷ [])) ∙ ap (λ z. list_of (value_in (then_rule (both_of (R (u ∷ [])) z) K))) (sym (two_is v w vs))
    both_values u (w ∷ us) v vs = refused_left c.XPTY0004 (R (v ∷ vs)) ∙ ap (λ z. list_of (value_in (then_rule (both_of z (R (v ∷ vs))) K))) (sym (two_is u w us))

    -- and where an absent one is read as this item
    module _ (w : Cell) (w_is : R (w ∷ []) ≡ R []) where
      fill_is : (vs : Items) → R (fill w vs) ≡ R vs
      fill_is [] = w_is
      fill_is (v ∷ vs) = refl

      same_answer : (us vs : Items) → answer (fill w us) (fill w vs) ≡ answer us vs
      same_answer us vs = ap (λ z. then_rule (both_of z (R (fill w vs))) K) (fill_is us) ∙ ap (λ z. then_rule (both_of (R us) z) K) (fill_is vs)

      at_filled : (us vs : Items) → given_at f (fill w us) (fill w vs) ≡ list_of (value_in (answer (fill w us) (fill w vs)))
      at_filled [] [] = both_values w [] w []
      at_filled [] (v ∷ vs) = both_values w [] v vs
      at_filled (u ∷ us) [] = both_values u us w []
      at_filled (u ∷ us) (v ∷ vs) = both_values u us v vs

      pub filled_values : (us vs : Items) → given_at f (fill w us) (fill w vs) ≡ list_of (value_in (answer us vs))
      filled_values us vs = at_filled us vs ∙ ap (λ z. list_of (value_in z)) (same_answer us vs)

      pub filled_faults : (us vs : Items) → fault_in (answer us vs) ≡ first_of f e es (fill w us) (fill w vs)
      filled_faults us vs = ap fault_in (sym (same_answer us vs)) ∙ faults_are (fill w us) (fill w vs)

  -- where nothing is given where an operand is absent
  module _ (absent_left : (y : X) → K (x0, y) ≡ Value []) (absent_right : (x : X) → K (x, x0) ≡ Value []) (one : (p : X × X) → OneAtMost (K p)) where
    nothing_left : (y : Answer X) → [] ≡ list_of (value_in (then_rule (both_of (Value x0) y) K))
    nothing_left (Value y) = ap (λ z. list_of (value_in z)) (sym (absent_left y))
    nothing_left (Refused d) = refl

    nothing_right : (x : Answer X) → [] ≡ list_of (value_in (then_rule (both_of x (Value x0)) K))
    nothing_right (Value x) = ap (λ z. list_of (value_in z)) (sym (absent_right x))
    nothing_right (Refused d) = refl

    given_none : (u : Cell) (us : Items) → given_at f (u ∷ us) [] ≡ []
    given_none u [] = refl
    given_none u (w ∷ us) = refl

    pub values_are : (us vs : Items) → given_at f us vs ≡ list_of (value_in (answer us vs))
    values_are [] vs = nothing_left (R vs) ∙ ap (λ z. list_of (value_in (then_rule (both_of z (R vs)) K))) (sym none_is)
    values_are (u ∷ us) [] = given_none u us ∙ nothing_right (R (u ∷ us)) ∙ ap (λ z. list_of (value_in (then_rule (both_of (R (u ∷ us)) z) K))) (sym none_is)
    values_are (u ∷ us) (v ∷ vs) = both_values one u us v vs
