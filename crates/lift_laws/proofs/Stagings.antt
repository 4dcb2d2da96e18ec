-- Checks one after another, as their operators make them: what they add, and a lifted call from them and from its value's rows.
use Rattle.std.proofs.Common.{◌≡◌, ℕ, ◌+◌, ◌≤◌, ◌<◌, Bool, true, cond, List, [], ◌∷◌, length, map, refl, sym, ap, ◌∙◌, subst, arith, Option, Some, None}
use Rattle.xq_base.specs.declared.code.Code.{Code}
use Rattle.xq_base.specs.Answers.{Answer, check_rank}
use Rattle.xq_base.specs.Texts.{Text}
use Rattle.doc_table.specs.Tree.{Tree}
use Rattle.doc_table.specs.Identity.{TreeId}
use Rattle.doc_table.specs.Values.{Items}
use Rattle.doc_table.specs.NodeRules.{Docs}
use Rattle.plan_dag.specs.declared.op.OpId.{OpId}
use Rattle.plan_dag.specs.declared.check.Check.{Check}
use Rattle.plan_dag.specs.ItemRules.{Cell}
use Rattle.core_meaning.specs.Expr.{Site, Rule}
use Rattle.core_meaning.specs.Meaning.{value_in}
use Rattle.core_meaning.specs.Failures.{failure, faults_of}
use Rattle.core_meaning.specs.Lawful.{is_dynamic}
use Rattle.lift_laws.specs.Sums.{AllOf, Ascends, Same}
use Rattle.lift_laws.specs.Iterations.{Row, Iter, item_rows, value_rows, loop_rows}
use Rattle.lift_laws.specs.Bulk.{list_of, fault, own_walks}
use Rattle.lift_laws.specs.States.{State, at, Small, Grows, Makes, Holds, HoldAll, three, single}
use Rattle.lift_laws.specs.Shapes.{less}
use Rattle.lift_laws.specs.Stages.{Stages}
use Rattle.lift_laws.specs.Lifting.{PlacedCheck, InCodeOrder, Rooted, CallLifts, call_answer, call_faults, call_cost}
use Rattle.lift_laws.proofs.Multi.{same-of, same-trans}
use Rattle.lift_laws.proofs.Picks.{all_each, all_mono, flat-all}
use Rattle.lift_laws.proofs.Values.{flat_nil}
use Rattle.lift_laws.proofs.Keeping.{append_none, grows_self, grows_trans, holds_keep, makes_holds, small_none, small_join, small_keep, small_most}
use Rattle.lift_laws.proofs.Marks.{fault_in}
use Rattle.lift_laws.proofs.Cleared.{AllMark}
use Rattle.lift_laws.proofs.Staged.{first_code, Staged, op_sizes, args_few, staged_call}
use Rattle.lift_laws.proofs.FunctionCases.{is_value_of, unmap}

-- stages: what they add, and what they are
pub stages_grow : (site : Site) (most : ℕ) (s s' : State) (l : List Row) (ms : List (Code × List Row)) (cs : List Check) → Stages site most s s' l ms cs → Grows s s' cs
stages_grow site most s s' l [] [] h = subst (λ q. Grows s q []) (sym h) (grows_self s)
stages_grow site most s s' l [] (x ∷ cs) h = absurd h
stages_grow site most s s' l (m ∷ ms) [] h = absurd h
stages_grow site most s s' l (m ∷ ms) (x ∷ cs) h = grows_trans h.2.made.grows (grows_trans h.2.check.grows (stages_grow site most h.1 s' (less l m.1) ms cs h.3))

pub stages_quiet : (site : Site) (most : ℕ) (s s' : State) (l : List Row) (ms : List (Code × List Row)) (cs : List Check) → Stages site most s s' l ms cs → s'.steps ≡ s.steps
stages_quiet site most s s' l [] [] h = ap (λ (q : State). q.steps) h
stages_quiet site most s s' l [] (x ∷ cs) h = absurd h
stages_quiet site most s s' l (m ∷ ms) [] h = absurd h
stages_quiet site most s s' l (m ∷ ms) (x ∷ cs) h = stages_quiet site most h.1 s' (less l m.1) ms cs h.3 ∙ h.2.check.quiet ∙ h.2.made.quiet

pub stages_small : (site : Site) (most : ℕ) (s s' : State) (l : List Row) (ms : List (Code × List Row)) (cs : List Check) → Stages site most s s' l ms cs → Small s' (length s.tables) (length s'.tables) most
stages_small site most s s' l [] [] h = subst (λ (q : State). Small q (length s.tables) (length q.tables) most) (sym h) (small_none (length s.tables) most)
stages_small site most s s' l [] (x ∷ cs) h = absurd h
stages_small site most s s' l (m ∷ ms) [] h = absurd h
stages_small site most s s' l (m ∷ ms) (x ∷ cs) h =
    let n = h.2.check.as_many in
    let g = stages_grow site most h.1 s' (less l m.1) ms cs h.3 in
    small_join (small_keep (grows_trans h.2.check.grows g) (omega arith) h.2.made.small)
    (subst (λ q. Small s' q (length s'.tables) most) n (stages_small site most h.1 s' (less l m.1) ms cs h.3))

pub stages_staged : (site : Site) (most : ℕ) (s s' : State) (l : List Row) (ms : List (Code × List Row)) (cs : List Check) → Stages site most s s' l ms cs → Staged s' l cs (map (λ (m : Code × List Row). m.1) ms)
stages_staged site most s s' l [] [] h = tt
stages_staged site most s s' l [] (x ∷ cs) h = absurd h
stages_staged site most s s' l (m ∷ ms) [] h = absurd h
stages_staged site most s s' l (m ∷ ms) (x ∷ cs) h =
    let i = h.2.made.is_in in
    let n = h.2.check.as_many in
    ((stages_grow site most h.1 s' (less l m.1) ms cs h.3).same x.op (omega arith) ∙ h.2.check.grows.same x.op i ∙ h.2.made.is, stages_staged site most h.1 s' (less l m.1) ms cs h.3)

pub stages_placed : (site : Site) (most : ℕ) (s s' : State) (l : List Row) (ms : List (Code × List Row)) (cs : List Check) → AllOf (λ (m : Code × List Row). is_dynamic m.0 ≡ true) ms → Stages site most s s' l ms cs → AllOf (PlacedCheck s' site) cs
stages_placed site most s s' l [] [] d h = tt
stages_placed site most s s' l [] (x ∷ cs) d h = absurd h
stages_placed site most s s' l (m ∷ ms) [] d h = absurd h
stages_placed site most s s' l (m ∷ ms) (x ∷ cs) d h =
    let i = h.2.made.is_in in
    let n = h.2.check.as_many in
    let g = (stages_grow site most h.1 s' (less l m.1) ms cs h.3).longer in
    ((omega arith, h.2.offset_is, ap is_dynamic h.2.code_is ∙ d.0), stages_placed site most h.1 s' (less l m.1) ms cs d.1 h.3)

-- the codes of the checks
abbrev pub CodesAre : List Check → List Code → Type 0
CodesAre [] [] = Unit {0}
CodesAre [] (d ∷ ds) = ⊥
CodesAre (x ∷ cs) [] = ⊥
CodesAre (x ∷ cs) (d ∷ ds) = (x.code ≡ d) × CodesAre cs ds

pub stages_codes : (site : Site) (most : ℕ) (s s' : State) (l : List Row) (ms : List (Code × List Row)) (cs : List Check) → Stages site most s s' l ms cs → CodesAre cs (map (λ (m : Code × List Row). m.0) ms)
stages_codes site most s s' l [] [] h = tt
stages_codes site most s s' l [] (x ∷ cs) h = absurd h
stages_codes site most s s' l (m ∷ ms) [] h = absurd h
stages_codes site most s s' l (m ∷ ms) (x ∷ cs) h = (h.2.code_is, stages_codes site most h.1 s' (less l m.1) ms cs h.3)

-- codes in the order of their ranks
abbrev pub Ranked : List Code → Type 0
Ranked [] = Unit {0}
Ranked (d ∷ ds) = AllOf (λ e. check_rank d < check_rank e) ds × Ranked ds

pub ordered : (cs : List Check) (ds : List Code) → CodesAre cs ds → Ranked ds → InCodeOrder cs
ordered [] [] a r = tt
ordered [] (d ∷ ds) a r = absurd a
ordered (x ∷ cs) [] a r = absurd a
ordered (x ∷ cs) (d ∷ ds) a r = (later cs ds a.1 r.0, ordered cs ds a.1 r.1)
  where
    later : (ks : List Check) (es : List Code) → CodesAre ks es → AllOf (λ e. check_rank d < check_rank e) es → AllOf (λ (k : Check). check_rank x.code < check_rank k.code) ks
    later [] es b t = tt
    later (k ∷ ks) [] b t = absurd b
    later (k ∷ ks) (e ∷ es) b t = ((let p = ap check_rank a.0 in let q = ap check_rank b.0 in let z = t.0 in omega arith), later ks es b.1 t.1)

-- the first of these codes whose test holds
abbrev pub first_coded : List Code → List (Iter → Bool) → Iter → Option Code
first_coded [] ps i = None
first_coded (d ∷ ds) [] i = None
first_coded (d ∷ ds) (p ∷ ps) i = cond (p i) (Some d) (first_coded ds ps i)

first_is : (cs : List Check) (ds : List Code) (ps : List (Iter → Bool)) (i : Iter) → CodesAre cs ds → first_code cs ps i ≡ first_coded ds ps i
first_is [] [] ps i a = refl
first_is [] (d ∷ ds) ps i a = absurd a
first_is (x ∷ cs) [] ps i a = absurd a
first_is (x ∷ cs) (d ∷ ds) [] i a = refl
first_is (x ∷ cs) (d ∷ ds) (p ∷ ps) i a = ap (λ e. cond (p i) (Some e) (first_code cs ps i)) a.0 ∙ ap (cond (p i) (Some d)) (first_is cs ds ps i a.1)

abbrev pub first_mark : Code × List Row → Code
first_mark q = q.0

abbrev pub marked_rows : List (Code × List Row) → List (List Row)
marked_rows ms = map (λ (q : Code × List Row). q.1) ms

-- where nothing fails no iteration has a fault
pub calm_calls : (docs : Docs) (site : Site) (r : Rule) (gs : List (Iter → List Cell)) (its : List Iter) → call_faults docs site r gs its ≡ [] → AllOf (λ i. fault_in (call_answer docs site r gs i) ≡ None) its
calm_calls docs site r gs its z =
    all_mono _ _ (λ i (e : map (fault i.number) (faults_of (call_answer docs site r gs i) (failure site i.vector)) ≡ []).
    let q : fault_in (call_answer docs site r gs i) ≡ None = is_value_of (call_answer docs site r gs i) (failure site i.vector) (unmap (fault i.number) _ e) in q) its (flat_nil _ its z)

-- a call whose value is made first, and then its checks
module _ (docs : Docs) (s s1 s2 : State) (site : Site) (r : Rule) (looped : OpId) (args : List OpId) (t : OpId) (cs : List Check) (ms : List (Code × List Row)) (mids : List (List Row)) (tests : List (Iter → List Cell) → List (Iter → Bool))
    (no_step : own_walks site r ≡ []) (ranked : Ranked (map first_mark ms)) (dynamic : AllOf (λ (q : Code × List Row). is_dynamic q.0 ≡ true) ms)
    (rows : List Row) (most many : ℕ) (m : Makes s s1 t three rows most) (st : Stages site many s1 s2 (at s looped).rows ms cs)
    (within : (N : ℕ) → length (at s looped).rows + op_sizes s args ≤ N → AllOf (λ (j : List Row). length j ≤ N) mids → (most ≤ N) × (many ≤ N))
    (told : (its : List Iter) (gs : List (Iter → List Cell)) (tree : TreeId → Option (Tree Text)) → Ascends (λ i. i.number) 0 its → Holds s looped single (loop_rows its) → HoldAll s args gs its → AllOf (λ g. AllOf (λ i. AllOf (Rooted tree) (g i)) its) gs
    → AllMark (marked_rows ms) (tests gs) its × AllOf (λ i. fault_in (call_answer docs site r gs i) ≡ first_coded (map first_mark ms) (tests gs) i) its)
    (sized : (N : ℕ) (its : List Iter) (gs : List (Iter → List Cell)) → Ascends (λ i. i.number) 0 its → Holds s looped single (loop_rows its) → HoldAll s args gs its → call_cost docs site r gs its ≤ N → AllOf (λ (j : List Row). length j ≤ N) mids)
    (value : (its : List Iter) (gs : List (Iter → List Cell)) (tree : TreeId → Option (Tree Text)) → Ascends (λ i. i.number) 0 its → Holds s looped single (loop_rows its) → HoldAll s args gs its → AllOf (λ g. AllOf (λ i. AllOf (Rooted tree) (g i)) its) gs
    → call_faults docs site r gs its ≡ [] → Same rows (value_rows (λ i. list_of (value_in (call_answer docs site r gs i))) its)) where
  grown : Grows s1 s2 cs
  grown = stages_grow site many s1 s2 (at s looped).rows ms cs st

  codes : CodesAre cs (map first_mark ms)
  codes = stages_codes site many s1 s2 (at s looped).rows ms cs st

  small_here : (N : ℕ) → length (at s looped).rows + op_sizes s args ≤ N → AllOf (λ (j : List Row). length j ≤ N) mids → Small s2 (length s.tables) (length s2.tables) N
  small_here N l w =
      let b = within N l w in
      small_join (small_keep grown (omega arith) (small_most m.small b.0)) (small_most (stages_small site many s1 s2 (at s looped).rows ms cs st) b.1)

  marked : (its : List Iter) (gs : List (Iter → List Cell)) (tree : TreeId → Option (Tree Text)) → Ascends (λ i. i.number) 0 its → Holds s looped single (loop_rows its) → HoldAll s args gs its → AllOf (λ g. AllOf (λ i. AllOf (Rooted tree) (g i)) its) gs
      → AllMark (marked_rows ms) (tests gs) its × AllOf (λ i. fault_in (call_answer docs site r gs i) ≡ first_code cs (tests gs) i) its
  marked its gs tree asc hl hp rooted =
      let k = told its gs tree asc hl hp rooted in
      (k.0, all_mono _ _ (λ i (e : fault_in (call_answer docs site r gs i) ≡ first_coded (map first_mark ms) (tests gs) i). e ∙ sym (first_is cs (map first_mark ms) (tests gs) i codes)) its k.1)

  pub stages_within : CallLifts docs s s2 site r looped args t
  stages_within =
      staged_call docs site r looped args t cs (marked_rows ms) mids tests (grows_trans m.grows grown) (stages_placed site many s1 s2 (at s looped).rows ms cs dynamic st)
      (record { added = []; steps_are = stages_quiet site many s1 s2 (at s looped).rows ms cs st ∙ m.quiet ∙ sym (append_none s.steps); walks_are = sym no_step; inputs = tt })
      (ordered cs (map first_mark ms) codes ranked) small_here (stages_staged site many s1 s2 (at s looped).rows ms cs st) marked sized
      (λ its gs tree asc hl hp rooted z. holds_keep grown (makes_holds m (value its gs tree asc hl hp rooted z)))

-- the same where no table has more rows than the loop and the arguments together
module _ (docs : Docs) (s s1 s2 : State) (site : Site) (r : Rule) (looped : OpId) (args : List OpId) (t : OpId) (cs : List Check) (ms : List (Code × List Row)) (mids : List (List Row)) (tests : List (Iter → List Cell) → List (Iter → Bool))
    (no_step : own_walks site r ≡ []) (ranked : Ranked (map first_mark ms)) (dynamic : AllOf (λ (q : Code × List Row). is_dynamic q.0 ≡ true) ms)
    (rows : List Row) (most many : ℕ) (m : Makes s s1 t three rows most) (st : Stages site many s1 s2 (at s looped).rows ms cs)
    (within : (N : ℕ) → length (at s looped).rows + op_sizes s args ≤ N → AllOf (λ (j : List Row). length j ≤ N) mids → (most ≤ N) × (many ≤ N))
    (told : (its : List Iter) (gs : List (Iter → List Cell)) (tree : TreeId → Option (Tree Text)) → Ascends (λ i. i.number) 0 its → Holds s looped single (loop_rows its) → HoldAll s args gs its → AllOf (λ g. AllOf (λ i. AllOf (Rooted tree) (g i)) its) gs
    → AllMark (marked_rows ms) (tests gs) its × AllOf (λ i. fault_in (call_answer docs site r gs i) ≡ first_coded (map first_mark ms) (tests gs) i) its)
    (few : (its : List Iter) (gs : List (Iter → List Cell)) → Ascends (λ i. i.number) 0 its → Holds s looped single (loop_rows its) → HoldAll s args gs its → AllOf (λ (j : List Row). length j ≤ length (at s looped).rows + op_sizes s args) mids)
    (value : (its : List Iter) (gs : List (Iter → List Cell)) (tree : TreeId → Option (Tree Text)) → Ascends (λ i. i.number) 0 its → Holds s looped single (loop_rows its) → HoldAll s args gs its → AllOf (λ g. AllOf (λ i. AllOf (Rooted tree) (g i)) its) gs
    → call_faults docs site r gs its ≡ [] → Same rows (value_rows (λ i. list_of (value_in (call_answer docs site r gs i))) its)) where
  few_within : (N : ℕ) (its : List Iter) (gs : List (Iter → List Cell)) → Ascends (λ i. i.number) 0 its → Holds s looped single (loop_rows its) → HoldAll s args gs its → call_cost docs site r gs its ≤ N → AllOf (λ (j : List Row). length j ≤ N) mids
  few_within N its gs asc hl hp enough =
      let l = args_few docs s site r looped args N its gs hl hp enough in
      all_mono _ _ (λ (j : List Row) (k : length j ≤ length (at s looped).rows + op_sizes s args). let q : length j ≤ N = omega arith in q) mids (few its gs asc hl hp)

  pub stages_call : CallLifts docs s s2 site r looped args t
  stages_call = stages_within docs s s1 s2 site r looped args t cs ms mids tests no_step ranked dynamic rows most many m st within told few_within value

abbrev for_one : ((Iter → List Cell) → List (Iter → Bool)) → List (Iter → List Cell) → List (Iter → Bool)
for_one tests [] = []
for_one tests (h ∷ hs) = tests h

-- the same of one argument
module _ (docs : Docs) (s s1 s2 : State) (site : Site) (r : Rule) (looped a t : OpId) (cs : List Check) (ms : List (Code × List Row)) (mids : List (List Row)) (tests : (Iter → List Cell) → List (Iter → Bool))
    (no_step : own_walks site r ≡ []) (ranked : Ranked (map first_mark ms)) (dynamic : AllOf (λ (q : Code × List Row). is_dynamic q.0 ≡ true) ms)
    (rows : List Row) (most many : ℕ) (m : Makes s s1 t three rows most) (st : Stages site many s1 s2 (at s looped).rows ms cs)
    (within : (N : ℕ) → length (at s looped).rows + length (at s a).rows ≤ N → AllOf (λ (j : List Row). length j ≤ N) mids → (most ≤ N) × (many ≤ N))
    (B : Items → Answer Items) (rule_is : (h : Iter → List Cell) (i : Iter) → call_answer docs site r (h ∷ []) i ≡ B (h i))
    (first : (h : Iter → List Cell) (i : Iter) → fault_in (B (h i)) ≡ first_coded (map first_mark ms) (tests h) i) where
  module _ (marks : (its : List Iter) (h : Iter → List Cell) → Ascends (λ i. i.number) 0 its → Same (at s looped).rows (loop_rows its) → Same (at s a).rows (value_rows h its) → AllMark (marked_rows ms) (tests h) its)
      (few : (its : List Iter) (h : Iter → List Cell) → Ascends (λ i. i.number) 0 its → Same (at s looped).rows (loop_rows its) → Same (at s a).rows (value_rows h its) → AllOf (λ (j : List Row). length j ≤ length (at s looped).rows + length (at s a).rows) mids)
      (value : (its : List Iter) (h : Iter → List Cell) → Ascends (λ i. i.number) 0 its → Same (at s looped).rows (loop_rows its) → Same (at s a).rows (value_rows h its) → (tree : TreeId → Option (Tree Text)) → AllOf (λ i. AllOf (Rooted tree) (h i)) its → AllOf (λ i. fault_in (B (h i)) ≡ None) its → Same rows (value_rows (λ i. list_of (value_in (B (h i)))) its)) where
    told_one : (its : List Iter) (gs : List (Iter → List Cell)) (tree : TreeId → Option (Tree Text)) → Ascends (λ i. i.number) 0 its → Holds s looped single (loop_rows its) → HoldAll s (a ∷ []) gs its → AllOf (λ g. AllOf (λ i. AllOf (Rooted tree) (g i)) its) gs
        → AllMark (marked_rows ms) (for_one tests gs) its × AllOf (λ i. fault_in (call_answer docs site r gs i) ≡ first_coded (map first_mark ms) (for_one tests gs) i) its
    told_one its [] tree asc hl hp rooted = absurd hp
    told_one its (h ∷ []) tree asc hl hp rooted = (marks its h asc hl.rows_are hp.0.rows_are, all_each _ (λ i. ap fault_in (rule_is h i) ∙ first h i) its)
    told_one its (h ∷ k ∷ gs) tree asc hl hp rooted = absurd hp.1

    few_one : (its : List Iter) (gs : List (Iter → List Cell)) → Ascends (λ i. i.number) 0 its → Holds s looped single (loop_rows its) → HoldAll s (a ∷ []) gs its → AllOf (λ (j : List Row). length j ≤ length (at s looped).rows + op_sizes s (a ∷ [])) mids
    few_one its [] asc hl hp = absurd hp
    few_one its (h ∷ []) asc hl hp =
        all_mono _ _ (λ (j : List Row) (k : length j ≤ length (at s looped).rows + length (at s a).rows). let q : length j ≤ length (at s looped).rows + op_sizes s (a ∷ []) = omega arith in q) mids (few its h asc hl.rows_are hp.0.rows_are)
    few_one its (h ∷ k ∷ gs) asc hl hp = absurd hp.1

    value_one : (its : List Iter) (gs : List (Iter → List Cell)) (tree : TreeId → Option (Tree Text)) → Ascends (λ i. i.number) 0 its → Holds s looped single (loop_rows its) → HoldAll s (a ∷ []) gs its → AllOf (λ g. AllOf (λ i. AllOf (Rooted tree) (g i)) its) gs
        → call_faults docs site r gs its ≡ [] → Same rows (value_rows (λ i. list_of (value_in (call_answer docs site r gs i))) its)
    value_one its [] tree asc hl hp rooted z = absurd hp
    value_one its (h ∷ []) tree asc hl hp rooted z =
        same-trans (value its h asc hl.rows_are hp.0.rows_are tree rooted.0 (all_mono _ _ (λ i (e : fault_in (call_answer docs site r (h ∷ []) i) ≡ None). let q : fault_in (B (h i)) ≡ None = sym (ap fault_in (rule_is h i)) ∙ e in q) its (calm_calls docs site r (h ∷ []) its z)))
        (same-of (flat-all _ _ its (all_each _ (λ i. ap (λ x. item_rows i.number 1 (list_of (value_in x))) (sym (rule_is h i))) its)))
    value_one its (h ∷ k ∷ gs) tree asc hl hp rooted z = absurd hp.1

    pub stages_one : CallLifts docs s s2 site r looped (a ∷ []) t
    stages_one =
        stages_call docs s s1 s2 site r looped (a ∷ []) t cs ms mids (for_one tests) no_step ranked dynamic rows most many m st
        (λ N l w. let q : length (at s looped).rows + length (at s a).rows ≤ N = omega arith in within N q w) told_one few_one value_one

abbrev for_two : ((Iter → List Cell) → (Iter → List Cell) → List (Iter → Bool)) → List (Iter → List Cell) → List (Iter → Bool)
for_two tests [] = []
for_two tests (h ∷ []) = []
for_two tests (h ∷ k ∷ hs) = tests h k

-- the same of two arguments
module _ (docs : Docs) (s s1 s2 : State) (site : Site) (r : Rule) (looped a b t : OpId) (cs : List Check) (ms : List (Code × List Row)) (mids : List (List Row)) (tests : (Iter → List Cell) → (Iter → List Cell) → List (Iter → Bool))
    (no_step : own_walks site r ≡ []) (ranked : Ranked (map first_mark ms)) (dynamic : AllOf (λ (q : Code × List Row). is_dynamic q.0 ≡ true) ms)
    (rows : List Row) (most many : ℕ) (m : Makes s s1 t three rows most) (st : Stages site many s1 s2 (at s looped).rows ms cs)
    (within : (N : ℕ) → length (at s looped).rows + length (at s a).rows + length (at s b).rows ≤ N → AllOf (λ (j : List Row). length j ≤ N) mids → (most ≤ N) × (many ≤ N))
    (B : Items → Items → Answer Items) (rule_is : (h k : Iter → List Cell) (i : Iter) → call_answer docs site r (h ∷ k ∷ []) i ≡ B (h i) (k i))
    (first : (h k : Iter → List Cell) (i : Iter) → fault_in (B (h i) (k i)) ≡ first_coded (map first_mark ms) (tests h k) i) where
  module _ (marks : (its : List Iter) (h k : Iter → List Cell) → Ascends (λ i. i.number) 0 its → Same (at s looped).rows (loop_rows its) → Same (at s a).rows (value_rows h its) → Same (at s b).rows (value_rows k its) → AllMark (marked_rows ms) (tests h k) its)
      (few : (its : List Iter) (h k : Iter → List Cell) → Ascends (λ i. i.number) 0 its → Same (at s looped).rows (loop_rows its) → Same (at s a).rows (value_rows h its) → Same (at s b).rows (value_rows k its)
      → AllOf (λ (j : List Row). length j ≤ length (at s looped).rows + length (at s a).rows + length (at s b).rows) mids)
      (value : (its : List Iter) (h k : Iter → List Cell) → Ascends (λ i. i.number) 0 its → Same (at s looped).rows (loop_rows its) → Same (at s a).rows (value_rows h its) → Same (at s b).rows (value_rows k its) → (tree : TreeId → Option (Tree Text)) → AllOf (λ i. AllOf (Rooted tree) (h i)) its → AllOf (λ i. AllOf (Rooted tree) (k i)) its → AllOf (λ i. fault_in (B (h i) (k i)) ≡ None) its
      → Same rows (value_rows (λ i. list_of (value_in (B (h i) (k i)))) its)) where
    told_two : (its : List Iter) (gs : List (Iter → List Cell)) (tree : TreeId → Option (Tree Text)) → Ascends (λ i. i.number) 0 its → Holds s looped single (loop_rows its) → HoldAll s (a ∷ b ∷ []) gs its → AllOf (λ g. AllOf (λ i. AllOf (Rooted tree) (g i)) its) gs
        → AllMark (marked_rows ms) (for_two tests gs) its × AllOf (λ i. fault_in (call_answer docs site r gs i) ≡ first_coded (map first_mark ms) (for_two tests gs) i) its
    told_two its [] tree asc hl hp rooted = absurd hp
    told_two its (h ∷ []) tree asc hl hp rooted = absurd hp.1
    told_two its (h ∷ k ∷ []) tree asc hl hp rooted = (marks its h k asc hl.rows_are hp.0.rows_are hp.1.0.rows_are, all_each _ (λ i. ap fault_in (rule_is h k i) ∙ first h k i) its)
    told_two its (h ∷ k ∷ k' ∷ gs) tree asc hl hp rooted = absurd hp.1.1

    few_two : (its : List Iter) (gs : List (Iter → List Cell)) → Ascends (λ i. i.number) 0 its → Holds s looped single (loop_rows its) → HoldAll s (a ∷ b ∷ []) gs its → AllOf (λ (j : List Row). length j ≤ length (at s looped).rows + op_sizes s (a ∷ b ∷ [])) mids
    few_two its [] asc hl hp = absurd hp
    few_two its (h ∷ []) asc hl hp = absurd hp.1
    few_two its (h ∷ k ∷ []) asc hl hp =
        all_mono _ _ (λ (j : List Row) (z : length j ≤ length (at s looped).rows + length (at s a).rows + length (at s b).rows). let q : length j ≤ length (at s looped).rows + op_sizes s (a ∷ b ∷ []) = omega arith in q) mids (few its h k asc hl.rows_are hp.0.rows_are hp.1.0.rows_are)
    few_two its (h ∷ k ∷ k' ∷ gs) asc hl hp = absurd hp.1.1

    value_two : (its : List Iter) (gs : List (Iter → List Cell)) (tree : TreeId → Option (Tree Text)) → Ascends (λ i. i.number) 0 its → Holds s looped single (loop_rows its) → HoldAll s (a ∷ b ∷ []) gs its → AllOf (λ g. AllOf (λ i. AllOf (Rooted tree) (g i)) its) gs
        → call_faults docs site r gs its ≡ [] → Same rows (value_rows (λ i. list_of (value_in (call_answer docs site r gs i))) its)
    value_two its [] tree asc hl hp rooted z = absurd hp
    value_two its (h ∷ []) tree asc hl hp rooted z = absurd hp.1
    value_two its (h ∷ k ∷ []) tree asc hl hp rooted z =
        same-trans (value its h k asc hl.rows_are hp.0.rows_are hp.1.0.rows_are tree rooted.0 rooted.1.0 (all_mono _ _ (λ i (e : fault_in (call_answer docs site r (h ∷ k ∷ []) i) ≡ None). let q : fault_in (B (h i) (k i)) ≡ None = sym (ap fault_in (rule_is h k i)) ∙ e in q) its (calm_calls docs site r (h ∷ k ∷ []) its z)))
        (same-of (flat-all _ _ its (all_each _ (λ i. ap (λ x. item_rows i.number 1 (list_of (value_in x))) (sym (rule_is h k i))) its)))
    value_two its (h ∷ k ∷ k' ∷ gs) tree asc hl hp rooted z = absurd hp.1.1

    pub stages_two : CallLifts docs s s2 site r looped (a ∷ b ∷ []) t
    stages_two =
        stages_call docs s s1 s2 site r looped (a ∷ b ∷ []) t cs ms mids (for_two tests) no_step ranked dynamic rows most many m st
        (λ N l w. let q : length (at s looped).rows + length (at s a).rows + length (at s b).rows ≤ N = omega arith in within N q w) told_two few_two value_two
