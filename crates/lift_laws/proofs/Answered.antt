-- A plan that lifts a query's expression answers its first failure, or the cells of its value, within its work.
use Rattle.std.proofs.Common.{◌≡◌, ℕ, ◌+◌, ◌≤◌, Bool, true, false, not, ◌&&◌, ◌||◌, List, [], ◌∷◌, ◌++◌, length, map, refl, sym, ap, ◌∙◌, subst, ⊎_elim, arith, nat_eq, nat_lt, slice_get, Some, true≢false}
use Rattle.std.proofs.lemmas.Bool.{and_parts, eq-eqb, eqb-true}
use Rattle.std.proofs.Math.Nat.{max-le}
use Rattle.xq_base.specs.Texts.{Text}
use Rattle.doc_table.specs.Ascending.{In}
use Rattle.doc_table.specs.NodeRules.{Docs}
use Rattle.plan_dag.specs.declared.op.OpId.{OpId}
use Rattle.plan_dag.specs.declared.op.Op.{Op}
use Rattle.plan_dag.specs.declared.op.Op.TheVariants as o
use Rattle.plan_dag.specs.declared.check.Check.{Check}
use Rattle.plan_dag.specs.Cells.{Rules}
use Rattle.plan_dag.specs.ItemRules.{Cell, item_rules}
use Rattle.plan_dag.specs.Meaning.{Graph, PlanAnswer, Answers, Refuses, answer_from, root_table, root_items}
use Rattle.plan_dag.specs.Graphs.{Adds, empty_graph, with_op}
use Rattle.core_meaning.specs.Expr.{Site, Expr}
use Rattle.core_meaning.specs.Meaning.{no_variables}
use Rattle.core_meaning.specs.Failures.{Failure}
use Rattle.core_meaning.specs.Work.{work}
use Rattle.core_meaning.specs.Lawful.{nodes, binders, all_differ, fits, is_sited, is_lawful, is_dynamic}
use Rattle.lift_laws.specs.Sums.{AllOf}
use Rattle.lift_laws.specs.Iterations.{Iter, item_rows, loop_rows}
use Rattle.lift_laws.specs.Bulk.{list_of, value, Fault, faults, sites}
use Rattle.lift_laws.specs.Worlds.{World, cell_of}
use Rattle.lift_laws.specs.States.{State, StepAt, demand_at, Small, Holds, StandsFor, at, state_of, op_id, column, single}
use Rattle.lift_laws.specs.Lifting.{Group, checks_of, Tells, PlacedCheck, PlacedIn, SitedIn, NotedBy, NoteStands}
use Rattle.lift_laws.specs.Verdicts.{OfNode, Verdict, quiet, failed, SmallFrom}
use Rattle.lift_laws.specs.Existence.{Numbered}
use Rattle.core_meaning.specs.ExprOf.{expr_of}
use Rattle.core_meaning.proofs.Sites.{sites_in_postorder}
use Rattle.lift_laws.specs.Laws.{PlansAnswer}
use Rattle.lift_laws.specs.Plans.{outermost, named, LiftsCore, Expected, the_value, the_failure, ReadsInput, Computes}
use Rattle.lift_laws.proofs.Multi.{same-of, same-trans, same-refl}
use Rattle.lift_laws.proofs.Picks.{all_mono, all-flat, map-all, all_each}
use Rattle.lift_laws.proofs.Values.{all_two, all_map_back, no_faults}
use Rattle.lift_laws.proofs.Sizes.{own_most, weighs}
use Rattle.lift_laws.proofs.Keeping.{append_none, small_keep, small_most, tells_lower}
use Rattle.lift_laws.proofs.Growing.{many}
use Rattle.lift_laws.proofs.Reaching.{cost_is_work}
use Rattle.lift_laws.proofs.FirstFailure.{verdict, demands}
use Rattle.lift_laws.proofs.RootRows.{root_value}
use Rattle.lift_laws.proofs.Leasts.{none_fails, none_faults, least_first}
use Rattle.lift_laws.proofs.Existing.{Differ, look, entries, stretch_of, world_faithful, world_agrees, world_numbered}
use Rattle.lift_laws.proofs.Inputs.{one_site, sites_are, FailsAt, faults_sited, WalkAt, walks_at, naming_of, cell_named, noted_reads}
use Rattle.lift_laws.proofs.Closed.{free_within}

-- the plan that has the one iteration alone
abbrev unit_op : Op
unit_op = o.Unit (column 0)

abbrev unit_graph : Graph
unit_graph = with_op unit_op empty_graph

not_there : (ops : List Op) (k : ℕ) → ops ≡ [] → slice_get ops k ≡ Some unit_op → ⊥
not_there [] k z e = cc
not_there (p ∷ ops) k z e = cc

begun : (looped : OpId) (start : Graph) → Adds empty_graph unit_op looped start → (looped.0 ≡ 0) × (start ≡ unit_graph)
begun looped start a = ⊎_elim (λ h. absurd (not_there start.ops looped.0 (ap (λ (k : Graph). k.ops) h.0) a.0)) (λ h. let r : (looped.0 ≡ 0) × (start ≡ unit_graph) = (h.1, h.2) in r) a.1

-- failures of one node are at its offset
abbrev at_offset : Site → Failure → Bool
at_offset site f = not (nat_eq f.site.number site.number) || nat_eq f.site.offset site.offset

offset_is : (site : Site) (f : Failure) → f.site.number ≡ site.number → at_offset site f ≡ true → f.site.offset ≡ site.offset
offset_is site f e h = eqb-true f.site.offset site.offset (sym (ap (λ b. not b || nat_eq f.site.offset site.offset) (eq-eqb f.site.number site.number e)) ∙ h)

offset_at : (site : Site) (f : Failure) → (f.site.number ≡ site.number → f.site ≡ site) → at_offset site f ≡ true
offset_at site f h = go (nat_eq f.site.number site.number) refl
  where
    go : (b : Bool) → nat_eq f.site.number site.number ≡ b → (not b || nat_eq f.site.offset site.offset) ≡ true
    go true e = eq-eqb f.site.offset site.offset (ap (λ (s : Site). s.offset) (h (eqb-true f.site.number site.number e)))
    go false e = refl

module _ (docs : Docs) (texts : List Text) where
  abbrev R : Rules Cell
  R = item_rules docs texts

  unit_holds : Holds (state_of docs texts unit_graph) (op_id 0) single (loop_rows (outermost ∷ []))
  unit_holds = record { is_in = omega arith; cols_are = refl; rows_are = same-refl _ }

  unit_small : Small (state_of docs texts unit_graph) 0 1 1
  unit_small = record { each = λ i a b. let e : 0 ≡ i = omega arith in subst (λ n. demand_at (state_of docs texts unit_graph) n ≤ 1) e (max-le {a = 1} {b = 0} (omega arith) (omega arith)) }

  module _ (e : Expr) (g : Graph) (sited : is_sited 0 e ≡ true) (lawful : is_lawful e ≡ true) (l : LiftsCore texts e g) where
    abbrev its : List Iter
    its = outermost ∷ []

    abbrev W : World
    W = look (entries docs e its)

    abbrev N : ℕ
    N = work docs e no_variables []

    abbrev s : State
    s = state_of docs texts l.start

    abbrev s' : State
    s' = state_of docs texts g

    abbrev fs : List Fault
    fs = faults docs e its

    fitting : fits [] e ≡ true
    fitting = (and_parts (all_differ (binders e)) (fits [] e) (and_parts (all_differ (binders e) && fits [] e) (nat_lt (nodes e) _) lawful).0).1

    start : (l.looped.0 ≡ 0) × (l.start ≡ unit_graph)
    start = begun l.looped l.start l.begins

    loop_there : Holds s l.looped single (loop_rows its)
    loop_there =
        subst (λ k. Holds (state_of docs texts k) l.looped single (loop_rows its)) (sym start.1)
        (subst (λ n. Holds (state_of docs texts unit_graph) (op_id n) single (loop_rows its)) (sym start.0) unit_holds)

    loop_small : Small s 0 (length s.tables) 1
    loop_small = subst (λ k. Small (state_of docs texts k) 0 (length (state_of docs texts k).tables) 1) (sym start.1) unit_small

    no_checks : s.checks ≡ []
    no_checks = ap (λ (k : Graph). k.checks) start.1

    no_steps : s.steps ≡ []
    no_steps = ap (λ k. (state_of docs texts k).steps) start.1

    one : Numbered 0 its
    one = record { step = (tt, tt); ascends = (omega arith, tt); lengths = (refl, tt) }

    differ : Differ (entries docs e its)
    differ = (stretch_of docs e 0 its sited).differ

    told : Tells N s' (length s.tables) (length s'.tables) (l.lifted docs).chunk.groups fs × (fs ≡ [] → StandsFor docs W s' l.root (value docs e) its × AllOf (NoteStands docs W s') (l.lifted docs).chunk.notes)
    told = (l.lifted docs).told W N its (record {
      faithful = world_faithful docs 0 e its one;
      numbered = world_numbered docs 0 [] e its sited fitting;
      enough = (let k = cost_is_work docs e outermost in omega arith);
      ascends = (omega arith, tt);
      loop = loop_there;
      scope = λ y f. absurd (true≢false (sym (free_within [] e fitting y f)));
    })

    all_checks : g.checks ≡ checks_of (l.lifted docs).chunk.groups
    all_checks = (l.lifted docs).chunk.grows.checks ∙ ap (λ cs. cs ++ checks_of (l.lifted docs).chunk.groups) no_checks

    of_nodes : AllOf (λ q. AllOf (OfNode (sites e) q.site) q.checks) (l.lifted docs).chunk.groups
    of_nodes =
        all_two _ _ _ (λ q (p : PlacedIn s' 0 (0 + nodes e) q) (h : SitedIn (sites e) q). all_mono _ _ (λ c (k : PlacedCheck s' q.site c). let r : OfNode (sites e) q.site c = (h, k.1, k.2) in r) q.checks p.2)
        (l.lifted docs).chunk.groups (l.lifted docs).chunk.placed (l.lifted docs).sited

    first : Verdict R s'.tables fs g.root (sites e) (answer_from R s'.tables g.checks g.root)
    first =
        subst (λ cs. Verdict R s'.tables fs g.root (sites e) (answer_from R s'.tables cs g.root)) (sym all_checks)
        (verdict R s'.tables fs g.root (sites e) N s' (length s.tables) (length s'.tables) (l.lifted docs).chunk.groups refl told.0 (l.lifted docs).chunk.coded of_nodes)

    -- where nothing fails, the root's items are the value's cells
    items : fs ≡ [] → root_items R (root_table R s'.tables g.root) ≡ map (cell_of W) (value docs e outermost)
    items z =
        let h = (told.1 z).0.there in
        ap (λ t. root_items R (root_table R s'.tables t)) l.rooted
        ∙ root_value docs texts (at s' l.root) (map (cell_of W) (value docs e outermost)) h.cols_are (same-trans h.rows_are (same-of (append_none (item_rows 1 1 (map (cell_of W) (value docs e outermost))))))

    -- the sites of failures of a node are its site
    same_offset : (site : Site) → In site (sites e) → AllOf (λ (f : Fault). at_offset site f.failure ≡ true) fs
    same_offset site h =
        all_mono _ _ (λ f (k : FailsAt docs (sites e) f).
        offset_at site f.failure (λ q. one_site (entries docs e its) differ f.failure.site site (subst (In f.failure.site) (sym (sites_are docs e its)) k) (subst (In site) (sym (sites_are docs e its)) h) q)) fs (faults_sited docs e its)

    answered : (a : PlanAnswer Cell) → Verdict R s'.tables fs g.root (sites e) a → Expected docs e (naming_of docs W) a
    answered a (quiet z) =
        let v = (no_faults docs e its z).0 in
        subst (λ vs. Expected docs e (naming_of docs W) (Answers vs))
        (sym (items z ∙ ap (λ o. map (cell_of W) (list_of o)) v.1 ∙ map-all (cell_of W) (named (naming_of docs W)) v.0 (all_each _ (λ u. cell_named docs W u) v.0)))
        (the_value v.0 v.1 (none_fails docs e outermost z))
    answered a (failed site c k h) =
        let r = least_first docs e outermost site c.code h (at_offset site) (same_offset site k.0) k.2 in
        let off : r.0.site.offset ≡ c.offset = offset_is site r.0 r.3 r.4 ∙ sym k.1 in
        subst (λ n. Expected docs e (naming_of docs W) (Refuses c.code n)) off
        (subst (λ d. Expected docs e (naming_of docs W) (Refuses d r.0.site.offset)) r.2 (the_failure r.0 r.1))

    small : SmallFrom N s' (length g.ops) g.checks
    small =
        let k = cost_is_work docs e outermost in
        let a = own_most docs e its in
        let b = weighs docs e its in
        let least : 1 ≤ N = omega arith in
        let before = small_keep (l.lifted docs).chunk.grows (omega arith) (small_most loop_small least) in
        subst (SmallFrom N s' (length g.ops)) (sym all_checks)
        (subst (λ n. SmallFrom N s' n (checks_of (l.lifted docs).chunk.groups)) (many docs texts g)
        (demands N s' (length s'.tables) (l.lifted docs).chunk.groups fs (tells_lower N s' 0 (length s.tables) (length s'.tables) (l.lifted docs).chunk.groups fs before told.0)))

    abbrev added : List StepAt
    added = (l.lifted docs).walked.added

    steps_are : s'.steps ≡ added
    steps_are = (l.lifted docs).walked.steps_are ∙ ap (λ xs. xs ++ added) no_steps

    stepped : AllOf (λ q. WalkAt docs W q.step) added
    stepped = all_map_back (WalkAt docs W) (λ (q : StepAt). q.step) added (subst (AllOf (WalkAt docs W)) (sym (l.lifted docs).walked.walks_are) (walks_at docs W e its (world_agrees docs 0 e its sited)))

    contexts : fs ≡ [] → AllOf (ReadsInput docs (naming_of docs W) e s') s'.steps
    contexts z =
        subst (AllOf (ReadsInput docs (naming_of docs W) e s')) (sym steps_are)
        (all_two _ _ _ (λ q (h : NotedBy q (l.lifted docs).chunk.notes) (k : WalkAt docs W q.step). noted_reads docs e s' q differ k (l.lifted docs).chunk.notes h (told.1 z).1) added (l.lifted docs).walked.noted stepped)

    dynamic : AllOf (λ (c : Check). is_dynamic c.code ≡ true) g.checks
    dynamic =
        subst (AllOf (λ (c : Check). is_dynamic c.code ≡ true)) (sym all_checks)
        (all-flat _ (λ (q : Group). q.checks) (l.lifted docs).chunk.groups (all_mono _ _ (λ q (h : AllOf (OfNode (sites e) q.site) q.checks). all_mono _ _ (λ c (k : OfNode (sites e) q.site c). let r : is_dynamic c.code ≡ true = k.2 in r) q.checks h) (l.lifted docs).chunk.groups of_nodes))

    pub computes : Computes docs texts e g
    computes = record {
      naming = naming_of docs W;
      answer = answered (answer_from R s'.tables g.checks g.root) first;
      demand = small;
      steps = ap (map (λ (q : StepAt). q.step)) steps_are ∙ (l.lifted docs).walked.walks_are;
      contexts = λ z. contexts (none_faults docs e outermost z);
      coded = dynamic;
    }

pub plans_answer : PlansAnswer
plans_answer docs texts core g w l = computes docs texts (expr_of core) g (sites_in_postorder core) w l
