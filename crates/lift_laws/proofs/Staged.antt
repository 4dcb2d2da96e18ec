-- Several codes of one rule, each by a table of marks: every later check looks at what the earlier ones have left. From the
-- tables of such checks and of the values, the rule is lifted.
use Rattle.std.proofs.Common.{◌≡◌, ℕ, ◌+◌, ◌<◌, ◌≤◌, Bool, true, false, cond, not, ◌&&◌, List, [], ◌∷◌, length, map, refl, sym, ap, ◌∙◌, subst, inl, inr, arith, Option, Some, None}
use Rattle.std.specs.List.{filter}
use Rattle.xq_base.specs.declared.code.Code.{Code}
use Rattle.xq_base.specs.Answers.{check_rank}
use Rattle.xq_base.specs.Texts.{Text}
use Rattle.doc_table.specs.Tree.{Tree}
use Rattle.doc_table.specs.Identity.{TreeId}
use Rattle.doc_table.specs.NodeRules.{Docs}
use Rattle.plan_dag.specs.declared.op.OpId.{OpId}
use Rattle.plan_dag.specs.declared.check.Check.{Check}
use Rattle.plan_dag.specs.ItemRules.{Cell}
use Rattle.plan_dag.specs.Rows.{code_eq}
use Rattle.core_meaning.specs.Expr.{Site, Rule}
use Rattle.core_meaning.specs.Meaning.{value_in}
use Rattle.core_meaning.specs.Work.{rule_work}
use Rattle.lift_laws.specs.Sums.{total, AllOf, Ascends, Same}
use Rattle.lift_laws.specs.Iterations.{Row, Iter, num, value_rows, loop_rows}
use Rattle.lift_laws.specs.Bulk.{list_of}
use Rattle.lift_laws.specs.States.{State, at, Small, Grows, Holds, HoldAll, three, single}
use Rattle.lift_laws.specs.Shapes.{less, other_rows}
use Rattle.lift_laws.specs.Lifting.{first_cells, Tells, InCodeOrder, PlacedCheck, OwnSteps, Rooted, call_answer, call_faults, call_cost, CallLifts}
use Rattle.lift_laws.proofs.Multi.{length-total, same-length, same-of, same-trans, total-ext, total-sum}
use Rattle.lift_laws.proofs.Picks.{all_mono, total-all}
use Rattle.lift_laws.proofs.Sizes.{size_loop, size_cells, total_most}
use Rattle.lift_laws.proofs.Keeping.{small_less}
use Rattle.lift_laws.proofs.Simple.{keep_ascends}
use Rattle.lift_laws.proofs.Marks.{unmarked_stands, marked_stands, exact_keep, fault_in, weigh, CodeIn, code_self, code_apart, rule_tells}
use Rattle.lift_laws.proofs.Cleared.{AllMark, marks_keep, keep_twice, keep_all_true}

-- the first code whose test holds
abbrev pub first_code : List Check → List (Iter → Bool) → Iter → Option Code
first_code [] ps i = None
first_code (c ∷ cs) [] i = None
first_code (c ∷ cs) (p ∷ ps) i = cond (p i) (Some c.code) (first_code cs ps i)

-- the checks' tables, each over the loop that the earlier ones have left
abbrev pub Staged : State → List Row → List Check → List (List Row) → Type 0
Staged s l [] [] = Unit {0}
Staged s l [] (b ∷ bs) = ⊥
Staged s l (c ∷ cs) [] = ⊥
Staged s l (c ∷ cs) (b ∷ bs) = (at s c.op ≡ record { cols = single; rows = other_rows l (less l b) }) × Staged s (less l b) cs bs

pub rank_apart : (c d : Code) → check_rank c < check_rank d → code_eq c d ≡ false
rank_apart c d l = code_apart c d (λ e. let h = ap check_rank e in absurd (omega arith))

rank_above : (c d : Code) → check_rank d < check_rank c → code_eq c d ≡ false
rank_above c d l = code_apart c d (λ e. let h = ap check_rank e in absurd (omega arith))

-- a code before all of these is none of theirs
none_later : (c : Code) (cs : List Check) (ps : List (Iter → Bool)) (v : Cell → ℕ) (i : Iter) → AllOf (λ (d : Check). check_rank c < check_rank d.code) cs → weigh c v i.number (first_code cs ps i) ≡ 0
none_later c [] ps v i a = refl
none_later c (d ∷ cs) [] v i a = refl
none_later c (d ∷ cs) (p ∷ ps) v i a =
    let e = rank_apart c d.code a.0 in
    elim (p i) as (λ b. weigh c v i.number (cond b (Some d.code) (first_code cs ps i)) ≡ 0) [ true ↦ ap (λ b. cond b (v (num i.number)) 0) e | false ↦ none_later c cs ps v i a.1 ]

abbrev Told : State → (Iter → Bool) → List Check → List (Iter → Bool) → List Iter → Check → Type 0
Told s q cs ps its c = (v : Cell → ℕ) → total v (first_cells (at s c.op)) ≡ total (λ i. cond (q i) (weigh c.code v i.number (first_code cs ps i)) 0) its

-- each check has exactly the iterations whose first code it is
pub staged_exact : (s : State) (cs : List Check) (bs : List (List Row)) (ps : List (Iter → Bool)) (q : Iter → Bool) (its : List Iter) (l : List Row) → Ascends (λ i. i.number) 0 its → InCodeOrder cs → Same l (loop_rows (filter q its)) → AllMark bs ps its → Staged s l cs bs → AllOf (Told s q cs ps its) cs
staged_exact s [] bs ps q its l asc o sl m h = tt
staged_exact s (c ∷ cs) [] ps q its l asc o sl m h = absurd h
staged_exact s (c ∷ cs) (b ∷ bs) [] q its l asc o sl m h = absurd m
staged_exact s (c ∷ cs) (b ∷ bs) (p ∷ ps) q its l asc o sl m h =
    let mb = (marks_keep q (b ∷ []) (p ∷ []) its (m.0, tt)).0 in
    let here = marked_stands p (filter q its) l b (keep_ascends q 0 its asc) sl mb in
    let left = same-trans (unmarked_stands p (filter q its) l b sl mb) (same-of (ap loop_rows (keep_twice q (λ i. not (p i)) its))) in
    let rest = staged_exact s cs bs ps (λ i. q i && not (p i)) its _ asc o.1 left m.1 h.1 in (
      (λ v. ap (λ t. total v (first_cells t)) h.0
          ∙ exact_keep (λ i. q i && p i) its _ (same-trans here (same-of (ap loop_rows (keep_twice q p its)))) v
          ∙ total-ext _ _ its (λ i. mine v i (q i) (p i))),
      all_two_here cs o.0 rest,
    )
  where
    mine : (v : Cell → ℕ) (i : Iter) (a d : Bool) → cond (a && d) (v (num i.number)) 0 ≡ cond a (weigh c.code v i.number (cond d (Some c.code) (first_code cs ps i))) 0
    mine v i true true = sym (ap (λ e. cond e (v (num i.number)) 0) (code_self c.code))
    mine v i true false = sym (none_later c.code cs ps v i o.0)
    mine v i false d = refl

    later : (k : Check) → check_rank c.code < check_rank k.code → (v : Cell → ℕ) (i : Iter) (a d : Bool) → cond (a && not d) (weigh k.code v i.number (first_code cs ps i)) 0 ≡ cond a (weigh k.code v i.number (cond d (Some c.code) (first_code cs ps i))) 0
    later k l v i true true = sym (ap (λ e. cond e (v (num i.number)) 0) (rank_above k.code c.code l))
    later k l v i true false = refl
    later k l v i false d = refl

    all_two_here : (ks : List Check) → AllOf (λ (k : Check). check_rank c.code < check_rank k.code) ks → AllOf (Told s (λ i. q i && not (p i)) cs ps its) ks → AllOf (Told s q (c ∷ cs) (p ∷ ps) its) ks
    all_two_here [] a t = tt
    all_two_here (k ∷ ks) a t = ((λ v. t.0 v ∙ total-ext _ _ its (λ i. later k a.0 v i (q i) (p i))), all_two_here ks a.1 t.1)

first_in : (cs : List Check) (ps : List (Iter → Bool)) (i : Iter) → CodeIn (first_code cs ps i) cs
first_in [] ps i = tt
first_in (c ∷ cs) [] i = tt
first_in (c ∷ cs) (p ∷ ps) i = go (p i) (first_code cs ps i) (first_in cs ps i)
  where
    go : (b : Bool) (o : Option Code) → CodeIn o cs → CodeIn (cond b (Some c.code) o) (c ∷ cs)
    go true o h = inl refl
    go false None h = tt
    go false (Some d) h = inr h

-- the rows of the arguments' tables
abbrev pub op_sizes : State → List OpId → ℕ
op_sizes s [] = 0
op_sizes s (t ∷ ts) = length (at s t).rows + op_sizes s ts

pub hold_sizes : (s : State) (ts : List OpId) (gs : List (Iter → List Cell)) (its : List Iter) → HoldAll s ts gs its → op_sizes s ts ≡ total (λ i. total (λ g. length (g i)) gs) its
hold_sizes s [] [] its h = sym (zeros its)
  where
    zeros : (js : List Iter) → total (λ (i : Iter). 0) js ≡ 0
    zeros [] = refl
    zeros (j ∷ js) = let e = zeros js in omega arith
hold_sizes s [] (g ∷ gs) its h = absurd h
hold_sizes s (t ∷ ts) [] its h = absurd h
hold_sizes s (t ∷ ts) (g ∷ gs) its h =
    let a = same-length h.0.rows_are ∙ size_cells g its in
    let b = hold_sizes s ts gs its h.1 in
    let e = total-sum (λ i. length (g i)) (λ i. total (λ k. length (k i)) gs) its in
    omega arith

-- the loop's rows and the arguments' are no more than the work
pub args_few : (docs : Docs) (s : State) (site : Site) (r : Rule) (looped : OpId) (args : List OpId) (N : ℕ) (its : List Iter) (gs : List (Iter → List Cell)) → Holds s looped single (loop_rows its) → HoldAll s args gs its → call_cost docs site r gs its ≤ N
    → length (at s looped).rows + op_sizes s args ≤ N
args_few docs s site r looped args N its gs hl hp enough =
    let a = same-length hl.rows_are ∙ size_loop its ∙ length-total its in
    let d = hold_sizes s args gs its hp in
    let e = total-sum (λ (i : Iter). 1) (λ i. total (λ (g : Iter → List Cell). length (g i)) gs) its in
    let m = total_most (λ i. 1 + total (λ (g : Iter → List Cell). length (g i)) gs) (λ i. 1 + total (λ (g : Iter → List Cell). length (g i)) gs + length (list_of (value_in (call_answer docs site r gs i))) + rule_work r (Some (map (λ g. g i) gs)) (value_in (call_answer docs site r gs i))) its (λ i. omega arith) in
    omega arith

module _ (docs : Docs) {s s' : State} (site : Site) (r : Rule) (looped : OpId) (args : List OpId) (t : OpId) (cs : List Check) (bs mids : List (List Row)) (tests : List (Iter → List Cell) → List (Iter → Bool))
    (grow : Grows s s' cs) (in_cs : AllOf (PlacedCheck s' site) cs) (still : OwnSteps s s' site r args) (ordered : InCodeOrder cs)
    (small : (N : ℕ) → length (at s looped).rows + op_sizes s args ≤ N → AllOf (λ j. length j ≤ N) mids → Small s' (length s.tables) (length s'.tables) N)
    (staged : Staged s' (at s looped).rows cs bs)
    (marked : (its : List Iter) (gs : List (Iter → List Cell)) (tree : TreeId → Option (Tree Text)) → Ascends (λ i. i.number) 0 its → Holds s looped single (loop_rows its) → HoldAll s args gs its → AllOf (λ g. AllOf (λ i. AllOf (Rooted tree) (g i)) its) gs
    → AllMark bs (tests gs) its × AllOf (λ i. fault_in (call_answer docs site r gs i) ≡ first_code cs (tests gs) i) its)
    (sized : (N : ℕ) (its : List Iter) (gs : List (Iter → List Cell)) → Ascends (λ i. i.number) 0 its → Holds s looped single (loop_rows its) → HoldAll s args gs its → call_cost docs site r gs its ≤ N → AllOf (λ j. length j ≤ N) mids)
    (values : (its : List Iter) (gs : List (Iter → List Cell)) (tree : TreeId → Option (Tree Text)) → Ascends (λ i. i.number) 0 its → Holds s looped single (loop_rows its) → HoldAll s args gs its → AllOf (λ g. AllOf (λ i. AllOf (Rooted tree) (g i)) its) gs
    → call_faults docs site r gs its ≡ [] → Holds s' t three (value_rows (λ i. list_of (value_in (call_answer docs site r gs i))) its)) where
  module _ (N : ℕ) (its : List Iter) (gs : List (Iter → List Cell)) (asc : Ascends (λ i. i.number) 0 its) (hl : Holds s looped single (loop_rows its)) (hp : HoldAll s args gs its)
      (tree : TreeId → Option (Tree Text)) (rooted : AllOf (λ g. AllOf (λ i. AllOf (Rooted tree) (g i)) its) gs) (enough : call_cost docs site r gs its ≤ N) where
    few : length (at s looped).rows + op_sizes s args ≤ N
    few = args_few docs s site r looped args N its gs hl hp enough

    all_small : Small s' (length s.tables) (length s'.tables) N
    all_small = small N few (sized N its gs asc hl hp enough)

    abbrev codes : Iter → Option Code
    codes i = fault_in (call_answer docs site r gs i)

    abbrev firsts_at : Iter → Option Code
    firsts_at i = first_code cs (tests gs) i

    code_is : AllOf (λ i. codes i ≡ firsts_at i) its
    code_is = (marked its gs tree asc hl hp rooted).1

    abbrev Exact : Check → Type 0
    Exact c = (v : Cell → ℕ) → total v (first_cells (at s' c.op)) ≡ total (λ i. weigh c.code v i.number (codes i)) its

    exact : AllOf Exact cs
    exact =
        all_mono _ _ (λ (c : Check) (h : (v : Cell → ℕ) → total v (first_cells (at s' c.op)) ≡ total (λ i. cond true (weigh c.code v i.number (firsts_at i)) 0) its).
        let q : Exact c = λ v. h v ∙ total-all _ _ its (all_mono _ _ (λ i (e : codes i ≡ firsts_at i). ap (weigh c.code v i.number) (sym e)) its code_is) in q) cs
        (staged_exact s' cs bs (tests gs) (λ i. true) its (at s looped).rows asc ordered (same-trans hl.rows_are (same-of (ap loop_rows (sym (keep_all_true its))))) (marked its gs tree asc hl hp rooted).0 staged)

    told_here : Tells N s' (length s.tables) (length s'.tables) (record { site = site; checks = cs } ∷ []) (call_faults docs site r gs its)
        × (call_faults docs site r gs its ≡ [] → Holds s' t three (value_rows (λ i. list_of (value_in (call_answer docs site r gs i))) its))
    told_here = (
      rule_tells site (call_answer docs site r gs) its N s s' cs exact (all_mono _ _ (λ i (e : codes i ≡ firsts_at i). subst (λ o. CodeIn o cs) (sym e) (first_in cs (tests gs) i)) its code_is)
          (all_mono _ _ (λ (c : Check) (l : PlacedCheck s' site c). let l0 = l.0 in let q : Small s' (length s.tables) (c.op.0 + 1) N = small_less (omega arith) all_small in q) cs in_cs)
          (λ z. all_small),
      values its gs tree asc hl hp rooted,
    )

  pub staged_call : CallLifts docs s s' site r looped args t
  staged_call = record {
    new = cs;
    grows = grow;
    placed = in_cs;
    coded = ordered;
    steps = still;
    told = λ N its gs asc hl hp tree rooted enough. told_here N its gs asc hl hp tree rooted enough;
  }
