-- Values, failures and work of an expression in all iterations at once (own rule): one recursion over the expression, in
-- which a loop's body has the turns of all iterations, and a branch those iterations that choose it.
use Rattle.std.specs.Prelude.{ℕ, ◌+◌, Bool, false, not, List, [], ◌∷◌, ◌++◌, map, Option, Some, None}
use Rattle.std.specs.List.{filter, flat_map}
use Rattle.xq_base.specs.Texts.{Text}
use Rattle.xq_base.specs.declared.axis.Axis.{Axis}
use Rattle.doc_table.specs.Axes.{Test}
use Rattle.doc_table.specs.Values.{Items}
use Rattle.doc_table.specs.NodeRules.{Docs}
use Rattle.core_meaning.specs.Expr.{Site, Rule, Walk, Expr, Exprs, Spine, Lit, Empty, Var, Seq, Let, For, If, Sorted, Call, no_more, one_more, Leaf, ForBind, LetBind, WhereBind}
use Rattle.core_meaning.specs.Meaning.{with_var, in_loop, deeper, holds, val}
use Rattle.core_meaning.specs.Reached.{OfExpr, OfTuple, where_some}
use Rattle.core_meaning.specs.Failures.{Failure, own_failures}
use Rattle.core_meaning.specs.Work.{part_work}
use Rattle.lift_laws.specs.Sums.{total}
use Rattle.lift_laws.specs.Iterations.{Iter, Turn, turns}

-- the list, or none where it failed
abbrev pub list_of : {A : Type 0} → Option (List A) → List A
list_of None = []
list_of (Some v) = v

abbrev pub chosen_in : Option Items → Bool
chosen_in None = false
chosen_in (Some v) = holds v

abbrev pub other_in : Option Items → Bool
other_in None = false
other_in (Some v) = not (holds v)

-- with a variable
abbrev pub with_value : ℕ → Iter → Items → Iter
with_value x i v = record { number = i.number; env = with_var i.env x v; vector = i.vector }

-- the iteration of a turn, with its item and its place
abbrev pub iter_of : ℕ → ℕ → Turn → Iter
iter_of x p t = record { number = t.number; env = in_loop x p t.outer.env t.place t.item; vector = deeper t.outer.vector t.place }

-- a failure and the number of its iteration
pub record Fault : Type 0 where
  pub number : ℕ
  pub failure : Failure

abbrev pub fault : ℕ → Failure → Fault
fault n f = record { number = n; failure = f }

-- a step of an expression
pub record Step : Type 0 where
  pub site : Site
  pub axis : Axis
  pub test : Test Text

-- the steps of an expression, in order
abbrev pub own_walks : Site → Rule → List Step
own_walks site (Walk from axis test) = record { site = site; axis = axis; test = test } ∷ []
own_walks site _ = []

abbrev mutual
  pub walks : Expr → List Step
  walks (Lit a) = []
  walks Empty = []
  walks (Var x) = []
  walks (Seq a b) = walks a ++ walks b
  walks (Let x b e) = walks b ++ walks e
  walks (For x p s e) = walks s ++ walks e
  walks (If c a b) = walks c ++ (walks a ++ walks b)
  walks (Sorted site os sp) = walks_in sp
  walks (Call site r es) = walks_all es ++ own_walks site r

  pub walks_all : Exprs → List Step
  walks_all no_more = []
  walks_all (one_more e es) = walks e ++ walks_all es

  pub walks_in : Spine → List Step
  walks_in (Leaf ks e) = walks_all ks ++ walks e
  walks_in (ForBind x p s sp) = walks s ++ walks_in sp
  walks_in (LetBind x b sp) = walks b ++ walks_in sp
  walks_in (WhereBind c sp) = walks c ++ walks_in sp

-- the sites of the nodes that have a rule of their own, in order
abbrev mutual
  pub sites : Expr → List Site
  sites (Lit a) = []
  sites Empty = []
  sites (Var x) = []
  sites (Seq a b) = sites a ++ sites b
  sites (Let x b e) = sites b ++ sites e
  sites (For x p s e) = sites s ++ sites e
  sites (If c a b) = sites c ++ (sites a ++ sites b)
  sites (Sorted site os sp) = sites_in sp ++ site ∷ []
  sites (Call site r es) = sites_all es ++ site ∷ []

  pub sites_all : Exprs → List Site
  sites_all no_more = []
  sites_all (one_more e es) = sites e ++ sites_all es

  pub sites_in : Spine → List Site
  sites_in (Leaf ks e) = sites_all ks ++ sites e
  sites_in (ForBind x p s sp) = sites s ++ sites_in sp
  sites_in (LetBind x b sp) = sites b ++ sites_in sp
  sites_in (WhereBind c sp) = sites c ++ sites_in sp

module _ (docs : Docs) where
  -- the value in an iteration, nothing where it fails
  abbrev pub value : Expr → Iter → Items
  value e i = list_of (val docs e i.env i.vector)

  -- whether a condition has a value that is true, and whether it has another one
  abbrev pub chosen : Expr → Iter → Bool
  chosen c i = chosen_in (val docs c i.env i.vector)

  abbrev pub other : Expr → Iter → Bool
  other c i = other_in (val docs c i.env i.vector)

  -- the iterations in which a bound variable has a value, with it
  abbrev pub bound : ℕ → Expr → List Iter → List Iter
  bound x b its = flat_map (λ i. where_some (val docs b i.env i.vector) (λ v. with_value x i v ∷ [])) its

  -- the iterations of a loop's body
  abbrev pub inside : ℕ → ℕ → Expr → List Iter → List Iter
  inside x p s its = map (iter_of x p) (turns (value s) its)

  -- the failures by the node's own rule
  abbrev pub own_faults : Expr → List Iter → List Fault
  own_faults e its = flat_map (λ i. map (fault i.number) (own_failures docs e i.env i.vector)) its

  abbrev mutual
    -- all failures
    pub faults : Expr → List Iter → List Fault
    faults (Lit a) its = []
    faults Empty its = []
    faults (Var x) its = []
    faults (Seq a b) its = faults a its ++ faults b its
    faults (Let x b e) its = faults b its ++ faults e (bound x b its)
    faults (For x p s e) its = faults s its ++ faults e (inside x p s its)
    faults (If c a b) its = faults c its ++ (faults a (filter (chosen c) its) ++ faults b (filter (other c) its))
    faults (Sorted site os sp) its = faults_in sp its ++ own_faults (Sorted site os sp) its
    faults (Call site r es) its = faults_all es its ++ own_faults (Call site r es) its

    pub faults_all : Exprs → List Iter → List Fault
    faults_all no_more its = []
    faults_all (one_more e es) its = faults e its ++ faults_all es its

    pub faults_in : Spine → List Iter → List Fault
    faults_in (Leaf ks e) its = faults_all ks its ++ faults e its
    faults_in (ForBind x p s sp) its = faults s its ++ faults_in sp (inside x p s its)
    faults_in (LetBind x b sp) its = faults b its ++ faults_in sp (bound x b its)
    faults_in (WhereBind c sp) its = faults c its ++ faults_in sp (filter (chosen c) its)

  -- one evaluation's share of the work, and one tuple's
  abbrev pub weight : Expr → Iter → ℕ
  weight e i = part_work docs (OfExpr e) i.env i.vector

  abbrev pub tuple_weight : Spine → Iter → ℕ
  tuple_weight sp i = part_work docs (OfTuple sp) i.env i.vector

  abbrev mutual
    -- the work
    pub cost : Expr → List Iter → ℕ
    cost (Lit a) its = total (weight (Lit a)) its
    cost Empty its = total (weight Empty) its
    cost (Var x) its = total (weight (Var x)) its
    cost (Seq a b) its = cost a its + cost b its + total (weight (Seq a b)) its
    cost (Let x b e) its = cost b its + cost e (bound x b its) + total (weight (Let x b e)) its
    cost (For x p s e) its = cost s its + cost e (inside x p s its) + total (weight (For x p s e)) its
    cost (If c a b) its = cost c its + (cost a (filter (chosen c) its) + cost b (filter (other c) its)) + total (weight (If c a b)) its
    cost (Sorted site os sp) its = cost_in sp its + total (weight (Sorted site os sp)) its
    cost (Call site r es) its = cost_all es its + total (weight (Call site r es)) its

    pub cost_all : Exprs → List Iter → ℕ
    cost_all no_more its = 0
    cost_all (one_more e es) its = cost e its + cost_all es its

    pub cost_in : Spine → List Iter → ℕ
    cost_in (Leaf ks e) its = cost_all ks its + cost e its
    cost_in (ForBind x p s sp) its = cost s its + (total (tuple_weight sp) (inside x p s its) + cost_in sp (inside x p s its))
    cost_in (LetBind x b sp) its = cost b its + (total (tuple_weight sp) (bound x b its) + cost_in sp (bound x b its))
    cost_in (WhereBind c sp) its = cost c its + (total (tuple_weight sp) (filter (chosen c) its) + cost_in sp (filter (chosen c) its))

  -- the values of parts
  abbrev pub values_of : Exprs → List (Iter → Items)
  values_of no_more = []
  values_of (one_more e es) = value e ∷ values_of es
