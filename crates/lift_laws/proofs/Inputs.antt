-- The sites of failures and of steps are those of the expression's nodes; and what steps read over all reached evaluations is
-- what they read in all iterations at once.
use Rattle.std.proofs.Common.{◌≡◌, ℕ, ◌+◌, Bool, true, false, cond, List, [], ◌∷◌, ◌++◌, map, refl, sym, ap, ◌∙◌, subst, inl, ⊎_elim, arith, add-zero, nat_eq, append_assoc, Option, Some, None}
use Rattle.std.specs.List.{filter}
use Rattle.std.proofs.lemmas.Bool.{eq-eqb, eqb-true, eqb-false, ne_eqb}
use Rattle.xq_base.specs.Answers.{Answer, Value, Fault as Refused}
use Rattle.xq_base.specs.Texts.{Text}
use Rattle.xq_base.specs.declared.axis.Axis.{Axis}
use Rattle.doc_table.specs.Ascending.{In}
use Rattle.doc_table.specs.Axes.{Test}
use Rattle.doc_table.specs.Identity.{TreeId, DocTree, BuiltTree}
use Rattle.doc_table.specs.Items.{Item, IntItem, TextItem, UntypedItem, BoolItem, NodeItem}
use Rattle.doc_table.specs.Values.{Items}
use Rattle.doc_table.specs.NodeRules.{Docs}
use Rattle.doc_table.proofs.Ascending.{in-left, in-right}
use Rattle.plan_dag.specs.ItemRules.{Cell}
use Rattle.plan_dag.specs.Meaning.{cell}
use Rattle.core_meaning.specs.Expr.{Site, Rule, Apply, Walk, Make, IsOf, TreatAs, ConvertTo, CastTo, CastableTo, FailWith, Expr, Exprs, Spine, Lit, Empty, Var, Seq, Let, For, If, Sorted, Call, no_more, one_more, Leaf, ForBind, LetBind, WhereBind}
use Rattle.core_meaning.specs.declared.node.StepFrom.{StepFrom}
use Rattle.core_meaning.specs.Rules.{rule_answer}
use Rattle.core_meaning.specs.Sorting.{sorted_answer}
use Rattle.core_meaning.specs.Meaning.{Env, no_variables, and_then, val, vals, tuples}
use Rattle.core_meaning.specs.Reached.{Part, OfExpr, where_some, reached}
use Rattle.core_meaning.specs.Failures.{failure, faults_of, own_failures}
use Rattle.lift_laws.specs.Sums.{total, AllOf}
use Rattle.lift_laws.specs.Iterations.{Row, Iter, item_rows, joined}
use Rattle.lift_laws.specs.Bulk.{list_of, value, chosen, other, bound, inside, Fault, fault, own_faults, faults, faults_all, faults_in, Step, own_walks, walks, walks_all, walks_in, sites, sites_all, sites_in}
use Rattle.lift_laws.specs.Worlds.{World, Reach, number_in, id_in, cell_of}
use Rattle.lift_laws.specs.States.{State, StepAt, at, column, three, HoldAll}
use Rattle.lift_laws.specs.Shapes.{bare}
use Rattle.lift_laws.specs.Lifting.{Note, NotedBy, NoteStands, part_cells}
use Rattle.lift_laws.specs.Plans.{outermost, Naming, named_id, named, part_items, inputs, ReadsInput}
use Rattle.lift_laws.proofs.Multi.{total-append, total-map, total-flat, total-zero, total-ext}
use Rattle.lift_laws.proofs.Picks.{all_each, all_mono, all-append, all-flat, map-append}
use Rattle.lift_laws.proofs.Values.{all_front, all_behind}
use Rattle.lift_laws.proofs.Keeping.{append_none}
use Rattle.lift_laws.proofs.Existing.{Differ, no_call, look, Agrees, entries, entries_all, entries_in}
use Rattle.lift_laws.proofs.Reaching.{bulk, bulk_all, bulk_in, bulk_is}

-- in a list whose sites differ a site is known by its number
abbrev pub site_of : Reach → Site
site_of x = x.site

pub one_site : (xs : List Reach) → Differ xs → (a b : Site) → In a (map site_of xs) → In b (map site_of xs) → a.number ≡ b.number → a ≡ b
one_site [] d a b h k e = absurd h
one_site (x ∷ xs) d a b h k e =
    ⊎_elim
    (λ p. ⊎_elim (λ q. p ∙ sym q) (λ l. absurd (apart b xs d.0 l (ap (λ (s : Site). s.number) (sym p) ∙ e))) k)
    (λ l. ⊎_elim (λ q. absurd (apart a xs d.0 l (ap (λ (s : Site). s.number) (sym q) ∙ sym e))) (λ g. one_site xs d.1 a b l g e) k) h
  where
    no_two : false ≡ true → ⊥
    no_two z = cc

    apart : (s : Site) (ys : List Reach) → AllOf (λ y. nat_eq x.site.number y.site.number ≡ false) ys → In s (map site_of ys) → x.site.number ≡ s.number → ⊥
    apart s [] f l q = l
    apart s (y ∷ ys) f l q = ⊎_elim (λ p. no_two (sym f.0 ∙ eq-eqb x.site.number y.site.number (q ∙ ap (λ (r : Site). r.number) p))) (λ g. apart s ys f.1 g q) l

module _ (docs : Docs) where
  both : {ss rs : List Site} (xs ys : List Reach) → map site_of xs ≡ ss → map site_of ys ≡ rs → map site_of (xs ++ ys) ≡ ss ++ rs
  both {ss = ss} xs ys p q = map-append site_of xs ys ∙ ap (λ l. l ++ map site_of ys) p ∙ ap (λ l. ss ++ l) q

  -- the sites of the entries are those of the nodes
  mutual
    pub sites_are : (e : Expr) (its : List Iter) → map site_of (entries docs e its) ≡ sites e
    sites_are (Lit a) its = refl
    sites_are Empty its = refl
    sites_are (Var x) its = refl
    sites_are (Seq a b) its = both (entries docs a its) (entries docs b its) (sites_are a its) (sites_are b its)
    sites_are (Let x b e) its = both (entries docs b its) (entries docs e (bound docs x b its)) (sites_are b its) (sites_are e (bound docs x b its))
    sites_are (For x p s e) its = both (entries docs s its) (entries docs e (inside docs x p s its)) (sites_are s its) (sites_are e (inside docs x p s its))
    sites_are (If c a b) its =
        let ia = filter (chosen docs c) its in
        let ib = filter (other docs c) its in
        both (entries docs c its ++ entries docs a ia) (entries docs b ib) (both (entries docs c its) (entries docs a ia) (sites_are c its) (sites_are a ia)) (sites_are b ib) ∙ append_assoc (sites c) (sites a) (sites b)
    sites_are (Sorted site os sp) its = both (entries_in docs sp its) (no_call site its ∷ []) (sites_are_in sp its) refl
    sites_are (Call site r es) its = both (entries_all docs es its) (record { site = site; rule = r; parts = es; its = its } ∷ []) (sites_are_all es its) refl

    sites_are_all : (es : Exprs) (its : List Iter) → map site_of (entries_all docs es its) ≡ sites_all es
    sites_are_all no_more its = refl
    sites_are_all (one_more e es) its = both (entries docs e its) (entries_all docs es its) (sites_are e its) (sites_are_all es its)

    sites_are_in : (sp : Spine) (its : List Iter) → map site_of (entries_in docs sp its) ≡ sites_in sp
    sites_are_in (Leaf ks e) its = both (entries_all docs ks its) (entries docs e its) (sites_are_all ks its) (sites_are e its)
    sites_are_in (ForBind x p s sp) its = both (entries docs s its) (entries_in docs sp (inside docs x p s its)) (sites_are s its) (sites_are_in sp (inside docs x p s its))
    sites_are_in (LetBind x b sp) its = both (entries docs b its) (entries_in docs sp (bound docs x b its)) (sites_are b its) (sites_are_in sp (bound docs x b its))
    sites_are_in (WhereBind c sp) its = both (entries docs c its) (entries_in docs sp (filter (chosen docs c) its)) (sites_are c its) (sites_are_in sp (filter (chosen docs c) its))

  -- failures are at the nodes' sites
  abbrev pub FailsAt : List Site → Fault → Type 0
  FailsAt ss f = In f.failure.site ss

  left : (ss rs : List Site) (fs : List Fault) → AllOf (FailsAt ss) fs → AllOf (FailsAt (ss ++ rs)) fs
  left ss rs fs a = all_mono _ _ (λ f (h : FailsAt ss f). in-left f.failure.site ss rs h) fs a

  right : (ss rs : List Site) (fs : List Fault) → AllOf (FailsAt rs) fs → AllOf (FailsAt (ss ++ rs)) fs
  right ss rs fs a = all_mono _ _ (λ f (h : FailsAt rs f). in-right f.failure.site ss rs h) fs a

  two : (ss rs : List Site) (fs gs : List Fault) → AllOf (FailsAt ss) fs → AllOf (FailsAt rs) gs → AllOf (FailsAt (ss ++ rs)) (fs ++ gs)
  two ss rs fs gs a b = all-append _ fs gs (left ss rs fs a) (right ss rs gs b)

  of_answer : (site : Site) (vec : List ℕ) (n : ℕ) (x : Answer Items) → AllOf (FailsAt (site ∷ [])) (map (fault n) (faults_of x (failure site vec)))
  of_answer site vec n (Value v) = tt
  of_answer site vec n (Refused d) = (inl refl, tt)

  of_some : {A : Type 0} (site : Site) (vec : List ℕ) (n : ℕ) (x : Option A) (ans : A → Answer Items) → AllOf (FailsAt (site ∷ [])) (map (fault n) (where_some x (λ v. faults_of (ans v) (failure site vec))))
  of_some site vec n None ans = tt
  of_some site vec n (Some v) ans = of_answer site vec n (ans v)

  mutual
    pub faults_sited : (e : Expr) (its : List Iter) → AllOf (FailsAt (sites e)) (faults docs e its)
    faults_sited (Lit a) its = tt
    faults_sited Empty its = tt
    faults_sited (Var x) its = tt
    faults_sited (Seq a b) its = two (sites a) (sites b) (faults docs a its) (faults docs b its) (faults_sited a its) (faults_sited b its)
    faults_sited (Let x b e) its = two (sites b) (sites e) (faults docs b its) (faults docs e (bound docs x b its)) (faults_sited b its) (faults_sited e (bound docs x b its))
    faults_sited (For x p s e) its = two (sites s) (sites e) (faults docs s its) (faults docs e (inside docs x p s its)) (faults_sited s its) (faults_sited e (inside docs x p s its))
    faults_sited (If c a b) its =
        let fa = faults docs a (filter (chosen docs c) its) in
        let fb = faults docs b (filter (other docs c) its) in
        two (sites c) (sites a ++ sites b) (faults docs c its) (fa ++ fb) (faults_sited c its) (two (sites a) (sites b) fa fb (faults_sited a (filter (chosen docs c) its)) (faults_sited b (filter (other docs c) its)))
    faults_sited (Sorted site os sp) its =
        two (sites_in sp) (site ∷ []) (faults_in docs sp its) (own_faults docs (Sorted site os sp) its) (faults_sited_in sp its)
        (all-flat _ (λ i. map (fault i.number) (own_failures docs (Sorted site os sp) i.env i.vector)) its (all_each _ (λ i. of_some site i.vector i.number (tuples docs sp i.env i.vector) (sorted_answer os)) its))
    faults_sited (Call site r es) its =
        two (sites_all es) (site ∷ []) (faults_all docs es its) (own_faults docs (Call site r es) its) (faults_sited_all es its)
        (all-flat _ (λ i. map (fault i.number) (own_failures docs (Call site r es) i.env i.vector)) its (all_each _ (λ i. of_some site i.vector i.number (vals docs es i.env i.vector) (rule_answer docs site i.vector r)) its))

    faults_sited_all : (es : Exprs) (its : List Iter) → AllOf (FailsAt (sites_all es)) (faults_all docs es its)
    faults_sited_all no_more its = tt
    faults_sited_all (one_more e es) its = two (sites e) (sites_all es) (faults docs e its) (faults_all docs es its) (faults_sited e its) (faults_sited_all es its)

    faults_sited_in : (sp : Spine) (its : List Iter) → AllOf (FailsAt (sites_in sp)) (faults_in docs sp its)
    faults_sited_in (Leaf ks e) its = two (sites_all ks) (sites e) (faults_all docs ks its) (faults docs e its) (faults_sited_all ks its) (faults_sited e its)
    faults_sited_in (ForBind x p s sp) its = two (sites s) (sites_in sp) (faults docs s its) (faults_in docs sp (inside docs x p s its)) (faults_sited s its) (faults_sited_in sp (inside docs x p s its))
    faults_sited_in (LetBind x b sp) its = two (sites b) (sites_in sp) (faults docs b its) (faults_in docs sp (bound docs x b its)) (faults_sited b its) (faults_sited_in sp (bound docs x b its))
    faults_sited_in (WhereBind c sp) its = two (sites c) (sites_in sp) (faults docs c its) (faults_in docs sp (filter (chosen docs c) its)) (faults_sited c its) (faults_sited_in sp (filter (chosen docs c) its))

  -- a step is a call of the world
  pub record WalkAt (W : World) (p : Step) : Type 0 where
    pub from : StepFrom
    pub parts : Exprs
    pub its : List Iter
    pub is : W p.site.number ≡ record { site = p.site; rule = Walk from p.axis p.test; parts = parts; its = its }

  own_at : (W : World) (site : Site) (r : Rule) (es : Exprs) (its : List Iter) → W site.number ≡ record { site = site; rule = r; parts = es; its = its } → AllOf (WalkAt W) (own_walks site r)
  own_at W site (Walk from axis test) es its h = (record { from = from; parts = es; its = its; is = h }, tt)
  own_at W site (Apply f) es its h = tt
  own_at W site (Make kind) es its h = tt
  own_at W site (IsOf t) es its h = tt
  own_at W site (TreatAs t) es its h = tt
  own_at W site (ConvertTo t) es its h = tt
  own_at W site (CastTo kind o) es its h = tt
  own_at W site (CastableTo kind o) es its h = tt
  own_at W site (FailWith code) es its h = tt

  steps_then : (W : World) (ps qs : List Step) (xs ys : List Reach) → AllOf (Agrees docs W) (xs ++ ys) → (AllOf (Agrees docs W) xs → AllOf (WalkAt W) ps) → (AllOf (Agrees docs W) ys → AllOf (WalkAt W) qs) → AllOf (WalkAt W) (ps ++ qs)
  steps_then W ps qs xs ys a f g = all-append _ ps qs (f (all_front _ xs ys a)) (g (all_behind _ xs ys a))

  mutual
    pub walks_at : (W : World) (e : Expr) (its : List Iter) → AllOf (Agrees docs W) (entries docs e its) → AllOf (WalkAt W) (walks e)
    walks_at W (Lit a) its h = tt
    walks_at W Empty its h = tt
    walks_at W (Var x) its h = tt
    walks_at W (Seq a b) its h = steps_then W (walks a) (walks b) (entries docs a its) (entries docs b its) h (walks_at W a its) (walks_at W b its)
    walks_at W (Let x b e) its h = steps_then W (walks b) (walks e) (entries docs b its) (entries docs e (bound docs x b its)) h (walks_at W b its) (walks_at W e (bound docs x b its))
    walks_at W (For x p s e) its h = steps_then W (walks s) (walks e) (entries docs s its) (entries docs e (inside docs x p s its)) h (walks_at W s its) (walks_at W e (inside docs x p s its))
    walks_at W (If c a b) its h =
        let ia = filter (chosen docs c) its in
        let ib = filter (other docs c) its in
        let k = all_front _ (entries docs c its ++ entries docs a ia) (entries docs b ib) h in
        all-append _ (walks c) (walks a ++ walks b) (walks_at W c its (all_front _ (entries docs c its) (entries docs a ia) k))
        (all-append _ (walks a) (walks b) (walks_at W a ia (all_behind _ (entries docs c its) (entries docs a ia) k)) (walks_at W b ib (all_behind _ (entries docs c its ++ entries docs a ia) (entries docs b ib) h)))
    walks_at W (Sorted site os sp) its h = walks_at_in W sp its (all_front _ (entries_in docs sp its) (no_call site its ∷ []) h)
    walks_at W (Call site r es) its h = steps_then W (walks_all es) (own_walks site r) (entries_all docs es its) (record { site = site; rule = r; parts = es; its = its } ∷ []) h (walks_at_all W es its) (λ k. own_at W site r es its k.0)

    walks_at_all : (W : World) (es : Exprs) (its : List Iter) → AllOf (Agrees docs W) (entries_all docs es its) → AllOf (WalkAt W) (walks_all es)
    walks_at_all W no_more its h = tt
    walks_at_all W (one_more e es) its h = steps_then W (walks e) (walks_all es) (entries docs e its) (entries_all docs es its) h (walks_at W e its) (walks_at_all W es its)

    walks_at_in : (W : World) (sp : Spine) (its : List Iter) → AllOf (Agrees docs W) (entries_in docs sp its) → AllOf (WalkAt W) (walks_in sp)
    walks_at_in W (Leaf ks e) its h = steps_then W (walks_all ks) (walks e) (entries_all docs ks its) (entries docs e its) h (walks_at_all W ks its) (walks_at W e its)
    walks_at_in W (ForBind x p s sp) its h = steps_then W (walks s) (walks_in sp) (entries docs s its) (entries_in docs sp (inside docs x p s its)) h (walks_at W s its) (walks_at_in W sp (inside docs x p s its))
    walks_at_in W (LetBind x b sp) its h = steps_then W (walks b) (walks_in sp) (entries docs b its) (entries_in docs sp (bound docs x b its)) h (walks_at W b its) (walks_at_in W sp (bound docs x b its))
    walks_at_in W (WhereBind c sp) its h = steps_then W (walks c) (walks_in sp) (entries docs c its) (entries_in docs sp (filter (chosen docs c) its)) h (walks_at W c its) (walks_at_in W sp (filter (chosen docs c) its))

  -- a weight of what the step of this site reads
  module _ (n : ℕ) (g : Item Text → ℕ) where
    abbrev pub read : Part → Env → List ℕ → ℕ
    read p env vec = total g (part_items docs n p env vec)

    abbrev pub visit : Reach → ℕ
    visit x = total (λ i. read (OfExpr (Call x.site x.rule x.parts)) i.env i.vector) x.its

    none_own : (its : List Iter) → total (λ (i : Iter). 0) its ≡ 0
    none_own its = total-zero its

    mutual
      pub visits : (e : Expr) (its : List Iter) → bulk docs read e its ≡ total visit (entries docs e its)
      visits (Lit a) its = none_own its
      visits Empty its = none_own its
      visits (Var x) its = none_own its
      visits (Seq a b) its = let p = visits a its in let q = visits b its in let z = none_own its in let t = total-append visit (entries docs a its) (entries docs b its) in omega arith
      visits (Let x b e) its = let p = visits b its in let q = visits e (bound docs x b its) in let z = none_own its in let t = total-append visit (entries docs b its) (entries docs e (bound docs x b its)) in omega arith
      visits (For x y s e) its = let p = visits s its in let q = visits e (inside docs x y s its) in let z = none_own its in let t = total-append visit (entries docs s its) (entries docs e (inside docs x y s its)) in omega arith
      visits (If c a b) its =
          let ia = filter (chosen docs c) its in
          let ib = filter (other docs c) its in
          let p = visits c its in
          let q = visits a ia in
          let r = visits b ib in
          let z = none_own its in
          let t = total-append visit (entries docs c its ++ entries docs a ia) (entries docs b ib) in
          let v = total-append visit (entries docs c its) (entries docs a ia) in
          omega arith
      visits (Sorted site os sp) its = let p = visits_in sp its in let z = none_own its in let t = total-append visit (entries_in docs sp its) (no_call site its ∷ []) in omega arith
      visits (Call site r es) its = let p = visits_all es its in let t = total-append visit (entries_all docs es its) (record { site = site; rule = r; parts = es; its = its } ∷ []) in omega arith

      visits_all : (es : Exprs) (its : List Iter) → bulk_all docs read es its ≡ total visit (entries_all docs es its)
      visits_all no_more its = refl
      visits_all (one_more e es) its = let p = visits e its in let q = visits_all es its in let t = total-append visit (entries docs e its) (entries_all docs es its) in omega arith

      visits_in : (sp : Spine) (its : List Iter) → bulk_in docs read sp its ≡ total visit (entries_in docs sp its)
      visits_in (Leaf ks e) its = let p = visits_all ks its in let q = visits e its in let t = total-append visit (entries_all docs ks its) (entries docs e its) in omega arith
      visits_in (ForBind x y s sp) its = let p = visits s its in let q = visits_in sp (inside docs x y s its) in let z = none_own (inside docs x y s its) in let t = total-append visit (entries docs s its) (entries_in docs sp (inside docs x y s its)) in omega arith
      visits_in (LetBind x b sp) its = let p = visits b its in let q = visits_in sp (bound docs x b its) in let z = none_own (bound docs x b its) in let t = total-append visit (entries docs b its) (entries_in docs sp (bound docs x b its)) in omega arith
      visits_in (WhereBind c sp) its = let p = visits c its in let q = visits_in sp (filter (chosen docs c) its) in let z = none_own (filter (chosen docs c) its) in let t = total-append visit (entries docs c its) (entries_in docs sp (filter (chosen docs c) its)) in omega arith

    -- the step of another site reads nothing of it
    elsewhere : (site : Site) (r : Rule) (es : Exprs) (i : Iter) → nat_eq site.number n ≡ false → read (OfExpr (Call site r es)) i.env i.vector ≡ 0
    elsewhere site (Walk from axis test) es i h = ap (λ b. total g (cond b (where_some (vals docs es i.env i.vector) joined) [])) h
    elsewhere site (Apply f) es i h = refl
    elsewhere site (Make kind) es i h = refl
    elsewhere site (IsOf t) es i h = refl
    elsewhere site (TreatAs t) es i h = refl
    elsewhere site (ConvertTo t) es i h = refl
    elsewhere site (CastTo kind o) es i h = refl
    elsewhere site (CastableTo kind o) es i h = refl
    elsewhere site (FailWith code) es i h = refl

    visit_none : (x : Reach) → nat_eq x.site.number n ≡ false → visit x ≡ 0
    visit_none x h = total-ext _ (λ (i : Iter). 0) x.its (λ i. elsewhere x.site x.rule x.parts i h) ∙ total-zero x.its

    none_here : (x : Reach) (ys : List Reach) → x.site.number ≡ n → AllOf (λ y. nat_eq x.site.number y.site.number ≡ false) ys → total visit ys ≡ 0
    none_here x [] e a = refl
    none_here x (y ∷ ys) e a = let z = visit_none y (ne_eqb y.site.number n (λ q. eqb-false x.site.number y.site.number a.0 (e ∙ sym q))) in let r = none_here x ys e a.1 in omega arith

    visit_looked : (xs : List Reach) → Differ xs → total visit xs ≡ visit (look xs n)
    visit_looked [] d = refl
    visit_looked (x ∷ xs) d = go (nat_eq x.site.number n) refl (visit_looked xs d.1)
      where
        go : (b : Bool) → nat_eq x.site.number n ≡ b → total visit xs ≡ visit (look xs n) → visit x + total visit xs ≡ visit (cond b x (look xs n))
        go true h r = let z = none_here x xs (eqb-true x.site.number n h) d.0 in omega arith
        go false h r = let z = visit_none x h in omega arith

    -- what the step reads over all reached evaluations
    pub inputs_visited : (e : Expr) → Differ (entries docs e (outermost ∷ [])) → total g (inputs docs n e) ≡ visit (look (entries docs e (outermost ∷ [])) n)
    inputs_visited e d =
        total-flat g (λ v. part_items docs n v.part v.env v.vector) (reached docs e no_variables [])
        ∙ sym (add-zero _)
        ∙ sym (bulk_is docs read e (outermost ∷ []))
        ∙ visits e (outermost ∷ [])
        ∙ visit_looked (entries docs e (outermost ∷ [])) d

  -- a step's table and what it reads
  abbrev item_in : Row → Cell
  item_in r = cell bare three (column 2) r

  rows_items : (u : Cell → ℕ) (k j : ℕ) (vs : List Cell) → total (λ r. u (item_in r)) (item_rows k j vs) ≡ total u vs
  rows_items u k j [] = refl
  rows_items u k j (v ∷ vs) = ap (λ m. u v + m) (rows_items u k (j + 1) vs)

  one_read : (n : ℕ) (g : Item Text → ℕ) (site : Site) (from : StepFrom) (axis : Axis) (test : Test Text) (a : Expr) (i : Iter) → nat_eq site.number n ≡ true → read n g (OfExpr (Call site (Walk from axis test) (one_more a no_more))) i.env i.vector ≡ total g (value docs a i)
  one_read n g site from axis test a i h =
      ap (λ b. total g (cond b (where_some (vals docs (one_more a no_more) i.env i.vector) joined) [])) h
      ∙ go (val docs a i.env i.vector)
    where
      go : (o : Option Items) → total g (where_some (and_then o (λ v. Some (v ∷ []))) joined) ≡ total g (list_of o)
      go None = refl
      go (Some v) = ap (total g) (append_none v)

  abbrev pub naming_of : World → Naming
  naming_of W s v = number_in (W s).its v

  pub cell_named : (W : World) (v : Item Text) → cell_of W v ≡ named (naming_of W) v
  cell_named W (IntItem z) = refl
  cell_named W (TextItem t) = refl
  cell_named W (UntypedItem t) = refl
  cell_named W (BoolItem b) = refl
  cell_named W (NodeItem n) = ap (λ i. NodeItem (record { id = i; tree = n.tree; path = n.path })) (ids n.id)
    where
      ids : (i : TreeId) → id_in W i ≡ named_id (naming_of W) i
      ids (DocTree d) = refl
      ids (BuiltTree s u) = refl

  module _ (e : Expr) (s : State) (q : StepAt) where
    abbrev W : World
    W = look (entries docs e (outermost ∷ []))

    abbrev n : ℕ
    n = q.step.site.number

    reads : Differ (entries docs e (outermost ∷ [])) → (k : WalkAt W q.step) → HoldAll s (q.input ∷ []) (part_cells docs W k.parts) k.its → ReadsInput docs (naming_of W) e s q
    reads d k h = go k.parts k.is h
      where
        go : (ps : Exprs) → W n ≡ record { site = q.step.site; rule = Walk k.from q.step.axis q.step.test; parts = ps; its = k.its } → HoldAll s (q.input ∷ []) (part_cells docs W ps) k.its → ReadsInput docs (naming_of W) e s q
        go no_more w x = absurd x
        go (one_more a (one_more b es)) w x = absurd x.1
        go (one_more a no_more) w x = record {
          cols_are = x.0.cols_are;
          items_are = record {
            at = λ u.
                let f = λ (v : Item Text). u (named (naming_of W) v) in
                total-map u item_in (at s q.input).rows
                ∙ x.0.rows_are.at (λ r. u (item_in r))
                ∙ total-flat (λ r. u (item_in r)) (λ i. item_rows i.number 1 (map (cell_of W) (value docs a i))) k.its
                ∙ total-ext _ _ k.its (λ i. rows_items u i.number 1 (map (cell_of W) (value docs a i)) ∙ total-map u (cell_of W) (value docs a i) ∙ total-ext _ f (value docs a i) (λ v. ap u (cell_named W v)) ∙ sym (one_read n f q.step.site k.from q.step.axis q.step.test a i (eq-eqb n n refl)))
                ∙ sym (ap (visit n f) w)
                ∙ sym (inputs_visited n f e d)
                ∙ sym (total-map u (named (naming_of W)) (inputs docs n e));
          };
        }

    -- by the step's note
    pub noted_reads : Differ (entries docs e (outermost ∷ [])) → WalkAt W q.step → (ms : List Note) → NotedBy q ms → AllOf (NoteStands docs W s) ms → ReadsInput docs (naming_of W) e s q
    noted_reads d k [] h a = absurd h
    noted_reads d k (m ∷ ms) h a =
        ⊎_elim
        (λ p. reads d k
        (let parts : m.parts ≡ k.parts = sym a.0.2 ∙ ap (λ (z : Site). (W z.number).parts) p.0 ∙ ap (λ (r : Reach). r.parts) k.is in
        let its : (W m.site.number).its ≡ k.its = ap (λ (z : Site). (W z.number).its) p.0 ∙ ap (λ (r : Reach). r.its) k.is in
        subst (λ l. HoldAll s (q.input ∷ []) (part_cells docs W k.parts) l) its (subst (λ es. HoldAll s (q.input ∷ []) (part_cells docs W es) (W m.site.number).its) parts (subst (λ ops. HoldAll s ops (part_cells docs W m.parts) (W m.site.number).its) p.1 a.0.0))))
        (λ g. noted_reads d k ms g a.1) h
