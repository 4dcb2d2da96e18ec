-- What stays while a plan grows: tables, demands, what checks tell, and steps.
use Rattle.std.proofs.Common.{◌≡◌, ℕ, ◌+◌, ◌<◌, ◌≤◌, Bool, true, false, cond, ◌&&◌, List, [], ◌∷◌, ◌++◌, length, map, refl, sym, ap, ◌∙◌, subst, inl, inr, ⊎_elim, arith, append_assoc, nat_eq, nat_lt, Option, Some, None}
use Rattle.std.specs.List.{filter}
use Rattle.std.proofs.lemmas.Bool.{ne_eqb, eqb-true, ltb-true, ltb-false, and_parts}
use Rattle.xq_base.specs.declared.code.Code.{Code}
use Rattle.xq_base.specs.Answers.{Answer, Value, Fault as Refused}
use Rattle.doc_table.proofs.Ascending.{in-left, in-right}
use Rattle.doc_table.specs.Values.{Items}
use Rattle.doc_table.specs.NodeRules.{Docs}
use Rattle.plan_dag.specs.declared.cols.Col.{Col}
use Rattle.plan_dag.specs.declared.op.OpId.{OpId}
use Rattle.plan_dag.specs.declared.check.Check.{Check}
use Rattle.plan_dag.specs.ItemRules.{Cell}
use Rattle.plan_dag.specs.Rows.{code_eq}
use Rattle.core_meaning.specs.Expr.{Site, Rule, Order, Expr, Exprs, Spine, Lit, Empty, Var, Seq, Let, For, If, Sorted, Call, no_more, one_more, Leaf, ForBind, LetBind, WhereBind}
use Rattle.core_meaning.specs.Meaning.{vals, tuples}
use Rattle.core_meaning.specs.Rules.{rule_answer}
use Rattle.core_meaning.specs.Sorting.{sorted_answer}
use Rattle.core_meaning.specs.Reached.{where_some}
use Rattle.core_meaning.specs.Failures.{failure, faults_of, own_failures}
use Rattle.core_meaning.specs.Lawful.{nodes, nodes_all, nodes_in, is_sited, sited_all, sited_in}
use Rattle.lift_laws.specs.Sums.{total, AllOf, Same}
use Rattle.lift_laws.specs.Iterations.{Row, Iter, num}
use Rattle.lift_laws.specs.Bulk.{chosen, other, bound, inside, Step, Fault, fault, own_faults, faults, faults_all, faults_in}
use Rattle.lift_laws.specs.Worlds.{World}
use Rattle.lift_laws.specs.States.{State, StepAt, at, demand_at, IsIn, Small, Grows, Makes, Holds, StandsFor, HoldAll}
use Rattle.lift_laws.specs.Lifting.{Group, Note, NoteStands, checks_of, numbers_at, first_cells, HasCode, TellsOf, Tells, PlacedCheck, PlacedIn, Chunk, SitedIn, NotedBy, Walked}
use Rattle.lift_laws.proofs.Picks.{all_each, all_mono, all-append, all-flat, flat-append, map-append}
use Rattle.lift_laws.proofs.Values.{all_two}

pub append_none : {A : Type 0} (xs : List A) → xs ++ [] ≡ xs
append_none [] = refl
append_none (x ∷ xs) = ap (λ l. x ∷ l) (append_none xs)

pub grows_trans : {s s1 s2 : State} {a b : List Check} → Grows s s1 a → Grows s1 s2 b → Grows s s2 (a ++ b)
grows_trans {s = s} {s1 = s1} {s2 = s2} {a = a} {b = b} g h = record {
  longer = (let x = g.longer in let y = h.longer in omega arith);
  same = λ i l. let x = g.longer in h.same i (omega arith) ∙ g.same i l;
  same_demand = λ i l. let x = g.longer in h.same_demand i (omega arith) ∙ g.same_demand i l;
  checks = h.checks ∙ ap (λ l. l ++ b) g.checks ∙ append_assoc s.checks a b;
}

pub grows_self : (s : State) → Grows s s []
grows_self s = record { longer = omega arith; same = λ i l. refl; same_demand = λ i l. refl; checks = sym (append_none s.checks) }

pub holds_keep : {s s' : State} {new : List Check} {t : OpId} {cols : List Col} {rows : List Row} → Grows s s' new → Holds s t cols rows → Holds s' t cols rows
holds_keep {t = t} {rows = rows} g h = record {
  is_in = (let a = g.longer in let b = h.is_in in omega arith);
  cols_are = ap (λ q. q.cols) (g.same t h.is_in) ∙ h.cols_are;
  rows_are = record { at = λ w. ap (λ q. total w q.rows) (g.same t h.is_in) ∙ h.rows_are.at w };
}

pub holds_rows : {s : State} {t : OpId} {cols : List Col} {rows rows' : List Row} → rows ≡ rows' → Holds s t cols rows → Holds s t cols rows'
holds_rows {s = s} {t = t} {cols = cols} e h = subst (λ r. Holds s t cols r) e h

pub makes_holds : {s s' : State} {t : OpId} {cols : List Col} {rows canon : List Row} {most : ℕ} → Makes s s' t cols rows most → Same rows canon → Holds s' t cols canon
makes_holds m e = record {
  is_in = m.is_in;
  cols_are = ap (λ q. q.cols) m.is;
  rows_are = record { at = λ w. ap (λ q. total w q.rows) m.is ∙ e.at w };
}

pub stands_keep : {docs : Docs} {W : World} {s s' : State} {new : List Check} {t : OpId} {f : Iter → Items} {its : List Iter} → Grows s s' new → StandsFor docs W s t f its → StandsFor docs W s' t f its
stands_keep g h = record { there = holds_keep g h.there; known = h.known }

pub hold_all_keep : {s s' : State} {new : List Check} (ts : List OpId) (gs : List (Iter → List Cell)) (its : List Iter) → Grows s s' new → HoldAll s ts gs its → HoldAll s' ts gs its
hold_all_keep [] [] its g h = h
hold_all_keep [] (f ∷ gs) its g h = h
hold_all_keep (t ∷ ts) [] its g h = h
hold_all_keep (t ∷ ts) (f ∷ gs) its g h = (holds_keep g h.0, hold_all_keep ts gs its g h.1)

pub notes_keep : (docs : Docs) (W : World) {s s' : State} {new : List Check} (ms : List Note) → Grows s s' new → AllOf (NoteStands docs W s) ms → AllOf (NoteStands docs W s') ms
notes_keep docs W {s = s} {s' = s'} ms g a = all_mono _ _ (λ m (h : NoteStands docs W s m). let r : NoteStands docs W s' m = (hold_all_keep m.ops _ _ g h.0, h.1, h.2) in r) ms a

-- demands
pub small_none : {s : State} (lo N : ℕ) → Small s lo lo N
small_none lo N = record { each = λ i a b. absurd (omega arith) }

pub small_less : {s : State} {lo hi hi' N : ℕ} → hi' ≤ hi → Small s lo hi N → Small s lo hi' N
small_less l h = record { each = λ i a b. h.each i a (omega arith) }

pub small_keep : {s s' : State} {new : List Check} {lo hi N : ℕ} → Grows s s' new → hi ≤ length s.tables → Small s lo hi N → Small s' lo hi N
small_keep {N = N} g l h = record { each = λ i a b. subst (λ d. d ≤ N) (sym (g.same_demand i (omega arith))) (h.each i a b) }

pub small_join : {s : State} {lo mid hi N : ℕ} → Small s lo mid N → Small s mid hi N → Small s lo hi N
small_join {s = s} {lo = lo} {mid = mid} {hi = hi} {N = N} h k = record { each = λ i a b. go i a b (nat_lt i mid) refl }
  where
    go : (i : ℕ) → lo ≤ i → i < hi → (d : Bool) → nat_lt i mid ≡ d → demand_at s i ≤ N
    go i a b true e = h.each i a (ltb-true i mid e)
    go i a b false e = let q = ltb-false i mid e in k.each i (omega arith) b

pub small_most : {s : State} {lo hi N M : ℕ} → Small s lo hi M → M ≤ N → Small s lo hi N
small_most h l = record { each = λ i a b. let k = h.each i a b in omega arith }

abbrev pub CheckIn : State → Check → Type 0
CheckIn s c = IsIn s c.op

pub tells_keep : (N : ℕ) {s s' : State} {new : List Check} (lo hi : ℕ) (gs : List Group) (fs : List Fault) → Grows s s' new → hi ≤ length s.tables → AllOf (λ g. AllOf (CheckIn s) g.checks) gs → Tells N s lo hi gs fs → Tells N s' lo hi gs fs
tells_keep N lo hi [] fs g l p t = (t.0, small_keep g l t.1)
tells_keep N {s = s} {s' = s'} lo hi (q ∷ gs) fs g l p t = (
  t.0,
  all_two _ _ _ (λ c (h : CheckIn s c) (k : TellsOf N s lo q.site fs c).
      let e = g.same c.op h in
      let r : TellsOf N s' lo q.site fs c = ((λ v. ap (λ y. total v (first_cells y)) e ∙ k.0 v), small_keep g (omega arith) k.1) in r) q.checks p.0 t.1,
  (λ z. tells_keep N lo hi gs fs g l p.1 (t.2 (all_two _ _ _ (λ c (h : CheckIn s c) (k : (at s' c.op).rows ≡ []).
      let r : (at s c.op).rows ≡ [] = sym (ap (λ y. y.rows) (g.same c.op h)) ∙ k in r) q.checks p.0 z))),
)

-- operators before the stretch, and operators behind it
pub tells_lower : (N : ℕ) (s : State) (lo mid hi : ℕ) (gs : List Group) (fs : List Fault) → Small s lo mid N → Tells N s mid hi gs fs → Tells N s lo hi gs fs
tells_lower N s lo mid hi [] fs h t = (t.0, small_join h t.1)
tells_lower N s lo mid hi (g ∷ gs) fs h t = (
  t.0,
  all_mono _ _ (λ c (k : TellsOf N s mid g.site fs c). let r : TellsOf N s lo g.site fs c = (k.0, small_join h k.1) in r) g.checks t.1,
  (λ z. tells_lower N s lo mid hi gs fs h (t.2 z)),
)

pub tells_upper : (N : ℕ) (s : State) (lo mid hi : ℕ) (gs : List Group) (fs : List Fault) → (fs ≡ [] → Small s mid hi N) → Tells N s lo mid gs fs → Tells N s lo hi gs fs
tells_upper N s lo mid hi [] fs h t = (t.0, small_join t.1 (h t.0))
tells_upper N s lo mid hi (g ∷ gs) fs h t = (t.0, t.1, (λ z. tells_upper N s lo mid hi gs fs h (t.2 z)))

-- the failure's node has this number or a greater one
abbrev pub From : ℕ → Fault → Type 0
From m f = m ≤ f.failure.site.number

-- no failure of these has this number
numbers_none : (n : ℕ) (c : Code) (m : ℕ) (fs : List Fault) → n < m → AllOf (From m) fs → numbers_at n c fs ≡ []
numbers_none n c m [] l a = refl
numbers_none n c m (f ∷ fs) l a =
    let h = a.0 in
    let p = λ (g : Fault). nat_eq n g.failure.site.number && code_eq c g.failure.code in
    let ne : nat_eq n f.failure.site.number ≡ false = ne_eqb n f.failure.site.number (λ e. omega arith) in
    ap (λ b. map (λ (g : Fault). num g.number) (cond (b && code_eq c f.failure.code) (f ∷ filter p fs) (filter p fs))) ne
    ∙ numbers_none n c m fs l a.1

pub filter_append : {A : Type 0} (p : A → Bool) (xs ys : List A) → filter p (xs ++ ys) ≡ filter p xs ++ filter p ys
filter_append p [] ys = refl
filter_append p (x ∷ xs) ys =
    let r = filter_append p xs ys in
    elim (p x) as (λ b. cond b (x ∷ filter p (xs ++ ys)) (filter p (xs ++ ys)) ≡ cond b (x ∷ filter p xs) (filter p xs) ++ filter p ys) [ true ↦ ap (λ l. x ∷ l) r | false ↦ r ]

numbers_append : (n : ℕ) (c : Code) (m : ℕ) (fs gs : List Fault) → n < m → AllOf (From m) gs → numbers_at n c (fs ++ gs) ≡ numbers_at n c fs
numbers_append n c m fs gs l a =
    let p = λ (f : Fault). nat_eq n f.failure.site.number && code_eq c f.failure.code in
    ap (map (λ (f : Fault). num f.number)) (filter_append p fs gs)
    ∙ map-append (λ (f : Fault). num f.number) (filter p fs) (filter p gs)
    ∙ ap (λ l. map (λ (f : Fault). num f.number) (filter p fs) ++ l) (numbers_none n c m gs l a)
    ∙ append_none _

-- two stretches of checks
pub tells_then : (N : ℕ) (s : State) (lo mid hi m : ℕ) (aa bs : List Group) (fa fb : List Fault) → AllOf (λ g. g.site.number < m) aa → AllOf (From m) fb → Tells N s lo mid aa fa → (fa ≡ [] → Tells N s mid hi bs fb) → Tells N s lo hi (aa ++ bs) (fa ++ fb)
tells_then N s lo mid hi m [] bs fa fb la lb ta tb = subst (λ l. Tells N s lo hi bs (l ++ fb)) (sym ta.0) (tells_lower N s lo mid hi bs fb ta.1 (tb ta.0))
tells_then N s lo mid hi m (g ∷ gs) bs fa fb la lb ta tb = (
  all-append _ fa fb ta.0 (all_mono _ _ (λ f (h : From m f). let l = la.0 in let r : (g.site.number ≤ f.failure.site.number) × (f.failure.site.number ≡ g.site.number → HasCode f.failure.code g.checks) = (omega arith, (λ e. absurd (omega arith))) in r) fb lb),
  all_mono _ _ (λ c (k : TellsOf N s lo g.site fa c).
      let r : TellsOf N s lo g.site (fa ++ fb) c = ((λ v. k.0 v ∙ ap (total v) (sym (numbers_append g.site.number c.code m fa fb la.0 lb))), k.1) in r) g.checks ta.1,
  (λ z. tells_then N s lo mid hi m gs bs fa fb la.1 lb (ta.2 z) tb),
)

module _ (docs : Docs) where
  -- failures bear the numbers of their nodes
  answer_from : (m : ℕ) (site : Site) (vec : List ℕ) (n : ℕ) (x : Answer Items) → m ≤ site.number → AllOf (From m) (map (fault n) (faults_of x (failure site vec)))
  answer_from m site vec n (Value v) l = tt
  answer_from m site vec n (Refused d) l = (l, tt)

  some_from : {A : Type 0} (m : ℕ) (site : Site) (vec : List ℕ) (n : ℕ) (x : Option A) (ans : A → Answer Items) → m ≤ site.number → AllOf (From m) (map (fault n) (where_some x (λ v. faults_of (ans v) (failure site vec))))
  some_from m site vec n None ans l = tt
  some_from m site vec n (Some v) ans l = answer_from m site vec n (ans v) l

  call_from : (m : ℕ) (e : Expr) (its : List Iter) → ((i : Iter) → AllOf (From m) (map (fault i.number) (own_failures docs e i.env i.vector))) → AllOf (From m) (own_faults docs e its)
  call_from m e its h = all-flat _ _ its (all_each _ h its)

  -- the site of a node behind its parts
  at_site : (m n k : ℕ) (s : Site) (b : Bool) → (nat_eq s.number (n + k) && b) ≡ true → m ≤ n → (m ≤ s.number) × (b ≡ true)
  at_site m n k s b h l =
      let p = and_parts (nat_eq s.number (n + k)) b h in
      let e = eqb-true s.number (n + k) p.0 in
      (omega arith, p.1)

  mutual
    pub faults_from : (e : Expr) (m n : ℕ) (its : List Iter) → is_sited n e ≡ true → m ≤ n → AllOf (From m) (faults docs e its)
    faults_from (Lit a) m n its z l = tt
    faults_from Empty m n its z l = tt
    faults_from (Var x) m n its z l = tt
    faults_from (Seq a b) m n its z l =
        let p = and_parts (is_sited n a) _ z in
        all-append _ (faults docs a its) _ (faults_from a m n its p.0 l) (faults_from b m (n + nodes a) its p.1 (omega arith))
    faults_from (Let x b e) m n its z l =
        let p = and_parts (is_sited n b) _ z in
        all-append _ (faults docs b its) _ (faults_from b m n its p.0 l) (faults_from e m (n + nodes b) (bound docs x b its) p.1 (omega arith))
    faults_from (For x y s e) m n its z l =
        let p = and_parts (is_sited n s) _ z in
        all-append _ (faults docs s its) _ (faults_from s m n its p.0 l) (faults_from e m (n + nodes s) (inside docs x y s its) p.1 (omega arith))
    faults_from (If c a b) m n its z l =
        let p = and_parts (is_sited n c && is_sited (n + nodes c) a) _ z in
        let q = and_parts (is_sited n c) _ p.0 in
        all-append _ (faults docs c its) _ (faults_from c m n its q.0 l)
        (all-append _ (faults docs a (filter (chosen docs c) its)) _ (faults_from a m (n + nodes c) (filter (chosen docs c) its) q.1 (omega arith))
        (faults_from b m (n + nodes c + nodes a) (filter (other docs c) its) p.1 (omega arith)))
    faults_from (Sorted site os sp) m n its z l =
        let p = at_site m n (nodes_in sp) site (sited_in n sp) z l in
        all-append _ (faults_in docs sp its) _ (faults_in_from sp m n its p.1 l) (call_from m (Sorted site os sp) its (λ i. some_from m site i.vector i.number (tuples docs sp i.env i.vector) (sorted_answer os) p.0))
    faults_from (Call site r es) m n its z l =
        let p = at_site m n (nodes_all es) site (sited_all n es) z l in
        all-append _ (faults_all docs es its) _ (faults_all_from es m n its p.1 l) (call_from m (Call site r es) its (λ i. some_from m site i.vector i.number (vals docs es i.env i.vector) (rule_answer docs site i.vector r) p.0))

    pub faults_all_from : (es : Exprs) (m n : ℕ) (its : List Iter) → sited_all n es ≡ true → m ≤ n → AllOf (From m) (faults_all docs es its)
    faults_all_from no_more m n its z l = tt
    faults_all_from (one_more e es) m n its z l =
        let p = and_parts (is_sited n e) _ z in
        all-append _ (faults docs e its) _ (faults_from e m n its p.0 l) (faults_all_from es m (n + nodes e) its p.1 (omega arith))

    pub faults_in_from : (sp : Spine) (m n : ℕ) (its : List Iter) → sited_in n sp ≡ true → m ≤ n → AllOf (From m) (faults_in docs sp its)
    faults_in_from (Leaf ks e) m n its z l =
        let p = and_parts (sited_all n ks) _ z in
        all-append _ (faults_all docs ks its) _ (faults_all_from ks m n its p.0 l) (faults_from e m (n + nodes_all ks) its p.1 (omega arith))
    faults_in_from (ForBind x y s sp) m n its z l =
        let p = and_parts (is_sited n s) _ z in
        all-append _ (faults docs s its) _ (faults_from s m n its p.0 l) (faults_in_from sp m (n + nodes s) (inside docs x y s its) p.1 (omega arith))
    faults_in_from (LetBind x b sp) m n its z l =
        let p = and_parts (is_sited n b) _ z in
        all-append _ (faults docs b its) _ (faults_from b m n its p.0 l) (faults_in_from sp m (n + nodes b) (bound docs x b its) p.1 (omega arith))
    faults_in_from (WhereBind c sp) m n its z l =
        let p = and_parts (is_sited n c) _ z in
        all-append _ (faults docs c its) _ (faults_from c m n its p.0 l) (faults_in_from sp m (n + nodes c) (filter (chosen docs c) its) p.1 (omega arith))

  -- a call's own failures are at its site
  pub own_from : (n : ℕ) (site : Site) (r : Rule) (es : Exprs) (its : List Iter) → is_sited n (Call site r es) ≡ true → AllOf (From (n + nodes_all es)) (own_faults docs (Call site r es) its)
  own_from n site r es its z =
      let e = eqb-true site.number (n + nodes_all es) (and_parts (nat_eq site.number (n + nodes_all es)) (sited_all n es) z).0 in
      call_from (n + nodes_all es) (Call site r es) its (λ i. some_from (n + nodes_all es) site i.vector i.number (vals docs es i.env i.vector) (rule_answer docs site i.vector r) (omega arith))

  -- and so are those of a sorted loop
  pub sorted_from : (n : ℕ) (site : Site) (os : List Order) (sp : Spine) (its : List Iter) → is_sited n (Sorted site os sp) ≡ true → AllOf (From (n + nodes_in sp)) (own_faults docs (Sorted site os sp) its)
  sorted_from n site os sp its z =
      let e = eqb-true site.number (n + nodes_in sp) (and_parts (nat_eq site.number (n + nodes_in sp)) (sited_in n sp) z).0 in
      call_from (n + nodes_in sp) (Sorted site os sp) its (λ i. some_from (n + nodes_in sp) site i.vector i.number (tuples docs sp i.env i.vector) (sorted_answer os) (omega arith))

-- stretches of checks
abbrev pub chunk_none : {s s' : State} (lo hi : ℕ) → Grows s s' [] → Chunk s s' lo hi
chunk_none lo hi g = record { groups = []; notes = []; grows = g; placed = tt; coded = tt }

pub placed_up : (s s' : State) (lo hi lo' hi' : ℕ) (gs : List Group) → lo' ≤ lo → hi ≤ hi' → length s.tables ≤ length s'.tables → AllOf (PlacedIn s lo hi) gs → AllOf (PlacedIn s' lo' hi') gs
placed_up s s' lo hi lo' hi' gs a b l p =
    all_mono _ _ (λ g (q : PlacedIn s lo hi g).
    let q0 = q.0 in let q1 = q.1 in
    let r : PlacedIn s' lo' hi' g = (omega arith, omega arith, all_mono _ _ (λ c (k : PlacedCheck s g.site c). let k0 = k.0 in let h : PlacedCheck s' g.site c = (omega arith, k.1, k.2) in h) g.checks q.2) in r) gs p

abbrev pub chunk_then : {s s1 s2 : State} (lo mid hi : ℕ) → lo ≤ mid → mid ≤ hi → Chunk s s1 lo mid → Chunk s1 s2 mid hi → Chunk s s2 lo hi
chunk_then {s = s} {s1 = s1} {s2 = s2} lo mid hi l h a b = record {
  groups = a.groups ++ b.groups;
  notes = a.notes ++ b.notes;
  grows = subst (λ cs. Grows s s2 cs) (sym (flat-append (λ (g : Group). g.checks) a.groups b.groups)) (grows_trans a.grows b.grows);
  placed = all-append _ a.groups b.groups (placed_up s1 s2 lo mid lo hi a.groups (omega arith) h b.grows.longer a.placed) (placed_up s2 s2 mid hi lo hi b.groups l (omega arith) (omega arith) b.placed);
  coded = all-append _ a.groups b.groups a.coded b.coded;
}

abbrev pub chunk_makes : {s s1 s2 : State} (lo hi hi' : ℕ) → hi ≤ hi' → Chunk s s1 lo hi → Grows s1 s2 [] → Chunk s s2 lo hi'
chunk_makes {s = s} {s1 = s1} {s2 = s2} lo hi hi' h a g = record {
  groups = a.groups;
  notes = a.notes;
  grows = subst (λ cs. Grows s s2 cs) (append_none (checks_of a.groups)) (grows_trans a.grows g);
  placed = placed_up s1 s2 lo hi lo hi' a.groups (omega arith) h g.longer a.placed;
  coded = a.coded;
}

-- the nodes of two parts
pub sited_then : (ss rs : List Site) (aa bs : List Group) → AllOf (SitedIn ss) aa → AllOf (SitedIn rs) bs → AllOf (SitedIn (ss ++ rs)) (aa ++ bs)
sited_then ss rs aa bs a b =
    all-append _ aa bs (all_mono _ _ (λ g (h : SitedIn ss g). in-left g.site ss rs h) aa a) (all_mono _ _ (λ g (h : SitedIn rs g). in-right g.site ss rs h) bs b)

-- step operators
pub walked_quiet : {s s' : State} → s'.steps ≡ s.steps → Walked s s' [] []
walked_quiet {s = s} e = record { added = []; steps_are = e ∙ sym (append_none s.steps); walks_are = refl; noted = tt }

noted_left : (q : StepAt) (m n : List Note) → NotedBy q m → NotedBy q (m ++ n)
noted_left q [] n h = absurd h
noted_left q (x ∷ m) n h = ⊎_elim (λ e. inl e) (λ k. inr (noted_left q m n k)) h

noted_right : (q : StepAt) (m n : List Note) → NotedBy q n → NotedBy q (m ++ n)
noted_right q [] n h = h
noted_right q (x ∷ m) n h = inr (noted_right q m n h)

pub walked_then : {s s1 s2 : State} {m n : List Note} {p q : List Step} → Walked s s1 m p → Walked s1 s2 n q → Walked s s2 (m ++ n) (p ++ q)
walked_then {s = s} {m = m} {n = n} {p = p} {q = q} a b = record {
  added = a.added ++ b.added;
  steps_are = b.steps_are ∙ ap (λ l. l ++ b.added) a.steps_are ∙ append_assoc s.steps a.added b.added;
  walks_are = map-append (λ (x : StepAt). x.step) a.added b.added ∙ ap (λ l. l ++ map (λ (x : StepAt). x.step) b.added) a.walks_are ∙ ap (λ l. p ++ l) b.walks_are;
  noted = all-append _ a.added b.added (all_mono _ _ (λ x h. noted_left x m n h) a.added a.noted) (all_mono _ _ (λ x h. noted_right x m n h) b.added b.noted);
}

pub walked_more : {s s1 s2 : State} {m : List Note} {p : List Step} → Walked s s1 m p → s2.steps ≡ s1.steps → Walked s s2 m p
walked_more a e = record { added = a.added; steps_are = e ∙ a.steps_are; walks_are = a.walks_are; noted = a.noted }

pub chunk_told : {s s1 s2 : State} {new : List Check} (N lo hi : ℕ) (k : Chunk s s1 lo hi) (fs : List Fault) → Grows s1 s2 new → Tells N s1 (length s.tables) (length s1.tables) k.groups fs → Tells N s2 (length s.tables) (length s1.tables) k.groups fs
chunk_told {s = s} {s1 = s1} {s2 = s2} N lo hi k fs g t =
    tells_keep N (length s.tables) (length s1.tables) k.groups fs g (omega arith)
    (all_mono _ _ (λ q (p : PlacedIn s1 lo hi q). all_mono _ _ (λ c (h : PlacedCheck s1 q.site c). let r : CheckIn s1 c = h.0 in r) q.checks p.2) k.groups k.placed) t

pub chunk_below : {s s1 : State} (lo hi : ℕ) (k : Chunk s s1 lo hi) → AllOf (λ g. g.site.number < hi) k.groups
chunk_below {s1 = s1} lo hi k = all_mono _ _ (λ q (p : PlacedIn s1 lo hi q). p.1) k.groups k.placed
