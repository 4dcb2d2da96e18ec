-- The first check that has a row is that of the least failure.
use Rattle.std.proofs.Common.{◌≡◌, ℕ, ◌<◌, ◌≤◌, Bool, true, false, cond, ◌&&◌, List, [], ◌∷◌, ◌++◌, length, map, refl, sym, ap, ◌∙◌, subst, ⊎_elim, arith, nat_lt, nat_eq, true≢false, Option}
use Rattle.std.specs.List.{filter}
use Rattle.std.proofs.lemmas.Bool.{lt-ltb}
use Rattle.xq_base.specs.declared.code.Code.{Code}
use Rattle.xq_base.specs.Answers.{check_rank}
use Rattle.plan_dag.specs.declared.op.OpId.{OpId}
use Rattle.plan_dag.specs.declared.check.Check.{Check}
use Rattle.plan_dag.specs.Cells.{Rules}
use Rattle.plan_dag.specs.ItemRules.{Cell}
use Rattle.plan_dag.specs.Meaning.{Table, table_at, cell, Refuses, answer_from}
use Rattle.plan_dag.specs.Rows.{code_eq}
use Rattle.core_meaning.specs.Expr.{Site}
use Rattle.lift_laws.specs.Sums.{total, AllOf}
use Rattle.lift_laws.specs.Iterations.{Row, num}
use Rattle.lift_laws.specs.Bulk.{Fault}
use Rattle.lift_laws.specs.States.{State, at, column}
use Rattle.lift_laws.specs.Shapes.{bare}
use Rattle.lift_laws.specs.Lifting.{Group, checks_of, numbers_at, first_cells, HasCode, InCodeOrder, TellsOf, Tells}
use Rattle.lift_laws.specs.Verdicts.{OfNode, Verdict, quiet, failed, SmallFrom}
use Rattle.lift_laws.proofs.Numbers.{nat_eq_self}
use Rattle.lift_laws.proofs.Picks.{all_mono}
use Rattle.lift_laws.proofs.Values.{all_two}
use Rattle.lift_laws.proofs.Marks.{code_self}

rows_none : (rs : List Row) → nat_lt 0 (length rs) ≡ false → rs ≡ []
rows_none [] e = refl
rows_none (r ∷ rs) e = absurd (true≢false (sym (lt-ltb 0 (length (r ∷ rs)) (omega arith)) ∙ e))

cells_some : (t : Table Cell) → nat_lt 0 (length t.rows) ≡ true → total (λ (v : Cell). 1) (first_cells t) ≡ 0 → ⊥
cells_some t e z = go t.rows e z
  where
    go : (rs : List Row) → nat_lt 0 (length rs) ≡ true → total (λ (v : Cell). 1) (map (cell bare t.cols (column 0)) rs) ≡ 0 → ⊥
    go [] e z = true≢false (sym e)
    go (r ∷ rs) e z = absurd (omega arith)

-- a code that has no number is the code of no failure of the node
abbrev Absent : Site → Code → Fault → Type 0
Absent site c f = f.failure.site.number ≡ site.number → f.failure.code ≡ c → ⊥

code_absent : (site : Site) (c : Code) (fs : List Fault) → total (λ (v : Cell). 1) (numbers_at site.number c fs) ≡ 0 → AllOf (Absent site c) fs
code_absent site c [] z = tt
code_absent site c (f ∷ fs) z = go (nat_eq site.number f.failure.site.number && code_eq c f.failure.code) refl z (λ y. code_absent site c fs y)
  where
    same : f.failure.site.number ≡ site.number → f.failure.code ≡ c → (nat_eq site.number f.failure.site.number && code_eq c f.failure.code) ≡ true
    same e d = ap (λ n. nat_eq site.number n && code_eq c f.failure.code) e ∙ ap (λ b. b && code_eq c f.failure.code) (nat_eq_self site.number) ∙ ap (code_eq c) d ∙ code_self c

    go : (b : Bool) → (nat_eq site.number f.failure.site.number && code_eq c f.failure.code) ≡ b
        → total (λ (v : Cell). 1) (map (λ (g : Fault). num g.number) (cond b (f ∷ filter (λ g. nat_eq site.number g.failure.site.number && code_eq c g.failure.code) fs) (filter (λ g. nat_eq site.number g.failure.site.number && code_eq c g.failure.code) fs))) ≡ 0
        → (total (λ (v : Cell). 1) (numbers_at site.number c fs) ≡ 0 → AllOf (Absent site c) fs) → AllOf (Absent site c) (f ∷ fs)
    go true q y r = absurd (omega arith)
    go false q y r = ((λ e d. true≢false (sym (same e d) ∙ q)), r y)

has_later : (n : ℕ) (c : Code) (cs : List Check) → AllOf (λ (d : Check). n < check_rank d.code) cs → HasCode c cs → n ≤ check_rank c
has_later n c [] a h = absurd h
has_later n c (d ∷ ds) a h = let l = a.0 in ⊎_elim (λ e. let q = ap check_rank e in omega arith) (λ k. has_later n c ds a.1 k) h

-- the failures are not before this node, and those of this node have codes among these
abbrev Covered : Site → List Check → List Fault → Type 0
Covered site cs fs = AllOf (λ f. (site.number ≤ f.failure.site.number) × (f.failure.site.number ≡ site.number → HasCode f.failure.code cs)) fs

module _ (R : Rules Cell) (ts : List (Table Cell)) (fs : List Fault) (root : Option OpId) (ss : List Site) where
  abbrev Exact : Site → Check → Type 0
  Exact site c = (v : Cell → ℕ) → total v (first_cells (table_at ts c.op)) ≡ total v (numbers_at site.number c.code fs)

  abbrev Gone : Check → Type 0
  Gone c = (table_at ts c.op).rows ≡ []

  walk : (site : Site) (cs more : List Check) → Covered site cs fs → AllOf (OfNode ss site) cs → InCodeOrder cs → AllOf (Exact site) cs → (AllOf Gone cs → Verdict R ts fs root ss (answer_from R ts more root)) → Verdict R ts fs root ss (answer_from R ts (cs ++ more) root)
  walk site [] more v f o e k = k tt
  walk site (c ∷ cs) more v f o e k =
      step site c cs more v f.0 o e (nat_lt 0 (length (table_at ts c.op).rows)) refl
      (λ v' z. walk site cs more v' f.1 o.1 e.1 (λ a. k (z, a)))
    where
      step : (site : Site) (c : Check) (cs more : List Check) → Covered site (c ∷ cs) fs → OfNode ss site c → InCodeOrder (c ∷ cs) → AllOf (Exact site) (c ∷ cs) → (b : Bool) → nat_lt 0 (length (table_at ts c.op).rows) ≡ b
          → (Covered site cs fs → Gone c → Verdict R ts fs root ss (answer_from R ts (cs ++ more) root)) → Verdict R ts fs root ss (cond b (Refuses c.code c.offset) (answer_from R ts (cs ++ more) root))
      step site c cs more v f o e true q r = failed site c f (record {
        here = λ z. cells_some (table_at ts c.op) q (e.0 (λ (x : Cell). 1) ∙ z);
        least = all_mono _ _ (λ f (h : (site.number ≤ f.failure.site.number) × (f.failure.site.number ≡ site.number → HasCode f.failure.code (c ∷ cs))).
            let w : (site.number ≤ f.failure.site.number) × (f.failure.site.number ≡ site.number → check_rank c.code ≤ check_rank f.failure.code) =
            (h.0, (λ p. ⊎_elim (λ d. let q = ap check_rank d in omega arith) (λ k. has_later (check_rank c.code) f.failure.code cs o.0 k) (h.1 p))) in w) fs v;
      })
      step site c cs more v f o e false q r =
          let none = rows_none (table_at ts c.op).rows q in
          let zero : total (λ (x : Cell). 1) (numbers_at site.number c.code fs) ≡ 0 =
          sym (e.0 (λ (x : Cell). 1)) ∙ ap (λ rs. total (λ (x : Cell). 1) (map (cell bare (table_at ts c.op).cols (column 0)) rs)) none in
          let gone = code_absent site c.code fs zero in
          r (all_two _ _ _ (λ f (h : (site.number ≤ f.failure.site.number) × (f.failure.site.number ≡ site.number → HasCode f.failure.code (c ∷ cs))) (n : Absent site c.code f).
          let w : (site.number ≤ f.failure.site.number) × (f.failure.site.number ≡ site.number → HasCode f.failure.code cs) = (h.0, (λ p. ⊎_elim (λ d. absurd (n p d)) (λ k. k) (h.1 p))) in w) fs v gone) none

  pub verdict : (N : ℕ) (s : State) (lo hi : ℕ) (gs : List Group) → s.tables ≡ ts → Tells N s lo hi gs fs → AllOf (λ g. InCodeOrder g.checks) gs → AllOf (λ g. AllOf (OfNode ss g.site) g.checks) gs → Verdict R ts fs root ss (answer_from R ts (checks_of gs) root)
  verdict N s lo hi [] e t o f = quiet t.0
  verdict N s lo hi (g ∷ gs) e t o f =
      walk g.site g.checks (checks_of gs) t.0 f.0 o.0 (all_mono _ _ (λ c (k : TellsOf N s lo g.site fs c). subst (λ us. (v : Cell → ℕ) → total v (first_cells (table_at us c.op)) ≡ total v (numbers_at g.site.number c.code fs)) e k.0) g.checks t.1)
      (λ a. verdict N s lo hi gs e (t.2 (subst (λ us. AllOf (λ (c : Check). (table_at us c.op).rows ≡ []) g.checks) (sym e) a)) o.1 f.1)

small_checks : (N : ℕ) (s : State) (hi : ℕ) (fs : List Fault) (site : Site) (cs more : List Check) → AllOf (TellsOf N s 0 site fs) cs → (AllOf (λ (c : Check). (at s c.op).rows ≡ []) cs → SmallFrom N s hi more) → SmallFrom N s hi (cs ++ more)
small_checks N s hi fs site [] more a k = k tt
small_checks N s hi fs site (c ∷ cs) more a k = (a.0.1, (λ z. small_checks N s hi fs site cs more a.1 (λ y. k (z, y))))

pub demands : (N : ℕ) (s : State) (hi : ℕ) (gs : List Group) (fs : List Fault) → Tells N s 0 hi gs fs → SmallFrom N s hi (checks_of gs)
demands N s hi [] fs t = t.1
demands N s hi (g ∷ gs) fs t = small_checks N s hi fs g.site g.checks (checks_of gs) t.1 (λ a. demands N s hi gs fs (t.2 a))
