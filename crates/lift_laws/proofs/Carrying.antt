-- Variables carried into a loop or a branch, one after the other: exactly the free ones.
use Rattle.std.proofs.Common.{◌≡◌, ℕ, ◌≤◌, Bool, true, false, cond, ◌||◌, List, [], ◌∷◌, ◌++◌, length, refl, sym, ap, ◌∙◌, subst, arith, nat_eq, true≢false}
use Rattle.std.proofs.lemmas.Bool.{eqb-true}
use Rattle.plan_dag.specs.declared.op.OpId.{OpId}
use Rattle.plan_dag.specs.ItemRules.{Cell}
use Rattle.plan_dag.specs.Meaning.{Table}
use Rattle.core_meaning.specs.Expr.{Expr}
use Rattle.core_meaning.specs.Work.{is_member, free, without}
use Rattle.lift_laws.specs.Iterations.{Row}
use Rattle.lift_laws.specs.States.{State, at, IsIn, three}
use Rattle.lift_laws.specs.Shapes.{into_rows, restrict_rows}
use Rattle.lift_laws.specs.Carried.{set_var, CarryOne, CarriedFor, Carries, Restricts}
use Rattle.lift_laws.proofs.Numbers.{nat_eq_self}
use Rattle.lift_laws.proofs.Free.{without_keeps, without_one}
use Rattle.lift_laws.proofs.Keeping.{grows_self, grows_trans, small_none, small_join, small_keep}

pub carried_none : (R : List Row → List Row → List Row) (s : State) (m : OpId) (vars inner : ℕ → OpId) → CarriedFor R s s m vars inner []
carried_none R s m vars inner = record { grows = grows_self s; quiet = refl; carried = λ y h. absurd (true≢false (sym h)); small = λ N l h. small_none (length s.tables) N }

stands_end : (ys : List ℕ) (z y : ℕ) → is_member y (ys ++ z ∷ []) ≡ (is_member y ys || (nat_eq y z || false))
stands_end [] z y = refl
stands_end (x ∷ ys) z y = elim (nat_eq y x) as (λ b. (b || is_member y (ys ++ z ∷ [])) ≡ ((b || is_member y ys) || (nat_eq y z || false))) [ true ↦ refl | false ↦ stands_end ys z y ]

pub carried_more : (R : List Row → List Row → List Row) {s s1 s2 : State} {m : OpId} {vars inner : ℕ → OpId} {ys : List ℕ} (z : ℕ) (op : OpId) → IsIn s m → IsIn s (vars z) → CarriedFor R s s1 m vars inner ys → CarryOne R s1 s2 m (vars z) op → CarriedFor R s s2 m vars (set_var inner z op) (ys ++ z ∷ [])
carried_more R {s = s} {s1 = s1} {s2 = s2} {m = m} {vars = vars} {inner = inner} {ys = ys} z op im iv c o = record {
  grows = grows_trans c.grows o.grows;
  quiet = o.quiet ∙ c.quiet;
  carried = λ y h. each y h (nat_eq y z) refl;
  small = λ N l h.
      let a = c.grows.longer in
      let mine = h z (last z) in
      let k = c.small N l (λ y q. h y (stands_end ys z y ∙ ap (λ b. b || (nat_eq y z || false)) q)) in
      small_join (small_keep o.grows (omega arith) k) (o.small N (subst (λ (t : Table Cell). length t.rows ≤ N) (sym same_m) l) (subst (λ rs. length rs ≤ N) (sym rows) mine));
}
  where
    same_m : at s1 m ≡ at s m
    same_m = c.grows.same m im

    rows : R (at s1 m).rows (at s1 (vars z)).rows ≡ R (at s m).rows (at s (vars z)).rows
    rows = ap (λ (t : Table Cell). R t.rows (at s1 (vars z)).rows) same_m ∙ ap (λ (t : Table Cell). R (at s m).rows t.rows) (c.grows.same (vars z) iv)

    or_last : (b : Bool) → (b || true) ≡ true
    or_last true = refl
    or_last false = refl

    last : (z : ℕ) → is_member z (ys ++ z ∷ []) ≡ true
    last z = stands_end ys z z ∙ ap (λ b. is_member z ys || (b || false)) (nat_eq_self z) ∙ or_last (is_member z ys)

    or_none : (b : Bool) → (b || (false || false)) ≡ b
    or_none true = refl
    or_none false = refl

    each : (y : ℕ) → is_member y (ys ++ z ∷ []) ≡ true → (b : Bool) → nat_eq y z ≡ b → IsIn s2 (set_var inner z op y) × (at s2 (set_var inner z op y) ≡ record { cols = three; rows = R (at s m).rows (at s (vars y)).rows })
    each y h true e =
        let i = o.is_in in
        subst (λ d. IsIn s2 (cond d op (inner y)) × (at s2 (cond d op (inner y)) ≡ record { cols = three; rows = R (at s m).rows (at s (vars y)).rows })) (sym e)
        (i, subst (λ k. at s2 op ≡ record { cols = three; rows = R (at s m).rows (at s (vars k)).rows }) (sym (eqb-true y z e)) (o.is ∙ ap (λ rs. let t : Table Cell = record { cols = three; rows = rs } in t) rows))
    each y h false e =
        let q = c.carried y (sym (stands_end ys z y ∙ ap (λ b. is_member y ys || (b || false)) e ∙ or_none (is_member y ys)) ∙ h) in
        let q0 = q.0 in
        let l = o.grows.longer in
        let i : IsIn s2 (inner y) = omega arith in
        subst (λ d. IsIn s2 (cond d op (inner y)) × (at s2 (cond d op (inner y)) ≡ record { cols = three; rows = R (at s m).rows (at s (vars y)).rows })) (sym e)
        (i, o.grows.same (inner y) q.0 ∙ q.1)

-- the free variables of a loop's body, but for the loop's own
pub carries_of : {s s' : State} {m : OpId} {vars inner : ℕ → OpId} (x p : ℕ) (e : Expr) → CarriedFor into_rows s s' m vars inner (without p (without x (free e))) → Carries s s' m vars inner x p e
carries_of x p e c = record {
  grows = c.grows;
  quiet = c.quiet;
  carried = λ y ne np f. c.carried y (without_keeps p (without x (free e)) y np (without_keeps x (free e) y ne f));
  small = λ N l h. c.small N l (λ y q. let a = without_one p (without x (free e)) y q in let b = without_one x (free e) y a.1 in h y b.0 a.0 b.1);
}

-- those of a branch
pub restricts_of : {s s' : State} {l : OpId} {vars inner : ℕ → OpId} (e : Expr) → CarriedFor restrict_rows s s' l vars inner (free e) → Restricts s s' l vars inner e
restricts_of e c = record {
  grows = c.grows;
  quiet = c.quiet;
  carried = λ y f. c.carried y f;
  small = λ N l h. c.small N l (λ y q. h y q);
}
