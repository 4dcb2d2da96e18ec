-- How the variables' values change where one is bound, and come back where the binding ends.
use Rattle.std.proofs.Common.{◌≡◌, ℕ, Bool, true, false, cond, nat_eq, Option, Some, refl, sym, ap, ◌∙◌}
use Rattle.std.proofs.lemmas.Bool.{eqb-true}
use Rattle.std.specs.HashMap.{get}
use Rattle.core_normal.specs.declared.vars.Vars.{Vars}
use Rattle.core_normal.specs.Around.{Env, found, no_vars, with_var}
use Rattle.core_normal.specs.Standing.{Values, Stands, no_value, or_none, vars_in, with_value}

same_values : (a b : Values) → ((x : ℕ) → a x ≡ b x) → a ≡ b
same_values a b h = λ i. λ x. h x i

chosen : (b : Bool) (x : ℕ) (u : Option ℕ) → or_none (cond b (Some x) u) ≡ cond b x (or_none u)
chosen true x u = refl
chosen false x u = refl

pub values_set : (a b : Vars) (v x : ℕ) → ((q : ℕ) → get nat_eq b.known q ≡ cond (nat_eq v q) (Some x) (get nat_eq a.known q)) → vars_in b ≡ with_value v x (vars_in a)
values_set a b v x h = same_values (vars_in b) (with_value v x (vars_in a)) (λ y. ap or_none (h y) ∙ chosen (nat_eq v y) x (get nat_eq a.known y))

values_back : (a : Values) (v x : ℕ) → with_value v (a v) (with_value v x a) ≡ a
values_back a v x = same_values (with_value v (a v) (with_value v x a)) a (λ y. at y (nat_eq v y) refl)
  where
    at : (y : ℕ) (b : Bool) → nat_eq v y ≡ b → cond b (a v) (cond b x (a y)) ≡ a y
    at y true p = ap a (eqb-true v y p)
    at y false p = refl

pub back : (a b : Values) (v x y : ℕ) → b ≡ with_value v x a → y ≡ a v → with_value v y b ≡ a
back a b v x y p q = ap (λ e. with_value v y e) p ∙ ap (λ w. with_value v w (with_value v x a)) q ∙ values_back a v x

-- no bindings, and one binding more
pub stands_at_first : Stands no_value no_vars
unfolding found
stands_at_first v = refl

pub stands_behind : (vs ws : Values) (env : Env) (v x : ℕ) → Stands vs env → ws ≡ with_value v x vs → Stands ws (with_var v x env)
unfolding found
stands_behind vs ws env v x s p y = ap (λ u. cond (nat_eq v y) x u) (s y) ∙ ap (λ (f : Values). f y) (sym p)
