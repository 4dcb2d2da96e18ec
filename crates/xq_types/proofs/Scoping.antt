-- How a scope's types change where a variable is bound, and come back where the binding ends.
use Rattle.std.proofs.Common.{◌≡◌, ℕ, Bool, true, false, cond, nat_eq, Option, Some, refl, sym, ap, ◌∙◌}
use Rattle.std.proofs.lemmas.Bool.{eq-eqb, eqb-true, false≢true}
use Rattle.std.specs.HashMap.{get}
use Rattle.xq_types.specs.declared.typ.XqType.{XqType}
use Rattle.xq_types.specs.declared.scope.Scope.{Scope}
use Rattle.xq_types.specs.Types.{Typ}
use Rattle.xq_types.specs.Held.{typ_of, typ_or_empty}
use Rattle.xq_types.specs.Typing.{TypeEnv, with_type}
use Rattle.xq_types.specs.Scopes.{types_in}

-- two environments with the same types are equal
pub same_types : (a b : TypeEnv) → ((x : ℕ) → a x ≡ b x) → a ≡ b
same_types a b h = λ i. λ x. h x i

turned : (m n : ℕ) → nat_eq m n ≡ nat_eq n m
turned m n = at (nat_eq m n) (nat_eq n m) refl refl
  where
    at : (a b : Bool) → nat_eq m n ≡ a → nat_eq n m ≡ b → a ≡ b
    at true true p q = refl
    at true false p q = absurd (false≢true (sym q ∙ eq-eqb n m (sym (eqb-true m n p))))
    at false true p q = absurd (false≢true (sym p ∙ eq-eqb m n (sym (eqb-true n m q))))
    at false false p q = refl

chosen : (b : Bool) (t : XqType) (u : Option XqType) → typ_or_empty (cond b (Some t) u) ≡ cond b (typ_of t) (typ_or_empty u)
chosen true t u = refl
chosen false t u = refl

pub types_set : (a b : Scope) (v : ℕ) (t : XqType) → ((q : ℕ) → get nat_eq b.types q ≡ cond (nat_eq v q) (Some t) (get nat_eq a.types q)) → types_in b ≡ with_type (types_in a) v (typ_of t)
types_set a b v t h = same_types (types_in b) (with_type (types_in a) v (typ_of t)) (λ x. ap typ_or_empty (h x) ∙ chosen (nat_eq v x) t (get nat_eq a.types x) ∙ ap (λ e. cond e (typ_of t) (types_in a x)) (turned v x))

-- the type that a variable had, given back
pub types_back : (a : TypeEnv) (v : ℕ) (t : Typ) → with_type (with_type a v t) v (a v) ≡ a
types_back a v t = same_types (with_type (with_type a v t) v (a v)) a (λ x. at x (nat_eq x v) refl)
  where
    at : (x : ℕ) (b : Bool) → nat_eq x v ≡ b → cond b (a v) (cond b t (a x)) ≡ a x
    at x true p = ap a (sym (eqb-true x v p))
    at x false p = refl

pub back : (a b : TypeEnv) (v : ℕ) (t u : Typ) → b ≡ with_type a v t → u ≡ a v → with_type b v u ≡ a
back a b v t u p q = ap (λ e. with_type e v u) p ∙ ap (λ w. with_type (with_type a v t) v w) q ∙ types_back a v t
