-- How the visible variables change where a name is given a variable, and come back where it is given the one before.
use Rattle.std.proofs.Common.{◌≡◌, ℕ, Bool, true, false, cond, ◌&&◌, nat_eq, Option, Some, None, List, [], ◌∷◌, refl, sym, ap, ◌∙◌, arith}
use Rattle.std.specs.Cmp.Lexicographic.{pointwise}
use Rattle.xq_base.specs.Texts.{Text, text_eq}
use Rattle.core_scope.specs.declared.names.Visible.{Visible}
use Rattle.core_scope.specs.Names.{Scope, with_name, is_there}

-- two scopes with the same variables are equal
pub same_names : (a b : Scope) → ((x : Text) → a x ≡ b x) → a ≡ b
same_names a b h = λ i. λ x. h x i

pub pointwise_text : (x y : Text) → pointwise nat_eq x y ≡ text_eq x y
pointwise_text [] [] = refl
pointwise_text [] (d ∷ ds) = refl
pointwise_text (c ∷ cs) [] = refl
pointwise_text (c ∷ cs) (d ∷ ds) = simp (pointwise_text cs ds)

pub eq_from_text : (x y : Text) → text_eq x y ≡ true → x ≡ y
eq_from_text [] [] e = refl
eq_from_text [] (d ∷ ds) e = cc
eq_from_text (c ∷ cs) [] e = cc
eq_from_text (c ∷ cs) (d ∷ ds) e = at (nat_eq c d) (text_eq cs ds) refl refl e (eq_from_text cs ds)
  where
    at : (a b : Bool) → nat_eq c d ≡ a → text_eq cs ds ≡ b → (nat_eq c d && text_eq cs ds) ≡ true → (text_eq cs ds ≡ true → cs ≡ ds) → c ∷ cs ≡ d ∷ ds
    at true true p q e h = let same : c ≡ d = grind (arith, p) in ap (λ z. z ∷ cs) same ∙ ap (λ z. d ∷ z) (h q)
    at true false p q e h = let no : (nat_eq c d && text_eq cs ds) ≡ false = rw p q in cc
    at false b p q e h = let no : (nat_eq c d && text_eq cs ds) ≡ false = rw p refl in cc

-- the variable that a name stood for, given back
pub names_back : (a : Scope) (x : Text) (v : Option Visible) → with_name x (a x) (with_name x v a) ≡ a
names_back a x v = same_names (with_name x (a x) (with_name x v a)) a (λ y. at y (text_eq x y) refl)
  where
    at : (y : Text) (b : Bool) → text_eq x y ≡ b → cond b (a x) (cond b v (a y)) ≡ a y
    at y true p = ap a (eq_from_text x y p)
    at y false p = refl

-- something is there where a test says so
pub there_where : {A : Type 0} (b : Bool) (a : A) → is_there (cond b (Some a) None) ≡ b
there_where true a = refl
there_where false a = refl
