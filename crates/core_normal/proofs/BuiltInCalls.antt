-- A call that scope finds a function for has a Core.
use Rattle.std.proofs.Common.{◌≡◌, refl, sym, ap, ◌∙◌, subst, ℕ, zero, suc, ◌+◌, ◌&&◌, ◌||◌, nat_eq, nat_le, Bool, true, false, cond, Option, Some, None, List, [], ◌∷◌, arith}
use Rattle.std.proofs.lemmas.Bool.{true≢false, and_parts, eqb-true}
use Rattle.xq_base.specs.declared.fun.Fun.{Fun}
use Rattle.xq_base.specs.Texts.{Text, text_eq}
use Rattle.xq_ast.specs.declared.leaf.Callee.TheVariants as callee
use Rattle.core_scope.specs.BuiltIns.{BuiltIn, built_in, found_in, is_of, is_within, or_else, node_functions, truth_functions, text_functions, part_functions, number_functions, sequence_functions, context_functions, type_functions}
use Rattle.core_scope.specs.Names.{Signature, plain_name, declared_from, called_of, function_of}
use Rattle.core_normal.specs.Sound.{can_call}

-- each function of a list has a Core where it is found
abbrev AllCan : List BuiltIn → Type 0
AllCan [] = Unit {0}
AllCan (b ∷ bs) = ((k : ℕ) → (nat_le b.least k && is_within k b.greatest) ≡ true → can_call b.fun k ≡ true) × AllCan bs

same_some : {A : Type 0} (a b : A) → Some a ≡ Some b → a ≡ b
same_some a b e = cc

none_some : {A : Type 0} (a : A) → None ≡ Some a → ⊥
none_some a e = cc

within : (a b c : Bool) → (a && b && c) ≡ true → (b && c) ≡ true
within true b c e = e
within false b c e = absurd (true≢false (sym e))

found_can : (bs : List BuiltIn) → AllCan bs → (x : Text) (k : ℕ) (g : Fun) → found_in bs x k ≡ Some g → can_call g k ≡ true
found_can [] h x k g e = absurd (none_some g e)
found_can (b ∷ bs) h x k g e = at (is_of b x k) refl e (found_can bs h.1 x k g)
  where
    at : (z : Bool) → is_of b x k ≡ z → cond z (Some b.fun) (found_in bs x k) ≡ Some g → (found_in bs x k ≡ Some g → can_call g k ≡ true) → can_call g k ≡ true
    at true p q rest = subst (λ f. can_call f k ≡ true) (same_some b.fun g q) (h.0 k (within (text_eq b.name x) (nat_le b.least k) (is_within k b.greatest) p))
    at false p q rest = rest q

exact : (j k : ℕ) → (nat_le j k && nat_le k j) ≡ true → nat_eq k j ≡ true
exact j k e = let both = and_parts (nat_le j k) (nat_le k j) e in grind (arith, both.0, both.1)

one_of : (j k : ℕ) → (nat_le j k && nat_le k (suc j)) ≡ true → (nat_eq k j || nat_eq k (suc j)) ≡ true
one_of j k e = let both = and_parts (nat_le j k) (nat_le k (suc j)) e in grind (arith, both.0, both.1)

no_more : (j k : ℕ) → (nat_le j k && true) ≡ true → nat_le j k ≡ true
no_more j k e = (and_parts (nat_le j k) true e).0

node_can : AllCan node_functions
node_can = (λ k e. exact 1 k e, (λ k e. one_of 0 k e, (λ k e. one_of 0 k e, (λ k e. exact 1 k e, (λ k e. one_of 0 k e, (λ k e. one_of 0 k e, tt))))))

truth_can : AllCan truth_functions
truth_can = (λ k e. exact 1 k e, (λ k e. exact 1 k e, (λ k e. exact 1 k e, (λ k e. exact 1 k e, (λ k e. exact 1 k e, (λ k e. exact 0 k e, (λ k e. exact 0 k e, tt)))))))

text_can : AllCan text_functions
text_can = (λ k e. one_of 0 k e, (λ k e. one_of 0 k e, (λ k e. no_more 2 k e, (λ k e. exact 2 k e, (λ k e. exact 2 k e, (λ k e. exact 2 k e, (λ k e. exact 2 k e, tt)))))))

part_can : AllCan part_functions
part_can = (λ k e. exact 2 k e, (λ k e. exact 2 k e, (λ k e. one_of 2 k e, (λ k e. exact 3 k e, (λ k e. exact 2 k e, tt)))))

number_can : AllCan number_functions
number_can = (λ k e. exact 1 k e, (λ k e. one_of 1 k e, (λ k e. exact 1 k e, (λ k e. exact 1 k e, tt))))

sequence_can : AllCan sequence_functions
sequence_can = (λ k e. exact 1 k e, (λ k e. exact 2 k e, (λ k e. exact 1 k e, (λ k e. one_of 2 k e, (λ k e. exact 3 k e, (λ k e. exact 2 k e, tt))))))

context_can : AllCan context_functions
context_can = (λ k e. exact 1 k e, (λ k e. exact 1 k e, (λ k e. exact 1 k e, (λ k e. refl, (λ k e. refl, (λ k e. refl, tt))))))

type_can : AllCan type_functions
type_can = (λ k e. exact 1 k e, (λ k e. exact 1 k e, (λ k e. exact 1 k e, (λ k e. exact 1 k e, tt))))

first_or : (a b : Option Fun) (g : Fun) (k : ℕ) → or_else a b ≡ Some g → (a ≡ Some g → can_call g k ≡ true) → (b ≡ Some g → can_call g k ≡ true) → can_call g k ≡ true
first_or None b g k e p q = q e
first_or (Some f) b g k e p q = p e

pub built_in_can : (x : Text) (k : ℕ) (g : Fun) → built_in x k ≡ Some g → can_call g k ≡ true
built_in_can x k g e =
    first_or (found_in node_functions x k) _ g k e (found_can node_functions node_can x k g)
    (λ e. first_or (found_in truth_functions x k) _ g k e (found_can truth_functions truth_can x k g)
    (λ e. first_or (found_in text_functions x k) _ g k e (found_can text_functions text_can x k g)
    (λ e. first_or (found_in part_functions x k) _ g k e (found_can part_functions part_can x k g)
    (λ e. first_or (found_in number_functions x k) _ g k e (found_can number_functions number_can x k g)
    (λ e. first_or (found_in sequence_functions x k) _ g k e (found_can sequence_functions sequence_can x k g)
    (λ e. first_or (found_in context_functions x k) _ g k e (found_can context_functions context_can x k g) (found_can type_functions type_can x k g)))))))

-- the number of parameters of a declared function
abbrev pub arity_of : List Signature → ℕ → ℕ
arity_of [] k = 0
arity_of (f ∷ fs) zero = f.arity
arity_of (f ∷ fs) (suc k) = arity_of fs k

arity_found : (fs : List Signature) (i : ℕ) (x : Text) (n j : ℕ) → declared_from i fs x n ≡ Some j → (k : ℕ) × (j ≡ i + k) × (arity_of fs k ≡ n)
arity_found [] i x n j e = absurd (none_some j e)
arity_found (f ∷ fs) i x n j e = at (text_eq f.name x && nat_eq f.arity n) refl e (arity_found fs (suc i) x n j)
  where
    at : (b : Bool) → (text_eq f.name x && nat_eq f.arity n) ≡ b → cond b (Some i) (declared_from (suc i) fs x n) ≡ Some j →
        (declared_from (suc i) fs x n ≡ Some j → (k : ℕ) × (j ≡ suc i + k) × (arity_of fs k ≡ n)) → (k : ℕ) × (j ≡ i + k) × (arity_of (f ∷ fs) k ≡ n)
    at true p q rest = let same = same_some i j q in (0, omega (arith, same), eqb-true f.arity n ((and_parts (text_eq f.name x) (nat_eq f.arity n) p).1))
    at false p q rest = let r = rest q in let far = r.1 in (suc r.0, omega (arith, far), r.2)

-- the function of a call: a built-in one that can be called so, or a declared one with as many parameters
pub known_can : (fs : List Signature) (x : Text) (n : ℕ) (g : Fun) → function_of fs x n ≡ Some (callee.Known g) → can_call g n ≡ true
known_can fs x n g e = at (built_in (plain_name x) n) (declared_from 0 fs (plain_name x) n) refl e
  where
    at : (b : Option Fun) (d : Option ℕ) → built_in (plain_name x) n ≡ b → called_of b d ≡ Some (callee.Known g) → can_call g n ≡ true
    at (Some f) d p q = built_in_can (plain_name x) n g (p ∙ ap Some (same_known f g (same_some (callee.Known f) (callee.Known g) q)))
      where
        same_known : (f g : Fun) → callee.Known f ≡ callee.Known g → f ≡ g
        same_known f g e = cc
    at None (Some j) p q = cc
    at None None p q = cc

pub declared_arity : (fs : List Signature) (x : Text) (n j : ℕ) → function_of fs x n ≡ Some (callee.Declared j) → arity_of fs j ≡ n
declared_arity fs x n j e = at (built_in (plain_name x) n) (declared_from 0 fs (plain_name x) n) refl e
  where
    same_declared : (i j : ℕ) → callee.Declared i ≡ callee.Declared j → i ≡ j
    same_declared i j e = cc

    at : (b : Option Fun) (d : Option ℕ) → declared_from 0 fs (plain_name x) n ≡ d → called_of b d ≡ Some (callee.Declared j) → arity_of fs j ≡ n
    at (Some f) d p q = cc
    at None None p q = cc
    at None (Some i) p q =
        let r = arity_found fs 0 (plain_name x) n i p in
        let same = same_declared i j (same_some (callee.Declared i) (callee.Declared j) q) in
        let far = r.1 in
        subst (λ k. arity_of fs k ≡ n) (omega (arith, same, far)) r.2
