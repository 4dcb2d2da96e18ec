-- Loops that make one part after the other.
use Rattle.std.proofs.Common.{◌≡◌, refl, sym, ap, ◌∙◌, ℕ, ◌+◌, ◌<◌, ◌≤◌, List, [], ◌∷◌, length, drop, get_or, Option}
use Rattle.std.proofs.lemmas.List.{drop_more, drop_all}
use Rattle.core_meaning.specs.Erasure.{Texts}
use Rattle.core_normal.specs.declared.pieces.Context.{Context}
use Rattle.core_normal.specs.declared.bodies.Bodies.{Bodies}
use Rattle.core_normal.specs.declared.bodies.State.{State}
use Rattle.core_normal.specs.Around.{Around}
use Rattle.core_normal.specs.Making.{HasEmpty, Making, MadeBy, SoFar, around_of}
use Rattle.core_normal.proofs.Made.{still}
use Rattle.core_normal.proofs.NormForms.{made_with}

pub item_front : {X : Type 0} (xs : List X) (i : ℕ) (x : X) → i < length xs → x ≡ get_or xs i x → drop i xs ≡ x ∷ drop (i + 1) xs
item_front xs i x h is = drop_more xs i x h ∙ ap (λ y. y ∷ drop (i + 1) xs) (sym is)

-- an item more is made
pub turn : {A : Type 0} {B : Type 0} {C : Type 0} {D : Type 0} {X : Type 0} {p : Bodies} {s0 : State} {s1 : State} {f : Option Context} {s2 : State} {read : Texts → C → B} {made : C} (w : Making D) (rest : A → List X → Making D) (one : Making B) (xs : List X) (i : ℕ) (x : X) (a b : A) →
    i < length xs → x ≡ get_or xs i x →
    ((ys : List X) (t : Texts) (r : Around) (n m : ℕ) → HasEmpty t → one t r n ≡ made_with (read t made) m → rest a (x ∷ ys) t r n ≡ rest b ys t r m) →
    SoFar p s0 f w (rest a (drop i xs)) s1 → MadeBy read p s1 f one made s2 → SoFar p s0 f w (rest b (drop (i + 1) xs)) s2
turn {s1 = s1} {f = f} {s2 = s2} w rest one xs i x a b h is law so i' = record {
  so_far = λ t env z vs.
      so.so_far t env z vs
      ∙ ap (λ ys. rest a ys t (around_of env f) s1.next) (item_front xs i x h is)
      ∙ law (drop (i + 1) xs) t (around_of env f) s1.next s2.next z (i'.made t env z (still _ _ env so.same vs));
  same = i'.same ∙ so.same;
}

-- no item is left
pub finish : {A : Type 0} {D : Type 0} {E : Type 0} {X : Type 0} {p : Bodies} {s0 : State} {s1 : State} {f : Option Context} {out : Texts → E → D} (w : Making D) (rest : A → List X → Making D) (xs : List X) (i : ℕ) (a : A) (y : E) → length xs ≤ i →
    ((t : Texts) (r : Around) (n : ℕ) → HasEmpty t → rest a [] t r n ≡ made_with (out t y) n) →
    SoFar p s0 f w (rest a (drop i xs)) s1 → MadeBy out p s0 f w y s1
finish {s1 = s1} {f = f} w rest xs i a y h law so = record {
  made = λ t env z vs.
      so.so_far t env z vs ∙ ap (λ ys. rest a ys t (around_of env f) s1.next) (drop_all i xs h) ∙ law t (around_of env f) s1.next z;
  same = so.same;
}

-- what is left, said in another way
pub left_as : {D : Type 0} {p : Bodies} {s0 s1 : State} {f : Option Context} {w a : Making D} (b : Making D) →
    ((t : Texts) (r : Around) (n : ℕ) → HasEmpty t → a t r n ≡ b t r n) → SoFar p s0 f w a s1 → SoFar p s0 f w b s1
left_as {s1 = s1} {f = f} b law so = record {
  so_far = λ t env z vs. so.so_far t env z vs ∙ law t (around_of env f) s1.next z;
  same = so.same;
}

-- all is left
pub all_left : {D : Type 0} {p : Bodies} {s0 : State} {f : Option Context} (w rest : Making D) →
    ((t : Texts) (r : Around) (n : ℕ) → HasEmpty t → w t r n ≡ rest t r n) → SoFar p s0 f w rest s0
all_left {s0 = s0} {f = f} w rest law = record {
  so_far = λ t env z vs. law t (around_of env f) s0.next z;
  same = refl;
}

-- what is left of a form is made
pub last_made : {A B : Type 0} {read : Texts → A → B} {p : Bodies} {s0 s1 s2 : State} {f : Option Context} {x : A} (w : Making B) (m : Making B) →
    SoFar p s0 f w m s1 → MadeBy read p s1 f m x s2 → MadeBy read p s0 f w x s2
last_made w m so i = record {
  made = λ t env z vs. so.so_far t env z vs ∙ i.made t env z (still _ _ env so.same vs);
  same = i.same ∙ so.same;
}

-- a making said in another way
pub made_as : {A B : Type 0} {read : Texts → A → B} {p : Bodies} {s0 s1 : State} {f : Option Context} {x : A} (w m : Making B) →
    ((t : Texts) (r : Around) (n : ℕ) → HasEmpty t → w t r n ≡ m t r n) → MadeBy read p s0 f m x s1 → MadeBy read p s0 f w x s1
made_as {s0 = s0} {f = f} w m law i = record {
  made = λ t env z vs. law t (around_of env f) s0.next z ∙ i.made t env z vs;
  same = i.same;
}
