-- Lists of one and of two.
use Rattle.std.proofs.Common.{◌≡◌, ◌<◌, ◌≤◌, List, [], ◌∷◌, length, get_or, map, refl, sym, ap, ◌∙◌, Bool, ◌&&◌, false, arith}
use Rattle.core_meaning.specs.declared.node.Core.{Core}
use Rattle.core_meaning.specs.Erasure.{cores_of}
use Rattle.core_meaning.specs.PlainCore.{PlainCore}
use Rattle.query_engine.specs.Evaluated.{has_forms, two_forms}

pub one_of : {A : Type 0} (xs : List A) (x : A) → 1 ≤ length xs → length xs < 2 → x ≡ get_or xs 0 x → xs ≡ x ∷ []
one_of [] x l m e = absurd (omega arith)
one_of (y ∷ []) x l m e = ap (λ z. z ∷ []) (sym e)
one_of (y ∷ z ∷ xs) x l m e = absurd (omega arith)

pub two_of : {A : Type 0} (xs : List A) (x y : A) → 2 ≤ length xs → length xs < 3 → x ≡ get_or xs 0 x → y ≡ get_or xs 1 y → xs ≡ x ∷ y ∷ []
two_of [] x y l m e f = absurd (omega arith)
two_of (u ∷ []) x y l m e f = absurd (omega arith)
two_of (u ∷ v ∷ []) x y l m e f = ap (λ z. z ∷ v ∷ []) (sym e) ∙ ap (λ z. x ∷ z ∷ []) (sym f)
two_of (u ∷ v ∷ w ∷ xs) x y l m e f = absurd (omega arith)

pub two_formed : (g : Core → PlainCore) (sums : Bool) (xs : List Core) (x y : Core) → xs ≡ x ∷ y ∷ [] → two_forms sums (cores_of (map g xs)) ≡ has_forms sums (g x) && has_forms sums (g y)
two_formed g sums xs x y e = rw e refl

pub one_formed : (g : Core → PlainCore) (sums : Bool) (xs : List Core) → 1 ≤ length xs → length xs < 2 → two_forms sums (cores_of (map g xs)) ≡ false
one_formed g sums [] l m = refl
one_formed g sums (x ∷ []) l m = refl
one_formed g sums (x ∷ y ∷ xs) l m = absurd (omega arith)

pub more_formed : (g : Core → PlainCore) (sums : Bool) (xs : List Core) → 3 ≤ length xs → two_forms sums (cores_of (map g xs)) ≡ false
more_formed g sums [] l = refl
more_formed g sums (x ∷ []) l = refl
more_formed g sums (x ∷ y ∷ []) l = absurd (omega arith)
more_formed g sums (x ∷ y ∷ z ∷ xs) l = refl
