-- A pool that grows twice has grown.
use Rattle.std.proofs.Common.{◌≡◌, refl, sym, ap, ◌∙◌, suc, length, take, List, [], ◌∷◌}
use Rattle.xq_base.specs.Texts.{Text}
use Rattle.doc_table.specs.OtherTexts.{Grows}

both : (x y : Text) (xs ys : List Text) → x ≡ y → xs ≡ ys → x ∷ xs ≡ y ∷ ys
both x y xs ys p q = cc

head_is : (x y : Text) (xs ys : List Text) → x ∷ xs ≡ y ∷ ys → x ≡ y
head_is x y xs ys e = cc

tail_is : (x y : Text) (xs ys : List Text) → x ∷ xs ≡ y ∷ ys → xs ≡ ys
tail_is x y xs ys e = cc

pub grows_more : (a b c : List Text) → Grows a b → Grows b c → Grows a c
grows_more [] b c p q = refl
grows_more (x ∷ a) [] c p q = cc
grows_more (x ∷ a) (y ∷ b) [] p q = cc
grows_more (x ∷ a) (y ∷ b) (z ∷ c) p q =
    both z x (take (length a) c) a (head_is z y (take (length b) c) b q ∙ head_is y x (take (length a) b) a p)
    (grows_more a b c (tail_is y x (take (length a) b) a p) (tail_is z y (take (length b) c) b q))

pub grows_not : (a : List Text) → Grows a a
grows_not [] = refl
grows_not (x ∷ a) = ap (λ r. x ∷ r) (grows_not a)
