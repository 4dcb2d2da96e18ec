-- The order of texts and integers as std tells it, and the texts of a pool.
use Rattle.std.proofs.Common.{◌≡◌, ℕ, Bool, true, false, ◌&&◌, ◌||◌, cond, List, [], ◌∷◌, Some, refl, sym, ap, ◌∙◌}
use Rattle.std.proofs.Common.{arith}
use Rattle.std.proofs.lemmas.Bool.{ltb-true, ltb-false, lt-ltb, le-ltb, eqb-true, eqb-false, eq-eqb}
use Rattle.std.specs.Prelude.{nat_eq, nat_lt, slice_get, pos, negsuc}
use Rattle.std.specs.declared.cmp.Ordering.{Ordering}
use Rattle.std.specs.declared.cmp.Ordering.TheVariants.{Less, Equal, Greater}
use Rattle.std.specs.Ordering.{nat_cmp, ordering_then}
use Rattle.std.specs.Cmp.Lexicographic.{slice_cmp, pointwise}
use Rattle.xq_base.specs.declared.item.TextId.{TextId}
use Rattle.xq_base.specs.Texts.{Text, text_eq, text_less}
use Rattle.doc_table.specs.Tree.{text_in}
use Rattle.doc_table.proofs.StringValues.{text-found}
use Rattle.xq_base.specs.TextRules.{order_number}
use Rattle.xq_funs.specs.Orderings.{tells_equal, tells_less, number_of}

pub text_is : (texts : List Text) (id : TextId) (t : Text) → slice_get texts id.0 ≡ Some t → text_in texts id ≡ t
text_is texts id t e = sym (text-found texts id.0 t e)

then_less : (a b : Bool) (o : Ordering) → tells_less (ordering_then (cond a Less (cond b Equal Greater)) o) ≡ (a || (b && tells_less o))
then_less true b o = refl
then_less false true o = refl
then_less false false o = refl

then_equal : (a b : Bool) (o : Ordering) → (a && b) ≡ false → tells_equal (ordering_then (cond a Less (cond b Equal Greater)) o) ≡ (b && tells_equal o)
then_equal true true o e = cc
then_equal true false o e = refl
then_equal false true o e = refl
then_equal false false o e = refl

not_both : (x y : ℕ) → (nat_lt x y && nat_eq x y) ≡ false
not_both x y = by (nat_lt x y) (nat_eq x y) refl refl
  where
    by : (a b : Bool) → nat_lt x y ≡ a → nat_eq x y ≡ b → (a && b) ≡ false
    by true true l e = absurd (omega (arith, ltb-true x y l, eqb-true x y e))
    by true false l e = refl
    by false b l e = refl

pub texts_less : (t u : Text) → tells_less (slice_cmp nat_cmp t u) ≡ text_less t u
texts_less [] [] = refl
texts_less [] (d ∷ ds) = refl
texts_less (c ∷ cs) [] = refl
texts_less (c ∷ cs) (d ∷ ds) = then_less (nat_lt c d) (nat_eq c d) (slice_cmp nat_cmp cs ds) ∙ ap (λ z. nat_lt c d || (nat_eq c d && z)) (texts_less cs ds)

pub texts_equal : (t u : Text) → tells_equal (slice_cmp nat_cmp t u) ≡ text_eq t u
texts_equal [] [] = refl
texts_equal [] (d ∷ ds) = refl
texts_equal (c ∷ cs) [] = refl
texts_equal (c ∷ cs) (d ∷ ds) = then_equal (nat_lt c d) (nat_eq c d) (slice_cmp nat_cmp cs ds) (not_both c d) ∙ ap (λ z. nat_eq c d && z) (texts_equal cs ds)

pub texts_same : (t u : Text) → pointwise nat_eq t u ≡ text_eq t u
texts_same [] [] = refl
texts_same [] (d ∷ ds) = refl
texts_same (c ∷ cs) [] = refl
texts_same (c ∷ cs) (d ∷ ds) = ap (λ z. nat_eq c d && z) (texts_same cs ds)

pub order_law : (t u : Text) → number_of (slice_cmp nat_cmp t u) ≡ order_number t u
order_law [] [] = refl
order_law [] (d ∷ ds) = refl
order_law (c ∷ cs) [] = refl
order_law (c ∷ cs) (d ∷ ds) = by (nat_lt c d) (nat_eq c d) refl refl (order_law cs ds)
  where
    by : (a b : Bool) → nat_lt c d ≡ a → nat_eq c d ≡ b → number_of (slice_cmp nat_cmp cs ds) ≡ order_number cs ds
        → number_of (ordering_then (cond (nat_lt c d) Less (cond (nat_eq c d) Equal Greater)) (slice_cmp nat_cmp cs ds))
        ≡ cond (nat_lt c d || (nat_eq c d && text_less cs ds)) (negsuc 0) (cond (nat_lt d c || (nat_eq d c && text_less ds cs)) (pos 1) (pos 0))
    by true b e q r = rw e refl
    by false true e q r =
        let same = eqb-true c d q in
        let back : nat_lt d c ≡ false = le-ltb d c (omega (arith, same)) in
        let again : nat_eq d c ≡ true = eq-eqb d c (sym same) in
        rw e (rw q (rw back (rw again r)))
    by false false e q r =
        let more : nat_lt d c ≡ true = lt-ltb d c (let l = ltb-false c d e in let n = eqb-false c d q in omega (arith, l, n)) in
        rw e (rw q (rw more refl))
