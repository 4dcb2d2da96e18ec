-- The Cores of the tests, and that they are lawful.
use Rattle.std.proofs.Common.{◌≡◌, ℕ, ap, ◌∙◌}
use Rattle.core_meaning.specs.declared.node.Core.{Core}
use Rattle.core_meaning.specs.PlainCore.{PlainCore}
use Rattle.core_meaning.specs.ExprOf.{expr_of}
use Rattle.core_meaning.specs.Lawful.{is_lawful}
use Rattle.xq_types.specs.TypeOf.{IsLawful}
use Rattle.xq_types.specs.Samples.{plus, IsTextPlusOne, IsNothingPlusOne, IsTwoSums}

pub text_plus_one_lawful : (core : Core) → IsTextPlusOne core → IsLawful core
text_plus_one_lawful core h t = ap (λ e. is_lawful (expr_of e)) (h t)

pub nothing_plus_one_lawful : (core : Core) → IsNothingPlusOne core → IsLawful core
nothing_plus_one_lawful core h t = ap (λ e. is_lawful (expr_of e)) (h t)

pub two_sums_lawful : (core : Core) → IsTwoSums core → IsLawful core
two_sums_lawful core h t = ap (λ e. is_lawful (expr_of e)) (h t)

-- a sum of known operands
pub sum_of : (n : ℕ) (x d e known_d known_e : PlainCore) → x ≡ plus n d e → d ≡ known_d → e ≡ known_e → x ≡ plus n known_d known_e
sum_of n x d e known_d known_e p q r = p ∙ ap (λ z. plus n z e) q ∙ ap (plus n known_d) r
