-- Scope gives a query one thing at most: the order of refusals tells any two apart.
use Rattle.std.proofs.Common.{◌≡◌, ◌∙◌, ℕ, Bool, false, refl, sym, ap, arith, ◌||◌, ◌&&◌, nat_lt, nat_eq}
use denote.Enum.Bare.{tag_one}
use denote.Enum.Declared.{tag_of}
use Rattle.xq_base.specs.declared.code.Code.{Code}
use Rattle.xq_base.specs.declared.code.Code.TheVariants as code
use Rattle.xq_base.specs.contracts.code.Code.{the_type}
use Rattle.core_scope.specs.declared.refusal.Refusal.{Refusal}
use Rattle.core_scope.specs.Walk.{refused}
use Rattle.core_scope.specs.Refusals.{rank, is_before, accepted, refusal, OneScoping}

rank_is_tag : (c : Code) → rank c ≡ tag_of the_type c
rank_is_tag code.XPST0003 = refl
rank_is_tag code.PFRC0003 = refl
rank_is_tag code.PFRC0004 = refl
rank_is_tag code.XQST0031 = refl
rank_is_tag code.FOAR0002 = refl
rank_is_tag code.XPST0008 = refl
rank_is_tag code.XPST0017 = refl
rank_is_tag code.XPST0051 = refl
rank_is_tag code.XPST0080 = refl
rank_is_tag code.XQST0034 = refl
rank_is_tag code.XQST0039 = refl
rank_is_tag code.XQST0040 = refl
rank_is_tag code.XQST0049 = refl
rank_is_tag code.XQST0068 = refl
rank_is_tag code.XQST0089 = refl
rank_is_tag code.PFRC0001 = refl
rank_is_tag code.PFRC0002 = refl
rank_is_tag code.XPTY0004 = refl
rank_is_tag code.XPTY0018 = refl
rank_is_tag code.XPTY0019 = refl
rank_is_tag code.XPTY0020 = refl
rank_is_tag code.XPDY0002 = refl
rank_is_tag code.XPDY0050 = refl
rank_is_tag code.XQTY0024 = refl
rank_is_tag code.XQDY0025 = refl
rank_is_tag code.XQDY0026 = refl
rank_is_tag code.XQDY0041 = refl
rank_is_tag code.XQDY0064 = refl
rank_is_tag code.XQDY0072 = refl
rank_is_tag code.XQDY0074 = refl
rank_is_tag code.FOAR0001 = refl
rank_is_tag code.FORG0001 = refl
rank_is_tag code.FORG0003 = refl
rank_is_tag code.FORG0004 = refl
rank_is_tag code.FORG0005 = refl
rank_is_tag code.FORG0006 = refl
rank_is_tag code.FODC0002 = refl
rank_is_tag code.FOER0000 = refl
rank_is_tag code.SENR0001 = refl

rank_tells : (a b : Code) → rank a ≡ rank b → a ≡ b
rank_tells a b e = tag_one the_type tt a b (sym (rank_is_tag a) ∙ e ∙ rank_is_tag b)

neither : (m n k l : ℕ) → (nat_lt m n || (nat_eq m n && nat_lt k l)) ≡ false → (nat_lt n m || (nat_eq n m && nat_lt l k)) ≡ false → (m ≡ n) × (k ≡ l)
neither m n k l d e = grind (arith, d, e)

same : (c d : Code) (m n : ℕ) → c ≡ d → m ≡ n → refused c m ≡ refused d n
same c d m n e f = cc

one_refusal : (a b : Refusal) → is_before a b ≡ false → is_before b a ≡ false → a ≡ b
one_refusal a b d e =
    let both : (a.offset ≡ b.offset) × (rank a.code ≡ rank b.code) = neither a.offset b.offset (rank a.code) (rank b.code) d e in
    same a.code b.code a.offset b.offset (rank_tells a.code b.code both.1) both.0

pub one_scoping : OneScoping
one_scoping q (accepted x) (accepted y) a b = ap accepted (a.1 ∙ sym b.1)
one_scoping q (accepted x) (refusal r) a b = absurd (a.0 r b.is)
one_scoping q (refusal r) (accepted y) a b = absurd (b.0 r a.is)
one_scoping q (refusal r) (refusal s) a b = ap refusal (one_refusal r s (b.first r a.is) (a.first s b.is))
