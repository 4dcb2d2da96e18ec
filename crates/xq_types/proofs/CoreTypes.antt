-- What the judgement of a Core says of its expression, whatever texts its text numbers stand for.
use Rattle.std.proofs.Common.{◌≡◌, ℕ, Bool, true, false, List, [], ◌∷◌, Result, Ok, Err, Some, refl, sym, ap, subst, ◌∙◌}
use Rattle.std.proofs.lemmas.Bool.{true≢false}
use Rattle.core_meaning.specs.declared.node.Core.{Core}
use Rattle.core_meaning.specs.Erasure.{Texts, core_of}
use Rattle.core_meaning.specs.Expr.{Site}
use Rattle.core_meaning.specs.ExprOf.{expr_of}
use Rattle.core_meaning.proofs.Sites.{sites_in_postorder}
use Rattle.xq_types.specs.declared.fault.TypeFault.{TypeFault}
use Rattle.xq_types.specs.declared.fault.TypeFault.TheVariants as f
use Rattle.xq_types.specs.declared.typ.XqType.{XqType}
use Rattle.xq_types.specs.Types.{Typ, HasType}
use Rattle.xq_types.specs.Typing.{TypeEnv, no_types, type_of}
use Rattle.xq_types.specs.Refusals.{refused, least_site, offset_of}
use Rattle.xq_types.specs.Held.{typ_of}
use Rattle.xq_types.specs.Judging.{judged}
use Rattle.xq_types.specs.TypeOf.{core_type, core_refusal, IsLawful, ValuesHave, Tells, KeepsType}
use Rattle.xq_types.proofs.AnyTexts.{same_for_all}
use Rattle.xq_types.proofs.Judged.{verdict, judges}
use Rattle.xq_types.proofs.Least.{first_site, least_is_first}
use Rattle.xq_types.proofs.TypedValues.{values_have_their_types}

module _ {A : Type 0} where
  abbrev is_value : Result A ℕ → Bool
  is_value (Ok a) = true
  is_value (Err o) = false

  abbrev value_or : A → Result A ℕ → A
  value_or d (Ok a) = a
  value_or d (Err o) = d

  abbrev fault_or : ℕ → Result A ℕ → ℕ
  fault_or d (Ok a) = d
  fault_or d (Err o) = o

  verdict_value : (xs : List Site) (a b : A) → verdict xs a ≡ Ok b → (xs ≡ []) × (a ≡ b)
  verdict_value [] a b p = (refl, ap (value_or a) p)
  verdict_value (s ∷ ss) a b p = absurd (true≢false (sym (ap is_value p)))

  verdict_fault : (xs : List Site) (a : A) (o : ℕ) → verdict xs a ≡ Err o → offset_of (first_site xs) ≡ Some o
  verdict_fault [] a o p = absurd (true≢false (ap is_value p))
  verdict_fault (s ∷ ss) a o p = ap Some (ap (fault_or o) p)

-- the judgement with no texts, for whatever texts
at_texts : (core : Core) (types : TypeEnv) (j : Result Typ ℕ) → types ≡ no_types → judged types (core_of [] core) ≡ j → (texts : Texts) → verdict (refused no_types (expr_of (core_of texts core))) (type_of no_types (expr_of (core_of texts core))) ≡ j
at_texts core types j same p texts = sym (judges no_types 0 (core_of texts core)) ∙ same_for_all texts core no_types ∙ ap (λ e. judged e (core_of [] core)) (sym same) ∙ p

pub keeps_type : (core : Core) (types : TypeEnv) (ty : XqType) → IsLawful core → types ≡ no_types → judged types (core_of [] core) ≡ Ok (typ_of ty) → KeepsType core ty
keeps_type core types ty lawful same p = record {
  lawful = lawful;
  accepted = λ texts. ap (λ ss. offset_of (least_site ss)) (verdict_value _ _ (typ_of ty) (at_texts core types _ same p texts)).0;
  has_type = λ texts. (verdict_value (refused no_types (expr_of (core_of texts core))) (core_type texts core) (typ_of ty) (at_texts core types _ same p texts)).1;
}

refused_at : (core : Core) (types : TypeEnv) (o : ℕ) → types ≡ no_types → judged types (core_of [] core) ≡ Err o → (texts : Texts) → core_refusal texts core ≡ Some o
refused_at core types o same p texts =
    ap offset_of (least_is_first (expr_of (core_of texts core)) 0 no_types (sites_in_postorder (core_of texts core)))
    ∙ verdict_fault (refused no_types (expr_of (core_of texts core))) (core_type texts core) o (at_texts core types _ same p texts)

-- what a judgement says of the fault that it ends with
abbrev Ends : TypeEnv → Core → TypeFault → Type 0
Ends types core (f.Refused o) = judged types (core_of [] core) ≡ Err o
Ends types core f.NoMemory = Unit {0}

pub tells : (core : Core) (types : TypeEnv) (fault : TypeFault) → types ≡ no_types → Ends types core fault → Tells core fault
tells core types (f.Refused o) same p = refused_at core types o same p
tells core types f.NoMemory same p = tt

pub values_have : (core : Core) (ty : XqType) → KeepsType core ty → ValuesHave core ty
values_have core ty keeps texts docs vs given is = subst (λ t. HasType t vs) (keeps.has_type texts) (values_have_their_types docs (expr_of (core_of texts core)) vs given (keeps.lawful texts) is)

-- the same of equal ones
pub seen_as : (core now : Core) (ty result : XqType) → KeepsType core ty → core ≡ now → result ≡ ty → KeepsType now result
seen_as core now ty result keeps is value = subst (λ e. KeepsType e result) is (subst (λ u. KeepsType core u) (sym value) keeps)
