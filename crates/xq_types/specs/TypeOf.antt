-- What typing a Core of the code says, whatever texts its text numbers stand for (own rule).
use Rattle.std.specs.Prelude.{ℕ, ◌≡◌, true, [], Option, Some, None}
use Rattle.doc_table.specs.Values.{Items}
use Rattle.doc_table.specs.NodeRules.{Docs}
use Rattle.core_meaning.specs.declared.node.Core.{Core}
use Rattle.core_meaning.specs.Erasure.{Texts, core_of}
use Rattle.core_meaning.specs.ExprOf.{expr_of}
use Rattle.core_meaning.specs.Lawful.{is_lawful}
use Rattle.core_meaning.specs.Meaning.{no_variables, val}
use Rattle.xq_types.specs.declared.fault.TypeFault.{TypeFault}
use Rattle.xq_types.specs.declared.fault.TypeFault.TheVariants as f
use Rattle.xq_types.specs.declared.typ.XqType.{XqType}
use Rattle.xq_types.specs.Types.{Typ, HasType}
use Rattle.xq_types.specs.Typing.{no_types, type_of}
use Rattle.xq_types.specs.Refusals.{type_refusal}
use Rattle.xq_types.specs.Laws.{are_documents}
use Rattle.xq_types.specs.Held.{typ_of}

-- the type of a Core, and the place of the least of its sites that are refused
abbrev pub core_type : Texts → Core → Typ
core_type texts core = type_of no_types (expr_of (core_of texts core))

abbrev pub core_refusal : Texts → Core → Option ℕ
core_refusal texts core = type_refusal no_types (expr_of (core_of texts core))

-- a Core that a query can have
abbrev pub IsLawful : Core → Type 0
IsLawful core = (texts : Texts) → is_lawful (expr_of (core_of texts core)) ≡ true

abbrev pub IsAccepted : Core → Type 0
IsAccepted core = (texts : Texts) → core_refusal texts core ≡ None

abbrev pub IsRefusedAt : Core → ℕ → Type 0
IsRefusedAt core offset = (texts : Texts) → core_refusal texts core ≡ Some offset

abbrev pub HasCoreType : Core → XqType → Type 0
HasCoreType core ty = (texts : Texts) → core_type texts core ≡ typ_of ty

-- each value over documents has this type
abbrev pub ValuesHave : Core → XqType → Type 0
ValuesHave core ty =
    (texts : Texts) (docs : Docs) (vs : Items) → are_documents docs ≡ true → val docs (expr_of (core_of texts core)) no_variables [] ≡ Some vs → HasType (typ_of ty) vs

-- a fault is a refusal, at the least site, or want of memory, which says nothing of the Core
abbrev pub Tells : Core → TypeFault → Type 0
Tells core (f.Refused offset) = IsRefusedAt core offset
Tells core f.NoMemory = Unit {0}

-- what a typed Core keeps
pub record KeepsType (core : Core) (ty : XqType) : Type 0 where
  pub lawful : IsLawful core
  pub accepted : IsAccepted core
  pub has_type : HasCoreType core ty
