-- What the call that normalises takes and gives, whatever texts the text numbers stand for; want of memory is free.
use Rattle.std.specs.Prelude.{◌≡◌, true}
use Rattle.core_meaning.specs.declared.node.Core.{Core}
use Rattle.core_meaning.specs.Erasure.{Texts, core_of}
use Rattle.core_meaning.specs.ExprOf.{expr_of}
use Rattle.core_meaning.specs.Lawful.{is_lawful}
use Rattle.core_scope.specs.Leaves.{ResolvedQuery, query_resolved}
use Rattle.core_scope.specs.Refusals.{accepted, Scopes}
use Rattle.core_scope.specs.Syn.{Query, read}
use Rattle.core_normal.specs.declared.fault.NormFault.{NormFault}
use Rattle.core_normal.specs.declared.fault.NormFault.TheVariants as fault
use Rattle.core_normal.specs.Limits.{core, too_large, Normalises}
use Rattle.core_normal.specs.Making.{HasEmpty}
use Rattle.core_normal.specs.Sound.{IsBuilt}

-- a query that scope gave: the resolved form, over texts of which the first is empty, of one that was read and of which
-- nothing is refused
pub record IsScoped (query : ResolvedQuery) : Type 0 where
  pub texts : Texts
  pub empty : HasEmpty texts
  pub of : Query read
  pub built : IsBuilt (query_resolved texts query)
  pub scopes : Scopes of (accepted (query_resolved texts query))

-- a fault has the nodes and levels of a Core that is too large
abbrev pub NormFails : ResolvedQuery → NormFault → Type 0
NormFails query fault.NoMemory = Unit {0}
NormFails query (fault.TooLarge n m) = (texts : Texts) → Normalises (query_resolved texts query) (too_large n m)

-- the Core of the query, where text number 0 stands for the empty text
abbrev pub Gives : ResolvedQuery → Core → Type 0
Gives query x = (texts : Texts) → HasEmpty texts → Normalises (query_resolved texts query) (core (core_of texts x))

-- a Core that a query can have
abbrev pub IsLawful : Core → Type 0
IsLawful x = (texts : Texts) → is_lawful (expr_of (core_of texts x)) ≡ true
