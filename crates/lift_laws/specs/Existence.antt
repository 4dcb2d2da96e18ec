-- That a world exists for an expression in some iterations (own rule).
use Rattle.std.specs.Prelude.{◌≡◌, ℕ, List, length}
use Rattle.doc_table.specs.NodeRules.{Docs}
use Rattle.core_meaning.specs.Expr.{Expr}
use Rattle.lift_laws.specs.Sums.{AllOf, Ascends}
use Rattle.lift_laws.specs.Iterations.{Iter}
use Rattle.lift_laws.specs.Worlds.{World, InStep, Faithful, Numbers}

-- the numbers are positive and ascend together with the vectors, which all have this length
pub record Numbered (size : ℕ) (its : List Iter) : Type 0 where
  pub step : InStep its
  pub ascends : Ascends (λ i. i.number) 0 its
  pub lengths : AllOf (λ i. length i.vector ≡ size) its

-- a world in which the expression's calls are reached from these iterations
pub record WorldFor (docs : Docs) (e : Expr) (its : List Iter) : Type 0 where
  pub world : World
  pub faithful : Faithful world
  pub numbered : Numbers docs world e its
