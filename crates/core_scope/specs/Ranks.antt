-- Numbers of nodes that never rise along a graph: a node whose targets all have lesser ones doesn't come to itself (own rule).
use Rattle.std.specs.Prelude.{◌≡◌, ℕ, ◌-◌, ◌<◌, Bool, true, ◌&&◌, List, [], ◌∷◌, length, get_or, nat_lt, nat_le}
use Rattle.core_scope.specs.Search.{Graph, targets}

-- the rank of a node; 0 where it has none
abbrev pub rank_of : List ℕ → ℕ → ℕ
rank_of ranks k = get_or ranks k 0

-- none of some nodes has a greater rank than this
abbrev pub at_most : List ℕ → ℕ → List ℕ → Bool
at_most ranks most [] = true
at_most ranks most (k ∷ ks) = nat_le (rank_of ranks k) most && at_most ranks most ks

-- no target of a node has a greater rank than the node
abbrev pub NeverRise : Graph → List ℕ → Type 0
NeverRise g ranks = (k : ℕ) → k < length g → at_most ranks (rank_of ranks k) (targets g k) ≡ true

-- a node has a rank, and all its targets have lesser ones
abbrev pub falls : Graph → List ℕ → ℕ → Bool
falls g ranks k = nat_lt 0 (rank_of ranks k) && at_most ranks (rank_of ranks k - 1) (targets g k)
