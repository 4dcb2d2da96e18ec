-- Laws of a query that was read and of its resolved form.
use Rattle.std.specs.Prelude.{ℕ, List}
use Rattle.xq_ast.specs.Trees as trees
use Rattle.xq_ast.specs.Query.{IsQuery}
use Rattle.core_scope.specs.Syn.{Query, read, resolved}
use Rattle.core_scope.specs.Leaves.{query_read}
use Rattle.core_scope.specs.Refusals.{accepted, Scopes}
use Rattle.core_normal.specs.Sound.{IsBuilt}

-- a text's query has names where they belong, and a place of its own for each variable of the prolog
abbrev pub QueriesAreBuilt : Type 0
QueriesAreBuilt = (text : List ℕ) (q : trees.Query) → IsQuery text q → IsBuilt (query_read q)

-- a query that scope accepts has both in its resolved form where it has them as it is read
abbrev pub ResolvingKeepsBuilt : Type 0
ResolvingKeepsBuilt = (q : Query read) (r : Query resolved) → Scopes q (accepted r) → IsBuilt q → IsBuilt r

-- the resolved form of a text's query has both
abbrev pub ReadIsBuilt : Type 0
ReadIsBuilt = (text : List ℕ) (q : trees.Query) (r : Query resolved) → IsQuery text q → Scopes (query_read q) (accepted r) → IsBuilt r
