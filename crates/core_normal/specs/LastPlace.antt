-- The place of an expression by those of its parts (own rule).
use Rattle.std.specs.Prelude.{ℕ, List, [], ◌∷◌}
use Rattle.xq_base.specs.declared.item.TextId.{TextId}
use Rattle.xq_ast.specs.declared.node.Behind.{Behind}
use Rattle.xq_ast.specs.declared.node.Right.{Right}
use Rattle.xq_ast.specs.declared.node.Signed.{Signed}
use Rattle.core_scope.specs.Leaves.{ResolvedTree}

-- a path has that of its last step
abbrev pub last_place : ℕ → List (Behind TextId ResolvedTree) → ℕ
last_place o [] = o
last_place o (b ∷ bs) = last_place b.step.offset bs

-- a level of operators, a signed operand, a primary with its predicates
abbrev pub level_place : ℕ → List (Right ResolvedTree) → ℕ → ℕ
level_place o [] a = a
level_place o (b ∷ bs) a = o

abbrev pub signed_place : List Signed → ℕ → ℕ
signed_place [] a = a
signed_place (x ∷ xs) a = x.offset

abbrev pub filtered_place : ℕ → List ResolvedTree → ℕ → ℕ
filtered_place o [] a = a
filtered_place o (p ∷ ps) a = o
