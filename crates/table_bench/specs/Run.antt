-- What a run prints (own rule).
use Rattle.std.specs.Prelude.{ℕ, ◌≡◌, List, [], ◌∷◌, ◌++◌, length, Option, codes, decimal}
use Rattle.std.specs.Io.KnownBytes.{Appends}
use Rattle.doc_table.specs.Stores.{empty_holdings}
use Rattle.table_ops.specs.Demands.{op_rows}
use Rattle.table_bench.specs.declared.kernels.Kernel.{Kernel}
use Rattle.table_bench.specs.Input.{IsWhole}
use Rattle.table_bench.specs.Kernels.{name_of, op_of, AreChosen}
use Rattle.table_bench.specs.Tables.{left_cols, second_cols, table_with}

-- the number of rows of an operator over tables of so many rows
abbrev pub many_of : Kernel → ℕ → ℕ
many_of kernel n = length (op_rows ([] ∷ []) empty_holdings (op_of kernel) (table_with left_cols n) (table_with (second_cols kernel) n))

-- the name, the number of rows of the tables, and that of the operator
abbrev pub line_with : Kernel → ℕ → ℕ → List ℕ
line_with kernel n many = name_of kernel ++ codes " input " ++ decimal n ++ codes " rows " ++ decimal many ++ codes "\n"

-- the lines of operators
abbrev pub lines_of : ℕ → List Kernel → List ℕ
lines_of n [] = []
lines_of n (kernel ∷ kernels) = line_with kernel n (many_of kernel n) ++ lines_of n kernels

-- the lines of the operators that the words name, over tables with as many rows as there were bytes
pub record Runs (known : Option (List ℕ)) (words : List (List ℕ)) (old new : Option (List ℕ)) : Type 0 where
  pub bytes : List ℕ
  pub whole : IsWhole known bytes
  pub kernels : List Kernel
  pub chosen : AreChosen words kernels
  pub appended : Appends old new (lines_of (length bytes) kernels)
