-- The operators that are run (own rule).
use Rattle.std.specs.Prelude.{ℕ, ◌≡◌, ◌≢◌, List, [], ◌∷◌, false, map, codes, pos, None}
use Rattle.xq_base.specs.declared.fun.CompOp.TheVariants as c
use Rattle.xq_base.specs.declared.fun.Fun.TheVariants as f
use Rattle.xq_base.specs.declared.item.Atom.TheVariants as a
use Rattle.plan_dag.specs.declared.cols.Col.{Col}
use Rattle.plan_dag.specs.declared.op.Op.{Op}
use Rattle.plan_dag.specs.declared.op.Op.TheVariants as o
use Rattle.plan_dag.specs.declared.op.OpId.{OpId}
use Rattle.plan_dag.specs.declared.pairs.Pair.{Pair}
use Rattle.table_bench.specs.declared.kernels.Kernel.{Kernel}
use Rattle.table_bench.specs.declared.kernels.Kernel.TheVariants as k

-- the name of an operator
abbrev pub name_of : Kernel → List ℕ
name_of k.Project = codes "project"
name_of k.Attach = codes "attach"
name_of k.Select = codes "select"
name_of k.Union = codes "union"
name_of k.Count = codes "count"
name_of k.Map = codes "map"
name_of k.Join = codes "join"
name_of k.Difference = codes "difference"
name_of k.Distinct = codes "distinct"
name_of k.Compare = codes "exists_compare"
name_of k.Unsorted = codes "rownum"
name_of k.InOrder = codes "rownum_in_order"

abbrev pub col : ℕ → Col
col n = record { 0 = n }

abbrev pub first : OpId
first = record { 0 = 0 }

abbrev pub second : OpId
second = record { 0 = 1 }

-- the first columns, in another order and under other names
abbrev pub swapped : List Pair
swapped = record { new = col 6; old = col 1 } ∷ record { new = col 7; old = col 0 } ∷ []

-- the columns of numbers
abbrev pub numbers : List Col
numbers = col 0 ∷ col 1 ∷ []

-- numbers in the order of a column
abbrev pub rownum_by : Col → Op
rownum_by c = o.Rownum first (col 6) (record { col = c; descending = false } ∷ []) None

-- the operator as a plan has it
abbrev pub op_of : Kernel → Op
op_of k.Project = o.Project first swapped
op_of k.Attach = o.Attach first (col 6) (a.Int (pos 1))
op_of k.Select = o.Select first (col 2)
op_of k.Union = o.Union first first
op_of k.Count = o.Count first (col 1) (col 6)
op_of k.Map = o.Map first f.Add numbers (col 6)
op_of k.Join = o.Join first second (col 0) (col 3)
op_of k.Difference = o.Difference first second (col 0) (col 3)
op_of k.Distinct = o.Distinct first numbers
op_of k.Compare = o.ExistsCompare first second c.Eq (col 0) (col 1) (col 3) (col 4)
op_of k.Unsorted = rownum_by (col 1)
op_of k.InOrder = rownum_by (col 0)

-- none of these operators has this name
abbrev pub AreOthers : List Kernel → List ℕ → Type 0
AreOthers [] word = Unit {0}
AreOthers (kernel ∷ kernels) word = (name_of kernel ≢ word) × AreOthers kernels word

-- all of them
abbrev pub kernels : List Kernel
kernels = k.Project ∷ k.Attach ∷ k.Select ∷ k.Union ∷ k.Count ∷ k.Map ∷ k.Join ∷ k.Difference ∷ k.Distinct ∷ k.Compare ∷ k.Unsorted ∷ k.InOrder ∷ []

-- the operators that words name: each by its name, in their order, or all, where there is no word
abbrev pub AreChosen : List (List ℕ) → List Kernel → Type 0
AreChosen [] chosen = chosen ≡ kernels
AreChosen (word ∷ words) chosen = map name_of chosen ≡ word ∷ words
