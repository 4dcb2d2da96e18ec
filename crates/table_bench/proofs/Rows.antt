-- The rows of numbers.
use Rattle.std.proofs.Common.{◌≡◌, ◌<◌, ◌^◌, ℕ, zero, suc, ◌+◌, ◌++◌, ◌∷◌, [], List, length, map, true, refl, ap, sym, ◌∙◌, subst, arith}
use Rattle.xq_base.specs.declared.item.Item.{Item}
use Rattle.xq_base.specs.Texts.{Text}
use Rattle.doc_table.specs.Stores.{Holdings}
use Rattle.plan_dag.specs.declared.cols.Col.{Col}
use Rattle.plan_dag.specs.Meaning.{Table}
use Rattle.plan_dag.specs.Schema.{fits_over}
use Rattle.table_ops.specs.Standing.{RowsGiven}
use Rattle.table_bench.specs.declared.kernels.Kernel.{Kernel}
use Rattle.table_bench.specs.declared.kernels.Kernel.TheVariants as k
use Rattle.table_bench.specs.Kernels.{op_of}
use Rattle.table_bench.specs.Tables.{row_of, rows_below, table_with, left_cols, second_cols}

pub one_more_row : (n : ℕ) → rows_below (n + 1) ≡ rows_below n ++ row_of n ∷ []
one_more_row n = let e : n + 1 ≡ suc n = omega arith in ap rows_below e

pub rows_many : (n : ℕ) → length (rows_below n) ≡ n
rows_many zero = refl
rows_many (suc n) = long (rows_below n) (row_of n) ∙ ap suc (rows_many n)
  where
    long : {X : Type 0} (xs : List X) (x : X) → length (xs ++ x ∷ []) ≡ suc (length xs)
    long [] x = refl
    long (y ∷ xs) x = ap suc (long xs x)

pub rows_few : (cols : List Col) (n : ℕ) (t : Table Item) → t ≡ table_with cols n → n < 2 ^ 32 → length t.rows < 2 ^ 32
rows_few cols n t e l = subst (λ k. k < 2 ^ 32) (sym (ap (λ (z : Table Item). length z.rows) e ∙ rows_many n)) l

pub long_map : {X Y : Type 0} (f : X → Y) (xs : List X) → length (map f xs) ≡ length xs
long_map f [] = refl
long_map f (x ∷ xs) = ap suc (long_map f xs)

pub rows_given : (texts : List Text) (h : Holdings) (n : ℕ) → RowsGiven texts h (rows_below n)
rows_given texts h zero = tt
rows_given texts h (suc n) = more (rows_below n) (rows_given texts h n)
  where
    more : (rows : List (List Item)) → RowsGiven texts h rows → RowsGiven texts h (rows ++ row_of n ∷ [])
    more [] g = ((tt, (tt, (tt, tt))), tt)
    more (r ∷ rows) g = (g.0, more rows g.1)

pub kernel_fits : (kernel : Kernel) → fits_over (op_of kernel) left_cols (second_cols kernel) ≡ true
kernel_fits k.Project = refl
kernel_fits k.Attach = refl
kernel_fits k.Select = refl
kernel_fits k.Union = refl
kernel_fits k.Count = refl
kernel_fits k.Map = refl
kernel_fits k.Join = refl
kernel_fits k.Difference = refl
kernel_fits k.Distinct = refl
kernel_fits k.Compare = refl
kernel_fits k.Unsorted = refl
kernel_fits k.InOrder = refl
