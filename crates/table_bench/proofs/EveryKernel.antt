-- A word that no operator has as its name is the name of none.
use Rattle.std.proofs.Common.{◌≡◌, ℕ, List}
use Rattle.table_bench.specs.declared.kernels.Kernel.{Kernel}
use Rattle.table_bench.specs.declared.kernels.Kernel.TheVariants as k
use Rattle.table_bench.specs.Kernels.{name_of, kernels, AreOthers}

pub no_kernel : (word : List ℕ) (kernel : Kernel) → AreOthers kernels word → name_of kernel ≡ word → ⊥
no_kernel word k.Project o = o.0
no_kernel word k.Attach o = o.1.0
no_kernel word k.Select o = o.1.1.0
no_kernel word k.Union o = o.1.1.1.0
no_kernel word k.Count o = o.1.1.1.1.0
no_kernel word k.Map o = o.1.1.1.1.1.0
no_kernel word k.Join o = o.1.1.1.1.1.1.0
no_kernel word k.Difference o = o.1.1.1.1.1.1.1.0
no_kernel word k.Distinct o = o.1.1.1.1.1.1.1.1.0
no_kernel word k.Compare o = o.1.1.1.1.1.1.1.1.1.0
no_kernel word k.Unsorted o = o.1.1.1.1.1.1.1.1.1.1.0
no_kernel word k.InOrder o = o.1.1.1.1.1.1.1.1.1.1.1.0
