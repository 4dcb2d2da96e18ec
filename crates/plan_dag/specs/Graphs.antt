-- Plans as values, and what their calls leave (own rule).
use Rattle.std.specs.Prelude.{ℕ, ◌≡◌, ◌<◌, ◌⊎◌, Bool, true, false, ◌&&◌, List, [], ◌∷◌, ◌++◌, length, map, Option, Some, None, slice_get, nat_eq}
use Rattle.std.specs.List.{list_any}
use Rattle.plan_dag.specs.declared.cols.Col.{Col}
use Rattle.plan_dag.specs.declared.op.OpId.{OpId}
use Rattle.plan_dag.specs.declared.op.Op.{Op}
use Rattle.plan_dag.specs.declared.check.Check.{Check}
use Rattle.plan_dag.specs.Meaning.{Graph}
use Rattle.plan_dag.specs.Schema.{schemas, fits, columns, cols_at, is_valid, site_of}

abbrev pub empty_graph : Graph
empty_graph = record { ops = []; checks = []; root = None }

-- the operators that are kept, each with its columns
abbrev pub ops_in : List (Op × List Col) → List Op
ops_in ks = map (λ k. k.0) ks

abbrev pub cols_in : List (Op × List Col) → List (List Col)
cols_in ks = map (λ k. k.1) ks

-- the sites of operators, in their order
abbrev pub site_list : Option ℕ → List ℕ
site_list None = []
site_list (Some s) = s ∷ []

abbrev pub sites_in : List Op → List ℕ
sites_in [] = []
sites_in (op ∷ ops) = site_list (site_of op) ++ sites_in ops

-- a site that isn't there, where there is one
abbrev pub IsNewSite : List ℕ → Option ℕ → Type 0
IsNewSite sites None = Unit {0}
IsNewSite sites (Some s) = list_any (nat_eq s) sites ≡ false

-- a valid plan, kept with the columns and the sites of its operators
pub record KeepsPlan (ks : List (Op × List Col)) (sites : List ℕ) : Type 0 where
  pub valid : is_valid (ops_in ks) ≡ true
  pub cols_are : cols_in ks ≡ schemas (ops_in ks)
  pub sites_are : sites ≡ sites_in (ops_in ks)

abbrev pub in_graph : Graph → OpId → Type 0
in_graph g i = i.0 < length g.ops

-- no operator is this one
abbrev pub Lacks : List Op → Op → Type 0
Lacks ops op = (i : ℕ) → slice_get ops i ≡ Some op → ⊥

abbrev pub with_op : Op → Graph → Graph
with_op op g = record { ops = g.ops ++ op ∷ []; checks = g.checks; root = g.root }

-- the graph after an operator was handed in: as it was, where the plan has the operator, which then is
-- neither a step nor a constructor; else with the operator at its end. The number is that of the operator
abbrev pub Adds : Graph → Op → OpId → Graph → Type 0
Adds before op id after =
    (slice_get after.ops id.0 ≡ Some op)
    × (((after ≡ before) × (site_of op ≡ None)) ⊎ (Lacks before.ops op × (id.0 ≡ length before.ops) × (after ≡ with_op op before)))

abbrev pub with_check : Check → Graph → Graph
with_check c g = record { ops = g.ops; checks = g.checks ++ c ∷ []; root = g.root }

abbrev pub with_root : OpId → Graph → Graph
with_root i g = record { ops = g.ops; checks = g.checks; root = Some i }

-- exactly the columns c0, c1 and c2, in this order
abbrev pub HasRootColumns : Graph → OpId → Type 0
HasRootColumns g i = cols_at (schemas g.ops) i ≡ record { 0 = 0 } ∷ record { 0 = 1 } ∷ record { 0 = 2 } ∷ []

-- the columns of an operator that fits, or that it doesn't
abbrev pub FitsBehind : List Op → Op → Option (List Col) → Type 0
FitsBehind ops op None = fits ops op ≡ false
FitsBehind ops op (Some cs) = (fits ops op ≡ true) × (cs ≡ columns (schemas ops) op)

-- the number of an operator, or that it isn't there
abbrev pub FindsOp : List Op → Op → Option ℕ → Type 0
FindsOp ops op None = Lacks ops op
FindsOp ops op (Some at) = slice_get ops at ≡ Some op
