-- The columns of each operator that the root, the checks and the operators behind it need (own rule).
use Rattle.std.specs.Prelude.{ℕ, suc, Bool, true, false, cond, ◌&&◌, ◌||◌, List, [], ◌∷◌, ◌++◌, map, Option, Some, None, nat_eq}
use Rattle.std.specs.List.{filter, list_any}
use Rattle.plan_dag.specs.declared.cols.Col.{Col}
use Rattle.plan_dag.specs.declared.op.OpId.{OpId}
use Rattle.plan_dag.specs.declared.op.Op.{Op}
use Rattle.plan_dag.specs.declared.op.Op.TheVariants as o
use Rattle.plan_dag.specs.declared.check.Check.{Check}
use Rattle.plan_dag.specs.Schema.{has_col, cols_at, named_first, named_second, first_input, second_input, input_cols, schemas}
use Rattle.plan_dag.specs.Meaning.{Graph}

-- whether an operator's rows have the cells of its first input, and of its second
abbrev pub keeps_first : Op → Bool
keeps_first (o.Attach i c v) = true
keeps_first (o.Select i c) = true
keeps_first (o.Join i j a b) = true
keeps_first (o.Union i j) = true
keeps_first (o.Difference i j a b) = true
keeps_first (o.Distinct i cs) = true
keeps_first (o.Rownum i c ks part) = true
keeps_first (o.Map i fun as' c) = true
keeps_first (o.MapFails i fun code as') = true
keeps_first (o.Range i a b c) = true
keeps_first _ = false

abbrev pub keeps_second : Op → Bool
keeps_second (o.Join i j a b) = true
keeps_second (o.Union i j) = true
keeps_second _ = false

-- the columns that an operator reads of its first input, where these of its own are needed: those that
-- it names, of a project only for needed new columns, and those that it passes on
abbrev pub reads_first : Op → List Col → List Col
reads_first (o.Project i ps) needed = map (λ p. p.old) (filter (λ p. has_col needed p.new) ps)
reads_first op needed = named_first op ++ cond (keeps_first op) needed []

abbrev pub reads_second : Op → List Col → List Col
reads_second op needed = named_second op ++ cond (keeps_second op) needed []

-- whether an input is the operator of this number
abbrev pub is_input : ℕ → Option OpId → Bool
is_input k None = false
is_input k (Some i) = nat_eq i.0 k

-- whether an operator, of whose columns these are needed, reads this column of the operator of this
-- number
abbrev pub reads : ℕ → Col → Op × List Col → Bool
reads k c r = (is_input k (first_input r.0) && has_col (reads_first r.0 r.1) c) || (is_input k (second_input r.0) && has_col (reads_second r.0 r.1) c)

abbrev pub first_col : List Col → List Col
first_col [] = []
first_col (c ∷ cs) = c ∷ []

-- the first column, where no column is needed
abbrev pub or_first : List Col → List Col → List Col
or_first cs [] = first_col cs
or_first cs (d ∷ ds) = d ∷ ds

-- what the root and the checks need: the root's columns, and each check's first
abbrev pub is_answered : Graph → List Col → ℕ → Col → Bool
is_answered g cs k c = is_input k g.root || (list_any (λ (ch : Check). nat_eq ch.op.0 k) g.checks && has_col (first_col cs) c)

-- the operators from this number on, each with the columns of it that are needed, in their order
abbrev pub needed_from : Graph → ℕ → List Op → List (Op × List Col)
needed_from g k [] = []
needed_from g k (op ∷ ops) =
    let cs : List Col = cols_at (schemas g.ops) (record { 0 = k }) in
    let rest : List (Op × List Col) = needed_from g (suc k) ops in
    (op, or_first cs (filter (λ c. is_answered g cs k c || list_any (reads k c) rest) cs)) ∷ rest

-- the needed columns of each operator of a plan
abbrev pub needed : Graph → List (List Col)
needed g = map (λ r. r.1) (needed_from g 0 g.ops)
