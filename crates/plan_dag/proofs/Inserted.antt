-- An operator that isn't there goes last.
use Rattle.std.proofs.Common.{◌≡◌, ◌++◌, ◌∷◌, [], zero, suc, Bool, true, false, List, Some, refl, sym, ap, if◌then◌else◌}
use Rattle.indexmap.specs.IndexMap.{insert_entry}
use Rattle.plan_dag.specs.declared.cols.Col.{Col}
use Rattle.plan_dag.specs.declared.op.Op.{Op}
use Rattle.plan_dag.specs.Graphs.{ops_in, Lacks}
use Rattle.plan_dag.proofs.Equal.{op_eq, op_same}

pub inserted_last : (es : List (Op × List Col)) (op : Op) (cs : List Col) → Lacks (ops_in es) op → insert_entry op_eq es op cs ≡ es ++ (op, cs) ∷ []
inserted_last [] op cs n = refl
inserted_last (e ∷ es) op cs n = by (op_eq op e.0) refl (inserted_last es op cs (λ i at. n (suc i) at))
  where
    by : (b : Bool) → op_eq op e.0 ≡ b → insert_entry op_eq es op cs ≡ es ++ (op, cs) ∷ []
        → (if b then (e.0, cs) ∷ es else e ∷ insert_entry op_eq es op cs) ≡ e ∷ (es ++ (op, cs) ∷ [])
    by true t r = absurd (n zero (ap Some (sym (op_same op e.0 t))))
    by false t r = ap (λ z. e ∷ z) r
