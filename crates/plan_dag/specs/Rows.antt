-- The rows of each operator, over the rules of cells (own rule). A row is read at a column by a
-- function that is handed in; `Meaning` says which.
use Rattle.std.specs.Prelude.{ℕ, ◌+◌, ◌-ℤ◌, ◌+ℤ◌, ℤ, pos, negsuc, Bool, true, false, cond, not, ◌&&◌, ◌||◌, List, [], ◌∷◌, ◌++◌, length, map, Option, Some, None, suc, zero}
use Rattle.std.specs.List.{filter, flat_map, list_any}
use denote.Enum.Bare.{sameb}
use Rattle.xq_base.specs.declared.code.Code.{Code}
use Rattle.xq_base.specs.contracts.code.Code.{the_type}
use Rattle.xq_base.specs.declared.fun.CompOp.{CompOp}
use Rattle.xq_base.specs.declared.fun.Fun.{Fun}
use Rattle.xq_base.specs.declared.axis.Axis.{Axis}
use Rattle.xq_base.specs.declared.axis.NodeTest.{NodeTest}
use Rattle.plan_dag.specs.declared.op.Agg.{Agg}
use Rattle.plan_dag.specs.declared.op.Place.{Place}
use Rattle.plan_dag.specs.Cells.{Outcome, Gives, Fails, Silent, Rules, given, code_in}
use Rattle.plan_dag.specs.Orders.{has, in_order, once, firsts}
use Rattle.doc_table.specs.Tree.{NodeKind}

-- two codes are the same
abbrev pub code_eq : Code → Code → Bool
code_eq c d = sameb the_type c d

abbrev pub is_code : Code → Option Code → Bool
is_code c None = false
is_code c (Some d) = code_eq c d

-- whole numbers from one on, so many
abbrev pub ints_from : ℤ → ℕ → List ℤ
ints_from z zero = []
ints_from z (suc n) = z ∷ ints_from (z +ℤ pos 1) n

abbrev pub not_negative : ℤ → ℕ
not_negative (pos n) = n
not_negative (negsuc n) = 0

-- from the first to the second, both included
abbrev pub ints_between : Option ℤ → Option ℤ → List ℤ
ints_between None b = []
ints_between (Some a) None = []
ints_between (Some a) (Some b) = ints_from a (not_negative (b -ℤ a +ℤ pos 1))

module _ {C : Type 0} (R : Rules C) where
  abbrev Row : Type 0
  Row = List C

  abbrev pub num : ℕ → C
  num n = R.int (pos n)

  -- pairs with equal cells, by the left row first
  abbrev pub joined : (Row → C) → (Row → C) → List Row → List Row → List Row
  joined f g ls rs = flat_map (λ l. map (λ r. l ++ r) (filter (λ r. R.same (f l) (g r)) rs)) ls

  -- left rows whose cell is in no right row
  abbrev pub left_over : (Row → C) → (Row → C) → List Row → List Row → List Row
  left_over f g ls rs = filter (λ l. not (list_any (λ r. R.same (f l) (g r)) rs)) ls

  abbrev pub all_same : List C → List C → Bool
  all_same [] [] = true
  all_same [] (w ∷ ws) = false
  all_same (v ∷ vs) [] = false
  all_same (v ∷ vs) (w ∷ ws) = R.same v w && all_same vs ws

  -- the first row per cells
  abbrev pub first_rows : (Row → List C) → List Row → List Row
  first_rows f rs = firsts (λ q r. all_same (f q) (f r)) [] rs

  -- the first row per cell, in this order
  abbrev pub group_rows : (Row → C) → List Row → List Row
  group_rows f rs = firsts (λ q r. R.same (f q) (f r)) [] rs

  -- the rows with this cell
  abbrev pub rows_with : (Row → C) → C → List Row → List Row
  rows_with f v rs = filter (λ r. R.same v (f r)) rs

  -- by one key
  abbrev pub key_less : Bool → C → C → Bool
  key_less descending a b = cond descending (R.less b a) (R.less a b)

  -- by the keys, each with whether it descends: the first row stands before the second
  abbrev pub keys_less : List ((Row → C) × Bool) → Row → Row → Bool
  keys_less [] q r = false
  keys_less (k ∷ ks) q r = key_less k.1 (k.0 q) (k.0 r) || (not (key_less k.1 (k.0 r) (k.0 q)) && keys_less ks q r)

  -- neither stands before the other
  abbrev pub ties : (Row → Row → Bool) → Row → Row → Bool
  ties lt q r = not (lt q r) && not (lt r q)

  -- each row, with one more than the number of rows of its part that stand before it: those before it
  -- by the order among all, and those that tie among the done
  abbrev pub numbered : (Row → Row → Bool) → (Row → Row → Bool) → List Row → List Row → List Row → List Row
  numbered part lt all done [] = []
  numbered part lt all done (r ∷ rs) =
      (r ++ num (1 + length (filter (λ q. part q r && lt q r) all) + length (filter (λ q. part q r && ties lt q r) done)) ∷ [])
      ∷ numbered part lt all (done ++ r ∷ []) rs

  abbrev pub rownum_rows : (Row → Row → Bool) → (Row → Row → Bool) → List Row → List Row
  rownum_rows part lt rs = numbered part lt rs [] rs

  abbrev pub count_rows : (Row → C) → List Row → List Row
  count_rows f rs = map (λ r. f r ∷ num (length (rows_with f (f r) rs)) ∷ []) (group_rows f rs)

  -- the value over a group's rows in order
  abbrev pub group_value : Agg → (Row → C) → (Row → C) → List Row → Row → Outcome C
  group_value agg f g rs r = R.whole agg (map g (rows_with f (f r) rs))

  abbrev pub aggregate_rows : Agg → (Row → C) → (Row → C) → List Row → List Row
  aggregate_rows agg f g rs = flat_map (λ r. map (λ v. f r ∷ v ∷ []) (given (group_value agg f g rs r))) (group_rows f rs)

  abbrev pub aggregate_fails_rows : Agg → Code → (Row → C) → (Row → C) → List Row → List Row
  aggregate_fails_rows agg c f g rs = map (λ r. f r ∷ []) (filter (λ r. is_code c (code_in (group_value agg f g rs r))) (group_rows f rs))

  abbrev pub map_rows : Fun → (Row → List C) → List Row → List Row
  map_rows fun f rs = flat_map (λ r. map (λ v. r ++ v ∷ []) (given (R.value fun (f r)))) rs

  abbrev pub map_fails_rows : Fun → Code → (Row → List C) → List Row → List Row
  map_fails_rows fun c f rs = filter (λ r. is_code c (code_in (R.value fun (f r)))) rs

  abbrev pub range_rows : (Row → C) → (Row → C) → List Row → List Row
  range_rows f g rs = flat_map (λ r. map (λ z. r ++ R.int z ∷ []) (ints_between (R.int_in (f r)) (R.int_in (g r)))) rs

  -- the cells of left rows, first occurrences, that have a right row with an equal cell and a pair that
  -- passes
  abbrev pub compared : (Outcome Bool → Bool) → CompOp → (Row → C) → (Row → C) → (Row → C) → (Row → C) → List Row → List Row → List Row
  compared passes op f g h k ls rs =
      map (λ l. f l ∷ []) (group_rows f (filter (λ l. list_any (λ r. R.same (f l) (h r) && passes (R.pair op (g l) (k r))) rs) ls))

  -- a step: ascending by node, then by iteration, each pair once. A row whose iteration is no positive
  -- number finds nothing, and neither does a cell that is no node
  abbrev pub positive_in : Option ℤ → List ℕ
  positive_in (Some (pos (suc n))) = suc n ∷ []
  positive_in _ = []

  abbrev pub step_less : C × C → C × C → Bool
  step_less p q = R.less p.1 q.1 || (R.same p.1 q.1 && R.less p.0 q.0)

  abbrev pub step_same : C × C → C × C → Bool
  step_same p q = R.same p.0 q.0 && R.same p.1 q.1

  abbrev pub steps_from : Axis → NodeTest → C → C → List (C × C)
  steps_from axis test i v = flat_map (λ n. map (λ m. (i, m)) (R.found axis test v)) (positive_in (R.int_in i))

  abbrev pub step_rows : Axis → NodeTest → (Row → C) → (Row → C) → List Row → List Row
  step_rows axis test f g rs = map (λ p. p.0 ∷ p.1 ∷ []) (once step_less step_same (flat_map (λ r. steps_from axis test (f r) (g r)) rs))

  -- content: the cells of the rows with this iteration, by position and then by place
  abbrev pub content_at : (Row → C) → (Row → C) → (Row → C) → C → List Row → List C
  content_at f p g i rs = map g (in_order (λ q r. R.less (p q) (p r)) (rows_with f i rs))

  abbrev pub option_cells : Option C → List C
  option_cells None = []
  option_cells (Some v) = v ∷ []

  -- a constructor takes the first row per positive iteration
  abbrev pub made_rows : NodeKind → ℕ → (Row → C) → (Row → List C) → (C → List C) → List Row → List Row
  made_rows kind site f name content ls =
      flat_map (λ l. flat_map (λ n. map (λ v. f l ∷ v ∷ []) (option_cells (R.made kind site n (name l) (content (f l))))) (positive_in (R.int_in (f l)))) (group_rows f ls)

  abbrev pub content_fails_rows : Place → Code → (Row → C) → (C → List C) → List Row → List Row
  content_fails_rows place c f content rs = map (λ r. f r ∷ []) (filter (λ r. is_code c (R.refused place (content (f r)))) (group_rows f rs))
