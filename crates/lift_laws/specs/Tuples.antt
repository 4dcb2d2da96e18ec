-- The tuples of a sorted loop in all iterations at once (own rule): a tuple is an iteration of the innermost loop that the binds
-- make, and a table has its number for it.
use Rattle.std.specs.Prelude.{◌≡◌, ℕ, ◌+◌, ◌≤◌, true, cond, List, [], ◌∷◌, length, map, nat_eq}
use Rattle.std.specs.List.{filter}
use Rattle.xq_base.specs.Texts.{Text}
use Rattle.doc_table.specs.Items.{Item}
use Rattle.doc_table.specs.Values.{Items}
use Rattle.doc_table.specs.NodeRules.{Docs}
use Rattle.plan_dag.specs.declared.op.OpId.{OpId}
use Rattle.plan_dag.specs.ItemRules.{Cell}
use Rattle.core_meaning.specs.Expr.{Expr, Exprs, Spine, Sorted, Leaf, ForBind, LetBind, WhereBind}
use Rattle.core_meaning.specs.Work.{is_member, free_in}
use Rattle.core_meaning.specs.Lawful.{nodes_in}
use Rattle.lift_laws.specs.Sums.{AllOf, Ascends}
use Rattle.lift_laws.specs.Iterations.{Iter, num, value_rows, loop_rows, turn, joined, bodies}
use Rattle.lift_laws.specs.Bulk.{value, chosen, with_value, iter_of, bound, inside, faults_in, cost_in, walks_in, sites_in}
use Rattle.lift_laws.specs.Worlds.{World, Faithful, NumbersIn}
use Rattle.lift_laws.specs.States.{State, Holds, HoldAll, StandsFor, three, single}
use Rattle.lift_laws.specs.Lifting.{Tells, Walked, Chunk, SitedIn, NoteStands, part_cells}

-- the keys and the body of the tuples
abbrev pub keys_in : Spine → Exprs
keys_in (Leaf ks e) = ks
keys_in (ForBind x p s sp) = keys_in sp
keys_in (LetBind x b sp) = keys_in sp
keys_in (WhereBind c sp) = keys_in sp

abbrev pub body_in : Spine → Expr
body_in (Leaf ks e) = e
body_in (ForBind x p s sp) = body_in sp
body_in (LetBind x b sp) = body_in sp
body_in (WhereBind c sp) = body_in sp

-- what follows a bind, as an expression with the same free variables
abbrev pub as_expr : Spine → Expr
as_expr sp = Sorted (record { number = 0; offset = 0 }) [] sp

-- the number of a turn, by that of its iteration and by its place: behind the turns of the iterations before
abbrev pub turn_number : (Iter → Items) → List Iter → ℕ → ℕ → ℕ
turn_number f [] n k = k
turn_number f (i ∷ its) n k = cond (nat_eq i.number n) k (length (f i) + turn_number f its n k)

-- the numbers of iterations
abbrev pub numbers : List Iter → List Cell
numbers ls = map (λ (l : Iter). num l.number) ls

module _ (docs : Docs) where
  -- the iterations of the innermost loop
  abbrev pub tuples_all : Spine → List Iter → List Iter
  tuples_all (Leaf ks e) its = its
  tuples_all (ForBind x p s sp) its = tuples_all sp (inside docs x p s its)
  tuples_all (LetBind x b sp) its = tuples_all sp (bound docs x b its)
  tuples_all (WhereBind c sp) its = tuples_all sp (filter (chosen docs c) its)

  -- the iteration of a loop's body for an item of one of these iterations
  abbrev pub body_iter : ℕ → ℕ → Expr → List Iter → Iter → ℕ → Item Text → Iter
  body_iter x p s its i k v = iter_of x p (turn (turn_number (value docs s) its i.number k) i k v)

  -- those that one of these iterations makes, in order
  abbrev pub tuples_at : Spine → List Iter → Iter → List Iter
  tuples_at (Leaf ks e) its i = i ∷ []
  tuples_at (ForBind x p s sp) its i = joined (bodies (λ j k v. tuples_at sp (inside docs x p s its) (body_iter x p s its j k v)) i 1 (value docs s i))
  tuples_at (LetBind x b sp) its i = tuples_at sp (bound docs x b its) (with_value x i (value docs b i))
  tuples_at (WhereBind c sp) its i = cond (chosen docs c i) (tuples_at sp (filter (chosen docs c) its) i) []

  abbrev pub tuple_cells : Spine → List Iter → Iter → List Cell
  tuple_cells sp its i = numbers (tuples_at sp its i)

  -- binds are entered in these iterations
  pub record EntersIn (W : World) (N : ℕ) (s : State) (sp : Spine) (looped : OpId) (vars : ℕ → OpId) (its : List Iter) : Type 0 where
    pub faithful : Faithful W
    pub numbered : NumbersIn docs W sp its
    pub enough : cost_in docs sp its ≤ N
    pub ascends : Ascends (λ i. i.number) 0 its
    pub loop : Holds s looped single (loop_rows its)
    pub scope : (y : ℕ) → is_member y (free_in sp) ≡ true → StandsFor docs W s (vars y) (λ i. i.env y) its

  -- the innermost loop; each iteration's tuples at their positions, by their numbers; and the keys and the body in all tuples
  pub record TuplesStand (W : World) (s : State) (sp : Spine) (its : List Iter) (inner tuples : OpId) (keys : List OpId) (body : OpId) : Type 0 where
    pub loop : Holds s inner single (loop_rows (tuples_all sp its))
    pub there : Holds s tuples three (value_rows (tuple_cells sp its) its)
    pub by_keys : HoldAll s keys (part_cells docs W (keys_in sp)) (tuples_all sp its)
    pub with_body : StandsFor docs W s body (value docs (body_in sp)) (tuples_all sp its)

  -- the checks are of the binds', the keys' and the body's nodes; for all lists of iterations at once they tell the failures of
  -- these and the demands, and where nothing fails the tables stand for the tuples, and the notes stand
  pub record LiftsIn (s s' : State) (n : ℕ) (sp : Spine) (looped : OpId) (vars : ℕ → OpId) (inner tuples : OpId) (keys : List OpId) (body : OpId) : Type 0 where
    pub chunk : Chunk s s' n (n + nodes_in sp)
    pub sited : AllOf (SitedIn (sites_in sp)) chunk.groups
    pub walked : Walked s s' chunk.notes (walks_in sp)
    pub told : (W : World) (N : ℕ) (its : List Iter) → EntersIn W N s sp looped vars its
        → Tells N s' (length s.tables) (length s'.tables) chunk.groups (faults_in docs sp its)
        × (faults_in docs sp its ≡ [] → TuplesStand W s' sp its inner tuples keys body × AllOf (NoteStands docs W s') chunk.notes)
