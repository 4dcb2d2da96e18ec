-- A search in a graph by marks: what is marked, and which of the marked still have targets to be marked (own rule).
use Rattle.std.specs.Prelude.{◌≡◌, ℕ, zero, suc, ◌+◌, Bool, true, false, cond, List, [], ◌∷◌, ◌++◌, get_or, set, replicate}

-- the targets of each node
abbrev pub Graph : Type 0
Graph = List (List ℕ)

abbrev pub targets : Graph → ℕ → List ℕ
targets g k = get_or g k []

abbrev pub Marked : List Bool → ℕ → Type 0
Marked ms k = get_or ms k false ≡ true

-- a node has a target more, if it is there
abbrev pub added : ℕ → ℕ → Graph → Graph
added k f r = set r k (get_or r k [] ++ f ∷ [])

-- some nodes have a target more
abbrev pub add_to : ℕ → List ℕ → Graph → Graph
add_to f [] r = r
add_to f (k ∷ ks) r = add_to f ks (added k f r)

-- each target has those whose target it is, counted on from a number
abbrev pub turned_from : ℕ → Graph → Graph → Graph
turned_from i [] r = r
turned_from i (ks ∷ rest) r = turned_from (i + 1) rest (add_to i ks r)

-- the graph turned round, with so many nodes
abbrev pub turned : ℕ → Graph → Graph
turned n g = turned_from 0 g (replicate n [])

-- a truth value says whether something is so
abbrev pub Decides : Bool → Type 0 → Type 0
Decides true P = P
Decides false P = P → ⊥

pub record Search : Type 0 where
  pub marked : List Bool
  pub todo : List ℕ

-- a node that isn't there counts as marked
abbrev pub mark : ℕ → Search → Search
mark t s = cond (get_or s.marked t true) s (record { marked = set s.marked t true; todo = t ∷ s.todo })

abbrev pub mark_all : List ℕ → Search → Search
mark_all [] s = s
mark_all (t ∷ ts) s = mark_all ts (mark t s)

-- the targets of one marked node
abbrev pub turn_of : Graph → List Bool → List ℕ → Search
turn_of g marked [] = record { marked = marked; todo = [] }
turn_of g marked (f ∷ fs) = mark_all (targets g f) (record { marked = marked; todo = fs })

-- so many turns
unfoldable pub searched : Graph → ℕ → Search → Search
searched g zero s = s
searched g (suc n) s = searched g n (turn_of g s.marked s.todo)
