-- Iterations of the loops round an expression, and the rows that stand for the values of all of them (own rule).
use Rattle.std.specs.Prelude.{ℕ, ◌+◌, pos, List, [], ◌∷◌, ◌++◌, map}
use Rattle.std.specs.List.{flat_map}
use Rattle.xq_base.specs.Texts.{Text}
use Rattle.doc_table.specs.Items.{Item, IntItem}
use Rattle.doc_table.specs.Values.{Items}
use Rattle.plan_dag.specs.ItemRules.{Cell}
use Rattle.core_meaning.specs.Meaning.{Env}

-- a row has a cell for each column
abbrev pub Row : Type 0
Row = List Cell

-- a number as a cell
abbrev pub num : ℕ → Cell
num n = IntItem (pos n)

-- one iteration: its number, its variables, its vector
pub record Iter : Type 0 where
  pub number : ℕ
  pub env : Env
  pub vector : List ℕ

-- the rows of one iteration: its number, the positions from k on, the cells
abbrev pub item_rows : ℕ → ℕ → List Cell → List Row
item_rows n k [] = []
item_rows n k (v ∷ vs) = (num n ∷ num k ∷ v ∷ []) ∷ item_rows n (k + 1) vs

-- the rows of all
abbrev pub value_rows : (Iter → List Cell) → List Iter → List Row
value_rows f its = flat_map (λ i. item_rows i.number 1 (f i)) its

-- one row with the number for each iteration
abbrev pub loop_rows : List Iter → List Row
loop_rows its = map (λ i. num i.number ∷ []) its

-- the same values, with a cell for each item
abbrev pub cells : (Item Text → Cell) → (Iter → Items) → Iter → List Cell
cells c f i = map c (f i)

-- one turn of a loop: its number, the iteration that makes it, its place from 1, its item
pub record Turn : Type 0 where
  pub number : ℕ
  pub outer : Iter
  pub place : ℕ
  pub item : Item Text

abbrev pub turn : ℕ → Iter → ℕ → Item Text → Turn
turn n i k v = record { number = n; outer = i; place = k; item = v }

-- the turns of one iteration, not numbered yet
abbrev pub turns_of : Iter → ℕ → Items → List Turn
turns_of i k [] = []
turns_of i k (v ∷ vs) = turn 0 i k v ∷ turns_of i (k + 1) vs

abbrev pub all_turns : (Iter → Items) → List Iter → List Turn
all_turns f its = flat_map (λ i. turns_of i 1 (f i)) its

-- with numbers from n on
abbrev pub given : ℕ → List Turn → List Turn
given n [] = []
given n (t ∷ ts) = turn n t.outer t.place t.item ∷ given (n + 1) ts

-- the turns that the iterations make, numbered in the lexicographic order of their vectors
abbrev pub turns : (Iter → Items) → List Iter → List Turn
turns f its = given 1 (all_turns f its)

-- lists one after the other
abbrev pub joined : {A : Type 0} → List (List A) → List A
joined [] = []
joined (vs ∷ vss) = vs ++ joined vss

-- one list for each item, from the k-th on
abbrev pub bodies : {A : Type 0} → (Iter → ℕ → Item Text → List A) → Iter → ℕ → Items → List (List A)
bodies h i k [] = []
bodies h i k (v ∷ vs) = h i k v ∷ bodies h i (k + 1) vs
