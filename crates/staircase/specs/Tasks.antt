-- What a node of a context looks for among the rows that were read (own rule).
use Rattle.std.specs.Prelude.{ℕ, ◌≡◌, ◌⊎◌, Bool, true, false, ◌&&◌, if◌then◌else◌, List, [], ◌∷◌, ◌++◌, Option, Some, None, nat_eq, nat_lt, nat_le}
use Rattle.staircase.specs.declared.hits.Hit.{Hit}
use Rattle.staircase.specs.declared.seen.Seen.{Seen}
use Rattle.staircase.specs.declared.task.Task.{Task}
use Rattle.staircase.specs.Parts.{In}

abbrev pub ends_before : Option ℕ → Seen → Bool
ends_before None s = true
ends_before (Some limit) s = nat_lt s.last limit

abbrev pub keeps : Task → Seen → Bool
keeps task s = ends_before task.limit s

-- the row is among those that the task looks for
abbrev pub in_task : Task → Seen → Bool
in_task task s = (nat_le task.first s.pre && nat_lt s.pre task.end) && keeps task s

abbrev pub limit_covers : Option ℕ → Option ℕ → Bool
limit_covers None other = true
limit_covers (Some limit) None = false
limit_covers (Some limit) (Some other) = nat_le other limit

-- the first task looks for all rows that the second one looks for, in the same iteration
abbrev pub covers : Task → Task → Bool
covers task other = nat_eq task.iter other.iter && (nat_le task.first other.first && (nat_le other.end task.end && limit_covers task.limit other.limit))

-- the rows that come in question: nodes where they are counted, else those that pass the node test
abbrev pub lets : Bool → Seen → Bool
lets counting s = if counting then s.node else s.passes

abbrev pub hit_in : ℕ → Seen → Hit
hit_in iter s = record { pre = s.pre; attr = 0; iter = iter }

-- a hit of this task
abbrev pub Finds : List Seen → Bool → Task → Hit → Type 0
Finds seen counting task h = (s : Seen) × In s seen × (lets counting s ≡ true) × (in_task task s ≡ true) × (h ≡ hit_in task.iter s)

-- exactly the hits that are found come to those that there are
pub record Gains (finds : Hit → Type 0) (old new : List Hit) : Type 0 where
  pub kept : (h : Hit) → In h old → In h new
  pub sound : (h : Hit) → In h new → In h old ⊎ finds h
  pub complete : (h : Hit) → finds h → In h new

-- an element of a list finds the hit
abbrev pub AnyOf : {X : Type 0} → (X → Hit → Type 0) → List X → Hit → Type 0
AnyOf {X} finds xs h = (x : X) × In x xs × finds x h

-- the hits of this task come to those that there are
abbrev pub Adds : List Seen → Bool → Task → List Hit → List Hit → Type 0
Adds seen counting task old new = Gains (Finds seen counting task) old new

-- the hits of a task among some rows, in their order
abbrev pub found : Bool → Task → List Seen → List Hit
found counting task [] = []
found counting task (s ∷ ss) = (if lets counting s && keeps task s then hit_in task.iter s ∷ [] else []) ++ found counting task ss

-- the hits of these tasks come to those that there are
abbrev pub AddsAll : List Seen → Bool → List Task → List Hit → List Hit → Type 0
AddsAll seen counting tasks old new = Gains (AnyOf (Finds seen counting) tasks) old new

-- all that a task finds is there, where there is a task
abbrev pub AllOf : List Seen → Bool → Option Task → List Hit → Type 0
AllOf seen counting None hits = Unit {0}
AllOf seen counting (Some task) hits = (h : Hit) → Finds seen counting task h → In h hits

-- one task more, after one that may cover it
pub record Goes (seen : List Seen) (counting : Bool) (before after : Option Task) (task : Task) (old new : List Hit) : Type 0 where
  pub adds : Adds seen counting task old new
  pub all : AllOf seen counting after new
