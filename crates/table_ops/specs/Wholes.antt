-- What aggregates make of the cells of a group (own rule).
use Rattle.std.specs.Prelude.{ℕ, Bool, true, false, ◌≡◌, ℤ, List, [], ◌∷◌, ◌++◌, map, Option, Some, None}
use Rattle.std.specs.List.{list_all}
use Rattle.std.specs.declared.vec.Vec.{Vec}
use Rattle.std.specs.declared.alloc.Global.{Global}
use Rattle.xq_base.specs.declared.code.Code.TheVariants as c
use Rattle.xq_base.specs.declared.item.Atom.{Atom as HeldAtom}
use Rattle.xq_base.specs.declared.item.Item.{Item}
use Rattle.xq_base.specs.Answers.{Answer, Value, Fault, then_rule, with_value}
use Rattle.xq_base.specs.Arithmetic.{checked, integer_list}
use Rattle.xq_base.specs.Texts.{Text}
use Rattle.xq_base.specs.Atoms.{Atom, IntAtom}
use Rattle.xq_base.specs.Aggregates.{all_of, total, is_less_atom, best_of}
use Rattle.doc_table.specs.Values.{items_of}
use Rattle.xq_funs.specs.Answering.{atom_in, atom_given}
use Rattle.plan_dag.specs.declared.op.Agg.{Agg}
use Rattle.plan_dag.specs.declared.op.Agg.TheVariants as g
use Rattle.plan_dag.specs.Cells.{Outcome, Silent}
use Rattle.plan_dag.specs.ItemRules.{Cell, outcome_of}
use Rattle.table_ops.specs.Chains.{places_of}
use Rattle.table_ops.specs.Columns.{cell_of}
use Rattle.table_ops.specs.Keys.{item_eq}

abbrev pub atoms_in : List Text → List HeldAtom → List Atom
atoms_in texts as' = map (atom_in texts) as'

abbrev pub atoms_given : ℕ → List HeldAtom → Bool
atoms_given n as' = list_all (atom_given n) as'

-- an atomic value read as an integer where it is untyped, or that its text spells none
abbrev pub read_answer : List Text → Option HeldAtom → Answer Atom
read_answer texts None = Fault c.FORG0001
read_answer texts (Some a) = Value (atom_in texts a)

abbrev pub read_answers : List Text → Option (Vec HeldAtom Global) → Answer (List Atom)
read_answers texts None = Fault c.FORG0001
read_answers texts (Some as') = Value (atoms_in texts as'.items)

-- read values behind those that were read before
abbrev pub read_behind : List Atom → Answer (List Atom) → Answer (List Atom)
read_behind done rest = with_value (λ as'. done ++ as') rest

-- one read value behind those before, or that its text spells no integer
abbrev pub ReadsOn : Answer Atom → List Atom → Bool → List Atom → Type 0
ReadsOn answer before true after = with_value (λ a. before ++ a ∷ []) answer ≡ Value after
ReadsOn answer before false after = answer ≡ Fault c.FORG0001

-- the integer that a read value is
abbrev pub integer_of : Atom → Answer ℤ
integer_of (IntAtom z) = Value z
integer_of _ = Fault c.FORG0006

-- the sum of read values, whatever its size
abbrev pub total_of : List Atom → Answer ℤ
total_of as' = with_value total (all_of integer_of as')

-- the first value stands before the second, among the least or among the greatest
abbrev pub beats : Bool → Atom → Atom → Bool
beats false b a = is_less_atom b a
beats true b a = is_less_atom a b

abbrev pub sum_outcome : List Atom → Outcome Cell
sum_outcome as' = outcome_of (with_value items_of (with_value integer_list (then_rule (total_of as') checked)))

abbrev pub best_outcome : Bool → List Atom → Outcome Cell
best_outcome greatest as' = outcome_of (with_value items_of (best_of (beats greatest) as'))

-- the aggregates that read untyped values as integers
abbrev pub is_of_numbers : Agg → Bool
is_of_numbers g.Sum = true
is_of_numbers g.Min = true
is_of_numbers g.Max = true
is_of_numbers g.Concat = false
is_of_numbers g.Ebv = false

-- what they give of read values
abbrev pub number_outcome : Agg → List Atom → Outcome Cell
number_outcome g.Sum as' = sum_outcome as'
number_outcome g.Min as' = best_outcome false as'
number_outcome g.Max as' = best_outcome true as'
number_outcome g.Concat as' = Silent
number_outcome g.Ebv as' = Silent

-- the values at the places of a cell
abbrev pub members : List Item → List Item → Item → List Item
members cells values c = map (cell_of values) (places_of (item_eq c) 0 cells)
