-- The visible variables while an expression is walked, with what gives back those outside.
use Rattle.std.specs.Prelude.{ℕ, cond, nat_lt, length, map, reverse, List, [], ◌∷◌, Option, Some, None}
use Rattle.xq_base.specs.Texts.{Text}
use Rattle.xq_ast.specs.declared.leaf.Name.{Name}
use Rattle.xq_ast.specs.declared.leaf.Variable.{Variable}
use Rattle.core_scope.specs.declared.names.Visible.{Visible}
use Rattle.core_scope.specs.declared.bindings.Entry.{Entry}
use Rattle.core_scope.specs.declared.bindings.Bindings.{Bindings}
use Rattle.core_scope.specs.Names.{Scope, no_names, with_name}
use Rattle.core_scope.specs.Held.{names_in}

-- the variables of names, and the names that were bound, the latest first, each with what it stood for before
pub record Open : Type 0 where
  pub scope : Scope
  pub outer : List (Text × Option Visible)

abbrev pub outer_of : Entry → Text × Option Visible
outer_of e = (e.name.now, e.before)

-- of the code's bindings
abbrev pub open_in : Bindings → Open
open_in b = record { scope = names_in b.names; outer = map outer_of (reverse b.entered.items) }

abbrev pub none_open : Open
none_open = record { scope = no_names; outer = [] }

abbrev pub entered : Text → Visible → Open → Open
entered x v w = record { scope = with_name x (Some v) w.scope; outer = (x, w.scope x) ∷ w.outer }

abbrev pub local_at : ℕ → Visible
local_at o = record { place = o; number = None }

abbrev pub global_at : ℕ → ℕ → Visible
global_at o j = record { place = o; number = Some j }

-- the latest binding left
abbrev pub left_of : Scope → List (Text × Option Visible) → Open
left_of sc [] = record { scope = sc; outer = [] }
left_of sc (u ∷ us) = record { scope = with_name u.0 u.1 sc; outer = us }

abbrev pub left_one : Open → Open
left_one w = left_of w.scope w.outer

-- the latest bindings left, until no more than these are there
abbrev pub left_from : ℕ → Scope → List (Text × Option Visible) → Open
left_from mark sc [] = record { scope = sc; outer = [] }
left_from mark sc (u ∷ us) = cond (nat_lt mark (length (u ∷ us))) (left_from mark (with_name u.0 u.1 sc) us) (record { scope = sc; outer = u ∷ us })

abbrev pub left_to : ℕ → Open → Open
left_to mark w = left_from mark w.scope w.outer

-- a variable as it is read, and one that may be missing
abbrev pub entered_variable : Variable (Name Text) → Open → Open
entered_variable v w = entered v.name.text (local_at v.offset) w

abbrev pub entered_maybe : Option (Variable (Name Text)) → Open → Open
entered_maybe None w = w
entered_maybe (Some v) w = entered_variable v w
