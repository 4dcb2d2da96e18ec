-- What the code's values stand for while a Core is made.
use Rattle.std.specs.Prelude.{ℕ, ◌≡◌, Option, Some, None}
use Rattle.core_meaning.specs.declared.node.SeqType.{SeqType}
use Rattle.core_meaning.specs.Types.{SequenceTest}
use Rattle.core_meaning.specs.Erasure.{Texts, sequence_test}
use Rattle.core_normal.specs.declared.pieces.Context.{Context}
use Rattle.core_normal.specs.Fresh.{Made}
use Rattle.core_normal.specs.Around.{Focus}

-- a making made this, and so many new variables are made then
abbrev pub Gives : {A : Type 0} → Made A → A → ℕ → Type 0
Gives m x n = m ≡ record { made = x; next = n }

-- a type, where one is written
abbrev pub type_in : Texts → Option SeqType → Option SequenceTest
type_in t None = None
type_in t (Some ty) = Some (sequence_test t ty)

-- the variables of the context, where there is one
abbrev pub focus_of : Option Context → Option Focus
focus_of None = None
focus_of (Some f) = Some (record { item = f.item; place = f.place; last = f.last })
