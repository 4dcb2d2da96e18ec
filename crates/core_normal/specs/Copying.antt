-- Copies of Cores with their new variables moved.
use Rattle.std.specs.Prelude.{ℕ, ◌≡◌, Option, option_map, Result, IfOk}
use Rattle.std.specs.declared.alloc.Global.{Global}
use denote.Ref.{Bor}
use Rattle.xq_base.specs.declared.item.Want.{Want}
use Rattle.core_meaning.specs.declared.node.Core.{Core}
use Rattle.core_meaning.specs.Erasure.{Texts, core_of, name_of}
use Rattle.core_meaning.specs.PlainCore.{PlainCore, PlainCores, PlainBind, PlainKey}
use Rattle.core_meaning.specs.PlainCore as c
use Rattle.core_normal.specs.declared.copies.Moving.{Moving}
use Rattle.core_normal.specs.Shift as shift

-- a bind with its variables moved by d, if they stand from `base` on
abbrev pub bind_moved : ℕ → ℕ → PlainBind → PlainBind
bind_moved base d (c.for_bind x p a) = c.for_bind (shift.moved base d x) (shift.moved base d p) (shift.core base d a)
bind_moved base d (c.let_bind x a) = c.let_bind (shift.moved base d x) (shift.core base d a)
bind_moved base d (c.where_bind a) = c.where_bind (shift.core base d a)

-- the same of a key
abbrev pub key_moved : ℕ → ℕ → PlainKey → PlainKey
key_moved base d (c.key_by a g e) = c.key_by (shift.core base d a) g e

-- the name of a constructor, where there is one
abbrev pub name_in : Texts → Option Core → PlainCores
name_in t n = name_of (option_map (core_of t) n)

-- a copy of a Core with its variables moved, whatever texts the text numbers stand for
abbrev pub Moves : Moving → (Texts → PlainCore) → Result Core Want → Type 0
Moves m x result = IfOk result (λ r. (t : Texts) → core_of t r ≡ shift.core m.base m.by (x t))

abbrev pub IsMoved : Moving → Core → Result Core Want → Type 0
IsMoved m core result = Moves m (λ t. core_of t core) result

-- a function value that copies Cores of so many levels
pub record Copies (levels : ℕ) (pre : Global → Bor Core → Moving → ℕ → Type 0) (post : Global → Bor Core → Moving → ℕ → Result Core Want → Type 0) : Type 0 where
  pub callable : (alloc : Global) (x : Bor Core) (m : Moving) → pre alloc x m levels
  pub copies : (alloc : Global) (x : Bor Core) (m : Moving) (r : Result Core Want) → post alloc x m levels r → IsMoved m x.now r
