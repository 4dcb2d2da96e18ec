-- Binds that are made one after the other, and what they are round (Formal Semantics, section 4.8).
use Rattle.std.specs.Prelude.{ℕ, Option, Some, None}
use Rattle.core_meaning.specs.Types.{SequenceTest}
use Rattle.core_meaning.specs.PlainCore.{PlainCore, PlainBind}
use Rattle.core_meaning.specs.PlainCore as c
use Rattle.core_scope.specs.Syn.{Syn, resolved, place_of}
use Rattle.core_normal.specs.Fresh.{Made, Makes, give, fresh, ◌▷=◌}
use Rattle.core_normal.specs.Around.{Around, known}
use Rattle.core_normal.specs.Pieces.{Inlined, Tail, led_by, tested, tested_bind}
use Rattle.core_normal.specs.Normal.{bound, norm, with_place}

-- a bind that was made: the variable of the places of a loop, the variable that takes the value, the tested one, the type, its
-- place, the value
pub record Turn : Type 0 where
  pub pos : Option ℕ
  pub y : ℕ
  pub x : ℕ
  pub ty : Option SequenceTest
  pub place : ℕ
  pub seq : PlainCore

abbrev pub headed : ℕ → Option ℕ → ℕ → PlainCore → PlainCore → PlainCore
headed o None y a e = c.Let o y a e
headed o (Some p) y a e = c.For o y p a e

-- round what follows, and among the binds of a sorted loop
abbrev pub turn : ℕ → Turn → PlainCore → PlainCore
turn o t e = headed o t.pos t.y t.seq (tested t.place t.ty t.y t.x e)

abbrev pub bind_of : Option ℕ → ℕ → PlainCore → PlainBind
bind_of None y a = c.let_bind y a
bind_of (Some p) y a = c.for_bind y p a

abbrev pub bind_turn : Turn → c.Binds → c.Binds
bind_turn t bs = c.one_bind (bind_of t.pos t.y t.seq) (tested_bind t.place t.ty t.y t.x bs)

-- a bind round what was made
abbrev pub wrapped : ℕ → Turn → Made PlainCore → Made PlainCore
wrapped o t m = record { made = turn o t m.made; next = m.next }

abbrev pub led : Turn → Made Tail → Made Tail
led t m = record { made = led_by (bind_turn t) m.made; next = m.next }

-- a bind over its value
abbrev pub for_turn : ℕ → Option SequenceTest → ℕ → PlainCore → Makes Turn
for_turn base ty place a =
    fresh base ▷= λ y. fresh base ▷= λ p. bound base ty y ▷= λ x. give (record { pos = Some p; y = y; x = x; ty = ty; place = place; seq = a })

abbrev pub let_turn : ℕ → Option SequenceTest → ℕ → PlainCore → Makes Turn
let_turn base ty place a = fresh base ▷= λ y. bound base ty y ▷= λ x. give (record { pos = None; y = y; x = x; ty = ty; place = place; seq = a })

abbrev pub at_place : Option (ℕ × ℕ) → Option ℕ → Around → Around
at_place at None r = r
at_place at (Some p) r = with_place at p r

-- what stands round what follows a bind
abbrev pub behind_for : ℕ → Option (ℕ × ℕ) → Turn → Around → Around
behind_for v at t r = known v t.x (at_place at t.pos r)

abbrev pub behind_let : ℕ → Turn → Around → Around
behind_let v t r = known v t.x r

module _ (base : ℕ) (bodies : ℕ → Makes Inlined) where
  abbrev pub made_for : Option SequenceTest → Syn resolved → Around → Makes Turn
  made_for ty e r = norm base bodies e r ▷= λ a. for_turn base ty (place_of e) a

  abbrev pub made_let : Option SequenceTest → Syn resolved → Around → Makes Turn
  made_let ty e r = norm base bodies e r ▷= λ a. let_turn base ty (place_of e) a
