-- What a bind that the code made stands for.
use Rattle.core_meaning.specs.Erasure.{Texts, core_of}
use Rattle.core_normal.specs.declared.binds.Turned.{Turned}
use Rattle.core_normal.specs.Held.{type_in}
use Rattle.core_normal.specs.Rows.{Turn}

abbrev pub turn_of : Texts → Turned → Turn
turn_of t b = record { pos = b.pos; y = b.y; x = b.x; ty = type_in t b.ty; place = b.place; seq = core_of t b.seq }
