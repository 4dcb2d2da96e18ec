-- What the serialiser answers (own rule).
use Rattle.std.specs.Prelude.{ℕ, ◌≡◌, Bool, true, false, not, List, Some, None, Result, Ok, Err, nat_eq}
use Rattle.std.specs.declared.vec.Vec.{Vec}
use Rattle.std.specs.declared.alloc.Global.{Global}
use Rattle.xq_base.specs.declared.item.Item.{Item as Held}
use Rattle.xq_base.specs.declared.item.Item.TheVariants as i
use Rattle.xq_serial.specs.declared.fault.SerialFault.{SerialFault}
use Rattle.xq_serial.specs.declared.fault.SerialFault.TheVariants as s
use Rattle.doc_table.specs.Items.{Item}
use Rattle.xq_serial.specs.Ser.{attribute_place, ser}

-- a reference to an attribute
abbrev pub is_attribute_ref : Held → Bool
is_attribute_ref (i.Int n) = false
is_attribute_ref (i.Str id) = false
is_attribute_ref (i.Untyped id) = false
is_attribute_ref (i.Bool b) = false
is_attribute_ref (i.Node r) = not (nat_eq r.attr 0)

abbrev pub is_atom_ref : Held → Bool
is_atom_ref (i.Int n) = true
is_atom_ref (i.Str id) = true
is_atom_ref (i.Untyped id) = true
is_atom_ref (i.Bool b) = true
is_atom_ref (i.Node r) = false

-- the bytes where no attribute stands among the items, and else its place
abbrev pub Answers : List (Item (List ℕ)) → Result (Vec ℕ Global) SerialFault → Type 0
Answers items (Ok bytes) = (attribute_place items ≡ None) × (bytes.items ≡ ser items)
Answers items (Err (s.Attribute place)) = attribute_place items ≡ Some place
Answers items (Err s.NoMemory) = Unit {0}
