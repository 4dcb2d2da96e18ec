-- What tables need of the cells that are kept: items whose texts are numbers of a pool and whose nodes
-- are references (own rule). What makes texts or nodes isn't said over these cells.
use Rattle.std.specs.Prelude.{ℕ, ℤ, Bool, false, not, ◌&&◌, ◌||◌, List, [], Option, Some, None, nat_lt, int_lt}
use Rattle.xq_base.specs.declared.item.Item.{Item}
use Rattle.xq_base.specs.declared.item.Item.TheVariants as i
use Rattle.xq_base.specs.declared.item.Atom.{Atom as Constant}
use Rattle.xq_base.specs.declared.item.Atom.TheVariants as a
use Rattle.xq_base.specs.Texts.{Text, text_less}
use Rattle.xq_base.specs.Atoms.{Atom, IntAtom, TextAtom, UntypedAtom, BoolAtom}
use Rattle.doc_table.specs.Tree.{text_in}
use Rattle.doc_table.specs.Identity.{ref_less}
use Rattle.plan_dag.specs.Cells.{Rules, Silent}
use Rattle.plan_dag.specs.ItemRules.{atoms_outcome}
use Rattle.table_ops.specs.Keys.{item_eq}
use Rattle.table_ops.specs.Picks.{is_true_item}

-- boolean, integer, string, untyped, node
abbrev pub held_rank : Item → ℕ
held_rank (i.Bool b) = 0
held_rank (i.Int z) = 1
held_rank (i.Str id) = 2
held_rank (i.Untyped id) = 3
held_rank (i.Node n) = 4

-- of cells of one kind, with these texts
abbrev pub held_value_less : List Text → Item → Item → Bool
held_value_less texts (i.Bool b) (i.Bool d) = not b && d
held_value_less texts (i.Int y) (i.Int z) = int_lt y z
held_value_less texts (i.Str s) (i.Str t) = text_less (text_in texts s) (text_in texts t)
held_value_less texts (i.Untyped s) (i.Untyped t) = text_less (text_in texts s) (text_in texts t)
held_value_less texts (i.Node m) (i.Node n) = ref_less m n
held_value_less texts _ _ = false

abbrev pub held_less : List Text → Item → Item → Bool
held_less texts v w = nat_lt (held_rank v) (held_rank w) || held_value_less texts v w

abbrev pub held_int : Item → Option ℤ
held_int (i.Int z) = Some z
held_int _ = None

abbrev pub held_constant : Constant → Item
held_constant (a.Int z) = i.Int z
held_constant (a.Str id) = i.Str id
held_constant (a.Untyped id) = i.Untyped id
held_constant (a.Bool b) = i.Bool b

abbrev pub held_atom : List Text → Item → Option Atom
held_atom texts (i.Int z) = Some (IntAtom z)
held_atom texts (i.Str id) = Some (TextAtom (text_in texts id))
held_atom texts (i.Untyped id) = Some (UntypedAtom (text_in texts id))
held_atom texts (i.Bool b) = Some (BoolAtom b)
held_atom texts (i.Node n) = None

-- the rules of kept cells, with these texts
abbrev pub held_rules : List Text → Rules Item
held_rules texts = record {
  same = item_eq;
  less = held_less texts;
  int = i.Int;
  int_in = held_int;
  is_true = is_true_item;
  constant = held_constant;
  value = λ fun vs. Silent;
  whole = λ agg vs. Silent;
  pair = λ op v w. atoms_outcome op (held_atom texts v) (held_atom texts w);
  found = λ axis wanted v. [];
  refused = λ place vs. None;
  made = λ kind site n name content. None;
  extent = λ v. 0;
}

-- where no text is read
abbrev pub kept : Rules Item
kept = held_rules []
