-- Answers of calls beside those of definitions, and what held values stand for (own rule).
use Rattle.std.specs.Prelude.{ℕ, Bool, true, false, List, Result, Ok, Err}
use Rattle.xq_base.specs.declared.code.Code.{Code}
use Rattle.xq_base.specs.declared.item.Item.{Item as Held}
use Rattle.xq_base.specs.declared.item.Item.TheVariants as i
use Rattle.xq_base.specs.declared.item.Atom.{Atom as HeldAtom}
use Rattle.xq_base.specs.declared.item.Atom.TheVariants as a
use Rattle.xq_base.specs.Answers.{Answer, Value, Fault}
use Rattle.xq_base.specs.Texts.{Text}
use Rattle.xq_base.specs.Atoms.{Atom, IntAtom, TextAtom, UntypedAtom, BoolAtom}
use Rattle.doc_table.specs.declared.rows.Kind.{Kind}
use Rattle.doc_table.specs.declared.rows.Kind.TheVariants as w
use Rattle.doc_table.specs.Tree.{text_in}
use Rattle.doc_table.specs.Given.{is_given}

-- an answer as a definition gives it
abbrev pub answer_of : {A : Type 0} → Result A Code → Answer A
answer_of (Ok x) = Value x
answer_of (Err code) = Fault code

-- what an atomic value stands for, over the texts of a pool
abbrev pub atom_in : List Text → HeldAtom → Atom
atom_in texts (a.Int n) = IntAtom n
atom_in texts (a.Str id) = TextAtom (text_in texts id)
atom_in texts (a.Untyped id) = UntypedAtom (text_in texts id)
atom_in texts (a.Bool b) = BoolAtom b

abbrev pub atom_answer : List Text → Result HeldAtom Code → Answer Atom
atom_answer texts (Ok x) = Value (atom_in texts x)
atom_answer texts (Err code) = Fault code

-- a pool of so many texts gave its text
abbrev pub atom_given : ℕ → HeldAtom → Bool
atom_given n (a.Int z) = true
atom_given n (a.Str id) = is_given n id
atom_given n (a.Untyped id) = is_given n id
atom_given n (a.Bool b) = true

-- the same of an item; a node has no text of its own
abbrev pub text_given : ℕ → Held → Bool
text_given n (i.Int z) = true
text_given n (i.Str id) = is_given n id
text_given n (i.Untyped id) = is_given n id
text_given n (i.Bool b) = true
text_given n (i.Node r) = true

-- an item that is no node
abbrev pub is_atom : Held → Bool
is_atom (i.Int z) = true
is_atom (i.Str id) = true
is_atom (i.Untyped id) = true
is_atom (i.Bool b) = true
is_atom (i.Node r) = false

-- an integer or a boolean
abbrev pub is_plain : Held → Bool
is_plain (i.Int z) = true
is_plain (i.Str id) = false
is_plain (i.Untyped id) = false
is_plain (i.Bool b) = true
is_plain (i.Node r) = false

-- the kinds of nodes whose typed value is a string
abbrev pub string_kind : Kind → Bool
string_kind w.Document = false
string_kind w.Element = false
string_kind w.Text = false
string_kind w.Comment = true
string_kind w.Pi = true
