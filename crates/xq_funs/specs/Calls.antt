-- What a call gives, beside the definition of its function (own rule).
use Rattle.std.specs.Prelude.{ℕ, ◌≡◌, Bool, true, false, List, [], ◌∷◌, length, map, string_bytes, Result, Ok, Err, ℤ, neg_ℤ}
use Rattle.xq_base.specs.declared.code.Code.TheVariants as c
use Rattle.xq_base.specs.declared.fun.Fun.{Fun}
use Rattle.xq_base.specs.declared.fun.Fun.TheVariants as f
use Rattle.xq_base.specs.declared.fun.AtomKind.{AtomKind}
use Rattle.xq_base.specs.declared.fun.AtomKind.TheVariants as k
use Rattle.xq_base.specs.declared.item.Item.{Item as Held}
use Rattle.xq_base.specs.declared.item.Atom.{Atom as HeldAtom}
use Rattle.xq_base.specs.Answers.{Answer, Value, Fault}
use Rattle.xq_base.specs.Texts.{Text}
use Rattle.xq_base.specs.Atoms.{Atom, IntAtom, TextAtom, UntypedAtom, BoolAtom}
use Rattle.xq_base.specs.Arithmetic.{sum_of, difference_of, product_of, quotient_of, remainder_of, checked}
use Rattle.xq_base.specs.TextRules.{absolute}
use Rattle.doc_table.specs.Items.{item_of}
use Rattle.doc_table.specs.Values.{Items, item_of_atom}
use Rattle.doc_table.specs.Stores.{Holdings}
use Rattle.doc_table.specs.StoredItems.{trees_of, ItemGiven}
use Rattle.xq_funs.specs.declared.fault.FunFault.{FunFault}
use Rattle.xq_funs.specs.declared.fault.FunFault.TheVariants as x
use Rattle.xq_funs.specs.declared.computed.Computed.{Computed}
use Rattle.xq_funs.specs.declared.computed.Computed.TheVariants as m
use Rattle.xq_funs.specs.Answering.{atom_in, atom_given}

-- each argument is one item
abbrev pub values : List Text → Holdings → List Held → List Items
values texts h args = map (λ v. item_of texts (trees_of h) v ∷ []) args

-- each argument is one atomic value
abbrev pub singles : List Text → List HeldAtom → List Items
singles texts as' = map (λ a. item_of_atom (atom_in texts a) ∷ []) as'

-- the value that a rule computed
abbrev pub computed_in : List Text → Computed → Atom
computed_in texts (m.Number n) = IntAtom n
computed_in texts (m.Truth b) = BoolAtom b
computed_in texts (m.Text t) = TextAtom (string_bytes t)
computed_in texts (m.Untyped t) = UntypedAtom (string_bytes t)
computed_in texts (m.Same a) = atom_in texts a

abbrev pub computed_given : ℕ → Computed → Bool
computed_given n (m.Number z) = true
computed_given n (m.Truth b) = true
computed_given n (m.Text t) = true
computed_given n (m.Untyped t) = true
computed_given n (m.Same a) = atom_given n a

-- a text that the pool may not have yet
abbrev pub is_new_text : Computed → Bool
is_new_text (m.Number z) = false
is_new_text (m.Truth b) = false
is_new_text (m.Text t) = true
is_new_text (m.Untyped t) = true
is_new_text (m.Same a) = false

-- what a rule on atomic values gives: memory may be wanting where this says so
abbrev pub RuleGives : Bool → List Text → Answer Items → Result Computed FunFault → Type 0
RuleGives wants texts answer (Ok value) = (answer ≡ Value (item_of_atom (computed_in texts value) ∷ [])) × (computed_given (length texts) value ≡ true) × (is_new_text value ≡ true → wants ≡ true)
RuleGives wants texts answer (Err (x.Code code)) = answer ≡ Fault code
RuleGives wants texts answer (Err x.NoMemory) = wants ≡ true

-- what a call gives, over the texts of the pool after it
abbrev pub Gives : Bool → List Text → Holdings → Answer Items → Result Held FunFault → Type 0
Gives wants texts h answer (Ok item) = (answer ≡ Value (item_of texts (trees_of h) item ∷ [])) × ItemGiven texts h item
Gives wants texts h answer (Err (x.Code code)) = answer ≡ Fault code
Gives wants texts h answer (Err x.NoMemory) = wants ≡ true

-- the rule of an operator on two integers
abbrev pub calculated : Fun → ℤ → ℤ → Answer ℤ
calculated f.Add y z = sum_of y z
calculated f.Subtract y z = difference_of y z
calculated f.Multiply y z = product_of y z
calculated f.IntegerDivide y z = quotient_of y z
calculated f.Modulo y z = remainder_of y z
calculated _ y z = Fault c.XPTY0004

abbrev pub is_arithmetic : Fun → Bool
is_arithmetic f.Add = true
is_arithmetic f.Subtract = true
is_arithmetic f.Multiply = true
is_arithmetic f.IntegerDivide = true
is_arithmetic f.Modulo = true
is_arithmetic _ = false

-- a kind whose values have texts
abbrev pub makes_text : AtomKind → Bool
makes_text k.Integer = false
makes_text k.Boolean = false
makes_text k.Text = true
makes_text k.Untyped = true

abbrev pub is_sign : Fun → Bool
is_sign f.Negate = true
is_sign f.Abs = true
is_sign _ = false

abbrev pub changed : Fun → ℤ → Answer ℤ
changed f.Negate z = checked (neg_ℤ z)
changed f.Abs z = checked (absolute z)
changed _ z = Fault c.XPTY0004

-- functions of one atomic value
abbrev pub is_unary : Fun → Bool
is_unary f.Negate = true
is_unary f.Abs = true
is_unary f.XsInteger = true
is_unary f.XsString = true
is_unary f.XsBoolean = true
is_unary f.XsUntypedAtomic = true
is_unary (f.CastTo kind) = true
is_unary f.StringOf = true
is_unary f.Atomize = true
is_unary f.StringLength = true
is_unary f.NormalizeSpace = true
is_unary f.QName = true
is_unary f.PiTarget = true
is_unary _ = false

-- functions of two atomic values
abbrev pub is_binary : Fun → Bool
is_binary f.Add = true
is_binary f.Subtract = true
is_binary f.Multiply = true
is_binary f.IntegerDivide = true
is_binary f.Modulo = true
is_binary f.Eq = true
is_binary f.Ne = true
is_binary f.Lt = true
is_binary f.Le = true
is_binary f.Gt = true
is_binary f.Ge = true
is_binary f.Contains = true
is_binary f.StartsWith = true
is_binary f.EndsWith = true
is_binary f.SubstringBefore = true
is_binary f.SubstringAfter = true
is_binary f.Substring = true
is_binary f.Compare = true
is_binary _ = false

-- functions of three atomic values
abbrev pub is_ternary : Fun → Bool
is_ternary f.Substring = true
is_ternary f.Translate = true
is_ternary _ = false

-- functions whose values are texts
abbrev pub gives_text : Fun → Bool
gives_text f.XsString = true
gives_text f.XsUntypedAtomic = true
gives_text (f.CastTo kind) = makes_text kind
gives_text f.StringOf = true
gives_text f.NormalizeSpace = true
gives_text f.QName = true
gives_text f.PiTarget = true
gives_text f.SubstringBefore = true
gives_text f.SubstringAfter = true
gives_text f.Substring = true
gives_text f.Translate = true
gives_text f.Concat = true
gives_text f.Name = true
gives_text f.LocalName = true
gives_text _ = false
