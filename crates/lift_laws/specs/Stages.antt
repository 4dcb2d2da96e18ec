-- Checks of the iterations that rows name, one code after another (own rule): each over the loop that the earlier ones have left.
use Rattle.std.specs.Prelude.{Bool, false, ◌≡◌, ℕ, ◌+◌, max, length, List, [], ◌∷◌, map, true}
use Rattle.std.specs.List.{filter}
use Rattle.xq_base.specs.declared.code.Code.{Code}
use Rattle.xq_base.specs.declared.code.Code.TheVariants as c
use Rattle.xq_base.specs.declared.fun.Fun.{Fun}
use Rattle.xq_base.specs.declared.fun.Fun.TheVariants as f
use Rattle.xq_base.specs.declared.fun.AtomKind.{AtomKind}
use Rattle.xq_base.specs.declared.fun.AtomKind.TheVariants as k
use Rattle.xq_base.specs.Words.{char_count}
use Rattle.doc_table.specs.Items.{TextItem}
use Rattle.doc_table.specs.NodeRules.{Docs}
use Rattle.plan_dag.specs.declared.check.Check.{Check}
use Rattle.plan_dag.specs.declared.op.Agg.TheVariants as g
use Rattle.plan_dag.specs.ItemRules.{Cell, is_true}
use Rattle.plan_dag.specs.Rows.{aggregate_rows}
use Rattle.plan_dag.specs.Meaning.{cell}
use Rattle.core_meaning.specs.Expr.{Site, Rule, Apply, CastTo}
use Rattle.lift_laws.specs.Iterations.{Row, num}
use Rattle.lift_laws.specs.States.{State, Makes, Checks, column, three, single}
use Rattle.lift_laws.specs.Shapes.{bare, pair, columns, project, less, beside, head_rows, second_rows, literal_rows, either_rows, named_rows, truth_rows, any_rows, item_value_rows, item_fails_in, item_fails_rows}

-- one check: its table, and the check itself
pub record Stage (site : Site) (most : ℕ) (s s1 s2 : State) (l b : List Row) (code : Code) (c : Check) : Type 0 where
  pub made : Makes s s1 c.op single (named_rows l b) most
  pub check : Checks s1 s2 c
  pub code_is : c.code ≡ code
  pub offset_is : c.offset ≡ site.offset

-- one after another, from the loop with these rows
abbrev pub Stages : Site → ℕ → State → State → List Row → List (Code × List Row) → List Check → Type 0
Stages site most s s' l [] [] = s' ≡ s
Stages site most s s' l [] (c ∷ cs) = ⊥
Stages site most s s' l (m ∷ ms) [] = ⊥
Stages site most s s' l (m ∷ ms) (c ∷ cs) = (s1 : State) × (s2 : State) × Stage site most s s1 s2 l m.1 m.0 c × Stages site most s2 s' (less l m.1) ms cs

-- the rules of at most one item: signs, casts to a kind, the functions that cast, roots and documents
pub data ItemRule : Type 0 where
  Negates : ItemRule
  Absolutes : ItemRule
  Casts : AtomKind → ItemRule
  Constructs : AtomKind → ItemRule
  Roots : ItemRule
  Documents : ItemRule

abbrev pub constructor : AtomKind → Fun
constructor k.Integer = f.XsInteger
constructor k.Text = f.XsString
constructor k.Boolean = f.XsBoolean
constructor k.Untyped = f.XsUntypedAtomic

abbrev pub rule_of : ItemRule → Rule
rule_of Negates = Apply f.Negate
rule_of Absolutes = Apply f.Abs
rule_of (Casts kind) = CastTo kind true
rule_of (Constructs kind) = Apply (constructor kind)
rule_of Roots = Apply f.Root
rule_of Documents = Apply f.Doc

-- the function that a map applies to the item, and the codes behind that of a wrong type
abbrev pub fun_of : ItemRule → Fun
fun_of Negates = f.Negate
fun_of Absolutes = f.Abs
fun_of (Casts kind) = f.CastTo kind
fun_of (Constructs kind) = f.CastTo kind
fun_of Roots = f.Root
fun_of Documents = f.Doc

abbrev pub codes_of : ItemRule → List Code
codes_of Negates = c.FORG0001 ∷ c.FOAR0002 ∷ []
codes_of Absolutes = c.FORG0001 ∷ c.FOAR0002 ∷ []
codes_of (Casts kind) = c.FORG0001 ∷ []
codes_of (Constructs kind) = c.FORG0001 ∷ []
codes_of Roots = []
codes_of Documents = c.FODC0002 ∷ []

-- the iterations with an argument that doesn't fit, by this code, or that has a second item
abbrev pub unfit_in : Docs → Fun → Code → List Row → List Row
unfit_in docs g d a = beside single (second_rows a) (item_fails_in docs g d a)

-- the rows of each code
abbrev pub marks_in : Docs → Fun → List Code → List Row → List (Code × List Row)
marks_in docs g ds a = map (λ d. (d, item_fails_in docs g d a)) ds

abbrev pub item_marks_in : Docs → Fun → List Code → List Row → List (Code × List Row)
item_marks_in docs g ds a = (c.XPTY0004, unfit_in docs g c.XPTY0004 a) ∷ marks_in docs g ds a

-- what their operators may demand, over the loop and the argument
abbrev pub item_most_in : Docs → Fun → List Row → List Row → ℕ
item_most_in docs g l a = max (length l + length a) (length (unfit_in docs g c.XPTY0004 a))

-- the same of a function that asks for no document
abbrev pub unfit_rows : Fun → Code → List Row → List Row
unfit_rows g d a = unfit_in [] g d a

abbrev pub item_marks : Fun → List Code → List Row → List (Code × List Row)
item_marks g ds a = item_marks_in [] g ds a

abbrev pub item_most : Fun → List Row → List Row → ℕ
item_most g l a = item_most_in [] g l a

-- the iterations whose argument can't be cast, where it may be absent and where it may not; and what the operators may demand
abbrev pub uncastable_rows : AtomKind → Bool → List Row → List Row → List Row
uncastable_rows kind true l a = unfit_rows (f.CastTo kind) c.FORG0001 a
uncastable_rows kind false l a = beside single (unfit_rows (f.CastTo kind) c.FORG0001 a) (less l (any_rows a))

abbrev pub castable_most : AtomKind → Bool → List Row → List Row → ℕ
castable_most kind optional l a = max (length l + length l + length a) (length (uncastable_rows kind optional l a))

-- the functions of at most one item that give an item of none too: texts, their lengths and forms, and names of nodes
pub data TextRule : Type 0 where
  Texts : TextRule
  Lengths : TextRule
  Normals : TextRule
  Names : TextRule
  LocalNames : TextRule

abbrev pub text_fun : TextRule → Fun
text_fun Texts = f.StringOf
text_fun Lengths = f.StringLength
text_fun Normals = f.NormalizeSpace
text_fun Names = f.Name
text_fun LocalNames = f.LocalName

-- what they give of none
abbrev pub absent_item : TextRule → Cell
absent_item Lengths = num (char_count [])
absent_item _ = TextItem []

-- what a function gives of the items, and an item where there is none
abbrev pub text_value_rows : Fun → Cell → List Row → List Row → List Row
text_value_rows g w l a = either_rows (item_value_rows g a) (literal_rows w (less l (any_rows a)))

-- the effective boolean value: the iterations whose first item is true, and those with a second item behind one that is no node
abbrev pub head_true_rows : List Row → List Row
head_true_rows a =
    project (columns (0 ∷ 1 ∷ [])) (pair 0 0 ∷ [])
    (filter (λ r. is_true (cell bare (columns (0 ∷ 1 ∷ [])) (column 1) r)) (aggregate_rows bare g.Ebv (cell bare three (column 0)) (cell bare three (column 2)) (head_rows a)))

abbrev pub boolean_marks : List Row → List (Code × List Row)
boolean_marks a = (c.FORG0006, named_rows (second_rows a) (item_fails_rows f.Name c.XPTY0004 (head_rows a))) ∷ []

-- as it is, or turned
abbrev pub boolean_fun : Bool → Fun
boolean_fun true = f.Boolean
boolean_fun false = f.Not

abbrev pub boolean_rows : Bool → List Row → List Row → List Row
boolean_rows there l a = truth_rows there l (head_true_rows a)

abbrev pub boolean_most : Bool → List Row → List Row → ℕ
boolean_most there l a = max (length l + length a) (length (boolean_rows there l a))
