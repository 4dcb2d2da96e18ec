-- The definitions on small tables and plans.
use Rattle.std.specs.Prelude.{◌≡◌, ℕ, pos, Bool, true, false, List, [], ◌∷◌, Some, None, codes}
use Rattle.std.proofs.Common.{refl}
use Rattle.std.specs.Fmt.{digits}
use Rattle.std.specs.Str.{chars}
use Rattle.xq_base.specs.declared.item.TextId.{TextId}
use Rattle.xq_base.specs.declared.item.Atom.TheVariants as a
use Rattle.xq_base.specs.declared.axis.Axis.TheVariants as x
use Rattle.xq_base.specs.declared.axis.NodeTest.TheVariants as t
use Rattle.xq_base.specs.declared.code.Code.TheVariants as c
use Rattle.xq_base.specs.declared.fun.Fun.TheVariants as f
use Rattle.xq_base.specs.declared.fun.CompOp.TheVariants as k
use Rattle.xq_base.specs.Chars.{is_name_start}
use Rattle.xq_base.specs.Texts.{Text}
use Rattle.doc_table.specs.Tree.{Tree, Branch, OfDocument, OfElement, OfText, no_more, one_more}
use Rattle.doc_table.specs.Identity.{DocTree, BuiltTree}
use Rattle.doc_table.specs.Items.{Item, IntItem, TextItem, UntypedItem, BoolItem, NodeItem}
use Rattle.plan_dag.specs.declared.cols.Col.{Col}
use Rattle.plan_dag.specs.declared.keys.Key.{Key}
use Rattle.plan_dag.specs.declared.pairs.Pair.{Pair}
use Rattle.plan_dag.specs.declared.op.OpId.{OpId}
use Rattle.plan_dag.specs.declared.op.Op.{Op}
use Rattle.plan_dag.specs.declared.op.Op.TheVariants as o
use Rattle.plan_dag.specs.declared.op.Agg.TheVariants as g
use Rattle.plan_dag.specs.declared.op.Place.TheVariants as p
use Rattle.plan_dag.specs.Cells.{Rules}
use Rattle.plan_dag.specs.ItemRules.{Cell, item_rules}
use Rattle.plan_dag.specs.Schema.{fits, is_valid}
use Rattle.plan_dag.specs.Meaning.{Table, Graph, rows_of, plan_meaning, plan_answer, Answers, Refuses, table_of, demand_of}
use Rattle.plan_dag.specs.Needed.{needed}

-- no documents, and the texts "", "b" and "5"
abbrev R : Rules Cell
R = item_rules [] ([] ∷ codes "b" ∷ codes "5" ∷ [])

abbrev col : ℕ → Col
col n = record { 0 = n }

abbrev op : ℕ → OpId
op n = record { 0 = n }

abbrev text : ℕ → TextId
text n = record { 0 = n }

abbrev n : ℕ → Cell
n k = IntItem (pos k)

abbrev up : ℕ → Key
up k = record { col = col k; descending = false }

abbrev down : ℕ → Key
down k = record { col = col k; descending = true }

abbrev as' : ℕ → ℕ → Pair
as' new old = record { new = col new; old = col old }

one_column : Table Cell
one_column = record { cols = col 0 ∷ []; rows = (n 7 ∷ []) ∷ (n 3 ∷ []) ∷ [] }

-- `rownum %0 c5 by c0` over 7 and 3
numbers_by_key : rows_of R (o.Rownum (op 0) (col 5) (up 0 ∷ []) None) one_column one_column ≡ (n 7 ∷ n 2 ∷ []) ∷ (n 3 ∷ n 1 ∷ []) ∷ []
unfolding one_column
numbers_by_key = refl

three : Table Cell
three = record { cols = col 0 ∷ col 1 ∷ col 2 ∷ []; rows = (n 1 ∷ n 1 ∷ n 5 ∷ []) ∷ (n 2 ∷ n 1 ∷ n 9 ∷ []) ∷ (n 1 ∷ n 2 ∷ n 5 ∷ []) ∷ (n 1 ∷ n 3 ∷ n 4 ∷ []) ∷ [] }

-- in parts, descending, ties by place
numbers_in_parts : rows_of R (o.Rownum (op 0) (col 5) (down 2 ∷ []) (Some (col 0))) three three
    ≡ (n 1 ∷ n 1 ∷ n 5 ∷ n 1 ∷ []) ∷ (n 2 ∷ n 1 ∷ n 9 ∷ n 1 ∷ []) ∷ (n 1 ∷ n 2 ∷ n 5 ∷ n 2 ∷ []) ∷ (n 1 ∷ n 3 ∷ n 4 ∷ n 3 ∷ []) ∷ []
unfolding three
numbers_in_parts = refl

counts : rows_of R (o.Count (op 0) (col 0) (col 5)) three three ≡ (n 1 ∷ n 3 ∷ []) ∷ (n 2 ∷ n 1 ∷ []) ∷ []
unfolding three
counts = refl

sums : rows_of R (o.Aggregate (op 0) g.Sum (col 0) (col 2) (col 5)) three three ≡ (n 1 ∷ n 14 ∷ []) ∷ (n 2 ∷ n 9 ∷ []) ∷ []
unfolding three
sums = refl

-- the effective boolean value of three integers fails, that of one has a value
truths : rows_of R (o.Aggregate (op 0) g.Ebv (col 0) (col 2) (col 5)) three three ≡ (n 2 ∷ BoolItem true ∷ []) ∷ []
unfolding three
truths = refl

no_truths : rows_of R (o.AggregateFails (op 0) g.Ebv c.FORG0006 (col 0) (col 2)) three three ≡ (n 1 ∷ []) ∷ []
unfolding three
no_truths = refl

texts_joined : rows_of R (o.Aggregate (op 0) g.Concat (col 0) (col 2) (col 5)) three three ≡ (n 1 ∷ TextItem (codes "554") ∷ []) ∷ (n 2 ∷ TextItem (codes "9") ∷ []) ∷ []
unfolding three digits
texts_joined = refl

firsts_stay : rows_of R (o.Distinct (op 0) (col 0 ∷ col 2 ∷ [])) three three ≡ (n 1 ∷ n 1 ∷ n 5 ∷ []) ∷ (n 2 ∷ n 1 ∷ n 9 ∷ []) ∷ (n 1 ∷ n 3 ∷ n 4 ∷ []) ∷ []
unfolding three
firsts_stay = refl

-- pairs by the left row first
pairs_left_first : rows_of R (o.Join (op 0) (op 1) (col 0) (col 6)) one_column (record { cols = col 6 ∷ col 7 ∷ []; rows = (n 3 ∷ n 0 ∷ []) ∷ (n 7 ∷ n 1 ∷ []) ∷ (n 7 ∷ n 2 ∷ []) ∷ [] })
    ≡ (n 7 ∷ n 7 ∷ n 1 ∷ []) ∷ (n 7 ∷ n 7 ∷ n 2 ∷ []) ∷ (n 3 ∷ n 3 ∷ n 0 ∷ []) ∷ []
unfolding one_column
pairs_left_first = refl

left_over : rows_of R (o.Difference (op 0) (op 0) (col 1) (col 0)) three one_column ≡ (n 1 ∷ n 1 ∷ n 5 ∷ []) ∷ (n 2 ∷ n 1 ∷ n 9 ∷ []) ∷ (n 1 ∷ n 2 ∷ n 5 ∷ []) ∷ []
unfolding three one_column
left_over = refl

ranges : rows_of R (o.Range (op 0) (col 0) (col 2) (col 5)) (record { cols = col 0 ∷ col 2 ∷ []; rows = (n 2 ∷ n 4 ∷ []) ∷ (n 4 ∷ n 2 ∷ []) ∷ [] }) three
    ≡ (n 2 ∷ n 4 ∷ n 2 ∷ []) ∷ (n 2 ∷ n 4 ∷ n 3 ∷ []) ∷ (n 2 ∷ n 4 ∷ n 4 ∷ []) ∷ []
ranges = refl

-- an untyped "5" equals the integer 5, and "b" has no such value
untyped : Table Cell
untyped = record { cols = col 4 ∷ col 6 ∷ []; rows = (n 1 ∷ UntypedItem (codes "5") ∷ []) ∷ (n 2 ∷ UntypedItem (codes "b") ∷ []) ∷ [] }

exists_equal : rows_of R (o.ExistsCompare (op 0) (op 1) k.Eq (col 0) (col 2) (col 4) (col 6)) three untyped ≡ (n 1 ∷ []) ∷ []
unfolding three untyped
exists_equal = refl

fails_to_compare : rows_of R (o.CompareFails (op 0) (op 1) k.Eq c.FORG0001 (col 0) (col 2) (col 4) (col 6)) three untyped ≡ (n 2 ∷ []) ∷ []
unfolding three untyped
fails_to_compare = refl

-- a row whose cell is no boolean has no value of `and`, and no code
no_booleans : rows_of R (o.Map (op 0) f.And (col 0 ∷ col 2 ∷ []) (col 5)) three three ≡ []
unfolding three
no_booleans = refl

-- <a><b/><b/></a>, from the document twice in one iteration
tree : Tree Text
tree = Branch OfDocument (one_more (Branch (OfElement (codes "a") []) (one_more (Branch (OfElement (codes "b") []) no_more) (one_more (Branch (OfElement (codes "b") []) no_more) no_more))) no_more)

abbrev at : List ℕ → Cell
at p = NodeItem (record { id = DocTree 0; tree = tree; path = record { steps = p; attr = 0 } })

steps_once : rows_of R (o.Step (op 0) x.Child (t.Name (text 1)) 4 9 (col 0) (col 2)) (record { cols = col 0 ∷ col 2 ∷ []; rows = (n 2 ∷ at (1 ∷ []) ∷ []) ∷ (n 1 ∷ at (1 ∷ []) ∷ []) ∷ (n 2 ∷ at (1 ∷ []) ∷ []) ∷ (n 0 ∷ at (1 ∷ []) ∷ []) ∷ [] }) three
    ≡ (n 1 ∷ at (1 ∷ 1 ∷ []) ∷ []) ∷ (n 2 ∷ at (1 ∷ 1 ∷ []) ∷ []) ∷ (n 1 ∷ at (1 ∷ 2 ∷ []) ∷ []) ∷ (n 2 ∷ at (1 ∷ 2 ∷ []) ∷ []) ∷ []
unfolding tree
steps_once = refl

-- <b>5 9</b> in iteration 2, and no element of the name "5" in iteration 3
names : Table Cell
names = record { cols = col 0 ∷ col 2 ∷ []; rows = (n 2 ∷ TextItem (codes "b") ∷ []) ∷ (n 3 ∷ TextItem (codes "5") ∷ []) ∷ [] }

contents : Table Cell
contents = record { cols = col 0 ∷ col 1 ∷ col 2 ∷ []; rows = (n 2 ∷ n 2 ∷ n 9 ∷ []) ∷ (n 2 ∷ n 1 ∷ n 5 ∷ []) ∷ [] }

elements : rows_of R (o.Element (op 0) (op 1) 4 (col 0) (col 1) (col 2)) names contents
    ≡ (n 2 ∷ NodeItem (record { id = BuiltTree 4 (2 ∷ []); tree = Branch (OfElement (codes "b") []) (one_more (Branch (OfText (codes "5 9")) no_more) no_more); path = record { steps = []; attr = 0 } }) ∷ []) ∷ []
unfolding names contents digits chars is_name_start
elements = refl

-- one row, of two rows of a tree
extent : demand_of R (o.Element (op 0) (op 1) 4 (col 0) (col 1) (col 2)) (table_of R (names ∷ contents ∷ []) (o.Element (op 0) (op 1) 4 (col 0) (col 1) (col 2))) ≡ 2
unfolding names contents digits chars is_name_start
extent = refl

-- 1 + "5", an untyped text, as a plan with a check that has no row
plan : Graph
plan = record {
  ops = o.Unit (col 0) ∷ o.Attach (op 0) (col 1) (a.Int (pos 1)) ∷ o.Attach (op 1) (col 3) (a.Untyped (text 2)) ∷ o.Map (op 2) f.Add (col 1 ∷ col 3 ∷ []) (col 2)
      ∷ o.Project (op 3) (as' 0 0 ∷ as' 1 1 ∷ as' 2 2 ∷ []) ∷ o.MapFails (op 2) f.Add c.FORG0001 (col 1 ∷ col 3 ∷ []) ∷ [];
  checks = record { op = op 5; code = c.FORG0001; offset = 0 } ∷ [];
  root = Some (op 4);
}

valid : is_valid plan.ops ≡ true
unfolding plan
valid = refl

answers : plan_answer R plan ≡ Answers (n 6 ∷ [])
unfolding plan
answers = refl

meaning : plan_meaning R plan ≡ record { cols = col 0 ∷ col 1 ∷ col 3 ∷ []; rows = [] } ∷ record { cols = col 0 ∷ col 1 ∷ col 2 ∷ []; rows = (n 1 ∷ n 1 ∷ n 6 ∷ []) ∷ [] } ∷ []
unfolding plan
meaning = refl

-- the check's operator needs its first column and reads two more
needs : needed plan ≡ (col 0 ∷ []) ∷ (col 0 ∷ col 1 ∷ []) ∷ (col 0 ∷ col 1 ∷ col 3 ∷ []) ∷ (col 0 ∷ col 1 ∷ col 2 ∷ []) ∷ (col 0 ∷ col 1 ∷ col 2 ∷ []) ∷ (col 0 ∷ []) ∷ []
unfolding plan
needs = refl

-- the check has a row over "b"
failing : Graph
failing = record {
  ops = o.Unit (col 0) ∷ o.Attach (op 0) (col 1) (a.Untyped (text 1)) ∷ o.MapFails (op 1) f.Negate c.FORG0001 (col 1 ∷ []) ∷ [];
  checks = record { op = op 2; code = c.FORG0001; offset = 7 } ∷ [];
  root = None;
}

refuses : plan_answer R failing ≡ Refuses c.FORG0001 7
unfolding failing
refuses = refl

-- two constructors with one site
twice : fits (o.Unit (col 0) ∷ o.Attach (op 0) (col 1) (a.Int (pos 1)) ∷ o.Attach (op 1) (col 2) (a.Int (pos 1)) ∷ o.Text (op 0) (op 2) 4 (col 0) (col 1) (col 2) ∷ []) (o.Comment (op 0) (op 2) 4 (col 0) (col 1) (col 2)) ≡ false
twice = refl

other_site : fits (o.Unit (col 0) ∷ o.Attach (op 0) (col 1) (a.Int (pos 1)) ∷ o.Attach (op 1) (col 2) (a.Int (pos 1)) ∷ o.Text (op 0) (op 2) 4 (col 0) (col 1) (col 2) ∷ []) (o.Text (op 0) (op 2) 5 (col 0) (col 1) (col 2)) ≡ true
other_site = refl
