-- Checks over rows that name iterations, and calls that are lifted by them (own rule).
use Rattle.std.specs.Prelude.{ℕ, ◌≡◌, ◌<◌, ◌≤◌, true, List, [], ◌∷◌, length, map, take}
use Rattle.xq_base.specs.declared.code.Code.{Code}
use Rattle.xq_base.specs.Texts.{Text}
use Rattle.doc_table.specs.NodeRules.{Docs}
use Rattle.plan_dag.specs.declared.op.OpId.{OpId}
use Rattle.plan_dag.specs.declared.op.Op.{Op}
use Rattle.plan_dag.specs.declared.check.Check.{Check}
use Rattle.plan_dag.specs.ItemRules.{Cell, item_rules}
use Rattle.plan_dag.specs.Cells.{Rules}
use Rattle.plan_dag.specs.declared.cols.Col.{Col}
use Rattle.plan_dag.specs.Graphs.{in_graph}
use Rattle.plan_dag.specs.Meaning.{Graph, Table}
use Rattle.core_meaning.specs.Expr.{Site, Rule}
use Rattle.lift_laws.specs.Sums.{AllOf}
use Rattle.lift_laws.specs.Iterations.{Row}
use Rattle.lift_laws.specs.Stages.{Stages}
use Rattle.lift_laws.specs.States.{state_of, at, Grows, Makes, Checks, single}
use Rattle.lift_laws.specs.Shapes.{less, named_rows, cleared}
use Rattle.lift_laws.specs.Lifting.{CallLifts}
use Rattle.lift_prims.specs.declared.stage.Mark.{Mark}
use Rattle.lift_prims.specs.Forms.{form_fits, form_cols, cols_in, form_table, FormSmall, FormMade}
use Rattle.lift_prims.specs.Made.{IsLoop, HasItems, rows_in}

-- a check of the iterations of a loop that rows name: its operator is made, and then the check; the loop without them is there too
pub record Checked (g g' : Graph) (looped marked : OpId) (code : Code) (offset : ℕ) (rest : OpId) : Type 0 where
  pub shaped : IsLoop g' rest
  pub mid : Graph
  pub op : OpId
  pub makes : (docs : Docs) (texts : List Text) → Makes (state_of docs texts g) (state_of docs texts mid) op single (named_rows (rows_in docs texts g looped) (rows_in docs texts g marked)) (length (rows_in docs texts g looped))
  pub checks : (docs : Docs) (texts : List Text) → Checks (state_of docs texts mid) (state_of docs texts g') (record { op = op; code = code; offset = offset })
  pub left : (docs : Docs) (texts : List Text) → rows_in docs texts g' rest ≡ less (rows_in docs texts g looped) (rows_in docs texts g marked)

-- the same of the rows of a form, which is made first
pub record CheckedForm (g g' : Graph) (looped : OpId) (ins : List OpId) (ops : List Op) (code : Code) (offset : ℕ) (rest : OpId) : Type 0 where
  pub marked : OpId
  pub between : Graph
  pub made : (docs : Docs) (texts : List Text) → FormMade (item_rules docs texts) (state_of docs texts g) (state_of docs texts between) ins ops marked
  pub checked : Checked between g' looped marked code offset rest

-- forms of rows that name iterations, each with the code of its check
abbrev pub Marks : Type 0
Marks = List (Code × List Op)

-- those of a slice
abbrev pub form_marks : List Mark → Marks
form_marks ms = map (λ m. (m.code, m.form.now)) ms

-- what forms owe: the values' form gives items, each other one names iterations
pub record MarkFits (cs : List (List Col)) (ops : List Op) : Type 0 where
  pub fits : form_fits cs ops ≡ true
  pub some : 0 < length ops
  pub columns : form_cols cs ops ≡ single

pub record CallFits (g : Graph) (looped : OpId) (ins : List OpId) (values : List Op) (marks : Marks) : Type 0 where
  pub loop : IsLoop g looped
  pub there : AllOf (in_graph g) ins
  pub fits : form_fits (cols_in g ins) values ≡ true
  pub some : 0 < length values
  pub marked : AllOf (λ m. MarkFits (cols_in g ins) m.1) marks

-- the rows of the forms over these tables
abbrev pub marked_rows : Rules Cell → List (Table Cell) → Marks → List (Code × List Row)
marked_rows R ts ms = map (λ m. (m.0, (form_table R ts m.1).rows)) ms

-- the checks of forms over a loop, from the plan g1 on, which goes on after g
pub record FormStages (g g1 g2 : Graph) (looped : OpId) (ins : List OpId) (marks : Marks) (offset : ℕ) (left : OpId) : Type 0 where
  pub shaped : IsLoop g2 left
  pub checks : List Check
  pub grows : (docs : Docs) (texts : List Text) → Grows (state_of docs texts g) (state_of docs texts g2) checks
  pub after : (docs : Docs) (texts : List Text) → Grows (state_of docs texts g1) (state_of docs texts g2) checks
  pub left_is : (docs : Docs) (texts : List Text) → rows_in docs texts g2 left ≡ cleared (rows_in docs texts g looped) (map (λ m. m.1) (marked_rows (item_rules docs texts) (map (at (state_of docs texts g)) ins) marks))
  pub stages : (docs : Docs) (texts : List Text) (most : ℕ) (site : Site) → site.offset ≡ offset → length (rows_in docs texts g looped) ≤ most → AllOf (λ m. FormSmall (item_rules docs texts) most (map (at (state_of docs texts g)) ins) m.1) marks
      → Stages site most (state_of docs texts g1) (state_of docs texts g2) (rows_in docs texts g looped) (marked_rows (item_rules docs texts) (map (at (state_of docs texts g)) ins) marks) checks

-- values by a form, and then the checks of others
pub record CallMade (g g' : Graph) (looped : OpId) (ins : List OpId) (values : List Op) (marks : Marks) (offset : ℕ) (t : OpId) : Type 0 where
  pub between : Graph
  pub made : (docs : Docs) (texts : List Text) → FormMade (item_rules docs texts) (state_of docs texts g) (state_of docs texts between) ins values t
  pub left : OpId
  pub stages : FormStages g between g' looped ins marks offset left

-- a call of a rule over arguments is lifted, over all documents and whatever texts go on after these
pub record LiftedCall (pool : List Text) (g g' : Graph) (r : Rule) (offset : ℕ) (looped : OpId) (args : List OpId) (t : OpId) : Type 0 where
  pub shaped : HasItems g' t
  pub lifts : (docs : Docs) (texts : List Text) (site : Site) → take (length pool) texts ≡ pool → site.offset ≡ offset → CallLifts docs (state_of docs texts g) (state_of docs texts g') site r looped args t
