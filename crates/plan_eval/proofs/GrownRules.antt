-- The rows of an operator are the same over a longer pool.
use Rattle.std.proofs.Common.{◌≡◌, Bool, true, ◌&&◌, ◌||◌, not, List, [], ◌∷◌, ◌++◌, length, map, take, refl, ap, ◌∙◌, Option, Some, None}
use Rattle.std.specs.List.{flat_map}
use Rattle.std.proofs.lemmas.Bool.{and_parts}
use Rattle.xq_base.specs.declared.axis.Axis.{Axis}
use Rattle.xq_base.specs.declared.axis.NodeTest.{NodeTest}
use Rattle.xq_base.specs.declared.axis.NodeTest.TheVariants as w
use Rattle.xq_base.specs.declared.item.Atom.{Atom as Constant}
use Rattle.xq_base.specs.declared.item.Atom.TheVariants as a
use Rattle.xq_base.specs.declared.item.Item.{Item}
use Rattle.xq_base.specs.declared.item.TextId.{TextId}
use Rattle.xq_base.specs.Texts.{Text}
use Rattle.doc_table.specs.Axes.{test_of}
use Rattle.doc_table.specs.Documents.{documents_in}
use Rattle.doc_table.specs.Given.{is_given, option_given, trees_given}
use Rattle.doc_table.specs.Items.{IntItem, TextItem, UntypedItem, BoolItem, NodeItem}
use Rattle.doc_table.specs.NodeRules.{Docs}
use Rattle.doc_table.specs.Orders.{once}
use Rattle.doc_table.specs.Steps.{found, items_at, test_with, option_with}
use Rattle.doc_table.specs.Stores.{Holdings, AreGiven}
use Rattle.doc_table.specs.TestTexts.{test_given}
use Rattle.doc_table.specs.Tree.{text_in}
use Rattle.doc_table.proofs.GrownPools.{grown_pool_keeps}
use Rattle.xq_funs.specs.Answering.{atom_given}
use Rattle.plan_dag.specs.declared.cols.Col.{Col}
use Rattle.plan_dag.specs.declared.keys.Key.{Key}
use Rattle.plan_dag.specs.declared.op.Op.{Op}
use Rattle.plan_dag.specs.declared.op.Op.TheVariants as o
use Rattle.plan_dag.specs.Cells.{Rules}
use Rattle.plan_dag.specs.ItemRules.{Cell, item_rules, constant_cell, cells_found, cell_eq}
use Rattle.plan_dag.specs.Meaning.{Table, cell, cells, sort_keys, same_part, rows_of, table_over}
use Rattle.plan_dag.specs.Orders.{firsts}
use Rattle.plan_dag.specs.Rows.{all_same, keys_less, key_less, numbered, step_rows, steps_from, step_less, step_same, positive_in}
use Rattle.plan_dag.specs.Schema.{columns_of}
use Rattle.table_ops.specs.Demands.{rules_in}
use Rattle.table_ops.specs.Results.{op_table}
use Rattle.table_ops.specs.Standing.{standing, RowsGiven}
use Rattle.table_ops.proofs.MapLaws.{rows_later}
use Rattle.plan_eval.specs.Plans.{op_given}

module _ (docs : Docs) (s t : List Text) (same : (id : TextId) → is_given (length t) id ≡ true → text_in s id ≡ text_in t id) where
  abbrev R : Rules Cell
  R = item_rules docs s

  abbrev Q : Rules Cell
  Q = item_rules docs t

  constant-same : (v : Constant) → atom_given (length t) v ≡ true → constant_cell s v ≡ constant_cell t v
  constant-same (a.Int z) g = refl
  constant-same (a.Str id) g = ap TextItem (same id g)
  constant-same (a.Untyped id) g = ap UntypedItem (same id g)
  constant-same (a.Bool b) g = refl

  option-same : (id : Option TextId) → option_given (length t) id ≡ true → option_with (text_in s) id ≡ option_with (text_in t) id
  option-same None g = refl
  option-same (Some id) g = ap Some (same id g)

  test-same : (wanted : NodeTest) → test_given (length t) (test_of wanted) ≡ true → test_with (text_in s) (test_of wanted) ≡ test_with (text_in t) (test_of wanted)
  test-same w.Any g = refl
  test-same (w.Name id) g = ap (λ z. test_with (λ _. z) (test_of (w.Name id))) (same id g)
  test-same w.Star g = refl
  test-same w.Text g = refl
  test-same w.Comment g = refl
  test-same (w.Pi None) g = refl
  test-same (w.Pi (Some id)) g = ap (λ z. test_with (λ _. z) (test_of (w.Pi (Some id)))) (same id g)
  test-same w.Document g = refl
  test-same (w.Element None) g = refl
  test-same (w.Element (Some id)) g = ap (λ z. test_with (λ _. z) (test_of (w.Element (Some id)))) (same id g)
  test-same (w.Attribute None) g = refl
  test-same (w.Attribute (Some id)) g = ap (λ z. test_with (λ _. z) (test_of (w.Attribute (Some id)))) (same id g)

  all-same : (v u : List Cell) → all_same R v u ≡ all_same Q v u
  all-same [] [] = refl
  all-same [] (y ∷ u) = refl
  all-same (x ∷ v) [] = refl
  all-same (x ∷ v) (y ∷ u) = ap (λ z. cell_eq x y && z) (all-same v u)

  keys-same : (ks : List ((List Cell → Cell) × Bool)) (q r : List Cell) → keys_less R ks q r ≡ keys_less Q ks q r
  keys-same [] q r = refl
  keys-same (k ∷ ks) q r = ap (λ z. key_less R k.1 (k.0 q) (k.0 r) || (not (key_less R k.1 (k.0 r) (k.0 q)) && z)) (keys-same ks q r)

  numbered-same : (part lt : List Cell → List Cell → Bool) (all done rs : List (List Cell)) → numbered R part lt all done rs ≡ numbered Q part lt all done rs
  numbered-same part lt all done [] = refl
  numbered-same part lt all done (r ∷ rs) = λ i. numbered Q part lt all done (r ∷ []) ++ numbered-same part lt all (done ++ r ∷ []) rs i

  rownum-same : (cs : List Col) (ks : List Key) (part : Option Col) (rs : List (List Cell))
      → numbered R (same_part R cs part) (keys_less R (sort_keys R cs ks)) rs [] rs ≡ numbered Q (same_part Q cs part) (keys_less Q (sort_keys Q cs ks)) rs [] rs
  rownum-same cs ks None rs =
      numbered-same (same_part R cs None) (keys_less R (sort_keys R cs ks)) rs [] rs
      ∙ ap (λ lt. numbered Q (same_part Q cs None) lt rs [] rs) (λ i q r. keys-same (sort_keys R cs ks) q r i)
  rownum-same cs ks (Some c) rs =
      numbered-same (same_part R cs (Some c)) (keys_less R (sort_keys R cs ks)) rs [] rs
      ∙ ap (λ lt. numbered Q (same_part Q cs (Some c)) lt rs [] rs) (λ i q r. keys-same (sort_keys R cs ks) q r i)

  found-same : (axis : Axis) (wanted : NodeTest) → test_given (length t) (test_of wanted) ≡ true → (v : Cell) → cells_found s axis wanted v ≡ cells_found t axis wanted v
  found-same axis wanted g (IntItem z) = refl
  found-same axis wanted g (TextItem z) = refl
  found-same axis wanted g (UntypedItem z) = refl
  found-same axis wanted g (BoolItem z) = refl
  found-same axis wanted g (NodeItem n) = ap (λ z. items_at (found axis z n)) (test-same wanted g)

  steps-same : (axis : Axis) (wanted : NodeTest) → test_given (length t) (test_of wanted) ≡ true → (i v : Cell) → steps_from R axis wanted i v ≡ steps_from Q axis wanted i v
  steps-same axis wanted g i v = ap (λ z. flat_map (λ n. map (λ m. (i, m)) z) (positive_in R (R.int_in i))) (found-same axis wanted g v)

  step-same : (axis : Axis) (wanted : NodeTest) → test_given (length t) (test_of wanted) ≡ true → (f g : List Cell → Cell) (rs : List (List Cell)) → step_rows R axis wanted f g rs ≡ step_rows Q axis wanted f g rs
  step-same axis wanted given f g rs = ap (λ F. map (λ (p : Cell × Cell). p.0 ∷ p.1 ∷ []) (once (step_less R) (step_same R) (flat_map F rs))) (λ i r. steps-same axis wanted given (f r) (g r) i)

  pub rows-same : (op : Op) (l r : Table Cell) → op_given (length t) op ≡ true → rows_of R op l r ≡ rows_of Q op l r
  rows-same (o.Unit c) l r g = refl
  rows-same (o.Empty cs) l r g = refl
  rows-same (o.Project i ps) l r g = refl
  rows-same (o.Attach i c v) l r g = let p = and_parts (atom_given (length t) v) true g in ap (λ z. map (λ q. q ++ z ∷ []) l.rows) (constant-same v p.0)
  rows-same (o.Select i c) l r g = refl
  rows-same (o.Join i j a b) l r g = refl
  rows-same (o.Union i j) l r g = refl
  rows-same (o.Difference i j a b) l r g = refl
  rows-same (o.Distinct i cs) l r g = ap (λ eq. firsts eq [] l.rows) (λ i q r. all-same (cells R l.cols cs q) (cells R l.cols cs r) i)
  rows-same (o.Rownum i c ks part) l r g = rownum-same l.cols ks part l.rows
  rows-same (o.Count i g' c) l r g = refl
  rows-same (o.Aggregate i agg g' v c) l r g = refl
  rows-same (o.AggregateFails i agg code g' v) l r g = refl
  rows-same (o.Map i fun as' c) l r g = refl
  rows-same (o.MapFails i fun code as') l r g = refl
  rows-same (o.Range i a b c) l r g = refl
  rows-same (o.ExistsCompare i j op a v b w) l r g = refl
  rows-same (o.CompareFails i j op code a v b w) l r g = refl
  rows-same (o.Step i axis wanted site offset it n) l r g = step-same axis wanted g (cell R l.cols it) (cell R l.cols n) l.rows
  rows-same (o.Element i j site it p v) l r g = refl
  rows-same (o.Attribute i j site it p v) l r g = refl
  rows-same (o.Pi i j site it p v) l r g = refl
  rows-same (o.Text i j site it p v) l r g = refl
  rows-same (o.Comment i j site it p v) l r g = refl
  rows-same (o.Document i j site it p v) l r g = refl
  rows-same (o.ContentFails j place code it p v) l r g = refl

-- an operator's table over a longer pool
pub table-later : (old new : List Text) (h : Holdings) (op : Op) (L R : Table Cell) → take (length old) new ≡ old → trees_given (length old) h ≡ true → AreGiven old h.docs → op_given (length old) op ≡ true
    → table_over (rules_in new h) op L R ≡ table_over (rules_in old h) op L R
table-later old new h op L R later trees names given =
    let k = grown_pool_keeps old new later in
    ap (λ z. record { cols = columns_of op L.cols R.cols; rows = z })
    (ap (λ docs. rows_of (item_rules docs new) op L R) (k.documents h names trees) ∙ rows-same (documents_in old h) new old k.texts op L R given)

pub standing-later : (old new : List Text) (h : Holdings) (t : Table Item) → take (length old) new ≡ old → trees_given (length old) h ≡ true → RowsGiven old h t.rows → standing new h t ≡ standing old h t
standing-later old new h t later trees given = λ i. record { cols = t.cols; rows = rows_later old new h later trees t.rows given i }

pub op_table-later : (old new : List Text) (h : Holdings) (op : Op) (l r : Table Item) → take (length old) new ≡ old → trees_given (length old) h ≡ true → AreGiven old h.docs → op_given (length old) op ≡ true → RowsGiven old h l.rows → RowsGiven old h r.rows
    → op_table new h op l r ≡ op_table old h op l r
op_table-later old new h op l r later trees names given gl gr =
    ap (λ z. table_over (rules_in new h) op z (standing new h r)) (standing-later old new h l later trees gl)
    ∙ ap (λ z. table_over (rules_in new h) op (standing old h l) z) (standing-later old new h r later trees gr)
    ∙ table-later old new h op (standing old h l) (standing old h r) later trees names given
