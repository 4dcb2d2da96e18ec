-- Lists of one item.
use Rattle.std.proofs.Common.{◌≡◌, ◌<◌, ◌≤◌, List, [], ◌∷◌, length, map, refl, arith}
use Rattle.std.specs.Prelude.{slice_index_or}
use Rattle.xq_base.specs.declared.item.TextId.{TextId}
use Rattle.xq_base.specs.declared.item.FragKey.{FragKey}
use Rattle.xq_base.specs.declared.item.Item.{Item as Held}
use Rattle.xq_base.specs.Answers.{Value}
use Rattle.xq_base.specs.Texts.{Text}
use Rattle.doc_table.specs.Tree.{Tree}
use Rattle.doc_table.specs.Items.{item_of}
use Rattle.doc_table.specs.Values.{boolean_value, truth_of}

pub one_truth : (texts : List Text) (trees : FragKey → Tree TextId) (xs : List Held) (d : Held) → 1 ≤ length xs → length xs < 2
    → boolean_value (map (item_of texts trees) xs) ≡ Value (truth_of (item_of texts trees (slice_index_or xs 0 d)))
one_truth texts trees [] d l h = absurd (omega arith)
one_truth texts trees (x ∷ []) d l h = refl
one_truth texts trees (x ∷ y ∷ xs) d l h = absurd (omega arith)
