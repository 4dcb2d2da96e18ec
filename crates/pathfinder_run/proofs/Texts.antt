-- What a pool that grew keeps.
use Rattle.std.proofs.Common.{◌≡◌, ◌<◌, ◌≤◌, ℕ, true, List, length}
use Rattle.std.proofs.lemmas.Bool.{lt-ltb}
use Rattle.xq_base.specs.declared.item.TextId.{TextId}
use Rattle.doc_table.specs.OtherTexts.{Grows}
use Rattle.doc_table.specs.Tree.{Tree, text_in, with_texts}
use Rattle.doc_table.specs.Given.{tree_given}
use Rattle.doc_table.proofs.GrownPools.{grown_pool_keeps}

pub not_shorter : (old new : List (List ℕ)) → Grows old new → length old ≤ length new
not_shorter old new e = (grown_pool_keeps old new e).longer

pub same_text : (old new : List (List ℕ)) → Grows old new → (id : TextId) → id.0 < length old → text_in new id ≡ text_in old id
same_text old new e id h = (grown_pool_keeps old new e).texts id (lt-ltb id.0 (length old) h)

pub same_tree : (old new : List (List ℕ)) → Grows old new → (t : Tree TextId) → tree_given (length old) t ≡ true → with_texts new t ≡ with_texts old t
same_tree old new e t h = (grown_pool_keeps old new e).trees t h
