-- The documents of a store over a pool that grew.
use Rattle.std.proofs.Common.{◌≡◌, ◌≤◌, true, List, [], ◌∷◌, length, take, refl, sym, ap, ◌∙◌, arith, Some}
use Rattle.xq_base.specs.declared.item.TextId.{TextId}
use Rattle.xq_base.specs.Answers.{Answer, Value, Fault, then_rule, with_value}
use Rattle.xq_base.specs.Texts.{Text}
use Rattle.xq_base.specs.Atoms.{Atom}
use Rattle.xq_base.specs.TextRules.{string_of}
use Rattle.doc_table.specs.Tree.{Tree}
use Rattle.doc_table.specs.Documents.{documents_in}
use Rattle.doc_table.specs.Given.{trees_given}
use Rattle.doc_table.specs.Items.{Item}
use Rattle.doc_table.specs.NodeRules.{Docs, doc_named, doc_or_none}
use Rattle.doc_table.specs.Values.{atomized}
use Rattle.doc_table.specs.Stores.{Holdings, AreGiven}
use Rattle.doc_table.proofs.GrownPools.{grown_pool_keeps}

pub names_given_later : (old new : List Text) → take (length old) new ≡ old → (docs : List (TextId × Tree TextId)) → AreGiven old docs → AreGiven new docs
names_given_later old new e docs g = by docs g
  where
    longer : length old ≤ length new
    longer = (grown_pool_keeps old new e).longer

    by : (docs : List (TextId × Tree TextId)) → AreGiven old docs → AreGiven new docs
    by [] g = tt
    by (d ∷ docs) g = (let l = longer in let k = g.0 in omega (arith, l, k), by docs g.1)

pub documents_later : (old new : List Text) → take (length old) new ≡ old → (h : Holdings) → AreGiven old h.docs → trees_given (length old) h ≡ true → documents_in new h ≡ documents_in old h
documents_later old new e h a g = (grown_pool_keeps old new e).documents h a g

-- the name of a document is a string or untyped
pub document_called : (docs : Docs) (v : Item Text) (a : Atom) (x : Answer Text) → a ≡ atomized v → x ≡ string_of a
    → then_rule (with_value Some (string_of (atomized v))) (doc_or_none docs) ≡ then_rule x (doc_named docs 0)
document_called docs v a x e d = ap (λ z. then_rule (with_value Some (string_of z)) (doc_or_none docs)) (sym e) ∙ ap (λ z. then_rule (with_value Some z) (doc_or_none docs)) (sym d) ∙ by x
  where
    by : (x : Answer Text) → then_rule (with_value Some x) (doc_or_none docs) ≡ then_rule x (doc_named docs 0)
    by (Value t) = refl
    by (Fault f) = refl
