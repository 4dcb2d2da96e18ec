-- From what the loop reads to what the grammar says.
use Rattle.std.proofs.Common.{◌≡◌, ℕ, ◌+◌, ◌<◌, ◌≤◌, true, false, nat_lt, List, [], ◌∷◌, length, map, Some, None, refl, sym, ap, ◌∙◌, subst, arith, true≢false}
use Rattle.std.proofs.lemmas.Option.{same_Some}
use Rattle.std.proofs.lemmas.Bool.{ltb-true, lt-ltb}
use Rattle.xq_base.specs.declared.item.TextId.{TextId}
use Rattle.doc_table.specs.Tree.{Tree, Branch, OfDocument, forest_of, text_in, with_texts}
use Rattle.doc_table.specs.Spine.{Open, Spine, closed, close_in, tree_of, open_with}
use Rattle.doc_table.specs.Places.{is_lone, names_node}
use Rattle.doc_table.specs.Given.{tree_given}
use Rattle.doc_table.proofs.SpineLaws.{tree-with}
use Rattle.doc_table.proofs.OtherTexts.{lone-with}
use Rattle.doc_table.proofs.GivenLaws.{tree_given_by_texts, root_named}
use Rattle.doc_shred.specs.declared.refusal.ShredFault.{ShredFault}
use Rattle.doc_shred.specs.declared.refusal.ShredFault.TheVariants.{NotWellFormed, Unsupported, TooDeep, NoMemory}
use Rattle.doc_shred.specs.Content.{Text}
use Rattle.doc_shred.specs.Document as d
use Rattle.doc_shred.specs.Limits.{level_limit}
use Rattle.doc_shred.specs.Document.{text_of, IsDocument, IsUnsupported, IsTooDeep, deepest}
use Rattle.doc_shred.specs.Walk as w
use Rattle.doc_shred.specs.Standing.{Texts, seen}
use Rattle.doc_shred.specs.Refusals.{DocumentRead, DocumentRefused}
use Rattle.doc_shred.proofs.Depths.{deepest_with}
use Rattle.doc_shred.proofs.Documents.{document_with, document_sound, document_complete, unsupported_sound, unsupported_complete}
use Rattle.doc_shred.proofs.LineLaws.{text_shorter}
use Rattle.doc_shred.proofs.Spines.{later_self}

pub text_fits : (bytes text : List ℕ) (limit : ℕ) → text ≡ text_of bytes → length bytes ≤ limit → length text ≤ limit
text_fits bytes text limit e l = omega (arith, ap length e, text_shorter bytes)

not_unsupported : (bytes : List ℕ) → w.is_unsupported (text_of bytes) ≡ false → ¬ IsUnsupported bytes
not_unsupported bytes e u = true≢false (sym (unsupported_complete (text_of bytes) u) ∙ e)

-- ---- refusals

pub unsupported_cause : (bytes text : List ℕ) (fault : ShredFault) → text ≡ text_of bytes → DocumentRefused text fault → fault ≡ Unsupported → IsUnsupported bytes
unsupported_cause bytes text NotWellFormed e r f = cc
unsupported_cause bytes text Unsupported e r f = unsupported_sound (text_of bytes) (subst (λ z. w.is_unsupported z ≡ true) e r)
unsupported_cause bytes text TooDeep e r f = absurd r
unsupported_cause bytes text NoMemory e r f = cc

pub malformed_cause : (bytes text : List ℕ) (fault : ShredFault) → text ≡ text_of bytes → DocumentRefused text fault → fault ≡ NotWellFormed → (¬ IsUnsupported bytes) × ((tree : Tree Text) → ¬ IsDocument bytes tree)
malformed_cause bytes text NotWellFormed e r f = (
  not_unsupported bytes (subst (λ z. w.is_unsupported z ≡ false) e r.0),
  λ tree i.
      let some = document_complete (text_of bytes) i.0 i.2 in
      let none : w.document (text_of bytes) ≡ None = subst (λ z. w.document z ≡ None) e r.1 in
      differ _ (sym some ∙ none),
)
  where
    differ : (os : w.Nodes) → Some os ≡ None → ⊥
    differ os h = cc
malformed_cause bytes text Unsupported e r f = cc
malformed_cause bytes text TooDeep e r f = absurd r
malformed_cause bytes text NoMemory e r f = cc

pub never_deep : (text : List ℕ) (fault : ShredFault) → DocumentRefused text fault → fault ≡ TooDeep → ⊥
never_deep text NotWellFormed r f = cc
never_deep text Unsupported r f = cc
never_deep text TooDeep r f = r
never_deep text NoMemory r f = cc

-- ---- the tree

module _ (bytes text : List ℕ) (texts : Texts) (s shut : Spine TextId) (fragment : Tree TextId) (e : text ≡ text_of bytes) (read : DocumentRead texts s text) (closes : shut ≡ closed s) (root : shut.root ≡ Some fragment) where
  pub supported : ¬ IsUnsupported bytes
  supported = not_unsupported bytes (subst (λ z. w.is_unsupported z ≡ false) e read.plain)

  tree_in : w.Nodes → Tree Text
  tree_in [] = Branch OfDocument (forest_of [])
  tree_in (p ∷ ps) = tree_of p

  -- with the texts of any pool, the fragment is the one open node that was seen with them
  seen_tree : (final : Texts) → with_texts final fragment ≡ tree_in (seen final s)
  unfolding tree_in
  seen_tree final = by s.nodes refl read.state.depth
    where
      by : (os : List (Open TextId)) → s.nodes ≡ os → length os ≡ 0 + 1 → with_texts final fragment ≡ tree_in (seen final s)
      by [] f l = absurd (omega arith)
      by (o ∷ q ∷ os) f l = absurd (omega arith)
      by (o ∷ []) f l =
          let ended : closed s ≡ close_in s.root (o ∷ []) = ap (close_in s.root) f in
          let same : tree_of o ≡ fragment = same_Some (tree_of o) fragment (sym (ap (λ (z : Spine TextId). z.root) (closes ∙ ended)) ∙ root) in
          ap (with_texts final) (sym same) ∙ tree-with (text_in final) o ∙ ap (λ os. tree_in (map (open_with (text_in final)) os)) (sym f)

  pub whole_tree : IsDocument bytes (with_texts texts fragment)
  unfolding tree_in
  whole_tree =
      let found : (kids : List (Tree Text)) × (seen texts s ≡ document_with kids) × d.document (text_of bytes) [] kids
      = document_sound (text_of bytes) (seen texts s) (ap w.document (sym e) ∙ read.reads texts (later_self texts)) in
      (found.0, seen_tree texts ∙ ap tree_in found.1, found.2)

  -- every later pool gives the fragment the texts of the document
  pub given_tree : tree_given (length texts) fragment ≡ true
  given_tree = tree_given_by_texts texts fragment (λ final k.
      let same : seen final s ≡ seen texts s = same_Some (seen final s) (seen texts s) (sym (read.reads final k) ∙ read.reads texts (later_self texts)) in
      seen_tree final ∙ ap tree_in same ∙ sym (seen_tree texts))

-- the document node is the node of row 0
pub document_named : (bytes : List ℕ) (texts : Texts) (fragment : Tree TextId) → IsDocument bytes (with_texts texts fragment) → names_node fragment (record { pre = 0; attr = 0 }) ≡ true
document_named bytes texts fragment i = root_named fragment (sym (lone-with (text_in texts) fragment) ∙ ap is_lone i.1)

pub level_kept : (texts : Texts) (fragment : Tree TextId) → nat_lt level_limit (deepest fragment) ≡ false → ¬ IsTooDeep (with_texts texts fragment)
level_kept texts fragment e h =
    let deep : level_limit < deepest fragment = subst (λ n. level_limit < n) (deepest_with (text_in texts) fragment) h in
    true≢false (sym (lt-ltb level_limit (deepest fragment) deep) ∙ e)

pub level_passed : (texts : Texts) (fragment : Tree TextId) → nat_lt level_limit (deepest fragment) ≡ true → IsTooDeep (with_texts texts fragment)
level_passed texts fragment e = subst (λ n. level_limit < n) (sym (deepest_with (text_in texts) fragment)) (ltb-true level_limit (deepest fragment) e)
