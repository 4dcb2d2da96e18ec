-- Functions of nodes, on arguments of one item each.
use Rattle.std.proofs.Common.{◌≡◌, ◌<◌, ℕ, zero, suc, Bool, true, false, ◌&&◌, cond, List, [], ◌∷◌, length, Option, Some, None, refl, sym, ap, ◌∙◌, arith, subst}
use Rattle.std.proofs.lemmas.Bool.{true≢false, false≢true, and_parts}
use Rattle.std.specs.Prelude.{slice_index_or}
use Rattle.std.specs.List.{list_all}
use Rattle.xq_base.specs.declared.item.TextId.{TextId}
use Rattle.xq_base.specs.declared.item.FragKey.{FragKey}
use Rattle.xq_base.specs.declared.item.NodeRef.{NodeRef}
use Rattle.xq_base.specs.declared.fun.Fun.{Fun}
use Rattle.xq_base.specs.declared.fun.Fun.TheVariants as f
use Rattle.xq_base.specs.declared.fun.ItemKind.TheVariants as k
use Rattle.xq_base.specs.Answers.{with_value, both_of}
use Rattle.xq_base.specs.Texts.{Text}
use Rattle.doc_table.specs.Tree.{AttributeNode, Label, OfDocument, OfElement, OfAttribute, OfText, OfComment, OfInstruction, Tree, kind_of, label_with, tree_with, with_texts, text_in}
use Rattle.doc_table.specs.TextRows.{text_or_none}
use Rattle.doc_table.specs.RowTexts.{item_kind}
use Rattle.doc_table.specs.Paths.{label_at}
use Rattle.doc_table.specs.Enc.{row_kind, row_name, enc, line_in}
use Rattle.doc_table.specs.Axes.{id_eq, kind_eq}
use Rattle.doc_table.specs.Places.{Place, names_node, node_at, is_lone}
use Rattle.doc_table.specs.Spine.{is_empty_id}
use Rattle.doc_table.specs.Sound.{is_sound}
use Rattle.doc_table.specs.Given.{is_given, option_given, pair_given, tree_given, trees_given}
use Rattle.doc_table.specs.Nodes.{name_from, root_node}
use Rattle.doc_table.specs.Identity.{node_of, node_eq, place_of, ref_eq}
use Rattle.doc_table.specs.Items.{Item, TextItem}
use Rattle.doc_table.specs.Kept.{root_or}
use Rattle.doc_table.specs.Stores.{Holdings, tree_at}
use Rattle.doc_table.specs.StoredItems.{trees_of, IsNodeOf}
use Rattle.doc_table.specs.Values as v
use Rattle.doc_table.specs.Values.{Items}
use Rattle.doc_table.specs.NodeRules.{Docs, maybe_node, on_both, name_or_empty}
use Rattle.doc_table.specs.Functions.{fun_answer}
use Rattle.doc_table.proofs.Finds.{under-key}
use Rattle.doc_table.proofs.ByTexts.{alike_by_text}
use Rattle.doc_table.proofs.OtherTexts.{lone-with}
use Rattle.doc_table.proofs.Orders.{references_in_order}
use Rattle.doc_table.proofs.SetLaws.{root_reference}
use Rattle.doc_table.proofs.NodeLaws.{one_reference, same-ref}
use Rattle.doc_table.proofs.StrictOrders.{refs_order}
use Rattle.doc_table.proofs.StringValues.{labelled, line-given}
use Rattle.xq_funs.specs.NodeCalls.{is_node_comparison, nodes_stand, refs_stand, is_naming, name_for}

both-ways : (a b : Bool) → (a ≡ true → b ≡ true) → (b ≡ true → a ≡ true) → a ≡ b
both-ways true true g h = refl
both-ways false false g h = refl
both-ways true false g h = sym (g refl)
both-ways false true g h = h refl

-- ---- comparisons

module _ (texts : List Text) (h : Holdings) where
  abbrev trees : FragKey → Tree Text
  trees key = with_texts texts (trees_of h key)

  named : (r : NodeRef) → IsNodeOf h r (tree_at h r.frag) → names_node (with_texts texts (trees_of h r.frag)) (place_of r) ≡ true
  named r n = (alike_by_text texts (trees_of h r.frag)).named (place_of r) ∙ by (tree_at h r.frag) n
    where
      by : (o : Option (Tree TextId)) → IsNodeOf h r o → names_node (root_or o) (place_of r) ≡ true
      by None m = absurd m
      by (Some t) m = m

  pub stand : (fun : Fun) (r s : NodeRef) → IsNodeOf h r (tree_at h r.frag) → IsNodeOf h s (tree_at h s.frag)
      → refs_stand fun r s ≡ nodes_stand fun (node_of (λ key. with_texts texts (trees_of h key)) r) (node_of (λ key. with_texts texts (trees_of h key)) s)
  stand f.Is r s n m =
      let both = one_reference (λ key. with_texts texts (trees_of h key)) r s (named r n) (named s m) in
      both-ways (ref_eq r s) (node_eq (node_of (λ key. with_texts texts (trees_of h key)) r) (node_of (λ key. with_texts texts (trees_of h key)) s))
      (λ e. both.1 (same-ref r s e)) (λ e. ap (ref_eq r) (sym (both.0 e)) ∙ refs_order.eq_self r)
  stand f.Before r s n m = sym (references_in_order (λ key. with_texts texts (trees_of h key)) r s (named r n) (named s m))
  stand f.After r s n m = sym (references_in_order (λ key. with_texts texts (trees_of h key)) s r (named s m) (named r n))
  stand _ r s n m = refl

  -- ---- the root

  pub root_is : (r : NodeRef) (t : Tree TextId) → tree_at h r.frag ≡ Some t
      → node_of (λ key. with_texts texts (trees_of h key)) (record { frag = r.frag; pre = 0; attr = cond (is_lone t) 1 0 }) ≡ root_node (node_of (λ key. with_texts texts (trees_of h key)) r)
  root_is r t e =
      let same : is_lone t ≡ is_lone (with_texts texts (trees_of h r.frag)) = sym (lone-with (text_in texts) (trees_of h r.frag) ∙ ap is_lone (ap root_or e)) in
      ap (λ b. node_of (λ key. with_texts texts (trees_of h key)) (record { frag = r.frag; pre = 0; attr = cond b 1 0 })) same ∙ (root_reference (λ key. with_texts texts (trees_of h key)) r).1

pub root_named : (h : Holdings) (r : NodeRef) (t : Tree TextId) → tree_at h r.frag ≡ Some t → IsNodeOf h (record { frag = r.frag; pre = 0; attr = cond (is_lone t) 1 0 }) (tree_at h r.frag)
root_named h r t e =
    let here : trees_of h r.frag ≡ t = ap root_or e in
    subst (IsNodeOf h (record { frag = r.frag; pre = 0; attr = cond (is_lone t) 1 0 })) (sym e)
    (subst (λ u. names_node u (record { pre = 0; attr = cond (is_lone u) 1 0 }) ≡ true) here (root_reference (trees_of h) r).0)

pub compared : (docs : Docs) (fun : Fun) (u w : Item Text) → is_node_comparison fun ≡ true
    → fun_answer docs fun ((u ∷ []) ∷ (w ∷ []) ∷ []) ≡ with_value (on_both (nodes_stand fun)) (both_of (maybe_node (u ∷ [])) (maybe_node (w ∷ [])))
compared docs f.Is u w h = refl
compared docs f.Before u w h = refl
compared docs f.After u w h = refl
compared docs _ u w h = absurd (false≢true h)

-- ---- names

pub naming : (docs : Docs) (fun : Fun) (u : Item Text) → is_naming fun ≡ true → fun_answer docs fun ((u ∷ []) ∷ []) ≡ with_value (λ n. TextItem (name_for fun (name_or_empty n)) ∷ []) (maybe_node (u ∷ []))
naming docs f.Name u h = refl
naming docs f.LocalName u h = refl
naming docs _ u h = absurd (false≢true h)

row-label : (texts : List Text) (l : Label TextId) → kind_eq AttributeNode (kind_of l) ≡ false → text_or_none texts (row_name l) ≡ name_from (Some (label_with (text_in texts) l))
row-label texts OfDocument h = refl
row-label texts (OfElement n as') h = refl
row-label texts (OfAttribute n v) h = absurd (true≢false h)
row-label texts (OfText v) h = refl
row-label texts (OfComment v) h = refl
row-label texts (OfInstruction n v) h = refl

pub row_named : (texts : List Text) (t : Tree TextId) (p : Place) → is_sound id_eq is_empty_id t ≡ true → names_node t p ≡ true → p.attr ≡ 0
    → text_or_none texts (line_in (enc t) p.pre).name ≡ name_from (label_at (tree_with (text_in texts) t) (node_at (tree_with (text_in texts) t) p))
row_named texts t p sound n z =
    let l = labelled texts t p sound n in
    ap (text_or_none texts) (l.name z) ∙ row-label texts l.label (l.apart z) ∙ ap name_from (sym l.is)

pub attribute_named : (texts : List Text) (t : Tree TextId) (p : Place) (j : ℕ) (d : TextId × TextId) → is_sound id_eq is_empty_id t ≡ true → names_node t p ≡ true → p.attr ≡ suc j
    → text_in texts (slice_index_or (line_in (enc t) p.pre).attributes j d).0 ≡ name_from (label_at (tree_with (text_in texts) t) (node_at (tree_with (text_in texts) t) p))
attribute_named texts t p j d sound n z =
    let l = labelled texts t p sound n in
    ap (λ x. name_from (Some (label_with (text_in texts) x))) (sym (l.attribute j d z)) ∙ ap name_from (sym l.is)

all-at : {A : Type 0} (p : A → Bool) (xs : List A) (j : ℕ) (d : A) → j < length xs → list_all p xs ≡ true → p (slice_index_or xs j d) ≡ true
all-at p [] j d l e = absurd (omega arith)
all-at p (x ∷ xs) zero d l e = (and_parts (p x) (list_all p xs) e).0
all-at p (x ∷ xs) (suc j) d l e = all-at p xs j d (omega arith) (and_parts (p x) (list_all p xs) e).1

pub row_given : (n : ℕ) (t : Tree TextId) (v : ℕ) → v < length (enc t) → tree_given n t ≡ true → option_given n (line_in (enc t) v).name ≡ true
row_given n t v l g =
    let line = line_in (enc t) v in
    (and_parts (option_given n line.name) (option_given n line.value) (and_parts (option_given n line.name && option_given n line.value) (list_all (pair_given n) line.attributes) (line-given n t v l g)).0).0

pub attribute_name_given : (n : ℕ) (t : Tree TextId) (v j : ℕ) (d : TextId × TextId) → v < length (enc t) → j < length (line_in (enc t) v).attributes → tree_given n t ≡ true
    → is_given n (slice_index_or (line_in (enc t) v).attributes j d).0 ≡ true
attribute_name_given n t v j d l m g =
    let line = line_in (enc t) v in
    (and_parts (is_given n (slice_index_or line.attributes j d).0) (is_given n (slice_index_or line.attributes j d).1)
    (all-at (pair_given n) line.attributes j d m (and_parts (option_given n line.name && option_given n line.value) (list_all (pair_given n) line.attributes) (line-given n t v l g)).1)).0

-- ---- kinds

row-kind : (texts : List Text) (l : Label TextId) → kind_eq AttributeNode (kind_of l) ≡ false → item_kind (row_kind l) ≡ v.kind_at (Some (label_with (text_in texts) l))
row-kind texts OfDocument h = refl
row-kind texts (OfElement n as') h = refl
row-kind texts (OfAttribute n v) h = absurd (true≢false h)
row-kind texts (OfText v) h = refl
row-kind texts (OfComment v) h = refl
row-kind texts (OfInstruction n v) h = refl

pub row_kind_is : (texts : List Text) (t : Tree TextId) (p : Place) → is_sound id_eq is_empty_id t ≡ true → names_node t p ≡ true → p.attr ≡ 0
    → item_kind (line_in (enc t) p.pre).kind ≡ v.kind_at (label_at (tree_with (text_in texts) t) (node_at (tree_with (text_in texts) t) p))
row_kind_is texts t p sound n z =
    let l = labelled texts t p sound n in
    ap item_kind (l.kind z) ∙ row-kind texts l.label (l.apart z) ∙ ap v.kind_at (sym l.is)

pub attribute_kind_is : (texts : List Text) (t : Tree TextId) (p : Place) (j : ℕ) → is_sound id_eq is_empty_id t ≡ true → names_node t p ≡ true → p.attr ≡ suc j
    → k.Attribute ≡ v.kind_at (label_at (tree_with (text_in texts) t) (node_at (tree_with (text_in texts) t) p))
attribute_kind_is texts t p j sound n z =
    let l = labelled texts t p sound n in
    let d : TextId × TextId = (record { 0 = 0 }, record { 0 = 0 }) in
    ap (λ x. v.kind_at (Some (label_with (text_in texts) x))) (sym (l.attribute j d z)) ∙ ap v.kind_at (sym l.is)

-- ---- nodes of a store

pub named_under : (h : Holdings) (r : NodeRef) (t : Tree TextId) → IsNodeOf h r (tree_at h r.frag) → tree_at h r.frag ≡ Some t → names_node t (place_of r) ≡ true
named_under h r t n e = subst (λ o. IsNodeOf h r o) e n

-- what is said of the tree under a key is said of the node
pub under_key : {A : Type 0} (g : Option (Label Text) → A) (texts : List Text) (h : Holdings) (r : NodeRef) (t : Tree TextId) → tree_at h r.frag ≡ Some t
    → g (label_at (with_texts texts t) (node_at (with_texts texts t) (place_of r))) ≡ g (label_at (with_texts texts (trees_of h r.frag)) (node_at (with_texts texts (trees_of h r.frag)) (place_of r)))
under_key g texts h r t e = ap (λ u. g (label_at (with_texts texts u) (node_at (with_texts texts u) (place_of r)))) (sym (ap root_or e))

pub tree_given_under : (n : ℕ) (h : Holdings) (key : FragKey) (t : Tree TextId) → trees_given n h ≡ true → tree_at h key ≡ Some t → tree_given n t ≡ true
tree_given_under n h key t g e =
    let p = and_parts (list_all (λ d. tree_given n d.1) h.docs) (list_all (λ b. tree_given n b.1) h.built) g in
    under-key (tree_given n) h key t p.0 p.1 e
