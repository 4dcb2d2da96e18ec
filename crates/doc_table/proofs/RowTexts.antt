-- What is known of a node, by its row.
use Rattle.std.proofs.Common.{◌≡◌, ◌<◌, ◌≤◌, ◌+◌, ℕ, zero, suc, Bool, true, false, cond, List, [], ◌∷◌, ◌++◌, length, Option, Some, None, refl, sym, ap, ◌∙◌, arith, append_assoc}
use Rattle.std.specs.Prelude.{nat_eq, nat_lt, nat_le}
use Rattle.std.proofs.lemmas.Bool.{eqb-true, leb-true, and_parts, true≢false, false≢true}
use Rattle.std.proofs.lemmas.Option.{same_Some}
use Rattle.xq_base.specs.declared.fun.ItemKind.TheVariants as i
use Rattle.xq_base.specs.Texts.{Text}
use Rattle.doc_table.specs.Tree.{Label, OfDocument, OfElement, OfAttribute, OfText, OfComment, OfInstruction, Tree, Forest, Branch, no_more, one_more, root_of}
use Rattle.doc_table.specs.Paths.{Path, nth_pair, subtree, label_of_pair, label_in, label_at}
use Rattle.doc_table.specs.Enc.{Line, row_kind, row_name, row_value, enc_at, encs_at, enc, line_in}
use Rattle.doc_table.specs.Places.{Place, is_lone, path_at, names_node, node_at}
use Rattle.doc_table.specs.Identity.{TreeId, Node}
use Rattle.doc_table.specs.Attributes.{attributes_apart}
use Rattle.doc_table.specs.Nodes.{own_text, text_below, texts_below, text_of_tree, string_from, string_value, name_from, node_name, or_no_name, kind_of_label, label_of_node}
use Rattle.doc_table.specs.Steps.{option_with}
use Rattle.doc_table.specs.RowTexts.{text_of_row, texts_among, rows_from, string_of_row, pair_name, pair_value, item_kind, KnownByRow, NodesKnownByRow}
use Rattle.doc_table.proofs.Marks.{bridge}
use Rattle.doc_table.proofs.Subtrees.{Below, below-row}
use Rattle.doc_table.proofs.RowNodes.{IsNoAttribute, RowNode, row_node, lone_parts, named_row, attribute_label}

-- ---- the texts among the rows of a tree

texts-append : (xs ys : List (Line Text)) → texts_among (xs ++ ys) ≡ texts_among xs ++ texts_among ys
texts-append [] ys = refl
texts-append (x ∷ xs) ys = ap (λ z. text_of_row x.kind x.value ++ z) (texts-append xs ys) ∙ sym (append_assoc (text_of_row x.kind x.value) (texts_among xs) (texts_among ys))

own-text : (l : Label Text) → text_of_row (row_kind l) (row_value l) ≡ own_text l
own-text OfDocument = refl
own-text (OfElement n as') = refl
own-text (OfAttribute n v) = refl
own-text (OfText v) = refl
own-text (OfComment v) = refl
own-text (OfInstruction n v) = refl

mutual
  texts-below : (level : ℕ) (t : Tree Text) → texts_among (enc_at level t) ≡ text_below t
  texts-below level (Branch l f) = ap (λ z. z ++ texts_among (encs_at (level + 1) f)) (own-text l) ∙ ap (λ z. own_text l ++ z) (texts-in (level + 1) f)

  texts-in : (level : ℕ) (f : Forest Text) → texts_among (encs_at level f) ≡ texts_below f
  texts-in level no_more = refl
  texts-in level (one_more t ts) = texts-append (enc_at level t) (encs_at level ts) ∙ ap (λ z. z ++ texts_among (encs_at level ts)) (texts-below level t) ∙ ap (λ z. text_below t ++ z) (texts-in level ts)

-- ---- labels and rows

label-string : (l : Label Text) (below : Text) → IsNoAttribute l → string_from (Some l) below ≡ string_of_row (row_kind l) (row_value l) below
label-string OfDocument below p = refl
label-string (OfElement n as') below p = refl
label-string (OfAttribute n v) below p = absurd p
label-string (OfText v) below p = refl
label-string (OfComment v) below p = refl
label-string (OfInstruction n v) below p = refl

label-name : (l : Label Text) → IsNoAttribute l → name_from (Some l) ≡ or_no_name (row_name l)
label-name OfDocument p = refl
label-name (OfElement n as') p = refl
label-name (OfAttribute n v) p = absurd p
label-name (OfText v) p = refl
label-name (OfComment v) p = refl
label-name (OfInstruction n v) p = refl

label-kind : (l : Label Text) → IsNoAttribute l → kind_of_label l ≡ item_kind (row_kind l)
label-kind OfDocument p = refl
label-kind (OfElement n as') p = refl
label-kind (OfAttribute n v) p = absurd p
label-kind (OfText v) p = refl
label-kind (OfComment v) p = refl
label-kind (OfInstruction n v) p = refl

pair-string : (o : Option (Text × Text)) (below : Text) → string_from (label_of_pair o) below ≡ pair_value o
pair-string None below = refl
pair-string (Some a) below = refl

pair-named : (o : Option (Text × Text)) → name_from (label_of_pair o) ≡ pair_name o
pair-named None = refl
pair-named (Some a) = refl

pair-there : (as' : List (Text × Text)) (n : ℕ) → 0 < n → n ≤ length as' → option_with kind_of_label (label_of_pair (nth_pair as' n)) ≡ Some i.Attribute
pair-there [] n h k = absurd (omega arith)
pair-there (a ∷ as') zero h k = absurd (omega arith)
pair-there (a ∷ as') (suc zero) h k = refl
pair-there (a ∷ as') (suc (suc n)) h k = pair-there as' (suc n) (omega arith) (omega (arith, k))

-- ---- the node at a place

module _ (t : Tree Text) (id : TreeId) (p : Place) (apart : attributes_apart t ≡ true) (named : names_node t p ≡ true) where
  abbrev here : Node Text
  here = record { id = id; tree = t; path = node_at t p }

  abbrev line : Line Text
  line = line_in (enc t) p.pre

  abbrev known_if : Bool → Type 0
  known_if row =
      (string_value here ≡ cond row (string_of_row line.kind line.value (texts_among (rows_from t p.pre))) (pair_value (nth_pair line.attributes p.attr)))
      × (node_name here ≡ cond row (or_no_name line.name) (pair_name (nth_pair line.attributes p.attr)))
      × (option_with kind_of_label (label_of_node here) ≡ Some (cond row (item_kind line.kind) i.Attribute))

  -- the node of a row
  of-row : p.attr ≡ 0 → is_lone t ≡ false → known_if true
  of-row z lone =
      let v : ℕ = p.pre in
      let within : v < length (enc t) = named_row t p (bridge t) named in
      let r : RowNode t v = row_node t v apart lone within in
      let b : Below (λ x y. false) (λ x. false) t v = below-row (λ x y. false) (λ x. false) t v within in
      let same : r.tree ≡ b.tree = same_Some r.tree b.tree (sym r.path ∙ b.path) in
      let path : node_at t p ≡ record { steps = path_at t v; attr = 0 } = ap (λ c. cond c (record { steps = []; attr = 0 }) (record { steps = path_at t v; attr = p.attr })) lone ∙ ap (λ k. record { steps = path_at t v; attr = k }) z in
      let whole : string_value here ≡ string_from (Some (root_of r.tree)) (text_below r.tree) =
      ap (λ (q : Path). string_from (label_at t q) (text_of_tree (subtree q.steps t))) path ∙ ap (λ o. string_from (label_in 0 o) (text_of_tree o)) r.path in
      let rows : texts_among (rows_from t v) ≡ text_below r.tree = ap texts_among b.rows ∙ texts-below line.level b.tree ∙ ap text_below (sym same) in
      let label : label_of_node here ≡ Some (root_of r.tree) = ap (label_at t) path ∙ ap (label_in 0) r.path in (
        whole ∙ label-string (root_of r.tree) (text_below r.tree) r.plain ∙ ap (string_of_row (row_kind (root_of r.tree)) (row_value (root_of r.tree))) (sym rows) ∙ ap (λ (x : Line Text). string_of_row x.kind x.value (texts_among (rows_from t v))) (sym r.line),
        ap name_from label ∙ label-name (root_of r.tree) r.plain ∙ ap (λ (x : Line Text). or_no_name x.name) (sym r.line),
        ap (option_with kind_of_label) label ∙ ap Some (label-kind (root_of r.tree) r.plain) ∙ ap (λ (x : Line Text). Some (item_kind x.kind)) (sym r.line),
      )

  -- the attribute of a row
  of-attribute : 0 < p.attr → p.attr ≤ length line.attributes → known_if false
  of-attribute above few =
      let label : label_of_node here ≡ label_of_pair (nth_pair line.attributes p.attr) = attribute_label t p (bridge t) apart named above in (
        ap (λ o. string_from o (text_of_tree (subtree (node_at t p).steps t))) label ∙ pair-string (nth_pair line.attributes p.attr) (text_of_tree (subtree (node_at t p).steps t)),
        ap name_from label ∙ pair-named (nth_pair line.attributes p.attr),
        ap (option_with kind_of_label) label ∙ pair-there line.attributes p.attr above few,
      )

  lone-line : (u : Tree Text) → is_lone u ≡ true → length (line_in (enc u) 0).attributes ≡ 1
  lone-line (Branch OfDocument f) e = absurd (false≢true e)
  lone-line (Branch (OfElement n as') f) e = absurd (false≢true e)
  lone-line (Branch (OfAttribute n v) f) e = refl
  lone-line (Branch (OfText v) f) e = absurd (false≢true e)
  lone-line (Branch (OfComment v) f) e = absurd (false≢true e)
  lone-line (Branch (OfInstruction n v) f) e = absurd (false≢true e)

  few-attributes : (lone : Bool) → is_lone t ≡ lone → p.attr ≤ length line.attributes
  few-attributes true e =
      let q = lone_parts t p e named in
      let first : length line.attributes ≡ 1 = ap (λ v. length (line_in (enc t) v).attributes) q.0 ∙ lone-line t e in
      omega (arith, q.1, first)
  few-attributes false e = leb-true p.attr (length line.attributes) (and_parts (nat_lt p.pre (length (enc t))) (nat_le p.attr (length line.attributes)) (rw e at named)).1

  not-lone : p.attr ≡ 0 → (lone : Bool) → is_lone t ≡ lone → is_lone t ≡ false
  not-lone z true e = let q = lone_parts t p e named in absurd (omega (arith, q.1, z))
  not-lone z false e = e

  known : (row : Bool) → nat_eq p.attr 0 ≡ row → known_if row
  known true e = let z : p.attr ≡ 0 = eqb-true p.attr 0 e in of-row z (not-lone z (is_lone t) refl)
  known false e = of-attribute (above p.attr e) (few-attributes (is_lone t) refl)
    where
      above : (n : ℕ) → nat_eq n 0 ≡ false → 0 < n
      above zero h = absurd (true≢false h)
      above (suc n) h = omega arith

  pub node-known : KnownByRow t here p
  node-known = let all = known (nat_eq p.attr 0) refl in record { string = all.0; name = all.1; kind = all.2 }

pub known_by_row : NodesKnownByRow
known_by_row t id p apart named = node-known t id p apart named
