-- What is asked of text numbers has the same answer over the texts.
use Rattle.std.proofs.Common.{◌≡◌, ◌+◌, ℕ, zero, suc, true, not, ◌&&◌, List, [], ◌∷◌, length, map, Option, Some, None, refl, sym, ap, ◌∙◌}
use Rattle.std.proofs.lemmas.Bool.{eq-eqb, eqb-true, ltb-true, and_parts}
use Rattle.std.proofs.lemmas.List.Folds.{list_all-append}
use Rattle.std.specs.Prelude.{slice_get}
use Rattle.std.specs.List.{list_all}
use Rattle.xq_base.specs.declared.item.TextId.{TextId}
use Rattle.xq_base.specs.Pool.{NoRepeats}
use Rattle.xq_base.specs.Texts.{Text, text_eq, is_empty_text}
use Rattle.doc_table.specs.Tree.{Label, OfDocument, OfElement, OfAttribute, OfText, OfComment, OfInstruction, Tree, Forest, Branch, no_more, one_more, root_of, children_of, attributes_of, name_of, pair_with, label_with, tree_with, forest_with, text_in}
use Rattle.doc_table.specs.Paths.{nth_tree, nth_pair, tree_then, subtree, label_of_pair, label_in, label_at}
use Rattle.doc_table.specs.Enc.{line_of, enc_at, encs_at}
use Rattle.doc_table.specs.Axes.{id_eq, on_axis, selects_label}
use Rattle.doc_table.specs.Sound.{names_differ, sound_label, has_children, may_be_child, is_empty_forest, begins_with_text, is_sound, are_sound}
use Rattle.doc_table.specs.Spine.{is_empty_id, is_named, is_text}
use Rattle.doc_table.specs.Given.{is_given, option_given, pair_given, line_given}
use Rattle.doc_table.specs.Steps.{option_with, test_with}
use Rattle.doc_table.specs.OtherTexts.{AlikeByText, SoundByText, StepsByText}
use Rattle.doc_table.proofs.GrownPools.{LabelGiven, label_parts}
use Rattle.doc_table.proofs.OtherTexts.{stands_alike, label_at-with}
use Rattle.doc_table.proofs.TextTests.{ids, got, same-test, tests_by_text}

pub alike_by_text : AlikeByText
alike_by_text texts t = stands_alike (text_in texts) t

-- ---- the restrictions of the data model

is_empty : (t : Text) → is_empty_text t ≡ true → t ≡ []
is_empty [] h = refl
is_empty (c ∷ cs) h = cc

module _ (texts : List Text) (apart : NoRepeats texts) (first : slice_get texts 0 ≡ Some []) where
  abbrev f : TextId → Text
  f = text_in texts

  empty-same : (v : TextId) → is_given (length texts) v ≡ true → is_empty_text (f v) ≡ is_empty_id v
  empty-same v h =
      let there : slice_get texts v.0 ≡ Some (f v) = got texts v.0 (ltb-true v.0 (length texts) h) in
      same-test (is_empty_text (f v)) (is_empty_id v)
      (λ e. eq-eqb v.0 0 (apart v.0 0 [] (there ∙ ap Some (is_empty (f v) e)) first))
      (λ e. let same : Some (f v) ≡ Some [] = sym there ∙ ap (slice_get texts) (eqb-true v.0 0 e) ∙ first in ap is_empty_text (let q : f v ≡ [] = cc in q))

  named-same : (n : TextId) (as' : List (TextId × TextId)) → is_given (length texts) n ≡ true → list_all (pair_given (length texts)) as' ≡ true → is_named text_eq (f n) (map (pair_with f) as') ≡ is_named id_eq n as'
  named-same n [] h k = refl
  named-same n (a ∷ as') h k =
      let p = and_parts (pair_given (length texts) a) (list_all (pair_given (length texts)) as') k in
      let q = and_parts (is_given (length texts) a.0) (is_given (length texts) a.1) p.0 in
      rw (ids texts n a.0 apart h q.0, named-same n as' h p.1) refl

  differ-same : (as' : List (TextId × TextId)) → list_all (pair_given (length texts)) as' ≡ true → names_differ text_eq (map (pair_with f) as') ≡ names_differ id_eq as'
  differ-same [] k = refl
  differ-same (a ∷ as') k =
      let p = and_parts (pair_given (length texts) a) (list_all (pair_given (length texts)) as') k in
      let q = and_parts (is_given (length texts) a.0) (is_given (length texts) a.1) p.0 in
      rw (named-same a.0 as' q.0 p.1, differ-same as' p.1) refl

  label-same : (l : Label TextId) → LabelGiven (length texts) l → sound_label text_eq (label_with f l) ≡ sound_label id_eq l
  label-same OfDocument g = refl
  label-same (OfElement n as') g = differ-same as' g.attributes
  label-same (OfAttribute n v) g = refl
  label-same (OfText v) g = refl
  label-same (OfComment v) g = refl
  label-same (OfInstruction n v) g = refl

  child-same : (l : Label TextId) → LabelGiven (length texts) l → may_be_child is_empty_text (label_with f l) ≡ may_be_child is_empty_id l
  child-same OfDocument g = refl
  child-same (OfElement n as') g = refl
  child-same (OfAttribute n v) g = refl
  child-same (OfText v) g = ap not (empty-same v g.value)
  child-same (OfComment v) g = refl
  child-same (OfInstruction n v) g = refl

  children-same : (l : Label TextId) → has_children (label_with f l) ≡ has_children l
  children-same OfDocument = refl
  children-same (OfElement n as') = refl
  children-same (OfAttribute n v) = refl
  children-same (OfText v) = refl
  children-same (OfComment v) = refl
  children-same (OfInstruction n v) = refl

  text-same : (l : Label TextId) → is_text (label_with f l) ≡ is_text l
  text-same OfDocument = refl
  text-same (OfElement n as') = refl
  text-same (OfAttribute n v) = refl
  text-same (OfText v) = refl
  text-same (OfComment v) = refl
  text-same (OfInstruction n v) = refl

  none-same : (ts : Forest TextId) → is_empty_forest (forest_with f ts) ≡ is_empty_forest ts
  none-same no_more = refl
  none-same (one_more t ts) = refl

  root-same : (t : Tree TextId) → root_of (tree_with f t) ≡ label_with f (root_of t)
  root-same (Branch l ts) = refl

  begins-same : (ts : Forest TextId) → begins_with_text (forest_with f ts) ≡ begins_with_text ts
  begins-same no_more = refl
  begins-same (one_more t ts) = ap is_text (root-same t) ∙ text-same (root_of t)

  -- the numbers of the root
  root-given : (level : ℕ) (t : Tree TextId) → list_all (line_given (length texts)) (enc_at level t) ≡ true → LabelGiven (length texts) (root_of t)
  root-given level (Branch l ts) h =
      label_parts (length texts) l (length (encs_at (level + 1) ts)) level (and_parts (line_given (length texts) (line_of l (length (encs_at (level + 1) ts)) level)) (list_all (line_given (length texts)) (encs_at (level + 1) ts)) h).0

  mutual
    tree-same : (level : ℕ) (t : Tree TextId) → list_all (line_given (length texts)) (enc_at level t) ≡ true → is_sound text_eq is_empty_text (tree_with f t) ≡ is_sound id_eq is_empty_id t
    tree-same level (Branch l ts) h =
        let p = and_parts (line_given (length texts) (line_of l (length (encs_at (level + 1) ts)) level)) (list_all (line_given (length texts)) (encs_at (level + 1) ts)) h in
        rw (label-same l (root-given level (Branch l ts) h), children-same l, none-same ts, forest-same (level + 1) ts p.1) refl

    forest-same : (level : ℕ) (ts : Forest TextId) → list_all (line_given (length texts)) (encs_at level ts) ≡ true → are_sound text_eq is_empty_text (forest_with f ts) ≡ are_sound id_eq is_empty_id ts
    forest-same level no_more h = refl
    forest-same level (one_more t ts) h =
        let p = and_parts (list_all (line_given (length texts)) (enc_at level t)) (list_all (line_given (length texts)) (encs_at level ts)) (sym (list_all-append (line_given (length texts)) (enc_at level t) (encs_at level ts)) ∙ h) in
        rw (root-same t, child-same (root_of t) (root-given level t p.0), text-same (root_of t), begins-same ts, tree-same level t p.0, forest-same level ts p.1) refl

pub sound_by_text : SoundByText
sound_by_text texts t apart first h = tree-same texts apart first 0 t h

-- ---- steps

-- what is known of every label of a tree, of the label at each path
module _ (n : ℕ) where
  attribute-given : (as' : List (TextId × TextId)) (k : ℕ) → list_all (pair_given n) as' ≡ true → (l : Label TextId) → label_of_pair (nth_pair as' k) ≡ Some l → option_given n (name_of l) ≡ true
  attribute-given [] k h l e = cc
  attribute-given (a ∷ as') zero h l e = cc
  attribute-given (a ∷ as') (suc zero) h l e =
      let p = and_parts (pair_given n a) (list_all (pair_given n) as') h in
      let q = and_parts (is_given n a.0) (is_given n a.1) p.0 in
      let same : OfAttribute a.0 a.1 ≡ l = cc in
      ap (λ z. option_given n (name_of z)) (sym same) ∙ q.0
  attribute-given (a ∷ as') (suc (suc k)) h l e =
      attribute-given as' (suc k) (and_parts (pair_given n a) (list_all (pair_given n) as') h).1 l e

  pairs-given : (l : Label TextId) → LabelGiven n l → list_all (pair_given n) (attributes_of l) ≡ true
  pairs-given OfDocument g = refl
  pairs-given (OfElement m as') g = g.attributes
  pairs-given (OfAttribute m v) g = refl
  pairs-given (OfText v) g = refl
  pairs-given (OfComment v) g = refl
  pairs-given (OfInstruction m v) g = refl

  name-given : (l : Label TextId) → LabelGiven n l → option_given n (name_of l) ≡ true
  name-given OfDocument g = refl
  name-given (OfElement m as') g = g.name
  name-given (OfAttribute m v) g = (and_parts (is_given n m) (is_given n v) (and_parts (pair_given n (m, v)) true g.attributes).0).0
  name-given (OfText v) g = refl
  name-given (OfComment v) g = refl
  name-given (OfInstruction m v) g = g.name

  -- the rows of the children
  below-given : (level : ℕ) (t : Tree TextId) → list_all (line_given n) (enc_at level t) ≡ true → list_all (line_given n) (encs_at (level + 1) (children_of t)) ≡ true
  below-given level (Branch l ts) h = (and_parts (line_given n (line_of l (length (encs_at (level + 1) ts)) level)) (list_all (line_given n) (encs_at (level + 1) ts)) h).1

  label-parts : (level : ℕ) (t : Tree TextId) → list_all (line_given n) (enc_at level t) ≡ true → LabelGiven n (root_of t)
  label-parts level (Branch l ts) h = label_parts n l (length (encs_at (level + 1) ts)) level (and_parts (line_given n (line_of l (length (encs_at (level + 1) ts)) level)) (list_all (line_given n) (encs_at (level + 1) ts)) h).0

  nth-given : (level : ℕ) (ts : Forest TextId) (k : ℕ) → list_all (line_given n) (encs_at level ts) ≡ true → (u : Tree TextId) → nth_tree ts k ≡ Some u → list_all (line_given n) (enc_at level u) ≡ true
  nth-given level no_more k h u e = cc
  nth-given level (one_more t ts) zero h u e = cc
  nth-given level (one_more t ts) (suc zero) h u e =
      let same : t ≡ u = cc in
      ap (λ z. list_all (line_given n) (enc_at level z)) (sym same)
      ∙ (and_parts (list_all (line_given n) (enc_at level t)) (list_all (line_given n) (encs_at level ts)) (sym (list_all-append (line_given n) (enc_at level t) (encs_at level ts)) ∙ h)).0
  nth-given level (one_more t ts) (suc (suc k)) h u e =
      nth-given level ts (suc k) (and_parts (list_all (line_given n) (enc_at level t)) (list_all (line_given n) (encs_at level ts)) (sym (list_all-append (line_given n) (enc_at level t) (encs_at level ts)) ∙ h)).1 u e

  label-given : (level : ℕ) (t : Tree TextId) (steps : List ℕ) (k : ℕ) → list_all (line_given n) (enc_at level t) ≡ true → (l : Label TextId) → label_in k (subtree steps t) ≡ Some l → option_given n (name_of l) ≡ true
  label-given level t [] zero h l e =
      let same : root_of t ≡ l = cc in
      ap (λ z. option_given n (name_of z)) (sym same) ∙ name-given (root_of t) (label-parts level t h)
  label-given level t [] (suc k) h l e = attribute-given (attributes_of (root_of t)) (suc k) (pairs-given (root_of t) (label-parts level t h)) l e
  label-given level t (i ∷ steps) k h l e =
      at (nth_tree (children_of t) i) refl e (λ u g. label-given (level + 1) u steps k g l)
    where
      at : (o : Option (Tree TextId)) → nth_tree (children_of t) i ≡ o → label_in k (tree_then o (subtree steps)) ≡ Some l
          → ((u : Tree TextId) → list_all (line_given n) (enc_at (level + 1) u) ≡ true → label_in k (subtree steps u) ≡ Some l → option_given n (name_of l) ≡ true) → option_given n (name_of l) ≡ true
      at None q r go = absurd (none k r)
        where
          none : (j : ℕ) → label_in j None ≡ Some l → ⊥
          none j s = cc
      at (Some u) q r go = go u (nth-given (level + 1) (children_of t) i (below-given level t h) u q) r

pub steps_by_text : StepsByText
steps_by_text texts axis test t p q apart given known =
    ap (λ b. on_axis axis p q && b) (selected (label_at t q) refl ∙ ap (selects_label text_eq axis (test_with (text_in texts) test)) (sym (label_at-with (text_in texts) t q)))
  where
    selected : (o : Option (Label TextId)) → label_at t q ≡ o → selects_label id_eq axis test o ≡ selects_label text_eq axis (test_with (text_in texts) test) (option_with (label_with (text_in texts)) o)
    selected None e = refl
    selected (Some l) e = tests_by_text texts axis test l apart given (label-given (length texts) 0 t q.steps q.attr known l e)
