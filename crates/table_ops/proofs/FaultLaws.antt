-- The faults of content, by what its items are and by the names of its attributes.
use Rattle.std.proofs.Common.{◌≡◌, ◌∙◌, ◌<◌, ◌≤◌, ◌+◌, ◌++◌, ◌∷◌, ◌&&◌, ◌||◌, [], ℕ, zero, suc, Bool, true, false, not, cond, List, length, map, drop, nat_eq, refl, sym, ap, subst, arith, Option, Some, None, if◌then◌else◌}
use Rattle.std.specs.Prelude.{slice_get, slice_index_or}
use Rattle.std.specs.List.{list_any}
use Rattle.std.proofs.lemmas.Bool.{and_parts, eq-eqb, eqb-true}
use Rattle.std.proofs.Math.Seq.{drop-cons}
use Rattle.indexmap.specs.IndexSet.{insert_all}
use Rattle.xq_base.specs.declared.code.Code.TheVariants as c
use Rattle.xq_base.specs.declared.item.Item.{Item as Held}
use Rattle.xq_base.specs.declared.item.Item.TheVariants as i
use Rattle.xq_base.specs.declared.item.NodeRef.{NodeRef}
use Rattle.xq_base.specs.declared.item.TextId.{TextId}
use Rattle.xq_base.specs.Pool.{NoRepeats}
use Rattle.xq_base.specs.Texts.{Text, text_eq}
use Rattle.doc_table.specs.Axes.{id_eq}
use Rattle.doc_table.specs.Content.{content_of, attributes_in}
use Rattle.doc_table.specs.Given.{trees_given}
use Rattle.doc_table.specs.Identity.{place_of}
use Rattle.doc_table.specs.Items.{TextItem, item_of}
use Rattle.doc_table.specs.Kept.{root_or}
use Rattle.doc_table.specs.Paths.{subtree, label_at}
use Rattle.doc_table.specs.Places.{node_at}
use Rattle.doc_table.specs.Sound.{is_sound, names_differ}
use Rattle.doc_table.specs.Spine.{is_empty_id, is_named}
use Rattle.doc_table.specs.StoredItems.{ItemGiven, ItemsGiven, IsNodeOf, meanings, trees_of}
use Rattle.doc_table.specs.Stores.{Holdings, AllKept, tree_at}
use Rattle.doc_table.specs.Tree.{Tree, with_texts}
use Rattle.doc_table.proofs.TextTests.{same-test}
use Rattle.xq_funs.proofs.NodeLaws.{tree_given_under}
use Rattle.plan_dag.specs.declared.op.Place.TheVariants as p
use Rattle.plan_dag.specs.ItemRules.{Cell, cell_eq, content_fault}
use Rattle.table_ops.specs.declared.parts.Part.{Part}
use Rattle.table_ops.specs.Columns.{cell_of}
use Rattle.table_ops.specs.Contents.{part_of, is_attribute, late_after, name_in, names_in, are_apart, NodeGiven, NodesGiven}
use Rattle.table_ops.specs.Keys.{item_eq}
use Rattle.table_ops.proofs.CellMoves.{same_moves}
use Rattle.table_ops.proofs.ContentTrees.{NodeFits, NodesFit, content_late, content_some, content_names}
use Rattle.table_ops.proofs.ItemEqual.{item_same, item_self}
use Rattle.table_ops.proofs.Lists.{map_append, joined_to, to_nothing, longer}
use Rattle.table_ops.proofs.MatchLaws.{any_append, table_short}
use Rattle.table_ops.proofs.PartLaws.{place_fits}

-- ---- different cells

same_turned : (x y : Held) → item_eq y x ≡ item_eq x y
same_turned x y = same-test (item_eq y x) (item_eq x y) (λ e. subst (λ z. item_eq z y ≡ true) (item_same y x e) (item_self y)) (λ e. subst (λ z. item_eq z x ≡ true) (item_same x y e) (item_self x))

-- one of the cells is there
abbrev meets : List Held → List Held → Bool
meets t xs = list_any (λ x. list_any (item_eq x) t) xs

meets_more : (t xs : List Held) (x : Held) → meets (t ++ x ∷ []) xs ≡ meets t xs || list_any (item_eq x) xs
meets_more t [] x = refl
meets_more t (y ∷ xs) x =
    (λ j. (any_append (item_eq y) t x ∙ ap (λ b. list_any (item_eq y) t || b) (same_turned x y)) j || meets_more t xs x j)
    ∙ swap (list_any (item_eq y) t) (item_eq x y) (meets t xs) (list_any (item_eq x) xs)
  where
    swap : (a b m l : Bool) → (a || b) || (m || l) ≡ (a || m) || (b || l)
    swap true b m l = refl
    swap false true true l = refl
    swap false true false l = refl
    swap false false m l = refl

unequal : (m n : ℕ) → m < n → nat_eq m n ≡ false
unequal m n h = by (nat_eq m n) refl
  where
    by : (b : Bool) → nat_eq m n ≡ b → b ≡ false
    by true e = absurd (omega (arith, h, eqb-true m n e))
    by false e = refl

apart_from : (t xs : List Held) → nat_eq (length (insert_all item_eq t xs)) (length t + length xs) ≡ not (meets t xs) && are_apart xs
apart_from t [] = let e : length t ≡ length t + 0 = omega arith in eq-eqb (length t) (length t + 0) e
apart_from t (x ∷ xs) = by (list_any (item_eq x) t) (apart_from (t ++ x ∷ []) xs)
  where
    turn : (m r a : Bool) → not (m || r) && a ≡ not (false || m) && (not r && a)
    turn true r a = refl
    turn false r a = refl

    by : (b : Bool) → nat_eq (length (insert_all item_eq (t ++ x ∷ []) xs)) (length (t ++ x ∷ []) + length xs) ≡ not (meets (t ++ x ∷ []) xs) && are_apart xs
        → nat_eq (length (insert_all item_eq (if b then t else t ++ x ∷ []) xs)) (length t + suc (length xs)) ≡ not (b || meets t xs) && (not (list_any (item_eq x) xs) && are_apart xs)
    by true r = unequal (length (insert_all item_eq t xs)) (length t + suc (length xs)) (omega (arith, table_short xs t))
    by false r =
        let e : length t + suc (length xs) ≡ length (t ++ x ∷ []) + length xs = omega (arith, longer t x) in
        ap (nat_eq (length (insert_all item_eq (t ++ x ∷ []) xs))) e
        ∙ r
        ∙ ap (λ b. not b && are_apart xs) (meets_more t xs x)
        ∙ turn (meets t xs) (list_any (item_eq x) xs) (are_apart xs)

none_met : (xs : List Held) → meets [] xs ≡ false
none_met [] = refl
none_met (x ∷ xs) = none_met xs

pub all_apart : (cells differ : List Held) → differ ≡ insert_all item_eq [] cells → nat_eq (length differ) (length cells) ≡ are_apart cells
all_apart cells differ e =
    let zero_more : length cells ≡ 0 + length cells = omega arith in
    ap (λ (z : List Held). nat_eq (length z) (length cells)) e ∙ ap (nat_eq (length (insert_all item_eq [] cells))) zero_more ∙ apart_from [] cells ∙ ap (λ b. not b && are_apart cells) (none_met cells)

-- ---- names

module _ (texts : List Text) (h : Holdings) (once : NoRepeats texts) where
  abbrev M : Held → Cell
  M = item_of texts (trees_of h)

  name_is : (n m : Held) (t u : Text) → ItemGiven texts h n → ItemGiven texts h m → M n ≡ TextItem t → M m ≡ TextItem u → item_eq n m ≡ text_eq t u
  name_is n m t u g k e f = sym (same_moves texts h once n m g k) ∙ (λ j. cell_eq (e j) (f j))

  named_is : (n : Held) (t : Text) (names : List Held) (ps : List (Text × Text)) → ItemGiven texts h n → ItemsGiven texts h names → M n ≡ TextItem t → map M names ≡ map TextItem (map (λ p. p.0) ps) → list_any (item_eq n) names ≡ is_named text_eq t ps
  named_is n t [] [] g k e f = refl
  named_is n t [] (p ∷ ps) g k e f = cc
  named_is n t (m ∷ names) [] g k e f = cc
  named_is n t (m ∷ names) (p ∷ ps) g k e f =
      let head : M m ≡ TextItem p.0 = cc in
      let tail : map M names ≡ map TextItem (map (λ p. p.0) ps) = cc in
      λ j. name_is n m t p.0 g k.0 e head j || named_is n t names ps g k.1 e tail j

  pub names_apart : (names : List Held) (ps : List (Text × Text)) → ItemsGiven texts h names → map M names ≡ map TextItem (map (λ p. p.0) ps) → are_apart names ≡ names_differ text_eq ps
  names_apart [] [] g f = refl
  names_apart [] (p ∷ ps) g f = cc
  names_apart (n ∷ names) [] g f = cc
  names_apart (n ∷ names) (p ∷ ps) g f =
      let head : M n ≡ TextItem p.0 = cc in
      let tail : map M names ≡ map TextItem (map (λ p. p.0) ps) = cc in
      λ j. not (named_is n p.0 names ps g.0 g.1 head tail j) && names_apart names ps g.1 tail j

-- ---- nodes of a store

pub nodes_given : (texts : List Text) (h : Holdings) (cells : List Held) → ItemsGiven texts h cells → NodesGiven h cells
nodes_given texts h [] g = tt
nodes_given texts h (i.Int z ∷ cells) g = (tt, nodes_given texts h cells g.1)
nodes_given texts h (i.Str id ∷ cells) g = (tt, nodes_given texts h cells g.1)
nodes_given texts h (i.Untyped id ∷ cells) g = (tt, nodes_given texts h cells g.1)
nodes_given texts h (i.Bool b ∷ cells) g = (tt, nodes_given texts h cells g.1)
nodes_given texts h (i.Node r ∷ cells) g = (g.0, nodes_given texts h cells g.1)

pub node_given : (h : Holdings) (cells : List Held) (p : ℕ) → NodesGiven h cells → NodeGiven h (cell_of cells p)
node_given h [] p g = tt
node_given h (v ∷ cells) zero g = g.0
node_given h (v ∷ cells) (suc p) g = node_given h cells p g.1

module _ (texts : List Text) (h : Holdings) (kept : AllKept h) (trees : trees_given (length texts) h ≡ true) (first : slice_get texts 0 ≡ Some []) (once : NoRepeats texts) where
  node_fits : (r : NodeRef) → IsNodeOf h r (tree_at h r.frag) → NodeFits (label_at (with_texts texts (trees_of h r.frag)) (node_at (with_texts texts (trees_of h r.frag)) (place_of r))) (subtree (node_at (with_texts texts (trees_of h r.frag)) (place_of r)).steps (with_texts texts (trees_of h r.frag)))
  node_fits r g = by (tree_at h r.frag) refl g
    where
      by : (o : Option (Tree TextId)) → tree_at h r.frag ≡ o → IsNodeOf h r o → NodeFits (label_at (with_texts texts (root_or o)) (node_at (with_texts texts (root_or o)) (place_of r))) (subtree (node_at (with_texts texts (root_or o)) (place_of r)).steps (with_texts texts (root_or o)))
      by None e n = absurd n
      by (Some u) e n = place_fits texts u r.pre r.attr (and_parts (is_sound id_eq is_empty_id u) _ (kept r.frag u e)).0 n once first (tree_given_under (length texts) h r.frag u trees e)

  pub nodes_fit : (cells : List Held) → ItemsGiven texts h cells → NodesFit (meanings texts h cells)
  nodes_fit [] g = tt
  nodes_fit (i.Int z ∷ cells) g = nodes_fit cells g.1
  nodes_fit (i.Str id ∷ cells) g = nodes_fit cells g.1
  nodes_fit (i.Untyped id ∷ cells) g = nodes_fit cells g.1
  nodes_fit (i.Bool b ∷ cells) g = nodes_fit cells g.1
  nodes_fit (i.Node r ∷ cells) g = (node_fits r g.0, nodes_fit cells g.1)

  module _ (cells : List Held) (g : ItemsGiven texts h cells) (parts : List Part) (e : parts ≡ map part_of (meanings texts h cells)) where
    abbrev V : List Cell
    V = meanings texts h cells

    pub document_is : cond (list_any is_attribute parts) (Some c.XPTY0004) None ≡ content_fault p.Document V
    document_is = ap (λ b. cond b (Some c.XPTY0004) None) (ap (list_any is_attribute) e ∙ sym (content_some V (nodes_fit cells g)))

    pub element_late : late_after false false false parts ≡ true → Some c.XQTY0024 ≡ content_fault p.Element V
    element_late l = sym (ap (λ b. cond b (Some c.XQTY0024) (cond (names_differ text_eq (attributes_in (content_of V))) None (Some c.XQDY0025))) (content_late V (nodes_fit cells g) ∙ ap (late_after false false false) (sym e) ∙ l))

    pub element_in_time : (names : List Held) → late_after false false false parts ≡ false → ItemsGiven texts h names → meanings texts h names ≡ map TextItem (names_in V) → cond (are_apart names) None (Some c.XQDY0025) ≡ content_fault p.Element V
    element_in_time names l k n =
        sym (ap (λ b. cond b (Some c.XQTY0024) (cond (names_differ text_eq (attributes_in (content_of V))) None (Some c.XQDY0025))) (content_late V (nodes_fit cells g) ∙ ap (late_after false false false) (sym e) ∙ l)
        ∙ ap (λ b. cond b None (Some c.XQDY0025)) (sym (names_apart texts h once names (attributes_in (content_of V)) k (n ∙ ap (map TextItem) (sym (content_names V (nodes_fit cells g)))))))

-- ---- names one by one

pub names_end : (texts : List Text) (h : Holdings) (cells out : List Held) (p : ℕ) → length cells ≤ p
    → meanings texts h out ++ map TextItem (names_in (meanings texts h (drop p cells))) ≡ map TextItem (names_in (meanings texts h cells)) → meanings texts h out ≡ map TextItem (names_in (meanings texts h cells))
names_end texts h cells out p l e = sym (to_nothing (meanings texts h out)) ∙ ap (λ z. meanings texts h out ++ map TextItem (names_in (meanings texts h z))) (sym (dropped cells p l)) ∙ e
  where
    dropped : (xs : List Held) (n : ℕ) → length xs ≤ n → drop n xs ≡ []
    dropped [] n l = drop_none n
      where
        drop_none : (n : ℕ) → drop {A = Held} n [] ≡ []
        drop_none zero = refl
        drop_none (suc n) = refl
    dropped (x ∷ xs) zero l = absurd (omega (arith, l))
    dropped (x ∷ xs) (suc n) l = dropped xs n (omega (arith, l))

pub names_turn : (texts : List Text) (h : Holdings) (cells : List Held) (d : Held) (p : ℕ) (out more : List Held) → p < length cells
    → meanings texts h more ≡ meanings texts h out ++ map TextItem (name_in (item_of texts (trees_of h) (slice_index_or cells p d)))
    → meanings texts h out ++ map TextItem (names_in (meanings texts h (drop p cells))) ≡ map TextItem (names_in (meanings texts h cells))
    → meanings texts h more ++ map TextItem (names_in (meanings texts h (drop (p + 1) cells))) ≡ map TextItem (names_in (meanings texts h cells))
names_turn texts h cells d p out more l e was =
    let one : p + 1 ≡ suc p = omega arith in
    (λ j. e j ++ map TextItem (names_in (meanings texts h (drop (one j) cells))))
    ∙ joined_to (meanings texts h out) (map TextItem (name_in (item_of texts (trees_of h) (slice_index_or cells p d)))) (map TextItem (names_in (meanings texts h (drop (suc p) cells))))
    ∙ ap (λ z. meanings texts h out ++ z) (sym (map_append TextItem (name_in (item_of texts (trees_of h) (slice_index_or cells p d))) (names_in (meanings texts h (drop (suc p) cells)))))
    ∙ ap (λ z. meanings texts h out ++ map TextItem (names_in (meanings texts h z))) (sym (drop-cons cells p d l))
    ∙ was
