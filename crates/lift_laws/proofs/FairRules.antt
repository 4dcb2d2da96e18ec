-- Every rule is the same over cells: what it gives of cells are the cells of what it gives of items, and its nodes are known.
use Rattle.std.proofs.Common.{◌≡◌, ℕ, suc, ◌+◌, Bool, true, false, cond, not, List, [], ◌∷◌, ◌++◌, map, length, reverse, refl, sym, ap, ◌∙◌, subst, arith, add-zero, pos, int_le, nat_lt, nat_eq, Option, Some, None, ℤ}
use Rattle.std.specs.List.{flat_map}
use Rattle.std.proofs.lemmas.List.{reverse-append}
use Rattle.xq_base.specs.declared.axis.Axis.{Axis}
use Rattle.xq_base.specs.declared.code.Code.{Code}
use Rattle.xq_base.specs.declared.code.Code.TheVariants as c
use Rattle.xq_base.specs.declared.fun.Fun.{Fun}
use Rattle.xq_base.specs.declared.fun.Fun.TheVariants as f
use Rattle.xq_base.specs.declared.fun.AtomKind.{AtomKind}
use Rattle.xq_base.specs.declared.fun.ItemKind.{ItemKind}
use Rattle.xq_base.specs.Answers.{Answer, Value, Fault, then_rule, with_value, both_of}
use Rattle.xq_base.specs.Texts.{Text, text_eq, trimmed}
use Rattle.xq_base.specs.Words.{at_places, is_selected, local_part}
use Rattle.xq_base.specs.Comparisons.{int_eq}
use Rattle.xq_base.specs.Aggregates.{all_of}
use Rattle.xq_base.specs.Atoms.{Atom, cast_atom}
use Rattle.xq_base.specs.TextRules.{maybe_text, one_number, one_text}
use Rattle.doc_table.specs.Tree.{Tree, NodeKind}
use Rattle.doc_table.specs.Axes.{Test}
use Rattle.doc_table.specs.Identity.{DocTree, BuiltTree, Node, node_eq, node_less}
use Rattle.doc_table.specs.Items.{Item, IntItem, TextItem, UntypedItem, BoolItem, NodeItem}
use Rattle.doc_table.specs.Nodes.{root_path, item_kind_eq}
use Rattle.doc_table.specs.Values.{Items, items_of, data_of, item_of_atom, boolean_value, cast_of, cast_items, all_nodes, no_node}
use Rattle.doc_table.specs.Sequences.{whole, bool_items, is_empty, part_from, part_of, insert_at, inserted, removed, if_length, zero_or_one, one_or_more, exactly_one}
use Rattle.doc_table.specs.Steps.{found, nodes_in, items_at, in_document_order, step_answer}
use Rattle.doc_table.specs.NodeRules.{Docs, maybe_node, on_both, node_comparison, nodes_alone, node_set, those_in, those_not_in, path_result, root_of_node, root_answer, name_or_empty, name_answer, local_name_answer, doc_named, doc_or_none, doc_answer}
use Rattle.doc_table.specs.Functions.{none, one, two, three, two_or_three, string_answer, on_booleans, kind_test}
use Rattle.doc_table.specs.Content.{as_qname, as_target, element_name, target_name}
use Rattle.doc_table.specs.Building.{built}
use Rattle.core_meaning.specs.Types.{AnyItem, AnyAtom, AtomOf, NodeOf, SequenceTest, NoItems, ItemsOf, has_type, if_type, if_number, converted_atom, converted}
use Rattle.core_meaning.specs.Expr.{Site, Rule, Apply, Walk, Make, IsOf, TreatAs, ConvertTo, CastTo, CastableTo, FailWith, Call}
use Rattle.core_meaning.specs.Rules.{no_node_code, made_node, is_value}
use Rattle.core_meaning.specs.Meaning.{and_then, value_in, val}
use Rattle.lift_laws.specs.Sums.{AllOf}
use Rattle.lift_laws.specs.Bulk.{list_of}
use Rattle.lift_laws.specs.Worlds.{World, Reach, cell_of, Among, Known, Faithful, doc_tree}
use Rattle.lift_laws.specs.Lifting.{answer_cells, Fair}
use Rattle.lift_laws.proofs.Picks.{all-append}
use Rattle.lift_laws.proofs.Known.{number_found}
use Rattle.lift_laws.proofs.ItemCells.{length_cells, empty_cells, boolean_cells, text_cell, kind_cell, type_cells, places_cells, insert_cells, reverse_cells, built_cells}
use Rattle.lift_laws.proofs.NodeCells.{cell_node, nodes_in_cells, all_nodes_cells, no_node_cells, all_found_cells, union_cells, KnownNode, known_in, known_found, nodes_kept, in_cells, not_in_cells, in_order_cells}
use Rattle.lift_laws.proofs.Fairness.{one_atom, all_atoms, data_cells, known_atom, known_atoms, eq_fair, ne_fair, lt_fair, le_fair, gt_fair, ge_fair, general_eq_fair, general_ne_fair, general_lt_fair, general_le_fair, general_gt_fair, general_ge_fair, to_fair, add_fair, subtract_fair, multiply_fair, divide_fair, modulo_fair, negate_fair, abs_fair, data_fair, atomize_fair, content_text_fair, string_length_fair, normalize_space_fair, contains_fair, starts_with_fair, ends_with_fair, substring_before_fair, substring_after_fair, compare_fair, string_join_fair, index_of_fair, min_fair, max_fair, distinct_values_fair, concat_fair, translate_fair, substring_fair, sum_fair, integer_fair, string_fair, boolean_fair, untyped_fair}

places_hold : (P : Item Text → Type 0) (passes : ℕ → Bool) (p : ℕ) (vs : Items) → AllOf P vs → AllOf P (at_places passes p vs)
places_hold P passes p [] a = tt
places_hold P passes p (v ∷ vs) a =
    let r = places_hold P passes (p + 1) vs a.1 in
    elim (passes p) as (λ b. AllOf P (cond b (v ∷ at_places passes (p + 1) vs) (at_places passes (p + 1) vs))) [ true ↦ (a.0, r) | false ↦ r ]

insert_holds : (P : Item Text → Type 0) (z : ℤ) (us : Items) (p : ℕ) (vs : Items) → AllOf P us → AllOf P vs → AllOf P (insert_at z us p vs)
insert_holds P z us p [] a b = a
insert_holds P z us p (v ∷ vs) a b =
    let r = insert_holds P z us (p + 1) vs a b.1 in
    elim (int_le z (pos p)) as (λ d. AllOf P (cond d (us ++ v ∷ vs) (v ∷ insert_at z us (p + 1) vs))) [ true ↦ all-append P us (v ∷ vs) a b | false ↦ (b.0, r) ]

reverse_holds : (P : Item Text → Type 0) (vs : Items) → AllOf P vs → AllOf P (reverse vs)
reverse_holds P [] a = tt
reverse_holds P (v ∷ vs) a = subst (AllOf P) (sym (reverse-append (v ∷ []) vs)) (all-append P (reverse vs) (v ∷ []) (reverse_holds P vs a.1) (a.0, tt))

-- a node, or none, as a cell
abbrev cell_option : World → Option (Node Text) → Option (Node Text)
cell_option W None = None
cell_option W (Some n) = Some (cell_node W n)

maybe_node_cells : (W : World) (vs : Items) → maybe_node (map (cell_of W) vs) ≡ with_value (cell_option W) (maybe_node vs)
maybe_node_cells W [] = refl
maybe_node_cells W (IntItem z ∷ vs) = refl
maybe_node_cells W (TextItem t ∷ vs) = refl
maybe_node_cells W (UntypedItem t ∷ vs) = refl
maybe_node_cells W (BoolItem b ∷ vs) = refl
maybe_node_cells W (NodeItem n ∷ []) = refl
maybe_node_cells W (NodeItem n ∷ u ∷ vs) = refl

nodes_alone_cells : (W : World) (vs : Items) → nodes_alone (map (cell_of W) vs) ≡ with_value (map (cell_node W)) (nodes_alone vs)
nodes_alone_cells W vs =
    ap (λ b. cond b (Value (nodes_in (map (cell_of W) vs))) (Fault c.XPTY0004)) (all_nodes_cells W vs)
    ∙ ap (λ ns. cond (all_nodes vs) (Value ns) (Fault c.XPTY0004)) (nodes_in_cells W vs)
    ∙ at (all_nodes vs)
  where
    at : (b : Bool) → cond b (Value (map (cell_node W) (nodes_in vs))) (Fault c.XPTY0004) ≡ with_value (map (cell_node W)) (cond b (Value (nodes_in vs)) (Fault c.XPTY0004))
    at true = refl
    at false = refl

module _ (docs : Docs) (W : World) where
  -- an answer over cells is that over items
  abbrev pub Kept : Answer Items → Answer Items → Type 0
  Kept x y = (x ≡ answer_cells (cell_of W) y) × AllOf (Known docs W) (list_of (value_in y))

  then_kept : (x y z : Answer Items) → x ≡ y → Kept y z → Kept x z
  then_kept x y z e k = (e ∙ k.0, k.1)

  -- a function of what is the same over cells
  where_kept : {A : Type 0} (g h : A → Items) → ((a : A) → (g a ≡ map (cell_of W) (h a)) × AllOf (Known docs W) (h a)) → (x y : Answer A) → x ≡ y → Kept (with_value g x) (with_value h y)
  where_kept {A = A} g h k x y e = then_kept (with_value g x) (with_value g y) (with_value h y) (ap (with_value g) e) (at y)
    where
      at : (z : Answer A) → Kept (with_value g z) (with_value h z)
      at (Value a) = (ap Value (k a).0, (k a).1)
      at (Fault d) = (refl, tt)

  cond_kept : (b : Bool) (code : Code) (vs : Items) → AllOf (Known docs W) vs → Kept (cond b (Value (map (cell_of W) vs)) (Fault code)) (cond b (Value vs) (Fault code))
  cond_kept true code vs a = (refl, a)
  cond_kept false code vs a = (refl, tt)

  -- rules of one, two and three arguments
  abbrev One : (Items → Answer Items) → Type 0
  One g = (v : Items) → AllOf (Known docs W) v → Kept (g (map (cell_of W) v)) (g v)

  abbrev Two : (Items → Items → Answer Items) → Type 0
  Two g = (v u : Items) → AllOf (Known docs W) v → AllOf (Known docs W) u → Kept (g (map (cell_of W) v) (map (cell_of W) u)) (g v u)

  abbrev Three : (Items → Items → Items → Answer Items) → Type 0
  Three g = (v u w : Items) → AllOf (Known docs W) v → AllOf (Known docs W) u → AllOf (Known docs W) w → Kept (g (map (cell_of W) v) (map (cell_of W) u) (map (cell_of W) w)) (g v u w)

  pub none_kept : (v : Items) → Kept (Value v) (Value v) → (vss : List Items) → Kept (none v (map (map (cell_of W)) vss)) (none v vss)
  none_kept v k [] = k
  none_kept v k (u ∷ vss) = (refl, tt)

  pub one_kept : (g : Items → Answer Items) → One g → (vss : List Items) → AllOf (AllOf (Known docs W)) vss → Kept (one g (map (map (cell_of W)) vss)) (one g vss)
  one_kept g h [] a = (refl, tt)
  one_kept g h (v ∷ []) a = h v a.0
  one_kept g h (v ∷ u ∷ vss) a = (refl, tt)

  pub two_kept : (g : Items → Items → Answer Items) → Two g → (vss : List Items) → AllOf (AllOf (Known docs W)) vss → Kept (two g (map (map (cell_of W)) vss)) (two g vss)
  two_kept g h [] a = (refl, tt)
  two_kept g h (v ∷ []) a = (refl, tt)
  two_kept g h (v ∷ u ∷ []) a = h v u a.0 a.1.0
  two_kept g h (v ∷ u ∷ w ∷ vss) a = (refl, tt)

  pub three_kept : (g : Items → Items → Items → Answer Items) → Three g → (vss : List Items) → AllOf (AllOf (Known docs W)) vss → Kept (three g (map (map (cell_of W)) vss)) (three g vss)
  three_kept g h [] a = (refl, tt)
  three_kept g h (v ∷ []) a = (refl, tt)
  three_kept g h (v ∷ u ∷ []) a = (refl, tt)
  three_kept g h (v ∷ u ∷ w ∷ []) a = h v u w a.0 a.1.0 a.1.1.0
  three_kept g h (v ∷ u ∷ w ∷ x ∷ vss) a = (refl, tt)

  pub two_or_three_kept : (g : Items → Items → Answer Items) (k : Items → Items → Items → Answer Items) → Two g → Three k → (vss : List Items) → AllOf (AllOf (Known docs W)) vss → Kept (two_or_three g k (map (map (cell_of W)) vss)) (two_or_three g k vss)
  two_or_three_kept g k h l [] a = (refl, tt)
  two_or_three_kept g k h l (v ∷ []) a = (refl, tt)
  two_or_three_kept g k h l (v ∷ u ∷ []) a = h v u a.0 a.1.0
  two_or_three_kept g k h l (v ∷ u ∷ w ∷ []) a = l v u w a.0 a.1.0 a.1.1.0
  two_or_three_kept g k h l (v ∷ u ∷ w ∷ x ∷ vss) a = (refl, tt)

  -- rules without nodes in what they give
  truth_kept : (b d : Bool) → b ≡ d → Kept (Value (bool_items b)) (Value (bool_items d))
  truth_kept b d e = (ap (λ x. Value (bool_items x)) e, (tt, tt))

  pub booleans_kept : (g : Bool → Bool → Bool) (vss : List Items) → Kept (on_booleans g (map (map (cell_of W)) vss)) (on_booleans g vss)
  booleans_kept g [] = (refl, tt)
  booleans_kept g ([] ∷ vss) = (refl, tt)
  booleans_kept g ((IntItem z ∷ us) ∷ vss) = (refl, tt)
  booleans_kept g ((TextItem t ∷ us) ∷ vss) = (refl, tt)
  booleans_kept g ((UntypedItem t ∷ us) ∷ vss) = (refl, tt)
  booleans_kept g ((NodeItem n ∷ us) ∷ vss) = (refl, tt)
  booleans_kept g ((BoolItem a ∷ u ∷ us) ∷ vss) = (refl, tt)
  booleans_kept g ((BoolItem a ∷ []) ∷ []) = (refl, tt)
  booleans_kept g ((BoolItem a ∷ []) ∷ [] ∷ vss) = (refl, tt)
  booleans_kept g ((BoolItem a ∷ []) ∷ (IntItem z ∷ us) ∷ vss) = (refl, tt)
  booleans_kept g ((BoolItem a ∷ []) ∷ (TextItem t ∷ us) ∷ vss) = (refl, tt)
  booleans_kept g ((BoolItem a ∷ []) ∷ (UntypedItem t ∷ us) ∷ vss) = (refl, tt)
  booleans_kept g ((BoolItem a ∷ []) ∷ (NodeItem n ∷ us) ∷ vss) = (refl, tt)
  booleans_kept g ((BoolItem a ∷ []) ∷ (BoolItem b ∷ u ∷ us) ∷ vss) = (refl, tt)
  booleans_kept g ((BoolItem a ∷ []) ∷ (BoolItem b ∷ []) ∷ []) = (refl, (tt, tt))
  booleans_kept g ((BoolItem a ∷ []) ∷ (BoolItem b ∷ []) ∷ w ∷ vss) = (refl, tt)

  pub count_kept : One (λ v. Value (whole (length v)))
  count_kept v a = (ap (λ n. Value (whole n)) (length_cells W v), (tt, tt))

  pub empty_kept : One (λ v. Value (bool_items (is_empty v)))
  empty_kept v a = truth_kept _ _ (empty_cells W v)

  pub exists_kept : One (λ v. Value (bool_items (not (is_empty v))))
  exists_kept v a = truth_kept _ _ (ap not (empty_cells W v))

  pub boolean_kept : One (λ v. with_value bool_items (boolean_value v))
  boolean_kept v a = where_kept bool_items bool_items (λ b. (refl, (tt, tt))) _ _ (boolean_cells W v)

  pub not_kept : One (λ v. with_value (λ b. bool_items (not b)) (boolean_value v))
  not_kept v a = where_kept (λ b. bool_items (not b)) (λ b. bool_items (not b)) (λ b. (refl, (tt, tt))) _ _ (boolean_cells W v)

  pub string_kept : One string_answer
  string_kept [] a = (refl, (tt, tt))
  string_kept (v ∷ []) a = (ap (λ t. Value (TextItem t ∷ [])) (text_cell W v), (tt, tt))
  string_kept (v ∷ u ∷ vs) a = (refl, tt)

  pub kind_kept : (kind : ItemKind) → One (kind_test kind)
  kind_kept kind [] a = (refl, tt)
  kind_kept kind (v ∷ []) a = truth_kept _ _ (ap (item_kind_eq kind) (kind_cell W v))
  kind_kept kind (v ∷ u ∷ vs) a = (refl, tt)

  text_kept : (x y : Answer Text) → x ≡ y → Kept (with_value (λ t. TextItem t ∷ []) x) (with_value (λ t. TextItem t ∷ []) y)
  text_kept x y e = where_kept (λ t. TextItem t ∷ []) (λ t. TextItem t ∷ []) (λ t. (refl, (tt, tt))) x y e

  pub qname_kept : One (λ v. with_value (λ t. TextItem t ∷ []) (element_name v))
  qname_kept v a = text_kept _ _ (ap (λ ds. then_rule (one_text ds) (λ t. as_qname (trimmed t))) (data_cells W v))

  pub target_kept : One (λ v. with_value (λ t. TextItem t ∷ []) (target_name v))
  target_kept v a = text_kept _ _ (ap (λ ds. then_rule (one_text ds) (λ t. as_target (trimmed t))) (data_cells W v))

  cast_atoms_kept : (kind : AtomKind) (optional : Bool) (as' : List Atom) → Kept (cast_of kind optional as') (cast_of kind optional as')
  cast_atoms_kept kind true [] = (refl, tt)
  cast_atoms_kept kind false [] = (refl, tt)
  cast_atoms_kept kind true (b ∷ []) = where_kept (λ a. item_of_atom a ∷ []) (λ a. item_of_atom a ∷ []) (λ a. (ap (λ x. x ∷ []) (sym (one_atom W a)), (known_atom docs W a, tt))) (cast_atom kind b) _ refl
  cast_atoms_kept kind false (b ∷ []) = where_kept (λ a. item_of_atom a ∷ []) (λ a. item_of_atom a ∷ []) (λ a. (ap (λ x. x ∷ []) (sym (one_atom W a)), (known_atom docs W a, tt))) (cast_atom kind b) _ refl
  cast_atoms_kept kind true (b ∷ d ∷ as') = (refl, tt)
  cast_atoms_kept kind false (b ∷ d ∷ as') = (refl, tt)

  pub cast_kept : (kind : AtomKind) (optional : Bool) → One (cast_items kind optional)
  cast_kept kind optional v a = then_kept _ _ _ (ap (cast_of kind optional) (data_cells W v)) (cast_atoms_kept kind optional (data_of v))

  pub castable_kept : (kind : AtomKind) (optional : Bool) → One (λ v. Value (bool_items (is_value (cast_items kind optional v))))
  castable_kept kind optional v a = truth_kept _ _ (ap (λ ds. is_value (cast_of kind optional ds)) (data_cells W v))

  -- rules that give some of the items
  pub reverse_kept : One (λ v. Value (reverse v))
  reverse_kept v a = (ap Value (reverse_cells W v), reverse_holds (Known docs W) v a)

  places_kept : {A : Type 0} (passes : A → ℕ → Bool) (v : Items) → AllOf (Known docs W) v → (x y : Answer A) → x ≡ y → Kept (with_value (λ z. at_places (passes z) 1 (map (cell_of W) v)) x) (with_value (λ z. at_places (passes z) 1 v) y)
  places_kept {A = A} passes v a x y e =
      where_kept (λ z. at_places (passes z) 1 (map (cell_of W) v)) (λ z. at_places (passes z) 1 v) (λ z. (places_cells W (passes z) 1 v, places_hold (Known docs W) (passes z) 1 v a)) x y e

  pub part_from_kept : Two part_from
  part_from_kept v s a b = places_kept (λ z. is_selected z None) v a _ _ (ap one_number (data_cells W s))

  pub part_of_kept : Three part_of
  part_of_kept v s n a b d =
      places_kept (λ (p : ℤ × ℤ). is_selected p.0 (Some p.1)) v a _ _
      (ap (λ ds. both_of (one_number ds) (one_number (data_of (map (cell_of W) n)))) (data_cells W s) ∙ ap (λ ds. both_of (one_number (data_of s)) (one_number ds)) (data_cells W n))

  pub removed_kept : Two removed
  removed_kept v s a b = places_kept (λ z p. not (int_eq z (pos p))) v a _ _ (ap one_number (data_cells W s))

  pub inserted_kept : Three inserted
  inserted_kept v s u a b d =
      where_kept (λ z. insert_at z (map (cell_of W) u) 1 (map (cell_of W) v)) (λ z. insert_at z u 1 v) (λ z. (insert_cells W z u 1 v, insert_holds (Known docs W) z u 1 v d a)) _ _ (ap one_number (data_cells W s))

  length_kept : (passes : ℕ → Bool) (code : Code) → One (if_length passes code)
  length_kept passes code v a = then_kept _ _ _ (ap (λ n. cond (passes n) (Value (map (cell_of W) v)) (Fault code)) (length_cells W v)) (cond_kept (passes (length v)) code v a)

  pub zero_or_one_kept : One zero_or_one
  zero_or_one_kept v a = length_kept (λ n. nat_lt n 2) c.FORG0003 v a

  pub one_or_more_kept : One one_or_more
  one_or_more_kept v a = length_kept (λ n. nat_lt 0 n) c.FORG0004 v a

  pub exactly_one_kept : One exactly_one
  exactly_one_kept v a = length_kept (λ n. nat_eq n 1) c.FORG0005 v a

  pub type_kept : (test : SequenceTest) → One (λ v. Value (bool_items (has_type test v)))
  type_kept test v a = truth_kept _ _ (type_cells W test v)

  pub if_type_kept : (test : SequenceTest) (code : Code) → One (if_type test code)
  if_type_kept test code v a = then_kept _ _ _ (ap (λ b. cond b (Value (map (cell_of W) v)) (Fault code)) (type_cells W test v)) (cond_kept (has_type test v) code v a)

  pub converted_kept : (test : SequenceTest) → One (converted test)
  converted_kept NoItems v a = if_type_kept NoItems c.XPTY0004 v a
  converted_kept (ItemsOf AnyItem occurs) v a = if_type_kept (ItemsOf AnyItem occurs) c.XPTY0004 v a
  converted_kept (ItemsOf (NodeOf test) occurs) v a = if_type_kept (ItemsOf (NodeOf test) occurs) c.XPTY0004 v a
  converted_kept (ItemsOf AnyAtom occurs) v a = where_kept items_of items_of (λ bs. (sym (all_atoms W bs), known_atoms docs W bs)) _ _ (ap (if_number occurs) (data_cells W v))
  converted_kept (ItemsOf (AtomOf kind) occurs) v a =
      where_kept (λ (p : List Atom × List Atom). items_of p.1) (λ (p : List Atom × List Atom). items_of p.1) (λ p. (sym (all_atoms W p.1), known_atoms docs W p.1)) _ _
      (ap (λ bs. both_of (if_number occurs bs) (all_of (converted_atom kind) bs)) (data_cells W v))

  -- rules on one node or none
  abbrev MaybeKnown : Answer (Option (Node Text)) → Type 0
  MaybeKnown (Value None) = Unit {0}
  MaybeKnown (Value (Some n)) = KnownNode docs W n
  MaybeKnown (Fault d) = Unit {0}

  maybe_known : (vs : Items) → AllOf (Known docs W) vs → MaybeKnown (maybe_node vs)
  maybe_known [] a = tt
  maybe_known (IntItem z ∷ vs) a = tt
  maybe_known (TextItem t ∷ vs) a = tt
  maybe_known (UntypedItem t ∷ vs) a = tt
  maybe_known (BoolItem b ∷ vs) a = tt
  maybe_known (NodeItem n ∷ []) a = a.0
  maybe_known (NodeItem n ∷ u ∷ vs) a = tt

  pub root_kept : One root_answer
  root_kept v a = then_kept _ _ _ (ap (with_value root_of_node) (maybe_node_cells W v)) (at (maybe_node v) (maybe_known v a))
    where
      at : (x : Answer (Option (Node Text))) → MaybeKnown x → Kept (with_value root_of_node (with_value (cell_option W) x)) (with_value root_of_node x)
      at (Value None) k = (refl, tt)
      at (Value (Some n)) k = (refl, ((k.0, refl), tt))
      at (Fault d) k = (refl, tt)

  named_kept : (g : Text → Text) (v : Items) → Kept (with_value (λ n. TextItem (g (name_or_empty n)) ∷ []) (maybe_node (map (cell_of W) v))) (with_value (λ n. TextItem (g (name_or_empty n)) ∷ []) (maybe_node v))
  named_kept g v = then_kept _ _ _ (ap (with_value (λ n. TextItem (g (name_or_empty n)) ∷ [])) (maybe_node_cells W v)) (at (maybe_node v))
    where
      at : (x : Answer (Option (Node Text))) → Kept (with_value (λ n. TextItem (g (name_or_empty n)) ∷ []) (with_value (cell_option W) x)) (with_value (λ n. TextItem (g (name_or_empty n)) ∷ []) x)
      at (Value None) = (refl, (tt, tt))
      at (Value (Some n)) = (refl, (tt, tt))
      at (Fault d) = (refl, tt)

  pub name_kept : One name_answer
  name_kept v a = named_kept (λ t. t) v

  pub local_name_kept : One local_name_answer
  local_name_kept v a = named_kept local_part v

  doc_from_kept : (ds : Docs) (k : ℕ) (name : Text) → ((j : ℕ) → doc_tree docs (k + j) ≡ doc_tree ds j) → Kept (doc_named ds k name) (doc_named ds k name)
  doc_from_kept [] k name h = (refl, tt)
  doc_from_kept (d ∷ ds) k name h =
      let here : doc_tree docs k ≡ Some d.1 = ap (doc_tree docs) (sym (add-zero k)) ∙ h 0 in
      let r = doc_from_kept ds (k + 1) name (λ j. let z : k + 1 + j ≡ k + suc j = omega arith in ap (doc_tree docs) z ∙ h (suc j)) in
      elim (text_eq d.0 name) as (λ b. Kept (cond b (Value (NodeItem (record { id = DocTree k; tree = d.1; path = root_path }) ∷ [])) (doc_named ds (k + 1) name)) (cond b (Value (NodeItem (record { id = DocTree k; tree = d.1; path = root_path }) ∷ [])) (doc_named ds (k + 1) name))) [
        | true ↦ (refl, ((here, refl), tt))
        | false ↦ r
      ]

  pub doc_kept : One (doc_answer docs)
  doc_kept v a = then_kept _ _ _ (ap (λ ds. then_rule (maybe_text ds) (doc_or_none docs)) (data_cells W v)) (at (maybe_text (data_of v)))
    where
      at : (x : Answer (Option Text)) → Kept (then_rule x (doc_or_none docs)) (then_rule x (doc_or_none docs))
      at (Value None) = (refl, tt)
      at (Value (Some name)) = doc_from_kept docs 0 name (λ j. let z : 0 + j ≡ j = omega arith in ap (doc_tree docs) z)
      at (Fault d) = (refl, tt)

  module _ (fw : Faithful W) where
    pub comparison_kept : (g : Node Text → Node Text → Bool) → ((m n : Node Text) → KnownNode docs W m → KnownNode docs W n → g (cell_node W m) (cell_node W n) ≡ g m n) → Two (node_comparison g)
    comparison_kept g h v u a b =
        then_kept _ _ _
        (ap (λ x. with_value (on_both g) (both_of x (maybe_node (map (cell_of W) u)))) (maybe_node_cells W v) ∙ ap (λ x. with_value (on_both g) (both_of (with_value (cell_option W) (maybe_node v)) x)) (maybe_node_cells W u))
        (at (maybe_node v) (maybe_node u) (maybe_known v a) (maybe_known u b))
      where
        at : (x y : Answer (Option (Node Text))) → MaybeKnown x → MaybeKnown y → Kept (with_value (on_both g) (both_of (with_value (cell_option W) x) (with_value (cell_option W) y))) (with_value (on_both g) (both_of x y))
        at (Value (Some m)) (Value (Some n)) k l = truth_kept _ _ (h m n k l)
        at (Value (Some m)) (Value None) k l = (refl, tt)
        at (Value None) (Value n) k l = (refl, tt)
        at (Value m) (Fault e) k l = (refl, tt)
        at (Fault d) (Value n) k l = (refl, tt)
        at (Fault d) (Fault e) k l = (refl, tt)

    pub is_kept : Two (node_comparison node_eq)
    is_kept v u a b = comparison_kept node_eq (λ m n k l. (nodes_kept docs W fw m n k l).0) v u a b

    pub before_kept : Two (node_comparison node_less)
    before_kept v u a b = comparison_kept node_less (λ m n k l. (nodes_kept docs W fw m n k l).1) v u a b

    pub after_kept : Two (node_comparison (λ m n. node_less n m))
    after_kept v u a b = comparison_kept (λ m n. node_less n m) (λ m n k l. (nodes_kept docs W fw n m l k).1) v u a b

    -- rules on nodes alone
    abbrev NodesKnown : Answer (List (Node Text)) → Type 0
    NodesKnown (Value ns) = AllOf (KnownNode docs W) ns
    NodesKnown (Fault d) = Unit {0}

    alone_known : (vs : Items) → AllOf (Known docs W) vs → NodesKnown (nodes_alone vs)
    alone_known vs a = let k = known_in docs W vs a in elim (all_nodes vs) as (λ b. NodesKnown (cond b (Value (nodes_in vs)) (Fault c.XPTY0004))) [ true ↦ k | false ↦ tt ]

    pub set_kept : (g : List (Node Text) → List (Node Text) → List (Node Text))
        → ((ms ns : List (Node Text)) → AllOf (KnownNode docs W) ms → AllOf (KnownNode docs W) ns → (g (map (cell_node W) ms) (map (cell_node W) ns) ≡ map (cell_node W) (g ms ns)) × AllOf (KnownNode docs W) (g ms ns))
        → Two (node_set g)
    set_kept g h v u a b =
        then_kept _ _ _
        (ap (λ x. with_value (λ p. items_at (in_document_order (g p.0 p.1))) (both_of x (nodes_alone (map (cell_of W) u)))) (nodes_alone_cells W v)
        ∙ ap (λ x. with_value (λ p. items_at (in_document_order (g p.0 p.1))) (both_of (with_value (map (cell_node W)) (nodes_alone v)) x)) (nodes_alone_cells W u))
        (at (nodes_alone v) (nodes_alone u) (alone_known v a) (alone_known u b))
      where
        at : (x y : Answer (List (Node Text))) → NodesKnown x → NodesKnown y
            → Kept (with_value (λ p. items_at (in_document_order (g p.0 p.1))) (both_of (with_value (map (cell_node W)) x) (with_value (map (cell_node W)) y))) (with_value (λ p. items_at (in_document_order (g p.0 p.1))) (both_of x y))
        at (Value ms) (Value ns) k l =
            let q = h ms ns k l in
            let o = in_order_cells docs W fw (g ms ns) q.1 in
            (ap (λ rs. Value (items_at (in_document_order rs))) q.0 ∙ ap Value o.0, o.1)
        at (Value ms) (Fault e) k l = (refl, tt)
        at (Fault d) (Value ns) k l = (refl, tt)
        at (Fault d) (Fault e) k l = (refl, tt)

    pub path_kept : One path_result
    path_kept v a =
        let o = in_order_cells docs W fw (nodes_in v) (known_in docs W v a) in
        let os = items_at (in_document_order (nodes_in v)) in
        then_kept _ _ _
        (ap (λ b. cond b (Value (items_at (in_document_order (nodes_in (map (cell_of W) v))))) (cond (no_node (map (cell_of W) v)) (Value (map (cell_of W) v)) (Fault c.XPTY0018))) (all_nodes_cells W v)
        ∙ ap (λ b. cond (all_nodes v) (Value (items_at (in_document_order (nodes_in (map (cell_of W) v))))) (cond b (Value (map (cell_of W) v)) (Fault c.XPTY0018))) (no_node_cells W v)
        ∙ ap (λ ns. cond (all_nodes v) (Value (items_at (in_document_order ns))) (cond (no_node v) (Value (map (cell_of W) v)) (Fault c.XPTY0018))) (nodes_in_cells W v)
        ∙ ap (λ is. cond (all_nodes v) (Value is) (cond (no_node v) (Value (map (cell_of W) v)) (Fault c.XPTY0018))) o.0)
        (at os o.1 (all_nodes v) (no_node v))
      where
        at : (os : Items) → AllOf (Known docs W) os → (b d : Bool) → Kept (cond b (Value (map (cell_of W) os)) (cond d (Value (map (cell_of W) v)) (Fault c.XPTY0018))) (cond b (Value os) (cond d (Value v) (Fault c.XPTY0018)))
        at os k true d = (refl, k)
        at os k false true = (refl, a)
        at os k false false = (refl, tt)

    pub step_kept : (code : Code) (axis : Axis) (test : Test Text) → One (step_answer code axis test)
    step_kept code axis test v a =
        let ns = flat_map (found axis test) (nodes_in v) in
        let o = in_order_cells docs W fw ns (known_found docs W axis test (nodes_in v) (known_in docs W v a)) in
        then_kept _ _ _
        (ap (λ b. cond b (Value (items_at (in_document_order (flat_map (found axis test) (nodes_in (map (cell_of W) v)))))) (Fault code)) (all_nodes_cells W v)
        ∙ ap (λ ms. cond (all_nodes v) (Value (items_at (in_document_order (flat_map (found axis test) ms)))) (Fault code)) (nodes_in_cells W v)
        ∙ ap (λ ms. cond (all_nodes v) (Value (items_at (in_document_order ms))) (Fault code)) (all_found_cells W axis test (nodes_in v))
        ∙ ap (λ is. cond (all_nodes v) (Value is) (Fault code)) o.0)
        (cond_kept (all_nodes v) code (items_at (in_document_order ns)) o.1)

module _ (docs : Docs) (site : Site) where
  -- a constructor: the number of the iteration stands for the vector
  make_fair : (kind : NodeKind) → Fair docs site (Make kind)
  make_fair kind W es its fw nw i a vs e known = then_kept docs W _ _ _ (ap (with_value (made_node (BuiltTree site.number (i.number ∷ [])))) (built_cells W kind vs)) (at (built kind vs) refl)
    where
      among : Among i (W site.number).its
      among = subst (λ (r : Reach). Among i r.its) (sym nw) a

      at : (x : Answer (Option (Tree Text))) → built kind vs ≡ x → Kept docs W (with_value (made_node (BuiltTree site.number (i.number ∷ []))) x) (with_value (made_node (BuiltTree site.number i.vector)) x)
      at (Value None) q = (refl, tt)
      at (Fault d) q = (refl, tt)
      at (Value (Some t)) q = (
        ap (λ n. Value (NodeItem (record { id = BuiltTree site.number (n ∷ []); tree = t; path = root_path }) ∷ [])) (sym (number_found (W site.number).its (fw site.number).0 i among)),
        (
          (
            record {
              from = i;
              among = among;
              vector_is = refl;
              made_is =
                  ap (λ (r : Reach). val docs (Call r.site r.rule r.parts) i.env i.vector) nw
                  ∙ ap (λ o. and_then o (λ us. value_in (with_value (made_node (BuiltTree site.number i.vector)) (built kind us)))) e
                  ∙ ap (λ y. value_in (with_value (made_node (BuiltTree site.number i.vector)) y)) q;
            },
            refl,
          ),
          tt,
        ),
      )

  function_fair : (g : Fun) → Fair docs site (Apply g)
  function_fair f.Or = λ W es its fw nw i a vs e k. booleans_kept docs W _ vs
  function_fair f.And = λ W es its fw nw i a vs e k. booleans_kept docs W _ vs
  function_fair f.Eq = eq_fair docs site
  function_fair f.Ne = ne_fair docs site
  function_fair f.Lt = lt_fair docs site
  function_fair f.Le = le_fair docs site
  function_fair f.Gt = gt_fair docs site
  function_fair f.Ge = ge_fair docs site
  function_fair f.GeneralEq = general_eq_fair docs site
  function_fair f.GeneralNe = general_ne_fair docs site
  function_fair f.GeneralLt = general_lt_fair docs site
  function_fair f.GeneralLe = general_le_fair docs site
  function_fair f.GeneralGt = general_gt_fair docs site
  function_fair f.GeneralGe = general_ge_fair docs site
  function_fair f.Is = λ W es its fw nw i a vs e k. two_kept docs W _ (is_kept docs W fw) vs k
  function_fair f.Before = λ W es its fw nw i a vs e k. two_kept docs W _ (before_kept docs W fw) vs k
  function_fair f.After = λ W es its fw nw i a vs e k. two_kept docs W _ (after_kept docs W fw) vs k
  function_fair f.To = to_fair docs site
  function_fair f.Add = add_fair docs site
  function_fair f.Subtract = subtract_fair docs site
  function_fair f.Multiply = multiply_fair docs site
  function_fair f.IntegerDivide = divide_fair docs site
  function_fair f.Modulo = modulo_fair docs site
  function_fair f.Negate = negate_fair docs site
  function_fair f.Union = λ W es its fw nw i a vs e k. two_kept docs W _ (set_kept docs W fw (λ ms ns. ms ++ ns) (union_cells docs W)) vs k
  function_fair f.Intersect = λ W es its fw nw i a vs e k. two_kept docs W _ (set_kept docs W fw those_in (in_cells docs W fw)) vs k
  function_fair f.Except = λ W es its fw nw i a vs e k. two_kept docs W _ (set_kept docs W fw those_not_in (not_in_cells docs W fw)) vs k
  function_fair f.Doc = λ W es its fw nw i a vs e k. one_kept docs W _ (doc_kept docs W) vs k
  function_fair f.Root = λ W es its fw nw i a vs e k. one_kept docs W _ (root_kept docs W) vs k
  function_fair f.Count = λ W es its fw nw i a vs e k. one_kept docs W _ (count_kept docs W) vs k
  function_fair f.Empty = λ W es its fw nw i a vs e k. one_kept docs W _ (empty_kept docs W) vs k
  function_fair f.Exists = λ W es its fw nw i a vs e k. one_kept docs W _ (exists_kept docs W) vs k
  function_fair f.Boolean = λ W es its fw nw i a vs e k. one_kept docs W _ (boolean_kept docs W) vs k
  function_fair f.Not = λ W es its fw nw i a vs e k. one_kept docs W _ (not_kept docs W) vs k
  function_fair f.True = λ W es its fw nw i a vs e k. none_kept docs W _ (refl, (tt, tt)) vs
  function_fair f.False = λ W es its fw nw i a vs e k. none_kept docs W _ (refl, (tt, tt)) vs
  function_fair f.StringOf = λ W es its fw nw i a vs e k. one_kept docs W _ (string_kept docs W) vs k
  function_fair f.Data = data_fair docs site
  function_fair f.Name = λ W es its fw nw i a vs e k. one_kept docs W _ (name_kept docs W) vs k
  function_fair f.LocalName = λ W es its fw nw i a vs e k. one_kept docs W _ (local_name_kept docs W) vs k
  function_fair f.StringLength = string_length_fair docs site
  function_fair f.NormalizeSpace = normalize_space_fair docs site
  function_fair f.Concat = concat_fair docs site
  function_fair f.StringJoin = string_join_fair docs site
  function_fair f.Contains = contains_fair docs site
  function_fair f.StartsWith = starts_with_fair docs site
  function_fair f.EndsWith = ends_with_fair docs site
  function_fair f.SubstringBefore = substring_before_fair docs site
  function_fair f.SubstringAfter = substring_after_fair docs site
  function_fair f.Substring = substring_fair docs site
  function_fair f.Translate = translate_fair docs site
  function_fair f.Compare = compare_fair docs site
  function_fair f.Abs = abs_fair docs site
  function_fair f.Sum = sum_fair docs site
  function_fair f.Min = min_fair docs site
  function_fair f.Max = max_fair docs site
  function_fair f.DistinctValues = distinct_values_fair docs site
  function_fair f.IndexOf = index_of_fair docs site
  function_fair f.Reverse = λ W es its fw nw i a vs e k. one_kept docs W _ (reverse_kept docs W) vs k
  function_fair f.Subsequence = λ W es its fw nw i a vs e k. two_or_three_kept docs W _ _ (part_from_kept docs W) (part_of_kept docs W) vs k
  function_fair f.InsertBefore = λ W es its fw nw i a vs e k. three_kept docs W _ (inserted_kept docs W) vs k
  function_fair f.Remove = λ W es its fw nw i a vs e k. two_kept docs W _ (removed_kept docs W) vs k
  function_fair f.ZeroOrOne = λ W es its fw nw i a vs e k. one_kept docs W _ (zero_or_one_kept docs W) vs k
  function_fair f.OneOrMore = λ W es its fw nw i a vs e k. one_kept docs W _ (one_or_more_kept docs W) vs k
  function_fair f.ExactlyOne = λ W es its fw nw i a vs e k. one_kept docs W _ (exactly_one_kept docs W) vs k
  function_fair f.Position = λ W es its fw nw i a vs e k. (refl, tt)
  function_fair f.Last = λ W es its fw nw i a vs e k. (refl, tt)
  function_fair f.Error = λ W es its fw nw i a vs e k. (refl, tt)
  function_fair f.XsInteger = integer_fair docs site
  function_fair f.XsString = string_fair docs site
  function_fair f.XsBoolean = boolean_fair docs site
  function_fair f.XsUntypedAtomic = untyped_fair docs site
  function_fair f.PathOrder = λ W es its fw nw i a vs e k. one_kept docs W _ (path_kept docs W fw) vs k
  function_fair f.ContentText = content_text_fair docs site
  function_fair f.Atomize = atomize_fair docs site
  function_fair f.QName = λ W es its fw nw i a vs e k. one_kept docs W _ (qname_kept docs W) vs k
  function_fair f.PiTarget = λ W es its fw nw i a vs e k. one_kept docs W _ (target_kept docs W) vs k
  function_fair (f.IsKind kind) = λ W es its fw nw i a vs e k. one_kept docs W _ (kind_kept docs W kind) vs k
  function_fair (f.CastTo kind) = λ W es its fw nw i a vs e k. one_kept docs W _ (cast_kept docs W kind true) vs k
  function_fair (f.Extern term arity) = λ W es its fw nw i a vs e k. (refl, tt)

  pub rule_fair : (r : Rule) → Fair docs site r
  rule_fair (Apply g) = function_fair g
  rule_fair (Walk from axis test) = λ W es its fw nw i a vs e k. one_kept docs W _ (step_kept docs W fw (no_node_code from) axis test) vs k
  rule_fair (Make kind) = make_fair kind
  rule_fair (IsOf test) = λ W es its fw nw i a vs e k. one_kept docs W _ (type_kept docs W test) vs k
  rule_fair (TreatAs test) = λ W es its fw nw i a vs e k. one_kept docs W _ (if_type_kept docs W test c.XPDY0050) vs k
  rule_fair (ConvertTo test) = λ W es its fw nw i a vs e k. one_kept docs W _ (converted_kept docs W test) vs k
  rule_fair (CastTo kind optional) = λ W es its fw nw i a vs e k. one_kept docs W _ (cast_kept docs W kind optional) vs k
  rule_fair (CastableTo kind optional) = λ W es its fw nw i a vs e k. one_kept docs W _ (castable_kept docs W kind optional) vs k
  rule_fair (FailWith code) = λ W es its fw nw i a vs e k. (refl, tt)
