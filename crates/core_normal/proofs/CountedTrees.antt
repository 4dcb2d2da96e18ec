-- What the code finds of an expression is its size, ended.
use Rattle.std.proofs.Common.{◌≡◌, refl, sym, ap, subst, ℕ, ℤ, Bool, true, false, length, suc, List, [], ◌∷◌, Option, Some, None, slice_get}
use Rattle.xq_base.specs.declared.fun.AtomKind.{AtomKind}
use Rattle.xq_base.specs.declared.item.TextId.{TextId}
use Rattle.xq_ast.specs.declared.leaf.Callee.{Callee}
use Rattle.xq_ast.specs.declared.leaf.Callee.TheVariants as callee
use Rattle.xq_ast.specs.declared.leaf.SeqType.{SeqType}
use Rattle.xq_ast.specs.declared.leaf.TextRun.{TextRun as CodeRun}
use Rattle.xq_ast.specs.declared.node.AsResolved.{AsResolved}
use Rattle.xq_ast.specs.declared.node.BuildName.TheVariants as name_
use Rattle.xq_ast.specs.declared.node.Key.{Key}
use Rattle.xq_ast.specs.declared.node.Node.{roll-Node, map-Node}
use Rattle.xq_ast.specs.declared.node.Node.TheOpen.{Node-F}
use Rattle.xq_ast.specs.declared.node.Node.TheOpen as o
use Rattle.xq_ast.specs.declared.node.Node.TheFolds.{fold-roll-Node, ind-Node}
use Rattle.core_meaning.specs.Erasure.{Texts}
use Rattle.core_scope.specs.Syn.{Syn, resolved}
use Rattle.core_scope.specs.Erasure.{node_of, start_of, step_from}
use Rattle.core_scope.specs.Leaves.{ResolvedTree, resolved_leaves, syn_resolved}
use Rattle.core_normal.specs.declared.sizes.Size.{Size as Held}
use Rattle.core_normal.specs.declared.sized.FunSize.{FunSize as HeldFun}
use Rattle.core_normal.specs.Sizes.{Size, FunSize, leaf, sequence, all, built_in_call, with_params}
use Rattle.core_normal.specs.Sized as d
use Rattle.core_normal.specs.Sized.{sized}
use Rattle.core_normal.specs.Counting as z
use Rattle.core_normal.specs.Counting.{size_of, node_size}
use Rattle.core_normal.specs.Ends.{Ends, FunEnds, KnownAt, Known, is_told}
use Rattle.core_normal.proofs.CountedPieces.{alone_behind, nothing_ends, leaf_ends, pair_ends, instruction_ends, root_ends, beside_ends, over_ends, over_one_ends, node_ends, conditional_ends, later_told, bare_fills}
use Rattle.core_normal.proofs.CountedLists.{Such, held_all, syns, chain_ends, all_ends, params_fill, operators_ends, signs_end, quant_fill, clauses_fill, keys_end, held_keys, syn_keys}
use Rattle.core_normal.proofs.CountedParts.{built_in_ends, start_ends, step_ends, steps_end, attributes_follow, parts_end, Follows, syn_step}

-- what is to be shown of a size is shown where it is told
told_ends : (must : Bool) {h : Held} {a : Size} → (is_told must h.is_known ≡ true → Ends must h a) → Ends must h a
told_ends must k = record { nodes = λ e. (k e).nodes e; levels = λ e. (k e).levels e }

nothing_yet : (must : Bool) → Follows must None sequence
nothing_yet must = record { part = None; ends = tt; is = λ rest. refl }

module _ (must : Bool) (table : List HeldFun) (funs : ℕ → FunSize) (t : Texts) (known : Known must table funs) where
  count_same : (xs : List (Such must table funs t)) → length (held_all must table funs t xs) ≡ length (d.sized_all funs (syns must table funs t xs))
  unfolding sized
  count_same [] = refl
  count_same (x ∷ xs) = ap suc (count_same xs)

  some_called : (h : HeldFun) (f : FunSize) (es : List (Such must table funs t)) → FunEnds must h f →
      Ends must (z.filled (z.params h.typed.items (held_all must table funs t es) z.bare) h.body) (with_params f.types (d.sized_all funs (syns must table funs t es)) f.body)
  some_called h f es p = told_ends must (λ e.
      subst (λ u. Ends must (z.filled (z.params u (held_all must table funs t es) z.bare) h.body) (with_params f.types (d.sized_all funs (syns must table funs t es)) f.body))
      (sym (p.typed (later_told must (z.params h.typed.items (held_all must table funs t es) z.bare).is_known h.body.is_known e)))
      ((params_fill must table funs t f.types es bare_fills).fill h.body f.body p.body))

  none_called : Ends must (z.filled z.bare z.leaf) leaf
  none_called = record { nodes = λ e. refl; levels = λ e. refl }

  declared_called : (h : Option HeldFun) (f : FunSize) (es : List (Such must table funs t)) → KnownAt must h f →
      Ends must (z.filled (z.params (z.typed_in h) (held_all must table funs t es) z.bare) (z.body_in h)) (with_params f.types (d.sized_all funs (syns must table funs t es)) f.body)
  declared_called None f es p =
      subst (λ g. Ends must (z.filled z.bare z.leaf) (with_params g.types (d.sized_all funs (syns must table funs t es)) g.body)) (sym p) none_called
  declared_called (Some h) f es p = some_called h f es p

  call_ends : (f : Callee) (es : List (Such must table funs t)) → Ends must (z.call table f (held_all must table funs t es)) (d.called funs f (d.sized_all funs (syns must table funs t es)))
  call_ends (callee.Known f) es =
      subst (λ k. Ends must (z.built_in f k (z.all_from z.nothing (held_all must table funs t es))) (built_in_call f (d.sized_all funs (syns must table funs t es)))) (sym (count_same es))
      (built_in_ends f (d.sized_all funs (syns must table funs t es))
      (subst (λ u. Ends must (z.all_from z.nothing (held_all must table funs t es)) u) (alone_behind (all (d.sized_all funs (syns must table funs t es)))) (all_ends must table funs t es nothing_ends)))
  call_ends (callee.Declared k) es = declared_called (slice_get table k) (funs k) es (known.at_number k)

  all_keys : (k : Key (Such must table funs t)) (ks : List (Key (Such must table funs t))) →
      Ends must (z.keys (λ x. x) z.nothing (held_keys must table funs t (k ∷ ks))) (d.sized_keys funs (syn_keys must table funs t (k ∷ ks)))
  all_keys k ks =
      subst (λ u. Ends must (z.keys (λ x. x) z.nothing (held_keys must table funs t (k ∷ ks))) u) (alone_behind (d.sized_keys funs (syn_keys must table funs t (k ∷ ks)))) (keys_end must table funs t (k ∷ ks) nothing_ends)

  abbrev firsts : Node-F AsResolved TextId ℕ Callee SeqType AtomKind ℤ CodeRun TextId (Such must table funs t) → Node-F AsResolved TextId ℕ Callee SeqType AtomKind ℤ CodeRun TextId ResolvedTree
  firsts y = map-Node AsResolved TextId ℕ Callee SeqType AtomKind ℤ CodeRun TextId (Such must table funs t) ResolvedTree (λ w. w.0) y

  abbrev held_layer : Node-F AsResolved TextId ℕ Callee SeqType AtomKind ℤ CodeRun TextId ResolvedTree → Held
  held_layer y = node_size table (map-Node AsResolved TextId ℕ Callee SeqType AtomKind ℤ CodeRun TextId ResolvedTree Held (size_of table) y)

  abbrev syn_layer : Node-F AsResolved TextId ℕ Callee SeqType AtomKind ℤ CodeRun TextId ResolvedTree → Syn resolved
  syn_layer y = node_of (resolved_leaves t) AsResolved (map-Node AsResolved TextId ℕ Callee SeqType AtomKind ℤ CodeRun TextId ResolvedTree (Syn resolved) (syn_resolved t) y)

  layer_ends : (y : Node-F AsResolved TextId ℕ Callee SeqType AtomKind ℤ CodeRun TextId (Such must table funs t)) → Ends must (held_layer (firsts y)) (sized funs (syn_layer (firsts y)))
  unfolding sized
  layer_ends (o.Comma at a es) = chain_ends must table funs t es a.1
  layer_ends (o.Flwor at cs None [] a) = (clauses_fill must table funs t false cs z.bare _ bare_fills).fill _ _ a.1
  layer_ends (o.Flwor at cs (Some w) [] a) = (clauses_fill must table funs t false cs z.bare _ bare_fills).fill _ _ (conditional_ends w.1 a.1 leaf_ends)
  layer_ends (o.Flwor at cs None (k ∷ ks) a) =
      node_ends ((clauses_fill must table funs t true cs z.bare _ bare_fills).fill _ _ nothing_ends)
      (beside_ends (all_keys k ks) a.1)
  layer_ends (o.Flwor at cs (Some w) (k ∷ ks) a) =
      node_ends ((clauses_fill must table funs t true cs z.bare _ bare_fills).fill _ _ (beside_ends (over_one_ends w.1) nothing_ends))
      (beside_ends (all_keys k ks) a.1)
  layer_ends (o.Quantified at q bs a) = over_one_ends ((quant_fill must table funs t bs bare_fills).fill _ _ (conditional_ends a.1 leaf_ends leaf_ends))
  layer_ends (o.If at a b e) = conditional_ends a.1 b.1 e.1
  layer_ends (o.Chain at a bs) = operators_ends must table funs t at bs (syn_resolved t a.0) a.1
  layer_ends (o.Signed at gs a) = signs_end must table funs t gs (syn_resolved t a.0) bare_fills a.1
  layer_ends (o.Instance at a ty) = over_ends a.1
  layer_ends (o.Treat at a ty) = over_ends a.1
  layer_ends (o.Castable at a k m) = over_ends a.1
  layer_ends (o.Cast at a k m) = over_ends a.1
  layer_ends (o.Root at) = root_ends
  layer_ends (o.Path from' x bs) = steps_end must table funs t bs (step_from (resolved_leaves t) (start_of from') (syn_step must table funs t x)) (step_ends must table funs t x (z.start from') (start_of from') (start_ends must table funs t from'))
  layer_ends (o.Integer at n) = leaf_ends
  layer_ends (o.Text at x) = leaf_ends
  layer_ends (o.Var at v) = leaf_ends
  layer_ends (o.Paren at None) = leaf_ends
  layer_ends (o.Paren at (Some a)) = a.1
  layer_ends (o.Dot at) = leaf_ends
  layer_ends (o.Call at f es) = call_ends f es
  layer_ends (o.Build at k name_.Absent None) = node_ends nothing_ends leaf_ends
  layer_ends (o.Build at k name_.Absent (Some a)) = node_ends nothing_ends a.1
  layer_ends (o.Build at k (name_.Named n) None) = node_ends (beside_ends leaf_ends nothing_ends) leaf_ends
  layer_ends (o.Build at k (name_.Named n) (Some a)) = node_ends (beside_ends leaf_ends nothing_ends) a.1
  layer_ends (o.Build at k (name_.Computed x) None) = node_ends (beside_ends x.1 nothing_ends) leaf_ends
  layer_ends (o.Build at k (name_.Computed x) (Some a)) = node_ends (beside_ends x.1 nothing_ends) a.1
  layer_ends (o.Element at n as' ps) = parts_end must table funs t ps false _ _ (attributes_follow must table funs t as' (nothing_yet must))
  layer_ends (o.Comment at x) = pair_ends
  layer_ends (o.Instruction at n x) = instruction_ends

  abbrev Counts : ResolvedTree → Type 0
  Counts w = Ends must (size_of table w) (sized funs (syn_resolved t w))

  rolled : (x : Node-F AsResolved TextId ℕ Callee SeqType AtomKind ℤ CodeRun TextId ResolvedTree) → Ends must (held_layer x) (sized funs (syn_layer x)) →
      Counts (roll-Node AsResolved TextId ℕ Callee SeqType AtomKind ℤ CodeRun TextId x)
  rolled x p =
      subst (λ h. Ends must h (sized funs (syn_resolved t (roll-Node AsResolved TextId ℕ Callee SeqType AtomKind ℤ CodeRun TextId x))))
      (sym (fold-roll-Node AsResolved TextId ℕ Callee SeqType AtomKind ℤ CodeRun TextId Held (node_size table) x))
      (subst (λ u. Ends must (held_layer x) (sized funs u)) (sym (fold-roll-Node AsResolved TextId ℕ Callee SeqType AtomKind ℤ CodeRun TextId (Syn resolved) (node_of (resolved_leaves t) AsResolved) x)) p)

  pub tree_ends : (w : ResolvedTree) → Ends must (size_of table w) (sized funs (syn_resolved t w))
  tree_ends = ind-Node AsResolved TextId ℕ Callee SeqType AtomKind ℤ CodeRun TextId Counts
      (λ w y is. subst (λ x. Counts (roll-Node AsResolved TextId ℕ Callee SeqType AtomKind ℤ CodeRun TextId x)) is (rolled (firsts y) (layer_ends y)))
