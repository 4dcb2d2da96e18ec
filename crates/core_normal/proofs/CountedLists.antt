-- What the code finds of lists of parts is their size, ended, where it is that of each part.
use Rattle.std.proofs.Common.{sym, subst, ℕ, ℤ, Bool, true, false, cond, map, List, [], ◌∷◌, Option, Some, None}
use Rattle.xq_base.specs.declared.fun.AtomKind.{AtomKind}
use Rattle.xq_base.specs.declared.item.TextId.{TextId}
use Rattle.xq_ast.specs.declared.leaf.Callee.{Callee}
use Rattle.xq_ast.specs.declared.leaf.SeqType.{SeqType}
use Rattle.xq_ast.specs.declared.leaf.TextRun.{TextRun as CodeRun}
use Rattle.xq_ast.specs.declared.node.AsResolved.{AsResolved}
use Rattle.xq_ast.specs.declared.node.Clause.{Clause}
use Rattle.xq_ast.specs.declared.node.Clause.TheVariants as clause_
use Rattle.xq_ast.specs.declared.node.ForBind.{ForBind}
use Rattle.xq_ast.specs.declared.node.Key.{Key}
use Rattle.xq_ast.specs.declared.node.LetBind.{LetBind}
use Rattle.xq_ast.specs.declared.node.Node.TheShapes.{former-Node-Chain-2, former-Node-Flwor-1, former-Node-Flwor-3, former-Node-Quantified-2}
use Rattle.xq_ast.specs.declared.node.QuantBind.{QuantBind}
use Rattle.xq_ast.specs.declared.node.Right.{Right}
use Rattle.xq_ast.specs.declared.node.Signed.{Signed}
use Rattle.core_meaning.specs.Erasure.{Texts}
use Rattle.core_meaning.specs.Types.{SequenceTest}
use Rattle.core_scope.specs.Syn.{Syn, Syns, Binds, Keys, resolved}
use Rattle.core_scope.specs.Syn as s
use Rattle.core_scope.specs.Erasure.{syns_of, to_left, with_signs}
use Rattle.core_scope.specs.Erasure as e
use Rattle.core_scope.specs.Leaves.{ResolvedTree, resolved_leaves, syn_resolved}
use Rattle.core_normal.specs.declared.sizes.Size.{Size as Held}
use Rattle.core_normal.specs.declared.sizes.Round.{Round}
use Rattle.core_normal.specs.declared.sized.FunSize.{FunSize as HeldFun}
use Rattle.core_normal.specs.Sizes.{Size, FunSize, beside, all, chain, converted, with_params}
use Rattle.core_normal.specs.Sized as d
use Rattle.core_normal.specs.Sized.{sized}
use Rattle.core_normal.specs.Counting as z
use Rattle.core_normal.specs.Counting.{size_of}
use Rattle.core_normal.specs.Ends.{Ends, has_type, has_types}
use Rattle.core_normal.proofs.CountedPieces.{alone, beside_later, beside_ends, over_ends, node_ends, selected_ends, binary_ends, Fills, under_fills, signed_fills, nested_fills, sorted_fills}

module _ (must : Bool) (table : List HeldFun) (funs : ℕ → FunSize) (t : Texts) where
  -- an expression with what is known of it
  abbrev pub Such : Type 0
  Such = (w : ResolvedTree) × Ends must (size_of table w) (sized funs (syn_resolved t w))

  abbrev pub held : Such → Held
  held w = size_of table w.0

  abbrev pub syn : Such → Syn resolved
  syn w = syn_resolved t w.0

  abbrev pub held_all : List Such → List Held
  held_all xs = map (size_of table) (map (λ w. w.0) xs)

  abbrev pub syns : List Such → Syns resolved
  syns xs = syns_of (map (syn_resolved t) (map (λ w. w.0) xs))

  pub chain_ends : (xs : List Such) {h : Held} {a : Size} → Ends must h a → Ends must (z.chain h (held_all xs)) (chain a (d.sized_all funs (syns xs)))
  unfolding sized
  chain_ends [] p = p
  chain_ends (x ∷ xs) p = chain_ends xs (node_ends p x.1)

  pub all_ends : (xs : List Such) {h : Held} {a : Size} → Ends must h a → Ends must (z.all_from h (held_all xs)) (beside a (all (d.sized_all funs (syns xs))))
  unfolding sized
  all_ends [] {h} {a} p = subst (λ u. Ends must h u) (sym (alone a)) p
  all_ends (x ∷ xs) {h} {a} p =
      subst (λ u. Ends must (z.all_from (z.beside h (held x)) (held_all xs)) u) (beside_later a (sized funs (syn x)) (all (d.sized_all funs (syns xs))))
      (all_ends xs (beside_ends p x.1))

  pub predicates_ends : (xs : List Such) {h : Held} {a : Size} → Ends must h a → Ends must (z.predicates h (map (λ y. y) (held_all xs))) (d.predicates funs (syns xs) a)
  unfolding sized
  predicates_ends [] p = p
  predicates_ends (x ∷ xs) p = predicates_ends xs (selected_ends p x.1)

  param_ends : (ty : Option SequenceTest) {h : Held} {a : Size} → Ends must h a → Ends must (cond (has_type ty) (z.over h) h) (converted ty a)
  param_ends None p = p
  param_ends (Some ty) p = over_ends p

  pub params_fill : (types : List (Option SequenceTest)) (xs : List Such) {r : Round} {f : Size → Size} → Fills must r f →
      Fills must (z.params (has_types types) (held_all xs) r) (λ a. f (with_params types (d.sized_all funs (syns xs)) a))
  unfolding sized
  params_fill [] [] p = p
  params_fill [] (x ∷ xs) p = p
  params_fill (ty ∷ types) [] p = p
  params_fill (ty ∷ types) (x ∷ xs) p = params_fill types xs (under_fills p (param_ends ty x.1))

  abbrev pub held_rights : List (Right Such) → List (Right Held)
  held_rights xs =
      (former-Node-Chain-2 AsResolved TextId ℕ Callee SeqType AtomKind ℤ CodeRun TextId).map ResolvedTree Held (size_of table)
      ((former-Node-Chain-2 AsResolved TextId ℕ Callee SeqType AtomKind ℤ CodeRun TextId).map Such ResolvedTree (λ w. w.0) xs)

  abbrev pub syn_rights : List (Right Such) → List (Right (Syn resolved))
  syn_rights xs =
      (former-Node-Chain-2 AsResolved TextId ℕ Callee SeqType AtomKind ℤ CodeRun TextId).map ResolvedTree (Syn resolved) (syn_resolved t)
      ((former-Node-Chain-2 AsResolved TextId ℕ Callee SeqType AtomKind ℤ CodeRun TextId).map Such ResolvedTree (λ w. w.0) xs)

  pub operators_ends : (o : ℕ) (bs : List (Right Such)) (a : Syn resolved) {h : Held} → Ends must h (sized funs a) →
      Ends must (z.operators (λ x. x) h (held_rights bs)) (sized funs (to_left o a (syn_rights bs)))
  unfolding sized
  operators_ends o [] a p = p
  operators_ends o (b ∷ bs) a p = operators_ends o bs (s.binary o b.operator a (syn b.operand)) (binary_ends b.operator p b.operand.1)

  pub signs_end : (gs : List Signed) (a : Syn resolved) {h : Held} {r : Round} {f : Size → Size} → Fills must r f → Ends must h (sized funs a) →
      Ends must (z.filled (z.signs r gs) h) (f (sized funs (with_signs gs a)))
  unfolding sized
  signs_end [] a {h} p q = p.fill h (sized funs a) q
  signs_end (g ∷ gs) a p q = signs_end gs a (signed_fills g.sign p) q

  abbrev pub held_quant : List (QuantBind ℕ SeqType Such) → List (QuantBind ℕ SeqType Held)
  held_quant xs =
      (former-Node-Quantified-2 AsResolved TextId ℕ Callee SeqType AtomKind ℤ CodeRun TextId).map ResolvedTree Held (size_of table)
      ((former-Node-Quantified-2 AsResolved TextId ℕ Callee SeqType AtomKind ℤ CodeRun TextId).map Such ResolvedTree (λ w. w.0) xs)

  abbrev pub syn_quant : List (QuantBind ℕ SeqType Such) → List (QuantBind ℕ SeqType (Syn resolved))
  syn_quant xs =
      (former-Node-Quantified-2 AsResolved TextId ℕ Callee SeqType AtomKind ℤ CodeRun TextId).map ResolvedTree (Syn resolved) (syn_resolved t)
      ((former-Node-Quantified-2 AsResolved TextId ℕ Callee SeqType AtomKind ℤ CodeRun TextId).map Such ResolvedTree (λ w. w.0) xs)

  pub quant_fill : (bs : List (QuantBind ℕ SeqType Such)) {r : Round} {f : Size → Size} → Fills must r f →
      Fills must (z.quant_binds (λ x. x) r (held_quant bs)) (λ a. f (d.nested funs (e.quant_binds_of (resolved_leaves t) (syn_quant bs)) a))
  unfolding sized
  quant_fill [] p = p
  quant_fill (b ∷ bs) p = quant_fill bs (nested_fills t b.ty p b.source.1)

  abbrev pub held_clauses : List (Clause ℕ SeqType Such) → List (Clause ℕ SeqType Held)
  held_clauses xs =
      (former-Node-Flwor-1 AsResolved TextId ℕ Callee SeqType AtomKind ℤ CodeRun TextId).map ResolvedTree Held (size_of table)
      ((former-Node-Flwor-1 AsResolved TextId ℕ Callee SeqType AtomKind ℤ CodeRun TextId).map Such ResolvedTree (λ w. w.0) xs)

  abbrev pub syn_clauses : List (Clause ℕ SeqType Such) → List (Clause ℕ SeqType (Syn resolved))
  syn_clauses xs =
      (former-Node-Flwor-1 AsResolved TextId ℕ Callee SeqType AtomKind ℤ CodeRun TextId).map ResolvedTree (Syn resolved) (syn_resolved t)
      ((former-Node-Flwor-1 AsResolved TextId ℕ Callee SeqType AtomKind ℤ CodeRun TextId).map Such ResolvedTree (λ w. w.0) xs)

  -- binds round what follows, or beside it among the binds of a sorted loop
  abbrev pub laid : Bool → Binds resolved → Size → Size
  laid true bs a = d.sorted funs bs a
  laid false bs a = d.nested funs bs a

  abbrev FillAll : Bool → List (Clause ℕ SeqType Such) → Type 0
  FillAll is_sorted cs =
      (r : Round) (f : Size → Size) → Fills must r f →
      Fills must (z.clauses (λ x. x) is_sorted r (held_clauses cs)) (λ a. f (laid is_sorted (e.clauses_of (resolved_leaves t) (syn_clauses cs)) a))

  for_fill : (is_sorted : Bool) (bs : List (ForBind ℕ SeqType Such)) (cs : List (Clause ℕ SeqType Such)) → FillAll is_sorted cs → FillAll is_sorted (clause_.For bs ∷ cs)
  unfolding sized
  for_fill true [] cs k r f p = k r f p
  for_fill true (b ∷ bs) cs k r f p = for_fill true bs cs k _ _ (sorted_fills t b.ty p b.source.1)
  for_fill false [] cs k r f p = k r f p
  for_fill false (b ∷ bs) cs k r f p = for_fill false bs cs k _ _ (nested_fills t b.ty p b.source.1)

  let_fill : (is_sorted : Bool) (bs : List (LetBind ℕ SeqType Such)) (cs : List (Clause ℕ SeqType Such)) → FillAll is_sorted cs → FillAll is_sorted (clause_.Let bs ∷ cs)
  unfolding sized
  let_fill true [] cs k r f p = k r f p
  let_fill true (b ∷ bs) cs k r f p = let_fill true bs cs k _ _ (sorted_fills t b.ty p b.value.1)
  let_fill false [] cs k r f p = k r f p
  let_fill false (b ∷ bs) cs k r f p = let_fill false bs cs k _ _ (nested_fills t b.ty p b.value.1)

  pub clauses_fill : (is_sorted : Bool) (cs : List (Clause ℕ SeqType Such)) → FillAll is_sorted cs
  unfolding sized
  clauses_fill true [] r f p = p
  clauses_fill false [] r f p = p
  clauses_fill is_sorted (clause_.For bs ∷ cs) r f p = for_fill is_sorted bs cs (clauses_fill is_sorted cs) r f p
  clauses_fill is_sorted (clause_.Let bs ∷ cs) r f p = let_fill is_sorted bs cs (clauses_fill is_sorted cs) r f p

  abbrev pub held_keys : List (Key Such) → List (Key Held)
  held_keys xs =
      (former-Node-Flwor-3 AsResolved TextId ℕ Callee SeqType AtomKind ℤ CodeRun TextId).map ResolvedTree Held (size_of table)
      ((former-Node-Flwor-3 AsResolved TextId ℕ Callee SeqType AtomKind ℤ CodeRun TextId).map Such ResolvedTree (λ w. w.0) xs)

  abbrev pub syn_keys : List (Key Such) → Keys resolved
  syn_keys xs =
      e.keys_of
      ((former-Node-Flwor-3 AsResolved TextId ℕ Callee SeqType AtomKind ℤ CodeRun TextId).map ResolvedTree (Syn resolved) (syn_resolved t)
      ((former-Node-Flwor-3 AsResolved TextId ℕ Callee SeqType AtomKind ℤ CodeRun TextId).map Such ResolvedTree (λ w. w.0) xs))

  pub keys_end : (ks : List (Key Such)) {h : Held} {a : Size} → Ends must h a → Ends must (z.keys (λ x. x) h (held_keys ks)) (beside a (d.sized_keys funs (syn_keys ks)))
  unfolding sized
  keys_end [] {h} {a} p = subst (λ u. Ends must h u) (sym (alone a)) p
  keys_end (k ∷ ks) {h} {a} p =
      subst (λ u. Ends must (z.keys (λ x. x) (z.beside h (held k.key)) (held_keys ks)) u) (beside_later a (sized funs (syn k.key)) (d.sized_keys funs (syn_keys ks)))
      (keys_end ks (beside_ends p k.key.1))
