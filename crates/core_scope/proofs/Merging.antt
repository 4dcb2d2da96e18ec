-- Pieces that follow one another directly are one run, and a run ends where no piece follows it.
use Rattle.std.proofs.Common.{◌≡◌, refl, sym, ap, ◌∙◌, ℕ, Bool, true, false, ◌&&◌, List, [], ◌∷◌, ◌++◌, append_assoc, Option, Some, None}
use Rattle.xq_base.specs.declared.item.TextId.{TextId}
use Rattle.xq_base.specs.Texts.{Text}
use Rattle.doc_table.specs.OtherTexts.{Grows}
use Rattle.doc_table.specs.Tree.{text_in}
use Rattle.xq_ast.specs.declared.leaf.TextRun.{TextRun}
use Rattle.xq_ast.specs.declared.node.Part.{Part as PartOf}
use Rattle.xq_ast.specs.declared.node.Part.TheVariants as part_
use Rattle.xq_ast.specs.declared.node.ValuePart.{ValuePart as ValueOf}
use Rattle.xq_ast.specs.declared.node.ValuePart.TheVariants as value_
use Rattle.xq_ast.specs.Trees.{Tree, Part, ValuePart}
use Rattle.core_scope.specs.Syn.{Parts, Values, TextRun as PlainRun, resolved}
use Rattle.core_scope.specs.Syn as s
use Rattle.core_scope.specs.Leaves.{ResolvedTree, run_of}
use Rattle.core_scope.specs.Resolving.{with_piece, with_value}
use Rattle.core_scope.specs.Names.{Signature}
use Rattle.core_scope.specs.Open.{Open}
use Rattle.core_scope.specs.Standing.{Lasting}
use Rattle.core_scope.specs.Matching.{NodeStands, node_in, values_before, parts_before, node_for, value_for, part_for}
use Rattle.core_scope.proofs.Growing.{grows_more}
use Rattle.core_scope.specs.Pending.{pending_run, added_run, begins_with_run, pending_value, added_value, begins_with_value}

and_assoc : (a b d : Bool) → ((a && b) && d) ≡ (a && (b && d))
and_assoc true b d = refl
and_assoc false b d = refl

pub run_goes_on : (r : Option (Text × Bool)) (x : Text) (white : Bool) (ps : Parts resolved) → pending_run (added_run r x white) ps ≡ pending_run r (with_piece x white ps)
run_goes_on None x white ps = refl
run_goes_on (Some r) x white s.no_parts = refl
run_goes_on (Some r) x white (s.run t ps) =
    ap (λ y. s.run (record { text = y; is_boundary = (r.1 && white) && t.is_boundary }) ps) (append_assoc r.0 x t.text)
    ∙ ap (λ b. s.run (record { text = r.0 ++ (x ++ t.text); is_boundary = b }) ps) (and_assoc r.1 white t.is_boundary)
run_goes_on (Some r) x white (s.brace a ps) = refl
run_goes_on (Some r) x white (s.inner a ps) = refl

pub value_goes_on : (v : Option Text) (x : Text) (vs : Values resolved) → pending_value (added_value v x) vs ≡ pending_value v (with_value x vs)
value_goes_on None x vs = refl
value_goes_on (Some y) x s.no_values = refl
value_goes_on (Some y) x (s.value_run z vs) = ap (λ t. s.value_run t vs) (append_assoc y x z)
value_goes_on (Some y) x (s.value_brace a vs) = refl

piece_alone : (x : Text) (b : Bool) (ps : Parts resolved) → begins_with_run ps ≡ false → with_piece x b ps ≡ s.run (record { text = x; is_boundary = b }) ps
piece_alone x b s.no_parts e = refl
piece_alone x b (s.run r ps) e = cc
piece_alone x b (s.brace a ps) e = refl
piece_alone x b (s.inner a ps) e = refl

value_alone : (x : Text) (vs : Values resolved) → begins_with_value vs ≡ false → with_value x vs ≡ s.value_run x vs
value_alone x s.no_values e = refl
value_alone x (s.value_run y vs) e = cc
value_alone x (s.value_brace a vs) e = refl

module _ (u : List Text) where
  parts_append : (ps qs : List (PartOf TextRun ResolvedTree)) (rest : Parts resolved) → parts_before u (ps ++ qs) rest ≡ parts_before u ps (parts_before u qs rest)
  parts_append [] qs rest = refl
  parts_append (part_.Run at x ∷ ps) qs rest = ap (s.run (run_of u x)) (parts_append ps qs rest)
  parts_append (part_.Brace at r ∷ ps) qs rest = ap (s.brace (node_in u r)) (parts_append ps qs rest)
  parts_append (part_.Inner r ∷ ps) qs rest = ap (s.inner (node_in u r)) (parts_append ps qs rest)

  values_append : (vs ws : List (ValueOf TextId ResolvedTree)) (rest : Values resolved) → values_before u (vs ++ ws) rest ≡ values_before u vs (values_before u ws rest)
  values_append [] ws rest = refl
  values_append (value_.Run at x ∷ vs) ws rest = ap (s.value_run (text_in u x)) (values_append vs ws rest)
  values_append (value_.Brace at r ∷ vs) ws rest = ap (s.value_brace (node_in u r)) (values_append vs ws rest)

  -- a run that ends
  pub run_ends : (ps qs : List (PartOf TextRun ResolvedTree)) (at : ℕ) (id : TextId) (x : Text) (b : Bool) (rest : Parts resolved) →
      qs ≡ ps ++ part_.Run at (record { text = id; is_boundary = b }) ∷ [] → text_in u id ≡ x → begins_with_run rest ≡ false → parts_before u qs rest ≡ parts_before u ps (with_piece x b rest)
  run_ends ps qs at id x b rest p t e =
      ap (λ z. parts_before u z rest) p
      ∙ parts_append ps (part_.Run at (record { text = id; is_boundary = b }) ∷ []) rest
      ∙ ap (λ z. parts_before u ps (s.run (record { text = z; is_boundary = b }) rest)) t
      ∙ ap (parts_before u ps) (sym (piece_alone x b rest e))

  pub value_ends : (vs ws : List (ValueOf TextId ResolvedTree)) (at : ℕ) (id : TextId) (x : Text) (rest : Values resolved) →
      ws ≡ vs ++ value_.Run at id ∷ [] → text_in u id ≡ x → begins_with_value rest ≡ false → values_before u ws rest ≡ values_before u vs (with_value x rest)
  value_ends vs ws at id x rest p t e =
      ap (λ z. values_before u z rest) p
      ∙ values_append vs (value_.Run at id ∷ []) rest
      ∙ ap (λ z. values_before u vs (s.value_run z rest)) t
      ∙ ap (values_before u vs) (sym (value_alone x rest e))

  pub brace_follows : (ps qs : List (PartOf TextRun ResolvedTree)) (at : ℕ) (r : ResolvedTree) (rest : Parts resolved) →
      qs ≡ ps ++ part_.Brace at r ∷ [] → parts_before u qs rest ≡ parts_before u ps (s.brace (node_in u r) rest)
  brace_follows ps qs at r rest p = ap (λ z. parts_before u z rest) p ∙ parts_append ps (part_.Brace at r ∷ []) rest

  pub inner_follows : (ps qs : List (PartOf TextRun ResolvedTree)) (r : ResolvedTree) (rest : Parts resolved) →
      qs ≡ ps ++ part_.Inner r ∷ [] → parts_before u qs rest ≡ parts_before u ps (s.inner (node_in u r) rest)
  inner_follows ps qs r rest p = ap (λ z. parts_before u z rest) p ∙ parts_append ps (part_.Inner r ∷ []) rest

  pub value_brace_follows : (vs ws : List (ValueOf TextId ResolvedTree)) (at : ℕ) (r : ResolvedTree) (rest : Values resolved) →
      ws ≡ vs ++ value_.Brace at r ∷ [] → values_before u ws rest ≡ values_before u vs (s.value_brace (node_in u r) rest)
  value_brace_follows vs ws at r rest p = ap (λ z. values_before u z rest) p ∙ values_append vs (value_.Brace at r ∷ []) rest

-- an expression behind a run that ends
module _ (fs : List Signature) (w : Open) where
  abbrev Ends : List Text → List (PartOf TextRun ResolvedTree) → List (PartOf TextRun ResolvedTree) → Option (Text × Bool) → Type 0
  Ends p ps mid o = Lasting p (λ later. (rest : Parts resolved) → begins_with_run rest ≡ false → parts_before later mid rest ≡ parts_before later ps (pending_run o rest))

  pub brace_stands : (p q : List Text) (ps mid qs : List (PartOf TextRun ResolvedTree)) (at : ℕ) (e : Tree) (r : ResolvedTree) (o v : Option (Text × Bool)) (x : Part) →
      x ≡ part_.Brace at e → Ends p ps mid o → v ≡ None → Grows p q → NodeStands fs w e q r → qs ≡ mid ++ part_.Brace at r ∷ [] →
      Lasting q (λ later. (rest : Parts resolved) → parts_before later qs (pending_run v rest) ≡ parts_before later ps (pending_run o (part_for fs w x rest)))
  brace_stands p q ps mid qs at e r o v x same ends none g f more = λ later k rest.
      ap (λ z. parts_before later qs (pending_run z rest)) none
      ∙ brace_follows later mid qs at r rest more
      ∙ ends later (grows_more p q later g k) (s.brace (node_in later r) rest) refl
      ∙ ap (λ z. parts_before later ps (pending_run o (s.brace z rest))) (f later k)
      ∙ ap (λ z. parts_before later ps (pending_run o (part_for fs w z rest))) (sym same)

  pub inner_stands : (p q : List Text) (ps mid qs : List (PartOf TextRun ResolvedTree)) (e : Tree) (r : ResolvedTree) (o v : Option (Text × Bool)) (x : Part) →
      x ≡ part_.Inner e → Ends p ps mid o → v ≡ None → Grows p q → NodeStands fs w e q r → qs ≡ mid ++ part_.Inner r ∷ [] →
      Lasting q (λ later. (rest : Parts resolved) → parts_before later qs (pending_run v rest) ≡ parts_before later ps (pending_run o (part_for fs w x rest)))
  inner_stands p q ps mid qs e r o v x same ends none g f more = λ later k rest.
      ap (λ z. parts_before later qs (pending_run z rest)) none
      ∙ inner_follows later mid qs r rest more
      ∙ ends later (grows_more p q later g k) (s.inner (node_in later r) rest) refl
      ∙ ap (λ z. parts_before later ps (pending_run o (s.inner z rest))) (f later k)
      ∙ ap (λ z. parts_before later ps (pending_run o (part_for fs w z rest))) (sym same)

  abbrev ValueEnds : List Text → List (ValueOf TextId ResolvedTree) → List (ValueOf TextId ResolvedTree) → Option Text → Type 0
  ValueEnds p vs mid o = Lasting p (λ later. (rest : Values resolved) → begins_with_value rest ≡ false → values_before later mid rest ≡ values_before later vs (pending_value o rest))

  pub value_brace_stands : (p q : List Text) (vs mid ws : List (ValueOf TextId ResolvedTree)) (at : ℕ) (e : Tree) (r : ResolvedTree) (o v : Option Text) (x : ValuePart) →
      x ≡ value_.Brace at e → ValueEnds p vs mid o → v ≡ None → Grows p q → NodeStands fs w e q r → ws ≡ mid ++ value_.Brace at r ∷ [] →
      Lasting q (λ later. (rest : Values resolved) → values_before later ws (pending_value v rest) ≡ values_before later vs (pending_value o (value_for fs w x rest)))
  value_brace_stands p q vs mid ws at e r o v x same ends none g f more = λ later k rest.
      ap (λ z. values_before later ws (pending_value z rest)) none
      ∙ value_brace_follows later mid ws at r rest more
      ∙ ends later (grows_more p q later g k) (s.value_brace (node_in later r) rest) refl
      ∙ ap (λ z. values_before later vs (pending_value o (s.value_brace z rest))) (f later k)
      ∙ ap (λ z. values_before later vs (pending_value o (value_for fs w z rest))) (sym same)
