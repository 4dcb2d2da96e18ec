-- The syntax of a node of each form, by its parts, for what is read and for what is resolved.
use Rattle.std.proofs.Common.{◌≡◌, refl, sym, ap, ◌∙◌, ℕ, Bool, map, List, [], ◌∷◌, Option, Some, None, option_map}
use Rattle.xq_ast.specs.declared.leaf.Name.{Name}
use Rattle.xq_ast.specs.declared.leaf.Quantifier.{Quantifier}
use Rattle.xq_ast.specs.declared.leaf.BuildKind.{BuildKind}
use Rattle.xq_ast.specs.declared.node.Signed.{Signed}
use Rattle.xq_ast.specs.declared.node.Start.{Start}
use Rattle.xq_ast.specs.declared.node.Right.{Right}
use Rattle.xq_ast.specs.declared.node.Step.{Step}
use Rattle.xq_ast.specs.declared.node.Behind.{Behind}
use Rattle.xq_ast.specs.declared.node.Clause.{Clause}
use Rattle.xq_ast.specs.declared.node.Clause.TheVariants as clause_
use Rattle.xq_ast.specs.declared.node.ForBind.{ForBind}
use Rattle.xq_ast.specs.declared.node.LetBind.{LetBind}
use Rattle.xq_ast.specs.declared.node.QuantBind.{QuantBind}
use Rattle.xq_ast.specs.declared.node.Key.{Key}
use Rattle.xq_ast.specs.declared.node.BuildName.{BuildName}
use Rattle.xq_ast.specs.declared.node.Attribute.{Attribute}
use Rattle.xq_ast.specs.declared.node.ValuePart.{ValuePart}
use Rattle.xq_ast.specs.declared.node.Part.{Part}
use Rattle.xq_ast.specs.declared.node.Node.{Node}
use Rattle.xq_ast.specs.declared.node.Node.TheVariants as n
use Rattle.xq_ast.specs.declared.node.Node.TheOpen as o
use Rattle.xq_ast.specs.declared.node.Node.TheFolds.{fold-roll-Node}
use Rattle.xq_ast.specs.declared.node.Node.TheViews.{rolls-Comma, rolls-Flwor, rolls-Quantified, rolls-If, rolls-Chain, rolls-Signed, rolls-Instance, rolls-Treat, rolls-Castable, rolls-Cast, rolls-Root, rolls-Path, rolls-Integer, rolls-Text, rolls-Var, rolls-Paren, rolls-Dot, rolls-Call, rolls-Build, rolls-Element, rolls-Comment, rolls-Instruction}
use Rattle.xq_ast.specs.declared.node.Node.TheShapes.{former-Node-Chain-2, former-Node-Flwor-1, former-Node-Flwor-2, former-Node-Flwor-3, former-Node-Quantified-2, former-Node-Path-1, former-Node-Path-2, former-Node-Build-2, former-Node-Element-2, former-Node-Element-3}
use Rattle.core_scope.specs.Syn.{Phase, Syn}
use Rattle.core_scope.specs.Syn as s
use Rattle.core_scope.specs.Erasure as e
use Rattle.core_scope.specs.Erasure.{Leaves, node_of, syn_of, syns_of, maybe_of}

module _ {X V F T K N R W : Type 0} {p : Phase} (l : Leaves X V F T K N R W p) (Q : Type 0) where
  abbrev pub Tree : Type 0
  Tree = Node Q X V F T K N R W

  abbrev pub syn : Tree → Syn p
  syn = syn_of l Q

  -- the lists of a node with the syntax of their expressions
  abbrev pub mapped_rights : List (Right Tree) → List (Right (Syn p))
  mapped_rights xs = (former-Node-Chain-2 Q X V F T K N R W).map Tree (Syn p) syn xs

  abbrev pub mapped_behinds : List (Behind X Tree) → List (Behind X (Syn p))
  mapped_behinds xs = (former-Node-Path-2 Q X V F T K N R W).map Tree (Syn p) syn xs

  abbrev pub mapped_clauses : List (Clause V T Tree) → List (Clause V T (Syn p))
  mapped_clauses xs = (former-Node-Flwor-1 Q X V F T K N R W).map Tree (Syn p) syn xs

  abbrev pub mapped_keys : List (Key Tree) → List (Key (Syn p))
  mapped_keys xs = (former-Node-Flwor-3 Q X V F T K N R W).map Tree (Syn p) syn xs

  abbrev pub mapped_quants : List (QuantBind V T Tree) → List (QuantBind V T (Syn p))
  mapped_quants xs = (former-Node-Quantified-2 Q X V F T K N R W).map Tree (Syn p) syn xs

  abbrev pub mapped_attributes : List (Attribute X W Tree) → List (Attribute X W (Syn p))
  mapped_attributes xs = (former-Node-Element-2 Q X V F T K N R W).map Tree (Syn p) syn xs

  abbrev pub mapped_parts : List (Part R Tree) → List (Part R (Syn p))
  mapped_parts xs = (former-Node-Element-3 Q X V F T K N R W).map Tree (Syn p) syn xs

  abbrev pub mapped_step : Step X Tree → Step X (Syn p)
  mapped_step x = (former-Node-Path-1 Q X V F T K N R W).map Tree (Syn p) syn x

  abbrev pub mapped_name : BuildName X Tree → BuildName X (Syn p)
  mapped_name x = (former-Node-Build-2 Q X V F T K N R W).map Tree (Syn p) syn x

  abbrev pub fors_in : List (Clause V T (Syn p)) → List (ForBind V T (Syn p))
  fors_in (clause_.For bs ∷ cs) = bs
  fors_in _ = []

  abbrev pub lets_in : List (Clause V T (Syn p)) → List (LetBind V T (Syn p))
  lets_in (clause_.Let bs ∷ cs) = bs
  lets_in _ = []

  abbrev pub values_in : List (Attribute X W (Syn p)) → List (ValuePart W (Syn p))
  values_in (a ∷ as') = a.value
  values_in [] = []

  abbrev pub mapped_fors : List (ForBind V T Tree) → List (ForBind V T (Syn p))
  mapped_fors bs = fors_in (mapped_clauses (clause_.For bs ∷ []))

  abbrev pub mapped_lets : List (LetBind V T Tree) → List (LetBind V T (Syn p))
  mapped_lets bs = lets_in (mapped_clauses (clause_.Let bs ∷ []))

  abbrev pub mapped_values : Name X → List (ValuePart W Tree) → List (ValuePart W (Syn p))
  mapped_values x vs = values_in (mapped_attributes (record { name = x; value = vs } ∷ []))

  -- an expression that may be missing
  abbrev mapped_option : Option Tree → Option (Syn p)
  mapped_option x = (former-Node-Flwor-2 Q X V F T K N R W).map Tree (Syn p) syn x

  option_law : (x : Option Tree) → mapped_option x ≡ option_map syn x
  option_law None = refl
  option_law (Some x) = refl

  pub syn_comma : (i : ℕ) (a : Tree) (bs : List Tree) → syn (n.Comma i a bs) ≡ s.comma i (syn a) (syns_of (map syn bs))
  syn_comma i a bs = ap syn (sym (rolls-Comma i a bs)) ∙ fold-roll-Node Q X V F T K N R W (Syn p) (node_of l Q) (o.Comma i a bs)

  pub syn_flwor : (i : ℕ) (cs : List (Clause V T Tree)) (c : Option Tree) (ks : List (Key Tree)) (x : Tree) → syn (n.Flwor i cs c ks x) ≡ s.flwor i (e.clauses_of l (mapped_clauses cs)) (maybe_of (option_map syn c)) (e.keys_of (mapped_keys ks)) (syn x)
  syn_flwor i cs c ks x = ap syn (sym (rolls-Flwor i cs c ks x)) ∙ fold-roll-Node Q X V F T K N R W (Syn p) (node_of l Q) (o.Flwor i cs c ks x)
      ∙ ap (λ z. s.flwor i (e.clauses_of l (mapped_clauses cs)) (maybe_of z) (e.keys_of (mapped_keys ks)) (syn x)) (option_law c)

  pub syn_quantified : (i : ℕ) (q : Quantifier) (bs : List (QuantBind V T Tree)) (x : Tree) → syn (n.Quantified i q bs x) ≡ s.quantified i q (e.quant_binds_of l (mapped_quants bs)) (syn x)
  syn_quantified i q bs x = ap syn (sym (rolls-Quantified i q bs x)) ∙ fold-roll-Node Q X V F T K N R W (Syn p) (node_of l Q) (o.Quantified i q bs x)

  pub syn_if : (i : ℕ) (a b d : Tree) → syn (n.If i a b d) ≡ s.conditional i (syn a) (syn b) (syn d)
  syn_if i a b d = ap syn (sym (rolls-If i a b d)) ∙ fold-roll-Node Q X V F T K N R W (Syn p) (node_of l Q) (o.If i a b d)

  pub syn_chain : (i : ℕ) (a : Tree) (bs : List (Right Tree)) → syn (n.Chain i a bs) ≡ e.to_left i (syn a) (mapped_rights bs)
  syn_chain i a bs = ap syn (sym (rolls-Chain i a bs)) ∙ fold-roll-Node Q X V F T K N R W (Syn p) (node_of l Q) (o.Chain i a bs)

  pub syn_signed : (i : ℕ) (xs : List Signed) (a : Tree) → syn (n.Signed i xs a) ≡ e.with_signs xs (syn a)
  syn_signed i xs a = ap syn (sym (rolls-Signed i xs a)) ∙ fold-roll-Node Q X V F T K N R W (Syn p) (node_of l Q) (o.Signed i xs a)

  pub syn_instance : (i : ℕ) (a : Tree) (t : T) → syn (n.Instance i a t) ≡ s.instance i (syn a) (l.ty t)
  syn_instance i a t = ap syn (sym (rolls-Instance i a t)) ∙ fold-roll-Node Q X V F T K N R W (Syn p) (node_of l Q) (o.Instance i a t)

  pub syn_treat : (i : ℕ) (a : Tree) (t : T) → syn (n.Treat i a t) ≡ s.treat i (syn a) (l.ty t)
  syn_treat i a t = ap syn (sym (rolls-Treat i a t)) ∙ fold-roll-Node Q X V F T K N R W (Syn p) (node_of l Q) (o.Treat i a t)

  pub syn_castable : (i : ℕ) (a : Tree) (t : K) (m : Bool) → syn (n.Castable i a t m) ≡ s.castable i (syn a) (l.kind t) m
  syn_castable i a t m = ap syn (sym (rolls-Castable i a t m)) ∙ fold-roll-Node Q X V F T K N R W (Syn p) (node_of l Q) (o.Castable i a t m)

  pub syn_cast : (i : ℕ) (a : Tree) (t : K) (m : Bool) → syn (n.Cast i a t m) ≡ s.cast i (syn a) (l.kind t) m
  syn_cast i a t m = ap syn (sym (rolls-Cast i a t m)) ∙ fold-roll-Node Q X V F T K N R W (Syn p) (node_of l Q) (o.Cast i a t m)

  pub syn_root : (i : ℕ) → syn (n.Root i) ≡ s.root i
  syn_root i = ap syn (sym (rolls-Root i)) ∙ fold-roll-Node Q X V F T K N R W (Syn p) (node_of l Q) (o.Root i)

  pub syn_path : (x : Start) (y : Step X Tree) (bs : List (Behind X Tree)) → syn (n.Path x y bs) ≡ e.path_of l (e.step_from l (e.start_of x) (mapped_step y)) (mapped_behinds bs)
  syn_path x y bs = ap syn (sym (rolls-Path x y bs)) ∙ fold-roll-Node Q X V F T K N R W (Syn p) (node_of l Q) (o.Path x y bs)

  pub syn_integer : (i : ℕ) (x : N) → syn (n.Integer i x) ≡ s.integer i (l.number x)
  syn_integer i x = ap syn (sym (rolls-Integer i x)) ∙ fold-roll-Node Q X V F T K N R W (Syn p) (node_of l Q) (o.Integer i x)

  pub syn_text : (i : ℕ) (x : X) → syn (n.Text i x) ≡ s.text i (l.text x)
  syn_text i x = ap syn (sym (rolls-Text i x)) ∙ fold-roll-Node Q X V F T K N R W (Syn p) (node_of l Q) (o.Text i x)

  pub syn_var : (i : ℕ) (x : V) → syn (n.Var i x) ≡ s.var i (l.var x)
  syn_var i x = ap syn (sym (rolls-Var i x)) ∙ fold-roll-Node Q X V F T K N R W (Syn p) (node_of l Q) (o.Var i x)

  pub syn_paren : (i : ℕ) (x : Option Tree) → syn (n.Paren i x) ≡ s.paren i (maybe_of (option_map syn x))
  syn_paren i x = ap syn (sym (rolls-Paren i x)) ∙ fold-roll-Node Q X V F T K N R W (Syn p) (node_of l Q) (o.Paren i x)
      ∙ ap (λ z. s.paren i (maybe_of z)) (option_law x)

  pub syn_dot : (i : ℕ) → syn (n.Dot i) ≡ s.dot i
  syn_dot i = ap syn (sym (rolls-Dot i)) ∙ fold-roll-Node Q X V F T K N R W (Syn p) (node_of l Q) (o.Dot i)

  pub syn_call : (i : ℕ) (f : F) (ts : List Tree) → syn (n.Call i f ts) ≡ s.call i (l.fun f) (syns_of (map syn ts))
  syn_call i f ts = ap syn (sym (rolls-Call i f ts)) ∙ fold-roll-Node Q X V F T K N R W (Syn p) (node_of l Q) (o.Call i f ts)

  pub syn_build : (i : ℕ) (b : BuildKind) (x : BuildName X Tree) (y : Option Tree) → syn (n.Build i b x y) ≡ s.build i b (e.build_name_of l (mapped_name x)) (maybe_of (option_map syn y))
  syn_build i b x y = ap syn (sym (rolls-Build i b x y)) ∙ fold-roll-Node Q X V F T K N R W (Syn p) (node_of l Q) (o.Build i b x y)
      ∙ ap (λ z. s.build i b (e.build_name_of l (mapped_name x)) (maybe_of z)) (option_law y)

  pub syn_element : (i : ℕ) (x : Name X) (as' : List (Attribute X W Tree)) (ps : List (Part R Tree)) → syn (n.Element i x as' ps) ≡ s.element i (l.text x.text) (e.attributes_of l (mapped_attributes as')) (e.parts_of l (mapped_parts ps))
  syn_element i x as' ps = ap syn (sym (rolls-Element i x as' ps)) ∙ fold-roll-Node Q X V F T K N R W (Syn p) (node_of l Q) (o.Element i x as' ps)

  pub syn_comment : (i : ℕ) (x : X) → syn (n.Comment i x) ≡ s.comment i (l.text x)
  syn_comment i x = ap syn (sym (rolls-Comment i x)) ∙ fold-roll-Node Q X V F T K N R W (Syn p) (node_of l Q) (o.Comment i x)

  pub syn_instruction : (i : ℕ) (x : Name X) (y : X) → syn (n.Instruction i x y) ≡ s.instruction i (l.text x.text) (l.text y)
  syn_instruction i x y = ap syn (sym (rolls-Instruction i x y)) ∙ fold-roll-Node Q X V F T K N R W (Syn p) (node_of l Q) (o.Instruction i x y)
