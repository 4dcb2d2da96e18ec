-- What the code finds at an expression of each form, by its parts.
use Rattle.std.proofs.Common.{◌≡◌, refl, sym, ap, ◌∙◌, ℕ, ℤ, Bool, List, [], ◌∷◌, map, Option, Some, None}
use Rattle.xq_base.specs.declared.fun.AtomKind.{AtomKind}
use Rattle.xq_base.specs.declared.item.TextId.{TextId}
use Rattle.xq_ast.specs.declared.leaf.BuildKind.{BuildKind}
use Rattle.xq_ast.specs.declared.leaf.Callee.{Callee}
use Rattle.xq_ast.specs.declared.leaf.Name.{Name}
use Rattle.xq_ast.specs.declared.leaf.Quantifier.{Quantifier}
use Rattle.xq_ast.specs.declared.leaf.SeqType.{SeqType}
use Rattle.xq_ast.specs.declared.leaf.TextRun.{TextRun as CodeRun}
use Rattle.xq_ast.specs.declared.node.AsResolved.{AsResolved}
use Rattle.xq_ast.specs.declared.node.Attribute.{Attribute}
use Rattle.xq_ast.specs.declared.node.Behind.{Behind}
use Rattle.xq_ast.specs.declared.node.BuildName.{BuildName as CodeName}
use Rattle.xq_ast.specs.declared.node.BuildName.TheVariants as name_
use Rattle.xq_ast.specs.declared.node.Clause.{Clause}
use Rattle.xq_ast.specs.declared.node.Clause.TheVariants as clause_
use Rattle.xq_ast.specs.declared.node.ForBind.{ForBind}
use Rattle.xq_ast.specs.declared.node.Key.{Key}
use Rattle.xq_ast.specs.declared.node.LetBind.{LetBind}
use Rattle.xq_ast.specs.declared.node.Node.{roll-Node, map-Node}
use Rattle.xq_ast.specs.declared.node.Node.TheOpen.{Node-F}
use Rattle.xq_ast.specs.declared.node.Node.TheOpen as o
use Rattle.xq_ast.specs.declared.node.Node.TheFolds.{fold-roll-Node}
use Rattle.xq_ast.specs.declared.node.Node.TheVariants as n
use Rattle.xq_ast.specs.declared.node.Node.TheViews.{rolls-Comma, rolls-Flwor, rolls-Quantified, rolls-If, rolls-Chain, rolls-Signed, rolls-Instance, rolls-Treat, rolls-Castable, rolls-Cast, rolls-Root, rolls-Path, rolls-Integer, rolls-Text, rolls-Var, rolls-Paren, rolls-Dot, rolls-Call, rolls-Build, rolls-Element, rolls-Comment, rolls-Instruction}
use Rattle.xq_ast.specs.declared.node.Node.TheShapes.{former-Node-Chain-2, former-Node-Flwor-1, former-Node-Flwor-3, former-Node-Quantified-2, former-Node-Path-1, former-Node-Path-2, former-Node-Element-2, former-Node-Element-3}
use Rattle.xq_ast.specs.declared.node.Part.{Part}
use Rattle.xq_ast.specs.declared.node.Part.TheVariants as part_
use Rattle.xq_ast.specs.declared.node.QuantBind.{QuantBind}
use Rattle.xq_ast.specs.declared.node.Right.{Right}
use Rattle.xq_ast.specs.declared.node.Signed.{Signed}
use Rattle.xq_ast.specs.declared.node.Start.{Start}
use Rattle.xq_ast.specs.declared.node.Step.{Step}
use Rattle.xq_ast.specs.declared.node.StepKind.{StepKind}
use Rattle.xq_ast.specs.declared.node.StepKind.TheVariants as step_
use Rattle.xq_ast.specs.declared.node.ValuePart.{ValuePart}
use Rattle.xq_ast.specs.declared.node.ValuePart.TheVariants as value_
use Rattle.core_scope.specs.Leaves.{ResolvedTree}
use Rattle.core_normal.specs.Finding as f
use Rattle.core_normal.specs.Finding.{Finds, with_calls}

abbrev mapped_rights : List (Right ResolvedTree) → List (Right Finds)
mapped_rights x = (former-Node-Chain-2 AsResolved TextId ℕ Callee SeqType AtomKind ℤ CodeRun TextId).map ResolvedTree Finds with_calls x

abbrev mapped_clauses : List (Clause ℕ SeqType ResolvedTree) → List (Clause ℕ SeqType Finds)
mapped_clauses x = (former-Node-Flwor-1 AsResolved TextId ℕ Callee SeqType AtomKind ℤ CodeRun TextId).map ResolvedTree Finds with_calls x

abbrev mapped_keys : List (Key ResolvedTree) → List (Key Finds)
mapped_keys x = (former-Node-Flwor-3 AsResolved TextId ℕ Callee SeqType AtomKind ℤ CodeRun TextId).map ResolvedTree Finds with_calls x

abbrev mapped_quant : List (QuantBind ℕ SeqType ResolvedTree) → List (QuantBind ℕ SeqType Finds)
mapped_quant x = (former-Node-Quantified-2 AsResolved TextId ℕ Callee SeqType AtomKind ℤ CodeRun TextId).map ResolvedTree Finds with_calls x

abbrev mapped_step : Step TextId ResolvedTree → Step TextId Finds
mapped_step x = (former-Node-Path-1 AsResolved TextId ℕ Callee SeqType AtomKind ℤ CodeRun TextId).map ResolvedTree Finds with_calls x

abbrev mapped_behinds : List (Behind TextId ResolvedTree) → List (Behind TextId Finds)
mapped_behinds x = (former-Node-Path-2 AsResolved TextId ℕ Callee SeqType AtomKind ℤ CodeRun TextId).map ResolvedTree Finds with_calls x

abbrev mapped_attributes : List (Attribute TextId TextId ResolvedTree) → List (Attribute TextId TextId Finds)
mapped_attributes x = (former-Node-Element-2 AsResolved TextId ℕ Callee SeqType AtomKind ℤ CodeRun TextId).map ResolvedTree Finds with_calls x

abbrev mapped_parts : List (Part CodeRun ResolvedTree) → List (Part CodeRun Finds)
mapped_parts x = (former-Node-Element-3 AsResolved TextId ℕ Callee SeqType AtomKind ℤ CodeRun TextId).map ResolvedTree Finds with_calls x

every_law : (es : List ResolvedTree) (found : List ℕ) → f.every (λ x. x) (map with_calls es) found ≡ f.every with_calls es found
every_law [] found = refl
every_law (e ∷ es) found = every_law es (with_calls e found)

rights_law : (bs : List (Right ResolvedTree)) (found : List ℕ) → f.operands (λ x. x) (mapped_rights bs) found ≡ f.operands with_calls bs found
rights_law [] found = refl
rights_law (b ∷ bs) found = rights_law bs (with_calls b.operand found)

quant_law : (bs : List (QuantBind ℕ SeqType ResolvedTree)) (found : List ℕ) → f.quant_binds (λ x. x) (mapped_quant bs) found ≡ f.quant_binds with_calls bs found
quant_law [] found = refl
quant_law (b ∷ bs) found = quant_law bs (with_calls b.source found)

for_law : (bs : List (ForBind ℕ SeqType ResolvedTree)) (cs : List (Clause ℕ SeqType ResolvedTree)) (found : List ℕ) →
    f.clauses (λ x. x) (mapped_clauses (clause_.For bs ∷ cs)) found ≡ f.clauses (λ x. x) (mapped_clauses cs) (f.for_binds with_calls bs found)
for_law [] cs found = refl
for_law (b ∷ bs) cs found = for_law bs cs (with_calls b.source found)

let_law : (bs : List (LetBind ℕ SeqType ResolvedTree)) (cs : List (Clause ℕ SeqType ResolvedTree)) (found : List ℕ) →
    f.clauses (λ x. x) (mapped_clauses (clause_.Let bs ∷ cs)) found ≡ f.clauses (λ x. x) (mapped_clauses cs) (f.let_binds with_calls bs found)
let_law [] cs found = refl
let_law (b ∷ bs) cs found = let_law bs cs (with_calls b.value found)

clauses_law : (cs : List (Clause ℕ SeqType ResolvedTree)) (found : List ℕ) → f.clauses (λ x. x) (mapped_clauses cs) found ≡ f.clauses with_calls cs found
clauses_law [] found = refl
clauses_law (clause_.For bs ∷ cs) found = for_law bs cs found ∙ clauses_law cs (f.for_binds with_calls bs found)
clauses_law (clause_.Let bs ∷ cs) found = let_law bs cs found ∙ clauses_law cs (f.let_binds with_calls bs found)

keys_law : (ks : List (Key ResolvedTree)) (found : List ℕ) → f.keys (λ x. x) (mapped_keys ks) found ≡ f.keys with_calls ks found
keys_law [] found = refl
keys_law (k ∷ ks) found = keys_law ks (with_calls k.key found)

step_at : (x : Step TextId ResolvedTree) (k : StepKind TextId ResolvedTree) → x.kind ≡ k → (found : List ℕ) → f.step (λ y. y) (mapped_step x) found ≡ f.step with_calls x found
step_at x (step_.Walk a test) p found = rw p (every_law x.predicates found)
step_at x (step_.Primary m) p found = rw p (every_law x.predicates (with_calls m found))

step_law : (x : Step TextId ResolvedTree) (found : List ℕ) → f.step (λ y. y) (mapped_step x) found ≡ f.step with_calls x found
step_law x found = step_at x x.kind refl found

first_at : (b : Behind TextId ResolvedTree) (bs : List (Behind TextId ResolvedTree)) (k : StepKind TextId ResolvedTree) → b.step.kind ≡ k → (found : List ℕ) →
    f.steps (λ y. y) (mapped_behinds (b ∷ bs)) found ≡ f.steps (λ y. y) (mapped_behinds bs) (f.step with_calls b.step found)
first_at b bs (step_.Walk x test) p found = rw p (ap (f.steps (λ y. y) (mapped_behinds bs)) (every_law b.step.predicates found))
first_at b bs (step_.Primary m) p found = rw p (ap (f.steps (λ y. y) (mapped_behinds bs)) (every_law b.step.predicates (with_calls m found)))

steps_law : (bs : List (Behind TextId ResolvedTree)) (found : List ℕ) → f.steps (λ y. y) (mapped_behinds bs) found ≡ f.steps with_calls bs found
steps_law [] found = refl
steps_law (b ∷ bs) found = first_at b bs b.step.kind refl found ∙ steps_law bs (f.step with_calls b.step found)

abbrev values_in : List (Attribute TextId TextId Finds) → List (ValuePart TextId Finds)
values_in [] = []
values_in (x ∷ xs) = x.value

values_law : (m : Name TextId) (vs : List (ValuePart TextId ResolvedTree)) (found : List ℕ) →
    f.values (λ x. x) (values_in (mapped_attributes (record { name = m; value = vs } ∷ []))) found ≡ f.values with_calls vs found
values_law m [] found = refl
values_law m (value_.Run at w ∷ vs) found = values_law m vs found
values_law m (value_.Brace at x ∷ vs) found = values_law m vs (with_calls x found)

attributes_law : (as' : List (Attribute TextId TextId ResolvedTree)) (found : List ℕ) → f.attributes (λ x. x) (mapped_attributes as') found ≡ f.attributes with_calls as' found
attributes_law [] found = refl
attributes_law (a ∷ as') found =
    ap (f.attributes (λ x. x) (mapped_attributes as')) (values_law a.name a.value found) ∙ attributes_law as' (f.values with_calls a.value found)

parts_law : (ps : List (Part CodeRun ResolvedTree)) (found : List ℕ) → f.parts (λ x. x) (mapped_parts ps) found ≡ f.parts with_calls ps found
parts_law [] found = refl
parts_law (part_.Run at r ∷ ps) found = parts_law ps found
parts_law (part_.Brace at x ∷ ps) found = parts_law ps (with_calls x found)
parts_law (part_.Inner x ∷ ps) found = parts_law ps (with_calls x found)

-- the form of an expression decides
by_form : (w : ResolvedTree) (x : Node-F AsResolved TextId ℕ Callee SeqType AtomKind ℤ CodeRun TextId ResolvedTree) → roll-Node AsResolved TextId ℕ Callee SeqType AtomKind ℤ CodeRun TextId x ≡ w → (found : List ℕ) → with_calls w found ≡ f.layer (map-Node AsResolved TextId ℕ Callee SeqType AtomKind ℤ CodeRun TextId ResolvedTree Finds with_calls x) found
by_form w x is found = ap (λ v. with_calls v found) (sym is) ∙ ap (λ g. g found) (fold-roll-Node AsResolved TextId ℕ Callee SeqType AtomKind ℤ CodeRun TextId Finds f.layer x)

pub found_comma : (i : ℕ) (a : ResolvedTree) (es : List ResolvedTree) (found : List ℕ) → with_calls (n.Comma i a es) found ≡ f.every with_calls es (with_calls a found)
found_comma i a es found = by_form (n.Comma i a es) (o.Comma i a es) (rolls-Comma i a es) found ∙ every_law es (with_calls a found)

pub found_quantified : (i : ℕ) (q : Quantifier) (bs : List (QuantBind ℕ SeqType ResolvedTree)) (a : ResolvedTree) (found : List ℕ) → with_calls (n.Quantified i q bs a) found ≡ with_calls a (f.quant_binds with_calls bs found)
found_quantified i q bs a found = by_form (n.Quantified i q bs a) (o.Quantified i q bs a) (rolls-Quantified i q bs a) found ∙ ap (with_calls a) (quant_law bs found)

pub found_if : (i : ℕ) (a b d : ResolvedTree) (found : List ℕ) → with_calls (n.If i a b d) found ≡ with_calls d (with_calls b (with_calls a found))
found_if i a b d found = by_form (n.If i a b d) (o.If i a b d) (rolls-If i a b d) found

pub found_chain : (i : ℕ) (a : ResolvedTree) (bs : List (Right ResolvedTree)) (found : List ℕ) → with_calls (n.Chain i a bs) found ≡ f.operands with_calls bs (with_calls a found)
found_chain i a bs found = by_form (n.Chain i a bs) (o.Chain i a bs) (rolls-Chain i a bs) found ∙ rights_law bs (with_calls a found)

pub found_signed : (i : ℕ) (gs : List Signed) (a : ResolvedTree) (found : List ℕ) → with_calls (n.Signed i gs a) found ≡ with_calls a found
found_signed i gs a found = by_form (n.Signed i gs a) (o.Signed i gs a) (rolls-Signed i gs a) found

pub found_instance : (i : ℕ) (a : ResolvedTree) (ty : SeqType) (found : List ℕ) → with_calls (n.Instance i a ty) found ≡ with_calls a found
found_instance i a ty found = by_form (n.Instance i a ty) (o.Instance i a ty) (rolls-Instance i a ty) found

pub found_treat : (i : ℕ) (a : ResolvedTree) (ty : SeqType) (found : List ℕ) → with_calls (n.Treat i a ty) found ≡ with_calls a found
found_treat i a ty found = by_form (n.Treat i a ty) (o.Treat i a ty) (rolls-Treat i a ty) found

pub found_castable : (i : ℕ) (a : ResolvedTree) (k : AtomKind) (m : Bool) (found : List ℕ) → with_calls (n.Castable i a k m) found ≡ with_calls a found
found_castable i a k m found = by_form (n.Castable i a k m) (o.Castable i a k m) (rolls-Castable i a k m) found

pub found_cast : (i : ℕ) (a : ResolvedTree) (k : AtomKind) (m : Bool) (found : List ℕ) → with_calls (n.Cast i a k m) found ≡ with_calls a found
found_cast i a k m found = by_form (n.Cast i a k m) (o.Cast i a k m) (rolls-Cast i a k m) found

pub found_root : (i : ℕ) (found : List ℕ) → with_calls (n.Root i) found ≡ found
found_root i found = by_form (n.Root i) (o.Root i) (rolls-Root i) found

pub found_path : (m : Start) (x : Step TextId ResolvedTree) (bs : List (Behind TextId ResolvedTree)) (found : List ℕ) → with_calls (n.Path m x bs) found ≡ f.steps with_calls bs (f.step with_calls x found)
found_path m x bs found = by_form (n.Path m x bs) (o.Path m x bs) (rolls-Path m x bs) found ∙ ap (f.steps (λ y. y) (mapped_behinds bs)) (step_law x found) ∙ steps_law bs (f.step with_calls x found)

pub found_integer : (i : ℕ) (z : ℤ) (found : List ℕ) → with_calls (n.Integer i z) found ≡ found
found_integer i z found = by_form (n.Integer i z) (o.Integer i z) (rolls-Integer i z) found

pub found_text : (i : ℕ) (x : TextId) (found : List ℕ) → with_calls (n.Text i x) found ≡ found
found_text i x found = by_form (n.Text i x) (o.Text i x) (rolls-Text i x) found

pub found_var : (i v : ℕ) (found : List ℕ) → with_calls (n.Var i v) found ≡ found
found_var i v found = by_form (n.Var i v) (o.Var i v) (rolls-Var i v) found

pub found_dot : (i : ℕ) (found : List ℕ) → with_calls (n.Dot i) found ≡ found
found_dot i found = by_form (n.Dot i) (o.Dot i) (rolls-Dot i) found

pub found_call : (i : ℕ) (g : Callee) (es : List ResolvedTree) (found : List ℕ) → with_calls (n.Call i g es) found ≡ f.every with_calls es (f.called g found)
found_call i g es found = by_form (n.Call i g es) (o.Call i g es) (rolls-Call i g es) found ∙ every_law es (f.called g found)

pub found_element : (i : ℕ) (m : Name TextId) (as' : List (Attribute TextId TextId ResolvedTree)) (ps : List (Part CodeRun ResolvedTree)) (found : List ℕ) → with_calls (n.Element i m as' ps) found ≡ f.parts with_calls ps (f.attributes with_calls as' found)
found_element i m as' ps found = by_form (n.Element i m as' ps) (o.Element i m as' ps) (rolls-Element i m as' ps) found ∙ ap (f.parts (λ x. x) (mapped_parts ps)) (attributes_law as' found) ∙ parts_law ps (f.attributes with_calls as' found)

pub found_comment : (i : ℕ) (x : TextId) (found : List ℕ) → with_calls (n.Comment i x) found ≡ found
found_comment i x found = by_form (n.Comment i x) (o.Comment i x) (rolls-Comment i x) found

pub found_instruction : (i : ℕ) (m : Name TextId) (x : TextId) (found : List ℕ) → with_calls (n.Instruction i m x) found ≡ found
found_instruction i m x found = by_form (n.Instruction i m x) (o.Instruction i m x) (rolls-Instruction i m x) found

pub found_flwor : (i : ℕ) (cs : List (Clause ℕ SeqType ResolvedTree)) (w : Option ResolvedTree) (ks : List (Key ResolvedTree)) (a : ResolvedTree) (found : List ℕ) → with_calls (n.Flwor i cs w ks a) found ≡ with_calls a (f.keys with_calls ks (f.maybe with_calls w (f.clauses with_calls cs found)))
found_flwor i cs None ks a found = by_form (n.Flwor i cs None ks a) (o.Flwor i cs None ks a) (rolls-Flwor i cs None ks a) found ∙ ap (λ u. with_calls a (f.keys (λ x. x) (mapped_keys ks) u)) (clauses_law cs found) ∙ ap (with_calls a) (keys_law ks (f.clauses with_calls cs found))
found_flwor i cs (Some w) ks a found = by_form (n.Flwor i cs (Some w) ks a) (o.Flwor i cs (Some w) ks a) (rolls-Flwor i cs (Some w) ks a) found ∙ ap (λ u. with_calls a (f.keys (λ x. x) (mapped_keys ks) (with_calls w u))) (clauses_law cs found) ∙ ap (with_calls a) (keys_law ks (with_calls w (f.clauses with_calls cs found)))

pub found_paren : (i : ℕ) (w : Option ResolvedTree) (found : List ℕ) → with_calls (n.Paren i w) found ≡ f.maybe with_calls w found
found_paren i None found = by_form (n.Paren i None) (o.Paren i None) (rolls-Paren i None) found
found_paren i (Some a) found = by_form (n.Paren i (Some a)) (o.Paren i (Some a)) (rolls-Paren i (Some a)) found

pub found_build : (i : ℕ) (k : BuildKind) (m : CodeName TextId ResolvedTree) (w : Option ResolvedTree) (found : List ℕ) → with_calls (n.Build i k m w) found ≡ f.maybe with_calls w (f.name with_calls m found)
found_build i k name_.Absent None found = by_form (n.Build i k name_.Absent None) (o.Build i k name_.Absent None) (rolls-Build i k name_.Absent None) found
found_build i k name_.Absent (Some a) found = by_form (n.Build i k name_.Absent (Some a)) (o.Build i k name_.Absent (Some a)) (rolls-Build i k name_.Absent (Some a)) found
found_build i k (name_.Named m) None found = by_form (n.Build i k (name_.Named m) None) (o.Build i k (name_.Named m) None) (rolls-Build i k (name_.Named m) None) found
found_build i k (name_.Named m) (Some a) found = by_form (n.Build i k (name_.Named m) (Some a)) (o.Build i k (name_.Named m) (Some a)) (rolls-Build i k (name_.Named m) (Some a)) found
found_build i k (name_.Computed x) None found = by_form (n.Build i k (name_.Computed x) None) (o.Build i k (name_.Computed x) None) (rolls-Build i k (name_.Computed x) None) found
found_build i k (name_.Computed x) (Some a) found = by_form (n.Build i k (name_.Computed x) (Some a)) (o.Build i k (name_.Computed x) (Some a)) (rolls-Build i k (name_.Computed x) (Some a)) found

-- the laws of all forms
pub ruleset forms = (found_comma, found_quantified, found_if, found_chain, found_signed, found_instance, found_treat, found_castable, found_cast, found_root, found_path, found_integer, found_text, found_var, found_dot, found_call, found_element, found_comment, found_instruction, found_flwor, found_paren, found_build)
