-- Sizes as the code finds them: both numbers end at the greatest one of 64 bits (own rule), and a size is known where those of
-- all functions are that it needs.
use Rattle.std.specs.Prelude.{ℕ, ℤ, zero, suc, ◌+◌, ◌-◌, ◌^◌, min, max, ◌&&◌, Bool, true, false, cond, List, [], ◌∷◌, length, map, Option, Some, None, is_some, slice_get}
use Rattle.xq_base.specs.declared.axis.Axis.{Axis}
use Rattle.xq_base.specs.declared.fun.AtomKind.{AtomKind}
use Rattle.xq_base.specs.declared.fun.Fun.{Fun}
use Rattle.xq_base.specs.declared.fun.Fun.TheVariants as fun
use Rattle.xq_base.specs.declared.item.TextId.{TextId}
use Rattle.xq_ast.specs.declared.leaf.Callee.{Callee}
use Rattle.xq_ast.specs.declared.leaf.Callee.TheVariants as callee
use Rattle.xq_ast.specs.declared.leaf.Operator.{Operator}
use Rattle.xq_ast.specs.declared.leaf.SeqType.{SeqType}
use Rattle.xq_ast.specs.declared.leaf.Sign.{Sign}
use Rattle.xq_ast.specs.declared.leaf.Sign.TheVariants as sign
use Rattle.xq_ast.specs.declared.leaf.TextRun.{TextRun as CodeRun}
use Rattle.xq_ast.specs.declared.node.AsResolved.{AsResolved}
use Rattle.xq_ast.specs.declared.node.Attribute.{Attribute}
use Rattle.xq_ast.specs.declared.node.Behind.{Behind}
use Rattle.xq_ast.specs.declared.node.BuildName.{BuildName as CodeName}
use Rattle.xq_ast.specs.declared.node.BuildName.TheVariants as name_
use Rattle.xq_ast.specs.declared.node.Clause.{Clause}
use Rattle.xq_ast.specs.declared.node.Clause.TheVariants as clause_
use Rattle.xq_ast.specs.declared.node.ForBind.{ForBind}
use Rattle.xq_ast.specs.declared.node.Key.{Key}
use Rattle.xq_ast.specs.declared.node.LetBind.{LetBind}
use Rattle.xq_ast.specs.declared.node.Node.TheOpen.{Node-F}
use Rattle.xq_ast.specs.declared.node.Node.TheOpen as o
use Rattle.xq_ast.specs.declared.node.Node.TheFolds.{fold-Node}
use Rattle.xq_ast.specs.declared.node.Part.{Part}
use Rattle.xq_ast.specs.declared.node.Part.TheVariants as part_
use Rattle.xq_ast.specs.declared.node.QuantBind.{QuantBind}
use Rattle.xq_ast.specs.declared.node.Right.{Right}
use Rattle.xq_ast.specs.declared.node.Signed.{Signed}
use Rattle.xq_ast.specs.declared.node.Slashes.{Slashes}
use Rattle.xq_ast.specs.declared.node.Slashes.TheVariants as slashes_
use Rattle.xq_ast.specs.declared.node.Start.{Start}
use Rattle.xq_ast.specs.declared.node.Start.TheVariants as start_
use Rattle.xq_ast.specs.declared.node.Step.{Step}
use Rattle.xq_ast.specs.declared.node.StepKind.{StepKind}
use Rattle.xq_ast.specs.declared.node.StepKind.TheVariants as step_
use Rattle.xq_ast.specs.declared.node.ValuePart.{ValuePart}
use Rattle.xq_ast.specs.declared.node.ValuePart.TheVariants as value_
use Rattle.core_scope.specs.Leaves.{ResolvedTree}
use Rattle.core_normal.specs.declared.sizes.Size.{Size}
use Rattle.core_normal.specs.declared.sizes.Round.{Round}
use Rattle.core_normal.specs.declared.sized.FunSize.{FunSize}
use Rattle.core_normal.specs.Pieces.{is_logical, is_reverse}

abbrev pub plus : ℕ → ℕ → ℕ
plus a b = min (a + b) (2 ^ 64 - 1)

abbrev pub of : ℕ → ℕ → Size
of nodes levels = record { nodes = nodes; levels = levels; is_known = true }

abbrev pub nothing : Size
nothing = of 0 0

-- a part of which nothing is known yet
abbrev pub unknown : Size
unknown = record { nodes = 0; levels = 0; is_known = false }

abbrev pub leaf : Size
leaf = of 1 1

-- a node over a leaf, what decides whether an item is selected, a leading slash, the test of a type
abbrev pub pair : Size
pair = of 2 2

abbrev pub choice : Size
choice = of 11 4

abbrev pub root : Size
root = of 7 4

abbrev pub test : Size
test = of 5 3

abbrev pub beside : Size → Size → Size
beside a b = record { nodes = plus a.nodes b.nodes; levels = max a.levels b.levels; is_known = a.is_known && b.is_known }

abbrev pub over : Size → Size
over a = record { nodes = plus a.nodes 1; levels = plus a.levels 1; is_known = a.is_known }

abbrev pub node : Size → Size → Size
node a b = over (beside a b)

abbrev pub over_one : Size → Size
over_one a = node a nothing

abbrev pub selected : Size → Size → Size
selected e q = node e (node pair (node leaf (node q choice)))

abbrev pub for_each_node : Size → Size → Size
for_each_node e m = node e (node pair (over_one (node leaf (node pair (beside m leaf)))))

abbrev pub conditional : Size → Size → Size → Size
conditional a b d = node (over_one a) (beside b d)

abbrev pub operand : Operator → Size → Size
operand f a = cond (is_logical f) (over_one a) a

abbrev pub binary : Operator → Size → Size → Size
binary f a b = node (operand f a) (beside (operand f b) nothing)

abbrev pub counted : Axis → Size → Size
counted x a = cond (is_reverse x) (over_one a) a

-- what stands round a part: the nodes, the levels of the other parts, and how deep the part stands
abbrev pub bare : Round
bare = record { nodes = 0; levels = 0; depth = 0; is_known = true }

abbrev pub under : Round → Size → Round
under r a = record {
  nodes = plus (plus r.nodes a.nodes) 1;
  levels = max r.levels (plus (plus r.depth 1) a.levels);
  depth = plus r.depth 1;
  is_known = r.is_known && a.is_known;
}

abbrev pub next_to : Round → Size → Round
next_to r a = record { nodes = plus r.nodes a.nodes; levels = max r.levels (plus r.depth a.levels); depth = r.depth; is_known = r.is_known && a.is_known }

abbrev pub filled : Round → Size → Size
filled r a = record { nodes = plus r.nodes a.nodes; levels = max r.levels (plus r.depth a.levels); is_known = r.is_known && a.is_known }

abbrev pub signed : Round → Sign → Round
signed r sign.Plus = under r leaf
signed r sign.Minus = under r nothing

-- a bind round what follows, or beside it among the binds of a sorted loop
abbrev pub bind : Bool → Bool → Round → Size → Round
bind true true r a = next_to (next_to r a) test
bind true false r a = next_to r a
bind false true r a = under (under r a) test
bind false false r a = under r a

abbrev pub start : Start → Option Size
start start_.Here = None
start (start_.Root o) = Some root
start (start_.Deep o) = Some (over root)

abbrev pub slashes : Slashes → Size → Size
slashes slashes_.One a = a
slashes (slashes_.Two o) a = over a

abbrev pub plain_step : Option Size → Size
plain_step None = pair
plain_step (Some a) = over a

abbrev pub chosen_step : Option Size → Size → Size
chosen_step None e = over_one e
chosen_step (Some a) e = over_one (node a e)

abbrev pub primary : Option Size → Size → Size
primary None m = m
primary (Some a) m = for_each_node a m

abbrev pub appended : Option Size → Size → Size
appended None a = a
appended (Some e) a = node e a

abbrev pub value : ℕ → Size → Size
value zero a = leaf
value (suc zero) a = a
value (suc (suc n)) a = over a

abbrev pub attribute : Size → Size
attribute a = node (beside leaf nothing) a

abbrev pub element : Option Size → Size
element None = attribute leaf
element (Some a) = attribute a

abbrev pub of_dot : ℕ → Size → Size → Size
of_dot zero a dot = over_one dot
of_dot (suc n) a dot = over a

-- a call of a built-in function with so many arguments
abbrev pub built_in : Fun → ℕ → Size → Size
built_in fun.Position n a = leaf
built_in fun.Last n a = leaf
built_in fun.Error n a = leaf
built_in fun.Root n a = of_dot n a leaf
built_in fun.StringOf n a = of_dot n a leaf
built_in fun.Name n a = of_dot n a leaf
built_in fun.LocalName n a = of_dot n a leaf
built_in fun.StringLength n a = of_dot n a pair
built_in fun.NormalizeSpace n a = of_dot n a pair
built_in g n a = over a

-- lists of parts
abbrev pub chain : Size → List Size → Size
chain a [] = a
chain a (b ∷ bs) = chain (node a b) bs

abbrev pub all_from : Size → List Size → Size
all_from a [] = a
all_from a (b ∷ bs) = all_from (beside a b) bs

abbrev pub predicates : Size → List Size → Size
predicates a [] = a
predicates a (q ∷ qs) = predicates (selected a q) qs

-- the outer sign comes first
abbrev pub signs : Round → List Signed → Round
signs r [] = r
signs r (g ∷ gs) = signs (signed r g.sign) gs

abbrev pub signed_all : List Signed → Size → Size
signed_all gs a = filled (signs bare gs) a

abbrev pub parameter : Bool → Round → Size → Round
parameter has_type r a = under r (cond has_type (over a) a)

-- parameters, of which these have a type, over their arguments
abbrev pub params : List Bool → List Size → Round → Round
params (b ∷ bs) (a ∷ as') r = params bs as' (parameter b r a)
params _ _ r = r

-- whether a brace stands directly before what follows a part of content
abbrev pub behind_part : {A : Type 0} → Part CodeRun A → Bool → Bool
behind_part (part_.Run at r) behind = r.is_boundary && behind
behind_part (part_.Brace at x) behind = true
behind_part (part_.Inner x) behind = false

-- a loop without keys, and one with keys
abbrev pub inside : Option Size → Size → Size
inside None e = e
inside (Some w) e = conditional w e leaf

abbrev pub where_part : Option Size → Size
where_part None = nothing
where_part (Some w) = beside (over_one w) nothing

abbrev pub ordered : Size → Size → Size → Size
ordered a ks e = node a (beside ks e)

-- a step of so many predicates, over what they select
abbrev pub walked : ℕ → Option Size → Size → Size
walked zero before c = plain_step before
walked (suc n) before c = chosen_step before c

abbrev pub stepped : {A : Type 0} → StepKind TextId A → ℕ → Option Size → Size → Size
stepped (step_.Walk x _) n before c = walked n before c
stepped (step_.Primary m) n before c = primary before c

abbrev pub after_run : Bool → Option Size → Option Size
after_run is_boundary before = cond is_boundary before (Some (appended before pair))

abbrev pub after_brace : Bool → Option Size → Size → Option Size
after_brace behind before a = cond behind (Some (node (appended before pair) a)) (Some (appended before a))

-- whether there are keys, and a loop of so many keys over its binds
abbrev pub is_sorted : ℕ → Bool
is_sorted zero = false
is_sorted (suc n) = true

abbrev pub loop_size : ℕ → Round → Option Size → Size → Size → Size
loop_size zero r w k e = filled r (inside w e)
loop_size (suc n) r w k e = ordered (filled r (where_part w)) k e

module _ {A : Type 0} (size : A → Size) where
  abbrev pub operators : Size → List (Right A) → Size
  operators a [] = a
  operators a (b ∷ bs) = operators (binary b.operator a (size b.operand)) bs

  -- what the predicates of a step select from
  abbrev pub base : StepKind TextId A → Size
  base (step_.Walk x _) = counted x pair
  base (step_.Primary m) = size m

  abbrev pub step : Step TextId A → Option Size → Size
  step x before = stepped x.kind (length x.predicates) before (predicates (base x.kind) (map size x.predicates))

  abbrev pub steps : Size → List (Behind TextId A) → Size
  steps a [] = a
  steps a (b ∷ bs) = steps (step b.step (Some (slashes b.slashes a))) bs

  abbrev pub for_binds : Bool → Round → List (ForBind ℕ SeqType A) → Round
  for_binds is_sorted r [] = r
  for_binds is_sorted r (b ∷ bs) = for_binds is_sorted (bind is_sorted (is_some b.ty) r (size b.source)) bs

  abbrev pub let_binds : Bool → Round → List (LetBind ℕ SeqType A) → Round
  let_binds is_sorted r [] = r
  let_binds is_sorted r (b ∷ bs) = let_binds is_sorted (bind is_sorted (is_some b.ty) r (size b.value)) bs

  abbrev pub quant_binds : Round → List (QuantBind ℕ SeqType A) → Round
  quant_binds r [] = r
  quant_binds r (b ∷ bs) = quant_binds (bind false (is_some b.ty) r (size b.source)) bs

  abbrev pub clause : Bool → Round → Clause ℕ SeqType A → Round
  clause is_sorted r (clause_.For bs) = for_binds is_sorted r bs
  clause is_sorted r (clause_.Let bs) = let_binds is_sorted r bs

  abbrev pub clauses : Bool → Round → List (Clause ℕ SeqType A) → Round
  clauses is_sorted r [] = r
  clauses is_sorted r (c ∷ cs) = clauses is_sorted (clause is_sorted r c) cs

  abbrev pub keys : Size → List (Key A) → Size
  keys a [] = a
  keys a (k ∷ ks) = keys (beside a (size k.key)) ks

  abbrev pub maybe : Option A → Option Size
  maybe None = None
  maybe (Some a) = Some (size a)

  abbrev pub flwor : List (Clause ℕ SeqType A) → Option A → List (Key A) → A → Size
  flwor cs w ks e = loop_size (length ks) (clauses (is_sorted (length ks)) bare cs) (maybe w) (keys nothing ks) (size e)

  abbrev pub name : CodeName TextId A → Size
  name name_.Absent = nothing
  name (name_.Named n) = beside leaf nothing
  name (name_.Computed x) = beside (size x) nothing

  abbrev pub value_part : ValuePart TextId A → Size
  value_part (value_.Run at w) = leaf
  value_part (value_.Brace at x) = over_one (size x)

  abbrev pub values : Size → List (ValuePart TextId A) → Size
  values a [] = a
  values a (v ∷ vs) = values (beside a (value_part v)) vs

  abbrev pub attributes : Option Size → List (Attribute TextId TextId A) → Option Size
  attributes before [] = before
  attributes before (a ∷ as') = attributes (Some (appended before (attribute (value (length a.value) (values nothing a.value))))) as'

  -- content so far, and whether a brace stands directly before
  abbrev pub part : Part CodeRun A → Bool → Option Size → Option Size
  part (part_.Run at r) behind before = after_run r.is_boundary before
  part (part_.Brace at x) behind before = after_brace behind before (size x)
  part (part_.Inner x) behind before = Some (appended before (size x))

  abbrev pub parts : Bool → Option Size → List (Part CodeRun A) → Option Size
  parts behind before [] = before
  parts behind before (p ∷ ps) = parts (behind_part p behind) (part p behind before) ps

-- a function that isn't there has no parameter and one node
abbrev pub typed_in : Option FunSize → List Bool
typed_in None = []
typed_in (Some f) = f.typed.items

abbrev pub body_in : Option FunSize → Size
body_in None = leaf
body_in (Some f) = f.body

module _ (funs : List FunSize) where
  abbrev pub call : Callee → List Size → Size
  call (callee.Known f) as' = built_in f (length as') (all_from nothing as')
  call (callee.Declared k) as' = filled (params (typed_in (slice_get funs k)) as' bare) (body_in (slice_get funs k))

  abbrev pub or_leaf : Option Size → Size
  or_leaf None = leaf
  or_leaf (Some a) = a

  abbrev pub node_size : Node-F AsResolved TextId ℕ Callee SeqType AtomKind ℤ CodeRun TextId Size → Size
  node_size (o.Comma at a es) = chain a es
  node_size (o.Flwor at cs w ks e) = flwor (λ x. x) cs w ks e
  node_size (o.Quantified at q bs e) = over_one (filled (quant_binds (λ x. x) bare bs) (conditional e leaf leaf))
  node_size (o.If at a b d) = conditional a b d
  node_size (o.Chain at a bs) = operators (λ x. x) a bs
  node_size (o.Signed at gs a) = signed_all gs a
  node_size (o.Instance at a ty) = over a
  node_size (o.Treat at a ty) = over a
  node_size (o.Castable at a k m) = over a
  node_size (o.Cast at a k m) = over a
  node_size (o.Root at) = root
  node_size (o.Path from' x bs) = steps (λ y. y) (step (λ y. y) x (start from')) bs
  node_size (o.Integer at z) = leaf
  node_size (o.Text at t) = leaf
  node_size (o.Var at v) = leaf
  node_size (o.Paren at e) = or_leaf e
  node_size (o.Dot at) = leaf
  node_size (o.Call at f es) = call f es
  node_size (o.Build at k n e) = node (name (λ x. x) n) (or_leaf e)
  node_size (o.Element at n as' ps) = element (parts (λ x. x) false (attributes (λ x. x) None as') ps)
  node_size (o.Comment at t) = pair
  node_size (o.Instruction at n t) = of 3 2

  -- the size of an expression's Core, where calls of declared functions have these sizes
  abbrev pub size_of : ResolvedTree → Size
  size_of = fold-Node AsResolved TextId ℕ Callee SeqType AtomKind ℤ CodeRun TextId Size node_size
