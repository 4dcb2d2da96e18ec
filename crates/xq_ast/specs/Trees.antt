-- The trees that the grammar gives, and how their nodes are put together.
use Rattle.std.specs.Prelude.{ℕ, Bool, true, false, List, [], ◌∷◌, Option, Some, None}
use Rattle.xq_base.specs.declared.axis.Axis.{Axis}
use Rattle.xq_base.specs.declared.axis.Axis.TheVariants as axis_
use Rattle.xq_ast.specs.declared.leaf.Name.{Name as NameOf}
use Rattle.xq_ast.specs.declared.leaf.Variable.{Variable as VariableOf}
use Rattle.xq_ast.specs.declared.leaf.Operator.{Operator}
use Rattle.xq_ast.specs.declared.leaf.Operator.TheVariants as op
use Rattle.xq_ast.specs.declared.leaf.ContentRun.{ContentRun}
use Rattle.xq_ast.specs.declared.leaf.ValueRun.{ValueRun}
use Rattle.xq_ast.specs.declared.leaf.ReadType.{ReadType}
use Rattle.xq_ast.specs.declared.leaf.KindTest.{KindTest as KindOf}
use Rattle.xq_ast.specs.declared.leaf.KindTest.TheVariants as kind_
use Rattle.xq_ast.specs.declared.leaf.Test.{Test as TestOf}
use Rattle.xq_ast.specs.declared.leaf.Test.TheVariants as test_
use Rattle.xq_ast.specs.declared.leaf.Quantifier.{Quantifier}
use Rattle.xq_ast.specs.declared.leaf.BuildKind.{BuildKind}
use Rattle.xq_ast.specs.declared.node.AsRead.{AsRead}
use Rattle.xq_ast.specs.declared.node.Node.{Node}
use Rattle.xq_ast.specs.declared.node.Node.TheVariants as n
use Rattle.xq_ast.specs.declared.node.Right.{Right as RightOf}
use Rattle.xq_ast.specs.declared.node.Signed.{Signed}
use Rattle.xq_ast.specs.declared.node.Step.{Step as StepOf}
use Rattle.xq_ast.specs.declared.node.StepKind.{StepKind as StepKindOf}
use Rattle.xq_ast.specs.declared.node.StepKind.TheVariants as step_
use Rattle.xq_ast.specs.declared.node.Behind.{Behind as BehindOf}
use Rattle.xq_ast.specs.declared.node.Slashes.{Slashes}
use Rattle.xq_ast.specs.declared.node.Start.TheVariants as start_
use Rattle.xq_ast.specs.declared.node.Clause.{Clause as ClauseOf}
use Rattle.xq_ast.specs.declared.node.ForBind.{ForBind as ForOf}
use Rattle.xq_ast.specs.declared.node.LetBind.{LetBind as LetOf}
use Rattle.xq_ast.specs.declared.node.QuantBind.{QuantBind as QuantOf}
use Rattle.xq_ast.specs.declared.node.Key.{Key as KeyOf}
use Rattle.xq_ast.specs.declared.node.BuildName.{BuildName as BuildNameOf}
use Rattle.xq_ast.specs.declared.node.Attribute.{Attribute as AttributeOf}
use Rattle.xq_ast.specs.declared.node.Part.{Part as PartOf}
use Rattle.xq_ast.specs.declared.node.ValuePart.{ValuePart as ValueOf}
use Rattle.xq_ast.specs.declared.query.Query.{Query as QueryOf}
use Rattle.xq_ast.specs.declared.query.Version.{Version as VersionOf}
use Rattle.xq_ast.specs.declared.query.Prolog.{Prolog as PrologOf}
use Rattle.xq_ast.specs.declared.query.Declaration.{Declaration as DeclarationOf}
use Rattle.xq_ast.specs.declared.query.Param.{Param as ParamOf}

-- The types of a query that is read.
abbrev pub Bytes : Type 0
Bytes = List ℕ

abbrev pub Name : Type 0
Name = NameOf Bytes

abbrev pub Variable : Type 0
Variable = VariableOf Name

abbrev pub Tree : Type 0
Tree = Node AsRead Bytes Name Name ReadType Name Bytes ContentRun ValueRun

abbrev pub KindTest : Type 0
KindTest = KindOf Bytes

abbrev pub Test : Type 0
Test = TestOf Bytes

abbrev pub Right : Type 0
Right = RightOf Tree

abbrev pub Step : Type 0
Step = StepOf Bytes Tree

abbrev pub StepKind : Type 0
StepKind = StepKindOf Bytes Tree

abbrev pub Behind : Type 0
Behind = BehindOf Bytes Tree

abbrev pub Clause : Type 0
Clause = ClauseOf Name ReadType Tree

abbrev pub ForBind : Type 0
ForBind = ForOf Name ReadType Tree

abbrev pub LetBind : Type 0
LetBind = LetOf Name ReadType Tree

abbrev pub QuantBind : Type 0
QuantBind = QuantOf Name ReadType Tree

abbrev pub Key : Type 0
Key = KeyOf Tree

abbrev pub BuildName : Type 0
BuildName = BuildNameOf Bytes Tree

abbrev pub Attribute : Type 0
Attribute = AttributeOf Bytes ValueRun Tree

abbrev pub Part : Type 0
Part = PartOf ContentRun Tree

abbrev pub ValuePart : Type 0
ValuePart = ValueOf ValueRun Tree

abbrev pub Query : Type 0
Query = QueryOf AsRead Bytes Name Name ReadType Name Bytes ContentRun ValueRun

abbrev pub Version : Type 0
Version = VersionOf Bytes

abbrev pub Prolog : Type 0
Prolog = PrologOf Bytes Name ReadType Tree

abbrev pub Declaration : Type 0
Declaration = DeclarationOf Bytes Name ReadType Tree

abbrev pub Param : Type 0
Param = ParamOf Name ReadType

-- a level of operators: what stands alone is itself
abbrev pub chained : Tree → List Right → ℕ → Tree
chained a [] o = a
chained a (b ∷ bs) o = n.Chain o a (b ∷ bs)

abbrev pub right : Operator → Tree → Right
right f b = record { operator = f; operand = b }

-- an operator that doesn't repeat
abbrev pub compared : ℕ → Tree → Option Right → Tree
compared o a None = a
compared o a (Some b) = n.Chain o a (b ∷ [])

-- a type behind an operand, or none
abbrev pub typed : {T : Type 0} → (ℕ → Tree → T → Tree) → ℕ → Tree → Option T → Tree
typed f o a None = a
typed f o a (Some t) = f o a t

-- an atomic type and its "?"
abbrev pub cast_to : (ℕ → Tree → Name → Bool → Tree) → ℕ → Tree → Name × Bool → Tree
cast_to f o a t = f o a t.0 t.1

abbrev pub is_there : {T : Type 0} → Option T → Bool
is_there None = false
is_there (Some x) = true

abbrev pub signed : ℕ → List Signed → Tree → Tree
signed o [] a = a
signed o (s ∷ ss) a = n.Signed o (s ∷ ss) a

abbrev pub comma : Tree → List Tree → ℕ → Tree
comma a [] o = a
comma a (b ∷ bs) o = n.Comma o a (b ∷ bs)

-- a primary that stands alone is itself, and no path
abbrev pub plain : StepKind → List Tree → Step → Tree
plain (step_.Primary e) [] s = e
plain (step_.Primary e) (p ∷ ps) s = n.Path start_.Here s []
plain (step_.Walk a t) ps s = n.Path start_.Here s []

abbrev pub path_here : Step → List Behind → Tree
path_here s [] = plain s.kind s.predicates s
path_here s (b ∷ bs) = n.Path start_.Here s (b ∷ bs)

abbrev pub rooted : ℕ → (ℕ → Tree) → Tree
rooted o f = f o

abbrev pub from_root : Step → List Behind → ℕ → Tree
from_root s bs o = n.Path (start_.Root o) s bs

abbrev pub from_deep : Step → List Behind → ℕ → Tree
from_deep s bs o = n.Path (start_.Deep o) s bs

abbrev pub behind : Slashes → Step → Behind
behind x s = record { slashes = x; step = s }

abbrev pub step_at : ℕ → StepKind → List Tree → Step
step_at o kind ps = record { offset = o; kind = kind; predicates = ps }

-- a test by kind without an axis stands on the child axis, one of attributes on the attribute axis (XQuery 1.0, section 3.2.4)
abbrev pub axis_of_kind : KindTest → Axis
axis_of_kind (kind_.Attribute o) = axis_.Attribute
axis_of_kind _ = axis_.Child

abbrev pub kind_step : KindTest → StepKind
kind_step t = step_.Walk (axis_of_kind t) (test_.Kind t)

-- ".." is parent::node() (XQuery 1.0, section 3.2.4)
abbrev pub parent_step : StepKind
parent_step = step_.Walk axis_.Parent (test_.Kind kind_.Node)

abbrev pub or_none : {T : Type 0} → Option (List T) → List T
or_none None = []
or_none (Some xs) = xs

abbrev pub or_false : Option Bool → Bool
or_false None = false
or_false (Some b) = b
