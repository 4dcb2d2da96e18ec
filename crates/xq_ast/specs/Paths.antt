-- Paths (XQuery 1.0, section 3.2).
use Rattle.std.specs.Prelude.{ℕ, List, [], ◌∷◌, ◌++◌, if◌then◌else◌, codes}
use Rattle.xq_base.specs.declared.axis.Axis.{Axis}
use Rattle.xq_base.specs.declared.axis.Axis.TheVariants as axis_
use Rattle.xq_ast.specs.declared.look.Due.{Due}
use Rattle.xq_ast.specs.declared.look.Due.TheVariants.{Operand, Operator, Tested}
use Rattle.xq_ast.specs.declared.look.Look.{Look}
use Rattle.xq_ast.specs.declared.look.Look.TheVariants as k
use Rattle.xq_ast.specs.declared.leaf.Test.TheVariants as test_
use Rattle.xq_ast.specs.declared.node.Node.TheVariants as node_
use Rattle.xq_ast.specs.declared.node.StepKind.TheVariants as step_
use Rattle.xq_ast.specs.declared.node.Slashes.{Slashes}
use Rattle.xq_ast.specs.declared.node.Slashes.TheVariants as slash_
use Rattle.xq_ast.specs.Bytes.{same}
use Rattle.xq_ast.specs.Trees.{Bytes, Tree, Test, Step, StepKind, Behind, path_here, rooted, from_root, from_deep, behind, step_at, kind_step, parent_step}
use Rattle.xq_ast.specs.Look.{Sym, syms}
use Rattle.xq_ast.specs.Rules as rules
use Rattle.xq_ast.specs.Rules.{make, stands, many, chain, either, prefer, ◌&◌, ◌◁◌, ◌▷◌}
use Rattle.xq_ast.specs.Terminals.{Rule, one, sign, operand, operator, place, text_at, name, left, expr}
use Rattle.xq_ast.specs.Types.{kinds, kind_test}
use Rattle.xq_ast.specs.Primaries.{primary, builders, left_signs}

-- Predicate (production 83)
unfoldable pub predicate : Rule Tree
predicate = operator k.OpenBracket ▷ expr ◁ operator k.CloseBracket

-- NodeTest behind an axis (production 78); left out: p:*, *:n, tests of the list
unfoldable pub test : Rule Test
test =
    either (one Tested k.Star) (make test_.Star ◁ sign Tested k.Star)
    (either (one Tested k.Name) (make test_.Named & name Tested)
    (either (kinds Tested) (make test_.Kind & kind_test Tested)
    (left Tested (k.LeftOut ∷ k.PrefixStar ∷ k.StarName ∷ []))))

abbrev pub axis_of : Bytes → Axis
axis_of w =
    if same w (codes "descendant") then axis_.Descendant
    else if same w (codes "attribute") then axis_.Attribute
    else if same w (codes "self") then axis_.SelfNode
    else if same w (codes "descendant-or-self") then axis_.DescendantOrSelf
    else if same w (codes "following-sibling") then axis_.FollowingSibling
    else if same w (codes "following") then axis_.Following
    else if same w (codes "parent") then axis_.Parent
    else if same w (codes "ancestor") then axis_.Ancestor
    else if same w (codes "preceding-sibling") then axis_.PrecedingSibling
    else if same w (codes "preceding") then axis_.Preceding
    else if same w (codes "ancestor-or-self") then axis_.AncestorOrSelf
    else axis_.Child

abbrev pub axis_at : List ℕ → ℕ → Axis
axis_at text at = axis_of (text_at Operand text at)

-- an axis and its test (productions 72 to 76)
unfoldable pub axis_step : Rule StepKind
axis_step = make step_.Walk & stands (one Operand k.Axis) (rules.behind Operand) axis_at ◁ operator k.Colons & test

-- "@" and a test (production 74)
unfoldable pub at_step : Rule StepKind
at_step = make (step_.Walk axis_.Attribute) ◁ operand k.AtSign & test

-- a test without an axis (production 74)
unfoldable pub any_step : Rule StepKind
any_step = make (step_.Walk axis_.Child test_.Star) ◁ operand k.Star

unfoldable pub named_step : Rule StepKind
named_step = make (λ x. step_.Walk axis_.Child (test_.Named x)) & name Operand

-- ".." (production 77)
unfoldable pub up_step : Rule StepKind
up_step = make parent_step ◁ operand k.Dots

unfoldable pub step_kind : Rule StepKind
step_kind =
    either (one Operand k.Axis) axis_step
    (either (one Operand k.AtSign) at_step
    (either (one Operand k.Star) any_step
    (either (one Operand k.Name) named_step
    (either (kinds Operand) (make kind_step & kind_test Operand)
    (either (one Operand k.Dots) up_step
    (make step_.Primary & primary))))))

-- StepExpr (production 70): its offset is its own first byte
unfoldable pub step : Rule Step
step = make step_at & place & step_kind & many predicate

-- "//": its offset is that of the first slash
unfoldable pub two : Due → Rule ℕ
two due = place ◁ sign due k.Slashes

unfoldable pub slashes : Rule Slashes
slashes = either (one Operator k.Slash) (make slash_.One ◁ operator k.Slash) (make slash_.Two & two Operator)

-- RelativePathExpr (production 69)
abbrev pub relative : {A : Type 0} → (Step → List Behind → A) → Rule A
relative f = chain f behind slashes step

-- names that begin something else than a step, where an ExprSingle is due or a call
abbrev pub other_names : List Look
other_names = k.For ∷ k.Let ∷ k.Some ∷ k.Every ∷ k.If ∷ k.Typeswitch ∷ k.Reserved ∷ []

-- tokens that can begin a step: each name does (section 3.2, and appendix A.1.2 on the leading slash)
abbrev pub step_looks : List Look
step_looks =
    k.Name ∷ k.Axis ∷ k.AtSign ∷ k.Star ∷ k.Dots ∷ k.NodeTest ∷ k.TextTest ∷ k.CommentTest ∷ k.DocumentTest ∷ k.InstructionTest ∷ k.ElementTest
    ∷ k.AttributeTest ∷ k.Integer ∷ k.Quoted ∷ k.Dollar ∷ k.Open ∷ k.Dot ∷ k.Callee ∷ k.Less ∷ k.LeftOut ∷ k.Decimal ∷ k.Fraction
    ∷ (builders ++ (left_signs ++ other_names))

-- "/" and a path, or "/" alone where no step can begin (production 68)
unfoldable pub root : Rule Tree
root = make rooted & (place ◁ operand k.Slash) & prefer (syms Operand step_looks) (relative from_root) (make node_.Root)

unfoldable pub deep_root : Rule Tree
deep_root = make rooted & two Operand & relative from_deep

-- PathExpr (production 68)
unfoldable pub path : Rule Tree
path = either (one Operand k.Slash) root (either (one Operand k.Slashes) deep_root (relative path_here))
