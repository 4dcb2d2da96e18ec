-- The syntax of queries as plain data, for what is read and for what is resolved. A level of operators, the steps of a path and
-- the signs of an operand nest here (XQuery 1.0, appendix A.4). Each form begins with its place in the query, in bytes.
use Rattle.std.specs.Prelude.{ℕ, suc, ℤ, Bool, List, Option}
use Rattle.xq_base.specs.declared.axis.Axis.{Axis}
use Rattle.xq_base.specs.declared.fun.AtomKind.{AtomKind}
use Rattle.xq_base.specs.Texts.{Text}
use Rattle.doc_table.specs.Axes.{Test}
use Rattle.core_meaning.specs.Types.{SequenceTest}
use Rattle.xq_ast.specs.declared.leaf.Name.{Name}
use Rattle.xq_ast.specs.declared.leaf.Callee.{Callee}
use Rattle.xq_ast.specs.declared.leaf.Operator.{Operator}
use Rattle.xq_ast.specs.declared.leaf.Quantifier.{Quantifier}
use Rattle.xq_ast.specs.declared.leaf.Sign.{Sign}
use Rattle.xq_ast.specs.declared.leaf.BuildKind.{BuildKind}
use Rattle.xq_ast.specs.declared.leaf.ReadType.{ReadType}
use Rattle.xq_ast.specs.declared.leaf.ContentRun.{ContentRun}
use Rattle.xq_ast.specs.declared.leaf.ValueRun.{ValueRun}

-- what stands at the leaves
pub record Phase : Type 1 where
  -- what names a variable, and a function
  pub Var : Type 0
  pub Fun : Type 0
  -- a sequence type, and the atomic type of a cast
  pub Ty : Type 0
  pub Kind : Type 0
  -- an integer
  pub Number : Type 0
  -- what stands for itself in content, and in an attribute's value
  pub Run : Type 0
  pub ValueRun : Type 0

-- a maximal run of content, and whether it is boundary space (XQuery 1.0, section 3.7.1.4)
pub record TextRun : Type 0 where
  pub text : Text
  pub is_boundary : Bool

-- as it is read: names, digits and pieces
abbrev pub read : Phase
read = record { Var = Text; Fun = Text; Ty = ReadType; Kind = Name Text; Number = Text; Run = ContentRun; ValueRun = ValueRun }

-- as it is resolved: a variable is the place of the "$" that binds it
abbrev pub resolved : Phase
resolved = record { Var = ℕ; Fun = Callee; Ty = SequenceTest; Kind = AtomKind; Number = ℤ; Run = TextRun; ValueRun = Text }

mutual
  pub data Syn (p : Phase) : Type 0 where
    -- two expressions or more, with commas (section 3.3.1)
    comma : ℕ → Syn p → Syns p → Syn p
    -- binds, condition, keys (none without `order by`), result (section 3.8)
    flwor : ℕ → Binds p → Maybe p → Keys p → Syn p → Syn p
    quantified : ℕ → Quantifier → Binds p → Syn p → Syn p
    conditional : ℕ → Syn p → Syn p → Syn p → Syn p
    binary : ℕ → Operator → Syn p → Syn p → Syn p
    signed : ℕ → Sign → Syn p → Syn p
    instance : ℕ → Syn p → p.Ty → Syn p
    treat : ℕ → Syn p → p.Ty → Syn p
    -- the flag is the "?"
    castable : ℕ → Syn p → p.Kind → Bool → Syn p
    cast : ℕ → Syn p → p.Kind → Bool → Syn p
    -- the root of the context item's tree (section 3.2)
    root : ℕ → Syn p
    -- a step from what stands before it, if anything does, with its predicates (section 3.2.1)
    step : ℕ → Axis → Test Text → Maybe p → Syns p → Syn p
    -- an expression for each item of another (section 3.2)
    through : ℕ → Syn p → Syn p → Syn p
    -- an expression with its predicates (section 3.3.2)
    filtered : ℕ → Syn p → Syns p → Syn p
    integer : ℕ → p.Number → Syn p
    text : ℕ → Text → Syn p
    var : ℕ → p.Var → Syn p
    paren : ℕ → Maybe p → Syn p
    dot : ℕ → Syn p
    call : ℕ → p.Fun → Syns p → Syn p
    -- a constructor with a word, its name and its content (section 3.7.3)
    build : ℕ → BuildKind → BuildName p → Maybe p → Syn p
    -- a direct element: its name, attributes and content (section 3.7.1)
    element : ℕ → Text → Attributes p → Parts p → Syn p
    comment : ℕ → Text → Syn p
    instruction : ℕ → Text → Text → Syn p

  pub data Maybe (p : Phase) : Type 0 where
    absent : Maybe p
    present : Syn p → Maybe p

  pub data Syns (p : Phase) : Type 0 where
    no_more : Syns p
    one_more : Syn p → Syns p → Syns p

  pub data Binds (p : Phase) : Type 0 where
    no_binds : Binds p
    -- the variable with its place, its type, the variable of the position, the sequence; a quantifier's bind has no position
    for_bind : ℕ → p.Var → Option p.Ty → Option (ℕ × p.Var) → Syn p → Binds p → Binds p
    let_bind : ℕ → p.Var → Option p.Ty → Syn p → Binds p → Binds p

  pub data Keys (p : Phase) : Type 0 where
    no_keys : Keys p
    -- a key, whether it descends, whether an absent value is the greatest
    one_key : Syn p → Bool → Bool → Keys p → Keys p

  pub data BuildName (p : Phase) : Type 0 where
    no_name : BuildName p
    named : Text → BuildName p
    computed : Syn p → BuildName p

  pub data Attributes (p : Phase) : Type 0 where
    no_attributes : Attributes p
    -- the place of its name, the name, the value
    attribute : ℕ → Text → Values p → Attributes p → Attributes p

  pub data Values (p : Phase) : Type 0 where
    no_values : Values p
    value_run : p.ValueRun → Values p → Values p
    value_brace : Syn p → Values p → Values p

  pub data Parts (p : Phase) : Type 0 where
    no_parts : Parts p
    run : p.Run → Parts p → Parts p
    brace : Syn p → Parts p → Parts p
    inner : Syn p → Parts p → Parts p

pub data Params (p : Phase) : Type 0 where
  no_params : Params p
  param : ℕ → p.Var → Option p.Ty → Params p → Params p

-- a declaration, with the place of its `declare`
pub data Declaration (p : Phase) : Type 0 where
  -- the variable with its place, its type, its value (section 4.14)
  variable : ℕ → ℕ → p.Var → Option p.Ty → Syn p → Declaration p
  -- the name with its place, the parameters, the type of the result, the body (section 4.15)
  function : ℕ → ℕ → Text → Params p → Option p.Ty → Syn p → Declaration p

pub record Query (p : Phase) : Type 0 where
  -- the version with its place (section 4.1)
  pub version : Option (ℕ × Text)
  -- the places of the declarations of boundary space (section 4.3)
  pub setters : List ℕ
  pub declarations : List (Declaration p)
  pub body : Syn p

-- the place of an expression
abbrev pub place_of : {p : Phase} → Syn p → ℕ
place_of (comma o a es) = o
place_of (flwor o bs w ks e) = o
place_of (quantified o q bs e) = o
place_of (conditional o a b d) = o
place_of (binary o f a b) = o
place_of (signed o s a) = o
place_of (instance o a t) = o
place_of (treat o a t) = o
place_of (castable o a k m) = o
place_of (cast o a k m) = o
place_of (root o) = o
place_of (step o x t a ps) = o
place_of (through o a b) = o
place_of (filtered o a ps) = o
place_of (integer o n) = o
place_of (text o t) = o
place_of (var o x) = o
place_of (paren o e) = o
place_of (dot o) = o
place_of (call o f es) = o
place_of (build o k n e) = o
place_of (element o n as' ps) = o
place_of (comment o t) = o
place_of (instruction o n t) = o

-- how many expressions there are
abbrev pub how_many : {p : Phase} → Syns p → ℕ
how_many no_more = 0
how_many (one_more e es) = suc (how_many es)

abbrev pub how_many_params : {p : Phase} → Params p → ℕ
how_many_params no_params = 0
how_many_params (param o x t ps) = suc (how_many_params ps)
