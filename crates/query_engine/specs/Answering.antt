-- What a query answers over some documents: the refusal by the static rules, or the first failure, or the bytes of its value.
use Rattle.std.specs.Prelude.{ℕ, ◌≡◌, List, [], Option, Some, None, Result, Ok, Err, if◌then◌else◌}
use Rattle.std.specs.declared.vec.Vec.{Vec}
use Rattle.std.specs.declared.alloc.Global.{Global}
use Rattle.xq_base.specs.declared.code.Code.{Code}
use Rattle.xq_base.specs.declared.code.Code.TheVariants as c
use Rattle.doc_table.specs.OtherTexts.{Grows}
use Rattle.doc_table.specs.NodeRules.{Docs}
use Rattle.doc_table.specs.Values.{Items}
use Rattle.core_meaning.specs.declared.node.Core.{Core}
use Rattle.core_meaning.specs.PlainCore.{PlainCore}
use Rattle.core_meaning.specs.Erasure.{Texts, core_of}
use Rattle.core_meaning.specs.ExprOf.{expr_of}
use Rattle.core_meaning.specs.Expr.{Expr}
use Rattle.core_meaning.specs.Meaning.{no_variables, val}
use Rattle.core_meaning.specs.Failures.{Failure, fails, first}
use Rattle.core_scope.specs.Syn.{Query, read}
use Rattle.core_scope.specs.Leaves.{query_read}
use Rattle.core_scope.specs.Refusals.{Scoped, Scopes}
use Rattle.core_scope.specs.Refusals as scope
use Rattle.core_normal.specs.Limits.{Normal, Normalises}
use Rattle.core_normal.specs.Limits as limits
use Rattle.xq_types.specs.Typing.{no_types}
use Rattle.xq_types.specs.Refusals.{type_refusal}
use Rattle.xq_ast.specs.Phrases.{deep, left_out}
use Rattle.xq_ast.specs.Query.{IsQuery, Reading, Reads, tree, cut, no_query}
use Rattle.xq_ast.specs.Trees as trees
use Rattle.xq_serial.specs.Ser.{ser, attribute_place}
use Rattle.query_engine.specs.declared.engine.CompileFault.{CompileFault}
use Rattle.query_engine.specs.declared.engine.CompileFault.TheVariants as compile
use Rattle.query_engine.specs.declared.engine.AnswerFault.{AnswerFault}
use Rattle.query_engine.specs.declared.engine.AnswerFault.TheVariants as answer
use Rattle.query_engine.specs.Evaluated.{is_evaluated, CanEvaluate}

-- what the static rules make of a query: a refusal with its code and place, or its Core
pub data Static : Type 0 where
  refused : Code → Option ℕ → Static
  accepted : PlainCore → Static

-- the refusal by types at the least site; then a form that isn't evaluated is refused (own rules)
abbrev pub of_types : PlainCore → Option ℕ → Static
of_types core (Some offset) = refused c.XPTY0004 (Some offset)
of_types core None = if is_evaluated core then accepted core else refused c.PFRC0004 None

abbrev pub of_core : PlainCore → Static
of_core core = of_types core (type_refusal no_types (expr_of core))

-- a Core beyond the limits is refused (own rule)
abbrev pub of_normal : Normal → Static
of_normal (limits.too_large nodes levels) = refused c.PFRC0002 None
of_normal (limits.core core) = of_core core

-- the first refusal by scope, or what is made of the Core
abbrev pub IsOfScoped : Scoped → Static → Type 0
IsOfScoped (scope.refusal r) static = static ≡ refused r.code (Some r.offset)
IsOfScoped (scope.accepted query) static = (normal : Normal) × Normalises query normal × (static ≡ of_normal normal)

abbrev pub IsOfQuery : Query read → Static → Type 0
IsOfQuery query static = (scoped : Scoped) × Scopes query scoped × IsOfScoped scoped static

abbrev pub IsOfReading : Reading → Static → Type 0
IsOfReading no_query static = static ≡ refused c.XPST0003 None
IsOfReading (cut deep place) static = static ≡ refused c.PFRC0003 None
IsOfReading (cut left_out place) static = static ≡ refused c.PFRC0004 None
IsOfReading (tree query) static = IsOfQuery (query_read query) static

-- by the reading of the text
pub record IsStatic (text : List ℕ) (static : Static) : Type 0 where
  pub reading : Reading
  pub read : Reads text reading
  pub is : IsOfReading reading static

-- some text is this query
abbrev pub IsRead : trees.Query → Type 0
IsRead query = (text : List ℕ) × IsQuery text query

-- the static rules refuse the text with this code and place
abbrev pub IsRefused : List ℕ → Code → Option ℕ → Type 0
IsRefused text code place = IsStatic text (refused code place)

-- the static rules accept the text, and this is its Core
abbrev pub IsAccepted : List ℕ → PlainCore → Type 0
IsAccepted text core = IsStatic text (accepted core)

abbrev pub Accepts : List ℕ → Type 0
Accepts text = (core : PlainCore) × IsAccepted text core

-- no evaluation fails, no attribute stands among the items, and these are the bytes of the value
pub record IsAnswer (docs : Docs) (e : Expr) (bytes : List ℕ) : Type 0 where
  pub items : Items
  pub value : val docs e no_variables [] ≡ Some items
  pub calm : fails docs e no_variables [] ≡ []
  pub plain : attribute_place items ≡ None
  pub bytes_are : bytes ≡ ser items

-- this is the first failure, or nothing fails and an attribute stands among the items
pub data IsFailing (docs : Docs) (e : Expr) : Code → Option ℕ → Type 0 where
  evaluation : (failure : Failure) → first (fails docs e no_variables []) ≡ Some failure → IsFailing docs e failure.code (Some failure.site.offset)
  attribute : (items : Items) (at : ℕ) → val docs e no_variables [] ≡ Some items → fails docs e no_variables [] ≡ [] → attribute_place items ≡ Some at → IsFailing docs e c.SENR0001 None

pub data Meaning : Type 0 where
  Refuses : Code → Option ℕ → Meaning
  Fails : Code → Option ℕ → Meaning
  Writes : List ℕ → Meaning

-- what a query's text means over these documents
abbrev pub Means : Docs → List ℕ → Meaning → Type 0
Means docs text (Refuses code place) = IsRefused text code place
Means docs text (Fails code place) = (core : PlainCore) × IsAccepted text core × IsFailing docs (expr_of core) code place
Means docs text (Writes bytes) = (core : PlainCore) × IsAccepted text core × IsAnswer docs (expr_of core) bytes

-- the text as it was read, where these are the texts of its numbers
abbrev pub IsCompiled : List ℕ → Texts → Core → Type 0
IsCompiled text texts core = IsAccepted text (core_of texts core)

-- a fault is what the static rules make of a query, if these are all that they make of it
abbrev pub FailsBy : (Static → Type 0) → CompileFault → Type 0
FailsBy makes compile.NoMemory = Unit {0}
FailsBy makes (compile.Refused code place) = makes (refused code place)

-- a call gives what the static rules make of a query, unless memory runs out; each pool that goes on after this one reads
-- the Core so, and it can be evaluated with that pool
abbrev pub GivesBy : (Static → Type 0) → Texts → Result Core CompileFault → Type 0
GivesBy makes texts (Ok core) = (later : Texts) → Grows texts later → makes (accepted (core_of later core)) × CanEvaluate later core
GivesBy makes texts (Err fault) = FailsBy makes fault

-- the same of a text
abbrev pub Compiles : List ℕ → Texts → Result Core CompileFault → Type 0
Compiles text = GivesBy (IsStatic text)

abbrev pub AnswerFails : Docs → Expr → AnswerFault → Type 0
AnswerFails docs e answer.NoMemory = Unit {0}
AnswerFails docs e (answer.Dynamic code place) = IsFailing docs e code place

abbrev pub Answers : Docs → Expr → Result (Vec ℕ Global) AnswerFault → Type 0
Answers docs e (Ok bytes) = IsAnswer docs e bytes.items
Answers docs e (Err fault) = AnswerFails docs e fault
