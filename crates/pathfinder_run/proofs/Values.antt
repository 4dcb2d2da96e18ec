-- What the answer of a query says of its text.
use Rattle.std.proofs.Common.{ℕ, List, Option, Ok, Err}
use Rattle.std.specs.declared.vec.Vec.{Vec}
use Rattle.std.specs.declared.alloc.Global.{Global}
use Rattle.xq_base.specs.declared.code.Code.{Code}
use Rattle.doc_table.specs.NodeRules.{Docs}
use Rattle.core_meaning.specs.declared.node.Core.{Core}
use Rattle.core_meaning.specs.Erasure.{Texts, core_of}
use Rattle.core_meaning.specs.ExprOf.{expr_of}
use Rattle.query_engine.specs.declared.engine.AnswerFault.TheVariants as answer
use Rattle.query_engine.specs.Answering.{Accepts, IsCompiled, Answers, Fails, Writes, Means}

pub written : (docs : Docs) (text : List ℕ) (texts : Texts) (core : Core) (bytes : Vec ℕ Global) → IsCompiled text texts core → Answers docs (expr_of (core_of texts core)) (Ok bytes) → Means docs text (Writes bytes.items)
written docs text texts core bytes i a = (core_of texts core, i, a)

pub failing : (docs : Docs) (text : List ℕ) (texts : Texts) (core : Core) (code : Code) (place : Option ℕ) → IsCompiled text texts core → Answers docs (expr_of (core_of texts core)) (Err (answer.Dynamic code place)) → Means docs text (Fails code place)
failing docs text texts core code place i a = (core_of texts core, i, a)

pub accepted : (text : List ℕ) (texts : Texts) (core : Core) → IsCompiled text texts core → Accepts text
accepted text texts core i = (core_of texts core, i)
