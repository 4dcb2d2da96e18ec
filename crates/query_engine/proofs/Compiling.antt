-- What the parts of a compilation say of it.
use Rattle.std.specs.Prelude.{slice_get}
use Rattle.std.proofs.Common.{◌≡◌, ℕ, ◌≤◌, List, [], ◌∷◌, length, map, Bool, true, false, Option, Some, None, Result, Ok, Err, refl, sym, ap, ◌∙◌, subst, arith}
use Rattle.doc_table.specs.OtherTexts.{Grows}
use Rattle.core_meaning.specs.declared.node.Core.{Core}
use Rattle.core_meaning.specs.Erasure.{Texts, core_of, cores_of}
use Rattle.core_meaning.specs.ExprOf.{expr_of}
use Rattle.core_meaning.specs.PlainCore.{PlainCore}
use Rattle.core_scope.specs.Leaves.{ResolvedQuery, query_resolved}
use Rattle.core_scope.specs.declared.scoping.ScopeFault.TheVariants as fault
use Rattle.core_scope.specs.Scoping.{Refuses}
use Rattle.core_scope.specs.Standing.{Lasting}
use Rattle.core_scope.specs.Walk as walk
use Rattle.core_scope.specs.Syn.{Query, read}
use Rattle.core_scope.specs.Refusals as scope
use Rattle.core_normal.specs.Limits as limits
use Rattle.core_normal.specs.Query.{core_of_query}
use Rattle.core_normal.specs.declared.fault.NormFault.TheVariants as norm
use Rattle.core_normal.specs.Making.{HasEmpty}
use Rattle.core_normal.specs.Outcomes.{IsScoped, Gives, NormFails}
use Rattle.read_laws.proofs.Queries.{read_is_built}
use Rattle.xq_types.specs.Typing.{no_types}
use Rattle.xq_types.specs.Refusals.{type_refusal}
use Rattle.xq_types.specs.TypeOf.{IsRefusedAt, IsAccepted}
use Rattle.xq_base.specs.declared.code.Code.{Code}
use Rattle.xq_base.specs.declared.code.Code.TheVariants as c
use Rattle.xq_ast.specs.Phrases.{deep, left_out}
use Rattle.xq_ast.specs.Query.{Reads, tree, cut, no_query}
use Rattle.xq_ast.specs.Trees as trees
use Rattle.core_scope.specs.Leaves.{query_read}
use Rattle.xq_parser.specs.declared.fault.ParseFault.TheVariants.{Syntax, TooDeep, LeftOut}
use Rattle.xq_parser.specs.Query.{Faults}
use Rattle.query_engine.proofs.Later.{later_self, later_later, text_kept}
use Rattle.query_engine.specs.declared.engine.CompileFault.{CompileFault}
use Rattle.query_engine.specs.declared.engine.CompileFault.TheVariants.{NoMemory, Refused}
use Rattle.query_engine.specs.Evaluated.{is_name, is_evaluated, IsFixed, IsFixedQuery}
use Rattle.query_engine.specs.Answering.{Static, IsStatic, IsRead, IsOfQuery, IsOfScoped, refused, accepted, of_types, of_core, GivesBy}

pub unread_syntax : (text : List ℕ) → Faults text Syntax → IsStatic text (refused c.XPST0003 None)
unread_syntax text f = record { reading = no_query; read = f; is = refl }

pub unread_deep : (text : List ℕ) (place : ℕ) → Faults text (TooDeep place) → IsStatic text (refused c.PFRC0003 None)
unread_deep text place f = record { reading = cut deep place; read = f; is = refl }

pub unread_left : (text : List ℕ) (place : ℕ) → Faults text (LeftOut place) → IsStatic text (refused c.PFRC0004 None)
unread_left text place f = record { reading = cut left_out place; read = f; is = refl }

-- what makes more also gives so
pub gives_by : (makes also : Static → Type 0) → ((static : Static) → makes static → also static) → (texts : Texts) (result : Result Core CompileFault) → GivesBy makes texts result → GivesBy also texts result
gives_by makes also more texts (Ok core) g = λ later k. (more (accepted (core_of later core)) (g later k).0, (g later k).1)
gives_by makes also more texts (Err NoMemory) g = tt
gives_by makes also more texts (Err (Refused code place)) g = more (refused code place) g

typed : (core : PlainCore) (offset : Option ℕ) → type_refusal no_types (expr_of core) ≡ offset → of_core core ≡ of_types core offset
typed core offset e = ap (of_types core) e

evaluated : (core : PlainCore) → is_evaluated core ≡ true → of_types core None ≡ accepted core
evaluated core e = rw e refl

left : (core : PlainCore) → is_evaluated core ≡ false → of_types core None ≡ refused c.PFRC0004 None
left core e = rw e refl

-- the least site that types refuse
pub core_untyped : (texts : Texts) (core : Core) (offset : ℕ) → IsRefusedAt core offset → refused c.XPTY0004 (Some offset) ≡ of_core (core_of texts core)
core_untyped texts core offset r = sym (typed (core_of texts core) (Some offset) (r texts))

pub core_left : (texts : Texts) (core : Core) → IsAccepted core → is_evaluated (core_of texts core) ≡ false → refused c.PFRC0004 None ≡ of_core (core_of texts core)
core_left texts core a f = sym (typed (core_of texts core) None (a texts) ∙ left (core_of texts core) f)

pub core_accepted : (texts : Texts) (core : Core) → IsAccepted core → IsFixed texts core → is_evaluated (core_of texts core) ≡ true → GivesBy (λ static. static ≡ of_core (core_of texts core)) texts (Ok core)
core_accepted texts core a fixed t later k =
    let same : core_of later core ≡ core_of texts core = fixed later k in (
      ap accepted same ∙ sym (typed (core_of texts core) None (a texts) ∙ evaluated (core_of texts core) t),
      record { forms = ap is_evaluated same ∙ t; fixed = λ last l. fixed last (later_later texts later last k l) ∙ sym same },
    )

-- the same of the typed Core, which is lent for the test
pub typed_accepted : (texts : Texts) (core typed here : Core) (b : Bool) → typed ≡ core → here ≡ typed → IsAccepted core → IsFixed texts core → b ≡ is_evaluated (core_of texts here) → b ≡ true → GivesBy (λ static. static ≡ of_core (core_of texts core)) texts (Ok typed)
typed_accepted texts core typed here b e d a f is t =
    subst (λ x. GivesBy (λ static. static ≡ of_core (core_of texts core)) texts (Ok x)) (sym e) (core_accepted texts core a f (ap (λ x. is_evaluated (core_of texts x)) (sym e ∙ sym d) ∙ sym is ∙ t))

pub typed_left : (texts : Texts) (core typed here : Core) (b : Bool) → typed ≡ core → here ≡ typed → IsAccepted core → b ≡ is_evaluated (core_of texts here) → b ≡ false → refused c.PFRC0004 None ≡ of_core (core_of texts core)
typed_left texts core typed here b e d a is f = core_left texts core a (ap (λ x. is_evaluated (core_of texts x)) (sym e ∙ sym d) ∙ sym is ∙ f)

-- each pool that goes on after one that begins with the empty text begins with it
empty_later : (texts later : Texts) → slice_get texts 0 ≡ Some [] → Grows texts later → HasEmpty later
empty_later texts later e k = text_kept texts later 0 [] e k

-- a Core's texts are those of its query
pub core_fixed : (texts : Texts) (query : ResolvedQuery) (core : Core) → IsFixedQuery texts query → slice_get texts 0 ≡ Some [] → Gives query core → IsFixed texts core
core_fixed texts query core fixed e gives later k =
    (gives later (empty_later texts later e k)).1 ∙ ap core_of_query (fixed later k) ∙ sym (gives texts (empty_later texts texts e (later_self texts))).1

pub resolved_gives : (texts : Texts) (query : ResolvedQuery) (core : Core) (result : Result Core CompileFault) → slice_get texts 0 ≡ Some [] → Gives query core → GivesBy (λ static. static ≡ of_core (core_of texts core)) texts result → GivesBy (IsOfScoped (scope.accepted (query_resolved texts query))) texts result
resolved_gives texts query core result e gives =
    gives_by (λ static. static ≡ of_core (core_of texts core)) (IsOfScoped (scope.accepted (query_resolved texts query))) (λ static m. (limits.core (core_of texts core), gives texts (empty_later texts texts e (later_self texts)), m)) texts result

-- a Core beyond the limits
pub too_large : (texts : Texts) (query : ResolvedQuery) (n m : ℕ) → NormFails query (norm.TooLarge n m) → IsOfScoped (scope.accepted (query_resolved texts query)) (refused c.PFRC0002 None)
too_large texts query n m f = (limits.too_large n m, f texts, refl)

-- the first refusal by scope
pub scope_refused : (q : Query read) (code : Code) (offset : ℕ) → Refuses q (fault.Refused code offset) → IsOfQuery q (refused code (Some offset))
scope_refused q code offset s = (scope.refusal (walk.refused code offset), s, refl)

-- each pool that goes on after this one reads the query as the resolved form
abbrev IsResolved : Query read → Texts → ResolvedQuery → Type 0
IsResolved q texts query = Lasting texts (λ later. scope.Scopes q (scope.accepted (query_resolved later query)))

pub query_fixed : (texts : Texts) (q : Query read) (query : ResolvedQuery) → IsResolved q texts query → IsFixedQuery texts query
query_fixed texts q query r later k = (r later k).1 ∙ sym (r texts (later_self texts)).1

-- what scope gave of a query that some text is
pub query_scoped : (before texts : Texts) (q : trees.Query) (query : ResolvedQuery) → IsRead q → slice_get before 0 ≡ Some [] → Grows before texts → IsResolved (query_read q) texts query → IsScoped query
query_scoped before texts q query read e k r = record {
  texts = texts;
  empty = empty_later before texts e k;
  of = query_read q;
  built = read_is_built read.0 q (query_resolved texts query) read.1 (r texts (later_self texts));
  scopes = r texts (later_self texts);
}

-- texts that begin with the empty one, behind a later pool's
pub first_later : (before texts : Texts) → slice_get before 0 ≡ Some [] → Grows before texts → slice_get texts 0 ≡ Some []
first_later [] texts e k = cc
first_later (x ∷ xs) [] e k = cc
first_later (x ∷ xs) (y ∷ ys) e k =
    let same : y ≡ x = cc in
    let given : x ≡ [] = cc in
    ap Some (same ∙ given)

pub query_gives : (texts : Texts) (q : Query read) (query : ResolvedQuery) (result : Result Core CompileFault) → IsResolved q texts query → GivesBy (IsOfScoped (scope.accepted (query_resolved texts query))) texts result → GivesBy (IsOfQuery q) texts result
query_gives texts q query result r =
    gives_by (IsOfScoped (scope.accepted (query_resolved texts query))) (IsOfQuery q) (λ static m. (scope.accepted (query_resolved texts query), r texts (later_self texts), m)) texts result

-- what the static rules make of the query that a text is, is what they make of the text
pub compiled : (text : List ℕ) (texts : Texts) (query : trees.Query) (result : Result Core CompileFault) → Reads text (tree query) → GivesBy (IsOfQuery (query_read query)) texts result → GivesBy (IsStatic text) texts result
compiled text texts query result r =
    gives_by (IsOfQuery (query_read query)) (IsStatic text) (λ static m. record { reading = tree query; read = r; is = m }) texts result

-- a name is one argument
pub no_name : (f : Core → PlainCore) (xs : List Core) → 2 ≤ length xs → is_name (cores_of (map f xs)) ≡ false
no_name f [] l = absurd (omega arith)
no_name f (x ∷ []) l = absurd (omega arith)
no_name f (x ∷ y ∷ xs) l = refl
