-- What the code gathers from the declarations of a prolog, one behind the other.
use Rattle.std.specs.Prelude.{ℕ, length, List, [], ◌∷◌, ◌++◌, Option, Some}
use Rattle.xq_base.specs.declared.code.Code.TheVariants as code
use Rattle.xq_base.specs.Texts.{Text}
use Rattle.xq_ast.specs.declared.leaf.Name.{Name}
use Rattle.xq_ast.specs.declared.leaf.Variable.{Variable}
use Rattle.xq_ast.specs.declared.leaf.ReadType.{ReadType}
use Rattle.xq_ast.specs.declared.query.Declaration.TheVariants as declaration_
use Rattle.xq_ast.specs.Trees.{Tree, Declaration, Param}
use Rattle.core_scope.specs.declared.refusal.Refusal.{Refusal}
use Rattle.core_scope.specs.declared.found.DeclaredCall.{DeclaredCall}
use Rattle.core_scope.specs.Names.{Scope, Signature, with_name, no_names, plain_name, is_taken, is_there}
use Rattle.core_scope.specs.Refusals.{first_from, ToldFunction}
use Rattle.core_scope.specs.Walk.{amiss_where, bind_type_facts}
use Rattle.core_scope.specs.Prolog.{Told, of_function, of_variable}
use Rattle.core_scope.specs.Open.{Open, none_open, local_at, global_at, entered, entered_variable}
use Rattle.core_scope.specs.Kept.{Kept, only_first, after}
use Rattle.core_scope.specs.Telling.{told}

-- a function: the place of its `declare`, its calls and its references
pub record Gained : Type 0 where
  pub offset : ℕ
  pub calls : List DeclaredCall
  pub refers : List ℕ

-- the first refusal, the functions, and the calls in the values of the variables
pub record Gathered : Type 0 where
  pub first : Option Refusal
  pub functions : List Gained
  pub variables : List (List DeclaredCall)

-- a first refusal, if there is one, and nothing else
abbrev pub none_gathered : Option Refusal → Gathered
none_gathered r = record { first = r; functions = []; variables = [] }

abbrev pub with_function : ℕ → Kept → Gathered → Gathered
with_function o k g = record { first = k.first; functions = g.functions ++ record { offset = o; calls = k.calls; refers = k.refers } ∷ []; variables = g.variables }

abbrev pub with_variable : Kept → Gathered → Gathered
with_variable k g = record { first = k.first; functions = g.functions; variables = g.variables ++ k.calls ∷ [] }

-- from what is told
abbrev pub gather : Told → Gathered → Gathered
gather (of_function o f) g = with_function o (after (only_first g.first) f) g
gather (of_variable j f) g = with_variable (after (only_first g.first) f) g

abbrev pub gather_all : List Told → Gathered → Gathered
gather_all [] g = g
gather_all (t ∷ ts) g = gather_all ts (gather t g)

-- a function by what is told of it
abbrev pub gained : ToldFunction → Gained
gained f = record { offset = f.offset; calls = f.facts.calls; refers = f.facts.refers }

-- the calls in the values of the variables
abbrev pub value_calls : List Told → List (List DeclaredCall)
value_calls [] = []
value_calls (of_function o f ∷ ts) = value_calls ts
value_calls (of_variable j f ∷ ts) = f.calls ∷ value_calls ts

-- parameters behind others, whose names stand for the places of the latest
abbrev pub told_params : List Param → Scope → Kept → Kept
told_params [] seen k = k
told_params (x ∷ xs) seen k =
    told_params xs (with_name x.var.name.text (Some (local_at x.var.offset)) seen)
    (after (after k (amiss_where (is_there (seen x.var.name.text)) code.XQST0039 x.var.offset)) (bind_type_facts x.ty))

abbrev pub entered_params : List Param → Open → Open
entered_params [] w = w
entered_params (x ∷ xs) w = entered_params xs (entered_variable x.var w)

-- what is passed by: the functions, the variables that are visible, and what is gathered
pub record Passed : Type 0 where
  pub before : List Signature
  pub open' : Open
  pub gathered : Gathered

abbrev pub signature_at : Name Text → List Param → Signature
signature_at n xs = record { name = plain_name n.text; arity = length xs }

module _ (fs : List Signature) where
  abbrev pub told_function : List Signature → Name Text → List Param → Option ReadType → Tree → Open → Kept → Kept
  told_function before n xs ty e w k =
      told fs e (entered_params xs w)
      (after (told_params xs no_names (after k (amiss_where (is_taken before n.text (length xs)) code.XQST0034 n.offset))) (bind_type_facts ty))

  abbrev pub told_variable : Variable (Name Text) → Option ReadType → Tree → Open → Kept → Kept
  told_variable v ty e w k =
      told fs e w (after (after k (amiss_where (is_there (w.scope v.name.text)) code.XQST0049 v.offset)) (bind_type_facts ty))

  abbrev pub passed : Declaration → Passed → Passed
  passed (declaration_.Fun at n xs ty e) p =
      record {
        before = p.before ++ signature_at n xs ∷ [];
        open' = p.open';
        gathered = with_function at (told_function p.before n xs ty e p.open' (only_first p.gathered.first)) p.gathered;
      }
  passed (declaration_.Var at v ty e) p =
      record {
        before = p.before;
        open' = entered v.name.text (global_at v.offset (length p.gathered.variables)) p.open';
        gathered = with_variable (told_variable v ty e p.open' (only_first p.gathered.first)) p.gathered;
      }

  abbrev pub passed_all : List Declaration → Passed → Passed
  passed_all [] p = p
  passed_all (d ∷ ds) p = passed_all ds (passed d p)

abbrev pub none_passed : Option Refusal → Passed
none_passed r = record { before = []; open' = none_open; gathered = none_gathered r }

-- with the body, behind all declarations
abbrev pub with_body : List Signature → Tree → Passed → Gathered
with_body fs t p =
    record {
      first = (told fs t p.open' (only_first p.gathered.first)).first;
      functions = p.gathered.functions;
      variables = p.gathered.variables;
    }

-- the signatures of the functions that are declared
abbrev pub signatures_at : List Declaration → List Signature
signatures_at [] = []
signatures_at (declaration_.Var at v ty e ∷ ds) = signatures_at ds
signatures_at (declaration_.Fun at n xs ty e ∷ ds) = signature_at n xs ∷ signatures_at ds
