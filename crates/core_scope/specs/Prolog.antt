-- The prolog (XQuery 1.0, sections 4.1, 4.3, 4.14 and 4.15): what is told of its declarations, and their resolved forms.
use Rattle.std.specs.Prelude.{ℕ, suc, Bool, true, false, cond, not, List, [], ◌∷◌, ◌++◌, map, Option, Some, None, codes}
use Rattle.xq_base.specs.declared.code.Code.TheVariants as code
use Rattle.xq_base.specs.Texts.{Text, text_eq}
use Rattle.core_scope.specs.Syn.{Params, Declaration, Query, read, resolved, how_many_params}
use Rattle.core_scope.specs.Syn as s
use Rattle.core_scope.specs.Names.{Scope, no_names, with_local, with_global, Signature, plain_name, is_taken, is_among}
use Rattle.core_scope.specs.declared.refusal.Refusal.{Refusal}
use Rattle.core_scope.specs.Walk.{refused, Facts, nothing, ◌with◌, amiss_where, bind_type_facts, walk}
use Rattle.core_scope.specs.Resolving.{resolved_types, resolve}

abbrev pub signature_of : Text → Params read → Signature
signature_of n ps = record { name = plain_name n; arity = how_many_params ps }

-- the declared functions in their order
abbrev pub signatures : List (Declaration read) → List Signature
signatures [] = []
signatures (s.variable o at x ty e ∷ ds) = signatures ds
signatures (s.function o at n ps ty e ∷ ds) = signature_of n ps ∷ signatures ds

-- a function's parameters are visible in its body
abbrev pub with_params : Params read → Scope → Scope
with_params s.no_params sc = sc
with_params (s.param o x ty ps) sc = with_params ps (with_local o x sc)

-- a parameter that repeats one before it is XQST0039 at its "$"
abbrev pub param_facts : Params read → List Text → Facts
param_facts s.no_params before = nothing
param_facts (s.param o x ty ps) before =
    amiss_where (is_among before x) code.XQST0039 o with bind_type_facts ty with param_facts ps (x ∷ before)

-- what is told of a declaration: of a function with the place of its `declare`, of a variable with its number
pub data Told : Type 0 where
  of_function : ℕ → Facts → Told
  of_variable : ℕ → Facts → Told

-- the functions that are declared
module _ (fs : List Signature) where
  -- behind these functions and variables of the prolog, of which the next has this number. A function that is declared before,
  -- or is built in, is XQST0034 at its name; a variable that is declared before is XQST0049 at its "$". A variable is visible
  -- behind its declaration
  abbrev pub told : List (Declaration read) → List Signature → List Text → ℕ → Scope → List Told
  told [] before names j sc = []
  told (s.function o at n ps ty e ∷ ds) before names j sc =
      of_function o (amiss_where (is_taken before n (how_many_params ps)) code.XQST0034 at with param_facts ps [] with bind_type_facts ty
      with walk fs e (with_params ps sc))
      ∷ told ds (before ++ signature_of n ps ∷ []) names j sc
  told (s.variable o at x ty e ∷ ds) before names j sc =
      of_variable j (amiss_where (is_among names x) code.XQST0049 at with bind_type_facts ty with walk fs e sc)
      ∷ told ds before (x ∷ names) (suc j) (with_global at x j sc)

  -- the resolved declarations
  abbrev pub resolved_params : Params read → Params resolved
  resolved_params s.no_params = s.no_params
  resolved_params (s.param o x ty ps) = s.param o o (resolved_types ty) (resolved_params ps)

  abbrev pub resolved_declarations : List (Declaration read) → ℕ → Scope → List (Declaration resolved)
  resolved_declarations [] j sc = []
  resolved_declarations (s.function o at n ps ty e ∷ ds) j sc =
      s.function o at n (resolved_params ps) (resolved_types ty) (resolve fs e (with_params ps sc)) ∷ resolved_declarations ds j sc
  resolved_declarations (s.variable o at x ty e ∷ ds) j sc =
      s.variable o at at (resolved_types ty) (resolve fs e sc) ∷ resolved_declarations ds (suc j) (with_global at x j sc)

-- the prolog's variables are visible in the body
abbrev pub behind_prolog : List (Declaration read) → ℕ → Scope → Scope
behind_prolog [] j sc = sc
behind_prolog (s.function o at n ps ty e ∷ ds) j sc = behind_prolog ds j sc
behind_prolog (s.variable o at x ty e ∷ ds) j sc = behind_prolog ds (suc j) (with_global at x j sc)

abbrev pub functions_of : Query read → List Signature
functions_of q = signatures q.declarations

abbrev pub all_told : Query read → List Told
all_told q = told (functions_of q) q.declarations [] [] 0 no_names

abbrev pub body_facts : Query read → Facts
body_facts q = walk (functions_of q) q.body (behind_prolog q.declarations 0 no_names)

-- a version other than 1.0 is XQST0031 at its string
abbrev pub version_refusals : Option (ℕ × Text) → List Refusal
version_refusals None = []
version_refusals (Some v) = cond (text_eq v.1 (codes "1.0")) [] (refused code.XQST0031 v.0 ∷ [])

-- each declaration of boundary space but the first is XQST0068 at its `declare`
abbrev pub setter_refusals : List ℕ → List Refusal
setter_refusals [] = []
setter_refusals (o ∷ os) = map (refused code.XQST0068) os

abbrev pub told_refusals : List Told → List Refusal
told_refusals [] = []
told_refusals (of_function o f ∷ ts) = f.refusals ++ told_refusals ts
told_refusals (of_variable j f ∷ ts) = f.refusals ++ told_refusals ts

-- the refusals that one place tells, in the order of their places
abbrev pub local_refusals : Query read → List Refusal
local_refusals q = version_refusals q.version ++ setter_refusals q.setters ++ told_refusals (all_told q) ++ (body_facts q).refusals

-- the resolved query
abbrev pub resolved_query : Query read → Query resolved
resolved_query q =
    record {
      version = q.version;
      setters = q.setters;
      declarations = resolved_declarations (functions_of q) q.declarations 0 no_names;
      body = resolve (functions_of q) q.body (behind_prolog q.declarations 0 no_names);
    }
