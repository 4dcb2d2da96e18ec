-- The bodies of declared functions as the code makes them, each behind no new variable, and the prolog's variables.
use Rattle.std.specs.Prelude.{◌≡◌, ℕ, ◌+◌, ◌*◌, Bool, true, false, List, [], ◌∷◌, ◌++◌, Option, Some, None, slice_get}
use Rattle.xq_base.specs.declared.item.TextId.{TextId}
use Rattle.core_meaning.specs.declared.node.Core.{Core}
use Rattle.core_meaning.specs.Erasure.{Texts, core_of}
use Rattle.core_meaning.specs.PlainCore.{PlainCore}
use Rattle.xq_ast.specs.declared.leaf.SeqType.{SeqType}
use Rattle.xq_ast.specs.declared.node.AsResolved.{AsResolved}
use Rattle.xq_ast.specs.declared.query.Declaration.{Declaration as CodeDeclaration}
use Rattle.xq_ast.specs.declared.query.Declaration.TheVariants as declaration_
use Rattle.xq_ast.specs.declared.query.Param.{Param}
use Rattle.core_scope.specs.Syn.{Syn, Params, resolved}
use Rattle.core_scope.specs.Erasure.{params_of}
use Rattle.core_scope.specs.Leaves.{ResolvedTree, resolved_leaves, syn_resolved}
use Rattle.core_normal.specs.declared.bodies.Bodies.{Bodies}
use Rattle.core_normal.specs.declared.bodies.State.{State}
use Rattle.core_normal.specs.declared.bodies.Template.{Template}
use Rattle.core_normal.specs.Fresh.{Makes, give, ◌▷=◌}
use Rattle.core_normal.specs.Around.{Env, no_vars, outside}
use Rattle.core_normal.specs.Calls.{calls_in}
use Rattle.core_normal.specs.Making.{HasEmpty, bodies_in, template_of}
use Rattle.core_normal.specs.Measuring.{Declarations, declarations}
use Rattle.core_normal.specs.Normal.{norm}
use Rattle.core_normal.specs.Ordered.{AllHeld, Holds, main_calls}
use Rattle.core_normal.specs.Query.{Function, body_of, entered, functions, globals}
use Rattle.core_normal.specs.Standing.{Stands, Values, vars_in, with_value}
use Rattle.core_normal.specs.Trees.{type_of}

-- the parameters of a function
abbrev pub params : Texts → List (Param ℕ SeqType) → Params resolved
params t = params_of (resolved_leaves t) AsResolved

-- a declared function
abbrev pub function_in : Texts → List (Param ℕ SeqType) → Option SeqType → ResolvedTree → Function
function_in t ps ty e = record { params = params t ps; result = type_of t ty; body = syn_resolved t e }

-- the variables of a function's parameters, and its body
pub record Bodied : Type 0 where
  pub vars : List ℕ
  pub body : PlainCore

-- a function's body behind its parameters, outside any context
unfoldable pub normed_body : Bodies → List (Param ℕ SeqType) → (Texts → Syn resolved) → Texts → Env → Makes Bodied
normed_body p ps e t env =
    entered p.base (params t ps) env ▷= λ b. norm p.base (bodies_in t p) (e t) (outside b.env) ▷= λ a. give (record { vars = b.vars; body = a })

-- a body that was made, with its parameters' variables behind others
pub record IsBodied (p : Bodies) (old : State) (ps : List (Param ℕ SeqType)) (e : Texts → Syn resolved) (before after : List ℕ) (core : Core) (new : State) : Type 0 where
  pub vars : List ℕ
  pub more : after ≡ before ++ vars
  pub made : (t : Texts) (env : Env) → HasEmpty t → Stands (vars_in old.vars) env →
      normed_body p ps e t env old.next ≡ record { made = record { vars = vars; body = core_of t core }; next = new.next }
  pub same : vars_in new.vars ≡ vars_in old.vars

-- a template is a function's body
abbrev pub IsTemplate : Bodies → Values → List (Param ℕ SeqType) → Option SeqType → ResolvedTree → Template → Type 0
IsTemplate p vs ps ty e b =
    (t : Texts) (env : Env) → HasEmpty t → Stands vs env → body_of p.base (bodies_in t p) env (function_in t ps ty e) 0 ≡ template_of t b

-- whether the body of this number is made
abbrev pub is_held : Option (Option Template) → Bool
is_held None = false
is_held (Some None) = false
is_held (Some (Some b)) = true

abbrev pub held_in : Bodies → ℕ → Bool
held_in p k = is_held (slice_get p.templates.items k)

-- all functions that an expression calls are made
abbrev pub HasCalls : Bodies → ResolvedTree → Type 0
HasCalls p e = (t : Texts) → AllHeld (held_in p) (calls_in (syn_resolved t e))

-- all functions that the prolog's variables and the main expression call are made
abbrev pub HasMainCalls : Bodies → Declarations → ResolvedTree → Type 0
HasMainCalls p ds e = (t : Texts) → AllHeld (held_in p) (main_calls (declarations t ds) (calls_in (syn_resolved t e)))

-- a template of a declaration
abbrev pub IsTemplateOf : Bodies → Values → CodeDeclaration TextId ℕ SeqType ResolvedTree → Template → Type 0
IsTemplateOf p vs (declaration_.Var at x ty e) b = ⊥
IsTemplateOf p vs (declaration_.Fun at n ps ty e) b = HasCalls p e × IsTemplate p vs ps ty e b

-- the variables of the prolog: how many, and what stands for each
abbrev pub var_count : Declarations → ℕ
var_count [] = 0
var_count (declaration_.Var at x ty e ∷ ds) = var_count ds + 1
var_count (declaration_.Fun at n ps ty e ∷ ds) = var_count ds

abbrev pub global_var : Option SeqType → ℕ → ℕ
global_var None j = 2 * j + 1
global_var (Some ty) j = 2 * j + 2

abbrev pub global_values : Declarations → ℕ → Values → Values
global_values [] j vs = vs
global_values (declaration_.Var at x ty e ∷ ds) j vs = global_values ds (j + 1) (with_value x.name (global_var ty j) vs)
global_values (declaration_.Fun at n ps ty e ∷ ds) j vs = global_values ds j vs

-- the bodies that are made are those of the definitions
pub record AreBodies (ds : Declarations) (p : Bodies) : Type 0 where
  pub base : p.base ≡ 2 * var_count ds + 1
  pub holds : (t : Texts) → HasEmpty t → Holds (2 * var_count ds + 1) (globals (declarations t ds) 0 no_vars) (functions (declarations t ds)) (held_in p) (bodies_in t p)
