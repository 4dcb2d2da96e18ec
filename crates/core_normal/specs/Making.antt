-- What the code's making of a Core says, whatever texts the text numbers stand for, if number 0 is the empty text.
use Rattle.std.specs.Prelude.{ℕ, zero, suc, ◌≡◌, List, [], ◌∷◌, map, Option, Some, None, Result, IfOk, slice_index_or}
use Rattle.std.specs.declared.alloc.Global.{Global}
use denote.Ref.{Bor, MutBor}
use Rattle.xq_base.specs.declared.axis.Axis.{Axis}
use Rattle.xq_base.specs.declared.item.TextId.{TextId}
use Rattle.xq_base.specs.declared.item.Want.{Want}
use Rattle.doc_table.specs.Tree.{text_in}
use Rattle.core_meaning.specs.declared.node.Core.{Core}
use Rattle.core_meaning.specs.declared.node.SeqType.{SeqType}
use Rattle.core_meaning.specs.declared.node.StepFrom.TheVariants as start
use Rattle.core_meaning.specs.Types.{SequenceTest}
use Rattle.core_meaning.specs.PlainCore.{PlainCore, PlainCores, Step as step_core, For, Var, one_core}
use Rattle.core_meaning.specs.Erasure.{Texts, core_of, cores_of}
use Rattle.xq_ast.specs.declared.leaf.Test.{Test as CodeTest}
use Rattle.xq_ast.specs.declared.node.Behind.{Behind}
use Rattle.xq_ast.specs.declared.node.Right.{Right}
use Rattle.xq_ast.specs.declared.node.Step.{Step}
use Rattle.core_scope.specs.Syn.{Syn, Syns, resolved}
use Rattle.core_scope.specs.Erasure.{test_of}
use Rattle.core_scope.specs.Leaves.{ResolvedTree, syn_resolved}
use Rattle.core_normal.specs.declared.pieces.Context.{Context}
use Rattle.core_normal.specs.declared.bodies.Bodies.{Bodies}
use Rattle.core_normal.specs.declared.bodies.State.{State}
use Rattle.core_normal.specs.declared.bodies.Template.{Template}
use Rattle.core_normal.specs.Fresh.{Made, Makes, fresh, give, ◌▷=◌}
use Rattle.core_normal.specs.Around.{Around, Env, focused}
use Rattle.core_normal.specs.Held.{focus_of, type_in}
use Rattle.core_normal.specs.Normal.{norm, norm_all, predicate, predicates}
use Rattle.core_normal.specs.Pieces.{Inlined, counted, dot_at, for_each_node, ordered}
use Rattle.core_normal.specs.Query.{no_function}
use Rattle.core_normal.specs.Shift as shift
use Rattle.core_normal.specs.Stepping.{chosen_from_dot, walked, first_step, next_step, next_steps, next_operands}
use Rattle.core_normal.specs.Standing.{Stands, vars_in}

abbrev pub HasEmpty : Texts → Type 0
HasEmpty t = slice_index_or t 0 [] ≡ []

-- a type of the Core, where one is written
abbrev pub types_in : Texts → List (Option SeqType) → List (Option SequenceTest)
types_in t = map (type_in t)

-- a declared function's body, made behind no new variable
abbrev pub template_of : Texts → Template → Made Inlined
template_of t b = record { made = record { vars = b.vars.items; types = types_in t b.types.items; body = core_of t b.body; result = type_in t b.result }; next = b.made }

-- the body of this number, as far as it is made
abbrev pub template_in : Texts → Option Template → Made Inlined
template_in t None = give no_function 0
template_in t (Some b) = template_of t b

abbrev pub template_at : Texts → List (Option Template) → ℕ → Made Inlined
template_at t [] k = give no_function 0
template_at t (b ∷ bs) zero = template_in t b
template_at t (b ∷ bs) (suc k) = template_at t bs k

-- each call has a copy with its new variables moved
abbrev pub bodies_in : Texts → Bodies → ℕ → Makes Inlined
bodies_in t b k d = shift.all b.base d (shift.inlined b.base d) (template_at t b.templates.items k)

abbrev pub around_of : Env → Option Context → Around
around_of env focus = record { env = env; focus = focus_of focus }

-- what makes something, over the texts of a pool
abbrev pub Making : Type 0 → Type 0
Making A = Texts → Around → Makes A

-- a making made this, which stands for something, and the same variables are visible
pub record MadeBy {A B : Type 0} (read : Texts → A → B) (p : Bodies) (old : State) (focus : Option Context) (makes : Making B) (x : A) (new : State) : Type 0 where
  pub made : (t : Texts) (env : Env) → HasEmpty t → Stands (vars_in old.vars) env →
      makes t (around_of env focus) old.next ≡ record { made = read t x; next = new.next }
  pub same : vars_in new.vars ≡ vars_in old.vars

-- the same of a call, where memory isn't wanting
abbrev pub Makes_ : {A B : Type 0} → (Texts → A → B) → Bodies → State → Option Context → Making B → Result A Want → State → Type 0
Makes_ read p old focus makes result new = IfOk result (λ x. MadeBy read p old focus makes x new)

-- a call makes the Core of an expression
unfoldable pub normed : Bodies → (Texts → Syn resolved) → Making PlainCore
normed p e t = norm p.base (bodies_in t p) (e t)

abbrev pub Norms : Bodies → State → Option Context → (Texts → Syn resolved) → Result Core Want → State → Type 0
Norms p old focus e = Makes_ core_of p old focus (normed p e)

-- a function value that makes Cores to a depth of levels
pub record Nests (levels : ℕ)
    (pre : Global → Bor Bodies → ℕ → Bor ResolvedTree → MutBor State → Option Context → Type 0)
    (post : Global → Bor Bodies → ℕ → Bor ResolvedTree → MutBor State → Option Context → Result Core Want → MutBor State → Type 0) : Type 0 where
  pub callable : (alloc : Global) (p : Bor Bodies) (e : Bor ResolvedTree) (old : MutBor State) (focus : Option Context) → pre alloc p levels e old focus
  pub norms : (alloc : Global) (p : Bor Bodies) (e : Bor ResolvedTree) (old new : MutBor State) (focus : Option Context) (r : Result Core Want) →
      post alloc p levels e old focus r new → Norms p.now old.now focus (λ t. syn_resolved t e.now) r new.now

-- a making is what is left to make, with what was made so far
pub record SoFar {B : Type 0} (p : Bodies) (old : State) (focus : Option Context) (whole rest : Making B) (new : State) : Type 0 where
  pub so_far : (t : Texts) (env : Env) → HasEmpty t → Stands (vars_in old.vars) env →
      whole t (around_of env focus) old.next ≡ rest t (around_of env focus) new.next
  pub same : vars_in new.vars ≡ vars_in old.vars

-- a new variable
pub record IsFresh (p : Bodies) (old : State) (x : ℕ) (new : State) : Type 0 where
  pub gives : fresh p.base old.next ≡ record { made = x; next = new.next }
  pub same : vars_in new.vars ≡ vars_in old.vars

-- new variables for some items, their number, and an item with its place
pub record ArePicked (p : Bodies) (old : State) (y last dot place : ℕ) (new : State) : Type 0 where
  pub s1 : State
  pub s2 : State
  pub s3 : State
  pub items : IsFresh p old y s1
  pub count : IsFresh p s1 last s2
  pub item : IsFresh p s2 dot s3
  pub position : IsFresh p s3 place new

-- Cores that were made, and Cores before others
abbrev pub all_in : Texts → List Core → List PlainCore
all_in t = map (core_of t)

abbrev pub cores_in : Texts → List Core → PlainCores
cores_in t xs = cores_of (map (core_of t) xs)

abbrev pub before_cores : List PlainCore → PlainCores → PlainCores
before_cores [] more = more
before_cores (x ∷ xs) more = one_core x (before_cores xs more)

unfoldable pub normed_all : Bodies → (Texts → Syns resolved) → Making PlainCores
normed_all p es t = norm_all p.base (bodies_in t p) (es t)

unfoldable pub normed_predicate : Bodies → (Texts → Syn resolved) → ℕ → (Texts → PlainCore) → Making PlainCore
normed_predicate p q o e t r = predicate p.base (norm p.base (bodies_in t p) (q t)) o (e t) r

unfoldable pub normed_predicates : Bodies → (Texts → Syns resolved) → ℕ → (Texts → PlainCore) → Making PlainCore
normed_predicates p qs o e t r = predicates p.base (bodies_in t p) (qs t) o (e t) r

-- steps and operators, over what stands before them
unfoldable pub normed_first : Bodies → Step TextId ResolvedTree → Making PlainCore
normed_first p x t = first_step p.base (bodies_in t p) t x

unfoldable pub normed_next : Bodies → Step TextId ResolvedTree → (Texts → PlainCore) → Making PlainCore
normed_next p x e t r = next_step p.base (bodies_in t p) t x (e t) r

unfoldable pub normed_behind : Bodies → List (Behind TextId ResolvedTree) → (Texts → PlainCore) → Making PlainCore
normed_behind p bs e t r = next_steps p.base (bodies_in t p) t bs (e t) r

unfoldable pub normed_rights : Bodies → ℕ → List (Right ResolvedTree) → ℕ → (Texts → PlainCore) → Making PlainCore
normed_rights p o bs at e t r = next_operands p.base (bodies_in t p) t o bs at (e t) r

-- an expression with its predicates, and the steps of a path that begin at the context item
unfoldable pub normed_filtered : Bodies → ℕ → (Texts → Syn resolved) → (Texts → Syns resolved) → Making PlainCore
normed_filtered p o m qs t r = norm p.base (bodies_in t p) (m t) r ▷= λ e. predicates p.base (bodies_in t p) (qs t) o e r

unfoldable pub normed_here : Bodies → ℕ → Axis → CodeTest TextId → (Texts → Syns resolved) → Making PlainCore
normed_here p o x test qs t r =
    chosen_from_dot p.base (bodies_in t p) t o (step_core o start.Dot x (test_of (text_in t) test) (dot_at o r.focus)) (counted o x (step_core o start.Dot x (test_of (text_in t) test) (dot_at o r.focus))) (qs t) r

-- a step along an axis, and a primary for each node, over what stands before them
unfoldable pub normed_on : Bodies → ℕ → Axis → CodeTest TextId → (Texts → Syns resolved) → (Texts → PlainCore) → Making PlainCore
normed_on p o x test qs e t r = walked p.base (bodies_in t p) t o x (test_of (text_in t) test) (qs t) (e t) r

unfoldable pub normed_chosen : Bodies → ℕ → Axis → CodeTest TextId → (Texts → Syns resolved) → (Texts → PlainCore) → Making PlainCore
normed_chosen p o x test qs e t r =
    fresh p.base ▷= λ d. fresh p.base ▷= λ q. predicates p.base (bodies_in t p) (qs t) o (counted o x (step_core o start.Path x (test_of (text_in t) test) (Var o d))) r
    ▷= λ b. give (ordered o (For o d q (e t) b))

unfoldable pub normed_through : Bodies → ℕ → (Texts → Syn resolved) → (Texts → Syns resolved) → (Texts → PlainCore) → Making PlainCore
normed_through p o m qs e t r =
    fresh p.base ▷= λ y. fresh p.base ▷= λ last. fresh p.base ▷= λ dot. fresh p.base ▷= λ place.
    normed_filtered p o m qs t (focused dot place last r) ▷= λ b. give (for_each_node o (e t) y last dot place b)
