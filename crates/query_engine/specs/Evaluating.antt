-- What a function that evaluates ensures: the value, or the first failure, unless memory runs out.
use Rattle.std.specs.Prelude.{ℕ, ◌≡◌, ◌+◌, Bool, false, cond, ◌&&◌, ◌||◌, nat_eq, nat_lt, List, [], ◌∷◌, ◌++◌, map, Option, Some, None, Result, Ok, Err}
use Rattle.std.specs.declared.vec.Vec.{Vec}
use Rattle.std.specs.declared.alloc.Global.{Global}
use Rattle.xq_base.specs.declared.item.Item.{Item as Held}
use Rattle.xq_base.specs.declared.item.Item.TheVariants as i
use Rattle.xq_base.specs.Answers.{Answer, Value as Good, Fault as Bad, check_rank}
use Rattle.xq_base.specs.Texts.{Text}
use Rattle.doc_table.specs.Items.{Item}
use Rattle.doc_table.specs.Values.{Items}
use Rattle.doc_table.specs.Stores.{Holdings, tree_at}
use Rattle.doc_table.specs.StoredItems.{meanings, IsNodeOf}
use Rattle.doc_table.specs.Documents.{documents_in}
use Rattle.core_meaning.specs.Erasure.{Texts}
use Rattle.core_meaning.specs.PlainCore.{PlainCore}
use Rattle.core_meaning.specs.ExprOf.{expr_from}
use Rattle.core_meaning.specs.Size.{nodes}
use Rattle.core_meaning.specs.Meaning.{Env, no_variables, with_var, in_loop, deeper, both, each_from, val}
use Rattle.core_meaning.specs.Reached.{all_from}
use Rattle.core_meaning.specs.Failures.{Failure, fails, first}
use Rattle.query_engine.specs.declared.evaluate.Binding.{Binding}
use Rattle.query_engine.specs.declared.evaluate.Failed.{Failed}
use Rattle.query_engine.specs.declared.evaluate.EvalFault.{EvalFault}
use Rattle.query_engine.specs.declared.evaluate.EvalFault.TheVariants.{NoMemory, Reached}
use Rattle.query_engine.specs.declared.evaluate.Found.{Found}
use Rattle.query_engine.specs.declared.evaluate.Found.TheVariants as f
use Rattle.query_engine.specs.declared.evaluate.Value.{Value}

-- each variable with its items, the innermost first
abbrev pub Bound : Type 0
Bound = ℕ × List Held

abbrev pub bindings_of : List Binding → List Bound
bindings_of bs = map (λ b. (b.var, b.items.items)) bs

abbrev pub env_of : Texts → Holdings → List Bound → Env
env_of texts h [] = no_variables
env_of texts h (b ∷ bs) = with_var (env_of texts h bs) b.0 (meanings texts h b.1)

-- an integer; or a node of the store, where sums may not occur
abbrev pub Fits : Bool → Holdings → Held → Type 0
Fits sums h (i.Int n) = Unit {0}
Fits sums h (i.Str id) = ⊥
Fits sums h (i.Untyped id) = ⊥
Fits sums h (i.Bool b) = ⊥
Fits sums h (i.Node r) = (sums ≡ false) × IsNodeOf h r (tree_at h r.frag)

abbrev pub AllFit : Bool → Holdings → List Held → Type 0
AllFit sums h [] = Unit {0}
AllFit sums h (x ∷ xs) = Fits sums h x × AllFit sums h xs

abbrev pub EnvFits : Bool → Holdings → List Bound → Type 0
EnvFits sums h [] = Unit {0}
EnvFits sums h (b ∷ bs) = AllFit sums h b.1 × EnvFits sums h bs

-- a failure as it is told
abbrev pub failed_of : Failure → Failed
failed_of f = record { site = f.site.number; offset = f.site.offset; code = f.code }

abbrev pub told : Option Failure → Option Failed
told None = None
told (Some f) = Some (failed_of f)

-- the lesser of two, by site and then by check
abbrev pub lesser_failed : Failed → Failed → Failed
lesser_failed f g = cond (nat_lt g.site f.site || (nat_eq g.site f.site && nat_lt (check_rank g.code) (check_rank f.code))) g f

-- the values and the failures are those for each vector
abbrev pub Values : Type 0
Values = List ℕ → Option Items

abbrev pub Failures : Type 0
Failures = List ℕ → List Failure

abbrev pub FaultOf : Failures → EvalFault → Type 0
FaultOf failures NoMemory = Unit {0}
FaultOf failures (Reached f) = (vec : List ℕ) → told (first (failures vec)) ≡ Some f

module _ (sums : Bool) (texts : Texts) (h : Holdings) where
  abbrev pub IsValue : Values → List Held → Type 0
  IsValue values items = ((vec : List ℕ) → values vec ≡ Some (meanings texts h items)) × AllFit sums h items

  abbrev pub GivesItems : Values → Failures → Result (Vec Held Global) EvalFault → Type 0
  GivesItems values failures (Ok v) = IsValue values v.items
  GivesItems values failures (Err e) = FaultOf failures e

  -- the value and the number of the first node behind, or the first failure
  abbrev pub Gives : ℕ → Values → Failures → Result Value EvalFault → Type 0
  Gives next values failures (Ok v) = IsValue values v.items.items × (v.next ≡ next)
  Gives next values failures (Err e) = FaultOf failures e

  -- of a Core whose first node has this number
  abbrev pub value_of : ℕ → PlainCore → Env → Values
  value_of n core env = val (documents_in texts h) (expr_from n core) env

  abbrev pub fails_of : ℕ → PlainCore → Env → Failures
  fails_of n core env = fails (documents_in texts h) (expr_from n core) env

  abbrev pub CoreGives : ℕ → PlainCore → Env → Result Value EvalFault → Type 0
  CoreGives n core env result = Gives (n + nodes core) (value_of n core env) (fails_of n core env) result

  -- of a rule at a node with this number and place
  abbrev pub RuleGives : ℕ → ℕ → Answer Items → Result Value EvalFault → Type 0
  RuleGives n offset answer (Ok v) = (answer ≡ Good (meanings texts h v.items.items)) × AllFit sums h v.items.items × (v.next ≡ n + 1)
  RuleGives n offset answer (Err NoMemory) = Unit {0}
  RuleGives n offset answer (Err (Reached e)) = (answer ≡ Bad e.code) × (e.site ≡ n) × (e.offset ≡ offset)

  -- of a loop's body at an item and its place
  abbrev pub turn_value : ℕ → PlainCore → ℕ → ℕ → Env → List ℕ → ℕ → Item Text → Option Items
  turn_value n body x p env vec k item = value_of n body (in_loop x p env k item) (deeper vec k)

  abbrev pub turn_fails : ℕ → PlainCore → ℕ → ℕ → Env → List ℕ → ℕ → Item Text → List Failure
  turn_fails n body x p env vec k item = fails_of n body (in_loop x p env k item) (deeper vec k)

  abbrev pub TurnsGive : ℕ → PlainCore → ℕ → ℕ → Env → List Held → Result (Vec Held Global) EvalFault → Type 0
  TurnsGive n body x p env items result =
      GivesItems (λ vec. each_from (turn_value n body x p env vec) 1 (meanings texts h items)) (λ vec. all_from (turn_fails n body x p env vec) 1 (meanings texts h items)) result

  -- what some turns have found, where these are all items and these are left, the first of them with this place
  abbrev pub SoFar : ℕ → PlainCore → ℕ → ℕ → Env → Items → ℕ → Items → Found → Type 0
  SoFar n body x p env all k rest (f.Items v) =
      ((vec : List ℕ) → each_from (turn_value n body x p env vec) 1 all ≡ both (Some (meanings texts h v.items)) (each_from (turn_value n body x p env vec) k rest))
      × ((vec : List ℕ) → all_from (turn_fails n body x p env vec) 1 all ≡ all_from (turn_fails n body x p env vec) k rest)
      × AllFit sums h v.items
  SoFar n body x p env all k rest (f.Failing e) =
      (vec : List ℕ) → (fs : List Failure) × (all_from (turn_fails n body x p env vec) 1 all ≡ fs ++ all_from (turn_fails n body x p env vec) k rest) × (told (first fs) ≡ Some e)

-- one turn more
abbrev pub IsItems : Found → List Held → Type 0
IsItems (f.Items v) items = v.items ≡ items
IsItems (f.Failing e) items = ⊥

abbrev pub IsStep : Found → Result Value EvalFault → Found → Type 0
IsStep found (Err NoMemory) new = ⊥
IsStep (f.Items v) (Ok t) new = IsItems new (v.items ++ t.items.items)
IsStep (f.Items v) (Err (Reached e)) new = new ≡ f.Failing e
IsStep (f.Failing e) (Ok t) new = new ≡ f.Failing e
IsStep (f.Failing e) (Err (Reached g)) new = new ≡ f.Failing (lesser_failed e g)
