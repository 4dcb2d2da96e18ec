-- All refusals of a query by scope, and the first of them.
use Rattle.std.specs.Prelude.{◌≡◌, ℕ, zero, suc, ◌<◌, ◌≤◌, Bool, true, false, cond, ◌&&◌, ◌||◌, List, [], ◌∷◌, map, length, Option, Some, None, ◌⊎◌, Contains, nat_eq, nat_lt}
use Rattle.xq_base.specs.declared.code.Code.{Code}
use Rattle.xq_base.specs.declared.code.Code.TheVariants as code
use Rattle.core_scope.specs.Syn.{Query, read, resolved}
use Rattle.core_scope.specs.declared.refusal.Refusal.{Refusal}
use Rattle.core_scope.specs.declared.found.DeclaredCall.{DeclaredCall}
use Rattle.core_scope.specs.Walk.{refused, Facts, nothing}
use Rattle.core_scope.specs.Prolog.{Told, of_function, of_variable, all_told, local_refusals, resolved_query}

-- the declared functions with the places of their `declare`, and what is told of each
pub record ToldFunction : Type 0 where
  pub offset : ℕ
  pub facts : Facts

abbrev pub told_functions : List Told → List ToldFunction
told_functions [] = []
told_functions (of_function o f ∷ ts) = record { offset = o; facts = f } ∷ told_functions ts
told_functions (of_variable j f ∷ ts) = told_functions ts

abbrev pub function_at : List ToldFunction → ℕ → ToldFunction
function_at [] k = record { offset = 0; facts = nothing }
function_at (f ∷ fs) zero = f
function_at (f ∷ fs) (suc k) = function_at fs k

-- a graph of calls, and its paths: a function calls another one, itself or through others
abbrev pub Calls : Type 0
Calls = ℕ → List ℕ

pub data Comes (calls : Calls) : ℕ → ℕ → Type 0 where
  straight : {f g : ℕ} → Contains (calls f) g → Comes calls f g
  through : {f g h : ℕ} → Contains (calls f) g → Comes calls g h → Comes calls f h

module _ (q : Query read) where
  abbrev pub the_functions : List ToldFunction
  the_functions = told_functions (all_told q)

  abbrev pub called_by : Calls
  called_by k = map (λ c. c.function) (function_at the_functions k).facts.calls

  abbrev pub referred_by : ℕ → List ℕ
  referred_by k = (function_at the_functions k).facts.refers

  -- a function that calls itself, used or not, is PFRC0001 at its `declare` (own rule: functions aren't recursive)
  pub record Recursive (r : Refusal) : Type 0 where
    pub number : ℕ
    pub is_function : number < length the_functions
    pub calls_itself : Comes called_by number number
    pub is : r ≡ refused code.PFRC0001 (function_at the_functions number).offset

  -- a function refers to a variable of the prolog, itself or through calls
  pub data Refers : ℕ → ℕ → Type 0 where
    itself : {f j : ℕ} → Contains (referred_by f) j → Refers f j
    by_call : {f g j : ℕ} → Comes called_by f g → Contains (referred_by g) j → Refers f j

  -- a call in the value of a variable of the prolog, of a function that refers to this variable or a later one, is XPST0008 at
  -- the call
  pub record TooSoon (r : Refusal) : Type 0 where
    pub number : ℕ
    pub facts : Facts
    pub is_variable : Contains (all_told q) (of_variable number facts)
    pub call : DeclaredCall
    pub is_call : Contains (facts.calls) call
    pub later : ℕ
    pub is_later : number ≤ later
    pub refers : Refers call.function later
    pub is : r ≡ refused code.XPST0008 call.offset

  abbrev pub IsRefusal : Refusal → Type 0
  IsRefusal r = Contains (local_refusals q) r ⊎ Recursive r ⊎ TooSoon r

-- the order of the codes at one place (own rule)
abbrev pub rank : Code → ℕ
rank code.XPST0003 = 0
rank code.PFRC0003 = 1
rank code.PFRC0004 = 2
rank code.XQST0031 = 3
rank code.FOAR0002 = 4
rank code.XPST0008 = 5
rank code.XPST0017 = 6
rank code.XPST0051 = 7
rank code.XPST0080 = 8
rank code.XQST0034 = 9
rank code.XQST0039 = 10
rank code.XQST0040 = 11
rank code.XQST0049 = 12
rank code.XQST0068 = 13
rank code.XQST0089 = 14
rank code.PFRC0001 = 15
rank code.PFRC0002 = 16
rank code.XPTY0004 = 17
rank code.XPTY0018 = 18
rank code.XPTY0019 = 19
rank code.XPTY0020 = 20
rank code.XPDY0002 = 21
rank code.XPDY0050 = 22
rank code.XQTY0024 = 23
rank code.XQDY0025 = 24
rank code.XQDY0026 = 25
rank code.XQDY0041 = 26
rank code.XQDY0064 = 27
rank code.XQDY0072 = 28
rank code.XQDY0074 = 29
rank code.FOAR0001 = 30
rank code.FORG0001 = 31
rank code.FORG0003 = 32
rank code.FORG0004 = 33
rank code.FORG0005 = 34
rank code.FORG0006 = 35
rank code.FODC0002 = 36
rank code.FOER0000 = 37
rank code.SENR0001 = 38

abbrev pub is_before : Refusal → Refusal → Bool
is_before a b = nat_lt a.offset b.offset || (nat_eq a.offset b.offset && nat_lt (rank a.code) (rank b.code))

-- the first of a refusal and of the one before it
abbrev pub earlier : Refusal → Option Refusal → Refusal
earlier a None = a
earlier a (Some b) = cond (is_before b a) b a

-- among these and the one before them
abbrev pub first_from : Option Refusal → List Refusal → Option Refusal
first_from kept [] = kept
first_from kept (r ∷ rs) = first_from (Some (earlier r kept)) rs

abbrev pub first_of : List Refusal → Option Refusal
first_of rs = first_from None rs

-- a refusal before which none stands
pub record IsFirst (q : Query read) (r : Refusal) : Type 0 where
  pub is : IsRefusal q r
  pub first : (x : Refusal) → IsRefusal q x → is_before x r ≡ false

-- what scope gives of a query: its resolved form where nothing is refused, else the first refusal
pub data Scoped : Type 0 where
  accepted : Query resolved → Scoped
  refusal : Refusal → Scoped

abbrev pub Scopes : Query read → Scoped → Type 0
Scopes q (accepted r) = ((x : Refusal) → IsRefusal q x → ⊥) × (r ≡ resolved_query q)
Scopes q (refusal r) = IsFirst q r

-- scope gives a query one thing at most
abbrev pub OneScoping : Type 0
OneScoping = (q : Query read) (a b : Scoped) → Scopes q a → Scopes q b → a ≡ b
