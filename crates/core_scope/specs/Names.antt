-- What names stand for at a place: the visible variables (XQuery 1.0, sections 3.1.2, 3.8.1, 3.11, 4.14 and 4.15) and the
-- functions (sections 3.1.5 and 4.15).
use Rattle.std.specs.Prelude.{ℕ, suc, Bool, true, false, ◌&&◌, ◌||◌, cond, List, [], ◌∷◌, Option, Some, None, codes, nat_eq}
use Rattle.xq_base.specs.declared.fun.Fun.{Fun}
use Rattle.xq_base.specs.Texts.{Text, text_eq}
use Rattle.xq_ast.specs.declared.leaf.Callee.{Callee}
use Rattle.xq_ast.specs.declared.leaf.Callee.TheVariants as callee
use Rattle.core_scope.specs.declared.names.Visible.{Visible}
use Rattle.core_scope.specs.Syn.{Binds, read}
use Rattle.core_scope.specs.Syn as s
use Rattle.core_scope.specs.BuiltIns.{built_in}

-- the variable that each name stands for, if it stands for one
abbrev pub Scope : Type 0
Scope = Text → Option Visible

abbrev pub no_names : Scope
no_names x = None

-- a name stands for this from here on: an inner variable hides an outer one
abbrev pub with_name : Text → Option Visible → Scope → Scope
with_name x v sc y = cond (text_eq x y) v (sc y)

-- a variable, and the one of this number in the prolog, each with the place of its "$"
abbrev pub with_local : ℕ → Text → Scope → Scope
with_local o x sc = with_name x (Some (record { place = o; number = None })) sc

abbrev pub with_global : ℕ → Text → ℕ → Scope → Scope
with_global o x j sc = with_name x (Some (record { place = o; number = Some j })) sc

-- the place of a variable's binding; 0 where there is none, which is refused
abbrev pub place_in : Option Visible → ℕ
place_in None = 0
place_in (Some v) = v.place

-- with the variable of a position, if there is one
abbrev pub with_position : Option (ℕ × Text) → Scope → Scope
with_position None sc = sc
with_position (Some v) sc = with_local v.0 v.1 sc

-- the variables that are visible behind a bind of a loop, and behind binds
abbrev pub behind_for : ℕ → Text → Option (ℕ × Text) → Scope → Scope
behind_for o x at sc = with_local o x (with_position at sc)

abbrev pub behind_binds : Binds read → Scope → Scope
behind_binds s.no_binds sc = sc
behind_binds (s.for_bind o x ty at e bs) sc = behind_binds bs (behind_for o x at sc)
behind_binds (s.let_bind o x ty e bs) sc = behind_binds bs (with_local o x sc)

-- a declared function: its name without `fn:`, and the number of its parameters
pub record Signature : Type 0 where
  pub name : Text
  pub arity : ℕ

-- what follows a prefix; the whole where it has none
abbrev pub behind : Text → Text → Text → Text
behind [] cs whole = cs
behind (p ∷ ps) [] whole = whole
behind (p ∷ ps) (c ∷ cs) whole = cond (nat_eq c p) (behind ps cs whole) whole

-- `fn:n` is `n`
abbrev pub plain_name : Text → Text
plain_name x = behind (codes "fn:") x x

-- the number of the first declaration of this name and number of parameters, where the first has this number
abbrev pub declared_from : ℕ → List Signature → Text → ℕ → Option ℕ
declared_from j [] x n = None
declared_from j (f ∷ fs) x n = cond (text_eq f.name x && nat_eq f.arity n) (Some j) (declared_from (suc j) fs x n)

-- a built-in function goes before a declared one (own rule)
abbrev pub called_of : Option Fun → Option ℕ → Option Callee
called_of (Some f) d = Some (callee.Known f)
called_of None (Some j) = Some (callee.Declared j)
called_of None None = None

-- the function of a call by name and number of arguments
abbrev pub function_of : List Signature → Text → ℕ → Option Callee
function_of fs x n = called_of (built_in (plain_name x) n) (declared_from 0 fs (plain_name x) n)

abbrev pub is_there : {A : Type 0} → Option A → Bool
is_there None = false
is_there (Some a) = true

-- whether a function of this name and number of parameters is built in or declared
abbrev pub is_taken : List Signature → Text → ℕ → Bool
is_taken fs x n = is_there (function_of fs x n)

-- whether a text is among others
abbrev pub is_among : List Text → Text → Bool
is_among [] x = false
is_among (y ∷ ys) x = text_eq y x || is_among ys x
