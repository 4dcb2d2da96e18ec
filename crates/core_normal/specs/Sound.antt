-- Resolved expressions of which a lawful Core is made: each variable is bound, each call has its arguments, and each constructor has a
-- name where one belongs.
use Rattle.std.specs.Prelude.{◌≡◌, ℕ, ◌||◌, Bool, true, false, Option, Some, None, List, [], ◌∷◌, nat_eq}
use Rattle.xq_base.specs.declared.fun.Fun.{Fun}
use Rattle.xq_base.specs.declared.fun.Fun.TheVariants as fun
use Rattle.core_meaning.specs.Lawful.{takes, all_differ}
use Rattle.core_meaning.specs.Work.{is_member}
use Rattle.xq_ast.specs.declared.leaf.BuildKind.{BuildKind}
use Rattle.xq_ast.specs.declared.leaf.BuildKind.TheVariants as build
use Rattle.xq_ast.specs.declared.leaf.Callee.{Callee}
use Rattle.xq_ast.specs.declared.leaf.Callee.TheVariants as callee
use Rattle.core_scope.specs.Syn.{Phase, Syn, Syns, Maybe, Binds, Keys, BuildName, Attributes, Values, Parts, Declaration, Query, resolved, how_many}
use Rattle.core_scope.specs.Syn as s

-- a number is in a list
abbrev pub In : ℕ → List ℕ → Type 0
In x xs = is_member x xs ≡ true

-- whether a call of a built-in function with this number of arguments has a Core
abbrev pub can_call : Fun → ℕ → Bool
can_call fun.Or n = false
can_call fun.And n = false
can_call fun.Position n = true
can_call fun.Last n = true
can_call fun.Error n = true
can_call fun.XsInteger n = nat_eq n 1
can_call fun.XsString n = nat_eq n 1
can_call fun.XsBoolean n = nat_eq n 1
can_call fun.XsUntypedAtomic n = nat_eq n 1
can_call fun.Root n = nat_eq n 0 || nat_eq n 1
can_call fun.StringOf n = nat_eq n 0 || nat_eq n 1
can_call fun.Name n = nat_eq n 0 || nat_eq n 1
can_call fun.LocalName n = nat_eq n 0 || nat_eq n 1
can_call fun.StringLength n = nat_eq n 0 || nat_eq n 1
can_call fun.NormalizeSpace n = nat_eq n 0 || nat_eq n 1
can_call g n = takes g n

abbrev pub has_name : {p : Phase} → BuildName p → Bool
has_name s.no_name = false
has_name (s.named n) = true
has_name (s.computed e) = true

abbrev pub lacks_name : {p : Phase} → BuildName p → Bool
lacks_name s.no_name = true
lacks_name (s.named n) = false
lacks_name (s.computed e) = false

-- elements, attributes and instructions have names, the other kinds have none (XQuery 1.0, section 3.7.3)
abbrev pub is_named : {p : Phase} → BuildKind → BuildName p → Bool
is_named build.Element n = has_name n
is_named build.Attribute n = has_name n
is_named build.Pi n = has_name n
is_named build.Text n = lacks_name n
is_named build.Comment n = lacks_name n
is_named build.Document n = lacks_name n

-- the variable of a position before others
abbrev pub at_vars : Option (ℕ × ℕ) → List ℕ → List ℕ
at_vars None vs = vs
at_vars (Some v) vs = v.1 ∷ vs

-- the variables behind binds
abbrev pub behind : Binds resolved → List ℕ → List ℕ
behind s.no_binds vs = vs
behind (s.for_bind i v t at e bs) vs = behind bs (v ∷ at_vars at vs)
behind (s.let_bind i v t e bs) vs = behind bs (v ∷ vs)

-- the declared functions that may be called, and how many parameters each has
module _ (may : ℕ → Type 0) (arity : ℕ → ℕ) where
  abbrev pub SoundCall : Callee → ℕ → Type 0
  SoundCall (callee.Known g) n = can_call g n ≡ true
  SoundCall (callee.Declared k) n = may k × (arity k ≡ n)

  -- where these variables are visible
  unfoldable mutual
    pub Sound : List ℕ → Syn resolved → Type 0
    Sound vs (s.comma o a es) = Sound vs a × SoundAll vs es
    Sound vs (s.flwor o bs w ks e) = SoundBinds vs bs × SoundMaybe (behind bs vs) w × SoundKeys (behind bs vs) ks × Sound (behind bs vs) e
    Sound vs (s.quantified o w bs e) = SoundBinds vs bs × Sound (behind bs vs) e
    Sound vs (s.conditional o e a b) = Sound vs e × Sound vs a × Sound vs b
    Sound vs (s.binary o f a b) = Sound vs a × Sound vs b
    Sound vs (s.signed o g a) = Sound vs a
    Sound vs (s.instance o a t) = Sound vs a
    Sound vs (s.treat o a t) = Sound vs a
    Sound vs (s.castable o a k m) = Sound vs a
    Sound vs (s.cast o a k m) = Sound vs a
    Sound vs (s.root o) = Unit {0}
    Sound vs (s.step o x t a ps) = SoundMaybe vs a × SoundAll vs ps
    Sound vs (s.through o a m) = Sound vs a × Sound vs m
    Sound vs (s.filtered o a ps) = Sound vs a × SoundAll vs ps
    Sound vs (s.integer o n) = Unit {0}
    Sound vs (s.text o t) = Unit {0}
    Sound vs (s.var o v) = In v vs
    Sound vs (s.paren o e) = SoundMaybe vs e
    Sound vs (s.dot o) = Unit {0}
    Sound vs (s.call o f es) = SoundCall f (how_many es) × SoundAll vs es
    Sound vs (s.build o k n e) = (is_named k n ≡ true) × SoundName vs n × SoundMaybe vs e
    Sound vs (s.element o n as' ps) = SoundAttributes vs as' × SoundParts vs ps
    Sound vs (s.comment o t) = Unit {0}
    Sound vs (s.instruction o n t) = Unit {0}

    pub SoundAll : List ℕ → Syns resolved → Type 0
    SoundAll vs s.no_more = Unit {0}
    SoundAll vs (s.one_more e es) = Sound vs e × SoundAll vs es

    pub SoundMaybe : List ℕ → Maybe resolved → Type 0
    SoundMaybe vs s.absent = Unit {0}
    SoundMaybe vs (s.present e) = Sound vs e

    pub SoundBinds : List ℕ → Binds resolved → Type 0
    SoundBinds vs s.no_binds = Unit {0}
    SoundBinds vs (s.for_bind i v t at e bs) = Sound vs e × SoundBinds (v ∷ at_vars at vs) bs
    SoundBinds vs (s.let_bind i v t e bs) = Sound vs e × SoundBinds (v ∷ vs) bs

    pub SoundKeys : List ℕ → Keys resolved → Type 0
    SoundKeys vs s.no_keys = Unit {0}
    SoundKeys vs (s.one_key e d g ks) = Sound vs e × SoundKeys vs ks

    pub SoundName : List ℕ → BuildName resolved → Type 0
    SoundName vs s.no_name = Unit {0}
    SoundName vs (s.named n) = Unit {0}
    SoundName vs (s.computed e) = Sound vs e

    pub SoundAttributes : List ℕ → Attributes resolved → Type 0
    SoundAttributes vs s.no_attributes = Unit {0}
    SoundAttributes vs (s.attribute o n ws as') = SoundValues vs ws × SoundAttributes vs as'

    pub SoundValues : List ℕ → Values resolved → Type 0
    SoundValues vs s.no_values = Unit {0}
    SoundValues vs (s.value_run t ws) = SoundValues vs ws
    SoundValues vs (s.value_brace e ws) = Sound vs e × SoundValues vs ws

    pub SoundParts : List ℕ → Parts resolved → Type 0
    SoundParts vs s.no_parts = Unit {0}
    SoundParts vs (s.run t ps) = SoundParts vs ps
    SoundParts vs (s.brace e ps) = Sound vs e × SoundParts vs ps
    SoundParts vs (s.inner e ps) = Sound vs e × SoundParts vs ps

-- the constructors of an expression have names where names belong
unfoldable mutual
  pub Built : {p : Phase} → Syn p → Type 0
  Built (s.comma o a es) = Built a × BuiltAll es
  Built (s.flwor o bs w ks e) = BuiltBinds bs × BuiltMaybe w × BuiltKeys ks × Built e
  Built (s.quantified o w bs e) = BuiltBinds bs × Built e
  Built (s.conditional o e a b) = Built e × Built a × Built b
  Built (s.binary o f a b) = Built a × Built b
  Built (s.signed o g a) = Built a
  Built (s.instance o a t) = Built a
  Built (s.treat o a t) = Built a
  Built (s.castable o a k m) = Built a
  Built (s.cast o a k m) = Built a
  Built (s.root o) = Unit {0}
  Built (s.step o x t a ps) = BuiltMaybe a × BuiltAll ps
  Built (s.through o a m) = Built a × Built m
  Built (s.filtered o a ps) = Built a × BuiltAll ps
  Built (s.integer o n) = Unit {0}
  Built (s.text o t) = Unit {0}
  Built (s.var o v) = Unit {0}
  Built (s.paren o e) = BuiltMaybe e
  Built (s.dot o) = Unit {0}
  Built (s.call o f es) = BuiltAll es
  Built (s.build o k n e) = (is_named k n ≡ true) × BuiltName n × BuiltMaybe e
  Built (s.element o n as' ps) = BuiltAttributes as' × BuiltParts ps
  Built (s.comment o t) = Unit {0}
  Built (s.instruction o n t) = Unit {0}

  pub BuiltAll : {p : Phase} → Syns p → Type 0
  BuiltAll s.no_more = Unit {0}
  BuiltAll (s.one_more e es) = Built e × BuiltAll es

  pub BuiltMaybe : {p : Phase} → Maybe p → Type 0
  BuiltMaybe s.absent = Unit {0}
  BuiltMaybe (s.present e) = Built e

  pub BuiltBinds : {p : Phase} → Binds p → Type 0
  BuiltBinds s.no_binds = Unit {0}
  BuiltBinds (s.for_bind i v t at e bs) = Built e × BuiltBinds bs
  BuiltBinds (s.let_bind i v t e bs) = Built e × BuiltBinds bs

  pub BuiltKeys : {p : Phase} → Keys p → Type 0
  BuiltKeys s.no_keys = Unit {0}
  BuiltKeys (s.one_key e d g ks) = Built e × BuiltKeys ks

  pub BuiltName : {p : Phase} → BuildName p → Type 0
  BuiltName s.no_name = Unit {0}
  BuiltName (s.named n) = Unit {0}
  BuiltName (s.computed e) = Built e

  pub BuiltAttributes : {p : Phase} → Attributes p → Type 0
  BuiltAttributes s.no_attributes = Unit {0}
  BuiltAttributes (s.attribute o n vs as') = BuiltValues vs × BuiltAttributes as'

  pub BuiltValues : {p : Phase} → Values p → Type 0
  BuiltValues s.no_values = Unit {0}
  BuiltValues (s.value_run t vs) = BuiltValues vs
  BuiltValues (s.value_brace e vs) = Built e × BuiltValues vs

  pub BuiltParts : {p : Phase} → Parts p → Type 0
  BuiltParts s.no_parts = Unit {0}
  BuiltParts (s.run t ps) = BuiltParts ps
  BuiltParts (s.brace e ps) = Built e × BuiltParts ps
  BuiltParts (s.inner e ps) = Built e × BuiltParts ps

-- the same of the declarations of a prolog
abbrev pub BuiltDeclarations : {p : Phase} → List (Declaration p) → Type 0
BuiltDeclarations [] = Unit {0}
BuiltDeclarations (s.variable o i v t e ∷ ds) = Built e × BuiltDeclarations ds
BuiltDeclarations (s.function o i n ps t e ∷ ds) = Built e × BuiltDeclarations ds

-- the places of the prolog's variables
abbrev pub places : {p : Phase} → List (Declaration p) → List ℕ
places [] = []
places (s.variable o i v t e ∷ ds) = i ∷ places ds
places (s.function o i n ps t e ∷ ds) = places ds

-- what a query that was read has, and so has its resolved form: names where they belong, and a place of its own for each variable of the prolog
pub record IsBuilt {p : Phase} (q : Query p) : Type 0 where
  pub declarations : BuiltDeclarations q.declarations
  pub body : Built q.body
  pub apart : all_differ (places q.declarations) ≡ true
