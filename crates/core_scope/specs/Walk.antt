-- What is told of an expression: what it refuses where it stands, which declared functions it calls, and to which of the
-- prolog's variables it refers.
use Rattle.std.specs.Prelude.{ℕ, Bool, true, false, cond, List, [], ◌∷◌, ◌++◌, Option, Some, None}
use Rattle.xq_base.specs.declared.code.Code.{Code}
use Rattle.xq_base.specs.declared.code.Code.TheVariants as code
use Rattle.xq_base.specs.declared.fun.AtomKind.{AtomKind}
use Rattle.xq_base.specs.Texts.{Text, text_eq}
use Rattle.xq_ast.specs.declared.leaf.Name.{Name}
use Rattle.xq_ast.specs.declared.leaf.Callee.{Callee}
use Rattle.xq_ast.specs.declared.leaf.Callee.TheVariants as callee
use Rattle.xq_ast.specs.declared.leaf.ReadType.{ReadType}
use Rattle.xq_ast.specs.declared.leaf.ReadType.TheVariants as t
use Rattle.xq_ast.specs.declared.leaf.ReadItem.{ReadItem}
use Rattle.xq_ast.specs.declared.leaf.ReadItem.TheVariants as i
use Rattle.core_scope.specs.declared.names.Visible.{Visible}
use Rattle.core_scope.specs.declared.refusal.Refusal.{Refusal}
use Rattle.core_scope.specs.declared.found.DeclaredCall.{DeclaredCall}
use Rattle.core_scope.specs.Syn.{Syn, Syns, Maybe, Binds, Keys, BuildName, Attributes, Values, Parts, read, how_many}
use Rattle.core_scope.specs.Syn as s
use Rattle.core_scope.specs.TypeNames.{atom_kind, item_named, cast_code}
use Rattle.core_scope.specs.Literals.{is_wide}
use Rattle.core_scope.specs.Names.{Scope, with_local, behind_for, behind_binds, Signature, function_of, is_there, is_among}

abbrev pub refused : Code → ℕ → Refusal
refused c o = record { code = c; offset = o }

-- a call of a declared function has its place and the function's number
pub record Facts : Type 0 where
  pub refusals : List Refusal
  pub calls : List DeclaredCall
  pub refers : List ℕ

abbrev pub nothing : Facts
nothing = record { refusals = []; calls = []; refers = [] }

infixr 8 ◌with◌
abbrev pub ◌with◌ : Facts → Facts → Facts
f with g = record { refusals = f.refusals ++ g.refusals; calls = f.calls ++ g.calls; refers = f.refers ++ g.refers }

abbrev pub amiss : Code → ℕ → Facts
amiss c o = record { refusals = refused c o ∷ []; calls = []; refers = [] }

abbrev pub amiss_where : Bool → Code → ℕ → Facts
amiss_where b c o = cond b (amiss c o) nothing

abbrev pub refers_to : Option ℕ → Facts
refers_to None = nothing
refers_to (Some j) = record { refusals = []; calls = []; refers = j ∷ [] }

-- a reference to a variable that isn't visible is XPST0008 at its "$"
abbrev pub reference : Option Visible → ℕ → Facts
reference None o = amiss code.XPST0008 o
reference (Some v) o = refers_to v.number

-- a call of no function is XPST0017 at the call
abbrev pub call_facts : Option Callee → ℕ → Facts
call_facts None o = amiss code.XPST0017 o
call_facts (Some (callee.Known f)) o = nothing
call_facts (Some (callee.Declared j)) o = record { refusals = []; calls = record { offset = o; function = j } ∷ []; refers = [] }

-- the variable of a position that has the name of the bound variable is XQST0089 at its "$" (XQuery 1.0, section 3.8.1)
abbrev pub position_facts : Text → Option (ℕ × Text) → Facts
position_facts x None = nothing
position_facts x (Some v) = amiss_where (text_eq x v.1) code.XQST0089 v.0

-- the name of no type is XPST0051 (section 2.5.3)
abbrev pub item_facts : ReadItem → Facts
item_facts i.Any = nothing
item_facts (i.Kind k) = nothing
item_facts (i.Named x) = cond (is_there (item_named x.text)) nothing (amiss code.XPST0051 x.offset)

abbrev pub type_facts : ReadType → Facts
type_facts (t.Empty o) = nothing
type_facts (t.Of o item occurs) = item_facts item

abbrev pub bind_type_facts : Option ReadType → Facts
bind_type_facts None = nothing
bind_type_facts (Some ty) = type_facts ty

-- a type that nothing is cast to is XPST0080, the name of no type XPST0051 (sections 3.12.2 and 3.12.3)
abbrev pub cast_facts : Name Text → Facts
cast_facts x = cond (is_there (atom_kind x.text)) nothing (amiss (cast_code x.text) x.offset)

-- the functions that are declared
module _ (fs : List Signature) where
  unfoldable mutual
    pub walk : Syn read → Scope → Facts
    walk (s.comma o a es) sc = walk a sc with walk_all es sc
    walk (s.flwor o bs w ks e) sc =
        walk_binds bs sc with walk_maybe w (behind_binds bs sc) with walk_keys ks (behind_binds bs sc) with walk e (behind_binds bs sc)
    walk (s.quantified o q bs e) sc = walk_binds bs sc with walk e (behind_binds bs sc)
    walk (s.conditional o a b d) sc = walk a sc with walk b sc with walk d sc
    walk (s.binary o f a b) sc = walk a sc with walk b sc
    walk (s.signed o g a) sc = walk a sc
    walk (s.instance o a ty) sc = walk a sc with type_facts ty
    walk (s.treat o a ty) sc = walk a sc with type_facts ty
    walk (s.castable o a k m) sc = walk a sc with cast_facts k
    walk (s.cast o a k m) sc = walk a sc with cast_facts k
    walk (s.root o) sc = nothing
    walk (s.step o x test a qs) sc = walk_maybe a sc with walk_all qs sc
    walk (s.through o a b) sc = walk a sc with walk b sc
    walk (s.filtered o a qs) sc = walk a sc with walk_all qs sc
    -- an integer that is too wide is FOAR0002 (section 3.1.1)
    walk (s.integer o n) sc = amiss_where (is_wide n) code.FOAR0002 o
    walk (s.text o x) sc = nothing
    walk (s.var o x) sc = reference (sc x) o
    walk (s.paren o e) sc = walk_maybe e sc
    walk (s.dot o) sc = nothing
    walk (s.call o f es) sc = call_facts (function_of fs f (how_many es)) o with walk_all es sc
    walk (s.build o k n e) sc = walk_name n sc with walk_maybe e sc
    walk (s.element o n as' ps) sc = walk_attributes as' [] sc with walk_parts ps sc
    walk (s.comment o x) sc = nothing
    walk (s.instruction o n x) sc = nothing

    pub walk_all : Syns read → Scope → Facts
    walk_all s.no_more sc = nothing
    walk_all (s.one_more e es) sc = walk e sc with walk_all es sc

    pub walk_maybe : Maybe read → Scope → Facts
    walk_maybe s.absent sc = nothing
    walk_maybe (s.present e) sc = walk e sc

    -- a variable is visible in the later binds, not in its own
    pub walk_binds : Binds read → Scope → Facts
    walk_binds s.no_binds sc = nothing
    walk_binds (s.for_bind o x ty at e bs) sc =
        bind_type_facts ty with position_facts x at with walk e sc with walk_binds bs (behind_for o x at sc)
    walk_binds (s.let_bind o x ty e bs) sc = bind_type_facts ty with walk e sc with walk_binds bs (with_local o x sc)

    pub walk_keys : Keys read → Scope → Facts
    walk_keys s.no_keys sc = nothing
    walk_keys (s.one_key e down greatest ks) sc = walk e sc with walk_keys ks sc

    pub walk_name : BuildName read → Scope → Facts
    walk_name s.no_name sc = nothing
    walk_name (s.named n) sc = nothing
    walk_name (s.computed e) sc = walk e sc

    -- the names before; one that repeats is XQST0040 (section 3.7.1.1)
    pub walk_attributes : Attributes read → List Text → Scope → Facts
    walk_attributes s.no_attributes before sc = nothing
    walk_attributes (s.attribute o n vs as') before sc =
        amiss_where (is_among before n) code.XQST0040 o with walk_values vs sc with walk_attributes as' (n ∷ before) sc

    pub walk_values : Values read → Scope → Facts
    walk_values s.no_values sc = nothing
    walk_values (s.value_run w vs) sc = walk_values vs sc
    walk_values (s.value_brace e vs) sc = walk e sc with walk_values vs sc

    pub walk_parts : Parts read → Scope → Facts
    walk_parts s.no_parts sc = nothing
    walk_parts (s.run r ps) sc = walk_parts ps sc
    walk_parts (s.brace e ps) sc = walk e sc with walk_parts ps sc
    walk_parts (s.inner e ps) sc = walk e sc with walk_parts ps sc
