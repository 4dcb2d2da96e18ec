-- The resolved form of an expression: each variable is the place of its binding, each call has its function, each name of a
-- type its type, and neighbouring pieces of content or of a value are one text. What is refused has some form here.
use Rattle.std.specs.Prelude.{ℕ, Bool, true, false, ◌&&◌, cond, List, [], ◌∷◌, ◌++◌, Option, Some, None}
use Rattle.xq_base.specs.declared.fun.AtomKind.{AtomKind}
use Rattle.xq_base.specs.declared.fun.AtomKind.TheVariants as k
use Rattle.xq_base.specs.Texts.{Text}
use Rattle.core_meaning.specs.Types.{ItemTest, AnyItem, NodeOf, SequenceTest, NoItems, ItemsOf}
use Rattle.xq_ast.specs.declared.leaf.Callee.{Callee}
use Rattle.xq_ast.specs.declared.leaf.Callee.TheVariants as callee
use Rattle.xq_ast.specs.declared.leaf.ReadType.{ReadType}
use Rattle.xq_ast.specs.declared.leaf.ReadType.TheVariants as t
use Rattle.xq_ast.specs.declared.leaf.ReadItem.{ReadItem}
use Rattle.xq_ast.specs.declared.leaf.ReadItem.TheVariants as i
use Rattle.core_scope.specs.Syn.{Syn, Syns, Maybe, Binds, Keys, BuildName, Attributes, Values, Parts, TextRun, read, resolved, how_many}
use Rattle.core_scope.specs.Syn as s
use Rattle.core_scope.specs.Erasure.{kind_test_of}
use Rattle.core_scope.specs.Leaves.{occurs_of}
use Rattle.core_scope.specs.TypeNames.{atom_kind, item_named}
use Rattle.core_scope.specs.Literals.{integer_of, content_text, is_white_piece, value_text}
use Rattle.core_scope.specs.Names.{Scope, with_local, place_in, behind_for, behind_binds, Signature, function_of}

abbrev pub callee_or_first : Option Callee → Callee
callee_or_first None = callee.Declared 0
callee_or_first (Some f) = f

abbrev pub kind_or_integer : Option AtomKind → AtomKind
kind_or_integer None = k.Integer
kind_or_integer (Some kind) = kind

abbrev pub item_or_any : Option ItemTest → ItemTest
item_or_any None = AnyItem
item_or_any (Some x) = x

abbrev pub resolved_item : ReadItem → ItemTest
resolved_item i.Any = AnyItem
resolved_item (i.Kind test) = NodeOf (kind_test_of (λ x. x) test)
resolved_item (i.Named x) = item_or_any (item_named x.text)

abbrev pub resolved_type : ReadType → SequenceTest
resolved_type (t.Empty o) = NoItems
resolved_type (t.Of o item occurs) = ItemsOf (resolved_item item) (occurs_of occurs)

abbrev pub resolved_types : Option ReadType → Option SequenceTest
resolved_types None = None
resolved_types (Some ty) = Some (resolved_type ty)

abbrev pub resolved_position : Option (ℕ × Text) → Option (ℕ × ℕ)
resolved_position None = None
resolved_position (Some v) = Some (v.0, v.0)

-- a piece of content before other parts: it is one run with the pieces that follow it directly
abbrev pub with_piece : Text → Bool → Parts resolved → Parts resolved
with_piece x is_white (s.run r ps) = s.run (record { text = x ++ r.text; is_boundary = is_white && r.is_boundary }) ps
with_piece x is_white ps = s.run (record { text = x; is_boundary = is_white }) ps

-- the same in a value
abbrev pub with_value : Text → Values resolved → Values resolved
with_value x (s.value_run y vs) = s.value_run (x ++ y) vs
with_value x vs = s.value_run x vs

-- the functions that are declared
module _ (fs : List Signature) where
  unfoldable mutual
    pub resolve : Syn read → Scope → Syn resolved
    resolve (s.comma o a es) sc = s.comma o (resolve a sc) (resolve_all es sc)
    resolve (s.flwor o bs w ks e) sc =
        s.flwor o (resolve_binds bs sc) (resolve_maybe w (behind_binds bs sc)) (resolve_keys ks (behind_binds bs sc)) (resolve e (behind_binds bs sc))
    resolve (s.quantified o q bs e) sc = s.quantified o q (resolve_binds bs sc) (resolve e (behind_binds bs sc))
    resolve (s.conditional o a b d) sc = s.conditional o (resolve a sc) (resolve b sc) (resolve d sc)
    resolve (s.binary o f a b) sc = s.binary o f (resolve a sc) (resolve b sc)
    resolve (s.signed o g a) sc = s.signed o g (resolve a sc)
    resolve (s.instance o a ty) sc = s.instance o (resolve a sc) (resolved_type ty)
    resolve (s.treat o a ty) sc = s.treat o (resolve a sc) (resolved_type ty)
    resolve (s.castable o a x m) sc = s.castable o (resolve a sc) (kind_or_integer (atom_kind x.text)) m
    resolve (s.cast o a x m) sc = s.cast o (resolve a sc) (kind_or_integer (atom_kind x.text)) m
    resolve (s.root o) sc = s.root o
    resolve (s.step o x test a qs) sc = s.step o x test (resolve_maybe a sc) (resolve_all qs sc)
    resolve (s.through o a b) sc = s.through o (resolve a sc) (resolve b sc)
    resolve (s.filtered o a qs) sc = s.filtered o (resolve a sc) (resolve_all qs sc)
    resolve (s.integer o n) sc = s.integer o (integer_of n)
    resolve (s.text o x) sc = s.text o x
    resolve (s.var o x) sc = s.var o (place_in (sc x))
    resolve (s.paren o e) sc = s.paren o (resolve_maybe e sc)
    resolve (s.dot o) sc = s.dot o
    resolve (s.call o f es) sc = s.call o (callee_or_first (function_of fs f (how_many es))) (resolve_all es sc)
    resolve (s.build o kind n e) sc = s.build o kind (resolve_name n sc) (resolve_maybe e sc)
    resolve (s.element o n as' ps) sc = s.element o n (resolve_attributes as' sc) (resolve_parts ps sc)
    resolve (s.comment o x) sc = s.comment o x
    resolve (s.instruction o n x) sc = s.instruction o n x

    pub resolve_all : Syns read → Scope → Syns resolved
    resolve_all s.no_more sc = s.no_more
    resolve_all (s.one_more e es) sc = s.one_more (resolve e sc) (resolve_all es sc)

    pub resolve_maybe : Maybe read → Scope → Maybe resolved
    resolve_maybe s.absent sc = s.absent
    resolve_maybe (s.present e) sc = s.present (resolve e sc)

    pub resolve_binds : Binds read → Scope → Binds resolved
    resolve_binds s.no_binds sc = s.no_binds
    resolve_binds (s.for_bind o x ty at e bs) sc =
        s.for_bind o o (resolved_types ty) (resolved_position at) (resolve e sc) (resolve_binds bs (behind_for o x at sc))
    resolve_binds (s.let_bind o x ty e bs) sc = s.let_bind o o (resolved_types ty) (resolve e sc) (resolve_binds bs (with_local o x sc))

    pub resolve_keys : Keys read → Scope → Keys resolved
    resolve_keys s.no_keys sc = s.no_keys
    resolve_keys (s.one_key e down greatest ks) sc = s.one_key (resolve e sc) down greatest (resolve_keys ks sc)

    pub resolve_name : BuildName read → Scope → BuildName resolved
    resolve_name s.no_name sc = s.no_name
    resolve_name (s.named n) sc = s.named n
    resolve_name (s.computed e) sc = s.computed (resolve e sc)

    pub resolve_attributes : Attributes read → Scope → Attributes resolved
    resolve_attributes s.no_attributes sc = s.no_attributes
    resolve_attributes (s.attribute o n vs as') sc = s.attribute o n (resolve_values vs sc) (resolve_attributes as' sc)

    pub resolve_values : Values read → Scope → Values resolved
    resolve_values s.no_values sc = s.no_values
    resolve_values (s.value_run w vs) sc = with_value (value_text w) (resolve_values vs sc)
    resolve_values (s.value_brace e vs) sc = s.value_brace (resolve e sc) (resolve_values vs sc)

    pub resolve_parts : Parts read → Scope → Parts resolved
    resolve_parts s.no_parts sc = s.no_parts
    resolve_parts (s.run r ps) sc = with_piece (content_text r) (is_white_piece r) (resolve_parts ps sc)
    resolve_parts (s.brace e ps) sc = s.brace (resolve e sc) (resolve_parts ps sc)
    resolve_parts (s.inner e ps) sc = s.inner (resolve e sc) (resolve_parts ps sc)
