-- The Core of a resolved expression (Formal Semantics, section 4), form by form.
use Rattle.std.specs.Prelude.{ℕ, ◌&&◌, Bool, true, false, cond, Option, Some, None, []}
use Rattle.xq_base.specs.declared.fun.Fun.TheVariants as fun
use Rattle.xq_base.specs.Atoms.{IntAtom}
use Rattle.doc_table.specs.Tree.{AttributeNode, ElementNode, CommentNode, InstructionNode}
use Rattle.core_meaning.specs.declared.node.StepFrom.TheVariants as start
use Rattle.core_meaning.specs.Types.{SequenceTest}
use Rattle.core_meaning.specs.PlainCore.{PlainCore, PlainCores}
use Rattle.core_meaning.specs.PlainCore as c
use Rattle.xq_ast.specs.declared.leaf.Callee.{Callee}
use Rattle.xq_ast.specs.declared.leaf.Callee.TheVariants as callee
use Rattle.core_scope.specs.Syn.{Syn, Syns, Maybe, Binds, Keys, BuildName, Attributes, Values, Parts, resolved, place_of}
use Rattle.core_scope.specs.Syn as s
use Rattle.core_normal.specs.Fresh.{Makes, give, fresh, ◌▷=◌}
use Rattle.core_normal.specs.Around.{Focus, Around, found, known, focused}
use Rattle.core_normal.specs.Pieces.{boolean, ordered, text_lit, node_kind, counted, dot_at, root_at, selected, for_each_node, built_in_call, Inlined, inlined, chain, sequence, value_of, text_node, witness, quantified, fun_of, operand, signed_core, tested, tested_bind, Tail, led_by, sorted_core, one, two}

-- the variable of a bind: a new one where the first is tested
unfoldable pub bound : ℕ → Option SequenceTest → ℕ → Makes ℕ
bound base None y = give y
bound base (Some t) y = fresh base

unfoldable pub with_place : Option (ℕ × ℕ) → ℕ → Around → Around
with_place None p r = r
with_place (Some v) p r = known v.1 p r

-- the result, where a condition may stand before it
abbrev pub guarded : ℕ → Makes PlainCore → Makes PlainCore → Makes PlainCore
guarded o w r = w ▷= λ a. r ▷= λ b. give (c.If o a b (c.Empty o))

-- a predicate over a Core
abbrev pub predicate : ℕ → (Around → Makes PlainCore) → ℕ → PlainCore → Around → Makes PlainCore
predicate base p o e r =
    fresh base ▷= λ y. fresh base ▷= λ last. fresh base ▷= λ dot. fresh base ▷= λ place. fresh base ▷= λ v.
    p (focused dot place last r) ▷= λ a. give (selected o e y last dot place v a)

-- new variables stand from `base` on; `bodies` makes the body of a declared function anew
module _ (base : ℕ) (bodies : ℕ → Makes Inlined) where
  abbrev pub called : ℕ → Callee → PlainCores → Option Focus → Makes PlainCore
  called o (callee.Known f) as' focus = give (built_in_call o f as' focus)
  called o (callee.Declared k) as' focus = bodies k ▷= λ f. give (inlined o f as')

  unfoldable mutual
    pub norm : Syn resolved → Around → Makes PlainCore
    norm (s.comma o a es) r = norm a r ▷= λ e. norm_all es r ▷= λ more. give (chain o e more)
    norm (s.flwor o bs w s.no_keys e) r = nested bs o (λ q. norm_where w o (norm e) q) r
    norm (s.flwor o bs w (s.one_key k d g ks) e) r =
        sorted bs (λ q. sorted_where w q ▷= λ f. norm k q ▷= λ a. norm_keys ks q ▷= λ more. norm e q ▷= λ b.
        give (led_by f (record { binds = c.no_binds; keys = c.one_key (c.key_by a d g) more; body = b }))) r
        ▷= λ t. give (sorted_core o t)
    norm (s.quantified o w bs e) r =
        nested bs o (λ q. norm e q ▷= λ a. give (witness o w (boolean (place_of e) a))) r
        ▷= λ a. give (quantified o w a)
    norm (s.conditional o e a b) r =
        norm e r ▷= λ x. norm a r ▷= λ y. norm b r ▷= λ z. give (c.If o (boolean (place_of e) x) y z)
    norm (s.binary o f a b) r =
        norm a r ▷= λ x. norm b r ▷= λ y. give (c.Call o (fun_of f) (two (operand f (place_of a) x) (operand f (place_of b) y)))
    norm (s.signed o g a) r = norm a r ▷= λ x. give (signed_core o g x)
    norm (s.instance o a t) r = norm a r ▷= λ x. give (c.Instance o x t)
    norm (s.treat o a t) r = norm a r ▷= λ x. give (c.Treat o x t)
    norm (s.castable o a k m) r = norm a r ▷= λ x. give (c.Castable o x k m)
    norm (s.cast o a k m) r = norm a r ▷= λ x. give (c.Cast o x k m)
    norm (s.root o) r = give (root_at o r.focus)
    norm (s.step o x t s.absent s.no_more) r = give (c.Step o start.Dot x t (dot_at o r.focus))
    norm (s.step o x t s.absent (s.one_more p ps)) r =
        predicate base (norm p) o (counted o x (c.Step o start.Dot x t (dot_at o r.focus))) r
        ▷= λ e. predicates ps o e r ▷= λ a. give (ordered o a)
    norm (s.step o x t (s.present a) s.no_more) r = norm a r ▷= λ e. give (c.Step o start.Path x t e)
    norm (s.step o x t (s.present a) (s.one_more p ps)) r =
        norm a r ▷= λ e. fresh base ▷= λ d. fresh base ▷= λ q.
        predicate base (norm p) o (counted o x (c.Step o start.Path x t (c.Var o d))) r
        ▷= λ b. predicates ps o b r ▷= λ b. give (ordered o (c.For o d q e b))
    norm (s.through o a m) r =
        norm a r ▷= λ e. fresh base ▷= λ y. fresh base ▷= λ last. fresh base ▷= λ dot. fresh base ▷= λ place.
        norm m (focused dot place last r) ▷= λ b. give (for_each_node o e y last dot place b)
    norm (s.filtered o a ps) r = norm a r ▷= λ e. predicates ps o e r
    norm (s.integer o n) r = give (c.Lit o (IntAtom n))
    norm (s.text o t) r = give (text_lit o t)
    norm (s.var o v) r = give (c.Var o (found r.env v))
    norm (s.paren o s.absent) r = give (c.Empty o)
    norm (s.paren o (s.present e)) r = norm e r
    norm (s.dot o) r = give (dot_at o r.focus)
    norm (s.call o f es) r = norm_all es r ▷= λ as'. called o f as' r.focus
    norm (s.build o b n e) r = norm_name n o r ▷= λ x. norm_content e o r ▷= λ a. give (c.Build o (node_kind b) x a)
    norm (s.element o n as' ps) r =
        norm_attributes as' r (λ q. norm_parts ps false o q) ▷= λ es. give (c.Build o ElementNode (one (text_lit o n)) (sequence o es))
    norm (s.comment o t) r = give (c.Build o CommentNode c.no_cores (text_lit o t))
    norm (s.instruction o n t) r = give (c.Build o InstructionNode (one (text_lit o n)) (text_lit o t))

    pub norm_all : Syns resolved → Around → Makes PlainCores
    norm_all s.no_more r = give c.no_cores
    norm_all (s.one_more e es) r = norm e r ▷= λ a. norm_all es r ▷= λ as'. give (c.one_core a as')

    -- loops and bindings round what follows; the later binds stand in the scope of the earlier
    pub nested : Binds resolved → ℕ → (Around → Makes PlainCore) → Around → Makes PlainCore
    nested s.no_binds o last r = last r
    nested (s.for_bind i v t at e bs) o last r =
        norm e r ▷= λ a. fresh base ▷= λ y. fresh base ▷= λ p. bound base t y ▷= λ x.
        nested bs o last (known v x (with_place at p r)) ▷= λ b. give (c.For o y p a (tested (place_of e) t y x b))
    nested (s.let_bind i v t e bs) o last r =
        norm e r ▷= λ a. fresh base ▷= λ y. bound base t y ▷= λ x.
        nested bs o last (known v x r) ▷= λ b. give (c.Let o y a (tested (place_of e) t y x b))

    -- the same in front of the parts of a sorted loop
    pub sorted : Binds resolved → (Around → Makes Tail) → Around → Makes Tail
    sorted s.no_binds last r = last r
    sorted (s.for_bind i v t at e bs) last r =
        norm e r ▷= λ a. fresh base ▷= λ y. fresh base ▷= λ p. bound base t y ▷= λ x.
        sorted bs last (known v x (with_place at p r))
        ▷= λ b. give (led_by (λ ts. c.one_bind (c.for_bind y p a) (tested_bind (place_of e) t y x ts)) b)
    sorted (s.let_bind i v t e bs) last r =
        norm e r ▷= λ a. fresh base ▷= λ y. bound base t y ▷= λ x.
        sorted bs last (known v x r) ▷= λ b. give (led_by (λ ts. c.one_bind (c.let_bind y a) (tested_bind (place_of e) t y x ts)) b)

    pub norm_where : Maybe resolved → ℕ → (Around → Makes PlainCore) → Around → Makes PlainCore
    norm_where s.absent o result r = result r
    norm_where (s.present e) o result r = guarded o (norm e r ▷= λ a. give (boolean (place_of e) a)) (result r)

    pub sorted_where : Maybe resolved → Around → Makes (c.Binds → c.Binds)
    sorted_where s.absent r = give (λ ts. ts)
    sorted_where (s.present e) r = norm e r ▷= λ a. give (λ ts. c.one_bind (c.where_bind (boolean (place_of e) a)) ts)

    pub norm_keys : Keys resolved → Around → Makes c.Keys
    norm_keys s.no_keys r = give c.no_keys
    norm_keys (s.one_key e d g ks) r = norm e r ▷= λ a. norm_keys ks r ▷= λ more. give (c.one_key (c.key_by a d g) more)

    pub predicates : Syns resolved → ℕ → PlainCore → Around → Makes PlainCore
    predicates s.no_more o e r = give e
    predicates (s.one_more p ps) o e r = predicate base (norm p) o e r ▷= λ a. predicates ps o a r

    pub norm_name : BuildName resolved → ℕ → Around → Makes PlainCores
    norm_name s.no_name o r = give c.no_cores
    norm_name (s.named n) o r = give (one (text_lit o n))
    norm_name (s.computed e) o r = norm e r ▷= λ a. give (one a)

    pub norm_content : Maybe resolved → ℕ → Around → Makes PlainCore
    norm_content s.absent o r = give (c.Empty o)
    norm_content (s.present e) o r = norm e r

    -- attributes, and behind them the parts of the content
    pub norm_attributes : Attributes resolved → Around → (Around → Makes PlainCores) → Makes PlainCores
    norm_attributes s.no_attributes r rest = rest r
    norm_attributes (s.attribute o n vs as') r rest =
        norm_values vs o r ▷= λ parts. norm_attributes as' r rest ▷= λ more.
        give (c.one_core (c.Build o AttributeNode (one (text_lit o n)) (value_of o parts)) more)

    pub norm_values : Values resolved → ℕ → Around → Makes PlainCores
    norm_values s.no_values o r = give c.no_cores
    norm_values (s.value_run t vs) o r = norm_values vs o r ▷= λ more. give (c.one_core (text_lit o t) more)
    norm_values (s.value_brace e vs) o r =
        norm e r ▷= λ a. norm_values vs o r ▷= λ more. give (c.one_core (c.Call o fun.ContentText (one a)) more)

    -- content, behind a brace or not: boundary space is dropped, and an empty text keeps neighbouring braces apart
    pub norm_parts : Parts resolved → Bool → ℕ → Around → Makes PlainCores
    norm_parts s.no_parts behind o r = give c.no_cores
    norm_parts (s.run t ps) behind o r =
        norm_parts ps (t.is_boundary && behind) o r ▷= λ more. give (cond t.is_boundary more (c.one_core (text_node o t.text) more))
    norm_parts (s.brace e ps) behind o r =
        norm e r ▷= λ a. norm_parts ps true o r ▷= λ more.
        give (cond behind (c.one_core (text_node o []) (c.one_core a more)) (c.one_core a more))
    norm_parts (s.inner e ps) behind o r = norm e r ▷= λ a. norm_parts ps false o r ▷= λ more. give (c.one_core a more)
