-- How large the Core of a resolved expression is, found without the Core, form by form.
use Rattle.std.specs.Prelude.{ℕ, ◌&&◌, Bool, true, false, cond, List, [], ◌∷◌}
use Rattle.xq_ast.specs.declared.leaf.Callee.{Callee}
use Rattle.xq_ast.specs.declared.leaf.Callee.TheVariants as callee
use Rattle.core_scope.specs.Syn.{Syn, Syns, Maybe, Binds, Keys, BuildName, Attributes, Values, Parts, resolved}
use Rattle.core_scope.specs.Syn as s
use Rattle.core_normal.specs.Sizes.{Size, nothing, beside, over, FunSize, leaf, one, two, three, boolean, root, selected, for_each_node, tested, tested_bind, counted, with_params, built_in_call, chain, sequence, value_of, text_node, operand, signed_size}

-- the declared functions' sizes
module _ (funs : ℕ → FunSize) where
  abbrev pub called : Callee → List Size → Size
  called (callee.Known f) as' = built_in_call f as'
  called (callee.Declared k) as' = with_params ((funs k).types) as' ((funs k).body)

  unfoldable mutual
    pub sized : Syn resolved → Size
    sized (s.comma o a es) = chain (sized a) (sized_all es)
    sized (s.flwor o bs w s.no_keys e) = nested bs (guarded w (sized e))
    sized (s.flwor o bs w (s.one_key k d g ks) e) =
        over (beside (sorted bs (where_bind w)) (beside (beside (sized k) (sized_keys ks)) (sized e)))
    sized (s.quantified o w bs e) = over (one (nested bs (over (three (boolean (sized e)) leaf leaf))))
    sized (s.conditional o e a b) = over (three (boolean (sized e)) (sized a) (sized b))
    sized (s.binary o f a b) = over (two (operand f (sized a)) (operand f (sized b)))
    sized (s.signed o g a) = signed_size g (sized a)
    sized (s.instance o a t) = over (sized a)
    sized (s.treat o a t) = over (sized a)
    sized (s.castable o a k m) = over (sized a)
    sized (s.cast o a k m) = over (sized a)
    sized (s.root o) = root
    sized (s.step o x t s.absent s.no_more) = over leaf
    sized (s.step o x t s.absent (s.one_more q qs)) = over (one (predicates qs (selected (counted x (over leaf)) (sized q))))
    sized (s.step o x t (s.present a) s.no_more) = over (sized a)
    sized (s.step o x t (s.present a) (s.one_more q qs)) =
        over (one (over (beside (sized a) (predicates qs (selected (counted x (over leaf)) (sized q))))))
    sized (s.through o a m) = for_each_node (sized a) (sized m)
    sized (s.filtered o a qs) = predicates qs (sized a)
    sized (s.integer o n) = leaf
    sized (s.text o t) = leaf
    sized (s.var o v) = leaf
    sized (s.paren o s.absent) = leaf
    sized (s.paren o (s.present e)) = sized e
    sized (s.dot o) = leaf
    sized (s.call o f es) = called f (sized_all es)
    sized (s.build o b n e) = over (beside (sized_name n) (content e))
    sized (s.element o n as' ps) = over (beside (one leaf) (sequence (sized_attributes as' (sized_parts ps false))))
    sized (s.comment o t) = over (beside nothing leaf)
    sized (s.instruction o n t) = over (beside (one leaf) leaf)

    pub sized_all : Syns resolved → List Size
    sized_all s.no_more = []
    sized_all (s.one_more e es) = sized e ∷ sized_all es

    pub nested : Binds resolved → Size → Size
    nested s.no_binds last = last
    nested (s.for_bind i v t at e bs) last = over (beside (sized e) (tested t (nested bs last)))
    nested (s.let_bind i v t e bs) last = over (beside (sized e) (tested t (nested bs last)))

    pub sorted : Binds resolved → Size → Size
    sorted s.no_binds last = last
    sorted (s.for_bind i v t at e bs) last = beside (sized e) (tested_bind t (sorted bs last))
    sorted (s.let_bind i v t e bs) last = beside (sized e) (tested_bind t (sorted bs last))

    pub guarded : Maybe resolved → Size → Size
    guarded s.absent e = e
    guarded (s.present a) e = over (three (boolean (sized a)) e leaf)

    pub where_bind : Maybe resolved → Size
    where_bind s.absent = nothing
    where_bind (s.present a) = beside (boolean (sized a)) nothing

    pub sized_keys : Keys resolved → Size
    sized_keys s.no_keys = nothing
    sized_keys (s.one_key e d g ks) = beside (sized e) (sized_keys ks)

    pub predicates : Syns resolved → Size → Size
    predicates s.no_more e = e
    predicates (s.one_more q qs) e = predicates qs (selected e (sized q))

    pub sized_name : BuildName resolved → Size
    sized_name s.no_name = nothing
    sized_name (s.named n) = one leaf
    sized_name (s.computed e) = one (sized e)

    pub content : Maybe resolved → Size
    content s.absent = leaf
    content (s.present e) = sized e

    pub sized_attributes : Attributes resolved → List Size → List Size
    sized_attributes s.no_attributes rest = rest
    sized_attributes (s.attribute i n vs as') rest = over (beside (one leaf) (value_of (sized_values vs))) ∷ sized_attributes as' rest

    pub sized_values : Values resolved → List Size
    sized_values s.no_values = []
    sized_values (s.value_run t vs) = leaf ∷ sized_values vs
    sized_values (s.value_brace e vs) = over (one (sized e)) ∷ sized_values vs

    pub sized_parts : Parts resolved → Bool → List Size
    sized_parts s.no_parts behind = []
    sized_parts (s.run t ps) behind =
        cond t.is_boundary (sized_parts ps (t.is_boundary && behind)) (text_node ∷ sized_parts ps (t.is_boundary && behind))
    sized_parts (s.brace e ps) behind = cond behind (text_node ∷ sized e ∷ sized_parts ps true) (sized e ∷ sized_parts ps true)
    sized_parts (s.inner e ps) behind = sized e ∷ sized_parts ps false
