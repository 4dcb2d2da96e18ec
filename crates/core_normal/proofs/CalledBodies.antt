-- The Core of an expression depends only on the bodies of the functions that it calls.
use Rattle.std.proofs.Common.{◌≡◌, refl, ap, ℕ, ◌+◌, Bool, false, Option, List, [], ◌∷◌, ◌++◌, arith}
use Rattle.std.proofs.lemmas.List.Elements.{Contains-append_left, Contains-append_right}
use Rattle.xq_base.specs.Texts.{Text}
use Rattle.doc_table.specs.Tree.{ElementNode}
use Rattle.core_meaning.specs.PlainCore.{PlainCore, PlainCores}
use Rattle.core_meaning.specs.PlainCore as c
use Rattle.xq_ast.specs.declared.leaf.Callee.{Callee}
use Rattle.xq_ast.specs.declared.leaf.Callee.TheVariants as callee
use Rattle.core_scope.specs.Syn.{Syn, Syns, Maybe, Binds, Keys, BuildName, Attributes, Values, Parts, Declaration, resolved}
use Rattle.core_scope.specs.Syn as s
use Rattle.core_normal.specs.Fresh.{Made, Makes}
use Rattle.core_normal.specs.Around.{Env, Focus, Around, outside}
use Rattle.core_normal.specs.Pieces as n
use Rattle.core_normal.specs.Pieces.{Inlined, Tail}
use Rattle.core_normal.specs.Normal as nf
use Rattle.core_normal.specs.Normal.{norm}
use Rattle.core_normal.specs.Calls.{called_by, calls_in, calls_all, calls_maybe, calls_binds, calls_keys, calls_name, calls_attributes, calls_values, calls_parts}
use Rattle.core_normal.specs.Ordered.{SameFor, main_calls}
use Rattle.core_normal.specs.Query.{Function, body_of, prolog}

-- what is done with the same is the same
abbrev over_made : (PlainCore → PlainCore) → Made PlainCore → Made PlainCore
over_made f x = record { made = f x.made; next = x.next }

abbrev over_tail : ℕ → Made Tail → Made PlainCore
over_tail o x = record { made = n.sorted_core o x.made; next = x.next }

abbrev over_parts : ℕ → Text → Made PlainCores → Made PlainCore
over_parts o t x = record { made = c.Build o ElementNode (n.one (n.text_lit o t)) (n.sequence o x.made); next = x.next }

module _ (base : ℕ) (b b' : ℕ → Makes Inlined) where
  left : (xs ys : List ℕ) → SameFor b b' (xs ++ ys) → SameFor b b' xs
  left xs ys same k h = same k (Contains-append_left xs ys k h)

  right : (xs ys : List ℕ) → SameFor b b' (xs ++ ys) → SameFor b b' ys
  right xs ys same k h = same k (Contains-append_right xs ys k h)

  called_same : (o : ℕ) (f : Callee) → SameFor b b' (called_by f) → (as' : PlainCores) (g : Option Focus) (m : ℕ) →
      nf.called base b o f as' g m ≡ nf.called base b' o f as' g m
  called_same o (callee.Known f) same as' g m = refl
  called_same o (callee.Declared k) same as' g m = ap (λ x. record { made = n.inlined o x.made as'; next = x.next }) (same k (0, omega arith, refl) m)

  abbrev Like : {A : Type 0} → (Around → Makes A) → (Around → Makes A) → Type 0
  Like last last' = (r : Around) (m : ℕ) → last r m ≡ last' r m

  -- the parts of a FLWOR: binds, condition, keys, result
  binds_part : (xs ys zs ws : List ℕ) → SameFor b b' (((xs ++ ys) ++ zs) ++ ws) → SameFor b b' xs
  binds_part xs ys zs ws same = left xs ys (left (xs ++ ys) zs (left ((xs ++ ys) ++ zs) ws same))

  where_part : (xs ys zs ws : List ℕ) → SameFor b b' (((xs ++ ys) ++ zs) ++ ws) → SameFor b b' ys
  where_part xs ys zs ws same = right xs ys (left (xs ++ ys) zs (left ((xs ++ ys) ++ zs) ws same))

  keys_part : (xs ys zs ws : List ℕ) → SameFor b b' (((xs ++ ys) ++ zs) ++ ws) → SameFor b b' zs
  keys_part xs ys zs ws same = right (xs ++ ys) zs (left ((xs ++ ys) ++ zs) ws same)

  result_part : (xs ys zs ws : List ℕ) → SameFor b b' (((xs ++ ys) ++ zs) ++ ws) → SameFor b b' ws
  result_part xs ys zs ws same = right ((xs ++ ys) ++ zs) ws same

  mutual
    unfolding norm calls_in

    pub law : (e : Syn resolved) → SameFor b b' (calls_in e) → (r : Around) (m : ℕ) → norm base b e r m ≡ norm base b' e r m
    law (s.comma o a es) same r m = simp (law a (left (calls_in a) (calls_all es) same), law_all es (right (calls_in a) (calls_all es) same))
    law (s.flwor o bs w s.no_keys e) same r m =
        law_nested bs (binds_part (calls_binds bs) (calls_maybe w) [] (calls_in e) same) o _ _
        (law_where w (where_part (calls_binds bs) (calls_maybe w) [] (calls_in e) same) o _ _
        (law e (result_part (calls_binds bs) (calls_maybe w) [] (calls_in e) same))) r m
    law (s.flwor o bs s.absent (s.one_key k a g ks) e) same r m =
        ap (over_tail o)
        (law_sorted bs (binds_part (calls_binds bs) [] (calls_in k ++ calls_keys ks) (calls_in e) same) _ _
        (λ q j. simp (
          law k (left (calls_in k) (calls_keys ks) (keys_part (calls_binds bs) [] (calls_in k ++ calls_keys ks) (calls_in e) same)),
          law_keys ks (right (calls_in k) (calls_keys ks) (keys_part (calls_binds bs) [] (calls_in k ++ calls_keys ks) (calls_in e) same)),
          law e (result_part (calls_binds bs) [] (calls_in k ++ calls_keys ks) (calls_in e) same),
        )) r m)
    law (s.flwor o bs (s.present w) (s.one_key k a g ks) e) same r m =
        ap (over_tail o)
        (law_sorted bs (binds_part (calls_binds bs) (calls_in w) (calls_in k ++ calls_keys ks) (calls_in e) same) _ _
        (λ q j. simp (
          law w (where_part (calls_binds bs) (calls_in w) (calls_in k ++ calls_keys ks) (calls_in e) same),
          law k (left (calls_in k) (calls_keys ks) (keys_part (calls_binds bs) (calls_in w) (calls_in k ++ calls_keys ks) (calls_in e) same)),
          law_keys ks (right (calls_in k) (calls_keys ks) (keys_part (calls_binds bs) (calls_in w) (calls_in k ++ calls_keys ks) (calls_in e) same)),
          law e (result_part (calls_binds bs) (calls_in w) (calls_in k ++ calls_keys ks) (calls_in e) same),
        )) r m)
    law (s.quantified o q bs e) same r m =
        ap (over_made (λ x. n.quantified o q x))
        (law_nested bs (left (calls_binds bs) (calls_in e) same) o _ _ (λ q' k. simp (law e (right (calls_binds bs) (calls_in e) same))) r m)
    law (s.conditional o e a d) same r m =
        simp (
          law e (left (calls_in e) (calls_in a) (left (calls_in e ++ calls_in a) (calls_in d) same)),
          law a (right (calls_in e) (calls_in a) (left (calls_in e ++ calls_in a) (calls_in d) same)),
          law d (right (calls_in e ++ calls_in a) (calls_in d) same),
        )
    law (s.binary o f a d) same r m = simp (law a (left (calls_in a) (calls_in d) same), law d (right (calls_in a) (calls_in d) same))
    law (s.signed o g a) same r m = simp (law a same)
    law (s.instance o a t) same r m = simp (law a same)
    law (s.treat o a t) same r m = simp (law a same)
    law (s.castable o a k z) same r m = simp (law a same)
    law (s.cast o a k z) same r m = simp (law a same)
    law (s.root o) same r m = refl
    law (s.step o x t s.absent s.no_more) same r m = refl
    law (s.step o x t s.absent (s.one_more q qs)) same r m =
        simp (law q (left (calls_in q) (calls_all qs) same), law_predicates qs (right (calls_in q) (calls_all qs) same))
    law (s.step o x t (s.present a) s.no_more) same r m = simp (law a (left (calls_in a) [] same))
    law (s.step o x t (s.present a) (s.one_more q qs)) same r m =
        simp (
          law a (left (calls_in a) (calls_in q ++ calls_all qs) same),
          law q (left (calls_in q) (calls_all qs) (right (calls_in a) (calls_in q ++ calls_all qs) same)),
          law_predicates qs (right (calls_in q) (calls_all qs) (right (calls_in a) (calls_in q ++ calls_all qs) same)),
        )
    law (s.through o a d) same r m = simp (law a (left (calls_in a) (calls_in d) same), law d (right (calls_in a) (calls_in d) same))
    law (s.filtered o a qs) same r m = simp (law a (left (calls_in a) (calls_all qs) same), law_predicates qs (right (calls_in a) (calls_all qs) same))
    law (s.integer o z) same r m = refl
    law (s.text o t) same r m = refl
    law (s.var o v) same r m = refl
    law (s.paren o s.absent) same r m = refl
    law (s.paren o (s.present e)) same r m = law e same r m
    law (s.dot o) same r m = refl
    law (s.call o f es) same r m =
        simp (law_all es (right (called_by f) (calls_all es) same), called_same o f (left (called_by f) (calls_all es) same))
    law (s.build o k i e) same r m = simp (law_name i (left (calls_name i) (calls_maybe e) same), law_content e (right (calls_name i) (calls_maybe e) same))
    law (s.element o i as' ps) same r m =
        ap (over_parts o i)
        (law_attrs as' (left (calls_attributes as') (calls_parts ps) same) _ _
        (λ q k. law_parts ps (right (calls_attributes as') (calls_parts ps) same) false o q k) r m)
    law (s.comment o t) same r m = refl
    law (s.instruction o i t) same r m = refl

    law_all : (es : Syns resolved) → SameFor b b' (calls_all es) → (r : Around) (m : ℕ) → nf.norm_all base b es r m ≡ nf.norm_all base b' es r m
    law_all s.no_more same r m = refl
    law_all (s.one_more e es) same r m = simp (law e (left (calls_in e) (calls_all es) same), law_all es (right (calls_in e) (calls_all es) same))

    law_nested : (bs : Binds resolved) → SameFor b b' (calls_binds bs) → (o : ℕ) (last last' : Around → Makes PlainCore) → Like last last' →
        (r : Around) (m : ℕ) → nf.nested base b bs o last r m ≡ nf.nested base b' bs o last' r m
    law_nested s.no_binds same o last last' like r m = like r m
    law_nested (s.for_bind i v t at e bs) same o last last' like r m =
        simp (law e (left (calls_in e) (calls_binds bs) same), law_nested bs (right (calls_in e) (calls_binds bs) same) o last last' like)
    law_nested (s.let_bind i v t e bs) same o last last' like r m =
        simp (law e (left (calls_in e) (calls_binds bs) same), law_nested bs (right (calls_in e) (calls_binds bs) same) o last last' like)

    law_where : (w : Maybe resolved) → SameFor b b' (calls_maybe w) → (o : ℕ) (last last' : Around → Makes PlainCore) → Like last last' →
        (r : Around) (m : ℕ) → nf.norm_where base b w o last r m ≡ nf.norm_where base b' w o last' r m
    law_where s.absent same o last last' like r m = like r m
    law_where (s.present e) same o last last' like r m = simp (law e same, like)

    law_predicates : (qs : Syns resolved) → SameFor b b' (calls_all qs) → (o : ℕ) (e : PlainCore) (r : Around) (m : ℕ) →
        nf.predicates base b qs o e r m ≡ nf.predicates base b' qs o e r m
    law_predicates s.no_more same o e r m = refl
    law_predicates (s.one_more q qs) same o e r m =
        simp (law q (left (calls_in q) (calls_all qs) same), law_predicates qs (right (calls_in q) (calls_all qs) same))

    law_name : (i : BuildName resolved) → SameFor b b' (calls_name i) → (o : ℕ) (r : Around) (m : ℕ) →
        nf.norm_name base b i o r m ≡ nf.norm_name base b' i o r m
    law_name s.no_name same o r m = refl
    law_name (s.named i) same o r m = refl
    law_name (s.computed e) same o r m = simp (law e same)

    law_content : (e : Maybe resolved) → SameFor b b' (calls_maybe e) → (o : ℕ) (r : Around) (m : ℕ) →
        nf.norm_content base b e o r m ≡ nf.norm_content base b' e o r m
    law_content s.absent same o r m = refl
    law_content (s.present e) same o r m = law e same r m

    law_values : (vs : Values resolved) → SameFor b b' (calls_values vs) → (o : ℕ) (r : Around) (m : ℕ) →
        nf.norm_values base b vs o r m ≡ nf.norm_values base b' vs o r m
    law_values s.no_values same o r m = refl
    law_values (s.value_run t vs) same o r m = simp (law_values vs same)
    law_values (s.value_brace e vs) same o r m =
        simp (law e (left (calls_in e) (calls_values vs) same), law_values vs (right (calls_in e) (calls_values vs) same))

    law_parts : (ps : Parts resolved) → SameFor b b' (calls_parts ps) → (z : Bool) (o : ℕ) (r : Around) (m : ℕ) →
        nf.norm_parts base b ps z o r m ≡ nf.norm_parts base b' ps z o r m
    law_parts s.no_parts same z o r m = refl
    law_parts (s.run t ps) same z o r m = simp (law_parts ps same)
    law_parts (s.brace e ps) same z o r m =
        simp (law e (left (calls_in e) (calls_parts ps) same), law_parts ps (right (calls_in e) (calls_parts ps) same))
    law_parts (s.inner e ps) same z o r m =
        simp (law e (left (calls_in e) (calls_parts ps) same), law_parts ps (right (calls_in e) (calls_parts ps) same))

    law_sorted : (bs : Binds resolved) → SameFor b b' (calls_binds bs) → (last last' : Around → Makes Tail) → Like last last' →
        (r : Around) (m : ℕ) → nf.sorted base b bs last r m ≡ nf.sorted base b' bs last' r m
    law_sorted s.no_binds same last last' like r m = like r m
    law_sorted (s.for_bind i v t at e bs) same last last' like r m =
        simp (law e (left (calls_in e) (calls_binds bs) same), law_sorted bs (right (calls_in e) (calls_binds bs) same) last last' like)
    law_sorted (s.let_bind i v t e bs) same last last' like r m =
        simp (law e (left (calls_in e) (calls_binds bs) same), law_sorted bs (right (calls_in e) (calls_binds bs) same) last last' like)

    law_keys : (ks : Keys resolved) → SameFor b b' (calls_keys ks) → (r : Around) (m : ℕ) → nf.norm_keys base b ks r m ≡ nf.norm_keys base b' ks r m
    law_keys s.no_keys same r m = refl
    law_keys (s.one_key e a g ks) same r m =
        simp (law e (left (calls_in e) (calls_keys ks) same), law_keys ks (right (calls_in e) (calls_keys ks) same))

    law_attrs : (as' : Attributes resolved) → SameFor b b' (calls_attributes as') → (rest rest' : Around → Makes PlainCores) → Like rest rest' →
        (r : Around) (m : ℕ) → nf.norm_attributes base b as' r rest m ≡ nf.norm_attributes base b' as' r rest' m
    law_attrs s.no_attributes same rest rest' like r m = like r m
    law_attrs (s.attribute o i vs as') same rest rest' like r m =
        simp (
          law_values vs (left (calls_values vs) (calls_attributes as') same),
          law_attrs as' (right (calls_values vs) (calls_attributes as') same) rest rest' like,
        )

  -- the body of a declared function, and the prolog round the main expression
  pub body_same : (env : Env) (f : Function) → SameFor b b' (calls_in f.body) → (m : ℕ) → body_of base b env f m ≡ body_of base b' env f m
  body_same env f same m = simp (law f.body same)

  pub prolog_same : (env : Env) (ds : List (Declaration resolved)) (j : ℕ) (e : Syn resolved) → SameFor b b' (main_calls ds (calls_in e)) → (m : ℕ) →
      prolog base b env ds j e m ≡ prolog base b' env ds j e m
  prolog_same env [] j e same m = law e same (outside env) m
  prolog_same env (s.function o i n ps t a ∷ ds) j e same m = prolog_same env ds j e same m
  prolog_same env (s.variable o i v t a ∷ ds) j e same m =
      simp (law a (left (calls_in a) (main_calls ds (calls_in e)) same), prolog_same env ds (j + 1) e (right (calls_in a) (main_calls ds (calls_in e)) same))
