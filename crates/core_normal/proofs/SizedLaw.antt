-- The size of the Core of an expression is what its syntax tells.
use Rattle.std.proofs.Common.{◌≡◌, refl, ap, ℕ, Bool, true, false, Option, Some, List, ◌+◌, ◌&&◌}
use Rattle.core_meaning.specs.PlainCore.{PlainCore, PlainCores}
use Rattle.core_meaning.specs.PlainCore as c
use Rattle.xq_ast.specs.declared.leaf.Callee.{Callee}
use Rattle.xq_ast.specs.declared.leaf.Callee.TheVariants as callee
use Rattle.xq_ast.specs.declared.leaf.Quantifier.TheVariants as quantifier
use Rattle.xq_ast.specs.declared.leaf.Sign.TheVariants as sign
use Rattle.core_scope.specs.Syn.{Syn, Syns, Maybe, Binds, Keys, BuildName, Attributes, Values, Parts, resolved, place_of}
use Rattle.core_scope.specs.Syn as s
use Rattle.core_normal.specs.Fresh.{Makes}
use Rattle.core_normal.specs.Around.{Focus, Around}
use Rattle.core_normal.specs.Pieces as n
use Rattle.core_normal.specs.Pieces.{Inlined, Tail, selected}
use Rattle.core_normal.specs.Normal as nf
use Rattle.core_normal.specs.Normal.{norm}
use Rattle.core_normal.specs.Sizes as sz
use Rattle.core_normal.specs.Sizes.{Size, beside, over, FunSize}
use Rattle.core_normal.specs.Sized as z
use Rattle.core_normal.specs.Sized.{sized}
use Rattle.core_normal.proofs.Measured.{size, size_all, size_binds, size_keys, sizes, Agree, HasSize}
use Rattle.core_normal.proofs.PieceSizes.{size_of_path, size_of_chain, size_of_counted, size_of_operand, size_of_tested, open_focus, size_of_call, size_of_params, same_size, TailSize, run_law, brace_law, size_sorted, element_law, for_bind_law, let_bind_law, attribute_law}

trans : {A : Type 0} {a b d : A} → a ≡ b → b ≡ d → a ≡ d
trans p q = cc

module _ (base : ℕ) (bodies : ℕ → Makes Inlined) (funs : ℕ → FunSize) (agree : Agree bodies funs) where
  law_inlined : (o : ℕ) (i : Inlined) (g : FunSize) (as' : PlainCores) → HasSize i g → size (n.inlined o i as') ≡ sz.with_params g.types (sizes as') g.body
  law_inlined o i g as' h =
      trans (size_of_params o i.vars i.types as' (n.converted o i.result i.body) h.long)
      (trans (ap (λ ts. sz.with_params ts (sizes as') (size (n.converted o i.result i.body))) h.types)
      (ap (λ b. sz.with_params g.types (sizes as') b) (trans (same_size o i.result i.body) h.body)))

  law_called : (o : ℕ) (f : Callee) (as' : PlainCores) (focus : Option Focus) (m : ℕ) → size ((nf.called base bodies o f as' focus m).made) ≡ z.called funs f (sizes as')
  law_called o (callee.Known f) as' focus m = size_of_call o f as' focus
  law_called o (callee.Declared k) as' focus m = law_inlined o ((bodies k m).made) (funs k) as' (agree k m)

  mutual
    unfolding norm sized selected

    pub law : (e : Syn resolved) (r : Around) (m : ℕ) → size ((norm base bodies e r m).made) ≡ sized funs e
    law (s.comma o a es) r m = simp (size_of_chain, law a, law_all es)
    law (s.flwor o bs w s.no_keys e) r m = law_nested bs o _ _ (λ q k. law_where w o (norm base bodies e) (sized funs e) (law e) q k) r m
    law (s.flwor o bs w (s.one_key k d g ks) e) r m =
        size_sorted o _ _ _ _ (law_sorted bs _ (z.where_bind funs w) (beside (sized funs k) (z.sized_keys funs ks)) (sized funs e)
        (λ q j. record { binds = law_bind w q j; keys = simp (law k, law_keys ks); body = law e q _ }) r m)
    law (s.quantified o quantifier.Some bs e) r m = ap (λ t. over (sz.one t)) (law_nested bs o _ _ (λ q k. simp (law e)) r m)
    law (s.quantified o quantifier.Every bs e) r m = ap (λ t. over (sz.one t)) (law_nested bs o _ _ (λ q k. simp (law e)) r m)
    law (s.conditional o e a b) r m = simp (law e, law a, law b)
    law (s.binary o f a b) r m = simp (size_of_operand, law a, law b)
    law (s.signed o sign.Plus a) r m = simp (law a)
    law (s.signed o sign.Minus a) r m = simp (law a)
    law (s.instance o a t) r m = simp (law a)
    law (s.treat o a t) r m = simp (law a)
    law (s.castable o a k d) r m = simp (law a)
    law (s.cast o a k d) r m = simp (law a)
    law (s.root o) r m = simp (open_focus)
    law (s.step o x t s.absent s.no_more) r m = simp (open_focus)
    law (s.step o x t s.absent (s.one_more q qs)) r m =
        ap (λ t. over (sz.one t)) (law_predicates qs o _ _ (simp (size_of_counted, open_focus, law q)) r _)
    law (s.step o x t (s.present a) s.no_more) r m = simp (law a)
    law (s.step o x t (s.present a) (s.one_more q qs)) r m =
        size_of_path _ _ _ _ (law a r m) (law_predicates qs o _ _ (simp (size_of_counted, law q)) r _)
    law (s.through o a b) r m = simp (law a, law b)
    law (s.filtered o a qs) r m = law_predicates qs o _ _ (law a r m) r _
    law (s.integer o z) r m = refl
    law (s.text o t) r m = refl
    law (s.var o v) r m = refl
    law (s.paren o s.absent) r m = refl
    law (s.paren o (s.present e)) r m = law e r m
    law (s.dot o) r m = open_focus o r.focus
    law (s.call o f es) r m = simp (law_called, law_all es)
    law (s.build o b i e) r m = simp (law_name i, law_content e)
    law (s.element o i as' ps) r m = element_law o _ _ (law_attrs as' _ (z.sized_parts funs ps false) (λ q k. law_parts ps false o q k) r m)
    law (s.comment o t) r m = refl
    law (s.instruction o i t) r m = refl

    law_all : (es : Syns resolved) (r : Around) (m : ℕ) → sizes ((nf.norm_all base bodies es r m).made) ≡ z.sized_all funs es
    law_all s.no_more r m = refl
    law_all (s.one_more e es) r m = simp (law e, law_all es)

    law_nested : (bs : Binds resolved) (o : ℕ) (last : Around → Makes PlainCore) (w : Size) → ((q : Around) (k : ℕ) → size ((last q k).made) ≡ w) →
        (r : Around) (m : ℕ) → size ((nf.nested base bodies bs o last r m).made) ≡ z.nested funs bs w
    law_nested s.no_binds o last w same r m = same r m
    law_nested (s.for_bind i v t at e bs) o last w same r m = simp (size_of_tested, law e, law_nested bs o last w same)
    law_nested (s.let_bind i v t e bs) o last w same r m = simp (size_of_tested, law e, law_nested bs o last w same)

    law_sorted : (bs : Binds resolved) (last : Around → Makes Tail) (ts ks b : Size) → ((q : Around) (k : ℕ) → TailSize ((last q k).made) ts ks b) →
        (r : Around) (m : ℕ) → TailSize ((nf.sorted base bodies bs last r m).made) (z.sorted funs bs ts) ks b
    law_sorted s.no_binds last ts ks b same r m = same r m
    law_sorted (s.for_bind i v t at e bs) last ts ks b same r m =
        let k = (norm base bodies e r m).next in
        record {
          binds = for_bind_law (place_of e) (base + k) (base + (k + 1)) ((nf.bound base t (base + k) (k + 1 + 1)).made) _ t _ _ _ (law e r m) ((law_sorted bs last ts ks b same _ _).binds);
          keys = (law_sorted bs last ts ks b same _ _).keys;
          body = (law_sorted bs last ts ks b same _ _).body;
        }
    law_sorted (s.let_bind i v t e bs) last ts ks b same r m =
        let k = (norm base bodies e r m).next in
        record {
          binds = let_bind_law (place_of e) (base + k) ((nf.bound base t (base + k) (k + 1)).made) _ t _ _ _ (law e r m) ((law_sorted bs last ts ks b same _ _).binds);
          keys = (law_sorted bs last ts ks b same _ _).keys;
          body = (law_sorted bs last ts ks b same _ _).body;
        }

    law_where : (w : Maybe resolved) (o : ℕ) (last : Around → Makes PlainCore) (z_ : Size) → ((q : Around) (k : ℕ) → size ((last q k).made) ≡ z_) →
        (r : Around) (m : ℕ) → size ((nf.norm_where base bodies w o last r m).made) ≡ z.guarded funs w z_
    law_where s.absent o last w same r m = same r m
    law_where (s.present e) o last w same r m = simp (law e, same)

    law_bind : (w : Maybe resolved) (r : Around) (m : ℕ) → size_binds ((nf.sorted_where base bodies w r m).made c.no_binds) ≡ z.where_bind funs w
    law_bind s.absent r m = refl
    law_bind (s.present e) r m = simp (law e)

    law_keys : (ks : Keys resolved) (r : Around) (m : ℕ) → size_keys ((nf.norm_keys base bodies ks r m).made) ≡ z.sized_keys funs ks
    law_keys s.no_keys r m = refl
    law_keys (s.one_key e d g ks) r m = simp (law e, law_keys ks)

    law_predicates : (qs : Syns resolved) (o : ℕ) (e : PlainCore) (w : Size) → size e ≡ w →
        (r : Around) (m : ℕ) → size ((nf.predicates base bodies qs o e r m).made) ≡ z.predicates funs qs w
    law_predicates s.no_more o e w same r m = same
    law_predicates (s.one_more q qs) o e w same r m = law_predicates qs o _ (sz.selected w (sized funs q)) (simp (law q, same)) r _

    law_name : (i : BuildName resolved) (o : ℕ) (r : Around) (m : ℕ) → size_all ((nf.norm_name base bodies i o r m).made) ≡ z.sized_name funs i
    law_name s.no_name o r m = refl
    law_name (s.named i) o r m = refl
    law_name (s.computed e) o r m = simp (law e)

    law_content : (e : Maybe resolved) (o : ℕ) (r : Around) (m : ℕ) → size ((nf.norm_content base bodies e o r m).made) ≡ z.content funs e
    law_content s.absent o r m = refl
    law_content (s.present e) o r m = law e r m

    law_attrs : (as' : Attributes resolved) (rest : Around → Makes PlainCores) (w : List Size) → ((q : Around) (k : ℕ) → sizes ((rest q k).made) ≡ w) →
        (r : Around) (m : ℕ) → sizes ((nf.norm_attributes base bodies as' r rest m).made) ≡ z.sized_attributes funs as' w
    law_attrs s.no_attributes rest w same r m = same r m
    law_attrs (s.attribute o i vs as') rest w same r m = attribute_law o i _ _ _ _ (law_values vs o r m) (law_attrs as' rest w same r _)

    law_values : (vs : Values resolved) (o : ℕ) (r : Around) (m : ℕ) → sizes ((nf.norm_values base bodies vs o r m).made) ≡ z.sized_values funs vs
    law_values s.no_values o r m = refl
    law_values (s.value_run t vs) o r m = simp (law_values vs)
    law_values (s.value_brace e vs) o r m = simp (law e, law_values vs)

    law_parts : (ps : Parts resolved) (b : Bool) (o : ℕ) (r : Around) (m : ℕ) → sizes ((nf.norm_parts base bodies ps b o r m).made) ≡ z.sized_parts funs ps b
    law_parts s.no_parts b o r m = refl
    law_parts (s.run t ps) b o r m = run_law t.is_boundary o t.text ((nf.norm_parts base bodies ps (t.is_boundary && b) o r m).made) _ (law_parts ps (t.is_boundary && b) o r m)
    law_parts (s.brace e ps) b o r m = brace_law b o ((norm base bodies e r m).made) _ _ _ (law e r m) (law_parts ps true o r _)
    law_parts (s.inner e ps) b o r m = simp (law e, law_parts ps false)
