-- Whether a Core is lawful doesn't depend on the texts that its text numbers stand for.
use Rattle.std.proofs.Common.{◌≡◌, ℕ, suc, ◌+◌, ◌^◌, ◌&&◌, not, nat_lt, nat_eq, Bool, true, List, [], ◌∷◌, ◌++◌, map, Some, None, refl, sym, ap, subst, ◌∙◌, arith}
use Rattle.xq_base.specs.declared.fun.Fun.{Fun}
use Rattle.xq_base.specs.declared.fun.Fun.TheVariants as fun
use Rattle.xq_base.specs.declared.item.Atom.{Atom as Held}
use Rattle.xq_base.specs.declared.item.Atom.TheVariants as a
use Rattle.xq_base.specs.Atoms.{Atom, IntAtom, TextAtom, UntypedAtom, BoolAtom}
use Rattle.doc_table.specs.Axes.{AnyNode}
use Rattle.doc_table.specs.Values.{item_of_atom, is_node}
use Rattle.core_meaning.specs.declared.node.Core.{Core, roll-Core, map-Core}
use Rattle.core_meaning.specs.declared.node.CoreKind.{CoreKind, roll-CoreKind, map-CoreKind}
use Rattle.core_meaning.specs.declared.node.Bind.{Bind, roll-Bind, map-Bind}
use Rattle.core_meaning.specs.declared.node.SortKey.{SortKey, roll-SortKey, map-SortKey}
use Rattle.core_meaning.specs.declared.node.Bind.TheOpen as o
use Rattle.core_meaning.specs.declared.node.Bind.TheFolds.{fold-roll-Core, fold-roll-CoreKind, fold-roll-Bind, fold-roll-SortKey, ind-Core}
use Rattle.core_meaning.specs.PlainCore as c
use Rattle.core_meaning.specs.PlainCore.{PlainCore, PlainCores, PlainBind, PlainKey}
use Rattle.core_meaning.specs.Types.{NoItems}
use Rattle.core_meaning.specs.Erasure.{Texts, node_kind, atom_in, cores_of, binds_of, keys_of, core_of, kind_of, plain_bind, plain_key, form_of, node_of, bind_of, key_of}
use Rattle.core_meaning.specs.Expr.{Apply, Expr, Exprs, Spine, Leaf}
use Rattle.core_meaning.specs.ExprOf.{expr_from, exprs_from, content_from, spine_from, keys_from, expr_of}
use Rattle.core_meaning.specs.Lawful.{binders, binders_all, binders_in, all_differ, takes, rule_fits, how_many, is_boolean_call, are_boolean_calls, parts_of_build, fits, fits_all, fits_in, is_lawful}
use Rattle.core_meaning.specs.Size as size
use Rattle.core_meaning.proofs.Sites.{same}

-- a Core without its texts, its tests and its types
abbrev atom_kept : Atom → Atom
atom_kept (IntAtom z) = IntAtom z
atom_kept (TextAtom t) = TextAtom []
atom_kept (UntypedAtom t) = UntypedAtom []
atom_kept (BoolAtom b) = BoolAtom b

abbrev mutual
  kept : PlainCore → PlainCore
  kept (c.Lit o l) = c.Lit o (atom_kept l)
  kept (c.Empty o) = c.Empty o
  kept (c.Seq o x y) = c.Seq o (kept x) (kept y)
  kept (c.Var o v) = c.Var o v
  kept (c.Let o v x y) = c.Let o v (kept x) (kept y)
  kept (c.For o v p x y) = c.For o v p (kept x) (kept y)
  kept (c.Sorted o ts ks x) = c.Sorted o (kept_binds ts) (kept_keys ks) (kept x)
  kept (c.If o x y z) = c.If o (kept x) (kept y) (kept z)
  kept (c.Call o f xs) = c.Call o f (kept_all xs)
  kept (c.Step o from axis test x) = c.Step o from axis AnyNode (kept x)
  kept (c.Build o k name x) = c.Build o k (kept_all name) (kept x)
  kept (c.Instance o x t) = c.Instance o (kept x) NoItems
  kept (c.Treat o x t) = c.Treat o (kept x) NoItems
  kept (c.Convert o x t) = c.Convert o (kept x) NoItems
  kept (c.Cast o x k m) = c.Cast o (kept x) k m
  kept (c.Castable o x k m) = c.Castable o (kept x) k m
  kept (c.Fail o code) = c.Fail o code

  kept_all : PlainCores → PlainCores
  kept_all c.no_cores = c.no_cores
  kept_all (c.one_core x xs) = c.one_core (kept x) (kept_all xs)

  kept_bind : PlainBind → PlainBind
  kept_bind (c.for_bind v p x) = c.for_bind v p (kept x)
  kept_bind (c.let_bind v x) = c.let_bind v (kept x)
  kept_bind (c.where_bind x) = c.where_bind (kept x)

  kept_binds : c.Binds → c.Binds
  kept_binds c.no_binds = c.no_binds
  kept_binds (c.one_bind b ts) = c.one_bind (kept_bind b) (kept_binds ts)

  kept_key : PlainKey → PlainKey
  kept_key (c.key_by x d g) = c.key_by (kept x) d g

  kept_keys : c.Keys → c.Keys
  kept_keys c.no_keys = c.no_keys
  kept_keys (c.one_key k ks) = c.one_key (kept_key k) (kept_keys ks)

-- the same nodes
mutual
  nodes_kept : (x : PlainCore) → size.nodes (kept x) ≡ size.nodes x
  nodes_kept (c.Lit o l) = refl
  nodes_kept (c.Empty o) = refl
  nodes_kept (c.Seq o x y) = omega (arith, nodes_kept x, nodes_kept y)
  nodes_kept (c.Var o v) = refl
  nodes_kept (c.Let o v x y) = omega (arith, nodes_kept x, nodes_kept y)
  nodes_kept (c.For o v p x y) = omega (arith, nodes_kept x, nodes_kept y)
  nodes_kept (c.Sorted o ts ks x) = omega (arith, nodes_binds ts, nodes_keys ks, nodes_kept x)
  nodes_kept (c.If o x y z) = omega (arith, nodes_kept x, nodes_kept y, nodes_kept z)
  nodes_kept (c.Call o f xs) = omega (arith, nodes_all_kept xs)
  nodes_kept (c.Step o from axis test x) = omega (arith, nodes_kept x)
  nodes_kept (c.Build o k name x) = omega (arith, nodes_all_kept name, nodes_kept x)
  nodes_kept (c.Instance o x t) = omega (arith, nodes_kept x)
  nodes_kept (c.Treat o x t) = omega (arith, nodes_kept x)
  nodes_kept (c.Convert o x t) = omega (arith, nodes_kept x)
  nodes_kept (c.Cast o x k m) = omega (arith, nodes_kept x)
  nodes_kept (c.Castable o x k m) = omega (arith, nodes_kept x)
  nodes_kept (c.Fail o code) = refl

  nodes_all_kept : (xs : PlainCores) → size.nodes_of_all (kept_all xs) ≡ size.nodes_of_all xs
  nodes_all_kept c.no_cores = refl
  nodes_all_kept (c.one_core x xs) = omega (arith, nodes_kept x, nodes_all_kept xs)

  nodes_binds : (ts : c.Binds) → size.nodes_of_binds (kept_binds ts) ≡ size.nodes_of_binds ts
  nodes_binds c.no_binds = refl
  nodes_binds (c.one_bind (c.for_bind v p x) ts) = omega (arith, nodes_kept x, nodes_binds ts)
  nodes_binds (c.one_bind (c.let_bind v x) ts) = omega (arith, nodes_kept x, nodes_binds ts)
  nodes_binds (c.one_bind (c.where_bind x) ts) = omega (arith, nodes_kept x, nodes_binds ts)

  nodes_keys : (ks : c.Keys) → size.nodes_of_keys (kept_keys ks) ≡ size.nodes_of_keys ks
  nodes_keys c.no_keys = refl
  nodes_keys (c.one_key (c.key_by x d g) ks) = omega (arith, nodes_kept x, nodes_keys ks)

two_lists : (xs ys us vs : List ℕ) → xs ≡ us → ys ≡ vs → xs ++ ys ≡ us ++ vs
two_lists xs ys us vs p q = cc

-- the same variables are bound, wherever the sites begin
mutual
  bound_kept : (x : PlainCore) (j k : ℕ) → binders (expr_from j (kept x)) ≡ binders (expr_from k x)
  bound_kept (c.Lit o l) j k = refl
  bound_kept (c.Empty o) j k = refl
  bound_kept (c.Seq o x y) j k = two_lists _ _ _ _ (bound_kept x j k) (bound_kept y _ _)
  bound_kept (c.Var o v) j k = refl
  bound_kept (c.Let o v x y) j k = ap (λ zs. v ∷ zs) (two_lists _ _ _ _ (bound_kept x j k) (bound_kept y _ _))
  bound_kept (c.For o v p x y) j k = ap (λ zs. v ∷ p ∷ zs) (two_lists _ _ _ _ (bound_kept x j k) (bound_kept y _ _))
  bound_kept (c.Sorted o ts ks x) j k =
      bound_spine ts (λ m. Leaf (keys_from m (kept_keys ks)) (expr_from (m + size.nodes_of_keys (kept_keys ks)) (kept x))) (λ m. Leaf (keys_from m ks) (expr_from (m + size.nodes_of_keys ks) x))
      (λ m i. two_lists _ _ _ _ (bound_keys ks m i) (bound_kept x _ _)) j k
  bound_kept (c.If o x y z) j k = two_lists _ _ _ _ (two_lists _ _ _ _ (bound_kept x j k) (bound_kept y _ _)) (bound_kept z _ _)
  bound_kept (c.Call o f xs) j k = bound_all xs j k
  bound_kept (c.Step o from axis test x) j k = two_lists _ _ _ _ (bound_kept x j k) refl
  bound_kept (c.Build o kind name x) j k = bound_content name (λ m. expr_from m (kept x)) (λ m. expr_from m x) (λ m i. bound_kept x m i) j k
  bound_kept (c.Instance o x t) j k = two_lists _ _ _ _ (bound_kept x j k) refl
  bound_kept (c.Treat o x t) j k = two_lists _ _ _ _ (bound_kept x j k) refl
  bound_kept (c.Convert o x t) j k = two_lists _ _ _ _ (bound_kept x j k) refl
  bound_kept (c.Cast o x kind m) j k = two_lists _ _ _ _ (bound_kept x j k) refl
  bound_kept (c.Castable o x kind m) j k = two_lists _ _ _ _ (bound_kept x j k) refl
  bound_kept (c.Fail o code) j k = refl

  bound_all : (xs : PlainCores) (j k : ℕ) → binders_all (exprs_from j (kept_all xs)) ≡ binders_all (exprs_from k xs)
  bound_all c.no_cores j k = refl
  bound_all (c.one_core x xs) j k = two_lists _ _ _ _ (bound_kept x j k) (bound_all xs _ _)

  bound_content : (xs : PlainCores) (f g : ℕ → Expr) → ((m i : ℕ) → binders (f m) ≡ binders (g i)) → (j k : ℕ) →
      binders_all (content_from j (kept_all xs) f) ≡ binders_all (content_from k xs g)
  bound_content c.no_cores f g h j k = two_lists _ _ _ _ (h j k) refl
  bound_content (c.one_core x xs) f g h j k = two_lists _ _ _ _ (bound_kept x j k) (bound_content xs f g h _ _)

  bound_keys : (ks : c.Keys) (j k : ℕ) → binders_all (keys_from j (kept_keys ks)) ≡ binders_all (keys_from k ks)
  bound_keys c.no_keys j k = refl
  bound_keys (c.one_key (c.key_by x d g) ks) j k = two_lists _ _ _ _ (bound_kept x j k) (bound_keys ks _ _)

  bound_spine : (ts : c.Binds) (f g : ℕ → Spine) → ((m i : ℕ) → binders_in (f m) ≡ binders_in (g i)) → (j k : ℕ) →
      binders_in (spine_from j (kept_binds ts) f) ≡ binders_in (spine_from k ts g)
  bound_spine c.no_binds f g h j k = h j k
  bound_spine (c.one_bind (c.for_bind v p x) ts) f g h j k = ap (λ zs. v ∷ p ∷ zs) (two_lists _ _ _ _ (bound_kept x j k) (bound_spine ts f g h _ _))
  bound_spine (c.one_bind (c.let_bind v x) ts) f g h j k = ap (λ zs. v ∷ zs) (two_lists _ _ _ _ (bound_kept x j k) (bound_spine ts f g h _ _))
  bound_spine (c.one_bind (c.where_bind x) ts) f g h j k = two_lists _ _ _ _ (bound_kept x j k) (bound_spine ts f g h _ _)

both : (p q r s : Bool) → p ≡ r → q ≡ s → (p && q) ≡ (r && s)
both p q r s d e = cc

atom_same : (l : Atom) → not (is_node (item_of_atom (atom_kept l))) ≡ not (is_node (item_of_atom l))
atom_same (IntAtom z) = refl
atom_same (TextAtom t) = refl
atom_same (UntypedAtom t) = refl
atom_same (BoolAtom b) = refl

-- the same rules
as_many : (xs : PlainCores) (j k : ℕ) → how_many (exprs_from j (kept_all xs)) ≡ how_many (exprs_from k xs)
as_many c.no_cores j k = refl
as_many (c.one_core x xs) j k = ap suc (as_many xs (j + size.nodes (kept x)) (k + size.nodes x))

as_boolean : (x : PlainCore) (j k : ℕ) → is_boolean_call (expr_from j (kept x)) ≡ is_boolean_call (expr_from k x)
as_boolean (c.Lit o l) j k = refl
as_boolean (c.Empty o) j k = refl
as_boolean (c.Seq o x y) j k = refl
as_boolean (c.Var o v) j k = refl
as_boolean (c.Let o v x y) j k = refl
as_boolean (c.For o v p x y) j k = refl
as_boolean (c.Sorted o ts ks x) j k = refl
as_boolean (c.If o x y z) j k = refl
as_boolean (c.Call o fun.Boolean xs) j k = refl
as_boolean (c.Call o f xs) j k = refl
as_boolean (c.Step o from axis test x) j k = refl
as_boolean (c.Build o kind name x) j k = refl
as_boolean (c.Instance o x t) j k = refl
as_boolean (c.Treat o x t) j k = refl
as_boolean (c.Convert o x t) j k = refl
as_boolean (c.Cast o x kind m) j k = refl
as_boolean (c.Castable o x kind m) j k = refl
as_boolean (c.Fail o code) j k = refl

all_boolean : (xs : PlainCores) (j k : ℕ) → are_boolean_calls (exprs_from j (kept_all xs)) ≡ are_boolean_calls (exprs_from k xs)
all_boolean c.no_cores j k = refl
all_boolean (c.one_core x xs) j k = both _ _ _ _ (as_boolean x j k) (all_boolean xs (j + size.nodes (kept x)) (k + size.nodes x))

rule_same : (f : Fun) (es ds : Exprs) → how_many es ≡ how_many ds → are_boolean_calls es ≡ are_boolean_calls ds → rule_fits (Apply f) es ≡ rule_fits (Apply f) ds
rule_same fun.Or es ds p q = both _ _ _ _ (ap (λ n. nat_eq n 2) p) q
rule_same fun.And es ds p q = both _ _ _ _ (ap (λ n. nat_eq n 2) p) q
rule_same g es ds p q = ap (takes g) p

content_many : (xs : PlainCores) (f g : ℕ → Expr) (j k : ℕ) → how_many (content_from j (kept_all xs) f) ≡ how_many (content_from k xs g)
content_many c.no_cores f g j k = refl
content_many (c.one_core x xs) f g j k = ap suc (content_many xs f g (j + size.nodes (kept x)) (k + size.nodes x))

-- the same is in scope
mutual
  fits_kept : (ws : List ℕ) (x : PlainCore) (j k : ℕ) → fits ws (expr_from j (kept x)) ≡ fits ws (expr_from k x)
  fits_kept ws (c.Lit o l) j k = atom_same l
  fits_kept ws (c.Empty o) j k = refl
  fits_kept ws (c.Seq o x y) j k = both _ _ _ _ (fits_kept ws x j k) (fits_kept ws y _ _)
  fits_kept ws (c.Var o v) j k = refl
  fits_kept ws (c.Let o v x y) j k = both _ _ _ _ (fits_kept ws x j k) (fits_kept (v ∷ ws) y _ _)
  fits_kept ws (c.For o v p x y) j k = both _ _ _ _ (fits_kept ws x j k) (fits_kept (v ∷ p ∷ ws) y _ _)
  fits_kept ws (c.Sorted o ts ks x) j k =
      fits_spine ws ts (λ m. Leaf (keys_from m (kept_keys ks)) (expr_from (m + size.nodes_of_keys (kept_keys ks)) (kept x))) (λ m. Leaf (keys_from m ks) (expr_from (m + size.nodes_of_keys ks) x))
      (λ us m i. both _ _ _ _ (fits_keys us ks m i) (fits_kept us x _ _)) j k
  fits_kept ws (c.If o x y z) j k = both _ _ _ _ (both _ _ _ _ (fits_kept ws x j k) (fits_kept ws y _ _)) (fits_kept ws z _ _)
  fits_kept ws (c.Call o f xs) j k = both _ _ _ _ (rule_same f (exprs_from j (kept_all xs)) (exprs_from k xs) (as_many xs j k) (all_boolean xs j k)) (fits_cores ws xs j k)
  fits_kept ws (c.Step o from axis test x) j k = ap (λ b. b && true) (fits_kept ws x j k)
  fits_kept ws (c.Build o kind name x) j k =
      both _ _ _ _ (ap (λ n. nat_eq n (parts_of_build kind)) (content_many name (λ m. expr_from m (kept x)) (λ m. expr_from m x) j k))
      (fits_content ws name (λ m. expr_from m (kept x)) (λ m. expr_from m x) (λ m i. fits_kept ws x m i) j k)
  fits_kept ws (c.Instance o x t) j k = ap (λ b. b && true) (fits_kept ws x j k)
  fits_kept ws (c.Treat o x t) j k = ap (λ b. b && true) (fits_kept ws x j k)
  fits_kept ws (c.Convert o x t) j k = ap (λ b. b && true) (fits_kept ws x j k)
  fits_kept ws (c.Cast o x kind m) j k = ap (λ b. b && true) (fits_kept ws x j k)
  fits_kept ws (c.Castable o x kind m) j k = ap (λ b. b && true) (fits_kept ws x j k)
  fits_kept ws (c.Fail o code) j k = refl

  fits_cores : (ws : List ℕ) (xs : PlainCores) (j k : ℕ) → fits_all ws (exprs_from j (kept_all xs)) ≡ fits_all ws (exprs_from k xs)
  fits_cores ws c.no_cores j k = refl
  fits_cores ws (c.one_core x xs) j k = both _ _ _ _ (fits_kept ws x j k) (fits_cores ws xs _ _)

  fits_content : (ws : List ℕ) (xs : PlainCores) (f g : ℕ → Expr) → ((m i : ℕ) → fits ws (f m) ≡ fits ws (g i)) → (j k : ℕ) →
      fits_all ws (content_from j (kept_all xs) f) ≡ fits_all ws (content_from k xs g)
  fits_content ws c.no_cores f g h j k = ap (λ b. b && true) (h j k)
  fits_content ws (c.one_core x xs) f g h j k = both _ _ _ _ (fits_kept ws x j k) (fits_content ws xs f g h _ _)

  fits_keys : (ws : List ℕ) (ks : c.Keys) (j k : ℕ) → fits_all ws (keys_from j (kept_keys ks)) ≡ fits_all ws (keys_from k ks)
  fits_keys ws c.no_keys j k = refl
  fits_keys ws (c.one_key (c.key_by x d g) ks) j k = both _ _ _ _ (fits_kept ws x j k) (fits_keys ws ks _ _)

  fits_spine : (ws : List ℕ) (ts : c.Binds) (f g : ℕ → Spine) → ((us : List ℕ) (m i : ℕ) → fits_in us (f m) ≡ fits_in us (g i)) → (j k : ℕ) →
      fits_in ws (spine_from j (kept_binds ts) f) ≡ fits_in ws (spine_from k ts g)
  fits_spine ws c.no_binds f g h j k = h ws j k
  fits_spine ws (c.one_bind (c.for_bind v p x) ts) f g h j k = both _ _ _ _ (fits_kept ws x j k) (fits_spine (v ∷ p ∷ ws) ts f g h _ _)
  fits_spine ws (c.one_bind (c.let_bind v x) ts) f g h j k = both _ _ _ _ (fits_kept ws x j k) (fits_spine (v ∷ ws) ts f g h _ _)
  fits_spine ws (c.one_bind (c.where_bind x) ts) f g h j k = both _ _ _ _ (fits_kept ws x j k) (fits_spine ws ts f g h _ _)

lawful_kept : (x : PlainCore) → is_lawful (expr_of (kept x)) ≡ is_lawful (expr_of x)
lawful_kept x =
    both _ _ _ _ (both _ _ _ _ (ap all_differ (bound_kept x 0 0)) (fits_kept [] x 0 0)) (ap (λ n. nat_lt n (2 ^ 32)) (same 0 (kept x) ∙ nodes_kept x ∙ sym (same 0 x)))

-- Cores over texts and over none have the same forms
module _ (t : Texts) where
  abbrev SameCore : Core → Type 0
  SameCore e = kept (core_of t e) ≡ kept (core_of [] e)

  abbrev SameKind : CoreKind → Type 0
  SameKind k = (n : ℕ) → kept (kind_of t k n) ≡ kept (kind_of [] k n)

  abbrev SameBind : Bind → Type 0
  SameBind b = kept_bind (plain_bind t b) ≡ kept_bind (plain_bind [] b)

  abbrev SameKey : SortKey → Type 0
  SameKey k = kept_key (plain_key t k) ≡ kept_key (plain_key [] k)

  abbrev SuchCore : Type 0
  SuchCore = (e : Core) × SameCore e

  abbrev SuchKind : Type 0
  SuchKind = (k : CoreKind) × SameKind k

  abbrev SuchBind : Type 0
  SuchBind = (b : Bind) × SameBind b

  abbrev SuchKey : Type 0
  SuchKey = (k : SortKey) × SameKey k

  literal_same : (l : Held) → atom_kept (atom_in t l) ≡ atom_kept (atom_in [] l)
  literal_same (a.Int z) = refl
  literal_same (a.Str n) = refl
  literal_same (a.Untyped n) = refl
  literal_same (a.Bool b) = refl

  more_cores : (x y : PlainCore) (xs ys : PlainCores) → kept x ≡ kept y → kept_all xs ≡ kept_all ys → kept_all (c.one_core x xs) ≡ kept_all (c.one_core y ys)
  more_cores x y xs ys p q = cc

  all_same : (es : List SuchCore) → kept_all (cores_of (map (core_of t) (map (λ e. e.0) es))) ≡ kept_all (cores_of (map (core_of []) (map (λ e. e.0) es)))
  all_same [] = refl
  all_same (e ∷ es) = more_cores _ _ _ _ e.1 (all_same es)

  more_binds : (x y : PlainBind) (xs ys : c.Binds) → kept_bind x ≡ kept_bind y → kept_binds xs ≡ kept_binds ys → kept_binds (c.one_bind x xs) ≡ kept_binds (c.one_bind y ys)
  more_binds x y xs ys p q = cc

  binds_same : (bs : List SuchBind) → kept_binds (binds_of (map (plain_bind t) (map (λ e. e.0) bs))) ≡ kept_binds (binds_of (map (plain_bind []) (map (λ e. e.0) bs)))
  binds_same [] = refl
  binds_same (b ∷ bs) = more_binds _ _ _ _ b.1 (binds_same bs)

  more_keys : (x y : PlainKey) (xs ys : c.Keys) → kept_key x ≡ kept_key y → kept_keys xs ≡ kept_keys ys → kept_keys (c.one_key x xs) ≡ kept_keys (c.one_key y ys)
  more_keys x y xs ys p q = cc

  keys_same : (ks : List SuchKey) → kept_keys (keys_of (map (plain_key t) (map (λ e. e.0) ks))) ≡ kept_keys (keys_of (map (plain_key []) (map (λ e. e.0) ks)))
  keys_same [] = refl
  keys_same (k ∷ ks) = more_keys _ _ _ _ k.1 (keys_same ks)

  two_parts : (f : PlainCore → PlainCore → PlainCore) (x y u v : PlainCore) → x ≡ u → y ≡ v → f x y ≡ f u v
  two_parts f x y u v p q = cc

  three_parts : (f : PlainCore → PlainCore → PlainCore → PlainCore) (x y z u v w : PlainCore) → x ≡ u → y ≡ v → z ≡ w → f x y z ≡ f u v w
  three_parts f x y z u v w p q r = cc

  sorted_parts : (n : ℕ) (ts us : c.Binds) (ks ls : c.Keys) (x y : PlainCore) → ts ≡ us → ks ≡ ls → x ≡ y → c.Sorted n ts ks x ≡ c.Sorted n us ls y
  sorted_parts n ts us ks ls x y p q r = cc

  -- one layer, over parts of which the same is known
  abbrev kind_firsts : o.CoreKind-F SuchBind SuchKind SuchCore SuchKey → o.CoreKind-F Bind CoreKind Core SortKey
  kind_firsts y = map-CoreKind SuchBind SuchKind SuchCore SuchKey Bind CoreKind Core SortKey (λ e. e.0) (λ e. e.0) (λ e. e.0) (λ e. e.0) y

  abbrev plain_kind : Texts → o.CoreKind-F Bind CoreKind Core SortKey → ℕ → PlainCore
  plain_kind ts k = form_of ts (map-CoreKind Bind CoreKind Core SortKey PlainBind (ℕ → PlainCore) PlainCore PlainKey (plain_bind ts) (kind_of ts) (core_of ts) (plain_key ts) k)

  kind_layer : (y : o.CoreKind-F SuchBind SuchKind SuchCore SuchKey) (n : ℕ) → kept (plain_kind t (kind_firsts y) n) ≡ kept (plain_kind [] (kind_firsts y) n)
  kind_layer (o.Lit l) n = ap (c.Lit n) (literal_same l)
  kind_layer o.Empty n = refl
  kind_layer (o.Seq d e) n = two_parts (c.Seq n) _ _ _ _ d.1 e.1
  kind_layer (o.Var v) n = refl
  kind_layer (o.CoreKind::Let v d e) n = two_parts (c.Let n v.0) _ _ _ _ d.1 e.1
  kind_layer (o.CoreKind::For v p d e) n = two_parts (c.For n v.0 p.0) _ _ _ _ d.1 e.1
  kind_layer (o.Sorted bs ks e) n = sorted_parts n _ _ _ _ _ _ (binds_same bs) (keys_same ks) e.1
  kind_layer (o.If d e g) n = three_parts (c.If n) _ _ _ _ _ _ d.1 e.1 g.1
  kind_layer (o.Call f es) n = ap (c.Call n f) (all_same es)
  kind_layer (o.Step from axis _ e) n = ap (c.Step n from axis AnyNode) e.1
  kind_layer (o.Build what None e) n = ap (c.Build n (node_kind what) c.no_cores) e.1
  kind_layer (o.Build what (Some d) e) n = two_parts (λ x y. c.Build n (node_kind what) (c.one_core x c.no_cores) y) _ _ _ _ d.1 e.1
  kind_layer (o.Instance e ty) n = ap (λ x. c.Instance n x NoItems) e.1
  kind_layer (o.Treat e ty) n = ap (λ x. c.Treat n x NoItems) e.1
  kind_layer (o.Convert e ty) n = ap (λ x. c.Convert n x NoItems) e.1
  kind_layer (o.Cast e kind optional) n = ap (λ x. c.Cast n x kind optional) e.1
  kind_layer (o.Castable e kind optional) n = ap (λ x. c.Castable n x kind optional) e.1
  kind_layer (o.Fail code) n = refl

  kind_roll : (k : o.CoreKind-F Bind CoreKind Core SortKey) → ((n : ℕ) → kept (plain_kind t k n) ≡ kept (plain_kind [] k n)) → SameKind (roll-CoreKind k)
  kind_roll k h n =
      ap (λ f. kept (f n)) (fold-roll-CoreKind PlainBind (ℕ → PlainCore) PlainCore PlainKey (bind_of t) (form_of t) (node_of t) (key_of t) k)
      ∙ h n
      ∙ sym (ap (λ f. kept (f n)) (fold-roll-CoreKind PlainBind (ℕ → PlainCore) PlainCore PlainKey (bind_of []) (form_of []) (node_of []) (key_of []) k))

  abbrev bind_firsts : o.Bind-F SuchBind SuchKind SuchCore SuchKey → o.Bind-F Bind CoreKind Core SortKey
  bind_firsts y = map-Bind SuchBind SuchKind SuchCore SuchKey Bind CoreKind Core SortKey (λ e. e.0) (λ e. e.0) (λ e. e.0) (λ e. e.0) y

  abbrev plain_of_bind : Texts → o.Bind-F Bind CoreKind Core SortKey → PlainBind
  plain_of_bind ts b = bind_of ts (map-Bind Bind CoreKind Core SortKey PlainBind (ℕ → PlainCore) PlainCore PlainKey (plain_bind ts) (kind_of ts) (core_of ts) (plain_key ts) b)

  bind_layer : (y : o.Bind-F SuchBind SuchKind SuchCore SuchKey) → kept_bind (plain_of_bind t (bind_firsts y)) ≡ kept_bind (plain_of_bind [] (bind_firsts y))
  bind_layer (o.Bind::For v p e) = ap (c.for_bind v.0 p.0) e.1
  bind_layer (o.Bind::Let v e) = ap (c.let_bind v.0) e.1
  bind_layer (o.Where e) = ap c.where_bind e.1

  bind_roll : (b : o.Bind-F Bind CoreKind Core SortKey) → kept_bind (plain_of_bind t b) ≡ kept_bind (plain_of_bind [] b) → SameBind (roll-Bind b)
  bind_roll b h =
      ap kept_bind (fold-roll-Bind PlainBind (ℕ → PlainCore) PlainCore PlainKey (bind_of t) (form_of t) (node_of t) (key_of t) b)
      ∙ h
      ∙ sym (ap kept_bind (fold-roll-Bind PlainBind (ℕ → PlainCore) PlainCore PlainKey (bind_of []) (form_of []) (node_of []) (key_of []) b))

  abbrev core_firsts : o.Core-F SuchBind SuchKind SuchCore SuchKey → o.Core-F Bind CoreKind Core SortKey
  core_firsts y = map-Core SuchBind SuchKind SuchCore SuchKey Bind CoreKind Core SortKey (λ e. e.0) (λ e. e.0) (λ e. e.0) (λ e. e.0) y

  core_layer : (y : o.Core-F SuchBind SuchKind SuchCore SuchKey) → SameCore (roll-Core (core_firsts y))
  core_layer y =
      ap kept (fold-roll-Core PlainBind (ℕ → PlainCore) PlainCore PlainKey (bind_of t) (form_of t) (node_of t) (key_of t) (core_firsts y))
      ∙ y.kind.1 y.offset
      ∙ sym (ap kept (fold-roll-Core PlainBind (ℕ → PlainCore) PlainCore PlainKey (bind_of []) (form_of []) (node_of []) (key_of []) (core_firsts y)))

  abbrev key_firsts : o.SortKey-F SuchBind SuchKind SuchCore SuchKey → o.SortKey-F Bind CoreKind Core SortKey
  key_firsts y = map-SortKey SuchBind SuchKind SuchCore SuchKey Bind CoreKind Core SortKey (λ e. e.0) (λ e. e.0) (λ e. e.0) (λ e. e.0) y

  key_layer : (y : o.SortKey-F SuchBind SuchKind SuchCore SuchKey) → SameKey (roll-SortKey (key_firsts y))
  key_layer y =
      ap kept_key (fold-roll-SortKey PlainBind (ℕ → PlainCore) PlainCore PlainKey (bind_of t) (form_of t) (node_of t) (key_of t) (key_firsts y))
      ∙ ap (λ x. c.key_by x y.descending y.empty_greatest) y.key.1
      ∙ sym (ap kept_key (fold-roll-SortKey PlainBind (ℕ → PlainCore) PlainCore PlainKey (bind_of []) (form_of []) (node_of []) (key_of []) (key_firsts y)))

  same_forms : (e : Core) → SameCore e
  same_forms = ind-Core SameBind SameKind SameCore SameKey
      (λ b y is. subst (λ z. SameBind (roll-Bind z)) is (bind_roll (bind_firsts y) (bind_layer y)))
      (λ k y is. subst (λ z. SameKind (roll-CoreKind z)) is (kind_roll (kind_firsts y) (kind_layer y)))
      (λ e y is. subst (λ z. SameCore (roll-Core z)) is (core_layer y))
      (λ k y is. subst (λ z. SameKey (roll-SortKey z)) is (key_layer y))

  lawful_without : (e : Core) → is_lawful (expr_of (core_of t e)) ≡ is_lawful (expr_of (core_of [] e))
  lawful_without e = sym (lawful_kept (core_of t e)) ∙ ap (λ x. is_lawful (expr_of x)) (same_forms e) ∙ lawful_kept (core_of [] e)

pub lawful_with_any : (t u : Texts) (e : Core) → is_lawful (expr_of (core_of t e)) ≡ true → is_lawful (expr_of (core_of u e)) ≡ true
lawful_with_any t u e h = lawful_without u e ∙ sym (lawful_without t e) ∙ h
