-- A Core that fits, and binds each variable once at most, is lawful where it isn't too large.
use Rattle.std.proofs.Common.{◌≡◌, refl, ap, ℕ, ◌+◌, ◌≤◌, ◌^◌, ◌||◌, not, nat_eq, nat_lt, Bool, true, false, cond, List, [], ◌∷◌, ◌++◌, arith}
use Rattle.std.proofs.lemmas.Bool.{true≢false, and_from, lt-ltb}
use Rattle.xq_base.specs.Atoms.{Atom, IntAtom, TextAtom, UntypedAtom, BoolAtom}
use Rattle.doc_table.specs.Values.{item_of_atom, is_node}
use Rattle.core_meaning.specs.Expr.{Expr, Spine, Leaf}
use Rattle.core_meaning.specs.ExprOf.{expr_from, exprs_from, content_from, spine_from, keys_from, expr_of}
use Rattle.core_meaning.specs.Size as size
use Rattle.core_meaning.specs.Lawful.{binders, binders_all, binders_in, all_differ, fits, fits_all, fits_in, nodes, is_lawful}
use Rattle.core_meaning.specs.PlainCore.{PlainCore, PlainCores}
use Rattle.core_meaning.specs.PlainCore as c
use Rattle.core_meaning.specs.Work.{is_member}
use Rattle.core_meaning.proofs.Sites.{same}
use Rattle.core_normal.specs.Limits.{is_too_large}
use Rattle.core_normal.proofs.Binders as t
use Rattle.core_normal.proofs.Binders.{one}
use Rattle.core_normal.proofs.Fitting.{Fit, FitAll, FitBinds, FitKeys}

atom_fits : (a : Atom) → not (is_node (item_of_atom a)) ≡ true
atom_fits (IntAtom z) = refl
atom_fits (TextAtom x) = refl
atom_fits (UntypedAtom x) = refl
atom_fits (BoolAtom b) = refl

mutual
  pub fits_from : (ws : List ℕ) (core : PlainCore) → Fit ws core → (k : ℕ) → fits ws (expr_from k core) ≡ true
  fits_from ws (c.Lit o a) h k = atom_fits a
  fits_from ws (c.Empty o) h k = refl
  fits_from ws (c.Seq o a b) h k = and_from _ _ (fits_from ws a h.0 k) (fits_from ws b h.1 _)
  fits_from ws (c.Var o x) h k = h
  fits_from ws (c.Let o x a b) h k = and_from _ _ (fits_from ws a h.0 k) (fits_from (x ∷ ws) b h.1 _)
  fits_from ws (c.For o x p a b) h k = and_from _ _ (fits_from ws a h.0 k) (fits_from (x ∷ p ∷ ws) b h.1 _)
  fits_from ws (c.Sorted o ts ks b) h k =
      fits_spine ws ts ks b (λ m. Leaf (keys_from m ks) (expr_from (m + size.nodes_of_keys ks) b)) h
      (λ us m g. and_from _ _ (fits_keys us ks g.0 m) (fits_from us b g.1 _)) k
  fits_from ws (c.If o a b d) h k = and_from _ _ (and_from _ _ (fits_from ws a h.0 k) (fits_from ws b h.1 _)) (fits_from ws d h.2 _)
  fits_from ws (c.Call o f as') h k = and_from _ _ (h.0 k) (fits_cores ws as' h.1 k)
  fits_from ws (c.Step o f x t a) h k = and_from _ _ refl (and_from _ _ (fits_from ws a h k) refl)
  fits_from ws (c.Build o kind name a) h k = and_from _ _ (h.0 k) (fits_content ws name h.1 (λ m. expr_from m a) (λ m. fits_from ws a h.2 m) k)
  fits_from ws (c.Instance o a t) h k = and_from _ _ refl (and_from _ _ (fits_from ws a h k) refl)
  fits_from ws (c.Treat o a t) h k = and_from _ _ refl (and_from _ _ (fits_from ws a h k) refl)
  fits_from ws (c.Convert o a t) h k = and_from _ _ refl (and_from _ _ (fits_from ws a h k) refl)
  fits_from ws (c.Cast o a kind m) h k = and_from _ _ refl (and_from _ _ (fits_from ws a h k) refl)
  fits_from ws (c.Castable o a kind m) h k = and_from _ _ refl (and_from _ _ (fits_from ws a h k) refl)
  fits_from ws (c.Fail o code) h k = and_from _ _ h refl

  fits_cores : (ws : List ℕ) (as' : PlainCores) → FitAll ws as' → (k : ℕ) → fits_all ws (exprs_from k as') ≡ true
  fits_cores ws c.no_cores h k = refl
  fits_cores ws (c.one_core a as') h k = and_from _ _ (fits_from ws a h.0 k) (fits_cores ws as' h.1 _)

  fits_content : (ws : List ℕ) (name : PlainCores) → FitAll ws name → (last : ℕ → Expr) → ((m : ℕ) → fits ws (last m) ≡ true) → (k : ℕ) →
      fits_all ws (content_from k name last) ≡ true
  fits_content ws c.no_cores h last g k = and_from _ _ (g k) refl
  fits_content ws (c.one_core a as') h last g k = and_from _ _ (fits_from ws a h.0 k) (fits_content ws as' h.1 last g _)

  fits_keys : (ws : List ℕ) (ks : c.Keys) → FitKeys ws ks → (k : ℕ) → fits_all ws (keys_from k ks) ≡ true
  fits_keys ws c.no_keys h k = refl
  fits_keys ws (c.one_key (c.key_by a d g) ks) h k = and_from _ _ (fits_from ws a h.0 k) (fits_keys ws ks h.1 _)

  fits_spine : (ws : List ℕ) (ts : c.Binds) (ks : c.Keys) (b : PlainCore) (last : ℕ → Spine) → FitBinds ws ts (λ us. FitKeys us ks × Fit us b) →
      ((us : List ℕ) (m : ℕ) → FitKeys us ks × Fit us b → fits_in us (last m) ≡ true) → (k : ℕ) → fits_in ws (spine_from k ts last) ≡ true
  fits_spine ws c.no_binds ks b last h g k = g ws k h
  fits_spine ws (c.one_bind (c.for_bind x p a) ts) ks b last h g k = and_from _ _ (fits_from ws a h.0 k) (fits_spine (x ∷ p ∷ ws) ts ks b last h.1 g _)
  fits_spine ws (c.one_bind (c.let_bind x a) ts) ks b last h g k = and_from _ _ (fits_from ws a h.0 k) (fits_spine (x ∷ ws) ts ks b last h.1 g _)
  fits_spine ws (c.one_bind (c.where_bind a) ts) ks b last h g k = and_from _ _ (fits_from ws a h.0 k) (fits_spine ws ts ks b last h.1 g _)

-- how often a variable is among the binders
module _ (x : ℕ) where
  ones_append : (xs ys : List ℕ) → t.ones x (xs ++ ys) ≡ t.ones x xs + t.ones x ys
  ones_append [] ys = omega arith
  ones_append (y ∷ xs) ys = omega (arith, ones_append xs ys)

  mutual
    pub ones_from : (core : PlainCore) (k : ℕ) → t.ones x (binders (expr_from k core)) ≡ t.times x core
    ones_from (c.Lit o a) k = refl
    ones_from (c.Empty o) k = refl
    ones_from (c.Seq o a b) k =
        omega (arith, ones_append (binders (expr_from k a)) (binders (expr_from (k + size.nodes a) b)), ones_from a k, ones_from b (k + size.nodes a))
    ones_from (c.Var o y) k = refl
    ones_from (c.Let o y a b) k =
        omega (arith, ones_append (binders (expr_from k a)) (binders (expr_from (k + size.nodes a) b)), ones_from a k, ones_from b (k + size.nodes a))
    ones_from (c.For o y p a b) k =
        omega (arith, ones_append (binders (expr_from k a)) (binders (expr_from (k + size.nodes a) b)), ones_from a k, ones_from b (k + size.nodes a))
    ones_from (c.Sorted o ts ks b) k =
        ones_spine ts (λ m. Leaf (keys_from m ks) (expr_from (m + size.nodes_of_keys ks) b)) (t.times_keys x ks + t.times x b)
        (λ m. omega (arith, ones_append (binders_all (keys_from m ks)) (binders (expr_from (m + size.nodes_of_keys ks) b)), ones_keys ks m, ones_from b (m + size.nodes_of_keys ks))) k
    ones_from (c.If o a b d) k =
        omega (
          arith,
          ones_append (binders (expr_from k a) ++ binders (expr_from (k + size.nodes a) b)) (binders (expr_from (k + size.nodes a + size.nodes b) d)),
          ones_append (binders (expr_from k a)) (binders (expr_from (k + size.nodes a) b)),
          ones_from a k,
          ones_from b (k + size.nodes a),
          ones_from d (k + size.nodes a + size.nodes b),
        )
    ones_from (c.Call o f as') k = ones_cores as' k
    ones_from (c.Step o f y s a) k = omega (arith, ones_append (binders (expr_from k a)) [], ones_from a k)
    ones_from (c.Build o kind name a) k = ones_content name (λ m. expr_from m a) (t.times x a) (λ m. ones_from a m) k
    ones_from (c.Instance o a s) k = omega (arith, ones_append (binders (expr_from k a)) [], ones_from a k)
    ones_from (c.Treat o a s) k = omega (arith, ones_append (binders (expr_from k a)) [], ones_from a k)
    ones_from (c.Convert o a s) k = omega (arith, ones_append (binders (expr_from k a)) [], ones_from a k)
    ones_from (c.Cast o a kind m) k = omega (arith, ones_append (binders (expr_from k a)) [], ones_from a k)
    ones_from (c.Castable o a kind m) k = omega (arith, ones_append (binders (expr_from k a)) [], ones_from a k)
    ones_from (c.Fail o code) k = refl

    ones_cores : (as' : PlainCores) (k : ℕ) → t.ones x (binders_all (exprs_from k as')) ≡ t.times_all x as'
    ones_cores c.no_cores k = refl
    ones_cores (c.one_core a as') k =
        omega (arith, ones_append (binders (expr_from k a)) (binders_all (exprs_from (k + size.nodes a) as')), ones_from a k, ones_cores as' (k + size.nodes a))

    ones_content : (name : PlainCores) (last : ℕ → Expr) (i : ℕ) → ((m : ℕ) → t.ones x (binders (last m)) ≡ i) → (k : ℕ) →
        t.ones x (binders_all (content_from k name last)) ≡ t.times_all x name + i
    ones_content c.no_cores last i g k = omega (arith, ones_append (binders (last k)) [], g k)
    ones_content (c.one_core a as') last i g k =
        omega (
          arith,
          ones_append (binders (expr_from k a)) (binders_all (content_from (k + size.nodes a) as' last)),
          ones_from a k,
          ones_content as' last i g (k + size.nodes a),
        )

    ones_keys : (ks : c.Keys) (k : ℕ) → t.ones x (binders_all (keys_from k ks)) ≡ t.times_keys x ks
    ones_keys c.no_keys k = refl
    ones_keys (c.one_key (c.key_by a d g) ks) k =
        omega (arith, ones_append (binders (expr_from k a)) (binders_all (keys_from (k + size.nodes a) ks)), ones_from a k, ones_keys ks (k + size.nodes a))

    ones_spine : (ts : c.Binds) (last : ℕ → Spine) (i : ℕ) → ((m : ℕ) → t.ones x (binders_in (last m)) ≡ i) → (k : ℕ) →
        t.ones x (binders_in (spine_from k ts last)) ≡ t.times_binds x ts + i
    ones_spine c.no_binds last i g k = omega (arith, g k)
    ones_spine (c.one_bind (c.for_bind y p a) ts) last i g k =
        omega (arith, ones_append (binders (expr_from k a)) (binders_in (spine_from (k + size.nodes a) ts last)), ones_from a k, ones_spine ts last i g (k + size.nodes a))
    ones_spine (c.one_bind (c.let_bind y a) ts) last i g k =
        omega (arith, ones_append (binders (expr_from k a)) (binders_in (spine_from (k + size.nodes a) ts last)), ones_from a k, ones_spine ts last i g (k + size.nodes a))
    ones_spine (c.one_bind (c.where_bind a) ts) last i g k =
        omega (arith, ones_append (binders (expr_from k a)) (binders_in (spine_from (k + size.nodes a) ts last)), ones_from a k, ones_spine ts last i g (k + size.nodes a))

  not_there : (xs : List ℕ) → t.ones x xs ≡ 0 → is_member x xs ≡ false
  unfolding one
  not_there [] e = refl
  not_there (y ∷ ys) e = at (nat_eq x y) e (not_there ys)
    where
      at : (b : Bool) → (cond b 1 0) + t.ones x ys ≡ 0 → (t.ones x ys ≡ 0 → is_member x ys ≡ false) → (b || is_member x ys) ≡ false
      at true p h = absurd (omega (arith, p))
      at false p h = h (omega (arith, p))

  one_itself : t.one x x ≡ 1
  unfolding one
  one_itself = grind arith

differ : (xs : List ℕ) → ((x : ℕ) → t.ones x xs ≤ 1) → all_differ xs ≡ true
differ [] h = refl
differ (x ∷ xs) h =
    and_from _ _ (ap not (not_there x xs (omega (arith, h x, one_itself x)))) (differ xs (λ y. omega (arith, h y)))

few : (core : PlainCore) → is_too_large core ≡ false → nat_lt (nodes (expr_of core)) (2 ^ 32) ≡ true
few core e = lt-ltb (nodes (expr_of core)) (2 ^ 32) (omega (arith, same 0 core, within (nat_lt 65536 (size.nodes core)) (nat_lt 4096 (size.levels core)) refl e))
  where
    within : (a b : Bool) → nat_lt 65536 (size.nodes core) ≡ a → (a || b) ≡ false → size.nodes core ≤ 65536
    within true b p q = absurd (true≢false q)
    within false b p q = grind (arith, p)

pub lawful_from : (core : PlainCore) → Fit [] core → ((x : ℕ) → t.times x core ≤ 1) → is_too_large core ≡ false → is_lawful (expr_of core) ≡ true
lawful_from core fit once small =
    and_from _ _ (and_from _ _ (differ (binders (expr_of core)) (λ x. omega (arith, once x, ones_from x core 0))) (fits_from [] core fit 0)) (few core small)
