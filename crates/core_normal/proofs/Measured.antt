-- Both sizes of a Core at once, and what is known of the sizes of declared functions' bodies.
use Rattle.std.proofs.Common.{◌≡◌, refl, arith, ℕ, List, [], ◌∷◌, Option}
use Rattle.core_meaning.specs.Types.{SequenceTest}
use Rattle.core_meaning.specs.PlainCore.{PlainCore, PlainCores, Binds, Keys}
use Rattle.core_meaning.specs.PlainCore as c
use Rattle.core_meaning.specs.Size as m
use Rattle.core_normal.specs.Fresh.{Makes}
use Rattle.core_normal.specs.Pieces.{Inlined, converted}
use Rattle.core_normal.specs.Sizes.{Size, nothing, beside, over, FunSize}

abbrev mutual
  pub size : PlainCore → Size
  size (c.Lit o a) = over nothing
  size (c.Empty o) = over nothing
  size (c.Seq o a b) = over (beside (size a) (size b))
  size (c.Var o x) = over nothing
  size (c.Let o x a b) = over (beside (size a) (size b))
  size (c.For o x p a b) = over (beside (size a) (size b))
  size (c.Sorted o bs ks b) = over (beside (size_binds bs) (beside (size_keys ks) (size b)))
  size (c.If o a b d) = over (beside (size a) (beside (size b) (size d)))
  size (c.Call o f as') = over (size_all as')
  size (c.Step o from' axis test a) = over (size a)
  size (c.Build o k n a) = over (beside (size_all n) (size a))
  size (c.Instance o a t) = over (size a)
  size (c.Treat o a t) = over (size a)
  size (c.Convert o a t) = over (size a)
  size (c.Cast o a k q) = over (size a)
  size (c.Castable o a k q) = over (size a)
  size (c.Fail o d) = over nothing

  pub size_all : PlainCores → Size
  size_all c.no_cores = nothing
  size_all (c.one_core a as') = beside (size a) (size_all as')

  pub size_binds : Binds → Size
  size_binds c.no_binds = nothing
  size_binds (c.one_bind (c.for_bind x p a) bs) = beside (size a) (size_binds bs)
  size_binds (c.one_bind (c.let_bind x a) bs) = beside (size a) (size_binds bs)
  size_binds (c.one_bind (c.where_bind a) bs) = beside (size a) (size_binds bs)

  pub size_keys : Keys → Size
  size_keys c.no_keys = nothing
  size_keys (c.one_key (c.key_by a d g) ks) = beside (size a) (size_keys ks)

abbrev pub sizes : PlainCores → List Size
sizes c.no_cores = []
sizes (c.one_core a as') = size a ∷ sizes as'

abbrev pub AsLong : List ℕ → List (Option SequenceTest) → Type 0
AsLong [] [] = Unit {0}
AsLong (x ∷ xs) (t ∷ ts) = AsLong xs ts
AsLong _ _ = ⊥

pub record HasSize (f : Inlined) (s : FunSize) : Type 0 where
  pub types : f.types ≡ s.types
  pub long : AsLong f.vars f.types
  pub body : size (converted 0 f.result f.body) ≡ s.body

abbrev pub Agree : (ℕ → Makes Inlined) → (ℕ → FunSize) → Type 0
Agree bodies funs = (k n : ℕ) → HasSize ((bodies k n).made) (funs k)

-- each is that of core_meaning
mutual
  pub nodes_law : (a : PlainCore) → (size a).nodes ≡ m.nodes a
  nodes_law (c.Lit o a) = refl
  nodes_law (c.Empty o) = refl
  nodes_law (c.Seq o a b) = omega (arith, nodes_law a, nodes_law b)
  nodes_law (c.Var o x) = refl
  nodes_law (c.Let o x a b) = omega (arith, nodes_law a, nodes_law b)
  nodes_law (c.For o x p a b) = omega (arith, nodes_law a, nodes_law b)
  nodes_law (c.Sorted o bs ks b) = omega (arith, nodes_of_binds bs, nodes_of_keys ks, nodes_law b)
  nodes_law (c.If o a b d) = omega (arith, nodes_law a, nodes_law b, nodes_law d)
  nodes_law (c.Call o f as') = omega (arith, nodes_of_all as')
  nodes_law (c.Step o from' axis test a) = omega (arith, nodes_law a)
  nodes_law (c.Build o k n a) = omega (arith, nodes_of_all n, nodes_law a)
  nodes_law (c.Instance o a t) = omega (arith, nodes_law a)
  nodes_law (c.Treat o a t) = omega (arith, nodes_law a)
  nodes_law (c.Convert o a t) = omega (arith, nodes_law a)
  nodes_law (c.Cast o a k q) = omega (arith, nodes_law a)
  nodes_law (c.Castable o a k q) = omega (arith, nodes_law a)
  nodes_law (c.Fail o d) = refl

  nodes_of_all : (as' : PlainCores) → (size_all as').nodes ≡ m.nodes_of_all as'
  nodes_of_all c.no_cores = refl
  nodes_of_all (c.one_core a as') = omega (arith, nodes_law a, nodes_of_all as')

  nodes_of_binds : (bs : Binds) → (size_binds bs).nodes ≡ m.nodes_of_binds bs
  nodes_of_binds c.no_binds = refl
  nodes_of_binds (c.one_bind (c.for_bind x p a) bs) = omega (arith, nodes_law a, nodes_of_binds bs)
  nodes_of_binds (c.one_bind (c.let_bind x a) bs) = omega (arith, nodes_law a, nodes_of_binds bs)
  nodes_of_binds (c.one_bind (c.where_bind a) bs) = omega (arith, nodes_law a, nodes_of_binds bs)

  nodes_of_keys : (ks : Keys) → (size_keys ks).nodes ≡ m.nodes_of_keys ks
  nodes_of_keys c.no_keys = refl
  nodes_of_keys (c.one_key (c.key_by a d g) ks) = omega (arith, nodes_law a, nodes_of_keys ks)

mutual
  pub levels_law : (a : PlainCore) → (size a).levels ≡ m.levels a
  levels_law (c.Lit o a) = refl
  levels_law (c.Empty o) = refl
  levels_law (c.Seq o a b) = simp (levels_law a, levels_law b)
  levels_law (c.Var o x) = refl
  levels_law (c.Let o x a b) = simp (levels_law a, levels_law b)
  levels_law (c.For o x p a b) = simp (levels_law a, levels_law b)
  levels_law (c.Sorted o bs ks b) = simp (levels_of_binds bs, levels_of_keys ks, levels_law b)
  levels_law (c.If o a b d) = simp (levels_law a, levels_law b, levels_law d)
  levels_law (c.Call o f as') = simp (levels_of_all as')
  levels_law (c.Step o from' axis test a) = simp (levels_law a)
  levels_law (c.Build o k n a) = simp (levels_of_all n, levels_law a)
  levels_law (c.Instance o a t) = simp (levels_law a)
  levels_law (c.Treat o a t) = simp (levels_law a)
  levels_law (c.Convert o a t) = simp (levels_law a)
  levels_law (c.Cast o a k q) = simp (levels_law a)
  levels_law (c.Castable o a k q) = simp (levels_law a)
  levels_law (c.Fail o d) = refl

  levels_of_all : (as' : PlainCores) → (size_all as').levels ≡ m.levels_of_all as'
  levels_of_all c.no_cores = refl
  levels_of_all (c.one_core a as') = simp (levels_law a, levels_of_all as')

  levels_of_binds : (bs : Binds) → (size_binds bs).levels ≡ m.levels_of_binds bs
  levels_of_binds c.no_binds = refl
  levels_of_binds (c.one_bind (c.for_bind x p a) bs) = simp (levels_law a, levels_of_binds bs)
  levels_of_binds (c.one_bind (c.let_bind x a) bs) = simp (levels_law a, levels_of_binds bs)
  levels_of_binds (c.one_bind (c.where_bind a) bs) = simp (levels_law a, levels_of_binds bs)

  levels_of_keys : (ks : Keys) → (size_keys ks).levels ≡ m.levels_of_keys ks
  levels_of_keys c.no_keys = refl
  levels_of_keys (c.one_key (c.key_by a d g) ks) = simp (levels_law a, levels_of_keys ks)
