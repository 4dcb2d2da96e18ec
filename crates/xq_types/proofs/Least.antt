-- The refused sites of an expression ascend, so the first one is the least.
use Rattle.std.proofs.Common.{◌≡◌, ℕ, ◌+◌, ◌≤◌, Bool, true, false, cond, ◌&&◌, List, [], ◌∷◌, ◌++◌, Option, Some, None, nat_eq, nat_lt, refl, ap, ◌∙◌, arith}
use Rattle.std.proofs.lemmas.Bool.{and_parts, eqb-true, ltb-true}
use Rattle.core_meaning.specs.Expr.{Site, Expr, Exprs, Spine, Lit, Empty, Var, Seq, Let, For, If, Sorted, Call, no_more, one_more, Leaf, ForBind, LetBind, WhereBind}
use Rattle.core_meaning.specs.Lawful.{nodes, nodes_all, nodes_in, is_sited, sited_all, sited_in}
use Rattle.xq_types.specs.Typing.{TypeEnv, with_type, loop_types, type_of, types_of}
use Rattle.xq_types.specs.Refusals.{rule_refuses, site_if, refused, refused_all, refused_in, lesser_site, least_site}

-- the numbers of the sites ascend from this one on, below another one
abbrev Ascends : ℕ → ℕ → List Site → Type 0
Ascends lo hi [] = lo ≤ hi
Ascends lo hi (s ∷ ss) = (lo ≤ s.number) × Ascends (s.number + 1) hi ss

lower : (lo lo' hi : ℕ) (xs : List Site) → lo' ≤ lo → Ascends lo hi xs → Ascends lo' hi xs
lower lo lo' hi [] p h = omega (arith, p, h)
lower lo lo' hi (x ∷ xs) p h = (omega (arith, p, h.0), h.1)

higher : (lo hi hi' : ℕ) (xs : List Site) → hi ≤ hi' → Ascends lo hi xs → Ascends lo hi' xs
higher lo hi hi' [] p h = omega (arith, p, h)
higher lo hi hi' (x ∷ xs) p h = (h.0, higher (x.number + 1) hi hi' xs p h.1)

joined : (lo mid hi : ℕ) (xs ys : List Site) → Ascends lo mid xs → Ascends mid hi ys → Ascends lo hi (xs ++ ys)
joined lo mid hi [] ys h g = lower mid lo hi ys h g
joined lo mid hi (x ∷ xs) ys h g = (h.0, joined (x.number + 1) mid hi xs ys h.1 g)

own_site : (n : ℕ) (b : Bool) (site : Site) → site.number ≡ n → Ascends n (n + 1) (site_if b site)
own_site n true site p = (omega (arith, p), omega (arith, p))
own_site n false site p = omega arith

two_ascend : (n l m : ℕ) (xs ys : List Site) → Ascends n (n + l) xs → Ascends (n + l) (n + l + m) ys → Ascends n (n + (l + m + 1)) (xs ++ ys)
two_ascend n l m xs ys h g = higher n (n + l + m) (n + (l + m + 1)) (xs ++ ys) (omega arith) (joined n (n + l) (n + l + m) xs ys h g)

behind : (n l m : ℕ) (xs ys : List Site) → Ascends n (n + l) xs → Ascends (n + l) (n + l + m) ys → Ascends n (n + (l + m)) (xs ++ ys)
behind n l m xs ys h g = higher n (n + l + m) (n + (l + m)) (xs ++ ys) (omega arith) (joined n (n + l) (n + l + m) xs ys h g)

mutual
  ascends : (e : Expr) (n : ℕ) (types : TypeEnv) → is_sited n e ≡ true → Ascends n (n + nodes e) (refused types e)
  ascends (Lit v) n types h = omega arith
  ascends Empty n types h = omega arith
  ascends (Var x) n types h = omega arith
  ascends (Seq a b) n types h =
      let p = and_parts (is_sited n a) (is_sited (n + nodes a) b) h in
      two_ascend n (nodes a) (nodes b) (refused types a) (refused types b) (ascends a n types p.0) (ascends b (n + nodes a) types p.1)
  ascends (Let x b e) n types h =
      let p = and_parts (is_sited n b) (is_sited (n + nodes b) e) h in
      let inner = with_type types x (type_of types b) in
      two_ascend n (nodes b) (nodes e) (refused types b) (refused inner e) (ascends b n types p.0) (ascends e (n + nodes b) inner p.1)
  ascends (For x y s e) n types h =
      let p = and_parts (is_sited n s) (is_sited (n + nodes s) e) h in
      let inner = loop_types x y (type_of types s) types in
      two_ascend n (nodes s) (nodes e) (refused types s) (refused inner e) (ascends s n types p.0) (ascends e (n + nodes s) inner p.1)
  ascends (If c a b) n types h =
      let p = and_parts (is_sited n c && is_sited (n + nodes c) a) (is_sited (n + nodes c + nodes a) b) h in
      let q = and_parts (is_sited n c) (is_sited (n + nodes c) a) p.0 in
      let first = joined n (n + nodes c) (n + nodes c + nodes a) (refused types c) (refused types a) (ascends c n types q.0) (ascends a (n + nodes c) types q.1) in
      higher n (n + nodes c + nodes a + nodes b) (n + nodes (If c a b)) (refused types c ++ refused types a ++ refused types b) (omega arith)
      (joined n (n + nodes c + nodes a) (n + nodes c + nodes a + nodes b) (refused types c ++ refused types a) (refused types b) first (ascends b (n + nodes c + nodes a) types p.1))
  ascends (Sorted site os sp) n types h =
      higher n (n + nodes_in sp) (n + nodes (Sorted site os sp)) (refused_in types sp) (omega arith) (ascends_in sp n types (and_parts (nat_eq site.number (n + nodes_in sp)) (sited_in n sp) h).1)
  ascends (Call site r es) n types h =
      let p = and_parts (nat_eq site.number (n + nodes_all es)) (sited_all n es) h in
      let b = rule_refuses r (types_of types es) in
      higher n (n + nodes_all es + 1) (n + nodes (Call site r es)) (refused_all types es ++ site_if b site) (omega arith)
      (joined n (n + nodes_all es) (n + nodes_all es + 1) (refused_all types es) (site_if b site) (ascends_all es n types p.1) (own_site (n + nodes_all es) b site (eqb-true site.number (n + nodes_all es) p.0)))

  ascends_all : (es : Exprs) (n : ℕ) (types : TypeEnv) → sited_all n es ≡ true → Ascends n (n + nodes_all es) (refused_all types es)
  ascends_all no_more n types h = omega arith
  ascends_all (one_more e es) n types h =
      let p = and_parts (is_sited n e) (sited_all (n + nodes e) es) h in
      higher n (n + nodes e + nodes_all es) (n + nodes_all (one_more e es)) (refused types e ++ refused_all types es) (omega arith)
      (joined n (n + nodes e) (n + nodes e + nodes_all es) (refused types e) (refused_all types es) (ascends e n types p.0) (ascends_all es (n + nodes e) types p.1))

  ascends_in : (sp : Spine) (n : ℕ) (types : TypeEnv) → sited_in n sp ≡ true → Ascends n (n + nodes_in sp) (refused_in types sp)
  ascends_in (Leaf ks e) n types h =
      let p = and_parts (sited_all n ks) (is_sited (n + nodes_all ks) e) h in
      higher n (n + nodes_all ks + nodes e) (n + nodes_in (Leaf ks e)) (refused_all types ks ++ refused types e) (omega arith)
      (joined n (n + nodes_all ks) (n + nodes_all ks + nodes e) (refused_all types ks) (refused types e) (ascends_all ks n types p.0) (ascends e (n + nodes_all ks) types p.1))
  ascends_in (ForBind x y s sp) n types h =
      let p = and_parts (is_sited n s) (sited_in (n + nodes s) sp) h in
      let inner = loop_types x y (type_of types s) types in
      behind n (nodes s) (nodes_in sp) (refused types s) (refused_in inner sp) (ascends s n types p.0) (ascends_in sp (n + nodes s) inner p.1)
  ascends_in (LetBind x b sp) n types h =
      let p = and_parts (is_sited n b) (sited_in (n + nodes b) sp) h in
      let inner = with_type types x (type_of types b) in
      behind n (nodes b) (nodes_in sp) (refused types b) (refused_in inner sp) (ascends b n types p.0) (ascends_in sp (n + nodes b) inner p.1)
  ascends_in (WhereBind c sp) n types h =
      let p = and_parts (is_sited n c) (sited_in (n + nodes c) sp) h in
      behind n (nodes c) (nodes_in sp) (refused types c) (refused_in types sp) (ascends c n types p.0) (ascends_in sp (n + nodes c) types p.1)

abbrev pub first_site : List Site → Option Site
first_site [] = None
first_site (s ∷ ss) = Some s

not_below : (a b : ℕ) (t s : Site) → b ≤ a → cond (nat_lt a b) t s ≡ s
not_below a b t s h = at (nat_lt a b) refl
  where
    at : (v : Bool) → nat_lt a b ≡ v → cond v t s ≡ s
    at true p = absurd (omega (arith, ltb-true a b p, h))
    at false p = refl

first_is_least : (lo hi : ℕ) (ss : List Site) → Ascends lo hi ss → least_site ss ≡ first_site ss
first_is_least lo hi [] h = refl
first_is_least lo hi (s ∷ []) h = refl
first_is_least lo hi (s ∷ t ∷ ts) h =
    ap (λ o. Some (lesser_site s o)) (first_is_least (s.number + 1) hi (t ∷ ts) h.1) ∙ ap Some (not_below t.number s.number t s (omega (arith, h.1.0)))

pub least_is_first : (e : Expr) (n : ℕ) (types : TypeEnv) → is_sited n e ≡ true → least_site (refused types e) ≡ first_site (refused types e)
least_is_first e n types h = first_is_least n (n + nodes e) (refused types e) (ascends e n types h)
