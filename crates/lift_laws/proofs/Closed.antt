-- An expression that fits has no other free variables than those that stand round it.
use Rattle.std.proofs.Common.{◌≡◌, ℕ, Bool, true, false, ◌&&◌, ◌||◌, List, [], ◌∷◌, refl, sym, subst, ⊎_elim, nat_eq, true≢false}
use Rattle.std.proofs.lemmas.Bool.{and_parts, eqb-true}
use Rattle.core_meaning.specs.Expr.{Expr, Exprs, Spine, Lit, Empty, Var, Seq, Let, For, If, Sorted, Call, no_more, one_more, Leaf, ForBind, LetBind, WhereBind}
use Rattle.core_meaning.specs.Lawful.{rule_fits, fits, fits_all, fits_in}
use Rattle.core_meaning.specs.Work.{is_member, union, without, free, free_all, free_in}
use Rattle.lift_laws.proofs.Free.{in_one, without_one}

none_in : (y : ℕ) → is_member y [] ≡ true → ⊥
none_in y h = true≢false (sym h)

self_in : (y x : ℕ) (vars : List ℕ) → is_member y (x ∷ []) ≡ true → is_member x vars ≡ true → is_member y vars ≡ true
self_in y x vars h k = go (nat_eq y x) refl h
  where
    go : (b : Bool) → nat_eq y x ≡ b → (b || false) ≡ true → is_member y vars ≡ true
    go true e q = subst (λ z. is_member z vars ≡ true) (sym (eqb-true y x e)) k
    go false e q = absurd (true≢false (sym q))

other_in : (y x : ℕ) (vars : List ℕ) → (y ≡ x → ⊥) → is_member y (x ∷ vars) ≡ true → is_member y vars ≡ true
other_in y x vars ne h = go (nat_eq y x) refl h
  where
    go : (b : Bool) → nat_eq y x ≡ b → (b || is_member y vars) ≡ true → is_member y vars ≡ true
    go true e q = absurd (ne (eqb-true y x e))
    go false e q = q

-- the variables of a list stand in a scope
abbrev Within : List ℕ → List ℕ → Type 0
Within ys vars = (y : ℕ) → is_member y ys ≡ true → is_member y vars ≡ true

either : (us vs vars : List ℕ) → Within us vars → Within vs vars → Within (union us vs) vars
either us vs vars f g y h = ⊎_elim (λ k. f y k) (λ k. g y k) (in_one us vs y h)

but_one : (x : ℕ) (ys vars : List ℕ) → Within ys (x ∷ vars) → Within (without x ys) vars
but_one x ys vars f y h = let k = without_one x ys y h in other_in y x vars k.0 (f y k.1)

mutual
  pub free_within : (vars : List ℕ) (e : Expr) → fits vars e ≡ true → Within (free e) vars
  free_within vars (Lit a) t y h = absurd (none_in y h)
  free_within vars Empty t y h = absurd (none_in y h)
  free_within vars (Var x) t y h = self_in y x vars h t
  free_within vars (Seq a b) t y h = let p = and_parts (fits vars a) (fits vars b) t in either (free a) (free b) vars (free_within vars a p.0) (free_within vars b p.1) y h
  free_within vars (Let x b e) t y h = let p = and_parts (fits vars b) (fits (x ∷ vars) e) t in either (free b) (without x (free e)) vars (free_within vars b p.0) (but_one x (free e) vars (free_within (x ∷ vars) e p.1)) y h
  free_within vars (For x q s e) t y h =
      let p = and_parts (fits vars s) (fits (x ∷ q ∷ vars) e) t in
      either (free s) (without q (without x (free e))) vars (free_within vars s p.0) (but_one q (without x (free e)) vars (but_one x (free e) (q ∷ vars) (free_within (x ∷ q ∷ vars) e p.1))) y h
  free_within vars (If c a b) t y h =
      let p = and_parts (fits vars c && fits vars a) (fits vars b) t in
      let q = and_parts (fits vars c) (fits vars a) p.0 in
      either (free c) (union (free a) (free b)) vars (free_within vars c q.0) (either (free a) (free b) vars (free_within vars a q.1) (free_within vars b p.1)) y h
  free_within vars (Sorted site os sp) t y h = within_in vars sp t y h
  free_within vars (Call site r es) t y h = within_all vars es (and_parts (rule_fits r es) (fits_all vars es) t).1 y h

  within_all : (vars : List ℕ) (es : Exprs) → fits_all vars es ≡ true → Within (free_all es) vars
  within_all vars no_more t y h = absurd (none_in y h)
  within_all vars (one_more e es) t y h = let p = and_parts (fits vars e) (fits_all vars es) t in either (free e) (free_all es) vars (free_within vars e p.0) (within_all vars es p.1) y h

  within_in : (vars : List ℕ) (sp : Spine) → fits_in vars sp ≡ true → Within (free_in sp) vars
  within_in vars (Leaf ks e) t y h = let p = and_parts (fits_all vars ks) (fits vars e) t in either (free_all ks) (free e) vars (within_all vars ks p.0) (free_within vars e p.1) y h
  within_in vars (ForBind x q s sp) t y h =
      let p = and_parts (fits vars s) (fits_in (x ∷ q ∷ vars) sp) t in
      either (free s) (without q (without x (free_in sp))) vars (free_within vars s p.0) (but_one q (without x (free_in sp)) vars (but_one x (free_in sp) (q ∷ vars) (within_in (x ∷ q ∷ vars) sp p.1))) y h
  within_in vars (LetBind x b sp) t y h = let p = and_parts (fits vars b) (fits_in (x ∷ vars) sp) t in either (free b) (without x (free_in sp)) vars (free_within vars b p.0) (but_one x (free_in sp) vars (within_in (x ∷ vars) sp p.1)) y h
  within_in vars (WhereBind c sp) t y h = let p = and_parts (fits vars c) (fits_in vars sp) t in either (free c) (free_in sp) vars (free_within vars c p.0) (within_in vars sp p.1) y h
