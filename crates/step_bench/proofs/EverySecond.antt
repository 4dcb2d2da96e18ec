-- The context of every second row ascends, and names nodes of the tree.
use Rattle.std.proofs.Common.{inl, inr, ◌≡◌, ℕ, zero, suc, ◌+◌, ◌*◌, ◌-◌, ◌/◌, ◌<◌, ◌≤◌, false, true, List, [], ◌∷◌, ◌++◌, length, refl, sym, subst, arith}
use Rattle.std.specs.Prelude.{nat_lt}
use Rattle.std.proofs.lemmas.Bool.{lt-ltb, or_left}
use Rattle.std.proofs.lemmas.Bool.Decides.{nat_tests}
use Rattle.std.proofs.Math.Nat.{mul-div-le}
use Rattle.xq_base.specs.declared.item.TextId.{TextId}
use Rattle.doc_table.specs.Tree.{Tree}
use Rattle.doc_table.specs.Enc.{enc}
use Rattle.doc_table.specs.Places.{is_lone, names_node}
use Rattle.staircase.specs.declared.kinds.Ctx.{Ctx}
use Rattle.staircase.specs.Hits.{before, all_after, Ascending}
use Rattle.staircase.specs.Joins.{AreNodes}
use Rattle.staircase.specs.Parts.{In}
use Rattle.staircase.proofs.Elements.{in-parts}
use Rattle.doc_table.proofs.RowNodes.{row_named}
use Rattle.step_bench.specs.Context.{row_in, both, first_rows, every_second}

-- a row of the tree up to a number, and not its first one
record IsRow (most : ℕ) (c : Ctx) : Type 0 where
  pub plain : c.attr ≡ 0
  pub some : 0 < c.pre
  pub within : c.pre ≤ most

both-rows : (v : ℕ) (c : Ctx) → 0 < v → In c (both v) → IsRow v c
both-rows v c p (inl e) = subst (IsRow v) (sym e) (record { plain = refl; some = p; within = omega arith })
both-rows v c p (inr (inl e)) = subst (IsRow v) (sym e) (record { plain = refl; some = p; within = omega arith })
both-rows v c p (inr (inr e)) = absurd e

first-rows : (n : ℕ) (c : Ctx) → In c (first_rows n) → IsRow (2 * n) c
first-rows zero c i = absurd i
first-rows (suc n) c i = elim (in-parts c (first_rows n) (both (2 * n + 2)) i) [
  | inl a ↦ (let r = first-rows n c a in record { plain = r.plain; some = r.some; within = omega (arith, r.within) })
  | inr b ↦ (let r = both-rows (2 * n + 2) c (omega arith) b in record { plain = r.plain; some = r.some; within = omega (arith, r.within) })
]

-- ---- they ascend

before-row : (c : Ctx) (iter v : ℕ) → c.pre < v → before c (row_in iter v) ≡ true
before-row c iter v h = or_left (nat_lt c.pre v) _ (lt-ltb c.pre v h)

two-ascend : (v : ℕ) → before (row_in 0 v) (row_in 1 v) ≡ true
two-ascend v = grind (arith, nat_tests)

after-more : (c : Ctx) (xs : List Ctx) (v : ℕ) → all_after c xs → c.pre < v → all_after c (xs ++ both v)
after-more c [] v a h = (before-row c 0 v h, (before-row c 1 v h, tt))
after-more c (x ∷ xs) v a h = (a.0, after-more c xs v a.1 h)

ascend-more : (xs : List Ctx) (v : ℕ) → Ascending xs → ((c : Ctx) → In c xs → c.pre < v) → Ascending (xs ++ both v)
ascend-more [] v a f = ((two-ascend v, tt), (tt, tt))
ascend-more (x ∷ xs) v a f = (after-more x xs v a.0 (f x (inl refl)), ascend-more xs v a.1 (λ c i. f c (inr i)))

first-ascend : (n : ℕ) → Ascending (first_rows n)
first-ascend zero = tt
first-ascend (suc n) = ascend-more (first_rows n) (2 * n + 2) (first-ascend n) (λ c i. omega (arith, (first-rows n c i).within))

pub second_ascend : (n : ℕ) → Ascending (every_second n)
second_ascend n = first-ascend ((n - 1) / 2)

-- ---- they are nodes

pub second_named : (t : Tree TextId) → is_lone t ≡ false → AreNodes t (every_second (length (enc t)))
second_named t e c i =
    let r = first-rows ((length (enc t) - 1) / 2) c i in
    subst (λ k. names_node t (record { pre = c.pre; attr = k }) ≡ true) (sym r.plain) (row_named t c.pre e (omega (arith, r.some, r.within, mul-div-le (length (enc t) - 1) 2)))

-- ---- one row more

pub one_more_row : (n : ℕ) → first_rows (n + 1) ≡ first_rows n ++ both (2 * n + 2)
one_more_row n = let e : n + 1 ≡ suc n = omega arith in rw e refl
