-- How many rows pass.
use Rattle.std.proofs.Common.{inl, inr, ◌≡◌, ℕ, zero, suc, ◌+◌, ◌<◌, Bool, true, false, not, ◌&&◌, cond, List, [], ◌∷◌, ◌++◌, length, map, refl, sym, ap, ◌∙◌, subst, arith, length-append}
use Rattle.std.specs.Prelude.{nat_lt}
use Rattle.std.proofs.lemmas.Bool.{lt-ltb, or_left, false≢true}
use Rattle.std.proofs.lemmas.Bool.Decides.{nat_tests}
use Rattle.std.proofs.lemmas.List.{length-map, append-nil}
use Rattle.doc_table.specs.Touched.{picked, count}
use Rattle.staircase.specs.declared.kinds.Ctx.{Ctx}
use Rattle.staircase.specs.Hits.{before, all_after, Ascending}
use Rattle.staircase.specs.Parts.{In}
use Rattle.staircase.proofs.SomeTests.{in-picked, picked-in}

not-both : (c d : Ctx) → before c d ≡ true → before d c ≡ true → ⊥
not-both c d p q = grind (arith, nat_tests)

after-in : (c d : Ctx) (cs : List Ctx) → all_after c cs → In d cs → before c d ≡ true
after-in c d [] h k = absurd k
after-in c d (x ∷ cs) h k = elim k [ inl e ↦ subst (λ (z : Ctx). before c z ≡ true) (sym e) h.0 | inr r ↦ after-in c d cs h.1 r ]

-- an ascending list is told by its elements
pub one-ascending : (xs ys : List Ctx) → Ascending xs → Ascending ys → ((h : Ctx) → In h xs → In h ys) → ((h : Ctx) → In h ys → In h xs) → xs ≡ ys
one-ascending [] [] a b f g = refl
one-ascending [] (y ∷ ys) a b f g = absurd (g y (inl refl))
one-ascending (x ∷ xs) [] a b f g = absurd (f x (inl refl))
one-ascending (x ∷ xs) (y ∷ ys) a b f g =
    let e : x ≡ y = elim (f x (inl refl)) [
      | inl e ↦ e
      | inr r ↦ elim (g y (inl refl)) [ inl e ↦ sym e | inr s ↦ absurd (not-both x y (after-in x y xs a.0 s) (after-in y x ys b.0 r)) ]
    ] in
    let rest : xs ≡ ys = one-ascending xs ys a.1 b.1
    (λ h k. elim (f h (inr k)) [ inl q ↦ absurd (self x (subst (λ (z : Ctx). before x z ≡ true) (q ∙ sym e) (after-in x h xs a.0 k))) | inr r ↦ r ])
    (λ h k. elim (g h (inr k)) [ inl q ↦ absurd (self y (subst (λ (z : Ctx). before y z ≡ true) (q ∙ e) (after-in y h ys b.0 k))) | inr r ↦ r ]) in
    ap (λ (z : Ctx). z ∷ xs) e ∙ ap (λ z. y ∷ z) rest
  where
    self : (c : Ctx) → before c c ≡ true → ⊥
    self c h = not-both c c h h

abbrev pub row_ctx : ℕ → Ctx
row_ctx v = record { iter = 0; pre = v; attr = 0 }

all-append : (c : Ctx) (xs ys : List Ctx) → all_after c xs → all_after c ys → all_after c (xs ++ ys)
all-append c [] ys h k = k
all-append c (x ∷ xs) ys h k = (h.0, all-append c xs ys h.1 k)

after-each : (c : Ctx) (n : ℕ) (xs : List ℕ) → ((v : ℕ) → In v xs → c.pre < v) → all_after c (map row_ctx xs)
after-each c n [] f = tt
after-each c n (x ∷ xs) f = (or_left (nat_lt c.pre x) _ (lt-ltb c.pre x (f x (inl refl))), after-each c n xs (λ v i. f v (inr i)))

ascending-append : (xs : List ℕ) (n : ℕ) → Ascending (map row_ctx xs) → ((v : ℕ) → In v xs → v < n) → Ascending (map row_ctx xs ++ row_ctx n ∷ [])
ascending-append [] n a f = (tt, tt)
ascending-append (x ∷ xs) n a f = (all-append (row_ctx x) (map row_ctx xs) (row_ctx n ∷ []) a.0 (or_left (nat_lt x n) _ (lt-ltb x n (f x (inl refl))), tt), ascending-append xs n a.1 (λ v i. f v (inr i)))

map-snoc : (xs ys : List ℕ) → map row_ctx (xs ++ ys) ≡ map row_ctx xs ++ map row_ctx ys
map-snoc [] ys = refl
map-snoc (x ∷ xs) ys = ap (λ z. row_ctx x ∷ z) (map-snoc xs ys)

picked-ascends : (p : ℕ → Bool) (n : ℕ) → Ascending (map row_ctx (picked p n))
picked-ascends p zero = tt
picked-ascends p (suc n) = subst Ascending (sym (map-snoc (picked p n) (cond (p n) (n ∷ []) []))) (go (p n) (picked-ascends p n))
  where
    go : (b : Bool) → Ascending (map row_ctx (picked p n)) → Ascending (map row_ctx (picked p n) ++ map row_ctx (cond b (n ∷ []) []))
    go true a = ascending-append (picked p n) n a (λ v i. (picked-in p n v i).0)
    go false a = subst Ascending (sym (append-nil (map row_ctx (picked p n)))) a

in-rows : (v : ℕ) (xs : List ℕ) → In v xs → In (row_ctx v) (map row_ctx xs)
in-rows v [] h = absurd h
in-rows v (x ∷ xs) h = elim h [ inl e ↦ inl (ap row_ctx e) | inr r ↦ inr (in-rows v xs r) ]

rows-in : (c : Ctx) (xs : List ℕ) → In c (map row_ctx xs) → (v : ℕ) × In v xs × (c ≡ row_ctx v)
rows-in c [] h = absurd h
rows-in c (x ∷ xs) h = elim h [ inl e ↦ (x, inl refl, e) | inr r ↦ (let k = rows-in c xs r in (k.0, inr k.1, k.2)) ]

-- an ascending list of exactly the rows that pass is as long as there are such rows
pub count-hits : (p : ℕ → Bool) (n : ℕ) (hs : List Ctx) → Ascending hs → ((c : Ctx) → In c hs → (v : ℕ) × (v < n) × (p v ≡ true) × (c ≡ row_ctx v)) → ((v : ℕ) → v < n → p v ≡ true → In (row_ctx v) hs) → length hs ≡ count p n
count-hits p n hs a f g =
    let same : hs ≡ map row_ctx (picked p n) = one-ascending hs (map row_ctx (picked p n)) a (picked-ascends p n)
    (λ c i. let r = f c i in subst (λ (z : Ctx). In z (map row_ctx (picked p n))) (sym r.3) (in-rows r.0 (picked p n) (in-picked p n r.0 r.1 r.2)))
    (λ c i. let r = rows-in c (picked p n) i in let q = picked-in p n r.0 r.1 in subst (λ (z : Ctx). In z hs) (sym r.2) (g r.0 q.0 q.1)) in
    ap length same ∙ length-map (picked p n) row_ctx

count-step : (p : ℕ → Bool) (n : ℕ) → count p (suc n) ≡ count p n + cond (p n) 1 0
count-step p n = length-append (picked p n) (cond (p n) (n ∷ []) []) ∙ ap (λ z. count p n + z) (one (p n))
  where
    one : (b : Bool) → length (cond b (n ∷ []) []) ≡ cond b 1 0
    one true = refl
    one false = refl

numbers : (a b c d e f : ℕ) (x y : Bool) → (y ≡ true → x ≡ true) → a ≡ c + e → b ≡ a + cond x 1 0 → d ≡ c + cond (x && not y) 1 0 → f ≡ e + cond y 1 0 → b ≡ d + f
numbers a b c d e f true true g h i j k = omega arith
numbers a b c d e f true false g h i j k = omega arith
numbers a b c d e f false true g h i j k = absurd (false≢true (g refl))
numbers a b c d e f false false g h i j k = omega arith

-- those that pass are those that pass besides, and the others
pub count-parts : (p q : ℕ → Bool) (n : ℕ) → ((v : ℕ) → v < n → q v ≡ true → p v ≡ true) → count p n ≡ count (λ v. p v && not (q v)) n + count q n
count-parts p q zero f = refl
count-parts p q (suc n) f = numbers (count p n) (count p (suc n)) (count (λ v. p v && not (q v)) n) (count (λ v. p v && not (q v)) (suc n)) (count q n) (count q (suc n)) (p n) (q n) (λ e. f n (omega arith) e) (count-parts p q n (λ v l e. f v (omega arith) e)) (count-step p n) (count-step (λ v. p v && not (q v)) n) (count-step q n)
