-- The least failure of all iterations at once is the first failure of the reached evaluations.
use Rattle.std.proofs.Common.{◌≡◌, ℕ, ◌+◌, ◌≤◌, Bool, true, false, cond, not, ◌&&◌, ◌||◌, List, [], ◌∷◌, map, refl, sym, ap, ◌∙◌, subst, arith, nat_eq, nat_lt, slice_index_or, true≢false, Option, Some, None}
use Rattle.std.specs.List.{filter}
use Rattle.std.proofs.lemmas.Bool.{ltb-true, ltb-false, eqb-true, eq-eqb, and_parts, and_from}
use denote.Enum.Bare.{same_true}
use Rattle.xq_base.specs.declared.code.Code.{Code}
use Rattle.xq_base.specs.contracts.code.Code.{the_type}
use Rattle.xq_base.specs.declared.code.Code.TheVariants as c
use Rattle.xq_base.specs.Answers.{check_rank}
use Rattle.doc_table.specs.NodeRules.{Docs}
use Rattle.plan_dag.specs.ItemRules.{Cell}
use Rattle.plan_dag.specs.Rows.{code_eq}
use Rattle.core_meaning.specs.Expr.{Site, Expr}
use Rattle.core_meaning.specs.Failures.{Failure, fails, is_before, lesser_of, first}
use Rattle.core_meaning.specs.Lawful.{is_dynamic}
use Rattle.lift_laws.specs.Sums.{total, bit, count, AllOf, Same}
use Rattle.lift_laws.specs.Iterations.{Iter, num}
use Rattle.lift_laws.specs.Bulk.{Fault, faults}
use Rattle.lift_laws.specs.Lifting.{numbers_at}
use Rattle.lift_laws.specs.Verdicts.{IsFirst}
use Rattle.lift_laws.proofs.Multi.{total-map, total-keep, same-of, same-trans, same-sym}
use Rattle.lift_laws.proofs.Picks.{all_mono, all-map}
use Rattle.lift_laws.proofs.Keeping.{append_none}
use Rattle.lift_laws.proofs.WholeCells.{same_tested}
use Rattle.lift_laws.proofs.Reaching.{faults_are_fails}

-- the codes of dynamic errors, by their ranks
abbrev codes : List Code
codes = c.XPTY0004 ∷ c.FORG0001 ∷ c.FORG0006 ∷ c.FOAR0001 ∷ c.FOAR0002 ∷ c.XPTY0019 ∷ c.XPTY0018 ∷ c.XPTY0020 ∷ c.XPDY0050 ∷ c.XPDY0002 ∷ c.FODC0002 ∷ c.FORG0003 ∷ c.FORG0004 ∷ c.FORG0005 ∷ c.FOER0000 ∷ c.XQDY0074 ∷ c.XQDY0041 ∷ c.XQDY0064 ∷ c.XQTY0024 ∷ c.XQDY0025 ∷ c.XQDY0072 ∷ c.XQDY0026 ∷ []

code_back : (d : Code) → is_dynamic d ≡ true → slice_index_or codes (check_rank d) c.XPTY0004 ≡ d
code_back c.XPST0003 h = cc
code_back c.PFRC0003 h = cc
code_back c.PFRC0004 h = cc
code_back c.XQST0031 h = cc
code_back c.FOAR0002 h = refl
code_back c.XPST0008 h = cc
code_back c.XPST0017 h = cc
code_back c.XPST0051 h = cc
code_back c.XPST0080 h = cc
code_back c.XQST0034 h = cc
code_back c.XQST0039 h = cc
code_back c.XQST0040 h = cc
code_back c.XQST0049 h = cc
code_back c.XQST0068 h = cc
code_back c.XQST0089 h = cc
code_back c.PFRC0001 h = cc
code_back c.PFRC0002 h = cc
code_back c.XPTY0004 h = refl
code_back c.XPTY0018 h = refl
code_back c.XPTY0019 h = refl
code_back c.XPTY0020 h = refl
code_back c.XPDY0002 h = refl
code_back c.XPDY0050 h = refl
code_back c.XQTY0024 h = refl
code_back c.XQDY0025 h = refl
code_back c.XQDY0026 h = refl
code_back c.XQDY0041 h = refl
code_back c.XQDY0064 h = refl
code_back c.XQDY0072 h = refl
code_back c.XQDY0074 h = refl
code_back c.FOAR0001 h = refl
code_back c.FORG0001 h = refl
code_back c.FORG0003 h = refl
code_back c.FORG0004 h = refl
code_back c.FORG0005 h = refl
code_back c.FORG0006 h = refl
code_back c.FODC0002 h = refl
code_back c.FOER0000 h = refl
code_back c.SENR0001 h = cc

one_code : (b d : Code) → is_dynamic b ≡ true → check_rank b ≡ check_rank d → b ≡ d
one_code b d h e = sym (code_back b h) ∙ ap (λ n. slice_index_or codes n c.XPTY0004) e ∙ code_back d (ap (λ n. nat_lt n 22) (sym e) ∙ h)

-- at the same node with the same code
abbrev same_check : Failure → Failure → Bool
same_check m f = nat_eq m.site.number f.site.number && nat_eq (check_rank m.code) (check_rank f.code)

keys_of : (m f : Failure) → same_check m f ≡ true → (m.site.number ≡ f.site.number) × (check_rank m.code ≡ check_rank f.code)
keys_of m f e =
    let k = and_parts (nat_eq m.site.number f.site.number) (nat_eq (check_rank m.code) (check_rank f.code)) e in
    (eqb-true m.site.number f.site.number k.0, eqb-true (check_rank m.code) (check_rank f.code) k.1)

before_left : (f m g : Failure) → same_check m f ≡ true → is_before f g ≡ is_before m g
before_left f m g e =
    let k = keys_of m f e in
    ap (λ n. nat_lt n g.site.number || (nat_eq n g.site.number && nat_lt (check_rank f.code) (check_rank g.code))) (sym k.0)
    ∙ ap (λ n. nat_lt m.site.number g.site.number || (nat_eq m.site.number g.site.number && nat_lt n (check_rank g.code))) (sym k.1)

before_right : (g f m : Failure) → same_check m f ≡ true → is_before g f ≡ is_before g m
before_right g f m e =
    let k = keys_of m f e in
    ap (λ n. nat_lt g.site.number n || (nat_eq g.site.number n && nat_lt (check_rank g.code) (check_rank f.code))) (sym k.0)
    ∙ ap (λ n. nat_lt g.site.number m.site.number || (nat_eq g.site.number m.site.number && nat_lt (check_rank g.code) n)) (sym k.1)

-- neither before it nor at it: behind it
behind : (f m : Failure) → is_before f m ≡ false → same_check m f ≡ false → is_before m f ≡ true
behind f m e d = go (nat_lt m.site.number f.site.number) refl (nat_lt f.site.number m.site.number) refl
  where
    last : m.site.number ≡ f.site.number → nat_lt f.site.number m.site.number ≡ false → (b : Bool) → nat_lt (check_rank m.code) (check_rank f.code) ≡ b → nat_lt (check_rank m.code) (check_rank f.code) ≡ true
    last s q true r = r
    last s q false r =
        let u : nat_lt (check_rank f.code) (check_rank m.code) ≡ false =
        sym (ap (λ b. b || (nat_eq f.site.number m.site.number && nat_lt (check_rank f.code) (check_rank m.code))) q
        ∙ ap (λ b. b && nat_lt (check_rank f.code) (check_rank m.code)) (eq-eqb f.site.number m.site.number (sym s))) ∙ e in
        let x = ltb-false (check_rank m.code) (check_rank f.code) r in
        let y = ltb-false (check_rank f.code) (check_rank m.code) u in
        absurd (true≢false (sym (and_from (nat_eq m.site.number f.site.number) (nat_eq (check_rank m.code) (check_rank f.code)) (eq-eqb m.site.number f.site.number s) (eq-eqb (check_rank m.code) (check_rank f.code) (omega arith))) ∙ d))

    go : (b : Bool) → nat_lt m.site.number f.site.number ≡ b → (a : Bool) → nat_lt f.site.number m.site.number ≡ a → is_before m f ≡ true
    go true p a q = ap (λ b. b || (nat_eq m.site.number f.site.number && nat_lt (check_rank m.code) (check_rank f.code))) p
    go false p true q = absurd (true≢false (sym (ap (λ b. b || (nat_eq f.site.number m.site.number && nat_lt (check_rank f.code) (check_rank m.code))) q) ∙ e))
    go false p false q =
        let x = ltb-false m.site.number f.site.number p in
        let y = ltb-false f.site.number m.site.number q in
        let s : m.site.number ≡ f.site.number = omega arith in
        ap (λ b. b || (nat_eq m.site.number f.site.number && nat_lt (check_rank m.code) (check_rank f.code))) p
        ∙ ap (λ b. b && nat_lt (check_rank m.code) (check_rank f.code)) (eq-eqb m.site.number f.site.number s)
        ∙ last s q (nat_lt (check_rank m.code) (check_rank f.code)) refl

-- what holds of all holds of the first
first_holds : (P : Failure → Type 0) (gs : List Failure) → AllOf P gs → (x : Failure) → first gs ≡ Some x → P x
first_holds P [] a x e = cc
first_holds P (g ∷ gs) a x e = subst P (some_is (lesser_of g (first gs)) x e) (pick (first gs) (λ y h. first_holds P gs a.1 y h))
  where
    some_is : (y z : Failure) → Some y ≡ Some z → y ≡ z
    some_is y z h = cc

    pick : (q : Option Failure) → ((y : Failure) → q ≡ Some y → P y) → P (lesser_of g q)
    pick None k = a.0
    pick (Some y) k = elim (is_before y g) as (λ b. P (cond b y g)) [ true ↦ k y refl | false ↦ a.0 ]

-- the first failure has this node and rank
record FirstAt (m : Failure) (gs : List Failure) : Type 0 where
  least : Failure
  is : first gs ≡ Some least
  at : same_check m least ≡ true

first_from : (m : Failure) (gs : List Failure) → AllOf (λ g. is_before g m ≡ false) gs → (count (same_check m) gs ≡ 0 → ⊥) → FirstAt m gs
first_from m [] a h = absurd (h refl)
first_from m (g ∷ gs) a h = go (same_check m g) refl h (λ k. first_from m gs a.1 k)
  where
    mine : same_check m g ≡ true → (o : Option Failure) → first gs ≡ o → FirstAt m (g ∷ gs)
    mine e None q = record { least = g; is = ap (λ o. Some (lesser_of g o)) q; at = e }
    mine e (Some x) q =
        let n = before_right x g m e ∙ first_holds (λ y. is_before y m ≡ false) gs a.1 x q in
        record { least = g; is = ap (λ o. Some (lesser_of g o)) q ∙ ap (λ b. Some (cond b x g)) n; at = e }

    theirs : same_check m g ≡ false → FirstAt m gs → FirstAt m (g ∷ gs)
    theirs e r =
        let n = before_left r.least m g r.at ∙ behind g m a.0 e in
        record { least = r.least; is = ap (λ o. Some (lesser_of g o)) r.is ∙ ap (λ b. Some (cond b r.least g)) n; at = r.at }

    go : (b : Bool) → same_check m g ≡ b → (bit b + count (same_check m) gs ≡ 0 → ⊥) → ((count (same_check m) gs ≡ 0 → ⊥) → FirstAt m gs) → FirstAt m (g ∷ gs)
    go true e k r = mine e (first gs) refl
    go false e k r = theirs e (r (λ z. k (omega arith)))

not_before : (site : Site) (d : Code) (f : Failure) → site.number ≤ f.site.number → (f.site.number ≡ site.number → check_rank d ≤ check_rank f.code) → (nat_lt f.site.number site.number || (nat_eq f.site.number site.number && nat_lt (check_rank f.code) (check_rank d))) ≡ false
not_before site d f l h = go (nat_lt f.site.number site.number) refl (nat_eq f.site.number site.number) refl (nat_lt (check_rank f.code) (check_rank d)) refl
  where
    go : (a : Bool) → nat_lt f.site.number site.number ≡ a → (b : Bool) → nat_eq f.site.number site.number ≡ b → (g : Bool) → nat_lt (check_rank f.code) (check_rank d) ≡ g
        → (nat_lt f.site.number site.number || (nat_eq f.site.number site.number && nat_lt (check_rank f.code) (check_rank d))) ≡ false
    go true p b q g r = let k = ltb-true f.site.number site.number p in absurd (omega arith)
    go false p true q true r = let k = ltb-true (check_rank f.code) (check_rank d) r in let j = h (eqb-true f.site.number site.number q) in absurd (omega arith)
    go false p true q false r = ap (λ a. a || (nat_eq f.site.number site.number && nat_lt (check_rank f.code) (check_rank d))) p ∙ ap (λ b. b && nat_lt (check_rank f.code) (check_rank d)) q ∙ r
    go false p false q g r = ap (λ a. a || (nat_eq f.site.number site.number && nat_lt (check_rank f.code) (check_rank d))) p ∙ ap (λ b. b && nat_lt (check_rank f.code) (check_rank d)) q

-- the numbers of a node with a code are as many as its failures with this code
few_numbers : (n : ℕ) (d : Code) (fs : List Fault) → total (λ (v : Cell). 1) (numbers_at n d fs) ≡ count (λ (f : Fault). nat_eq n f.failure.site.number && code_eq d f.failure.code) fs
few_numbers n d fs = total-map (λ (v : Cell). 1) (λ (f : Fault). num f.number) (filter (λ f. nat_eq n f.failure.site.number && code_eq d f.failure.code) fs) ∙ total-keep (λ (f : Fault). 1) (λ f. nat_eq n f.failure.site.number && code_eq d f.failure.code) fs

module _ (docs : Docs) (e : Expr) (i : Iter) where
  abbrev all : List Failure
  all = fails docs e i.env i.vector

  same : Same (map (λ (f : Fault). f.failure) (faults docs e (i ∷ []))) all
  same = same-trans (faults_are_fails docs e (i ∷ [])) (same-of (append_none all))

  -- a test of all failures in bulk is one of all failures
  pub tested : (p : Failure → Bool) → AllOf (λ (f : Fault). p f.failure ≡ true) (faults docs e (i ∷ [])) → AllOf (λ f. p f ≡ true) all
  tested p a = same_tested p all (map (λ (f : Fault). f.failure) (faults docs e (i ∷ []))) (same-sym same) (all-map (λ f. p f ≡ true) (λ (f : Fault). f.failure) (faults docs e (i ∷ [])) a)

  -- where nothing fails in bulk, nothing fails
  pub none_fails : faults docs e (i ∷ []) ≡ [] → all ≡ []
  none_fails z = go all (sym (same.at (λ f. 1)) ∙ ap (λ fs. total (λ (f : Failure). 1) (map (λ (f : Fault). f.failure) fs)) z)
    where
      go : (fs : List Failure) → total (λ (f : Failure). 1) fs ≡ 0 → fs ≡ []
      go [] e = refl
      go (f ∷ fs) e = absurd (omega arith)

  -- and the other way round
  pub none_faults : all ≡ [] → faults docs e (i ∷ []) ≡ []
  none_faults z = go (faults docs e (i ∷ [])) (same.at (λ f. 1) ∙ ap (λ fs. total (λ (f : Failure). 1) fs) z)
    where
      go : (fs : List Fault) → total (λ (f : Failure). 1) (map (λ (f : Fault). f.failure) fs) ≡ 0 → fs ≡ []
      go [] e = refl
      go (f ∷ fs) e = absurd (omega arith)

  module _ (site : Site) (d : Code) (h : IsFirst site d (faults docs e (i ∷ []))) where
    abbrev m : Failure
    m = record { site = site; code = d; vector = [] }

    checked : (f : Failure) → (nat_eq site.number f.site.number && code_eq d f.code) ≡ true → same_check m f ≡ true
    checked f k =
        let p = and_parts (nat_eq site.number f.site.number) (code_eq d f.code) k in
        and_from (nat_eq site.number f.site.number) (nat_eq (check_rank d) (check_rank f.code)) p.0 (eq-eqb (check_rank d) (check_rank f.code) (ap check_rank (same_true the_type tt d f.code p.1)))

    more_checked : (fs : List Fault) → count (λ (f : Fault). nat_eq site.number f.failure.site.number && code_eq d f.failure.code) fs ≤ total (λ (f : Fault). bit (same_check m f.failure)) fs
    more_checked [] = omega arith
    more_checked (f ∷ fs) = go (nat_eq site.number f.failure.site.number && code_eq d f.failure.code) refl (more_checked fs)
      where
        go : (b : Bool) → (nat_eq site.number f.failure.site.number && code_eq d f.failure.code) ≡ b → count (λ (f : Fault). nat_eq site.number f.failure.site.number && code_eq d f.failure.code) fs ≤ total (λ (f : Fault). bit (same_check m f.failure)) fs
            → bit b + count (λ (f : Fault). nat_eq site.number f.failure.site.number && code_eq d f.failure.code) fs ≤ bit (same_check m f.failure) + total (λ (f : Fault). bit (same_check m f.failure)) fs
        go true k r = let q = ap bit (checked f.failure k) in omega arith
        go false k r = omega arith

    some_first : FirstAt m all
    some_first =
        first_from m all (all_mono _ _ (λ f (q : not (is_before f m) ≡ true). off (is_before f m) q) all (tested (λ f. not (is_before f m)) (all_mono _ _ (λ f (k : (site.number ≤ f.failure.site.number) × (f.failure.site.number ≡ site.number → check_rank d ≤ check_rank f.failure.code)). let r : not (is_before f.failure m) ≡ true = ap not (not_before site d f.failure k.0 k.1) in r) (faults docs e (i ∷ [])) h.least)))
        (λ z. h.here (few_numbers site.number d (faults docs e (i ∷ [])) ∙ none z))
      where
        off : (b : Bool) → not b ≡ true → b ≡ false
        off true q = cc
        off false q = refl

        none : count (same_check m) all ≡ 0 → count (λ (f : Fault). nat_eq site.number f.failure.site.number && code_eq d f.failure.code) (faults docs e (i ∷ [])) ≡ 0
        none z =
            let a = more_checked (faults docs e (i ∷ [])) in
            let b = total-map (λ f. bit (same_check m f)) (λ (f : Fault). f.failure) (faults docs e (i ∷ [])) in
            let q = same.at (λ f. bit (same_check m f)) in
            omega arith

    -- the first failure has this code, and a site that has what all failures of this node have
    pub least_first : (P : Failure → Bool) → AllOf (λ (f : Fault). P f.failure ≡ true) (faults docs e (i ∷ [])) → is_dynamic d ≡ true → (f : Failure) × (first all ≡ Some f) × (f.code ≡ d) × (f.site.number ≡ site.number) × (P f ≡ true)
    least_first P a y =
        let r = some_first in
        let k = keys_of m r.least r.at in
        (r.least, r.is, sym (one_code d r.least.code y k.1), sym k.0, first_holds (λ f. P f ≡ true) all (tested P a) r.least r.is)
