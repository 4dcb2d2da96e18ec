-- A parser is exact for a rule: it reads what the rule says, and all of it.
use Rattle.std.proofs.Common.{◌≡◌, ℕ, zero, suc, ◌+◌, ◌<◌, ◌≤◌, Bool, true, false, cond, nat_eq, List, [], ◌∷◌, ◌++◌, length, inl, inr, Option, Some, None, option_map, option_and_then, refl, sym, ap, ◌∙◌, subst, arith, append_assoc, append-nil, length-append, true≢false}
use Rattle.std.proofs.lemmas.Bool.{eqb-true}
use Rattle.std.proofs.lemmas.Option.{same_Some}
use Rattle.doc_shred.specs.Rules.{Rule, ◌▷=◌, ◌▷◌, gives, where_, ◌or◌, word, IsMany, many, Each, starts, IsRunOf, any_of, some_of, begins, before}
use Rattle.doc_shred.specs.Parsers.{Parser, ◌>>=◌, ◌>>◌, give, need, choose, strip, run, after_run, run_of, some_run_of, before_first, repeat}

pub record Exact {A : Type 0} (R : Rule A) (p : Parser A) : Type 0 where
  pub sound : (from : List ℕ) (x : A × List ℕ) → p from ≡ Some x → R from x.1 x.0
  pub complete : (from rest : List ℕ) (a : A) → R from rest a → p from ≡ Some (a, rest)

pub bound : {A B : Type 0} (f : A → Option B) (o : Option A) (y : B) → option_and_then f o ≡ Some y → (x : A) × (o ≡ Some x) × (f x ≡ Some y)
bound f None y e = cc
bound f (Some x) y e = (x, refl, e)

pub mapped : {A B : Type 0} (f : A → B) (o : Option A) (y : B) → option_map f o ≡ Some y → (x : A) × (o ≡ Some x) × (f x ≡ y)
mapped f None y e = cc
mapped f (Some x) y e = (x, refl, same_Some _ _ e)

pub chosen : {A : Type 0} (b : Bool) (x y z : A) (P : Type 0) → cond b x y ≡ z → (b ≡ true → x ≡ z → P) → (b ≡ false → y ≡ z → P) → P
chosen true x y z P e f g = f refl e
chosen false x y z P e f g = g refl e

pub then_exact : {A B : Type 0} {R : Rule A} {S : A → Rule B} {p : Parser A} {q : A → Parser B}
    → Exact R p → ((a : A) → Exact (S a) (q a)) → Exact (R ▷= S) (p >>= q)
then_exact {A} {B} {R} {S} {p} {q} r s = record {
  sound = λ from y e.
      let b = bound (λ (x : A × List ℕ). q x.0 x.1) (p from) y e in
      record { part = b.0.0; mid = b.0.1; first = r.sound from b.0 b.1; second = (s b.0.0).sound b.0.1 y b.2 };
  complete = λ from rest b i.
      ap (option_and_then (λ (x : A × List ℕ). q x.0 x.1)) (r.complete from i.mid i.part i.first) ∙ (s i.part).complete i.mid rest b i.second;
}

pub after_exact : {A B : Type 0} {R : Rule A} {S : Rule B} {p : Parser A} {q : Parser B} → Exact R p → Exact S q → Exact (R ▷ S) (p >> q)
after_exact {A} {B} {R} {S} {p} {q} r s = record {
  sound = λ from y e.
      let b = bound (λ (x : A × List ℕ). q x.1) (p from) y e in
      record { part = b.0.0; mid = b.0.1; first = r.sound from b.0 b.1; second = s.sound b.0.1 y b.2 };
  complete = λ from rest b i.
      ap (option_and_then (λ (x : A × List ℕ). q x.1)) (r.complete from i.mid i.part i.first) ∙ s.complete i.mid rest b i.second;
}

at_pair : {A : Type 0} (P : List ℕ → A → Type 0) (x y : A × List ℕ) → ◌≡◌ {A = Option (A × List ℕ)} (Some x) (Some y) → P x.1 x.0 → P y.1 y.0
at_pair {A} P x y e h = subst (λ (z : A × List ℕ). P z.1 z.0) (same_Some x y e) h

pub give_exact : {A : Type 0} {a : A} → Exact (gives a) (give a)
give_exact {A} {a} = record {
  sound = λ from x e. at_pair (λ (rest : List ℕ) (b : A). (from ≡ rest) × (a ≡ b)) (a, from) x e (refl, refl);
  complete = λ from rest b i. let p = i.0 in let q = i.1 in cc;
}

pub need_exact : {b : Bool} → Exact (where_ b) (need b)
need_exact {b} = record { sound = sound b; complete = λ from rest u i. complete b from rest u i.0 i.1 }
  where
    sound : (b : Bool) (from : List ℕ) (x : Unit {0} × List ℕ) → need b from ≡ Some x → (from ≡ x.1) × (b ≡ true)
    sound false from x e = cc
    sound true from x e = at_pair (λ (rest : List ℕ) (u : Unit {0}). (from ≡ rest) × (true ≡ true)) (tt, from) x e (refl, refl)

    complete : (b : Bool) (from rest : List ℕ) (u : Unit {0}) → from ≡ rest → b ≡ true → need b from ≡ Some (u, rest)
    complete false from rest u p q = cc
    complete true from rest u p q = ap (λ r. Some (tt, r)) p

pub or_exact : {A : Type 0} {R S : Rule A} {p q : Parser A} (test : List ℕ → Bool) → Exact R p → Exact S q
    → ((from rest : List ℕ) (a : A) → R from rest a → test from ≡ true) → ((from rest : List ℕ) (a : A) → S from rest a → test from ≡ false)
    → Exact (R or S) (choose test p q)
or_exact {A} {R} {S} {p} {q} test r s one other = record {
  sound = λ from x e. chosen (test from) (p from) (q from) (Some x) ((R or S) from x.1 x.0) e (λ t h. inl (r.sound from x h)) (λ t h. inr (s.sound from x h));
  complete = complete;
}
  where
    complete : (from rest : List ℕ) (a : A) → (R or S) from rest a → choose test p q from ≡ Some (a, rest)
    complete from rest a (inl i) = ap (λ b. cond b (p from) (q from)) (one from rest a i) ∙ r.complete from rest a i
    complete from rest a (inr i) = ap (λ b. cond b (p from) (q from)) (other from rest a i) ∙ s.complete from rest a i

-- ---- words

strip_sound : (w from : List ℕ) (x : Unit {0} × List ℕ) → strip w from ≡ Some x → from ≡ w ++ x.1
strip_sound [] from x e = ap (λ (z : Unit {0} × List ℕ). z.1) (same_Some (tt, from) x e)
strip_sound (c ∷ cs) [] x e = cc
strip_sound (c ∷ cs) (d ∷ ds) x e = chosen (nat_eq d c) (strip cs ds) None (Some x) (d ∷ ds ≡ c ∷ cs ++ x.1) e
    (λ t h. let p = eqb-true d c t in let q = strip_sound cs ds x h in cc) (λ t h. cc)

pub same_byte : (c : ℕ) → nat_eq c c ≡ true
same_byte c = grind arith

pub strip_front : (w rest : List ℕ) → strip w (w ++ rest) ≡ Some (tt, rest)
strip_front [] rest = refl
strip_front (c ∷ cs) rest = ap (λ b. cond b (strip cs (cs ++ rest)) None) (same_byte c) ∙ strip_front cs rest

pub word_exact : (w : List ℕ) → Exact (word w) (strip w)
word_exact w = record { sound = strip_sound w; complete = λ from rest u i. ap (strip w) i ∙ strip_front w rest }

pub begins_front : (w rest : List ℕ) → begins w (w ++ rest) ≡ true
begins_front [] rest = refl
begins_front (c ∷ cs) rest = ap (λ b. cond b (begins cs (cs ++ rest)) false) (same_byte c) ∙ begins_front cs rest

-- where a word doesn't come next, it isn't read
strip_begins : (w from : List ℕ) → begins w from ≡ true → (rest : List ℕ) × (from ≡ w ++ rest)
strip_begins [] from e = (from, refl)
strip_begins (c ∷ cs) [] e = cc
strip_begins (c ∷ cs) (d ∷ ds) e = chosen (nat_eq d c) (begins cs ds) false true ((rest : List ℕ) × (d ∷ ds ≡ c ∷ cs ++ rest)) e
    (λ t h. let p = eqb-true d c t in let q = strip_begins cs ds h in (q.0, let r = q.1 in cc)) (λ t h. cc)

-- ---- runs

-- what a run is
pub run_is : (p : ℕ → Bool) (from : List ℕ) → IsRunOf p from (after_run p from) (run p from)
run_is p [] = record { each = tt; whole = refl; ends = refl }
run_is p (c ∷ cs) = by (p c) refl (run_is p cs)
  where
    by : (b : Bool) → p c ≡ b → IsRunOf p cs (after_run p cs) (run p cs) → IsRunOf p (c ∷ cs) (cond b (after_run p cs) (c ∷ cs)) (cond b (c ∷ run p cs) [])
    by true e i = record { each = (e, i.each); whole = ap (λ z. c ∷ z) i.whole; ends = i.ends }
    by false e i = record { each = tt; whole = refl; ends = e }

run_front : (p : ℕ → Bool) (front rest : List ℕ) → Each p front → starts p rest ≡ false → (run p (front ++ rest) ≡ front) × (after_run p (front ++ rest) ≡ rest)
run_front p [] [] e s = (refl, refl)
run_front p [] (r ∷ rs) e s = (ap (λ b. cond b (r ∷ run p rs) []) s, ap (λ b. cond b (after_run p rs) (r ∷ rs)) s)
run_front p (c ∷ cs) rest e s =
    let i = run_front p cs rest e.1 s in
    (ap (λ b. cond b (c ∷ run p (cs ++ rest)) []) e.0 ∙ ap (λ z. c ∷ z) i.0, ap (λ b. cond b (after_run p (cs ++ rest)) (c ∷ cs ++ rest)) e.0 ∙ i.1)

pub run_again : (p : ℕ → Bool) (from rest front : List ℕ) → IsRunOf p from rest front → (run p from ≡ front) × (after_run p from ≡ rest)
run_again p from rest front i =
    let f = run_front p front rest i.each i.ends in
    (ap (run p) i.whole ∙ f.0, ap (after_run p) i.whole ∙ f.1)

pub any_of_exact : (p : ℕ → Bool) → Exact (any_of p) (run_of p)
any_of_exact p = record {
  sound = λ from x e. at_pair (λ (rest front : List ℕ). IsRunOf p from rest front) (run p from, after_run p from) x e (run_is p from);
  complete = λ from rest front i. let f = run_again p from rest front i in let a = f.0 in let b = f.1 in cc;
}

pub some_of_exact : (p : ℕ → Bool) → Exact (some_of p) (some_run_of p)
some_of_exact p = record {
  sound = λ from x e. chosen (starts p from) (run_of p from) None (Some x) (some_of p from x.1 x.0) e (λ t h. (t, (any_of_exact p).sound from x h)) (λ t h. cc);
  complete = λ from rest front i. ap (λ b. cond b (run_of p from) None) i.0 ∙ (any_of_exact p).complete from rest front i.1;
}

-- ---- up to a word

before_sound : (w from : List ℕ) (x : List ℕ × List ℕ) → before_first w from ≡ Some x → before w from x.1 x.0
before_sound w [] x e =
    let m = mapped (λ (y : Unit {0} × List ℕ). ([], y.1)) (strip w []) x e in
    subst (λ (z : List ℕ × List ℕ). before w [] z.1 z.0) m.2 (strip_sound w [] m.0 m.1)
before_sound w (c ∷ cs) x e = chosen (begins w (c ∷ cs)) _ _ (Some x) (before w (c ∷ cs) x.1 x.0) e
    (λ t h.
    let m = mapped (λ (y : Unit {0} × List ℕ). ([], y.1)) (strip w (c ∷ cs)) x h in
    subst (λ (z : List ℕ × List ℕ). before w (c ∷ cs) z.1 z.0) m.2 (strip_sound w (c ∷ cs) m.0 m.1))
    (λ t h.
    let m = mapped (λ (y : List ℕ × List ℕ). (c ∷ y.0, y.1)) (before_first w cs) x h in
    subst (λ (z : List ℕ × List ℕ). before w (c ∷ cs) z.1 z.0) m.2 (t, cs, refl, before_sound w cs m.0 m.1))

before_here : (w from rest : List ℕ) → from ≡ w ++ rest → before_first w from ≡ Some ([], rest)
before_here w [] rest e = ap (option_map (λ (y : Unit {0} × List ℕ). ([], y.1))) (ap (strip w) e ∙ strip_front w rest)
before_here w (c ∷ cs) rest e =
    let t : begins w (c ∷ cs) ≡ true = ap (begins w) e ∙ begins_front w rest in
    ap (λ b. cond b (option_map (λ (y : Unit {0} × List ℕ). ([], y.1)) (strip w (c ∷ cs))) (option_map (λ (y : List ℕ × List ℕ). (c ∷ y.0, y.1)) (before_first w cs))) t
    ∙ ap (option_map (λ (y : Unit {0} × List ℕ). ([], y.1))) (ap (strip w) e ∙ strip_front w rest)

before_complete : (w front from rest : List ℕ) → before w from rest front → before_first w from ≡ Some (front, rest)
before_complete w [] from rest i = before_here w from rest i
before_complete w (c ∷ cs) from rest i =
    let t : begins w (c ∷ i.1) ≡ false = ap (begins w) (sym i.2) ∙ i.0 in
    ap (before_first w) i.2
    ∙ ap (λ b. cond b (option_map (λ (y : Unit {0} × List ℕ). ([], y.1)) (strip w (c ∷ i.1))) (option_map (λ (y : List ℕ × List ℕ). (c ∷ y.0, y.1)) (before_first w i.1))) t
    ∙ ap (option_map (λ (y : List ℕ × List ℕ). (c ∷ y.0, y.1))) (before_complete w cs i.1 rest i.3)

pub before_exact : (w : List ℕ) → Exact (before w) (before_first w)
before_exact w = record { sound = before_sound w; complete = λ from rest front i. before_complete w front from rest i }

-- ---- parts while there are any

-- what is left is shorter
abbrev pub Strict : {A : Type 0} → Rule A → Type 0
Strict {A} R = (from rest : List ℕ) (a : A) → R from rest a → length rest < length from

module _ {A B : Type 0} {R : Rule A} {T : List A → Rule B} {p : Parser A} {q : List A → Parser B} (test : List ℕ → Bool) (r : Exact R p) (t : (found : List A) → Exact (T found) (q found))
    (goes : (from rest : List ℕ) (a : A) → R from rest a → test from ≡ true) (ends : (found : List A) (from rest : List ℕ) (b : B) → T found from rest b → test from ≡ false) (shrinks : Strict R) where
  pub repeat_sound : (n : ℕ) (found : List A) (from : List ℕ) (y : B × List ℕ) → repeat test p q found n from ≡ Some y
      → (others : List A) × (mid : List ℕ) × IsMany R from mid others × T (found ++ others) mid y.1 y.0
  repeat_sound zero found from y e = cc
  repeat_sound (suc n) found from y e = chosen (test from) _ _ (Some y) ((others : List A) × (mid : List ℕ) × IsMany R from mid others × T (found ++ others) mid y.1 y.0) e
      (λ h g.
      let b = bound (λ (x : A × List ℕ). repeat test p q (found ++ x.0 ∷ []) n x.1) (p from) y g in
      let i = repeat_sound n (found ++ b.0.0 ∷ []) b.0.1 y b.2 in
      (b.0.0 ∷ i.0, i.1, IsMany.more (r.sound from b.0 b.1) i.2, subst (λ found'. T found' i.1 y.1 y.0) (append_assoc found (b.0.0 ∷ []) i.0) i.3))
      (λ h g. ([], from, IsMany.none, subst (λ found'. T found' from y.1 y.0) (sym (append-nil found)) ((t found).sound from y g)))

  pub repeat_complete : (n : ℕ) (found others : List A) (from mid rest : List ℕ) (b : B) → length from < n → IsMany R from mid others → T (found ++ others) mid rest b
      → repeat test p q found n from ≡ Some (b, rest)
  repeat_complete zero found others from mid rest b l m i = absurd (omega arith)
  repeat_complete (suc n) found _ from _ rest b l IsMany.none i =
      let i' = subst (λ found'. T found' from rest b) (append-nil found) i in
      ap (λ c. cond c (option_and_then (λ (x : A × List ℕ). repeat test p q (found ++ x.0 ∷ []) n x.1) (p from)) (q found from)) (ends found from rest b i') ∙ (t found).complete from rest b i'
  repeat_complete (suc n) found _ from mid rest b l (IsMany.more {mid = next} {a = a} {others = others} first m) i =
      ap (λ c. cond c (option_and_then (λ (x : A × List ℕ). repeat test p q (found ++ x.0 ∷ []) n x.1) (p from)) (q found from)) (goes from next a first)
      ∙ ap (option_and_then (λ (x : A × List ℕ). repeat test p q (found ++ x.0 ∷ []) n x.1)) (r.complete from next a first)
      ∙ repeat_complete n (found ++ a ∷ []) others next mid rest b (omega (arith, shrinks from next a first)) m (subst (λ found'. T found' mid rest b) (sym (append_assoc found (a ∷ []) others)) i)

  pub repeat_exact : Exact (many R ▷= T) (λ from. repeat test p q [] (length from + 1) from)
  repeat_exact = record {
    sound = λ from y e. let i = repeat_sound (length from + 1) [] from y e in record { part = i.0; mid = i.1; first = i.2; second = i.3 };
    complete = λ from rest b i. repeat_complete (length from + 1) [] i.part from i.mid rest b (omega arith) i.first i.second;
  }

-- ---- what is left isn't longer

abbrev pub Narrow : {A : Type 0} → Rule A → Type 0
Narrow {A} R = (from rest : List ℕ) (a : A) → R from rest a → length rest ≤ length from

pub then_narrow : {A B : Type 0} {R : Rule A} {S : A → Rule B} → Narrow R → ((a : A) → Narrow (S a)) → Narrow (R ▷= S)
then_narrow r s from rest b i = omega (arith, r from i.mid i.part i.first, s i.part i.mid rest b i.second)

pub then_strict : {A B : Type 0} {R : Rule A} {S : A → Rule B} → Strict R → ((a : A) → Narrow (S a)) → Strict (R ▷= S)
then_strict r s from rest b i = omega (arith, r from i.mid i.part i.first, s i.part i.mid rest b i.second)

pub or_narrow : {A : Type 0} {R S : Rule A} → Narrow R → Narrow S → Narrow (R or S)
or_narrow r s from rest a (inl i) = r from rest a i
or_narrow r s from rest a (inr i) = s from rest a i

pub or_strict : {A : Type 0} {R S : Rule A} → Strict R → Strict S → Strict (R or S)
or_strict r s from rest a (inl i) = r from rest a i
or_strict r s from rest a (inr i) = s from rest a i

pub gives_narrow : {A : Type 0} (a : A) → Narrow (gives a)
gives_narrow a from rest b i = omega (arith, ap length i.0)

pub where_narrow : (b : Bool) → Narrow (where_ b)
where_narrow b from rest u i = omega (arith, ap length i.0)

pub word_narrow : (w : List ℕ) → Narrow (word w)
word_narrow w from rest u i = omega (arith, ap length i, length-append w rest)

pub word_strict : (c : ℕ) (cs : List ℕ) → Strict (word (c ∷ cs))
word_strict c cs from rest u i = omega (arith, ap length i, length-append (c ∷ cs) rest)

pub any_of_narrow : (p : ℕ → Bool) → Narrow (any_of p)
any_of_narrow p from rest front i = omega (arith, ap length i.whole, length-append front rest)

pub some_of_narrow : (p : ℕ → Bool) → Narrow (some_of p)
some_of_narrow p from rest front i = any_of_narrow p from rest front i.1

pub some_of_strict : (p : ℕ → Bool) → Strict (some_of p)
some_of_strict p from rest [] i = absurd (true≢false (sym i.0 ∙ ap (starts p) i.1.whole ∙ i.1.ends))
some_of_strict p from rest (c ∷ cs) i = omega (arith, ap length i.1.whole, length-append (c ∷ cs) rest)

pub before_narrow : (w : List ℕ) → Narrow (before w)
before_narrow w from rest [] i = word_narrow w from rest tt i
before_narrow w from rest (c ∷ cs) i = omega (arith, ap length i.2, before_narrow w i.1 rest cs i.3)

pub many_narrow : {A : Type 0} {R : Rule A} → Narrow R → Narrow (many R)
many_narrow r from _ _ IsMany.none = omega arith
many_narrow r from rest _ (IsMany.more {mid = mid} {a = a} {others = others} first m) = omega (arith, r from mid a first, many_narrow r mid rest others m)
