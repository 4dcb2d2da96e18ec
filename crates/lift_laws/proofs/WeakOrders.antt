-- Stable orders: numbers, texts and atomic values as cells; and in order by one key and then by another is the same as in order by the
-- other, and then, stably, by the one.
use Rattle.std.proofs.Common.{◌≡◌, Bool, true, false, cond, not, ◌&&◌, ◌||◌, List, [], ◌∷◌, refl, sym, ap, ◌∙◌, arith, true≢false}
use Rattle.std.specs.Prelude.{nat_lt, ℤ, pos, negsuc, int_lt}
use Rattle.std.proofs.lemmas.Bool.Decides.{nat_tests}
use Rattle.xq_base.specs.Texts.{Text, text_less}
use Rattle.xq_base.specs.Atoms.{Atom, IntAtom, TextAtom, UntypedAtom, BoolAtom}
use Rattle.doc_table.specs.Orders.{put, in_order}
use Rattle.doc_table.specs.Values.{item_of_atom}
use Rattle.plan_dag.specs.ItemRules.{kind_rank, cell_less}
use Rattle.plan_dag.specs.Rows.{key_less}
use Rattle.lift_laws.specs.Sums.{AllOf}
use Rattle.lift_laws.specs.Shapes.{bare}
use Rattle.lift_laws.proofs.Picks.{all_mono}
use Rattle.lift_laws.proofs.Once.{put_all}

clash : {b : Bool} → b ≡ true → b ≡ false → ⊥
clash e f = true≢false (sym e ∙ f)

-- what is before something is before or level with all that isn't before it
pub record Weak {A : Type 0} (lt : A → A → Bool) : Type 0 where
  pub turn : (x y : A) → lt x y ≡ true → lt y x ≡ false
  pub cut : (z y x : A) → lt z x ≡ true → lt z y ≡ false → lt y x ≡ true

pub weak_of : {A B : Type 0} (f : A → B) {lt : B → B → Bool} → Weak lt → Weak (λ x y. lt (f x) (f y))
weak_of f w = record { turn = λ x y e. w.turn (f x) (f y) e; cut = λ z y x e g. w.cut (f z) (f y) (f x) e g }

pub weak_same : {A : Type 0} {lt gt : A → A → Bool} → ((x y : A) → lt x y ≡ gt x y) → Weak gt → Weak lt
weak_same h w = record { turn = λ x y e. h y x ∙ w.turn x y (sym (h x y) ∙ e); cut = λ z y x e f. h y x ∙ w.cut z y x (sym (h z x) ∙ e) (sym (h z y) ∙ f) }

pub weak_back : {A : Type 0} {lt : A → A → Bool} → Weak lt → Weak (λ x y. lt y x)
weak_back {lt = lt} w = record { turn = λ x y e. w.turn y x e; cut = λ z y x e f. go z y x e f (lt x y) refl }
  where
    go : (z y x : _) → lt x z ≡ true → lt y z ≡ false → (b : Bool) → lt x y ≡ b → lt x y ≡ true
    go z y x e f true p = p
    go z y x e f false p = absurd (clash (w.cut x y z e p) f)

pub none_weak : {A : Type 0} → Weak {A = A} (λ x y. false)
none_weak = record { turn = λ x y e. refl; cut = λ z y x e f. absurd (clash e refl) }

-- neither is before the other
abbrev pub level : {A : Type 0} → (A → A → Bool) → A → A → Bool
level lt x y = not (lt x y) && not (lt y x)

abbrev pub lex : {A : Type 0} → (A → A → Bool) → (A → A → Bool) → A → A → Bool
lex lt1 lt2 x y = lt1 x y || (level lt1 x y && lt2 x y)

pub order_hold : {A : Type 0} (P : A → Type 0) (lt : A → A → Bool) (xs : List A) → AllOf P xs → AllOf P (in_order lt xs)
order_hold P lt [] a = tt
order_hold P lt (x ∷ xs) a = put_all lt lt P x (in_order lt xs) a.0 (order_hold P lt xs a.1)

module _ {A : Type 0} (lt1 lt2 : A → A → Bool) (w1 : Weak lt1) (w2 : Weak lt2) where
  lex_yes : (y x : A) → lt2 y x ≡ true → lex lt1 lt2 y x ≡ not (lt1 x y)
  lex_yes y x e = go (lt1 y x) refl
    where
      and_true : (b : Bool) → (b && true) ≡ b
      and_true true = refl
      and_true false = refl

      go : (b : Bool) → lt1 y x ≡ b → lex lt1 lt2 y x ≡ not (lt1 x y)
      go true p = ap (λ b. b || (level lt1 y x && lt2 y x)) p ∙ sym (ap not (w1.turn y x p))
      go false p = ap (λ b. b || (level lt1 y x && lt2 y x)) p ∙ ap (λ b. level lt1 y x && b) e ∙ and_true (level lt1 y x) ∙ ap (λ b. not b && not (lt1 x y)) p

  lex_no : (q x : A) → lt2 q x ≡ false → lex lt1 lt2 q x ≡ lt1 q x
  lex_no q x e = ap (λ b. lt1 q x || (level lt1 q x && b)) e ∙ ap (λ b. lt1 q x || b) (and_false (level lt1 q x)) ∙ or_false (lt1 q x)
    where
      and_false : (b : Bool) → (b && false) ≡ false
      and_false true = refl
      and_false false = refl

      or_false : (b : Bool) → (b || false) ≡ b
      or_false true = refl
      or_false false = refl

  first_no : (z x : A) → lex lt1 lt2 z x ≡ false → lt1 z x ≡ false
  first_no z x e = go (lt1 z x) refl
    where
      go : (b : Bool) → lt1 z x ≡ b → lt1 z x ≡ false
      go true p = absurd (clash (ap (λ b. b || (level lt1 z x && lt2 z x)) p) e)
      go false p = p

  -- what is after is not before
  lex_after : (z x : A) → lt1 x z ≡ true → lex lt1 lt2 z x ≡ false
  lex_after z x e = ap (λ b. b || (level lt1 z x && lt2 z x)) (w1.turn x z e) ∙ ap (λ b. b && lt2 z x) (ap (λ b. not b && not (lt1 x z)) (w1.turn x z e) ∙ ap not e)

  put_same : (x : A) (qs : List A) → AllOf (λ q. lex lt1 lt2 q x ≡ lt1 q x) qs → put (lex lt1 lt2) x qs ≡ put lt1 x qs
  put_same x [] a = refl
  put_same x (q ∷ qs) a =
      let r = put_same x qs a.1 in
      ap (λ b. cond b (q ∷ put (lex lt1 lt2) x qs) (x ∷ q ∷ qs)) a.0 ∙ ap (λ l. cond (lt1 q x) (q ∷ l) (x ∷ q ∷ qs)) r

  put_put : (x y : A) (ts : List A) → lt2 y x ≡ true → put (lex lt1 lt2) x (put lt1 y ts) ≡ put lt1 y (put (lex lt1 lt2) x ts)
  put_put x y [] e =
      ap (λ b. cond b (y ∷ x ∷ []) (x ∷ y ∷ [])) (lex_yes y x e) ∙ elim (lt1 x y) as (λ b. cond (not b) (y ∷ x ∷ []) (x ∷ y ∷ []) ≡ cond b (x ∷ y ∷ []) (y ∷ x ∷ [])) [ true ↦ refl | false ↦ refl ]
  put_put x y (z ∷ zs) e = go (lt1 z y) refl (lex lt1 lt2 z x) refl (lt1 x y) refl (put_put x y zs e)
    where
      go : (a : Bool) → lt1 z y ≡ a → (b : Bool) → lex lt1 lt2 z x ≡ b → (d : Bool) → lt1 x y ≡ d → put (lex lt1 lt2) x (put lt1 y zs) ≡ put lt1 y (put (lex lt1 lt2) x zs)
          → put (lex lt1 lt2) x (cond a (z ∷ put lt1 y zs) (y ∷ z ∷ zs)) ≡ put lt1 y (cond b (z ∷ put (lex lt1 lt2) x zs) (x ∷ z ∷ zs))
      go true p true q d s r =
          ap (λ b. cond b (z ∷ put (lex lt1 lt2) x (put lt1 y zs)) (x ∷ z ∷ put lt1 y zs)) q ∙ ap (λ l. z ∷ l) r ∙ sym (ap (λ b. cond b (z ∷ put lt1 y (put (lex lt1 lt2) x zs)) (y ∷ z ∷ put (lex lt1 lt2) x zs)) p)
      go true p false q true s r =
          ap (λ b. cond b (z ∷ put (lex lt1 lt2) x (put lt1 y zs)) (x ∷ z ∷ put lt1 y zs)) q
          ∙ ap (λ b. x ∷ cond b (z ∷ put lt1 y zs) (y ∷ z ∷ zs)) (sym p)
          ∙ sym (ap (λ b. cond b (x ∷ put lt1 y (z ∷ zs)) (y ∷ x ∷ z ∷ zs)) s)
      go true p false q false s r = absurd (clash (w1.cut z x y p (first_no z x q)) s)
      go false p true q true s r = absurd (one (lt1 x z) refl)
        where
          one : (b : Bool) → lt1 x z ≡ b → ⊥
          one true t = clash q (lex_after z x t)
          one false t = clash (w1.cut x z y s t) p
      go false p true q false s r =
          ap (λ b. cond b (y ∷ put (lex lt1 lt2) x (z ∷ zs)) (x ∷ y ∷ z ∷ zs)) (lex_yes y x e ∙ ap not s)
          ∙ ap (λ b. y ∷ cond b (z ∷ put (lex lt1 lt2) x zs) (x ∷ z ∷ zs)) q
          ∙ sym (ap (λ b. cond b (z ∷ put lt1 y (put (lex lt1 lt2) x zs)) (y ∷ z ∷ put (lex lt1 lt2) x zs)) p)
      go false p false q true s r =
          ap (λ b. cond b (y ∷ put (lex lt1 lt2) x (z ∷ zs)) (x ∷ y ∷ z ∷ zs)) (lex_yes y x e ∙ ap not s)
          ∙ sym (ap (λ b. cond b (x ∷ put lt1 y (z ∷ zs)) (y ∷ x ∷ z ∷ zs)) s ∙ ap (λ b. x ∷ cond b (z ∷ put lt1 y zs) (y ∷ z ∷ zs)) p)
      go false p false q false s r =
          ap (λ b. cond b (y ∷ put (lex lt1 lt2) x (z ∷ zs)) (x ∷ y ∷ z ∷ zs)) (lex_yes y x e ∙ ap not s)
          ∙ ap (λ b. y ∷ cond b (z ∷ put (lex lt1 lt2) x zs) (x ∷ z ∷ zs)) q
          ∙ sym (ap (λ b. cond b (x ∷ put lt1 y (z ∷ zs)) (y ∷ x ∷ z ∷ zs)) s)

  -- nothing is before what stands before it
  abbrev Rising : List A → Type 0
  Rising [] = Unit {0}
  Rising (y ∷ ys) = AllOf (λ z. lt2 z y ≡ false) ys × Rising ys

  behind : (x y z : A) → lt2 y x ≡ false → lt2 z y ≡ false → lt2 z x ≡ false
  behind x y z p q = go (lt2 z x) refl
    where
      go : (b : Bool) → lt2 z x ≡ b → lt2 z x ≡ false
      go true e = absurd (clash (w2.cut z y x e q) p)
      go false e = e

  put_rising : (x : A) (ys : List A) → Rising ys → Rising (put lt2 x ys)
  put_rising x [] s = (tt, tt)
  put_rising x (y ∷ ys) s = go (lt2 y x) refl (put_rising x ys s.1)
    where
      go : (b : Bool) → lt2 y x ≡ b → Rising (put lt2 x ys) → Rising (cond b (y ∷ put lt2 x ys) (x ∷ y ∷ ys))
      go true p r = (put_all lt2 lt2 (λ z. lt2 z y ≡ false) x ys (w2.turn y x p) s.0, r)
      go false p r = ((p, all_mono _ _ (λ z (q : lt2 z y ≡ false). behind x y z p q) ys s.0), s)

  rising : (xs : List A) → Rising (in_order lt2 xs)
  rising [] = tt
  rising (x ∷ xs) = put_rising x (in_order lt2 xs) (rising xs)

  put_order : (x : A) (ss : List A) → Rising ss → put (lex lt1 lt2) x (in_order lt1 ss) ≡ in_order lt1 (put lt2 x ss)
  put_order x [] s = refl
  put_order x (y ∷ ys) s = go (lt2 y x) refl (put_order x ys s.1)
    where
      go : (b : Bool) → lt2 y x ≡ b → put (lex lt1 lt2) x (in_order lt1 ys) ≡ in_order lt1 (put lt2 x ys) → put (lex lt1 lt2) x (put lt1 y (in_order lt1 ys)) ≡ in_order lt1 (cond b (y ∷ put lt2 x ys) (x ∷ y ∷ ys))
      go true p r = put_put x y (in_order lt1 ys) p ∙ ap (put lt1 y) r
      go false p r =
          put_same x (put lt1 y (in_order lt1 ys))
          (put_all lt1 lt1 (λ q. lex lt1 lt2 q x ≡ lt1 q x) y (in_order lt1 ys) (lex_no y x p)
          (order_hold (λ q. lex lt1 lt2 q x ≡ lt1 q x) lt1 ys (all_mono _ _ (λ z (q : lt2 z y ≡ false). lex_no z x (behind x y z p q)) ys s.0)))

  pub radix : (xs : List A) → in_order (lex lt1 lt2) xs ≡ in_order lt1 (in_order lt2 xs)
  radix [] = refl
  radix (x ∷ xs) = ap (put (lex lt1 lt2) x) (radix xs) ∙ put_order x (in_order lt2 xs) (rising xs)

  is_level : (x y : A) → lt1 x y ≡ false → lt1 y x ≡ false → level lt1 x y ≡ true
  is_level x y p q = ap (λ b. not b && not (lt1 y x)) p ∙ ap not q

  and_right : (a b : Bool) → (a && b) ≡ true → b ≡ true
  and_right true b e = e
  and_right false b e = absurd (clash e refl)

  and_left : (a b : Bool) → (a && b) ≡ true → a ≡ true
  and_left true b e = refl
  and_left false b e = e

  not_true : (b : Bool) → not b ≡ true → b ≡ false
  not_true true e = sym e
  not_true false e = refl

  pub lex_weak : Weak (lex lt1 lt2)
  lex_weak = record { turn = λ x y e. turn x y e (lt1 x y) refl; cut = λ z y x e f. cut z y x e f (lt1 z x) refl (lt1 y z) refl (lt1 y x) refl (lt1 x y) refl }
    where
      turn : (x y : A) → lex lt1 lt2 x y ≡ true → (b : Bool) → lt1 x y ≡ b → lex lt1 lt2 y x ≡ false
      turn x y e true p = lex_after y x p
      turn x y e false p =
          let k = sym (ap (λ b. b || (level lt1 x y && lt2 x y)) p) ∙ e in
          lex_no y x (w2.turn x y (and_right (level lt1 x y) (lt2 x y) k)) ∙ not_true (lt1 y x) (and_right (not (lt1 x y)) (not (lt1 y x)) (and_left (level lt1 x y) (lt2 x y) k))

      cut : (z y x : A) → lex lt1 lt2 z x ≡ true → lex lt1 lt2 z y ≡ false → (a : Bool) → lt1 z x ≡ a → (b : Bool) → lt1 y z ≡ b → (c : Bool) → lt1 y x ≡ c → (d : Bool) → lt1 x y ≡ d → lex lt1 lt2 y x ≡ true
      cut z y x e f a p b q true r d s = ap (λ k. k || (level lt1 y x && lt2 y x)) r
      cut z y x e f true p b q false r d s = absurd (clash (w1.cut z y x p (first_no z y f)) r)
      cut z y x e f false p true q false r d s =
          let k = sym (ap (λ b. b || (level lt1 z x && lt2 z x)) p) ∙ e in
          let t = and_left (level lt1 z x) (lt2 z x) k in
          absurd (clash (w1.cut y x z q r) (not_true (lt1 x z) (and_right (not (lt1 z x)) (not (lt1 x z)) t)))
      cut z y x e f false p false q false r true s =
          let k = sym (ap (λ b. b || (level lt1 z x && lt2 z x)) p) ∙ e in
          let t = and_left (level lt1 z x) (lt2 z x) k in
          absurd (clash (w1.cut x z y s (not_true (lt1 x z) (and_right (not (lt1 z x)) (not (lt1 x z)) t))) (first_no z y f))
      cut z y x e f false p false q false r false s =
          let k = sym (ap (λ b. b || (level lt1 z x && lt2 z x)) p) ∙ e in
          let u = and_right (level lt1 z x) (lt2 z x) k in
          let v = is_level z y (first_no z y f) q in
          let g = sym (ap (λ b. b || (level lt1 z y && lt2 z y)) (first_no z y f)) ∙ f in
          let h = sym (ap (λ b. b && lt2 z y) v) ∙ g in
          ap (λ k. k || (level lt1 y x && lt2 y x)) r ∙ ap (λ k. k && lt2 y x) (is_level y x r s) ∙ w2.cut z y x u h

-- numbers, texts and booleans
naturals_weak : Weak nat_lt
naturals_weak = record { turn = λ m n e. grind (arith, nat_tests); cut = λ k m n e f. grind (arith, nat_tests) }

integers_weak : Weak int_lt
integers_weak = record { turn = turn; cut = cut }
  where
    turn : (x y : ℤ) → int_lt x y ≡ true → int_lt y x ≡ false
    turn (pos m) (pos n) e = naturals_weak.turn m n e
    turn (pos m) (negsuc n) e = absurd (clash e refl)
    turn (negsuc m) (pos n) e = refl
    turn (negsuc m) (negsuc n) e = naturals_weak.turn n m e

    cut : (z y x : ℤ) → int_lt z x ≡ true → int_lt z y ≡ false → int_lt y x ≡ true
    cut (pos k) (pos m) (pos n) e f = naturals_weak.cut k m n e f
    cut (pos k) (negsuc m) (pos n) e f = refl
    cut (pos k) y (negsuc n) e f = absurd (clash e refl)
    cut (negsuc k) (pos m) x e f = absurd (clash refl f)
    cut (negsuc k) (negsuc m) (pos n) e f = refl
    cut (negsuc k) (negsuc m) (negsuc n) e f = let w = weak_back naturals_weak in w.cut k m n e f

texts_weak : Weak text_less
texts_weak = record { turn = turn; cut = cut }
  where
    turn : (t u : Text) → text_less t u ≡ true → text_less u t ≡ false
    turn t [] e = absurd (clash e refl)
    turn [] (d ∷ us) e = refl
    turn (c ∷ ts) (d ∷ us) e = grind (arith, nat_tests, turn ts us)

    cut : (r s t : Text) → text_less r t ≡ true → text_less r s ≡ false → text_less s t ≡ true
    cut r s [] e f = absurd (clash e refl)
    cut r [] (d ∷ t) e f = refl
    cut [] (c ∷ s) (d ∷ t) e f = absurd (clash refl f)
    cut (b ∷ r) (c ∷ s) (d ∷ t) e f = grind (arith, nat_tests, cut r s t)

abbrev bool_less : Bool → Bool → Bool
bool_less b d = not b && d

booleans_weak : Weak bool_less
booleans_weak = record { turn = turn; cut = cut }
  where
    turn : (b d : Bool) → bool_less b d ≡ true → bool_less d b ≡ false
    turn true d e = absurd (clash e refl)
    turn false true e = refl
    turn false false e = refl

    cut : (z y x : Bool) → bool_less z x ≡ true → bool_less z y ≡ false → bool_less y x ≡ true
    cut true y x e f = absurd (clash e refl)
    cut false true x e f = absurd (clash refl f)
    cut false false x e f = e

-- atomic values as cells: by kind, and then by what each kind has
abbrev bool_in : Atom → Bool
bool_in (BoolAtom b) = b
bool_in _ = false

abbrev int_of : Atom → ℤ
int_of (IntAtom z) = z
int_of _ = pos 0

abbrev text_in : Atom → Text
text_in (TextAtom t) = t
text_in (UntypedAtom t) = t
text_in _ = []

abbrev by_ranks : Atom → Atom → Bool
by_ranks a b = nat_lt (kind_rank (item_of_atom a)) (kind_rank (item_of_atom b))

abbrev by_parts : Atom → Atom → Bool
by_parts = lex by_ranks (lex (λ a b. bool_less (bool_in a) (bool_in b)) (lex (λ a b. int_lt (int_of a) (int_of b)) (λ a b. text_less (text_in a) (text_in b))))

or_none : (a b : Bool) → a ≡ (a || (b && false))
or_none true b = refl
or_none false true = refl
or_none false false = refl

parts_are : (a b : Atom) → cell_less (item_of_atom a) (item_of_atom b) ≡ by_parts a b
parts_are (IntAtom y) (IntAtom z) = or_none (int_lt y z) (level int_lt y z)
parts_are (IntAtom y) (TextAtom u) = refl
parts_are (IntAtom y) (UntypedAtom u) = refl
parts_are (IntAtom y) (BoolAtom d) = refl
parts_are (TextAtom t) (IntAtom z) = refl
parts_are (TextAtom t) (TextAtom u) = refl
parts_are (TextAtom t) (UntypedAtom u) = refl
parts_are (TextAtom t) (BoolAtom d) = refl
parts_are (UntypedAtom t) (IntAtom z) = refl
parts_are (UntypedAtom t) (TextAtom u) = refl
parts_are (UntypedAtom t) (UntypedAtom u) = refl
parts_are (UntypedAtom t) (BoolAtom d) = refl
parts_are (BoolAtom b) (IntAtom z) = refl
parts_are (BoolAtom b) (TextAtom u) = refl
parts_are (BoolAtom b) (UntypedAtom u) = refl
parts_are (BoolAtom b) (BoolAtom d) = or_none (bool_less b d) (level bool_less b d)

atoms_weak : Weak (λ a b. cell_less (item_of_atom a) (item_of_atom b))
atoms_weak =
    weak_same parts_are
    (lex_weak by_ranks _ (weak_of (λ a. kind_rank (item_of_atom a)) naturals_weak)
    (lex_weak (λ a b. bool_less (bool_in a) (bool_in b)) _ (weak_of bool_in booleans_weak) (lex_weak (λ a b. int_lt (int_of a) (int_of b)) _ (weak_of int_of integers_weak) (weak_of text_in texts_weak))))

-- upwards or downwards, by an atomic value of each
pub values_weak : {A : Type 0} (descending : Bool) (K : A → Atom) → Weak (λ x y. key_less bare descending (item_of_atom (K x)) (item_of_atom (K y)))
values_weak true K = weak_of K (weak_back atoms_weak)
values_weak false K = weak_of K atoms_weak
