-- Keys tell values apart, and come in the order of their first places.
use Rattle.std.proofs.Common.{◌≡◌, ◌<◌, ◌≤◌, ◌+◌, ◌++◌, ◌∙◌, ◌||◌, ℕ, suc, Bool, true, false, cond, not, List, [], ◌∷◌, length, map, nat_eq, refl, ap, sym, subst, arith, true≢false, Some, None, if◌then◌else◌}
use Rattle.std.specs.Prelude.{slice_index_or, nat_lt}
use Rattle.std.specs.List.{position, list_any}
use Rattle.std.proofs.lemmas.Bool.Decides.{Decides-eqb, Decides-ltb}
use Rattle.std.proofs.lemmas.List.Sums.{prefix_len-le-length}
use Rattle.indexmap.specs.IndexSet.{insert_key, insert_all}
use Rattle.table_ops.specs.Chains.{AllBelow}
use Rattle.table_ops.specs.Keys.{place_in, keys_from, InTurn, TellsFrom}
use Rattle.table_ops.specs.Joins.{KeyOf, KeysOf}

-- truths that imply each other
pub alike : (a b : Bool) → (a ≡ true → b ≡ true) → (b ≡ true → a ≡ true) → a ≡ b
alike true true f g = refl
alike true false f g = sym (f refl)
alike false true f g = g refl
alike false false f g = refl

module _ {X : Type 0} (eq : X → X → Bool) where
  pub place_le : (t : List X) (x : X) → place_in eq t x ≤ length t
  place_le t x = prefix_len-le-length (λ y. not (eq x y)) t

  -- whether it is there
  pub there_is : (t : List X) (x : X) → list_any (eq x) t ≡ nat_lt (place_in eq t x) (length t)
  there_is [] x = sym (none refl)
    where
      none : nat_lt 0 0 ≡ nat_lt 0 0 → nat_lt 0 0 ≡ false
      none e = refl
  there_is (y ∷ ys) x = by (eq x y) (there_is ys x)
    where
      by : (b : Bool) → list_any (eq x) ys ≡ nat_lt (place_in eq ys x) (length ys) → (b || list_any (eq x) ys) ≡ nat_lt (cond (not b) (1 + place_in eq ys x) 0) (suc (length ys))
      by true e = sym ((Decides-ltb 0 (suc (length ys))).1 (omega arith))
      by false e = e ∙ alike _ _ (λ h. (Decides-ltb _ _).1 (omega (arith, (Decides-ltb (place_in eq ys x) (length ys)).0 h))) (λ h. (Decides-ltb _ _).1 (omega (arith, (Decides-ltb (1 + place_in eq ys x) (suc (length ys))).0 h)))

  pub absent_place : (t : List X) (x : X) → None ≡ position (eq x) t → length t ≡ place_in eq t x
  absent_place t x e = by (nat_lt (place_in eq t x) (length t)) refl e
    where
      by : (b : Bool) → nat_lt (place_in eq t x) (length t) ≡ b → None ≡ cond b (Some (place_in eq t x)) None → length t ≡ place_in eq t x
      by true s e = cc
      by false s e = grind (arith, Decides-ltb, s, place_le t x)

  pub present_place : (t : List X) (x : X) (k : ℕ) → Some k ≡ position (eq x) t → (k ≡ place_in eq t x) × (k < length t)
  present_place t x k e = by (nat_lt (place_in eq t x) (length t)) refl e
    where
      by : (b : Bool) → nat_lt (place_in eq t x) (length t) ≡ b → Some k ≡ cond b (Some (place_in eq t x)) None → (k ≡ place_in eq t x) × (k < length t)
      by true s e = let same : k ≡ place_in eq t x = cc in (same, subst (λ n. n < length t) (sym same) ((Decides-ltb _ _).0 s))
      by false s e = cc

  -- what is there keeps its place
  pub place_stays : (t : List X) (x y : X) → place_in eq t x < length t → place_in eq (t ++ y ∷ []) x ≡ place_in eq t x
  place_stays [] x y h = absurd (omega (arith, h))
  place_stays (z ∷ t) x y h = by (eq x z) h (place_stays t x y)
    where
      by : (b : Bool) → cond (not b) (1 + place_in eq t x) 0 < suc (length t) → (place_in eq t x < length t → place_in eq (t ++ y ∷ []) x ≡ place_in eq t x)
          → cond (not b) (1 + place_in eq (t ++ y ∷ []) x) 0 ≡ cond (not b) (1 + place_in eq t x) 0
      by true h r = refl
      by false h r = ap (λ n. 1 + n) (r (omega (arith, h)))

  longer : (t : List X) (y : X) → length (t ++ y ∷ []) ≡ suc (length t)
  longer [] y = refl
  longer (z ∷ t) y = ap suc (longer t y)

  module _ (same : (x y : X) → eq x y ≡ true → x ≡ y) (self : (x : X) → eq x x ≡ true) where
    -- what goes last stands there
    pub place_last : (t : List X) (x : X) → list_any (eq x) t ≡ false → place_in eq (t ++ x ∷ []) x ≡ length t
    place_last [] x h = ap (λ b. cond (not b) 1 0) (self x)
    place_last (z ∷ t) x h = by (eq x z) h (place_last t x)
      where
        by : (b : Bool) → b || list_any (eq x) t ≡ false → (list_any (eq x) t ≡ false → place_in eq (t ++ x ∷ []) x ≡ length t) → cond (not b) (1 + place_in eq (t ++ x ∷ []) x) 0 ≡ suc (length t)
        by true h r = absurd (true≢false h)
        by false h r = let e : place_in eq (t ++ x ∷ []) x ≡ length t = r h in omega (arith, e)

    -- a value's key is its place among the values with it
    pub place_put : (t : List X) (x : X) → (place_in eq (insert_key eq t x) x ≡ place_in eq t x) × (place_in eq t x < length (insert_key eq t x))
    place_put t x = by (list_any (eq x) t) refl
      where
        at_end : place_in eq t x ≤ length t → nat_lt (place_in eq t x) (length t) ≡ false → place_in eq t x ≡ length t
        at_end l e = closer (nat_lt (place_in eq t x) (length t)) refl e
          where
            closer : (b : Bool) → nat_lt (place_in eq t x) (length t) ≡ b → b ≡ false → place_in eq t x ≡ length t
            closer true s e = absurd (true≢false e)
            closer false s e = omega (arith, l, not_below s)
              where
                not_below : nat_lt (place_in eq t x) (length t) ≡ false → length t ≤ place_in eq t x
                not_below s = grind (arith, Decides-ltb, s)

        by : (b : Bool) → list_any (eq x) t ≡ b → (place_in eq (if b then t else t ++ x ∷ []) x ≡ place_in eq t x) × (place_in eq t x < length (if b then t else t ++ x ∷ []))
        by true e = (refl, (Decides-ltb _ _).0 (sym (there_is t x) ∙ e))
        by false e =
            let last : place_in eq t x ≡ length t = at_end (place_le t x) (sym (there_is t x) ∙ e) in
            (place_last t x e ∙ sym last, omega (arith, last, longer t x))

    stays_put : (t : List X) (x y : X) → place_in eq t x < length t → (place_in eq (insert_key eq t y) x ≡ place_in eq t x) × (place_in eq t x < length (insert_key eq t y))
    stays_put t x y h = by (list_any (eq y) t)
      where
        by : (b : Bool) → (place_in eq (if b then t else t ++ y ∷ []) x ≡ place_in eq t x) × (place_in eq t x < length (if b then t else t ++ y ∷ []))
        by true = (refl, h)
        by false = (place_stays t x y h, omega (arith, h, longer t y))

    stays_all : (xs t : List X) (x : X) → place_in eq t x < length t → (place_in eq (insert_all eq t xs) x ≡ place_in eq t x) × (place_in eq t x < length (insert_all eq t xs))
    stays_all [] t x h = (refl, h)
    stays_all (y ∷ xs) t x h =
        let one = stays_put t x y h in
        let more = stays_all xs (insert_key eq t y) x (subst (λ n. n < length (insert_key eq t y)) (sym one.0) one.1) in
        (more.0 ∙ one.0, subst (λ n. n < length (insert_all eq (insert_key eq t y) xs)) one.0 more.1)

    -- keys are the places among all
    pub keys_are : (xs t : List X) → keys_from eq t xs ≡ map (place_in eq (insert_all eq t xs)) xs
    keys_are [] t = refl
    keys_are (x ∷ xs) t =
        let put = place_put t x in
        let all = stays_all xs (insert_key eq t x) x (subst (λ n. n < length (insert_key eq t x)) (sym put.0) put.1) in
        λ i. sym (all.0 ∙ put.0) i ∷ keys_are xs (insert_key eq t x) i

    unfoldable pub AllThere : List X → List X → Type 0
    AllThere t [] = Unit {0}
    AllThere t (x ∷ xs) = (place_in eq t x < length t) × AllThere t xs

    pub all_there : (xs t : List X) → AllThere (insert_all eq t xs) xs
    unfolding AllThere
    all_there [] t = tt
    all_there (x ∷ xs) t =
        let put = place_put t x in
        let all = stays_all xs (insert_key eq t x) x (subst (λ n. n < length (insert_key eq t x)) (sym put.0) put.1) in
        (subst (λ n. n < length (insert_all eq (insert_key eq t x) xs)) (sym all.0) all.1, all_there xs (insert_key eq t x))

    -- they tell values from those that are there
    pub found : (t : List X) (x d : X) → place_in eq t x < length t → slice_index_or t (place_in eq t x) d ≡ x
    found [] x d h = absurd (omega (arith, h))
    found (y ∷ t) x d h = by (eq x y) refl h (found t x d)
      where
        by : (b : Bool) → eq x y ≡ b → cond (not b) (1 + place_in eq t x) 0 < suc (length t) → (place_in eq t x < length t → slice_index_or t (place_in eq t x) d ≡ x)
            → slice_index_or (y ∷ t) (cond (not b) (1 + place_in eq t x) 0) d ≡ x
        by true e h r = sym (same x y e)
        by false e h r =
            let n : 1 + place_in eq t x ≡ suc (place_in eq t x) = omega arith in
            ap (λ k. slice_index_or (y ∷ t) k d) n ∙ r (omega (arith, h))

    tells_one : (t : List X) (x y : X) → place_in eq t y < length t → eq x y ≡ nat_eq (place_in eq t x) (place_in eq t y)
    tells_one t x y h = alike _ _
        (λ e. (Decides-eqb _ _).1 (ap (place_in eq t) (same x y e)))
        (λ e. let n : place_in eq t x ≡ place_in eq t y = (Decides-eqb _ _).0 e in
        let both : x ≡ y = sym (found t x y (subst (λ k. k < length t) (sym n) h)) ∙ ap (λ k. slice_index_or t k y) n ∙ found t y y h in
        ap (λ z. eq z y) both ∙ self y)

    pub tells : (t xs : List X) → AllThere t xs → TellsFrom eq (place_in eq t) (place_in eq t) xs
    unfolding AllThere
    tells t [] h = tt
    tells t (y ∷ ys) h = ((λ x. tells_one t x y h.0), tells t ys h.1)

    pub keys_below : (t xs : List X) → AllThere t xs → AllBelow (length t) (map (place_in eq t) xs)
    unfolding AllThere
    keys_below t [] h = tt
    keys_below t (y ∷ ys) h = (h.0, keys_below t ys h.1)

    -- in the order of their first places
    count_put : (t : List X) (x : X) → length (insert_key eq t x) ≡ cond (nat_eq (place_in eq t x) (length t)) (suc (length t)) (length t)
    count_put t x = by (list_any (eq x) t) (there_is t x)
      where
        by : (b : Bool) → b ≡ nat_lt (place_in eq t x) (length t) → length (if b then t else t ++ x ∷ []) ≡ cond (nat_eq (place_in eq t x) (length t)) (suc (length t)) (length t)
        by true e =
            let l : place_in eq t x < length t = (Decides-ltb _ _).0 (sym e) in
            ap (λ b. cond b (suc (length t)) (length t)) (sym (unequal (nat_eq (place_in eq t x) (length t)) refl l))
          where
            unequal : (b : Bool) → nat_eq (place_in eq t x) (length t) ≡ b → place_in eq t x < length t → nat_eq (place_in eq t x) (length t) ≡ false
            unequal true s l = absurd (omega (arith, l, (Decides-eqb _ _).0 s))
            unequal false s l = s
        by false e =
            let n : place_in eq t x ≡ length t = last (nat_lt (place_in eq t x) (length t)) refl (sym e) in
            longer t x ∙ ap (λ b. cond b (suc (length t)) (length t)) (sym ((Decides-eqb _ _).1 n))
          where
            last : (b : Bool) → nat_lt (place_in eq t x) (length t) ≡ b → b ≡ false → place_in eq t x ≡ length t
            last true s e = absurd (true≢false e)
            last false s e = grind (arith, Decides-ltb, s, place_le t x)

    pub in_turn : (xs t : List X) → InTurn (length t) (keys_from eq t xs)
    in_turn [] t = tt
    in_turn (x ∷ xs) t = (place_le t x, subst (λ n. InTurn n (keys_from eq (insert_key eq t x) xs)) (count_put t x) (in_turn xs (insert_key eq t x)))

-- keys of rows from those of their cells
pub tells_rows : {X Y A B : Type 0} (same : A → B → Bool) (f : A → ℕ) (g : B → ℕ) (p : X → A) (q : Y → B) (rs : List Y) → TellsFrom same f g (map q rs) → TellsFrom (λ l r. same (p l) (q r)) (λ l. f (p l)) (λ r. g (q r)) rs
tells_rows same f g p q [] h = tt
tells_rows same f g p q (r ∷ rs) h = ((λ l. h.0 (p l)), tells_rows same f g p q rs h.1)

pub key_of : {X Y : Type 0} (same : X → Y → Bool) (f : X → ℕ) (g : Y → ℕ) (l : X) (rs : List Y) → TellsFrom same f g rs → KeyOf same l (f l) rs (map g rs)
key_of same f g l [] h = tt
key_of same f g l (r ∷ rs) h = (h.0 l, key_of same f g l rs h.1)

pub keys_of : {X Y : Type 0} (same : X → Y → Bool) (f : X → ℕ) (g : Y → ℕ) (ls : List X) (rs : List Y) → TellsFrom same f g rs → KeysOf same ls (map f ls) rs (map g rs)
keys_of same f g [] rs h = tt
keys_of same f g (l ∷ ls) rs h = (key_of same f g l rs h, keys_of same f g ls rs h)
