-- Iterations that rows name, joins by iteration, and the checks of a node's own rule: what every lifted call uses.
use Rattle.std.proofs.Common.{◌≡◌, ℕ, ◌+◌, ◌≤◌, Bool, true, false, cond, not, ◌&&◌, ◌||◌, List, [], ◌∷◌, ◌++◌, length, map, refl, sym, ap, ◌∙◌, ⊎_elim, arith, add-zero, zero-add, nat_eq, nat_lt, Option, Some, None}
use Rattle.std.proofs.Math.Bool.{not-not, or_assoc}
use Rattle.std.specs.List.{filter, flat_map}
use denote.Enum.Bare.{true_same, false_same}
use Rattle.xq_base.specs.declared.code.Code.{Code}
use Rattle.xq_base.specs.contracts.code.Code.{the_type}
use Rattle.xq_base.specs.Answers.{Answer, Value, Fault as Refused}
use Rattle.doc_table.specs.Values.{Items}
use Rattle.plan_dag.specs.declared.check.Check.{Check}
use Rattle.plan_dag.specs.ItemRules.{Cell, cell_eq}
use Rattle.plan_dag.specs.Meaning.{cell}
use Rattle.plan_dag.specs.Rows.{joined, code_eq}
use Rattle.core_meaning.specs.Expr.{Site}
use Rattle.core_meaning.specs.Failures.{failure, faults_of}
use Rattle.lift_laws.specs.Sums.{total, bit, AllOf, Ascends, Same}
use Rattle.lift_laws.specs.Iterations.{Row, Iter, num, loop_rows}
use Rattle.lift_laws.specs.Bulk.{Fault, fault}
use Rattle.lift_laws.specs.States.{State, at, Small, column, single}
use Rattle.lift_laws.specs.Shapes.{bare, less, beside, other_rows, named_rows}
use Rattle.lift_laws.specs.Lifting.{numbers_at, first_cells, HasCode, TellsOf, Tells}
use Rattle.lift_laws.proofs.Numbers.{num_same, nat_eq_self, num_is}
use Rattle.lift_laws.proofs.Multi.{same-of, same-trans, same-keep, total-ext, total-map, total-flat, total-keep}
use Rattle.lift_laws.proofs.Picks.{Picked, picks, all_each, all_mono, all-flat, total-all}
use Rattle.lift_laws.proofs.Values.{all_two}
use Rattle.lift_laws.proofs.Simple.{is_there, any_count, other_stands}
use Rattle.lift_laws.proofs.ChoiceCase.{keep_same}

-- the rows name exactly the iterations that pass the test, maybe more than once
pub record Marks (b : List Row) (p : Iter → Bool) (its : List Iter) : Type 0 where
  pub each : AllOf (λ i. is_there (num i.number) b ≡ p i) its

there_append : (v : Cell) (xs ys : List Row) → is_there v (beside single xs ys) ≡ (is_there v xs || is_there v ys)
there_append v [] [] = refl
there_append v [] (y ∷ ys) = ap (λ b. cell_eq v (cell bare single (column 0) y) || b) (there_append v [] ys)
there_append v (x ∷ xs) ys = ap (λ b. cell_eq v (cell bare single (column 0) x) || b) (there_append v xs ys) ∙ sym (or_assoc (cell_eq v (cell bare single (column 0) x)) (is_there v xs) (is_there v ys))

-- a union names those of both
pub marks_or : {a b : List Row} {p q : Iter → Bool} {its : List Iter} → Marks a p its → Marks b q its → Marks (beside single a b) (λ i. p i || q i) its
marks_or {a = a} {b = b} {p = p} {q = q} {its = its} m n = record {
  each = all_two _ _ _ (λ i (x : is_there (num i.number) a ≡ p i) (y : is_there (num i.number) b ≡ q i). there_append (num i.number) a b ∙ ap (λ d. d || is_there (num i.number) b) x ∙ ap (λ d. p i || d) y) its m.each n.each;
}

-- rows that are left name what the others don't
there_less : (n : ℕ) (a c : List Row) → is_there (num n) (less a c) ≡ (is_there (num n) a && not (is_there (num n) c))
there_less n [] c = refl
there_less n (x ∷ a) c = go (cell_eq (num n) (cell bare single (column 0) x)) refl (there_less n a c)
  where
    here : (d : Bool) → is_there (num n) c ≡ d → cell_eq (num n) (cell bare single (column 0) x) ≡ true → is_there (num n) (less a c) ≡ (is_there (num n) a && not (is_there (num n) c)) → is_there (num n) (cond (not d) (x ∷ less a c) (less a c)) ≡ not d
    here true e q r = r ∙ ap (λ b. is_there (num n) a && not b) e ∙ never (is_there (num n) a)
      where
        never : (b : Bool) → (b && false) ≡ false
        never true = refl
        never false = refl
    here false e q r = ap (λ b. b || is_there (num n) (less a c)) q

    apart : (d : Bool) → is_there (num n) (cond d (x ∷ less a c) (less a c)) ≡ ((d && cell_eq (num n) (cell bare single (column 0) x)) || is_there (num n) (less a c))
    apart true = refl
    apart false = refl

    never : (d : Bool) → (d && false) ≡ false
    never true = refl
    never false = refl

    go : (b : Bool) → cell_eq (num n) (cell bare single (column 0) x) ≡ b → is_there (num n) (less a c) ≡ (is_there (num n) a && not (is_there (num n) c))
        → is_there (num n) (cond (not (is_there (cell bare single (column 0) x) c)) (x ∷ less a c) (less a c)) ≡ ((cell_eq (num n) (cell bare single (column 0) x) || is_there (num n) a) && not (is_there (num n) c))
    go true e r =
        ap (λ v. is_there (num n) (cond (not (is_there v c)) (x ∷ less a c) (less a c))) (num_is n (cell bare single (column 0) x) e)
        ∙ here (is_there (num n) c) refl e r
        ∙ sym (ap (λ b. (b || is_there (num n) a) && not (is_there (num n) c)) e)
    go false e r =
        apart (not (is_there (cell bare single (column 0) x) c))
        ∙ ap (λ b. (not (is_there (cell bare single (column 0) x) c) && b) || is_there (num n) (less a c)) e
        ∙ ap (λ b. b || is_there (num n) (less a c)) (never (not (is_there (cell bare single (column 0) x) c)))
        ∙ r ∙ sym (ap (λ b. (b || is_there (num n) a) && not (is_there (num n) c)) e)

-- those that both name
pub marks_and : {a b : List Row} {p q : Iter → Bool} {its : List Iter} → Marks a p its → Marks b q its → Marks (named_rows a b) (λ i. p i && q i) its
marks_and {a = a} {b = b} {p = p} {q = q} {its = its} m n = record {
  each = all_two _ _ _ (λ i (x : is_there (num i.number) a ≡ p i) (y : is_there (num i.number) b ≡ q i).
      there_less i.number a (less a b) ∙ ap (λ d. is_there (num i.number) a && not d) (there_less i.number a b) ∙ ap (λ d. d && not (d && not (is_there (num i.number) b))) x ∙ ap (λ d. p i && not (p i && not d)) y ∙ both (p i) (q i)) its m.each n.each;
}
  where
    both : (b d : Bool) → (b && not (b && not d)) ≡ (b && d)
    both true true = refl
    both true false = refl
    both false d = refl

pub marks_same : {a b : List Row} {p : Iter → Bool} {its : List Iter} → Same a b → Marks b p its → Marks a p its
marks_same {a = a} {b = b} {p = p} {its = its} s m = record {
  each = all_mono _ _ (λ i (x : is_there (num i.number) b ≡ p i).
      let hit = λ (r : Row). cell_eq (num i.number) (cell bare single (column 0) r) in
      any_count hit a ∙ ap (nat_lt 0) (s.at (λ r. bit (hit r))) ∙ sym (any_count hit b) ∙ x) its m.each;
}

pub marks_is : {a : List Row} {p q : Iter → Bool} {its : List Iter} → AllOf (λ i. p i ≡ q i) its → Marks a p its → Marks a q its
marks_is {a = a} {p = p} {q = q} {its = its} e m = record { each = all_two _ _ _ (λ i (x : p i ≡ q i) (y : is_there (num i.number) a ≡ p i). y ∙ x) its e m.each }

abbrev pub some : {A : Type 0} → List A → Bool
some xs = nat_lt 0 (total (λ x. 1) xs)

-- each row of one iteration has its number
abbrev pub Keyed : (Row → Cell) → (Iter → List Row) → Type 0
Keyed f R = (i : Iter) → AllOf (λ r. f r ≡ num i.number) (R i)

bits_of : (b : Bool) (rs : List Row) → total (λ r. bit b) rs ≡ cond b (total (λ r. 1) rs) 0
bits_of true rs = refl
bits_of false [] = refl
bits_of false (r ∷ rs) = zero-add _ ∙ bits_of false rs

pub marks_rows : (R : Iter → List Row) (its : List Iter) (b : List Row) → Ascends (λ i. i.number) 0 its → Keyed (cell bare single (column 0)) R → Same b (flat_map R its) → Marks b (λ i. some (R i)) its
marks_rows R its b asc keyed s = record {
  each = all_mono _ _ (λ i (h : Picked (λ (j : Iter). j.number) its i).
      let test = λ (r : Row). cell_eq (num i.number) (cell bare single (column 0) r) in
      let hit = λ (r : Row). bit (test r) in
      any_count test b
      ∙ ap (nat_lt 0)
      (s.at hit ∙ total-flat hit R its
      ∙ total-ext _ _ its (λ j. total-all hit (λ r. bit (nat_eq i.number j.number)) (R j) (all_mono _ _ (λ r (e : cell bare single (column 0) r ≡ num j.number). ap (λ c. bit (cell_eq (num i.number) c)) e ∙ ap bit (num_same i.number j.number)) (R j) (keyed j)) ∙ bits_of (nat_eq i.number j.number) (R j))
      ∙ h (λ j. total (λ r. 1) (R j)))) its (picks (λ i. i.number) 0 its asc);
}

-- the iterations that they don't name, and those that they name, each once
pub unmarked_stands : (p : Iter → Bool) (its : List Iter) (l b : List Row) → Same l (loop_rows its) → Marks b p its → Same (less l b) (loop_rows (filter (λ i. not (p i)) its))
unmarked_stands p its l b sl m =
    let out = λ (r : Row). not (is_there (cell bare single (column 0) r) b) in
    same-trans (same-keep out sl) (record {
      at = λ w.
          total-keep w out (loop_rows its)
          ∙ total-map (λ r. cond (out r) (w r) 0) (λ (i : Iter). num i.number ∷ []) its
          ∙ total-all _ _ its (all_mono _ _ (λ i (e : is_there (num i.number) b ≡ p i). ap (λ d. cond (not d) (w (num i.number ∷ [])) 0) e) its m.each)
          ∙ sym (total-keep (λ (i : Iter). w (num i.number ∷ [])) (λ i. not (p i)) its)
          ∙ sym (total-map w (λ (i : Iter). num i.number ∷ []) (filter (λ i. not (p i)) its));
    })

pub marked_stands : (p : Iter → Bool) (its : List Iter) (l b : List Row) → Ascends (λ i. i.number) 0 its → Same l (loop_rows its) → Marks b p its → Same (other_rows l (less l b)) (loop_rows (filter p its))
marked_stands p its l b asc sl m =
    same-trans (other_stands (λ i. not (p i)) its l _ asc sl (unmarked_stands p its l b sl m))
    (same-of (ap loop_rows (keep_same (λ i. not (not (p i))) p its (all_each _ (λ i. not-not (p i)) its))))

-- what a table of some iterations says as a check
pub exact_keep : (p : Iter → Bool) (its : List Iter) (rows : List Row) → Same rows (loop_rows (filter p its)) → (v : Cell → ℕ) → total v (map (cell bare single (column 0)) rows) ≡ total (λ i. cond (p i) (v (num i.number)) 0) its
exact_keep p its rows s v =
    total-map v (cell bare single (column 0)) rows
    ∙ s.at (λ r. v (cell bare single (column 0) r))
    ∙ total-map (λ r. v (cell bare single (column 0) r)) (λ (i : Iter). num i.number ∷ []) (filter p its)
    ∙ total-keep (λ (i : Iter). v (num i.number)) p its

-- a join by iteration of two tables of several rows each
module _ (f g : Row → Cell) (L R : Iter → List Row) (its : List Iter) (asc : Ascends (λ i. i.number) 0 its) (kl : Keyed f L) (kr : Keyed g R) where
  side : (w : Row → ℕ) (l : Row) (n : ℕ) (y : Iter) → f l ≡ num n → total (λ r. cond (cell_eq (f l) (g r)) (w (l ++ r)) 0) (R y) ≡ cond (nat_eq n y.number) (total (λ r. w (l ++ r)) (R y)) 0
  side w l n y e =
      total-all (λ r. cond (cell_eq (f l) (g r)) (w (l ++ r)) 0) (λ r. cond (nat_eq n y.number) (w (l ++ r)) 0) (R y)
      (all_mono _ _ (λ r (h : g r ≡ num y.number). ap (λ c. cond (cell_eq c (g r)) (w (l ++ r)) 0) e ∙ ap (λ c. cond (cell_eq (num n) c) (w (l ++ r)) 0) h ∙ ap (λ b. cond b (w (l ++ r)) 0) (num_same n y.number)) (R y) (kr y))
      ∙ pull (nat_eq n y.number) (R y)
    where
      pull : (d : Bool) (rs : List Row) → total (λ r. cond d (w (l ++ r)) 0) rs ≡ cond d (total (λ r. w (l ++ r)) rs) 0
      pull true rs = refl
      pull false [] = refl
      pull false (r ∷ rs) = zero-add _ ∙ pull false rs

  pub join_iters : Same (joined bare f g (flat_map L its) (flat_map R its)) (flat_map (λ i. flat_map (λ l. map (λ r. l ++ r) (R i)) (L i)) its)
  join_iters = record {
    at = λ w.
        let each = λ (l : Row). map (λ r. l ++ r) (filter (λ r. cell_eq (f l) (g r)) (flat_map R its)) in
        total-flat w each (flat_map L its)
        ∙ total-flat (λ l. total w (each l)) L its
        ∙ total-all _ _ its (all_mono _ _ (λ i (h : Picked (λ (j : Iter). j.number) its i).
        total-all (λ l. total w (each l)) (λ l. total w (map (λ r. l ++ r) (R i))) (L i)
        (all_mono _ _ (λ l (e : f l ≡ num i.number).
        total-map w (λ r. l ++ r) (filter (λ r. cell_eq (f l) (g r)) (flat_map R its))
        ∙ total-keep (λ r. w (l ++ r)) (λ r. cell_eq (f l) (g r)) (flat_map R its)
        ∙ total-flat (λ r. cond (cell_eq (f l) (g r)) (w (l ++ r)) 0) R its
        ∙ total-ext _ _ its (λ y. side w l i.number y e)
        ∙ h (λ y. total (λ r. w (l ++ r)) (R y))
        ∙ sym (total-map w (λ r. l ++ r) (R i))) (L i) (kl i))
        ∙ sym (total-flat w (λ l. map (λ r. l ++ r) (R i)) (L i))) its (picks (λ i. i.number) 0 its asc))
        ∙ sym (total-flat w (λ i. flat_map (λ l. map (λ r. l ++ r) (R i)) (L i)) its);
  }

abbrev pub fault_in : {A : Type 0} → Answer A → Option Code
fault_in (Value x) = None
fault_in (Refused d) = Some d

-- what one iteration weighs for a code
abbrev pub weigh : Code → (Cell → ℕ) → ℕ → Option Code → ℕ
weigh c v n None = 0
weigh c v n (Some d) = cond (code_eq c d) (v (num n)) 0

-- the code is among the checks'
abbrev pub CodeIn : Option Code → List Check → Type 0
CodeIn None cs = Unit {0}
CodeIn (Some c) cs = HasCode c cs

pub code_self : (c : Code) → code_eq c c ≡ true
code_self c = true_same the_type c c refl

-- codes of different ranks differ
pub code_apart : (c d : Code) → (c ≡ d → ⊥) → code_eq c d ≡ false
code_apart c d ne = false_same the_type tt c d ne

-- a failure of another code
abbrev pub Nowhere : Code → Fault → Type 0
Nowhere c f = f.failure.code ≡ c → ⊥

-- the failures of a rule that gives an answer in each iteration
module _ (site : Site) (answer : Iter → Answer Items) (its : List Iter) where
  abbrev report : Iter → Answer Items → List Fault
  report i x = map (fault i.number) (faults_of x (failure site i.vector))

  abbrev fs : List Fault
  fs = flat_map (λ i. report i (answer i)) its

  -- the numbers of one check, counted by iterations
  pub numbers_total : (c : Code) (v : Cell → ℕ) → total v (numbers_at site.number c fs) ≡ total (λ i. weigh c v i.number (fault_in (answer i))) its
  numbers_total c v =
      let p = λ (x : Fault). nat_eq site.number x.failure.site.number && code_eq c x.failure.code in
      let u = λ (x : Fault). cond (p x) (v (num x.number)) 0 in
      total-map v (λ (x : Fault). num x.number) (filter p fs)
      ∙ total-keep (λ (x : Fault). v (num x.number)) p fs
      ∙ total-flat u (λ i. report i (answer i)) its
      ∙ total-ext _ _ its (λ i. one i (answer i))
    where
      one : (i : Iter) (x : Answer Items) → total (λ (x : Fault). cond (nat_eq site.number x.failure.site.number && code_eq c x.failure.code) (v (num x.number)) 0) (map (fault i.number) (faults_of x (failure site i.vector))) ≡ weigh c v i.number (fault_in x)
      one i (Value x) = refl
      one i (Refused d) = add-zero _ ∙ ap (λ b. cond (b && code_eq c d) (v (num i.number)) 0) (nat_eq_self site.number)

  abbrev Here : List Check → Fault → Type 0
  Here cs x = (x.failure.site.number ≡ site.number) × HasCode x.failure.code cs

  here : (cs : List Check) → AllOf (λ i. CodeIn (fault_in (answer i)) cs) its → AllOf (Here cs) fs
  here cs coded = all-flat _ _ its (all_mono _ _ (λ i (k : CodeIn (fault_in (answer i)) cs). at_one i (answer i) k) its coded)
    where
      at_one : (i : Iter) (x : Answer Items) → CodeIn (fault_in x) cs → AllOf (Here cs) (map (fault i.number) (faults_of x (failure site i.vector)))
      at_one i (Value x) k = tt
      at_one i (Refused c) k = ((refl, k), tt)

  -- a code that has no number is the code of no failure
  absent : (c : Code) (xs : List Fault) → AllOf (λ x. x.failure.site.number ≡ site.number) xs → total (λ (v : Cell). 1) (numbers_at site.number c xs) ≡ 0 → AllOf (Nowhere c) xs
  absent c [] h z = tt
  absent c (x ∷ xs) h z = go (nat_eq site.number x.failure.site.number && code_eq c x.failure.code) refl z (λ y. absent c xs h.1 y)
    where
      p : Fault → Bool
      p g = nat_eq site.number g.failure.site.number && code_eq c g.failure.code

      passes : x.failure.code ≡ c → (nat_eq site.number x.failure.site.number && code_eq c x.failure.code) ≡ true
      passes e = ap (λ n. nat_eq site.number n && code_eq c x.failure.code) h.0 ∙ ap (λ b. b && code_eq c x.failure.code) (nat_eq_self site.number) ∙ true_same the_type c x.failure.code (sym e)

      no_two : false ≡ true → ⊥
      no_two e = cc

      go : (b : Bool) → (nat_eq site.number x.failure.site.number && code_eq c x.failure.code) ≡ b
          → total (λ (v : Cell). 1) (map (λ (g : Fault). num g.number) (cond b (x ∷ filter (λ g. nat_eq site.number g.failure.site.number && code_eq c g.failure.code) xs) (filter (λ g. nat_eq site.number g.failure.site.number && code_eq c g.failure.code) xs))) ≡ 0
          → (total (λ (v : Cell). 1) (numbers_at site.number c xs) ≡ 0 → AllOf (Nowhere c) xs) → AllOf (Nowhere c) (x ∷ xs)
      go true q y k = absurd (omega arith)
      go false q y k = ((λ e. no_two (sym q ∙ passes e)), k y)

  none_left : (cs : List Check) (xs : List Fault) → AllOf (Here cs) xs → AllOf (λ (c : Check). AllOf (Nowhere c.code) xs) cs → xs ≡ []
  none_left cs [] h a = refl
  none_left cs (x ∷ xs) h a = absurd (go cs h.0.1 a)
    where
      go : (ds : List Check) → HasCode x.failure.code ds → AllOf (λ (c : Check). AllOf (Nowhere c.code) (x ∷ xs)) ds → ⊥
      go [] k b = k
      go (d ∷ ds) k b = ⊎_elim (λ e. b.0.0 e) (λ j. go ds j b.1) k

  -- the checks of the rule: each exact, each failure's code among them, each small
  module _ (N : ℕ) (s s' : State) (cs : List Check)
      (exact : AllOf (λ (c : Check). (v : Cell → ℕ) → total v (first_cells (at s' c.op)) ≡ total (λ i. weigh c.code v i.number (fault_in (answer i))) its) cs)
      (coded : AllOf (λ i. CodeIn (fault_in (answer i)) cs) its)
      (few : AllOf (λ (c : Check). Small s' (length s.tables) (c.op.0 + 1) N) cs) where
    abbrev Exact : Check → Type 0
    Exact c = (v : Cell → ℕ) → total v (first_cells (at s' c.op)) ≡ total v (numbers_at site.number c.code fs)

    exacts : AllOf Exact cs
    exacts = all_mono _ _ (λ (c : Check) (h : (v : Cell → ℕ) → total v (first_cells (at s' c.op)) ≡ total (λ i. weigh c.code v i.number (fault_in (answer i))) its). let r : Exact c = λ v. h v ∙ sym (numbers_total c.code v) in r) cs exact

    still : AllOf (λ (c : Check). (at s' c.op).rows ≡ []) cs → fs ≡ []
    still z = none_left cs fs (here cs coded) (all_two _ _ _ (λ (c : Check) (h : Exact c) (e : (at s' c.op).rows ≡ []).
        absent c.code fs (all_mono _ _ (λ x (k : Here cs x). let q : x.failure.site.number ≡ site.number = k.0 in q) fs (here cs coded))
        (sym (h (λ x. 1)) ∙ ap (λ rs. total (λ (x : Cell). 1) (map (cell bare (at s' c.op).cols (column 0)) rs)) e)) cs exacts z)

    pub rule_tells : (fs ≡ [] → Small s' (length s.tables) (length s'.tables) N) → Tells N s' (length s.tables) (length s'.tables) (record { site = site; checks = cs } ∷ []) fs
    rule_tells small = (
      all_mono _ _ (λ x (h : Here cs x). let e = h.0 in let r : (site.number ≤ x.failure.site.number) × (x.failure.site.number ≡ site.number → HasCode x.failure.code cs) = (omega arith, (λ d. h.1)) in r) fs (here cs coded),
      all_two _ _ _ (λ (c : Check) (h : Exact c) (k : Small s' (length s.tables) (c.op.0 + 1) N). let r : TellsOf N s' (length s.tables) site fs c = (h, k) in r) cs exacts few,
      (λ z. let e = still z in (e, small e)),
    )
