-- A text whose line ends are read byte by byte, and a string's value step by step.
use Rattle.std.proofs.Common.{refl, ◌≡◌, ℕ, zero, suc, ◌+◌, ◌-◌, ◌<◌, ◌≤◌, Bool, true, false, cond, ◌==◌, nat_le, option_map, List, [], ◌∷◌, ◌++◌, drop, Option, Some, None, sym, ap, ◌∙◌, arith, append_assoc, append-nil}
use Rattle.std.proofs.lemmas.Bool.Decides.{nat_tests}
use Rattle.std.specs.Char.{encode_utf8}
use Rattle.xq_ast.specs.Bytes.{byte, from_option}
use Rattle.xq_ast.specs.Values.{lines_from, value_from, reference}
use Rattle.xq_parser.specs.Strings.{value_step, added}

abbrev pub Joins : List ℕ → Bool → List ℕ → ℕ → Type 0
Joins out after bytes i = out ++ lines_from after (drop i bytes) ≡ lines_from false bytes

-- what the steps from here on give
abbrev pub after_step : (ℕ → List ℕ) → Option (List ℕ × ℕ) → List ℕ
after_step rest None = []
after_step rest (Some s) = s.0 ++ rest s.1

-- a turn, as a step and the rest
pub turn : (quote : ℕ) (text : List ℕ) (n at to : ℕ) → nat_le to at ≡ false → value_from quote text (suc n) at to ≡ after_step (λ next. value_from quote text n next to) (value_step quote text at)
unfolding value_from
turn quote text n at to below = rw below (by (byte text at == quote) (byte text at == 38) (byte text at == 13) (reference text at))
  where
    by : (a b c : Bool) (r : Option (ℕ × ℕ))
        → cond a (quote ∷ value_from quote text n (at + 2) to)
        (cond b (from_option r [] (λ r. encode_utf8 r.0 ++ value_from quote text n r.1 to))
        (cond c (10 ∷ value_from quote text n (cond (byte text (at + 1) == 10) (at + 2) (at + 1)) to)
        (byte text at ∷ value_from quote text n (at + 1) to)))
        ≡ after_step (λ next. value_from quote text n next to)
        (cond a (Some (quote ∷ [], at + 2))
        (cond b (option_map (λ (r : ℕ × ℕ). (encode_utf8 r.0, r.1)) r)
        (cond c (Some (10 ∷ [], cond (byte text (at + 1) == 10) (at + 2) (at + 1)))
        (Some (byte text at ∷ [], at + 1)))))
    by true b c r = refl
    by false true c None = refl
    by false true c (Some r) = refl
    by false false true r = refl
    by false false false r = refl

Some≢None : {A : Type 0} {x : A} → None ≡ Some x → ⊥
Some≢None e = cc

-- what a step gave, and what it leaves
step_goes : (rest : ℕ → List ℕ) (step : Option (List ℕ × ℕ)) (found new : List ℕ) (next : ℕ) → (new, Some next) ≡ added found step → new ++ rest next ≡ found ++ after_step rest step
step_goes rest None found new next e = absurd (Some≢None (sym (ap (λ x. x.1) e)))
step_goes rest (Some s) found new next e =
    let a : new ≡ found ++ s.0 = ap (λ x. x.0) e in
    let b : next ≡ s.1 = by (ap (λ x. x.1) e) in
    ap (λ z. z ++ rest next) a ∙ ap (λ z. (found ++ s.0) ++ rest z) b ∙ append_assoc found s.0 (rest s.1)
  where
    by : Some next ≡ Some s.1 → next ≡ s.1
    by e = cc

step_ends : (rest : ℕ → List ℕ) (step : Option (List ℕ × ℕ)) (found new : List ℕ) → (new, None) ≡ added found step → new ≡ found ++ after_step rest step
step_ends rest None found new e = ap (λ x. x.0) e ∙ sym (append-nil found)
step_ends rest (Some s) found new e = absurd (Some≢None (ap (λ x. x.1) e))

pub below_test : (to at : ℕ) → at < to → nat_le to at ≡ false
below_test to at l = grind (arith, nat_tests)

more_turns : (quote : ℕ) (text : List ℕ) (to turn_ at last : ℕ) (found whole : List ℕ) → turn_ < to → at < last → found ++ value_from quote text (to - turn_) at last ≡ whole
    → found ++ after_step (λ next. value_from quote text (to - (turn_ + 1)) next last) (value_step quote text at) ≡ whole
more_turns quote text to turn_ at last found whole l below h =
    let e : to - turn_ ≡ suc (to - (turn_ + 1)) = omega arith in
    ap (λ z. found ++ z) (sym (ap (λ n. value_from quote text n at last) e ∙ turn quote text (to - (turn_ + 1)) at last (below_test last at below))) ∙ h

pub value_goes : (quote : ℕ) (text : List ℕ) (to turn_ at last : ℕ) (found new whole : List ℕ) (next : ℕ) → turn_ < to → at < last → (new, Some next) ≡ added found (value_step quote text at)
    → found ++ value_from quote text (to - turn_) at last ≡ whole → new ++ value_from quote text (to - (turn_ + 1)) next last ≡ whole
value_goes quote text to turn_ at last found new whole next l below e h =
    step_goes (λ n. value_from quote text (to - (turn_ + 1)) n last) (value_step quote text at) found new next e ∙ more_turns quote text to turn_ at last found whole l below h

pub value_ends : (quote : ℕ) (text : List ℕ) (to turn_ at last : ℕ) (found new whole : List ℕ) → turn_ < to → at < last → (new, None) ≡ added found (value_step quote text at)
    → found ++ value_from quote text (to - turn_) at last ≡ whole → new ≡ whole
value_ends quote text to turn_ at last found new whole l below e h =
    step_ends (λ n. value_from quote text (to - (turn_ + 1)) n last) (value_step quote text at) found new e ∙ more_turns quote text to turn_ at last found whole l below h

pub past_end : (quote : ℕ) (text : List ℕ) (n at last : ℕ) → nat_le last at ≡ true → value_from quote text n at last ≡ []
unfolding value_from
past_end quote text zero at last t = refl
past_end quote text (suc n) at last t = rw t refl

pub value_whole : (quote : ℕ) (text : List ℕ) (n at last : ℕ) (found whole : List ℕ) → last ≤ at → found ++ value_from quote text n at last ≡ whole → found ≡ whole
value_whole quote text n at last found whole l h =
    let t : nat_le last at ≡ true = grind (arith, nat_tests) in
    sym (append-nil found) ∙ ap (λ z. found ++ z) (sym (past_end quote text n at last t)) ∙ h

no_turn : (quote : ℕ) (text : List ℕ) (at last : ℕ) → value_from quote text 0 at last ≡ []
unfolding value_from
no_turn quote text at last = refl

pub value_no_turn : (quote : ℕ) (text : List ℕ) (to turn_ at last : ℕ) (found whole : List ℕ) → to ≤ turn_ → found ++ value_from quote text (to - turn_) at last ≡ whole → found ≡ whole
value_no_turn quote text to turn_ at last found whole l h =
    let z : to - turn_ ≡ 0 = omega arith in
    sym (append-nil found) ∙ ap (λ z. found ++ z) (sym (ap (λ n. value_from quote text n at last) z ∙ no_turn quote text at last)) ∙ h
