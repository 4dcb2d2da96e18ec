-- A string's value in lower case is compared with a word step by step.
use Rattle.std.proofs.Common.{refl, ◌≡◌, ℕ, zero, suc, ◌+◌, ◌-◌, ◌<◌, ◌≤◌, Bool, true, false, cond, ◌==◌, ◌&&◌, nat_le, List, [], ◌∷◌, ◌++◌, length, drop, Option, Some, None, option_map, sym, ap, ◌∙◌, arith}
use Rattle.std.proofs.lemmas.Bool.Decides.{nat_tests}
use Rattle.std.specs.Char.{to_ascii_lowercase}
use Rattle.std.specs.Str.{str_to_ascii_lowercase}
use Rattle.xq_ast.specs.Bytes.{same, from_option}
use Rattle.xq_ast.specs.Values.{value_from}
use Rattle.xq_parser.specs.Strings.{value_step}
use Rattle.xq_parser.specs.Encodings.{behind, behind_step}
use Rattle.xq_parser.proofs.LineLaws.{after_step, turn, past_end, below_test}

-- whether a word is this text in lower case
abbrev pub is_lower : List ℕ → List ℕ → Bool
is_lower xs w = same (str_to_ascii_lowercase xs) w

split : (bs ys w : List ℕ) → is_lower (bs ++ ys) w ≡ from_option (behind bs w) false (λ rest. is_lower ys rest)
split [] ys w = refl
split (b ∷ bs) ys [] = refl
split (b ∷ bs) ys (c ∷ cs) = by (to_ascii_lowercase b == c) (split bs ys cs)
  where
    by : (t : Bool) → is_lower (bs ++ ys) cs ≡ from_option (behind bs cs) false (λ rest. is_lower ys rest)
        → (t && is_lower (bs ++ ys) cs) ≡ from_option (cond t (behind bs cs) None) false (λ rest. is_lower ys rest)
    by true e = e
    by false e = refl

-- a step compared
step_compared : (rest : ℕ → List ℕ) (step : Option (List ℕ × ℕ)) (w : List ℕ) (last : ℕ) → rest last ≡ []
    → is_lower (after_step rest step) w ≡ from_option (behind_step w last step) false (λ r. is_lower (rest r.1) r.0)
step_compared rest None w last e = ap (λ ys. is_lower ys w) (sym e)
step_compared rest (Some s) w last e = split s.0 (rest s.1) w ∙ by (behind s.0 w)
  where
    by : (o : Option (List ℕ)) → from_option o false (λ left. is_lower (rest s.1) left) ≡ from_option (option_map (λ left. (left, s.1)) o) false (λ (r : List ℕ × ℕ). is_lower (rest r.1) r.0)
    by None = refl
    by (Some x) = refl

at_last : (last : ℕ) → nat_le last last ≡ true
at_last last = grind (arith, nat_tests)

one_turn : (quote : ℕ) (text : List ℕ) (to turn_ at last : ℕ) (w : List ℕ) → turn_ < to → at < last
    → is_lower (value_from quote text (to - turn_) at last) w ≡ from_option (behind_step w last (value_step quote text at)) false (λ r. is_lower (value_from quote text (to - (turn_ + 1)) r.1 last) r.0)
one_turn quote text to turn_ at last w l below =
    let e : to - turn_ ≡ suc (to - (turn_ + 1)) = omega arith in
    ap (λ n. is_lower (value_from quote text n at last) w) e
    ∙ ap (λ xs. is_lower xs w) (turn quote text (to - (turn_ + 1)) at last (below_test last at below))
    ∙ step_compared (λ next. value_from quote text (to - (turn_ + 1)) next last) (value_step quote text at) w last (past_end quote text (to - (turn_ + 1)) last last (at_last last))

pub word_goes : (quote : ℕ) (text : List ℕ) (to turn_ at last next : ℕ) (w rest : List ℕ) (whole : Bool) → turn_ < to → at < last
    → behind_step w last (value_step quote text at) ≡ Some (rest, next) → whole ≡ is_lower (value_from quote text (to - turn_) at last) w
    → whole ≡ is_lower (value_from quote text (to - (turn_ + 1)) next last) rest
word_goes quote text to turn_ at last next w rest whole l below e h =
    h ∙ one_turn quote text to turn_ at last w l below ∙ ap (λ o. from_option o false (λ (r : List ℕ × ℕ). is_lower (value_from quote text (to - (turn_ + 1)) r.1 last) r.0)) e

pub word_differs : (quote : ℕ) (text : List ℕ) (to turn_ at last : ℕ) (w : List ℕ) (whole : Bool) → turn_ < to → at < last
    → behind_step w last (value_step quote text at) ≡ None → whole ≡ is_lower (value_from quote text (to - turn_) at last) w → whole ≡ false
word_differs quote text to turn_ at last w whole l below e h =
    h ∙ one_turn quote text to turn_ at last w l below ∙ ap (λ o. from_option o false (λ (r : List ℕ × ℕ). is_lower (value_from quote text (to - (turn_ + 1)) r.1 last) r.0)) e

some_left : (n : ℕ) → false ≡ (suc n == 0)
some_left n = grind (arith, nat_tests)

nothing_left : (w : List ℕ) → is_lower [] w ≡ (length w == 0)
nothing_left [] = refl
nothing_left (c ∷ cs) = some_left (length cs)

pub word_ends : (quote : ℕ) (text : List ℕ) (n at last : ℕ) (w : List ℕ) (whole : Bool) → last ≤ at → whole ≡ is_lower (value_from quote text n at last) w → whole ≡ (length w == 0)
word_ends quote text n at last w whole l h =
    let t : nat_le last at ≡ true = grind (arith, nat_tests) in
    h ∙ ap (λ xs. is_lower xs w) (past_end quote text n at last t) ∙ nothing_left w

no_turn : (quote : ℕ) (text : List ℕ) (at last : ℕ) → value_from quote text 0 at last ≡ []
unfolding value_from
no_turn quote text at last = refl

pub word_over : (quote : ℕ) (text : List ℕ) (to turn_ at last : ℕ) (w : List ℕ) (whole : Bool) → to ≤ turn_ → whole ≡ is_lower (value_from quote text (to - turn_) at last) w → whole ≡ (length w == 0)
word_over quote text to turn_ at last w whole l h =
    let z : to - turn_ ≡ 0 = omega arith in
    h ∙ ap (λ n. is_lower (value_from quote text n at last) w) z ∙ ap (λ xs. is_lower xs w) (no_turn quote text at last) ∙ nothing_left w

-- bytes and a word, from a place on
pub behind_turn : (bs w : List ℕ) (i : ℕ) → i < length bs → i < length w → (a b : ℕ) → drop i bs ≡ a ∷ drop (i + 1) bs → drop i w ≡ b ∷ drop (i + 1) w
    → behind (drop i bs) (drop i w) ≡ cond (to_ascii_lowercase a == b) (behind (drop (i + 1) bs) (drop (i + 1) w)) None
behind_turn bs w i l m a b e f = rw (e, f) refl

pub too_long : (bs w : List ℕ) → length w < length bs → behind bs w ≡ None
too_long [] w l = absurd (none l)
  where
    none : {n : ℕ} → n < 0 → ⊥
    none l = omega (arith, l)
too_long (b ∷ bs) [] l = refl
too_long (b ∷ bs) (c ∷ cs) l = by (to_ascii_lowercase b == c) (too_long bs cs (omega (arith, l)))
  where
    by : (t : Bool) → behind bs cs ≡ None → cond t (behind bs cs) None ≡ None
    by true e = e
    by false e = refl
