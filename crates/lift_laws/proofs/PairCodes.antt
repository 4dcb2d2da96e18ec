-- Codes that two operands have each by itself or both together, and which of them comes first.
use Rattle.std.proofs.Common.{◌≡◌, ◌<◌, ◌⊎◌, Bool, true, false, cond, ◌||◌, List, [], ◌∷◌, map, refl, sym, ap, ◌∙◌, subst, inr, ⊎_elim, arith, Option, Some, None, true≢false}
use Rattle.std.proofs.Math.Bool.{or-true}
use Rattle.std.proofs.lemmas.Bool.{lt-ltb, le-ltb}
use Rattle.xq_base.specs.declared.code.Code.{Code}
use Rattle.xq_base.specs.Answers.{Answer, Value, Fault as Refused, check_rank, earlier, then_rule, both_of}
use Rattle.doc_table.specs.Values.{Items}
use Rattle.plan_dag.specs.Rows.{is_code}
use Rattle.lift_laws.specs.Sums.{AllOf}
use Rattle.lift_laws.specs.Pairs.{PairCode, OfEach, OfBoth, code_of}
use Rattle.lift_laws.proofs.Marks.{fault_in, code_self}
use Rattle.lift_laws.proofs.Staged.{rank_apart}
use Rattle.lift_laws.proofs.ItemCase.{code_same}
use Rattle.lift_laws.proofs.Stagings.{Ranked}

abbrev pub sooner : Option Code → Option Code → Option Code
sooner None y = y
sooner (Some d) None = Some d
sooner (Some d) (Some e) = Some (earlier d e)

abbrev pub or_else : Option Code → Option Code → Option Code
or_else None p = p
or_else (Some d) p = Some d

-- a code that an operand may have by itself, or none
abbrev pub AmongOwn : Option Code → List PairCode → Type 0
AmongOwn x [] = x ≡ None
AmongOwn x (OfEach d ∷ es) = (x ≡ Some d) ⊎ AmongOwn x es
AmongOwn x (OfBoth d ∷ es) = x ≡ None

-- one that both may have together, or none
abbrev pub AmongBoth : Option Code → List PairCode → Type 0
AmongBoth p [] = p ≡ None
AmongBoth p (OfEach d ∷ es) = AmongBoth p es
AmongBoth p (OfBoth d ∷ es) = (p ≡ Some d) ⊎ AmongBoth p es

pub among_none : (es : List PairCode) → AmongOwn None es
among_none [] = refl
among_none (OfEach d ∷ es) = inr (among_none es)
among_none (OfBoth d ∷ es) = refl

abbrev Later : Code → Option Code → Type 0
Later d None = Unit {0}
Later d (Some e) = check_rank d < check_rank e

abbrev After : Code → List PairCode → Type 0
After d es = AllOf (λ e. check_rank d < check_rank e) (map code_of es)

later_own : (d : Code) (x : Option Code) (es : List PairCode) → After d es → AmongOwn x es → Later d x
later_own d x [] a h = subst (Later d) (sym h) tt
later_own d x (OfEach e ∷ es) a h = ⊎_elim (λ q. subst (Later d) (sym q) a.0) (λ k. later_own d x es a.1 k) h
later_own d x (OfBoth e ∷ es) a h = subst (Later d) (sym h) tt

later_both : (d : Code) (p : Option Code) (es : List PairCode) → After d es → AmongBoth p es → Later d p
later_both d p [] a h = subst (Later d) (sym h) tt
later_both d p (OfEach e ∷ es) a h = later_both d p es a.1 h
later_both d p (OfBoth e ∷ es) a h = ⊎_elim (λ q. subst (Later d) (sym q) a.0) (λ k. later_both d p es a.1 k) h

not_later : (d : Code) (x : Option Code) → Later d x → is_code d x ≡ false
not_later d None h = refl
not_later d (Some e) h = rank_apart d e h

is_some : (d : Code) (x : Option Code) → is_code d x ≡ true → x ≡ Some d
is_some d None h = absurd (true≢false (sym h))
is_some d (Some e) h = ap Some (sym (code_same d e h))

-- the first of two, where one is known
both_first : (d : Code) → sooner (Some d) (Some d) ≡ Some d
both_first d = ap (λ b. Some (cond b d d)) (le-ltb (check_rank d) (check_rank d) (omega arith))

first_left : (d : Code) (y : Option Code) → Later d y → sooner (Some d) y ≡ Some d
first_left d None h = refl
first_left d (Some e) h = ap (λ b. Some (cond b e d)) (le-ltb (check_rank e) (check_rank d) (omega arith))

first_right : (d : Code) (x : Option Code) → Later d x → sooner x (Some d) ≡ Some d
first_right d None h = refl
first_right d (Some e) h = ap (λ b. Some (cond b d e)) (lt-ltb (check_rank d) (check_rank e) h)

-- the first code among these, where the operands have x and y, and both together p
abbrev pub first_by : Option Code → Option Code → Option Code → List PairCode → Option Code
first_by x y p [] = None
first_by x y p (OfEach d ∷ es) = cond (is_code d x || is_code d y) (Some d) (first_by x y p es)
first_by x y p (OfBoth d ∷ es) = cond (is_code d p) (Some d) (first_by x y p es)

pub alone : (p : Option Code) (es : List PairCode) → AmongBoth p es → first_by None None p es ≡ p
alone p [] h = sym h
alone p (OfEach d ∷ es) h = alone p es h
alone p (OfBoth d ∷ es) h = go (is_code d p) refl (λ k. alone p es k)
  where
    go : (b : Bool) → is_code d p ≡ b → (AmongBoth p es → first_by None None p es ≡ p) → cond (is_code d p) (Some d) (first_by None None p es) ≡ p
    go true e r = ap (λ b. cond b (Some d) (first_by None None p es)) e ∙ sym (is_some d p e)
    go false e r = ap (λ b. cond b (Some d) (first_by None None p es)) e ∙ ⊎_elim (λ q. absurd (true≢false (sym (ap (is_code d) q ∙ code_self d) ∙ e))) r h

pub first_is : (x y p : Option Code) (es : List PairCode) → Ranked (map code_of es) → AmongOwn x es → AmongOwn y es → (x ≡ None → y ≡ None → AmongBoth p es) → first_by x y p es ≡ or_else (sooner x y) p
first_is x y p [] r hx hy hp = sym (ap (λ z. or_else (sooner z y) p) hx ∙ ap (λ z. or_else z p) hy ∙ hp hx hy)
first_is x y p (OfBoth d ∷ es) r hx hy hp =
    ap (λ z. first_by z y p (OfBoth d ∷ es)) hx ∙ ap (λ z. first_by None z p (OfBoth d ∷ es)) hy ∙ alone p (OfBoth d ∷ es) (hp hx hy)
    ∙ sym (ap (λ z. or_else (sooner z y) p) hx ∙ ap (λ z. or_else z p) hy)
first_is x y p (OfEach d ∷ es) r hx hy hp = ⊎_elim left (λ kx. ⊎_elim (right kx) (λ ky. neither kx ky (first_is x y p es r.1 kx ky hp)) hy) hx
  where
    left_first : x ≡ Some d → sooner x y ≡ Some d
    left_first q = ap (λ z. sooner z y) q ∙ ⊎_elim (λ k. ap (sooner (Some d)) k ∙ both_first d) (λ k. first_left d y (later_own d y es r.0 k)) hy

    left : x ≡ Some d → cond (is_code d x || is_code d y) (Some d) (first_by x y p es) ≡ or_else (sooner x y) p
    left q =
        ap (λ z. cond (is_code d z || is_code d y) (Some d) (first_by x y p es)) q ∙ ap (λ b. cond (b || is_code d y) (Some d) (first_by x y p es)) (code_self d)
        ∙ sym (ap (λ z. or_else z p) (left_first q))

    right : AmongOwn x es → y ≡ Some d → cond (is_code d x || is_code d y) (Some d) (first_by x y p es) ≡ or_else (sooner x y) p
    right kx q =
        ap (λ z. cond (is_code d x || is_code d z) (Some d) (first_by x y p es)) q ∙ ap (λ b. cond (is_code d x || b) (Some d) (first_by x y p es)) (code_self d)
        ∙ ap (λ b. cond b (Some d) (first_by x y p es)) (or-true (is_code d x))
        ∙ sym (ap (λ z. or_else (sooner x z) p) q ∙ ap (λ z. or_else z p) (first_right d x (later_own d x es r.0 kx)))

    neither : AmongOwn x es → AmongOwn y es → first_by x y p es ≡ or_else (sooner x y) p → cond (is_code d x || is_code d y) (Some d) (first_by x y p es) ≡ or_else (sooner x y) p
    neither kx ky e =
        ap (λ b. cond (b || is_code d y) (Some d) (first_by x y p es)) (not_later d x (later_own d x es r.0 kx))
        ∙ ap (λ b. cond b (Some d) (first_by x y p es)) (not_later d y (later_own d y es r.0 ky)) ∙ e

-- no code of each comes after one of both
abbrev pub NoneOwn : List PairCode → Type 0
NoneOwn [] = Unit {0}
NoneOwn (OfEach d ∷ es) = ⊥
NoneOwn (OfBoth d ∷ es) = NoneOwn es

abbrev pub OwnFirst : List PairCode → Type 0
OwnFirst [] = Unit {0}
OwnFirst (OfEach d ∷ es) = OwnFirst es
OwnFirst (OfBoth d ∷ es) = NoneOwn es

-- what holds of each code that an operand may have
abbrev pub AllOwn : (Code → Type 0) → List PairCode → Type 0
AllOwn P [] = Unit {0}
AllOwn P (OfEach d ∷ es) = P d × AllOwn P es
AllOwn P (OfBoth d ∷ es) = AllOwn P es

none_own : (P : Code → Type 0) (es : List PairCode) → NoneOwn es → AllOwn P es
none_own P [] h = tt
none_own P (OfEach d ∷ es) h = absurd h
none_own P (OfBoth d ∷ es) h = none_own P es h

-- a code of both is no code of each
pub other_codes : {Z : Type 0} (p : Z → Option Code) (es : List PairCode) → Ranked (map code_of es) → OwnFirst es → ((z : Z) → AmongBoth (p z) es) → AllOwn (λ d. (z : Z) → is_code d (p z) ≡ false) es
other_codes p [] r o h = tt
other_codes p (OfEach d ∷ es) r o h = ((λ z. not_later d (p z) (later_both d (p z) es r.0 (h z))), other_codes p es r.1 o h)
other_codes p (OfBoth d ∷ es) r o h = none_own _ es o

pub both_none : (es : List PairCode) → AmongBoth None es
both_none [] = refl
both_none (OfEach d ∷ es) = both_none es
both_none (OfBoth d ∷ es) = inr (both_none es)

pub own_head : (x : Option Code) (e : PairCode) (es : List PairCode) → AmongOwn x (e ∷ es) → (x ≡ Some (code_of e)) ⊎ AmongOwn x es
own_head x (OfEach d) es h = h
own_head x (OfBoth d) es h = inr (subst (λ z. AmongOwn z es) (sym h) (among_none es))

-- a rule of two that are judged each by itself
module _ {X Y : Type 0} (K : X × Y → Answer Items) where
  pub fault_both : (x : Answer X) (y : Answer Y) → fault_in (then_rule (both_of x y) K) ≡ or_else (sooner (fault_in x) (fault_in y)) (fault_in (then_rule (both_of x y) K))
  fault_both (Value x) (Value y) = refl
  fault_both (Value x) (Refused e) = refl
  fault_both (Refused d) (Value y) = refl
  fault_both (Refused d) (Refused e) = refl

  -- the first code of all, on either side
  pub fault_left : (d : Code) (y : Answer Y) → check_rank d ≡ 0 → fault_in (then_rule (both_of (Refused d) y) K) ≡ Some d
  fault_left d (Value y) z = refl
  fault_left d (Refused e) z = ap (λ b. Some (cond b e d)) (le-ltb (check_rank e) (check_rank d) (omega arith))

  pub fault_right : (d : Code) (x : Answer X) (es : List PairCode) → Ranked (d ∷ map code_of es) → (fault_in x ≡ Some d) ⊎ AmongOwn (fault_in x) es → fault_in (then_rule (both_of x (Refused d)) K) ≡ Some d
  fault_right d (Value x) es r h = refl
  fault_right d (Refused e) es r h = ⊎_elim (λ q. ap (λ z. sooner z (Some d)) q ∙ both_first d) (λ k. first_right d (Some e) (later_own d (Some e) es r.0 k)) h
