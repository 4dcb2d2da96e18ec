-- What is gathered from what is told, and what stands where in it.
use Rattle.std.proofs.Common.{◌≡◌, refl, ap, subst, ◌∙◌, ℕ, zero, suc, ◌+◌, length, map, List, [], ◌∷◌, ◌++◌, append_assoc, get_or, inl, inr, arith}
use Rattle.std.proofs.lemmas.List.{append-nil}
use Rattle.xq_base.specs.Texts.{Text}
use Rattle.core_scope.specs.declared.found.DeclaredCall.{DeclaredCall}
use Rattle.core_scope.specs.Syn.{Declaration, read}
use Rattle.core_scope.specs.Syn as s
use Rattle.core_scope.specs.Names.{Scope, Signature, with_global}
use Rattle.core_scope.specs.Walk.{Facts}
use Rattle.core_scope.specs.Prolog as prolog
use Rattle.core_scope.specs.Prolog.{Told, of_function, of_variable, signature_of, told_refusals}
use Rattle.core_scope.specs.Refusals.{ToldFunction, told_functions, function_at, first_from}
use Rattle.core_scope.specs.Search.{targets}
use Rattle.core_scope.specs.Gathering.{Gained, Gathered, gather, gather_all, gained, value_calls}
use Rattle.core_scope.specs.Whole.{calls_of, refers_of, offsets_of}
use Rattle.core_scope.proofs.Searching.{In}
use Rattle.core_scope.proofs.Keeping.{first_append}

-- behind what was gathered before
abbrev pub gathered_behind : List Told → Gathered → Gathered
gathered_behind ts g =
    record { first = first_from g.first (told_refusals ts); functions = g.functions ++ map gained (told_functions ts); variables = g.variables ++ value_calls ts }

pub gather_law : (ts : List Told) (g : Gathered) → gather_all ts g ≡ gathered_behind ts g
gather_law [] g = rw (append-nil g.functions, append-nil g.variables) refl
gather_law (of_function o f ∷ ts) g =
    gather_law ts (gather (of_function o f) g)
    ∙ rw (first_append g.first f.refusals (told_refusals ts), append_assoc g.functions (record { offset = o; calls = f.calls; refers = f.refers } ∷ []) (map gained (told_functions ts))) refl
gather_law (of_variable j f ∷ ts) g =
    gather_law ts (gather (of_variable j f) g)
    ∙ rw (first_append g.first f.refusals (told_refusals ts), append_assoc g.variables (f.calls ∷ []) (value_calls ts)) refl

-- variables are numbered in turn
abbrev pub Numbered : ℕ → List Told → Type 0
Numbered j [] = j ≡ j
Numbered j (of_function o f ∷ ts) = Numbered j ts
Numbered j (of_variable m f ∷ ts) = (m ≡ j) × Numbered (suc j) ts

pub told_numbered : (fs : List Signature) (ds : List (Declaration read)) (before : List Signature) (names : List Text) (j : ℕ) (sc : Scope) → Numbered j (prolog.told fs ds before names j sc)
told_numbered fs [] before names j sc = refl
told_numbered fs (s.function o at n ps ty e ∷ ds) before names j sc = told_numbered fs ds (before ++ signature_of n ps ∷ []) names j sc
told_numbered fs (s.variable o at x ty e ∷ ds) before names j sc = (refl, told_numbered fs ds before (x ∷ names) (suc j) (with_global at x j sc))

-- the calls in the value of a variable stand at its number
abbrev Value_at : ℕ → List Told → ℕ → Facts → Type 0
Value_at j ts m f = (i : ℕ) × (m ≡ j + i) × (get_or (value_calls ts) i [] ≡ f.calls)

same_number : (j m : ℕ) (f g : Facts) → of_variable j f ≡ of_variable m g → j ≡ m
same_number j m f g e = cc

same_facts : (j m : ℕ) (f g : Facts) → of_variable j f ≡ of_variable m g → f ≡ g
same_facts j m f g e = cc

no_variable : (o : ℕ) (f : Facts) (m : ℕ) (g : Facts) → of_function o f ≡ of_variable m g → ⊥
no_variable o f m g e = cc

pub value_at : (j : ℕ) (ts : List Told) (m : ℕ) (f : Facts) → Numbered j ts → In (of_variable m f) ts → Value_at j ts m f
value_at j [] m f n i = elim i [ ]
value_at j (of_function o g ∷ ts) m f n (inl e) = let no : ⊥ = no_variable o g m f e in elim no [ ]
value_at j (of_function o g ∷ ts) m f n (inr i) = value_at j ts m f n i
value_at j (of_variable k g ∷ ts) m f n (inl e) =
    let p : k ≡ m = same_number k m g f e in
    let r : k ≡ j = n.0 in
    (zero, omega (arith, p, r), ap (λ z. z.calls) (same_facts k m g f e))
value_at j (of_variable k g ∷ ts) m f n (inr i) =
    let p : Value_at (suc j) ts m f = value_at (suc j) ts m f n.1 i in
    let r : m ≡ suc j + p.0 = p.1 in
    (suc p.0, omega (arith, r), p.2)

-- what stands at a number is the calls in the value of the variable of this number
abbrev Variable_at : ℕ → List Told → ℕ → DeclaredCall → Type 0
Variable_at j ts i c = (f : Facts) × In (of_variable (j + i) f) ts × In c f.calls

pub variable_at : (j : ℕ) (ts : List Told) (i : ℕ) (c : DeclaredCall) → Numbered j ts → In c (get_or (value_calls ts) i []) → Variable_at j ts i c
variable_at j [] i c n h = elim h [ ]
variable_at j (of_function o g ∷ ts) i c n h = let p : Variable_at j ts i c = variable_at j ts i c n h in (p.0, inr p.1, p.2)
variable_at j (of_variable k g ∷ ts) zero c n h =
    let r : k ≡ j = n.0 in
    let e : k ≡ j + 0 = omega (arith, r) in
    (g, inl (ap (λ z. of_variable z g) e), h)
variable_at j (of_variable k g ∷ ts) (suc i) c n h =
    let p : Variable_at (suc j) ts i c = variable_at (suc j) ts i c n.1 h in
    let e : suc j + i ≡ j + suc i = omega arith in
    (p.0, inr (subst (λ z. In (of_variable z p.0) ts) e p.1), p.2)

-- what stands at the number of a function
pub calls_at : (fs : List ToldFunction) (k : ℕ) → targets (calls_of (map gained fs)) k ≡ map (λ c. c.function) (function_at fs k).facts.calls
calls_at [] k = refl
calls_at (f ∷ fs) zero = refl
calls_at (f ∷ fs) (suc k) = calls_at fs k

pub refers_at : (fs : List ToldFunction) (k : ℕ) → targets (refers_of (map gained fs)) k ≡ (function_at fs k).facts.refers
refers_at [] k = refl
refers_at (f ∷ fs) zero = refl
refers_at (f ∷ fs) (suc k) = refers_at fs k

pub offset_at : (fs : List ToldFunction) (k : ℕ) → get_or (offsets_of (map gained fs)) k 0 ≡ (function_at fs k).offset
offset_at [] k = refl
offset_at (f ∷ fs) zero = refl
offset_at (f ∷ fs) (suc k) = offset_at fs k

pub offsets_length : (fs : List ToldFunction) → length (offsets_of (map gained fs)) ≡ length fs
offsets_length [] = refl
offsets_length (f ∷ fs) = ap suc (offsets_length fs)

pub calls_length : (fs : List Gained) → length (calls_of fs) ≡ length (offsets_of fs)
calls_length [] = refl
calls_length (f ∷ fs) = ap suc (calls_length fs)

pub refers_length : (fs : List Gained) → length (refers_of fs) ≡ length (calls_of fs)
refers_length [] = refl
refers_length (f ∷ fs) = ap suc (refers_length fs)
