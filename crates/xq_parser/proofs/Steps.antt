-- One turn of a loop that reads parts.
use Rattle.std.proofs.Common.{◌≡◌, ℕ, zero, suc, ◌+◌, ◌-◌, ◌<◌, ◌≤◌, Bool, true, false, List, [], ◌∷◌, ◌++◌, Ok, Err, refl, ap, ◌∙◌, arith}
use Rattle.xq_parser.specs.declared.fault.ParseFault.{ParseFault}
use Rattle.xq_parser.specs.declared.fault.ParseFault.TheVariants.{NoMemory, Syntax, TooDeep, LeftOut}
use Rattle.xq_ast.specs.Phrases.{deep, left_out}
use Rattle.xq_parser.specs.Outcomes.{Fails}
use Rattle.xq_parser.specs.Parsers.{Fault, syntax_fault, cut, Outcome, Parser, and_then, many_from}

step_goes : {A : Type 0} (test : ℕ → Bool) (p : Parser A) (n : ℕ) (found : List A) (at next : ℕ) (a : A) → test at ≡ true → p at ≡ Ok (a, next) → many_from test p (suc n) found at ≡ many_from test p n (found ++ a ∷ []) next
unfolding many_from
step_goes test p n found at next a t e = rw (t, e) refl

pub turn_goes : {A : Type 0} (out : Outcome (List A)) (test : ℕ → Bool) (p : Parser A) (n turn : ℕ) (found : List A) (at next : ℕ) (a : A) → turn < n → test at ≡ true → p at ≡ Ok (a, next) → out ≡ many_from test p (n - turn) found at → out ≡ many_from test p (n - (turn + 1)) (found ++ a ∷ []) next
turn_goes out test p n turn found at next a l t e h =
    let k : n - turn ≡ suc (n - (turn + 1)) = omega arith in
    h ∙ ap (λ m. many_from test p m found at) k ∙ step_goes test p (n - (turn + 1)) found at next a t e

step_fails : {A : Type 0} (test : ℕ → Bool) (p : Parser A) (n : ℕ) (found : List A) (at : ℕ) (q : Fault) → test at ≡ true → p at ≡ Err q → many_from test p (suc n) found at ≡ Err q
unfolding many_from
step_fails test p n found at q t e = rw (t, e) refl

pub turn_fails : {A : Type 0} (out : Outcome (List A)) (test : ℕ → Bool) (p : Parser A) (n turn : ℕ) (found : List A) (at : ℕ) (q : Fault) → turn < n → test at ≡ true → p at ≡ Err q → out ≡ many_from test p (n - turn) found at → out ≡ Err q
turn_fails out test p n turn found at q l t e h =
    let k : n - turn ≡ suc (n - (turn + 1)) = omega arith in
    h ∙ ap (λ m. many_from test p m found at) k ∙ step_fails test p (n - (turn + 1)) found at q t e

step_stops : {A : Type 0} (test : ℕ → Bool) (p : Parser A) (n : ℕ) (found : List A) (at : ℕ) → test at ≡ false → many_from test p n found at ≡ Ok (found, at)
unfolding many_from
step_stops test p zero found at t = refl
step_stops test p (suc n) found at t = rw t refl

pub turn_stops : {A : Type 0} (out : Outcome (List A)) (test : ℕ → Bool) (p : Parser A) (n : ℕ) (found : List A) (at : ℕ) → test at ≡ false → out ≡ many_from test p n found at → out ≡ Ok (found, at)
turn_stops out test p n found at t h = h ∙ step_stops test p n found at t

pub turn_failed : {A : Type 0} (out : Outcome (List A)) (test : ℕ → Bool) (p : Parser A) (n turn : ℕ) (found : List A) (at : ℕ) (e : ParseFault) → turn < n → test at ≡ true → Fails (p at) e → out ≡ many_from test p (n - turn) found at → Fails out e
turn_failed out test p n turn found at NoMemory l t f h = tt
turn_failed out test p n turn found at Syntax l t f h = turn_fails out test p n turn found at syntax_fault l t f h
turn_failed out test p n turn found at (TooDeep place) l t f h = turn_fails out test p n turn found at (cut deep place) l t f h
turn_failed out test p n turn found at (LeftOut place) l t f h = turn_fails out test p n turn found at (cut left_out place) l t f h

-- a fault of the first part is one of the whole
pub fails_then : {A B : Type 0} (f : A × ℕ → Outcome B) (o : Outcome A) (e : ParseFault) → Fails o e → Fails (and_then f o) e
fails_then f o NoMemory h = tt
fails_then f o Syntax h = ap (and_then f) h
fails_then f o (TooDeep place) h = ap (and_then f) h
fails_then f o (LeftOut place) h = ap (and_then f) h

last_turn : {A : Type 0} (test : ℕ → Bool) (p : Parser A) (found : List A) (at : ℕ) → many_from test p 0 found at ≡ Ok (found, at)
unfolding many_from
last_turn test p found at = refl

pub no_turn : {A : Type 0} (out : Outcome (List A)) (test : ℕ → Bool) (p : Parser A) (n turn : ℕ) (found : List A) (at : ℕ) → n ≤ turn → out ≡ many_from test p (n - turn) found at → out ≡ Ok (found, at)
no_turn out test p n turn found at l h = let z : n - turn ≡ 0 = omega arith in h ∙ ap (λ m. many_from test p m found at) z ∙ last_turn test p found at
