-- Worked examples: recursion, early calls, and what scope gives of whole queries.
use Rattle.std.proofs.Common.{◌≡◌, refl, ℕ, zero, suc, true, false, Option, Some, None, List, [], ◌∷◌, codes, inl, inr, arith}
use Rattle.xq_base.specs.declared.code.Code.TheVariants as code
use Rattle.core_scope.specs.Syn.{Query, read}
use Rattle.core_scope.specs.Syn as s
use Rattle.core_scope.specs.Walk.{refused, walk}
use Rattle.core_scope.specs.Prolog.{resolved_query}
use Rattle.core_scope.specs.Refusals.{called_by, straight, through, itself, by_call, Scopes, accepted, refusal}
use Rattle.core_scope.proofs.Certificates.{is_closed, is_first, nothing_refused}

-- declare function local:f($x) { local:f($x) }; 1
calls_itself_query : Query read
calls_itself_query = record { version = None; setters = []; declarations = s.function 0 17 (codes "local:f") (s.param 25 (codes "x") None s.no_params) None (s.call 31 (codes "local:f") (s.one_more (s.var 39 (codes "x")) s.no_more)) ∷ []; body = (s.integer 46 (codes "1")) }

calls_itself_comes : ℕ → List ℕ
calls_itself_comes zero = 0 ∷ []
calls_itself_comes (suc k) = []

calls_itself_closed : (k : ℕ) → is_closed (called_by calls_itself_query) calls_itself_comes k ≡ true
unfolding walk calls_itself_query calls_itself_comes
calls_itself_closed zero = refl
calls_itself_closed (suc k) = refl

calls_itself : Scopes calls_itself_query (refusal (refused code.PFRC0001 0))
unfolding walk calls_itself_query calls_itself_comes
calls_itself = is_first calls_itself_query calls_itself_comes _ calls_itself_closed refl (inr (inl (record { number = 0; is_function = omega arith; calls_itself = straight (0, omega arith, refl); is = refl })))

-- declare function local:f($x) { local:g($x) }; declare function local:g($x) { local:f($x) }; 1
call_each_other_query : Query read
call_each_other_query = record { version = None; setters = []; declarations = s.function 0 17 (codes "local:f") (s.param 25 (codes "x") None s.no_params) None (s.call 31 (codes "local:g") (s.one_more (s.var 39 (codes "x")) s.no_more)) ∷ s.function 46 63 (codes "local:g") (s.param 71 (codes "x") None s.no_params) None (s.call 77 (codes "local:f") (s.one_more (s.var 85 (codes "x")) s.no_more)) ∷ []; body = (s.integer 92 (codes "1")) }

call_each_other_comes : ℕ → List ℕ
call_each_other_comes zero = 0 ∷ 1 ∷ []
call_each_other_comes (suc zero) = 0 ∷ 1 ∷ []
call_each_other_comes (suc (suc k)) = []

call_each_other_closed : (k : ℕ) → is_closed (called_by call_each_other_query) call_each_other_comes k ≡ true
unfolding walk call_each_other_query call_each_other_comes
call_each_other_closed zero = refl
call_each_other_closed (suc zero) = refl
call_each_other_closed (suc (suc k)) = refl

call_each_other : Scopes call_each_other_query (refusal (refused code.PFRC0001 0))
unfolding walk call_each_other_query call_each_other_comes
call_each_other = is_first call_each_other_query call_each_other_comes _ call_each_other_closed refl (inr (inl (record { number = 0; is_function = omega arith; calls_itself = through (0, omega arith, refl) (straight (0, omega arith, refl)); is = refl })))

-- declare function local:f() { local:g() }; declare function local:g() { local:g() }; local:f()
second_calls_itself_query : Query read
second_calls_itself_query = record { version = None; setters = []; declarations = s.function 0 17 (codes "local:f") s.no_params None (s.call 29 (codes "local:g") s.no_more) ∷ s.function 42 59 (codes "local:g") s.no_params None (s.call 71 (codes "local:g") s.no_more) ∷ []; body = (s.call 84 (codes "local:f") s.no_more) }

second_calls_itself_comes : ℕ → List ℕ
second_calls_itself_comes zero = 1 ∷ []
second_calls_itself_comes (suc zero) = 1 ∷ []
second_calls_itself_comes (suc (suc k)) = []

second_calls_itself_closed : (k : ℕ) → is_closed (called_by second_calls_itself_query) second_calls_itself_comes k ≡ true
unfolding walk second_calls_itself_query second_calls_itself_comes
second_calls_itself_closed zero = refl
second_calls_itself_closed (suc zero) = refl
second_calls_itself_closed (suc (suc k)) = refl

second_calls_itself : Scopes second_calls_itself_query (refusal (refused code.PFRC0001 42))
unfolding walk second_calls_itself_query second_calls_itself_comes
second_calls_itself = is_first second_calls_itself_query second_calls_itself_comes _ second_calls_itself_closed refl (inr (inl (record { number = 1; is_function = omega arith; calls_itself = straight (0, omega arith, refl); is = refl })))

-- declare variable $v := $w; declare function local:f() { local:f() }; 1
variable_before_recursion_query : Query read
variable_before_recursion_query = record { version = None; setters = []; declarations = s.variable 0 17 (codes "v") None (s.var 23 (codes "w")) ∷ s.function 27 44 (codes "local:f") s.no_params None (s.call 56 (codes "local:f") s.no_more) ∷ []; body = (s.integer 69 (codes "1")) }

variable_before_recursion_comes : ℕ → List ℕ
variable_before_recursion_comes zero = 0 ∷ []
variable_before_recursion_comes (suc k) = []

variable_before_recursion_closed : (k : ℕ) → is_closed (called_by variable_before_recursion_query) variable_before_recursion_comes k ≡ true
unfolding walk variable_before_recursion_query variable_before_recursion_comes
variable_before_recursion_closed zero = refl
variable_before_recursion_closed (suc k) = refl

variable_before_recursion : Scopes variable_before_recursion_query (refusal (refused code.XPST0008 23))
unfolding walk variable_before_recursion_query variable_before_recursion_comes
variable_before_recursion = is_first variable_before_recursion_query variable_before_recursion_comes _ variable_before_recursion_closed refl (inl (0, omega arith, refl))

-- declare function local:f() { local:g() }; declare function local:g() { 1 }; local:f()
called_before_its_declaration_query : Query read
called_before_its_declaration_query = record { version = None; setters = []; declarations = s.function 0 17 (codes "local:f") s.no_params None (s.call 29 (codes "local:g") s.no_more) ∷ s.function 42 59 (codes "local:g") s.no_params None (s.integer 71 (codes "1")) ∷ []; body = (s.call 76 (codes "local:f") s.no_more) }

called_before_its_declaration_comes : ℕ → List ℕ
called_before_its_declaration_comes zero = 1 ∷ []
called_before_its_declaration_comes (suc zero) = []
called_before_its_declaration_comes (suc (suc k)) = []

called_before_its_declaration_closed : (k : ℕ) → is_closed (called_by called_before_its_declaration_query) called_before_its_declaration_comes k ≡ true
unfolding walk called_before_its_declaration_query called_before_its_declaration_comes
called_before_its_declaration_closed zero = refl
called_before_its_declaration_closed (suc zero) = refl
called_before_its_declaration_closed (suc (suc k)) = refl

called_before_its_declaration : Scopes called_before_its_declaration_query (accepted (resolved_query called_before_its_declaration_query))
unfolding walk called_before_its_declaration_query called_before_its_declaration_comes
called_before_its_declaration = (nothing_refused called_before_its_declaration_query called_before_its_declaration_comes called_before_its_declaration_closed refl, refl)

-- declare variable $v := local:g(); declare function local:g() { $v }; 1
refers_to_its_variable_query : Query read
refers_to_its_variable_query = record { version = None; setters = []; declarations = s.variable 0 17 (codes "v") None (s.call 23 (codes "local:g") s.no_more) ∷ s.function 34 51 (codes "local:g") s.no_params None (s.var 63 (codes "v")) ∷ []; body = (s.integer 69 (codes "1")) }

refers_to_its_variable_comes : ℕ → List ℕ
refers_to_its_variable_comes zero = []
refers_to_its_variable_comes (suc k) = []

refers_to_its_variable_closed : (k : ℕ) → is_closed (called_by refers_to_its_variable_query) refers_to_its_variable_comes k ≡ true
unfolding walk refers_to_its_variable_query refers_to_its_variable_comes
refers_to_its_variable_closed zero = refl
refers_to_its_variable_closed (suc k) = refl

refers_to_its_variable : Scopes refers_to_its_variable_query (refusal (refused code.XPST0008 23))
unfolding walk refers_to_its_variable_query refers_to_its_variable_comes
refers_to_its_variable = is_first refers_to_its_variable_query refers_to_its_variable_comes _ refers_to_its_variable_closed refl (inr (inr (record { number = 0; facts = _; is_variable = (0, omega arith, refl); call = record { offset = 23; function = 0 }; is_call = (0, omega arith, refl); later = 0; is_later = omega arith; refers = itself (0, omega arith, refl); is = refl })))

-- declare variable $v := local:f(); declare function local:g() { $v }; declare function local:f() { local:g() }; $v
refers_through_a_call_query : Query read
refers_through_a_call_query = record { version = None; setters = []; declarations = s.variable 0 17 (codes "v") None (s.call 23 (codes "local:f") s.no_more) ∷ s.function 34 51 (codes "local:g") s.no_params None (s.var 63 (codes "v")) ∷ s.function 69 86 (codes "local:f") s.no_params None (s.call 98 (codes "local:g") s.no_more) ∷ []; body = (s.var 111 (codes "v")) }

refers_through_a_call_comes : ℕ → List ℕ
refers_through_a_call_comes zero = []
refers_through_a_call_comes (suc zero) = 0 ∷ []
refers_through_a_call_comes (suc (suc k)) = []

refers_through_a_call_closed : (k : ℕ) → is_closed (called_by refers_through_a_call_query) refers_through_a_call_comes k ≡ true
unfolding walk refers_through_a_call_query refers_through_a_call_comes
refers_through_a_call_closed zero = refl
refers_through_a_call_closed (suc zero) = refl
refers_through_a_call_closed (suc (suc k)) = refl

refers_through_a_call : Scopes refers_through_a_call_query (refusal (refused code.XPST0008 23))
unfolding walk refers_through_a_call_query refers_through_a_call_comes
refers_through_a_call = is_first refers_through_a_call_query refers_through_a_call_comes _ refers_through_a_call_closed refl (inr (inr (record { number = 0; facts = _; is_variable = (0, omega arith, refl); call = record { offset = 23; function = 1 }; is_call = (0, omega arith, refl); later = 0; is_later = omega arith; refers = by_call (straight (0, omega arith, refl)) (0, omega arith, refl); is = refl })))

-- declare variable $v := local:f(); declare variable $w := 1; declare function local:f() { $w }; $v
refers_to_a_later_variable_query : Query read
refers_to_a_later_variable_query = record { version = None; setters = []; declarations = s.variable 0 17 (codes "v") None (s.call 23 (codes "local:f") s.no_more) ∷ s.variable 34 51 (codes "w") None (s.integer 57 (codes "1")) ∷ s.function 60 77 (codes "local:f") s.no_params None (s.var 89 (codes "w")) ∷ []; body = (s.var 95 (codes "v")) }

refers_to_a_later_variable_comes : ℕ → List ℕ
refers_to_a_later_variable_comes zero = []
refers_to_a_later_variable_comes (suc k) = []

refers_to_a_later_variable_closed : (k : ℕ) → is_closed (called_by refers_to_a_later_variable_query) refers_to_a_later_variable_comes k ≡ true
unfolding walk refers_to_a_later_variable_query refers_to_a_later_variable_comes
refers_to_a_later_variable_closed zero = refl
refers_to_a_later_variable_closed (suc k) = refl

refers_to_a_later_variable : Scopes refers_to_a_later_variable_query (refusal (refused code.XPST0008 23))
unfolding walk refers_to_a_later_variable_query refers_to_a_later_variable_comes
refers_to_a_later_variable = is_first refers_to_a_later_variable_query refers_to_a_later_variable_comes _ refers_to_a_later_variable_closed refl (inr (inr (record { number = 0; facts = _; is_variable = (0, omega arith, refl); call = record { offset = 23; function = 0 }; is_call = (0, omega arith, refl); later = 1; is_later = omega arith; refers = itself (0, omega arith, refl); is = refl })))

-- declare variable $v := 1; declare function local:f() { $v }; declare variable $w := local:f(); $w
refers_to_an_earlier_variable_query : Query read
refers_to_an_earlier_variable_query = record { version = None; setters = []; declarations = s.variable 0 17 (codes "v") None (s.integer 23 (codes "1")) ∷ s.function 26 43 (codes "local:f") s.no_params None (s.var 55 (codes "v")) ∷ s.variable 61 78 (codes "w") None (s.call 84 (codes "local:f") s.no_more) ∷ []; body = (s.var 95 (codes "w")) }

refers_to_an_earlier_variable_comes : ℕ → List ℕ
refers_to_an_earlier_variable_comes zero = []
refers_to_an_earlier_variable_comes (suc k) = []

refers_to_an_earlier_variable_closed : (k : ℕ) → is_closed (called_by refers_to_an_earlier_variable_query) refers_to_an_earlier_variable_comes k ≡ true
unfolding walk refers_to_an_earlier_variable_query refers_to_an_earlier_variable_comes
refers_to_an_earlier_variable_closed zero = refl
refers_to_an_earlier_variable_closed (suc k) = refl

refers_to_an_earlier_variable : Scopes refers_to_an_earlier_variable_query (accepted (resolved_query refers_to_an_earlier_variable_query))
unfolding walk refers_to_an_earlier_variable_query refers_to_an_earlier_variable_comes
refers_to_an_earlier_variable = (nothing_refused refers_to_an_earlier_variable_query refers_to_an_earlier_variable_comes refers_to_an_earlier_variable_closed refl, refl)

-- declare variable $v := 1; declare function local:f() { $v }; local:f()
used_in_the_body_alone_query : Query read
used_in_the_body_alone_query = record { version = None; setters = []; declarations = s.variable 0 17 (codes "v") None (s.integer 23 (codes "1")) ∷ s.function 26 43 (codes "local:f") s.no_params None (s.var 55 (codes "v")) ∷ []; body = (s.call 61 (codes "local:f") s.no_more) }

used_in_the_body_alone_comes : ℕ → List ℕ
used_in_the_body_alone_comes zero = []
used_in_the_body_alone_comes (suc k) = []

used_in_the_body_alone_closed : (k : ℕ) → is_closed (called_by used_in_the_body_alone_query) used_in_the_body_alone_comes k ≡ true
unfolding walk used_in_the_body_alone_query used_in_the_body_alone_comes
used_in_the_body_alone_closed zero = refl
used_in_the_body_alone_closed (suc k) = refl

used_in_the_body_alone : Scopes used_in_the_body_alone_query (accepted (resolved_query used_in_the_body_alone_query))
unfolding walk used_in_the_body_alone_query used_in_the_body_alone_comes
used_in_the_body_alone = (nothing_refused used_in_the_body_alone_query used_in_the_body_alone_comes used_in_the_body_alone_closed refl, refl)
