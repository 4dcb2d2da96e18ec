-- Worked examples: the first refusal that one place tells, one query a row.
use Rattle.std.proofs.Common.{◌≡◌, refl, ℕ, true, false, Option, Some, None, List, [], ◌∷◌, codes}
use Rattle.xq_base.specs.declared.axis.Axis.TheVariants as axis
use Rattle.xq_base.specs.declared.code.Code.TheVariants as code
use Rattle.doc_table.specs.Axes.{AnyNode, Named}
use Rattle.xq_ast.specs.declared.leaf.BuildKind.TheVariants as build
use Rattle.xq_ast.specs.declared.leaf.Occurs.TheVariants as occurs
use Rattle.xq_ast.specs.declared.leaf.Operator.TheVariants as op
use Rattle.xq_ast.specs.declared.leaf.Quantifier.TheVariants as quantifier
use Rattle.xq_ast.specs.declared.leaf.ReadItem.TheVariants as i
use Rattle.xq_ast.specs.declared.leaf.ReadType.TheVariants as t
use Rattle.xq_ast.specs.declared.leaf.ValueRun.TheVariants as value
use Rattle.core_scope.specs.Syn as s
use Rattle.core_scope.specs.Walk.{refused, walk}
use Rattle.core_scope.specs.Prolog.{local_refusals}
use Rattle.core_scope.specs.Refusals.{first_of}

-- 1+2
a_sum : first_of (local_refusals (record { version = None; setters = []; declarations = []; body = (s.binary 0 op.Add (s.integer 0 (codes "1")) (s.integer 2 (codes "2"))) })) ≡ None
unfolding walk
a_sum = refl

-- $x
no_binding : first_of (local_refusals (record { version = None; setters = []; declarations = []; body = (s.var 0 (codes "x")) })) ≡ Some (refused code.XPST0008 0)
unfolding walk
no_binding = refl

-- for $x in $x return $y
not_in_its_own_binding : first_of (local_refusals (record { version = None; setters = []; declarations = []; body = (s.flwor 0 (s.for_bind 4 (codes "x") None None (s.var 10 (codes "x")) s.no_binds) s.absent s.no_keys (s.var 20 (codes "y"))) })) ≡ Some (refused code.XPST0008 10)
unfolding walk
not_in_its_own_binding = refl

-- for $x at $x in 1, $y in $x return ($y, $x)
position_named_as_the_item : first_of (local_refusals (record { version = None; setters = []; declarations = []; body = (s.flwor 0 (s.for_bind 4 (codes "x") None (Some (10, (codes "x"))) (s.integer 16 (codes "1")) (s.for_bind 19 (codes "y") None None (s.var 25 (codes "x")) s.no_binds)) s.absent s.no_keys (s.paren 35 (s.present (s.comma 36 (s.var 36 (codes "y")) (s.one_more (s.var 40 (codes "x")) s.no_more))))) })) ≡ Some (refused code.XQST0089 10)
unfolding walk
position_named_as_the_item = refl

-- let $x := $y, $y := $x return foo($x)
let_before_its_variable : first_of (local_refusals (record { version = None; setters = []; declarations = []; body = (s.flwor 0 (s.let_bind 4 (codes "x") None (s.var 10 (codes "y")) (s.let_bind 14 (codes "y") None (s.var 20 (codes "x")) s.no_binds)) s.absent s.no_keys (s.call 30 (codes "foo") (s.one_more (s.var 34 (codes "x")) s.no_more))) })) ≡ Some (refused code.XPST0008 10)
unfolding walk
let_before_its_variable = refl

-- for $a in 1, $b in $a let $c := $b where $c order by $b return ($a, $b, $c)
visible_in_later_binds : first_of (local_refusals (record { version = None; setters = []; declarations = []; body = (s.flwor 0 (s.for_bind 4 (codes "a") None None (s.integer 10 (codes "1")) (s.for_bind 13 (codes "b") None None (s.var 19 (codes "a")) (s.let_bind 26 (codes "c") None (s.var 32 (codes "b")) s.no_binds))) (s.present (s.var 41 (codes "c"))) (s.one_key (s.var 53 (codes "b")) false false s.no_keys) (s.paren 63 (s.present (s.comma 64 (s.var 64 (codes "a")) (s.one_more (s.var 68 (codes "b")) (s.one_more (s.var 72 (codes "c")) s.no_more)))))) })) ≡ None
unfolding walk
visible_in_later_binds = refl

-- (for $a in 1 return $a), $a
not_behind_the_loop : first_of (local_refusals (record { version = None; setters = []; declarations = []; body = (s.comma 0 (s.paren 0 (s.present (s.flwor 1 (s.for_bind 5 (codes "a") None None (s.integer 11 (codes "1")) s.no_binds) s.absent s.no_keys (s.var 20 (codes "a"))))) (s.one_more (s.var 25 (codes "a")) s.no_more)) })) ≡ Some (refused code.XPST0008 25)
unfolding walk
not_behind_the_loop = refl

-- some $x in $y satisfies $x
quantifier_in_its_own_binding : first_of (local_refusals (record { version = None; setters = []; declarations = []; body = (s.quantified 0 quantifier.Some (s.for_bind 5 (codes "x") None None (s.var 11 (codes "y")) s.no_binds) (s.var 24 (codes "x"))) })) ≡ Some (refused code.XPST0008 11)
unfolding walk
quantifier_in_its_own_binding = refl

-- every $x as xs:decimal in 1 satisfies $z
unknown_type_before_a_variable : first_of (local_refusals (record { version = None; setters = []; declarations = []; body = (s.quantified 0 quantifier.Every (s.for_bind 6 (codes "x") (Some (t.Of 12 (i.Named (record { offset = 12; text = (codes "xs:decimal") })) occurs.One)) None (s.integer 26 (codes "1")) s.no_binds) (s.var 38 (codes "z"))) })) ≡ Some (refused code.XPST0051 12)
unfolding walk
unknown_type_before_a_variable = refl

-- foo()
no_function : first_of (local_refusals (record { version = None; setters = []; declarations = []; body = (s.call 0 (codes "foo") s.no_more) })) ≡ Some (refused code.XPST0017 0)
unfolding walk
no_function = refl

-- foo($y)
call_before_its_argument : first_of (local_refusals (record { version = None; setters = []; declarations = []; body = (s.call 0 (codes "foo") (s.one_more (s.var 4 (codes "y")) s.no_more)) })) ≡ Some (refused code.XPST0017 0)
unfolding walk
call_before_its_argument = refl

-- fn:count(1, 2)
two_arguments_of_count : first_of (local_refusals (record { version = None; setters = []; declarations = []; body = (s.call 0 (codes "fn:count") (s.one_more (s.integer 9 (codes "1")) (s.one_more (s.integer 12 (codes "2")) s.no_more))) })) ≡ Some (refused code.XPST0017 0)
unfolding walk
two_arguments_of_count = refl

-- concat("a", "b", "c", "d", fn:string(1))
concat_takes_many : first_of (local_refusals (record { version = None; setters = []; declarations = []; body = (s.call 0 (codes "concat") (s.one_more (s.text 7 (codes "a")) (s.one_more (s.text 12 (codes "b")) (s.one_more (s.text 17 (codes "c")) (s.one_more (s.text 22 (codes "d")) (s.one_more (s.call 27 (codes "fn:string") (s.one_more (s.integer 37 (codes "1")) s.no_more)) s.no_more)))))) })) ≡ None
unfolding walk
concat_takes_many = refl

-- concat("a")
concat_takes_no_single_one : first_of (local_refusals (record { version = None; setters = []; declarations = []; body = (s.call 0 (codes "concat") (s.one_more (s.text 7 (codes "a")) s.no_more)) })) ≡ Some (refused code.XPST0017 0)
unfolding walk
concat_takes_no_single_one = refl

-- 1 cast as xs:anyAtomicType
cast_to_any_atomic : first_of (local_refusals (record { version = None; setters = []; declarations = []; body = (s.cast 0 (s.integer 0 (codes "1")) (record { offset = 10; text = (codes "xs:anyAtomicType") }) false) })) ≡ Some (refused code.XPST0080 10)
unfolding walk
cast_to_any_atomic = refl

-- 1 cast as xs:decimal
cast_to_no_type : first_of (local_refusals (record { version = None; setters = []; declarations = []; body = (s.cast 0 (s.integer 0 (codes "1")) (record { offset = 10; text = (codes "xs:decimal") }) false) })) ≡ Some (refused code.XPST0051 10)
unfolding walk
cast_to_no_type = refl

-- $x castable as xs:NOTATION
castable_to_notation : first_of (local_refusals (record { version = None; setters = []; declarations = []; body = (s.castable 0 (s.var 0 (codes "x")) (record { offset = 15; text = (codes "xs:NOTATION") }) false) })) ≡ Some (refused code.XPST0008 0)
unfolding walk
castable_to_notation = refl

-- 1 castable as xs:NOTATION
castable_to_notation_alone : first_of (local_refusals (record { version = None; setters = []; declarations = []; body = (s.castable 0 (s.integer 0 (codes "1")) (record { offset = 14; text = (codes "xs:NOTATION") }) false) })) ≡ Some (refused code.XPST0080 14)
unfolding walk
castable_to_notation_alone = refl

-- 1 instance of xs:anyAtomicType
instance_of_any_atomic : first_of (local_refusals (record { version = None; setters = []; declarations = []; body = (s.instance 0 (s.integer 0 (codes "1")) (t.Of 14 (i.Named (record { offset = 14; text = (codes "xs:anyAtomicType") })) occurs.One)) })) ≡ None
unfolding walk
instance_of_any_atomic = refl

-- 1 instance of xs:NOTATION
instance_of_notation : first_of (local_refusals (record { version = None; setters = []; declarations = []; body = (s.instance 0 (s.integer 0 (codes "1")) (t.Of 14 (i.Named (record { offset = 14; text = (codes "xs:NOTATION") })) occurs.One)) })) ≡ Some (refused code.XPST0051 14)
unfolding walk
instance_of_notation = refl

-- 9223372036854775808
wide_integer : first_of (local_refusals (record { version = None; setters = []; declarations = []; body = (s.integer 0 (codes "9223372036854775808")) })) ≡ Some (refused code.FOAR0002 0)
unfolding walk
wide_integer = refl

-- 9223372036854775807 + 00009223372036854775808
widest_integer : first_of (local_refusals (record { version = None; setters = []; declarations = []; body = (s.binary 0 op.Add (s.integer 0 (codes "9223372036854775807")) (s.integer 22 (codes "00009223372036854775808"))) })) ≡ Some (refused code.FOAR0002 22)
unfolding walk
widest_integer = refl

-- <a x="1" y="{$z}" x="2">{$q}</a>
brace_before_a_repeated_attribute : first_of (local_refusals (record { version = None; setters = []; declarations = []; body = (s.element 0 (codes "a") (s.attribute 3 (codes "x") (s.value_run (value.Chars (codes "1")) s.no_values) (s.attribute 9 (codes "y") (s.value_brace (s.var 13 (codes "z")) s.no_values) (s.attribute 18 (codes "x") (s.value_run (value.Chars (codes "2")) s.no_values) s.no_attributes))) (s.brace (s.var 25 (codes "q")) s.no_parts)) })) ≡ Some (refused code.XPST0008 13)
unfolding walk
brace_before_a_repeated_attribute = refl

-- <a x="1" y="2" x="3">{$q}</a>
repeated_attribute : first_of (local_refusals (record { version = None; setters = []; declarations = []; body = (s.element 0 (codes "a") (s.attribute 3 (codes "x") (s.value_run (value.Chars (codes "1")) s.no_values) (s.attribute 9 (codes "y") (s.value_run (value.Chars (codes "2")) s.no_values) (s.attribute 15 (codes "x") (s.value_run (value.Chars (codes "3")) s.no_values) s.no_attributes))) (s.brace (s.var 22 (codes "q")) s.no_parts)) })) ≡ Some (refused code.XQST0040 15)
unfolding walk
repeated_attribute = refl

-- declare boundary-space strip; declare boundary-space strip; 1
two_settings : first_of (local_refusals (record { version = None; setters = 0 ∷ 30 ∷ []; declarations = []; body = (s.integer 60 (codes "1")) })) ≡ Some (refused code.XQST0068 30)
unfolding walk
two_settings = refl

-- xquery version "1.1"; $x
version_before_a_variable : first_of (local_refusals (record { version = (Some (15, (codes "1.1"))); setters = []; declarations = []; body = (s.var 22 (codes "x")) })) ≡ Some (refused code.XQST0031 15)
unfolding walk
version_before_a_variable = refl

-- xquery version "1.0" encoding "utf-8"; 1
known_version : first_of (local_refusals (record { version = (Some (15, (codes "1.0"))); setters = []; declarations = []; body = (s.integer 39 (codes "1")) })) ≡ None
unfolding walk
known_version = refl

-- declare function local:f($x, $x) { $y }; 1
repeated_parameter : first_of (local_refusals (record { version = None; setters = []; declarations = s.function 0 17 (codes "local:f") (s.param 25 (codes "x") None (s.param 29 (codes "x") None s.no_params)) None (s.var 35 (codes "y")) ∷ []; body = (s.integer 41 (codes "1")) })) ≡ Some (refused code.XQST0039 29)
unfolding walk
repeated_parameter = refl

-- declare function local:f($x) { 1 }; declare function local:f($y) { 1 }; local:f(2)
declared_twice : first_of (local_refusals (record { version = None; setters = []; declarations = s.function 0 17 (codes "local:f") (s.param 25 (codes "x") None s.no_params) None (s.integer 31 (codes "1")) ∷ s.function 36 53 (codes "local:f") (s.param 61 (codes "y") None s.no_params) None (s.integer 67 (codes "1")) ∷ []; body = (s.call 72 (codes "local:f") (s.one_more (s.integer 80 (codes "2")) s.no_more)) })) ≡ Some (refused code.XQST0034 53)
unfolding walk
declared_twice = refl

-- declare function local:f($x) { 1 }; declare function local:f() { $x }; local:f(2)
declared_with_another_number : first_of (local_refusals (record { version = None; setters = []; declarations = s.function 0 17 (codes "local:f") (s.param 25 (codes "x") None s.no_params) None (s.integer 31 (codes "1")) ∷ s.function 36 53 (codes "local:f") s.no_params None (s.var 65 (codes "x")) ∷ []; body = (s.call 71 (codes "local:f") (s.one_more (s.integer 79 (codes "2")) s.no_more)) })) ≡ Some (refused code.XPST0008 65)
unfolding walk
declared_with_another_number = refl

-- declare function count($x) { 1 }; declare function fn:count($x, $y) { $q }; count(1,2)
declared_as_a_known_one : first_of (local_refusals (record { version = None; setters = []; declarations = s.function 0 17 (codes "count") (s.param 23 (codes "x") None s.no_params) None (s.integer 29 (codes "1")) ∷ s.function 34 51 (codes "fn:count") (s.param 60 (codes "x") None (s.param 64 (codes "y") None s.no_params)) None (s.var 70 (codes "q")) ∷ []; body = (s.call 76 (codes "count") (s.one_more (s.integer 82 (codes "1")) (s.one_more (s.integer 84 (codes "2")) s.no_more))) })) ≡ Some (refused code.XQST0034 17)
unfolding walk
declared_as_a_known_one = refl

-- declare function fn:f() { 1 }; f() + fn:f()
prefix_of_functions : first_of (local_refusals (record { version = None; setters = []; declarations = s.function 0 17 (codes "fn:f") s.no_params None (s.integer 26 (codes "1")) ∷ []; body = (s.binary 31 op.Add (s.call 31 (codes "f") s.no_more) (s.call 37 (codes "fn:f") s.no_more)) })) ≡ None
unfolding walk
prefix_of_functions = refl

-- declare variable $a := 1; declare variable $a := $b; declare variable $b := 2; $a
repeated_variable : first_of (local_refusals (record { version = None; setters = []; declarations = s.variable 0 17 (codes "a") None (s.integer 23 (codes "1")) ∷ s.variable 26 43 (codes "a") None (s.var 49 (codes "b")) ∷ s.variable 53 70 (codes "b") None (s.integer 76 (codes "2")) ∷ []; body = (s.var 79 (codes "a")) })) ≡ Some (refused code.XQST0049 43)
unfolding walk
repeated_variable = refl

-- declare function local:f() { $v }; declare variable $v := local:g(); declare function local:g() { $v }; local:f()
variable_behind_a_function : first_of (local_refusals (record { version = None; setters = []; declarations = s.function 0 17 (codes "local:f") s.no_params None (s.var 29 (codes "v")) ∷ s.variable 35 52 (codes "v") None (s.call 58 (codes "local:g") s.no_more) ∷ s.function 69 86 (codes "local:g") s.no_params None (s.var 98 (codes "v")) ∷ []; body = (s.call 104 (codes "local:f") s.no_more) })) ≡ Some (refused code.XPST0008 29)
unfolding walk
variable_behind_a_function = refl

-- declare variable $v := $v; 1
variable_in_its_own_value : first_of (local_refusals (record { version = None; setters = []; declarations = s.variable 0 17 (codes "v") None (s.var 23 (codes "v")) ∷ []; body = (s.integer 27 (codes "1")) })) ≡ Some (refused code.XPST0008 23)
unfolding walk
variable_in_its_own_value = refl

-- declare variable $v := 1; declare function local:f($x) { $x + $v }; declare variable $w := $v; local:f($w)
variables_of_the_prolog : first_of (local_refusals (record { version = None; setters = []; declarations = s.variable 0 17 (codes "v") None (s.integer 23 (codes "1")) ∷ s.function 26 43 (codes "local:f") (s.param 51 (codes "x") None s.no_params) None (s.binary 57 op.Add (s.var 57 (codes "x")) (s.var 62 (codes "v"))) ∷ s.variable 68 85 (codes "w") None (s.var 91 (codes "v")) ∷ []; body = (s.call 95 (codes "local:f") (s.one_more (s.var 103 (codes "w")) s.no_more)) })) ≡ None
unfolding walk
variables_of_the_prolog = refl

-- declare function local:f($x) { $x }; $x
parameters_end_with_the_body : first_of (local_refusals (record { version = None; setters = []; declarations = s.function 0 17 (codes "local:f") (s.param 25 (codes "x") None s.no_params) None (s.var 31 (codes "x")) ∷ []; body = (s.var 37 (codes "x")) })) ≡ Some (refused code.XPST0008 37)
unfolding walk
parameters_end_with_the_body = refl

-- declare function local:f() { local:g() }; declare function local:g() { 1 }; local:f()
called_before_its_declaration : first_of (local_refusals (record { version = None; setters = []; declarations = s.function 0 17 (codes "local:f") s.no_params None (s.call 29 (codes "local:g") s.no_more) ∷ s.function 42 59 (codes "local:g") s.no_params None (s.integer 71 (codes "1")) ∷ []; body = (s.call 76 (codes "local:f") s.no_more) })) ≡ None
unfolding walk
called_before_its_declaration = refl

-- for $x in 1 order by $w descending, $x return /a[$x][b[$u]]
key_and_predicates : first_of (local_refusals (record { version = None; setters = []; declarations = []; body = (s.flwor 0 (s.for_bind 4 (codes "x") None None (s.integer 10 (codes "1")) s.no_binds) s.absent (s.one_key (s.var 21 (codes "w")) true false (s.one_key (s.var 36 (codes "x")) false false s.no_keys)) (s.step 47 axis.Child (Named (codes "a")) (s.present (s.root 46)) (s.one_more (s.var 49 (codes "x")) (s.one_more (s.step 53 axis.Child (Named (codes "b")) s.absent (s.one_more (s.var 55 (codes "u")) s.no_more)) s.no_more)))) })) ≡ Some (refused code.XPST0008 21)
unfolding walk
key_and_predicates = refl

-- declare function local:f($x as xs:string) as xs:foo { $x }; local:f()
type_of_a_result : first_of (local_refusals (record { version = None; setters = []; declarations = s.function 0 17 (codes "local:f") (s.param 25 (codes "x") (Some (t.Of 31 (i.Named (record { offset = 31; text = (codes "xs:string") })) occurs.One)) s.no_params) (Some (t.Of 45 (i.Named (record { offset = 45; text = (codes "xs:foo") })) occurs.One)) (s.var 54 (codes "x")) ∷ []; body = (s.call 60 (codes "local:f") s.no_more) })) ≡ Some (refused code.XPST0051 45)
unfolding walk
type_of_a_result = refl

-- if (1) then (1)[$b] else element {$c} {$d}
names_of_constructors : first_of (local_refusals (record { version = None; setters = []; declarations = []; body = (s.conditional 0 (s.integer 4 (codes "1")) (s.filtered 12 (s.paren 12 (s.present (s.integer 13 (codes "1")))) (s.one_more (s.var 16 (codes "b")) s.no_more)) (s.build 25 build.Element (s.computed (s.var 34 (codes "c"))) (s.present (s.var 39 (codes "d"))))) })) ≡ Some (refused code.XPST0008 16)
unfolding walk
names_of_constructors = refl

-- 1 + 2 is (3)[foo(1)]
call_in_a_predicate : first_of (local_refusals (record { version = None; setters = []; declarations = []; body = (s.binary 0 op.Is (s.binary 0 op.Add (s.integer 0 (codes "1")) (s.integer 4 (codes "2"))) (s.filtered 9 (s.paren 9 (s.present (s.integer 10 (codes "3")))) (s.one_more (s.call 13 (codes "foo") (s.one_more (s.integer 17 (codes "1")) s.no_more)) s.no_more))) })) ≡ Some (refused code.XPST0017 13)
unfolding walk
call_in_a_predicate = refl
