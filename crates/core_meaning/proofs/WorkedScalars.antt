-- Worked examples: operators and functions on atomic values, loops.
use Rattle.std.proofs.Common.{◌≡◌, [], ◌∷◌, pos, negsuc, codes, true, false, Some, refl}
use Rattle.std.specs.Str.{chars}
use Rattle.std.specs.Char.{encode_utf8}
use Rattle.xq_base.specs.declared.code.Code.TheVariants as c
use Rattle.xq_base.specs.declared.fun.Fun.TheVariants as f
use Rattle.xq_base.specs.declared.fun.AtomKind.TheVariants as kind
use Rattle.xq_base.specs.Atoms.{IntAtom, TextAtom}
use Rattle.doc_table.specs.Items.{IntItem, TextItem, BoolItem}
use Rattle.core_meaning.specs.PlainCore.{PlainCore}
use Rattle.core_meaning.specs.PlainCore as t
use Rattle.core_meaning.specs.ExprOf.{expr_of, site_at}
use Rattle.core_meaning.specs.Meaning.{no_variables, val}
use Rattle.core_meaning.specs.Failures.{failure, fails, first}

-- 1+2
a_sum : PlainCore
a_sum = t.Call 0 f.Add (t.one_core (t.Lit 0 (IntAtom (pos 1))) (t.one_core (t.Lit 2 (IntAtom (pos 2))) t.no_cores))

a_sum_value : val [] (expr_of a_sum) no_variables [] ≡ Some ((IntItem (pos 3)) ∷ [])
unfolding a_sum
a_sum_value = refl

-- for $x in (1,0,2) return 6 idiv $x
zero_divisor : PlainCore
zero_divisor = t.For 0 1 2 (t.Seq 10 (t.Seq 10 (t.Lit 11 (IntAtom (pos 1))) (t.Lit 13 (IntAtom (pos 0)))) (t.Lit 15 (IntAtom (pos 2)))) (t.Call 25 f.IntegerDivide (t.one_core (t.Lit 25 (IntAtom (pos 6))) (t.one_core (t.Var 32 1) t.no_cores)))

zero_divisor_failure : first (fails [] (expr_of zero_divisor) no_variables []) ≡ Some (failure (site_at 7 25) (2 ∷ []) c.FOAR0001)
unfolding zero_divisor
zero_divisor_failure = refl

-- let $x := 1 idiv 0 return 5: what a failing binding is for isn't reached
unused_binding : PlainCore
unused_binding = t.Let 0 1 (t.Call 10 f.IntegerDivide (t.one_core (t.Lit 10 (IntAtom (pos 1))) (t.one_core (t.Lit 17 (IntAtom (pos 0))) t.no_cores))) (t.Lit 26 (IntAtom (pos 5)))

unused_binding_failure : first (fails [] (expr_of unused_binding) no_variables []) ≡ Some (failure (site_at 2 10) [] c.FOAR0001)
unfolding unused_binding
unused_binding_failure = refl

-- 9223372036854775807 + 1
wide_sum : PlainCore
wide_sum = t.Call 0 f.Add (t.one_core (t.Lit 0 (IntAtom (pos 9223372036854775807))) (t.one_core (t.Lit 22 (IntAtom (pos 1))) t.no_cores))

wide_sum_failure : first (fails [] (expr_of wide_sum) no_variables []) ≡ Some (failure (site_at 2 0) [] c.FOAR0002)
unfolding wide_sum
wide_sum_failure = refl

-- ()
empty_query : PlainCore
empty_query = t.Empty 0

empty_query_value : val [] (expr_of empty_query) no_variables [] ≡ Some []
unfolding empty_query
empty_query_value = refl

-- () + 1
absent_operand : PlainCore
absent_operand = t.Call 0 f.Add (t.one_core (t.Empty 0) (t.one_core (t.Lit 5 (IntAtom (pos 1))) t.no_cores))

absent_operand_value : val [] (expr_of absent_operand) no_variables [] ≡ Some []
unfolding absent_operand
absent_operand_value = refl

-- -7 idiv 2, -7 mod 2
quotients : PlainCore
quotients = t.Seq 0 (t.Call 0 f.IntegerDivide (t.one_core (t.Call 0 f.Negate (t.one_core (t.Lit 1 (IntAtom (pos 7))) t.no_cores)) (t.one_core (t.Lit 8 (IntAtom (pos 2))) t.no_cores))) (t.Call 11 f.Modulo (t.one_core (t.Call 11 f.Negate (t.one_core (t.Lit 12 (IntAtom (pos 7))) t.no_cores)) (t.one_core (t.Lit 18 (IntAtom (pos 2))) t.no_cores)))

quotients_value : val [] (expr_of quotients) no_variables [] ≡ Some ((IntItem (negsuc 2)) ∷ (IntItem (negsuc 0)) ∷ [])
unfolding quotients
quotients_value = refl

-- distinct-values(("a", 1, "a", true(), 1))
distinct_atoms : PlainCore
distinct_atoms = t.Call 0 f.DistinctValues (t.one_core (t.Seq 16 (t.Seq 16 (t.Seq 16 (t.Seq 16 (t.Lit 17 (TextAtom (codes "a"))) (t.Lit 22 (IntAtom (pos 1)))) (t.Lit 25 (TextAtom (codes "a")))) (t.Call 30 f.True t.no_cores)) (t.Lit 38 (IntAtom (pos 1)))) t.no_cores)

distinct_atoms_value : val [] (expr_of distinct_atoms) no_variables [] ≡ Some ((TextItem (codes "a")) ∷ (IntItem (pos 1)) ∷ (BoolItem true) ∷ [])
unfolding distinct_atoms
distinct_atoms_value = refl

-- xs:integer(" 7 ") + 1
cast_and_add : PlainCore
cast_and_add = t.Call 0 f.Add (t.one_core (t.Cast 0 (t.Lit 11 (TextAtom (codes " 7 "))) kind.Integer true) (t.one_core (t.Lit 20 (IntAtom (pos 1))) t.no_cores))

cast_and_add_value : val [] (expr_of cast_and_add) no_variables [] ≡ Some ((IntItem (pos 8)) ∷ [])
unfolding cast_and_add
cast_and_add_value = refl

-- "x" cast as xs:integer
wrong_cast : PlainCore
wrong_cast = t.Cast 0 (t.Lit 0 (TextAtom (codes "x"))) kind.Integer false

wrong_cast_failure : first (fails [] (expr_of wrong_cast) no_variables []) ≡ Some (failure (site_at 1 0) [] c.FORG0001)
unfolding wrong_cast
wrong_cast_failure = refl

-- 1 = "1"
kinds_that_differ : PlainCore
kinds_that_differ = t.Call 0 f.GeneralEq (t.one_core (t.Lit 0 (IntAtom (pos 1))) (t.one_core (t.Lit 4 (TextAtom (codes "1"))) t.no_cores))

kinds_that_differ_failure : first (fails [] (expr_of kinds_that_differ) no_variables []) ≡ Some (failure (site_at 2 0) [] c.XPTY0004)
unfolding kinds_that_differ
kinds_that_differ_failure = refl

-- 1 eq ()
absent_comparison : PlainCore
absent_comparison = t.Call 0 f.Eq (t.one_core (t.Lit 0 (IntAtom (pos 1))) (t.one_core (t.Empty 5) t.no_cores))

absent_comparison_value : val [] (expr_of absent_comparison) no_variables [] ≡ Some []
unfolding absent_comparison
absent_comparison_value = refl

-- ("a", "b") + 1: two items come before what they are
wrong_kind_before_cast : PlainCore
wrong_kind_before_cast = t.Call 0 f.Add (t.one_core (t.Seq 0 (t.Lit 1 (TextAtom (codes "a"))) (t.Lit 6 (TextAtom (codes "b")))) (t.one_core (t.Lit 13 (IntAtom (pos 1))) t.no_cores))

wrong_kind_before_cast_failure : first (fails [] (expr_of wrong_kind_before_cast) no_variables []) ≡ Some (failure (site_at 4 0) [] c.XPTY0004)
unfolding wrong_kind_before_cast
wrong_kind_before_cast_failure = refl

-- true() or error(): the right side is evaluated too
both_sides : PlainCore
both_sides = t.Call 0 f.Or (t.one_core (t.Call 0 f.Boolean (t.one_core (t.Call 0 f.True t.no_cores) t.no_cores)) (t.one_core (t.Call 10 f.Boolean (t.one_core (t.Fail 10 c.FOER0000) t.no_cores)) t.no_cores))

both_sides_failure : first (fails [] (expr_of both_sides) no_variables []) ≡ Some (failure (site_at 2 10) [] c.FOER0000)
unfolding both_sides
both_sides_failure = refl

-- for $x in ("b1","a2","b0") order by substring($x,1,1) return $x: ties keep their order
sorted_by_substring : PlainCore
sorted_by_substring = t.Sorted 0 (t.one_bind (t.for_bind 1 2 (t.Seq 10 (t.Seq 10 (t.Lit 11 (TextAtom (codes "b1"))) (t.Lit 16 (TextAtom (codes "a2")))) (t.Lit 21 (TextAtom (codes "b0"))))) t.no_binds) (t.one_key (t.key_by (t.Call 36 f.Substring (t.one_core (t.Var 46 1) (t.one_core (t.Lit 49 (IntAtom (pos 1))) (t.one_core (t.Lit 51 (IntAtom (pos 1))) t.no_cores)))) false false) t.no_keys) (t.Var 61 1)

sorted_by_substring_value : val [] (expr_of sorted_by_substring) no_variables [] ≡ Some ((TextItem (codes "a2")) ∷ (TextItem (codes "b1")) ∷ (TextItem (codes "b0")) ∷ [])
unfolding sorted_by_substring chars encode_utf8
sorted_by_substring_value = refl

-- .
no_context : PlainCore
no_context = t.Fail 0 c.XPDY0002

no_context_failure : first (fails [] (expr_of no_context) no_variables []) ≡ Some (failure (site_at 0 0) [] c.XPDY0002)
unfolding no_context
no_context_failure = refl
