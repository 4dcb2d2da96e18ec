-- Worked examples of the rules on atomic values: which code comes first, casts, parts of texts.
use Rattle.std.proofs.Common.{◌≡◌, [], ◌∷◌, pos, negsuc, codes, true, false, Some, None, refl}
use Rattle.std.specs.Str.{chars}
use Rattle.std.specs.Char.{encode_utf8}
use Rattle.xq_base.specs.declared.code.Code.TheVariants as c
use Rattle.xq_base.specs.declared.fun.CompOp.TheVariants as o
use Rattle.xq_base.specs.Answers.{Value, Fault}
use Rattle.xq_base.specs.Texts.{integer_in, boolean_in}
use Rattle.xq_base.specs.Words.{text_before, text_after, local_part, space_normalized}
use Rattle.xq_base.specs.Atoms.{IntAtom, TextAtom, UntypedAtom, BoolAtom}
use Rattle.xq_base.specs.Arithmetic.{arithmetic, sum_of, quotient_of, remainder_of, range_of}
use Rattle.xq_base.specs.Comparisons.{general_comparison, value_comparison}
use Rattle.xq_base.specs.Aggregates.{sum_or, minimum, distinct, index_of}
use Rattle.xq_base.specs.TextRules.{substring_of, translated}

-- two items in one operand come before the failed cast in the other, whichever is the first
wrong_number_before_cast : arithmetic sum_of (UntypedAtom (codes "x") ∷ []) (IntAtom (pos 1) ∷ IntAtom (pos 2) ∷ []) ≡ Fault c.XPTY0004
wrong_number_before_cast = refl

wrong_kind_before_cast : arithmetic sum_of (BoolAtom true ∷ []) (UntypedAtom (codes "x") ∷ []) ≡ Fault c.XPTY0004
wrong_kind_before_cast = refl

-- an absent operand doesn't excuse the other
cast_beside_absent : arithmetic sum_of [] (UntypedAtom (codes "x") ∷ []) ≡ Fault c.FORG0001
cast_beside_absent = refl

absent_operand : arithmetic sum_of [] (UntypedAtom (codes " 7 ") ∷ []) ≡ Value []
absent_operand = refl

greatest_sum : arithmetic sum_of (IntAtom (pos 9223372036854775806) ∷ []) (IntAtom (pos 1) ∷ []) ≡ Value (IntAtom (pos 9223372036854775807) ∷ [])
greatest_sum = refl

wide_sum : arithmetic sum_of (IntAtom (negsuc 9223372036854775807) ∷ []) (IntAtom (negsuc 0) ∷ []) ≡ Fault c.FOAR0002
wide_sum = refl

quotient_truncates : arithmetic quotient_of (IntAtom (negsuc 6) ∷ []) (IntAtom (pos 2) ∷ []) ≡ Value (IntAtom (negsuc 2) ∷ [])
quotient_truncates = refl

wide_quotient : arithmetic quotient_of (IntAtom (negsuc 9223372036854775807) ∷ []) (IntAtom (negsuc 0) ∷ []) ≡ Fault c.FOAR0002
wide_quotient = refl

remainder_has_the_dividends_sign : arithmetic remainder_of (IntAtom (negsuc 6) ∷ []) (IntAtom (pos 2) ∷ []) ≡ Value (IntAtom (negsuc 0) ∷ [])
remainder_has_the_dividends_sign = refl

empty_range : range_of (IntAtom (pos 2) ∷ []) (IntAtom (pos 1) ∷ []) ≡ Value []
empty_range = refl

range_over_zero : range_of (IntAtom (negsuc 0) ∷ []) (IntAtom (pos 1) ∷ []) ≡ Value (IntAtom (negsuc 0) ∷ IntAtom (pos 0) ∷ IntAtom (pos 1) ∷ [])
range_over_zero = refl

-- every pair is compared, also behind one that is true
pair_behind_a_true_one : general_comparison o.Eq (IntAtom (pos 1) ∷ []) (IntAtom (pos 1) ∷ TextAtom (codes "a") ∷ []) ≡ Fault c.XPTY0004
pair_behind_a_true_one = refl

untyped_against_integer : general_comparison o.Lt (UntypedAtom (codes "9") ∷ []) (IntAtom (pos 10) ∷ []) ≡ Value (BoolAtom true ∷ [])
untyped_against_integer = refl

untyped_as_string : value_comparison o.Lt (UntypedAtom (codes "9") ∷ []) (TextAtom (codes "10") ∷ []) ≡ Value (BoolAtom false ∷ [])
untyped_as_string = refl

integer_with_white_space : integer_in (codes " -7 ") ≡ Some (negsuc 6)
integer_with_white_space = refl

least_integer : integer_in (codes "-9223372036854775808") ≡ Some (negsuc 9223372036854775807)
least_integer = refl

wide_integer : integer_in (codes "9223372036854775808") ≡ None
wide_integer = refl

two_signs : integer_in (codes "+-7") ≡ None
two_signs = refl

boolean_word_of_one : boolean_in (codes " 1 ") ≡ Some true
boolean_word_of_one = refl

no_boolean_word : boolean_in (codes "TRUE") ≡ None
no_boolean_word = refl

sum_of_nothing : sum_or (IntAtom (pos 0) ∷ []) [] ≡ Value (IntAtom (pos 0) ∷ [])
sum_of_nothing = refl

sum_of_a_string : sum_or [] (IntAtom (pos 1) ∷ TextAtom (codes "2") ∷ []) ≡ Fault c.FORG0006
sum_of_a_string = refl

least_of_mixed_kinds : minimum (IntAtom (pos 1) ∷ TextAtom (codes "a") ∷ []) ≡ Fault c.FORG0006
least_of_mixed_kinds = refl

kinds_differ : distinct (TextAtom (codes "1") ∷ IntAtom (pos 1) ∷ UntypedAtom (codes "1") ∷ []) ≡ TextAtom (codes "1") ∷ IntAtom (pos 1) ∷ []
kinds_differ = refl

places : index_of (IntAtom (pos 7) ∷ IntAtom (pos 8) ∷ IntAtom (pos 7) ∷ []) (IntAtom (pos 7) ∷ []) ≡ Value (IntAtom (pos 1) ∷ IntAtom (pos 3) ∷ [])
places = refl

before_the_first : text_before (codes "a:b:c") (codes ":") ≡ codes "a"
before_the_first = refl

after_the_first : text_after (codes "a:b:c") (codes ":") ≡ codes "b:c"
after_the_first = refl

local_part_of_several : local_part (codes "a:b:c") ≡ codes "b:c"
local_part_of_several = refl

one_blank : space_normalized (codes "  a   b ") ≡ codes "a b"
one_blank = refl

characters_not_bytes : substring_of (TextAtom (195 ∷ 164 ∷ 98 ∷ 99 ∷ []) ∷ []) (IntAtom (pos 2) ∷ []) (IntAtom (pos 1) ∷ []) ≡ Value (TextAtom (98 ∷ []) ∷ [])
unfolding chars encode_utf8
characters_not_bytes = refl

dropped_characters : translated (TextAtom (codes "bar") ∷ []) (TextAtom (codes "abr") ∷ []) (TextAtom (codes "AB") ∷ []) ≡ Value (TextAtom (codes "BA") ∷ [])
unfolding chars encode_utf8
dropped_characters = refl
