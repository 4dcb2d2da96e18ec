-- Calls of functions on single items, one a line.
use Rattle.std.proofs.Common.{◌≡◌, ◌-◌, ◌^◌, Bool, true, false, [], ◌∷◌, ℤ, pos, refl}
use Rattle.std.specs.Prelude.{negsuc, codes}
use Rattle.std.specs.Str.{chars}
use Rattle.std.proofs.Math.Utf8.{encode}
use Rattle.xq_base.specs.declared.code.Code.TheVariants as c
use Rattle.xq_base.specs.declared.fun.Fun.{Fun}
use Rattle.xq_base.specs.declared.fun.Fun.TheVariants as f
use Rattle.xq_base.specs.declared.fun.ItemKind.TheVariants as k
use Rattle.xq_base.specs.declared.fun.AtomKind.TheVariants as a
use Rattle.xq_base.specs.Answers.{Answer, Value, Fault}
use Rattle.xq_base.specs.Texts.{Text}
use Rattle.doc_table.specs.Items.{IntItem, TextItem, UntypedItem, BoolItem}
use Rattle.doc_table.specs.Values.{Items}
use Rattle.doc_table.specs.Functions.{fun_answer}

abbrev int : ℤ → Items
int z = IntItem z ∷ []

abbrev str : Text → Items
str t = TextItem t ∷ []

abbrev untyped : Text → Items
untyped t = UntypedItem t ∷ []

abbrev truth : Bool → Items
truth b = BoolItem b ∷ []

abbrev one : Fun → Items → Answer Items
one fun u = fun_answer [] fun (u ∷ [])

abbrev two : Fun → Items → Items → Answer Items
two fun u v = fun_answer [] fun (u ∷ v ∷ [])

abbrev three : Fun → Items → Items → Items → Answer Items
three fun u v w = fun_answer [] fun (u ∷ v ∷ w ∷ [])

abbrev least : ℤ
least = negsuc (2 ^ 63 - 1)

abbrev greatest : ℤ
greatest = pos (2 ^ 63 - 1)

-- a, U+1D11E, b: a character beyond the basic plane takes four bytes
abbrev clef : Text
clef = 97 ∷ 240 ∷ 157 ∷ 132 ∷ 158 ∷ 98 ∷ []

-- ---- arithmetic

add_ends : two f.Add (int greatest) (int (pos 1)) ≡ Fault c.FOAR0002
add_ends = refl

subtract_ends : two f.Subtract (int least) (int (pos 1)) ≡ Fault c.FOAR0002
subtract_ends = refl

multiply_ends : two f.Multiply (int least) (int (negsuc 0)) ≡ Fault c.FOAR0002
multiply_ends = refl

divide_ends : two f.IntegerDivide (int least) (int (negsuc 0)) ≡ Fault c.FOAR0002
divide_ends = refl

remainder_ends : two f.Modulo (int least) (int (negsuc 0)) ≡ Value (int (pos 0))
remainder_ends = refl

divide_cuts_off : two f.IntegerDivide (int (negsuc 6)) (int (pos 2)) ≡ Value (int (negsuc 2))
divide_cuts_off = refl

remainder_sign : two f.Modulo (int (negsuc 6)) (int (pos 2)) ≡ Value (int (negsuc 0))
remainder_sign = refl

remainder_other_sign : two f.Modulo (int (pos 7)) (int (negsuc 1)) ≡ Value (int (pos 1))
remainder_other_sign = refl

divide_by_zero : two f.IntegerDivide (int (pos 1)) (int (pos 0)) ≡ Fault c.FOAR0001
divide_by_zero = refl

remainder_by_zero : two f.Modulo (int (pos 1)) (int (pos 0)) ≡ Fault c.FOAR0001
remainder_by_zero = refl

add_string : two f.Add (str (codes "a")) (int (pos 1)) ≡ Fault c.XPTY0004
add_string = refl

add_untyped : two f.Add (untyped (codes " +3 ")) (int (pos 4)) ≡ Value (int (pos 7))
add_untyped = refl

add_no_number : two f.Add (untyped (codes "x")) (int (pos 4)) ≡ Fault c.FORG0001
add_no_number = refl

kind_before_cast : two f.Add (untyped (codes "x")) (truth true) ≡ Fault c.XPTY0004
kind_before_cast = refl

cast_before_zero : two f.IntegerDivide (untyped (codes "x")) (int (pos 0)) ≡ Fault c.FORG0001
cast_before_zero = refl

add_none : two f.Add [] (int (pos 1)) ≡ Value []
add_none = refl

none_and_no_number : two f.Add [] (untyped (codes "x")) ≡ Fault c.FORG0001
none_and_no_number = refl

add_several : two f.Add (IntItem (pos 1) ∷ IntItem (pos 2) ∷ []) [] ≡ Fault c.XPTY0004
add_several = refl

negate_least : one f.Negate (int least) ≡ Fault c.FOAR0002
negate_least = refl

abs_least : one f.Abs (int least) ≡ Fault c.FOAR0002
abs_least = refl

abs_none : one f.Abs [] ≡ Value []
abs_none = refl

-- ---- comparisons

untyped_as_string : two f.Eq (untyped (codes "1")) (str (codes "1")) ≡ Value (truth true)
untyped_as_string = refl

untyped_and_integer : two f.Eq (untyped (codes "1")) (int (pos 1)) ≡ Fault c.XPTY0004
untyped_and_integer = refl

false_is_less : two f.Lt (truth false) (truth true) ≡ Value (truth true)
false_is_less = refl

capital_is_less : two f.Lt (str (codes "Z")) (str (codes "a")) ≡ Value (truth true)
capital_is_less = refl

compare_less : two f.Compare (str (codes "a")) (str (codes "b")) ≡ Value (int (negsuc 0))
compare_less = refl

compare_none : two f.Compare [] (int (pos 1)) ≡ Fault c.XPTY0004
compare_none = refl

-- ---- casts

cast_least : one f.XsInteger (str (codes "-9223372036854775808")) ≡ Value (int least)
cast_least = refl

cast_beyond : one f.XsInteger (str (codes "9223372036854775808")) ≡ Fault c.FORG0001
cast_beyond = refl

cast_truth : one f.XsBoolean (untyped (codes " 1 ")) ≡ Value (truth true)
cast_truth = refl

cast_no_truth : one f.XsBoolean (str (codes "yes")) ≡ Fault c.FORG0001
cast_no_truth = refl

kind_of_untyped : one (f.IsKind (k.Atom a.Untyped)) (untyped (codes "1")) ≡ Value (truth true)
kind_of_untyped = refl

-- ---- texts

length_counts_characters : one f.StringLength (str clef) ≡ Value (int (pos 3))
unfolding chars
length_counts_characters = refl

length_none : one f.StringLength [] ≡ Value (int (pos 0))
unfolding chars
length_none = refl

length_of_integer : one f.StringLength (int (pos 5)) ≡ Fault c.XPTY0004
length_of_integer = refl

normalize : one f.NormalizeSpace (untyped (codes "  a   b  ")) ≡ Value (str (codes "a b"))
normalize = refl

normalize_blanks : one f.NormalizeSpace (str (9 ∷ 10 ∷ [])) ≡ Value (str [])
normalize_blanks = refl

contains_nothing : two f.Contains (str (codes "abc")) (str []) ≡ Value (truth true)
contains_nothing = refl

contains_end : two f.Contains (str (codes "ababc")) (str (codes "abc")) ≡ Value (truth true)
contains_end = refl

starts_not : two f.StartsWith (str (codes "abc")) (str (codes "bc")) ≡ Value (truth false)
starts_not = refl

ends_so : two f.EndsWith (str (codes "abc")) (str (codes "bc")) ≡ Value (truth true)
ends_so = refl

before_first : two f.SubstringBefore (str (codes "a=b=c")) (str (codes "=")) ≡ Value (str (codes "a"))
before_first = refl

after_first : two f.SubstringAfter (str (codes "a=b=c")) (str (codes "=")) ≡ Value (str (codes "b=c"))
after_first = refl

after_nowhere : two f.SubstringAfter (str (codes "abc")) (str (codes "x")) ≡ Value (str [])
after_nowhere = refl

substring_from_place : two f.Substring (str (codes "12345")) (int (pos 2)) ≡ Value (str (codes "2345"))
unfolding chars encode
substring_from_place = refl

substring_counts_characters : three f.Substring (str clef) (int (pos 2)) (int (pos 1)) ≡ Value (str (240 ∷ 157 ∷ 132 ∷ 158 ∷ []))
unfolding chars encode
substring_counts_characters = refl

substring_before_first : three f.Substring (str (codes "12345")) (int (pos 0)) (int (pos 3)) ≡ Value (str (codes "12"))
unfolding chars encode
substring_before_first = refl

substring_ends : three f.Substring (str (codes "12345")) (int greatest) (int greatest) ≡ Value (str [])
unfolding chars encode
substring_ends = refl

substring_of_integer : two f.Substring (int (pos 1)) (untyped (codes "x")) ≡ Fault c.XPTY0004
substring_of_integer = refl

translate_drops : three f.Translate (str (codes "abcabc")) (str (codes "ab")) (str (codes "x")) ≡ Value (str (codes "xcxc"))
unfolding chars encode
translate_drops = refl

translate_by_first : three f.Translate (str (codes "abc")) (str (codes "aa")) (str (codes "xy")) ≡ Value (str (codes "xbc"))
unfolding chars encode
translate_by_first = refl

translate_none : three f.Translate (str (codes "a")) [] (str (codes "b")) ≡ Fault c.XPTY0004
translate_none = refl

-- ---- the rest

and_of : two f.And (truth true) (truth false) ≡ Value (truth false)
and_of = refl

or_of : two f.Or (truth true) (truth false) ≡ Value (truth true)
or_of = refl

is_of_atom : two f.Is (int (pos 1)) (int (pos 1)) ≡ Fault c.XPTY0004
is_of_atom = refl

doc_unknown : one f.Doc (str (codes "none.xml")) ≡ Fault c.FODC0002
doc_unknown = refl
