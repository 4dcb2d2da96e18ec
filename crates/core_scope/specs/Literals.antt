-- Integers, and what stands for itself in direct constructors (XQuery 1.0, sections 3.1.1 and 3.7.1).
use Rattle.std.specs.Prelude.{ℕ, ◌+◌, ◌-◌, ◌*◌, ◌^◌, ℤ, pos, Bool, true, false, ◌&&◌, ◌||◌, cond, List, [], ◌∷◌, ◌++◌, map, Option, Some, None, nat_eq, nat_le}
use Rattle.std.specs.List.{list_all}
use Rattle.xq_base.specs.Texts.{Text, is_space}
use Rattle.xq_ast.specs.declared.leaf.ContentRun.{ContentRun}
use Rattle.xq_ast.specs.declared.leaf.ContentRun.TheVariants as c
use Rattle.xq_ast.specs.declared.leaf.ValueRun.{ValueRun}
use Rattle.xq_ast.specs.declared.leaf.ValueRun.TheVariants as v

-- the number that digits write, behind a number that earlier ones write
abbrev pub number_from : ℕ → Text → ℕ
number_from n [] = n
number_from n (d ∷ ds) = number_from (10 * n + (d - 48)) ds

abbrev pub number_of : Text → ℕ
number_of ds = number_from 0 ds

-- beyond 64 bits with a sign (own rule: integers end there)
abbrev pub is_wide : Text → Bool
is_wide ds = nat_le (2 ^ 63) (number_of ds)

-- the integer of digits that aren't refused
abbrev pub integer_of : Text → ℤ
integer_of ds = cond (is_wide ds) (pos 0) (pos (number_of ds))

-- the integer of digits, if it isn't beyond
abbrev pub integer_in : Text → Option ℤ
integer_in ds = cond (is_wide ds) None (Some (pos (number_of ds)))

-- what a piece of content stands for (section 3.7.1.3)
abbrev pub content_text : ContentRun → Text
content_text (c.Chars t) = t
content_text (c.Cdata t) = t
content_text (c.Reference t) = t
content_text c.OpenBrace = 123 ∷ []
content_text c.CloseBrace = 125 ∷ []

-- white space that is written as itself (section 3.7.1.4)
abbrev pub is_white_piece : ContentRun → Bool
is_white_piece (c.Chars t) = list_all is_space t
is_white_piece _ = false

-- each tab and line end that is written as itself becomes a blank (section 3.7.1.1)
abbrev pub blank_for : ℕ → ℕ
blank_for b = cond (nat_eq b 9 || nat_eq b 10) 32 b

-- what a piece of an attribute's value stands for (section 3.7.1.1)
abbrev pub value_text : ValueRun → Text
value_text (v.Chars t) = map blank_for t
value_text (v.Reference t) = t
value_text v.OpenBrace = 123 ∷ []
value_text v.CloseBrace = 125 ∷ []
value_text (v.Quote t) = t
