-- Digits one by one, up to the least number that no integer of 64 bits has (own rule).
use Rattle.std.specs.Prelude.{ℕ, ◌+◌, ◌-◌, ◌*◌, ◌^◌, Bool, cond, ◌&&◌, nat_le, List, [], ◌∷◌, ℤ, Option, Some, None}
use Rattle.xq_base.specs.Texts.{with_sign, if_fits}
use Rattle.std.specs.Option.{option_map_or}

abbrev pub with_digit : ℕ → ℕ → Option ℕ
with_digit n c = cond (nat_le 48 c && nat_le c 57 && nat_le (10 * n + (c - 48)) (2 ^ 63)) (Some (10 * n + (c - 48))) None

abbrev pub whole_from : ℕ → List ℕ → Option ℕ
whole_from n [] = Some n
whole_from n (c ∷ cs) = option_map_or (λ m. whole_from m cs) (with_digit n c) None

abbrev pub minus_then : Bool → Option ℕ → Option ℤ
minus_then negative None = None
minus_then negative (Some n) = if_fits (with_sign negative (Some n))
