-- What was read up to one byte more than the limit is the whole, where it is within the limit.
use Rattle.std.proofs.Common.{◌≡◌, ℕ, ◌+◌, ◌≤◌, ◌<◌, List, [], ◌++◌, length, take, Option, Some, None, IfSome, ap, ◌∙◌, subst, arith}
use Rattle.std.specs.Prelude.{option_map}
use Rattle.std.specs.Io.Take.{take_limit, take_inner, take_remaining}
use Rattle.std.specs.declared.io.traits.Take.{Take}
use Rattle.std.proofs.lemmas.List.{length-take, take_all}
use Rattle.table_bench.specs.Input.{row_limit, IsWhole, IsLong}

module _ (limit : ℕ) (one_more : limit ≡ row_limit + 1) where
  whole-read : (known : Option (List ℕ)) (bytes : List ℕ) → IfSome (option_map (take limit) known) (λ xs. bytes ≡ xs) → length bytes ≤ row_limit → IsWhole known bytes
  whole-read None bytes e h = record { are_known = tt; few = h }
  whole-read (Some xs) bytes e h = record { are_known = e ∙ take_all limit xs (omega (arith, length-take limit xs, ap length e, h, one_more)); few = h }

  long-read : (known : Option (List ℕ)) (bytes : List ℕ) → IfSome (option_map (take limit) known) (λ xs. bytes ≡ xs) → row_limit < length bytes → IsLong known
  long-read None bytes e h = tt
  long-read (Some xs) bytes e h = omega (arith, length-take limit xs, ap length e, h)

from-none : (known : Option (List ℕ)) (old bytes : List ℕ) → old ≡ [] → IfSome known (λ xs. bytes ≡ old ++ xs) → IfSome known (λ xs. bytes ≡ xs)
from-none None old bytes q e = tt
from-none (Some xs) old bytes q e = e ∙ ap (λ z. z ++ xs) q

module _ {R : Type 0} (remaining : R → Option (List ℕ)) (reader : R) (t : Take R) (old bytes : List ℕ) (limit : take_limit t ≡ row_limit + 1) (inner : take_inner t ≡ reader) (none : old ≡ []) (read : IfSome (take_remaining remaining t) (λ xs. bytes ≡ old ++ xs)) where
  pub whole_taken : length bytes ≤ row_limit → IsWhole (remaining reader) bytes
  whole_taken h = subst (λ z. IsWhole (remaining z) bytes) inner (whole-read t.limit limit (remaining t.inner) bytes (from-none (take_remaining remaining t) old bytes none read) h)

  pub long_taken : row_limit < length bytes → IsLong (remaining reader)
  long_taken h = subst (λ z. IsLong (remaining z)) inner (long-read t.limit limit (remaining t.inner) bytes (from-none (take_remaining remaining t) old bytes none read) h)
