-- Line ends by bytes, and one step between the quotes of a string.
use Rattle.std.specs.Prelude.{◌≡◌, ℕ, ◌+◌, Bool, ◌==◌, List, [], ◌∷◌, ◌++◌, Option, Some, None, option_map, if◌then◌else◌}
use Rattle.std.specs.Char.{encode_utf8}
use Rattle.xq_ast.specs.Bytes.{byte}
use Rattle.xq_ast.specs.Values.{reference, lines_from}

-- what a byte adds to a text: the flags say that a carriage return stands before it, and that it is one
abbrev pub LineAdded : List ℕ → List ℕ → Bool → Bool → ℕ → Type 0
LineAdded old new after now b = (rest : List ℕ) → new ++ lines_from now rest ≡ old ++ lines_from after (b ∷ rest)

-- the character of the reference at a place in UTF-8, and the place after it (XQuery 1.0, section 3.1.1, production 144)
abbrev pub reference_step : List ℕ → ℕ → Option (List ℕ × ℕ)
reference_step text at = option_map (λ (r : ℕ × ℕ). (encode_utf8 r.0, r.1)) (reference text at)

-- the same between the quotes of a string, where a quote is doubled and line ends become line feeds
abbrev pub value_step : ℕ → List ℕ → ℕ → Option (List ℕ × ℕ)
value_step quote text at =
    if byte text at == quote then Some (quote ∷ [], at + 2)
    else if byte text at == 38 then reference_step text at
    else if byte text at == 13 then Some (10 ∷ [], if byte text (at + 1) == 10 then at + 2 else at + 1)
    else Some (byte text at ∷ [], at + 1)

-- a text with what a step adds, and the place after it
abbrev pub added : List ℕ → Option (List ℕ × ℕ) → List ℕ × Option ℕ
added found None = (found, None)
added found (Some s) = (found ++ s.0, Some s.1)
