-- How the name of an encoding is compared with a word, without a copy (own rule).
use Rattle.std.specs.Prelude.{ℕ, Bool, ◌==◌, List, [], ◌∷◌, Option, Some, None, option_map, if◌then◌else◌}
use Rattle.std.specs.Char.{to_ascii_lowercase}

-- what is left of a word behind these bytes in lower case, where it begins with them
abbrev pub behind : List ℕ → List ℕ → Option (List ℕ)
behind [] w = Some w
behind (b ∷ bs) [] = None
behind (b ∷ bs) (c ∷ cs) = if to_ascii_lowercase b == c then behind bs cs else None

-- what is left of a word behind one step in a string, and the place after that; where the value ends, the place is the last
abbrev pub behind_step : List ℕ → ℕ → Option (List ℕ × ℕ) → Option (List ℕ × ℕ)
behind_step w last None = Some (w, last)
behind_step w last (Some s) = option_map (λ rest. (rest, s.1)) (behind s.0 w)
