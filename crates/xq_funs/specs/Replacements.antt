-- What characters become, by the first entry of each (own rule).
use Rattle.std.specs.Prelude.{ℕ, cond, nat_eq, List, [], ◌∷◌, Option, Some, None}
use Rattle.std.specs.Option.{is_some}
use Rattle.std.specs.Map.{lookup}
use Rattle.std.specs.Str.{encode_utf8_all}
use Rattle.indexmap.specs.IndexMap.{insert_entry}
use Rattle.xq_base.specs.Words.{other_chars}

abbrev pub Entries : Type 0
Entries = List (ℕ × Option ℕ)

-- one entry more, unless the character has one
abbrev pub with_entry : Entries → ℕ → Option ℕ → Entries
with_entry es c other = cond (is_some (lookup (nat_eq c) es)) es (insert_entry nat_eq es c other)

abbrev pub first_or_none : List ℕ → Option ℕ
first_or_none [] = None
first_or_none (c ∷ cs) = Some c

-- an entry for each character: the one at its place in the other list, or none
abbrev pub entries_from : Entries → List ℕ → List ℕ → Entries
entries_from es [] to = es
entries_from es (c ∷ cs) to = entries_from (with_entry es c (first_or_none to)) cs (other_chars to)

abbrev pub chars_or : Option (Option ℕ) → List ℕ → List ℕ
chars_or None cs = cs
chars_or (Some None) cs = []
chars_or (Some (Some d)) cs = d ∷ []

-- the bytes in the place of a character
abbrev pub in_place : Entries → ℕ → List ℕ
in_place es c = encode_utf8_all (chars_or (lookup (nat_eq c) es) (c ∷ []))
