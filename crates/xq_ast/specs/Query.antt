-- What a query is, and what reading a text gives.
use Rattle.std.specs.Prelude.{◌≡◌, ℕ, ◌≤◌, Bool, true, false, ◌&&◌, List, [], ◌∷◌, ◌⊎◌, if◌then◌else◌}
use Rattle.std.specs.List.{list_all}
use Rattle.std.specs.Str.{is_utf8, chars}
use Rattle.xq_base.specs.Chars.{is_char}
use Rattle.xq_ast.specs.Bytes.{follows}
use Rattle.xq_ast.specs.Phrases.{Why, deep}
use Rattle.xq_ast.specs.Rules.{is}
use Rattle.xq_ast.specs.Trees as trees
use Rattle.xq_ast.specs.Grammar.{language, query, max_level}

-- the bytes are UTF-8 of Char (XML 1.0, section 2.2, production 2)
unfoldable pub is_text : List ℕ → Bool
is_text text = is_utf8 text && list_all is_char (chars text)

-- a byte order mark at the start is passed over, and counted
abbrev pub after_mark : List ℕ → ℕ
after_mark text = if follows (0xEF ∷ 0xBB ∷ 0xBF ∷ []) text 0 then 3 else 0

-- the text is this query
abbrev pub IsQuery : List ℕ → trees.Query → Type 0
IsQuery text q = (to : ℕ) × ((is language text max_level query).Is (after_mark text) to q)

-- a leftmost derivation from the start of the text is cut at this place
abbrev pub IsCut : List ℕ → Why → ℕ → Type 0
IsCut text why place = (is language text max_level query).Cut why (after_mark text) place

-- the cut with the least place, and at one place that of a level too many
pub record IsLeastCut (text : List ℕ) (why : Why) (place : ℕ) : Type 0 where
  pub cut : IsCut text why place
  pub least : (other : Why) (at : ℕ) → IsCut text other at → place ≤ at
  pub deep_first : IsCut text deep place → why ≡ deep

-- neither a query nor cut
pub record IsNoQuery (text : List ℕ) : Type 0 where
  pub no_tree : (q : trees.Query) → IsQuery text q → ⊥
  pub no_cut : (why : Why) (place : ℕ) → IsCut text why place → ⊥

-- what reading gives: a tree, a cut, or neither
pub data Reading : Type 0 where
  tree : trees.Query → Reading
  cut : Why → ℕ → Reading
  no_query : Reading

-- what reading a text gives: the query, if the text is one and isn't cut; the least cut; and otherwise neither
abbrev pub Reads : List ℕ → Reading → Type 0
Reads text (tree q) = (is_text text ≡ true) × IsQuery text q × ((why : Why) (place : ℕ) → IsCut text why place → ⊥)
Reads text (cut why place) = (is_text text ≡ true) × IsLeastCut text why place
Reads text no_query = (is_text text ≡ false) ⊎ IsNoQuery text
