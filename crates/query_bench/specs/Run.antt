-- What a run prints (own rule).
use Rattle.std.specs.Prelude.{ℕ, ◌≡◌, List, Option, codes}
use Rattle.std.specs.Io.KnownBytes.{Appends}
use Rattle.xq_ast.specs.Phrases.{deep, left_out}
use Rattle.xq_ast.specs.Query.{Reading, Reads, tree, cut, no_query}
use Rattle.query_bench.specs.Input.{IsWhole}

-- the line of each reading
abbrev pub line_of : Reading → List ℕ
line_of (tree query) = codes "query\n"
line_of (cut deep place) = codes "too deep\n"
line_of (cut left_out place) = codes "left out\n"
line_of no_query = codes "no query\n"

-- the line on how a text is read
pub record Says (text line : List ℕ) : Type 0 where
  pub reading : Reading
  pub read : Reads text reading
  pub is : line ≡ line_of reading

-- the line on the bytes that the reader had, where reader and writer tell them
pub record Runs (known old new : Option (List ℕ)) : Type 0 where
  pub bytes : List ℕ
  pub whole : IsWhole known bytes
  pub line : List ℕ
  pub says : Says bytes line
  pub appended : Appends old new line
