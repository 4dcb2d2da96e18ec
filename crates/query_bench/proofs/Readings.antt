-- The line of what `parse` gives.
use Rattle.std.proofs.Common.{◌≡◌, ℕ, List, codes, refl}
use Rattle.xq_ast.specs.Phrases.{deep, left_out}
use Rattle.xq_ast.specs.Query.{Reads, tree, cut, no_query}
use Rattle.xq_ast.specs.Trees.{Query}
use Rattle.query_bench.specs.Run.{Says}

pub says_query : (text : List ℕ) (query : Query) → Reads text (tree query) → Says text (codes "query\n")
says_query text query r = record { reading = tree query; read = r; is = refl }

pub says_syntax : (text : List ℕ) → Reads text no_query → Says text (codes "no query\n")
says_syntax text r = record { reading = no_query; read = r; is = refl }

pub says_deep : (text : List ℕ) (place : ℕ) → Reads text (cut deep place) → Says text (codes "too deep\n")
says_deep text place r = record { reading = cut deep place; read = r; is = refl }

pub says_left : (text : List ℕ) (place : ℕ) → Reads text (cut left_out place) → Says text (codes "left out\n")
says_left text place r = record { reading = cut left_out place; read = r; is = refl }
