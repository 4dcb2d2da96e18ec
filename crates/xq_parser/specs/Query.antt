-- What parsing a text gives, by the definition of reading; want of memory is free.
use Rattle.std.specs.Prelude.{ℕ, List, Result, Ok, Err}
use Rattle.xq_ast.specs.Phrases.{deep, left_out}
use Rattle.xq_ast.specs.Trees as trees
use Rattle.xq_ast.specs.Query.{Reads, tree, cut, no_query}
use Rattle.xq_parser.specs.declared.fault.ParseFault.{ParseFault}
use Rattle.xq_parser.specs.declared.fault.ParseFault.TheVariants.{NoMemory, Syntax, TooDeep, LeftOut}

-- a fault says that the text is no query, or where its least cut is
abbrev pub Faults : List ℕ → ParseFault → Type 0
Faults text NoMemory = Unit {0}
Faults text Syntax = Reads text no_query
Faults text (TooDeep place) = Reads text (cut deep place)
Faults text (LeftOut place) = Reads text (cut left_out place)

abbrev pub ReadsAs : List ℕ → Result trees.Query ParseFault → Type 0
ReadsAs text (Ok q) = Reads text (tree q)
ReadsAs text (Err e) = Faults text e
