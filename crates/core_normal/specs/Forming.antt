-- Parts of a form over the Cores of its parts.
use Rattle.std.specs.Prelude.{List, [], ◌∷◌}
use Rattle.core_meaning.specs.PlainCore.{PlainCore}
use Rattle.xq_ast.specs.declared.node.Signed.{Signed}
use Rattle.core_normal.specs.Pieces.{signed_core}

-- signs, the outer first (XQuery 1.0, section 3.4)
abbrev pub signed_all : List Signed → PlainCore → PlainCore
signed_all [] a = a
signed_all (x ∷ xs) a = signed_core x.offset x.sign (signed_all xs a)
