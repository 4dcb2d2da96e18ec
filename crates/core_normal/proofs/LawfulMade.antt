-- A Core that the code makes of a query is lawful, whatever texts its text numbers stand for.
use Rattle.std.proofs.Common.{◌≡◌, true, subst, sym}
use Rattle.core_meaning.specs.ExprOf.{expr_of}
use Rattle.core_meaning.specs.Lawful.{is_lawful}
use Rattle.core_normal.specs.Laws.{MadeAreLawful}
use Rattle.core_normal.proofs.LawfulTexts.{lawful_with_any}
use Rattle.core_normal.proofs.PrologFits.{lawful_core}

pub lawful_made : MadeAreLawful
lawful_made t u q r x built scopes made =
    lawful_with_any t u x (subst (λ y. is_lawful (expr_of y) ≡ true) (sym made.1) (lawful_core q r built scopes made.0))
