-- What nests gives trees whose constructors have names where names belong, over each number of levels.
use Rattle.std.proofs.Common.{ℕ, zero, suc, List, None}
use Rattle.xq_ast.specs.Phrases.{has}
use Rattle.xq_ast.specs.Rules.{single_is, element_is, single, element}
use Rattle.xq_ast.specs.Trees.{Tree}
use Rattle.xq_ast.specs.Grammar.{language}
use Rattle.read_laws.proofs.Forms.{Good}
use Rattle.read_laws.proofs.Keeping.{Over, Keeps}
use Rattle.read_laws.proofs.Rules.{level_keeps, elem_keeps, no_level_keeps, no_element_keeps}

-- a text and what nests in it, over so many levels
abbrev pub at_level : List ℕ → ℕ → Over Tree Tree
at_level text d = record { text = text; single = single_is language text d; element = element_is language text d }

abbrev nothing : List ℕ → Over Tree Tree
nothing text = record { text = text; single = has None; element = has None }

pub record Nested (text : List ℕ) (d : ℕ) : Type 0 where
  pub one : Keeps (at_level text d) single Good
  pub two : Keeps (at_level text d) element Good

no_single : (text : List ℕ) → Keeps (nothing text) single Good
no_single text = record { kept = λ from to a i. let q = i.1 in cc }

no_element : (text : List ℕ) → Keeps (nothing text) element Good
no_element text = record { kept = λ from to a i. let q = i.1 in cc }

at_zero : (text : List ℕ) → Nested text 0
unfolding single_is element_is
at_zero text =
    record {
      one = record { kept = (no_level_keeps (nothing text) (no_single text) (no_element text)).kept };
      two = record { kept = (no_element_keeps (nothing text) (no_single text) (no_element text)).kept };
    }

at_next : (text : List ℕ) (d : ℕ) → Nested text d → Nested text (suc d)
unfolding single_is element_is
at_next text d n =
    record {
      one = record { kept = (level_keeps (at_level text d) n.one n.two).kept };
      two = record { kept = (elem_keeps (at_level text d) n.one n.two).kept };
    }

pub levels : (text : List ℕ) (d : ℕ) → Nested text d
levels text zero = at_zero text
levels text (suc d) = at_next text d (levels text d)
