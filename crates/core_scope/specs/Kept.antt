-- What is kept of what is told of expressions: the first refusal alone, and all calls and references.
use Rattle.std.specs.Prelude.{ℕ, List, [], ◌++◌, Option}
use Rattle.core_scope.specs.declared.refusal.Refusal.{Refusal}
use Rattle.core_scope.specs.declared.found.DeclaredCall.{DeclaredCall}
use Rattle.core_scope.specs.Walk.{Facts}
use Rattle.core_scope.specs.Refusals.{first_from}

pub record Kept : Type 0 where
  pub first : Option Refusal
  pub calls : List DeclaredCall
  pub refers : List ℕ

-- a first refusal, if there is one, and nothing else
abbrev pub only_first : Option Refusal → Kept
only_first r = record { first = r; calls = []; refers = [] }

-- what is kept once more is told
abbrev pub after : Kept → Facts → Kept
after k f = record { first = first_from k.first f.refusals; calls = k.calls ++ f.calls; refers = k.refers ++ f.refers }
