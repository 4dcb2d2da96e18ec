-- What is kept behind more facts.
use Rattle.std.proofs.Common.{◌≡◌, refl, sym, ap, ◌∙◌, ℕ, List, [], ◌∷◌, ◌++◌, append_assoc, Option, Some, None}
use Rattle.std.proofs.lemmas.List.{append-nil}
use Rattle.xq_base.specs.declared.code.Code.{Code}
use Rattle.core_scope.specs.declared.refusal.Refusal.{Refusal}
use Rattle.core_scope.specs.declared.found.DeclaredCall.{DeclaredCall}
use Rattle.xq_ast.specs.declared.leaf.Callee.TheVariants as callee
use Rattle.core_scope.specs.Refusals.{earlier, first_from}
use Rattle.core_scope.specs.Walk.{Facts, nothing, ◌with◌, refused, amiss, refers_to, call_facts}
use Rattle.core_scope.specs.Kept.{Kept, after}

-- what is kept behind facts told together is what is kept behind the first and then the second
pub first_append : (k : Option Refusal) (xs ys : List Refusal) → first_from k (xs ++ ys) ≡ first_from (first_from k xs) ys
first_append k [] ys = refl
first_append k (x ∷ xs) ys = first_append (Some (earlier x k)) xs ys

pub after_with : (k : Kept) (f g : Facts) → after k (f with g) ≡ after (after k f) g
after_with k f g =
    rw (first_append k.first f.refusals g.refusals, sym (append_assoc k.calls f.calls g.calls), sym (append_assoc k.refers f.refers g.refers)) refl

pub after_nothing : (k : Kept) → after k nothing ≡ k
after_nothing k = rw (append-nil k.calls, append-nil k.refers) refl

-- a refusal, a reference, a call more
pub after_amiss : (k : Kept) (c : Code) (o : ℕ) → after k (amiss c o) ≡ record { first = Some (earlier (refused c o) k.first); calls = k.calls; refers = k.refers }
after_amiss k c o = rw (append-nil k.calls, append-nil k.refers) refl

pub after_refers : (k : Kept) (j : ℕ) → after k (refers_to (Some j)) ≡ record { first = k.first; calls = k.calls; refers = k.refers ++ j ∷ [] }
after_refers k j = rw (append-nil k.calls) refl

pub after_call : (k : Kept) (o j : ℕ) → after k (call_facts (Some (callee.Declared j)) o) ≡ record { first = k.first; calls = k.calls ++ record { offset = o; function = j } ∷ []; refers = k.refers }
after_call k o j = rw (append-nil k.refers) refl
