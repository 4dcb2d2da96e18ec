-- One line more.
use Rattle.std.proofs.Common.{◌≡◌, ℕ, zero, suc, ◌+◌, ◌<◌, List, [], ◌∷◌, ◌++◌, length, take, get_or, Option, Some, None, refl, sym, ap, ◌∙◌, subst, arith}
use Rattle.std.specs.Io.KnownBytes.{Appends}
use Rattle.std.proofs.lemmas.List.{append-nil, append_assoc, take_more}
use Rattle.table_bench.specs.declared.kernels.Kernel.{Kernel}
use Rattle.table_bench.specs.Run.{many_of, line_with, lines_of}

appends-more : (old mid new : Option (List ℕ)) (as' bs : List ℕ) → Appends old mid as' → Appends mid new bs → Appends old new (as' ++ bs)
appends-more None mid new as' bs p q = tt
appends-more (Some xs) None new as' bs p q = absurd p
appends-more (Some xs) (Some ys) None as' bs p q = absurd q
appends-more (Some xs) (Some ys) (Some zs) as' bs p q = q ∙ ap (λ k. k ++ bs) p ∙ append_assoc xs as' bs

lines-more : (n : ℕ) (ks : List Kernel) (k : Kernel) → lines_of n (ks ++ k ∷ []) ≡ lines_of n ks ++ lines_of n (k ∷ [])
lines-more n [] k = refl
lines-more n (x ∷ ks) k = ap (λ z. line_with x n (many_of x n) ++ z) (lines-more n ks k) ∙ sym (append_assoc (line_with x n (many_of x n)) (lines_of n ks) (lines_of n (k ∷ [])))

pub none_printed : (old : Option (List ℕ)) → Appends old old []
none_printed None = tt
none_printed (Some xs) = sym (append-nil xs)

pub line_printed : (n : ℕ) (k : Kernel) (rows : ℕ) (line : List ℕ) (old new : Option (List ℕ)) → rows ≡ many_of k n → line ≡ line_with k n rows → Appends old new line → Appends old new (lines_of n (k ∷ []))
line_printed n k rows line old new r e a = subst (Appends old new) (e ∙ ap (line_with k n) r ∙ sym (append-nil (line_with k n (many_of k n)))) a

pub next_printed : (n : ℕ) (ks : List Kernel) (j : ℕ) (d : Kernel) (old mid new : Option (List ℕ)) → j < length ks → Appends old mid (lines_of n (take j ks)) → Appends mid new (lines_of n (get_or ks j d ∷ [])) → Appends old new (lines_of n (take (j + 1) ks))
next_printed n ks j d old mid new h p q =
    subst (Appends old new) (sym (ap (lines_of n) (take_more ks j d h) ∙ lines-more n (take j ks) (get_or ks j d))) (appends-more old mid new (lines_of n (take j ks)) (lines_of n (get_or ks j d ∷ [])) p q)

pub take_whole : (ks : List Kernel) → take (length ks) ks ≡ ks
take_whole [] = refl
take_whole (x ∷ ks) = ap (λ z. x ∷ z) (take_whole ks)
