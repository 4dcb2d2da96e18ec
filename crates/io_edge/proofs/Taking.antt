-- A piece after a piece.
use Rattle.std.proofs.Common.{◌≡◌, ◌+◌, ◌-◌, ℕ, List, ◌++◌, take, drop, length, Option, Some, None, sym, ap, ◌∙◌, rules, append_assoc, subst}
use Rattle.std.proofs.lemmas.List.{take-append-drop, drop-take, length-drop, take-take}
use Rattle.std.proofs.Math.Seq.{take-length}
use Rattle.io_edge.specs.Sinks.{TakesOf}

-- what is left is as long as the rest
pub whole-rest : (a : ℕ) (xs : List ℕ) → take (length xs - a) (drop a xs) ≡ drop a xs
whole-rest a xs = ap (λ k. take k (drop a xs)) (sym (length-drop a xs)) ∙ take-length (drop a xs)

-- some bytes and the next ones
pub take-more : (a n : ℕ) (xs : List ℕ) → take a xs ++ take n (drop a xs) ≡ take (a + n) xs
take-more a n xs =
    let front : take a (take (a + n) xs) ≡ take a xs = search (rules, take-take) in
    let both : take a (take (a + n) xs) ++ drop a (take (a + n) xs) ≡ take (a + n) xs = take-append-drop a (take (a + n) xs) in
    rw (← front, ← drop-take a n xs) both

-- taking one piece and then another
pub TakesOf-more : (old mid new : Option (List ℕ)) (xs ys : List ℕ) → TakesOf old mid xs → TakesOf mid new ys → TakesOf old new (xs ++ ys)
TakesOf-more None None new xs ys p q = q
TakesOf-more None (Some m) new xs ys p q = cc
TakesOf-more (Some o) None new xs ys p q = cc
TakesOf-more (Some o) (Some m) new xs ys p q = let e : m ≡ o ++ xs = search rules in q ∙ ap (λ z. Some (z ++ ys)) e ∙ ap (λ z. Some z) (append_assoc o xs ys)

-- taking some first bytes and then the next ones
pub TakesOf-next : (old mid new : Option (List ℕ)) (a n : ℕ) (xs : List ℕ) → TakesOf old mid (take a xs) → TakesOf mid new (take n (take (length xs - a) (drop a xs))) → TakesOf old new (take (a + n) xs)
TakesOf-next old mid new a n xs p q =
    let P : List ℕ → Type 0 = λ z. TakesOf mid new (take n z) in
    let Q : List ℕ → Type 0 = λ z. TakesOf old new z in
    subst Q (take-more a n xs) (TakesOf-more old mid new (take a xs) (take n (drop a xs)) p (subst P (whole-rest a xs) q))
