-- Pieces that are taken one after the other.
use Rattle.std.proofs.Common.{◌≡◌, ℕ, suc, ◌+◌, ◌<◌, ◌≤◌, List, [], ◌∷◌, ◌++◌, map, length, get_or, take, drop, Option, refl, sym, ap, ◌∙◌, subst, append_assoc, zero-add, length-append, arith}
use Rattle.std.proofs.lemmas.List.{map-append, append-nil, take-append-drop, take-append-le}
use Rattle.std.proofs.Math.Seq.{take-suc, drop-cons}
use Rattle.std.specs.List.{concat}
use Rattle.io_edge.specs.Sinks.{TakesOf, TakesPrefix}
use Rattle.io_edge.proofs.Taking.{TakesOf-more}

concat-append : (xs ys : List (List ℕ)) → concat (xs ++ ys) ≡ concat xs ++ concat ys
concat-append [] ys = refl
concat-append (x ∷ xs) ys = ap (λ b. x ++ b) (concat-append xs ys) ∙ sym (append_assoc x (concat xs) (concat ys))

take_item : {A : Type 0} (xs : List A) (i : ℕ) (d : A) → i < length xs → take (i + 1) xs ≡ take i xs ++ get_or xs i d ∷ []
take_item xs i d h =
    let e : i + 1 ≡ suc i = omega arith in
    ap (λ k. take k xs) e ∙ take-suc xs i d h

-- one piece more
pub pieces_turn : {A : Type 0} (f : A → List ℕ) (ps : List A) (i : ℕ) (d : A) (old mid new : Option (List ℕ)) → i < length ps
    → TakesOf old mid (concat (map f (take i ps))) → TakesOf mid new (f (get_or ps i d)) → TakesOf old new (concat (map f (take (i + 1) ps)))
pieces_turn f ps i d old mid new h p q =
    let e : concat (map f (take (i + 1) ps)) ≡ concat (map f (take i ps)) ++ f (get_or ps i d) =
    ap (λ xs. concat (map f xs)) (take_item ps i d h) ∙ ap concat (map-append f (take i ps) (get_or ps i d ∷ [])) ∙ concat-append (map f (take i ps)) (f (get_or ps i d) ∷ []) ∙ ap (λ b. concat (map f (take i ps)) ++ b) (append-nil (f (get_or ps i d))) in
    subst (TakesOf old new) (sym e) (TakesOf-more old mid new (concat (map f (take i ps))) (f (get_or ps i d)) p q)

take_front : (xs ys : List ℕ) (n : ℕ) → n ≤ length ys → take (length xs + n) (xs ++ ys) ≡ xs ++ take n ys
take_front [] ys n l = ap (λ k. take k ys) (zero-add n)
take_front (x ∷ xs) ys n l =
    let e : suc (length xs) + n ≡ suc (length xs + n) = omega arith in
    ap (λ k. take k (x ∷ xs ++ ys)) e ∙ ap (λ b. x ∷ b) (take_front xs ys n l)

-- some first pieces and a part of the next one
pub pieces_part : {A : Type 0} (f : A → List ℕ) (ps : List A) (i : ℕ) (d : A) (old mid new : Option (List ℕ)) → i < length ps
    → TakesOf old mid (concat (map f (take i ps))) → TakesPrefix mid new (f (get_or ps i d)) → TakesPrefix old new (concat (map f ps))
pieces_part f ps i d old mid new h p q =
    let front = concat (map f (take i ps)) in
    let piece = f (get_or ps i d) in
    let behind = concat (map f (drop (suc i) ps)) in
    let split : concat (map f ps) ≡ front ++ (piece ++ behind) =
    ap (λ xs. concat (map f xs)) (sym (take-append-drop i ps) ∙ ap (λ xs. take i ps ++ xs) (drop-cons ps i d h))
    ∙ ap concat (map-append f (take i ps) (get_or ps i d ∷ drop (suc i) ps)) ∙ concat-append (map f (take i ps)) (piece ∷ map f (drop (suc i) ps)) in
    let within : q.n ≤ length (piece ++ behind) = omega (arith, q.within, length-append piece behind) in
    let first : take (length front + q.n) (concat (map f ps)) ≡ front ++ take q.n piece =
    ap (take (length front + q.n)) split ∙ take_front front (piece ++ behind) q.n within ∙ ap (λ b. front ++ b) (take-append-le q.n piece behind q.within) in
    record {
      n = length front + q.n;
      within = omega (arith, ap length split, length-append front (piece ++ behind), within);
      taken = subst (TakesOf old new) (sym first) (TakesOf-more old mid new front (take q.n piece) p q.taken);
    }
