-- Laws of lists that several files use.
use Rattle.std.proofs.Common.{◌≡◌, ◌++◌, ◌∷◌, [], suc, List, length, map, refl, ap}
use Rattle.std.specs.Prelude.{slice_index_or}
pub use Rattle.std.proofs.lemmas.List.{map-append as map_append, map-id as map_self, length-append as long_append, append_assoc as joined_to, append-nil as to_nothing}
use Rattle.std.proofs.lemmas.List.{length-map}

pub maps : {X Y Z : Type 0} (f : Y → Z) (g : X → Y) (xs : List X) → map f (map g xs) ≡ map (λ x. f (g x)) xs
maps f g [] = refl
maps f g (x ∷ xs) = ap (λ z. f (g x) ∷ z) (maps f g xs)

pub each_same : {X Y : Type 0} (f g : X → Y) (xs : List X) → ((x : X) → f x ≡ g x) → map f xs ≡ map g xs
each_same f g [] e = refl
each_same f g (x ∷ xs) e = λ i. e x i ∷ each_same f g xs e i

pub map_long : {X Y : Type 0} (f : X → Y) (xs : List X) → length (map f xs) ≡ length xs
map_long f xs = length-map xs f

pub app : {X : Type 0} (xs : List X) (y : X) (zs : List X) → (xs ++ y ∷ []) ++ zs ≡ xs ++ y ∷ zs
app xs y zs = joined_to xs (y ∷ []) zs

pub longer : {X : Type 0} (done : List X) (p : X) → length (done ++ p ∷ []) ≡ suc (length done)
longer [] p = refl
longer (d ∷ done) p = ap suc (longer done p)

pub at_end : {X : Type 0} (done : List X) (p : X) (ps : List X) (d : X) → slice_index_or (done ++ p ∷ ps) (length done) d ≡ p
at_end [] p ps d = refl
at_end (x ∷ done) p ps d = at_end done p ps d
