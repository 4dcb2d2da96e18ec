-- The binds of all clauses in one list.
use Rattle.std.proofs.Common.{◌≡◌, refl, sym, ap, ◌∙◌, ℕ, ◌+◌, ◌<◌, ◌≤◌, List, [], ◌∷◌, ◌++◌, length, drop, get_or}
use Rattle.std.proofs.lemmas.List.{drop_all}
use Rattle.core_meaning.specs.Erasure.{Texts}
use Rattle.core_scope.specs.Syn.{Binds, resolved}
use Rattle.core_normal.specs.declared.bind_refs.BindRef.{BindRef}
use Rattle.core_normal.specs.Binding.{bind_in, binds_in}
use Rattle.core_normal.proofs.Folding.{item_front}

binds_more : (t : Texts) (xs : List BindRef) (b : BindRef) (rest : Binds resolved) → binds_in t (xs ++ b ∷ []) rest ≡ binds_in t xs (bind_in t b rest)
binds_more t [] b rest = refl
binds_more t (x ∷ xs) b rest = ap (bind_in t x) (binds_more t xs b rest)

-- what a list of binds stands for, of which the first is taken
module _ {X : Type 0} where
  pub refs_turn : (t : Texts) (all : List X → Binds resolved) (xs : List X) (i : ℕ) (x : X) (out more : List BindRef) (b : BindRef) (w : Binds resolved) →
      i < length xs → x ≡ get_or xs i x → more ≡ out ++ b ∷ [] → ((ys : List X) → all (x ∷ ys) ≡ bind_in t b (all ys)) →
      binds_in t out (all (drop i xs)) ≡ w → binds_in t more (all (drop (i + 1) xs)) ≡ w
  refs_turn t all xs i x out more b w h is m law so =
      ap (λ l. binds_in t l (all (drop (i + 1) xs))) m ∙ binds_more t out b (all (drop (i + 1) xs))
      ∙ ap (binds_in t out) (sym (law (drop (i + 1) xs)) ∙ ap all (sym (item_front xs i x h is))) ∙ so

  pub refs_end : (t : Texts) (all : List X → Binds resolved) (xs : List X) (i : ℕ) (out : List BindRef) (w rest : Binds resolved) → length xs ≤ i → all [] ≡ rest →
      binds_in t out (all (drop i xs)) ≡ w → binds_in t out rest ≡ w
  refs_end t all xs i out w rest h n so = ap (binds_in t out) (sym n ∙ ap all (sym (drop_all i xs h))) ∙ so
