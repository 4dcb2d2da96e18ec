-- The words of the command line, as their bytes (own rule).
use Rattle.std.specs.Prelude.{ℕ, zero, suc, ◌≡◌, List, [], ◌∷◌, codes}
use Rattle.xq_base.specs.Distinct.{AllDiffer}

-- the words are `run`, a query and documents, no two of which are the same word
pub record AreWords (words : List (List ℕ)) (query : List ℕ) (names : List (List ℕ)) : Type 0 where
  pub all : words ≡ codes "run" ∷ query ∷ names
  pub different : AllDiffer names

abbrev pub InForm : List (List ℕ) → Type 0
InForm words = (query : List ℕ) × (names : List (List ℕ)) × AreWords words query names

-- a word by its place
abbrev pub word_at : List (List ℕ) → ℕ → List ℕ
word_at [] k = []
word_at (w ∷ ws) zero = w
word_at (w ∷ ws) (suc k) = word_at ws k

-- the place of the query's word
abbrev pub query_place : ℕ
query_place = 1

-- the place of the first document's word
abbrev pub first_place : ℕ
first_place = 2

-- the most documents
abbrev pub most_documents : ℕ
most_documents = 16
