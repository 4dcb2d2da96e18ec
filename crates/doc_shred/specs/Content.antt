-- Elements and their content, by the tree that they stand for (XML 1.0, section 3).
use Rattle.std.specs.Prelude.{◌≡◌, ℕ, true, false, List, [], ◌∷◌, ◌⊎◌}
use Rattle.doc_table.specs.Tree.{OfDocument, OfElement, OfAttribute, OfText, OfComment, OfInstruction, Tree, Forest, Branch, no_more, one_more}
use Rattle.doc_shred.specs.Markup.{comment, instruction, start, end_tag, text_run}

abbrev pub Text : Type 0
Text = List ℕ

-- a list that isn't empty
abbrev pub Filled : Text → Type 0
Filled [] = ⊥
Filled (c ∷ cs) = Unit {0}

-- STag content ETag, where the two names agree (section 3, production 39)
pub record IsPaired (name : Text) (attributes : List (Text × Text)) (Inside : List ℕ → List ℕ → Type 0) (from rest : List ℕ) : Type 0 where
  pub inside : List ℕ
  pub after : List ℕ
  pub opened : start from inside (record { name = name; attributes = attributes; is_empty = false })
  pub content : Inside inside after
  pub closed : end_tag after rest name

-- one part, and then what else there is
pub record IsFollowed (First Others : List ℕ → List ℕ → Type 0) (from rest : List ℕ) : Type 0 where
  pub mid : List ℕ
  pub first : First from mid
  pub others : Others mid rest

-- element ::= EmptyElemTag | STag content ETag (section 3, production 39)
abbrev pub IsElement : Text → List (Text × Text) → Forest Text → (List ℕ → List ℕ → Type 0) → List ℕ → List ℕ → Type 0
IsElement name attributes kids Inside from rest =
    (start from rest (record { name = name; attributes = attributes; is_empty = true }) × (kids ≡ no_more))
    ⊎ IsPaired name attributes Inside from rest

-- content ::= (element | CharData | Reference | CDSect | PI | Comment)* (section 3.1, production 43). The characters between
-- two pieces of other markup are one text node, unless there are none.
abbrev mutual
  -- a node that isn't a text
  pub IsNode : Tree Text → List ℕ → List ℕ → Type 0
  IsNode (Branch OfDocument kids) from rest = ⊥
  IsNode (Branch (OfElement name attributes) kids) from rest = IsElement name attributes kids (IsContent kids) from rest
  IsNode (Branch (OfAttribute name value) kids) from rest = ⊥
  IsNode (Branch (OfText value) kids) from rest = ⊥
  IsNode (Branch (OfComment value) kids) from rest = comment from rest value × (kids ≡ no_more)
  IsNode (Branch (OfInstruction name value) kids) from rest = instruction from rest (name, value) × (kids ≡ no_more)

  -- nodes, where characters may come first
  pub IsContent : Forest Text → List ℕ → List ℕ → Type 0
  IsContent no_more from rest = text_run from rest []
  IsContent (one_more t ts) from rest = IsFirst t (IsNode t) (IsContent ts) (AreMarked ts) from rest

  -- nodes, where the characters have been read
  pub AreMarked : Forest Text → List ℕ → List ℕ → Type 0
  AreMarked no_more from rest = from ≡ rest
  AreMarked (one_more t ts) from rest = IsFollowed (IsNode t) (IsContent ts) from rest

  -- a text node, or no characters and another node
  pub IsFirst : Tree Text → (List ℕ → List ℕ → Type 0) → (List ℕ → List ℕ → Type 0) → (List ℕ → List ℕ → Type 0) → List ℕ → List ℕ → Type 0
  IsFirst (Branch (OfText value) kids) Node Others Marked from rest = Filled value × (kids ≡ no_more) × IsFollowed (λ a b. text_run a b value) Marked from rest
  IsFirst (Branch OfDocument kids) Node Others Marked from rest = IsFollowed (λ a b. text_run a b []) (IsFollowed Node Others) from rest
  IsFirst (Branch (OfElement name attributes) kids) Node Others Marked from rest = IsFollowed (λ a b. text_run a b []) (IsFollowed Node Others) from rest
  IsFirst (Branch (OfAttribute name value) kids) Node Others Marked from rest = IsFollowed (λ a b. text_run a b []) (IsFollowed Node Others) from rest
  IsFirst (Branch (OfComment value) kids) Node Others Marked from rest = IsFollowed (λ a b. text_run a b []) (IsFollowed Node Others) from rest
  IsFirst (Branch (OfInstruction name value) kids) Node Others Marked from rest = IsFollowed (λ a b. text_run a b []) (IsFollowed Node Others) from rest
