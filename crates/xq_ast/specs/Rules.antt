-- The rules of a grammar as data, and what they mean. S and E are what nests: the tree of an ExprSingle and of a direct element.
use Rattle.std.specs.Prelude.{ℕ, zero, suc, Bool, List, Option, None}
use Rattle.xq_ast.specs.declared.look.Due.{Due}
use Rattle.xq_ast.specs.Bytes.{start}
use Rattle.xq_ast.specs.Look.{Sym, stands_one, end_at}
use Rattle.xq_ast.specs.Phrases.{Why, Phrase}
use Rattle.xq_ast.specs.Phrases as means_

-- where a thing ends
pub data Ends : Type 0 where
  stays : Ends
  blanks : Ends
  behind : Due → Ends

pub data Rule (S E : Type 0) : Type 0 → Type 1 where
  -- nothing, with this value
  make : {A : Type 0} → A → Rule S E A
  -- nothing, with a value of the text and the place
  told : {A : Type 0} → (List ℕ → ℕ → A) → Rule S E A
  -- one of these, with a value of the text and the place
  stands : {A : Type 0} → List Sym → Ends → (List ℕ → ℕ → A) → Rule S E A
  -- a part that takes the next, and that
  apply : {A B : Type 0} → Rule S E (A → B) → Rule S E A → Rule S E B
  -- a part, and then one without value
  before : {A B : Type 0} → Rule S E A → Rule S E B → Rule S E A
  -- a part that has this value
  fit : {A B : Type 0} → (A → Option B) → Rule S E A → Rule S E B
  many : {A : Type 0} → Rule S E A → Rule S E (List A)
  maybe : {A : Type 0} → Rule S E A → Rule S E (Option A)
  -- a part, and any number of them that each follow an operator
  chain : {A B C O : Type 0} → (A → List B → C) → (O → A → B) → Rule S E O → Rule S E A → Rule S E C
  -- the first, which begins with one of these, or the second
  either : {A : Type 0} → List Sym → Rule S E A → Rule S E A → Rule S E A
  -- the first where one of these stands, elsewhere the second
  prefer : {A : Type 0} → List Sym → Rule S E A → Rule S E A → Rule S E A
  -- no part; a derivation is cut here where one of these stands
  cut : {A : Type 0} → Why → List Sym → Ends → Rule S E A
  -- what nests
  single : Rule S E S
  element : Rule S E E

abbrev pub ends_at : List ℕ → Ends → ℕ → ℕ
ends_at text stays at = at
ends_at text blanks at = start text at
ends_at text (behind due) at = end_at text due at

-- what a rule means, from what the nested parts mean
module _ {S E : Type 0} (text : List ℕ) (nested_single : Phrase S) (nested_element : Phrase E) where
  abbrev pub means : {A : Type 0} → Rule S E A → Phrase A
  means (make a) = means_.gives a
  means (told f) = means_.told (f text)
  means (stands ss end value) = means_.stands (stands_one text ss) (value text) (ends_at text end)
  means (apply r s) = means_.applied (means r) (means s)
  means (before r s) = means_.followed (means r) (means s)
  means (fit f r) = means_.fitting f (means r)
  means (many r) = means_.many (means r)
  means (maybe r) = means_.maybe (means r)
  means (chain f k op r) = means_.applied (means_.applied (means_.gives f) (means r)) (means_.many (means_.applied (means_.applied (means_.gives k) (means op)) (means r)))
  means (either ss r s) = means_.one_of (means r) (means s)
  means (prefer ss r s) = means_.choice (stands_one text ss) (means r) (means s)
  means (cut why ss at) = means_.cut_where why (ends_at text at) (stands_one text ss)
  means single = nested_single
  means element = nested_element

-- Reading goes on.
infixl 10 ◌&◌
abbrev pub ◌&◌ : {S E A B : Type 0} → Rule S E (A → B) → Rule S E A → Rule S E B
r & s = apply r s

infixl 10 ◌◁◌
abbrev pub ◌◁◌ : {S E A B : Type 0} → Rule S E A → Rule S E B → Rule S E A
r ◁ s = before r s

-- the value of the second
infixl 10 ◌▷◌
abbrev pub ◌▷◌ : {S E A B : Type 0} → Rule S E A → Rule S E B → Rule S E B
r ▷ s = make (λ x. x) ◁ r & s

-- the rules of what nests, and what stands for them where a level too many is due
pub record Language (S E : Type 0) : Type 1 where
  pub level : Rule S E S
  pub no_level : Rule S E S
  pub inner : Rule S E E
  pub no_inner : Rule S E E

module _ {S E : Type 0} (l : Language S E) (text : List ℕ) where
  unfoldable mutual
    -- so many levels may nest
    pub single_is : ℕ → Phrase S
    single_is zero = means text (means_.has None) (means_.has None) l.no_level
    single_is (suc d) = means text (single_is d) (element_is d) l.level

    pub element_is : ℕ → Phrase E
    element_is zero = means text (means_.has None) (means_.has None) l.no_inner
    element_is (suc d) = means text (single_is d) (element_is d) l.inner

  abbrev pub is : {A : Type 0} → ℕ → Rule S E A → Phrase A
  is d r = means text (single_is d) (element_is d) r
