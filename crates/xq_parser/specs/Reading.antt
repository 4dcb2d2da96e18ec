-- The test that one token decides everywhere, and how a rule that passes it is read from left to right.
use Rattle.std.specs.Prelude.{ℕ, zero, suc, Bool, true, false, not, ◌&&◌, ◌||◌, ◌==◌, List, [], ◌∷◌, ◌++◌, Option, None, length}
use Rattle.xq_ast.specs.declared.look.Due.{Due}
use Rattle.xq_ast.specs.Codes.{code, due_code}
use Rattle.xq_ast.specs.Look.{Sym, stands_one}
use Rattle.xq_ast.specs.Rules.{Rule, make, told, stands, apply, before, fit, many, maybe, chain, either, prefer, cut, single, element, Ends, stays, blanks, behind, ends_at, Language}
use Rattle.xq_parser.specs.Parsers as reads_
use Rattle.xq_parser.specs.Parsers.{Parser, ◌>>=◌, ◌>>◌}

abbrev pub when : Bool → List Sym → List Sym
when true ss = ss
when false ss = []

-- what stands there is a token or a piece
abbrev pub is_real : Sym → Bool
is_real s = not (code s.kind == 0) && (not (code s.kind == 1) && not (code s.kind == 2))

abbrev pub all_real : List Sym → Bool
all_real [] = true
all_real (s ∷ ss) = is_real s && all_real ss

abbrev pub all_in : Due → List Sym → Bool
all_in due [] = true
all_in due (s ∷ ss) = (due_code s.due == due_code due) && all_in due ss

-- where the one stands, the other doesn't
abbrev pub differs : Sym → Sym → Bool
differs s t = (due_code s.due == due_code t.due) && not (code s.kind == code t.kind)

abbrev pub differs_all : Sym → List Sym → Bool
differs_all s [] = true
differs_all s (t ∷ ts) = differs s t && differs_all s ts

abbrev pub apart : List Sym → List Sym → Bool
apart [] ts = true
apart (s ∷ ss) ts = differs_all s ts && apart ss ts

abbrev pub is_one : Sym → List Sym → Bool
is_one s [] = false
is_one s (t ∷ ts) = ((due_code s.due == due_code t.due) && (code s.kind == code t.kind)) || is_one s ts

abbrev pub inside_of : List Sym → List Sym → Bool
inside_of [] ts = true
inside_of (s ∷ ss) ts = is_one s ts && inside_of ss ts

abbrev pub good_end : List Sym → Ends → Bool
good_end ss stays = true
good_end ss blanks = true
good_end ss (behind due) = all_in due ss && all_real ss

-- what begins an ExprSingle and an element, and what may not stand behind them
pub record Nested : Type 0 where
  pub single_begins : List Sym
  pub single_stops : List Sym
  pub element_begins : List Sym
  pub element_stops : List Sym

module _ {S E : Type 0} (nested : Nested) where
  -- may take nothing
  abbrev pub empty : {A : Type 0} → Rule S E A → Bool
  empty (make a) = true
  empty (told f) = true
  empty (stands ss end value) = false
  empty (apply r s) = empty r && empty s
  empty (before r s) = empty r && empty s
  empty (fit f r) = empty r
  empty (many r) = true
  empty (maybe r) = true
  empty (chain f k op r) = empty r && true
  empty (either ss r s) = empty s
  empty (prefer ss r s) = empty r || empty s
  empty (cut why ss at) = false
  empty single = false
  empty element = false

  -- what it begins with
  abbrev pub begins : {A : Type 0} → Rule S E A → List Sym
  begins (make a) = []
  begins (told f) = []
  begins (stands ss end value) = ss
  begins (apply r s) = begins r ++ (when (empty r) (begins s))
  begins (before r s) = begins r ++ (when (empty r) (begins s))
  begins (fit f r) = begins r
  begins (many r) = begins r
  begins (maybe r) = begins r
  begins (chain f k op r) = begins r ++ when (empty r) (begins op ++ when (empty op) (begins r))
  begins (either ss r s) = ss ++ begins s
  begins (prefer ss r s) = begins r ++ begins s
  begins (cut why ss at) = ss
  begins single = nested.single_begins
  begins element = nested.element_begins

  -- what may not stand behind it
  abbrev pub stops : {A : Type 0} → Rule S E A → List Sym
  stops (make a) = []
  stops (told f) = []
  stops (stands ss end value) = []
  stops (apply r s) = stops s ++ when (empty s) (stops r)
  stops (before r s) = stops s ++ when (empty s) (stops r)
  stops (fit f r) = stops r
  stops (many r) = begins r ++ stops r
  stops (maybe r) = begins r ++ stops r
  stops (chain f k op r) = ((begins op ++ when (empty op) (begins r)) ++ (stops r ++ when (empty r) (stops op ++ when (empty op) []))) ++ (stops r ++ when (empty r) [])
  stops (either ss r s) = stops r ++ (stops s ++ when (empty s) ss)
  stops (prefer ss r s) = stops r ++ stops s
  stops (cut why ss at) = []
  stops single = nested.single_stops
  stops element = nested.element_stops

  -- takes some of the text
  abbrev pub moves : {A : Type 0} → Rule S E A → Bool
  moves (make a) = false
  moves (told f) = false
  moves (stands ss stays value) = false
  moves (stands ss blanks value) = false
  moves (stands ss (behind due) value) = true
  moves (apply r s) = moves r || moves s
  moves (before r s) = moves r || moves s
  moves (fit f r) = moves r
  moves (many r) = false
  moves (maybe r) = false
  moves (chain f k op r) = moves r
  moves (either ss r s) = moves r && moves s
  moves (prefer ss r s) = moves r && moves s
  moves (cut why ss at) = true
  moves single = true
  moves element = true

  -- one token decides everywhere
  abbrev pub good : {A : Type 0} → Rule S E A → Bool
  good (make a) = true
  good (told f) = true
  good (stands ss end value) = good_end ss end
  good (apply r s) = good r && good s && apart (begins s) (stops r)
  good (before r s) = good r && good s && apart (begins s) (stops r)
  good (fit f r) = good r
  good (many r) = good r && (not (empty r) && (moves r && (apart (begins r) (stops r) && all_real (begins r))))
  good (maybe r) = good r && not (empty r)
  good (chain f k op r) =
      good r && (good op && (apart (begins r) [] && (apart (begins op) [] && (apart (begins r) (stops op ++ when (empty op) []) && (not (empty op && empty r) && ((moves op || moves r)
      && (apart (begins op ++ when (empty op) (begins r)) (stops r ++ when (empty r) (stops op ++ when (empty op) [])) && (all_real (begins op ++ when (empty op) (begins r))
      && apart (begins op ++ when (empty op) (begins r)) (stops r ++ when (empty r) [])))))))))
  good (either ss r s) = good r && (good s && (not (empty r) && (inside_of (begins r) ss && apart (begins s) ss)))
  good (prefer ss r s) = good r && good s
  good (cut why ss at) = true
  good single = true
  good element = true

-- how a rule is read, from how the nested parts are read
module _ {S E : Type 0} (nested : Nested) (text : List ℕ) (read_single : Parser S) (read_element : Parser E) where
  abbrev pub reads : {A : Type 0} → Rule S E A → Parser A
  reads (make a) = reads_.give a
  reads (told f) = reads_.tell (f text)
  reads (stands ss end value) = reads_.take_ (stands_one text ss) (value text) (ends_at text end)
  reads (apply r s) = reads r >>= λ f. reads s >>= λ a. reads_.give (f a)
  reads (before r s) = reads r >>= λ a. reads s >> reads_.give a
  reads (fit f r) = reads r >>= λ a. reads_.has (f a)
  reads (many r) = reads_.many_from (stands_one text (begins nested r)) (reads r) (length text) []
  reads (maybe r) = reads_.some_of (stands_one text (begins nested r)) (reads r)
  reads (chain f k op r) =
      (reads_.give f >>= λ g. reads r >>= λ a. reads_.give (g a))
      >>= λ g. reads_.many_from (stands_one text (begins nested op ++ when (empty nested op) (begins nested r))) ((reads_.give k >>= λ h. reads op >>= λ o. reads_.give (h o)) >>= λ h. reads r >>= λ a. reads_.give (h a)) (length text) []
      >>= λ bs. reads_.give (g bs)
  reads (either ss r s) = reads_.choose (stands_one text ss) (reads r) (reads s)
  reads (prefer ss r s) = reads_.choose (stands_one text ss) (reads r) (reads s)
  reads (cut why ss at) = reads_.cuts why (ends_at text at) (stands_one text ss)
  reads single = read_single
  reads element = read_element

module _ {S E : Type 0} (nested : Nested) (l : Language S E) (text : List ℕ) where
  unfoldable mutual
    -- so many levels may nest
    pub single_reads : ℕ → Parser S
    single_reads zero = reads nested text (reads_.has None) (reads_.has None) l.no_level
    single_reads (suc d) = reads nested text (single_reads d) (element_reads d) l.level

    pub element_reads : ℕ → Parser E
    element_reads zero = reads nested text (reads_.has None) (reads_.has None) l.no_inner
    element_reads (suc d) = reads nested text (single_reads d) (element_reads d) l.inner

  abbrev pub read : {A : Type 0} → ℕ → Rule S E A → Parser A
  read d r = reads nested text (single_reads d) (element_reads d) r

-- the test of a nested rule
abbrev pub fits : {S E A : Type 0} → Nested → Rule S E A → List Sym → List Sym → Bool
fits nested r begins_ stops_ = good nested r && (moves nested r && (not (empty nested r) && (inside_of (begins nested r) begins_ && inside_of (stops nested r) stops_)))

abbrev pub all_good : {S E : Type 0} → Nested → Language S E → Bool
all_good nested l =
    fits nested l.level nested.single_begins nested.single_stops
    && (fits nested l.no_level nested.single_begins nested.single_stops
    && (fits nested l.inner nested.element_begins nested.element_stops
    && fits nested l.no_inner nested.element_begins nested.element_stops))
