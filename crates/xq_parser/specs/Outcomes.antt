-- What a function that parses ensures: what reading gives, unless memory runs out (own rule).
use Rattle.std.specs.Prelude.{◌≡◌, ℕ, Bool, List, Option, Result, Ok, Err}
use Rattle.std.specs.declared.alloc.Global.{Global}
use denote.Ref.{Bor}
use Rattle.xq_ast.specs.declared.look.Due.{Due}
use Rattle.xq_ast.specs.declared.look.Due.TheVariants.{Named, Tag}
use Rattle.xq_ast.specs.declared.look.Look.{Look}
use Rattle.xq_ast.specs.declared.look.Look.TheVariants as k
use Rattle.xq_ast.specs.Bytes.{start}
use Rattle.xq_ast.specs.Look.{looks, look, end_at, syms, stands_one}
use Rattle.xq_ast.specs.Phrases.{deep, left_out}
use Rattle.xq_ast.specs.Rules.{many, make, ◌&◌}
use Rattle.xq_ast.specs.Trees.{Bytes, Name, Tree}
use Rattle.xq_ast.specs.Terminals.{Rule, text_at, name_at, string_at, if_ncname}
use Rattle.xq_ast.specs.Direct.{tag_name_at}
use Rattle.xq_ast.specs.Grammar.{language}
use Rattle.xq_parser.specs.declared.fault.ParseFault.{ParseFault}
use Rattle.xq_parser.specs.declared.fault.ParseFault.TheVariants.{NoMemory, Syntax, TooDeep, LeftOut}
use Rattle.xq_parser.specs.Parsers.{Outcome, Parser, syntax_fault, cut, take_, cuts, has, ◌>>=◌}
use Rattle.xq_parser.specs.Reading as reading
use Rattle.xq_parser.specs.Nested.{nested}

-- a fault in Rust is this one of reading; want of memory is free
abbrev pub Fails : {A : Type 0} → Outcome A → ParseFault → Type 0
Fails outcome NoMemory = Unit {0}
Fails outcome Syntax = outcome ≡ Err syntax_fault
Fails outcome (TooDeep place) = outcome ≡ Err (cut deep place)
Fails outcome (LeftOut place) = outcome ≡ Err (cut left_out place)

-- a value and the place after it
abbrev pub Gives : {A : Type 0} → Outcome A → Result (A × ℕ) ParseFault → Type 0
Gives outcome (Ok x) = outcome ≡ Ok (x.0, x.1)
Gives outcome (Err e) = Fails outcome e

-- the place after what has no value
abbrev pub Passes : Outcome (Unit {0}) → Result ℕ ParseFault → Type 0
Passes outcome (Ok to) = outcome ≡ Ok (tt, to)
Passes outcome (Err e) = Fails outcome e

-- how a rule is read whose parts nest so many levels
abbrev pub read : {A : Type 0} → List ℕ → ℕ → Rule A → Parser A
read text d r = reading.read nested language text d r

abbrev pub single_reads : List ℕ → ℕ → Parser Tree
single_reads text d = reading.single_reads nested language text d

abbrev pub element_reads : List ℕ → ℕ → Parser Tree
element_reads text d = reading.element_reads nested language text d

-- as a rule says whose parts nest so many levels
abbrev pub Reads : {A : Type 0} → List ℕ → ℕ → Rule A → ℕ → Result (A × ℕ) ParseFault → Type 0
Reads text d r at result = Gives (read text d r at) result

-- the same for a rule without value
abbrev pub ReadsPast : List ℕ → ℕ → Rule (Unit {0}) → ℕ → Result ℕ ParseFault → Type 0
ReadsPast text d r at result = Passes (read text d r at) result

-- the parts of a chain that follow the first
abbrev pub more : {O A B : Type 0} → (O → A → B) → Rule O → Rule A → Rule (List B)
more k r s = many (make k & r & s)

-- function values that parse to a depth
pub record Nests (d : ℕ)
    (pre_single : Global → Bor (List ℕ) → ℕ → ℕ → Type 0) (post_single : Global → Bor (List ℕ) → ℕ → ℕ → Result (Tree × ℕ) ParseFault → Type 0)
    (pre_elem : Global → Bor (List ℕ) → ℕ → ℕ → Type 0) (post_elem : Global → Bor (List ℕ) → ℕ → ℕ → Result (Tree × ℕ) ParseFault → Type 0) : Type 0 where
  pub single_callable : (alloc : Global) (t : Bor (List ℕ)) (at : ℕ) → pre_single alloc t at d
  pub elem_callable : (alloc : Global) (t : Bor (List ℕ)) (at : ℕ) → pre_elem alloc t at d
  pub single_read : (alloc : Global) (t : Bor (List ℕ)) (at : ℕ) (x : Result (Tree × ℕ) ParseFault) → post_single alloc t at d x → Gives (single_reads t.now d at) x
  pub elem_read : (alloc : Global) (t : Bor (List ℕ)) (at : ℕ) (x : Result (Tree × ℕ) ParseFault) → post_elem alloc t at d x → Gives (element_reads t.now d at) x

-- a sign or a word
abbrev pub reads_sign : List ℕ → Due → Look → Parser (Unit {0})
reads_sign text due kind = take_ (looks text due kind) (λ _. tt) (end_at text due)

-- one of these, by its class
abbrev pub reads_class : List ℕ → Due → List Look → Parser Look
reads_class text due ks = take_ (stands_one text (syms due ks)) (look text due) (end_at text due)

-- the bytes of a token
abbrev pub reads_text : List ℕ → Due → Look → Parser Bytes
reads_text text due kind = take_ (looks text due kind) (text_at due text) (end_at text due)

-- a token with its offset
abbrev pub reads_name : List ℕ → Due → Look → Parser Name
reads_name text due kind = take_ (looks text due kind) (name_at due text) (end_at text due)

-- a name without a colon
abbrev pub reads_ncname : List ℕ → Parser Name
reads_ncname text = reads_name text Named k.Name >>= λ x. has (if_ncname x)

-- the value of a string, with its offset
abbrev pub reads_string : List ℕ → Due → Parser Name
reads_string text due = take_ (looks text due k.Quoted) (string_at due text) (end_at text due)

-- a name in a tag
abbrev pub reads_tag_name : List ℕ → Parser Name
reads_tag_name text = take_ (looks text Tag k.Name) (tag_name_at text) (end_at text Tag)

-- no part, but a cut where one of these stands
abbrev pub reads_left : {A : Type 0} → List ℕ → Due → List Look → Parser A
reads_left text due ks = cuts left_out (start text) (stands_one text (syms due ks))
