-- The built-in functions (XQuery 1.0 and XPath 2.0 Functions and Operators), with the numbers of arguments that they take.
use Rattle.std.specs.Prelude.{ℕ, Bool, true, ◌&&◌, cond, List, [], ◌∷◌, Option, Some, None, codes, nat_le}
use Rattle.xq_base.specs.declared.fun.Fun.{Fun}
use Rattle.xq_base.specs.declared.fun.Fun.TheVariants as f
use Rattle.xq_base.specs.Texts.{Text, text_eq}

-- a function: its name without `fn:`, the least number of arguments, and the greatest, if there is one
pub record BuiltIn : Type 0 where
  pub name : Text
  pub least : ℕ
  pub greatest : Option ℕ
  pub fun : Fun

abbrev pub exactly : Text → ℕ → Fun → BuiltIn
exactly x n g = record { name = x; least = n; greatest = Some n; fun = g }

abbrev pub between : Text → ℕ → ℕ → Fun → BuiltIn
between x m n g = record { name = x; least = m; greatest = Some n; fun = g }

abbrev pub at_least : Text → ℕ → Fun → BuiltIn
at_least x n g = record { name = x; least = n; greatest = None; fun = g }

-- on documents and nodes (sections 2 and 14)
abbrev pub node_functions : List BuiltIn
node_functions =
    exactly (codes "doc") 1 f.Doc
    ∷ between (codes "root") 0 1 f.Root
    ∷ between (codes "string") 0 1 f.StringOf
    ∷ exactly (codes "data") 1 f.Data
    ∷ between (codes "name") 0 1 f.Name
    ∷ between (codes "local-name") 0 1 f.LocalName
    ∷ []

-- on truth values and numbers of items (sections 9 and 15)
abbrev pub truth_functions : List BuiltIn
truth_functions =
    exactly (codes "count") 1 f.Count
    ∷ exactly (codes "empty") 1 f.Empty
    ∷ exactly (codes "exists") 1 f.Exists
    ∷ exactly (codes "boolean") 1 f.Boolean
    ∷ exactly (codes "not") 1 f.Not
    ∷ exactly (codes "true") 0 f.True
    ∷ exactly (codes "false") 0 f.False
    ∷ []

-- on texts (sections 7.4 and 7.5)
abbrev pub text_functions : List BuiltIn
text_functions =
    between (codes "string-length") 0 1 f.StringLength
    ∷ between (codes "normalize-space") 0 1 f.NormalizeSpace
    ∷ at_least (codes "concat") 2 f.Concat
    ∷ exactly (codes "string-join") 2 f.StringJoin
    ∷ exactly (codes "contains") 2 f.Contains
    ∷ exactly (codes "starts-with") 2 f.StartsWith
    ∷ exactly (codes "ends-with") 2 f.EndsWith
    ∷ []

-- on parts of texts (sections 7.3 to 7.5)
abbrev pub part_functions : List BuiltIn
part_functions =
    exactly (codes "substring-before") 2 f.SubstringBefore
    ∷ exactly (codes "substring-after") 2 f.SubstringAfter
    ∷ between (codes "substring") 2 3 f.Substring
    ∷ exactly (codes "translate") 3 f.Translate
    ∷ exactly (codes "compare") 2 f.Compare
    ∷ []

-- on numbers (sections 6.4 and 15.4)
abbrev pub number_functions : List BuiltIn
number_functions =
    exactly (codes "abs") 1 f.Abs
    ∷ between (codes "sum") 1 2 f.Sum
    ∷ exactly (codes "min") 1 f.Min
    ∷ exactly (codes "max") 1 f.Max
    ∷ []

-- on sequences (section 15.1)
abbrev pub sequence_functions : List BuiltIn
sequence_functions =
    exactly (codes "distinct-values") 1 f.DistinctValues
    ∷ exactly (codes "index-of") 2 f.IndexOf
    ∷ exactly (codes "reverse") 1 f.Reverse
    ∷ between (codes "subsequence") 2 3 f.Subsequence
    ∷ exactly (codes "insert-before") 3 f.InsertBefore
    ∷ exactly (codes "remove") 2 f.Remove
    ∷ []

-- on numbers of items, on the context, and errors (sections 3, 15.2 and 16)
abbrev pub context_functions : List BuiltIn
context_functions =
    exactly (codes "zero-or-one") 1 f.ZeroOrOne
    ∷ exactly (codes "one-or-more") 1 f.OneOrMore
    ∷ exactly (codes "exactly-one") 1 f.ExactlyOne
    ∷ exactly (codes "position") 0 f.Position
    ∷ exactly (codes "last") 0 f.Last
    ∷ exactly (codes "error") 0 f.Error
    ∷ []

-- with the names of types (section 5)
abbrev pub type_functions : List BuiltIn
type_functions =
    exactly (codes "xs:integer") 1 f.XsInteger
    ∷ exactly (codes "xs:string") 1 f.XsString
    ∷ exactly (codes "xs:boolean") 1 f.XsBoolean
    ∷ exactly (codes "xs:untypedAtomic") 1 f.XsUntypedAtomic
    ∷ []

abbrev pub is_within : ℕ → Option ℕ → Bool
is_within n None = true
is_within n (Some m) = nat_le n m

-- whether a function has a name and takes a number of arguments
abbrev pub is_of : BuiltIn → Text → ℕ → Bool
is_of b x n = text_eq b.name x && nat_le b.least n && is_within n b.greatest

-- the first such function
abbrev pub found_in : List BuiltIn → Text → ℕ → Option Fun
found_in [] x n = None
found_in (b ∷ bs) x n = cond (is_of b x n) (Some b.fun) (found_in bs x n)

abbrev pub or_else : Option Fun → Option Fun → Option Fun
or_else None other = other
or_else (Some f) other = Some f

-- the function of this name and number of arguments
abbrev pub built_in : Text → ℕ → Option Fun
built_in x n =
    or_else (found_in node_functions x n) (or_else (found_in truth_functions x n) (or_else (found_in text_functions x n) (or_else (found_in part_functions x n)
    (or_else (found_in number_functions x n) (or_else (found_in sequence_functions x n) (or_else (found_in context_functions x n) (found_in type_functions x n)))))))
