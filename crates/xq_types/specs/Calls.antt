-- The types of calls (own rule).
use Rattle.std.specs.Prelude.{◌+◌, List, [], ◌∷◌, Option, Some, None}
use Rattle.xq_base.specs.declared.fun.AtomKind.TheVariants as a
use Rattle.xq_base.specs.declared.fun.AtomKind.{AtomKind}
use Rattle.xq_base.specs.declared.fun.Fun.{Fun}
use Rattle.xq_base.specs.declared.fun.Fun.TheVariants as f
use Rattle.xq_base.specs.declared.fun.ItemKind.TheVariants as k
use Rattle.xq_types.specs.Kinds.{Kinds, only, node_kinds, either_kinds, atomised_kinds, as_numbers}
use Rattle.xq_types.specs.Types.{Typ, lesser_number, greater_number, empty_type, made, once_of}

abbrev pub Types : Type 0
Types = List Typ

-- one, two, three arguments
abbrev pub only_one : Types → Option Typ
only_one (t ∷ []) = Some t
only_one _ = None

abbrev pub only_two : Types → Option (Typ × Typ)
only_two (t ∷ u ∷ []) = Some (t, u)
only_two _ = None

abbrev pub only_three : Types → Option (Typ × Typ × Typ)
only_three (t ∷ u ∷ w ∷ []) = Some (t, u, w)
only_three _ = None

abbrev pub first_one : Types → Option Typ
first_one [] = None
first_one (t ∷ ts) = Some t

module _ {A : Type 0} where
  abbrev pub type_if : (A → Typ) → Option A → Typ
  type_if g None = empty_type
  type_if g (Some a) = g a

abbrev pub type_one : (Typ → Typ) → Types → Typ
type_one g ts = type_if g (only_one ts)

abbrev pub type_two : (Typ → Typ → Typ) → Types → Typ
type_two g ts = type_if (λ p. g p.0 p.1) (only_two ts)

abbrev pub type_three : (Typ → Typ → Typ → Typ) → Types → Typ
type_three g ts = type_if (λ p. g p.0 p.1 p.2) (only_three ts)

-- by the first argument
abbrev pub type_first : (Typ → Typ) → Types → Typ
type_first g ts = type_if g (first_one ts)

abbrev pub whole_type : Typ
whole_type = once_of (k.Atom a.Integer)

abbrev pub text_type : Typ
text_type = once_of (k.Atom a.Text)

abbrev pub bool_type : Typ
bool_type = once_of (k.Atom a.Boolean)

-- none where an operand is absent
abbrev pub maybe_one : Kinds → Typ → Typ
maybe_one ks t = made ks t.least 1

abbrev pub maybe_two : Kinds → Typ → Typ → Typ
maybe_two ks t u = made ks (lesser_number t.least u.least) 1

abbrev pub integers : Typ
integers = made (only (k.Atom a.Integer)) 0 2

abbrev pub atomised_type : Typ → Typ
atomised_type t = made (atomised_kinds t.kinds) t.least t.most

abbrev pub extreme_type : Typ → Typ
extreme_type t = made (as_numbers (atomised_kinds t.kinds)) t.least 1

abbrev pub part_type : Typ → Typ
part_type t = made t.kinds 0 2

abbrev pub node_set_type : Typ → Typ → Typ
node_set_type t u = made (either_kinds t.kinds u.kinds) 0 2

abbrev pub inserted_type : Typ → Typ → Typ → Typ
inserted_type t p u = made (either_kinds t.kinds u.kinds) (greater_number t.least u.least) (t.most + u.most)

abbrev pub sum_with : Option (Typ × Typ) → Typ
sum_with None = whole_type
sum_with (Some p) = made (either_kinds (only (k.Atom a.Integer)) (atomised_kinds p.1.kinds)) p.1.least 1

abbrev pub sum_type : Types → Typ
sum_type ts = sum_with (only_two ts)

abbrev pub cast_type : AtomKind → Typ → Typ
cast_type kind t = made (only (k.Atom kind)) t.least 1

abbrev pub fun_type : Fun → Types → Typ
fun_type f.Or ts = bool_type
fun_type f.And ts = bool_type
fun_type f.Eq ts = type_two (maybe_two (only (k.Atom a.Boolean))) ts
fun_type f.Ne ts = type_two (maybe_two (only (k.Atom a.Boolean))) ts
fun_type f.Lt ts = type_two (maybe_two (only (k.Atom a.Boolean))) ts
fun_type f.Le ts = type_two (maybe_two (only (k.Atom a.Boolean))) ts
fun_type f.Gt ts = type_two (maybe_two (only (k.Atom a.Boolean))) ts
fun_type f.Ge ts = type_two (maybe_two (only (k.Atom a.Boolean))) ts
fun_type f.GeneralEq ts = bool_type
fun_type f.GeneralNe ts = bool_type
fun_type f.GeneralLt ts = bool_type
fun_type f.GeneralLe ts = bool_type
fun_type f.GeneralGt ts = bool_type
fun_type f.GeneralGe ts = bool_type
fun_type f.Is ts = type_two (maybe_two (only (k.Atom a.Boolean))) ts
fun_type f.Before ts = type_two (maybe_two (only (k.Atom a.Boolean))) ts
fun_type f.After ts = type_two (maybe_two (only (k.Atom a.Boolean))) ts
fun_type f.To ts = integers
fun_type f.Add ts = type_two (maybe_two (only (k.Atom a.Integer))) ts
fun_type f.Subtract ts = type_two (maybe_two (only (k.Atom a.Integer))) ts
fun_type f.Multiply ts = type_two (maybe_two (only (k.Atom a.Integer))) ts
fun_type f.IntegerDivide ts = type_two (maybe_two (only (k.Atom a.Integer))) ts
fun_type f.Modulo ts = type_two (maybe_two (only (k.Atom a.Integer))) ts
fun_type f.Negate ts = type_one (maybe_one (only (k.Atom a.Integer))) ts
fun_type f.Union ts = type_two node_set_type ts
fun_type f.Intersect ts = type_two node_set_type ts
fun_type f.Except ts = type_two node_set_type ts
fun_type f.Doc ts = type_one (maybe_one (only k.Document)) ts
fun_type f.Root ts = type_one (maybe_one node_kinds) ts
fun_type f.Count ts = whole_type
fun_type f.Empty ts = bool_type
fun_type f.Exists ts = bool_type
fun_type f.Boolean ts = bool_type
fun_type f.Not ts = bool_type
fun_type f.True ts = bool_type
fun_type f.False ts = bool_type
fun_type f.StringOf ts = text_type
fun_type f.Data ts = type_one atomised_type ts
fun_type f.Name ts = text_type
fun_type f.LocalName ts = text_type
fun_type f.StringLength ts = whole_type
fun_type f.NormalizeSpace ts = text_type
fun_type f.Concat ts = text_type
fun_type f.StringJoin ts = text_type
fun_type f.Contains ts = bool_type
fun_type f.StartsWith ts = bool_type
fun_type f.EndsWith ts = bool_type
fun_type f.SubstringBefore ts = text_type
fun_type f.SubstringAfter ts = text_type
fun_type f.Substring ts = text_type
fun_type f.Translate ts = text_type
fun_type f.Compare ts = type_two (maybe_two (only (k.Atom a.Integer))) ts
fun_type f.Abs ts = type_one (maybe_one (only (k.Atom a.Integer))) ts
fun_type f.Sum ts = sum_type ts
fun_type f.Min ts = type_one extreme_type ts
fun_type f.Max ts = type_one extreme_type ts
fun_type f.DistinctValues ts = type_one atomised_type ts
fun_type f.IndexOf ts = integers
fun_type f.Reverse ts = type_one (λ t. t) ts
fun_type f.Subsequence ts = type_first part_type ts
fun_type f.InsertBefore ts = type_three inserted_type ts
fun_type f.Remove ts = type_first part_type ts
fun_type f.ZeroOrOne ts = type_one (λ t. made t.kinds t.least 1) ts
fun_type f.OneOrMore ts = type_one (λ t. made t.kinds 1 2) ts
fun_type f.ExactlyOne ts = type_one (λ t. made t.kinds 1 1) ts
fun_type f.Position ts = empty_type
fun_type f.Last ts = empty_type
fun_type f.Error ts = empty_type
fun_type f.XsInteger ts = type_one (cast_type a.Integer) ts
fun_type f.XsString ts = type_one (cast_type a.Text) ts
fun_type f.XsBoolean ts = type_one (cast_type a.Boolean) ts
fun_type f.XsUntypedAtomic ts = type_one (cast_type a.Untyped) ts
fun_type f.PathOrder ts = type_one (λ t. t) ts
fun_type f.ContentText ts = text_type
fun_type f.Atomize ts = type_one atomised_type ts
fun_type f.QName ts = text_type
fun_type f.PiTarget ts = text_type
fun_type (f.IsKind kind) ts = bool_type
fun_type (f.CastTo kind) ts = type_one (cast_type kind) ts
-- an external function gives one integer
fun_type (f.Extern term arity) ts = whole_type
