-- The columns of each operator, and which operators fit behind which (own rule).
use Rattle.std.specs.Prelude.{ℕ, ◌+◌, ◌<◌, Bool, true, false, cond, not, ◌&&◌, ◌||◌, List, [], ◌∷◌, ◌++◌, length, map, Option, Some, None, nat_eq, nat_lt, nat_le, slice_index_or}
use Rattle.std.specs.List.{list_all, list_any}
use Rattle.xq_base.specs.declared.fun.Fun.{Fun}
use Rattle.xq_base.specs.declared.fun.Fun.TheVariants as f
use Rattle.plan_dag.specs.declared.cols.Col.{Col}
use Rattle.plan_dag.specs.declared.keys.Key.{Key}
use Rattle.plan_dag.specs.declared.pairs.Pair.{Pair}
use Rattle.plan_dag.specs.declared.op.OpId.{OpId}
use Rattle.plan_dag.specs.declared.op.Op.{Op}
use Rattle.plan_dag.specs.declared.op.Op.TheVariants as o
use Rattle.plan_dag.specs.Padded.{col_eq}

-- the columns of an operator over inputs with these columns
abbrev pub columns_of : Op → List Col → List Col → List Col
columns_of (o.Unit c) l r = c ∷ []
columns_of (o.Empty cs) l r = cs
columns_of (o.Project i ps) l r = map (λ p. p.new) ps
columns_of (o.Attach i c v) l r = l ++ c ∷ []
columns_of (o.Select i c) l r = l
columns_of (o.Join i j a b) l r = l ++ r
columns_of (o.Union i j) l r = l
columns_of (o.Difference i j a b) l r = l
columns_of (o.Distinct i cs) l r = l
columns_of (o.Rownum i c ks part) l r = l ++ c ∷ []
columns_of (o.Count i g c) l r = g ∷ c ∷ []
columns_of (o.Aggregate i agg g v c) l r = g ∷ c ∷ []
columns_of (o.AggregateFails i agg code g v) l r = g ∷ []
columns_of (o.Map i fun as' c) l r = l ++ c ∷ []
columns_of (o.MapFails i fun code as') l r = l
columns_of (o.Range i a b c) l r = l ++ c ∷ []
columns_of (o.ExistsCompare i j op a v b w) l r = a ∷ []
columns_of (o.CompareFails i j op code a v b w) l r = a ∷ []
columns_of (o.Step i axis _ site offset it n) l r = it ∷ n ∷ []
columns_of (o.Element i j site it p v) l r = it ∷ v ∷ []
columns_of (o.Attribute i j site it p v) l r = it ∷ v ∷ []
columns_of (o.Pi i j site it p v) l r = it ∷ v ∷ []
columns_of (o.Text i j site it p v) l r = it ∷ v ∷ []
columns_of (o.Comment i j site it p v) l r = it ∷ v ∷ []
columns_of (o.Document i j site it p v) l r = it ∷ v ∷ []
columns_of (o.ContentFails j place code it p v) l r = it ∷ []

-- the columns of the operator of a number, where these are the columns of all
abbrev pub cols_at : List (List Col) → OpId → List Col
cols_at schemas i = slice_index_or schemas i.0 []

abbrev pub has_col : List Col → Col → Bool
has_col cs c = list_any (λ k. col_eq k c) cs

abbrev pub has_cols : List Col → List Col → Bool
has_cols cs ds = list_all (λ d. has_col cs d) ds

-- a new column is new
abbrev pub lacks : List Col → Col → Bool
lacks cs c = not (has_col cs c)

abbrev pub part_cols : Option Col → List Col
part_cols None = []
part_cols (Some c) = c ∷ []

-- the columns that an operator names of its first input, and of its second
abbrev pub named_first : Op → List Col
named_first (o.Unit c) = []
named_first (o.Empty cs) = []
named_first (o.Project i ps) = map (λ p. p.old) ps
named_first (o.Attach i c v) = []
named_first (o.Select i c) = c ∷ []
named_first (o.Join i j a b) = a ∷ []
named_first (o.Union i j) = []
named_first (o.Difference i j a b) = a ∷ []
named_first (o.Distinct i cs) = cs
named_first (o.Rownum i c ks part) = map (λ k. k.col) ks ++ part_cols part
named_first (o.Count i g c) = g ∷ []
named_first (o.Aggregate i agg g v c) = g ∷ v ∷ []
named_first (o.AggregateFails i agg code g v) = g ∷ v ∷ []
named_first (o.Map i fun as' c) = as'
named_first (o.MapFails i fun code as') = as'
named_first (o.Range i a b c) = a ∷ b ∷ []
named_first (o.ExistsCompare i j op a v b w) = a ∷ v ∷ []
named_first (o.CompareFails i j op code a v b w) = a ∷ v ∷ []
named_first (o.Step i axis _ site offset it n) = it ∷ n ∷ []
named_first (o.Element i j site it p v) = it ∷ v ∷ []
named_first (o.Attribute i j site it p v) = it ∷ v ∷ []
named_first (o.Pi i j site it p v) = it ∷ v ∷ []
named_first (o.Text i j site it p v) = it ∷ []
named_first (o.Comment i j site it p v) = it ∷ []
named_first (o.Document i j site it p v) = it ∷ []
named_first (o.ContentFails j place code it p v) = it ∷ p ∷ v ∷ []

abbrev pub named_second : Op → List Col
named_second (o.Join i j a b) = b ∷ []
named_second (o.Difference i j a b) = b ∷ []
named_second (o.ExistsCompare i j op a v b w) = b ∷ w ∷ []
named_second (o.CompareFails i j op code a v b w) = b ∷ w ∷ []
named_second (o.Element i j site it p v) = it ∷ p ∷ v ∷ []
named_second (o.Attribute i j site it p v) = it ∷ p ∷ v ∷ []
named_second (o.Pi i j site it p v) = it ∷ p ∷ v ∷ []
named_second (o.Text i j site it p v) = it ∷ p ∷ v ∷ []
named_second (o.Comment i j site it p v) = it ∷ p ∷ v ∷ []
named_second (o.Document i j site it p v) = it ∷ p ∷ v ∷ []
named_second _ = []

-- the operators that an operator reads: the first, and the second
abbrev pub first_input : Op → Option OpId
first_input (o.Unit c) = None
first_input (o.Empty cs) = None
first_input (o.Project i ps) = Some i
first_input (o.Attach i c v) = Some i
first_input (o.Select i c) = Some i
first_input (o.Join i j a b) = Some i
first_input (o.Union i j) = Some i
first_input (o.Difference i j a b) = Some i
first_input (o.Distinct i cs) = Some i
first_input (o.Rownum i c ks part) = Some i
first_input (o.Count i g c) = Some i
first_input (o.Aggregate i agg g v c) = Some i
first_input (o.AggregateFails i agg code g v) = Some i
first_input (o.Map i fun as' c) = Some i
first_input (o.MapFails i fun code as') = Some i
first_input (o.Range i a b c) = Some i
first_input (o.ExistsCompare i j op a v b w) = Some i
first_input (o.CompareFails i j op code a v b w) = Some i
first_input (o.Step i axis _ site offset it n) = Some i
first_input (o.Element i j site it p v) = Some i
first_input (o.Attribute i j site it p v) = Some i
first_input (o.Pi i j site it p v) = Some i
first_input (o.Text i j site it p v) = Some i
first_input (o.Comment i j site it p v) = Some i
first_input (o.Document i j site it p v) = Some i
first_input (o.ContentFails j place code it p v) = Some j

abbrev pub second_input : Op → Option OpId
second_input (o.Join i j a b) = Some j
second_input (o.Union i j) = Some j
second_input (o.Difference i j a b) = Some j
second_input (o.ExistsCompare i j op a v b w) = Some j
second_input (o.CompareFails i j op code a v b w) = Some j
second_input (o.Element i j site it p v) = Some j
second_input (o.Attribute i j site it p v) = Some j
second_input (o.Pi i j site it p v) = Some j
second_input (o.Text i j site it p v) = Some j
second_input (o.Comment i j site it p v) = Some j
second_input (o.Document i j site it p v) = Some j
second_input _ = None

-- the columns of the operator of a number, or none
abbrev pub input_cols : List (List Col) → Option OpId → List Col
input_cols s None = []
input_cols s (Some i) = cols_at s i

-- the columns of an operator behind operators with these columns
abbrev pub columns : List (List Col) → Op → List Col
columns s op = columns_of op (input_cols s (first_input op)) (input_cols s (second_input op))

-- the columns of each operator
abbrev pub schemas_from : List (List Col) → List Op → List (List Col)
schemas_from s [] = s
schemas_from s (op ∷ ops) = schemas_from (s ++ columns s op ∷ []) ops

abbrev pub schemas : List Op → List (List Col)
schemas ops = schemas_from [] ops

-- the columns that are added to the first input's
abbrev pub added : Op → List Col
added (o.Attach i c v) = c ∷ []
added (o.Rownum i c ks part) = c ∷ []
added (o.Count i g c) = c ∷ []
added (o.Aggregate i agg g v c) = c ∷ []
added (o.Map i fun as' c) = c ∷ []
added (o.Range i a b c) = c ∷ []
added _ = []

-- no column twice
abbrev pub cols_differ : List Col → Bool
cols_differ [] = true
cols_differ (c ∷ cs) = lacks cs c && cols_differ cs

-- the same columns, in any order
abbrev pub same_cols : List Col → List Col → Bool
same_cols cs ds = has_cols cs ds && has_cols ds cs

abbrev pub unions_agree : Op → List Col → List Col → Bool
unions_agree (o.Union i j) l r = same_cols l r
unions_agree _ l r = true

-- whether a map may apply a function to so many cells
abbrev pub takes : Fun → ℕ → Bool
takes f.Doc n = nat_eq n 1
takes f.Root n = nat_eq n 1
takes f.True n = nat_eq n 0
takes f.False n = nat_eq n 0
takes f.StringOf n = nat_eq n 1
takes f.Name n = nat_eq n 1
takes f.LocalName n = nat_eq n 1
takes f.StringLength n = nat_eq n 1
takes f.NormalizeSpace n = nat_eq n 1
takes f.Concat n = nat_le 2 n
takes f.Contains n = nat_eq n 2
takes f.StartsWith n = nat_eq n 2
takes f.EndsWith n = nat_eq n 2
takes f.SubstringBefore n = nat_eq n 2
takes f.SubstringAfter n = nat_eq n 2
takes f.Substring n = nat_eq n 2 || nat_eq n 3
takes f.Translate n = nat_eq n 3
takes f.Compare n = nat_eq n 2
takes f.Abs n = nat_eq n 1
takes f.XsInteger n = nat_eq n 1
takes f.XsString n = nat_eq n 1
takes f.XsBoolean n = nat_eq n 1
takes f.XsUntypedAtomic n = nat_eq n 1
takes f.Add n = nat_eq n 2
takes f.Subtract n = nat_eq n 2
takes f.Multiply n = nat_eq n 2
takes f.IntegerDivide n = nat_eq n 2
takes f.Modulo n = nat_eq n 2
takes f.Negate n = nat_eq n 1
takes f.Eq n = nat_eq n 2
takes f.Ne n = nat_eq n 2
takes f.Lt n = nat_eq n 2
takes f.Le n = nat_eq n 2
takes f.Gt n = nat_eq n 2
takes f.Ge n = nat_eq n 2
takes f.Is n = nat_eq n 2
takes f.Before n = nat_eq n 2
takes f.After n = nat_eq n 2
takes f.And n = nat_eq n 2
takes f.Or n = nat_eq n 2
takes f.Atomize n = nat_eq n 1
takes f.QName n = nat_eq n 1
takes f.PiTarget n = nat_eq n 1
takes (f.IsKind kind) n = nat_eq n 1
takes (f.CastTo kind) n = nat_eq n 1
takes _ n = false

abbrev pub fun_fits : Op → Bool
fun_fits (o.Map i fun as' c) = takes fun (length as')
fun_fits (o.MapFails i fun code as') = takes fun (length as')
fun_fits _ = true

-- the site of a step or a constructor
abbrev pub site_of : Op → Option ℕ
site_of (o.Step i axis _ site offset it n) = Some site
site_of (o.Element i j site it p v) = Some site
site_of (o.Attribute i j site it p v) = Some site
site_of (o.Pi i j site it p v) = Some site
site_of (o.Text i j site it p v) = Some site
site_of (o.Comment i j site it p v) = Some site
site_of (o.Document i j site it p v) = Some site
site_of _ = None

-- whether an operator makes trees
abbrev pub is_constructor : Op → Bool
is_constructor (o.Element i j site it p v) = true
is_constructor (o.Attribute i j site it p v) = true
is_constructor (o.Pi i j site it p v) = true
is_constructor (o.Text i j site it p v) = true
is_constructor (o.Comment i j site it p v) = true
is_constructor (o.Document i j site it p v) = true
is_constructor _ = false

-- no operator has this site
abbrev pub is_site : Option ℕ → Option ℕ → Bool
is_site None b = false
is_site (Some a) None = false
is_site (Some a) (Some b) = nat_eq a b

abbrev pub site_is_new : List Op → Op → Bool
site_is_new ops op = not (list_any (λ p. is_site (site_of op) (site_of p)) ops)

-- at least one column, at most eight, none twice
abbrev pub is_schema : List Col → Bool
is_schema cs = nat_lt 0 (length cs) && nat_lt (length cs) 9 && cols_differ cs

-- whether the columns that an operator names are there, those that it adds are new, a union's inputs
-- agree and a map's function takes so many cells
abbrev pub names_fit : Op → List Col → List Col → Bool
names_fit op l r = (has_cols l (named_first op) && has_cols r (named_second op)) && list_all (lacks l) (added op) && unions_agree op l r && fun_fits op

-- whether an operator fits over inputs with these columns
abbrev pub fits_over : Op → List Col → List Col → Bool
fits_over op l r = names_fit op l r && is_schema (columns_of op l r)

abbrev pub stands_before : ℕ → Option OpId → Bool
stands_before n None = true
stands_before n (Some i) = nat_lt i.0 n

-- whether an operator reads operators before this number alone
abbrev pub reads_before : ℕ → Op → Bool
reads_before n op = stands_before n (first_input op) && stands_before n (second_input op)

-- whether an operator fits behind operators with these columns
abbrev pub fits_columns : List (List Col) → Op → Bool
fits_columns s op = reads_before (length s) op && fits_over op (input_cols s (first_input op)) (input_cols s (second_input op))

abbrev pub fits : List Op → Op → Bool
fits ops op = fits_columns (schemas ops) op && site_is_new ops op

abbrev pub valid_from : List Op → List Op → Bool
valid_from done [] = true
valid_from done (op ∷ ops) = fits done op && valid_from (done ++ op ∷ []) ops

-- every operator fits behind those before it
abbrev pub is_valid : List Op → Bool
is_valid ops = valid_from [] ops
