-- Which expressions a query can have (own rule): its bindings differ, each variable stands in the scope of its binding, each
-- call is one that normalisation can give, and each node with a rule of its own has its number in postorder as its site.
use Rattle.std.specs.Prelude.{ℕ, suc, ◌+◌, ◌^◌, Bool, true, false, not, ◌&&◌, ◌||◌, List, [], ◌∷◌, ◌++◌, nat_eq, nat_lt, nat_le}
use Rattle.xq_base.specs.declared.code.Code.{Code}
use Rattle.xq_base.specs.declared.fun.Fun.{Fun}
use Rattle.xq_base.specs.declared.fun.Fun.TheVariants as f
use Rattle.xq_base.specs.Answers.{check_rank}
use Rattle.doc_table.specs.Tree.{NodeKind, ElementNode, AttributeNode, InstructionNode, TextNode, CommentNode, DocumentNode}
use Rattle.doc_table.specs.Values.{is_node}
use Rattle.core_meaning.specs.Expr.{Rule, Apply, Make, FailWith, Expr, Exprs, Spine, Lit, Empty, Var, Seq, Let, For, If, Sorted, Call, no_more, one_more, Leaf, ForBind, LetBind, WhereBind}
use Rattle.core_meaning.specs.Work.{is_member}

-- how many nodes an expression has; a bind and a key are no nodes of their own
abbrev mutual
  pub nodes : Expr → ℕ
  nodes (Lit a) = 1
  nodes Empty = 1
  nodes (Var x) = 1
  nodes (Seq a b) = nodes a + nodes b + 1
  nodes (Let x b e) = nodes b + nodes e + 1
  nodes (For x p s e) = nodes s + nodes e + 1
  nodes (If c a b) = nodes c + nodes a + nodes b + 1
  nodes (Sorted site os sp) = nodes_in sp + 1
  nodes (Call site r es) = nodes_all es + 1

  pub nodes_all : Exprs → ℕ
  nodes_all no_more = 0
  nodes_all (one_more e es) = nodes e + nodes_all es

  pub nodes_in : Spine → ℕ
  nodes_in (Leaf ks e) = nodes_all ks + nodes e
  nodes_in (ForBind x p s sp) = nodes s + nodes_in sp
  nodes_in (LetBind x b sp) = nodes b + nodes_in sp
  nodes_in (WhereBind c sp) = nodes c + nodes_in sp

-- the sites are the numbers in postorder, where the first node has this one
abbrev mutual
  pub is_sited : ℕ → Expr → Bool
  is_sited n (Lit a) = true
  is_sited n Empty = true
  is_sited n (Var x) = true
  is_sited n (Seq a b) = is_sited n a && is_sited (n + nodes a) b
  is_sited n (Let x b e) = is_sited n b && is_sited (n + nodes b) e
  is_sited n (For x p s e) = is_sited n s && is_sited (n + nodes s) e
  is_sited n (If c a b) = is_sited n c && is_sited (n + nodes c) a && is_sited (n + nodes c + nodes a) b
  is_sited n (Sorted site os sp) = nat_eq site.number (n + nodes_in sp) && sited_in n sp
  is_sited n (Call site r es) = nat_eq site.number (n + nodes_all es) && sited_all n es

  pub sited_all : ℕ → Exprs → Bool
  sited_all n no_more = true
  sited_all n (one_more e es) = is_sited n e && sited_all (n + nodes e) es

  pub sited_in : ℕ → Spine → Bool
  sited_in n (Leaf ks e) = sited_all n ks && is_sited (n + nodes_all ks) e
  sited_in n (ForBind x p s sp) = is_sited n s && sited_in (n + nodes s) sp
  sited_in n (LetBind x b sp) = is_sited n b && sited_in (n + nodes b) sp
  sited_in n (WhereBind c sp) = is_sited n c && sited_in (n + nodes c) sp

-- the variables that an expression binds
abbrev mutual
  pub binders : Expr → List ℕ
  binders (Lit a) = []
  binders Empty = []
  binders (Var x) = []
  binders (Seq a b) = binders a ++ binders b
  binders (Let x b e) = x ∷ (binders b ++ binders e)
  binders (For x p s e) = x ∷ p ∷ (binders s ++ binders e)
  binders (If c a b) = binders c ++ binders a ++ binders b
  binders (Sorted site os sp) = binders_in sp
  binders (Call site r es) = binders_all es

  pub binders_all : Exprs → List ℕ
  binders_all no_more = []
  binders_all (one_more e es) = binders e ++ binders_all es

  pub binders_in : Spine → List ℕ
  binders_in (Leaf ks e) = binders_all ks ++ binders e
  binders_in (ForBind x p s sp) = x ∷ p ∷ (binders s ++ binders_in sp)
  binders_in (LetBind x b sp) = x ∷ (binders b ++ binders_in sp)
  binders_in (WhereBind c sp) = binders c ++ binders_in sp

abbrev pub all_differ : List ℕ → Bool
all_differ [] = true
all_differ (x ∷ xs) = not (is_member x xs) && all_differ xs

-- how many arguments a function takes, of those that normalisation can give
abbrev pub takes : Fun → ℕ → Bool
takes f.Concat n = nat_le 2 n
takes f.True n = nat_eq n 0
takes f.False n = nat_eq n 0
takes f.Negate n = nat_eq n 1
takes f.Doc n = nat_eq n 1
takes f.Root n = nat_eq n 1
takes f.Count n = nat_eq n 1
takes f.Empty n = nat_eq n 1
takes f.Exists n = nat_eq n 1
takes f.Boolean n = nat_eq n 1
takes f.Not n = nat_eq n 1
takes f.StringOf n = nat_eq n 1
takes f.Data n = nat_eq n 1
takes f.Name n = nat_eq n 1
takes f.LocalName n = nat_eq n 1
takes f.StringLength n = nat_eq n 1
takes f.NormalizeSpace n = nat_eq n 1
takes f.Abs n = nat_eq n 1
takes f.Min n = nat_eq n 1
takes f.Max n = nat_eq n 1
takes f.DistinctValues n = nat_eq n 1
takes f.Reverse n = nat_eq n 1
takes f.ZeroOrOne n = nat_eq n 1
takes f.OneOrMore n = nat_eq n 1
takes f.ExactlyOne n = nat_eq n 1
takes f.PathOrder n = nat_eq n 1
takes f.ContentText n = nat_eq n 1
takes f.Sum n = nat_eq n 1 || nat_eq n 2
takes f.Substring n = nat_eq n 2 || nat_eq n 3
takes f.Subsequence n = nat_eq n 2 || nat_eq n 3
takes f.Translate n = nat_eq n 3
takes f.InsertBefore n = nat_eq n 3
takes f.Position n = false
takes f.Last n = false
takes f.Error n = false
takes f.XsInteger n = false
takes f.XsString n = false
takes f.XsBoolean n = false
takes f.XsUntypedAtomic n = false
takes f.Atomize n = false
takes f.QName n = false
takes f.PiTarget n = false
takes (f.IsKind kind) n = false
takes (f.CastTo kind) n = false
takes (f.Extern term arity) n = false
takes _ n = nat_eq n 2

abbrev pub how_many : Exprs → ℕ
how_many no_more = 0
how_many (one_more e es) = suc (how_many es)

-- a name stands exactly for an element, an attribute and an instruction
abbrev pub parts_of_build : NodeKind → ℕ
parts_of_build ElementNode = 2
parts_of_build AttributeNode = 2
parts_of_build InstructionNode = 2
parts_of_build TextNode = 1
parts_of_build CommentNode = 1
parts_of_build DocumentNode = 1

-- the codes of dynamic errors; the one of serialisation is no failure of an expression
abbrev pub is_dynamic : Code → Bool
is_dynamic code = nat_lt (check_rank code) 22

abbrev pub is_boolean_call : Expr → Bool
is_boolean_call (Call site (Apply f.Boolean) es) = true
is_boolean_call _ = false

abbrev pub are_boolean_calls : Exprs → Bool
are_boolean_calls no_more = true
are_boolean_calls (one_more e es) = is_boolean_call e && are_boolean_calls es

abbrev pub rule_fits : Rule → Exprs → Bool
rule_fits (Apply f.Or) es = nat_eq (how_many es) 2 && are_boolean_calls es
rule_fits (Apply f.And) es = nat_eq (how_many es) 2 && are_boolean_calls es
rule_fits (Apply g) es = takes g (how_many es)
rule_fits (Make kind) es = nat_eq (how_many es) (parts_of_build kind)
rule_fits (FailWith code) es = nat_eq (how_many es) 0 && is_dynamic code
rule_fits _ es = nat_eq (how_many es) 1

-- each literal is an atomic value, each variable is one of these or bound round it, and each rule has the parts that it takes
abbrev mutual
  pub fits : List ℕ → Expr → Bool
  fits vars (Lit a) = not (is_node a)
  fits vars Empty = true
  fits vars (Var x) = is_member x vars
  fits vars (Seq a b) = fits vars a && fits vars b
  fits vars (Let x b e) = fits vars b && fits (x ∷ vars) e
  fits vars (For x p s e) = fits vars s && fits (x ∷ p ∷ vars) e
  fits vars (If c a b) = fits vars c && fits vars a && fits vars b
  fits vars (Sorted site os sp) = fits_in vars sp
  fits vars (Call site r es) = rule_fits r es && fits_all vars es

  pub fits_all : List ℕ → Exprs → Bool
  fits_all vars no_more = true
  fits_all vars (one_more e es) = fits vars e && fits_all vars es

  pub fits_in : List ℕ → Spine → Bool
  fits_in vars (Leaf ks e) = fits_all vars ks && fits vars e
  fits_in vars (ForBind x p s sp) = fits vars s && fits_in (x ∷ p ∷ vars) sp
  fits_in vars (LetBind x b sp) = fits vars b && fits_in (x ∷ vars) sp
  fits_in vars (WhereBind c sp) = fits vars c && fits_in vars sp

abbrev pub is_lawful : Expr → Bool
is_lawful e = all_differ (binders e) && fits [] e && nat_lt (nodes e) (2 ^ 32)
