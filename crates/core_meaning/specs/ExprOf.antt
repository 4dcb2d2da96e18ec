-- A Core as an expression: each node with a rule of its own gets its site, the number of the node in postorder, counted from 0 (own rule).
use Rattle.std.specs.Prelude.{ℕ, ◌+◌, List, [], ◌∷◌}
use Rattle.doc_table.specs.Values.{item_of_atom}
use Rattle.core_meaning.specs.PlainCore as c
use Rattle.core_meaning.specs.PlainCore.{PlainCore, PlainCores, Binds, Keys}
use Rattle.core_meaning.specs.Size.{nodes, nodes_of_all, nodes_of_binds, nodes_of_keys}
use Rattle.core_meaning.specs.Expr.{Site, Apply, Walk, Make, IsOf, TreatAs, ConvertTo, CastTo, CastableTo, FailWith, Order, Expr, Exprs, Spine, Lit, Empty, Var, Seq, Let, For, If, Sorted, Call, no_more, one_more, Leaf, ForBind, LetBind, WhereBind}

abbrev pub site_at : ℕ → ℕ → Site
site_at n o = record { number = n; offset = o }

abbrev pub one_part : Expr → Exprs
one_part e = one_more e no_more

abbrev pub orders_of : Keys → List Order
orders_of c.no_keys = []
orders_of (c.one_key (c.key_by a down greatest) ks) = record { descending = down; empty_greatest = greatest } ∷ orders_of ks

-- where the first node has this number
abbrev mutual
  pub expr_from : ℕ → PlainCore → Expr
  expr_from n (c.Lit o a) = Lit (item_of_atom a)
  expr_from n (c.Empty o) = Empty
  expr_from n (c.Seq o a b) = Seq (expr_from n a) (expr_from (n + nodes a) b)
  expr_from n (c.Var o x) = Var x
  expr_from n (c.Let o x a b) = Let x (expr_from n a) (expr_from (n + nodes a) b)
  expr_from n (c.For o x p a b) = For x p (expr_from n a) (expr_from (n + nodes a) b)
  expr_from n (c.Sorted o bs ks b) =
      Sorted (site_at (n + nodes_of_binds bs + nodes_of_keys ks + nodes b) o) (orders_of ks) (spine_from n bs (λ m. Leaf (keys_from m ks) (expr_from (m + nodes_of_keys ks) b)))
  expr_from n (c.If o a b d) = If (expr_from n a) (expr_from (n + nodes a) b) (expr_from (n + nodes a + nodes b) d)
  expr_from n (c.Call o f as') = Call (site_at (n + nodes_of_all as') o) (Apply f) (exprs_from n as')
  expr_from n (c.Step o from axis test a) = Call (site_at (n + nodes a) o) (Walk from axis test) (one_part (expr_from n a))
  expr_from n (c.Build o kind name a) =
      Call (site_at (n + nodes_of_all name + nodes a) o) (Make kind) (content_from n name (λ m. expr_from m a))
  expr_from n (c.Instance o a t) = Call (site_at (n + nodes a) o) (IsOf t) (one_part (expr_from n a))
  expr_from n (c.Treat o a t) = Call (site_at (n + nodes a) o) (TreatAs t) (one_part (expr_from n a))
  expr_from n (c.Convert o a t) = Call (site_at (n + nodes a) o) (ConvertTo t) (one_part (expr_from n a))
  expr_from n (c.Cast o a kind optional) = Call (site_at (n + nodes a) o) (CastTo kind optional) (one_part (expr_from n a))
  expr_from n (c.Castable o a kind optional) = Call (site_at (n + nodes a) o) (CastableTo kind optional) (one_part (expr_from n a))
  expr_from n (c.Fail o code) = Call (site_at n o) (FailWith code) no_more

  pub exprs_from : ℕ → PlainCores → Exprs
  exprs_from n c.no_cores = no_more
  exprs_from n (c.one_core a as') = one_more (expr_from n a) (exprs_from (n + nodes a) as')

  -- a constructor's name, and its content behind it
  pub content_from : ℕ → PlainCores → (ℕ → Expr) → Exprs
  content_from n c.no_cores last = one_part (last n)
  content_from n (c.one_core a as') last = one_more (expr_from n a) (content_from (n + nodes a) as' last)

  -- the binds of a sorted loop, and its keys and body behind them
  pub spine_from : ℕ → Binds → (ℕ → Spine) → Spine
  spine_from n c.no_binds last = last n
  spine_from n (c.one_bind (c.for_bind x p a) bs) last = ForBind x p (expr_from n a) (spine_from (n + nodes a) bs last)
  spine_from n (c.one_bind (c.let_bind x a) bs) last = LetBind x (expr_from n a) (spine_from (n + nodes a) bs last)
  spine_from n (c.one_bind (c.where_bind a) bs) last = WhereBind (expr_from n a) (spine_from (n + nodes a) bs last)

  pub keys_from : ℕ → Keys → Exprs
  keys_from n c.no_keys = no_more
  keys_from n (c.one_key (c.key_by a down greatest) ks) = one_more (expr_from n a) (keys_from (n + nodes a) ks)

-- a query's Core as an expression
abbrev pub expr_of : PlainCore → Expr
expr_of core = expr_from 0 core
