-- The type of a Core, or the place of the first of its nodes that is refused, in the order in which the nodes are numbered
-- (own rule). It is what `type_of` and `type_refusal` say of the Core's expression.
use Rattle.std.specs.Prelude.{ℕ, ◌≡◌, Bool, cond, [], ◌∷◌, Result, Ok, Err}
use Rattle.doc_table.specs.Values.{kind_of_item, item_of_atom}
use Rattle.core_meaning.specs.PlainCore as c
use Rattle.core_meaning.specs.PlainCore.{PlainCore, PlainCores, PlainBind, Binds, Keys}
use Rattle.xq_types.specs.declared.fault.TypeFault.{TypeFault}
use Rattle.xq_types.specs.declared.fault.TypeFault.TheVariants as f
use Rattle.xq_types.specs.Types.{Typ, empty_type, once_of, then_type, either_type, each_type, type_of_test}
use Rattle.xq_types.specs.Calls.{Types, bool_type, fun_type}
use Rattle.xq_types.specs.Typing.{TypeEnv, with_type, loop_types, step_type, build_type, treat_type, convert_type, cast_or_none, where_type}
use Rattle.xq_types.specs.Refusals.{marks_of, marks_refuse}

module _ {A B : Type 0} where
  abbrev pub and_then : Result A ℕ → (A → Result B ℕ) → Result B ℕ
  and_then (Ok a) g = g a
  and_then (Err o) g = Err o

abbrev pub Judged : Type 0
Judged = Result Typ ℕ

-- the types behind a bind of a sorted loop, and what the bind makes of the type of what follows it
abbrev pub Bound : Type 0
Bound = TypeEnv × (Typ → Typ)

abbrev pub judge_call : Bool → ℕ → Typ → Judged
judge_call refused o t = cond refused (Err o) (Ok t)

abbrev mutual
  pub judged : TypeEnv → PlainCore → Judged
  judged types (c.Lit o a) = Ok (once_of (kind_of_item (item_of_atom a)))
  judged types (c.Empty o) = Ok empty_type
  judged types (c.Seq o a b) = and_then (judged types a) (λ t. and_then (judged types b) (λ u. Ok (then_type t u)))
  judged types (c.Var o x) = Ok (types x)
  judged types (c.Let o x a b) = and_then (judged types a) (λ t. judged (with_type types x t) b)
  judged types (c.For o x p a b) = and_then (judged types a) (λ t. and_then (judged (loop_types x p t types) b) (λ u. Ok (each_type t u)))
  judged types (c.Sorted o bs ks b) =
      and_then (judged_binds types bs) (λ p. and_then (and_then (judged_keys p.0 ks) (λ _. judged p.0 b)) (λ t. Ok (p.1 t)))
  judged types (c.If o a b d) = and_then (judged types a) (λ _. and_then (judged types b) (λ t. and_then (judged types d) (λ u. Ok (either_type t u))))
  judged types (c.Call o f as') = and_then (judged_all types as') (λ ts. judge_call (marks_refuse (marks_of f) ts) o (fun_type f ts))
  judged types (c.Step o from axis test a) = and_then (judged types a) (λ t. Ok (step_type axis test t))
  judged types (c.Build o kind name a) =
      and_then (judged_content types name (judged types a)) (λ ts. Ok (build_type kind ts))
  judged types (c.Instance o a test) = and_then (judged types a) (λ _. Ok bool_type)
  judged types (c.Treat o a test) = and_then (judged types a) (λ t. Ok (treat_type t (type_of_test test)))
  judged types (c.Convert o a test) = and_then (judged types a) (λ t. Ok (convert_type test t))
  judged types (c.Cast o a kind optional) = and_then (judged types a) (λ t. Ok (cast_or_none kind optional t))
  judged types (c.Castable o a kind optional) = and_then (judged types a) (λ _. Ok bool_type)
  judged types (c.Fail o code) = Ok empty_type

  pub judged_all : TypeEnv → PlainCores → Result Types ℕ
  judged_all types c.no_cores = Ok []
  judged_all types (c.one_core a as') = and_then (judged types a) (λ t. and_then (judged_all types as') (λ ts. Ok (t ∷ ts)))

  -- the types of a constructor's name and of its content behind it
  pub judged_content : TypeEnv → PlainCores → Judged → Result Types ℕ
  judged_content types c.no_cores last = and_then last (λ t. Ok (t ∷ []))
  judged_content types (c.one_core a as') last = and_then (judged types a) (λ t. and_then (judged_content types as' last) (λ ts. Ok (t ∷ ts)))

  pub judged_bind : TypeEnv → PlainBind → Result Bound ℕ
  judged_bind types (c.for_bind x p a) = and_then (judged types a) (λ t. Ok (loop_types x p t types, each_type t))
  judged_bind types (c.let_bind x a) = and_then (judged types a) (λ t. Ok (with_type types x t, λ u. u))
  judged_bind types (c.where_bind a) = and_then (judged types a) (λ _. Ok (types, where_type))

  pub judged_binds : TypeEnv → Binds → Result Bound ℕ
  judged_binds types c.no_binds = Ok (types, λ u. u)
  judged_binds types (c.one_bind b bs) = and_then (judged_bind types b) (λ p. and_then (judged_binds p.0 bs) (λ q. Ok (q.0, λ u. p.1 (q.1 u))))

  pub judged_keys : TypeEnv → Keys → Result (Unit {0}) ℕ
  judged_keys types c.no_keys = Ok tt
  judged_keys types (c.one_key (c.key_by a down greatest) ks) = and_then (judged types a) (λ _. judged_keys types ks)

-- what the code answers; want of memory says nothing
module _ {A B : Type 0} where
  abbrev pub Gives : (B → A) → Result A ℕ → Result B TypeFault → Type 0
  Gives g j (Ok b) = j ≡ Ok (g b)
  Gives g j (Err (f.Refused o)) = j ≡ Err o
  Gives g j (Err f.NoMemory) = Unit {0}
