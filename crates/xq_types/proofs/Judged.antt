-- The judgement of a Core is the type of its expression, or the place of the first site that is refused.
use Rattle.std.proofs.Common.{◌≡◌, ℕ, ◌+◌, Bool, true, false, List, [], ◌∷◌, ◌++◌, Result, Ok, Err, refl, sym, ap, ◌∙◌}
use Rattle.std.proofs.lemmas.List.{append-nil, append_assoc}
use Rattle.core_meaning.specs.PlainCore as c
use Rattle.core_meaning.specs.PlainCore.{PlainCore, PlainCores, Binds, Keys}
use Rattle.core_meaning.specs.Size.{nodes, nodes_of_all, nodes_of_keys}
use Rattle.core_meaning.specs.Expr.{Site, Expr, Spine, Leaf}
use Rattle.core_meaning.specs.ExprOf.{site_at, expr_from, exprs_from, content_from, spine_from, keys_from}
use Rattle.xq_types.specs.Types.{Typ, then_type, either_type, each_type, type_of_test}
use Rattle.xq_types.specs.Calls.{bool_type, fun_type}
use Rattle.xq_types.specs.Typing.{TypeEnv, with_type, loop_types, step_type, build_type, treat_type, convert_type, cast_or_none, where_type, type_of, types_of, type_in}
use Rattle.xq_types.specs.Refusals.{marks_of, marks_refuse, site_if, refused, refused_all, refused_in}
use Rattle.xq_types.specs.Judging.{and_then, Judged, Bound, judge_call, judged, judged_all, judged_content, judged_binds, judged_keys}

-- a value where no site is refused, else the place of the first one
module _ {A : Type 0} where
  abbrev pub verdict : List Site → A → Result A ℕ
  verdict [] a = Ok a
  verdict (s ∷ ss) a = Err s.offset

module _ {A B : Type 0} where
  then_verdict : (xs ys : List Site) (a : A) (b : B) (j : Result A ℕ) (g : A → Result B ℕ) → j ≡ verdict xs a → g a ≡ verdict ys b → and_then j g ≡ verdict (xs ++ ys) b
  then_verdict [] ys a b j g p q = ap (λ r. and_then r g) p ∙ q
  then_verdict (x ∷ xs) ys a b j g p q = ap (λ r. and_then r g) p

  map_verdict : (xs : List Site) (a : A) (j : Result A ℕ) (f : A → B) → j ≡ verdict xs a → and_then j (λ t. Ok (f t)) ≡ verdict xs (f a)
  map_verdict [] a j f p = ap (λ r. and_then r (λ t. Ok (f t))) p
  map_verdict (x ∷ xs) a j f p = ap (λ r. and_then r (λ t. Ok (f t))) p

  -- a node with one part and no refusal of its own
  one_verdict : (xs : List Site) (a : A) (j : Result A ℕ) (f : A → B) → j ≡ verdict xs a → and_then j (λ t. Ok (f t)) ≡ verdict (xs ++ [] ++ []) (f a)
  one_verdict xs a j f p = map_verdict xs a j f p ∙ ap (λ l. verdict l (f a)) (sym (append-nil (xs ++ []) ∙ append-nil xs))

call_verdict : (b : Bool) (site : Site) (t : Typ) → judge_call b site.offset t ≡ verdict (site_if b site) t
call_verdict true site t = refl
call_verdict false site t = refl

-- a bind before other binds, and all of them before what follows
abbrev pair_with : (Typ → Typ) → Bound → Bound
pair_with f q = (q.0, λ u. f (q.1 u))

abbrev bound_by : TypeEnv → (Typ → Typ) → Bound
bound_by e f = (e, f)

abbrev behind : Result Bound ℕ → (TypeEnv → Judged) → Judged
behind j k = and_then j (λ p. and_then (k p.0) (λ t. Ok (p.1 t)))

-- what the binds behind a bind make is the same, whether it is made at once or in turn
regroup_at : (r : Judged) (f g : Typ → Typ) → and_then r (λ t. Ok (f (g t))) ≡ and_then (and_then r (λ t. Ok (g t))) (λ t. Ok (f t))
regroup_at (Ok t) f g = refl
regroup_at (Err o) f g = refl

regroup : (j : Result Bound ℕ) (f : Typ → Typ) (k : TypeEnv → Judged) → behind (and_then j (λ q. Ok (pair_with f q))) k ≡ and_then (behind j k) (λ t. Ok (f t))
regroup (Ok q) f k = regroup_at (k q.0) f q.1
regroup (Err o) f k = refl

-- a bind and what follows it, by the judgement of the bind's part
abbrev whole_bind : (Typ → TypeEnv) → (Typ → Typ → Typ) → (TypeEnv → Result Bound ℕ) → (TypeEnv → Judged) → Judged → Judged
whole_bind env f rest k j = behind (and_then (and_then j (λ v. Ok (bound_by (env v) (f v)))) (λ p. and_then (rest p.0) (λ q. Ok (pair_with p.1 q)))) k

bind_verdict : (xs ys : List Site) (t u : Typ) (j : Judged) (env : Typ → TypeEnv) (f : Typ → Typ → Typ) (rest : TypeEnv → Result Bound ℕ) (k : TypeEnv → Judged) → j ≡ verdict xs t → behind (rest (env t)) k ≡ verdict ys u → whole_bind env f rest k j ≡ verdict (xs ++ ys) (f t u)
bind_verdict [] ys t u j env f rest k p q = ap (whole_bind env f rest k) p ∙ regroup (rest (env t)) (f t) k ∙ map_verdict ys u (behind (rest (env t)) k) (f t) q
bind_verdict (x ∷ xs) ys t u j env f rest k p q = ap (whole_bind env f rest k) p

abbrev leaf_at : Keys → PlainCore → ℕ → Spine
leaf_at ks b m = Leaf (keys_from m ks) (expr_from (m + nodes_of_keys ks) b)

mutual
  pub judges : (types : TypeEnv) (n : ℕ) (core : PlainCore) → judged types core ≡ verdict (refused types (expr_from n core)) (type_of types (expr_from n core))
  judges types n (c.Lit o a) = refl
  judges types n (c.Empty o) = refl
  judges types n (c.Var o x) = refl
  judges types n (c.Fail o code) = refl
  judges types n (c.Seq o a b) =
      let t = type_of types (expr_from n a) in
      let m = n + nodes a in
      let u = type_of types (expr_from m b) in
      then_verdict (refused types (expr_from n a)) (refused types (expr_from m b)) t (then_type t u) (judged types a) (λ v. and_then (judged types b) (λ w. Ok (then_type v w))) (judges types n a)
      (map_verdict (refused types (expr_from m b)) u (judged types b) (λ w. then_type t w) (judges types m b))
  judges types n (c.Let o x a b) =
      let t = type_of types (expr_from n a) in
      let m = n + nodes a in
      then_verdict (refused types (expr_from n a)) (refused (with_type types x t) (expr_from m b)) t (type_of (with_type types x t) (expr_from m b)) (judged types a) (λ v. judged (with_type types x v) b) (judges types n a)
      (judges (with_type types x t) m b)
  judges types n (c.For o x p a b) =
      let t = type_of types (expr_from n a) in
      let m = n + nodes a in
      let inner = loop_types x p t types in
      let u = type_of inner (expr_from m b) in
      then_verdict (refused types (expr_from n a)) (refused inner (expr_from m b)) t (each_type t u) (judged types a) (λ v. and_then (judged (loop_types x p v types) b) (λ w. Ok (each_type v w))) (judges types n a)
      (map_verdict (refused inner (expr_from m b)) u (judged inner b) (λ w. each_type t w) (judges inner m b))
  judges types n (c.If o a b d) =
      let m = n + nodes a in
      let l = n + nodes a + nodes b in
      let r = refused types (expr_from n a) in
      let s = refused types (expr_from m b) in
      let q = refused types (expr_from l d) in
      let t = type_of types (expr_from m b) in
      let u = type_of types (expr_from l d) in
      then_verdict r (s ++ q) (type_of types (expr_from n a)) (either_type t u) (judged types a) (λ _. and_then (judged types b) (λ v. and_then (judged types d) (λ w. Ok (either_type v w)))) (judges types n a)
      (then_verdict s q t (either_type t u) (judged types b) (λ v. and_then (judged types d) (λ w. Ok (either_type v w))) (judges types m b) (map_verdict q u (judged types d) (λ w. either_type t w) (judges types l d)))
      ∙ ap (λ z. verdict z (either_type t u)) (sym (append_assoc r s q))
  judges types n (c.Sorted o bs ks b) =
      judges_binds types n bs (λ m. leaf_at ks b m) (λ e. and_then (judged_keys e ks) (λ _. judged e b))
      (λ e m. then_verdict (refused_all e (keys_from m ks)) (refused e (expr_from (m + nodes_of_keys ks) b)) tt (type_of e (expr_from (m + nodes_of_keys ks) b)) (judged_keys e ks) (λ _. judged e b) (judges_keys e m ks) (judges e (m + nodes_of_keys ks) b))
  judges types n (c.Call o g as') =
      let ts = types_of types (exprs_from n as') in
      let site = site_at (n + nodes_of_all as') o in
      then_verdict (refused_all types (exprs_from n as')) (site_if (marks_refuse (marks_of g) ts) site) ts (fun_type g ts) (judged_all types as') (λ us. judge_call (marks_refuse (marks_of g) us) o (fun_type g us)) (judges_all types n as')
      (call_verdict (marks_refuse (marks_of g) ts) site (fun_type g ts))
  judges types n (c.Step o from axis test a) = one_verdict (refused types (expr_from n a)) (type_of types (expr_from n a)) (judged types a) (λ t. step_type axis test t) (judges types n a)
  judges types n (c.Build o kind name a) =
      let es = content_from n name (λ m. expr_from m a) in
      map_verdict (refused_all types es) (types_of types es) (judged_content types name (judged types a)) (λ ts. build_type kind ts) (judges_content types n name (λ m. expr_from m a) (judged types a) (λ m. judges types m a))
      ∙ ap (λ z. verdict z (build_type kind (types_of types es))) (sym (append-nil (refused_all types es)))
  judges types n (c.Instance o a test) = one_verdict (refused types (expr_from n a)) (type_of types (expr_from n a)) (judged types a) (λ _. bool_type) (judges types n a)
  judges types n (c.Treat o a test) = one_verdict (refused types (expr_from n a)) (type_of types (expr_from n a)) (judged types a) (λ t. treat_type t (type_of_test test)) (judges types n a)
  judges types n (c.Convert o a test) = one_verdict (refused types (expr_from n a)) (type_of types (expr_from n a)) (judged types a) (λ t. convert_type test t) (judges types n a)
  judges types n (c.Cast o a kind optional) = one_verdict (refused types (expr_from n a)) (type_of types (expr_from n a)) (judged types a) (λ t. cast_or_none kind optional t) (judges types n a)
  judges types n (c.Castable o a kind optional) = one_verdict (refused types (expr_from n a)) (type_of types (expr_from n a)) (judged types a) (λ _. bool_type) (judges types n a)

  judges_all : (types : TypeEnv) (n : ℕ) (as' : PlainCores) → judged_all types as' ≡ verdict (refused_all types (exprs_from n as')) (types_of types (exprs_from n as'))
  judges_all types n c.no_cores = refl
  judges_all types n (c.one_core a as') =
      let t = type_of types (expr_from n a) in
      let es = exprs_from (n + nodes a) as' in
      then_verdict (refused types (expr_from n a)) (refused_all types es) t (t ∷ types_of types es) (judged types a) (λ v. and_then (judged_all types as') (λ ts. Ok (v ∷ ts))) (judges types n a)
      (map_verdict (refused_all types es) (types_of types es) (judged_all types as') (λ ts. t ∷ ts) (judges_all types (n + nodes a) as'))

  judges_content : (types : TypeEnv) (n : ℕ) (name : PlainCores) (last : ℕ → Expr) (j : Judged) → ((m : ℕ) → j ≡ verdict (refused types (last m)) (type_of types (last m))) → judged_content types name j ≡ verdict (refused_all types (content_from n name last)) (types_of types (content_from n name last))
  judges_content types n c.no_cores last j h =
      map_verdict (refused types (last n)) (type_of types (last n)) j (λ t. t ∷ []) (h n) ∙ ap (λ z. verdict z (type_of types (last n) ∷ [])) (sym (append-nil (refused types (last n))))
  judges_content types n (c.one_core a as') last j h =
      let t = type_of types (expr_from n a) in
      let es = content_from (n + nodes a) as' last in
      then_verdict (refused types (expr_from n a)) (refused_all types es) t (t ∷ types_of types es) (judged types a) (λ v. and_then (judged_content types as' j) (λ ts. Ok (v ∷ ts))) (judges types n a)
      (map_verdict (refused_all types es) (types_of types es) (judged_content types as' j) (λ ts. t ∷ ts) (judges_content types (n + nodes a) as' last j h))

  judges_keys : (types : TypeEnv) (n : ℕ) (ks : Keys) → judged_keys types ks ≡ verdict (refused_all types (keys_from n ks)) tt
  judges_keys types n c.no_keys = refl
  judges_keys types n (c.one_key (c.key_by a down greatest) ks) =
      then_verdict (refused types (expr_from n a)) (refused_all types (keys_from (n + nodes a) ks)) (type_of types (expr_from n a)) tt (judged types a) (λ _. judged_keys types ks) (judges types n a) (judges_keys types (n + nodes a) ks)

  -- the binds, and what the judgement behind them gives
  judges_binds : (types : TypeEnv) (n : ℕ) (bs : Binds) (last : ℕ → Spine) (k : TypeEnv → Judged) → ((e : TypeEnv) (m : ℕ) → k e ≡ verdict (refused_in e (last m)) (type_in e (last m)))
      → behind (judged_binds types bs) k ≡ verdict (refused_in types (spine_from n bs last)) (type_in types (spine_from n bs last))
  judges_binds types n c.no_binds last k h = map_verdict (refused_in types (last n)) (type_in types (last n)) (k types) (λ t. t) (h types n)
  judges_binds types n (c.one_bind (c.for_bind x p a) bs) last k h =
      let t = type_of types (expr_from n a) in
      let inner = loop_types x p t types in
      let sp = spine_from (n + nodes a) bs last in
      bind_verdict (refused types (expr_from n a)) (refused_in inner sp) t (type_in inner sp) (judged types a) (λ v. loop_types x p v types) each_type (λ e. judged_binds e bs) k (judges types n a) (judges_binds inner (n + nodes a) bs last k h)
  judges_binds types n (c.one_bind (c.let_bind x a) bs) last k h =
      let t = type_of types (expr_from n a) in
      let inner = with_type types x t in
      let sp = spine_from (n + nodes a) bs last in
      bind_verdict (refused types (expr_from n a)) (refused_in inner sp) t (type_in inner sp) (judged types a) (λ v. with_type types x v) (λ _ u. u) (λ e. judged_binds e bs) k (judges types n a) (judges_binds inner (n + nodes a) bs last k h)
  judges_binds types n (c.one_bind (c.where_bind a) bs) last k h =
      let t = type_of types (expr_from n a) in
      let sp = spine_from (n + nodes a) bs last in
      bind_verdict (refused types (expr_from n a)) (refused_in types sp) t (type_in types sp) (judged types a) (λ v. types) (λ _. where_type) (λ e. judged_binds e bs) k (judges types n a) (judges_binds types (n + nodes a) bs last k h)
