-- Cores whose variables are in scope and whose calls have the parts that they take, piece by piece.
use Rattle.std.proofs.Common.{◌≡◌, refl, sym, ap, subst, ℕ, suc, ◌+◌, ◌||◌, nat_eq, nat_le, Bool, true, false, cond, Option, Some, None, List, [], ◌∷◌, arith}
use Rattle.std.proofs.lemmas.Bool.{true≢false}
use Rattle.xq_base.specs.declared.axis.Axis.{Axis}
use Rattle.xq_base.specs.declared.fun.AtomKind.{AtomKind}
use Rattle.xq_base.specs.declared.fun.Fun.{Fun}
use Rattle.xq_base.specs.declared.fun.Fun.TheVariants as fun
use Rattle.xq_base.specs.Texts.{Text}
use Rattle.core_meaning.specs.Types.{SequenceTest}
use Rattle.core_meaning.specs.Expr.{Apply, Make}
use Rattle.core_meaning.specs.ExprOf.{expr_from, exprs_from, content_from}
use Rattle.core_meaning.specs.Lawful as law
use Rattle.core_meaning.specs.Lawful.{rule_fits, takes, is_dynamic}
use Rattle.core_meaning.specs.PlainCore.{PlainCore, PlainCores}
use Rattle.core_meaning.specs.PlainCore as c
use Rattle.core_meaning.specs.Size as size
use Rattle.core_meaning.specs.Work.{is_member}
use Rattle.xq_ast.specs.declared.leaf.Operator.{Operator}
use Rattle.xq_ast.specs.declared.leaf.Operator.TheVariants as op
use Rattle.xq_ast.specs.declared.leaf.Quantifier.{Quantifier}
use Rattle.xq_ast.specs.declared.leaf.Quantifier.TheVariants as quantifier
use Rattle.xq_ast.specs.declared.leaf.Sign.{Sign}
use Rattle.xq_ast.specs.declared.leaf.Sign.TheVariants as sign
use Rattle.core_normal.specs.Around.{Focus}
use Rattle.core_normal.specs.Pieces as n
use Rattle.core_normal.specs.Pieces.{Tail}
use Rattle.core_normal.specs.Normal.{bound}
use Rattle.core_normal.specs.Sound.{In, can_call}

abbrev pub Sub : List ℕ → List ℕ → Type 0
Sub xs ys = (x : ℕ) → In x xs → In x ys

pub no_truth : false ≡ true → ⊥
no_truth e = true≢false (sym e)

or_left : (a b : Bool) → a ≡ true → (a || b) ≡ true
or_left true b p = refl
or_left false b p = absurd (true≢false (sym p))

or_right : (a b : Bool) → b ≡ true → (a || b) ≡ true
or_right true b p = refl
or_right false b p = p

same_number : (x : ℕ) → nat_eq x x ≡ true
same_number x = grind arith

pub here : (x : ℕ) (xs : List ℕ) → In x (x ∷ xs)
here x xs = or_left (nat_eq x x) (is_member x xs) (same_number x)

pub later : (x y : ℕ) (xs : List ℕ) → In x xs → In x (y ∷ xs)
later x y xs p = or_right (nat_eq x y) (is_member x xs) p

pub sub_same : (xs : List ℕ) → Sub xs xs
sub_same xs x p = p

pub sub_more : (xs : List ℕ) (y : ℕ) → Sub xs (y ∷ xs)
sub_more xs y x p = later x y xs p

pub sub_trans : (xs ys zs : List ℕ) → Sub xs ys → Sub ys zs → Sub xs zs
sub_trans xs ys zs p q x h = q x (p x h)

-- variables in scope, and calls with their parts, wherever the site of the first part is
abbrev mutual
  pub Fit : List ℕ → PlainCore → Type 0
  Fit ws (c.Lit o a) = Unit {0}
  Fit ws (c.Empty o) = Unit {0}
  Fit ws (c.Seq o a b) = Fit ws a × Fit ws b
  Fit ws (c.Var o x) = In x ws
  Fit ws (c.Let o x a b) = Fit ws a × Fit (x ∷ ws) b
  Fit ws (c.For o x p a b) = Fit ws a × Fit (x ∷ p ∷ ws) b
  Fit ws (c.Sorted o ts ks b) = FitBinds ws ts (λ us. FitKeys us ks × Fit us b)
  Fit ws (c.If o a b d) = Fit ws a × Fit ws b × Fit ws d
  Fit ws (c.Call o f as') = ((k : ℕ) → rule_fits (Apply f) (exprs_from k as') ≡ true) × FitAll ws as'
  Fit ws (c.Step o f x t a) = Fit ws a
  Fit ws (c.Build o kind name a) = ((k : ℕ) → rule_fits (Make kind) (content_from k name (λ m. expr_from m a)) ≡ true) × FitAll ws name × Fit ws a
  Fit ws (c.Instance o a t) = Fit ws a
  Fit ws (c.Treat o a t) = Fit ws a
  Fit ws (c.Convert o a t) = Fit ws a
  Fit ws (c.Cast o a k m) = Fit ws a
  Fit ws (c.Castable o a k m) = Fit ws a
  Fit ws (c.Fail o code) = is_dynamic code ≡ true

  pub FitAll : List ℕ → PlainCores → Type 0
  FitAll ws c.no_cores = Unit {0}
  FitAll ws (c.one_core a as') = Fit ws a × FitAll ws as'

  -- binds, and what stands behind them
  pub FitBinds : List ℕ → c.Binds → (List ℕ → Type 0) → Type 0
  FitBinds ws c.no_binds rest = rest ws
  FitBinds ws (c.one_bind (c.for_bind x p a) ts) rest = Fit ws a × FitBinds (x ∷ p ∷ ws) ts rest
  FitBinds ws (c.one_bind (c.let_bind x a) ts) rest = Fit ws a × FitBinds (x ∷ ws) ts rest
  FitBinds ws (c.one_bind (c.where_bind a) ts) rest = Fit ws a × FitBinds ws ts rest

  pub FitKeys : List ℕ → c.Keys → Type 0
  FitKeys ws c.no_keys = Unit {0}
  FitKeys ws (c.one_key (c.key_by a g e) ks) = Fit ws a × FitKeys ws ks

abbrev pub FitTail : List ℕ → Tail → Type 0
FitTail ws t = FitBinds ws t.binds (λ us. FitKeys us t.keys × Fit us t.body)

-- the context's variables are in scope
abbrev pub FocusIn : Option Focus → List ℕ → Type 0
FocusIn None ws = Unit {0}
FocusIn (Some f) ws = In f.item ws × In f.place ws × In f.last ws

abbrev pub long : PlainCores → ℕ
long c.no_cores = 0
long (c.one_core a as') = suc (long as')

pub long_same : (k : ℕ) (as' : PlainCores) → law.how_many (exprs_from k as') ≡ long as'
long_same k c.no_cores = refl
long_same k (c.one_core a as') = ap suc (long_same (k + size.nodes a) as')

pub fit_dot : (ws : List ℕ) (o : ℕ) (f : Option Focus) → FocusIn f ws → Fit ws (n.dot_at o f)
unfolding n.dot_at
fit_dot ws o None h = refl
fit_dot ws o (Some f) h = h.0

pub fit_place : (ws : List ℕ) (o : ℕ) (f : Option Focus) → FocusIn f ws → Fit ws (n.place_at o f)
unfolding n.place_at
fit_place ws o None h = refl
fit_place ws o (Some f) h = h.1

pub fit_last : (ws : List ℕ) (o : ℕ) (f : Option Focus) → FocusIn f ws → Fit ws (n.last_at o f)
unfolding n.last_at
fit_last ws o None h = refl
fit_last ws o (Some f) h = h.2

pub fit_boolean : (ws : List ℕ) (o : ℕ) (a : PlainCore) → Fit ws a → Fit ws (n.boolean o a)
fit_boolean ws o a h = (λ k. refl, (h, tt))

pub fit_ordered : (ws : List ℕ) (o : ℕ) (a : PlainCore) → Fit ws a → Fit ws (n.ordered o a)
fit_ordered ws o a h = (λ k. refl, (h, tt))

pub fit_root : (ws : List ℕ) (o : ℕ) (f : Option Focus) → FocusIn f ws → Fit ws (n.root_at o f)
fit_root ws o f h = (fit_dot ws o f h, (λ k. refl, (fit_dot ws o f h, tt)), refl)

pub fit_chain : (ws : List ℕ) (o : ℕ) (e : PlainCore) (as' : PlainCores) → Fit ws e → FitAll ws as' → Fit ws (n.chain o e as')
fit_chain ws o e c.no_cores h hs = h
fit_chain ws o e (c.one_core a as') h hs = fit_chain ws o (c.Seq o e a) as' (h, hs.0) hs.1

pub fit_sequence : (ws : List ℕ) (o : ℕ) (as' : PlainCores) → FitAll ws as' → Fit ws (n.sequence o as')
fit_sequence ws o c.no_cores hs = tt
fit_sequence ws o (c.one_core a as') hs = fit_chain ws o a as' hs.0 hs.1

two_or_more : (k : ℕ) → nat_le 2 (suc (suc k)) ≡ true
two_or_more k = grind arith

pub fit_value : (ws : List ℕ) (o : ℕ) (as' : PlainCores) → FitAll ws as' → Fit ws (n.value_of o as')
fit_value ws o c.no_cores hs = tt
fit_value ws o (c.one_core a c.no_cores) hs = hs.0
fit_value ws o (c.one_core a (c.one_core b as')) hs = (λ k. two_or_more (law.how_many (exprs_from _ as')), hs)

pub fit_operand : (ws : List ℕ) (f : Operator) (o : ℕ) (a : PlainCore) → Fit ws a → Fit ws (n.operand f o a)
fit_operand ws f o a h = at (n.is_logical f)
  where
    at : (b : Bool) → Fit ws (cond b (n.boolean o a) a)
    at true = (λ k. refl, (h, tt))
    at false = h

operator_fits : (f : Operator) (i j : ℕ) (a b : PlainCore) (k : ℕ) → rule_fits (Apply (n.fun_of f)) (exprs_from k (n.two (n.operand f i a) (n.operand f j b))) ≡ true
operator_fits op.Or i j a b k = refl
operator_fits op.And i j a b k = refl
operator_fits _ i j a b k = refl

pub fit_binary : (ws : List ℕ) (o : ℕ) (f : Operator) (i j : ℕ) (a b : PlainCore) → Fit ws a → Fit ws b →
    Fit ws (c.Call o (n.fun_of f) (n.two (n.operand f i a) (n.operand f j b)))
fit_binary ws o f i j a b p q = (λ k. operator_fits f i j a b k, (fit_operand ws f i a p, (fit_operand ws f j b q, tt)))

pub fit_signed : (ws : List ℕ) (o : ℕ) (g : Sign) (a : PlainCore) → Fit ws a → Fit ws (n.signed_core o g a)
fit_signed ws o sign.Plus a h = (λ k. refl, (tt, (h, tt)))
fit_signed ws o sign.Minus a h = (λ k. refl, (h, tt))

pub fit_counted : (ws : List ℕ) (o : ℕ) (x : Axis) (a : PlainCore) → Fit ws a → Fit ws (n.counted o x a)
unfolding n.counted
fit_counted ws o x a h = at (n.is_reverse x)
  where
    at : (b : Bool) → Fit ws (cond b (c.Call o fun.Reverse (n.one a)) a)
    at true = (λ k. refl, (h, tt))
    at false = h

pub fit_chosen : (ws : List ℕ) (o v p : ℕ) → In v ws → In p ws → Fit ws (n.chosen o v p)
fit_chosen ws o v p hv hp = (hv, (λ k. refl, (hv, (hp, tt))), (λ k. refl, (hv, tt)))

pub fit_selected : (ws : List ℕ) (o y l d p v : ℕ) (e a : PlainCore) → Fit ws e → Fit (d ∷ p ∷ l ∷ y ∷ ws) a → Fit ws (n.selected o e y l d p v a)
unfolding n.selected
fit_selected ws o y l d p v e a h k =
    let in_y : In y (y ∷ ws) = here y ws in
    let in_y' : In y (l ∷ y ∷ ws) = later y l (y ∷ ws) (here y ws) in
    let in_d : In d (v ∷ d ∷ p ∷ l ∷ y ∷ ws) = later d v (d ∷ p ∷ l ∷ y ∷ ws) (here d (p ∷ l ∷ y ∷ ws)) in
    let in_p : In p (v ∷ d ∷ p ∷ l ∷ y ∷ ws) = later p v (d ∷ p ∷ l ∷ y ∷ ws) (later p d (p ∷ l ∷ y ∷ ws) (here p (l ∷ y ∷ ws))) in
    let in_v : In v (v ∷ d ∷ p ∷ l ∷ y ∷ ws) = here v (d ∷ p ∷ l ∷ y ∷ ws) in
    (h, ((λ i. refl, (in_y, tt)), (in_y', (k, (fit_chosen (v ∷ d ∷ p ∷ l ∷ y ∷ ws) o v p in_v in_p, in_d, tt)))))

pub fit_path : (ws : List ℕ) (o y l d p : ℕ) (e a : PlainCore) → Fit ws e → Fit (d ∷ p ∷ l ∷ y ∷ ws) a → Fit ws (n.for_each_node o e y l d p a)
fit_path ws o y l d p e a h k =
    let in_y : In y (y ∷ ws) = here y ws in
    let in_y' : In y (l ∷ y ∷ ws) = later y l (y ∷ ws) (here y ws) in
    let in_d : In d (d ∷ p ∷ l ∷ y ∷ ws) = here d (p ∷ l ∷ y ∷ ws) in
    (h, ((λ i. refl, (in_y, tt)), (λ i. refl, ((in_y', (in_d, k, refl)), tt))))

pub fit_witness : (ws : List ℕ) (o : ℕ) (q : Quantifier) (a : PlainCore) → Fit ws a → Fit ws (n.witness o q a)
fit_witness ws o quantifier.Some a h = (h, tt, tt)
fit_witness ws o quantifier.Every a h = (h, tt, tt)

pub fit_quantified : (ws : List ℕ) (o : ℕ) (q : Quantifier) (a : PlainCore) → Fit ws a → Fit ws (n.quantified o q a)
fit_quantified ws o quantifier.Some a h = (λ k. refl, (h, tt))
fit_quantified ws o quantifier.Every a h = (λ k. refl, (h, tt))

pub fit_converted : (ws : List ℕ) (o : ℕ) (t : Option SequenceTest) (a : PlainCore) → Fit ws a → Fit ws (n.converted o t a)
fit_converted ws o None a h = h
fit_converted ws o (Some t) a h = h

fit_typed : (ws : List ℕ) (o y : ℕ) (t : SequenceTest) → In y ws → Fit ws (n.typed o y t)
fit_typed ws o y t h = (h, h, refl)

-- the test of a bind's type, where what follows fits wherever the tested variable is in scope
pub fit_tested : (base o : ℕ) (t : Option SequenceTest) (y m : ℕ) (ws : List ℕ) (b : PlainCore) → In y ws →
    ((us : List ℕ) → Sub ws us → In ((bound base t y m).made) us → Fit us b) → Fit ws (n.tested o t y ((bound base t y m).made) b)
unfolding bound
fit_tested base o None y m ws b h rest = rest ws (sub_same ws) h
fit_tested base o (Some t) y m ws b h rest = (fit_typed ws o y t h, rest ((base + m) ∷ ws) (sub_more ws (base + m)) (here (base + m) ws))

pub fit_tested_bind : (base o : ℕ) (t : Option SequenceTest) (y m : ℕ) (ws : List ℕ) (ts : c.Binds) (after : List ℕ → Type 0) → In y ws →
    ((us : List ℕ) → Sub ws us → In ((bound base t y m).made) us → FitBinds us ts after) → FitBinds ws (n.tested_bind o t y ((bound base t y m).made) ts) after
unfolding bound
fit_tested_bind base o None y m ws ts after h rest = rest ws (sub_same ws) h
fit_tested_bind base o (Some t) y m ws ts after h rest = (fit_typed ws o y t h, rest ((base + m) ∷ ws) (sub_more ws (base + m)) (here (base + m) ws))

pub fit_run : (ws : List ℕ) (b : Bool) (o : ℕ) (t : Text) (more : PlainCores) → FitAll ws more → FitAll ws (cond b more (c.one_core (n.text_node o t) more))
fit_run ws true o t more h = h
fit_run ws false o t more h = ((λ k. refl, tt, tt), h)

pub fit_brace : (ws : List ℕ) (b : Bool) (o : ℕ) (a : PlainCore) (more : PlainCores) → Fit ws a → FitAll ws more →
    FitAll ws (cond b (c.one_core (n.text_node o []) (c.one_core a more)) (c.one_core a more))
fit_brace ws true o a more h hs = ((λ k. refl, tt, tt), (h, hs))
fit_brace ws false o a more h hs = (h, hs)

-- calls of built-in functions
one_alone : (k : ℕ) → nat_eq (suc (suc k)) 1 ≡ true → ⊥
one_alone k e = grind (arith, e)

one_of_two : (k : ℕ) → (nat_eq (suc k) 0 || nat_eq (suc k) 1) ≡ true → nat_eq (suc k) 1 ≡ true
one_of_two k e = grind (arith, e)

fit_cast : (ws : List ℕ) (o : ℕ) (kind : AtomKind) (g : Fun) (as' : PlainCores) → nat_eq (long as') 1 ≡ true → FitAll ws as' → Fit ws (n.cast_to o kind g as')
fit_cast ws o kind g c.no_cores e hs = absurd (true≢false (sym e))
fit_cast ws o kind g (c.one_core a c.no_cores) e hs = hs.0
fit_cast ws o kind g (c.one_core a (c.one_core b as')) e hs = absurd (one_alone (long as') e)

-- a function that takes one argument, or the context item
TakesOne : Fun → Type 0
TakesOne g = (as' : PlainCores) (k : ℕ) → nat_eq (long as') 1 ≡ true → rule_fits (Apply g) (exprs_from k as') ≡ true

fit_of_dot : (ws : List ℕ) (o : ℕ) (g : Fun) (as' : PlainCores) (d : PlainCore) → TakesOne g → Fit ws d →
    (nat_eq (long as') 0 || nat_eq (long as') 1) ≡ true → FitAll ws as' → Fit ws (n.of_dot o g as' d)
unfolding TakesOne
fit_of_dot ws o g c.no_cores d one h e hs = (λ k. one (n.one d) k refl, (h, tt))
fit_of_dot ws o g (c.one_core a as') d one h e hs = (λ k. one (c.one_core a as') k (one_of_two (long as') e), hs)

with_length : (g : Fun) (as' : PlainCores) (k : ℕ) → takes g (long as') ≡ true → takes g (law.how_many (exprs_from k as')) ≡ true
with_length g as' k e = subst (λ i. takes g i ≡ true) (sym (long_same k as')) e

text_of_dot : (ws : List ℕ) (o : ℕ) (f : Option Focus) → FocusIn f ws → Fit ws (c.Call o fun.StringOf (n.one (n.dot_at o f)))
text_of_dot ws o f h = (λ k. refl, (fit_dot ws o f h, tt))

pub fit_known : (ws : List ℕ) (o : ℕ) (g : Fun) (as' : PlainCores) (f : Option Focus) → can_call g (long as') ≡ true → FocusIn f ws → FitAll ws as' →
    Fit ws (n.built_in_call o g as' f)
unfolding TakesOne
fit_known ws o fun.Or as' f e h hs = absurd (true≢false (sym e))
fit_known ws o fun.And as' f e h hs = absurd (true≢false (sym e))
fit_known ws o fun.Position as' f e h hs = fit_place ws o f h
fit_known ws o fun.Last as' f e h hs = fit_last ws o f h
fit_known ws o fun.Error as' f e h hs = refl
fit_known ws o fun.XsInteger as' f e h hs = fit_cast ws o _ _ as' e hs
fit_known ws o fun.XsString as' f e h hs = fit_cast ws o _ _ as' e hs
fit_known ws o fun.XsBoolean as' f e h hs = fit_cast ws o _ _ as' e hs
fit_known ws o fun.XsUntypedAtomic as' f e h hs = fit_cast ws o _ _ as' e hs
fit_known ws o fun.Root as' f e h hs = fit_of_dot ws o fun.Root as' (n.dot_at o f) (λ bs k p. with_length fun.Root bs k p) (fit_dot ws o f h) e hs
fit_known ws o fun.StringOf as' f e h hs = fit_of_dot ws o fun.StringOf as' (n.dot_at o f) (λ bs k p. with_length fun.StringOf bs k p) (fit_dot ws o f h) e hs
fit_known ws o fun.Name as' f e h hs = fit_of_dot ws o fun.Name as' (n.dot_at o f) (λ bs k p. with_length fun.Name bs k p) (fit_dot ws o f h) e hs
fit_known ws o fun.LocalName as' f e h hs = fit_of_dot ws o fun.LocalName as' (n.dot_at o f) (λ bs k p. with_length fun.LocalName bs k p) (fit_dot ws o f h) e hs
fit_known ws o fun.StringLength as' f e h hs =
    fit_of_dot ws o fun.StringLength as' (c.Call o fun.StringOf (n.one (n.dot_at o f))) (λ bs k p. with_length fun.StringLength bs k p) (text_of_dot ws o f h) e hs
fit_known ws o fun.NormalizeSpace as' f e h hs =
    fit_of_dot ws o fun.NormalizeSpace as' (c.Call o fun.StringOf (n.one (n.dot_at o f))) (λ bs k p. with_length fun.NormalizeSpace bs k p) (text_of_dot ws o f h) e hs
fit_known ws o g as' f e h hs = (λ k. with_length g as' k e, hs)
