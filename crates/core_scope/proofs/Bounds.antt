-- What is told refers only to variables of the prolog that are visible, so only to those that are declared.
use Rattle.std.proofs.Common.{◌≡◌, refl, subst, ℕ, zero, suc, ◌+◌, ◌<◌, ◌≤◌, length, Bool, true, false, cond, List, [], ◌∷◌, ◌++◌, Option, Some, None, ◌⊎◌, inl, inr, arith}
use Rattle.xq_base.specs.declared.code.Code.{Code}
use Rattle.xq_base.specs.declared.code.Code.TheVariants as code
use Rattle.xq_base.specs.Texts.{Text, text_eq}
use Rattle.xq_ast.specs.declared.leaf.Name.{Name}
use Rattle.xq_ast.specs.declared.leaf.Callee.{Callee}
use Rattle.xq_ast.specs.declared.leaf.Callee.TheVariants as callee
use Rattle.xq_ast.specs.declared.leaf.ReadType.{ReadType}
use Rattle.xq_ast.specs.declared.leaf.ReadType.TheVariants as t
use Rattle.xq_ast.specs.declared.leaf.ReadItem.{ReadItem}
use Rattle.xq_ast.specs.declared.leaf.ReadItem.TheVariants as i
use Rattle.core_scope.specs.declared.names.Visible.{Visible}
use Rattle.core_scope.specs.Syn.{Syn, Syns, Maybe, Binds, Keys, BuildName, Attributes, Values, Parts, Params, Declaration, read, how_many, how_many_params}
use Rattle.core_scope.specs.Syn as s
use Rattle.core_scope.specs.TypeNames.{atom_kind, item_named, cast_code}
use Rattle.core_scope.specs.Literals.{is_wide}
use Rattle.core_scope.specs.Names.{Scope, no_names, with_name, with_local, with_global, with_position, behind_for, behind_binds, Signature, function_of, is_there, is_taken, is_among}
use Rattle.core_scope.specs.Walk.{Facts, nothing, ◌with◌, amiss, amiss_where, refers_to, reference, call_facts, position_facts, item_facts, type_facts, bind_type_facts, cast_facts, walk, walk_all, walk_maybe, walk_binds, walk_keys, walk_name, walk_attributes, walk_values, walk_parts}
use Rattle.core_scope.specs.Prolog as prolog
use Rattle.core_scope.specs.Prolog.{signature_of, with_params, param_facts}
use Rattle.core_scope.specs.Refusals.{told_functions, function_at}
use Rattle.core_scope.specs.Gathering.{value_calls}
use Rattle.core_scope.proofs.Searching.{In}

-- the number of a variable that a name may stand for
abbrev number_of : Option Visible → Option ℕ
number_of None = None
number_of (Some v) = v.number

-- the visible variables of the prolog have numbers below this one
abbrev Within : ℕ → Scope → Type 0
Within n sc = (x : Text) (j : ℕ) → number_of (sc x) ≡ Some j → j < n

-- what is told refers to numbers below this one
abbrev Bounded : ℕ → Facts → Type 0
Bounded n f = (m : ℕ) → In m f.refers → m < n

none_within : (n : ℕ) → Within n no_names
none_within n = λ x j e. at j e
  where
    at : (j : ℕ) → number_of None ≡ Some j → j < n
    at j e = cc

named_within : (n : ℕ) (y : Text) (v : Option Visible) (sc : Scope) → ((j : ℕ) → number_of v ≡ Some j → j < n) → Within n sc → Within n (with_name y v sc)
named_within n y v sc p h = λ x j. at x j (text_eq y x)
  where
    at : (x : Text) (j : ℕ) (b : Bool) → number_of (cond b v (sc x)) ≡ Some j → j < n
    at x j true e = p j e
    at x j false e = h x j e

local_within : (n o : ℕ) (x : Text) (sc : Scope) → Within n sc → Within n (with_local o x sc)
local_within n o x sc h = named_within n x (Some (record { place = o; number = None })) sc (λ j e. at j e) h
  where
    at : (j : ℕ) → number_of (Some (record { place = o; number = None })) ≡ Some j → j < n
    at j e = cc

global_within : (n o : ℕ) (x : Text) (k : ℕ) (sc : Scope) → k < n → Within n sc → Within n (with_global o x k sc)
global_within n o x k sc l h = named_within n x (Some (record { place = o; number = Some k })) sc (λ j e. at j e) h
  where
    same : (j : ℕ) → number_of (Some (record { place = o; number = Some k })) ≡ Some j → k ≡ j
    same j e = cc

    at : (j : ℕ) → number_of (Some (record { place = o; number = Some k })) ≡ Some j → j < n
    at j e = subst (λ z. z < n) (same j e) l

position_within : (n : ℕ) (v : Option (ℕ × Text)) (sc : Scope) → Within n sc → Within n (with_position v sc)
position_within n None sc h = h
position_within n (Some v) sc h = local_within n v.0 v.1 sc h

for_within : (n o : ℕ) (x : Text) (v : Option (ℕ × Text)) (sc : Scope) → Within n sc → Within n (behind_for o x v sc)
for_within n o x v sc h = local_within n o x (with_position v sc) (position_within n v sc h)

binds_within : (n : ℕ) (bs : Binds read) (sc : Scope) → Within n sc → Within n (behind_binds bs sc)
binds_within n s.no_binds sc h = h
binds_within n (s.for_bind o x ty v e bs) sc h = binds_within n bs (behind_for o x v sc) (for_within n o x v sc h)
binds_within n (s.let_bind o x ty e bs) sc h = binds_within n bs (with_local o x sc) (local_within n o x sc h)

params_within : (n : ℕ) (ps : Params read) (sc : Scope) → Within n sc → Within n (with_params ps sc)
params_within n s.no_params sc h = h
params_within n (s.param o x ty ps) sc h = params_within n ps (with_local o x sc) (local_within n o x sc h)

-- facts of the leaves
none_bounded : (n : ℕ) → Bounded n nothing
none_bounded n m i = elim i [ ]

amiss_bounded : (n : ℕ) (c : Code) (o : ℕ) → Bounded n (amiss c o)
amiss_bounded n c o m i = elim i [ ]

either_in : (m : ℕ) (xs ys : List ℕ) → In m (xs ++ ys) → In m xs ⊎ In m ys
either_in m [] ys i = inr i
either_in m (x ∷ xs) ys (inl e) = inl (inl e)
either_in m (x ∷ xs) ys (inr i) = at (either_in m xs ys i)
  where
    at : In m xs ⊎ In m ys → In m (x ∷ xs) ⊎ In m ys
    at (inl i) = inl (inr i)
    at (inr i) = inr i

both : (n : ℕ) (f g : Facts) → Bounded n f → Bounded n g → Bounded n (f with g)
both n f g p q m i = at (either_in m f.refers g.refers i)
  where
    at : In m f.refers ⊎ In m g.refers → m < n
    at (inl i) = p m i
    at (inr i) = q m i

cond_bounded : (n : ℕ) (b : Bool) (f g : Facts) → Bounded n f → Bounded n g → Bounded n (cond b f g)
cond_bounded n true f g p q = p
cond_bounded n false f g p q = q

where_bounded : (n : ℕ) (b : Bool) (c : Code) (o : ℕ) → Bounded n (amiss_where b c o)
where_bounded n b c o = cond_bounded n b (amiss c o) nothing (amiss_bounded n c o) (none_bounded n)

refers_bounded : (n : ℕ) (v : Option ℕ) → ((j : ℕ) → v ≡ Some j → j < n) → Bounded n (refers_to v)
refers_bounded n None h = none_bounded n
refers_bounded n (Some k) h = λ m i. at m i
  where
    at : (m : ℕ) → In m (k ∷ []) → m < n
    at m (inl e) = subst (λ z. z < n) e (h k refl)
    at m (inr i) = elim i [ ]

reference_bounded : (n : ℕ) (v : Option Visible) (o : ℕ) → ((j : ℕ) → number_of v ≡ Some j → j < n) → Bounded n (reference v o)
reference_bounded n None o h = amiss_bounded n code.XPST0008 o
reference_bounded n (Some v) o h = refers_bounded n v.number h

call_bounded : (n : ℕ) (f : Option Callee) (o : ℕ) → Bounded n (call_facts f o)
call_bounded n None o = amiss_bounded n code.XPST0017 o
call_bounded n (Some (callee.Known f)) o = none_bounded n
call_bounded n (Some (callee.Declared j)) o = λ m i. elim i [ ]

position_bounded : (n : ℕ) (x : Text) (v : Option (ℕ × Text)) → Bounded n (position_facts x v)
position_bounded n x None = none_bounded n
position_bounded n x (Some v) = where_bounded n (text_eq x v.1) code.XQST0089 v.0

item_bounded : (n : ℕ) (x : ReadItem) → Bounded n (item_facts x)
item_bounded n i.Any = none_bounded n
item_bounded n (i.Kind k) = none_bounded n
item_bounded n (i.Named x) = cond_bounded n (is_there (item_named x.text)) nothing (amiss code.XPST0051 x.offset) (none_bounded n) (amiss_bounded n code.XPST0051 x.offset)

type_bounded : (n : ℕ) (ty : ReadType) → Bounded n (type_facts ty)
type_bounded n (t.Empty o) = none_bounded n
type_bounded n (t.Of o item occurs) = item_bounded n item

types_bounded : (n : ℕ) (ty : Option ReadType) → Bounded n (bind_type_facts ty)
types_bounded n None = none_bounded n
types_bounded n (Some ty) = type_bounded n ty

cast_bounded : (n : ℕ) (x : Name Text) → Bounded n (cast_facts x)
cast_bounded n x = cond_bounded n (is_there (atom_kind x.text)) nothing (amiss (cast_code x.text) x.offset) (none_bounded n) (amiss_bounded n (cast_code x.text) x.offset)

param_bounded : (n : ℕ) (ps : Params read) (before : List Text) → Bounded n (param_facts ps before)
param_bounded n s.no_params before = none_bounded n
param_bounded n (s.param o x ty ps) before =
    both n (amiss_where (is_among before x) code.XQST0039 o) (bind_type_facts ty with param_facts ps (x ∷ before)) (where_bounded n (is_among before x) code.XQST0039 o)
    (both n (bind_type_facts ty) (param_facts ps (x ∷ before)) (types_bounded n ty) (param_bounded n ps (x ∷ before)))

module _ (fs : List Signature) (n : ℕ) where
  mutual
    unfolding walk

    walk_bounded : (e : Syn read) (sc : Scope) → Within n sc → Bounded n (walk fs e sc)
    walk_bounded (s.comma o a es) sc h = both n (walk fs a sc) (walk_all fs es sc) (walk_bounded a sc h) (all_bounded es sc h)
    walk_bounded (s.flwor o bs w ks e) sc h =
        let later : Within n (behind_binds bs sc) = binds_within n bs sc h in
        both n (walk_binds fs bs sc) (walk_maybe fs w (behind_binds bs sc) with walk_keys fs ks (behind_binds bs sc) with walk fs e (behind_binds bs sc)) (binds_bounded bs sc h)
        (both n (walk_maybe fs w (behind_binds bs sc)) (walk_keys fs ks (behind_binds bs sc) with walk fs e (behind_binds bs sc)) (maybe_bounded w (behind_binds bs sc) later)
        (both n (walk_keys fs ks (behind_binds bs sc)) (walk fs e (behind_binds bs sc)) (keys_bounded ks (behind_binds bs sc) later) (walk_bounded e (behind_binds bs sc) later)))
    walk_bounded (s.quantified o q bs e) sc h =
        both n (walk_binds fs bs sc) (walk fs e (behind_binds bs sc)) (binds_bounded bs sc h) (walk_bounded e (behind_binds bs sc) (binds_within n bs sc h))
    walk_bounded (s.conditional o a b d) sc h =
        both n (walk fs a sc) (walk fs b sc with walk fs d sc) (walk_bounded a sc h) (both n (walk fs b sc) (walk fs d sc) (walk_bounded b sc h) (walk_bounded d sc h))
    walk_bounded (s.binary o f a b) sc h = both n (walk fs a sc) (walk fs b sc) (walk_bounded a sc h) (walk_bounded b sc h)
    walk_bounded (s.signed o g a) sc h = walk_bounded a sc h
    walk_bounded (s.instance o a ty) sc h = both n (walk fs a sc) (type_facts ty) (walk_bounded a sc h) (type_bounded n ty)
    walk_bounded (s.treat o a ty) sc h = both n (walk fs a sc) (type_facts ty) (walk_bounded a sc h) (type_bounded n ty)
    walk_bounded (s.castable o a k m) sc h = both n (walk fs a sc) (cast_facts k) (walk_bounded a sc h) (cast_bounded n k)
    walk_bounded (s.cast o a k m) sc h = both n (walk fs a sc) (cast_facts k) (walk_bounded a sc h) (cast_bounded n k)
    walk_bounded (s.root o) sc h = none_bounded n
    walk_bounded (s.step o x test a qs) sc h = both n (walk_maybe fs a sc) (walk_all fs qs sc) (maybe_bounded a sc h) (all_bounded qs sc h)
    walk_bounded (s.through o a b) sc h = both n (walk fs a sc) (walk fs b sc) (walk_bounded a sc h) (walk_bounded b sc h)
    walk_bounded (s.filtered o a qs) sc h = both n (walk fs a sc) (walk_all fs qs sc) (walk_bounded a sc h) (all_bounded qs sc h)
    walk_bounded (s.integer o x) sc h = where_bounded n (is_wide x) code.FOAR0002 o
    walk_bounded (s.text o x) sc h = none_bounded n
    walk_bounded (s.var o x) sc h = reference_bounded n (sc x) o (h x)
    walk_bounded (s.paren o e) sc h = maybe_bounded e sc h
    walk_bounded (s.dot o) sc h = none_bounded n
    walk_bounded (s.call o f es) sc h =
        both n (call_facts (function_of fs f (how_many es)) o) (walk_all fs es sc) (call_bounded n (function_of fs f (how_many es)) o) (all_bounded es sc h)
    walk_bounded (s.build o k x e) sc h = both n (walk_name fs x sc) (walk_maybe fs e sc) (name_bounded x sc h) (maybe_bounded e sc h)
    walk_bounded (s.element o x as' ps) sc h =
        both n (walk_attributes fs as' [] sc) (walk_parts fs ps sc) (attributes_bounded as' [] sc h) (parts_bounded ps sc h)
    walk_bounded (s.comment o x) sc h = none_bounded n
    walk_bounded (s.instruction o x y) sc h = none_bounded n

    all_bounded : (es : Syns read) (sc : Scope) → Within n sc → Bounded n (walk_all fs es sc)
    all_bounded s.no_more sc h = none_bounded n
    all_bounded (s.one_more e es) sc h = both n (walk fs e sc) (walk_all fs es sc) (walk_bounded e sc h) (all_bounded es sc h)

    maybe_bounded : (e : Maybe read) (sc : Scope) → Within n sc → Bounded n (walk_maybe fs e sc)
    maybe_bounded s.absent sc h = none_bounded n
    maybe_bounded (s.present e) sc h = walk_bounded e sc h

    binds_bounded : (bs : Binds read) (sc : Scope) → Within n sc → Bounded n (walk_binds fs bs sc)
    binds_bounded s.no_binds sc h = none_bounded n
    binds_bounded (s.for_bind o x ty v e bs) sc h =
        both n (bind_type_facts ty) (position_facts x v with walk fs e sc with walk_binds fs bs (behind_for o x v sc)) (types_bounded n ty)
        (both n (position_facts x v) (walk fs e sc with walk_binds fs bs (behind_for o x v sc)) (position_bounded n x v)
        (both n (walk fs e sc) (walk_binds fs bs (behind_for o x v sc)) (walk_bounded e sc h) (binds_bounded bs (behind_for o x v sc) (for_within n o x v sc h))))
    binds_bounded (s.let_bind o x ty e bs) sc h =
        both n (bind_type_facts ty) (walk fs e sc with walk_binds fs bs (with_local o x sc)) (types_bounded n ty)
        (both n (walk fs e sc) (walk_binds fs bs (with_local o x sc)) (walk_bounded e sc h) (binds_bounded bs (with_local o x sc) (local_within n o x sc h)))

    keys_bounded : (ks : Keys read) (sc : Scope) → Within n sc → Bounded n (walk_keys fs ks sc)
    keys_bounded s.no_keys sc h = none_bounded n
    keys_bounded (s.one_key e down greatest ks) sc h = both n (walk fs e sc) (walk_keys fs ks sc) (walk_bounded e sc h) (keys_bounded ks sc h)

    name_bounded : (x : BuildName read) (sc : Scope) → Within n sc → Bounded n (walk_name fs x sc)
    name_bounded s.no_name sc h = none_bounded n
    name_bounded (s.named x) sc h = none_bounded n
    name_bounded (s.computed e) sc h = walk_bounded e sc h

    attributes_bounded : (as' : Attributes read) (before : List Text) (sc : Scope) → Within n sc → Bounded n (walk_attributes fs as' before sc)
    attributes_bounded s.no_attributes before sc h = none_bounded n
    attributes_bounded (s.attribute o x vs as') before sc h =
        both n (amiss_where (is_among before x) code.XQST0040 o) (walk_values fs vs sc with walk_attributes fs as' (x ∷ before) sc) (where_bounded n (is_among before x) code.XQST0040 o)
        (both n (walk_values fs vs sc) (walk_attributes fs as' (x ∷ before) sc) (values_bounded vs sc h) (attributes_bounded as' (x ∷ before) sc h))

    values_bounded : (vs : Values read) (sc : Scope) → Within n sc → Bounded n (walk_values fs vs sc)
    values_bounded s.no_values sc h = none_bounded n
    values_bounded (s.value_run w vs) sc h = values_bounded vs sc h
    values_bounded (s.value_brace e vs) sc h = both n (walk fs e sc) (walk_values fs vs sc) (walk_bounded e sc h) (values_bounded vs sc h)

    parts_bounded : (ps : Parts read) (sc : Scope) → Within n sc → Bounded n (walk_parts fs ps sc)
    parts_bounded s.no_parts sc h = none_bounded n
    parts_bounded (s.run r ps) sc h = parts_bounded ps sc h
    parts_bounded (s.brace e ps) sc h = both n (walk fs e sc) (walk_parts fs ps sc) (walk_bounded e sc h) (parts_bounded ps sc h)
    parts_bounded (s.inner e ps) sc h = both n (walk fs e sc) (walk_parts fs ps sc) (walk_bounded e sc h) (parts_bounded ps sc h)

  -- each function, behind variables of the prolog of which all have numbers below this one
  told_bounded : (ds : List (Declaration read)) (before : List Signature) (names : List Text) (j : ℕ) (sc : Scope) → j + length (value_calls (prolog.told fs ds before names j sc)) ≤ n → Within n sc →
      (k m : ℕ) → In m ((function_at (told_functions (prolog.told fs ds before names j sc)) k).facts.refers) → m < n
  told_bounded [] before names j sc l h k m i = elim i [ ]
  told_bounded (s.function o at x ps ty e ∷ ds) before names j sc l h zero m i =
      let taken : Facts = amiss_where (is_taken before x (how_many_params ps)) code.XQST0034 at in
      let body : Facts = walk fs e (with_params ps sc) in
      both n taken (param_facts ps [] with bind_type_facts ty with body) (where_bounded n (is_taken before x (how_many_params ps)) code.XQST0034 at)
      (both n (param_facts ps []) (bind_type_facts ty with body) (param_bounded n ps [])
      (both n (bind_type_facts ty) body (types_bounded n ty) (walk_bounded e (with_params ps sc) (params_within n ps sc h)))) m i
  told_bounded (s.function o at x ps ty e ∷ ds) before names j sc l h (suc k) m i =
      told_bounded ds (before ++ signature_of x ps ∷ []) names j sc l h k m i
  told_bounded (s.variable o at x ty e ∷ ds) before names j sc l h k m i =
      told_bounded ds before (x ∷ names) (suc j) (with_global at x j sc) (omega (arith, l)) (global_within n at x j sc (omega (arith, l)) h) k m i

-- of a query whose prolog has so many variables
pub all_bounded_by : (fs : List Signature) (ds : List (Declaration read)) (k m : ℕ) → In m ((function_at (told_functions (prolog.told fs ds [] [] 0 no_names)) k).facts.refers) →
    m < length (value_calls (prolog.told fs ds [] [] 0 no_names))
all_bounded_by fs ds k m i =
    let n : ℕ = length (value_calls (prolog.told fs ds [] [] 0 no_names)) in
    told_bounded fs n ds [] [] 0 no_names (omega arith) (none_within n) k m i
