-- The order of tuples whose keys can be compared: by whether there is a value, by the value, and then by the later keys.
use Rattle.std.proofs.Common.{◌≡◌, Bool, true, false, cond, not, ◌&&◌, ◌||◌, List, [], ◌∷◌, ◌++◌, map, refl, ap, ◌∙◌, arith}
use Rattle.std.proofs.lemmas.Bool.{and_parts}
use Rattle.std.specs.Prelude.{pos, int_lt, Some, None}
use Rattle.std.specs.List.{list_any, flat_map}
use Rattle.std.proofs.lemmas.Bool.Decides.{nat_tests}
use Rattle.xq_base.specs.declared.code.Code.TheVariants as c
use Rattle.xq_base.specs.declared.fun.AtomKind.{AtomKind}
use Rattle.xq_base.specs.declared.fun.AtomKind.TheVariants as k
use Rattle.xq_base.specs.Answers.{Value, Fault as Refused, then_rule}
use Rattle.xq_base.specs.Texts.{Text, text_eq, text_less}
use Rattle.xq_base.specs.Atoms.{Atom, IntAtom, TextAtom, UntypedAtom, BoolAtom, as_string, kind_of_atom, atom_kind_eq}
use Rattle.xq_base.specs.Comparisons.{int_eq, bool_eq}
use Rattle.doc_table.specs.Orders.{put, in_order}
use Rattle.doc_table.specs.Values.{Items, item_of_atom, data_of}
use Rattle.plan_dag.specs.Rows.{key_less}
use Rattle.core_meaning.specs.Expr.{Order}
use Rattle.core_meaning.specs.Sorting.{Cell, read_key, alike, all_alike, alike_with, lines_alike, absent_first, cell_before, cell_ties, cells_before, bodies, sorted_lines, sorted_answer}
use Rattle.lift_laws.specs.Sums.{AllOf}
use Rattle.lift_laws.specs.Shapes.{bare}
use Rattle.lift_laws.proofs.Picks.{all_mono}
use Rattle.lift_laws.proofs.Values.{all_two}
use Rattle.lift_laws.proofs.WeakOrders.{Weak, lex, none_weak, lex_weak, values_weak, order_hold}
use Rattle.lift_laws.proofs.KeyCells.{compared_of, head_in, tuple_at, cells_at, line_at, some_unfit, some_two, lines_are, keys_unfit}

-- the value of a key, and whether there is one
abbrev pub first_or : List Atom → Atom
first_or [] = IntAtom (pos 0)
first_or (a ∷ as') = a

abbrev pub presence : Order → List Atom → Atom
presence o [] = BoolAtom (not (absent_first o))
presence o (a ∷ as') = BoolAtom (absent_first o)

abbrev pub as_compared : {X : Type 0} → (X → Items) → X → List Atom
as_compared g l = compared_of (g l)

module _ {X : Type 0} where
  abbrev pub by_presence : Order → (X → List Atom) → X → X → Bool
  by_presence o A l m = key_less bare false (item_of_atom (presence o (A l))) (item_of_atom (presence o (A m)))

  abbrev pub by_first : Order → (X → List Atom) → X → X → Bool
  by_first o A l m = key_less bare o.descending (item_of_atom (first_or (A l))) (item_of_atom (first_or (A m)))

  abbrev pub by_all : List Order → List (X → List Atom) → X → X → Bool
  by_all [] As l m = false
  by_all (o ∷ os) [] l m = false
  by_all (o ∷ os) (A ∷ As) l m = lex (by_presence o A) (lex (by_first o A) (by_all os As)) l m

  pub all_weak : (os : List Order) (As : List (X → List Atom)) → Weak (by_all os As)
  all_weak [] As = none_weak
  all_weak (o ∷ os) [] = none_weak
  all_weak (o ∷ os) (A ∷ As) = lex_weak (by_presence o A) (lex (by_first o A) (by_all os As)) (values_weak false (λ l. presence o (A l))) (lex_weak (by_first o A) (by_all os As) (values_weak o.descending (λ l. first_or (A l))) (all_weak os As))

-- by whether there is a value, by the value, and then by the rest
abbrev ranked : Bool → Bool → Bool → Bool → Bool → Bool
ranked p q r s rest = p || ((not p && not q) && (r || ((not r && not s) && rest)))

abbrev pub by_one : Order → List Atom → List Atom → Bool → Bool
by_one o as' bs rest =
    ranked (key_less bare false (item_of_atom (presence o as')) (item_of_atom (presence o bs))) (key_less bare false (item_of_atom (presence o bs)) (item_of_atom (presence o as')))
    (key_less bare o.descending (item_of_atom (first_or as')) (item_of_atom (first_or bs))) (key_less bare o.descending (item_of_atom (first_or bs)) (item_of_atom (first_or as'))) rest

neither : (b d rest : Bool) → rest ≡ ranked (not b && b) (not b && b) (cond d false false) (cond d false false) rest
neither true true rest = refl
neither true false rest = refl
neither false true rest = refl
neither false false rest = refl

second_only : (b r s rest : Bool) → (b || (false && rest)) ≡ ranked (not (not b) && b) (not b && not b) r s rest
second_only true r s rest = refl
second_only false r s rest = refl

first_only : (b r s rest : Bool) → (not b || (false && rest)) ≡ ranked (not b && not b) (not (not b) && b) r s rest
first_only true r s rest = refl
first_only false r s rest = refl

both_there : (b d p q same rest : Bool) → same ≡ (not p && not q) → (cond d q p || (same && rest)) ≡ ranked (not b && b) (not b && b) (cond d q p) (cond d p q) rest
both_there b d p q same rest e = ap (λ z. cond d q p || (z && rest)) e ∙ go b d p q
  where
    go : (b d p q : Bool) → (cond d q p || ((not p && not q) && rest)) ≡ ranked (not b && b) (not b && b) (cond d q p) (cond d p q) rest
    go true true true true = refl
    go true true true false = refl
    go true true false true = refl
    go true true false false = refl
    go true false true q = refl
    go true false false true = refl
    go true false false false = refl
    go false true true true = refl
    go false true true false = refl
    go false true false true = refl
    go false true false false = refl
    go false false true q = refl
    go false false false true = refl
    go false false false false = refl

-- values of one kind are equal where none is less
not_or : (p q : Bool) → not (p || q) ≡ (not p && not q)
not_or true q = refl
not_or false q = refl

same_texts : (t u : Text) → text_eq t u ≡ (not (text_less t u) && not (text_less u t))
same_texts [] [] = refl
same_texts [] (d ∷ us) = refl
same_texts (c ∷ ts) [] = refl
same_texts (c ∷ ts) (d ∷ us) = grind (arith, nat_tests, same_texts ts us)

same_booleans : (a b : Bool) → bool_eq a b ≡ (not (not a && b) && not (not b && a))
same_booleans true true = refl
same_booleans true false = refl
same_booleans false true = refl
same_booleans false false = refl

abbrev Steps : Order → List Atom → List Atom → Bool → Type 0
Steps o as' bs rest =
    (cell_before o (read_key (head_in as')) (read_key (head_in bs)) || (cell_ties (read_key (head_in as')) (read_key (head_in bs)) && rest))
    ≡ by_one o (map as_string as') (map as_string bs) rest

one_key : (o : Order) (as' bs : List Atom) (rest : Bool) → alike (read_key (head_in as')) (read_key (head_in bs)) ≡ true → Steps o as' bs rest
one_key o [] [] rest e = neither (not (absent_first o)) o.descending rest
one_key o [] (b ∷ bs) rest e = second_only (absent_first o) _ _ rest
one_key o (a ∷ as') [] rest e = first_only (absent_first o) _ _ rest
one_key o (IntAtom y ∷ as') (IntAtom z ∷ bs) rest e = both_there (absent_first o) o.descending (int_lt y z) (int_lt z y) (int_eq y z) rest (not_or (int_lt y z) (int_lt z y))
one_key o (IntAtom y ∷ as') (TextAtom u ∷ bs) rest e = cc
one_key o (IntAtom y ∷ as') (UntypedAtom u ∷ bs) rest e = cc
one_key o (IntAtom y ∷ as') (BoolAtom d ∷ bs) rest e = cc
one_key o (TextAtom t ∷ as') (IntAtom z ∷ bs) rest e = cc
one_key o (TextAtom t ∷ as') (TextAtom u ∷ bs) rest e = both_there (absent_first o) o.descending (text_less t u) (text_less u t) (text_eq t u) rest (same_texts t u)
one_key o (TextAtom t ∷ as') (UntypedAtom u ∷ bs) rest e = both_there (absent_first o) o.descending (text_less t u) (text_less u t) (text_eq t u) rest (same_texts t u)
one_key o (TextAtom t ∷ as') (BoolAtom d ∷ bs) rest e = cc
one_key o (UntypedAtom t ∷ as') (IntAtom z ∷ bs) rest e = cc
one_key o (UntypedAtom t ∷ as') (TextAtom u ∷ bs) rest e = both_there (absent_first o) o.descending (text_less t u) (text_less u t) (text_eq t u) rest (same_texts t u)
one_key o (UntypedAtom t ∷ as') (UntypedAtom u ∷ bs) rest e = both_there (absent_first o) o.descending (text_less t u) (text_less u t) (text_eq t u) rest (same_texts t u)
one_key o (UntypedAtom t ∷ as') (BoolAtom d ∷ bs) rest e = cc
one_key o (BoolAtom a ∷ as') (IntAtom z ∷ bs) rest e = cc
one_key o (BoolAtom a ∷ as') (TextAtom u ∷ bs) rest e = cc
one_key o (BoolAtom a ∷ as') (UntypedAtom u ∷ bs) rest e = cc
one_key o (BoolAtom a ∷ as') (BoolAtom b ∷ bs) rest e = both_there (absent_first o) o.descending (not a && b) (not b && a) (bool_eq a b) rest (same_booleans a b)

-- alike, in either order
kinds_turn : (j i : AtomKind) → atom_kind_eq j i ≡ atom_kind_eq i j
kinds_turn k.Integer k.Integer = refl
kinds_turn k.Integer k.Text = refl
kinds_turn k.Integer k.Boolean = refl
kinds_turn k.Integer k.Untyped = refl
kinds_turn k.Text k.Integer = refl
kinds_turn k.Text k.Text = refl
kinds_turn k.Text k.Boolean = refl
kinds_turn k.Text k.Untyped = refl
kinds_turn k.Boolean k.Integer = refl
kinds_turn k.Boolean k.Text = refl
kinds_turn k.Boolean k.Boolean = refl
kinds_turn k.Boolean k.Untyped = refl
kinds_turn k.Untyped k.Integer = refl
kinds_turn k.Untyped k.Text = refl
kinds_turn k.Untyped k.Boolean = refl
kinds_turn k.Untyped k.Untyped = refl

alike_turn : (x d : Cell) → alike x d ≡ alike d x
alike_turn None None = refl
alike_turn None (Some b) = refl
alike_turn (Some a) None = refl
alike_turn (Some a) (Some b) = kinds_turn (kind_of_atom a) (kind_of_atom b)

all_turn : (cs ds : List Cell) → all_alike cs ds ≡ all_alike ds cs
all_turn [] [] = refl
all_turn [] (d ∷ ds) = refl
all_turn (x ∷ cs) [] = refl
all_turn (x ∷ cs) (d ∷ ds) = ap (λ b. b && all_alike cs ds) (alike_turn x d) ∙ ap (λ b. alike d x && b) (all_turn cs ds)

all_self : (cs : List Cell) → all_alike cs cs ≡ true
all_self [] = refl
all_self (None ∷ cs) = all_self cs
all_self (Some a ∷ cs) = ap (λ b. b && all_alike cs cs) (own (kind_of_atom a)) ∙ all_self cs
  where
    own : (j : AtomKind) → atom_kind_eq j j ≡ true
    own k.Integer = refl
    own k.Text = refl
    own k.Boolean = refl
    own k.Untyped = refl

-- orders that agree on all pairs, and the order of what is made of each
put_agree : {A : Type 0} (lt gt : A → A → Bool) (x : A) (ys : List A) → AllOf (λ y. lt y x ≡ gt y x) ys → put lt x ys ≡ put gt x ys
put_agree lt gt x [] a = refl
put_agree lt gt x (y ∷ ys) a = ap (λ b. cond b (y ∷ put lt x ys) (x ∷ y ∷ ys)) a.0 ∙ ap (λ l. cond (gt y x) (y ∷ l) (x ∷ y ∷ ys)) (put_agree lt gt x ys a.1)

pub order_agree : {A : Type 0} (lt gt : A → A → Bool) (xs : List A) → AllOf (λ x. AllOf (λ y. lt x y ≡ gt x y) xs) xs → in_order lt xs ≡ in_order gt xs
order_agree lt gt [] a = refl
order_agree lt gt (x ∷ xs) a =
    ap (put lt x) (order_agree lt gt xs (all_mono _ _ (λ y (h : AllOf (λ z. lt y z ≡ gt y z) (x ∷ xs)). h.1) xs a.1))
    ∙ put_agree lt gt x (in_order gt xs) (order_hold (λ y. lt y x ≡ gt y x) gt xs (all_mono _ _ (λ y (h : AllOf (λ z. lt y z ≡ gt y z) (x ∷ xs)). h.0) xs a.1))

order_map : {A B : Type 0} (f : A → B) (lt : B → B → Bool) (xs : List A) → in_order lt (map f xs) ≡ map f (in_order (λ x y. lt (f x) (f y)) xs)
order_map f lt [] = refl
order_map f lt (x ∷ xs) = ap (put lt (f x)) (order_map f lt xs) ∙ put_map (in_order (λ x y. lt (f x) (f y)) xs)
  where
    put_map : (ys : List _) → put lt (f x) (map f ys) ≡ map f (put (λ x y. lt (f x) (f y)) x ys)
    put_map [] = refl
    put_map (y ∷ ys) =
        let r = put_map ys in
        elim (lt (f y) (f x)) as (λ b. cond b (f y ∷ put lt (f x) (map f ys)) (f x ∷ f y ∷ map f ys) ≡ map f (cond b (y ∷ put (λ x y. lt (f x) (f y)) x ys) (x ∷ y ∷ ys))) [ true ↦ ap (λ l. f y ∷ l) r | false ↦ refl ]

module _ {X : Type 0} (body : X → Items) where
  abbrev Alike : List (X → Items) → X → X → Type 0
  Alike gs l m = all_alike (cells_at body gs l) (cells_at body gs m) ≡ true

  -- alike in pairs, so each with each
  with_each : (gs : List (X → Items)) (l : X) (ms : List X) → alike_with (line_at body gs l) (map (line_at body gs) ms) ≡ true → AllOf (Alike gs l) ms
  with_each gs l [] e = tt
  with_each gs l (m ∷ ms) e = let p = and_parts (all_alike (cells_at body gs l) (cells_at body gs m)) (alike_with (line_at body gs l) (map (line_at body gs) ms)) e in (p.0, with_each gs l ms p.1)

  each_alike : (gs : List (X → Items)) (ls : List X) → lines_alike (map (line_at body gs) ls) ≡ true → AllOf (λ l. AllOf (Alike gs l) ls) ls
  each_alike gs [] e = tt
  each_alike gs (l ∷ ls) e =
      let p = and_parts (alike_with (line_at body gs l) (map (line_at body gs) ls)) (lines_alike (map (line_at body gs) ls)) e in
      let a = with_each gs l ls p.0 in (
        (all_self (cells_at body gs l), a),
        all_two (Alike gs l) (λ m. AllOf (Alike gs m) ls) (λ m. AllOf (Alike gs m) (l ∷ ls)) (λ m h r. (all_turn (cells_at body gs m) (cells_at body gs l) ∙ h, r)) ls a (each_alike gs ls p.1),
      )

  -- by the keys in turn
  before_is : (os : List Order) (gs : List (X → Items)) (l m : X) → Alike gs l m → cells_before os (cells_at body gs l) (cells_at body gs m) ≡ by_all os (map as_compared gs) l m
  before_is [] gs l m e = refl
  before_is (o ∷ os) [] l m e = refl
  before_is (o ∷ os) (g ∷ gs) l m e =
      let p = and_parts (alike (read_key (head_in (data_of (g l)))) (read_key (head_in (data_of (g m))))) (all_alike (cells_at body gs l) (cells_at body gs m)) e in
      one_key o (data_of (g l)) (data_of (g m)) (cells_before os (cells_at body gs l) (cells_at body gs m)) p.0
      ∙ ap (by_one o (as_compared g l) (as_compared g m)) (before_is os gs l m p.1)

  bodies_are : (gs : List (X → Items)) (ls : List X) → bodies (map (line_at body gs) ls) ≡ flat_map body ls
  bodies_are gs [] = refl
  bodies_are gs (l ∷ ls) = ap (λ vs. body l ++ vs) (bodies_are gs ls)

  in_turn : (os : List Order) (gs : List (X → Items)) (ls : List X) → lines_alike (map (line_at body gs) ls) ≡ true
      → bodies (in_order (λ l m. cells_before os l.cells m.cells) (map (line_at body gs) ls)) ≡ flat_map body (in_order (by_all os (map as_compared gs)) ls)
  in_turn os gs ls e =
      ap bodies (order_map (line_at body gs) (λ l m. cells_before os l.cells m.cells) ls)
      ∙ bodies_are gs (in_order (λ l m. cells_before os (cells_at body gs l) (cells_at body gs m)) ls)
      ∙ ap (flat_map body)
      (order_agree (λ l m. cells_before os (cells_at body gs l) (cells_at body gs m)) (by_all os (map as_compared gs)) ls
      (all_mono _ _ (λ l (h : AllOf (Alike gs l) ls). all_mono _ _ (λ m (a : Alike gs l m). before_is os gs l m a) ls h) ls (each_alike gs ls e)))

  -- the value where every key fits
  pub sorted_value : (os : List Order) (gs : List (X → Items)) (ls : List X) → some_unfit body gs ls ≡ false → sorted_answer os (map (tuple_at body gs) ls) ≡ Value (flat_map body (in_order (by_all os (map as_compared gs)) ls))
  sorted_value os gs ls e =
      let p = parts (list_any (some_two body gs) ls) (lines_alike (map (line_at body gs) ls)) (keys_unfit body gs ls ∙ e) in
      ap (λ x. then_rule x (sorted_lines os)) (lines_are body gs ls)
      ∙ ap (λ b. then_rule (cond b (Refused c.XPTY0004) (Value (map (line_at body gs) ls))) (sorted_lines os)) p.0
      ∙ ap (λ b. cond b (Value (bodies (in_order (λ l m. cells_before os l.cells m.cells) (map (line_at body gs) ls)))) (Refused c.XPTY0004)) p.1
      ∙ ap Value (in_turn os gs ls p.1)
    where
      parts : (a b : Bool) → (a || not b) ≡ false → (a ≡ false) × (b ≡ true)
      parts true b e = cc
      parts false true e = (refl, refl)
      parts false false e = cc
