-- What sorted tuples answer, key by key: which keys can't be compared.
use Rattle.std.proofs.Common.{◌≡◌, Bool, true, false, cond, not, ◌&&◌, ◌||◌, List, [], ◌∷◌, map, refl, sym, ap, ◌∙◌, Option, Some, None}
use Rattle.std.proofs.lemmas.Bool.{or_parts}
use Rattle.std.proofs.Math.Bool.{not-not, or-false}
use Rattle.std.specs.List.{list_any}
use Rattle.xq_base.specs.declared.code.Code.TheVariants as c
use Rattle.xq_base.specs.declared.fun.AtomKind.{AtomKind}
use Rattle.xq_base.specs.declared.fun.AtomKind.TheVariants as k
use Rattle.xq_base.specs.Answers.{Value, Fault as Refused, with_value, both_of, then_rule}
use Rattle.xq_base.specs.Atoms.{Atom, IntAtom, TextAtom, UntypedAtom, BoolAtom, as_string, kind_of_atom, atom_kind_eq}
use Rattle.xq_base.specs.Comparisons.{at_most_one}
use Rattle.xq_base.specs.Aggregates.{all_of}
use Rattle.doc_table.specs.Values.{Items, data_of}
use Rattle.core_meaning.specs.Expr.{Order}
use Rattle.core_meaning.specs.Sorting.{Tuple, Cell, Line, read_key, key_cell, line_of, alike, all_alike, alike_with, lines_alike, sorted_lines, sorted_answer}
use Rattle.lift_laws.proofs.Marks.{fault_in}
use Rattle.lift_laws.proofs.GeneralCase.{any_ext}

-- the values of a key as they are compared
abbrev pub compared_of : Items → List Atom
compared_of vs = map as_string (data_of vs)

abbrev pub two : List Atom → Bool
two (a ∷ b ∷ as') = true
two _ = false

abbrev pub head_in : List Atom → Option Atom
head_in [] = None
head_in (a ∷ as') = Some a

-- an atomic value as it is compared is of a kind
abbrev pub of_kind : AtomKind → Atom → Bool
of_kind kind a = atom_kind_eq kind (kind_of_atom (as_string a))

abbrev pub head_kind : AtomKind → Option Atom → Bool
head_kind kind None = false
head_kind kind (Some a) = of_kind kind a

-- two of three
abbrev pub two_kinds : Bool → Bool → Bool → Bool
two_kinds i t b = (i && t) || ((i && b) || (t && b))

abbrev mixed : List (Option Atom) → Bool
mixed ys = two_kinds (list_any (head_kind k.Integer) ys) (list_any (head_kind k.Text) ys) (list_any (head_kind k.Boolean) ys)

-- values alike with one, by which kinds there are
abbrev allowed : Option Atom → Bool → Bool → Bool → Bool
allowed None i t b = true
allowed (Some (IntAtom z)) i t b = not t && not b
allowed (Some (TextAtom u)) i t b = not i && not b
allowed (Some (UntypedAtom u)) i t b = not i && not b
allowed (Some (BoolAtom d)) i t b = not i && not t

never : (b : Bool) → false ≡ (b && false)
never true = refl
never false = refl

abbrev Steps : Option Atom → Option Atom → Bool → Bool → Bool → Type 0
Steps y z i t b = (alike (read_key y) (read_key z) && allowed y i t b) ≡ allowed y (head_kind k.Integer z || i) (head_kind k.Text z || t) (head_kind k.Boolean z || b)

one_more : (y z : Option Atom) (i t b : Bool) → Steps y z i t b
one_more None z i t b = refl
one_more (Some a) None i t b = refl
one_more (Some (IntAtom x)) (Some (IntAtom z)) i t b = refl
one_more (Some (IntAtom x)) (Some (TextAtom u)) i t b = refl
one_more (Some (IntAtom x)) (Some (UntypedAtom u)) i t b = refl
one_more (Some (IntAtom x)) (Some (BoolAtom d)) i t b = never (not t)
one_more (Some (TextAtom v)) (Some (IntAtom z)) i t b = refl
one_more (Some (TextAtom v)) (Some (TextAtom u)) i t b = refl
one_more (Some (TextAtom v)) (Some (UntypedAtom u)) i t b = refl
one_more (Some (TextAtom v)) (Some (BoolAtom d)) i t b = never (not i)
one_more (Some (UntypedAtom v)) (Some (IntAtom z)) i t b = refl
one_more (Some (UntypedAtom v)) (Some (TextAtom u)) i t b = refl
one_more (Some (UntypedAtom v)) (Some (UntypedAtom u)) i t b = refl
one_more (Some (UntypedAtom v)) (Some (BoolAtom d)) i t b = never (not i)
one_more (Some (BoolAtom e)) (Some (IntAtom z)) i t b = refl
one_more (Some (BoolAtom e)) (Some (TextAtom u)) i t b = never (not i)
one_more (Some (BoolAtom e)) (Some (UntypedAtom u)) i t b = never (not i)
one_more (Some (BoolAtom e)) (Some (BoolAtom d)) i t b = refl

abbrev all_with : Option Atom → List (Option Atom) → Bool
all_with y [] = true
all_with y (z ∷ zs) = alike (read_key y) (read_key z) && all_with y zs

abbrev all_pairs : List (Option Atom) → Bool
all_pairs [] = true
all_pairs (y ∷ ys) = all_with y ys && all_pairs ys

with_kinds : (y : Option Atom) (zs : List (Option Atom)) → all_with y zs ≡ allowed y (list_any (head_kind k.Integer) zs) (list_any (head_kind k.Text) zs) (list_any (head_kind k.Boolean) zs)
with_kinds None [] = refl
with_kinds (Some (IntAtom z)) [] = refl
with_kinds (Some (TextAtom u)) [] = refl
with_kinds (Some (UntypedAtom u)) [] = refl
with_kinds (Some (BoolAtom b)) [] = refl
with_kinds y (z ∷ zs) =
    ap (λ d. alike (read_key y) (read_key z) && d) (with_kinds y zs) ∙ one_more y z (list_any (head_kind k.Integer) zs) (list_any (head_kind k.Text) zs) (list_any (head_kind k.Boolean) zs)

int_more : (i t b : Bool) → not ((not t && not b) && not (two_kinds i t b)) ≡ two_kinds true t b
int_more i true b = refl
int_more i false true = refl
int_more true false false = refl
int_more false false false = refl

text_more : (i t b : Bool) → not ((not i && not b) && not (two_kinds i t b)) ≡ two_kinds i true b
text_more true t b = refl
text_more false t true = refl
text_more false true false = refl
text_more false false false = refl

bool_more : (i t b : Bool) → not ((not i && not t) && not (two_kinds i t b)) ≡ two_kinds i t true
bool_more true true b = refl
bool_more true false b = refl
bool_more false true b = refl
bool_more false false true = refl
bool_more false false false = refl

back_not : (p m : Bool) → not p ≡ m → p ≡ not m
back_not p m e = sym (not-not p) ∙ ap not e

kinds_more : (y : Option Atom) (i t b : Bool) → not (allowed y i t b && not (two_kinds i t b)) ≡ two_kinds (head_kind k.Integer y || i) (head_kind k.Text y || t) (head_kind k.Boolean y || b)
kinds_more None i t b = not-not (two_kinds i t b)
kinds_more (Some (IntAtom z)) i t b = int_more i t b
kinds_more (Some (TextAtom u)) i t b = text_more i t b
kinds_more (Some (UntypedAtom u)) i t b = text_more i t b
kinds_more (Some (BoolAtom d)) i t b = bool_more i t b

-- values are alike where there are no two kinds
pairs_mixed : (ys : List (Option Atom)) → not (all_pairs ys) ≡ mixed ys
pairs_mixed [] = refl
pairs_mixed (y ∷ ys) =
    ap (λ d. not (d && all_pairs ys)) (with_kinds y ys)
    ∙ ap (λ d. not (allowed y (list_any (head_kind k.Integer) ys) (list_any (head_kind k.Text) ys) (list_any (head_kind k.Boolean) ys) && d)) (back_not (all_pairs ys) (mixed ys) (pairs_mixed ys))
    ∙ kinds_more y (list_any (head_kind k.Integer) ys) (list_any (head_kind k.Text) ys) (list_any (head_kind k.Boolean) ys)

any_or : {A : Type 0} (p q : A → Bool) (xs : List A) → (list_any p xs || list_any q xs) ≡ list_any (λ x. p x || q x) xs
any_or p q [] = refl
any_or p q (x ∷ xs) = four (p x) (list_any p xs) (q x) (list_any q xs) ∙ ap (λ d. (p x || q x) || d) (any_or p q xs)
  where
    four : (a b d e : Bool) → ((a || b) || (d || e)) ≡ ((a || d) || (b || e))
    four true b d e = refl
    four false true true e = refl
    four false true false e = refl
    four false false d e = refl

inner_turn : (a b d e : Bool) → ((a && b) && (d && e)) ≡ ((a && d) && (b && e))
inner_turn false b d e = refl
inner_turn true false true e = refl
inner_turn true false false e = refl
inner_turn true true d e = refl

any_none : {A : Type 0} (xs : List A) → false ≡ list_any (λ x. false) xs
any_none [] = refl
any_none (x ∷ xs) = any_none xs

any_turn : {A B : Type 0} (p : A → B → Bool) (xs : List A) (ys : List B) → list_any (λ y. list_any (λ x. p x y) xs) ys ≡ list_any (λ x. list_any (p x) ys) xs
any_turn p xs [] = any_none xs
any_turn p xs (y ∷ ys) = ap (λ d. list_any (λ x. p x y) xs || d) (any_turn p xs ys) ∙ any_or (λ x. p x y) (λ x. list_any (p x) ys) xs

module _ {X : Type 0} (body : X → Items) where
  abbrev pub tuple_at : List (X → Items) → X → Tuple
  tuple_at gs l = record { keys = map (λ g. g l) gs; body = body l }

  abbrev raw : (X → Items) → X → Option Atom
  raw g l = head_in (data_of (g l))

  abbrev pub cells_at : List (X → Items) → X → List Cell
  cells_at gs l = map (λ g. read_key (head_in (data_of (g l)))) gs

  abbrev pub line_at : List (X → Items) → X → Line
  line_at gs l = record { cells = cells_at gs l; body = body l }

  -- a key of the tuple has two values
  abbrev pub some_two : List (X → Items) → X → Bool
  some_two gs l = list_any (λ g. two (data_of (g l))) gs

  keys_are : (gs : List (X → Items)) (l : X) → all_of key_cell (map (λ g. g l) gs) ≡ cond (some_two gs l) (Refused c.XPTY0004) (Value (cells_at gs l))
  keys_are [] l = refl
  keys_are (g ∷ gs) l = ap (λ x. with_value (λ p. p.0 ∷ p.1) (both_of (key_cell (g l)) x)) (keys_are gs l) ∙ step (data_of (g l)) (some_two gs l) (cells_at gs l)
    where
      step : (as' : List Atom) (b : Bool) (cs : List Cell)
          → with_value (λ p. p.0 ∷ p.1) (both_of (with_value read_key (at_most_one as')) (cond b (Refused c.XPTY0004) (Value cs))) ≡ cond (two as' || b) (Refused c.XPTY0004) (Value (read_key (head_in as') ∷ cs))
      step [] true cs = refl
      step [] false cs = refl
      step (a ∷ []) true cs = refl
      step (a ∷ []) false cs = refl
      step (a ∷ b ∷ as') true cs = refl
      step (a ∷ b ∷ as') false cs = refl

  pub lines_are : (gs : List (X → Items)) (ls : List X) → all_of line_of (map (tuple_at gs) ls) ≡ cond (list_any (some_two gs) ls) (Refused c.XPTY0004) (Value (map (line_at gs) ls))
  lines_are gs [] = refl
  lines_are gs (l ∷ ls) =
      ap (λ x. with_value (λ p. p.0 ∷ p.1) (both_of (with_value (λ cs. let z : Line = record { cells = cs; body = body l } in z) x) (all_of line_of (map (tuple_at gs) ls)))) (keys_are gs l)
      ∙ ap (λ x. with_value (λ p. p.0 ∷ p.1) (both_of (with_value (λ cs. let z : Line = record { cells = cs; body = body l } in z) (cond (some_two gs l) (Refused c.XPTY0004) (Value (cells_at gs l)))) x)) (lines_are gs ls)
      ∙ step (some_two gs l) (list_any (some_two gs) ls) (cells_at gs l) (map (line_at gs) ls)
    where
      step : (a b : Bool) (cs : List Cell) (ms : List Line)
          → with_value (λ p. p.0 ∷ p.1) (both_of (with_value (λ cs. let z : Line = record { cells = cs; body = body l } in z) (cond a (Refused c.XPTY0004) (Value cs))) (cond b (Refused c.XPTY0004) (Value ms)))
          ≡ cond (a || b) (Refused c.XPTY0004) (let z : Line = record { cells = cs; body = body l } in Value (z ∷ ms))
      step true true cs ms = refl
      step true false cs ms = refl
      step false true cs ms = refl
      step false false cs ms = refl

  -- one key of all tuples, and the others
  with_more : (g : X → Items) (gs : List (X → Items)) (l : X) (ms : List X) → alike_with (line_at (g ∷ gs) l) (map (line_at (g ∷ gs)) ms) ≡ (all_with (raw g l) (map (raw g) ms) && alike_with (line_at gs l) (map (line_at gs) ms))
  with_more g gs l [] = refl
  with_more g gs l (m ∷ ms) =
      ap (λ d. (alike (read_key (raw g l)) (read_key (raw g m)) && all_alike (cells_at gs l) (cells_at gs m)) && d) (with_more g gs l ms)
      ∙ inner_turn (alike (read_key (raw g l)) (read_key (raw g m))) (all_alike (cells_at gs l) (cells_at gs m)) (all_with (raw g l) (map (raw g) ms)) (alike_with (line_at gs l) (map (line_at gs) ms))

  lines_more : (g : X → Items) (gs : List (X → Items)) (ls : List X) → lines_alike (map (line_at (g ∷ gs)) ls) ≡ (all_pairs (map (raw g) ls) && lines_alike (map (line_at gs) ls))
  lines_more g gs [] = refl
  lines_more g gs (l ∷ ls) =
      ap (λ d. d && lines_alike (map (line_at (g ∷ gs)) ls)) (with_more g gs l ls)
      ∙ ap (λ d. (all_with (raw g l) (map (raw g) ls) && alike_with (line_at gs l) (map (line_at gs) ls)) && d) (lines_more g gs ls)
      ∙ inner_turn (all_with (raw g l) (map (raw g) ls)) (alike_with (line_at gs l) (map (line_at gs) ls)) (all_pairs (map (raw g) ls)) (lines_alike (map (line_at gs) ls))

  no_keys : (ls : List X) → lines_alike (map (line_at []) ls) ≡ true
  no_keys [] = refl
  no_keys (l ∷ ls) = ap (λ d. d && lines_alike (map (line_at []) ls)) (alone l ls) ∙ no_keys ls
    where
      alone : (l : X) (ms : List X) → alike_with (line_at [] l) (map (line_at []) ms) ≡ true
      alone l [] = refl
      alone l (m ∷ ms) = alone l ms

  not_alike : (gs : List (X → Items)) (ls : List X) → not (lines_alike (map (line_at gs) ls)) ≡ list_any (λ g. mixed (map (raw g) ls)) gs
  not_alike [] ls = ap not (no_keys ls)
  not_alike (g ∷ gs) ls =
      ap not (lines_more g gs ls) ∙ parts (all_pairs (map (raw g) ls)) (lines_alike (map (line_at gs) ls))
      ∙ ap (λ d. d || not (lines_alike (map (line_at gs) ls))) (pairs_mixed (map (raw g) ls))
      ∙ ap (λ d. mixed (map (raw g) ls) || d) (not_alike gs ls)
    where
      parts : (a b : Bool) → not (a && b) ≡ (not a || not b)
      parts true b = refl
      parts false b = refl

  -- one key's values in all tuples: two in one, or of two kinds
  abbrev has_kind : AtomKind → (X → Items) → List X → Bool
  has_kind kind g ls = list_any (λ l. list_any (of_kind kind) (data_of (g l))) ls

  abbrev pub unfit : (X → Items) → List X → Bool
  unfit g ls = list_any (λ l. two (data_of (g l))) ls || two_kinds (has_kind k.Integer g ls) (has_kind k.Text g ls) (has_kind k.Boolean g ls)

  heads_only : (kind : AtomKind) (g : X → Items) (ls : List X) → list_any (λ l. two (data_of (g l))) ls ≡ false → list_any (head_kind kind) (map (raw g) ls) ≡ has_kind kind g ls
  heads_only kind g [] e = refl
  heads_only kind g (l ∷ ls) e =
      let p = or_parts (two (data_of (g l))) (list_any (λ m. two (data_of (g m))) ls) e in
      ap (λ d. d || list_any (head_kind kind) (map (raw g) ls)) (at_head (data_of (g l)) p.0) ∙ ap (λ d. list_any (of_kind kind) (data_of (g l)) || d) (heads_only kind g ls p.1)
    where
      at_head : (as' : List Atom) → two as' ≡ false → head_kind kind (head_in as') ≡ list_any (of_kind kind) as'
      at_head [] e = refl
      at_head (a ∷ []) e = sym (or-false (of_kind kind a))
      at_head (a ∷ b ∷ as') e = cc

  unfit_is : (ls : List X) (g : X → Items) → (list_any (λ l. two (data_of (g l))) ls || mixed (map (raw g) ls)) ≡ unfit g ls
  unfit_is ls g = go (list_any (λ l. two (data_of (g l))) ls) refl
    where
      go : (b : Bool) → list_any (λ l. two (data_of (g l))) ls ≡ b → (list_any (λ l. two (data_of (g l))) ls || mixed (map (raw g) ls)) ≡ unfit g ls
      go true e = ap (λ d. d || mixed (map (raw g) ls)) e ∙ sym (ap (λ d. d || two_kinds (has_kind k.Integer g ls) (has_kind k.Text g ls) (has_kind k.Boolean g ls)) e)
      go false e =
          ap (λ d. list_any (λ l. two (data_of (g l))) ls || two_kinds d (list_any (head_kind k.Text) (map (raw g) ls)) (list_any (head_kind k.Boolean) (map (raw g) ls))) (heads_only k.Integer g ls e)
          ∙ ap (λ d. list_any (λ l. two (data_of (g l))) ls || two_kinds (has_kind k.Integer g ls) d (list_any (head_kind k.Boolean) (map (raw g) ls))) (heads_only k.Text g ls e)
          ∙ ap (λ d. list_any (λ l. two (data_of (g l))) ls || two_kinds (has_kind k.Integer g ls) (has_kind k.Text g ls) d) (heads_only k.Boolean g ls e)

  abbrev pub some_unfit : List (X → Items) → List X → Bool
  some_unfit gs ls = list_any (λ g. unfit g ls) gs

  pub keys_unfit : (gs : List (X → Items)) (ls : List X) → (list_any (some_two gs) ls || not (lines_alike (map (line_at gs) ls))) ≡ some_unfit gs ls
  keys_unfit gs ls =
      ap (λ d. d || not (lines_alike (map (line_at gs) ls))) (any_turn (λ (g : X → Items) l. two (data_of (g l))) gs ls)
      ∙ ap (λ d. list_any (λ g. list_any (λ l. two (data_of (g l))) ls) gs || d) (not_alike gs ls)
      ∙ any_or (λ g. list_any (λ l. two (data_of (g l))) ls) (λ g. mixed (map (raw g) ls)) gs
      ∙ any_ext _ _ gs (unfit_is ls)

  -- the answer fails exactly where a key is unfit
  pub sorted_fails : (os : List Order) (gs : List (X → Items)) (ls : List X) → fault_in (sorted_answer os (map (tuple_at gs) ls)) ≡ cond (some_unfit gs ls) (Some c.XPTY0004) None
  sorted_fails os gs ls =
      ap (λ x. fault_in (then_rule x (sorted_lines os))) (lines_are gs ls)
      ∙ go (list_any (some_two gs) ls)
      ∙ ap (λ d. cond d (Some c.XPTY0004) None) (keys_unfit gs ls)
    where
      inner : (b : Bool) (vs : Items) → fault_in (cond b (Value vs) (Refused c.XPTY0004)) ≡ cond (not b) (Some c.XPTY0004) None
      inner true vs = refl
      inner false vs = refl

      go : (a : Bool) → fault_in (then_rule (cond a (Refused c.XPTY0004) (Value (map (line_at gs) ls))) (sorted_lines os)) ≡ cond (a || not (lines_alike (map (line_at gs) ls))) (Some c.XPTY0004) None
      go true = refl
      go false = inner (lines_alike (map (line_at gs) ls)) _
