-- Atomic values of cells, read as integers where they are untyped.
use Rattle.std.proofs.Common.{◌≡◌, ◌≢◌, ◌∙◌, ◌<◌, ◌+◌, ◌++◌, ◌∷◌, ◌&&◌, [], ℕ, zero, suc, ℤ, Bool, true, false, cond, List, length, take, drop, refl, sym, ap, subst, arith, Ok, Err, Option, Some, None, true≢false, nat_lt}
use Rattle.std.specs.Prelude.{slice_index_or}
use Rattle.std.proofs.Math.Seq.{drop-cons}
use Rattle.xq_base.specs.declared.code.Code.{Code}
use Rattle.xq_base.specs.declared.code.Code.TheVariants as c
use Rattle.xq_base.specs.declared.fun.Fun.TheVariants as f
use Rattle.xq_base.specs.declared.item.Item.{Item}
use Rattle.xq_base.specs.declared.item.Item.TheVariants as i
use Rattle.xq_base.specs.declared.item.Atom.{Atom as HeldAtom}
use Rattle.xq_base.specs.declared.item.TextId.{TextId}
use Rattle.xq_base.specs.Answers.{Answer, Value, Fault, with_value, both_of, earlier}
use Rattle.xq_base.specs.Aggregates.{all_of, as_integer}
use Rattle.xq_base.specs.Arithmetic.{or_no_cast}
use Rattle.xq_base.specs.Atoms.{Atom, IntAtom, TextAtom, UntypedAtom, BoolAtom, spelled}
use Rattle.xq_base.specs.Texts.{Text, integer_in}
use Rattle.doc_table.specs.Given.{trees_given}
use Rattle.doc_table.specs.Items.{item_of}
use Rattle.doc_table.specs.Functions.{fun_answer}
use Rattle.doc_table.specs.NodeRules.{Docs}
use Rattle.doc_table.specs.Stores.{Holdings}
use Rattle.doc_table.specs.StoredItems.{ItemGiven, ItemsGiven, trees_of, meanings}
use Rattle.doc_table.specs.Tree.{text_in}
use Rattle.doc_table.specs.Values.{Items, atomized, data_of, item_of_atom, is_node}
use Rattle.xq_funs.specs.Answering.{atom_in, atom_given, is_atom, text_given}
use Rattle.xq_funs.specs.Calls.{Gives, values}
use Rattle.xq_funs.specs.declared.fault.FunFault.{FunFault}
use Rattle.xq_funs.specs.declared.fault.FunFault.TheVariants as x
use Rattle.xq_funs.proofs.Later.{atom_later, atom_given_later, atomized_later}
use Rattle.plan_dag.specs.ItemRules.{Cell}
use Rattle.table_ops.specs.Columns.{cell_of}
use Rattle.table_ops.specs.Wholes.{atoms_in, atoms_given, read_answer, read_behind, ReadsOn}
use Rattle.table_ops.proofs.CellMoves.{text_of_given}
use Rattle.table_ops.proofs.Lists.{map_append, joined_to}

-- a cell of some
pub cell_given : (texts : List Text) (h : Holdings) (cells : List Item) (p : ℕ) → ItemsGiven texts h cells → ItemGiven texts h (cell_of cells p)
cell_given texts h [] p g = tt
cell_given texts h (v ∷ cells) zero g = g.0
cell_given texts h (v ∷ cells) (suc p) g = cell_given texts h cells p g.1

-- an item from an atomic value
pub atom_again : (a : Atom) → atomized (item_of_atom a) ≡ a
atom_again (IntAtom z) = refl
atom_again (TextAtom t) = refl
atom_again (UntypedAtom t) = refl
atom_again (BoolAtom b) = refl

no_node : (a : Atom) → is_node (item_of_atom a) ≡ false
no_node (IntAtom z) = refl
no_node (TextAtom t) = refl
no_node (UntypedAtom t) = refl
no_node (BoolAtom b) = refl

item_is_atom : (texts : List Text) (h : Holdings) (item : Item) (a : Atom) → item_of_atom a ≡ item_of texts (trees_of h) item → is_atom item ≡ true
item_is_atom texts h (i.Int z) a e = refl
item_is_atom texts h (i.Str id) a e = refl
item_is_atom texts h (i.Untyped id) a e = refl
item_is_atom texts h (i.Bool b) a e = refl
item_is_atom texts h (i.Node r) a e = absurd (true≢false (sym (ap is_node e) ∙ no_node a))

first_in : Cell → Answer Items → Cell
first_in d (Value (v ∷ vs)) = v
first_in d (Value []) = d
first_in d (Fault c) = d

one_value : (v w : Cell) → Value (v ∷ []) ≡ Value (w ∷ []) → v ≡ w
unfolding first_in
one_value v w e = ap (first_in v) e

-- what is known of an item that a call gave
pub record IsAtomOf (texts : List Text) (h : Holdings) (item : Item) (a : Atom) : Type 0 where
  pub atom : is_atom item ≡ true
  pub value : atomized (item_of texts (trees_of h) item) ≡ a
  pub text : text_given (length texts) item ≡ true

atom_of_call : (texts : List Text) (h : Holdings) (item : Item) (a : Atom) → ItemGiven texts h item → item_of_atom a ≡ item_of texts (trees_of h) item → IsAtomOf texts h item a
atom_of_call texts h item a g e = record { atom = item_is_atom texts h item a e; value = ap atomized (sym e) ∙ atom_again a; text = text_of_given texts h item g }

module _ (docs : Docs) (old new : List Text) (h : Holdings) (wants : Bool) where
  pub atomized_item : (cell item : Item) → Gives wants new h (fun_answer docs f.Atomize (values old h (cell ∷ []))) (Ok item) → IsAtomOf new h item (atomized (item_of old (trees_of h) cell))
  atomized_item cell item g = atom_of_call new h item (atomized (item_of old (trees_of h) cell)) g.1 (one_value _ _ g.0)

  -- the integer that a text spells
  value_at : (o : Option ℤ) (item : Item) → ItemGiven new h item → with_value (λ b. item_of_atom b ∷ []) (spelled IntAtom o) ≡ Value (item_of new (trees_of h) item ∷ [])
      → (a : Atom) × IsAtomOf new h item a × (with_value IntAtom (or_no_cast o) ≡ Value a)
  value_at None item g e = cc
  value_at (Some z) item g e = (IntAtom z, atom_of_call new h item (IntAtom z) g (one_value _ _ e), refl)

  pub spelled_item : (id : TextId) (item : Item) → Gives wants new h (fun_answer docs f.XsInteger (values old h (i.Untyped id ∷ []))) (Ok item)
      → (a : Atom) × IsAtomOf new h item a × (as_integer (UntypedAtom (text_in old id)) ≡ Value a)
  spelled_item id item g = value_at (integer_in (text_in old id)) item g.1 g.0

  none_at : (o : Option ℤ) (code : Code) → with_value (λ b. item_of_atom b ∷ []) (spelled IntAtom o) ≡ Fault code → with_value IntAtom (or_no_cast o) ≡ Fault c.FORG0001
  none_at None code e = refl
  none_at (Some z) code e = cc

  pub spelled_none : (id : TextId) (fault : FunFault) (code : Code) → fault ≡ x.Code code → Gives wants new h (fun_answer docs f.XsInteger (values old h (i.Untyped id ∷ []))) (Err fault) → as_integer (UntypedAtom (text_in old id)) ≡ Fault c.FORG0001
  spelled_none id fault code e g = none_at (integer_in (text_in old id)) code (subst (λ z. Gives wants new h (fun_answer docs f.XsInteger (values old h (i.Untyped id ∷ []))) (Err z)) e g)

pub parts : (a b : Bool) → a && b ≡ true → (a ≡ true) × (b ≡ true)
parts true b h = (refl, h)
parts false b h = absurd (true≢false (sym h))

-- values that were read before
module _ (old new : List Text) (later : take (length old) new ≡ old) where
  pub atoms_later : (as' : List HeldAtom) → atoms_given (length old) as' ≡ true → atoms_in new as' ≡ atoms_in old as'
  atoms_later [] g = refl
  atoms_later (a ∷ as') g = let p = parts (atom_given (length old) a) (atoms_given (length old) as') g in λ i. atom_later old new later a p.0 i ∷ atoms_later as' p.1 i

  pub atoms_given_later : (as' : List HeldAtom) → atoms_given (length old) as' ≡ true → atoms_given (length new) as' ≡ true
  atoms_given_later [] g = refl
  atoms_given_later (a ∷ as') g = let p = parts (atom_given (length old) a) (atoms_given (length old) as') g in (λ i. atom_given_later old new later a p.0 i && atoms_given_later as' p.1 i)

  given_push : (as' : List HeldAtom) (a : HeldAtom) → atoms_given (length new) as' ≡ true → atom_given (length new) a ≡ true → atoms_given (length new) (as' ++ a ∷ []) ≡ true
  given_push [] a g k = λ i. k i && true
  given_push (b ∷ as') a g k = let p = parts (atom_given (length new) b) (atoms_given (length new) as') g in (λ i. p.0 i && given_push as' a p.1 k i)

  pub put_atom : (answer : Answer Atom) (before after : List HeldAtom) (a : HeldAtom) → atoms_given (length old) before ≡ true → after ≡ before ++ a ∷ [] → answer ≡ read_answer new (Some a) → ReadsOn answer (atoms_in old before) true (atoms_in new after)
  put_atom answer before after a g e r =
      ap (with_value (λ v. atoms_in old before ++ v ∷ [])) r
      ∙ ap Value ((λ i. sym (atoms_later before g) i ++ atom_in new a ∷ []) ∙ sym (map_append (atom_in new) before (a ∷ [])) ∙ ap (atoms_in new) (sym e))

  pub put_given_atom : (before after : List HeldAtom) (a : HeldAtom) → atoms_given (length old) before ≡ true → after ≡ before ++ a ∷ [] → atom_given (length new) a ≡ true → atoms_given (length new) after ≡ true
  put_given_atom before after a g e k = ap (atoms_given (length new)) e ∙ given_push before a (atoms_given_later before g) k

-- rules that have one code alone
abbrev pub FailsOnly : {A : Type 0} → Code → Answer A → Type 0
FailsOnly d (Value a) = Unit {0}
FailsOnly d (Fault e) = e ≡ d

earlier_self : (d : Code) → earlier d d ≡ d
earlier_self d = by (nat_lt _ _)
  where
    by : (b : Bool) → cond b d d ≡ d
    by true = refl
    by false = refl

list_in : {B : Type 0} → Answer (List B) → List B
list_in (Value bs) = bs
list_in (Fault e) = []

module _ {A B : Type 0} (d : Code) (g : A → Answer B) (only : (a : A) → FailsOnly d (g a)) where
  pub all_only : (as' : List A) → FailsOnly d (all_of g as')
  all_only [] = tt
  all_only (a ∷ as') = by (g a) (all_of g as') (only a) (all_only as')
    where
      by : (x : Answer B) (y : Answer (List B)) → FailsOnly d x → FailsOnly d y → FailsOnly d (with_value (λ p. p.0 ∷ p.1) (both_of x y))
      by (Value b) (Value bs) p q = tt
      by (Value b) (Fault e) p q = q
      by (Fault e) (Value bs) p q = p
      by (Fault e) (Fault k) p q = (λ i. earlier (p i) (q i)) ∙ earlier_self d

  pub fault_first : (a : A) (as' : List A) → g a ≡ Fault d → all_of g (a ∷ as') ≡ Fault d
  fault_first a as' e = ap (λ x. with_value (λ p. p.0 ∷ p.1) (both_of x (all_of g as'))) e ∙ by (all_of g as') (all_only as')
    where
      by : (y : Answer (List B)) → FailsOnly d y → with_value (λ (p : B × List B). p.0 ∷ p.1) (both_of (Fault d) y) ≡ Fault d
      by (Value bs) q = refl
      by (Fault k) q = ap Fault (ap (earlier d) q ∙ earlier_self d)

  -- one value more
  behind_more : (done : List B) (b : B) (y : Answer (List B)) → with_value (λ bs. (done ++ b ∷ []) ++ bs) y ≡ with_value (λ bs. done ++ bs) (with_value (λ p. p.0 ∷ p.1) (both_of (Value b) y))
  behind_more done b (Value bs) = ap Value (joined_to done (b ∷ []) bs)
  behind_more done b (Fault e) = refl

  pub behind_turn : (done more : List B) (a : A) (as' : List A) → with_value (λ b. done ++ b ∷ []) (g a) ≡ Value more → with_value (λ bs. more ++ bs) (all_of g as') ≡ with_value (λ bs. done ++ bs) (all_of g (a ∷ as'))
  unfolding list_in
  behind_turn done more a as' e = by (g a) e
    where
      by : (x : Answer B) → with_value (λ b. done ++ b ∷ []) x ≡ Value more → with_value (λ bs. more ++ bs) (all_of g as') ≡ with_value (λ bs. done ++ bs) (with_value (λ p. p.0 ∷ p.1) (both_of x (all_of g as')))
      by (Value b) e = ap (λ (z : List B). with_value (λ bs. z ++ bs) (all_of g as')) (sym (ap list_in e)) ∙ behind_more done b (all_of g as')
      by (Fault k) e = cc

as_integer_only : (a : Atom) → FailsOnly c.FORG0001 (as_integer a)
as_integer_only (IntAtom z) = tt
as_integer_only (TextAtom t) = tt
as_integer_only (BoolAtom b) = tt
as_integer_only (UntypedAtom t) = by (integer_in t)
  where
    by : (o : Option ℤ) → FailsOnly c.FORG0001 (with_value IntAtom (or_no_cast o))
    by None = refl
    by (Some z) = tt

pub integers_only : (as' : List Atom) → FailsOnly c.FORG0001 (all_of as_integer as')
integers_only as' = all_only c.FORG0001 as_integer as_integer_only as'

-- the cells from a place on
module _ (texts : List Text) (h : Holdings) where
  abbrev A : Item → Atom
  A v = atomized (item_of texts (trees_of h) v)

  pub data_at : (cells : List Item) (p : ℕ) (d : Item) → p < length cells → data_of (meanings texts h (drop p cells)) ≡ A (slice_index_or cells p d) ∷ data_of (meanings texts h (drop (p + 1) cells))
  data_at cells p d l =
      let one : p + 1 ≡ suc p = omega arith in
      ap (λ z. data_of (meanings texts h z)) (drop-cons cells p d l) ∙ ap (λ n. A (slice_index_or cells p d) ∷ data_of (meanings texts h (drop n cells))) (sym one)

module _ (first old : List Text) (h : Holdings) (later : take (length first) old ≡ first) (trees : trees_given (length first) h ≡ true) (cells : List Item) (p : ℕ) (d : Item) (l : p < length cells) (given : ItemGiven first h (slice_index_or cells p d)) where
  same_read : as_integer (atomized (item_of old (trees_of h) (slice_index_or cells p d))) ≡ as_integer (atomized (item_of first (trees_of h) (slice_index_or cells p d)))
  same_read = ap as_integer (atomized_later first old later h (slice_index_or cells p d) trees given)

  pub read_turn : (done more : List Atom) → ReadsOn (as_integer (atomized (item_of old (trees_of h) (slice_index_or cells p d)))) done true more
      → read_behind done (all_of as_integer (data_of (meanings first h (drop p cells)))) ≡ all_of as_integer (data_of (meanings first h cells))
      → read_behind more (all_of as_integer (data_of (meanings first h (drop (p + 1) cells)))) ≡ all_of as_integer (data_of (meanings first h cells))
  read_turn done more r was =
      behind_turn c.FORG0001 as_integer as_integer_only done more (atomized (item_of first (trees_of h) (slice_index_or cells p d))) (data_of (meanings first h (drop (p + 1) cells)))
      (ap (with_value (λ a. done ++ a ∷ [])) (sym same_read) ∙ r)
      ∙ ap (λ z. read_behind done (all_of as_integer z)) (sym (data_at first h cells p d l))
      ∙ was

  pub read_stop : (done more : List Atom) → ReadsOn (as_integer (atomized (item_of old (trees_of h) (slice_index_or cells p d)))) done false more
      → read_behind done (all_of as_integer (data_of (meanings first h (drop p cells)))) ≡ all_of as_integer (data_of (meanings first h cells))
      → all_of as_integer (data_of (meanings first h cells)) ≡ Fault c.FORG0001
  read_stop done more r was =
      sym was
      ∙ ap (λ z. read_behind done (all_of as_integer z)) (data_at first h cells p d l)
      ∙ ap (read_behind done) (fault_first c.FORG0001 as_integer as_integer_only (atomized (item_of first (trees_of h) (slice_index_or cells p d))) (data_of (meanings first h (drop (p + 1) cells))) (sym same_read ∙ r))

-- as many are read
module _ {A B : Type 0} (g : A → Answer B) where
  long_with : (n : ℕ) (x : Answer B) (y : Answer (List B)) (bs : List B) → ((vs : List B) → y ≡ Value vs → length vs ≡ n) → with_value (λ (p : B × List B). p.0 ∷ p.1) (both_of x y) ≡ Value bs → length bs ≡ suc n
  unfolding list_in
  long_with n (Value v) (Value vs) bs r e = ap (λ z. length (list_in z)) (sym e) ∙ ap suc (r vs refl)
  long_with n (Value v) (Fault d) bs r e = cc
  long_with n (Fault d) (Value vs) bs r e = cc
  long_with n (Fault d) (Fault m) bs r e = cc

  pub read_long : (as' : List A) (bs : List B) → all_of g as' ≡ Value bs → length bs ≡ length as'
  unfolding list_in
  read_long [] bs e = ap (λ z. length (list_in z)) (sym e)
  read_long (a ∷ as') bs e = long_with (length as') (g a) (all_of g as') bs (λ vs k. read_long as' vs k) e
