-- Aggregates of read values, and texts one after the other.
use Rattle.std.proofs.Common.{◌≡◌, ◌∙◌, ◌<◌, ◌≤◌, ◌+◌, ◌++◌, ◌∷◌, ◌&&◌, [], ℕ, zero, suc, ℤ, pos, ◌+ℤ◌, Bool, true, false, cond, List, length, map, flat_map, take, drop, refl, sym, ap, subst, arith, Ok, Err, Option, Some, None, true≢false}
use Rattle.std.specs.Prelude.{slice_index_or, slice_get}
use Rattle.std.proofs.Math.IntN.{+ℤ_assoc, +ℤ_idr}
use Rattle.std.proofs.Math.Seq.{drop-cons}
use Rattle.std.proofs.lemmas.Bool.{lt-ltb}
use Rattle.xq_base.specs.declared.code.Code.{Code}
use Rattle.xq_base.specs.declared.code.Code.TheVariants as c
use Rattle.xq_base.specs.declared.fun.AtomKind.{AtomKind}
use Rattle.xq_base.specs.declared.fun.Fun.TheVariants as f
use Rattle.xq_base.specs.declared.item.Item.{Item}
use Rattle.xq_base.specs.declared.item.Item.TheVariants as i
use Rattle.xq_base.specs.declared.item.Atom.{Atom as HeldAtom}
use Rattle.xq_base.specs.declared.item.TextId.{TextId}
use Rattle.xq_base.specs.Answers.{Answer, Value, Fault, then_rule, with_value, both_of, earlier}
use Rattle.xq_base.specs.Aggregates.{all_of, as_integer, addend, total, sum_or, best_of, best_from, have_kind_of}
use Rattle.xq_base.specs.Arithmetic.{or_no_cast, checked, integer_list}
use Rattle.xq_base.specs.Atoms.{Atom, IntAtom, TextAtom, UntypedAtom, BoolAtom, text_of, kind_of_atom, atom_kind_eq}
use Rattle.xq_base.specs.Comparisons.{is_true_answer}
use Rattle.xq_base.specs.Texts.{Text, integer_in, joined}
use Rattle.doc_table.specs.Given.{trees_given}
use Rattle.doc_table.specs.Items.{item_of, TextItem}
use Rattle.doc_table.specs.Functions.{fun_answer}
use Rattle.doc_table.specs.NodeRules.{Docs}
use Rattle.doc_table.specs.Stores.{Holdings}
use Rattle.doc_table.specs.StoredItems.{ItemGiven, ItemsGiven, trees_of, meanings}
use Rattle.doc_table.specs.Values.{Items, atomized, data_of, items_of, item_of_atom, text_of_item}
use Rattle.xq_funs.specs.Answering.{atom_in, atom_given}
use Rattle.xq_funs.specs.Calls.{Gives as CallGives, values}
use Rattle.xq_funs.specs.declared.fault.FunFault.{FunFault}
use Rattle.xq_funs.specs.declared.fault.FunFault.TheVariants as x
use Rattle.xq_funs.proofs.Calling.{item-text}
use Rattle.xq_funs.proofs.ConcatLaws.{concat_is}
use Rattle.plan_dag.specs.declared.op.Agg.{Agg}
use Rattle.plan_dag.specs.declared.op.Agg.TheVariants as g
use Rattle.plan_dag.specs.Cells.{Outcome, Gives, Fails}
use Rattle.plan_dag.specs.ItemRules.{Cell, group_outcome, outcome_of}
use Rattle.table_ops.specs.Wholes.{atoms_in, atoms_given, beats, integer_of, total_of, sum_outcome, best_outcome, number_outcome, is_of_numbers}
use Rattle.table_ops.proofs.CellOrders.{text_is}
use Rattle.table_ops.proofs.MapLaws.{items_later, items_given_later, all_dropped}
use Rattle.table_ops.proofs.ReadLaws.{FailsOnly, all_only, integers_only, fault_first, read_long, parts}
use Rattle.table_ops.proofs.Lists.{map_long}

-- what is added of read values
integer_only : (a : Atom) → FailsOnly c.FORG0006 (integer_of a)
integer_only (IntAtom z) = tt
integer_only (TextAtom t) = refl
integer_only (UntypedAtom t) = refl
integer_only (BoolAtom b) = refl

abbrev cons_of : {A : Type 0} → Answer A → Answer (List A) → Answer (List A)
cons_of p q = with_value (λ r. r.0 ∷ r.1) (both_of p q)

number_in : Answer ℤ → ℤ
number_in (Value z) = z
number_in (Fault d) = pos 0

number_same : (y z : ℤ) → Value y ≡ Value z → y ≡ z
unfolding number_in
number_same y z e = ap number_in e

-- the sum of values is that of the read ones
addends : (as' : List Atom) → all_of addend as' ≡ then_rule (all_of as_integer as') (all_of integer_of)
addends [] = refl
addends (a ∷ as') = ap (λ z. cons_of (addend a) z) (addends as') ∙ at a (all_of as_integer as') (integers_only as')
  where
    number : (z : ℤ) (x : Answer (List Atom)) → cons_of (Value z) (then_rule x (all_of integer_of)) ≡ then_rule (cons_of (Value (IntAtom z)) x) (all_of integer_of)
    number z (Value bs) = refl
    number z (Fault d) = refl

    uncast : (x : Answer (List Atom)) → FailsOnly c.FORG0001 x → cons_of {A = ℤ} (Fault c.FORG0001) (then_rule x (all_of integer_of)) ≡ then_rule (cons_of (Fault c.FORG0001) x) (all_of integer_of)
    uncast (Value bs) k = by (all_of integer_of bs) (all_only c.FORG0006 integer_of integer_only bs)
      where
        by : (y : Answer (List ℤ)) → FailsOnly c.FORG0006 y → cons_of (Fault c.FORG0001) y ≡ Fault c.FORG0001
        by (Value zs) k = refl
        by (Fault d) k = ap (λ e. Fault (earlier c.FORG0001 e)) k
    uncast (Fault d) k = refl

    other : (d : Code) → d ≡ c.FORG0001 → ◌≡◌ {A = Answer (List ℤ)} (Fault (earlier c.FORG0006 d)) (Fault d)
    other d k = ap (λ e. Fault (earlier c.FORG0006 e)) k ∙ ap (λ e. Fault e) (sym k)

    spelled_as : (o : Option ℤ) (x : Answer (List Atom)) → FailsOnly c.FORG0001 x → cons_of (or_no_cast o) (then_rule x (all_of integer_of)) ≡ then_rule (cons_of (with_value IntAtom (or_no_cast o)) x) (all_of integer_of)
    spelled_as None x k = uncast x k
    spelled_as (Some z) x k = number z x

    at : (a : Atom) (x : Answer (List Atom)) → FailsOnly c.FORG0001 x → cons_of (addend a) (then_rule x (all_of integer_of)) ≡ then_rule (cons_of (as_integer a) x) (all_of integer_of)
    at (IntAtom z) x k = number z x
    at (UntypedAtom t) x k = spelled_as (integer_in t) x k
    at (TextAtom t) (Value bs) k = refl
    at (TextAtom t) (Fault d) k = other d k
    at (BoolAtom b) (Value bs) k = refl
    at (BoolAtom b) (Fault d) k = other d k

checked_later : (y : Answer (List ℤ)) → then_rule y (λ zs. checked (total zs)) ≡ then_rule (with_value total y) checked
checked_later (Value zs) = refl
checked_later (Fault d) = refl

-- the sum of the empty sequence too
sum_is : (as' : List Atom) → sum_or (IntAtom (pos 0) ∷ []) as' ≡ with_value integer_list (then_rule (with_value total (all_of addend as')) checked)
sum_is [] = refl
sum_is (a ∷ as') = ap (with_value integer_list) (checked_later (all_of addend (a ∷ as')))

module _ (docs : Docs) (vs : Items) where
  pub read_whole : (agg : Agg) (bs : List Atom) → is_of_numbers agg ≡ true → all_of as_integer (data_of vs) ≡ Value bs → group_outcome docs agg vs ≡ number_outcome agg bs
  read_whole g.Sum bs k e = ap (λ z. outcome_of (with_value items_of z)) (sum_is (data_of vs) ∙ ap (λ z. with_value integer_list (then_rule (with_value total z) checked)) (addends (data_of vs) ∙ ap (λ z. then_rule z (all_of integer_of)) e))
  read_whole g.Min bs k e = ap (λ z. outcome_of (with_value items_of (then_rule z (best_of (beats false))))) e
  read_whole g.Max bs k e = ap (λ z. outcome_of (with_value items_of (then_rule z (best_of (beats true))))) e
  read_whole g.Concat bs k e = absurd (true≢false (sym k))
  read_whole g.Ebv bs k e = absurd (true≢false (sym k))

  pub unread_whole : (agg : Agg) → is_of_numbers agg ≡ true → all_of as_integer (data_of vs) ≡ Fault c.FORG0001 → group_outcome docs agg vs ≡ Fails c.FORG0001
  unread_whole g.Sum k e = ap (λ z. outcome_of (with_value items_of z)) (sum_is (data_of vs) ∙ ap (λ z. with_value integer_list (then_rule (with_value total z) checked)) (addends (data_of vs) ∙ ap (λ z. then_rule z (all_of integer_of)) e))
  unread_whole g.Min k e = ap (λ z. outcome_of (with_value items_of (then_rule z (best_of (beats false))))) e
  unread_whole g.Max k e = ap (λ z. outcome_of (with_value items_of (then_rule z (best_of (beats true))))) e
  unread_whole g.Concat k e = absurd (true≢false (sym k))
  unread_whole g.Ebv k e = absurd (true≢false (sym k))

pub read_few : (texts : List Text) (as' : List HeldAtom) (vs : Items) (n : ℕ) → all_of as_integer (data_of vs) ≡ Value (atoms_in texts as') → length vs < n → length as' < n
read_few texts as' vs n e l = omega (arith, read_long as_integer (data_of vs) (atoms_in texts as') e, map_long (atom_in texts) as', map_long atomized vs, l)

-- one value more of a sum
module _ (texts : List Text) where
  plus : (y z : ℤ) (rest : Answer (List ℤ)) → with_value (λ s. (y +ℤ z) +ℤ s) (with_value total rest) ≡ with_value (λ s. y +ℤ s) (with_value total (cons_of (Value z) rest))
  plus y z (Value zs) = ap Value (+ℤ_assoc y z (total zs))
  plus y z (Fault d) = refl

  pub total_turn : (as' : List HeldAtom) (p : ℕ) (d : HeldAtom) (y s : ℤ) → p < length as' → Value s ≡ with_value (λ z. y +ℤ z) (integer_of (atom_in texts (slice_index_or as' p d)))
      → with_value (λ r. y +ℤ r) (total_of (atoms_in texts (drop p as'))) ≡ total_of (atoms_in texts as')
      → with_value (λ r. s +ℤ r) (total_of (atoms_in texts (drop (p + 1) as'))) ≡ total_of (atoms_in texts as')
  total_turn as' p d y s l e was =
      let one : p + 1 ≡ suc p = omega arith in
      ap (λ n. with_value (λ r. s +ℤ r) (total_of (atoms_in texts (drop n as')))) one
      ∙ by (integer_of (atom_in texts (slice_index_or as' p d))) e
      ∙ ap (λ v. with_value (λ r. y +ℤ r) (total_of (atoms_in texts v))) (sym (drop-cons as' p d l))
      ∙ was
    where
      by : (x : Answer ℤ) → Value s ≡ with_value (λ z. y +ℤ z) x → with_value (λ r. s +ℤ r) (total_of (atoms_in texts (drop (suc p) as'))) ≡ with_value (λ r. y +ℤ r) (with_value total (cons_of x (all_of integer_of (atoms_in texts (drop (suc p) as')))))
      by (Value z) e = ap (λ v. with_value (λ r. v +ℤ r) (total_of (atoms_in texts (drop (suc p) as')))) (number_same s (y +ℤ z) e) ∙ plus y z (all_of integer_of (atoms_in texts (drop (suc p) as')))
      by (Fault d) e = cc

  pub total_stop : (as' : List HeldAtom) (p : ℕ) (d : HeldAtom) (y : ℤ) (code : Code) → p < length as' → Fault code ≡ with_value (λ z. y +ℤ z) (integer_of (atom_in texts (slice_index_or as' p d)))
      → with_value (λ r. y +ℤ r) (total_of (atoms_in texts (drop p as'))) ≡ total_of (atoms_in texts as')
      → Fault code ≡ total_of (atoms_in texts as')
  total_stop as' p d y code l e was =
      by (integer_of (atom_in texts (slice_index_or as' p d))) (integer_only (atom_in texts (slice_index_or as' p d))) refl e
      ∙ ap (λ v. with_value (λ r. y +ℤ r) (total_of (atoms_in texts v))) (sym (drop-cons as' p d l))
      ∙ was
    where
      by : (x : Answer ℤ) → FailsOnly c.FORG0006 x → integer_of (atom_in texts (slice_index_or as' p d)) ≡ x → Fault code ≡ with_value (λ z. y +ℤ z) x
          → Fault code ≡ with_value (λ r. y +ℤ r) (with_value total (all_of integer_of (atoms_in texts (slice_index_or as' p d ∷ drop (suc p) as'))))
      by (Value z) k q e = cc
      by (Fault k) o q e =
          e ∙ ap Fault o ∙ ap (λ v. with_value (λ r. y +ℤ r) (with_value total v)) (sym (fault_first c.FORG0006 integer_of integer_only (atom_in texts (slice_index_or as' p d)) (atoms_in texts (drop (suc p) as')) (q ∙ ap Fault o)))

  pub total_end : (as' : List HeldAtom) (p : ℕ) (y : ℤ) → length as' ≤ p → with_value (λ r. y +ℤ r) (total_of (atoms_in texts (drop p as'))) ≡ total_of (atoms_in texts as') → Value y ≡ total_of (atoms_in texts as')
  total_end as' p y l was = ap Value (sym (+ℤ_idr y)) ∙ ap (λ v. with_value (λ r. y +ℤ r) (total_of (atoms_in texts v))) (sym (all_dropped p as' l)) ∙ was

-- a sum, where it is one of 64 bits
pub sum_gives : (texts : List Text) (as' : List HeldAtom) (answer : Answer ℤ) (o : Outcome Cell) → answer ≡ total_of (atoms_in texts as') → o ≡ outcome_of (with_value items_of (with_value integer_list (then_rule answer checked))) → o ≡ sum_outcome (atoms_in texts as')
sum_gives texts as' answer o e k = k ∙ ap (λ z. outcome_of (with_value items_of (with_value integer_list (then_rule z checked)))) e

-- the kind of the first one
module _ (texts : List Text) (first : HeldAtom) (rest : List HeldAtom) (p : ℕ) where
  abbrev kind : HeldAtom → AtomKind
  kind a = kind_of_atom (atom_in texts a)

  pub kind_more : (d : HeldAtom) → p < length rest → true ≡ atom_kind_eq (kind first) (kind (slice_index_or rest p d))
      → have_kind_of (atom_in texts first) (atoms_in texts (drop p rest)) ≡ have_kind_of (atom_in texts first) (atoms_in texts rest)
      → have_kind_of (atom_in texts first) (atoms_in texts (drop (p + 1) rest)) ≡ have_kind_of (atom_in texts first) (atoms_in texts rest)
  kind_more d l e was =
      let one : p + 1 ≡ suc p = omega arith in
      ap (λ n. have_kind_of (atom_in texts first) (atoms_in texts (drop n rest))) one
      ∙ ap (λ b. b && have_kind_of (atom_in texts first) (atoms_in texts (drop (suc p) rest))) e
      ∙ ap (λ z. have_kind_of (atom_in texts first) (atoms_in texts z)) (sym (drop-cons rest p d l))
      ∙ was

  pub kind_stop : (d : HeldAtom) → p < length rest → false ≡ atom_kind_eq (kind first) (kind (slice_index_or rest p d))
      → have_kind_of (atom_in texts first) (atoms_in texts (drop p rest)) ≡ have_kind_of (atom_in texts first) (atoms_in texts rest)
      → false ≡ have_kind_of (atom_in texts first) (atoms_in texts rest)
  kind_stop d l e was =
      ap (λ b. b && have_kind_of (atom_in texts first) (atoms_in texts (drop (suc p) rest))) e
      ∙ ap (λ z. have_kind_of (atom_in texts first) (atoms_in texts z)) (sym (drop-cons rest p d l))
      ∙ was

  pub kind_end : length rest ≤ p → have_kind_of (atom_in texts first) (atoms_in texts (drop p rest)) ≡ have_kind_of (atom_in texts first) (atoms_in texts rest) → true ≡ have_kind_of (atom_in texts first) (atoms_in texts rest)
  kind_end l was = ap (λ z. have_kind_of (atom_in texts first) (atoms_in texts z)) (sym (all_dropped p rest l)) ∙ was

-- the best one
module _ (texts : List Text) (greatest : Bool) (rest : List HeldAtom) (p : ℕ) (best : HeldAtom) (all : Atom) where
  pub best_more : (d next : HeldAtom) → p < length rest → atom_in texts next ≡ cond (beats greatest (atom_in texts (slice_index_or rest p d)) (atom_in texts best)) (atom_in texts (slice_index_or rest p d)) (atom_in texts best)
      → best_from (beats greatest) (atom_in texts best) (atoms_in texts (drop p rest)) ≡ all
      → best_from (beats greatest) (atom_in texts next) (atoms_in texts (drop (p + 1) rest)) ≡ all
  best_more d next l e was =
      let one : p + 1 ≡ suc p = omega arith in
      (λ i. best_from (beats greatest) (e i) (atoms_in texts (drop (one i) rest)))
      ∙ ap (λ z. best_from (beats greatest) (atom_in texts best) (atoms_in texts z)) (sym (drop-cons rest p d l))
      ∙ was

  pub best_end : length rest ≤ p → best_from (beats greatest) (atom_in texts best) (atoms_in texts (drop p rest)) ≡ all → atom_in texts best ≡ all
  best_end l was = ap (λ z. best_from (beats greatest) (atom_in texts best) (atoms_in texts z)) (sym (all_dropped p rest l)) ∙ was

pub atom_held : (n : ℕ) (as' : List HeldAtom) (p : ℕ) (d : HeldAtom) → p < length as' → atoms_given n as' ≡ true → atom_given n (slice_index_or as' p d) ≡ true
atom_held n [] p d l g = absurd (omega (arith, l))
atom_held n (a ∷ as') zero d l g = (parts (atom_given n a) (atoms_given n as') g).0
atom_held n (a ∷ as') (suc p) d l g = atom_held n as' p d (omega (arith, l)) (parts (atom_given n a) (atoms_given n as') g).1

-- what is given of some values
pub best_gives : (texts : List Text) (h : Holdings) (greatest : Bool) (first best : HeldAtom) (rest as' : List HeldAtom) (item : Item) → as' ≡ first ∷ rest → true ≡ have_kind_of (atom_in texts first) (atoms_in texts rest)
    → atom_in texts best ≡ best_from (beats greatest) (atom_in texts first) (atoms_in texts rest) → item_of texts (trees_of h) item ≡ item_of_atom (atom_in texts best)
    → Gives (item_of texts (trees_of h) item) ≡ best_outcome greatest (atoms_in texts as')
best_gives texts h greatest first best rest as' item e k b j =
    ap Gives (j ∙ ap item_of_atom b)
    ∙ ap (λ z. outcome_of (with_value items_of (cond z (Value (best_from (beats greatest) (atom_in texts first) (atoms_in texts rest) ∷ [])) (Fault c.FORG0006)))) k
    ∙ ap (λ z. best_outcome greatest (atoms_in texts z)) (sym e)

pub best_fails : (texts : List Text) (greatest : Bool) (first : HeldAtom) (rest as' : List HeldAtom) → as' ≡ first ∷ rest → false ≡ have_kind_of (atom_in texts first) (atoms_in texts rest) → Fails c.FORG0006 ≡ best_outcome greatest (atoms_in texts as')
best_fails texts greatest first rest as' e k =
    ap (λ z. outcome_of (with_value items_of (cond z (Value (best_from (beats greatest) (atom_in texts first) (atoms_in texts rest) ∷ [])) (Fault c.FORG0006)))) k
    ∙ ap (λ z. best_outcome greatest (atoms_in texts z)) (sym e)

got_within : (texts : List Text) (n : ℕ) (t : Text) → slice_get texts n ≡ Some t → n < length texts
got_within [] n t e = cc
got_within (u ∷ texts) zero t e = omega arith
got_within (u ∷ texts) (suc n) t e = omega (arith, got_within texts n t e)

joined_more : (t u : Text) (ts : List Text) → joined [] (t ∷ u ∷ ts) ≡ t ++ joined [] (u ∷ ts)
joined_more [] u ts = refl
joined_more (x ∷ t) u ts = ap (λ z. x ∷ z) (joined_more t u ts)

-- texts one after the other
texts_of : (vs : Items) → flat_map text_of_item vs ≡ joined [] (map text_of (data_of vs))
texts_of [] = refl
texts_of (v ∷ []) = nothing (text_of_item v) ∙ item-text v
  where
    nothing : (t : Text) → t ++ [] ≡ t
    nothing [] = refl
    nothing (u ∷ t) = ap (λ z. u ∷ z) (nothing t)
texts_of (v ∷ w ∷ vs) = (λ i. item-text v i ++ texts_of (w ∷ vs) i) ∙ sym (joined_more (text_of (atomized v)) (text_of (atomized w)) (map text_of (data_of vs)))

flat_meanings : (texts : List Text) (h : Holdings) (cells : List Item) → flat_map (λ v. text_of_item (item_of texts (trees_of h) v)) cells ≡ flat_map text_of_item (meanings texts h cells)
flat_meanings texts h [] = refl
flat_meanings texts h (v ∷ cells) = ap (λ z. text_of_item (item_of texts (trees_of h) v) ++ z) (flat_meanings texts h cells)

module _ (docs : Docs) (old mid new : List Text) (h : Holdings) (wants : Bool) (later : take (length old) mid ≡ old) (trees : trees_given (length old) h ≡ true) (cells args : List Item) (given : ItemsGiven old h cells) (id : TextId) (empty : slice_get mid id.0 ≡ Some []) (padded : args ≡ i.Str id ∷ i.Str id ∷ cells) where
  padded_text : flat_map (λ v. text_of_item (item_of mid (trees_of h) v)) args ≡ joined [] (map text_of (data_of (meanings old h cells)))
  padded_text =
      ap (flat_map (λ v. text_of_item (item_of mid (trees_of h) v))) padded
      ∙ (λ j. text_is mid id [] empty j ++ (text_is mid id [] empty j ++ flat_map (λ v. text_of_item (item_of mid (trees_of h) v)) cells))
      ∙ flat_meanings mid h cells
      ∙ ap (flat_map text_of_item) (items_later old mid h later trees cells given)
      ∙ texts_of (meanings old h cells)

  concat_value : fun_answer docs f.Concat (values mid h args) ≡ Value (TextItem (joined [] (map text_of (data_of (meanings old h cells)))) ∷ [])
  concat_value = concat_is mid h docs args _ (sym padded_text)

  pub concat_gives : (item : Item) → CallGives wants new h (fun_answer docs f.Concat (values mid h args)) (Ok item) → Gives (item_of new (trees_of h) item) ≡ Gives (TextItem (joined [] (map text_of (data_of (meanings old h cells)))))
  concat_gives item k = ap outcome_of (sym k.0 ∙ concat_value)

  pub concat_never : (fault : FunFault) (code : Code) → fault ≡ x.Code code → CallGives wants new h (fun_answer docs f.Concat (values mid h args)) (Err fault) → ⊥
  concat_never fault code j k = let e = sym concat_value ∙ subst (λ z. CallGives wants new h (fun_answer docs f.Concat (values mid h args)) (Err z)) j k in cc

  pub padded_given : ItemsGiven mid h args
  padded_given = subst (ItemsGiven mid h) (sym padded) (id_given, (id_given, items_given_later old mid h later trees cells given))
    where
      id_given : ItemGiven mid h (i.Str id)
      id_given = lt-ltb id.0 (length mid) (got_within mid id.0 [] empty)

-- a comparison of two texts
pub text_first : (b e : Bool) → Value b ≡ Value e → b ≡ e
text_first b e k = ap is_true_answer k
