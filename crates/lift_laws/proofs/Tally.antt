-- A text with a character for each item: the rows that make it, and how many characters a part of it has.
use Rattle.std.proofs.Common.{◌≡◌, ℕ, ◌+◌, ◌≤◌, Bool, true, false, cond, List, [], ◌∷◌, ◌++◌, length, map, refl, sym, ap, ◌∙◌, arith, ℤ, Some}
use Rattle.std.specs.List.{flat_map}
use Rattle.std.specs.Str.{chars, encode_utf8_all, all_scalars}
use Rattle.std.proofs.lemmas.Str.{chars-encodes, encode_ascii}
use Rattle.xq_base.specs.declared.fun.Fun.TheVariants as f
use Rattle.xq_base.specs.Answers.{Value}
use Rattle.xq_base.specs.Texts.{Text, joined}
use Rattle.xq_base.specs.Words.{char_count, is_selected, at_places, text_part}
use Rattle.xq_base.specs.Atoms.{text_of}
use Rattle.xq_base.specs.TextRules.{text_argument}
use Rattle.doc_table.specs.Items.{TextItem}
use Rattle.doc_table.specs.Values.{Items, data_of}
use Rattle.plan_dag.specs.declared.op.Agg.TheVariants as g
use Rattle.plan_dag.specs.Cells.{given}
use Rattle.plan_dag.specs.ItemRules.{Cell}
use Rattle.plan_dag.specs.Meaning.{cells}
use Rattle.lift_laws.specs.Sums.{Ascends, Same}
use Rattle.lift_laws.specs.Iterations.{Row, Iter, num, item_rows, value_rows, loop_rows}
use Rattle.lift_laws.specs.States.{column, three}
use Rattle.lift_laws.specs.Shapes.{bare, pair, pick, four, item_value_rows}
use Rattle.lift_laws.specs.Slices.{tally_mark, tally_rows, tallied_rows}
use Rattle.lift_laws.proofs.Multi.{same-of, same-trans, same-map, same-flat}
use Rattle.lift_laws.proofs.Picks.{all_each, flat-all, flat-flat, map-flat}
use Rattle.lift_laws.proofs.FunctionCases.{some_items}
use Rattle.lift_laws.proofs.Marks.{some}
use Rattle.lift_laws.proofs.AggregateCase.{front_of, groups_stand}

abbrev pub crosses : Items → Text
crosses us = map (λ (v : Cell). 120) us

encodes_crosses : (us : Items) → encode_utf8_all (crosses us) ≡ crosses us
encodes_crosses [] = refl
encodes_crosses (u ∷ us) = ap (λ l. l ++ encode_utf8_all (crosses us)) (encode_ascii 120 (omega arith)) ∙ ap (λ l. 120 ∷ l) (encodes_crosses us)

scalar_crosses : (us : Items) → all_scalars (crosses us) ≡ true
scalar_crosses [] = refl
scalar_crosses (u ∷ us) = scalar_crosses us

chars_crosses : (us : Items) → chars (crosses us) ≡ crosses us
chars_crosses us = ap chars (sym (encodes_crosses us)) ∙ chars-encodes (crosses us) (scalar_crosses us)

map_places : {A B : Type 0} (F : A → B) (test : ℕ → Bool) (n : ℕ) (us : List A) → at_places test n (map F us) ≡ map F (at_places test n us)
map_places F test n [] = refl
map_places F test n (u ∷ us) =
    let r = map_places F test (n + 1) us in
    let more = at_places test (n + 1) us in
    ap (λ l. cond (test n) (F u ∷ l) l) r ∙ elim (test n) as (λ b. cond b (F u ∷ map F more) (map F more) ≡ map F (cond b (u ∷ more) more)) [ true ↦ refl | false ↦ refl ]

length_crosses : (us : Items) → length (crosses us) ≡ length us
length_crosses [] = refl
length_crosses (u ∷ us) = let e = length_crosses us in omega arith

-- a part has a character for each place that is selected
pub part_count : (z n : ℤ) (us : Items) → char_count (text_part (crosses us) z (Some n)) ≡ length (at_places (is_selected z (Some n)) 1 us)
part_count z n us =
    let test = is_selected z (Some n) in
    let left = at_places test 1 us in
    ap (λ l. char_count (encode_utf8_all (at_places test 1 l))) (chars_crosses us)
    ∙ ap (λ l. char_count (encode_utf8_all l)) (map_places (λ (v : Cell). 120) test 1 us)
    ∙ ap char_count (encodes_crosses left) ∙ ap length (chars_crosses left) ∙ length_crosses left

abbrev pub tallies : Items → Items
tallies us = map (λ (v : Cell). tally_mark) us

joined_tallies : (us : Items) → joined [] (map text_of (data_of (tallies us))) ≡ crosses us
joined_tallies [] = refl
joined_tallies (u ∷ []) = refl
joined_tallies (u ∷ w ∷ us) = ap (λ l. 120 ∷ l) (joined_tallies (w ∷ us))

-- what stands for the text, nothing where there is no item
abbrev pub tallied : Items → Items
tallied us = front_of g.Concat (tallies us)

pub tallied_text : (us : Items) → text_argument (data_of (tallied us)) ≡ Value (crosses us)
tallied_text [] = refl
tallied_text (u ∷ us) =
    ap (λ b. text_argument (data_of (cond b (TextItem (joined [] (map text_of (data_of (tallies (u ∷ us))))) ∷ []) []))) (sym (some_items (tallies (u ∷ us))))
    ∙ ap Value (joined_tallies (u ∷ us))

pub tallied_few : (us : Items) → length (tallied us) ≤ length us
tallied_few [] = omega arith
tallied_few (u ∷ us) = one (some (tallies (u ∷ us)))
  where
    one : (b : Bool) → length (cond b (TextItem (joined [] (map text_of (data_of (tallies (u ∷ us))))) ∷ []) []) ≤ length (u ∷ us)
    one true = omega arith
    one false = omega arith

abbrev out : Row → Row
out r = pick four (pair 0 0 ∷ pair 1 1 ∷ pair 2 3 ∷ []) r

abbrev with_mark : Row → Row
with_mark r = r ++ tally_mark ∷ []

tally_items : (n k : ℕ) (us : Items) → map out (map with_mark (item_rows n k us)) ≡ item_rows n k (tallies us)
tally_items n k [] = refl
tally_items n k (u ∷ us) = ap (λ l. (num n ∷ num k ∷ tally_mark ∷ []) ∷ l) (tally_items n (k + 1) us)

module _ (h : Iter → List Cell) (its : List Iter) (l a : List Row) (asc : Ascends (λ i. i.number) 0 its) (sl : Same l (loop_rows its)) (sa : Same a (value_rows h its)) where
  pub tally_stands : Same (tally_rows a) (value_rows (λ i. tallies (h i)) its)
  tally_stands =
      same-trans (same-map out (same-map with_mark sa))
      (same-of (ap (map out) (map-flat with_mark (λ i. item_rows i.number 1 (h i)) its)
      ∙ map-flat out (λ i. map with_mark (item_rows i.number 1 (h i))) its
      ∙ flat-all _ _ its (all_each _ (λ i. tally_items i.number 1 (h i)) its)))

  pub tallied_stands : Same (tallied_rows l a) (value_rows (λ i. tallied (h i)) its)
  tallied_stands = groups_stand g.Concat (λ i. tallies (h i)) its l (tally_rows a) asc sl tally_stands

-- the lengths of texts
abbrev with_length : Row → List Row
with_length r = map (λ v. r ++ v ∷ []) (given (bare.value f.StringLength (cells bare three (column 2 ∷ []) r)))

length_items : (n k : ℕ) (ts : List Text) → map out (flat_map with_length (item_rows n k (map TextItem ts))) ≡ item_rows n k (map (λ t. num (char_count t)) ts)
length_items n k [] = refl
length_items n k (t ∷ ts) = ap (λ l. (num n ∷ num k ∷ num (char_count t) ∷ []) ∷ l) (length_items n (k + 1) ts)

pub lengths_stand : (g : Iter → List Text) (its : List Iter) (a : List Row) → Same a (value_rows (λ i. map TextItem (g i)) its) → Same (item_value_rows f.StringLength a) (value_rows (λ i. map (λ t. num (char_count t)) (g i)) its)
lengths_stand g its a s =
    same-trans (same-map out (same-flat with_length s))
    (same-of (ap (map out) (flat-flat with_length (λ i. item_rows i.number 1 (map TextItem (g i))) its)
    ∙ map-flat out (λ i. flat_map with_length (item_rows i.number 1 (map TextItem (g i)))) its
    ∙ flat-all _ _ its (all_each _ (λ i. length_items i.number 1 (g i)) its)))
