-- The texts of items, one after the other, as `concat` gives them.
use Rattle.std.proofs.Common.{◌≡◌, ◌≤◌, ◌<◌, ◌+◌, ℕ, zero, suc, List, [], ◌∷◌, ◌++◌, length, drop, map, flat_map, get_or, refl, sym, ap, ◌∙◌, arith, Some}
use Rattle.std.proofs.lemmas.List.{append_assoc, at_drop_more, at_drop_all}
use Rattle.xq_base.specs.declared.fun.Fun.TheVariants as f
use Rattle.xq_base.specs.declared.item.Item.{Item as Held}
use Rattle.xq_base.specs.Answers.{Value, with_value, both_of}
use Rattle.xq_base.specs.Aggregates.{all_of}
use Rattle.xq_base.specs.Comparisons.{at_most_one}
use Rattle.xq_base.specs.Texts.{Text}
use Rattle.xq_base.specs.TextRules.{text_list, texts_joined}
use Rattle.doc_table.specs.Items.{TextItem, item_of}
use Rattle.doc_table.specs.NodeRules.{Docs}
use Rattle.doc_table.specs.Functions.{fun_answer}
use Rattle.doc_table.specs.Stores.{Holdings}
use Rattle.doc_table.specs.StoredItems.{trees_of, ItemGiven, ItemsGiven}
use Rattle.doc_table.specs.Values.{items_of, data_of, atomized, text_of_item}
use Rattle.xq_funs.specs.Calls.{values}
use Rattle.xq_funs.proofs.Calling.{item-text}

module _ (texts : List Text) (h : Holdings) where
  one-each : (args : List Held) → all_of at_most_one (map data_of (values texts h args)) ≡ Value (map (λ x. Some (atomized (item_of texts (trees_of h) x))) args)
  one-each [] = refl
  one-each (x ∷ xs) = ap (λ z. with_value (λ p. p.0 ∷ p.1) (both_of (Value (Some (atomized (item_of texts (trees_of h) x)))) z)) (one-each xs)

  all-joined : (args : List Held) → texts_joined (map (λ x. Some (atomized (item_of texts (trees_of h) x))) args) ≡ flat_map (λ x. text_of_item (item_of texts (trees_of h) x)) args
  all-joined [] = refl
  all-joined (x ∷ xs) =
      ap (λ z. z ++ texts_joined (map (λ y. Some (atomized (item_of texts (trees_of h) y))) xs)) (sym (item-text (item_of texts (trees_of h) x)))
      ∙ ap (λ z. text_of_item (item_of texts (trees_of h) x) ++ z) (all-joined xs)

  pub concat_is : (docs : Docs) (args : List Held) (t : Text) → t ≡ flat_map (λ x. text_of_item (item_of texts (trees_of h) x)) args → fun_answer docs f.Concat (values texts h args) ≡ Value (TextItem t ∷ [])
  concat_is docs args t e =
      ap (λ z. with_value items_of (with_value (λ as'. text_list (texts_joined as')) z)) (one-each args)
      ∙ ap (λ z. Value (TextItem z ∷ [])) (all-joined args ∙ sym e)

  pub given_at : (args : List Held) (i : ℕ) (d : Held) → ItemsGiven texts h args → i < length args → ItemGiven texts h (get_or args i d)
  given_at [] i d g l = absurd (omega arith)
  given_at (x ∷ xs) zero d g l = g.0
  given_at (x ∷ xs) (suc i) d g l = given_at xs i d g.1 (omega arith)

pub texts_step : {A : Type 0} (g : A → Text) (args : List A) (i : ℕ) (d x : A) (out out' all : Text) → i < length args → x ≡ get_or args i d → out' ≡ out ++ g x
    → out ++ flat_map g (drop i args) ≡ all → out' ++ flat_map g (drop (i + 1) args) ≡ all
texts_step g args i d x out out' all l a o e =
    ap (λ z. z ++ flat_map g (drop (i + 1) args)) (o ∙ ap (λ y. out ++ g y) a)
    ∙ append_assoc out (g (get_or args i d)) (flat_map g (drop (i + 1) args))
    ∙ ap (λ z. out ++ z) (sym (at_drop_more (flat_map g) args i d l))
    ∙ e

pub texts_end : {A : Type 0} (g : A → Text) (args : List A) (i : ℕ) (out all : Text) → length args ≤ i → out ++ flat_map g (drop i args) ≡ all → out ≡ all
texts_end g args i out all l e = sym (append-none out) ∙ ap (λ z. out ++ z) (sym (at_drop_all (flat_map g) args i l)) ∙ e
  where
    append-none : (t : Text) → t ++ [] ≡ t
    append-none [] = refl
    append-none (x ∷ xs) = ap (λ z. x ∷ z) (append-none xs)
