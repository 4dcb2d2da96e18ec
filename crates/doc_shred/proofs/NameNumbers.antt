-- The numbers of the names of an element's attributes.
use Rattle.std.proofs.Common.{◌≡◌, ℕ, zero, suc, Some, slice_get, take, length, Bool, true, false, ◌&&◌, ◌||◌, List, [], ◌∷◌, ◌++◌, map, refl, sym, ap, ◌∙◌}
use Rattle.std.specs.Prelude.{nat_eq}
use Rattle.std.specs.List.{list_any}
use Rattle.std.proofs.lemmas.List.{map-append}
use Rattle.xq_base.specs.declared.item.TextId.{TextId}
use Rattle.doc_table.specs.Axes.{id_eq}
use Rattle.doc_table.specs.Tree.{OfDocument, OfElement, OfAttribute, OfText, OfComment, OfInstruction}
use Rattle.doc_table.specs.Spine.{Open, Spine, takes_attributes, has_name_in, attributes_open, with_attribute}
use Rattle.doc_shred.specs.Standing.{Texts, IsLater, name_numbers}
use Rattle.doc_shred.specs.Content.{Text}

any_map : (n : ℕ) (as' : List (TextId × TextId)) → list_any (nat_eq n) (map (λ (a : TextId × TextId). a.0.0) as') ≡ list_any (λ (a : TextId × TextId). nat_eq n a.0.0) as'
any_map n [] = refl
any_map n (a ∷ as') = ap (λ z. nat_eq n a.0.0 || z) (any_map n as')

no_element : (b : Bool) → (false && b) ≡ true → ⊥
no_element b e = cc

-- whether a name is among them
pub named_by_number : (name : TextId) (nodes : List (Open TextId)) → takes_attributes nodes ≡ true → has_name_in id_eq name nodes ≡ list_any (nat_eq name.0) (name_numbers nodes)
named_by_number name [] e = cc
named_by_number name (o ∷ rest) e = by o.label refl
  where
    by : (l : Rattle.doc_table.specs.Tree.Label TextId) → o.label ≡ l → has_name_in id_eq name (o ∷ rest) ≡ list_any (nat_eq name.0) (name_numbers (o ∷ rest))
    by OfDocument q = let x = rw q at e in absurd (no_element (Rattle.doc_table.specs.Spine.is_childless o.done) x)
    by (OfElement m as') q = rw q (sym (any_map name.0 as'))
    by (OfAttribute m v) q = let x = rw q at e in absurd (no_element (Rattle.doc_table.specs.Spine.is_childless o.done) x)
    by (OfText v) q = let x = rw q at e in absurd (no_element (Rattle.doc_table.specs.Spine.is_childless o.done) x)
    by (OfComment v) q = let x = rw q at e in absurd (no_element (Rattle.doc_table.specs.Spine.is_childless o.done) x)
    by (OfInstruction m v) q = let x = rw q at e in absurd (no_element (Rattle.doc_table.specs.Spine.is_childless o.done) x)

pub name_there : (name : TextId) (nodes : List (Open TextId)) (keys : List ℕ) → takes_attributes nodes ≡ true → keys ≡ name_numbers nodes → list_any (nat_eq name.0) keys ≡ true → has_name_in id_eq name nodes ≡ true
name_there name nodes keys e k h = named_by_number name nodes e ∙ ap (list_any (nat_eq name.0)) (sym k) ∙ h

pub name_absent : (name : TextId) (nodes : List (Open TextId)) (keys : List ℕ) → takes_attributes nodes ≡ true → keys ≡ name_numbers nodes → list_any (nat_eq name.0) keys ≡ false → has_name_in id_eq name nodes ≡ false
name_absent name nodes keys e k h = named_by_number name nodes e ∙ ap (list_any (nat_eq name.0)) (sym k) ∙ h

-- with one attribute more
pub name_added : (name value : TextId) (s : Spine TextId) (keys : List ℕ) → takes_attributes s.nodes ≡ true → keys ≡ name_numbers s.nodes → keys ++ name.0 ∷ [] ≡ name_numbers (with_attribute name value s).nodes
name_added name value s keys e k = by s.nodes e k
  where
    by : (nodes : List (Open TextId)) → takes_attributes nodes ≡ true → keys ≡ name_numbers nodes → keys ++ name.0 ∷ [] ≡ name_numbers (Rattle.doc_table.specs.Spine.attribute_in name value nodes)
    by [] e k = cc
    by (o ∷ rest) e k = at o.label refl
      where
        at : (l : Rattle.doc_table.specs.Tree.Label TextId) → o.label ≡ l → keys ++ name.0 ∷ [] ≡ name_numbers (Rattle.doc_table.specs.Spine.attribute_in name value (o ∷ rest))
        at OfDocument q = let x = rw q at e in absurd (no_element (Rattle.doc_table.specs.Spine.is_childless o.done) x)
        at (OfElement m as') q = ap (λ z. z ++ name.0 ∷ []) k ∙ rw q (sym (map-append (λ (a : TextId × TextId). a.0.0) as' ((name, value) ∷ [])))
        at (OfAttribute m v) q = let x = rw q at e in absurd (no_element (Rattle.doc_table.specs.Spine.is_childless o.done) x)
        at (OfText v) q = let x = rw q at e in absurd (no_element (Rattle.doc_table.specs.Spine.is_childless o.done) x)
        at (OfComment v) q = let x = rw q at e in absurd (no_element (Rattle.doc_table.specs.Spine.is_childless o.done) x)
        at (OfInstruction m v) q = let x = rw q at e in absurd (no_element (Rattle.doc_table.specs.Spine.is_childless o.done) x)

-- an earlier number keeps its text
pub number_kept : (texts final : Texts) (n : ℕ) (v : Text) → slice_get texts n ≡ Some v → IsLater texts final → slice_get final n ≡ Some v
number_kept [] final n v e k = cc
number_kept (t ∷ ts) [] n v e k = cc
number_kept (t ∷ ts) (f ∷ fs) zero v e k = let same : f ≡ t = cc in ap Some same ∙ e
number_kept (t ∷ ts) (f ∷ fs) (suc n) v e k = number_kept ts fs n v e (let tails : take (length ts) fs ≡ ts = cc in tails)
