-- Lists of trees and forests.
use Rattle.std.proofs.Common.{◌≡◌, List, [], ◌∷◌, ◌++◌, refl, sym, ap, ◌∙◌, append_assoc, append-nil}
use Rattle.doc_table.specs.Tree.{Label, OfText, Tree, Forest, Branch, no_more, one_more, forest_of, trees_in}
use Rattle.doc_shred.specs.Content.{Text}
use Rattle.doc_shred.specs.Walk.{Nodes, put_node, open_node, close_node, add_text}

-- these trees in front of a forest
abbrev pub onto : List (Tree Text) → Forest Text → Forest Text
onto [] f = f
onto (t ∷ ts) f = one_more t (onto ts f)

pub onto-append : (ts us : List (Tree Text)) (f : Forest Text) → onto (ts ++ us) f ≡ onto ts (onto us f)
onto-append [] us f = refl
onto-append (t ∷ ts) us f = ap (one_more t) (onto-append ts us f)

pub onto-none : (ts : List (Tree Text)) → onto ts no_more ≡ forest_of ts
onto-none [] = refl
onto-none (t ∷ ts) = ap (one_more t) (onto-none ts)

pub forest_of-trees_in : (f : Forest Text) → forest_of (trees_in f) ≡ f
forest_of-trees_in no_more = refl
forest_of-trees_in (one_more t ts) = ap (one_more t) (forest_of-trees_in ts)

pub trees_in-forest_of : (ts : List (Tree Text)) → trees_in (forest_of ts) ≡ ts
trees_in-forest_of [] = refl
trees_in-forest_of (t ∷ ts) = ap (λ us. t ∷ us) (trees_in-forest_of ts)

-- a text as a list of trees: none, where it is empty
abbrev pub text_list : Text → List (Tree Text)
text_list [] = []
text_list (c ∷ cs) = Branch (OfText (c ∷ cs)) no_more ∷ []

abbrev pub text_onto : Text → Forest Text → Forest Text
text_onto [] f = f
text_onto (c ∷ cs) f = one_more (Branch (OfText (c ∷ cs)) no_more) f

pub onto-text_list : (v : Text) (f : Forest Text) → onto (text_list v) f ≡ text_onto v f
onto-text_list [] f = refl
onto-text_list (c ∷ cs) f = refl

-- all trees of a forest are put in
abbrev pub put_all : Forest Text → Nodes → Nodes
put_all no_more os = os
put_all (one_more t ts) os = put_all ts (put_node t os)

put_all_is : (f : Forest Text) (l : Label Text) (done : List (Tree Text)) (os : Nodes) → put_all f (record { label = l; done = done } ∷ os) ≡ record { label = l; done = done ++ trees_in f } ∷ os
put_all_is no_more l done os = ap (λ (d : List (Tree Text)). record { label = l; done = d } ∷ os) (sym (append-nil done))
put_all_is (one_more t ts) l done os =
    put_all_is ts l (done ++ t ∷ []) os ∙ ap (λ (d : List (Tree Text)). record { label = l; done = d } ∷ os) (append_assoc done (t ∷ []) (trees_in ts))

-- an element that is opened, filled and closed
pub close-put_all : (f : Forest Text) (l : Label Text) (os : Nodes) → close_node (put_all f (open_node l os)) ≡ put_node (Branch l f) os
close-put_all f l os = ap close_node (put_all_is f l [] os) ∙ ap (λ (g : Forest Text). put_node (Branch l g) os) (forest_of-trees_in f)

pub add_text-put_all : (v : Text) (f : Forest Text) (os : Nodes) → put_all (text_onto v f) os ≡ put_all f (add_text v os)
add_text-put_all [] f os = refl
add_text-put_all (c ∷ cs) f os = refl
