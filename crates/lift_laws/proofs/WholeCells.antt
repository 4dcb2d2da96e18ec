-- Equality of cells with the trees of their nodes, which the equality of cells passes over.
use Rattle.std.proofs.Common.{◌≡◌, ℕ, ◌+◌, Bool, true, false, cond, not, ◌&&◌, List, [], ◌∷◌, refl, sym, ap, ◌∙◌, subst, arith, nat_eq, zero-add}
use Rattle.std.proofs.lemmas.Bool.{and_parts, and_from, eqb-true}
use Rattle.std.proofs.lemmas.Bool.Decides.{Decides-int_eq}
use Rattle.xq_base.specs.Texts.{Text, text_eq}
use Rattle.doc_table.specs.Tree.{Tree, Forest, Label, Branch, OfDocument, OfElement, OfAttribute, OfText, OfComment, OfInstruction, no_more, one_more}
use Rattle.doc_table.specs.Identity.{tree_id_eq}
use Rattle.doc_table.specs.Items.{IntItem, TextItem, UntypedItem, BoolItem, NodeItem}
use Rattle.doc_table.specs.Paths.{path_eq}
use Rattle.doc_table.proofs.StrictOrders.{same-ids}
use Rattle.doc_table.proofs.TextTests.{text-refl, text-sound}
use Rattle.plan_dag.specs.ItemRules.{Cell, cell_eq}
use Rattle.lift_laws.specs.Sums.{total, bit, count, AllOf, Same}
use Rattle.lift_laws.specs.Iterations.{Row}
use Rattle.lift_laws.proofs.Numbers.{nat_eq_self, cell_eq_self}
use Rattle.lift_laws.proofs.CellEqual.{same-path}

-- a label as a number and texts, and back
abbrev flat_pairs : List (Text × Text) → List Text
flat_pairs [] = []
flat_pairs (p ∷ ps) = p.0 ∷ p.1 ∷ flat_pairs ps

abbrev pairs_back : List Text → List (Text × Text)
pairs_back [] = []
pairs_back (n ∷ []) = []
pairs_back (n ∷ v ∷ ts) = (n, v) ∷ pairs_back ts

pairs_same : (ps : List (Text × Text)) → pairs_back (flat_pairs ps) ≡ ps
pairs_same [] = refl
pairs_same (p ∷ ps) = ap (λ l. p ∷ l) (pairs_same ps)

abbrev rank_of : Label Text → ℕ
rank_of OfDocument = 0
rank_of (OfElement n as') = 1
rank_of (OfAttribute n v) = 2
rank_of (OfText v) = 3
rank_of (OfComment v) = 4
rank_of (OfInstruction n v) = 5

abbrev texts_of : Label Text → List Text
texts_of OfDocument = []
texts_of (OfElement n as') = n ∷ flat_pairs as'
texts_of (OfAttribute n v) = n ∷ v ∷ []
texts_of (OfText v) = v ∷ []
texts_of (OfComment v) = v ∷ []
texts_of (OfInstruction n v) = n ∷ v ∷ []

abbrev first_text : List Text → Text
first_text [] = []
first_text (t ∷ ts) = t

abbrev later_texts : List Text → List Text
later_texts [] = []
later_texts (t ∷ ts) = ts

abbrev label_from : ℕ → List Text → Label Text
label_from n ts =
    cond (nat_eq n 0) OfDocument (cond (nat_eq n 1) (OfElement (first_text ts) (pairs_back (later_texts ts))) (cond (nat_eq n 2) (OfAttribute (first_text ts) (first_text (later_texts ts)))
    (cond (nat_eq n 3) (OfText (first_text ts)) (cond (nat_eq n 4) (OfComment (first_text ts)) (OfInstruction (first_text ts) (first_text (later_texts ts)))))))

label_back : (l : Label Text) → label_from (rank_of l) (texts_of l) ≡ l
label_back OfDocument = refl
label_back (OfElement n as') = ap (OfElement n) (pairs_same as')
label_back (OfAttribute n v) = refl
label_back (OfText v) = refl
label_back (OfComment v) = refl
label_back (OfInstruction n v) = refl

abbrev all_eq : List Text → List Text → Bool
all_eq [] [] = true
all_eq (t ∷ ts) (u ∷ us) = text_eq t u && all_eq ts us
all_eq _ _ = false

all_sound : (ts us : List Text) → all_eq ts us ≡ true → ts ≡ us
all_sound [] [] e = refl
all_sound [] (u ∷ us) e = cc
all_sound (t ∷ ts) [] e = cc
all_sound (t ∷ ts) (u ∷ us) e = let p = and_parts (text_eq t u) (all_eq ts us) e in ap (λ x. x ∷ ts) (text-sound t u p.0) ∙ ap (λ l. u ∷ l) (all_sound ts us p.1)

all_self : (ts : List Text) → all_eq ts ts ≡ true
all_self [] = refl
all_self (t ∷ ts) = and_from (text_eq t t) (all_eq ts ts) (text-refl t) (all_self ts)

abbrev label_eq : Label Text → Label Text → Bool
label_eq l m = nat_eq (rank_of l) (rank_of m) && all_eq (texts_of l) (texts_of m)

label_sound : (l m : Label Text) → label_eq l m ≡ true → l ≡ m
label_sound l m e =
    let p = and_parts (nat_eq (rank_of l) (rank_of m)) (all_eq (texts_of l) (texts_of m)) e in
    sym (label_back l) ∙ ap (λ n. label_from n (texts_of l)) (eqb-true (rank_of l) (rank_of m) p.0) ∙ ap (label_from (rank_of m)) (all_sound (texts_of l) (texts_of m) p.1) ∙ label_back m

label_self : (l : Label Text) → label_eq l l ≡ true
label_self l = and_from (nat_eq (rank_of l) (rank_of l)) (all_eq (texts_of l) (texts_of l)) (nat_eq_self (rank_of l)) (all_self (texts_of l))

abbrev mutual
  tree_eq : Tree Text → Tree Text → Bool
  tree_eq (Branch l f) (Branch m g) = label_eq l m && forest_eq f g

  forest_eq : Forest Text → Forest Text → Bool
  forest_eq no_more no_more = true
  forest_eq (one_more t f) (one_more u g) = tree_eq t u && forest_eq f g
  forest_eq _ _ = false

mutual
  tree_sound : (t u : Tree Text) → tree_eq t u ≡ true → t ≡ u
  tree_sound (Branch l f) (Branch m g) e = let p = and_parts (label_eq l m) (forest_eq f g) e in ap (λ x. Branch x f) (label_sound l m p.0) ∙ ap (Branch m) (forest_sound f g p.1)

  forest_sound : (f g : Forest Text) → forest_eq f g ≡ true → f ≡ g
  forest_sound no_more no_more e = refl
  forest_sound no_more (one_more u g) e = cc
  forest_sound (one_more t f) no_more e = cc
  forest_sound (one_more t f) (one_more u g) e = let p = and_parts (tree_eq t u) (forest_eq f g) e in ap (λ x. one_more x f) (tree_sound t u p.0) ∙ ap (one_more u) (forest_sound f g p.1)

mutual
  tree_self : (t : Tree Text) → tree_eq t t ≡ true
  tree_self (Branch l f) = and_from (label_eq l l) (forest_eq f f) (label_self l) (forest_self f)

  forest_self : (f : Forest Text) → forest_eq f f ≡ true
  forest_self no_more = refl
  forest_self (one_more t f) = and_from (tree_eq t t) (forest_eq f f) (tree_self t) (forest_self f)

abbrev same_trees : Cell → Cell → Bool
same_trees (NodeItem m) (NodeItem n) = tree_eq m.tree n.tree
same_trees _ _ = true

abbrev whole_eq : Cell → Cell → Bool
whole_eq v w = cell_eq v w && same_trees v w

pub whole_self : (v : Cell) → whole_eq v v ≡ true
whole_self v = and_from (cell_eq v v) (same_trees v v) (cell_eq_self v) (trees v)
  where
    trees : (v : Cell) → same_trees v v ≡ true
    trees (IntItem z) = refl
    trees (TextItem t) = refl
    trees (UntypedItem t) = refl
    trees (BoolItem b) = refl
    trees (NodeItem n) = tree_self n.tree

bool_sound : (b d : Bool) → cell_eq (BoolItem b) (BoolItem d) ≡ true → b ≡ d
bool_sound true true e = refl
bool_sound false false e = refl
bool_sound true false e = cc
bool_sound false true e = cc

cell_sound : (v w : Cell) → cell_eq v w ≡ true → same_trees v w ≡ true → v ≡ w
cell_sound (IntItem z) (IntItem y) e h = ap IntItem ((Decides-int_eq z y).0 e)
cell_sound (IntItem z) (TextItem u) e h = cc
cell_sound (IntItem z) (UntypedItem u) e h = cc
cell_sound (IntItem z) (BoolItem d) e h = cc
cell_sound (IntItem z) (NodeItem m) e h = cc
cell_sound (TextItem t) (IntItem y) e h = cc
cell_sound (TextItem t) (TextItem u) e h = ap TextItem (text-sound t u e)
cell_sound (TextItem t) (UntypedItem u) e h = cc
cell_sound (TextItem t) (BoolItem d) e h = cc
cell_sound (TextItem t) (NodeItem m) e h = cc
cell_sound (UntypedItem t) (IntItem y) e h = cc
cell_sound (UntypedItem t) (TextItem u) e h = cc
cell_sound (UntypedItem t) (UntypedItem u) e h = ap UntypedItem (text-sound t u e)
cell_sound (UntypedItem t) (BoolItem d) e h = cc
cell_sound (UntypedItem t) (NodeItem m) e h = cc
cell_sound (BoolItem b) (IntItem y) e h = cc
cell_sound (BoolItem b) (TextItem u) e h = cc
cell_sound (BoolItem b) (UntypedItem u) e h = cc
cell_sound (BoolItem b) (BoolItem d) e h = ap BoolItem (bool_sound b d e)
cell_sound (BoolItem b) (NodeItem m) e h = cc
cell_sound (NodeItem n) (IntItem y) e h = cc
cell_sound (NodeItem n) (TextItem u) e h = cc
cell_sound (NodeItem n) (UntypedItem u) e h = cc
cell_sound (NodeItem n) (BoolItem d) e h = cc
cell_sound (NodeItem n) (NodeItem m) e h =
    let p = and_parts (tree_id_eq n.id m.id) (path_eq n.path m.path) e in
    ap (λ i. NodeItem (record { id = i; tree = n.tree; path = n.path })) (same-ids n.id m.id p.0)
    ∙ ap (λ t. NodeItem (record { id = m.id; tree = t; path = n.path })) (tree_sound n.tree m.tree h)
    ∙ ap (λ q. NodeItem (record { id = m.id; tree = m.tree; path = q })) (same-path n.path m.path p.1)

pub whole_sound : (v w : Cell) → whole_eq v w ≡ true → v ≡ w
whole_sound v w e = let p = and_parts (cell_eq v w) (same_trees v w) e in cell_sound v w p.0 p.1

abbrev pub row_eq : Row → Row → Bool
row_eq [] [] = true
row_eq (v ∷ q) (w ∷ r) = whole_eq v w && row_eq q r
row_eq _ _ = false

pub row_sound : (q r : Row) → row_eq q r ≡ true → q ≡ r
row_sound [] [] e = refl
row_sound [] (w ∷ r) e = cc
row_sound (v ∷ q) [] e = cc
row_sound (v ∷ q) (w ∷ r) e = let p = and_parts (whole_eq v w) (row_eq q r) e in ap (λ x. x ∷ q) (whole_sound v w p.0) ∙ ap (λ l. w ∷ l) (row_sound q r p.1)

pub row_self : (r : Row) → row_eq r r ≡ true
row_self [] = refl
row_self (v ∷ r) = and_from (whole_eq v v) (row_eq r r) (whole_self v) (row_self r)

-- a test that all of one list pass all of the other pass
pub same_tested : {A : Type 0} (p : A → Bool) (xs ys : List A) → Same xs ys → AllOf (λ y. p y ≡ true) ys → AllOf (λ x. p x ≡ true) xs
same_tested {A = A} p xs ys s a = back xs (s.at (λ x. bit (not (p x))) ∙ none ys a)
  where
    none : (zs : List A) → AllOf (λ y. p y ≡ true) zs → total (λ x. bit (not (p x))) zs ≡ 0
    none [] k = refl
    none (z ∷ zs) k = ap (λ b. bit (not b) + total (λ x. bit (not (p x))) zs) k.0 ∙ zero-add _ ∙ none zs k.1

    one : (z : A) (zs : List A) (b : Bool) → p z ≡ b → bit (not b) + total (λ x. bit (not (p x))) zs ≡ 0 → (total (λ x. bit (not (p x))) zs ≡ 0 → AllOf (λ y. p y ≡ true) zs) → (p z ≡ true) × AllOf (λ y. p y ≡ true) zs
    one z zs true w q k = (w, k (omega arith))
    one z zs false w q k = absurd (omega arith)

    back : (zs : List A) → total (λ x. bit (not (p x))) zs ≡ 0 → AllOf (λ y. p y ≡ true) zs
    back [] e = tt
    back (z ∷ zs) e = one z zs (p z) refl e (λ q. back zs q)

-- a row that is counted is there
pub counted : (P : Row → Type 0) (x : Row) (ys : List Row) → AllOf P ys → (count (row_eq x) ys ≡ 0 → ⊥) → P x
counted P x [] a h = absurd (h refl)
counted P x (y ∷ ys) a h = go (row_eq x y) refl h (λ k. counted P x ys a.1 k)
  where
    go : (b : Bool) → row_eq x y ≡ b → (bit b + count (row_eq x) ys ≡ 0 → ⊥) → ((count (row_eq x) ys ≡ 0 → ⊥) → P x) → P x
    go true e k r = subst P (sym (row_sound x y e)) a.0
    go false e k r = r (λ z. k (omega arith))
