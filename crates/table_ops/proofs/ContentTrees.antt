-- What merging leaves of the trees of content.
use Rattle.std.proofs.Common.{◌≡◌, ◌∙◌, ◌++◌, ◌∷◌, ◌||◌, [], Bool, true, false, cond, not, List, map, refl, ap, Option, Some, None}
use Rattle.std.specs.List.{list_any}
use Rattle.xq_base.specs.Texts.{Text, is_empty_text, blank}
use Rattle.doc_table.specs.Tree.{Label, OfDocument, OfElement, OfAttribute, OfText, OfComment, OfInstruction, Tree, Branch, no_more}
use Rattle.doc_table.specs.Paths.{subtree, label_at}
use Rattle.doc_table.specs.Items.{IntItem, TextItem, UntypedItem, BoolItem, NodeItem}
use Rattle.doc_table.specs.Values.{Items, text_of_item}
use Rattle.doc_table.specs.Content.{run_tree, run_with, pieces_from, copies_from, content_of, put_text, put_piece, merged, is_attribute_tree, attributes_in, some_attribute, late_attribute}
use Rattle.table_ops.proofs.Lists.{joined_to}
use Rattle.table_ops.specs.Contents.{is_nothing, some_other, node_part, part_of, is_attribute, late_after, name_from, names_in}

-- an attribute after a tree that is none and leaves something
abbrev pub late_in : List (Tree Text) → Bool
late_in [] = false
late_in (t ∷ ts) = cond (is_attribute_tree t || is_nothing t) (late_in ts) (some_attribute ts)

-- the copies of a node that is no attribute have none among them
abbrev pub NodeFits : Option (Label Text) → Option (Tree Text) → Type 0
NodeFits (Some (OfAttribute n v)) s = Unit {0}
NodeFits l s = some_attribute (copies_from l s) ≡ false

abbrev pub NodesFit : Items → Type 0
NodesFit [] = Unit {0}
NodesFit (NodeItem n ∷ vs) = NodeFits (label_at n.tree n.path) (subtree n.path.steps n.tree) × NodesFit vs
NodesFit (v ∷ vs) = NodesFit vs

put_text_some : (t : Text) (ts : List (Tree Text)) → some_attribute (put_text t ts) ≡ some_attribute ts
put_text_some t [] = refl
put_text_some t (Branch (OfText u) f ∷ ts) = refl
put_text_some t (Branch OfDocument f ∷ ts) = refl
put_text_some t (Branch (OfElement n as') f ∷ ts) = refl
put_text_some t (Branch (OfAttribute n v) f ∷ ts) = refl
put_text_some t (Branch (OfComment v) f ∷ ts) = refl
put_text_some t (Branch (OfInstruction n v) f ∷ ts) = refl

put_piece_some : (t : Tree Text) (ts : List (Tree Text)) → some_attribute (put_piece t ts) ≡ is_attribute_tree t || some_attribute ts
put_piece_some (Branch (OfText t) f) ts = by (is_empty_text t)
  where
    by : (b : Bool) → some_attribute (cond b ts (put_text t ts)) ≡ some_attribute ts
    by true = refl
    by false = put_text_some t ts
put_piece_some (Branch OfDocument f) ts = refl
put_piece_some (Branch (OfElement n as') f) ts = refl
put_piece_some (Branch (OfAttribute n v) f) ts = refl
put_piece_some (Branch (OfComment v) f) ts = refl
put_piece_some (Branch (OfInstruction n v) f) ts = refl

pub merged_some : (ts : List (Tree Text)) → some_attribute (merged ts) ≡ some_attribute ts
merged_some [] = refl
merged_some (t ∷ ts) = put_piece_some t (merged ts) ∙ ap (λ b. is_attribute_tree t || b) (merged_some ts)

put_text_pairs : (t : Text) (ts : List (Tree Text)) → attributes_in (put_text t ts) ≡ attributes_in ts
put_text_pairs t [] = refl
put_text_pairs t (Branch (OfText u) f ∷ ts) = refl
put_text_pairs t (Branch OfDocument f ∷ ts) = refl
put_text_pairs t (Branch (OfElement n as') f ∷ ts) = refl
put_text_pairs t (Branch (OfAttribute n v) f ∷ ts) = refl
put_text_pairs t (Branch (OfComment v) f ∷ ts) = refl
put_text_pairs t (Branch (OfInstruction n v) f ∷ ts) = refl

put_piece_pairs : (t : Tree Text) (ts us : List (Tree Text)) → attributes_in ts ≡ attributes_in us → attributes_in (put_piece t ts) ≡ attributes_in (t ∷ us)
put_piece_pairs (Branch (OfText t) f) ts us e = by (is_empty_text t)
  where
    by : (b : Bool) → attributes_in (cond b ts (put_text t ts)) ≡ attributes_in us
    by true = e
    by false = put_text_pairs t ts ∙ e
put_piece_pairs (Branch OfDocument f) ts us e = e
put_piece_pairs (Branch (OfElement n as') f) ts us e = e
put_piece_pairs (Branch (OfAttribute n v) f) ts us e = ap (λ z. (n, v) ∷ z) e
put_piece_pairs (Branch (OfComment v) f) ts us e = e
put_piece_pairs (Branch (OfInstruction n v) f) ts us e = e

pub merged_pairs : (ts : List (Tree Text)) → attributes_in (merged ts) ≡ attributes_in ts
merged_pairs [] = refl
merged_pairs (t ∷ ts) = put_piece_pairs t (merged ts) ts (merged_pairs ts)

put_text_late : (t : Text) (ts : List (Tree Text)) → late_attribute (put_text t ts) ≡ some_attribute ts
put_text_late t [] = refl
put_text_late t (Branch (OfText u) f ∷ ts) = refl
put_text_late t (Branch OfDocument f ∷ ts) = refl
put_text_late t (Branch (OfElement n as') f ∷ ts) = refl
put_text_late t (Branch (OfAttribute n v) f ∷ ts) = refl
put_text_late t (Branch (OfComment v) f ∷ ts) = refl
put_text_late t (Branch (OfInstruction n v) f ∷ ts) = refl

put_piece_late : (t : Tree Text) (ts us : List (Tree Text)) → late_attribute ts ≡ late_in us → some_attribute ts ≡ some_attribute us → late_attribute (put_piece t ts) ≡ late_in (t ∷ us)
put_piece_late (Branch (OfText t) f) ts us e s = by (is_empty_text t)
  where
    by : (b : Bool) → late_attribute (cond b ts (put_text t ts)) ≡ cond b (late_in us) (some_attribute us)
    by true = e
    by false = put_text_late t ts ∙ s
put_piece_late (Branch OfDocument f) ts us e s = s
put_piece_late (Branch (OfElement n as') f) ts us e s = s
put_piece_late (Branch (OfAttribute n v) f) ts us e s = e
put_piece_late (Branch (OfComment v) f) ts us e s = s
put_piece_late (Branch (OfInstruction n v) f) ts us e s = s

pub merged_late : (ts : List (Tree Text)) → late_attribute (merged ts) ≡ late_in ts
merged_late [] = refl
merged_late (t ∷ ts) = put_piece_late t (merged ts) ts (merged_late ts) (merged_some ts)

-- trees one after the other
some_append : (xs ys : List (Tree Text)) → some_attribute (xs ++ ys) ≡ (some_attribute xs || some_attribute ys)
some_append [] ys = refl
some_append (x ∷ xs) ys = by (is_attribute_tree x) (some_append xs ys)
  where
    by : (b : Bool) → some_attribute (xs ++ ys) ≡ (some_attribute xs || some_attribute ys) → (b || some_attribute (xs ++ ys)) ≡ ((b || some_attribute xs) || some_attribute ys)
    by true e = refl
    by false e = e

late_append : (xs ys : List (Tree Text)) → some_attribute xs ≡ false → late_in (xs ++ ys) ≡ cond (some_other xs) (some_attribute ys) (late_in ys)
late_append [] ys h = refl
late_append (x ∷ xs) ys h = by (is_attribute_tree x) (is_nothing x) h (late_append xs ys)
  where
    by : (a b : Bool) → (a || some_attribute xs) ≡ false → (some_attribute xs ≡ false → late_in (xs ++ ys) ≡ cond (some_other xs) (some_attribute ys) (late_in ys))
        → cond (a || b) (late_in (xs ++ ys)) (some_attribute (xs ++ ys)) ≡ cond (not (a || b) || some_other xs) (some_attribute ys) (late_in ys)
    by true b h r = cc
    by false true h r = r h
    by false false h r = some_append xs ys ∙ ap (λ z. z || some_attribute ys) h

pairs_append : (xs ys : List (Tree Text)) → attributes_in (xs ++ ys) ≡ attributes_in xs ++ attributes_in ys
pairs_append [] ys = refl
pairs_append (Branch OfDocument f ∷ xs) ys = pairs_append xs ys
pairs_append (Branch (OfElement n as') f ∷ xs) ys = pairs_append xs ys
pairs_append (Branch (OfAttribute n v) f ∷ xs) ys = ap (λ z. (n, v) ∷ z) (pairs_append xs ys)
pairs_append (Branch (OfText t) f ∷ xs) ys = pairs_append xs ys
pairs_append (Branch (OfComment v) f ∷ xs) ys = pairs_append xs ys
pairs_append (Branch (OfInstruction n v) f ∷ xs) ys = pairs_append xs ys

-- the run of atomic values so far
abbrev pub run_open : Option Text → Bool
run_open None = false
run_open (Some t) = true

abbrev pub run_full : Option Text → Bool
run_full None = false
run_full (Some t) = not (is_empty_text t)

never_empty : (t u : Text) → not (is_empty_text (t ++ blank ++ u)) ≡ true
never_empty [] u = refl
never_empty (x ∷ t) u = refl

full_with : (run : Option Text) (u : Text) → run_full (run_with run u) ≡ (run_open run || not (is_empty_text u))
full_with None u = refl
full_with (Some t) u = never_empty t u

open_with : (run : Option Text) (u : Text) → run_open (run_with run u) ≡ true
open_with None u = refl
open_with (Some t) u = refl

run_some : (run : Option Text) (ts : List (Tree Text)) → some_attribute (run_tree run ++ ts) ≡ some_attribute ts
run_some None ts = refl
run_some (Some t) ts = refl

run_late : (run : Option Text) (ts : List (Tree Text)) → late_in (run_tree run ++ ts) ≡ cond (run_full run) (some_attribute ts) (late_in ts)
run_late None ts = refl
run_late (Some t) ts = by (is_empty_text t)
  where
    by : (b : Bool) → cond (false || b) (late_in ts) (some_attribute ts) ≡ cond (not b) (some_attribute ts) (late_in ts)
    by true = refl
    by false = refl

-- with something before, a late attribute is any
abbrev pub after : Bool → List (Tree Text) → Bool
after seen ts = cond seen (some_attribute ts) (late_in ts)

after_run : (seen : Bool) (run : Option Text) (ts : List (Tree Text)) → after seen (run_tree run ++ ts) ≡ after (seen || run_full run) ts
after_run true run ts = run_some run ts
after_run false run ts = run_late run ts

after_one : (seen : Bool) (t u : Text) (ts : List (Tree Text)) → after seen (Branch (OfAttribute t u) no_more ∷ ts) ≡ (seen || after seen ts)
after_one true t u ts = refl
after_one false t u ts = refl

after_other : (seen : Bool) (xs ts : List (Tree Text)) → some_attribute xs ≡ false → after seen (xs ++ ts) ≡ after (seen || some_other xs) ts
after_other true xs ts h = some_append xs ts ∙ ap (λ z. z || some_attribute ts) h
after_other false xs ts h = late_append xs ts h

after_none : (seen : Bool) (run : Option Text) → after seen (run_tree run) ≡ false
after_none true None = refl
after_none true (Some t) = refl
after_none false None = refl
after_none false (Some t) = by (is_empty_text t)
  where
    by : (b : Bool) → cond (false || b) false false ≡ false
    by true = refl
    by false = refl

pub pieces_late : (seen : Bool) (run : Option Text) (vs : Items) → NodesFit vs → after seen (pieces_from run vs) ≡ late_after seen (run_open run) (run_full run) (map part_of vs)
pieces_late seen run [] g = after_none seen run
pieces_late seen run (NodeItem n ∷ vs) g =
    ap (after seen) (joined_to (run_tree run) (copies_from (label_at n.tree n.path) (subtree n.path.steps n.tree)) (pieces_from None vs))
    ∙ after_run seen run (copies_from (label_at n.tree n.path) (subtree n.path.steps n.tree) ++ pieces_from None vs)
    ∙ by (label_at n.tree n.path) (subtree n.path.steps n.tree) g.0 (λ b. pieces_late b None vs g.1)
  where
    other : (ts : List (Tree Text)) (b : Bool) → some_attribute ts ≡ false → ((seen : Bool) → after seen (pieces_from None vs) ≡ late_after seen false false (map part_of vs)) → after b (ts ++ pieces_from None vs) ≡ late_after (b || some_other ts) false false (map part_of vs)
    other ts b f r = after_other b ts (pieces_from None vs) f ∙ r (b || some_other ts)

    by : (l : Option (Label Text)) (s : Option (Tree Text)) → NodeFits l s → ((seen : Bool) → after seen (pieces_from None vs) ≡ late_after seen false false (map part_of vs))
        → after (seen || run_full run) (copies_from l s ++ pieces_from None vs) ≡ late_after seen (run_open run) (run_full run) (node_part l s ∷ map part_of vs)
    by None s f r = other (copies_from None s) (seen || run_full run) f r
    by (Some OfDocument) s f r = other (copies_from (Some OfDocument) s) (seen || run_full run) f r
    by (Some (OfElement n as')) s f r = other (copies_from (Some (OfElement n as')) s) (seen || run_full run) f r
    by (Some (OfAttribute t u)) s f r = after_one (seen || run_full run) t u (pieces_from None vs) ∙ ap (λ z. (seen || run_full run) || z) (r (seen || run_full run))
    by (Some (OfText t)) s f r = other (copies_from (Some (OfText t)) s) (seen || run_full run) f r
    by (Some (OfComment t)) s f r = other (copies_from (Some (OfComment t)) s) (seen || run_full run) f r
    by (Some (OfInstruction t u)) s f r = other (copies_from (Some (OfInstruction t u)) s) (seen || run_full run) f r
pieces_late seen run (IntItem z ∷ vs) g = pieces_late seen (run_with run (text_of_item (IntItem z))) vs g ∙ (λ i. late_after seen (open_with run (text_of_item (IntItem z)) i) (full_with run (text_of_item (IntItem z)) i) (map part_of vs))
pieces_late seen run (TextItem t ∷ vs) g = pieces_late seen (run_with run (text_of_item (TextItem t))) vs g ∙ (λ i. late_after seen (open_with run (text_of_item (TextItem t)) i) (full_with run (text_of_item (TextItem t)) i) (map part_of vs))
pieces_late seen run (UntypedItem t ∷ vs) g = pieces_late seen (run_with run (text_of_item (UntypedItem t))) vs g ∙ (λ i. late_after seen (open_with run (text_of_item (UntypedItem t)) i) (full_with run (text_of_item (UntypedItem t)) i) (map part_of vs))
pieces_late seen run (BoolItem b ∷ vs) g = pieces_late seen (run_with run (text_of_item (BoolItem b))) vs g ∙ (λ i. late_after seen (open_with run (text_of_item (BoolItem b)) i) (full_with run (text_of_item (BoolItem b)) i) (map part_of vs))

-- late attributes, attributes and their names in content
pub content_late : (vs : Items) → NodesFit vs → late_attribute (content_of vs) ≡ late_after false false false (map part_of vs)
content_late vs g = merged_late (pieces_from None vs) ∙ pieces_late false None vs g

run_none : (run : Option Text) → some_attribute (run_tree run) ≡ false
run_none None = refl
run_none (Some t) = refl

pieces_some : (run : Option Text) (vs : Items) → NodesFit vs → some_attribute (pieces_from run vs) ≡ list_any is_attribute (map part_of vs)
pieces_some run [] g = run_none run
pieces_some run (NodeItem n ∷ vs) g =
    ap some_attribute (joined_to (run_tree run) (copies_from (label_at n.tree n.path) (subtree n.path.steps n.tree)) (pieces_from None vs))
    ∙ run_some run (copies_from (label_at n.tree n.path) (subtree n.path.steps n.tree) ++ pieces_from None vs)
    ∙ by (label_at n.tree n.path) (subtree n.path.steps n.tree) g.0 (pieces_some None vs g.1)
  where
    other : (ts : List (Tree Text)) → some_attribute ts ≡ false → some_attribute (pieces_from None vs) ≡ list_any is_attribute (map part_of vs) → some_attribute (ts ++ pieces_from None vs) ≡ list_any is_attribute (map part_of vs)
    other ts f r = some_append ts (pieces_from None vs) ∙ ap (λ z. z || some_attribute (pieces_from None vs)) f ∙ r

    by : (l : Option (Label Text)) (s : Option (Tree Text)) → NodeFits l s → some_attribute (pieces_from None vs) ≡ list_any is_attribute (map part_of vs) → some_attribute (copies_from l s ++ pieces_from None vs) ≡ list_any is_attribute (node_part l s ∷ map part_of vs)
    by None s f r = other (copies_from None s) f r
    by (Some OfDocument) s f r = other (copies_from (Some OfDocument) s) f r
    by (Some (OfElement n as')) s f r = other (copies_from (Some (OfElement n as')) s) f r
    by (Some (OfAttribute t u)) s f r = refl
    by (Some (OfText t)) s f r = other (copies_from (Some (OfText t)) s) f r
    by (Some (OfComment t)) s f r = other (copies_from (Some (OfComment t)) s) f r
    by (Some (OfInstruction t u)) s f r = other (copies_from (Some (OfInstruction t u)) s) f r
pieces_some run (IntItem z ∷ vs) g = pieces_some (run_with run (text_of_item (IntItem z))) vs g
pieces_some run (TextItem t ∷ vs) g = pieces_some (run_with run (text_of_item (TextItem t))) vs g
pieces_some run (UntypedItem t ∷ vs) g = pieces_some (run_with run (text_of_item (UntypedItem t))) vs g
pieces_some run (BoolItem b ∷ vs) g = pieces_some (run_with run (text_of_item (BoolItem b))) vs g

pub content_some : (vs : Items) → NodesFit vs → some_attribute (content_of vs) ≡ list_any is_attribute (map part_of vs)
content_some vs g = merged_some (pieces_from None vs) ∙ pieces_some None vs g

run_pairs : (run : Option Text) (ts : List (Tree Text)) → attributes_in (run_tree run ++ ts) ≡ attributes_in ts
run_pairs None ts = refl
run_pairs (Some t) ts = refl

run_alone : (run : Option Text) → attributes_in (run_tree run) ≡ []
run_alone None = refl
run_alone (Some t) = refl

no_pairs : (ts : List (Tree Text)) → some_attribute ts ≡ false → attributes_in ts ≡ []
no_pairs [] h = refl
no_pairs (Branch OfDocument f ∷ ts) h = no_pairs ts h
no_pairs (Branch (OfElement n as') f ∷ ts) h = no_pairs ts h
no_pairs (Branch (OfAttribute n v) f ∷ ts) h = cc
no_pairs (Branch (OfText t) f ∷ ts) h = no_pairs ts h
no_pairs (Branch (OfComment v) f ∷ ts) h = no_pairs ts h
no_pairs (Branch (OfInstruction n v) f ∷ ts) h = no_pairs ts h

abbrev pub names_of : List (Text × Text) → List Text
names_of ps = map (λ p. p.0) ps

pieces_names : (run : Option Text) (vs : Items) → NodesFit vs → names_of (attributes_in (pieces_from run vs)) ≡ names_in vs
pieces_names run [] g = ap names_of (run_alone run)
pieces_names run (NodeItem n ∷ vs) g =
    ap names_of
    (ap attributes_in (joined_to (run_tree run) (copies_from (label_at n.tree n.path) (subtree n.path.steps n.tree)) (pieces_from None vs))
    ∙ run_pairs run (copies_from (label_at n.tree n.path) (subtree n.path.steps n.tree) ++ pieces_from None vs))
    ∙ by (label_at n.tree n.path) (subtree n.path.steps n.tree) g.0 (pieces_names None vs g.1)
  where
    other : (ts : List (Tree Text)) → some_attribute ts ≡ false → names_of (attributes_in (pieces_from None vs)) ≡ names_in vs → names_of (attributes_in (ts ++ pieces_from None vs)) ≡ names_in vs
    other ts f r = ap names_of (pairs_append ts (pieces_from None vs) ∙ ap (λ z. z ++ attributes_in (pieces_from None vs)) (no_pairs ts f)) ∙ r

    by : (l : Option (Label Text)) (s : Option (Tree Text)) → NodeFits l s → names_of (attributes_in (pieces_from None vs)) ≡ names_in vs → names_of (attributes_in (copies_from l s ++ pieces_from None vs)) ≡ name_from l ++ names_in vs
    by None s f r = other (copies_from None s) f r
    by (Some OfDocument) s f r = other (copies_from (Some OfDocument) s) f r
    by (Some (OfElement n as')) s f r = other (copies_from (Some (OfElement n as')) s) f r
    by (Some (OfAttribute t u)) s f r = ap (λ z. t ∷ z) r
    by (Some (OfText t)) s f r = other (copies_from (Some (OfText t)) s) f r
    by (Some (OfComment t)) s f r = other (copies_from (Some (OfComment t)) s) f r
    by (Some (OfInstruction t u)) s f r = other (copies_from (Some (OfInstruction t u)) s) f r
pieces_names run (IntItem z ∷ vs) g = pieces_names (run_with run (text_of_item (IntItem z))) vs g
pieces_names run (TextItem t ∷ vs) g = pieces_names (run_with run (text_of_item (TextItem t))) vs g
pieces_names run (UntypedItem t ∷ vs) g = pieces_names (run_with run (text_of_item (UntypedItem t))) vs g
pieces_names run (BoolItem b ∷ vs) g = pieces_names (run_with run (text_of_item (BoolItem b))) vs g

pub content_names : (vs : Items) → NodesFit vs → names_of (attributes_in (content_of vs)) ≡ names_in vs
content_names vs g = ap names_of (merged_pairs (pieces_from None vs)) ∙ pieces_names None vs g
