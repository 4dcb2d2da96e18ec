-- The string value of a node, by rows.
use Rattle.std.proofs.Common.{◌≡◌, ◌<◌, ◌≤◌, ◌+◌, ◌-◌, ◌⊎◌, inl, inr, ℕ, zero, suc, Bool, true, false, ◌&&◌, cond, List, [], ◌∷◌, ◌++◌, length, take, drop, map, Result, Ok, Err, OnOk, if◌then◌else◌, append-nil, Option, Some, None, refl, sym, ap, ◌∙◌, subst, arith, append_assoc}
use Rattle.std.proofs.lemmas.Bool.{and_parts, false≢true, true≢false, eqb-true, leb-true, ltb-true}
use Rattle.std.specs.Prelude.{nat_eq, nat_lt, nat_le, slice_get, slice_index_or, slice_range}
use Rattle.std.specs.List.{list_all}
use Rattle.std.specs.Result.{is_ok}
use Rattle.xq_base.specs.declared.item.TextId.{TextId}
use Rattle.xq_base.specs.Texts.{Text}
use Rattle.doc_table.specs.declared.rows.Kind.{Kind}
use Rattle.doc_table.specs.declared.rows.Kind.TheVariants as k
use Rattle.doc_table.specs.Tree.{AttributeNode, Label, OfDocument, OfElement, OfAttribute, OfText, OfComment, OfInstruction, Tree, Forest, Branch, no_more, one_more, root_of, kind_of, attributes_of, text_in, pair_with, label_with, tree_with, forest_with}
use Rattle.doc_table.specs.Paths.{Path, nth_pair, subtree, label_of_pair, label_in, label_at}
use Rattle.doc_table.specs.Enc.{Line, line_of, row_kind, row_name, row_value, row_attributes, enc_at, encs_at, enc, line_in, no_line}
use Rattle.doc_table.specs.Axes.{id_eq, kind_eq}
use Rattle.doc_table.specs.Places.{Place, is_lone, path_at, names_node, node_at}
use Rattle.doc_table.specs.Spine.{is_empty_id}
use Rattle.doc_table.specs.Sound.{may_be_child, is_sound}
use Rattle.doc_table.specs.Nodes.{own_text, text_below, texts_below, text_of_tree, string_from}
use Rattle.doc_table.specs.TextRows.{text_or_none, row_text, texts_of_rows, node_text, string_in, string_at}
use Rattle.doc_table.specs.Given.{is_given, option_given, pair_given, line_given, tree_given}
use Rattle.doc_table.proofs.Marks.{bridge}
use Rattle.doc_table.proofs.Subtrees.{below-row}
use Rattle.doc_table.proofs.OtherTexts.{node_at-with, subtree-with, lone-with}

rows-append : (texts : List Text) (xs ys : List (Line TextId)) → texts_of_rows texts (xs ++ ys) ≡ texts_of_rows texts xs ++ texts_of_rows texts ys
rows-append texts [] ys = refl
rows-append texts (x ∷ xs) ys = ap (λ z. row_text texts x.kind x.value ++ z) (rows-append texts xs ys) ∙ sym (append_assoc (row_text texts x.kind x.value) (texts_of_rows texts xs) (texts_of_rows texts ys))

own : (texts : List Text) (l : Label TextId) → row_text texts (row_kind l) (row_value l) ≡ own_text (label_with (text_in texts) l)
own texts OfDocument = refl
own texts (OfElement n as') = refl
own texts (OfAttribute n v) = refl
own texts (OfText v) = refl
own texts (OfComment v) = refl
own texts (OfInstruction n v) = refl

mutual
  rows-tree : (texts : List Text) (level : ℕ) (t : Tree TextId) → texts_of_rows texts (enc_at level t) ≡ text_below (tree_with (text_in texts) t)
  rows-tree texts level (Branch l f) =
      ap (λ z. z ++ texts_of_rows texts (encs_at (level + 1) f)) (own texts l) ∙ ap (λ z. own_text (label_with (text_in texts) l) ++ z) (rows-forest texts (level + 1) f)

  rows-forest : (texts : List Text) (level : ℕ) (f : Forest TextId) → texts_of_rows texts (encs_at level f) ≡ texts_below (forest_with (text_in texts) f)
  rows-forest texts level no_more = refl
  rows-forest texts level (one_more t ts) =
      rows-append texts (enc_at level t) (encs_at level ts)
      ∙ ap (λ z. z ++ texts_of_rows texts (encs_at level ts)) (rows-tree texts level t) ∙ ap (λ z. text_below (tree_with (text_in texts) t) ++ z) (rows-forest texts level ts)

-- ---- what stands at a place

not-lone : (t : Tree TextId) (p : Place) → names_node t p ≡ true → is_lone t ≡ false → (p.pre < length (enc t)) × (p.attr ≤ length (line_in (enc t) p.pre).attributes)
not-lone t p h e =
    let q = and_parts (nat_lt p.pre (length (enc t))) (nat_le p.attr (length (line_in (enc t) p.pre).attributes)) (rw e at h) in
    (ltb-true p.pre (length (enc t)) q.0, leb-true p.attr (length (line_in (enc t) p.pre).attributes) q.1)

first-row : (t : Tree TextId) → 0 < length (enc t)
first-row (Branch l f) = omega arith

-- the row of a place, and the place of an attribute among the row's
pub row-inside : (t : Tree TextId) (p : Place) → names_node t p ≡ true → p.pre < length (enc t)
row-inside t p h = by (is_lone t) refl
  where
    by : (b : Bool) → is_lone t ≡ b → p.pre < length (enc t)
    by true e =
        let q = and_parts (nat_eq p.pre 0) (nat_eq p.attr 1) (rw e at h) in
        omega (arith, eqb-true p.pre 0 q.0, first-row t)
    by false e = (not-lone t p h e).0

lone-attributes : (t : Tree TextId) → is_lone t ≡ true → length (line_in (enc t) 0).attributes ≡ 1
lone-attributes (Branch OfDocument f) e = absurd (false≢true e)
lone-attributes (Branch (OfElement n as') f) e = absurd (false≢true e)
lone-attributes (Branch (OfAttribute n v) f) e = refl
lone-attributes (Branch (OfText v) f) e = absurd (false≢true e)
lone-attributes (Branch (OfComment v) f) e = absurd (false≢true e)
lone-attributes (Branch (OfInstruction n v) f) e = absurd (false≢true e)

pub attribute-inside : (t : Tree TextId) (p : Place) → names_node t p ≡ true → p.attr ≤ length (line_in (enc t) p.pre).attributes
attribute-inside t p h = by (is_lone t) refl
  where
    by : (b : Bool) → is_lone t ≡ b → p.attr ≤ length (line_in (enc t) p.pre).attributes
    by true e =
        let q = and_parts (nat_eq p.pre 0) (nat_eq p.attr 1) (rw e at h) in
        let zero-row : p.pre ≡ 0 = eqb-true p.pre 0 q.0 in
        omega (arith, eqb-true p.attr 1 q.1, lone-attributes t e, ap (λ v. length (line_in (enc t) v).attributes) zero-row)
    by false e = (not-lone t p h e).1

few-attributes : (l : Label TextId) (size level : ℕ) → 0 < length (row_attributes l) → row_kind l ≡ k.Element
few-attributes OfDocument size level h = absurd (omega arith)
few-attributes (OfElement n as') size level h = refl
few-attributes (OfAttribute n v) size level h = refl
few-attributes (OfText v) size level h = absurd (omega arith)
few-attributes (OfComment v) size level h = absurd (omega arith)
few-attributes (OfInstruction n v) size level h = absurd (omega arith)

-- a row with an attribute is an element's
pub element-row : (t : Tree TextId) (v : ℕ) → v < length (enc t) → 0 < length (line_in (enc t) v).attributes → (line_in (enc t) v).kind ≡ k.Element
element-row t v h a =
    let b = below-row id_eq is_empty_id t v h in
    ap (λ (x : Line TextId). x.kind) b.root ∙ few-attributes (root_of b.tree) 0 0 (omega (arith, a, ap (λ (x : Line TextId). length x.attributes) b.root))

-- ---- what a place gives

root-value : (texts : List Text) (level : ℕ) (u : Tree TextId) → kind_eq AttributeNode (kind_of (root_of u)) ≡ false
    → string_from (label_in 0 (Some (tree_with (text_in texts) u))) (text_of_tree (Some (tree_with (text_in texts) u))) ≡ node_text texts (row_kind (root_of u)) (row_value (root_of u)) (texts_of_rows texts (enc_at level u))
root-value texts level (Branch OfDocument f) h = sym (rows-tree texts level (Branch OfDocument f))
root-value texts level (Branch (OfElement n as') f) h = sym (rows-tree texts level (Branch (OfElement n as') f))
root-value texts level (Branch (OfAttribute n v) f) h = absurd (true≢false h)
root-value texts level (Branch (OfText v) f) h = refl
root-value texts level (Branch (OfComment v) f) h = refl
root-value texts level (Branch (OfInstruction n v) f) h = refl

pair-value : (texts : List Text) (as' : List (TextId × TextId)) (j : ℕ) (below : Text) (d : TextId × TextId) → j < length as'
    → string_from (label_of_pair (nth_pair (map (pair_with (text_in texts)) as') (suc j))) below ≡ text_in texts (slice_index_or as' j d).1
pair-value texts [] j below d h = absurd (omega arith)
pair-value texts (a ∷ as') zero below d h = refl
pair-value texts (a ∷ as') (suc j) below d h = pair-value texts as' j below d (omega arith)

attribute-value : (texts : List Text) (u : Tree TextId) (j : ℕ) (below : Text) (d : TextId × TextId) → kind_eq AttributeNode (kind_of (root_of u)) ≡ false → j < length (row_attributes (root_of u))
    → string_from (label_in (suc j) (Some (tree_with (text_in texts) u))) below ≡ text_in texts (slice_index_or (row_attributes (root_of u)) j d).1
attribute-value texts (Branch OfDocument f) j below d h l = absurd (omega arith)
attribute-value texts (Branch (OfElement n as') f) j below d h l = pair-value texts as' j below d l
attribute-value texts (Branch (OfAttribute n v) f) j below d h l = absurd (true≢false h)
attribute-value texts (Branch (OfText v) f) j below d h l = absurd (omega arith)
attribute-value texts (Branch (OfComment v) f) j below d h l = absurd (omega arith)
attribute-value texts (Branch (OfInstruction n v) f) j below d h l = absurd (omega arith)

lone-value : (texts : List Text) (t : Tree TextId) (d : TextId × TextId) → is_lone t ≡ true → string_in (tree_with (text_in texts) t) (record { steps = []; attr = 0 }) ≡ text_in texts (slice_index_or (line_in (enc t) 0).attributes 0 d).1
lone-value texts (Branch OfDocument f) d e = absurd (false≢true e)
lone-value texts (Branch (OfElement n as') f) d e = absurd (false≢true e)
lone-value texts (Branch (OfAttribute n v) f) d e = refl
lone-value texts (Branch (OfText v) f) d e = absurd (false≢true e)
lone-value texts (Branch (OfComment v) f) d e = absurd (false≢true e)
lone-value texts (Branch (OfInstruction n v) f) d e = absurd (false≢true e)

child-no-attribute : (l : Label TextId) → may_be_child is_empty_id l ≡ true → kind_eq AttributeNode (kind_of l) ≡ false
child-no-attribute OfDocument h = refl
child-no-attribute (OfElement n as') h = refl
child-no-attribute (OfAttribute n v) h = absurd (false≢true h)
child-no-attribute (OfText v) h = refl
child-no-attribute (OfComment v) h = refl
child-no-attribute (OfInstruction n v) h = refl

-- where a row stands in a tree that is no attribute alone
record AtRow (texts : List Text) (t : Tree TextId) (p : Place) : Type 0 where
  pub tree : Tree TextId
  pub level : ℕ
  pub string : string_at texts t p ≡ string_from (label_in p.attr (Some (tree_with (text_in texts) tree))) (text_of_tree (Some (tree_with (text_in texts) tree)))
  pub label : label_at (tree_with (text_in texts) t) (node_at (tree_with (text_in texts) t) p) ≡ label_in p.attr (Some (tree_with (text_in texts) tree))
  pub rows : slice_range (enc t) p.pre (p.pre + (line_in (enc t) p.pre).size + 1) ≡ enc_at level tree
  pub name : (line_in (enc t) p.pre).name ≡ row_name (root_of tree)
  pub kind : (line_in (enc t) p.pre).kind ≡ row_kind (root_of tree)
  pub value : (line_in (enc t) p.pre).value ≡ row_value (root_of tree)
  pub attributes : (line_in (enc t) p.pre).attributes ≡ row_attributes (root_of tree)
  pub apart : kind_eq AttributeNode (kind_of (root_of tree)) ≡ false

at-row : (texts : List Text) (t : Tree TextId) (p : Place) → is_sound id_eq is_empty_id t ≡ true → is_lone t ≡ false → p.pre < length (enc t) → AtRow texts t p
at-row texts t p s e h =
    let b = below-row id_eq is_empty_id t p.pre h in
    let path : Path = record { steps = path_at t p.pre; attr = p.attr } in
    let place : node_at (tree_with (text_in texts) t) p ≡ path = node_at-with (text_in texts) t p ∙ ap (λ c. cond {A = Path} c (record { steps = []; attr = 0 }) path) e in
    record {
      tree = b.tree;
      level = (line_in (enc t) p.pre).level;
      string = ap (string_in (tree_with (text_in texts) t)) place ∙ ap (λ z. string_from (label_in p.attr z) (text_of_tree z)) (subtree-with (text_in texts) (path_at t p.pre) t b.tree b.path);
      label = ap (label_at (tree_with (text_in texts) t)) place ∙ ap (λ z. label_in p.attr z) (subtree-with (text_in texts) (path_at t p.pre) t b.tree b.path);
      rows = b.rows;
      name = ap (λ (x : Line TextId). x.name) b.root;
      kind = ap (λ (x : Line TextId). x.kind) b.root;
      value = ap (λ (x : Line TextId). x.value) b.root;
      attributes = ap (λ (x : Line TextId). x.attributes) b.root;
      apart = apart p.pre b.tree refl b.path (b.below_root s);
    }
  where
    first : (t u : Tree TextId) → subtree (path_at t 0) t ≡ Some u → t ≡ u
    first (Branch l ts) u h = cc

    apart : (v : ℕ) (u : Tree TextId) → v ≡ p.pre → subtree (path_at t v) t ≡ Some u → (0 < v → may_be_child is_empty_id (root_of u) ≡ true) → kind_eq AttributeNode (kind_of (root_of u)) ≡ false
    apart zero u d path g = ap (λ (z : Tree TextId). kind_eq AttributeNode (kind_of (root_of z))) (sym (first t u path)) ∙ e
    apart (suc v) u d path g = child-no-attribute (root_of u) (g (omega arith))

-- a row
pub row-string : (texts : List Text) (t : Tree TextId) (p : Place) → is_sound id_eq is_empty_id t ≡ true → names_node t p ≡ true → p.attr ≡ 0
    → string_at texts t p ≡ node_text texts (line_in (enc t) p.pre).kind (line_in (enc t) p.pre).value (texts_of_rows texts (slice_range (enc t) p.pre (p.pre + (line_in (enc t) p.pre).size + 1)))
row-string texts t p s h z = by (is_lone t) refl
  where
    by : (b : Bool) → is_lone t ≡ b → string_at texts t p ≡ node_text texts (line_in (enc t) p.pre).kind (line_in (enc t) p.pre).value (texts_of_rows texts (slice_range (enc t) p.pre (p.pre + (line_in (enc t) p.pre).size + 1)))
    by true e =
        let q = and_parts (nat_eq p.pre 0) (nat_eq p.attr 1) (rw e at h) in
        absurd (omega (arith, eqb-true p.attr 1 q.1, z))
    by false e =
        let r = at-row texts t p s e (row-inside t p h) in
        r.string
        ∙ ap (λ n. string_from (label_in n (Some (tree_with (text_in texts) r.tree))) (text_of_tree (Some (tree_with (text_in texts) r.tree)))) z
        ∙ root-value texts r.level r.tree r.apart
        ∙ ap (λ x. node_text texts x (row_value (root_of r.tree)) (texts_of_rows texts (enc_at r.level r.tree))) (sym r.kind)
        ∙ ap (λ x. node_text texts (line_in (enc t) p.pre).kind x (texts_of_rows texts (enc_at r.level r.tree))) (sym r.value)
        ∙ ap (λ x. node_text texts (line_in (enc t) p.pre).kind (line_in (enc t) p.pre).value (texts_of_rows texts x)) (sym r.rows)

-- an attribute
pub attribute-string : (texts : List Text) (t : Tree TextId) (p : Place) (j : ℕ) (d : TextId × TextId) → is_sound id_eq is_empty_id t ≡ true → names_node t p ≡ true → p.attr ≡ suc j
    → string_at texts t p ≡ text_in texts (slice_index_or (line_in (enc t) p.pre).attributes j d).1
attribute-string texts t p j d s h z = by (is_lone t) refl
  where
    by : (b : Bool) → is_lone t ≡ b → string_at texts t p ≡ text_in texts (slice_index_or (line_in (enc t) p.pre).attributes j d).1
    by true e =
        let q = and_parts (nat_eq p.pre 0) (nat_eq p.attr 1) (rw e at h) in
        let none : j ≡ 0 = omega (arith, eqb-true p.attr 1 q.1, z) in
        ap (string_in (tree_with (text_in texts) t)) (node_at-with (text_in texts) t p ∙ ap (λ c. cond {A = Path} c (record { steps = []; attr = 0 }) (record { steps = path_at t p.pre; attr = p.attr })) e)
        ∙ lone-value texts t d e
        ∙ ap (λ n. text_in texts (slice_index_or (line_in (enc t) n).attributes 0 d).1) (sym (eqb-true p.pre 0 q.0))
        ∙ ap (λ n. text_in texts (slice_index_or (line_in (enc t) p.pre).attributes n d).1) (sym none)
    by false e =
        let r = at-row texts t p s e (row-inside t p h) in
        r.string
        ∙ ap (λ n. string_from (label_in n (Some (tree_with (text_in texts) r.tree))) (text_of_tree (Some (tree_with (text_in texts) r.tree)))) z
        ∙ attribute-value texts r.tree j (text_of_tree (Some (tree_with (text_in texts) r.tree))) d r.apart (omega (arith, attribute-inside t p h, ap length r.attributes, z))
        ∙ ap (λ x. text_in texts (slice_index_or x j d).1) (sym r.attributes)

-- ---- rows one by one

range-here : (lines : List (Line TextId)) (v e : ℕ) → v < e → e ≤ length lines → slice_range lines v e ≡ line_in lines v ∷ slice_range lines (v + 1) e
range-here lines v e h k = let d : e - v ≡ suc (e - (v + 1)) = omega arith in ap (λ n. take n (drop v lines)) d ∙ ap (take (suc (e - (v + 1)))) (drop-here lines v (omega arith))
  where
    drop-here : (xs : List (Line TextId)) (i : ℕ) → i < length xs → drop i xs ≡ line_in xs i ∷ drop (i + 1) xs
    drop-here [] i l = absurd (omega arith)
    drop-here (x ∷ xs) zero l = refl
    drop-here (x ∷ xs) (suc i) l = let e : suc i + 1 ≡ suc (i + 1) = omega arith in drop-here xs i (omega arith) ∙ ap (λ n. line_in xs i ∷ drop n (x ∷ xs)) (sym e)

range-nothing : (lines : List (Line TextId)) (v e : ℕ) → e ≤ v → slice_range lines v e ≡ []
range-nothing lines v e h = let d : e - v ≡ 0 = omega arith in ap (λ n. take n (drop v lines)) d

pub rows-step : (texts : List Text) (lines : List (Line TextId)) (v e : ℕ) (out all out' : Text) → v < e → e ≤ length lines
    → out ++ texts_of_rows texts (slice_range lines v e) ≡ all → out' ≡ out ++ row_text texts (line_in lines v).kind (line_in lines v).value → out' ++ texts_of_rows texts (slice_range lines (v + 1) e) ≡ all
rows-step texts lines v e out all out' h k w o =
    ap (λ z. z ++ texts_of_rows texts (slice_range lines (v + 1) e)) o
    ∙ append_assoc out (row_text texts (line_in lines v).kind (line_in lines v).value) (texts_of_rows texts (slice_range lines (v + 1) e))
    ∙ ap (λ z. out ++ texts_of_rows texts z) (sym (range-here lines v e h k))
    ∙ w

pub rows-done : (texts : List Text) (lines : List (Line TextId)) (v e : ℕ) (out all : Text) → e ≤ v → out ++ texts_of_rows texts (slice_range lines v e) ≡ all → out ≡ all
rows-done texts lines v e out all h w = sym (append-nil out) ∙ ap (λ z. out ++ texts_of_rows texts z) (sym (range-nothing lines v e h)) ∙ w

all-at : {A : Type 0} (p : A → Bool) (xs : List A) (i : ℕ) (d : A) → i < length xs → list_all p xs ≡ true → p (slice_index_or xs i d) ≡ true
all-at p [] i d l h = absurd (omega arith)
all-at p (x ∷ xs) zero d l h = (and_parts (p x) (list_all p xs) h).0
all-at p (x ∷ xs) (suc i) d l h = all-at p xs i d (omega arith) (and_parts (p x) (list_all p xs) h).1

pub line-given : (n : ℕ) (t : Tree TextId) (v : ℕ) → v < length (enc t) → tree_given n t ≡ true → line_given n (line_in (enc t) v) ≡ true
line-given n t v h g = all-at (line_given n) (enc t) v no_line h g

pub value-given : (n : ℕ) (line : Line TextId) → line_given n line ≡ true → option_given n line.value ≡ true
value-given n line g = (and_parts (option_given n line.name) (option_given n line.value) (and_parts (option_given n line.name && option_given n line.value) (list_all (pair_given n) line.attributes) g).0).1

pub attribute-given : (n : ℕ) (line : Line TextId) (j : ℕ) (d : TextId × TextId) → j < length line.attributes → line_given n line ≡ true → is_given n (slice_index_or line.attributes j d).1 ≡ true
attribute-given n line j d h g =
    let pair = all-at (pair_given n) line.attributes j d h (and_parts (option_given n line.name && option_given n line.value) (list_all (pair_given n) line.attributes) g).1 in
    (and_parts (is_given n (slice_index_or line.attributes j d).0) (is_given n (slice_index_or line.attributes j d).1) pair).1

-- the rows of a node end with its tree
pub node-ends : (t : Tree TextId) (v : ℕ) → v < length (enc t) → v + (line_in (enc t) v).size < length (enc t)
node-ends t v h = (bridge t).ends v h

-- what is appended to a text, where memory was found
pub where_pushed : {E : Type 0} (r : Result (Unit {0}) E) (new old text wanted : Text) → new ≡ (if is_ok r then old ++ text else old) → text ≡ wanted → OnOk r (new ≡ old ++ wanted)
where_pushed (Ok x) new old text wanted h e = h ∙ ap (λ z. old ++ z) e
where_pushed (Err x) new old text wanted h e = tt

pub where_written : {E : Type 0} (r : Result (Unit {0}) E) (new old text wanted : Text) → OnOk r (new ≡ old ++ text) → text ≡ wanted → OnOk r (new ≡ old ++ wanted)
where_written (Ok x) new old text wanted h e = h ∙ ap (λ z. old ++ z) e
where_written (Err x) new old text wanted h e = tt

pub text-found : (texts : List Text) (n : ℕ) (text : Text) → slice_get texts n ≡ Some text → text ≡ slice_index_or texts n []
text-found [] n text e = cc
text-found (t ∷ ts) zero text e = cc
text-found (t ∷ ts) (suc n) text e = text-found ts n text e

pub below-kind : (texts : List Text) (kind : Kind) (value : Option TextId) (below : Text) → (kind ≡ k.Document) ⊎ (kind ≡ k.Element) → below ≡ node_text texts kind value below
below-kind texts kind value below (inl e) = ap (λ z. node_text texts z value below) (sym e)
below-kind texts kind value below (inr e) = ap (λ z. node_text texts z value below) (sym e)

pub value-kind : (texts : List Text) (kind : Kind) (value : Option TextId) (below : Text) → (kind ≡ k.Document → ⊥) → (kind ≡ k.Element → ⊥) → text_or_none texts value ≡ node_text texts kind value below
value-kind texts k.Document value below d e = absurd (d refl)
value-kind texts k.Element value below d e = absurd (e refl)
value-kind texts k.Text value below d e = refl
value-kind texts k.Comment value below d e = refl
value-kind texts k.Pi value below d e = refl

-- ---- the label of a node

pub record Labelled (texts : List Text) (t : Tree TextId) (p : Place) : Type 0 where
  pub label : Label TextId
  pub is : label_at (tree_with (text_in texts) t) (node_at (tree_with (text_in texts) t) p) ≡ Some (label_with (text_in texts) label)
  pub apart : p.attr ≡ 0 → kind_eq AttributeNode (kind_of label) ≡ false
  pub kind : p.attr ≡ 0 → (line_in (enc t) p.pre).kind ≡ row_kind label
  pub name : p.attr ≡ 0 → (line_in (enc t) p.pre).name ≡ row_name label
  pub attribute : (j : ℕ) (d : TextId × TextId) → p.attr ≡ suc j → label ≡ OfAttribute (slice_index_or (line_in (enc t) p.pre).attributes j d).0 (slice_index_or (line_in (enc t) p.pre).attributes j d).1

root-label : (f : TextId → Text) (u : Tree TextId) → label_in 0 (Some (tree_with f u)) ≡ Some (label_with f (root_of u))
root-label f (Branch l ts) = refl

pair-label : (f : TextId → Text) (as' : List (TextId × TextId)) (j : ℕ) (d : TextId × TextId) → j < length as'
    → label_of_pair (nth_pair (map (pair_with f) as') (suc j)) ≡ Some (label_with f (OfAttribute (slice_index_or as' j d).0 (slice_index_or as' j d).1))
pair-label f [] j d h = absurd (omega arith)
pair-label f (a ∷ as') zero d h = refl
pair-label f (a ∷ as') (suc j) d h = pair-label f as' j d (omega arith)

attribute-label : (f : TextId → Text) (u : Tree TextId) (j : ℕ) (d : TextId × TextId) → kind_eq AttributeNode (kind_of (root_of u)) ≡ false → j < length (row_attributes (root_of u))
    → label_in (suc j) (Some (tree_with f u)) ≡ Some (label_with f (OfAttribute (slice_index_or (row_attributes (root_of u)) j d).0 (slice_index_or (row_attributes (root_of u)) j d).1))
attribute-label f (Branch OfDocument ts) j d h l = absurd (omega arith)
attribute-label f (Branch (OfElement n as') ts) j d h l = pair-label f as' j d l
attribute-label f (Branch (OfAttribute n v) ts) j d h l = absurd (true≢false h)
attribute-label f (Branch (OfText v) ts) j d h l = absurd (omega arith)
attribute-label f (Branch (OfComment v) ts) j d h l = absurd (omega arith)
attribute-label f (Branch (OfInstruction n v) ts) j d h l = absurd (omega arith)

lone-label : (t : Tree TextId) (d : TextId × TextId) → is_lone t ≡ true → root_of t ≡ OfAttribute (slice_index_or (line_in (enc t) 0).attributes 0 d).0 (slice_index_or (line_in (enc t) 0).attributes 0 d).1
lone-label (Branch OfDocument f) d e = absurd (false≢true e)
lone-label (Branch (OfElement n as') f) d e = absurd (false≢true e)
lone-label (Branch (OfAttribute n v) f) d e = refl
lone-label (Branch (OfText v) f) d e = absurd (false≢true e)
lone-label (Branch (OfComment v) f) d e = absurd (false≢true e)
lone-label (Branch (OfInstruction n v) f) d e = absurd (false≢true e)

no-pair : TextId × TextId
no-pair = (record { 0 = 0 }, record { 0 = 0 })

slice-default : {A : Type 0} (xs : List A) (j : ℕ) (d e : A) → j < length xs → slice_index_or xs j d ≡ slice_index_or xs j e
slice-default [] j d e h = absurd (omega arith)
slice-default (x ∷ xs) zero d e h = refl
slice-default (x ∷ xs) (suc j) d e h = slice-default xs j d e (omega arith)

pub labelled : (texts : List Text) (t : Tree TextId) (p : Place) → is_sound id_eq is_empty_id t ≡ true → names_node t p ≡ true → Labelled texts t p
labelled texts t p s h = by (is_lone t) refl
  where
    numbered : (n : ℕ) (e : is_lone t ≡ false) (r : AtRow texts t p) → p.attr ≡ n → Labelled texts t p
    numbered zero e r z = record {
      label = root_of r.tree;
      is = r.label ∙ ap (λ n. label_in n (Some (tree_with (text_in texts) r.tree))) z ∙ root-label (text_in texts) r.tree;
      apart = λ _. r.apart;
      kind = λ _. r.kind;
      name = λ _. r.name;
      attribute = λ j d q. absurd (omega (arith, z, q));
    }
    numbered (suc j) e r z =
        let few : j < length (row_attributes (root_of r.tree)) = omega (arith, attribute-inside t p h, ap length r.attributes, z) in
        record {
          label = OfAttribute (slice_index_or (row_attributes (root_of r.tree)) j no-pair).0 (slice_index_or (row_attributes (root_of r.tree)) j no-pair).1;
          is = r.label ∙ ap (λ n. label_in n (Some (tree_with (text_in texts) r.tree))) z ∙ attribute-label (text_in texts) r.tree j no-pair r.apart few;
          apart = λ q. absurd (omega (arith, z, q));
          kind = λ q. absurd (omega (arith, z, q));
          name = λ q. absurd (omega (arith, z, q));
          attribute = λ i d q.
              let same : j ≡ i = omega (arith, z, q) in
              ap (λ (a : TextId × TextId). OfAttribute a.0 a.1) (ap (λ n. slice_index_or (row_attributes (root_of r.tree)) n no-pair) same ∙ slice-default (row_attributes (root_of r.tree)) i no-pair d (omega (arith, few, same)) ∙ ap (λ x. slice_index_or x i d) (sym r.attributes));
        }

    by : (b : Bool) → is_lone t ≡ b → Labelled texts t p
    by true e =
        let q = and_parts (nat_eq p.pre 0) (nat_eq p.attr 1) (rw e at h) in
        let one : p.attr ≡ 1 = eqb-true p.attr 1 q.1 in
        let first : p.pre ≡ 0 = eqb-true p.pre 0 q.0 in
        record {
          label = root_of t;
          is = ap (label_at (tree_with (text_in texts) t)) (node_at-with (text_in texts) t p ∙ ap (λ c. cond {A = Path} c (record { steps = []; attr = 0 }) (record { steps = path_at t p.pre; attr = p.attr })) e) ∙ root-label (text_in texts) t;
          apart = λ z. absurd (omega (arith, one, z));
          kind = λ z. absurd (omega (arith, one, z));
          name = λ z. absurd (omega (arith, one, z));
          attribute = λ j d z.
              let none : 0 ≡ j = omega (arith, one, z) in
              lone-label t d e ∙ ap (λ n. OfAttribute (slice_index_or (line_in (enc t) n).attributes 0 d).0 (slice_index_or (line_in (enc t) n).attributes 0 d).1) (sym first)
              ∙ ap (λ n. OfAttribute (slice_index_or (line_in (enc t) p.pre).attributes n d).0 (slice_index_or (line_in (enc t) p.pre).attributes n d).1) none;
        }
    by false e = let r = at-row texts t p s e (row-inside t p h) in numbered p.attr e r refl
