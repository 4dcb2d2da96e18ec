-- What is read as content is so by the grammar.
use Rattle.std.proofs.Common.{◌≡◌, ℕ, zero, suc, ◌+◌, Bool, true, false, List, [], ◌∷◌, ◌++◌, length, inl, inr, refl, sym, ap, ◌∙◌, subst, Some, append-nil}
use Rattle.std.specs.Str.{bytes_eq}
use Rattle.std.proofs.lemmas.Option.{same_Some}
use Rattle.std.proofs.lemmas.Slice.Eq.{bytes_eq-Decides}
use Rattle.doc_table.specs.Tree.{Label, OfDocument, OfElement, OfAttribute, OfText, OfComment, OfInstruction, Tree, Forest, Branch, no_more, one_more, forest_of}
use Rattle.doc_table.specs.Spine.{Open}
use Rattle.doc_shred.specs.Markup as g
use Rattle.doc_shred.specs.Reading as r
use Rattle.doc_shred.specs.Content.{Text, IsNode, IsContent, AreMarked}
use Rattle.doc_shred.specs.Walk.{Nodes, Piece, starts, ends, notes, instructs, piece, put_node, leaf, add_text, step, marked, content, root}
use Rattle.doc_shred.proofs.Exact.{bound, chosen}
use Rattle.doc_shred.proofs.TagLaws.{text_run_sound, start_exact}
use Rattle.doc_shred.proofs.PieceLaws.{IsPiece, piece_sound}
use Rattle.doc_shred.proofs.Forests.{onto, onto-append, onto-none, text_list, text_onto, onto-text_list}

-- children so far, where characters may come next, and where they have been read
mutual
  pub data IsPrefix : List (Tree Text) → List ℕ → List ℕ → Type 0 where
    nothing : {from : List ℕ} → IsPrefix [] from from
    put : {from mid here : List ℕ} (ts : List (Tree Text)) (t : Tree Text) → IsRunPrefix ts from mid → IsNode t mid here → IsPrefix (ts ++ t ∷ []) from here

  pub data IsRunPrefix : List (Tree Text) → List ℕ → List ℕ → Type 0 where
    run : {from mid here : List ℕ} (ts : List (Tree Text)) (v : Text) → IsPrefix ts from mid → g.text_run mid here v → IsRunPrefix (ts ++ text_list v) from here

-- characters, and then nodes that markup begins
text_first : (v : Text) (f : Forest Text) (from mid rest : List ℕ) → g.text_run from mid v → AreMarked f mid rest → IsContent (text_onto v f) from rest
text_first (c ∷ cs) f from mid rest i m = (tt, refl, record { mid = mid; first = i; others = m })
text_first [] no_more from mid rest i m = subst (λ z. g.text_run from z []) m i
text_first [] (one_more (Branch OfDocument f) ts) from mid rest i m = record { mid = mid; first = i; others = m }
text_first [] (one_more (Branch (OfElement n as') f) ts) from mid rest i m = record { mid = mid; first = i; others = m }
text_first [] (one_more (Branch (OfAttribute n v) f) ts) from mid rest i m = record { mid = mid; first = i; others = m }
text_first [] (one_more (Branch (OfText v) f) ts) from mid rest i m = absurd m.first
text_first [] (one_more (Branch (OfComment v) f) ts) from mid rest i m = record { mid = mid; first = i; others = m }
text_first [] (one_more (Branch (OfInstruction n v) f) ts) from mid rest i m = record { mid = mid; first = i; others = m }

mutual
  prefix_content : {ts : List (Tree Text)} {from here : List ℕ} → IsPrefix ts from here → (f : Forest Text) (rest : List ℕ) → IsContent f here rest → IsContent (onto ts f) from rest
  prefix_content IsPrefix.nothing f rest c = c
  prefix_content (IsPrefix.put {from = from} {mid = mid} {here = here} ts t before node) f rest c =
      subst (λ h. IsContent h from rest) (sym (onto-append ts (t ∷ []) f)) (run_content before (one_more t f) rest (record { mid = here; first = node; others = c }))

  run_content : {ts : List (Tree Text)} {from here : List ℕ} → IsRunPrefix ts from here → (f : Forest Text) (rest : List ℕ) → AreMarked f here rest → IsContent (onto ts f) from rest
  run_content (IsRunPrefix.run {from = from} {mid = mid} {here = here} ts v before i) f rest m =
      subst (λ h. IsContent h from rest) (sym (onto-append ts (text_list v) f ∙ ap (onto ts) (onto-text_list v f)))
      (prefix_content before (text_onto v f) rest (text_first v f mid here rest i m))

-- the tag that opened an element
abbrev OpenTag : Label Text → List ℕ → List ℕ → Type 0
OpenTag (OfElement n as') from rest = g.start from rest (record { name = n; attributes = as'; is_empty = false })
OpenTag OfDocument from rest = ⊥
OpenTag (OfAttribute n v) from rest = ⊥
OpenTag (OfText v) from rest = ⊥
OpenTag (OfComment v) from rest = ⊥
OpenTag (OfInstruction n v) from rest = ⊥

pub record IsIn (Outer : List ℕ → Type 0) (OpeningTag Inside : List ℕ → List ℕ → Type 0) (here : List ℕ) : Type 0 where
  pub at : List ℕ
  pub inside : List ℕ
  pub outer : Outer at
  pub tag : OpeningTag at inside
  pub so_far : Inside inside here

-- the open elements, the innermost first, where the characters have been read
abbrev OuterAt : List (Open Text) → List ℕ → List ℕ → Type 0
OuterAt [] start here = start ≡ here
OuterAt (o ∷ os) start here = IsIn (OuterAt os start) (OpenTag o.label) (IsRunPrefix o.done) here

-- and where characters may come next
abbrev OpenAt : Open Text → List (Open Text) → List ℕ → List ℕ → Type 0
OpenAt o os start here = IsIn (OuterAt os start) (OpenTag o.label) (IsPrefix o.done) here

abbrev name_in : Label Text → Text
name_in (OfElement n as') = n
name_in OfDocument = []
name_in (OfAttribute n v) = []
name_in (OfText v) = []
name_in (OfComment v) = []
name_in (OfInstruction n v) = []

abbrev names_of : List (Open Text) → List Text
names_of [] = []
names_of (o ∷ os) = name_in o.label ∷ names_of os

abbrev with_child : Tree Text → Open Text → Open Text
with_child t o = record { label = o.label; done = o.done ++ t ∷ [] }

abbrev with_text : Text → Open Text → Open Text
with_text v o = record { label = o.label; done = o.done ++ text_list v }

text_added : (v : Text) (o : Open Text) (os : Nodes) → add_text v (o ∷ os) ≡ with_text v o ∷ os
text_added [] o os = ap (λ (d : List (Tree Text)). record { label = o.label; done = d } ∷ os) (sym (append-nil o.done))
text_added (c ∷ cs) o os = refl

-- the root element is finished, as a child of the document
pub record IsRoot (base : Open Text) (start : List ℕ) (y : Nodes × List ℕ) : Type 0 where
  pub name : Text
  pub attributes : List (Text × Text)
  pub kids : Forest Text
  pub node : IsNode (Branch (OfElement name attributes) kids) start y.1
  pub given : y.0 ≡ put_node (Branch (OfElement name attributes) kids) (base ∷ [])

-- an element whose end tag has been read
closed_node : (l : Label Text) (done : List (Tree Text)) (at inside mid rest : List ℕ) → OpenTag l at inside → IsRunPrefix done inside mid → g.end_tag mid rest (name_in l)
    → IsNode (Branch l (forest_of done)) at rest
closed_node OfDocument done at inside mid rest tag before e = absurd tag
closed_node (OfElement n as') done at inside mid rest tag before e =
    inr (record { inside = inside; after = mid; opened = tag; content = subst (λ f. IsContent f inside mid) (onto-none done) (run_content before no_more mid refl); closed = e })
closed_node (OfAttribute n v) done at inside mid rest tag before e = absurd tag
closed_node (OfText v) done at inside mid rest tag before e = absurd tag
closed_node (OfComment v) done at inside mid rest tag before e = absurd tag
closed_node (OfInstruction n v) done at inside mid rest tag before e = absurd tag

root_closed : (n : ℕ) (l : Label Text) (done : List (Tree Text)) (base : Open Text) (start rest : List ℕ) (y : Nodes × List ℕ) (inside : List ℕ) → OpenTag l start inside → IsNode (Branch l (forest_of done)) start rest
    → content n rest [] (put_node (Branch l (forest_of done)) (base ∷ [])) ≡ Some y → IsRoot base start y
unfolding content
root_closed zero l done base start rest y inside tag node e = cc
root_closed (suc n) OfDocument done base start rest y inside tag node e = absurd tag
root_closed (suc n) (OfElement m as') done base start rest y inside tag node e =
    let P : Nodes × List ℕ → Type 0 = λ z. IsRoot base start z in
    subst P (same_Some (put_node (Branch (OfElement m as') (forest_of done)) (base ∷ []), rest) y e) (record { name = m; attributes = as'; kids = forest_of done; node = node; given = refl })
root_closed (suc n) (OfAttribute m v) done base start rest y inside tag node e = absurd tag
root_closed (suc n) (OfText v) done base start rest y inside tag node e = absurd tag
root_closed (suc n) (OfComment v) done base start rest y inside tag node e = absurd tag
root_closed (suc n) (OfInstruction m v) done base start rest y inside tag node e = absurd tag

-- the tag with its end told
tag_is : (t : g.Tag) (from rest : List ℕ) (b : Bool) → g.start from rest t → t.is_empty ≡ b → g.start from rest (record { name = t.name; attributes = t.attributes; is_empty = b })
tag_is t from rest b i e = subst (λ z. g.start from rest (record { name = t.name; attributes = t.attributes; is_empty = z })) e i

-- what the steps of the rest give
abbrev Goes : ℕ → Open Text → List ℕ → Nodes × List ℕ → Type 0
Goes n base start y = (o : Open Text) (os : List (Open Text)) (here : List ℕ) → content n here (names_of (o ∷ os)) (o ∷ (os ++ base ∷ [])) ≡ Some y → OpenAt o os start here → IsRoot base start y

one_step : (n : ℕ) (base : Open Text) (start : List ℕ) (y : Nodes × List ℕ) → Goes n base start y
    → (p : Piece) (o : Open Text) (os : List (Open Text)) (mid rest : List ℕ) → step p (content n rest) (names_of (o ∷ os)) (o ∷ (os ++ base ∷ [])) ≡ Some y
    → OuterAt (o ∷ os) start mid → IsPiece p mid rest → IsRoot base start y
one_step n base start y goes (starts t) o os mid rest e i p = chosen t.is_empty _ _ (Some y) (IsRoot base start y) e
    (λ h k. goes (with_child (Branch (OfElement t.name t.attributes) no_more) o) os rest k
    (record { at = i.at; inside = i.inside; outer = i.outer; tag = i.tag; so_far = IsPrefix.put o.done _ i.so_far (inl (tag_is t mid rest true p h, refl)) }))
    (λ h k. goes (record { label = OfElement t.name t.attributes; done = [] }) (o ∷ os) rest k
    (record { at = mid; inside = rest; outer = i; tag = tag_is t mid rest false p h; so_far = IsPrefix.nothing }))
one_step n base start y goes (notes v) o os mid rest e i p =
    goes (with_child (Branch (OfComment v) no_more) o) os rest e
    (record { at = i.at; inside = i.inside; outer = i.outer; tag = i.tag; so_far = IsPrefix.put o.done _ i.so_far (p, refl) })
one_step n base start y goes (instructs m v) o os mid rest e i p =
    goes (with_child (Branch (OfInstruction m v) no_more) o) os rest e
    (record { at = i.at; inside = i.inside; outer = i.outer; tag = i.tag; so_far = IsPrefix.put o.done _ i.so_far (p, refl) })
one_step n base start y goes (ends m) o os mid rest e i p = chosen (bytes_eq m (name_in o.label)) _ _ (Some y) (IsRoot base start y) e
    (λ h k.
    let same : m ≡ name_in o.label = (bytes_eq-Decides m (name_in o.label)).0 h in
    let node = closed_node o.label o.done i.at i.inside mid rest i.tag i.so_far (subst (λ z. g.end_tag mid rest z) same p) in
    by os i.outer node k)
    (λ h k. cc)
  where
    by : (os : List (Open Text)) → OuterAt os start i.at → IsNode (Branch o.label (forest_of o.done)) i.at rest
        → content n rest (names_of os) (put_node (Branch o.label (forest_of o.done)) (os ++ base ∷ [])) ≡ Some y → IsRoot base start y
    by [] outer node k =
        root_closed n o.label o.done base start rest y i.inside (subst (λ z. OpenTag o.label z i.inside) (sym outer) i.tag) (subst (λ z. IsNode (Branch o.label (forest_of o.done)) z rest) (sym outer) node) k
    by (q ∷ qs) outer node k =
        goes (with_child (Branch o.label (forest_of o.done)) q) qs rest k
        (record { at = outer.at; inside = outer.inside; outer = outer.outer; tag = outer.tag; so_far = IsPrefix.put q.done _ outer.so_far node })

pub content_sound : (n : ℕ) (base : Open Text) (start : List ℕ) (y : Nodes × List ℕ) → Goes n base start y
unfolding content
content_sound zero base start y o os here e i = cc
content_sound (suc n) base start y o os here e i =
    let b = bound (λ (x : Text × List ℕ). marked (content n) x.1 (names_of (o ∷ os)) (add_text x.0 (o ∷ (os ++ base ∷ [])))) (r.text_run here) y e in
    let run = text_run_sound here b.0 b.1 in
    let c = bound (λ (x : Piece × List ℕ). step x.0 (content n x.1) (names_of (o ∷ os)) (add_text b.0.0 (o ∷ (os ++ base ∷ [])))) (piece b.0.1) y b.2 in
    let stepped : step c.0.0 (content n c.0.1) (names_of (o ∷ os)) (with_text b.0.0 o ∷ (os ++ base ∷ [])) ≡ Some y = ap (step c.0.0 (content n c.0.1) (names_of (o ∷ os))) (sym (text_added b.0.0 o (os ++ base ∷ []))) ∙ c.2 in
    one_step n base start y (content_sound n base start y) c.0.0 (with_text b.0.0 o) os b.0.1 c.0.1 stepped
    (record { at = i.at; inside = i.inside; outer = i.outer; tag = i.tag; so_far = IsRunPrefix.run o.done b.0.0 i.so_far run.0 }) (piece_sound b.0.1 c.0 c.1)

-- what is read as the root element is one
pub root_sound : (base : Open Text) (from : List ℕ) (y : Nodes × List ℕ) → root from (base ∷ []) ≡ Some y → IsRoot base from y
unfolding content
root_sound base from y e =
    let b = bound (λ (x : g.Tag × List ℕ). step (starts x.0) (content (length x.1 + 1) x.1) [] (base ∷ [])) (r.start from) y e in
    let n : ℕ = length b.0.1 + 1 in
    let t = start_exact.sound from b.0 b.1 in
    chosen b.0.0.is_empty _ _ (Some y) (IsRoot base from y) b.2
    (λ h k. ended n b.0.0.name b.0.0.attributes b.0.1 (tag_is b.0.0 from b.0.1 true t h) k)
    (λ h k. content_sound n base from y (record { label = OfElement b.0.0.name b.0.0.attributes; done = [] }) [] b.0.1 k
    (record { at = from; inside = b.0.1; outer = refl; tag = tag_is b.0.0 from b.0.1 false t h; so_far = IsPrefix.nothing }))
  where
    ended : (n : ℕ) (m : Text) (as' : List (Text × Text)) (rest : List ℕ) → g.start from rest (record { name = m; attributes = as'; is_empty = true })
        → content n rest [] (leaf (OfElement m as') (base ∷ [])) ≡ Some y → IsRoot base from y
    ended zero m as' rest i k = cc
    ended (suc n) m as' rest i k =
        let P : Nodes × List ℕ → Type 0 = λ z. IsRoot base from z in
        subst P (same_Some (leaf (OfElement m as') (base ∷ []), rest) y k) (record { name = m; attributes = as'; kids = no_more; node = inl (i, refl); given = refl })
