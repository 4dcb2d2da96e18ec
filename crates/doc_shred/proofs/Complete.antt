-- What the grammar says of content is read.
use Rattle.std.proofs.Common.{◌≡◌, ℕ, zero, suc, ◌+◌, ◌<◌, ◌≤◌, true, false, cond, List, [], ◌∷◌, length, inl, inr, refl, sym, ap, ◌∙◌, subst, arith, Some, None, option_and_then}
use Rattle.std.specs.Str.{bytes_eq}
use Rattle.std.proofs.lemmas.Slice.Eq.{bytes_eq-Decides}
use Rattle.doc_table.specs.Tree.{OfDocument, OfElement, OfAttribute, OfText, OfComment, OfInstruction, Tree, Forest, Branch, no_more, one_more}
use Rattle.doc_shred.specs.Markup as g
use Rattle.doc_shred.specs.Reading as r
use Rattle.doc_shred.specs.Content.{Text, IsNode, IsContent, AreMarked, IsFirst}
use Rattle.doc_shred.specs.Walk.{Nodes, Walked, Piece, starts, put_node, leaf, open_node, close_node, add_text, step, marked, content, root}
use Rattle.doc_shred.proofs.Exact.{Narrow, then_narrow, many_narrow, gives_narrow}
use Rattle.doc_shred.proofs.TagLaws.{text_run_complete, text_part_strict, start_exact}
use Rattle.doc_shred.proofs.PieceLaws.{start_no_text, end_no_text, comment_no_text, instruction_no_text, read_end, read_comment, read_instruction, read_start, start_strict, end_tag_strict, comment_strict, instruction_strict}
use Rattle.doc_shred.proofs.Forests.{put_all, close-put_all}

pub text_run_narrow : Narrow g.text_run
unfolding g.text_run
text_run_narrow = then_narrow (many_narrow (λ from rest a i. omega (arith, text_part_strict from rest a i))) (λ parts. gives_narrow _)

same_name : (n : Text) → bytes_eq n n ≡ true
same_name n = (bytes_eq-Decides n n).1 refl

-- a node that isn't a text is no part of a text
node_no_text : (t : Tree Text) (from rest : List ℕ) → IsNode t from rest → r.has_text from ≡ false
node_no_text (Branch OfDocument f) from rest i = absurd i
node_no_text (Branch (OfElement n as') f) from rest (inl i) = start_no_text from rest _ i.0
node_no_text (Branch (OfElement n as') f) from rest (inr i) = start_no_text from i.inside _ i.opened
node_no_text (Branch (OfAttribute n v) f) from rest i = absurd i
node_no_text (Branch (OfText v) f) from rest i = absurd i
node_no_text (Branch (OfComment v) f) from rest i = comment_no_text from rest v i.0
node_no_text (Branch (OfInstruction n v) f) from rest i = instruction_no_text from rest (n, v) i.0

-- the same of nodes that markup begins, and of what follows them where there are none
marked_no_text : (f : Forest Text) (from rest : List ℕ) → AreMarked f from rest → r.has_text rest ≡ false → r.has_text from ≡ false
marked_no_text no_more from rest i e = ap r.has_text i ∙ e
marked_no_text (one_more t ts) from rest i e = node_no_text t from i.mid i.first

-- from here on, in any number of turns that is large enough, this is read
abbrev Reads : List ℕ → List Text → Nodes → Walked → Type 0
Reads from names os out = (n : ℕ) → length from < n → content n from names os ≡ out

-- the same where the characters have been read
abbrev ReadsMarked : List ℕ → List Text → Nodes → Walked → Type 0
ReadsMarked from names os out = (n : ℕ) → length from ≤ n → marked (content n) from names os ≡ out

-- characters, and then a piece of markup
after_text : (from mid : List ℕ) (v : Text) (name : Text) (names : List Text) (os : Nodes) (out : Walked) → g.text_run from mid v → r.has_text mid ≡ false
    → ReadsMarked mid (name ∷ names) (add_text v os) out → Reads from (name ∷ names) os out
unfolding content
after_text from mid v name names os out i e next zero l = absurd (omega arith)
after_text from mid v name names os out i e next (suc n) l =
    ap (option_and_then (λ (x : Text × List ℕ). marked (content n) x.1 (name ∷ names) (add_text x.0 os))) (text_run_complete from mid v i e)
    ∙ next n (omega (arith, text_run_narrow from mid v i))

-- no element is open
ends_at : (n : ℕ) (from : List ℕ) (os : Nodes) → length from < n → content n from [] os ≡ Some (os, from)
unfolding content
ends_at zero from os l = absurd (omega arith)
ends_at (suc n) from os l = refl

-- an end tag of the innermost open element
end_read : (from rest n : List ℕ) (names : List Text) (os : Nodes) (out : Walked) → g.end_tag from rest n → Reads rest names (close_node os) out → ReadsMarked from (n ∷ names) os out
end_read from rest n names os out i next = λ k l.
    ap (option_and_then (λ (x : Piece × List ℕ). step x.0 (content k x.1) (n ∷ names) os)) (read_end from rest n i)
    ∙ ap (λ b. cond b (content k rest names (close_node os)) None) (same_name n)
    ∙ next k (omega (arith, end_tag_strict from rest n i))

-- the first node of some content, and then the others
first_read : (t : Tree Text) (ts : Forest Text) (from rest : List ℕ) (name : Text) (names : List Text) (os : Nodes) (out : Walked) → IsFirst t (IsNode t) (IsContent ts) (AreMarked ts) from rest → r.has_text rest ≡ false
    → ReadsMarked rest (name ∷ names) (put_all (one_more t ts) os) out
    → ((mid after : List ℕ) → IsNode t mid after → Reads after (name ∷ names) (put_node t os) out → ReadsMarked mid (name ∷ names) os out)
    → ((mid : List ℕ) → IsContent ts mid rest → Reads mid (name ∷ names) (put_node t os) out)
    → ((mid : List ℕ) (z : Nodes) → AreMarked ts mid rest → ReadsMarked rest (name ∷ names) (put_all ts z) out → ReadsMarked mid (name ∷ names) z out)
    → Reads from (name ∷ names) os out
first_read (Branch (OfText []) f) ts from rest name names os out i e next node others marked' = absurd i.0
first_read (Branch (OfText (c ∷ cs)) f) ts from rest name names os out i e next node others marked' =
    let whole : put_node (Branch (OfText (c ∷ cs)) f) os ≡ add_text (c ∷ cs) os = ap (λ (h : Forest Text). put_node (Branch (OfText (c ∷ cs)) h) os) i.1 in
    after_text from i.2.mid (c ∷ cs) name names os out i.2.first (marked_no_text ts i.2.mid rest i.2.others e)
    (marked' i.2.mid (add_text (c ∷ cs) os) i.2.others (subst (λ z. ReadsMarked rest (name ∷ names) (put_all ts z) out) whole next))
first_read (Branch OfDocument f) ts from rest name names os out i e next node others marked' =
    after_text from i.mid [] name names os out i.first (node_no_text (Branch OfDocument f) i.mid i.others.mid i.others.first)
    (node i.mid i.others.mid i.others.first (others i.others.mid i.others.others))
first_read (Branch (OfElement n as') f) ts from rest name names os out i e next node others marked' =
    after_text from i.mid [] name names os out i.first (node_no_text (Branch (OfElement n as') f) i.mid i.others.mid i.others.first)
    (node i.mid i.others.mid i.others.first (others i.others.mid i.others.others))
first_read (Branch (OfAttribute n v) f) ts from rest name names os out i e next node others marked' =
    after_text from i.mid [] name names os out i.first (node_no_text (Branch (OfAttribute n v) f) i.mid i.others.mid i.others.first)
    (node i.mid i.others.mid i.others.first (others i.others.mid i.others.others))
first_read (Branch (OfComment v) f) ts from rest name names os out i e next node others marked' =
    after_text from i.mid [] name names os out i.first (node_no_text (Branch (OfComment v) f) i.mid i.others.mid i.others.first)
    (node i.mid i.others.mid i.others.first (others i.others.mid i.others.others))
first_read (Branch (OfInstruction n v) f) ts from rest name names os out i e next node others marked' =
    after_text from i.mid [] name names os out i.first (node_no_text (Branch (OfInstruction n v) f) i.mid i.others.mid i.others.first)
    (node i.mid i.others.mid i.others.first (others i.others.mid i.others.others))

mutual
  node_read : (t : Tree Text) (from rest : List ℕ) (name : Text) (names : List Text) (os : Nodes) (out : Walked) → IsNode t from rest
      → Reads rest (name ∷ names) (put_node t os) out → ReadsMarked from (name ∷ names) os out
  node_read (Branch OfDocument f) from rest name names os out i next = absurd i
  node_read (Branch (OfElement n as') f) from rest name names os out (inl i) next = λ k l.
      ap (option_and_then (λ (x : Piece × List ℕ). step x.0 (content k x.1) (name ∷ names) os)) (read_start from rest _ i.0)
      ∙ subst (λ (h : Forest Text). content k rest (name ∷ names) (put_node (Branch (OfElement n as') h) os) ≡ out) i.1 (next k (omega (arith, start_strict from rest _ i.0)))
  node_read (Branch (OfElement n as') f) from rest name names os out (inr i) next = λ k l.
      ap (option_and_then (λ (x : Piece × List ℕ). step x.0 (content k x.1) (name ∷ names) os)) (read_start from i.inside _ i.opened)
      ∙ content_read f i.inside i.after n (name ∷ names) (open_node (OfElement n as') os) out i.content (end_no_text i.after rest n i.closed)
      (end_read i.after rest n (name ∷ names) (put_all f (open_node (OfElement n as') os)) out i.closed
      (subst (λ z. Reads rest (name ∷ names) z out) (sym (close-put_all f (OfElement n as') os)) next))
      k (omega (arith, start_strict from i.inside _ i.opened))
  node_read (Branch (OfAttribute n v) f) from rest name names os out i next = absurd i
  node_read (Branch (OfText v) f) from rest name names os out i next = absurd i
  node_read (Branch (OfComment v) f) from rest name names os out i next = λ k l.
      ap (option_and_then (λ (x : Piece × List ℕ). step x.0 (content k x.1) (name ∷ names) os)) (read_comment from rest v i.0)
      ∙ subst (λ (h : Forest Text). content k rest (name ∷ names) (put_node (Branch (OfComment v) h) os) ≡ out) i.1 (next k (omega (arith, comment_strict from rest v i.0)))
  node_read (Branch (OfInstruction n v) f) from rest name names os out i next = λ k l.
      ap (option_and_then (λ (x : Piece × List ℕ). step x.0 (content k x.1) (name ∷ names) os)) (read_instruction from rest n v i.0)
      ∙ subst (λ (h : Forest Text). content k rest (name ∷ names) (put_node (Branch (OfInstruction n v) h) os) ≡ out) i.1 (next k (omega (arith, instruction_strict from rest (n, v) i.0)))

  content_read : (f : Forest Text) (from rest : List ℕ) (name : Text) (names : List Text) (os : Nodes) (out : Walked) → IsContent f from rest → r.has_text rest ≡ false
      → ReadsMarked rest (name ∷ names) (put_all f os) out → Reads from (name ∷ names) os out
  content_read no_more from rest name names os out i e next = after_text from rest [] name names os out i e next
  content_read (one_more t ts) from rest name names os out i e next = first_read t ts from rest name names os out i e next
      (λ mid after j k. node_read t mid after name names os out j k)
      (λ mid j. content_read ts mid rest name names (put_node t os) out j e next)
      (λ mid z j k. marked_read ts mid rest name names z out j e k)

  marked_read : (f : Forest Text) (from rest : List ℕ) (name : Text) (names : List Text) (os : Nodes) (out : Walked) → AreMarked f from rest → r.has_text rest ≡ false
      → ReadsMarked rest (name ∷ names) (put_all f os) out → ReadsMarked from (name ∷ names) os out
  marked_read no_more from rest name names os out i e next = subst (λ z. ReadsMarked z (name ∷ names) os out) (sym i) next
  marked_read (one_more t ts) from rest name names os out i e next =
      node_read t from i.mid name names os out i.first (content_read ts i.mid rest name names (put_node t os) out i.others e next)

-- the root element is read
pub root_read : (n : Text) (as' : List (Text × Text)) (f : Forest Text) (from rest : List ℕ) (os : Nodes) → IsNode (Branch (OfElement n as') f) from rest
    → root from os ≡ Some (put_node (Branch (OfElement n as') f) os, rest)
root_read n as' f from rest os (inl i) =
    ap (option_and_then (λ (x : g.Tag × List ℕ). step (starts x.0) (content (length x.1 + 1) x.1) [] os)) (start_exact.complete from rest _ i.0)
    ∙ ends_at (length rest + 1) rest (leaf (OfElement n as') os) (omega arith)
    ∙ ap (λ (h : Forest Text). Some (put_node (Branch (OfElement n as') h) os, rest)) (sym i.1)
root_read n as' f from rest os (inr i) =
    ap (option_and_then (λ (x : g.Tag × List ℕ). step (starts x.0) (content (length x.1 + 1) x.1) [] os)) (start_exact.complete from i.inside _ i.opened)
    ∙ content_read f i.inside i.after n [] (open_node (OfElement n as') os) (Some (put_node (Branch (OfElement n as') f) os, rest)) i.content (end_no_text i.after rest n i.closed)
    (end_read i.after rest n [] (put_all f (open_node (OfElement n as') os)) (Some (put_node (Branch (OfElement n as') f) os, rest)) i.closed
    (λ k h. ends_at k rest (close_node (put_all f (open_node (OfElement n as') os))) h ∙ ap (λ z. Some (z, rest)) (close-put_all f (OfElement n as') os)))
    (length i.inside + 1) (omega arith)

-- where there are characters, what is left is shorter
pub text_run_strict : (from rest v : List ℕ) (c : ℕ) (cs : List ℕ) → g.text_run from rest v → v ≡ c ∷ cs → length rest < length from
unfolding g.text_run
text_run_strict from rest v c cs i e = by i.first (i.second.1 ∙ e) i.second.0
  where
    by : {parts : List (List ℕ)} {mid : List ℕ} → Rattle.doc_shred.specs.Rules.IsMany g.text_part from mid parts → g.joined parts ≡ c ∷ cs → mid ≡ rest → length rest < length from
    by Rattle.doc_shred.specs.Rules.IsMany.none f h = cc
    by (Rattle.doc_shred.specs.Rules.IsMany.more {mid = next} {a = a} {others = others} first m) f h = omega (arith, text_part_strict from next a first, many_narrow (λ x y z w. omega (arith, text_part_strict x y z w)) next _ others m, ap length h)
