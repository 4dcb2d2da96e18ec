-- How far a pass has read.
use Rattle.std.proofs.Common.{◌≡◌, ℕ, ◌+◌, ◌<◌, ◌≤◌, Bool, true, List, [], ◌∷◌, ◌++◌, length, map, take, refl, sym, ap, ◌∙◌, subst, arith, append_assoc, Option, Some, None, Result, Ok, Err}
use Rattle.std.specs.Result.{IsErr}
use Rattle.std.proofs.lemmas.Bool.{false≢true}
use Rattle.xq_base.specs.declared.item.TextId.{TextId}
use Rattle.xq_base.specs.declared.item.FragKey.{FragKey}
use Rattle.xq_base.specs.declared.item.Want.{Want}
use Rattle.xq_base.specs.declared.axis.Axis.{Axis}
use Rattle.xq_base.specs.declared.axis.NodeTest.{NodeTest}
use Rattle.doc_table.specs.Tree.{Tree}
use Rattle.doc_table.specs.Enc.{enc, line_in, row_of}
use Rattle.doc_table.specs.declared.rows.Row.{Row}
use Rattle.doc_table.proofs.Marks.{bridge}
use Rattle.doc_table.specs.Account.{Account}
use Rattle.doc_table.specs.Notes.{AppendsAll, notes_of, note_of, Reading}
use Rattle.doc_table.specs.declared.ledger.Note.{Note}
use Rattle.doc_table.specs.Touched.{picked}
use Rattle.staircase.specs.Passes.{NextIs}
use Rattle.staircase.specs.Seen.{seen_of, seen_from, IsRowOf}
use Rattle.staircase.specs.declared.seen.Seen.{Seen}
use Rattle.staircase.proofs.Picks.{picked-same, picked-prefix, picked-next}

-- all rows below `from` are done
pub record ReadTo (t : Tree TextId) (frag : FragKey) (site : ℕ) (axis : Axis) (node_test : NodeTest) (first wants : ℕ → Bool) (knows : ℕ → Type 0) (from : ℕ) (seen : List Seen) (old new : Account) : Type 0 where
  pub same : (v : ℕ) → wants v ≡ first v
  pub known : knows from
  pub within : from ≤ length (enc t)
  pub rows : seen ≡ map (seen_of axis node_test t) (picked first from)
  pub notes : AppendsAll old.notes new.notes (notes_of site frag (picked first from))
  pub refuses : new.may_refuse ≡ old.may_refuse

pub found : (first wants : ℕ → Bool) (knows : ℕ → Type 0) (from total at : ℕ) → ((v : ℕ) → wants v ≡ first v) → NextIs wants knows from total (Some at) → picked first (at + 1) ≡ picked first from ++ at ∷ []
found first wants knows from total at same n = picked-next first from at n.0 (λ w h k. sym (same w) ∙ n.4 w h k) (sym (same at) ∙ n.2)

pub none-left : (first wants : ℕ → Bool) (knows : ℕ → Type 0) (from total : ℕ) → from ≤ total → ((v : ℕ) → wants v ≡ first v) → NextIs wants knows from total None → picked first total ≡ picked first from
none-left first wants knows from total l same n = picked-same first from total l (λ w h k. sym (same w) ∙ n w h k)

pub noted : (old mid new : Option (List Note)) (site : ℕ) (frag : FragKey) (rows : List ℕ) (at : ℕ) → AppendsAll old mid (notes_of site frag rows) → AppendsAll mid new (note_of site frag at ∷ []) → AppendsAll old new (notes_of site frag (rows ++ at ∷ []))
noted None None None site frag rows at h k = tt
noted None None (Some n) site frag rows at h k = absurd k
noted None (Some m) new site frag rows at h k = absurd h
noted (Some o) None new site frag rows at h k = absurd h
noted (Some o) (Some m) None site frag rows at h k = absurd k
noted (Some o) (Some m) (Some n) site frag rows at h k = k ∙ ap (λ z. z ++ note_of site frag at ∷ []) h ∙ append_assoc o (notes_of site frag rows) (note_of site frag at ∷ []) ∙ ap (λ z. o ++ z) (joined rows)
  where
    joined : (rows : List ℕ) → notes_of site frag rows ++ note_of site frag at ∷ [] ≡ notes_of site frag (rows ++ at ∷ [])
    joined [] = refl
    joined (r ∷ rows) = ap (λ z. note_of site frag r ∷ z) (joined rows)

pub seen-more : (axis : Axis) (node_test : NodeTest) (t : Tree TextId) (rows : List ℕ) (at : ℕ) → map (seen_of axis node_test t) rows ++ seen_of axis node_test t at ∷ [] ≡ map (seen_of axis node_test t) (rows ++ at ∷ [])
seen-more axis node_test t [] at = refl
seen-more axis node_test t (r ∷ rows) at = ap (λ z. seen_of axis node_test t r ∷ z) (seen-more axis node_test t rows at)

pub partly : (first : ℕ → Bool) (k n : ℕ) (old new : Option (List Note)) (site : ℕ) (frag : FragKey) → k ≤ n → AppendsAll old new (notes_of site frag (picked first k)) → (j : ℕ) × AppendsAll old new (notes_of site frag (take j (picked first n)))
partly first k n old new site frag l h = (length (picked first k), subst (λ z. AppendsAll old new (notes_of site frag z)) (sym (picked-prefix first k n l)) h)

pub reading-err : {T : Type 0} (old new : Option (List Note)) (site : ℕ) (frag : FragKey) (rows : List ℕ) (r : Result T Want) → IsErr r → (k : ℕ) × AppendsAll old new (notes_of site frag (take k rows)) → Reading old new site frag rows r
reading-err old new site frag rows (Ok x) e h = absurd (false≢true e)
reading-err old new site frag rows (Err x) e h = h

pub size-fits : (t : Tree TextId) (at : ℕ) (row : Row) → row ≡ row_of (line_in (enc t) at) → at < length (enc t) → (total : ℕ) → total ≡ length (enc t) → total < 4294967296 → at + row.size < 4294967295
size-fits t at row e h total f k =
    let size : row.size ≡ (line_in (enc t) at).size = ap (λ z. z.size) e in
    let ends = (bridge t).ends at h in
    omega arith

-- one row more
pub read-more : (t : Tree TextId) (frag : FragKey) (site : ℕ) (axis : Axis) (node_test : NodeTest) (first wants wants2 : ℕ → Bool) (knows knows1 knows2 : ℕ → Type 0) (from : ℕ) (seen : List Seen) (old new : Account) (new2 : Account) (at : ℕ) (row : Row) (one : Seen) (seen2 : List Seen)
    → ReadTo t frag site axis node_test first wants knows from seen old new
    → NextIs wants knows1 from (length (enc t)) (Some at)
    → row ≡ row_of (line_in (enc t) at)
    → AppendsAll new.notes new2.notes (note_of site frag at ∷ []) → new2.may_refuse ≡ new.may_refuse
    → one ≡ seen_from axis node_test at row
    → seen2 ≡ seen ++ one ∷ []
    → ((v : ℕ) → wants2 v ≡ wants v)
    → knows2 (at + 1)
    → ReadTo t frag site axis node_test first wants2 knows2 (at + 1) seen2 old new2
read-more t frag site axis node_test first wants wants2 knows knows1 knows2 from seen old new new2 at row one seen2 w n e notes refuses o s same k =
    let more : picked first (at + 1) ≡ picked first from ++ at ∷ [] = found first wants knows1 from (length (enc t)) at w.same n in
    let one_is : one ≡ seen_of axis node_test t at = o ∙ ap (seen_from axis node_test at) e in
    record {
      same = λ v. same v ∙ w.same v;
      known = k;
      within = omega (arith, n.1);
      rows = s ∙ ap (λ z. z ++ one ∷ []) w.rows ∙ ap (λ z. map (seen_of axis node_test t) (picked first from) ++ z ∷ []) one_is ∙ seen-more axis node_test t (picked first from) at ∙ ap (map (seen_of axis node_test t)) (sym more);
      notes = subst (λ z. AppendsAll old.notes new2.notes (notes_of site frag z)) (sym more) (noted old.notes new.notes new2.notes site frag (picked first from) at w.notes notes);
      refuses = refuses ∙ w.refuses;
    }

-- the notes after one more row, where no more are read
pub read-part : (t : Tree TextId) (frag : FragKey) (site : ℕ) (axis : Axis) (node_test : NodeTest) (first wants : ℕ → Bool) (knows knows1 : ℕ → Type 0) (from : ℕ) (seen : List Seen) (old new : Account) (new2 : Account) (at : ℕ)
    → ReadTo t frag site axis node_test first wants knows from seen old new
    → NextIs wants knows1 from (length (enc t)) (Some at)
    → AppendsAll new.notes new2.notes (note_of site frag at ∷ [])
    → (j : ℕ) × AppendsAll old.notes new2.notes (notes_of site frag (take j (picked first (length (enc t)))))
read-part t frag site axis node_test first wants knows knows1 from seen old new new2 at w n notes =
    let more : picked first (at + 1) ≡ picked first from ++ at ∷ [] = found first wants knows1 from (length (enc t)) at w.same n in
    partly first (at + 1) (length (enc t)) old.notes new2.notes site frag (omega (arith, n.1))
    (subst (λ z. AppendsAll old.notes new2.notes (notes_of site frag z)) (sym more) (noted old.notes new.notes new2.notes site frag (picked first from) at w.notes notes))

-- what is known once a row was entered
pub entered : (t : Tree TextId) (axis : Axis) (node_test : NodeTest) (at : ℕ) (row : Row) (one : Seen) → one ≡ seen_from axis node_test at row → row ≡ row_of (line_in (enc t) at)
    → (before after : ℕ → Type 0) (wants : ℕ → Bool) → (one.pre < length (enc t) → wants one.pre ≡ true → IsRowOf t one → before one.pre → after (one.pre + 1))
    → at < length (enc t) → wants at ≡ true → before at → after (at + 1)
entered t axis node_test at row one o e before after wants f h w k =
    let P : Seen → Type 0 = λ z. (z.pre < length (enc t) → wants z.pre ≡ true → IsRowOf t z → before z.pre → after (z.pre + 1)) in
    let whole : one ≡ seen_of axis node_test t at = o ∙ ap (seen_from axis node_test at) e in
    subst P whole f h w (refl, refl) k
