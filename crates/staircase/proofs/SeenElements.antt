-- Attributes of rows.
use Rattle.std.proofs.Common.{◌≡◌, ℕ, true, List, refl, sym, ap, ◌∙◌, subst}
use Rattle.std.proofs.lemmas.Bool.{false≢true}
use Rattle.xq_base.specs.declared.item.TextId.{TextId}
use Rattle.xq_base.specs.declared.axis.Axis.{Axis}
use Rattle.xq_base.specs.declared.axis.NodeTest.{NodeTest}
use Rattle.doc_table.specs.declared.rows.Kind.{Kind}
use Rattle.doc_table.specs.declared.rows.Kind.TheVariants as k
use Rattle.doc_table.specs.Tree.{Tree}
use Rattle.doc_table.specs.Enc.{enc, line_in}
use Rattle.staircase.specs.declared.seen.Seen.{Seen}
use Rattle.staircase.specs.Parts.{In}
use Rattle.staircase.specs.Seen.{is_element, AllSeen}

is-element : (x : Kind) → is_element x ≡ true → x ≡ k.Element
is-element k.Element e = refl
is-element k.Document e = absurd (false≢true e)
is-element k.Text e = absurd (false≢true e)
is-element k.Comment e = absurd (false≢true e)
is-element k.Pi e = absurd (false≢true e)

-- an element that was read
pub seen-element : (axis : Axis) (tested : NodeTest) (t : Tree TextId) (seen : List Seen) (own : Seen) (pre : ℕ) → AllSeen axis tested t seen → In own seen → own.pre ≡ pre → own.element ≡ true → (line_in (enc t) pre).kind ≡ k.Element
seen-element axis tested t seen own pre a i q e =
    let s = a own i in
    let e2 : is_element (line_in (enc t) own.pre).kind ≡ true = sym (ap (λ (z : Seen). z.element) s.1) ∙ e in
    subst (λ z. (line_in (enc t) z).kind ≡ k.Element) q (is-element (line_in (enc t) own.pre).kind e2)
