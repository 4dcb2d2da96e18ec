-- The plain Core of each form that is evaluated, and what is asked of its parts.
use Rattle.std.proofs.Common.{◌≡◌, ℕ, Bool, true, false, not, ◌&&◌, length, List, [], ◌∷◌, map, sym, ap, ◌∙◌}
use Rattle.std.proofs.lemmas.Bool.{and_parts}
use Rattle.xq_base.specs.declared.fun.Fun.{Fun}
use Rattle.xq_base.specs.declared.fun.Fun.TheVariants as f
use Rattle.xq_base.specs.declared.item.Atom.{Atom as Held}
use Rattle.xq_base.specs.declared.item.Atom.TheVariants as a
use Rattle.xq_base.specs.declared.item.TextId.{TextId}
use Rattle.xq_base.specs.Atoms.{TextAtom}
use Rattle.doc_table.specs.Given.{is_given}
use Rattle.query_engine.proofs.StaysGiven.{stays_given}
use Rattle.core_meaning.specs.declared.node.VarId.{VarId}
use Rattle.core_meaning.specs.declared.node.Core.{Core}
use Rattle.core_meaning.specs.declared.node.CoreKind.{CoreKind}
use Rattle.core_meaning.specs.declared.node.CoreKind.TheVariants as k
use Rattle.core_meaning.specs.declared.node.Bind.TheOpen as o
use Rattle.core_meaning.specs.declared.node.Bind.TheFolds.{fold-roll-CoreKind, fold_out-Core}
use Rattle.core_meaning.specs.declared.node.Bind.TheViews.{rolls-Lit, rolls-Empty, rolls-Seq, rolls-Var, rolls-CoreKind::Let, rolls-CoreKind::For, rolls-Call}
use Rattle.core_meaning.specs.Erasure.{Texts, atom_in, cores_of, bind_of, form_of, node_of, key_of, core_of, kind_of}
use Rattle.core_meaning.specs.PlainCore.{PlainCore, PlainBind, PlainKey, Lit, Empty, Seq, Var, Let, For, Call, no_cores, one_core}
use Rattle.query_engine.specs.Evaluated.{is_name, has_forms, Runs}
use Rattle.query_engine.proofs.Bools.{not_false}

module _ (texts : Texts) where
  by_kind : (core : Core) (x : CoreKind) → core.kind ≡ x → core_of texts core ≡ kind_of texts x core.offset
  by_kind core x e = fold_out-Core PlainBind (ℕ → PlainCore) PlainCore PlainKey (bind_of texts) (form_of texts) (node_of texts) (key_of texts) core ∙ ap (λ z. kind_of texts z core.offset) e

  pub is_lit : (core : Core) (x : Held) → core.kind ≡ k.Lit x → core_of texts core ≡ Lit core.offset (atom_in texts x)
  is_lit core x e = by_kind core (k.Lit x) e ∙ ap (λ z. kind_of texts z core.offset) (sym (rolls-Lit x)) ∙ ap (λ (g : ℕ → PlainCore). g core.offset) (fold-roll-CoreKind PlainBind (ℕ → PlainCore) PlainCore PlainKey (bind_of texts) (form_of texts) (node_of texts) (key_of texts) (o.Lit x))

  pub is_empty : (core : Core) → core.kind ≡ k.Empty → core_of texts core ≡ Empty core.offset
  is_empty core e = by_kind core k.Empty e ∙ ap (λ z. kind_of texts z core.offset) (sym rolls-Empty) ∙ ap (λ (g : ℕ → PlainCore). g core.offset) (fold-roll-CoreKind PlainBind (ℕ → PlainCore) PlainCore PlainKey (bind_of texts) (form_of texts) (node_of texts) (key_of texts) o.Empty)

  pub is_seq : (core : Core) (x y : Core) → core.kind ≡ k.Seq x y → core_of texts core ≡ Seq core.offset (core_of texts x) (core_of texts y)
  is_seq core x y e = by_kind core (k.Seq x y) e ∙ ap (λ z. kind_of texts z core.offset) (sym (rolls-Seq x y)) ∙ ap (λ (g : ℕ → PlainCore). g core.offset) (fold-roll-CoreKind PlainBind (ℕ → PlainCore) PlainCore PlainKey (bind_of texts) (form_of texts) (node_of texts) (key_of texts) (o.Seq x y))

  pub is_var : (core : Core) (x : VarId) → core.kind ≡ k.Var x → core_of texts core ≡ Var core.offset x.0
  is_var core x e = by_kind core (k.Var x) e ∙ ap (λ z. kind_of texts z core.offset) (sym (rolls-Var x)) ∙ ap (λ (g : ℕ → PlainCore). g core.offset) (fold-roll-CoreKind PlainBind (ℕ → PlainCore) PlainCore PlainKey (bind_of texts) (form_of texts) (node_of texts) (key_of texts) (o.Var x))

  pub is_let : (core : Core) (v : VarId) (x y : Core) → core.kind ≡ k.Let v x y → core_of texts core ≡ Let core.offset v.0 (core_of texts x) (core_of texts y)
  is_let core v x y e = by_kind core (k.Let v x y) e ∙ ap (λ z. kind_of texts z core.offset) (sym (rolls-CoreKind::Let v x y)) ∙ ap (λ (g : ℕ → PlainCore). g core.offset) (fold-roll-CoreKind PlainBind (ℕ → PlainCore) PlainCore PlainKey (bind_of texts) (form_of texts) (node_of texts) (key_of texts) (o.CoreKind::Let v x y))

  pub is_for : (core : Core) (v p : VarId) (x y : Core) → core.kind ≡ k.For v p x y → core_of texts core ≡ For core.offset v.0 p.0 (core_of texts x) (core_of texts y)
  is_for core v p x y e = by_kind core (k.For v p x y) e ∙ ap (λ z. kind_of texts z core.offset) (sym (rolls-CoreKind::For v p x y)) ∙ ap (λ (g : ℕ → PlainCore). g core.offset) (fold-roll-CoreKind PlainBind (ℕ → PlainCore) PlainCore PlainKey (bind_of texts) (form_of texts) (node_of texts) (key_of texts) (o.CoreKind::For v p x y))

  pub is_call : (core : Core) (g : Fun) (xs : List Core) → core.kind ≡ k.Call g xs → core_of texts core ≡ Call core.offset g (cores_of (map (core_of texts) xs))
  is_call core g xs e = by_kind core (k.Call g xs) e ∙ ap (λ z. kind_of texts z core.offset) (sym (rolls-Call g xs)) ∙ ap (λ (z : ℕ → PlainCore). z core.offset) (fold-roll-CoreKind PlainBind (ℕ → PlainCore) PlainCore PlainKey (bind_of texts) (form_of texts) (node_of texts) (key_of texts) (o.Call g xs))

-- ---- the parts run where the whole does

seq_parts : (n m : ℕ) (a b x y : PlainCore) → Seq n a b ≡ Seq m x y → (a ≡ x) × (b ≡ y)
seq_parts n m a b x y e = (cc, cc)

let_parts : (n m v w : ℕ) (a b x y : PlainCore) → Let n v a b ≡ Let m w x y → (a ≡ x) × (b ≡ y)
let_parts n m v w a b x y e = (cc, cc)

for_parts : (n m v w p q : ℕ) (a b x y : PlainCore) → For n v p a b ≡ For m w q x y → (a ≡ x) × (b ≡ y)
for_parts n m v w p q a b x y e = (cc, cc)

pair_parts : (n m : ℕ) (g : Fun) (a b x y : PlainCore) → Call n g (one_core a (one_core b no_cores)) ≡ Call m g (one_core x (one_core y no_cores)) → (a ≡ x) × (b ≡ y)
pair_parts n m g a b x y e = (cc, cc)

name_part : (n m : ℕ) (g : Fun) (a x : PlainCore) → Call n g (one_core a no_cores) ≡ Call m g (one_core x no_cores) → a ≡ x
name_part n m g a x e = cc

text_part : (n m : ℕ) (t u : List ℕ) → Lit n (TextAtom t) ≡ Lit m (TextAtom u) → t ≡ u
text_part n m t u e = cc

module _ (sums : Bool) (texts : Texts) where
  abbrev pub TwoRun : Core → Core → Type 0
  TwoRun x y = Runs sums texts x × Runs sums texts y

  two_run : (core x y : Core) → Runs sums texts core → (has_forms sums (core_of texts core) ≡ has_forms sums (core_of texts x) && has_forms sums (core_of texts y)) → ((later : Texts) → core_of later core ≡ core_of texts core → (core_of later x ≡ core_of texts x) × (core_of later y ≡ core_of texts y)) → TwoRun x y
  two_run core x y r e parts =
      let p = and_parts (has_forms sums (core_of texts x)) (has_forms sums (core_of texts y)) (sym e ∙ r.forms) in
      (record { forms = p.0; fixed = λ later g. (parts later (r.fixed later g)).0 }, record { forms = p.1; fixed = λ later g. (parts later (r.fixed later g)).1 })

  pub seq_runs : (core x y : Core) → core.kind ≡ k.Seq x y → Runs sums texts core → TwoRun x y
  seq_runs core x y e r = two_run core x y r (ap (has_forms sums) (is_seq texts core x y e)) (λ later s. seq_parts core.offset core.offset _ _ _ _ (sym (is_seq later core x y e) ∙ s ∙ is_seq texts core x y e))

  pub let_runs : (core : Core) (v : VarId) (x y : Core) → core.kind ≡ k.Let v x y → Runs sums texts core → TwoRun x y
  let_runs core v x y e r = two_run core x y r (ap (has_forms sums) (is_let texts core v x y e)) (λ later s. let_parts core.offset core.offset v.0 v.0 _ _ _ _ (sym (is_let later core v x y e) ∙ s ∙ is_let texts core v x y e))

  pub for_runs : (core : Core) (v p : VarId) (x y : Core) → core.kind ≡ k.For v p x y → Runs sums texts core → TwoRun x y
  for_runs core v p x y e r = two_run core x y r (ap (has_forms sums) (is_for texts core v p x y e)) (λ later s. for_parts core.offset core.offset v.0 v.0 p.0 p.0 _ _ _ _ (sym (is_for later core v p x y e) ∙ s ∙ is_for texts core v p x y e))

  -- a sum's operands, where sums may occur
  pub sum_runs : (core : Core) (x y : Core) → core.kind ≡ k.Call f.Add (x ∷ y ∷ []) → Runs sums texts core → (sums ≡ true) × TwoRun x y
  sum_runs core x y e r =
      let forms = and_parts sums (has_forms sums (core_of texts x) && has_forms sums (core_of texts y)) (sym (ap (has_forms sums) (is_call texts core f.Add (x ∷ y ∷ []) e)) ∙ r.forms) in
      let p = and_parts (has_forms sums (core_of texts x)) (has_forms sums (core_of texts y)) forms.1 in
      (forms.0, (record { forms = p.0; fixed = λ later g. (parts later (r.fixed later g)).0 }, record { forms = p.1; fixed = λ later g. (parts later (r.fixed later g)).1 }))
    where
      parts : (later : Texts) → core_of later core ≡ core_of texts core → (core_of later x ≡ core_of texts x) × (core_of later y ≡ core_of texts y)
      parts later s = pair_parts core.offset core.offset f.Add _ _ _ _ (sym (is_call later core f.Add (x ∷ y ∷ []) e) ∙ s ∙ is_call texts core f.Add (x ∷ y ∷ []) e)

  -- a document's name is given, where sums don't occur
  pub document_runs : (core x : Core) (id : TextId) → core.kind ≡ k.Call f.Doc (x ∷ []) → x.kind ≡ k.Lit (a.Str id) → Runs sums texts core → (sums ≡ false) × (is_given (length texts) id ≡ true)
  document_runs core x id e i r =
      let forms = and_parts (not sums) (is_name (one_core (core_of texts x) no_cores)) (sym (ap (has_forms sums) (is_call texts core f.Doc (x ∷ []) e)) ∙ r.forms) in
      (not_false sums forms.0, stays_given texts id (λ later g. text_part x.offset x.offset _ _ (sym (is_lit later x (a.Str id) i) ∙ name later (r.fixed later g) ∙ is_lit texts x (a.Str id) i)))
    where
      name : (later : Texts) → core_of later core ≡ core_of texts core → core_of later x ≡ core_of texts x
      name later s = name_part core.offset core.offset f.Doc _ _ (sym (is_call later core f.Doc (x ∷ []) e) ∙ s ∙ is_call texts core f.Doc (x ∷ []) e)
