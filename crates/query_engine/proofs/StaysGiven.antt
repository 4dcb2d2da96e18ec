-- A number whose text is the same in every later pool was given.
use Rattle.std.proofs.Common.{◌≡◌, ◌≤◌, ℕ, zero, suc, true, List, [], ◌∷◌, length, refl, sym, ap, ◌∙◌, arith, inl, inr}
use Rattle.std.proofs.lemmas.Bool.{cases_lt, lt-ltb}
use Rattle.std.specs.Prelude.{slice_index_or}
use Rattle.xq_base.specs.declared.item.TextId.{TextId}
use Rattle.doc_table.specs.Tree.{text_in}
use Rattle.doc_table.specs.Given.{is_given}
use Rattle.doc_table.specs.OtherTexts.{Grows}
use Rattle.core_meaning.specs.Erasure.{Texts}

-- a later pool, in which a number that isn't given yet has another text
record Renamed (texts : Texts) (n : ℕ) : Type 0 where
  pub later : Texts
  pub grows : Grows texts later
  pub now : slice_index_or texts n [] ≡ []
  pub then : slice_index_or later n [] ≡ 0 ∷ []

renamed : (texts : Texts) (n : ℕ) → length texts ≤ n → Renamed texts n
renamed [] zero h = record { later = (0 ∷ []) ∷ []; grows = refl; now = refl; then = refl }
renamed [] (suc n) h = let r = renamed [] n (omega arith) in record { later = [] ∷ r.later; grows = refl; now = refl; then = r.then }
renamed (t ∷ ts) zero h = absurd (omega arith)
renamed (t ∷ ts) (suc n) h = let r = renamed ts n (omega arith) in record { later = t ∷ r.later; grows = ap (λ z. t ∷ z) r.grows; now = r.now; then = r.then }

differ : (z : List ℕ) → z ≡ [] → z ≡ 0 ∷ [] → ⊥
differ z e d = cc

pub stays_given : (texts : Texts) (id : TextId) → ((later : Texts) → Grows texts later → text_in later id ≡ text_in texts id) → is_given (length texts) id ≡ true
stays_given texts id h = elim (cases_lt id.0 (length texts)) [
  | inl a ↦ lt-ltb id.0 (length texts) a
  | inr b ↦ (let r = renamed texts id.0 (omega arith) in absurd (differ (text_in texts id) r.now (sym (h r.later r.grows) ∙ r.then)))
]
