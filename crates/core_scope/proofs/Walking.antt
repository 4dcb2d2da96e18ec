-- The steps of the walk over a node with binds, and over a call, in the order of the code.
use Rattle.std.proofs.Common.{◌≡◌, sym, ap, ◌∙◌, ℕ, length, List, Option}
use Rattle.xq_ast.specs.declared.leaf.Callee.{Callee}
use Rattle.xq_ast.specs.declared.node.Node.TheVariants as n
use Rattle.xq_ast.specs.Trees.{Name as Named, Tree, Clause, QuantBind, Key}
use Rattle.core_scope.specs.Names.{Signature, function_of}
use Rattle.core_scope.specs.Walk.{call_facts}
use Rattle.core_scope.specs.Open.{Open, left_to}
use Rattle.core_scope.specs.Kept.{Kept, after}
use Rattle.core_scope.specs.Telling.{entered_clauses, entered_quants, told, told_all, told_maybe, told_clauses, told_keys}
use Rattle.core_scope.proofs.Opening.{left_clauses, left_quants}
use Rattle.core_scope.proofs.Told.{told_flwor, told_call}

module _ (fs : List Signature) where
  pub flwor_found : (t : Tree) (i : ℕ) (cs : List Clause) (c : Option Tree) (ks : List Key) (x : Tree) (w a b d : Open) (k p q r l : Kept) →
      t ≡ n.Flwor i cs c ks x → p ≡ told_clauses fs cs w k → a ≡ entered_clauses cs w → q ≡ told_maybe fs c a p → b ≡ a → r ≡ told_keys fs ks b q → d ≡ b → l ≡ told fs x d r → l ≡ told fs t w k
  flwor_found t i cs c ks x w a b d k p q r l te pe ae qe be re de le =
      le ∙ ap (told fs x d) re ∙ ap (λ z. told fs x z (told_keys fs ks b q)) de ∙ ap (λ z. told fs x z (told_keys fs ks z q)) be
      ∙ ap (λ z. told fs x a (told_keys fs ks a z)) qe
      ∙ ap (λ z. told fs x z (told_keys fs ks z (told_maybe fs c z p))) ae
      ∙ ap (λ z. told fs x (entered_clauses cs w) (told_keys fs ks (entered_clauses cs w) (told_maybe fs c (entered_clauses cs w) z))) pe
      ∙ sym (told_flwor fs i cs c ks x w k) ∙ ap (λ z. told fs z w k) (sym te)

  pub call_found : (t : Tree) (i : ℕ) (f : Named) (ts us : List Tree) (w : Open) (k p l : Kept) (callee : Option Callee) (m : ℕ) →
      t ≡ n.Call i f ts → callee ≡ function_of fs f.text m → m ≡ length ts → p ≡ after k (call_facts callee i) → us ≡ ts → l ≡ told_all fs us w p → l ≡ told fs t w k
  call_found t i f ts us w k p l callee m te ce me pe ue le =
      le ∙ ap (λ z. told_all fs z w p) ue ∙ ap (told_all fs ts w) (pe ∙ ap (λ z. after k (call_facts z i)) (ce ∙ ap (function_of fs f.text) me))
      ∙ sym (told_call fs i f ts w k) ∙ ap (λ z. told fs z w k) (sym te)

pub clauses_names : (cs : List Clause) (w a b d u v : Open) (m : ℕ) → m ≡ length w.outer → a ≡ entered_clauses cs w → b ≡ a → d ≡ b → u ≡ d → v ≡ left_to m u → v ≡ w
clauses_names cs w a b d u v m me ae be de ue ve =
    ve ∙ ap (left_to m) (ue ∙ de ∙ be ∙ ae) ∙ ap (λ z. left_to z (entered_clauses cs w)) me ∙ left_clauses cs w

pub quants_names : (bs : List QuantBind) (w a b v : Open) (m : ℕ) → m ≡ length w.outer → a ≡ entered_quants bs w → b ≡ a → v ≡ left_to m b → v ≡ w
quants_names bs w a b v m me ae be ve =
    ve ∙ ap (left_to m) (be ∙ ae) ∙ ap (λ z. left_to z (entered_quants bs w)) me ∙ left_quants bs w
