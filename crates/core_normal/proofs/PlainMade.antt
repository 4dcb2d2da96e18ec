-- Forms without parts, for the function that goes by the form.
use Rattle.std.proofs.Common.{◌≡◌, refl, sym, ap, ◌∙◌, ℕ, ℤ, Option}
use Rattle.xq_base.specs.declared.item.TextId.{TextId}
use Rattle.xq_base.specs.Atoms.{IntAtom}
use Rattle.doc_table.specs.Tree.{CommentNode, InstructionNode, text_in}
use Rattle.core_meaning.specs.declared.node.Core.{Core}
use Rattle.core_meaning.specs.Erasure.{Texts, core_of}
use Rattle.core_meaning.specs.PlainCore.{PlainCore}
use Rattle.core_meaning.specs.PlainCore as c
use Rattle.core_scope.specs.Syn.{Syn, resolved}
use Rattle.core_scope.specs.Syn as s
use Rattle.core_normal.specs.declared.pieces.Context.{Context}
use Rattle.core_normal.specs.declared.bodies.Bodies.{Bodies}
use Rattle.core_normal.specs.declared.bodies.State.{State}
use Rattle.core_normal.specs.Around.{Around, Env, found}
use Rattle.core_normal.specs.Held.{focus_of}
use Rattle.core_normal.specs.Making.{MadeBy, around_of, normed}
use Rattle.core_normal.specs.Normal.{norm}
use Rattle.core_normal.specs.Pieces.{dot_at, one, root_at, text_lit}
use Rattle.core_normal.specs.Standing.{Stands, vars_in}
use Rattle.core_normal.proofs.NormForms.{made_with}

module _ (p : Bodies) where
  plain_made : {s0 : State} {f : Option Context} (e : Texts → Syn resolved) (core : Core) (v : Texts → Around → PlainCore) →
      ((t : Texts) (r : Around) (n : ℕ) → normed p e t r n ≡ made_with (v t r) n) →
      ((t : Texts) (env : Env) → Stands (vars_in s0.vars) env → core_of t core ≡ v t (around_of env f)) → MadeBy core_of p s0 f (normed p e) core s0
  plain_made {s0 = s0} {f = f} e core v law q = record {
    made = λ t env z vs. law t (around_of env f) s0.next ∙ ap (λ u. made_with u s0.next) (sym (q t env vs));
    same = refl;
  }

  pub integer_made : {s0 : State} {f : Option Context} (o : ℕ) (z : ℤ) (core : Core) → ((t : Texts) → core_of t core ≡ c.Lit o (IntAtom z)) → MadeBy core_of p s0 f (normed p (λ t. s.integer o z)) core s0
  unfolding norm normed
  integer_made o z core q = plain_made (λ t. s.integer o z) core (λ t r. c.Lit o (IntAtom z)) (λ t r n. refl) (λ t env vs. q t)

  pub variable_made : {s0 : State} {f : Option Context} (o v : ℕ) (core : Core) → ((t : Texts) → core_of t core ≡ c.Var o (vars_in s0.vars v)) → MadeBy core_of p s0 f (normed p (λ t. s.var o v)) core s0
  unfolding norm normed
  variable_made o v core q = plain_made (λ t. s.var o v) core (λ t r. c.Var o (found r.env v)) (λ t r n. refl) (λ t env vs. q t ∙ ap (c.Var o) (sym (vs v)))

  pub dot_made : {s0 : State} {f : Option Context} (o : ℕ) (core : Core) → ((t : Texts) → core_of t core ≡ dot_at o (focus_of f)) → MadeBy core_of p s0 f (normed p (λ t. s.dot o)) core s0
  unfolding norm normed
  dot_made o core q = plain_made (λ t. s.dot o) core (λ t r. dot_at o r.focus) (λ t r n. refl) (λ t env vs. q t)

  pub root_made : {s0 : State} {f : Option Context} (o : ℕ) (core : Core) → ((t : Texts) → core_of t core ≡ root_at o (focus_of f)) → MadeBy core_of p s0 f (normed p (λ t. s.root o)) core s0
  unfolding norm normed
  root_made o core q = plain_made (λ t. s.root o) core (λ t r. root_at o r.focus) (λ t r n. refl) (λ t env vs. q t)

  pub text_made : {s0 : State} {f : Option Context} (o : ℕ) (x : TextId) (core : Core) → ((t : Texts) → core_of t core ≡ text_lit o (text_in t x)) → MadeBy core_of p s0 f (normed p (λ t. s.text o (text_in t x))) core s0
  unfolding norm normed
  text_made o x core q = plain_made (λ t. s.text o (text_in t x)) core (λ t r. text_lit o (text_in t x)) (λ t r n. refl) (λ t env vs. q t)

  pub empty_made : {s0 : State} {f : Option Context} (o : ℕ) (core : Core) → ((t : Texts) → core_of t core ≡ c.Empty o) → MadeBy core_of p s0 f (normed p (λ t. s.paren o s.absent)) core s0
  unfolding norm normed
  empty_made o core q = plain_made (λ t. s.paren o s.absent) core (λ t r. c.Empty o) (λ t r n. refl) (λ t env vs. q t)

  pub comment_made : {s0 : State} {f : Option Context} (o : ℕ) (x : TextId) (core : Core) → ((t : Texts) → core_of t core ≡ c.Build o CommentNode c.no_cores (text_lit o (text_in t x))) →
      MadeBy core_of p s0 f (normed p (λ t. s.comment o (text_in t x))) core s0
  unfolding norm normed
  comment_made o x core q = plain_made (λ t. s.comment o (text_in t x)) core (λ t r. c.Build o CommentNode c.no_cores (text_lit o (text_in t x))) (λ t r n. refl) (λ t env vs. q t)

  pub instruction_made : {s0 : State} {f : Option Context} (o : ℕ) (m x : TextId) (core : Core) →
      ((t : Texts) → core_of t core ≡ c.Build o InstructionNode (one (text_lit o (text_in t m))) (text_lit o (text_in t x))) →
      MadeBy core_of p s0 f (normed p (λ t. s.instruction o (text_in t m) (text_in t x))) core s0
  unfolding norm normed
  instruction_made o m x core q =
      plain_made (λ t. s.instruction o (text_in t m) (text_in t x)) core (λ t r. c.Build o InstructionNode (one (text_lit o (text_in t m))) (text_lit o (text_in t x))) (λ t r n. refl) (λ t env vs. q t)
