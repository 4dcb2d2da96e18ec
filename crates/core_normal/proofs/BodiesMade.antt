-- A declared function's body behind its parameters.
use Rattle.std.proofs.Common.{◌≡◌, refl, sym, ap, ◌∙◌, ℕ, List, [], ◌∷◌, ◌++◌, length, map, append_assoc, append-nil, Option, None, arith}
use Rattle.core_meaning.specs.declared.node.Core.{Core}
use Rattle.core_meaning.specs.declared.node.SeqType.{SeqType as CoreType}
use Rattle.core_meaning.specs.Erasure.{Texts, core_of}
use Rattle.core_meaning.specs.PlainCore.{PlainCore}
use Rattle.core_meaning.specs.Types.{SequenceTest}
use Rattle.xq_ast.specs.declared.leaf.SeqType.{SeqType}
use Rattle.xq_ast.specs.declared.query.Param.{Param}
use Rattle.core_scope.specs.Syn.{Syn, resolved}
use Rattle.core_scope.specs.Leaves.{ResolvedTree, syn_resolved}
use Rattle.core_normal.specs.declared.bodies.Bodies.{Bodies}
use Rattle.core_normal.specs.declared.bodies.State.{State}
use Rattle.core_normal.specs.Fresh.{Made, fresh}
use Rattle.core_normal.specs.Around.{Env, with_var}
use Rattle.core_normal.specs.Held.{type_in}
use Rattle.core_normal.specs.Making.{HasEmpty, IsFresh, MadeBy, bodies_in, normed, types_in}
use Rattle.core_normal.specs.Pieces.{Inlined}
use Rattle.core_normal.specs.Query.{body_of, types_of}
use Rattle.core_normal.specs.Standing.{Stands, Values, vars_in, with_value}
use Rattle.core_normal.specs.Templating.{Bodied, IsBodied, function_in, normed_body, params}
use Rattle.core_normal.specs.Trees.{type_of}
use Rattle.core_normal.proofs.NormForms.{made_with}
use Rattle.core_normal.proofs.Valued.{stands_behind}

pub body_alone : {p : Bodies} {s0 s1 : State} (ps : List (Param ℕ SeqType)) (e : Texts → Syn resolved) (vs : List ℕ) (core : Core) → length ps ≡ 0 →
    MadeBy core_of p s0 None (normed p e) core s1 → IsBodied p s0 ps e vs vs core s1
unfolding normed normed_body
body_alone {p = p} {s0 = s0} (q ∷ ps) e vs core none m = let no : ⊥ = omega (arith, none) in absurd no
body_alone {p = p} {s0 = s0} [] e vs core none m = record {
  vars = [];
  more = sym (append-nil vs);
  made = λ t env z st. ap (λ (u : Made PlainCore). made_with (record { vars = []; body = u.made }) u.next) (m.made t env z st);
  same = m.same;
}

-- one variable before the others
abbrev with_first : ℕ → Made Bodied → Made Bodied
with_first x m = record { made = record { vars = x ∷ m.made.vars; body = m.made.body }; next = m.next }

first_param : (p : Bodies) (q : Param ℕ SeqType) (rest : List (Param ℕ SeqType)) (e : Texts → Syn resolved) (t : Texts) (env : Env) (n : ℕ) →
    normed_body p (q ∷ rest) e t env n ≡ with_first ((fresh p.base n).made) (normed_body p rest e t (with_var q.var.name ((fresh p.base n).made) env) ((fresh p.base n).next))
unfolding normed_body
first_param p q rest e t env n = refl

pub body_more : {p : Bodies} {s0 s1 s2 s3 s4 : State} (ps : List (Param ℕ SeqType)) (q : Param ℕ SeqType) (rest : List (Param ℕ SeqType)) (e : Texts → Syn resolved)
    (x before : ℕ) (vs0 vs1 vs2 : List ℕ) (core : Core) →
    ps ≡ q ∷ rest → IsFresh p s0 x s1 → vs1 ≡ vs0 ++ x ∷ [] →
    vars_in s2.vars ≡ with_value q.var.name x (vars_in s1.vars) → with_value q.var.name before (vars_in s2.vars) ≡ vars_in s1.vars → s2.next ≡ s1.next →
    IsBodied p s2 rest e vs1 vs2 core s3 → vars_in s4.vars ≡ with_value q.var.name before (vars_in s3.vars) → s4.next ≡ s3.next →
    IsBodied p s0 ps e vs0 vs2 core s4
body_more {p = p} {s0 = s0} {s1 = s1} {s2 = s2} {s3 = s3} {s4 = s4} ps q rest e x before vs0 vs1 vs2 core is new pushed bound back same_next inner left last_next = record {
  vars = x ∷ inner.vars;
  more = inner.more ∙ ap (λ l. l ++ inner.vars) pushed ∙ append_assoc vs0 (x ∷ []) inner.vars;
  made = λ t env z st.
      ap (λ l. normed_body p l e t env s0.next) is ∙ first_param p q rest e t env s0.next
      ∙ ap (λ (u : Made ℕ). with_first u.made (normed_body p rest e t (with_var q.var.name u.made env) u.next)) new.gives
      ∙ ap (λ k. with_first x (normed_body p rest e t (with_var q.var.name x env) k)) (sym same_next)
      ∙ ap (with_first x) (inner.made t (with_var q.var.name x env) z (stands_behind (vars_in s0.vars) (vars_in s2.vars) env q.var.name x st (bound ∙ ap (with_value q.var.name x) new.same)))
      ∙ ap (λ k. made_with (record { vars = x ∷ inner.vars; body = core_of t core }) k) (sym last_next);
  same = left ∙ ap (with_value q.var.name before) inner.same ∙ back ∙ new.same;
}

-- the types of parameters
types_law : (t : Texts) (ps : List (Param ℕ SeqType)) → types_of (params t ps) ≡ map (λ (q : Param ℕ SeqType). type_of t q.ty) ps
types_law t [] = refl
types_law t (q ∷ ps) = ap (λ l. type_of t q.ty ∷ l) (types_law t ps)

abbrev inlined_of : List (Option SequenceTest) → Option SequenceTest → Made Bodied → Made Inlined
inlined_of ts ty m = record { made = record { vars = m.made.vars; types = ts; body = m.made.body; result = ty }; next = m.next }

body_law : (p : Bodies) (t : Texts) (env : Env) (ps : List (Param ℕ SeqType)) (ty : Option SeqType) (e : ResolvedTree) (n : ℕ) →
    body_of p.base (bodies_in t p) env (function_in t ps ty e) n ≡ inlined_of (types_of (params t ps)) (type_of t ty) (normed_body p ps (λ t. syn_resolved t e) t env n)
unfolding normed_body
body_law p t env ps ty e n = refl

-- a body that is made, from its parts
pub template_made : {p : Bodies} {s0 s1 : State} (vs : Values) (ps : List (Param ℕ SeqType)) (ty : Option SeqType) (e : ResolvedTree)
    (xs before : List ℕ) (ts : List (Option CoreType)) (core : Core) (out : Option CoreType) (n : ℕ) →
    s0.next ≡ 0 → vars_in s0.vars ≡ vs → before ≡ [] → IsBodied p s0 ps (λ t. syn_resolved t e) before xs core s1 → n ≡ s1.next →
    ((t : Texts) → types_in t ts ≡ map (λ (q : Param ℕ SeqType). type_of t q.ty) ps) → ((t : Texts) → type_in t out ≡ type_of t ty) →
    (t : Texts) (env : Env) → HasEmpty t → Stands vs env →
    body_of p.base (bodies_in t p) env (function_in t ps ty e) 0
    ≡ record { made = record { vars = xs; types = types_in t ts; body = core_of t core; result = type_in t out }; next = n }
template_made {p = p} {s0 = s0} {s1 = s1} vs ps ty e xs before ts core out n zero_next same_vars no_before made made_next types result t env z st =
    body_law p t env ps ty e 0
    ∙ ap (λ k. inlined_of (types_of (params t ps)) (type_of t ty) (normed_body p ps (λ t. syn_resolved t e) t env k)) (sym zero_next)
    ∙ ap (inlined_of (types_of (params t ps)) (type_of t ty)) (made.made t env z (λ v. st v ∙ ap (λ (w : Values). w v) (sym same_vars)))
    ∙ ap (λ l. inlined_of l (type_of t ty) (made_with (record { vars = made.vars; body = core_of t core }) s1.next)) (types_law t ps ∙ sym (types t))
    ∙ ap (λ r. inlined_of (types_in t ts) r (made_with (record { vars = made.vars; body = core_of t core }) s1.next)) (sym (result t))
    ∙ ap (λ l. inlined_of (types_in t ts) (type_in t out) (made_with (record { vars = l; body = core_of t core }) s1.next)) (sym (made.more ∙ ap (λ l. l ++ made.vars) no_before))
    ∙ ap (λ k. inlined_of (types_in t ts) (type_in t out) (made_with (record { vars = xs; body = core_of t core }) k)) (sym made_next)
