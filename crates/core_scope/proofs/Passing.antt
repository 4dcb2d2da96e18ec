-- What is gathered from declarations is what is told of them.
use Rattle.std.proofs.Common.{◌≡◌, refl, sym, ap, ◌∙◌, ℕ, ◌+◌, ◌≤◌, suc, Bool, length, arith, map, List, [], ◌∷◌, ◌++◌, Option, Some, None}
use Rattle.xq_base.specs.declared.code.Code.TheVariants as code
use Rattle.xq_base.specs.Texts.{Text}
use Rattle.xq_ast.specs.declared.leaf.Name.{Name}
use Rattle.xq_ast.specs.declared.leaf.Variable.{Variable}
use Rattle.xq_ast.specs.declared.leaf.ReadType.{ReadType}
use Rattle.xq_ast.specs.declared.node.AsRead.{AsRead}
use Rattle.xq_ast.specs.declared.query.Declaration.TheVariants as declaration_
use Rattle.xq_ast.specs.Trees.{Tree, Declaration, Param}
use Rattle.core_scope.specs.Syn.{Params, read, how_many_params}
use Rattle.core_scope.specs.Syn as s
use Rattle.core_scope.specs.Erasure as e
use Rattle.core_scope.specs.Leaves.{read_leaves, syn_read}
use Rattle.core_scope.specs.declared.found.DeclaredCall.{DeclaredCall}
use Rattle.core_scope.specs.Names.{Scope, Signature, with_name, no_names, is_among, is_there, is_taken}
use Rattle.core_scope.specs.Walk.{Facts, ◌with◌, amiss_where, bind_type_facts, walk}
use Rattle.core_scope.specs.Prolog as prolog
use Rattle.core_scope.specs.Prolog.{Told, of_function, of_variable, signature_of, with_params, param_facts}
use Rattle.core_scope.specs.Open.{Open, left_to, local_at, global_at, entered, entered_variable}
use Rattle.core_scope.specs.Kept.{Kept, only_first, after}
use Rattle.core_scope.specs.Telling.{told}
use Rattle.core_scope.specs.Gathering.{Gathered, with_function, with_variable, gather, gather_all, told_params, entered_params, Passed, signature_at, told_function, told_variable, passed, passed_all}
use Rattle.core_scope.proofs.Opening.{left_entered, left_here, more_outer}
use Rattle.core_scope.proofs.Keeping.{after_with, after_nothing}
use Rattle.core_scope.proofs.Told.{types_law, back, seen_more}

abbrev pub params : List Param → Params read
params xs = e.params_of read_leaves AsRead xs

how_many_law : (xs : List Param) → how_many_params (params xs) ≡ length xs
how_many_law [] = refl
how_many_law (x ∷ xs) = ap suc (how_many_law xs)

pub params_scope : (xs : List Param) (w : Open) → with_params (params xs) w.scope ≡ (entered_params xs w).scope
params_scope [] w = refl
params_scope (x ∷ xs) w = params_scope xs (entered_variable x.var w)

left_params_to : (m : ℕ) (xs : List Param) (w : Open) → m ≤ length w.outer → left_to m (entered_params xs w) ≡ left_to m w
left_params_to m [] w h = refl
left_params_to m (x ∷ xs) w h =
    left_params_to m xs (entered_variable x.var w) (more_outer m x.var.name.text (local_at x.var.offset) w h) ∙ left_entered m x.var.name.text (local_at x.var.offset) w h

pub left_params : (xs : List Param) (w : Open) → left_to (length w.outer) (entered_params xs w) ≡ w
left_params xs w = left_params_to (length w.outer) xs w (omega arith) ∙ left_here w

params_law : (xs : List Param) (before : List Text) (seen : Scope) (k : Kept) → ((y : Text) → is_among before y ≡ is_there (seen y)) →
    after k (param_facts (params xs) before) ≡ told_params xs seen k
params_law [] before seen k same = after_nothing k
params_law (x ∷ xs) before seen k same =
    let first : Facts = amiss_where (is_among before x.var.name.text) code.XQST0039 x.var.offset in
    let ty : Facts = bind_type_facts (e.type_of read_leaves x.ty) in
    let rest : Facts = param_facts (params xs) (x.var.name.text ∷ before) in
    after_with k first (ty with rest) ∙ after_with (after k first) ty rest
    ∙ ap (λ b. after (after (after k (amiss_where b code.XQST0039 x.var.offset)) ty) rest) (same x.var.name.text)
    ∙ ap (λ t. after (after (after k (amiss_where (is_there (seen x.var.name.text)) code.XQST0039 x.var.offset)) (bind_type_facts t)) (param_facts (params xs) (x.var.name.text ∷ before))) (types_law x.ty)
    ∙ params_law xs (x.var.name.text ∷ before) (with_name x.var.name.text (Some (local_at x.var.offset)) seen)
    (after (after k (amiss_where (is_there (seen x.var.name.text)) code.XQST0039 x.var.offset)) (bind_type_facts x.ty)) (λ y. seen_more before seen x.var.name.text (local_at x.var.offset) y (same y))

pub signature_law : (n : Name Text) (xs : List Param) → signature_of n.text (params xs) ≡ signature_at n xs
signature_law n xs = ap (λ m. record { name = (signature_at n xs).name; arity = m }) (how_many_law xs)

abbrev pub declarations : List Declaration → List (s.Declaration read)
declarations = map (e.declaration_of read_leaves AsRead)

pub length_more : (xs : List (List DeclaredCall)) (x : List DeclaredCall) → length (xs ++ x ∷ []) ≡ suc (length xs)
length_more [] x = refl
length_more (y ∷ ys) x = ap suc (length_more ys x)

module _ (fs : List Signature) where
  abbrev function_facts : List Signature → Name Text → List Param → Option ReadType → Tree → Scope → Facts
  function_facts before n xs ty e' sc =
      amiss_where (is_taken before n.text (how_many_params (params xs))) code.XQST0034 n.offset with param_facts (params xs) [] with bind_type_facts (e.type_of read_leaves ty)
      with walk fs (syn_read e') (with_params (params xs) sc)

  function_law : (before : List Signature) (n : Name Text) (xs : List Param) (ty : Option ReadType) (x : Tree) (w : Open) (k : Kept) →
      after k (function_facts before n xs ty x w.scope) ≡ told_function fs before n xs ty x w k
  function_law before n xs ty x w k =
      let first : Facts = amiss_where (is_taken before n.text (how_many_params (params xs))) code.XQST0034 n.offset in
      let given : Facts = param_facts (params xs) [] in
      let result : Facts = bind_type_facts (e.type_of read_leaves ty) in
      let body : Facts = walk fs (syn_read x) (with_params (params xs) w.scope) in
      after_with k first (given with result with body) ∙ after_with (after k first) given (result with body) ∙ after_with (after (after k first) given) result body
      ∙ ap (λ m. after (after (after (after k (amiss_where (is_taken before n.text m) code.XQST0034 n.offset)) (param_facts (params xs) [])) (bind_type_facts (e.type_of read_leaves ty))) (walk fs (syn_read x) (with_params (params xs) w.scope))) (how_many_law xs)
      ∙ ap (λ z. after (after z (bind_type_facts (e.type_of read_leaves ty))) (walk fs (syn_read x) (with_params (params xs) w.scope))) (params_law xs [] no_names (after k (amiss_where (is_taken before n.text (length xs)) code.XQST0034 n.offset)) (λ y. refl))
      ∙ ap (λ t. after (after (told_params xs no_names (after k (amiss_where (is_taken before n.text (length xs)) code.XQST0034 n.offset))) (bind_type_facts t)) (walk fs (syn_read x) (with_params (params xs) w.scope))) (types_law ty)
      ∙ ap (λ sc. after (after (told_params xs no_names (after k (amiss_where (is_taken before n.text (length xs)) code.XQST0034 n.offset))) (bind_type_facts ty)) (walk fs (syn_read x) sc)) (params_scope xs w)
      ∙ back fs x (entered_params xs w) (after (told_params xs no_names (after k (amiss_where (is_taken before n.text (length xs)) code.XQST0034 n.offset))) (bind_type_facts ty))

  abbrev variable_facts : List Text → Variable (Name Text) → Option ReadType → Tree → Scope → Facts
  variable_facts names v ty x sc =
      amiss_where (is_among names v.name.text) code.XQST0049 v.offset with bind_type_facts (e.type_of read_leaves ty) with walk fs (syn_read x) sc

  variable_law : (names : List Text) (v : Variable (Name Text)) (ty : Option ReadType) (x : Tree) (w : Open) (k : Kept) → is_among names v.name.text ≡ is_there (w.scope v.name.text) →
      after k (variable_facts names v ty x w.scope) ≡ told_variable fs v ty x w k
  variable_law names v ty x w k same =
      let first : Facts = amiss_where (is_among names v.name.text) code.XQST0049 v.offset in
      let given : Facts = bind_type_facts (e.type_of read_leaves ty) in
      let body : Facts = walk fs (syn_read x) w.scope in
      after_with k first (given with body) ∙ after_with (after k first) given body
      ∙ ap (λ b. after (after (after k (amiss_where b code.XQST0049 v.offset)) (bind_type_facts (e.type_of read_leaves ty))) (walk fs (syn_read x) w.scope)) same
      ∙ ap (λ t. after (after (after k (amiss_where (is_there (w.scope v.name.text)) code.XQST0049 v.offset)) (bind_type_facts t)) (walk fs (syn_read x) w.scope)) (types_law ty)
      ∙ back fs x w (after (after k (amiss_where (is_there (w.scope v.name.text)) code.XQST0049 v.offset)) (bind_type_facts ty))

  pub gathered_law : (ds : List Declaration) (before : List Signature) (names : List Text) (w : Open) (g : Gathered) → ((y : Text) → is_among names y ≡ is_there (w.scope y)) →
      (passed_all fs ds (record { before = before; open' = w; gathered = g })).gathered ≡ gather_all (prolog.told fs (declarations ds) before names (length g.variables) w.scope) g
  gathered_law [] before names w g same = refl
  gathered_law (declaration_.Fun at n xs ty x ∷ ds) before names w g same =
      let k : Kept = told_function fs before n xs ty x w (only_first g.first) in
      gathered_law ds (before ++ signature_at n xs ∷ []) names w (with_function at k g) same
      ∙ ap (λ z. gather_all (prolog.told fs (declarations ds) (before ++ z ∷ []) names (length g.variables) w.scope) (with_function at k g)) (sym (signature_law n xs))
      ∙ ap (λ z. gather_all (prolog.told fs (declarations ds) (before ++ signature_of n.text (params xs) ∷ []) names (length g.variables) w.scope) (with_function at z g)) (sym (function_law before n xs ty x w (only_first g.first)))
  gathered_law (declaration_.Var at v ty x ∷ ds) before names w g same =
      let k : Kept = told_variable fs v ty x w (only_first g.first) in
      let j : ℕ = length g.variables in
      gathered_law ds before (v.name.text ∷ names) (entered v.name.text (global_at v.offset j) w) (with_variable k g) (λ y. seen_more names w.scope v.name.text (global_at v.offset j) y (same y))
      ∙ ap (λ m. gather_all (prolog.told fs (declarations ds) before (v.name.text ∷ names) m ((entered v.name.text (global_at v.offset j) w).scope)) (with_variable k g)) (length_more g.variables k.calls)
      ∙ ap (λ z. gather_all (prolog.told fs (declarations ds) before (v.name.text ∷ names) (suc j) ((entered v.name.text (global_at v.offset j) w).scope)) (with_variable z g)) (sym (variable_law names v ty x w (only_first g.first) (same v.name.text)))

  -- the steps of the code over a function
  pub function_found : (before : List Signature) (n : Name Text) (xs : List Param) (ty : Option ReadType) (x : Tree) (w a : Open) (k p q r l : Kept) (taken : Bool) →
      taken ≡ is_taken before n.text (length xs) → p ≡ after k (amiss_where taken code.XQST0034 n.offset) → q ≡ told_params xs no_names p → a ≡ entered_params xs w →
      r ≡ after q (bind_type_facts ty) → l ≡ told fs x a r → l ≡ told_function fs before n xs ty x w k
  function_found before n xs ty x w a k p q r l taken te pe qe ae re le =
      le ∙ ap (told fs x a) re ∙ ap (λ z. told fs x z (after q (bind_type_facts ty))) ae
      ∙ ap (λ z. told fs x (entered_params xs w) (after z (bind_type_facts ty)))
      (qe ∙ ap (told_params xs no_names) (pe ∙ ap (λ z. after k (amiss_where z code.XQST0034 n.offset)) te))

pub params_names : (xs : List Param) (w a b v : Open) (m : ℕ) → m ≡ length w.outer → a ≡ entered_params xs w → b ≡ a → v ≡ left_to m b → v ≡ w
params_names xs w a b v m me ae be ve =
    ve ∙ ap (left_to m) (be ∙ ae) ∙ ap (λ z. left_to z (entered_params xs w)) me ∙ left_params xs w
