-- Each value of an expression has the expression's type.
use Rattle.std.proofs.Common.{◌≡◌, ℕ, true, cond, ◌&&◌, List, [], ◌∷◌, length, nat_eq, nat_lt, not, ◌||◌, ◌^◌, Some, refl, sym, ap, subst, ◌∙◌, arith}
use Rattle.std.proofs.lemmas.Bool.{and_parts, and_from, false≢true, eqb-true}
use Rattle.std.proofs.lemmas.List.{append-nil}
use Rattle.xq_base.specs.declared.fun.Fun.{Fun}
use Rattle.xq_base.specs.declared.fun.Fun.TheVariants as f
use Rattle.xq_base.specs.Answers.{Value}
use Rattle.xq_base.specs.Texts.{Text, text_eq, is_empty_text}
use Rattle.doc_table.specs.Tree.{DocumentNode, Label, OfDocument, OfElement, OfAttribute, OfText, OfComment, OfInstruction, Tree, Forest, Branch, no_more as childless, one_more as child, root_of, kind_of}
use Rattle.doc_table.specs.Spine.{is_text}
use Rattle.doc_table.specs.Sound.{sound_label, has_children, may_be_child, is_empty_forest, begins_with_text, is_sound, are_sound}
use Rattle.doc_table.specs.Identity.{BuiltTree}
use Rattle.doc_table.specs.Steps.{step_answer}
use Rattle.doc_table.specs.Axes.{kind_eq}
use Rattle.doc_table.specs.Items.{Item, IntItem, TextItem, UntypedItem, BoolItem, NodeItem}
use Rattle.doc_table.specs.Values.{Items, is_node, kind_of_item, cast_items}
use Rattle.doc_table.specs.Sequences.{bool_items}
use Rattle.doc_table.specs.NodeRules.{Docs}
use Rattle.core_meaning.specs.Types.{has_type as passes_type, if_type, converted}
use Rattle.core_meaning.specs.Expr.{Site, Rule, Apply, Walk, Make, IsOf, TreatAs, ConvertTo, CastTo, CastableTo, FailWith, Expr, Exprs, Spine, Lit, Empty, Var, Seq, Let, For, If, Sorted, Call, no_more, one_more, Leaf, ForBind, LetBind, WhereBind}
use Rattle.core_meaning.specs.Rules.{rule_answer, is_value, no_node_code}
use Rattle.core_meaning.specs.Sorting.{sorted_answer}
use Rattle.core_meaning.specs.Meaning.{Env, no_variables, with_var, in_loop, deeper, and_then, value_in, holds, val, vals, tuples}
use Rattle.core_meaning.specs.Lawful.{takes, how_many, is_boolean_call, are_boolean_calls, rule_fits, fits, fits_all, fits_in, all_differ, binders, nodes}
use Rattle.xq_types.specs.Types.{then_type, either_type, type_of_test}
use Rattle.xq_types.specs.Calls.{bool_type}
use Rattle.xq_types.specs.Typing.{TypeEnv, no_types, with_type, loop_types, step_type, treat_type, convert_type, cast_or_none, rule_type, where_type, type_of, types_of, type_in}
use Rattle.xq_types.proofs.Good.{Fits, nothing_fits, has_self, has_type, item_placed, may_stand_below, is_placed, are_placed}
use Rattle.xq_types.proofs.Forms.{Opt, Gives, EnvFits, env_with, loop_env, then_fits, left_fits, right_fits, then_opt, both_opt, chosen_opt, opt_weaker, value_opt, for_opt, kept_fits, dropped_fits, tuple_bodies, bodies_append, sorted_fits}
use Rattle.xq_types.proofs.Combine.{AllFit, any_one, fit_one, once_fits, once_bool}
use Rattle.xq_types.proofs.Lists.{cast_fits}
use Rattle.xq_types.proofs.NodeSets.{DocsPlaced}
use Rattle.xq_types.proofs.Functions.{Ready, fun_typed}
use Rattle.xq_types.proofs.Conversions.{treated, converted_fits}
use Rattle.xq_types.proofs.Walks.{step_fits}
use Rattle.xq_types.proofs.Builds.{make_fits}
use Rattle.doc_table.specs.DocumentTrees.{elements_among, text_among, has_document_form, is_document_tree}
use Rattle.doc_table.specs.Tree.{children_of}
use Rattle.xq_types.specs.Laws.{are_documents, ValuesHaveTheirTypes}

-- the types of the arguments
how_long : (types : TypeEnv) (es : Exprs) (vs : List Items) → AllFit (types_of types es) vs → how_many es ≡ length vs
how_long types no_more [] h = refl
how_long types no_more (v ∷ vs) h = absurd h
how_long types (one_more e es) [] h = absurd h
how_long types (one_more e es) (v ∷ vs) h = omega (arith, how_long types es vs h.1)

takes_so : (g : Fun) (es : Exprs) → rule_fits (Apply g) es ≡ true → takes g (how_many es) ≡ true
takes_so f.Or es h = (and_parts (nat_eq (how_many es) 2) (are_boolean_calls es) h).0
takes_so f.And es h = (and_parts (nat_eq (how_many es) 2) (are_boolean_calls es) h).0
takes_so g es h = h

boolean_type : (types : TypeEnv) (e : Expr) → is_boolean_call e ≡ true → type_of types e ≡ bool_type
boolean_type types (Call site (Apply f.Boolean) es) h = refl
boolean_type types _ h = absurd (false≢true h)

two_booleans : (types : TypeEnv) (es : Exprs) → nat_eq (how_many es) 2 && are_boolean_calls es ≡ true → types_of types es ≡ bool_type ∷ bool_type ∷ []
two_booleans types no_more h = absurd (false≢true h)
two_booleans types (one_more e no_more) h = absurd (false≢true h)
two_booleans types (one_more e (one_more d no_more)) h =
    let p = and_parts (is_boolean_call e) (is_boolean_call d && true) (and_parts (nat_eq (how_many (one_more e (one_more d no_more))) 2) (is_boolean_call e && (is_boolean_call d && true)) h).1 in
    ap (λ t. t ∷ type_of types d ∷ []) (boolean_type types e p.0) ∙ ap (λ t. bool_type ∷ t ∷ []) (boolean_type types d (and_parts (is_boolean_call d) true p.1).0)
two_booleans types (one_more e (one_more d (one_more b es))) h =
    absurd (omega (arith, eqb-true (how_many (one_more e (one_more d (one_more b es)))) 2 (and_parts (nat_eq (how_many (one_more e (one_more d (one_more b es)))) 2) (are_boolean_calls (one_more e (one_more d (one_more b es)))) h).0))

ready : (types : TypeEnv) (g : Fun) (es : Exprs) → rule_fits (Apply g) es ≡ true → Ready g (types_of types es)
ready types f.Or es h = two_booleans types es h
ready types f.And es h = two_booleans types es h
ready types _ es h = tt

rule_typed : (docs : Docs) → DocsPlaced docs → (types : TypeEnv) (site : Site) (vec : List ℕ) (r : Rule) (es : Exprs) (vs : List Items) → rule_fits r es ≡ true → AllFit (types_of types es) vs
    → Gives (Fits (rule_type r (types_of types es))) (rule_answer docs site vec r vs)
rule_typed docs d types site vec (Apply g) es vs n h = fun_typed docs d g (types_of types es) vs (subst (λ m. takes g m ≡ true) (how_long types es vs h) (takes_so g es n)) (ready types g es n) h
rule_typed docs d types site vec (Walk from axis test) es vs n h = fit_one (step_type axis test) (step_answer (no_node_code from) axis test) (types_of types es) vs h (λ t v f. step_fits (no_node_code from) axis test t v f)
rule_typed docs d types site vec (Make kind) es vs n h = make_fits (BuiltTree site.number vec) kind (types_of types es) vs h
rule_typed docs d types site vec (IsOf test) es vs n h = any_one (Fits bool_type) (λ v. Value (bool_items (passes_type test v))) vs (λ v. once_bool (passes_type test v))
rule_typed docs d types site vec (TreatAs test) es vs n h = fit_one (λ t. treat_type t (type_of_test test)) (if_type test _) (types_of types es) vs h (λ t v f. treated test _ t v f)
rule_typed docs d types site vec (ConvertTo test) es vs n h = fit_one (convert_type test) (converted test) (types_of types es) vs h (λ t v f. converted_fits test t v f)
rule_typed docs d types site vec (CastTo kind optional) es vs n h = fit_one (cast_or_none kind optional) (cast_items kind optional) (types_of types es) vs h (λ t v f. cast_fits kind optional t v f)
rule_typed docs d types site vec (CastableTo kind optional) es vs n h = any_one (Fits bool_type) (λ v. Value (bool_items (is_value (cast_items kind optional v)))) vs (λ v. once_bool (is_value (cast_items kind optional v)))
rule_typed docs d types site vec (FailWith code) es vs n h = tt

literal_placed : (v : Item Text) → not (is_node v) ≡ true → item_placed v ≡ true
literal_placed (NodeItem n) h = absurd (false≢true h)
literal_placed (IntItem z) h = refl
literal_placed (TextItem z) h = refl
literal_placed (UntypedItem z) h = refl
literal_placed (BoolItem z) h = refl

module _ (docs : Docs) (d : DocsPlaced docs) where
  mutual
    typed : (e : Expr) (vars : List ℕ) (types : TypeEnv) (env : Env) (vec : List ℕ) → fits vars e ≡ true → EnvFits types env → Opt (Fits (type_of types e)) (val docs e env vec)
    typed (Lit v) vars types env vec h g = once_fits (kind_of_item v) v (has_self (kind_of_item v), literal_placed v h)
    typed Empty vars types env vec h g = nothing_fits
    typed (Var x) vars types env vec h g = g x
    typed (Seq a b) vars types env vec h g =
        let p = and_parts (fits vars a) (fits vars b) h in
        both_opt (Fits (type_of types a)) (Fits (type_of types b)) (Fits (then_type (type_of types a) (type_of types b))) (val docs a env vec) (val docs b env vec) (typed a vars types env vec p.0 g) (typed b vars types env vec p.1 g)
        (λ x y fx fy. then_fits (type_of types a) (type_of types b) x y fx fy)
    typed (Let x b e) vars types env vec h g =
        let p = and_parts (fits vars b) (fits (x ∷ vars) e) h in
        then_opt (Fits (type_of types b)) (Fits (type_of (with_type types x (type_of types b)) e)) (val docs b env vec) (λ v. val docs e (with_var env x v) vec) (typed b vars types env vec p.0 g)
        (λ v fv. typed e (x ∷ vars) (with_type types x (type_of types b)) (with_var env x v) vec p.1 (env_with types env x (type_of types b) v g fv))
    typed (For x y s e) vars types env vec h g =
        let p = and_parts (fits vars s) (fits (x ∷ y ∷ vars) e) h in
        for_opt (λ vs. vs) refl (λ us vs. refl) (type_of types s) (type_of (loop_types x y (type_of types s) types) e) (val docs s env vec) (λ i v. val docs e (in_loop x y env i v) (deeper vec i)) (typed s vars types env vec p.0 g)
        (λ i v gv. typed e (x ∷ y ∷ vars) (loop_types x y (type_of types s) types) (in_loop x y env i v) (deeper vec i) p.1 (loop_env types env x y (type_of types s) i v g gv))
    typed (If t a b) vars types env vec h g =
        let p = and_parts (fits vars t && fits vars a) (fits vars b) h in
        let p' = and_parts (fits vars t) (fits vars a) p.0 in
        then_opt (Fits (type_of types t)) (Fits (either_type (type_of types a) (type_of types b))) (val docs t env vec) (λ v. cond (holds v) (val docs a env vec) (val docs b env vec)) (typed t vars types env vec p'.0 g)
        (λ v fv. chosen_opt (Fits (either_type (type_of types a) (type_of types b))) (holds v) (val docs a env vec) (val docs b env vec)
        (opt_weaker (Fits (type_of types a)) (Fits (either_type (type_of types a) (type_of types b))) (val docs a env vec) (λ x fx. left_fits (type_of types a) (type_of types b) x fx) (typed a vars types env vec p'.1 g))
        (opt_weaker (Fits (type_of types b)) (Fits (either_type (type_of types a) (type_of types b))) (val docs b env vec) (λ x fx. right_fits (type_of types a) (type_of types b) x fx) (typed b vars types env vec p.1 g)))
    typed (Sorted site os sp) vars types env vec h g =
        then_opt (λ ts. Fits (type_in types sp) (tuple_bodies ts)) (Fits (type_in types sp)) (tuples docs sp env vec) (λ ts. value_in (sorted_answer os ts)) (typed_in sp vars types env vec h g)
        (λ ts ft. value_opt (Fits (type_in types sp)) (sorted_answer os ts) (sorted_fits (type_in types sp) os ts ft))
    typed (Call site r es) vars types env vec h g =
        let p = and_parts (rule_fits r es) (fits_all vars es) h in
        then_opt (AllFit (types_of types es)) (Fits (rule_type r (types_of types es))) (vals docs es env vec) (λ vs. value_in (rule_answer docs site vec r vs)) (typed_all es vars types env vec p.1 g)
        (λ vs fv. value_opt (Fits (rule_type r (types_of types es))) (rule_answer docs site vec r vs) (rule_typed docs d types site vec r es vs p.0 fv))

    typed_all : (es : Exprs) (vars : List ℕ) (types : TypeEnv) (env : Env) (vec : List ℕ) → fits_all vars es ≡ true → EnvFits types env → Opt (AllFit (types_of types es)) (vals docs es env vec)
    typed_all no_more vars types env vec h g = tt
    typed_all (one_more e es) vars types env vec h g =
        let p = and_parts (fits vars e) (fits_all vars es) h in
        then_opt (Fits (type_of types e)) (AllFit (type_of types e ∷ types_of types es)) (val docs e env vec) (λ v. and_then (vals docs es env vec) (λ vs. Some (v ∷ vs))) (typed e vars types env vec p.0 g)
        (λ v fv. then_opt (AllFit (types_of types es)) (AllFit (type_of types e ∷ types_of types es)) (vals docs es env vec) (λ vs. Some (v ∷ vs)) (typed_all es vars types env vec p.1 g) (λ vs fvs. (fv, fvs)))

    typed_in : (sp : Spine) (vars : List ℕ) (types : TypeEnv) (env : Env) (vec : List ℕ) → fits_in vars sp ≡ true → EnvFits types env → Opt (λ ts. Fits (type_in types sp) (tuple_bodies ts)) (tuples docs sp env vec)
    typed_in (Leaf ks e) vars types env vec h g =
        let p = and_parts (fits_all vars ks) (fits vars e) h in
        then_opt (AllFit (types_of types ks)) (λ ts. Fits (type_of types e) (tuple_bodies ts)) (vals docs ks env vec) (λ vs. and_then (val docs e env vec) (λ v. Some (record { keys = vs; body = v } ∷ []))) (typed_all ks vars types env vec p.0 g)
        (λ vs fvs. then_opt (Fits (type_of types e)) (λ ts. Fits (type_of types e) (tuple_bodies ts)) (val docs e env vec) (λ v. Some (record { keys = vs; body = v } ∷ [])) (typed e vars types env vec p.1 g)
        (λ v fv. subst (Fits (type_of types e)) (sym (append-nil v)) fv))
    typed_in (ForBind x y s sp) vars types env vec h g =
        let p = and_parts (fits vars s) (fits_in (x ∷ y ∷ vars) sp) h in
        for_opt tuple_bodies refl bodies_append (type_of types s) (type_in (loop_types x y (type_of types s) types) sp) (val docs s env vec) (λ i v. tuples docs sp (in_loop x y env i v) (deeper vec i)) (typed s vars types env vec p.0 g)
        (λ i v gv. typed_in sp (x ∷ y ∷ vars) (loop_types x y (type_of types s) types) (in_loop x y env i v) (deeper vec i) p.1 (loop_env types env x y (type_of types s) i v g gv))
    typed_in (LetBind x b sp) vars types env vec h g =
        let p = and_parts (fits vars b) (fits_in (x ∷ vars) sp) h in
        then_opt (Fits (type_of types b)) (λ ts. Fits (type_in (with_type types x (type_of types b)) sp) (tuple_bodies ts)) (val docs b env vec) (λ v. tuples docs sp (with_var env x v) vec) (typed b vars types env vec p.0 g)
        (λ v fv. typed_in sp (x ∷ vars) (with_type types x (type_of types b)) (with_var env x v) vec p.1 (env_with types env x (type_of types b) v g fv))
    typed_in (WhereBind t sp) vars types env vec h g =
        let p = and_parts (fits vars t) (fits_in vars sp) h in
        then_opt (Fits (type_of types t)) (λ ts. Fits (where_type (type_in types sp)) (tuple_bodies ts)) (val docs t env vec) (λ v. cond (holds v) (tuples docs sp env vec) (Some [])) (typed t vars types env vec p.0 g)
        (λ v fv. chosen_opt (λ ts. Fits (where_type (type_in types sp)) (tuple_bodies ts)) (holds v) (tuples docs sp env vec) (Some [])
        (opt_weaker (λ ts. Fits (type_in types sp) (tuple_bodies ts)) (λ ts. Fits (where_type (type_in types sp)) (tuple_bodies ts)) (tuples docs sp env vec) (λ ts ft. kept_fits (type_in types sp) (tuple_bodies ts) ft) (typed_in sp vars types env vec p.1 g))
        (dropped_fits (type_in types sp)))

-- sound trees
child_stands : (l : Label Text) → may_be_child is_empty_text l ≡ true → may_stand_below l ≡ true
child_stands OfDocument h = absurd (false≢true h)
child_stands (OfElement n as') h = refl
child_stands (OfAttribute n v) h = absurd (false≢true h)
child_stands (OfText v) h = refl
child_stands (OfComment v) h = refl
child_stands (OfInstruction n v) h = refl

mutual
  sound_placed : (t : Tree Text) → is_sound text_eq is_empty_text t ≡ true → is_placed t ≡ true
  sound_placed (Branch l f) h =
      let a = and_parts (sound_label text_eq l && (has_children l || is_empty_forest f)) (are_sound text_eq is_empty_text f) h in
      let b = and_parts (sound_label text_eq l) (has_children l || is_empty_forest f) a.0 in
      and_from (has_children l || is_empty_forest f) (are_placed f) b.1 (all_placed f a.1)

  all_placed : (f : Forest Text) → are_sound text_eq is_empty_text f ≡ true → are_placed f ≡ true
  all_placed childless h = refl
  all_placed (child t ts) h =
      let a = and_parts (may_be_child is_empty_text (root_of t) && not (is_text (root_of t) && begins_with_text ts) && is_sound text_eq is_empty_text t) (are_sound text_eq is_empty_text ts) h in
      let b = and_parts (may_be_child is_empty_text (root_of t) && not (is_text (root_of t) && begins_with_text ts)) (is_sound text_eq is_empty_text t) a.0 in
      let d = and_parts (may_be_child is_empty_text (root_of t)) (not (is_text (root_of t) && begins_with_text ts)) b.0 in
      and_from (may_stand_below (root_of t)) (is_placed t && are_placed ts) (child_stands (root_of t) d.0) (and_from (is_placed t) (are_placed ts) (sound_placed t b.1) (all_placed ts a.1))

document_root : (l : Label Text) → kind_eq DocumentNode (kind_of l) ≡ true → l ≡ OfDocument
document_root OfDocument h = refl
document_root (OfElement n as') h = absurd (false≢true h)
document_root (OfAttribute n v) h = absurd (false≢true h)
document_root (OfText v) h = absurd (false≢true h)
document_root (OfComment v) h = absurd (false≢true h)
document_root (OfInstruction n v) h = absurd (false≢true h)

docs_placed : (docs : Docs) → are_documents docs ≡ true → DocsPlaced docs
docs_placed [] h = tt
docs_placed (d ∷ docs) h =
    let a = and_parts (is_document_tree text_eq is_empty_text d.1) (are_documents docs) h in
    let b = and_parts (is_sound text_eq is_empty_text d.1) (has_document_form d.1) a.0 in
    let f = and_parts (kind_eq DocumentNode (kind_of (root_of d.1)) && nat_eq (elements_among (children_of d.1)) 1) (not (text_among (children_of d.1))) b.1 in
    let g = and_parts (kind_eq DocumentNode (kind_of (root_of d.1))) (nat_eq (elements_among (children_of d.1)) 1) f.0 in
    ((document_root (root_of d.1) g.0, sound_placed d.1 b.0), docs_placed docs a.1)

pub values_have_their_types : ValuesHaveTheirTypes
values_have_their_types docs e vs d h v =
    let a = and_parts (all_differ (binders e) && fits [] e) (nat_lt (nodes e) (2 ^ 32)) h in
    has_type (type_of no_types e) vs (subst (Opt (Fits (type_of no_types e))) v (typed docs (docs_placed docs d) e [] no_types no_variables [] (and_parts (all_differ (binders e)) (fits [] e) a.0).1 (λ x. nothing_fits)))
