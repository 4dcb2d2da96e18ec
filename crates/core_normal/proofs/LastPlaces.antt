-- Places of levels, signs and paths.
use Rattle.std.proofs.Common.{◌≡◌, refl, sym, ◌∙◌, ap, ℕ, List, [], ◌∷◌}
use Rattle.xq_base.specs.declared.axis.Axis.{Axis}
use Rattle.xq_base.specs.declared.item.TextId.{TextId}
use Rattle.xq_base.specs.Texts.{Text}
use Rattle.xq_ast.specs.declared.leaf.Test.{Test}
use Rattle.xq_ast.specs.declared.node.Behind.{Behind}
use Rattle.xq_ast.specs.declared.node.Right.{Right}
use Rattle.xq_ast.specs.declared.node.Signed.{Signed}
use Rattle.xq_ast.specs.declared.node.Start.{Start}
use Rattle.xq_ast.specs.declared.node.Start.TheVariants as start_
use Rattle.xq_ast.specs.declared.node.Step.{Step}
use Rattle.xq_ast.specs.declared.node.StepKind.{StepKind}
use Rattle.xq_ast.specs.declared.node.StepKind.TheVariants as step_
use Rattle.xq_ast.specs.declared.node.Node.TheVariants as n
use Rattle.core_scope.specs.Syn.{Syn, resolved, place_of}
use Rattle.core_scope.specs.Syn as s
use Rattle.core_scope.specs.Erasure.{all_below, behind_of, start_of, with_predicates, with_signs}
use Rattle.core_scope.specs.Leaves.{ResolvedTree, syn_resolved}
use Rattle.core_normal.specs.Trees.{rights, step, behinds, syns}
use Rattle.core_normal.specs.LastPlace.{last_place, level_place, signed_place, filtered_place}
use Rattle.core_normal.proofs.Forms.{syn_chain, syn_path, syn_signed}

pub rights_place : (t : List Text) (i : ℕ) (a : Syn resolved) (bs : List (Right ResolvedTree)) → place_of a ≡ i → place_of (rights t i a bs) ≡ i
rights_place t i a [] p = p
rights_place t i a (b ∷ bs) p = rights_place t i (s.binary i b.operator a (syn_resolved t b.operand)) bs refl

at_kind : (t : List Text) (m : Syn resolved) (x : Step TextId ResolvedTree) (k : StepKind TextId ResolvedTree) → x.kind ≡ k → place_of (step t (s.present m) x) ≡ x.offset
at_kind t m x (step_.Walk a test) q = rw q refl
at_kind t m x (step_.Primary e) q = rw q refl

-- a step behind something has its own place
pub behind_place : (t : List Text) (m : Syn resolved) (x : Step TextId ResolvedTree) → place_of (step t (s.present m) x) ≡ x.offset
behind_place t m x = at_kind t m x x.kind refl

pub behinds_place : (t : List Text) (a : Syn resolved) (bs : List (Behind TextId ResolvedTree)) → place_of (behinds t a bs) ≡ last_place (place_of a) bs
behinds_place t a [] = refl
behinds_place t a (b ∷ bs) =
    behinds_place t (step t (s.present (behind_of b.slashes a)) b.step) bs ∙ ap (λ o. last_place o bs) (behind_place t (behind_of b.slashes a) b.step)

level_at : (t : List Text) (o : ℕ) (a : Syn resolved) (bs : List (Right ResolvedTree)) → place_of (rights t o a bs) ≡ level_place o bs (place_of a)
level_at t o a [] = refl
level_at t o a (b ∷ bs) = rights_place t o (s.binary o b.operator a (syn_resolved t b.operand)) bs refl

pub chain_place : (t : List Text) (e a v : ResolvedTree) (o x y : ℕ) (bs ls : List (Right ResolvedTree)) →
    e ≡ n.Chain o a bs → v ≡ a → ls ≡ bs → x ≡ place_of (syn_resolved t v) → y ≡ level_place o ls x → y ≡ place_of (syn_resolved t e)
chain_place t e a v o x y bs ls p g l q r =
    r ∙ ap (λ u. level_place o u x) l ∙ ap (level_place o bs) q ∙ ap (λ d. level_place o bs (place_of (syn_resolved t d))) g ∙ sym (level_at t o (syn_resolved t a) bs) ∙ ap place_of (sym (syn_chain t o a bs)) ∙ ap (λ d. place_of (syn_resolved t d)) (sym p)

signs_at : (xs : List Signed) (a : Syn resolved) → place_of (with_signs xs a) ≡ signed_place xs (place_of a)
signs_at [] a = refl
signs_at (x ∷ xs) a = refl

pub signs_place : (t : List Text) (e a v : ResolvedTree) (o x y : ℕ) (xs ls : List Signed) →
    e ≡ n.Signed o xs a → v ≡ a → ls ≡ xs → x ≡ place_of (syn_resolved t v) → y ≡ signed_place ls x → y ≡ place_of (syn_resolved t e)
signs_place t e a v o x y xs ls p g l q r =
    r ∙ ap (λ u. signed_place u x) l ∙ ap (signed_place xs) q ∙ ap (λ d. signed_place xs (place_of (syn_resolved t d))) g ∙ sym (signs_at xs (syn_resolved t a)) ∙ ap place_of (sym (syn_signed t o xs a)) ∙ ap (λ d. place_of (syn_resolved t d)) (sym p)

filtered_at : (t : List Text) (o : ℕ) (a : Syn resolved) (ps : List ResolvedTree) → place_of (with_predicates o a (syns t ps)) ≡ filtered_place o ps (place_of a)
filtered_at t o a [] = refl
filtered_at t o a (q ∷ qs) = refl

-- a path by the place of its first step
path_at : (t : List Text) (e : ResolvedTree) (w : Start) (x : Step TextId ResolvedTree) (bs ls : List (Behind TextId ResolvedTree)) (o y : ℕ) →
    e ≡ n.Path w x bs → ls ≡ bs → place_of (step t (start_of w) x) ≡ o → y ≡ last_place o ls → y ≡ place_of (syn_resolved t e)
path_at t e w x bs ls o y p l q r =
    r ∙ ap (last_place o) l ∙ ap (λ u. last_place u bs) (sym q) ∙ sym (behinds_place t (step t (start_of w) x) bs) ∙ ap place_of (sym (syn_path t w x bs)) ∙ ap (λ d. place_of (syn_resolved t d)) (sym p)

walk_at : (t : List Text) (w : Start) (x : Step TextId ResolvedTree) (a : Axis) (test : Test TextId) → w ≡ start_.Here → x.kind ≡ step_.Walk a test → place_of (step t (start_of w) x) ≡ x.offset
walk_at t w x a test p k = rw (p, k) refl

pub walk_place : (t : List Text) (e : ResolvedTree) (w : Start) (x : Step TextId ResolvedTree) (bs ls : List (Behind TextId ResolvedTree)) (a : Axis) (test : Test TextId) (y : ℕ) →
    e ≡ n.Path w x bs → ls ≡ bs → w ≡ start_.Here → x.kind ≡ step_.Walk a test → y ≡ last_place x.offset ls → y ≡ place_of (syn_resolved t e)
walk_place t e w x bs ls a test y p l h k r = path_at t e w x bs ls x.offset y p l (walk_at t w x a test h k) r

primary_at : (t : List Text) (w : Start) (x : Step TextId ResolvedTree) (m : ResolvedTree) → w ≡ start_.Here → x.kind ≡ step_.Primary m →
    place_of (step t (start_of w) x) ≡ filtered_place x.offset x.predicates (place_of (syn_resolved t m))
primary_at t w x m p k = rw (p, k) (filtered_at t x.offset (syn_resolved t m) x.predicates)

pub primary_place : (t : List Text) (e m v : ResolvedTree) (w : Start) (x : Step TextId ResolvedTree) (ps : List ResolvedTree) (bs ls : List (Behind TextId ResolvedTree)) (i o y : ℕ) →
    e ≡ n.Path w x bs → ls ≡ bs → w ≡ start_.Here → x.kind ≡ step_.Primary m → v ≡ m → ps ≡ x.predicates →
    i ≡ place_of (syn_resolved t v) → o ≡ filtered_place x.offset ps i → y ≡ last_place o ls → y ≡ place_of (syn_resolved t e)
primary_place t e m v w x ps bs ls i o y p l h k g f q z r =
    path_at t e w x bs ls o y p l
    (primary_at t w x m h k ∙ ap (λ d. filtered_place x.offset x.predicates (place_of (syn_resolved t d))) (sym g)
    ∙ ap (filtered_place x.offset x.predicates) (sym q) ∙ ap (λ u. filtered_place x.offset u i) (sym f) ∙ sym z) r

rooted_at : (t : List Text) (w : Start) (i : ℕ) (x : Step TextId ResolvedTree) → w ≡ start_.Root i → place_of (step t (start_of w) x) ≡ x.offset
rooted_at t w i x p = rw p (behind_place t (s.root i) x)

pub rooted_place : (t : List Text) (e : ResolvedTree) (w : Start) (i : ℕ) (x : Step TextId ResolvedTree) (bs ls : List (Behind TextId ResolvedTree)) (y : ℕ) →
    e ≡ n.Path w x bs → ls ≡ bs → w ≡ start_.Root i → y ≡ last_place x.offset ls → y ≡ place_of (syn_resolved t e)
rooted_place t e w i x bs ls y p l h r = path_at t e w x bs ls x.offset y p l (rooted_at t w i x h) r

deep_at : (t : List Text) (w : Start) (i : ℕ) (x : Step TextId ResolvedTree) → w ≡ start_.Deep i → place_of (step t (start_of w) x) ≡ x.offset
deep_at t w i x p = rw p (behind_place t (all_below i (s.root i)) x)

pub deep_place : (t : List Text) (e : ResolvedTree) (w : Start) (i : ℕ) (x : Step TextId ResolvedTree) (bs ls : List (Behind TextId ResolvedTree)) (y : ℕ) →
    e ≡ n.Path w x bs → ls ≡ bs → w ≡ start_.Deep i → y ≡ last_place x.offset ls → y ≡ place_of (syn_resolved t e)
deep_place t e w i x bs ls y p l h r = path_at t e w x bs ls x.offset y p l (deep_at t w i x h) r
