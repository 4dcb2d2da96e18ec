-- The sizes of functions that are found one by one.
use Rattle.std.proofs.Common.{◌≡◌, refl, sym, ap, ◌∙◌, subst, arith, ℕ, zero, suc, ◌+◌, true, false, is_some, List, [], ◌∷◌, ◌++◌, length, set, Option, Some, None, slice_get, add-zero}
use Rattle.std.proofs.lemmas.Bool.{both_ways}
use Rattle.xq_base.specs.declared.item.TextId.{TextId}
use Rattle.core_meaning.specs.Erasure.{Texts}
use Rattle.xq_ast.specs.declared.leaf.Name.{Name}
use Rattle.xq_ast.specs.declared.leaf.SeqType.{SeqType}
use Rattle.xq_ast.specs.declared.node.AsResolved.{AsResolved}
use Rattle.xq_ast.specs.declared.query.Declaration.TheVariants as declaration_
use Rattle.xq_ast.specs.declared.query.Param.{Param}
use Rattle.core_scope.specs.Erasure.{params_of}
use Rattle.core_scope.specs.Erasure as e
use Rattle.core_scope.specs.Leaves.{ResolvedTree, resolved_leaves, syn_resolved}
use Rattle.core_normal.specs.declared.sized.FunSize.{FunSize as HeldFun}
use Rattle.core_normal.specs.Counting.{size_of}
use Rattle.core_normal.specs.Ends.{Ends, FunEnds, Known, KnownAt}
use Rattle.core_normal.specs.Measuring as m
use Rattle.core_normal.specs.Measuring.{Declarations, declarations}
use Rattle.core_normal.specs.Order.{places, placed}
use Rattle.core_normal.specs.Query.{Function, functions, count}
use Rattle.core_normal.specs.Settling.{AreUnknown, IsSettled}
use Rattle.core_normal.specs.Sizes.{FunSize, converted}
use Rattle.core_normal.specs.Sized.{sized}
use Rattle.core_normal.specs.SizedQuery.{no_size, size_at, size_of_function, sizes_within}
use Rattle.core_normal.proofs.CountedTrees.{tree_ends}
use Rattle.core_normal.proofs.Tables.{typed_law, converted_ends}

-- an element of a list in which one was set
at_set : {X : Type 0} (xs : List X) (k : ℕ) (v : X) (j : ℕ) (P : Option X → Type 0) → P (slice_get xs j) → (k ≡ j → P (Some v)) → P (slice_get (set xs k v) j)
at_set [] k v j P p q = p
at_set (x ∷ xs) zero v zero P p q = q refl
at_set (x ∷ xs) zero v (suc j) P p q = p
at_set (x ∷ xs) (suc k) v zero P p q = p
at_set (x ∷ xs) (suc k) v (suc j) P p q = at_set xs k v j P p (λ r. q (ap suc r))

-- no size is known at first
pub unknown_more : (hs : List HeldFun) (h : HeldFun) → AreUnknown hs → h.body.is_known ≡ false → AreUnknown (hs ++ h ∷ [])
unknown_more [] h p q = (q, tt)
unknown_more (g ∷ hs) h p q = (p.0, unknown_more hs h p.1 q)

unknown_here : (h : HeldFun) (f : FunSize) → h.body.is_known ≡ false → FunEnds true h f
unknown_here h f p = record {
  typed = λ k. absurd (both_ways h.body.is_known p k);
  body = record { nodes = λ k. absurd (both_ways h.body.is_known p k); levels = λ k. absurd (both_ways h.body.is_known p k) };
}

none_at : (hs : List HeldFun) (k : ℕ) → AreUnknown hs → KnownAt true (slice_get hs k) no_size
none_at [] k p = refl
none_at (h ∷ hs) zero p = unknown_here h no_size p.0
none_at (h ∷ hs) (suc k) p = none_at hs k p.1

unknown_at : (hs : List HeldFun) (fs : List Function) (funs : ℕ → FunSize) (k : ℕ) → AreUnknown hs → length hs ≡ count fs → KnownAt true (slice_get hs k) (size_at funs fs k)
unknown_at [] [] funs k p q = refl
unknown_at [] (f ∷ fs) funs k p q = absurd (omega (arith, q))
unknown_at (h ∷ hs) [] funs k p q = absurd (omega (arith, q))
unknown_at (h ∷ hs) (f ∷ fs) funs zero p q = unknown_here h (size_of_function funs f) p.0
unknown_at (h ∷ hs) (f ∷ fs) funs (suc k) p q = unknown_at hs fs funs k p.1 (omega (arith, q))

unknown_within : (hs : List HeldFun) (fs : List Function) (n k : ℕ) → AreUnknown hs → length hs ≡ count fs → KnownAt true (slice_get hs k) (sizes_within n fs k)
unknown_within hs fs zero k p q = none_at hs k p
unknown_within hs fs (suc n) k p q = unknown_at hs fs (sizes_within n fs) k p q

-- where functions stand
module _ (t : Texts) where
  pub places_count : (i : ℕ) (ds : Declarations) → length (places i ds) ≡ count (functions (declarations t ds))
  places_count i [] = refl
  places_count i (declaration_.Var at x ty w ∷ ds) = places_count (i + 1) ds
  places_count i (declaration_.Fun at x ps ty w ∷ ds) = ap suc (places_count (i + 1) ds)

  abbrev function_of : List (Param ℕ SeqType) → Option SeqType → ResolvedTree → Function
  function_of ps ty w = record { params = params_of (resolved_leaves t) AsResolved ps; result = e.type_of (resolved_leaves t) ty; body = syn_resolved t w }

  -- a declaration at a place behind others is that function's
  at_place : (funs : ℕ → FunSize) (all ds : Declarations) (i k at : ℕ) (x : Name TextId) (ps : List (Param ℕ SeqType)) (ty : Option SeqType) (w : ResolvedTree) →
      ((j : ℕ) → slice_get all (i + j) ≡ slice_get ds j) → placed all (slice_get (places i ds) k) ≡ Some (declaration_.Fun at x ps ty w) →
      size_at funs (functions (declarations t ds)) k ≡ size_of_function funs (function_of ps ty w)
  at_place funs all [] i k at x ps ty w same p = absurd (none p)
    where
      none : {X : Type 0} {y : X} → None ≡ Some y → ⊥
      none q = cc
  at_place funs all (declaration_.Var a y u v ∷ ds) i k at x ps ty w same p = at_place funs all ds (i + 1) k at x ps ty w (λ j. ap (slice_get all) (step j) ∙ same (suc j)) p
    where
      step : (j : ℕ) → (i + 1) + j ≡ i + suc j
      step j = omega arith
  at_place funs all (declaration_.Fun a y us u v ∷ ds) i zero at x ps ty w same p =
      let first : slice_get all i ≡ Some (declaration_.Fun a y us u v) = ap (slice_get all) (sym (add-zero i)) ∙ same 0 in
      here (sym first ∙ p)
    where
      here : Some (declaration_.Fun a y us u v) ≡ Some (declaration_.Fun at x ps ty w) → size_of_function funs (function_of us u v) ≡ size_of_function funs (function_of ps ty w)
      here q =
          let sames : (us ≡ ps) × (u ≡ ty) × (v ≡ w) = (cc, cc, cc) in
          ap (λ z. size_of_function funs (function_of z u v)) sames.0 ∙ ap (λ z. size_of_function funs (function_of ps z v)) sames.1 ∙ ap (λ z. size_of_function funs (function_of ps ty z)) sames.2
  at_place funs all (declaration_.Fun a y us u v ∷ ds) i (suc k) at x ps ty w same p = at_place funs all ds (i + 1) k at x ps ty w (λ j. ap (slice_get all) (step j) ∙ same (suc j)) p
    where
      step : (j : ℕ) → (i + 1) + j ≡ i + suc j
      step j = omega arith

  -- none known at first, and one more found
  pub none_settled : (ds : Declarations) (table : List HeldFun) → AreUnknown table → length table ≡ length (places 0 ds) → IsSettled t ds 0 table
  none_settled ds table p q n h = record { at_number = λ k. unknown_within table (functions (declarations t ds)) n k p (q ∙ places_count 0 ds) }

  pub still_settled : (ds : Declarations) (n : ℕ) (table : List HeldFun) → IsSettled t ds n table → IsSettled t ds (n + 1) table
  still_settled ds n table p i h = p i (omega (arith, h))

  module _ (ds : Declarations) (table : List HeldFun) (k at : ℕ) (x : Name TextId) (ps : List (Param ℕ SeqType)) (ty : Option SeqType) (w : ResolvedTree) (h : HeldFun)
      (there : placed ds (slice_get (places 0 ds) k) ≡ Some (declaration_.Fun at x ps ty w)) (typed : h.typed.items ≡ m.typed ps) (body : h.body ≡ m.converted (is_some ty) (size_of table w)) where
    found_here : (n : ℕ) → Known true table (sizes_within n (functions (declarations t ds))) → FunEnds true h (sizes_within (suc n) (functions (declarations t ds)) k)
    found_here n known =
        let funs = sizes_within n (functions (declarations t ds)) in
        subst (λ f. FunEnds true h f) (sym (at_place funs ds ds 0 k at x ps ty w (λ j. ap (slice_get ds) (zero_more j)) there))
        (record {
          typed = λ _. typed ∙ typed_law t ps;
          body = subst (λ u. Ends true u (converted (e.type_of (resolved_leaves t) ty) (sized funs (syn_resolved t w)))) (sym body) (converted_ends t ty (tree_ends true table funs t known w));
        })
      where
        zero_more : (j : ℕ) → 0 + j ≡ j
        zero_more j = omega arith

    found_at : (n : ℕ) → Known true table (sizes_within n (functions (declarations t ds))) → Known true table (sizes_within (suc n) (functions (declarations t ds))) →
        Known true (set table k h) (sizes_within (suc n) (functions (declarations t ds)))
    found_at n before known = record {
      at_number = λ j.
          at_set table k h j (λ o. KnownAt true o (sizes_within (suc n) (functions (declarations t ds)) j)) (known.at_number j)
          (λ same. subst (λ i. FunEnds true h (sizes_within (suc n) (functions (declarations t ds)) i)) same (found_here n before));
    }

    pub one_settled : (n : ℕ) → IsSettled t ds n table → IsSettled t ds (n + 1) (set table k h)
    one_settled n p zero h' = absurd (omega (arith, h'))
    one_settled n p (suc i) h' = found_at i (p i (omega (arith, h'))) (p (suc i) (omega (arith, h')))
