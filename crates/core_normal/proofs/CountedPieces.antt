-- What the code finds of pieces is their size, ended.
use Rattle.std.proofs.Common.{◌≡◌, refl, sym, ap, ◌∙◌, subst, arith, ℕ, ◌+◌, ◌-◌, ◌^◌, min, max, ◌&&◌, Bool, true, false, cond, Option, Some, None, is_some}
use Rattle.xq_base.specs.declared.axis.Axis.{Axis}
use Rattle.xq_ast.specs.declared.leaf.Operator.{Operator}
use Rattle.xq_ast.specs.declared.leaf.SeqType.{SeqType}
use Rattle.xq_ast.specs.declared.leaf.Sign.{Sign}
use Rattle.xq_ast.specs.declared.leaf.Sign.TheVariants as sign
use Rattle.core_meaning.specs.Erasure.{Texts}
use Rattle.core_scope.specs.Erasure as e
use Rattle.core_scope.specs.Leaves.{resolved_leaves}
use Rattle.core_normal.specs.declared.sizes.Size.{Size as Held}
use Rattle.core_normal.specs.declared.sizes.Round.{Round}
use Rattle.core_normal.specs.Pieces.{is_logical, is_reverse}
use Rattle.core_normal.specs.Sizes.{Size, nothing, leaf, over, beside, one, two, three, boolean, choice, root, test, text_node, selected, for_each_node, operand, signed_size, counted, tested, tested_bind}
use Rattle.core_normal.specs.Counting as z
use Rattle.core_normal.specs.Ends.{Ends, is_told}

abbrev size_as : ℕ → ℕ → Size
size_as a b = record { nodes = a; levels = b }

same : (a b c d : ℕ) → a ≡ c → b ≡ d → size_as a b ≡ size_as c d
same a b c d p q = rw (p, q) refl

pub alone : (a : Size) → beside a nothing ≡ a
alone a = same _ _ _ _ (omega arith) (omega arith)

pub alone_behind : (a : Size) → beside nothing a ≡ a
alone_behind a = same _ _ _ _ (omega arith) (omega arith)

pub beside_later : (a b d : Size) → beside (beside a b) d ≡ beside a (beside b d)
beside_later a b d = same _ _ _ _ (omega arith) (omega arith)

sum : (m a b x y : ℕ) → a ≡ min x m → b ≡ min y m → min (a + b) m ≡ min (x + y) m
sum m a b x y p q = omega (arith, p, q)

top : (m a b x y : ℕ) → a ≡ min x m → b ≡ min y m → max a b ≡ min (max x y) m
top m a b x y p q = omega (arith, p, q)

first_told : (must a b : Bool) → is_told must (a && b) ≡ true → is_told must a ≡ true
first_told true true b e = refl
first_told true false b e = e
first_told false a b e = refl

pub later_told : (must a b : Bool) → is_told must (a && b) ≡ true → is_told must b ≡ true
later_told true true b e = e
later_told true false b e = cc
later_told false a b e = refl

abbrev held_as : ℕ → ℕ → Bool → Held
held_as a b k = record { nodes = a; levels = b; is_known = k }

same_held : (a b c d : ℕ) (k l : Bool) → a ≡ c → b ≡ d → k ≡ l → held_as a b k ≡ held_as c d l
same_held a b c d k l p q r = rw (p, q, r) refl

both_later : (a b d : Bool) → (a && b) && d ≡ a && (b && d)
both_later true b d = refl
both_later false b d = refl

plus_later : (m a b c : ℕ) → min (min (a + b) m + c) m ≡ min (a + min (b + c) m) m
plus_later m a b c = omega arith

plus_one : (m a b c : ℕ) → min (min (min (a + b) m + 1) m + c) m ≡ min (a + min (min (b + c) m + 1) m) m
plus_one m a b c = omega arith

levels_under : (m l d g h : ℕ) → max (max l (min (min (d + 1) m + g) m)) (min (min (d + 1) m + h) m) ≡ max l (min (d + min (max g h + 1) m) m)
levels_under m l d g h = omega arith

levels_next : (m l d g h : ℕ) → max (max l (min (d + g) m)) (min (d + h) m) ≡ max l (min (d + max g h) m)
levels_next m l d g h = omega arith

under_filled : (r : Round) (g h : Held) → z.filled (z.under r g) h ≡ z.filled r (z.node g h)
under_filled r g h =
    same_held _ _ _ _ _ _ (plus_one (2 ^ 64 - 1) r.nodes g.nodes h.nodes) (levels_under (2 ^ 64 - 1) r.levels r.depth g.levels h.levels) (both_later r.is_known g.is_known h.is_known)

next_filled : (r : Round) (g h : Held) → z.filled (z.next_to r g) h ≡ z.filled r (z.beside g h)
next_filled r g h =
    same_held _ _ _ _ _ _ (plus_later (2 ^ 64 - 1) r.nodes g.nodes h.nodes) (levels_next (2 ^ 64 - 1) r.levels r.depth g.levels h.levels) (both_later r.is_known g.is_known h.is_known)

bare_nodes : (m h a : ℕ) → h ≡ min a m → min (0 + h) m ≡ min a m
bare_nodes m h a p = omega (arith, p)

bare_levels : (m h a : ℕ) → h ≡ min a m → max 0 (min (0 + h) m) ≡ min a m
bare_levels m h a p = omega (arith, p)

-- a part within what stands round it
pub record Fills (must : Bool) (r : Round) (f : Size → Size) : Type 0 where
  pub fill : (h : Held) (a : Size) → Ends must h a → Ends must (z.filled r h) (f a)

module _ {must : Bool} where
  pub beside_ends : {h g : Held} {a b : Size} → Ends must h a → Ends must g b → Ends must (z.beside h g) (beside a b)
  beside_ends {h} {g} {a} {b} p q = record {
    nodes = λ e. sum (2 ^ 64 - 1) h.nodes g.nodes a.nodes b.nodes (p.nodes (first_told must h.is_known g.is_known e)) (q.nodes (later_told must h.is_known g.is_known e));
    levels = λ e. top (2 ^ 64 - 1) h.levels g.levels a.levels b.levels (p.levels (first_told must h.is_known g.is_known e)) (q.levels (later_told must h.is_known g.is_known e));
  }

  pub over_ends : {h : Held} {a : Size} → Ends must h a → Ends must (z.over h) (over a)
  over_ends {h} {a} p = record {
    nodes = λ e. sum (2 ^ 64 - 1) h.nodes 1 a.nodes 1 (p.nodes e) refl;
    levels = λ e. sum (2 ^ 64 - 1) h.levels 1 a.levels 1 (p.levels e) refl;
  }

  pub node_ends : {h g : Held} {a b : Size} → Ends must h a → Ends must g b → Ends must (z.node h g) (over (beside a b))
  node_ends p q = over_ends (beside_ends p q)

  pub nothing_ends : Ends must z.nothing nothing
  nothing_ends = record { nodes = λ e. refl; levels = λ e. refl }

  pub leaf_ends : Ends must z.leaf leaf
  leaf_ends = record { nodes = λ e. refl; levels = λ e. refl }

  pub pair_ends : Ends must z.pair (over leaf)
  pair_ends = record { nodes = λ e. refl; levels = λ e. refl }

  pub text_node_ends : Ends must z.pair text_node
  text_node_ends = record { nodes = λ e. refl; levels = λ e. refl }

  pub instruction_ends : Ends must (z.of 3 2) (over (beside (one leaf) leaf))
  instruction_ends = record { nodes = λ e. refl; levels = λ e. refl }

  pub choice_ends : Ends must z.choice choice
  choice_ends = record { nodes = λ e. refl; levels = λ e. refl }

  pub root_ends : Ends must z.root root
  root_ends = record { nodes = λ e. refl; levels = λ e. refl }

  pub test_ends : Ends must z.test test
  test_ends = record { nodes = λ e. refl; levels = λ e. refl }

  pub over_one_ends : {h : Held} {a : Size} → Ends must h a → Ends must (z.over_one h) (over (one a))
  over_one_ends p = node_ends p nothing_ends

  pub selected_ends : {h g : Held} {a b : Size} → Ends must h a → Ends must g b → Ends must (z.selected h g) (selected a b)
  selected_ends p q = node_ends p (node_ends pair_ends (node_ends leaf_ends (node_ends q choice_ends)))

  pub each_ends : {h g : Held} {a b : Size} → Ends must h a → Ends must g b → Ends must (z.for_each_node h g) (for_each_node a b)
  each_ends p q = node_ends p (node_ends pair_ends (over_one_ends (node_ends leaf_ends (node_ends pair_ends (beside_ends q leaf_ends)))))

  pub conditional_ends : {h g k : Held} {a b d : Size} → Ends must h a → Ends must g b → Ends must k d → Ends must (z.conditional h g k) (over (three (boolean a) b d))
  conditional_ends p q r = node_ends (over_one_ends p) (beside_ends q r)

  operand_at : (b : Bool) (h : Held) (a : Size) → Ends must h a → Ends must (cond b (z.over_one h) h) (cond b (boolean a) a)
  operand_at true h a p = over_one_ends p
  operand_at false h a p = p

  pub binary_ends : (f : Operator) {h g : Held} {a b : Size} → Ends must h a → Ends must g b → Ends must (z.binary f h g) (over (two (operand f a) (operand f b)))
  binary_ends f {h} {g} {a} {b} p q = node_ends (operand_at (is_logical f) h a p) (beside_ends (operand_at (is_logical f) g b q) nothing_ends)

  pub counted_ends : (x : Axis) {h : Held} {a : Size} → Ends must h a → Ends must (z.counted x h) (counted x a)
  counted_ends x {h} {a} p = operand_at (is_reverse x) h a p

  pub bare_fills : Fills must z.bare (λ a. a)
  bare_fills = record {
    fill = λ h a p. record {
      nodes = λ e. bare_nodes (2 ^ 64 - 1) h.nodes a.nodes (p.nodes e);
      levels = λ e. bare_levels (2 ^ 64 - 1) h.levels a.levels (p.levels e);
    };
  }

  pub under_fills : {r : Round} {f : Size → Size} {g : Held} {b : Size} → Fills must r f → Ends must g b → Fills must (z.under r g) (λ a. f (over (beside b a)))
  under_fills {r} {f} {g} {b} p q = record { fill = λ h a e. subst (λ u. Ends must u (f (over (beside b a)))) (sym (under_filled r g h)) (p.fill (z.node g h) (over (beside b a)) (node_ends q e)) }

  pub next_fills : {r : Round} {f : Size → Size} {g : Held} {b : Size} → Fills must r f → Ends must g b → Fills must (z.next_to r g) (λ a. f (beside b a))
  next_fills {r} {f} {g} {b} p q = record { fill = λ h a e. subst (λ u. Ends must u (f (beside b a))) (sym (next_filled r g h)) (p.fill (z.beside g h) (beside b a) (beside_ends q e)) }

  fills_same : {r : Round} (f g : Size → Size) → ((a : Size) → f a ≡ g a) → Fills must r f → Fills must r g
  fills_same {r} f g same p = record { fill = λ h a e. subst (λ u. Ends must (z.filled r h) u) (same a) (p.fill h a e) }

  pub signed_fills : (x : Sign) {r : Round} {f : Size → Size} → Fills must r f → Fills must (z.signed r x) (λ a. f (signed_size x a))
  signed_fills sign.Plus {r} {f} p = fills_same (λ a. f (over (beside leaf a))) (λ a. f (over (two leaf a))) (λ a. ap (λ u. f (over (beside leaf u))) (sym (alone a))) (under_fills p leaf_ends)
  signed_fills sign.Minus {r} {f} p = fills_same (λ a. f (over (beside nothing a))) (λ a. f (over (one a))) (λ a. ap (λ u. f (over u)) (alone_behind a ∙ sym (alone a))) (under_fills p nothing_ends)

  module _ (t : Texts) where
    pub nested_fills : (ty : Option SeqType) {r : Round} {f : Size → Size} {g : Held} {b : Size} → Fills must r f → Ends must g b →
        Fills must (z.bind false (is_some ty) r g) (λ a. f (over (beside b (tested (e.type_of (resolved_leaves t) ty) a))))
    nested_fills None p q = under_fills p q
    nested_fills (Some ty) p q = under_fills (under_fills p q) test_ends

    pub sorted_fills : (ty : Option SeqType) {r : Round} {f : Size → Size} {g : Held} {b : Size} → Fills must r f → Ends must g b →
        Fills must (z.bind true (is_some ty) r g) (λ a. f (beside b (tested_bind (e.type_of (resolved_leaves t) ty) a)))
    sorted_fills None p q = next_fills p q
    sorted_fills (Some ty) p q = next_fills (next_fills p q) test_ends
