-- The evaluator's measure falls: four times the nodes, and some more for each step between a node and its parts.
use Rattle.std.proofs.Common.{◌≡◌, ℕ, ◌+◌, ◌*◌, ◌<◌, ap, arith}
use Rattle.core_meaning.specs.declared.node.Core.{Core}
use Rattle.core_meaning.specs.Erasure.{Texts, core_of}
use Rattle.core_meaning.specs.Size.{nodes}

abbrev pub nodes_in : Texts → Core → ℕ
nodes_in texts core = nodes (core_of texts core)

two_fall : (t n a b u v : ℕ) → n ≡ a + b + 1 → u ≡ a → v ≡ b → 4 * n ≡ t → 4 * (u + v) + 3 < t
two_fall t n a b u v e p q d = omega (arith, e, p, q, d)

-- from a node to its two parts
pub parts_fall : (texts : Texts) (core x y u v : Core) (t : ℕ) → nodes_in texts core ≡ nodes_in texts x + nodes_in texts y + 1 → u ≡ x → v ≡ y → 4 * nodes_in texts core ≡ t → 4 * (nodes_in texts u + nodes_in texts v) + 3 < t
parts_fall texts core x y u v t e p q d = two_fall t (nodes_in texts core) (nodes_in texts x) (nodes_in texts y) (nodes_in texts u) (nodes_in texts v) e (ap (nodes_in texts) p) (ap (nodes_in texts) q) d

-- to the first of two parts, and to the second
pub first_falls : (a b t : ℕ) → 4 * (a + b) + 3 ≡ t → 4 * a < t
first_falls a b t d = omega (arith, d)

pub second_falls : (a b t : ℕ) → 4 * (a + b) + 3 ≡ t → 4 * b < t
second_falls a b t d = omega (arith, d)

-- to the turns of a loop, and to one turn
pub turns_fall : (a b t : ℕ) → 4 * (a + b) + 3 ≡ t → 4 * b + 2 < t
turns_fall a b t d = omega (arith, d)

pub turn_falls : (b t : ℕ) → 4 * b + 2 ≡ t → 4 * b + 1 < t
turn_falls b t d = omega (arith, d)

pub body_falls : (b t : ℕ) → 4 * b + 1 ≡ t → 4 * b < t
body_falls b t d = omega (arith, d)

-- the nodes of a call with two operands
pub pair_nodes : (n a b : ℕ) → n ≡ a + (b + 0) + 1 → n ≡ a + b + 1
pair_nodes n a b e = omega (arith, e)
