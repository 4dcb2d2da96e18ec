-- A loop with keys, part by part (Formal Semantics, section 4.8.4).
use Rattle.std.specs.Prelude.{ℕ, List, [], ◌∷◌, map, Option}
use Rattle.core_meaning.specs.declared.node.Bind.{Bind}
use Rattle.core_meaning.specs.declared.node.SortKey.{SortKey}
use Rattle.core_meaning.specs.Erasure.{Texts, binds_of, core_of, keys_of, plain_bind, plain_key}
use Rattle.core_meaning.specs.PlainCore.{PlainBind, PlainCore, PlainKey}
use Rattle.core_meaning.specs.PlainCore as c
use Rattle.core_scope.specs.Syn.{Binds, Maybe, resolved}
use Rattle.core_scope.specs.Syn as s
use Rattle.core_scope.specs.Leaves.{ResolvedTree, syn_resolved}
use Rattle.xq_ast.specs.declared.node.Key.{Key}
use Rattle.core_normal.specs.declared.bind_refs.BindRef.{BindRef}
use Rattle.core_normal.specs.declared.bodies.Bodies.{Bodies}
use Rattle.core_normal.specs.declared.sorting.Keyed.{Keyed}
use Rattle.core_normal.specs.declared.sorting.Parted.{Parted}
use Rattle.core_normal.specs.Fresh.{Makes, give, ◌▷=◌}
use Rattle.core_normal.specs.Around.{Around}
use Rattle.core_normal.specs.Binding.{binds_in}
use Rattle.core_normal.specs.Making.{Making, bodies_in}
use Rattle.core_normal.specs.Normal.{norm, norm_keys, sorted, sorted_where}
use Rattle.core_normal.specs.Pieces.{Tail, led_by, sorted_core}
use Rattle.core_normal.specs.Trees as trees

-- binds and keys before others
abbrev pub before_binds : List PlainBind → c.Binds → c.Binds
before_binds [] more = more
before_binds (b ∷ bs) more = c.one_bind b (before_binds bs more)

abbrev pub before_keys : List PlainKey → c.Keys → c.Keys
before_keys [] more = more
before_keys (k ∷ ks) more = c.one_key k (before_keys ks more)

-- binds that the code made, before others
abbrev pub leading : Texts → List Bind → c.Binds → c.Binds
leading t bs more = before_binds (map (plain_bind t) bs) more

-- keys that the code made, and a loop in its parts
abbrev pub keys_in : Texts → List SortKey → c.Keys
keys_in t ks = keys_of (map (plain_key t) ks)

abbrev pub parts_in : Texts → Parted → Tail
parts_in t x = record { binds = binds_of (map (plain_bind t) x.binds); keys = keys_in t x.keys; body = core_of t x.body }

-- the condition behind binds that were made
unfoldable pub normed_where : Bodies → (Texts → Maybe resolved) → (Texts → c.Binds → c.Binds) → Making (c.Binds → c.Binds)
normed_where p w out t r = sorted_where p.base (bodies_in t p) (w t) r ▷= λ f. give (λ ts. out t (f ts))

-- a key, and keys
unfoldable pub normed_key : Bodies → Key ResolvedTree → Making PlainKey
normed_key p k t r = norm p.base (bodies_in t p) (syn_resolved t k.key) r ▷= λ a. give (c.key_by a k.descending k.empty_greatest)

unfoldable pub normed_keys : Bodies → List (Key ResolvedTree) → Making c.Keys
normed_keys p ks t r = norm_keys p.base (bodies_in t p) (trees.keys t ks) r

-- the condition, the keys and the result, which stand inside all binds
abbrev pub keyed_in : Bodies → Option ResolvedTree → List (Key ResolvedTree) → ResolvedTree → Texts → Around → Makes Tail
keyed_in p w ks e t r =
    sorted_where p.base (bodies_in t p) (trees.maybe t w) r ▷= λ f. norm_keys p.base (bodies_in t p) (trees.keys t ks) r ▷= λ more.
    norm p.base (bodies_in t p) (syn_resolved t e) r ▷= λ b. give (led_by f (record { binds = c.no_binds; keys = more; body = b }))

-- the same behind binds that were made, and binds behind others round it
unfoldable pub normed_keyed : Bodies → Keyed → (Texts → c.Binds → c.Binds) → Making Tail
normed_keyed p a out t r = keyed_in p a.condition.now a.keys.now a.body.now t r ▷= λ x. give (led_by (out t) x)

unfoldable pub normed_sorted : Bodies → List BindRef → Keyed → (Texts → c.Binds → c.Binds) → Making Tail
normed_sorted p bs a out t r =
    sorted p.base (bodies_in t p) (binds_in t bs s.no_binds) (λ q. keyed_in p a.condition.now a.keys.now a.body.now t q) r ▷= λ x. give (led_by (out t) x)

-- a loop with keys
unfoldable pub normed_by_keys : Bodies → ℕ → (Texts → Binds resolved) → Option ResolvedTree → List (Key ResolvedTree) → ResolvedTree → Making PlainCore
normed_by_keys p o bs w ks e t r = sorted p.base (bodies_in t p) (bs t) (λ q. keyed_in p w ks e t q) r ▷= λ x. give (sorted_core o x)
