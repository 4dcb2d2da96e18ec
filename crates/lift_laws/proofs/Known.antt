-- What a world knows: numbers of vectors, and trees under the cells' identities.
use Rattle.std.proofs.Common.{◌≡◌, ◌*◌, ◌<◌, true, cond, List, [], ◌∷◌, length, map, refl, sym, ap, ◌∙◌, subst, ⊎_elim, arith, Some, nat_eq}
use Rattle.std.proofs.lemmas.Bool.{ne_eqb}
use Rattle.xq_base.specs.Texts.{Text}
use Rattle.xq_base.specs.Answers.{Answer, Value, Fault as Refused}
use Rattle.doc_table.specs.Paths.{is_same, is_less}
use Rattle.doc_table.specs.Tree.{Tree}
use Rattle.doc_table.specs.Identity.{TreeId, DocTree, BuiltTree}
use Rattle.doc_table.specs.Items.{Item, IntItem, TextItem, UntypedItem, BoolItem, NodeItem}
use Rattle.doc_table.specs.Values.{Items}
use Rattle.doc_table.specs.NodeRules.{Docs}
use Rattle.doc_table.proofs.StrictOrders.{lists_order, is_same-self}
use Rattle.core_meaning.specs.Expr.{Rule, Apply, Walk, Make, IsOf, TreatAs, ConvertTo, CastTo, CastableTo, FailWith, Call}
use Rattle.core_meaning.specs.Meaning.{value_in, val}
use Rattle.core_meaning.specs.Work.{is_general, pairs, made_nodes, rule_work}
use Rattle.lift_laws.specs.Sums.{AllOf}
use Rattle.lift_laws.specs.Iterations.{Iter}
use Rattle.lift_laws.specs.Worlds.{World, Reach, number_in, id_in, cell_of, Among, Known, KnownTree, InStep, Faithful, one_tree, tree_at, tree_under}
use Rattle.lift_laws.specs.Lifting.{Rooted, answer_cells}
use Rattle.lift_laws.proofs.Numbers.{nat_eq_self}
use Rattle.lift_laws.proofs.Picks.{all_mono, all-map}
use Rattle.lift_laws.proofs.Sizes.{map_length}

abbrev pub Behind : Iter → Iter → Type 0
Behind j k = (j.number < k.number) × (is_less j.vector k.vector ≡ true)

pub behind : (j : Iter) (ks : List Iter) → AllOf (Behind j) ks → (i : Iter) → Among i ks → Behind j i
behind j [] b i h = absurd h
behind j (k ∷ ks) b i h = ⊎_elim (λ e. subst (Behind j) (sym e) b.0) (λ g. behind j ks b.1 i g) h

-- the number of a vector is that of the iteration that has it
pub number_found : (its : List Iter) → InStep its → (i : Iter) → Among i its → number_in its i.vector ≡ i.number
number_found [] s i h = absurd h
number_found (j ∷ js) s i h =
    ⊎_elim
    (λ e. ap (λ (k : Iter). cond (is_same j.vector k.vector) j.number (number_in js k.vector)) e ∙ ap (λ b. cond b j.number (number_in js j.vector)) (is_same-self j.vector) ∙ ap (λ (k : Iter). k.number) (sym e))
    (λ a. ap (λ b. cond b j.number (number_in js i.vector)) (lists_order.less_apart j.vector i.vector (behind j js s.0 i a).1) ∙ number_found js s.1 i a) h

module _ (docs : Docs) where
  -- what a call makes is found by the number of the iteration
  tree_found : (r : Reach) (its : List Iter) → InStep its → (i : Iter) → Among i its → tree_at docs r i.number its ≡ one_tree docs (val docs (Call r.site r.rule r.parts) i.env i.vector)
  tree_found r [] s i h = absurd h
  tree_found r (j ∷ js) s i h =
      ⊎_elim
      (λ e. ap (λ (k : Iter). cond (nat_eq j.number k.number) (one_tree docs (val docs (Call r.site r.rule r.parts) j.env j.vector)) (tree_at docs r k.number js)) e ∙ ap (λ b. cond b (one_tree docs (val docs (Call r.site r.rule r.parts) j.env j.vector)) (tree_at docs r j.number js)) (nat_eq_self j.number) ∙ ap (λ (k : Iter). one_tree docs (val docs (Call r.site r.rule r.parts) k.env k.vector)) (sym e))
      (λ a. let b = (behind j js s.0 i a).0 in ap (λ d. cond d (one_tree docs (val docs (Call r.site r.rule r.parts) j.env j.vector)) (tree_at docs r i.number js)) (ne_eqb j.number i.number (λ q. omega arith)) ∙ tree_found r js s.1 i a) h

  tree_rooted : (W : World) → Faithful W → (id : TreeId) (tree : Tree Text) → KnownTree docs W id tree → tree_under docs W (id_in W id) ≡ Some tree
  tree_rooted W fw (DocTree d) tree k = k
  tree_rooted W fw (BuiltTree s v) tree k =
      ap (λ m. tree_at docs (W s) m (W s).its) (ap (number_in (W s).its) (sym k.vector_is) ∙ number_found (W s).its (fw s).0 k.from k.among)
      ∙ tree_found (W s) (W s).its (fw s).0 k.from k.among
      ∙ ap (one_tree docs) k.made_is

  -- a known item's cell has the tree under its identity
  known_rooted : (W : World) → Faithful W → (v : Item Text) → Known docs W v → Rooted (tree_under docs W) (cell_of W v)
  known_rooted W fw (IntItem z) k = tt
  known_rooted W fw (TextItem t) k = tt
  known_rooted W fw (UntypedItem t) k = tt
  known_rooted W fw (BoolItem b) k = tt
  known_rooted W fw (NodeItem n) k = (tree_rooted W fw n.id n.tree k.0, k.1)

  pub knowns_rooted : (W : World) → Faithful W → (vs : Items) → AllOf (Known docs W) vs → AllOf (Rooted (tree_under docs W)) (map (cell_of W) vs)
  knowns_rooted W fw vs a = all-map (Rooted (tree_under docs W)) (cell_of W) vs (all_mono _ _ (λ v (k : Known docs W v). known_rooted W fw v k) vs a)

-- a rule's own work is the same over cells
pairs_cells : (W : World) (vs : List Items) → pairs (Some (map (map (cell_of W)) vs)) ≡ pairs (Some vs)
pairs_cells W [] = refl
pairs_cells W (u ∷ []) = refl
pairs_cells W (u ∷ v ∷ []) = ap (λ n. n * length (map (cell_of W) v)) (map_length (cell_of W) u) ∙ ap (λ n. length u * n) (map_length (cell_of W) v)
pairs_cells W (u ∷ v ∷ w ∷ vs) = refl

made_cells : (W : World) (a : Answer Items) → made_nodes (value_in (answer_cells (cell_of W) a)) ≡ made_nodes (value_in a)
made_cells W (Refused d) = refl
made_cells W (Value []) = refl
made_cells W (Value (IntItem z ∷ vs)) = refl
made_cells W (Value (TextItem t ∷ vs)) = refl
made_cells W (Value (UntypedItem t ∷ vs)) = refl
made_cells W (Value (BoolItem b ∷ vs)) = refl
made_cells W (Value (NodeItem n ∷ [])) = refl
made_cells W (Value (NodeItem n ∷ v ∷ vs)) = refl

pub work_cells : (W : World) (r : Rule) (vs : List Items) (a : Answer Items) → rule_work r (Some (map (map (cell_of W)) vs)) (value_in (answer_cells (cell_of W) a)) ≡ rule_work r (Some vs) (value_in a)
work_cells W (Apply g) vs a = ap (λ n. cond (is_general g) n 0) (pairs_cells W vs)
work_cells W (Walk from axis test) vs a = refl
work_cells W (Make kind) vs a = made_cells W a
work_cells W (IsOf t) vs a = refl
work_cells W (TreatAs t) vs a = refl
work_cells W (ConvertTo t) vs a = refl
work_cells W (CastTo kind o) vs a = refl
work_cells W (CastableTo kind o) vs a = refl
work_cells W (FailWith code) vs a = refl
