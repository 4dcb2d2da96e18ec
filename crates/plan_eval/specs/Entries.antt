-- The context of a step as it is kept, and what the step reaches from it (own rule).
use Rattle.std.specs.Prelude.{ℕ, ℤ, suc, zero, pos, negsuc, ◌≡◌, ◌<◌, Bool, true, false, cond, ◌&&◌, ◌||◌, List, [], ◌∷◌, ◌++◌, map, Option, Some, None, nat_eq, nat_lt}
use Rattle.xq_base.specs.declared.axis.Axis.{Axis}
use Rattle.xq_base.specs.declared.axis.NodeTest.{NodeTest}
use Rattle.xq_base.specs.declared.item.FragKey.{FragKey}
use Rattle.xq_base.specs.declared.item.FragKey.TheVariants as f
use Rattle.xq_base.specs.declared.item.Item.{Item}
use Rattle.xq_base.specs.declared.item.Item.TheVariants as i
use Rattle.xq_base.specs.declared.item.NodeRef.{NodeRef}
use Rattle.xq_base.specs.declared.item.TextId.{TextId}
use Rattle.doc_table.specs.declared.ledger.Note.{Note}
use Rattle.doc_table.specs.Ascending.{In, Ascends}
use Rattle.doc_table.specs.Axes.{id_eq, test_of, steps_to}
use Rattle.doc_table.specs.Identity.{ref_eq, ref_less, place_of}
use Rattle.doc_table.specs.Notes.{notes_of}
use Rattle.doc_table.specs.Places.{Place, names_node, node_at}
use Rattle.doc_table.specs.Stores.{Holdings, tree_at}
use Rattle.doc_table.specs.StoredItems.{IsNodeOf}
use Rattle.doc_table.specs.Touched.{touched_rows, counts}
use Rattle.doc_table.specs.Tree.{Tree}
use Rattle.staircase.specs.declared.hits.Hit.{Hit}
use Rattle.staircase.specs.declared.kinds.Ctx.{Ctx}
use Rattle.staircase.specs.declared.kinds.Tally.{Tally}
use Rattle.staircase.specs.Hits.{AppendsHits}
use Rattle.staircase.specs.Joins.{AreHits, tally_of}
use Rattle.plan_eval.specs.declared.entries.Reached.{Reached}
use Rattle.plan_eval.specs.Contexts.{sum_tally, no_tally}

abbrev pub positive : ℤ → Option ℕ
positive (pos zero) = None
positive (pos (suc k)) = Some (suc k)
positive (negsuc k) = None

-- the node in its iteration, where it has one
abbrev pub entry_at : Option ℕ → NodeRef → List Reached
entry_at None r = []
entry_at (Some k) r = record { iter = k; node = r } ∷ []

-- the entry of a row: none where the iteration isn't a positive integer or the cell isn't a node
abbrev pub entry_of : Item → Item → List Reached
entry_of (i.Int z) (i.Node r) = entry_at (positive z) r
entry_of _ _ = []

abbrev pub entries_of : List Item → List Item → List Reached
entries_of [] ns = []
entries_of (v ∷ vs) [] = []
entries_of (v ∷ vs) (n ∷ ns) = entry_of v n ++ entries_of vs ns

-- a fragment is the document of a rank
abbrev pub is_doc : ℕ → FragKey → Bool
is_doc rank (f.Doc n) = nat_eq n rank
is_doc rank (f.Built site iter) = false

abbrev pub hit_of : Reached → Hit
hit_of r = record { pre = r.node.pre; attr = r.node.attr; iter = r.iter }

-- the entries of a document
abbrev pub hits_at : ℕ → List Reached → List Hit
hits_at rank [] = []
hits_at rank (r ∷ rs) = cond (is_doc rank r.node.frag) (hit_of r ∷ hits_at rank rs) (hits_at rank rs)

abbrev pub hit_place : Hit → Place
hit_place h = record { pre = h.pre; attr = h.attr }

abbrev pub doc_places : ℕ → List Reached → List Place
doc_places rank es = map hit_place (hits_at rank es)

-- a hit in the document of a rank
abbrev pub reached_at : ℕ → Ctx → Reached
reached_at rank c = record { iter = c.iter; node = record { frag = f.Doc rank; pre = c.pre; attr = c.attr } }

-- the entries of a document name nodes of its tree
abbrev pub AreNamed : ℕ → Tree TextId → List Reached → Type 0
AreNamed rank t es = (e : Reached) → In e es → is_doc rank e.node.frag ≡ true → names_node t (place_of e.node) ≡ true

-- each entry names a node of its tree
abbrev pub AllNamed : Holdings → List Reached → Type 0
AllNamed h es = (e : Reached) → In e es → IsNodeOf h e.node (tree_at h e.node.frag)

-- what a step finds in a document comes to what there is
pub record AddsFound (axis : Axis) (test : NodeTest) (t : Tree TextId) (rank : ℕ) (es old new : List Reached) : Type 0 where
  pub context : List Ctx
  pub hits : List Ctx
  pub of_entries : AppendsHits (hits_at rank es) [] context
  pub are_hits : AreHits axis test t context hits
  pub appended : new ≡ old ++ map (reached_at rank) hits

-- by node, then by iteration
abbrev pub reached_less : Reached → Reached → Bool
reached_less a b = ref_less a.node b.node || (ref_eq a.node b.node && nat_lt a.iter b.iter)

-- a step goes from an entry to this node, in its iteration
abbrev pub Leads : Axis → NodeTest → (FragKey → Tree TextId) → List Reached → Reached → Type 0
Leads axis test trees es r = (e : Reached) × In e es × (e.iter ≡ r.iter) × (e.node.frag ≡ r.node.frag)
    × (steps_to id_eq axis (test_of test) (trees r.node.frag) (node_at (trees r.node.frag) (place_of e.node)) (node_at (trees r.node.frag) (place_of r.node)) ≡ true)

-- all that a step finds in the first so many documents: ascending, each once
pub record AreFound (axis : Axis) (test : NodeTest) (trees : FragKey → Tree TextId) (es : List Reached) (ranks : ℕ) (rows : List Reached) : Type 0 where
  pub ascends : Ascends reached_less rows
  pub docs : (r : Reached) → In r rows → (n : ℕ) × (n < ranks) × (r.node.frag ≡ f.Doc n)
  pub named : (r : Reached) → In r rows → names_node (trees r.node.frag) (place_of r.node) ≡ true
  pub sound : (r : Reached) → In r rows → Leads axis test trees es r
  pub complete : (r : Reached) (n : ℕ) → n < ranks → r.node.frag ≡ f.Doc n → names_node (trees r.node.frag) (place_of r.node) ≡ true → Leads axis test trees es r → In r rows

-- the notes of a step, and what it counts, in the documents from a rank on
abbrev pub kept_notes : ℕ → Axis → ℕ → List (TextId × Tree TextId) → List Reached → List Note
kept_notes site axis rank [] es = []
kept_notes site axis rank (d ∷ docs) es = notes_of site (f.Doc rank) (touched_rows axis d.1 (doc_places rank es)) ++ kept_notes site axis (suc rank) docs es

abbrev pub kept_tally : Axis → ℕ → List (TextId × Tree TextId) → List Reached → Tally
kept_tally axis rank [] es = no_tally
kept_tally axis rank (d ∷ docs) es = sum_tally (tally_of (counts axis d.1 (doc_places rank es))) (kept_tally axis (suc rank) docs es)
