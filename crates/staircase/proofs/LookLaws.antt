-- What a node looks for between two numbers is what stands on its axis.
use Rattle.std.proofs.Common.{◌≡◌, ℕ, zero, suc, ◌+◌, ◌<◌, Bool, true, false, not, ◌&&◌, ◌||◌, length, refl, sym, ◌∙◌, arith, Option, Some, None}
use Rattle.std.specs.Prelude.{nat_eq, nat_lt, nat_le}
use Rattle.std.proofs.lemmas.Bool.{ne_eqb, le-ltb, lt-ltb, true≢false}
use Rattle.std.proofs.lemmas.Bool.Decides.{nat_tests}
use Rattle.xq_base.specs.declared.item.TextId.{TextId}
use Rattle.xq_base.specs.declared.axis.Axis.{Axis}
use Rattle.xq_base.specs.declared.axis.Axis.TheVariants as a
use Rattle.xq_base.specs.declared.axis.NodeTest.{NodeTest}
use Rattle.doc_table.specs.Tree.{Tree}
use Rattle.doc_table.specs.Enc.{enc, line_in}
use Rattle.doc_table.specs.Paths.{is_same}
use Rattle.doc_table.specs.Axes.{on_axis, on_following, on_preceding}
use Rattle.doc_table.specs.Places.{path_at, row_path, RowsTell}
use Rattle.doc_table.proofs.ByRows.{same, by-self, by-descendant, by-descendant_or_self, by-following, by-preceding}
use Rattle.staircase.specs.declared.seen.Seen.{Seen}
use Rattle.staircase.specs.declared.task.Task.{Task}
use Rattle.staircase.specs.Joins.{is_chained, path_with}
use Rattle.staircase.specs.Made.{task_for}
use Rattle.staircase.specs.Tasks.{in_task}
use Rattle.staircase.specs.Seen.{seen_of}

abbrev pub looks : Option Task → Seen → Bool
looks None s = false
looks (Some task) s = in_task task s

self-is : (c v : ℕ) → ((nat_le c v && nat_lt v (c + 1)) && true) ≡ nat_eq c v
self-is c v = grind (arith, nat_tests)

descendant-is : (c v s : ℕ) → ((nat_le (c + 1) v && nat_lt v (c + s + 1)) && true) ≡ (nat_lt c v && nat_le v (c + s))
descendant-is c v s = grind (arith, nat_tests)

within-is : (c v s : ℕ) → ((nat_le c v && nat_lt v (c + s + 1)) && true) ≡ (nat_le c v && nat_le v (c + s))
within-is c v s = grind (arith, nat_tests)

following-is : (e v : ℕ) → v < 4294967295 → ((nat_le (e + 1) v && nat_lt v 4294967295) && true) ≡ nat_lt e v
following-is e v l = grind (arith, nat_tests)

preceding-is : (c v s : ℕ) → ((nat_le 0 v && nat_lt v c) && nat_lt (v + s) c) ≡ nat_lt (v + s) c
preceding-is c v s = grind (arith, nat_tests)

no_and : (b : Bool) → (b && false) ≡ false
no_and true = refl
no_and false = refl

no_or : (b : Bool) → (b || false) ≡ b
no_or true = refl
no_or false = refl

no_zero : (k : ℕ) → nat_eq (suc k) 0 ≡ false
no_zero k = ne_eqb (suc k) 0 (λ e. omega arith)

-- following and preceding of an attribute
pub after-attribute : (t : Tree TextId) (c k v : ℕ) → RowsTell t → c < length (enc t) → v < length (enc t) → on_following (path_with t c (suc k)) (row_path t v) ≡ nat_lt c v
after-attribute t c k v b h l = rw (no_zero k, le-ltb (suc k) 0 (omega arith), b.less c v h l) (plain (nat_lt c v) (is_same (path_at t c) (path_at t v)))
  where
    plain : (b d : Bool) → ((b || (d && false)) && true) ≡ b
    plain true d = refl
    plain false true = refl
    plain false false = refl

before-is : (c v s : ℕ) → ((nat_lt v c || (nat_eq v c && true)) && not (nat_le v c && nat_le c (v + s))) ≡ nat_lt (v + s) c
before-is c v s = grind (arith, nat_tests)

pub before-attribute : (t : Tree TextId) (c k v : ℕ) → RowsTell t → c < length (enc t) → v < length (enc t) → on_preceding (path_with t c (suc k)) (row_path t v) ≡ nat_lt (v + (line_in (enc t) v).size) c
before-attribute t c k v b h l = rw (lt-ltb 0 (suc k) (omega arith), b.less v c l h, same t v c b l h, b.prefix v c l h) (before-is c v (line_in (enc t) v).size)

pub looks-is : (axis : Axis) (tested : NodeTest) (t : Tree TextId) (i c k v : ℕ) → RowsTell t → is_chained axis ≡ false → length (enc t) < 4294967296 → c < length (enc t) → v < length (enc t) → looks (task_for axis i k (seen_of axis tested t c)) (seen_of axis tested t v) ≡ on_axis axis (path_with t c k) (row_path t v)
looks-is a.SelfNode tested t i c zero v b e n h l = self-is c v ∙ sym (by-self t c v b h l)
looks-is a.SelfNode tested t i c (suc k) v b e n h l = rw (no_zero k) (sym (no_and (is_same (path_at t c) (path_at t v))))
looks-is a.Descendant tested t i c zero v b e n h l = descendant-is c v (line_in (enc t) c).size ∙ sym (by-descendant t c v b h l)
looks-is a.Descendant tested t i c (suc k) v b e n h l = rw (no_zero k) refl
looks-is a.DescendantOrSelf tested t i c zero v b e n h l = within-is c v (line_in (enc t) c).size ∙ sym (by-descendant_or_self t c v b h l)
looks-is a.DescendantOrSelf tested t i c (suc k) v b e n h l = rw (no_zero k) (sym (no_and (is_same (path_at t c) (path_at t v))))
looks-is a.Following tested t i c zero v b e n h l = following-is (c + (line_in (enc t) c).size) v (omega arith) ∙ sym (by-following t c v b h l)
looks-is a.Following tested t i c (suc k) v b e n h l = rw (no_zero k) (following-is c v (omega arith)) ∙ sym (after-attribute t c k v b h l)
looks-is a.Preceding tested t i c zero v b e n h l = preceding-is c v (line_in (enc t) v).size ∙ sym (by-preceding t c v b h l)
looks-is a.Preceding tested t i c (suc k) v b e n h l = preceding-is c v (line_in (enc t) v).size ∙ sym (before-attribute t c k v b h l)
looks-is a.Attribute tested t i c zero v b e n h l = refl
looks-is a.Attribute tested t i c (suc k) v b e n h l = rw (no_zero k) refl
looks-is a.Child tested t i c k v b e n h l = absurd (true≢false e)
looks-is a.Parent tested t i c k v b e n h l = absurd (true≢false e)
looks-is a.Ancestor tested t i c k v b e n h l = absurd (true≢false e)
looks-is a.AncestorOrSelf tested t i c k v b e n h l = absurd (true≢false e)
looks-is a.FollowingSibling tested t i c k v b e n h l = absurd (true≢false e)
looks-is a.PrecedingSibling tested t i c k v b e n h l = absurd (true≢false e)
