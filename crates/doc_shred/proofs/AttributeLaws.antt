-- The attributes of one tag, one after another.
use Rattle.std.proofs.Common.{◌≡◌, ℕ, zero, suc, ◌+◌, ◌-◌, ◌<◌, ◌≤◌, Bool, true, false, ◌||◌, ◌&&◌, cond, nat_eq, List, [], ◌∷◌, ◌++◌, map, length, take, Some, None, slice_get, option_and_then, refl, sym, ap, ◌∙◌, arith, true≢false, length-append}
use Rattle.std.specs.Str.{bytes_eq}
use Rattle.std.proofs.lemmas.Bool.{eqb-true}
use Rattle.std.proofs.lemmas.List.{map-append}
use Rattle.std.proofs.lemmas.Slice.Eq.{bytes_eq-Decides}
use Rattle.xq_base.specs.declared.item.TextId.{TextId}
use Rattle.xq_base.specs.Pool.{NoRepeats}
use Rattle.doc_table.specs.Tree.{Label, OfDocument, OfElement, OfAttribute, OfText, OfComment, OfInstruction, text_in, pair_with}
use Rattle.doc_table.specs.Axes.{id_eq}
use Rattle.doc_table.specs.Spine.{Open, Spine, is_named, has_name_in, element_has, takes_attributes, attributes_open, with_attribute, attribute_in, is_childless, is_element}
use Rattle.doc_shred.specs.Content.{Text}
use Rattle.doc_shred.specs.Reading as r
use Rattle.doc_shred.specs.Walk as w
use Rattle.doc_shred.specs.Standing.{Texts, IsLater, AttributeAdded, AttributeTwice, AttributesAdded, label_set, nodes_set, with_attributes}
use Rattle.doc_shred.proofs.Spines.{text_kept, later_self, later_later}
use Rattle.doc_shred.proofs.TagLaws.{attribute_exact, attribute_strict}

-- a text that a number has later, too
pub get_later : (a b : Texts) (n : ℕ) (t : Text) → slice_get a n ≡ Some t → IsLater a b → slice_get b n ≡ Some t
get_later [] b n t e k = cc
get_later (x ∷ xs) [] n t e k = cc
get_later (x ∷ xs) (y ∷ ys) zero t e k =
    let same : y ≡ x = cc in
    let given : x ≡ t = cc in
    ap (λ z. Some z) (same ∙ given)
get_later (x ∷ xs) (y ∷ ys) (suc n) t e k = get_later xs ys n t e (let tails : take (length xs) ys ≡ xs = cc in tails)

-- the pool gave these names
abbrev pub AreNamed : Texts → List (TextId × TextId) → Type 0
AreNamed texts [] = Unit {0}
AreNamed texts (a ∷ as') = ((t : Text) × (slice_get texts a.0.0 ≡ Some t)) × AreNamed texts as'

pub named_later : (a b : Texts) (as' : List (TextId × TextId)) → IsLater a b → AreNamed a as' → AreNamed b as'
named_later a b [] k n = tt
named_later a b (x ∷ xs) k n = ((n.0.0, get_later a b x.0.0 n.0.0 n.0.1 k), named_later a b xs k n.1)

pub named_push : (texts : Texts) (as' : List (TextId × TextId)) (x : TextId × TextId) (t : Text) → AreNamed texts as' → slice_get texts x.0.0 ≡ Some t → AreNamed texts (as' ++ x ∷ [])
named_push texts [] x t n e = ((t, e), tt)
named_push texts (y ∷ ys) x t n e = (n.0, named_push texts ys x t n.1 e)

-- equal numbers exactly for equal names
same_test : (texts final : Texts) (id jd : TextId) (s t : Text) → NoRepeats texts → IsLater texts final → slice_get texts id.0 ≡ Some s → slice_get texts jd.0 ≡ Some t → id_eq id jd ≡ bytes_eq s (text_in final jd)
same_test texts final id jd s t d k e f =
    ap (λ z. z) (by (nat_eq id.0 jd.0) refl (bytes_eq s t) refl) ∙ ap (bytes_eq s) (sym (text_kept texts final jd t f k))
  where
    by : (a : Bool) → nat_eq id.0 jd.0 ≡ a → (b : Bool) → bytes_eq s t ≡ b → a ≡ b
    by true g true h = refl
    by false g false h = refl
    by true g false h =
        let one : id.0 ≡ jd.0 = eqb-true id.0 jd.0 g in
        let two : Some s ≡ Some t = sym e ∙ ap (slice_get texts) one ∙ f in
        let same : s ≡ t = cc in
        absurd (true≢false (sym ((bytes_eq-Decides s t).1 same) ∙ h))
    by false g true h =
        let same : s ≡ t = (bytes_eq-Decides s t).0 h in
        let place : id.0 ≡ jd.0 = d id.0 jd.0 t (e ∙ ap (λ z. Some z) same) f in
        let yes_ : nat_eq id.0 jd.0 ≡ true = ap (λ z. nat_eq z jd.0) place ∙ self jd.0 in
        absurd (true≢false (sym yes_ ∙ g))
      where
        self : (n : ℕ) → nat_eq n n ≡ true
        self n = grind arith

named_test : (texts final : Texts) (id : TextId) (s : Text) (as' : List (TextId × TextId)) → NoRepeats texts → IsLater texts final → slice_get texts id.0 ≡ Some s → AreNamed texts as'
    → is_named id_eq id as' ≡ is_named bytes_eq s (map (pair_with (text_in final)) as')
named_test texts final id s [] d k e n = refl
named_test texts final id s (a ∷ as') d k e n =
    ap (λ b. b || is_named id_eq id as') (same_test texts final id a.0 s n.0.0 d k e n.0.1)
    ∙ ap (λ b. bytes_eq s (text_in final a.0) || b) (named_test texts final id s as' d k e n.1)

-- ---- what the builder holds

abbrev IsFresh : Spine TextId → Type 0
IsFresh s = (takes_attributes s.nodes ≡ true) × (attributes_open s.nodes ≡ [])

abbrev is_element_with : List (TextId × TextId) → Spine TextId → Type 0
is_element_with as' s = (takes_attributes (nodes_set as' s.nodes) ≡ true) × (attributes_open (nodes_set as' s.nodes) ≡ as')

set_takes : (as' : List (TextId × TextId)) (os : List (Open TextId)) → takes_attributes os ≡ true → (takes_attributes (nodes_set as' os) ≡ true) × (attributes_open (nodes_set as' os) ≡ as')
set_takes as' [] e = cc
set_takes as' (o ∷ os) e = by o.label e
  where
    by : (l : Label TextId) → is_element l && is_childless o.done ≡ true → (is_element (label_set as' l) && is_childless o.done ≡ true) × (Rattle.doc_table.specs.Tree.attributes_of (label_set as' l) ≡ as')
    by OfDocument e = cc
    by (OfElement m bs) e = (e, refl)
    by (OfAttribute n v) e = cc
    by (OfText v) e = cc
    by (OfComment v) e = cc
    by (OfInstruction n v) e = cc

set_none : (os : List (Open TextId)) → takes_attributes os ≡ true → attributes_open os ≡ [] → os ≡ nodes_set [] os
set_none [] e f = refl
set_none (o ∷ os) e f = by o.label e f
  where
    by : (l : Label TextId) → is_element l && is_childless o.done ≡ true → Rattle.doc_table.specs.Tree.attributes_of l ≡ [] → ◌≡◌ {A = List (Open TextId)} (record { label = l; done = o.done } ∷ os) (record { label = label_set [] l; done = o.done } ∷ os)
    by OfDocument e f = refl
    by (OfElement m bs) e f = ap (λ z. record { label = OfElement m z; done = o.done } ∷ os) f
    by (OfAttribute n v) e f = refl
    by (OfText v) e f = refl
    by (OfComment v) e f = refl
    by (OfInstruction n v) e f = refl

set_more : (as' : List (TextId × TextId)) (n v : TextId) (os : List (Open TextId)) → takes_attributes os ≡ true → attribute_in n v (nodes_set as' os) ≡ nodes_set (as' ++ (n, v) ∷ []) os
set_more as' n v [] e = refl
set_more as' n v (o ∷ os) e = by o.label e
  where
    by : (l : Label TextId) → is_element l && is_childless o.done ≡ true
        → ◌≡◌ {A = List (Open TextId)} (record { label = Rattle.doc_table.specs.Spine.label_attribute n v (label_set as' l); done = o.done } ∷ os) (record { label = label_set (as' ++ (n, v) ∷ []) l; done = o.done } ∷ os)
    by OfDocument e = cc
    by (OfElement m bs) e = refl
    by (OfAttribute p q) e = cc
    by (OfText q) e = cc
    by (OfComment q) e = cc
    by (OfInstruction p q) e = cc

name_in_set : (as' : List (TextId × TextId)) (id : TextId) (os : List (Open TextId)) → takes_attributes os ≡ true → has_name_in id_eq id (nodes_set as' os) ≡ is_named id_eq id as'
name_in_set as' id [] e = cc
name_in_set as' id (o ∷ os) e = by o.label e
  where
    by : (l : Label TextId) → is_element l && is_childless o.done ≡ true → element_has id_eq id (label_set as' l) ≡ is_named id_eq id as'
    by OfDocument e = cc
    by (OfElement m bs) e = refl
    by (OfAttribute p q) e = cc
    by (OfText q) e = cc
    by (OfComment q) e = cc
    by (OfInstruction p q) e = cc

-- ---- the loop

-- so far: the attributes, and that reading on after them gives what reading from the start gives
pub record IsSoFar (texts : Texts) (old now : Spine TextId) (turns : ℕ) (rest bytes : List ℕ) : Type 0 where
  pub all : List (TextId × TextId)
  pub added : now ≡ with_attributes all old
  pub named : AreNamed texts all
  pub few : length all + length rest ≤ length bytes
  pub reads : (final : Texts) → IsLater texts final → w.attributes_from (map (pair_with (text_in final)) all) turns rest ≡ w.attributes_from [] (length bytes + 1) bytes

pub so_far_begins : (texts : Texts) (s : Spine TextId) (bytes : List ℕ) → takes_attributes s.nodes ≡ true → attributes_open s.nodes ≡ [] → IsSoFar texts s s (length bytes + 1 - 0) bytes bytes
so_far_begins texts s bytes e f = record {
  all = [];
  added = ap (λ z. record { nodes = z; root = s.root }) (set_none s.nodes e f);
  named = tt;
  few = omega arith;
  reads = λ final k. let n : length bytes + 1 - 0 ≡ length bytes + 1 = omega arith in ap (λ z. w.attributes_from [] z bytes) n;
}

unfold_turn : (found : List (Text × Text)) (n : ℕ) (from : List ℕ) → r.has_attribute from ≡ true
    → w.attributes_from found (suc n) from ≡ option_and_then (λ (x : (Text × Text) × List ℕ). cond (is_named bytes_eq x.0.0 found) None (w.attributes_from (found ++ x.0 ∷ []) n x.1)) (r.attribute from)
unfolding w.attributes_from
unfold_turn found n from e =
    ap (λ b. cond b (option_and_then (λ (x : (Text × Text) × List ℕ). cond (is_named bytes_eq x.0.0 found) None (w.attributes_from (found ++ x.0 ∷ []) n x.1)) (r.attribute from)) (Some (found, from))) e

unfold_end : (found : List (Text × Text)) (n : ℕ) (from : List ℕ) → r.has_attribute from ≡ false → w.attributes_from found (suc n) from ≡ Some (found, from)
unfolding w.attributes_from
unfold_end found n from e =
    ap (λ b. cond b (option_and_then (λ (x : (Text × Text) × List ℕ). cond (is_named bytes_eq x.0.0 found) None (w.attributes_from (found ++ x.0 ∷ []) n x.1)) (r.attribute from)) (Some (found, from))) e

unfold_none : (found : List (Text × Text)) (from : List ℕ) → w.attributes_from found 0 from ≡ None
unfolding w.attributes_from
unfold_none found from = refl

module _ (texts : Texts) (old now : Spine TextId) (m i : ℕ) (rest bytes : List ℕ) (turns : i < m) (fresh : takes_attributes old.nodes ≡ true) (s : IsSoFar texts old now (m - i) rest bytes) where
  turns_left : m - i ≡ suc (m - (i + 1))
  turns_left = omega arith

  holds_all : now.nodes ≡ nodes_set s.all old.nodes
  holds_all = ap (λ (z : Spine TextId). z.nodes) s.added

  pub so_far_takes : (takes_attributes now.nodes ≡ true) × (length (attributes_open now.nodes) ≡ length s.all)
  so_far_takes =
      let t = set_takes s.all old.nodes fresh in
      (ap takes_attributes holds_all ∙ t.0, ap (λ z. length (attributes_open z)) holds_all ∙ ap length t.1)

  -- what a name is among those that were read
  tested : (later final : Texts) (id : TextId) (n : Text) → IsLater texts later → IsLater later final → NoRepeats later → slice_get later id.0 ≡ Some n
      → is_named bytes_eq n (map (pair_with (text_in final)) s.all) ≡ has_name_in id_eq id now.nodes
  tested later final id n k l d e =
      sym (named_test later final id n s.all d l e (named_later texts later s.all k s.named)) ∙ sym (name_in_set s.all id old.nodes fresh) ∙ ap (has_name_in id_eq id) (sym holds_all)

  pub so_far_goes_on : (later : Texts) (new : Spine TextId) (after : List ℕ) → r.has_attribute rest ≡ true → IsLater texts later → NoRepeats later → AttributeAdded later now new rest after
      → IsSoFar later old new (m - (i + 1)) after bytes
  so_far_goes_on later new after e k d a = record {
    all = s.all ++ (a.name, a.value) ∷ [];
    added = a.added ∙ ap (with_attribute a.name a.value) s.added ∙ ap (λ z. record { nodes = z; root = old.root }) (set_more s.all a.name a.value old.nodes fresh);
    named = named_push later s.all (a.name, a.value) a.read.0 (named_later texts later s.all k s.named) a.named;
    few = omega (arith, s.few, length-append s.all ((a.name, a.value) ∷ []), attribute_strict rest after a.read (attribute_exact.sound rest (a.read, after) a.found));
    reads = λ final l.
        let found : List (Text × Text) = map (pair_with (text_in final)) s.all in
        let one : (text_in final a.name, text_in final a.value) ≡ a.read = pair (text_kept later final a.name a.read.0 a.named l) (text_kept later final a.value a.read.1 a.valued l) in
        let grown : map (pair_with (text_in final)) (s.all ++ (a.name, a.value) ∷ []) ≡ found ++ a.read ∷ [] = map-append (pair_with (text_in final)) s.all ((a.name, a.value) ∷ []) ∙ ap (λ z. found ++ z ∷ []) one in
        ap (λ z. w.attributes_from z (m - (i + 1)) after) grown
        ∙ ap (λ b. cond b None (w.attributes_from (found ++ a.read ∷ []) (m - (i + 1)) after)) (sym (tested later final a.name a.read.0 k l d a.named ∙ a.first))
        ∙ ap (option_and_then (λ (x : (Text × Text) × List ℕ). cond (is_named bytes_eq x.0.0 found) None (w.attributes_from (found ++ x.0 ∷ []) (m - (i + 1)) x.1))) (sym a.found)
        ∙ sym (unfold_turn found (m - (i + 1)) rest e)
        ∙ ap (λ z. w.attributes_from found z rest) (sym turns_left)
        ∙ s.reads final (later_later texts later final k l);
  }
    where
      pair : {x y : Text} {p : Text × Text} → x ≡ p.0 → y ≡ p.1 → (x, y) ≡ p
      pair e f = λ j. (e j, f j)

  pub so_far_missing : r.has_attribute rest ≡ true → r.attribute rest ≡ None → w.attributes bytes ≡ None
  so_far_missing e f =
      let found : List (Text × Text) = map (pair_with (text_in texts)) s.all in
      sym (s.reads texts (later_self texts)) ∙ ap (λ z. w.attributes_from found z rest) turns_left ∙ unfold_turn found (m - (i + 1)) rest e
      ∙ ap (option_and_then (λ (x : (Text × Text) × List ℕ). cond (is_named bytes_eq x.0.0 found) None (w.attributes_from (found ++ x.0 ∷ []) (m - (i + 1)) x.1))) f

  pub so_far_twice : (later : Texts) → r.has_attribute rest ≡ true → IsLater texts later → NoRepeats later → AttributeTwice later now rest → w.attributes bytes ≡ None
  so_far_twice later e k d a =
      let found : List (Text × Text) = map (pair_with (text_in later)) s.all in
      sym (s.reads later k) ∙ ap (λ z. w.attributes_from found z rest) turns_left ∙ unfold_turn found (m - (i + 1)) rest e
      ∙ ap (option_and_then (λ (x : (Text × Text) × List ℕ). cond (is_named bytes_eq x.0.0 found) None (w.attributes_from (found ++ x.0 ∷ []) (m - (i + 1)) x.1))) a.found
      ∙ ap (λ b. cond b None (w.attributes_from (found ++ a.read ∷ []) (m - (i + 1)) a.rest)) (tested later later a.name a.read.0 k (later_self later) d a.named ∙ a.again)

  pub so_far_ends : r.has_attribute rest ≡ false → AttributesAdded texts old now bytes rest
  so_far_ends e = record {
    all = s.all;
    added = s.added;
    found = λ final k.
        let found : List (Text × Text) = map (pair_with (text_in final)) s.all in
        sym (s.reads final k) ∙ ap (λ z. w.attributes_from found z rest) turns_left ∙ unfold_end found (m - (i + 1)) rest e;
  }

pub so_far_no_turn : (texts : Texts) (old now : Spine TextId) (m i : ℕ) (rest bytes : List ℕ) → m ≤ i → IsSoFar texts old now (m - i) rest bytes → w.attributes bytes ≡ None
so_far_no_turn texts old now m i rest bytes l s =
    let none : m - i ≡ 0 = omega arith in
    let found : List (Text × Text) = map (pair_with (text_in texts)) s.all in
    sym (s.reads texts (later_self texts)) ∙ ap (λ z. w.attributes_from found z rest) none ∙ unfold_none found rest
