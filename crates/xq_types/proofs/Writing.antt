-- The text that the code makes of a type is the words joined.
use Rattle.std.proofs.Common.{◌≡◌, Bool, true, false, cond, ◌||◌, List, [], ◌∷◌, ◌++◌, codes, nat_eq, refl, sym, ap, ◌∙◌}
use Rattle.std.proofs.lemmas.List.{append-nil, append_assoc}
use Rattle.std.proofs.lemmas.Bool.{true≢false}
use Rattle.xq_base.specs.Texts.{Text, joined, is_empty_text}
use Rattle.xq_types.specs.Kinds.{Kinds, is_empty_set}
use Rattle.xq_types.specs.Types.{Typ}
use Rattle.xq_types.specs.Spelling.{word_if, kind_words, number_mark, type_text}
use Rattle.xq_types.specs.Written.{with_word, with_atoms, with_trees, with_leaves}

abbrev bar : Text
bar = codes "|"

regroup : (a b c d e : Text) → (a ++ b) ++ ((c ++ d) ++ e) ≡ (((a ++ b) ++ c) ++ d) ++ e
regroup a b c d e = sym (append_assoc (a ++ b) (c ++ d) e) ∙ ap (λ z. z ++ e) (sym (append_assoc (a ++ b) c d))

joined_last : (v : Text) (ws : List Text) (w : Text) → joined bar (v ∷ (ws ++ w ∷ [])) ≡ (joined bar (v ∷ ws) ++ bar) ++ w
joined_last v [] w = refl
joined_last v (u ∷ us) w = ap (λ z. (v ++ bar) ++ z) (joined_last u us w) ∙ regroup v bar (joined bar (u ∷ us)) bar w

-- the first word isn't empty
abbrev BeginsFull : List Text → Type 0
BeginsFull [] = Unit {0}
BeginsFull (w ∷ ws) = is_empty_text w ≡ false

one_more : (ws : List Text) (b : Bool) (w : Text) → BeginsFull ws → with_word b w (joined bar ws) ≡ joined bar (ws ++ word_if b w)
one_more ws false w full = ap (joined bar) (sym (append-nil ws))
one_more [] true w full = refl
one_more ([] ∷ ws) true w full = absurd (true≢false full)
one_more ((c ∷ cs) ∷ []) true w full = sym (joined_last (c ∷ cs) [] w)
one_more ((c ∷ cs) ∷ v ∷ vs) true w full = sym (joined_last (c ∷ cs) (v ∷ vs) w)

still_full : (ws : List Text) (b : Bool) (w : Text) → is_empty_text w ≡ false → BeginsFull ws → BeginsFull (ws ++ word_if b w)
still_full [] false w is full = tt
still_full [] true w is full = is
still_full (v ∷ vs) b w is full = full

-- a text is these words joined
record Spelled (t : Text) (ws : List Text) : Type 0 where
  text : t ≡ joined bar ws
  full : BeginsFull ws

behind : (t : Text) (ws : List Text) (b : Bool) (w : Text) → is_empty_text w ≡ false → Spelled t ws → Spelled (with_word b w t) (ws ++ word_if b w)
behind t ws b w is h = record { text = ap (with_word b w) h.text ∙ one_more ws b w h.full; full = still_full ws b w is h.full }

atoms_spelled : (ks : Kinds) → Spelled (with_atoms ks []) (word_if ks.integer (codes "integer") ++ word_if ks.text (codes "string") ++ word_if ks.boolean (codes "boolean") ++ word_if ks.untyped (codes "untyped"))
atoms_spelled ks = behind _ _ ks.untyped (codes "untyped") refl (behind _ _ ks.boolean (codes "boolean") refl (behind _ _ ks.text (codes "string") refl (behind [] [] ks.integer (codes "integer") refl (record { text = refl; full = tt }))))

trees_spelled : (ks : Kinds) (t : Text) (ws : List Text) → Spelled t ws → Spelled (with_trees ks t) (ws ++ word_if ks.element (codes "element") ++ word_if ks.attribute (codes "attribute") ++ word_if ks.text_node (codes "text"))
trees_spelled ks t ws h = behind _ _ ks.text_node (codes "text") refl (behind _ _ ks.attribute (codes "attribute") refl (behind t ws ks.element (codes "element") refl h))

leaves_spelled : (ks : Kinds) (t : Text) (ws : List Text) → Spelled t ws → Spelled (with_leaves ks t) (ws ++ word_if ks.comment (codes "comment") ++ word_if ks.instruction (codes "pi") ++ word_if ks.document (codes "document"))
leaves_spelled ks t ws h = behind _ _ ks.document (codes "document") refl (behind _ _ ks.instruction (codes "pi") refl (behind t ws ks.comment (codes "comment") refl h))

written : (ks : Kinds) → with_leaves ks (with_trees ks (with_atoms ks [])) ≡ joined bar (kind_words ks)
written ks = (leaves_spelled ks _ _ (trees_spelled ks _ _ (atoms_spelled ks))).text

pub full_text : (ty : Typ) (text : Text) → nat_eq ty.most 0 ≡ false → is_empty_set ty.kinds ≡ false → text ≡ with_leaves ty.kinds (with_trees ty.kinds (with_atoms ty.kinds [])) ++ number_mark ty.least ty.most → text ≡ type_text ty
full_text ty text most kinds is =
    is ∙ ap (λ z. z ++ number_mark ty.least ty.most) (written ty.kinds)
    ∙ sym (ap (λ b. cond b (codes "empty") (joined (codes "|") (kind_words ty.kinds) ++ number_mark ty.least ty.most)) (ap (λ b. b || is_empty_set ty.kinds) most ∙ kinds))
