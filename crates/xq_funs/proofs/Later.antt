-- What a pool that grew leaves as it was.
use Rattle.std.proofs.Common.{◌≡◌, ◌≤◌, true, List, [], ◌∷◌, length, take, refl, ap, ◌∙◌, arith}
use Rattle.xq_base.specs.declared.item.Item.{Item as Held}
use Rattle.xq_base.specs.declared.item.Item.TheVariants as i
use Rattle.xq_base.specs.declared.item.Atom.{Atom as HeldAtom}
use Rattle.xq_base.specs.declared.item.Atom.TheVariants as a
use Rattle.xq_base.specs.Texts.{Text}
use Rattle.xq_base.specs.Atoms.{TextAtom, UntypedAtom}
use Rattle.doc_table.specs.Items.{item_of}
use Rattle.doc_table.specs.Values.{atomized}
use Rattle.doc_table.specs.Given.{trees_given}
use Rattle.doc_table.specs.Stores.{Holdings}
use Rattle.doc_table.specs.StoredItems.{trees_of, ItemGiven}
use Rattle.doc_table.proofs.GivenLaws.{is_given_more, trees_given_more}
use Rattle.doc_table.proofs.LaterTexts.{text-later, item-later}
use Rattle.xq_funs.specs.Answering.{atom_in, atom_given}

heads : {A : Type 0} {a b : A} {as' bs : List A} → a ∷ as' ≡ b ∷ bs → a ≡ b
heads h = cc

tails : {A : Type 0} {a b : A} {as' bs : List A} → a ∷ as' ≡ b ∷ bs → as' ≡ bs
tails h = cc

long : (old new : List Text) → take (length old) new ≡ old → length old ≤ length new
long [] new e = omega arith
long (x ∷ xs) [] e = cc
long (x ∷ xs) (y ∷ ys) e = omega (arith, long xs ys (tails e))

pub keeps_on : (old new last : List Text) → take (length old) new ≡ old → take (length new) last ≡ new → take (length old) last ≡ old
keeps_on [] new last e d = refl
keeps_on (x ∷ xs) [] last e d = cc
keeps_on (x ∷ xs) (y ∷ ys) [] e d = cc
keeps_on (x ∷ xs) (y ∷ ys) (z ∷ zs) e d = ap (λ w. w ∷ take (length xs) zs) (heads d ∙ heads e) ∙ ap (λ w. x ∷ w) (keeps_on xs ys zs (tails e) (tails d))

module _ (old new : List Text) (later : take (length old) new ≡ old) where
  pub item_given_later : (h : Holdings) (x : Held) → ItemGiven old h x → ItemGiven new h x
  item_given_later h (i.Int n) g = tt
  item_given_later h (i.Str id) g = is_given_more (length old) (length new) (long old new later) id g
  item_given_later h (i.Untyped id) g = is_given_more (length old) (length new) (long old new later) id g
  item_given_later h (i.Bool b) g = tt
  item_given_later h (i.Node r) g = g

  pub trees_given_later : (h : Holdings) → trees_given (length old) h ≡ true → trees_given (length new) h ≡ true
  trees_given_later h g = trees_given_more (length old) (length new) (long old new later) h g

  pub atom_later : (x : HeldAtom) → atom_given (length old) x ≡ true → atom_in new x ≡ atom_in old x
  atom_later (a.Int n) g = refl
  atom_later (a.Str id) g = ap (λ t. TextAtom t) (text-later old new later id g)
  atom_later (a.Untyped id) g = ap (λ t. UntypedAtom t) (text-later old new later id g)
  atom_later (a.Bool b) g = refl

  pub atom_given_later : (x : HeldAtom) → atom_given (length old) x ≡ true → atom_given (length new) x ≡ true
  atom_given_later (a.Int n) g = refl
  atom_given_later (a.Str id) g = is_given_more (length old) (length new) (long old new later) id g
  atom_given_later (a.Untyped id) g = is_given_more (length old) (length new) (long old new later) id g
  atom_given_later (a.Bool b) g = refl

  pub atomized_later : (h : Holdings) (x : Held) → trees_given (length old) h ≡ true → ItemGiven old h x → atomized (item_of new (trees_of h) x) ≡ atomized (item_of old (trees_of h) x)
  atomized_later h x t g = ap atomized (item-later old new later h x t g)
