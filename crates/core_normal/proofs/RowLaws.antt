-- Binds stand round what follows them, whatever that is.
use Rattle.std.proofs.Common.{◌≡◌, refl, ℕ, Option, Some, None}
use Rattle.core_meaning.specs.Types.{SequenceTest}
use Rattle.core_meaning.specs.PlainCore.{PlainCore}
use Rattle.core_scope.specs.Syn.{Syn, Binds, resolved}
use Rattle.core_scope.specs.Syn as s
use Rattle.core_normal.specs.Fresh.{Makes}
use Rattle.core_normal.specs.Around.{Around}
use Rattle.core_normal.specs.Pieces.{Inlined, Tail}
use Rattle.core_normal.specs.Normal.{nested, norm, sorted}
use Rattle.core_normal.specs.Rows.{wrapped, led, made_for, made_let, behind_for, behind_let}

module _ (base : ℕ) (bodies : ℕ → Makes Inlined) where
  -- the first bind stands round the rest
  pub for_nested : (i v : ℕ) (ty : Option SequenceTest) (at : Option (ℕ × ℕ)) (e : Syn resolved) (bs : Binds resolved) (o : ℕ) (last : Around → Makes PlainCore) (r : Around) (m : ℕ) →
      nested base bodies (s.for_bind i v ty at e bs) o last r m
      ≡ wrapped o ((made_for base bodies ty e r m).made) (nested base bodies bs o last (behind_for v at ((made_for base bodies ty e r m).made) r) ((made_for base bodies ty e r m).next))
  unfolding norm
  for_nested i v None at e bs o last r m = refl
  for_nested i v (Some w) at e bs o last r m = refl

  pub let_nested : (i v : ℕ) (ty : Option SequenceTest) (e : Syn resolved) (bs : Binds resolved) (o : ℕ) (last : Around → Makes PlainCore) (r : Around) (m : ℕ) →
      nested base bodies (s.let_bind i v ty e bs) o last r m
      ≡ wrapped o ((made_let base bodies ty e r m).made) (nested base bodies bs o last (behind_let v ((made_let base bodies ty e r m).made) r) ((made_let base bodies ty e r m).next))
  unfolding norm
  let_nested i v None e bs o last r m = refl
  let_nested i v (Some w) e bs o last r m = refl

  -- the same in front of the parts of a loop with keys
  pub for_sorted : (i v : ℕ) (ty : Option SequenceTest) (at : Option (ℕ × ℕ)) (e : Syn resolved) (bs : Binds resolved) (last : Around → Makes Tail) (r : Around) (m : ℕ) →
      sorted base bodies (s.for_bind i v ty at e bs) last r m
      ≡ led ((made_for base bodies ty e r m).made) (sorted base bodies bs last (behind_for v at ((made_for base bodies ty e r m).made) r) ((made_for base bodies ty e r m).next))
  unfolding norm
  for_sorted i v None at e bs last r m = refl
  for_sorted i v (Some w) at e bs last r m = refl

  pub let_sorted : (i v : ℕ) (ty : Option SequenceTest) (e : Syn resolved) (bs : Binds resolved) (last : Around → Makes Tail) (r : Around) (m : ℕ) →
      sorted base bodies (s.let_bind i v ty e bs) last r m
      ≡ led ((made_let base bodies ty e r m).made) (sorted base bodies bs last (behind_let v ((made_let base bodies ty e r m).made) r) ((made_let base bodies ty e r m).next))
  unfolding norm
  let_sorted i v None e bs last r m = refl
  let_sorted i v (Some w) e bs last r m = refl
