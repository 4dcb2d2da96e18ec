-- Values of an enum that a derived comparison finds equal are equal, where this holds of each variant's fields.
use Rattle.std.proofs.Common.{◌≡◌, Bool, true, false, List, [], ◌∷◌, sym, ap, true≢false, inl, inr}
use denote.Struct.Field.{Field}
use denote.Struct.Values.{Values}
use denote.Enum.Declared.{Choice, Declared, intoss}
use denote.Enum.Compared.{Each, by}

abbrev pub Sames : (Fss : List (List Field)) → Each Bool Fss → Type 0
Sames [] each = Unit {0}
Sames (Fs ∷ Fss) each = ((x y : Values Fs) → each.0 x y ≡ true → x ≡ y) × Sames Fss each.1

pub same_choice : (Fss : List (List Field)) (each : Each Bool Fss) → Sames Fss each → (c d : Choice Fss) → by false false Fss each c d ≡ true → c ≡ d
same_choice [] each s c d e = absurd c
same_choice (Fs ∷ Fss) each s (inl x) (inl y) e = ap inl (s.0 x y e)
same_choice (Fs ∷ Fss) each s (inl x) (inr d) e = absurd (true≢false (sym e))
same_choice (Fs ∷ Fss) each s (inr c) (inl y) e = absurd (true≢false (sym e))
same_choice (Fs ∷ Fss) each s (inr c) (inr d) e = ap inr (same_choice Fss each.1 s.1 c d e)
