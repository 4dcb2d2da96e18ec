-- The rows of the shapes' forms.
use Rattle.std.proofs.Common.{◌≡◌, ℕ, ◌+◌, ◌≤◌, true, List, [], ◌∷◌, length, map, max, Some, refl, arith}
use Rattle.std.proofs.Math.Nat.{le-max_left, le-max_right}
use Rattle.xq_base.specs.declared.item.Atom.{Atom as Constant}
use Rattle.plan_dag.specs.ItemRules.{constant_cell}
use Rattle.lift_laws.specs.Iterations.{Row}
use Rattle.lift_laws.specs.States.{single, three, column}
use Rattle.lift_laws.specs.Shapes.{pair, up, columns, four, five, pick, project, join_by, less_by, numbered_by, literal_rows, seq_rows, less, turn_map, inner_rows, item_var_rows, place_var_rows, into_rows, back_rows, chosen_rows, restrict_rows, either_rows, bare}
use Rattle.plan_dag.specs.Meaning.{same_part}
use Rattle.lift_prims.specs.Shaping.{literal_form, sequence_form, less_form, nothing_form, turn_map_form, inner_form, each_form, into_form, back_form, chosen_form, restrict_form, either_form}
use Rattle.lift_prims.proofs.Bounds.{map_long, numbered_long, by_both}
use Rattle.lift_prims.proofs.Over.{Form}

pub literal_made : (v : Constant) → Form (single ∷ []) (literal_form v) three (λ docs texts rs. literal_rows (constant_cell texts v) rs.0) (λ docs texts rs. length rs.0)
literal_made v = record { fits = refl; some = omega arith; cols_are = refl; is = λ docs texts rs. refl; few = λ docs texts rs. (omega arith, (omega arith, tt)) }

pub sequence_made : Form (three ∷ three ∷ []) sequence_form three (λ docs texts rs. seq_rows rs.0 rs.1.0) (λ docs texts rs. length rs.0 + length rs.1.0)
sequence_made = record { fits = refl; some = omega arith; cols_are = refl; is = λ docs texts rs. refl; few = λ docs texts rs. (omega arith, (omega arith, (by_both _ _ (omega arith), (by_both _ _ (omega arith), (by_both _ _ (omega arith), tt))))) }

pub less_made : Form (single ∷ single ∷ []) less_form single (λ docs texts rs. less rs.0 rs.1.0) (λ docs texts rs. length rs.0)
less_made = record { fits = refl; some = omega arith; cols_are = refl; is = λ docs texts rs. refl; few = λ docs texts rs. (omega arith, tt) }

pub nothing_made : Form [] nothing_form three (λ docs texts rs. []) (λ docs texts rs. 0)
nothing_made = record { fits = refl; some = omega arith; cols_are = refl; is = λ docs texts rs. refl; few = λ docs texts rs. (omega arith, tt) }

pub turn_map_made : Form (three ∷ []) turn_map_form four (λ docs texts rs. turn_map rs.0) (λ docs texts rs. length rs.0)
turn_map_made = record { fits = refl; some = omega arith; cols_are = refl; is = λ docs texts rs. refl; few = λ docs texts rs. (omega arith, tt) }

pub inner_made : Form (four ∷ []) inner_form single (λ docs texts rs. inner_rows rs.0) (λ docs texts rs. length rs.0)
inner_made = record { fits = refl; some = omega arith; cols_are = refl; is = λ docs texts rs. refl; few = λ docs texts rs. (omega arith, tt) }

pub item_var_made : Form (four ∷ []) (each_form 2) three (λ docs texts rs. item_var_rows rs.0) (λ docs texts rs. length rs.0)
item_var_made = record { fits = refl; some = omega arith; cols_are = refl; is = λ docs texts rs. refl; few = λ docs texts rs. (omega arith, (omega arith, tt)) }

pub place_var_made : Form (four ∷ []) (each_form 1) three (λ docs texts rs. place_var_rows rs.0) (λ docs texts rs. length rs.0)
place_var_made = record { fits = refl; some = omega arith; cols_are = refl; is = λ docs texts rs. refl; few = λ docs texts rs. (omega arith, (omega arith, tt)) }

-- the rows of a join, by those of a projection of it
kept : (n : ℕ) (f : Row → Row) (rs : List Row) → length rs ≤ max n (length (map f rs))
kept n f rs = let a = map_long f rs in let b = le-max_right n (length (map f rs)) in omega arith

pub into_made : Form (four ∷ three ∷ []) into_form three (λ docs texts rs. into_rows rs.0 rs.1.0) (λ docs texts rs. max (length rs.0) (length (into_rows rs.0 rs.1.0)))
into_made = record {
  fits = refl;
  some = omega arith;
  cols_are = refl;
  is = λ docs texts rs. refl;
  few = λ docs texts rs.
      let ps = pair 0 5 ∷ pair 1 1 ∷ pair 2 2 ∷ [] in
      let l = kept (length rs.0) (pick (columns (4 ∷ 5 ∷ 0 ∷ 1 ∷ 2 ∷ [])) ps) (join_by (columns (4 ∷ 5 ∷ [])) three (column 4) (column 0) (project four (pair 4 0 ∷ pair 5 3 ∷ []) rs.0) rs.1.0) in
      (le-max_left (length rs.0) (length (into_rows rs.0 rs.1.0)), (l, (l, tt)));
}

pub restrict_made : Form (single ∷ three ∷ []) restrict_form three (λ docs texts rs. restrict_rows rs.0 rs.1.0) (λ docs texts rs. max (length rs.0) (length (restrict_rows rs.0 rs.1.0)))
restrict_made = record {
  fits = refl;
  some = omega arith;
  cols_are = refl;
  is = λ docs texts rs. refl;
  few = λ docs texts rs.
      let ps = pair 0 0 ∷ pair 1 1 ∷ pair 2 2 ∷ [] in
      let l = kept (length rs.0) (pick (columns (4 ∷ 0 ∷ 1 ∷ 2 ∷ [])) ps) (join_by (columns (4 ∷ [])) three (column 4) (column 0) (project single (pair 4 0 ∷ []) rs.0) rs.1.0) in
      (le-max_left (length rs.0) (length (restrict_rows rs.0 rs.1.0)), (l, (l, tt)));
}

pub back_made : Form (four ∷ three ∷ []) back_form three (λ docs texts rs. back_rows rs.0 rs.1.0) (λ docs texts rs. length rs.0 + length (back_rows rs.0 rs.1.0))
back_made = record {
  fits = refl;
  some = omega arith;
  cols_are = refl;
  is = λ docs texts rs. refl;
  few = λ docs texts rs.
      let js = join_by (columns (4 ∷ 5 ∷ 6 ∷ [])) three (column 4) (column 0) (project four (pair 4 3 ∷ pair 5 0 ∷ pair 6 1 ∷ []) rs.0) rs.1.0 in
      let f = pick (columns (4 ∷ 5 ∷ 6 ∷ 0 ∷ 1 ∷ 2 ∷ [])) (pair 0 5 ∷ pair 1 1 ∷ pair 2 2 ∷ pair 3 6 ∷ []) in
      let a = map_long f js in
      let b = numbered_long bare (same_part bare four (Some (column 0))) (less_by four (up 3 ∷ up 1 ∷ [])) (map f js) [] (map f js) in
      let d = map_long (pick five (pair 0 0 ∷ pair 1 4 ∷ pair 2 2 ∷ [])) (numbered_by four (up 3 ∷ up 1 ∷ []) (Some (column 0)) (map f js)) in
      let l : length js ≤ length rs.0 + length (back_rows rs.0 rs.1.0) = omega arith in
      (omega arith, (l, (l, (l, (l, tt)))));
}

pub chosen_made : Form (three ∷ []) chosen_form single (λ docs texts rs. chosen_rows rs.0) (λ docs texts rs. length rs.0)
chosen_made = record { fits = refl; some = omega arith; cols_are = refl; is = λ docs texts rs. refl; few = λ docs texts rs. (omega arith, (omega arith, (omega arith, (omega arith, (omega arith, (omega arith, (omega arith, tt))))))) }

pub either_made : Form (three ∷ three ∷ []) either_form three (λ docs texts rs. either_rows rs.0 rs.1.0) (λ docs texts rs. length rs.0 + length rs.1.0)
either_made = record { fits = refl; some = omega arith; cols_are = refl; is = λ docs texts rs. refl; few = λ docs texts rs. (by_both _ _ (omega arith), tt) }
