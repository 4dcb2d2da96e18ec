-- A piece takes some of the text, and begins inside it.
use Rattle.std.proofs.Common.{◌≡◌, ℕ, zero, suc, ◌+◌, ◌-◌, ◌<◌, ◌≤◌, Bool, true, false, not, ◌&&◌, ◌||◌, ◌==◌, cond, List, [], ◌∷◌, length, Option, Some, None, option_map, nat_le, nat_lt, codes, refl, arith}
use Rattle.std.proofs.lemmas.Grind.{common_steps}
use Rattle.xq_base.specs.Chars.{is_name_char}
use Rattle.xq_ast.specs.declared.token.DirPlace.{DirPlace}
use Rattle.xq_ast.specs.declared.token.DirPlace.TheVariants as place_
use Rattle.xq_ast.specs.declared.token.PieceKind.{PieceKind}
use Rattle.xq_ast.specs.declared.token.PieceKind.TheVariants as p
use Rattle.xq_ast.specs.declared.token.Piece.{Piece}
use Rattle.xq_ast.specs.Bytes.{byte, char_at, begins_ncname, is_white, run_end, from_option, follows, found, find}
use Rattle.xq_ast.specs.Values.{reference}
use Rattle.xq_ast.specs.Tokens.{name_end}
use Rattle.xq_ast.specs.Pieces.{piece, piece_to, one, up_to, referred, run, plain, quote, in_place, in_tag, in_value, in_markup, in_content, brace, is_content, is_value, comment_end, cdata_end, instruction_end, target_end, is_target}
use Rattle.xq_ast.proofs.Spans.{Spans, ends_ge, char_ends_ge, name_end_ge, reference_ge, behind_or, place_or}

-- where a piece ends, or the next place where there is none
abbrev piece_or : ℕ → Option Piece → ℕ
piece_or at None = at + 1
piece_or at (Some x) = x.end

found_ge : (word text : List ℕ) (n at : ℕ) → at < place_or at (option_map (λ e. e + 1) (found word text n at))
unfolding found
found_ge word text zero at = omega arith
found_ge word text (suc n) at = step _ (found word text n (at + 1)) (found_ge word text n (at + 1))
  where
    step : (b : Bool) (o : Option ℕ) → at + 1 < place_or (at + 1) (option_map (λ e. e + 1) o) → at < place_or at (option_map (λ e. e + 1) (cond b (Some at) o))
    step true o h = omega arith
    step false None h = omega arith
    step false (Some e) h = omega (arith, h)

of_end : (kind : PieceKind) (at : ℕ) (o : Option ℕ) → at < place_or at o → at < piece_or at (up_to kind at o)
of_end kind at None h = omega arith
of_end kind at (Some e) h = h

of_pair : (kind : PieceKind) (at : ℕ) (o : Option (ℕ × ℕ)) → at < behind_or at o → at < piece_or at (option_map (λ (r : ℕ × ℕ). piece_to kind at r.1) o)
of_pair kind at None h = omega arith
of_pair kind at (Some e) h = h

comment_ge : (text : List ℕ) (at : ℕ) → at < place_or at (comment_end text at)
comment_ge text at = step (find (codes "--") text (at + 4)) (found_ge (codes "--") text (length text - (at + 4)) (at + 4))
  where
    closed : (b : Bool) (e : ℕ) → at + 4 < e + 1 → at < place_or at (cond b (Some (e + 3)) None)
    closed true e h = omega (arith, h)
    closed false e h = omega arith

    step : (o : Option ℕ) → at + 4 < place_or (at + 4) (option_map (λ e. e + 1) o) → at < place_or at (from_option o None (λ e. cond (byte text (e + 2) == 62) (Some (e + 3)) None))
    step None h = omega arith
    step (Some e) h = closed (byte text (e + 2) == 62) e h

behind_three : (lo at : ℕ) (o : Option ℕ) → lo ≤ at → at < place_or at (option_map (λ e. e + 1) o) → lo < place_or lo (option_map (λ e. e + 3) o)
behind_three lo at None l h = omega arith
behind_three lo at (Some e) l h = omega (arith, l, h)

behind_two : (lo at : ℕ) (o : Option ℕ) → lo ≤ at → at < place_or at (option_map (λ e. e + 1) o) → lo < place_or lo (option_map (λ e. e + 2) o)
behind_two lo at None l h = omega arith
behind_two lo at (Some e) l h = omega (arith, l, h)

cdata_ge : (text : List ℕ) (at : ℕ) → at < place_or at (cdata_end text at)
cdata_ge text at = behind_three at (at + 9) (find (codes "]]>") text (at + 9)) (omega arith) (found_ge (codes "]]>") text (length text - (at + 9)) (at + 9))

instruction_ge : (text : List ℕ) (at : ℕ) → at < place_or at (instruction_end text at)
instruction_ge text at =
    step (not (is_target text at)) (follows (codes "?>") text (target_end text at)) (is_white (byte text (target_end text at))) (target_end text at) (option_map (λ f. f + 2) (find (codes "?>") text (run_end is_white text (target_end text at)))) e
    (behind_two at (run_end is_white text (target_end text at)) (find (codes "?>") text (run_end is_white text (target_end text at))) (omega (arith, e, w)) (found_ge (codes "?>") text (length text - run_end is_white text (target_end text at)) (run_end is_white text (target_end text at))))
  where
    e : at + 2 ≤ target_end text at
    e = char_ends_ge is_name_char text (length text - (at + 2)) (at + 2)

    w : target_end text at ≤ run_end is_white text (target_end text at)
    w = ends_ge is_white text (length text - target_end text at) (target_end text at)

    step : (b c d : Bool) (f : ℕ) (o : Option ℕ) → at + 2 ≤ f → at < place_or at o → at < place_or at (cond b None (cond c (Some (f + 2)) (cond d o None)))
    step true c d f o h g = omega arith
    step false true d f o h g = omega (arith, h)
    step false false true f o h g = g
    step false false false f o h g = omega arith

brace_ge : (text : List ℕ) (at : ℕ) → at < piece_or at (brace text at)
brace_ge text at = step _ _ _
  where
    step : (b c d : Bool) → at < piece_or at (cond b (cond c (one p.DoubledOpen at (at + 2)) (one p.Brace at (at + 1))) (cond d (one p.DoubledClose at (at + 2)) None))
    step true true d = omega arith
    step true false d = omega arith
    step false c true = omega arith
    step false c false = omega arith

in_tag_ge : (text : List ℕ) (at : ℕ) → at < piece_or at (in_tag text at)
in_tag_ge text at = step _ _ _ _ _ _ _ (run_end is_white text (at + 1)) (name_end text at) (ends_ge is_white text (length text - (at + 1)) (at + 1)) (name_end_ge text at)
  where
    step : (b1 b2 b3 b4 b5 b6 b7 : Bool) (e f : ℕ) → at + 1 ≤ e → at < f
        → at < piece_or at (cond b1 (one p.White at e) (cond b2 (one p.Name at f) (cond b3 (one p.Equals at (at + 1)) (cond b4 (one p.DoubleQuote at (at + 1)) (cond b5 (one p.SingleQuote at (at + 1)) (cond b6 (one p.TagEnd at (at + 1)) (cond b7 (one p.EmptyTagEnd at (at + 2)) None)))))))
    step true _ _ _ _ _ _ e f h g = omega (arith, h)
    step false true _ _ _ _ _ e f h g = g
    step false false true _ _ _ _ e f h g = omega arith
    step false false false true _ _ _ e f h g = omega arith
    step false false false false true _ _ e f h g = omega arith
    step false false false false false true _ e f h g = omega arith
    step false false false false false false true e f h g = omega arith
    step false false false false false false false e f h g = omega arith

run_ge : (is : ℕ → Bool) (text : List ℕ) (at : ℕ) → at < piece_or at (run is text at)
run_ge is text at = step (is (byte text at)) (run_end is text (at + 1)) (ends_ge is text (length text - (at + 1)) (at + 1))
  where
    step : (b : Bool) (e : ℕ) → at + 1 ≤ e → at < piece_or at (cond b (one p.Chars at e) None)
    step true e h = omega (arith, h)
    step false e h = omega arith

plain_ge : (is : ℕ → Bool) (text : List ℕ) (at : ℕ) → at < piece_or at (plain is text at)
plain_ge is text at =
    step (byte text at == 123 || byte text at == 125) (byte text at == 38) (brace text at) (referred text at) (run is text at) (brace_ge text at) (of_pair p.Reference at (reference text at) (reference_ge text at)) (run_ge is text at)
  where
    step : (b c : Bool) (x y z : Option Piece) → at < piece_or at x → at < piece_or at y → at < piece_or at z → at < piece_or at (cond b x (cond c y z))
    step true c x y z h g i = h
    step false true x y z h g i = g
    step false false x y z h g i = i

quote_ge : (closing : PieceKind) (text : List ℕ) (at : ℕ) → at < (quote closing text at).end
quote_ge closing text at = step (byte text (at + 1) == byte text at)
  where
    step : (b : Bool) → at < (cond {A = Piece} b (piece_to p.DoubledQuote at (at + 2)) (piece_to closing at (at + 1))).end
    step true = omega arith
    step false = omega arith

in_value_ge : (closing : PieceKind) (mark : ℕ) (text : List ℕ) (at : ℕ) → at < piece_or at (in_value closing mark text at)
in_value_ge closing mark text at = step (byte text at == mark) (quote closing text at) (plain (is_value mark) text at) (quote_ge closing text at) (plain_ge (is_value mark) text at)
  where
    step : (b : Bool) (x : Piece) (y : Option Piece) → at < x.end → at < piece_or at y → at < piece_or at (cond b (Some x) y)
    step true x y h g = h
    step false x y h g = g

in_markup_ge : (text : List ℕ) (at : ℕ) → at < piece_or at (in_markup text at)
in_markup_ge text at =
    step (byte text (at + 1) == 47) (follows (codes "<!--") text at) (follows (codes "<![CDATA[") text at) (byte text (at + 1) == 63) (begins_ncname (char_at text (at + 1))) (up_to p.Comment at (comment_end text at)) (up_to p.Cdata at (cdata_end text at)) (up_to p.Instruction at (instruction_end text at)) (of_end p.Comment at (comment_end text at) (comment_ge text at)) (of_end p.Cdata at (cdata_end text at) (cdata_ge text at)) (of_end p.Instruction at (instruction_end text at) (instruction_ge text at))
  where
    step : (b1 b2 b3 b4 b5 : Bool) (x y z : Option Piece) → at < piece_or at x → at < piece_or at y → at < piece_or at z
        → at < piece_or at (cond b1 (one p.EndTagStart at (at + 2)) (cond b2 x (cond b3 y (cond b4 z (cond b5 (one p.TagStart at (at + 1)) None)))))
    step true _ _ _ _ x y z h g i = omega arith
    step false true _ _ _ x y z h g i = h
    step false false true _ _ x y z h g i = g
    step false false false true _ x y z h g i = i
    step false false false false true x y z h g i = omega arith
    step false false false false false x y z h g i = omega arith

in_content_ge : (text : List ℕ) (at : ℕ) → at < piece_or at (in_content text at)
in_content_ge text at = step (byte text at == 60) (in_markup text at) (plain is_content text at) (in_markup_ge text at) (plain_ge is_content text at)
  where
    step : (b : Bool) (x y : Option Piece) → at < piece_or at x → at < piece_or at y → at < piece_or at (cond b x y)
    step true x y h g = h
    step false x y h g = g

piece_after : (text : List ℕ) (place : DirPlace) (at : ℕ) → at < piece_or at (in_place text place at)
piece_after text place_.Tag at = in_tag_ge text at
piece_after text place_.DoubleQuoted at = in_value_ge p.DoubleQuote 34 text at
piece_after text place_.SingleQuoted at = in_value_ge p.SingleQuote 39 text at
piece_after text place_.Content at = in_content_ge text at

abbrev pub PieceWithin : List ℕ → ℕ → Option Piece → Type 0
PieceWithin text at None = Unit {0}
PieceWithin text at (Some x) = Spans text at x.end

pub piece_within : (text : List ℕ) (place : DirPlace) (at : ℕ) → PieceWithin text at (piece text place at)
unfolding piece
piece_within text place at = step (nat_le (length text) at) refl (in_place text place at) (piece_after text place at)
  where
    step : (b : Bool) → nat_le (length text) at ≡ b → (o : Option Piece) → at < piece_or at o → PieceWithin text at (cond b None o)
    step true q o h = tt
    step false q None h = tt
    step false q (Some x) h = record { some = h; inside = grind (arith, common_steps) }
