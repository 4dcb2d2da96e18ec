-- A token takes some of the text, and begins inside it.
use Rattle.std.proofs.Common.{◌≡◌, ℕ, zero, suc, ◌+◌, ◌-◌, ◌<◌, ◌≤◌, Bool, true, false, not, ◌&&◌, ◌||◌, ◌==◌, cond, List, [], ◌∷◌, length, Option, Some, None, option_map, nat_le, nat_lt, codes, slice_range, refl, arith}
use Rattle.std.proofs.lemmas.Grind.{common_steps}
use Rattle.xq_ast.specs.declared.token.Skip.{Skip}
use Rattle.xq_ast.specs.declared.token.Mode.{Mode}
use Rattle.xq_ast.specs.declared.token.Mode.TheVariants as m
use Rattle.xq_ast.specs.declared.token.Token.{Token}
use Rattle.xq_ast.specs.declared.token.TokenKind.{TokenKind}
use Rattle.xq_ast.specs.declared.token.TokenKind.TheVariants as k
use Rattle.xq_ast.specs.Bytes.{byte, width, char_at, is_digit, is_hex_digit, goes_on_ncname, ends, run_end, char_ends, chars_end, start, skip_from, skip_step, skip_done, from_option, follows}
use Rattle.xq_ast.specs.Values.{reference, entity, numbered, number, string_step, string_next, string_from, string_end}
use Rattle.xq_ast.specs.Tokens.{token, token_here, token_to, name, ncname_end, name_end, integer, star, less, sign, doubled, plain_sign, signed, quoted}

pub ends_ge : (is : ℕ → Bool) (text : List ℕ) (n at : ℕ) → at ≤ ends is text n at
unfolding ends
ends_ge is text zero at = omega arith
ends_ge is text (suc n) at = let h = ends_ge is text n (at + 1) in grind (arith, common_steps, h)

width_some : (b : ℕ) → 0 < width b
width_some b = grind (arith, common_steps)

pub char_ends_ge : (is : ℕ → Bool) (text : List ℕ) (n at : ℕ) → at ≤ char_ends is text n at
unfolding char_ends
char_ends_ge is text zero at = omega arith
char_ends_ge is text (suc n) at = let h = char_ends_ge is text n (at + width (byte text at)) in step _ (omega (arith, h))
  where
    step : (b : Bool) → at ≤ char_ends is text n (at + width (byte text at)) → at ≤ cond b (char_ends is text n (at + width (byte text at))) at
    step true h = h
    step false h = omega arith

-- the lower of both places that are kept, of a step
abbrev place_of : Skip → Option Skip → ℕ
place_of s None = s.at
place_of s (Some t) = t.at

abbrev back_of : Skip → Option Skip → ℕ
back_of s None = s.back
back_of s (Some t) = t.back

step_place : (text : List ℕ) (lo : ℕ) (s : Skip) → lo ≤ s.at → lo ≤ s.back → lo ≤ place_of s (skip_step text s)
step_place text lo s h g = grind (arith, common_steps)

step_back : (text : List ℕ) (lo : ℕ) (s : Skip) → lo ≤ s.at → lo ≤ s.back → lo ≤ back_of s (skip_step text s)
step_back text lo s h g = grind (arith, common_steps)

skip_ge : (text : List ℕ) (n lo : ℕ) (s : Skip) → lo ≤ s.at → lo ≤ s.back → lo ≤ skip_from text n s
unfolding skip_from
skip_ge text zero lo s h g = grind (arith, common_steps)
skip_ge text (suc n) lo s h g = at (skip_ge text n lo) (skip_step text s) (step_place text lo s h g) (step_back text lo s h g)
  where
    done : lo ≤ skip_done s
    done = grind (arith, common_steps)

    at : ((r : Skip) → lo ≤ r.at → lo ≤ r.back → lo ≤ skip_from text n r) → (o : Option Skip) → lo ≤ place_of s o → lo ≤ back_of s o → lo ≤ from_option o (skip_done s) (skip_from text n)
    at next None a b = done
    at next (Some r) a b = next r a b

pub start_ge : (text : List ℕ) (at : ℕ) → at ≤ start text at
start_ge text at = skip_ge text (length text) at _ (omega arith) (omega arith)

ncname_end_ge : (text : List ℕ) (at : ℕ) → at < ncname_end text at
ncname_end_ge text at = omega (arith, width_some (byte text at), char_ends_ge goes_on_ncname text (length text - (at + width (byte text at))) (at + width (byte text at)))

name_end_step : (b : Bool) (at e f : ℕ) → at < e → e < f → at < cond b f e
name_end_step true at e f h g = omega (arith, h, g)
name_end_step false at e f h g = h

pub name_end_ge : (text : List ℕ) (at : ℕ) → at < name_end text at
name_end_ge text at = name_end_step _ at (ncname_end text at) (ncname_end text (ncname_end text at + 1)) (ncname_end_ge text at) (omega (arith, ncname_end_ge text (ncname_end text at + 1)))

-- where a token ends, or the next place where there is none
abbrev pub end_or : ℕ → Option Token → ℕ
end_or at None = at + 1
end_or at (Some t) = t.end

name_ge : (text : List ℕ) (at : ℕ) → at < (name text at).end
name_ge text at = step _ (ncname_end text at) (name_end text at) (ncname_end_ge text at) (name_end_ge text at)
  where
    step : (b : Bool) (e f : ℕ) → at < e → at < f → at < (cond {A = Token} b (token_to k.PrefixStar at (e + 2)) (token_to k.Name at f)).end
    step true e f h g = omega (arith, h)
    step false e f h g = g

integer_ge : (text : List ℕ) (at : ℕ) → at < end_or at (integer text at)
integer_ge text at = step _ _ (run_end is_digit text (at + 1)) (ends_ge is_digit text (length text - (at + 1)) (at + 1))
  where
    step : (b c : Bool) (e : ℕ) → at + 1 ≤ e → at < end_or at (cond {A = Option Token} b (Some (token_to k.Decimal at e)) (cond c None (Some (token_to k.Integer at e))))
    step true c e h = omega (arith, h)
    step false true e h = omega arith
    step false false e h = omega (arith, h)

star_step : (b : Bool) (at e : ℕ) → at < e → at < (cond {A = Token} b (token_to k.StarName at e) (token_to k.Star at (at + 1))).end
star_step true at e h = h
star_step false at e h = omega arith

star_ge : (text : List ℕ) (at : ℕ) (mode : Mode) → at < (star text at mode).end
star_ge text at m.Operator = omega arith
star_ge text at m.Operand = star_step _ at (ncname_end text (at + 2)) (omega (arith, ncname_end_ge text (at + 2)))

-- the length of a sign, if there is one
abbrev len_of : Option (TokenKind × ℕ) → ℕ
len_of None = 1
len_of (Some x) = x.1

plain_len : (b : ℕ) → 0 < len_of (plain_sign b)
plain_len b = grind (arith, common_steps)

less_len : (next : ℕ) (mode : Mode) → 0 < (less next mode).1
less_len next mode = grind (arith, common_steps)

doubled_len : (b next : ℕ) → 0 < len_of (doubled b next)
doubled_len b next = grind (arith, common_steps, plain_len)

sign_len : (b next : ℕ) (mode : Mode) → 0 < len_of (sign b next mode)
sign_len b next mode = step (b == 40) (next == 35) (next == 58) (b == 33) (next == 61) (b == 60) (b == 62) (next == 62) (less next mode) (doubled b next) (less_len next mode) (doubled_len b next)
  where
    step : (b1 n1 n2 b2 n3 b3 b4 n4 : Bool) (x : TokenKind × ℕ) (o : Option (TokenKind × ℕ)) → 0 < x.1 → 0 < len_of o
        → 0 < len_of (cond b1 (cond n1 (Some (k.Pragma, 2)) (cond n2 None (Some (k.Open, 1)))) (cond b2 (cond n3 (Some (k.Unequal, 2)) None) (cond b3 (Some x) (cond b4 (cond n3 (Some (k.AtLeast, 2)) (cond n4 (Some (k.Follows, 2)) (Some (k.Greater, 1)))) o))))
    step true true n2 b2 n3 b3 b4 n4 x o h g = omega arith
    step true false true b2 n3 b3 b4 n4 x o h g = omega arith
    step true false false b2 n3 b3 b4 n4 x o h g = omega arith
    step false n1 n2 true true b3 b4 n4 x o h g = omega arith
    step false n1 n2 true false b3 b4 n4 x o h g = omega arith
    step false n1 n2 false n3 true b4 n4 x o h g = h
    step false n1 n2 false true false true n4 x o h g = omega arith
    step false n1 n2 false false false true true x o h g = omega arith
    step false n1 n2 false false false true false x o h g = omega arith
    step false n1 n2 false n3 false false n4 x o h g = g

signed_ge : (at : ℕ) (o : Option (TokenKind × ℕ)) → 0 < len_of o → at < end_or at (option_map (λ (x : TokenKind × ℕ). token_to x.0 at (at + x.1)) o)
signed_ge at None h = omega arith
signed_ge at (Some x) h = omega (arith, h)

-- a place, or the next one where there is none
abbrev pub place_or : ℕ → Option ℕ → ℕ
place_or at None = at + 1
place_or at (Some e) = e

-- the place after a reference, or the next one where there is none
abbrev pub behind_or : ℕ → Option (ℕ × ℕ) → ℕ
behind_or at None = at + 1
behind_or at (Some r) = r.1

entity_ge : (text : List ℕ) (at : ℕ) → at < behind_or at (entity text at)
entity_ge text at = step _ _ _ _ _
  where
    step : (b1 b2 b3 b4 b5 : Bool) → at < behind_or at (cond {A = Option (ℕ × ℕ)} b1 (Some (38, at + 5)) (cond b2 (Some (60, at + 4)) (cond b3 (Some (62, at + 4)) (cond b4 (Some (34, at + 6)) (cond b5 (Some (39, at + 6)) None)))))
    step true _ _ _ _ = omega arith
    step false true _ _ _ = omega arith
    step false false true _ _ = omega arith
    step false false false true _ = omega arith
    step false false false false true = omega arith
    step false false false false false = omega arith

numbered_ge : (radix : ℕ) (text : List ℕ) (lo at to : ℕ) → lo ≤ to → lo < behind_or lo (numbered radix text at to)
numbered_ge radix text lo at to l = step _ (number radix 0 (slice_range text at to))
  where
    step : (b : Bool) (c : ℕ) → lo < behind_or lo (cond {A = Option (ℕ × ℕ)} b (Some (c, to + 1)) None)
    step true c = omega (arith, l)
    step false c = omega arith

pub reference_ge : (text : List ℕ) (at : ℕ) → at < behind_or at (reference text at)
unfolding reference
reference_ge text at =
    step (follows (codes "&#x") text at) (follows (codes "&#") text at) (numbered 16 text (at + 3) (run_end is_hex_digit text (at + 3))) (numbered 10 text (at + 2) (run_end is_digit text (at + 2))) (entity text at)
    (numbered_ge 16 text at (at + 3) (run_end is_hex_digit text (at + 3)) (omega (arith, ends_ge is_hex_digit text (length text - (at + 3)) (at + 3))))
    (numbered_ge 10 text at (at + 2) (run_end is_digit text (at + 2)) (omega (arith, ends_ge is_digit text (length text - (at + 2)) (at + 2)))) (entity_ge text at)
  where
    step : (b c : Bool) (x y z : Option (ℕ × ℕ)) → at < behind_or at x → at < behind_or at y → at < behind_or at z → at < behind_or at (cond b x (cond c y z))
    step true c x y z h g i = h
    step false true x y z h g i = g
    step false false x y z h g i = i

-- the place that a step in a string comes to, or the next one
abbrev step_or : ℕ → Option (Bool × ℕ) → ℕ
step_or at None = at + 1
step_or at (Some s) = s.1

string_step_ge : (quote : ℕ) (text : List ℕ) (at : ℕ) → at < step_or at (string_step quote text at)
string_step_ge quote text at =
    step (nat_le (length text) at) (byte text at == quote) (byte text (at + 1) == quote) (byte text at == 38) (reference text at) (reference_ge text at)
  where
    step : (b1 b2 b3 b4 : Bool) (o : Option (ℕ × ℕ)) → at < behind_or at o
        → at < step_or at (cond b1 None (cond b2 (cond b3 (Some (false, at + 2)) (Some (true, at + 1))) (cond b4 (option_map (λ (r : ℕ × ℕ). (false, r.1)) o) (Some (false, at + 1)))))
    step true b2 b3 b4 o h = omega arith
    step false true true b4 o h = omega arith
    step false true false b4 o h = omega arith
    step false false b3 true None h = omega arith
    step false false b3 true (Some r) h = h
    step false false b3 false o h = omega arith

string_ge : (quote : ℕ) (text : List ℕ) (n at : ℕ) → at < place_or at (string_from quote text n at)
unfolding string_from
string_ge quote text zero at = omega arith
string_ge quote text (suc n) at = step (λ e. string_ge quote text n e) (string_step quote text at) (string_step_ge quote text at)
  where
    further : (e : ℕ) (o : Option ℕ) → at < e → e < place_or e o → at < place_or at o
    further e None a b = omega arith
    further e (Some f) a b = omega (arith, a, b)

    done : (b : Bool) (e : ℕ) → ((p : ℕ) → p < place_or p (string_from quote text n p)) → at < e → at < place_or at (cond b (Some e) (string_from quote text n e))
    done true e next h = h
    done false e next h = further e (string_from quote text n e) h (next e)

    step : ((e : ℕ) → e < place_or e (string_from quote text n e)) → (o : Option (Bool × ℕ)) → at < step_or at o → at < place_or at (string_next (string_from quote text n) o)
    step next None h = omega arith
    step next (Some s) h = done s.0 s.1 next h

quoted_ge : (at : ℕ) (o : Option ℕ) → at + 1 < place_or (at + 1) o → at < end_or at (option_map (token_to k.Quoted at) o)
quoted_ge at None h = omega arith
quoted_ge at (Some e) h = omega (arith, h)

-- what a token or a piece takes
pub record Spans (text : List ℕ) (at end : ℕ) : Type 0 where
  pub some : at < end
  pub inside : at < length text

-- a token ends behind its place, and stands within the text
abbrev pub Within : List ℕ → ℕ → Option Token → Type 0
Within text at None = Unit {0}
Within text at (Some t) = Spans text at t.end

token_here_within : (text : List ℕ) (lo at : ℕ) (mode : Mode) → lo ≤ at → Within text lo (token_here text at mode)
token_here_within text lo at mode l =
    step (nat_le (length text) at) refl _ _ _ _ (name text at) (integer text at) (quoted text at) (star text at mode) (signed text at mode)
    (name_ge text at) (integer_ge text at) (quoted_ge at (string_end text at) (string_ge (byte text at) text (length text) (at + 1))) (star_ge text at mode)
    (signed_ge at (sign (byte text at) (byte text (at + 1)) mode) (sign_len (byte text at) (byte text (at + 1)) mode))
  where
    within : (o : Option Token) → at < length text → at < end_or at o → Within text lo o
    within None i h = tt
    within (Some t) i h = record { some = omega (arith, l, h); inside = omega (arith, l, i) }

    step : (b : Bool) → nat_le (length text) at ≡ b → (c d e f : Bool) (n : Token) (i q : Option Token) (s : Token) (r : Option Token)
        → at < n.end → at < end_or at i → at < end_or at q → at < s.end → at < end_or at r
        → Within text lo (cond b None (cond c (Some n) (cond d i (cond e q (cond f (Some s) r)))))
    step true w c d e f n i q s r h1 h2 h3 h4 h5 = tt
    step false w true d e f n i q s r h1 h2 h3 h4 h5 = within (Some n) (grind (arith, common_steps)) h1
    step false w false true e f n i q s r h1 h2 h3 h4 h5 = within i (grind (arith, common_steps)) h2
    step false w false false true f n i q s r h1 h2 h3 h4 h5 = within q (grind (arith, common_steps)) h3
    step false w false false false true n i q s r h1 h2 h3 h4 h5 = within (Some s) (grind (arith, common_steps)) h4
    step false w false false false false n i q s r h1 h2 h3 h4 h5 = within r (grind (arith, common_steps)) h5

pub token_within : (text : List ℕ) (mode : Mode) (at : ℕ) → Within text at (token text mode at)
unfolding token
token_within text mode at = token_here_within text at (start text at) mode (start_ge text at)

-- at the end there is none
pub token_none : (text : List ℕ) (mode : Mode) (at : ℕ) → length text ≤ start text at → token text mode at ≡ None
unfolding token
token_none text mode at h = let t : nat_le (length text) (start text at) ≡ true = grind (arith, common_steps) in rw t refl
