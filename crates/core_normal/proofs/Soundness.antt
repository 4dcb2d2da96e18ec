-- The parts of sound expressions, form by form: what a sound one has, and of what one is made.
use Rattle.std.proofs.Common.{◌≡◌, ℕ, true, List, ◌∷◌}
use Rattle.core_scope.specs.Syn.{how_many, resolved}
use Rattle.core_scope.specs.Syn as s
use Rattle.core_normal.specs.Sound.{In, is_named, at_vars, behind, SoundCall, Sound, SoundAll, SoundMaybe, SoundBinds, SoundKeys, SoundName, SoundAttributes, SoundValues, SoundParts, Built, BuiltAll, BuiltMaybe, BuiltBinds, BuiltKeys, BuiltName, BuiltAttributes, BuiltValues, BuiltParts}

module _ (may : ℕ → Type 0) (arity : ℕ → ℕ) where
  pub comma_has : (vs : List ℕ) (o : _) (a : _) (es : _) → Sound may arity vs (s.comma o a es) → Sound may arity vs a × SoundAll may arity vs es
  unfolding Sound
  comma_has vs o a es h = h

  pub comma_sound : (vs : List ℕ) (o : _) (a : _) (es : _) → Sound may arity vs a × SoundAll may arity vs es → Sound may arity vs (s.comma o a es)
  unfolding Sound
  comma_sound vs o a es h = h

  pub flwor_has : (vs : List ℕ) (o : _) (bs : _) (w : _) (ks : _) (e : _) → Sound may arity vs (s.flwor o bs w ks e) → SoundBinds may arity vs bs × SoundMaybe may arity (behind bs vs) w × SoundKeys may arity (behind bs vs) ks × Sound may arity (behind bs vs) e
  unfolding Sound
  flwor_has vs o bs w ks e h = h

  pub flwor_sound : (vs : List ℕ) (o : _) (bs : _) (w : _) (ks : _) (e : _) → SoundBinds may arity vs bs × SoundMaybe may arity (behind bs vs) w × SoundKeys may arity (behind bs vs) ks × Sound may arity (behind bs vs) e → Sound may arity vs (s.flwor o bs w ks e)
  unfolding Sound
  flwor_sound vs o bs w ks e h = h

  pub quantified_has : (vs : List ℕ) (o : _) (w : _) (bs : _) (e : _) → Sound may arity vs (s.quantified o w bs e) → SoundBinds may arity vs bs × Sound may arity (behind bs vs) e
  unfolding Sound
  quantified_has vs o w bs e h = h

  pub quantified_sound : (vs : List ℕ) (o : _) (w : _) (bs : _) (e : _) → SoundBinds may arity vs bs × Sound may arity (behind bs vs) e → Sound may arity vs (s.quantified o w bs e)
  unfolding Sound
  quantified_sound vs o w bs e h = h

  pub conditional_has : (vs : List ℕ) (o : _) (e : _) (a : _) (b : _) → Sound may arity vs (s.conditional o e a b) → Sound may arity vs e × Sound may arity vs a × Sound may arity vs b
  unfolding Sound
  conditional_has vs o e a b h = h

  pub conditional_sound : (vs : List ℕ) (o : _) (e : _) (a : _) (b : _) → Sound may arity vs e × Sound may arity vs a × Sound may arity vs b → Sound may arity vs (s.conditional o e a b)
  unfolding Sound
  conditional_sound vs o e a b h = h

  pub binary_has : (vs : List ℕ) (o : _) (f : _) (a : _) (b : _) → Sound may arity vs (s.binary o f a b) → Sound may arity vs a × Sound may arity vs b
  unfolding Sound
  binary_has vs o f a b h = h

  pub binary_sound : (vs : List ℕ) (o : _) (f : _) (a : _) (b : _) → Sound may arity vs a × Sound may arity vs b → Sound may arity vs (s.binary o f a b)
  unfolding Sound
  binary_sound vs o f a b h = h

  pub signed_has : (vs : List ℕ) (o : _) (g : _) (a : _) → Sound may arity vs (s.signed o g a) → Sound may arity vs a
  unfolding Sound
  signed_has vs o g a h = h

  pub signed_sound : (vs : List ℕ) (o : _) (g : _) (a : _) → Sound may arity vs a → Sound may arity vs (s.signed o g a)
  unfolding Sound
  signed_sound vs o g a h = h

  pub instance_has : (vs : List ℕ) (o : _) (a : _) (t : _) → Sound may arity vs (s.instance o a t) → Sound may arity vs a
  unfolding Sound
  instance_has vs o a t h = h

  pub instance_sound : (vs : List ℕ) (o : _) (a : _) (t : _) → Sound may arity vs a → Sound may arity vs (s.instance o a t)
  unfolding Sound
  instance_sound vs o a t h = h

  pub treat_has : (vs : List ℕ) (o : _) (a : _) (t : _) → Sound may arity vs (s.treat o a t) → Sound may arity vs a
  unfolding Sound
  treat_has vs o a t h = h

  pub treat_sound : (vs : List ℕ) (o : _) (a : _) (t : _) → Sound may arity vs a → Sound may arity vs (s.treat o a t)
  unfolding Sound
  treat_sound vs o a t h = h

  pub castable_has : (vs : List ℕ) (o : _) (a : _) (k : _) (m : _) → Sound may arity vs (s.castable o a k m) → Sound may arity vs a
  unfolding Sound
  castable_has vs o a k m h = h

  pub castable_sound : (vs : List ℕ) (o : _) (a : _) (k : _) (m : _) → Sound may arity vs a → Sound may arity vs (s.castable o a k m)
  unfolding Sound
  castable_sound vs o a k m h = h

  pub cast_has : (vs : List ℕ) (o : _) (a : _) (k : _) (m : _) → Sound may arity vs (s.cast o a k m) → Sound may arity vs a
  unfolding Sound
  cast_has vs o a k m h = h

  pub cast_sound : (vs : List ℕ) (o : _) (a : _) (k : _) (m : _) → Sound may arity vs a → Sound may arity vs (s.cast o a k m)
  unfolding Sound
  cast_sound vs o a k m h = h

  pub root_sound : (vs : List ℕ) (o : _) → Sound may arity vs (s.root o)
  unfolding Sound
  root_sound vs o = tt

  pub step_has : (vs : List ℕ) (o : _) (x : _) (t : _) (a : _) (ps : _) → Sound may arity vs (s.step o x t a ps) → SoundMaybe may arity vs a × SoundAll may arity vs ps
  unfolding Sound
  step_has vs o x t a ps h = h

  pub step_sound : (vs : List ℕ) (o : _) (x : _) (t : _) (a : _) (ps : _) → SoundMaybe may arity vs a × SoundAll may arity vs ps → Sound may arity vs (s.step o x t a ps)
  unfolding Sound
  step_sound vs o x t a ps h = h

  pub through_has : (vs : List ℕ) (o : _) (a : _) (m : _) → Sound may arity vs (s.through o a m) → Sound may arity vs a × Sound may arity vs m
  unfolding Sound
  through_has vs o a m h = h

  pub through_sound : (vs : List ℕ) (o : _) (a : _) (m : _) → Sound may arity vs a × Sound may arity vs m → Sound may arity vs (s.through o a m)
  unfolding Sound
  through_sound vs o a m h = h

  pub filtered_has : (vs : List ℕ) (o : _) (a : _) (ps : _) → Sound may arity vs (s.filtered o a ps) → Sound may arity vs a × SoundAll may arity vs ps
  unfolding Sound
  filtered_has vs o a ps h = h

  pub filtered_sound : (vs : List ℕ) (o : _) (a : _) (ps : _) → Sound may arity vs a × SoundAll may arity vs ps → Sound may arity vs (s.filtered o a ps)
  unfolding Sound
  filtered_sound vs o a ps h = h

  pub integer_sound : (vs : List ℕ) (o : _) (n : _) → Sound may arity vs (s.integer o n)
  unfolding Sound
  integer_sound vs o n = tt

  pub text_sound : (vs : List ℕ) (o : _) (t : _) → Sound may arity vs (s.text o t)
  unfolding Sound
  text_sound vs o t = tt

  pub var_has : (vs : List ℕ) (o : _) (v : _) → Sound may arity vs (s.var o v) → In v vs
  unfolding Sound
  var_has vs o v h = h

  pub var_sound : (vs : List ℕ) (o : _) (v : _) → In v vs → Sound may arity vs (s.var o v)
  unfolding Sound
  var_sound vs o v h = h

  pub paren_has : (vs : List ℕ) (o : _) (e : _) → Sound may arity vs (s.paren o e) → SoundMaybe may arity vs e
  unfolding Sound
  paren_has vs o e h = h

  pub paren_sound : (vs : List ℕ) (o : _) (e : _) → SoundMaybe may arity vs e → Sound may arity vs (s.paren o e)
  unfolding Sound
  paren_sound vs o e h = h

  pub dot_sound : (vs : List ℕ) (o : _) → Sound may arity vs (s.dot o)
  unfolding Sound
  dot_sound vs o = tt

  pub call_has : (vs : List ℕ) (o : _) (f : _) (es : _) → Sound may arity vs (s.call o f es) → SoundCall may arity f (how_many es) × SoundAll may arity vs es
  unfolding Sound
  call_has vs o f es h = h

  pub call_sound : (vs : List ℕ) (o : _) (f : _) (es : _) → SoundCall may arity f (how_many es) × SoundAll may arity vs es → Sound may arity vs (s.call o f es)
  unfolding Sound
  call_sound vs o f es h = h

  pub build_has : (vs : List ℕ) (o : _) (k : _) (n : _) (e : _) → Sound may arity vs (s.build o k n e) → (is_named k n ≡ true) × SoundName may arity vs n × SoundMaybe may arity vs e
  unfolding Sound
  build_has vs o k n e h = h

  pub build_sound : (vs : List ℕ) (o : _) (k : _) (n : _) (e : _) → (is_named k n ≡ true) × SoundName may arity vs n × SoundMaybe may arity vs e → Sound may arity vs (s.build o k n e)
  unfolding Sound
  build_sound vs o k n e h = h

  pub element_has : (vs : List ℕ) (o : _) (n : _) (as' : _) (ps : _) → Sound may arity vs (s.element o n as' ps) → SoundAttributes may arity vs as' × SoundParts may arity vs ps
  unfolding Sound
  element_has vs o n as' ps h = h

  pub element_sound : (vs : List ℕ) (o : _) (n : _) (as' : _) (ps : _) → SoundAttributes may arity vs as' × SoundParts may arity vs ps → Sound may arity vs (s.element o n as' ps)
  unfolding Sound
  element_sound vs o n as' ps h = h

  pub comment_sound : (vs : List ℕ) (o : _) (t : _) → Sound may arity vs (s.comment o t)
  unfolding Sound
  comment_sound vs o t = tt

  pub instruction_sound : (vs : List ℕ) (o : _) (n : _) (t : _) → Sound may arity vs (s.instruction o n t)
  unfolding Sound
  instruction_sound vs o n t = tt

  pub no_more_sound : (vs : List ℕ) → SoundAll may arity vs s.no_more
  unfolding Sound
  no_more_sound vs = tt

  pub one_more_has : (vs : List ℕ) (e : _) (es : _) → SoundAll may arity vs (s.one_more e es) → Sound may arity vs e × SoundAll may arity vs es
  unfolding Sound
  one_more_has vs e es h = h

  pub one_more_sound : (vs : List ℕ) (e : _) (es : _) → Sound may arity vs e × SoundAll may arity vs es → SoundAll may arity vs (s.one_more e es)
  unfolding Sound
  one_more_sound vs e es h = h

  pub absent_sound : (vs : List ℕ) → SoundMaybe may arity vs s.absent
  unfolding Sound
  absent_sound vs = tt

  pub present_has : (vs : List ℕ) (e : _) → SoundMaybe may arity vs (s.present e) → Sound may arity vs e
  unfolding Sound
  present_has vs e h = h

  pub present_sound : (vs : List ℕ) (e : _) → Sound may arity vs e → SoundMaybe may arity vs (s.present e)
  unfolding Sound
  present_sound vs e h = h

  pub no_binds_sound : (vs : List ℕ) → SoundBinds may arity vs s.no_binds
  unfolding Sound
  no_binds_sound vs = tt

  pub for_bind_has : (vs : List ℕ) (i : _) (v : _) (t : _) (at : _) (e : _) (bs : _) → SoundBinds may arity vs (s.for_bind i v t at e bs) → Sound may arity vs e × SoundBinds may arity (v ∷ at_vars at vs) bs
  unfolding Sound
  for_bind_has vs i v t at e bs h = h

  pub for_bind_sound : (vs : List ℕ) (i : _) (v : _) (t : _) (at : _) (e : _) (bs : _) → Sound may arity vs e × SoundBinds may arity (v ∷ at_vars at vs) bs → SoundBinds may arity vs (s.for_bind i v t at e bs)
  unfolding Sound
  for_bind_sound vs i v t at e bs h = h

  pub let_bind_has : (vs : List ℕ) (i : _) (v : _) (t : _) (e : _) (bs : _) → SoundBinds may arity vs (s.let_bind i v t e bs) → Sound may arity vs e × SoundBinds may arity (v ∷ vs) bs
  unfolding Sound
  let_bind_has vs i v t e bs h = h

  pub let_bind_sound : (vs : List ℕ) (i : _) (v : _) (t : _) (e : _) (bs : _) → Sound may arity vs e × SoundBinds may arity (v ∷ vs) bs → SoundBinds may arity vs (s.let_bind i v t e bs)
  unfolding Sound
  let_bind_sound vs i v t e bs h = h

  pub no_keys_sound : (vs : List ℕ) → SoundKeys may arity vs s.no_keys
  unfolding Sound
  no_keys_sound vs = tt

  pub one_key_has : (vs : List ℕ) (e : _) (d : _) (g : _) (ks : _) → SoundKeys may arity vs (s.one_key e d g ks) → Sound may arity vs e × SoundKeys may arity vs ks
  unfolding Sound
  one_key_has vs e d g ks h = h

  pub one_key_sound : (vs : List ℕ) (e : _) (d : _) (g : _) (ks : _) → Sound may arity vs e × SoundKeys may arity vs ks → SoundKeys may arity vs (s.one_key e d g ks)
  unfolding Sound
  one_key_sound vs e d g ks h = h

  pub no_name_sound : (vs : List ℕ) → SoundName may arity vs s.no_name
  unfolding Sound
  no_name_sound vs = tt

  pub named_sound : (vs : List ℕ) (n : _) → SoundName may arity vs (s.named n)
  unfolding Sound
  named_sound vs n = tt

  pub computed_has : (vs : List ℕ) (e : _) → SoundName may arity vs (s.computed e) → Sound may arity vs e
  unfolding Sound
  computed_has vs e h = h

  pub computed_sound : (vs : List ℕ) (e : _) → Sound may arity vs e → SoundName may arity vs (s.computed e)
  unfolding Sound
  computed_sound vs e h = h

  pub no_attributes_sound : (vs : List ℕ) → SoundAttributes may arity vs s.no_attributes
  unfolding Sound
  no_attributes_sound vs = tt

  pub attribute_has : (vs : List ℕ) (o : _) (n : _) (ws : _) (as' : _) → SoundAttributes may arity vs (s.attribute o n ws as') → SoundValues may arity vs ws × SoundAttributes may arity vs as'
  unfolding Sound
  attribute_has vs o n ws as' h = h

  pub attribute_sound : (vs : List ℕ) (o : _) (n : _) (ws : _) (as' : _) → SoundValues may arity vs ws × SoundAttributes may arity vs as' → SoundAttributes may arity vs (s.attribute o n ws as')
  unfolding Sound
  attribute_sound vs o n ws as' h = h

  pub no_values_sound : (vs : List ℕ) → SoundValues may arity vs s.no_values
  unfolding Sound
  no_values_sound vs = tt

  pub value_run_has : (vs : List ℕ) (t : _) (ws : _) → SoundValues may arity vs (s.value_run t ws) → SoundValues may arity vs ws
  unfolding Sound
  value_run_has vs t ws h = h

  pub value_run_sound : (vs : List ℕ) (t : _) (ws : _) → SoundValues may arity vs ws → SoundValues may arity vs (s.value_run t ws)
  unfolding Sound
  value_run_sound vs t ws h = h

  pub value_brace_has : (vs : List ℕ) (e : _) (ws : _) → SoundValues may arity vs (s.value_brace e ws) → Sound may arity vs e × SoundValues may arity vs ws
  unfolding Sound
  value_brace_has vs e ws h = h

  pub value_brace_sound : (vs : List ℕ) (e : _) (ws : _) → Sound may arity vs e × SoundValues may arity vs ws → SoundValues may arity vs (s.value_brace e ws)
  unfolding Sound
  value_brace_sound vs e ws h = h

  pub no_parts_sound : (vs : List ℕ) → SoundParts may arity vs s.no_parts
  unfolding Sound
  no_parts_sound vs = tt

  pub run_has : (vs : List ℕ) (t : _) (ps : _) → SoundParts may arity vs (s.run t ps) → SoundParts may arity vs ps
  unfolding Sound
  run_has vs t ps h = h

  pub run_sound : (vs : List ℕ) (t : _) (ps : _) → SoundParts may arity vs ps → SoundParts may arity vs (s.run t ps)
  unfolding Sound
  run_sound vs t ps h = h

  pub brace_has : (vs : List ℕ) (e : _) (ps : _) → SoundParts may arity vs (s.brace e ps) → Sound may arity vs e × SoundParts may arity vs ps
  unfolding Sound
  brace_has vs e ps h = h

  pub brace_sound : (vs : List ℕ) (e : _) (ps : _) → Sound may arity vs e × SoundParts may arity vs ps → SoundParts may arity vs (s.brace e ps)
  unfolding Sound
  brace_sound vs e ps h = h

  pub inner_has : (vs : List ℕ) (e : _) (ps : _) → SoundParts may arity vs (s.inner e ps) → Sound may arity vs e × SoundParts may arity vs ps
  unfolding Sound
  inner_has vs e ps h = h

  pub inner_sound : (vs : List ℕ) (e : _) (ps : _) → Sound may arity vs e × SoundParts may arity vs ps → SoundParts may arity vs (s.inner e ps)
  unfolding Sound
  inner_sound vs e ps h = h

-- the parts of an expression whose constructors have names where names belong
pub comma_built : (o : _) (a : _) (es : _) → Built {p = resolved} (s.comma o a es) → Built a × BuiltAll es
unfolding Built
comma_built o a es h = h

pub flwor_built : (o : _) (bs : _) (w : _) (ks : _) (e : _) → Built {p = resolved} (s.flwor o bs w ks e) → BuiltBinds bs × BuiltMaybe w × BuiltKeys ks × Built e
unfolding Built
flwor_built o bs w ks e h = h

pub quantified_built : (o : _) (w : _) (bs : _) (e : _) → Built {p = resolved} (s.quantified o w bs e) → BuiltBinds bs × Built e
unfolding Built
quantified_built o w bs e h = h

pub conditional_built : (o : _) (e : _) (a : _) (b : _) → Built {p = resolved} (s.conditional o e a b) → Built e × Built a × Built b
unfolding Built
conditional_built o e a b h = h

pub binary_built : (o : _) (f : _) (a : _) (b : _) → Built {p = resolved} (s.binary o f a b) → Built a × Built b
unfolding Built
binary_built o f a b h = h

pub signed_built : (o : _) (g : _) (a : _) → Built {p = resolved} (s.signed o g a) → Built a
unfolding Built
signed_built o g a h = h

pub instance_built : (o : _) (a : _) (t : _) → Built {p = resolved} (s.instance o a t) → Built a
unfolding Built
instance_built o a t h = h

pub treat_built : (o : _) (a : _) (t : _) → Built {p = resolved} (s.treat o a t) → Built a
unfolding Built
treat_built o a t h = h

pub castable_built : (o : _) (a : _) (k : _) (m : _) → Built {p = resolved} (s.castable o a k m) → Built a
unfolding Built
castable_built o a k m h = h

pub cast_built : (o : _) (a : _) (k : _) (m : _) → Built {p = resolved} (s.cast o a k m) → Built a
unfolding Built
cast_built o a k m h = h

pub step_built : (o : _) (x : _) (t : _) (a : _) (ps : _) → Built {p = resolved} (s.step o x t a ps) → BuiltMaybe a × BuiltAll ps
unfolding Built
step_built o x t a ps h = h

pub through_built : (o : _) (a : _) (m : _) → Built {p = resolved} (s.through o a m) → Built a × Built m
unfolding Built
through_built o a m h = h

pub filtered_built : (o : _) (a : _) (ps : _) → Built {p = resolved} (s.filtered o a ps) → Built a × BuiltAll ps
unfolding Built
filtered_built o a ps h = h

pub paren_built : (o : _) (e : _) → Built {p = resolved} (s.paren o e) → BuiltMaybe e
unfolding Built
paren_built o e h = h

pub call_built : (o : _) (f : _) (es : _) → Built {p = resolved} (s.call o f es) → BuiltAll es
unfolding Built
call_built o f es h = h

pub build_built : (o : _) (k : _) (n : _) (e : _) → Built {p = resolved} (s.build o k n e) → (is_named k n ≡ true) × BuiltName n × BuiltMaybe e
unfolding Built
build_built o k n e h = h

pub element_built : (o : _) (n : _) (as' : _) (ps : _) → Built {p = resolved} (s.element o n as' ps) → BuiltAttributes as' × BuiltParts ps
unfolding Built
element_built o n as' ps h = h

pub one_more_built : (e : _) (es : _) → BuiltAll {p = resolved} (s.one_more e es) → Built e × BuiltAll es
unfolding Built
one_more_built e es h = h

pub present_built : (e : _) → BuiltMaybe {p = resolved} (s.present e) → Built e
unfolding Built
present_built e h = h

pub for_bind_built : (i : _) (v : _) (t : _) (at : _) (e : _) (bs : _) → BuiltBinds {p = resolved} (s.for_bind i v t at e bs) → Built e × BuiltBinds bs
unfolding Built
for_bind_built i v t at e bs h = h

pub let_bind_built : (i : _) (v : _) (t : _) (e : _) (bs : _) → BuiltBinds {p = resolved} (s.let_bind i v t e bs) → Built e × BuiltBinds bs
unfolding Built
let_bind_built i v t e bs h = h

pub one_key_built : (e : _) (d : _) (g : _) (ks : _) → BuiltKeys {p = resolved} (s.one_key e d g ks) → Built e × BuiltKeys ks
unfolding Built
one_key_built e d g ks h = h

pub computed_built : (e : _) → BuiltName {p = resolved} (s.computed e) → Built e
unfolding Built
computed_built e h = h

pub attribute_built : (o : _) (n : _) (vs : _) (as' : _) → BuiltAttributes {p = resolved} (s.attribute o n vs as') → BuiltValues vs × BuiltAttributes as'
unfolding Built
attribute_built o n vs as' h = h

pub value_run_built : (t : _) (vs : _) → BuiltValues {p = resolved} (s.value_run t vs) → BuiltValues vs
unfolding Built
value_run_built t vs h = h

pub value_brace_built : (e : _) (vs : _) → BuiltValues {p = resolved} (s.value_brace e vs) → Built e × BuiltValues vs
unfolding Built
value_brace_built e vs h = h

pub run_built : (t : _) (ps : _) → BuiltParts {p = resolved} (s.run t ps) → BuiltParts ps
unfolding Built
run_built t ps h = h

pub brace_built : (e : _) (ps : _) → BuiltParts {p = resolved} (s.brace e ps) → Built e × BuiltParts ps
unfolding Built
brace_built e ps h = h

pub inner_built : (e : _) (ps : _) → BuiltParts {p = resolved} (s.inner e ps) → Built e × BuiltParts ps
unfolding Built
inner_built e ps h = h
