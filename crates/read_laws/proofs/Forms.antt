-- Each form of a tree is built as its parts are: a constructor has a name where one belongs, for what is read.
use Rattle.std.proofs.Common.{◌≡◌, refl, sym, subst, ℕ, Bool, true, List, [], ◌∷◌, map, Option, Some, None, option_map}
use Rattle.xq_ast.specs.declared.leaf.BuildKind.{BuildKind}
use Rattle.xq_ast.specs.declared.leaf.BuildKind.TheVariants as build
use Rattle.xq_ast.specs.declared.leaf.Quantifier.{Quantifier}
use Rattle.xq_ast.specs.declared.leaf.ReadType.{ReadType}
use Rattle.xq_ast.specs.declared.node.AsRead.{AsRead}
use Rattle.xq_ast.specs.declared.node.Signed.{Signed}
use Rattle.xq_ast.specs.declared.node.Start.{Start}
use Rattle.xq_ast.specs.declared.node.Start.TheVariants as start_
use Rattle.xq_ast.specs.declared.node.Slashes.{Slashes}
use Rattle.xq_ast.specs.declared.node.Slashes.TheVariants as slashes_
use Rattle.xq_ast.specs.declared.node.StepKind.TheVariants as step_
use Rattle.xq_ast.specs.declared.node.Clause.TheVariants as clause_
use Rattle.xq_ast.specs.declared.node.BuildName.TheVariants as name_
use Rattle.xq_ast.specs.declared.node.ValuePart.TheVariants as value_
use Rattle.xq_ast.specs.declared.node.Part.TheVariants as part_
use Rattle.xq_ast.specs.declared.node.Node.TheVariants as n
use Rattle.xq_ast.specs.declared.query.Declaration.TheVariants as declaration_
use Rattle.xq_ast.specs.Trees.{Bytes, Name, Tree, Right, Step, StepKind, Behind, Clause, ForBind, LetBind, QuantBind, Key, BuildName, Attribute, Part, ValuePart, Declaration, chained, compared, typed, cast_to, signed, comma, plain, path_here, from_root, from_deep}
use Rattle.core_scope.specs.Syn.{Syn, Syns, Maybe, Binds, read}
use Rattle.core_scope.specs.Syn as s
use Rattle.core_scope.specs.Erasure as e
use Rattle.core_scope.specs.Leaves.{syn_read, read_leaves}
use Rattle.core_scope.proofs.Nodes as nodes
use Rattle.core_scope.proofs.Mapped.{mapped_rights, mapped_step, mapped_behinds, mapped_clauses, mapped_keys, mapped_quants, mapped_name, mapped_attributes, mapped_parts, mapped_fors, mapped_lets, mapped_values}
use Rattle.core_normal.specs.Sound.{has_name, is_named, Built, BuiltAll, BuiltMaybe, BuiltBinds, BuiltKeys, BuiltName, BuiltAttributes, BuiltValues, BuiltParts, BuiltDeclarations}
use Rattle.read_laws.proofs.Each.{Each, Perhaps}

-- a tree whose constructors have names where names belong
abbrev pub Good : Tree → Type 0
Good t = Built (syn_read t)

-- the same of what a tree is made of
abbrev pub GoodRight : Right → Type 0
GoodRight b = Good b.operand

abbrev pub GoodKind : StepKind → Type 0
GoodKind (step_.Walk a t) = Unit {0}
GoodKind (step_.Primary x) = Good x

abbrev pub GoodStep : Step → Type 0
GoodStep x = GoodKind x.kind × Each Good x.predicates

abbrev pub GoodBehind : Behind → Type 0
GoodBehind b = GoodStep b.step

abbrev pub GoodFor : ForBind → Type 0
GoodFor b = Good b.source

abbrev pub GoodLet : LetBind → Type 0
GoodLet b = Good b.value

abbrev pub GoodQuant : QuantBind → Type 0
GoodQuant b = Good b.source

abbrev pub GoodClause : Clause → Type 0
GoodClause (clause_.For bs) = Each GoodFor bs
GoodClause (clause_.Let bs) = Each GoodLet bs

abbrev pub GoodKey : Key → Type 0
GoodKey x = Good x.key

abbrev pub GoodName : BuildName → Type 0
GoodName name_.Absent = Unit {0}
GoodName (name_.Named x) = Unit {0}
GoodName (name_.Computed x) = Good x

abbrev pub GoodValue : ValuePart → Type 0
GoodValue (value_.Run at w) = Unit {0}
GoodValue (value_.Brace at x) = Good x

abbrev pub GoodAttribute : Attribute → Type 0
GoodAttribute a = Each GoodValue a.value

abbrev pub GoodPart : Part → Type 0
GoodPart (part_.Run at w) = Unit {0}
GoodPart (part_.Brace at x) = Good x
GoodPart (part_.Inner x) = Good x

abbrev pub GoodDeclaration : Declaration → Type 0
GoodDeclaration (declaration_.Var i v t x) = Good x
GoodDeclaration (declaration_.Fun i f ps t x) = Good x

-- a name that isn't absent
abbrev pub IsThere : BuildName → Type 0
IsThere name_.Absent = ⊥
IsThere (name_.Named x) = Unit {0}
IsThere (name_.Computed x) = Unit {0}

-- the kinds with a name and those without
abbrev pub Names : BuildKind → Type 0
Names build.Element = Unit {0}
Names build.Attribute = Unit {0}
Names build.Pi = Unit {0}
Names _ = ⊥

abbrev pub NamesNot : BuildKind → Type 0
NamesNot build.Document = Unit {0}
NamesNot build.Text = Unit {0}
NamesNot build.Comment = Unit {0}
NamesNot _ = ⊥

abbrev syn : Tree → Syn read
syn = syn_read

-- the syntax of a tree is this
turned : (t : Tree) (x : Syn read) → syn t ≡ x → Built x → Good t
turned t x q h = subst (λ y. Built y) (sym q) h

-- lists of trees
all_built : (ts : List Tree) → Each Good ts → BuiltAll (e.syns_of (map syn ts))
unfolding Built
all_built [] h = tt
all_built (t ∷ ts) h = (h.0, all_built ts h.1)

maybe_built : (t : Option Tree) → Perhaps Good t → BuiltMaybe (e.maybe_of (option_map syn t))
unfolding Built
maybe_built None h = tt
maybe_built (Some t) h = h

pub comma_good : (a : Tree) (ts : List Tree) (i : ℕ) → Good a → Each Good ts → Good (comma a ts i)
unfolding Built
comma_good a [] i g h = g
comma_good a (t ∷ ts) i g h = turned _ _ (nodes.syn_comma read_leaves AsRead i a (t ∷ ts)) (g, all_built (t ∷ ts) h)

-- operators
rights_built : (i : ℕ) (a : Syn read) (bs : List Right) → Built a → Each GoodRight bs → Built (e.to_left i a (mapped_rights bs))
unfolding Built
rights_built i a [] g h = g
rights_built i a (b ∷ bs) g h = rights_built i (s.binary i b.operator a (syn b.operand)) bs (g, h.0) h.1

chain_good : (i : ℕ) (a : Tree) (bs : List Right) → Good a → Each GoodRight bs → Good (n.Chain i a bs)
chain_good i a bs g h = turned _ _ (nodes.syn_chain read_leaves AsRead i a bs) (rights_built i (syn a) bs g h)

pub chained_good : (a : Tree) (bs : List Right) (i : ℕ) → Good a → Each GoodRight bs → Good (chained a bs i)
chained_good a [] i g h = g
chained_good a (b ∷ bs) i g h = chain_good i a (b ∷ bs) g h

pub compared_good : (i : ℕ) (a : Tree) → Good a → (o : Option Right) → Perhaps GoodRight o → Good (compared i a o)
compared_good i a g None h = g
compared_good i a g (Some b) h = chain_good i a (b ∷ []) g (h, tt)

signs_built : (xs : List Signed) (a : Syn read) → Built a → Built (e.with_signs xs a)
unfolding Built
signs_built [] a g = g
signs_built (x ∷ xs) a g = signs_built xs a g

pub signed_good : (i : ℕ) (xs : List Signed) (a : Tree) → Good a → Good (signed i xs a)
signed_good i [] a g = g
signed_good i (x ∷ xs) a g = turned _ _ (nodes.syn_signed read_leaves AsRead i (x ∷ xs) a) (signs_built (x ∷ xs) (syn a) g)

-- types behind an operand
pub instance_good : (i : ℕ) (a : Tree) → Good a → (t : Option ReadType) → Good (typed n.Instance i a t)
unfolding Built
instance_good i a g None = g
instance_good i a g (Some t) = turned _ _ (nodes.syn_instance read_leaves AsRead i a t) g

pub treat_good : (i : ℕ) (a : Tree) → Good a → (t : Option ReadType) → Good (typed n.Treat i a t)
unfolding Built
treat_good i a g None = g
treat_good i a g (Some t) = turned _ _ (nodes.syn_treat read_leaves AsRead i a t) g

pub castable_good : (i : ℕ) (a : Tree) → Good a → (t : Option (Name × Bool)) → Good (typed (cast_to n.Castable) i a t)
unfolding Built
castable_good i a g None = g
castable_good i a g (Some t) = turned _ _ (nodes.syn_castable read_leaves AsRead i a t.0 t.1) g

pub cast_good : (i : ℕ) (a : Tree) → Good a → (t : Option (Name × Bool)) → Good (typed (cast_to n.Cast) i a t)
unfolding Built
cast_good i a g None = g
cast_good i a g (Some t) = turned _ _ (nodes.syn_cast read_leaves AsRead i a t.0 t.1) g

-- paths
predicates_built : (i : ℕ) (x : Syn read) (qs : Syns read) → Built x → BuiltAll qs → Built (e.with_predicates i x qs)
unfolding Built
predicates_built i x s.no_more g h = g
predicates_built i x (s.one_more q qs) g h = (g, h)

primary_built : (i : ℕ) (from' : Maybe read) (x : Syn read) → BuiltMaybe from' → Built x → Built (e.primary_from i from' x)
unfolding Built
primary_built i s.absent x f g = g
primary_built i (s.present a) x f g = (f, g)

step_built : (i : ℕ) (kind : StepKind) (ts : List Tree) (from' : Maybe read) → BuiltMaybe from' → GoodKind kind → Each Good ts
    → Built (e.step_from read_leaves from' (mapped_step (record { offset = i; kind = kind; predicates = ts })))
unfolding Built
step_built i (step_.Walk a t) ts from' f g h = (f, all_built ts h)
step_built i (step_.Primary x) ts from' f g h = primary_built i from' _ f (predicates_built i (syn x) (e.syns_of (map syn ts)) g (all_built ts h))

start_built : (x : Start) → BuiltMaybe (e.start_of {p = read} x)
unfolding Built
start_built start_.Here = tt
start_built (start_.Root i) = tt
start_built (start_.Deep i) = (tt, tt)

slashes_built : (x : Slashes) (a : Syn read) → Built a → Built (e.behind_of x a)
unfolding Built
slashes_built slashes_.One a g = g
slashes_built (slashes_.Two i) a g = (g, tt)

behinds_built : (a : Syn read) (bs : List Behind) → Built a → Each GoodBehind bs → Built (e.path_of read_leaves a (mapped_behinds bs))
unfolding Built
behinds_built a [] g h = g
behinds_built a (b ∷ bs) g h =
    behinds_built (e.step_from read_leaves (s.present (e.behind_of b.slashes a)) (mapped_step b.step)) bs
    (step_built b.step.offset b.step.kind b.step.predicates (s.present (e.behind_of b.slashes a)) (slashes_built b.slashes a g) h.0.0 h.0.1) h.1

path_good : (x : Start) (y : Step) (bs : List Behind) → GoodStep y → Each GoodBehind bs → Good (n.Path x y bs)
path_good x y bs g h =
    turned _ _ (nodes.syn_path read_leaves AsRead x y bs)
    (behinds_built (e.step_from read_leaves (e.start_of x) (mapped_step y)) bs (step_built y.offset y.kind y.predicates (e.start_of x) (start_built x) g.0 g.1) h)

plain_good : (kind : StepKind) (ts : List Tree) (y : Step) → GoodKind kind → GoodStep y → Good (plain kind ts y)
plain_good (step_.Primary x) [] y k g = k
plain_good (step_.Primary x) (t ∷ ts) y k g = path_good start_.Here y [] g tt
plain_good (step_.Walk a t) ts y k g = path_good start_.Here y [] g tt

pub here_good : (y : Step) (bs : List Behind) → GoodStep y → Each GoodBehind bs → Good (path_here y bs)
here_good y [] g h = plain_good y.kind y.predicates y g.0 g
here_good y (b ∷ bs) g h = path_good start_.Here y (b ∷ bs) g h

pub root_path_good : (y : Step) (bs : List Behind) (i : ℕ) → GoodStep y → Each GoodBehind bs → Good (from_root y bs i)
root_path_good y bs i g h = path_good (start_.Root i) y bs g h

pub deep_path_good : (y : Step) (bs : List Behind) (i : ℕ) → GoodStep y → Each GoodBehind bs → Good (from_deep y bs i)
deep_path_good y bs i g h = path_good (start_.Deep i) y bs g h

pub root_good : (i : ℕ) → Good (n.Root i)
unfolding Built
root_good i = turned _ _ (nodes.syn_root read_leaves AsRead i) tt

-- what has no parts
pub integer_good : (i : ℕ) (x : Bytes) → Good (n.Integer i x)
unfolding Built
integer_good i x = turned _ _ (nodes.syn_integer read_leaves AsRead i x) tt

pub text_good : (i : ℕ) (x : Bytes) → Good (n.Text i x)
unfolding Built
text_good i x = turned _ _ (nodes.syn_text read_leaves AsRead i x) tt

pub var_good : (i : ℕ) (x : Name) → Good (n.Var i x)
unfolding Built
var_good i x = turned _ _ (nodes.syn_var read_leaves AsRead i x) tt

pub dot_good : (i : ℕ) → Good (n.Dot i)
unfolding Built
dot_good i = turned _ _ (nodes.syn_dot read_leaves AsRead i) tt

pub comment_good : (i : ℕ) (x : Bytes) → Good (n.Comment i x)
unfolding Built
comment_good i x = turned _ _ (nodes.syn_comment read_leaves AsRead i x) tt

pub instruction_good : (i : ℕ) (x : Name) (y : Bytes) → Good (n.Instruction i x y)
unfolding Built
instruction_good i x y = turned _ _ (nodes.syn_instruction read_leaves AsRead i x y) tt

-- what has some
pub paren_good : (i : ℕ) (t : Option Tree) → Perhaps Good t → Good (n.Paren i t)
unfolding Built
paren_good i t h = turned _ _ (nodes.syn_paren read_leaves AsRead i t) (maybe_built t h)

pub call_good : (i : ℕ) (x : Name) (ts : List Tree) → Each Good ts → Good (n.Call i x ts)
unfolding Built
call_good i x ts h = turned _ _ (nodes.syn_call read_leaves AsRead i x ts) (all_built ts h)

pub if_good : (i : ℕ) (a : Tree) → Good a → (b : Tree) → Good b → (d : Tree) → Good d → Good (n.If i a b d)
unfolding Built
if_good i a g b h d k = turned _ _ (nodes.syn_if read_leaves AsRead i a b d) (g, h, k)

-- binds
fors_built : (bs : List ForBind) (rest : Binds read) → Each GoodFor bs → BuiltBinds rest → BuiltBinds (e.for_binds_of read_leaves (mapped_fors bs) rest)
unfolding Built
fors_built [] rest h r = r
fors_built (b ∷ bs) rest h r = (h.0, fors_built bs rest h.1 r)

lets_built : (bs : List LetBind) (rest : Binds read) → Each GoodLet bs → BuiltBinds rest → BuiltBinds (e.let_binds_of read_leaves (mapped_lets bs) rest)
unfolding Built
lets_built [] rest h r = r
lets_built (b ∷ bs) rest h r = (h.0, lets_built bs rest h.1 r)

clauses_built : (cs : List Clause) → Each GoodClause cs → BuiltBinds (e.clauses_of read_leaves (mapped_clauses cs))
unfolding Built
clauses_built [] h = tt
clauses_built (clause_.For bs ∷ cs) h = fors_built bs (e.clauses_of read_leaves (mapped_clauses cs)) h.0 (clauses_built cs h.1)
clauses_built (clause_.Let bs ∷ cs) h = lets_built bs (e.clauses_of read_leaves (mapped_clauses cs)) h.0 (clauses_built cs h.1)

keys_built : (ks : List Key) → Each GoodKey ks → BuiltKeys (e.keys_of (mapped_keys ks))
unfolding Built
keys_built [] h = tt
keys_built (x ∷ ks) h = (h.0, keys_built ks h.1)

pub flwor_good : (i : ℕ) (cs : List Clause) → Each GoodClause cs → (w : Option Tree) → Perhaps Good w → (ks : List Key) → Each GoodKey ks → (x : Tree) → Good x → Good (n.Flwor i cs w ks x)
unfolding Built
flwor_good i cs c w m ks k x g = turned _ _ (nodes.syn_flwor read_leaves AsRead i cs w ks x) (clauses_built cs c, maybe_built w m, keys_built ks k, g)

quants_built : (bs : List QuantBind) → Each GoodQuant bs → BuiltBinds (e.quant_binds_of read_leaves (mapped_quants bs))
unfolding Built
quants_built [] h = tt
quants_built (b ∷ bs) h = (h.0, quants_built bs h.1)

pub quantified_good : (i : ℕ) (q : Quantifier) (bs : List QuantBind) → Each GoodQuant bs → (x : Tree) → Good x → Good (n.Quantified i q bs x)
unfolding Built
quantified_good i q bs h x g = turned _ _ (nodes.syn_quantified read_leaves AsRead i q bs x) (quants_built bs h, g)

-- constructors with a word
name_built : (x : BuildName) → GoodName x → BuiltName (e.build_name_of read_leaves (mapped_name x))
unfolding Built
name_built name_.Absent h = tt
name_built (name_.Named x) h = tt
name_built (name_.Computed x) h = h

there : (x : BuildName) → IsThere x → has_name (e.build_name_of read_leaves (mapped_name x)) ≡ true
there name_.Absent h = absurd h
there (name_.Named x) h = refl
there (name_.Computed x) h = refl

named : (kind : BuildKind) (x : BuildName) → Names kind → IsThere x → is_named kind (e.build_name_of read_leaves (mapped_name x)) ≡ true
named build.Element x k h = there x h
named build.Attribute x k h = there x h
named build.Pi x k h = there x h
named build.Text x k h = absurd k
named build.Comment x k h = absurd k
named build.Document x k h = absurd k

nameless : (kind : BuildKind) → NamesNot kind → is_named kind (e.build_name_of read_leaves (mapped_name name_.Absent)) ≡ true
nameless build.Element k = absurd k
nameless build.Attribute k = absurd k
nameless build.Pi k = absurd k
nameless build.Text k = refl
nameless build.Comment k = refl
nameless build.Document k = refl

pub build_good : (i : ℕ) (kind : BuildKind) → Names kind → (x : BuildName) → GoodName x × IsThere x → (t : Option Tree) → Perhaps Good t → Good (n.Build i kind x t)
unfolding Built
build_good i kind k x g t h = turned _ _ (nodes.syn_build read_leaves AsRead i kind x t) (named kind x k g.1, name_built x g.0, maybe_built t h)

pub block_good : (i : ℕ) (kind : BuildKind) → NamesNot kind → (t : Tree) → Good t → Good (n.Build i kind name_.Absent (Some t))
unfolding Built
block_good i kind k t g = turned _ _ (nodes.syn_build read_leaves AsRead i kind name_.Absent (Some t)) (nameless kind k, tt, g)

-- direct elements
values_built : (vs : List ValuePart) → Each GoodValue vs → BuiltValues (e.values_of read_leaves (mapped_values vs))
unfolding Built
values_built [] h = tt
values_built (value_.Run i w ∷ vs) h = values_built vs h.1
values_built (value_.Brace i x ∷ vs) h = (h.0, values_built vs h.1)

attributes_built : (as' : List Attribute) → Each GoodAttribute as' → BuiltAttributes (e.attributes_of read_leaves (mapped_attributes as'))
unfolding Built
attributes_built [] h = tt
attributes_built (a ∷ as') h = (values_built a.value h.0, attributes_built as' h.1)

parts_built : (ps : List Part) → Each GoodPart ps → BuiltParts (e.parts_of read_leaves (mapped_parts ps))
unfolding Built
parts_built [] h = tt
parts_built (part_.Run i w ∷ ps) h = parts_built ps h.1
parts_built (part_.Brace i x ∷ ps) h = (h.0, parts_built ps h.1)
parts_built (part_.Inner x ∷ ps) h = (h.0, parts_built ps h.1)

pub element_good : (i : ℕ) (x : Name) (as' : List Attribute) → Each GoodAttribute as' → (ps : List Part) → Each GoodPart ps → Good (n.Element i x as' ps)
unfolding Built
element_good i x as' g ps h = turned _ _ (nodes.syn_element read_leaves AsRead i x as' ps) (attributes_built as' g, parts_built ps h)

-- declarations
pub declarations_built : (ds : List Declaration) → Each GoodDeclaration ds → BuiltDeclarations (map (e.declaration_of read_leaves AsRead) ds)
declarations_built [] h = tt
declarations_built (declaration_.Var i v t x ∷ ds) h = (h.0, declarations_built ds h.1)
declarations_built (declaration_.Fun i f ps t x ∷ ds) h = (h.0, declarations_built ds h.1)
