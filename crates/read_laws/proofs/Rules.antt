-- Each rule of the grammar gives trees whose constructors have names where names belong, over nested parts that have.
use Rattle.std.proofs.Common.{◌≡◌, refl, sym, ap, ◌∙◌, subst, ℕ, if◌then◌else◌, Bool, true, false, cond, ◌||◌, ◌==◌, List, Option, Some, None}
use Rattle.std.proofs.lemmas.Bool.{eqb-true}
use Rattle.xq_ast.specs.declared.look.Due.{Due}
use Rattle.xq_ast.specs.declared.look.Due.TheVariants.{Operand, Operator, DoubleQuoted, SingleQuoted}
use Rattle.xq_ast.specs.declared.look.Look.{Look}
use Rattle.xq_ast.specs.declared.look.Look.TheVariants as k
use Rattle.xq_ast.specs.declared.leaf.BuildKind.{BuildKind}
use Rattle.xq_ast.specs.declared.leaf.BuildKind.TheVariants as build
use Rattle.xq_ast.specs.declared.leaf.Operator.{Operator as Op}
use Rattle.xq_ast.specs.Codes.{code}
use Rattle.xq_ast.specs.Look.{look}
use Rattle.xq_ast.specs.Rules.{single, element}
use Rattle.xq_ast.specs.Trees.{Name, Tree, Key, BuildName, Part, or_none}
use Rattle.xq_ast.specs.Terminals as t
use Rattle.xq_ast.specs.Terminals.{Rule, level_of, listed, placed}
use Rattle.xq_ast.specs.Direct as d
use Rattle.xq_ast.specs.Primaries as p
use Rattle.xq_ast.specs.Paths as w
use Rattle.xq_ast.specs.Operators as o
use Rattle.xq_ast.specs.Bindings as b
use Rattle.xq_ast.specs.Grammar as l
use Rattle.read_laws.proofs.Each.{Each, Perhaps}
use Rattle.read_laws.proofs.Forms as f
use Rattle.read_laws.proofs.Forms.{Good, GoodKind, GoodStep, GoodFor, GoodLet, GoodQuant, GoodClause, GoodKey, GoodName, GoodValue, GoodAttribute, GoodPart, IsThere, Names, NamesNot, GoodDeclaration}
use Rattle.read_laws.proofs.Keeping.{Over, Keeps, gives, stood, ◌&◌, passed, ended, begun, fitted, many, maybe, chained, or, elsewhere, never}

-- the kind of a constructor by the number of its class
kind_of : ℕ → BuildKind
kind_of n =
    if n == code k.ElementBuilder then build.Element else if n == code k.AttributeBuilder then build.Attribute else if n == code k.InstructionBuilder then build.Pi
    else if n == code k.DocumentBuilder then build.Document else if n == code k.TextBuilder then build.Text else build.Comment

kind_back : (x : Look) → kind_of (code x) ≡ p.build_kind x
unfolding kind_of
kind_back k.ElementBuilder = refl
kind_back _ = refl

-- the kinds of these classes
kind_as : (c x : Look) → (code x == code c) ≡ true → p.build_kind c ≡ p.build_kind x
kind_as c x h = sym (kind_back c) ∙ ap kind_of (sym (eqb-true (code x) (code c) h)) ∙ kind_back x

either_of : {P : Type 0} (a b : Bool) → (a || b) ≡ true → (a ≡ true → P) → (b ≡ true → P) → P
either_of true b h k l = k refl
either_of false b h k l = l h

named_kinds : (x : Look) → (code x == code k.ElementBuilder || code x == code k.AttributeBuilder) ≡ true → Names (p.build_kind x)
named_kinds x h =
    either_of (code x == code k.ElementBuilder) (code x == code k.AttributeBuilder) h
    (λ e. subst (λ z. Names z) (kind_as k.ElementBuilder x e) tt)
    (λ e. subst (λ z. Names z) (kind_as k.AttributeBuilder x e) tt)

instruction_kind : (x : Look) → (code x == code k.InstructionBuilder) ≡ true → Names (p.build_kind x)
instruction_kind x e = subst (λ z. Names z) (kind_as k.InstructionBuilder x e) tt

nameless_kinds : (x : Look) → (code x == code k.DocumentBuilder || (code x == code k.TextBuilder || code x == code k.CommentBuilder)) ≡ true → NamesNot (p.build_kind x)
nameless_kinds x h =
    either_of (code x == code k.DocumentBuilder) (code x == code k.TextBuilder || code x == code k.CommentBuilder) h
    (λ e. subst (λ z. NamesNot z) (kind_as k.DocumentBuilder x e) tt)
    (λ g. either_of (code x == code k.TextBuilder) (code x == code k.CommentBuilder) g
    (λ e. subst (λ z. NamesNot z) (kind_as k.TextBuilder x e) tt)
    (λ e. subst (λ z. NamesNot z) (kind_as k.CommentBuilder x e) tt))

-- the tree in an element that closes as it opened
paired : (x : Tree × Name × Option Name) → Good x.0 → Perhaps Good (d.if_paired x)
paired x g = at (d.names_agree x.1 x.2)
  where
    at : (b : Bool) → Perhaps Good (cond b (Some x.0) None)
    at true = g
    at false = tt

keys_or_none : (o : Option (List Key)) → Perhaps (Each GoodKey) o → Each GoodKey (or_none o)
keys_or_none None h = tt
keys_or_none (Some ks) h = h

-- a tree that takes a place first
rooted_good : (i : ℕ) (h : ℕ → Tree) → ((j : ℕ) → Good (h j)) → Good (h i)
rooted_good i h g = g i

module _ {x : Over Tree Tree} where
  place_first : {r : Rule (ℕ → Tree)} → Keeps x r (λ f. (i : ℕ) → Good (f i)) → Keeps x (placed r) Good
  place_first k = passed (gives rooted_good) & k

  operators_keep : {r : Rule Op} {s : Rule Tree} → Keeps x s Good → Keeps x (level_of r s) Good
  operators_keep k = place_first (chained k (λ f a h. h) (λ a g bs h i. f.chained_good a bs i g h))

  listed_keep : {A : Type 0} {Q : A → Type 0} {r : Rule A} → Keeps x r Q → Keeps x (listed r) (Each Q)
  listed_keep k = chained k (λ o a h. h) (λ a g bs h. (g, h))

module _ (x : Over Tree Tree) (one : Keeps x single Good) (two : Keeps x element Good) where
  pub expr_keeps : Keeps x t.expr Good
  unfolding t.expr
  expr_keeps = place_first (chained one (λ o a h. h) (λ a g bs h i. f.comma_good a bs i g h))

  block_keeps : Keeps x t.block Good
  unfolding t.block
  block_keeps = ended (ended (gives (λ a h. h)) & expr_keeps)

  -- primaries
  integer_keeps : Keeps x p.integer Good
  unfolding p.integer
  integer_keeps = passed (passed (gives f.integer_good))

  literal_keeps : Keeps x p.literal Good
  unfolding p.literal
  literal_keeps = passed (gives (λ n. f.text_good n.offset n.text))

  var_keeps : Keeps x p.var Good
  unfolding p.var
  var_keeps = passed (ended (passed (gives f.var_good)))

  inside_keeps : Keeps x p.inside (Perhaps Good)
  unfolding p.inside
  inside_keeps = or (ended (gives tt)) (ended (gives (λ a h. h) & expr_keeps))

  paren_keeps : Keeps x p.paren Good
  unfolding p.paren
  paren_keeps = ended (passed (gives f.paren_good)) & inside_keeps

  dot_keeps : Keeps x p.dot Good
  unfolding p.dot
  dot_keeps = ended (passed (gives f.dot_good))

  arguments_keep : Keeps x p.arguments (Each Good)
  unfolding p.arguments
  arguments_keep = or (ended (gives tt)) (ended (listed_keep one))

  call_keeps : Keeps x p.call Good
  unfolding p.call
  call_keeps = ended (passed (passed (gives f.call_good))) & arguments_keep

  abbrev NameThere : BuildName → Type 0
  NameThere n = GoodName n × IsThere n

  computed_name_keeps : Keeps x p.computed_name NameThere
  computed_name_keeps = ended (ended (gives (λ a h. (h, tt))) & expr_keeps)

  build_name_keeps : Keeps x p.build_name NameThere
  unfolding p.build_name
  build_name_keeps = or computed_name_keeps (passed (gives (λ n. (tt, tt))))

  target_name_keeps : Keeps x p.target_name NameThere
  unfolding p.target_name
  target_name_keeps = or computed_name_keeps (passed (gives (λ n. (tt, tt))))

  build_content_keeps : Keeps x p.build_content (Perhaps Good)
  unfolding p.build_content
  build_content_keeps = begun (or (ended (gives tt)) (ended (gives (λ a h. h) & expr_keeps)))

  named_builder_keeps : Keeps x p.named_builder Good
  unfolding p.named_builder
  named_builder_keeps = passed (gives f.build_good) & stood (λ at h. named_kinds (look x.text Operand at) h) & build_name_keeps & build_content_keeps

  instruction_builder_keeps : Keeps x p.instruction_builder Good
  unfolding p.instruction_builder
  instruction_builder_keeps = passed (gives f.build_good) & stood (λ at h. instruction_kind (look x.text Operand at) h) & target_name_keeps & build_content_keeps

  block_builder_keeps : Keeps x p.block_builder Good
  unfolding p.block_builder
  block_builder_keeps = passed (gives f.block_good) & stood (λ at h. nameless_kinds (look x.text Operand at) h) & block_keeps

  builder_keeps : Keeps x p.builder Good
  unfolding p.builder
  builder_keeps = or named_builder_keeps (or instruction_builder_keeps block_builder_keeps)

  -- direct constructors
  value_part_keeps : (due : Due) → Keeps x (d.value_part due) GoodValue
  unfolding d.value_part
  value_part_keeps due = or (passed (passed (gives (λ i w. tt)))) (ended (ended (passed (gives (λ i a h. h))) & expr_keeps))

  value_keeps : Keeps x d.value (Each GoodValue)
  unfolding d.value d.double_quoted d.single_quoted
  value_keeps = or (ended (begun (many (value_part_keeps DoubleQuoted)))) (ended (begun (many (value_part_keeps SingleQuoted))))

  attribute_keeps : Keeps x d.attribute GoodAttribute
  unfolding d.attribute
  attribute_keeps = ended (passed (ended (gives (λ n v h. h)))) & value_keeps

  attributes_keep : Keeps x d.attributes (Each GoodAttribute)
  unfolding d.attributes
  attributes_keep = ended (many attribute_keeps)

  comment_keeps : Keeps x d.comment Good
  unfolding d.comment
  comment_keeps = passed (passed (gives f.comment_good))

  instruction_keeps : Keeps x d.instruction Good
  unfolding d.instruction
  instruction_keeps = passed (passed (gives (λ i n. f.instruction_good i n.0 n.1)))

  direct_here_keeps : Keeps x d.direct_here Good
  unfolding d.direct_here
  direct_here_keeps = or comment_keeps (or instruction_keeps two)

  direct_keeps : Keeps x d.direct Good
  unfolding d.direct
  direct_keeps = begun direct_here_keeps

  content_part_keeps : Keeps x d.content_part GoodPart
  unfolding d.content_part
  content_part_keeps = or (passed (passed (gives (λ i w. tt)))) (or (ended (ended (passed (gives (λ i a h. h))) & expr_keeps)) (gives (λ a h. h) & direct_here_keeps))

  abbrev GoodContent : List Part × Option Name → Type 0
  GoodContent c = Each GoodPart c.0

  content_keeps : Keeps x d.content GoodContent
  unfolding d.content
  content_keeps = or (ended (gives tt)) (passed (ended (gives (λ ps h n. h)) & many content_part_keeps))

  pub elem_keeps : Keeps x d.elem Good
  unfolding d.elem
  elem_keeps = fitted (passed (ended (passed (gives (λ i n as' g c h. f.element_good i n as' g c.0 h)))) & attributes_keep & content_keeps) paired

  primary_keeps : Keeps x p.primary Good
  unfolding p.primary
  primary_keeps = or integer_keeps (or literal_keeps (or var_keeps (or paren_keeps (or dot_keeps (or call_keeps (or direct_keeps (or builder_keeps never)))))))

  -- paths
  predicate_keeps : Keeps x w.predicate Good
  unfolding w.predicate
  predicate_keeps = ended (begun expr_keeps)

  step_kind_keeps : Keeps x w.step_kind GoodKind
  unfolding w.step_kind w.axis_step w.at_step w.any_step w.named_step w.up_step
  step_kind_keeps =
      or (passed (ended (passed (gives (λ a n. tt))))) (or (passed (ended (gives (λ n. tt)))) (or (ended (gives tt)) (or (passed (gives (λ n. tt)))
      (or (passed (gives (λ n. tt))) (or (ended (gives tt)) (gives (λ a h. h) & primary_keeps))))))

  step_keeps : Keeps x w.step GoodStep
  unfolding w.step
  step_keeps = passed (gives (λ i s h ps g. (h, g))) & step_kind_keeps & many predicate_keeps

  path_keeps : Keeps x w.path Good
  unfolding w.path w.root w.deep_root
  path_keeps =
      or (passed (gives rooted_good) & elsewhere (chained step_keeps (λ o s h. h) (λ s g bs h i. f.root_path_good s bs i g h)) (gives f.root_good))
      (or (passed (gives rooted_good) & chained step_keeps (λ o s h. h) (λ s g bs h i. f.deep_path_good s bs i g h))
      (chained step_keeps (λ o s h. h) (λ s g bs h. f.here_good s bs g h)))

  -- operators
  unary_keeps : Keeps x o.unary Good
  unfolding o.unary
  unary_keeps = passed (passed (gives f.signed_good)) & path_keeps

  cast_keeps : Keeps x o.cast Good
  unfolding o.cast
  cast_keeps = passed (passed (gives f.cast_good) & unary_keeps)

  castable_keeps : Keeps x o.castable Good
  unfolding o.castable
  castable_keeps = passed (passed (gives f.castable_good) & cast_keeps)

  treat_keeps : Keeps x o.treat Good
  unfolding o.treat
  treat_keeps = passed (passed (gives f.treat_good) & castable_keeps)

  instance_keeps : Keeps x o.instance Good
  unfolding o.instance
  instance_keeps = passed (passed (gives f.instance_good) & treat_keeps)

  added_keeps : Keeps x o.added Good
  unfolding o.added o.multiplied o.union o.intersect
  added_keeps = operators_keep (operators_keep (operators_keep (operators_keep instance_keeps)))

  range_keeps : Keeps x o.range Good
  unfolding o.range o.range_end
  range_keeps = passed (gives f.compared_good) & added_keeps & maybe (passed (gives (λ g a h. h)) & added_keeps)

  comparison_keeps : Keeps x o.comparison Good
  unfolding o.comparison o.compared_to
  comparison_keeps = passed (gives f.compared_good) & range_keeps & maybe (passed (gives (λ g a h. h)) & range_keeps)

  disjunction_keeps : Keeps x o.disjunction Good
  unfolding o.disjunction o.conjunction
  disjunction_keeps = operators_keep (operators_keep comparison_keeps)

  -- binds
  for_bind_keeps : Keeps x b.for_bind GoodFor
  unfolding b.for_bind
  for_bind_keeps = ended (passed (passed (passed (gives (λ v ty p a h. h))))) & one

  let_bind_keeps : Keeps x b.let_bind GoodLet
  unfolding b.let_bind
  let_bind_keeps = ended (passed (passed (gives (λ v ty a h. h)))) & one

  quant_bind_keeps : Keeps x b.quant_bind GoodQuant
  unfolding b.quant_bind
  quant_bind_keeps = ended (passed (passed (gives (λ v ty a h. h)))) & one

  clause_keeps : (due : Due) → Keeps x (b.clause due) GoodClause
  unfolding b.clause b.for_clause b.let_clause
  clause_keeps due = or (ended (gives (λ bs h. h)) & listed_keep for_bind_keeps) (ended (gives (λ bs h. h)) & listed_keep let_bind_keeps)

  clauses_keep : Keeps x b.clauses (Each GoodClause)
  unfolding b.clauses
  clauses_keep = gives (λ c g cs h. (g, h)) & clause_keeps Operand & many (clause_keeps Operator)

  condition_keeps : Keeps x b.condition (Perhaps Good)
  unfolding b.condition
  condition_keeps = maybe (begun one)

  key_keeps : Keeps x b.key GoodKey
  unfolding b.key
  key_keeps = ended (passed (passed (gives (λ a h e g. h) & one)))

  order_keeps : Keeps x b.order (Each GoodKey)
  unfolding b.order
  order_keeps = gives keys_or_none & maybe (begun (listed_keep key_keeps))

  flwor_keeps : Keeps x b.flwor Good
  unfolding b.flwor
  flwor_keeps = ended (passed (gives f.flwor_good) & clauses_keep & condition_keeps & order_keeps) & one

  quantified_keeps : Keeps x b.quantified Good
  unfolding b.quantified
  quantified_keeps = ended (passed (passed (gives f.quantified_good)) & listed_keep quant_bind_keeps) & one

  conditional_keeps : Keeps x b.conditional Good
  unfolding b.conditional
  conditional_keeps = ended (ended (ended (ended (ended (passed (gives f.if_good))) & expr_keeps)) & one) & one

  pub level_keeps : Keeps x b.level Good
  unfolding b.level
  level_keeps = or flwor_keeps (or quantified_keeps (or conditional_keeps (or never disjunction_keeps)))

  -- what nests no deeper
  pub no_level_keeps : Keeps x l.no_level Good
  unfolding l.no_level
  no_level_keeps = or never never

  pub no_element_keeps : Keeps x l.no_element Good
  unfolding l.no_element
  no_element_keeps = never

  -- declarations
  var_decl_keeps : Keeps x l.var_decl GoodDeclaration
  unfolding l.var_decl l.initial
  var_decl_keeps = passed (passed (ended (ended (passed (gives (λ i v ty a h. h)))))) & or never (begun one)

  fun_decl_keeps : Keeps x l.fun_decl GoodDeclaration
  unfolding l.fun_decl l.body
  fun_decl_keeps = passed (passed (ended (passed (ended (ended (passed (gives (λ i n ps ty a h. h)))))))) & or never block_keeps

  pub declaration_keeps : Keeps x l.declaration GoodDeclaration
  unfolding l.declaration
  declaration_keeps = ended (or var_decl_keeps (or fun_decl_keeps never))
