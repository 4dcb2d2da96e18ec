-- The declared functions that an expression calls, by their numbers, in the order of the syntax and each as often as it is called.
use Rattle.std.specs.Prelude.{ℕ, List, [], ◌∷◌, ◌++◌}
use Rattle.xq_ast.specs.declared.leaf.Callee.{Callee}
use Rattle.xq_ast.specs.declared.leaf.Callee.TheVariants as callee
use Rattle.core_scope.specs.Syn.{Syn, Syns, Maybe, Binds, Keys, BuildName, Attributes, Values, Parts, resolved}
use Rattle.core_scope.specs.Syn as s

-- a built-in function has no number
abbrev pub called_by : Callee → List ℕ
called_by (callee.Known f) = []
called_by (callee.Declared k) = k ∷ []

unfoldable mutual
  -- the calls of an expression; a call stands before those of its arguments
  pub calls_in : Syn resolved → List ℕ
  calls_in (s.comma o a es) = calls_in a ++ calls_all es
  calls_in (s.flwor o bs w ks e) = calls_binds bs ++ calls_maybe w ++ calls_keys ks ++ calls_in e
  calls_in (s.quantified o w bs e) = calls_binds bs ++ calls_in e
  calls_in (s.conditional o e a b) = calls_in e ++ calls_in a ++ calls_in b
  calls_in (s.binary o f a b) = calls_in a ++ calls_in b
  calls_in (s.signed o g a) = calls_in a
  calls_in (s.instance o a t) = calls_in a
  calls_in (s.treat o a t) = calls_in a
  calls_in (s.castable o a k m) = calls_in a
  calls_in (s.cast o a k m) = calls_in a
  calls_in (s.root o) = []
  calls_in (s.step o x t a ps) = calls_maybe a ++ calls_all ps
  calls_in (s.through o a m) = calls_in a ++ calls_in m
  calls_in (s.filtered o a ps) = calls_in a ++ calls_all ps
  calls_in (s.integer o n) = []
  calls_in (s.text o t) = []
  calls_in (s.var o v) = []
  calls_in (s.paren o e) = calls_maybe e
  calls_in (s.dot o) = []
  calls_in (s.call o f es) = called_by f ++ calls_all es
  calls_in (s.build o b n e) = calls_name n ++ calls_maybe e
  calls_in (s.element o n as' ps) = calls_attributes as' ++ calls_parts ps
  calls_in (s.comment o t) = []
  calls_in (s.instruction o n t) = []

  -- of expressions, one behind the other
  pub calls_all : Syns resolved → List ℕ
  calls_all s.no_more = []
  calls_all (s.one_more e es) = calls_in e ++ calls_all es

  -- of an expression that may be absent
  pub calls_maybe : Maybe resolved → List ℕ
  calls_maybe s.absent = []
  calls_maybe (s.present e) = calls_in e

  -- of the sequences and values of binds
  pub calls_binds : Binds resolved → List ℕ
  calls_binds s.no_binds = []
  calls_binds (s.for_bind i v t at e bs) = calls_in e ++ calls_binds bs
  calls_binds (s.let_bind i v t e bs) = calls_in e ++ calls_binds bs

  -- of the keys of a sorted loop
  pub calls_keys : Keys resolved → List ℕ
  calls_keys s.no_keys = []
  calls_keys (s.one_key e d g ks) = calls_in e ++ calls_keys ks

  -- of a constructor's name
  pub calls_name : BuildName resolved → List ℕ
  calls_name s.no_name = []
  calls_name (s.named n) = []
  calls_name (s.computed e) = calls_in e

  -- of the values of attributes
  pub calls_attributes : Attributes resolved → List ℕ
  calls_attributes s.no_attributes = []
  calls_attributes (s.attribute o n vs as') = calls_values vs ++ calls_attributes as'

  -- of an attribute's value
  pub calls_values : Values resolved → List ℕ
  calls_values s.no_values = []
  calls_values (s.value_run t vs) = calls_values vs
  calls_values (s.value_brace e vs) = calls_in e ++ calls_values vs

  -- of content
  pub calls_parts : Parts resolved → List ℕ
  calls_parts s.no_parts = []
  calls_parts (s.run t ps) = calls_parts ps
  calls_parts (s.brace e ps) = calls_in e ++ calls_parts ps
  calls_parts (s.inner e ps) = calls_in e ++ calls_parts ps
