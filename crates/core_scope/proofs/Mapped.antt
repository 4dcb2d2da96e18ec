-- The lists of a node as it is read, with the syntax of their expressions.
use Rattle.std.proofs.Common.{List, []}
use Rattle.xq_ast.specs.declared.leaf.ContentRun.{ContentRun}
use Rattle.xq_ast.specs.declared.leaf.ValueRun.{ValueRun}
use Rattle.xq_ast.specs.declared.leaf.ReadType.{ReadType}
use Rattle.xq_ast.specs.declared.node.AsRead.{AsRead}
use Rattle.xq_ast.specs.declared.node.Right.{Right as RightOf}
use Rattle.xq_ast.specs.declared.node.Step.{Step as StepOf}
use Rattle.xq_ast.specs.declared.node.Behind.{Behind as BehindOf}
use Rattle.xq_ast.specs.declared.node.Clause.{Clause as ClauseOf}
use Rattle.xq_ast.specs.declared.node.Key.{Key as KeyOf}
use Rattle.xq_ast.specs.declared.node.QuantBind.{QuantBind as QuantOf}
use Rattle.xq_ast.specs.declared.node.BuildName.{BuildName as BuildNameOf}
use Rattle.xq_ast.specs.declared.node.Attribute.{Attribute as AttributeOf}
use Rattle.xq_ast.specs.declared.node.Part.{Part as PartOf}
use Rattle.xq_ast.specs.declared.node.ForBind.{ForBind as ForOf}
use Rattle.xq_ast.specs.declared.node.LetBind.{LetBind as LetOf}
use Rattle.xq_ast.specs.declared.node.ValuePart.{ValuePart as ValueOf}
use Rattle.xq_ast.specs.Trees.{Bytes, Name as Named, Right, Step, Behind, Clause, ForBind, LetBind, QuantBind, Key, BuildName, Attribute, Part, ValuePart}
use Rattle.core_scope.specs.Syn.{Syn, read}
use Rattle.core_scope.specs.Leaves.{read_leaves}
use Rattle.core_scope.proofs.Nodes as nodes

abbrev pub mapped_rights : List Right → List (RightOf (Syn read))
mapped_rights = nodes.mapped_rights read_leaves AsRead

abbrev pub mapped_step : Step → StepOf Bytes (Syn read)
mapped_step = nodes.mapped_step read_leaves AsRead

abbrev pub mapped_behinds : List Behind → List (BehindOf Bytes (Syn read))
mapped_behinds = nodes.mapped_behinds read_leaves AsRead

abbrev pub mapped_clauses : List Clause → List (ClauseOf Named ReadType (Syn read))
mapped_clauses = nodes.mapped_clauses read_leaves AsRead

abbrev pub mapped_keys : List Key → List (KeyOf (Syn read))
mapped_keys = nodes.mapped_keys read_leaves AsRead

abbrev pub mapped_quants : List QuantBind → List (QuantOf Named ReadType (Syn read))
mapped_quants = nodes.mapped_quants read_leaves AsRead

abbrev pub mapped_name : BuildName → BuildNameOf Bytes (Syn read)
mapped_name = nodes.mapped_name read_leaves AsRead

abbrev pub mapped_attributes : List Attribute → List (AttributeOf Bytes ValueRun (Syn read))
mapped_attributes = nodes.mapped_attributes read_leaves AsRead

abbrev pub mapped_parts : List Part → List (PartOf ContentRun (Syn read))
mapped_parts = nodes.mapped_parts read_leaves AsRead

abbrev pub mapped_fors : List ForBind → List (ForOf Named ReadType (Syn read))
mapped_fors = nodes.mapped_fors read_leaves AsRead

abbrev pub mapped_lets : List LetBind → List (LetOf Named ReadType (Syn read))
mapped_lets = nodes.mapped_lets read_leaves AsRead

abbrev pub mapped_values : List ValuePart → List (ValueOf ValueRun (Syn read))
mapped_values = nodes.mapped_values read_leaves AsRead (record { offset = 0; text = [] })
