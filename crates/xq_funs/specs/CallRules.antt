-- The functions that a call takes, and when it may want memory (own rule).
use Rattle.std.specs.Prelude.{Bool, true, false, not, ◌&&◌, ◌||◌, List, [], ◌∷◌}
use Rattle.std.specs.List.{list_all}
use Rattle.xq_base.specs.declared.fun.Fun.{Fun}
use Rattle.xq_base.specs.declared.fun.Fun.TheVariants as f
use Rattle.xq_base.specs.declared.item.Item.{Item as Held}
use Rattle.xq_base.specs.declared.item.Item.TheVariants as i
use Rattle.xq_funs.specs.Answering.{is_plain}
use Rattle.xq_funs.specs.Calls.{is_unary, is_binary, is_ternary, gives_text}
use Rattle.xq_funs.specs.NodeCalls.{is_of_node, is_node_comparison}

abbrev pub is_constant : Fun → Bool
is_constant f.True = true
is_constant f.False = true
is_constant _ = false

-- two arguments or more
abbrev pub is_concat : Fun → Bool
is_concat f.Concat = true
is_concat _ = false

-- on values that are one boolean each
abbrev pub is_connective : Fun → Bool
is_connective f.And = true
is_connective f.Or = true
is_connective _ = false

abbrev pub is_boolean : Held → Bool
is_boolean (i.Int z) = false
is_boolean (i.Str id) = false
is_boolean (i.Untyped id) = false
is_boolean (i.Bool b) = true
is_boolean (i.Node r) = false

-- the functions whose arguments are single items, each with its number of arguments
abbrev pub is_call : Fun → List Held → Bool
is_call fun [] = is_constant fun
is_call fun (a ∷ []) = is_unary fun || is_of_node fun
is_call fun (a ∷ b ∷ []) = is_concat fun || (is_binary fun || (is_node_comparison fun || (is_connective fun && (is_boolean a && is_boolean b))))
is_call fun (a ∷ b ∷ c ∷ []) = is_concat fun || is_ternary fun
is_call fun (a ∷ b ∷ c ∷ d ∷ args) = is_concat fun

-- not where the arguments are integers and booleans alone and the value is no text
abbrev pub wants_memory : Fun → List Held → Bool
wants_memory fun args = gives_text fun || not (list_all is_plain args)
