-- The grammar passes the test.
use Rattle.std.proofs.Common.{◌≡◌, ℕ, true, false, List, refl}
use Rattle.xq_ast.specs.Terminals as terminalss_
use Rattle.xq_ast.specs.Types as typess_
use Rattle.xq_ast.specs.Direct as directs_
use Rattle.xq_ast.specs.Primaries as primariess_
use Rattle.xq_ast.specs.Paths as pathss_
use Rattle.xq_ast.specs.Operators as operatorss_
use Rattle.xq_ast.specs.Bindings as bindingss_
use Rattle.xq_ast.specs.Grammar as grammars_
use Rattle.xq_ast.specs.Grammar.{language}
use Rattle.xq_ast.specs.Look.{stands_one}
use Rattle.xq_parser.specs.Reading.{all_good, good, stops}
use Rattle.xq_parser.specs.Nested.{nested}

pub grammar_good : all_good nested language ≡ true
unfolding terminalss_.expr terminalss_.block typess_.plain_test typess_.target typess_.instruction_test typess_.last_argument typess_.named_argument typess_.element_test typess_.attribute_test typess_.kind_test typess_.any_item typess_.item_type typess_.occurs typess_.empty_type typess_.seq_type typess_.typ directs_.value_part directs_.double_quoted directs_.single_quoted directs_.value directs_.equals directs_.attribute directs_.attributes directs_.comment directs_.instruction directs_.direct_here directs_.direct directs_.content_part directs_.end_tag directs_.content directs_.elem primariess_.integer primariess_.literal primariess_.var primariess_.inside primariess_.paren primariess_.dot primariess_.arguments primariess_.call primariess_.build_name primariess_.target_name primariess_.build_content primariess_.named_builder primariess_.instruction_builder primariess_.block_builder primariess_.builder primariess_.primary pathss_.predicate pathss_.test pathss_.axis_step pathss_.at_step pathss_.any_step pathss_.named_step pathss_.up_step pathss_.step_kind pathss_.step pathss_.two pathss_.slashes pathss_.root pathss_.deep_root pathss_.path operatorss_.one_sign operatorss_.unary operatorss_.single_type operatorss_.cast_type operatorss_.cast operatorss_.castable_type operatorss_.castable operatorss_.treat_type operatorss_.treat operatorss_.instance_type operatorss_.instance operatorss_.intersect operatorss_.union operatorss_.times operatorss_.multiplied operatorss_.added operatorss_.range_end operatorss_.range operatorss_.compared_to operatorss_.comparison operatorss_.conjunction operatorss_.disjunction bindingss_.variable bindingss_.position bindingss_.for_bind bindingss_.let_bind bindingss_.for_clause bindingss_.let_clause bindingss_.clause bindingss_.clauses bindingss_.condition bindingss_.descending bindingss_.empty_greatest bindingss_.collation bindingss_.key bindingss_.order bindingss_.flwor bindingss_.quant_bind bindingss_.quantified bindingss_.conditional bindingss_.level grammars_.no_level grammars_.no_element grammars_.encoding grammars_.version grammars_.strip grammars_.setter grammars_.initial grammars_.var_decl grammars_.param grammars_.params grammars_.body grammars_.fun_decl grammars_.declaration grammars_.declarations grammars_.prolog grammars_.query
grammar_good = refl

pub query_good : good nested grammars_.query ≡ true
unfolding terminalss_.expr terminalss_.block typess_.plain_test typess_.target typess_.instruction_test typess_.last_argument typess_.named_argument typess_.element_test typess_.attribute_test typess_.kind_test typess_.any_item typess_.item_type typess_.occurs typess_.empty_type typess_.seq_type typess_.typ directs_.value_part directs_.double_quoted directs_.single_quoted directs_.value directs_.equals directs_.attribute directs_.attributes directs_.comment directs_.instruction directs_.direct_here directs_.direct directs_.content_part directs_.end_tag directs_.content directs_.elem primariess_.integer primariess_.literal primariess_.var primariess_.inside primariess_.paren primariess_.dot primariess_.arguments primariess_.call primariess_.build_name primariess_.target_name primariess_.build_content primariess_.named_builder primariess_.instruction_builder primariess_.block_builder primariess_.builder primariess_.primary pathss_.predicate pathss_.test pathss_.axis_step pathss_.at_step pathss_.any_step pathss_.named_step pathss_.up_step pathss_.step_kind pathss_.step pathss_.two pathss_.slashes pathss_.root pathss_.deep_root pathss_.path operatorss_.one_sign operatorss_.unary operatorss_.single_type operatorss_.cast_type operatorss_.cast operatorss_.castable_type operatorss_.castable operatorss_.treat_type operatorss_.treat operatorss_.instance_type operatorss_.instance operatorss_.intersect operatorss_.union operatorss_.times operatorss_.multiplied operatorss_.added operatorss_.range_end operatorss_.range operatorss_.compared_to operatorss_.comparison operatorss_.conjunction operatorss_.disjunction bindingss_.variable bindingss_.position bindingss_.for_bind bindingss_.let_bind bindingss_.for_clause bindingss_.let_clause bindingss_.clause bindingss_.clauses bindingss_.condition bindingss_.descending bindingss_.empty_greatest bindingss_.collation bindingss_.key bindingss_.order bindingss_.flwor bindingss_.quant_bind bindingss_.quantified bindingss_.conditional bindingss_.level grammars_.no_level grammars_.no_element grammars_.encoding grammars_.version grammars_.strip grammars_.setter grammars_.initial grammars_.var_decl grammars_.param grammars_.params grammars_.body grammars_.fun_decl grammars_.declaration grammars_.declarations grammars_.prolog grammars_.query
query_good = refl

-- anything may follow
pub query_stops : (text : List ℕ) (at : ℕ) → stands_one text (stops nested grammars_.query) at ≡ false
unfolding terminalss_.expr terminalss_.block typess_.plain_test typess_.target typess_.instruction_test typess_.last_argument typess_.named_argument typess_.element_test typess_.attribute_test typess_.kind_test typess_.any_item typess_.item_type typess_.occurs typess_.empty_type typess_.seq_type typess_.typ directs_.value_part directs_.double_quoted directs_.single_quoted directs_.value directs_.equals directs_.attribute directs_.attributes directs_.comment directs_.instruction directs_.direct_here directs_.direct directs_.content_part directs_.end_tag directs_.content directs_.elem primariess_.integer primariess_.literal primariess_.var primariess_.inside primariess_.paren primariess_.dot primariess_.arguments primariess_.call primariess_.build_name primariess_.target_name primariess_.build_content primariess_.named_builder primariess_.instruction_builder primariess_.block_builder primariess_.builder primariess_.primary pathss_.predicate pathss_.test pathss_.axis_step pathss_.at_step pathss_.any_step pathss_.named_step pathss_.up_step pathss_.step_kind pathss_.step pathss_.two pathss_.slashes pathss_.root pathss_.deep_root pathss_.path operatorss_.one_sign operatorss_.unary operatorss_.single_type operatorss_.cast_type operatorss_.cast operatorss_.castable_type operatorss_.castable operatorss_.treat_type operatorss_.treat operatorss_.instance_type operatorss_.instance operatorss_.intersect operatorss_.union operatorss_.times operatorss_.multiplied operatorss_.added operatorss_.range_end operatorss_.range operatorss_.compared_to operatorss_.comparison operatorss_.conjunction operatorss_.disjunction bindingss_.variable bindingss_.position bindingss_.for_bind bindingss_.let_bind bindingss_.for_clause bindingss_.let_clause bindingss_.clause bindingss_.clauses bindingss_.condition bindingss_.descending bindingss_.empty_greatest bindingss_.collation bindingss_.key bindingss_.order bindingss_.flwor bindingss_.quant_bind bindingss_.quantified bindingss_.conditional bindingss_.level grammars_.no_level grammars_.no_element grammars_.encoding grammars_.version grammars_.strip grammars_.setter grammars_.initial grammars_.var_decl grammars_.param grammars_.params grammars_.body grammars_.fun_decl grammars_.declaration grammars_.declarations grammars_.prolog grammars_.query
query_stops text at = refl
