-- Texts as the grammar reads them, computed: queries, and cuts with their places.
use Rattle.std.proofs.Common.{◌≡◌, ℕ, Bool, true, false, List, [], ◌∷◌, Result, Ok, Err, codes, refl}
use Rattle.xq_base.specs.Chars as chars_
use Rattle.xq_ast.specs.Bytes as bytes_
use Rattle.xq_ast.specs.Values as values_
use Rattle.xq_ast.specs.Tokens as tokens_
use Rattle.xq_ast.specs.Pieces as pieces_
use Rattle.xq_ast.specs.Terminals as terminalss_
use Rattle.xq_ast.specs.Types as typess_
use Rattle.xq_ast.specs.Direct as directs_
use Rattle.xq_ast.specs.Primaries as primariess_
use Rattle.xq_ast.specs.Paths as pathss_
use Rattle.xq_ast.specs.Operators as operatorss_
use Rattle.xq_ast.specs.Bindings as bindingss_
use Rattle.xq_ast.specs.Grammar as grammars_
use Rattle.xq_ast.specs.Grammar.{language, query, max_level}
use Rattle.xq_ast.specs.Phrases.{Why, deep, left_out}
use Rattle.xq_ast.specs.Trees as t
use Rattle.xq_parser.specs.Parsers.{Outcome, Fault, cut, syntax_fault, many_from}
use Rattle.xq_parser.specs.Reading.{read, single_reads, element_reads}
use Rattle.xq_parser.specs.Nested.{nested}

abbrev reading : List ℕ → Outcome t.Query
reading text = read nested language text max_level query 0

-- whether the text is a query
abbrev is_read : Outcome t.Query → Bool
is_read (Ok x) = true
is_read (Err e) = false

abbrev accepted : List ℕ → Bool
accepted text = is_read (reading text)

literals :
    (accepted (codes "1") ≡ true)
    × (accepted (codes "007") ≡ true)
    × (reading (codes "1a") ≡ Err syntax_fault)
    × (reading (codes "1.5") ≡ Err (cut left_out 0))
    × (reading (codes "1.") ≡ Err (cut left_out 0))
    × (reading (codes "1e3") ≡ Err (cut left_out 0))
    × (reading (codes "1E") ≡ Err (cut left_out 0))
    × (reading (codes ".5") ≡ Err (cut left_out 0))
    × (reading (codes "..5") ≡ Err syntax_fault)
unfolding terminalss_.expr terminalss_.block typess_.plain_test typess_.target typess_.instruction_test typess_.last_argument typess_.named_argument typess_.element_test typess_.attribute_test typess_.kind_test typess_.any_item typess_.item_type typess_.occurs typess_.empty_type typess_.seq_type typess_.typ directs_.value_part directs_.double_quoted directs_.single_quoted directs_.value directs_.equals directs_.attribute directs_.attributes directs_.comment directs_.instruction directs_.direct_here directs_.direct directs_.content_part directs_.end_tag directs_.content directs_.elem primariess_.integer primariess_.literal primariess_.var primariess_.inside primariess_.paren primariess_.dot primariess_.arguments primariess_.call primariess_.build_name primariess_.target_name primariess_.build_content primariess_.named_builder primariess_.instruction_builder primariess_.block_builder primariess_.builder primariess_.primary pathss_.predicate pathss_.test pathss_.axis_step pathss_.at_step pathss_.any_step pathss_.named_step pathss_.up_step pathss_.step_kind pathss_.step pathss_.two pathss_.slashes pathss_.root pathss_.deep_root pathss_.path operatorss_.one_sign operatorss_.unary operatorss_.single_type operatorss_.cast_type operatorss_.cast operatorss_.castable_type operatorss_.castable operatorss_.treat_type operatorss_.treat operatorss_.instance_type operatorss_.instance operatorss_.intersect operatorss_.union operatorss_.times operatorss_.multiplied operatorss_.added operatorss_.range_end operatorss_.range operatorss_.compared_to operatorss_.comparison operatorss_.conjunction operatorss_.disjunction bindingss_.variable bindingss_.position bindingss_.for_bind bindingss_.let_bind bindingss_.for_clause bindingss_.let_clause bindingss_.clause bindingss_.clauses bindingss_.condition bindingss_.descending bindingss_.empty_greatest bindingss_.collation bindingss_.key bindingss_.order bindingss_.flwor bindingss_.quant_bind bindingss_.quantified bindingss_.conditional bindingss_.level grammars_.no_level grammars_.no_element grammars_.encoding grammars_.version grammars_.strip grammars_.setter grammars_.initial grammars_.var_decl grammars_.param grammars_.params grammars_.body grammars_.fun_decl grammars_.declaration grammars_.declarations grammars_.prolog grammars_.query bytes_.ends bytes_.char_ends bytes_.skip_from bytes_.found values_.reference values_.string_from values_.value_from tokens_.token pieces_.piece pieces_.is_xml chars_.is_char chars_.is_name_start chars_.is_name_char single_reads element_reads many_from
literals = (refl, refl, refl, refl, refl, refl, refl, refl, refl)

strings :
    (accepted (codes "'a''b'") ≡ true)
    × (accepted (codes "\"a\"\"b\"") ≡ true)
    × (reading (codes "\"a") ≡ Err syntax_fault)
    × (accepted (codes "\"&lt;&#65;&#x41;\"") ≡ true)
    × (reading (codes "\"&x;\"") ≡ Err syntax_fault)
    × (reading (codes "\"&#0;\"") ≡ Err syntax_fault)
    × (reading (codes "\"a&b\"") ≡ Err syntax_fault)
unfolding terminalss_.expr terminalss_.block typess_.plain_test typess_.target typess_.instruction_test typess_.last_argument typess_.named_argument typess_.element_test typess_.attribute_test typess_.kind_test typess_.any_item typess_.item_type typess_.occurs typess_.empty_type typess_.seq_type typess_.typ directs_.value_part directs_.double_quoted directs_.single_quoted directs_.value directs_.equals directs_.attribute directs_.attributes directs_.comment directs_.instruction directs_.direct_here directs_.direct directs_.content_part directs_.end_tag directs_.content directs_.elem primariess_.integer primariess_.literal primariess_.var primariess_.inside primariess_.paren primariess_.dot primariess_.arguments primariess_.call primariess_.build_name primariess_.target_name primariess_.build_content primariess_.named_builder primariess_.instruction_builder primariess_.block_builder primariess_.builder primariess_.primary pathss_.predicate pathss_.test pathss_.axis_step pathss_.at_step pathss_.any_step pathss_.named_step pathss_.up_step pathss_.step_kind pathss_.step pathss_.two pathss_.slashes pathss_.root pathss_.deep_root pathss_.path operatorss_.one_sign operatorss_.unary operatorss_.single_type operatorss_.cast_type operatorss_.cast operatorss_.castable_type operatorss_.castable operatorss_.treat_type operatorss_.treat operatorss_.instance_type operatorss_.instance operatorss_.intersect operatorss_.union operatorss_.times operatorss_.multiplied operatorss_.added operatorss_.range_end operatorss_.range operatorss_.compared_to operatorss_.comparison operatorss_.conjunction operatorss_.disjunction bindingss_.variable bindingss_.position bindingss_.for_bind bindingss_.let_bind bindingss_.for_clause bindingss_.let_clause bindingss_.clause bindingss_.clauses bindingss_.condition bindingss_.descending bindingss_.empty_greatest bindingss_.collation bindingss_.key bindingss_.order bindingss_.flwor bindingss_.quant_bind bindingss_.quantified bindingss_.conditional bindingss_.level grammars_.no_level grammars_.no_element grammars_.encoding grammars_.version grammars_.strip grammars_.setter grammars_.initial grammars_.var_decl grammars_.param grammars_.params grammars_.body grammars_.fun_decl grammars_.declaration grammars_.declarations grammars_.prolog grammars_.query bytes_.ends bytes_.char_ends bytes_.skip_from bytes_.found values_.reference values_.string_from values_.value_from tokens_.token pieces_.piece pieces_.is_xml chars_.is_char chars_.is_name_start chars_.is_name_char single_reads element_reads many_from
strings = (refl, refl, refl, refl, refl, refl, refl)

names :
    (accepted (codes "a") ≡ true)
    × (accepted (codes "a:b") ≡ true)
    × (reading (codes "a:b:c") ≡ Err syntax_fault)
    × (accepted (codes "a-b.c") ≡ true)
    × (accepted (codes "for") ≡ true)
    × (accepted (codes "if") ≡ true)
    × (accepted (codes "div") ≡ true)
    × (accepted (codes "$x") ≡ true)
    × (accepted (codes "$ x") ≡ true)
    × (accepted (codes "$p:x") ≡ true)
    × (reading (codes "a b") ≡ Err syntax_fault)
    × (accepted (codes "-a") ≡ true)
unfolding terminalss_.expr terminalss_.block typess_.plain_test typess_.target typess_.instruction_test typess_.last_argument typess_.named_argument typess_.element_test typess_.attribute_test typess_.kind_test typess_.any_item typess_.item_type typess_.occurs typess_.empty_type typess_.seq_type typess_.typ directs_.value_part directs_.double_quoted directs_.single_quoted directs_.value directs_.equals directs_.attribute directs_.attributes directs_.comment directs_.instruction directs_.direct_here directs_.direct directs_.content_part directs_.end_tag directs_.content directs_.elem primariess_.integer primariess_.literal primariess_.var primariess_.inside primariess_.paren primariess_.dot primariess_.arguments primariess_.call primariess_.build_name primariess_.target_name primariess_.build_content primariess_.named_builder primariess_.instruction_builder primariess_.block_builder primariess_.builder primariess_.primary pathss_.predicate pathss_.test pathss_.axis_step pathss_.at_step pathss_.any_step pathss_.named_step pathss_.up_step pathss_.step_kind pathss_.step pathss_.two pathss_.slashes pathss_.root pathss_.deep_root pathss_.path operatorss_.one_sign operatorss_.unary operatorss_.single_type operatorss_.cast_type operatorss_.cast operatorss_.castable_type operatorss_.castable operatorss_.treat_type operatorss_.treat operatorss_.instance_type operatorss_.instance operatorss_.intersect operatorss_.union operatorss_.times operatorss_.multiplied operatorss_.added operatorss_.range_end operatorss_.range operatorss_.compared_to operatorss_.comparison operatorss_.conjunction operatorss_.disjunction bindingss_.variable bindingss_.position bindingss_.for_bind bindingss_.let_bind bindingss_.for_clause bindingss_.let_clause bindingss_.clause bindingss_.clauses bindingss_.condition bindingss_.descending bindingss_.empty_greatest bindingss_.collation bindingss_.key bindingss_.order bindingss_.flwor bindingss_.quant_bind bindingss_.quantified bindingss_.conditional bindingss_.level grammars_.no_level grammars_.no_element grammars_.encoding grammars_.version grammars_.strip grammars_.setter grammars_.initial grammars_.var_decl grammars_.param grammars_.params grammars_.body grammars_.fun_decl grammars_.declaration grammars_.declarations grammars_.prolog grammars_.query bytes_.ends bytes_.char_ends bytes_.skip_from bytes_.found values_.reference values_.string_from values_.value_from tokens_.token pieces_.piece pieces_.is_xml chars_.is_char chars_.is_name_start chars_.is_name_char single_reads element_reads many_from
names = (refl, refl, refl, refl, refl, refl, refl, refl, refl, refl, refl, refl)

wide_names :
    (accepted (195 ∷ 169 ∷ []) ≡ true)
    × (reading (97 ∷ 195 ∷ 151 ∷ []) ≡ Err syntax_fault)
    × (accepted (97 ∷ 47 ∷ 195 ∷ 169 ∷ []) ≡ true)
    × (reading (49 ∷ 32 ∷ 43 ∷ 32 ∷ 100 ∷ 105 ∷ 118 ∷ 195 ∷ 151 ∷ []) ≡ Err syntax_fault)
    × (reading (49 ∷ 32 ∷ 100 ∷ 105 ∷ 118 ∷ 195 ∷ 151 ∷ []) ≡ Err (cut left_out 2))
unfolding terminalss_.expr terminalss_.block typess_.plain_test typess_.target typess_.instruction_test typess_.last_argument typess_.named_argument typess_.element_test typess_.attribute_test typess_.kind_test typess_.any_item typess_.item_type typess_.occurs typess_.empty_type typess_.seq_type typess_.typ directs_.value_part directs_.double_quoted directs_.single_quoted directs_.value directs_.equals directs_.attribute directs_.attributes directs_.comment directs_.instruction directs_.direct_here directs_.direct directs_.content_part directs_.end_tag directs_.content directs_.elem primariess_.integer primariess_.literal primariess_.var primariess_.inside primariess_.paren primariess_.dot primariess_.arguments primariess_.call primariess_.build_name primariess_.target_name primariess_.build_content primariess_.named_builder primariess_.instruction_builder primariess_.block_builder primariess_.builder primariess_.primary pathss_.predicate pathss_.test pathss_.axis_step pathss_.at_step pathss_.any_step pathss_.named_step pathss_.up_step pathss_.step_kind pathss_.step pathss_.two pathss_.slashes pathss_.root pathss_.deep_root pathss_.path operatorss_.one_sign operatorss_.unary operatorss_.single_type operatorss_.cast_type operatorss_.cast operatorss_.castable_type operatorss_.castable operatorss_.treat_type operatorss_.treat operatorss_.instance_type operatorss_.instance operatorss_.intersect operatorss_.union operatorss_.times operatorss_.multiplied operatorss_.added operatorss_.range_end operatorss_.range operatorss_.compared_to operatorss_.comparison operatorss_.conjunction operatorss_.disjunction bindingss_.variable bindingss_.position bindingss_.for_bind bindingss_.let_bind bindingss_.for_clause bindingss_.let_clause bindingss_.clause bindingss_.clauses bindingss_.condition bindingss_.descending bindingss_.empty_greatest bindingss_.collation bindingss_.key bindingss_.order bindingss_.flwor bindingss_.quant_bind bindingss_.quantified bindingss_.conditional bindingss_.level grammars_.no_level grammars_.no_element grammars_.encoding grammars_.version grammars_.strip grammars_.setter grammars_.initial grammars_.var_decl grammars_.param grammars_.params grammars_.body grammars_.fun_decl grammars_.declaration grammars_.declarations grammars_.prolog grammars_.query bytes_.ends bytes_.char_ends bytes_.skip_from bytes_.found values_.reference values_.string_from values_.value_from tokens_.token pieces_.piece pieces_.is_xml chars_.is_char chars_.is_name_start chars_.is_name_char single_reads element_reads many_from
wide_names = (refl, refl, refl, refl, refl)

blanks_and_comments :
    (accepted (codes "(: a :) 1") ≡ true)
    × (accepted (codes "(: (: :) :)1") ≡ true)
    × (reading (codes "(: (: :)1") ≡ Err syntax_fault)
    × (accepted (codes "1(::)") ≡ true)
    × (reading (codes "1 (: +") ≡ Err syntax_fault)
    × (accepted (codes "a(: :)/(: :)b") ≡ true)
    × (reading (codes " ") ≡ Err syntax_fault)
    × (reading (codes "") ≡ Err syntax_fault)
unfolding terminalss_.expr terminalss_.block typess_.plain_test typess_.target typess_.instruction_test typess_.last_argument typess_.named_argument typess_.element_test typess_.attribute_test typess_.kind_test typess_.any_item typess_.item_type typess_.occurs typess_.empty_type typess_.seq_type typess_.typ directs_.value_part directs_.double_quoted directs_.single_quoted directs_.value directs_.equals directs_.attribute directs_.attributes directs_.comment directs_.instruction directs_.direct_here directs_.direct directs_.content_part directs_.end_tag directs_.content directs_.elem primariess_.integer primariess_.literal primariess_.var primariess_.inside primariess_.paren primariess_.dot primariess_.arguments primariess_.call primariess_.build_name primariess_.target_name primariess_.build_content primariess_.named_builder primariess_.instruction_builder primariess_.block_builder primariess_.builder primariess_.primary pathss_.predicate pathss_.test pathss_.axis_step pathss_.at_step pathss_.any_step pathss_.named_step pathss_.up_step pathss_.step_kind pathss_.step pathss_.two pathss_.slashes pathss_.root pathss_.deep_root pathss_.path operatorss_.one_sign operatorss_.unary operatorss_.single_type operatorss_.cast_type operatorss_.cast operatorss_.castable_type operatorss_.castable operatorss_.treat_type operatorss_.treat operatorss_.instance_type operatorss_.instance operatorss_.intersect operatorss_.union operatorss_.times operatorss_.multiplied operatorss_.added operatorss_.range_end operatorss_.range operatorss_.compared_to operatorss_.comparison operatorss_.conjunction operatorss_.disjunction bindingss_.variable bindingss_.position bindingss_.for_bind bindingss_.let_bind bindingss_.for_clause bindingss_.let_clause bindingss_.clause bindingss_.clauses bindingss_.condition bindingss_.descending bindingss_.empty_greatest bindingss_.collation bindingss_.key bindingss_.order bindingss_.flwor bindingss_.quant_bind bindingss_.quantified bindingss_.conditional bindingss_.level grammars_.no_level grammars_.no_element grammars_.encoding grammars_.version grammars_.strip grammars_.setter grammars_.initial grammars_.var_decl grammars_.param grammars_.params grammars_.body grammars_.fun_decl grammars_.declaration grammars_.declarations grammars_.prolog grammars_.query bytes_.ends bytes_.char_ends bytes_.skip_from bytes_.found values_.reference values_.string_from values_.value_from tokens_.token pieces_.piece pieces_.is_xml chars_.is_char chars_.is_name_start chars_.is_name_char single_reads element_reads many_from
blanks_and_comments = (refl, refl, refl, refl, refl, refl, refl, refl)

arithmetic :
    (accepted (codes "1 + 2 - 3") ≡ true)
    × (accepted (codes "1 * 2 idiv 3 mod 4") ≡ true)
    × (reading (codes "1 div 2") ≡ Err (cut left_out 2))
    × (accepted (codes "1 to 2") ≡ true)
    × (reading (codes "1 to 2 to 3") ≡ Err syntax_fault)
    × (accepted (codes "+ - 1") ≡ true)
    × (reading (codes "1+") ≡ Err syntax_fault)
    × (accepted (codes "* * *") ≡ true)
unfolding terminalss_.expr terminalss_.block typess_.plain_test typess_.target typess_.instruction_test typess_.last_argument typess_.named_argument typess_.element_test typess_.attribute_test typess_.kind_test typess_.any_item typess_.item_type typess_.occurs typess_.empty_type typess_.seq_type typess_.typ directs_.value_part directs_.double_quoted directs_.single_quoted directs_.value directs_.equals directs_.attribute directs_.attributes directs_.comment directs_.instruction directs_.direct_here directs_.direct directs_.content_part directs_.end_tag directs_.content directs_.elem primariess_.integer primariess_.literal primariess_.var primariess_.inside primariess_.paren primariess_.dot primariess_.arguments primariess_.call primariess_.build_name primariess_.target_name primariess_.build_content primariess_.named_builder primariess_.instruction_builder primariess_.block_builder primariess_.builder primariess_.primary pathss_.predicate pathss_.test pathss_.axis_step pathss_.at_step pathss_.any_step pathss_.named_step pathss_.up_step pathss_.step_kind pathss_.step pathss_.two pathss_.slashes pathss_.root pathss_.deep_root pathss_.path operatorss_.one_sign operatorss_.unary operatorss_.single_type operatorss_.cast_type operatorss_.cast operatorss_.castable_type operatorss_.castable operatorss_.treat_type operatorss_.treat operatorss_.instance_type operatorss_.instance operatorss_.intersect operatorss_.union operatorss_.times operatorss_.multiplied operatorss_.added operatorss_.range_end operatorss_.range operatorss_.compared_to operatorss_.comparison operatorss_.conjunction operatorss_.disjunction bindingss_.variable bindingss_.position bindingss_.for_bind bindingss_.let_bind bindingss_.for_clause bindingss_.let_clause bindingss_.clause bindingss_.clauses bindingss_.condition bindingss_.descending bindingss_.empty_greatest bindingss_.collation bindingss_.key bindingss_.order bindingss_.flwor bindingss_.quant_bind bindingss_.quantified bindingss_.conditional bindingss_.level grammars_.no_level grammars_.no_element grammars_.encoding grammars_.version grammars_.strip grammars_.setter grammars_.initial grammars_.var_decl grammars_.param grammars_.params grammars_.body grammars_.fun_decl grammars_.declaration grammars_.declarations grammars_.prolog grammars_.query bytes_.ends bytes_.char_ends bytes_.skip_from bytes_.found values_.reference values_.string_from values_.value_from tokens_.token pieces_.piece pieces_.is_xml chars_.is_char chars_.is_name_start chars_.is_name_char single_reads element_reads many_from
arithmetic = (refl, refl, refl, refl, refl, refl, refl, refl)

comparisons :
    (accepted (codes "1 < 2") ≡ true)
    × (reading (codes "1 < 2 < 3") ≡ Err syntax_fault)
    × (accepted (codes "1<2") ≡ true)
    × (accepted (codes "1 <= 2") ≡ true)
    × (accepted (codes "1 eq 2") ≡ true)
    × (accepted (codes "a << b") ≡ true)
    × (accepted (codes "a is b") ≡ true)
    × (accepted (codes "a >> b") ≡ true)
    × (accepted (codes "1 = -1") ≡ true)
    × (accepted (codes "1 !=2") ≡ true)
    × (reading (codes "1 ! 2") ≡ Err syntax_fault)
unfolding terminalss_.expr terminalss_.block typess_.plain_test typess_.target typess_.instruction_test typess_.last_argument typess_.named_argument typess_.element_test typess_.attribute_test typess_.kind_test typess_.any_item typess_.item_type typess_.occurs typess_.empty_type typess_.seq_type typess_.typ directs_.value_part directs_.double_quoted directs_.single_quoted directs_.value directs_.equals directs_.attribute directs_.attributes directs_.comment directs_.instruction directs_.direct_here directs_.direct directs_.content_part directs_.end_tag directs_.content directs_.elem primariess_.integer primariess_.literal primariess_.var primariess_.inside primariess_.paren primariess_.dot primariess_.arguments primariess_.call primariess_.build_name primariess_.target_name primariess_.build_content primariess_.named_builder primariess_.instruction_builder primariess_.block_builder primariess_.builder primariess_.primary pathss_.predicate pathss_.test pathss_.axis_step pathss_.at_step pathss_.any_step pathss_.named_step pathss_.up_step pathss_.step_kind pathss_.step pathss_.two pathss_.slashes pathss_.root pathss_.deep_root pathss_.path operatorss_.one_sign operatorss_.unary operatorss_.single_type operatorss_.cast_type operatorss_.cast operatorss_.castable_type operatorss_.castable operatorss_.treat_type operatorss_.treat operatorss_.instance_type operatorss_.instance operatorss_.intersect operatorss_.union operatorss_.times operatorss_.multiplied operatorss_.added operatorss_.range_end operatorss_.range operatorss_.compared_to operatorss_.comparison operatorss_.conjunction operatorss_.disjunction bindingss_.variable bindingss_.position bindingss_.for_bind bindingss_.let_bind bindingss_.for_clause bindingss_.let_clause bindingss_.clause bindingss_.clauses bindingss_.condition bindingss_.descending bindingss_.empty_greatest bindingss_.collation bindingss_.key bindingss_.order bindingss_.flwor bindingss_.quant_bind bindingss_.quantified bindingss_.conditional bindingss_.level grammars_.no_level grammars_.no_element grammars_.encoding grammars_.version grammars_.strip grammars_.setter grammars_.initial grammars_.var_decl grammars_.param grammars_.params grammars_.body grammars_.fun_decl grammars_.declaration grammars_.declarations grammars_.prolog grammars_.query bytes_.ends bytes_.char_ends bytes_.skip_from bytes_.found values_.reference values_.string_from values_.value_from tokens_.token pieces_.piece pieces_.is_xml chars_.is_char chars_.is_name_start chars_.is_name_char single_reads element_reads many_from
comparisons = (refl, refl, refl, refl, refl, refl, refl, refl, refl, refl, refl)

set_operators :
    (accepted (codes "a or b and c") ≡ true)
    × (accepted (codes "a union b | c") ≡ true)
    × (accepted (codes "a intersect b except c") ≡ true)
unfolding terminalss_.expr terminalss_.block typess_.plain_test typess_.target typess_.instruction_test typess_.last_argument typess_.named_argument typess_.element_test typess_.attribute_test typess_.kind_test typess_.any_item typess_.item_type typess_.occurs typess_.empty_type typess_.seq_type typess_.typ directs_.value_part directs_.double_quoted directs_.single_quoted directs_.value directs_.equals directs_.attribute directs_.attributes directs_.comment directs_.instruction directs_.direct_here directs_.direct directs_.content_part directs_.end_tag directs_.content directs_.elem primariess_.integer primariess_.literal primariess_.var primariess_.inside primariess_.paren primariess_.dot primariess_.arguments primariess_.call primariess_.build_name primariess_.target_name primariess_.build_content primariess_.named_builder primariess_.instruction_builder primariess_.block_builder primariess_.builder primariess_.primary pathss_.predicate pathss_.test pathss_.axis_step pathss_.at_step pathss_.any_step pathss_.named_step pathss_.up_step pathss_.step_kind pathss_.step pathss_.two pathss_.slashes pathss_.root pathss_.deep_root pathss_.path operatorss_.one_sign operatorss_.unary operatorss_.single_type operatorss_.cast_type operatorss_.cast operatorss_.castable_type operatorss_.castable operatorss_.treat_type operatorss_.treat operatorss_.instance_type operatorss_.instance operatorss_.intersect operatorss_.union operatorss_.times operatorss_.multiplied operatorss_.added operatorss_.range_end operatorss_.range operatorss_.compared_to operatorss_.comparison operatorss_.conjunction operatorss_.disjunction bindingss_.variable bindingss_.position bindingss_.for_bind bindingss_.let_bind bindingss_.for_clause bindingss_.let_clause bindingss_.clause bindingss_.clauses bindingss_.condition bindingss_.descending bindingss_.empty_greatest bindingss_.collation bindingss_.key bindingss_.order bindingss_.flwor bindingss_.quant_bind bindingss_.quantified bindingss_.conditional bindingss_.level grammars_.no_level grammars_.no_element grammars_.encoding grammars_.version grammars_.strip grammars_.setter grammars_.initial grammars_.var_decl grammars_.param grammars_.params grammars_.body grammars_.fun_decl grammars_.declaration grammars_.declarations grammars_.prolog grammars_.query bytes_.ends bytes_.char_ends bytes_.skip_from bytes_.found values_.reference values_.string_from values_.value_from tokens_.token pieces_.piece pieces_.is_xml chars_.is_char chars_.is_name_start chars_.is_name_char single_reads element_reads many_from
set_operators = (refl, refl, refl)

tested_types :
    (accepted (codes "1 instance of xs:integer") ≡ true)
    × (accepted (codes "1 instance of xs:integer?") ≡ true)
    × (accepted (codes "1 instance of item()*") ≡ true)
    × (accepted (codes "1 instance of empty-sequence()") ≡ true)
    × (reading (codes "1 instance of empty-sequence()?") ≡ Err syntax_fault)
    × (accepted (codes "1 treat as node()+") ≡ true)
unfolding terminalss_.expr terminalss_.block typess_.plain_test typess_.target typess_.instruction_test typess_.last_argument typess_.named_argument typess_.element_test typess_.attribute_test typess_.kind_test typess_.any_item typess_.item_type typess_.occurs typess_.empty_type typess_.seq_type typess_.typ directs_.value_part directs_.double_quoted directs_.single_quoted directs_.value directs_.equals directs_.attribute directs_.attributes directs_.comment directs_.instruction directs_.direct_here directs_.direct directs_.content_part directs_.end_tag directs_.content directs_.elem primariess_.integer primariess_.literal primariess_.var primariess_.inside primariess_.paren primariess_.dot primariess_.arguments primariess_.call primariess_.build_name primariess_.target_name primariess_.build_content primariess_.named_builder primariess_.instruction_builder primariess_.block_builder primariess_.builder primariess_.primary pathss_.predicate pathss_.test pathss_.axis_step pathss_.at_step pathss_.any_step pathss_.named_step pathss_.up_step pathss_.step_kind pathss_.step pathss_.two pathss_.slashes pathss_.root pathss_.deep_root pathss_.path operatorss_.one_sign operatorss_.unary operatorss_.single_type operatorss_.cast_type operatorss_.cast operatorss_.castable_type operatorss_.castable operatorss_.treat_type operatorss_.treat operatorss_.instance_type operatorss_.instance operatorss_.intersect operatorss_.union operatorss_.times operatorss_.multiplied operatorss_.added operatorss_.range_end operatorss_.range operatorss_.compared_to operatorss_.comparison operatorss_.conjunction operatorss_.disjunction bindingss_.variable bindingss_.position bindingss_.for_bind bindingss_.let_bind bindingss_.for_clause bindingss_.let_clause bindingss_.clause bindingss_.clauses bindingss_.condition bindingss_.descending bindingss_.empty_greatest bindingss_.collation bindingss_.key bindingss_.order bindingss_.flwor bindingss_.quant_bind bindingss_.quantified bindingss_.conditional bindingss_.level grammars_.no_level grammars_.no_element grammars_.encoding grammars_.version grammars_.strip grammars_.setter grammars_.initial grammars_.var_decl grammars_.param grammars_.params grammars_.body grammars_.fun_decl grammars_.declaration grammars_.declarations grammars_.prolog grammars_.query bytes_.ends bytes_.char_ends bytes_.skip_from bytes_.found values_.reference values_.string_from values_.value_from tokens_.token pieces_.piece pieces_.is_xml chars_.is_char chars_.is_name_start chars_.is_name_char single_reads element_reads many_from
tested_types = (refl, refl, refl, refl, refl, refl)

cast_types :
    (accepted (codes "1 cast as xs:integer?") ≡ true)
    × (accepted (codes "1 castable as xs:string") ≡ true)
    × (reading (codes "1 cast as item()") ≡ Err syntax_fault)
unfolding terminalss_.expr terminalss_.block typess_.plain_test typess_.target typess_.instruction_test typess_.last_argument typess_.named_argument typess_.element_test typess_.attribute_test typess_.kind_test typess_.any_item typess_.item_type typess_.occurs typess_.empty_type typess_.seq_type typess_.typ directs_.value_part directs_.double_quoted directs_.single_quoted directs_.value directs_.equals directs_.attribute directs_.attributes directs_.comment directs_.instruction directs_.direct_here directs_.direct directs_.content_part directs_.end_tag directs_.content directs_.elem primariess_.integer primariess_.literal primariess_.var primariess_.inside primariess_.paren primariess_.dot primariess_.arguments primariess_.call primariess_.build_name primariess_.target_name primariess_.build_content primariess_.named_builder primariess_.instruction_builder primariess_.block_builder primariess_.builder primariess_.primary pathss_.predicate pathss_.test pathss_.axis_step pathss_.at_step pathss_.any_step pathss_.named_step pathss_.up_step pathss_.step_kind pathss_.step pathss_.two pathss_.slashes pathss_.root pathss_.deep_root pathss_.path operatorss_.one_sign operatorss_.unary operatorss_.single_type operatorss_.cast_type operatorss_.cast operatorss_.castable_type operatorss_.castable operatorss_.treat_type operatorss_.treat operatorss_.instance_type operatorss_.instance operatorss_.intersect operatorss_.union operatorss_.times operatorss_.multiplied operatorss_.added operatorss_.range_end operatorss_.range operatorss_.compared_to operatorss_.comparison operatorss_.conjunction operatorss_.disjunction bindingss_.variable bindingss_.position bindingss_.for_bind bindingss_.let_bind bindingss_.for_clause bindingss_.let_clause bindingss_.clause bindingss_.clauses bindingss_.condition bindingss_.descending bindingss_.empty_greatest bindingss_.collation bindingss_.key bindingss_.order bindingss_.flwor bindingss_.quant_bind bindingss_.quantified bindingss_.conditional bindingss_.level grammars_.no_level grammars_.no_element grammars_.encoding grammars_.version grammars_.strip grammars_.setter grammars_.initial grammars_.var_decl grammars_.param grammars_.params grammars_.body grammars_.fun_decl grammars_.declaration grammars_.declarations grammars_.prolog grammars_.query bytes_.ends bytes_.char_ends bytes_.skip_from bytes_.found values_.reference values_.string_from values_.value_from tokens_.token pieces_.piece pieces_.is_xml chars_.is_char chars_.is_name_start chars_.is_name_char single_reads element_reads many_from
cast_types = (refl, refl, refl)

kind_tests :
    (accepted (codes "1 instance of element(a)") ≡ true)
    × (accepted (codes "1 instance of element(*)") ≡ true)
    × (reading (codes "1 instance of element(a, b)") ≡ Err (cut left_out 23))
    × (reading (codes "1 instance of schema-element(a)") ≡ Err (cut left_out 14))
    × (reading (codes "1 instance of document-node(element(a))") ≡ Err (cut left_out 14))
    × (accepted (codes "1 instance of document-node()") ≡ true)
unfolding terminalss_.expr terminalss_.block typess_.plain_test typess_.target typess_.instruction_test typess_.last_argument typess_.named_argument typess_.element_test typess_.attribute_test typess_.kind_test typess_.any_item typess_.item_type typess_.occurs typess_.empty_type typess_.seq_type typess_.typ directs_.value_part directs_.double_quoted directs_.single_quoted directs_.value directs_.equals directs_.attribute directs_.attributes directs_.comment directs_.instruction directs_.direct_here directs_.direct directs_.content_part directs_.end_tag directs_.content directs_.elem primariess_.integer primariess_.literal primariess_.var primariess_.inside primariess_.paren primariess_.dot primariess_.arguments primariess_.call primariess_.build_name primariess_.target_name primariess_.build_content primariess_.named_builder primariess_.instruction_builder primariess_.block_builder primariess_.builder primariess_.primary pathss_.predicate pathss_.test pathss_.axis_step pathss_.at_step pathss_.any_step pathss_.named_step pathss_.up_step pathss_.step_kind pathss_.step pathss_.two pathss_.slashes pathss_.root pathss_.deep_root pathss_.path operatorss_.one_sign operatorss_.unary operatorss_.single_type operatorss_.cast_type operatorss_.cast operatorss_.castable_type operatorss_.castable operatorss_.treat_type operatorss_.treat operatorss_.instance_type operatorss_.instance operatorss_.intersect operatorss_.union operatorss_.times operatorss_.multiplied operatorss_.added operatorss_.range_end operatorss_.range operatorss_.compared_to operatorss_.comparison operatorss_.conjunction operatorss_.disjunction bindingss_.variable bindingss_.position bindingss_.for_bind bindingss_.let_bind bindingss_.for_clause bindingss_.let_clause bindingss_.clause bindingss_.clauses bindingss_.condition bindingss_.descending bindingss_.empty_greatest bindingss_.collation bindingss_.key bindingss_.order bindingss_.flwor bindingss_.quant_bind bindingss_.quantified bindingss_.conditional bindingss_.level grammars_.no_level grammars_.no_element grammars_.encoding grammars_.version grammars_.strip grammars_.setter grammars_.initial grammars_.var_decl grammars_.param grammars_.params grammars_.body grammars_.fun_decl grammars_.declaration grammars_.declarations grammars_.prolog grammars_.query bytes_.ends bytes_.char_ends bytes_.skip_from bytes_.found values_.reference values_.string_from values_.value_from tokens_.token pieces_.piece pieces_.is_xml chars_.is_char chars_.is_name_start chars_.is_name_char single_reads element_reads many_from
kind_tests = (refl, refl, refl, refl, refl, refl)

instruction_tests :
    (accepted (codes "processing-instruction(a)") ≡ true)
    × (reading (codes "processing-instruction(p:a)") ≡ Err syntax_fault)
    × (accepted (codes "processing-instruction()") ≡ true)
unfolding terminalss_.expr terminalss_.block typess_.plain_test typess_.target typess_.instruction_test typess_.last_argument typess_.named_argument typess_.element_test typess_.attribute_test typess_.kind_test typess_.any_item typess_.item_type typess_.occurs typess_.empty_type typess_.seq_type typess_.typ directs_.value_part directs_.double_quoted directs_.single_quoted directs_.value directs_.equals directs_.attribute directs_.attributes directs_.comment directs_.instruction directs_.direct_here directs_.direct directs_.content_part directs_.end_tag directs_.content directs_.elem primariess_.integer primariess_.literal primariess_.var primariess_.inside primariess_.paren primariess_.dot primariess_.arguments primariess_.call primariess_.build_name primariess_.target_name primariess_.build_content primariess_.named_builder primariess_.instruction_builder primariess_.block_builder primariess_.builder primariess_.primary pathss_.predicate pathss_.test pathss_.axis_step pathss_.at_step pathss_.any_step pathss_.named_step pathss_.up_step pathss_.step_kind pathss_.step pathss_.two pathss_.slashes pathss_.root pathss_.deep_root pathss_.path operatorss_.one_sign operatorss_.unary operatorss_.single_type operatorss_.cast_type operatorss_.cast operatorss_.castable_type operatorss_.castable operatorss_.treat_type operatorss_.treat operatorss_.instance_type operatorss_.instance operatorss_.intersect operatorss_.union operatorss_.times operatorss_.multiplied operatorss_.added operatorss_.range_end operatorss_.range operatorss_.compared_to operatorss_.comparison operatorss_.conjunction operatorss_.disjunction bindingss_.variable bindingss_.position bindingss_.for_bind bindingss_.let_bind bindingss_.for_clause bindingss_.let_clause bindingss_.clause bindingss_.clauses bindingss_.condition bindingss_.descending bindingss_.empty_greatest bindingss_.collation bindingss_.key bindingss_.order bindingss_.flwor bindingss_.quant_bind bindingss_.quantified bindingss_.conditional bindingss_.level grammars_.no_level grammars_.no_element grammars_.encoding grammars_.version grammars_.strip grammars_.setter grammars_.initial grammars_.var_decl grammars_.param grammars_.params grammars_.body grammars_.fun_decl grammars_.declaration grammars_.declarations grammars_.prolog grammars_.query bytes_.ends bytes_.char_ends bytes_.skip_from bytes_.found values_.reference values_.string_from values_.value_from tokens_.token pieces_.piece pieces_.is_xml chars_.is_char chars_.is_name_start chars_.is_name_char single_reads element_reads many_from
instruction_tests = (refl, refl, refl)

occurrences :
    (reading (codes "1 instance of xs:integer * 2") ≡ Err syntax_fault)
    × (reading (codes "1 instance of xs:integer + 2") ≡ Err syntax_fault)
    × (accepted (codes "(1 instance of xs:integer) + 2") ≡ true)
unfolding terminalss_.expr terminalss_.block typess_.plain_test typess_.target typess_.instruction_test typess_.last_argument typess_.named_argument typess_.element_test typess_.attribute_test typess_.kind_test typess_.any_item typess_.item_type typess_.occurs typess_.empty_type typess_.seq_type typess_.typ directs_.value_part directs_.double_quoted directs_.single_quoted directs_.value directs_.equals directs_.attribute directs_.attributes directs_.comment directs_.instruction directs_.direct_here directs_.direct directs_.content_part directs_.end_tag directs_.content directs_.elem primariess_.integer primariess_.literal primariess_.var primariess_.inside primariess_.paren primariess_.dot primariess_.arguments primariess_.call primariess_.build_name primariess_.target_name primariess_.build_content primariess_.named_builder primariess_.instruction_builder primariess_.block_builder primariess_.builder primariess_.primary pathss_.predicate pathss_.test pathss_.axis_step pathss_.at_step pathss_.any_step pathss_.named_step pathss_.up_step pathss_.step_kind pathss_.step pathss_.two pathss_.slashes pathss_.root pathss_.deep_root pathss_.path operatorss_.one_sign operatorss_.unary operatorss_.single_type operatorss_.cast_type operatorss_.cast operatorss_.castable_type operatorss_.castable operatorss_.treat_type operatorss_.treat operatorss_.instance_type operatorss_.instance operatorss_.intersect operatorss_.union operatorss_.times operatorss_.multiplied operatorss_.added operatorss_.range_end operatorss_.range operatorss_.compared_to operatorss_.comparison operatorss_.conjunction operatorss_.disjunction bindingss_.variable bindingss_.position bindingss_.for_bind bindingss_.let_bind bindingss_.for_clause bindingss_.let_clause bindingss_.clause bindingss_.clauses bindingss_.condition bindingss_.descending bindingss_.empty_greatest bindingss_.collation bindingss_.key bindingss_.order bindingss_.flwor bindingss_.quant_bind bindingss_.quantified bindingss_.conditional bindingss_.level grammars_.no_level grammars_.no_element grammars_.encoding grammars_.version grammars_.strip grammars_.setter grammars_.initial grammars_.var_decl grammars_.param grammars_.params grammars_.body grammars_.fun_decl grammars_.declaration grammars_.declarations grammars_.prolog grammars_.query bytes_.ends bytes_.char_ends bytes_.skip_from bytes_.found values_.reference values_.string_from values_.value_from tokens_.token pieces_.piece pieces_.is_xml chars_.is_char chars_.is_name_start chars_.is_name_char single_reads element_reads many_from
occurrences = (refl, refl, refl)

paths :
    (accepted (codes "/") ≡ true)
    × (accepted (codes "/a") ≡ true)
    × (accepted (codes "//a") ≡ true)
    × (reading (codes "//") ≡ Err syntax_fault)
    × (accepted (codes "a//b/c") ≡ true)
    × (reading (codes "a/") ≡ Err syntax_fault)
    × (reading (codes "/ < 5") ≡ Err syntax_fault)
    × (accepted (codes "/ + 5") ≡ true)
    × (reading (codes "/ * 5") ≡ Err syntax_fault)
    × (reading (codes "/ div 2") ≡ Err syntax_fault)
    × (accepted (codes "a[1][2]") ≡ true)
    × (accepted (codes "(a)[1]/b") ≡ true)
    × (accepted (codes "a/(b)") ≡ true)
    × (accepted (codes "..") ≡ true)
    × (accepted (codes "../a") ≡ true)
    × (accepted (codes "@a") ≡ true)
    × (accepted (codes "@*") ≡ true)
    × (accepted (codes "*") ≡ true)
    × (accepted (codes "./a") ≡ true)
unfolding terminalss_.expr terminalss_.block typess_.plain_test typess_.target typess_.instruction_test typess_.last_argument typess_.named_argument typess_.element_test typess_.attribute_test typess_.kind_test typess_.any_item typess_.item_type typess_.occurs typess_.empty_type typess_.seq_type typess_.typ directs_.value_part directs_.double_quoted directs_.single_quoted directs_.value directs_.equals directs_.attribute directs_.attributes directs_.comment directs_.instruction directs_.direct_here directs_.direct directs_.content_part directs_.end_tag directs_.content directs_.elem primariess_.integer primariess_.literal primariess_.var primariess_.inside primariess_.paren primariess_.dot primariess_.arguments primariess_.call primariess_.build_name primariess_.target_name primariess_.build_content primariess_.named_builder primariess_.instruction_builder primariess_.block_builder primariess_.builder primariess_.primary pathss_.predicate pathss_.test pathss_.axis_step pathss_.at_step pathss_.any_step pathss_.named_step pathss_.up_step pathss_.step_kind pathss_.step pathss_.two pathss_.slashes pathss_.root pathss_.deep_root pathss_.path operatorss_.one_sign operatorss_.unary operatorss_.single_type operatorss_.cast_type operatorss_.cast operatorss_.castable_type operatorss_.castable operatorss_.treat_type operatorss_.treat operatorss_.instance_type operatorss_.instance operatorss_.intersect operatorss_.union operatorss_.times operatorss_.multiplied operatorss_.added operatorss_.range_end operatorss_.range operatorss_.compared_to operatorss_.comparison operatorss_.conjunction operatorss_.disjunction bindingss_.variable bindingss_.position bindingss_.for_bind bindingss_.let_bind bindingss_.for_clause bindingss_.let_clause bindingss_.clause bindingss_.clauses bindingss_.condition bindingss_.descending bindingss_.empty_greatest bindingss_.collation bindingss_.key bindingss_.order bindingss_.flwor bindingss_.quant_bind bindingss_.quantified bindingss_.conditional bindingss_.level grammars_.no_level grammars_.no_element grammars_.encoding grammars_.version grammars_.strip grammars_.setter grammars_.initial grammars_.var_decl grammars_.param grammars_.params grammars_.body grammars_.fun_decl grammars_.declaration grammars_.declarations grammars_.prolog grammars_.query bytes_.ends bytes_.char_ends bytes_.skip_from bytes_.found values_.reference values_.string_from values_.value_from tokens_.token pieces_.piece pieces_.is_xml chars_.is_char chars_.is_name_start chars_.is_name_char single_reads element_reads many_from
paths = (refl, refl, refl, refl, refl, refl, refl, refl, refl, refl, refl, refl, refl, refl, refl, refl, refl, refl, refl)

axes :
    (accepted (codes "child::a") ≡ true)
    × (accepted (codes "child :: a") ≡ true)
    × (accepted (codes "self::*") ≡ true)
    × (reading (codes "namespace::a") ≡ Err (cut left_out 0))
    × (reading (codes "foo::a") ≡ Err syntax_fault)
    × (accepted (codes "a/following-sibling::b") ≡ true)
    × (accepted (codes "attribute::a") ≡ true)
    × (reading (codes "child::") ≡ Err syntax_fault)
    × (accepted (codes "child::text()") ≡ true)
    × (reading (codes "child::1") ≡ Err syntax_fault)
unfolding terminalss_.expr terminalss_.block typess_.plain_test typess_.target typess_.instruction_test typess_.last_argument typess_.named_argument typess_.element_test typess_.attribute_test typess_.kind_test typess_.any_item typess_.item_type typess_.occurs typess_.empty_type typess_.seq_type typess_.typ directs_.value_part directs_.double_quoted directs_.single_quoted directs_.value directs_.equals directs_.attribute directs_.attributes directs_.comment directs_.instruction directs_.direct_here directs_.direct directs_.content_part directs_.end_tag directs_.content directs_.elem primariess_.integer primariess_.literal primariess_.var primariess_.inside primariess_.paren primariess_.dot primariess_.arguments primariess_.call primariess_.build_name primariess_.target_name primariess_.build_content primariess_.named_builder primariess_.instruction_builder primariess_.block_builder primariess_.builder primariess_.primary pathss_.predicate pathss_.test pathss_.axis_step pathss_.at_step pathss_.any_step pathss_.named_step pathss_.up_step pathss_.step_kind pathss_.step pathss_.two pathss_.slashes pathss_.root pathss_.deep_root pathss_.path operatorss_.one_sign operatorss_.unary operatorss_.single_type operatorss_.cast_type operatorss_.cast operatorss_.castable_type operatorss_.castable operatorss_.treat_type operatorss_.treat operatorss_.instance_type operatorss_.instance operatorss_.intersect operatorss_.union operatorss_.times operatorss_.multiplied operatorss_.added operatorss_.range_end operatorss_.range operatorss_.compared_to operatorss_.comparison operatorss_.conjunction operatorss_.disjunction bindingss_.variable bindingss_.position bindingss_.for_bind bindingss_.let_bind bindingss_.for_clause bindingss_.let_clause bindingss_.clause bindingss_.clauses bindingss_.condition bindingss_.descending bindingss_.empty_greatest bindingss_.collation bindingss_.key bindingss_.order bindingss_.flwor bindingss_.quant_bind bindingss_.quantified bindingss_.conditional bindingss_.level grammars_.no_level grammars_.no_element grammars_.encoding grammars_.version grammars_.strip grammars_.setter grammars_.initial grammars_.var_decl grammars_.param grammars_.params grammars_.body grammars_.fun_decl grammars_.declaration grammars_.declarations grammars_.prolog grammars_.query bytes_.ends bytes_.char_ends bytes_.skip_from bytes_.found values_.reference values_.string_from values_.value_from tokens_.token pieces_.piece pieces_.is_xml chars_.is_char chars_.is_name_start chars_.is_name_char single_reads element_reads many_from
axes = (refl, refl, refl, refl, refl, refl, refl, refl, refl, refl)

tests_left_out :
    (reading (codes "p:*") ≡ Err (cut left_out 0))
    × (reading (codes "*:n") ≡ Err (cut left_out 0))
    × (reading (codes "a/p:*") ≡ Err (cut left_out 2))
    × (reading (codes "child::*:n") ≡ Err (cut left_out 7))
    × (reading (codes "@p:*") ≡ Err (cut left_out 1))
    × (reading (codes "schema-element(a)") ≡ Err (cut left_out 0))
    × (reading (codes "document-node(element(a))") ≡ Err (cut left_out 0))
    × (reading (codes "element(a, b)") ≡ Err (cut left_out 9))
unfolding terminalss_.expr terminalss_.block typess_.plain_test typess_.target typess_.instruction_test typess_.last_argument typess_.named_argument typess_.element_test typess_.attribute_test typess_.kind_test typess_.any_item typess_.item_type typess_.occurs typess_.empty_type typess_.seq_type typess_.typ directs_.value_part directs_.double_quoted directs_.single_quoted directs_.value directs_.equals directs_.attribute directs_.attributes directs_.comment directs_.instruction directs_.direct_here directs_.direct directs_.content_part directs_.end_tag directs_.content directs_.elem primariess_.integer primariess_.literal primariess_.var primariess_.inside primariess_.paren primariess_.dot primariess_.arguments primariess_.call primariess_.build_name primariess_.target_name primariess_.build_content primariess_.named_builder primariess_.instruction_builder primariess_.block_builder primariess_.builder primariess_.primary pathss_.predicate pathss_.test pathss_.axis_step pathss_.at_step pathss_.any_step pathss_.named_step pathss_.up_step pathss_.step_kind pathss_.step pathss_.two pathss_.slashes pathss_.root pathss_.deep_root pathss_.path operatorss_.one_sign operatorss_.unary operatorss_.single_type operatorss_.cast_type operatorss_.cast operatorss_.castable_type operatorss_.castable operatorss_.treat_type operatorss_.treat operatorss_.instance_type operatorss_.instance operatorss_.intersect operatorss_.union operatorss_.times operatorss_.multiplied operatorss_.added operatorss_.range_end operatorss_.range operatorss_.compared_to operatorss_.comparison operatorss_.conjunction operatorss_.disjunction bindingss_.variable bindingss_.position bindingss_.for_bind bindingss_.let_bind bindingss_.for_clause bindingss_.let_clause bindingss_.clause bindingss_.clauses bindingss_.condition bindingss_.descending bindingss_.empty_greatest bindingss_.collation bindingss_.key bindingss_.order bindingss_.flwor bindingss_.quant_bind bindingss_.quantified bindingss_.conditional bindingss_.level grammars_.no_level grammars_.no_element grammars_.encoding grammars_.version grammars_.strip grammars_.setter grammars_.initial grammars_.var_decl grammars_.param grammars_.params grammars_.body grammars_.fun_decl grammars_.declaration grammars_.declarations grammars_.prolog grammars_.query bytes_.ends bytes_.char_ends bytes_.skip_from bytes_.found values_.reference values_.string_from values_.value_from tokens_.token pieces_.piece pieces_.is_xml chars_.is_char chars_.is_name_start chars_.is_name_char single_reads element_reads many_from
tests_left_out = (refl, refl, refl, refl, refl, refl, refl, refl)

calls :
    (accepted (codes "f()") ≡ true)
    × (accepted (codes "f(1)") ≡ true)
    × (accepted (codes "f(1, 2)") ≡ true)
    × (reading (codes "f(1,)") ≡ Err syntax_fault)
    × (accepted (codes "f (1)") ≡ true)
    × (accepted (codes "p:f(1)") ≡ true)
    × (reading (codes "item()") ≡ Err syntax_fault)
    × (reading (codes "empty-sequence()") ≡ Err syntax_fault)
    × (accepted (codes "text()") ≡ true)
    × (accepted (codes "node()") ≡ true)
    × (reading (codes "if()") ≡ Err syntax_fault)
    × (reading (codes "avg(1)") ≡ Err (cut left_out 0))
    × (reading (codes "fn:avg(1)") ≡ Err (cut left_out 0))
    × (accepted (codes "p:avg(1)") ≡ true)
    × (accepted (codes "avg") ≡ true)
    × (reading (codes "typeswitch(1)") ≡ Err (cut left_out 0))
    × (reading (codes "1 + typeswitch(1)") ≡ Err syntax_fault)
    × (reading (codes "1 + avg(1)") ≡ Err (cut left_out 4))
unfolding terminalss_.expr terminalss_.block typess_.plain_test typess_.target typess_.instruction_test typess_.last_argument typess_.named_argument typess_.element_test typess_.attribute_test typess_.kind_test typess_.any_item typess_.item_type typess_.occurs typess_.empty_type typess_.seq_type typess_.typ directs_.value_part directs_.double_quoted directs_.single_quoted directs_.value directs_.equals directs_.attribute directs_.attributes directs_.comment directs_.instruction directs_.direct_here directs_.direct directs_.content_part directs_.end_tag directs_.content directs_.elem primariess_.integer primariess_.literal primariess_.var primariess_.inside primariess_.paren primariess_.dot primariess_.arguments primariess_.call primariess_.build_name primariess_.target_name primariess_.build_content primariess_.named_builder primariess_.instruction_builder primariess_.block_builder primariess_.builder primariess_.primary pathss_.predicate pathss_.test pathss_.axis_step pathss_.at_step pathss_.any_step pathss_.named_step pathss_.up_step pathss_.step_kind pathss_.step pathss_.two pathss_.slashes pathss_.root pathss_.deep_root pathss_.path operatorss_.one_sign operatorss_.unary operatorss_.single_type operatorss_.cast_type operatorss_.cast operatorss_.castable_type operatorss_.castable operatorss_.treat_type operatorss_.treat operatorss_.instance_type operatorss_.instance operatorss_.intersect operatorss_.union operatorss_.times operatorss_.multiplied operatorss_.added operatorss_.range_end operatorss_.range operatorss_.compared_to operatorss_.comparison operatorss_.conjunction operatorss_.disjunction bindingss_.variable bindingss_.position bindingss_.for_bind bindingss_.let_bind bindingss_.for_clause bindingss_.let_clause bindingss_.clause bindingss_.clauses bindingss_.condition bindingss_.descending bindingss_.empty_greatest bindingss_.collation bindingss_.key bindingss_.order bindingss_.flwor bindingss_.quant_bind bindingss_.quantified bindingss_.conditional bindingss_.level grammars_.no_level grammars_.no_element grammars_.encoding grammars_.version grammars_.strip grammars_.setter grammars_.initial grammars_.var_decl grammars_.param grammars_.params grammars_.body grammars_.fun_decl grammars_.declaration grammars_.declarations grammars_.prolog grammars_.query bytes_.ends bytes_.char_ends bytes_.skip_from bytes_.found values_.reference values_.string_from values_.value_from tokens_.token pieces_.piece pieces_.is_xml chars_.is_char chars_.is_name_start chars_.is_name_char single_reads element_reads many_from
calls = (refl, refl, refl, refl, refl, refl, refl, refl, refl, refl, refl, refl, refl, refl, refl, refl, refl, refl)

blocks_left_out :
    (reading (codes "validate {1}") ≡ Err (cut left_out 0))
    × (reading (codes "validate lax {1}") ≡ Err (cut left_out 0))
    × (accepted (codes "validate") ≡ true)
    × (reading (codes "ordered {1}") ≡ Err (cut left_out 0))
    × (reading (codes "unordered {1}") ≡ Err (cut left_out 0))
    × (reading (codes "(# a #) {1}") ≡ Err (cut left_out 0))
    × (reading (codes "/validate {1}") ≡ Err (cut left_out 1))
    × (reading (codes "/(# a #) {1}") ≡ Err (cut left_out 1))
    × (accepted (codes "ordered") ≡ true)
unfolding terminalss_.expr terminalss_.block typess_.plain_test typess_.target typess_.instruction_test typess_.last_argument typess_.named_argument typess_.element_test typess_.attribute_test typess_.kind_test typess_.any_item typess_.item_type typess_.occurs typess_.empty_type typess_.seq_type typess_.typ directs_.value_part directs_.double_quoted directs_.single_quoted directs_.value directs_.equals directs_.attribute directs_.attributes directs_.comment directs_.instruction directs_.direct_here directs_.direct directs_.content_part directs_.end_tag directs_.content directs_.elem primariess_.integer primariess_.literal primariess_.var primariess_.inside primariess_.paren primariess_.dot primariess_.arguments primariess_.call primariess_.build_name primariess_.target_name primariess_.build_content primariess_.named_builder primariess_.instruction_builder primariess_.block_builder primariess_.builder primariess_.primary pathss_.predicate pathss_.test pathss_.axis_step pathss_.at_step pathss_.any_step pathss_.named_step pathss_.up_step pathss_.step_kind pathss_.step pathss_.two pathss_.slashes pathss_.root pathss_.deep_root pathss_.path operatorss_.one_sign operatorss_.unary operatorss_.single_type operatorss_.cast_type operatorss_.cast operatorss_.castable_type operatorss_.castable operatorss_.treat_type operatorss_.treat operatorss_.instance_type operatorss_.instance operatorss_.intersect operatorss_.union operatorss_.times operatorss_.multiplied operatorss_.added operatorss_.range_end operatorss_.range operatorss_.compared_to operatorss_.comparison operatorss_.conjunction operatorss_.disjunction bindingss_.variable bindingss_.position bindingss_.for_bind bindingss_.let_bind bindingss_.for_clause bindingss_.let_clause bindingss_.clause bindingss_.clauses bindingss_.condition bindingss_.descending bindingss_.empty_greatest bindingss_.collation bindingss_.key bindingss_.order bindingss_.flwor bindingss_.quant_bind bindingss_.quantified bindingss_.conditional bindingss_.level grammars_.no_level grammars_.no_element grammars_.encoding grammars_.version grammars_.strip grammars_.setter grammars_.initial grammars_.var_decl grammars_.param grammars_.params grammars_.body grammars_.fun_decl grammars_.declaration grammars_.declarations grammars_.prolog grammars_.query bytes_.ends bytes_.char_ends bytes_.skip_from bytes_.found values_.reference values_.string_from values_.value_from tokens_.token pieces_.piece pieces_.is_xml chars_.is_char chars_.is_name_start chars_.is_name_char single_reads element_reads many_from
blocks_left_out = (refl, refl, refl, refl, refl, refl, refl, refl, refl)

builders :
    (accepted (codes "element a {}") ≡ true)
    × (accepted (codes "element a {1}") ≡ true)
    × (accepted (codes "element {1} {}") ≡ true)
    × (reading (codes "element {} {}") ≡ Err syntax_fault)
    × (accepted (codes "attribute a {}") ≡ true)
    × (accepted (codes "processing-instruction a {}") ≡ true)
    × (reading (codes "processing-instruction p:a {}") ≡ Err syntax_fault)
    × (accepted (codes "text {1}") ≡ true)
    × (reading (codes "text {}") ≡ Err syntax_fault)
    × (accepted (codes "comment {1}") ≡ true)
    × (accepted (codes "document {1}") ≡ true)
    × (accepted (codes "element") ≡ true)
    × (reading (codes "element a") ≡ Err syntax_fault)
    × (reading (codes "text div {1}") ≡ Err (cut left_out 5))
unfolding terminalss_.expr terminalss_.block typess_.plain_test typess_.target typess_.instruction_test typess_.last_argument typess_.named_argument typess_.element_test typess_.attribute_test typess_.kind_test typess_.any_item typess_.item_type typess_.occurs typess_.empty_type typess_.seq_type typess_.typ directs_.value_part directs_.double_quoted directs_.single_quoted directs_.value directs_.equals directs_.attribute directs_.attributes directs_.comment directs_.instruction directs_.direct_here directs_.direct directs_.content_part directs_.end_tag directs_.content directs_.elem primariess_.integer primariess_.literal primariess_.var primariess_.inside primariess_.paren primariess_.dot primariess_.arguments primariess_.call primariess_.build_name primariess_.target_name primariess_.build_content primariess_.named_builder primariess_.instruction_builder primariess_.block_builder primariess_.builder primariess_.primary pathss_.predicate pathss_.test pathss_.axis_step pathss_.at_step pathss_.any_step pathss_.named_step pathss_.up_step pathss_.step_kind pathss_.step pathss_.two pathss_.slashes pathss_.root pathss_.deep_root pathss_.path operatorss_.one_sign operatorss_.unary operatorss_.single_type operatorss_.cast_type operatorss_.cast operatorss_.castable_type operatorss_.castable operatorss_.treat_type operatorss_.treat operatorss_.instance_type operatorss_.instance operatorss_.intersect operatorss_.union operatorss_.times operatorss_.multiplied operatorss_.added operatorss_.range_end operatorss_.range operatorss_.compared_to operatorss_.comparison operatorss_.conjunction operatorss_.disjunction bindingss_.variable bindingss_.position bindingss_.for_bind bindingss_.let_bind bindingss_.for_clause bindingss_.let_clause bindingss_.clause bindingss_.clauses bindingss_.condition bindingss_.descending bindingss_.empty_greatest bindingss_.collation bindingss_.key bindingss_.order bindingss_.flwor bindingss_.quant_bind bindingss_.quantified bindingss_.conditional bindingss_.level grammars_.no_level grammars_.no_element grammars_.encoding grammars_.version grammars_.strip grammars_.setter grammars_.initial grammars_.var_decl grammars_.param grammars_.params grammars_.body grammars_.fun_decl grammars_.declaration grammars_.declarations grammars_.prolog grammars_.query bytes_.ends bytes_.char_ends bytes_.skip_from bytes_.found values_.reference values_.string_from values_.value_from tokens_.token pieces_.piece pieces_.is_xml chars_.is_char chars_.is_name_start chars_.is_name_char single_reads element_reads many_from
builders = (refl, refl, refl, refl, refl, refl, refl, refl, refl, refl, refl, refl, refl, refl)

flwor :
    (accepted (codes "for $x in 1 return 2") ≡ true)
    × (accepted (codes "for $x at $i in 1 return 2") ≡ true)
    × (accepted (codes "for $x as xs:integer in 1 return 2") ≡ true)
    × (accepted (codes "let $x := 1 return 2") ≡ true)
    × (accepted (codes "let $x as item()* := 1 return 2") ≡ true)
    × (accepted (codes "for $x in 1, $y in 2 let $z := 1 where 1 return 2") ≡ true)
    × (reading (codes "for $x in 1") ≡ Err syntax_fault)
    × (reading (codes "for x in 1") ≡ Err syntax_fault)
    × (reading (codes "1 + for $x in 1 return 2") ≡ Err syntax_fault)
unfolding terminalss_.expr terminalss_.block typess_.plain_test typess_.target typess_.instruction_test typess_.last_argument typess_.named_argument typess_.element_test typess_.attribute_test typess_.kind_test typess_.any_item typess_.item_type typess_.occurs typess_.empty_type typess_.seq_type typess_.typ directs_.value_part directs_.double_quoted directs_.single_quoted directs_.value directs_.equals directs_.attribute directs_.attributes directs_.comment directs_.instruction directs_.direct_here directs_.direct directs_.content_part directs_.end_tag directs_.content directs_.elem primariess_.integer primariess_.literal primariess_.var primariess_.inside primariess_.paren primariess_.dot primariess_.arguments primariess_.call primariess_.build_name primariess_.target_name primariess_.build_content primariess_.named_builder primariess_.instruction_builder primariess_.block_builder primariess_.builder primariess_.primary pathss_.predicate pathss_.test pathss_.axis_step pathss_.at_step pathss_.any_step pathss_.named_step pathss_.up_step pathss_.step_kind pathss_.step pathss_.two pathss_.slashes pathss_.root pathss_.deep_root pathss_.path operatorss_.one_sign operatorss_.unary operatorss_.single_type operatorss_.cast_type operatorss_.cast operatorss_.castable_type operatorss_.castable operatorss_.treat_type operatorss_.treat operatorss_.instance_type operatorss_.instance operatorss_.intersect operatorss_.union operatorss_.times operatorss_.multiplied operatorss_.added operatorss_.range_end operatorss_.range operatorss_.compared_to operatorss_.comparison operatorss_.conjunction operatorss_.disjunction bindingss_.variable bindingss_.position bindingss_.for_bind bindingss_.let_bind bindingss_.for_clause bindingss_.let_clause bindingss_.clause bindingss_.clauses bindingss_.condition bindingss_.descending bindingss_.empty_greatest bindingss_.collation bindingss_.key bindingss_.order bindingss_.flwor bindingss_.quant_bind bindingss_.quantified bindingss_.conditional bindingss_.level grammars_.no_level grammars_.no_element grammars_.encoding grammars_.version grammars_.strip grammars_.setter grammars_.initial grammars_.var_decl grammars_.param grammars_.params grammars_.body grammars_.fun_decl grammars_.declaration grammars_.declarations grammars_.prolog grammars_.query bytes_.ends bytes_.char_ends bytes_.skip_from bytes_.found values_.reference values_.string_from values_.value_from tokens_.token pieces_.piece pieces_.is_xml chars_.is_char chars_.is_name_start chars_.is_name_char single_reads element_reads many_from
flwor = (refl, refl, refl, refl, refl, refl, refl, refl, refl)

orders :
    (accepted (codes "for $x in 1 order by 1 return 2") ≡ true)
    × (accepted (codes "for $x in 1 stable order by 1 descending empty greatest, 2 return 2") ≡ true)
    × (reading (codes "for $x in 1 order by 1 collation 'a' return 2") ≡ Err (cut left_out 23))
    × (reading (codes "for $x in 1 order by 1 empty return 2") ≡ Err syntax_fault)
unfolding terminalss_.expr terminalss_.block typess_.plain_test typess_.target typess_.instruction_test typess_.last_argument typess_.named_argument typess_.element_test typess_.attribute_test typess_.kind_test typess_.any_item typess_.item_type typess_.occurs typess_.empty_type typess_.seq_type typess_.typ directs_.value_part directs_.double_quoted directs_.single_quoted directs_.value directs_.equals directs_.attribute directs_.attributes directs_.comment directs_.instruction directs_.direct_here directs_.direct directs_.content_part directs_.end_tag directs_.content directs_.elem primariess_.integer primariess_.literal primariess_.var primariess_.inside primariess_.paren primariess_.dot primariess_.arguments primariess_.call primariess_.build_name primariess_.target_name primariess_.build_content primariess_.named_builder primariess_.instruction_builder primariess_.block_builder primariess_.builder primariess_.primary pathss_.predicate pathss_.test pathss_.axis_step pathss_.at_step pathss_.any_step pathss_.named_step pathss_.up_step pathss_.step_kind pathss_.step pathss_.two pathss_.slashes pathss_.root pathss_.deep_root pathss_.path operatorss_.one_sign operatorss_.unary operatorss_.single_type operatorss_.cast_type operatorss_.cast operatorss_.castable_type operatorss_.castable operatorss_.treat_type operatorss_.treat operatorss_.instance_type operatorss_.instance operatorss_.intersect operatorss_.union operatorss_.times operatorss_.multiplied operatorss_.added operatorss_.range_end operatorss_.range operatorss_.compared_to operatorss_.comparison operatorss_.conjunction operatorss_.disjunction bindingss_.variable bindingss_.position bindingss_.for_bind bindingss_.let_bind bindingss_.for_clause bindingss_.let_clause bindingss_.clause bindingss_.clauses bindingss_.condition bindingss_.descending bindingss_.empty_greatest bindingss_.collation bindingss_.key bindingss_.order bindingss_.flwor bindingss_.quant_bind bindingss_.quantified bindingss_.conditional bindingss_.level grammars_.no_level grammars_.no_element grammars_.encoding grammars_.version grammars_.strip grammars_.setter grammars_.initial grammars_.var_decl grammars_.param grammars_.params grammars_.body grammars_.fun_decl grammars_.declaration grammars_.declarations grammars_.prolog grammars_.query bytes_.ends bytes_.char_ends bytes_.skip_from bytes_.found values_.reference values_.string_from values_.value_from tokens_.token pieces_.piece pieces_.is_xml chars_.is_char chars_.is_name_start chars_.is_name_char single_reads element_reads many_from
orders = (refl, refl, refl, refl)

quantifiers :
    (accepted (codes "some $x in 1 satisfies 2") ≡ true)
    × (accepted (codes "every $x as item() in 1, $y in 2 satisfies 3") ≡ true)
    × (reading (codes "some $x in 1") ≡ Err syntax_fault)
    × (accepted (codes "if (1) then 2 else 3") ≡ true)
    × (reading (codes "if (1) then 2") ≡ Err syntax_fault)
    × (accepted (codes "some") ≡ true)
unfolding terminalss_.expr terminalss_.block typess_.plain_test typess_.target typess_.instruction_test typess_.last_argument typess_.named_argument typess_.element_test typess_.attribute_test typess_.kind_test typess_.any_item typess_.item_type typess_.occurs typess_.empty_type typess_.seq_type typess_.typ directs_.value_part directs_.double_quoted directs_.single_quoted directs_.value directs_.equals directs_.attribute directs_.attributes directs_.comment directs_.instruction directs_.direct_here directs_.direct directs_.content_part directs_.end_tag directs_.content directs_.elem primariess_.integer primariess_.literal primariess_.var primariess_.inside primariess_.paren primariess_.dot primariess_.arguments primariess_.call primariess_.build_name primariess_.target_name primariess_.build_content primariess_.named_builder primariess_.instruction_builder primariess_.block_builder primariess_.builder primariess_.primary pathss_.predicate pathss_.test pathss_.axis_step pathss_.at_step pathss_.any_step pathss_.named_step pathss_.up_step pathss_.step_kind pathss_.step pathss_.two pathss_.slashes pathss_.root pathss_.deep_root pathss_.path operatorss_.one_sign operatorss_.unary operatorss_.single_type operatorss_.cast_type operatorss_.cast operatorss_.castable_type operatorss_.castable operatorss_.treat_type operatorss_.treat operatorss_.instance_type operatorss_.instance operatorss_.intersect operatorss_.union operatorss_.times operatorss_.multiplied operatorss_.added operatorss_.range_end operatorss_.range operatorss_.compared_to operatorss_.comparison operatorss_.conjunction operatorss_.disjunction bindingss_.variable bindingss_.position bindingss_.for_bind bindingss_.let_bind bindingss_.for_clause bindingss_.let_clause bindingss_.clause bindingss_.clauses bindingss_.condition bindingss_.descending bindingss_.empty_greatest bindingss_.collation bindingss_.key bindingss_.order bindingss_.flwor bindingss_.quant_bind bindingss_.quantified bindingss_.conditional bindingss_.level grammars_.no_level grammars_.no_element grammars_.encoding grammars_.version grammars_.strip grammars_.setter grammars_.initial grammars_.var_decl grammars_.param grammars_.params grammars_.body grammars_.fun_decl grammars_.declaration grammars_.declarations grammars_.prolog grammars_.query bytes_.ends bytes_.char_ends bytes_.skip_from bytes_.found values_.reference values_.string_from values_.value_from tokens_.token pieces_.piece pieces_.is_xml chars_.is_char chars_.is_name_start chars_.is_name_char single_reads element_reads many_from
quantifiers = (refl, refl, refl, refl, refl, refl)

elements :
    (accepted (codes "<a/>") ≡ true)
    × (accepted (codes "<a></a>") ≡ true)
    × (accepted (codes "<a ></a >") ≡ true)
    × (reading (codes "<a></b>") ≡ Err syntax_fault)
    × (accepted (codes "<a b='1'/>") ≡ true)
    × (accepted (codes "<a b = '1' c=\"2\" />") ≡ true)
    × (reading (codes "<a b='1'c='2'/>") ≡ Err syntax_fault)
    × (reading (codes "< a/>") ≡ Err syntax_fault)
    × (accepted (codes "<a><b/>x{1}y</a>") ≡ true)
    × (reading (codes "<a>}</a>") ≡ Err syntax_fault)
    × (accepted (codes "<a>{{}}</a>") ≡ true)
    × (reading (codes "<a>{}</a>") ≡ Err syntax_fault)
    × (accepted (codes "<a>&lt;</a>") ≡ true)
    × (reading (codes "<a>&x;</a>") ≡ Err syntax_fault)
unfolding terminalss_.expr terminalss_.block typess_.plain_test typess_.target typess_.instruction_test typess_.last_argument typess_.named_argument typess_.element_test typess_.attribute_test typess_.kind_test typess_.any_item typess_.item_type typess_.occurs typess_.empty_type typess_.seq_type typess_.typ directs_.value_part directs_.double_quoted directs_.single_quoted directs_.value directs_.equals directs_.attribute directs_.attributes directs_.comment directs_.instruction directs_.direct_here directs_.direct directs_.content_part directs_.end_tag directs_.content directs_.elem primariess_.integer primariess_.literal primariess_.var primariess_.inside primariess_.paren primariess_.dot primariess_.arguments primariess_.call primariess_.build_name primariess_.target_name primariess_.build_content primariess_.named_builder primariess_.instruction_builder primariess_.block_builder primariess_.builder primariess_.primary pathss_.predicate pathss_.test pathss_.axis_step pathss_.at_step pathss_.any_step pathss_.named_step pathss_.up_step pathss_.step_kind pathss_.step pathss_.two pathss_.slashes pathss_.root pathss_.deep_root pathss_.path operatorss_.one_sign operatorss_.unary operatorss_.single_type operatorss_.cast_type operatorss_.cast operatorss_.castable_type operatorss_.castable operatorss_.treat_type operatorss_.treat operatorss_.instance_type operatorss_.instance operatorss_.intersect operatorss_.union operatorss_.times operatorss_.multiplied operatorss_.added operatorss_.range_end operatorss_.range operatorss_.compared_to operatorss_.comparison operatorss_.conjunction operatorss_.disjunction bindingss_.variable bindingss_.position bindingss_.for_bind bindingss_.let_bind bindingss_.for_clause bindingss_.let_clause bindingss_.clause bindingss_.clauses bindingss_.condition bindingss_.descending bindingss_.empty_greatest bindingss_.collation bindingss_.key bindingss_.order bindingss_.flwor bindingss_.quant_bind bindingss_.quantified bindingss_.conditional bindingss_.level grammars_.no_level grammars_.no_element grammars_.encoding grammars_.version grammars_.strip grammars_.setter grammars_.initial grammars_.var_decl grammars_.param grammars_.params grammars_.body grammars_.fun_decl grammars_.declaration grammars_.declarations grammars_.prolog grammars_.query bytes_.ends bytes_.char_ends bytes_.skip_from bytes_.found values_.reference values_.string_from values_.value_from tokens_.token pieces_.piece pieces_.is_xml chars_.is_char chars_.is_name_start chars_.is_name_char single_reads element_reads many_from
elements = (refl, refl, refl, refl, refl, refl, refl, refl, refl, refl, refl, refl, refl, refl)

values :
    (accepted (codes "<a b='{1}'/>") ≡ true)
    × (accepted (codes "<a b='{{'/>") ≡ true)
    × (reading (codes "<a b='}'/>") ≡ Err syntax_fault)
    × (accepted (codes "<a b=''''/>") ≡ true)
    × (accepted (codes "<a b='&lt;'/>") ≡ true)
    × (reading (codes "<a b='<'/>") ≡ Err syntax_fault)
    × (accepted (codes "<a b=\"'\"/>") ≡ true)
unfolding terminalss_.expr terminalss_.block typess_.plain_test typess_.target typess_.instruction_test typess_.last_argument typess_.named_argument typess_.element_test typess_.attribute_test typess_.kind_test typess_.any_item typess_.item_type typess_.occurs typess_.empty_type typess_.seq_type typess_.typ directs_.value_part directs_.double_quoted directs_.single_quoted directs_.value directs_.equals directs_.attribute directs_.attributes directs_.comment directs_.instruction directs_.direct_here directs_.direct directs_.content_part directs_.end_tag directs_.content directs_.elem primariess_.integer primariess_.literal primariess_.var primariess_.inside primariess_.paren primariess_.dot primariess_.arguments primariess_.call primariess_.build_name primariess_.target_name primariess_.build_content primariess_.named_builder primariess_.instruction_builder primariess_.block_builder primariess_.builder primariess_.primary pathss_.predicate pathss_.test pathss_.axis_step pathss_.at_step pathss_.any_step pathss_.named_step pathss_.up_step pathss_.step_kind pathss_.step pathss_.two pathss_.slashes pathss_.root pathss_.deep_root pathss_.path operatorss_.one_sign operatorss_.unary operatorss_.single_type operatorss_.cast_type operatorss_.cast operatorss_.castable_type operatorss_.castable operatorss_.treat_type operatorss_.treat operatorss_.instance_type operatorss_.instance operatorss_.intersect operatorss_.union operatorss_.times operatorss_.multiplied operatorss_.added operatorss_.range_end operatorss_.range operatorss_.compared_to operatorss_.comparison operatorss_.conjunction operatorss_.disjunction bindingss_.variable bindingss_.position bindingss_.for_bind bindingss_.let_bind bindingss_.for_clause bindingss_.let_clause bindingss_.clause bindingss_.clauses bindingss_.condition bindingss_.descending bindingss_.empty_greatest bindingss_.collation bindingss_.key bindingss_.order bindingss_.flwor bindingss_.quant_bind bindingss_.quantified bindingss_.conditional bindingss_.level grammars_.no_level grammars_.no_element grammars_.encoding grammars_.version grammars_.strip grammars_.setter grammars_.initial grammars_.var_decl grammars_.param grammars_.params grammars_.body grammars_.fun_decl grammars_.declaration grammars_.declarations grammars_.prolog grammars_.query bytes_.ends bytes_.char_ends bytes_.skip_from bytes_.found values_.reference values_.string_from values_.value_from tokens_.token pieces_.piece pieces_.is_xml chars_.is_char chars_.is_name_start chars_.is_name_char single_reads element_reads many_from
values = (refl, refl, refl, refl, refl, refl, refl)

comments_and_instructions :
    (accepted (codes "<!--a-->") ≡ true)
    × (reading (codes "<!--a--b-->") ≡ Err syntax_fault)
    × (reading (codes "<!--a--->") ≡ Err syntax_fault)
    × (accepted (codes "<?a?>") ≡ true)
    × (accepted (codes "<?a b?>") ≡ true)
    × (reading (codes "<?xml b?>") ≡ Err syntax_fault)
    × (accepted (codes "<?a:b?>") ≡ true)
    × (accepted (codes "<a><!----><?b?></a>") ≡ true)
    × (accepted (codes "<a><![CDATA[<]]></a>") ≡ true)
unfolding terminalss_.expr terminalss_.block typess_.plain_test typess_.target typess_.instruction_test typess_.last_argument typess_.named_argument typess_.element_test typess_.attribute_test typess_.kind_test typess_.any_item typess_.item_type typess_.occurs typess_.empty_type typess_.seq_type typess_.typ directs_.value_part directs_.double_quoted directs_.single_quoted directs_.value directs_.equals directs_.attribute directs_.attributes directs_.comment directs_.instruction directs_.direct_here directs_.direct directs_.content_part directs_.end_tag directs_.content directs_.elem primariess_.integer primariess_.literal primariess_.var primariess_.inside primariess_.paren primariess_.dot primariess_.arguments primariess_.call primariess_.build_name primariess_.target_name primariess_.build_content primariess_.named_builder primariess_.instruction_builder primariess_.block_builder primariess_.builder primariess_.primary pathss_.predicate pathss_.test pathss_.axis_step pathss_.at_step pathss_.any_step pathss_.named_step pathss_.up_step pathss_.step_kind pathss_.step pathss_.two pathss_.slashes pathss_.root pathss_.deep_root pathss_.path operatorss_.one_sign operatorss_.unary operatorss_.single_type operatorss_.cast_type operatorss_.cast operatorss_.castable_type operatorss_.castable operatorss_.treat_type operatorss_.treat operatorss_.instance_type operatorss_.instance operatorss_.intersect operatorss_.union operatorss_.times operatorss_.multiplied operatorss_.added operatorss_.range_end operatorss_.range operatorss_.compared_to operatorss_.comparison operatorss_.conjunction operatorss_.disjunction bindingss_.variable bindingss_.position bindingss_.for_bind bindingss_.let_bind bindingss_.for_clause bindingss_.let_clause bindingss_.clause bindingss_.clauses bindingss_.condition bindingss_.descending bindingss_.empty_greatest bindingss_.collation bindingss_.key bindingss_.order bindingss_.flwor bindingss_.quant_bind bindingss_.quantified bindingss_.conditional bindingss_.level grammars_.no_level grammars_.no_element grammars_.encoding grammars_.version grammars_.strip grammars_.setter grammars_.initial grammars_.var_decl grammars_.param grammars_.params grammars_.body grammars_.fun_decl grammars_.declaration grammars_.declarations grammars_.prolog grammars_.query bytes_.ends bytes_.char_ends bytes_.skip_from bytes_.found values_.reference values_.string_from values_.value_from tokens_.token pieces_.piece pieces_.is_xml chars_.is_char chars_.is_name_start chars_.is_name_char single_reads element_reads many_from
comments_and_instructions = (refl, refl, refl, refl, refl, refl, refl, refl, refl)

prologs :
    (accepted (codes "declare boundary-space strip; 1") ≡ true)
    × (reading (codes "declare boundary-space preserve; 1") ≡ Err (cut left_out 23))
    × (accepted (codes "declare variable $x := 1; $x") ≡ true)
    × (accepted (codes "declare variable $x as item() := 1; $x") ≡ true)
    × (reading (codes "declare variable $x external; $x") ≡ Err (cut left_out 20))
    × (accepted (codes "declare function f() {1}; 1") ≡ true)
    × (accepted (codes "declare function f($x, $y as item()) as item() {1}; 1") ≡ true)
    × (reading (codes "declare function f() external; 1") ≡ Err (cut left_out 21))
unfolding terminalss_.expr terminalss_.block typess_.plain_test typess_.target typess_.instruction_test typess_.last_argument typess_.named_argument typess_.element_test typess_.attribute_test typess_.kind_test typess_.any_item typess_.item_type typess_.occurs typess_.empty_type typess_.seq_type typess_.typ directs_.value_part directs_.double_quoted directs_.single_quoted directs_.value directs_.equals directs_.attribute directs_.attributes directs_.comment directs_.instruction directs_.direct_here directs_.direct directs_.content_part directs_.end_tag directs_.content directs_.elem primariess_.integer primariess_.literal primariess_.var primariess_.inside primariess_.paren primariess_.dot primariess_.arguments primariess_.call primariess_.build_name primariess_.target_name primariess_.build_content primariess_.named_builder primariess_.instruction_builder primariess_.block_builder primariess_.builder primariess_.primary pathss_.predicate pathss_.test pathss_.axis_step pathss_.at_step pathss_.any_step pathss_.named_step pathss_.up_step pathss_.step_kind pathss_.step pathss_.two pathss_.slashes pathss_.root pathss_.deep_root pathss_.path operatorss_.one_sign operatorss_.unary operatorss_.single_type operatorss_.cast_type operatorss_.cast operatorss_.castable_type operatorss_.castable operatorss_.treat_type operatorss_.treat operatorss_.instance_type operatorss_.instance operatorss_.intersect operatorss_.union operatorss_.times operatorss_.multiplied operatorss_.added operatorss_.range_end operatorss_.range operatorss_.compared_to operatorss_.comparison operatorss_.conjunction operatorss_.disjunction bindingss_.variable bindingss_.position bindingss_.for_bind bindingss_.let_bind bindingss_.for_clause bindingss_.let_clause bindingss_.clause bindingss_.clauses bindingss_.condition bindingss_.descending bindingss_.empty_greatest bindingss_.collation bindingss_.key bindingss_.order bindingss_.flwor bindingss_.quant_bind bindingss_.quantified bindingss_.conditional bindingss_.level grammars_.no_level grammars_.no_element grammars_.encoding grammars_.version grammars_.strip grammars_.setter grammars_.initial grammars_.var_decl grammars_.param grammars_.params grammars_.body grammars_.fun_decl grammars_.declaration grammars_.declarations grammars_.prolog grammars_.query bytes_.ends bytes_.char_ends bytes_.skip_from bytes_.found values_.reference values_.string_from values_.value_from tokens_.token pieces_.piece pieces_.is_xml chars_.is_char chars_.is_name_start chars_.is_name_char single_reads element_reads many_from
prologs = (refl, refl, refl, refl, refl, refl, refl, refl)

declarations_left_out :
    (reading (codes "declare base-uri 'a'; 1") ≡ Err (cut left_out 0))
    × (reading (codes "declare div 2") ≡ Err (cut left_out 0))
    × (accepted (codes "declare/a") ≡ true)
    × (reading (codes "import") ≡ Err (cut left_out 0))
    × (accepted (codes "a/import") ≡ true)
    × (reading (codes "module") ≡ Err (cut left_out 0))
    × (accepted (codes "declare variable $x := 1; module") ≡ true)
    × (reading (codes "declare variable $x := 1; import") ≡ Err (cut left_out 26))
    × (reading (codes "declare variable $x := 1; declare boundary-space strip; 1") ≡ Err syntax_fault)
unfolding terminalss_.expr terminalss_.block typess_.plain_test typess_.target typess_.instruction_test typess_.last_argument typess_.named_argument typess_.element_test typess_.attribute_test typess_.kind_test typess_.any_item typess_.item_type typess_.occurs typess_.empty_type typess_.seq_type typess_.typ directs_.value_part directs_.double_quoted directs_.single_quoted directs_.value directs_.equals directs_.attribute directs_.attributes directs_.comment directs_.instruction directs_.direct_here directs_.direct directs_.content_part directs_.end_tag directs_.content directs_.elem primariess_.integer primariess_.literal primariess_.var primariess_.inside primariess_.paren primariess_.dot primariess_.arguments primariess_.call primariess_.build_name primariess_.target_name primariess_.build_content primariess_.named_builder primariess_.instruction_builder primariess_.block_builder primariess_.builder primariess_.primary pathss_.predicate pathss_.test pathss_.axis_step pathss_.at_step pathss_.any_step pathss_.named_step pathss_.up_step pathss_.step_kind pathss_.step pathss_.two pathss_.slashes pathss_.root pathss_.deep_root pathss_.path operatorss_.one_sign operatorss_.unary operatorss_.single_type operatorss_.cast_type operatorss_.cast operatorss_.castable_type operatorss_.castable operatorss_.treat_type operatorss_.treat operatorss_.instance_type operatorss_.instance operatorss_.intersect operatorss_.union operatorss_.times operatorss_.multiplied operatorss_.added operatorss_.range_end operatorss_.range operatorss_.compared_to operatorss_.comparison operatorss_.conjunction operatorss_.disjunction bindingss_.variable bindingss_.position bindingss_.for_bind bindingss_.let_bind bindingss_.for_clause bindingss_.let_clause bindingss_.clause bindingss_.clauses bindingss_.condition bindingss_.descending bindingss_.empty_greatest bindingss_.collation bindingss_.key bindingss_.order bindingss_.flwor bindingss_.quant_bind bindingss_.quantified bindingss_.conditional bindingss_.level grammars_.no_level grammars_.no_element grammars_.encoding grammars_.version grammars_.strip grammars_.setter grammars_.initial grammars_.var_decl grammars_.param grammars_.params grammars_.body grammars_.fun_decl grammars_.declaration grammars_.declarations grammars_.prolog grammars_.query bytes_.ends bytes_.char_ends bytes_.skip_from bytes_.found values_.reference values_.string_from values_.value_from tokens_.token pieces_.piece pieces_.is_xml chars_.is_char chars_.is_name_start chars_.is_name_char single_reads element_reads many_from
declarations_left_out = (refl, refl, refl, refl, refl, refl, refl, refl, refl)

versions :
    (accepted (codes "xquery") ≡ true)
    × (accepted (codes "xquery/version") ≡ true)
    × (reading (codes "xquery version 1") ≡ Err syntax_fault)
unfolding terminalss_.expr terminalss_.block typess_.plain_test typess_.target typess_.instruction_test typess_.last_argument typess_.named_argument typess_.element_test typess_.attribute_test typess_.kind_test typess_.any_item typess_.item_type typess_.occurs typess_.empty_type typess_.seq_type typess_.typ directs_.value_part directs_.double_quoted directs_.single_quoted directs_.value directs_.equals directs_.attribute directs_.attributes directs_.comment directs_.instruction directs_.direct_here directs_.direct directs_.content_part directs_.end_tag directs_.content directs_.elem primariess_.integer primariess_.literal primariess_.var primariess_.inside primariess_.paren primariess_.dot primariess_.arguments primariess_.call primariess_.build_name primariess_.target_name primariess_.build_content primariess_.named_builder primariess_.instruction_builder primariess_.block_builder primariess_.builder primariess_.primary pathss_.predicate pathss_.test pathss_.axis_step pathss_.at_step pathss_.any_step pathss_.named_step pathss_.up_step pathss_.step_kind pathss_.step pathss_.two pathss_.slashes pathss_.root pathss_.deep_root pathss_.path operatorss_.one_sign operatorss_.unary operatorss_.single_type operatorss_.cast_type operatorss_.cast operatorss_.castable_type operatorss_.castable operatorss_.treat_type operatorss_.treat operatorss_.instance_type operatorss_.instance operatorss_.intersect operatorss_.union operatorss_.times operatorss_.multiplied operatorss_.added operatorss_.range_end operatorss_.range operatorss_.compared_to operatorss_.comparison operatorss_.conjunction operatorss_.disjunction bindingss_.variable bindingss_.position bindingss_.for_bind bindingss_.let_bind bindingss_.for_clause bindingss_.let_clause bindingss_.clause bindingss_.clauses bindingss_.condition bindingss_.descending bindingss_.empty_greatest bindingss_.collation bindingss_.key bindingss_.order bindingss_.flwor bindingss_.quant_bind bindingss_.quantified bindingss_.conditional bindingss_.level grammars_.no_level grammars_.no_element grammars_.encoding grammars_.version grammars_.strip grammars_.setter grammars_.initial grammars_.var_decl grammars_.param grammars_.params grammars_.body grammars_.fun_decl grammars_.declaration grammars_.declarations grammars_.prolog grammars_.query bytes_.ends bytes_.char_ends bytes_.skip_from bytes_.found values_.reference values_.string_from values_.value_from tokens_.token pieces_.piece pieces_.is_xml chars_.is_char chars_.is_name_start chars_.is_name_char single_reads element_reads many_from
versions = (refl, refl, refl)

ends :
    (accepted (codes "1, 2") ≡ true)
    × (reading (codes "1 2") ≡ Err syntax_fault)
    × (reading (codes "1,") ≡ Err syntax_fault)
    × (accepted (codes "()") ≡ true)
    × (accepted (codes "(1, 2)") ≡ true)
    × (reading (codes "(1") ≡ Err syntax_fault)
    × (reading (codes "1)") ≡ Err syntax_fault)
    × (accepted (codes ".") ≡ true)
    × (reading (codes "1;") ≡ Err syntax_fault)
unfolding terminalss_.expr terminalss_.block typess_.plain_test typess_.target typess_.instruction_test typess_.last_argument typess_.named_argument typess_.element_test typess_.attribute_test typess_.kind_test typess_.any_item typess_.item_type typess_.occurs typess_.empty_type typess_.seq_type typess_.typ directs_.value_part directs_.double_quoted directs_.single_quoted directs_.value directs_.equals directs_.attribute directs_.attributes directs_.comment directs_.instruction directs_.direct_here directs_.direct directs_.content_part directs_.end_tag directs_.content directs_.elem primariess_.integer primariess_.literal primariess_.var primariess_.inside primariess_.paren primariess_.dot primariess_.arguments primariess_.call primariess_.build_name primariess_.target_name primariess_.build_content primariess_.named_builder primariess_.instruction_builder primariess_.block_builder primariess_.builder primariess_.primary pathss_.predicate pathss_.test pathss_.axis_step pathss_.at_step pathss_.any_step pathss_.named_step pathss_.up_step pathss_.step_kind pathss_.step pathss_.two pathss_.slashes pathss_.root pathss_.deep_root pathss_.path operatorss_.one_sign operatorss_.unary operatorss_.single_type operatorss_.cast_type operatorss_.cast operatorss_.castable_type operatorss_.castable operatorss_.treat_type operatorss_.treat operatorss_.instance_type operatorss_.instance operatorss_.intersect operatorss_.union operatorss_.times operatorss_.multiplied operatorss_.added operatorss_.range_end operatorss_.range operatorss_.compared_to operatorss_.comparison operatorss_.conjunction operatorss_.disjunction bindingss_.variable bindingss_.position bindingss_.for_bind bindingss_.let_bind bindingss_.for_clause bindingss_.let_clause bindingss_.clause bindingss_.clauses bindingss_.condition bindingss_.descending bindingss_.empty_greatest bindingss_.collation bindingss_.key bindingss_.order bindingss_.flwor bindingss_.quant_bind bindingss_.quantified bindingss_.conditional bindingss_.level grammars_.no_level grammars_.no_element grammars_.encoding grammars_.version grammars_.strip grammars_.setter grammars_.initial grammars_.var_decl grammars_.param grammars_.params grammars_.body grammars_.fun_decl grammars_.declaration grammars_.declarations grammars_.prolog grammars_.query bytes_.ends bytes_.char_ends bytes_.skip_from bytes_.found values_.reference values_.string_from values_.value_from tokens_.token pieces_.piece pieces_.is_xml chars_.is_char chars_.is_name_start chars_.is_name_char single_reads element_reads many_from
ends = (refl, refl, refl, refl, refl, refl, refl, refl, refl)
