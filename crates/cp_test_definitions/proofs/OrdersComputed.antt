-- The answers of orders, computed. Written by worked/make_rows.py.
use Rattle.std.proofs.Common.{refl}
use Rattle.cp_test_definitions.specs.Orders.{a_lawful_order_1, a_single_private_step_1, an_unlawful_order_1, an_unlawful_order_2, an_unlawful_order_3, an_unlawful_order_4, events_in_any_order_1, events_in_any_order_2}
use Rattle.cp_scan.specs.Pieces.{word, number, comment, coded_character, character, longer_mark, mark, piece, pieces}
use Rattle.cp_model_grammar.specs.Declarations.{constant_definition_of, parameter_group_of, some_parameters_of, parameters_of, result_type_of, heading_from, heading_of, variable_group_of, some_variables_of, variables_of, body_of, routine_of, routines_of, system_from, system_type, enumeration_of, written_type, defined_by, defined_of, type_definition_of, section_by, section_of}
use Rattle.cp_model_grammar.specs.Expressions.{operation_of, chain_from, term_of, signed_term, simple_of, expression_of, expressions_from, index_of, indices_from, field_of, indexed_of, selector_by, selector_of, designator_of, arguments_of, optional_arguments_of, call_or_part, named_of, parenthesized_of, not_of, factor_by, factor_of, inner_at}
use Rattle.cp_model_grammar.specs.Kinds.{is_symbol}
use Rattle.cp_model_grammar.specs.Names.{identifier_of, names_of, constant_of, constants_of}
use Rattle.cp_model_grammar.specs.Reading.{expect, optional_symbol, repeat}
use Rattle.cp_model_grammar.specs.Statements.{direction_of, statements_from, arm_of, else_part, block_of, compound_of, if_of, case_of, while_of, repeat_of, for_of, cycle_of, assign_or_perform, designated_of, init_item_of, init_of, statement_by, statement_of, deeper_at}
use Rattle.cp_model_grammar.specs.Text.{tree_of, text_of}
use Rattle.cp_model_grammar.specs.Types.{subrange_from, named_or_subrange, group_of, array_of, record_of, type_by, type_of, inner_type_at}

pub a_lawful_order_1-holds : a_lawful_order_1
unfolding word number comment coded_character character longer_mark mark piece pieces constant_definition_of parameter_group_of some_parameters_of parameters_of result_type_of heading_from heading_of variable_group_of some_variables_of variables_of body_of routine_of routines_of system_from system_type enumeration_of written_type defined_by defined_of type_definition_of section_by section_of operation_of chain_from term_of signed_term simple_of expression_of expressions_from index_of indices_from field_of indexed_of selector_by selector_of designator_of arguments_of optional_arguments_of call_or_part named_of parenthesized_of not_of factor_by factor_of inner_at is_symbol identifier_of names_of constant_of constants_of expect optional_symbol repeat direction_of statements_from arm_of else_part block_of compound_of if_of case_of while_of repeat_of for_of cycle_of assign_or_perform designated_of init_item_of init_of statement_by statement_of deeper_at tree_of text_of subrange_from named_or_subrange group_of array_of record_of type_by type_of inner_type_at
a_lawful_order_1-holds = refl

pub a_single_private_step_1-holds : a_single_private_step_1
unfolding word number comment coded_character character longer_mark mark piece pieces constant_definition_of parameter_group_of some_parameters_of parameters_of result_type_of heading_from heading_of variable_group_of some_variables_of variables_of body_of routine_of routines_of system_from system_type enumeration_of written_type defined_by defined_of type_definition_of section_by section_of operation_of chain_from term_of signed_term simple_of expression_of expressions_from index_of indices_from field_of indexed_of selector_by selector_of designator_of arguments_of optional_arguments_of call_or_part named_of parenthesized_of not_of factor_by factor_of inner_at is_symbol identifier_of names_of constant_of constants_of expect optional_symbol repeat direction_of statements_from arm_of else_part block_of compound_of if_of case_of while_of repeat_of for_of cycle_of assign_or_perform designated_of init_item_of init_of statement_by statement_of deeper_at tree_of text_of subrange_from named_or_subrange group_of array_of record_of type_by type_of inner_type_at
a_single_private_step_1-holds = refl

pub an_unlawful_order_1-holds : an_unlawful_order_1
unfolding word number comment coded_character character longer_mark mark piece pieces constant_definition_of parameter_group_of some_parameters_of parameters_of result_type_of heading_from heading_of variable_group_of some_variables_of variables_of body_of routine_of routines_of system_from system_type enumeration_of written_type defined_by defined_of type_definition_of section_by section_of operation_of chain_from term_of signed_term simple_of expression_of expressions_from index_of indices_from field_of indexed_of selector_by selector_of designator_of arguments_of optional_arguments_of call_or_part named_of parenthesized_of not_of factor_by factor_of inner_at is_symbol identifier_of names_of constant_of constants_of expect optional_symbol repeat direction_of statements_from arm_of else_part block_of compound_of if_of case_of while_of repeat_of for_of cycle_of assign_or_perform designated_of init_item_of init_of statement_by statement_of deeper_at tree_of text_of subrange_from named_or_subrange group_of array_of record_of type_by type_of inner_type_at
an_unlawful_order_1-holds = refl

pub an_unlawful_order_2-holds : an_unlawful_order_2
unfolding word number comment coded_character character longer_mark mark piece pieces constant_definition_of parameter_group_of some_parameters_of parameters_of result_type_of heading_from heading_of variable_group_of some_variables_of variables_of body_of routine_of routines_of system_from system_type enumeration_of written_type defined_by defined_of type_definition_of section_by section_of operation_of chain_from term_of signed_term simple_of expression_of expressions_from index_of indices_from field_of indexed_of selector_by selector_of designator_of arguments_of optional_arguments_of call_or_part named_of parenthesized_of not_of factor_by factor_of inner_at is_symbol identifier_of names_of constant_of constants_of expect optional_symbol repeat direction_of statements_from arm_of else_part block_of compound_of if_of case_of while_of repeat_of for_of cycle_of assign_or_perform designated_of init_item_of init_of statement_by statement_of deeper_at tree_of text_of subrange_from named_or_subrange group_of array_of record_of type_by type_of inner_type_at
an_unlawful_order_2-holds = refl

pub an_unlawful_order_3-holds : an_unlawful_order_3
unfolding word number comment coded_character character longer_mark mark piece pieces constant_definition_of parameter_group_of some_parameters_of parameters_of result_type_of heading_from heading_of variable_group_of some_variables_of variables_of body_of routine_of routines_of system_from system_type enumeration_of written_type defined_by defined_of type_definition_of section_by section_of operation_of chain_from term_of signed_term simple_of expression_of expressions_from index_of indices_from field_of indexed_of selector_by selector_of designator_of arguments_of optional_arguments_of call_or_part named_of parenthesized_of not_of factor_by factor_of inner_at is_symbol identifier_of names_of constant_of constants_of expect optional_symbol repeat direction_of statements_from arm_of else_part block_of compound_of if_of case_of while_of repeat_of for_of cycle_of assign_or_perform designated_of init_item_of init_of statement_by statement_of deeper_at tree_of text_of subrange_from named_or_subrange group_of array_of record_of type_by type_of inner_type_at
an_unlawful_order_3-holds = refl

pub an_unlawful_order_4-holds : an_unlawful_order_4
unfolding word number comment coded_character character longer_mark mark piece pieces constant_definition_of parameter_group_of some_parameters_of parameters_of result_type_of heading_from heading_of variable_group_of some_variables_of variables_of body_of routine_of routines_of system_from system_type enumeration_of written_type defined_by defined_of type_definition_of section_by section_of operation_of chain_from term_of signed_term simple_of expression_of expressions_from index_of indices_from field_of indexed_of selector_by selector_of designator_of arguments_of optional_arguments_of call_or_part named_of parenthesized_of not_of factor_by factor_of inner_at is_symbol identifier_of names_of constant_of constants_of expect optional_symbol repeat direction_of statements_from arm_of else_part block_of compound_of if_of case_of while_of repeat_of for_of cycle_of assign_or_perform designated_of init_item_of init_of statement_by statement_of deeper_at tree_of text_of subrange_from named_or_subrange group_of array_of record_of type_by type_of inner_type_at
an_unlawful_order_4-holds = refl

pub events_in_any_order_1-holds : events_in_any_order_1
unfolding word number comment coded_character character longer_mark mark piece pieces constant_definition_of parameter_group_of some_parameters_of parameters_of result_type_of heading_from heading_of variable_group_of some_variables_of variables_of body_of routine_of routines_of system_from system_type enumeration_of written_type defined_by defined_of type_definition_of section_by section_of operation_of chain_from term_of signed_term simple_of expression_of expressions_from index_of indices_from field_of indexed_of selector_by selector_of designator_of arguments_of optional_arguments_of call_or_part named_of parenthesized_of not_of factor_by factor_of inner_at is_symbol identifier_of names_of constant_of constants_of expect optional_symbol repeat direction_of statements_from arm_of else_part block_of compound_of if_of case_of while_of repeat_of for_of cycle_of assign_or_perform designated_of init_item_of init_of statement_by statement_of deeper_at tree_of text_of subrange_from named_or_subrange group_of array_of record_of type_by type_of inner_type_at
events_in_any_order_1-holds = refl

pub events_in_any_order_2-holds : events_in_any_order_2
unfolding word number comment coded_character character longer_mark mark piece pieces constant_definition_of parameter_group_of some_parameters_of parameters_of result_type_of heading_from heading_of variable_group_of some_variables_of variables_of body_of routine_of routines_of system_from system_type enumeration_of written_type defined_by defined_of type_definition_of section_by section_of operation_of chain_from term_of signed_term simple_of expression_of expressions_from index_of indices_from field_of indexed_of selector_by selector_of designator_of arguments_of optional_arguments_of call_or_part named_of parenthesized_of not_of factor_by factor_of inner_at is_symbol identifier_of names_of constant_of constants_of expect optional_symbol repeat direction_of statements_from arm_of else_part block_of compound_of if_of case_of while_of repeat_of for_of cycle_of assign_or_perform designated_of init_item_of init_of statement_by statement_of deeper_at tree_of text_of subrange_from named_or_subrange group_of array_of record_of type_by type_of inner_type_at
events_in_any_order_2-holds = refl
