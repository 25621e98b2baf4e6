use Rattle.cp_model_grammar.proofs.Refusals.{stops_inside, wrong_is_first, deep_is_first, deep_opens_the_next, deep_begins_a_deeper_text, levels_are_of_tokens}
use Rattle.cp_model_grammar.proofs.TextViable.{front_begins_a_text}
use Rattle.cp_model_grammar.proofs.laws.refusal_laws.Goals as goal

pub returns : goal.returns
returns c = record {
  inside = stops_inside;
  begun = front_begins_a_text;
  wrong = wrong_is_first;
  deep = deep_is_first;
  opens = deep_opens_the_next;
  deeper = deep_begins_a_deeper_text;
  levels = levels_are_of_tokens;
}
