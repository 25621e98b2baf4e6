use Rattle.std.proofs.Common.{◌≡◌, ◌≤◌, ◌+◌, drop}
use Rattle.cp_model.specs.RulesTypes.{cap_words}
use Rattle.cp_rules.specs.Records.{words_of_members}
use Rattle.cp_rules.proofs.records.words_of_members.Given as goal

-- the words so far and those of the rest are those of all
abbrev pub invariant-loop-number : goal.invariant-loop-number
invariant-loop-number l =
    let env = l.env in
    let ms = l.members in
    record {
      within : l.words ≤ 65537;
      words : cap_words (l.words + words_of_members env (drop l.number ms)) ≡ cap_words (words_of_members env ms);
    }
