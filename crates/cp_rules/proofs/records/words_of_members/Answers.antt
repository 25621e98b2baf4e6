use Rattle.std.proofs.Common.{◌+◌, ℕ, drop, slice_get, refl, ap, sym, ◌∙◌}
use Rattle.cp_model.specs.RulesTypes.{cap_words}
use Rattle.cp_rules.specs.Records.{words_if, words_of_members}
use Rattle.cp_rules.proofs.CappedWords.{capped_most, capped_next}
use Rattle.cp_rules.proofs.Fields.{words_step}
use Rattle.cp_rules.proofs.records.words_of_members.Goals as goal

pub loop-number-preserved : goal.loop-number-preserved
loop-number-preserved c =
    let env = c.args.env.now in
    let ms = c.args.members.now in
    let k = c.loop-number.number in
    let rest = words_of_members env (drop (k + 1) ms) in
    let step = words_step env ms k (k + 1) refl in
    record {
      within = capped_most c.sum-words.result _ c.sum-words.ensures;
      words = capped_next c.loop-number.words c.words_at.result (words_if env (slice_get ms k)) c.sum-words.result rest c.words_at.ensures c.sum-words.ensures
          ∙ sym (ap (λ (n : ℕ). cap_words (c.loop-number.words + n)) step) ∙ c.loop-number.invariant.words;
    }
