use Rattle.std.proofs.Common.{◌≡◌, drop, map}
use Rattle.cp_model.specs.Spelling.{word_among}
use Rattle.cp_scan.proofs.words.look_up.Given as goal

abbrev pub invariant-loop-word : goal.invariant-loop-word
invariant-loop-word l = word_among (map (λ w. (w.0.now, w.1)) (drop l.word-index l.table)) l.letters ≡ word_among (map (λ w. (w.0.now, w.1)) l.table) l.letters
