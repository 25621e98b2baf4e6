use Rattle.cp_scan.proofs.WordFronts.{whole_front, short_front}
use Rattle.cp_scan.proofs.words.front_in_lower_case.Goals as goal

pub returns-then-text-ge-FRONT : goal.returns-then-text-ge-FRONT
returns-then-text-ge-FRONT c = λ n most inside. whole_front _ _ n most c.lower_front.ensures

pub returns-else-text-ge-FRONT : goal.returns-else-text-ge-FRONT
returns-else-text-ge-FRONT c = λ n most inside. short_front _ _ n inside c.lower_end.ensures
