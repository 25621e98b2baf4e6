use Rattle.std.proofs.Common.{◌≡◌, ◌<◌, Global, Some, Vec, ap, length, rules, slice_index_or, sym, ◌∙◌}
use Rattle.std.proofs.lemmas.Option.{slice_get-get_or}
use Rattle.cp_search.specs.declared.scout.Found.{Found}
use Rattle.cp_search.proofs.batch.Batch.at.Goals as goal

pub returns-clause-among : goal.returns-clause-among
returns-clause-among c =
    let all = c.args.self.now.found.items in
    let worker = c.args.self.now.worker in
    let place = c.args.self.now.place in
    let steps = c.in_ok-get.field-0.now in
    let found = c.in_ok-found.found.now in
    let below : worker < length all = search rules in
    let whose : steps ≡ slice_index_or all worker steps = search rules in
    let within : place < length steps.items = search rules in
    let there : found ≡ slice_index_or steps.items place found = search rules in
    record {
      worker = worker;
      place = place;
      steps = steps;
      whose = slice_get-get_or all worker steps below ∙ ap (λ (v : Vec Found Global). Some v) (sym whose);
      there = slice_get-get_or steps.items place found within ∙ ap (λ (f : Found). Some f) (sym there);
    }
