use Rattle.std.proofs.Common.{[], ◌++◌, ◌∙◌, ◌∷◌, ap}
use Rattle.cp_explain.proofs.object.mistake_objects.Goals as goal

pub returns : goal.returns
returns c =
    let v = c.in_ok-of.field-0 in
    c.in_ok-push_later.ensures c.args.refusal (v, [], c.in_ok-push.ensures.items ∙ ap (λ xs. xs ++ v ∷ []) c.new-all.ensures.items, c.in_ok-of.ensures)
