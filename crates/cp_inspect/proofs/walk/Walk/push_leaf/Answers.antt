use Rattle.std.proofs.Common.{rules, ◌≡◌, ◌++◌, ◌∷◌, [], ap, ◌∙◌}
use Rattle.std.proofs.lemmas.List.Elements.{same_from_all_zip}
use Rattle.cp_inspect.specs.LeafCodes.{leaf_codes, place_code}
use Rattle.cp_inspect.specs.declared.leaves.Leaf.{Leaf}
use Rattle.cp_inspect.proofs.LeafCodes.{one_coded}
use Rattle.cp_inspect.proofs.walk.Walk.push_leaf.Goals as goal

pub returns-clause-kept : goal.returns-clause-kept
returns-clause-kept c =
    let old = c.args.self.now in
    let leaf : Leaf = record { path = c.in_ok-clone.field-0; at = old.at; kind = c.args.kind; of = c.args.row } in
    let pushed : c.push.new.self.items ≡ old.leaves.items ++ leaf ∷ [] = search rules in
    let cloned : leaf.path.items ≡ old.path.items = same_from_all_zip (λ x y. y ≡ x) old.path.items leaf.path.items c.in_ok-clone.ensures.cases.0 (λ x y h. h) in
    ap leaf_codes pushed ∙ (one_coded old.leaves.items leaf ∙ ap (λ p. leaf_codes old.leaves.items ++ place_code c.args.kind p old.at) cloned)
