use Rattle.std.proofs.Common.{ℕ, length, subst, sym, ap, ◌≡◌, ◌∙◌}
use Rattle.cp_private.specs.States.{private_of}
use Rattle.cp_private.specs.declared.private.Private.{Private}
use Rattle.cp_search_store.specs.Stored.{IsPartAt}
use Rattle.cp_search_store.proofs.Numbered.{part_pushed}
use Rattle.cp_search_store.proofs.parts.Parts.push.Goals as goal

pub returns-clause-is : goal.returns-clause-is
returns-clause-is c =
    let xs = c.args.self.now.privates.items in
    let ys = c.push.new.self.items in
    let x = c.args.private.now in
    let count : c.len-number.result ≡ length xs = c.len-number.ensures ∙ c.args.self.now.privates.ok.0 in
    subst (λ (n : ℕ). IsPartAt ys n x) (sym count)
    (part_pushed xs ys c.in_ok-new.field-0 x c.in_ok-push.ensures.items
    (λ input. ap (λ (z : Private). private_of z input) c.in_ok-new.ensures ∙ c.in_ok-copy.ensures input))
