use Rattle.std.proofs.Common.{List, rules, length, subst, sym, ap, ◌<◌, ◌∙◌}
use Rattle.cp_private.specs.States.{private_of}
use Rattle.cp_private.specs.declared.private.Private.{Private}
use Rattle.cp_search_store.specs.Stored.{IsPartAt}
use Rattle.cp_search_store.proofs.Numbered.{part_known}
use Rattle.cp_search_store.proofs.parts.Parts.get.Goals as goal

pub returns-in-Some : goal.returns-in-Some
returns-in-Some c =
    let xs = c.deref.result.now in
    let x = c.private.result.now in
    let there = c.in-Some.ensures.lookup in
    let below : c.args.number < length xs = search rules in
    subst (λ (l : List Private). IsPartAt l c.args.number x) c.deref.ensures.value
    (part_known xs c.args.number c.in-Some.known.now x below
    (λ input. ap (λ (z : Private). private_of z input) (sym there.1 ∙ sym c.private.ensures)))
