use Rattle.std.proofs.Common.{rules, ◌≡◌, length, sym, ◌∙◌}
use Rattle.std.proofs.lemmas.List.{nil_from_length}
use Rattle.cp_rounds_handoff.specs.Quiet.{needs_no_kernel_by}
use Rattle.cp_rounds_handoff.proofs.kernel_need.needs_no_kernel.Goals as goal

pub returns-in-Private : goal.returns-in-Private
returns-in-Private c = λ yes input.
    let none : length c.output.result.now ≡ 0 = search rules in
    let empty = sym (c.output.ensures input) ∙ nil_from_length c.output.result.now none in
    let kind_is = sym (c.next_kind.ensures.kind input) ∙ c.in-Private.is in
    λ i. needs_no_kernel_by (kind_is i) (empty i)

pub returns-in-None : goal.returns-in-None
returns-in-None c = λ yes input.
    let none : length c.output.result.now ≡ 0 = search rules in
    let empty = sym (c.output.ensures input) ∙ nil_from_length c.output.result.now none in
    let kind_is = sym (c.next_kind.ensures.kind input) ∙ c.in-None.is in
    λ i. needs_no_kernel_by (kind_is i) (empty i)
