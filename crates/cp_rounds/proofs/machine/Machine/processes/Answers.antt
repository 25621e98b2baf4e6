use Rattle.std.proofs.Common.{rules, ◌≡◌, ◌<◌, ◌^◌, length, subst, sym, ◌∙◌}
use Rattle.cp_rounds_handoff.specs.Inputs.{input_of}
use Rattle.cp_rounds.proofs.Made.{parts_count}
use Rattle.cp_rounds.proofs.Shown.{few_numbered}
use Rattle.cp_rounds.proofs.machine.Machine.processes.Goals as goal

pub returns-clause-parts : goal.returns-clause-parts
returns-clause-parts c =
    let count : c.len.result ≡ length c.args.self.now.parts.privates.items = search rules in
    count ∙ sym (parts_count (input_of c.args.self.now.config.inputs.items) 1 c.args.self.now.parts.privates.items)

pub returns-clause-few : goal.returns-clause-few
returns-clause-few c =
    let count : c.len.result ≡ length c.args.self.now.parts.privates.items = search rules in
    let few : length c.args.self.now.parts.privates.items < 2 ^ 31 = few_numbered c.args.self.now.parts.privates.items c.args.self.now.parts.numbers in
    subst (λ n. n < 2 ^ 31) (sym count) few
