use Rattle.std.proofs.Common.{◌≡◌, [], false, true, Some, ap, sym, ◌∙◌}
use Rattle.std.specs.Prelude.{if◌then◌else◌, not}
use Rattle.cp_model_machine.specs.PrivateStates.{is_running}
use Rattle.cp_model_machine.specs.Steps.{act, alone, is_kernel_operation, is_private, operation_of}
use Rattle.cp_model_program.specs.Programs as op
use Rattle.cp_program.specs.View as view
use Rattle.std.proofs.lemmas.List.{nil_from_length}
use Rattle.cp_private.specs.States.{join, private_of}
use Rattle.cp_private.proofs.Results.{held_none}
use Rattle.cp_private.proofs.Unshared.{private_joined, stepped}
use Rattle.cp_private.proofs.private.Private.take_step.Goals as goal

pub returns-in-Made-clause-step : goal.returns-in-Made-clause-step
returns-in-Made-clause-step c =
    let old = c.args.self.now in
    let new = c.take_fast_step.new.self in
    let input = c.args.outside.now.input.now in
    let clock = c.args.outside.now.clock in
    let program = view.program c.args.program.now in
    let o = private_of old input in
    let x = view.operation c.operation_at-operation.result.now in
    let there : operation_of program o ≡ Some x = c.operation_at-operation.ensures in
    let running : is_running o.activity ≡ true = c.requires.ready.running in
    let private : is_private o (Some x) ≡ true =
    ap (λ b. if b then false else not (is_kernel_operation x)) (held_none old.gate c.requires.ready.free) ∙ ap not (c.take_fast_step.ensures.private c.in-Made.is) in
    let none : c.take_fast_step.new.shared ≡ [] = nil_from_length c.take_fast_step.new.shared c.take_fast_step.ensures.kept.shared in
    let made = ap (λ p. p.0) (c.take_fast_step.ensures.step c.in-Made.is program (alone clock o) input) in
    let here = ap (λ p. (act program (alone clock o) p x).0) (sym (private_joined old input)) in
    private_joined new input ∙ (ap (join new input) (sym none) ∙ (made ∙ (here ∙ sym (stepped program clock o x there running private))))

pub returns-in-Some-clause-step : goal.returns-in-Some-clause-step
returns-in-Some-clause-step c =
    let old = c.args.self.now in
    let new = c.return_fast.new.self in
    let input = c.args.outside.now.input.now in
    let clock = c.args.outside.now.clock in
    let program = view.program c.args.program.now in
    let o = private_of old input in
    let x = op.Return c.in-Return.function in
    let there : operation_of program o ≡ Some x = c.operation_at-operation.ensures ∙ ap (λ y. Some (view.operation y)) c.in-Return.is in
    let running : is_running o.activity ≡ true = c.requires.ready.running in
    let private : is_private o (Some x) ≡ true = ap (λ b. if b then false else true) (held_none old.gate c.requires.ready.free) in
    let made = ap (λ p. p.0) (c.in-Some.ensures.step (alone clock o) input) in
    let here = ap (λ p. (act program (alone clock o) p x).0) (sym (private_joined old input)) in
    private_joined new input ∙ (made ∙ (here ∙ sym (stepped program clock o x there running private)))
