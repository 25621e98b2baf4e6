use Rattle.std.proofs.Common.{◌≡◌, ◌∙◌, Some, ap}
use Rattle.cp_model.specs.Abstract.{Class, Monitor, Sort}
use Rattle.cp_model_program.specs.CodedStatements.{init_operation}
use Rattle.cp_model_program.specs.CodedTerms.{call_of}
use Rattle.cp_model_program.specs.Programs as op
use Rattle.cp_model_program.specs.Scopes.{body_of, environment, target_of}
use Rattle.cp_compile_lower.proofs.translator.Translator.init_operation.Goals as goal

pub returns-in_ok-call-in-Class : goal.returns-in_ok-call-in-Class
returns-in_ok-call-in-Class c = λ s n xs scope named are.
    let sort : Class ≡ n.system.sort = rw c.in-Class.is at (c.sort.ensures s n named) in
    let call = c.in_ok-call-in-Class.ensures s n scope named ∙ ap (λ ys. call_of s (body_of s n) (target_of (environment s) (Some n)) ys c.args.low) are in
    ap (λ k. op.InitClass k c.args.next) call ∙ ap (λ (k : Sort). init_operation s n k xs c.args.low c.args.next) sort

pub returns-in_ok-call-in-Monitor : goal.returns-in_ok-call-in-Monitor
returns-in_ok-call-in-Monitor c = λ s n xs scope named are.
    let sort : Monitor ≡ n.system.sort = rw c.in-Monitor.is at (c.sort.ensures s n named) in
    let call = c.in_ok-call-in-Monitor.ensures s n scope named ∙ ap (λ ys. call_of s (body_of s n) (target_of (environment s) (Some n)) ys c.args.low) are in
    ap (λ k. op.InitMonitor k c.args.next) call ∙ ap (λ (k : Sort). init_operation s n k xs c.args.low c.args.next) sort
