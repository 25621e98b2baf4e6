use Rattle.std.proofs.Common.{rules, ◌≡◌, ◌+◌, ◌∷◌, List, drop, get_or, refl, subst, sym}
use Rattle.std.proofs.lemmas.List.{at_drop_more, drop_all}
use Rattle.cp_model_program.specs.Compile.{processes_at, waiting_words}
use Rattle.cp_program.specs.View as view
use Rattle.cp_program.specs.declared.program.Process.{Process}
use Rattle.cp_compile.specs.declared.components.Owner.{Owner}
use Rattle.cp_compile.proofs.LaidOut.{PartlyLaid, all_laid, one_laid, process_first}
use Rattle.cp_compile.proofs.layout.lay_processes.Goals as goal

-- A placeholder for an index past the end of the owners.
abbrev nothing : Owner
nothing = record { body = 0; words = 0; waiting = 0; plan = 0 }

pub loop-owner-init : goal.loop-owner-init
loop-owner-init c = λ plans g xs are. record { others = xs; are = are; rest = rw c.in_ok-processes.ensures.items refl; end = refl }

pub loop-owner-preserved : goal.loop-owner-preserved
loop-owner-preserved c = λ plans g xs are.
    let all = c.args.owners.now in
    let k = c.loop-owner.owner-index in
    let o = get_or all k nothing in
    let next : c.in_ok-at.at ≡ c.loop-owner.at + o.waiting = search rules in
    let step : drop k all ≡ o ∷ drop (k + 1) all = at_drop_more (λ (os : List Owner). os) all k nothing c.loop-owner-test.true in
    let z : Process = record { body = o.body; words = o.words; parameters = c.loop-owner.at; waiting = o.waiting; plan = o.plan } in
    let some =
    subst (λ os. PartlyLaid plans g (view.process plans) (processes_at g) (waiting_words g) os c.loop-owner.processes.items c.loop-owner.at c.args.start xs) step
    (c.loop-owner.invariant plans g xs are) in
    subst (λ zs. PartlyLaid plans g (view.process plans) (processes_at g) (waiting_words g) (drop (k + 1) all) zs c.in_ok-at.at c.args.start xs) (sym c.in_ok-push.ensures.items)
    (one_laid plans g (view.process plans) (processes_at g) (waiting_words g) o (drop (k + 1) all) c.loop-owner.processes.items z c.loop-owner.at c.in_ok-at.at c.args.start xs some
    (λ x is. process_first plans g o x c.loop-owner.at c.in_ok-at.at is next))

pub returns : goal.returns
returns c = λ plans g xs are.
    let all = c.args.owners.now in
    let laid =
    all_laid plans g (view.process plans) (processes_at g) (waiting_words g) (drop c.loop-owner.owner-index all) c.loop-owner.processes.items c.loop-owner.at c.args.start xs
    (λ n. refl) (drop_all c.loop-owner.owner-index all c.loop-owner-test.false) (c.loop-owner.invariant plans g xs are) in
    record { processes = laid.all; end = laid.end_is }
