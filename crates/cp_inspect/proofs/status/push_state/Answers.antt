use Rattle.std.proofs.Common.{rules, ◌≡◌, ◌++◌, sym, ap, ◌∙◌}
use Rattle.std.specs.Prelude.{codes}
use Rattle.std.proofs.lemmas.List.{append_assoc}
use Rattle.std.proofs.lemmas.Result.{on_ok_weaker}
use Rattle.cp_model.specs.Abstract.{Monitor}
use Rattle.cp_model.specs.Declarations.{globals}
use Rattle.cp_model.specs.Report.{components_of, monitor_name}
use Rattle.cp_model_machine.specs.Reports.{queue_text}
use Rattle.cp_program.specs.View as view
use Rattle.cp_inspect.specs.Statuses.{state_text}
use Rattle.cp_inspect.proofs.status.push_state.Goals as goal

pub returns-in_ok-extend_from_slice-in-Asking : goal.returns-in_ok-extend_from_slice-in-Asking
returns-in_ok-extend_from_slice-in-Asking c =
    on_ok_weaker c.push_monitor.result
    (λ named setup scope listed.
    let out = c.args.out.now.items in
    let m = c.in-Asking.monitor in
    let vs = components_of setup Monitor in
    let begun : c.extend_from_slice-in-Asking.new.self.items ≡ out ++ codes "asking " = search rules in
    named c.args.tables.now.types vs listed
    ∙ (ap (λ o. o ++ monitor_name setup m) begun
    ∙ (append_assoc out (codes "asking ") (monitor_name setup m)
    ∙ sym (ap (λ s. out ++ state_text setup (view.program c.args.program.now) s) c.in-Asking.is))))
    c.push_monitor.ensures

pub returns-in_ok-extend_from_slice-in-Delayed-2 : goal.returns-in_ok-extend_from_slice-in-Delayed-2
returns-in_ok-extend_from_slice-in-Delayed-2 c =
    on_ok_weaker c.push_queue.result
    (λ reported setup scope listed.
    let out = c.args.out.now.items in
    let m = c.in-Delayed.monitor in
    let program = view.program c.args.program.now in
    let vs = components_of setup Monitor in
    let x = monitor_name setup m in
    let q = queue_text setup program c.in-Delayed.queue in
    let begun : c.extend_from_slice-in-Delayed.new.self.items ≡ out ++ codes "delayed " = search rules in
    let named : c.push_monitor-in-Delayed.new.out.items ≡ out ++ (codes "delayed " ++ x) =
    c.in_ok-push_monitor-in-Delayed.ensures c.args.tables.now.types vs listed ∙ (ap (λ o. o ++ x) begun ∙ append_assoc out (codes "delayed ") x) in
    let spaced : c.extend_from_slice-in-Delayed-2.new.self.items ≡ c.push_monitor-in-Delayed.new.out.items ++ codes " " = search rules in
    reported (globals setup.tree) vs scope listed
    ∙ (ap (λ o. o ++ q) (spaced ∙ ap (λ o. o ++ codes " ") named)
    ∙ (append_assoc (out ++ (codes "delayed " ++ x)) (codes " ") q
    ∙ (append_assoc out (codes "delayed " ++ x) (codes " " ++ q)
    ∙ (ap (λ t. out ++ t) (append_assoc (codes "delayed ") x (codes " " ++ q))
    ∙ sym (ap (λ s. out ++ state_text setup program s) c.in-Delayed.is))))))
    c.push_queue.ensures
