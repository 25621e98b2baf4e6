use Rattle.std.proofs.Common.{rules, OnOk, ◌≡◌, ◌++◌, ◌-◌, Some, None, map, sym, ap, ◌∙◌}
use Rattle.std.specs.Prelude.{option_map, slice_get}
use Rattle.std.proofs.lemmas.List.{append-nil}
use Rattle.std.proofs.lemmas.Result.{on_ok_weaker}
use Rattle.cp_compile_symbols.specs.Representing.{entry}
use Rattle.cp_inspect.proofs.ListedNames.{entry_name, listed_name, map_get}
use Rattle.cp_inspect.proofs.status.push_monitor.Goals as goal

pub returns-in-Some : goal.returns-in-Some
returns-in-Some c =
    let all : OnOk c.extend_from_slice.result (c.extend_from_slice.new.self.items ≡ c.args.out.now.items ++ c.in-Some.monitor.now.name.now) = search rules in
    on_ok_weaker c.extend_from_slice.result
    (λ pushed types vs h.
    let xs = c.args.monitors.now in
    let k = c.args.number - 1 in
    let there : slice_get xs k ≡ Some c.in-Some.monitor.now = sym c.monitor_at.ensures ∙ ap (option_map (λ f. f.now)) c.in-Some.is in
    pushed ∙ ap (λ x. c.args.out.now.items ++ x)
    (sym (listed_name types (map entry xs) vs k h ∙ (ap entry_name (map_get entry xs k) ∙ ap (λ o. entry_name (elim o [ None ↦ None | Some x ↦ Some (entry x) ])) there))))
    all

pub returns-in-None : goal.returns-in-None
returns-in-None c =
    λ types vs h.
    let xs = c.args.monitors.now in
    let k = c.args.number - 1 in
    let none : slice_get xs k ≡ None = sym c.monitor_at.ensures ∙ ap (option_map (λ f. f.now)) c.in-None.is in
    sym (append-nil c.args.out.now.items) ∙ ap (λ x. c.args.out.now.items ++ x)
    (sym (listed_name types (map entry xs) vs k h ∙ (ap entry_name (map_get entry xs k) ∙ ap (λ o. entry_name (elim o [ None ↦ None | Some x ↦ Some (entry x) ])) none)))
