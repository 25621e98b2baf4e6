use Rattle.std.proofs.Common.{rules, ◌≡◌, ◌+◌, ◌∷◌, [], ◌∙◌, None, Some, length, map, ap, sym}
use Rattle.std.specs.List.{range_with_len}
use Rattle.std.specs.Prelude.{codes}
use Rattle.std.proofs.lemmas.List.{length-map}
use Rattle.cp_inspect.specs.Names.{is_same_name, names_of, process_named}
use Rattle.cp_compile_symbols.specs.declared.types.Field.{Field}
use Rattle.cp_cli_inputs.proofs.Meant.{meant_all, meant_none, meant_one}
use Rattle.cp_inspect.proofs.Named.{same_name}
use Rattle.cp_cli_inputs.proofs.named.numbers_of.Goals as goal
use Rattle.cp_cli_inputs.proofs.named.numbers_of.Goals.{in-Some+in_ok-vec-in-Some, in-None+in_ok-all_processes-in-None, in-None-2}

pub returns : goal.returns
returns c =
    let fields = c.args.component_table.now.processes.items in
    let processes = names_of fields in
    let x = c.args.name.now in
    elim c.match-branch-2.branch [
      | in-Some+in_ok-vec-in-Some w ↦
          let found : process_named x processes ≡ Some w.in-Some.number = search rules in
          let one : w.in_ok-vec-in-Some.field-0.items ≡ w.in-Some.number ∷ [] = search rules in
          rw w.result-is (ap (λ ns. Some ns) one ∙ sym (meant_one x processes w.in-Some.number found))
      | in-None+in_ok-all_processes-in-None w ↦
          let none : process_named x processes ≡ None = search rules in
          let is : is_same_name x (codes "all") ≡ _ = same_name w.eq_ignore_ascii_case.result x (codes "all") w.eq_ignore_ascii_case.ensures.test ∙ w.if-eq_ignore_ascii_case.true in
          let all = w.in_ok-all_processes-in-None.ensures ∙ ap (λ n. range_with_len 1 (n + 1)) (sym (length-map fields (λ (f : Field). f.name.now))) in
          rw w.result-is (ap (λ ns. Some ns) all ∙ sym (meant_all x processes none is))
      | in-None-2 w ↦
          let none : process_named x processes ≡ None = search rules in
          let other : is_same_name x (codes "all") ≡ _ = same_name w.eq_ignore_ascii_case.result x (codes "all") w.eq_ignore_ascii_case.ensures.test ∙ w.if-eq_ignore_ascii_case.false in
          rw w.result-is (sym (meant_none x processes none other))
    ]
