use Rattle.std.proofs.Common.{◌≡◌, ◌++◌, ◌∙◌, List, [], ap, map, sym}
use Rattle.std.proofs.lemmas.List.{append-nil}
use Rattle.cp_model.specs.Declarations.{reported_members}
use Rattle.cp_model.specs.Erase as erase
use Rattle.cp_model.specs.View as view
use Rattle.cp_model.specs.Types.{NoMembers}
use Rattle.cp_model.proofs.Results.{if_ok}
use Rattle.cp_compile_symbols.specs.declared.types.Field.{Field}
use Rattle.cp_compile_symbols.specs.Representing.{AreMembers, entry, with_groups}
use Rattle.cp_compile_symbols.proofs.Representing.{grows_not, kept, kept_members, kept_more, same_system, still_scope}
use Rattle.cp_compile_symbols.proofs.Members.{variables_are}
use Rattle.cp_compile_symbols.proofs.types.Types.component.Goals as goal

pub returns : goal.returns
returns c =
    let names = c.args.names.now in
    let y = c.args.system.now in
    let old = c.args.self.now in
    let a = c.add_parameters.new.self in
    let b = c.fields.new.self in
    let d = c.add_system.new.self in
    let new = c.add.new.self in
    let members = c.fields.new.fields in
    let one = rw c.deref.ensures.value at c.in_ok-add_parameters.ensures in
    let two = rw c.deref-2.ensures.value at c.in_ok-fields.ensures in
    let three = c.in_ok-number.ensures in
    if_ok c.add.result
    (λ n adds.
    let after_b = kept_more b d new three.keeps (kept d new adds.grows) in
    let after_a = kept_more a b new (kept a b two.grows) after_b in
    record {
      keeps = kept_more old a new (kept old a one.grows) after_a;
      represents = λ g scope.
          let inner = two.represents g b [] NoMembers (still_scope old a one.grows names g scope) (grows_not b) tt in
          let all = one.represents g b (two.added ++ []) (with_groups y.variables.items g NoMembers) scope two.grows inner in
          let same : map entry members.items ≡ one.added ++ (two.added ++ []) =
          two.all ∙ ap (λ fs. fs ++ two.added) (one.all ∙ ap (λ (fs : List Field). map entry fs ++ one.added) c.new-members.ensures.items)
          ∙ ap (λ fs. one.added ++ fs) (sym (append-nil two.added)) in
          let represent : AreMembers b (map entry members.items) (reported_members g (erase.system (view.system y))) =
          rw (same, ← variables_are g y.variables.items) all in (
            c.in_ok-number.number,
            members,
            three.system,
            adds.added,
            same_system d new adds.grows c.in_ok-number.number ∙ three.added,
            ap (λ z. erase.system (view.system z)) three.is,
            kept_members b new after_b (map entry members.items) (reported_members g (erase.system (view.system y))) represent,
          );
    })
    c.add.ensures
