use Rattle.std.proofs.Common.{◌≡◌, ◌++◌, ◌∙◌, suc, List, [], ap, arith, map, refl, subst, sym}
use Rattle.std.proofs.lemmas.List.{append-nil}
use Rattle.cp_model.specs.Types.{NoMembers}
use Rattle.cp_model.proofs.Results.{if_ok}
use Rattle.cp_compile_symbols.specs.declared.types.Field.{Field}
use Rattle.cp_compile_symbols.specs.Components.{own_members}
use Rattle.cp_compile_symbols.specs.Layouts.{Counts, rights_of}
use Rattle.cp_compile_symbols.specs.Representing.{AreMembers, entry, with_groups, with_parameters}
use Rattle.cp_compile_symbols.proofs.Laying.{laid_later}
use Rattle.cp_compile_symbols.proofs.Members.{variables_are}
use Rattle.cp_compile_symbols.proofs.Representing.{grows_more, still_scope}
use Rattle.cp_compile_symbols.proofs.layout.Layouts.own_members.Goals as goal

pub returns : goal.returns
returns c =
    let names = c.args.names.now in
    let ps = c.args.parameters.now in
    let vs = c.args.variables.now in
    let t0 = c.args.types.now in
    let t1 = c.add_parameters.new.self in
    let t2 = c.fields.new.self in
    let ls = c.args.self.now.rows.items in
    let members = c.fields.new.fields in
    let one = c.in_ok-add_parameters.ensures in
    let two = c.in_ok-fields.ensures in
    let to_2 = grows_more t0 t1 t2 one.grows two.grows in
    let own : map entry members.items ≡ one.added ++ (two.added ++ []) =
    two.all ∙ ap (λ fs. fs ++ two.added) (one.all ∙ ap (λ (fs : List Field). map entry fs ++ one.added) c.new-members.ensures.items)
    ∙ ap (λ fs. one.added ++ fs) (sym (append-nil two.added)) in
    let lays = rw c.deref.ensures.value at c.members.ensures in
    if_ok c.members.result
    (λ l laysout. record {
      builds = record {
        grows = to_2;
        laid = λ g scope laid. c.in_ok-extend.ensures.laid g (still_scope t0 t2 to_2 names g scope) (laid_later g t0 t2 ls to_2 laid);
      };
      lies = λ g later scope laid grows.
          let scope_1 = still_scope t0 t1 one.grows names g scope in
          let scope_2 = still_scope t0 t2 to_2 names g scope in
          let lies = laid_later g t2 later c.extend.new.self.rows.items grows (c.in_ok-extend.ensures.laid g scope_2 (laid_later g t0 t2 ls to_2 laid)) in
          let inner = two.represents g later [] NoMembers scope_1 grows tt in
          let all = one.represents g later (two.added ++ []) (with_groups vs g NoMembers) scope (grows_more t1 t2 later two.grows grows) inner in
          let represent : AreMembers later (map entry members.items) (own_members g ps vs) =
          subst (λ ms. AreMembers later (map entry members.items) (with_parameters ps g ms)) (variables_are g vs) (rw own all) in
          laysout g later (suc (rights_of g ps)) (own_members g ps vs) lies represent
          (subst (Counts c.sum-head.result) (omega arith) (c.sum-head.ensures 1 (rights_of g ps) refl (c.rights.ensures g scope_2)));
    })
    lays
