use Rattle.std.proofs.Common.{◌++◌, List, ap, map}
use Rattle.cp_model.specs.Erase as erase
use Rattle.cp_compile_symbols.specs.declared.variables.Declared.{Declared}
use Rattle.cp_compile_symbols.specs.Variables.{declared_entry, parameters_of, variables_of}
use Rattle.cp_law_typing.specs.Needs.{result_words}
use Rattle.cp_compile_symbols.proofs.Declaring.{both_declared, parameters_listed, result_still, variables_listed}
use Rattle.cp_compile_symbols.proofs.Laying.{laid_later}
use Rattle.cp_compile_symbols.proofs.Representing.{grows_more, still_scope}
use Rattle.cp_compile_symbols.proofs.layout.Layouts.routine.Goals as goal

pub returns : goal.returns
returns c =
    let names = c.args.names.now in
    let text = c.args.text.now in
    let ps = text.parameters.items in
    let vs = text.variables.items in
    let t0 = c.args.types.now in
    let t1 = c.declare_parameters.new.self in
    let t2 = c.declare_variables.new.self in
    let t3 = c.result.new.self in
    let ls = c.args.self.now.rows.items in
    let listed = λ (ds : List Declared). map declared_entry ds in
    let own = c.declare_parameters.new.list.items in
    let more = c.declare_variables.new.list.items in
    let one = rw c.deref.ensures.value at c.in_ok-declare_parameters.ensures in
    let two = rw c.deref-2.ensures.value at c.in_ok-declare_variables.ensures in
    let three = c.in_ok-result.ensures in
    let to_2 = grows_more t0 t1 t2 one.grows two.grows in
    let to_3 = grows_more t0 t2 t3 to_2 three.grows in
    let from_1 = grows_more t1 t2 t3 two.grows three.grows in
    let all = rw (c.deref-3.ensures.value, c.deref-4.ensures.value) at c.in_ok-all.ensures in
    let locals = rw c.deref-5.ensures.value at c.in_ok-locals.ensures in
    record {
      builds = record {
        grows = to_3;
        laid = λ g scope laid. c.in_ok-extend.ensures.laid g (still_scope t0 t3 to_3 names g scope) (laid_later g t0 t3 ls to_3 laid);
      };
      represents = λ g later scope laid grows.
          let scope_1 = still_scope t0 t1 one.grows names g scope in
          let scope_2 = still_scope t0 t2 to_2 names g scope in
          let scope_3 = still_scope t0 t3 to_3 names g scope in
          let lies = laid_later g t3 later c.extend.new.self.rows.items grows (c.in_ok-extend.ensures.laid g scope_3 (laid_later g t0 t3 ls to_3 laid)) in
          let parameters = parameters_listed names t0 t1 later _ (listed own) ps g one (ap listed c.new-parameters.ensures.items) scope (grows_more t1 t3 later from_1 grows) in
          let variables = variables_listed names t1 t2 later _ (listed more) vs g two (ap listed c.new-variables.ensures.items) scope_1 (grows_more t2 t3 later three.grows grows) in
          record {
            name = c.as_bytes.ensures;
            parameters = parameters;
            variables = variables;
            locals =
                locals g later (result_words (erase.name_if text.result_type)) (parameters_of g ps ++ variables_of g vs) lies
                (rw all (both_declared later (listed own) (listed more) (parameters_of g ps) (variables_of g vs) parameters variables))
                c.words_of_result.ensures;
            result = result_still g t3 later grows c.in_ok-result.result (erase.name_if text.result_type) (three.represents g scope_2);
          };
    }
