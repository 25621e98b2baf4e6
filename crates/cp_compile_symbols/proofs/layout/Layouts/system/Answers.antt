use Rattle.std.proofs.Common.{Bool, ℕ, List, ap, map}
use Rattle.cp_model.specs.Abstract.{Name}
use Rattle.cp_compile_symbols.specs.declared.types.Types.{Types}
use Rattle.cp_compile_symbols.specs.Routines.{Builds}
use Rattle.cp_compile_symbols.specs.Representing.{Grows}
use Rattle.cp_compile_symbols.specs.declared.variables.Declared.{Declared}
use Rattle.cp_compile_symbols.specs.Variables.{declared_entry, parameters_of, variables_of}
use Rattle.cp_compile_symbols.proofs.Declaring.{parameters_listed, variables_listed}
use Rattle.cp_compile_symbols.proofs.Laying.{laid_later}
use Rattle.cp_compile_symbols.proofs.Picking.{own}
use Rattle.cp_compile_symbols.proofs.Representing.{grows_more, still_scope}
use Rattle.cp_compile_symbols.proofs.SystemsMade.{builds_more, numbered_still, right_still}
use Rattle.cp_compile_symbols.proofs.layout.Layouts.system.Goals as goal

abbrev listed : List Declared → List (Name × (Bool × ℕ))
listed ds = map declared_entry ds

pub returns : goal.returns
returns c =
    let names = c.args.names.now in
    let ps = c.args.parameters.now in
    let vs = c.args.variables.now in
    let t0 = c.args.types.now in
    let t1 = c.declare_parameters.new.self in
    let t2 = c.declare_variables.new.self in
    let t3 = c.own_members.new.types in
    let t4 = c.routines.new.types in
    let ls = c.args.self.now.rows.items in
    let ms = c.own_members.new.self.rows.items in
    let ns = c.routines.new.self.rows.items in
    let one = c.in_ok-declare_parameters.ensures in
    let two = c.in_ok-declare_variables.ensures in
    let three = c.in_ok-members.ensures in
    let four = c.in_ok-routines.ensures in
    let to_2 = grows_more t0 t1 t2 one.grows two.grows in
    let to_3 = grows_more t0 t2 t3 to_2 three.builds.grows in
    let from_2 = grows_more t2 t3 t4 three.builds.grows four.builds.grows in
    let from_1 = grows_more t1 t2 t4 two.grows from_2 in
    let before : Builds names t0 t2 ls ls = record {
      grows = to_2;
      laid = λ g scope laid. laid_later g t0 t2 ls to_2 laid;
    } in
    let builds_3 = builds_more names t0 t2 t3 ls ls ms before three.builds in
    record {
      builds = builds_more names t0 t3 t4 ls ms ns builds_3 four.builds;
      represents = λ g later scope laid grows.
          let scope_1 = still_scope t0 t1 one.grows names g scope in
          let scope_2 = still_scope t0 t2 to_2 names g scope in
          let scope_3 = still_scope t0 t3 to_3 names g scope in
          let parameters = λ (last : Types) (more : Grows t1 last).
          parameters_listed names t0 t1 last _ (listed c.declare_parameters.new.list.items) ps g one (ap listed c.new-own_parameters.ensures.items) scope more in
          let picked = (rw c.deref.ensures.value at c.in_ok-components.ensures) (parameters_of g ps)
          (parameters t3 (grows_more t1 t2 t3 two.grows three.builds.grows)) in
          let variables = λ (last : Types) (more : Grows t2 last).
          variables_listed names t1 t2 last _ (listed c.declare_variables.new.list.items) vs g two (ap listed c.new-own_variables.ensures.items) scope_1 more in
          let own_parameters = parameters t3 (grows_more t1 t2 t3 two.grows three.builds.grows) in
          let to_later = grows_more t3 t4 later four.builds.grows grows in
          let rights = (rw c.deref-2.ensures.value at c.in_ok-rights.ensures) (own (parameters_of g ps)) picked in
          record {
            parameters = parameters later (grows_more t1 t4 later from_1 grows);
            variables = variables later (grows_more t2 t4 later from_2 grows);
            members = three.lies g later scope_2 (laid_later g t0 t2 ls to_2 laid) (grows_more t3 t4 later four.builds.grows grows);
            rights = λ x. right_still t3 later (grows_more t3 t4 later four.builds.grows grows) _ _ (rights x);
            parameter_names = λ x.
                numbered_still t3 later (parameters_of g ps) x to_later _ _
                ((rw c.deref-3.ensures.value at c.in_ok-parameter_names.ensures) (parameters_of g ps) own_parameters x);
            variable_names = λ x.
                numbered_still t3 later (variables_of g vs) x to_later _ _
                ((rw c.deref-4.ensures.value at c.in_ok-variable_names.ensures) (variables_of g vs) (variables t3 three.builds.grows) x);
            parameter_types = c.in_ok-parameter_types.ensures;
            variable_types = c.in_ok-variable_types.ensures;
            routines = four.represents g later scope_3 (builds_3.laid g scope laid) grows;
            routine_names = c.in_ok-routine_names.ensures;
          };
    }
