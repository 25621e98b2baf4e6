use Rattle.std.proofs.Common.{rules}
use Rattle.std.specs.Int.{w32}
use Rattle.std.specs.Prelude.{FitsSigned}
use Rattle.std.proofs.lemmas.Int.{to_z-of_z}
use Rattle.cp_model.specs.Erase as erase
use Rattle.cp_model_program.specs.Programs as code
use Rattle.cp_compile_symbols.specs.Representing.{value_of}
use Rattle.cp_program.proofs.Wide.{narrow}
use Rattle.cp_program.specs.declared.arm.Arm.{Arm}
use Rattle.cp_compile_lower.proofs.Labelling.{label_added, no_label}
use Rattle.cp_compile_lower.proofs.translator.Translator.add_label.Goals as goal

pub returns-in_ok-push : goal.returns-in_ok-push
returns-in_ok-push c = λ s scope.
    let label = erase.constant c.args.label.now in
    let value = c.in-Some.value in
    let fits : FitsSigned w32 value.ordinal = search rules in
    let known = (rw (c.tables.ensures, c.in-Some.is) at c.value.ensures) s.globals scope.names.constants in
    let x : Arm = record { label = narrow value.ordinal; place = c.args.place } in
    let is : code.Arm = record { label = value.ordinal; place = c.args.place } in
    label_added s.globals c.args.place label (value_of value) c.args.arms.now.items c.push.new.self.items x known c.in_ok-push.ensures.items
    (λ i. record { label = to_z-of_z w32 value.ordinal fits i; place = c.args.place })

pub returns-in_default : goal.returns-in_default
returns-in_default c = λ s scope.
    no_label s.globals c.args.place (erase.constant c.args.label.now) _
    ((rw (c.tables.ensures, c.in_default.is) at c.value.ensures) s.globals scope.names.constants)
