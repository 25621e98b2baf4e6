use Rattle.cp_compile_lower.proofs.translator.Translator.init_component.Goals as goal

pub returns-in_default : goal.returns-in_default
returns-in_default c = λ s n scope named. absurd ((rw c.in_default.is at c.system_table.ensures) s n scope named)
