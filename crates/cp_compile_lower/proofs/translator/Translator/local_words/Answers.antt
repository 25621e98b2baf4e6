use Rattle.cp_compile_lower.proofs.translator.Translator.local_words.Goals as goal

pub returns-in-Some : goal.returns-in-Some
returns-in-Some c = λ s v scope reference represents.
    (rw (c.tables.ensures, c.in-Some.is) at c.in_ok-words.ensures) s.globals c.args.self.now.scope.tables.now.types v scope.laid.laid reference represents
