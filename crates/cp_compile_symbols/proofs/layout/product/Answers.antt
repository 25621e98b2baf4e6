use Rattle.std.proofs.Common.{◌≡◌, ◌*◌, ℕ, arith, subst}
use Rattle.cp_compile_symbols.specs.Layouts.{Counts}
use Rattle.cp_compile_symbols.proofs.layout.product.Goals as goal

turned : (m n k : ℕ) → k ≡ n → k * m ≡ m * n
turned m n k e = rw e (omega arith)

pub returns-in-None-Some : goal.returns-in-None-Some
returns-in-None-Some c = λ m n first second.
    subst (Counts c.times-in-None-Some.result) (turned m n c.in-None-Some.words (rw c.in-None-Some.is-1 at second))
    (c.times-in-None-Some.ensures m (rw c.in-None-Some.is-0 at first))
