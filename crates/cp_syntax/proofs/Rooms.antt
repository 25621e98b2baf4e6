-- Whether a level may be opened.
use Rattle.std.proofs.Common.{◌≡◌, ℕ, suc, ◌-◌, ◌<◌, Some, None, ap, arith}
use Rattle.cp_model_grammar.specs.Expressions.{inner_at, factor_at, expression_at}
use Rattle.cp_model_grammar.specs.Types.{inner_type_at, type_at}
use Rattle.cp_model_grammar.specs.Statements.{deeper_at, statement_at}

pub no_factor : (room : ℕ) → room ≡ 0 → inner_at room ≡ None
unfolding inner_at
no_factor room e = ap inner_at e

pub some_factor : (room : ℕ) → 0 < room → inner_at room ≡ Some (factor_at (room - 1))
unfolding inner_at
some_factor room some = let e : room ≡ suc (room - 1) = omega arith in ap inner_at e

pub no_type : (room : ℕ) → room ≡ 0 → inner_type_at room ≡ None
unfolding inner_type_at
no_type room e = ap inner_type_at e

pub some_type : (room : ℕ) → 0 < room → inner_type_at room ≡ Some (type_at (room - 1))
unfolding inner_type_at
some_type room some = let e : room ≡ suc (room - 1) = omega arith in ap inner_type_at e

pub no_statement : (room : ℕ) → room ≡ 0 → deeper_at room ≡ None
unfolding deeper_at
no_statement room e = ap deeper_at e

pub some_statement : (room : ℕ) → 0 < room
    → deeper_at room ≡ Some (record { expression = expression_at (room - 1); statement = statement_at (room - 1) })
unfolding deeper_at
some_statement room some = let e : room ≡ suc (room - 1) = omega arith in ap deeper_at e
