-- The standard procedure that a name means.
use Rattle.std.proofs.Common.{◌≡◌, ℕ, true, false, codes, refl}
use Rattle.std.specs.Str.{bytes_eq}
use Rattle.cp_model.specs.Abstract.{Name}
use Rattle.cp_model.specs.Types.{ResolvedType, base_of_type}
use Rattle.cp_model_program.specs.CodedStatements.{high_of, is_char, low_of, runs_function, standard_procedure, with_calls}
use Rattle.cp_model_program.specs.CodedTerms.{CodedPlaceExpression, CodedTerm}
use Rattle.cp_model_program.specs.Programs as op
use Rattle.cp_model_program.specs.Scopes.{Scope}

module _ (scope : Scope) (x : Name) (t : ResolvedType) (e : CodedTerm) (s : CodedPlaceExpression) (at next : ℕ) where
  pub displays : bytes_eq x (codes "display") ≡ true
      → standard_procedure scope x t e s at next ≡ with_calls e.calls (op.Display e.term (is_char (base_of_type t)) next) at
  displays is = rw is refl

  pub accepts : bytes_eq x (codes "display") ≡ false → bytes_eq x (codes "accept") ≡ true
      → standard_procedure scope x t e s at next ≡ with_calls s.calls (op.Accept s.place_expression (low_of t) (high_of t) next) at
  accepts other is = rw (other, is) refl

  pub delays : bytes_eq x (codes "display") ≡ false → bytes_eq x (codes "accept") ≡ false → bytes_eq x (codes "delay") ≡ true
      → standard_procedure scope x t e s at next ≡ with_calls s.calls (op.Delay s.place_expression next) at
  delays first second is = rw (first, second, is) refl

  pub continues : bytes_eq x (codes "display") ≡ false → bytes_eq x (codes "accept") ≡ false → bytes_eq x (codes "delay") ≡ false
      → standard_procedure scope x t e s at next ≡ with_calls s.calls (op.Continue s.place_expression (runs_function scope.routine)) at
  continues first second third = rw (first, second, third) refl
