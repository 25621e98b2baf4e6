-- Designators with an index are neither calls nor the clock.
use Rattle.std.proofs.Common.{◌≡◌, Some, None, refl, sym}
use Rattle.cp_model.specs.Abstract as a
use Rattle.cp_model.specs.Calls.{Callee, callee, call_in_designator}
use Rattle.cp_model.specs.Environments.{Environment}
use Rattle.cp_model_program.specs.Sites.{IsNoClock}
use Rattle.cp_model_machine.proofs.Finding.{some_is_not_none}

-- Whether a designator has an index.
abbrev pub IsIndexed : a.Designator → Type 0
IsIndexed (a.Plain x) = ⊥
IsIndexed (a.Part d x) = IsIndexed d
IsIndexed (a.At d e) = Unit {0}

pub indexed_is_no_call : (env : Environment) (d : a.Designator) → IsIndexed d → callee env d ≡ None
indexed_is_no_call env (a.Plain x) h = absurd h
indexed_is_no_call env (a.Part (a.Plain x) f) h = absurd h
indexed_is_no_call env (a.Part (a.Part d x) f) h = refl
indexed_is_no_call env (a.Part (a.At d e) f) h = refl
indexed_is_no_call env (a.At d e) h = refl

pub indexed_is_no_clock : (d : a.Designator) → IsIndexed d → IsNoClock d
indexed_is_no_clock (a.Plain x) h = absurd h
indexed_is_no_clock (a.Part d x) h = tt
indexed_is_no_clock (a.At d e) h = tt

pub callee_holds_none : (env : Environment) (d : a.Designator) (c : Callee) → callee env d ≡ Some c → (v : a.Expression) → call_in_designator env v d ≡ None
callee_holds_none env (a.Plain x) c h v = refl
callee_holds_none env (a.Part (a.Plain x) f) c h v = refl
callee_holds_none env (a.Part (a.Part d x) f) c h v = absurd (some_is_not_none c (sym h))
callee_holds_none env (a.Part (a.At d e) f) c h v = absurd (some_is_not_none c (sym h))
callee_holds_none env (a.At d e) c h v = absurd (some_is_not_none c (sym h))
