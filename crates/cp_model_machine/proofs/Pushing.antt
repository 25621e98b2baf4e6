-- A statement that is added before what is left to do: its code, which has no end mark.
use Rattle.std.proofs.Common.{◌≡◌, ℕ, ℤ, List, ◌∷◌, refl, sym, subst, ◌∙◌, arith}
use Rattle.cp_model.specs.Abstract as a
use Rattle.cp_model.specs.Continuations.{RepeatTest, Task, marked_monitors, push}
use Rattle.cp_model.specs.Environments.{Environment}
use Rattle.cp_model.specs.Stores.{Store}
use Rattle.cp_model_program.specs.TermsFor.{nothing_known}
use Rattle.cp_model_program.specs.StatementsFor.{CodeFor}
use Rattle.cp_model_machine.specs.PrivateStates as machine
use Rattle.cp_model_machine.specs.Addresses.{Ground, activations}
use Rattle.cp_model_machine.specs.Remaining.{Remaining, Running, site}
use Rattle.cp_model_machine.specs.PartOf.{ActivationsMean}

module _ (G : Ground) (temps : List ℤ) (limit : ℕ) (R : Running) (fs : List machine.Frame) where
  pub push_left : (s : a.Statement) (place next low : ℕ) (k : List Task) → CodeFor (site G R) nothing_known s place next low
      → Remaining G temps limit nothing_known R fs next low k → Remaining G temps limit nothing_known R fs place low (push s R.env k)
  push_left a.Nothing place next low k c h = subst (λ z. Remaining G temps limit nothing_known R fs z low k) (sym c) h
  push_left (a.Seq s t) place next low k c h =
      push_left s place c.0 low (push t R.env k) c.1 (push_left t c.0 next low k c.2 h)
  push_left (a.While e s) place next low k c h = (
    refl,
    (
      next,
      low,
      omega arith,
      record { start = place; last = c.0; way = c.3; term = c.1; base = c.2; test = c.4; rest = c.5; whole = c.5; again = c.6 },
      h,
    ),
  )
  push_left (a.Repeat s e) place next low k c h =
      push_left s place c.0 low (RepeatTest e s e R.env ∷ k) c.6 (
        refl,
        (
          next,
          low,
          omega arith,
          record { start = c.0; last = c.1; way = place; term = c.2; base = c.3; test = c.4; rest = c.5; whole = c.5; again = c.6 },
          h,
        ),
      )
  push_left (a.Assign d e) place next low k c h = (refl, tt, (next, low, omega arith, c, h))
  push_left (a.Perform d es) place next low k c h = (refl, tt, (next, low, omega arith, c, h))
  push_left (a.If e s t) place next low k c h = (refl, tt, (next, low, omega arith, c, h))
  push_left (a.Case e arms) place next low k c h = (refl, tt, (next, low, omega arith, c, h))
  push_left (a.For x down e f s) place next low k c h = (refl, tt, (next, low, omega arith, c, h))
  push_left (a.Cycle s) place next low k c h = (refl, tt, (next, low, omega arith, c, h))
  push_left (a.Init x es) place next low k c h = (refl, tt, (next, low, omega arith, c, h))

-- ---- end marks

pub activations_push : (b : ℕ) (fs : List machine.Frame) (s : a.Statement) (env : Environment) (k : List Task)
    → activations b fs (push s env k) ≡ activations b fs k
activations_push b fs a.Nothing env k = refl
activations_push b fs (a.Seq s t) env k = activations_push b fs s env (push t env k) ∙ activations_push b fs t env k
activations_push b fs (a.While e s) env k = refl
activations_push b fs (a.Repeat s e) env k = activations_push b fs s env (RepeatTest e s e env ∷ k)
activations_push b fs (a.Assign d e) env k = refl
activations_push b fs (a.Perform d es) env k = refl
activations_push b fs (a.If e s t) env k = refl
activations_push b fs (a.Case e arms) env k = refl
activations_push b fs (a.For x down e f s) env k = refl
activations_push b fs (a.Cycle s) env k = refl
activations_push b fs (a.Init x es) env k = refl

pub mean_push : (G : Ground) (store : Store) (ws : List ℤ) (b : ℕ) (fs : List machine.Frame) (s : a.Statement) (env : Environment) (k : List Task)
    → ActivationsMean G store ws b fs (push s env k) ≡ ActivationsMean G store ws b fs k
mean_push G store ws b fs a.Nothing env k = refl
mean_push G store ws b fs (a.Seq s t) env k = mean_push G store ws b fs s env (push t env k) ∙ mean_push G store ws b fs t env k
mean_push G store ws b fs (a.While e s) env k = refl
mean_push G store ws b fs (a.Repeat s e) env k = mean_push G store ws b fs s env (RepeatTest e s e env ∷ k)
mean_push G store ws b fs (a.Assign d e) env k = refl
mean_push G store ws b fs (a.Perform d es) env k = refl
mean_push G store ws b fs (a.If e s t) env k = refl
mean_push G store ws b fs (a.Case e arms) env k = refl
mean_push G store ws b fs (a.For x down e f s) env k = refl
mean_push G store ws b fs (a.Cycle s) env k = refl
mean_push G store ws b fs (a.Init x es) env k = refl

pub marks_push : (s : a.Statement) (env : Environment) (k : List Task) → marked_monitors (push s env k) ≡ marked_monitors k
marks_push a.Nothing env k = refl
marks_push (a.Seq s t) env k = marks_push s env (push t env k) ∙ marks_push t env k
marks_push (a.While e s) env k = refl
marks_push (a.Repeat s e) env k = marks_push s env (RepeatTest e s e env ∷ k)
marks_push (a.Assign d e) env k = refl
marks_push (a.Perform d es) env k = refl
marks_push (a.If e s t) env k = refl
marks_push (a.Case e arms) env k = refl
marks_push (a.For x down e f s) env k = refl
marks_push (a.Cycle s) env k = refl
marks_push (a.Init x es) env k = refl
