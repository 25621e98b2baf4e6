-- What is known before a step, what it has to keep, and the steps by which a process continues by itself.
use Rattle.std.proofs.Common.{◌≡◌, ℕ, ◌≤◌, List, Bool, true, false, refl, sym, subst, ◌∙◌}
use Rattle.std.specs.Prelude.{if◌then◌else◌}
use Rattle.cp_model.specs.Abstract.{Statement}
use Rattle.cp_model.specs.Types.{ResolvedType}
use Rattle.cp_model.specs.Locations.{Location}
use Rattle.cp_model.specs.Stores.{Writes, put_all}
use Rattle.cp_model.specs.Environments.{Environment}
use Rattle.cp_model.specs.Places.{TypedValue}
use Rattle.cp_model.specs.Outcomes.{Fault, Gives, Outcome, and_then}
use Rattle.cp_model.specs.Continuations.{Task, marked_monitors, push}
use Rattle.cp_model.specs.Configurations.{Configuration, Context, Effect, Own, Starts, StepResult}
use Rattle.cp_model.specs.Assignments.{writes_of}
use Rattle.cp_model.specs.Invariant.{StoreInvariant}
use Rattle.cp_model.proofs.ExpressionReach.{IfGives, then_gives}
use Rattle.cp_law_gates.specs.Hierarchy.{Descends}
use Rattle.cp_law_gates.specs.Effects.{EffectFits}
use Rattle.cp_law_gates.specs.InOrder.{AllFit, Fits, IsOrdered, Keeps, RightsDescend, World}
use Rattle.cp_law_gates.proofs.Writes.{AllTame, puts_queues, puts_rights, writes_tame}
use Rattle.cp_law_gates.proofs.Pushing.{push_fits}
use Rattle.cp_model.specs.States.{is_in}

abbrev pub StartFits : World → Effect → Type 0
StartFits w (Starts r k) = AllFit w k
StartFits w _ = Unit {0}

-- What is known of the process and the store before a step.
pub record IsBefore (w : World) (c : Context) (config : Configuration) : Type 0 where
  pub ordered : IsOrdered w
  pub invariant : StoreInvariant config.store
  pub rights : RightsDescend w.place config.store
  pub fits : AllFit w config.continuation
  pub descends : Descends w.place (marked_monitors config.continuation)
  pub within : (m : ℕ) → is_in m (marked_monitors config.continuation) ≡ true → (1 ≤ m) × (m ≤ w.monitors)

module _ (w : World) (c : Context) (config : Configuration) (S : IsBefore w c config) where
  pub record StepFits (x : Configuration × Effect) : Type 0 where
    pub rights : RightsDescend w.place x.0.store
    pub fits : AllFit w x.0.continuation
    pub descends : Descends w.place (marked_monitors x.0.continuation)
    pub effect : EffectFits w.monitors c.is_set c.process config x.0 x.1
    pub starts : StartFits w x.1

  pub then_fits : {B : Type 0} (o : Outcome B) (f : B → StepResult) → ((x : B) → IfGives StepFits (f x)) → IfGives StepFits (and_then o f)
  then_fits (Fault n) f h = tt
  then_fits (Gives x) f h = h x

  pub then_writes : (l : Location) (t : ResolvedType) (v : TypedValue) (f : Writes → StepResult) → ((ws : Writes) → AllTame w.place ws → IfGives StepFits (f ws))
      → IfGives StepFits (and_then (writes_of l t v) f)
  then_writes l t v f h = then_gives (AllTame w.place) StepFits (writes_of l t v) f (writes_tame w.place l t v) h

  pub either : (b : Bool) (x y : StepResult) → (b ≡ true → IfGives StepFits x) → (b ≡ false → IfGives StepFits y) → IfGives StepFits (if b then x else y)
  either true x y h k = h refl
  either false x y h k = k refl

  -- The process continues by itself, with these writes.
  pub proceeds : (k : List Task) (transcript : List ℕ) (n : ℕ) (ws : Writes) → AllTame w.place ws → AllFit w k → marked_monitors k ≡ marked_monitors config.continuation
      → StepFits (record { store = put_all ws config.store; continuation = k; transcript = transcript; consumed = n }, Own)
  proceeds k transcript n ws t o e = record {
    rights = puts_rights w.place ws config.store t S.rights;
    fits = o;
    descends = subst (Descends w.place) (sym e) S.descends;
    effect = (e, puts_queues w.place ws config.store t);
    starts = tt;
  }

  pub stays : StepFits (config, Own)
  stays = record { rights = S.rights; fits = S.fits; descends = S.descends; effect = (refl, (λ l r e. e)); starts = tt }

  pub pushed : (x : Statement) (env : Environment) (k : List Task) (transcript : List ℕ) (n : ℕ) (ws : Writes) → AllTame w.place ws → Fits w env k → Keeps w env x → AllFit w k
      → marked_monitors k ≡ marked_monitors config.continuation → StepFits (record { store = put_all ws config.store; continuation = push x env k; transcript = transcript; consumed = n }, Own)
  pushed x env k transcript n ws t F h o e =
      let P = push_fits w x env k F h o in
      proceeds (push x env k) transcript n ws t P.fits (P.marks ∙ e)
