-- What the steps of a search make of states, as cores.
use Rattle.std.specs.Prelude.{Bool, List, Some, Vec, false, if◌then◌else◌, refl, true, ℕ, ◌≡◌, ◌≤◌}
use Rattle.std.proofs.Common.{ap, subst, sym, ◌∙◌}
use Rattle.std.specs.Global.{Global}
use Rattle.cp_model_program.specs.Programs.{Program}
use Rattle.cp_model_machine.specs.KernelSteps.{needs_kernel}
use Rattle.cp_model_machine.specs.PrivateStates.{PrivateState, is_running}
use Rattle.cp_model_machine.specs.Steps.{is_private, operation_of}
use Rattle.cp_law_calls.specs.Ways.{Eager, Late}
use Rattle.cp_law_cores.specs.Clocks.{is_timeless}
use Rattle.cp_law_cores.specs.Cores.{Core, close, is_private_on, kernel_at, part}
use Rattle.cp_law_cores.specs.Turns.{AreSilent}
use Rattle.cp_law_search.specs.Calls.{move_at, way_at}
use Rattle.cp_law_exploring.specs.Laws.{ClosedIsQuiescent, KernelStepIsBefore, LateIsOfKernel, NoneEagerSettles, TurnIsBefore, TurnIsKernelStep}
use Rattle.cp_law_exploring.specs.Exploring.{IsQuiescent, IsBefore, SettlesQuietly, count}
use Rattle.cp_private.specs.Kinds.{kind_of}
use Rattle.cp_private.specs.declared.kind.Kind.TheVariants as kind
use Rattle.cp_private.specs.declared.private.Private.{Private}
use Rattle.cp_kernel.specs.declared.kernel.Kernel.{Kernel}
use Rattle.cp_search_states.specs.SearchStates.{HasRun, HasTurned, IsNearer, core_with, input_of}

-- ---- Kinds

pub not_private : (program : Program) (o : PrivateState) → kind.Kernel ≡ kind_of program o → is_private_on program (Some o) ≡ false
not_private program o h = by (is_running o.activity) (is_private o (operation_of program o)) h
  where
    by : (r x : Bool) → kind.Kernel ≡ (if r then (if x then kind.Private else (if needs_kernel o (operation_of program o) then kind.Kernel else kind.None)) else kind.None)
        → (if r then x else false) ≡ false
    by true true h = absurd (cc)
    by true false h = refl
    by false x h = refl

-- ---- Steps

module _ (program : Program) (inputs : List (Vec ℕ Global)) where
  abbrev at : List Private → Kernel → Core
  at xs k = core_with (input_of inputs) xs k

  pub ran_nearer : (t p : ℕ) (xs ys : List Private) (k : Kernel) → TurnIsBefore → is_timeless program ≡ true → IsQuiescent (at xs k) → 1 ≤ p → p ≤ count program
      → way_at program (at xs k) p ≡ Eager → HasRun program t p inputs xs ys → IsNearer program (at xs k) (at ys k)
  ran_nearer t p xs ys k law timeless rest low high eager run =
      let both = law program t (at xs k) p run.own timeless rest low high eager run.there in
      subst (IsNearer program (at xs k)) (λ j. record { kernel = (at xs k).kernel; parts = sym run.parts j }) (record { before = both.0; rest = both.1 })

  -- A kernel turn of one step is a step of the kernel.
  pub turned_at : (p : ℕ) (xs ys : List Private) (k k' : Kernel) → TurnIsKernelStep → AreSilent (at xs k) → HasTurned program p inputs xs k ys k'
      → (at ys k' ≡ kernel_at program (at xs k) p) × AreSilent (at ys k')
  turned_at p xs ys k k' law quiet turned =
      let both = law program (at xs k) p turned.own quiet turned.there in
      let is : at ys k' ≡ _ = λ j. record { kernel = turned.kernel j; parts = turned.parts j } in
      (is ∙ both.0, subst AreSilent (sym is) both.1)

  pub stepped_nearer : (p : ℕ) (xs ys : List Private) (k k' : Kernel) (d : Core) (o : PrivateState) → TurnIsKernelStep → KernelStepIsBefore → ClosedIsQuiescent
      → IsQuiescent (at xs k) → 1 ≤ p → p ≤ count program → way_at program (at xs k) p ≡ Eager → part (at xs k).parts p ≡ Some o → kind.Kernel ≡ kind_of program o
      → HasTurned program p inputs xs k ys k' → d ≡ close program (at ys k') → IsNearer program (at xs k) d
  stepped_nearer p xs ys k k' d o turn step closed rest low high eager there of_kernel turned is =
      let both = turned_at p xs ys k k' turn rest.silent turned in
      let before = step program (at xs k) p low high eager (ap (is_private_on program) there ∙ not_private program o of_kernel) in
      subst (IsNearer program (at xs k)) (sym is)
      (record {
        before = subst (IsBefore program (at xs k)) (ap (close program) (sym both.0)) before;
        rest = closed program (at ys k') both.1;
      })

-- ---- Loops

pub closed_nearer : (program : Program) (c d : Core) → ClosedIsQuiescent → AreSilent c → d ≡ close program c → IsNearer program (close program c) d
closed_nearer program c d closed quiet is =
    subst (IsNearer program (close program c)) (sym is) (record { before = record { settles = λ w h. h }; rest = closed program c quiet })

pub nearer_more : (program : Program) (a b c : Core) → IsNearer program a b → IsNearer program b c → IsNearer program a c
nearer_more program a b c one two = record { before = record { settles = λ w h. one.before.settles w (two.before.settles w h) }; rest = two.rest }

pub nearer_rests : (program : Program) (c d : Core) → NoneEagerSettles → IsNearer program c d
    → ((p : ℕ) → 1 ≤ p → p ≤ count program → way_at program d p ≡ Eager → ⊥) → SettlesQuietly program c d
nearer_rests program c d law near none = law program c d near.before near.rest none

pub advanced_rests : (program : Program) (c e d : Core) (p : ℕ) → LateIsOfKernel → way_at program c p ≡ Late → e ≡ kernel_at program c p
    → SettlesQuietly program (close program e) d → SettlesQuietly program (move_at program c p) d
advanced_rests program c e d p law late is h =
    subst (λ z. SettlesQuietly program z d) (sym (law program c p late ∙ ap (close program) (sym is))) h
