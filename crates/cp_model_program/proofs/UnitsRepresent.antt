-- A compiled unit represents its routine or body.
--
-- What a unit needs is the greatest of what its operations need, so there is enough for each of
-- them.
use Rattle.std.proofs.Common.{◌≡◌, ◌≤◌, ◌<◌, ℕ, suc, ◌+◌, List, [], ◌∷◌, Option, Some, None, subst, length, arith}
use Rattle.cp_model.specs.Abstract.{Statement, System}
use Rattle.cp_model.specs.Locations.{Location, Owner}
use Rattle.cp_law_typing.specs.Judgement.{TypedStatement}
use Rattle.cp_model_program.specs.Programs as op
use Rattle.cp_model_program.specs.Programs.{Call, CodeUnit, Operation, Program, StartPlan}
use Rattle.cp_model_program.specs.Sites.{UnitText, operation_at}
use Rattle.cp_model_program.specs.TermsFor.{nothing_known}
use Rattle.cp_model_program.specs.StatementsFor.{CodeFor}
use Rattle.cp_model_program.specs.Layout.{capped, most_words}
use Rattle.cp_model_program.specs.Scopes.{Scope}
use Rattle.cp_model_program.specs.CodeNeeds.{Need, need_of, need_of_all, need_of_call, no_need, with_room, with_temps}
use Rattle.cp_model_program.specs.Compile.{code_unit, unit_code}
use Rattle.cp_model_program.proofs.Environments.{environment_at}
use Rattle.cp_model_program.proofs.OperationsRepresent.{AllRepresent, OperationFits}
use Rattle.cp_model_program.proofs.Room.{uncapped}
use Rattle.cp_model_program.proofs.Representing.{CallFits, Representing, place_at}
use Rattle.cp_model_program.proofs.CodeRepresents.{code_represents}

-- ---- Needs

pub record Within (need : Need) (unit : CodeUnit) : Type 0 where
  pub words : need.words ≤ unit.words
  pub temps : need.temps ≤ unit.temps
  pub frames : need.frames ≤ unit.frames

module _ (scope : Scope) (program : Program) (texts : List UnitText) (before : List CodeUnit) (unit : CodeUnit) (less : unit.words < most_words) where
  abbrev need_by : Call → Option CodeUnit → Need
  need_by c o = elim o [
    | None ↦ no_need
    | Some u ↦ record { words = capped (c.words + u.words); temps = c.temps + u.temps; frames = 1 + u.frames }
  ]

  call_fits : (c : Call) → Within (need_of_call before c) unit → CallFits scope program texts before unit c
  call_fits c w u there =
      let k : Within (need_by c (Some u)) unit = subst (λ o. Within (need_by c o) unit) there w in
      let words : c.words + u.words ≤ unit.words = uncapped (c.words + u.words) unit.words k.words less in
      (words, k.temps, k.frames, omega (arith, words, less))

  with_temps_fits : (n : ℕ) (need : Need) → Within (with_temps n need) unit → Within need unit × (n ≤ unit.temps)
  with_temps_fits n need w =
      (record { words = w.words; temps = omega (arith, w.temps); frames = w.frames }, omega (arith, w.temps))

  with_room_fits : (words count : ℕ) (need : Need) → Within (with_room words count need) unit → Within need unit × (words + suc count ≤ unit.words)
  with_room_fits words count need w = (
    record { words = omega (arith, w.words); temps = w.temps; frames = w.frames },
    uncapped (words + suc count) unit.words (omega (arith, w.words)) less,
  )

  operation_fits : (x : Operation) → Within (need_of before x) unit → OperationFits scope program texts before unit x
  operation_fits (op.Procedure c next) w = call_fits c w
  operation_fits (op.Function c into next) w =
      let k = with_temps_fits (suc into) (need_of_call before c) w in (call_fits c k.0, k.1)
  operation_fits (op.InitClass c next) w =
      let k = with_room_fits c.words (length c.arguments) (need_of_call before c) w in (call_fits c k.0, k.1)
  operation_fits (op.InitMonitor c next) w =
      let k = with_room_fits c.words (length c.arguments) (need_of_call before c) w in (call_fits c k.0, k.1)
  operation_fits (op.InitProcess n xs words next) w = (with_room_fits words (length xs) no_need w).1
  operation_fits (op.For c first last) w = (with_temps_fits (c.temp + 2) no_need w).1
  operation_fits (op.Set to low high value next) w = tt
  operation_fits (op.SetResult low high value next) w = tt
  operation_fits (op.CopyWords to from size next) w = tt
  operation_fits (op.Test value yes' no') w = tt
  operation_fits (op.Case value table) w = tt
  operation_fits (op.ForNext c) w = tt
  operation_fits (op.Cycle body) w = tt
  operation_fits (op.Return function) w = tt
  operation_fits op.EndBody w = tt
  operation_fits op.End w = tt
  operation_fits (op.Display value byte next) w = tt
  operation_fits (op.Accept to low high next) w = tt
  operation_fits (op.Delay queue next) w = tt
  operation_fits (op.Continue queue function) w = tt
  operation_fits (op.Wait next) w = tt

  -- They are in the program from a place on.
  abbrev pub AllThere : List Operation → ℕ → Type 0
  AllThere [] at = Unit {0}
  AllThere (x ∷ xs) at = (operation_at program at ≡ Some x) × AllThere xs (suc at)

  pub all_fit : (words : ℕ) (xs : List Operation) (at : ℕ) → AllThere xs at → Within (need_of_all before words xs) unit
      → AllRepresent scope program texts before unit xs at
  all_fit words [] at there w = tt
  all_fit words (x ∷ xs) at there w = (
    there.0,
    operation_fits x (record { words = omega (arith, w.words); temps = omega (arith, w.temps); frames = omega (arith, w.frames) }),
    all_fit words xs (suc at) there.1 (record { words = omega (arith, w.words); temps = omega (arith, w.temps); frames = omega (arith, w.frames) }),
  )

pub words_needed : (before : List CodeUnit) (words : ℕ) (xs : List Operation) → words ≤ (need_of_all before words xs).words
words_needed before words [] = omega arith
words_needed before words (x ∷ xs) = omega (arith, words_needed before words xs)

-- ---- Units

module _ (scope : Scope) (program : Program) (texts : List UnitText) (before : List CodeUnit) (systems : List System) (routines : ℕ)
    (standing : Representing scope program texts before systems routines) (starts : StartPlan) (last : Operation) (s : Statement) (at : ℕ) where
  abbrev unit : CodeUnit
  unit = code_unit (unit_code scope last s at).entry starts (need_of_all before scope.words (unit_code scope last s at).operations)

  -- Its code represents the statement and ends with the last operation, wherever the component
  -- is.
  pub unit_represents : (less : unit.words < most_words) → AllThere scope program texts before unit less (unit_code scope last s at).operations at
      → ((l : Location) (o : Owner) → TypedStatement (place_at scope systems routines l o) s)
      → (l : Location) (o : Owner) → (end : ℕ) × (operation_at program end ≡ Some last)
      × CodeFor (record { program = program; texts = texts; env = environment_at scope l o; unit = unit; words = scope.words }) nothing_known s unit.start end 0
  unit_represents less there typed l o =
      let all : AllRepresent scope program texts before unit (unit_code scope last s at).operations at =
      all_fit scope program texts before unit less scope.words (unit_code scope last s at).operations at there (record { words = omega arith; temps = omega arith; frames = omega arith }) in
      (at, there.0, code_represents scope program texts systems routines before unit l o standing s 0 (suc at) at (typed l o) (omega arith) all.2)
