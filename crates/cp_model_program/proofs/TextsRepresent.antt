-- The compiled program of a text represents it, if `TextKnown` holds for the text.
use Rattle.std.proofs.Common.{◌≡◌, ◌≤◌, ◌<◌, inl, ℕ, zero, suc, ◌+◌, ◌-◌, List, [], ◌∷◌, ◌++◌, Some, None, refl, ap, sym, subst, ◌∙◌, Bool, true, false, if◌then◌else◌, slice_get, length, arith, append-nil, bytes_eq, codes}
use Rattle.std.specs.Option.{option_or}
use Rattle.std.proofs.lemmas.Bool.{true≢false}
use Rattle.cp_model.specs.Abstract as a
use Rattle.cp_model.specs.Abstract.{Monitor, Name, Process, Sort, System, Tree}
use Rattle.cp_model.specs.Names.{lookup}
use Rattle.cp_model.specs.Types.{ComponentOf, GlobalScope, Members, Queue, full_range, standard_scope}
use Rattle.cp_model.specs.Declarations.{Variable, declarations, globals, is_component, reported_members}
use Rattle.cp_model.specs.Components.{Component, as_component, component_named, is_component_of, same_sort}
use Rattle.cp_model.specs.States.{Setup, count_components, monitor_count, process_count}
use Rattle.cp_law_typing.specs.Declared.{Distinct, Each}
use Rattle.cp_law_typing.specs.Needs.{AllOwnersFit, OwnerFits, owner_words, process_need, some_environment, statement_need, words_as_owner}
use Rattle.cp_law_typing.specs.Words.{rights_in, words_of_members}
use Rattle.cp_law_typing.specs.WellTyped.{text_systems}
use Rattle.cp_model_program.specs.Programs.{Program}
use Rattle.cp_model_program.specs.Layout.{component_words, most_words}
use Rattle.cp_model_program.specs.Sites.{BodyOf, UnitText}
use Rattle.cp_model_program.specs.IsProgramFor.{MonitorRepresents, ProcessRepresents, IsProgramFor, component_in, system_of_monitor, system_of_process}
use Rattle.cp_model_program.specs.Scopes.{declared_type, or_zero}
use Rattle.cp_model_program.specs.Compile.{Compiled, CompiledTypes, Owner, all_texts, compile, nothing_compiled, of_sort, owners_of, sum_words, system_texts, unit_texts, with_definitions, with_system}
use Rattle.cp_model_program.specs.Known.{TextKnown}
use Rattle.cp_model_program.proofs.DefinitionsRepresent.{Represent, definitions_represent, short_all, system_first, system_here}
use Rattle.cp_model_program.proofs.InitRepresent.{all_found}
use Rattle.cp_model_program.proofs.Representing.{UnitThere}
use Rattle.cp_model_program.proofs.RowsRepresent.{monitor_row, monitor_there, monitor_within, monitors_apart, monitors_counted, process_row, process_there, process_within, processes_apart, processes_counted}
use Rattle.cp_model_program.proofs.ScopesRepresent.{UnitsThere}
use Rattle.cp_model_program.proofs.StartsRepresent.{component_starts}
use Rattle.cp_model_program.proofs.Beginnings.{begins_same, get_some}
use Rattle.cp_model_program.proofs.SystemsRepresent.{After, Within, system_represents, system_there, units_later}
use Rattle.cp_model_program.proofs.UnitNeeds.{Short}
use Rattle.cp_model_program.proofs.UnitTexts.{in_text}
use Rattle.cp_model_program.proofs.SortedComponents.{all_components, sorted_count, sorted_each, each_at, component_type, owner_for, owner_at, owners_counted, component_there}

-- ---- The standard types

no_standard_component : (y : Name) (q : System) (inner : Members) → lookup y standard_scope.types ≡ Some (ComponentOf q inner) → ⊥
no_standard_component y q inner h =
    go (bytes_eq y (codes "integer")) (bytes_eq y (codes "boolean")) (bytes_eq y (codes "char")) (bytes_eq y (codes "queue")) h
  where
    go : (b c d e : Bool)
        → (if b then Some (full_range a.Integer) else if c then Some (full_range a.Boolean) else if d then Some (full_range a.Char) else if e then Some Queue else None)
        ≡ Some (ComponentOf q inner) → ⊥
    go true c d e h = cc
    go false true d e h = cc
    go false false true e h = cc
    go false false false true h = cc
    go false false false false h = cc

-- ---- What processes need

is_process : (z : Sort) → same_sort Process z ≡ true → z ≡ Process
is_process Process h = refl
is_process Monitor h = absurd (true≢false (sym h))
is_process a.Class h = absurd (true≢false (sym h))

process_fits : (z : Sort) (words n : ℕ) → z ≡ Process → words + process_need z n ≤ 65536 → n ≤ 65536
process_fits Process words n e h = omega (arith, h)
process_fits Monitor words n e h = absurd (cc)
process_fits a.Class words n e h = absurd (cc)

sorted_is : (s : Sort) (vs : List (Name × Variable)) → Each (λ v. is_component_of s v.1.type ≡ true) (of_sort s vs)
sorted_is s [] = tt
sorted_is s (v ∷ vs) = go (is_component_of s v.1.type) refl (sorted_is s vs)
  where
    go : (b : Bool) → is_component_of s v.1.type ≡ b → Each (λ w. is_component_of s w.1.type ≡ true) (of_sort s vs)
        → Each (λ w. is_component_of s w.1.type ≡ true) (if b then v ∷ of_sort s vs else of_sort s vs)
    go true is rest = (is, rest)
    go false is rest = rest

-- ---- The text

module _ (setup : Setup) where
  abbrev tree : Tree
  tree = setup.tree

  abbrev g : GlobalScope
  g = globals tree

  abbrev program : Program
  program = compile tree

  abbrev texts : List UnitText
  texts = unit_texts tree

  abbrev whole : List UnitText
  whole = all_texts tree

  abbrev types : CompiledTypes
  types = with_definitions g tree.definitions nothing_compiled

  abbrev all : Compiled
  all = with_system g types.firsts tree.initial types.compiled

  abbrev variables : List (Name × Variable)
  variables = declarations g tree.initial.variables

  module _ (known : TextKnown setup) (short : Short g (text_systems setup)) where
    within : Within g program whole all
    within = record { operations = begins_same all.operations; units = begins_same all.units }

    before : Within g program whole types.compiled
    before = system_first g program whole tree.initial types.firsts types.compiled within

    defined : Represent g program whole g types (system_texts tree.initial)
    defined =
        definitions_represent g program whole tree.definitions standard_scope [] nothing_compiled (system_texts tree.initial) known.in_order (short_all g tree.definitions short) (λ i s h. absurd (cc))
        (record {
          good = λ n u t h is. absurd (cc);
          little = λ n u t h is. absurd (cc);
          firsts = λ y q inner h. absurd (no_standard_component y q inner h);
          texts_at = λ i t h. ap (slice_get whole) (nothing_before i) ∙ h;
        })
        before
      where
        nothing_before : (n : ℕ) → 0 + n ≡ n
        nothing_before n = omega arith

    last : Represent g program whole g types (system_texts tree.initial ++ [])
    last = record { good = defined.good; little = defined.little; firsts = defined.firsts; texts_at = λ i t h. defined.texts_at i t (ap (λ l. slice_get l i) (sym (append-nil (system_texts tree.initial))) ∙ h) }

    after : After g program whole tree.initial (text_systems setup) known.initial short types.firsts types.compiled (suc (length tree.initial.routines)) all
    after =
        system_represents g program whole tree.initial (text_systems setup) known.initial short types.firsts types.compiled
        (system_here g program whole tree.initial g types [] (text_systems setup) known.initial short known.named last) defined.good defined.little within

    initial_there : UnitsThere g program texts all.units (length types.compiled.units) tree.initial
    initial_there =
        system_there g program whole tree.initial (text_systems setup) known.initial short types.firsts types.compiled
        (system_here g program whole tree.initial g types [] (text_systems setup) known.initial short known.named last) after within

    -- ---- Components

    -- A component variable of the initial process: its system type, and its units.
    pub record OwnerHere (s : Sort) (k : ℕ) : Type 0 where
      pub variable : Name × Variable
      pub there : slice_get (of_sort s variables) k ≡ Some variable
      pub system : System
      pub inner : Members
      pub type : variable.1.type ≡ ComponentOf system inner
      pub found : lookup variable.0 variables ≡ Some variable.1
      pub row : slice_get (owners_of types.firsts tree.initial.variables (of_sort s variables)) k ≡ Some (owner_for types.firsts tree.initial.variables variable.0 system)
      pub units : UnitsThere g program texts all.units (or_zero (lookup (declared_type variable.0 tree.initial.variables) types.firsts)) system

    last_distinct : (vs ws : List (Name × Variable)) → Distinct (vs ++ ws) → Distinct ws
    last_distinct [] ws d = d
    last_distinct (v ∷ vs) ws d = last_distinct vs ws d.1

    component_is : (x : Name) (v : Variable) (s : System) (inner : Members) → lookup x variables ≡ Some v → v.type ≡ ComponentOf s inner
        → component_named (some_environment g tree.initial None) x ≡ Some (record { name = x; system = s; is_parameter = false })
    component_is x v s inner found type =
        ap (λ o. option_or (as_component x true o) (as_component x false (lookup x variables))) (ap (λ ps. lookup x (declarations g ps)) known.no_parameters)
        ∙ ap (as_component x false) found ∙ ap (λ t. as_component x false (Some (record { by_reference = v.by_reference; type = t }))) type

    owner_here : (s : Sort) (k : ℕ) → k < length (of_sort s variables) → OwnerHere s k
    owner_here s k less =
        let v = get_some (of_sort s variables) k less in
        let alone : Distinct variables = last_distinct (declarations g tree.initial.parameters) variables known.initial.bodies.distinct in
        let found : lookup v.0.0 variables ≡ Some v.0.1 =
        each_at (λ w. lookup w.0 variables ≡ Some w.1) (of_sort s variables) k v.0 (sorted_each (λ w. lookup w.0 variables ≡ Some w.1) s variables (all_found variables alone)) v.1 in
        let t = component_type v.0.1.type (each_at (λ w. is_component w.1.type ≡ true) (of_sort s variables) k v.0 (all_components s variables) v.1) in
        let n : Component = record { name = v.0.0; system = t.0; is_parameter = false } in
        let named = known.named n (component_is v.0.0 v.0.1 t.0 t.1.0 found t.1.1) in
        record {
          variable = v.0;
          there = v.1;
          system = t.0;
          inner = t.1.0;
          type = t.1.1;
          found = found;
          row = owner_at types.firsts tree.initial.variables (of_sort s variables) (all_components s variables) k v.0 t.0 t.1.0 v.1 t.1.1;
          units = units_later g program whole types.compiled.units all.units (or_zero (lookup (declared_type v.0.0 tree.initial.variables) types.firsts)) t.0 after.grows
              (defined.firsts (declared_type v.0.0 tree.initial.variables) t.0 named.0 named.1);
        }

    abbrev monitors : List Owner
    monitors = owners_of types.firsts tree.initial.variables (of_sort Monitor variables)

    abbrev initial_owner : Owner
    initial_owner = record { system = tree.initial; body = length types.compiled.units + length tree.initial.routines }

    abbrev owners : List Owner
    owners = initial_owner ∷ owners_of types.firsts tree.initial.variables (of_sort Process variables)

    abbrev start : ℕ
    start = sum_words (component_words g) monitors

    -- A process's body has room, since the rules count what it calls.
    owners_each : (d : ℕ) (vs : List (Name × Variable)) → AllOwnersFit d g vs → Each (λ w. OwnerFits d g w.1.type) vs
    owners_each d [] h = tt
    owners_each d (v ∷ vs) h = (h.0, owners_each d vs h.1)

    body_room : (n : ℕ) (q : System) (body : UnitThere g program texts all.units n (BodyOf q)) → statement_need (suc n) g q None q.body ≤ 65536 → body.unit.words < most_words
    body_room n q body h = let little = body.little (suc n) (omega arith) in omega (arith, little, h)

    initial_need : (d : ℕ) → statement_need d g tree.initial None tree.initial.body ≤ 65536
    initial_need d =
        process_fits tree.initial.sort (1 + rights_in g tree.initial + words_of_members g (reported_members g tree.initial)) (statement_need d g tree.initial None tree.initial.body)
        known.typed.initial_sort (known.typed.words.initial d)

    other_need : (d k : ℕ) (v : Name × Variable) (q : System) (inner : Members) → slice_get (of_sort Process variables) k ≡ Some v → v.1.type ≡ ComponentOf q inner
        → statement_need d g q None q.body ≤ 65536
    other_need d k v q inner there is =
        let sort = is_process q.sort (subst (λ t. is_component_of Process t ≡ true) is
        (each_at (λ w. is_component_of Process w.1.type ≡ true) (of_sort Process variables) k v (sorted_is Process variables) there)) in
        let fit = subst (OwnerFits d g) is
        (each_at (λ w. OwnerFits d g w.1.type) (of_sort Process variables) k v (sorted_each (λ w. OwnerFits d g w.1.type) Process variables (owners_each d variables (known.typed.words.others d))) there) in
        process_fits q.sort (1 + rights_in g q + words_of_members g (reported_members g q)) (statement_need d g q None q.body) sort
        (subst (λ z. words_as_owner z (owner_words d g q) ≤ 65536) sort fit)

    initial_represents : ProcessRepresents program texts setup 1
    initial_represents =
        let r = process_there g owners start 0 initial_owner refl in
        record {
          system = tree.initial;
          is_system = refl;
          row = process_row g r.0 initial_owner;
          there = r.1;
          words = refl;
          starts = component_starts g tree.initial known.initial_planned;
          waiting = refl;
          waits = r.2;
          body = initial_there.body.text (body_room (length types.compiled.units + length tree.initial.routines) tree.initial initial_there.body (initial_need (suc (length types.compiled.units + length tree.initial.routines))));
          unit = initial_there.body.unit;
          unit_there = initial_there.body.there;
        }

    one_less : (n : ℕ) → suc n - 1 ≡ n
    one_less n = omega arith

    other_represents : (k : ℕ) → k < length (of_sort Process variables) → ProcessRepresents program texts setup (suc (suc k))
    other_represents k less =
        let h = owner_here Process k less in
        let x = owner_for types.firsts tree.initial.variables h.variable.0 h.system in
        let r = process_there g owners start (suc k) x h.row in
        record {
          system = h.system;
          is_system = component_there (of_sort Process variables) k h.variable h.there ∙ ap component_in h.type;
          row = process_row g r.0 x;
          there = ap (slice_get program.processes) (one_less (suc k)) ∙ r.1;
          words = refl;
          starts = component_starts g h.system (known.planned h.variable.0 h.variable.1 h.system h.inner h.found h.type);
          waiting = refl;
          waits = r.2;
          body = h.units.body.text (body_room x.body h.system h.units.body (other_need (suc x.body) k h.variable h.system h.inner h.there h.type));
          unit = h.units.body.unit;
          unit_there = h.units.body.there;
        }

    processes_represent : (p : ℕ) → 1 ≤ p → p ≤ process_count setup → ProcessRepresents program texts setup p
    processes_represent zero low high = absurd (omega (arith, low))
    processes_represent (suc zero) low high = initial_represents
    processes_represent (suc (suc k)) low high = other_represents k (omega (arith, high, sorted_count Process variables))

    monitors_represent : (m : ℕ) → 1 ≤ m → m ≤ monitor_count setup → MonitorRepresents program texts setup m
    monitors_represent zero low high = absurd (omega (arith, low))
    monitors_represent (suc k) low high =
        let h = owner_here Monitor k (omega (arith, high, sorted_count Monitor variables)) in
        let x = owner_for types.firsts tree.initial.variables h.variable.0 h.system in
        let r = monitor_there g monitors 0 k x h.row in
        record {
          system = h.system;
          is_system = component_there (of_sort Monitor variables) k h.variable h.there ∙ ap component_in h.type;
          row = monitor_row g r.0 x;
          there = ap (slice_get program.monitors) (one_less k) ∙ r.1;
          words = refl;
          starts = component_starts g h.system (known.planned h.variable.0 h.variable.1 h.system h.inner h.found h.type);
          lies = omega (arith, r.2);
        }

    sorted_owners : (s : Sort) → length (owners_of types.firsts tree.initial.variables (of_sort s variables)) ≡ count_components s variables
    sorted_owners s = owners_counted types.firsts tree.initial.variables (of_sort s variables) (all_components s variables) ∙ sorted_count s variables

    -- ---- Apart

    index_apart : (m k : ℕ) → 1 ≤ m → 1 ≤ k → (m ≡ k → ⊥) → m - 1 ≡ k - 1 → ⊥
    index_apart m k low least ne e = ne (omega (arith, low, least, e))

    monitor_number : (m : ℕ) (s : System) → system_of_monitor setup m ≡ Some s → 1 ≤ m
    monitor_number zero s h = absurd (cc)
    monitor_number (suc m) s h = omega arith

    process_number : (p : ℕ) (s : System) → system_of_process setup p ≡ Some s → 1 ≤ p
    process_number zero s h = absurd (cc)
    process_number (suc p) s h = omega arith

    pub represents : IsProgramFor program setup
    represents = record {
      typed = known.typed;
      set_apart = known.set_apart;
      texts = texts;
      units = after.good;
      systems = in_text setup;
      process_rows = processes_counted g owners start ∙ ap suc (sorted_owners Process);
      monitor_rows = monitors_counted g monitors 0 ∙ sorted_owners Monitor;
      processes = processes_represent;
      monitors = monitors_represent;
      monitors_apart = λ m k M N ne.
          monitors_apart g monitors 0 (m - 1) (k - 1) M.row N.row M.there N.there (index_apart m k (monitor_number m M.system M.is_system) (monitor_number k N.system N.is_system) ne);
      parameters_apart = λ p q P Q ne.
          processes_apart g owners start (p - 1) (q - 1) P.row Q.row P.there Q.there (index_apart p q (process_number p P.system P.is_system) (process_number q Q.system Q.is_system) ne);
      both_apart = λ m p M P.
          inl (omega (arith, (monitor_within g monitors 0 (m - 1) M.row M.there).1, process_within g owners start (p - 1) P.row P.there));
      members = known.members;
    }
