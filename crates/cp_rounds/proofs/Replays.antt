-- The events of a round, as the code makes them, are those of the machine as plain data.
use Rattle.std.specs.Prelude.{◌≡◌, ◌≤◌, ◌<◌, refl, ℕ, zero, suc, ◌+◌, ◌-◌, ◌%◌, ◌++◌, Bool, true, false, List, [], ◌∷◌, length, map, nat_eq, Some, slice_get, slice_set}
use Rattle.std.specs.List.{fold}
use Rattle.std.proofs.Common.{sym, ◌∙◌, ap, arith, cond, get_or, take}
use Rattle.std.proofs.lemmas.List.{map-id, take_all}
use Rattle.std.proofs.lemmas.List.Sums.{fold_more}
use Rattle.cp_model.specs.Rounds.{Event}
use Rattle.cp_model.proofs.Options.{same_some}
use Rattle.cp_model_program.specs.Programs.{Program}
use Rattle.cp_kernel.specs.KernelOf.{kernel_of, transcripts_of, turning}
use Rattle.cp_kernel.specs.Turns.{IsTurned, parts_of}
use Rattle.cp_kernel.specs.declared.kernel.Kernel.{Kernel}
use Rattle.cp_private.specs.States.{private_of}
use Rattle.cp_private.specs.declared.private.Private.{Private}
use Rattle.cp_model_machine.specs.KernelSteps.{Turning, kernel_steps}
use Rattle.cp_model_machine.specs.Machines.{Machine, clock, end_round, kernel_turn, private_turn, transcript_of, wake, wake_one}
use Rattle.cp_model_machine.specs.PrivateStates.{PrivateState}
use Rattle.cp_model_machine.specs.Replays.{AreWithin, event, process_of}
use Rattle.cp_model_machine.specs.Steps.{private_steps}
use Rattle.cp_program.specs.View as view
use Rattle.cp_rounds_handoff.specs.Inputs.{input_at, input_of}
use Rattle.cp_rounds_handoff.specs.Numbers.{AreNumbered}
use Rattle.cp_rounds_handoff.specs.Turned.{round_time_of, woken}
use Rattle.cp_rounds_handoff.specs.declared.round_time.RoundTime.{RoundTime}
use Rattle.cp_rounds_handoff.specs.declared.config.MachineConfig.{MachineConfig}
use Rattle.cp_rounds_handoff.proofs.Lists.{each_more, got_at, got_below}
use Rattle.cp_rounds.specs.Ends.{RoundEnds}
use Rattle.cp_rounds.specs.MachineOf.{machine_with}
use Rattle.cp_rounds.specs.Replayed.{AreWoken, EachWoken, Leads, StepsInto, TurnsInto}
use Rattle.cp_rounds.specs.Runs.{AreSame}
use Rattle.cp_rounds.proofs.Made.{part_at, same_machine}
use Rattle.cp_rounds.proofs.Rooms.{moved_stages, numbered_set, same_stages}
use Rattle.cp_model_machine.proofs.AheadTurns.{set_length}
use Rattle.cp_rounds.proofs.Rounds.{kernel_turn_is, private_turn_is}

-- ---- Waking

pub none_woken : (wakes : Bool) (xs ys : List Private) → ys ≡ [] → EachWoken wakes xs ys
none_woken wakes xs ys none i y e =
    let below = got_below ys i y e in
    let count : length ys ≡ 0 = ap length none in
    absurd (Prim.omega (arith, below, count))

-- One private state more is woken.
pub one_woken : (wakes : Bool) (xs ys : List Private) (x y : Private) → slice_get xs (length ys) ≡ Some x
    → ((input : List ℕ) → private_of y input ≡ woken wakes (private_of x input))
    → EachWoken wakes xs ys → EachWoken wakes xs (ys ++ y ∷ [])
one_woken wakes xs ys x y here is was =
    each_more (λ (i : ℕ) (z : Private). (x : Private) → slice_get xs i ≡ Some x → (input : List ℕ) → private_of z input ≡ woken wakes (private_of x input))
    ys y was
    (λ (w : Private) (there : slice_get xs (length ys) ≡ Some w) (input : List ℕ).
    is input ∙ ap (λ (v : Private). woken wakes (private_of v input)) (same_some x w (sym here ∙ there)))

woken_parts : (wakes : Bool) (inputs : ℕ → List ℕ) (p : ℕ) (xs ys : List Private) → length ys ≡ length xs → EachWoken wakes xs ys
    → parts_of inputs p ys ≡ map (woken wakes) (parts_of inputs p xs)
woken_parts wakes inputs p [] [] n each = refl
woken_parts wakes inputs p [] (y ∷ ys) n each = absurd (Prim.omega (arith, n))
woken_parts wakes inputs p (x ∷ xs) [] n each = absurd (Prim.omega (arith, n))
woken_parts wakes inputs p (x ∷ xs) (y ∷ ys) n each =
    let first = each 0 y refl x refl (inputs p) in
    let rest = woken_parts wakes inputs (suc p) xs ys (Prim.omega (arith, n)) (λ i z e w f. each (suc i) z e w f) in
    λ i. first i ∷ rest i

woken_number : (wakes : Bool) (o : PrivateState) → (woken wakes o).number ≡ o.number
woken_number true o = refl
woken_number false o = refl

woken_numbers : (wakes : Bool) (xs ys : List Private) → AreWoken wakes xs ys → AreNumbered xs → AreNumbered ys
woken_numbers wakes xs ys all numbers i y e =
    let below = got_below ys i y e in
    let count = all.count in
    let x = got_at xs i (Prim.omega (arith, below, count)) in
    ap (λ (o : PrivateState). o.number) (all.each i y e x.0 x.1 []) ∙ (woken_number wakes (private_of x.0 []) ∙ numbers i x.0 x.1)

-- Copies that aren't woken differ at most in their room.
pub copies_same : (xs ys : List Private) (k k' : Kernel) → AreWoken false xs ys → kernel_of k' ≡ kernel_of k → transcripts_of k' ≡ transcripts_of k
    → AreSame xs k ys k'
copies_same xs ys k k' all kernel transcripts = record {
  parts = λ inputs. woken_parts false inputs 1 xs ys all.count all.each ∙ map-id (parts_of inputs 1 xs);
  kernel = kernel;
  transcripts = transcripts;
  numbers = woken_numbers false xs ys all;
  count = all.count;
}

wake_is : (wakes : Bool) (m : Machine) → cond wakes (record m { parts = map wake_one m.parts }) m ≡ record m { parts = map (woken wakes) m.parts }
wake_is true m = refl
wake_is false m = λ i. record m { parts = sym (map-id m.parts) i }

-- ---- Steps after one another

module _ (g : MachineConfig) (w : RoundTime) where
  pub none_lead : (xs : List Private) (k : Kernel) → Leads g w (λ m. m) xs xs k k
  none_lead xs k = record { made = λ rounds e. refl; numbers = λ h. h; count = refl; stages = refl }

  pub leads_then : (f h : Machine → Machine) (xs ys zs : List Private) (k k1 k2 : Kernel) → Leads g w f xs ys k k1 → Leads g w h ys zs k1 k2
      → Leads g w (λ m. h (f m)) xs zs k k2
  leads_then f h xs ys zs k k1 k2 first second = record {
    made = λ rounds e. second.made rounds e ∙ ap h (first.made rounds e);
    numbers = λ n. second.numbers (first.numbers n);
    count = second.count ∙ first.count;
    stages = second.stages ∙ first.stages;
  }

  pub leads_as : (f h : Machine → Machine) (xs ys : List Private) (k k1 : Kernel) → ((m : Machine) → f m ≡ h m) → Leads g w f xs ys k k1
      → Leads g w h xs ys k k1
  leads_as f h xs ys k k1 same was = record {
    made = λ rounds e. was.made rounds e ∙ same (machine_with g rounds xs k);
    numbers = was.numbers;
    count = was.count;
    stages = was.stages;
  }

  -- A round begins on a copy.
  pub start_leads : (xs ys : List Private) (k k' : Kernel) → AreWoken w.wakes xs ys → kernel_of k' ≡ kernel_of k → transcripts_of k' ≡ transcripts_of k
      → Leads g w wake xs ys k k'
  start_leads xs ys k k' all kernel transcripts = record {
    made = λ rounds e.
        let m : Machine = machine_with g rounds xs k in
        let time : nat_eq (suc rounds % g.tick.rounds) 0 ≡ w.wakes = ap (λ (v : RoundTime). v.wakes) (sym e) in
        same_machine (machine_with g rounds ys k') (record m { parts = map (woken w.wakes) m.parts }) refl refl kernel
        (woken_parts w.wakes (input_of g.inputs.items) 1 xs ys all.count all.each) transcripts refl
        ∙ (sym (wake_is w.wakes m) ∙ ap (λ (b : Bool). cond b (record m { parts = map wake_one m.parts }) m) (sym time));
    numbers = woken_numbers w.wakes xs ys all;
    count = all.count;
    stages = same_stages k k' kernel;
  }

-- ---- One private state changed

parts_set : (inputs : ℕ → List ℕ) (p i : ℕ) (xs : List Private) (z : Private)
    → parts_of inputs p (slice_set xs i z) ≡ slice_set (parts_of inputs p xs) i (private_of z (inputs (p + i)))
parts_set inputs p i [] z = refl
parts_set inputs p zero (x ∷ xs) z =
    let at : p ≡ p + 0 = Prim.omega arith in
    ap (λ (q : ℕ). private_of z (inputs q) ∷ parts_of inputs (suc p) xs) at
parts_set inputs p (suc i) (x ∷ xs) z =
    let at : suc p + i ≡ p + suc i = Prim.omega arith in
    ap (λ (l : List PrivateState). private_of x (inputs p) ∷ l)
    (parts_set inputs (suc p) i xs z ∙ ap (λ (q : ℕ). slice_set (parts_of inputs (suc p) xs) i (private_of z (inputs q))) at)

part_set : (g : MachineConfig) (i : ℕ) (xs : List Private) (z : Private)
    → parts_of (input_of g.inputs.items) 1 (slice_set xs i z)
    ≡ slice_set (parts_of (input_of g.inputs.items) 1 xs) i (private_of z (input_at g.inputs.items i))
part_set g i xs z =
    let at : (1 + i) - 1 ≡ i = Prim.omega arith in
    parts_set (input_of g.inputs.items) 1 i xs z
    ∙ ap (λ (j : ℕ). slice_set (parts_of (input_of g.inputs.items) 1 xs) i (private_of z (input_at g.inputs.items j))) at

-- ---- Events

module _ (g : MachineConfig) (w : RoundTime) (p : ℕ) (xs : List Private) (k : Kernel) (x y : Private) (here : slice_get xs (p - 1) ≡ Some x) where
  pub step_leads : StepsInto (view.program g.program) w.clock x y (input_at g.inputs.items (p - 1))
      → Leads g w (λ m. private_turn 1 m p) xs (slice_set xs (p - 1) y) k k
  step_leads steps = record {
    made = λ rounds e.
        let m : Machine = machine_with g rounds xs k in
        let o : PrivateState = private_of x (input_at g.inputs.items (p - 1)) in
        let time : w.clock ≡ clock m = ap (λ (v : RoundTime). v.clock) e in
        let next = private_turn_is 1 m p o (part_at g.inputs.items (p - 1) xs x here) in
        let stepped : ℕ → PrivateState = λ c. private_steps (view.program g.program) c 1 o in
        same_machine (machine_with g rounds (slice_set xs (p - 1) y) k) (record m { parts = slice_set m.parts (p - 1) (stepped (clock m)) }) refl refl refl
        (part_set g (p - 1) xs y ∙ ap (slice_set m.parts (p - 1)) (steps.own ∙ ap stepped time)) refl refl
        ∙ sym next;
    numbers = numbered_set xs (p - 1) x y here steps.number;
    count = set_length xs (p - 1) y;
    stages = refl;
  }

  pub turn_leads : (t : ℕ) (k' : Kernel) → TurnsInto (view.program g.program) w.clock t p k k' x y (input_at g.inputs.items (p - 1))
      → Leads g w (λ m. kernel_turn t m p) xs (slice_set xs (p - 1) y) k k'
  turn_leads t k' turned = record {
    made = λ rounds e.
        let m : Machine = machine_with g rounds xs k in
        let o : PrivateState = private_of x (input_at g.inputs.items (p - 1)) in
        let time : w.clock ≡ clock m = ap (λ (v : RoundTime). v.clock) e in
        let T : ℕ → Turning = λ c. kernel_steps (view.program g.program) c t (record { kernel = kernel_of k; own = o }) in
        let next = kernel_turn_is t m p o (part_at g.inputs.items (p - 1) xs x here) in
        let own : private_of y (input_at g.inputs.items (p - 1)) ≡ record (T (clock m)).own { output = [] } =
        turned.own ∙ ap (λ (c : ℕ). record (T c).own { output = [] }) time in
        same_machine (machine_with g rounds (slice_set xs (p - 1) y) k')
        (record m {
          kernel = (T (clock m)).kernel;
          parts = slice_set m.parts (p - 1) (record (T (clock m)).own { output = [] });
          transcripts = slice_set m.transcripts (p - 1) (transcript_of m.transcripts p ++ (T (clock m)).own.output);
        })
        refl refl (turned.kernel ∙ ap (λ (c : ℕ). (T c).kernel) time)
        (part_set g (p - 1) xs y ∙ ap (slice_set m.parts (p - 1)) own)
        (turned.transcripts ∙ ap (λ (c : ℕ). slice_set (transcripts_of k) (p - 1) (transcript_of (transcripts_of k) p ++ (T c).own.output)) time)
        refl
        ∙ sym next;
    numbers = numbered_set xs (p - 1) x y here turned.number;
    count = set_length xs (p - 1) y;
    stages = turned.stages;
  }

-- A kernel turn after more room was reserved.
pub turn_with_room : (program : Program) (c t p : ℕ) (k k1 after : Kernel) (x x1 y : Private) (input : List ℕ) → kernel_of k1 ≡ kernel_of k
    → transcripts_of k1 ≡ transcripts_of k → private_of x1 input ≡ private_of x input → x1.number ≡ p → y.number ≡ x.number
    → IsTurned program c t k1 after x1 y input → TurnsInto program c t p k after x y input
turn_with_room program c t p k k1 after x x1 y input kernel transcripts own number same_number turned =
    let same : kernel_steps program c t (turning k1 x1 input) ≡ kernel_steps program c t (turning k x input) =
    λ i. kernel_steps program c t (record { kernel = kernel i; own = own i }) in
    record {
      kernel = turned.kernel ∙ ap (λ (u : Turning). u.kernel) same;
      own = turned.own ∙ ap (λ (u : Turning). record u.own { output = [] }) same;
      transcripts = turned.moves.transcripts
          ∙ (λ i. slice_set (transcripts i) (number i - 1) (transcript_of (transcripts i) (number i) ++ (same i).own.output));
      number = same_number;
      stages = moved_stages k1 after x1.number _ turned.moves ∙ same_stages k k1 kernel;
    }

-- ---- All events

pub process_within : (n : ℕ) (events : List Event) (i : ℕ) (d : Event) → AreWithin n events → i < length events
    → (1 ≤ process_of (get_or events i d)) × (process_of (get_or events i d) ≤ n)
process_within n [] i d all inside = absurd (Prim.omega arith)
process_within n (e ∷ events) zero d all inside = (all.0, all.1)
process_within n (e ∷ events) (suc i) d all inside = process_within n events i d all.2 (Prim.omega (arith, inside))

pub one_more_leads : (g : MachineConfig) (w : RoundTime) (t : ℕ) (events : List Event) (i : ℕ) (d : Event) (xs ys zs : List Private) (k k1 k2 : Kernel)
    → i < length events
    → Leads g w (λ m. fold (event t) m (take i events)) xs ys k k1
    → Leads g w (λ m. event t m (get_or events i d)) ys zs k1 k2
    → Leads g w (λ m. fold (event t) m (take (i + 1) events)) xs zs k k2
one_more_leads g w t events i d xs ys zs k k1 k2 inside before this =
    leads_as g w (λ m. event t (fold (event t) m (take i events)) (get_or events i d)) (λ m. fold (event t) m (take (i + 1) events)) xs zs k k2
    (λ m. sym (fold_more (event t) m events i d inside))
    (leads_then g w (λ m. fold (event t) m (take i events)) (λ m. event t m (get_or events i d)) xs ys zs k k1 k2 before this)

pub all_lead : (g : MachineConfig) (w : RoundTime) (t : ℕ) (events : List Event) (i : ℕ) (xs ys : List Private) (k k' : Kernel) → length events ≤ i
    → Leads g w (λ m. fold (event t) m (take i events)) xs ys k k' → Leads g w (λ m. fold (event t) m events) xs ys k k'
all_lead g w t events i xs ys k k' past was =
    leads_as g w (λ m. fold (event t) m (take i events)) (λ m. fold (event t) m events) xs ys k k' (λ m. ap (fold (event t) m) (take_all i events past)) was

-- ---- The end

pub replay_ends : (g : MachineConfig) (w : RoundTime) (rounds : ℕ) (next : Machine → Machine) (xs ys zs : List Private) (k k1 k2 : Kernel)
    → w ≡ round_time_of g.tick.rounds rounds → Leads g w next xs ys k k1 → RoundEnds g ys k1 zs k2
    → machine_with g (rounds + 1) zs k2 ≡ end_round (next (machine_with g rounds xs k))
replay_ends g w rounds next xs ys zs k k1 k2 time led ends =
    same_machine (machine_with g (rounds + 1) zs k2) (end_round (machine_with g rounds ys k1)) refl refl ends.kernel (ends.parts (input_of g.inputs.items))
    ends.transcripts (Prim.omega arith)
    ∙ ap end_round (led.made rounds time)
