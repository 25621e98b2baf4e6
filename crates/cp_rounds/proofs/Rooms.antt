-- Room for fewer askers, and the numbers of private states that change one by one.
use Rattle.std.specs.Prelude.{◌≡◌, ◌≢◌, ◌≤◌, ◌-◌, refl, ℕ, zero, suc, List, [], ◌∷◌, ◌++◌, Some, length, map, slice_get, slice_set}
use Rattle.std.proofs.Common.{sym, ap, ◌∙◌, arith, ⊎_elim}
use Rattle.std.proofs.lemmas.List.{length-map}
use Rattle.cp_model.proofs.Options.{same_some}
use Rattle.cp_kernel.specs.KernelOf.{Bytes, HasRoomForAskers, kernel_of, transcripts_of}
use Rattle.cp_kernel.specs.Turns.{Moves, parts_of}
use Rattle.cp_kernel.specs.declared.kernel.Kernel.{Kernel}
use Rattle.cp_private.specs.States as states
use Rattle.cp_private.specs.States.{private_of}
use Rattle.cp_private.specs.declared.private.Private.{Private}
use Rattle.cp_model_machine.specs.KernelSteps as plain
use Rattle.cp_model_machine.specs.Machines.{next_stage}
use Rattle.cp_model_machine.specs.PrivateStates.{PrivateState}
use Rattle.cp_rounds_handoff.specs.Numbers.{AreNumbered}
use Rattle.cp_rounds_handoff.proofs.Lists.{got_at, got_below, got_set, got_snoc, mapped_get}
use Rattle.cp_rounds.specs.Runs.{AreSame, IsSame}
use Rattle.cp_model_machine.proofs.AheadTurns.{set_length}

pub fewer_askers : (k : Kernel) (n m : ℕ) → m ≤ n → HasRoomForAskers k n → HasRoomForAskers k m
fewer_askers k n m le h = λ i d below. let room = h i d below in Prim.omega (arith, room, le)

pub numbered_set : (xs : List Private) (i : ℕ) (x y : Private) → slice_get xs i ≡ Some x → y.number ≡ x.number → AreNumbered xs → AreNumbered (slice_set xs i y)
numbered_set xs i x y here same all j z e =
    ⊎_elim
    (λ (h : (j ≡ i) × (y ≡ z)). ap (λ (w : Private). w.number) (sym h.1) ∙ (same ∙ (all i x here ∙ ap suc (sym h.0))))
    (λ (h : (j ≢ i) × (slice_get xs j ≡ Some z)). all j z h.1)
    (got_set xs i j y z e)

pub numbered_more : (xs : List Private) (y : Private) → y.number ≡ suc (length xs) → AreNumbered xs → AreNumbered (xs ++ y ∷ [])
numbered_more xs y is all j z e =
    ⊎_elim
    (λ (h : slice_get xs j ≡ Some z). all j z h)
    (λ (h : (j ≡ length xs) × (y ≡ z)). ap (λ (w : Private). w.number) (sym h.1) ∙ (is ∙ ap suc (sym h.0)))
    (got_snoc xs y j z e)

-- ---- How many processes a kernel knows

-- There are as many transcripts as stages.
pub moved_stages : (k after : Kernel) (p : ℕ) (written : List ℕ) → Moves k after p written → length after.stages.items ≡ length k.stages.items
moved_stages k after p written moves =
    let old = k.facts.1 in
    let new = after.facts.1 in
    let reported = length-map k.transcripts.items (λ (v : Bytes). v.items) in
    let reported' = length-map after.transcripts.items (λ (v : Bytes). v.items) in
    let same = ap length moves.transcripts ∙ set_length (transcripts_of k) (p - 1) _ in
    Prim.omega (arith, old, new, reported, reported', same)

pub same_stages : (k after : Kernel) → kernel_of after ≡ kernel_of k → length after.stages.items ≡ length k.stages.items
same_stages k after e =
    let reported = length-map k.stages.items states.stage in
    let reported' = length-map after.stages.items states.stage in
    let same : length (map states.stage after.stages.items) ≡ length (map states.stage k.stages.items) = ap (λ (q : plain.Kernel). length q.stages) e in
    Prim.omega (arith, reported, reported', same)

-- ---- Other room

parts_same : (inputs : ℕ → List ℕ) (p i : ℕ) (xs : List Private) (x y : Private) → slice_get xs i ≡ Some x → IsSame x y
    → parts_of inputs p (slice_set xs i y) ≡ parts_of inputs p xs
parts_same inputs p i [] x y here same = refl
parts_same inputs p zero (z ∷ xs) x y here same =
    ap (λ (o : PrivateState). o ∷ parts_of inputs (suc p) xs) (same.content (inputs p) ∙ ap (λ (w : Private). private_of w (inputs p)) (sym (same_some z x here)))
parts_same inputs p (suc i) (z ∷ xs) x y here same = ap (λ (l : List PrivateState). private_of z (inputs p) ∷ l) (parts_same inputs (suc p) i xs x y here same)

pub all_same : (xs : List Private) (k k' : Kernel) → kernel_of k' ≡ kernel_of k → k'.transcripts ≡ k.transcripts → AreSame xs k xs k'
all_same xs k k' e f = record {
  parts = λ inputs. refl;
  kernel = e;
  transcripts = ap (λ v. map (λ (w : Bytes). w.items) v.items) f;
  numbers = λ h. h;
  count = refl;
}

pub same_more : (xs : List Private) (k : Kernel) (ys : List Private) (k' : Kernel) (i : ℕ) (y z : Private) (k2 : Kernel) → slice_get ys i ≡ Some y
    → IsSame y z → kernel_of k2 ≡ kernel_of k' → transcripts_of k2 ≡ transcripts_of k' → AreSame xs k ys k' → AreSame xs k (slice_set ys i z) k2
same_more xs k ys k' i y z k2 here same e f was = record {
  parts = λ inputs. parts_same inputs 1 i ys y z here same ∙ was.parts inputs;
  kernel = e ∙ was.kernel;
  transcripts = f ∙ was.transcripts;
  numbers = λ h. numbered_set ys i y z here same.number (was.numbers h);
  count = set_length ys i z ∙ was.count;
}

-- ---- Numbers in a list

pub numbers_kept : (xs ys : List Private) → map (λ (x : Private). x.number) ys ≡ map (λ (x : Private). x.number) xs → AreNumbered xs → AreNumbered ys
numbers_kept xs ys same all i y e =
    let number : Private → ℕ = λ x. x.number in
    let count : length ys ≡ length xs = sym (length-map ys number) ∙ (ap length same ∙ length-map xs number) in
    let below = got_below ys i y e in
    let x = got_at xs i (Prim.omega (arith, below, count)) in
    same_some y.number x.0.number
    (sym (mapped_get number ys i y e) ∙ (ap (λ (l : List ℕ). slice_get l i) same ∙ mapped_get number xs i x.0 x.1))
    ∙ all i x.0 x.1

pub ended_stages : (k after : Kernel) → kernel_of after ≡ record (kernel_of k) { stages = map next_stage (kernel_of k).stages }
    → length after.stages.items ≡ length k.stages.items
ended_stages k after e =
    let reported = length-map k.stages.items states.stage in
    let reported' = length-map after.stages.items states.stage in
    let next = length-map (map states.stage k.stages.items) next_stage in
    let same : length (map states.stage after.stages.items) ≡ length (map next_stage (map states.stage k.stages.items)) = ap (λ (q : plain.Kernel). length q.stages) e in
    Prim.omega (arith, reported, reported', next, same)
