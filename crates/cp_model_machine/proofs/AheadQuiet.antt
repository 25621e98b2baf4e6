-- A quiet process has no kernel turn.
use Rattle.std.specs.Prelude.{◌≡◌, refl, ℕ, zero, suc, ◌-◌, Bool, true, false, if◌then◌else◌, not, List, [], ◌∷◌, ◌++◌, length, Option, Some, None, slice_get, slice_set}
use Rattle.std.proofs.Common.{sym, ◌∙◌, ap}
use Rattle.std.proofs.lemmas.Bool.{true≢false}
use Rattle.cp_model_program.specs.Programs.{Operation, Program}
use Rattle.cp_model_machine.specs.KernelSteps.{Turning, is_begun, is_due, join_words, kernel_steps, needs_kernel, outside, part_words, stage_of}
use Rattle.cp_model_machine.specs.Machines.{Machine, after_kernel_turn, clock, kernel_turn, transcript_of}
use Rattle.cp_model_machine.specs.PrivateStates.{PrivateState, is_running}
use Rattle.cp_model_machine.specs.Steps.{is_held, is_kernel_operation, is_private, operation_of, step_with}
use Rattle.cp_model_machine.specs.Ahead.{NeedsNoKernel}

pub needs_none : (o : PrivateState) (x : Option Operation) → is_private o x ≡ true → needs_kernel o x ≡ false
needs_none o None h = absurd (true≢false (sym h))
needs_none o (Some x) h = by (is_held o.gate) (is_kernel_operation x) h
  where
    by : (a b : Bool) → (if a then false else not b) ≡ true → (if a then true else b) ≡ false
    by true b h = absurd (true≢false (sym h))
    by false true h = absurd (true≢false (sym h))
    by false false h = refl

not_due : (program : Program) (x : Turning) → NeedsNoKernel program x.own → is_due program x ≡ false
not_due program x quiet = by (is_running x.own.activity) refl
  where
    both : (b : Bool) → (if b then false else false) ≡ false
    both true = refl
    both false = refl

    by : (a : Bool) → is_running x.own.activity ≡ a
        → (if a then (if is_begun (stage_of x.kernel.stages x.own.number) then needs_kernel x.own (operation_of program x.own) else false) else false) ≡ false
    by true runs =
        ap (λ b. if is_begun (stage_of x.kernel.stages x.own.number) then b else false) (quiet.next runs) ∙ both (is_begun (stage_of x.kernel.stages x.own.number))
    by false stops = refl

pub no_steps : (program : Program) (at n : ℕ) (x : Turning) → NeedsNoKernel program x.own → kernel_steps program at n x ≡ x
no_steps program at zero x quiet = refl
no_steps program at (suc n) x quiet =
    ap (λ b. kernel_steps program at n (if b then part_words (length x.own.words) x (step_with program (outside at x) (join_words x)) else x))
    (not_due program x quiet) ∙ no_steps program at n x quiet

module _ {X : Type 0} where
  set_got : (xs : List X) (i : ℕ) (x : X) → slice_get xs i ≡ Some x → slice_set xs i x ≡ xs
  set_got [] i x is = refl
  set_got (y ∷ xs) zero x is = ap (λ o. elim o [ None ↦ y ∷ xs | Some z ↦ z ∷ xs ]) (sym is)
  set_got (y ∷ xs) (suc i) x is = ap (λ l. y ∷ l) (set_got xs i x is)

  nothing_more : (xs : List X) → xs ++ [] ≡ xs
  nothing_more [] = refl
  nothing_more (x ∷ xs) = ap (λ l. x ∷ l) (nothing_more xs)

nothing_written : (ts : List (List ℕ)) (p : ℕ) → slice_set ts (p - 1) (transcript_of ts p ++ []) ≡ ts
nothing_written ts p = ap (slice_set ts (p - 1)) (nothing_more (transcript_of ts p)) ∙ same ts (p - 1)
  where
    same : (ts : List (List ℕ)) (i : ℕ) → slice_set ts i (elim (slice_get ts i) [ None ↦ [] | Some bytes ↦ bytes ]) ≡ ts
    same [] i = refl
    same (x ∷ ts) zero = refl
    same (x ∷ ts) (suc i) = ap (λ l. x ∷ l) (same ts i)

pub quiet_turn : (t : ℕ) (m : Machine) (p : ℕ) (o : PrivateState) → slice_get m.parts (p - 1) ≡ Some o → NeedsNoKernel m.program o
    → kernel_turn t m p ≡ m
quiet_turn t m p o is quiet =
    let moved : kernel_turn t m p ≡ after_kernel_turn m p (kernel_steps m.program (clock m) t (record { kernel = m.kernel; own = o })) =
    ap (λ (r : Option PrivateState).
    elim r as (λ x. Machine) [
      | None ↦ m
      | Some q ↦ after_kernel_turn m p (kernel_steps m.program (clock m) t (record { kernel = m.kernel; own = q }))
    ]) is in
    let emptied : record o { output = [] } ≡ o = λ i. record o { output = sym quiet.silent i } in
    moved
    ∙ (ap (after_kernel_turn m p) (no_steps m.program (clock m) t (record { kernel = m.kernel; own = o }) quiet)
    ∙ (ap (λ (l : List ℕ). record m {
      parts = slice_set m.parts (p - 1) (record o { output = [] });
      transcripts = slice_set m.transcripts (p - 1) (transcript_of m.transcripts p ++ l);
    }) quiet.silent
    ∙ (ap (λ (x : PrivateState). record m {
      parts = slice_set m.parts (p - 1) x;
      transcripts = slice_set m.transcripts (p - 1) (transcript_of m.transcripts p ++ []);
    }) emptied
    ∙ (ap (λ (l : List PrivateState). record m { parts = l; transcripts = slice_set m.transcripts (p - 1) (transcript_of m.transcripts p ++ []) })
    (set_got m.parts (p - 1) o is)
    ∙ ap (λ (l : List (List ℕ)). record m { transcripts = l }) (nothing_written m.transcripts p)))))
