-- What is known of moves, while parts are added.
use Rattle.std.specs.Prelude.{All, List, None, Option, Some, [], drop, length, refl, slice_get, slice_index_or, slice_set, suc, take, zero, ℕ, ◌*◌, ◌+◌, ◌-◌, ◌++◌, ◌<◌, ◌∷◌, ◌≡◌, ◌≤◌}
use Rattle.std.proofs.Common.{ap, arith, subst, sym, ◌∙◌, ◌⊎◌, ⊎_elim}
use Rattle.std.proofs.lemmas.List.Elements.{All-drop, All-get_or, All-take}
use Rattle.std.proofs.lemmas.Option.{get_or_from_slice_get, slice_get_within}
use Rattle.cp_model.proofs.Options.{same_some}
use Rattle.cp_model_program.specs.Programs.{Program}
use Rattle.cp_model_machine.specs.KernelSteps as plain
use Rattle.cp_model_machine.specs.PrivateStates.{PrivateState}
use Rattle.cp_law_calls.specs.Ways.{Late}
use Rattle.cp_law_cores.proofs.Parts.{none_is}
use Rattle.cp_law_search.specs.Calls.{way_on}
use Rattle.cp_private.specs.States.{private_of}
use Rattle.cp_private.specs.declared.private.Private.{Private}
use Rattle.cp_kernel.specs.KernelOf.{kernel_of}
use Rattle.cp_kernel.specs.declared.kernel.Kernel.{Kernel}
use Rattle.cp_search_states.specs.Alone.{IsMove}
use Rattle.cp_search_states.specs.declared.alone.Lone.{Lone}
use Rattle.cp_search_states.proofs.Items.{got_snoc}
use Rattle.cp_search_store.specs.Moves.{AreTrue, HasMove, IsOutcome, IsTrue, LeadsTo}
use Rattle.cp_search_store.specs.Stored.{Extends, IsKernelAt, IsPartAt, kernel_at, part_at, parts_at, row}
use Rattle.cp_search_store.specs.States.{HasMoreParts, IsBelow, IsLone, IsSound}
use Rattle.cp_search_store.specs.declared.moves.Key.{Key}
use Rattle.cp_search_store.specs.declared.moves.Move.{Move}
use Rattle.cp_search_store.specs.declared.moves.Outcome.{Outcome}
use Rattle.cp_search_store.specs.declared.moves.Outcome.TheVariants.{Leads, NotLate, Wide}
use Rattle.cp_search_store.specs.declared.store.Store.{Store}
use Rattle.cp_search_store.proofs.Growing.{more_twice}
use Rattle.cp_search_store.proofs.Numbered.{extended_length, kernel_kept, part_kept}

-- ---- More parts

module _ (program : Program) (ks ls : List Kernel) (xs ys : List Private) (kernels : Extends ks ls) (parts : Extends xs ys) where
  outcome_more : (input : List ℕ) (k : plain.Kernel) (x : PrivateState) (o : Outcome) → IsOutcome program ks xs input k x o → IsOutcome program ls ys input k x o
  outcome_more input k x NotLate h = h
  outcome_more input k x Wide h = h
  outcome_more input k x (Leads kernel part) h =
      let longer = extended_length ks ls kernels in
      let more = extended_length xs ys parts in
      let low = h.kernel_below in
      let few = h.part_below in
      record {
        kernel_below = omega (arith, longer, low);
        part_below = omega (arith, more, few);
        late = h.late;
        move = subst (λ z. IsMove program k x z (part_at ys part input)) (sym (kernel_kept ks ls kernel kernels low))
            (subst (λ z. IsMove program k x (kernel_at ks kernel) z) (sym (part_kept xs ys part input parts few)) h.move);
      }

  true_more : (inputs : ℕ → List ℕ) (key : Key) (o : Outcome) → IsTrue program inputs ks xs key o → IsTrue program inputs ls ys key o
  true_more inputs key o h =
      let longer = extended_length ks ls kernels in
      let more = extended_length xs ys parts in
      let low = h.kernel_below in
      let few = h.part_below in
      let input = inputs key.process in
      record {
        kernel_below = omega (arith, longer, low);
        part_below = omega (arith, more, few);
        is = subst (λ z. IsOutcome program ls ys input z (part_at ys key.part input) o) (sym (kernel_kept ks ls key.kernel kernels low))
            (subst (λ z. IsOutcome program ls ys input (kernel_at ks key.kernel) z o) (sym (part_kept xs ys key.part input parts few))
            (outcome_more input (kernel_at ks key.kernel) (part_at xs key.part input) o h.is));
      }

  pub all_true_more : (inputs : ℕ → List ℕ) (ms : List Move) → AreTrue program inputs ks xs ms → AreTrue program inputs ls ys ms
  all_true_more inputs ms h = record { each = λ i m e. true_more inputs m.key m.outcome (h.each i m e) }

-- ---- Moves that are remembered

pub found_true : (program : Program) (inputs : ℕ → List ℕ) (ks : List Kernel) (xs : List Private) (ms : List Move) (key : Key) (o : Outcome)
    → AreTrue program inputs ks xs ms → HasMove ms key o → IsTrue program inputs ks xs key o
found_true program inputs ks xs ms key o h has = h.each has.index (record { key = key; outcome = o }) has.there

pub none_true : (program : Program) (inputs : ℕ → List ℕ) (ks : List Kernel) (xs : List Private) (ms : List Move) → ms ≡ [] → AreTrue program inputs ks xs ms
none_true program inputs ks xs ms none = subst (AreTrue program inputs ks xs) (sym none) (record { each = λ i m e. absurd (none_is m e) })

pub remembered_true : (program : Program) (inputs : ℕ → List ℕ) (ks : List Kernel) (xs : List Private) (ms new : List Move) (key : Key) (o : Outcome)
    → new ≡ ms ++ record { key = key; outcome = o } ∷ [] → AreTrue program inputs ks xs ms → IsTrue program inputs ks xs key o → AreTrue program inputs ks xs new
remembered_true program inputs ks xs ms new key o is was one = subst (AreTrue program inputs ks xs) (sym is) (record {
  each = λ i m e.
      ⊎_elim (λ (old : slice_get ms i ≡ Some m). was.each i m old)
      (λ (last : (i ≡ length ms) × (record { key = key; outcome = o } ≡ m)). subst (λ (z : Move). IsTrue program inputs ks xs z.key z.outcome) last.1 one)
      (got_snoc ms (record { key = key; outcome = o }) i m e);
})

-- ---- Parts by the numbers of processes

module _ (inputs : ℕ → List ℕ) (xs : List Private) where
  no_more : (n : ℕ) → n ≡ n + 0
  no_more n = omega arith

  one_more : (n m : ℕ) → suc n + m ≡ n + suc m
  one_more n m = omega arith

  pub parts_at_got : (q : ℕ) (ns : List ℕ) (i n : ℕ) → slice_get ns i ≡ Some n → slice_get (parts_at inputs xs q ns) i ≡ Some (part_at xs n (inputs (q + i)))
  parts_at_got q [] i n e = absurd (none_is n e)
  parts_at_got q (m ∷ ns) zero n e =
      ap (λ z. Some (part_at xs z (inputs q))) (same_some m n e) ∙ ap (λ z. Some (part_at xs n (inputs z))) (no_more q)
  parts_at_got q (m ∷ ns) (suc i) n e = parts_at_got (suc q) ns i n e ∙ ap (λ z. Some (part_at xs n (inputs z))) (one_more q i)

  pub parts_at_set : (q : ℕ) (ns : List ℕ) (i n : ℕ) → parts_at inputs xs q (slice_set ns i n) ≡ slice_set (parts_at inputs xs q ns) i (part_at xs n (inputs (q + i)))
  parts_at_set q [] i n = refl
  parts_at_set q (m ∷ ns) zero n = ap (λ z. part_at xs n (inputs z) ∷ parts_at inputs xs (suc q) ns) (no_more q)
  parts_at_set q (m ∷ ns) (suc i) n =
      ap (λ l. part_at xs m (inputs q) ∷ l)
      (parts_at_set (suc q) ns i n ∙ ap (λ z. slice_set (parts_at inputs xs (suc q) ns) i (part_at xs n (inputs z))) (one_more q i))

-- ---- Numbers of a state

module _ (s : Store) (sound : IsSound s) where
  pub kernel_number_below : (i k : ℕ) → slice_get s.kernel_numbers.items i ≡ Some k → k < length s.kernels.kernels.items
  kernel_number_below i k e =
      subst (IsBelow (length s.kernels.kernels.items)) (get_or_from_slice_get s.kernel_numbers.items i k 0 e)
      (All-get_or (IsBelow (length s.kernels.kernels.items)) s.kernel_numbers.items i 0 (slice_get_within s.kernel_numbers.items i k e) sound.kernels)

  pub row_below : (i : ℕ) → All (IsBelow (length s.parts.privates.items)) (row s.width s.part_numbers.items i)
  row_below i =
      let n = length s.parts.privates.items in
      All-take (IsBelow n) s.width (drop (i * s.width) s.part_numbers.items) (All-drop (IsBelow n) (i * s.width) s.part_numbers.items sound.parts)

  pub part_number_below : (i j n : ℕ) → slice_get (row s.width s.part_numbers.items i) j ≡ Some n → n < length s.parts.privates.items
  part_number_below i j n e =
      let ns = row s.width s.part_numbers.items i in
      subst (IsBelow (length s.parts.privates.items)) (get_or_from_slice_get ns j n 0 e)
      (All-get_or (IsBelow (length s.parts.privates.items)) ns j 0 (slice_get_within ns j n e) (row_below i))

-- ---- Moves that are made

module _ (program : Program) (inputs : ℕ → List ℕ) (old : Store) (key : Key) where
  pub wide_true : (s : Store) → key.kernel < length s.kernels.kernels.items → key.part < length s.parts.privates.items
      → IsTrue program inputs s.kernels.kernels.items s.parts.privates.items key Wide
  wide_true s kernel part = record { kernel_below = kernel; part_below = part; is = tt }

  pub early_true : (a : Lone) → IsLone old key.kernel key.part a
      → (way_on program (kernel_of a.kernel) (Some (private_of a.private (inputs key.process))) ≡ Late → ⊥)
      → IsTrue program inputs old.kernels.kernels.items old.parts.privates.items key NotLate
  early_true a is early = record {
    kernel_below = is.kernel_below;
    part_below = is.part_below;
    is = λ late. early ((λ j. way_on program (sym is.kernel_is j) (Some (sym (is.part_is (inputs key.process)) j))) ∙ late);
  }

  pub leads_true : (mid new : Store) (a b : Lone) (kernel part : ℕ) → IsLone old key.kernel key.part a
      → way_on program (kernel_of a.kernel) (Some (private_of a.private (inputs key.process))) ≡ Late
      → IsMove program (kernel_of a.kernel) (private_of a.private (inputs key.process)) (kernel_of b.kernel) (private_of b.private (inputs key.process))
      → HasMoreParts old mid → IsKernelAt mid.kernels.kernels.items kernel b.kernel → HasMoreParts mid new → IsPartAt new.parts.privates.items part b.private
      → IsTrue program inputs new.kernels.kernels.items new.parts.privates.items key (Leads kernel part)
  leads_true mid new a b kernel part is late move one kernel_is two part_is =
      let ks = new.kernels.kernels.items in
      let xs = new.parts.privates.items in
      let input = inputs key.process in
      let all = more_twice old mid new one two in
      let k : kernel_at ks key.kernel ≡ kernel_of a.kernel = kernel_kept old.kernels.kernels.items ks key.kernel all.kernels is.kernel_below ∙ is.kernel_is in
      let x : part_at xs key.part input ≡ private_of a.private input = part_kept old.parts.privates.items xs key.part input all.parts is.part_below ∙ is.part_is input in
      let k' : kernel_at ks kernel ≡ kernel_of b.kernel = kernel_kept mid.kernels.kernels.items ks kernel two.kernels kernel_is.within ∙ kernel_is.same in
      let longer = extended_length old.kernels.kernels.items ks all.kernels in
      let more = extended_length old.parts.privates.items xs all.parts in
      let longer_mid = extended_length mid.kernels.kernels.items ks two.kernels in
      let low = is.kernel_below in
      let few = is.part_below in
      let low' = kernel_is.within in
      let at : IsMove program (kernel_at ks key.kernel) (part_at xs key.part input) (kernel_at ks kernel) (part_at xs part input) =
      subst (λ z. IsMove program z (part_at xs key.part input) (kernel_at ks kernel) (part_at xs part input)) (sym k)
      (subst (λ z. IsMove program (kernel_of a.kernel) z (kernel_at ks kernel) (part_at xs part input)) (sym x)
      (subst (λ z. IsMove program (kernel_of a.kernel) (private_of a.private input) z (part_at xs part input)) (sym k')
      (subst (λ z. IsMove program (kernel_of a.kernel) (private_of a.private input) (kernel_of b.kernel) z) (sym (part_is.same input)) move))) in
      record {
        kernel_below = omega (arith, longer, low);
        part_below = omega (arith, more, few);
        is = record {
          kernel_below = omega (arith, longer_mid, low');
          part_below = part_is.within;
          late = (λ j. way_on program (k j) (Some (x j))) ∙ late;
          move = at;
        };
      }
