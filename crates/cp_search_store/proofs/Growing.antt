-- Stores that grow.
use Rattle.std.specs.Prelude.{All, Contains, List, Some, [], drop, length, refl, slice_get, slice_index_or, suc, take, zero, ℕ, ◌*◌, ◌+◌, ◌-◌, ◌++◌, ◌<◌, ◌∷◌, ◌≡◌, ◌≤◌}
use Rattle.std.proofs.Common.{ap, arith, subst, sym, ◌∙◌, ◌⊎◌, ⊎_elim}
use Rattle.std.proofs.Math.Nat.{mul-le-mul_right, suc-mul}
use Rattle.std.proofs.Math.Seq.{drop-append_seam}
use Rattle.std.proofs.lemmas.List.{drop-append-le, get_or_append_left, length-append, length-drop, take-append-le, take_all}
use Rattle.std.proofs.lemmas.List.Elements.{All-append, All-drop, All-from_get_or, All-get_or, All-push, All-take, All-weaker}
use Rattle.std.proofs.lemmas.Option.{get_or_from_slice_get, slice_get-get_or, slice_get_within}
use Rattle.cp_law_cores.specs.Cores.{Core}
use Rattle.cp_law_exploring.specs.Exploring.{Grows}
use Rattle.cp_private.specs.declared.private.Private.{Private}
use Rattle.cp_kernel.specs.declared.kernel.Kernel.{Kernel}
use Rattle.cp_kernel.specs.Turns.{parts_of}
use Rattle.cp_search_states.specs.Alone.{IsResting, core_from}
use Rattle.cp_search_states.specs.SearchStates.{core_of}
use Rattle.cp_search_states.specs.declared.state.SearchState.{SearchState}
use Rattle.cp_search_states.proofs.Items.{got_snoc, longer}
use Rattle.cp_search_store.specs.Stored.{AreNumbered, Extends, IsKernelAt, kernel_at, parts_at, row}
use Rattle.cp_search_store.specs.States.{AreResting, HasMoreParts, IsAdded, IsBelow, IsNumbered, IsPushed, IsRowAt, IsSound, core_at, core_in, core_numbered, cores_of, listed, state_count}
use Rattle.cp_search_store.specs.declared.store.Store.{Store}
use Rattle.cp_search_store.proofs.Numbered.{extended_length, extends_more, extends_not, got_last, kernel_kept, numbered_parts, numbered_within, parts_kept}
use Rattle.cp_search_store.proofs.Listed.{contained, listed_count, listed_grows, listed_has, listed_stays}

-- ---- Rows

rows_within : (i w c : ℕ) → i < c → i * w + w ≤ c * w
rows_within i w c below =
    let one = suc-mul i w in
    let next : suc i ≤ c = omega (arith, below) in
    let all = mul-le-mul_right w next in
    omega (arith, one, all)

pub row_kept : (w : ℕ) (ns ms : List ℕ) (i c : ℕ) → i < c → length ns ≡ c * w → row w (ns ++ ms) i ≡ row w ns i
row_kept w ns ms i c below room =
    let within = rows_within i w c below in
    let start : i * w ≤ length ns = omega (arith, within, room) in
    let long = length-drop (i * w) ns in
    ap (take w) (drop-append-le (i * w) ns ms start) ∙ take-append-le w (drop (i * w) ns) ms (omega (arith, within, room, long))

pub row_last : (w : ℕ) (ns ms : List ℕ) (c : ℕ) → length ns ≡ c * w → length ms ≡ w → row w (ns ++ ms) c ≡ ms
row_last w ns ms c room long =
    ap (λ k. take w (drop k (ns ++ ms))) (sym room) ∙ (ap (take w) (drop-append_seam ns ms) ∙ take_all w ms (omega (arith, long)))

-- ---- Cores that stay

pub core_kept : (inputs : ℕ → List ℕ) (ks ls : List Kernel) (xs ys : List Private) (w : ℕ) (kns kms pns pms : List ℕ) (i : ℕ) → Extends ks ls → Extends xs ys
    → i < length kns → length pns ≡ length kns * w → All (IsBelow (length ks)) kns → All (IsBelow (length xs)) pns
    → core_in inputs ls ys w (kns ++ kms) (pns ++ pms) i ≡ core_in inputs ks xs w kns pns i
core_kept inputs ks ls xs ys w kns kms pns pms i more parts below room kernels privates =
    let number = get_or_append_left kns kms 0 i below in
    let kernel = ap (kernel_at ls) number ∙ kernel_kept ks ls (slice_index_or kns i 0) more (All-get_or (IsBelow (length ks)) kns i 0 below kernels) in
    let numbers = row_kept w pns pms i (length kns) below room in
    let own = All-take (IsBelow (length xs)) w (drop (i * w) pns) (All-drop (IsBelow (length xs)) (i * w) pns privates) in
    let all = ap (parts_at inputs ys 1) numbers ∙ parts_kept inputs xs ys 1 (row w pns i) parts own in
    λ j. record { kernel = kernel j; parts = all j }

append_nothing : (xs : List ℕ) → xs ≡ xs ++ []
append_nothing [] = refl
append_nothing (x ∷ xs) = ap (λ l. x ∷ l) (append_nothing xs)

pub below_more : {A : Type 0} (xs ys : List A) (ns : List ℕ) → Extends xs ys → All (IsBelow (length xs)) ns → All (IsBelow (length ys)) ns
below_more xs ys ns e all =
    let longer = extended_length xs ys e in
    All-weaker (IsBelow (length xs)) (IsBelow (length ys)) (λ n below. omega (arith, longer, below)) ns all

-- Numbers of parts are those of parts that are there.
all_within : (xs : List Private) (ns : List ℕ) (ys : List Private) → AreNumbered xs ns ys → All (IsBelow (length xs)) ns
all_within xs ns ys h = All-from_get_or (IsBelow (length xs)) ns 0 (λ i below. numbered_within xs ns ys i (slice_index_or ns i 0) h (slice_get-get_or ns i 0 below))

-- ---- More parts

module _ (old new : Store) (h : HasMoreParts old new) (s : IsSound old) where
  pub more_sound : IsSound new
  more_sound = record {
    room = ap (λ (l : List ℕ). length l) h.part_numbers ∙ (s.room ∙ λ i. length (sym h.kernel_numbers i) * sym h.width i);
    kernels = subst (All (IsBelow (length new.kernels.kernels.items))) (sym h.kernel_numbers) (below_more old.kernels.kernels.items new.kernels.kernels.items old.kernel_numbers.items h.kernels s.kernels);
    parts = subst (All (IsBelow (length new.parts.privates.items))) (sym h.part_numbers) (below_more old.parts.privates.items new.parts.privates.items old.part_numbers.items h.parts s.parts);
  }

  more_kept : (inputs : ℕ → List ℕ) → (i : ℕ) → i < state_count old → core_at inputs new i ≡ core_at inputs old i
  more_kept inputs i below =
      (λ j. core_in inputs new.kernels.kernels.items new.parts.privates.items (h.width j) ((h.kernel_numbers ∙ append_nothing old.kernel_numbers.items) j)
      ((h.part_numbers ∙ append_nothing old.part_numbers.items) j) i)
      ∙ core_kept inputs old.kernels.kernels.items new.kernels.kernels.items old.parts.privates.items new.parts.privates.items old.width
      old.kernel_numbers.items [] old.part_numbers.items [] i h.kernels h.parts below s.room s.kernels s.parts

  pub more_cores : (inputs : ℕ → List ℕ) → cores_of inputs new ≡ cores_of inputs old
  more_cores inputs =
      listed_stays (core_at inputs old) (core_at inputs new) (state_count old) (state_count new) (more_kept inputs) (ap (λ (l : List ℕ). length l) h.kernel_numbers)

pub more_count : (old new : Store) → HasMoreParts old new → state_count new ≡ state_count old
more_count old new h = ap (λ (l : List ℕ). length l) h.kernel_numbers

pub more_twice : (a b c : Store) → HasMoreParts a b → HasMoreParts b c → HasMoreParts a c
more_twice a b c g h = record {
  kernels = extends_more a.kernels.kernels.items b.kernels.kernels.items c.kernels.kernels.items g.kernels h.kernels;
  parts = extends_more a.parts.privates.items b.parts.privates.items c.parts.privates.items g.parts h.parts;
  width = h.width ∙ g.width;
  kernel_numbers = h.kernel_numbers ∙ g.kernel_numbers;
  part_numbers = h.part_numbers ∙ g.part_numbers;
}

pub more_not : (s : Store) → HasMoreParts s s
more_not s = record {
  kernels = extends_not s.kernels.kernels.items s.kernels.kernels.items refl;
  parts = extends_not s.parts.privates.items s.parts.privates.items refl;
  width = refl;
  kernel_numbers = refl;
  part_numbers = refl;
}

-- ---- Numbering

module _ (old new : Store) (state : SearchState) (k : ℕ) (numbers : List ℕ) (h : IsNumbered old state new k numbers) where
  pub numbered_more : HasMoreParts old new
  numbered_more = record { kernels = h.kernels; parts = h.parts; width = h.width; kernel_numbers = h.kernel_numbers; part_numbers = h.part_numbers }

  -- The state that has these numbers is the one that was numbered.
  pub numbered_is : (inputs : ℕ → List ℕ) → core_numbered inputs new k numbers ≡ core_of inputs state
  numbered_is inputs =
      let kernel = h.kernel_is.same in
      let parts = numbered_parts inputs new.parts.privates.items numbers state.privates.items h.parts_are in
      λ j. record { kernel = kernel j; parts = parts j }

  pub numbered_below : All (IsBelow (length new.parts.privates.items)) numbers
  numbered_below = all_within new.parts.privates.items numbers state.privates.items h.parts_are

-- ---- Known states

core_is : (inputs : ℕ → List ℕ) (s : Store) (i k : ℕ) (numbers : List ℕ) → IsRowAt s i k numbers → core_at inputs s i ≡ core_numbered inputs s k numbers
core_is inputs s i k numbers at =
    let number = get_or_from_slice_get s.kernel_numbers.items i k 0 at.kernel_is in
    λ j. record { kernel = kernel_at s.kernels.kernels.items (number j); parts = parts_at inputs s.parts.privates.items 1 (at.row_is j) }

pub added_known : (s : Store) (i k : ℕ) (numbers : List ℕ) → IsRowAt s i k numbers → IsSound s → IsAdded s k numbers s
added_known s i k numbers at sound = record {
  sound = sound;
  kernels = refl;
  parts = refl;
  grows = λ inputs. record { more = []; is = nothing (cores_of inputs s) };
  known = λ inputs. listed_has (core_at inputs s) (state_count s) i (core_numbered inputs s k numbers)
      (slice_get_within s.kernel_numbers.items i k at.kernel_is) (core_is inputs s i k numbers at);
  rest = λ program inputs rest one. rest;
}
  where
    nothing : (vs : List Core) → vs ≡ vs ++ []
    nothing [] = refl
    nothing (v ∷ vs) = ap (λ l. v ∷ l) (nothing vs)

-- ---- Pushing

module _ (old new : Store) (k : ℕ) (numbers : List ℕ) (h : IsPushed old k numbers new) (s : IsSound old) (long : length numbers ≡ old.width) where
  pushed_kept : (inputs : ℕ → List ℕ) (i : ℕ) → i < state_count old → core_at inputs new i ≡ core_at inputs old i
  pushed_kept inputs i below =
      (λ j. core_in inputs (h.kernels j).kernels.items (h.parts j).privates.items (h.width j) (h.kernel_numbers j) (h.part_numbers j) i)
      ∙ core_kept inputs old.kernels.kernels.items old.kernels.kernels.items old.parts.privates.items old.parts.privates.items old.width
      old.kernel_numbers.items (k ∷ []) old.part_numbers.items numbers i (record { more = []; is = none old.kernels.kernels.items }) (record { more = []; is = none old.parts.privates.items })
      below s.room s.kernels s.parts
    where
      none : {A : Type 0} (xs : List A) → xs ≡ xs ++ []
      none [] = refl
      none (x ∷ xs) = ap (λ l. x ∷ l) (none xs)

  pushed_count : state_count new ≡ suc (state_count old)
  pushed_count = ap (λ (l : List ℕ). length l) h.kernel_numbers ∙ longer old.kernel_numbers.items k

  pushed_row : IsRowAt new (state_count old) k numbers
  pushed_row = record {
    kernel_is = ap (λ (l : List ℕ). slice_get l (state_count old)) h.kernel_numbers ∙ got_last old.kernel_numbers.items k;
    row_is = (λ j. row (h.width j) (h.part_numbers j) (state_count old)) ∙ row_last old.width old.part_numbers.items numbers (state_count old) s.room long;
  }

  pushed_cores : (inputs : ℕ → List ℕ) → cores_of inputs new ≡ cores_of inputs old ++ core_at inputs new (state_count old) ∷ []
  pushed_cores inputs = listed_grows (core_at inputs old) (core_at inputs new) (state_count old) (state_count new) (pushed_kept inputs) pushed_count

  pushed_sound : k < length old.kernels.kernels.items → All (IsBelow (length old.parts.privates.items)) numbers → IsSound new
  pushed_sound below all =
      let count = ap (λ (l : List ℕ). length l) h.part_numbers in
      let both = length-append old.part_numbers.items numbers in
      let room = s.room in
      let more = suc-mul (state_count old) old.width in
      let sum : length new.part_numbers.items ≡ suc (state_count old) * old.width = omega (arith, count, both, room, more, long) in
      record {
        room = sum ∙ λ j. sym pushed_count j * sym h.width j;
        kernels = subst (λ (l : List Kernel). All (IsBelow (length l)) new.kernel_numbers.items) (λ j. (sym h.kernels j).kernels.items)
            (subst (All (IsBelow (length old.kernels.kernels.items))) (sym h.kernel_numbers) (All-push (IsBelow (length old.kernels.kernels.items)) old.kernel_numbers.items k s.kernels below));
        parts = subst (λ (l : List Private). All (IsBelow (length l)) new.part_numbers.items) (λ j. (sym h.parts j).privates.items)
            (subst (All (IsBelow (length old.parts.privates.items))) (sym h.part_numbers) (All-append (IsBelow (length old.parts.privates.items)) old.part_numbers.items numbers s.parts all));
      }

-- A state that was pushed.
pub added_new : (old new : Store) (k : ℕ) (numbers : List ℕ) → IsPushed old k numbers new → length numbers ≡ old.width → IsSound old
    → k < length old.kernels.kernels.items → All (IsBelow (length old.parts.privates.items)) numbers → IsAdded old k numbers new
added_new old new k numbers g long s below all =
    let pushed = pushed_cores old new k numbers g s long in
    let at = pushed_row old new k numbers g s long in
    let same : (inputs : ℕ → List ℕ) → core_at inputs new (state_count old) ≡ core_numbered inputs old k numbers = λ inputs.
    core_is inputs new (state_count old) k numbers at
    ∙ λ j. core_from (kernel_at (g.kernels j).kernels.items k) (parts_at inputs (g.parts j).privates.items 1 numbers) in
    let cores : (inputs : ℕ → List ℕ) → cores_of inputs new ≡ cores_of inputs old ++ core_numbered inputs old k numbers ∷ [] = λ inputs.
    pushed inputs ∙ λ j. cores_of inputs old ++ same inputs j ∷ [] in
    record {
      sound = pushed_sound old new k numbers g s long below all;
      kernels = λ j. (g.kernels j).kernels.items;
      parts = λ j. (g.parts j).privates.items;
      grows = λ inputs. record { more = core_numbered inputs old k numbers ∷ []; is = cores inputs };
      known = λ inputs. subst (λ vs. Contains vs (core_numbered inputs old k numbers)) (sym (cores inputs))
          (contained (cores_of inputs old ++ core_numbered inputs old k numbers ∷ []) (length (cores_of inputs old)) (core_numbered inputs old k numbers)
          (got_last (cores_of inputs old) (core_numbered inputs old k numbers)));
      rest = λ program inputs rest one. subst (AreResting program) (sym (cores inputs)) (record {
        each = λ i v e.
            ⊎_elim (λ (was : slice_get (cores_of inputs old) i ≡ Some v). rest.each i v was)
            (λ (last : (i ≡ length (cores_of inputs old)) × (core_numbered inputs old k numbers ≡ v)). subst (IsResting program) last.1 one)
            (got_snoc (cores_of inputs old) (core_numbered inputs old k numbers) i v e);
      });
    }
