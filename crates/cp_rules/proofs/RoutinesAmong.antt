-- The routines among names, one name after another.
use Rattle.std.proofs.Common.{◌≡◌, ◌≤◌, ◌<◌, ◌+◌, ◌∷◌, ◌++◌, ℕ, zero, suc, Bool, true, false, List, [], None, Some, if◌then◌else◌, bytes_eq, drop, length, slice_get, refl, ap, sym, ◌∙◌, arith, append_assoc}
use Rattle.cp_model.specs.Names.{lookup}
use Rattle.cp_model.specs.Rules.{routine_member, routine_members}
use Rattle.cp_model.specs.RulesEnvironment.{Members, Names, Text}
use Rattle.cp_model.specs.declared.rules.Entity.{Entity}
use Rattle.cp_model.specs.declared.rules.Entity.TheVariants as entity
use Rattle.cp_model.specs.declared.rules.Member.{Member}
use Rattle.cp_model.specs.declared.rules.Member.TheVariants as member
use Rattle.cp_model.proofs.Options.{same_some}
use Rattle.cp_base_names.specs.Tables.{AreDistinct}

drop_step : (names : Names) (i : ℕ) (e : Text × Entity) → slice_get names i ≡ Some e → drop i names ≡ e ∷ drop (suc i) names
drop_step [] zero e at = absurd (cc)
drop_step [] (suc i) e at = absurd (cc)
drop_step (n ∷ ns) zero e at = ap (λ m. m ∷ ns) (same_some n e at)
drop_step (n ∷ ns) (suc i) e at = drop_step ns i e at

pub members_step : (ms : Members) (names : Names) (i j : ℕ) (e : Text × Entity) → slice_get names i ≡ Some e → i + 1 ≡ j
    → (ms ++ routine_member e.0 e.1) ++ routine_members (drop j names) ≡ ms ++ routine_members (drop i names)
members_step ms names i j e at next =
    let same : j ≡ suc i = omega (arith, next) in
    append_assoc ms (routine_member e.0 e.1) (routine_members (drop j names))
    ∙ ap (λ k. ms ++ (routine_member e.0 e.1 ++ routine_members (drop k names))) same
    ∙ ap (λ ns. ms ++ routine_members ns) (sym (drop_step names i e at))

lookup_behind : (x y : Text) (m : Member) (ms : Members) → lookup x ms ≡ None → bytes_eq x y ≡ false → lookup x (ms ++ (y, m) ∷ []) ≡ None
lookup_behind x y m [] absent differs = ap (λ b. if b then Some m else None) differs
lookup_behind x y m (n ∷ ns) absent differs = go (bytes_eq x n.0) absent (λ h. lookup_behind x y m ns h differs)
  where
    go : (b : Bool) → (if b then Some n.1 else lookup x ns) ≡ None → (lookup x ns ≡ None → lookup x (ns ++ (y, m) ∷ []) ≡ None)
        → (if b then Some n.1 else lookup x (ns ++ (y, m) ∷ [])) ≡ None
    go true h k = h
    go false h k = k h

still_absent : (x y : Text) (e : Entity) (ms : Members) → lookup x ms ≡ None → bytes_eq x y ≡ false → lookup x (ms ++ routine_member y e) ≡ None
still_absent x y (entity.Routine r) ms absent differs = lookup_behind x y (member.Routine r) ms absent differs
still_absent x y e ms absent differs = ap (lookup x) (append_nil ms) ∙ absent
  where
    append_nil : (ns : Members) → ns ++ [] ≡ ns
    append_nil [] = refl
    append_nil (n ∷ ns) = ap (λ ks. n ∷ ks) (append_nil ns)

pub absent_step : (ms : Members) (names : Names) (i : ℕ) (e : Text × Entity) → AreDistinct names → slice_get names i ≡ Some e
    → ((j : ℕ) → i ≤ j → (f : Text × Entity) → slice_get names j ≡ Some f → lookup f.0 ms ≡ None)
    → (j : ℕ) → i + 1 ≤ j → (f : Text × Entity) → slice_get names j ≡ Some f → lookup f.0 (ms ++ routine_member e.0 e.1) ≡ None
absent_step ms names i e distinct at absent j le f at_j =
    still_absent f.0 e.0 e.1 ms (absent j (omega (arith, le)) f at_j) (distinct i j e f (omega (arith, le)) at at_j)

-- the invariant of a loop over the names, after one of them
pub record NextAdded (ms next : Members) (names : Names) (i : ℕ) : Type 0 where
  pub members : next ++ routine_members (drop (i + 1) names) ≡ ms ++ routine_members (drop i names)
  pub absent : (j : ℕ) → i + 1 ≤ j → (f : Text × Entity) → slice_get names j ≡ Some f → lookup f.0 next ≡ None

pub next_added : (ms next : Members) (names : Names) (i : ℕ) (e : Text × Entity) → AreDistinct names → slice_get names i ≡ Some e
    → next ≡ ms ++ routine_member e.0 e.1
    → ((j : ℕ) → i ≤ j → (f : Text × Entity) → slice_get names j ≡ Some f → lookup f.0 ms ≡ None) → NextAdded ms next names i
next_added ms next names i e distinct at same absent = record {
  members = ap (λ ns. ns ++ routine_members (drop (i + 1) names)) same ∙ members_step ms names i (i + 1) e at refl;
  absent = λ j le f at_j. ap (lookup f.0) same ∙ absent_step ms names i e distinct at absent j le f at_j;
}

pub none_within : {A : Type 0} (xs : List A) (i : ℕ) → i < length xs → None ≡ slice_get xs i → ⊥
none_within [] i within none = absurd (omega (arith, within))
none_within (x ∷ xs) zero within none = absurd (cc)
none_within (x ∷ xs) (suc i) within none = none_within xs i (omega (arith, within)) none
