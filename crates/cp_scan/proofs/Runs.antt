-- The longest run at the front of a text of bytes that satisfy a predicate.
use Rattle.std.proofs.Common.{◌≡◌, ℕ, suc, ◌≤◌, Bool, true, false, cond, List, [], ◌∷◌, ◌++◌, length, take, drop, refl, sym, ap, arith}
use Rattle.std.proofs.lemmas.List.{take-append-drop, length-take-le}
use Rattle.cp_model.specs.Spelling.{Each, Stops}
use Rattle.cp_scan.specs.Pieces.{run}

pub run_append : (p : ℕ → Bool) (bytes rest : List ℕ) → Each p bytes → Stops p rest → run p (bytes ++ rest) ≡ length bytes
run_append p [] [] each stops = refl
run_append p [] (b ∷ rest) each stops = rw stops refl
run_append p (b ∷ bytes) rest each stops = rw each.0 (ap (λ (n : ℕ). suc n) (run_append p bytes rest each.1 stops))

pub run_within : (p : ℕ → Bool) (text : List ℕ) → run p text ≤ length text
run_within p [] = omega arith
run_within p (b ∷ rest) =
    let more = run_within p rest in
    elim (p b) as (λ t. cond t (suc (run p rest)) 0 ≤ suc (length rest)) [ true ↦ omega arith | false ↦ omega arith ]

each_at : (p : ℕ → Bool) (b : ℕ) (rest : List ℕ) (n : ℕ) (t : Bool) → p b ≡ t → Each p (take n rest) → Each p (take (cond t (suc n) 0) (b ∷ rest))
each_at p b rest n true e each = (e, each)
each_at p b rest n false e each = tt

pub run_each : (p : ℕ → Bool) (text : List ℕ) → Each p (take (run p text) text)
run_each p [] = tt
run_each p (b ∷ rest) = each_at p b rest (run p rest) (p b) refl (run_each p rest)

stops_at : (p : ℕ → Bool) (b : ℕ) (rest : List ℕ) (n : ℕ) (t : Bool) → p b ≡ t → Stops p (drop n rest) → Stops p (drop (cond t (suc n) 0) (b ∷ rest))
stops_at p b rest n true e stops = stops
stops_at p b rest n false e stops = e

pub run_stops : (p : ℕ → Bool) (text : List ℕ) → Stops p (drop (run p text) text)
run_stops p [] = tt
run_stops p (b ∷ rest) = stops_at p b rest (run p rest) (p b) refl (run_stops p rest)

pub length_run : (p : ℕ → Bool) (text : List ℕ) → length (take (run p text) text) ≡ run p text
length_run p text = length-take-le (run p text) text (run_within p text)

-- the run and what follows it
pub run_splits : (p : ℕ → Bool) (text : List ℕ) → text ≡ take (run p text) text ++ drop (run p text) text
run_splits p text = sym (take-append-drop (run p text) text)

pub run_all : (p : ℕ → Bool) (bytes : List ℕ) → Each p bytes → run p bytes ≡ length bytes
run_all p [] each = refl
run_all p (b ∷ bytes) each = rw each.0 (ap (λ (n : ℕ). suc n) (run_all p bytes each.1))

pub run_least : (p : ℕ → Bool) (bytes rest : List ℕ) → Each p bytes → length bytes ≤ run p (bytes ++ rest)
run_least p [] rest each = omega arith
run_least p (b ∷ bytes) rest each = rw each.0 (let more = run_least p bytes rest each.1 in omega arith)
