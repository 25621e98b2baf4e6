-- What a search shows of a program holds of its text.
use Rattle.std.proofs.Common.{◌≡◌, ◌-◌, ◌≤◌, ℕ, zero, suc, List, length, ap, refl, sym, subst, ◌∙◌, arith}
use Rattle.std.specs.Prelude.{slice_get}
use Rattle.cp_model.specs.States.{process_count}
use Rattle.cp_model.specs.Syntax as s
use Rattle.cp_model_program.specs.IsProgramFor.{IsProgramFor}
use Rattle.cp_program.specs.View as view
use Rattle.cp_program.specs.declared.program.Program.{Program}
use Rattle.cp_check.specs.Checked.{IsProgramOf}
use Rattle.cp_rounds_handoff.proofs.Lists.{got_at}
use Rattle.cp_frontend.specs.Cutting.{AreInputs, Bytes}
use Rattle.cp_search_states.specs.SearchStates.{bytes_or_none, input_of}
use Rattle.cp_search.specs.SearchResults.{NothingIsStuck}
use Rattle.cp_execute_start.specs.Starts.{setup_of}
use Rattle.cp_execute_search.specs.Searches.{IsFine}

input_is : (inputs : ℕ → List ℕ) (n : ℕ) (all : List Bytes) → AreInputs inputs n all → (p : ℕ) → 1 ≤ p → p ≤ n → input_of all p ≡ inputs p
input_is inputs n all are zero first last = absurd (Prim.omega (arith, first))
input_is inputs n all are (suc i) first last =
    let count = are.count in
    let found = got_at all i (Prim.omega (arith, last, count)) in
    let place : suc i - 1 ≡ i = Prim.omega arith in
    ap (λ k. bytes_or_none (slice_get all k)) place ∙ (ap bytes_or_none found.1 ∙ are.each i found.0 found.1)

pub fine_in_text : (servers : List ℕ) (program : Program) (t : s.Tree) (inputs : ℕ → List ℕ) (all : List Bytes)
    → IsProgramOf t program → AreInputs inputs (length (view.program program).processes) all
    → NothingIsStuck servers (view.program program) (input_of all) → IsFine servers t inputs
fine_in_text servers program t inputs all is are nothing = record {
  each = λ tick.
      let setup = setup_of t inputs tick in
      let represents : IsProgramFor (view.program program) setup = is setup refl in
      let few : AreInputs inputs (process_count setup) all = subst (λ n. AreInputs inputs n all) represents.process_rows are in
      nothing.fine setup represents (λ p first last. input_is inputs (process_count setup) all few p first last);
}
