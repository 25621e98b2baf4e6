-- What is written if an explanation is asked for in one of its forms.
use Rattle.std.specs.Prelude.{ℕ, List, Option}
use Rattle.std.specs.Io.KnownBytes.{Keeps}
use Rattle.cp_base_config.specs.declared.explaining.Explaining.{Explaining}
use Rattle.cp_base_config.specs.declared.explaining.Explaining.TheVariants as explaining
use Rattle.cp_base_config.specs.declared.explaining.Form.TheVariants as form
use Rattle.cp_frontend.specs.declared.refusal.Refusal.{Refusal}
use Rattle.cp_explain.specs.Explained.{Drew, DrewPart, Wrote, WrotePart}
use Rattle.cp_explain.specs.Objects.{WroteObject, WroteObjectPart}

-- The writer of results went from `old` to `new`, and the other one from `errors` to `errors_new`.
-- Only a graph for Graphviz uses the other one.
abbrev pub WroteAs : Explaining → List ℕ → Option (List ℕ) → Option Refusal → Option (List ℕ) → Option (List ℕ) → Option (List ℕ) → Option (List ℕ) → Type 0
WroteAs (explaining.First form.Dot) file text e old new errors errors_new = Drew file text e old new errors errors_new
WroteAs (explaining.First form.Lines) file text e old new errors errors_new = Wrote file text e old new × Keeps errors errors_new
WroteAs explaining.All file text e old new errors errors_new = Wrote file text e old new × Keeps errors errors_new
WroteAs (explaining.Object extent) file text e old new errors errors_new = WroteObject text e old new × Keeps errors errors_new

-- The same if a write failed: only a first part was written.
abbrev pub WrotePartAs : Explaining → List ℕ → Option (List ℕ) → Option Refusal → Option (List ℕ) → Option (List ℕ) → Option (List ℕ) → Option (List ℕ) → Type 0
WrotePartAs (explaining.First form.Dot) file text e old new errors errors_new = DrewPart file text e old new errors errors_new
WrotePartAs (explaining.First form.Lines) file text e old new errors errors_new = WrotePart file text e old new × Keeps errors errors_new
WrotePartAs explaining.All file text e old new errors errors_new = WrotePart file text e old new × Keeps errors errors_new
WrotePartAs (explaining.Object extent) file text e old new errors errors_new = WroteObjectPart text e old new × Keeps errors errors_new
