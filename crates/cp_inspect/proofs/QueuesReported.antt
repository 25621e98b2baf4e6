-- The monitors are searched for a queue one after another.
use Rattle.std.proofs.Common.{◌≡◌, ◌++◌, ℕ, suc, List, [], ◌∷◌, ◌∙◌}
use Rattle.std.proofs.lemmas.List.{append_assoc}
use Rattle.cp_model.specs.Abstract.{Name}
use Rattle.cp_model.specs.Declarations.{Variable}
use Rattle.cp_model.specs.Report.{Text}
use Rattle.cp_model.specs.Types.{GlobalScope}
use Rattle.cp_model_program.specs.Programs.{Program}
use Rattle.cp_model_machine.specs.Passing.{monitor_start}
use Rattle.cp_model_machine.specs.Reports.{queue_visit, queues_text, visit_component}
use Rattle.cp_compile_symbols.specs.Representing.{ScopeRepresents}
use Rattle.cp_compile_symbols.specs.declared.tables.Tables.{Tables}
use Rattle.cp_compile_symbols.specs.declared.types.Types.{Types}
use Rattle.cp_inspect.specs.Lists.{AreListed}
use Rattle.cp_inspect.specs.Walks.{ReportsComponent}

-- These entries represent the monitors that are left, and with those monitors the text is whole.
pub record QueuesToReport (g : GlobalScope) (program : Program) (place : ℕ) (types : Types) (n : ℕ) (es : List (Name × ℕ)) (out text : Text) : Type 0 where
  pub left : List (Name × Variable)
  pub listed : AreListed types es left
  pub text_is : out ++ queues_text g program place n left ≡ text

pub one_searched : (g : GlobalScope) (program : Program) (place : ℕ) (tables : Tables) (n : ℕ) (e : Name × ℕ) (es : List (Name × ℕ)) (out after text : Text) → ScopeRepresents tables.names tables.types g
    → QueuesToReport g program place tables.types n (e ∷ es) out text → ReportsComponent tables (queue_visit place) e.1 (monitor_start program n) out after
    → QueuesToReport g program place tables.types (suc n) es after text
one_searched g program place tables n e es out after text scope Q reports = by Q.left Q.listed Q.text_is
  where
    by : (vs : List (Name × Variable)) → AreListed tables.types (e ∷ es) vs → out ++ queues_text g program place n vs ≡ text → QueuesToReport g program place tables.types (suc n) es after text
    by [] h is = absurd h
    by (v ∷ vs) h is = record {
      left = vs;
      listed = h.2;
      text_is =
          (λ i. reports g v.1.type scope h.1 i ++ queues_text g program place (suc n) vs)
          ∙ (append_assoc out (visit_component g (queue_visit place) (monitor_start program n) v.1.type) (queues_text g program place (suc n) vs) ∙ is);
    }
