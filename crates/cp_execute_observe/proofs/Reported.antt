-- What was written of a trace, and what waits to be written.
use Rattle.std.proofs.Common.{◌≡◌, ◌∙◌, ◌+◌, ◌++◌, [], zero, suc, List, ℕ, Option, ap, append_assoc, subst, sym}
use Rattle.std.specs.Io.KnownBytes.{Appends}
use Rattle.std.proofs.KnownBytes.{Appends-nil, Appends-trans}
use Rattle.cp_trace.specs.Reporting.{Adds}
use Rattle.cp_trace.specs.Tracers.{Begins, Ends, ReportsRound, ReportsRounds}
use Rattle.cp_base_config.specs.declared.trace.TraceForm.{TraceForm}
use Rattle.cp_execute_observe.specs.Writing.{Moves, WritesRounds}

-- What is reported up to the end of `n` rounds was written, or is held.
pub record WritesPart (f : TraceForm) (done n : ℕ) (old new : Option (List ℕ)) (held : List ℕ) : Type 0 where
  pub written : List ℕ
  pub appended : Appends old new written
  pub part : ReportsRounds f done n (written ++ held)

-- What comes before all rounds is held.
pub begun : (f : TraceForm) (done : ℕ) (old : Option (List ℕ)) (held : List ℕ) → Adds (Begins f) [] held → WritesPart f done 0 old old held
begun f done old held added = record {
  written = [];
  appended = Appends-nil old;
  part = subst (λ (xs : List ℕ). Begins f xs) (sym added.1) added.2;
}

-- One more round is held.
pub added : (f : TraceForm) (done n : ℕ) (old new : Option (List ℕ)) (held holds : List ℕ) → WritesPart f done n old new held → Adds (ReportsRound f (done + suc n)) held holds
    → WritesPart f done (suc n) old new holds
added f done n old new held holds before more =
    let all : before.written ++ holds ≡ (before.written ++ held) ++ more.0 =
    ap (λ (xs : List ℕ). before.written ++ xs) more.1 ∙ sym (append_assoc before.written held more.0) in
    record {
      written = before.written;
      appended = before.appended;
      part = (before.written ++ held, more.0, all, before.part, more.2);
    }

-- What was held is written, or held on.
pub moved : (f : TraceForm) (done n : ℕ) (old new newer : Option (List ℕ)) (held holds : List ℕ) → WritesPart f done n old new held → Moves new newer held holds
    → WritesPart f done n old newer holds
moved f done n old new newer held holds before move =
    let all : before.written ++ held ≡ (before.written ++ move.0) ++ holds =
    ap (λ (xs : List ℕ). before.written ++ xs) move.2 ∙ sym (append_assoc before.written move.0 holds) in
    record {
      written = before.written ++ move.0;
      appended = Appends-trans old new newer before.written move.0 before.appended move.1;
      part = subst (λ (xs : List ℕ). ReportsRounds f done n xs) all before.part;
    }

-- The end is added, and all is written.
pub finished : (f : TraceForm) (done n : ℕ) (old new newer : Option (List ℕ)) (held all : List ℕ) → WritesPart f done n old new held → Adds (Ends f) held all → Appends new newer all
    → WritesRounds f done n old newer
finished f done n old new newer held all before last written =
    let whole : before.written ++ all ≡ (before.written ++ held) ++ last.0 =
    ap (λ (xs : List ℕ). before.written ++ xs) last.1 ∙ sym (append_assoc before.written held last.0) in (
      before.written ++ all,
      Appends-trans old new newer before.written all before.appended written,
      (before.written ++ held, last.0, whole, before.part, last.2),
    )
