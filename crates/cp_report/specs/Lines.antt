-- The text of lines, and of what comes before other text.
use Rattle.std.specs.Prelude.{◌++◌, ℕ, List, codes}
use Rattle.cp_model.specs.Abstract.{Name}
use Rattle.cp_model.specs.Decimal.{natural}
use Rattle.cp_model.specs.Report.{Text, askers_text, gate_text, line}
use Rattle.cp_model.specs.States.{Holder, Setup}
use Rattle.cp_model_machine.specs.KernelSteps.{stage_of}
use Rattle.cp_model_machine.specs.Machines as plain
use Rattle.cp_model_machine.specs.Machines.{transcript_of}
use Rattle.cp_model_machine.specs.PrivateStates.{Activity}
use Rattle.cp_model_machine.specs.Reports.{head_line, stage_text, transcript_line}

abbrev pub rounds_line : ℕ → Text
rounds_line n = line (codes "rounds " ++ natural n)

-- The text before the status of a process.
abbrev pub title : ℕ → Name → Text
title p x = codes "process " ++ (natural p ++ (codes " " ++ (x ++ codes " ")))

-- The lines before the variables of a process.
abbrev pub front_lines : Setup → plain.Machine → ℕ → Name → Activity → Text → Text
front_lines setup m p x a output =
    head_line p x (stage_text setup m.program (stage_of m.kernel.stages p) a) ++ transcript_line (transcript_of m.transcripts p ++ output)

abbrev pub number_text : ℕ → Text
number_text n = codes " " ++ natural n

-- The line of a gate with this holder and these askers.
abbrev pub gate_line_of : Name → Holder → List ℕ → Text
gate_line_of x holder askers =
    line (codes "monitor " ++ (x ++ (codes " " ++ (gate_text holder ++ (codes " askers" ++ askers_text askers)))))
