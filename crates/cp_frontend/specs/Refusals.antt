-- The numbers of causes in the lines that the commands write, and the exit statuses.
use Rattle.std.specs.Prelude.{ℕ}
use Rattle.cp_scan.specs.declared.refusal.Cause.{Cause}
use Rattle.cp_scan.specs.declared.refusal.Cause.TheVariants as cause
use Rattle.cp_scan.specs.declared.refusal.ScanError.{ScanError}
use Rattle.cp_scan.specs.declared.refusal.ScanError.TheVariants as scan
use Rattle.cp_syntax.specs.declared.refusal.SyntaxError.{SyntaxError}
use Rattle.cp_syntax.specs.declared.refusal.SyntaxError.TheVariants as syntax
use Rattle.cp_rules.specs.declared.text.RuleError.TheVariants as rules
use Rattle.cp_rules.specs.declared.text.RuleError.{RuleError}
use Rattle.cp_base_schedule.specs.declared.reading.OrderError.{OrderError}
use Rattle.cp_base_schedule.specs.declared.reading.OrderError.TheVariants as order
use Rattle.cp_frontend.specs.declared.reading.ReadError.{ReadError}
use Rattle.cp_frontend.specs.declared.reading.ReadError.TheVariants as read
use Rattle.cp_frontend.specs.declared.refusal.Refusal.{Refusal}
use Rattle.cp_frontend.specs.declared.refusal.Refusal.TheVariants as refusal

abbrev pub scan_number : Cause → ℕ
scan_number cause.Byte = 1
scan_number cause.Comment = 2
scan_number cause.Character = 3
scan_number cause.Number = 4
scan_number cause.Word = 5
scan_number cause.Size = 6

-- 1 if the text, the input or the order is refused, 3 if memory runs out, 4 if reading or writing fails.
abbrev pub exit_status : Refusal → ℕ
exit_status refusal.Memory = 3
exit_status refusal.Read = 4
exit_status refusal.Write = 4
exit_status _ = 1

abbrev pub of_scan : ScanError → Refusal
of_scan (scan.Refused c at) = refusal.Scan c at
of_scan scan.Memory = refusal.Memory

abbrev pub of_syntax : SyntaxError → Refusal
of_syntax (syntax.Unexpected at) = refusal.Unexpected at
of_syntax (syntax.Unfinished at) = refusal.Unfinished at
of_syntax (syntax.TooDeep at) = refusal.TooDeep at
of_syntax syntax.Memory = refusal.Memory

abbrev pub of_rules : RuleError → Refusal
of_rules (rules.Broken v) = refusal.Check v.rule v.at
of_rules rules.Memory = refusal.Memory

abbrev pub of_read : ReadError → Refusal
of_read read.Read = refusal.Read
of_read read.Memory = refusal.Memory

abbrev pub of_order : OrderError → Refusal
of_order (order.Line at) = refusal.Order at
of_order order.Memory = refusal.Memory
