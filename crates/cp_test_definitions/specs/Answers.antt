-- What the definitions give for a text: its report, or the first refusal, computed from the bytes.
use Rattle.std.specs.Prelude.{ℕ, zero, suc, Bool, true, false, List, [], ◌∷◌, ◌++◌, length, Option, None, Some, Result, Ok, Err, codes, unwrap_or}
use Rattle.cp_model.specs.Syntax as s
use Rattle.cp_model.specs.Tokens.{Token}
use Rattle.cp_model.specs.declared.rules.Violation.{Violation}
use Rattle.cp_model.specs.RulesJudged.{number_of}
use Rattle.cp_model.specs.Rules.{first_violation}
use Rattle.cp_model.specs.Erase.{abstract}
use Rattle.cp_model.specs.Decimal.{natural}
use Rattle.cp_model.specs.Report.{Text, line, report, report_with_chains_within}
use Rattle.cp_model.specs.Input.{cut}
use Rattle.cp_model.specs.States.{Setup, State, monitor_count, processes}
use Rattle.cp_model.specs.Start.{start}
use Rattle.cp_model.specs.Rounds.{Event, run, replay_round}
use Rattle.cp_model.specs.OrderText.{OrderText, Orders, NotALine, order_text}
use Rattle.cp_scan.specs.declared.refusal.Cause.{Cause}
use Rattle.cp_scan.specs.declared.refusal.Cause.TheVariants as cause
use Rattle.cp_scan.specs.Pieces.{tokens_of}
use Rattle.cp_model_grammar.specs.declared.stop.Stop.{Stop}
use Rattle.cp_model_grammar.specs.declared.stop.Stop.TheVariants as stop
use Rattle.cp_model_grammar.specs.Text.{text_at}

-- ---- refusals

abbrev pub refusal_line : Text → ℕ → Text
refusal_line rule at = codes "refused " ++ (rule ++ (codes " at " ++ natural at))

abbrev pub scan_rule : Cause → Text
scan_rule cause.Byte = codes "S1"
scan_rule cause.Comment = codes "S2"
scan_rule cause.Character = codes "S3"
scan_rule cause.Number = codes "S4"
scan_rule cause.Word = codes "S5"
scan_rule cause.Size = codes "S6"

-- the place of the token at which n tokens were left, counting this one
abbrev pub place_left : List Token → ℕ → ℕ
place_left [] n = 0
place_left (t ∷ ts) n = if_left (length ts) n t.span.from (place_left ts n)
  where
    if_left : ℕ → ℕ → ℕ → ℕ → ℕ
    if_left zero (suc zero) here there = here
    if_left (suc m) (suc (suc n)) here there = if_left m (suc n) here there
    if_left m n here there = there

abbrev pub read_refused : List Token → ℕ → Stop → Text
read_refused ts len stop.Memory = []
read_refused ts len (stop.Wrong zero) = refusal_line (codes "Y2") len
read_refused ts len (stop.Wrong (suc n)) = refusal_line (codes "Y1") (place_left ts (suc n))
read_refused ts len (stop.Deep n) = refusal_line (codes "Y3") (place_left ts n)

abbrev pub rule_refused : Violation → Text
rule_refused v = refusal_line (codes "C" ++ natural (number_of v.rule)) v.at

-- ---- trees

-- the tree of an accepted text, or the line of its refusal
abbrev pub accept_tree : s.Tree → Option Violation → Result s.Tree Text
accept_tree t None = Ok t
accept_tree t (Some v) = Err (rule_refused v)

abbrev pub read : List Token → ℕ → Result (s.Tree × List Token) Stop → Result s.Tree Text
read ts len (Ok r) = accept_tree r.0 (first_violation r.0)
read ts len (Err e) = Err (read_refused ts len e)

abbrev pub tree_of_scan : ℕ → Result (List Token) (Cause × ℕ) → Result s.Tree Text
tree_of_scan len (Ok ts) = read ts len (text_at 200 ts)
tree_of_scan len (Err e) = Err (refusal_line (scan_rule e.0) e.1)

abbrev pub tree_of : Text → Result s.Tree Text
tree_of text = tree_of_scan (length text) (tokens_of text)

-- ---- answers

abbrev pub setup_of : s.Tree → Text → ℕ → Setup
setup_of t input tick = record { tree = abstract t; inputs = cut input; tick = tick }

-- the report of a state. With chains it is computed within a bound: `law::chains` of cp_model shows
-- that a result is right, and the report is empty if the bound is too small
abbrev pub report_text : Setup → Bool → State → Text
report_text setup false s = report setup s
report_text setup true s = unwrap_or (report_with_chains_within (monitor_count setup) setup s) []

abbrev pub check_line : Result s.Tree Text → Text
check_line (Ok t) = line (codes "accepted")
check_line (Err refusal) = refusal

abbrev pub ran : ℕ → ℕ → ℕ → Bool → Text → Result s.Tree Text → Text
ran rounds turn tick chains input (Ok t) = let setup = setup_of t input tick in report_text setup chains (run setup turn rounds (start setup))
ran rounds turn tick chains input (Err refusal) = refusal

abbrev pub replay_rounds : Setup → ℕ → State → List (List Event) → State
replay_rounds setup turn s [] = s
replay_rounds setup turn s (es ∷ rest) = replay_rounds setup turn (replay_round setup turn s es) rest

abbrev pub replay_orders : Setup → ℕ → Bool → OrderText → Text
replay_orders setup turn chains (Orders rounds) = report_text setup chains (replay_rounds setup turn (start setup) rounds)
replay_orders setup turn chains (NotALine at) = refusal_line (codes "O1") at

abbrev pub replay_report : ℕ → ℕ → Bool → Text → Text → Result s.Tree Text → Text
replay_report turn tick chains input order (Ok t) =
    let setup = setup_of t input tick in replay_orders setup turn chains (order_text (length (processes setup)) order)
replay_report turn tick chains input order (Err refusal) = refusal

-- how much of its input each process has taken, which no report shows
abbrev pub counts : State → List ℕ → Text
counts s [] = []
counts s (p ∷ ps) = codes " " ++ (natural (s.consumed p) ++ counts s ps)

abbrev pub input_line : ℕ → ℕ → ℕ → Text → Result s.Tree Text → Text
input_line rounds turn tick input (Ok t) =
    let setup = setup_of t input tick in line (codes "consumed" ++ counts (run setup turn rounds (start setup)) (processes setup))
input_line rounds turn tick input (Err refusal) = refusal

-- the answer of `cpm check`
abbrev pub check_answer : Text → Text
check_answer text = check_line (tree_of text)

-- the answer of `cpm run`
abbrev pub run_answer : (rounds turn tick : ℕ) (chains : Bool) (input text : Text) → Text
run_answer rounds turn tick chains input text = ran rounds turn tick chains input (tree_of text)

-- the answer of `cpm replay`
abbrev pub replay_answer : (turn tick : ℕ) (chains : Bool) (input order text : Text) → Text
replay_answer turn tick chains input order text = replay_report turn tick chains input order (tree_of text)

-- how much of its input each process has taken after a run
abbrev pub consumed_answer : (rounds turn tick : ℕ) (input text : Text) → Text
consumed_answer rounds turn tick input text = input_line rounds turn tick input (tree_of text)
