-- What process 2 of the example has left to do, at its start and when its calls are nested three
-- deep.
--
-- The example is the text of cp_model_program. Inside `get`, which `go` calls in an expression, `go` waits
-- for the value with its whole assignment left to do, `run` continues after its call of `go`, and
-- the process after its call of `run`.
use Rattle.std.proofs.Common.{ℤ, ℕ, ◌+◌, pos, negsuc, List, [], ◌∷◌, true, false, None, Some, refl}
use Rattle.std.specs.Prelude.{codes}
use Rattle.cp_model.specs.Abstract as a
use Rattle.cp_model.specs.Abstract.{Integer}
use Rattle.cp_model.specs.Declarations.{reported_members}
use Rattle.cp_model.specs.Environments.{Environment, Frame}
use Rattle.cp_model.specs.Locations.{ByName, Location, OfActivation, under}
use Rattle.cp_model.specs.Components.{process_location}
use Rattle.cp_model.specs.Continuations.{Do, EndCall, EndProcess, Task, push}
use Rattle.cp_model_program.specs.Terms as target
use Rattle.cp_model_program.specs.Terms.{Binary, Item, Local, Made, Member, Number, Reference, Right, Rooted, Through, Value}
use Rattle.cp_model_program.specs.Programs as op
use Rattle.cp_model_program.specs.Sites.{BodyOf, NamesLocal, NamesMember, RoutineOf}
use Rattle.cp_model_program.specs.TermsFor.{nothing_known}
use Rattle.cp_model_program.specs.StatementsFor.{CodeFor}
use Rattle.cp_model_program.specs.IsProgramFor.{body_environment, routine_environment}
use Rattle.cp_model_program.specs.Compile.{all_texts}
use Rattle.cp_model_program.specs.Example.{b, c, d, m, p, get, go, run, add, program, setup, tree}
use Rattle.cp_model_program.proofs.Example.{g, int, le, lent, one, type_of}
use Rattle.cp_model_machine.specs.PrivateStates as machine
use Rattle.cp_model_machine.specs.Machines.{unit_at}
use Rattle.cp_model_machine.specs.Addresses.{ClassLies, Ground, OwnWords, ProcessLies}
use Rattle.cp_model_machine.specs.Remaining.{Remaining, Running, Runs, held_below, kept_below, site}

abbrev ground : Ground
ground = record { program = program; texts = all_texts tree; setup = setup; p = 2; own = 9 + (unit_at program 8).words; sight = OwnWords; monitors_lie = tt }

abbrev temps_count : ℕ
temps_count = (unit_at program 8).temps

abbrev frames_limit : ℕ
frames_limit = (unit_at program 8).frames

-- ---- The process

abbrev at : Location
at = process_location 2

abbrev env : Environment
env = body_environment g p at

abbrev in_process : Running
in_process = record { number = 8; unit = unit_at program 8; text = BodyOf p; env = env; base = 9; temp = 0; component = 0 }

pub process_runs : Runs ground temps_count frames_limit in_process []
process_runs = record {
  unit = refl;
  text = refl;
  globals = refl;
  system = refl;
  frame = tt;
  component = ProcessLies refl refl refl;
  words_fit = le _ _ refl;
  temps_fit = le _ _ refl;
  frames_fit = le _ _ refl;
  activation_fits = le _ _ refl;
}

abbrev adds : a.Statement
adds = a.Perform (a.Part (a.Plain (codes "g")) (codes "add")) (a.MoreExpressions (a.Use (a.Plain (codes "v"))) a.NoExpression)

v_named : NamesMember env (codes "v") 8 int
v_named = record { variable = one int; means = refl; lies = refl; reference = refl; type = refl }

init_s_code : CodeFor (site ground in_process) nothing_known (a.Init (codes "s") a.NoExpression) 22 21 0
init_s_code = (22, op.InitClass (record { routine = 1; target = target.Class 2; arguments = []; words = 0; temps = 0 }) 21, record { name = codes "s"; system = c; is_parameter = false }, refl, refl, (refl, refl, record { own = refl; target = refl; runs = record { text = refl; unit = unit_at program 1; there = refl; fits = record { words = le _ _ refl; temps = le _ _ refl; frames = le _ _ refl }; words = refl; temps = refl }; room = le _ _ refl }, refl))

init_u_code : CodeFor (site ground in_process) nothing_known (a.Init (codes "u") (a.MoreExpressions (a.Use (a.Plain (codes "s"))) a.NoExpression)) 21 20 0
init_u_code = (21, op.InitClass (record { routine = 5; target = target.Class 4; arguments = Right 1 (target.Class 2) ∷ []; words = 0; temps = 0 }) 20, record { name = codes "u"; system = d; is_parameter = false }, refl, refl, (refl, refl, record { own = refl; target = refl; runs = record { text = refl; unit = unit_at program 5; there = refl; fits = record { words = le _ _ refl; temps = le _ _ refl; frames = le _ _ refl }; words = refl; temps = refl }; room = le _ _ refl }, (record { name = codes "s"; system = c; is_parameter = false }, reported_members g c, one (type_of c), refl, refl, refl, refl, refl, refl)))

set_v_code : CodeFor (site ground in_process) nothing_known (a.Assign (a.Plain (codes "v")) (a.Literal 3)) 20 19 0
set_v_code = (20, op.Set (Rooted (Member 8)) (negsuc 32767) (pos 32767) (Number (pos 3)) 19, refl, (Integer, Integer, pos 0, 20, 0, refl, le 0 _ refl, le 0 _ refl, (refl, v_named), (refl, refl, refl)))

run_call_code : CodeFor (site ground in_process) nothing_known (a.Perform (a.Part (a.Plain (codes "u")) (codes "run")) (a.MoreExpressions (a.Use (a.Plain (codes "v"))) a.NoExpression)) 19 18 0
run_call_code = (19, op.Procedure (record { routine = 4; target = target.Class 4; arguments = Reference 0 (Rooted (Member 8)) ∷ []; words = 0; temps = 0 }) 18, refl, (record { routine = run; of = Some (record { name = codes "u"; system = d; is_parameter = false }) }, 0, record { means = refl; target = refl; runs = record { text = refl; unit = unit_at program 4; there = refl; fits = record { words = le _ _ refl; temps = le _ _ refl; frames = le _ _ refl }; words = refl; temps = refl } }, refl, refl, le 0 _ refl, (19, 0, refl, refl, refl, le 0 _ refl, le 0 _ refl, (refl, v_named), refl)))

adds_code : CodeFor (site ground in_process) nothing_known adds 18 17 0
adds_code = (18, op.Procedure (record { routine = 6; target = target.MonitorRight 1; arguments = Value 0 (negsuc 32767) (pos 32767) (Item (Rooted (Member 8))) ∷ []; words = 0; temps = 0 }) 17, refl, (record { routine = add; of = Some (record { name = codes "g"; system = m; is_parameter = true }) }, 0, record { means = refl; target = record { variable = one (type_of m); lies = refl; inner = reported_members g m; type = refl; no_member = refl }; runs = record { text = refl; unit = unit_at program 6; there = refl; fits = record { words = le _ _ refl; temps = le _ _ refl; frames = le _ _ refl }; words = refl; temps = refl } }, refl, refl, le 0 _ refl, (Integer, pos 0, 18, 0, refl, refl, refl, le 0 _ refl, le 0 _ refl, (negsuc 32767, pos 32767, pos 0, refl, refl, (refl, v_named)), refl)))

abbrev EndRemaining : List ℤ → Type 0
EndRemaining temps = Remaining ground temps frames_limit nothing_known in_process [] 17 0 (EndProcess ∷ [])

end_left : (temps : List ℤ) → EndRemaining temps
end_left temps = (refl, refl, refl, refl, (p, refl, le _ _ refl))

adds_left : (temps : List ℤ) → Remaining ground temps frames_limit nothing_known in_process [] 18 0 (Do adds env ∷ EndProcess ∷ [])
adds_left temps = (refl, tt, (17, 0, le 0 0 refl, adds_code, end_left temps))

-- All that the process has left to do when it begins.
pub process_left : (temps : List ℤ)
    → Remaining ground temps frames_limit nothing_known in_process [] 22 temps_count (push p.body env (EndProcess ∷ []))
process_left temps = (
  refl,
  tt,
  (
    21,
    0,
    le 0 _ refl,
    init_s_code,
    (
      refl,
      tt,
      (
        20,
        0,
        le 0 0 refl,
        init_u_code,
        (
          refl,
          tt,
          (
            19,
            0,
            le 0 0 refl,
            set_v_code,
            (refl, tt, (18, 0, le 0 0 refl, run_call_code, adds_left temps)),
          ),
        ),
      ),
    ),
  ),
)

-- ---- Inside `run`, after its call of `go`

abbrev run_frame : Frame
run_frame = record { owner = OfActivation 2 0; routine = run }

abbrev u_at : Location
u_at = under at (ByName (codes "u") ∷ [])

abbrev run_env : Environment
run_env = routine_environment g d run u_at (OfActivation 2 0)

abbrev in_run : Running
in_run = record { number = 4; unit = unit_at program 4; text = RoutineOf d run; env = run_env; base = 9; temp = 0; component = 4 }

abbrev process_frame : machine.Frame
process_frame = record { counter = 18; base = 9; temp = 0; component = 0; into = 0; gate = 0; held = 0 }

abbrev after_run : List Task
after_run = EndCall run_env None ∷ Do adds env ∷ EndProcess ∷ []

pub run_runs : Runs ground temps_count frames_limit in_run (process_frame ∷ [])
run_runs = record {
  unit = refl;
  text = refl;
  globals = refl;
  system = refl;
  frame = refl;
  component = ClassLies refl refl;
  words_fit = le _ _ refl;
  temps_fit = le _ _ refl;
  frames_fit = le _ _ refl;
  activation_fits = le _ _ refl;
}

run_left : (n : ℤ) → Remaining ground (n ∷ []) frames_limit nothing_known in_run (process_frame ∷ []) 9 0 after_run
run_left n = (
  refl,
  record { frame = run_frame; runs = refl; owner = refl; return = refl },
  (refl, refl, tt),
  (
    in_process,
    18,
    0,
    0,
    process_runs,
    record { base = refl; temp = refl; component = refl; words_apart = le _ _ refl; temps_apart = le _ _ refl; kept_fit = le 0 _ refl },
    (refl, refl),
    (refl, tt, (17, 0, le 0 0 refl, adds_code, end_left (n ∷ []))),
  ),
)

-- ---- `go` waits for the value of `get`

abbrev go_frame : Frame
go_frame = record { owner = OfActivation 2 1; routine = go }

abbrev k_at : Location
k_at = under u_at (ByName (codes "k") ∷ [])

abbrev go_env : Environment
go_env = routine_environment g b go k_at (OfActivation 2 1)

abbrev in_go : Running
in_go = record { number = 2; unit = unit_at program 2; text = RoutineOf b go; env = go_env; base = 10; temp = 0; component = 6 }

abbrev frame_of_run : machine.Frame
frame_of_run = record { counter = 9; base = 9; temp = 0; component = 4; into = 0; gate = 0; held = 0 }

abbrev go_frames : List machine.Frame
go_frames = frame_of_run ∷ process_frame ∷ []

pub go_runs : Runs ground temps_count frames_limit in_go go_frames
go_runs = record {
  unit = refl;
  text = refl;
  globals = refl;
  system = refl;
  frame = refl;
  component = ClassLies refl refl;
  words_fit = le _ _ refl;
  temps_fit = le _ _ refl;
  frames_fit = le _ _ refl;
  activation_fits = le _ _ refl;
}

t_named : NamesLocal go_env (codes "t") 0 true int
t_named = record { frame = go_frame; runs = refl; variable = lent int; means = refl; lies = refl; reference = refl; type = refl }

abbrev get_call : a.Expression
get_call = a.Call (a.Part (a.Plain (codes "a")) (codes "get")) (a.MoreExpressions (a.Use (a.Plain (codes "t"))) a.NoExpression)

abbrev sums : a.Statement
sums = a.Assign (a.Plain (codes "t")) (a.Binary a.Add get_call (a.Literal 2))

abbrev call_of_get : op.Call
call_of_get = record {
  routine = 0;
  target = target.ClassRight 1;
  arguments = Value 1 (negsuc 32767) (pos 32767) (Item (Rooted (Through 0 0))) ∷ [];
  words = 1;
  temps = 0;
}

abbrev after_go : List Task
after_go = EndCall go_env None ∷ after_run

go_end_left : (n : ℤ) → Remaining ground (n ∷ []) frames_limit nothing_known in_go go_frames 5 0 after_go
go_end_left n = (
  refl,
  record { frame = go_frame; runs = refl; owner = refl; return = refl },
  (refl, refl, tt),
  (
    in_run,
    9,
    0,
    0,
    run_runs,
    record { base = refl; temp = refl; component = refl; words_apart = le _ _ refl; temps_apart = le _ _ refl; kept_fit = le 0 _ refl },
    (refl, refl),
    run_left n,
  ),
)

sums_code : (K : ℕ → ℤ → Type 0) → CodeFor (site ground in_go) K sums 7 5 0
sums_code K = (6, op.Set (Rooted (Through 0 0)) (negsuc 32767) (pos 32767) (Binary a.Add (Made 0) (Number (pos 2))) 5, refl, (Integer, Integer, pos 0, 7, 0, refl, le 0 _ refl, le 0 _ refl, (refl, (refl, t_named)), (Integer, Integer, 6, 1, refl, refl, le 0 1 refl, le 1 1 refl, (record { routine = get; of = Some (record { name = codes "a"; system = c; is_parameter = true }) }, call_of_get, 7, 0, refl, record { means = refl; target = record { variable = one (type_of c); lies = refl; inner = reported_members g c; type = refl; no_member = refl }; runs = record { text = refl; unit = unit_at program 0; there = refl; fits = record { words = le _ _ refl; temps = le _ _ refl; frames = le _ _ refl }; words = refl; temps = refl } }, (Integer, pos 0, 7, 0, refl, refl, refl, le 0 _ refl, le 0 _ refl, (negsuc 32767, pos 32767, pos 0, refl, refl, (refl, (refl, t_named))), refl), (codes "integer", refl, refl), le 0 _ refl, le 0 _ refl, le 1 1 refl), (refl, refl, refl))))

go_left : (K : ℕ → ℤ → Type 0) (n : ℤ) → Remaining ground (n ∷ []) frames_limit K in_go go_frames 7 0 (Do sums go_env ∷ after_go)
go_left K n = (refl, tt, (5, 0, le 0 0 refl, sums_code K, go_end_left n))

-- ---- Inside `get`, at its end

abbrev get_frame : Frame
get_frame = record { owner = OfActivation 2 2; routine = get }

abbrev get_env : Environment
get_env = routine_environment g c get (under at (ByName (codes "s") ∷ [])) (OfActivation 2 2)

abbrev in_get : Running
in_get = record { number = 0; unit = unit_at program 0; text = RoutineOf c get; env = get_env; base = 11; temp = 0; component = 2 }

abbrev frame_of_go : machine.Frame
frame_of_go = record { counter = 6; base = 10; temp = 0; component = 6; into = 0; gate = 0; held = 0 }

pub get_runs : Runs ground temps_count frames_limit in_get (frame_of_go ∷ go_frames)
get_runs = record {
  unit = refl;
  text = refl;
  globals = refl;
  system = refl;
  frame = refl;
  component = ClassLies refl refl;
  words_fit = le _ _ refl;
  temps_fit = le _ _ refl;
  frames_fit = le _ _ refl;
  activation_fits = le _ _ refl;
}

pub get_left : (n : ℤ)
    → Remaining ground (n ∷ []) frames_limit (held_below 0 (n ∷ []) 0) in_get (frame_of_go ∷ go_frames) 0 0
    (EndCall get_env None ∷ Do sums go_env ∷ after_go)
get_left n = (
  refl,
  record { frame = get_frame; runs = refl; owner = refl; return = refl },
  (refl, refl, tt),
  (
    in_go,
    7,
    0,
    0,
    go_runs,
    record { base = refl; temp = refl; component = refl; words_apart = le _ _ refl; temps_apart = le _ _ refl; kept_fit = le 0 _ refl },
    (call_of_get, 0, refl, refl, le 0 0 refl, refl, refl),
    go_left (kept_below 0 0 (n ∷ []) 0) n,
  ),
)
