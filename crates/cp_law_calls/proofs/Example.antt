-- Processes and a monitor, computed. Process 2 is in the monitor and about to leave, and process 3 calls it.
-- If 3 asks before 2 leaves, or enters afterwards, the same is left.
--
-- The steps that count as late don't change places with each other: two calls of one monitor, and a call of
-- a monitor and its `init`.
use Rattle.std.specs.Prelude.{List, None, [], codes, false, refl, true, ℕ, ◌∷◌, ◌≡◌}
use Rattle.cp_model.specs.Abstract.{Expressions, Group, Init, Monitor, MoreExpressions, Name, NoExpression, Nothing, Part, Perform, Plain, Process, Seq, System, SystemDef, TypeName, Use}
use Rattle.cp_model.specs.Configurations.{Asking, Ended, Faulted, Ready, Waiting}
use Rattle.cp_model.specs.Start.{start}
use Rattle.cp_model.specs.States.{Free, HeldBy, Setup, State}
use Rattle.cp_model.specs.Turns.{step}
use Rattle.cp_law_calls.specs.Clocks.{text_is_timeless}
use Rattle.cp_law_calls.specs.Orders.{closed, machine}
use Rattle.cp_law_calls.specs.Runs.{callers}
use Rattle.cp_law_calls.specs.Ways.{Eager, Idle, Late, way}

abbrev group : List Name → Name → Group
group xs t = record { by_reference = false; names = xs; type = TypeName t }

abbrev with_one : Name → Expressions
with_one x = MoreExpressions (Use (Plain x)) NoExpression

abbrev m : System
m = record {
  sort = Monitor;
  parameters = [];
  variables = [];
  routines =
      (record {
        name = codes "visit";
        entry = true;
        parameters = [];
        result = None;
        variables = [];
        body = Nothing;
      })
      ∷ [];
  body = Nothing;
}

abbrev p : System
p = record {
  sort = Process;
  parameters = group (codes "a" ∷ []) (codes "m") ∷ [];
  variables = [];
  routines = [];
  body = Seq (Perform (Part (Plain (codes "a")) (codes "visit")) NoExpression) Nothing;
}

abbrev visits : Setup
visits = record {
  tree = record {
    definitions = SystemDef (codes "m") m ∷ SystemDef (codes "p") p ∷ [];
    initial = record {
      sort = Process;
      parameters = [];
      variables = group (codes "g" ∷ []) (codes "m") ∷ group (codes "b" ∷ codes "c" ∷ []) (codes "p") ∷ [];
      routines = [];
      body = Seq (Init (codes "g") NoExpression) (Seq (Init (codes "b") (with_one (codes "g"))) (Seq (Init (codes "c") (with_one (codes "g"))) Nothing));
    };
  };
  inputs = λ r. [];
  tick = 1;
}

abbrev moved : State → List ℕ → State
moved s [] = s
moved s (q ∷ qs) = moved (closed (step visits s q)) qs

-- `init` of the monitor, the end of its body, two of processes, the end of the initial process.
abbrev begun : State
begun = moved (closed (start visits)) (1 ∷ 1 ∷ 1 ∷ 1 ∷ 1 ∷ [])

pub both_call : (begun.status 1 ≡ Ended) × (way begun 1 ≡ Idle) × (way begun 2 ≡ Late) × (way begun 3 ≡ Late)
both_call = (refl, refl, refl, refl)

-- Process 2 has entered.
abbrev inside : State
inside = moved begun (2 ∷ [])

pub one_inside : ((inside.gates 1).holder ≡ HeldBy 2) × (way inside 2 ≡ Eager) × (way inside 3 ≡ Late)
one_inside = (refl, refl, refl)

abbrev asks_first : State
asks_first = step visits (step visits inside 3) 2

abbrev leaves_first : State
leaves_first = step visits (step visits inside 2) 3

pub in_between : ((step visits inside 3).status 3 ≡ Asking 1) × (((step visits inside 3).gates 1).askers ≡ 3 ∷ []) × (((step visits inside 2).gates 1).holder ≡ Free)
in_between = (refl, refl, refl)

pub same_left
    : (asks_first.gates 1 ≡ leaves_first.gates 1) × ((asks_first.gates 1).holder ≡ HeldBy 3) × (asks_first.status 3 ≡ Ready) × (leaves_first.status 3 ≡ Ready)
    × (asks_first.continuation 3 ≡ leaves_first.continuation 3)
same_left = (refl, refl, refl, refl, refl)

pub text : text_is_timeless visits.tree ≡ true
text = refl

-- Who calls, in two runs that end in the same state.
pub callers_are
    : (callers (machine visits) begun (2 ∷ 3 ∷ 2 ∷ 3 ∷ []) ≡ 2 ∷ 3 ∷ []) × (callers (machine visits) begun (2 ∷ 2 ∷ 3 ∷ 3 ∷ []) ≡ 2 ∷ 3 ∷ [])
callers_are = (refl, refl)

-- ---- Two calls of one monitor don't change places

-- Who calls first is inside.
pub first_is_inside
    : (((step visits (step visits begun 2) 3).gates 1).holder ≡ HeldBy 2) × (((step visits (step visits begun 3) 2).gates 1).holder ≡ HeldBy 3)
first_is_inside = (refl, refl)

-- ---- Nor do `init` of a monitor and a call of it

-- The process is started before its monitor is initialised.
abbrev early : Setup
early = record {
  tree = record {
    definitions = SystemDef (codes "m") m ∷ SystemDef (codes "p") p ∷ [];
    initial = record {
      sort = Process;
      parameters = [];
      variables = group (codes "g" ∷ []) (codes "m") ∷ group (codes "b" ∷ []) (codes "p") ∷ [];
      routines = [];
      body = Seq (Init (codes "b") (with_one (codes "g"))) (Seq (Init (codes "g") NoExpression) Nothing);
    };
  };
  inputs = λ r. [];
  tick = 1;
}

abbrev started : State
started = closed (step early (closed (start early)) 1)

pub both_late : (way started 1 ≡ Late) × (way started 2 ≡ Late)
both_late = (refl, refl)

-- After the `init` process 2 asks for the gate. Before it the call faults.
pub init_matters : ((step early (step early started 1) 2).status 2 ≡ Asking 1) × ((step early (step early started 2) 1).status 2 ≡ Faulted 6)
init_matters = (refl, refl)

-- ---- A text that uses the clock

abbrev waiting : Setup
waiting = record {
  tree = record {
    definitions = [];
    initial = record { sort = Process; parameters = []; variables = []; routines = []; body = Seq (Perform (Plain (codes "wait")) NoExpression) Nothing };
  };
  inputs = λ r. [];
  tick = 3;
}

-- Its process waits after one eager step, and no calls lead on.
pub waits : (text_is_timeless waiting.tree ≡ false) × (way (start waiting) 1 ≡ Eager) × ((step waiting (start waiting) 1).status 1 ≡ Waiting)
waits = (refl, refl, refl)
