-- What the definition says of two texts, computed. In the first one both processes are delayed in a
-- queue in the second round, and the initial process ends: the state is still from then on, and not
-- before. In the second one the initial process waits for the clock: nothing happens before it is
-- woken, but the state isn't still.
use Rattle.std.specs.Prelude.{List, None, [], codes, false, refl, true, ℕ, ◌∷◌, ◌≡◌}
use Rattle.cp_model.specs.Abstract.{Expressions, Group, Init, Monitor, MoreExpressions, Name, NoExpression, Nothing, Part, Perform, Plain, Process, Seq, System, SystemDef, TypeName, Use}
use Rattle.cp_model.specs.Configurations.{Delayed, Ended, Ready, Waiting}
use Rattle.cp_model.specs.Locations.{ByName, Location, OfMonitor}
use Rattle.cp_model.specs.Rounds.{run}
use Rattle.cp_model.specs.Start.{start}
use Rattle.cp_model.specs.States.{Setup, State}
use Rattle.cp_law_stillness.specs.Stillness.{is_still}

abbrev group : List Name → Name → Group
group xs t = record { by_reference = false; names = xs; type = TypeName t }

abbrev with_one : Name → Expressions
with_one x = MoreExpressions (Use (Plain x)) NoExpression

-- ---- Two processes in queues

abbrev m : System
m = record {
  sort = Monitor;
  parameters = [];
  variables = group (codes "q" ∷ []) (codes "queue") ∷ [];
  routines =
      (record {
        name = codes "stop";
        entry = true;
        parameters = [];
        result = None;
        variables = [];
        body = Seq (Perform (Plain (codes "delay")) (with_one (codes "q"))) Nothing;
      })
      ∷ [];
  body = Nothing;
}

abbrev p : System
p = record {
  sort = Process;
  parameters = group (codes "a" ∷ []) (codes "m") ∷ [];
  variables = [];
  routines = [];
  body = Seq (Perform (Part (Plain (codes "a")) (codes "stop")) NoExpression) Nothing;
}

abbrev delayed : Setup
delayed = record {
  tree = record {
    definitions = SystemDef (codes "m") m ∷ SystemDef (codes "p") p ∷ [];
    initial = record {
      sort = Process;
      parameters = [];
      variables = group (codes "g" ∷ codes "h" ∷ []) (codes "m") ∷ group (codes "b" ∷ codes "c" ∷ []) (codes "p") ∷ [];
      routines = [];
      body =
          Seq (Seq (Init (codes "g") NoExpression) (Seq (Init (codes "h") NoExpression)
          (Seq (Init (codes "b") (with_one (codes "g"))) (Seq (Init (codes "c") (with_one (codes "h"))) Nothing)))) Nothing;
    };
  };
  inputs = λ r. [];
  tick = 1;
}

abbrev after : ℕ → State
after n = run delayed 10 n (start delayed)

abbrev queue : ℕ → Location
queue n = record { owner = OfMonitor n; path = ByName (codes "q") ∷ [] }

pub first_round : ((after 1).status 2 ≡ Ready) × ((after 1).status 3 ≡ Ready)
first_round = (refl, refl)

pub second_round : ((after 2).status 1 ≡ Ended) × ((after 2).status 2 ≡ Delayed 1 (queue 1)) × ((after 2).status 3 ≡ Delayed 2 (queue 2))
second_round = (refl, refl, refl)

pub not_before : (is_still delayed (after 0) ≡ false) × (is_still delayed (after 1) ≡ false)
not_before = (refl, refl)

pub from_then_on : (is_still delayed (after 2) ≡ true) × (is_still delayed (after 3) ≡ true)
from_then_on = (refl, refl)

-- ---- One that waits

abbrev waiting : Setup
waiting = record {
  tree = record {
    definitions = [];
    initial = record { sort = Process; parameters = []; variables = []; routines = []; body = Seq (Perform (Plain (codes "wait")) NoExpression) Nothing };
  };
  inputs = λ r. [];
  tick = 3;
}

abbrev later : ℕ → State
later n = run waiting 10 n (start waiting)

-- The first round is of the wait alone, and so is the second. In the third one the process is woken, and ends.
pub waits : ((later 1).status 1 ≡ Waiting) × ((later 2).status 1 ≡ Waiting) × ((later 3).status 1 ≡ Ended)
waits = (refl, refl, refl)

pub not_still : (is_still waiting (later 1) ≡ false) × (is_still waiting (later 2) ≡ false)
not_still = (refl, refl)

pub still_at_last : is_still waiting (later 3) ≡ true
still_at_last = refl
