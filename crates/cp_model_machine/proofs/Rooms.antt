-- What exists has room, and is identified by its place.
use Rattle.std.proofs.Common.{◌≡◌, ℕ, ◌+◌, ◌≤◌, ◌<◌, pos, length, true, ap}
use Rattle.std.specs.Prelude.{◌&&◌, ◌-ℤ◌, if◌then◌else◌}
use Rattle.std.proofs.lemmas.Bool.{le-leb, lt-ltb}
use Rattle.cp_model_program.specs.Programs.{Call, CodeUnit}
use Rattle.cp_model_machine.specs.PrivateStates.{StepContext, PrivateState}
use Rattle.cp_model_machine.specs.Passing.{distance_word, reference_word}
use Rattle.cp_model_machine.specs.Calling.{has_room}

pub refers : (o : PrivateState) (at : ℕ) → at ≤ length o.words → reference_word o at ≡ pos at
refers o at h = ap (λ b. if b then pos at else pos 0) (le-leb at (length o.words) h)

pub far : (o : PrivateState) (at from : ℕ) → at ≤ length o.words → from ≤ length o.words → distance_word o at from ≡ pos at -ℤ pos from
far o at from h k = λ i. if le-leb at (length o.words) h i && le-leb from (length o.words) k i then pos at -ℤ pos from else pos 0

pub room_for : (w : StepContext) (o : PrivateState) (call : Call) (u : CodeUnit) (component : ℕ) → length o.frames < o.limit → o.base + call.words + u.words ≤ w.own
    → o.temp + call.temps + u.temps ≤ length o.temps → component ≤ length o.words → has_room w o call u component ≡ true
room_for w o call u component frames words temps there = λ i.
    lt-ltb (length o.frames) o.limit frames i
    && (le-leb (o.base + call.words + u.words) w.own words i
    && (le-leb (o.temp + call.temps + u.temps) (length o.temps) temps i && le-leb component (length o.words) there i))
