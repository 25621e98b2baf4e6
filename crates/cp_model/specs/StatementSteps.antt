-- One step of a statement in which no user call is left.
use Rattle.std.specs.Prelude.{Bool, List, None, Option, Some, [], false, if◌then◌else◌, int_lt, negsuc, pos, true, ℤ, ◌+ℤ◌, ◌||◌, ◌∷◌}
use Rattle.cp_model.specs.Abstract.{Arms, Assign, Case, Constant, Cycle, For, If, Init, Integer, MoreArms, Name, NoArm, Perform, Plain, Statement}
use Rattle.cp_model.specs.Types.{GlobalScope, constant_value}
use Rattle.cp_model.specs.Integers.{same_integer}
use Rattle.cp_model.specs.Outcomes.{Fault, and_then}
use Rattle.cp_model.specs.Environments.{Environment}
use Rattle.cp_model.specs.Places.{TypedValue, ordinal_of, simple_value}
use Rattle.cp_model.specs.Continuations.{Do, ForNext, Task, push}
use Rattle.cp_model.specs.Components.{component_named}
use Rattle.cp_model.specs.Configurations.{Configuration, Context, StepResult, designation, evaluation, own_step, with_continuation, with_writes}
use Rattle.cp_model.specs.Assignments.{writes_of}
use Rattle.cp_model.specs.StandardCalls.{standard_statement}
use Rattle.cp_model.specs.Initialisation.{init_component}

abbrev pub is_true : TypedValue → Bool
is_true v = same_integer (ordinal_of v) (pos 1)

-- ---- case

abbrev pub has_label : GlobalScope → ℤ → List Constant → Bool
has_label g n [] = false
has_label g n (l ∷ ls) =
    elim (constant_value g l) [ None ↦ has_label g n ls | Some b ↦ same_integer b.1 n || has_label g n ls ]

abbrev pub chosen_arm : GlobalScope → ℤ → Arms → Option Statement
chosen_arm g n NoArm = None
chosen_arm g n (MoreArms ls s rest) = if has_label g n ls then Some s else chosen_arm g n rest

-- ---- for

abbrev pub is_past : Bool → ℤ → ℤ → Bool
is_past false n last = int_lt last n
is_past true n last = int_lt n last

abbrev pub next_counter : Bool → ℤ → ℤ
next_counter false n = n +ℤ pos 1
next_counter true n = n +ℤ negsuc 0

-- The variable gets the counter, and the statement and the next test are left.
abbrev pub for_step
    : Context → Configuration → Environment → List Task → Name → Bool → ℤ → ℤ → Statement → StepResult
for_step context config env k v down n last s =
    and_then (designation context config env (Plain v)) (λ at.
    and_then (writes_of at.at at.type (simple_value Integer n)) (λ ws.
    own_step (with_writes config ws (push s env (ForNext v down n last s env ∷ k)))))

-- ---- All statements

abbrev pub execute : Context → Configuration → Environment → List Task → Statement → StepResult
execute context config env k (Assign d e) =
    and_then (designation context config env d) (λ at.
    and_then (evaluation context config env e) (λ v.
    and_then (writes_of at.at at.type v) (λ ws.
    own_step (with_writes config ws k))))
execute context config env k (Perform d arguments) = standard_statement context config env k d arguments
execute context config env k (If e a b) =
    and_then (evaluation context config env e) (λ v.
    own_step (with_continuation config (if is_true v then push a env k else push b env k)))
execute context config env k (Case e arms) =
    and_then (evaluation context config env e) (λ v.
    elim (chosen_arm env.globals (ordinal_of v) arms) [
      | None ↦ Fault 8
      | Some s ↦ own_step (with_continuation config (push s env k))
    ])
execute context config env k (For v down a b s) =
    and_then (evaluation context config env a) (λ x.
    and_then (evaluation context config env b) (λ y.
    if is_past down (ordinal_of x) (ordinal_of y)
    then own_step (with_continuation config k)
    else for_step context config env k v down (ordinal_of x) (ordinal_of y) s))
execute context config env k (Cycle s) = own_step (with_continuation config (push s env (Do (Cycle s) env ∷ k)))
execute context config env k (Init x arguments) =
    elim (component_named env x) [
      | None ↦ own_step (with_continuation config k)
      | Some n ↦ init_component n.system.sort context config env k arguments n
    ]
execute context config env k _ = own_step (with_continuation config k)
