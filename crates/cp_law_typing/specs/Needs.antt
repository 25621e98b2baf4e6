-- Needs: how many words of its process an activation takes, together with everything that it calls,
-- and how many words a process or a monitor takes in all.
use Rattle.std.specs.Prelude.{◌≤◌, ℕ, suc, ◌+◌, zero, max, if◌then◌else◌, List, [], ◌∷◌, Option, None, Some}
use Rattle.cp_model.specs.Abstract.{Arms, Assign, At, Binary, Call, Case, Class, Cycle, Designator, Expression, Expressions, For, If, Init, MoreArms, MoreExpressions, Name, Negative, NoArm, NoExpression, Not, Nothing, Part, Perform, Plain, Positive, Process, Repeat, Routine, Seq, Sort, Statement, System, Use, While}
use Rattle.cp_model.specs.RulesTypes.{word_limit}
use Rattle.cp_model.specs.Types.{ComponentOf, GlobalScope, ResolvedType}
use Rattle.cp_model.specs.Declarations.{Variable, declarations, globals, reported_members}
use Rattle.cp_model.specs.Locations.{OfProcess, root}
use Rattle.cp_model.specs.Environments.{Environment, Frame}
use Rattle.cp_model.specs.Components.{Component, component_named}
use Rattle.cp_model.specs.Calls.{Callee, callee}
use Rattle.cp_model.specs.States.{Setup}
use Rattle.cp_law_typing.specs.Words.{rights_in, words, words_of_members, words_of_variables}

-- ---- Of calls

-- the greatest need of the calls, and of the components that are initialised
module _ (of_call : Callee → ℕ) (of_start : Component → ℕ) (env : Environment) where
  abbrev pub of_callee : Option Callee → ℕ
  of_callee None = 0
  of_callee (Some c) = of_call c

  abbrev pub of_component : Option Component → ℕ
  of_component None = 0
  of_component (Some c) = of_start c

  abbrev mutual
    pub in_expression : Expression → ℕ
    in_expression (Use d) = max (of_callee (callee env d)) (in_designator d)
    in_expression (Call d es) = max (of_callee (callee env d)) (in_expressions es)
    in_expression (Not e) = in_expression e
    in_expression (Negative e) = in_expression e
    in_expression (Positive e) = in_expression e
    in_expression (Binary o a b) = max (in_expression a) (in_expression b)
    in_expression _ = 0

    pub in_expressions : Expressions → ℕ
    in_expressions NoExpression = 0
    in_expressions (MoreExpressions e es) = max (in_expression e) (in_expressions es)

    pub in_designator : Designator → ℕ
    in_designator (Plain x) = 0
    in_designator (Part d x) = in_designator d
    in_designator (At d e) = max (in_designator d) (in_expression e)

  abbrev mutual
    pub in_statement : Statement → ℕ
    in_statement Nothing = 0
    in_statement (Seq a b) = max (in_statement a) (in_statement b)
    in_statement (Assign d e) = max (in_designator d) (in_expression e)
    in_statement (Perform d es) = max (of_callee (callee env d)) (in_expressions es)
    in_statement (If e a b) = max (in_expression e) (max (in_statement a) (in_statement b))
    in_statement (Case e arms) = max (in_expression e) (in_arms arms)
    in_statement (While e s) = max (in_expression e) (in_statement s)
    in_statement (Repeat s e) = max (in_statement s) (in_expression e)
    in_statement (For v down a b s) = max (max (in_expression a) (in_expression b)) (in_statement s)
    in_statement (Cycle s) = in_statement s
    in_statement (Init x es) = max (of_component (component_named env x)) (in_expressions es)

    pub in_arms : Arms → ℕ
    in_arms NoArm = 0
    in_arms (MoreArms ls s rest) = max (in_statement s) (in_arms rest)

abbrev pub parameter_words : GlobalScope → List (Name × Variable) → ℕ
parameter_words g [] = 0
parameter_words g (v ∷ vs) = (if v.1.by_reference then 1 else words g v.1.type) + parameter_words g vs

abbrev pub result_words : Option Name → ℕ
result_words None = 0
result_words (Some t) = 1

abbrev pub activation_words : GlobalScope → Routine → ℕ
activation_words g r =
    1 + result_words r.result + parameter_words g (declarations g r.parameters) + words_of_variables g (declarations g r.variables)

-- names mean the same wherever a component and its activation are
abbrev pub frame_of : Option Routine → Option Frame
frame_of None = None
frame_of (Some r) = Some (record { owner = OfProcess 0; routine = r })

abbrev pub some_environment : GlobalScope → System → Option Routine → Environment
some_environment g s f = record { globals = g; system = s; component = root (OfProcess 0); frame = frame_of f }

abbrev pub callee_system : System → Option Component → System
callee_system s None = s
callee_system s (Some m) = m.system

-- a process runs its body itself
abbrev pub of_body : Sort → ℕ → ℕ
of_body Process n = 0
of_body _ n = n

-- the need of a statement, counting calls to the given depth
abbrev pub statement_need : ℕ → GlobalScope → System → Option Routine → Statement → ℕ
statement_need zero g s f x = 0
statement_need (suc n) g s f x =
    in_statement (λ c. activation_words g c.routine + statement_need n g (callee_system s c.of) (Some c.routine) c.routine.body)
    (λ m. of_body m.system.sort (statement_need n g m.system None m.system.body)) (some_environment g s f) x

-- what a call takes, and what the `init` of a component takes, in a component of this system type
abbrev pub call_need : ℕ → GlobalScope → System → Callee → ℕ
call_need n g s c = activation_words g c.routine + statement_need n g (callee_system s c.of) (Some c.routine) c.routine.body

abbrev pub start_need : ℕ → GlobalScope → Component → ℕ
start_need n g m = of_body m.system.sort (statement_need n g m.system None m.system.body)

-- ---- Of owners

abbrev pub process_need : Sort → ℕ → ℕ
process_need Process n = n
process_need _ n = 0

abbrev pub owner_words : ℕ → GlobalScope → System → ℕ
owner_words n g s = 1 + rights_in g s + words_of_members g (reported_members g s) + process_need s.sort (statement_need n g s None s.body)

-- the words of a class are among those of the owner of its variable
abbrev pub words_as_owner : Sort → ℕ → ℕ
words_as_owner Class n = 0
words_as_owner _ n = n

-- a process or monitor that a variable of the initial process declares has no more words than an
-- owner may have
abbrev pub OwnerFits : ℕ → GlobalScope → ResolvedType → Type 0
OwnerFits n g (ComponentOf s inner) = words_as_owner s.sort (owner_words n g s) ≤ word_limit
OwnerFits n g _ = Unit {0}

abbrev pub AllOwnersFit : ℕ → GlobalScope → List (Name × Variable) → Type 0
AllOwnersFit n g [] = Unit {0}
AllOwnersFit n g (v ∷ vs) = OwnerFits n g v.1.type × AllOwnersFit n g vs

-- every process and every monitor fits, however deep its calls
pub record WordsFit (setup : Setup) : Type 0 where
  pub initial : (n : ℕ) → owner_words n (globals setup.tree) setup.tree.initial ≤ word_limit
  pub others : (n : ℕ) → AllOwnersFit n (globals setup.tree) (declarations (globals setup.tree) setup.tree.initial.variables)
