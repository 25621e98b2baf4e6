-- Called routines, in the code and in the definitions.
use Rattle.std.specs.Prelude.{◌≡◌, ℕ, List, [], ◌∷◌, map, Option, None, Some}
use Rattle.cp_model.specs.declared.rules.Violation.{Violation}
use Rattle.cp_model.specs.RulesJudged.{Judged, Sound, least, violations_of, meaning_of}
use Rattle.cp_model.specs.RulesEnvironment as r
use Rattle.cp_model.specs.RulesNames as n
use Rattle.cp_model.specs.declared.rules.Entity.{Entity}
use Rattle.cp_model.specs.declared.rules.Want.{Want}
use Rattle.cp_model.specs.declared.rules.Want.TheVariants as want
use Rattle.cp_rules_body.specs.declared.callees.Wants.{Wants}
use Rattle.cp_rules_body.specs.declared.callees.Wants.TheVariants as wants
use Rattle.cp_rules_body.specs.declared.callees.Callee.{Callee}

abbrev pub wants_of : r.Environment → Wants → List Want
wants_of env wants.Nothing = []
wants_of env (wants.One w) = w ∷ []
wants_of env (wants.Parameters first count) = map want.Parameter (r.parameters_from env first count)

abbrev pub callee : r.Environment → Callee → n.Callee
callee env c = record { wants = wants_of env c.wants; gives = c.gives }

abbrev pub callee_if : r.Environment → Option Callee → Option n.Callee
callee_if env None = None
callee_if env (Some c) = Some (callee env c)

-- The answer is the routine that is called, and the earliest violation is kept.
abbrev pub ReportsCallee : r.Environment → Option Violation → Option Violation → Option Callee → Judged n.Callee → Type 0
ReportsCallee env old new answer j = (new ≡ least old (violations_of j)) × (callee_if env answer ≡ meaning_of j)

-- What `ReportsCallee` says, in every environment.
abbrev pub ReportsWherever : Option Violation → Option Violation → Option Callee → (r.Environment → Judged n.Callee) → Type 0
ReportsWherever old new answer k = (env : r.Environment) → ReportsCallee env old new answer (k env)

-- What the arguments must satisfy, if it is known what the name before them represents.
abbrev pub wants_known : r.Environment → Option Entity → List Want
wants_known env None = []
wants_known env (Some e) = n.wants_named env (Sound e)

abbrev pub wants_if : r.Environment → Option Entity → Option Callee → List Want
wants_if env e None = wants_known env e
wants_if env e (Some c) = wants_of env c.wants

-- The type of what a call gives, if what is called and the type of the first argument are known.
abbrev pub result_if : r.Environment → Option Callee → Option ℕ → Option ℕ
result_if env (Some c) (Some t) = Some (n.given_type env t c.gives)
result_if env c t = None
