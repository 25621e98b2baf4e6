-- The target of a call, by the sort and the kind of the component.
use Rattle.std.proofs.Common.{◌≡◌, ◌∙◌, Bool, Some}
use Rattle.cp_model.specs.Abstract.{Sort}
use Rattle.cp_model.specs.Components.{Component}
use Rattle.cp_model.specs.Environments.{Environment}
use Rattle.cp_model_program.specs.Scopes.{target_by, target_of}
use Rattle.cp_model_program.specs.Terms.{Target}

pub target_is : (env : Environment) (n : Component) (sort : Sort) (is_parameter : Bool) (t : Target) → sort ≡ n.system.sort
    → is_parameter ≡ n.is_parameter → t ≡ target_by env n sort is_parameter → t ≡ target_of env (Some n)
target_is env n sort is_parameter t sorted kind is = is ∙ (λ i. target_by env n (sorted i) (kind i))
