-- The standard names in parts, each after names that were declared before.
use Rattle.std.specs.Prelude.{[], codes, pos}
use Rattle.cp_model.specs.declared.rules.Entity.{Entity}
use Rattle.cp_model.specs.declared.rules.Entity.TheVariants as entity
use Rattle.cp_model.specs.declared.rules.Standard.TheVariants as standard
use Rattle.cp_model.specs.RulesEnvironment.{Names, Text, boolean, char, integer, queue}
use Rattle.cp_model.specs.Names.{lookup}
use Rattle.cp_base_names.specs.Tables.{with_new}

-- The first declaration counts.
abbrev pub with_name : Text → Entity → Names → Names
with_name x e names = with_new x e names (lookup x names)

abbrev pub with_types : Names → Names
with_types names =
    with_name (codes "queue") (entity.Type queue) (with_name (codes "char") (entity.Type char)
    (with_name (codes "boolean") (entity.Type boolean) (with_name (codes "integer") (entity.Type integer) names)))

abbrev pub with_constants : Names → Names
with_constants names =
    with_name (codes "true") (entity.Constant boolean (pos 1)) (with_name (codes "false") (entity.Constant boolean (pos 0)) names)

abbrev pub with_functions : Names → Names
with_functions names =
    with_name (codes "empty") (entity.Standard standard.Empty) (with_name (codes "chr") (entity.Standard standard.Chr)
    (with_name (codes "ord") (entity.Standard standard.Ord) (with_name (codes "pred") (entity.Standard standard.Pred)
    (with_name (codes "succ") (entity.Standard standard.Succ) (with_name (codes "abs") (entity.Standard standard.Abs) names)))))

abbrev pub with_procedures : Names → Names
with_procedures names =
    with_name (codes "wait") (entity.Standard standard.Wait) (with_name (codes "realtime") (entity.Standard standard.Realtime)
    (with_name (codes "accept") (entity.Standard standard.Accept) (with_name (codes "display") (entity.Standard standard.Display)
    (with_name (codes "continue") (entity.Standard standard.Continue) (with_name (codes "delay") (entity.Standard standard.Delay) names)))))
