use Rattle.std.proofs.Common.{◌≡◌, ◌∙◌, ◌∷◌, Bool, true, false, List, Some, ap, map, sym, rules, if◌then◌else◌}
use Rattle.std.specs.Str.{bytes_eq}
use Rattle.cp_model.specs.Names.{lookup}
use Rattle.cp_model.specs.RulesEnvironment.{Text}
use Rattle.cp_base_names.specs.Tables.{named}
use Rattle.cp_base_names.specs.declared.name.Name.{Name}
use Rattle.cp_base_names.proofs.table.NameTable.first_with.Goals as goal

-- the first of the names that are left
first : {A : Type 0} (x : Text) (es rest : List (Name × A)) (k : Name) (v : A) (b : Bool) → es ≡ (k, v) ∷ rest → b ≡ bytes_eq x k.letters.now
    → lookup x (map named es) ≡ (if b then Some v else lookup x (map named rest))
first {A} x es rest k v b steps is =
    ap (λ fs. lookup x (map named fs)) steps ∙ sym (ap (λ (c : Bool). if c then Some v else lookup x (map named rest)) is)

pub loop-found-init : goal.loop-found-init
loop-found-init g c = (
  search rules,
  search rules,
  ap (λ es. lookup c.args.name.now (map named es)) (c.into_iter-found-iterator.ensures.into_iter_gives ∙ c.iter-found-items.ensures.rest)
      ∙ ap (lookup c.args.name.now) c.self.view_is,
)

pub loop-found-preserved : goal.loop-found-preserved
loop-found-preserved g c = (
  search rules,
  search rules,
  sym (first c.args.name.now c.loop-found.found-iterator c.next.new.self c.in-Some.found.now c.in-Some.value.now false c.in-Some.ensures.steps c.if-eq.ensures)
      ∙ c.loop-found.invariant.2,
)

pub returns-then-eq : goal.returns-then-eq
returns-then-eq g c =
    sym (first c.args.name.now c.loop-found.found-iterator c.next.new.self c.in-Some.found.now c.in-Some.value.now true c.in-Some.ensures.steps c.if-eq.ensures)
    ∙ c.loop-found.invariant.2

pub returns : goal.returns
returns g c = sym (ap (λ es. lookup c.args.name.now (map named es)) c.in-None.ensures.steps.0) ∙ c.loop-found.invariant.2
