use Rattle.std.proofs.Common.{◌≡◌, ◌∷◌, ◌∙◌, [], None, Some, Option, List, ap, map, not, sym}
use Rattle.std.proofs.lemmas.List.{map-append}
use Rattle.std.specs.Map.{lookup as map_lookup}
use Rattle.std.specs.Option.{is_some}
use Rattle.std.specs.Str.{bytes_eq}
use Rattle.indexmap.proofs.CallerLemmas.{insert_entry-new}
use Rattle.indexmap.specs.IndexMap.{insert_entry}
use Rattle.indexmap.specs.Layout.{set_value_at}
use Rattle.cp_model.specs.Names.{lookup}
use Rattle.cp_model.specs.RulesEnvironment.{Text}
use Rattle.cp_base_names.specs.Tables.{named, with_new}
use Rattle.cp_base_names.specs.declared.name.Name.{Name}
use Rattle.cp_base_names.proofs.Named.{lookup-named, put_back, same_name}
use Rattle.cp_base_names.proofs.table.NameTable.add_if_new.Goals as goal

-- what the name represented
before : {A : Type 0} (x : Text) (es : List (Name × A)) (o p : Option A) → o ≡ map_lookup (λ k. bytes_eq x k.letters.now) es → o ≡ p → lookup x (map named es) ≡ p
before x es o p old is = sym (lookup-named x es) ∙ sym old ∙ is

pub returns-in-None-clause-new : goal.returns-in-None-clause-new
returns-in-None-clause-new g c =
    let was = before c.args.name.now c.self.inside.entries.entries c.in_ok-number.first None c.in_ok-number.ensures.old c.in-None.is in
    sym (ap (λ o. not (is_some o)) (ap (lookup c.args.name.now) (sym c.self.view_is) ∙ was))

pub returns-in-None-clause-added : goal.returns-in-None-clause-added
returns-in-None-clause-added g c =
    let es = c.self.inside.entries.entries in
    let key : Name = record { letters = c.args.name } in
    let was = before c.args.name.now es c.in_ok-number.first None c.in_ok-number.ensures.old c.in-None.is in
    let new = sym c.in_ok-number.ensures.old ∙ c.in-None.is in
    ap (map named) (c.in_ok-number.ensures.entries ∙ insert_entry-new same_name c.self.inside.entries key c.args.value new)
    ∙ map-append named es ((key, c.args.value) ∷ [])
    ∙ sym (ap (with_new c.args.name.now c.args.value (map named es)) was)
    ∙ ap (λ names. with_new c.args.name.now c.args.value names (lookup c.args.name.now names)) c.self.view_is

pub returns-in-Some-clause-new : goal.returns-in-Some-clause-new
returns-in-Some-clause-new g c =
    let was = before c.args.name.now c.self.inside.entries.entries c.in_ok-number.first (Some c.in-Some.first) c.in_ok-number.ensures.old c.in-Some.is in
    sym (ap (λ o. not (is_some o)) (ap (lookup c.args.name.now) (sym c.self.view_is) ∙ was))

pub returns-in-Some-clause-added : goal.returns-in-Some-clause-added
returns-in-Some-clause-added g c =
    let es = c.self.inside.entries.entries in
    let key : Name = record { letters = c.args.name } in
    let was = before c.args.name.now es c.in_ok-number.first (Some c.in-Some.first) c.in_ok-number.ensures.old c.in-Some.is in
    ap (λ new. map named (set_value_at new c.in_ok-number.number c.in-Some.first)) c.in_ok-number.ensures.entries
    ∙ ap (λ i. map named (set_value_at (insert_entry same_name es key c.args.value) i c.in-Some.first)) c.in_ok-number.ensures.index
    ∙ ap (map named) (put_back es key c.args.value c.in-Some.first was)
    ∙ sym (ap (with_new c.args.name.now c.args.value (map named es)) was)
    ∙ ap (λ names. with_new c.args.name.now c.args.value names (lookup c.args.name.now names)) c.self.view_is
