use Rattle.std.proofs.Common.{rules, ◌≡◌, ◌+◌, ◌∷◌, ◌∙◌, List, None, Some, ap, drop, refl, slice_get, subst, sym}
use Rattle.std.proofs.lemmas.List.{at_drop_more, drop_all}
use Rattle.cp_model.specs.Erase as erase
use Rattle.cp_model.specs.View as tree
use Rattle.cp_model.specs.declared.tree.Routine.{Routine}
use Rattle.cp_compile_symbols.specs.Systems.{routines_of}
use Rattle.cp_compile_emit.specs.Planning.{known_of}
use Rattle.cp_compile_emit.proofs.Continuing.{continues_itself, continues_more}
use Rattle.cp_compile.specs.Compiles.{IsCompiled}
use Rattle.cp_compile.proofs.UnitsCompiled.{may_continue}
use Rattle.cp_compile.proofs.SystemsCompiled.{PartlyCompiled, one_routine, routine_has_table, routine_known}
use Rattle.cp_compile.proofs.system.SystemCompiler.routines.Goals as goal

pub loop-i-init : goal.loop-i-init
loop-i-init c = record {
  code = λ g s firsts d i all is. record { so_far = d; is = is; rest = refl };
  origins = λ g s firsts i all. continues_itself c.args.emitter.now.origins.items;
}

pub loop-i-preserved : goal.loop-i-preserved
loop-i-preserved c =
    let of = c.args.self.now in
    let texts = c.args.texts.now in
    let k = c.loop-i.i in
    let x = c.index-texts-i.result in
    let table = c.in-Some.table.now in
    let step : drop k texts ≡ x ∷ drop (k + 1) texts =
    at_drop_more (λ (rs : List Routine). rs) texts k x c.loop-i-test.true ∙ ap (λ (r : Routine). r ∷ drop (k + 1) texts) (sym c.index-texts-i.is) in
    let here : slice_get of.system.now.routines.items k ≡ Some table = search rules in
    record {
      code = λ g s firsts d i all is.
          let represents = routine_known of g s firsts i texts (drop (k + 1) texts) k x table all step here in
          let some =
          subst (λ (rs : List Routine). PartlyCompiled of g s firsts (routines_of rs) (routines_of texts) d c.loop-i.emitter) step
          (c.loop-i.invariant.code g s firsts d i all is) in
          one_routine of g s firsts (erase.routine (tree.routine x)) (routines_of (drop (k + 1) texts)) (routines_of texts) d c.loop-i.emitter c.routine.new.emitter some
          (λ e so. c.in_ok-routine.ensures.code g s firsts e i represents so);
      origins = λ g s firsts i all.
          let represents = routine_known of g s firsts i texts (drop (k + 1) texts) k x table all step here in
          let before = c.loop-i.emitter.origins.items in
          continues_more c.args.emitter.now.origins.items before c.routine.new.emitter.origins.items (c.loop-i.invariant.origins g s firsts i all)
          (may_continue before x.name.at c.routine.new.emitter.origins.items (c.in_ok-routine.ensures.origin g s firsts i represents));
    }

pub loop-i-preserved-in_default : goal.loop-i-preserved-in_default
loop-i-preserved-in_default c =
    let of = c.args.self.now in
    let none : slice_get of.system.now.routines.items c.loop-i.i ≡ None = search rules in
    record {
      code = λ g s firsts d i all is. absurd (routine_has_table of g s firsts i c.args.texts.now c.loop-i.i all c.loop-i-test.true none);
      origins = c.loop-i.invariant.origins;
    }

pub returns-clause-code : goal.returns-clause-code
returns-clause-code c = λ g s firsts d i all is.
    let texts = c.args.texts.now in
    let some =
    subst (λ (rs : List Routine). PartlyCompiled c.args.self.now g s firsts (routines_of rs) (routines_of texts) d c.loop-i.emitter)
    (drop_all c.loop-i.i texts c.loop-i-test.false) (c.loop-i.invariant.code g s firsts d i all is) in
    subst (IsCompiled (known_of c.args.self.now.planner.now) c.loop-i.emitter) some.rest some.is

pub returns-clause-origins : goal.returns-clause-origins
returns-clause-origins c = c.loop-i.invariant.origins
