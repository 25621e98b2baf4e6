use Rattle.std.proofs.Common.{◌≡◌, ◌∷◌, ◌+◌, List, [], drop, get_or, map, refl, subst, sym}
use Rattle.std.proofs.lemmas.List.{at_drop_all, at_drop_more}
use Rattle.cp_compile_symbols.specs.declared.types.Field.{Field}
use Rattle.cp_compile_symbols.specs.declared.layout.Layout.{Layout}
use Rattle.cp_compile_symbols.specs.Layouts.{Counts}
use Rattle.cp_compile_symbols.specs.Representing.{entry}
use Rattle.cp_compile_symbols.proofs.Laying.{PartlyLaid, all_laid, none_laid, one_laid}
use Rattle.cp_compile_symbols.proofs.layout.Layouts.members.Goals as goal

pub loop-member-init : goal.loop-member-init
loop-member-init c = λ g types at ms laid represent counts.
    none_laid g types at ms (map entry c.args.members.now) c.bare-layout.result c.bare-layout.ensures.parts
    (subst (λ o. Counts o at) (sym c.bare-layout.ensures.words) counts) represent

-- A placeholder for an index past the end of a list of fields.
abbrev nothing : Field
nothing = record { name = record { ref_ptr = (0, 0); now = [] }; of = 0 }

pub loop-member-preserved : goal.loop-member-preserved
loop-member-preserved c = λ g types at ms laid represent counts.
    let all = c.args.members.now in
    let i = c.loop-member.member-index in
    let f = get_or all i nothing in
    let before = c.loop-member.layout in
    let after : Layout = record { words = c.sum-layout.result; parts = c.add_first.new.table } in
    let step : map entry (drop i all) ≡ (f.name.now, f.of) ∷ map entry (drop (i + 1) all) =
    at_drop_more (λ (fs : List Field). map entry fs) all i nothing c.loop-member-test.true in
    let partly = subst (λ fs. PartlyLaid g types at ms fs before) step (c.loop-member.invariant g types at ms laid represent counts) in
    one_laid g types at ms f.name.now f.of (map entry (drop (i + 1) all)) before after (record { at = before.words; of = f.of }) c.in_ok-size.size
    (λ t represents. c.in_ok-size.ensures g types t laid represents) c.sum-layout.ensures refl refl c.in_ok-add_first.ensures partly

pub returns : goal.returns
returns c = λ g types at ms laid represent counts.
    all_laid g types at ms (map entry (drop c.loop-member.member-index c.args.members.now)) c.loop-member.layout
    (at_drop_all (λ (fs : List Field). map entry fs) c.args.members.now c.loop-member.member-index c.loop-member-test.false)
    (c.loop-member.invariant g types at ms laid represent counts)
