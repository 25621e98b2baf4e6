use Rattle.std.proofs.Common.{◌≡◌, ◌∷◌, ◌++◌, ◌+◌, ◌∙◌, List, [], ap, drop, false, get_or, map, refl, sym}
use Rattle.std.proofs.lemmas.List.{append-nil, at_drop_all, at_drop_more}
use Rattle.cp_compile_symbols.specs.declared.types.Field.{Field}
use Rattle.cp_compile_symbols.specs.declared.variables.Declared.{Declared}
use Rattle.cp_compile_symbols.specs.Representing.{entry}
use Rattle.cp_compile_emit.specs.Members.{member_of}
use Rattle.cp_compile_emit.proofs.Membership.{one_added}
use Rattle.cp_compile_emit.proofs.members.add_members.Goals as goal

-- A placeholder for an index past the end of a list of declared names.
abbrev nothing : Declared
nothing = record { name = record { ref_ptr = (0, 0); now = [] }; by_reference = false; of = 0 }

pub loop-d-preserved : goal.loop-d-preserved
loop-d-preserved c =
    let all = c.args.list.now in
    let i = c.loop-d.d-index in
    let d = get_or all i nothing in
    let before = c.loop-d.members.items in
    let field : Field = record { name = d.name; of = d.of } in
    let rest = map member_of (drop (i + 1) all) in
    let step : map member_of (drop i all) ≡ member_of d ∷ rest =
    at_drop_more (λ (ds : List Declared). map member_of ds) all i nothing c.loop-d-test.true in
    ap (λ (fs : List Field). map entry fs ++ rest) c.in_ok-push.ensures.items
    ∙ (one_added before field d rest refl
    ∙ (ap (λ ms. map entry before ++ ms) (sym step) ∙ c.loop-d.invariant))

pub returns : goal.returns
returns c =
    let left = at_drop_all (λ (ds : List Declared). map member_of ds) c.args.list.now c.loop-d.d-index c.loop-d-test.false in
    sym (append-nil (map entry c.loop-d.members.items)) ∙ (ap (λ ms. map entry c.loop-d.members.items ++ ms) (sym left) ∙ c.loop-d.invariant)
