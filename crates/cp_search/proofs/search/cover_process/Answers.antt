use Rattle.std.proofs.Common.{◌-◌, ◌<◌, refl, subst, sym, arith}
use Rattle.std.proofs.lemmas.Result.{IfOk-weaker}
use Rattle.cp_program.specs.View as view
use Rattle.cp_search_states.specs.SearchStates.{input_of}
use Rattle.cp_search_store.specs.States.{core_at, state_count}
use Rattle.cp_search_store.specs.declared.moves.Moves.{Moves}
use Rattle.cp_search_store.specs.declared.moves.Outcome.{Outcome}
use Rattle.cp_search_store.specs.declared.moves.Outcome.TheVariants.{Leads, NotLate}
use Rattle.cp_search_store.proofs.Growing.{more_count}
use Rattle.cp_search_store.proofs.Made.{kernel_number_below, part_number_below}
use Rattle.cp_search.specs.SearchResults.{IsCoveredNow, IsFound, exchanged}
use Rattle.cp_search.proofs.Exchanged.{exchanged_rests, key_after, not_late}
use Rattle.cp_search.proofs.Searched.{cores_at, keeps_more, more_grows, tried_after, tried_no, tried_yes}
use Rattle.cp_search.proofs.Batched.{some_grown}
use Rattle.cp_search.proofs.search.cover_process.Goals as goal

pub move_of-requires-clause-kernel : goal.move_of-requires-clause-kernel
move_of-requires-clause-kernel c =
    kernel_number_below c.args.space.now.store c.requires.ready.sound c.args.i c.in-Some.key.kernel c.in-Some.ensures.kernel

pub move_of-requires-clause-part : goal.move_of-requires-clause-part
move_of-requires-clause-part c =
    part_number_below c.args.space.now.store c.requires.ready.sound c.args.i (c.args.p - 1) c.in-Some.key.part c.in-Some.ensures.part

pub cover_found-requires-clause-ready : goal.cover_found-requires-clause-ready
cover_found-requires-clause-ready c = c.in_ok-outcome.ensures.ready

pub cover_found-requires-clause-within : goal.cover_found-requires-clause-within
cover_found-requires-clause-within c =
    let count = more_count c.args.space.now.store c.move_of.new.space.store c.in_ok-outcome.ensures.more in
    let within = c.requires.within in
    omega (arith, count, within)

pub cover_found-requires-clause-found : goal.cover_found-requires-clause-found
cover_found-requires-clause-found c =
    let program = view.program c.args.program.now in
    let inputs = input_of c.args.inputs.now in
    let old = c.args.space.now.store in
    let mid = c.move_of.new.space.store in
    let more = c.in_ok-outcome.ensures.more in
    some_grown program inputs old mid (more_grows program inputs old mid c.requires.ready.sound more) (keeps_more old mid more) c.args.i c.args.p c.args.found c.requires.found

pub returns-in-NotLate : goal.returns-in-NotLate
returns-in-NotLate c = λ e.
    let program = view.program c.args.program.now in
    let inputs = input_of c.args.inputs.now in
    let i = c.args.i in
    let p = c.args.p in
    let key = c.in-Some.key in
    let old = c.args.space.now.store in
    let mid = c.move_of.new.space.store in
    let ms = c.move_of.new.space.moves.moves.items in
    let found : IsFound program inputs old key NotLate mid ms = subst (λ (o : Outcome). IsFound program inputs old key o mid ms) c.in-NotLate.is c.in_ok-outcome.ensures in
    let count = more_count old mid found.more in
    let within = c.requires.within in
    let below : i < state_count mid = omega (arith, count, within) in
    tried_after program inputs ms i p old mid mid c.requires.ready.sound found.more
    (tried_no program inputs ms i p mid (core_at inputs mid i) below found.ready refl
    (not_late inputs mid i p key (key_after old mid i p key found.more c.in-Some.ensures) c.requires.first program found.is))

pub returns-in-Wide : goal.returns-in-Wide
returns-in-Wide c =
    let program = view.program c.args.program.now in
    let inputs = input_of c.args.inputs.now in
    let new = c.cover_found.new.space in
    IfOk-weaker c.cover_found.result _ _
    (λ done covered e.
    tried_after program inputs new.moves.moves.items c.args.i c.args.p c.args.space.now.store c.move_of.new.space.store new.store
    c.requires.ready.sound c.in_ok-outcome.ensures.more (covered e))
    c.cover_found.ensures

pub add_exchanged-requires-clause-sound : goal.add_exchanged-requires-clause-sound
add_exchanged-requires-clause-sound c = c.in_ok-outcome.ensures.ready.sound

pub add_exchanged-requires-clause-kernel : goal.add_exchanged-requires-clause-kernel
add_exchanged-requires-clause-kernel c =
    let program = view.program c.args.program.now in
    let inputs = input_of c.args.inputs.now in
    let key = c.in-Some.key in
    let old = c.args.space.now.store in
    let mid = c.move_of.new.space.store in
    let ms = c.move_of.new.space.moves.moves.items in
    let found : IsFound program inputs old key (Leads c.in-Leads.kernel c.in-Leads.part) mid ms =
    subst (λ (o : Outcome). IsFound program inputs old key o mid ms) c.in-Leads.is c.in_ok-outcome.ensures in
    found.is.is.kernel_below

pub add_exchanged-requires-clause-part : goal.add_exchanged-requires-clause-part
add_exchanged-requires-clause-part c =
    let program = view.program c.args.program.now in
    let inputs = input_of c.args.inputs.now in
    let key = c.in-Some.key in
    let old = c.args.space.now.store in
    let mid = c.move_of.new.space.store in
    let ms = c.move_of.new.space.moves.moves.items in
    let found : IsFound program inputs old key (Leads c.in-Leads.kernel c.in-Leads.part) mid ms =
    subst (λ (o : Outcome). IsFound program inputs old key o mid ms) c.in-Leads.is c.in_ok-outcome.ensures in
    found.is.is.part_below

pub returns-in-Leads : goal.returns-in-Leads
returns-in-Leads c =
    let program = view.program c.args.program.now in
    let inputs = input_of c.args.inputs.now in
    let i = c.args.i in
    let p = c.args.p in
    let key = c.in-Some.key in
    let old = c.args.space.now.store in
    let mid = c.move_of.new.space.store in
    let ms = c.move_of.new.space.moves.moves.items in
    let new = c.add_exchanged.new.self in
    let kernel = c.in-Leads.kernel in
    let part = c.in-Leads.part in
    let found : IsFound program inputs old key (Leads kernel part) mid ms = subst (λ (o : Outcome). IsFound program inputs old key o mid ms) c.in-Leads.is c.in_ok-outcome.ensures in
    let count = more_count old mid found.more in
    let within = c.requires.within in
    let below : i < state_count mid = omega (arith, count, within) in
    let both = exchanged_rests inputs mid i p key (key_after old mid i p key found.more c.in-Some.ensures) c.requires.first program kernel part found.is c.requires.last
    (found.ready.rest.each i (core_at inputs mid i) (cores_at inputs mid i below)) in
    IfOk-weaker c.add_exchanged.result _ _
    (λ done added e.
    subst (λ (m : Moves). IsCoveredNow program inputs i p old new.store m.moves.items) (sym c.add_exchanged.ensures.moves)
    (tried_after program inputs ms i p old mid new.store c.requires.ready.sound found.more
    (tried_yes program inputs ms i p mid new.store (core_at inputs mid i) (exchanged inputs mid i p kernel part) below found.ready refl both.0 both.1 (added e program inputs))))
    c.add_exchanged.ensures.added
