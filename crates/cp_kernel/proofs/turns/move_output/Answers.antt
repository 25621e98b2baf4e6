use Rattle.std.proofs.Common.{rules, ◌≡◌, ◌+◌, ◌-◌, [], slice_get, length, vec_len, ap, subst, sym, ◌∙◌, arith}
use Rattle.std.proofs.lemmas.List.{nil_from_length}
use Rattle.cp_model_machine.specs.PrivateStates.{PrivateState}
use Rattle.cp_private.specs.States.{private_of}
use Rattle.cp_kernel.specs.KernelOf.{HasRoomForBytes}
use Rattle.cp_kernel.specs.Turns.{Moves}
use Rattle.cp_kernel.proofs.Transcripts.{nothing_moved}
use Rattle.cp_kernel.proofs.turns.move_output.Goals as goal

pub append-requires : goal.append-requires
append-requires c = record {
  room = λ v there.
      let xs = c.args.private.now.output in
      let same = ap length (c.output-2.ensures []) in
      let long : vec_len xs ≡ length xs.items = search rules in
      let room = c.requires.room v (ap (λ p. slice_get c.args.kernel.now.transcripts.items (p - 1)) (sym (c.number.ensures.number [])) ∙ there) in
      omega (arith, same, long, room);
}

pub returns-clause-moves : goal.returns-clause-moves
returns-clause-moves c =
    subst (λ p. Moves c.args.kernel.now c.append.new.self p c.args.private.now.output.items) (c.number.ensures.number [])
    (subst (Moves c.args.kernel.now c.append.new.self c.number.result) (c.output-2.ensures []) c.append.ensures.moves)

pub returns-clause-left : goal.returns-clause-left
returns-clause-left c = λ n h.
    let k = c.args.kernel.now in
    let k' = c.append.new.self in
    let p = c.args.private.now.number in
    let number = c.number.ensures.number [] in
    let xs = c.args.private.now.output in
    let same = ap length (c.output-2.ensures []) in
    let long : vec_len xs ≡ length xs.items = search rules in
    subst (λ q. HasRoomForBytes k' q n) number
    (c.append.ensures.left n
    (subst (λ q. HasRoomForBytes k q (length c.output-2.result.now + n)) (sym number)
    (subst (λ l. HasRoomForBytes k p (l + n)) (omega (arith, same, long)) h)))

pub returns-clause-number : goal.returns-clause-number
returns-clause-number c = ap (λ (o : PrivateState). o.number) (c.clear_output.ensures.content [])

pub returns-then-is_empty-clause-private : goal.returns-then-is_empty-clause-private
returns-then-is_empty-clause-private c = λ input.
    let none : length c.output.result.now ≡ 0 = search rules in
    let empty : c.args.private.now.output.items ≡ [] = sym (c.output.ensures []) ∙ nil_from_length c.output.result.now none in
    λ i. record (private_of c.args.private.now input) { output = empty i }

pub returns-then-is_empty-clause-moves : goal.returns-then-is_empty-clause-moves
returns-then-is_empty-clause-moves c =
    let none : length c.output.result.now ≡ 0 = search rules in
    let empty : c.args.private.now.output.items ≡ [] = sym (c.output.ensures []) ∙ nil_from_length c.output.result.now none in
    nothing_moved c.args.kernel.now c.args.private.now.number c.args.private.now.output.items empty

pub returns-then-is_empty-clause-empty : goal.returns-then-is_empty-clause-empty
returns-then-is_empty-clause-empty c =
    let none : length c.output.result.now ≡ 0 = search rules in
    let empty : c.args.private.now.output.items ≡ [] = sym (c.output.ensures []) ∙ nil_from_length c.output.result.now none in
    let all : vec_len c.args.private.now.output ≡ length c.args.private.now.output.items = search rules in
    all ∙ ap length empty
