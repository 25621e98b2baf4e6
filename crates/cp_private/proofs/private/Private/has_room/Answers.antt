use Rattle.std.proofs.Common.{rules, arith, ◌≡◌, ◌+◌, ◌++◌, true, length, refl, ap, ◌∙◌}
use Rattle.std.specs.Prelude.{nat_le, nat_lt}
use Rattle.std.proofs.lemmas.Bool.{le-ltb, lt-ltb}
use Rattle.std.proofs.lemmas.List.{length-append}
use Rattle.cp_private.proofs.InUse.{length-frames}
use Rattle.cp_private.proofs.private.Private.has_room.Goals as goal

pub returns-then-self-clause-value : goal.returns-then-self-clause-value
returns-then-self-clause-value c =
    λ plans w input own.
    let fs = c.args.self.now.frames.items in
    let depth = c.args.self.now.depth in
    let full = ap (λ n. nat_lt n (length fs)) (length-frames depth fs) ∙ le-ltb depth (length fs) (omega (arith, c.args.self.now.facts)) in
    rw full refl

pub returns-clause-value : goal.returns-clause-value
returns-clause-value c =
    λ plans w input own.
    let x = c.args.self.now in
    let fs = x.frames.items in
    let call = c.args.call.now in
    let unit = c.args.unit.now in
    let free = ap (λ n. nat_lt n (length fs)) (length-frames x.depth fs) ∙ lt-ltb x.depth (length fs) (omega (arith, c.args.self.now.facts)) in
    let words : nat_le (x.memory.base + call.words + unit.words) (length x.memory.words.items) ≡ true = search rules in
    let temps : nat_le (x.memory.temp + call.temps + unit.temps) (length x.memory.temps.items) ≡ true = search rules in
    let all : c.len-3.result + length c.args.shared.now ≡ length (x.memory.words.items ++ c.args.shared.now) =
    omega (arith, length-append x.memory.words.items c.args.shared.now) in
    rw (free, own, words, temps) (ap (nat_le c.args.component) all)
