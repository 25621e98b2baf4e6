-- What all processes are if all are done.
use Rattle.std.specs.Prelude.{Bool, List, [], false, if◌then◌else◌, refl, true, ℕ, ◌∷◌, ◌≡◌}
use Rattle.std.proofs.Common.{ap, sym, ◌∙◌}
use Rattle.std.proofs.lemmas.Bool.{true≢false}
use Rattle.cp_model.specs.Configurations as status
use Rattle.cp_model.specs.Configurations.{Status}
use Rattle.cp_model.specs.Rounds.{after_closing, close_round}
use Rattle.cp_model.specs.States.{State, processes}
use Rattle.cp_law_stillness.specs.Stillness.{can_move, none_can_move}
use Rattle.cp_law_cores.specs.Verdicts.{all_pass, has_ended, has_no_fault}
use Rattle.cp_law_servers.specs.Laws.{DoneIsSound, DoneIsStill, WithoutServers}
use Rattle.cp_law_servers.specs.Servers.{all_done, is_done}

-- ---- One process

done_rests : (servers : List ℕ) (p : ℕ) (x : Status) → is_done servers p x ≡ true → can_move x ≡ false
done_rests servers p status.Unstarted h = refl
done_rests servers p status.Fresh h = absurd (true≢false (sym h))
done_rests servers p status.Ready h = absurd (true≢false (sym h))
done_rests servers p status.Ended h = refl
done_rests servers p status.Waiting h = absurd (true≢false (sym h))
done_rests servers p (status.Asking m) h = refl
done_rests servers p (status.Delayed m q) h = refl
done_rests servers p (status.Faulted n) h = refl

done_sound : (servers : List ℕ) (p : ℕ) (x : Status) → is_done servers p x ≡ true → has_no_fault x ≡ true
done_sound servers p status.Unstarted h = refl
done_sound servers p status.Fresh h = refl
done_sound servers p status.Ready h = refl
done_sound servers p status.Ended h = refl
done_sound servers p status.Waiting h = refl
done_sound servers p (status.Asking m) h = refl
done_sound servers p (status.Delayed m q) h = refl
done_sound servers p (status.Faulted n) h = absurd (true≢false (sym h))

done_alone : (p : ℕ) (x : Status) → is_done [] p x ≡ has_ended x
done_alone p status.Unstarted = refl
done_alone p status.Fresh = refl
done_alone p status.Ready = refl
done_alone p status.Ended = refl
done_alone p status.Waiting = refl
done_alone p (status.Asking m) = refl
done_alone p (status.Delayed m q) = refl
done_alone p (status.Faulted n) = refl

done_closing : (servers : List ℕ) (p : ℕ) (x : Status) → is_done servers p (after_closing x) ≡ is_done servers p x
done_closing servers p status.Unstarted = refl
done_closing servers p status.Fresh = refl
done_closing servers p status.Ready = refl
done_closing servers p status.Ended = refl
done_closing servers p status.Waiting = refl
done_closing servers p (status.Asking m) = refl
done_closing servers p (status.Delayed m q) = refl
done_closing servers p (status.Faulted n) = refl

-- ---- All processes

first_of : (a b : Bool) → (if a then b else false) ≡ true → (a ≡ true) × (b ≡ true)
first_of true b h = (refl, h)
first_of false b h = absurd (true≢false (sym h))

none_moves : (servers : List ℕ) (s : State) (ps : List ℕ) → all_done servers s ps ≡ true → none_can_move s ps ≡ true
none_moves servers s [] h = refl
none_moves servers s (p ∷ ps) h =
    let both = first_of (is_done servers p (s.status p)) (all_done servers s ps) h in
    ap (λ b. if b then false else none_can_move s ps) (done_rests servers p (s.status p) both.0) ∙ none_moves servers s ps both.1

pub done_is_still : DoneIsStill
done_is_still servers setup s h = none_moves servers s (processes setup) h

pub done_is_sound : DoneIsSound
done_is_sound servers s [] h = refl
done_is_sound servers s (p ∷ ps) h =
    let both = first_of (is_done servers p (s.status p)) (all_done servers s ps) h in
    ap (λ b. if b then all_pass has_no_fault s ps else false) (done_sound servers p (s.status p) both.0) ∙ done_is_sound servers s ps both.1

pub without_servers : WithoutServers
without_servers s [] = refl
without_servers s (p ∷ ps) =
    let here = done_alone p (s.status p) in
    let rest = without_servers s ps in
    λ i. if here i then rest i else false

-- The end of a round changes nothing of it.
pub closing_done : (servers : List ℕ) (s : State) (ps : List ℕ) → all_done servers (close_round s) ps ≡ all_done servers s ps
closing_done servers s [] = refl
closing_done servers s (p ∷ ps) =
    let here = done_closing servers p (s.status p) in
    let rest = closing_done servers s ps in
    λ i. if here i then rest i else false
