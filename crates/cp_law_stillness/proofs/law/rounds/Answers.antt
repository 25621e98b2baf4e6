use Rattle.cp_law_stillness.proofs.Rounds.{events_grow, phased_grows, replay_grows, round_grows_count, run_grows}
use Rattle.cp_law_stillness.proofs.law.rounds.Goals as goal

pub returns : goal.returns
returns c = record {
  events = events_grow;
  round = round_grows_count;
  phased = phased_grows;
  run = run_grows;
  replay = replay_grows;
}
