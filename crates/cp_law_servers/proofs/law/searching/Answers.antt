use Rattle.cp_law_servers.proofs.Searched.{expanded_reports_served, no_order_is_stuck_but_servers}
use Rattle.cp_law_servers.proofs.law.searching.Goals as goal

pub returns : goal.returns
returns c = record { none_stuck = no_order_is_stuck_but_servers; reports = expanded_reports_served }
