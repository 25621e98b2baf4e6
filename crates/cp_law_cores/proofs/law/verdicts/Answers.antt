use Rattle.cp_law_cores.proofs.Verdicts.{core_reports_end, core_reports_faults, core_reports_sound, core_reports_still}
use Rattle.cp_law_cores.proofs.law.verdicts.Goals as goal

pub returns : goal.returns
returns c = record {
  still = core_reports_still;
  end = core_reports_end;
  sound = core_reports_sound;
  faults = core_reports_faults;
}
