-- The counts of a report.
use Rattle.schedule_core.specs.declared.job.Report.{Report}
use Rattle.schedule_core.specs.declared.lanes.Tally.{Tally}

abbrev pub tally_of : Report → Tally
tally_of report =
    record {
      tasks = report.tasks;
      beats = report.beats;
      skipped = report.skipped;
      instructions =
          report.instructions;
    }
