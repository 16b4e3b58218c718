-- How a command ends, and its report.
use Rattle.std.specs.Prelude.{None}
use Rattle.command_runs.specs.CarryOut.{report_after_cut}
use Rattle.command_runs.specs.declared.ending.Conclusion.{Conclusion}
use Rattle.command_runs.specs.declared.ending.Ending.{Ending}
use Rattle.command_runs.specs.declared.ending.Ending.TheVariants.{WriteFault, Ended}
use Rattle.command_runs.specs.declared.finish.End.{End}
use Rattle.command_runs.specs.declared.finish.End.TheVariants.{Done, LinkFault, PeerFault, PeerStatus, Unfinished, TurnsSpent}
use Rattle.command_runs.specs.declared.finish.Finish.{Finish}

-- an ending without a report
abbrev pub without_report_of : Ending → Conclusion
without_report_of ending = record { ending = ending; report = None }

-- the end of a work
abbrev pub conclusion_of : Finish → Conclusion
conclusion_of finish = record { ending = Ended finish.end; report = finish.report }

-- the end of a work whose closing lines could not be printed whole
abbrev pub cut_short_by : End → Finish → Conclusion
cut_short_by Done finish = record { ending = WriteFault; report = report_after_cut finish }
cut_short_by LinkFault finish = conclusion_of finish
cut_short_by (PeerFault code) finish = conclusion_of finish
cut_short_by (PeerStatus name status) finish = conclusion_of finish
cut_short_by (Unfinished count) finish = conclusion_of finish
cut_short_by (TurnsSpent count) finish = conclusion_of finish

abbrev pub cut_short_of : Finish → Conclusion
cut_short_of finish = cut_short_by finish.end finish
