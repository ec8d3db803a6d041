-- How the refusals of a record file are reported: the number, and the place in the file. Assumes nothing.
use Rattle.keepers.specs.declared.refusal.Adds.TheVariants.{Offset}
use Rattle.keepers.specs.declared.refusal.Refusal.{Refusal}
use Rattle.examination.specs.Refusals.{exam_refusal}
use Rattle.record_file.specs.declared.fault.FileFault.{FileFault}
use Rattle.record_file.specs.declared.fault.FileFault.TheVariants.{Header, Pair, Section, Kind, Record}

abbrev pub file_refusal : FileFault → Refusal
-- an unfit header or word type, or a directory that goes past the file's end
file_refusal Header = record { number = 17; adds = Offset 0 }
-- a pair whose section does not fit, by the pair's own offset
file_refusal (Pair at) = record { number = 17; adds = Offset at }
-- a section that is not its processor's byte and whole records
file_refusal (Section at) = record { number = 18; adds = Offset at }
-- a record whose kind is over 5
file_refusal (Kind at) = record { number = 19; adds = Offset at }
-- an admission that was refused keeps its number, and gains the record's offset
file_refusal (Record p) = record { number = (exam_refusal p.fault).number; adds = Offset p.offset }
