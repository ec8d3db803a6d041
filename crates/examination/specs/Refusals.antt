-- How an examination's refusals are reported: the number, and the layer that refused. Assumes nothing.
use Rattle.keepers.specs.declared.refusal.Adds.TheVariants.{ExaminationLayer}
use Rattle.keepers.specs.declared.refusal.Refusal.{Refusal}
use Rattle.keepers.specs.Refusals.{keeper_refusal}
use Rattle.examination.specs.declared.fault.ExamFault.{ExamFault}
use Rattle.examination.specs.declared.fault.ExamFault.TheVariants.{Keeper, CountDiffers, RecordShort, ClassTooHigh, WordDiffers}

abbrev pub exam_refusal : ExamFault → Refusal
-- a keeper's fault keeps its number and its layer
exam_refusal (Keeper f) = keeper_refusal f
-- the keeper does not hold as many operations as were admitted
exam_refusal CountDiffers = record { number = 6; adds = ExaminationLayer }
-- the record has no place for what is to be done
exam_refusal RecordShort = record { number = 7; adds = ExaminationLayer }
-- a class over 15
exam_refusal ClassTooHigh = record { number = 8; adds = ExaminationLayer }
-- a read's word differs from its source's, or from the initial one
exam_refusal WordDiffers = record { number = 9; adds = ExaminationLayer }
