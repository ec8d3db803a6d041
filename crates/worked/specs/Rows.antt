-- What the worked records come to. Assumes nothing.
use Rattle.std.specs.Prelude.{◌≡◌, true, false, [], Some, None, Ok, Err}
use Rattle.operations.specs.declared.kind.Kind.TheVariants.{DataRead}
use Rattle.clock.specs.Rows.{clock_room}
use Rattle.arrow.specs.Arrows.{arrow_room}
use Rattle.examination.specs.declared.fault.ExamFault.TheVariants.{WordDiffers}
use Rattle.examination.specs.Closing.{race_free, racy}
use Rattle.examination.specs.Refusals.{exam_refusal}
use Rattle.worked.specs.Records.{op, closed, ordered, next, paired, record_a, record_b, record_d, late_acquire, two_writes}

pub record Rows : Type 0 where
  pub a_closed : closed 5 record_a ≡ race_free 5
  pub a_0_3 : ordered 5 record_a 0 3 ≡ Ok true
  pub a_3_0 : ordered 5 record_a 3 0 ≡ Ok false
  pub a_2_2 : ordered 5 record_a 2 2 ≡ Ok false
  pub a_0_4 : ordered 5 record_a 0 4 ≡ Ok false
  pub b_closed : closed 4 record_b ≡ racy 4 1 (0, 3)
  pub d_unpaired : paired 3 record_d late_acquire ≡ None
  pub d_partner : next 3 record_d late_acquire ≡ Ok (record { number = 2; partner = Some 1 })
  pub empty_closed : closed 0 [] ≡ race_free 0
  pub first_read_initial : next 1 [] (op 0 DataRead 0 4 0) ≡ Ok (record { number = 0; partner = None })
  pub first_read_other : next 1 [] (op 0 DataRead 0 4 1) ≡ Err WordDiffers
  pub first_read_number : (exam_refusal WordDiffers).number ≡ 9
  pub sync_writes_closed : closed 2 two_writes ≡ race_free 2
  pub clock_room_2 : clock_room 2 2 ≡ 0
  pub clock_room_3 : clock_room 2 3 ≡ 1
  pub clock_room_8 : clock_room 2 8 ≡ 2
  pub clock_room_12291 : clock_room 2 12291 ≡ 4096
  pub arrow_room_numbers : arrow_room 7 8 ≡ 3
  pub arrow_room_marks : arrow_room 9 2 ≡ 2
  pub arrow_room_most : arrow_room 9000 5000 ≡ 4096
