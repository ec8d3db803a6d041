use Rattle.std.proofs.Common.{refl}
use Rattle.worked.proofs.first_race.Goals as goal

pub returns : goal.returns
returns c = record {
  shown = refl;
  rows = record {
    a_closed = refl;
    a_0_3 = refl;
    a_3_0 = refl;
    a_2_2 = refl;
    a_0_4 = refl;
    b_closed = refl;
    d_unpaired = refl;
    d_partner = refl;
    empty_closed = refl;
    first_read_initial = refl;
    first_read_other = refl;
    first_read_number = refl;
    sync_writes_closed = refl;
    clock_room_2 = refl;
    clock_room_3 = refl;
    clock_room_8 = refl;
    clock_room_12291 = refl;
    arrow_room_numbers = refl;
    arrow_room_marks = refl;
    arrow_room_most = refl;
  };
}
