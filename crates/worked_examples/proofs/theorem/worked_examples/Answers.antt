-- The examples compute.
use Rattle.worked_examples.proofs.Rowed.{sampling_rowed, chained_rowed}
use Rattle.worked_examples.proofs.Judging.{sampling_five, sampling_narrow, sampling_shallow, sampling_over_add, sampling_over_read_write, crossed_refused, chained_three, countdown_one, empty_one}
use Rattle.worked_examples.proofs.Running.{sampling_shaped, sampling_peeked, countdown_wrapped, countdown_clamped, nothing_taken}
use Rattle.worked_examples.proofs.Tenth.{every_tenth, first_ten}
use Rattle.worked_examples.proofs.theorem.worked_examples.Goals as goal

pub returns : goal.returns
returns c =
    record {
      sampling_lines_and_rows = sampling_rowed;
      sampling_takes_five_stages = sampling_five;
      sampling_takes_six_narrow_stages = sampling_narrow;
      sampling_does_not_fit_four_stages = sampling_shallow;
      sampling_is_not_taken_by_add = sampling_over_add;
      sampling_is_not_taken_by_choice_over_read_write = sampling_over_read_write;
      crossed_states_are_refused = crossed_refused;
      chained_states_have_three_rows = chained_rowed;
      chained_states_take_three_stages = chained_three;
      countdown_takes_one_stage = countdown_one;
      nothing_takes_one_stage = empty_one;
      sampling_plans_are_so_shaped = sampling_shaped;
      sampling_counts_at_its_second_stage = sampling_peeked;
      sampling_marks_the_tenth_of_ten_packets = first_ten;
      sampling_marks_every_tenth_packet = every_tenth;
      countdown_wraps = countdown_wrapped;
      countdown_clamps = countdown_clamped;
      nothing_has_no_lines = λ r x. x.exact.count;
      nothing_leaves_after_one_tick = nothing_taken;
    }
