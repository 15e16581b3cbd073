-- Demand 3 holds of the drive. Assumes nothing.
use Rattle.belief.specs.Drive3.{Drive3}
use Rattle.belief.proofs.Keep.{free_without_lapse}
use Rattle.belief.proofs.Impostor.{kept_out}
use Rattle.belief.proofs.Heard.{own_heard, others_unheard}
use Rattle.belief.proofs.Instance.{others_change_nothing, demand_3}
use Rattle.belief.proofs.Histories.{not_empty, left_behind}
use Rattle.belief.proofs.Marked.{marked}
use Rattle.belief.proofs.Written.{written}

pub demand_three : Drive3
demand_three =
    record {
      demand_3 = demand_3;
      free_without_lapse = free_without_lapse;
      others_change_nothing = others_change_nothing;
      others_unheard = others_unheard;
      own_heard = own_heard;
      kept_out = kept_out;
      not_empty = not_empty;
      left_behind = left_behind;
      marked = marked;
      written = written;
    }
