-- `replay_line::named_call` meets its contract: the name is that of no row.
use Rattle.std.proofs.Common.{sym}
use Rattle.replay_line.specs.LineCalls.{other_rows, writer_rows, table}
use Rattle.replay_line.proofs.LineCallsLaws.{none_named}
use Rattle.replay_line.proofs.named_call.Goals as goal

pub returns-in_default : goal.returns-in_default
unfolding other_rows writer_rows
returns-in_default c =
    let not = c.in_default in
    record {
      so = sym (none_named _ _ table (not.not-take, (not.not-request, (not.not-cancel, (not.not-tick, (not.not-restore, (not.not-switch, (not.not-text, (not.not-led, (not.not-list, (not.not-store, (not.not-read, (not.not-frame, (not.not-mouse, (not.not-dump, tt)))))))))))))));
      within = tt;
    }
