-- Document 01, "What the console part does": reading, writing and movement without a station, as the functions of crate `blotterfinch` were proved to ensure it, which crate `blotterfinch_c` exports to C with the same contracts. Each field cites a contract itself.
use Rattle.std.specs.Prelude.{ℕ, ◌≡◌, List}
use Rattle.report.specs.Reading.{read_rule}
use Rattle.frame.specs.Writing.{request_frame_rule, switch_rule, get_paired_rule, led_rule}
use Rattle.mouse.specs.Movement.{mouse_rule}
use Rattle.blotterfinch.specs.declared.Report.{Report}
use Rattle.blotterfinch.specs.declared.Written.{Written}
use Rattle.blotterfinch.specs.declared.Movement.{Movement}
use Rattle.blotterfinch.specs.CContracts.{c_report, c_outcome, c_ended, c_movement}
use Rattle.blotterfinch.proofs.blotterfinch_read.Reads as read_reads
use Rattle.blotterfinch.proofs.blotterfinch_request_frame.Reads as request_reads
use Rattle.blotterfinch.proofs.blotterfinch_switch_frame.Reads as switch_reads
use Rattle.blotterfinch.proofs.blotterfinch_get_paired_frame.Reads as get_paired_reads
use Rattle.blotterfinch.proofs.blotterfinch_led_frame.Reads as led_reads
use Rattle.blotterfinch.proofs.blotterfinch_mouse.Reads as mouse_reads
use Rattle.sequence.specs.Histories.{LentBytes, LentBuffer}

pub record WithoutStation : Type 0 where
  -- reading gives refusals 1 to 6, or bytes 0 to 3 and the parameters' start and length
  pub read : (κ : List ℕ) (bytes : LentBytes) (r : Report) → read_reads.Learnt (κ, tt) (bytes, tt) r (bytes, tt) → r ≡ c_report (read_rule bytes.now)
  -- writing gives 5, 9, 10 and 14, or the frame in its place
  pub request : (κ κ' : List ℕ) (device byte2 byte3 : ℕ) (params : LentBytes) (buffer after : LentBuffer) (offset : ℕ) (r : Written) → request_reads.Learnt (κ, (κ', tt)) (device, (byte2, (byte3, (params, (buffer, (offset, tt)))))) r (device, (byte2, (byte3, (params, (after, (offset, tt)))))) → c_ended r after.now ≡ c_outcome (request_frame_rule device byte2 byte3 params.now offset buffer.now)
  pub switch : (κ : List ℕ) (bits timeout : ℕ) (buffer after : LentBuffer) (offset : ℕ) (r : Written) → switch_reads.Learnt (κ, tt) (bits, (timeout, (buffer, (offset, tt)))) r (bits, (timeout, (after, (offset, tt)))) → c_ended r after.now ≡ c_outcome (switch_rule bits timeout offset buffer.now)
  pub get_paired : (κ : List ℕ) (buffer after : LentBuffer) (offset : ℕ) (r : Written) → get_paired_reads.Learnt (κ, tt) (buffer, (offset, tt)) r (after, (offset, tt)) → c_ended r after.now ≡ c_outcome (get_paired_rule offset buffer.now)
  pub led : (κ : List ℕ) (device leds : ℕ) (buffer after : LentBuffer) (offset : ℕ) (r : Written) → led_reads.Learnt (κ, tt) (device, (leds, (buffer, (offset, tt)))) r (device, (leds, (after, (offset, tt)))) → c_ended r after.now ≡ c_outcome (led_rule device leds offset buffer.now)
  -- movement gives 3, or buttons, X, Y, wheel and pan
  pub mouse : (κ : List ℕ) (payload : LentBytes) (r : Movement) → mouse_reads.Learnt (κ, tt) (payload, tt) r (payload, tt) → r ≡ c_movement (mouse_rule payload.now)
